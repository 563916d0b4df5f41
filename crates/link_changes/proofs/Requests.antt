-- The LL_ENC_REQ that a central has in hand, and what a peripheral keeps, in all phases of encryption.
use Rattle.std.proofs.Common.{◌≡◌, ℕ, Bool, true, false, ◌&&◌, if◌then◌else◌, List, [], ◌∷◌, Option, Some, None, is_none, refl, sym, ap, subst, ◌∙◌}
use Rattle.std.specs.Prelude.{⊤}
use Rattle.ble_base.specs.ErrorCodes.{mic_failure}
use Rattle.ble_base.specs.declared.roles.Role.{Role}
use Rattle.ble_base.specs.declared.roles.Role.TheVariants.{Peripheral}
use Rattle.data_pdu.specs.declared.ctrl.Ctrl.{Ctrl}
use Rattle.data_pdu.specs.declared.header.DataHeader.{DataHeader}
use Rattle.link_model.specs.enc_phase.declared.classes.PduClass.TheVariants.{Data}
use Rattle.link_model.specs.enc_phase.declared.facts.Transition.TheVariants.{Ask as ask_transition}
use Rattle.link_model.specs.enc_phase.Phases.{phase_after}
use Rattle.link_model.specs.enc_phase.Taking.{allows}
use Rattle.link_model.specs.procedure_values.declared.asks.Ask.{Ask}
use Rattle.link_model.specs.procedure_values.declared.asks.Ask.TheVariants.{Encrypt}
use Rattle.link_model.specs.procedures.Beginning.{begin_step}
use Rattle.link_model.specs.control_model.Control.{Enters as control_enters, SeesAcknowledged as control_sees_acknowledged, Sends as control_sends}
use Rattle.link_model.specs.keyed_control.Keyed.{Keyed}
use Rattle.link_model.specs.keyed_control.KeyedSteps.{SeesAcknowledged as KeyedSees, keyed_moved, phased_steps}
use Rattle.link_model.specs.phased_control.Phased.{Phased, ask_begun, asking_if, asks_again, encrypting_if, is_encrypt, is_open_now, is_quiet_now, key_given, key_lacking, request_of, table_entered, with_owed_if, with_step}
use Rattle.link_model.specs.phased_control.Taken.{PhasedStep, Answers, Asks, Disconnects, Enters, GivesKey, LacksKey, SeesAcknowledged, Sends, Takes, TakesData, ended_with, phased_after, phased_after_all, phased_moved, role_now}
use Rattle.link_model.specs.Acknowledgement.{Pdu}
use Rattle.link_model.specs.Controls.{goes_on, is_quiet_now as facts_quiet}
use Rattle.link_model.specs.End.{facts_of}
use Rattle.link_model.specs.Facts.{Facts, keyed_of}
use Rattle.link_model.specs.KeyedSteps.{keyed_steps_of}
use Rattle.link_model.specs.Receiving.{accepted_if, acknowledged_if, acks_control, answers_with_control, facts_before_taking, has_acknowledged, heard_in_slot, keyed_acked_if}
use Rattle.link_model.specs.Sending.{control_gone_if}
use Rattle.link_model.specs.Setup.{Setup, first_anchor, first_params}
use Rattle.link_model.specs.Step.{Step}
use Rattle.link_model.proofs.phased_end.keyed_control.Phases.{moves}
use Rattle.link_model.proofs.phased_end.keyed_control.phased_control.Kept.{tied_now}
use Rattle.link_model.proofs.phased_end.keyed_control.phased_control.Requesting.{request_asking, request_encrypting, request_if, request_lacking, request_took}
use Rattle.link_model.proofs.KeyedPasts.{past_goes}
use Rattle.link_changes.proofs.Readable.{IsOwed}
use Rattle.link_changes.proofs.Reached.{lasted}

-- nothing is owed, or a PDU of an encryption
abbrev pub AreOwed : Option Ctrl → Type 0
AreOwed None = ⊤
AreOwed (Some ctrl) = IsOwed ctrl

-- what an end has in hand as it goes on
pub record IsOrderly (role : Role) (facts : Facts) : Type 0 where
  pub kept : role ≡ Peripheral → facts.encryption.kept ≡ None
  pub request : AreOwed facts.encryption.request

-- ---- it is one of an encryption

pub asked_owed : (asked : Option Ask) → AreOwed (request_of asked)
asked_owed (Some (Encrypt rand ediv ltk skd_m iv_m)) = tt
asked_owed (Some ask) = tt
asked_owed None = tt

entered_owed : (b : Bool) (asked : Option Ask) (s : Phased) → AreOwed s.request → AreOwed (encrypting_if b (request_of asked) s).request
entered_owed true asked s are = subst AreOwed (sym (request_encrypting s.phase (record s { request = request_of asked }))) (asked_owed asked)
entered_owed false asked s are = are

moved_owed : (step : PhasedStep) (s : Phased) → AreOwed s.request → AreOwed (phased_moved step s).request
moved_owed (Enters slot) s are =
    entered_owed (is_encrypt (begin_step (table_entered s) slot (is_quiet_now s)).1) (ask_begun (table_entered s) (is_quiet_now s))
    (with_step (control_enters slot (is_quiet_now s)) s) are
moved_owed (Asks ask) s are = are
moved_owed (Answers answer) s are = are
moved_owed GivesKey s are = subst AreOwed (sym (request_if (s.asks_key && is_open_now s) s (key_given s) refl)) are
moved_owed LacksKey s are = subst AreOwed (sym (request_if (s.asks_key && is_open_now s) s (key_lacking s) (request_lacking s))) are
moved_owed (Disconnects reason) s are = are
moved_owed (Sends slot) s are = are
moved_owed SeesAcknowledged s are = subst AreOwed (sym (request_asking (asks_again s) (with_step control_sees_acknowledged s))) are
moved_owed (Takes read slot response) s are = subst AreOwed (sym (request_took slot response read s)) are
moved_owed TakesData s are = by (allows s.phase (role_now s) Data)
  where
    by : (b : Bool) → AreOwed (if b then s else ended_with mic_failure s).request
    by true = are
    by false = are

all_owed : (steps : List PhasedStep) (s : Phased) → AreOwed s.request → AreOwed (phased_after_all steps s).request
all_owed [] s are = are
all_owed (step ∷ steps) s are = all_owed steps (phased_after step s) (by (is_none s.control.ends))
  where
    by : (b : Bool) → AreOwed (if b then phased_moved step s else s).request
    by true = moved_owed step s are
    by false = are

-- ---- as a packet is received, before its PDU is taken

owed_hand : (request : Option Ctrl) (s : Phased) → ((with_owed_if request s).kept ≡ s.kept) × ((with_owed_if request s).request ≡ s.request)
owed_hand None s = (refl, refl)
owed_hand (Some ctrl) s = (refl, refl)

asking_hand : (b : Bool) (s : Phased) → ((asking_if b s).kept ≡ s.kept) × ((asking_if b s).request ≡ s.request)
asking_hand true s = owed_hand s.request (record s { phase = phase_after ask_transition s.phase })
asking_hand false s = (refl, refl)

-- an end that goes on has in hand what it had, and went on before
record IsHand (k later : Keyed) : Type 0 where
  kept : later.phased.kept ≡ k.phased.kept
  request : later.phased.request ≡ k.phased.request
  goes : is_none later.phased.control.ends ≡ true → is_none k.phased.control.ends ≡ true

acked_hand : (acked : Bool) (k : Keyed) → IsHand k (keyed_acked_if acked k)
acked_hand false k = record { kept = refl; request = refl; goes = λ goes. goes }
acked_hand true k = by (is_none k.phased.control.ends) refl
  where
    by : (b : Bool) → is_none k.phased.control.ends ≡ b → IsHand k (if b then keyed_moved KeyedSees k else k)
    by true is =
        let same = asking_hand (asks_again k.phased) (with_step control_sees_acknowledged k.phased) in
        record { kept = same.0; request = same.1; goes = λ goes. is }
    by false is = record { kept = refl; request = refl; goes = λ goes. goes }

gone_hand : (gone : Bool) (slot : ℕ) (facts : Facts) → IsHand (keyed_of facts) (keyed_of (control_gone_if gone slot facts))
gone_hand true slot facts =
    record { kept = refl; request = refl; goes = λ goes. lasted (control_sends slot (facts_quiet facts)) facts.control goes }
gone_hand false slot facts = record { kept = refl; request = refl; goes = λ goes. goes }

abbrev pub Orderly : Role → Facts → Type 0
Orderly role facts = goes_on facts ≡ true → IsOrderly role facts

pub orderly_heard : (role of : Role) (slot : ℕ) (header : DataHeader) (accepted : Bool) (pdu : Pdu) (facts : Facts) → Orderly of facts
    → Orderly of (accepted_if accepted pdu (facts_before_taking role slot header facts))
orderly_heard role of slot header accepted pdu facts orderly goes =
    let own = acknowledged_if (has_acknowledged facts header) (heard_in_slot slot header.md facts) in
    let one = acked_hand (acks_control (has_acknowledged facts header) facts) (keyed_of facts) in
    let two = gone_hand (answers_with_control role own) slot own in
    let was = orderly (one.goes (two.goes goes)) in
    record {
      kept = λ at. two.kept ∙ one.kept ∙ was.kept at;
      request = subst AreOwed (sym (two.request ∙ one.request)) was.request;
    }

-- ---- every past

pub past_orderly : (setup : Setup) (past : List Step) → goes_on (facts_of setup past) ≡ true → IsOrderly setup.link.role (facts_of setup past)
past_orderly setup past goes =
    let role = setup.link.role in
    let steps = keyed_steps_of setup past in
    let first = first_params setup.link.fields in
    let anchor = first_anchor setup in
    let is = ap (λ (k : Keyed). k.phased) (past_goes setup past goes) ∙ moves role setup.link.max_rx first anchor steps in
    record {
      kept = λ at. ap (λ (s : Phased). s.kept) is ∙ (tied_now role setup.link.max_rx first anchor (phased_steps steps)).none at;
      request = subst (λ (s : Phased). AreOwed s.request) (sym is) (all_owed (phased_steps steps) _ tt);
    }
