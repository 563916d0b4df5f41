-- An end that is to leave its link for its host, or for a key that lacks, asks for no key any more: a link that is to end is
-- not open again.
use Rattle.std.proofs.Common.{◌≡◌, ℕ, ◌&&◌, not, Bool, true, false, Option, Some, None, is_none, is_some, List, [], ◌∷◌, fold, Ok, Err, refl, sym, ap, subst, ◌∙◌, if◌then◌else◌}
use Rattle.std.proofs.lemmas.Bool.{and_parts}
use Rattle.ble_base.specs.ErrorCodes.{mic_failure, pin_or_key_missing}
use Rattle.ble_base.specs.declared.error_codes.ErrCode.{ErrCode}
use Rattle.data_pdu.specs.Header.{header_in}
use Rattle.data_pdu.specs.declared.ctrl.Ctrl.{Ctrl}
use Rattle.data_pdu.specs.declared.ctrl.Ctrl.TheVariants.{TerminateInd}
use Rattle.journal_controls.specs.link_model.Acknowledgement.{Pdu}
use Rattle.journal_controls.specs.link_model.Controls.{goes_on, is_procedure_pdu}
use Rattle.journal_controls.specs.link_model.Data.{is_control, is_data}
use Rattle.journal_controls.specs.link_model.End.{facts_after, facts_of}
use Rattle.journal_controls.specs.link_model.Facts.{Facts, first_facts, keyed_of}
use Rattle.journal_controls.specs.link_model.Fixing.{fixed_anew}
use Rattle.journal_controls.specs.link_model.Hosts.{asked_unless, ends_without_key, is_key_awaited, is_to_come, leaving_from_if}
use Rattle.journal_controls.specs.link_model.KeyedSteps.{is_forged_in_step, keyed_steps_in}
use Rattle.journal_controls.specs.link_model.Packets.{good_pdu, is_forged}
use Rattle.journal_controls.specs.link_model.Receiving.{accepted_if, accepts, acknowledged_if, answers_with_control, code_of, ended_by_forgery, facts_before_taking, facts_received, has_acknowledged, heard_in_slot, leaving_by, procedures_give, procedures_take_if}
use Rattle.journal_controls.specs.link_model.Setup.{Setup}
use Rattle.journal_controls.specs.link_model.Step.{Step, DataGiven, DataReported, Disconnected, EventEntered, KeyAnswered, PacketReceived, PacketSent, PduFixed, ProcedureAsked, RequestAnswered, WordsGiven}
use Rattle.journal_controls.specs.link_model.Verdicts.{pdu_of}
use Rattle.journal_controls.specs.link_model.control_model.Control.{Control, ended, table_if}
use Rattle.journal_controls.specs.link_model.declared.state.Leaving.{Leaving}
use Rattle.journal_controls.specs.link_model.enc_phase.Phases.{may_follow}
use Rattle.journal_controls.specs.link_model.enc_phase.declared.facts.Transition.TheVariants.{Refuse}
use Rattle.journal_controls.specs.link_model.keyed_control.Keyed.{Keyed}
use Rattle.journal_controls.specs.link_model.keyed_control.KeyedSteps.{KeyedStep, LacksKey, keyed_after, keyed_after_all, keyed_moved, phased_steps}
use Rattle.journal_controls.specs.link_model.phased_control.Calls.{all_phased_calls}
use Rattle.journal_controls.specs.link_model.phased_control.Phased.{Phased, is_open_now, key_lacking, refused_if}
use Rattle.journal_controls.specs.link_model.procedure_stages.Closing.{closed, is_open}
use Rattle.journal_controls.specs.link_model.procedure_stages.Steps.{closing_after}
use Rattle.journal_controls.specs.link_model.procedure_stages.declared.closing.Closing.{Closing}
use Rattle.journal_controls.specs.link_model.procedure_stages.declared.closing.Closing.TheVariants.{Closed, Disconnecting, Open}
use Rattle.journal_controls.specs.link_model.procedure_stages.declared.steps.Effect.{Effect}
use Rattle.journal_controls.specs.link_model.procedure_stages.declared.steps.Effect.TheVariants.{PeerEnds}
use Rattle.journal_controls.specs.link_model.procedure_stages.declared.steps.Step.{Step as StageStep}
use Rattle.journal_controls.specs.link_model.procedure_values.declared.asks.Ask.{Ask}
use Rattle.journal_controls.specs.link_model.procedure_values.declared.asks.Ask.TheVariants.{Update}
use Rattle.journal_controls.specs.link_model.procedures.Beginning.{ask_at, begin_at, place_to_begin}
use Rattle.journal_controls.specs.link_model.procedures.Calls.{Call, after_call, after_calls, asks, begins_one, disconnects, enters, host_answers, is_acked, is_given, sends, takes}
use Rattle.journal_controls.specs.link_model.procedures.Going.{closing_given, granted_by, owe_step, terminate_step}
use Rattle.journal_controls.specs.link_model.procedures.Table.{TableFacts}
use Rattle.journal_controls.specs.link_model.procedures.declared.outcome.Outcome.{Outcome}
use Rattle.journal_controls.specs.link_model.procedures.Taking.{facts_with, lacks_room, no_room, outcome_of, settled}
use Rattle.journal_controls.proofs.link_model.Ending.{entered_stays as entered_leaving, gone_stays as gone_leaving}
use Rattle.journal_controls.proofs.link_model.KeyedPasts.{over, past_in_phase}
use Rattle.journal_controls.proofs.link_model.KeyedSteps.{forged_ends, one_step}
use Rattle.journal_controls.proofs.link_model.KnownEnds.{IsPast, first_past, step_past}
use Rattle.journal_controls.proofs.link_model.phased_end.keyed_control.Phases.{phased_all}
use Rattle.journal_controls.proofs.link_model.phased_end.keyed_control.phased_control.Calling.{makes_all_phased}
use Rattle.journal_leaving.proofs.EndLeaving.{data_leaving, forged_leaving, sent_leaving}

-- ---- no call opens a link again that is to end

effect_closed : (effect : Effect) (closing : Closing) → is_open closing ≡ false → is_open (closing_after effect closing) ≡ false
effect_closed (PeerEnds code) Open is = refl
effect_closed (PeerEnds code) Closed is = refl
effect_closed (PeerEnds code) Disconnecting is = refl
effect_closed effect closing is = is

given_closed : (ctrl : Ctrl) (closing : Closing) → is_open closing ≡ false → is_open (closing_given ctrl closing) ≡ false
given_closed (TerminateInd code) Open is = refl
given_closed (TerminateInd code) Closed is = refl
given_closed (TerminateInd code) Disconnecting is = refl
given_closed ctrl closing is = is

begun_closed : (f : TableFacts) (slot : ℕ) (place : Option ℕ) (ask : Option Ask) → is_open f.closing ≡ false → is_open (begin_at f slot place ask).0.closing ≡ false
begun_closed f slot (Some place) (Some ask) is = is
begun_closed f slot (Some place) None is = is
begun_closed f slot None ask is = is

settled_closed : (f : TableFacts) (slot : ℕ) (outcome : Outcome) → is_open f.closing ≡ false → is_open (settled f slot outcome).0.closing ≡ false
settled_closed f slot outcome is = by (lacks_room f outcome) (is_some outcome.step.ends)
  where
    by : (lacks ends : Bool)
        → let both : TableFacts × StageStep = if lacks then (f, no_room) else (if ends then (f, outcome.step) else (facts_with f slot outcome, outcome.step)) in
        is_open both.0.closing ≡ false
    by true ends = is
    by false true = is
    by false false = effect_closed outcome.step.effect f.closing is

granted_closed : (f : TableFacts) (ask : Ask) → is_open f.closing ≡ false → is_open (granted_by f ask).closing ≡ false
granted_closed f (Update interval latency timeout) is = is
granted_closed f ask is = is

call_closed : (f : TableFacts) (call : Call) → is_open f.closing ≡ false → is_open (after_call f call).closing ≡ false
call_closed f (asks ask) is = is
call_closed f (begins_one slot quiet) is = begun_closed f slot (place_to_begin f quiet) (ask_at (place_to_begin f quiet) f.wanted) is
call_closed f (takes read slot quiet) is = settled_closed f slot (outcome_of f quiet read) is
call_closed f (sends event skips quiet slot) is = is
call_closed f is_acked is = is
call_closed f (enters true) is = is
call_closed f (enters false) is = is
call_closed f (host_answers (Ok ask)) is = granted_closed f ask is
call_closed f (host_answers (Err code)) is = is
call_closed f (disconnects reason) is = refl
call_closed f (is_given ctrl) is = given_closed ctrl f.closing is

calls_closed : (calls : List Call) (f : TableFacts) → is_open f.closing ≡ false → is_open (after_calls f calls).closing ≡ false
calls_closed [] f is = is
calls_closed (call ∷ calls) f is = calls_closed calls (after_call f call) (call_closed f call is)

steps_closed : (steps : List KeyedStep) (k : Keyed) → is_open_now k.phased ≡ false → is_open_now (keyed_after_all steps k).phased ≡ false
steps_closed steps k is =
    ap (λ (s : Phased). is_open_now s) (phased_all steps k)
    ∙ ap (λ (f : TableFacts). is_open f.closing) (makes_all_phased (phased_steps steps) k.phased)
    ∙ calls_closed (all_phased_calls (phased_steps steps) k.phased) k.phased.control.table is

-- ---- what is kept of an end that goes on

record IsClosing (facts : Facts) : Type 0 where
  closes : goes_on facts ≡ true → is_some facts.leaving.disconnected ≡ true → is_open facts.control.table.closing ≡ false

forged_over : (c : Control) → is_none (ended_by_forgery c).ends ≡ true → ⊥
forged_over c goes = by (is_none c.ends) refl goes
  where
    by : (lasts : Bool) → is_none c.ends ≡ lasts → is_none (if lasts then ended (record { 0 = mic_failure }) c else c).ends ≡ true → ⊥
    by true is h = absurd cc
    by false is h = absurd (let g : false ≡ true = sym is ∙ h in absurd cc)

-- ---- an end in one step

-- all but two steps leave the slot from which it is to leave its link
take_leaving : (takes : Bool) (pdu : Pdu) (slot : ℕ) (facts : Facts) → (procedures_take_if takes pdu slot facts).leaving.disconnected ≡ facts.leaving.disconnected
take_leaving true pdu slot facts = by (code_of (procedures_give pdu slot facts).effect)
  where
    by : (code : Option ErrCode) → (leaving_by code facts.leaving).disconnected ≡ facts.leaving.disconnected
    by None = refl
    by (Some code) = refl
take_leaving false pdu slot facts = refl

module _ (setup : Setup) (slot : ℕ) (room : Bool) (facts : Facts) where
  received_from : (may : Option (List ℕ)) → (facts_received setup.link.role slot room may facts).leaving.disconnected ≡ facts.leaving.disconnected
  received_from None = refl
  received_from (Some octets) =
      let header = header_in octets in
      let pdu = pdu_of octets in
      let own = acknowledged_if (has_acknowledged facts header) (heard_in_slot slot header.md facts) in
      let now = facts_before_taking setup.link.role slot header facts in
      let accepted = accepts room header pdu now in
      let taken = procedures_take_if (accepted && is_procedure_pdu pdu) pdu slot (accepted_if accepted pdu now) in
      ap (λ (l : Leaving). l.disconnected) (data_leaving (accepted && is_data pdu) taken)
      ∙ take_leaving (accepted && is_procedure_pdu pdu) pdu slot (accepted_if accepted pdu now)
      ∙ ap (λ (l : Leaving). l.disconnected) (gone_leaving (answers_with_control setup.link.role own) slot own)

abbrev sets_slot : Step → Bool
sets_slot (Disconnected reason slot) = true
sets_slot (KeyAnswered key slot) = true
sets_slot step = false

same_slot : (setup : Setup) (facts : Facts) (step : Step) → sets_slot step ≡ false → (facts_after setup facts step).leaving.disconnected ≡ facts.leaving.disconnected
same_slot setup facts (DataGiven start body) none = refl
same_slot setup facts (ProcedureAsked ask) none = by (is_to_come ask facts)
  where
    by : (comes : Bool) → (asked_unless comes ask facts).leaving.disconnected ≡ facts.leaving.disconnected
    by true = refl
    by false = refl
same_slot setup facts (RequestAnswered answer) none = refl
same_slot setup facts (KeyAnswered key slot) none = absurd cc
same_slot setup facts (Disconnected reason slot) none = absurd cc
same_slot setup facts (EventEntered slot) none = ap (λ (l : Leaving). l.disconnected) (entered_leaving (goes_on facts) setup slot facts)
same_slot setup facts PduFixed none = by (is_control facts.outgoing.fixed)
  where
    by : (fixed : Bool) → (if fixed then facts else fixed_anew facts).leaving.disconnected ≡ facts.leaving.disconnected
    by true = refl
    by false = refl
same_slot setup facts (PacketSent slot) none = ap (λ (l : Leaving). l.disconnected) (sent_leaving slot setup facts)
same_slot setup facts (WordsGiven skd_s iv_s) none = refl
same_slot setup facts (PacketReceived slot octets room) none =
    ap (λ (l : Leaving). l.disconnected) (forged_leaving (is_forged setup facts octets) (facts_received setup.link.role slot room (good_pdu setup facts octets) facts))
    ∙ received_from setup slot room facts (good_pdu setup facts octets)
same_slot setup facts DataReported none = refl

-- its host ends the link
host_closes : (reason : ErrCode) (c : Control) (goes : Bool) → goes ≡ true → is_open (if goes then table_if (is_open c.table.closing) (terminate_step c.table reason) c else c).table.closing ≡ false
host_closes reason c false goes = absurd cc
host_closes reason c true goes = by (is_open c.table.closing) refl
  where
    by : (opens : Bool) → is_open c.table.closing ≡ opens → is_open (table_if opens (terminate_step c.table reason) c).table.closing ≡ false
    by true is = refl
    by false is = is

-- its host lacks a key after a pause
none_open : (closing : Closing) → is_open (closed closing) ≡ false
none_open Open = refl
none_open Closed = refl
none_open Disconnecting = refl

lacks_closes : (s : Phased) → is_none s.control.ends ≡ true → is_open_now (refused_if false s) ≡ false
lacks_closes s goes =
    let c = s.control in
    ap (λ b. is_open (if b then record c { table = owe_step c.table (TerminateInd pin_or_key_missing) } else c).table.closing) goes
    ∙ none_open c.table.closing

not_true : (b : Bool) → not b ≡ true → b ≡ false
not_true true is = absurd cc
not_true false is = refl

record IsWithout (k : Keyed) : Type 0 where
  goes : is_none k.phased.control.ends ≡ true
  asks : (k.phased.asks_key && is_open_now k.phased) ≡ true
  may : may_follow Refuse k.phased.phase ≡ false

without_key : (facts : Facts) → ends_without_key None facts ≡ true → IsWithout (keyed_of facts)
without_key facts is =
    let s = (keyed_of facts).phased in
    let both = and_parts (is_key_awaited facts) (not (may_follow Refuse facts.encryption.phase)) is in
    let awaits = and_parts (is_none s.control.ends) (s.asks_key && is_open_now s) both.0 in
    record { goes = awaits.0; asks = awaits.1; may = not_true (may_follow Refuse facts.encryption.phase) both.1 }

key_closes : (k : Keyed) → IsWithout k → is_open_now (keyed_after LacksKey k).phased ≡ false
key_closes k is =
    let s = k.phased in
    ap (λ b. is_open_now (if b then keyed_moved LacksKey k else k).phased) is.goes
    ∙ ap (λ b. is_open_now (if b then key_lacking s else s)) is.asks
    ∙ ap (λ b. is_open_now (refused_if b s)) is.may ∙ lacks_closes s is.goes

module _ (setup : Setup) (facts : Facts) (step : Step) (is : IsClosing facts) where
  abbrev now : List KeyedStep
  now = keyed_steps_in setup facts step

  abbrev later : Facts
  later = facts_after setup facts step

  -- it went on before, and once it was to end it is
  module _ (moves : keyed_of later ≡ keyed_after_all now (keyed_of facts)) (goes : goes_on later ≡ true) where
    went : goes_on facts ≡ true
    went = by facts.control.ends refl
      where
        by : (ends : Option ErrCode) → facts.control.ends ≡ ends → is_none ends ≡ true
        by None none = refl
        by (Some code) some =
            let after : later.control.ends ≡ Some code =
            ap (λ (k : Keyed). k.phased.control.ends) moves ∙ ap (λ (s : Phased). s.control.ends) (over now (keyed_of facts) code some).phased ∙ some in
            absurd (let h : false ≡ true = sym (ap (λ (ends : Option ErrCode). is_none ends) after) ∙ goes in absurd cc)

    closed_before : is_some facts.leaving.disconnected ≡ true → is_open later.control.table.closing ≡ false
    closed_before from = ap (λ (k : Keyed). is_open_now k.phased) moves ∙ steps_closed now (keyed_of facts) (is.closes went from)

by_step : (setup : Setup) (facts : Facts) (step : Step) → IsClosing facts → keyed_of (facts_after setup facts step) ≡ keyed_after_all (keyed_steps_in setup facts step) (keyed_of facts)
    → goes_on (facts_after setup facts step) ≡ true → is_some (facts_after setup facts step).leaving.disconnected ≡ true
    → is_open (facts_after setup facts step).control.table.closing ≡ false
by_step setup facts (Disconnected reason slot) is moves goes from =
    host_closes reason facts.control (goes_on facts) (went setup facts (Disconnected reason slot) is moves goes)
by_step setup facts (KeyAnswered (Some ltk) slot) is moves goes from = closed_before setup facts (KeyAnswered (Some ltk) slot) is moves goes from
by_step setup facts (KeyAnswered None slot) is moves goes from = by (ends_without_key None facts) refl from
  where
    by : (leaves : Bool) → ends_without_key None facts ≡ leaves → is_some (leaving_from_if leaves slot facts.leaving).disconnected ≡ true
        → is_open (facts_after setup facts (KeyAnswered None slot)).control.table.closing ≡ false
    by true leaves from_now = key_closes (keyed_of facts) (without_key facts leaves)
    by false leaves from_now = closed_before setup facts (KeyAnswered None slot) is moves goes from_now
by_step setup facts step is moves goes from =
    closed_before setup facts step is moves goes (ap is_some (sym (same_slot setup facts step refl)) ∙ from)

closing_step : (setup : Setup) (facts : Facts) (step : Step) → IsPast setup facts → IsClosing facts → IsClosing (facts_after setup facts step)
closing_step setup facts step p is = by (is_forged_in_step setup facts step) refl
  where
    in_phase : facts.encryption.end.phase ≡ facts.encryption.phase
    in_phase = subst (λ (f : Facts). f.encryption.end.phase ≡ f.encryption.phase) (sym p.is) (past_in_phase setup p.past)

    by : (forged : Bool) → is_forged_in_step setup facts step ≡ forged → IsClosing (facts_after setup facts step)
    by true forged = record {
      closes = λ goes from. absurd (forged_over facts.control (ap (λ (f : Facts). goes_on f) (sym (forged_ends setup facts step forged)) ∙ goes));
    }
    by false genuine = record { closes = λ goes from. by_step setup facts step is (one_step setup facts step in_phase genuine) goes from }

-- ---- any end

all_closing : (setup : Setup) (steps : List Step) (facts : Facts) → IsPast setup facts → IsClosing facts → IsClosing (fold (facts_after setup) facts steps)
all_closing setup [] facts p is = is
all_closing setup (step ∷ steps) facts p is = all_closing setup steps (facts_after setup facts step) (step_past setup facts step p) (closing_step setup facts step p is)

past_closing : (setup : Setup) (past : List Step) → IsClosing (facts_of setup past)
unfolding facts_of
past_closing setup past = all_closing setup past (first_facts setup) (first_past setup) (record { closes = λ goes from. absurd cc })

-- an end that ends its link for a key that lacks was not to leave it before
pub not_leaving : (setup : Setup) (past : List Step) → let facts = facts_of setup past in ends_without_key None facts ≡ true → facts.leaving.disconnected ≡ None
not_leaving setup past is = by (facts_of setup past).leaving.disconnected refl
  where
    by : (since : Option ℕ) → (facts_of setup past).leaving.disconnected ≡ since → since ≡ None
    by None none = refl
    by (Some slot) some =
        let facts = facts_of setup past in
        let s = (keyed_of facts).phased in
        let without = without_key facts is in
        let opens = (and_parts s.asks_key (is_open_now s) without.asks).1 in
        let shuts = (past_closing setup past).closes without.goes (ap is_some some) in
        absurd (let h : false ≡ true = sym shuts ∙ opens in absurd cc)
