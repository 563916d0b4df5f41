-- A central never has a control PDU fixed that has left the queue: as it is sent, it is made.
use Rattle.std.proofs.Common.{◌≡◌, ℕ, ◌==◌, ◌&&◌, Bool, true, false, Option, Some, None, List, [], ◌∷◌, is_some, refl, ap, ◌∙◌, fold, if◌then◌else◌}
use Rattle.ble_base.specs.declared.roles.Role.TheVariants.{Central}
use Rattle.data_pdu.specs.Header.{header_in}
use Rattle.data_pdu.specs.declared.header.DataHeader.{DataHeader}
use Rattle.journal_ends.specs.link_model.Acknowledgement.{Pdu, is_acked}
use Rattle.journal_ends.specs.link_model.Controls.{goes_on, is_procedure_pdu, is_quiet_now, next_control}
use Rattle.journal_ends.specs.link_model.Data.{Data, is_control, is_data, next_piece, pdu_with}
use Rattle.journal_ends.specs.link_model.End.{facts_after, facts_of}
use Rattle.journal_ends.specs.link_model.Entering.{facts_entered_if}
use Rattle.journal_ends.specs.link_model.Facts.{Facts, first_facts}
use Rattle.journal_ends.specs.link_model.Fixing.{data_cut, data_fixed_by, data_goes, fixed_anew}
use Rattle.journal_ends.specs.link_model.Hosts.{asked_unless, is_to_come}
use Rattle.journal_ends.specs.link_model.Packets.{good_pdu, is_forged}
use Rattle.journal_ends.specs.link_model.Payload.{payload_made}
use Rattle.journal_ends.specs.link_model.Receiving.{accepted_if, accepts, data_taken_if, facts_before_taking, facts_forged_if, facts_hearing, facts_received, has_acknowledged, procedures_take_if}
use Rattle.journal_ends.specs.link_model.Sending.{control_gone_if, data_sent_as, facts_sent, takes_leave}
use Rattle.journal_ends.specs.link_model.Setup.{Setup}
use Rattle.journal_ends.specs.link_model.Step.{Step, DataGiven, DataReported, Disconnected, EventEntered, KeyAnswered, PacketReceived, PacketSent, PduFixed, ProcedureAsked, RequestAnswered, WordsGiven}
use Rattle.journal_ends.specs.link_model.Verdicts.{pdu_of}
use Rattle.journal_ends.specs.link_model.procedure_stages.Queue.{waiting_in}
use Rattle.journal_ends.proofs.link_model.Fixing.{acked_control, given_control}

abbrev pub IsFree : Facts → Type 0
IsFree facts = is_control facts.outgoing.fixed ≡ false

asked_free : (comes : Bool) (facts : Facts) (ask : _) → IsFree facts → IsFree (asked_unless comes ask facts)
asked_free true facts ask is = is
asked_free false facts ask is = is

pub entered_free : (goes : Bool) (setup : Setup) (slot : ℕ) (facts : Facts) → IsFree facts → IsFree (facts_entered_if goes setup slot facts)
entered_free true setup slot facts is = is
entered_free false setup slot facts is = is

piece_free : (piece : Option _) → is_control (pdu_with piece) ≡ false
piece_free None = refl
piece_free (Some piece) = by piece.start
  where
    by : (start : Bool) → ((if start then 2 else 1) == 3) ≡ false
    by true = refl
    by false = refl

anew_free : (control : Bool) (waiting : ℕ) (quiet goes : Bool) (outgoing : Data) → is_control (data_fixed_by control waiting quiet goes outgoing).fixed ≡ false
anew_free true waiting quiet goes outgoing = refl
anew_free false waiting quiet true outgoing = piece_free (next_piece outgoing)
anew_free false waiting quiet false outgoing = refl

pub fixed_free : (stays : Bool) (facts : Facts) → IsFree facts → IsFree (if stays then facts else fixed_anew facts)
fixed_free true facts is = is
fixed_free false facts is =
    anew_free (is_some (next_control facts)) (waiting_in facts.control.table.queue) (is_quiet_now facts) (data_goes facts) (data_cut facts)

-- a PDU is fixed anew as one goes out; and the one of a control PDU is made only then
pub sent_free : (payload : List ℕ) (acked fixes : Bool) (slot : ℕ) (facts : Facts) → IsFree facts
    → is_control (data_sent_as payload acked (control_gone_if (acked && fixes) slot facts).outgoing).fixed ≡ false
sent_free payload true fixes slot facts is = refl
sent_free payload false fixes slot facts is = is

pub gone_acked : (goes : Bool) (slot : ℕ) (facts : Facts) → is_acked (control_gone_if goes slot facts).acknowledgement ≡ is_acked facts.acknowledgement
gone_acked true slot facts = refl
gone_acked false slot facts = refl

pub facts_sent_free : (slot : ℕ) (facts : Facts) → IsFree facts → IsFree (facts_sent slot facts)
facts_sent_free slot facts is =
    let gone = control_gone_if (takes_leave facts) slot facts in
    let payload = payload_made gone.encryption.end gone.outgoing.fixed in
    ap (λ b. is_control (data_sent_as payload b gone.outgoing).fixed) (gone_acked (takes_leave facts) slot facts)
    ∙ sent_free payload (is_acked facts.acknowledgement) facts.fixes_control slot facts is

pub taking_free : (takes : Bool) (pdu : Pdu) (slot : ℕ) (facts : Facts) → (procedures_take_if takes pdu slot facts).outgoing ≡ facts.outgoing
taking_free true pdu slot facts = refl
taking_free false pdu slot facts = refl

pub data_free : (takes : Bool) (facts : Facts) → (data_taken_if takes facts).outgoing ≡ facts.outgoing
data_free true facts = refl
data_free false facts = refl

pub forged_free : (forged : Bool) (facts : Facts) → (facts_forged_if forged facts).outgoing ≡ facts.outgoing
forged_free true facts = refl
forged_free false facts = refl

heard_free : (slot : ℕ) (room : Bool) (header : DataHeader) (pdu : Pdu) (facts : Facts)
    → (facts_hearing Central slot room header pdu facts).outgoing.fixed ≡ facts.outgoing.fixed
heard_free slot room header pdu facts =
    let now = facts_before_taking Central slot header facts in
    let accepted = accepts room header pdu now in
    let takes = accepted && is_procedure_pdu pdu in
    ap (λ (outgoing : Data). outgoing.fixed)
    (data_free (accepted && is_data pdu) (procedures_take_if takes pdu slot (accepted_if accepted pdu now)) ∙ taking_free takes pdu slot (accepted_if accepted pdu now))
    ∙ acked_control (has_acknowledged facts header && is_data facts.acknowledgement.last) facts.outgoing

received_free : (slot : ℕ) (room : Bool) (octets : Option (List ℕ)) (facts : Facts) → (facts_received Central slot room octets facts).outgoing.fixed ≡ facts.outgoing.fixed
received_free slot room None facts = refl
received_free slot room (Some octets) facts = heard_free slot room (header_in octets) (pdu_of octets) facts

module _ (setup : Setup) (central : setup.link.role ≡ Central) where
  pub step_free : (facts : Facts) (step : Step) → IsFree facts → IsFree (facts_after setup facts step)
  step_free facts (DataGiven start body) is = ap is_control (given_control setup.link.handle start body facts.outgoing) ∙ is
  step_free facts (ProcedureAsked ask) is = asked_free (is_to_come ask facts) facts ask is
  step_free facts (RequestAnswered answer) is = is
  step_free facts (KeyAnswered key slot) is = is
  step_free facts (Disconnected reason slot) is = is
  step_free facts (EventEntered slot) is = entered_free (goes_on facts) setup slot facts is
  step_free facts PduFixed is = fixed_free (is_control facts.outgoing.fixed) facts is
  step_free facts (PacketSent slot) is = facts_sent_free slot facts is
  step_free facts (WordsGiven skd_s iv_s) is = is
  step_free facts (PacketReceived slot octets room) is =
      ap (λ (outgoing : Data). is_control outgoing.fixed)
      (forged_free (is_forged setup facts octets) (facts_received setup.link.role slot room (good_pdu setup facts octets) facts))
      ∙ ap (λ role. is_control (facts_received role slot room (good_pdu setup facts octets) facts).outgoing.fixed) central
      ∙ ap is_control (received_free slot room (good_pdu setup facts octets) facts) ∙ is
  step_free facts DataReported is = is

  steps_free : (facts : Facts) (steps : List Step) → IsFree facts → IsFree (fold (facts_after setup) facts steps)
  steps_free facts [] is = is
  steps_free facts (step ∷ steps) is = steps_free (facts_after setup facts step) steps (step_free facts step is)

  pub past_free : (past : List Step) → IsFree (facts_of setup past)
  unfolding facts_of
  past_free past = steps_free (first_facts setup) past refl
