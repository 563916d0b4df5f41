-- Where the link lasts at an end after a step, it lasted there before.
use Rattle.std.proofs.Common.{◌≡◌, ◌&&◌, ◌||◌, ℕ, Bool, true, false, List, Option, Some, None, is_none, refl, ap, subst, if◌then◌else◌}
use Rattle.std.proofs.lemmas.Bool.{and_from, and_parts}
use Rattle.ble_base.specs.ErrorCodes.{mic_failure}
use Rattle.ble_base.specs.declared.error_codes.ErrCode.{ErrCode}
use Rattle.ble_base.specs.declared.roles.Role.{Role}
use Rattle.data_pdu.specs.declared.header.DataHeader.{DataHeader}
use Rattle.data_pdu.specs.Header.{header_in}
use Rattle.control_octets.specs.procedure_values.declared.asks.Ask.{Ask}
use Rattle.control_octets.specs.control_model.Control.{Answers as control_answers, Asks as control_asks, Control, Disconnects as control_disconnects, Sends as control_sends, Step as ControlStep, after, ended, moved}
use Rattle.link_model.specs.keyed_control.Keyed.{Keyed}
use Rattle.link_model.specs.keyed_control.KeyedSteps.{Enters, KeyedStep, SeesAcknowledged, Takes, TakesData, is_of_session, keyed_after, keyed_moved}
use Rattle.link_model.specs.phased_end.Taking.{drawn}
use Rattle.link_model.specs.Acknowledgement.{Pdu}
use Rattle.link_model.specs.Data.{is_control, is_data}
use Rattle.link_model.specs.Verdicts.{pdu_of}
use Rattle.link_model.specs.Setup.{Setup}
use Rattle.link_model.specs.declared.state.Leaving.{Leaving}
use Rattle.link_model.specs.Controls.{goes_on, is_procedure_pdu, is_quiet_now, read_of}
use Rattle.link_model.specs.End.{facts_after}
use Rattle.link_model.specs.Entering.{facts_entered_if}
use Rattle.link_model.specs.Facts.{Facts, keyed_of}
use Rattle.link_model.specs.Fixing.{fixed_anew}
use Rattle.link_model.specs.Hosts.{asked_unless, ends_without_key, facts_key_answered, is_to_come, key_step, leaving_from_if}
use Rattle.link_model.specs.Packets.{good_pdu, is_forged}
use Rattle.link_model.specs.Receiving.{accepted_if, accepts, acknowledged_if, acks_control, answers_with_control, code_of, data_taken_if, ended_by_forgery, facts_before_taking, facts_forged_if, facts_received, fixed_goes, has_acknowledged, heard_in_slot, keyed_acked_if, leaving_by, procedures_give, procedures_take_if, taken_if}
use Rattle.link_model.specs.Sending.{control_gone_if, facts_sent, takes_leave}
use Rattle.link_model.specs.Step.{Step, DataGiven, DataReported, Disconnected, EventEntered, KeyAnswered, PacketReceived, PacketSent, PduFixed, ProcedureAsked, RequestAnswered, WordsGiven}
use Rattle.link_pairs.specs.Ends.{is_lasting}

-- ---- an end of the link stays its end

ends_before : (step : ControlStep) (c : Control) → is_none (after step c).ends ≡ true → is_none c.ends ≡ true
ends_before step c is = by (is_none c.ends) refl
  where
    by : (b : Bool) → is_none c.ends ≡ b → is_none c.ends ≡ true
    by true none = none
    by false some = subst (λ (d : Control). is_none d.ends ≡ true) (ap (λ (b : Bool). if b then moved step c else c) some) is

keyed_before : (step : KeyedStep) (k : Keyed) → is_of_session step ≡ false → is_none (keyed_after step k).phased.control.ends ≡ true
    → is_none k.phased.control.ends ≡ true
keyed_before step k apart is = by (is_none k.phased.control.ends) refl
  where
    by : (b : Bool) → is_none k.phased.control.ends ≡ b → is_none k.phased.control.ends ≡ true
    by true none = none
    by false some = subst (λ (n : Keyed). is_none n.phased.control.ends ≡ true) (λ i. if apart i || some i then keyed_moved step k else k) is

-- what ends it was not there before, where it is not there now
record Lasts (before now : Facts) : Type 0 where
  procedures : is_none now.control.ends ≡ true → is_none before.control.ends ≡ true
  peer : is_none now.leaving.ended_by_peer ≡ true → is_none before.leaving.ended_by_peer ≡ true

lasting : (before now : Facts) → Lasts before now → is_lasting now ≡ true → is_lasting before ≡ true
lasting before now lasts is =
    let parts = and_parts (goes_on now) (is_none now.leaving.ended_by_peer) is in
    and_from (goes_on before) (is_none before.leaving.ended_by_peer) (lasts.procedures parts.0) (lasts.peer parts.1)

lasts_same : (facts : Facts) → Lasts facts facts
lasts_same facts = record { procedures = λ is. is; peer = λ is. is }

lasts_then : (a b c : Facts) → Lasts a b → Lasts b c → Lasts a c
lasts_then a b c one two = record { procedures = λ is. one.procedures (two.procedures is); peer = λ is. one.peer (two.peer is) }

-- ---- one step

asked_lasts : (to_come : Bool) (ask : Ask) (facts : Facts) → Lasts facts (asked_unless to_come ask facts)
asked_lasts true ask facts = lasts_same facts
asked_lasts false ask facts = record { procedures = ends_before (control_asks ask) facts.control; peer = λ is. is }

entered_lasts : (lasts : Bool) (setup : Setup) (slot : ℕ) (facts : Facts) → Lasts facts (facts_entered_if lasts setup slot facts)
entered_lasts true setup slot facts = record { procedures = keyed_before (Enters slot) (keyed_of facts) refl; peer = λ is. is }
entered_lasts false setup slot facts = lasts_same facts

fixed_lasts : (gone : Bool) (facts : Facts) → Lasts facts (if gone then facts else fixed_anew facts)
fixed_lasts true facts = lasts_same facts
fixed_lasts false facts = record { procedures = λ is. is; peer = λ is. is }

gone_lasts : (goes : Bool) (slot : ℕ) (facts : Facts) → Lasts facts (control_gone_if goes slot facts)
gone_lasts true slot facts = record { procedures = ends_before (control_sends slot (is_quiet_now facts)) facts.control; peer = λ is. is }
gone_lasts false slot facts = lasts_same facts

sent_lasts : (slot : ℕ) (facts : Facts) → Lasts facts (facts_sent slot facts)
sent_lasts slot facts = let gone = gone_lasts (takes_leave facts) slot facts in record { procedures = gone.procedures; peer = gone.peer }

-- the host of a peripheral has a key or none
key_apart : (key : Option (List ℕ)) → is_of_session (key_step key) ≡ false
key_apart None = refl
key_apart (Some ltk) = refl

left_from : (leaves : Bool) (slot : ℕ) (leaving : Leaving) → is_none (leaving_from_if leaves slot leaving).ended_by_peer ≡ true
    → is_none leaving.ended_by_peer ≡ true
left_from true slot leaving is = is
left_from false slot leaving is = is

key_lasts : (key : Option (List ℕ)) (slot : ℕ) (facts : Facts) → Lasts facts (facts_key_answered key slot facts)
key_lasts key slot facts =
    record {
      procedures = keyed_before (key_step key) (keyed_of facts) (key_apart key);
      peer = left_from (ends_without_key key facts) slot facts.leaving;
    }

-- ---- a packet is received

acked_before : (acks : Bool) (k : Keyed) → is_none (keyed_acked_if acks k).phased.control.ends ≡ true → is_none k.phased.control.ends ≡ true
acked_before true k is = keyed_before SeesAcknowledged k refl is
acked_before false k is = is

acked_lasts : (acked : Bool) (facts : Facts) → Lasts facts (acknowledged_if acked facts)
acked_lasts acked facts = record { procedures = acked_before (acks_control acked facts) (keyed_of facts); peer = λ is. is }

answered_lasts : (role : Role) (slot : ℕ) (facts : Facts) → Lasts facts (fixed_goes role slot facts)
answered_lasts role slot facts = gone_lasts (answers_with_control role facts) slot facts

before_taking_lasts : (role : Role) (slot : ℕ) (header : DataHeader) (facts : Facts) → Lasts facts (facts_before_taking role slot header facts)
before_taking_lasts role slot header facts =
    let heard = heard_in_slot slot header.md facts in
    let acked = acknowledged_if (has_acknowledged facts header) heard in
    let one = acked_lasts (has_acknowledged facts header) heard in
    lasts_then facts acked (fixed_goes role slot acked) (record { procedures = one.procedures; peer = one.peer }) (answered_lasts role slot acked)

left_before : (code : Option ErrCode) (leaving : Leaving) → is_none (leaving_by code leaving).ended_by_peer ≡ true → is_none leaving.ended_by_peer ≡ true
left_before None leaving is = is
left_before (Some code) leaving is = absurd (cc)

procedures_lasts : (takes : Bool) (pdu : Pdu) (slot : ℕ) (facts : Facts) → Lasts facts (procedures_take_if takes pdu slot facts)
procedures_lasts true pdu slot facts =
    record {
      procedures = keyed_before (Takes (read_of pdu) slot (drawn facts.encryption.response)) (keyed_of facts) refl;
      peer = left_before (code_of (procedures_give pdu slot facts).effect) facts.leaving;
    }
procedures_lasts false pdu slot facts = lasts_same facts

data_lasts : (takes : Bool) (facts : Facts) → Lasts facts (data_taken_if takes facts)
data_lasts true facts = record { procedures = keyed_before TakesData (keyed_of facts) refl; peer = λ is. is }
data_lasts false facts = lasts_same facts

taken_lasts : (accepted : Bool) (pdu : Pdu) (slot : ℕ) (facts : Facts) → Lasts facts (taken_if accepted pdu slot facts)
taken_lasts accepted pdu slot facts =
    let given = accepted_if accepted pdu facts in
    let now = procedures_take_if (accepted && is_procedure_pdu pdu) pdu slot given in
    let taken = procedures_lasts (accepted && is_procedure_pdu pdu) pdu slot given in
    lasts_then facts now (data_taken_if (accepted && is_data pdu) now) (record { procedures = taken.procedures; peer = taken.peer })
    (data_lasts (accepted && is_data pdu) now)

received_lasts : (role : Role) (slot : ℕ) (room : Bool) (pdu : Option (List ℕ)) (facts : Facts) → Lasts facts (facts_received role slot room pdu facts)
received_lasts role slot room None facts = lasts_same facts
received_lasts role slot room (Some pdu) facts =
    let now = facts_before_taking role slot (header_in pdu) facts in
    let accepted = accepts room (header_in pdu) (pdu_of pdu) now in
    lasts_then facts now (taken_if accepted (pdu_of pdu) slot now) (before_taking_lasts role slot (header_in pdu) facts) (taken_lasts accepted (pdu_of pdu) slot now)

forged_before : (c : Control) → is_none (ended_by_forgery c).ends ≡ true → is_none c.ends ≡ true
forged_before c is = by (is_none c.ends) refl
  where
    by : (b : Bool) → is_none c.ends ≡ b → is_none c.ends ≡ true
    by true none = none
    by false some = subst (λ (d : Control). is_none d.ends ≡ true) (ap (λ (b : Bool). if b then ended (record { 0 = mic_failure }) c else c) some) is

forged_lasts : (forged : Bool) (facts : Facts) → Lasts facts (facts_forged_if forged facts)
forged_lasts true facts = record { procedures = forged_before facts.control; peer = λ is. is }
forged_lasts false facts = lasts_same facts

-- ---- whatever step

step_lasts : (setup : Setup) (facts : Facts) (step : Step) → Lasts facts (facts_after setup facts step)
step_lasts setup facts (DataGiven start body) = record { procedures = λ is. is; peer = λ is. is }
step_lasts setup facts (ProcedureAsked ask) = asked_lasts (is_to_come ask facts) ask facts
step_lasts setup facts (RequestAnswered answer) = record { procedures = ends_before (control_answers answer) facts.control; peer = λ is. is }
step_lasts setup facts (KeyAnswered key slot) = key_lasts key slot facts
step_lasts setup facts (Disconnected reason slot) = record { procedures = ends_before (control_disconnects reason) facts.control; peer = λ is. is }
step_lasts setup facts (EventEntered slot) = entered_lasts (goes_on facts) setup slot facts
step_lasts setup facts PduFixed = fixed_lasts (is_control facts.outgoing.fixed) facts
step_lasts setup facts (PacketSent slot) = sent_lasts slot facts
step_lasts setup facts (WordsGiven skd_s iv_s) = record { procedures = λ is. is; peer = λ is. is }
step_lasts setup facts (PacketReceived slot octets room) =
    let now = facts_received setup.link.role slot room (good_pdu setup facts octets) facts in
    lasts_then facts now (facts_forged_if (is_forged setup facts octets) now)
    (received_lasts setup.link.role slot room (good_pdu setup facts octets) facts) (forged_lasts (is_forged setup facts octets) now)
step_lasts setup facts DataReported = record { procedures = λ is. is; peer = λ is. is }

pub lasts_before : (setup : Setup) (facts : Facts) (step : Step) → is_lasting (facts_after setup facts step) ≡ true → is_lasting facts ≡ true
lasts_before setup facts step = lasting facts (facts_after setup facts step) (step_lasts setup facts step)

-- a step that is made or not
pub lasts_before_if : (makes : Bool) (setup : Setup) (facts : Facts) (step : Step) → is_lasting (if makes then facts_after setup facts step else facts) ≡ true
    → is_lasting facts ≡ true
lasts_before_if true setup facts step is = lasts_before setup facts step is
lasts_before_if false setup facts step is = is
