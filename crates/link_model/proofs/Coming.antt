-- The steps of an end may come where its host asks only for values in range, in all phases of encryption.
use Rattle.std.proofs.Common.{ℕ, ◌&&◌, not, Bool, true, false, List, [], ◌∷◌, ◌++◌, drop, Option, Some, None, Result, Ok, Err}
use Rattle.ble_base.specs.declared.error_codes.ErrCode.{ErrCode}
use Rattle.ble_base.specs.declared.roles.Role.{Role}
use Rattle.data_pdu.specs.Header.{header_in}
use Rattle.phased_end.specs.control_end.procedure_values.declared.asks.Ask.{Ask}
use Rattle.phased_end.specs.Reached.{AllMayCome, MayCome}
use Rattle.phased_end.specs.Taking.{drawn}
use Rattle.phased_end.specs.keyed_control.KeyedSteps.{KeyedStep, Answers, Asks, Enters, Opens, Seals, SeesAcknowledged, Sends, Takes, TakesData}
use Rattle.link_model.specs.Acknowledgement.{is_acked}
use Rattle.link_model.specs.AskRanges.{AreAsksInRange, IsAskInRange}
use Rattle.link_model.specs.Controls.{goes_on, is_procedure_pdu, pdu_fixed, read_of}
use Rattle.link_model.specs.Data.{is_data}
use Rattle.link_model.specs.End.{facts_after}
use Rattle.link_model.specs.Facts.{Facts}
use Rattle.link_model.specs.Hosts.{is_to_come, key_step}
use Rattle.link_model.specs.KeyedSteps.{keyed_steps_from, keyed_steps_in, step_if, steps_received}
use Rattle.link_model.specs.Packets.{good_pdu, whole_pdu}
use Rattle.link_model.specs.Payload.{first_octet}
use Rattle.link_model.specs.Receiving.{accepts, acknowledged_if, acks_control, answers_with_control, counts_accepted, facts_before_taking, has_acknowledged, heard_in_slot}
use Rattle.link_model.specs.Sending.{seals_new, takes_leave}
use Rattle.link_model.specs.Setup.{Setup}
use Rattle.link_model.specs.Step.{Step, DataGiven, DataReported, Disconnected, EventEntered, KeyAnswered, PacketReceived, PacketSent, PduFixed, ProcedureAsked, RequestAnswered, WordsGiven}
use Rattle.link_model.specs.Verdicts.{pdu_of}
use Rattle.link_model.proofs.ReadRanges.{read_range}

both : (steps more : List KeyedStep) → AllMayCome steps → AllMayCome more → AllMayCome (steps ++ more)
both [] more here later = later
both (step ∷ steps) more here later = (here.0, both steps more here.1 later)

perhaps : (is_taken : Bool) (step : KeyedStep) → MayCome step → AllMayCome (step_if is_taken step)
perhaps true step may = (may, tt)
perhaps false step may = tt

received_come : (role : Role) (slot : ℕ) (room : Bool) (air octets : Option (List ℕ)) (facts : Facts) → AllMayCome (steps_received role slot room air octets facts)
received_come role slot room None octets facts = tt
received_come role slot room (Some air) None facts = tt
received_come role slot room (Some air) (Some octets) facts =
    let header = header_in octets in
    let pdu = pdu_of octets in
    let own = acknowledged_if (has_acknowledged facts header) (heard_in_slot slot header.md facts) in
    let accepted = accepts room header pdu (facts_before_taking role slot header facts) in
    both (step_if (acks_control (has_acknowledged facts header) facts) SeesAcknowledged) _
    (perhaps (acks_control (has_acknowledged facts header) facts) SeesAcknowledged tt)
    (both (step_if (answers_with_control role own) (Sends slot)) _
    (perhaps (answers_with_control role own) (Sends slot) tt)
    (both (step_if (counts_accepted accepted pdu) (Opens (first_octet air) (drop 2 air))) _
    (perhaps (counts_accepted accepted pdu) (Opens (first_octet air) (drop 2 air)) tt)
    (both (step_if (accepted && is_procedure_pdu pdu) (Takes (read_of pdu) slot (drawn facts.encryption.response))) _
    (perhaps (accepted && is_procedure_pdu pdu) (Takes (read_of pdu) slot (drawn facts.encryption.response)) (read_range pdu))
    (perhaps (accepted && is_data pdu) TakesData tt))))

answer_comes : (answer : Result Ask ErrCode) → IsAskInRange (RequestAnswered answer) → MayCome (Answers answer)
answer_comes (Ok ask) is = is
answer_comes (Err code) is = tt

key_comes : (key : Option (List ℕ)) → MayCome (key_step key)
key_comes None = tt
key_comes (Some ltk) = tt

pub steps_come : (setup : Setup) (facts : Facts) (step : Step) → IsAskInRange step → AllMayCome (keyed_steps_in setup facts step)
steps_come setup facts (DataGiven start body) is = tt
steps_come setup facts (ProcedureAsked ask) is = perhaps (not (is_to_come ask facts)) (Asks ask) is
steps_come setup facts (RequestAnswered answer) is = (answer_comes answer is, tt)
steps_come setup facts (KeyAnswered key slot) is = (key_comes key, tt)
steps_come setup facts (Disconnected reason slot) is = (tt, tt)
steps_come setup facts (EventEntered slot) is = perhaps (goes_on facts) (Enters slot) tt
steps_come setup facts PduFixed is = tt
steps_come setup facts (PacketSent slot) is =
    let pdu = pdu_fixed facts in
    let counts = seals_new (is_acked facts.acknowledgement) pdu in
    both (step_if (takes_leave facts) (Sends slot)) _ (perhaps (takes_leave facts) (Sends slot) tt)
    (perhaps counts (Seals pdu.llid pdu.body) tt)
steps_come setup facts (WordsGiven skd_s iv_s) is = tt
steps_come setup facts (PacketReceived slot octets room) is =
    received_come setup.link.role slot room (whole_pdu setup facts octets) (good_pdu setup facts octets) facts
steps_come setup facts DataReported is = tt

-- so all steps of a past may come
pub all_come : (setup : Setup) (facts : Facts) (past : List Step) → AreAsksInRange past
    → AllMayCome (keyed_steps_from setup facts past)
all_come setup facts [] are = tt
all_come setup facts (step ∷ past) are =
    both (keyed_steps_in setup facts step) (keyed_steps_from setup (facts_after setup facts step) past)
    (steps_come setup facts step are.0) (all_come setup (facts_after setup facts step) past are.1)
