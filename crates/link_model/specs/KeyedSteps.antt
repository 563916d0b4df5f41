-- The steps of procedures, phase and keys of an end, by what happens to the end (Core 5.2, volume 6 part B, sections 4.5, 5
-- and 5.1.3).
use Rattle.std.specs.Prelude.{ℕ, ◌&&◌, not, Bool, false, List, [], ◌∷◌, ◌++◌, drop, Option, Some, if◌then◌else◌}
use Rattle.ble_base.specs.declared.roles.Role.{Role}
use Rattle.data_pdu.specs.declared.header.DataHeader.{DataHeader}
use Rattle.data_pdu.specs.Header.{header_in}
use Rattle.phased_end.specs.Taking.{drawn}
use Rattle.phased_end.specs.keyed_control.KeyedSteps.{KeyedStep, Answers, Asks, Disconnects, Enters, Opens, Seals, SeesAcknowledged, Sends, Takes, TakesData}
use Rattle.link_model.specs.Setup.{Setup}
use Rattle.link_model.specs.Acknowledgement.{Pdu, is_acked}
use Rattle.link_model.specs.Data.{is_data}
use Rattle.link_model.specs.Payload.{first_octet}
use Rattle.link_model.specs.Verdicts.{pdu_of}
use Rattle.link_model.specs.Facts.{Facts, first_facts}
use Rattle.link_model.specs.Controls.{goes_on, is_procedure_pdu, pdu_fixed, read_of}
use Rattle.link_model.specs.Step.{Step, Disconnected, EventEntered, KeyAnswered, PacketReceived, PacketSent, ProcedureAsked, RequestAnswered}
use Rattle.link_model.specs.Hosts.{is_to_come, key_step}
use Rattle.link_model.specs.Packets.{good_pdu, is_forged, whole_pdu}
use Rattle.link_model.specs.Sending.{seals_new, takes_leave}
use Rattle.link_model.specs.Receiving.{accepts, acknowledged_if, acks_control, answers_with_control, counts_accepted, facts_before_taking, has_acknowledged, heard_in_slot}
use Rattle.link_model.specs.End.{facts_after}

-- a step that is taken, or is not
abbrev pub step_if : Bool → KeyedStep → List KeyedStep
step_if is_taken step = if is_taken then step ∷ [] else []

-- ---- a packet is sent: its control PDU leaves the queue, and a new PDU that is not empty takes a counter

abbrev pub steps_sending : ℕ → Facts → List KeyedStep
steps_sending slot facts =
    let pdu = pdu_fixed facts in
    step_if (takes_leave facts) (Sends slot)
    ++ step_if (seals_new (is_acked facts.acknowledgement) pdu) (Seals pdu.llid pdu.body)

-- ---- a good packet is received: its last control PDU is acknowledged, a peripheral's fixed one goes, the new one is
-- opened and taken. On the air its PDU has these octets

abbrev pub steps_hearing : Role → ℕ → Bool → DataHeader → Pdu → List ℕ → Facts → List KeyedStep
steps_hearing role slot room header pdu air facts =
    let acked = acknowledged_if (has_acknowledged facts header) (heard_in_slot slot header.md facts) in
    let now = facts_before_taking role slot header facts in
    let accepted = accepts room header pdu now in
    step_if (acks_control (has_acknowledged facts header) facts) SeesAcknowledged
    ++ (step_if (answers_with_control role acked) (Sends slot)
    ++ (step_if (counts_accepted accepted pdu) (Opens (first_octet air) (drop 2 air))
    ++ (step_if (accepted && is_procedure_pdu pdu)
    (Takes (read_of pdu) slot (drawn facts.encryption.response))
    ++ step_if (accepted && is_data pdu) TakesData)))

abbrev pub steps_received : Role → ℕ → Bool → Option (List ℕ) → Option (List ℕ) → Facts → List KeyedStep
steps_received role slot room (Some air) (Some pdu) facts =
    steps_hearing role slot room (header_in pdu) (pdu_of pdu) air facts
steps_received role slot room air pdu facts = []

-- ---- all that happens

abbrev pub keyed_steps_in : Setup → Facts → Step → List KeyedStep
keyed_steps_in setup facts (ProcedureAsked ask) = step_if (not (is_to_come ask facts)) (Asks ask)
keyed_steps_in setup facts (RequestAnswered answer) = Answers answer ∷ []
keyed_steps_in setup facts (KeyAnswered key slot) = key_step key ∷ []
keyed_steps_in setup facts (Disconnected reason slot) = Disconnects reason ∷ []
keyed_steps_in setup facts (EventEntered slot) = step_if (goes_on facts) (Enters slot)
keyed_steps_in setup facts (PacketSent slot) = steps_sending slot facts
keyed_steps_in setup facts (PacketReceived slot octets room) =
    steps_received setup.link.role slot room (whole_pdu setup facts octets) (good_pdu setup facts octets) facts
keyed_steps_in setup facts other = []

abbrev pub keyed_steps_from : Setup → Facts → List Step → List KeyedStep
keyed_steps_from setup facts [] = []
keyed_steps_from setup facts (step ∷ steps) =
    keyed_steps_in setup facts step ++ keyed_steps_from setup (facts_after setup facts step) steps

unfoldable pub keyed_steps_of : Setup → List Step → List KeyedStep
keyed_steps_of setup past = keyed_steps_from setup (first_facts setup) past

-- a packet is forged, which ends the link and is no step
abbrev pub is_forged_in_step : Setup → Facts → Step → Bool
is_forged_in_step setup facts (PacketReceived slot octets room) = is_forged setup facts octets
is_forged_in_step setup facts other = false
