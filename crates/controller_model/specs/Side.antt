-- A controller by what happens to it: what it holds, and what it notes (our choice).
use Rattle.std.specs.Prelude.{ℕ, List, [], ◌∷◌, ◌++◌, length, fold, drop}
use Rattle.ble_base.specs.declared.notes.Note.{Note}
use Rattle.h4_frames.specs.declared.packet.HostPacket.TheVariants.{Command, Acl}
use Rattle.h4_frames.specs.declared.packet.Fed.{Fed}
use Rattle.h4_frames.specs.declared.packet.Fed.TheVariants.{More, Packet, LostSync}
use Rattle.h4_frames.specs.Frames.{frames}
use Rattle.hci_cmd.specs.Command.{command_of}
use Rattle.hci_evt.specs.declared.event.Event.TheVariants.{HardwareError}
use Rattle.controller_model.specs.declared.doing.Doing.TheVariants.{Rests}
use Rattle.controller_model.specs.Step.{Step, HostOctet, TurnBegins, PacketHeard, NothingHeard, TurnEnds}
use Rattle.controller_model.specs.Facts.{Setup, Facts, first_facts}
use Rattle.controller_model.specs.Commands.{facts_commanded, notes_commanded}
use Rattle.controller_model.specs.Data.{facts_ended_turn, facts_offered, notes_ended_turn, notes_offered, offer_of}
use Rattle.controller_model.specs.Events.{notes_of_events}
use Rattle.controller_model.specs.Heard.{heard, unheard}
use Rattle.controller_model.specs.Outcome.{Outcome, facts_passed, notes_passed}
use Rattle.controller_model.specs.Packets.{facts_doing}
use Rattle.controller_model.specs.Radio.{outcome_begun}

-- ---- an octet of the host

-- what an octet completes after those before it: nothing, a packet, or a loss of synchronisation
abbrev pub first_result : List (ℕ × Fed) → Fed
first_result [] = More
first_result (entry ∷ entries) = entry.1

unfoldable pub result_of : List ℕ → ℕ → Fed
result_of before octet = first_result (drop (length (frames before)) (frames (before ++ octet ∷ [])))

-- a command is carried out, and a packet of data is kept, or is not
abbrev pub facts_fed : Setup → Facts → Fed → Facts
facts_fed setup facts (Packet (Command opcode body)) = facts_commanded setup facts (command_of opcode body.items)
facts_fed setup facts (Packet (Acl handle start count body)) =
    facts_offered (offer_of setup facts handle count) handle start body.items facts
facts_fed setup facts LostSync = facts
facts_fed setup facts More = facts

-- a loss of synchronisation is reported as Hardware Error (section 7.7.16; its number 01 is our choice)
abbrev pub notes_fed : Setup → Facts → Fed → List Note
notes_fed setup facts (Packet (Command opcode body)) =
    notes_commanded setup facts opcode (command_of opcode body.items)
notes_fed setup facts (Packet (Acl handle start count body)) =
    notes_offered facts.view (offer_of setup facts handle count) handle
notes_fed setup facts LostSync = notes_of_events facts.view (HardwareError 0x01 ∷ [])
notes_fed setup facts More = []

abbrev pub with_octet : ℕ → Facts → Facts
with_octet octet facts = record facts { octets = facts.octets ++ octet ∷ [] }

-- ---- step by step

-- what comes of a phase
abbrev pub outcome_heard : Setup → List ℕ → Facts → Outcome
outcome_heard setup octets facts = heard setup facts.turn.doing octets facts

abbrev pub outcome_unheard : Facts → Outcome
outcome_unheard facts = unheard facts.turn.doing facts

-- what a controller holds after a step; after a turn the radio is idle until the next one begins
abbrev pub facts_after : Setup → Facts → Step → Facts
facts_after setup facts (HostOctet octet) = with_octet octet (facts_fed setup facts (result_of facts.octets octet))
facts_after setup facts (TurnBegins slot on) = facts_passed (outcome_begun slot on facts)
facts_after setup facts (PacketHeard octets) = facts_passed (outcome_heard setup octets facts)
facts_after setup facts NothingHeard = facts_passed (outcome_unheard facts)
facts_after setup facts TurnEnds = facts_doing Rests (facts_ended_turn facts)

-- what it notes in a step
abbrev pub notes_after : Setup → Facts → Step → List Note
notes_after setup facts (HostOctet octet) = notes_fed setup facts (result_of facts.octets octet)
notes_after setup facts (TurnBegins slot on) = notes_passed (outcome_begun slot on facts)
notes_after setup facts (PacketHeard octets) = notes_passed (outcome_heard setup octets facts)
notes_after setup facts NothingHeard = notes_passed (outcome_unheard facts)
notes_after setup facts TurnEnds = notes_ended_turn facts

-- ---- all steps so far

unfoldable pub facts_of : Setup → List Step → Facts
facts_of setup past = fold (facts_after setup) (first_facts setup) past

abbrev pub notes_from : Setup → Facts → List Step → List Note
notes_from setup facts [] = []
notes_from setup facts (step ∷ steps) =
    notes_after setup facts step ++ notes_from setup (facts_after setup facts step) steps

unfoldable pub notes_of : Setup → List Step → List Note
notes_of setup past = notes_from setup (first_facts setup) past
