-- What a host sends: its octets, its commands, and which of them are accepted and answered (Core 5.2, volume 4 part E,
-- sections 7.7.14 and 7.7.15).
use Rattle.std.specs.Prelude.{ℕ, ◌+◌, ◌==◌, ◌&&◌, not, Bool, true, List, [], ◌∷◌, ◌++◌, sum_by, map, filter, flat_map, ⊤, if◌then◌else◌}
use Rattle.h4_frames.specs.declared.packet.HostPacket.TheVariants.{Command as HostCommand}
use Rattle.h4_frames.specs.declared.packet.Fed.{Fed}
use Rattle.h4_frames.specs.declared.packet.Fed.TheVariants.{Packet}
use Rattle.hci_cmd.specs.declared.command.Command.{Command}
use Rattle.hci_cmd.specs.declared.command.Command.TheVariants.{LeEnableEncryption, LeRand}
use Rattle.hci_cmd.specs.declared.command.CmdRead.{CmdRead}
use Rattle.hci_cmd.specs.declared.command.CmdRead.TheVariants.{Known}
use Rattle.hci_cmd.specs.Command.{command_of}
use Rattle.host_view.specs.Status.{status_of}
use Rattle.link_commands.specs.open_links.OpenLinks.{link_at}
use Rattle.controller_model.specs.declared.doing.Doing.{Doing}
use Rattle.controller_model.specs.declared.doing.Doing.TheVariants.{CentralListens, PeripheralListens}
use Rattle.controller_model.specs.Heard.{draws_in, facts_with_words, has_room}
use Rattle.controller_model.specs.Step.{Step, HostOctet, TurnBegins, PacketHeard, NothingHeard, TurnEnds}
use Rattle.controller_model.specs.Facts.{Setup, Facts, first_facts}
use Rattle.controller_model.specs.Answers.{is_host_completed}
use Rattle.controller_model.specs.Side.{facts_after, result_of}

-- ---- its octets

-- the octets of the host, in order
abbrev pub host_octets : List Step → List ℕ
host_octets [] = []
host_octets (HostOctet octet ∷ past) = octet ∷ host_octets past
host_octets (TurnBegins slot on ∷ past) = host_octets past
host_octets (PacketHeard octets ∷ past) = host_octets past
host_octets (NothingHeard ∷ past) = host_octets past
host_octets (TurnEnds ∷ past) = host_octets past

-- no packet was heard
abbrev pub HeardNothing : List Step → Type 0
HeardNothing [] = ⊤
HeardNothing (HostOctet octet ∷ past) = HeardNothing past
HeardNothing (TurnBegins slot on ∷ past) = HeardNothing past
HeardNothing (PacketHeard octets ∷ past) = ⊥
HeardNothing (NothingHeard ∷ past) = HeardNothing past
HeardNothing (TurnEnds ∷ past) = HeardNothing past

-- ---- its commands

-- only an accepted Host Number Of Completed Packets has no answer (section 7.3.40)
abbrev pub is_answered : Facts → CmdRead → Bool
is_answered facts (Known command) = not (is_host_completed command && (status_of facts.view command == 0))
is_answered facts other = true

-- the command among what an octet completes: its opcode, and whether it has an answer
abbrev pub commands_in : Facts → Fed → List (ℕ × Bool)
commands_in facts (Packet (HostCommand opcode body)) =
    (opcode, is_answered facts (command_of opcode body.items)) ∷ []
commands_in facts other = []

abbrev pub commands_after : Facts → Step → List (ℕ × Bool)
commands_after facts (HostOctet octet) = commands_in facts (result_of facts.octets octet)
commands_after facts other = []

abbrev pub commands_from : Setup → Facts → List Step → List (ℕ × Bool)
commands_from setup facts [] = []
commands_from setup facts (step ∷ steps) =
    commands_after facts step ++ commands_from setup (facts_after setup facts step) steps

-- the commands of the host, in order
unfoldable pub commands_of : Setup → List Step → List (ℕ × Bool)
commands_of setup past = commands_from setup (first_facts setup) past

abbrev pub opcodes_of : List (ℕ × Bool) → List ℕ
opcodes_of commands = map (λ command. command.0) commands

-- those that have an answer
abbrev pub with_answer : List (ℕ × Bool) → List (ℕ × Bool)
with_answer commands = filter (λ command. command.1) commands

-- the opcodes of the commands among frames, in order
abbrev pub opcode_in : Fed → List ℕ
opcode_in (Packet (HostCommand opcode body)) = opcode ∷ []
opcode_in other = []

abbrev pub opcodes_in : List (ℕ × Fed) → List ℕ
opcodes_in entries = flat_map (λ entry. opcode_in entry.1) entries

-- ---- accepted commands

abbrev pub commands_accepted_by : Facts → CmdRead → List Command
commands_accepted_by facts (Known command) = if status_of facts.view command == 0 then command ∷ [] else []
commands_accepted_by facts other = []

abbrev pub commands_accepted_in : Facts → Fed → List Command
commands_accepted_in facts (Packet (HostCommand opcode body)) =
    commands_accepted_by facts (command_of opcode body.items)
commands_accepted_in facts other = []

abbrev pub commands_accepted_after : Facts → Step → List Command
commands_accepted_after facts (HostOctet octet) = commands_accepted_in facts (result_of facts.octets octet)
commands_accepted_after facts other = []

abbrev pub commands_accepted_from : Setup → Facts → List Step → List Command
commands_accepted_from setup facts [] = []
commands_accepted_from setup facts (step ∷ steps) =
    commands_accepted_after facts step ++ commands_accepted_from setup (facts_after setup facts step) steps

-- the accepted commands of the host, in order
unfoldable pub commands_accepted : Setup → List Step → List Command
commands_accepted setup past = commands_accepted_from setup (first_facts setup) past

-- how many random words a command draws as it is accepted
abbrev pub words_of : Command → ℕ
words_of LeRand = 1
words_of (LeEnableEncryption handle rand ediv key) = 2
words_of other = 0

-- how many all of them drew
abbrev pub words_drawn : Setup → List Step → ℕ
words_drawn setup past = sum_by words_of (commands_accepted setup past)

-- and how many the ends of links draw as they hear: two where a peripheral answers LL_ENC_REQ
abbrev pub words_if : Bool → ℕ
words_if draws = if draws then 2 else 0

abbrev pub words_received : Setup → ℕ → List ℕ → Facts → ℕ
words_received setup handle octets facts =
    words_if (draws_in facts.turn.slot (has_room setup facts) (link_at handle facts.links) octets)

abbrev pub words_hearing : Setup → Doing → List ℕ → Facts → ℕ
words_hearing setup (CentralListens handle) octets facts = words_received setup handle octets facts
words_hearing setup (PeripheralListens handle) octets facts =
    words_received setup handle octets (facts_with_words setup handle facts)
words_hearing setup doing octets facts = 0

abbrev pub words_heard : Setup → Facts → Step → ℕ
words_heard setup facts (PacketHeard octets) = words_hearing setup facts.turn.doing octets facts
words_heard setup facts other = 0

abbrev pub words_heard_from : Setup → Facts → List Step → ℕ
words_heard_from setup facts [] = 0
words_heard_from setup facts (step ∷ steps) =
    words_heard setup facts step + words_heard_from setup (facts_after setup facts step) steps

unfoldable pub words_answered : Setup → List Step → ℕ
words_answered setup past = words_heard_from setup (first_facts setup) past
