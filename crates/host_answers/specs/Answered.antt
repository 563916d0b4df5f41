-- Which commands of a host the lines of its side answer, and which of them they accept: the commands in the octets that
-- the side was fed, each with the status in its answer (Core 5.2, volume 4 part E, sections 4.4, 7.7.14 and 7.7.15).
use Rattle.std.specs.Prelude.{ℕ, ◌==◌, Bool, List, [], ◌∷◌, ◌++◌, length, slice_get, slice_index, Option, Some, None, if◌then◌else◌}
use Rattle.std.specs.List.{flat_map}
use Rattle.ble_base.specs.declared.roles.Side.{Side}
use Rattle.h4_frames.specs.declared.packet.HostPacket.TheVariants.{Command as HostCommand}
use Rattle.h4_frames.specs.declared.packet.Fed.{Fed}
use Rattle.h4_frames.specs.declared.packet.Fed.TheVariants.{Packet}
use Rattle.h4_frames.specs.Frames.{frames}
use Rattle.hci_cmd.specs.declared.command.Command.{Command}
use Rattle.hci_cmd.specs.declared.command.CmdRead.{CmdRead}
use Rattle.hci_cmd.specs.declared.command.CmdRead.TheVariants.{Known}
use Rattle.hci_cmd.specs.Command.{command_of}
use Rattle.host_view.specs.Noted.{two_octets}
use Rattle.journal.specs.declared.entries.Entry.{Entry}
use Rattle.run_model.specs.controller_model.Notes.{as_two_octets, is_event}
use Rattle.run_model.specs.Readers.{fed_to_side, packets_in, packets_to_host}

-- ---- the commands

-- Host Number Of Completed Packets has no answer where it is accepted (section 7.3.40). It is left out, and so are the
-- answers to it
abbrev pub is_left_out : ℕ → Bool
is_left_out opcode = as_two_octets opcode == 0x0C35

abbrev pub command_read : Fed → List CmdRead
command_read (Packet (HostCommand opcode body)) =
    if is_left_out opcode then [] else command_of opcode body.items ∷ []
command_read other = []

-- the other commands in the octets of a host, in order
abbrev pub commands_sent : List ℕ → List CmdRead
commands_sent octets = flat_map (λ entry. command_read entry.1) (frames octets)

-- ---- their answers

abbrev pub status_unless : Bool → ℕ → List ℕ
status_unless left_out status = if left_out then [] else status ∷ []

-- the status in an answer: in a Command Complete it is at the place 6, after the opcode, and in a Command Status at the
-- place 3
abbrev pub answer_status : List ℕ → List ℕ
answer_status packet =
    if is_event 0x0E packet then status_unless (is_left_out (two_octets 4 packet)) (slice_index packet 6)
    else if is_event 0x0F packet then status_unless (is_left_out (two_octets 5 packet)) (slice_index packet 3)
    else []

abbrev pub answer_statuses : List (List ℕ) → List ℕ
answer_statuses packets = flat_map answer_status packets

-- ---- accepted commands

abbrev pub accepted_command : CmdRead → ℕ → List Command
accepted_command (Known command) status = if status == 0x00 then command ∷ [] else []
accepted_command other status = []

-- answers come in the order of the commands
abbrev pub accepted_commands : List CmdRead → List ℕ → List Command
accepted_commands [] statuses = []
accepted_commands (read ∷ reads) [] = []
accepted_commands (read ∷ reads) (status ∷ statuses) = accepted_command read status ++ accepted_commands reads statuses

-- the accepted commands of the host of a side, by these entries
abbrev pub host_commands : Side → List Entry → List Command
host_commands side journal =
    accepted_commands (commands_sent (fed_to_side side journal)) (answer_statuses (packets_to_host side journal))

-- ---- line by line

-- how many of the commands of a side are answered in these entries
abbrev pub answers_before : Side → List Entry → ℕ
answers_before side front = length (answer_statuses (packets_to_host side front))

-- the first command that is not answered yet
abbrev pub next_command : Side → List Entry → Option CmdRead
next_command side front = slice_get (commands_sent (fed_to_side side front)) (answers_before side front)

-- it is accepted where its status is 00
abbrev pub accepted_with : Option CmdRead → ℕ → List Command
accepted_with None status = []
accepted_with (Some read) status = accepted_command read status

-- the command of the host of a side that a line accepts, which comes after these entries: it answers the first command
-- that is not answered yet, with status 00
abbrev pub accepted_in : Side → List Entry → Entry → List Command
accepted_in side front line =
    flat_map (accepted_with (next_command side front)) (answer_statuses (packets_in side line))

-- the commands that these lines accept, which come after the entries before them
abbrev pub accepted_from : Side → List Entry → List Entry → List Command
accepted_from side front [] = []
accepted_from side front (line ∷ lines) = accepted_in side front line ++ accepted_from side (front ++ line ∷ []) lines
