-- The commands that a controller accepts and answers, call by call (Core 5.2, volume 4 part E, sections 7.3.40, 7.7.14
-- and 7.7.15).
use Rattle.std.specs.Prelude.{ℕ, List, [], ◌∷◌, map}
use Rattle.std.specs.List.{flat_map}
use Rattle.hci_cmd.specs.declared.command.Command.{Command}
use Rattle.hci_cmd.specs.declared.command.Command.TheVariants.{HostCompleted}
use Rattle.run_model.specs.controller_model.Facts.{Facts, Setup}
use Rattle.run_model.specs.controller_model.Host.{commands_accepted, commands_accepted_after}
use Rattle.run_model.specs.controller_model.Side.{notes_after}
use Rattle.run_model.specs.controller_model.Step.{Step}
use Rattle.journal.specs.declared.entries.Entry.{Entry}
use Rattle.run_model.specs.History.{Event, Noted}
use Rattle.run_model.specs.Journal.{journal_from}
use Rattle.run_model.specs.Links.{links_of}
use Rattle.run_model.specs.Run.{Given, facts_at, setup_at}

-- an accepted Host Number Of Completed Packets has no answer
abbrev pub answered_command : Command → List Command
answered_command (HostCompleted counts) = []
answered_command command = command ∷ []

abbrev pub answered_commands : List Command → List Command
answered_commands commands = flat_map answered_command commands

-- the commands that a controller accepts in a call with an answer that says so
abbrev pub answered_after : Facts → Step → List Command
answered_after facts step = answered_commands (commands_accepted_after facts step)

-- those of all calls so far
abbrev pub answered_of : Setup → List Step → List Command
answered_of setup past = answered_commands (commands_accepted setup past)

-- the lines of a call on the controller of a station, which comes after these events
abbrev pub call_lines : Given → ℕ → Step → List Event → List Entry
call_lines given station step history =
    journal_from (links_of history)
    (map (Noted station) (notes_after (setup_at given station) (facts_at given station history) step))
