-- How a call of the program ends, and where its work can be done (our choice).
use Rattle.std.specs.Prelude.{◌≡◌, ℕ, List, All, Some}
use Rattle.std.specs.List.{AllZip}
use Rattle.outside.specs.Count.{HasRisen}
use Rattle.ble_base.specs.declared.Config.{Config}
use Rattle.journal.specs.declared.entries.Entry.{Entry}
use Rattle.run_model.specs.Pair.{given_of, EndsUnseen}
use Rattle.radio_replay.specs.Schedule.{Right, schedule_of}
use Rattle.radio_replay.specs.Script.{Turn}
use Rattle.program.specs.declared.commands.Command.{Command}
use Rattle.program.specs.declared.commands.Command.TheVariants.{Make, Pair}
use Rattle.program.specs.Causes.{OfPair, HasCause}
use Rattle.program.specs.Claims.{Claims}
use Rattle.program.specs.Commands.{command_of, files_of, files_in}
use Rattle.program.specs.FileRow.{FileRow}
use Rattle.program.specs.Reading.{IsWithinLimit}
use Rattle.program.specs.Status.{Outcome, exit_status, last_words}
use Rattle.program.specs.World.{Reads, World}

-- the ending of a call with these words, which saw this of the world, wrote this to the error stream, and gave this
-- status, with these claims of journals
pub record IsEnding (claims : Claims) (words : List (List ℕ)) (world : World) (says : List ℕ → Type 0) (status : ℕ) : Type 0 where
  -- how the call ended
  pub outcome : Outcome
  -- the status is the number of that outcome
  pub is_status : status ≡ exit_status outcome
  -- the words, the files and the output are as they must be for that outcome; out of memory alone has no cause in them
  pub has_cause : HasCause claims (command_of words) world outcome
  -- the line of that outcome was written, or a prefix of it
  pub is_said : says (last_words (files_in words) outcome)

-- ---- work that can be done

-- the content of a file is known and within its limit
abbrev pub IsKnown : Reads → FileRow → List ℕ → Type 0
IsKnown reads file octets = (reads.content file.name ≡ Some octets) × IsWithinLimit file octets

-- `pair` can do its work over these octets: the schedule is in its grammar, with at most 100,000 turns; and no damage
-- would be judged good
pub record CanPair (a b schedule : List ℕ) : Type 0 where
  pub config_a : Config
  pub config_b : Config
  pub turns : List Turn
  pub is_right : schedule_of schedule ≡ Right config_a config_b turns
  pub none_unseen : (turn packet : ℕ) (sent heard : List ℕ) (journal : List Entry)
      → ¬ EndsUnseen (given_of a b (record { a = config_a; b = config_b; turns = turns })) turn packet sent heard
      journal

-- the work of a command over the octets of its files can be done
abbrev pub CanWork : Command → List (List ℕ) → Type 0
CanWork (Pair names) contents = OfPair CanPair contents
CanWork (Make number) contents = Unit {0}

-- a command can do its work: the contents of its files are known and within their limits, and the work over them can be
-- done
pub record CanPerform (command : Command) (reads : Reads) : Type 0 where
  pub contents : List (List ℕ)
  pub are_known : AllZip (IsKnown reads) (files_of command) contents
  pub can : CanWork command contents

-- no count of faults of the files of a command has risen, and not that of the output
pub record NoneHasRisen (command : Command) (world : World) : Type 0 where
  pub reads : All (λ file. ¬ HasRisen (world.reads.faults_before file.name) (world.reads.faults_now file.name))
      (files_of command)
  pub writes : ¬ HasRisen world.writes.faults_before world.writes.faults_now

-- the files of a command and the output are reliable
pub record IsReliable (command : Command) (world : World) : Type 0 where
  pub reads : All (λ file. world.reads.is_reliable file.name) (files_of command)
  pub writes : world.writes.is_reliable
