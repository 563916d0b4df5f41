-- What holds for a command holds for the words that give it.
use Rattle.std.proofs.Common.{◌≡◌, List, ℕ, [], Some, sym, subst}
use Rattle.std.specs.Option.{option_map_or}
use Rattle.program.specs.declared.commands.Command.{Command}
use Rattle.program.specs.Causes.{HasCause}
use Rattle.program.specs.Claims.{Claims}
use Rattle.program.specs.Commands.{command_of, files_of}
use Rattle.program.specs.Ending.{IsEnding}
use Rattle.program.specs.Status.{Outcome, exit_status, last_words}
use Rattle.program.specs.World.{World}

-- the ending of a command is that of the words that give it
pub ending_by_words : (claims : Claims) (words : List (List ℕ)) (command : Command) (world : World) (says : List ℕ → Type 0) (outcome : Outcome) (status : ℕ)
    → command_of words ≡ Some command → status ≡ exit_status outcome → HasCause claims (Some command) world outcome
    → says (last_words (files_of command) outcome) → IsEnding claims words world says status
ending_by_words claims words command world says outcome status is is_status cause said = record {
  outcome = outcome;
  is_status = is_status;
  has_cause = subst (λ given. HasCause claims given world outcome) (sym is) cause;
  is_said = subst (λ given. says (last_words (option_map_or files_of given []) outcome)) (sym is) said;
}
