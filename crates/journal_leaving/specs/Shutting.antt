-- Why a link is shut in a call of a run, by the lines before the call (Core 5.2, volume 6 part B, sections 4.5.2, 5.1.6, 5.2
-- and 5.5.1, and volume 4 part E, section 7.3.2).
use Rattle.std.specs.Prelude.{◌≡◌, ℕ, Bool, List, [], ◌∷◌, Some}
use Rattle.ble_base.specs.ErrorCodes.{success}
use Rattle.ble_base.specs.declared.error_codes.ErrCode.{ErrCode}
use Rattle.journal_controls.specs.controller_model.Host.{commands_accepted_after}
use Rattle.journal_controls.specs.controller_model.Step.{Step, TurnBegins, TurnEnds}
use Rattle.hci_cmd.specs.declared.command.Command.TheVariants.{Reset}
use Rattle.journal_controls.specs.journal_ends.Asked.{Words}
use Rattle.journal_controls.specs.run_model.History.{Event}
use Rattle.journal_controls.specs.run_model.Journal.{journal_of, side_of}
use Rattle.journal_controls.specs.run_model.Links.{links_of}
use Rattle.journal_controls.specs.run_model.Run.{Given, facts_at}
use Rattle.journal_leaving.specs.Reasons.{due_on, ending_on}

pub data IsShutIn (words : Words) (given : Given) (before : List Event) (station : ℕ) (step : Step) (handle : ℕ) (reason : ErrCode)
    : Type 0 where
  -- the call completes a Reset; the code 00 is our choice
  reset : commands_accepted_after (facts_at given station before) step ≡ Reset ∷ [] → reason.0 ≡ success
      → IsShutIn words given before station step handle reason
  -- a turn begins in which it is due
  overdue : (slot : ℕ) (on : Bool) → step ≡ TurnBegins slot on
      → due_on words (side_of station) ((links_of before).link_of station handle) (journal_of before) ≡ Some reason.0
      → IsShutIn words given before station step handle reason
  -- a turn ends at the end of which it is to end
  leaving : step ≡ TurnEnds
      → ending_on words (side_of station) ((links_of before).link_of station handle) (journal_of before) ≡ Some reason
      → IsShutIn words given before station step handle reason
