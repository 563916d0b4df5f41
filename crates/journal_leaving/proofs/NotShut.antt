-- A line of a link that is shut is refused where its end does not leave it.
use Rattle.std.proofs.Common.{◌≡◌, ℕ, false, true, Some, None, List, sym, ◌∙◌}
use Rattle.ble_base.specs.ErrorCodes.{success}
use Rattle.ble_base.specs.declared.error_codes.ErrCode.{ErrCode}
use Rattle.ble_base.specs.declared.roles.Side.{Side}
use Rattle.journal.specs.declared.entries.Entry.{Entry}
use Rattle.journal_leaving.specs.Reasons.{IsShutAs, ending_on, leaving, overdue, packets_passed, reset}
use Rattle.journal_controls.specs.journal_ends.Asked.{Words}

pub not_shut : (words : Words) (front : List Entry) (side : Side) (number : ℕ) (reason : ErrCode) → (reason.0 ≡ success → ⊥) → packets_passed front ≡ true
    → ending_on words side number front ≡ None → IsShutAs words front side number reason → ⊥
not_shut words front side number reason code passed stays (reset is completes) = code is
not_shut words front side number reason code passed stays (overdue before due) = let h : false ≡ true = sym before ∙ passed in absurd cc
not_shut words front side number reason code passed stays (leaving is) = let h : None ≡ Some reason = sym stays ∙ is in absurd cc
