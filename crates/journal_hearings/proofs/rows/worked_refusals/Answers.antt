-- Proof of `rows::worked_refusals`: no packet was heard in the turn.
use Rattle.std.proofs.Common.{◌≡◌, ℕ, true, false, List, sym, ◌∙◌, refl}
use Rattle.ble_base.specs.declared.roles.Side.TheVariants.{A}
use Rattle.journal.specs.declared.entries.Entry.{Entry}
use Rattle.journal_hearings.specs.Taken.{HasHeardConnect}
use Rattle.journal_hearings.proofs.HeardInTurn.{has_heard, heard_in_turn}
use Rattle.journal_hearings.proofs.rows.worked_refusals.Goals as goal

refused : (number : ℕ) (front : List Entry) → has_heard A front ≡ false → HasHeardConnect A number front → ⊥
refused number front none has = let h : true ≡ false = sym (heard_in_turn A number front has) ∙ none in absurd cc

pub returns : goal.returns
returns c = record { unheard = refused _ _ refl; lost = refused _ _ refl; other_turn = refused _ _ refl; other_side = refused _ _ refl }
