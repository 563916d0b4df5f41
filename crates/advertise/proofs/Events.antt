-- Events of an advertiser, one after another.
use Rattle.std.proofs.Common.{◌≡◌, ℕ, zero, suc, ◌+◌, ◌*◌, ◌≤◌, List, [], ◌∷◌, None, Some, ap, ◌∙◌, arith}
use Rattle.std.specs.Prelude.{slice_get}
use Rattle.advertise.specs.Advertising.{BeginWhenDue, due_after, nth_due}
use Rattle.scan_init.specs.Windows.{slots_of}

-- at once
pub due_at_once : (interval since number : ℕ) → nth_due interval since number ≡ since + number * slots_of interval
due_at_once interval since zero = omega arith
due_at_once interval since (suc number) = omega (arith, due_at_once interval since number)

some_equal : (a b : ℕ) → Some a ≡ Some b → a ≡ b
some_equal a b e = cc

pub events_apart : (interval since number one next : ℕ) (slots : List ℕ) → BeginWhenDue interval since slots
    → slice_get slots number ≡ Some one → slice_get slots (number + 1) ≡ Some next → one + slots_of interval ≤ next
events_apart interval since number one next [] begin first second = absurd cc
events_apart interval since zero one next (slot ∷ []) begin first second =
    absurd (no next second)
  where
    no : (n : ℕ) → None ≡ Some n → ⊥
    no n e = cc
events_apart interval since zero one next (slot ∷ later ∷ slots) begin first second =
    let here = some_equal slot one first in
    let after = some_equal later next second in
    omega (arith, begin.1.0)
events_apart interval since (suc number) one next (slot ∷ slots) begin first second =
    events_apart interval (due_after interval slot) number one next slots begin.1 first
    (ap (slice_get (slot ∷ slots)) (let e : suc (number + 1) ≡ suc number + 1 = omega arith in e) ∙ second)
