-- How many rows there may be: no line adds more to the rows and the turns that wait than one.
use Rattle.std.proofs.Common.{◌+◌, ◌≤◌, arith}
use Rattle.journal.specs.declared.entries.Entry.{Entry}
use Rattle.journal.specs.declared.entries.Entry.TheVariants.{Turn, Fed}
use Rattle.chart.specs.declared.places.Place.{Place}
use Rattle.chart.specs.Chart.{place_after, row_after_turns}

-- the row of the next line is no further on than the turns that wait allow
next_row_within : (p : Place) → row_after_turns p ≤ p.row + p.waiting
next_row_within p = grind arith

pub one_more_at_most : (p : Place) (entry : Entry)
    → (place_after p entry).row + (place_after p entry).waiting ≤ p.row + p.waiting + 1
one_more_at_most p (Turn slot a b) = omega arith
one_more_at_most p (Fed side octets) = omega (arith, next_row_within p)
one_more_at_most p _ = omega (arith, next_row_within p)
