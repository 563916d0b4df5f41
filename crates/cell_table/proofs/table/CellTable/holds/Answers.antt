-- The proof of `CellTable::holds`.
use Rattle.std.proofs.Common.{◌≡◌, false, nat_lt, is_some, sym, ap, ◌∙◌, arith}
use Rattle.cell_table.proofs.InPlaces.{some_at, past_it}
use Rattle.cell_table.proofs.table.CellTable.holds.Goals as goal

pub returns-then-place : goal.returns-then-place
returns-then-place g c =
    rw (← c.self.view_is)
    (c.is_some.ensures ∙ sym (some_at c.self.inside.cells c.args.place c.self.inside.places c.self.invariant.held))

pub returns-else-place : goal.returns-else-place
returns-else-place g c =
    let past = past_it c.args.place c.self.inside.places (omega (arith, c.self.invariant.long, c.if-place.false)) in
    let test : nat_lt c.args.place g.row.N ≡ false = grind (arith, c.if-place.false) in
    rw (← c.self.view_is)
    (test ∙ sym (some_at c.self.inside.cells c.args.place c.self.inside.places c.self.invariant.held ∙ ap is_some past))
