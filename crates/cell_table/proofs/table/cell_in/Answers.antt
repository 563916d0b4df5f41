-- The proof of `table::cell_in`.
use Rattle.std.proofs.Common.{◌≡◌, true, is_some, subst, sym, true≢false}
use Rattle.cell_table.proofs.InPlaces.{is_within}
use Rattle.cell_table.proofs.table.cell_in.Goals as goal

pub bounds : goal.bounds
bounds c = is_within c.args.place c.args.places.now c.requires

pub unreachable-requires : goal.unreachable-requires
unreachable-requires c = absurd (true≢false (sym (subst (λ x. is_some x ≡ true) c.in-None.is c.requires)))
