-- The proof of `CellTable::put`.
use Rattle.std.proofs.Common.{◌≡◌, None, get_or, refl, subst, sym, arith}
use Rattle.cell_table.proofs.InPlaces.{free_at, is_room, values_put, IsSound-put}
use Rattle.cell_table.proofs.table.CellTable.put.Goals as goal

pub invariant_of-self : goal.invariant_of-self
invariant_of-self g c =
    let free = (free_at c.self.inside.cells c.args.place c.self.inside.places c.self.invariant.held
    (subst (λ values. get_or values c.args.place None ≡ None) (sym c.self.view_is) c.requires.free)) in
    rw (c.in-Ok.ensures.held) (IsSound-put g.row.N c.self.inside.cells c.self.inside.places c.self.invariant
    c.args.place c.in-Ok.cell c.args.value c.in-Ok.ensures.was_free c.requires.within free)

pub unreachable-requires : goal.unreachable-requires
unreachable-requires g c =
    let free = (free_at c.self.inside.cells c.args.place c.self.inside.places c.self.invariant.held
    (subst (λ values. get_or values c.args.place None ≡ None) (sym c.self.view_is) c.requires.free)) in
    let full = c.in-Err.ensures.full.0 refl in
    omega (
      arith,
      full,
      c.self.invariant.total,
      c.self.invariant.long,
      c.requires.within,
      is_room c.args.place c.self.inside.places (omega (arith, c.self.invariant.long, c.requires.within)) free,
    )

pub returns : goal.returns
returns g c =
    rw (← c.self.view_is, c.in-Ok.ensures.held)
    (values_put g.row.N c.self.inside.cells c.self.inside.places c.self.invariant c.args.place c.in-Ok.cell
    c.args.value c.in-Ok.ensures.was_free)
