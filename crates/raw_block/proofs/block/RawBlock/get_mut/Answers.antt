-- The proof of `RawBlock::get_mut`.
use Rattle.std.proofs.Common.{refl, sym, subst, ap, ◌∙◌, Some, IsSome, length-set}
use Rattle.raw_block.specs.declared.cell.Cell.TheVariants.{Held}
use Rattle.raw_block.specs.Cells.{value_of, value_in}
use Rattle.raw_block.proofs.Values.{get-values_of, held_in, values_of-hold}
use Rattle.raw_block.proofs.Rows.{taken_within}
use Rattle.raw_block.proofs.Chains.{same_cell, IsSound-write}
use Rattle.raw_block.proofs.block.RawBlock.get_mut.Goals as goal

pub get_mut-requires : goal.get_mut-requires
get_mut-requires g c =
    let cell = held_in c.self.inside.region.places.held c.args.cell.0 (rw (← c.self.view_is) at c.requires) in
    (sym c.self.invariant.0.starts, (Held cell.0, cell.1))

pub value_mut-requires : goal.value_mut-requires
value_mut-requires g c =
    let cell = held_in c.self.inside.region.places.held c.args.cell.0 (rw (← c.self.view_is) at c.requires) in
    subst (λ x. IsSome (value_of x)) (same_cell c.self.inside.region.places.held c.args.cell.0 (Held cell.0) c.get_mut.result.now cell.1 c.get_mut.ensures.value) refl

pub invariant_of-self-lent : goal.invariant_of-self-lent
invariant_of-self-lent g c w =
    let cells = c.self.inside.region.places.held in let region = c.self.invariant.0 in
    let cell = held_in cells c.args.cell.0 (rw (← c.self.view_is) at c.requires) in (
      record {
        starts = region.starts;
        long = length-set cells c.args.cell.0 (Some (Held w)) ∙ region.long;
        right_at = region.right_at;
        right_long = region.right_long;
        from = region.from;
      },
      IsSound-write g.row.N cells c.self.inside.first c.self.invariant.1 c.args.cell.0 cell.0 w cell.1,
    )

pub returns : goal.returns
returns g c =
    let cells = c.self.inside.region.places.held in
    let cell = held_in cells c.args.cell.0 (rw (← c.self.view_is) at c.requires) in
    let within = taken_within cells c.args.cell.0 (Held cell.0) cell.1 in
    let value = get-values_of cells c.args.cell.0 ∙ ap value_in c.get_mut.ensures.value ∙ ap value_of c.value_mut.ensures.value in (
      (refl, λ w. rw (← c.self.view_is) (values_of-hold cells c.args.cell.0 within w)),
      record { lends = tt; value = rw (← c.self.view_is) value },
    )
