-- The proof of `RawBlock::get`.
use Rattle.std.proofs.Common.{refl, sym, subst, ap, ◌∙◌, IsSome}
use Rattle.raw_block.specs.declared.cell.Cell.TheVariants.{Held}
use Rattle.raw_block.specs.Cells.{value_of, value_in}
use Rattle.raw_block.proofs.Values.{get-values_of, held_in}
use Rattle.raw_block.proofs.Chains.{same_cell}
use Rattle.raw_block.proofs.block.RawBlock.get.Goals as goal

pub get-requires : goal.get-requires
get-requires g c =
    let cell = held_in c.self.inside.region.places.held c.args.cell.0 (rw (← c.self.view_is) at c.requires) in
    (sym c.self.invariant.0.starts, (Held cell.0, cell.1))

pub value-requires : goal.value-requires
value-requires g c =
    let cell = held_in c.self.inside.region.places.held c.args.cell.0 (rw (← c.self.view_is) at c.requires) in
    subst (λ x. IsSome (value_of x)) (same_cell c.self.inside.region.places.held c.args.cell.0 (Held cell.0) c.get.result.now cell.1 c.get.ensures) refl

pub returns : goal.returns
returns g c = rw (← c.self.view_is) (get-values_of c.self.inside.region.places.held c.args.cell.0 ∙ ap value_in c.get.ensures ∙ ap value_of c.value.ensures)
