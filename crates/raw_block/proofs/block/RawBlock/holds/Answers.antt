-- The proof of `RawBlock::holds`.
use Rattle.std.proofs.Common.{sym, ap, ◌∙◌, is_some, arith}
use Rattle.raw_block.specs.declared.cell.Cell.TheVariants.{Held}
use Rattle.raw_block.specs.Cells.{value_in}
use Rattle.raw_block.proofs.Values.{get-values_of, held_in}
use Rattle.raw_block.proofs.Chains.{within}
use Rattle.raw_block.proofs.block.RawBlock.holds.Goals as goal

pub returns-then-place : goal.returns-then-place
returns-then-place g c =
    let e = ap is_some (get-values_of c.self.inside.region.places.held c.args.cell.0 ∙ ap value_in c.get.ensures) in
    rw (← c.self.view_is) (λ is. e ∙ sym c.is_held.ensures ∙ is, λ some. c.is_held.ensures ∙ sym e ∙ some)

pub returns-else-place : goal.returns-else-place
returns-else-place g c = (
  λ h. absurd (cc),
  λ some.
      let cell = held_in c.self.inside.region.places.held c.args.cell.0 (rw (← c.self.view_is) at some) in
      absurd (omega (arith, within g.row.N c.self.inside.region.places.held c.self.inside.first c.self.invariant.1 c.args.cell.0 (Held cell.0) cell.1)),
)
