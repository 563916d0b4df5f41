-- The proof of `RawBlock::take`.
use Rattle.std.proofs.Common.{subst, sym, ap, ◌∙◌, Some}
use Rattle.raw_block.specs.declared.cell.Cell.TheVariants.{Held}
use Rattle.raw_block.specs.Cells.{value_in, values_of, IsSound}
use Rattle.raw_block.proofs.Values.{get-values_of, held_in, values_of-free}
use Rattle.raw_block.proofs.Rows.{taken_within}
use Rattle.raw_block.proofs.Chains.{not_free, IsSound-take}
use Rattle.raw_block.proofs.block.RawBlock.take.Goals as goal

pub swap-requires : goal.swap-requires
swap-requires g c =
    let cell = held_in c.self.inside.region.places.held c.args.cell.0 (rw (← c.self.view_is) at c.requires) in
    (c.self.invariant.0, (Held cell.0, cell.1))

pub invariant_of-self : goal.invariant_of-self
invariant_of-self g c =
    let cells = c.self.inside.region.places.held in let after = c.swap.ensures.after in
    let cell = held_in cells c.args.cell.0 (rw (← c.self.view_is) at c.requires) in (
      after.region,
      subst (λ row. IsSound g.row.N row c.args.cell.0) (sym after.held) (IsSound-take g.row.N cells c.self.inside.first c.self.invariant.1 c.args.cell.0 cell.0 cell.1),
    )

pub unreachable-requires : goal.unreachable-requires
unreachable-requires g c =
    let cells = c.self.inside.region.places.held in
    let cell = held_in cells c.args.cell.0 (rw (← c.self.view_is) at c.requires) in
    not_free cells c.args.cell.0 cell.0 cell.1 c.in-Free.field-0 (c.swap.ensures.there ∙ ap Some c.in-Free.is)

pub returns-clause-value : goal.returns-clause-value
returns-clause-value g c =
    rw (← c.self.view_is) (get-values_of c.self.inside.region.places.held c.args.cell.0 ∙ ap value_in (c.swap.ensures.there ∙ ap Some c.in-Held.is))

pub returns-clause-rest : goal.returns-clause-rest
returns-clause-rest g c =
    let cells = c.self.inside.region.places.held in
    let cell = held_in cells c.args.cell.0 (rw (← c.self.view_is) at c.requires) in
    let within = taken_within cells c.args.cell.0 (Held cell.0) cell.1 in
    rw (← c.self.view_is) (ap values_of c.swap.ensures.after.held ∙ values_of-free cells c.args.cell.0 within c.self.inside.first)
