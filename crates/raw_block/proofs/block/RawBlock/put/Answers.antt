-- The proof of `RawBlock::put`.
use Rattle.std.proofs.Common.{◌≡◌, sym, subst, ap, ◌∙◌, Some, arith}
use Rattle.std.specs.FinMap as map
use Rattle.raw_block.specs.declared.cell.Cell.TheVariants.{Free}
use Rattle.raw_block.specs.Cells.{value_in, values_of, IsSound}
use Rattle.raw_block.proofs.Values.{get-values_of, values_of-hold}
use Rattle.raw_block.proofs.Rows.{taken_within}
use Rattle.raw_block.proofs.Chains.{is_full, first_is_free, not_free, IsSound-put}
use Rattle.raw_block.proofs.block.RawBlock.put.Goals as goal

pub returns-then-cell-clause-full : goal.returns-then-cell-clause-full
returns-then-cell-clause-full g c =
    let full = is_full g.row.N c.self.inside.region.places.held c.self.inside.first c.self.invariant.1 c.if-cell.true in
    (λ h. rw (← c.self.view_is) full, λ h. cc)

pub returns-then-cell-clause-room : goal.returns-then-cell-clause-room
returns-then-cell-clause-room g c =
    let full = is_full g.row.N c.self.inside.region.places.held c.self.inside.first c.self.invariant.1 c.if-cell.true in
    let same : map.len c.args.self.now ≡ g.row.N = rw (← c.self.view_is) full in
    (λ h. absurd (cc), λ less. absurd (omega (arith, same, less)))

pub invariant_of-self : goal.invariant_of-self
invariant_of-self g c =
    let there = c.swap.ensures.there ∙ ap Some c.in-Free.is in let after = c.swap.ensures.after in (
      after.region,
      subst (λ cells. IsSound g.row.N cells c.in-Free.next) (sym after.held)
          (IsSound-put g.row.N c.self.inside.region.places.held c.self.inside.first c.self.invariant.1 c.in-Free.next c.args.value there),
    )

pub unreachable-requires : goal.unreachable-requires
unreachable-requires g c =
    let free = first_is_free g.row.N c.self.inside.region.places.held c.self.inside.first c.self.invariant.1 c.if-cell.false in
    not_free c.self.inside.region.places.held c.self.inside.first c.in-Held.field-0 (c.swap.ensures.there ∙ ap Some c.in-Held.is) free.next free.there

pub returns-clause-was_free : goal.returns-clause-was_free
returns-clause-was_free g c =
    let there = c.swap.ensures.there ∙ ap Some c.in-Free.is in
    rw (← c.self.view_is) (get-values_of c.self.inside.region.places.held c.self.inside.first ∙ ap value_in there)

pub returns-clause-held : goal.returns-clause-held
returns-clause-held g c =
    let cells = c.self.inside.region.places.held in let first = c.self.inside.first in
    let within = taken_within cells first (Free c.in-Free.next) (c.swap.ensures.there ∙ ap Some c.in-Free.is) in
    rw (← c.self.view_is) (ap values_of c.swap.ensures.after.held ∙ values_of-hold cells first within c.args.value)
