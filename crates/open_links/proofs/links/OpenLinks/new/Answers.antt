-- The answers of `OpenLinks::new`.
use Rattle.std.proofs.Common.{None, replicate, subst, sym}
use Rattle.open_links.specs.Knowing.{KnowsPlaces}
use Rattle.open_links.proofs.Empty.{empty_known, new_known, new_sound}
use Rattle.open_links.proofs.links.OpenLinks.new.Goals as goal

-- no link is under any handle, and no data waits
pub returns-clause-knows : goal.returns-clause-knows
returns-clause-knows g c =
    new_known g.row.L _
    (subst (λ places. KnowsPlaces places (replicate g.row.L None)) (sym c.in_ok-places.ensures) (empty_known g.row.L))
    c.in_ok-tx.ensures.empty c.in_ok-tx.ensures.no_credit c.in_ok-rx.ensures

pub invariant_of-result : goal.invariant_of-result
invariant_of-result g c = (
  c.requires.links,
  new_sound g.row.L _
      (subst (λ places. KnowsPlaces places (replicate g.row.L None)) (sym c.in_ok-places.ensures) (empty_known g.row.L))
      c.in_ok-tx.ensures.empty c.in_ok-tx.ensures.no_credit c.in_ok-rx.ensures,
)
