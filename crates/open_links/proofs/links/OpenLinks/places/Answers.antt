-- The answer of `OpenLinks::places`.
use Rattle.std.proofs.Common.{subst, sym, ◌∙◌}
use Rattle.open_links.specs.Knowing.{HeldLinks, Knows}
use Rattle.open_links.proofs.Counts.{count_known}
use Rattle.open_links.proofs.Steps.{knows_place}
use Rattle.open_links.proofs.links.OpenLinks.places.Goals as goal

pub returns-clause-known : goal.returns-clause-known
returns-clause-known g c = λ links received known.
    let held = subst (λ (h : HeldLinks). Knows h links received) (sym c.self.view_is) known in
    c.places.ensures.count ∙ count_known _ links (knows_place _ links received held)
