-- The answers of `OpenLinks::link`.
use Rattle.std.proofs.Common.{◌≡◌, false, None, get_or, is_some, subst, sym, rules}
use Rattle.open_links.specs.OpenLinks.{link_at}
use Rattle.open_links.specs.Knowing.{HeldLinks, Knows, KnowsPlace}
use Rattle.open_links.proofs.InTables.{at_known, said_of_none}
use Rattle.open_links.proofs.Steps.{knows_place}
use Rattle.open_links.proofs.links.OpenLinks.link.Goals as goal

pub returns-then-holds : goal.returns-then-holds
returns-then-holds g c = λ links received known.
    let held = subst (λ (h : HeldLinks). Knows h links received) (sym c.self.view_is) known in
    subst (λ place. KnowsPlace place (link_at c.args.handle links)) c.get.ensures
    (at_known c.args.handle _ links (knows_place _ links received held))

pub returns-else-holds : goal.returns-else-holds
returns-else-holds g c = λ links received known.
    let held = subst (λ (h : HeldLinks). Knows h links received) (sym c.self.view_is) known in
    let none : is_some (get_or c.self.inside.places c.args.handle None) ≡ false = search rules in
    said_of_none (KnowsPlace None) c.args.handle _ none tt links (knows_place _ links received held)
