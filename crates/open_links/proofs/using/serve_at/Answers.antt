-- The answers of `using::serve_at`.
use Rattle.std.proofs.Common.{◌≡◌, false, get_or, is_some, None, rules}
use Rattle.open_links.specs.OpenLinks.{link_served}
use Rattle.open_links.proofs.InTables.{changed_at, unchanged_at}
use Rattle.open_links.proofs.using.serve_at.Goals as goal

pub returns-then-holds : goal.returns-then-holds
returns-then-holds g c = λ links know.
    changed_at (link_served c.args.slot.0) _ _ c.args.handle _ c.get_mut.ensures.value links know (λ link at knows.
    c.serve.ensures link knows)

pub returns-else-holds : goal.returns-else-holds
returns-else-holds g c = λ links know.
    let none : is_some (get_or c.args.places.now c.args.handle None) ≡ false = search rules in
    unchanged_at (link_served c.args.slot.0) c.args.handle _ none links know
