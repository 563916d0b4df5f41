-- The answers of `hosting::answer_at`.
use Rattle.std.proofs.Common.{◌≡◌, false, get_or, is_some, None, rules}
use Rattle.link_end.specs.link_model.Step.{RequestAnswered}
use Rattle.open_links.specs.OpenLinks.{link_after}
use Rattle.open_links.proofs.InTables.{changed_at, unchanged_at}
use Rattle.open_links.proofs.hosting.answer_at.Goals as goal

pub returns-then-holds : goal.returns-then-holds
returns-then-holds g c = λ links know.
    changed_at (link_after (RequestAnswered c.args.answer)) _ _ c.args.handle _ c.get_mut.ensures.value links know
    (λ link at knows. c.answer.ensures link knows)

pub returns-else-holds : goal.returns-else-holds
returns-else-holds g c = λ links know.
    let none : is_some (get_or c.args.places.now c.args.handle None) ≡ false = search rules in
    unchanged_at (link_after (RequestAnswered c.args.answer)) c.args.handle _ none links know
