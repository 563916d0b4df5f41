-- The answers of `keys::words_at`.
use Rattle.std.proofs.Common.{◌≡◌, false, get_or, is_some, None, rules}
use Rattle.link_end.specs.link_model.Step.{WordsGiven}
use Rattle.open_links.specs.OpenLinks.{link_after}
use Rattle.open_links.proofs.InTables.{changed_at, unchanged_at}
use Rattle.open_links.proofs.keys.words_at.Goals as goal

pub returns-then-holds : goal.returns-then-holds
returns-then-holds g c = λ links know.
    changed_at (link_after (WordsGiven c.args.skd_s c.args.iv_s)) _ _ c.args.handle _ c.get_mut.ensures.value links
    know (λ link at knows. c.words.ensures link knows)

pub returns-else-holds : goal.returns-else-holds
returns-else-holds g c = λ links know.
    let none : is_some (get_or c.args.places.now c.args.handle None) ≡ false = search rules in
    unchanged_at (link_after (WordsGiven c.args.skd_s c.args.iv_s)) c.args.handle _ none links know
