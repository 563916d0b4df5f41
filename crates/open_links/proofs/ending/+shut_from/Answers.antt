-- The answer of `ending::shut_from`.
use Rattle.std.proofs.Common.{◌≡◌, None, get_or, set, ap, subst, sym, ◌∙◌, arith}
use Rattle.open_links.specs.Knowing.{KnowsPlace}
use Rattle.open_links.proofs.InTables.{none_set, swept_from}
use Rattle.open_links.proofs.ending.+shut_from.Goals as goal

-- the place of the handle, and those after it
pub returns-clause-knows : goal.returns-clause-knows
returns-clause-knows g t c =
    let old = c.args.places.now in
    let gone : get_or c.take_at-is_open.new.places c.args.handle None ≡ None =
    ap (λ p. get_or p c.args.handle None) c.take_at-is_open.ensures.gone ∙ none_set c.args.handle old in
    swept_from c.args.handle old _ _ (omega (arith, c.if-handle-places.false, c.places.ensures.count))
    (c.take_at-is_open.ensures.gone ∙ ap (set old c.args.handle) (sym gone)) c.shut_from.ensures.places
    c.shut_from.ensures.before
    (λ place. None) (λ link knows. subst (λ held. KnowsPlace held None) (sym gone) tt) c.shut_from.ensures.knows
