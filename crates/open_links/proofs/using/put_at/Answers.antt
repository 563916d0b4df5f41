-- The answers of `using::put_at`.
use Rattle.std.proofs.Common.{◌≡◌, length, set, Some, None, ap, subst, sym, ◌∙◌, arith, rules}
use Rattle.std.proofs.lemmas.List.{length-set}
use Rattle.open_links.specs.OpenLinks.{with_change_from}
use Rattle.open_links.specs.Knowing.{KnowsPlaces}
use Rattle.open_links.proofs.InTables.{set_again, set_known, set_past}
use Rattle.open_links.proofs.using.put_at.Goals as goal

pub returns-then-place-places : goal.returns-then-place-places
returns-then-place-places g c = λ links known know knows.
    let is : c.put.new.self ≡ set c.args.places.now c.args.handle c.args.link =
    c.put.ensures ∙ ap (λ p. set p c.args.handle (Some c.in-Some.link)) c.take_at.ensures.gone
    ∙ set_again c.args.handle None (Some c.in-Some.link) c.args.places.now ∙ ap (set c.args.places.now
    c.args.handle) (sym c.in-Some.is) in
    subst (λ p. KnowsPlaces p (with_change_from 0 c.args.handle (λ place. known) links)) (sym is)
    (set_known (λ place. known) c.args.link c.args.handle c.args.places.now links know knows)

pub returns-else-place-places : goal.returns-else-place-places
returns-else-place-places g c = λ links known know knows.
    let is : c.take_at.new.places ≡ set c.args.places.now c.args.handle c.args.link =
    c.take_at.ensures.gone ∙ set_past c.args.handle None c.args.link c.args.places.now
    (omega (
      arith,
      c.if-place-places.false,
      c.places.ensures.count,
      ap length c.take_at.ensures.gone,
      length-set
          c.args.places.now c.args.handle None,
    )) in
    subst (λ p. KnowsPlaces p (with_change_from 0 c.args.handle (λ place. known) links)) (sym is)
    (set_known (λ place. known) c.args.link c.args.handle c.args.places.now links know knows)

pub returns-in_default : goal.returns-in_default
returns-in_default g c = λ links known know knows.
    let none : c.args.link ≡ None = search (rules, c.in_default) in
    let is : c.take_at.new.places ≡ set c.args.places.now c.args.handle c.args.link =
    c.take_at.ensures.gone ∙ ap (set c.args.places.now c.args.handle) (sym none) in
    subst (λ p. KnowsPlaces p (with_change_from 0 c.args.handle (λ place. known) links)) (sym is)
    (set_known (λ place. known) c.args.link c.args.handle c.args.places.now links know knows)
