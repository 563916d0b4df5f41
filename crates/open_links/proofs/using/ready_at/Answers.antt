-- The answers of `using::ready_at`.
use Rattle.std.proofs.Common.{◌≡◌, false, get_or, is_some, None, refl, subst, rules}
use Rattle.link_end.specs.link_model.Step.{PduFixed}
use Rattle.open_links.specs.OpenLinks.{link_after_in_event}
use Rattle.open_links.specs.Knowing.{BankGoes, HoldsPlace}
use Rattle.open_links.proofs.InTables.{changed_at, said_of, said_of_none, unchanged_at}
use Rattle.open_links.proofs.using.ready_at.Goals as goal

pub returns-then-holds-clause-knows : goal.returns-then-holds-clause-knows
returns-then-holds-clause-knows g c = λ links know holds.
    changed_at (link_after_in_event PduFixed) _ _ c.args.handle c.args.places.now c.get_mut.ensures.value links know
    (λ link at knows. c.ready.ensures.knows link knows (subst (HoldsPlace c.args.tx.now) at holds))

pub returns-else-holds-clause-knows : goal.returns-else-holds-clause-knows
returns-else-holds-clause-knows g c = λ links know holds.
    let none : is_some (get_or c.args.places.now c.args.handle None) ≡ false = search rules in
    unchanged_at (link_after_in_event PduFixed) c.args.handle c.args.places.now none links know

pub returns-then-holds-clause-bank : goal.returns-then-holds-clause-bank
returns-then-holds-clause-bank g c =
    said_of (λ place. BankGoes (link_after_in_event PduFixed) place c.args.tx.now c.args.tx.now) _ c.args.handle
    c.args.places.now c.get_mut.ensures.value
    (λ link knows. c.ready.ensures.bank link knows)

pub returns-else-holds-clause-bank : goal.returns-else-holds-clause-bank
returns-else-holds-clause-bank g c = λ links know.
    let none : is_some (get_or c.args.places.now c.args.handle None) ≡ false = search rules in
    said_of_none (λ place. BankGoes (link_after_in_event PduFixed) place c.args.tx.now c.args.tx.now) c.args.handle
    c.args.places.now none refl links know
