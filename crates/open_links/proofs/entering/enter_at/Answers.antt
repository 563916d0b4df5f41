-- The answers of `entering::enter_at`.
use Rattle.std.proofs.Common.{◌≡◌, false, get_or, is_some, ◌++◌, None, refl, subst, sym, append-nil, rules}
use Rattle.open_links.specs.Turns.{entry_at, link_entered, notes_entering, want_entering}
use Rattle.open_links.specs.Knowing.{HoldsPlace}
use Rattle.open_links.proofs.InTables.{changed_at, said_of, said_of_none, unchanged_at}
use Rattle.open_links.proofs.entering.enter_at.Goals as goal

pub returns-then-not-holds-clause-knows : goal.returns-then-not-holds-clause-knows
returns-then-not-holds-clause-knows g c = λ links know holds.
    let none : is_some (get_or c.args.places.now c.args.handle None) ≡ false = search rules in
    unchanged_at (link_entered c.args.slot.0) c.args.handle c.args.places.now none links know

pub returns-clause-knows : goal.returns-clause-knows
returns-clause-knows g c = λ links know holds.
    changed_at (link_entered c.args.slot.0) _ _ c.args.handle c.args.places.now c.get_mut.ensures.value links know
    (λ link at knows. (c.enter_with.ensures.enters link knows (subst (HoldsPlace c.args.tx.now) at holds)).knows)

pub returns-then-not-holds-clause-notes : goal.returns-then-not-holds-clause-notes
returns-then-not-holds-clause-notes g c = λ links know holds.
    let none : is_some (get_or c.args.places.now c.args.handle None) ≡ false = search rules in
    said_of_none (λ place. c.args.out.now.items ≡ c.args.out.now.items ++ notes_entering c.args.slot.0 place)
    c.args.handle c.args.places.now none (sym (append-nil c.args.out.now.items)) links know

pub returns-clause-notes : goal.returns-clause-notes
returns-clause-notes g c =
    said_of (λ place. HoldsPlace c.args.tx.now place → c.enter_with.new.out.items ≡ c.args.out.now.items ++
    notes_entering c.args.slot.0 place) _ c.args.handle c.args.places.now c.get_mut.ensures.value
    (λ link knows holds. (c.enter_with.ensures.enters link knows holds).notes)

pub returns-then-not-holds-clause-entry : goal.returns-then-not-holds-clause-entry
returns-then-not-holds-clause-entry g c = λ links know holds.
    let none : is_some (get_or c.args.places.now c.args.handle None) ≡ false = search rules in
    said_of_none (λ place. None ≡ entry_at c.args.slot.0 place) c.args.handle c.args.places.now none refl links know

pub returns-clause-entry : goal.returns-clause-entry
returns-clause-entry g c =
    said_of (λ place. HoldsPlace c.args.tx.now place → c.enter_with.result ≡ entry_at c.args.slot.0 place) _
    c.args.handle c.args.places.now c.get_mut.ensures.value
    (λ link knows holds. (c.enter_with.ensures.enters link knows holds).entry)

pub returns-then-not-holds-clause-wants : goal.returns-then-not-holds-clause-wants
returns-then-not-holds-clause-wants g c = λ links know holds.
    let none : is_some (get_or c.args.places.now c.args.handle None) ≡ false = search rules in
    said_of_none (λ place. c.args.plan.now.wants ≡ c.args.plan.now.wants ++ want_entering c.args.slot.0
    c.args.handle place) c.args.handle c.args.places.now none (sym (append-nil c.args.plan.now.wants)) links know

pub returns-clause-wants : goal.returns-clause-wants
returns-clause-wants g c =
    said_of (λ place. HoldsPlace c.args.tx.now place → c.enter_with.new.plan.wants ≡ c.args.plan.now.wants ++
    want_entering c.args.slot.0 c.args.handle place) _ c.args.handle c.args.places.now c.get_mut.ensures.value
    (λ link knows holds. (c.enter_with.ensures.enters link knows holds).want)
