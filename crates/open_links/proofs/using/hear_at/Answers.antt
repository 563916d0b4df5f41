-- The answers of `using::hear_at`.
use Rattle.std.proofs.Common.{◌≡◌, false, get_or, is_some, nat_lt, length, ◌++◌, None, refl, sym, append-nil, rules}
use Rattle.link_end.specs.link_model.Step.{PacketReceived}
use Rattle.open_links.specs.OpenLinks.{in_event, link_after_in_event}
use Rattle.open_links.specs.Data.{kept_at, notes_at}
use Rattle.open_links.specs.Hearing.{step_at}
use Rattle.open_links.specs.Knowing.{BankGoes}
use Rattle.open_links.proofs.InTables.{changed_at, said_of, said_of_none, unchanged_at}
use Rattle.open_links.proofs.using.hear_at.Goals as goal

pub returns-then-not-holds-clause-knows : goal.returns-then-not-holds-clause-knows
returns-then-not-holds-clause-knows g c = λ links know.
    let none : is_some (get_or c.args.places.now c.args.handle None) ≡ false = search rules in
    unchanged_at (link_after_in_event (PacketReceived c.args.slot.0 c.args.octets.now (nat_lt (length c.args.rx.now)
    g.row.R))) c.args.handle c.args.places.now none links know

pub returns-clause-knows : goal.returns-clause-knows
returns-clause-knows g c = λ links know.
    changed_at (link_after_in_event (PacketReceived c.args.slot.0 c.args.octets.now (nat_lt (length c.args.rx.now)
    g.row.R))) _ _ c.args.handle c.args.places.now c.get_mut.ensures.value links know (λ link at knows.
    c.hear.ensures.knows link knows)

pub returns-then-not-holds-clause-bank : goal.returns-then-not-holds-clause-bank
returns-then-not-holds-clause-bank g c = λ links know.
    let none : is_some (get_or c.args.places.now c.args.handle None) ≡ false = search rules in
    said_of_none (λ place. BankGoes (link_after_in_event (PacketReceived c.args.slot.0 c.args.octets.now (nat_lt
    (length c.args.rx.now) g.row.R))) place c.args.tx.now c.args.tx.now) c.args.handle c.args.places.now none refl
    links know

pub returns-clause-bank : goal.returns-clause-bank
returns-clause-bank g c =
    said_of (λ place. BankGoes (link_after_in_event (PacketReceived c.args.slot.0 c.args.octets.now (nat_lt (length
    c.args.rx.now) g.row.R))) place c.args.tx.now c.hear.new.tx) _ c.args.handle c.args.places.now
    c.get_mut.ensures.value (λ link knows. c.hear.ensures.bank link knows)

pub returns-then-not-holds-clause-kept : goal.returns-then-not-holds-clause-kept
returns-then-not-holds-clause-kept g c = λ links know.
    let none : is_some (get_or c.args.places.now c.args.handle None) ≡ false = search rules in
    said_of_none (λ place. c.args.rx.now ≡ c.args.rx.now ++ kept_at c.args.slot.0 c.args.octets.now (nat_lt (length
    c.args.rx.now) g.row.R) (in_event place)) c.args.handle c.args.places.now none (sym (append-nil c.args.rx.now))
    links know

pub returns-clause-kept : goal.returns-clause-kept
returns-clause-kept g c =
    said_of (λ place. c.hear.new.rx ≡ c.args.rx.now ++ kept_at c.args.slot.0 c.args.octets.now (nat_lt (length
    c.args.rx.now) g.row.R) (in_event place)) _ c.args.handle c.args.places.now c.get_mut.ensures.value (λ link
    knows. c.hear.ensures.kept link knows)

pub returns-then-not-holds-clause-notes : goal.returns-then-not-holds-clause-notes
returns-then-not-holds-clause-notes g c = λ links know.
    let none : is_some (get_or c.args.places.now c.args.handle None) ≡ false = search rules in
    said_of_none (λ place. c.args.out.now.items ≡ c.args.out.now.items ++ notes_at (PacketReceived c.args.slot.0
    c.args.octets.now (nat_lt (length c.args.rx.now) g.row.R)) (in_event place)) c.args.handle c.args.places.now
    none (sym (append-nil c.args.out.now.items)) links know

pub returns-clause-notes : goal.returns-clause-notes
returns-clause-notes g c =
    said_of (λ place. c.hear.new.out.items ≡ c.args.out.now.items ++ notes_at (PacketReceived c.args.slot.0
    c.args.octets.now (nat_lt (length c.args.rx.now) g.row.R)) (in_event place)) _ c.args.handle c.args.places.now
    c.get_mut.ensures.value (λ link knows. c.hear.ensures.notes link knows)

pub returns-then-not-holds-clause-step : goal.returns-then-not-holds-clause-step
returns-then-not-holds-clause-step g c = λ links know.
    let none : is_some (get_or c.args.places.now c.args.handle None) ≡ false = search rules in
    said_of_none (λ place. None ≡ step_at c.args.slot.0 c.args.octets.now (nat_lt (length c.args.rx.now) g.row.R)
    place) c.args.handle c.args.places.now none refl links know

pub returns-clause-step : goal.returns-clause-step
returns-clause-step g c =
    said_of (λ place. c.hear.result ≡ step_at c.args.slot.0 c.args.octets.now (nat_lt (length c.args.rx.now)
    g.row.R) place) _ c.args.handle c.args.places.now c.get_mut.ensures.value (λ link knows. c.hear.ensures.step
    link knows)
