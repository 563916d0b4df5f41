-- The answers of `using::send_at`.
use Rattle.std.proofs.Common.{◌≡◌, false, get_or, is_some, ◌++◌, None, refl, sym, append-nil, rules}
use Rattle.std.specs.Option.{option_map}
use Rattle.link_end.specs.link_model.Packets.{packet_sent}
use Rattle.link_end.specs.link_model.Step.{PacketSent}
use Rattle.open_links.specs.OpenLinks.{facts_in, in_event, link_after_in_event}
use Rattle.open_links.specs.Data.{notes_at}
use Rattle.open_links.specs.Knowing.{BankGoes}
use Rattle.open_links.proofs.InTables.{changed_at, said_of, said_of_none, unchanged_at}
use Rattle.open_links.proofs.using.send_at.Goals as goal

pub returns-then-not-holds-clause-knows : goal.returns-then-not-holds-clause-knows
returns-then-not-holds-clause-knows g c = λ links know.
    let none : is_some (get_or c.args.places.now c.args.handle None) ≡ false = search rules in
    unchanged_at (link_after_in_event (PacketSent c.args.slot.0)) c.args.handle c.args.places.now none links know

pub returns-clause-knows : goal.returns-clause-knows
returns-clause-knows g c = λ links know.
    changed_at (link_after_in_event (PacketSent c.args.slot.0)) _ _ c.args.handle c.args.places.now
    c.get_mut.ensures.value links know (λ link at knows. c.send.ensures.knows link knows)

pub returns-then-not-holds-clause-bank : goal.returns-then-not-holds-clause-bank
returns-then-not-holds-clause-bank g c = λ links know.
    let none : is_some (get_or c.args.places.now c.args.handle None) ≡ false = search rules in
    said_of_none (λ place. BankGoes (link_after_in_event (PacketSent c.args.slot.0)) place c.args.tx.now
    c.args.tx.now) c.args.handle c.args.places.now none refl links know

pub returns-clause-bank : goal.returns-clause-bank
returns-clause-bank g c =
    said_of (λ place. BankGoes (link_after_in_event (PacketSent c.args.slot.0)) place c.args.tx.now c.send.new.tx) _
    c.args.handle c.args.places.now c.get_mut.ensures.value (λ link knows. c.send.ensures.bank link knows)

pub returns-then-not-holds-clause-notes : goal.returns-then-not-holds-clause-notes
returns-then-not-holds-clause-notes g c = λ links know.
    let none : is_some (get_or c.args.places.now c.args.handle None) ≡ false = search rules in
    said_of_none (λ place. c.args.out.now.items ≡ c.args.out.now.items ++ notes_at (PacketSent c.args.slot.0)
    (in_event place)) c.args.handle c.args.places.now none (sym (append-nil c.args.out.now.items)) links know

pub returns-clause-notes : goal.returns-clause-notes
returns-clause-notes g c =
    said_of (λ place. c.send.new.out.items ≡ c.args.out.now.items ++ notes_at (PacketSent c.args.slot.0) (in_event
    place)) _ c.args.handle c.args.places.now c.get_mut.ensures.value (λ link knows. c.send.ensures.notes link
    knows)

pub returns-then-not-holds-clause-packet : goal.returns-then-not-holds-clause-packet
returns-then-not-holds-clause-packet g c = λ links know.
    let none : is_some (get_or c.args.places.now c.args.handle None) ≡ false = search rules in
    said_of_none (λ place. None ≡ option_map (λ link. packet_sent link.setup (facts_in link)) (in_event place))
    c.args.handle c.args.places.now none refl links know

pub returns-clause-packet : goal.returns-clause-packet
returns-clause-packet g c =
    said_of (λ place. option_map (λ packet. packet.items) c.send.result ≡ option_map (λ link. packet_sent link.setup
    (facts_in link)) (in_event place)) _ c.args.handle c.args.places.now c.get_mut.ensures.value (λ link knows.
    c.send.ensures.packet link knows)
