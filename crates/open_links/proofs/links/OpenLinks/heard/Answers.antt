-- The answers of `OpenLinks::heard`.
use Rattle.std.proofs.Common.{rules, ◌≤◌, ◌<◌, ◌+◌, ◌++◌, length, nat_lt, subst, sym, arith}
use Rattle.link_end.specs.link_model.Step.{PacketReceived}
use Rattle.open_links.specs.OpenLinks.{in_event, link_after_in_event, link_at, with_change}
use Rattle.open_links.specs.Data.{kept_at}
use Rattle.open_links.specs.Knowing.{HeldLinks, Knows}
use Rattle.open_links.proofs.Steps.{can_hear, change_known, changed_sound, knows_pieces, knows_place}
use Rattle.open_links.proofs.Unmoved.{in_event_setup}
use Rattle.open_links.proofs.Within.{within_heard_in_event}
use Rattle.open_links.proofs.links.OpenLinks.heard.Goals as goal

pub hear_at-requires : goal.hear_at-requires
hear_at-requires g c =
    let can = can_hear _ c.args.handle c.args.slot.0 c.self.invariant.1
    (subst (λ (h : HeldLinks). h.heard_to ≤ c.args.slot.0) (sym c.self.view_is) c.requires.once)
    (subst (λ (h : HeldLinks). h.unreported < 65535) (sym c.self.view_is) c.requires.counts) in
    search (rules, can)

pub returns-clause-knows : goal.returns-clause-knows
returns-clause-knows g c = λ links received known.
    let held = subst (λ (h : HeldLinks). Knows h links received) (sym c.self.view_is) known in
    let place = knows_place _ links received held in
    let new : HeldLinks = record {
      places = c.hear_at.new.places;
      bank = c.hear_at.new.tx;
      received = c.hear_at.new.rx;
      heard_to = c.args.slot.0 + 1;
      unreported = c.self.inside.unreported + 1;
    } in
    subst (λ pieces. Knows new
    (with_change c.args.handle (link_after_in_event (PacketReceived c.args.slot.0 c.args.octets.now (nat_lt (length pieces) g.row.R))) links)
    (pieces ++ kept_at c.args.slot.0 c.args.octets.now (nat_lt (length pieces) g.row.R) (in_event (link_at c.args.handle links))))
    (knows_pieces _ links received held)
    (change_known (link_after_in_event (PacketReceived c.args.slot.0 c.args.octets.now (nat_lt (length c.self.inside.rx) g.row.R))) c.args.handle
    _ new links received
    (c.self.inside.rx ++ kept_at c.args.slot.0 c.args.octets.now (nat_lt (length c.self.inside.rx) g.row.R) (in_event (link_at c.args.handle links)))
    (in_event_setup _) held (c.hear_at.ensures.knows links place) (c.hear_at.ensures.bank links place)
    (c.hear_at.ensures.kept links place))

pub invariant_of-self : goal.invariant_of-self
invariant_of-self g c =
    let once = subst (λ (h : HeldLinks). h.heard_to ≤ c.args.slot.0) (sym c.self.view_is) c.requires.once in (
      c.self.invariant.0,
      changed_sound (link_after_in_event (PacketReceived c.args.slot.0 c.args.octets.now (nat_lt (length c.self.inside.rx) g.row.R))) c.args.handle
          _ _ (in_event_setup _) c.self.invariant.1
          (λ links known. c.hear_at.ensures.knows links (knows_place _ links _ known))
          (λ links known. c.hear_at.ensures.bank links (knows_place _ links _ known)) (omega (arith, once)) (omega arith)
          (λ link inside. within_heard_in_event _ _ c.args.slot.0 c.args.octets.now _ link once inside),
    )
