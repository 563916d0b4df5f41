-- The answers of `OpenLinks::to_send`.
use Rattle.std.proofs.Common.{rules, subst, sym, arith}
use Rattle.link_end.specs.link_model.Step.{PacketSent}
use Rattle.open_links.specs.OpenLinks.{link_after_in_event}
use Rattle.open_links.specs.Knowing.{HeldLinks, Knows}
use Rattle.open_links.proofs.Steps.{change_known, changed_sound, is_tied, knows_pieces, knows_place}
use Rattle.open_links.proofs.Unmoved.{in_event_setup}
use Rattle.open_links.proofs.Within.{within_sent_in_event}
use Rattle.open_links.proofs.links.OpenLinks.to_send.Goals as goal

pub send_at-requires : goal.send_at-requires
send_at-requires g c = let tied = is_tied _ c.args.handle c.self.invariant.1 in search (rules, tied)

pub returns-clause-knows : goal.returns-clause-knows
returns-clause-knows g c = λ links received known.
    let held = subst (λ (h : HeldLinks). Knows h links received) (sym c.self.view_is) known in
    let place = knows_place _ links received held in
    change_known (link_after_in_event (PacketSent c.args.slot.0)) c.args.handle _ _ links received received (in_event_setup (PacketSent c.args.slot.0)) held
    (c.send_at.ensures.knows links place) (c.send_at.ensures.bank links place) (knows_pieces _ links received held)

pub invariant_of-self : goal.invariant_of-self
invariant_of-self g c = (
  c.self.invariant.0,
  changed_sound (link_after_in_event (PacketSent c.args.slot.0)) c.args.handle _ _ (in_event_setup (PacketSent c.args.slot.0)) c.self.invariant.1
      (λ links known. c.send_at.ensures.knows links (knows_place _ links _ known))
      (λ links known. c.send_at.ensures.bank links (knows_place _ links _ known)) (omega arith) (omega arith)
      (λ link inside. within_sent_in_event _ _ c.args.slot.0 link inside),
)
