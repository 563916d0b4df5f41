-- The answers of `OpenLinks::ready`.
use Rattle.std.proofs.Common.{rules, subst, sym, arith}
use Rattle.link_end.specs.link_model.Step.{PduFixed}
use Rattle.open_links.specs.OpenLinks.{link_after_in_event}
use Rattle.open_links.specs.Knowing.{HeldLinks, Knows}
use Rattle.open_links.proofs.Steps.{change_known, changed_sound, holds_place, is_tied, knows_pieces, knows_place}
use Rattle.open_links.proofs.Unmoved.{in_event_setup}
use Rattle.open_links.proofs.Within.{within_fixed_in_event}
use Rattle.open_links.proofs.links.OpenLinks.ready.Goals as goal

pub ready_at-requires : goal.ready_at-requires
ready_at-requires g c = let tied = is_tied _ c.args.handle c.self.invariant.1 in search (rules, tied)

pub returns-clause-knows : goal.returns-clause-knows
returns-clause-knows g c = λ links received known.
    let held = subst (λ (h : HeldLinks). Knows h links received) (sym c.self.view_is) known in
    let place = knows_place _ links received held in
    change_known (link_after_in_event PduFixed) c.args.handle _ _ links received received (in_event_setup PduFixed) held
    (c.ready_at.ensures.knows links place (holds_place _ links received c.args.handle held))
    (c.ready_at.ensures.bank links place) (knows_pieces _ links received held)

pub invariant_of-self : goal.invariant_of-self
invariant_of-self g c = (
  c.self.invariant.0,
  changed_sound (link_after_in_event PduFixed) c.args.handle _ _ (in_event_setup PduFixed) c.self.invariant.1
      (λ links known. c.ready_at.ensures.knows links (knows_place _ links _ known) (holds_place _ links _ c.args.handle known))
      (λ links known. c.ready_at.ensures.bank links (knows_place _ links _ known)) (omega arith) (omega arith)
      (λ link inside. within_fixed_in_event _ _ link inside),
)
