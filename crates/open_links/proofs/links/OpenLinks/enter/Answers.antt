-- The answers of `OpenLinks::enter`.
use Rattle.std.proofs.Common.{subst, sym, arith}
use Rattle.open_links.specs.OpenLinks.{link_at}
use Rattle.open_links.specs.Turns.{link_entered}
use Rattle.open_links.specs.Knowing.{HeldLinks, Knows}
use Rattle.open_links.proofs.Steps.{change_known, changed_sound, entered_goes, holds_place, knows_pieces, knows_place}
use Rattle.open_links.proofs.Unmoved.{entered_setup}
use Rattle.open_links.proofs.Within.{within_entered}
use Rattle.open_links.proofs.links.OpenLinks.enter.Goals as goal

pub returns-clause-knows : goal.returns-clause-knows
returns-clause-knows g c = λ links received known.
    let held = subst (λ (h : HeldLinks). Knows h links received) (sym c.self.view_is) known in
    change_known (link_entered c.args.slot.0) c.args.handle _ _ links received received (entered_setup c.args.slot.0) held
    (c.enter_at.ensures.knows links (knows_place _ links received held) (holds_place _ links received c.args.handle held))
    (entered_goes c.args.slot.0 (link_at c.args.handle links) c.self.inside.tx) (knows_pieces _ links received held)

pub returns-clause-notes : goal.returns-clause-notes
returns-clause-notes g c = λ links received known.
    let held = subst (λ (h : HeldLinks). Knows h links received) (sym c.self.view_is) known in
    c.enter_at.ensures.notes links (knows_place _ links received held) (holds_place _ links received c.args.handle held)

pub returns-clause-entry : goal.returns-clause-entry
returns-clause-entry g c = λ links received known.
    let held = subst (λ (h : HeldLinks). Knows h links received) (sym c.self.view_is) known in
    c.enter_at.ensures.entry links (knows_place _ links received held) (holds_place _ links received c.args.handle held)

pub returns-clause-wants : goal.returns-clause-wants
returns-clause-wants g c = λ links received known.
    let held = subst (λ (h : HeldLinks). Knows h links received) (sym c.self.view_is) known in
    c.enter_at.ensures.wants links (knows_place _ links received held) (holds_place _ links received c.args.handle held)

pub invariant_of-self : goal.invariant_of-self
invariant_of-self g c = (
  c.self.invariant.0,
  changed_sound (link_entered c.args.slot.0) c.args.handle _ _ (entered_setup c.args.slot.0) c.self.invariant.1
      (λ links known. c.enter_at.ensures.knows links (knows_place _ links _ known) (holds_place _ links _ c.args.handle known))
      (λ links known. entered_goes c.args.slot.0 (link_at c.args.handle links) c.self.inside.tx) (omega arith) (omega arith)
      (λ link inside. within_entered _ _ c.args.slot.0 link inside),
)
