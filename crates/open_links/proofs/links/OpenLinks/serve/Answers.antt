-- The answers of `OpenLinks::serve`.
use Rattle.std.proofs.Common.{subst, sym, refl, arith}
use Rattle.open_links.specs.OpenLinks.{link_at, link_served}
use Rattle.open_links.specs.Knowing.{HeldLinks, Knows}
use Rattle.open_links.proofs.Steps.{change_known, changed_sound, knows_pieces, knows_place, served_bank}
use Rattle.open_links.proofs.links.OpenLinks.serve.Goals as goal

pub returns-clause-knows : goal.returns-clause-knows
returns-clause-knows g c = λ links received known.
    let held = subst (λ (h : HeldLinks). Knows h links received) (sym c.self.view_is) known in
    change_known (link_served c.args.slot.0) c.args.handle _ _ links received received (λ link. refl) held
    (c.serve_at.ensures links (knows_place _ links received held))
    (served_bank c.args.slot.0 (link_at c.args.handle links) c.self.inside.tx) (knows_pieces _ links received held)

pub invariant_of-self : goal.invariant_of-self
invariant_of-self g c = (
  c.self.invariant.0,
  changed_sound (link_served c.args.slot.0) c.args.handle _ _ (λ link. refl) c.self.invariant.1
      (λ links known. c.serve_at.ensures links (knows_place _ links _ known))
      (λ links known. served_bank c.args.slot.0 (link_at c.args.handle links) c.self.inside.tx) (omega arith) (omega arith)
      (λ link inside. record { heard = inside.heard; complete = inside.complete }),
)
