-- The answers of `OpenLinks::ask`.
use Rattle.std.proofs.Common.{subst, sym, refl, arith}
use Rattle.link_end.specs.link_model.Step.{ProcedureAsked}
use Rattle.open_links.specs.OpenLinks.{link_after, link_at}
use Rattle.open_links.specs.Knowing.{HeldLinks, Knows}
use Rattle.open_links.proofs.Steps.{change_known, changed_sound, knows_pieces, knows_place, left_goes}
use Rattle.open_links.proofs.Unmoved.{asked_leaves, left_within}
use Rattle.open_links.proofs.links.OpenLinks.ask.Goals as goal

pub returns-clause-knows : goal.returns-clause-knows
returns-clause-knows g c = λ links received known.
    let held = subst (λ (h : HeldLinks). Knows h links received) (sym c.self.view_is) known in
    let step = ProcedureAsked c.args.ask in
    change_known (link_after step) c.args.handle _ _ links received received (λ link. refl) held
    (c.ask_at.ensures links (knows_place _ links received held))
    (left_goes step (asked_leaves c.args.ask) (link_at c.args.handle links) c.self.inside.tx) (knows_pieces _ links received held)

pub invariant_of-self : goal.invariant_of-self
invariant_of-self g c =
    let step = ProcedureAsked c.args.ask in (
      c.self.invariant.0,
      changed_sound (link_after step) c.args.handle _ _ (λ link. refl) c.self.invariant.1
          (λ links known. c.ask_at.ensures links (knows_place _ links _ known))
          (λ links known. left_goes step (asked_leaves c.args.ask) (link_at c.args.handle links) c.self.inside.tx) (omega arith) (omega arith)
          (λ link inside. left_within step (asked_leaves c.args.ask) _ _ link inside),
    )
