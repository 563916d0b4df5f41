-- The answers of `OpenLinks::shut`.
use Rattle.std.proofs.Common.{◌∙◌, None, ap, subst, sym, refl}
use Rattle.open_links.specs.OpenLinks.{without_link}
use Rattle.open_links.specs.Ended.{received_without}
use Rattle.open_links.specs.Knowing.{HeldLinks, Knows}
use Rattle.open_links.proofs.Steps.{knows_pieces, knows_place, shut_known, sound_after}
use Rattle.open_links.proofs.Within.{put_within}
use Rattle.open_links.proofs.links.OpenLinks.shut.Goals as goal

pub returns-clause-knows : goal.returns-clause-knows
returns-clause-knows g c = λ links received known.
    let held = subst (λ (h : HeldLinks). Knows h links received) (sym c.self.view_is) known in
    shut_known c.args.handle _ _ links received _ held
    (c.put_at.ensures links None (knows_place _ links received held) tt) c.drop_link.ensures.bank
    (c.drop_link-2.ensures ∙ ap (received_without c.args.handle) (knows_pieces _ links received held))

pub invariant_of-self : goal.invariant_of-self
invariant_of-self g c = (
  c.self.invariant.0,
  sound_after _ _ (without_link c.args.handle) c.self.invariant.1
      (λ links known. shut_known c.args.handle _ _ links _ _ known
      (c.put_at.ensures links None (knows_place _ links _ known) tt) c.drop_link.ensures.bank refl)
      (λ links inside. put_within _ _ c.args.handle None links tt inside),
)
