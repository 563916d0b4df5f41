-- The answers of `OpenLinks::ask_map`.
use Rattle.std.proofs.Common.{subst, sym, refl}
use Rattle.open_links.specs.Hosts.{links_asked_map}
use Rattle.open_links.specs.Knowing.{HeldLinks, Knows}
use Rattle.open_links.proofs.Steps.{knows_pieces, knows_place, mapped_known, sound_after}
use Rattle.open_links.proofs.Within.{map_within}
use Rattle.open_links.proofs.links.OpenLinks.ask_map.Goals as goal

pub returns-clause-knows : goal.returns-clause-knows
returns-clause-knows g c = λ links received known.
    let held = subst (λ (h : HeldLinks). Knows h links received) (sym c.self.view_is) known in
    mapped_known c.args.map _ _ links received received held (c.ask_map_all.ensures.knows links (knows_place _ links received held)) refl
    (knows_pieces _ links received held)

pub invariant_of-self : goal.invariant_of-self
invariant_of-self g c = (
  c.self.invariant.0,
  sound_after _ _ (links_asked_map c.args.map) c.self.invariant.1
      (λ links known. mapped_known c.args.map _ _ links _ _ known (c.ask_map_all.ensures.knows links (knows_place _ links _ known)) refl refl)
      (λ links inside. map_within _ _ c.args.map links inside),
)
