-- The answers of `OpenLinks::open`.
use Rattle.std.proofs.Common.{◌∙◌, Some, ap, subst, sym, refl}
use Rattle.link_end.specs.link_model.Setup.{Setup}
use Rattle.open_links.specs.OpenLinks.{link_at, new_link, with_link}
use Rattle.open_links.specs.Data.{received_past}
use Rattle.open_links.specs.Knowing.{HeldLinks, Knows}
use Rattle.open_links.proofs.Steps.{is_open, knows_pieces, knows_place, open_known, past_received, sound_after}
use Rattle.open_links.proofs.Within.{new_within, put_within}
use Rattle.open_links.proofs.links.OpenLinks.open.Goals as goal

pub returns-clause-knows : goal.returns-clause-knows
returns-clause-knows g c = λ links received known.
    let held = subst (λ (h : HeldLinks). Knows h links received) (sym c.self.view_is) known in
    let setup : Setup = record { link = c.args.setup; opened = c.args.slot.0 } in
    let handle = c.args.setup.handle in
    let opened = c.is_some-was_open.ensures ∙ is_open _ c.link.result (link_at handle links) (c.link.ensures links received known) in
    open_known setup _ _ links received _ held
    (c.put_at.ensures links (Some (new_link setup)) (knows_place _ links received held) c.new-link.ensures)
    c.drop_link.ensures.bank
    (c.drop_received_if.ensures ∙ past_received _ (link_at handle links) handle c.self.inside.rx opened
    ∙ ap (received_past (link_at handle links) handle) (knows_pieces _ links received held))

pub invariant_of-self : goal.invariant_of-self
invariant_of-self g c =
    let setup : Setup = record { link = c.args.setup; opened = c.args.slot.0 } in (
      c.self.invariant.0,
      sound_after _ _ (with_link setup) c.self.invariant.1
          (λ links known. open_known setup _ _ links _ _ known
          (c.put_at.ensures links (Some (new_link setup)) (knows_place _ links _ known) c.new-link.ensures)
          c.drop_link.ensures.bank refl)
          (λ links inside. put_within _ _ c.args.setup.handle (Some (new_link setup)) links (new_within _ _ setup) inside),
    )
