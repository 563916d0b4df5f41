-- Proof of `HostView::accept`.
use Rattle.std.proofs.Common.{◌≡◌, true, false, refl, ap, sym, ◌∙◌}
use Rattle.scan_init.specs.Addresses.{is_full_for}
use Rattle.host_view.specs.View.{View}
use Rattle.host_view.specs.Status.{named_address}
use Rattle.host_view.proofs.TakenCommands.{takes_address}
use Rattle.host_view.proofs.view.HostView.accept.Goals as goal

pub unreachable-requires : goal.unreachable-requires
unreachable-requires c =
    let list = ap (λ (view : View). view.accepted) c.self.view_is in
    let free = takes_address c.args.self.now c.args.kind c.args.octets.now c.requires in
    let both : true ≡ false =
    sym (c.in_default.ensures.refused.0 refl)
    ∙ ap (λ address. is_full_for c.self.inside.accepted address) c.named_address.ensures
    ∙ ap (λ held. is_full_for held (named_address c.args.kind c.args.octets.now)) list
    ∙ free in
    absurd cc
