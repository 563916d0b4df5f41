-- Proof of `HostView::set_channels`.
use Rattle.std.proofs.Common.{◌≡◌, true, false}
use Rattle.host_view.proofs.TakenCommands.{takes_map}
use Rattle.host_view.proofs.view.HostView.set_channels.Goals as goal

pub returns-in_default : goal.returns-in_default
returns-in_default c =
    let refused : false ≡ true = c.in_default.ensures.valid.1 (takes_map c.args.self.now c.args.map c.requires) in
    absurd cc
