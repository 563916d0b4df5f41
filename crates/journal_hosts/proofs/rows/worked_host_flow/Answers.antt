-- Proof of `rows::worked_host_flow`: the definitions compute.
use Rattle.std.proofs.Common.{refl}
use Rattle.h4_frames.specs.Frames.{frames}
use Rattle.hci_cmd.specs.Command.{command_of, layout_of, layouts}
use Rattle.journal_data.specs.Lines.{lines_of}
use Rattle.journal_hosts.specs.HostFlow.{held_on}
use Rattle.journal_hosts.proofs.rows.worked_host_flow.Goals as goal

pub returns : goal.returns
unfolding frames command_of layout_of layouts lines_of held_on
returns c = record { most = refl; none = (refl, refl); one = (refl, refl, refl); returned = refl; other = refl }
