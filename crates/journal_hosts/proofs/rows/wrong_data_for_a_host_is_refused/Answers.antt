-- Proof of `rows::wrong_data_for_a_host_is_refused`.
use Rattle.std.proofs.Common.{◌≡◌, ◌<◌, ◌≤◌, true, false, [], refl, arith}
use Rattle.ble_base.specs.declared.roles.Side.TheVariants.{B}
use Rattle.h4_frames.specs.Frames.{frames}
use Rattle.hci_cmd.specs.Command.{command_of, layout_of, layouts}
use Rattle.journal_data.specs.Lines.{lines_of}
use Rattle.journal_hosts.specs.CreditRows.{data_up}
use Rattle.journal_hosts.specs.FlowRows.{long_up, one_taken, one_waits}
use Rattle.journal_hosts.specs.HostFlow.{held_on}
use Rattle.journal_hosts.proofs.rows.wrong_data_for_a_host_is_refused.Goals as goal

pub returns-clause-second : goal.returns-clause-second
unfolding frames command_of layout_of layouts lines_of held_on
returns-clause-second c lawful =
    let less : 1 < 1 = lawful one_waits [] B data_up refl refl refl in omega (arith, less)

pub returns-clause-longer : goal.returns-clause-longer
unfolding frames command_of layout_of layouts
returns-clause-longer c lawful =
    let less : 28 ≤ 27 = lawful one_taken [] B long_up refl refl in omega (arith, less)

pub returns-clause-room : goal.returns-clause-room
unfolding frames command_of layout_of layouts lines_of held_on
returns-clause-room c full = absurd (let h : false ≡ true = full in cc)
