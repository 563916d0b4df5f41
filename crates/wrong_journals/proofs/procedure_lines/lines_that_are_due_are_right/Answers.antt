-- The definitions compute.
use Rattle.std.proofs.Common.{refl}
use Rattle.ble_base.specs.ChannelMap.{data_channels, used_channels}
use Rattle.data_pdu.specs.Layouts.{makers}
use Rattle.data_pdu.specs.Reading.{ctrl_of, length_of}
use Rattle.wrong_journals.proofs.procedure_lines.lines_that_are_due_are_right.Goals as goal

pub returns : goal.returns
unfolding ctrl_of makers length_of data_channels used_channels
returns c = record { begun = refl; done = refl; applied = refl }
