-- Proof of `rows::worked_takings`: the definitions compute.
use Rattle.std.proofs.Common.{[], arith}
use Rattle.std.proofs.lemmas.List.Elements.{All-cons, All-nil}
use Rattle.ble_base.specs.ChannelMap.{data_channels, used_channels}
use Rattle.data_pdu.specs.Layouts.{makers}
use Rattle.data_pdu.specs.Reading.{ctrl_of}
use Rattle.wire_fields.specs.Field.{little_endian}
use Rattle.link_changes.specs.Worked.{update_at}
use Rattle.link_indications.specs.InTime.{IsTakenInTime}
use Rattle.link_indications.proofs.rows.worked_takings.Goals as goal

pub returns : goal.returns
unfolding ctrl_of makers little_endian used_channels data_channels
returns c = record {
  taken = All-cons IsTakenInTime (record { change = update_at 6 6; taken_in = 0 }) [] (omega arith) (All-nil IsTakenInTime);
  sent = All-cons IsTakenInTime (record { change = update_at 6 6; taken_in = 0 }) [] (omega arith) (All-nil IsTakenInTime);
  furthest = All-cons IsTakenInTime (record { change = update_at 6 65542; taken_in = 32776 }) [] (omega arith) (All-nil IsTakenInTime);
}
