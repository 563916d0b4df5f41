-- Proof of `rows::wrong_takings`: the definitions compute, and each event is too late.
use Rattle.std.proofs.Common.{ℕ, ◌+◌, ◌≤◌, ◌<◌, [], ◌∷◌, arith}
use Rattle.std.specs.List.{All}
use Rattle.std.proofs.lemmas.List.Elements.{All-head}
use Rattle.ble_base.specs.ChannelMap.{data_channels, used_channels}
use Rattle.data_pdu.specs.Layouts.{makers}
use Rattle.data_pdu.specs.Reading.{ctrl_of}
use Rattle.wire_fields.specs.Field.{little_endian}
use Rattle.link_changes.specs.Worked.{update_at}
use Rattle.link_indications.specs.InTime.{IsTakenInTime}
use Rattle.link_indications.proofs.rows.wrong_takings.Goals as goal

late : (event taken_in : ℕ) → taken_in + 32767 ≤ event → All IsTakenInTime (record { change = update_at 6 event; taken_in = taken_in } ∷ []) → ⊥
late event taken_in is all =
    let less : event < taken_in + 32767 = All-head IsTakenInTime (record { change = update_at 6 event; taken_in = taken_in }) [] all in
    omega (arith, is, less)

pub returns : goal.returns
unfolding ctrl_of makers little_endian used_channels data_channels
returns c = record { next = late 65542 32775 (omega arith); far = late 65542 25542 (omega arith); passed = late 65542 7 (omega arith) }
