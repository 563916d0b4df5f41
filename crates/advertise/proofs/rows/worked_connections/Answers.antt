-- The worked examples of `rows::worked_connections`.
use Rattle.std.proofs.Common.{refl}
use Rattle.ble_base.specs.ChannelMap.{data_channels, used_channels}
use Rattle.advertise.proofs.rows.worked_connections.Goals as goal

pub returns-clause-types : goal.returns-clause-types
unfolding used_channels data_channels
returns-clause-types c = refl

pub returns-clause-to_another : goal.returns-clause-to_another
unfolding used_channels data_channels
returns-clause-to_another c = refl

pub returns-clause-from_another : goal.returns-clause-from_another
unfolding used_channels data_channels
returns-clause-from_another c = refl

pub returns-clause-listed : goal.returns-clause-listed
unfolding used_channels data_channels
returns-clause-listed c = refl

pub returns-clause-unlisted : goal.returns-clause-unlisted
unfolding used_channels data_channels
returns-clause-unlisted c = refl

pub returns-clause-directed : goal.returns-clause-directed
unfolding used_channels data_channels
returns-clause-directed c = refl
