-- The fields of a CONNECT_IND that begin a link (Core 5.2, volume 6 part B, section 2.3.3.1).
use Rattle.std.specs.Prelude.{◌≤◌, ◌&&◌, nat_le, Bool}
use Rattle.ble_base.specs.ChannelMap.{IsMap}
use Rattle.data_pdu.specs.Ranges.{IsUpdate, is_update, is_map}
use Rattle.adv_pdu.specs.declared.pdu.ConnectFields.{ConnectFields}

-- the fields are in their ranges: the parameters are those that an update may set, the map has two data channels or
-- more, and the hop increment is 5 to 16. Access address, CRCInit and SCA may be any
pub record IsInRange (fields : ConnectFields) : Type 0 where
  pub parameters : IsUpdate fields.win_size fields.win_offset fields.interval fields.latency fields.timeout
  pub map : IsMap fields.map
  pub hop_from : 5 ≤ fields.hop
  pub hop_to : fields.hop ≤ 16

-- the same as a test that computes
abbrev pub is_in_range : ConnectFields → Bool
is_in_range fields =
    is_update fields.win_size fields.win_offset fields.interval fields.latency fields.timeout
    && is_map fields.map && nat_le 5 fields.hop && nat_le fields.hop 16
