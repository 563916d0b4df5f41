-- Devices, parameters and requests of the worked examples.
use Rattle.std.specs.Prelude.{ℕ, false, true, [], ◌∷◌}
use Rattle.ble_base.specs.declared.addresses.Address.{Address}
use Rattle.adv_pdu.specs.declared.pdu.AdvPdu.{AdvPdu}
use Rattle.adv_pdu.specs.declared.pdu.AdvPdu.TheVariants.{ScanReq, Connect}
use Rattle.adv_pdu.specs.declared.pdu.ConnectFields.{ConnectFields}
use Rattle.advertise.specs.declared.params.AdvParams.{AdvParams}

-- a device with a public address that ends in this octet
abbrev pub device : ℕ → Address
device last = record { random = false; octets = last ∷ 0x00 ∷ 0x00 ∷ 0xEE ∷ 0xFF ∷ 0xC0 ∷ [] }

-- device 0A advertises with this type and this filter policy; directed advertising is to device 0B
abbrev pub advertising : (kind policy : ℕ) → AdvParams
advertising kind policy = record {
  interval = 0x20;
  kind = kind;
  own = device 0x0A;
  target = device 0x0B;
  channels = 5;
  policy = policy;
}

-- requests from one device to another
abbrev pub scan_request : (from to : ℕ) → AdvPdu
scan_request from to = ScanReq (device from) (device to)

abbrev pub connection : (from to : ℕ) → ConnectFields → AdvPdu
connection from to fields = Connect (device from) (device to) true fields

-- fields that are in range
abbrev pub fields : ConnectFields
fields = record {
  access = 0x71764129;
  crc_init = 1;
  win_size = 1;
  win_offset = 0;
  interval = 24;
  latency = 0;
  timeout = 72;
  map = 0x1FFFFFFFFF;
  hop = 5;
  sca = 0;
}
