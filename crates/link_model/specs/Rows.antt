-- Both ends of one link as worked examples set them up.
use Rattle.std.specs.Prelude.{ℕ, true, false, [], ◌∷◌}
use Rattle.ble_base.specs.declared.addresses.Address.{Address}
use Rattle.ble_base.specs.declared.roles.Role.{Role}
use Rattle.ble_base.specs.declared.roles.Role.TheVariants.{Central, Peripheral}
use Rattle.adv_pdu.specs.declared.pdu.ConnectFields.{ConnectFields}
use Rattle.link_model.specs.Setup.{Setup}

-- a CONNECT_IND in slot 0: an interval of 24 slots, a timeout of 720 ms, all data channels
abbrev pub fields_with : ℕ → ConnectFields
fields_with latency =
    record {
      access = 0x71764129;
      crc_init = 1;
      win_size = 1;
      win_offset = 0;
      interval = 24;
      latency = latency;
      timeout = 72;
      map = 0x1FFFFFFFFF;
      hop = 5;
      sca = 0;
    }

abbrev pub public : ℕ → Address
public last = record { random = false; octets = last ∷ 0 ∷ 0 ∷ 0xEE ∷ 0xFF ∷ 0xC0 ∷ [] }

abbrev pub end_with : Role → ℕ → ℕ → ℕ → Setup
end_with role own peer latency =
    record {
      link =
          record {
            role = role;
            handle = 0;
            own = public own;
            peer = public peer;
            fields = fields_with latency;
            two = true;
            max_rx = 251;
          };
      opened = 0;
    }

-- both ends, with this latency
abbrev pub central_with : ℕ → Setup
central_with latency = end_with Central 0x0A 0x0B latency

abbrev pub peripheral_with : ℕ → Setup
peripheral_with latency = end_with Peripheral 0x0B 0x0A latency
