-- Both ends of the link of a small run, up to its first event.
use Rattle.std.specs.Prelude.{ℕ, true, false, List, [], ◌∷◌}
use Rattle.ble_base.specs.declared.addresses.Address.{Address}
use Rattle.ble_base.specs.declared.roles.Role.{Role}
use Rattle.ble_base.specs.declared.roles.Role.TheVariants.{Central, Peripheral}
use Rattle.adv_pdu.specs.declared.pdu.ConnectFields.{ConnectFields}
use Rattle.run_model.specs.link_model.Setup.{Setup}
use Rattle.run_model.specs.link_model.Step.{EventEntered, PduFixed, PacketSent, PacketReceived, WordsGiven}
use Rattle.run_model.specs.controller_model.Rows.{address_a, address_b}
use Rattle.run_model.specs.History.{Event}
use Rattle.run_model.specs.Rows.{first_packet, first_reply, one_event}
use Rattle.run_model.specs.Run.{history_of, run_of}
use Rattle.run_laws.specs.Ends.{OpenEnd}

abbrev pub one_event_history : List Event
one_event_history = history_of (run_of one_event)

-- the fields of its CONNECT_IND
abbrev pub one_event_fields : ConnectFields
one_event_fields = record {
  access = 0x71764129;
  crc_init = 2;
  win_size = 1;
  win_offset = 0;
  interval = 24;
  latency = 0;
  timeout = 72;
  map = 0x1FFFFFFFFF;
  hop = 5;
  sca = 0;
}

abbrev pub public : List ℕ → Address
public octets = record { random = false; octets = octets }

abbrev pub end_with : Role → List ℕ → List ℕ → Setup
end_with role own peer = record {
  link = record {
    role = role;
    handle = 0;
    own = public own;
    peer = public peer;
    fields = one_event_fields;
    two = true;
    max_rx = 251;
  };
  opened = 0;
}

-- B is the central, and A the peripheral. Each random word of A is 1
abbrev pub central_end : OpenEnd
central_end = record {
  station = 1;
  handle = 0;
  link = record {
    setup = end_with Central address_b address_a;
    past = EventEntered 2 ∷ PduFixed ∷ PacketSent 2 ∷ PacketReceived 2 first_reply true ∷ [];
    last_served = 2;
  };
}

abbrev pub peripheral_end : OpenEnd
peripheral_end = record {
  station = 0;
  handle = 0;
  link = record {
    setup = end_with Peripheral address_a address_b;
    past =
        EventEntered 2 ∷ PduFixed ∷ WordsGiven 1 1 ∷ PacketReceived 2 first_packet true ∷ PacketSent 2 ∷ [];
    last_served = 2;
  };
}
