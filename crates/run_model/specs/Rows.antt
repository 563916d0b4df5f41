-- Small runs of two controllers, A and B, as worked examples set them up.
use Rattle.std.specs.Prelude.{ℕ, true, List, [], ◌∷◌, ◌++◌, Option, Some, None}
use Rattle.ble_base.specs.declared.roles.Side.TheVariants.{A, B}
use Rattle.journal.specs.declared.entries.Entry.{Entry}
use Rattle.ble_base.specs.declared.roles.Role.TheVariants.{Central, Peripheral}
use Rattle.ble_base.specs.declared.verdicts.Verdict.TheVariants.{Good}
use Rattle.journal.specs.declared.entries.Entry.TheVariants.{Turn, Fed, Air, Up, Opened, Enter}
use Rattle.journal.specs.declared.entries.Mark.TheVariants.{Pass as Passed}
use Rattle.radio_replay.specs.declared.fates.Fate.{Fate}
use Rattle.radio_replay.specs.declared.fates.Fate.TheVariants.{Damage}
use Rattle.controller_model.specs.Rows.{setup_a, setup_b, advertising_octets, scanning_octets}
use Rattle.run_model.specs.Run.{Given, Plan, Run, GoesOn, Stop, Stops}
use Rattle.run_model.specs.Pair.{one_of, station_with}

-- one turn with both radios on, in which A and B are fed these numbers of octets, with these fates
abbrev pub plan_with : ℕ → ℕ → List Fate → Plan
plan_with feed_a feed_b fates = record { radio_of = one_of true true; feed_of = one_of feed_a feed_b; fates = fates }

abbrev pub pair_with : List ℕ → List ℕ → List Plan → Given
pair_with a b plans = record {
  stations = 0 ∷ 1 ∷ [];
  station_of = one_of (station_with setup_a a) (station_with setup_b b);
  plans = plans;
}

abbrev pub turn_entry : ℕ → Entry
turn_entry slot = Turn slot true (Some true)

-- HCI_Reset, and its answer
abbrev pub reset : List ℕ
reset = 0x01 ∷ 0x03 ∷ 0x0C ∷ 0x00 ∷ []

abbrev pub reset_answer : List ℕ
reset_answer = 0x04 ∷ 0x0E ∷ 0x04 ∷ 0x01 ∷ 0x03 ∷ 0x0C ∷ 0x00 ∷ []

-- A resets its controller in the second of two turns
abbrev pub first_reset : Given
first_reset = pair_with reset [] (plan_with 0 0 [] ∷ plan_with 4 0 [] ∷ [])

abbrev pub first_reset_journal : List Entry
first_reset_journal = turn_entry 0 ∷ turn_entry 1 ∷ Fed A reset ∷ Up A reset_answer ∷ []

-- A advertises and B scans, with this fate of the advertisement
abbrev pub one_advertisement : List Fate → Given
one_advertisement fates = pair_with advertising_octets scanning_octets (plan_with 24 18 fates ∷ [])

-- the status 00 of a command with this opcode, in two octets
abbrev pub answer : ℕ → ℕ → List ℕ
answer low high = 0x04 ∷ 0x0E ∷ 0x04 ∷ 0x01 ∷ low ∷ high ∷ 0x00 ∷ []

abbrev pub report : List ℕ
report =
    0x04 ∷ 0x3E ∷ 0x0C ∷ 0x02 ∷ 0x01 ∷ 0x03 ∷ 0x00
    ∷ 0x0A ∷ 0x00 ∷ 0x00 ∷ 0xEE ∷ 0xFF ∷ 0xC0 ∷ 0x00 ∷ 0x7F ∷ []

abbrev pub advertisement_opening : List Entry → List Entry
advertisement_opening rest =
    turn_entry 0 ∷ Fed A advertising_octets ∷ Up A (answer 0x06 0x20) ∷ Up A (answer 0x0A 0x20)
    ∷ Fed B scanning_octets ∷ Up B (answer 0x01 0x0C) ∷ Up B (answer 0x0C 0x20) ∷ rest

-- the pattern is xored into the packet from this place on
abbrev pub damage_at : ℕ → List ℕ → Fate
damage_at place pattern = Damage place (record { items = pattern })

-- the change of one bit of the address, and of the CRC with it
abbrev pub unseen_pattern : List ℕ
unseen_pattern = 0x80 ∷ 0x00 ∷ 0x60 ∷ 0xDA ∷ []

-- what it leaves of the advertisement
abbrev pub other_advertisement : List ℕ
other_advertisement =
    0xD6 ∷ 0xBE ∷ 0x89 ∷ 0x8E ∷ 0x8F ∷ 0xD4 ∷ 0x5D ∷ 0xA1 ∷ 0x3D ∷ 0x49 ∷ 0x99 ∷ 0xF0 ∷ 0xF8 ∷ 0x2A ∷ 0x00 ∷ []

abbrev pub stop_of : Run → Option Stop
stop_of (GoesOn history) = None
stop_of (Stops history stop) = Some stop

-- ---- a link opens

-- LE Set Advertising Enable, and LE Create Connection: 10 ms of each 10 ms, to A, an interval of 30 ms, no latency, a
-- timeout of 720 ms
abbrev pub enabling_octets : List ℕ
enabling_octets = 0x01 ∷ 0x0A ∷ 0x20 ∷ 0x01 ∷ 0x01 ∷ []

abbrev pub connecting_octets : List ℕ
connecting_octets =
    0x01 ∷ 0x0D ∷ 0x20 ∷ 0x19 ∷ 0x10 ∷ 0x00 ∷ 0x10 ∷ 0x00 ∷ 0x00 ∷ 0x00 ∷ 0x0A ∷ 0x00 ∷ 0x00 ∷ 0xEE ∷ 0xFF
    ∷ 0xC0 ∷ 0x00 ∷ 0x18 ∷ 0x00 ∷ 0x18 ∷ 0x00 ∷ 0x00 ∷ 0x00 ∷ 0x48 ∷ 0x00 ∷ 0x00 ∷ 0x00 ∷ 0x00 ∷ 0x00 ∷ []

-- A advertises as it starts, to anyone, and B initiates
abbrev pub one_connection : Given
one_connection = pair_with enabling_octets connecting_octets (plan_with 5 29 [] ∷ [])

-- the ADV_IND of A
abbrev pub connectable_packet : List ℕ
connectable_packet =
    0xD6 ∷ 0xBE ∷ 0x89 ∷ 0x8E ∷ 0xAD ∷ 0xD4 ∷ 0x5D ∷ 0xA1 ∷ 0x3D ∷ 0x49 ∷ 0x99 ∷ 0x70 ∷ 0x16 ∷ 0x39 ∷ 0x06 ∷ []

-- the CONNECT_IND of B: the access address 71764129, CRCInit 000002, WinSize 1, WinOffset 0, Interval 24, Latency 0,
-- Timeout 72, all channels, Hop 5 and SCA 0
abbrev pub connect_packet : List ℕ
connect_packet =
    0xD6 ∷ 0xBE ∷ 0x89 ∷ 0x8E ∷ 0xA8 ∷ 0xF0 ∷ 0x5C ∷ 0xA1 ∷ 0x3D ∷ 0x49 ∷ 0x99 ∷ 0x70 ∷ 0x7F ∷ 0x31 ∷ 0x11
    ∷ 0xA6 ∷ 0x69 ∷ 0xB7 ∷ 0xD1 ∷ 0xA2 ∷ 0x30 ∷ 0x98 ∷ 0xA9 ∷ 0xD0 ∷ 0x9E ∷ 0x52 ∷ 0x33 ∷ 0xD8 ∷ 0xA2 ∷ 0x98
    ∷ 0x08 ∷ 0x24 ∷ 0x83 ∷ 0x3B ∷ 0x03 ∷ 0x8E ∷ 0x5C ∷ 0x0B ∷ 0x4A ∷ 0x6D ∷ 0xD1 ∷ 0xA5 ∷ 0x50 ∷ []

abbrev pub status_answer : List ℕ
status_answer = 0x04 ∷ 0x0F ∷ 0x04 ∷ 0x00 ∷ 0x01 ∷ 0x0D ∷ 0x20 ∷ []

abbrev pub one_connection_journal : List Entry
one_connection_journal =
    turn_entry 0 ∷ Fed A enabling_octets ∷ Up A (answer 0x0A 0x20) ∷ Fed B connecting_octets ∷ Up B status_answer
    ∷ Air A 37 connectable_packet Passed Good ∷ Air B 37 connect_packet Passed Good
    ∷ Opened A 1 0 Peripheral ∷ Opened B 1 0 Central ∷ []

-- the same in three turns, the last of which has the first event of the link
abbrev pub one_event : Given
one_event = pair_with enabling_octets connecting_octets (plan_with 5 29 [] ∷ plan_with 0 0 [] ∷ plan_with 0 0 [] ∷ [])

-- the empty PDUs of B and of A on data channel 25, with the access address of the link and its CRCInit
abbrev pub first_packet : List ℕ
first_packet = 0x29 ∷ 0x41 ∷ 0x76 ∷ 0x71 ∷ 0x50 ∷ 0xFA ∷ 0xDE ∷ 0xE5 ∷ 0x50 ∷ []

abbrev pub first_reply : List ℕ
first_reply = 0x29 ∷ 0x41 ∷ 0x76 ∷ 0x71 ∷ 0x54 ∷ 0xFA ∷ 0x0D ∷ 0xE3 ∷ 0x50 ∷ []

abbrev pub one_event_journal : List Entry
one_event_journal =
    one_connection_journal ++ turn_entry 1 ∷ turn_entry 2 ∷ Enter A 1 0 25 ∷ Enter B 1 0 25
    ∷ Air B 25 first_packet Passed Good ∷ Air A 25 first_reply Passed Good ∷ []
