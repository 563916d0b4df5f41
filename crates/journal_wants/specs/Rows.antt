-- Two sides and their journals, as worked examples have them.
use Rattle.std.specs.Prelude.{ℕ, List, [], ◌∷◌, ◌++◌, Some}
use Rattle.ble_base.specs.declared.roles.Side.TheVariants.{A, B}
use Rattle.journal.specs.declared.entries.Entry.{Entry}
use Rattle.ble_base.specs.declared.verdicts.Verdict.TheVariants.{Missed}
use Rattle.journal.specs.declared.entries.Entry.TheVariants.{Air, Enter, Fed, Up}
use Rattle.journal.specs.declared.entries.Mark.TheVariants.{Pass as Passed}
use Rattle.advertise.specs.Defaults.{first_params}
use Rattle.slot_plan.specs.declared.Activity.TheVariants.{Advertise, Link}
use Rattle.slot_plan.specs.declared.Want.{Want}
use Rattle.journal_events.specs.journal_sending.controller_model.Facts.{first_advertising}
use Rattle.journal_events.specs.journal_sending.controller_model.Radio.{radio_held}
use Rattle.journal_events.specs.journal_sending.controller_model.Rows.{setup_a, setup_b}
use Rattle.journal_events.specs.journal_sending.run_model.Rows.{answer, connectable_packet, connecting_octets, enabling_octets, one_connection_journal, status_answer, turn_entry}
use Rattle.journal_wants.specs.Station.{Setups, Station, first_station}

abbrev pub two_setups : Setups
two_setups A = setup_a
two_setups B = setup_b

-- A is to advertise, and B to initiate
abbrev pub both_asked : List Entry
both_asked =
    turn_entry 0 ∷ Fed A enabling_octets ∷ Up A (answer 0x0A 0x20) ∷ Fed B connecting_octets ∷ Up B status_answer ∷ []

-- the turn of the first anchor of their link, in which A is asked to advertise once more
abbrev pub asked_once_more : List Entry
asked_once_more =
    one_connection_journal ++ turn_entry 1 ∷ turn_entry 2 ∷ Fed A enabling_octets ∷ Up A (answer 0x0A 0x20)
    ∷ Enter A 1 0 25 ∷ Enter B 1 0 25 ∷ []

-- A is asked to advertise in the turn before that of the anchor, and has the radio there still
abbrev pub held_by_advertiser : List Entry
held_by_advertiser =
    one_connection_journal ++ turn_entry 1 ∷ Fed A enabling_octets ∷ Up A (answer 0x0A 0x20)
    ∷ Air A 37 connectable_packet Passed Missed ∷ turn_entry 2 ∷ Enter A 1 0 25 ∷ Enter B 1 0 25 ∷ []

-- the link under a handle wants the radio, which it had last in this slot
abbrev pub link_since : ℕ → ℕ → Want
link_since handle slot = record { activity = Link handle; last_served = record { 0 = slot } }

-- a side of which these links want the radio, and its advertiser from a slot on
abbrev pub wanting : List Want → ℕ → Station
wanting wants due = record first_station {
  wants = wants;
  advertising = record first_advertising { on = Some (record { params = first_params; due = due }) };
}

-- the same while an advertising event holds the radio that began in a slot
abbrev pub held_since : ℕ → Station
held_since slot = record (wanting (link_since 0 5 ∷ []) 30) { radio = radio_held Advertise slot 3 }
