-- Schedules, and journals that do not follow them.
use Rattle.std.specs.Prelude.{ℕ, true, false, List, [], ◌∷◌, Some}
use Rattle.ble_base.specs.declared.Config.{Config}
use Rattle.ble_base.specs.declared.roles.Side.TheVariants.{A, B}
use Rattle.ble_base.specs.declared.verdicts.Verdict.TheVariants.{Good, Missed}
use Rattle.journal.specs.declared.entries.Entry.{Entry}
use Rattle.journal.specs.declared.entries.Entry.TheVariants.{Air, Fed, Turn}
use Rattle.journal.specs.declared.entries.Mark.TheVariants.{Lost as WasLost, Pass as Passed}
use Rattle.radio_replay.specs.Script.{Script, Turn as ScriptTurn}
use Rattle.radio_replay.specs.declared.fates.Fate.TheVariants.{Damage, Lost, Pass}
use Rattle.run_model.specs.Rows.{connectable_packet, turn_entry}

-- a turn with both radios on, which feeds one octet to A, passes its first packet, and loses the second
abbrev pub scripted_turn : ScriptTurn
scripted_turn = record { a_on = true; b_on = true; feed_a = 1; feed_b = 0; fates = Pass ∷ Lost ∷ [] }

-- a schedule of one such turn, and of two
abbrev pub one_turn : Config → Config → Script
one_turn a b = record { a = a; b = b; turns = scripted_turn ∷ [] }

abbrev pub two_turns : Config → Config → Script
two_turns a b = record { a = a; b = b; turns = scripted_turn ∷ scripted_turn ∷ [] }

-- the stream of the host of A
abbrev pub stream : List ℕ
stream = 0x01 ∷ 0x03 ∷ []

-- ---- turns

abbrev pub empty_journal : List Entry
empty_journal = []

-- only the first of two turns
abbrev pub cut_short : List Entry
cut_short = turn_entry 0 ∷ Fed A (0x01 ∷ []) ∷ []

abbrev pub begins_at_seven : List Entry
begins_at_seven = turn_entry 7 ∷ []

-- the radio of B is off
abbrev pub radio_off : List Entry
radio_off = Turn 0 true (Some false) ∷ []

-- two turns of a schedule that has one
abbrev pub one_too_many : List Entry
one_too_many = turn_entry 0 ∷ turn_entry 1 ∷ []

-- ---- octets of hosts

-- the second octet of the stream in place of the first
abbrev pub fed_another : List Entry
fed_another = turn_entry 0 ∷ Fed A (0x03 ∷ []) ∷ []

-- two octets in a turn that feeds one
abbrev pub fed_too_much : List Entry
fed_too_much = turn_entry 0 ∷ Fed A (0x01 ∷ 0x03 ∷ []) ∷ []

-- an octet for the side whose stream is empty
abbrev pub fed_to_other : List Entry
fed_to_other = turn_entry 0 ∷ Fed A (0x01 ∷ []) ∷ Fed B (0x01 ∷ []) ∷ []

-- nothing before the next turn
abbrev pub fed_late : List Entry
fed_late = turn_entry 0 ∷ turn_entry 1 ∷ Fed A (0x01 ∷ 0x03 ∷ []) ∷ []

-- ---- packets

-- the first packet of the turn, to which the second fate was given
abbrev pub fate_of_the_next : List Entry
fate_of_the_next = turn_entry 0 ∷ Air A 37 connectable_packet WasLost Missed ∷ []

-- the second packet of the turn, to which the first fate was given
abbrev pub fate_of_the_last : List Entry
fate_of_the_last =
    turn_entry 0 ∷ Air A 37 connectable_packet Passed Good ∷ Air A 37 connectable_packet Passed Good ∷ []

-- past its fates a packet passes
abbrev pub fate_of_its_own : List Entry
fate_of_its_own =
    turn_entry 0 ∷ Air A 37 connectable_packet Passed Good ∷ Air A 37 connectable_packet WasLost Missed
    ∷ Air A 37 connectable_packet WasLost Missed ∷ []

-- ---- radios

-- a turn in which the radio of A is off, and one in which that of B is
abbrev pub without_a : Config → Config → Script
without_a a b = record { a = a; b = b; turns = record scripted_turn { a_on = false } ∷ [] }

abbrev pub without_b : Config → Config → Script
without_b a b = record { a = a; b = b; turns = record scripted_turn { b_on = false } ∷ [] }

-- A sends with its radio off
abbrev pub sent_without_radio : List Entry
sent_without_radio = Turn 0 false (Some true) ∷ Air A 37 connectable_packet Passed Good ∷ []

-- B hears with its radio off
abbrev pub heard_without_radio : List Entry
heard_without_radio = Turn 0 true (Some false) ∷ Air A 37 connectable_packet Passed Good ∷ []

-- ---- stops

-- a turn that changes the first octet of its first packet, and one more turn
abbrev pub damaged_turn : ScriptTurn
damaged_turn = record scripted_turn { fates = Damage 0 (record { items = 0x01 ∷ [] }) ∷ [] }

abbrev pub with_damage : Config → Config → Script
with_damage a b = record { a = a; b = b; turns = damaged_turn ∷ scripted_turn ∷ [] }

-- the first turn began
abbrev pub before_damage : List Entry
before_damage = turn_entry 0 ∷ []

abbrev pub two_octets : List ℕ
two_octets = 0xA0 ∷ 0xB0 ∷ []

abbrev pub two_octets_heard : List ℕ
two_octets_heard = 0xA1 ∷ 0xB0 ∷ []
