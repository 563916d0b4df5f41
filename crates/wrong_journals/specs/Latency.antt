-- Journals of a link whose central updates the latency, and whose peripheral skips an event or wakes in it by the latency
-- of before (Core 5.2, volume 6 part B, sections 4.5.1 and 5.1.1). The Instant is nearer than a central chooses it, so
-- that they are short.
use Rattle.std.specs.Prelude.{ℕ, List, [], ◌∷◌, ◌++◌}
use Rattle.ble_base.specs.declared.procedure_kinds.Kind.TheVariants.{Update}
use Rattle.ble_base.specs.declared.roles.Role.TheVariants.{Central, Peripheral}
use Rattle.ble_base.specs.declared.roles.Side.TheVariants.{A, B}
use Rattle.ble_base.specs.declared.verdicts.Verdict.TheVariants.{Good, Missed}
use Rattle.journal.specs.declared.entries.Entry.{Entry}
use Rattle.journal.specs.declared.entries.Entry.TheVariants.{Air, Applied, Began, Done, Enter, Fed, Opened, Sent, Took, Up}
use Rattle.journal.specs.declared.entries.Mark.TheVariants.{Pass}
use Rattle.journal_pdus.specs.journal_acks.Rows.{more_packet, reply_packet}
use Rattle.run_model.specs.Rows.{answer, connectable_packet, enabling_octets, first_reply, one_connection_journal, status_answer, turn_entry}
use Rattle.wrong_journals.specs.Again.{first_again}
use Rattle.wrong_journals.specs.Commanded.{accepted}
use Rattle.wrong_journals.specs.Events.{turn_entries}

-- ---- a link that opens with a latency of one event

abbrev pub connecting_with_latency : List ℕ
connecting_with_latency =
    0x01 ∷ 0x0D ∷ 0x20 ∷ 0x19 ∷ 0x10 ∷ 0x00 ∷ 0x10 ∷ 0x00 ∷ 0x00 ∷ 0x00 ∷ 0x0A ∷ 0x00 ∷ 0x00 ∷ 0xEE ∷ 0xFF
    ∷ 0xC0 ∷ 0x00 ∷ 0x18 ∷ 0x00 ∷ 0x18 ∷ 0x00 ∷ 0x01 ∷ 0x00 ∷ 0x48 ∷ 0x00 ∷ 0x00 ∷ 0x00 ∷ 0x00 ∷ 0x00 ∷ []

abbrev pub connect_with_latency : List ℕ
connect_with_latency =
    0xD6 ∷ 0xBE ∷ 0x89 ∷ 0x8E ∷ 0xA8 ∷ 0xF0 ∷ 0x5C ∷ 0xA1 ∷ 0x3D ∷ 0x49 ∷ 0x99 ∷ 0x70 ∷ 0x7F ∷ 0x31 ∷ 0x11
    ∷ 0xA6 ∷ 0x69 ∷ 0xB7 ∷ 0xD1 ∷ 0xA2 ∷ 0x30 ∷ 0x98 ∷ 0xA9 ∷ 0xD0 ∷ 0x9E ∷ 0x52 ∷ 0x33 ∷ 0xD8 ∷ 0xA2 ∷ 0x98
    ∷ 0x09 ∷ 0x24 ∷ 0x83 ∷ 0x3B ∷ 0x03 ∷ 0x8E ∷ 0x5C ∷ 0x0B ∷ 0x4A ∷ 0x6D ∷ 0x4A ∷ 0x94 ∷ 0xC7 ∷ []

abbrev pub connection_with_latency : List Entry
connection_with_latency =
    turn_entry 0 ∷ Fed A enabling_octets ∷ Up A (answer 0x0A 0x20) ∷ Fed B connecting_with_latency ∷ Up B status_answer
    ∷ Air A 37 connectable_packet Pass Good ∷ Air B 37 connect_with_latency Pass Good
    ∷ Opened A 1 0 Peripheral ∷ Opened B 1 0 Central ∷ []

-- ---- an update of the latency

-- HCI_LE_Connection_Update: an interval of 24 slots, this latency and a timeout of 720 ms
abbrev pub update_latency : ℕ → List ℕ
update_latency latency =
    0x01 ∷ 0x13 ∷ 0x20 ∷ 0x0E ∷ 0x00 ∷ 0x00 ∷ 0x18 ∷ 0x00 ∷ 0x18 ∷ 0x00 ∷ latency ∷ 0x00 ∷ 0x48 ∷ 0x00 ∷ 0x00 ∷ 0x00
    ∷ 0x00 ∷ 0x00 ∷ []

-- LL_CONNECTION_UPDATE_IND with this latency, from event 1 on
abbrev pub latency_body : ℕ → List ℕ
latency_body latency =
    0x00 ∷ 0x01 ∷ 0x00 ∷ 0x00 ∷ 0x18 ∷ 0x00 ∷ latency ∷ 0x00 ∷ 0x48 ∷ 0x00 ∷ 0x01 ∷ 0x00 ∷ []

-- the peripheral takes it in the first event, whose second slot is in turn 3; event 1 is in turn 26
abbrev pub before_instant : (connection : List Entry) → (latency : ℕ) → (packet : List ℕ) → List Entry
before_instant connection latency packet =
    connection
    ++ turn_entry 1 ∷ Fed B (update_latency latency) ∷ Up B (accepted 0x13 0x20) ∷ turn_entry 2 ∷ Enter A 1 0 25
    ∷ Enter B 1 0 25 ∷ Began B 1 Update ∷ Air B 25 more_packet Pass Good ∷ Air A 25 first_reply Pass Good ∷ turn_entry 3
    ∷ Sent B 1 1 3 (latency_body latency) ∷ Air B 25 packet Pass Good ∷ Took A 1 1 3 (latency_body latency)
    ∷ Air A 25 reply_packet Pass Good ∷ turn_entries 4 23

abbrev pub updated : (connection : List Entry) → (latency : ℕ) → (packet : List ℕ) → List Entry
updated connection latency packet =
    before_instant connection latency packet
    ++ Applied A 1 1 1 ∷ Enter A 1 1 20 ∷ Applied B 1 1 1 ∷ Enter B 1 1 20 ∷ Done B 1 Update ∷ []

-- ---- from none to one event: the peripheral skips event 1, and does not wake by the latency of before

abbrev pub latency_packet : List ℕ
latency_packet =
    0x29 ∷ 0x41 ∷ 0x76 ∷ 0x71 ∷ 0x5E ∷ 0xF6 ∷ 0x2A ∷ 0xB5 ∷ 0xE7 ∷ 0xD4 ∷ 0x14 ∷ 0xB6 ∷ 0x2F ∷ 0x26 ∷ 0x4A ∷ 0xC9 ∷ 0xF3
    ∷ 0x0E ∷ 0x16 ∷ 0xC3 ∷ 0xB9 ∷ []

abbrev pub one_from_now : List Entry
one_from_now = updated one_connection_journal 1 latency_packet

abbrev pub woken : List Entry
woken = one_from_now ++ Air B 20 first_again Pass Good ∷ []

-- it enters event 1 with the new latency, though no line says that this is in force
abbrev pub not_applied : List Entry
not_applied = before_instant one_connection_journal 1 latency_packet

abbrev pub entered_unapplied : List Entry
entered_unapplied = not_applied ++ Enter A 1 1 20 ∷ []

-- ---- from one event to none: the peripheral listens in event 1, and does not skip it by the latency of before

abbrev pub none_from_now : List Entry
none_from_now =
    updated connection_with_latency 0
    (0x29 ∷ 0x41 ∷ 0x76 ∷ 0x71 ∷ 0x5E ∷ 0xF6 ∷ 0x2A ∷ 0xB5 ∷ 0xE7 ∷ 0xD4 ∷ 0x14 ∷ 0xB6 ∷ 0x2E ∷ 0x26 ∷ 0x4A ∷ 0xC9 ∷ 0xF3
    ∷ 0x0E ∷ 0xED ∷ 0x1E ∷ 0x98 ∷ [])

abbrev pub skipped : List Entry
skipped = none_from_now ++ Air B 20 first_again Pass Missed ∷ []
