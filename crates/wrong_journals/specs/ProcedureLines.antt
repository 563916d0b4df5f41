-- Journals whose lines of control procedures are not those that are due (Core 5.2, volume 6 part B, sections 5.1 and
-- 5.5).
use Rattle.std.specs.Prelude.{ℕ, List, [], ◌∷◌, ◌++◌}
use Rattle.ble_base.specs.ErrorCodes.{unsupported_remote_feature}
use Rattle.ble_base.specs.declared.procedure_kinds.Kind.TheVariants.{Features, Version}
use Rattle.ble_base.specs.declared.roles.Role.TheVariants.{Central, Peripheral}
use Rattle.ble_base.specs.declared.roles.Side.TheVariants.{A, B}
use Rattle.journal.specs.declared.entries.Entry.{Entry}
use Rattle.journal.specs.declared.entries.Entry.TheVariants.{Applied, Began, Done, Enter, Refused, Sent, Took}
use Rattle.journal_pdus.specs.journal_controls.Rows.{begun_on, version_asked, version_sent}
use Rattle.journal_pdus.specs.link_model.Acknowledgement.{Pdu}
use Rattle.journal_pdus.specs.link_model.Controls.{read_of}
use Rattle.journal_pdus.specs.link_model.Facts.{no_response}
use Rattle.journal_pdus.specs.link_model.keyed_control.Keyed.{Keyed}
use Rattle.journal_pdus.specs.link_model.keyed_control.KeyedSteps.{Asks, Enters, Sends, Takes, keyed_after_all}
use Rattle.journal_pdus.specs.link_model.phased_end.Taking.{drawn}
use Rattle.journal_pdus.specs.link_model.procedure_values.declared.asks.Ask.TheVariants.{Features as ask_features}
use Rattle.journal_pdus.specs.link_model.procedure_values.declared.asks.Ask.TheVariants.{Map as ask_map}
use Rattle.journal_pdus.specs.journal_acks.Rows.{second_slot}
use Rattle.run_model.specs.Rows.{one_connection_journal, one_event_journal, turn_entry}
use Rattle.wrong_journals.specs.Events.{turn_entries}

-- ---- journals

-- a procedure begins that no host asked for
abbrev pub begun_unasked : List Entry
begun_unasked = one_event_journal ++ Began B 1 Version ∷ []

-- a procedure begins before the first event
abbrev pub begun_before_events : List Entry
begun_before_events = one_connection_journal ++ Began A 1 Version ∷ []

-- a procedure is done as its first PDU is sent
abbrev pub done_untaken : List Entry
done_untaken = version_sent ++ Done B 1 Version ∷ []

-- a procedure is refused by no PDU
abbrev pub refused_untaken : List Entry
refused_untaken = one_event_journal ++ Refused B 1 Features (record { 0 = unsupported_remote_feature }) ∷ []

-- LL_CHANNEL_MAP_IND: all data channels but 36, from event 6 on (section 2.4.2.2)
abbrev pub map_pdu : Pdu
map_pdu = record { llid = 3; body = 0x01 ∷ 0xFF ∷ 0xFF ∷ 0xFF ∷ 0xFF ∷ 0x0F ∷ 0x06 ∷ 0x00 ∷ [] }

-- the peripheral takes it in event 0, in turn 3
abbrev pub map_taken : List Entry
map_taken =
    second_slot ++ Sent B 1 1 map_pdu.llid map_pdu.body ∷ Took A 1 1 map_pdu.llid map_pdu.body ∷ []

-- it comes into force at once, in a turn in which no event is entered any more
abbrev pub applied_at_once : List Entry
applied_at_once = map_taken ++ Applied A 1 1 0 ∷ turn_entry 4 ∷ []

-- an indication comes into force before the first event
abbrev pub applied_before_events : List Entry
applied_before_events = one_connection_journal ++ Applied A 1 1 0 ∷ turn_entry 1 ∷ []

-- it comes into force in the turn of event 1, which is turn 26
abbrev pub before_instant : List Entry
before_instant = map_taken ++ turn_entries 4 23

abbrev pub applied_early : List Entry
applied_early = before_instant ++ Applied A 1 1 1 ∷ Enter A 1 1 20 ∷ []

-- both sides enter this event, on this channel, and 24 turns begin, the first of them in this slot
abbrev pub entered_before : ℕ → (event channel : ℕ) → List Entry
entered_before slot event channel = Enter A 1 event channel ∷ Enter B 1 event channel ∷ turn_entries slot 24

-- the turn of event 6, which is turn 146, has begun
abbrev pub at_instant : List Entry
at_instant =
    before_instant ++ entered_before 27 1 20 ++ entered_before 51 2 6 ++ entered_before 75 3 21
    ++ entered_before 99 4 34 ++ entered_before 123 5 36

-- another indication comes into force
abbrev pub applied_misnumbered : List Entry
applied_misnumbered = at_instant ++ Applied A 1 2 6 ∷ Enter A 1 6 23 ∷ []

-- none does
abbrev pub applied_never : List Entry
applied_never = at_instant ++ Enter A 1 6 23 ∷ []

-- the right one does, and the event is not entered
abbrev pub applied_unentered : List Entry
applied_unentered = at_instant ++ Applied A 1 1 6 ∷ turn_entry 147 ∷ []

-- ---- ends

-- the peripheral in event 5, before the Instant
abbrev pub map_awaited : Keyed
map_awaited =
    keyed_after_all
    (Enters 2 ∷ Takes (read_of map_pdu) 3 (drawn no_response) ∷ Enters 26 ∷ Enters 50 ∷ Enters 74 ∷ Enters 98 ∷ Enters 122
    ∷ [])
    (begun_on Peripheral)

-- the central that exchanges versions, and of which the host asks for the features of the peer
abbrev pub version_running : Keyed
version_running = keyed_after_all (Enters 2 ∷ Sends 2 ∷ Asks ask_features ∷ []) version_asked

-- and the central that sends that map in event 0
abbrev pub map_sent : Keyed
map_sent = keyed_after_all (Asks (ask_map 0x0FFFFFFFFF) ∷ Enters 2 ∷ Sends 2 ∷ []) (begun_on Central)
