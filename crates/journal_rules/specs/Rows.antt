-- Lines of worked examples, and the words for them.
use Rattle.std.specs.Prelude.{ℕ, List, [], ◌∷◌, ◌++◌}
pub use Rattle.ble_base.specs.declared.roles.Role.TheVariants.{Central, Peripheral}
pub use Rattle.ble_base.specs.declared.roles.Side.TheVariants.{A, B}
use Rattle.journal.specs.declared.entries.Entry.{Entry}
use Rattle.journal.specs.declared.entries.Entry.TheVariants.{Applied, Enter, Opened, Sent, Took}
use Rattle.journal_events.specs.journal_sending.Rows.{data_too}
pub use Rattle.journal_events.specs.journal_sending.Rows.{version_owed}
pub use Rattle.journal_events.specs.journal_sending.journal_data.Lines.{lines_of}
use Rattle.journal_events.specs.journal_sending.journal_fixing.Rows.{version_heard}
pub use Rattle.journal_events.specs.journal_sending.journal_fixing.Rows.{end_sent, length_taken, link_ended, own_version, terminate_pdu}
pub use Rattle.journal_events.specs.journal_sending.journal_fixing.link_model.Acknowledgement.{empty_pdu}
pub use Rattle.journal_events.specs.journal_sending.journal_links.Rows.{one_link}
use Rattle.journal_events.specs.journal_sending.run_model.Rows.{turn_entry}
pub use Rattle.journal_events.specs.journal_sending.run_model.Rows.{one_event_journal}
pub use Rattle.journal_rules.specs.Sealing.{is_sealed, sent_since}
pub use Rattle.journal_rules.specs.Skipping.{events_heard, latency_in, skips_after}
pub use Rattle.journal_rules.specs.Waiting.{Again, NewControl, NewData, Waited, md_with, waits_after}

-- ---- MD

-- the peripheral is to answer LL_VERSION_IND, with data of its host or without, and sends its own
abbrev pub version_sent : List Entry
version_sent = version_heard ++ turn_entry 4 ∷ Sent A 1 1 own_version.llid own_version.body ∷ []

abbrev pub version_sent_first : List Entry
version_sent_first = data_too ++ Sent A 1 1 own_version.llid own_version.body ∷ []

-- ---- sealing

-- a control PDU that is its opcode alone: LL_START_ENC_REQ is 0x05, LL_START_ENC_RSP 0x06 and LL_PAUSE_ENC_RSP 0x0B
abbrev pub took_at_a : ℕ → Entry
took_at_a opcode = Took A 1 1 3 (opcode ∷ [])

abbrev pub took_at_b : ℕ → Entry
took_at_b opcode = Took B 1 1 3 (opcode ∷ [])

-- the peripheral takes LL_START_ENC_RSP, and sends its own and a PDU of data
abbrev pub started_at_a : List Entry
started_at_a =
    Opened A 1 0 Peripheral ∷ Sent A 1 1 3 (0x05 ∷ []) ∷ took_at_a 0x06 ∷ Sent A 1 2 3 (0x06 ∷ []) ∷ Sent A 1 3 2 (0xAA ∷ []) ∷ []

-- the central takes LL_START_ENC_REQ, sends LL_START_ENC_RSP and takes that of the peripheral
abbrev pub started_at_b : List Entry
started_at_b = Opened B 1 0 Central ∷ took_at_b 0x05 ∷ Sent B 1 1 3 (0x06 ∷ []) ∷ took_at_b 0x06 ∷ []

-- ---- skips

-- LL_CONNECTION_UPDATE_IND with this latency, whose Instant is event 6 (Core 5.2, volume 6 part B, section 2.4.2.1)
abbrev pub latency_octets : ℕ → List ℕ
latency_octets latency = 0x00 ∷ 1 ∷ 0 ∷ 0 ∷ 8 ∷ 0 ∷ latency ∷ 0 ∷ 100 ∷ 0 ∷ 6 ∷ 0 ∷ []

-- the peripheral takes it in event 0, and lets it hold from event 6 on
abbrev pub latency_taken : List Entry
latency_taken = Enter A 1 0 25 ∷ Took A 1 1 3 (latency_octets 2) ∷ Enter A 1 5 9 ∷ []

abbrev pub latency_in_force : List Entry
latency_in_force = latency_taken ++ Applied A 1 1 6 ∷ []
