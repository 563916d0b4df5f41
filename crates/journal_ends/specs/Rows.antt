-- Journals in which a host sends commands on its link, or a packet is judged forged, as worked examples have them.
use Rattle.std.specs.Prelude.{ℕ, List, [], ◌∷◌, ◌++◌, Some, None}
use Rattle.ble_base.specs.declared.procedure_kinds.Kind.TheVariants.{Encrypt}
use Rattle.ble_base.specs.declared.roles.Side.TheVariants.{B}
use Rattle.journal.specs.declared.entries.Entry.{Entry}
use Rattle.ble_base.specs.declared.verdicts.Verdict.TheVariants.{Forged}
use Rattle.journal.specs.declared.entries.Entry.TheVariants.{Air, Began, Fed, Took, Up}
use Rattle.journal.specs.declared.entries.Mark.TheVariants.{Pass as Passed}
use Rattle.journal_acks.specs.Rows.{data_packet, data_sent}
use Rattle.journal_acks.specs.link_model.declared.state.PeerFacts.{PeerFacts}
use Rattle.journal_acks.specs.run_model.Rows.{one_connection_journal, turn_entry}
use Rattle.journal_ends.specs.Asked.{Words}

-- each side would draw these words in any turn
abbrev pub some_words : Words
some_words side front = record { skd_s = 0x11; iv_s = 0x22 }

-- Read Remote Version Information, 041D, of handle 0, and its Command Status
abbrev pub version_command : Entry
version_command = Fed B (0x01 ∷ 0x1D ∷ 0x04 ∷ 0x02 ∷ 0x00 ∷ 0x00 ∷ [])

abbrev pub version_answer : ℕ → Entry
version_answer status = Up B (0x04 ∷ 0x0F ∷ 0x04 ∷ status ∷ 0x01 ∷ 0x1D ∷ 0x04 ∷ [])

-- the turn after that of the CONNECT_IND
abbrev pub next_turn : List Entry
next_turn = one_connection_journal ++ turn_entry 1 ∷ []

abbrev pub asked_of_central : List Entry
asked_of_central = next_turn ++ version_command ∷ version_answer 0x00 ∷ []

abbrev pub refused_to_central : List Entry
refused_to_central = next_turn ++ version_command ∷ version_answer 0x0C ∷ []

-- Disconnect, 0406, of handle 0 with reason 13, and its Command Status
abbrev pub ended_by_central : List Entry
ended_by_central =
    asked_of_central ++ Fed B (0x01 ∷ 0x06 ∷ 0x04 ∷ 0x03 ∷ 0x00 ∷ 0x00 ∷ 0x13 ∷ [])
    ∷ Up B (0x04 ∷ 0x0F ∷ 0x04 ∷ 0x00 ∷ 0x01 ∷ 0x06 ∷ 0x04 ∷ []) ∷ []

-- LE Remote Connection Parameter Request Reply, 2020, of handle 0, for an interval of 30 ms, no latency and a timeout of
-- 720 ms; and its Negative Reply, 2021, with reason 3B
abbrev pub reply_command : Entry
reply_command =
    Fed B (0x01 ∷ 0x20 ∷ 0x20 ∷ 0x0E ∷ 0x00 ∷ 0x00 ∷ 0x18 ∷ 0x00 ∷ 0x18 ∷ 0x00 ∷ 0x00 ∷ 0x00 ∷ 0x48 ∷ 0x00
    ∷ 0x00 ∷ 0x00 ∷ 0x00 ∷ 0x00 ∷ [])

abbrev pub negative_command : Entry
negative_command = Fed B (0x01 ∷ 0x21 ∷ 0x20 ∷ 0x03 ∷ 0x00 ∷ 0x00 ∷ 0x3B ∷ [])

-- the Command Complete of one of them, by the low octet of its opcode
abbrev pub reply_answer : ℕ → ℕ → Entry
reply_answer low status = Up B (0x04 ∷ 0x0E ∷ 0x06 ∷ 0x01 ∷ low ∷ 0x20 ∷ status ∷ 0x00 ∷ 0x00 ∷ [])

abbrev pub replied : List Entry
replied = reply_command ∷ reply_answer 0x20 0x00 ∷ []

abbrev pub replied_negatively : List Entry
replied_negatively = negative_command ∷ reply_answer 0x21 0x00 ∷ []

-- LL_VERSION_IND was taken before
abbrev pub version_body : List ℕ
version_body = 0x0C ∷ 0x0B ∷ 0xFF ∷ 0xFF ∷ 0x01 ∷ 0x00 ∷ []

abbrev pub asked_again : List Entry
asked_again = next_turn ++ Took B 1 1 3 version_body ∷ version_command ∷ version_answer 0x00 ∷ []

-- a central takes it while its encryption runs, and its host asks for the version then
abbrev pub version_kept : List Entry
version_kept = Began B 1 Encrypt ∷ Took B 1 1 3 version_body ∷ []

abbrev pub asked_meanwhile : List Entry
asked_meanwhile = next_turn ++ version_kept ++ version_command ∷ version_answer 0x00 ∷ []

-- version 0B of company FFFF, and nothing else, is known of the peer
abbrev pub known_version : PeerFacts
known_version = record { features = None; version = Some (record { version = 0x0B; company = 0xFFFF; sub = 0x0001 }) }

-- the peripheral judges the packet with the PDU of data of the central forged
abbrev pub forged_data : List Entry
forged_data = data_sent ++ Air B 25 data_packet Passed Forged ∷ []
