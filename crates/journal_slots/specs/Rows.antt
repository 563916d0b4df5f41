-- Journals of a link whose first event goes on in the turn after that of its anchor, as worked examples have them.
use Rattle.std.specs.Prelude.{ℕ, List, [], ◌∷◌, ◌++◌}
use Rattle.ble_base.specs.declared.roles.Side.TheVariants.{A, B}
use Rattle.ble_base.specs.declared.verdicts.Verdict.TheVariants.{Good, Missed}
use Rattle.journal.specs.declared.entries.Entry.{Entry}
use Rattle.journal.specs.declared.entries.Entry.TheVariants.{Air}
use Rattle.journal.specs.declared.entries.Mark.TheVariants.{Lost, Pass}
use Rattle.journal_acks.specs.run_model.Rows.{first_packet, first_reply, one_event_journal, turn_entry}
use Rattle.journal_acks.specs.Rows.{given_to, more_packet, more_reply}

-- the next packet of the central, on data channel 25: an empty PDU with SN 1, NESN 1 and MD 0
abbrev pub next_packet : List ℕ
next_packet = 0x29 ∷ 0x41 ∷ 0x76 ∷ 0x71 ∷ 0x5C ∷ 0xFA ∷ 0xAB ∷ 0xEE ∷ 0x50 ∷ []

-- ---- the turn after that of the anchor

-- the peripheral said that more waits
abbrev pub peripheral_says_more : List Entry
peripheral_says_more =
    given_to A ++ Air B 25 first_packet Pass Good ∷ Air A 25 more_reply Pass Good ∷ turn_entry 3 ∷ []

-- neither of them did
abbrev pub none_says_more : List Entry
none_says_more = one_event_journal ++ turn_entry 3 ∷ []

-- the central did, and heard no reply
abbrev pub none_is_heard : List Entry
none_is_heard = given_to B ++ Air B 25 more_packet Pass Good ∷ Air A 25 first_reply Lost Missed ∷ turn_entry 3 ∷ []

-- ---- wrong journals

-- the event has two slots though no packet had MD 1
abbrev pub continued_by_none : List Entry
continued_by_none = none_says_more ++ Air B 25 next_packet Pass Good ∷ []

-- it has two slots though the central heard nothing in the first one
abbrev pub continued_unheard : List Entry
continued_unheard = none_is_heard ++ Air B 25 more_packet Pass Good ∷ []
