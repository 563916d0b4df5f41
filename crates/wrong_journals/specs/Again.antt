-- Journals of a link on which a packet is sent again, and whose MD does not tell what waited as the turn began (Core 5.2,
-- volume 6 part B, sections 4.5.6 and 4.5.9).
use Rattle.std.specs.Prelude.{ℕ, List, [], ◌∷◌, ◌++◌}
use Rattle.ble_base.specs.declared.roles.Side.TheVariants.{A, B}
use Rattle.ble_base.specs.declared.verdicts.Verdict.TheVariants.{Good, Missed}
use Rattle.journal.specs.declared.entries.Entry.{Entry}
use Rattle.journal.specs.declared.entries.Entry.TheVariants.{Air, Enter, Fed, Sent}
use Rattle.journal.specs.declared.entries.Mark.TheVariants.{Lost, Pass}
use Rattle.journal_pdus.specs.journal_acks.Rows.{host_packet}
use Rattle.journal_pdus.specs.journal_leaving.Rows.{terminate_pdu}
use Rattle.run_model.specs.Rows.{first_packet, first_reply, turn_entry}
use Rattle.wrong_journals.specs.Commanded.{disconnecting_with, event_after}
use Rattle.wrong_journals.specs.Events.{turn_entries}

-- the turns after this one, up to turn 26, in which both sides enter the next event
abbrev pub next_event : List Entry
next_event = turn_entries 4 23 ++ Enter A 1 1 20 ∷ Enter B 1 1 20 ∷ []

-- ---- the first packet of the central, which has an empty PDU

-- it is lost, and the host of the central gives this in turn 3
abbrev pub first_lost : List Entry → List Entry
first_lost fed = event_after [] [] ++ Air B 25 first_packet Lost Missed ∷ turn_entry 3 ∷ fed ++ next_event

-- the same PDU on data channel 20, with MD 0 and with MD 1
abbrev pub first_again : List ℕ
first_again = 0x29 ∷ 0x41 ∷ 0x76 ∷ 0x71 ∷ 0xF5 ∷ 0x55 ∷ 0x9C ∷ 0x9E ∷ 0x1E ∷ []

abbrev pub first_with_more : List ℕ
first_with_more = 0x29 ∷ 0x41 ∷ 0x76 ∷ 0x71 ∷ 0xE5 ∷ 0x55 ∷ 0xD0 ∷ 0x85 ∷ 0x1E ∷ []

-- MD is 0 though data waits
abbrev pub again_untold : List Entry
again_untold = first_lost (Fed B (host_packet 0xAA) ∷ []) ++ Air B 20 first_again Pass Good ∷ []

-- it is 1 where nothing waits
abbrev pub nothing_told : List Entry
nothing_told = first_lost [] ++ Air B 20 first_with_more Pass Good ∷ []

-- ---- LL_TERMINATE_IND, where the host gave data before it ended the link

-- the packet of it with MD 1, in turn 3 on data channel 25, and with MD 0 in turn 26 on data channel 20
abbrev pub terminate_with_more : List ℕ
terminate_with_more =
    0x29 ∷ 0x41 ∷ 0x76 ∷ 0x71 ∷ 0x4E ∷ 0xF8 ∷ 0x28 ∷ 0xA7 ∷ 0xAB ∷ 0x5D ∷ 0xAD ∷ []

abbrev pub terminate_again : List ℕ
terminate_again = 0x29 ∷ 0x41 ∷ 0x76 ∷ 0x71 ∷ 0xFB ∷ 0x57 ∷ 0x6A ∷ 0xDC ∷ 0xE0 ∷ 0xC1 ∷ 0xD9 ∷ []

-- it is lost
abbrev pub terminate_lost : List Entry
terminate_lost =
    disconnecting_with (host_packet 0xAA) [] first_reply
    ++ Sent B 1 1 terminate_pdu.llid terminate_pdu.body ∷ Air B 25 terminate_with_more Lost Missed ∷ next_event

-- MD is 0 though the data still waits
abbrev pub terminate_untold : List Entry
terminate_untold = terminate_lost ++ Air B 20 terminate_again Pass Good ∷ []
