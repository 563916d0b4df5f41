-- Journals that differ in one packet from that of a link that encrypts with the sample data (Core 5.2, volume 6 part B,
-- sections 4.5.9 and 5.1.3.1, and part E, section 2).
use Rattle.std.specs.Prelude.{List, [], ◌∷◌, ◌++◌}
use Rattle.ble_base.specs.declared.roles.Side.TheVariants.{A, B}
use Rattle.ble_base.specs.declared.verdicts.Verdict.TheVariants.{Forged, Good, Missed}
use Rattle.journal.specs.declared.entries.Entry.{Entry}
use Rattle.journal.specs.declared.entries.Entry.TheVariants.{Air, Enter}
use Rattle.journal.specs.declared.entries.Mark.TheVariants.{Lost, Pass}
use Rattle.journal_sealing.specs.journal_controls.run_model.Rows.{turn_entry}
use Rattle.sealed_journals.specs.Sample.{clear_response, data_sent, data_with_used_counter, resealed_response, response_packet, response_sent, turned_response}

-- LL_START_ENC_RSP of the central in clear
abbrev pub response_in_clear : List Entry
response_in_clear = response_sent ++ Air A 21 clear_response Pass Good ∷ []

-- sealed with the direction bit of the peripheral
abbrev pub response_turned : List Entry
response_turned = response_sent ++ Air A 21 turned_response Pass Good ∷ []

-- sealed as it is due, and judged forged
abbrev pub response_forged : List Entry
response_forged = response_sent ++ Air A 21 response_packet Pass Forged ∷ []

-- data of the central with the counter of that response
abbrev pub counter_used_again : List Entry
counter_used_again = data_sent ++ Air A 36 data_with_used_counter Pass Good ∷ []

-- the response is lost, and event 4 is in turn 26
abbrev pub until_next_event : List Entry
until_next_event =
    turn_entry 21 ∷ turn_entry 22 ∷ turn_entry 23 ∷ turn_entry 24 ∷ turn_entry 25 ∷ turn_entry 26 ∷ Enter A 1 4 34
    ∷ Enter B 1 4 34 ∷ []

abbrev pub response_lost : List Entry
response_lost = response_sent ++ Air A 21 response_packet Lost Missed ∷ until_next_event

-- and then it goes again, sealed anew with counter 1
abbrev pub response_resealed : List Entry
response_resealed = response_lost ++ Air A 34 resealed_response Pass Good ∷ []
