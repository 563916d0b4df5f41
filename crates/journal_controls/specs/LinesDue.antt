-- The lines of procedures that are due to an end: that one began, is done or is refused, and that an indication comes
-- into force (Core 5.2, volume 6 part B, sections 5.1 and 5.5; the order is our choice).
use Rattle.std.specs.Prelude.{ℕ, ◌&&◌, Bool, List, [], ◌∷◌, ◌++◌, drop, fold, map, Option, Some, None, if◌then◌else◌}
use Rattle.ble_base.specs.declared.notes.Note.{Note}
use Rattle.ble_base.specs.declared.roles.Side.{Side}
use Rattle.journal.specs.declared.entries.Entry.{Entry}
use Rattle.journal.specs.declared.entries.Entry.TheVariants.{Began, Done, Enter, Refused, Took}
use Rattle.journal_ends.specs.Asked.{Words}
use Rattle.journal_ends.specs.Seen.{Asks, Hears, HearsForged, Says, Seen, seen_in_line}
use Rattle.journal_ends.specs.journal_acks.Carried.{carried_of}
use Rattle.journal_ends.specs.journal_acks.Exchange.{exchange_of}
use Rattle.journal_ends.specs.journal_links.LinkLines.{line_of}
use Rattle.journal_ends.specs.link_model.Acknowledgement.{Pdu}
use Rattle.journal_ends.specs.link_model.Controls.{is_procedure_pdu}
use Rattle.journal_ends.specs.link_model.Data.{is_control}
use Rattle.journal_ends.specs.link_model.Entering.{began_notes, done_notes}
use Rattle.journal_ends.specs.link_model.Receiving.{given_notes}
use Rattle.journal_ends.specs.link_model.control_end.declared.answers.Entry.{Entry as Entered}
use Rattle.journal_ends.specs.link_model.control_end.Answers.{done_by_acknowledgement, entry_of}
use Rattle.journal_ends.specs.link_model.control_end.Held.{held_of}
use Rattle.journal_ends.specs.link_model.control_model.Control.{Control}
use Rattle.journal_ends.specs.link_model.keyed_control.Keyed.{Keyed}
use Rattle.journal_ends.specs.link_model.keyed_control.declared.material.Response.{Response}
use Rattle.journal_ends.specs.link_model.phased_control.Phased.{is_quiet_now}
use Rattle.journal_ends.specs.link_model.phased_end.declared.taking.TakenKeyed.{TakenKeyed}
use Rattle.journal_controls.specs.KeyedLines.{given_by}
use Rattle.journal_controls.specs.LineSteps.{is_more_acked, keyed_on, turn_now}

-- ---- by what an end says and hears, as it is before

-- what an end makes of the event that it enters in this turn: a procedure begins only in phase Clear or Secure (section
-- 5.1.3)
abbrev pub entry_by : ℕ → Keyed → Entered
entry_by slot k = entry_of slot (is_quiet_now k.phased) (held_of k.phased.control)

-- after the line of an event: the procedure that is done in it, and then the one that begins
abbrev pub due_entering : Side → ℕ → Entered → List Entry
due_entering side number entry =
    map (line_of side number) (done_notes number entry.done ++ began_notes number entry.began)

-- after the line of a control PDU that is taken: the procedure that it refuses, and then the one that it completes; and
-- after that those of a PDU that was kept until now
abbrev pub notes_given : ℕ → TakenKeyed → List Note
notes_given number given = given_notes number given.taken ++ given_notes number given.kept

abbrev pub due_taking : Side → ℕ → Response → ℕ → Pdu → Keyed → List Entry
due_taking side number response slot pdu k =
    if is_procedure_pdu pdu then map (line_of side number) (notes_given number (given_by response slot k pdu)) else []

-- after a packet that acknowledges the last PDU: the procedure that is done by that
abbrev pub due_hearing : Side → ℕ → Bool → Control → List Entry
due_hearing side number acks control =
    if acks then map (line_of side number) (done_notes number (done_by_acknowledgement (held_of control))) else []

-- the lines that are due after a line, where these were due before it: each line of a procedure is one of them
abbrev pub due_saying : Side → ℕ → Response → ℕ → Keyed → List Entry → Entry → List Entry
due_saying side number response slot k due (Enter other link event channel) =
    due_entering side number (entry_by slot k)
due_saying side number response slot k due (Took other link count llid body) =
    due_taking side number response slot (record { llid = llid; body = body }) k
due_saying side number response slot k due (Began other link kind) = drop 1 due
due_saying side number response slot k due (Refused other link kind code) = drop 1 due
due_saying side number response slot k due (Done other link kind) = drop 1 due
due_saying side number response slot k due line = []

-- ---- line by line

abbrev pub due_seen : Words → Side → ℕ → List Entry → Entry → Keyed → List Entry → Seen → List Entry
due_seen words side number front line k due (Says own) =
    due_saying side number (words side front) (turn_now front) k due own
due_seen words side number front line k due (Hears slot octets) =
    due_hearing side number
    (is_more_acked (exchange_of number front side) (exchange_of number (front ++ line ∷ []) side)
    && is_control (carried_of number front side)) k.phased.control
due_seen words side number front line k due HearsForged = due
due_seen words side number front line k due (Asks step) = due

-- no line of a procedure is due where the link is not open
abbrev pub due_with : Words → Side → ℕ → List Entry → Entry → List Entry → Option Keyed → List Entry
due_with words side number front line due None = []
due_with words side number front line due (Some k) =
    fold (due_seen words side number front line k) due (seen_in_line words side number front line)

abbrev pub due_from : Words → Side → ℕ → List Entry → List Entry → List Entry → List Entry
due_from words side number front due [] = due
due_from words side number front due (line ∷ lines) =
    due_from words side number (front ++ line ∷ [])
    (due_with words side number front line due (keyed_on words side number front)) lines

-- the lines of procedures that are due to the end of a side on the link with this number, in this order
unfoldable pub lines_due : Words → Side → ℕ → List Entry → List Entry
lines_due words side number journal = due_from words side number [] [] journal

-- ---- an indication comes into force

abbrev pub applied_with : ℕ → Option Keyed → Option ℕ
applied_with slot None = None
applied_with slot (Some k) = (entry_by slot k).applied

-- the number of the indication of which the line is due just before the line of the event that an end enters next
abbrev pub applied_due : Words → Side → ℕ → List Entry → Option ℕ
applied_due words side number front = applied_with (turn_now front) (keyed_on words side number front)
