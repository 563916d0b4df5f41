-- Lines of no procedure leave nothing due; lines of the other side leave what is due.
use Rattle.std.proofs.Common.{◌≡◌, ℕ, ◌==◌, Bool, true, false, Option, Some, None, List, [], ◌∷◌, ◌++◌, map, refl, sym, ap, ◌∙◌, append-nil}
use Rattle.std.specs.Prelude.{fold, if◌then◌else◌}
use Rattle.std.specs.List.{AllByRecursion}
use Rattle.ble_base.specs.declared.notes.Note.{Note}
use Rattle.ble_base.specs.declared.notes.Note.TheVariants.{Opened, Sent, Shut, Up}
use Rattle.ble_base.specs.declared.roles.Side.{Side}
use Rattle.ble_base.specs.declared.roles.Side.TheVariants.{A, B}
use Rattle.journal_controls.proofs.controller_model.EndNotes.{sent_each}
use Rattle.journal_controls.specs.host_answers.Answered.{answer_statuses}
use Rattle.journal.specs.declared.entries.Entry.{Entry}
use Rattle.journal.specs.declared.entries.Entry.TheVariants.{Up as UpLine}
use Rattle.journal_controls.proofs.journal_ends.SeenEvents.{unasked_by}
use Rattle.journal_controls.specs.journal_ends.Asked.{Words}
use Rattle.journal_controls.specs.journal_ends.Seen.{Says, asked_in_line, seen_in_line}
use Rattle.journal_controls.specs.journal_packets.Belonging.{is_side}
use Rattle.journal_controls.specs.journal_links.LinkLines.{line_of}
use Rattle.journal_controls.specs.link_model.End.{notes_after}
use Rattle.journal_controls.specs.link_model.Facts.{Facts}
use Rattle.journal_controls.specs.link_model.Sending.{sent_notes}
use Rattle.journal_controls.specs.link_model.Setup.{Setup}
use Rattle.journal_controls.specs.link_model.Step.{Step, EventEntered, PacketReceived, PacketSent}
use Rattle.journal_controls.specs.link_model.keyed_control.Keyed.{Keyed}
use Rattle.journal_controls.specs.run_model.Journal.{entry_of}
use Rattle.journal_controls.specs.run_model.Readers.{of_side, pair_openings_in}
use Rattle.journal_controls.specs.LineSteps.{keyed_on, turn_now}
use Rattle.journal_controls.specs.LinesDue.{due_saying, due_seen, due_with, lines_due}
use Rattle.journal_due.specs.EachLine.{IsDueLine, is_of_procedures}
use Rattle.journal_due.specs.ProcedureLines.{RestsAt, applied_by, applied_in, applied_last, first_of, is_same_side, procedure_line, side_of_line}
use Rattle.journal_due.proofs.DueEntries.{AreAllTold, line_then, no_lines}
use Rattle.journal_due.proofs.DueLines.{due_more, other_applied, own_applied, own_side, packet_due, quiet_due}
use Rattle.journal_due.proofs.DueSteps.{turn_stays}

-- ---- a line of this side, and of no procedure

pub record IsPlainLine (words : Words) (side : Side) (line : Entry) : Type 0 where
  pub is : (number : ℕ) → procedure_line number line ≡ None
  pub own : side_of_line line ≡ Some side
  pub none : applied_in line ≡ None
  pub quiet : (front : List Entry) → applied_by words side front line ≡ None
  pub no_turn : pair_openings_in line ≡ []
  pub leaves : (front : List Entry) (number : ℕ) → lines_due words side number front ≡ [] → lines_due words side number (front ++ line ∷ []) ≡ []

said_none : (words : Words) (side other : Side) (same : Bool) (number : ℕ) (front : List Entry) (line : Entry) (k : Keyed) (due : List Entry) → due ≡ []
    → due_saying side number (words side front) (turn_now front) k due line ≡ []
    → fold (due_seen words side number front line k) due (map Says (of_side side other (if same then line ∷ [] else []))) ≡ []
said_none words A A true number front line k due none saying = saying
said_none words A A false number front line k due none saying = none
said_none words A B same number front line k due none saying = none
said_none words B A same number front line k due none saying = none
said_none words B B true number front line k due none saying = saying
said_none words B B false number front line k due none saying = none

leaves_if : (words : Words) (side : Side) (link number : ℕ) (front : List Entry) (line : Entry)
    → seen_in_line words side number front line ≡ map Says (of_side side side (if link == number then line ∷ [] else []))
    → ((k : Keyed) (due : List Entry) → due_saying side number (words side front) (turn_now front) k due line ≡ []) → lines_due words side number front ≡ []
    → lines_due words side number (front ++ line ∷ []) ≡ []
leaves_if words side link number front line seen saying none = due_more words side number front line ∙ by (keyed_on words side number front)
  where
    by : (found : Option Keyed) → due_with words side number front line (lines_due words side number front) found ≡ []
    by None = refl
    by (Some k) =
        ap (fold (due_seen words side number front line k) (lines_due words side number front)) seen
        ∙ said_none words side side (link == number) number front line k (lines_due words side number front) none (saying k (lines_due words side number front))

abbrev pub is_plain : Note → Bool
is_plain (Up packet) = true
is_plain (Opened handle role own peer) = true
is_plain (Shut handle reason) = true
is_plain (Sent handle number llid body) = true
is_plain note = false

abbrev pub IsPlain : Note → Type 0
IsPlain note = is_plain note ≡ true

pub note_plain : (words : Words) (side : Side) (link_of : ℕ → ℕ) (last : ℕ) (note : Note) → IsPlain note → IsPlainLine words side (entry_of side link_of last note)
note_plain words side link_of last (Up packet) plain = record {
  is = λ number. refl;
  own = refl;
  none = refl;
  quiet = λ front. refl;
  no_turn = refl;
  leaves = λ front number none. packet_due words side side number front packet.items ∙ none;
}
note_plain words side link_of last (Opened handle role own peer) plain = record {
  is = λ number. refl;
  own = refl;
  none = refl;
  quiet = λ front. refl;
  no_turn = refl;
  leaves = λ front number none. leaves_if words side last number front _ refl (λ k due. refl) none;
}
note_plain words side link_of last (Shut handle reason) plain = record {
  is = λ number. refl;
  own = refl;
  none = refl;
  quiet = λ front. refl;
  no_turn = refl;
  leaves = λ front number none. leaves_if words side (link_of handle) number front _ refl (λ k due. refl) none;
}
note_plain words side link_of last (Sent handle count llid body) plain = record {
  is = λ number. refl;
  own = refl;
  none = refl;
  quiet = λ front. refl;
  no_turn = refl;
  leaves = λ front number none. leaves_if words side (link_of handle) number front _ refl (λ k due. refl) none;
}
note_plain words side link_of last note plain = absurd cc

pub plain_rests : (words : Words) (side : Side) (front : List Entry) (line : Entry) → IsPlainLine words side line → RestsAt words side front → RestsAt words side (front ++ line ∷ [])
plain_rests words side front line plain rests = record {
  procedures = λ number. plain.leaves front number (rests.procedures number);
  indication = own_applied side front line plain.own ∙ plain.none;
}

pub plain_due : (words : Words) (side : Side) (front : List Entry) (line : Entry) → IsPlainLine words side line → RestsAt words side front → IsDueLine words side front line
plain_due words side front line plain rests = record {
  procedures = λ number. plain.is number ∙ ap first_of (sym (rests.procedures number));
  indication = rests.indication ∙ sym (plain.quiet front);
}

pub plain_told : (words : Words) (side : Side) (front lines : List Entry) → AllByRecursion (IsPlainLine words side) lines → RestsAt words side front → AreAllTold words side front lines
plain_told words side front [] all rests = no_lines words side front rests
plain_told words side front (line ∷ lines) all rests =
    line_then words side front lines line (λ own. plain_due words side front line all.0 rests, tt) (turn_stays front line all.0.no_turn)
    (plain_told words side (front ++ line ∷ []) lines all.1 (plain_rests words side front line all.0 rests))

-- ---- an end that neither enters an event nor takes a packet

mapped_plain : (words : Words) (side : Side) (number : ℕ) (notes : List Note) → AllByRecursion (λ note. IsPlainLine words side (line_of side number note)) notes
    → AllByRecursion (IsPlainLine words side) (map (line_of side number) notes)
mapped_plain words side number [] all = tt
mapped_plain words side number (note ∷ notes) all = (all.0, mapped_plain words side number notes all.1)

pub other_step_told : (words : Words) (side : Side) (number : ℕ) (setup : Setup) (facts : Facts) (step : Step) (front : List Entry) → is_of_procedures step ≡ false → RestsAt words side front
    → AreAllTold words side front (map (line_of side number) (notes_after setup facts step))
other_step_told words side number setup facts (EventEntered slot) front none rests = absurd cc
other_step_told words side number setup facts (PacketReceived slot octets room) front none rests = absurd cc
other_step_told words side number setup facts (PacketSent slot) front none rests =
    plain_told words side front (map (line_of side number) (sent_notes setup facts)) (mapped_plain words side number (sent_notes setup facts)
    (sent_each (λ note. IsPlainLine words side (line_of side number note)) setup facts (λ count llid body. note_plain words side (λ handle. number) number (Sent setup.link.handle count llid _) refl))) rests
other_step_told words side number setup facts step front none rests = no_lines words side front rests

-- ---- a line of the other side

pub record IsOtherLine (words : Words) (side : Side) (line : Entry) : Type 0 where
  pub other : is_same_side (side_of_line line) side ≡ false
  pub unseen : (number : ℕ) (front : List Entry) → seen_in_line words side number front line ≡ []

other_none : {X : Type 0} (side other : Side) (values : List X) → is_side other side ≡ false → of_side side other values ≡ []
other_none A A values differs = absurd cc
other_none A B values differs = refl
other_none B A values differs = refl
other_none B B values differs = absurd cc

pub note_other : (words : Words) (side other : Side) (link_of : ℕ → ℕ) (last : ℕ) (note : Note) → is_side other side ≡ false → IsOtherLine words side (entry_of other link_of last note)
note_other words side other link_of last (Up packet) differs = record {
  other = differs;
  unseen = λ number front. append-nil (asked_in_line words side number front (UpLine other packet.items))
      ∙ unasked_by words side number front (UpLine other packet.items) (ap answer_statuses (other_none side other (packet.items ∷ []) differs));
}
note_other words side other link_of last note differs = record { other = differs; unseen = λ number front. ap (map Says) (other_none side other _ differs) }

pub other_due : (words : Words) (side : Side) (front : List Entry) (line : Entry) → is_same_side (side_of_line line) side ≡ false → side_of_line line ≡ Some side → IsDueLine words side front line
other_due words side front line other own = absurd (let h : true ≡ false = sym (ap (λ one. is_same_side one side) own ∙ own_side side) ∙ other in absurd cc)

-- what is due to a side stays
pub record StaysDue (words : Words) (side : Side) (front after : List Entry) : Type 0 where
  pub procedures : (number : ℕ) → lines_due words side number after ≡ lines_due words side number front
  pub indication : applied_last side after ≡ applied_last side front

pub other_stays : (words : Words) (side : Side) (front : List Entry) (line : Entry) → IsOtherLine words side line → StaysDue words side front (front ++ line ∷ [])
other_stays words side front line other = record {
  procedures = λ number. quiet_due words side number front line (other.unseen number front);
  indication = other_applied side front line other.other;
}
