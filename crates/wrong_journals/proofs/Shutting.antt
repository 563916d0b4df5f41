-- What a line of a link that is shut cannot say.
use Rattle.std.proofs.Common.{◌≡◌, ℕ, Bool, true, false, Option, Some, None, List, [], ◌∷◌, ◌++◌, refl, sym, ap, ◌∙◌}
use Rattle.ble_base.specs.ErrorCodes.{success}
use Rattle.ble_base.specs.declared.error_codes.ErrCode.{ErrCode}
use Rattle.ble_base.specs.declared.roles.Side.{Side}
use Rattle.journal.specs.declared.entries.Entry.{Entry}
use Rattle.journal.specs.declared.entries.Entry.TheVariants.{Turn, Fed}
use Rattle.run_model.specs.Order.{AreNotes, side_of_note}
use Rattle.journal_pdus.specs.journal_acks.Shut.{CompletesReset}
use Rattle.journal_pdus.specs.journal_controls.journal_ends.Asked.{Words}
use Rattle.journal_pdus.specs.journal_leaving.Reasons.{IsShutAs, due_on, ending_on, leaving, overdue, packets_passed, reset}
use Rattle.wrong_journals.proofs.Differing.{truths_differ}

abbrev pub is_turn : Entry → Bool
is_turn (Turn slot a b) = true
is_turn entry = false

-- the last of these entries, the first of which is this one, begins a turn
abbrev pub ends_in_turn : Entry → List Entry → Bool
ends_in_turn entry [] = is_turn entry
ends_in_turn entry (next ∷ entries) = ends_in_turn next entries

abbrev pub turn_last : List Entry → Bool
turn_last [] = false
turn_last (entry ∷ entries) = ends_in_turn entry entries

note_no_turn : (side : Side) (entry : Entry) → side_of_note entry ≡ Some side → is_turn entry ≡ false
note_no_turn side (Turn slot a b) is = absurd cc
note_no_turn side entry is = refl

notes_no_turn : (side : Side) (entry : Entry) (notes : List Entry) → is_turn entry ≡ false → AreNotes side notes → ends_in_turn entry notes ≡ false
notes_no_turn side entry [] none are = none
notes_no_turn side entry (note ∷ notes) none are = notes_no_turn side note notes (note_no_turn side note are.0) are.1

after_fed : (side : Side) (octets : List ℕ) (before notes : List Entry) (first : Entry) → AreNotes side notes → ends_in_turn first (before ++ Fed side octets ∷ notes) ≡ false
after_fed side octets [] notes first are = notes_no_turn side (Fed side octets) notes refl are
after_fed side octets (next ∷ before) notes first are = after_fed side octets before notes next are

fed_last : (side : Side) (octets : List ℕ) (before notes : List Entry) → AreNotes side notes → turn_last (before ++ Fed side octets ∷ notes) ≡ false
fed_last side octets [] notes are = notes_no_turn side (Fed side octets) notes refl are
fed_last side octets (first ∷ before) notes are = after_fed side octets before notes first are

pub no_octets_yet : (front : List Entry) (side : Side) → turn_last front ≡ true → CompletesReset front side → ⊥
no_octets_yet front side last resets =
    truths_differ (sym last ∙ ap turn_last resets.front_is ∙ fed_last side resets.octets resets.before resets.notes resets.are_notes)

-- ---- no reason holds

-- no host completed a Reset, no other code is due, and the end is not leaving
pub no_reason : (words : Words) (front : List Entry) (side : Side) (number : ℕ) (reason : ErrCode) (due : Option ℕ)
    → (reason.0 ≡ success → CompletesReset front side → ⊥) → due_on words side number front ≡ due
    → (packets_passed front ≡ false → due ≡ Some reason.0 → ⊥) → ending_on words side number front ≡ None
    → IsShutAs words front side number reason → ⊥
no_reason words front side number reason due no_reset is not_due stays (reset code completes) = no_reset code completes
no_reason words front side number reason due no_reset is not_due stays (overdue before same) = not_due before (sym is ∙ same)
no_reason words front side number reason due no_reset is not_due stays (leaving same) =
    let h : None ≡ Some reason = sym stays ∙ same in absurd cc
