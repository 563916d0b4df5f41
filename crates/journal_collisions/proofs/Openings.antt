-- The lines that open a procedure of the peripheral at a central, or refuse one of its own, are those of such notes.
use Rattle.std.proofs.Common.{◌≡◌, ℕ, ◌==◌, ◌&&◌, ◌||◌, Bool, false, List, [], ◌∷◌, ◌++◌, fold, map, refl}
use Rattle.std.specs.List.{list_any}
use Rattle.ble_base.specs.declared.notes.Note.{Note}
use Rattle.ble_base.specs.declared.notes.Note.TheVariants.{Applied, Began, Done, Enter, Opened, Refused, Sent, Shut, Took, Up}
use Rattle.ble_base.specs.declared.roles.Side.{Side}
use Rattle.data_pdu.specs.Reading.{ctrl_of}
use Rattle.exclusive_stages.specs.declared.pdus.Exclusive.{Exclusive}
use Rattle.journal.specs.declared.entries.Entry.{Entry}
use Rattle.journal.specs.declared.entries.Entry.TheVariants.{Took as TookEntry}
use Rattle.journal_endings.specs.journal_indications.journal_data.journal_links.LinkLines.{line_of}
use Rattle.journal_endings.specs.journal_indications.journal_data.link_model.End.{facts_after}
use Rattle.journal_endings.specs.journal_indications.journal_data.link_model.Facts.{Facts}
use Rattle.journal_endings.specs.journal_indications.journal_data.link_model.Setup.{Setup}
use Rattle.journal_endings.specs.journal_indications.journal_data.link_model.Step.{Step}
use Rattle.link_answers.specs.Owing.{is_opening, is_opening_read}
use Rattle.run_collisions.specs.Waiting.{facts_from}

abbrev pub is_opening_line : Exclusive → Entry → Bool
is_opening_line kind (TookEntry side number count llid body) = (llid == 3) && is_opening_read kind (ctrl_of body)
is_opening_line kind line = false

line_opens : (side : Side) (number : ℕ) (kind : Exclusive) (note : Note) → is_opening kind note ≡ is_opening_line kind (line_of side number note)
line_opens side number kind (Up packet) = refl
line_opens side number kind (Opened handle role own peer) = refl
line_opens side number kind (Shut handle reason) = refl
line_opens side number kind (Sent handle count llid body) = refl
line_opens side number kind (Took handle count llid body) = refl
line_opens side number kind (Enter handle event channel) = refl
line_opens side number kind (Applied handle count event) = refl
line_opens side number kind (Began handle other) = refl
line_opens side number kind (Refused handle other code) = refl
line_opens side number kind (Done handle other) = refl

pub lines_open : (side : Side) (number : ℕ) (kind : Exclusive) (notes : List Note)
    → list_any (is_opening kind) notes ≡ list_any (is_opening_line kind) (map (line_of side number) notes)
lines_open side number kind [] = refl
lines_open side number kind (note ∷ notes) = λ i. line_opens side number kind note i || lines_open side number kind notes i

-- ---- what an end holds after steps

pub folded : (setup : Setup) (facts : Facts) (steps : List Step) → facts_from setup facts steps ≡ fold (facts_after setup) facts steps
folded setup facts [] = refl
folded setup facts (step ∷ steps) = folded setup (facts_after setup facts step) steps

pub facts_joined : (setup : Setup) (facts : Facts) (steps more : List Step)
    → facts_from setup facts (steps ++ more) ≡ facts_from setup (facts_from setup facts steps) more
facts_joined setup facts [] more = refl
facts_joined setup facts (step ∷ steps) more = facts_joined setup (facts_after setup facts step) steps more
