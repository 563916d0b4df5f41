-- The entries of notes, one by one.
use Rattle.std.proofs.Common.{◌≡◌, ℕ, ◌+◌, ◌<◌, List, [], ◌∷◌, ◌++◌, length, take, get_or, refl, sym, ap, ◌∙◌, append_assoc}
use Rattle.std.proofs.lemmas.List.{take_more}
use Rattle.ble_base.specs.declared.roles.Side.{Side}
use Rattle.ble_base.specs.declared.notes.Note.{Note}
use Rattle.journal.specs.declared.entries.Entry.{Entry}
use Rattle.pair_world.specs.KnownLinks.{KnownLinks, with_note}
use Rattle.pair_world.specs.Logs.{LogState, entry_noted, entries_noted, known_after, with_entries}

known_one_more : (known : KnownLinks) (notes : List Note) (note : Note) → known_after known (notes ++ note ∷ []) ≡ with_note (known_after known notes) note
known_one_more known [] note = refl
known_one_more known (first ∷ notes) note = known_one_more (with_note known first) notes note

entries_one_more : (side : Side) (known : KnownLinks) (notes : List Note) (note : Note)
    → entries_noted side known (notes ++ note ∷ []) ≡ entries_noted side known notes ++ entry_noted side (known_after known notes) note ∷ []
entries_one_more side known [] note = refl
entries_one_more side known (first ∷ notes) note =
    ap (λ (entries : List Entry). entry_noted side known first ∷ entries) (entries_one_more side (with_note known first) notes note)

pub log_more : (side : Side) (known : KnownLinks) (log so_far more : LogState) (links : KnownLinks) (notes : List Note) (place : ℕ) (note : Note)
    → so_far ≡ with_entries (entries_noted side known (take place notes)) log → links ≡ known_after known (take place notes)
    → place < length notes → more ≡ with_entries (entry_noted side links (get_or notes place note) ∷ []) so_far
    → more ≡ with_entries (entries_noted side known (take (place + 1) notes)) log
log_more side known log so_far more links notes place note so_far_is links_is below more_is =
    let next = get_or notes place note in
    more_is
    ∙ ap (λ (log : LogState). with_entries (entry_noted side links next ∷ []) log) so_far_is
    ∙ ap (λ (learnt : KnownLinks). with_entries (entry_noted side learnt next ∷ []) (with_entries (entries_noted side known (take place notes)) log)) links_is
    ∙ ap (λ (entries : List Entry). record log { entries = entries })
    (append_assoc log.entries (entries_noted side known (take place notes)) (entry_noted side (known_after known (take place notes)) next ∷ []))
    ∙ ap (λ (entries : List Entry). with_entries entries log)
    (sym (entries_one_more side known (take place notes) next) ∙ ap (entries_noted side known) (sym (take_more notes place note below)))

pub known_more : (known links more : KnownLinks) (notes : List Note) (place : ℕ) (note : Note) → links ≡ known_after known (take place notes)
    → place < length notes → more ≡ with_note links (get_or notes place note) → more ≡ known_after known (take (place + 1) notes)
known_more known links more notes place note links_is below more_is =
    more_is ∙ ap (λ (learnt : KnownLinks). with_note learnt (get_or notes place note)) links_is
    ∙ sym (known_one_more known (take place notes) (get_or notes place note)) ∙ ap (known_after known) (sym (take_more notes place note below))
