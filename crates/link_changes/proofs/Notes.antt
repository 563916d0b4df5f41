-- The indications of an end by two lists of notes, one after the other.
use Rattle.std.proofs.Common.{◌≡◌, ℕ, ◌+◌, List, [], ◌∷◌, ◌++◌, fold, length, refl, ap, sym, ◌∙◌, arith, length-append}
use Rattle.std.specs.List.{filter}
use Rattle.std.proofs.lemmas.List.{append_assoc}
use Rattle.std.proofs.lemmas.List.Elements.{filter-append}
use Rattle.std.proofs.lemmas.List.Sums.{fold-append}
use Rattle.ble_base.specs.declared.notes.Note.{Note}
use Rattle.ble_base.specs.declared.roles.Role.{Role}
use Rattle.instants.specs.Arrivals.{Taking}
use Rattle.link_changes.specs.Noted.{applied_noted, event_after, event_noted, indication_noted, is_applied_note, taking_if, takings_from, takings_noted}

pub takings-append : (role : Role) (event : ℕ) (notes more : List Note)
    → takings_from role event (notes ++ more) ≡ takings_from role event notes ++ takings_from role (fold event_after event notes) more
takings-append role event [] more = refl
takings-append role event (note ∷ notes) more =
    ap (λ (later : List Taking). taking_if event (indication_noted role note) ++ later) (takings-append role (event_after event note) notes more)
    ∙ sym (append_assoc (taking_if event (indication_noted role note)) (takings_from role (event_after event note) notes)
    (takings_from role (fold event_after (event_after event note) notes) more))

pub takings_more : (role : Role) (notes more : List Note)
    → takings_noted role (notes ++ more) ≡ takings_noted role notes ++ takings_from role (event_noted notes) more
takings_more role notes more = takings-append role 0 notes more

pub event_more : (notes more : List Note) → event_noted (notes ++ more) ≡ fold event_after (event_noted notes) more
event_more notes more = fold-append event_after 0 notes more

pub applied_more : (notes more : List Note) → applied_noted (notes ++ more) ≡ applied_noted notes + applied_noted more
applied_more notes more =
    ap (λ (all : List Note). length all) (filter-append is_applied_note notes more)
    ∙ length-append (filter is_applied_note notes) (filter is_applied_note more)

-- ---- notes that say nothing of an event or an indication in force

pub record IsStill (notes : List Note) : Type 0 where
  pub event : (before : ℕ) → fold event_after before notes ≡ before
  pub none : applied_noted notes ≡ 0

pub still_none : IsStill []
still_none = record { event = λ before. refl; none = refl }

pub still_both : (notes more : List Note) → IsStill notes → IsStill more → IsStill (notes ++ more)
still_both notes more one other = record {
  event = λ before. fold-append event_after before notes more ∙ ap (λ (event : ℕ). fold event_after event more) (one.event before) ∙ other.event before;
  none = let sum = applied_more notes more in let here = one.none in let there = other.none in omega (arith, sum, here, there);
}

-- ---- and nothing of an indication either

pub record IsSilent (role : Role) (notes : List Note) : Type 0 where
  pub still : IsStill notes
  pub no_taking : (event : ℕ) → takings_from role event notes ≡ []

pub silent_none : (role : Role) → IsSilent role []
silent_none role = record { still = still_none; no_taking = λ event. refl }

pub silent_both : (role : Role) (notes more : List Note) → IsSilent role notes → IsSilent role more → IsSilent role (notes ++ more)
silent_both role notes more one other = record {
  still = still_both notes more one.still other.still;
  no_taking = λ event. takings-append role event notes more
      ∙ (λ i. one.no_taking event i ++ takings_from role (fold event_after event notes) more)
      ∙ other.no_taking (fold event_after event notes);
}
