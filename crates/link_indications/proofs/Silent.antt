-- Notes that say nothing of an indication.
use Rattle.std.proofs.Common.{◌≡◌, ℕ, List, [], ◌∷◌, ◌++◌, Option, Some, None, fold, refl, ap, ◌∙◌}
use Rattle.std.specs.List.{AllByRecursion}
use Rattle.std.proofs.lemmas.List.{append-nil}
use Rattle.ble_base.specs.declared.counters.EventNo.{EventNo}
use Rattle.ble_base.specs.declared.error_codes.ErrCode.{ErrCode}
use Rattle.ble_base.specs.declared.notes.Note.{Note}
use Rattle.ble_base.specs.declared.notes.Note.TheVariants.{Began, Done, Enter, Refused}
use Rattle.ble_base.specs.declared.procedure_kinds.Kind.{Kind}
use Rattle.ble_base.specs.declared.roles.Role.{Role}
use Rattle.ble_base.specs.declared.roles.Role.TheVariants.{Central, Peripheral}
use Rattle.instants.specs.Arrivals.{Taking}
use Rattle.link_model.specs.control_end.declared.answers.Taken.{Taken}
use Rattle.link_model.specs.Entering.{began_notes, done_notes}
use Rattle.link_model.specs.Events.{applied_notes}
use Rattle.link_model.specs.Receiving.{given_notes, refused_notes}
use Rattle.link_changes.specs.Noted.{event_after, indication_noted, taking_if, takings_from}
use Rattle.link_changes.proofs.Knowing.{applied_says_none, enter_says_none}
use Rattle.link_changes.proofs.Notes.{takings-append}

abbrev pub AreSilent : Role → List Note → Type 0
AreSilent role notes = AllByRecursion (λ note. indication_noted role note ≡ None) notes

module _ (role : Role) where
  pub no_takings : (notes : List Note) (event : ℕ) → AreSilent role notes → takings_from role event notes ≡ []
  no_takings [] event silent = refl
  no_takings (note ∷ notes) event silent =
      (λ i. taking_if event (silent.0 i) ++ takings_from role (event_after event note) notes) ∙ no_takings notes (event_after event note) silent.1

  -- such notes may be left out before other notes, where they name no event, and after them
  pub takings_after : (notes more : List Note) (event : ℕ) → AreSilent role notes → fold event_after event notes ≡ event
      → takings_from role event (notes ++ more) ≡ takings_from role event more
  takings_after notes more event silent same =
      takings-append role event notes more
      ∙ (λ i. no_takings notes event silent i ++ takings_from role (same i) more)

  pub takings_before : (notes more : List Note) (event : ℕ) → AreSilent role more → takings_from role event (notes ++ more) ≡ takings_from role event notes
  takings_before notes more event silent =
      takings-append role event notes more
      ∙ ap (λ (some : List Taking). takings_from role event notes ++ some) (no_takings more (fold event_after event notes) silent)
      ∙ append-nil (takings_from role event notes)

  pub silent_both : (notes more : List Note) → AreSilent role notes → AreSilent role more → AreSilent role (notes ++ more)
  silent_both [] more one other = other
  silent_both (note ∷ notes) more one other = (one.0, silent_both notes more one.1 other)

  pub silent_done : (handle : ℕ) (kind : Option Kind) → AreSilent role (done_notes handle kind)
  silent_done handle None = tt
  silent_done handle (Some kind) = (by role, tt)
    where
      by : (role : Role) → indication_noted role (Done handle kind) ≡ None
      by Central = refl
      by Peripheral = refl

  silent_began : (handle : ℕ) (kind : Option Kind) → AreSilent role (began_notes handle kind)
  silent_began handle None = tt
  silent_began handle (Some kind) = (by role, tt)
    where
      by : (role : Role) → indication_noted role (Began handle kind) ≡ None
      by Central = refl
      by Peripheral = refl

  silent_refused : (handle : ℕ) (refused : Option (Kind × ErrCode)) → AreSilent role (refused_notes handle refused)
  silent_refused handle None = tt
  silent_refused handle (Some (kind, code)) = (by role, tt)
    where
      by : (role : Role) → indication_noted role (Refused handle kind code) ≡ None
      by Central = refl
      by Peripheral = refl

  pub silent_given : (handle : ℕ) (given : Taken) → AreSilent role (given_notes handle given)
  silent_given handle given =
      silent_both (refused_notes handle given.refused) (done_notes handle given.done) (silent_refused handle given.refused) (silent_done handle given.done)

  silent_applied : (handle event : ℕ) (number : Option ℕ) → AreSilent role (applied_notes handle event number)
  silent_applied handle event None = tt
  silent_applied handle event (Some number) = (applied_says_none role handle number (record { 0 = event }), tt)

  -- the notes of an event that is entered
  pub silent_event : (handle number channel : ℕ) (applied : Option ℕ) (done began : Option Kind)
      → AreSilent role
      (applied_notes handle number applied ++ Enter handle (record { 0 = number }) channel ∷ [] ++ done_notes handle done ++ began_notes handle began)
  silent_event handle number channel applied done began =
      let event : EventNo = record { 0 = number } in
      let first = applied_notes handle number applied ++ Enter handle event channel ∷ [] in
      silent_both (first ++ done_notes handle done) (began_notes handle began)
      (silent_both first (done_notes handle done)
      (silent_both (applied_notes handle number applied) (Enter handle event channel ∷ []) (silent_applied handle number applied)
      (enter_says_none role handle channel event, tt))
      (silent_done handle done))
      (silent_began handle began)

-- the notes of a procedure that is done name no event
pub done_same_event : (handle event : ℕ) (kind : Option Kind) → fold event_after event (done_notes handle kind) ≡ event
done_same_event handle event None = refl
done_same_event handle event (Some kind) = refl
