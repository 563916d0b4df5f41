-- Lists of notes with the same indications and the same events.
use Rattle.std.proofs.Common.{◌≡◌, ℕ, ◌+◌, arith, List, ◌++◌, fold, map, take, refl, sym, ap, ◌∙◌}
use Rattle.std.proofs.lemmas.List.{append-nil}
use Rattle.ble_base.specs.declared.notes.Note.{Note}
use Rattle.ble_base.specs.declared.roles.Role.{Role}
use Rattle.link_changes.specs.Noted.{applied_noted, changes_noted, event_after, event_noted, takings_from, takings_noted}
use Rattle.link_changes.proofs.Notes.{IsSilent, applied_more, event_more, takings_more}

pub record Alike (role : Role) (notes others : List Note) : Type 0 where
  pub takings : takings_noted role notes ≡ takings_noted role others
  pub event : event_noted notes ≡ event_noted others
  pub applied : applied_noted notes ≡ applied_noted others

module _ (role : Role) where
  pub alike_same : (notes : List Note) → Alike role notes notes
  alike_same notes = record { takings = refl; event = refl; applied = refl }

  pub alike_then : (one two three : List Note) → Alike role one two → Alike role two three → Alike role one three
  alike_then one two three here there =
      record { takings = here.takings ∙ there.takings; event = here.event ∙ there.event; applied = here.applied ∙ there.applied }

  pub alike_more : (one two more : List Note) → Alike role one two → Alike role (one ++ more) (two ++ more)
  alike_more one two more a = record {
    takings = takings_more role one more ∙ (λ i. a.takings i ++ takings_from role (a.event i) more) ∙ sym (takings_more role two more);
    event = event_more one more ∙ ap (λ (n : ℕ). fold event_after n more) a.event ∙ sym (event_more two more);
    applied = applied_more one more ∙ ap (λ (n : ℕ). n + applied_noted more) a.applied ∙ sym (applied_more two more);
  }

  -- notes that say nothing may be left out
  pub alike_silent : (notes more : List Note) → IsSilent role more → Alike role (notes ++ more) notes
  alike_silent notes more silent = record {
    takings = takings_more role notes more ∙ ap (λ xs. takings_noted role notes ++ xs) (silent.no_taking (event_noted notes)) ∙ append-nil (takings_noted role notes);
    event = event_more notes more ∙ silent.still.event (event_noted notes);
    applied = applied_more notes more ∙ ap (λ (n : ℕ). applied_noted notes + n) silent.still.none ∙ plus_none (applied_noted notes);
  }
    where
      plus_none : (n : ℕ) → n + 0 ≡ n
      plus_none n = omega (arith)

  pub alike_changes : (one two : List Note) → Alike role one two → changes_noted role one ≡ changes_noted role two
  alike_changes one two a = λ i. take (a.applied i) (map (λ taking. taking.change) (a.takings i))
