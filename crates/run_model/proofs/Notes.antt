-- A controller notes what its calls give.
use Rattle.std.proofs.Common.{◌≡◌, ℕ, ◌==◌, Bool, true, false, List, [], ◌∷◌, ◌++◌, refl, sym, ap, subst, ◌∙◌, append-nil}
use Rattle.std.proofs.lemmas.Bool.{eqb-true}
use Rattle.ble_base.specs.declared.notes.Note.{Note}
use Rattle.controller_model.specs.Step.{Step}
use Rattle.controller_model.specs.Facts.{Setup}
use Rattle.controller_model.specs.Side.{notes_after, notes_of}
use Rattle.controller_model.proofs.Pasts.{notes_more}
use Rattle.run_model.specs.History.{Event, TurnBegan, HostFed, Called, Noted, Transmitted, past_of, steps_in, noted_by, notes_in}
use Rattle.run_model.specs.Run.{Given, setup_at, facts_at, after_call, run_of, history_of}
use Rattle.run_model.specs.Due.{Each}
use Rattle.run_model.specs.Feeding.{HasNoted, is_note}
use Rattle.run_model.proofs.Calls.{same_station, flat_nothing, past_own, past_other, noted_called}
use Rattle.run_model.proofs.Places.{each_event, each_called}
use Rattle.run_model.proofs.Walk.{IsStepped, is_outside, run_stepped}

abbrev pub NotedBefore : Given → List Event → Event → Type 0
NotedBefore given before event = is_note event ≡ false → (station : ℕ) → HasNoted given station before

pub record IsNotedSoFar (given : Given) (history : List Event) : Type 0 where
  pub each : Each (NotedBefore given) [] history
  pub noted : (station : ℕ) → HasNoted given station history

pub no_steps : (station : ℕ) (event : Event) → is_outside event ≡ true → steps_in station event ≡ []
no_steps station (TurnBegan slot radios) is = refl
no_steps station (HostFed other octets) is = refl
no_steps station (Transmitted other channel octets hearings) is = refl
no_steps station (Called other step) is = absurd cc
no_steps station (Noted other note) is = absurd cc

pub no_notes : (station : ℕ) (event : Event) → is_outside event ≡ true → notes_in station event ≡ []
no_notes station (TurnBegan slot radios) is = refl
no_notes station (HostFed other octets) is = refl
no_notes station (Transmitted other channel octets hearings) is = refl
no_notes station (Called other step) is = absurd cc
no_notes station (Noted other note) is = absurd cc

noted_event : (given : Given) (station : ℕ) (history : List Event) (event : Event) → is_outside event ≡ true → HasNoted given station history
    → HasNoted given station (history ++ event ∷ [])
noted_event given station history event is noted =
    flat_nothing (notes_in station) history event (no_notes station event is) ∙ noted
    ∙ ap (notes_of (setup_at given station)) (sym (flat_nothing (steps_in station) history event (no_steps station event is)))

pub noted_own : (given : Given) (station : ℕ) (step : Step) (history : List Event) → HasNoted given station history → HasNoted given station (after_call given station step history)
noted_own given station step history noted =
    let notes = notes_after (setup_at given station) (facts_at given station history) step in
    noted_called station station step notes history true (same_station station)
    ∙ ap (λ xs. xs ++ notes) noted
    ∙ sym (notes_more (setup_at given station) (past_of station history) step)
    ∙ ap (notes_of (setup_at given station)) (sym (past_own station step notes history))

noted_by_call : (given : Given) (other station : ℕ) (step : Step) (history : List Event) (same : Bool) → (other == station) ≡ same
    → HasNoted given other history → HasNoted given other (after_call given station step history)
noted_by_call given other station step history true is noted =
    let same = eqb-true other station is in
    subst (λ s. HasNoted given s (after_call given station step history)) (sym same) (noted_own given station step history (subst (λ s. HasNoted given s history) same noted))
noted_by_call given other station step history false is noted =
    let notes = notes_after (setup_at given station) (facts_at given station history) step in
    noted_called other station step notes history false is ∙ append-nil (noted_by other history) ∙ noted
    ∙ ap (notes_of (setup_at given other)) (sym (past_other other station step notes history is))

not_note : (given : Given) (before : List Event) (station : ℕ) (note : Note) → NotedBefore given before (Noted station note)
not_note given before station note is = absurd cc

pub noted_stepped : (given : Given) → IsStepped given (IsNotedSoFar given)
noted_stepped given = record {
  on_event = λ history event is so_far. record {
    each = each_event (NotedBefore given) history event so_far.each (λ outside. so_far.noted);
    noted = λ station. noted_event given station history event is (so_far.noted station);
  };
  on_call = λ station step history so_far. record {
    each = each_called (NotedBefore given) station step (notes_after (setup_at given station) (facts_at given station history) step) history so_far.each
        (λ call. so_far.noted) (λ before note. not_note given before station note);
    noted = λ other. noted_by_call given other station step history (other == station) refl (so_far.noted other);
  };
}

pub first_notes : (setup : Setup) → notes_of setup [] ≡ []
unfolding notes_of
first_notes setup = refl

pub run_noted : (given : Given) → IsNotedSoFar given (history_of (run_of given))
run_noted given = run_stepped given (IsNotedSoFar given) (noted_stepped given) (record { each = tt; noted = λ station. sym (first_notes (setup_at given station)) })
