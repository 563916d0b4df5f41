-- Each note of a run is one of those that a call gives, after that call.
use Rattle.std.proofs.Common.{◌≡◌, ℕ, true, List, [], ◌∷◌, ◌++◌, refl, sym, ap, ◌∙◌, append_assoc}
use Rattle.std.specs.Prelude.{map}
use Rattle.ble_base.specs.declared.notes.Note.{Note}
use Rattle.controller_model.specs.Step.{Step}
use Rattle.controller_model.specs.Side.{notes_after}
use Rattle.run_model.specs.History.{Event, TurnBegan, HostFed, Called, Noted, Transmitted}
use Rattle.run_model.specs.Run.{Given, setup_at, facts_at, run_of, history_of}
use Rattle.run_model.specs.Due.{Each}
use Rattle.run_model.specs.NotedCalls.{IsNotedInCall}
use Rattle.run_model.proofs.Places.{each_append, each_at, each_event}
use Rattle.run_model.proofs.Walk.{IsStepped, is_outside, run_stepped}

abbrev InCall : Given → List Event → Event → Type 0
InCall given before (Noted station note) = IsNotedInCall given before station note
InCall given before (Called station step) = Unit {0}
InCall given before (TurnBegan slot radios) = Unit {0}
InCall given before (HostFed station octets) = Unit {0}
InCall given before (Transmitted station channel octets hearings) = Unit {0}

outside_in : (given : Given) (history : List Event) (event : Event) → is_outside event ≡ true → InCall given history event
outside_in given history (TurnBegan slot radios) is = tt
outside_in given history (HostFed station octets) is = tt
outside_in given history (Transmitted station channel octets hearings) is = tt
outside_in given history (Called station step) is = absurd cc
outside_in given history (Noted station note) is = absurd cc

pub map_push : (station : ℕ) (notes : List Note) (note : Note) → map (Noted station) (notes ++ note ∷ []) ≡ map (Noted station) notes ++ Noted station note ∷ []
map_push station [] note = refl
map_push station (first ∷ notes) note = ap (λ xs. Noted station first ∷ xs) (map_push station notes note)

-- the notes that are left of a call, after those that it gave already
notes_in_call : (given : Given) (base : List Event) (station : ℕ) (step : Step) (earlier left : List Note) (before : List Event)
    → notes_after (setup_at given station) (facts_at given station base) step ≡ earlier ++ left
    → before ≡ base ++ Called station step ∷ map (Noted station) earlier → Each (InCall given) before (map (Noted station) left)
notes_in_call given base station step earlier [] before are is = tt
notes_in_call given base station step earlier (note ∷ left) before are is = (
  record { base = base; step = step; earlier = earlier; later = left; before_is = is; notes_are = are },
  notes_in_call given base station step (earlier ++ note ∷ []) left (before ++ Noted station note ∷ [])
      (are ∙ sym (append_assoc earlier (note ∷ []) left))
      (ap (λ xs. xs ++ Noted station note ∷ []) is
      ∙ append_assoc base (Called station step ∷ map (Noted station) earlier) (Noted station note ∷ [])
      ∙ ap (λ xs. base ++ Called station step ∷ xs) (sym (map_push station earlier note))),
)

in_call_stepped : (given : Given) → IsStepped given (Each (InCall given) [])
in_call_stepped given = record {
  on_event = λ history event is each. each_event (InCall given) history event each (outside_in given history event is);
  on_call = λ station step history each.
      let notes = notes_after (setup_at given station) (facts_at given station history) step in
      each_append (InCall given) [] history (Called station step ∷ map (Noted station) notes) each
      (tt, notes_in_call given history station step [] notes (history ++ Called station step ∷ []) refl refl);
}

pub noted_in_call : (given : Given) (before rest : List Event) (station : ℕ) (note : Note)
    → history_of (run_of given) ≡ before ++ Noted station note ∷ rest → IsNotedInCall given before station note
noted_in_call given before rest station note is =
    each_at (InCall given) (history_of (run_of given)) before rest (Noted station note)
    (run_stepped given (Each (InCall given) []) (in_call_stepped given) tt) is
