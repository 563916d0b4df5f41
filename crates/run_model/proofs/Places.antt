-- Facts of each event of a history, and of one at its place.
use Rattle.std.proofs.Common.{◌≡◌, ℕ, List, [], ◌∷◌, ◌++◌, sym, subst, append-nil, append_assoc}
use Rattle.std.specs.Prelude.{map}
use Rattle.ble_base.specs.declared.notes.Note.{Note}
use Rattle.controller_model.specs.Step.{Step}
use Rattle.run_model.specs.History.{Event, Called, Noted}
use Rattle.run_model.specs.Due.{Each}
use Rattle.run_model.proofs.Calls.{with_notes}

pub each_append : (fact : List Event → Event → Type 0) (history first second : List Event) → Each fact history first → Each fact (history ++ first) second
    → Each fact history (first ++ second)
each_append fact history [] second a b = subst (λ h. Each fact h second) (append-nil history) b
each_append fact history (event ∷ first) second a b =
    (a.0, each_append fact (history ++ event ∷ []) first second a.1 (subst (λ h. Each fact h second) (sym (append_assoc history (event ∷ []) first)) b))

-- the fact at a place
each_from : (fact : List Event → Event → Type 0) (history before rest : List Event) (event : Event) → Each fact history (before ++ event ∷ rest) → fact (history ++ before) event
each_from fact history [] rest event each = subst (λ h. fact h event) (sym (append-nil history)) each.0
each_from fact history (first ∷ before) rest event each =
    subst (λ h. fact h event) (append_assoc history (first ∷ []) before) (each_from fact (history ++ first ∷ []) before rest event each.1)

pub each_at : (fact : List Event → Event → Type 0) (history before rest : List Event) (event : Event) → Each fact [] history → history ≡ before ++ event ∷ rest → fact before event
each_at fact history before rest event each is = each_from fact [] before rest event (subst (Each fact []) is each)

-- an event more
pub each_event : (fact : List Event → Event → Type 0) (history : List Event) (event : Event) → Each fact [] history → fact history event → Each fact [] (history ++ event ∷ [])
each_event fact history event each is = each_append fact [] history (event ∷ []) each (is, tt)

each_notes : (fact : List Event → Event → Type 0) (history : List Event) (station : ℕ) (notes : List Note) → ((before : List Event) (note : Note) → fact before (Noted station note))
    → Each fact history (map (Noted station) notes)
each_notes fact history station [] any = tt
each_notes fact history station (note ∷ notes) any = (any history note, each_notes fact (history ++ Noted station note ∷ []) station notes any)

-- a call more, where any note has the fact
pub each_called : (fact : List Event → Event → Type 0) (station : ℕ) (step : Step) (notes : List Note) (history : List Event) → Each fact [] history
    → fact history (Called station step) → ((before : List Event) (note : Note) → fact before (Noted station note)) → Each fact [] (with_notes station step notes history)
each_called fact station step notes history each is any =
    each_append fact [] history (Called station step ∷ map (Noted station) notes) each (is, each_notes fact (history ++ Called station step ∷ []) station notes any)
