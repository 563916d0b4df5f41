-- What a call on a controller, and any other event, adds to what is read off a history.
use Rattle.std.proofs.Common.{◌≡◌, ℕ, ◌+◌, ◌==◌, Bool, true, false, List, [], ◌∷◌, ◌++◌, refl, ap, ◌∙◌, append-nil, arith}
use Rattle.std.specs.Prelude.{fold, map, if◌then◌else◌}
use Rattle.std.specs.List.{flat_map}
use Rattle.std.proofs.lemmas.Bool.{eqb-false, true_from_ne_false}
use Rattle.std.proofs.lemmas.Grind.{flat_map-append}
use Rattle.std.proofs.lemmas.List.Sums.{fold-append}
use Rattle.ble_base.specs.declared.notes.Note.{Note}
use Rattle.controller_model.specs.Step.{Step}
use Rattle.run_model.specs.History.{Event, Called, Noted, one_if, past_of, steps_in, noted_by, notes_in, turns_begun, turns_in}

-- a history with a call and its notes
abbrev pub with_notes : ℕ → Step → List Note → List Event → List Event
with_notes station step notes history = history ++ Called station step ∷ map (Noted station) notes

pub same_station : (station : ℕ) → (station == station) ≡ true
same_station station = true_from_ne_false _ (λ differs. eqb-false station station differs refl)

-- ---- what is a list of parts of the events

-- an event more
pub flat_event : {X : Type 0} (f : Event → List X) (history : List Event) (event : Event) → flat_map f (history ++ event ∷ []) ≡ flat_map f history ++ f event
flat_event f history event = flat_map-append f history (event ∷ []) ∙ ap (λ xs. flat_map f history ++ xs) (append-nil (f event))

-- an event of which nothing is read
pub flat_nothing : {X : Type 0} (f : Event → List X) (history : List Event) (event : Event) → f event ≡ [] → flat_map f (history ++ event ∷ []) ≡ flat_map f history
flat_nothing f history event none = flat_event f history event ∙ ap (λ xs. flat_map f history ++ xs) none ∙ append-nil (flat_map f history)

flat_notes : {X : Type 0} (f : Event → List X) (station : ℕ) (notes : List Note) → ((note : Note) → f (Noted station note) ≡ []) → flat_map f (map (Noted station) notes) ≡ []
flat_notes f station [] none = refl
flat_notes f station (note ∷ notes) none = rw (none note) (flat_notes f station notes none)

-- a call of whose notes nothing is read
pub flat_called : {X : Type 0} (f : Event → List X) (station : ℕ) (step : Step) (notes : List Note) (history : List Event) → ((note : Note) → f (Noted station note) ≡ [])
    → flat_map f (with_notes station step notes history) ≡ flat_map f history ++ f (Called station step)
flat_called f station step notes history none =
    flat_map-append f history (Called station step ∷ map (Noted station) notes)
    ∙ ap (λ xs. flat_map f history ++ (f (Called station step) ++ xs)) (flat_notes f station notes none)
    ∙ ap (λ xs. flat_map f history ++ xs) (append-nil (f (Called station step)))

-- a call of which nothing is read
pub flat_unread : {X : Type 0} (f : Event → List X) (station : ℕ) (step : Step) (notes : List Note) (history : List Event) → f (Called station step) ≡ []
    → ((note : Note) → f (Noted station note) ≡ []) → flat_map f (with_notes station step notes history) ≡ flat_map f history
flat_unread f station step notes history call none =
    flat_called f station step notes history none ∙ ap (λ xs. flat_map f history ++ xs) call ∙ append-nil (flat_map f history)

-- ---- pasts

pub past_by : (other station : ℕ) (step : Step) (notes : List Note) (history : List Event) (same : Bool) → (other == station) ≡ same
    → past_of other (with_notes station step notes history) ≡ past_of other history ++ one_if same step
past_by other station step notes history same is =
    flat_called (steps_in other) station step notes history (λ note. refl) ∙ ap (λ b. past_of other history ++ one_if b step) is

pub past_own : (station : ℕ) (step : Step) (notes : List Note) (history : List Event)
    → past_of station (with_notes station step notes history) ≡ past_of station history ++ step ∷ []
past_own station step notes history = past_by station station step notes history true (same_station station)

pub past_other : (other station : ℕ) (step : Step) (notes : List Note) (history : List Event) → (other == station) ≡ false
    → past_of other (with_notes station step notes history) ≡ past_of other history
past_other other station step notes history differs =
    past_by other station step notes history false differs ∙ append-nil (past_of other history)

-- ---- notes

notes_by : (other station : ℕ) (notes : List Note) (same : Bool) → (other == station) ≡ same
    → flat_map (notes_in other) (map (Noted station) notes) ≡ (if same then notes else [])
notes_by other station [] true is = refl
notes_by other station [] false is = refl
notes_by other station (note ∷ notes) true is = rw (is, notes_by other station notes true is) refl
notes_by other station (note ∷ notes) false is = rw (is, notes_by other station notes false is) refl

pub noted_called : (other station : ℕ) (step : Step) (notes : List Note) (history : List Event) (same : Bool) → (other == station) ≡ same
    → noted_by other (with_notes station step notes history) ≡ noted_by other history ++ (if same then notes else [])
noted_called other station step notes history same is =
    flat_map-append (notes_in other) history (Called station step ∷ map (Noted station) notes)
    ∙ ap (λ xs. noted_by other history ++ xs) (notes_by other station notes same is)

-- ---- what is a fold of the events

fold_notes : {X : Type 0} (f : X → Event → X) (start : X) (station : ℕ) (notes : List Note) → ((x : X) (note : Note) → f x (Noted station note) ≡ x)
    → fold f start (map (Noted station) notes) ≡ start
fold_notes f start station [] none = refl
fold_notes f start station (note ∷ notes) none = ap (λ x. fold f x (map (Noted station) notes)) (none start note) ∙ fold_notes f start station notes none

pub fold_called : {X : Type 0} (f : X → Event → X) (start : X) (station : ℕ) (step : Step) (notes : List Note) (history : List Event)
    → ((x : X) (note : Note) → f x (Noted station note) ≡ x)
    → fold f start (with_notes station step notes history) ≡ f (fold f start history) (Called station step)
fold_called f start station step notes history none =
    fold-append f start history (Called station step ∷ map (Noted station) notes) ∙ fold_notes f (f (fold f start history) (Called station step)) station notes none

pub fold_event : {X : Type 0} (f : X → Event → X) (start : X) (history : List Event) (event : Event) → fold f start (history ++ event ∷ []) ≡ f (fold f start history) event
fold_event f start history event = fold-append f start history (event ∷ [])

zero_more : (n : ℕ) → n + 0 ≡ n
zero_more n = omega arith

pub turns_called : (station : ℕ) (step : Step) (notes : List Note) (history : List Event) → turns_begun (with_notes station step notes history) ≡ turns_begun history
unfolding turns_begun
turns_called station step notes history =
    fold_called (λ count event. count + turns_in event) 0 station step notes history (λ count note. zero_more count) ∙ zero_more (fold (λ count event. count + turns_in event) 0 history)

pub turns_more : (history : List Event) (event : Event) → turns_begun (history ++ event ∷ []) ≡ turns_begun history + turns_in event
unfolding turns_begun
turns_more history event = fold_event (λ count event. count + turns_in event) 0 history event

-- an event that begins no turn
pub turns_same : (history : List Event) (event : Event) → turns_in event ≡ 0 → turns_begun (history ++ event ∷ []) ≡ turns_begun history
turns_same history event none = turns_more history event ∙ ap (λ n. turns_begun history + n) none ∙ zero_more (turns_begun history)
