-- What is read off a history after a call on the controller of a station.
use Rattle.std.proofs.Common.{◌≡◌, ℕ, ◌+◌, ◌==◌, Bool, true, false, List, [], ◌∷◌, ◌++◌, map, length, drop, None, if◌then◌else◌, refl, ap, ◌∙◌, append-nil, arith}
use Rattle.std.specs.Prelude.{fold}
use Rattle.std.specs.List.{flat_map}
use Rattle.std.proofs.lemmas.Bool.{eq-eqb}
use Rattle.ble_base.specs.declared.notes.Note.{Note}
use Rattle.controller_model.specs.Step.{Step}
use Rattle.controller_model.specs.Side.{notes_after}
use Rattle.run_model.specs.History.{Event, Called, Noted, one_if, steps_in, past_of, octets_in, fed_to, turns_in, turns_begun, packets_after, packets_on_air, fates_after, fates_used, received_after, packet_received}
use Rattle.run_model.specs.Links.{links_after, links_of}
use Rattle.run_model.specs.Journal.{journal_from, journal_of}
use Rattle.run_model.specs.Run.{Given, after_call, facts_at, octets_left, setup_at}
use Rattle.pair_world.proofs.Histories.{past_more, fed_more, turns_more, fates_more, packets_more, received_more, links_more, journal_more}

-- what a station notes in a call
abbrev pub notes_in_call : Given → ℕ → Step → List Event → List Note
notes_in_call given station step history = notes_after (setup_at given station) (facts_at given station history) step

abbrev pub noted_events : ℕ → List Note → List Event
noted_events station notes = map (Noted station) notes

pub same_number : (n : ℕ) → (n == n) ≡ true
same_number n = eq-eqb n n refl

flat_noted : {X : Type 0} (f : Event → List X) (station : ℕ) → ((note : Note) → f (Noted station note) ≡ []) → (notes : List Note)
    → flat_map f (noted_events station notes) ≡ []
flat_noted f station none [] = refl
flat_noted f station none (note ∷ notes) =
    ap (λ xs. xs ++ flat_map f (noted_events station notes)) (none note) ∙ flat_noted f station none notes

fold_noted : {X : Type 0} (f : X → Event → X) (station : ℕ) → ((x : X) (note : Note) → f x (Noted station note) ≡ x) → (x : X) (notes : List Note)
    → fold f x (noted_events station notes) ≡ x
fold_noted f station same x [] = refl
fold_noted f station same x (note ∷ notes) =
    ap (λ y. fold f y (noted_events station notes)) (same x note) ∙ fold_noted f station same x notes

past_noted : (station other : ℕ) (notes : List Note) → past_of station (noted_events other notes) ≡ []
past_noted station other notes = flat_noted (steps_in station) other (λ note. refl) notes

pub past_own : (given : Given) (station : ℕ) (step : Step) (history : List Event)
    → past_of station (after_call given station step history) ≡ past_of station history ++ step ∷ []
past_own given station step history =
    let notes = notes_in_call given station step history in
    past_more station history (Called station step ∷ noted_events station notes)
    ∙ ap (λ (same : Bool). past_of station history ++ (one_if same step ++ past_of station (noted_events station notes))) (same_number station)
    ∙ ap (λ (steps : List Step). past_of station history ++ step ∷ steps) (past_noted station station notes)

pub past_other : (given : Given) (station other : ℕ) (step : Step) (history : List Event) → (other == station) ≡ false
    → past_of other (after_call given station step history) ≡ past_of other history
past_other given station other step history ne =
    let notes = notes_in_call given station step history in
    past_more other history (Called station step ∷ noted_events station notes)
    ∙ ap (λ (same : Bool). past_of other history ++ (one_if same step ++ past_of other (noted_events station notes))) ne
    ∙ ap (λ (steps : List Step). past_of other history ++ steps) (past_noted other station notes)
    ∙ append-nil (past_of other history)

pub fed_call : (given : Given) (station other : ℕ) (step : Step) (history : List Event)
    → fed_to other (after_call given station step history) ≡ fed_to other history
fed_call given station other step history =
    let notes = notes_in_call given station step history in
    fed_more other history (Called station step ∷ noted_events station notes)
    ∙ ap (λ (octets : List ℕ). fed_to other history ++ octets) (flat_noted (octets_in other) station (λ note. refl) notes)
    ∙ append-nil (fed_to other history)

pub left_call : (given : Given) (station other : ℕ) (step : Step) (history : List Event)
    → octets_left given other (after_call given station step history) ≡ octets_left given other history
left_call given station other step history =
    ap (λ (octets : List ℕ). drop (length octets) (given.station_of other).stream) (fed_call given station other step history)

plus_none : (n : ℕ) → n + 0 ≡ n
plus_none n = omega arith

pub turns_call : (given : Given) (station : ℕ) (step : Step) (history : List Event)
    → turns_begun (after_call given station step history) ≡ turns_begun history
turns_call given station step history =
    turns_more history (Called station step ∷ noted_events station (notes_in_call given station step history))
    ∙ ap (λ (n : ℕ). fold (λ count event. count + turns_in event) n (noted_events station (notes_in_call given station step history)))
    (plus_none (turns_begun history))
    ∙ fold_noted (λ count event. count + turns_in event) station (λ count note. omega arith) (turns_begun history) (notes_in_call given station step history)

pub fates_call : (given : Given) (station : ℕ) (step : Step) (history : List Event)
    → fates_used (after_call given station step history) ≡ fates_used history
fates_call given station step history =
    fates_more history (Called station step ∷ noted_events station (notes_in_call given station step history))
    ∙ fold_noted fates_after station (λ count note. refl) (fates_used history) (notes_in_call given station step history)

pub packets_call : (given : Given) (station : ℕ) (step : Step) (history : List Event)
    → packets_on_air (after_call given station step history) ≡ packets_on_air history
packets_call given station step history =
    packets_more history (Called station step ∷ noted_events station (notes_in_call given station step history))
    ∙ fold_noted packets_after station (λ count note. refl) (packets_on_air history) (notes_in_call given station step history)

pub received_own : (given : Given) (station : ℕ) (step : Step) (history : List Event)
    → packet_received station (after_call given station step history) ≡ None
received_own given station step history =
    let notes = notes_in_call given station step history in
    let before = packet_received station history in
    received_more station history (Called station step ∷ noted_events station notes)
    ∙ fold_noted (received_after station) station (λ packet note. refl) (received_after station before (Called station step)) notes
    ∙ ap (λ (same : Bool). if same then None else before) (same_number station)

pub received_other : (given : Given) (station other : ℕ) (step : Step) (history : List Event) → (other == station) ≡ false
    → packet_received other (after_call given station step history) ≡ packet_received other history
received_other given station other step history ne =
    let notes = notes_in_call given station step history in
    let before = packet_received other history in
    received_more other history (Called station step ∷ noted_events station notes)
    ∙ fold_noted (received_after other) station (λ packet note. refl) (received_after other before (Called station step)) notes
    ∙ ap (λ (same : Bool). if same then None else before) ne

pub links_call : (given : Given) (station : ℕ) (step : Step) (history : List Event)
    → links_of (after_call given station step history)
    ≡ fold links_after (links_of history) (noted_events station (notes_in_call given station step history))
links_call given station step history = links_more history (Called station step ∷ noted_events station (notes_in_call given station step history))

pub journal_call : (given : Given) (station : ℕ) (step : Step) (history : List Event)
    → journal_of (after_call given station step history)
    ≡ journal_of history ++ journal_from (links_of history) (noted_events station (notes_in_call given station step history))
journal_call given station step history =
    journal_more history (Called station step ∷ noted_events station (notes_in_call given station step history))
