-- What the notes of an end say of its parameters: those in force, and the indication that waits.
use Rattle.std.proofs.Common.{◌≡◌, ℕ, ◌+◌, ◌<◌, ◌≤◌, Bool, true, false, List, [], ◌∷◌, ◌++◌, length, map, take, Option, Some, None, is_none, refl, sym, ap, subst, ◌∙◌, arith, length-append, if◌then◌else◌}
use Rattle.std.proofs.lemmas.List.{append-nil, append_assoc, map-append}
use Rattle.std.proofs.Math.Seq.{take-append_seam}
use Rattle.ble_base.specs.declared.counters.EventNo.{EventNo}
use Rattle.ble_base.specs.declared.notes.Note.{Note}
use Rattle.ble_base.specs.declared.notes.Note.TheVariants.{Applied, Enter}
use Rattle.ble_base.specs.declared.roles.Role.{Role}
use Rattle.ble_base.specs.declared.roles.Role.TheVariants.{Central, Peripheral}
use Rattle.instants.specs.Arrivals.{Taking, taking_of}
use Rattle.instants.specs.Track.{TrackFacts, event_of, first_facts, is_due, next_number, track_after_enter, track_after_take, track_changed, track_unchanged}
use Rattle.instants.specs.declared.indications.Indication.{Indication}
use Rattle.instants.specs.declared.indications.Params.{Params}
use Rattle.instants.specs.declared.track.Change.{Change}
use Rattle.link_model.specs.Events.{applied_notes}
use Rattle.link_changes.specs.Noted.{applied_noted, changes_noted, event_noted, indication_noted, taking_if, takings_from, takings_noted}
use Rattle.link_changes.proofs.Notes.{IsSilent, IsStill, applied_more, event_more, takings_more}
use Rattle.link_changes.proofs.Standing.{Stands, entered_stands, first_stands, taken_stands}

abbrev pub changes_in : List Taking → List Change
changes_in takings = map (λ taking. taking.change) takings

-- the indication that waits is the last one noted; it waits beyond the event in which it was taken only for its Instant
pub record IsWaiting (change : Change) (event : ℕ) (rest : List Taking) : Type 0 where
  pub taking : Taking
  pub is_rest : rest ≡ taking ∷ []
  pub is_change : taking.change ≡ change
  pub early : taking.taken_in ≤ event
  pub ahead : taking.taken_in < event → event < change.at.0

abbrev pub Waits : Option Change → ℕ → List Taking → Type 0
Waits None event rest = rest ≡ []
Waits (Some change) event rest = IsWaiting change event rest

-- the notes of an end that has these parameters; `lasts` where none of its procedures ended the link
pub record Knows (role : Role) (first : Params) (slot : ℕ) (notes : List Note) (lasts : Bool) (t : TrackFacts) : Type 0 where
  pub holding : List Taking
  pub rest : List Taking
  pub are : takings_noted role notes ≡ holding ++ rest
  pub count : applied_noted notes ≡ length holding
  pub stands : Stands first slot (changes_in holding) t
  pub event : event_noted notes ≡ event_of t
  pub waits : lasts ≡ true → Waits t.waits (event_of t) rest

pub length_map : (takings : List Taking) → length (changes_in takings) ≡ length takings
length_map [] = refl
length_map (taking ∷ takings) = let more = length_map takings in omega (arith, more)

pub enter_says_none : (role : Role) (handle channel : ℕ) (event : EventNo) → indication_noted role (Enter handle event channel) ≡ None
enter_says_none Central handle channel event = refl
enter_says_none Peripheral handle channel event = refl

pub applied_says_none : (role : Role) (handle number : ℕ) (event : EventNo) → indication_noted role (Applied handle number event) ≡ None
applied_says_none Central handle number event = refl
applied_says_none Peripheral handle number event = refl

module _ (role : Role) (first : Params) (slot : ℕ) where
  abbrev pub KnowsIt : List Note → Bool → TrackFacts → Type 0
  KnowsIt notes lasts t = Knows role first slot notes lasts t

  pub knows_first : KnowsIt [] true (first_facts first slot)
  knows_first = record { holding = []; rest = []; are = refl; count = refl; stands = first_stands first slot; event = refl; waits = λ lasts. refl }

  -- those in force are the first ones, as many as the end noted
  pub changes_are : (notes : List Note) (lasts : Bool) (t : TrackFacts) (k : KnowsIt notes lasts t) → changes_noted role notes ≡ changes_in k.holding
  changes_are notes lasts t k =
      let count = k.count in
      let len = length_map k.holding in
      let number : applied_noted notes ≡ length (changes_in k.holding) = omega (arith, count, len) in
      (λ i. take (number i) (changes_in (k.are i)))
      ∙ ap (take (length (changes_in k.holding))) (map-append (λ (taking : Taking). taking.change) k.holding k.rest)
      ∙ take-append_seam (changes_in k.holding) (changes_in k.rest)

  -- ---- notes that say nothing of events and indications in force

  still_event : (notes more : List Note) (t : TrackFacts) → event_noted notes ≡ event_of t → IsStill more → event_noted (notes ++ more) ≡ event_of t
  still_event notes more t is still = event_more notes more ∙ still.event (event_noted notes) ∙ is

  still_count : (notes more : List Note) (n : ℕ) → applied_noted notes ≡ n → IsStill more → applied_noted (notes ++ more) ≡ n
  still_count notes more n is still = let sum = applied_more notes more in let none = still.none in omega (arith, sum, none, is)

  pub knows_silent : (notes more : List Note) (lasts later : Bool) (t u : TrackFacts) → KnowsIt notes lasts t → u ≡ t → (later ≡ true → lasts ≡ true)
      → IsSilent role more → KnowsIt (notes ++ more) later u
  knows_silent notes more lasts later t u k same goes silent =
      subst (λ (t : TrackFacts). KnowsIt (notes ++ more) later t) (sym same)
      (record {
        holding = k.holding;
        rest = k.rest;
        are = takings_more role notes more ∙ ap (λ (some : List Taking). takings_noted role notes ++ some) (silent.no_taking (event_noted notes))
            ∙ append-nil (takings_noted role notes) ∙ k.are;
        count = still_count notes more (length k.holding) k.count silent.still;
        stands = k.stands;
        event = still_event notes more t k.event silent.still;
        waits = λ is. k.waits (goes is);
      })

  -- ---- the link is at its end: what is taken then never holds

  pub knows_over : (notes more : List Note) (lasts : Bool) (t u : TrackFacts) → KnowsIt notes lasts t → u ≡ t → IsStill more → KnowsIt (notes ++ more) false u
  knows_over notes more lasts t u k same still =
      subst (λ (t : TrackFacts). KnowsIt (notes ++ more) false t) (sym same)
      (record {
        holding = k.holding;
        rest = k.rest ++ takings_from role (event_noted notes) more;
        are = takings_more role notes more ∙ ap (λ (some : List Taking). some ++ takings_from role (event_noted notes) more) k.are
            ∙ append_assoc k.holding k.rest (takings_from role (event_noted notes) more);
        count = still_count notes more (length k.holding) k.count still;
        stands = k.stands;
        event = still_event notes more t k.event still;
        waits = λ is. absurd (cc);
      })

  -- ---- an indication is noted

  free_rest : (waits : Option Change) (event : ℕ) (rest : List Taking) → is_none waits ≡ true → Waits waits event rest → rest ≡ []
  free_rest None event rest free is = is
  free_rest (Some change) event rest free is = absurd (cc)

  pub knows_taken : (notes : List Note) (note : Note) (t u : TrackFacts) (indication : Indication) → KnowsIt notes true t
      → indication_noted role note ≡ Some indication → IsStill (note ∷ []) → is_none t.waits ≡ true → u ≡ track_after_take t indication
      → KnowsIt (notes ++ note ∷ []) true u
  knows_taken notes note t u indication k noted still free same =
      let new = taking_of (event_of t) indication in
      let none = free_rest t.waits (event_of t) k.rest free (k.waits refl) in
      subst (λ (t : TrackFacts). KnowsIt (notes ++ note ∷ []) true t) (sym same)
      (record {
        holding = k.holding;
        rest = new ∷ [];
        are = takings_more role notes (note ∷ [])
            ∙ (λ i. k.are i ++ (taking_if (k.event i) (noted i) ++ []))
            ∙ (λ i. (k.holding ++ none i) ++ new ∷ [])
            ∙ (λ i. append-nil k.holding i ++ new ∷ []);
        count = still_count notes (note ∷ []) (length k.holding) k.count still;
        stands = taken_stands first slot (changes_in k.holding) t indication k.stands;
        event = still_event notes (note ∷ []) t k.event still;
        waits = λ is. record { taking = new; is_rest = refl; is_change = refl; early = omega arith; ahead = λ less. absurd (omega (arith, less)) };
      })

  -- ---- an event is entered

  -- no indication comes into force
  passes : (notes : List Note) (t u : TrackFacts) (handle channel : ℕ) (k : KnowsIt notes true t) → Stands first slot (changes_in k.holding) u
      → Waits u.waits (event_of u) k.rest → KnowsIt (notes ++ Enter handle (record { 0 = event_of u }) channel ∷ []) true u
  passes notes t u handle channel k stands waits =
      let note = Enter handle (record { 0 = event_of u }) channel in
      let sum = applied_more notes (note ∷ []) in
      let count = k.count in record {
        holding = k.holding;
        rest = k.rest;
        are = takings_more role notes (note ∷ [])
            ∙ (λ i. takings_noted role notes ++ (taking_if (event_noted notes) (enter_says_none role handle channel (record { 0 = event_of u }) i) ++ []))
            ∙ append-nil (takings_noted role notes) ∙ k.are;
        count = omega (arith, sum, count);
        stands = stands;
        event = event_more notes (note ∷ []);
        waits = λ lasts. waits;
      }

  -- the one that waits does
  holds : (notes : List Note) (t u : TrackFacts) (handle number channel : ℕ) (taking : Taking) (k : KnowsIt notes true t) → k.rest ≡ taking ∷ []
      → Stands first slot (changes_in k.holding ++ taking.change ∷ []) u → u.waits ≡ None
      → KnowsIt (notes ++ Applied handle number (record { 0 = event_of u }) ∷ Enter handle (record { 0 = event_of u }) channel ∷ []) true u
  holds notes t u handle number channel taking k is_rest stands none =
      let event : EventNo = record { 0 = event_of u } in
      let more = Applied handle number event ∷ Enter handle event channel ∷ [] in
      let sum = applied_more notes more in
      let count = k.count in
      let longer = length-append k.holding (taking ∷ []) in record {
        holding = k.holding ++ taking ∷ [];
        rest = [];
        are = takings_more role notes more
            ∙ (λ i. takings_noted role notes ++ (taking_if (event_noted notes) (applied_says_none role handle number event i)
            ++ (taking_if (event_noted notes) (enter_says_none role handle channel event i) ++ [])))
            ∙ append-nil (takings_noted role notes) ∙ k.are ∙ ap (λ (rest : List Taking). k.holding ++ rest) is_rest
            ∙ sym (append-nil (k.holding ++ taking ∷ []));
        count = omega (arith, sum, count, longer);
        stands = subst (λ (all : List Change). Stands first slot all u) (sym (map-append (λ (taking : Taking). taking.change) k.holding (taking ∷ []))) stands;
        event = event_more notes more;
        waits = λ lasts. subst (λ (waits : Option Change). Waits waits (event_of u) []) (sym none) refl;
      }

  abbrev entry : ℕ → ℕ → Option ℕ → TrackFacts → List Note
  entry handle channel number u = applied_notes handle (event_of u) number ++ Enter handle (record { 0 = event_of u }) channel ∷ []

  abbrev with_waits : Option Change → TrackFacts → TrackFacts
  with_waits waits t = record t { waits = waits }

  entered_some : (notes : List Note) (t : TrackFacts) (change : Change) (handle channel : ℕ) (due : Bool) → is_due change t.entered ≡ due
      → (k : KnowsIt notes true (with_waits (Some change) t))
      → (let u = (if due then track_changed change (with_waits (Some change) t) else track_unchanged (with_waits (Some change) t)) in
      Stands first slot (changes_in k.holding ++ (if due then change ∷ [] else [])) u
      → KnowsIt (notes ++ entry handle channel (if due then Some (t.applied + 1) else None) u) true u)
  entered_some notes t change handle channel true is k stands =
      let w = k.waits refl in
      let u = track_changed change (with_waits (Some change) t) in
      holds notes (with_waits (Some change) t) u handle (t.applied + 1) channel w.taking k w.is_rest
      (subst (λ (c : Change). Stands first slot (changes_in k.holding ++ c ∷ []) u) (sym w.is_change) stands) refl
  entered_some notes t change handle channel false is k stands =
      let w = k.waits refl in
      let early = w.early in
      passes notes (with_waits (Some change) t) (track_unchanged (with_waits (Some change) t)) handle channel k
      (subst (λ (all : List Change). Stands first slot all (track_unchanged (with_waits (Some change) t))) (append-nil (changes_in k.holding)) stands)
      (record { taking = w.taking; is_rest = w.is_rest; is_change = w.is_change; early = omega (arith, early); ahead = λ less. grind arith })

  entered_by : (notes : List Note) (t : TrackFacts) (waits : Option Change) (handle channel : ℕ) → KnowsIt notes true (with_waits waits t)
      → let u = track_after_enter (with_waits waits t) in KnowsIt (notes ++ entry handle channel (next_number (with_waits waits t)) u) true u
  entered_by notes t None handle channel k =
      passes notes (with_waits None t) (track_unchanged (with_waits None t)) handle channel k
      (subst (λ (all : List Change). Stands first slot all (track_unchanged (with_waits None t))) (append-nil (changes_in k.holding))
      (entered_stands first slot (changes_in k.holding) (with_waits None t) k.stands)) (k.waits refl)
  entered_by notes t (Some change) handle channel k =
      entered_some notes t change handle channel (is_due change t.entered) refl k
      (entered_stands first slot (changes_in k.holding) (with_waits (Some change) t) k.stands)

  pub knows_entered : (notes : List Note) (t : TrackFacts) (handle channel : ℕ) → KnowsIt notes true t
      → KnowsIt (notes ++ entry handle channel (next_number t) (track_after_enter t)) true (track_after_enter t)
  knows_entered notes t handle channel k = entered_by notes t t.waits handle channel k
