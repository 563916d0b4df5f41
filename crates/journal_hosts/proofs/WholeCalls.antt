-- In a run the notes that a call gives come one after another, up to the last.
use Rattle.std.proofs.Common.{◌≡◌, ℕ, ◌⊎◌, inl, inr, true, false, List, [], ◌∷◌, ◌++◌, map, refl, sym, ap, ◌∙◌, append-nil, append_assoc}
use Rattle.ble_base.specs.declared.notes.Note.{Note}
use Rattle.journal_data.specs.controller_model.Side.{notes_after}
use Rattle.journal_data.specs.controller_model.Step.{Step}
use Rattle.run_model.specs.History.{Event, Called, Noted}
use Rattle.run_model.specs.Run.{Given, facts_at, history_of, run_of, setup_at}
use Rattle.run_model.proofs.Walk.{IsStepped, is_outside, run_stepped}

-- ---- an element of two lists, one after the other

pub record IsBefore {A : Type 0} (xs : List A) (x : A) (ys zs ws : List A) : Type 0 where
  pub more : List A
  pub is : zs ≡ xs ++ x ∷ more
  pub rest_is : ys ≡ more ++ ws

pub record IsAfter {A : Type 0} (xs : List A) (x : A) (ys zs ws : List A) : Type 0 where
  pub more : List A
  pub is : ws ≡ more ++ x ∷ ys
  pub front_is : xs ≡ zs ++ more

pub place_of : {A : Type 0} (xs : List A) (x : A) (ys zs ws : List A) → zs ++ ws ≡ xs ++ x ∷ ys → IsBefore xs x ys zs ws ⊎ IsAfter xs x ys zs ws
place_of xs x ys [] ws is = inr (record { more = xs; is = is; front_is = refl })
place_of [] x ys (z ∷ zs) ws is =
    let first : z ≡ x = cc in
    let rest : zs ++ ws ≡ ys = cc in
    inl (record { more = zs; is = ap (λ one. one ∷ zs) first; rest_is = sym rest })
place_of (y ∷ xs) x ys (z ∷ zs) ws is =
    let first : z ≡ y = cc in
    let rest : zs ++ ws ≡ xs ++ x ∷ ys = cc in
    by first (place_of xs x ys zs ws rest)
  where
    by : z ≡ y → IsBefore xs x ys zs ws ⊎ IsAfter xs x ys zs ws → IsBefore (y ∷ xs) x ys (z ∷ zs) ws ⊎ IsAfter (y ∷ xs) x ys (z ∷ zs) ws
    by first (inl before) = inl (record { more = before.more; is = λ i. first i ∷ before.is i; rest_is = before.rest_is })
    by first (inr after) = inr (record { more = after.more; is = after.is; front_is = λ i. sym first i ∷ after.front_is i })

-- ---- a note among those of its call

pub record IsInWhole (given : Given) (before : List Event) (station : ℕ) (note : Note) (rest : List Event) : Type 0 where
  pub base : List Event
  pub step : Step
  pub earlier : List Note
  pub later : List Note
  pub more : List Event
  pub before_is : before ≡ base ++ Called station step ∷ map (Noted station) earlier
  pub notes_are : notes_after (setup_at given station) (facts_at given station base) step ≡ earlier ++ note ∷ later
  pub rest_is : rest ≡ map (Noted station) later ++ more

abbrev AreWhole : Given → List Event → Type 0
AreWhole given history = (before rest : List Event) (station : ℕ) (note : Note) → history ≡ before ++ Noted station note ∷ rest → IsInWhole given before station note rest

grown : (given : Given) (before : List Event) (station : ℕ) (note : Note) (rest then_on more : List Event) → rest ≡ then_on ++ more
    → IsInWhole given before station note then_on → IsInWhole given before station note rest
grown given before station note rest then_on more is whole = record {
  base = whole.base;
  step = whole.step;
  earlier = whole.earlier;
  later = whole.later;
  more = whole.more ++ more;
  before_is = whole.before_is;
  notes_are = whole.notes_are;
  rest_is = is ∙ ap (λ (xs : List Event). xs ++ more) whole.rest_is ∙ append_assoc (map (Noted station) whole.later) whole.more more;
}

-- the notes of a call are cut where one of them is
record IsCut (station other : ℕ) (notes : List Note) (front rest : List Event) (note : Note) : Type 0 where
  earlier : List Note
  later : List Note
  notes_are : notes ≡ earlier ++ note ∷ later
  front_is : front ≡ map (Noted other) earlier
  rest_is : rest ≡ map (Noted other) later
  same : station ≡ other

cut : (station other : ℕ) (notes : List Note) (front rest : List Event) (note : Note) → map (Noted station) notes ≡ front ++ Noted other note ∷ rest
    → IsCut station other notes front rest note
cut station other [] [] rest note is = absurd cc
cut station other [] (event ∷ front) rest note is = absurd cc
cut station other (first ∷ notes) [] rest note is =
    let one : Noted station first ≡ Noted other note = cc in
    let same : station ≡ other = cc in
    let named : first ≡ note = cc in
    let others : map (Noted station) notes ≡ rest = cc in record {
      earlier = [];
      later = notes;
      notes_are = ap (λ n. n ∷ notes) named;
      front_is = refl;
      rest_is = sym others ∙ ap (λ s. map (Noted s) notes) same;
      same = same;
    }
cut station other (first ∷ notes) (event ∷ front) rest note is =
    let one : Noted station first ≡ event = cc in
    let others : map (Noted station) notes ≡ front ++ Noted other note ∷ rest = cc in
    let later = cut station other notes front rest note others in record {
      earlier = first ∷ later.earlier;
      later = later.later;
      notes_are = ap (λ xs. first ∷ xs) later.notes_are;
      front_is = λ i. (sym one ∙ ap (λ s. Noted s first) later.same) i ∷ later.front_is i;
      rest_is = later.rest_is;
      same = later.same;
    }

whole_stepped : (given : Given) → IsStepped given (AreWhole given)
whole_stepped given = record {
  on_event = λ history event outside whole before rest station note is.
      by_event history event outside whole before rest station note (place_of before (Noted station note) rest history (event ∷ []) is);
  on_call = λ own step history whole before rest station note is.
      let notes = notes_after (setup_at given own) (facts_at given own history) step in
      by_call own step history whole before rest station note (place_of before (Noted station note) rest history (Called own step ∷ map (Noted own) notes) is);
}
  where
    outside_none : (event : Event) (station : ℕ) (note : Note) (X : Type 0) → is_outside event ≡ true → event ≡ Noted station note → X
    outside_none event station note X outside is = absurd (let h : false ≡ true = ap is_outside (sym is) ∙ outside in absurd cc)

    last_event : (event : Event) (station : ℕ) (note : Note) (more rest : List Event) (X : Type 0) → is_outside event ≡ true → event ∷ [] ≡ more ++ Noted station note ∷ rest → X
    last_event event station note [] rest X outside is = let same : event ≡ Noted station note = cc in outside_none event station note X outside same
    last_event event station note (one ∷ []) rest X outside is = absurd cc
    last_event event station note (one ∷ other ∷ more) rest X outside is = absurd cc

    by_event : (history : List Event) (event : Event) → is_outside event ≡ true → AreWhole given history → (before rest : List Event) (station : ℕ) (note : Note)
        → IsBefore before (Noted station note) rest history (event ∷ []) ⊎ IsAfter before (Noted station note) rest history (event ∷ [])
        → IsInWhole given before station note rest
    by_event history event outside whole before rest station note (inl early) =
        grown given before station note rest early.more (event ∷ []) early.rest_is (whole before early.more station note early.is)
    by_event history event outside whole before rest station note (inr late) = last_event event station note late.more rest _ outside late.is

    in_call : (own : ℕ) (step : Step) (history : List Event) (before rest : List Event) (station : ℕ) (note : Note) (more : List Event)
        → Called own step ∷ map (Noted own) (notes_after (setup_at given own) (facts_at given own history) step) ≡ more ++ Noted station note ∷ rest
        → before ≡ history ++ more → IsInWhole given before station note rest
    in_call own step history before rest station note [] is front = absurd (let same : Called own step ≡ Noted station note = cc in cc)
    in_call own step history before rest station note (event ∷ more) is front =
        let called : Called own step ≡ event = cc in
        let noted : map (Noted own) (notes_after (setup_at given own) (facts_at given own history) step) ≡ more ++ Noted station note ∷ rest = cc in
        let parts = cut own station (notes_after (setup_at given own) (facts_at given own history) step) more rest note noted in record {
          base = history;
          step = step;
          earlier = parts.earlier;
          later = parts.later;
          more = [];
          before_is = front ∙ (λ i. history ++ (sym called ∙ ap (λ s. Called s step) parts.same) i ∷ parts.front_is i);
          notes_are = ap (λ s. notes_after (setup_at given s) (facts_at given s history) step) (sym parts.same) ∙ parts.notes_are;
          rest_is = parts.rest_is ∙ sym (append-nil (map (Noted station) parts.later));
        }

    by_call : (own : ℕ) (step : Step) (history : List Event) → AreWhole given history → (before rest : List Event) (station : ℕ) (note : Note)
        → IsBefore before (Noted station note) rest history (Called own step ∷ map (Noted own) (notes_after (setup_at given own) (facts_at given own history) step))
        ⊎ IsAfter before (Noted station note) rest history (Called own step ∷ map (Noted own) (notes_after (setup_at given own) (facts_at given own history) step))
        → IsInWhole given before station note rest
    by_call own step history whole before rest station note (inl early) =
        grown given before station note rest early.more _ early.rest_is (whole before early.more station note early.is)
    by_call own step history whole before rest station note (inr late) = in_call own step history before rest station note late.more late.is late.front_is

pub noted_in_whole : (given : Given) (before rest : List Event) (station : ℕ) (note : Note) → history_of (run_of given) ≡ before ++ Noted station note ∷ rest
    → IsInWhole given before station note rest
noted_in_whole given before rest station note is =
    run_stepped given (AreWhole given) (whole_stepped given) nothing before rest station note is
  where
    nothing : AreWhole given []
    nothing [] rest station note is = absurd cc
    nothing (event ∷ before) rest station note is = absurd cc
