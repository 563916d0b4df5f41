-- What an end has of the indications that it took: those that hold, and the one that waits for its event.
use Rattle.std.proofs.Common.{◌≡◌, ◌⊎◌, inl, inr, ℕ, ◌<◌, ◌≤◌, Bool, true, false, List, [], ◌∷◌, ◌++◌, length, take, Option, Some, None, option_to_list, refl, sym, ap, subst, ◌∙◌, arith, append_assoc}
use Rattle.std.specs.List.{All}
use Rattle.std.proofs.Math.Seq.{take-append_seam}
use Rattle.std.proofs.lemmas.List.{append-nil}
use Rattle.std.proofs.lemmas.List.Elements.{All-nil, All-pop}
use Rattle.instants.specs.declared.indications.Params.{Params}
use Rattle.instants.specs.declared.indications.Indication.{Indication}
use Rattle.instants.specs.declared.track.Change.{Change}
use Rattle.instants.specs.Parameters.{anchor_in, params_in}
use Rattle.instants.specs.Track.{TrackFacts, first_facts, event_of, is_due, track_after_enter, track_after_take}
use Rattle.instants.specs.Follows.{Follows, new_changes}
use Rattle.instants.proofs.Following.{Follows-first, Follows-taken, Follows-entered}
use Rattle.two_tracks.specs.TwoEnds.{change_of}
use Rattle.joint_parameters.specs.Indications.{new_change}
use Rattle.joint_parameters.specs.Views.{HaveEqual}

-- an indication was taken before event 0: it holds from a later event on
pub record IsEarly (first : Params) (slot : ℕ) (held : List Change) (t : TrackFacts) : Type 0 where
  pub change : Change
  pub later : 1 ≤ change.at.0
  pub none : held ≡ []
  pub is : t ≡ record (first_facts first slot) { waits = Some change }

abbrev pub Goes : Params → ℕ → List Change → TrackFacts → Type 0
Goes first slot held t = Follows first slot held t ⊎ IsEarly first slot held t

pub record HasTaken (first : Params) (slot : ℕ) (taken : List Change) (t : TrackFacts) : Type 0 where
  pub held : List Change
  pub all : taken ≡ held ++ option_to_list t.waits
  pub goes : Goes first slot held t

pub taken_first : (first : Params) (slot : ℕ) → HasTaken first slot [] (first_facts first slot)
taken_first first slot = record { held = []; all = refl; goes = inl (Follows-first first slot) }

-- ---- an end enters its next event

follows_entered : (first : Params) (slot : ℕ) (taken held : List Change) (t : TrackFacts) → taken ≡ held ++ option_to_list t.waits
    → Follows first slot held t → HasTaken first slot taken (track_after_enter t)
follows_entered first slot taken held t all f = by_waits t.waits refl
  where
    follows : Follows first slot (held ++ new_changes t.waits t.entered) (track_after_enter t)
    follows = Follows-entered first slot held t f

    by_due : (change : Change) (due : Bool) → t.waits ≡ Some change → is_due change t.entered ≡ due
        → HasTaken first slot taken (track_after_enter t)
    by_due change true waits due =
        let all_now : taken ≡ held ++ change ∷ [] = rw waits at all in
        let same = rw (waits, due) at follows in
        rw (waits, due) (record {
          held = held ++ change ∷ [];
          all = all_now ∙ sym (append-nil (held ++ change ∷ []));
          goes = inl same;
        })
    by_due change false waits due =
        let all_now = rw waits at all in
        let same = rw (waits, due, append-nil held) at follows in
        rw (waits, due) (record { held = held; all = all_now; goes = inl same })

    by_waits : (waits : Option Change) → t.waits ≡ waits → HasTaken first slot taken (track_after_enter t)
    by_waits None waits =
        let all_now = rw waits at all in
        let same = rw (waits, append-nil held) at follows in
        rw waits (record { held = held; all = all_now; goes = inl same })
    by_waits (Some change) waits = by_due change (is_due change t.entered) waits refl

early_entered : (first : Params) (slot : ℕ) (taken : List Change) (change : Change) → 1 ≤ change.at.0 → taken ≡ change ∷ []
    → HasTaken first slot taken (track_after_enter (record (first_facts first slot) { waits = Some change }))
early_entered first slot taken change later all =
    let due : is_due change 0 ≡ false = grind arith in
    rw due (record {
      held = [];
      all = all;
      goes = inl (record { params = refl; anchor = refl; number = refl; past = All-nil _; ahead = omega arith; before = λ e. absurd (omega (arith, e)) });
    })

pub taken_entered : (first : Params) (slot : ℕ) (taken : List Change) (t : TrackFacts) → HasTaken first slot taken t
    → HasTaken first slot taken (track_after_enter t)
taken_entered first slot taken t h = by h.held h.all h.goes
  where
    by : (held : List Change) → taken ≡ held ++ option_to_list t.waits → Goes first slot held t → HasTaken first slot taken (track_after_enter t)
    by held all (inl f) = follows_entered first slot taken held t all f
    by held all (inr e) =
        let all_now : taken ≡ e.change ∷ [] =
        all ∙ ap (λ (xs : List Change). xs ++ option_to_list t.waits) e.none ∙ ap (λ (u : TrackFacts). option_to_list u.waits) e.is in
        rw e.is (early_entered first slot taken e.change e.later all_now)

-- ---- an end takes an indication

first_track : (first : Params) (slot : ℕ) (held : List Change) (t : TrackFacts) → t.entered ≡ 0 → held ≡ [] → t.waits ≡ None → Follows first slot held t
    → t ≡ first_facts first slot
first_track first slot held t start none free f =
    let e : event_of t ≡ 0 = omega (arith, start) in
    let params : t.params ≡ first = rw none at f.params in
    let anchor : t.anchor ≡ slot = rw e at f.anchor in
    let number : t.applied ≡ 0 = rw none at f.number in
    ap (λ (n : ℕ). record t { entered = n }) start
    ∙ ap (λ (n : ℕ). record t { entered = 0; anchor = n }) anchor
    ∙ ap (λ (q : Params). record t { entered = 0; anchor = slot; params = q }) params
    ∙ ap (λ (w : Option Change). record t { entered = 0; anchor = slot; params = first; waits = w }) free
    ∙ ap (λ (n : ℕ). record { entered = 0; anchor = slot; params = first; waits = None; applied = n }) number

pub taken_more : (first : Params) (slot : ℕ) (taken : List Change) (t : TrackFacts) (indication : Indication) (change : Change) → t.waits ≡ None
    → change_of (event_of t) indication ≡ change → 1 ≤ change.at.0 → HasTaken first slot taken t
    → HasTaken first slot (taken ++ change ∷ []) (track_after_take t indication)
taken_more first slot taken t indication change free same later h = by h.held h.all h.goes
  where
    all_now : (held : List Change) → taken ≡ held ++ option_to_list t.waits
        → taken ++ change ∷ [] ≡ held ++ change_of (event_of t) indication ∷ []
    all_now held all =
        let all_held : taken ≡ held = (rw free at all) ∙ append-nil held in
        ap (λ (xs : List Change). xs ++ change ∷ []) all_held ∙ ap (λ (c : Change). held ++ c ∷ []) (sym same)

    by_event : (held : List Change) → taken ≡ held ++ option_to_list t.waits → Follows first slot held t → (t.entered ≡ 0) ⊎ (1 ≤ t.entered)
        → HasTaken first slot (taken ++ change ∷ []) (track_after_take t indication)
    by_event held all f (inr started) =
        record { held = held; all = all_now held all; goes = inl (Follows-taken first slot held t indication started f) }
    by_event held all f (inl start) =
        let none = (f.before start).0 in
        let is = first_track first slot held t start none free f in
        record {
          held = held;
          all = all_now held all;
          goes = inr (record {
            change = change_of (event_of t) indication;
            later = subst (λ (c : Change). 1 ≤ c.at.0) (sym same) later;
            none = none;
            is = ap (λ (u : TrackFacts). record u { waits = Some (change_of (event_of t) indication) }) is;
          });
        }

    by : (held : List Change) → taken ≡ held ++ option_to_list t.waits → Goes first slot held t
        → HasTaken first slot (taken ++ change ∷ []) (track_after_take t indication)
    by held all (inl f) = by_event held all f (grind arith)
    by held all (inr e) =
        let some : t.waits ≡ Some e.change = ap (λ (u : TrackFacts). u.waits) e.is in
        absurd (let both : ◌≡◌ {A = Option Change} None (Some e.change) = sym free ∙ some in cc)

-- ---- what waits was taken, and its event is not over

pub waits_of_all : (first : Params) (slot : ℕ) (P : Change → Type 0) (taken : List Change) (t : TrackFacts) (change : Change) → HasTaken first slot taken t
    → All P taken → t.waits ≡ Some change → P change
waits_of_all first slot P taken t change h all waits =
    let last = (All-pop P taken h.held t.waits h.all all).1 in
    rw waits at last

pub waits_ahead : (first : Params) (slot : ℕ) (taken : List Change) (t : TrackFacts) (change : Change) → HasTaken first slot taken t → t.waits ≡ Some change
    → event_of t ≤ change.at.0
waits_ahead first slot taken t change h waits = by h.held h.goes
  where
    by : (held : List Change) → Goes first slot held t → event_of t ≤ change.at.0
    by held (inl f) = rw waits at f.ahead
    by held (inr e) = let start : t.entered ≡ 0 = ap (λ (u : TrackFacts). u.entered) e.is in omega (arith, start)

-- nothing waits where the events of all that were taken are over
pub free_if_over : (first : Params) (slot : ℕ) (taken : List Change) (t : TrackFacts) → HasTaken first slot taken t
    → All (λ change. change.at.0 < event_of t) taken → t.waits ≡ None
free_if_over first slot taken t h over = by t.waits refl
  where
    by : (waits : Option Change) → t.waits ≡ waits → t.waits ≡ None
    by None is = is
    by (Some change) is =
        let past = waits_of_all first slot (λ c. c.at.0 < event_of t) taken t change h over is in
        let ahead = waits_ahead first slot taken t change h is in
        absurd (omega (arith, past, ahead))

-- ---- what comes to wait in a step

pub none_new : (waits : Option Change) → new_change waits waits ≡ []
none_new None = refl
none_new (Some change) = refl

pub none_new_entered : (t : TrackFacts) → new_change t.waits (track_after_enter t).waits ≡ []
none_new_entered t = by t.waits refl
  where
    by : (waits : Option Change) → t.waits ≡ waits → new_change t.waits (track_after_enter t).waits ≡ []
    by None is = rw is refl
    by (Some change) is = rw is refl

-- ---- the parameters in an event

pub record IsIn (first : Params) (slot : ℕ) (held : List Change) (t : TrackFacts) : Type 0 where
  pub params : t.params ≡ params_in first held (event_of t)
  pub anchor : t.anchor ≡ anchor_in slot first held (event_of t)
  pub number : t.applied ≡ length held

pub is_in : (first : Params) (slot : ℕ) (held : List Change) (t : TrackFacts) → Goes first slot held t → IsIn first slot held t
is_in first slot held t (inl f) = record { params = f.params; anchor = f.anchor; number = f.number }
is_in first slot held t (inr e) = rw (e.is, e.none) (record { params = refl; anchor = refl; number = refl })

pub held_is_front : (first : Params) (slot : ℕ) (taken more sent : List Change) (t : TrackFacts) (h : HasTaken first slot taken t) → sent ≡ taken ++ more
    → take t.applied sent ≡ h.held
held_is_front first slot taken more sent t h all =
    let number = (is_in first slot h.held t h.goes).number in
    let parts : sent ≡ h.held ++ (option_to_list t.waits ++ more) =
    all ∙ ap (λ (xs : List Change). xs ++ more) h.all ∙ append_assoc h.held (option_to_list t.waits) more in
    ap (λ (n : ℕ). take n sent) number ∙ ap (take (length h.held)) parts ∙ take-append_seam h.held (option_to_list t.waits ++ more)

-- an end that has entered an event follows the first that were sent
pub follows_front : (first : Params) (slot : ℕ) (taken more sent : List Change) (t : TrackFacts) → HasTaken first slot taken t → sent ≡ taken ++ more
    → 1 ≤ t.entered → Follows first slot (take t.applied sent) t
follows_front first slot taken more sent t h all started = rw (held_is_front first slot taken more sent t h all) (by h.held h.goes)
  where
    by : (held : List Change) → Goes first slot held t → Follows first slot held t
    by held (inl f) = f
    by held (inr e) = let start : t.entered ≡ 0 = ap (λ (u : TrackFacts). u.entered) e.is in absurd (omega (arith, start, started))

-- two ends in events of one number, in which as many indications hold
pub equal_in : (first : Params) (slot : ℕ) (taken_a more_a taken_b more_b sent : List Change) (a b : TrackFacts) → HasTaken first slot taken_a a
    → HasTaken first slot taken_b b → sent ≡ taken_a ++ more_a → sent ≡ taken_b ++ more_b → event_of a ≡ event_of b → a.applied ≡ b.applied
    → HaveEqual a b
equal_in first slot taken_a more_a taken_b more_b sent a b ha hb all_a all_b event number =
    let of_a = is_in first slot ha.held a ha.goes in
    let of_b = is_in first slot hb.held b hb.goes in
    let same : ha.held ≡ hb.held =
    sym (held_is_front first slot taken_a more_a sent a ha all_a) ∙ ap (λ (n : ℕ). take n sent) number
    ∙ held_is_front first slot taken_b more_b sent b hb all_b in
    let params : params_in first ha.held (event_of a) ≡ params_in first hb.held (event_of b) =
    ap (λ (xs : List Change). params_in first xs (event_of a)) same ∙ ap (λ (n : ℕ). params_in first hb.held n) event in
    let anchors : anchor_in slot first ha.held (event_of a) ≡ anchor_in slot first hb.held (event_of b) =
    ap (λ (xs : List Change). anchor_in slot first xs (event_of a)) same ∙ ap (λ (n : ℕ). anchor_in slot first hb.held n) event in
    record { params = of_a.params ∙ params ∙ sym of_b.params; anchor = of_a.anchor ∙ anchors ∙ sym of_b.anchor }
