-- An end follows the indications in force, from its first event on; before that it is as its link began.
use Rattle.std.proofs.Common.{◌≡◌, ℕ, zero, suc, ◌+◌, ◌≤◌, Bool, true, false, List, [], ◌∷◌, ◌++◌, Option, Some, None, refl, sym, arith, if◌then◌else◌, subst}
use Rattle.std.proofs.lemmas.List.Elements.{All-nil, All-push}
use Rattle.instants.specs.Follows.{Follows, new_changes}
use Rattle.instants.specs.Track.{TrackFacts, first_facts, is_due, track_after_enter, track_after_take, track_changed, track_in_next, track_unchanged}
use Rattle.instants.specs.declared.indications.Indication.{Indication}
use Rattle.instants.specs.declared.indications.Params.{Params}
use Rattle.instants.specs.declared.track.Change.{Change}
use Rattle.instants.proofs.Changes.{IsPast, params_in-due}
use Rattle.instants.proofs.Following.{Follows-entered, Follows-first, Follows-taken}

pub record Stands (first : Params) (slot : ℕ) (changes : List Change) (t : TrackFacts) : Type 0 where
  pub follows : 1 ≤ t.entered → Follows first slot changes t
  pub begins : t.entered ≡ 0 → (changes ≡ []) × (t ≡ record (first_facts first slot) { waits = t.waits })

pub first_stands : (first : Params) (slot : ℕ) → Stands first slot [] (first_facts first slot)
first_stands first slot = record { follows = λ in_event. Follows-first first slot; begins = λ none. (refl, refl) }

pub taken_stands : (first : Params) (slot : ℕ) (changes : List Change) (t : TrackFacts) (indication : Indication) → Stands first slot changes t
    → Stands first slot changes (track_after_take t indication)
taken_stands first slot changes t indication s = record {
  follows = λ in_event. Follows-taken first slot changes t indication in_event (s.follows in_event);
  begins = λ none. ((s.begins none).0, λ i. record ((s.begins none).1 i) { waits = (track_after_take t indication).waits });
}

-- ---- an event is entered

pub entered_more : (waits : Option Change) (t : TrackFacts) → (track_in_next waits t).entered ≡ t.entered + 1
entered_more None t = refl
entered_more (Some change) t = by (is_due change t.entered)
  where
    by : (due : Bool) → (if due then track_changed change t else track_unchanged t).entered ≡ t.entered + 1
    by true = refl
    by false = refl

module _ (first : Params) (slot : ℕ) where
  abbrev waiting : Option Change → TrackFacts
  waiting waits = record (first_facts first slot) { waits = waits }

  first_by : (change : Change) (due : Bool) → is_due change 0 ≡ due
      → Follows first slot (if due then change ∷ [] else []) (if due then track_changed change (waiting (Some change)) else track_unchanged (waiting (Some change)))
  first_by change true is =
      let at : change.at.0 ≤ 0 = grind arith in record {
        params = sym (params_in-due first [] change 0 at);
        anchor = refl;
        number = refl;
        past = All-push (IsPast 0) [] change (All-nil (IsPast 0)) at;
        ahead = tt;
        before = λ none. absurd (omega arith);
      }
  first_by change false is =
      record { params = refl; anchor = refl; number = refl; past = All-nil (IsPast 0); ahead = omega arith; before = λ none. absurd (omega arith) }

  first_entered : (waits : Option Change) → Follows first slot ([] ++ new_changes waits 0) (track_in_next waits (waiting waits))
  first_entered None = Follows-entered first slot [] (first_facts first slot) (Follows-first first slot)
  first_entered (Some change) = first_by change (is_due change 0) refl

  follows_next : (changes : List Change) (t : TrackFacts) (entered : ℕ) → t.entered ≡ entered → Stands first slot changes t
      → Follows first slot (changes ++ new_changes t.waits t.entered) (track_after_enter t)
  follows_next changes t zero is s =
      let begins = s.begins is in
      subst (λ (u : TrackFacts). Follows first slot (changes ++ new_changes t.waits u.entered) (track_in_next t.waits u)) (sym begins.1)
      (subst (λ (all : List Change). Follows first slot (all ++ new_changes t.waits 0) (track_in_next t.waits (waiting t.waits))) (sym begins.0) (first_entered t.waits))
  follows_next changes t (suc event) is s = Follows-entered first slot changes t (s.follows (omega (arith, is)))

  pub entered_stands : (changes : List Change) (t : TrackFacts) → Stands first slot changes t
      → Stands first slot (changes ++ new_changes t.waits t.entered) (track_after_enter t)
  entered_stands changes t s = record {
    follows = λ in_event. follows_next changes t t.entered refl s;
    begins = λ none. let more = entered_more t.waits t in absurd (omega (arith, more, none));
  }
