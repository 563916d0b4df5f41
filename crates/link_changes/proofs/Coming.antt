-- The indication that comes into force as an event is entered, and the anchor and the channel of that event.
use Rattle.std.proofs.Common.{◌≡◌, ◌⊎◌, inl, inr, ℕ, zero, suc, ◌+◌, ◌<◌, ◌≤◌, Bool, true, false, List, [], ◌∷◌, ◌++◌, length, Option, Some, None, IfSome, slice_get, refl, sym, ap, subst, ◌∙◌, arith, if◌then◌else◌}
use Rattle.ble_base.specs.declared.notes.Note.{Note}
use Rattle.ble_base.specs.declared.roles.Role.{Role}
use Rattle.instants.specs.Arrivals.{Taking}
use Rattle.instants.specs.Follows.{Follows}
use Rattle.instants.specs.Track.{TrackFacts, event_of, is_due, next_number, track_in_next}
use Rattle.instants.specs.declared.indications.Params.{Params}
use Rattle.instants.specs.declared.track.Change.{Change}
use Rattle.link_changes.specs.InForce.{ComesIntoForce}
use Rattle.link_changes.specs.Noted.{applied_noted, changes_noted, takings_noted}
use Rattle.link_changes.proofs.Knowing.{Knows, changes_in, changes_are, length_map}
use Rattle.link_changes.proofs.Standing.{Stands, entered_more}

-- ---- what comes into force

pub record Comes (role : Role) (notes : List Note) (number event : ℕ) : Type 0 where
  pub next : number ≡ applied_noted notes + 1
  pub taking : Taking
  pub is_next : slice_get (takings_noted role notes) (applied_noted notes) ≡ Some taking
  pub in_time : ComesIntoForce event taking

at_end : (takings : List Taking) (taking : Taking) → slice_get (takings ++ taking ∷ []) (length takings) ≡ Some taking
at_end [] taking = refl
at_end (first ∷ takings) taking = at_end takings taking

next_or_last : (at event : ℕ) → at ≤ suc event → event ≤ at → (at ≡ suc event) ⊎ (at ≡ event)
next_or_last at event h k = grind arith

pub entered_event : (waits : Option Change) (t : TrackFacts) → event_of (track_in_next waits t) ≡ t.entered
entered_event waits t = let more = entered_more waits t in omega (arith, more)

module _ (role : Role) (first : Params) (slot : ℕ) where
  stands_number : (changes : List Change) (t : TrackFacts) (entered : ℕ) → t.entered ≡ entered → Stands first slot changes t → t.applied ≡ length changes
  stands_number changes t zero is s =
      let begins = s.begins is in ap (λ (t : TrackFacts). t.applied) begins.1 ∙ ap (λ (all : List Change). length all) (sym begins.0)
  stands_number changes t (suc event) is s = (s.follows (omega (arith, is))).number

  at_instant : (taken at event : ℕ) → (taken < event → event < at) → taken ≤ event → (at ≡ suc event) ⊎ (at ≡ event) → (suc event ≡ at) ⊎ ((suc event ≡ at + 1) × (taken ≡ at))
  at_instant taken at event ahead early (inl is) = inl (sym is)
  at_instant taken at event ahead early (inr is) = inr (omega (arith, is), last taken at event ahead early is)
    where
      last : (taken at event : ℕ) → (taken < event → event < at) → taken ≤ event → at ≡ event → taken ≡ at
      last taken at event ahead early is = grind arith

  time_by : (changes : List Change) (t : TrackFacts) (change : Change) (taken entered : ℕ) → t.entered ≡ entered → t.waits ≡ Some change → is_due change t.entered ≡ true
      → Stands first slot changes t → taken ≤ event_of t → (taken < event_of t → event_of t < change.at.0)
      → (t.entered ≡ change.at.0) ⊎ ((t.entered ≡ change.at.0 + 1) × (taken ≡ change.at.0))
  time_by changes t change taken zero is waits due s early ahead = inl (grind arith)
  time_by changes t change taken (suc event) is waits due s early ahead =
      let last : event_of t ≡ event = omega (arith, is) in
      let past : IfSome (Some change) (λ (change : Change). event_of t ≤ change.at.0) =
      subst (λ (waits : Option Change). IfSome waits (λ (change : Change). event_of t ≤ change.at.0)) waits (s.follows (omega (arith, is))).ahead in
      let up : change.at.0 ≤ suc event = grind arith in
      rw is
      (at_instant taken change.at.0 event (rw last at ahead) (omega (arith, last, early))
      (next_or_last change.at.0 event up (omega (arith, last, past))))

  comes_by : (notes : List Note) (t : TrackFacts) (waits : Option Change) (number : ℕ) (k : Knows role first slot notes true (record t { waits = waits }))
      → next_number (record t { waits = waits }) ≡ Some number → Comes role notes number t.entered
  comes_by notes t None number k is = absurd (cc)
  comes_by notes t (Some change) number k is = by (is_due change t.entered) refl is
    where
      by : (due : Bool) → is_due change t.entered ≡ due → (if due then Some (t.applied + 1) else None) ≡ Some number → Comes role notes number t.entered
      by false due is = absurd (cc)
      by true due is =
          let w = k.waits refl in
          let count = k.count in
          let len = length_map k.holding in
          let applied = stands_number (changes_in k.holding) (record t { waits = Some change }) t.entered refl k.stands in
          let same : t.applied + 1 ≡ number = cc in record {
            next = omega (arith, count, len, applied, same);
            taking = w.taking;
            is_next = (λ i. slice_get (k.are i) (count i)) ∙ ap (λ (rest : List Taking). slice_get (k.holding ++ rest) (length k.holding)) w.is_rest
                ∙ at_end k.holding w.taking;
            in_time = subst (λ (c : Change). (t.entered ≡ c.at.0) ⊎ ((t.entered ≡ c.at.0 + 1) × (w.taking.taken_in ≡ c.at.0))) (sym w.is_change)
                (time_by (changes_in k.holding) (record t { waits = Some change }) change w.taking.taken_in t.entered refl refl due k.stands w.early w.ahead);
          }

  pub comes : (notes : List Note) (t : TrackFacts) (number : ℕ) → Knows role first slot notes true t → next_number t ≡ Some number → Comes role notes number t.entered
  comes notes t number k is = comes_by notes t t.waits number k is

  -- ---- the event that is entered

  pub follows_now : (notes : List Note) (lasts : Bool) (t : TrackFacts) → Knows role first slot notes lasts t → 1 ≤ t.entered → Follows first slot (changes_noted role notes) t
  follows_now notes lasts t k in_event =
      subst (λ (all : List Change). Follows first slot all t) (sym (changes_are role first slot notes lasts t k)) (k.stands.follows in_event)
