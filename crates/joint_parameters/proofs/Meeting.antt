-- What holds of both tracks at any time of a joint run, and why each step keeps it.
use Rattle.std.proofs.Common.{◌≡◌, ◌⊎◌, inl, inr, ℕ, ◌+◌, ◌<◌, ◌≤◌, nat_lt, Bool, true, false, if◌then◌else◌, List, [], ◌∷◌, ◌++◌, Option, Some, None, IfSome, option_map, option_to_list, refl, sym, ap, subst, ◌∙◌, arith}
use Rattle.std.specs.List.{All}
use Rattle.std.proofs.lemmas.List.Elements.{All-weaker}
use Rattle.instants.specs.declared.indications.Params.{Params}
use Rattle.instants.specs.declared.indications.Indication.{Indication}
use Rattle.instants.specs.declared.track.Change.{Change}
use Rattle.instants.specs.Track.{TrackFacts, event_of, gap_ahead, track_after_enter, track_after_take}
use Rattle.two_tracks.specs.TwoEnds.{change_of, has_passed}
use Rattle.two_tracks.proofs.Anchors.{count_as_entered}
use Rattle.two_tracks.proofs.Gaps.{IsNamed, gap_to, named_as_sent, not_passed, passed}
use Rattle.two_tracks.proofs.Meeting.{same_change}
use Rattle.joint_controls.specs.Joint.{Item, OnAir, Way, is_indication, is_item, item_on_air, last_change}
use Rattle.joint_parameters.specs.Indications.{indication_of_item, indication_read}
use Rattle.joint_parameters.specs.Views.{View, change_on_air}
use Rattle.joint_parameters.proofs.Tracks.{HasTaken, free_if_over, taken_entered, taken_more}

-- ---- what is known of each end, whatever becomes of the other

pub record Known (first : Params) (slot : ℕ) (taken : List Change) (v : View) : Type 0 where
  pub central : HasTaken first slot v.sent v.central
  pub peripheral : HasTaken first slot taken v.peripheral
  -- the peripheral has taken all but at most the last
  pub last : Option Change
  pub all : v.sent ≡ taken ++ option_to_list last

-- ---- what is known of the indication on its way

pub record IsComing (taken : List Change) (c : TrackFacts) (change : Change) : Type 0 where
  pub named : IsNamed change
  pub started : 1 ≤ change.at.0
  pub near : change.at.0 < event_of c + 32767
  -- the events of all before it are over at the central, and before its own
  pub over : All (λ other. other.at.0 < event_of c) taken
  pub before : All (λ other. other.at.0 < change.at.0) taken

-- while the run goes on, with this indication on its way
pub record MeetsBy (taken : List Change) (v : View) (change : Option Change) : Type 0 where
  pub all : v.sent ≡ taken ++ option_to_list change
  pub coming : IfSome change (IsComing taken v.central)
  -- it is what the peripheral will read
  pub read : indication_read (item_on_air v.down) ≡ option_map (λ c. c.indication) change

abbrev pub Meets : List Change → View → Type 0
Meets taken v = MeetsBy taken v (change_on_air v)

pub air_if : (b test : Bool) (change : Option Change) → b ≡ test → (if b then change else None) ≡ (if test then change else None)
air_if b test change is = ap (λ (c : Bool). if c then change else None) is

module _ (first : Params) (slot : ℕ) (taken : List Change) (v : View) where
  -- ---- an end enters its next event

  event_later : (t : TrackFacts) → event_of t ≤ event_of (track_after_enter t)
  event_later t = let more = count_as_entered t in omega (arith, more)

  coming_later : (change : Option Change) → IfSome change (IsComing taken v.central) → IfSome change (IsComing taken (track_after_enter v.central))
  coming_later None is = tt
  coming_later (Some change) is =
      let later = event_later v.central in
      record {
        named = is.named;
        started = is.started;
        near = omega (arith, is.near, later);
        over =
            All-weaker (λ (other : Change). other.at.0 < event_of v.central) (λ (other : Change). other.at.0 < event_of (track_after_enter v.central))
            (λ other less. omega (arith, less, later)) taken is.over;
        before = is.before;
      }

  pub central_enters : Known first slot taken v → Known first slot taken (record v { central = track_after_enter v.central })
  central_enters k =
      record { central = taken_entered first slot v.sent v.central k.central; peripheral = k.peripheral; last = k.last; all = k.all }

  pub central_enters_on : Meets taken v → Meets taken (record v { central = track_after_enter v.central })
  central_enters_on m = record { all = m.all; coming = coming_later (change_on_air v) m.coming; read = m.read }

  pub peripheral_enters : Known first slot taken v → Known first slot taken (record v { peripheral = track_after_enter v.peripheral })
  peripheral_enters k =
      record { central = k.central; peripheral = taken_entered first slot taken v.peripheral k.peripheral; last = k.last; all = k.all }

  pub peripheral_enters_on : Meets taken v → Meets taken (record v { peripheral = track_after_enter v.peripheral })
  peripheral_enters_on m = record { all = m.all; coming = m.coming; read = m.read }

  -- ---- the way of the central changes, and no indication is on it before or then

  pub same_known : (way : Way) → Known first slot taken v → Known first slot taken (record v { down = way })
  same_known way k = record { central = k.central; peripheral = k.peripheral; last = k.last; all = k.all }

  pub none_on_air : (way : Way) → change_on_air v ≡ None → is_item is_indication (item_on_air way) ≡ false → indication_read (item_on_air way) ≡ None
      → Meets taken v → Meets taken (record v { down = way })
  none_on_air way none is reads m =
      let all : v.sent ≡ taken ++ [] = rw none at m.all in
      subst (MeetsBy taken (record v { down = way })) (sym (air_if (is_item is_indication (item_on_air way)) false (last_change v.sent) is))
      (record { all = all; coming = tt; read = reads })

pub last_of_more : (changes : List Change) (change : Change) → last_change (changes ++ change ∷ []) ≡ Some change
last_of_more [] change = refl
last_of_more (one ∷ []) change = refl
last_of_more (one ∷ two ∷ more) change = last_of_more (two ∷ more) change

-- ---- the central sends an indication

module _ (first : Params) (slot : ℕ) (taken : List Change) (v : View) (indication : Indication) (item : Item) (sealed : Bool) where
  abbrev new : Change
  new = change_of (event_of v.central) indication

  abbrev pub with_indication : View
  with_indication =
      record v { down = OnAir item sealed; sent = v.sent ++ change_of (event_of v.central) indication ∷ []; central = track_after_take v.central indication }

  module _ (all : v.sent ≡ taken) (over : All (λ (change : Change). change.at.0 < event_of v.central) v.sent)
      (ahead : 1 ≤ gap_ahead (event_of v.central) indication) where
    pub sends_known : Known first slot taken v → Known first slot taken with_indication
    sends_known k =
        let free = free_if_over first slot v.sent v.central k.central over in
        record {
          central = taken_more first slot v.sent v.central indication new free refl (omega (arith, ahead)) k.central;
          peripheral = k.peripheral;
          last = Some new;
          all = ap (λ (xs : List Change). xs ++ new ∷ []) all;
        }

    pub sends_meets : gap_ahead (event_of v.central) indication < 32767 → is_indication item ≡ true → indication_of_item item ≡ Some indication
        → Meets taken with_indication
    sends_meets near is reads =
        let over_taken : All (λ (change : Change). change.at.0 < event_of v.central) taken =
        subst (All (λ (change : Change). change.at.0 < event_of v.central)) all over in
        let air : change_on_air with_indication ≡ Some new =
        air_if (is_indication item) true (last_change (v.sent ++ new ∷ [])) is ∙ last_of_more v.sent new in
        subst (MeetsBy taken with_indication) (sym air) (record {
          all = ap (λ (xs : List Change). xs ++ new ∷ []) all;
          coming = record {
            named = named_as_sent (event_of v.central) indication;
            started = omega (arith, ahead);
            near = omega (arith, near);
            over = over_taken;
            before =
                All-weaker (λ (other : Change). other.at.0 < event_of v.central) (λ (other : Change). other.at.0 < new.at.0)
                (λ other less. omega (arith, less, ahead)) taken over_taken;
          };
          read = reads;
        })

-- ---- the peripheral takes what is on its way

-- both ends are in events of one number, or the peripheral has passed the instant; and not by too much
pub record MayTake (c p : TrackFacts) (change : Change) : Type 0 where
  pub meets : (event_of c ≡ event_of p) ⊎ (change.at.0 < event_of p)
  pub near : event_of p < change.at.0 + 32769

module _ (taken : List Change) (c p : TrackFacts) (change : Change) (coming : IsComing taken c change) (may : MayTake c p change) where
  -- the events of all that it took are over
  pub all_over : All (λ (other : Change). other.at.0 < event_of p) taken
  all_over = by may.meets
    where
      by : (event_of c ≡ event_of p) ⊎ (change.at.0 < event_of p) → All (λ (other : Change). other.at.0 < event_of p) taken
      by (inl same) =
          All-weaker (λ (other : Change). other.at.0 < event_of c) (λ (other : Change). other.at.0 < event_of p)
          (λ other less. omega (arith, less, same)) taken coming.over
      by (inr late) =
          All-weaker (λ (other : Change). other.at.0 < change.at.0) (λ (other : Change). other.at.0 < event_of p)
          (λ other less. omega (arith, less, late)) taken coming.before

  -- an instant that is not over
  in_reach : event_of p ≤ change.at.0 → change.at.0 < event_of p + 32767
  in_reach ahead = by may.meets
    where
      by : (event_of c ≡ event_of p) ⊎ (change.at.0 < event_of p) → change.at.0 < event_of p + 32767
      by (inl same) = omega (arith, coming.near, same)
      by (inr late) = absurd (omega (arith, late, ahead))

  -- sixteen bits tell whether it has passed
  pub test : has_passed p change ≡ nat_lt change.at.0 (event_of p)
  test = by (nat_lt change.at.0 (event_of p)) refl
    where
      by : (late : Bool) → nat_lt change.at.0 (event_of p) ≡ late → has_passed p change ≡ late
      by true is = let over : change.at.0 < event_of p = grind arith in passed p change coming.named over may.near
      by false is = let ahead : event_of p ≤ change.at.0 = grind arith in not_passed p change coming.named ahead (in_reach ahead)

  -- and name the event of the central's
  pub same : nat_lt change.at.0 (event_of p) ≡ false → change_of (event_of p) change.indication ≡ change
  same is =
      let ahead : event_of p ≤ change.at.0 = grind arith in
      let near = in_reach ahead in
      same_change (event_of p) change (gap_to (event_of p) change coming.named ahead (omega (arith, near)))
