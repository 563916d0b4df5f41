-- An advertiser that is left on begins an event in each interval.
use Rattle.std.proofs.Common.{◌≡◌, ℕ, zero, suc, ◌+◌, ◌-◌, ◌<◌, ◌≤◌, ◌%◌, true, false, Bool, Option, Some, None, [], ◌∷◌, ◌++◌, inl, inr, cond, refl, ap, sym, subst, ◌∙◌, arith}
use Rattle.std.specs.Prelude.{fold, nat_le, nat_lt, ◌&&◌, is_some}
use Rattle.std.specs.List.{list_any}
use Rattle.std.specs.Option.{option_map}
use Rattle.std.proofs.Math.Nat.{suc-mod, mod-eq_of_lt, mod-lt, mod-le, mod_self, zero-mod}
use Rattle.std.proofs.lemmas.Bool.{cases_lt, le-leb, lt-ltb}
use Rattle.std.proofs.lemmas.Bool.Decides.{nat_tests}
use Rattle.advertise.specs.Advertising.{AdvertiserFacts}
use Rattle.host_view.specs.Noted.{view_noted}
use Rattle.host_view.specs.scan_init.Windows.{slots_of}
use Rattle.slot_plan.specs.declared.Activity.{Activity}
use Rattle.slot_plan.specs.declared.Activity.TheVariants.{Advertise, Scan, Initiate}
use Rattle.slot_plan.specs.Holding.{is_held_in, winner_of}
use Rattle.slot_plan.specs.Winner.{first_activity}
use Rattle.link_commands.specs.open_links.OpenLinks.{Links}
use Rattle.link_commands.specs.open_links.Turns.{due_in, link_entered}
use Rattle.controller_model.specs.declared.doing.Doing.{Doing}
use Rattle.controller_model.specs.Facts.{Facts, Radio}
use Rattle.controller_model.specs.Links.{facts_ending}
use Rattle.controller_model.specs.Outcome.{facts_passed}
use Rattle.controller_model.specs.Radio.{advertiser_served, advertiser_wants, advertises_at, doing_held, facts_entering, fixing, initiates_on, initiator_channel, plan_in, radio_held, radio_served, scanner_channel, scans_on, served, served_if_on, turn_begins, want_if, wants_in}
use Rattle.controller_model.specs.Intervals.{IsLeftOn, doing_at, doing_between, facts_in_turn, place_within, scans_or, turns_from}
use Rattle.controller_model.proofs.Always.{ending_is, radio_shut, received_shut, start_keeps, view_shut}
use Rattle.controller_model.proofs.NoLinks.{AreNone, HasNone, none_end, none_enter, none_kept, none_map, none_stay}
use Rattle.controller_model.specs.Entering.{wants_from}

-- ---- places in an interval

-- a slot later it is one place later in its interval, or at the beginning of the next one
data Follows (interval place next : ℕ) : Type 0 where
  within : next ≡ suc place → suc place < interval → Follows interval place next
  anew : next ≡ 0 → suc place ≡ interval → Follows interval place next

follows : (interval slots : ℕ) → 3 ≤ interval → Follows interval (slots % interval) (suc slots % interval)
follows interval slots long =
    let step = suc-mod slots interval in
    let some : 0 < interval = omega arith in
    let below = mod-lt slots some in
    elim (cases_lt (suc (slots % interval)) interval) [
      | inl less ↦ within (step ∙ mod-eq_of_lt less) less
      | inr more ↦
          let whole : suc (slots % interval) ≡ interval = omega arith in
          anew (step ∙ ap (λ (n : ℕ). n % interval) whole ∙ mod_self interval) whole
    ]

-- ---- a turn without links

no_links : (links : Links) → list_any is_some links ≡ false → AreNone links
no_links [] none = tt
no_links (None ∷ links) none = no_links links none
no_links (Some link ∷ links) none = absurd (let h : true ≡ false = none in absurd cc)

no_wants : (slot first : ℕ) (links : Links) → AreNone links → wants_from slot first links ≡ []
no_wants slot first [] none = refl
no_wants slot first (None ∷ links) none = no_wants slot (first + 1) links none
no_wants slot first (Some link ∷ links) none = absurd none

nothing_ends : (slot : ℕ) (facts : Facts) → AreNone facts.links → facts_ending slot facts ≡ facts
nothing_ends slot facts none =
    ending_is slot facts
    ∙ (λ i. record facts {
      view = view_shut facts.view (none_end (due_in slot) 0 facts.links none i);
      radio = radio_shut facts.radio (none_end (due_in slot) 0 facts.links none i);
      links = none_stay (due_in slot) facts.links none i;
      received = received_shut facts.received (none_end (due_in slot) 0 facts.links none i);
    })

nothing_enters : (slot : ℕ) (facts : Facts) → AreNone facts.links → facts_entering slot facts ≡ facts
nothing_enters slot facts none = λ i. record facts {
  view = fold view_noted facts.view (none_enter facts.view slot 0 facts.links none i);
  links = none_map (option_map (link_entered slot)) refl facts.links none i;
}

-- what wants the radio beside links
abbrev wanting : (advertises scans initiates : Bool) → Option Activity
wanting advertises scans initiates = first_activity ((([] ++ want_if advertises Advertise) ++ want_if scans Scan) ++ want_if initiates Initiate)

abbrev first_wanting : ℕ → Facts → Option Activity
first_wanting slot facts =
    wanting (advertiser_wants slot facts.advertising.on) (is_some (scanner_channel slot facts.scanning.on))
    (is_some (initiator_channel slot facts.initiator))

only_others_want : (slot : ℕ) (facts : Facts) → AreNone facts.links → first_activity (wants_in slot facts) ≡ first_wanting slot facts
only_others_want slot facts none =
    λ i. first_activity (((no_wants slot 0 facts.links none i ++ want_if (advertiser_wants slot facts.advertising.on) Advertise)
    ++ want_if (is_some (scanner_channel slot facts.scanning.on)) Scan) ++ want_if (is_some (initiator_channel slot facts.initiator)) Initiate)

-- the first phase of a turn, with what has the radio in it
abbrev served_with : (held : Bool) → ℕ → Option Activity → Facts → Facts
served_with held slot winner facts = facts_passed (fixing (radio_served held slot (cond held None winner) facts))

quiet_turn : (slot : ℕ) (facts : Facts) → AreNone facts.links
    → facts_in_turn slot facts
    ≡ served_with (is_held_in facts.radio.hold slot) slot (first_wanting slot (turn_begins slot facts)) (turn_begins slot facts)
quiet_turn slot facts none =
    ap (λ (ended : Facts). facts_passed (fixing (served true slot (winner_of (plan_in slot (turn_begins slot ended)) slot) (facts_entering slot (turn_begins slot ended)))))
    (nothing_ends slot facts none)
    ∙ ap (λ (entering : Facts). facts_passed (fixing (served true slot (winner_of (plan_in slot (turn_begins slot facts)) slot) entering)))
    (nothing_enters slot (turn_begins slot facts) none)
    ∙ ap (λ (winner : Option Activity). served_with (is_held_in facts.radio.hold slot) slot winner (turn_begins slot facts))
    (only_others_want slot (turn_begins slot facts) none)

-- ---- the three cases

-- what is done, and what is left of advertiser and radio
record Turned (after : Facts) (doing : Doing) (advertiser : AdvertiserFacts) (radio : Radio) : Type 0 where
  doing_is : after.turn.doing ≡ doing
  on_is : after.advertising.on ≡ Some advertiser
  radio_is : after.radio ≡ radio

advertiser_first : (scans initiates : Bool) → wanting true scans initiates ≡ Some Advertise
advertiser_first true true = refl
advertiser_first true false = refl
advertiser_first false true = refl
advertiser_first false false = refl

-- an event begins
begins_with : (slot : ℕ) (facts : Facts) (on : AdvertiserFacts) → facts.advertising.on ≡ Some on
    → Turned (served_with false slot (Some Advertise) facts) (advertises_at 0 (Some on)) (advertiser_served slot on) (radio_held Advertise slot 3)
begins_with slot facts on is = record {
  doing_is = ap (advertises_at 0) is;
  on_is = ap (served_if_on slot) is;
  radio_is = refl;
}

event_begins : (slot : ℕ) (facts : Facts) (on : AdvertiserFacts) → AreNone facts.links → facts.advertising.on ≡ Some on
    → nat_le on.due slot ≡ true → is_held_in facts.radio.hold slot ≡ false
    → Turned (facts_in_turn slot facts) (advertises_at 0 (Some on)) (advertiser_served slot on) (radio_held Advertise slot 3)
event_begins slot facts on none is due free =
    let begun = turn_begins slot facts in
    let wins : first_wanting slot begun ≡ Some Advertise =
    (λ i. wanting (advertiser_wants slot (is i)) (is_some (scanner_channel slot facts.scanning.on)) (is_some (initiator_channel slot facts.initiator)))
    ∙ (λ i. wanting (due i) (is_some (scanner_channel slot facts.scanning.on)) (is_some (initiator_channel slot facts.initiator)))
    ∙ advertiser_first (is_some (scanner_channel slot facts.scanning.on)) (is_some (initiator_channel slot facts.initiator)) in
    let turn : facts_in_turn slot facts ≡ served_with false slot (Some Advertise) begun =
    quiet_turn slot facts none ∙ (λ i. served_with (free i) slot (wins i) begun) in
    subst (λ (after : Facts). Turned after (advertises_at 0 (Some on)) (advertiser_served slot on) (radio_held Advertise slot 3)) (sym turn)
    (begins_with slot begun on is)

-- an event goes on
goes_with : (slot from : ℕ) (winner : Option Activity) (facts : Facts) (on : AdvertiserFacts) → facts.advertising.on ≡ Some on
    → facts.radio ≡ radio_held Advertise from 3
    → Turned (served_with true slot winner facts) (advertises_at (slot - from) (Some on)) on (radio_held Advertise from 3)
goes_with slot from winner facts on is radio = record {
  doing_is = (λ i. doing_held slot (radio i).holder (record facts { radio = radio i })) ∙ (λ i. advertises_at (slot - from) (is i));
  on_is = is;
  radio_is = radio;
}

event_goes_on : (slot from : ℕ) (facts : Facts) (on : AdvertiserFacts) → AreNone facts.links → facts.advertising.on ≡ Some on
    → facts.radio ≡ radio_held Advertise from 3 → is_held_in facts.radio.hold slot ≡ true
    → Turned (facts_in_turn slot facts) (advertises_at (slot - from) (Some on)) on (radio_held Advertise from 3)
event_goes_on slot from facts on none is radio held =
    let begun = turn_begins slot facts in
    let turn : facts_in_turn slot facts ≡ served_with true slot (first_wanting slot begun) begun =
    quiet_turn slot facts none ∙ (λ i. served_with (held i) slot (first_wanting slot begun) begun) in
    subst (λ (after : Facts). Turned after (advertises_at (slot - from) (Some on)) on (radio_held Advertise from 3)) (sym turn)
    (goes_with slot from (first_wanting slot begun) begun on is radio)

-- between events
others_with : (scanning initiating : Option ℕ) (slot : ℕ) (facts : Facts) (on : AdvertiserFacts) (radio : Radio)
    → facts.advertising.on ≡ Some on → facts.radio ≡ radio → scanner_channel slot facts.scanning.on ≡ scanning
    → initiator_channel slot facts.initiator ≡ initiating
    → Turned (served_with false slot (wanting false (is_some scanning) (is_some initiating)) facts) (scans_or scanning initiating) on radio
others_with (Some channel) (Some other) slot facts on radio is same scans initiates =
    record { doing_is = ap scans_on scans; on_is = is; radio_is = same }
others_with (Some channel) None slot facts on radio is same scans initiates =
    record { doing_is = ap scans_on scans; on_is = is; radio_is = same }
others_with None (Some channel) slot facts on radio is same scans initiates =
    record { doing_is = ap initiates_on initiates; on_is = is; radio_is = same }
others_with None None slot facts on radio is same scans initiates = record { doing_is = refl; on_is = is; radio_is = same }

others_have_it : (slot : ℕ) (facts : Facts) (on : AdvertiserFacts) (radio : Radio) → AreNone facts.links → facts.advertising.on ≡ Some on
    → facts.radio ≡ radio → nat_le on.due slot ≡ false → is_held_in facts.radio.hold slot ≡ false
    → Turned (facts_in_turn slot facts) (doing_between slot facts) on radio
others_have_it slot facts on radio none is same due free =
    let begun = turn_begins slot facts in
    let scanning = scanner_channel slot facts.scanning.on in
    let initiating = initiator_channel slot facts.initiator in
    let wins : first_wanting slot begun ≡ wanting false (is_some scanning) (is_some initiating) =
    (λ i. wanting (advertiser_wants slot (is i)) (is_some scanning) (is_some initiating))
    ∙ (λ i. wanting (due i) (is_some scanning) (is_some initiating)) in
    let turn : facts_in_turn slot facts ≡ served_with false slot (wanting false (is_some scanning) (is_some initiating)) begun =
    quiet_turn slot facts none ∙ (λ i. served_with (free i) slot (wins i) begun) in
    subst (λ (after : Facts). Turned after (doing_between slot facts) on radio) (sym turn)
    (others_with scanning initiating slot begun on radio is same refl refl)

-- ---- turn after turn

-- the slot in which the event began that is the last one this number of slots after the start
abbrev began : ℕ → ℕ → ℕ → ℕ
began interval start slots = start + (slots - slots % interval)

abbrev left_on : AdvertiserFacts → ℕ → ℕ → AdvertiserFacts
left_on advertiser interval slot = record advertiser { due = slot + interval }

held_from : (from slot : ℕ) → from ≤ slot → slot < from + 3 → (nat_le from slot && nat_lt slot (from + 3)) ≡ true
held_from from slot low high = rw (le-leb from slot low, lt-ltb slot (from + 3) high) refl

free_from_on : (from slot : ℕ) → from + 3 ≤ slot → (nat_le from slot && nat_lt slot (from + 3)) ≡ false
free_from_on from slot after = grind (arith, nat_tests)

at_place : (place : ℕ) (on : AdvertiserFacts) (otherwise : Doing) → place < 3
    → advertises_at place (Some on) ≡ doing_at otherwise on.params.channels (cond (nat_lt place 3) (Some place) None)
at_place place on otherwise early = rw (lt-ltb place 3 early) refl

between_events : (place channels : ℕ) (otherwise : Doing) → 3 ≤ place
    → otherwise ≡ doing_at otherwise channels (cond (nat_lt place 3) (Some place) None)
between_events place channels otherwise late =
    let past : nat_lt place 3 ≡ false = grind (arith, nat_tests) in
    rw past refl

turned_as : (after : Facts) (one other : Doing) (a b : AdvertiserFacts) (radio same : Radio) → Turned after one a radio → one ≡ other → a ≡ b
    → radio ≡ same → Turned after other b same
turned_as after one other a b radio same turned doing advertiser radio_is = record {
  doing_is = turned.doing_is ∙ doing;
  on_is = turned.on_is ∙ ap Some advertiser;
  radio_is = turned.radio_is ∙ radio_is;
}

module _ (start : ℕ) (advertiser : AdvertiserFacts) (turns : ℕ → Facts) (is : IsLeftOn start advertiser turns)
    (long : 3 ≤ slots_of advertiser.params.interval) where
  abbrev interval : ℕ
  interval = slots_of advertiser.params.interval

  abbrev IsTurn : ℕ → Type 0
  IsTurn n =
      Turned (facts_in_turn (start + n) (turns n))
      (doing_at (doing_between (start + n) (turns n)) advertiser.params.channels (place_within interval n))
      (left_on advertiser interval (began interval start n)) (radio_held Advertise (began interval start n) 3)

  first_turn : IsTurn 0
  first_turn =
      let none = no_links (turns 0).links (is.no_link 0) in
      let zero_place = zero-mod interval in
      let same : start ≡ start + 0 = omega arith in
      let same_began : start ≡ began interval start 0 = omega arith in
      let due : nat_le advertiser.due (start + 0) ≡ true = le-leb advertiser.due (start + 0) (omega (arith, is.due)) in
      let free : is_held_in (turns 0).radio.hold (start + 0) ≡ false = ap (is_held_in (turns 0).radio.hold) (sym same) ∙ is.free in
      turned_as (facts_in_turn (start + 0) (turns 0)) _ _ _ _ _ _
      (event_begins (start + 0) (turns 0) advertiser none is.first due free)
      (at_place 0 advertiser (doing_between (start + 0) (turns 0)) (omega arith)
      ∙ ap (λ (place : ℕ). doing_at (doing_between (start + 0) (turns 0)) advertiser.params.channels (cond (nat_lt place 3) (Some place) None)) (sym zero_place))
      (ap (left_on advertiser interval) (sym same ∙ same_began))
      (ap (λ (slot : ℕ). radio_held Advertise slot 3) (sym same ∙ same_began))

  -- the next slot, in the same interval
  same_interval : (n : ℕ) → IsTurn n → suc n % interval ≡ suc (n % interval) → suc (n % interval) < interval → IsTurn (suc n)
  same_interval n before next less =
      let place = n % interval in
      let slot = start + suc n in
      let facts = turns (suc n) in
      let from = began interval start n in
      let on = left_on advertiser interval from in
      let none = no_links facts.links (is.no_link (suc n)) in
      let on_is : facts.advertising.on ≡ Some on = is.stays_on n ∙ before.on_is in
      let radio_is : facts.radio ≡ radio_held Advertise from 3 = is.radio_stays n ∙ before.radio_is in
      let low = mod-le n interval in
      let from_still : from ≡ began interval start (suc n) = omega (arith, next, low) in
      let distance : slot - from ≡ suc place = omega (arith, low) in
      elim (cases_lt (suc place) 3) [
        | inl early ↦
            let held : is_held_in facts.radio.hold slot ≡ true =
            ap (λ (radio : Radio). is_held_in radio.hold slot) radio_is ∙ held_from from slot (omega (arith, low)) (omega (arith, low, early)) in
            turned_as (facts_in_turn slot facts) _ _ _ _ _ _
            (event_goes_on slot from facts on none on_is radio_is held)
            (ap (λ (gone : ℕ). advertises_at gone (Some on)) distance
            ∙ at_place (suc place) on (doing_between slot facts) early
            ∙ ap (λ (gone : ℕ). doing_at (doing_between slot facts) advertiser.params.channels (cond (nat_lt gone 3) (Some gone) None)) (sym next))
            (ap (left_on advertiser interval) from_still)
            (ap (λ (slot : ℕ). radio_held Advertise slot 3) from_still)
        | inr late ↦
            let free : is_held_in facts.radio.hold slot ≡ false =
            ap (λ (radio : Radio). is_held_in radio.hold slot) radio_is ∙ free_from_on from slot (omega (arith, low, late)) in
            let due : nat_le on.due slot ≡ false = (let later : slot < on.due = omega (arith, low, less) in grind (arith, nat_tests)) in
            turned_as (facts_in_turn slot facts) _ _ _ _ _ _
            (others_have_it slot facts on (radio_held Advertise from 3) none on_is radio_is due free)
            (between_events (suc place) advertiser.params.channels (doing_between slot facts) late
            ∙ ap (λ (gone : ℕ). doing_at (doing_between slot facts) advertiser.params.channels (cond (nat_lt gone 3) (Some gone) None)) (sym next))
            (ap (left_on advertiser interval) from_still)
            (ap (λ (slot : ℕ). radio_held Advertise slot 3) from_still)
      ]

  -- and in the next one
  next_interval : (n : ℕ) → IsTurn n → suc n % interval ≡ 0 → suc (n % interval) ≡ interval → IsTurn (suc n)
  next_interval n before next whole =
      let slot = start + suc n in
      let facts = turns (suc n) in
      let from = began interval start n in
      let on = left_on advertiser interval from in
      let none = no_links facts.links (is.no_link (suc n)) in
      let on_is : facts.advertising.on ≡ Some on = is.stays_on n ∙ before.on_is in
      let radio_is : facts.radio ≡ radio_held Advertise from 3 = is.radio_stays n ∙ before.radio_is in
      let low = mod-le n interval in
      let began_now : slot ≡ began interval start (suc n) = omega (arith, next) in
      let free : is_held_in facts.radio.hold slot ≡ false =
      ap (λ (radio : Radio). is_held_in radio.hold slot) radio_is ∙ free_from_on from slot (omega (arith, low, whole)) in
      let due : nat_le on.due slot ≡ true = le-leb on.due slot (omega (arith, low, whole)) in
      turned_as (facts_in_turn slot facts) _ _ _ _ _ _
      (event_begins slot facts on none on_is due free)
      (at_place 0 on (doing_between slot facts) (omega arith)
      ∙ ap (λ (gone : ℕ). doing_at (doing_between slot facts) advertiser.params.channels (cond (nat_lt gone 3) (Some gone) None)) (sym next))
      (ap (left_on advertiser interval) began_now)
      (ap (λ (slot : ℕ). radio_held Advertise slot 3) began_now)

  next_turn : (n : ℕ) → IsTurn n → Follows interval (n % interval) (suc n % interval) → IsTurn (suc n)
  next_turn n before (within next less) = same_interval n before next less
  next_turn n before (anew next whole) = next_interval n before next whole

  each_turn : (n : ℕ) → IsTurn n
  each_turn zero = first_turn
  each_turn (suc n) = next_turn n (each_turn n) (follows interval n long)

pub keeps_interval : (start : ℕ) (advertiser : AdvertiserFacts) (turns : ℕ → Facts) → IsLeftOn start advertiser turns
    → 3 ≤ slots_of advertiser.params.interval → (n : ℕ)
    → (facts_in_turn (start + n) (turns n)).turn.doing
    ≡ doing_at (doing_between (start + n) (turns n)) advertiser.params.channels (place_within (slots_of advertiser.params.interval) n)
keeps_interval start advertiser turns is long n = (each_turn start advertiser turns is long n).doing_is

-- ---- turns with nothing between them

nothing_open : (links : Links) → AreNone links → list_any is_some links ≡ false
nothing_open [] none = refl
nothing_open (None ∷ links) none = nothing_open links none
nothing_open (Some link ∷ links) none = absurd none

turns_none : (start : ℕ) (facts : Facts) (n : ℕ) → HasNone facts → HasNone (turns_from start facts n)
turns_none start facts zero none = none
turns_none start facts (suc n) none =
    start_keeps HasNone HasNone none_kept (start + n) true (turns_from start facts n) (turns_none start facts n none)

pub left_alone : (start : ℕ) (advertiser : AdvertiserFacts) (facts : Facts) → list_any is_some facts.links ≡ false
    → facts.advertising.on ≡ Some advertiser → advertiser.due ≤ start → is_held_in facts.radio.hold start ≡ false
    → IsLeftOn start advertiser (turns_from start facts)
left_alone start advertiser facts none on due free = record {
  no_link = λ n. nothing_open (turns_from start facts n).links (turns_none start facts n (no_links facts.links none));
  first = on;
  due = due;
  free = free;
  stays_on = λ n. refl;
  radio_stays = λ n. refl;
}
