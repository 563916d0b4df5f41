-- Events and Instants of a joint run: an event is entered, an indication is sent or taken.
use Rattle.std.proofs.Common.{◌≡◌, ◌≢◌, ◌⊎◌, inl, inr, ℕ, ◌+◌, ◌-◌, ◌%◌, ◌^◌, ◌<◌, ◌≤◌, ◌==◌, nat_le, Bool, true, false, not, ◌&&◌, ◌||◌, if◌then◌else◌, Option, Some, None, is_none, is_some, refl, sym, ap, subst, ◌∙◌, arith, eq-eqb, eqb-true, leb-true, leb-false, le-leb}
use Rattle.ble_base.specs.Instant.{gap_of}
use Rattle.exclusive_stages.specs.declared.pdus.Reason.{Reason}
use Rattle.exclusive_stages.specs.declared.pdus.Pdu.{Pdu}
use Rattle.exclusive_stages.specs.Pdus.{is_held_back, is_timed}
use Rattle.collisions.specs.declared.peripheral.Peripheral.{Peripheral}
use Rattle.collisions.specs.declared.events.Event.TheVariants.{PeripheralTakes}
use Rattle.collisions.specs.declared.events.Place.{Place}
use Rattle.collisions.specs.declared.events.Place.TheVariants.{After, At, Before, LateAt, LateBefore}
use Rattle.collisions.specs.declared.joint.End.{End}
use Rattle.collisions.specs.declared.joint.End.TheVariants.{Collided, Open}
use Rattle.collisions.specs.declared.joint.Way.{Way}
use Rattle.collisions.specs.declared.joint.Way.TheVariants.{Clear, OnAir, Taken}
use Rattle.collisions.specs.CentralTable
use Rattle.collisions.specs.PeripheralTable
use Rattle.collisions.specs.JointRun.{is_after, is_applying, is_empty, is_pdu, is_taken, pdu_on_air, place_after}
use Rattle.collisions.specs.Agreement.{is_lagging}
use Rattle.collisions.specs.Numbers.{Numbered, central_enters, central_sends, event_of, is_next_timed, last_instant, makes, may_move, move, peripheral_enters, place_by, place_in}
use Rattle.collisions.proofs.Gaps.{gap_ahead, gap_passed}
use Rattle.collisions.proofs.CollisionEvents.{coded, is_coded}
use Rattle.collisions.proofs.CollisionStates.{states}
use Rattle.collisions.proofs.CollisionsClosed.{all_closed}
use Rattle.collisions.proofs.Lifting.{moves}
use Rattle.machines.proofs.Closing.{right_is}
use Rattle.collisions.proofs.Numbers.{FitsPeripheral, passed_is}
use Rattle.joint_collisions.specs.Views.{IsReached, View, numbered_of}
use Rattle.joint_collisions.proofs.Reaching.{InTime, IsAtCentral, IsAtPeripheral, IsFar, Seen, moved_on, never, now_of, sound_of}

-- ---- an event is entered

-- what waits holds from the next event on
abbrev pub is_due_at : Option ℕ → ℕ → Bool
is_due_at None next = false
is_due_at (Some at) next = nat_le at next

abbrev pub waits_after : Option ℕ → ℕ → Option ℕ
waits_after waits next = if is_due_at waits next then None else waits

-- the central enters the event of an Instant exactly where its indication is due
due_is : (waits : Option ℕ) (event over : ℕ) → IsAtCentral waits event over → (event + 2 == over) ≡ is_due_at waits (event + 1)
due_is None event over is = by (event + 2 == over) refl
  where
    by : (b : Bool) → (event + 2 == over) ≡ b → b ≡ false
    by true e = let eq = eqb-true (event + 2) over e in absurd (omega (arith, is, eq))
    by false e = refl
due_is (Some at) event over is = by (nat_le at (event + 1)) refl
  where
    by : (b : Bool) → nat_le at (event + 1) ≡ b → (event + 2 == over) ≡ b
    by true e = let le = leb-true at (event + 1) e in eq-eqb (event + 2) over (omega (arith, is.0, is.1, le))
    by false e =
        let gt : event + 1 < at = leb-false at (event + 1) e in
        other (event + 2 == over) refl gt
      where
        other : (b : Bool) → (event + 2 == over) ≡ b → event + 1 < at → b ≡ false
        other true e gt = let eq = eqb-true (event + 2) over e in absurd (omega (arith, is.0, gt, eq))
        other false e gt = refl

waits_on : (waits : Option ℕ) (event over : ℕ) → IsAtCentral waits event over → IsAtCentral (waits_after waits (event + 1)) (event + 1) over
waits_on None event over is = omega (arith, is)
waits_on (Some at) event over is = by (nat_le at (event + 1)) refl
  where
    by : (b : Bool) → nat_le at (event + 1) ≡ b → IsAtCentral (if b then None else Some at) (event + 1) over
    by true e = let le = leb-true at (event + 1) e in omega (arith, is.0, is.1, le)
    by false e = let gt : event + 1 < at = leb-false at (event + 1) e in (is.0, omega (arith, gt))

module _ (v : View) (s : Seen v) where
  abbrev pub central_entered : View
  central_entered =
      record v {
        central = CentralTable.entered (is_due_at v.central_waits (v.central_event + 1)) v.central;
        central_event = v.central_event + 1;
        central_waits = waits_after v.central_waits (v.central_event + 1);
      }

  pub enters_central : Seen central_entered
  enters_central =
      record {
        reached =
            moved_on v s.reached central_enters central_entered (place_after (v.central_event + 2 == v.passed_from) s.reached.central_at) s.reached.peripheral_at
            s.reached.earlier refl (rw (due_is v.central_waits v.central_event v.passed_from s.central_waits) refl);
        central_waits = waits_on v.central_waits v.central_event v.passed_from s.central_waits;
        peripheral_waits = s.peripheral_waits;
        far = s.far;
        far_earlier = s.far_earlier;
      }

-- the peripheral applies what waits as it is due
abbrev is_event_at : ℕ → ℕ → ℕ → Bool
is_event_at event over older = (event + 2 == over) || (event + 2 == older)

record Applies (at : ℕ) (place : Place) (event over older : ℕ) : Type 0 where
  due : is_applying (is_event_at event over older) place ≡ nat_le at (event + 1)
  next : IsAtPeripheral (waits_after (Some at) (event + 1)) (place_after (is_event_at event over older) place) over older

module _ (at event over older c : ℕ) where
  -- the event of the Instant comes next, or does not
  comes_next : (instant : ℕ) → at + 1 ≡ instant → event + 1 < instant → (event + 2 == instant) ≡ nat_le at (event + 1)
  comes_next instant is early = by (nat_le at (event + 1)) refl
    where
      by : (b : Bool) → nat_le at (event + 1) ≡ b → (event + 2 == instant) ≡ b
      by true e = let le = leb-true at (event + 1) e in eq-eqb (event + 2) instant (omega (arith, is, early, le))
      by false e = other (event + 2 == instant) refl (leb-false at (event + 1) e)
        where
          other : (b : Bool) → (event + 2 == instant) ≡ b → event + 1 < at → b ≡ false
          other true e gt = let eq = eqb-true (event + 2) instant e in absurd (omega (arith, is, gt, eq))
          other false e gt = refl

  not_now : (n : ℕ) → (n < event + 2) ⊎ (event + 2 < n) → (event + 2 == n) ≡ false
  not_now n (inl less) = by (event + 2 == n) refl
    where
      by : (b : Bool) → (event + 2 == n) ≡ b → b ≡ false
      by true e = let eq = eqb-true (event + 2) n e in absurd (omega (arith, less, eq))
      by false e = refl
  not_now n (inr more) = by (event + 2 == n) refl
    where
      by : (b : Bool) → (event + 2 == n) ≡ b → b ≡ false
      by true e = let eq = eqb-true (event + 2) n e in absurd (omega (arith, more, eq))
      by false e = refl

  or_false : (b : Bool) → (b || false) ≡ b
  or_false true = refl
  or_false false = refl

  before_next : (b : Bool) → at + 1 ≡ over → IsAtPeripheral (if b then None else Some at) (place_after b Before) over older
  before_next true is = tt
  before_next false is = is

  late_next : (b : Bool) → at + 1 ≡ older → IsAtPeripheral (if b then None else Some at) (place_after b LateBefore) over older
  late_next true is = tt
  late_next false is = is

  due_now : (n : ℕ) → at + 1 ≡ n → event + 1 ≡ n → nat_le at (event + 1) ≡ true
  due_now n is now = le-leb at (event + 1) (omega (arith, is, now))

  none_after : (b c : Bool) (place : Place) → b ≡ true → IsAtPeripheral (if b then None else Some at) place over older
  none_after true c place is = tt
  none_after false c place is = absurd (cc)

  applies : (place : Place) → FitsPeripheral place event over older c → IsAtPeripheral (Some at) place over older → Applies at place event over older
  applies Before fits is =
      let due : is_event_at event over older ≡ nat_le at (event + 1) =
      rw (not_now older (inl (omega (arith, fits.0)))) (or_false (event + 2 == over) ∙ comes_next over is fits.1) in
      record { due = due; next = rw due (before_next (nat_le at (event + 1)) is) }
  applies At fits is =
      let due = due_now over is fits.1 in record { due = sym due; next = none_after (nat_le at (event + 1)) true _ due }
  applies After fits is = absurd is
  applies LateBefore fits is =
      let due : is_event_at event over older ≡ nat_le at (event + 1) =
      rw (not_now over (inr (omega (arith, fits.0, fits.2)))) (comes_next older is fits.0) in
      record { due = due; next = rw due (late_next (nat_le at (event + 1)) is) }
  applies LateAt fits is =
      let due = due_now older is fits.0 in record { due = sym due; next = none_after (nat_le at (event + 1)) true _ due }

module _ (v : View) (s : Seen v) where
  abbrev pub peripheral_entered : View
  peripheral_entered =
      record v {
        peripheral = PeripheralTable.entered (is_due_at v.peripheral_waits (v.peripheral_event + 1)) v.peripheral;
        peripheral_event = v.peripheral_event + 1;
        peripheral_waits = waits_after v.peripheral_waits (v.peripheral_event + 1);
      }

  abbrev is_event : Bool
  is_event = is_event_at v.peripheral_event v.passed_from s.reached.earlier

  record EntersTo (waits : Option ℕ) : Type 0 where
    part :
        PeripheralTable.entered (is_applying is_event s.reached.peripheral_at) v.peripheral
        ≡ PeripheralTable.entered (is_due_at waits (v.peripheral_event + 1)) v.peripheral
    next : IsAtPeripheral (waits_after waits (v.peripheral_event + 1)) (place_after is_event s.reached.peripheral_at) v.passed_from s.reached.earlier

  nothing_held : (b : Bool) → PeripheralTable.applied v.peripheral ≡ v.peripheral → PeripheralTable.entered b v.peripheral ≡ v.peripheral
  nothing_held true rests = rests
  nothing_held false rests = refl

  enters_to : (waits : Option ℕ) → v.peripheral_waits ≡ waits → (waits ≡ None → PeripheralTable.applied v.peripheral ≡ v.peripheral) → EntersTo waits
  enters_to None is rests = record { part = nothing_held _ (rests refl); next = tt }
  enters_to (Some at) is rests =
      let a = applies at v.peripheral_event v.passed_from s.reached.earlier v.central_event s.reached.peripheral_at
      (sound_of v s.reached).fits.peripheral
      (subst (λ (waits : Option ℕ). IsAtPeripheral waits s.reached.peripheral_at v.passed_from s.reached.earlier) is s.peripheral_waits) in
      record { part = ap (λ (b : Bool). PeripheralTable.entered b v.peripheral) a.due; next = a.next }

  pub enters_peripheral : (v.peripheral_waits ≡ None → PeripheralTable.applied v.peripheral ≡ v.peripheral) → Seen peripheral_entered
  enters_peripheral rests =
      let to = enters_to v.peripheral_waits refl rests in
      record {
        reached =
            moved_on v s.reached peripheral_enters peripheral_entered s.reached.central_at (place_after is_event s.reached.peripheral_at) s.reached.earlier refl
            (rw to.part refl);
        central_waits = s.central_waits;
        peripheral_waits = to.next;
        far = s.far;
        far_earlier = s.far_earlier;
      }

-- ---- the central sends

module _ (v : View) (s : Seen v) (latency : ℕ) (pdu : Pdu) where
  abbrev pub central_sent : View
  central_sent =
      record v {
        central = CentralTable.sent pdu v.central;
        down = OnAir pdu;
        passed_from = (if is_timed pdu then v.central_event + latency + 7 else v.passed_from);
        central_waits = (if is_timed pdu then Some (v.central_event + 6 + latency) else v.central_waits);
      }

  abbrev new_place : Place
  new_place = if is_timed pdu then place_in latency (now_of v s.reached) else Before

  central_waits_on : (b : Bool)
      → IsAtCentral (if b then Some (v.central_event + 6 + latency) else v.central_waits) v.central_event
      (if b then v.central_event + latency + 7 else v.passed_from)
  central_waits_on true = (omega arith, omega arith)
  central_waits_on false = s.central_waits

  far_on : (b : Bool) → IsFar (if b then v.central_event + latency + 7 else v.passed_from)
  far_on true = inr (omega arith)
  far_on false = s.far

  earlier_on : (b : Bool) → IsFar (if b then v.passed_from else s.reached.earlier)
  earlier_on true = s.far
  earlier_on false = s.far_earlier

  not_both : (a b : Bool) → not (a && b) ≡ true → a ≡ true → b ≡ false
  not_both true true h is = absurd (cc)
  not_both true false h is = refl
  not_both false b h is = absurd (cc)

  -- the indication before is the last one then, and it is the one that waits
  late_place : (at f : ℕ) (b c : Bool) (place : Place) (older : ℕ) → IsAtPeripheral (Some at) place v.passed_from older → is_lagging place ≡ false
      → nat_le v.passed_from f ≡ is_after place → IsAtPeripheral (Some at) (if nat_le v.passed_from f then place_by f (v.central_event + latency + 7) else (if c then LateAt else LateBefore)) (v.central_event + latency + 7) v.passed_from
  late_place at f b c After older is lag passed = absurd is
  late_place at f b c LateBefore older is lag passed = absurd (cc)
  late_place at f b c LateAt older is lag passed = absurd (cc)
  late_place at f b true Before older is lag passed = rw passed is
  late_place at f b false Before older is lag passed = rw passed is
  late_place at f b true At older is lag passed = rw passed is
  late_place at f b false At older is lag passed = rw passed is

  module _ (may : may_move (central_sends latency) (now_of v s.reached) ≡ true) (next : CentralTable.next_pdu v.central ≡ Some pdu) where
    lagging : is_timed pdu ≡ true → is_lagging s.reached.peripheral_at ≡ false
    lagging timed =
        let m = moves (central_sends latency) (now_of v s.reached) (sound_of v s.reached) may in
        let meant = right_is coded is_coded states all_closed (now_of v s.reached).link (event_of (central_sends latency) (now_of v s.reached)) (sound_of v s.reached).known m.comes in
        not_both (is_next_timed (now_of v s.reached)) (is_lagging s.reached.peripheral_at) meant (ap (λ (o : Option Pdu). is_pdu is_timed o) next ∙ timed)

    waits_new : (waits : Option ℕ) → v.peripheral_waits ≡ waits → is_timed pdu ≡ true
        → IsAtPeripheral waits (place_in latency (now_of v s.reached)) (v.central_event + latency + 7) v.passed_from
    waits_new None is timed = tt
    waits_new (Some at) is timed =
        late_place at v.peripheral_event true (v.peripheral_event + 1 == v.passed_from) s.reached.peripheral_at s.reached.earlier
        (subst (λ (waits : Option ℕ). IsAtPeripheral waits s.reached.peripheral_at v.passed_from s.reached.earlier) is s.peripheral_waits)
        (lagging timed)
        (passed_is s.reached.peripheral_at v.peripheral_event v.passed_from s.reached.earlier v.central_event (sound_of v s.reached).fits.peripheral)

    peripheral_on : (b : Bool) → is_timed pdu ≡ b
        → IsAtPeripheral v.peripheral_waits (if b then (if b then place_in latency (now_of v s.reached) else Before) else s.reached.peripheral_at)
        (if b then v.central_event + latency + 7 else v.passed_from) (if b then v.passed_from else s.reached.earlier)
    peripheral_on true timed = waits_new v.peripheral_waits refl timed
    peripheral_on false timed = s.peripheral_waits

    sent_on : Seen central_sent
    sent_on =
        record {
          reached =
              moved_on v s.reached (central_sends latency) central_sent (if is_timed pdu then Before else s.reached.central_at)
              (if is_timed pdu then new_place else s.reached.peripheral_at) (if is_timed pdu then v.passed_from else s.reached.earlier) may
              (rw next refl);
          central_waits = central_waits_on (is_timed pdu);
          peripheral_waits = peripheral_on (is_timed pdu) refl;
          far = far_on (is_timed pdu);
          far_earlier = earlier_on (is_timed pdu);
        }

  pub sends_central : v.down ≡ Clear → is_none (pdu_on_air v.up) ≡ true → CentralTable.next_pdu v.central ≡ Some pdu
      → (v.central.closed && is_empty v.central.rejections.items) ≡ false → (not (is_held_back pdu) || nat_le v.passed_from v.central_event) ≡ true
      → nat_le latency 499 ≡ true → Seen central_sent
  sends_central down up next goes after_instant low =
      sent_on (rw (down, up, next, goes, after_instant) low) next

-- ---- the peripheral takes

module _ (v : View) (s : Seen v) (pdu : Pdu) where
  abbrev pub peripheral_answer : Peripheral × End
  peripheral_answer = PeripheralTable.taken (nat_le v.passed_from v.peripheral_event) pdu v.peripheral

  pub record PeripheralTook : Type 0 where
    pub never : (reason : Reason) → peripheral_answer.1 ≢ Collided reason
    pub goes : peripheral_answer.1 ≡ Open → Seen (record v { peripheral = peripheral_answer.0; down = Taken pdu })
    -- an indication waits from then on
    pub follows : (at : ℕ) → at + 1 ≡ v.passed_from → nat_le v.passed_from v.peripheral_event ≡ false → peripheral_answer.1 ≡ Open
        → Seen (record v { peripheral = peripheral_answer.0; down = Taken pdu; peripheral_waits = Some at })
    -- its Instant, read in sixteen bits
    pub ahead : nat_le v.passed_from v.peripheral_event ≡ false
        → (gap_of ((v.passed_from - 1) % 2 ^ 16) (v.peripheral_event % 2 ^ 16) ≡ (v.passed_from - 1) - v.peripheral_event)
        × (v.passed_from - 1 ≤ v.peripheral_event + 505)
    pub passed : is_timed pdu ≡ true → nat_le v.passed_from v.peripheral_event ≡ true → v.peripheral_event < (v.passed_from - 1) + 32769
        → 32767 ≤ gap_of ((v.passed_from - 1) % 2 ^ 16) (v.peripheral_event % 2 ^ 16)

  module _ (down : v.down ≡ OnAir pdu) (free : is_taken v.up ≡ false) (time : InTime v s) where
    comes : may_move (makes PeripheralTakes) (now_of v s.reached) ≡ true
    comes = rw (free, time) (ap (λ (way : Way). is_some (pdu_on_air way) && true) down)

    passed_by : nat_le v.passed_from v.peripheral_event ≡ is_after s.reached.peripheral_at
    passed_by =
        passed_is s.reached.peripheral_at v.peripheral_event v.passed_from s.reached.earlier v.central_event (sound_of v s.reached).fits.peripheral

    abbrev answer_at : Peripheral × End
    answer_at = PeripheralTable.taken (is_after s.reached.peripheral_at) pdu v.peripheral

    answers : answer_at ≡ peripheral_answer
    answers = ap (λ (passed : Bool). PeripheralTable.taken passed pdu v.peripheral) (sym passed_by)

    moves_to : answer_at.1 ≡ Open
        → move (makes PeripheralTakes) (now_of v s.reached)
        ≡ numbered_of (record v { peripheral = answer_at.0; down = Taken pdu }) s.reached.central_at s.reached.peripheral_at s.reached.earlier
    moves_to open_end = rw (down, open_end) refl

    taken_on : (waits : Option ℕ) → peripheral_answer.1 ≡ Open
        → IsReached (record v { peripheral = peripheral_answer.0; down = Taken pdu; peripheral_waits = waits })
    taken_on waits open_end =
        moved_on v s.reached (makes PeripheralTakes) (record v { peripheral = peripheral_answer.0; down = Taken pdu; peripheral_waits = waits })
        s.reached.central_at s.reached.peripheral_at s.reached.earlier comes
        (moves_to (ap (λ (a : Peripheral × End). a.1) answers ∙ open_end)
        ∙ ap (λ (a : Peripheral × End). numbered_of (record v { peripheral = a.0; down = Taken pdu }) s.reached.central_at s.reached.peripheral_at s.reached.earlier) answers)

    -- an indication whose Instant is to come is taken in events of one number
    in_one_event : nat_le v.passed_from v.peripheral_event ≡ false → v.central_event ≡ v.peripheral_event
    in_one_event early = eqb-true v.central_event v.peripheral_event (by (v.central_event == v.peripheral_event) (nat_le v.passed_from v.peripheral_event) early time)
      where
        by : (same passed : Bool) → passed ≡ false → (same || (passed && is_pdu is_timed (pdu_on_air v.down))) ≡ true → same ≡ true
        by true passed is h = refl
        by false true is h = absurd (cc)
        by false false is h = absurd (cc)

    here : (at : ℕ) (place : Place) (older : ℕ) → FitsPeripheral place v.peripheral_event v.passed_from older v.central_event
        → at + 1 ≡ v.passed_from → nat_le v.passed_from v.peripheral_event ≡ false → IsAtPeripheral (Some at) place v.passed_from older
    here at Before older fits is early = is
    here at At older fits is early = is
    here at After older fits is early =
        let gt : v.peripheral_event < v.passed_from = leb-false v.passed_from v.peripheral_event early in absurd (omega (arith, fits, gt))
    here at LateBefore older fits is early = let same = in_one_event early in absurd (omega (arith, fits.0, fits.1, same))
    here at LateAt older fits is early = let same = in_one_event early in absurd (omega (arith, fits.0, fits.1, same))

    abbrev AheadOf : Numbered → Type 0
    AheadOf r =
        may_move (makes PeripheralTakes) r ≡ true → r.peripheral_event < r.passed_from
        → (gap_of (last_instant r % 2 ^ 16) (r.peripheral_event % 2 ^ 16) ≡ last_instant r - r.peripheral_event)
        × (last_instant r ≤ r.peripheral_event + 505)

    abbrev PassedOf : Numbered → Type 0
    PassedOf r =
        r.link.down ≡ OnAir pdu → is_timed pdu ≡ true → r.passed_from ≤ r.peripheral_event → r.peripheral_event < last_instant r + 32769
        → 32767 ≤ gap_of (last_instant r % 2 ^ 16) (r.peripheral_event % 2 ^ 16)

    pub peripheral_takes : PeripheralTook
    unfolding taken_on
    peripheral_takes =
        record {
          never =
              λ reason ended. never v s.reached (makes PeripheralTakes) reason comes
              (rw down (ap (λ (a : Peripheral × End). a.1) answers ∙ ended));
          goes =
              λ open_end. record {
                reached = taken_on v.peripheral_waits open_end;
                central_waits = s.central_waits;
                peripheral_waits = s.peripheral_waits;
                far = s.far;
                far_earlier = s.far_earlier;
              };
          follows =
              λ at is early open_end. record {
                reached = taken_on (Some at) open_end;
                central_waits = s.central_waits;
                peripheral_waits = here at s.reached.peripheral_at s.reached.earlier (sound_of v s.reached).fits.peripheral is early;
                far = s.far;
                far_earlier = s.far_earlier;
              };
          ahead =
              λ early. subst AheadOf s.reached.is (gap_ahead s.reached.moves) comes
              (leb-false v.passed_from v.peripheral_event early);
          passed =
              λ timed past near. subst PassedOf s.reached.is (gap_passed s.reached.moves pdu) down timed
              (leb-true v.passed_from v.peripheral_event past) near;
        }
