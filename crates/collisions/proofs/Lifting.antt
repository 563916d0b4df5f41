-- Each joint run with the numbers of events is a joint run, with the same links.
use Rattle.std.proofs.Common.{◌≡◌, ℕ, ◌+◌, ◌<◌, ◌≤◌, ◌==◌, nat_le, is_none, Bool, true, false, not, ◌&&◌, ◌||◌, List, [], ◌∷◌, Option, Some, None, if◌then◌else◌, refl, sym, ◌∙◌, subst, arith, leb-true}
use Rattle.std.proofs.lemmas.Bool.{and_parts, and_from}
use Rattle.exclusive_stages.specs.declared.pdus.Pdu.{Pdu}
use Rattle.exclusive_stages.specs.declared.pdus.Pdu.TheVariants.{UpdateInd, GrantInd, MapInd, PhyReq, PhyRsp, PhyInd, ParamReq, RejectParam, RejectPhy, Refusal}
use Rattle.collisions.specs.declared.events.Event.{Event}
use Rattle.collisions.specs.declared.events.Event.TheVariants.{CentralEnters, CentralBegins, HostGrants, HostRefuses, CentralCloses, CentralSends, CentralAcked, CentralTakes, CentralKeeps, CentralTakesKept}
use Rattle.collisions.specs.declared.events.Event.TheVariants.{PeripheralEnters, PeripheralBegins, PeripheralCloses, PeripheralFixes, PeripheralSends, PeripheralAcked, PeripheralTakes}
use Rattle.collisions.specs.declared.events.Place.{Place}
use Rattle.collisions.specs.declared.events.Place.TheVariants.{Before, At, After, LateBefore, LateAt}
use Rattle.collisions.specs.declared.joint.Way.{Way}
use Rattle.collisions.specs.declared.joint.Way.TheVariants.{Clear, Fixed, OnAir, Taken}
use Rattle.collisions.specs.declared.joint.Link.{Link}
use Rattle.machines.specs.Machine.{run, run_from, step}
use Rattle.exclusive_stages.specs.Pdus.{is_held_back, is_timed}
use Rattle.collisions.specs.CentralTable
use Rattle.collisions.specs.PeripheralTable
use Rattle.collisions.specs.JointRun.{Timing, act, central_acked, central_keeps, central_sends, central_takes, central_takes_kept, fits_sending, is_clear, is_empty, is_open, is_pdu, may, may_act, may_send, may_send_pdu, pdu_on_air, peripheral_acked, peripheral_fixes, peripheral_sends, peripheral_takes, timing_of}
use Rattle.collisions.specs.Numbers.{Move, Numbered, central_enters, central_sends as sends, event_of, has_move, is_next_timed, makes, may_move, move, numbered_collisions, numbered_start, peripheral_enters, timing_by}
use Rattle.collisions.specs.Agreement.{is_lagging}
use Rattle.machines.proofs.Closing.{act_is_known, is_known, right_is}
use Rattle.collisions.proofs.CollisionEvents.{coded, is_coded}
use Rattle.collisions.proofs.CollisionStates.{states}
use Rattle.collisions.proofs.CollisionsClosed.{all_closed, start_known}
use Rattle.collisions.proofs.Numbers
use Rattle.collisions.proofs.Numbers.{AtLeast, FitsCentral, FitsPeripheral, central_passed, enters_by, enters_central, later_central, may_more, new_place, passed_is, same_is, sends_place}

-- a link fits these numbers
pub record FitsNumbers (s : Link) (c e over older : ℕ) : Type 0 where
  pub central : FitsCentral s.central_at c over
  pub peripheral : FitsPeripheral s.peripheral_at e over older c
  pub order : older ≤ over
  pub near : over ≤ c + 506
  -- an indication is on its way only after one was sent
  pub sent : is_pdu is_timed (pdu_on_air s.down) ≡ true → 1 ≤ over

-- ---- steps that enter no event and send nothing

-- the places stay, and nothing new goes on the air
record Stays (s t : Link) : Type 0 where
  central : t.central_at ≡ s.central_at
  peripheral : t.peripheral_at ≡ s.peripheral_at
  down : is_pdu is_timed (pdu_on_air t.down) ≡ true → is_pdu is_timed (pdu_on_air s.down) ≡ true

same : (s : Link) → Stays s s
same s = record { central = refl; peripheral = refl; down = λ h. h }

on_ack : (way : Way) (s : Link) → Stays s (central_acked way s)
on_ack (Taken pdu) s = record { central = refl; peripheral = refl; down = λ h. absurd (cc) }
on_ack Clear s = same s
on_ack (Fixed pdu) s = same s
on_ack (OnAir pdu) s = same s

on_take : (judged : Bool) (way : Way) (s : Link) → Stays s (central_takes judged way s)
on_take judged (OnAir pdu) s = record { central = refl; peripheral = refl; down = λ h. h }
on_take judged Clear s = same s
on_take judged (Fixed pdu) s = same s
on_take judged (Taken pdu) s = same s

on_keep : (way : Way) (s : Link) → Stays s (central_keeps way s)
on_keep (OnAir pdu) s = record { central = refl; peripheral = refl; down = λ h. h }
on_keep Clear s = same s
on_keep (Fixed pdu) s = same s
on_keep (Taken pdu) s = same s

on_kept : (judged : Bool) (k : Option Pdu) (s : Link) → Stays s (central_takes_kept judged k s)
on_kept judged None s = same s
on_kept judged (Some pdu) s = record { central = refl; peripheral = refl; down = λ h. h }

on_fix : (first : Option Pdu) (s : Link) → Stays s (peripheral_fixes first s)
on_fix None s = same s
on_fix (Some pdu) s = record { central = refl; peripheral = refl; down = λ h. h }

on_send : (way : Way) (s : Link) → Stays s (peripheral_sends way s)
on_send (Fixed pdu) s = record { central = refl; peripheral = refl; down = λ h. h }
on_send Clear s = same s
on_send (OnAir pdu) s = same s
on_send (Taken pdu) s = same s

on_peer_ack : (way : Way) (s : Link) → Stays s (peripheral_acked way s)
on_peer_ack (Taken pdu) s = record { central = refl; peripheral = refl; down = λ h. h }
on_peer_ack Clear s = same s
on_peer_ack (Fixed pdu) s = same s
on_peer_ack (OnAir pdu) s = same s

on_peer_take : (way : Way) (s : Link) → Stays s (peripheral_takes way s)
on_peer_take (OnAir pdu) s = record { central = refl; peripheral = refl; down = λ h. absurd (cc) }
on_peer_take Clear s = same s
on_peer_take (Fixed pdu) s = same s
on_peer_take (Taken pdu) s = same s

other_stays : (event : Event) (s : Link) → has_move event ≡ false → Stays s (act event s)
other_stays (CentralEnters at) s h = absurd (cc)
other_stays (CentralBegins kind) s h = record { central = refl; peripheral = refl; down = λ h. h }
other_stays HostGrants s h = record { central = refl; peripheral = refl; down = λ h. h }
other_stays (HostRefuses reason) s h = record { central = refl; peripheral = refl; down = λ h. h }
other_stays CentralCloses s h = record { central = refl; peripheral = refl; down = λ h. h }
other_stays (CentralSends next) s h = absurd (cc)
other_stays CentralAcked s h = on_ack s.down s
other_stays (CentralTakes judged) s h = on_take judged s.up s
other_stays CentralKeeps s h = on_keep s.up s
other_stays (CentralTakesKept judged) s h = on_kept judged s.kept s
other_stays (PeripheralEnters at) s h = absurd (cc)
other_stays (PeripheralBegins kind) s h = record { central = refl; peripheral = refl; down = λ h. h }
other_stays PeripheralCloses s h = record { central = refl; peripheral = refl; down = λ h. h }
other_stays PeripheralFixes s h = on_fix (PeripheralTable.next_pdu s.peripheral) s
other_stays PeripheralSends s h = on_send s.up s
other_stays PeripheralAcked s h = on_peer_ack s.up s
other_stays PeripheralTakes s h = on_peer_take s.down s

stays_fits : (s t : Link) (c e over older : ℕ) → Stays s t → FitsNumbers s c e over older → FitsNumbers t c e over older
stays_fits s t c e over older stays f =
    record {
      central = subst (λ (p : Place). FitsCentral p c over) (sym stays.central) f.central;
      peripheral = subst (λ (p : Place). FitsPeripheral p e over older c) (sym stays.peripheral) f.peripheral;
      order = f.order;
      near = f.near;
      sent = λ h. f.sent (stays.down h);
    }

-- ---- the central sends

next_for : Option Pdu → ℕ → ℕ → ℕ → Place
next_for first e over new = (if is_pdu is_timed first then new_place e over new else Before)

sends_fits : (first : Option Pdu) (b : Bool) (s : Link) (c e over older new : ℕ) → is_pdu is_timed first ≡ b
    → FitsNumbers s c e over older → (b ≡ true → over ≤ c) → (b ≡ true → is_lagging s.peripheral_at ≡ false)
    → c + 6 < new → new ≤ c + 506
    → (fits_sending (is_pdu is_timed first) s.peripheral_at (if is_pdu is_timed first then new_place e over new else Before) ≡ true)
    × FitsNumbers (central_sends first (if is_pdu is_timed first then new_place e over new else Before) s) c e
    (if is_pdu is_timed first then new else over) (if is_pdu is_timed first then over else older)
sends_fits None b s c e over older new is f past lag far near = (refl, f)
sends_fits (Some pdu) true s c e over older new is f past lag far near =
    let place = sends_place s.peripheral_at e over older c new f.peripheral (lag refl) (past refl) (omega (arith, far)) in
    let low = past refl in
    rw is (place.0, record { central = omega (arith, far); peripheral = place.1; order = omega (arith, low, far); near = near; sent = λ h. omega (arith, far) })
sends_fits (Some pdu) false s c e over older new is f past lag far near =
    rw is (refl, record { central = f.central; peripheral = f.peripheral; order = f.order; near = f.near; sent = λ h. absurd (cc) })

-- ---- a run with numbers

pub record Sound (r : Numbered) : Type 0 where
  pub fits : FitsNumbers r.link r.central_event r.peripheral_event r.passed_from r.earlier_passed_from
  pub known : is_known coded states r.link ≡ true

-- the places allow each step that the numbers allow, if what it says of an instant is so
more_by : (m : Move) (r : Numbered) (event : Event) → FitsNumbers r.link r.central_event r.peripheral_event r.passed_from r.earlier_passed_from
    → ((timing_by m r).fits ≡ true → (timing_of event r.link).fits ≡ true) → AtLeast (timing_by m r) (timing_of event r.link)
more_by m r event f fits =
    record {
      same = same_is r.link.central_at r.link.peripheral_at r.central_event r.peripheral_event r.passed_from r.earlier_passed_from f.central f.peripheral;
      late = subst (λ (b : Bool). (nat_le r.passed_from r.peripheral_event && is_pdu is_timed (pdu_on_air r.link.down)) ≡ true
          → (b && is_pdu is_timed (pdu_on_air r.link.down)) ≡ true)
          (passed_is r.link.peripheral_at r.peripheral_event r.passed_from r.earlier_passed_from r.central_event f.peripheral) (λ h. h);
      after = central_passed r.link.central_at r.central_event r.passed_from f.central;
      fits = fits;
    }

may_by : (m : Move) (r : Numbered) (event : Event) → FitsNumbers r.link r.central_event r.peripheral_event r.passed_from r.earlier_passed_from
    → (is_open r.link.end && may_act (timing_by m r) event r.link) ≡ true
    → ((timing_by m r).fits ≡ true → (timing_of event r.link).fits ≡ true) → may event r.link ≡ true
may_by m r event f h fits =
    let both = and_parts (is_open r.link.end) (may_act (timing_by m r) event r.link) h in
    and_from (is_open r.link.end) (may_act (timing_of event r.link) event r.link) both.0
    (may_more (timing_by m r) (timing_of event r.link) r.link (more_by m r event f fits) event both.1)

-- what sending needs
timed_is_held : (pdu : Pdu) → is_timed pdu ≡ true → is_held_back pdu ≡ true
timed_is_held UpdateInd h = refl
timed_is_held GrantInd h = refl
timed_is_held Refusal h = absurd (cc)
timed_is_held MapInd h = refl
timed_is_held PhyReq h = refl
timed_is_held PhyRsp h = absurd (cc)
timed_is_held PhyInd h = absurd (cc)
timed_is_held ParamReq h = absurd (cc)
timed_is_held (RejectParam reason) h = absurd (cc)
timed_is_held (RejectPhy reason) h = absurd (cc)

held_after : (held after : Bool) → held ≡ true → (not held || after) ≡ true → after ≡ true
held_after true after h k = k
held_after false after h k = absurd (cc)

send_parts : (t : Timing) (s : Link) (first : Option Pdu) → may_send_pdu t first s ≡ true
    → (is_pdu is_timed first ≡ true → t.after ≡ true) × (t.fits ≡ true)
send_parts t s None h = absurd (cc)
send_parts t s (Some pdu) h =
    let two = (and_parts (not (s.central.closed && is_empty s.central.rejections.items)) _ h).1 in
    let both = and_parts (not (is_held_back pdu) || t.after) t.fits two in
    (λ timed. held_after (is_held_back pdu) t.after (timed_is_held pdu timed) both.0, both.1)

may_send_parts : (t : Timing) (s : Link) → may_send t s ≡ true
    → (is_pdu is_timed (CentralTable.next_pdu s.central) ≡ true → t.after ≡ true) × (t.fits ≡ true)
may_send_parts t s h =
    let one = (and_parts (is_clear s.down) _ h).1 in
    let two = (and_parts (is_none (pdu_on_air s.up)) (may_send_pdu t (CentralTable.next_pdu s.central) s) one).1 in
    send_parts t s (CentralTable.next_pdu s.central) two

not_both : (timed lagging : Bool) → not (timed && lagging) ≡ true → timed ≡ true → lagging ≡ false
not_both true true h k = absurd (cc)
not_both true false h k = refl
not_both false lagging h k = absurd (cc)

-- a peripheral that lags behind is sent no further indication
lagging_next : Place → Place
lagging_next LateAt = LateAt
lagging_next place = LateBefore

lagging_fits : (p : Place) → is_lagging p ≡ true → fits_sending true p (lagging_next p) ≡ true
unfolding lagging_next
lagging_fits LateAt h = refl
lagging_fits LateBefore h = refl
lagging_fits Before h = absurd (cc)
lagging_fits At h = absurd (cc)
lagging_fits After h = absurd (cc)

not_lagging : (latency : ℕ) (r : Numbered) → Sound r → may_move (sends latency) r ≡ true → is_next_timed r ≡ true
    → is_lagging r.link.peripheral_at ≡ false
not_lagging latency r sound h timed = by (is_lagging r.link.peripheral_at) refl
  where
    next : Place
    next = lagging_next r.link.peripheral_at

    fits : is_lagging r.link.peripheral_at ≡ true → fits_sending (is_next_timed r) r.link.peripheral_at next ≡ true
    fits lag = rw timed (lagging_fits r.link.peripheral_at lag)

    by : (b : Bool) → is_lagging r.link.peripheral_at ≡ b → b ≡ false
    by false is = refl
    by true is =
        let comes = may_by (sends latency) r (CentralSends next) sound.fits h (λ k. fits is) in
        let meant = right_is coded is_coded states all_closed r.link (CentralSends next) sound.known comes in
        sym is ∙ not_both (is_next_timed r) (is_lagging r.link.peripheral_at) meant timed

-- ---- each move is a step of the joint run, and keeps the places and the numbers together

pub record Moves (m : Move) (r : Numbered) : Type 0 where
  pub comes : may (event_of m r) r.link ≡ true
  pub sound : Sound (move m r)

known_after : (m : Move) (r : Numbered) (event : Event) → Sound r → may event r.link ≡ true → is_known coded states (act event r.link) ≡ true
known_after m r event s comes = act_is_known coded is_coded states all_closed r.link event s.known comes

central_moves : (r : Numbered) → Sound r → may_move central_enters r ≡ true → Moves central_enters r
central_moves r s h =
    let f = s.fits in
    let near = f.near in
    let enters = Numbers.enters_central r.link.central_at r.central_event r.passed_from f.central in
    let comes = may_by central_enters r (event_of central_enters r) f h (λ k. enters.0) in
    record {
      comes = comes;
      sound = record {
        fits = record {
          central = enters.1;
          peripheral = later_central r.link.peripheral_at r.peripheral_event r.passed_from r.earlier_passed_from r.central_event f.peripheral;
          order = f.order;
          near = omega (arith, near);
          sent = f.sent;
        };
        known = known_after central_enters r (event_of central_enters r) s comes;
      };
    }

peripheral_moves : (r : Numbered) → Sound r → may_move peripheral_enters r ≡ true → Moves peripheral_enters r
peripheral_moves r s h =
    let f = s.fits in
    let enters = enters_by r.link.peripheral_at r.peripheral_event r.passed_from r.earlier_passed_from r.central_event
    (r.peripheral_event + 2 == r.passed_from) (r.peripheral_event + 2 == r.earlier_passed_from) refl refl f.order f.peripheral in
    let comes = may_by peripheral_enters r (event_of peripheral_enters r) f h (λ k. enters.0) in
    record {
      comes = comes;
      sound = record {
        fits = record {
          central = f.central;
          peripheral = enters.1;
          order = f.order;
          near = f.near;
          sent = f.sent;
        };
        known = known_after peripheral_enters r (event_of peripheral_enters r) s comes;
      };
    }

send_moves : (latency : ℕ) (r : Numbered) → Sound r → may_move (sends latency) r ≡ true → Moves (sends latency) r
send_moves latency r s h =
    let f = s.fits in
    let acts = (and_parts (is_open r.link.end) (may_act (timing_by (sends latency) r) (event_of (sends latency) r) r.link) h).1 in
    let needs = may_send_parts (timing_by (sends latency) r) r.link acts in
    let low = leb-true latency 499 needs.1 in
    let new = sends_fits (CentralTable.next_pdu r.link.central) (is_next_timed r) r.link r.central_event r.peripheral_event r.passed_from r.earlier_passed_from
    (r.central_event + latency + 7) refl f
    (λ timed. leb-true r.passed_from r.central_event (needs.0 timed)) (λ timed. not_lagging latency r s h timed) (omega arith) (omega (arith, low)) in
    let comes = may_by (sends latency) r (event_of (sends latency) r) f h (λ k. new.0) in
    record {
      comes = comes;
      sound = record { fits = new.1; known = known_after (sends latency) r (event_of (sends latency) r) s comes };
    }

not_is : (b : Bool) → not b ≡ true → b ≡ false
not_is true h = absurd (cc)
not_is false h = refl

other_fits : (event : Event) (s : Link) → has_move event ≡ false → (timing_of event s).fits ≡ true
other_fits (CentralEnters at) s h = absurd (cc)
other_fits (PeripheralEnters at) s h = absurd (cc)
other_fits (CentralSends next) s h = absurd (cc)
other_fits event s h = refl

makes_fits : (t : Timing) (event : Event) (s : Link) → may_act t event s ≡ true → has_move event ≡ true → t.fits ≡ true
makes_fits t (CentralEnters at) s h k = h
makes_fits t (PeripheralEnters at) s h k = h
makes_fits t (CentralSends next) s h k = (may_send_parts t s h).1
makes_fits t (CentralBegins kind) s h k = absurd (cc)
makes_fits t HostGrants s h k = absurd (cc)
makes_fits t (HostRefuses reason) s h k = absurd (cc)
makes_fits t CentralCloses s h k = absurd (cc)
makes_fits t CentralAcked s h k = absurd (cc)
makes_fits t (CentralTakes judged) s h k = absurd (cc)
makes_fits t CentralKeeps s h k = absurd (cc)
makes_fits t (CentralTakesKept judged) s h k = absurd (cc)
makes_fits t (PeripheralBegins kind) s h k = absurd (cc)
makes_fits t PeripheralCloses s h k = absurd (cc)
makes_fits t PeripheralFixes s h k = absurd (cc)
makes_fits t PeripheralSends s h k = absurd (cc)
makes_fits t PeripheralAcked s h k = absurd (cc)
makes_fits t PeripheralTakes s h k = absurd (cc)

has_none : (event : Event) (r : Numbered) → may_move (makes event) r ≡ true → has_move event ≡ false
has_none event r h = by (has_move event) refl
  where
    acts : may_act (timing_by (makes event) r) event r.link ≡ true
    acts = (and_parts (is_open r.link.end) (may_act (timing_by (makes event) r) event r.link) h).1

    by : (b : Bool) → has_move event ≡ b → b ≡ false
    by false is = refl
    by true is = sym is ∙ not_is (has_move event) (makes_fits (timing_by (makes event) r) event r.link acts is)

other_moves : (event : Event) (r : Numbered) → Sound r → may_move (makes event) r ≡ true → Moves (makes event) r
other_moves event r s h =
    let none = has_none event r h in
    let comes = may_by (makes event) r event s.fits h (λ k. other_fits event r.link none) in
    record {
      comes = comes;
      sound = record {
        fits = stays_fits r.link (act event r.link) r.central_event r.peripheral_event r.passed_from r.earlier_passed_from (other_stays event r.link none) s.fits;
        known = known_after (makes event) r event s comes;
      };
    }

pub moves : (m : Move) (r : Numbered) → Sound r → may_move m r ≡ true → Moves m r
moves central_enters r s h = central_moves r s h
moves peripheral_enters r s h = peripheral_moves r s h
moves (sends latency) r s h = send_moves latency r s h
moves (makes event) r s h = other_moves event r s h

sound_by : (m : Move) (r : Numbered) (b : Bool) → may_move m r ≡ b → Sound r → Sound (if b then move m r else r)
sound_by m r true is s = (moves m r s is).sound
sound_by m r false is s = s

sound_from : (r : Numbered) (ms : List Move) → Sound r → Sound (run_from numbered_collisions r ms)
sound_from r [] s = s
sound_from r (m ∷ ms) s = sound_from (step numbered_collisions m r) ms (sound_by m r (may_move m r) refl s)

pub sound : (ms : List Move) → Sound (run numbered_collisions ms)
sound ms =
    sound_from numbered_start ms (record {
      fits = record { central = omega arith; peripheral = omega arith; order = omega arith; near = omega arith; sent = λ h. absurd (cc) };
      known = start_known;
    })

pub sent_after : (ms : List Move) (latency : ℕ) → may_move (sends latency) (run numbered_collisions ms) ≡ true
    → is_next_timed (run numbered_collisions ms) ≡ true
    → (run numbered_collisions ms).passed_from ≤ (run numbered_collisions ms).central_event
sent_after ms latency h timed =
    let r = run numbered_collisions ms in
    let acts = (and_parts (is_open r.link.end) (may_act (timing_by (sends latency) r) (event_of (sends latency) r) r.link) h).1 in
    leb-true r.passed_from r.central_event ((may_send_parts (timing_by (sends latency) r) r.link acts).0 timed)
