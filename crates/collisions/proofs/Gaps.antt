-- What numbered runs say: each is a joint run, and sixteen bits of an event tell whether an instant has passed.
use Rattle.std.proofs.Common.{◌≡◌, ℕ, ◌+◌, ◌-◌, ◌%◌, ◌^◌, ◌<◌, ◌≤◌, ◌==◌, nat_le, is_some, Bool, true, false, not, ◌&&◌, ◌||◌, List, [], ◌∷◌, ◌++◌, if◌then◌else◌, refl, ap, sym, ◌∙◌, subst, arith, leb-true, eqb-true}
use Rattle.std.proofs.lemmas.Bool.{and_parts}
use Rattle.ble_base.specs.Instant.{gap_of}
use Rattle.exclusive_stages.specs.declared.pdus.Pdu.{Pdu}
use Rattle.collisions.specs.declared.events.Event.{Event}
use Rattle.collisions.specs.declared.events.Event.TheVariants.{PeripheralTakes}
use Rattle.collisions.specs.declared.joint.Way.{Way}
use Rattle.collisions.specs.declared.joint.Way.TheVariants.{OnAir}
use Rattle.collisions.specs.declared.joint.Link.{Link}
use Rattle.machines.specs.Machine.{Machine, run, run_from, step}
use Rattle.exclusive_stages.specs.Pdus.{is_timed}
use Rattle.collisions.specs.JointRun.{act, collisions, is_after, is_open, is_pdu, is_taken, may, may_act, pdu_on_air, start}
use Rattle.collisions.specs.Numbers.{Move, Numbered, central_enters, central_sends, peripheral_enters, event_of, last_instant, makes, may_move, move, numbered_collisions, numbered_start, timing_by}
use Rattle.collisions.proofs.Lifting.{Sound, moves, sound}
use Rattle.collisions.proofs.Numbers.{passed_is}

-- ---- each numbered run is a joint run

one_more : (m : Machine Link Event) (s : Link) (events : List Event) (event : Event)
    → run_from m s (events ++ event ∷ []) ≡ step m event (run_from m s events)
one_more m s [] event = refl
one_more m s (e ∷ events) event = one_more m (step m e s) events event

IsRun : Link → Type 0
IsRun s = (events : List Event) × (s ≡ run collisions events)

run_more : (s : Link) (event : Event) → IsRun s → may event s ≡ true → IsRun (act event s)
unfolding IsRun
run_more s event (events, is) comes = (
  events ++ event ∷ [],
  stepped (may event s) comes ∙ ap (step collisions event) is ∙ sym (one_more collisions start events event),
)
  where
    stepped : (b : Bool) → b ≡ true → act event s ≡ (if b then act event s else s)
    stepped true h = refl
    stepped false h = absurd (cc)

link_of_move : (m : Move) (r : Numbered) → (move m r).link ≡ act (event_of m r) r.link
link_of_move central_enters r = refl
link_of_move peripheral_enters r = refl
link_of_move (central_sends latency) r = refl
link_of_move (makes event) r = refl

run_by : (m : Move) (r : Numbered) (b : Bool) → may_move m r ≡ b → Sound r → IsRun r.link
    → Sound (if b then move m r else r) × IsRun (if b then move m r else r).link
run_by m r true comes s is =
    let next = moves m r s comes in
    (next.sound, subst IsRun (sym (link_of_move m r)) (run_more r.link (event_of m r) is next.comes))
run_by m r false comes s is = (s, is)

runs_from : (r : Numbered) (ms : List Move) → Sound r → IsRun r.link → IsRun (run_from numbered_collisions r ms).link
runs_from r [] s is = is
runs_from r (m ∷ ms) s is =
    let next = run_by m r (may_move m r) refl s is in
    runs_from (step numbered_collisions m r) ms next.0 next.1

pub is_run : (ms : List Move) → (events : List Event) × ((run numbered_collisions ms).link ≡ run collisions events)
unfolding IsRun
is_run ms = runs_from numbered_start ms (sound []) ([], refl)

-- ---- sixteen bits

ahead : (e k : ℕ) → k < 65536 → gap_of ((e + k) % 2 ^ 16) (e % 2 ^ 16) ≡ k
ahead e k less = omega (arith, less)

behind : (i k : ℕ) → 1 ≤ k → k ≤ 65536 → gap_of (i % 2 ^ 16) ((i + k) % 2 ^ 16) ≡ 65536 - k
behind i k low high = omega (arith, low, high)

passed_by : (over e : ℕ) → 1 ≤ over → over ≤ e → e < over - 1 + 32769 → 32767 ≤ gap_of ((over - 1) % 2 ^ 16) (e % 2 ^ 16)
passed_by over e low past near =
    let k : e ≡ (over - 1) + (e - (over - 1)) = omega (arith, low, past) in
    let far = behind (over - 1) (e - (over - 1)) (omega (arith, low, past)) (omega (arith, low, near)) in
    let is : gap_of ((over - 1) % 2 ^ 16) (e % 2 ^ 16) ≡ 65536 - (e - (over - 1)) =
    ap (λ n. gap_of ((over - 1) % 2 ^ 16) (n % 2 ^ 16)) k ∙ far in
    omega (arith, is, low, near)

ahead_by : (over e : ℕ) → e < over → over ≤ e + 506 → gap_of ((over - 1) % 2 ^ 16) (e % 2 ^ 16) ≡ (over - 1) - e
ahead_by over e less near =
    let k : over - 1 ≡ e + ((over - 1) - e) = omega (arith, less) in
    let far = ahead e ((over - 1) - e) (omega (arith, near)) in
    ap (λ n. gap_of (n % 2 ^ 16) (e % 2 ^ 16)) k ∙ far

timed_on_air : (pdu : Pdu) (way : Way) → way ≡ OnAir pdu → is_timed pdu ≡ true → is_pdu is_timed (pdu_on_air way) ≡ true
timed_on_air pdu way is timed = subst (λ (w : Way). is_pdu is_timed (pdu_on_air w) ≡ true) (sym is) timed

same_event : (same late : Bool) → (same || late) ≡ true → late ≡ false → same ≡ true
same_event true late h k = refl
same_event false late h k = absurd (cc)

and_false : (a b : Bool) → a ≡ false → (a && b) ≡ false
and_false a b h = rw h refl

-- an indication that is taken before its instant has passed is taken in one event of both ends
together : (r : Numbered) → Sound r → may_move (makes PeripheralTakes) r ≡ true → r.peripheral_event < r.passed_from
    → r.central_event ≡ r.peripheral_event
together r s h less =
    let acts = (and_parts (is_open r.link.end) (may_act (timing_by (makes PeripheralTakes) r) PeripheralTakes r.link) h).1 in
    let two = (and_parts (is_some (pdu_on_air r.link.down)) _ acts).1 in
    let time = (and_parts (not (is_taken r.link.up)) ((timing_by (makes PeripheralTakes) r).same || (timing_by (makes PeripheralTakes) r).late) two).1 in
    eqb-true r.central_event r.peripheral_event
    (same_event (r.central_event == r.peripheral_event) (timing_by (makes PeripheralTakes) r).late time
    (and_false (nat_le r.passed_from r.peripheral_event) _ (not_le r.passed_from r.peripheral_event less)))
  where
    not_le : (m n : ℕ) → n < m → nat_le m n ≡ false
    not_le m n lt = by (nat_le m n) refl
      where
        by : (b : Bool) → nat_le m n ≡ b → b ≡ false
        by true is = let le = leb-true m n is in absurd (omega (arith, le, lt))
        by false is = refl

pub gap_passed : (ms : List Move) (pdu : Pdu) → (run numbered_collisions ms).link.down ≡ OnAir pdu → is_timed pdu ≡ true
    → (run numbered_collisions ms).passed_from ≤ (run numbered_collisions ms).peripheral_event
    → (run numbered_collisions ms).peripheral_event < last_instant (run numbered_collisions ms) + 32769
    → 32767 ≤ gap_of (last_instant (run numbered_collisions ms) % 2 ^ 16) ((run numbered_collisions ms).peripheral_event % 2 ^ 16)
gap_passed ms pdu down timed past near =
    let r = run numbered_collisions ms in
    passed_by r.passed_from r.peripheral_event ((sound ms).fits.sent (timed_on_air pdu r.link.down down timed)) past near

pub gap_ahead : (ms : List Move) → may_move (makes PeripheralTakes) (run numbered_collisions ms) ≡ true
    → (run numbered_collisions ms).peripheral_event < (run numbered_collisions ms).passed_from
    → (gap_of (last_instant (run numbered_collisions ms) % 2 ^ 16) ((run numbered_collisions ms).peripheral_event % 2 ^ 16)
    ≡ last_instant (run numbered_collisions ms) - (run numbered_collisions ms).peripheral_event)
    × (last_instant (run numbered_collisions ms) ≤ (run numbered_collisions ms).peripheral_event + 505)
gap_ahead ms h less =
    let r = run numbered_collisions ms in
    let same = together r (sound ms) h less in
    let near = (sound ms).fits.near in
    (ahead_by r.passed_from r.peripheral_event less (omega (arith, near, same)), omega (arith, near, same))

pub reads_passed : (ms : List Move)
    → is_after (run numbered_collisions ms).link.peripheral_at
    ≡ nat_le (run numbered_collisions ms).passed_from (run numbered_collisions ms).peripheral_event
reads_passed ms =
    let r = run numbered_collisions ms in
    sym (passed_is r.link.peripheral_at r.peripheral_event r.passed_from r.earlier_passed_from r.central_event (sound ms).fits.peripheral)
