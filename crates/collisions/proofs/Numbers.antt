-- The places of a joint run are what the numbers of events say, and each run with numbers is a joint run.
use Rattle.std.proofs.Common.{◌≡◌, ℕ, ◌+◌, ◌<◌, ◌≤◌, ◌==◌, ◌≢◌, nat_le, is_some, is_none, Bool, true, false, not, ◌&&◌, ◌||◌, Option, Some, None, if◌then◌else◌, refl, arith, eqb-true, leb-true, leb-false, le-leb, eq-eqb, ne_eqb}
use Rattle.std.proofs.lemmas.Bool.{and_parts, and_from}
use Rattle.exclusive_stages.specs.declared.pdus.Pdu.{Pdu}
use Rattle.collisions.specs.declared.events.Event.{Event}
use Rattle.collisions.specs.declared.events.Event.TheVariants.{CentralEnters, CentralBegins, HostGrants, HostRefuses, CentralCloses, CentralSends, CentralAcked, CentralTakes, CentralKeeps, CentralTakesKept}
use Rattle.collisions.specs.declared.events.Event.TheVariants.{PeripheralEnters, PeripheralBegins, PeripheralCloses, PeripheralFixes, PeripheralSends, PeripheralAcked, PeripheralTakes}
use Rattle.collisions.specs.declared.events.Place.{Place}
use Rattle.collisions.specs.declared.events.Place.TheVariants.{Before, At, After, LateBefore, LateAt}
use Rattle.collisions.specs.declared.joint.Link.{Link}
use Rattle.exclusive_stages.specs.Pdus.{is_held_back}
use Rattle.exclusive_stages.specs.Kinds.{central_kind}
use Rattle.collisions.specs.CentralTable
use Rattle.collisions.specs.JointRun.{Timing, is_clear, is_first, is_judgeable, is_taken, fits_entering, fits_sending, is_after, is_pdu, is_same_event, may_act, may_send_pdu, pdu_on_air, place_after}
use Rattle.collisions.specs.Numbers.{place_by}
use Rattle.collisions.specs.Agreement.{is_lagging}

-- ---- what a place says of the numbers

abbrev pub FitsCentral : Place → ℕ → ℕ → Type 0
FitsCentral Before e over = e + 1 < over
FitsCentral At e over = e + 1 ≡ over
FitsCentral After e over = over ≤ e
FitsCentral place e over = ⊥

abbrev pub FitsPeripheral : Place → ℕ → ℕ → ℕ → ℕ → Type 0
FitsPeripheral Before e over older c = (older ≤ e) × (e + 1 < over)
FitsPeripheral At e over older c = (older ≤ e) × (e + 1 ≡ over)
FitsPeripheral After e over older c = over ≤ e
FitsPeripheral LateBefore e over older c = (e + 1 < older) × (older ≤ c) × (older + 1 < over)
FitsPeripheral LateAt e over older c = (e + 1 ≡ older) × (older ≤ c) × (older + 1 < over)

-- ---- the timing of places follows from that of numbers

pub same_is : (c p : Place) (e f over older : ℕ) → FitsCentral c e over → FitsPeripheral p f over older e → (e == f) ≡ true → is_same_event c p ≡ true
same_is Before Before e f over older a b same = refl
same_is Before At e f over older a b same = let eq = eqb-true e f same in absurd (omega (arith, a, b.1, eq))
same_is Before After e f over older a b same = let eq = eqb-true e f same in absurd (omega (arith, a, b, eq))
same_is Before LateBefore e f over older a b same = let eq = eqb-true e f same in absurd (omega (arith, b.0, b.1, eq))
same_is Before LateAt e f over older a b same = let eq = eqb-true e f same in absurd (omega (arith, b.0, b.1, eq))
same_is At Before e f over older a b same = let eq = eqb-true e f same in absurd (omega (arith, a, b.1, eq))
same_is At At e f over older a b same = refl
same_is At After e f over older a b same = let eq = eqb-true e f same in absurd (omega (arith, a, b, eq))
same_is At LateBefore e f over older a b same = let eq = eqb-true e f same in absurd (omega (arith, b.0, b.1, eq))
same_is At LateAt e f over older a b same = let eq = eqb-true e f same in absurd (omega (arith, b.0, b.1, eq))
same_is After Before e f over older a b same = let eq = eqb-true e f same in absurd (omega (arith, a, b.1, eq))
same_is After At e f over older a b same = let eq = eqb-true e f same in absurd (omega (arith, a, b.1, eq))
same_is After After e f over older a b same = refl
same_is After LateBefore e f over older a b same = let eq = eqb-true e f same in absurd (omega (arith, b.0, b.1, eq))
same_is After LateAt e f over older a b same = let eq = eqb-true e f same in absurd (omega (arith, b.0, b.1, eq))
same_is LateBefore p e f over older a b same = absurd a
same_is LateAt p e f over older a b same = absurd a

not_le : (m n : ℕ) → n < m → nat_le m n ≡ false
not_le m n less = by (nat_le m n) refl
  where
    by : (b : Bool) → nat_le m n ≡ b → b ≡ false
    by true is = let le = leb-true m n is in absurd (omega (arith, le, less))
    by false is = refl

-- the peripheral has passed the instant exactly where its place says so
pub passed_is : (p : Place) (f over older c : ℕ) → FitsPeripheral p f over older c → nat_le over f ≡ is_after p
passed_is Before f over older c b = not_le over f (omega (arith, b.1))
passed_is At f over older c b = not_le over f (omega (arith, b.1))
passed_is After f over older c b = le-leb over f b
passed_is LateBefore f over older c b = not_le over f (omega (arith, b.0, b.2))
passed_is LateAt f over older c b = not_le over f (omega (arith, b.0, b.2))

pub central_passed : (c : Place) (e over : ℕ) → FitsCentral c e over → nat_le over e ≡ true → is_after c ≡ true
central_passed Before e over a h = let le = leb-true over e h in absurd (omega (arith, a, le))
central_passed At e over a h = let le = leb-true over e h in absurd (omega (arith, a, le))
central_passed After e over a h = refl
central_passed LateBefore e over a h = absurd a
central_passed LateAt e over a h = absurd a

-- ---- a rule that holds of one timing holds of a timing that allows more

pub record AtLeast (t u : Timing) : Type 0 where
  pub same : t.same ≡ true → u.same ≡ true
  pub late : t.late ≡ true → u.late ≡ true
  pub after : t.after ≡ true → u.after ≡ true
  pub fits : t.fits ≡ true → u.fits ≡ true

and_more : (a b c : Bool) → (b ≡ true → c ≡ true) → (a && b) ≡ true → (a && c) ≡ true
and_more true b c f h = f h
and_more false b c f h = h

and_first : (a b c : Bool) → (a ≡ true → c ≡ true) → (a && b) ≡ true → (c && b) ≡ true
and_first a b c f h = let both = and_parts a b h in and_from c b (f both.0) both.1

or_more : (a b c d : Bool) → (a ≡ true → c ≡ true) → (b ≡ true → d ≡ true) → (a || b) ≡ true → (c || d) ≡ true
or_more true b c d f g h = rw (f refl) refl
or_more false b true d f g h = refl
or_more false b false d f g h = g h

module _ (t u : Timing) (s : Link) (more : AtLeast t u) where
  ends_more : (t.same || t.late) ≡ true → (u.same || u.late) ≡ true
  ends_more h = or_more t.same t.late u.same u.late more.same more.late h

  sends_more : (first : Option Pdu) → may_send_pdu t first s ≡ true → may_send_pdu u first s ≡ true
  sends_more None h = h
  sends_more (Some pdu) h =
      and_more _ ((not (is_held_back pdu) || t.after) && t.fits) ((not (is_held_back pdu) || u.after) && u.fits)
      (λ k. let both = and_parts (not (is_held_back pdu) || t.after) t.fits k in
      and_from (not (is_held_back pdu) || u.after) u.fits
      (or_more (not (is_held_back pdu)) t.after (not (is_held_back pdu)) u.after (λ e. e) more.after both.0) (more.fits both.1)) h

  take_more : (test : Pdu → Bool) → (is_pdu test (pdu_on_air s.up) && (not (is_taken s.down) && t.same)) ≡ true
      → (is_pdu test (pdu_on_air s.up) && (not (is_taken s.down) && u.same)) ≡ true
  take_more test h =
      and_more (is_pdu test (pdu_on_air s.up)) (not (is_taken s.down) && t.same) (not (is_taken s.down) && u.same)
      (and_more (not (is_taken s.down)) t.same u.same more.same) h

  pub may_more : (event : Event) → may_act t event s ≡ true → may_act u event s ≡ true
  may_more (CentralEnters at) h = more.fits h
  may_more (CentralBegins kind) h = h
  may_more HostGrants h = h
  may_more (HostRefuses reason) h = h
  may_more CentralCloses h = h
  may_more (CentralSends next) h =
      and_more (is_clear s.down) _ _ (and_more (is_none (pdu_on_air s.up)) (may_send_pdu t (CentralTable.next_pdu s.central) s) (may_send_pdu u (CentralTable.next_pdu s.central) s) (sends_more (CentralTable.next_pdu s.central))) h
  may_more CentralAcked h = and_more (is_taken s.down) t.same u.same more.same h
  may_more (CentralTakes judged) h = take_more (is_judgeable judged) h
  may_more CentralKeeps h = and_first _ (is_none (central_kind s.central.own)) _ (take_more is_first) h
  may_more (CentralTakesKept judged) h = h
  may_more (PeripheralEnters at) h = more.fits h
  may_more (PeripheralBegins kind) h = h
  may_more PeripheralCloses h = h
  may_more PeripheralFixes h = h
  may_more PeripheralSends h = h
  may_more PeripheralAcked h = and_more (is_taken s.up) (t.same || t.late) (u.same || u.late) ends_more h
  may_more PeripheralTakes h =
      and_more (is_some (pdu_on_air s.down)) _ _ (and_more (not (is_taken s.up)) (t.same || t.late) (u.same || u.late) ends_more) h

-- ---- entering and sending

differs : (m n : ℕ) → (m == n) ≡ false → m ≢ n
differs m n is same = let other = eq-eqb m n same in absurd (cc)

pub enters_central : (c : Place) (e over : ℕ) → FitsCentral c e over
    → (fits_entering (e + 2 == over) c ≡ true) × FitsCentral (place_after (e + 2 == over) c) (e + 1) over
enters_central Before e over a = by (e + 2 == over) refl
  where
    by : (b : Bool) → (e + 2 == over) ≡ b → (fits_entering b Before ≡ true) × FitsCentral (place_after b Before) (e + 1) over
    by true is = let eq = eqb-true (e + 2) over is in (refl, omega (arith, eq))
    by false is = let ne = differs (e + 2) over is in (refl, omega (arith, a, ne))
enters_central At e over a = rw (ne_eqb (e + 2) over (omega (arith, a))) (refl, omega (arith, a))
enters_central After e over a = rw (ne_eqb (e + 2) over (omega (arith, a))) (refl, omega (arith, a))
enters_central LateBefore e over a = absurd a
enters_central LateAt e over a = absurd a

-- the test of the next event, by the two instants
pub enters_by : (p : Place) (e over older c : ℕ) (x y : Bool) → (e + 2 == over) ≡ x → (e + 2 == older) ≡ y → older ≤ over
    → FitsPeripheral p e over older c
    → (fits_entering (x || y) p ≡ true) × FitsPeripheral (place_after (x || y) p) (e + 1) over older c
enters_by Before e over older c true y is also order b =
    let eq = eqb-true (e + 2) over is in let low = b.0 in (refl, (omega (arith, low), omega (arith, eq)))
enters_by Before e over older c false true is also order b =
    let eq = eqb-true (e + 2) older also in let low = b.0 in absurd (omega (arith, low, eq))
enters_by Before e over older c false false is also order b =
    let ne = differs (e + 2) over is in let low = b.0 in let less = b.1 in (refl, (omega (arith, low), omega (arith, less, ne)))
enters_by At e over older c true y is also order b =
    let eq = eqb-true (e + 2) over is in let at = b.1 in absurd (omega (arith, at, eq))
enters_by At e over older c false true is also order b =
    let eq = eqb-true (e + 2) older also in let low = b.0 in absurd (omega (arith, low, eq))
enters_by At e over older c false false is also order b = let at = b.1 in (refl, omega (arith, at))
enters_by After e over older c true y is also order b =
    let eq = eqb-true (e + 2) over is in absurd (omega (arith, b, eq))
enters_by After e over older c false true is also order b =
    let eq = eqb-true (e + 2) older also in absurd (omega (arith, b, eq, order))
enters_by After e over older c false false is also order b = (refl, omega (arith, b))
enters_by LateBefore e over older c true y is also order b =
    let eq = eqb-true (e + 2) over is in let less = b.0 in let far = b.2 in absurd (omega (arith, less, far, eq))
enters_by LateBefore e over older c false true is also order b =
    let eq = eqb-true (e + 2) older also in (refl, (omega (arith, eq), b.1, b.2))
enters_by LateBefore e over older c false false is also order b =
    let ne = differs (e + 2) older also in let less = b.0 in (refl, (omega (arith, less, ne), b.1, b.2))
enters_by LateAt e over older c true y is also order b =
    let eq = eqb-true (e + 2) over is in let at = b.0 in let far = b.2 in absurd (omega (arith, at, far, eq))
enters_by LateAt e over older c false true is also order b =
    let eq = eqb-true (e + 2) older also in let at = b.0 in absurd (omega (arith, at, eq))
enters_by LateAt e over older c false false is also order b =
    let at = b.0 in let far = b.2 in (refl, (omega (arith, at), omega (arith, at, far)))

-- the central enters an event
pub later_central : (p : Place) (e over older c : ℕ) → FitsPeripheral p e over older c → FitsPeripheral p e over older (c + 1)
later_central Before e over older c b = b
later_central At e over older c b = b
later_central After e over older c b = b
later_central LateBefore e over older c b = let low = b.1 in (b.0, omega (arith, low), b.2)
later_central LateAt e over older c b = let low = b.1 in (b.0, omega (arith, low), b.2)

-- ---- an indication is sent

-- where the peripheral is against it
abbrev pub new_place : ℕ → ℕ → ℕ → Place
new_place e over new =
    (if nat_le over e then place_by e new else (if e + 1 == over then LateAt else LateBefore))

by_new : (e over new c : ℕ) → over ≤ e → (fits_sending true After (place_by e new) ≡ true) × FitsPeripheral (place_by e new) e new over c
by_new e over new c low = first (nat_le new e) refl
  where
    second : (b : Bool) → (e + 1 == new) ≡ b → nat_le new e ≡ false
        → (fits_sending true After (if b then At else Before) ≡ true) × FitsPeripheral (if b then At else Before) e new over c
    second true is not_over = let eq = eqb-true (e + 1) new is in (refl, (low, eq))
    second false is not_over =
        let ne = differs (e + 1) new is in let less = leb-false new e not_over in (refl, (low, omega (arith, ne, less)))

    first : (b : Bool) → nat_le new e ≡ b
        → (fits_sending true After (if b then After else (if e + 1 == new then At else Before)) ≡ true)
        × FitsPeripheral (if b then After else (if e + 1 == new then At else Before)) e new over c
    first true is = (refl, leb-true new e is)
    first false is = second (e + 1 == new) refl is

pub sends_place : (p : Place) (e over older c new : ℕ) → FitsPeripheral p e over older c → is_lagging p ≡ false → over ≤ c → c + 1 < new
    → (fits_sending true p (new_place e over new) ≡ true) × FitsPeripheral (new_place e over new) e new over c
sends_place Before e over older c new b lag past far =
    let less = b.1 in rw (not_le over e (omega (arith, less)), ne_eqb (e + 1) over (omega (arith, less))) (refl, (less, past, omega (arith, past, far)))
sends_place At e over older c new b lag past far =
    let at = b.1 in rw (not_le over e (omega (arith, at)), eq-eqb (e + 1) over at) (refl, (at, past, omega (arith, past, far)))
sends_place After e over older c new b lag past far = rw (le-leb over e b) (by_new e over new c b)
sends_place LateBefore e over older c new b lag past far = absurd (cc)
sends_place LateAt e over older c new b lag past far = absurd (cc)
