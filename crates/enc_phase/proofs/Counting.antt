-- The counters of a session, in each direction.
use Rattle.std.proofs.Common.{◌≡◌, refl, Bool, true, false, ℕ, zero, suc, ◌+◌, ◌&&◌, List, [], ◌∷◌, length, Some, sym, ap, ◌∙◌, subst, slice_get, if◌then◌else◌, arith}
use Rattle.std.specs.List.{range_with_len}
use Rattle.enc_phase.specs.declared.session.Session.{Session}
use Rattle.enc_phase.specs.declared.facts.Transition.TheVariants.{Ask, Refuse, Confirm, Pause, Unlock}
use Rattle.enc_phase.specs.Phases.{opens, phase_after, phase_starting, seals}
use Rattle.enc_phase.specs.Sealing.{EncEnd, after_opening, after_sending, after_start, after_taking, after_transition, counter_in, is_right}
use Rattle.enc_phase.specs.Lives.{Act, Sends, Opens, Takes, Starts, Changes, ArePossible, StaysInSession, opened_counters, sealed_counters}
use Rattle.enc_phase.proofs.Steps.{apart, clear_after, clear_next, either, has_session, opens_taking, seals_in_session, sends_on, session_before, session_next, session_taking}

-- counters that rise by one from here on
pub data Rises : ℕ → List ℕ → Type 0 where
  ends : (n : ℕ) → Rises n []
  goes : (n : ℕ) (ns : List ℕ) → Rises (n + 1) ns → Rises n (n ∷ ns)

pub rises_range : (n : ℕ) (ns : List ℕ) → Rises n ns → ns ≡ range_with_len n (length ns)
rises_range n ns (ends m) = refl
rises_range n ns (goes m ms more) = ap (λ ks. m ∷ ks) (rises_range (m + 1) ms more)

rises_place : (n : ℕ) (ns : List ℕ) (i k : ℕ) → Rises n ns → slice_get ns i ≡ Some k → k ≡ n + i
rises_place n ns i k (ends m) h = absurd (cc)
rises_place n ns zero k (goes m ms more) h = grind arith
rises_place n ns (suc i) k (goes m ms more) h =
    let deeper = rises_place (m + 1) ms i k more h in
    omega (arith, deeper)

pub rises_once : (n : ℕ) (ns : List ℕ) (i j k : ℕ) → Rises n ns → slice_get ns i ≡ Some k → slice_get ns j ≡ Some k → i ≡ j
rises_once n ns i j k r a b =
    let first = rises_place n ns i k r a in
    let second = rises_place n ns j k r b in
    omega (arith, first, second)

-- what is sealed in a session

unused : (sealed : Bool) (n : ℕ) (ns : List ℕ) → sealed ≡ false → ns ≡ [] → (if sealed then n ∷ ns else ns) ≡ []
unused true n ns is none = absurd (cc)
unused false n ns is none = none

-- an end without a session sends nothing sealed before one begins
silent : (acts : List Act) (e : EncEnd) → has_session e.phase ≡ false → StaysInSession acts → ArePossible acts e
    → sealed_counters acts e ≡ []
silent [] e none stays can = refl
silent (Sends header body ∷ acts) e none stays can =
    unused (seals e.role e.phase) e.sent _ (seals_in_session e.role e.phase none) (silent acts (after_sending e) none stays can.1)
silent (Opens header payload ∷ acts) e none stays can =
    let P : EncEnd → Type 0 = λ x. ArePossible acts x → sealed_counters acts x ≡ [] in
    either P (is_right e header payload) (after_opening e) e
    (λ c. silent acts (after_opening e) none stays c) (λ c. silent acts e none stays c) can.1
silent (Takes pdu ∷ acts) e none stays can =
    silent acts (after_taking pdu e) (session_taking pdu e.phase ∙ none) stays can.1
silent (Changes Ask ∷ acts) e none stays can = silent acts (after_transition Ask e) (session_next Ask e.phase can.0) stays can.1
silent (Starts session ∷ acts) e none stays can = absurd stays
silent (Changes Refuse ∷ acts) e none stays can =
    silent acts (after_transition Refuse e) (session_next Refuse e.phase can.0) stays can.1
silent (Changes Confirm ∷ acts) e none stays can = absurd (apart (session_before Confirm e.phase can.0 refl) none)
silent (Changes Pause ∷ acts) e none stays can = absurd (apart (session_before Pause e.phase can.0 refl) none)
silent (Changes Unlock ∷ acts) e none stays can =
    silent acts (after_transition Unlock e) (session_next Unlock e.phase can.0) stays can.1

silent_rises : (n : ℕ) (ns : List ℕ) → ns ≡ [] → Rises n ns
silent_rises n ns is = subst (λ ks. Rises n ks) (sym is) (ends n)

one_more : (sealed : Bool) (n : ℕ) (ns : List ℕ) → Rises (if sealed then n + 1 else n) ns → Rises n (if sealed then n ∷ ns else ns)
one_more true n ns r = goes n ns r
one_more false n ns r = r

-- a counter that goes on
same_counter : (sealed : Bool) (n : ℕ) (ns : List ℕ) → sealed ≡ true → Rises (counter_in sealed n) ns → Rises n ns
same_counter true n ns is r = r
same_counter false n ns is r = absurd (cc)

pub sealed_rises : (acts : List Act) (e : EncEnd) → StaysInSession acts → ArePossible acts e → Rises e.sent (sealed_counters acts e)
sealed_rises [] e stays can = ends e.sent
sealed_rises (Sends header body ∷ acts) e stays can =
    one_more (seals e.role e.phase) e.sent (sealed_counters acts (after_sending e)) (sealed_rises acts (after_sending e) stays can.1)
sealed_rises (Opens header payload ∷ acts) e stays can =
    let P : EncEnd → Type 0 = λ x. ArePossible acts x → Rises e.sent (sealed_counters acts x) in
    either P (is_right e header payload) (after_opening e) e
    (λ c. sealed_rises acts (after_opening e) stays c) (λ c. sealed_rises acts e stays c) can.1
sealed_rises (Takes pdu ∷ acts) e stays can = sealed_rises acts (after_taking pdu e) stays can.1
sealed_rises (Changes Ask ∷ acts) e stays can =
    silent_rises _ _ (silent acts (after_transition Ask e) (session_next Ask e.phase can.0) stays can.1)
sealed_rises (Starts session ∷ acts) e stays can = absurd stays
sealed_rises (Changes Refuse ∷ acts) e stays can =
    silent_rises _ _ (silent acts (after_transition Refuse e) (session_next Refuse e.phase can.0) stays can.1)
sealed_rises (Changes Confirm ∷ acts) e stays can =
    same_counter _ _ _ (sends_on Confirm e.role e.phase can.0 refl) (sealed_rises acts (after_transition Confirm e) stays can.1)
sealed_rises (Changes Pause ∷ acts) e stays can =
    same_counter _ _ _ (sends_on Pause e.role e.phase can.0 refl) (sealed_rises acts (after_transition Pause e) stays can.1)
sealed_rises (Changes Unlock ∷ acts) e stays can =
    silent_rises _ _ (silent acts (after_transition Unlock e) (session_next Unlock e.phase can.0) stays can.1)

-- what is opened in a session

unopened : (opens right : Bool) (n : ℕ) (ns : List ℕ) → opens ≡ false → ns ≡ [] → (if opens && right then n ∷ ns else ns) ≡ []
unopened true right n ns is none = absurd (cc)
unopened false right n ns is none = none

-- an end that receives clear opens nothing sealed before a session begins
deaf : (acts : List Act) (e : EncEnd) → opens e.role e.phase ≡ false → StaysInSession acts → ArePossible acts e
    → opened_counters acts e ≡ []
deaf [] e none stays can = refl
deaf (Sends header body ∷ acts) e none stays can = deaf acts (after_sending e) none stays can.1
deaf (Opens header payload ∷ acts) e none stays can =
    let P : EncEnd → Type 0 = λ x. ArePossible acts x → opened_counters acts x ≡ [] in
    unopened (opens e.role e.phase) (is_right e header payload) e.opened _ none
    (either P (is_right e header payload) (after_opening e) e
    (λ c. deaf acts (after_opening e) none stays c) (λ c. deaf acts e none stays c) can.1)
deaf (Takes pdu ∷ acts) e none stays can = deaf acts (after_taking pdu e) (opens_taking pdu e.role e.phase ∙ none) stays can.1
deaf (Changes Ask ∷ acts) e none stays can =
    deaf acts (after_transition Ask e) (clear_next Ask e.role e.phase can.0 none) stays can.1
deaf (Starts session ∷ acts) e none stays can = absurd stays
deaf (Changes Refuse ∷ acts) e none stays can =
    deaf acts (after_transition Refuse e) (clear_next Refuse e.role e.phase can.0 none) stays can.1
deaf (Changes Confirm ∷ acts) e none stays can =
    deaf acts (after_transition Confirm e) (clear_next Confirm e.role e.phase can.0 none) stays can.1
deaf (Changes Pause ∷ acts) e none stays can =
    deaf acts (after_transition Pause e) (clear_next Pause e.role e.phase can.0 none) stays can.1
deaf (Changes Unlock ∷ acts) e none stays can =
    deaf acts (after_transition Unlock e) (clear_next Unlock e.role e.phase can.0 none) stays can.1

one_opened : (sealed right : Bool) (n : ℕ) (acts : List Act) (x y : EncEnd)
    → (ArePossible acts x → Rises (if sealed then n + 1 else n) (opened_counters acts x))
    → (ArePossible acts y → Rises n (opened_counters acts y)) → ArePossible acts (if right then x else y)
    → Rises n (if sealed && right then n ∷ opened_counters acts (if right then x else y) else opened_counters acts (if right then x else y))
one_opened true true n acts x y p q can = goes n (opened_counters acts x) (p can)
one_opened true false n acts x y p q can = q can
one_opened false true n acts x y p q can = p can
one_opened false false n acts x y p q can = q can

-- a counter that goes on, or a direction that is clear from now on
goes_on : (sealed : Bool) (n : ℕ) (ns : List ℕ) → Rises (counter_in sealed n) ns → (sealed ≡ false → ns ≡ []) → Rises n ns
goes_on true n ns r none = r
goes_on false n ns r none = silent_rises n ns (none refl)

pub opened_rises : (acts : List Act) (e : EncEnd) → StaysInSession acts → ArePossible acts e → Rises e.opened (opened_counters acts e)
opened_rises [] e stays can = ends e.opened
opened_rises (Sends header body ∷ acts) e stays can = opened_rises acts (after_sending e) stays can.1
opened_rises (Opens header payload ∷ acts) e stays can =
    one_opened (opens e.role e.phase) (is_right e header payload) e.opened acts (after_opening e) e
    (λ c. opened_rises acts (after_opening e) stays c) (λ c. opened_rises acts e stays c) can.1
opened_rises (Takes pdu ∷ acts) e stays can = opened_rises acts (after_taking pdu e) stays can.1
opened_rises (Changes Ask ∷ acts) e stays can =
    silent_rises _ _ (deaf acts (after_transition Ask e) (clear_after Ask e.role e.phase can.0 refl) stays can.1)
opened_rises (Starts session ∷ acts) e stays can = absurd stays
opened_rises (Changes Refuse ∷ acts) e stays can =
    silent_rises _ _ (deaf acts (after_transition Refuse e) (clear_after Refuse e.role e.phase can.0 refl) stays can.1)
opened_rises (Changes Confirm ∷ acts) e stays can =
    goes_on (opens e.role (phase_after Confirm e.phase)) e.opened _ (opened_rises acts (after_transition Confirm e) stays can.1)
    (λ clear. deaf acts (after_transition Confirm e) clear stays can.1)
opened_rises (Changes Pause ∷ acts) e stays can =
    goes_on (opens e.role (phase_after Pause e.phase)) e.opened _ (opened_rises acts (after_transition Pause e) stays can.1)
    (λ clear. deaf acts (after_transition Pause e) clear stays can.1)
opened_rises (Changes Unlock ∷ acts) e stays can =
    silent_rises _ _ (deaf acts (after_transition Unlock e) (clear_after Unlock e.role e.phase can.0 refl) stays can.1)

-- a session begins with counters of 0

from_0 : (sealed : Bool) (ns : List ℕ) → Rises (counter_in sealed 0) ns → Rises 0 ns
from_0 true ns r = r
from_0 false ns r = r

pub from_0_sealed : (e : EncEnd) (session : Session) (acts : List Act) → StaysInSession acts
    → ArePossible acts (after_start session e) → Rises 0 (sealed_counters acts (after_start session e))
from_0_sealed e session acts stays can =
    from_0 (seals e.role (phase_starting e.phase)) _ (sealed_rises acts (after_start session e) stays can)

pub from_0_opened : (e : EncEnd) (session : Session) (acts : List Act) → StaysInSession acts
    → ArePossible acts (after_start session e) → Rises 0 (opened_counters acts (after_start session e))
from_0_opened e session acts stays can =
    from_0 (opens e.role (phase_starting e.phase)) _ (opened_rises acts (after_start session e) stays can)
