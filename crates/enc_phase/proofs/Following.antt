-- Sealing along the acts of an end: it follows from what the end took, and clear directions keep the counter 0.
use Rattle.std.proofs.Common.{◌≡◌, refl, ◌||◌, Bool, true, false, ℕ, ◌+◌, List, [], ◌∷◌, sym, ap, ◌∙◌, if◌then◌else◌}
use Rattle.ble_base.specs.declared.roles.Role.{Role}
use Rattle.enc_phase.specs.declared.facts.Transition.{Transition}
use Rattle.enc_phase.specs.declared.facts.Transition.TheVariants.{Ask, Refuse, Confirm, Pause, Unlock}
use Rattle.enc_phase.specs.Phases.{is_central, may_follow, opens, phase_after, seals}
use Rattle.enc_phase.specs.Sealing.{EncEnd, after_opening, after_sending, after_start, after_transition, counter_in, is_right}
use Rattle.enc_phase.specs.Lives.{Act, Sends, Opens, Takes, Changes, ArePossible, after_act, after_acts, Starts, receiving_after, sending_after}
use Rattle.enc_phase.proofs.Steps.{either, opens_taking, receives_next, receives_started, receiving_next, seals_taking, sending_next, sends_next, sends_started}

-- the phase after a transition
transition_phase : (t : Transition) (e : EncEnd) → (after_transition t e).phase ≡ phase_after t e.phase
transition_phase Confirm e = refl
transition_phase Pause e = refl
transition_phase t e = refl

sends_after : (role : Role) (t : Transition) (e : EncEnd) (sealed : Bool) → seals role e.phase ≡ sealed → may_follow t e.phase ≡ true
    → seals role (after_transition t e).phase ≡ sending_next role t sealed
sends_after role t e sealed is can =
    ap (seals role) (transition_phase t e) ∙ sends_next role t e.phase can ∙ ap (sending_next role t) is

receives_after : (role : Role) (t : Transition) (e : EncEnd) (sealed : Bool) → opens role e.phase ≡ sealed → may_follow t e.phase ≡ true
    → opens role (after_transition t e).phase ≡ receiving_next role t sealed
receives_after role t e sealed is can =
    ap (opens role) (transition_phase t e) ∙ receives_next role t e.phase can ∙ ap (receiving_next role t) is

pub sends : (role : Role) (acts : List Act) (e : EncEnd) (sealed : Bool) → seals role e.phase ≡ sealed → ArePossible acts e
    → seals role (after_acts acts e).phase ≡ sending_after role acts sealed
sends role [] e sealed is can = is
sends role (Sends header body ∷ acts) e sealed is can = sends role acts (after_sending e) sealed is can.1
sends role (Opens header payload ∷ acts) e sealed is can =
    let P : EncEnd → Type 0 = λ x. ArePossible acts x → seals role (after_acts acts x).phase ≡ sending_after role acts sealed in
    either P (is_right e header payload) (after_opening e) e
    (λ c. sends role acts (after_opening e) sealed is c) (λ c. sends role acts e sealed is c) can.1
sends role (Takes pdu ∷ acts) e sealed is can =
    sends role acts (after_act (Takes pdu) e) sealed (seals_taking pdu role e.phase ∙ is) can.1
sends role (Starts session ∷ acts) e sealed is can =
    sends role acts (after_start session e) (is_central role || sealed)
    (sends_started role e.phase can.0 ∙ ap (λ b. is_central role || b) is) can.1
sends role (Changes Ask ∷ acts) e sealed is can =
    sends role acts (after_transition Ask e) (sending_next role Ask sealed)
    (sends_after role Ask e sealed is can.0) can.1
sends role (Changes Refuse ∷ acts) e sealed is can =
    sends role acts (after_transition Refuse e) (sending_next role Refuse sealed)
    (sends_after role Refuse e sealed is can.0) can.1
sends role (Changes Confirm ∷ acts) e sealed is can =
    sends role acts (after_transition Confirm e) (sending_next role Confirm sealed)
    (sends_after role Confirm e sealed is can.0) can.1
sends role (Changes Pause ∷ acts) e sealed is can =
    sends role acts (after_transition Pause e) (sending_next role Pause sealed)
    (sends_after role Pause e sealed is can.0) can.1
sends role (Changes Unlock ∷ acts) e sealed is can =
    sends role acts (after_transition Unlock e) (sending_next role Unlock sealed)
    (sends_after role Unlock e sealed is can.0) can.1

pub receives : (role : Role) (acts : List Act) (e : EncEnd) (sealed : Bool) → opens role e.phase ≡ sealed → ArePossible acts e
    → opens role (after_acts acts e).phase ≡ receiving_after role acts sealed
receives role [] e sealed is can = is
receives role (Sends header body ∷ acts) e sealed is can = receives role acts (after_sending e) sealed is can.1
receives role (Opens header payload ∷ acts) e sealed is can =
    let P : EncEnd → Type 0 = λ x. ArePossible acts x → opens role (after_acts acts x).phase ≡ receiving_after role acts sealed in
    either P (is_right e header payload) (after_opening e) e
    (λ c. receives role acts (after_opening e) sealed is c) (λ c. receives role acts e sealed is c) can.1
receives role (Takes pdu ∷ acts) e sealed is can =
    receives role acts (after_act (Takes pdu) e) sealed (opens_taking pdu role e.phase ∙ is) can.1
receives role (Starts session ∷ acts) e sealed is can =
    receives role acts (after_start session e) true (receives_started role e.phase can.0) can.1
receives role (Changes Ask ∷ acts) e sealed is can =
    receives role acts (after_transition Ask e) (receiving_next role Ask sealed)
    (receives_after role Ask e sealed is can.0) can.1
receives role (Changes Refuse ∷ acts) e sealed is can =
    receives role acts (after_transition Refuse e) (receiving_next role Refuse sealed)
    (receives_after role Refuse e sealed is can.0) can.1
receives role (Changes Confirm ∷ acts) e sealed is can =
    receives role acts (after_transition Confirm e) (receiving_next role Confirm sealed)
    (receives_after role Confirm e sealed is can.0) can.1
receives role (Changes Pause ∷ acts) e sealed is can =
    receives role acts (after_transition Pause e) (receiving_next role Pause sealed)
    (receives_after role Pause e sealed is can.0) can.1
receives role (Changes Unlock ∷ acts) e sealed is can =
    receives role acts (after_transition Unlock e) (receiving_next role Unlock sealed)
    (receives_after role Unlock e sealed is can.0) can.1

-- a clear direction has the counter 0
pub record IsZeroWhereClear (e : EncEnd) : Type 0 where
  pub sent : seals e.role e.phase ≡ false → e.sent ≡ 0
  pub opened : opens e.role e.phase ≡ false → e.opened ≡ 0

counter_zero : (b : Bool) (n : ℕ) → b ≡ false → counter_in b n ≡ 0
counter_zero b n h = rw h refl

counted_zero : (b : Bool) (n : ℕ) → (b ≡ false → n ≡ 0) → b ≡ false → (if b then n + 1 else n) ≡ 0
counted_zero true n z h = absurd (cc)
counted_zero false n z h = z h

transition_zero : (t : Transition) (e : EncEnd) → IsZeroWhereClear (after_transition t e)
transition_zero Confirm e = record { sent = counter_zero _ _; opened = counter_zero _ _ }
transition_zero Pause e = record { sent = counter_zero _ _; opened = counter_zero _ _ }
transition_zero t e = record { sent = λ h. refl; opened = λ h. refl }

opening_zero : (e : EncEnd) → IsZeroWhereClear e → IsZeroWhereClear (after_opening e)
opening_zero e z = record { sent = z.sent; opened = counted_zero (opens e.role e.phase) e.opened z.opened }

act_zero : (act : Act) (e : EncEnd) → IsZeroWhereClear e → IsZeroWhereClear (after_act act e)
act_zero (Sends header body) e z = record { sent = counted_zero (seals e.role e.phase) e.sent z.sent; opened = z.opened }
act_zero (Opens header payload) e z =
    either (λ x. IsZeroWhereClear x) (is_right e header payload) (after_opening e) e (opening_zero e z) z
act_zero (Takes pdu) e z =
    record {
      sent = λ h. z.sent (sym (seals_taking pdu e.role e.phase) ∙ h);
      opened = λ h. z.opened (sym (opens_taking pdu e.role e.phase) ∙ h);
    }
act_zero (Starts session) e z = record { sent = counter_zero _ _; opened = counter_zero _ _ }
act_zero (Changes t) e z = transition_zero t e

pub acts_zero : (acts : List Act) (e : EncEnd) → IsZeroWhereClear e → IsZeroWhereClear (after_acts acts e)
acts_zero [] e z = z
acts_zero (act ∷ acts) e z = acts_zero acts (after_act act e) (act_zero act e z)
