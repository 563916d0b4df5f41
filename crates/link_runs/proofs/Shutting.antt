-- With which codes an end is shut.
use Rattle.std.proofs.Common.{◌≡◌, ◌⊎◌, inl, inr, ℕ, Bool, true, false, Option, Some, None, IfSome, refl, ap, sym, subst, ◌∙◌, if◌then◌else◌}
use Rattle.std.specs.Option.{option_map}
use Rattle.ble_base.specs.ErrorCodes.{connection_not_established, connection_timeout, instant_passed, ll_response_timeout, mic_failure, terminated_by_local_host}
use Rattle.ble_base.specs.declared.error_codes.ErrCode.{ErrCode}
use Rattle.instants.specs.declared.indications.Params.{Params}
use Rattle.link_pairs.specs.link_model.declared.events.Reception.{Reception}
use Rattle.link_pairs.specs.link_model.Setup.{Setup}
use Rattle.link_pairs.specs.link_model.Lost.{has_failed, has_timed_out, reason_due}
use Rattle.link_pairs.specs.control_end.Answers.{goes_on as held_goes_on, timeout_of}
use Rattle.link_pairs.specs.control_end.Held.{held_of}
use Rattle.link_pairs.specs.link_model.declared.state.Leaving.{Leaving}
use Rattle.link_pairs.specs.link_model.Facts.{Facts, params_of}
use Rattle.link_pairs.specs.link_model.Times.{due_of, ended_by_procedures, ending_of, first_of, termination_due}
use Rattle.link_runs.specs.Open.{AreTerminated, GoOnUnlessLate, GoesOnUnlessLate, HasHeardForged, IsTerminated, is_timeout}

-- ---- at the end of a turn

some_same : {A : Type 0} (a b : A) → Some a ≡ Some b → b ≡ a
some_same a b is = cc

peer_ends : (answered : Bool) (o : Option ErrCode) (code : ErrCode) → (if answered then o else None) ≡ Some code → o ≡ Some code
peer_ends true o code is = is
peer_ends false o code is = absurd (cc)

module _ (leaving : Leaving) (code : ErrCode) where
  -- what an end is shut with, with this code of its procedures
  abbrev shut_with : Bool → Option ErrCode → Option ErrCode
  shut_with acknowledged ends =
      if acknowledged then Some (record { 0 = terminated_by_local_host }) else ended_by_procedures ends leaving

  terminated : (acknowledged : Bool) → leaving.acknowledged ≡ acknowledged → shut_with acknowledged None ≡ Some code → IsTerminated leaving code
  terminated true acked is = inl (acked, some_same _ code is)
  terminated false acked is = inr (peer_ends leaving.answered leaving.ended_by_peer code is)

  ended : (with_code : ErrCode) (acknowledged : Bool) → leaving.acknowledged ≡ acknowledged → shut_with acknowledged (Some with_code) ≡ Some code
      → IsTerminated leaving code ⊎ (code ≡ with_code)
  ended with_code true acked is = inl (inl (acked, some_same _ code is))
  ended with_code false acked is = inr (some_same _ code is)

goes_terminated : (facts : Facts) → facts.control.ends ≡ None → (code : ErrCode) → ending_of facts ≡ Some code → IsTerminated facts.leaving code
goes_terminated facts goes code is =
    terminated facts.leaving code facts.leaving.acknowledged refl
    (ap (shut_with facts.leaving code facts.leaving.acknowledged) (sym goes) ∙ is)

ended_terminated : (facts : Facts) (with_code : ErrCode) → facts.control.ends ≡ Some with_code → (code : ErrCode) → ending_of facts ≡ Some code
    → IsTerminated facts.leaving code ⊎ (code ≡ with_code)
ended_terminated facts with_code over code is =
    ended facts.leaving code with_code facts.leaving.acknowledged refl (ap (shut_with facts.leaving code facts.leaving.acknowledged) (sym over) ∙ is)

central_by : (c : Facts) → (c.control.ends ≡ None) ⊎ HasHeardForged c → (code : ErrCode) → ending_of c ≡ Some code
    → IsTerminated c.leaving code ⊎ (code ≡ record { 0 = mic_failure })
central_by c (inl goes) code is = inl (goes_terminated c goes code is)
central_by c (inr forged) code is = ended_terminated c (record { 0 = mic_failure }) forged code is

-- one of two codes
either_code : {A B C : Type 0} → A ⊎ B → A ⊎ (B ⊎ C)
either_code (inl is) = inl is
either_code (inr is) = inr (inl is)

other_code : {A B C : Type 0} → A ⊎ C → A ⊎ (B ⊎ C)
other_code (inl is) = inl is
other_code (inr is) = inr (inr is)

peripheral_by : (o : Option Facts) (p : Facts) → GoesOnUnlessLate o p → (code : ErrCode) → ending_of p ≡ Some code
    → IsTerminated p.leaving code ⊎ ((code ≡ record { 0 = instant_passed }) ⊎ (code ≡ record { 0 = mic_failure }))
peripheral_by None p goes code is = inl (goes_terminated p goes code is)
peripheral_by (Some c) p (inl goes) code is = inl (goes_terminated p goes code is)
peripheral_by (Some c) p (inr (inl over)) code is = either_code (ended_terminated p (record { 0 = instant_passed }) over.0 code is)
peripheral_by (Some c) p (inr (inr forged)) code is = other_code (ended_terminated p (record { 0 = mic_failure }) forged code is)

pub are_terminated : (o q : Option Facts) → GoOnUnlessLate (record { central = o; peripheral = q }) → AreTerminated (record { central = o; peripheral = q })
are_terminated None None goes = record { central = tt; peripheral = tt }
are_terminated None (Some p) goes = record { central = tt; peripheral = peripheral_by None p goes.peripheral }
are_terminated (Some c) None goes = record { central = central_by c goes.central; peripheral = tt }
are_terminated (Some c) (Some p) goes = record { central = central_by c goes.central; peripheral = peripheral_by (Some c) p goes.peripheral }

-- ---- at the start of a turn

abbrev IsDue : Option ℕ → Type 0
IsDue o = IfSome o (λ code. is_timeout code ≡ true)

due_if : (passed : Bool) (code : ℕ) → is_timeout code ≡ true → IsDue (if passed then Some code else None)
due_if true code is = is
due_if false code is = tt

due_first : (one other : Option ℕ) → IsDue one → IsDue other → IsDue (first_of one other)
due_first None other first later = later
due_first (Some code) other first later = first

heard_due : (opened slot : ℕ) (params : Params) (good : Option Reception) → IsDue (reason_due opened params good slot)
heard_due opened slot params None = due_if (has_failed opened params.interval slot) connection_not_established refl
heard_due opened slot params (Some good) = due_if (has_timed_out good.slot params.timeout slot) connection_timeout refl

terminating_due : (since : Option ℕ) (params : Params) (slot : ℕ) → IsDue (termination_due since params slot)
terminating_due None params slot = tt
terminating_due (Some since) params slot = due_if (has_timed_out since params.timeout slot) terminated_by_local_host refl

abbrev code_of : Option ErrCode → Option ℕ
code_of o = option_map (λ (code : ErrCode). code.0) o

answer_by : (goes over : Bool) → IsDue (code_of (if goes then (if over then Some (record { 0 = ll_response_timeout }) else None) else None))
answer_by true true = refl
answer_by true false = tt
answer_by false over = tt

due_here : (setup : Setup) (facts : Facts) (slot : ℕ) → IsDue (due_of setup facts slot)
due_here setup facts slot =
    let h = held_of facts.control in
    due_first (reason_due setup.opened (params_of facts) facts.last_good slot) _
    (heard_due setup.opened slot (params_of facts) facts.last_good)
    (due_first (code_of (timeout_of slot h)) (termination_due facts.leaving.disconnected (params_of facts) slot)
    (answer_by (held_goes_on h) _)
    (terminating_due facts.leaving.disconnected (params_of facts) slot))

pub due_by_time : (setup : Setup) (facts : Facts) (slot code : ℕ) → due_of setup facts slot ≡ Some code → is_timeout code ≡ true
due_by_time setup facts slot code is = subst IsDue is (due_here setup facts slot)
