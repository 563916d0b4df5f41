-- What an end holds after any steps: its parts fit together, and a further step depends on nothing else.
use Rattle.std.proofs.Common.{◌≡◌, ℕ, ◌≤◌, ◌<◌, Bool, true, false, not, if◌then◌else◌, List, [], ◌∷◌, ◌++◌, Option, Some, None, Result, Ok, Err, is_none, refl, sym, ap, subst, ◌∙◌, arith}
use Rattle.std.specs.Prelude.{IfSome}
use Rattle.std.specs.Result.{ForOk}
use Rattle.ble_base.specs.ErrorCodes.{mic_failure}
use Rattle.ble_base.specs.declared.error_codes.ErrCode.{ErrCode}
use Rattle.ble_base.specs.declared.roles.Role.{Role}
use Rattle.enc_phase.specs.Phases.{is_quiet}
use Rattle.instants.specs.declared.indications.Params.{Params}
use Rattle.procedures.specs.procedure_stages.Queue.{waiting_in}
use Rattle.procedures.specs.procedure_values.declared.asks.Ask.{Ask}
use Rattle.procedures.specs.procedure_values.Values.{IsPayloadMax}
use Rattle.procedures.specs.procedure_values.Wants.{IsAsk}
use Rattle.control_part.specs.control_end.Answers.{indication_next}
use Rattle.control_part.specs.control_end.Following.{CanFollow}
use Rattle.control_part.specs.control_end.Held.{held_of as control_held}
use Rattle.phased_rooms.proofs.Few.{few_now}
use Rattle.phased_rooms.proofs.Following.{follows_now}
use Rattle.keyed_control.specs.Keyed.{Keyed, first_keyed}
use Rattle.keyed_control.specs.KeyedSteps.{KeyedStep, Answers, Asks, Opens, Seals, keyed_after, keyed_after_all, phased_step, phased_steps, step_before}
use Rattle.keyed_control.specs.phased_control.Ends.{AllAskInRange}
use Rattle.keyed_control.specs.phased_control.Phased.{Phased, is_quiet_now}
use Rattle.keyed_control.specs.phased_control.Taken.{PhasedStep, role_now}
use Rattle.keyed_control.specs.phased_control.table_laws.Encrypting.{has_encryption}
use Rattle.keyed_control.proofs.Phases.{moves, phase_now, role_now_too}
use Rattle.keyed_control.proofs.phased_control.Agreeing.{agrees_now}
use Rattle.keyed_control.proofs.phased_control.Moving.{keeps_role}
use Rattle.phased_end.specs.Held.{HeldKeyed, held_after, held_of}
use Rattle.phased_end.specs.Moves.{lasts}
use Rattle.phased_end.specs.Reached.{AllMayCome, IsReached, MayCome, forged_if}
use Rattle.phased_end.specs.Taking.{Fits, ending, hearing_forged}
use Rattle.phased_end.proofs.Depending.{step_depends}
use Rattle.phased_end.proofs.Steps.{on_ends, with_ends}

pub fits_now : (role : Role) (max_rx : ℕ) (first : Params) (slot : ℕ) (steps : List KeyedStep)
    → Fits (held_of (keyed_after_all steps (first_keyed role max_rx first slot)))
fits_now role max_rx first slot steps =
    let same = moves role max_rx first slot steps in
    record {
      role =
          ap (λ (s : Phased). role_now s) same ∙ keeps_role role max_rx first slot (phased_steps steps)
          ∙ sym (role_now_too role max_rx first slot steps);
      agrees =
          ap is_quiet (phase_now role max_rx first slot steps)
          ∙ subst (λ (s : Phased). is_quiet_now s ≡ not (has_encryption s.control.table.progress)) (sym same)
          (agrees_now role max_rx first slot (phased_steps steps));
    }

pub steps_depend : (role : Role) (max_rx : ℕ) (first : Params) (slot : ℕ) (steps : List KeyedStep) (step : KeyedStep)
    → let k = keyed_after_all steps (first_keyed role max_rx first slot) in
    held_of (keyed_after step k) ≡ held_after step (held_of k)
steps_depend role max_rx first slot steps step =
    step_depends step (keyed_after_all steps (first_keyed role max_rx first slot))
    (phase_now role max_rx first slot steps)

-- ---- an end that is reached

-- what does not depend on the code with which an end ended the link
forged_keeps : (P : HeldKeyed → Type 0) → ((code : ℕ) (h : HeldKeyed) → P h → P (ending code h))
    → (forged : Bool) (h : HeldKeyed) → P h → P (forged_if forged h)
forged_keeps P keeps false h is = is
forged_keeps P keeps true h is = by (lasts h)
  where
    by : (b : Bool) → P (if b then ending mic_failure h else h)
    by true = keeps mic_failure h is
    by false = is

ending_keeps : (P : HeldKeyed → Type 0) → ((ends : Option ErrCode) (h : HeldKeyed) → P h
    → P (record h { control = record h.control { ends = ends } }))
    → (code : ℕ) (h : HeldKeyed) → P h → P (ending code h)
ending_keeps P keeps code h is = by (is_none h.control.ends)
  where
    by : (b : Bool) → P (record h { control = (if b then record h.control { ends = Some (record { 0 = code }) } else h.control) })
    by true = keeps (Some (record { 0 = code })) h is
    by false = is

-- what holds after all steps and does not depend on that code
module _ (P : HeldKeyed → Type 0)
    (keeps : (ends : Option ErrCode) (h : HeldKeyed) → P h → P (record h { control = record h.control { ends = ends } })) where
  pub holds : (h : HeldKeyed) (r : IsReached h)
      → P (held_of (keyed_after_all r.steps (first_keyed r.role r.max_rx r.first r.slot))) → P h
  holds h r is = subst P (sym r.is) (forged_keeps P (ending_keeps P keeps) r.forged _ is)

pub reached_fits : (h : HeldKeyed) → IsReached h → Fits h
reached_fits h r =
    holds Fits (λ ends g fits. record { role = fits.role; agrees = fits.agrees }) h r
    (fits_now r.role r.max_rx r.first r.slot r.steps)

asks_in_range : (step : KeyedStep) (steps : List PhasedStep) → MayCome step → AllAskInRange steps
    → AllAskInRange (step_before (phased_step step) steps)
asks_in_range (Asks ask) steps may are = (may, are)
asks_in_range (Answers (Ok ask)) steps may are = (may, are)
asks_in_range (Answers (Err code)) steps may are = (tt, are)
asks_in_range (Seals header body) steps may are = are
asks_in_range (Opens header payload) steps may are = are
asks_in_range step steps may are = (tt, are)

all_in_range : (steps : List KeyedStep) → AllMayCome steps → AllAskInRange (phased_steps steps)
all_in_range [] are = tt
all_in_range (step ∷ steps) are = asks_in_range step (phased_steps steps) are.0 (all_in_range steps are.1)

pub reached_follows : (h : HeldKeyed) → IsReached h → (now : ℕ) (quiet : Bool)
    → IfSome (indication_next now quiet h.control) (CanFollow h.control.track)
reached_follows h r now quiet =
    holds (λ (g : HeldKeyed). IfSome (indication_next now quiet g.control) (CanFollow g.control.track))
    (λ ends g is. is) h r
    (subst (λ (s : Phased). IfSome (indication_next now quiet (control_held s.control)) (CanFollow s.control.track))
    (sym (moves r.role r.max_rx r.first r.slot r.steps))
    (follows_now r.role r.max_rx r.first r.slot (phased_steps r.steps) now quiet r.latency
    (all_in_range r.steps r.may_come)))

pub reached_room : (h : HeldKeyed) → IsReached h → waiting_in h.control.table.queue < 24
reached_room h r =
    let few = few_now r.role r.max_rx r.first r.slot (phased_steps r.steps) in
    holds (λ (g : HeldKeyed). waiting_in g.control.table.queue < 24) (λ ends g is. is) h r
    (subst (λ (s : Phased). waiting_in s.control.table.queue < 24)
    (sym (moves r.role r.max_rx r.first r.slot r.steps)) (omega (arith, few)))

-- ---- each call

pub begins_reached : (role : Role) (max_rx : ℕ) (first : Params) (slot : ℕ) → IsPayloadMax max_rx → first.latency ≤ 499
    → IsReached (held_of (first_keyed role max_rx first slot))
begins_reached role max_rx first slot octets latency =
    record {
      role = role;
      max_rx = max_rx;
      first = first;
      slot = slot;
      steps = [];
      forged = false;
      octets = octets;
      latency = latency;
      may_come = tt;
      is = refl;
    }

all_joined : (xs ys : List KeyedStep) (k : Keyed)
    → keyed_after_all (xs ++ ys) k ≡ keyed_after_all ys (keyed_after_all xs k)
all_joined [] ys k = refl
all_joined (x ∷ xs) ys k = all_joined xs ys (keyed_after x k)

may_joined : (steps : List KeyedStep) (step : KeyedStep) → AllMayCome steps → MayCome step
    → AllMayCome (steps ++ step ∷ [])
may_joined [] step are may = (may, tt)
may_joined (first ∷ steps) step are may = (are.0, may_joined steps step are.1 may)

-- one step more, where that is what it is
one_more : (h g : HeldKeyed) (step : KeyedStep) (r : IsReached h) (forged : Bool) → MayCome step
    → g ≡ forged_if forged (held_after step (held_of (keyed_after_all r.steps (first_keyed r.role r.max_rx r.first r.slot)))) → IsReached g
one_more h g step r forged may is =
    let start = first_keyed r.role r.max_rx r.first r.slot in
    record {
      role = r.role;
      max_rx = r.max_rx;
      first = r.first;
      slot = r.slot;
      steps = r.steps ++ step ∷ [];
      forged = forged;
      octets = r.octets;
      latency = r.latency;
      may_come = may_joined r.steps step r.may_come may;
      is =
          is ∙ ap (forged_if forged)
          (sym (steps_depend r.role r.max_rx r.first r.slot r.steps step)
          ∙ sym (ap (λ (k : Keyed). held_of k) (all_joined r.steps (step ∷ []) start)));
    }

-- an end that a forged packet ended seals and opens as before, and does nothing else
forged_after : (step : KeyedStep) (P : HeldKeyed → Type 0) (g : HeldKeyed) → P (hearing_forged (held_after step g))
    → P (hearing_forged g)
    → P (held_after step (hearing_forged g))
forged_after step P =
    on_ends (λ g. P (hearing_forged (held_after step g)) → P (hearing_forged g)
    → P (held_after step (hearing_forged g))) (goes step) (over step)
  where
    goes : (step : KeyedStep) (h : HeldKeyed) → let g = with_ends None h in
        P (hearing_forged (held_after step g)) → P (hearing_forged g) → P (held_after step (hearing_forged g))
    goes (Seals header body) h more same = more
    goes (Opens header payload) h more same = more
    goes step h more same = same

    over : (step : KeyedStep) (h : HeldKeyed) (code : ErrCode) → let g = with_ends (Some code) h in
        P (hearing_forged (held_after step g)) → P (hearing_forged g) → P (held_after step (hearing_forged g))
    over (Seals header body) h code more same = more
    over step h code more same = more

pub reached_after : (step : KeyedStep) (h : HeldKeyed) → MayCome step → IsReached h → IsReached (held_after step h)
reached_after step h may r = by r.forged r.is
  where
    g : HeldKeyed
    g = held_of (keyed_after_all r.steps (first_keyed r.role r.max_rx r.first r.slot))

    by : (forged : Bool) → h ≡ forged_if forged g → IsReached (held_after step h)
    by false is = one_more h (held_after step h) step r false may (ap (held_after step) is)
    by true is =
        subst (λ (x : HeldKeyed). IsReached (held_after step x)) (sym is)
        (forged_after step IsReached g (one_more h (hearing_forged (held_after step g)) step r true may refl)
        (subst IsReached is r))

pub reached_as : (step : KeyedStep) (h new : HeldKeyed) → MayCome step → new ≡ held_after step h → IsReached h
    → IsReached new
reached_as step h new may is r = subst IsReached (sym is) (reached_after step h may r)

pub may_answer : (answer : Result Ask ErrCode) → ForOk answer IsAsk → MayCome (Answers answer)
may_answer (Ok ask) range = range ask refl
may_answer (Err code) range = tt

pub answers_reached : (answer : Result Ask ErrCode) (h new : HeldKeyed) → ForOk answer IsAsk
    → new ≡ held_after (Answers answer) h
    → IsReached h → IsReached new
answers_reached answer h new range is r = reached_as (Answers answer) h new (may_answer answer range) is r

forged_again : (h : HeldKeyed) → hearing_forged (hearing_forged h) ≡ hearing_forged h
forged_again = on_ends (λ h. hearing_forged (hearing_forged h) ≡ hearing_forged h) (λ h. refl) (λ h. λ code. refl)

pub forged_reached : (h new : HeldKeyed) → new ≡ hearing_forged h → IsReached h → IsReached new
forged_reached h new is r =
    record {
      role = r.role;
      max_rx = r.max_rx;
      first = r.first;
      slot = r.slot;
      steps = r.steps;
      forged = true;
      octets = r.octets;
      latency = r.latency;
      may_come = r.may_come;
      is = is ∙ by r.forged r.is;
    }
  where
    g : HeldKeyed
    g = held_of (keyed_after_all r.steps (first_keyed r.role r.max_rx r.first r.slot))

    by : (forged : Bool) → h ≡ forged_if forged g → hearing_forged h ≡ hearing_forged g
    by false same = ap hearing_forged same
    by true same = ap hearing_forged same ∙ forged_again g
