-- The phased part of an end moves by phased steps, and its session is in the phase of that part.
use Rattle.std.proofs.Common.{◌≡◌, ℕ, Bool, true, false, ◌||◌, if◌then◌else◌, List, [], ◌∷◌, ◌++◌, Option, Some, None, is_none, refl, sym, ap, subst, ◌∙◌}
use Rattle.ble_base.specs.declared.error_codes.ErrCode.{ErrCode}
use Rattle.ble_base.specs.declared.roles.Role.{Role}
use Rattle.instants.specs.declared.indications.Params.{Params}
use Rattle.phased_control.specs.enc_phase.declared.facts.PhaseFacts.{PhaseFacts}
use Rattle.phased_control.specs.enc_phase.declared.facts.Transition.TheVariants.{Ask as AskTransition, Confirm, Pause, Refuse, Unlock}
use Rattle.phased_control.specs.enc_phase.Phases.{is_asked, phase_starting}
use Rattle.phased_control.specs.enc_phase.Sealing.{EncEnd, after_opening, after_start, is_right}
use Rattle.phased_control.specs.PhaseChanges.{Change, Moves, Starts, Stays, Took, change_of, changed}
use Rattle.phased_control.specs.Phased.{Phased, first_phased}
use Rattle.phased_control.specs.Taken.{PhasedStep, phased_after, phased_after_all, phased_moved}
use Rattle.phased_control.specs.Taken.{Enters as phased_enters, GivesKey as phased_gives_key, LacksKey as phased_lacks_key, SeesAcknowledged as phased_sees_acknowledged, Takes as phased_takes}
use Rattle.phased_control.proofs.Answering.{start_stays}
use Rattle.phased_control.proofs.Changing.{phase_changes}
use Rattle.keyed_control.specs.declared.material.KeyMaterial.{KeyMaterial}
use Rattle.keyed_control.specs.Keyed.{Keyed, first_keyed, session_of}
use Rattle.keyed_control.specs.KeyedSteps.{KeyedStep, Answers, Asks, Disconnects, Enters, GivesKey, LacksKey, Opens, Seals, SeesAcknowledged, Sends, Takes, TakesData, end_changed, end_opening, is_of_session, keyed_after, keyed_after_all, keyed_moved, phased_step, phased_steps, step_before}

-- ---- the phased part

abbrev moved_by : Option PhasedStep → Phased → Phased
moved_by None s = s
moved_by (Some step) s = phased_moved step s

phased_part : (step : KeyedStep) (k : Keyed) → (keyed_moved step k).phased ≡ moved_by (phased_step step) k.phased
phased_part (Enters slot) k = refl
phased_part (Asks ask) k = refl
phased_part (Answers answer) k = refl
phased_part (GivesKey ltk) k = refl
phased_part LacksKey k = refl
phased_part (Disconnects reason) k = refl
phased_part (Sends slot) k = refl
phased_part SeesAcknowledged k = refl
phased_part (Takes read slot response) k = refl
phased_part TakesData k = refl
phased_part (Seals header body) k = refl
phased_part (Opens header payload) k = refl

-- one step of the phased part, if this is one
abbrev pub after_one : Option PhasedStep → Phased → Phased
after_one None s = s
after_one (Some step) s = phased_after step s

pub phased_once : (step : KeyedStep) (k : Keyed) → (keyed_after step k).phased ≡ after_one (phased_step step) k.phased
phased_once step k = by (is_of_session step || is_none k.phased.control.ends) ∙ joins step
  where
    by : (b : Bool) → (if b then keyed_moved step k else k).phased ≡ (if b then moved_by (phased_step step) k.phased else k.phased)
    by true = phased_part step k
    by false = refl

    joins : (step : KeyedStep)
        → (if is_of_session step || is_none k.phased.control.ends then moved_by (phased_step step) k.phased else k.phased) ≡ after_one (phased_step step) k.phased
    joins (Seals header body) = refl
    joins step = refl

before : (p : Option PhasedStep) (steps : List PhasedStep) (s : Phased) → phased_after_all steps (after_one p s) ≡ phased_after_all (step_before p steps) s
before None steps s = refl
before (Some p) steps s = refl

pub phased_all : (steps : List KeyedStep) (k : Keyed) → (keyed_after_all steps k).phased ≡ phased_after_all (phased_steps steps) k.phased
phased_all [] k = refl
phased_all (step ∷ steps) k =
    phased_all steps (keyed_after step k) ∙ ap (phased_after_all (phased_steps steps)) (phased_once step k)
    ∙ before (phased_step step) (phased_steps steps) k.phased

-- ---- the phase of the session

started_phase : (m : KeyMaterial) (e : EncEnd) → (end_changed Starts m e).phase ≡ phase_starting e.phase
started_phase m e = by (is_asked e.phase) refl
  where
    by : (b : Bool) → is_asked e.phase ≡ b → (if b then after_start (session_of m) e else e).phase ≡ phase_starting e.phase
    by true is = refl
    by false is = sym (start_stays e.phase is)

changed_phase : (change : Change) (m : KeyMaterial) (e : EncEnd) → (end_changed change m e).phase ≡ changed change e.phase
changed_phase Stays m e = refl
changed_phase (Took pdu) m e = refl
changed_phase Starts m e = started_phase m e
changed_phase (Moves AskTransition) m e = refl
changed_phase (Moves Refuse) m e = refl
changed_phase (Moves Confirm) m e = refl
changed_phase (Moves Pause) m e = refl
changed_phase (Moves Unlock) m e = refl

changed_role : (change : Change) (m : KeyMaterial) (e : EncEnd) → (end_changed change m e).role ≡ e.role
changed_role Stays m e = refl
changed_role (Took pdu) m e = refl
changed_role Starts m e = by (is_asked e.phase)
  where
    by : (b : Bool) → (if b then after_start (session_of m) e else e).role ≡ e.role
    by true = refl
    by false = refl
changed_role (Moves AskTransition) m e = refl
changed_role (Moves Refuse) m e = refl
changed_role (Moves Confirm) m e = refl
changed_role (Moves Pause) m e = refl
changed_role (Moves Unlock) m e = refl

opening_keeps : (header : ℕ) (payload : List ℕ) (e : EncEnd) (X : Type 0) (f : EncEnd → X) → f (after_opening e) ≡ f e → f (end_opening header payload e) ≡ f e
opening_keeps header payload e X f is = by (is_right e header payload)
  where
    by : (b : Bool) → f (if b then after_opening e else e) ≡ f e
    by true = is
    by false = refl

-- the end changes as the phase does, where this is a phased step
abbrev changed_by : Option PhasedStep → Phased → PhaseFacts → PhaseFacts
changed_by None s phase = phase
changed_by (Some step) s phase = changed (change_of step s) phase

moved_phase : (step : KeyedStep) (k : Keyed) → (keyed_moved step k).end.phase ≡ changed_by (phased_step step) k.phased k.end.phase
moved_phase (Enters slot) k = changed_phase (change_of (phased_enters slot) k.phased) _ k.end
moved_phase (Asks ask) k = refl
moved_phase (Answers answer) k = refl
moved_phase (GivesKey ltk) k = changed_phase (change_of phased_gives_key k.phased) _ k.end
moved_phase LacksKey k = changed_phase (change_of phased_lacks_key k.phased) _ k.end
moved_phase (Disconnects reason) k = refl
moved_phase (Sends slot) k = refl
moved_phase SeesAcknowledged k = changed_phase (change_of phased_sees_acknowledged k.phased) _ k.end
moved_phase (Takes read slot response) k = changed_phase (change_of (phased_takes read slot response) k.phased) _ k.end
moved_phase TakesData k = refl
moved_phase (Seals header body) k = refl
moved_phase (Opens header payload) k = opening_keeps header payload k.end PhaseFacts (λ e. e.phase) refl

moved_role : (step : KeyedStep) (k : Keyed) → (keyed_moved step k).end.role ≡ k.end.role
moved_role (Enters slot) k = changed_role (change_of (phased_enters slot) k.phased) _ k.end
moved_role (Asks ask) k = refl
moved_role (Answers answer) k = refl
moved_role (GivesKey ltk) k = changed_role (change_of phased_gives_key k.phased) _ k.end
moved_role LacksKey k = changed_role (change_of phased_lacks_key k.phased) _ k.end
moved_role (Disconnects reason) k = refl
moved_role (Sends slot) k = refl
moved_role SeesAcknowledged k = changed_role (change_of phased_sees_acknowledged k.phased) _ k.end
moved_role (Takes read slot response) k = changed_role (change_of (phased_takes read slot response) k.phased) _ k.end
moved_role TakesData k = refl
moved_role (Seals header body) k = refl
moved_role (Opens header payload) k = opening_keeps header payload k.end Role (λ e. e.role) refl

-- ---- what each step keeps holds after all steps

joined : (xs ys : List PhasedStep) (s : Phased) → phased_after_all (xs ++ ys) s ≡ phased_after_all ys (phased_after_all xs s)
joined [] ys s = refl
joined (x ∷ xs) ys s = joined xs ys (phased_after x s)

module _ (role : Role) (max_rx : ℕ) (first : Params) (slot : ℕ) where
  -- the phased part of an end is that after these phased steps
  abbrev pub IsAfter : List PhasedStep → Keyed → Type 0
  IsAfter front k = k.phased ≡ phased_after_all front (first_phased role max_rx first slot)

  more : (front : List PhasedStep) (step : KeyedStep) (k : Keyed) → IsAfter front k → IsAfter (front ++ step_before (phased_step step) []) (keyed_after step k)
  more front step k is =
      phased_once step k ∙ ap (after_one (phased_step step)) is ∙ before (phased_step step) [] _
      ∙ sym (joined front (step_before (phased_step step) []) (first_phased role max_rx first slot))

  walk : (P : Keyed → Type 0) → ((front : List PhasedStep) (step : KeyedStep) (k : Keyed) → IsAfter front k → P k → P (keyed_after step k))
      → (front : List PhasedStep) (steps : List KeyedStep) (k : Keyed) → IsAfter front k → P k → P (keyed_after_all steps k)
  walk P keeps front [] k is h = h
  walk P keeps front (step ∷ steps) k is h =
      walk P keeps (front ++ step_before (phased_step step) []) steps (keyed_after step k) (more front step k is) (keeps front step k is h)

  pub always : (P : Keyed → Type 0) → P (first_keyed role max_rx first slot)
      → ((front : List PhasedStep) (step : KeyedStep) (k : Keyed) → IsAfter front k → P k → P (keyed_after step k))
      → (steps : List KeyedStep) → P (keyed_after_all steps (first_keyed role max_rx first slot))
  always P h keeps steps = walk P keeps [] steps (first_keyed role max_rx first slot) refl h

  -- ---- the session is in the phase of the procedures

  pub record InPhase (k : Keyed) : Type 0 where
    pub phase : k.end.phase ≡ k.phased.phase
    pub role_too : k.end.role ≡ role

  changes_now : (front : List PhasedStep) (s : Phased) → s ≡ phased_after_all front (first_phased role max_rx first slot) → s.control.ends ≡ None → (p : Option PhasedStep)
      → (after_one p s).phase ≡ changed_by p s s.phase
  changes_now front s is lasts None = refl
  changes_now front s is lasts (Some p) =
      subst (λ (t : Phased). t.control.ends ≡ None → (phased_after p t).phase ≡ changed (change_of p t) t.phase) (sym is)
      (phase_changes role max_rx first slot front p) lasts

  -- a step of the phased part, at an end that ended the link and at one that did not
  moves_in_phase : (front : List PhasedStep) (step : KeyedStep) (k : Keyed) → is_of_session step ≡ false → IsAfter front k → InPhase k
      → InPhase (keyed_after step k)
  moves_in_phase front step k other is h = by k.phased.control.ends refl
    where
      test : (ends : Option ErrCode) → k.phased.control.ends ≡ ends → is_none ends ≡ is_of_session step || is_none k.phased.control.ends
      test ends at =
          sym (ap (λ (b : Bool). b || is_none k.phased.control.ends) other ∙ ap (λ (ends : Option ErrCode). is_none ends) at)

      by : (ends : Option ErrCode) → k.phased.control.ends ≡ ends → InPhase (keyed_after step k)
      by (Some code) over = subst (λ (b : Bool). InPhase (if b then keyed_moved step k else k)) (test (Some code) over) h
      by None lasts =
          let phase : (keyed_after step k).end.phase ≡ changed_by (phased_step step) k.phased k.end.phase =
          subst (λ (b : Bool). (if b then keyed_moved step k else k).end.phase ≡ changed_by (phased_step step) k.phased k.end.phase)
          (test None lasts) (moved_phase step k) in
          record {
            phase =
                phase ∙ ap (changed_by (phased_step step) k.phased) h.phase ∙ sym (changes_now front k.phased is lasts (phased_step step))
                ∙ sym (ap (λ (s : Phased). s.phase) (phased_once step k));
            role_too =
                subst (λ (b : Bool). (if b then keyed_moved step k else k).end.role ≡ k.end.role) (test None lasts) (moved_role step k) ∙ h.role_too;
          }

  stays_in_phase : (front : List PhasedStep) (step : KeyedStep) (k : Keyed) → IsAfter front k → InPhase k → InPhase (keyed_after step k)
  stays_in_phase front (Seals header body) k is h = record { phase = h.phase; role_too = h.role_too }
  stays_in_phase front (Opens header payload) k is h =
      record {
        phase = opening_keeps header payload k.end PhaseFacts (λ e. e.phase) refl ∙ h.phase;
        role_too = opening_keeps header payload k.end Role (λ e. e.role) refl ∙ h.role_too;
      }
  stays_in_phase front step k is h = moves_in_phase front step k refl is h

  pub in_phase : (steps : List KeyedStep) → InPhase (keyed_after_all steps (first_keyed role max_rx first slot))
  in_phase = always InPhase (record { phase = refl; role_too = refl }) stays_in_phase

-- ---- the laws

pub moves : (role : Role) (max_rx : ℕ) (first : Params) (slot : ℕ) (steps : List KeyedStep)
    → (keyed_after_all steps (first_keyed role max_rx first slot)).phased ≡ phased_after_all (phased_steps steps) (first_phased role max_rx first slot)
moves role max_rx first slot steps = phased_all steps (first_keyed role max_rx first slot)

pub phase_now : (role : Role) (max_rx : ℕ) (first : Params) (slot : ℕ) (steps : List KeyedStep)
    → let k = keyed_after_all steps (first_keyed role max_rx first slot) in
    k.end.phase ≡ k.phased.phase
phase_now role max_rx first slot steps = (in_phase role max_rx first slot steps).phase

pub role_now_too : (role : Role) (max_rx : ℕ) (first : Params) (slot : ℕ) (steps : List KeyedStep)
    → (keyed_after_all steps (first_keyed role max_rx first slot)).end.role ≡ role
role_now_too role max_rx first slot steps = (in_phase role max_rx first slot steps).role_too
