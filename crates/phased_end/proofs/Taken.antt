-- A PDU of the peer that is taken part by part is the step of an end.
use Rattle.std.proofs.Common.{◌≡◌, ℕ, Bool, true, false, not, if◌then◌else◌, Option, Some, None, is_none, refl, sym, ap, subst, ◌∙◌}
use Rattle.ble_base.specs.ErrorCodes.{memory_capacity_exceeded, mic_failure}
use Rattle.ble_base.specs.declared.error_codes.ErrCode.{ErrCode}
use Rattle.ble_base.specs.declared.roles.Role.{Role}
use Rattle.ble_base.specs.declared.roles.Role.TheVariants.{Central, Peripheral}
use Rattle.data_pdu.specs.declared.ctrl.Ctrl.{Ctrl}
use Rattle.data_pdu.specs.declared.ctrl.CtrlRead.{CtrlRead}
use Rattle.data_pdu.specs.declared.ctrl.CtrlRead.TheVariants.{Bare, Known, Unknown}
use Rattle.enc_phase.specs.declared.classes.PduClass.TheVariants.{Data, Empty, Other, Refusal}
use Rattle.enc_phase.specs.declared.facts.PhaseFacts.{PhaseFacts}
use Rattle.enc_phase.specs.declared.facts.Transition.TheVariants.{Ask as AskTransition, Confirm, Pause, Refuse, Unlock}
use Rattle.enc_phase.specs.Phases.{is_asked, is_quiet, phase_starting}
use Rattle.enc_phase.specs.Sealing.{EncEnd, after_start}
use Rattle.enc_phase.specs.Taking.{allows, ctrl_class, is_unknown}
use Rattle.procedures.specs.procedure_stages.Kinds.{role_of}
use Rattle.control_part.specs.control_end.control_model.Control.{Takes as control_takes}
use Rattle.control_part.specs.control_end.Answers.{taken_of}
use Rattle.control_part.specs.control_end.Held.{Held, held_after as control_after}
use Rattle.control_part.proofs.control_end.Depending.{step_held}
use Rattle.keyed_control.specs.declared.material.KeyMaterial.{KeyMaterial}
use Rattle.keyed_control.specs.declared.material.Response.{Response}
use Rattle.keyed_control.specs.Keyed.{session_of}
use Rattle.keyed_control.specs.KeyedSteps.{Takes, TakesData, end_changed, with_read}
use Rattle.keyed_control.specs.phased_control.PhaseChanges.{Change, Moves, Starts, Stays, Took, answer_change, changed, handed_change}
use Rattle.keyed_control.specs.phased_control.Phased.{Phased, is_open_now}
use Rattle.keyed_control.specs.phased_control.Steps.{read_answer, seen_by_procedures}
use Rattle.keyed_control.specs.phased_control.Taken.{Response as Drawn, answered_if_quiet, answered_kept, ciphered, class_of_read, ended_with as phased_ended, handed_on, keeping as phased_keeping, role_now, seen_if}
use Rattle.keyed_control.specs.phased_control.table_laws.Encrypting.{has_encryption}
use Rattle.keyed_control.proofs.phased_control.AnswerParts.{key_answering, phase_answering}
use Rattle.keyed_control.proofs.phased_control.Answering.{answers, start_stays, with_answer}
use Rattle.keyed_control.proofs.phased_control.PhaseFacts.{runs}
use Rattle.keyed_control.proofs.phased_control.control_model.Moving.{same_role}
use Rattle.phased_end.specs.Answers.{quiet_now}
use Rattle.phased_end.specs.Held.{HeldKeyed, held_after, held_of, phased_of}
use Rattle.phased_end.specs.Taking.{Fits, does_keep, drawn, ending, handed, handed_answered, handed_taken, handing, is_allowed, is_refused, keeping, kept_if_quiet, lacks_room, seen_as, taking_kept, took, took_data}
use Rattle.phased_end.proofs.Refusals.{refusal_is_known, refusal_is_seen}
use Rattle.phased_end.proofs.Replies.{answers_at, phase_at, stays_material, took_material}
use Rattle.phased_end.proofs.Steps.{on_ends, with_ends}

-- ---- the phase of an end that changes

started_phase : (m : KeyMaterial) (e : EncEnd) → (end_changed Starts m e).phase ≡ phase_starting e.phase
started_phase m e = by (is_asked e.phase) refl
  where
    by : (b : Bool) → is_asked e.phase ≡ b → (if b then after_start (session_of m) e else e).phase ≡ phase_starting e.phase
    by true is = refl
    by false is = sym (start_stays e.phase is)

changed_phase : (change : Change) (m : KeyMaterial) (e : EncEnd) → (end_changed change m e).phase ≡ changed change e.phase
changed_phase Stays m e = refl
changed_phase (Took pdu) m e = refl
changed_phase Starts m e = started_phase m e
changed_phase (Moves AskTransition) m e = refl
changed_phase (Moves Refuse) m e = refl
changed_phase (Moves Confirm) m e = refl
changed_phase (Moves Pause) m e = refl
changed_phase (Moves Unlock) m e = refl

-- a PDU that is none of the encryption
other_change : (role : Role) (enc : Bool) (p : PhaseFacts) → answer_change role Other enc p ≡ Took Other
other_change Central enc p = refl
other_change Peripheral enc p = refl

empty_change : (role : Role) (enc : Bool) (p : PhaseFacts) → answer_change role Empty enc p ≡ Took Empty
empty_change Central enc p = refl
empty_change Peripheral enc p = refl

none_of : (o : Option ErrCode) → is_none o ≡ true → o ≡ None
none_of None is = refl
none_of (Some code) is = absurd (cc)

-- an end that did not end the link, with the role of its table
abbrev fitted : HeldKeyed → HeldKeyed
fitted h =
    record h {
      control = record h.control { ends = None };
      end = record h.end { role = role_of h.control.table.progress };
    }

module _ (slot : ℕ) (response : Response) (read : CtrlRead) (h : HeldKeyed) (agrees : is_quiet h.end.phase ≡ not (has_encryption h.control.table.progress)) where
  abbrev g : HeldKeyed
  g = fitted h

  abbrev s : Phased
  s = phased_of g

  abbrev r : Drawn
  r = drawn response

  abbrev t : Phased
  t = seen_by_procedures read slot s

  abbrev enc : Bool
  enc = has_encryption t.control.table.progress

  abbrev role : Role
  role = role_of h.control.table.progress

  -- what is held with this phased part, as the phase changes so
  abbrev makes : Phased → Change → HeldKeyed
  makes v change =
      let m = with_read role read r change h.end.phase h.material in
      held_of (record { phased = v; material = m; end = end_changed change m g.end })

  handing_makes : handing slot read g ≡ makes t (Took (class_of_read read))
  handing_makes =
      ap (λ (m : KeyMaterial). record (makes t (Took (class_of_read read))) { material = m }) (sym (took_material role read r h.end.phase h.material))

  role_seen : role_now t ≡ role
  role_seen = same_role role (control_takes (seen_as read g) slot (quiet_now g)) s.control refl

  answer_is : ciphered r read t
      ≡ with_answer (read_answer role r read t.phase) (phase_answering role read enc t.phase) (key_answering role read t.phase (is_open_now t) t.asks_key) t
  answer_is =
      answers t r read
      ∙ ap (λ (ρ : Role). with_answer (read_answer ρ r read t.phase) (phase_answering ρ read enc t.phase) (key_answering ρ read t.phase (is_open_now t) t.asks_key) t) role_seen

  -- ---- what was kept

  kept_makes : (u : Phased) (change : Change) → u.phase ≡ (makes u change).end.phase → kept_if_quiet slot (makes u change) ≡ makes (answered_if_quiet slot u) change
  kept_makes u change same =
      subst (λ (b : Bool). kept_if_quiet slot (makes u change) ≡ makes (if b then answered_kept slot u.kept u else u) change) (sym (ap is_quiet same))
      (by (quiet_now (makes u change)) u.kept refl)
    where
      by : (b : Bool) (kept : Option Ctrl) → u.kept ≡ kept
          → (if b then taking_kept slot kept (makes u change) else makes u change) ≡ makes (if b then answered_kept slot kept u else u) change
      by false kept is = refl
      by true None is = refl
      by true (Some ctrl) is =
          ap (λ (c : Held). record (makes u change) { control = c; kept = None }) (sym (step_held (control_takes (Known ctrl) slot true) u.control))

-- ---- a PDU that the procedures see

module _ (slot : ℕ) (response : Response) (h : HeldKeyed) (agrees : is_quiet h.end.phase ≡ not (has_encryption h.control.table.progress)) where
  -- a refusal of the own encryption is seen in what the procedures give
  refused_agrees : (ctrl : Ctrl) → (t slot response (Known ctrl) h agrees).control.ends ≡ None
      → role_of h.control.table.progress ≡ Central → ctrl_class ctrl ≡ Refusal → is_quiet h.end.phase ≡ false
      → is_refused (handed_taken slot (Known ctrl) (fitted h)).refused ≡ not (enc slot response (Known ctrl) h agrees)
  refused_agrees ctrl lasts at class loud =
      let k : Held = record h.control { ends = None } in
      let q = is_quiet h.end.phase in
      let unknown : is_unknown h.end.phase (role_of h.control.table.progress) (ctrl_class ctrl) ≡ false =
      ap (is_unknown h.end.phase (role_of h.control.table.progress)) class ∙ refusal_is_known h.end.phase (role_of h.control.table.progress) in
      let has : has_encryption h.control.table.progress ≡ true = runs (has_encryption h.control.table.progress) (sym loud ∙ agrees) in
      subst
      (λ (seen : CtrlRead). (control_after (control_takes seen slot q) k).ends ≡ None
      → is_refused (taken_of seen slot q k).refused ≡ not (has_encryption (control_after (control_takes seen slot q) k).table.progress))
      (sym (ap (λ (b : Bool). seen_if b (Known ctrl)) unknown)) (refusal_is_seen ctrl slot q h.control at has class) lasts

  answered_makes : (read : CtrlRead) → (t slot response read h agrees).control.ends ≡ None → is_allowed read (fitted h) ≡ true
      → handed_answered slot response read (fitted h)
      ≡ makes slot response read h agrees (ciphered (drawn response) read (t slot response read h agrees))
      (answer_change (role_of h.control.table.progress) (class_of_read read) (enc slot response read h agrees) h.end.phase)
  answered_makes (Known ctrl) lasts may =
      answers_at (fitted h) (t slot response (Known ctrl) h agrees).control h.material (fitted h).end h.asks_key
      (is_refused (handed_taken slot (Known ctrl) (fitted h)).refused) (enc slot response (Known ctrl) h agrees) response (role_of h.control.table.progress) ctrl may
      (refused_agrees ctrl lasts)
      ∙ sym (ap (λ (v : Phased). makes slot response (Known ctrl) h agrees v (answer_change (role_of h.control.table.progress) (ctrl_class ctrl) (enc slot response (Known ctrl) h agrees) h.end.phase))
      (answer_is slot response (Known ctrl) h agrees))
  answered_makes (Unknown opcode) lasts may =
      handing_makes slot response (Unknown opcode) h agrees
      ∙ sym (ap (makes slot response (Unknown opcode) h agrees (t slot response (Unknown opcode) h agrees))
      (other_change (role_of h.control.table.progress) (enc slot response (Unknown opcode) h agrees) h.end.phase))
  answered_makes Bare lasts may =
      handing_makes slot response Bare h agrees
      ∙ sym (ap (makes slot response Bare h agrees (t slot response Bare h agrees))
      (empty_change (role_of h.control.table.progress) (enc slot response Bare h agrees) h.end.phase))

  phase_makes : (read : CtrlRead) → is_allowed read (fitted h) ≡ true
      → let change = answer_change (role_of h.control.table.progress) (class_of_read read) (enc slot response read h agrees) h.end.phase in
      (ciphered (drawn response) read (t slot response read h agrees)).phase ≡ changed change h.end.phase
  phase_makes (Known ctrl) may =
      ap (λ (v : Phased). v.phase) (answer_is slot response (Known ctrl) h agrees)
      ∙ phase_at (role_of h.control.table.progress) ctrl (enc slot response (Known ctrl) h agrees) h.end.phase may
  phase_makes (Unknown opcode) may =
      sym (ap (λ (change : Change). changed change h.end.phase) (other_change (role_of h.control.table.progress) (enc slot response (Unknown opcode) h agrees) h.end.phase))
  phase_makes Bare may =
      sym (ap (λ (change : Change). changed change h.end.phase) (empty_change (role_of h.control.table.progress) (enc slot response Bare h agrees) h.end.phase))

  handed_makes : (read : CtrlRead) → is_allowed read (fitted h) ≡ true
      → handed slot response read (fitted h)
      ≡ makes slot response read h agrees (handed_on slot (drawn response) read (phased_of (fitted h))) (handed_change read slot (phased_of (fitted h)))
  handed_makes read may = by (is_none v.control.ends) refl
    where
      v : Phased
      v = t slot response read h agrees

      u : Phased
      u = ciphered (drawn response) read v

      change : Change
      change = answer_change (role_of h.control.table.progress) (class_of_read read) (enc slot response read h agrees) h.end.phase

      by : (b : Bool) → is_none v.control.ends ≡ b
          → (if b then kept_if_quiet slot (handed_answered slot response read (fitted h)) else handing slot read (fitted h))
          ≡ makes slot response read h agrees (if b then answered_if_quiet slot u else v) (if b then change else Took (class_of_read read))
      by true is =
          ap (kept_if_quiet slot) (answered_makes read (none_of v.control.ends is) may)
          ∙ kept_makes slot response read h agrees u change (phase_makes read may ∙ sym (changed_phase change _ (fitted h).end))
      by false is = handing_makes slot response read h agrees

  -- ---- every PDU

  fitted_takes : (read : CtrlRead) (a k f : Bool) → is_allowed read (fitted h) ≡ a
      → (if a then (if k then keeping read (fitted h) else (if f then ending memory_capacity_exceeded (fitted h) else handed slot response read (fitted h)))
      else ending mic_failure (fitted h))
      ≡ makes slot response read h agrees
      (if a then (if k then phased_keeping read (phased_of (fitted h)) else (if f then phased_ended memory_capacity_exceeded (phased_of (fitted h)) else handed_on slot (drawn response) read (phased_of (fitted h))))
      else phased_ended mic_failure (phased_of (fitted h)))
      (if a then (if k then Took (class_of_read read) else (if f then Stays else handed_change read slot (phased_of (fitted h)))) else Stays)
  fitted_takes read false k f is =
      ap (λ (m : KeyMaterial). record (ending mic_failure (fitted h)) { material = m }) (sym (stays_material (role_of h.control.table.progress) read (drawn response) h.end.phase h.material))
  fitted_takes read true true f is =
      ap (λ (m : KeyMaterial). record (keeping read (fitted h)) { material = m }) (sym (took_material (role_of h.control.table.progress) read (drawn response) h.end.phase h.material))
  fitted_takes read true false true is =
      ap (λ (m : KeyMaterial). record (ending memory_capacity_exceeded (fitted h)) { material = m }) (sym (stays_material (role_of h.control.table.progress) read (drawn response) h.end.phase h.material))
  fitted_takes read true false false is = handed_makes read is

  takes_fitted : (read : CtrlRead) → took slot response read (fitted h) ≡ held_after (Takes read slot (drawn response)) (fitted h)
  takes_fitted (Known ctrl) = fitted_takes (Known ctrl) (is_allowed (Known ctrl) (fitted h)) (does_keep (Known ctrl) (fitted h)) (lacks_room (Known ctrl) (fitted h)) refl
  takes_fitted (Unknown opcode) =
      fitted_takes (Unknown opcode) (is_allowed (Unknown opcode) (fitted h)) (does_keep (Unknown opcode) (fitted h)) (lacks_room (Unknown opcode) (fitted h)) refl
  takes_fitted Bare = fitted_takes Bare (is_allowed Bare (fitted h)) (does_keep Bare (fitted h)) (lacks_room Bare (fitted h)) refl

pub takes_so : (read : CtrlRead) (slot : ℕ) (response : Response) (h : HeldKeyed) → Fits h → took slot response read h ≡ held_after (Takes read slot (drawn response)) h
takes_so read slot response = on_ends (λ h. Fits h → took slot response read h ≡ held_after (Takes read slot (drawn response)) h) goes (λ h. λ code. λ fits. refl)
  where
    goes : (h : HeldKeyed) → Fits (with_ends None h) → took slot response read (with_ends None h) ≡ held_after (Takes read slot (drawn response)) (with_ends None h)
    goes h fits =
        subst
        (λ (role : Role). let k = record (with_ends None h) { end = record h.end { role = role } } in
        took slot response read k ≡ held_after (Takes read slot (drawn response)) k)
        fits.role (takes_fitted slot response h fits.agrees read)

-- data likewise
pub takes_data_so : (h : HeldKeyed) → Fits h → took_data h ≡ held_after TakesData h
takes_data_so = on_ends (λ h. Fits h → took_data h ≡ held_after TakesData h) goes over
  where
    over : (h : HeldKeyed) (code : ErrCode) → Fits (with_ends (Some code) h) → took_data (with_ends (Some code) h) ≡ held_after TakesData (with_ends (Some code) h)
    over h code fits = same (allows h.end.phase h.end.role Data)
      where
        same : (b : Bool) → (if b then with_ends (Some code) h else ending mic_failure (with_ends (Some code) h)) ≡ with_ends (Some code) h
        same true = refl
        same false = refl

    goes : (h : HeldKeyed) → Fits (with_ends None h) → took_data (with_ends None h) ≡ held_after TakesData (with_ends None h)
    goes h fits =
        subst
        (λ (role : Role). let k = record (with_ends None h) { end = record h.end { role = role } } in took_data k ≡ held_after TakesData k)
        fits.role (fitting (allows h.end.phase (role_of h.control.table.progress) Data))
      where
        k : HeldKeyed
        k = fitted h

        fitting : (b : Bool)
            → (if b then k else ending mic_failure k)
            ≡ held_of (record { phased = (if b then phased_of k else phased_ended mic_failure (phased_of k)); material = k.material; end = k.end })
        fitting true = refl
        fitting false = refl
