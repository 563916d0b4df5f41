-- What answers a PDU of the peer makes the step of an end, part by part.
use Rattle.std.proofs.Common.{◌≡◌, ℕ, ◌==◌, Bool, true, false, not, if◌then◌else◌, Option, Some, refl, sym, ap, ◌∙◌}
use Rattle.ble_base.specs.declared.roles.Role.{Role}
use Rattle.ble_base.specs.declared.roles.Role.TheVariants.{Central, Peripheral}
use Rattle.data_pdu.specs.declared.ctrl.Ctrl.{Ctrl}
use Rattle.data_pdu.specs.declared.ctrl.Ctrl.TheVariants.{EncReq, EncRsp, PauseEncReq, PauseEncRsp, RejectExtInd, RejectInd, StartEncReq, StartEncRsp}
use Rattle.data_pdu.specs.declared.ctrl.CtrlRead.{CtrlRead}
use Rattle.data_pdu.specs.declared.ctrl.CtrlRead.TheVariants.{Bare, Known, Unknown}
use Rattle.enc_phase.specs.declared.classes.PduClass.TheVariants.{EncRsp as enc_rsp, Other, Refusal}
use Rattle.enc_phase.specs.declared.facts.PhaseFacts.{PhaseFacts}
use Rattle.enc_phase.specs.declared.facts.PhaseFacts.TheVariants.{Asked, Clear, HalfClear, HalfKeyed, Pausing, Secure}
use Rattle.enc_phase.specs.declared.facts.Transition.{Transition}
use Rattle.enc_phase.specs.declared.facts.Transition.TheVariants.{Ask as AskTransition, Confirm, Pause, Refuse, Unlock}
use Rattle.enc_phase.specs.Phases.{is_asked, is_quiet, may_follow, phase_after, phase_starting}
use Rattle.enc_phase.specs.Sealing.{EncEnd, after_taking, after_transition}
use Rattle.enc_phase.specs.Taking.{allows, ctrl_class, phase_taking}
use Rattle.procedures.specs.procedure_stages.Closing.{is_open}
use Rattle.control_part.specs.control_end.control_model.Control.{Control, Owes, after_all}
use Rattle.control_part.specs.control_end.Held.{Held, held_of as control_held}
use Rattle.control_part.proofs.control_end.Depending.{step_held}
use Rattle.keyed_control.specs.declared.material.KeyMaterial.{KeyMaterial}
use Rattle.keyed_control.specs.declared.material.Response.{Response}
use Rattle.keyed_control.specs.Keyed.{session_of}
use Rattle.keyed_control.specs.KeyedSteps.{end_changed, end_started, with_read}
use Rattle.keyed_control.specs.phased_control.PhaseChanges.{Change, Moves, Stays, Took, answer_change, central_change, changed, moves_if, peripheral_change, starts_if}
use Rattle.keyed_control.specs.phased_control.Steps.{ctrl_answer, ctrl_if, owed_steps}
use Rattle.keyed_control.specs.phased_control.Taken.{Response as Drawn, class_of_read, response_ctrl}
use Rattle.keyed_control.proofs.phased_control.AnswerParts.{ctrl_key, ctrl_phase, refused_phase}
use Rattle.keyed_control.proofs.phased_control.Answering.{IsPlain, phase_stays, plain_ask, plain_confirm, plain_pause, plain_unlock, start_stays}
use Rattle.phased_end.specs.Changes.{end_moved}
use Rattle.phased_end.specs.Held.{HeldKeyed}
use Rattle.phased_end.specs.Moves.{owing}
use Rattle.phased_end.specs.Taking.{answering_at, drawn, refusing, with_rsp}

-- ---- the material of the keys

pub stays_material : (role : Role) (read : CtrlRead) (response : Drawn) (phase : PhaseFacts) (m : KeyMaterial) → with_read role read response Stays phase m ≡ m
stays_material Peripheral (Known (EncReq rand ediv skd_m iv_m)) response phase m = refl
stays_material Central (Known (EncRsp skd_s iv_s)) response phase m = refl
stays_material Peripheral (Known ctrl) response phase m = refl
stays_material Central (Known ctrl) response phase m = refl
stays_material Central (Unknown opcode) response phase m = refl
stays_material Peripheral (Unknown opcode) response phase m = refl
stays_material Central Bare response phase m = refl
stays_material Peripheral Bare response phase m = refl

rsp_taken : (skd_s iv_s : ℕ) (response : Drawn) (phase : PhaseFacts) (m : KeyMaterial)
    → with_read Central (Known (EncRsp skd_s iv_s)) response (Took enc_rsp) phase m ≡ with_rsp Central (Known (EncRsp skd_s iv_s)) phase m
rsp_taken skd_s iv_s response (Asked after_pause false kept) m = refl
rsp_taken skd_s iv_s response (Asked after_pause true kept) m = refl
rsp_taken skd_s iv_s response Clear m = refl
rsp_taken skd_s iv_s response phase m = refl

pub took_material : (role : Role) (read : CtrlRead) (response : Drawn) (phase : PhaseFacts) (m : KeyMaterial)
    → with_read role read response (Took (class_of_read read)) phase m ≡ with_rsp role read phase m
took_material Peripheral (Known (EncReq rand ediv skd_m iv_m)) response phase m = refl
took_material Central (Known (EncRsp skd_s iv_s)) response phase m = rsp_taken skd_s iv_s response phase m
took_material Peripheral (Known ctrl) response phase m = refl
took_material Central (Known ctrl) response phase m = refl
took_material Central (Unknown opcode) response phase m = refl
took_material Peripheral (Unknown opcode) response phase m = refl
took_material Central Bare response phase m = refl
took_material Peripheral Bare response phase m = refl

-- ---- the parts of what is held

abbrev pub with_parts : HeldKeyed → Held → Bool → KeyMaterial → EncEnd → HeldKeyed
with_parts h c key m e = record h { control = c; asks_key = key; material = m; end = e }

-- a PDU that is owed, or none
abbrev pub owed_after : Option Ctrl → Control → Held
owed_after owed d = control_held (after_all (owed_steps owed) d)

owed_is : (ctrl : Ctrl) (d : Control) (h : HeldKeyed) (key : Bool) (m : KeyMaterial) (e : EncEnd)
    → owing ctrl (with_parts h (control_held d) key m e) ≡ with_parts h (owed_after (Some ctrl) d) key m e
owed_is ctrl d h key m e = ap (λ (c : Held). with_parts h c key m e) (sym (step_held (Owes ctrl) d))

module _ (h : HeldKeyed) (d : Control) (m : KeyMaterial) (e : EncEnd) (key : Bool) where
  -- what is held as the procedures and the phase have seen a PDU that the phase keeps nothing of
  abbrev seen : HeldKeyed
  seen = with_parts h (control_held d) key m e

  -- a transition and a PDU, where it can be made
  answers_with : (t : Transition) (ctrl : Ctrl) (b : Bool)
      → (if b then owing ctrl (record seen { end = (if b then after_transition t e else e) }) else seen)
      ≡ with_parts h (owed_after (ctrl_if b ctrl) d) key m (end_changed (if b then Moves t else Stays) m e)
  answers_with t ctrl true = owed_is ctrl d h key m (after_transition t e)
  answers_with t ctrl false = refl

  answers_alone : (t : Transition) (b : Bool)
      → record seen { end = (if b then after_transition t e else e) } ≡ with_parts h (control_held d) key m (end_changed (if b then Moves t else Stays) m e)
  answers_alone t true = refl
  answers_alone t false = refl

  starts_with : (b : Bool)
      → (if b then owing StartEncRsp (record seen { end = end_started (session_of m) e }) else seen)
      ≡ with_parts h (owed_after (ctrl_if b StartEncRsp) d) key m (end_changed (starts_if b) m e)
  starts_with true = owed_is StartEncRsp d h key m (end_started (session_of m) e)
  starts_with false = refl

  asks_with : (rand ediv skd_m iv_m : ℕ) (response : Response) (b : Bool)
      → let n = record m { skd_m = skd_m; iv_m = iv_m; skd_s = response.skd_s; iv_s = response.iv_s } in
      let change = (if b then Moves AskTransition else Stays) in
      let after = with_read Peripheral (Known (EncReq rand ediv skd_m iv_m)) (drawn response) change e.phase m in
      (if b
      then owing (EncRsp response.skd_s response.iv_s) (record seen { end = (if b then after_transition AskTransition e else e); asks_key = is_open d.table.closing; material = n })
      else seen)
      ≡ with_parts h (owed_after (ctrl_if b (response_ctrl (drawn response))) d) (if b then is_open d.table.closing else key) after (end_changed change after e)
  asks_with rand ediv skd_m iv_m response true =
      owed_is (EncRsp response.skd_s response.iv_s) d h (is_open d.table.closing)
      (record m { skd_m = skd_m; iv_m = iv_m; skd_s = response.skd_s; iv_s = response.iv_s }) (after_transition AskTransition e)
  asks_with rand ediv skd_m iv_m response false = refl

  refuses_with : (refused enc : Bool) → allows e.phase Central Refusal ≡ true → (is_quiet e.phase ≡ false → refused ≡ not enc)
      → refusing Refusal refused seen ≡ with_parts h (control_held d) key m (end_changed (central_change Refusal enc e.phase) m e)
  refuses_with refused enc may agrees = by e.phase refl may agrees
    where
      -- the phase is Clear or Secure, and no transition is made; or it is Asked
      quietly : (a b c : Bool) → c ≡ false → (if a then record seen { end = (if c then after_transition Refuse e else e) } else seen)
          ≡ with_parts h (control_held d) key m (end_changed (if b then Stays else (if c then Moves Refuse else Stays)) m e)
      quietly true true true is = absurd (cc)
      quietly true false true is = absurd (cc)
      quietly false b true is = absurd (cc)
      quietly true true false is = refl
      quietly true false false is = refl
      quietly false true false is = refl
      quietly false false false is = refl

      loudly : (a b c : Bool) → c ≡ true → a ≡ not b → (if a then record seen { end = (if c then after_transition Refuse e else e) } else seen)
          ≡ with_parts h (control_held d) key m (end_changed (if b then Stays else (if c then Moves Refuse else Stays)) m e)
      loudly true true c is same = absurd (cc)
      loudly false false c is same = absurd (cc)
      loudly true false true is same = refl
      loudly true false false is same = absurd (cc)
      loudly false true c is same = refl

      same_if : (a : Bool) → refusing Refusal a seen ≡ (if a then record seen { end = end_moved Refuse e } else seen)
      same_if true = refl
      same_if false = refl

      by : (p : PhaseFacts) → e.phase ≡ p → allows p Central Refusal ≡ true → (is_quiet p ≡ false → refused ≡ not enc)
          → refusing Refusal refused seen ≡ with_parts h (control_held d) key m (end_changed (central_change Refusal enc e.phase) m e)
      by Clear is may agrees = same_if refused ∙ quietly refused enc (may_follow Refuse e.phase) (ap (may_follow Refuse) is)
      by Secure is may agrees = same_if refused ∙ quietly refused enc (may_follow Refuse e.phase) (ap (may_follow Refuse) is)
      by (Asked false enc_rsp_taken kept) is may agrees =
          same_if refused ∙ loudly refused enc (may_follow Refuse e.phase) (ap (may_follow Refuse) is) (agrees refl)
      by (Asked true enc_rsp_taken kept) is may agrees = absurd (cc)
      by HalfKeyed is may agrees = absurd (cc)
      by (Pausing kept) is may agrees = absurd (cc)
      by (HalfClear kept) is may agrees = absurd (cc)

-- ---- the answer, by role and PDU

module _ (h : HeldKeyed) (d : Control) (m : KeyMaterial) (e : EncEnd) (key refused enc : Bool) (response : Response) where
  -- as the procedures and the phase have seen it
  abbrev pub seen_first : Role → Ctrl → HeldKeyed
  seen_first role ctrl = with_parts h (control_held d) key (with_rsp role (Known ctrl) e.phase m) (after_taking (ctrl_class ctrl) e)

  abbrev pub change_then : Role → Ctrl → Change
  change_then role ctrl = answer_change role (ctrl_class ctrl) enc e.phase

  abbrev pub material_then : Role → Ctrl → KeyMaterial
  material_then role ctrl = with_read role (Known ctrl) (drawn response) (change_then role ctrl) e.phase m

  abbrev pub answer_then : Role → Ctrl → HeldKeyed
  answer_then role ctrl =
      let p = phase_taking (ctrl_class ctrl) e.phase in
      with_parts h (owed_after (ctrl_answer role (drawn response) ctrl p) d) (ctrl_key role ctrl p (is_open d.table.closing) key)
      (material_then role ctrl) (end_changed (change_then role ctrl) (material_then role ctrl) e)

  peripheral_or : (b : Bool)
      → let pdu = (if b then Refusal else Other) in
      with_parts h (control_held d) key m (after_taking pdu e) ≡ with_parts h (control_held d) key m (end_changed (peripheral_change pdu e.phase) m e)
  peripheral_or true = refl
  peripheral_or false = refl

  pub answers_at : (role : Role) (ctrl : Ctrl) → allows e.phase role (ctrl_class ctrl) ≡ true
      → (role ≡ Central → ctrl_class ctrl ≡ Refusal → is_quiet e.phase ≡ false → refused ≡ not enc)
      → answering_at role refused response ctrl (seen_first role ctrl) ≡ answer_then role ctrl
  answers_at Central StartEncReq may agrees = starts_with h d m e key (is_asked e.phase)
  answers_at Central StartEncRsp may agrees = answers_alone h d m e key Confirm (may_follow Confirm e.phase)
  answers_at Central PauseEncRsp may agrees = answers_with h d m e key Unlock PauseEncRsp (may_follow Unlock e.phase)
  answers_at Central (RejectInd code) may agrees = refuses_with h d m e key refused enc may (agrees refl refl)
  answers_at Central (RejectExtInd opcode code) may agrees = by (opcode == 3) may (agrees refl)
    where
      by : (b : Bool) → allows e.phase Central (if b then Refusal else Other) ≡ true → ((if b then Refusal else Other) ≡ Refusal → is_quiet e.phase ≡ false → refused ≡ not enc)
          → let pdu = (if b then Refusal else Other) in
          refusing pdu refused (with_parts h (control_held d) key m (after_taking pdu e))
          ≡ with_parts h (control_held d) key m (end_changed (central_change pdu enc e.phase) m e)
      by true may agrees = refuses_with h d m e key refused enc may (agrees refl)
      by false may agrees = refl
  answers_at Central (EncRsp skd_s iv_s) may agrees =
      ap (λ (n : KeyMaterial). with_parts h (control_held d) key n (after_taking enc_rsp e)) (sym (rsp_taken skd_s iv_s (drawn response) e.phase m))
  answers_at Central ctrl may agrees = refl
  answers_at Peripheral (EncReq rand ediv skd_m iv_m) may agrees =
      asks_with h d m e key rand ediv skd_m iv_m response (may_follow AskTransition e.phase)
  answers_at Peripheral PauseEncReq may agrees = answers_with h d m e key Pause PauseEncRsp (may_follow Pause e.phase)
  answers_at Peripheral StartEncRsp may agrees = answers_with h d m e key Confirm StartEncRsp (may_follow Confirm e.phase)
  answers_at Peripheral PauseEncRsp may agrees = answers_alone h d m e key Unlock (may_follow Unlock e.phase)
  answers_at Peripheral (RejectExtInd opcode code) may agrees = peripheral_or (opcode == 3)
  answers_at Peripheral ctrl may agrees = refl

-- ---- the phase

moves_phase : (t : Transition) (p : PhaseFacts) → IsPlain t → phase_after t p ≡ changed (moves_if t p) p
moves_phase t p plain = by (may_follow t p) refl
  where
    by : (b : Bool) → may_follow t p ≡ b → phase_after t p ≡ changed (if b then Moves t else Stays) p
    by true is = refl
    by false is = phase_stays t p plain is

starts_phase : (p : PhaseFacts) → phase_starting p ≡ changed (starts_if (is_asked p)) p
starts_phase p = by (is_asked p) refl
  where
    by : (b : Bool) → is_asked p ≡ b → phase_starting p ≡ changed (starts_if b) p
    by true is = refl
    by false is = start_stays p is

refuses_phase : (enc : Bool) (p : PhaseFacts) → allows p Central Refusal ≡ true → refused_phase Refusal enc p ≡ changed (central_change Refusal enc p) p
refuses_phase true p may = refl
refuses_phase false (Asked true enc_rsp_taken kept) may = absurd (cc)
refuses_phase false (Asked false enc_rsp_taken kept) may = refl
refuses_phase false p may = refl

pub phase_at : (role : Role) (ctrl : Ctrl) (enc : Bool) (p : PhaseFacts) → allows p role (ctrl_class ctrl) ≡ true
    → ctrl_phase role ctrl enc (phase_taking (ctrl_class ctrl) p) ≡ changed (answer_change role (ctrl_class ctrl) enc p) p
phase_at Central StartEncReq enc p may = starts_phase p
phase_at Central StartEncRsp enc p may = moves_phase Confirm p plain_confirm
phase_at Central PauseEncRsp enc p may = moves_phase Unlock p plain_unlock
phase_at Central (RejectInd code) enc p may = refuses_phase enc p may
phase_at Central (RejectExtInd opcode code) enc p may = by (opcode == 3) may
  where
    by : (b : Bool) → let pdu = (if b then Refusal else Other) in
        allows p Central pdu ≡ true → refused_phase pdu enc (phase_taking pdu p) ≡ changed (central_change pdu enc p) p
    by true may = refuses_phase enc p may
    by false may = refl
phase_at Central ctrl enc p may = refl
phase_at Peripheral (EncReq rand ediv skd_m iv_m) enc p may = moves_phase AskTransition p plain_ask
phase_at Peripheral PauseEncReq enc p may = moves_phase Pause p plain_pause
phase_at Peripheral StartEncRsp enc p may = moves_phase Confirm p plain_confirm
phase_at Peripheral PauseEncRsp enc p may = moves_phase Unlock p plain_unlock
phase_at Peripheral (RejectExtInd opcode code) enc p may = by (opcode == 3)
  where
    by : (b : Bool) → let pdu = (if b then Refusal else Other) in phase_taking pdu p ≡ changed (peripheral_change pdu p) p
    by true = refl
    by false = refl
phase_at Peripheral ctrl enc p may = refl
