-- What one end holds after a control PDU of the peer, part by part (Core 5.2, volume 6 part B, section 5.1.3; what a
-- phase forbids is our choice).
use Rattle.std.specs.Prelude.{◌≡◌, ℕ, nat_le, Bool, true, false, not, ◌&&◌, Option, Some, None, if◌then◌else◌, ⊤}
use Rattle.ble_base.specs.ErrorCodes.{memory_capacity_exceeded, mic_failure}
use Rattle.ble_base.specs.declared.error_codes.ErrCode.{ErrCode}
use Rattle.ble_base.specs.declared.procedure_kinds.Kind.{Kind}
use Rattle.ble_base.specs.declared.procedure_kinds.Kind.TheVariants.{Encrypt}
use Rattle.ble_base.specs.declared.roles.Role.{Role}
use Rattle.ble_base.specs.declared.roles.Role.TheVariants.{Central, Peripheral}
use Rattle.data_pdu.specs.declared.ctrl.Ctrl.{Ctrl}
use Rattle.data_pdu.specs.declared.ctrl.Ctrl.TheVariants.{EncReq, EncRsp, PauseEncReq, PauseEncRsp, StartEncReq, StartEncRsp}
use Rattle.data_pdu.specs.declared.ctrl.CtrlRead.{CtrlRead}
use Rattle.data_pdu.specs.declared.ctrl.CtrlRead.TheVariants.{Known}
use Rattle.enc_phase.specs.declared.classes.PduClass.{PduClass}
use Rattle.enc_phase.specs.declared.classes.PduClass.TheVariants.{Data, Refusal}
use Rattle.enc_phase.specs.declared.facts.PhaseFacts.{PhaseFacts}
use Rattle.enc_phase.specs.declared.facts.PhaseFacts.TheVariants.{Asked}
use Rattle.enc_phase.specs.declared.facts.Transition.{Transition}
use Rattle.enc_phase.specs.declared.facts.Transition.TheVariants.{Ask as AskTransition, Confirm, Pause, Refuse, Unlock}
use Rattle.enc_phase.specs.Phases.{is_asked, may_follow}
use Rattle.enc_phase.specs.Sealing.{after_taking}
use Rattle.enc_phase.specs.Taking.{allows, ctrl_class, is_unknown}
use Rattle.procedures.specs.procedure_stages.Closing.{is_open}
use Rattle.procedures.specs.procedure_stages.Kinds.{role_of}
use Rattle.procedures.specs.procedure_stages.Queue.{waiting_in}
use Rattle.control_part.specs.control_end.declared.answers.Taken.{Taken}
use Rattle.control_part.specs.control_end.control_model.Control.{Takes}
use Rattle.control_part.specs.control_end.Answers.{nothing_taken, taken_of}
use Rattle.control_part.specs.control_end.Held.{held_after as control_after}
use Rattle.keyed_control.specs.declared.material.KeyMaterial.{KeyMaterial}
use Rattle.keyed_control.specs.declared.material.Response.{Response}
use Rattle.keyed_control.specs.Keyed.{session_of}
use Rattle.keyed_control.specs.KeyedSteps.{end_started}
use Rattle.keyed_control.specs.phased_control.Taken.{Response as Drawn, class_of_read, ctrl_in, is_answered_at, keeps_class, seen_if}
use Rattle.keyed_control.specs.phased_control.table_laws.Encrypting.{has_encryption}
use Rattle.phased_end.specs.Answers.{quiet_now}
use Rattle.control_part.specs.Ending.{ended_with}
use Rattle.phased_end.specs.Held.{HeldKeyed}
use Rattle.phased_end.specs.Moves.{lasts, moving, owing}
use Rattle.phased_end.specs.declared.taking.TakenKeyed.{TakenKeyed}

-- the parts of an end fit together: its role, and that an encryption is in progress exactly outside Clear and Secure
pub record Fits (h : HeldKeyed) : Type 0 where
  pub role : role_of h.control.table.progress ≡ h.end.role
  pub agrees : quiet_now h ≡ not (has_encryption h.control.table.progress)

-- what a peripheral drew
abbrev pub drawn : Response → Drawn
drawn response = record { skd_s = response.skd_s; iv_s = response.iv_s }

-- ---- what the phase makes of a PDU

abbrev pub is_allowed : CtrlRead → HeldKeyed → Bool
is_allowed read h = allows h.end.phase h.end.role (class_of_read read)

abbrev pub does_keep : CtrlRead → HeldKeyed → Bool
does_keep read h = keeps_class (class_of_read read) h.end.role (quiet_now h)

abbrev pub is_answered_in : Role → CtrlRead → PhaseFacts → Bool
is_answered_in role (Known ctrl) phase = is_answered_at role ctrl phase
is_answered_in role read phase = false

abbrev pub is_answered : CtrlRead → HeldKeyed → Bool
is_answered read h = is_answered_in h.end.role read h.end.phase

abbrev pub lacks_room : CtrlRead → HeldKeyed → Bool
lacks_room read h =
    is_open h.control.table.closing && (nat_le 16 (waiting_in h.control.table.queue) && is_answered read h)

-- the PDUs of the encryption that may have no meaning at an end
abbrev pub IsNamed : Ctrl → Type 0
IsNamed (EncReq rand ediv skd_m iv_m) = ⊤
IsNamed (EncRsp skd_s iv_s) = ⊤
IsNamed StartEncReq = ⊤
IsNamed PauseEncReq = ⊤
IsNamed ctrl = ⊥

abbrev pub seen_as : CtrlRead → HeldKeyed → CtrlRead
seen_as read h = seen_if (is_unknown h.end.phase h.end.role (class_of_read read)) read

-- a central takes the LL_ENC_RSP of its request
abbrev pub with_rsp : Role → CtrlRead → PhaseFacts → KeyMaterial → KeyMaterial
with_rsp Central (Known (EncRsp skd_s iv_s)) (Asked after_pause false kept) m = record m { skd_s = skd_s; iv_s = iv_s }
with_rsp role read phase m = m

-- the phase and the material of the keys, as a PDU is taken
abbrev pub seeing : CtrlRead → HeldKeyed → HeldKeyed
seeing read h =
    record h {
      end = after_taking (class_of_read read) h.end;
      material = with_rsp h.end.role read h.end.phase h.material;
    }

abbrev pub keeping : CtrlRead → HeldKeyed → HeldKeyed
keeping read h = record (seeing read h) { kept = ctrl_in read }

abbrev pub ending : ℕ → HeldKeyed → HeldKeyed
ending code h = record h { control = ended_with (record { 0 = code }) h.control }

-- a packet whose integrity code is wrong ends the link (section 5.1.3.1)
abbrev pub hearing_forged : HeldKeyed → HeldKeyed
hearing_forged h = (if lasts h then ending mic_failure h else h)

-- ---- the procedures see it

abbrev pub handing : ℕ → CtrlRead → HeldKeyed → HeldKeyed
handing slot read h =
    seeing read (record h { control = control_after (Takes (seen_as read h) slot (quiet_now h)) h.control })

-- ---- which PDU of the encryption answers it

-- a transition is made, and then a PDU is owed, where that can be
abbrev pub answering : Transition → Ctrl → HeldKeyed → HeldKeyed
answering transition ctrl h =
    (if may_follow transition h.end.phase then owing ctrl (moving transition h) else h)

abbrev pub starting : HeldKeyed → HeldKeyed
starting h =
    (if is_asked h.end.phase
    then owing StartEncRsp (record h { end = end_started (session_of h.material) h.end })
    else h)

-- the procedures read it as the refusal of the own encryption
abbrev pub is_refused : Option (Kind × ErrCode) → Bool
is_refused (Some (Encrypt, code)) = true
is_refused refused = false

abbrev pub refusing : PduClass → Bool → HeldKeyed → HeldKeyed
refusing Refusal true h = moving Refuse h
refusing pdu refused h = h

abbrev pub answering_at_central : Bool → Ctrl → HeldKeyed → HeldKeyed
answering_at_central refused StartEncReq h = starting h
answering_at_central refused StartEncRsp h = moving Confirm h
answering_at_central refused PauseEncRsp h = answering Unlock PauseEncRsp h
answering_at_central refused ctrl h = refusing (ctrl_class ctrl) refused h

-- a peripheral answers LL_ENC_REQ, and asks its host for the key, unless the link is to end
abbrev pub asking : ℕ → ℕ → Response → HeldKeyed → HeldKeyed
asking skd_m iv_m response h =
    (if may_follow AskTransition h.end.phase
    then owing (EncRsp response.skd_s response.iv_s) (record (moving AskTransition h) {
      asks_key = is_open h.control.table.closing;
      material =
          record h.material { skd_m = skd_m; iv_m = iv_m; skd_s = response.skd_s; iv_s = response.iv_s };
    })
    else h)

abbrev pub answering_at_peripheral : Response → Ctrl → HeldKeyed → HeldKeyed
answering_at_peripheral response (EncReq rand ediv skd_m iv_m) h = asking skd_m iv_m response h
answering_at_peripheral response PauseEncReq h = answering Pause PauseEncRsp h
answering_at_peripheral response StartEncRsp h = answering Confirm StartEncRsp h
answering_at_peripheral response PauseEncRsp h = moving Unlock h
answering_at_peripheral response ctrl h = h

abbrev pub answering_at : Role → Bool → Response → Ctrl → HeldKeyed → HeldKeyed
answering_at Central refused response ctrl h = answering_at_central refused ctrl h
answering_at Peripheral refused response ctrl h = answering_at_peripheral response ctrl h

abbrev pub answered : Bool → Response → CtrlRead → HeldKeyed → HeldKeyed
answered refused response (Known ctrl) h = answering_at h.end.role refused response ctrl h
answered refused response read h = h

-- ---- what was kept is answered, once the phase is Clear or Secure again

abbrev pub taking_kept : ℕ → Option Ctrl → HeldKeyed → HeldKeyed
taking_kept slot None h = h
taking_kept slot (Some ctrl) h =
    record h { control = control_after (Takes (Known ctrl) slot true) h.control; kept = None }

abbrev pub kept_if_quiet : ℕ → HeldKeyed → HeldKeyed
kept_if_quiet slot h = (if quiet_now h then taking_kept slot h.kept h else h)

abbrev pub kept_taken : ℕ → Option Ctrl → HeldKeyed → Taken
kept_taken slot None h = nothing_taken
kept_taken slot (Some ctrl) h = taken_of (Known ctrl) slot true h.control

-- what the procedures gave for the PDU that was kept
abbrev pub kept_taken_if_quiet : ℕ → HeldKeyed → Taken
kept_taken_if_quiet slot h = (if quiet_now h then kept_taken slot h.kept h else nothing_taken)

-- ---- a PDU that the procedures see

-- what they gave for it
abbrev pub handed_taken : ℕ → CtrlRead → HeldKeyed → Taken
handed_taken slot read h = taken_of (seen_as read h) slot (quiet_now h) h.control

abbrev pub handed_answered : ℕ → Response → CtrlRead → HeldKeyed → HeldKeyed
handed_answered slot response read h =
    answered (is_refused (handed_taken slot read h).refused) response read (handing slot read h)

abbrev pub handed : ℕ → Response → CtrlRead → HeldKeyed → HeldKeyed
handed slot response read h =
    (if lasts (handing slot read h)
    then kept_if_quiet slot (handed_answered slot response read h)
    else handing slot read h)

abbrev pub handed_keyed : ℕ → Response → CtrlRead → HeldKeyed → TakenKeyed
handed_keyed slot response read h =
    record {
      taken = handed_taken slot read h;
      kept =
          (if lasts (handing slot read h)
          then kept_taken_if_quiet slot (handed_answered slot response read h)
          else nothing_taken);
    }

-- ---- every PDU

abbrev pub is_handed : CtrlRead → HeldKeyed → Bool
is_handed read h =
    lasts h && (is_allowed read h && (not (does_keep read h) && not (lacks_room read h)))

abbrev pub nothing_keyed : TakenKeyed
nothing_keyed = record { taken = nothing_taken; kept = nothing_taken }

-- what the procedures gave for it and for what was kept; nothing where they do not see it
abbrev pub taken_keyed : ℕ → Response → CtrlRead → HeldKeyed → TakenKeyed
taken_keyed slot response read h =
    (if is_handed read h then handed_keyed slot response read h else nothing_keyed)

abbrev pub took : ℕ → Response → CtrlRead → HeldKeyed → HeldKeyed
took slot response read h =
    (if lasts h
    then (if is_allowed read h
    then (if does_keep read h
    then keeping read h
    else (if lacks_room read h then ending memory_capacity_exceeded h else handed slot response read h))
    else ending mic_failure h)
    else h)

-- data that a phase forbids ends the link too
abbrev pub took_data : HeldKeyed → HeldKeyed
took_data h = (if allows h.end.phase h.end.role Data then h else ending mic_failure h)
