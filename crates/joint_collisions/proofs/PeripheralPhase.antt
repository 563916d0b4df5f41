-- A peripheral takes a PDU in its phase of encryption, as joint runs of the procedures that exclude each other see it.
use Rattle.std.proofs.Common.{◌≡◌, ℕ, ◌+◌, ◌-◌, ◌%◌, ◌^◌, ◌<◌, Bool, true, false, if◌then◌else◌, Option, Some, None, is_none, refl, sym, subst, ◌∙◌}
use Rattle.ble_base.specs.ErrorCodes.{memory_capacity_exceeded, mic_failure}
use Rattle.ble_base.specs.declared.error_codes.ErrCode.{ErrCode}
use Rattle.ble_base.specs.declared.roles.Role.{Role}
use Rattle.ble_base.specs.declared.roles.Role.TheVariants.{Central as central_role, Peripheral as peripheral_role}
use Rattle.data_pdu.specs.declared.ctrl.Ctrl.{Ctrl}
use Rattle.data_pdu.specs.declared.ctrl.CtrlRead.{CtrlRead}
use Rattle.data_pdu.specs.declared.ctrl.CtrlRead.TheVariants.{Known}
use Rattle.joint_controls.specs.enc_phase.declared.classes.PduClass.{PduClass}
use Rattle.joint_controls.specs.enc_phase.declared.classes.PduClass.TheVariants.{Request}
use Rattle.joint_controls.specs.enc_phase.Taking.{ctrl_class, is_unknown}
use Rattle.exclusive_stages.specs.declared.pdus.Pdu.{Pdu}
use Rattle.exclusive_stages.specs.Pdus.{is_timed}
use Rattle.instants.specs.declared.indications.Indication.{Indication}
use Rattle.instants.specs.Parameters.{instant_of}
use Rattle.instants.specs.Track.{event_of}
use Rattle.collision_steps.specs.procedure_values.declared.drafts.Outgoing.{Outgoing}
use Rattle.collision_steps.specs.procedure_stages.declared.stages.Peripheral.{Peripheral}
use Rattle.collision_steps.specs.procedure_stages.declared.stages.Progress.TheVariants.{Peripheral as peripheral}
use Rattle.collision_steps.specs.procedure_stages.Kinds.{role_of}
use Rattle.collision_steps.specs.procedures.Taking.{outcome_of}
use Rattle.collisions.specs.declared.peripheral.Peripheral.{Peripheral as PeripheralPdus}
use Rattle.collisions.specs.declared.joint.End.{End}
use Rattle.collisions.specs.declared.joint.Way.{Way}
use Rattle.collisions.specs.declared.joint.Way.TheVariants.{OnAir, Taken}
use Rattle.collisions.specs.JointRun.{is_pdu, is_taken}
use Rattle.collision_steps.specs.CentralPart.{passed_from}
use Rattle.collision_steps.specs.Parts.{outgoing_part}
use Rattle.collision_steps.specs.PeripheralPart.{answer_to, peripheral_of, step_of_read}
use Rattle.joint_controls.specs.control_model.Control.{Control, Owes, Takes, after, indicated_by}
use Rattle.joint_controls.specs.control_model.Waits.{EndsByCollision}
use Rattle.joint_controls.proofs.control_model.Calls.{open_step}
use Rattle.joint_controls.specs.phased_control.Phased.{Phased, is_quiet_now, with_owed}
use Rattle.joint_controls.specs.phased_control.Taken.{Response, answered_if_quiet, answered_kept, ciphered, does_keep, ended_with, handed_on, is_allowed, keeping, keeps_class, knowing, lacks_room_now, seen_if, took, took_allowed, with_phase_taking}
use Rattle.joint_controls.specs.Ends.{IsSentAs}
use Rattle.joint_controls.specs.Joint.{is_terminate}
use Rattle.joint_controls.proofs.Keeping.{choice, ciphered_keeps_end}
use Rattle.joint_collisions.specs.Facts.{fits_down}
use Rattle.joint_collisions.specs.Views.{way_if}
use Rattle.joint_collisions.proofs.CentralTakes.{not_forged, not_room, not_stopping}
use Rattle.joint_collisions.proofs.DownMeanings.{Means, down_means, timed_has}
use Rattle.joint_collisions.proofs.Fixing.{IsInTime}
use Rattle.joint_collisions.proofs.PeripheralSteps.{SeenAt, owes}
use Rattle.joint_collisions.proofs.PeripheralTakes.{Timely, down_goes, down_never}
use Rattle.joint_collisions.proofs.Readings.{ReadAs, hears, indication_in, read_as}

-- the peripheral goes on as one of a joint run, and its link ends by no collision
pub record GoesAs (c : Control) (down up : Way) (kept : Option Pdu) (s : Phased) : Type 0 where
  pub goes : s.control.ends ≡ None → SeenAt c down up kept s.control
  pub never : EndsByCollision s.control.ends → ⊥

-- a peripheral keeps no PDU
keeps_none : (pdu : PduClass) (role : Role) (quiet : Bool) → role ≡ peripheral_role → keeps_class pdu role quiet ≡ false
keeps_none Request central_role quiet is = absurd (cc)
keeps_none Request peripheral_role quiet is = refl
keeps_none pdu role quiet is = refl

-- ---- while PDUs of the encryption are queued

pub record Stays (c : Control) (down up : Way) (kept : Option Pdu) (s : Phased) : Type 0 where
  pub lasts : s.control.ends ≡ None
  pub none : s.kept ≡ None
  pub seen : SeenAt c down up kept s.control

module _ (c : Control) (down up : Way) (kept : Option Pdu) where
  ended_room : (s : Phased) → GoesAs c down up kept (ended_with memory_capacity_exceeded s)
  ended_room s = record { goes = λ h. absurd (cc); never = not_room }

  pub ended_forged : (s : Phased) → GoesAs c down up kept (ended_with mic_failure s)
  ended_forged s = record { goes = λ h. absurd (cc); never = not_forged }

  pub owes_stays : (ctrl : Ctrl) (s : Phased) → Stays c down up kept s → Stays c down up kept (with_owed ctrl s)
  owes_stays ctrl s h =
      record {
        lasts = open_step (λ (d : Control). d.ends ≡ None) (Owes ctrl) s.control h.lasts h.lasts;
        none = h.none;
        seen = owes c down up kept ctrl s.control h.seen;
      }

  ciphered_stays : (response : Response) (read : CtrlRead) (s : Phased) → Stays c down up kept s → Stays c down up kept (ciphered response read s)
  ciphered_stays response read s h =
      ciphered_keeps_end (Stays c down up kept) owes_stays (λ phase t k. record { lasts = k.lasts; none = k.none; seen = k.seen })
      (λ asks t k. record { lasts = k.lasts; none = k.none; seen = k.seen }) (λ request t k. record { lasts = k.lasts; none = k.none; seen = k.seen })
      response read s h

  answered_stays : (one : Option Ctrl) (slot : ℕ) (s : Phased) → one ≡ None → Stays c down up kept s → Stays c down up kept (answered_kept slot one s)
  answered_stays None slot s none h = h
  answered_stays (Some ctrl) slot s none h = absurd (cc)

  if_quiet_stays : (slot : ℕ) (s : Phased) → Stays c down up kept s → Stays c down up kept (answered_if_quiet slot s)
  if_quiet_stays slot s h =
      choice (Stays c down up kept) (is_quiet_now s) (answered_kept slot s.kept s) s (answered_stays s.kept slot s h.none h) h

  pub goes_as : (s : Phased) → Stays c down up kept s → GoesAs c down up kept s
  goes_as s h = record { goes = λ lasts. h.seen; never = λ met. subst EndsByCollision h.lasts met }

-- ---- the whole of a PDU

module _ (c : Control) (up : Way) (kept : Option Pdu) (s : Phased) (outgoing : Outgoing) (ctrl : Ctrl) (slot : ℕ) (response : Response) (x : Peripheral)
    (is : s.control.table.progress ≡ peripheral x) (lasts : s.control.ends ≡ None) (none : s.kept ≡ None) (sent : IsSentAs outgoing ctrl)
    (fits : fits_down outgoing ≡ true) (live : is_terminate ctrl ≡ false) (free : is_taken up ≡ false)
    (time : IsInTime c (way_if (λ q. OnAir q) (outgoing_part outgoing)) s.control)
    (instant : is_pdu is_timed (outgoing_part outgoing) ≡ true → (indication : Indication) → indication_in ctrl ≡ Some indication
    → instant_of indication ≡ (passed_from c.table.progress - 1) % 2 ^ 16)
    (near : is_pdu is_timed (outgoing_part outgoing) ≡ true → event_of s.control.track < (passed_from c.table.progress - 1) + 32769)
    (seen : SeenAt c (way_if (λ q. OnAir q) (outgoing_part outgoing)) up kept s.control) where
  abbrev down : Way
  down = way_if (λ q. Taken q) (outgoing_part outgoing)

  abbrev read : CtrlRead
  read = Known ctrl

  own_role : role_of s.control.table.progress ≡ peripheral_role
  own_role = rw is refl

  abbrev unknown : Bool
  unknown = is_unknown s.phase (role_of s.control.table.progress) (ctrl_class ctrl)

  abbrev next : Control
  next = after (Takes (seen_if unknown read) slot (is_quiet_now s)) s.control

  abbrev answer : PeripheralPdus × End
  answer = answer_to (step_of_read s.control.table.progress (seen_if unknown read)) (peripheral_of s.control.table)

  read_next : ReadAs s.control next (seen_if unknown read) slot (is_quiet_now s) answer
  read_next = read_as s.control x is lasts (seen_if unknown read) slot (is_quiet_now s) (not_stopping unknown ctrl live)

  means : Means answer (peripheral_of s.control.table) (outgoing_part outgoing)
  means =
      subst (λ (role : Role). Means (answer_to (step_of_read s.control.table.progress (seen_if (is_unknown s.phase role (ctrl_class ctrl)) read)) (peripheral_of s.control.table)) (peripheral_of s.control.table) (outgoing_part outgoing))
      (sym own_role) (down_means s.control.table s.phase outgoing ctrl sent fits live)

  -- the indication that is handed on is the one that was sent
  instant_by : (b : Bool) (indication : Indication) → is_pdu is_timed (outgoing_part outgoing) ≡ true
      → (outcome_of s.control.table (is_quiet_now s) (seen_if b read)).step.ends ≡ None
      → indicated_by (outcome_of s.control.table (is_quiet_now s) (seen_if b read)).step.effect ≡ Some indication
      → instant_of indication ≡ (passed_from c.table.progress - 1) % 2 ^ 16
  instant_by true indication timed ends effect = absurd (cc)
  instant_by false indication timed ends effect =
      let has = timed_has outgoing ctrl sent timed in
      let own = hears s.control.table x is (is_quiet_now s) ctrl has.indication has.is ends in
      let same : ◌≡◌ {A = Option Indication} (Some has.indication) (Some indication) = sym own ∙ effect in
      instant timed indication (has.is ∙ same)

  timely : Timely c up kept s.control next (seen_if unknown read) slot (is_quiet_now s) answer read_next own_role (outgoing_part outgoing)
  timely =
      record {
        instant = λ timed indication ends effect. instant_by unknown indication timed ends effect;
        near = near;
      }

  abbrev handed : Phased
  handed = with_phase_taking read (record (knowing read s) { control = next })

  stays_next : next.ends ≡ None → Stays c down up kept handed
  stays_next goes =
      record {
        lasts = goes;
        none = none;
        seen =
            down_goes c up kept s.control next (seen_if unknown read) slot (is_quiet_now s) answer read_next own_role (outgoing_part outgoing) means free time timely
            seen goes;
      }

  goes_by : (ends : Option ErrCode) → next.ends ≡ ends
      → GoesAs c down up kept (if is_none ends then answered_if_quiet slot (ciphered response read handed) else handed)
  goes_by None was =
      goes_as c down up kept (answered_if_quiet slot (ciphered response read handed))
      (if_quiet_stays c down up kept slot (ciphered response read handed) (ciphered_stays c down up kept response read handed (stays_next was)))
  goes_by (Some code) was =
      record {
        goes = λ goes. absurd (let both : ◌≡◌ {A = Option ErrCode} (Some code) None = sym was ∙ goes in cc);
        never =
            down_never c up kept s.control next (seen_if unknown read) slot (is_quiet_now s) answer read_next own_role (outgoing_part outgoing) means free time timely
            seen;
      }

  handed_as : GoesAs c down up kept (handed_on slot response read s)
  handed_as = goes_by next.ends refl

  allowed_as : GoesAs c down up kept (took_allowed slot response read s)
  allowed_as = by (does_keep read s) (keeps_none (ctrl_class ctrl) (role_of s.control.table.progress) (is_quiet_now s) own_role)
    where
      by : (does : Bool) → does ≡ false
          → GoesAs c down up kept (if does then keeping read s else (if lacks_room_now read s then ended_with memory_capacity_exceeded s else handed_on slot response read s))
      by true does = absurd (cc)
      by false does =
          choice (GoesAs c down up kept) (lacks_room_now read s) (ended_with memory_capacity_exceeded s) (handed_on slot response read s)
          (ended_room c down up kept s) handed_as

  pub peripheral_took : GoesAs c down up kept (took slot response read s)
  peripheral_took =
      choice (GoesAs c down up kept) (is_allowed read s) (took_allowed slot response read s) (ended_with mic_failure s) allowed_as (ended_forged c down up kept s)
