-- A central draws nothing as it takes a PDU: what it would draw changes nothing.
use Rattle.std.proofs.Common.{◌≡◌, ℕ, Bool, true, false, None, List, [], ◌∷◌, ◌++◌, is_none, refl, ap, ◌∙◌, if◌then◌else◌}
use Rattle.ble_base.specs.ErrorCodes.{memory_capacity_exceeded, mic_failure}
use Rattle.ble_base.specs.declared.roles.Role.{Role}
use Rattle.ble_base.specs.declared.roles.Role.TheVariants.{Central, Peripheral}
use Rattle.data_pdu.specs.declared.ctrl.Ctrl.{Ctrl}
use Rattle.data_pdu.specs.declared.ctrl.Ctrl.TheVariants.{EncRsp}
use Rattle.data_pdu.specs.declared.ctrl.CtrlRead.{CtrlRead}
use Rattle.data_pdu.specs.declared.ctrl.CtrlRead.TheVariants.{Known}
use Rattle.journal.specs.declared.entries.Entry.{Entry}
use Rattle.journal.specs.declared.entries.Entry.TheVariants.{Took}
use Rattle.journal_ends.specs.link_model.Acknowledgement.{Pdu}
use Rattle.journal_ends.specs.link_model.Controls.{is_procedure_pdu, read_of}
use Rattle.journal_ends.specs.link_model.Data.{is_data}
use Rattle.journal_ends.specs.link_model.enc_phase.declared.classes.PduClass.TheVariants.{EncRsp as enc_rsp}
use Rattle.journal_ends.specs.link_model.enc_phase.declared.facts.PhaseFacts.{PhaseFacts}
use Rattle.journal_ends.specs.link_model.enc_phase.declared.facts.PhaseFacts.TheVariants.{Asked}
use Rattle.journal_ends.specs.link_model.keyed_control.Keyed.{Keyed}
use Rattle.journal_ends.specs.link_model.keyed_control.KeyedSteps.{Takes, TakesData, end_changed, keyed_after, keyed_moved, with_read}
use Rattle.journal_ends.specs.link_model.keyed_control.declared.material.KeyMaterial.{KeyMaterial}
use Rattle.journal_ends.specs.link_model.keyed_control.declared.material.Response.{Response}
use Rattle.journal_ends.specs.link_model.phased_control.PhaseChanges.{Change, Took as took_change, change_of}
use Rattle.journal_ends.specs.link_model.phased_control.Phased.{Phased, is_quiet_now, with_step}
use Rattle.journal_ends.specs.link_model.phased_control.Taken.{Response as Drawn, Takes as phased_takes, answered_if_quiet, ciphered, ciphered_at, does_keep, ended_with, is_allowed, keeping, knowing, lacks_room_now, role_now, seen_as, took, with_phase_taking}
use Rattle.journal_ends.specs.link_model.control_model.Control.{Takes as control_takes}
use Rattle.journal_ends.specs.link_model.phased_end.Held.{held_of as keyed_held}
use Rattle.journal_ends.specs.link_model.phased_end.Taking.{drawn}
use Rattle.journal_ends.specs.link_model.phased_end.declared.taking.TakenKeyed.{TakenKeyed}
use Rattle.journal_controls.specs.KeyedLines.{Accepts, LineStep, does_if, does_some, keyed_by, keyed_by_all, steps_refusing, steps_taking}
use Rattle.journal_controls.specs.LineSteps.{steps_said}
use Rattle.journal_controls.specs.SaidLines.{moved_by}
use Rattle.journal_controls.specs.Withheld.{Withheld, withheld_answer}
use Rattle.journal_ends.proofs.link_model.control_model.Moving.{same_role}
use Rattle.journal_controls.proofs.EndMoves.{KeepsRole, role_stays}
use Rattle.journal_controls.proofs.GivenAlike.{gives_alike}

-- ---- a PDU

module _ (one other : Drawn) where
  at_alike : (role : Role) → role ≡ Central → (ctrl : Ctrl) (s : Phased) → ciphered_at role one ctrl s ≡ ciphered_at role other ctrl s
  at_alike Central is ctrl s = refl
  at_alike Peripheral is ctrl s = absurd cc

  ciphered_alike : (read : CtrlRead) (s : Phased) → role_now s ≡ Central → ciphered one read s ≡ ciphered other read s
  ciphered_alike (Known ctrl) s is = at_alike (role_now s) is ctrl s
  ciphered_alike read s is = refl

  took_alike : (slot : ℕ) (read : CtrlRead) (s : Phased) → role_now s ≡ Central → took slot one read s ≡ took slot other read s
  took_alike slot read s is =
      let t = with_phase_taking read (with_step (control_takes (seen_as read s) slot (is_quiet_now s)) (knowing read s)) in
      ap (λ (u : Phased). if is_allowed read s
      then (if does_keep read s then keeping read s
      else (if lacks_room_now read s then ended_with memory_capacity_exceeded s
      else (if is_none t.control.ends then answered_if_quiet slot u else t)))
      else ended_with mic_failure s) (ciphered_alike read t (same_role Central (control_takes (seen_as read s) slot (is_quiet_now s)) s.control is))

  read_alike : (role : Role) → role ≡ Central → (read : CtrlRead) (change : Change) (phase : PhaseFacts) (m : KeyMaterial)
      → with_read role read one change phase m ≡ with_read role read other change phase m
  read_alike Peripheral is read change phase m = absurd cc
  read_alike Central is (Known (EncRsp skd_s iv_s)) (took_change enc_rsp) (Asked after_pause false kept) m = refl
  read_alike Central is read change phase m = refl

  takes_alike : (slot : ℕ) (read : CtrlRead) (k : Keyed) → role_now k.phased ≡ Central → keyed_after (Takes read slot one) k ≡ keyed_after (Takes read slot other) k
  takes_alike slot read k is =
      let change = change_of (phased_takes read slot one) k.phased in
      let material = read_alike (role_now k.phased) is read change k.phased.phase k.material in
      let moved : keyed_moved (Takes read slot one) k ≡ keyed_moved (Takes read slot other) k =
      λ i. record { phased = took_alike slot read k.phased is i; material = material i; end = end_changed change (material i) k.end } in
      ap (λ (next : Keyed). if is_none k.phased.control.ends then next else k) moved

-- ---- the lines of an end

module _ (withheld : Withheld) (one other : Response) (slot : ℕ) where
  pub taking_alike : (pdu : Pdu) (more : List LineStep) (k : Keyed) → role_now k.phased ≡ Central
      → keyed_by_all (steps_taking one slot pdu ++ more) k ≡ keyed_by_all (steps_taking other slot pdu ++ more) k
  taking_alike pdu more k is = by (is_procedure_pdu pdu)
    where
      now : Keyed
      now = keyed_by Accepts k

      by : (procedure : Bool)
          → keyed_by_all ((does_if procedure (Takes (read_of pdu) slot (drawn one)) ++ does_if (is_data pdu) TakesData) ++ more) now
          ≡ keyed_by_all ((does_if procedure (Takes (read_of pdu) slot (drawn other)) ++ does_if (is_data pdu) TakesData) ++ more) now
      by true = ap (keyed_by_all (does_if (is_data pdu) TakesData ++ more)) (takes_alike (drawn one) (drawn other) slot (read_of pdu) now is)
      by false = refl

  refusing_alike : (k : Keyed) (pdu : Pdu) → steps_refusing withheld one slot k pdu ≡ steps_refusing withheld other slot k pdu
  refusing_alike k pdu =
      ap (λ (given : TakenKeyed). does_some (if is_procedure_pdu pdu then withheld_answer withheld given else None))
      (gives_alike slot one other (read_of pdu) (keyed_held k))

  pub said_alike : (line : Entry) (k : Keyed) → role_now k.phased ≡ Central
      → keyed_by_all (steps_said withheld one slot k line) k ≡ keyed_by_all (steps_said withheld other slot k line) k
  said_alike (Took side link count llid body) k is =
      let pdu : Pdu = record { llid = llid; body = body } in
      ap (λ more. keyed_by_all (steps_taking one slot pdu ++ more) k) (refusing_alike k pdu)
      ∙ taking_alike pdu (steps_refusing withheld other slot k pdu) k is
  said_alike line k is = refl

  pub moved_alike : (lines : List Entry) (k : Keyed) → KeepsRole Central k → moved_by withheld one slot lines k ≡ moved_by withheld other slot lines k
  moved_alike [] k keeps = refl
  moved_alike (line ∷ lines) k keeps =
      ap (moved_by withheld one slot lines) (said_alike line k (keeps []))
      ∙ moved_alike lines (keyed_by_all (steps_said withheld other slot k line) k) (role_stays Central k (steps_said withheld other slot k line) keeps)
