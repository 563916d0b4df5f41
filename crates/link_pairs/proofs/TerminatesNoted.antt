-- LL_TERMINATE_IND is taken in every phase; an end that goes on after it holds the code with which its peer ends the link.
use Rattle.std.proofs.Common.{◌≡◌, ℕ, nat_le, ◌&&◌, Bool, true, false, not, Option, Some, None, is_none, refl, sym, ap, ◌∙◌, if◌then◌else◌}
use Rattle.ble_base.specs.declared.error_codes.ErrCode.{ErrCode}
use Rattle.ble_base.specs.declared.roles.Role.{Role}
use Rattle.ble_base.specs.declared.roles.Role.TheVariants.{Central, Peripheral}
use Rattle.data_pdu.specs.declared.ctrl.Ctrl.{Ctrl}
use Rattle.data_pdu.specs.declared.ctrl.Ctrl.TheVariants.{StartEncReq, TerminateInd}
use Rattle.data_pdu.specs.declared.ctrl.CtrlRead.{CtrlRead}
use Rattle.data_pdu.specs.declared.ctrl.CtrlRead.TheVariants.{Known}
use Rattle.control_octets.specs.procedure_stages.Closing.{is_open}
use Rattle.control_octets.specs.procedure_stages.Queue.{waiting_in}
use Rattle.control_octets.specs.procedures.Taking.{took_step}
use Rattle.control_octets.specs.procedures.Termination.{terminate_taken}
use Rattle.control_octets.specs.control_model.Control.{Takes as control_takes}
use Rattle.joint_laws.specs.joint_controls.Joint.{is_terminate}
use Rattle.joint_laws.specs.joint_controls.phased_control.enc_phase.Phases.{is_quiet}
use Rattle.joint_laws.specs.joint_controls.phased_control.enc_phase.Taking.{is_unknown}
use Rattle.joint_laws.specs.joint_controls.phased_control.enc_phase.declared.classes.PduClass.TheVariants.{Terminate}
use Rattle.joint_laws.specs.joint_controls.phased_control.enc_phase.declared.facts.PhaseFacts.{PhaseFacts}
use Rattle.joint_laws.specs.joint_controls.phased_control.enc_phase.declared.facts.PhaseFacts.TheVariants.{Asked, Clear, HalfClear, HalfKeyed, Pausing, Secure}
use Rattle.joint_laws.specs.joint_controls.phased_control.Phased.{Phased}
use Rattle.joint_laws.specs.joint_controls.phased_control.Taken.{Takes, is_answered_at, seen_if}
use Rattle.joint_laws.proofs.joint_controls.phased_control.Moving.{same_after}
use Rattle.link_model.specs.control_end.Answers.{goes_on, nothing_taken, step_shown, taken_of}
use Rattle.link_model.specs.control_end.Held.{Held, held_of}
use Rattle.link_model.specs.control_end.declared.answers.Taken.{Taken}
use Rattle.link_model.proofs.Views.{allows_end}
use Rattle.link_model.proofs.control_end.Depending.{step_held}
use Rattle.link_model.specs.phased_end.Held.{HeldKeyed, held_of as keyed_held}
use Rattle.link_model.specs.phased_end.Taking.{drawn, handed_keyed, is_handed, nothing_keyed, taken_keyed}
use Rattle.link_model.specs.Acknowledgement.{Pdu}
use Rattle.link_model.specs.Controls.{read_of}
use Rattle.link_model.specs.Facts.{Facts, keyed_of}
use Rattle.link_model.specs.Receiving.{accepted_if, code_of, data_taken_if, leaving_by, procedures_give, procedures_take, procedures_take_if, taken_if}
use Rattle.link_pairs.specs.Ends.{phased_of}
use Rattle.link_pairs.specs.Ways.{IsControlPdu}
use Rattle.link_pairs.proofs.Items.{control_is_no_data, control_is_procedure, never}
use Rattle.link_pairs.proofs.PhasedEnds.{takes_phased}
use Rattle.link_pairs.proofs.TakingTerminate.{has_taken}
use Rattle.link_pairs.proofs.TerminatingPdus.{took_ends}

-- ---- no phase forbids, keeps or answers it

pub is_known : (phase : PhaseFacts) (role : Role) → is_unknown phase role Terminate ≡ false
is_known Clear Central = refl
is_known Clear Peripheral = refl
is_known Secure Central = refl
is_known Secure Peripheral = refl
is_known (Asked after_pause enc_rsp kept) role = refl
is_known HalfKeyed role = refl
is_known (Pausing kept) role = refl
is_known (HalfClear kept) role = refl

pub none_answers : (code : ℕ) (role : Role) (phase : PhaseFacts) → is_answered_at role (TerminateInd code) phase ≡ false
none_answers code Central phase = refl
none_answers code Peripheral phase = refl

pub never_both : (one other : Bool) → (one && (other && false)) ≡ false
never_both true other = never other
never_both false other = refl

module _ (code slot : ℕ) (pdu : Pdu) (facts : Facts) (read : read_of pdu ≡ Known (TerminateInd code))
    (still : (procedures_take pdu slot facts).control.ends ≡ None) where
  abbrev h : HeldKeyed
  h = keyed_held (keyed_of facts)

  abbrev quiet : Bool
  quiet = is_quiet facts.encryption.end.phase

  -- the link went on before
  lasts : facts.control.ends ≡ None
  lasts = by facts.control.ends refl
    where
      by : (ends : Option ErrCode) → facts.control.ends ≡ ends → facts.control.ends ≡ None
      by None is = is
      by (Some other) is =
          ap (λ (x : Phased). x.control.ends)
          (sym (takes_phased pdu slot facts ∙ same_after (Takes (read_of pdu) slot (drawn facts.encryption.response)) (phased_of facts) other is))
          ∙ still

  handed : is_handed (Known (TerminateInd code)) h ≡ true
  handed =
      (λ i. is_none (lasts i) && (allows_end facts.encryption.end.phase facts.encryption.end.role i && (true
      && not (is_open facts.control.table.closing && (nat_le 16 (waiting_in facts.control.table.queue)
      && none_answers code facts.encryption.end.role facts.encryption.end.phase i)))))
      ∙ ap not (never_both (is_open facts.control.table.closing) (nat_le 16 (waiting_in facts.control.table.queue)))

  gives : procedures_give pdu slot facts ≡ step_shown (terminate_taken facts.control.table code).step
  gives =
      ap (λ (r : CtrlRead). (taken_keyed slot facts.encryption.response r h).taken) read
      ∙ ap (λ (b : Bool). (if b then handed_keyed slot facts.encryption.response (Known (TerminateInd code)) h else nothing_keyed).taken) handed
      ∙ ap (λ (unknown : Bool). taken_of (seen_if unknown (Known (TerminateInd code))) slot quiet (held_of facts.control))
      (is_known facts.encryption.end.phase facts.encryption.end.role)
      ∙ ap (λ (held : Held). if goes_on held then step_shown (took_step facts.control.table (Known (TerminateInd code)) slot quiet).1 else nothing_taken)
      (sym (step_held (control_takes (Known (TerminateInd code)) slot quiet) facts.control))
      ∙ ap (λ (ends : Option ErrCode). if is_none ends then step_shown (took_step facts.control.table (Known (TerminateInd code)) slot quiet).1 else nothing_taken)
      (has_taken (TerminateInd code) slot quiet facts.control lasts refl).ends
      ∙ ap step_shown (took_ends facts.control.table code slot quiet)

  peer_ends : is_none (procedures_take pdu slot facts).leaving.ended_by_peer ≡ false
  peer_ends = ap (λ (t : Taken). is_none (leaving_by (code_of t.effect) facts.leaving).ended_by_peer) gives

noted : (ctrl : Ctrl) (slot : ℕ) (pdu : Pdu) (facts : Facts) → read_of pdu ≡ Known ctrl → (procedures_take pdu slot facts).control.ends ≡ None
    → is_none (procedures_take pdu slot facts).leaving.ended_by_peer ≡ true → is_terminate ctrl ≡ false
noted (TerminateInd code) slot pdu facts read still none = absurd (let ends = peer_ends code slot pdu facts read still in let no = sym ends ∙ none in cc)
noted StartEncReq slot pdu facts read still none = refl
noted ctrl slot pdu facts read still none = refl

-- where its peer does not end the link, the PDU that is taken is none
pub terminates_nothing : (ctrl : Ctrl) (slot : ℕ) (pdu : Pdu) (facts : Facts) → IsControlPdu ctrl pdu
    → (taken_if true pdu slot facts).control.ends ≡ None → is_none (taken_if true pdu slot facts).leaving.ended_by_peer ≡ true → is_terminate ctrl ≡ false
terminates_nothing ctrl slot pdu facts item still none =
    let given = accepted_if true pdu facts in
    let now : taken_if true pdu slot facts ≡ procedures_take pdu slot given =
    λ i. data_taken_if (control_is_no_data ctrl pdu item i) (procedures_take_if (control_is_procedure ctrl pdu item i) pdu slot given) in
    noted ctrl slot pdu given item.read_as (ap (λ (f : Facts). f.control.ends) (sym now) ∙ still)
    (ap (λ (f : Facts). is_none f.leaving.ended_by_peer) (sym now) ∙ none)
