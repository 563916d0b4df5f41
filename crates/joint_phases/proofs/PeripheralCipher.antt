-- A peripheral takes a PDU of the encryption: the machine's step.
use Rattle.std.proofs.Common.{◌≡◌, ℕ, Bool, true, false, ◌||◌, Some, None, refl, ap, sym, subst, ◌∙◌, if◌then◌else◌}
use Rattle.ble_base.specs.declared.roles.Role.TheVariants.{Peripheral as peripheral_role}
use Rattle.data_pdu.specs.declared.ctrl.Ctrl.{Ctrl}
use Rattle.data_pdu.specs.declared.ctrl.Ctrl.TheVariants.{EncReq as enc_req, EncRsp as enc_rsp, PauseEncReq as pause_enc_req, PauseEncRsp as pause_enc_rsp, RejectExtInd, RejectInd, StartEncReq as start_enc_req, StartEncRsp as start_enc_rsp}
use Rattle.data_pdu.specs.declared.ctrl.CtrlRead.TheVariants.{Known}
use Rattle.phase_pairs.specs.enc_phase.declared.classes.PduClass.{PduClass}
use Rattle.phase_pairs.specs.enc_phase.declared.classes.PduClass.TheVariants.{EncReq, EncRsp, Other, PauseEncReq, PauseEncRsp, Refusal, StartEncReq, StartEncRsp}
use Rattle.phase_pairs.specs.enc_phase.declared.facts.PhaseFacts.{PhaseFacts}
use Rattle.phase_pairs.specs.enc_phase.declared.facts.PhaseFacts.TheVariants.{Clear, HalfClear, Pausing, Secure}
use Rattle.phase_pairs.specs.enc_phase.declared.facts.Transition.{Transition}
use Rattle.phase_pairs.specs.enc_phase.declared.facts.Transition.TheVariants.{Ask, Confirm, Pause, Unlock}
use Rattle.phase_pairs.specs.enc_phase.Phases.{is_quiet, may_follow, phase_after}
use Rattle.phase_pairs.specs.enc_phase.Taking.{allows, ctrl_class, is_unknown, phase_taking}
use Rattle.joint_controls.specs.procedure_values.declared.drafts.Draft.TheVariants.{Cipher}
use Rattle.joint_controls.specs.procedure_stages.declared.reply.Reply.{Reply}
use Rattle.joint_controls.specs.procedure_stages.Closing.{is_open}
use Rattle.joint_controls.specs.procedure_stages.Queue.{with_reply}
use Rattle.joint_controls.specs.procedures.Going.{closing_given}
use Rattle.joint_controls.specs.procedures.Taking.{outcome_of}
use Rattle.phase_pairs.specs.declared.peripheral.PhasePeripheral.{PhasePeripheral}
use Rattle.phase_pairs.specs.Agreement.{has_meaning}
use Rattle.phase_pairs.specs.Peripheral.{is_open as is_peripheral_open, peripheral_asked, peripheral_queuing, peripheral_taken}
use Rattle.joint_controls.specs.phased_control.Phased.{Phased}
use Rattle.joint_controls.specs.phased_control.Taken.{Response, Takes, asked, ciphered_at_peripheral, is_version, moved_if, moved_to, phased_after, response_ctrl}
use Rattle.joint_controls.specs.Joint.{is_terminate}
use Rattle.phase_pairs.specs.Agreement.{is_encryption}
use Rattle.joint_phases.specs.Classes.{draft_up}
use Rattle.joint_phases.specs.Parts.{IsPeripheral, wait_up}
use Rattle.joint_phases.proofs.CentralEnters.{at_open, opened}
use Rattle.joint_phases.proofs.PeripheralEnters.{open_up}
use Rattle.joint_phases.proofs.PeripheralGoes.{HasRoom, owes_up, state_peripheral}
use Rattle.joint_phases.proofs.PeripheralPlain.{TakesAs, or_not}
use Rattle.joint_phases.proofs.PeripheralQueue.{is_queued_class, state_waits}
use Rattle.joint_phases.proofs.PeripheralTable.{cipher_silent, is_cipher}
use Rattle.joint_phases.proofs.PeripheralTakes.{Waits, goes, seen, taken_part}

-- ---- the phase goes on

phase_peripheral : (s : Phased) (p : PhasePeripheral) (phase : PhaseFacts) → IsPeripheral s p → IsPeripheral (record s { phase = phase }) (record p { phase = phase })
phase_peripheral s p phase is =
    record {
      role = is.role;
      phase = refl;
      asks_key = is.asks_key;
      closing = is.closing;
      rejects = is.rejects;
      waits = state_waits (draft_up s.knows_version) s.control.table.queue.drafts p phase p.asks_key p.closing is.waits;
      kept = is.kept;
      request = is.request;
    }

module _ (t : Phased) (p : PhasePeripheral) (is : IsPeripheral (opened t) p) (room : HasRoom p) where
  same_room : (phase : PhaseFacts) (asks_key : Bool) → HasRoom (record p { phase = phase; asks_key = asks_key })
  same_room phase asks_key = record { after = room.after; room = room.room; request = room.request }

  -- an LL_ENC_REQ is answered, and the host asked for the key
  asked_by : (response : Response) (b : Bool)
      → IsPeripheral (if b then moved_to Ask (Some (response_ctrl response)) (record (opened t) { asks_key = is_open t.control.table.closing }) else opened t)
      (if b then peripheral_queuing EncRsp (record p { phase = phase_after Ask t.phase; asks_key = is_open t.control.table.closing }) else p)
  asked_by response true =
      owes_up (record t { phase = phase_after Ask t.phase; asks_key = is_open t.control.table.closing }) (record p { phase = phase_after Ask t.phase; asks_key = is_open t.control.table.closing })
      (response_ctrl response) EncRsp (state_peripheral (opened t) p (phase_after Ask t.phase) (is_open t.control.table.closing) is) refl refl (same_room (phase_after Ask t.phase) (is_open t.control.table.closing)) refl
  asked_by response false = is

  opens : is_open t.control.table.closing ≡ is_peripheral_open p
  opens = ap is_open is.closing ∙ open_up p.closing

  pub asked_then : (response : Response) → IsPeripheral (asked response (opened t)) (peripheral_asked p)
  asked_then response =
      subst (λ (b : Bool). IsPeripheral (asked response (opened t)) (if may_follow Ask p.phase then peripheral_queuing EncRsp (record p { phase = phase_after Ask p.phase; asks_key = b }) else p)) opens
      (subst (λ (q : PhaseFacts). IsPeripheral (asked response (opened t)) (if may_follow Ask q then peripheral_queuing EncRsp (record p { phase = phase_after Ask q; asks_key = is_open t.control.table.closing }) else p)) is.phase
      (asked_by response (may_follow Ask t.phase)))

  -- a transition, and its answer
  moved_by : (transition : Transition) (owed : Ctrl) (k : PduClass) → draft_up t.knows_version (Cipher owed) ≡ k → is_queued_class k ≡ true
      → closing_given owed t.control.table.closing ≡ t.control.table.closing → (b : Bool)
      → IsPeripheral (if b then moved_to transition (Some owed) (opened t) else opened t)
      (if b then peripheral_queuing k (record p { phase = phase_after transition t.phase }) else p)
  moved_by transition owed k class one closing true =
      owes_up (record t { phase = phase_after transition t.phase }) (record p { phase = phase_after transition t.phase })
      owed k (phase_peripheral (opened t) p (phase_after transition t.phase) is) class one (same_room (phase_after transition t.phase) p.asks_key) closing
  moved_by transition owed k class one closing false = is

  pub moved_then : (transition : Transition) (owed : Ctrl) (k : PduClass) → draft_up t.knows_version (Cipher owed) ≡ k → is_queued_class k ≡ true
      → closing_given owed t.control.table.closing ≡ t.control.table.closing
      → IsPeripheral (moved_if transition (Some owed) (opened t))
      (if may_follow transition p.phase then peripheral_queuing k (record p { phase = phase_after transition p.phase }) else p)
  moved_then transition owed k class one closing =
      subst (λ (q : PhaseFacts). IsPeripheral (moved_if transition (Some owed) (opened t)) (if may_follow transition q then peripheral_queuing k (record p { phase = phase_after transition q }) else p)) is.phase
      (moved_by transition owed k class one closing (may_follow transition t.phase))

  unlocked_at : (phase : PhaseFacts) → IsPeripheral (record (opened t) { phase = phase }) (record p { phase = phase })
      → IsPeripheral (moved_if Unlock None (record (opened t) { phase = phase })) (record p { phase = phase_after Unlock phase })
  unlocked_at (Pausing kept) here = phase_peripheral (opened t) p (HalfClear kept) is
  unlocked_at phase here = here

  pub unlocked_then : IsPeripheral (moved_if Unlock None (opened t)) (record p { phase = phase_after Unlock p.phase })
  unlocked_then =
      subst (λ (q : PhaseFacts). IsPeripheral (moved_if Unlock None (opened t)) (record p { phase = phase_after Unlock q })) is.phase
      (unlocked_at t.phase (subst (λ (q : PhaseFacts). IsPeripheral (opened t) (record p { phase = q })) (sym is.phase) is))

-- ---- each PDU

abbrev pub is_sent_down : PduClass → Bool
is_sent_down EncReq = true
is_sent_down StartEncRsp = true
is_sent_down PauseEncReq = true
is_sent_down PauseEncRsp = true
is_sent_down k = false

module _ (s : Phased) (p : PhasePeripheral) (response : Response) (slot : ℕ) (crossed : Bool) (is : IsPeripheral (opened s) p) (room : HasRoom p) where
  abbrev result : Ctrl → Phased
  result ctrl = phased_after (Takes (Known ctrl) slot response) (opened s)

  abbrev MayTake : Ctrl → Type 0
  MayTake ctrl =
      allows s.phase peripheral_role (ctrl_class ctrl) ≡ true → is_unknown s.phase peripheral_role (ctrl_class ctrl) ≡ false
      → (result ctrl).control.ends ≡ None → TakesAs (result ctrl) (peripheral_taken crossed (ctrl_class ctrl) p) (s.knows_version || is_version (Known ctrl))

  module _ (ctrl : Ctrl) (cipher : is_cipher ctrl ≡ true) (apart : is_terminate ctrl ≡ false) (version : is_version (Known ctrl) ≡ false)
      (phase : phase_taking (ctrl_class ctrl) s.phase ≡ s.phase)
      (then_is : (t : Phased) → IsPeripheral (opened t) p → IsPeripheral (ciphered_at_peripheral response ctrl (opened t)) (peripheral_taken crossed (ctrl_class ctrl) p))
      (then_knows : (t : Phased) → (ciphered_at_peripheral response ctrl t).knows_version ≡ t.knows_version) where
    cipher_takes : MayTake ctrl
    cipher_takes allowed known lasts =
        let g = goes s p ctrl response slot is allowed known lasts in
        let t : Phased = seen s p ctrl response slot is allowed known false in
        let silent = cipher_silent s.control.table s.control.table.progress (is_quiet s.phase) ctrl is.role cipher in
        let knows : (s.knows_version || is_version (Known ctrl)) ≡ s.knows_version = or_not s.knows_version (is_version (Known ctrl)) version in
        let waits : Waits s p ctrl response slot is allowed known p.request p.owes (with_reply s.control.table.closing (outcome_of s.control.table (is_quiet s.phase) (Known ctrl)).reply s.control.table.queue) =
        record {
          rejects = ap (λ (r : Reply). (with_reply s.control.table.closing r s.control.table.queue).rejections) silent ∙ is.rejects;
          waits =
              (λ i. wait_up (draft_up (knows i)) (with_reply s.control.table.closing (silent i) s.control.table.queue).drafts p) ∙ is.waits;
        } in
        let here : IsPeripheral t p = taken_part s p ctrl response slot is allowed known p.request p.owes apart (phase ∙ is.phase) (λ o. waits) g.lasts in
        let after_it = at_open (λ x. IsPeripheral x p → IsPeripheral (ciphered_at_peripheral response ctrl x) (peripheral_taken crossed (ctrl_class ctrl) p)) t g.lasts (then_is t) here in
        record {
          part = subst (λ (x : Phased). IsPeripheral x (peripheral_taken crossed (ctrl_class ctrl) p)) (sym g.there) after_it;
          knows_it = ap (λ (x : Phased). x.knows_version) g.there ∙ then_knows t;
        }

  if_knows : (b : Bool) (t u : Phased) → t.knows_version ≡ u.knows_version → (if b then t else u).knows_version ≡ u.knows_version
  if_knows true t u h = h
  if_knows false t u h = refl

  takes_enc_req : (rand ediv skd_m iv_m : ℕ) → MayTake (enc_req rand ediv skd_m iv_m)
  takes_enc_req rand ediv skd_m iv_m =
      cipher_takes (enc_req rand ediv skd_m iv_m) refl refl refl refl (λ t here. asked_then t p here room response)
      (λ t. if_knows (may_follow Ask t.phase) _ _ refl)

  takes_pause_req : MayTake pause_enc_req
  takes_pause_req =
      cipher_takes pause_enc_req refl refl refl refl (λ t here. moved_then t p here room Pause pause_enc_rsp PauseEncRsp refl refl refl)
      (λ t. if_knows (may_follow Pause t.phase) _ _ refl)

  takes_start_rsp : MayTake start_enc_rsp
  takes_start_rsp =
      cipher_takes start_enc_rsp refl refl refl refl (λ t here. moved_then t p here room Confirm start_enc_rsp StartEncRsp refl refl refl)
      (λ t. if_knows (may_follow Confirm t.phase) _ _ refl)

  takes_pause_rsp : MayTake pause_enc_rsp
  takes_pause_rsp =
      cipher_takes pause_enc_rsp refl refl refl refl (λ t here. unlocked_then t p here room)
      (λ t. if_knows (may_follow Unlock t.phase) _ _ refl)

  -- ---- no other means something

  never_here : (k : PduClass) (phase : PhaseFacts) → is_encryption k ≡ true → is_sent_down k ≡ false → allows phase peripheral_role k ≡ true
      → has_meaning peripheral_role phase k ≡ true → ⊥
  never_here EncRsp Clear enc down may means = absurd (cc)
  never_here EncRsp Secure enc down may means = absurd (cc)
  never_here EncRsp phase enc down may means = absurd (cc)
  never_here StartEncReq Clear enc down may means = absurd (cc)
  never_here StartEncReq Secure enc down may means = absurd (cc)
  never_here StartEncReq phase enc down may means = absurd (cc)
  never_here Refusal Clear enc down may means = absurd (cc)
  never_here Refusal Secure enc down may means = absurd (cc)
  never_here Refusal phase enc down may means = absurd (cc)
  never_here k phase enc down may means = absurd (cc)

  known_request : (phase : PhaseFacts) → has_meaning peripheral_role phase EncReq ≡ true → is_unknown phase peripheral_role EncReq ≡ false
  known_request Clear means = refl
  known_request Secure means = absurd (cc)
  known_request phase means = refl

  known_pause : (phase : PhaseFacts) → has_meaning peripheral_role phase PauseEncReq ≡ true → is_unknown phase peripheral_role PauseEncReq ≡ false
  known_pause Clear means = absurd (cc)
  known_pause Secure means = refl
  known_pause phase means = refl

  known_answer : (phase : PhaseFacts) → (is_unknown phase peripheral_role StartEncRsp ≡ false) × (is_unknown phase peripheral_role PauseEncRsp ≡ false)
  known_answer Clear = (refl, refl)
  known_answer Secure = (refl, refl)
  known_answer phase = (refl, refl)

  not_sent_down : (b : Bool) → is_sent_down (if b then Refusal else Other) ≡ false
  not_sent_down true = refl
  not_sent_down false = refl

  never_by : (ctrl : Ctrl) (E : Type 0) → is_sent_down (ctrl_class ctrl) ≡ false → is_encryption (ctrl_class ctrl) ≡ true → allows p.phase peripheral_role (ctrl_class ctrl) ≡ true
      → has_meaning peripheral_role p.phase (ctrl_class ctrl) ≡ true → E
  never_by ctrl E down enc may means = absurd (never_here (ctrl_class ctrl) p.phase enc down may means)

  pub takes_cipher : (ctrl : Ctrl) → is_encryption (ctrl_class ctrl) ≡ true → allows p.phase peripheral_role (ctrl_class ctrl) ≡ true
      → has_meaning peripheral_role p.phase (ctrl_class ctrl) ≡ true → (result ctrl).control.ends ≡ None
      → TakesAs (result ctrl) (peripheral_taken crossed (ctrl_class ctrl) p) (s.knows_version || is_version (Known ctrl))
  takes_cipher (enc_req rand ediv skd_m iv_m) enc may means =
      takes_enc_req rand ediv skd_m iv_m (ap (λ q. allows q peripheral_role EncReq) is.phase ∙ may) (ap (λ q. is_unknown q peripheral_role EncReq) is.phase ∙ known_request p.phase means)
  takes_cipher pause_enc_req enc may means =
      takes_pause_req (ap (λ q. allows q peripheral_role PauseEncReq) is.phase ∙ may) (ap (λ q. is_unknown q peripheral_role PauseEncReq) is.phase ∙ known_pause p.phase means)
  takes_cipher start_enc_rsp enc may means = takes_start_rsp (ap (λ q. allows q peripheral_role StartEncRsp) is.phase ∙ may) (known_answer s.phase).0
  takes_cipher pause_enc_rsp enc may means = takes_pause_rsp (ap (λ q. allows q peripheral_role PauseEncRsp) is.phase ∙ may) (known_answer s.phase).1
  takes_cipher (RejectExtInd opcode code) enc may means = never_by (RejectExtInd opcode code) _ (not_sent_down _) enc may means
  takes_cipher (enc_rsp skd_s iv_s) enc may means = never_by (enc_rsp skd_s iv_s) _ refl enc may means
  takes_cipher start_enc_req enc may means = never_by start_enc_req _ refl enc may means
  takes_cipher (RejectInd code) enc may means = never_by (RejectInd code) _ refl enc may means
  takes_cipher ctrl enc may means = absurd (cc)
