-- A peripheral has a key or none, sends, and sees its PDU acknowledged: what the machine of phases sees of it.
use Rattle.std.proofs.Common.{◌≡◌, Bool, true, false, not, ◌&&◌, [], ◌∷◌, ◌++◌, Some, is_none, refl, ap, sym, subst, ◌∙◌, if◌then◌else◌}
use Rattle.std.proofs.lemmas.Bool.{and_parts}
use Rattle.ble_base.specs.ErrorCodes.{pin_or_key_missing}
use Rattle.ble_base.specs.declared.roles.Role.TheVariants.{Peripheral as peripheral_role}
use Rattle.data_pdu.specs.declared.ctrl.Ctrl.{Ctrl}
use Rattle.data_pdu.specs.declared.ctrl.Ctrl.TheVariants.{RejectExtInd, StartEncReq as start_enc_req, TerminateInd}
use Rattle.phase_pairs.specs.enc_phase.declared.classes.PduClass.{PduClass}
use Rattle.phase_pairs.specs.enc_phase.declared.classes.PduClass.TheVariants.{Refusal, StartEncReq, Terminate}
use Rattle.phase_pairs.specs.enc_phase.declared.facts.PhaseFacts.{PhaseFacts}
use Rattle.phase_pairs.specs.enc_phase.declared.facts.Transition.TheVariants.{Refuse as RefuseTransition}
use Rattle.phase_pairs.specs.enc_phase.Phases.{may_follow, phase_after, phase_starting}
use Rattle.joint_controls.specs.procedure_values.declared.drafts.Draft.TheVariants.{Cipher}
use Rattle.joint_controls.specs.procedure_stages.declared.stages.Progress.{Progress}
use Rattle.joint_controls.specs.procedure_stages.declared.stages.Progress.TheVariants.{Central as central, Peripheral as peripheral}
use Rattle.joint_controls.specs.procedure_stages.Closing.{closed, is_open}
use Rattle.joint_controls.specs.procedure_stages.Kinds.{role_of}
use Rattle.joint_controls.specs.procedure_stages.Queue.{with_draft}
use Rattle.joint_controls.specs.procedures.Encryption.{is_rejection, progress_given}
use Rattle.joint_controls.specs.procedures.Going.{closing_given}
use Rattle.joint_controls.specs.procedure_stages.Opcodes.{enc_req_opcode}
use Rattle.phase_pairs.specs.declared.peripheral.PhaseClosing.TheVariants.{HasNoKey}
use Rattle.phase_pairs.specs.declared.peripheral.PhasePeripheral.{PhasePeripheral}
use Rattle.phase_pairs.specs.Peripheral.{is_open as is_peripheral_open, is_waiting, may_get_key, peripheral_queuing, peripheral_with_key, peripheral_without_key}
use Rattle.joint_controls.specs.phased_control.Phased.{Phased, key_lacking, refused_if, with_owed}
use Rattle.joint_controls.specs.phased_control.Taken.{GivesKey, LacksKey, phased_after}
use Rattle.joint_phases.specs.Classes.{draft_up}
use Rattle.joint_phases.specs.Parts.{IsPeripheral, closing_up, wait_up}
use Rattle.joint_phases.proofs.CentralEnters.{open_is, opened}
use Rattle.joint_phases.proofs.MachineFacts.{is_after}
use Rattle.joint_phases.proofs.PeripheralEnters.{open_up}
use Rattle.joint_phases.proofs.PeripheralQueue.{is_queued_class, queues_more, state_waits}

pub given_role : (q : Progress) (ctrl : Ctrl) → role_of (progress_given q ctrl) ≡ role_of q
given_role (central x) ctrl = refl
given_role (peripheral x) ctrl = by (is_rejection ctrl)
  where
    by : (b : Bool) → role_of (if b then peripheral (record x { encrypting = false }) else peripheral x) ≡ peripheral_role
    by true = refl
    by false = refl

-- another phase, and whether the host is asked for a key
pub state_peripheral : (s : Phased) (p : PhasePeripheral) (phase : PhaseFacts) (asks_key : Bool) → IsPeripheral s p
    → IsPeripheral (record s { phase = phase; asks_key = asks_key }) (record p { phase = phase; asks_key = asks_key })
state_peripheral s p phase asks_key is =
    record {
      role = is.role;
      phase = refl;
      asks_key = refl;
      closing = is.closing;
      rejects = is.rejects;
      waits = state_waits (draft_up s.knows_version) s.control.table.queue.drafts p phase asks_key p.closing is.waits;
      kept = is.kept;
      request = is.request;
    }

-- ---- a PDU of the encryption is queued

-- where it finds a place
pub record HasRoom (p : PhasePeripheral) : Type 0 where
  pub after : is_none p.first ≡ true → is_none p.second ≡ true
  pub room : is_none p.first ≡ false → is_none p.second ≡ true
  pub request : is_none p.first ≡ false → not (is_after p.request) ≡ true

module _ (t : Phased) (p : PhasePeripheral) (ctrl : Ctrl) (k : PduClass) (is : IsPeripheral (opened t) p) (class : draft_up t.knows_version (Cipher ctrl) ≡ k)
    (one : is_queued_class k ≡ true) (room : HasRoom p) where
  queue_by : (b : Bool)
      → (wait_up (draft_up t.knows_version) (if b then record t.control.table.queue { drafts = t.control.table.queue.drafts ++ Cipher ctrl ∷ [] } else t.control.table.queue).drafts
      (if b then (if is_waiting p then record p { second = Some k } else record p { first = Some k }) else p) ≡ true)
      × ((if b then record t.control.table.queue { drafts = t.control.table.queue.drafts ++ Cipher ctrl ∷ [] } else t.control.table.queue).rejections ≡ [])
  queue_by true =
      (queues_more (draft_up t.knows_version) p t.control.table.queue.drafts k (Cipher ctrl) class one is.waits room.after room.room room.request, is.rejects)
  queue_by false = (is.waits, is.rejects)

  opens : is_open t.control.table.closing ≡ is_peripheral_open p
  opens = ap is_open is.closing ∙ open_up p.closing

  pub queue_up : (wait_up (draft_up t.knows_version) (with_draft t.control.table.closing (Cipher ctrl) t.control.table.queue).drafts (peripheral_queuing k p) ≡ true)
      × ((with_draft t.control.table.closing (Cipher ctrl) t.control.table.queue).rejections ≡ [])
  queue_up =
      subst (λ (b : Bool). (wait_up (draft_up t.knows_version) (with_draft t.control.table.closing (Cipher ctrl) t.control.table.queue).drafts
      (if b then (if is_waiting p then record p { second = Some k } else record p { first = Some k }) else p) ≡ true)
      × ((with_draft t.control.table.closing (Cipher ctrl) t.control.table.queue).rejections ≡ []))
      opens (queue_by (is_open t.control.table.closing))

  -- what queueing leaves as it was
  same_by : (a b : Bool)
      → ((if a then (if b then record p { second = Some k } else record p { first = Some k }) else p).phase ≡ p.phase)
      × ((if a then (if b then record p { second = Some k } else record p { first = Some k }) else p).asks_key ≡ p.asks_key)
      × ((if a then (if b then record p { second = Some k } else record p { first = Some k }) else p).closing ≡ p.closing)
  same_by true true = (refl, refl, refl)
  same_by true false = (refl, refl, refl)
  same_by false b = (refl, refl, refl)

  pub owes_up : closing_given ctrl t.control.table.closing ≡ t.control.table.closing → IsPeripheral (with_owed ctrl (opened t)) (peripheral_queuing k p)
  owes_up closing =
      let same = same_by (is_peripheral_open p) (is_waiting p) in
      let queue = queue_up in
      record {
        role = given_role t.control.table.progress ctrl ∙ is.role;
        phase = is.phase ∙ sym same.0;
        asks_key = is.asks_key ∙ sym same.1;
        closing = closing ∙ is.closing ∙ sym (ap closing_up same.2);
        rejects = queue.1;
        waits = queue.0;
        kept = is.kept;
        request = is.request;
      }

-- ---- the host has a key, or none

abbrev pub KeyAs : PhasePeripheral → Bool → Phased → Type 0
KeyAs p true t = (may_get_key p ≡ true) × IsPeripheral t (peripheral_with_key p)
KeyAs p false t = IsPeripheral t p

abbrev pub NoKeyAs : PhasePeripheral → Bool → Phased → Type 0
NoKeyAs p true t = (may_get_key p ≡ true) × IsPeripheral t (peripheral_without_key p)
NoKeyAs p false t = IsPeripheral t p

module _ (s : Phased) (p : PhasePeripheral) (is : IsPeripheral (opened s) p) (room : p.asks_key ≡ true → HasRoom p) where
  may_get : (s.asks_key && is_open s.control.table.closing) ≡ true → may_get_key p ≡ true
  may_get asked = (λ i. sym is.asks_key i && (sym (open_up p.closing) ∙ ap is_open (sym is.closing)) i) ∙ asked

  asked_room : (s.asks_key && is_open s.control.table.closing) ≡ true → HasRoom p
  asked_room asked = room ((and_parts p.asks_key (is_peripheral_open p) (may_get asked)).0)

  without_state : (phase : PhaseFacts) → HasRoom p → HasRoom (record p { asks_key = false; phase = phase })
  without_state phase r = record { after = r.after; room = r.room; request = r.request }

  key_by : (b : Bool) → (s.asks_key && is_open s.control.table.closing) ≡ b
      → KeyAs p b (if b then with_owed start_enc_req (record (opened s) { asks_key = false; phase = phase_starting s.phase }) else opened s)
  key_by false asked = is
  key_by true asked = (
    may_get asked,
    subst (λ (q : PhaseFacts). IsPeripheral (with_owed start_enc_req (record (opened s) { asks_key = false; phase = phase_starting s.phase })) (peripheral_queuing StartEncReq (record p { asks_key = false; phase = phase_starting q })))
        is.phase
        (owes_up (record s { asks_key = false; phase = phase_starting s.phase }) (record p { asks_key = false; phase = phase_starting s.phase }) start_enc_req StartEncReq
        (state_peripheral (opened s) p (phase_starting s.phase) false is) refl refl (without_state (phase_starting s.phase) (asked_room asked)) refl),
  )

  pub peripheral_key : KeyAs p (s.asks_key && is_open s.control.table.closing) (phased_after GivesKey (opened s))
  peripheral_key = key_by (s.asks_key && is_open s.control.table.closing) refl

  abbrev refused_to : PhaseFacts → PhasePeripheral
  refused_to phase = peripheral_queuing Refusal (record p { asks_key = false; phase = phase_after RefuseTransition phase })

  abbrev keyless : PhasePeripheral
  keyless = record (peripheral_queuing Terminate (record p { asks_key = false })) { closing = HasNoKey }

  refuses : HasRoom p → IsPeripheral (refused_if true (opened s)) (refused_to s.phase)
  refuses r =
      owes_up (record s { asks_key = false; phase = phase_after RefuseTransition s.phase }) (record p { asks_key = false; phase = phase_after RefuseTransition s.phase })
      (RejectExtInd enc_req_opcode pin_or_key_missing) Refusal (state_peripheral (opened s) p (phase_after RefuseTransition s.phase) false is) refl refl
      (without_state (phase_after RefuseTransition s.phase) r) refl

  unasked : IsPeripheral (record (opened s) { asks_key = false }) (record p { asks_key = false })
  unasked =
      record {
        role = is.role;
        phase = is.phase;
        asks_key = refl;
        closing = is.closing;
        rejects = is.rejects;
        waits = state_waits (draft_up s.knows_version) s.control.table.queue.drafts p p.phase false p.closing is.waits;
        kept = is.kept;
        request = is.request;
      }

  ends_it : HasRoom p → is_open s.control.table.closing ≡ true → IsPeripheral (refused_if false (opened s)) keyless
  ends_it r lasts =
      let t : Phased = record s { asks_key = false } in
      let p0 : PhasePeripheral = record p { asks_key = false } in
      let queue = queue_up t p0 (TerminateInd pin_or_key_missing) Terminate unasked refl refl (without_state p.phase r) in
      let same = same_by t p0 (TerminateInd pin_or_key_missing) Terminate unasked refl refl (without_state p.phase r) (is_peripheral_open p) (is_waiting p) in
      record {
        role = given_role s.control.table.progress (TerminateInd pin_or_key_missing) ∙ is.role;
        phase = is.phase ∙ sym same.0;
        asks_key = sym same.1;
        closing = ap closed (open_is s.control.table.closing lasts);
        rejects = queue.1;
        waits = state_waits (draft_up s.knows_version) (with_draft s.control.table.closing (Cipher (TerminateInd pin_or_key_missing)) s.control.table.queue).drafts
            (peripheral_queuing Terminate p0) (peripheral_queuing Terminate p0).phase (peripheral_queuing Terminate p0).asks_key HasNoKey queue.0;
        kept = is.kept;
        request = is.request;
      }

  lacks_if : (m : Bool) → HasRoom p → is_open s.control.table.closing ≡ true → IsPeripheral (refused_if m (opened s)) (if m then refused_to s.phase else keyless)
  lacks_if true r lasts = refuses r
  lacks_if false r lasts = ends_it r lasts

  lacks_by : (b : Bool) → (s.asks_key && is_open s.control.table.closing) ≡ b → NoKeyAs p b (if b then key_lacking (opened s) else opened s)
  lacks_by false asked = is
  lacks_by true asked = (
    may_get asked,
    subst (λ (q : PhaseFacts). IsPeripheral (key_lacking (opened s)) (if may_follow RefuseTransition q then refused_to q else keyless)) is.phase
        (lacks_if (may_follow RefuseTransition s.phase) (asked_room asked) (and_parts s.asks_key (is_open s.control.table.closing) asked).1),
  )

  pub peripheral_lacks : NoKeyAs p (s.asks_key && is_open s.control.table.closing) (phased_after LacksKey (opened s))
  peripheral_lacks = lacks_by (s.asks_key && is_open s.control.table.closing) refl
