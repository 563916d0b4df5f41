-- What the machine of the procedures that exclude each other asks of one end, and of what is on the air, holds in each state
-- of a joint run in which that goes on.
use Rattle.std.proofs.Common.{◌≡◌, ℕ, eqb-true, ◌==◌, if◌then◌else◌, Bool, true, false, not, ◌||◌, List, [], ◌∷◌, Option, Some, None, is_some, refl, ap, sym, subst, ◌∙◌}
use Rattle.std.specs.List.{AllByRecursion}
use Rattle.std.proofs.lemmas.List.Elements.{All-from_recursion}
use Rattle.ble_base.specs.declared.roles.Role.TheVariants.{Central, Peripheral}
use Rattle.data_pdu.specs.declared.ctrl.Ctrl.{Ctrl}
use Rattle.data_pdu.specs.declared.ctrl.Ctrl.TheVariants.{EncReq, EncRsp, PauseEncReq, PauseEncRsp, RejectExtInd, StartEncReq, StartEncRsp, TerminateInd}
use Rattle.joint_parameters.specs.enc_phase.declared.classes.PduClass.TheVariants.{Request}
use Rattle.joint_parameters.specs.enc_phase.declared.facts.PhaseFacts.{PhaseFacts}
use Rattle.joint_parameters.specs.enc_phase.declared.facts.PhaseFacts.TheVariants.{Asked, Clear, HalfClear, HalfKeyed, Pausing, Secure}
use Rattle.joint_parameters.specs.enc_phase.Phases.{is_quiet}
use Rattle.joint_parameters.specs.enc_phase.Taking.{allows}
use Rattle.instants.specs.declared.indications.Params.{Params}
use Rattle.machines.specs.Machine.{run}
use Rattle.joint_parameters.specs.procedure_values.declared.drafts.Draft.TheVariants.{Cipher, UnknownRsp}
use Rattle.joint_parameters.specs.procedure_values.declared.drafts.Outgoing.{Outgoing}
use Rattle.joint_parameters.specs.procedure_values.declared.drafts.Outgoing.TheVariants.{Disconnect, Nothing, Other, Rejection}
use Rattle.joint_parameters.specs.procedure_values.declared.drafts.Rejection.{Rejection as TheRejection}
use Rattle.joint_parameters.specs.procedure_stages.declared.closing.Closing.{Closing}
use Rattle.joint_parameters.specs.procedure_stages.Closing.{is_disconnecting, is_open}
use Rattle.joint_collisions.specs.collision_steps.Parts.{reason_part, rejection_part}
use Rattle.joint_phases.specs.phase_pairs.declared.joint.PhaseEvent.{PhaseEvent}
use Rattle.joint_phases.specs.phase_pairs.JointRun.{encryption}
use Rattle.joint_parameters.specs.phased_control.Ends.{IsFirst, is_half_keyed, says_kept}
use Rattle.joint_parameters.specs.phased_control.Phased.{Phased, first_phased, is_quiet_now}
use Rattle.joint_parameters.specs.phased_control.Taken.{phased_after_all}
use Rattle.exclusive_stages.specs.declared.pdus.Pdu.{Pdu}
use Rattle.exclusive_stages.specs.declared.pdus.Pdu.TheVariants.{RejectParam, RejectPhy}
use Rattle.joint_parameters.specs.procedure_stages.Opcodes.{connection_param_req_opcode, enc_req_opcode, phy_req_opcode}
use Rattle.joint_parameters.proofs.phased_control.Kept.{first_now, none_quietly, said_now}
use Rattle.joint_parameters.specs.joint_controls.Ends.{steps_of_central}
use Rattle.joint_parameters.specs.joint_controls.Joint.{Joint, JointStep, Way, Clear as clear_way, Control, Data, Fixed, Item, OnAir, Taken, after_all, beginning, item_on_air}
use Rattle.joint_parameters.proofs.joint_controls.EndSteps.{central_runs}
use Rattle.joint_collisions.specs.Facts.{CentralFacts, Facts, fits_down, fits_if, fits_up, is_cipher_down, is_cipher_up, item_fits}
use Rattle.joint_exchanges.specs.Runs.{AllBefore, GoesOn}
use Rattle.joint_exchanges.specs.SentByRole.{AreOfRoles, HaveMeaning, IsItemOf, IsWayOf, is_cipher_of, is_outgoing_of, is_rejection_of}
use Rattle.joint_exchanges.proofs.Few.{meant_roles}
use Rattle.joint_phases.specs.Parts.{IsShown, closing_down, way_down}
use Rattle.joint_laws.proofs.CentralFacts.{outgoing_out}
use Rattle.joint_laws.proofs.PausePlaces.{pausing}
use Rattle.joint_parameters.proofs.joint_controls.LastPdus.{first_tied, tied}
use Rattle.joint_parameters.specs.joint_controls.Ends.{IsSentOn, outgoing_on}
use Rattle.joint_parameters.specs.phased_control.Phased.{is_pause_rsp}
use Rattle.joint_phases.specs.phase_pairs.JointRun.{is_coming, is_pause_rsp as is_pause_class, is_pause_rsp_taken}
use Rattle.joint_laws.proofs.Common.{not_true, implied}

-- ---- what a central keeps

kept_allows : (phase : PhaseFacts) (kept : Option Ctrl) (ctrl : Ctrl) → (is_quiet phase ≡ true → kept ≡ None) → (is_half_keyed phase ≡ false → is_some kept ≡ says_kept phase)
    → kept ≡ Some ctrl → allows phase Central Request ≡ false
kept_allows Clear kept ctrl quiet said is = let none = quiet refl in absurd (cc)
kept_allows Secure kept ctrl quiet said is = let none = quiet refl in absurd (cc)
kept_allows HalfKeyed kept ctrl quiet said is = refl
kept_allows (HalfClear k) kept ctrl quiet said is = refl
kept_allows (Asked after_pause enc_rsp k) kept ctrl quiet said is = ap not (sym (said refl) ∙ ap is_some is)
kept_allows (Pausing k) kept ctrl quiet said is = ap not (sym (said refl) ∙ ap is_some is)

-- ---- its LL_PAUSE_ENC_RSP

pausing_way : (knows : Bool) (way : Way) → IsSentOn way → is_pause_rsp (outgoing_on way) ≡ true
    → (is_coming is_pause_class (way_down knows way) || is_pause_rsp_taken (way_down knows way)) ≡ true
pausing_way knows clear_way sent is = absurd (cc)
pausing_way knows (Fixed Data sealed) sent is = absurd (cc)
pausing_way knows (OnAir Data sealed) sent is = absurd (cc)
pausing_way knows (Taken Data) sent is = absurd (cc)
pausing_way knows (Fixed (Control outgoing ctrl) sealed) sent is =
    ap (λ b. b || false) (sym (outgoing_out knows outgoing ctrl sent.event sent.latency sent.is) ∙ is)
pausing_way knows (OnAir (Control outgoing ctrl) sealed) sent is =
    ap (λ b. b || false) (sym (outgoing_out knows outgoing ctrl sent.event sent.latency sent.is) ∙ is)
pausing_way knows (Taken (Control outgoing ctrl)) sent is = sym (outgoing_out knows outgoing ctrl sent.event sent.latency sent.is) ∙ is

-- ---- until it takes LL_TERMINATE_IND it is to end only by the Disconnect of its host

closing_by : (b : Bool) (closing : Closing) → closing ≡ closing_down b → is_open closing ≡ false → is_disconnecting closing ≡ true
closing_by true closing is ended = ap is_disconnecting is
closing_by false closing is ended = let open_end = ap is_open is in absurd (cc)

-- ---- rejections

opcode_some : (a b : Bool) (x y : Pdu) → (a || b) ≡ true → is_some (if a then Some x else (if b then Some y else None)) ≡ true
opcode_some true b x y is = refl
opcode_some false true x y is = refl
opcode_some false false x y is = absurd (cc)

pub rejection_some : (rejection : TheRejection) → is_rejection_of Central rejection ≡ true → is_some (rejection_part rejection) ≡ true
rejection_some rejection is =
    opcode_some (rejection.opcode == connection_param_req_opcode) (rejection.opcode == phy_req_opcode) (RejectParam (reason_part rejection.code)) (RejectPhy (reason_part rejection.code)) is

all_some : (rejections : List TheRejection) → AllByRecursion (λ rejection. is_rejection_of Central rejection ≡ true) rejections
    → AllByRecursion (λ rejection. is_some (rejection_part rejection) ≡ true) rejections
all_some [] all = tt
all_some (rejection ∷ rejections) all = (rejection_some rejection all.0, all_some rejections all.1)

-- ---- what is on the air

cipher_down : (ctrl : Ctrl) → is_cipher_of Central ctrl ≡ true → is_cipher_down ctrl ≡ true
cipher_down (EncReq rand ediv skd_m iv_m) is = refl
cipher_down StartEncRsp is = refl
cipher_down PauseEncReq is = refl
cipher_down PauseEncRsp is = refl
cipher_down (TerminateInd code) is = refl
cipher_down ctrl is = absurd (cc)

cipher_up : (ctrl : Ctrl) → is_cipher_of Peripheral ctrl ≡ true → is_cipher_up ctrl ≡ true
cipher_up (EncRsp skd_s iv_s) is = refl
cipher_up StartEncReq is = refl
cipher_up StartEncRsp is = refl
cipher_up PauseEncRsp is = refl
cipher_up (RejectExtInd opcode code) is = ap (λ n. enc_req_opcode == n) (eqb-true opcode enc_req_opcode is)
cipher_up (TerminateInd code) is = refl
cipher_up ctrl is = absurd (cc)

outgoing_down : (outgoing : Outgoing) → is_outgoing_of false Central outgoing ≡ true → fits_down outgoing ≡ true
outgoing_down Nothing is = refl
outgoing_down (Rejection rejection) is = rejection_some rejection is
outgoing_down (Disconnect code) is = refl
outgoing_down (Other (Cipher ctrl)) is = cipher_down ctrl is
outgoing_down (Other (UnknownRsp opcode)) is = absurd (cc)
outgoing_down (Other draft) is = refl

outgoing_up : (outgoing : Outgoing) → is_outgoing_of false Peripheral outgoing ≡ true → fits_up outgoing ≡ true
outgoing_up Nothing is = refl
outgoing_up (Rejection rejection) is = absurd (cc)
outgoing_up (Disconnect code) is = refl
outgoing_up (Other (Cipher ctrl)) is = cipher_up ctrl is
outgoing_up (Other (UnknownRsp opcode)) is = absurd (cc)
outgoing_up (Other draft) is = refl

item_down : (item : Item) → IsItemOf false Central item → item_fits fits_down item ≡ true
item_down Data sent = refl
item_down (Control outgoing ctrl) sent = outgoing_down outgoing sent.right

item_up : (item : Item) → IsItemOf false Peripheral item → item_fits fits_up item ≡ true
item_up Data sent = refl
item_up (Control outgoing ctrl) sent = outgoing_up outgoing sent.right

way_down_fits : (way : Way) → IsWayOf false Central way → fits_if fits_down (item_on_air way) ≡ true
way_down_fits (OnAir item sealed) sent = item_down item sent
way_down_fits way sent = refl

way_up_fits : (way : Way) → IsWayOf false Peripheral way → fits_if fits_up (item_on_air way) ≡ true
way_up_fits (OnAir item sealed) sent = item_up item sent
way_up_fits way sent = refl

-- ---- in a joint run

module _ (central_rx peripheral_rx : ℕ) (first : Params) (slot : ℕ) (steps : List JointStep) where
  abbrev start : Joint
  start = beginning central_rx peripheral_rx first slot

  abbrev s : Joint
  s = after_all steps start

  -- a law of one end
  of_central : (P : Phased → Type 0) → P (phased_after_all (steps_of_central steps start) (first_phased Central central_rx first slot)) → P s.central
  of_central P h = subst P (sym (central_runs steps start)) h

  module _ (run_on : GoesOn steps start) (meant : AllBefore HaveMeaning steps start) (events : List PhaseEvent)
      (shown : IsShown s (run encryption events)) where
    roles : AreOfRoles false s
    roles = meant_roles central_rx peripheral_rx first slot steps run_on meant

    pauses : is_pause_rsp s.central.control.table.out ≡ true → is_quiet_now s.central ≡ false
    pauses is =
        let all = tied steps start (first_tied central_rx peripheral_rx first slot) in
        let way = pausing_way s.central.knows_version s.down all.sent_down (ap (λ outgoing. is_pause_rsp outgoing) (sym all.central) ∙ is) in
        let down = ap (λ way. is_coming is_pause_class way || is_pause_rsp_taken way) shown.down ∙ way in
        ap is_quiet shown.central.phase ∙ not_true _ (implied _ _ (pausing events) down)

    central_facts : CentralFacts s.central
    central_facts =
        record {
          kept = λ ctrl. λ is.
              kept_allows s.central.phase s.central.kept ctrl
              (of_central (λ (t : Phased). is_quiet_now t ≡ true → t.kept ≡ None) (none_quietly Central central_rx first slot (steps_of_central steps start)))
              (of_central (λ (t : Phased). is_half_keyed t.phase ≡ false → is_some t.kept ≡ says_kept t.phase) (said_now Central central_rx first slot (steps_of_central steps start)))
              is;
          first = λ ctrl. λ is.
              subst IsFirst is (of_central (λ (t : Phased). IsFirst t.kept) (first_now Central central_rx first slot (steps_of_central steps start)));
          pauses = pauses;
          rejections = All-from_recursion (λ rejection. is_some (rejection_part rejection) ≡ true) _ (all_some s.central.control.table.queue.rejections roles.central.table.rejections);
          closing = λ ended. closing_by _ s.central.control.table.closing shown.central.closing ended;
        }

    pub exclusive_facts : Facts s
    exclusive_facts =
        record {
          central = central_facts;
          peripheral = record { kept = shown.peripheral.kept };
          down = way_down_fits s.down roles.down;
          up = way_up_fits s.up roles.up;
        }
