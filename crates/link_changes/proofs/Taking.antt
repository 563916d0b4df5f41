-- A peripheral hands on each indication that it takes, and nothing else, or ends the link.
use Rattle.std.proofs.Common.{◌≡◌, ℕ, Bool, true, false, ◌||◌, if◌then◌else◌, Option, Some, None, is_some, refl, sym, ap}
use Rattle.ble_base.specs.declared.error_codes.ErrCode.{ErrCode}
use Rattle.ble_base.specs.declared.procedure_kinds.Kind.{Kind}
use Rattle.ble_base.specs.declared.roles.Role.{Role}
use Rattle.ble_base.specs.declared.roles.Role.TheVariants.{Peripheral as peripheral_role}
use Rattle.data_pdu.specs.Reading.{ctrl_of, opcode_of}
use Rattle.data_pdu.specs.declared.ctrl.Ctrl.{Ctrl}
use Rattle.data_pdu.specs.declared.ctrl.Ctrl.TheVariants.{TerminateInd, UnknownRsp, FeatureRsp, VersionInd, RejectInd, RejectExtInd, LengthReq, LengthRsp, ConnectionUpdateInd, ChannelMapInd, EncReq, FeatureReq, PauseEncReq, PauseEncRsp, StartEncRsp, PhyReq, PhyUpdateInd}
use Rattle.data_pdu.specs.declared.ctrl.CtrlRead.{CtrlRead}
use Rattle.data_pdu.specs.declared.ctrl.CtrlRead.TheVariants.{Known, Unknown, Bare}
use Rattle.instants.specs.declared.indications.Indication.{Indication}
use Rattle.exclusive_stages.specs.Awaited.{awaits_phy_ind, central_answered, has_phy_of_central, reads_as_answer}
use Rattle.link_model.specs.procedure_stages.Awaited.{awaits_features, awaits_lengths}
use Rattle.link_model.specs.procedure_stages.Collisions.{collision}
use Rattle.link_model.specs.procedure_stages.Exclusive.{peripheral_stage}
use Rattle.link_model.specs.procedure_stages.Foreign.{is_foreign}
use Rattle.link_model.specs.procedure_stages.Kinds.{kind_at_peripheral, own_exchange, role_of}
use Rattle.link_model.specs.procedure_stages.Opcodes.{first_opcode, is_opcode, later_opcode}
use Rattle.link_model.specs.procedure_stages.declared.stages.Ahead.{Ahead}
use Rattle.link_model.specs.procedure_stages.declared.stages.Ahead.TheVariants.{Nothing, Update as update_ahead, Map as map_ahead}
use Rattle.link_model.specs.procedure_stages.declared.stages.Peripheral.{Peripheral}
use Rattle.link_model.specs.procedure_stages.declared.stages.Progress.{Progress}
use Rattle.link_model.specs.procedure_stages.declared.stages.Progress.TheVariants.{Central as central, Peripheral as peripheral}
use Rattle.link_model.specs.procedure_stages.declared.steps.Step.{Step}
use Rattle.link_model.specs.procedures.Phy.{phy_ind_taken}
use Rattle.link_model.specs.procedures.Refusals.{refused_if}
use Rattle.link_model.specs.procedures.Request.{after_grant, outlived}
use Rattle.link_model.specs.procedures.Table.{TableFacts}
use Rattle.link_model.specs.procedures.Taking.{facts_with, lacks_room, outcome_of, taken_by, taken_by_either, taken_by_peripheral, taken_by_role, took_step}
use Rattle.link_model.specs.procedures.Update.{follow}
use Rattle.link_model.specs.procedures.declared.outcome.Outcome.{Outcome}
use Rattle.link_model.specs.control_model.Control.{indicated_by}
use Rattle.link_model.specs.Acknowledgement.{Pdu}
use Rattle.link_model.specs.Controls.{read_of}
use Rattle.link_model.proofs.control_model.Calls.{settled_as}
use Rattle.link_changes.specs.Noted.{indication_read}

-- where it does not end the link, it hands this indication on, or none
abbrev Says : Option Indication → Step → Type 0
Says some step = step.ends ≡ None → indicated_by step.effect ≡ some

choice : (some : Option Indication) (b : Bool) (x y : Outcome) → Says some x.step → Says some y.step → Says some (if b then x else y).step
choice some true x y one other = one
choice some false x y one other = other

not_foreign : (ctrl : Ctrl) → is_foreign peripheral_role ctrl ≡ true → indication_read (Known ctrl) ≡ None
not_foreign (ConnectionUpdateInd win_size win_offset interval latency timeout instant) is = absurd (cc)
not_foreign (ChannelMapInd map instant) is = absurd (cc)
not_foreign other is = refl

module _ (f : TableFacts) where
  refusal : (b : Bool) (code : ErrCode) → Says None (refused_if b f code).step
  refusal true code = λ goes. refl
  refusal false code = λ goes. refl

  either : (ctrl : Ctrl) → Says None (taken_by_either f ctrl).step
  either (TerminateInd code) = λ goes. refl
  either (UnknownRsp opcode) = refusal (is_opcode (first_opcode f.progress) opcode) _
  either (FeatureRsp value) = choice None (awaits_features (own_exchange f.progress)) _ _ (λ goes. refl) (λ goes. refl)
  either (VersionInd number company sub) = λ goes. refl
  either (RejectInd code) = refusal (is_some (first_opcode f.progress)) _
  either (RejectExtInd opcode code) = refusal (is_opcode (first_opcode f.progress) opcode || is_opcode (later_opcode f.progress) opcode) _
  either (LengthReq rx rx_time tx tx_time) = λ goes. refl
  either (LengthRsp rx rx_time tx tx_time) = choice None (awaits_lengths (own_exchange f.progress)) _ _ (λ goes. refl) (λ goes. refl)
  either other = λ goes. refl

  -- ---- at a peripheral

  follows : (new : Ahead) (some : Option Indication) (o : Outcome) → Says some o.step → (ahead : Ahead) → Says some (follow f ahead new o).step
  follows new some o h Nothing = h
  follows new some o h update_ahead = λ goes. absurd (cc)
  follows new some o h map_ahead = λ goes. absurd (cc)

  granting : (p : Peripheral) (kind : Kind) (some : Option Indication) (o : Outcome) → Says some o.step → Says some (after_grant f p kind o).step
  granting p kind some o h = choice some (central_answered (peripheral_stage p.own)) _ _ (by (collision (kind_at_peripheral p.own) kind)) h
    where
      by : (code : Option ErrCode) → Says some (outlived f code o).step
      by None = h
      by (Some code) = λ goes. absurd (cc)

  phy_ind : (p : Peripheral) → Says None (phy_ind_taken f p).step
  phy_ind p =
      choice None (has_phy_of_central p.peer) _ _ (λ goes. refl)
      (choice None (awaits_phy_ind (peripheral_stage p.own)) _ _ (λ goes. refl) (λ goes. refl))

  at_peripheral : (p : Peripheral) (quiet : Bool) (ctrl : Ctrl) → Says (indication_read (Known ctrl)) (taken_by_peripheral f p quiet ctrl).step
  at_peripheral p quiet (ConnectionUpdateInd win_size win_offset interval latency timeout instant) =
      follows update_ahead _ _ (choice _ (reads_as_answer (peripheral_stage p.own)) _ _ (λ goes. refl) (λ goes. refl)) p.ahead
  at_peripheral p quiet (ChannelMapInd map instant) = granting p _ _ _ (follows map_ahead _ _ (λ goes. refl) p.ahead)
  at_peripheral p quiet (EncReq rand ediv skd_m iv_m) = λ goes. refl
  at_peripheral p quiet PauseEncReq = λ goes. refl
  at_peripheral p quiet PauseEncRsp = choice None quiet _ _ (λ goes. refl) (λ goes. refl)
  at_peripheral p quiet StartEncRsp = choice None quiet _ _ (λ goes. refl) (λ goes. refl)
  at_peripheral p quiet (FeatureReq value) = λ goes. refl
  at_peripheral p quiet (PhyReq tx rx) = granting p _ None _ (λ goes. refl)
  at_peripheral p quiet (PhyUpdateInd to_peripheral to_central instant) = phy_ind p
  at_peripheral p quiet other = either other

  known : (p : Progress) (quiet : Bool) (ctrl : Ctrl) (b : Bool) → role_of p ≡ peripheral_role → is_foreign peripheral_role ctrl ≡ b
      → Says (indication_read (Known ctrl)) (if b then outcome_of f quiet (Unknown (opcode_of ctrl)) else taken_by_role p f quiet ctrl).step
  known (central c) quiet ctrl b role is = absurd (cc)
  known (peripheral p) quiet ctrl true role is = λ goes. sym (not_foreign ctrl is)
  known (peripheral p) quiet ctrl false role is = at_peripheral p quiet ctrl

  known_at : (p : Progress) (quiet : Bool) (ctrl : Ctrl) → role_of p ≡ peripheral_role → Says (indication_read (Known ctrl)) (taken_by p f quiet ctrl).step
  known_at p quiet ctrl role = known p quiet ctrl (is_foreign (role_of p) ctrl) role (ap (λ (r : Role). is_foreign r ctrl) (sym role))

  outcome_says : (read : CtrlRead) (quiet : Bool) → role_of f.progress ≡ peripheral_role → Says (indication_read read) (outcome_of f quiet read).step
  outcome_says (Known ctrl) quiet role = known_at f.progress quiet ctrl role
  outcome_says (Unknown opcode) quiet role = λ goes. refl
  outcome_says Bare quiet role = λ goes. refl

-- ---- what becomes of the table

settled_says : (some : Option Indication) (full : Bool) (code : Option ErrCode) (f g : TableFacts) (step : Step) → step.ends ≡ code → Says some step
    → Says some (settled_as full code f g step).1
settled_says some true code f g step is says = λ goes. absurd (cc)
settled_says some false (Some code) f g step is says = says
settled_says some false None f g step is says = says

pub handed : (f : TableFacts) (read : CtrlRead) (slot : ℕ) (quiet : Bool) → role_of f.progress ≡ peripheral_role
    → (took_step f read slot quiet).1.ends ≡ None → indicated_by (took_step f read slot quiet).1.effect ≡ indication_read read
handed f read slot quiet role =
    let o = outcome_of f quiet read in
    settled_says (indication_read read) (lacks_room f o) o.step.ends f (facts_with f slot o) o.step refl (outcome_says f read quiet role)

-- what an end reads of a PDU, and what is read of its octets, are the same indication, or none
pub read_says : (pdu : Pdu) → indication_read (read_of pdu) ≡ indication_read (ctrl_of pdu.body)
read_says pdu = by (ctrl_of pdu.body) refl
  where
    by : (read : CtrlRead) → ctrl_of pdu.body ≡ read → indication_read (read_of pdu) ≡ indication_read (ctrl_of pdu.body)
    by (Known (ConnectionUpdateInd win_size win_offset interval latency timeout instant)) is = rw is refl
    by (Known (ChannelMapInd map instant)) is = rw is refl
    by (Known other) is = rw is refl
    by (Unknown opcode) is = rw is refl
    by Bare is = rw is refl
