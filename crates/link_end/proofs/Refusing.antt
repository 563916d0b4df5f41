-- A PDU of the peer refuses a procedure of this end or completes one, and never both.
use Rattle.std.proofs.Common.{ℕ, Bool, true, false, ◌||◌, if◌then◌else◌, Option, Some, None, is_some, refl, subst, sym, ◌≡◌}
use Rattle.ble_base.specs.declared.error_codes.ErrCode.{ErrCode}
use Rattle.ble_base.specs.declared.procedure_kinds.Kind.{Kind}
use Rattle.data_pdu.specs.declared.ctrl.Ctrl.{Ctrl}
use Rattle.data_pdu.specs.declared.ctrl.Ctrl.TheVariants.{TerminateInd, UnknownRsp, FeatureRsp, VersionInd, RejectInd, RejectExtInd, LengthReq, LengthRsp, ConnectionUpdateInd, ChannelMapInd, EncReq, EncRsp, StartEncReq, StartEncRsp, FeatureReq, PauseEncReq, PauseEncRsp, PeripheralFeatureReq, ConnectionParamReq, PhyReq, PhyRsp, PhyUpdateInd}
use Rattle.data_pdu.specs.declared.ctrl.CtrlRead.{CtrlRead}
use Rattle.data_pdu.specs.declared.ctrl.CtrlRead.TheVariants.{Known, Unknown, Bare}
use Rattle.exclusive_stages.specs.Awaited.{awaits_phy_ind, awaits_phy_rsp, central_answered, has_phy_of_central, peer_answered, reads_as_answer}
use Rattle.procedures.specs.procedure_values.Values.{are_valid}
use Rattle.procedures.specs.procedure_stages.declared.stages.Ahead.{Ahead}
use Rattle.procedures.specs.procedure_stages.declared.stages.Ahead.TheVariants.{Nothing, Update as update_ahead, Map as map_ahead}
use Rattle.procedures.specs.procedure_stages.declared.stages.Central.{Central}
use Rattle.procedures.specs.procedure_stages.declared.stages.Peripheral.{Peripheral}
use Rattle.procedures.specs.procedure_stages.declared.stages.Progress.{Progress}
use Rattle.procedures.specs.procedure_stages.declared.stages.Progress.TheVariants.{Central as central, Peripheral as peripheral}
use Rattle.procedures.specs.procedure_stages.declared.steps.Step.{Step as TableStep}
use Rattle.procedures.specs.procedure_stages.Awaited.{awaits_features, awaits_lengths, is_own_encryption}
use Rattle.procedures.specs.procedure_stages.Collisions.{collision}
use Rattle.procedures.specs.procedure_stages.Exclusive.{central_stage, peripheral_stage}
use Rattle.procedures.specs.procedure_stages.Foreign.{is_foreign}
use Rattle.procedures.specs.procedure_stages.Kinds.{kind_at_central, kind_at_peripheral, own_exchange, role_of}
use Rattle.procedures.specs.procedure_stages.Opcodes.{first_opcode, is_opcode, later_opcode}
use Rattle.procedures.specs.declared.outcome.Outcome.{Outcome}
use Rattle.procedures.specs.Request.{after_grant, against_central, collided, outlived}
use Rattle.procedures.specs.Table.{TableFacts}
use Rattle.procedures.specs.Taking.{facts_with, lacks_room, no_room, outcome_of, taken_by_central, taken_by_either, taken_by_peripheral, taken_by_role, took_step}
use Rattle.procedures.specs.Update.{follow}
use Rattle.control_end.specs.declared.answers.Taken.{Taken}
use Rattle.control_end.specs.control_model.Control.{Takes}
use Rattle.control_end.specs.Answers.{goes_on, nothing_taken, step_shown, taken_of}
use Rattle.control_end.specs.Held.{Held, held_after}
use Rattle.keyed_control.specs.declared.material.Response.{Response}
use Rattle.link_model.specs.phased_end.Answers.{quiet_now}
use Rattle.link_model.specs.phased_end.Held.{HeldKeyed}
use Rattle.link_model.specs.phased_end.Taking.{handed_keyed, is_handed, nothing_keyed, seen_as, taken_keyed}
use Rattle.link_model.specs.phased_end.declared.taking.TakenKeyed.{TakenKeyed}
use Rattle.link_end.specs.Receiving.{IsSingle}

abbrev Single : TableStep → Type 0
Single step = is_some step.refused ≡ true → step.done ≡ None

abbrev Gives : Outcome → Type 0
Gives o = Single o.step

choice : (b : Bool) (x y : Outcome) → Gives x → Gives y → Gives (if b then x else y)
choice true x y hx hy = hx
choice false x y hx hy = hy

-- a PDU that refuses nothing, and one that completes nothing
free : {done : Option Kind} → ◌≡◌ {A = Bool} false true → done ≡ None
free is = absurd cc

undone : {refuses : Bool} → refuses ≡ true → ◌≡◌ {A = Option Kind} None None
undone is = refl

module _ (f : TableFacts) where
  either : (ctrl : Ctrl) → Gives (taken_by_either f ctrl)
  either (TerminateInd code) = free
  either (UnknownRsp opcode) = choice (is_opcode (first_opcode f.progress) opcode) _ _ undone free
  either (FeatureRsp features) = choice (awaits_features (own_exchange f.progress)) _ _ free free
  either (VersionInd version company sub) = free
  either (RejectInd code) = choice (is_some (first_opcode f.progress)) _ _ undone free
  either (RejectExtInd opcode code) =
      choice (is_opcode (first_opcode f.progress) opcode || is_opcode (later_opcode f.progress) opcode) _ _ undone free
  either (LengthReq rx rx_time tx tx_time) = free
  either (LengthRsp rx rx_time tx tx_time) =
      choice (awaits_lengths (own_exchange f.progress)) _ _ free free
  either other = free

  against : (c : Central) (kind : Kind) (opcode : ℕ) (other : Outcome) → Gives other → Gives (against_central f c kind opcode other)
  against c kind opcode other gives = by (collision (kind_at_central c.own) kind)
    where
      by : (code : Option ErrCode) → Gives (collided f (peer_answered (central_stage c.own)) opcode code other)
      by None = gives
      by (Some code) = choice (peer_answered (central_stage c.own)) _ _ free free

  at_central : (c : Central) (quiet : Bool) (ctrl : Ctrl) → Gives (taken_by_central f c quiet ctrl)
  at_central c quiet (EncRsp skd_s iv_s) = choice quiet _ _ free free
  at_central c quiet StartEncReq = choice quiet _ _ free free
  at_central c quiet PauseEncRsp = choice quiet _ _ free free
  at_central c true StartEncRsp = free
  at_central c false StartEncRsp = choice (is_own_encryption c.own) _ _ free free
  at_central c quiet (PeripheralFeatureReq features) = free
  at_central c quiet (ConnectionParamReq min max latency timeout periodicity reference offsets) =
      against c _ _ _ (choice (are_valid min max latency timeout) _ _ free free)
  at_central c quiet (PhyReq tx rx) = against c _ _ _ free
  at_central c quiet (PhyRsp tx rx) = choice (awaits_phy_rsp (central_stage c.own)) _ _ free free
  at_central c quiet other = either other

  follows : (ahead new : Ahead) (o : Outcome) → Gives o → Gives (follow f ahead new o)
  follows Nothing new o gives = gives
  follows update_ahead new o gives = free
  follows map_ahead new o gives = free

  granting : (p : Peripheral) (kind : Kind) (o : Outcome) → Gives o → Gives (after_grant f p kind o)
  granting p kind o gives =
      choice (central_answered (peripheral_stage p.own)) _ _ (by (collision (kind_at_peripheral p.own) kind)) gives
    where
      by : (code : Option ErrCode) → Gives (outlived f code o)
      by None = gives
      by (Some code) = free

  at_peripheral : (p : Peripheral) (quiet : Bool) (ctrl : Ctrl) → Gives (taken_by_peripheral f p quiet ctrl)
  at_peripheral p quiet (ConnectionUpdateInd win_size win_offset interval latency timeout instant) =
      follows p.ahead update_ahead _ (choice (reads_as_answer (peripheral_stage p.own)) _ _ free free)
  at_peripheral p quiet (ChannelMapInd map instant) = granting p _ _ (follows p.ahead map_ahead _ free)
  at_peripheral p quiet (EncReq rand ediv skd_m iv_m) = free
  at_peripheral p quiet PauseEncReq = free
  at_peripheral p quiet PauseEncRsp = choice quiet _ _ free free
  at_peripheral p quiet StartEncRsp = choice quiet _ _ free free
  at_peripheral p quiet (FeatureReq features) = free
  at_peripheral p quiet (PhyReq tx rx) = granting p _ _ free
  at_peripheral p quiet (PhyUpdateInd to_peripheral to_central instant) =
      choice (has_phy_of_central p.peer) _ _ free (choice (awaits_phy_ind (peripheral_stage p.own)) _ _ free free)
  at_peripheral p quiet other = either other

  by_role : (p : Progress) (quiet : Bool) (ctrl : Ctrl) → Gives (taken_by_role p f quiet ctrl)
  by_role (central c) quiet ctrl = at_central c quiet ctrl
  by_role (peripheral p) quiet ctrl = at_peripheral p quiet ctrl

  by_read : (quiet : Bool) (read : CtrlRead) → Gives (outcome_of f quiet read)
  by_read quiet (Known ctrl) = choice (is_foreign (role_of f.progress) ctrl) _ _ free (by_role f.progress quiet ctrl)
  by_read quiet (Unknown opcode) = free
  by_read quiet Bare = free

  abbrev settled_as : Bool → Bool → TableFacts → TableStep → TableStep → TableFacts × TableStep
  settled_as full ends g x y = (if full then (f, x) else (if ends then (f, y) else (g, y)))

  settles : (full ends : Bool) (g : TableFacts) (x y : TableStep) → Single x → Single y → Single (settled_as full ends g x y).1
  settles true ends g x y one other = one
  settles false true g x y one other = other
  settles false false g x y one other = other

  gives : (read : CtrlRead) (slot : ℕ) (quiet : Bool) → Single (took_step f read slot quiet).1
  gives read slot quiet =
      let o = outcome_of f quiet read in
      settles (lacks_room f o) (is_some o.step.ends) (facts_with f slot o) no_room o.step free (by_read quiet read)

either_taken : (b : Bool) (x y : Taken) → IsSingle x → IsSingle y → IsSingle (if b then x else y)
either_taken true x y one other = one
either_taken false x y one other = other

taken_single : (read : CtrlRead) (slot : ℕ) (quiet : Bool) (h : Held) → IsSingle (taken_of read slot quiet h)
taken_single read slot quiet h =
    either_taken (goes_on (held_after (Takes read slot quiet) h)) (step_shown (took_step h.table read slot quiet).1) nothing_taken
    (gives h.table read slot quiet) free

pub given_single : (slot : ℕ) (response : Response) (read : CtrlRead) (h : HeldKeyed) (given : TakenKeyed)
    → given ≡ taken_keyed slot response read h → IsSingle given.taken
given_single slot response read h given is = subst (λ (t : TakenKeyed). IsSingle t.taken) (sym is) (by (is_handed read h))
  where
    by : (b : Bool) → IsSingle (if b then handed_keyed slot response read h else nothing_keyed).taken
    by true = taken_single (seen_as read h) slot (quiet_now h) h.control
    by false = free
