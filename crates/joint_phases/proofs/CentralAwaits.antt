-- What a central awaits after a first PDU of the peripheral, in phase Clear or Secure.
use Rattle.std.proofs.Common.{◌≡◌, ◌==◌, ℕ, Bool, true, false, Option, Some, None, refl, if◌then◌else◌}
use Rattle.ble_base.specs.declared.error_codes.ErrCode.{ErrCode}
use Rattle.ble_base.specs.declared.procedure_kinds.Kind.TheVariants.{Phy as phy_kind, Request as request_kind}
use Rattle.ble_base.specs.declared.roles.Role.TheVariants.{Central as central_role}
use Rattle.data_pdu.specs.declared.ctrl.Ctrl.{Ctrl}
use Rattle.data_pdu.specs.declared.ctrl.Ctrl.TheVariants.{ConnectionParamReq, LengthReq, PeripheralFeatureReq, PhyReq, RejectExtInd, VersionInd}
use Rattle.phase_pairs.specs.enc_phase.declared.classes.PduClass.{PduClass}
use Rattle.phase_pairs.specs.enc_phase.declared.classes.PduClass.TheVariants.{Other, Refusal, Request}
use Rattle.phase_pairs.specs.enc_phase.Taking.{ctrl_class}
use Rattle.exclusive_stages.specs.Awaited.{peer_answered}
use Rattle.joint_controls.specs.procedure_values.Values.{are_valid}
use Rattle.joint_controls.specs.procedure_stages.declared.stages.Central.{Central}
use Rattle.joint_controls.specs.procedure_stages.declared.stages.Exchange.TheVariants.{FeaturesSent, FeaturesUnsent, LengthSent, LengthUnsent, VersionSent, VersionUnsent}
use Rattle.joint_controls.specs.procedure_stages.declared.stages.OwnCentral.{OwnCentral}
use Rattle.joint_controls.specs.procedure_stages.declared.stages.OwnCentral.TheVariants.{Exchange as exchange}
use Rattle.joint_controls.specs.procedure_stages.declared.stages.Progress.{Progress}
use Rattle.joint_controls.specs.procedure_stages.declared.stages.Progress.TheVariants.{Central as central, Peripheral as peripheral}
use Rattle.joint_controls.specs.procedure_stages.Collisions.{collision}
use Rattle.joint_controls.specs.procedure_stages.Exclusive.{central_stage}
use Rattle.joint_controls.specs.procedure_stages.Kinds.{exchange_at_central, kind_at_central, own_exchange, role_of}
use Rattle.joint_controls.specs.procedure_stages.Opcodes.{connection_param_req_opcode, phy_req_opcode}
use Rattle.joint_controls.specs.procedures.declared.outcome.Outcome.{Outcome}
use Rattle.joint_controls.specs.procedures.Request.{collided, request_judged}
use Rattle.joint_controls.specs.procedures.Table.{TableFacts}
use Rattle.joint_controls.specs.procedures.Taking.{taken_by}
use Rattle.joint_controls.specs.procedures.Version.{progress_with_version}
use Rattle.joint_phases.specs.Classes.{is_version_ctrl}
use Rattle.joint_phases.specs.Facts.{is_version_sent}
use Rattle.joint_phases.specs.Parts.{is_awaiting, is_awaiting_at}

reject_apart : (b : Bool) → ◌≡◌ {A = PduClass} (if b then Refusal else Other) Request → ⊥
reject_apart true h = absurd (cc)
reject_apart false h = absurd (cc)

module _ (f : TableFacts) (x : Central) where
  abbrev here : TableFacts
  here = record f { progress = central x }

  abbrev Keeps : Outcome → Type 0
  Keeps o = is_awaiting o.progress ≡ is_awaiting_at x.own

  keeps_if : (b : Bool) (y z : Outcome) → Keeps y → Keeps z → Keeps (if b then y else z)
  keeps_if true y z hy hz = hy
  keeps_if false y z hy hz = hz

  collided_keeps : (answered : Bool) (opcode : ℕ) (code : Option ErrCode) (other : Outcome) → Keeps other → Keeps (collided here answered opcode code other)
  collided_keeps answered opcode None other h = h
  collided_keeps true opcode (Some code) other h = refl
  collided_keeps false opcode (Some code) other h = refl

  request_keeps : (ctrl : Ctrl) → ctrl_class ctrl ≡ Request → is_version_ctrl ctrl ≡ false → Keeps (taken_by (central x) here true ctrl)
  request_keeps (PeripheralFeatureReq features) class plain = refl
  request_keeps (LengthReq rx rx_time tx tx_time) class plain = refl
  request_keeps (ConnectionParamReq min max latency timeout periodicity reference offsets) class plain =
      collided_keeps (peer_answered (central_stage x.own)) connection_param_req_opcode (collision (kind_at_central x.own) request_kind)
      (request_judged here x min max latency timeout) (keeps_if (are_valid min max latency timeout) _ _ refl refl)
  request_keeps (PhyReq tx rx) class plain =
      collided_keeps (peer_answered (central_stage x.own)) phy_req_opcode (collision (kind_at_central x.own) phy_kind) _ refl
  request_keeps (VersionInd version company sub) class plain = absurd (cc)
  request_keeps (RejectExtInd opcode code) class plain = absurd (reject_apart (opcode == 3) class)
  request_keeps ctrl class plain = absurd (cc)

pub request_awaits : (f : TableFacts) (p : Progress) (ctrl : Ctrl) → role_of p ≡ central_role → ctrl_class ctrl ≡ Request → is_version_ctrl ctrl ≡ false
    → is_awaiting (taken_by p (record f { progress = p }) true ctrl).progress ≡ is_awaiting p
request_awaits f (central x) ctrl role class plain = request_keeps f x ctrl class plain
request_awaits f (peripheral x) ctrl role class plain = absurd (cc)

-- an exchange of versions of its own that awaits an answer is one that was sent
version_keeps : (own : OwnCentral) (x : Central) → is_awaiting_at own ≡ true → (is_version_sent (exchange_at_central own) ≡ true → ⊥)
    → is_awaiting (progress_with_version (central (record x { own = own }))) ≡ true
version_keeps (exchange FeaturesSent) x awaits apart = refl
version_keeps (exchange FeaturesUnsent) x awaits apart = absurd (cc)
version_keeps (exchange VersionSent) x awaits apart = absurd (apart refl)
version_keeps (exchange VersionUnsent) x awaits apart = absurd (cc)
version_keeps (exchange LengthSent) x awaits apart = refl
version_keeps (exchange LengthUnsent) x awaits apart = absurd (cc)
version_keeps own x awaits apart = awaits

pub version_awaits : (f : TableFacts) (p : Progress) (version company sub : ℕ) → role_of p ≡ central_role → is_awaiting p ≡ true
    → (is_version_sent (own_exchange p) ≡ true → ⊥)
    → is_awaiting (taken_by p (record f { progress = p }) true (VersionInd version company sub)).progress ≡ true
version_awaits f (central x) version company sub role awaits apart = version_keeps x.own x awaits apart
version_awaits f (peripheral x) version company sub role awaits apart = absurd (cc)
