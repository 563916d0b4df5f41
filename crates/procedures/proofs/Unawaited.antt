-- A PDU that answers what no procedure awaits changes nothing.
use Rattle.std.proofs.Common.{◌≡◌, ℕ, Bool, true, false, not, ◌&&◌, ◌||◌, if◌then◌else◌, Option, Some, None, refl, ap, ◌∙◌, nat_le}
use Rattle.std.specs.Option.{is_some, is_none}
use Rattle.ble_base.specs.ErrorCodes.{unsupported_remote_feature}
use Rattle.ble_base.specs.declared.procedure_kinds.Kind.TheVariants.{Phy, Features, Length}
use Rattle.data_pdu.specs.declared.ctrl.Ctrl.{Ctrl}
use Rattle.data_pdu.specs.declared.ctrl.Ctrl.TheVariants.{UnknownRsp, FeatureRsp, RejectInd, RejectExtInd, LengthRsp, PhyRsp, PhyUpdateInd, EncRsp, StartEncReq, StartEncRsp, PauseEncRsp}
use Rattle.data_pdu.specs.declared.ctrl.CtrlRead.TheVariants.{Known}
use Rattle.procedures.specs.declared.outcome.Outcome.{Outcome}
use Rattle.procedure_stages.specs.declared.stages.OwnPeripheral.TheVariants.{Exclusive as exclusive}
use Rattle.exclusive_stages.specs.declared.stages.PeripheralStage.TheVariants.{Idle as idle}
use Rattle.exclusive_stages.specs.declared.stages.PeerAtPeripheral.TheVariants.{Absent as absent}
use Rattle.procedure_stages.specs.declared.stages.Progress.{Progress}
use Rattle.procedure_stages.specs.declared.stages.Progress.TheVariants.{Central as central, Peripheral as peripheral}
use Rattle.procedure_stages.specs.declared.steps.Effect.TheVariants.{PeerFeatures}
use Rattle.procedure_stages.specs.declared.steps.Step.{Step}
use Rattle.procedure_stages.specs.Kinds.{own_exchange, without_own}
use Rattle.procedure_stages.specs.procedure_values.Limits.{with_peer}
use Rattle.procedures.specs.Table.{TableFacts}
use Rattle.procedure_stages.specs.Closing.{is_open}
use Rattle.procedure_stages.specs.Queue.{waiting_in}
use Rattle.procedures.specs.Outcomes.{unchanged, moved, with_effect, with_done, empty_step}
use Rattle.procedure_stages.specs.Awaited.{awaits_features, awaits_lengths}
use Rattle.exclusive_stages.specs.Awaited.{awaits_phy_rsp, has_phy_of_central, awaits_phy_ind}
use Rattle.procedures.specs.Phy.{phy_answered}
use Rattle.procedures.specs.Length.{with_lengths}
use Rattle.procedure_stages.specs.Opcodes.{is_opcode, first_opcode, later_opcode}
use Rattle.procedures.specs.Refusals.{refused}
use Rattle.procedures.specs.Taking.{taken_by, lacks_room, facts_with, settled, took_step}
use Rattle.procedures.specs.Laws.{is_unawaited}
use Rattle.procedure_stages.specs.Exclusive.{central_stage, peripheral_stage}

and_false : (a : Bool) → (a && false) ≡ false
and_false true = refl
and_false false = refl

or_false : (a : Bool) → (a || false) ≡ a
or_false true = refl
or_false false = refl

same_facts : (f : TableFacts) (slot : ℕ) → facts_with f slot (unchanged f) ≡ f
same_facts f slot = ap (λ (used : Bool). record f { version_used = used }) (or_false f.version_used)

settled_by : (f : TableFacts) (slot : ℕ) (b : Bool) (step : Step) → b ≡ false
    → ◌≡◌ {A = TableFacts × Step} (if b then (f, step) else (facts_with f slot (unchanged f), empty_step)) (f, empty_step)
settled_by f slot b step is = rw is (ap (λ (g : TableFacts). (g, empty_step)) (same_facts f slot))

settled_unchanged : (f : TableFacts) (slot : ℕ) → settled f slot (unchanged f) ≡ (f, empty_step)
settled_unchanged f slot = settled_by f slot (lacks_room f (unchanged f)) _ (and_false (is_open f.closing && nat_le 16 (waiting_in f.queue)))

if_not : (b : Bool) (x y : Outcome) → not b ≡ true → (if b then x else y) ≡ y
if_not true x y h = absurd (cc)
if_not false x y h = refl

if_none : (o : Option ℕ) (x y : Outcome) → is_none o ≡ true → (if is_some o then x else y) ≡ y
if_none None x y h = refl
if_none (Some opcode) x y h = absurd (cc)

if_neither : (a b : Bool) (x y z : Outcome) → not (a || b) ≡ true → (if a then x else (if b then y else z)) ≡ z
if_neither true b x y z h = absurd (cc)
if_neither false true x y z h = absurd (cc)
if_neither false false x y z h = refl

abbrev at : TableFacts → Progress → TableFacts
at f progress = record f { progress = progress }

ignored : (f : TableFacts) (p : Progress) (ctrl : Ctrl) → is_unawaited p ctrl ≡ true → taken_by p (at f p) true ctrl ≡ unchanged (at f p)
ignored f (central c) (UnknownRsp opcode) h = if_not (is_opcode (first_opcode (central c)) opcode) (refused (at f (central c)) (record { 0 = unsupported_remote_feature })) (unchanged (at f (central c))) h
ignored f (peripheral p) (UnknownRsp opcode) h = if_not (is_opcode (first_opcode (peripheral p)) opcode) (refused (at f (peripheral p)) (record { 0 = unsupported_remote_feature })) (unchanged (at f (peripheral p))) h
ignored f (central c) (FeatureRsp features) h = if_not (awaits_features (own_exchange (central c))) (with_done Features (with_effect (PeerFeatures features) (moved (at f (central c)) (without_own (central c))))) (unchanged (at f (central c))) h
ignored f (peripheral p) (FeatureRsp features) h = if_not (awaits_features (own_exchange (peripheral p))) (with_done Features (with_effect (PeerFeatures features) (moved (at f (peripheral p)) (without_own (peripheral p))))) (unchanged (at f (peripheral p))) h
ignored f (central c) (RejectInd code) h = if_none (first_opcode (central c)) (refused (at f (central c)) (record { 0 = code })) (unchanged (at f (central c))) h
ignored f (peripheral p) (RejectInd code) h = if_none (first_opcode (peripheral p)) (refused (at f (peripheral p)) (record { 0 = code })) (unchanged (at f (peripheral p))) h
ignored f (central c) (RejectExtInd opcode code) h = if_not (is_opcode (first_opcode (central c)) opcode || is_opcode (later_opcode (central c)) opcode) (refused (at f (central c)) (record { 0 = code })) (unchanged (at f (central c))) h
ignored f (peripheral p) (RejectExtInd opcode code) h = if_not (is_opcode (first_opcode (peripheral p)) opcode || is_opcode (later_opcode (peripheral p)) opcode) (refused (at f (peripheral p)) (record { 0 = code })) (unchanged (at f (peripheral p))) h
ignored f (central c) (LengthRsp rx rx_time tx tx_time) h = if_not (awaits_lengths (own_exchange (central c))) (with_done Length (with_lengths (with_peer f.lengths rx tx) (moved (at f (central c)) (without_own (central c))))) (unchanged (at f (central c))) h
ignored f (peripheral p) (LengthRsp rx rx_time tx tx_time) h = if_not (awaits_lengths (own_exchange (peripheral p))) (with_done Length (with_lengths (with_peer f.lengths rx tx) (moved (at f (peripheral p)) (without_own (peripheral p))))) (unchanged (at f (peripheral p))) h
ignored f (central c) (PhyRsp tx rx) h = if_not (awaits_phy_rsp (central_stage c.own)) (phy_answered (at f (central c)) c) (unchanged (at f (central c))) h
ignored f (peripheral p) (PhyRsp tx rx) h = refl
ignored f (central c) (EncRsp skd_s iv_s) h = refl
ignored f (central c) StartEncReq h = refl
ignored f (central c) StartEncRsp h = refl
ignored f (central c) PauseEncRsp h = refl
ignored f (peripheral p) StartEncRsp h = refl
ignored f (peripheral p) PauseEncRsp h = refl
ignored f (peripheral p) (PhyUpdateInd to_peripheral to_central instant) h =
    if_neither (has_phy_of_central p.peer) (awaits_phy_ind (peripheral_stage p.own)) (moved (at f (peripheral p)) (peripheral (record p { peer = absent })))
    (with_done Phy (moved (at f (peripheral p)) (peripheral (record p { own = exclusive idle })))) (unchanged (at f (peripheral p))) h
ignored f (central c) other h = absurd (cc)
ignored f (peripheral p) other h = absurd (cc)

pub unawaited : (f : TableFacts) (ctrl : Ctrl) (slot : ℕ) → is_unawaited f.progress ctrl ≡ true → took_step f (Known ctrl) slot true ≡ (f, empty_step)
unawaited f ctrl slot h = ap (settled f slot) (ignored f f.progress ctrl h) ∙ settled_unchanged f slot
