-- What each control PDU of the peer does at an end, by its role (Core 5.2, volume 6 part B, sections 2.4.2 and 5).
use Rattle.std.specs.Prelude.{Bool, nat_le, ◌||◌, ◌&&◌, List, if◌then◌else◌, ℕ, Option, Some, is_some}
use Rattle.ble_base.specs.declared.procedure_kinds.Kind.TheVariants.{Version}
use Rattle.ble_base.specs.declared.counters.SlotNo.{SlotNo}
use Rattle.ble_base.specs.ErrorCodes.{memory_capacity_exceeded}
use Rattle.data_pdu.specs.declared.ctrl.Ctrl.{Ctrl}
use Rattle.data_pdu.specs.declared.ctrl.Ctrl.TheVariants.{TerminateInd, UnknownRsp, FeatureRsp, VersionInd, RejectInd, RejectExtInd, LengthReq, LengthRsp, ConnectionUpdateInd, ChannelMapInd, EncReq, EncRsp, StartEncReq, StartEncRsp, FeatureReq, PauseEncReq, PauseEncRsp, PeripheralFeatureReq, ConnectionParamReq, PhyReq, PhyRsp, PhyUpdateInd}
use Rattle.data_pdu.specs.declared.ctrl.CtrlRead.{CtrlRead}
use Rattle.data_pdu.specs.declared.ctrl.CtrlRead.TheVariants.{Known, Unknown, Bare}
use Rattle.data_pdu.specs.Reading.{opcode_of}
use Rattle.instants.specs.declared.indications.Indication.TheVariants.{Update as update_indication, Map as map_indication}
use Rattle.procedure_stages.specs.declared.stages.Central.{Central}
use Rattle.procedure_stages.specs.declared.stages.Peripheral.{Peripheral}
use Rattle.procedure_stages.specs.declared.stages.Progress.{Progress}
use Rattle.procedure_stages.specs.declared.stages.Progress.TheVariants.{Central as central, Peripheral as peripheral}
use Rattle.procedure_stages.specs.procedure_values.declared.asks.Ask.{Ask}
use Rattle.procedure_stages.specs.procedure_values.Wants.{place_of, without_place}
use Rattle.procedures.specs.declared.outcome.Outcome.{Outcome}
use Rattle.procedure_stages.specs.declared.steps.Effect.{Effect}
use Rattle.procedure_stages.specs.declared.steps.Step.{Step}
use Rattle.procedures.specs.Table.{TableFacts}
use Rattle.procedure_stages.specs.Closing.{is_open}
use Rattle.procedure_stages.specs.Foreign.{is_foreign}
use Rattle.procedure_stages.specs.Kinds.{role_of}
use Rattle.procedure_stages.specs.Steps.{asks_host, closing_after, is_version_effect}
use Rattle.procedures.specs.Outcomes.{unchanged, unknown, empty_step}
use Rattle.procedures.specs.Termination.{terminate_taken}
use Rattle.procedures.specs.Features.{features_taken, features_asked}
use Rattle.procedures.specs.Version.{version_taken}
use Rattle.procedures.specs.Length.{length_asked, length_taken}
use Rattle.procedures.specs.Refusals.{unknown_rsp_taken, reject_taken, reject_ext_taken}
use Rattle.procedures.specs.Request.{request_taken}
use Rattle.procedures.specs.Phy.{phy_req_at_central, phy_rsp_taken, phy_req_at_peripheral, phy_ind_taken}
use Rattle.procedures.specs.Encryption.{cipher_at_central, start_rsp_at_central, encryption_begun, pause_rsp_at_peripheral, start_rsp_at_peripheral}
use Rattle.procedures.specs.Update.{update_taken}
use Rattle.procedures.specs.Map.{map_taken}
use Rattle.procedure_stages.specs.Queue.{waiting_in, with_reply, has_reply, is_version_reply}

-- ---- by PDU

-- the PDUs that mean the same at either end; any other changes nothing
abbrev pub taken_by_either : TableFacts → Ctrl → Outcome
taken_by_either f (TerminateInd code) = terminate_taken f code
taken_by_either f (UnknownRsp opcode) = unknown_rsp_taken f opcode
taken_by_either f (FeatureRsp features) = features_taken f features
taken_by_either f (VersionInd version company sub) = version_taken f version company sub
taken_by_either f (RejectInd code) = reject_taken f code
taken_by_either f (RejectExtInd opcode code) = reject_ext_taken f opcode code
taken_by_either f (LengthReq rx rx_time tx tx_time) = length_asked f rx tx
taken_by_either f (LengthRsp rx rx_time tx tx_time) = length_taken f rx tx
taken_by_either f other = unchanged f

-- at a central
abbrev pub taken_by_central : TableFacts → Central → Bool → Ctrl → Outcome
taken_by_central f c quiet (EncRsp skd_s iv_s) = cipher_at_central f c quiet (EncRsp skd_s iv_s)
taken_by_central f c quiet StartEncReq = cipher_at_central f c quiet StartEncReq
taken_by_central f c quiet PauseEncRsp = cipher_at_central f c quiet PauseEncRsp
taken_by_central f c quiet StartEncRsp = start_rsp_at_central f c quiet StartEncRsp
taken_by_central f c quiet (PeripheralFeatureReq features) = features_asked f features
taken_by_central f c quiet (ConnectionParamReq min max latency timeout periodicity reference offsets) =
    request_taken f c min max latency timeout
taken_by_central f c quiet (PhyReq tx rx) = phy_req_at_central f c
taken_by_central f c quiet (PhyRsp tx rx) = phy_rsp_taken f c
taken_by_central f c quiet other = taken_by_either f other

-- at a peripheral
abbrev pub taken_by_peripheral : TableFacts → Peripheral → Bool → Ctrl → Outcome
taken_by_peripheral f p quiet (ConnectionUpdateInd win_size win_offset interval latency timeout instant) =
    update_taken f p (update_indication win_offset interval latency timeout instant)
taken_by_peripheral f p quiet (ChannelMapInd map instant) = map_taken f p (map_indication map instant)
taken_by_peripheral f p quiet (EncReq rand ediv skd_m iv_m) = encryption_begun f p (EncReq rand ediv skd_m iv_m)
taken_by_peripheral f p quiet PauseEncReq = encryption_begun f p PauseEncReq
taken_by_peripheral f p quiet PauseEncRsp = pause_rsp_at_peripheral f quiet PauseEncRsp
taken_by_peripheral f p quiet StartEncRsp = start_rsp_at_peripheral f p quiet StartEncRsp
taken_by_peripheral f p quiet (FeatureReq features) = features_asked f features
taken_by_peripheral f p quiet (PhyReq tx rx) = phy_req_at_peripheral f p
taken_by_peripheral f p quiet (PhyUpdateInd to_peripheral to_central instant) = phy_ind_taken f p
taken_by_peripheral f p quiet other = taken_by_either f other

-- a PDU that has a meaning at the end, by the role of the end
abbrev pub taken_by_role : Progress → TableFacts → Bool → Ctrl → Outcome
taken_by_role (central c) f quiet ctrl = taken_by_central f c quiet ctrl
taken_by_role (peripheral p) f quiet ctrl = taken_by_peripheral f p quiet ctrl

-- one that has none is answered as an unknown one
abbrev pub taken_by : Progress → TableFacts → Bool → Ctrl → Outcome
taken_by progress f quiet ctrl =
    (if is_foreign (role_of progress) ctrl then unknown f (opcode_of ctrl) else taken_by_role progress f quiet ctrl)

-- what was read of the octets: an unknown PDU is answered by LL_UNKNOWN_RSP, one without an octet is ignored (section
-- 2.4.2.8; the latter is our choice)
abbrev pub outcome_of : TableFacts → Bool → CtrlRead → Outcome
outcome_of f quiet (Known ctrl) = taken_by f.progress f quiet ctrl
outcome_of f quiet (Unknown opcode) = unknown f opcode
outcome_of f quiet Bare = unchanged f

-- ---- what becomes of the table

-- there is no room for an answer where sixteen or more control PDUs wait (our choice); once the link is to end nothing
-- is answered
abbrev pub lacks_room : TableFacts → Outcome → Bool
lacks_room f outcome =
    is_open f.closing && nat_le 16 (waiting_in f.queue) && (has_reply outcome.reply || asks_host outcome.step.effect)

-- an exchange of versions that is only wanted does not begin once the peer's LL_VERSION_IND was taken
abbrev pub wanted_after : Effect → List Ask → List Ask
wanted_after effect wanted =
    (if is_version_effect effect then without_place (place_of Version wanted) wanted else wanted)

abbrev pub since_after : Bool → ℕ → Option SlotNo → Option SlotNo
since_after restarts slot since = (if restarts then Some (record { 0 = slot }) else since)

abbrev pub facts_with : TableFacts → ℕ → Outcome → TableFacts
facts_with f slot outcome =
    record f {
      progress = outcome.progress;
      wanted = wanted_after outcome.step.effect f.wanted;
      queue = with_reply f.closing outcome.reply f.queue;
      closing = closing_after outcome.step.effect f.closing;
      lengths = outcome.lengths;
      version_used = f.version_used || (is_version_reply outcome.reply && is_open f.closing);
      since = since_after outcome.restarts slot f.since;
    }

-- a step that ends the link at once, and does nothing else
abbrev pub no_room : Step
no_room = record empty_step { ends = Some (record { 0 = memory_capacity_exceeded }) }

abbrev pub settled : TableFacts → ℕ → Outcome → TableFacts × Step
settled f slot outcome =
    (if lacks_room f outcome then (f, no_room)
    else (if is_some outcome.step.ends then (f, outcome.step) else (facts_with f slot outcome, outcome.step)))

-- a control PDU of the peer is taken in a slot, `quiet` being phase Clear or Secure
abbrev pub took_step : TableFacts → CtrlRead → ℕ → Bool → TableFacts × Step
took_step f read slot quiet = settled f slot (outcome_of f quiet read)
