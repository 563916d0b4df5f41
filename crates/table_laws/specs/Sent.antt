-- Which control PDUs an end sends, by its role (Core 5.2, volume 6 part B, section 2.4.2; what this product never sends
-- is our choice).
use Rattle.std.specs.Prelude.{◌==◌, ◌&&◌, ◌||◌, Bool, true, false}
use Rattle.ble_base.specs.ErrorCodes.{pin_or_key_missing}
use Rattle.ble_base.specs.declared.roles.Role.{Role}
use Rattle.ble_base.specs.declared.roles.Role.TheVariants.{Central, Peripheral}
use Rattle.data_pdu.specs.declared.ctrl.Ctrl.{Ctrl}
use Rattle.data_pdu.specs.declared.ctrl.Ctrl.TheVariants.{ConnectionUpdateInd, ChannelMapInd, TerminateInd, EncReq, EncRsp, StartEncReq, StartEncRsp, UnknownRsp, FeatureReq, FeatureRsp, PauseEncReq, PauseEncRsp, VersionInd, PeripheralFeatureReq, ConnectionParamReq, RejectExtInd, LengthReq, LengthRsp, PhyReq, PhyRsp, PhyUpdateInd}
use Rattle.procedures.specs.procedure_stages.Opcodes.{enc_req_opcode, connection_param_req_opcode, phy_req_opcode}

-- a central rejects the two procedures of a peripheral that exclude others
abbrev pub is_sent_by_central : Ctrl → Bool
is_sent_by_central (ConnectionUpdateInd win_size win_offset interval latency timeout instant) = true
is_sent_by_central (ChannelMapInd map instant) = true
is_sent_by_central (TerminateInd code) = true
is_sent_by_central (EncReq rand ediv skd_m iv_m) = true
is_sent_by_central StartEncRsp = true
is_sent_by_central (UnknownRsp opcode) = true
is_sent_by_central (FeatureReq features) = true
is_sent_by_central (FeatureRsp features) = true
is_sent_by_central PauseEncReq = true
is_sent_by_central PauseEncRsp = true
is_sent_by_central (VersionInd version company sub) = true
is_sent_by_central (RejectExtInd opcode code) = (opcode == connection_param_req_opcode) || (opcode == phy_req_opcode)
is_sent_by_central (LengthReq rx rx_time tx tx_time) = true
is_sent_by_central (LengthRsp rx rx_time tx tx_time) = true
is_sent_by_central (PhyReq tx rx) = true
is_sent_by_central (PhyUpdateInd to_peripheral to_central instant) = true
is_sent_by_central other = false

-- a peripheral rejects an encryption start for want of a key, and nothing else
abbrev pub is_sent_by_peripheral : Ctrl → Bool
is_sent_by_peripheral (TerminateInd code) = true
is_sent_by_peripheral (EncRsp skd_s iv_s) = true
is_sent_by_peripheral StartEncReq = true
is_sent_by_peripheral StartEncRsp = true
is_sent_by_peripheral (UnknownRsp opcode) = true
is_sent_by_peripheral (FeatureRsp features) = true
is_sent_by_peripheral PauseEncRsp = true
is_sent_by_peripheral (VersionInd version company sub) = true
is_sent_by_peripheral (PeripheralFeatureReq features) = true
is_sent_by_peripheral (ConnectionParamReq min max latency timeout periodicity reference offsets) = true
is_sent_by_peripheral (RejectExtInd opcode code) = (opcode == enc_req_opcode) && (code == pin_or_key_missing)
is_sent_by_peripheral (LengthReq rx rx_time tx tx_time) = true
is_sent_by_peripheral (LengthRsp rx rx_time tx tx_time) = true
is_sent_by_peripheral (PhyReq tx rx) = true
is_sent_by_peripheral (PhyRsp tx rx) = true
is_sent_by_peripheral other = false

abbrev pub is_sent_by : Role → Ctrl → Bool
is_sent_by Central ctrl = is_sent_by_central ctrl
is_sent_by Peripheral ctrl = is_sent_by_peripheral ctrl
