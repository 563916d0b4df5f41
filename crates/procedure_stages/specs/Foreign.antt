-- The control PDUs that have no meaning at an end, since only an end of its role sends them (Core 5.2, volume 6 part B,
-- section 2.4.2).
use Rattle.std.specs.Prelude.{ℕ, Bool, true, false, Option, Some, None, if◌then◌else◌}
use Rattle.ble_base.specs.declared.roles.Role.{Role}
use Rattle.ble_base.specs.declared.roles.Role.TheVariants.{Central, Peripheral}
use Rattle.data_pdu.specs.declared.ctrl.Ctrl.{Ctrl}
use Rattle.data_pdu.specs.declared.ctrl.Ctrl.TheVariants.{ConnectionUpdateInd, ChannelMapInd, EncReq, EncRsp, StartEncReq, FeatureReq, PauseEncReq, PeripheralFeatureReq, ConnectionParamReq, ConnectionParamRsp, PhyUpdateInd}
use Rattle.data_pdu.specs.Reading.{opcode_of}

-- no central requests connection parameters, no end answers by LL_CONNECTION_PARAM_RSP, and an LL_PHY_RSP at a
-- peripheral is an answer that no procedure awaits (our choice)
abbrev pub is_foreign : Role → Ctrl → Bool
is_foreign Central (ConnectionUpdateInd win_size win_offset interval latency timeout instant) = true
is_foreign Central (ChannelMapInd map instant) = true
is_foreign Central (EncReq rand ediv skd_m iv_m) = true
is_foreign Central (FeatureReq features) = true
is_foreign Central PauseEncReq = true
is_foreign Central (PhyUpdateInd to_peripheral to_central instant) = true
is_foreign Peripheral (EncRsp skd_s iv_s) = true
is_foreign Peripheral StartEncReq = true
is_foreign Peripheral (PeripheralFeatureReq features) = true
is_foreign Peripheral (ConnectionParamReq min max latency timeout periodicity reference offsets) = true
is_foreign role (ConnectionParamRsp min max latency timeout periodicity reference offsets) = true
is_foreign role other = false

-- the opcode of such a PDU
abbrev pub foreign_opcode : Role → Ctrl → Option ℕ
foreign_opcode role ctrl = (if is_foreign role ctrl then Some (opcode_of ctrl) else None)
