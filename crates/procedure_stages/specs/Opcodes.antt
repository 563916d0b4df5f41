-- The opcodes of control PDUs that are named in an answer, and those of the PDUs that were sent of a procedure (Core
-- 5.2, volume 6 part B, section 2.4.2).
use Rattle.std.specs.Prelude.{ℕ, [], Option, Some, None, ◌==◌, Bool, false, option_map}
use Rattle.ble_base.specs.declared.roles.Role.{Role}
use Rattle.ble_base.specs.declared.roles.Role.TheVariants.{Central, Peripheral}
use Rattle.data_pdu.specs.declared.ctrl.Ctrl.TheVariants.{ConnectionUpdateInd, ChannelMapInd, EncReq, EncRsp, StartEncReq, FeatureReq, PauseEncReq, VersionInd, PeripheralFeatureReq, ConnectionParamReq, LengthReq, PhyReq, PhyUpdateInd}
use Rattle.data_pdu.specs.Reading.{opcode_of}
use Rattle.procedure_stages.specs.declared.stages.Exchange.{Exchange}
use Rattle.procedure_stages.specs.declared.stages.Exchange.TheVariants.{FeaturesSent, VersionSent, LengthSent}
use Rattle.procedure_stages.specs.declared.stages.OwnCentral.{OwnCentral}
use Rattle.procedure_stages.specs.declared.stages.OwnCentral.TheVariants.{Exclusive as exclusive, Exchange as exchange, EncryptUnsent, EncryptSent}
use Rattle.procedure_stages.specs.declared.stages.OwnPeripheral.{OwnPeripheral}
use Rattle.procedure_stages.specs.declared.stages.OwnPeripheral.TheVariants.{Exclusive as exclusive_p, Exchange as exchange_p}
use Rattle.exclusive_stages.specs.declared.stages.CentralStage.TheVariants.{PhyIndicated}
use Rattle.exclusive_stages.specs.declared.pdus.Exclusive.{Exclusive}
use Rattle.exclusive_stages.specs.declared.pdus.Exclusive.TheVariants.{Update, Request, Map, Phy}
use Rattle.exclusive_stages.specs.Kinds.{kind_sent_by_central, kind_sent_by_peripheral}
use Rattle.procedure_stages.specs.declared.stages.Progress.{Progress}
use Rattle.procedure_stages.specs.declared.stages.Progress.TheVariants.{Central as central, Peripheral as peripheral}

-- those that several definitions name, each from the layout of its PDU

abbrev pub connection_update_ind_opcode : ℕ
connection_update_ind_opcode = opcode_of (ConnectionUpdateInd 0 0 0 0 0 0)

abbrev pub channel_map_ind_opcode : ℕ
channel_map_ind_opcode = opcode_of (ChannelMapInd 0 0)

abbrev pub enc_req_opcode : ℕ
enc_req_opcode = opcode_of (EncReq 0 0 0 0)

abbrev pub enc_rsp_opcode : ℕ
enc_rsp_opcode = opcode_of (EncRsp 0 0)

abbrev pub start_enc_req_opcode : ℕ
start_enc_req_opcode = opcode_of StartEncReq

abbrev pub feature_req_opcode : ℕ
feature_req_opcode = opcode_of (FeatureReq 0)

abbrev pub pause_enc_req_opcode : ℕ
pause_enc_req_opcode = opcode_of PauseEncReq

abbrev pub version_ind_opcode : ℕ
version_ind_opcode = opcode_of (VersionInd 0 0 0)

abbrev pub peripheral_feature_req_opcode : ℕ
peripheral_feature_req_opcode = opcode_of (PeripheralFeatureReq 0)

abbrev pub connection_param_req_opcode : ℕ
connection_param_req_opcode = opcode_of (ConnectionParamReq 0 0 0 0 0 0 [])

abbrev pub length_req_opcode : ℕ
length_req_opcode = opcode_of (LengthReq 0 0 0 0)

abbrev pub phy_req_opcode : ℕ
phy_req_opcode = opcode_of (PhyReq 0 0)

-- ---- the own procedure

-- the PDU of a feature exchange that begins it, by the role of the end
abbrev pub feature_opcode : Role → ℕ
feature_opcode Central = feature_req_opcode
feature_opcode Peripheral = peripheral_feature_req_opcode

abbrev pub opcode_of_exchange : Role → Exchange → Option ℕ
opcode_of_exchange role FeaturesSent = Some (feature_opcode role)
opcode_of_exchange role VersionSent = Some version_ind_opcode
opcode_of_exchange role LengthSent = Some length_req_opcode
opcode_of_exchange role other = None

-- the first PDU of a procedure that excludes others
abbrev pub opcode_of_kind : Exclusive → ℕ
opcode_of_kind Update = connection_update_ind_opcode
opcode_of_kind Request = connection_param_req_opcode
opcode_of_kind Map = channel_map_ind_opcode
opcode_of_kind Phy = phy_req_opcode

abbrev pub opcode_at_central : OwnCentral → Option ℕ
opcode_at_central (exclusive stage) = option_map opcode_of_kind (kind_sent_by_central stage)
opcode_at_central (exchange stage) = opcode_of_exchange Central stage
opcode_at_central EncryptUnsent = None
opcode_at_central EncryptSent = Some enc_req_opcode

abbrev pub opcode_at_peripheral : OwnPeripheral → Option ℕ
opcode_at_peripheral (exclusive_p stage) = option_map opcode_of_kind (kind_sent_by_peripheral stage)
opcode_at_peripheral (exchange_p stage) = opcode_of_exchange Peripheral stage

-- the opcode of the first PDU of the own procedure, once it was sent; of an encryption only a start that follows no
-- pause can be refused, and its first PDU is LL_ENC_REQ
abbrev pub first_opcode : Progress → Option ℕ
first_opcode (central c) = opcode_at_central c.own
first_opcode (peripheral p) = opcode_at_peripheral p.own

-- the opcode of a later PDU of the own procedure that was sent: a central's PHY update has two
abbrev pub later_opcode_at_central : OwnCentral → Option ℕ
later_opcode_at_central (exclusive PhyIndicated) = Some (opcode_of (PhyUpdateInd 0 0 0))
later_opcode_at_central other = None

abbrev pub later_opcode : Progress → Option ℕ
later_opcode (central c) = later_opcode_at_central c.own
later_opcode (peripheral p) = None

abbrev pub is_opcode : Option ℕ → ℕ → Bool
is_opcode None opcode = false
is_opcode (Some own) opcode = own == opcode
