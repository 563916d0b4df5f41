-- The control PDUs that are written by one function each (our choice).
use Rattle.std.specs.Prelude.{⊤}
use Rattle.data_pdu.specs.declared.ctrl.Ctrl.{Ctrl}
use Rattle.data_pdu.specs.declared.ctrl.Ctrl.TheVariants.{ConnectionParamReq, ConnectionParamRsp, RejectExtInd, LengthReq, LengthRsp, PhyReq, PhyRsp, PhyUpdateInd}

-- one with an opcode from 0F on
abbrev pub IsHigh : Ctrl → Type 0
IsHigh (ConnectionParamReq interval_min interval_max latency timeout periodicity reference offsets) = ⊤
IsHigh (ConnectionParamRsp interval_min interval_max latency timeout periodicity reference offsets) = ⊤
IsHigh (RejectExtInd opcode code) = ⊤
IsHigh (LengthReq max_rx_octets max_rx_time max_tx_octets max_tx_time) = ⊤
IsHigh (LengthRsp max_rx_octets max_rx_time max_tx_octets max_tx_time) = ⊤
IsHigh (PhyReq tx rx) = ⊤
IsHigh (PhyRsp tx rx) = ⊤
IsHigh (PhyUpdateInd to_peripheral to_central instant) = ⊤
IsHigh other = ⊥
