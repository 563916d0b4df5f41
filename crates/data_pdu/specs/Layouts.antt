-- The layouts of control PDUs (Core 5.2, volume 6 part B, section 2.4.2).
use Rattle.std.specs.Prelude.{◌≡◌, ℕ, List, [], ◌∷◌, length, slice_index, ⊤}
use Rattle.wire_fields.specs.Field.{Field, number, spelled, AllFit}
use Rattle.data_pdu.specs.declared.ctrl.Ctrl.{Ctrl}
use Rattle.data_pdu.specs.declared.ctrl.Ctrl.TheVariants.{ConnectionUpdateInd, ChannelMapInd, TerminateInd, EncReq, EncRsp, StartEncReq, StartEncRsp, UnknownRsp, FeatureReq, FeatureRsp, PauseEncReq, PauseEncRsp, VersionInd, RejectInd, PeripheralFeatureReq, ConnectionParamReq, ConnectionParamRsp, RejectExtInd, LengthReq, LengthRsp, PhyReq, PhyRsp, PhyUpdateInd}
use Rattle.data_pdu.specs.Ranges.{IsInRange}

-- six numbers of two octets
abbrev pub six_numbers : List ℕ → List Field
six_numbers numbers =
    number 2 (slice_index numbers 0) ∷ number 2 (slice_index numbers 1) ∷ number 2 (slice_index numbers 2) ∷
    number 2 (slice_index numbers 3) ∷ number 2 (slice_index numbers 4) ∷ number 2 (slice_index numbers 5) ∷ []

-- the parameters that a connection parameter request and its response have
abbrev pub connection_params : ℕ → ℕ → ℕ → ℕ → ℕ → ℕ → List ℕ → List Field
connection_params interval_min interval_max latency timeout periodicity reference offsets =
    number 2 interval_min ∷ number 2 interval_max ∷ number 2 latency ∷ number 2 timeout ∷ number 1 periodicity ∷
    number 2 reference ∷ six_numbers offsets

-- the fields of a control PDU, the opcode first (Core 5.2, volume 6 part B, sections 2.4.2.1 to 2.4.2.23)
abbrev pub fields_of : Ctrl → List Field
fields_of (ConnectionUpdateInd win_size win_offset interval latency timeout instant) =
    number 1 0x00 ∷ number 1 win_size ∷ number 2 win_offset ∷ number 2 interval ∷
    number 2 latency ∷ number 2 timeout ∷ number 2 instant ∷ []
fields_of (ChannelMapInd map instant) = number 1 0x01 ∷ number 5 map ∷ number 2 instant ∷ []
fields_of (TerminateInd code) = number 1 0x02 ∷ number 1 code ∷ []
fields_of (EncReq rand ediv skd_m iv_m) =
    number 1 0x03 ∷ number 8 rand ∷ number 2 ediv ∷ number 8 skd_m ∷ number 4 iv_m ∷ []
fields_of (EncRsp skd_s iv_s) = number 1 0x04 ∷ number 8 skd_s ∷ number 4 iv_s ∷ []
fields_of StartEncReq = number 1 0x05 ∷ []
fields_of StartEncRsp = number 1 0x06 ∷ []
fields_of (UnknownRsp opcode) = number 1 0x07 ∷ number 1 opcode ∷ []
fields_of (FeatureReq features) = number 1 0x08 ∷ number 8 features ∷ []
fields_of (FeatureRsp features) = number 1 0x09 ∷ number 8 features ∷ []
fields_of PauseEncReq = number 1 0x0A ∷ []
fields_of PauseEncRsp = number 1 0x0B ∷ []
fields_of (VersionInd version company sub) = number 1 0x0C ∷ number 1 version ∷ number 2 company ∷ number 2 sub ∷ []
fields_of (RejectInd code) = number 1 0x0D ∷ number 1 code ∷ []
fields_of (PeripheralFeatureReq features) = number 1 0x0E ∷ number 8 features ∷ []
fields_of (ConnectionParamReq interval_min interval_max latency timeout periodicity reference offsets) =
    number 1 0x0F ∷ connection_params interval_min interval_max latency timeout periodicity reference offsets
fields_of (ConnectionParamRsp interval_min interval_max latency timeout periodicity reference offsets) =
    number 1 0x10 ∷ connection_params interval_min interval_max latency timeout periodicity reference offsets
fields_of (RejectExtInd opcode code) = number 1 0x11 ∷ number 1 opcode ∷ number 1 code ∷ []
fields_of (LengthReq max_rx_octets max_rx_time max_tx_octets max_tx_time) =
    number 1 0x14 ∷ number 2 max_rx_octets ∷ number 2 max_rx_time ∷ number 2 max_tx_octets ∷ number 2 max_tx_time ∷ []
fields_of (LengthRsp max_rx_octets max_rx_time max_tx_octets max_tx_time) =
    number 1 0x15 ∷ number 2 max_rx_octets ∷ number 2 max_rx_time ∷ number 2 max_tx_octets ∷ number 2 max_tx_time ∷ []
fields_of (PhyReq tx rx) = number 1 0x16 ∷ number 1 tx ∷ number 1 rx ∷ []
fields_of (PhyRsp tx rx) = number 1 0x17 ∷ number 1 tx ∷ number 1 rx ∷ []
fields_of (PhyUpdateInd to_peripheral to_central instant) =
    number 1 0x18 ∷ number 1 to_peripheral ∷ number 1 to_central ∷ number 2 instant ∷ []

-- a control PDU by the numbers in its fields: number 0 is the opcode, number k the field after k - 1 others
abbrev pub Maker : Type 0
Maker = (ℕ → ℕ) → Ctrl

-- the control PDUs that there are, each once (Core 5.2, volume 6 part B, section 2.4.2)
unfoldable pub makers : List Maker
makers =
    (λ n. ConnectionUpdateInd (n 1) (n 2) (n 3) (n 4) (n 5) (n 6)) ∷
    (λ n. ChannelMapInd (n 1) (n 2)) ∷
    (λ n. TerminateInd (n 1)) ∷
    (λ n. EncReq (n 1) (n 2) (n 3) (n 4)) ∷
    (λ n. EncRsp (n 1) (n 2)) ∷
    (λ n. StartEncReq) ∷
    (λ n. StartEncRsp) ∷
    (λ n. UnknownRsp (n 1)) ∷
    (λ n. FeatureReq (n 1)) ∷
    (λ n. FeatureRsp (n 1)) ∷
    (λ n. PauseEncReq) ∷
    (λ n. PauseEncRsp) ∷
    (λ n. VersionInd (n 1) (n 2) (n 3)) ∷
    (λ n. RejectInd (n 1)) ∷
    (λ n. PeripheralFeatureReq (n 1)) ∷
    (λ n. ConnectionParamReq (n 1) (n 2) (n 3) (n 4) (n 5) (n 6) (n 7 ∷ n 8 ∷ n 9 ∷ n 10 ∷ n 11 ∷ n 12 ∷ [])) ∷
    (λ n. ConnectionParamRsp (n 1) (n 2) (n 3) (n 4) (n 5) (n 6) (n 7 ∷ n 8 ∷ n 9 ∷ n 10 ∷ n 11 ∷ n 12 ∷ [])) ∷
    (λ n. RejectExtInd (n 1) (n 2)) ∷
    (λ n. LengthReq (n 1) (n 2) (n 3) (n 4)) ∷
    (λ n. LengthRsp (n 1) (n 2) (n 3) (n 4)) ∷
    (λ n. PhyReq (n 1) (n 2)) ∷
    (λ n. PhyRsp (n 1) (n 2)) ∷
    (λ n. PhyUpdateInd (n 1) (n 2) (n 3)) ∷ []

-- the octets of a control PDU
abbrev pub written : Ctrl → List ℕ
written ctrl = spelled (fields_of ctrl)

-- an array of six offsets has six
abbrev pub HasSixOffsets : Ctrl → Type 0
HasSixOffsets (ConnectionParamReq interval_min interval_max latency timeout periodicity reference offsets) =
    length offsets ≡ 6
HasSixOffsets (ConnectionParamRsp interval_min interval_max latency timeout periodicity reference offsets) =
    length offsets ≡ 6
HasSixOffsets other = ⊤

-- what a control PDU is: each field fits its octets and is in its range
pub record IsCtrl (ctrl : Ctrl) : Type 0 where
  pub fits : AllFit (fields_of ctrl)
  pub six_offsets : HasSixOffsets ctrl
  pub range : IsInRange ctrl
