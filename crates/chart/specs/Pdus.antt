-- What a PDU is called (Core 5.2, volume 6 part B, sections 2.3, 2.4 and 3.2).
use Rattle.std.specs.Prelude.{ℕ, ◌%◌, ◌==◌, nat_lt, List, [], ◌∷◌, ◌++◌, length, slice_index, codes, decimal}
use Rattle.std.specs.Prelude.{Option, Some, None, if◌then◌else◌}
use Rattle.frame_bits.specs.Whitening.{whitening_of}
use Rattle.data_pdu.specs.declared.ctrl.Ctrl.{Ctrl}
use Rattle.data_pdu.specs.declared.ctrl.Ctrl.TheVariants.{ConnectionUpdateInd, ChannelMapInd, TerminateInd, EncReq, EncRsp, StartEncReq, StartEncRsp, UnknownRsp, FeatureReq, FeatureRsp, PauseEncReq, PauseEncRsp, VersionInd, RejectInd, PeripheralFeatureReq, ConnectionParamReq, ConnectionParamRsp, RejectExtInd, LengthReq, LengthRsp, PhyReq, PhyRsp, PhyUpdateInd}
use Rattle.data_pdu.specs.declared.ctrl.CtrlRead.{CtrlRead}
use Rattle.data_pdu.specs.declared.ctrl.CtrlRead.TheVariants.{Known}
use Rattle.data_pdu.specs.declared.header.DataHeader.{DataHeader}
use Rattle.data_pdu.specs.Header.{bit_of, header_in}
use Rattle.data_pdu.specs.Reading.{ctrl_of}

-- parts, one after the other
abbrev pub joined : List (List ℕ) → List ℕ
joined [] = []
joined (part ∷ []) = part
joined (part ∷ next ∷ parts) = part ++ joined (next ∷ parts)

-- the header of the PDU: the two octets after the access address, with the whitening taken off. None where there are
-- fewer octets, or no channel has this index
abbrev pub header_at : ℕ → List ℕ → Option (List ℕ)
header_at channel (a ∷ b ∷ c ∷ d ∷ first ∷ second ∷ rest) =
    if nat_lt channel 40 then Some (whitening_of channel (first ∷ second ∷ [])) else None
header_at channel _ = None

-- the name of a PDU of the advertising channels, by its type (section 2.3)
abbrev pub type_name : ℕ → List ℕ
type_name number =
    if number == 0 then codes "ADV_IND"
    else if number == 1 then codes "ADV_DIRECT_IND"
    else if number == 2 then codes "ADV_NONCONN_IND"
    else if number == 3 then codes "SCAN_REQ"
    else if number == 4 then codes "SCAN_RSP"
    else if number == 5 then codes "CONNECT_IND"
    else if number == 6 then codes "ADV_SCAN_IND"
    else codes "reserved"

-- the kind of a data channel PDU, by its LLID and its length (section 2.4)
abbrev pub llid_name : ℕ → ℕ → List ℕ
llid_name llid length =
    if llid == 3 then codes "control"
    else if llid == 2 then codes "start"
    else if llid == 0 then codes "reserved"
    else if length == 0 then codes "empty"
    else codes "continuation"

-- the name of a control PDU (sections 2.4.2.1 to 2.4.2.23)
abbrev pub ctrl_name : Ctrl → List ℕ
ctrl_name (ConnectionUpdateInd win_size win_offset interval latency timeout instant) = codes "LL_CONNECTION_UPDATE_IND"
ctrl_name (ChannelMapInd map instant) = codes "LL_CHANNEL_MAP_IND"
ctrl_name (TerminateInd code) = codes "LL_TERMINATE_IND"
ctrl_name (EncReq rand ediv skd_m iv_m) = codes "LL_ENC_REQ"
ctrl_name (EncRsp skd_s iv_s) = codes "LL_ENC_RSP"
ctrl_name StartEncReq = codes "LL_START_ENC_REQ"
ctrl_name StartEncRsp = codes "LL_START_ENC_RSP"
ctrl_name (UnknownRsp opcode) = codes "LL_UNKNOWN_RSP"
ctrl_name (FeatureReq features) = codes "LL_FEATURE_REQ"
ctrl_name (FeatureRsp features) = codes "LL_FEATURE_RSP"
ctrl_name PauseEncReq = codes "LL_PAUSE_ENC_REQ"
ctrl_name PauseEncRsp = codes "LL_PAUSE_ENC_RSP"
ctrl_name (VersionInd version company sub) = codes "LL_VERSION_IND"
ctrl_name (RejectInd code) = codes "LL_REJECT_IND"
ctrl_name (PeripheralFeatureReq features) = codes "LL_PERIPHERAL_FEATURE_REQ"
ctrl_name (ConnectionParamReq interval_min interval_max latency timeout periodicity reference offsets) =
    codes "LL_CONNECTION_PARAM_REQ"
ctrl_name (ConnectionParamRsp interval_min interval_max latency timeout periodicity reference offsets) =
    codes "LL_CONNECTION_PARAM_RSP"
ctrl_name (RejectExtInd opcode code) = codes "LL_REJECT_EXT_IND"
ctrl_name (LengthReq max_rx_octets max_rx_time max_tx_octets max_tx_time) = codes "LL_LENGTH_REQ"
ctrl_name (LengthRsp max_rx_octets max_rx_time max_tx_octets max_tx_time) = codes "LL_LENGTH_RSP"
ctrl_name (PhyReq tx rx) = codes "LL_PHY_REQ"
ctrl_name (PhyRsp tx rx) = codes "LL_PHY_RSP"
ctrl_name (PhyUpdateInd to_peripheral to_central instant) = codes "LL_PHY_UPDATE_IND"

-- a payload by its kind and its length
abbrev pub kind_words : ℕ → ℕ → List ℕ
kind_words llid length = joined (llid_name llid length ∷ codes ", " ∷ decimal length ∷ codes " octets" ∷ [])

-- a control PDU by its name, which says its length too; by its kind and its length, if the octets are not one
abbrev pub control_words : CtrlRead → ℕ → List ℕ
control_words (Known ctrl) length = ctrl_name ctrl
control_words other length = kind_words 3 length

-- a payload
abbrev pub body_words : ℕ → List ℕ → List ℕ
body_words llid body = if llid == 3 then control_words (ctrl_of body) (length body) else kind_words llid (length body)

-- the three bits of acknowledgement and more data
abbrev pub bit_words : DataHeader → List ℕ
bit_words h = joined
    (codes "SN " ∷ decimal (bit_of h.sn) ∷ codes " NESN " ∷ decimal (bit_of h.nesn) ∷ codes " MD "
    ∷ decimal (bit_of h.md) ∷ codes ", " ∷ [])

-- a data channel PDU: its kind, those bits, and the number of octets after its header
abbrev pub data_words : DataHeader → List ℕ
data_words h = joined
    (llid_name h.llid h.length ∷ codes " " ∷ bit_words h ∷ decimal h.length ∷ codes " octets" ∷ [])

-- the PDU of a header on a channel: 37 and above are the advertising channels
abbrev pub header_words : ℕ → Option (List ℕ) → List ℕ
header_words channel None = codes "no PDU"
header_words channel (Some header) =
    if nat_lt channel 37 then data_words (header_in header) else type_name (slice_index header 0 % 16)

-- the PDU of a packet on a channel
abbrev pub pdu_words : ℕ → List ℕ → List ℕ
pdu_words channel octets = header_words channel (header_at channel octets)
