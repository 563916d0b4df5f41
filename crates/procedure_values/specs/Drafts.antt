-- The control PDUs that this product sends, and what is fixed as each is first sent (Core 5.2, volume 6 part B, section
-- 2.4.2).
use Rattle.std.specs.Prelude.{ℕ, ◌+◌, ◌%◌, ◌^◌, ◌*◌, List, [], ◌∷◌, Bool, true, false, Option, Some, None}
use Rattle.data_pdu.specs.declared.ctrl.Ctrl.{Ctrl}
use Rattle.data_pdu.specs.declared.ctrl.Ctrl.TheVariants.{UnknownRsp, FeatureReq, FeatureRsp, VersionInd, PeripheralFeatureReq, PhyReq, PhyRsp, PhyUpdateInd, ConnectionUpdateInd, ChannelMapInd, ConnectionParamReq, LengthReq, LengthRsp, TerminateInd, RejectExtInd}
use Rattle.instants.specs.declared.indications.Indication.{Indication}
use Rattle.instants.specs.declared.indications.Indication.TheVariants.{Update as update_indication, Map as map_indication}
use Rattle.procedure_values.specs.declared.drafts.Draft.{Draft}
use Rattle.procedure_values.specs.declared.drafts.Draft.TheVariants.{PhyReq as phy_req, PhyRsp as phy_rsp, PhyInd, FeatureReq as feature_req, PeripheralFeatureReq as peripheral_feature_req, FeatureRsp as feature_rsp, UnknownRsp as unknown_rsp, Update, Grant, Map, Request, LengthReq as length_req, LengthRsp as length_rsp, Cipher}
use Rattle.procedure_values.specs.declared.drafts.Outgoing.{Outgoing}
use Rattle.procedure_values.specs.declared.drafts.Outgoing.TheVariants.{Nothing, Rejection, Disconnect, Other}

-- the own features (section 4.6; which of them is our choice): encryption, parameter request, extended reject,
-- peripheral feature exchange, data length, channel selection algorithm 2
abbrev pub own_features : ℕ
own_features = 0x402F

-- the own version, 5.2 (Assigned Numbers), no company, and our own number of the implementation
abbrev pub own_version : ℕ
own_version = 0x0B

abbrev pub own_company : ℕ
own_company = 0xFFFF

abbrev pub own_sub : ℕ
own_sub = 1

-- the event that the Instant of an indication names which is first sent in an event: six events more than the latency
-- lets the peripheral skip (section 5.5; how far ahead is our choice)
abbrev pub instant_event : ℕ → ℕ → ℕ
instant_event event latency = event + 6 + latency

-- the Instant of it
abbrev pub instant_at : ℕ → ℕ → ℕ
instant_at event latency = instant_event event latency % 2 ^ 16

-- the time of a payload: 8 us for each of its octets and of 14 others (section 4.5.10)
abbrev pub time_of : ℕ → ℕ
time_of octets = 8 * (octets + 14)

-- offsets that a request does not name (section 2.4.2.16)
abbrev pub no_offsets : List ℕ
no_offsets = 0xFFFF ∷ 0xFFFF ∷ 0xFFFF ∷ 0xFFFF ∷ 0xFFFF ∷ 0xFFFF ∷ []

-- the PDU of a draft all of which is fixed whatever the values of the link are; the last row is LL_VERSION_IND
abbrev pub fixed_ctrl_of : Draft → Ctrl
fixed_ctrl_of phy_req = PhyReq 1 1
fixed_ctrl_of phy_rsp = PhyRsp 1 1
fixed_ctrl_of PhyInd = PhyUpdateInd 0 0 0
fixed_ctrl_of feature_req = FeatureReq own_features
fixed_ctrl_of peripheral_feature_req = PeripheralFeatureReq own_features
fixed_ctrl_of feature_rsp = FeatureRsp own_features
fixed_ctrl_of (unknown_rsp opcode) = UnknownRsp opcode
fixed_ctrl_of other = VersionInd own_version own_company own_sub

-- the PDU of a draft that is first sent in an event
abbrev pub ctrl_of_draft : Draft → ℕ → ℕ → Ctrl
ctrl_of_draft (Update params) event skips =
    ConnectionUpdateInd 1 0 params.interval params.latency params.timeout (instant_at event skips)
ctrl_of_draft (Grant params) event skips =
    ConnectionUpdateInd 1 0 params.interval params.latency params.timeout (instant_at event skips)
ctrl_of_draft (Map map) event skips = ChannelMapInd map (instant_at event skips)
ctrl_of_draft (Request min max latency timeout) event skips =
    ConnectionParamReq min max latency timeout 0 (event % 2 ^ 16) no_offsets
ctrl_of_draft (length_req rx tx) event skips = LengthReq rx (time_of rx) tx (time_of tx)
ctrl_of_draft (length_rsp rx tx) event skips = LengthRsp rx (time_of rx) tx (time_of tx)
ctrl_of_draft (Cipher ctrl) event skips = ctrl
ctrl_of_draft fixed event skips = fixed_ctrl_of fixed

-- whether there is one
abbrev pub is_out : Outgoing → Bool
is_out Nothing = false
is_out other = true

-- the PDU of what is to be sent
abbrev pub ctrl_of_outgoing : Outgoing → ℕ → ℕ → Option Ctrl
ctrl_of_outgoing Nothing event skips = None
ctrl_of_outgoing (Rejection rejection) event skips = Some (RejectExtInd rejection.opcode rejection.code.0)
ctrl_of_outgoing (Disconnect code) event skips = Some (TerminateInd code.0)
ctrl_of_outgoing (Other draft) event skips = Some (ctrl_of_draft draft event skips)

-- the indication that the central follows, of a draft that is first sent in an event
abbrev pub indication_of_draft : Draft → ℕ → ℕ → Option Indication
indication_of_draft (Update params) event skips =
    Some (update_indication 0 params.interval params.latency params.timeout (instant_at event skips))
indication_of_draft (Grant params) event skips =
    Some (update_indication 0 params.interval params.latency params.timeout (instant_at event skips))
indication_of_draft (Map map) event skips = Some (map_indication map (instant_at event skips))
indication_of_draft other event skips = None

abbrev pub indication_of : Outgoing → ℕ → ℕ → Option Indication
indication_of (Other draft) event skips = indication_of_draft draft event skips
indication_of other event skips = None

-- an indication, and the first PDU of a central's PHY update, wait until the event after the Instant of the indication
-- before (our choice: so that only one waits at the peripheral)
abbrev pub waits_for_instant : Draft → Bool
waits_for_instant (Update params) = true
waits_for_instant (Grant params) = true
waits_for_instant (Map map) = true
waits_for_instant phy_req = true
waits_for_instant other = false

-- ---- which PDU it is

abbrev pub is_phy_ind : Outgoing → Bool
is_phy_ind (Other PhyInd) = true
is_phy_ind other = false

abbrev pub is_request : Outgoing → Bool
is_request (Other (Request min max latency timeout)) = true
is_request other = false
