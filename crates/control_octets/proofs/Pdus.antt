-- Each control PDU that an end sends fits its octets and is in its range.
use Rattle.std.proofs.Common.{◌≡◌, ℕ, ◌+◌, ◌%◌, ◌^◌, ◌<◌, ◌≤◌, [], ◌∷◌, length, Option, Some, refl, subst, arith}
use Rattle.std.specs.Prelude.{⊤}
use Rattle.wire_fields.specs.Field.{AllFit, little_endian, number}
use Rattle.ble_base.specs.ChannelMap.{IsMap}
use Rattle.data_pdu.specs.Layouts.{IsCtrl, written}
use Rattle.data_pdu.specs.Ranges.{IsLength}
use Rattle.data_pdu.specs.declared.ctrl.Ctrl.{Ctrl}
use Rattle.data_pdu.specs.declared.ctrl.Ctrl.TheVariants.{ConnectionUpdateInd, EncReq, StartEncReq}
use Rattle.control_model.specs.procedure_values.Drafts.{ctrl_of_outgoing, instant_at, time_of}
use Rattle.control_model.specs.procedure_values.Values.{IsParams, IsPayloadMax, ParamValues}
use Rattle.control_model.specs.procedure_values.declared.drafts.Draft.TheVariants.{Update, Grant, Map, Request, PhyReq, PhyRsp, PhyInd, FeatureReq, PeripheralFeatureReq, FeatureRsp, VersionInd, LengthReq, LengthRsp, UnknownRsp, Cipher}
use Rattle.control_model.specs.procedure_values.declared.drafts.Outgoing.{Outgoing}
use Rattle.control_model.specs.procedure_values.declared.drafts.Outgoing.TheVariants.{Nothing, Rejection, Disconnect, Other}
use Rattle.control_octets.specs.Fitting.{CodeFits, DraftFits, EncryptFits, RejectionFits, RequestFits}

-- ---- the PDUs of drafts

-- the counter of an event
counter_fits : (n : ℕ) → n % 2 ^ 16 < 256 ^ 2
counter_fits n = omega arith

update_ctrl : (p : ParamValues) → IsParams p → (instant : ℕ) → instant < 256 ^ 2
    → IsCtrl (ConnectionUpdateInd 1 0 p.interval p.latency p.timeout instant)
update_ctrl p is instant small =
    let interval = is.interval_to in
    let latency = is.latency_to in
    let timeout = is.timeout_to in
    record { fits = grind (arith, interval, latency, timeout, small); six_offsets = tt; range = is }

pub update_fits : (p : ParamValues) → IsParams p → DraftFits (Update p)
update_fits p is event skips = update_ctrl p is (instant_at event skips) (counter_fits _)

pub grant_fits : (p : ParamValues) → IsParams p → DraftFits (Grant p)
grant_fits p is event skips = update_ctrl p is (instant_at event skips) (counter_fits _)

pub map_fits : (map : ℕ) → IsMap map → DraftFits (Map map)
map_fits map is event skips =
    let small = is.data_channels_only in
    let counter = counter_fits (event + 6 + skips) in
    record { fits = grind (arith, small, counter); six_offsets = tt; range = is }

pub request_fits : (min max latency timeout : ℕ) → RequestFits min max latency timeout → DraftFits (Request min max latency timeout)
request_fits min max latency timeout is event skips =
    let counter = counter_fits event in
    record {
      fits = grind (arith, is.min_fits, is.max_fits, is.latency_fits, is.timeout_fits, counter);
      six_offsets = refl;
      range = tt;
    }

length_fits : (rx tx : ℕ) → IsPayloadMax rx → IsPayloadMax tx → AllFit (number 2 rx ∷ number 2 (time_of rx) ∷ number 2 tx ∷ number 2 (time_of tx) ∷ [])
length_fits rx tx rx_is tx_is =
    let rx_to = rx_is.to in
    let tx_to = tx_is.to in
    grind (arith, rx_to, tx_to)

lengths_in_range : (rx tx : ℕ) → IsPayloadMax rx → IsPayloadMax tx → IsLength rx (time_of rx) tx (time_of tx)
lengths_in_range rx tx rx_is tx_is =
    let rx_from = rx_is.from in
    let tx_from = tx_is.from in
    record {
      rx_octets_from = rx_from;
      rx_time_from = omega (arith, rx_from);
      tx_octets_from = tx_from;
      tx_time_from = omega (arith, tx_from);
    }

pub length_req_fits : (rx tx : ℕ) → IsPayloadMax rx → IsPayloadMax tx → DraftFits (LengthReq rx tx)
length_req_fits rx tx rx_is tx_is event skips =
    record { fits = (omega arith, length_fits rx tx rx_is tx_is); six_offsets = tt; range = lengths_in_range rx tx rx_is tx_is }

pub length_rsp_fits : (rx tx : ℕ) → IsPayloadMax rx → IsPayloadMax tx → DraftFits (LengthRsp rx tx)
length_rsp_fits rx tx rx_is tx_is event skips =
    record { fits = (omega arith, length_fits rx tx rx_is tx_is); six_offsets = tt; range = lengths_in_range rx tx rx_is tx_is }

pub unknown_fits : (opcode : ℕ) → opcode < 256 → DraftFits (UnknownRsp opcode)
unknown_fits opcode small event skips = record { fits = (omega arith, (small, tt)); six_offsets = tt; range = tt }

-- LL_ENC_REQ of an encryption that the host asks for
pub enc_req_fits : (rand ediv skd_m iv_m : ℕ) → EncryptFits rand ediv skd_m iv_m → IsCtrl (EncReq rand ediv skd_m iv_m)
enc_req_fits rand ediv skd_m iv_m is =
    record { fits = grind (arith, is.rand_fits, is.ediv_fits, is.skd_fits, is.iv_fits); six_offsets = tt; range = tt }

pub enc_req_is : (rand ediv skd_m iv_m : ℕ) → IsCtrl (EncReq rand ediv skd_m iv_m) → EncryptFits rand ediv skd_m iv_m
enc_req_is rand ediv skd_m iv_m is =
    let fits = is.fits in
    let rand_is = fits.1.0 in
    let ediv_is = fits.1.1.0 in
    let skd_is = fits.1.1.1.0 in
    let iv_is = fits.1.1.1.1.0 in
    record { rand_fits = omega (arith, rand_is); ediv_fits = omega (arith, ediv_is); skd_fits = omega (arith, skd_is); iv_fits = omega (arith, iv_is) }

pub cipher_fits : (ctrl : Ctrl) → IsCtrl ctrl → DraftFits (Cipher ctrl)
cipher_fits ctrl is event skips = is

-- the PDUs of these drafts are the same whatever the values of the link are

pub feature_req_fits : DraftFits FeatureReq
feature_req_fits event skips = record { fits = grind arith; six_offsets = tt; range = tt }

pub peripheral_feature_req_fits : DraftFits PeripheralFeatureReq
peripheral_feature_req_fits event skips = record { fits = grind arith; six_offsets = tt; range = tt }

pub feature_rsp_fits : DraftFits FeatureRsp
feature_rsp_fits event skips = record { fits = grind arith; six_offsets = tt; range = tt }

pub version_fits : DraftFits VersionInd
version_fits event skips = record { fits = grind arith; six_offsets = tt; range = tt }

pub phy_req_fits : DraftFits PhyReq
phy_req_fits event skips = record { fits = grind arith; six_offsets = tt; range = tt }

pub phy_rsp_fits : DraftFits PhyRsp
phy_rsp_fits event skips = record { fits = grind arith; six_offsets = tt; range = tt }

pub phy_ind_fits : DraftFits PhyInd
phy_ind_fits event skips =
    record {
      fits = grind arith;
      six_offsets = tt;
      range = record { to_peripheral_unchanged = refl; to_central_unchanged = refl };
    }

-- ---- the PDU that goes, and the indication that a central follows

some_is : (one other : Ctrl) → ◌≡◌ {A = Option Ctrl} (Some one) (Some other) → IsCtrl one → IsCtrl other
some_is one other same is =
    let same_ctrl : one ≡ other = cc in
    subst IsCtrl same_ctrl is

-- what goes next fits
abbrev pub OutgoingFits : Outgoing → Type 0
OutgoingFits Nothing = ⊤
OutgoingFits (Rejection rejection) = RejectionFits rejection
OutgoingFits (Disconnect code) = CodeFits code
OutgoingFits (Other draft) = DraftFits draft

pub outgoing_is_ctrl : (outgoing : Outgoing) (event skips : ℕ) (ctrl : Ctrl) → OutgoingFits outgoing
    → ctrl_of_outgoing outgoing event skips ≡ Some ctrl → IsCtrl ctrl
outgoing_is_ctrl Nothing event skips ctrl fits is = absurd (cc)
outgoing_is_ctrl (Rejection rejection) event skips ctrl fits is =
    some_is _ ctrl is (record { fits = (omega arith, (fits.opcode, (fits.code, tt))); six_offsets = tt; range = tt })
outgoing_is_ctrl (Disconnect code) event skips ctrl fits is =
    some_is _ ctrl is (record { fits = (omega arith, (fits, tt)); six_offsets = tt; range = tt })
outgoing_is_ctrl (Other draft) event skips ctrl fits is = some_is _ ctrl is (fits event skips)

pub written_short : (ctrl : Ctrl) → length (written ctrl) ≤ 24
unfolding little_endian
written_short StartEncReq = omega arith
written_short other = omega arith
