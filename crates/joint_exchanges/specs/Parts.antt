-- What the machines of exchanges see of a joint run: the exchanges of features, lengths and versions at both ends, and
-- their PDUs that are on their way or kept (Core 5.2, volume 6 part B, sections 5.1.4, 5.1.5 and 5.1.9). PDUs of other
-- procedures, and data, count as none.
use Rattle.std.specs.Prelude.{Bool, Option, Some, None}
use Rattle.data_pdu.specs.declared.ctrl.Ctrl.{Ctrl}
use Rattle.data_pdu.specs.declared.ctrl.Ctrl.TheVariants.{LengthReq as ctrl_length_req, PeripheralFeatureReq as ctrl_feature_req, VersionInd as ctrl_version_ind}
use Rattle.exchange_steps.specs.procedure_values.declared.drafts.Draft.{Draft}
use Rattle.exchange_steps.specs.procedure_values.declared.drafts.Draft.TheVariants.{FeatureReq, FeatureRsp, LengthReq, LengthRsp, PeripheralFeatureReq, VersionInd}
use Rattle.exchange_steps.specs.procedure_values.declared.drafts.Outgoing.{Outgoing}
use Rattle.exchange_steps.specs.procedure_values.declared.drafts.Outgoing.TheVariants.{Other}
use Rattle.exchange_steps.specs.exchange_pairs.Exchange.{Answer, ExchangePdu, Question}
use Rattle.exchange_steps.specs.exchange_pairs.Lengths.{LengthPdu}
use Rattle.exchange_steps.specs.Ends.{ExchangeEnds, ends_of}
use Rattle.joint_controls.specs.phased_control.Phased.{Phased}
use Rattle.joint_controls.specs.Joint.{Clear, Control, Data, Fixed, Item, Joint, OnAir, Taken, Way}

-- a PDU of one of the exchanges
pub data AnyPdu : Type 0 where
  of_features : ExchangePdu → AnyPdu
  of_lengths : LengthPdu → AnyPdu
  of_versions : AnyPdu

-- ---- which PDU of an exchange it is

abbrev pub pdu_of_draft : Draft → Option AnyPdu
pdu_of_draft FeatureReq = Some (of_features Question)
pdu_of_draft PeripheralFeatureReq = Some (of_features Question)
pdu_of_draft FeatureRsp = Some (of_features Answer)
pdu_of_draft (LengthReq rx tx) = Some (of_lengths (record { pdu = Question; rx = rx; tx = tx }))
pdu_of_draft (LengthRsp rx tx) = Some (of_lengths (record { pdu = Answer; rx = rx; tx = tx }))
pdu_of_draft VersionInd = Some of_versions
pdu_of_draft draft = None

abbrev pub pdu_of_outgoing : Outgoing → Option AnyPdu
pdu_of_outgoing (Other draft) = pdu_of_draft draft
pdu_of_outgoing outgoing = None

abbrev pub pdu_of_item : Item → Option AnyPdu
pdu_of_item (Control outgoing ctrl) = pdu_of_outgoing outgoing
pdu_of_item Data = None

-- a PDU that was fixed or sent, and not taken
abbrev pub pdu_on : Way → Option AnyPdu
pdu_on Clear = None
pdu_on (Fixed item sealed) = pdu_of_item item
pdu_on (OnAir item sealed) = pdu_of_item item
pdu_on (Taken item) = None

-- the first PDU of an exchange of the peripheral that the central keeps
abbrev pub pdu_of_first : Ctrl → Option AnyPdu
pdu_of_first (ctrl_feature_req features) = Some (of_features Question)
pdu_of_first (ctrl_length_req rx rx_time tx tx_time) = Some (of_lengths (record { pdu = Question; rx = rx; tx = tx }))
pdu_of_first (ctrl_version_ind version company sub) = Some of_versions
pdu_of_first ctrl = None

abbrev pub pdu_kept : Option Ctrl → Option AnyPdu
pdu_kept None = None
pdu_kept (Some ctrl) = pdu_of_first ctrl

-- ---- both ends

pub record ExchangeParts : Type 0 where
  pub central : ExchangeEnds
  pub peripheral : ExchangeEnds
  -- the end has taken LL_VERSION_IND of the other
  pub central_knows : Bool
  pub peripheral_knows : Bool
  -- the PDU of each end that was fixed or sent, and not taken
  pub down : Option AnyPdu
  pub up : Option AnyPdu
  -- that of the peripheral which the central keeps
  pub kept : Option AnyPdu

abbrev pub exchanges_at : Phased → ExchangeEnds
exchanges_at s = ends_of s.control.table

abbrev pub parts_of : Joint → ExchangeParts
parts_of s =
    record {
      central = exchanges_at s.central;
      peripheral = exchanges_at s.peripheral;
      central_knows = s.central.knows_version;
      peripheral_knows = s.peripheral.knows_version;
      down = pdu_on s.down;
      up = pdu_on s.up;
      kept = pdu_kept s.central.kept;
    }
