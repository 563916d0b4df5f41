-- What a control PDU of the peer answers for the exchanges: which is completed, which is refused and why, and what is
-- known of the peer (Core 5.2, volume 6 part B, sections 5.1.4, 5.1.5 and 5.1.9).
use Rattle.std.specs.Prelude.{Bool, ◌||◌, Option, Some, None, if◌then◌else◌}
use Rattle.ble_base.specs.ErrorCodes.{unsupported_remote_feature}
use Rattle.ble_base.specs.declared.error_codes.ErrCode.{ErrCode}
use Rattle.ble_base.specs.declared.procedure_kinds.Kind.{Kind}
use Rattle.ble_base.specs.declared.procedure_kinds.Kind.TheVariants.{Features, Length, Version}
use Rattle.data_pdu.specs.declared.ctrl.Ctrl.TheVariants.{FeatureReq, FeatureRsp, PeripheralFeatureReq, RejectExtInd, RejectInd, VersionInd}
use Rattle.data_pdu.specs.declared.ctrl.CtrlRead.{CtrlRead}
use Rattle.data_pdu.specs.declared.ctrl.CtrlRead.TheVariants.{Known}
use Rattle.procedure_values.specs.declared.lengths.Lengths.{Lengths as LengthValues}
use Rattle.procedure_values.specs.Limits.{rx_of, tx_of}
use Rattle.procedure_stages.specs.declared.steps.Effect.{Effect}
use Rattle.procedure_stages.specs.declared.steps.Effect.TheVariants.{Lengths as EffectiveLengths, Nothing, PeerFeatures, PeerVersion}
use Rattle.exchange_pairs.specs.Exchange.{Answer, ExchangePdu, Question, is_question, is_sent}
use Rattle.exchange_pairs.specs.Lengths
use Rattle.exchange_pairs.specs.Lengths.{LengthPdu}
use Rattle.exchange_pairs.specs.Version.{is_done}
use Rattle.exchange_steps.specs.Ends.{ExchangeEnds}
use Rattle.exchange_steps.specs.Steps.{EndStep, is_refused, takes_features, takes_lengths, takes_version}

-- ---- of an answer of the table, what is about the exchanges

abbrev pub exchange_kind : Option Kind → Option Kind
exchange_kind (Some Features) = Some Features
exchange_kind (Some Length) = Some Length
exchange_kind (Some Version) = Some Version
exchange_kind kind = None

abbrev pub with_code : Option Kind → ErrCode → Option (Kind × ErrCode)
with_code None code = None
with_code (Some kind) code = Some (kind, code)

abbrev pub exchange_refusal : Option (Kind × ErrCode) → Option (Kind × ErrCode)
exchange_refusal None = None
exchange_refusal (Some refusal) = with_code (exchange_kind (Some refusal.0)) refusal.1

abbrev pub exchange_effect : Effect → Effect
exchange_effect (PeerFeatures features) = PeerFeatures features
exchange_effect (PeerVersion version company sub) = PeerVersion version company sub
exchange_effect (EffectiveLengths rx tx) = EffectiveLengths rx tx
exchange_effect effect = Nothing

-- ---- the exchange that a step completes

abbrev pub if_sent : Bool → Kind → Option Kind
if_sent sent kind = (if sent then Some kind else None)

abbrev pub length_completed : ExchangePdu → ExchangeEnds → Option Kind
length_completed Question e = None
length_completed Answer e = if_sent (is_sent e.lengths.own) Length

abbrev pub completed : Option EndStep → ExchangeEnds → Option Kind
completed (Some (takes_features Answer)) e = if_sent (is_sent e.features.own) Features
completed (Some (takes_lengths pdu)) e = length_completed pdu.pdu e
completed (Some takes_version) e = if_sent (is_done e.versions) Version
completed step e = None

-- ---- the exchange that it refuses, and why

abbrev pub sent_exchange : ExchangeEnds → Option Kind
sent_exchange e =
    (if is_sent e.features.own then Some Features
    else (if is_sent e.lengths.own then Some Length else if_sent (is_sent e.versions.own) Version))

abbrev pub refusal_code : CtrlRead → ErrCode
refusal_code (Known (RejectInd code)) = record { 0 = code }
refusal_code (Known (RejectExtInd opcode code)) = record { 0 = code }
refusal_code read = record { 0 = unsupported_remote_feature }

abbrev pub refused_by : Option EndStep → CtrlRead → ExchangeEnds → Option (Kind × ErrCode)
refused_by (Some is_refused) read e = with_code (sent_exchange e) (refusal_code read)
refused_by step read e = None

-- ---- what is known of the peer then

abbrev pub features_in : CtrlRead → Effect
features_in (Known (FeatureReq features)) = PeerFeatures features
features_in (Known (PeripheralFeatureReq features)) = PeerFeatures features
features_in (Known (FeatureRsp features)) = PeerFeatures features
features_in read = Nothing

abbrev pub version_in : CtrlRead → Effect
version_in (Known (VersionInd version company sub)) = PeerVersion version company sub
version_in read = Nothing

-- the effective lengths
abbrev pub effective : LengthValues → Effect
effective lengths = EffectiveLengths (rx_of lengths) (tx_of lengths)

abbrev pub if_awaited : Bool → Effect → Effect
if_awaited awaited effect = (if awaited then effect else Nothing)

abbrev pub known_by : Option EndStep → CtrlRead → ExchangeEnds → Effect
known_by (Some (takes_features Question)) read e = features_in read
known_by (Some (takes_features Answer)) read e = if_awaited (is_sent e.features.own) (features_in read)
known_by (Some (takes_lengths pdu)) read e =
    if_awaited (is_question pdu.pdu || is_sent e.lengths.own) (effective (Lengths.taken pdu e.lengths).lengths)
known_by (Some takes_version) read e = version_in read
known_by step read e = Nothing
