-- The values of one end that control PDUs carry are in their ranges and fit the octets of the PDUs (Core 5.2, volume 6
-- part B, sections 2.4.2, 4.5.1, 4.5.2, 4.5.8.1 and 4.5.10).
use Rattle.std.specs.Prelude.{ℕ, ◌^◌, ◌<◌, ◌≤◌, Ok, Err, IfSome, ⊤}
use Rattle.std.specs.List.{All}
use Rattle.ble_base.specs.ChannelMap.{IsMap}
use Rattle.ble_base.specs.declared.error_codes.ErrCode.{ErrCode}
use Rattle.data_pdu.specs.Layouts.{IsCtrl}
use Rattle.data_pdu.specs.declared.ctrl.CtrlRead.{CtrlRead}
use Rattle.data_pdu.specs.declared.ctrl.CtrlRead.TheVariants.{Known, Unknown, Bare}
use Rattle.instants.specs.Track.{TrackFacts}
use Rattle.instants.specs.declared.indications.Indication.{Indication}
use Rattle.instants.specs.declared.indications.Indication.TheVariants.{Update as update_indication}
use Rattle.instants.specs.declared.indications.Indication.TheVariants.{Map as map_indication}
use Rattle.instants.specs.declared.indications.Params.{Params}
use Rattle.control_model.specs.procedure_values.Drafts.{ctrl_of_draft}
use Rattle.control_model.specs.procedure_values.Values.{IsPayloadMax}
use Rattle.control_model.specs.procedure_values.Wants.{IsAsk}
use Rattle.control_model.specs.procedure_values.declared.asks.Ask.{Ask}
use Rattle.control_model.specs.procedure_values.declared.asks.Ask.TheVariants.{Request, Map, Encrypt}
use Rattle.control_model.specs.procedure_values.declared.drafts.Draft.{Draft}
use Rattle.control_model.specs.procedure_values.declared.drafts.Rejection.{Rejection}
use Rattle.control_model.specs.procedure_values.declared.lengths.Lengths.{Lengths}
use Rattle.control_model.specs.procedure_stages.Queue.{QueueFacts}
use Rattle.control_model.specs.procedures.Table.{TableFacts}
use Rattle.control_model.specs.Control.{Control, Step, Asks, Answers, Disconnects, Takes, Owes}

-- ---- what waits to be sent

-- an error code has one octet (volume 1 part F)
abbrev pub CodeFits : ErrCode → Type 0
CodeFits code = code.0 < 256

-- LL_REJECT_EXT_IND has an octet for the opcode and one for the error code (section 2.4.2.18)
pub record RejectionFits (rejection : Rejection) : Type 0 where
  pub opcode : rejection.opcode < 256
  pub code : CodeFits rejection.code

-- in whatever event it is first sent, and with any latency, the PDU of a draft fits its octets (section 2.4.2)
abbrev pub DraftFits : Draft → Type 0
DraftFits draft = (event skips : ℕ) → IsCtrl (ctrl_of_draft draft event skips)

-- all that waits to be sent fits (section 2.4.2)
pub record QueueFits (queue : QueueFacts) : Type 0 where
  pub rejections : All RejectionFits queue.rejections
  pub disconnect : IfSome queue.disconnect CodeFits
  pub drafts : All DraftFits queue.drafts

-- ---- what the host asks

-- the numbers of a request have two octets each, in whatever ranges: its receiver judges those (section 2.4.2.16)
pub record RequestFits (min max latency timeout : ℕ) : Type 0 where
  pub min_fits : min < 2 ^ 16
  pub max_fits : max < 2 ^ 16
  pub latency_fits : latency < 2 ^ 16
  pub timeout_fits : timeout < 2 ^ 16

-- the numbers of LL_ENC_REQ have eight, two, eight and four octets; the long term key is in no PDU (section 2.4.2.4)
pub record EncryptFits (rand ediv skd_m iv_m : ℕ) : Type 0 where
  pub rand_fits : rand < 2 ^ 64
  pub ediv_fits : ediv < 2 ^ 16
  pub skd_fits : skd_m < 2 ^ 64
  pub iv_fits : iv_m < 2 ^ 32

-- the values of an ask fit its first PDU; `IsAsk` says so of all but requests, maps and encryption (sections 2.4.2.1,
-- 2.4.2.2, 2.4.2.4, 2.4.2.16 and 2.4.2.21)
abbrev pub AskFits : Ask → Type 0
AskFits (Request min max latency timeout) = RequestFits min max latency timeout
AskFits (Map map) = IsMap map
AskFits (Encrypt rand ediv ltk skd_m iv_m) = EncryptFits rand ediv skd_m iv_m
AskFits other = IsAsk other

-- ---- the table and the parameters of an end

-- the most octets of a payload that this end receives and transmits (section 4.5.10)
pub record LengthsFit (lengths : Lengths) : Type 0 where
  pub own_rx : IsPayloadMax lengths.own_rx
  pub own_tx : IsPayloadMax lengths.own_tx

-- what waits, what the host wants and the longest payloads (section 2.4.2)
pub record TableFits (table : TableFacts) : Type 0 where
  pub queue : QueueFits table.queue
  pub wanted : All AskFits table.wanted
  pub lengths : LengthsFit table.lengths

-- an interval of at most 4 s, a latency of at most 499 events, a timeout of at most 32 s (sections 4.5.1 and 4.5.2)
pub record TimesFit (interval latency timeout : ℕ) : Type 0 where
  pub interval_to : interval ≤ 3200
  pub latency_to : latency ≤ 499
  pub timeout_to : timeout ≤ 3200

-- the parameters of a link, with a map of its channels (sections 4.5.1, 4.5.2 and 4.5.8.1)
pub record ParamsFit (params : Params) : Type 0 where
  pub times : TimesFit params.interval params.latency params.timeout
  pub channels : IsMap params.map

-- the parameters that an indication sets (sections 2.4.2.1 and 2.4.2.2)
abbrev pub IndicationFits : Indication → Type 0
IndicationFits (update_indication win_offset interval latency timeout instant) = TimesFit interval latency timeout
IndicationFits (map_indication map instant) = IsMap map

-- the parameters in force, and those of the indication that waits (section 5.5)
pub record TrackFits (track : TrackFacts) : Type 0 where
  pub params : ParamsFit track.params
  pub waits : IfSome track.waits (λ change. IndicationFits change.indication)

-- all values of an end that a control PDU carries, now or later (section 2.4.2)
pub record FitsOctets (c : Control) : Type 0 where
  pub table : TableFits c.table
  pub track : TrackFits c.track

-- ---- what comes in a step

-- what was read is a control PDU whose fields fit, or an opcode of one octet (section 2.4.2)
abbrev pub ReadFits : CtrlRead → Type 0
ReadFits (Known ctrl) = IsCtrl ctrl
ReadFits (Unknown opcode) = opcode < 256
ReadFits Bare = ⊤

-- what the host, the layer above and the peer give in a step fits; of the others nothing is asked (section 2.4.2)
abbrev pub StepFits : Step → Type 0
StepFits (Asks ask) = AskFits ask
StepFits (Answers (Ok ask)) = IsAsk ask
StepFits (Answers (Err code)) = CodeFits code
StepFits (Disconnects reason) = CodeFits reason
StepFits (Takes read slot quiet) = ReadFits read
StepFits (Owes ctrl) = IsCtrl ctrl
StepFits other = ⊤
