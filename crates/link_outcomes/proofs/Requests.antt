-- The first PDUs of own procedures that wait at a peripheral, and how far its request is.
use Rattle.std.proofs.Common.{◌≡◌, ◌+◌, ◌≤◌, ℕ, ◌&&◌, not, Bool, true, false, List, [], ◌∷◌, ◌++◌, Option, Some, None, unwrap_or, option_map, if◌then◌else◌, refl, ap, ◌∙◌, arith}
use Rattle.ble_base.specs.declared.error_codes.ErrCode.{ErrCode}
use Rattle.ble_base.specs.declared.roles.Role.{Role}
use Rattle.exclusive_stages.specs.Acked.{own_acked_at_peripheral}
use Rattle.exclusive_stages.specs.Held.{own_held_at_peripheral}
use Rattle.exclusive_stages.specs.Sent.{own_sent_by_peripheral}
use Rattle.exclusive_stages.specs.declared.pdus.Pdu.{Pdu}
use Rattle.exclusive_stages.specs.declared.pdus.Pdu.TheVariants.{ParamReq, PhyReq as phy_pdu}
use Rattle.exclusive_stages.specs.declared.stages.PeripheralStage.{PeripheralStage}
use Rattle.exclusive_stages.specs.declared.stages.PeripheralStage.TheVariants.{RequestGranted, RequestSent, RequestUnsent, PhyUnsent}
use Rattle.link_model.specs.procedure_values.declared.drafts.Draft.{Draft}
use Rattle.link_model.specs.procedure_values.declared.drafts.Draft.TheVariants.{Cipher, FeatureReq, LengthReq, Map, PeripheralFeatureReq, PhyReq, Request, Update, VersionInd}
use Rattle.link_model.specs.procedure_values.declared.drafts.Outgoing.TheVariants.{Nothing, Other}
use Rattle.link_model.specs.procedure_values.declared.drafts.Rejection.{Rejection as TheRejection}
use Rattle.link_model.specs.procedure_stages.Closing.{is_disconnecting, is_open}
use Rattle.link_model.specs.procedure_stages.Exclusive.{pdu_of_draft}
use Rattle.link_model.specs.procedure_stages.Queue.{QueueFacts, next_disconnect, next_draft, next_by, with_reply}
use Rattle.link_model.specs.procedure_stages.Sent.{exchange_sent, exclusive_sent_by_peripheral, own_draft_sent_by_peripheral}
use Rattle.link_model.specs.procedure_stages.declared.closing.Closing.{Closing}
use Rattle.link_model.specs.procedure_stages.declared.reply.Reply.{Reply}
use Rattle.link_model.specs.procedure_stages.declared.reply.Reply.TheVariants.{Answer, Nothing as no_reply, Reject}
use Rattle.link_model.specs.procedure_stages.declared.stages.Exchange.{Exchange}
use Rattle.link_model.specs.procedure_stages.declared.stages.Exchange.TheVariants.{FeaturesUnsent, LengthUnsent, VersionUnsent}
use Rattle.link_model.specs.procedure_stages.declared.stages.OwnPeripheral.{OwnPeripheral}
use Rattle.link_model.specs.procedure_stages.declared.stages.OwnPeripheral.TheVariants.{Exclusive as exclusive, Exchange as exchange}
use Rattle.link_model.specs.procedures.Queue.{next_of, next_other}
use Rattle.link_model.specs.procedures.Table.{TableFacts}
use Rattle.link_model.proofs.Views.{is_ciphering}
use Rattle.link_model.proofs.table_laws.Outcomes.{is_reply, own_room, room_at_peripheral, room_of_exchange}
use Rattle.link_outcomes.proofs.Taking.{late, late_at, late_in}

-- ---- the first PDUs of own procedures that wait; a PDU that the layer above may queue is none

abbrev pub asks : Draft → Bool
asks (Update params) = true
asks (Map map) = true
asks (Request min max latency timeout) = true
asks PhyReq = true
asks FeatureReq = true
asks PeripheralFeatureReq = true
asks (LengthReq rx tx) = true
asks (Cipher ctrl) = not (is_ciphering ctrl)
asks draft = false

abbrev pub one_if : Bool → ℕ
one_if true = 1
one_if false = 0

abbrev pub number : List Draft → ℕ
number [] = 0
number (draft ∷ drafts) = one_if (asks draft) + number drafts

number_more : (drafts : List Draft) (draft : Draft) → number (drafts ++ draft ∷ []) ≡ number drafts + one_if (asks draft)
number_more [] draft = omega arith
number_more (first ∷ drafts) draft = let rest = number_more drafts draft in omega (arith, rest)

pub with_one : (opened : Bool) (queue : QueueFacts) (draft : Draft)
    → number (if opened then record queue { drafts = queue.drafts ++ draft ∷ [] } else queue).drafts ≤ number queue.drafts + one_if (asks draft)
with_one true queue draft = let more = number_more queue.drafts draft in omega (arith, more)
with_one false queue draft = omega arith

pub with_rejection : (opened : Bool) (queue : QueueFacts) (rejection : TheRejection)
    → number (if opened then record queue { rejections = queue.rejections ++ rejection ∷ [] } else queue).drafts ≤ number queue.drafts
with_rejection true queue rejection = omega arith
with_rejection false queue rejection = omega arith

pub with_end : (opened : Bool) (queue : QueueFacts) (code : ErrCode)
    → number (if opened then record queue { disconnect = Some code } else queue).drafts ≤ number queue.drafts
with_end true queue code = omega arith
with_end false queue code = omega arith

answer_apart : (role : Role) (used : Bool) (draft : Draft) → is_reply role used (Answer draft) ≡ true → one_if (asks draft) ≤ 0
answer_apart role used (Update params) is = absurd (cc)
answer_apart role used (Map map) is = absurd (cc)
answer_apart role used (Request min max latency timeout) is = absurd (cc)
answer_apart role used PhyReq is = absurd (cc)
answer_apart role used FeatureReq is = absurd (cc)
answer_apart role used PeripheralFeatureReq is = absurd (cc)
answer_apart role used (LengthReq rx tx) is = absurd (cc)
answer_apart role used (Cipher ctrl) is = absurd (cc)
answer_apart role used other is = omega arith

pub replying : (closing : Closing) (role : Role) (used : Bool) (reply : Reply) (queue : QueueFacts) → is_reply role used reply ≡ true
    → number (with_reply closing reply queue).drafts ≤ number queue.drafts
replying closing role used no_reply queue is = omega arith
replying closing role used (Reject rejection) queue is = with_rejection (is_open closing) queue rejection
replying closing role used (Answer draft) queue is =
    let more = with_one (is_open closing) queue draft in
    let none = answer_apart role used draft is in
    omega (arith, more, none)

-- ---- what a queue sends next

pub record IsFirst (drafts : List Draft) (draft : Draft) : Type 0 where
  pub rest : List Draft
  pub are : drafts ≡ draft ∷ rest

module _ (f : TableFacts) (event : ℕ) (quiet : Bool) (draft : Draft) where
  waits_or : (waits : Bool) (first : Draft) (rest : List Draft) → f.queue.drafts ≡ first ∷ rest → (if waits then Nothing else Other first) ≡ Other draft
      → IsFirst f.queue.drafts draft
  waits_or true first rest are is = absurd cc
  waits_or false first rest are is =
      let same : first ≡ draft = cc in record { rest = rest; are = are ∙ ap (λ (d : Draft). d ∷ rest) same }

  of_drafts : (drafts : List Draft) → f.queue.drafts ≡ drafts → next_draft f.progress event drafts ≡ Other draft → IsFirst f.queue.drafts draft
  of_drafts [] are is = absurd cc
  of_drafts (first ∷ rest) are is = waits_or _ first rest are is

  no_disconnect : (code : Option ErrCode) → next_disconnect code ≡ Other draft → IsFirst f.queue.drafts draft
  no_disconnect None is = absurd cc
  no_disconnect (Some code) is = absurd cc

  of_end : (ends : Bool) → (if ends then next_disconnect f.queue.disconnect else next_draft f.progress event f.queue.drafts) ≡ Other draft
      → IsFirst f.queue.drafts draft
  of_end true is = no_disconnect f.queue.disconnect is
  of_end false is = of_drafts f.queue.drafts refl is

  of_rejections : (rejections : List TheRejection) → next_by rejections (next_other f event quiet) ≡ Other draft → IsFirst f.queue.drafts draft
  of_rejections [] next = of_end (is_disconnecting f.closing && quiet) next
  of_rejections (rejection ∷ rest) next = absurd cc

  pub first_of : next_of f event quiet ≡ Other draft → IsFirst f.queue.drafts draft
  first_of is = of_rejections f.queue.rejections is

-- ---- stages

-- a first PDU waits only where that of the own procedure is unsent, and the request is at most this far
pub record Fits (n : ℕ) (f : TableFacts) : Type 0 where
  pub few : number f.queue.drafts ≤ own_room f.progress
  pub low : late_in f.progress ≤ n

pub room_low : (own : OwnPeripheral) → 1 ≤ room_at_peripheral own → late_at own ≤ 0
room_low (exclusive RequestUnsent) one = omega arith
room_low (exclusive PhyUnsent) one = omega arith
room_low (exclusive other) one = absurd (omega (arith, one))
room_low (exchange stage) one = omega arith

pub held_room : (stage : PeripheralStage) → room_at_peripheral (exclusive stage) ≤ room_at_peripheral (exclusive (own_held_at_peripheral stage))
held_room RequestGranted = omega arith
held_room stage = omega arith

pub held_late : (stage : PeripheralStage) → late (own_held_at_peripheral stage) ≤ late stage
held_late RequestGranted = omega arith
held_late stage = omega arith

pub acked_room : (pdu : Pdu) (stage : PeripheralStage)
    → room_at_peripheral (exclusive stage) ≤ room_at_peripheral (exclusive (own_acked_at_peripheral pdu stage))
acked_room ParamReq RequestSent = omega arith
acked_room pdu stage = omega arith

pub acked_late : (n : ℕ) (pdu : Pdu) (stage : PeripheralStage) → 1 ≤ n → late stage ≤ n → late (own_acked_at_peripheral pdu stage) ≤ n
acked_late n ParamReq RequestSent one less = omega (arith, one)
acked_late n pdu stage one less = less

sent_late : (pdu : Pdu) (stage : PeripheralStage) → late (unwrap_or (own_sent_by_peripheral pdu stage) stage) ≤ late stage
sent_late ParamReq RequestUnsent = omega arith
sent_late phy_pdu PhyUnsent = omega arith
sent_late pdu stage = omega arith

-- the stage after a draft was sent
abbrev after_draft : Draft → OwnPeripheral → OwnPeripheral
after_draft draft own = unwrap_or (own_draft_sent_by_peripheral draft own) own

pub draft_late : (draft : Draft) (own : OwnPeripheral) → late_at (after_draft draft own) ≤ late_at own
draft_late draft (exclusive stage) = by (pdu_of_draft draft)
  where
    by : (pdu : Option Pdu)
        → late_at (unwrap_or (option_map (λ next. exclusive next) (exclusive_sent_by_peripheral pdu stage)) (exclusive stage)) ≤ late stage
    by None = omega arith
    by (Some pdu) = inside (own_sent_by_peripheral pdu stage) (sent_late pdu stage)
      where
        inside : (next : Option PeripheralStage) → late (unwrap_or next stage) ≤ late stage
            → late_at (unwrap_or (option_map (λ next. exclusive next) next) (exclusive stage)) ≤ late stage
        inside None less = less
        inside (Some next) less = less
draft_late draft (exchange stage) = by (exchange_sent draft stage)
  where
    by : (next : Option Exchange) → late_at (unwrap_or (option_map (λ next. exchange next) next) (exchange stage)) ≤ 0
    by None = omega arith
    by (Some next) = omega arith

room_most : (own : OwnPeripheral) → room_at_peripheral own ≤ 1
room_most (exchange FeaturesUnsent) = omega arith
room_most (exchange LengthUnsent) = omega arith
room_most (exchange other) = omega arith
room_most (exclusive RequestUnsent) = omega arith
room_most (exclusive PhyUnsent) = omega arith
room_most (exclusive other) = omega arith

-- a PDU is sent that is not the first of an own procedure
other_stage : (draft : Draft) (stage : Exchange) → asks draft ≡ false
    → room_of_exchange stage ≤ room_at_peripheral (after_draft draft (exchange stage))
other_stage (Update params) stage is = absurd (cc)
other_stage (Map map) stage is = absurd (cc)
other_stage (Request min max latency timeout) stage is = absurd (cc)
other_stage PhyReq stage is = absurd (cc)
other_stage FeatureReq stage is = absurd (cc)
other_stage PeripheralFeatureReq stage is = absurd (cc)
other_stage (LengthReq rx tx) stage is = absurd (cc)
other_stage VersionInd VersionUnsent is = omega arith
other_stage VersionInd other is = omega arith
other_stage draft stage is = omega arith

other_exclusive : (draft : Draft) (stage : PeripheralStage) → asks draft ≡ false
    → room_at_peripheral (exclusive stage) ≤ room_at_peripheral (after_draft draft (exclusive stage))
other_exclusive (Update params) stage is = absurd (cc)
other_exclusive (Map map) stage is = absurd (cc)
other_exclusive (Request min max latency timeout) stage is = absurd (cc)
other_exclusive PhyReq stage is = absurd (cc)
other_exclusive FeatureReq stage is = absurd (cc)
other_exclusive PeripheralFeatureReq stage is = absurd (cc)
other_exclusive (LengthReq rx tx) stage is = absurd (cc)
other_exclusive draft stage is = omega arith

pub draft_room : (draft : Draft) (own : OwnPeripheral) → room_at_peripheral own ≤ room_at_peripheral (after_draft draft own) + one_if (asks draft)
draft_room draft own = by (asks draft) refl
  where
    stays : (own : OwnPeripheral) → asks draft ≡ false → room_at_peripheral own ≤ room_at_peripheral (after_draft draft own)
    stays (exclusive stage) is = other_exclusive draft stage is
    stays (exchange stage) is = other_stage draft stage is

    by : (b : Bool) → asks draft ≡ b → room_at_peripheral own ≤ room_at_peripheral (after_draft draft own) + one_if b
    by true is = let most = room_most own in omega (arith, most)
    by false is = let less = stays own is in omega (arith, less)
