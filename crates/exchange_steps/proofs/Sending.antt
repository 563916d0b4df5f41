-- A PDU is sent: the step of the exchanges that it is.
use Rattle.std.proofs.Common.{◌≡◌, ℕ, ◌+◌, ◌-◌, ◌==◌, Bool, true, false, not, ◌&&◌, List, [], ◌∷◌, Option, Some, None, unwrap_or, refl, ap, ◌∙◌, eqb-true, arith, option_map}
use Rattle.ble_base.specs.declared.error_codes.ErrCode.{ErrCode}
use Rattle.procedure_values.specs.declared.drafts.Draft.{Draft}
use Rattle.procedure_values.specs.declared.drafts.Draft.TheVariants.{Cipher, FeatureReq, FeatureRsp, Grant, LengthReq, LengthRsp, Map, PeripheralFeatureReq, PhyInd, PhyReq, PhyRsp, Request, UnknownRsp, Update, VersionInd}
use Rattle.procedure_values.specs.declared.drafts.Rejection.{Rejection}
use Rattle.procedure_values.specs.Drafts.{waits_for_instant}
use Rattle.procedure_stages.specs.declared.stages.Exchange.{Exchange}
use Rattle.procedure_stages.specs.declared.stages.Exchange.TheVariants.{FeaturesUnsent, FeaturesSent, VersionUnsent, VersionSent, LengthUnsent, LengthSent}
use Rattle.procedure_stages.specs.declared.stages.OwnCentral.{OwnCentral}
use Rattle.procedure_stages.specs.declared.stages.OwnCentral.TheVariants.{Exclusive as exclusive, EncryptSent, EncryptUnsent, Exchange as exchange}
use Rattle.exclusive_stages.specs.declared.stages.CentralStage.{CentralStage}
use Rattle.procedure_stages.specs.declared.stages.OwnPeripheral.{OwnPeripheral}
use Rattle.procedure_stages.specs.declared.stages.OwnPeripheral.TheVariants.{Exclusive as exclusive_p, Exchange as exchange_p}
use Rattle.exclusive_stages.specs.declared.stages.PeripheralStage.{PeripheralStage}
use Rattle.procedure_stages.specs.declared.stages.Progress.{Progress}
use Rattle.procedure_stages.specs.declared.stages.Progress.TheVariants.{Central as central, Peripheral as peripheral}
use Rattle.procedure_stages.specs.Closing.{is_disconnecting, is_open}
use Rattle.procedure_stages.specs.Kinds.{exchange_at_central, exchange_at_peripheral, own_exchange}
use Rattle.procedure_stages.specs.Queue.{is_past_instant, next_draft}
use Rattle.procedure_stages.specs.Sent.{exchange_sent, own_draft_sent_by_central, own_draft_sent_by_peripheral, progress_after_draft}
use Rattle.procedures.specs.Queue.{next_of}
use Rattle.procedures.specs.Sending.{facts_sent, went_step}
use Rattle.procedures.specs.Table.{TableFacts}
use Rattle.exchange_steps.specs.Ends.{ExchangeEnds, ends_by, ends_of, versions_waiting}
use Rattle.exchange_steps.specs.Steps.{MayCome, after_steps, step_of_draft, step_of_sent}

-- the own exchange after a draft was sent
abbrev exchange_after : Draft → Option Exchange → Option Exchange
exchange_after d None = None
exchange_after d (Some stage) = Some (unwrap_or (exchange_sent d stage) stage)

-- ---- one of its stages, by draft

stage_goes : (next : Option Exchange) (stage : Exchange)
    → exchange_at_central (unwrap_or (option_map (λ (s : Exchange). exchange s) next) (exchange stage)) ≡ Some (unwrap_or next stage)
stage_goes None stage = refl
stage_goes (Some next) stage = refl

stage_goes_p : (next : Option Exchange) (stage : Exchange)
    → exchange_at_peripheral (unwrap_or (option_map (λ (s : Exchange). exchange_p s) next) (exchange_p stage)) ≡ Some (unwrap_or next stage)
stage_goes_p None stage = refl
stage_goes_p (Some next) stage = refl

other_goes : (next : Option CentralStage) (stage : CentralStage)
    → exchange_at_central (unwrap_or (option_map (λ (s : CentralStage). exclusive s) next) (exclusive stage)) ≡ None
other_goes None stage = refl
other_goes (Some next) stage = refl

other_goes_p : (next : Option PeripheralStage) (stage : PeripheralStage)
    → exchange_at_peripheral (unwrap_or (option_map (λ (s : PeripheralStage). exclusive_p s) next) (exclusive_p stage)) ≡ None
other_goes_p None stage = refl
other_goes_p (Some next) stage = refl

own_after : (d : Draft) (own : OwnCentral) → exchange_at_central (unwrap_or (own_draft_sent_by_central d own) own) ≡ exchange_after d (exchange_at_central own)
own_after d (exchange stage) = stage_goes (exchange_sent d stage) stage
own_after d (exclusive stage) = other_goes _ stage
own_after (Cipher ctrl) own = refl
own_after d own = refl

own_after_p : (d : Draft) (own : OwnPeripheral) → exchange_at_peripheral (unwrap_or (own_draft_sent_by_peripheral d own) own) ≡ exchange_after d (exchange_at_peripheral own)
own_after_p d (exchange_p stage) = stage_goes_p (exchange_sent d stage) stage
own_after_p d (exclusive_p stage) = other_goes_p _ stage

progress_after : (d : Draft) (event skips : ℕ) (p : Progress) → own_exchange (progress_after_draft d event skips p) ≡ exchange_after d (own_exchange p)
progress_after d event skips (central c) = own_after d c.own
progress_after d event skips (peripheral p) = own_after_p d p.own

-- ---- the ends

module _ (f : TableFacts) where
  abbrev at : Option Exchange → List Draft → ExchangeEnds
  at own drafts = ends_by own f.wanted f.version_used f.lengths (is_open f.closing) drafts

  one_less : (n : ℕ) → n ≡ n + 1 - 1
  one_less n = omega arith

  -- a draft that begins no exchange leaves the own one
  after_none : (d : Draft) → ((stage : Exchange) → exchange_sent d stage ≡ None) → (own : Option Exchange) → exchange_after d own ≡ own
  after_none d none None = refl
  after_none d none (Some stage) = ap (λ next. Some (unwrap_or next stage)) (none stage)

  features_sent : (own : Option Exchange) (rest : List Draft) → at (exchange_after FeatureReq own) rest ≡ after_steps (step_of_draft FeatureReq) (at own (FeatureReq ∷ rest))
  features_sent (Some FeaturesUnsent) rest = refl
  features_sent (Some FeaturesSent) rest = refl
  features_sent (Some VersionUnsent) rest = refl
  features_sent (Some VersionSent) rest = refl
  features_sent (Some LengthUnsent) rest = refl
  features_sent (Some LengthSent) rest = refl
  features_sent None rest = refl

  features_sent_up : (own : Option Exchange) (rest : List Draft)
      → at (exchange_after PeripheralFeatureReq own) rest ≡ after_steps (step_of_draft PeripheralFeatureReq) (at own (PeripheralFeatureReq ∷ rest))
  features_sent_up (Some FeaturesUnsent) rest = refl
  features_sent_up (Some FeaturesSent) rest = refl
  features_sent_up (Some VersionUnsent) rest = refl
  features_sent_up (Some VersionSent) rest = refl
  features_sent_up (Some LengthUnsent) rest = refl
  features_sent_up (Some LengthSent) rest = refl
  features_sent_up None rest = refl

  length_sent : (rx tx : ℕ) (own : Option Exchange) (rest : List Draft)
      → at (exchange_after (LengthReq rx tx) own) rest ≡ after_steps (step_of_draft (LengthReq rx tx)) (at own (LengthReq rx tx ∷ rest))
  length_sent rx tx (Some FeaturesUnsent) rest = refl
  length_sent rx tx (Some FeaturesSent) rest = refl
  length_sent rx tx (Some VersionUnsent) rest = refl
  length_sent rx tx (Some VersionSent) rest = refl
  length_sent rx tx (Some LengthUnsent) rest = refl
  length_sent rx tx (Some LengthSent) rest = refl
  length_sent rx tx None rest = refl

  abbrev counted : ExchangeEnds → (n : ℕ) → ExchangeEnds
  counted e n = record e { versions = record e.versions { waiting = n } }

  version_sent : (own : Option Exchange) (rest : List Draft) → at (exchange_after VersionInd own) rest ≡ after_steps (step_of_draft VersionInd) (at own (VersionInd ∷ rest))
  version_sent (Some FeaturesUnsent) rest = λ i. counted (at (Some FeaturesUnsent) rest) (one_less (versions_waiting rest) i)
  version_sent (Some FeaturesSent) rest = λ i. counted (at (Some FeaturesSent) rest) (one_less (versions_waiting rest) i)
  version_sent (Some VersionUnsent) rest = λ i. counted (at (Some VersionSent) rest) (one_less (versions_waiting rest) i)
  version_sent (Some VersionSent) rest = λ i. counted (at (Some VersionSent) rest) (one_less (versions_waiting rest) i)
  version_sent (Some LengthUnsent) rest = λ i. counted (at (Some LengthUnsent) rest) (one_less (versions_waiting rest) i)
  version_sent (Some LengthSent) rest = λ i. counted (at (Some LengthSent) rest) (one_less (versions_waiting rest) i)
  version_sent None rest = λ i. counted (at None rest) (one_less (versions_waiting rest) i)

  -- a draft leaves the queue, whatever the own exchange is
  sent_with : (d : Draft) (own : Option Exchange) (rest : List Draft) → at (exchange_after d own) rest ≡ after_steps (step_of_draft d) (at own (d ∷ rest))
  sent_with FeatureReq own rest = features_sent own rest
  sent_with PeripheralFeatureReq own rest = features_sent_up own rest
  sent_with VersionInd own rest = version_sent own rest
  sent_with (LengthReq rx tx) own rest = length_sent rx tx own rest
  sent_with FeatureRsp own rest = λ i. at (after_none FeatureRsp (λ stage. refl) own i) rest
  sent_with (LengthRsp rx tx) own rest = λ i. at (after_none (LengthRsp rx tx) (λ stage. refl) own i) rest
  sent_with (UnknownRsp opcode) own rest = λ i. at (after_none (UnknownRsp opcode) (λ stage. refl) own i) rest
  sent_with (Cipher ctrl) own rest = λ i. at (after_none (Cipher ctrl) (λ stage. refl) own i) rest
  sent_with (Update params) own rest = λ i. at (after_none (Update params) (λ stage. refl) own i) rest
  sent_with (Grant params) own rest = λ i. at (after_none (Grant params) (λ stage. refl) own i) rest
  sent_with (Map map) own rest = λ i. at (after_none (Map map) (λ stage. refl) own i) rest
  sent_with (Request min max latency timeout) own rest = λ i. at (after_none (Request min max latency timeout) (λ stage. refl) own i) rest
  sent_with PhyReq own rest = λ i. at (after_none PhyReq (λ stage. refl) own i) rest
  sent_with PhyRsp own rest = λ i. at (after_none PhyRsp (λ stage. refl) own i) rest
  sent_with PhyInd own rest = λ i. at (after_none PhyInd (λ stage. refl) own i) rest

  draft_sent : (d : Draft) (event skips : ℕ) (rest : List Draft)
      → at (own_exchange (progress_after_draft d event skips f.progress)) rest ≡ after_steps (step_of_draft d) (at (own_exchange f.progress) (d ∷ rest))
  draft_sent d event skips rest = (λ i. at (progress_after d event skips f.progress i) rest) ∙ sent_with d (own_exchange f.progress) rest

  -- ---- what goes next

  abbrev with_queue : List Rejection → Option ErrCode → List Draft → TableFacts
  with_queue rs disconnect ds = record f { queue = record { rejections = rs; disconnect = disconnect; drafts = ds } }

  sends_draft : (disconnect : Option ErrCode) (ds : List Draft) (event skips slot : ℕ)
      → ends_of (facts_sent (with_queue [] disconnect ds) (next_draft f.progress event ds) event skips slot)
      ≡ after_steps (step_of_sent (next_draft f.progress event ds)) (ends_of (with_queue [] disconnect ds))
  sends_draft disconnect [] event skips slot = refl
  sends_draft disconnect (d ∷ rest) event skips slot = by (waits_for_instant d && not (is_past_instant f.progress event)) refl
    where
      by : (held : Bool) → (waits_for_instant d && not (is_past_instant f.progress event)) ≡ held
          → ends_of (facts_sent (with_queue [] disconnect (d ∷ rest)) (next_draft f.progress event (d ∷ rest)) event skips slot)
          ≡ after_steps (step_of_sent (next_draft f.progress event (d ∷ rest))) (ends_of (with_queue [] disconnect (d ∷ rest)))
      by true is = rw is refl
      by false is = rw is (draft_sent d event skips rest)

  sends_at : (rs : List Rejection) (disconnect : Option ErrCode) (ds : List Draft) (event skips slot : ℕ) (quiet : Bool)
      → ends_of (went_step (with_queue rs disconnect ds) event skips quiet slot).0
      ≡ after_steps (step_of_sent (next_of (with_queue rs disconnect ds) event quiet)) (ends_of (with_queue rs disconnect ds))
  sends_at (r ∷ rest) disconnect ds event skips slot quiet = refl
  sends_at [] disconnect ds event skips slot quiet = by (is_disconnecting f.closing && quiet) disconnect refl
    where
      by : (b : Bool) (x : Option ErrCode) → (is_disconnecting f.closing && quiet) ≡ b
          → ends_of (went_step (with_queue [] x ds) event skips quiet slot).0
          ≡ after_steps (step_of_sent (next_of (with_queue [] x ds) event quiet)) (ends_of (with_queue [] x ds))
      by true None is = rw is refl
      by true (Some code) is = rw is refl
      by false x is = rw is (sends_draft x ds event skips slot)

  pub sends_one : (event skips slot : ℕ) (quiet : Bool) → ends_of (went_step f event skips quiet slot).0 ≡ after_steps (step_of_sent (next_of f event quiet)) (ends_of f)
  sends_one event skips slot quiet = sends_at f.queue.rejections f.queue.disconnect f.queue.drafts event skips slot quiet

  -- ---- what is sent is the first that waits

  some_waits : (n : ℕ) → (n + 1 == 0) ≡ false
  some_waits n = by (n + 1 == 0) refl
    where
      by : (b : Bool) → (n + 1 == 0) ≡ b → b ≡ false
      by false e = refl
      by true e = let h = eqb-true (n + 1) 0 e in absurd (omega (arith, h))

  first_draft_waits : (d : Draft) (rest : List Draft) (own : Option Exchange) → MayCome (step_of_draft d) (at own (d ∷ rest))
  first_draft_waits FeatureReq rest own = refl
  first_draft_waits PeripheralFeatureReq rest own = refl
  first_draft_waits FeatureRsp rest own = refl
  first_draft_waits (LengthReq rx tx) rest own = refl
  first_draft_waits (LengthRsp rx tx) rest own = refl
  first_draft_waits VersionInd rest own = some_waits (versions_waiting rest)
  first_draft_waits d rest own = tt

  next_draft_waits : (disconnect : Option ErrCode) (ds : List Draft) (event : ℕ)
      → MayCome (step_of_sent (next_draft f.progress event ds)) (ends_of (with_queue [] disconnect ds))
  next_draft_waits disconnect [] event = tt
  next_draft_waits disconnect (d ∷ rest) event = by (waits_for_instant d && not (is_past_instant f.progress event)) refl
    where
      by : (held : Bool) → (waits_for_instant d && not (is_past_instant f.progress event)) ≡ held
          → MayCome (step_of_sent (next_draft f.progress event (d ∷ rest))) (ends_of (with_queue [] disconnect (d ∷ rest)))
      by true is = rw is tt
      by false is = rw is (first_draft_waits d rest (own_exchange f.progress))

  waits_at : (rs : List Rejection) (disconnect : Option ErrCode) (ds : List Draft) (event : ℕ) (quiet : Bool)
      → MayCome (step_of_sent (next_of (with_queue rs disconnect ds) event quiet)) (ends_of (with_queue rs disconnect ds))
  waits_at (r ∷ rest) disconnect ds event quiet = tt
  waits_at [] disconnect ds event quiet = by (is_disconnecting f.closing && quiet) disconnect refl
    where
      by : (b : Bool) (x : Option ErrCode) → (is_disconnecting f.closing && quiet) ≡ b
          → MayCome (step_of_sent (next_of (with_queue [] x ds) event quiet)) (ends_of (with_queue [] x ds))
      by true None is = rw is tt
      by true (Some code) is = rw is tt
      by false x is = rw is (next_draft_waits x ds event)

  pub may_send_one : (event : ℕ) (quiet : Bool) → MayCome (step_of_sent (next_of f event quiet)) (ends_of f)
  may_send_one event quiet = waits_at f.queue.rejections f.queue.disconnect f.queue.drafts event quiet
