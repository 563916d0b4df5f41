-- What the machines of exchanges see of a table of procedures: the exchange of features, that of lengths and that of
-- versions at this end, and nothing of the other procedures (Core 5.2, volume 6 part B, sections 5.1.4, 5.1.5 and
-- 5.1.9).
use Rattle.std.specs.Prelude.{ℕ, ◌+◌, Bool, true, false, not, List, [], ◌∷◌, Option, Some, None, if◌then◌else◌}
use Rattle.ble_base.specs.declared.procedure_kinds.Kind.TheVariants.{Version}
use Rattle.procedure_values.specs.declared.asks.Ask.{Ask}
use Rattle.procedure_values.specs.declared.drafts.Draft.{Draft}
use Rattle.procedure_values.specs.declared.drafts.Draft.TheVariants.{FeatureReq, PeripheralFeatureReq, FeatureRsp, LengthReq, LengthRsp, VersionInd}
use Rattle.procedure_values.specs.declared.lengths.Lengths.{Lengths}
use Rattle.procedure_values.specs.Wants.{count_of}
use Rattle.procedure_stages.specs.declared.stages.Exchange.{Exchange}
use Rattle.procedure_stages.specs.declared.stages.Exchange.TheVariants.{FeaturesUnsent, FeaturesSent, VersionUnsent, VersionSent, LengthUnsent, LengthSent}
use Rattle.procedure_stages.specs.Closing.{is_open}
use Rattle.procedure_stages.specs.Kinds.{own_exchange}
use Rattle.procedures.specs.Table.{TableFacts}
use Rattle.exchange_pairs.specs.Exchange.{Answer, ExchangeEnd, ExchangePdu, ExchangeStage, Idle, Question, Sent, Unsent, count_if, is_idle}
use Rattle.exchange_pairs.specs.Lengths.{LengthEnd, LengthPdu}
use Rattle.exchange_pairs.specs.Version.{VersionEnd}

-- ---- how far the own exchange is; one of another kind, or another procedure, counts as none

abbrev pub features_stage : Option Exchange → ExchangeStage
features_stage (Some FeaturesUnsent) = Unsent
features_stage (Some FeaturesSent) = Sent
features_stage own = Idle

abbrev pub lengths_stage : Option Exchange → ExchangeStage
lengths_stage (Some LengthUnsent) = Unsent
lengths_stage (Some LengthSent) = Sent
lengths_stage own = Idle

abbrev pub version_stage : Option Exchange → ExchangeStage
version_stage (Some VersionUnsent) = Unsent
version_stage (Some VersionSent) = Sent
version_stage own = Idle

-- ---- the PDUs that wait

abbrev pub features_pdu : Draft → Option ExchangePdu
features_pdu FeatureReq = Some Question
features_pdu PeripheralFeatureReq = Some Question
features_pdu FeatureRsp = Some Answer
features_pdu draft = None

abbrev pub lengths_pdu : Draft → Option LengthPdu
lengths_pdu (LengthReq rx tx) = Some (record { pdu = Question; rx = rx; tx = tx })
lengths_pdu (LengthRsp rx tx) = Some (record { pdu = Answer; rx = rx; tx = tx })
lengths_pdu draft = None

abbrev pub is_version_pdu : Draft → Bool
is_version_pdu VersionInd = true
is_version_pdu draft = false

module _ {A : Type 0} where
  abbrev pub with_pdu : Option A → List A → List A
  with_pdu None more = more
  with_pdu (Some pdu) more = pdu ∷ more

  -- a queue without the PDUs of other procedures
  abbrev pub pdus_of : (Draft → Option A) → List Draft → List A
  pdus_of part [] = []
  pdus_of part (draft ∷ drafts) = with_pdu (part draft) (pdus_of part drafts)

abbrev pub versions_waiting : List Draft → ℕ
versions_waiting [] = 0
versions_waiting (draft ∷ drafts) =
    (if is_version_pdu draft then versions_waiting drafts + 1 else versions_waiting drafts)

-- ---- the table

pub record ExchangeEnds : Type 0 where
  pub features : ExchangeEnd
  pub lengths : LengthEnd
  pub versions : VersionEnd

abbrev pub ends_by : Option Exchange → List Ask → Bool → Lengths → Bool → List Draft → ExchangeEnds
ends_by own wanted used lengths is_open drafts =
    record {
      features = record { own = features_stage own; queue = pdus_of features_pdu drafts; closed = not is_open };
      lengths =
          record {
            own = lengths_stage own;
            lengths = lengths;
            queue = pdus_of lengths_pdu drafts;
            closed = not is_open;
          };
      versions =
          record {
            own = version_stage own;
            wanted = count_of Version wanted;
            used = used;
            waiting = versions_waiting drafts;
            closed = not is_open;
          };
    }

abbrev pub ends_of : TableFacts → ExchangeEnds
ends_of f = ends_by (own_exchange f.progress) f.wanted f.version_used f.lengths (is_open f.closing) f.queue.drafts

-- how many exchanges of its own an end runs
abbrev pub exchanges_running : ExchangeEnds → ℕ
exchanges_running e =
    count_if (not (is_idle e.features.own)) + count_if (not (is_idle e.lengths.own))
    + count_if (not (is_idle e.versions.own))
