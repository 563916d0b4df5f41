-- A procedure begins: the step of the exchanges that it is, and that the exchange may begin.
use Rattle.std.proofs.Common.{◌≡◌, ℕ, ◌+◌, ◌-◌, ◌==◌, Bool, true, false, not, ◌&&◌, ◌||◌, List, [], ◌∷◌, ◌++◌, Option, Some, None, is_none, remove, slice_get, position, if◌then◌else◌, refl, ap, sym, ◌∙◌, subst, eqb-true, arith}
use Rattle.std.proofs.lemmas.Bool.{and_parts}
use Rattle.std.proofs.lemmas.List.Quantifiers.{position-Some}
use Rattle.std.proofs.lemmas.Option.{get_or_from_slice_get}
use Rattle.ble_base.specs.declared.roles.Role.{Role}
use Rattle.ble_base.specs.declared.roles.Role.TheVariants.{Central as CentralRole, Peripheral as PeripheralRole}
use Rattle.ble_base.specs.declared.procedure_kinds.Kind.TheVariants.{Version}
use Rattle.procedure_values.specs.declared.asks.Ask.{Ask}
use Rattle.procedure_values.specs.declared.asks.Ask.TheVariants.{Update as ask_update, Request as ask_request, Map as ask_map, Phy as ask_phy, Features as ask_features, Version as ask_version, Length as ask_length, Encrypt as ask_encrypt}
use Rattle.procedure_values.specs.declared.drafts.Draft.{Draft}
use Rattle.procedure_values.specs.declared.drafts.Draft.TheVariants.{FeatureReq, LengthReq, Map, PeripheralFeatureReq, PhyReq, Request, Update, VersionInd}
use Rattle.procedure_values.specs.Asks.{is_same_kind, kind_of_ask}
use Rattle.procedure_values.specs.Wants.{count_of}
use Rattle.procedure_values.proofs.Counts.{count-removed}
use Rattle.procedure_stages.specs.declared.closing.Closing.{Closing}
use Rattle.procedure_stages.specs.declared.closing.Closing.TheVariants.{Open, Closed, Disconnecting}
use Rattle.procedure_stages.specs.declared.stages.Exchange.{Exchange}
use Rattle.procedure_stages.specs.declared.stages.Exchange.TheVariants.{FeaturesUnsent, LengthUnsent, VersionUnsent}
use Rattle.procedure_stages.specs.declared.stages.OwnCentral.{OwnCentral}
use Rattle.procedure_stages.specs.declared.stages.OwnCentral.TheVariants.{Exchange as exchange}
use Rattle.procedure_stages.specs.declared.stages.OwnPeripheral.{OwnPeripheral}
use Rattle.procedure_stages.specs.declared.stages.OwnPeripheral.TheVariants.{Exchange as exchange_p}
use Rattle.procedure_stages.specs.declared.stages.Progress.{Progress}
use Rattle.procedure_stages.specs.declared.stages.Progress.TheVariants.{Central as central, Peripheral as peripheral}
use Rattle.procedure_stages.specs.Begun.{feature_draft, progress_begun, version_draft, version_stage}
use Rattle.procedure_stages.specs.Closing.{is_open}
use Rattle.procedure_stages.specs.Kinds.{begins, exchange_at_central, exchange_at_peripheral, kind_at_central, kind_at_peripheral, own_exchange, own_kind, role_of}
use Rattle.procedures.specs.Beginning.{ask_at, begin_at, begin_step, facts_begun, first_draft, is_ready, is_version, may_begin, place_to_begin, with_first_draft}
use Rattle.procedures.specs.Table.{TableFacts}
use Rattle.exchange_pairs.specs.Exchange
use Rattle.exchange_pairs.specs.Exchange.{Question}
use Rattle.exchange_steps.specs.Ends
use Rattle.exchange_steps.specs.Ends.{ExchangeEnds, ends_by, ends_of, features_pdu, features_stage, is_version_pdu, lengths_pdu, lengths_stage, pdus_of, versions_waiting}
use Rattle.exchange_steps.specs.Steps.{MayCome, after_step, after_steps, begins_features, begins_lengths, begins_version, step_of_begun}
use Rattle.exchange_steps.proofs.Queues.{count_pushed, pdus_more, push, waiting_more}

-- ---- an end that runs no procedure

idle_central : (own : OwnCentral) → is_none (kind_at_central own) ≡ true → exchange_at_central own ≡ None
idle_central (exchange stage) is = absurd (cc)
idle_central own is = refl

idle_peripheral : (own : OwnPeripheral) → is_none (kind_at_peripheral own) ≡ true → exchange_at_peripheral own ≡ None
idle_peripheral (exchange_p stage) is = absurd (cc)
idle_peripheral own is = refl

no_exchange : (p : Progress) → is_none (own_kind p) ≡ true → own_exchange p ≡ None
no_exchange (central c) is = idle_central c.own is
no_exchange (peripheral p) is = idle_peripheral p.own is

-- the own exchange after one began
abbrev exchange_begun : Ask → Bool → Option Exchange
exchange_begun ask_features used = Some FeaturesUnsent
exchange_begun ask_version used = Some (version_stage used)
exchange_begun (ask_length tx) used = Some LengthUnsent
exchange_begun ask used = None

begun_exchange : (ask : Ask) (used : Bool) (p : Progress) → own_exchange p ≡ None → own_exchange (progress_begun ask used p) ≡ exchange_begun ask used
begun_exchange ask_features used (central c) is = refl
begun_exchange ask_version used (central c) is = refl
begun_exchange (ask_length tx) used (central c) is = refl
begun_exchange (ask_request min max latency timeout) used (central c) is = is
begun_exchange ask used (central c) is = refl
begun_exchange ask_features used (peripheral p) is = refl
begun_exchange ask_version used (peripheral p) is = refl
begun_exchange (ask_length tx) used (peripheral p) is = refl
begun_exchange (ask_update interval latency timeout) used (peripheral p) is = is
begun_exchange (ask_map map) used (peripheral p) is = is
begun_exchange (ask_encrypt rand ediv ltk skd_m iv_m) used (peripheral p) is = is
begun_exchange ask used (peripheral p) is = refl

or_false : (used : Bool) → (used || false) ≡ used
or_false true = refl
or_false false = refl

module _ (f : TableFacts) (slot : ℕ) (wanted : List Ask) where
  abbrev at : Option Exchange → ℕ → Bool → Bool → List Draft → ExchangeEnds
  at own n used opens drafts =
      record (ends_by own f.wanted used f.lengths opens drafts) {
        versions = record (ends_by own f.wanted used f.lengths opens drafts).versions { wanted = n };
      }

  -- what began, by its parts
  begun_parts : (ask : Ask) (n : ℕ) → own_exchange f.progress ≡ None → is_open f.closing ≡ true → count_of Version wanted ≡ n
      → ends_of (facts_begun f slot ask wanted)
      ≡ at (exchange_begun ask f.version_used) n (f.version_used || is_version ask) true (with_first_draft f.closing (first_draft f ask) f.queue).drafts
  begun_parts ask n none opens counts =
      λ i. record (ends_by (begun_exchange ask f.version_used f.progress none i) f.wanted (f.version_used || is_version ask) f.lengths (opens i) (with_first_draft f.closing (first_draft f ask) f.queue).drafts) {
        versions = record (ends_by (begun_exchange ask f.version_used f.progress none i) f.wanted (f.version_used || is_version ask) f.lengths (opens i) (with_first_draft f.closing (first_draft f ask) f.queue).drafts).versions { wanted = counts i };
      }

  -- the first draft goes last in the queue
  draft_begun : (own : Option Exchange) (n : ℕ) (used : Bool) (d : Draft) → is_open f.closing ≡ true
      → at own n used true (with_first_draft f.closing (Some d) f.queue).drafts ≡ at own n used true (f.queue.drafts ++ d ∷ [])
  draft_begun own n used d opens = by f.closing opens
    where
      by : (cl : Closing) → is_open cl ≡ true → at own n used true (with_first_draft cl (Some d) f.queue).drafts ≡ at own n used true (f.queue.drafts ++ d ∷ [])
      by Open is = refl
      by Closed is = absurd (cc)
      by Disconnecting is = absurd (cc)

  -- ---- by what the host asked for

  exchange_idle : (own : Option Exchange) → own ≡ None → (n : ℕ) (used : Bool) (drafts : List Draft) → at own n used true drafts ≡ at None n used true drafts
  exchange_idle own is n used drafts = λ i. at (is i) n used true drafts

  -- the ends before
  ends_before : own_exchange f.progress ≡ None → is_open f.closing ≡ true
      → ends_of f ≡ at None (count_of Version f.wanted) f.version_used true f.queue.drafts
  ends_before none opens = λ i. ends_by (none i) f.wanted f.version_used f.lengths (opens i) f.queue.drafts

  -- a procedure that is no exchange
  other_begun : (ask : Ask) (d : Draft) → own_exchange f.progress ≡ None → is_open f.closing ≡ true
      → count_of Version wanted ≡ count_of Version f.wanted
      → exchange_begun ask f.version_used ≡ None → is_version ask ≡ false → first_draft f ask ≡ Some d
      → at None (count_of Version f.wanted) f.version_used true (f.queue.drafts ++ d ∷ []) ≡ at None (count_of Version f.wanted) f.version_used true f.queue.drafts
      → ends_of (facts_begun f slot ask wanted) ≡ ends_of f
  other_begun ask d none opens counts no_own no_version first same =
      begun_parts ask (count_of Version f.wanted) none opens counts
      ∙ (λ i. at (no_own i) (count_of Version f.wanted) (used i) true (with_first_draft f.closing (first i) f.queue).drafts)
      ∙ draft_begun None (count_of Version f.wanted) f.version_used d opens ∙ same ∙ sym (ends_before none opens)
    where
      used : (f.version_used || is_version ask) ≡ f.version_used
      used = ap (λ b. f.version_used || b) no_version ∙ or_false f.version_used

  pushed_at : (own : Option Exchange) (n : ℕ) (used : Bool) (d : Draft)
      → at own n used true (f.queue.drafts ++ d ∷ [])
      ≡ record (at own n used true f.queue.drafts) {
        features = record (at own n used true f.queue.drafts).features { queue = push (features_pdu d) (pdus_of features_pdu f.queue.drafts) };
        lengths = record (at own n used true f.queue.drafts).lengths { queue = push (lengths_pdu d) (pdus_of lengths_pdu f.queue.drafts) };
        versions = record (at own n used true f.queue.drafts).versions { waiting = count_pushed (is_version_pdu d) (versions_waiting f.queue.drafts) };
      }
  pushed_at own n used d =
      λ i. record (at own n used true f.queue.drafts) {
        features = record (at own n used true f.queue.drafts).features { queue = pdus_more features_pdu f.queue.drafts d i };
        lengths = record (at own n used true f.queue.drafts).lengths { queue = pdus_more lengths_pdu f.queue.drafts d i };
        versions = record (at own n used true f.queue.drafts).versions { waiting = waiting_more f.queue.drafts d i };
      }

  -- features begin, with the question of this role
  features_begun : (d : Draft) → own_exchange f.progress ≡ None → is_open f.closing ≡ true → count_of Version wanted ≡ count_of Version f.wanted
      → first_draft f ask_features ≡ Some d → features_pdu d ≡ Some Question → lengths_pdu d ≡ None → is_version_pdu d ≡ false
      → ends_of (facts_begun f slot ask_features wanted) ≡ after_step begins_features (ends_of f)
  features_begun d none opens counts first is_question no_length no_version =
      begun_parts ask_features (count_of Version f.wanted) none opens counts
      ∙ (λ i. at (Some FeaturesUnsent) (count_of Version f.wanted) (or_false f.version_used i) true (with_first_draft f.closing (first i) f.queue).drafts)
      ∙ draft_begun (Some FeaturesUnsent) (count_of Version f.wanted) f.version_used d opens
      ∙ pushed_at (Some FeaturesUnsent) (count_of Version f.wanted) f.version_used d
      ∙ (λ i. record (at (Some FeaturesUnsent) (count_of Version f.wanted) f.version_used true f.queue.drafts) {
        features = record (at (Some FeaturesUnsent) (count_of Version f.wanted) f.version_used true f.queue.drafts).features { queue = push (is_question i) (pdus_of features_pdu f.queue.drafts) };
        lengths = record (at (Some FeaturesUnsent) (count_of Version f.wanted) f.version_used true f.queue.drafts).lengths { queue = push (no_length i) (pdus_of lengths_pdu f.queue.drafts) };
        versions = record (at (Some FeaturesUnsent) (count_of Version f.wanted) f.version_used true f.queue.drafts).versions { waiting = count_pushed (no_version i) (versions_waiting f.queue.drafts) };
      })
      ∙ ap (after_step begins_features) (sym (ends_before none opens))

  length_begun : (tx : ℕ) → own_exchange f.progress ≡ None → is_open f.closing ≡ true → count_of Version wanted ≡ count_of Version f.wanted
      → ends_of (facts_begun f slot (ask_length tx) wanted) ≡ after_step begins_lengths (ends_of f)
  length_begun tx none opens counts =
      begun_parts (ask_length tx) (count_of Version f.wanted) none opens counts
      ∙ (λ i. at (Some LengthUnsent) (count_of Version f.wanted) (or_false f.version_used i) true (with_first_draft f.closing (first_draft f (ask_length tx)) f.queue).drafts)
      ∙ draft_begun (Some LengthUnsent) (count_of Version f.wanted) f.version_used (LengthReq f.lengths.own_rx f.lengths.own_tx) opens
      ∙ pushed_at (Some LengthUnsent) (count_of Version f.wanted) f.version_used (LengthReq f.lengths.own_rx f.lengths.own_tx)
      ∙ ap (after_step begins_lengths) (sym (ends_before none opens))

  version_begun : (used : Bool) → f.version_used ≡ used → own_exchange f.progress ≡ None → is_open f.closing ≡ true
      → count_of Version wanted ≡ count_of Version f.wanted - 1
      → ends_of (facts_begun f slot ask_version wanted) ≡ after_step begins_version (ends_of f)
  version_begun true is none opens counts =
      begun_parts ask_version (count_of Version f.wanted - 1) none opens counts
      ∙ (λ i. at (Some (version_stage (is i))) (count_of Version f.wanted - 1) (is i || true) true (with_first_draft f.closing (version_draft (is i)) f.queue).drafts)
      ∙ ap (after_step begins_version) (λ i. at None (count_of Version f.wanted) (sym is i) true f.queue.drafts)
      ∙ ap (after_step begins_version) (sym (ends_before none opens))
  version_begun false is none opens counts =
      begun_parts ask_version (count_of Version f.wanted - 1) none opens counts
      ∙ (λ i. at (Some (version_stage (is i))) (count_of Version f.wanted - 1) (is i || true) true (with_first_draft f.closing (version_draft (is i)) f.queue).drafts)
      ∙ draft_begun (Some VersionUnsent) (count_of Version f.wanted - 1) true VersionInd opens
      ∙ pushed_at (Some VersionUnsent) (count_of Version f.wanted - 1) true VersionInd
      ∙ ap (after_step begins_version) (λ i. at None (count_of Version f.wanted) (sym is i) true f.queue.drafts)
      ∙ ap (after_step begins_version) (sym (ends_before none opens))

  encryption_begun : (rand ediv : ℕ) (ltk : List ℕ) (skd_m iv_m : ℕ) → own_exchange f.progress ≡ None → is_open f.closing ≡ true → count_of Version wanted ≡ count_of Version f.wanted
      → ends_of (facts_begun f slot (ask_encrypt rand ediv ltk skd_m iv_m) wanted) ≡ ends_of f
  encryption_begun rand ediv ltk skd_m iv_m none opens counts =
      begun_parts (ask_encrypt rand ediv ltk skd_m iv_m) (count_of Version f.wanted) none opens counts
      ∙ (λ i. at None (count_of Version f.wanted) (or_false f.version_used i) true f.queue.drafts) ∙ sym (ends_before none opens)

  features_by : (role : Role) → role_of f.progress ≡ role → own_exchange f.progress ≡ None → is_open f.closing ≡ true
      → count_of Version wanted ≡ count_of Version f.wanted
      → ends_of (facts_begun f slot ask_features wanted) ≡ after_step begins_features (ends_of f)
  features_by CentralRole is none opens counts =
      features_begun FeatureReq none opens counts (ap (λ r. Some (feature_draft r)) is) refl refl refl
  features_by PeripheralRole is none opens counts =
      features_begun PeripheralFeatureReq none opens counts (ap (λ r. Some (feature_draft r)) is) refl refl refl

  -- what is wanted of versions afterwards
  abbrev counts_after : Ask → ℕ → ℕ
  counts_after ask n = (if is_same_kind (kind_of_ask ask) Version then n - 1 else n)

  begun_at : (ask : Ask) → own_exchange f.progress ≡ None → is_open f.closing ≡ true
      → count_of Version wanted ≡ counts_after ask (count_of Version f.wanted)
      → ends_of (facts_begun f slot ask wanted) ≡ after_steps (step_of_begun (Some (kind_of_ask ask))) (ends_of f)
  begun_at ask_features none opens counts = features_by (role_of f.progress) refl none opens counts
  begun_at (ask_length tx) none opens counts = length_begun tx none opens counts
  begun_at ask_version none opens counts = version_begun f.version_used refl none opens counts
  begun_at (ask_encrypt rand ediv ltk skd_m iv_m) none opens counts = encryption_begun rand ediv ltk skd_m iv_m none opens counts
  begun_at (ask_update interval latency timeout) none opens counts =
      other_begun (ask_update interval latency timeout) (Update (record { interval = interval; latency = latency; timeout = timeout })) none opens counts refl refl refl
      (pushed_at None (count_of Version f.wanted) f.version_used (Update (record { interval = interval; latency = latency; timeout = timeout })))
  begun_at (ask_request min max latency timeout) none opens counts =
      other_begun (ask_request min max latency timeout) (Request min max latency timeout) none opens counts refl refl refl
      (pushed_at None (count_of Version f.wanted) f.version_used (Request min max latency timeout))
  begun_at (ask_map map) none opens counts =
      other_begun (ask_map map) (Map map) none opens counts refl refl refl (pushed_at None (count_of Version f.wanted) f.version_used (Map map))
  begun_at ask_phy none opens counts =
      other_begun ask_phy PhyReq none opens counts refl refl refl (pushed_at None (count_of Version f.wanted) f.version_used PhyReq)

-- ---- what begins is a kind that may begin

pub record Begins (f : TableFacts) (ask : Ask) : Type 0 where
  pub none : own_exchange f.progress ≡ None
  pub opens : is_open f.closing ≡ true

begins_by : (f : TableFacts) (quiet : Bool) (ask : Ask) → may_begin f quiet (kind_of_ask ask) ≡ true → Begins f ask
begins_by f quiet ask may =
    let one = and_parts (is_ready f quiet && begins (role_of f.progress) (kind_of_ask ask)) _ may in
    let two = and_parts (is_ready f quiet) (begins (role_of f.progress) (kind_of_ask ask)) one.0 in
    let three = and_parts (is_none (own_kind f.progress) && quiet) (is_open f.closing) two.0 in
    let four = and_parts (is_none (own_kind f.progress)) quiet three.0 in
    record { none = no_exchange f.progress four.0; opens = three.1 }

module _ (f : TableFacts) (slot : ℕ) (quiet : Bool) where
  abbrev test : Ask → Bool
  test ask = may_begin f quiet (kind_of_ask ask)

  found : (place : ℕ) (ask : Ask) → position test f.wanted ≡ Some place → slice_get f.wanted place ≡ Some ask → test ask ≡ true
  found place ask first got =
      subst (λ (a : Ask). test a ≡ true) (get_or_from_slice_get f.wanted place ask ask got) (position-Some test f.wanted place ask first).1

  -- it is counted once less then
  counted : (place : ℕ) (ask : Ask) → position test f.wanted ≡ Some place → slice_get f.wanted place ≡ Some ask
      → count_of Version f.wanted ≡ (if is_same_kind (kind_of_ask ask) Version then 1 else 0) + count_of Version (remove f.wanted place)
  counted place ask first got =
      subst (λ (a : Ask). count_of Version f.wanted ≡ (if is_same_kind (kind_of_ask a) Version then 1 else 0) + count_of Version (remove f.wanted place))
      (get_or_from_slice_get f.wanted place ask ask got)
      (count-removed Version f.wanted place ask (position-Some test f.wanted place ask first).0)

  one_less : (same : Bool) (n m : ℕ) → n ≡ (if same then 1 else 0) + m → m ≡ (if same then n - 1 else n)
  one_less true n m is = omega (arith, is)
  one_less false n m is = omega (arith, is)

  begin_by : (place : Option ℕ) (ask : Option Ask) → place_to_begin f quiet ≡ place → ask_at place f.wanted ≡ ask
      → ends_of (begin_at f slot place ask).0 ≡ after_steps (step_of_begun (begin_at f slot place ask).1) (ends_of f)
  begin_by None ask p a = refl
  begin_by (Some place) None p a = refl
  begin_by (Some place) (Some ask) p a =
      let may = begins_by f quiet ask (found place ask p a) in
      begun_at f slot (remove f.wanted place) ask may.none may.opens
      (one_less (is_same_kind (kind_of_ask ask) Version) (count_of Version f.wanted) (count_of Version (remove f.wanted place)) (counted place ask p a))

  pub begins_one : ends_of (begin_step f slot quiet).0 ≡ after_steps (step_of_begun (begin_step f slot quiet).1) (ends_of f)
  begins_one = begin_by (place_to_begin f quiet) (ask_at (place_to_begin f quiet) f.wanted) refl refl

  -- ---- the machine lets it begin

  idle_open : (own : Option Exchange) (b : Bool) → own ≡ None → b ≡ true → (Exchange.is_idle (features_stage own) && not (not b)) ≡ true
  idle_open own b none opens = ap (λ o. Exchange.is_idle (features_stage o) && not (not b)) none ∙ ap (λ x. not (not x)) opens

  idle_open_lengths : (own : Option Exchange) (b : Bool) → own ≡ None → b ≡ true → (Exchange.is_idle (lengths_stage own) && not (not b)) ≡ true
  idle_open_lengths own b none opens = ap (λ o. Exchange.is_idle (lengths_stage o) && not (not b)) none ∙ ap (λ x. not (not x)) opens

  some_wanted : (n m : ℕ) → n ≡ 1 + m → not (n == 0) ≡ true
  some_wanted n m is = by (n == 0) refl
    where
      by : (b : Bool) → (n == 0) ≡ b → not b ≡ true
      by false e = refl
      by true e = let h = eqb-true n 0 e in absurd (omega (arith, is, h))

  idle_open_versions : (own : Option Exchange) (b w : Bool) → own ≡ None → b ≡ true → w ≡ true
      → (w && (Exchange.is_idle (Ends.version_stage own) && not (not b))) ≡ true
  idle_open_versions own b w none opens wanted =
      ap (λ x. x && (Exchange.is_idle (Ends.version_stage own) && not (not b))) wanted
      ∙ ap (λ o. Exchange.is_idle (Ends.version_stage o) && not (not b)) none ∙ ap (λ x. not (not x)) opens

  may_by : (place : Option ℕ) (ask : Option Ask) → place_to_begin f quiet ≡ place → ask_at place f.wanted ≡ ask → MayCome (step_of_begun (begin_at f slot place ask).1) (ends_of f)
  may_by None ask p a = tt
  may_by (Some place) None p a = tt
  may_by (Some place) (Some ask_features) p a =
      let may = begins_by f quiet ask_features (found place ask_features p a) in idle_open (own_exchange f.progress) (is_open f.closing) may.none may.opens
  may_by (Some place) (Some (ask_length tx)) p a =
      let may = begins_by f quiet (ask_length tx) (found place (ask_length tx) p a) in idle_open_lengths (own_exchange f.progress) (is_open f.closing) may.none may.opens
  may_by (Some place) (Some ask_version) p a =
      let may = begins_by f quiet ask_version (found place ask_version p a) in
      idle_open_versions (own_exchange f.progress) (is_open f.closing) (not (count_of Version f.wanted == 0)) may.none may.opens
      (some_wanted (count_of Version f.wanted) (count_of Version (remove f.wanted place)) (counted place ask_version p a))
  may_by (Some place) (Some (ask_update interval latency timeout)) p a = tt
  may_by (Some place) (Some (ask_request min max latency timeout)) p a = tt
  may_by (Some place) (Some (ask_map map)) p a = tt
  may_by (Some place) (Some ask_phy) p a = tt
  may_by (Some place) (Some (ask_encrypt rand ediv ltk skd_m iv_m)) p a = tt

  pub may_begin_one : MayCome (step_of_begun (begin_step f slot quiet).1) (ends_of f)
  may_begin_one = may_by (place_to_begin f quiet) (ask_at (place_to_begin f quiet) f.wanted) refl refl
