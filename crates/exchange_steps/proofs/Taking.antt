-- A control PDU is taken: the step of the exchanges that it is.
use Rattle.std.proofs.Common.{◌≡◌, ℕ, ◌-◌, Bool, true, false, not, ◌&&◌, ◌||◌, List, [], ◌∷◌, ◌++◌, Option, Some, None, if◌then◌else◌, refl, ap, sym, ◌∙◌}
use Rattle.ble_base.specs.declared.error_codes.ErrCode.{ErrCode}
use Rattle.ble_base.specs.declared.procedure_kinds.Kind.TheVariants.{Features, Length, Version}
use Rattle.procedure_values.specs.declared.drafts.Draft.{Draft}
use Rattle.procedure_values.specs.declared.drafts.Draft.TheVariants.{FeatureRsp as FeatureRspDraft, LengthRsp as LengthRspDraft, VersionInd as VersionDraft}
use Rattle.procedure_values.specs.declared.lengths.Lengths.{Lengths}
use Rattle.procedure_values.specs.Limits.{with_peer}
use Rattle.procedure_values.specs.Wants.{count_of, place_of, without_place}
use Rattle.procedure_values.proofs.Counts.{count-without}
use Rattle.procedure_stages.specs.declared.closing.Closing.{Closing}
use Rattle.procedure_stages.specs.declared.closing.Closing.TheVariants.{Open, Closed, Disconnecting}
use Rattle.procedure_stages.specs.declared.stages.Exchange.{Exchange}
use Rattle.procedure_stages.specs.declared.stages.Exchange.TheVariants.{FeaturesUnsent, FeaturesSent, VersionUnsent, VersionSent, LengthUnsent, LengthSent}
use Rattle.procedure_stages.specs.declared.stages.Progress.{Progress}
use Rattle.procedure_stages.specs.declared.stages.Progress.TheVariants.{Central as central, Peripheral as peripheral}
use Rattle.procedure_stages.specs.Awaited.{awaits_features, awaits_lengths, is_version}
use Rattle.procedure_stages.specs.Closing.{is_open}
use Rattle.procedure_stages.specs.Kinds.{own_exchange, without_own}
use Rattle.procedure_stages.specs.Queue.{is_version_reply, with_draft, with_reply}
use Rattle.procedure_stages.specs.declared.steps.Effect.TheVariants.{PeerFeatures}
use Rattle.procedures.specs.Outcomes.{moved, unchanged, with_done, with_effect}
use Rattle.procedures.specs.declared.outcome.Outcome.{Outcome}
use Rattle.procedures.specs.Features.{features_asked, features_taken}
use Rattle.procedures.specs.Length.{length_asked, length_taken, with_lengths}
use Rattle.procedures.specs.Refusals.{refused_if}
use Rattle.procedures.specs.Table.{TableFacts}
use Rattle.procedures.specs.Taking.{facts_with}
use Rattle.procedures.specs.Termination.{terminate_taken}
use Rattle.procedures.specs.Version.{progress_with_version, version_reply, version_taken}
use Rattle.exchange_pairs.specs.Exchange.{Answer, Question}
use Rattle.exchange_pairs.specs.Version as VersionSteps
use Rattle.exchange_steps.specs.Ends.{ExchangeEnds, ends_by, ends_of, version_stage, versions_waiting, features_pdu, lengths_pdu}
use Rattle.exchange_steps.specs.Steps.{EndStep, after_step, after_steps, is_refused, refusal_if, takes_features, takes_lengths, takes_version, terminates}
use Rattle.exchange_steps.proofs.Queues.{draft_pushed, pdus_more, waiting_more}
use Rattle.exchange_steps.proofs.Same.{same_ends, unchanged_same}

-- an own exchange whose PDU was sent, or none
abbrev pub IsNotUnsent : Option Exchange → Type 0
IsNotUnsent (Some FeaturesUnsent) = ⊥
IsNotUnsent (Some VersionUnsent) = ⊥
IsNotUnsent (Some LengthUnsent) = ⊥
IsNotUnsent own = Unit {0}

or_false : (used : Bool) → (used || false) ≡ used
or_false true = refl
or_false false = refl

-- ---- no own procedure is left

no_exchange : (p : Progress) → own_exchange (without_own p) ≡ None
no_exchange (central c) = refl
no_exchange (peripheral p) = refl

-- ---- the questions of the peer

module _ (f : TableFacts) (slot : ℕ) where
  pub features_question : (value : ℕ) (cl : Closing) → f.closing ≡ cl
      → ends_of (facts_with f slot (features_asked f value)) ≡ after_step (takes_features Question) (ends_of f)
  features_question value cl is = rw is (by cl)
    where
      used_same : (cl : Closing) (drafts : List Draft)
          → ends_by (own_exchange f.progress) f.wanted (f.version_used || false) f.lengths (is_open cl) drafts
          ≡ ends_by (own_exchange f.progress) f.wanted f.version_used f.lengths (is_open cl) drafts
      used_same cl drafts = λ i. ends_by (own_exchange f.progress) f.wanted (or_false f.version_used i) f.lengths (is_open cl) drafts

      by : (cl : Closing) → ends_by (own_exchange f.progress) f.wanted (f.version_used || false) f.lengths (is_open cl) (with_draft cl FeatureRspDraft f.queue).drafts
          ≡ after_step (takes_features Question) (ends_by (own_exchange f.progress) f.wanted f.version_used f.lengths (is_open cl) f.queue.drafts)
      by Open = used_same Open (f.queue.drafts ++ FeatureRspDraft ∷ []) ∙ draft_pushed (own_exchange f.progress) f.wanted f.version_used f.lengths true f.queue.drafts FeatureRspDraft
      by Closed = used_same Closed f.queue.drafts
      by Disconnecting = used_same Disconnecting f.queue.drafts

  pub lengths_question : (rx tx : ℕ) (cl : Closing) → f.closing ≡ cl
      → ends_of (facts_with f slot (length_asked f rx tx)) ≡ after_step (takes_lengths (record { pdu = Question; rx = rx; tx = tx })) (ends_of f)
  lengths_question rx tx cl is = rw is (by cl)
    where
      answer : Draft
      answer = LengthRspDraft f.lengths.own_rx f.lengths.own_tx

      used_same : (cl : Closing) (drafts : List Draft)
          → ends_by (own_exchange f.progress) f.wanted (f.version_used || false) (with_peer f.lengths rx tx) (is_open cl) drafts
          ≡ ends_by (own_exchange f.progress) f.wanted f.version_used (with_peer f.lengths rx tx) (is_open cl) drafts
      used_same cl drafts = λ i. ends_by (own_exchange f.progress) f.wanted (or_false f.version_used i) (with_peer f.lengths rx tx) (is_open cl) drafts

      by : (cl : Closing) → ends_by (own_exchange f.progress) f.wanted (f.version_used || false) (with_peer f.lengths rx tx) (is_open cl) (with_draft cl (LengthRspDraft f.lengths.own_rx f.lengths.own_tx) f.queue).drafts
          ≡ after_step (takes_lengths (record { pdu = Question; rx = rx; tx = tx })) (ends_by (own_exchange f.progress) f.wanted f.version_used f.lengths (is_open cl) f.queue.drafts)
      by Open = used_same Open (f.queue.drafts ++ LengthRspDraft f.lengths.own_rx f.lengths.own_tx ∷ []) ∙ draft_pushed (own_exchange f.progress) f.wanted f.version_used (with_peer f.lengths rx tx) true f.queue.drafts (LengthRspDraft f.lengths.own_rx f.lengths.own_tx)
      by Closed = used_same Closed f.queue.drafts
      by Disconnecting = used_same Disconnecting f.queue.drafts

  -- ---- by the own exchange

  abbrev pub at : Option Exchange → ExchangeEnds
  at own = ends_by own f.wanted f.version_used f.lengths (is_open f.closing) f.queue.drafts

  -- a step that changes nothing where the own exchange is this one
  no_step : (step : EndStep) (own : Option Exchange) → own_exchange f.progress ≡ own → at own ≡ after_step step (at own)
      → ends_of f ≡ after_step step (ends_of f)
  no_step step own is nothing = (λ i. at (is i)) ∙ nothing ∙ (λ i. after_step step (at (sym is i)))

  -- nothing happens
  ignored : (step : EndStep) (own : Option Exchange) → own_exchange f.progress ≡ own → at own ≡ after_step step (at own)
      → ends_of (facts_with f slot (unchanged f)) ≡ after_step step (ends_of f)
  ignored step own is nothing = same_ends f slot (unchanged f) (unchanged_same f) ∙ no_step step own is nothing

  -- an outcome by a test
  by_test : (b : Bool) (test : Bool) (x y : Outcome) → test ≡ b → ends_of (facts_with f slot (if test then x else y)) ≡ ends_of (facts_with f slot (if b then x else y))
  by_test b test x y is = ap (λ t. ends_of (facts_with f slot (if t then x else y))) is

  -- ---- the answers

  -- an exchange that awaits its answer is over, with these lengths
  abbrev pub over_with : Lengths → ExchangeEnds
  over_with lengths = ends_by None f.wanted f.version_used lengths (is_open f.closing) f.queue.drafts

  over : (lengths : Lengths)
      → ends_by (own_exchange (without_own f.progress)) f.wanted (f.version_used || false) lengths (is_open f.closing) f.queue.drafts ≡ over_with lengths
  over lengths =
      λ i. ends_by (no_exchange f.progress i) f.wanted (or_false f.version_used i) lengths (is_open f.closing) f.queue.drafts

  abbrev pub features_done : ℕ → Outcome
  features_done value = with_done Features (with_effect (PeerFeatures value) (moved f (without_own f.progress)))

  abbrev pub lengths_done : ℕ → ℕ → Outcome
  lengths_done rx tx = with_done Length (with_lengths (with_peer f.lengths rx tx) (moved f (without_own f.progress)))

  pub features_answer : (value : ℕ) (own : Option Exchange) → own_exchange f.progress ≡ own
      → ends_of (facts_with f slot (features_taken f value)) ≡ after_step (takes_features Answer) (ends_of f)
  features_answer value own is = by own is
    where
      by : (o : Option Exchange) → own_exchange f.progress ≡ o → ends_of (facts_with f slot (features_taken f value)) ≡ after_step (takes_features Answer) (ends_of f)
      by (Some FeaturesSent) is =
          by_test true (awaits_features (own_exchange f.progress)) (features_done value) (unchanged f) (ap awaits_features is) ∙ over f.lengths
          ∙ (λ i. after_step (takes_features Answer) (at (sym is i)))
      by (Some FeaturesUnsent) is = by_test false (awaits_features (own_exchange f.progress)) (features_done value) (unchanged f) (ap awaits_features is) ∙ ignored (takes_features Answer) (Some FeaturesUnsent) is refl
      by (Some VersionUnsent) is = by_test false (awaits_features (own_exchange f.progress)) (features_done value) (unchanged f) (ap awaits_features is) ∙ ignored (takes_features Answer) (Some VersionUnsent) is refl
      by (Some VersionSent) is = by_test false (awaits_features (own_exchange f.progress)) (features_done value) (unchanged f) (ap awaits_features is) ∙ ignored (takes_features Answer) (Some VersionSent) is refl
      by (Some LengthUnsent) is = by_test false (awaits_features (own_exchange f.progress)) (features_done value) (unchanged f) (ap awaits_features is) ∙ ignored (takes_features Answer) (Some LengthUnsent) is refl
      by (Some LengthSent) is = by_test false (awaits_features (own_exchange f.progress)) (features_done value) (unchanged f) (ap awaits_features is) ∙ ignored (takes_features Answer) (Some LengthSent) is refl
      by None is = by_test false (awaits_features (own_exchange f.progress)) (features_done value) (unchanged f) (ap awaits_features is) ∙ ignored (takes_features Answer) None is refl

  pub lengths_answer : (rx tx : ℕ) (own : Option Exchange) → own_exchange f.progress ≡ own
      → ends_of (facts_with f slot (length_taken f rx tx)) ≡ after_step (takes_lengths (record { pdu = Answer; rx = rx; tx = tx })) (ends_of f)
  lengths_answer rx tx own is = by own is
    where
      by : (o : Option Exchange) → own_exchange f.progress ≡ o → ends_of (facts_with f slot (length_taken f rx tx)) ≡ after_step (takes_lengths (record { pdu = Answer; rx = rx; tx = tx })) (ends_of f)
      by (Some LengthSent) is =
          by_test true (awaits_lengths (own_exchange f.progress)) (lengths_done rx tx) (unchanged f) (ap awaits_lengths is) ∙ over (with_peer f.lengths rx tx)
          ∙ (λ i. after_step (takes_lengths (record { pdu = Answer; rx = rx; tx = tx })) (at (sym is i)))
      by (Some FeaturesUnsent) is = by_test false (awaits_lengths (own_exchange f.progress)) (lengths_done rx tx) (unchanged f) (ap awaits_lengths is) ∙ ignored (takes_lengths (record { pdu = Answer; rx = rx; tx = tx })) (Some FeaturesUnsent) is refl
      by (Some FeaturesSent) is = by_test false (awaits_lengths (own_exchange f.progress)) (lengths_done rx tx) (unchanged f) (ap awaits_lengths is) ∙ ignored (takes_lengths (record { pdu = Answer; rx = rx; tx = tx })) (Some FeaturesSent) is refl
      by (Some VersionUnsent) is = by_test false (awaits_lengths (own_exchange f.progress)) (lengths_done rx tx) (unchanged f) (ap awaits_lengths is) ∙ ignored (takes_lengths (record { pdu = Answer; rx = rx; tx = tx })) (Some VersionUnsent) is refl
      by (Some VersionSent) is = by_test false (awaits_lengths (own_exchange f.progress)) (lengths_done rx tx) (unchanged f) (ap awaits_lengths is) ∙ ignored (takes_lengths (record { pdu = Answer; rx = rx; tx = tx })) (Some VersionSent) is refl
      by (Some LengthUnsent) is = by_test false (awaits_lengths (own_exchange f.progress)) (lengths_done rx tx) (unchanged f) (ap awaits_lengths is) ∙ ignored (takes_lengths (record { pdu = Answer; rx = rx; tx = tx })) (Some LengthUnsent) is refl
      by None is = by_test false (awaits_lengths (own_exchange f.progress)) (lengths_done rx tx) (unchanged f) (ap awaits_lengths is) ∙ ignored (takes_lengths (record { pdu = Answer; rx = rx; tx = tx })) None is refl

  -- ---- LL_VERSION_IND

  -- the own exchange of versions is over
  version_over : (own : Option Exchange) → own_exchange f.progress ≡ own
      → own_exchange (progress_with_version f.progress) ≡ (if is_version own then None else own)
  version_over own is = by_own (is_version (own_exchange f.progress)) refl ∙ ap (λ o. if is_version o then None else o) is
    where
      by_own : (b : Bool) → is_version (own_exchange f.progress) ≡ b
          → own_exchange (if b then without_own f.progress else f.progress) ≡ (if b then None else own_exchange f.progress)
      by_own true e = no_exchange f.progress
      by_own false e = refl

  -- the table then, but for the answer
  version_parts : (own : Option Exchange) (used : Bool) (drafts : List Draft) → own_exchange f.progress ≡ own
      → ends_by (own_exchange (progress_with_version f.progress)) (without_place (place_of Version f.wanted) f.wanted) used f.lengths (is_open f.closing) drafts
      ≡ record (ends_by (if is_version own then None else own) f.wanted used f.lengths (is_open f.closing) drafts) {
        versions = record {
          own = version_stage (if is_version own then None else own);
          wanted = count_of Version f.wanted - 1;
          used = used;
          waiting = versions_waiting drafts;
          closed = not (is_open f.closing);
        };
      }
  version_parts own used drafts is =
      λ i. record (ends_by (version_over own is i) f.wanted used f.lengths (is_open f.closing) drafts) {
        versions = record {
          own = version_stage (version_over own is i);
          wanted = count-without Version f.wanted i;
          used = used;
          waiting = versions_waiting drafts;
          closed = not (is_open f.closing);
        };
      }

  -- the answer is queued, if it was not before
  abbrev version_at : Option Exchange → Bool → Bool → List Draft → ExchangeEnds
  version_at own used opens drafts =
      record (ends_by own f.wanted used f.lengths opens drafts) {
        versions = record {
          own = version_stage own;
          wanted = count_of Version f.wanted - 1;
          used = used;
          waiting = versions_waiting drafts;
          closed = not opens;
        };
      }

  version_queued : (own : Option Exchange) (cl : Closing) (used : Bool)
      → version_at own (used || (is_version_reply (version_reply used) && is_open cl)) (is_open cl) (with_reply cl (version_reply used) f.queue).drafts
      ≡ record (version_at own used (is_open cl) f.queue.drafts) {
        versions = VersionSteps.with_version (version_at own used (is_open cl) f.queue.drafts).versions;
      }
  version_queued own Open true = refl
  version_queued own Closed true = refl
  version_queued own Disconnecting true = refl
  version_queued own Closed false = refl
  version_queued own Disconnecting false = refl
  version_queued own Open false =
      λ i. record (version_at own true true f.queue.drafts) {
        features = record (version_at own true true f.queue.drafts).features { queue = pdus_more features_pdu f.queue.drafts VersionDraft i };
        lengths = record (version_at own true true f.queue.drafts).lengths { queue = pdus_more lengths_pdu f.queue.drafts VersionDraft i };
        versions = record (version_at own true true f.queue.drafts).versions { waiting = waiting_more f.queue.drafts VersionDraft i };
      }

  -- that is the step, whatever the own exchange is
  version_step : (own : Option Exchange)
      → record (version_at (if is_version own then None else own) f.version_used (is_open f.closing) f.queue.drafts) {
        versions = VersionSteps.with_version (version_at (if is_version own then None else own) f.version_used (is_open f.closing) f.queue.drafts).versions;
      } ≡ after_step takes_version (at own)
  version_step (Some VersionUnsent) = refl
  version_step (Some VersionSent) = refl
  version_step (Some FeaturesUnsent) = refl
  version_step (Some FeaturesSent) = refl
  version_step (Some LengthUnsent) = refl
  version_step (Some LengthSent) = refl
  version_step None = refl

  pub version_pdu : (own : Option Exchange) (version company sub : ℕ) → own_exchange f.progress ≡ own
      → ends_of (facts_with f slot (version_taken f version company sub)) ≡ after_step takes_version (ends_of f)
  version_pdu own version company sub is =
      version_parts own (f.version_used || (is_version_reply (version_reply f.version_used) && is_open f.closing)) (with_reply f.closing (version_reply f.version_used) f.queue).drafts is
      ∙ version_queued (if is_version own then None else own) f.closing f.version_used
      ∙ version_step own
      ∙ (λ i. after_step takes_version (at (sym is i)))

  -- ---- refusals

  -- after a refusal there is no own exchange
  pub refused_taken : (b : Bool) (code : ErrCode) (own : Option Exchange) → own_exchange f.progress ≡ own
      → (b ≡ true → over_with f.lengths ≡ after_step is_refused (at own))
      → ends_of (facts_with f slot (refused_if b f code)) ≡ after_steps (refusal_if b) (ends_of f)
  refused_taken true code own is ends = over f.lengths ∙ ends refl ∙ (λ i. after_step is_refused (at (sym is i)))
  refused_taken false code own is ends = same_ends f slot (unchanged f) (unchanged_same f)

  -- no own exchange is unsent where one is refused
  pub refused_right : (own : Option Exchange) → IsNotUnsent own → over_with f.lengths ≡ after_step is_refused (at own)
  refused_right (Some FeaturesSent) is = refl
  refused_right (Some VersionSent) is = refl
  refused_right (Some LengthSent) is = refl
  refused_right (Some FeaturesUnsent) is = absurd is
  refused_right (Some VersionUnsent) is = absurd is
  refused_right (Some LengthUnsent) is = absurd is
  refused_right None is = refl

  -- ---- LL_TERMINATE_IND

  pub terminated : (code : ℕ) (cl : Closing) → f.closing ≡ cl → ends_of (facts_with f slot (terminate_taken f code)) ≡ after_step terminates (ends_of f)
  terminated code cl is = by cl is
    where
      same : ends_by (own_exchange f.progress) f.wanted (f.version_used || false) f.lengths false f.queue.drafts
          ≡ ends_by (own_exchange f.progress) f.wanted f.version_used f.lengths false f.queue.drafts
      same = λ i. ends_by (own_exchange f.progress) f.wanted (or_false f.version_used i) f.lengths false f.queue.drafts

      by : (x : Closing) → f.closing ≡ x → ends_of (facts_with f slot (terminate_taken f code)) ≡ after_step terminates (ends_of f)
      by Open is = rw is same
      by Closed is = rw is same
      by Disconnecting is = rw is same
