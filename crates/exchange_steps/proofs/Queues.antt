-- One PDU more in a queue, as the machines of exchanges see it.
use Rattle.std.proofs.Common.{◌≡◌, ℕ, ◌+◌, Bool, true, false, List, [], ◌∷◌, ◌++◌, Option, Some, None, if◌then◌else◌, refl, ap, ◌∙◌}
use Rattle.procedure_values.specs.declared.asks.Ask.{Ask}
use Rattle.procedure_values.specs.declared.drafts.Draft.{Draft}
use Rattle.procedure_values.specs.declared.drafts.Rejection.{Rejection}
use Rattle.procedure_values.specs.declared.lengths.Lengths.{Lengths}
use Rattle.procedure_stages.specs.declared.closing.Closing.{Closing}
use Rattle.procedure_stages.specs.declared.closing.Closing.TheVariants.{Open, Closed, Disconnecting}
use Rattle.procedure_stages.specs.declared.stages.Exchange.{Exchange}
use Rattle.procedure_stages.specs.Closing.{is_open}
use Rattle.procedure_stages.specs.Queue.{QueueFacts, with_draft, with_rejection}
use Rattle.exchange_steps.specs.Ends.{ExchangeEnds, ends_by, features_pdu, is_version_pdu, lengths_pdu, pdus_of, versions_waiting, with_pdu}

module _ {A : Type 0} where
  abbrev pub push : Option A → List A → List A
  push None xs = xs
  push (Some x) xs = xs ++ x ∷ []

  with_more : (first : Option A) (xs ys : List A) → with_pdu first (xs ++ ys) ≡ with_pdu first xs ++ ys
  with_more None xs ys = refl
  with_more (Some pdu) xs ys = refl

  pushed_first : (first : Option A) → with_pdu first [] ≡ push first []
  pushed_first None = refl
  pushed_first (Some x) = refl

  pushed_later : (first next : Option A) (xs : List A) → with_pdu first (push next xs) ≡ push next (with_pdu first xs)
  pushed_later first None xs = refl
  pushed_later first (Some x) xs = with_more first xs (x ∷ [])

  pub pdus_more : (part : Draft → Option A) (ds : List Draft) (d : Draft) → pdus_of part (ds ++ d ∷ []) ≡ push (part d) (pdus_of part ds)
  pdus_more part [] d = pushed_first (part d)
  pdus_more part (x ∷ ds) d = ap (with_pdu (part x)) (pdus_more part ds d) ∙ pushed_later (part x) (part d) (pdus_of part ds)

abbrev pub count_pushed : Bool → ℕ → ℕ
count_pushed one n = (if one then n + 1 else n)

twice : (a b : Bool) (n : ℕ) → count_pushed a (count_pushed b n) ≡ count_pushed b (count_pushed a n)
twice true true n = refl
twice true false n = refl
twice false true n = refl
twice false false n = refl

pub waiting_more : (ds : List Draft) (d : Draft) → versions_waiting (ds ++ d ∷ []) ≡ count_pushed (is_version_pdu d) (versions_waiting ds)
waiting_more [] d = refl
waiting_more (x ∷ ds) d =
    ap (count_pushed (is_version_pdu x)) (waiting_more ds d)
    ∙ twice (is_version_pdu x) (is_version_pdu d) (versions_waiting ds)

abbrev pub pushed : Draft → ExchangeEnds → ExchangeEnds
pushed d e =
    record {
      features = record e.features { queue = push (features_pdu d) e.features.queue };
      lengths = record e.lengths { queue = push (lengths_pdu d) e.lengths.queue };
      versions = record e.versions { waiting = count_pushed (is_version_pdu d) e.versions.waiting };
    }

module _ (own : Option Exchange) (wanted : List Ask) (used : Bool) (lengths : Lengths) where
  pub draft_pushed : (opens : Bool) (ds : List Draft) (d : Draft)
      → ends_by own wanted used lengths opens (ds ++ d ∷ []) ≡ pushed d (ends_by own wanted used lengths opens ds)
  draft_pushed opens ds d =
      λ i. record {
        features = record (ends_by own wanted used lengths opens ds).features { queue = pdus_more features_pdu ds d i };
        lengths = record (ends_by own wanted used lengths opens ds).lengths { queue = pdus_more lengths_pdu ds d i };
        versions = record (ends_by own wanted used lengths opens ds).versions { waiting = waiting_more ds d i };
      }

-- a draft that is no PDU of an exchange
pub record IsOtherDraft (d : Draft) : Type 0 where
  pub features : features_pdu d ≡ None
  pub lengths : lengths_pdu d ≡ None
  pub versions : is_version_pdu d ≡ false

pub nothing_pushed : (d : Draft) (e : ExchangeEnds) → IsOtherDraft d → pushed d e ≡ e
nothing_pushed d e other =
    λ i. record {
      features = record e.features { queue = push (other.features i) e.features.queue };
      lengths = record e.lengths { queue = push (other.lengths i) e.lengths.queue };
      versions = record e.versions { waiting = count_pushed (other.versions i) e.versions.waiting };
    }

-- such a draft may be queued
pub other_queued : (own : Option Exchange) (wanted : List Ask) (used : Bool) (lengths : Lengths) (cl : Closing) (q : QueueFacts) (d : Draft) → IsOtherDraft d
    → ends_by own wanted used lengths (is_open cl) (with_draft cl d q).drafts ≡ ends_by own wanted used lengths (is_open cl) q.drafts
other_queued own wanted used lengths Open q d other =
    draft_pushed own wanted used lengths true q.drafts d ∙ nothing_pushed d (ends_by own wanted used lengths true q.drafts) other
other_queued own wanted used lengths Closed q d other = refl
other_queued own wanted used lengths Disconnecting q d other = refl

-- and so may a rejection
pub rejection_queued : (own : Option Exchange) (wanted : List Ask) (used : Bool) (lengths : Lengths) (cl : Closing) (q : QueueFacts) (r : Rejection)
    → ends_by own wanted used lengths (is_open cl) (with_rejection cl r q).drafts ≡ ends_by own wanted used lengths (is_open cl) q.drafts
rejection_queued own wanted used lengths Open q r = refl
rejection_queued own wanted used lengths Closed q r = refl
rejection_queued own wanted used lengths Disconnecting q r = refl
