-- The data in the bank after what is done for one link after another.
use Rattle.std.proofs.Common.{◌≡◌, ◌≢◌, ℕ, zero, suc, ◌+◌, ◌<◌, ◌≤◌, ◌==◌, Bool, true, false, nat_lt, List, [], ◌∷◌, ◌++◌, fold, map, Option, Some, None, is_some, if◌then◌else◌, refl, ap, sym, ◌∙◌, subst, arith}
use Rattle.std.specs.Option.{option_map}
use Rattle.std.proofs.lemmas.Bool.{eqb-true}
use Rattle.ble_base.specs.declared.channel_map.ChannelMap.{ChannelMap}
use Rattle.ble_base.specs.declared.roles.Role.{Role}
use Rattle.ble_base.specs.declared.roles.Role.TheVariants.{Central, Peripheral}
use Rattle.procedures.specs.procedure_values.declared.asks.Ask.TheVariants.{Map as map_ask}
use Rattle.acl_banks.specs.Banks.{Bank, bank_after_credited, bank_after_drop}
use Rattle.link_end.specs.link_model.Step.{DataReported, ProcedureAsked}
use Rattle.link_end.proofs.link_model.Pasts.{grows}
use Rattle.link_end.specs.Tied.{HoldsData, LeavesOthers}
use Rattle.link_end.proofs.Banked.{credited_leaves, drop_leaves, holds_reported}
use Rattle.open_links.specs.declared.ended.LinkEnded.{LinkEnded}
use Rattle.open_links.specs.declared.offers.Completed.{Completed}
use Rattle.open_links.specs.Offered.{completed_by}
use Rattle.open_links.specs.Ended.{end_by}
use Rattle.open_links.proofs.Dropping.{LeavesAt, dropped}
use Rattle.open_links.specs.OpenLinks.{Links, OpenLink, HasHandle, HaveHandles, facts_in, handles_from, link_after, link_at, link_from, without_links}
use Rattle.open_links.specs.Data.{complete_in, completed_from, link_reported, links_reported}
use Rattle.open_links.specs.Turns.{ends_by, links_without, place_without, reason_at, staying_by}
use Rattle.open_links.specs.Knowing.{HoldsUnder}
use Rattle.open_links.proofs.Handles.{has_its_handle, here, later}
use Rattle.open_links.specs.Hosts.{asked_map_by, link_asked_map, links_asked_map}
use Rattle.open_links.proofs.Unmoved.{asked_leaves, left_bank}
use Rattle.open_links.proofs.UnderHandles.{map_at}
use Rattle.open_links.proofs.Banks.{holds_left}

-- the handles, from this one on, of the places that pass a test
abbrev handles_where : (Option OpenLink → Bool) → ℕ → Links → List ℕ
handles_where test first [] = []
handles_where test first (place ∷ links) =
    if test place then first ∷ handles_where test (first + 1) links else handles_where test (first + 1) links

-- a bank after something was done for links from a handle on: what is under handles before that is left
record IsSwept (first : ℕ) (links : Links) (before after : Bank) : Type 0 where
  left : (handle : ℕ) → handle < first → LeavesAt handle before after
  holds : (handle : ℕ) → first ≤ handle → HoldsUnder handle after (link_from first handle links)

joined : (first : ℕ) (place : Option OpenLink) (links : Links) (before next after : Bank)
    → ((handle : ℕ) → handle ≢ first → LeavesAt handle before next) → HoldsUnder first next place → IsSwept (first + 1) links next after
    → IsSwept first (place ∷ links) before after
joined first place links before next after leaves at_first rest =
    record {
      left = λ handle below.
          let one = leaves handle (λ same. omega (arith, below, same)) in
          let others = rest.left handle (omega (arith, below)) in
          (others.0 ∙ one.0, others.1 ∙ one.1);
      holds = λ handle from. by_test handle from (first == handle) refl;
    }
  where
    by_test : (handle : ℕ) → first ≤ handle → (test : Bool) → (first == handle) ≡ test
        → HoldsUnder handle after (if test then place else link_from (first + 1) handle links)
    by_test handle from true e =
        subst (λ n. HoldsUnder n after place) (eqb-true first handle e)
        (holds_left first next after place (rest.left first (omega arith)) at_first)
    by_test handle from false e = rest.holds handle (grind (arith, e, from))

module _ (test : Option OpenLink → Bool) (change : Option OpenLink → Option OpenLink) (does : Bank → ℕ → Bank)
    (leaves : (bank : Bank) (handle : ℕ) → LeavesOthers handle bank (does bank handle))
    (passed : (handle : ℕ) (bank : Bank) (place : Option OpenLink) → test place ≡ true → HoldsUnder handle bank place
    → HoldsUnder handle (does bank handle) (change place))
    (failed : (handle : ℕ) (bank : Bank) (place : Option OpenLink) → test place ≡ false → HoldsUnder handle bank place
    → HoldsUnder handle bank (change place)) where
  swept : (first : ℕ) (links : Links) (bank : Bank)
      → ((handle : ℕ) → first ≤ handle → HoldsUnder handle bank (link_from first handle links))
      → IsSwept first (map change links) bank (fold does bank (handles_where test first links))
  swept first [] bank holds = record { left = λ handle below. (refl, refl); holds = holds }
  swept first (place ∷ links) bank holds =
      by_test (test place) refl (λ next more. swept (first + 1) links next more)
    where
      beyond : (handle : ℕ) → first + 1 ≤ handle → HoldsUnder handle bank (link_from (first + 1) handle links)
      beyond handle from =
          subst (HoldsUnder handle bank) (later first handle place links (omega (arith, from))) (holds handle (omega (arith, from)))

      at_first : HoldsUnder first bank place
      at_first = subst (HoldsUnder first bank) (here first place links) (holds first (omega arith))

      by_test : (t : Bool) → test place ≡ t
          → ((next : Bank) → ((handle : ℕ) → first + 1 ≤ handle → HoldsUnder handle next (link_from (first + 1) handle links))
          → IsSwept (first + 1) (map change links) next (fold does next (handles_where test (first + 1) links)))
          → IsSwept first (change place ∷ map change links) bank
          (fold does bank (if t then first ∷ handles_where test (first + 1) links else handles_where test (first + 1) links))
      by_test true e rest =
          joined first (change place) (map change links) bank (does bank first) _ (λ handle differs. leaves bank first handle differs)
          (passed first bank place e at_first)
          (rest (does bank first) (λ handle from.
          holds_left handle bank (does bank first) (link_from (first + 1) handle links)
          (leaves bank first handle (λ same. omega (arith, from, same))) (beyond handle from)))
      by_test false e rest =
          joined first (change place) (map change links) bank bank _ (λ handle differs. (refl, refl)) (failed first bank place e at_first)
          (rest bank beyond)

  -- all links
  swept_all : (links : Links) (bank : Bank) → ((handle : ℕ) → HoldsUnder handle bank (link_at handle links))
      → (handle : ℕ) → HoldsUnder handle (fold does bank (handles_where test 0 links)) (link_at handle (map change links))
  swept_all links bank holds handle =
      (swept 0 links bank (λ other from. holds other)).holds handle (omega arith)

-- ---- links that end

module _ (reason : OpenLink → Option ℕ) where
  end_passed : (handle : ℕ) (bank : Bank) (place : Option OpenLink) → is_some (reason_at reason place) ≡ true → HoldsUnder handle bank place
      → HoldsUnder handle (bank_after_drop bank handle) (place_without reason place)
  end_passed handle bank None passes holds = absurd cc
  end_passed handle bank (Some link) passes holds = by_reason (reason link) passes
    where
      by_reason : (code : Option ℕ) → is_some code ≡ true → HoldsUnder handle (bank_after_drop bank handle) (staying_by code link)
      by_reason None passes = absurd cc
      by_reason (Some code) passes = dropped handle bank

  end_failed : (handle : ℕ) (bank : Bank) (place : Option OpenLink) → is_some (reason_at reason place) ≡ false → HoldsUnder handle bank place
      → HoldsUnder handle bank (place_without reason place)
  end_failed handle bank None fails holds = holds
  end_failed handle bank (Some link) fails holds = by_reason (reason link) fails
    where
      by_reason : (code : Option ℕ) → is_some code ≡ false → HoldsUnder handle bank (staying_by code link)
      by_reason None fails = holds
      by_reason (Some code) fails = absurd cc

  end_handles : (first : ℕ) (links : Links)
      → map (λ (one : LinkEnded). one.handle) (ends_by reason first links) ≡ handles_where (λ place. is_some (reason_at reason place)) first links
  end_handles first [] = refl
  end_handles first (None ∷ links) = end_handles (first + 1) links
  end_handles first (Some link ∷ links) = by_reason (reason link) (end_handles (first + 1) links)
    where
      by_reason : (code : Option ℕ)
          → map (λ (one : LinkEnded). one.handle) (ends_by reason (first + 1) links)
          ≡ handles_where (λ place. is_some (reason_at reason place)) (first + 1) links
          → map (λ (one : LinkEnded). one.handle) (end_by first code ++ ends_by reason (first + 1) links)
          ≡ (if is_some code then first ∷ handles_where (λ place. is_some (reason_at reason place)) (first + 1) links
          else handles_where (λ place. is_some (reason_at reason place)) (first + 1) links)
      by_reason None rest = rest
      by_reason (Some code) rest = ap (λ handles. first ∷ handles) rest

  pub ended_data : (links : Links) (bank : Bank) → ((handle : ℕ) → HoldsUnder handle bank (link_at handle links))
      → (handle : ℕ) → HoldsUnder handle (fold bank_after_drop bank (map (λ (one : LinkEnded). one.handle) (ends_by reason 0 links)))
      (link_at handle (links_without reason links))
  ended_data links bank holds handle =
      subst (λ handles. HoldsUnder handle (fold bank_after_drop bank handles) (link_at handle (links_without reason links)))
      (sym (end_handles 0 links))
      (swept_all (λ place. is_some (reason_at reason place)) (place_without reason) bank_after_drop drop_leaves end_passed end_failed
      links bank holds handle)

-- ---- all links are shut

shut_passed : (handle : ℕ) (bank : Bank) (place : Option OpenLink) → is_some place ≡ true → HoldsUnder handle bank place
    → HoldsUnder handle (bank_after_drop bank handle) None
shut_passed handle bank place passes holds = dropped handle bank

shut_failed : (handle : ℕ) (bank : Bank) (place : Option OpenLink) → is_some place ≡ false → HoldsUnder handle bank place → HoldsUnder handle bank None
shut_failed handle bank None fails holds = holds
shut_failed handle bank (Some link) fails holds = absurd cc

shut_handles : (first : ℕ) (links : Links) → handles_from first links ≡ handles_where is_some first links
shut_handles first [] = refl
shut_handles first (None ∷ links) = shut_handles (first + 1) links
shut_handles first (Some link ∷ links) = ap (λ handles. first ∷ handles) (shut_handles (first + 1) links)

pub shut_data : (links : Links) (bank : Bank) → ((handle : ℕ) → HoldsUnder handle bank (link_at handle links))
    → (handle : ℕ) → HoldsUnder handle (fold bank_after_drop bank (handles_from 0 links)) (link_at handle (without_links links))
shut_data links bank holds handle =
    subst (λ handles. HoldsUnder handle (fold bank_after_drop bank handles) (link_at handle (without_links links)))
    (sym (shut_handles 0 links))
    (swept_all is_some (λ place. None) bank_after_drop drop_leaves shut_passed shut_failed links bank holds handle)

-- ---- complete packets are reported

abbrev reports : Option OpenLink → Bool
reports None = false
reports (Some link) = nat_lt 0 (complete_in link)

report_passed : (handle : ℕ) (bank : Bank) (place : Option OpenLink) → reports place ≡ true → HoldsUnder handle bank place
    → HoldsUnder handle (bank_after_credited bank handle) (option_map link_reported place)
report_passed handle bank None passes holds = absurd cc
report_passed handle bank (Some link) passes holds =
    subst (λ test. HoldsData handle (bank_after_credited bank handle) (facts_in (if test then link_after DataReported link else link)).outgoing)
    (sym passes)
    (subst (λ facts. HoldsData handle (bank_after_credited bank handle) facts.outgoing) (sym (grows link.setup link.past DataReported))
    (holds_reported handle bank (facts_in link).outgoing holds))

report_failed : (handle : ℕ) (bank : Bank) (place : Option OpenLink) → reports place ≡ false → HoldsUnder handle bank place
    → HoldsUnder handle bank (option_map link_reported place)
report_failed handle bank None fails holds = holds
report_failed handle bank (Some link) fails holds =
    subst (λ test. HoldsData handle bank (facts_in (if test then link_after DataReported link else link)).outgoing) (sym fails) holds

positive : (count : ℕ) → nat_lt 0 (suc count) ≡ true
positive count = grind arith

report_handles : (first : ℕ) (links : Links)
    → map (λ (one : Completed). one.handle) (completed_from first links) ≡ handles_where reports first links
report_handles first [] = refl
report_handles first (None ∷ links) = report_handles (first + 1) links
report_handles first (Some link ∷ links) = by_count (complete_in link) (report_handles (first + 1) links)
  where
    by_count : (count : ℕ)
        → map (λ (one : Completed). one.handle) (completed_from (first + 1) links) ≡ handles_where reports (first + 1) links
        → map (λ (one : Completed). one.handle) (completed_by first count ++ completed_from (first + 1) links)
        ≡ (if nat_lt 0 count then first ∷ handles_where reports (first + 1) links else handles_where reports (first + 1) links)
    by_count zero rest = rest
    by_count (suc count) rest =
        subst (λ test. first ∷ map (λ (one : Completed). one.handle) (completed_from (first + 1) links)
        ≡ (if test then first ∷ handles_where reports (first + 1) links else handles_where reports (first + 1) links))
        (sym (positive count)) (ap (λ handles. first ∷ handles) rest)

pub reported_data : (links : Links) (bank : Bank) → ((handle : ℕ) → HoldsUnder handle bank (link_at handle links))
    → (handle : ℕ) → HoldsUnder handle (fold bank_after_credited bank (map (λ (one : Completed). one.handle) (completed_from 0 links)))
    (link_at handle (links_reported links))
reported_data links bank holds handle =
    subst (λ handles. HoldsUnder handle (fold bank_after_credited bank handles) (link_at handle (links_reported links)))
    (sym (report_handles 0 links))
    (swept_all reports (option_map link_reported) bank_after_credited credited_leaves report_passed report_failed links bank holds handle)

-- ---- a map is asked for on all links

asked_at : (map : ChannelMap) (handle : ℕ) (bank : Bank) (place : Option OpenLink) → HasHandle handle place → HoldsUnder handle bank place
    → HoldsUnder handle bank (option_map (link_asked_map map) place)
asked_at map handle bank None has holds = holds
asked_at map handle bank (Some link) has holds = by_role link.setup.link.role
  where
    by_role : (role : Role) → HoldsUnder handle bank (Some (asked_map_by role map link))
    by_role Central =
        subst (λ n. HoldsData n bank (facts_in (link_after (ProcedureAsked (map_ask map)) link)).outgoing) has
        ((left_bank (ProcedureAsked (map_ask map)) (asked_leaves (map_ask map)) link bank).holds
        (subst (λ n. HoldsData n bank (facts_in link).outgoing) (sym has) holds))
    by_role Peripheral = holds

pub mapped_data : (map : ChannelMap) (links : Links) (bank : Bank) → HaveHandles 0 links
    → ((handle : ℕ) → HoldsUnder handle bank (link_at handle links))
    → (handle : ℕ) → HoldsUnder handle bank (link_at handle (links_asked_map map links))
mapped_data map links bank have holds handle =
    subst (HoldsUnder handle bank) (sym (map_at (option_map (link_asked_map map)) 0 handle links refl))
    (asked_at map handle bank (link_at handle links) (has_its_handle 0 handle links have) (holds handle))
