-- The data of each link in the bank, after a change of one link.
use Rattle.std.proofs.Common.{◌≡◌, ◌≢◌, ℕ, ◌+◌, ◌==◌, Bool, true, false, [], ◌∷◌, Option, Some, None, if◌then◌else◌, refl, ap, sym, ◌∙◌, subst}
use Rattle.std.specs.Option.{option_map}
use Rattle.std.proofs.lemmas.Bool.{eqb-true, eqb-false}
use Rattle.acl_banks.specs.Banks.{Bank}
use Rattle.link_end.specs.Tied.{HoldsData, LeavesOthers}
use Rattle.open_links.specs.OpenLinks.{Links, OpenLink, HasHandle, HaveHandles, facts_in, link_at, link_from, with_change, with_change_from}
use Rattle.open_links.specs.Ended.{HasNone}
use Rattle.open_links.proofs.Dropping.{LeavesAt}
use Rattle.open_links.specs.Knowing.{BankGoes, HoldsUnder}
use Rattle.open_links.proofs.Handles.{changed_is, has_its_handle, other_stays}

pub holds_left : (handle : ℕ) (before after : Bank) (place : Option OpenLink) → LeavesAt handle before after
    → HoldsUnder handle before place → HoldsUnder handle after place
holds_left handle before after None (packets, credits) holds =
    record { packets = packets ∙ holds.packets; complete = credits ∙ holds.complete }
holds_left handle before after (Some link) (packets, credits) holds =
    record { packets = packets ∙ holds.packets; complete = credits ∙ holds.complete }

-- ---- one link

pub one_changed : (handle : ℕ) (links new : Links) (before after : Bank)
    → ((other : ℕ) → other ≢ handle → link_at other new ≡ link_at other links)
    → LeavesOthers handle before after → HoldsUnder handle after (link_at handle new)
    → ((other : ℕ) → HoldsUnder other before (link_at other links)) → (other : ℕ) → HoldsUnder other after (link_at other new)
one_changed handle links new before after same leaves holds_here holds other = by_test (other == handle) refl
  where
    by_test : (test : Bool) → (other == handle) ≡ test → HoldsUnder other after (link_at other new)
    by_test true e = subst (λ n. HoldsUnder n after (link_at n new)) (sym (eqb-true other handle e)) holds_here
    by_test false e =
        let differs = eqb-false other handle e in
        subst (HoldsUnder other after) (sym (same other differs))
        (holds_left other before after (link_at other links) (leaves other differs) (holds other))

pub data_changed : (change : OpenLink → OpenLink) (handle : ℕ) (links : Links) (before after : Bank) → HaveHandles 0 links
    → BankGoes change (link_at handle links) before after → ((other : ℕ) → HoldsUnder other before (link_at other links))
    → (other : ℕ) → HoldsUnder other after (link_at other (with_change handle change links))
data_changed change handle links before after have goes holds =
    by_place (link_at handle links) refl (has_its_handle 0 handle links have) goes
  where
    by_place : (place : Option OpenLink) → link_at handle links ≡ place → HasHandle handle place → BankGoes change place before after
        → (other : ℕ) → HoldsUnder other after (link_at other (with_change handle change links))
    by_place None is has same =
        let none : HoldsUnder handle before None = subst (HoldsUnder handle before) is (holds handle) in
        one_changed handle links (with_change handle change links) before after
        (λ other differs. other_stays (option_map change) 0 handle other links differs)
        (subst (LeavesOthers handle before) (sym same) (λ other differs. (refl, refl)))
        (subst (HoldsUnder handle after) (sym (changed_is (option_map change) 0 handle links refl ∙ ap (option_map change) is))
        (subst (HasNone handle) (sym same) none)) holds
    by_place (Some link) is has goes =
        let held : HoldsUnder handle before (Some link) = subst (HoldsUnder handle before) is (holds handle) in
        let gone = goes.holds (subst (λ n. HoldsData n before (facts_in link).outgoing) (sym has) held) in
        one_changed handle links (with_change handle change links) before after
        (λ other differs. other_stays (option_map change) 0 handle other links differs)
        (subst (λ n. LeavesOthers n before after) has goes.leaves)
        (subst (HoldsUnder handle after) (sym (changed_is (option_map change) 0 handle links refl ∙ ap (option_map change) is))
        (subst (λ n. HoldsData n after (facts_in (change link)).outgoing) has gone)) holds

-- ---- a link that is put under a handle, or shut

-- what is put under a handle is there, unless there is no such handle
pub put_is : (handle : ℕ) (known : Option OpenLink) (bank : Bank) → HasNone handle bank → HoldsUnder handle bank known → (first : ℕ) (links : Links)
    → HoldsUnder handle bank (link_from first handle (with_change_from first handle (λ place. known) links))
put_is handle known bank none holds first [] = none
put_is handle known bank none holds first (place ∷ links) =
    by_test (first == handle) refl (put_is handle known bank none holds (first + 1) links)
  where
    by_test : (test : Bool) → (first == handle) ≡ test
        → HoldsUnder handle bank (link_from (first + 1) handle (with_change_from (first + 1) handle (λ place. known) links))
        → HoldsUnder handle bank (link_from first handle
        (if test then known ∷ links else place ∷ with_change_from (first + 1) handle (λ place. known) links))
    by_test true e rest = rw e holds
    by_test false e rest = rw e rest
