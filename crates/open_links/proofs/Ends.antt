-- The links that end for a reason, and those that stay.
use Rattle.std.proofs.Common.{◌≡◌, ℕ, ◌+◌, ◌≤◌, ◌==◌, Bool, true, false, List, [], ◌∷◌, ◌++◌, Option, Some, None, if◌then◌else◌, refl, sym, subst, arith}
use Rattle.std.proofs.lemmas.Bool.{eqb-true}
use Rattle.std.proofs.lemmas.List.Elements.{Contains-append_right}
use Rattle.open_links.specs.declared.ended.LinkEnded.{LinkEnded}
use Rattle.open_links.specs.Ended.{HandlesAscend, IsAmong, end_by}
use Rattle.open_links.specs.OpenLinks.{Links, OpenLink, HasHandle, HaveHandles, link_from}
use Rattle.open_links.specs.Turns.{ends_by, links_without, place_without, reason_at, staying_by}

-- ---- ends

from_lower : (low first : ℕ) (ended : List LinkEnded) → low ≤ first → HandlesAscend first ended → HandlesAscend low ended
from_lower low first [] below ascend = tt
from_lower low first (one ∷ ended) below (at, ascend) = (omega (arith, below, at), ascend)

end_before : (first : ℕ) (reason : Option ℕ) (ended : List LinkEnded) → HandlesAscend (first + 1) ended
    → HandlesAscend first (end_by first reason ++ ended)
end_before first None ended ascend = from_lower first (first + 1) ended (omega arith) ascend
end_before first (Some reason) ended ascend = (omega arith, ascend)

pub ends_ascend : (reason : OpenLink → Option ℕ) (first : ℕ) (links : Links) → HandlesAscend first (ends_by reason first links)
ends_ascend reason first [] = tt
ends_ascend reason first (None ∷ links) =
    from_lower first (first + 1) (ends_by reason (first + 1) links) (omega arith) (ends_ascend reason (first + 1) links)
ends_ascend reason first (Some link ∷ links) =
    end_before first (reason link) (ends_by reason (first + 1) links) (ends_ascend reason (first + 1) links)

-- ---- what ends is due, and what is due ends

pub stays_where_not_due : (reason : OpenLink → Option ℕ) (first handle : ℕ) (links : Links)
    → link_from first handle (links_without reason links) ≡ place_without reason (link_from first handle links)
stays_where_not_due reason first handle [] = refl
stays_where_not_due reason first handle (place ∷ links) =
    by_test (first == handle) (link_from (first + 1) handle links) (link_from (first + 1) handle (links_without reason links))
    (stays_where_not_due reason (first + 1) handle links)
  where
    by_test : (test : Bool) (rest other : Option OpenLink) → other ≡ place_without reason rest
        → (if test then place_without reason place else other) ≡ place_without reason (if test then place else rest)
    by_test true rest other same = refl
    by_test false rest other same = same

among_more : (handle first : ℕ) (reason other : Option ℕ) (ended : List LinkEnded) → IsAmong handle reason ended
    → IsAmong handle reason (end_by first other ++ ended)
among_more handle first None other ended among = tt
among_more handle first (Some reason) other ended among =
    Contains-append_right (end_by first other) ended (record { handle = handle; reason = record { 0 = reason } }) among

among_first : (handle : ℕ) (reason : Option ℕ) (ended : List LinkEnded) → IsAmong handle reason (end_by handle reason ++ ended)
among_first handle None ended = tt
among_first handle (Some reason) ended = (0, omega arith, refl)

pub due_is_among : (reason : OpenLink → Option ℕ) (first handle : ℕ) (links : Links)
    → IsAmong handle (reason_at reason (link_from first handle links)) (ends_by reason first links)
due_is_among reason first handle [] = tt
due_is_among reason first handle (None ∷ links) =
    by_test (first == handle) (due_is_among reason (first + 1) handle links)
  where
    by_test : (test : Bool)
        → IsAmong handle (reason_at reason (link_from (first + 1) handle links)) (ends_by reason (first + 1) links)
        → IsAmong handle (reason_at reason (if test then None else link_from (first + 1) handle links)) (ends_by reason (first + 1) links)
    by_test true among = tt
    by_test false among = among
due_is_among reason first handle (Some link ∷ links) =
    by_test (first == handle) refl (due_is_among reason (first + 1) handle links)
  where
    by_test : (test : Bool) → (first == handle) ≡ test
        → IsAmong handle (reason_at reason (link_from (first + 1) handle links)) (ends_by reason (first + 1) links)
        → IsAmong handle (reason_at reason (if test then Some link else link_from (first + 1) handle links))
        (end_by first (reason link) ++ ends_by reason (first + 1) links)
    by_test true e among =
        subst (λ n. IsAmong handle (reason link) (end_by n (reason link) ++ ends_by reason (first + 1) links))
        (sym (eqb-true first handle e)) (among_first handle (reason link) (ends_by reason (first + 1) links))
    by_test false e among =
        among_more handle first (reason_at reason (link_from (first + 1) handle links)) (reason link)
        (ends_by reason (first + 1) links) among

-- ---- handles

staying_keeps : (handle : ℕ) (reason : Option ℕ) (link : OpenLink) → HasHandle handle (Some link)
    → HasHandle handle (staying_by reason link)
staying_keeps handle None link has = has
staying_keeps handle (Some reason) link has = tt

pub stay_with_handles : (reason : OpenLink → Option ℕ) (first : ℕ) (links : Links) → HaveHandles first links → HaveHandles first (links_without reason links)
stay_with_handles reason first [] have = tt
stay_with_handles reason first (None ∷ links) (has, have) = (tt, stay_with_handles reason (first + 1) links have)
stay_with_handles reason first (Some link ∷ links) (has, have) =
    (staying_keeps first (reason link) link has, stay_with_handles reason (first + 1) links have)

-- the lemmas of the law on ends
pub ruleset ends = (ends_ascend, stays_where_not_due, due_is_among)
