-- The open links that the lines of a side have are the links under its handles, in some order, each once.
use Rattle.std.proofs.Common.{◌≡◌, ℕ, zero, suc, ◌+◌, ◌<◌, ◌≤◌, ◌==◌, Bool, true, false, Option, Some, None, List, [], ◌∷◌, ◌++◌, length, cond, refl, sym, ap, ◌∙◌, append_assoc, arith}
use Rattle.std.specs.Prelude.{filter, is_some, not}
use Rattle.std.specs.List.{AllByRecursion, find, sum_by}
use Rattle.std.specs.Option.{option_map}
use Rattle.std.proofs.lemmas.Bool.{eq-eqb, eqb-true}
use Rattle.std.proofs.lemmas.List.Sums.{sum_by-append, sum_by-cons, sum_by_push}
use Rattle.journal_acks.specs.open_links.OpenLinks.{Links, OpenLink, link_at, link_from}
use Rattle.journal_acks.proofs.open_links.Handles.{here, later}
use Rattle.journal_data.specs.HostLines.{OpenUnder, link_under}
use Rattle.journal_data.proofs.HostPackets.{AreUnder}
use Rattle.journal_data.proofs.Openness.{is_open}

-- what a handle adds to a sum over the open links, by the number of its link, and over all handles from one on
abbrev share : (OpenUnder → ℕ) → (ℕ → ℕ) → (ℕ → Bool) → ℕ → ℕ
share of number opened handle = cond (opened handle) (of (record { link = number handle; handle = handle })) 0

abbrev pub sum_open : (OpenUnder → ℕ) → (ℕ → ℕ) → (ℕ → Bool) → ℕ → ℕ → ℕ
sum_open of number opened first zero = 0
sum_open of number opened first (suc more) = share of number opened first + sum_open of number opened (first + 1) more

-- each sum over the links is that over the open handles
pub record HoldsLinks (many : ℕ) (links : List OpenUnder) (number : ℕ → ℕ) (opened : ℕ → Bool) : Type 0 where
  pub sums : (of : OpenUnder → ℕ) → sum_by of links ≡ sum_open of number opened 0 many
  pub below : (handle : ℕ) → opened handle ≡ true → handle < many

-- ---- sums over handles

sum_same : (of of_too : OpenUnder → ℕ) (number number_too : ℕ → ℕ) (opened opened_too : ℕ → Bool) (first more : ℕ)
    → ((handle : ℕ) → first ≤ handle → share of_too number_too opened_too handle ≡ share of number opened handle)
    → sum_open of_too number_too opened_too first more ≡ sum_open of number opened first more
sum_same of of_too number number_too opened opened_too first zero same = refl
sum_same of of_too number number_too opened opened_too first (suc more) same =
    let here = same first (omega arith) in
    let rest = sum_same of of_too number number_too opened opened_too (first + 1) more (λ handle from. same handle (omega (arith, from))) in
    omega (arith, here, rest)

sum_zero : (of : OpenUnder → ℕ) (number : ℕ → ℕ) (opened : ℕ → Bool) (first more : ℕ) → ((handle : ℕ) → share of number opened handle ≡ 0)
    → sum_open of number opened first more ≡ 0
sum_zero of number opened first zero none = refl
sum_zero of number opened first (suc more) none =
    let here = none first in let rest = sum_zero of number opened (first + 1) more none in omega (arith, here, rest)

apart_from : (first handle : ℕ) → (first == handle) ≡ false → first ≤ handle → first + 1 ≤ handle
apart_from first handle differs from = grind (arith, differs, from)

later_apart : (handle first : ℕ) → handle < first → (handle == first) ≡ false
later_apart handle first before = grind (arith, before)

sum_least : (of : OpenUnder → ℕ) (number : ℕ → ℕ) (opened : ℕ → Bool) (first more handle : ℕ) → first ≤ handle → handle < first + more
    → share of number opened handle ≤ sum_open of number opened first more
sum_least of number opened first zero handle from within = absurd (omega (arith, from, within))
sum_least of number opened first (suc more) handle from within =
    by (first == handle) refl (λ after. sum_least of number opened (first + 1) more handle after (omega (arith, within)))
  where
    by : (same : Bool) → (first == handle) ≡ same
        → (first + 1 ≤ handle → share of number opened handle ≤ sum_open of number opened (first + 1) more)
        → share of number opened handle ≤ share of number opened first + sum_open of number opened (first + 1) more
    by true is rest = let equal = ap (share of number opened) (eqb-true first handle is) in omega (arith, equal)
    by false is rest = let least = rest (apart_from first handle is from) in omega (arith, least)

-- one handle more
sum_more : (of : OpenUnder → ℕ) (number number_too : ℕ → ℕ) (opened opened_too : ℕ → Bool) (first more handle added : ℕ) → first ≤ handle → handle < first + more
    → share of number_too opened_too handle ≡ share of number opened handle + added
    → ((other : ℕ) → (handle == other) ≡ false → share of number_too opened_too other ≡ share of number opened other)
    → sum_open of number_too opened_too first more ≡ sum_open of number opened first more + added
sum_more of number number_too opened opened_too first zero handle added from within here others = absurd (omega (arith, from, within))
sum_more of number number_too opened opened_too first (suc more) handle added from within here others =
    by (first == handle) refl
    (λ after. sum_more of number number_too opened opened_too (first + 1) more handle added after (omega (arith, within)) here others)
  where
    swapped : (first == handle) ≡ false → (handle == first) ≡ false
    swapped differs = grind (arith, differs)

    by : (same : Bool) → (first == handle) ≡ same
        → (first + 1 ≤ handle → sum_open of number_too opened_too (first + 1) more ≡ sum_open of number opened (first + 1) more + added)
        → sum_open of number_too opened_too first (suc more) ≡ sum_open of number opened first (suc more) + added
    by true is later =
        let equal = eqb-true first handle is in
        let one = ap (share of number_too opened_too) equal in
        let two = ap (share of number opened) equal in
        let rest = sum_same of of number number_too opened opened_too (first + 1) more
        (λ other after. others other (later_apart handle other (omega (arith, after, equal)))) in
        omega (arith, here, one, two, rest)
    by false is later =
        let one = others first (swapped is) in
        let rest = later (apart_from first handle is from) in
        omega (arith, one, rest)

-- ---- sums over a list of links

abbrev by_handle : (OpenUnder → ℕ) → ℕ → OpenUnder → ℕ
by_handle of handle one = cond (one.handle == handle) (of one) 0

found_none : (of : OpenUnder → ℕ) (handle : ℕ) (links : List OpenUnder) → find (λ (one : OpenUnder). one.handle == handle) links ≡ None
    → sum_by (by_handle of handle) links ≡ 0
found_none of handle [] none = refl
found_none of handle (one ∷ links) none = by (one.handle == handle) refl none (found_none of handle links)
  where
    by : (own : Bool) → (one.handle == handle) ≡ own → cond own (Some one) (find (λ (x : OpenUnder). x.handle == handle) links) ≡ None
        → (find (λ (x : OpenUnder). x.handle == handle) links ≡ None → sum_by (by_handle of handle) links ≡ 0)
        → sum_by (by_handle of handle) (one ∷ links) ≡ 0
    by true is none later = absurd (let h : Some one ≡ None = none in absurd cc)
    by false is none later =
        let parts = sum_by-cons (by_handle of handle) one links in
        let here = ap (λ (b : Bool). cond b (of one) 0) is in
        let rest = later none in
        omega (arith, parts, here, rest)

found_some : (of : OpenUnder → ℕ) (handle : ℕ) (links : List OpenUnder) (found : OpenUnder) → find (λ (one : OpenUnder). one.handle == handle) links ≡ Some found
    → of found ≤ sum_by (by_handle of handle) links
found_some of handle [] found some = absurd (let h : None ≡ Some found = some in absurd cc)
found_some of handle (one ∷ links) found some = by (one.handle == handle) refl some (found_some of handle links found)
  where
    by : (own : Bool) → (one.handle == handle) ≡ own → cond own (Some one) (find (λ (x : OpenUnder). x.handle == handle) links) ≡ Some found
        → (find (λ (x : OpenUnder). x.handle == handle) links ≡ Some found → of found ≤ sum_by (by_handle of handle) links)
        → of found ≤ sum_by (by_handle of handle) (one ∷ links)
    by true is some later =
        let same : one ≡ found = cc in
        let parts = sum_by-cons (by_handle of handle) one links in
        let here = ap (λ (b : Bool). cond b (of one) 0) is in
        let equal = ap of same in
        omega (arith, parts, here, equal)
    by false is some later =
        let parts = sum_by-cons (by_handle of handle) one links in
        let rest = later some in
        omega (arith, parts, rest)

filtered_sum : (of : OpenUnder → ℕ) (link : ℕ) (links : List OpenUnder)
    → sum_by of (filter (λ (one : OpenUnder). not (one.link == link)) links) ≡ sum_by (λ (one : OpenUnder). cond (one.link == link) 0 (of one)) links
filtered_sum of link [] = refl
filtered_sum of link (one ∷ links) = by (one.link == link) refl (filtered_sum of link links)
  where
    by : (own : Bool) → (one.link == link) ≡ own
        → sum_by of (filter (λ (x : OpenUnder). not (x.link == link)) links) ≡ sum_by (λ (x : OpenUnder). cond (x.link == link) 0 (of x)) links
        → sum_by of (cond (not own) (one ∷ filter (λ (x : OpenUnder). not (x.link == link)) links) (filter (λ (x : OpenUnder). not (x.link == link)) links))
        ≡ sum_by (λ (x : OpenUnder). cond (x.link == link) 0 (of x)) (one ∷ links)
    by true is rest =
        let parts = sum_by-cons (λ (x : OpenUnder). cond (x.link == link) 0 (of x)) one links in
        let here = ap (λ (b : Bool). cond b 0 (of one)) is in
        omega (arith, parts, here, rest)
    by false is rest =
        let parts = sum_by-cons (λ (x : OpenUnder). cond (x.link == link) 0 (of x)) one links in
        let kept = sum_by-cons of one (filter (λ (x : OpenUnder). not (x.link == link)) links) in
        let here = ap (λ (b : Bool). cond b 0 (of one)) is in
        omega (arith, parts, kept, here, rest)

-- ---- the link under a handle

module _ (many : ℕ) (links : List OpenUnder) (number : ℕ → ℕ) (opened : ℕ → Bool) (holds : HoldsLinks many links number opened) where
  -- a sum that no handle adds to
  pub nothing_in : (of : OpenUnder → ℕ) → ((handle : ℕ) → opened handle ≡ true → of (record { link = number handle; handle = handle }) ≡ 0) → sum_by of links ≡ 0
  nothing_in of none = holds.sums of ∙ sum_zero of number opened 0 many (λ handle. by handle (opened handle) refl)
    where
      by : (handle : ℕ) (on : Bool) → opened handle ≡ on → cond on (of (record { link = number handle; handle = handle })) 0 ≡ 0
      by handle true is = none handle is
      by handle false is = refl

  where_closed : (handle : ℕ) → opened handle ≡ false → sum_by (by_handle (λ one. 1) handle) links ≡ 0
  where_closed handle closed = nothing_in (by_handle (λ one. 1) handle) (λ other on. by other (other == handle) refl on)
    where
      by : (other : ℕ) (same : Bool) → (other == handle) ≡ same → opened other ≡ true → ◌≡◌ {A = ℕ} (cond same 1 0) 0
      by other true is on =
          absurd (let h : true ≡ false = sym on ∙ ap opened (eqb-true other handle is) ∙ closed in absurd cc)
      by other false is on = refl

  other_link : (handle : ℕ) → sum_by (by_handle (λ one. cond (one.link == number handle) 0 1) handle) links ≡ 0
  other_link handle = nothing_in (by_handle (λ one. cond (one.link == number handle) 0 1) handle) (λ other on. by other (other == handle) refl)
    where
      by : (other : ℕ) (same : Bool) → (other == handle) ≡ same → ◌≡◌ {A = ℕ} (cond same (cond (number other == number handle) 0 1) 0) 0
      by other true is = ap (λ (b : Bool). cond b 0 1) (eq-eqb (number other) (number handle) (ap number (eqb-true other handle is)))
      by other false is = refl

  where_open : (handle : ℕ) → opened handle ≡ true → 1 ≤ sum_by (by_handle (λ one. 1) handle) links
  where_open handle on =
      let all = holds.sums (by_handle (λ one. 1) handle) in
      let least = sum_least (by_handle (λ one. 1) handle) number opened 0 many handle (omega arith) (let few = holds.below handle on in omega (arith, few)) in
      let one : share (by_handle (λ (x : OpenUnder). 1) handle) number opened handle ≡ 1 =
      ap (λ (b : Bool). cond b (cond (handle == handle) 1 0) 0) on ∙ ap (λ (b : Bool). cond b 1 0) (eq-eqb handle handle refl) in
      omega (arith, all, least, one)

  pub under_is : (handle : ℕ) → link_under handle links ≡ cond (opened handle) (Some (number handle)) None
  under_is handle = by (find (λ (one : OpenUnder). one.handle == handle) links) (opened handle) refl refl
    where
      link_is : (found : OpenUnder) → cond (found.link == number handle) 0 1 ≤ 0 → found.link ≡ number handle
      link_is found none = by_test (found.link == number handle) refl none
        where
          by_test : (same : Bool) → (found.link == number handle) ≡ same → cond same 0 1 ≤ 0 → found.link ≡ number handle
          by_test true is none = eqb-true found.link (number handle) is
          by_test false is none = absurd (omega (arith, none))

      by : (found : Option OpenUnder) (on : Bool) → find (λ (one : OpenUnder). one.handle == handle) links ≡ found → opened handle ≡ on
          → option_map (λ (one : OpenUnder). one.link) found ≡ cond on (Some (number handle)) None
      by None false none off = refl
      by None true none on =
          let zero_is = found_none (λ one. 1) handle links none in let least = where_open handle on in absurd (omega (arith, zero_is, least))
      by (Some found) false some off =
          let least = found_some (λ one. 1) handle links found some in let zero_is = where_closed handle off in absurd (omega (arith, least, zero_is))
      by (Some found) true some on =
          let least = found_some (λ one. cond (one.link == number handle) 0 1) handle links found some in
          let zero_is = other_link handle in
          ap Some (link_is found (omega (arith, least, zero_is)))

-- each of the links is one of them
pub record IsOneOf (number : ℕ → ℕ) (opened : ℕ → Bool) (one : OpenUnder) : Type 0 where
  pub is_open : opened one.handle ≡ true
  pub number_is : one.link ≡ number one.handle

none_in : (of : OpenUnder → ℕ) (before after : List OpenUnder) (one : OpenUnder) → sum_by of (before ++ one ∷ after) ≡ 0 → of one ≡ 0
none_in of before after one none =
    let parts = sum_by-append of before (one ∷ after) in
    let first = sum_by-cons of one after in
    omega (arith, parts, first, none)

pub one_of : (many : ℕ) (links : List OpenUnder) (number : ℕ → ℕ) (opened : ℕ → Bool) → HoldsLinks many links number opened
    → (before after : List OpenUnder) (one : OpenUnder) → links ≡ before ++ one ∷ after → IsOneOf number opened one
one_of many links number opened holds before after one are = record {
  is_open = right (opened one.handle) (none_in (λ (x : OpenUnder). cond (opened x.handle) 0 1) before after one
      (ap (sum_by (λ (x : OpenUnder). cond (opened x.handle) 0 1)) (sym are)
      ∙ nothing_in many links number opened holds (λ (x : OpenUnder). cond (opened x.handle) 0 1) (λ handle on. ap (λ (b : Bool). cond b 0 1) on)));
  number_is = eqb-true one.link (number one.handle) (right (one.link == number one.handle)
      (none_in (λ (x : OpenUnder). cond (x.link == number x.handle) 0 1) before after one
      (ap (sum_by (λ (x : OpenUnder). cond (x.link == number x.handle) 0 1)) (sym are)
      ∙ nothing_in many links number opened holds (λ (x : OpenUnder). cond (x.link == number x.handle) 0 1)
      (λ handle on. ap (λ (b : Bool). cond b 0 1) (eq-eqb (number handle) (number handle) refl)))));
}
  where
    right : (b : Bool) → ◌≡◌ {A = ℕ} (cond b 0 1) 0 → b ≡ true
    right true none = refl
    right false none = absurd (omega (arith, none))

-- so each of them has the number of the link under its handle
pub all_numbered : (many : ℕ) (links : List OpenUnder) (number : ℕ → ℕ) (opened : ℕ → Bool) → HoldsLinks many links number opened
    → AllByRecursion (λ (one : OpenUnder). one.link ≡ number one.handle) links
all_numbered many links number opened holds =
    from_front [] links (λ before after one are. (one_of many links number opened holds before after one are).number_is)
  where
    from_front : (front rest : List OpenUnder)
        → ((before after : List OpenUnder) (one : OpenUnder) → front ++ rest ≡ before ++ one ∷ after → one.link ≡ number one.handle)
        → AllByRecursion (λ (one : OpenUnder). one.link ≡ number one.handle) rest
    from_front front [] each = tt
    from_front front (one ∷ rest) each = (
      each front rest one refl,
      from_front (front ++ one ∷ []) rest (λ before after other are. each before after other (sym (append_assoc front (one ∷ []) rest) ∙ are)),
    )

-- ---- one link more, and one less

pub opened_holds : (many : ℕ) (links : List OpenUnder) (number number_too : ℕ → ℕ) (opened opened_too : ℕ → Bool) (handle last : ℕ) → handle < many
    → opened handle ≡ false → opened_too handle ≡ true → number_too handle ≡ last
    → ((other : ℕ) → (handle == other) ≡ false → number_too other ≡ number other) → ((other : ℕ) → (handle == other) ≡ false → opened_too other ≡ opened other)
    → HoldsLinks many links number opened → HoldsLinks many (links ++ record { link = last; handle = handle } ∷ []) number_too opened_too
opened_holds many links number number_too opened opened_too handle last few free now is numbers opens holds = record {
  sums = λ of.
      let parts = sum_by_push of links (record { link = last; handle = handle }) in
      let before = holds.sums of in
      let none : share of number opened handle ≡ 0 = ap (λ (b : Bool). cond b (of (record { link = number handle; handle = handle })) 0) free in
      let one : share of number_too opened_too handle ≡ of (record { link = last; handle = handle }) =
      ap (λ (b : Bool). cond b (of (record { link = number_too handle; handle = handle })) 0) now
      ∙ ap (λ (n : ℕ). of (record { link = n; handle = handle })) is in
      let more = sum_more of number number_too opened opened_too 0 many handle (of (record { link = last; handle = handle })) (omega arith) (omega (arith, few))
      (omega (arith, none, one))
      (λ other differs. λ i. cond (opens other differs i) (of (record { link = numbers other differs i; handle = other })) 0) in
      omega (arith, parts, before, more);
  below = λ other on. by other (handle == other) refl on;
}
  where
    by : (other : ℕ) (same : Bool) → (handle == other) ≡ same → opened_too other ≡ true → other < many
    by other true same on = let equal = eqb-true handle other same in omega (arith, equal, few)
    by other false differs on = holds.below other (sym (opens other differs) ∙ on)

pub shut_holds : (many : ℕ) (links : List OpenUnder) (number : ℕ → ℕ) (opened : ℕ → Bool) (handle : ℕ)
    → ((other : ℕ) → opened other ≡ true → (number other == number handle) ≡ (handle == other)) → HoldsLinks many links number opened
    → HoldsLinks many (filter (λ (one : OpenUnder). not (one.link == number handle)) links) number (λ other. cond (handle == other) false (opened other))
shut_holds many links number opened handle apart holds = record {
  sums = λ of.
      filtered_sum of (number handle) links ∙ holds.sums (λ (one : OpenUnder). cond (one.link == number handle) 0 (of one))
      ∙ sum_same of (λ (one : OpenUnder). cond (one.link == number handle) 0 (of one)) number number
      (λ other. cond (handle == other) false (opened other)) opened 0 many (λ other from. by of other (opened other) (handle == other) refl refl);
  below = λ other on. holds.below other (still (handle == other) (opened other) on);
}
  where
    still : (same on : Bool) → cond same false on ≡ true → on ≡ true
    still true on is = absurd (let h : false ≡ true = is in absurd cc)
    still false on is = is

    left : (same : Bool) (count : ℕ) → cond same 0 count ≡ cond (cond same false true) count 0
    left true count = refl
    left false count = refl

    none_left : (same : Bool) (count : ℕ) → 0 ≡ cond (cond same false false) count 0
    none_left true count = refl
    none_left false count = refl

    by : (of : OpenUnder → ℕ) (other : ℕ) (on same : Bool) → opened other ≡ on → (handle == other) ≡ same
        → cond on (cond (number other == number handle) 0 (of (record { link = number other; handle = other }))) 0
        ≡ cond (cond same false on) (of (record { link = number other; handle = other })) 0
    by of other false same is equal = none_left same (of (record { link = number other; handle = other }))
    by of other true same is equal =
        ap (λ (b : Bool). cond b 0 (of (record { link = number other; handle = other }))) (apart other is ∙ equal)
        ∙ left same (of (record { link = number other; handle = other }))

-- numbers and handles that are the same one by one
pub holds_same : (many : ℕ) (links : List OpenUnder) (number number_too : ℕ → ℕ) (opened opened_too : ℕ → Bool) → ((handle : ℕ) → number_too handle ≡ number handle)
    → ((handle : ℕ) → opened_too handle ≡ opened handle) → HoldsLinks many links number opened → HoldsLinks many links number_too opened_too
holds_same many links number number_too opened opened_too numbers opens holds = record {
  sums = λ of. holds.sums of ∙ sym (sum_same of of number number_too opened opened_too 0 many
      (λ handle from. λ i. cond (opens handle i) (of (record { link = numbers handle i; handle = handle })) 0));
  below = λ handle on. holds.below handle (sym (opens handle) ∙ on);
}

pub holds_none : (many : ℕ) (number : ℕ → ℕ) (opened : ℕ → Bool) → ((handle : ℕ) → opened handle ≡ false) → HoldsLinks many [] number opened
holds_none many number opened none = record {
  sums = λ of. sym (sum_zero of number opened 0 many (λ handle. ap (λ (b : Bool). cond b (of (record { link = number handle; handle = handle })) 0) (none handle)));
  below = λ handle on. absurd (let h : false ≡ true = sym (none handle) ∙ on in absurd cc);
}

-- ---- the links of a controller

-- under each handle is the number of its link
pub links_under : (many : ℕ) (links : List OpenUnder) (number : ℕ → ℕ) (places : Links) → HoldsLinks many links number (is_open places) → AreUnder number places links
links_under many links number places holds handle = under_is many links number (is_open places) holds handle ∙ by (link_at handle places)
  where
    by : (place : Option OpenLink) → cond (is_some place) (Some (number handle)) None ≡ option_map (λ (link : OpenLink). number handle) place
    by None = refl
    by (Some link) = refl

-- a sum over them is the one over the places
places_sum : (of : OpenUnder → ℕ) (worth : Option OpenLink → ℕ) (number : ℕ → ℕ) (opened : ℕ → Bool) (first : ℕ) (places : Links) → worth None ≡ 0
    → ((handle : ℕ) → first ≤ handle → opened handle ≡ is_some (link_from first handle places))
    → ((handle : ℕ) (link : OpenLink) → first ≤ handle → link_from first handle places ≡ Some link → of (record { link = number handle; handle = handle }) ≡ worth (Some link))
    → sum_open of number opened first (length places) ≡ sum_by worth places
places_sum of worth number opened first [] none opens each = refl
places_sum of worth number opened first (place ∷ places) none opens each =
    let one = here_is place (here first place places) in
    let rest = places_sum of worth number opened (first + 1) places none
    (λ handle from. opens handle (omega (arith, from)) ∙ ap (λ (p : Option OpenLink). is_some p) (later first handle place places (omega (arith, from))))
    (λ handle link from at. each handle link (omega (arith, from)) (later first handle place places (omega (arith, from)) ∙ at)) in
    let parts = sum_by-cons worth place places in
    omega (arith, one, rest, parts)
  where
    here_is : (one : Option OpenLink) → link_from first first (place ∷ places) ≡ one
        → ◌≡◌ {A = ℕ} (cond (opened first) (of (record { link = number first; handle = first })) 0) (worth place)
    here_is None at =
        ap (λ (b : Bool). cond b (of (record { link = number first; handle = first })) 0) (opens first (omega arith) ∙ ap (λ (p : Option OpenLink). is_some p) at)
        ∙ sym none ∙ ap worth (sym at ∙ here first place places)
    here_is (Some link) at =
        ap (λ (b : Bool). cond b (of (record { link = number first; handle = first })) 0) (opens first (omega arith) ∙ ap (λ (p : Option OpenLink). is_some p) at)
        ∙ each first link (omega arith) at ∙ ap worth (sym at ∙ here first place places)

pub sum_of_places : (of : OpenUnder → ℕ) (worth : Option OpenLink → ℕ) (many : ℕ) (links : List OpenUnder) (number : ℕ → ℕ) (places : Links) → many ≡ length places
    → worth None ≡ 0 → ((handle : ℕ) (link : OpenLink) → link_at handle places ≡ Some link → of (record { link = number handle; handle = handle }) ≡ worth (Some link))
    → HoldsLinks many links number (is_open places) → sum_by of links ≡ sum_by worth places
sum_of_places of worth many links number places same none each holds =
    holds.sums of ∙ ap (sum_open of number (is_open places) 0) same
    ∙ places_sum of worth number (is_open places) 0 places none (λ handle from. refl) (λ handle link from at. each handle link at)
