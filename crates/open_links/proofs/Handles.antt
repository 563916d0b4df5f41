-- What is under each handle, before and after a change.
use Rattle.std.proofs.Common.{◌≡◌, ◌≢◌, ℕ, zero, suc, ◌+◌, ◌<◌, ◌≤◌, ◌==◌, Bool, true, false, [], ◌∷◌, length, replicate, Option, Some, None, IsSome, if◌then◌else◌, refl, sym, ◌∙◌, subst, arith, rules}
use Rattle.std.proofs.lemmas.Bool.{eq-eqb, eqb-true}
use Rattle.std.specs.Option.{option_map}
use Rattle.link_end.specs.link_model.Setup.{Setup}
use Rattle.open_links.specs.OpenLinks.{Links, OpenLink, HasHandle, HaveHandles, IsFreeHandle, free_from, link_at, link_from, new_link, with_change, with_change_from, with_link, without_link}

apart : (a b : ℕ) → a ≢ b → (a == b) ≡ false
apart a b other = grind arith

pub here : (first : ℕ) (place : Option OpenLink) (links : Links) → link_from first first (place ∷ links) ≡ place
here first place links = rw (eq-eqb first first refl) refl

pub later : (first handle : ℕ) (place : Option OpenLink) (links : Links) → first < handle
    → link_from first handle (place ∷ links) ≡ link_from (first + 1) handle links
later first handle place links below = rw (apart first handle (omega (arith, below))) refl

by_test : (test : Bool) (place rest : Option OpenLink) → IsSome place → (test ≡ false → IsSome rest) → IsSome (if test then place else rest)
by_test true place rest some other = some
by_test false place rest some other = other refl

-- ---- the free handle

some_from : (first other : ℕ) (link : OpenLink) (links : Links) → first ≤ other
    → (first + 1 ≤ other → IsSome (link_from (first + 1) other links)) → IsSome (link_from first other (Some link ∷ links))
some_from first other link links from rest =
    by_test (first == other) (Some link) (link_from (first + 1) other links) (search rules)
    (λ (test : (first == other) ≡ false). rest (grind (arith, test, from)))

free_after : (first : ℕ) (link : OpenLink) (links : Links) (free : Option ℕ) → IsFreeHandle (first + 1) links free
    → IsFreeHandle first (Some link ∷ links) free
free_after first link links None none =
    λ other from within. some_from first other link links from (λ after. none other after (omega (arith, within)))
free_after first link links (Some handle) free =
    record {
      from_first = omega (arith, free.from_first);
      within = omega (arith, free.within);
      free = later first handle (Some link) links (omega (arith, free.from_first)) ∙ free.free;
      least = λ other from below. some_from first other link links from (λ after. free.least other after below);
    }

pub free_is : (first : ℕ) (links : Links) → IsFreeHandle first links (free_from first links)
free_is first [] = λ other from within. absurd (omega (arith, from, within))
free_is first (None ∷ links) =
    record {
      from_first = omega arith;
      within = omega arith;
      free = here first None links;
      least = λ other from below. absurd (omega (arith, from, below));
    }
free_is first (Some link ∷ links) = free_after first link links (free_from (first + 1) links) (free_is (first + 1) links)

-- ---- a change

pub other_stays : (change : Option OpenLink → Option OpenLink) (first handle other : ℕ) (links : Links) → other ≢ handle
    → link_from first other (with_change_from first handle change links) ≡ link_from first other links
other_stays change first handle other [] apart_from = refl
other_stays change first handle other (place ∷ links) apart_from =
    at (first == handle) refl (other_stays change (first + 1) handle other links apart_from)
  where
    rest_same : (test : Bool) (place one two : Option OpenLink) → one ≡ two → (if test then place else one) ≡ (if test then place else two)
    rest_same true place one two same = refl
    rest_same false place one two same = same

    at : (test : Bool) → (first == handle) ≡ test
        → link_from (first + 1) other (with_change_from (first + 1) handle change links) ≡ link_from (first + 1) other links
        → link_from first other (if test then change place ∷ links else place ∷ with_change_from (first + 1) handle change links)
        ≡ link_from first other (place ∷ links)
    at true e same = rw (apart first other (λ f. apart_from (sym f ∙ eqb-true first handle e))) refl
    at false e same = rest_same (first == other) place _ _ same

pub changed_is : (change : Option OpenLink → Option OpenLink) (first handle : ℕ) (links : Links) → change None ≡ None
    → link_from first handle (with_change_from first handle change links) ≡ change (link_from first handle links)
changed_is change first handle [] none = sym none
changed_is change first handle (place ∷ links) none =
    at (first == handle) refl (changed_is change (first + 1) handle links none)
  where
    at : (test : Bool) → (first == handle) ≡ test
        → link_from (first + 1) handle (with_change_from (first + 1) handle change links) ≡ change (link_from (first + 1) handle links)
        → link_from first handle (if test then change place ∷ links else place ∷ with_change_from (first + 1) handle change links)
        ≡ change (if test then place else link_from (first + 1) handle links)
    at true e same = rw e refl
    at false e same = rw e same

opened_is : (link : OpenLink) (first handle : ℕ) (links : Links) → first ≤ handle → handle < first + length links
    → link_from first handle (with_change_from first handle (λ place. Some link) links) ≡ Some link
opened_is link first handle [] from within = absurd (omega (arith, from, within))
opened_is link first handle (place ∷ links) from within =
    at (first == handle) refl
    (λ (e : (first == handle) ≡ false).
    opened_is link (first + 1) handle links (grind (arith, e, from)) (omega (arith, within)))
  where
    at : (test : Bool) → (first == handle) ≡ test
        → ((first == handle) ≡ false
        → link_from (first + 1) handle (with_change_from (first + 1) handle (λ place. Some link) links) ≡ Some link)
        → link_from first handle (if test then Some link ∷ links else place ∷ with_change_from (first + 1) handle (λ place. Some link) links)
        ≡ Some link
    at true e rest = rw e refl
    at false e rest = rw e (rest e)

pub opened_at : (setup : Setup) (links : Links) → setup.link.handle < length links
    → link_at setup.link.handle (with_link setup links) ≡ Some (new_link setup)
opened_at setup links within = opened_is (new_link setup) 0 setup.link.handle links (omega arith) (omega (arith, within))

-- ---- handles

pub has_its_handle : (first handle : ℕ) (links : Links) → HaveHandles first links → HasHandle handle (link_from first handle links)
has_its_handle first handle [] have = tt
has_its_handle first handle (place ∷ links) (has, have) = at (first == handle) refl (has_its_handle (first + 1) handle links have)
  where
    at : (test : Bool) → (first == handle) ≡ test → HasHandle handle (link_from (first + 1) handle links)
        → HasHandle handle (if test then place else link_from (first + 1) handle links)
    at true e rest = subst (λ n. HasHandle n place) (eqb-true first handle e) has
    at false e rest = rest

pub change_keeps : (change : Option OpenLink → Option OpenLink) (first handle : ℕ) (links : Links)
    → ((place : Option OpenLink) → HasHandle handle place → HasHandle handle (change place)) → HaveHandles first links
    → HaveHandles first (with_change_from first handle change links)
change_keeps change first handle [] keeps have = tt
change_keeps change first handle (place ∷ links) keeps (has, have) =
    at (first == handle) refl (change_keeps change (first + 1) handle links keeps have)
  where
    at : (test : Bool) → (first == handle) ≡ test → HaveHandles (first + 1) (with_change_from (first + 1) handle change links)
        → HaveHandles first (if test then change place ∷ links else place ∷ with_change_from (first + 1) handle change links)
    at true e rest =
        let same = eqb-true first handle e in
        (subst (λ n. HasHandle n (change place)) (sym same) (keeps place (subst (λ n. HasHandle n place) same has)), have)
    at false e rest = (has, rest)

-- two links have two handles
pub handle_is : (first handle : ℕ) (links : Links) (link : OpenLink) → HaveHandles first links
    → link_from first handle links ≡ Some link → link.setup.link.handle ≡ handle
handle_is first handle links link have at = subst (HasHandle handle) at (has_its_handle first handle links have)

pub two_handles : (links : Links) (one other : ℕ) (a b : OpenLink) → HaveHandles 0 links → link_at one links ≡ Some a
    → link_at other links ≡ Some b → a.setup.link.handle ≡ b.setup.link.handle → one ≡ other
two_handles links one other a b have is_a is_b same =
    sym (handle_is 0 one links a have is_a) ∙ same ∙ handle_is 0 other links b have is_b

pub none_have : (first n : ℕ) → HaveHandles first (replicate n None)
none_have first zero = tt
none_have first (suc n) = (tt, none_have (first + 1) n)

pub opened_has : (setup : Setup) (links : Links) → HaveHandles 0 links → HaveHandles 0 (with_link setup links)
opened_has setup links have = change_keeps (λ place. Some (new_link setup)) 0 setup.link.handle links (λ place has. refl) have

pub shut_have : (handle : ℕ) (links : Links) → HaveHandles 0 links → HaveHandles 0 (without_link handle links)
shut_have handle links have = change_keeps (λ place. None) 0 handle links (λ place has. tt) have

pub place_keeps : (change : OpenLink → OpenLink) → ((link : OpenLink) → (change link).setup ≡ link.setup) → (handle : ℕ)
    → (place : Option OpenLink) → HasHandle handle place → HasHandle handle (option_map change place)
place_keeps change same handle None has = tt
place_keeps change same handle (Some link) has = rw (same link) has

pub changed_have : (handle : ℕ) (change : OpenLink → OpenLink) (links : Links) → ((link : OpenLink) → (change link).setup ≡ link.setup)
    → HaveHandles 0 links → HaveHandles 0 (with_change handle change links)
changed_have handle change links same have =
    change_keeps (option_map change) 0 handle links (place_keeps change same handle) have

-- the lemmas of each law
pub ruleset changes = (other_stays, changed_is, opened_at)

pub ruleset own_handles = (two_handles, none_have, opened_has, shut_have)
