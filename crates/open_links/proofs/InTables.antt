-- What is held in a place of a table of links, and the links that it knows, before and after a change of one place.
use Rattle.std.proofs.Common.{◌≡◌, ℕ, zero, suc, ◌+◌, ◌<◌, ◌≤◌, ◌==◌, Bool, true, false, List, [], ◌∷◌, drop, length, map, get_or, set, Option, Some, None, is_some, if◌then◌else◌, refl, ap, sym, ◌∙◌, subst, arith, true≢false}
use Rattle.std.proofs.lemmas.Bool.{eq-eqb}
use Rattle.std.proofs.lemmas.List.{at_drop_more, length-set, set-get_or}
use Rattle.std.specs.Option.{option_map}
use Rattle.open_links.specs.OpenLinks.{Links, OpenLink, link_at, link_from, with_change, with_change_from}
use Rattle.ble_base.specs.declared.error_codes.ErrCode.{ErrCode}
use Rattle.open_links.specs.Turns.{place_without, reason_at, staying_by}
use Rattle.open_links.specs.Knowing.{HeldLink, KnowsLink, KnowsPlace, KnowsPlaces}
use Rattle.open_links.proofs.Handles.{here, later}

-- ---- the place under a handle

at_from : (first n handle : ℕ) → first + n ≡ handle → (places : List (Option HeldLink)) (links : Links)
    → KnowsPlaces places links
    → KnowsPlace (get_or places n None) (link_from first handle links)
at_from first n handle is [] [] know = tt
at_from first n handle is [] (link ∷ links) know = absurd know
at_from first n handle is (held ∷ helds) [] know = absurd know
at_from first zero handle is (held ∷ helds) (link ∷ links) (knows, know) =
    let same : first ≡ handle = omega (arith, is) in
    subst (λ h. KnowsPlace held (link_from first h (link ∷ links))) same (subst (KnowsPlace held) (sym (here first
    link links)) knows)
at_from first (suc n) handle is (held ∷ helds) (link ∷ links) (knows, know) =
    subst (KnowsPlace (get_or helds n None)) (sym (later first handle link links (omega (arith, is))))
    (at_from (first + 1) n handle (omega (arith, is)) helds links know)

pub at_known : (handle : ℕ) (places : List (Option HeldLink)) (links : Links) → KnowsPlaces places links
    → KnowsPlace (get_or places handle None) (link_at handle links)
at_known handle places links know = at_from 0 handle handle (omega arith) places links know

-- another link, or none, in the place
module _ (change : Option OpenLink → Option OpenLink) (new : Option HeldLink) where
  set_here : (test : Bool) (first handle : ℕ) (helds : List (Option HeldLink)) (link : Option OpenLink) (links : Links)
      → test ≡ true
      → KnowsPlaces helds links → KnowsPlace new (change (if test then link else link_from (first + 1) handle links))
      → KnowsPlaces (new ∷ helds) (if test then change link ∷ links else link ∷ with_change_from (first + 1) handle
      change links)
  set_here true first handle helds link links e know knows = (knows, know)
  set_here false first handle helds link links e know knows = absurd (true≢false (sym e))

  set_later : (test : Bool) (first handle : ℕ) (held : Option HeldLink) (helds : List (Option HeldLink)) (link :
      Option OpenLink) (links : Links)
      → test ≡ false → KnowsPlace held link → KnowsPlace new (change (if test then link else link_from (first + 1)
      handle links))
      → (KnowsPlace new (change (link_from (first + 1) handle links)) → KnowsPlaces helds (with_change_from (first +
      1) handle change links))
      → KnowsPlaces (held ∷ helds) (if test then change link ∷ links else link ∷ with_change_from (first + 1) handle
      change links)
  set_later false first handle held helds link links e was knows rest = (was, rest knows)
  set_later true first handle held helds link links e was knows rest = absurd (true≢false e)

  set_from : (first n handle : ℕ) → first + n ≡ handle → (places : List (Option HeldLink)) (links : Links)
      → KnowsPlaces places links
      → KnowsPlace new (change (link_from first handle links)) → KnowsPlaces (set places n new) (with_change_from
      first handle change links)
  set_from first n handle is [] [] know knows = tt
  set_from first n handle is [] (link ∷ links) know knows = absurd know
  set_from first n handle is (held ∷ helds) [] know knows = absurd know
  set_from first zero handle is (held ∷ helds) (link ∷ links) (was, know) knows =
      set_here (first == handle) first handle helds link links (eq-eqb first handle (omega (arith, is))) know knows
  set_from first (suc n) handle is (held ∷ helds) (link ∷ links) (was, know) knows =
      let other : (first == handle) ≡ false = grind (arith, is) in
      set_later (first == handle) first handle held (set helds n new) link links other was knows
      (λ knows. set_from (first + 1) n handle (omega (arith, is)) helds links know knows)

  pub set_known : (handle : ℕ) (places : List (Option HeldLink)) (links : Links) → KnowsPlaces places links
      → KnowsPlace new (change (link_at handle links)) → KnowsPlaces (set places handle new) (with_change_from 0
      handle change links)
  set_known handle places links know knows = set_from 0 handle handle (omega arith) places links know knows

-- a place that is emptied, and then has another link or none
pub set_again : (place : ℕ) (one new : Option HeldLink) (places : List (Option HeldLink))
    → set (set places place one) place new ≡ set places place new
set_again place one new [] = refl
set_again zero one new (held ∷ helds) = refl
set_again (suc place) one new (held ∷ helds) = ap (λ rest. held ∷ rest) (set_again place one new helds)

-- past the places nothing is put
pub set_past : (place : ℕ) (one new : Option HeldLink) (places : List (Option HeldLink)) → length places ≤ place
    → set places place one ≡ set places place new
set_past place one new [] past = refl
set_past zero one new (held ∷ helds) past = absurd (omega (arith, past))
set_past (suc place) one new (held ∷ helds) past =
    ap (λ rest. held ∷ rest) (set_past place one new helds (omega (arith, past)))

-- what is read in a place that was set
pub set_read : (place : ℕ) (new : Option HeldLink) (places : List (Option HeldLink))
    → set places place new ≡ set places place (get_or (set places place new) place None)
set_read place new [] = refl
set_read zero new (held ∷ helds) = refl
set_read (suc place) new (held ∷ helds) = ap (λ rest. held ∷ rest) (set_read place new helds)

pub none_set : (place : ℕ) (places : List (Option HeldLink)) → get_or (set places place None) place None ≡ None
none_set place [] = refl
none_set zero (held ∷ helds) = refl
none_set (suc place) (held ∷ helds) = none_set place helds

-- what is said of the link that is held there
pub said_of : (says : Option OpenLink → Type 0) (held : HeldLink) (handle : ℕ) (places : List (Option HeldLink))
    → get_or places handle None ≡ Some held
    → ((link : OpenLink) → KnowsLink held link → says (Some link)) → (links : Links) → KnowsPlaces places links →
    says (link_at handle links)
said_of says held handle places at each links know =
    by_place (link_at handle links) (subst (λ h. KnowsPlace h (link_at handle links)) at (at_known handle places
    links know))
  where
    by_place : (place : Option OpenLink) → KnowsPlace (Some held) place → says place
    by_place None knows = absurd knows
    by_place (Some link) knows = each link knows

none_held : (held : Option HeldLink) (place : Option OpenLink) → is_some held ≡ false → KnowsPlace held place
    → place ≡ None
none_held None None none knows = refl
none_held None (Some link) none knows = absurd knows
none_held (Some held) place none knows = absurd (true≢false none)

pub said_of_none : (says : Option OpenLink → Type 0) (handle : ℕ) (places : List (Option HeldLink))
    → is_some (get_or places handle None) ≡ false
    → says None → (links : Links) → KnowsPlaces places links → says (link_at handle links)
said_of_none says handle places none here links know =
    subst says (sym (none_held (get_or places handle None) (link_at handle links) none (at_known handle places links
    know))) here

-- the link that is held there changes
pub changed_at : (change : OpenLink → OpenLink) (held new : HeldLink) (handle : ℕ) (places : List (Option HeldLink))
    → get_or places handle None ≡ Some held → (links : Links) → KnowsPlaces places links
    → ((link : OpenLink) → link_at handle links ≡ Some link → KnowsLink held link → KnowsLink new (change link))
    → KnowsPlaces (set places handle (Some new)) (with_change handle change links)
changed_at change held new handle places at links know each =
    set_known (option_map change) (Some new) handle places links know
    (by_place (link_at handle links) refl (subst (λ h. KnowsPlace h (link_at handle links)) at (at_known handle
    places links know)))
  where
    by_place : (place : Option OpenLink) → link_at handle links ≡ place → KnowsPlace (Some held) place
        → KnowsPlace (Some new) (option_map change place)
    by_place None is knows = absurd knows
    by_place (Some link) is knows = each link is knows

pub unchanged_at : (change : OpenLink → OpenLink) (handle : ℕ) (places : List (Option HeldLink))
    → is_some (get_or places handle None) ≡ false
    → (links : Links) → KnowsPlaces places links → KnowsPlaces places (with_change handle change links)
unchanged_at change handle places none links know =
    let knows = at_known handle places links know in
    let gone = none_held (get_or places handle None) (link_at handle links) none knows in
    subst (λ p. KnowsPlaces p (with_change handle change links)) (set-get_or places handle None)
    (set_known (option_map change) (get_or places handle None) handle places links know
    (subst (λ place. KnowsPlace (get_or places handle None) (option_map change place)) (sym gone)
    (subst (KnowsPlace (get_or places handle None)) gone knows)))

-- ---- the places from a handle on

-- what is said of the links from a handle on, by the first of them and the others
said_from : (says : Links → Type 0) (place : ℕ) (places : List (Option HeldLink)) → place < length places
    → ((link : Option OpenLink) (links : Links) → KnowsPlace (get_or places place None) link → KnowsPlaces (drop
    (place + 1) places) links
    → says (link ∷ links))
    → (links : Links) → KnowsPlaces (drop place places) links → says links
said_from says place places below each links know =
    by_links links (subst (λ p. KnowsPlaces p links) (at_drop_more (λ p. p) places place None below) know)
  where
    by_links : (links : Links) → KnowsPlaces (get_or places place None ∷ drop (place + 1) places) links → says links
    by_links [] know = absurd know
    by_links (link ∷ links) (knows, know) = each link links knows know

drop_set : (place : ℕ) (new : Option HeldLink) (places : List (Option HeldLink))
    → drop (suc place) (set places place new) ≡ drop (suc place) places
drop_set place new [] = refl
drop_set zero new (held ∷ helds) = refl
drop_set (suc place) new (held ∷ helds) = drop_set place new helds

-- one place changes, and then the places after it
module _ (place : ℕ) (old middle new : List (Option HeldLink)) (below : place < length old)
    (others : middle ≡ set old place (get_or middle place None)) (long : length new ≡ length middle)
    (before : (i : ℕ) → i < place + 1 → get_or new i None ≡ get_or middle i None) where
  as_long : length new ≡ length old
  as_long = long ∙ ap length others ∙ length-set old place (get_or middle place None)

  rest_is : drop (place + 1) middle ≡ drop (place + 1) old
  rest_is =
      let next : suc place ≡ place + 1 = omega arith in
      ap (drop (place + 1)) others
      ∙ subst (λ k. drop k (set old place (get_or middle place None)) ≡ drop k old) next (drop_set place (get_or
      middle place None) old)

  pub swept_from : (change : Option OpenLink → Option OpenLink)
      → ((link : Option OpenLink) → KnowsPlace (get_or old place None) link → KnowsPlace (get_or middle place None)
      (change link))
      → ((links : Links) → KnowsPlaces (drop (place + 1) middle) links → KnowsPlaces (drop (place + 1) new) (map
      change links))
      → (links : Links) → KnowsPlaces (drop place old) links → KnowsPlaces (drop place new) (map change links)
  swept_from change one rest =
      said_from (λ links. KnowsPlaces (drop place new) (map change links)) place old below
      (λ link links knows know. subst (λ p. KnowsPlaces p (change link ∷ map change links))
      (sym (at_drop_more (λ p. p) new place None (omega (arith, below, as_long)) ∙ ap (λ h. h ∷ drop (place + 1)
      new) (before place (omega arith))))
      (one link knows, rest links (subst (λ p. KnowsPlaces p links) (sym rest_is) know)))

-- ---- a link that has a reason leaves its place

module _ (place : ℕ) (code : Option ErrCode) (old middle : List (Option HeldLink))
    (is : middle ≡ (if is_some code then set old place None else old)) where
  pub left_others : middle ≡ set old place (get_or middle place None)
  left_others = by_code code is
    where
      by_code : (code : Option ErrCode) → middle ≡ (if is_some code then set old place None else old)
          → middle ≡ set old place (get_or middle place None)
      by_code None is = subst (λ m. m ≡ set old place (get_or m place None)) (sym is) (sym (set-get_or old place None))
      by_code (Some code) is = subst (λ m. m ≡ set old place (get_or m place None)) (sym is) (set_read place None old)

  pub left_one : (reason : OpenLink → Option ℕ)
      → ((link : Option OpenLink) → KnowsPlace (get_or old place None) link → option_map (λ code. code.0) code ≡
      reason_at reason link)
      → (link : Option OpenLink) → KnowsPlace (get_or old place None) link → KnowsPlace (get_or middle place None)
      (place_without reason link)
  left_one reason says link knows = by_code code is link knows (says link knows)
    where
      stays : (link : Option OpenLink) → None ≡ reason_at reason link → KnowsPlace (get_or old place None) link
          → KnowsPlace (get_or old place None) (place_without reason link)
      stays None none knows = knows
      stays (Some link) none knows =
          subst (λ (r : Option ℕ). KnowsPlace (get_or old place None) (staying_by r link)) none knows

      goes : (code : ErrCode) (link : Option OpenLink) → Some code.0 ≡ reason_at reason link
          → KnowsPlace None (place_without reason link)
      goes code None some = tt
      goes code (Some link) some = subst (λ (r : Option ℕ). KnowsPlace None (staying_by r link)) some tt

      by_code : (code : Option ErrCode) → middle ≡ (if is_some code then set old place None else old)
          → (link : Option OpenLink)
          → KnowsPlace (get_or old place None) link → option_map (λ (code : ErrCode). code.0) code ≡ reason_at
          reason link
          → KnowsPlace (get_or middle place None) (place_without reason link)
      by_code None is link knows says =
          subst (λ m. KnowsPlace (get_or m place None) (place_without reason link)) (sym is) (stays link says knows)
      by_code (Some code) is link knows says =
          subst (λ m. KnowsPlace (get_or m place None) (place_without reason link)) (sym is)
          (subst (λ h. KnowsPlace h (place_without reason link)) (sym (none_set place old)) (goes code link says))
