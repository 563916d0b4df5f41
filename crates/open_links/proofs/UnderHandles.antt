-- What is held under each handle, and the links that it knows.
use Rattle.std.proofs.Common.{◌≡◌, ℕ, ◌+◌, ◌<◌, ◌≤◌, ◌==◌, Bool, true, false, nat_lt, List, [], ◌∷◌, ◌++◌, map, Option, Some, None, IfSome, is_some, if◌then◌else◌, refl, ap, sym, ◌∙◌, subst, arith}
use Rattle.std.specs.Option.{option_map}
use Rattle.link_end.specs.link_model.Step.{Step, DataGiven, DataReported}
use Rattle.link_end.specs.link_model.End.{facts_of}
use Rattle.link_end.specs.link_model.declared.events.Reception.{Reception}
use Rattle.acl_banks.specs.Banks.{Bank, credits_of}
use Rattle.link_end.specs.Held.{Held}
use Rattle.link_end.specs.Tied.{HoldsData, LeavesOthers}
use Rattle.link_end.proofs.Keeping.{given, held_is, knows_tied, reported}
use Rattle.open_links.specs.OpenLinks.{Links, OpenLink, HasHandle, HaveHandles, facts_in, link_after, link_from, with_change_from}
use Rattle.open_links.specs.Data.{complete_in, link_reported, links_reported}
use Rattle.open_links.specs.Knowing.{BankStep, CanHearIn, HeldLink, HoldsUnder, HoldsPlaces, IsTiedIn, KnowsLink, KnowsPlace, KnowsPlaces}
use Rattle.open_links.specs.Sound.{IsWithinAt}
use Rattle.open_links.proofs.Handles.{here, later}

-- ---- under one handle

-- there is a link where one is held
pub some_where_held : (place : Option HeldLink) (link : Option OpenLink) → KnowsPlace place link → is_some place ≡ is_some link
some_where_held None None knows = refl
some_where_held None (Some link) knows = absurd knows
some_where_held (Some held) None knows = absurd knows
some_where_held (Some held) (Some link) knows = refl

-- what is read of a link, where one is held
pub read_at : {A : Type 0} (read : OpenLink → A) (value : A) (held : HeldLink) (place : Option OpenLink) → KnowsPlace (Some held) place
    → ((link : OpenLink) → KnowsLink held link → value ≡ read link) → Some value ≡ option_map read place
read_at read value held None knows is = absurd knows
read_at read value held (Some link) knows is = ap (λ v. Some v) (is link knows)

-- what the calls on an end need
pub tied_at : (place : Option HeldLink) (link : Option OpenLink) (handle : ℕ) (bank : Bank) → KnowsPlace place link
    → HasHandle handle link → HoldsUnder handle bank link → IsTiedIn bank place
tied_at None None handle bank knows has holds = tt
tied_at None (Some link) handle bank knows has holds = absurd knows
tied_at (Some held) None handle bank knows has holds = absurd knows
tied_at (Some held) (Some link) handle bank knows has holds =
    knows_tied link.setup held.end link.past bank knows.end
    (subst (λ n. HoldsData n bank (facts_in link).outgoing) (sym has) holds)

-- a step of an end that leaves what the bank has of others
pub step_bank : (step : Step) (held : HeldLink) (link : OpenLink) (before after : Bank) → KnowsLink held link
    → LeavesOthers held.end.setup.link.handle before after
    → (HoldsData link.setup.link.handle before (facts_of link.setup link.past).outgoing
    → HoldsData link.setup.link.handle after (facts_of link.setup (link.past ++ step ∷ [])).outgoing)
    → BankStep (link_after step) link before after
step_bank step held link before after knows leaves holds =
    record {
      leaves = subst (λ (h : Held). LeavesOthers h.setup.link.handle before after)
          (held_is link.setup held.end link.past knows.end) leaves;
      holds = holds;
    }

heard_before : (last : Option Reception) (slot later_slot : ℕ) → slot ≤ later_slot → IfSome last (λ good. good.slot < slot)
    → IfSome last (λ good. good.slot < later_slot)
heard_before None slot later_slot order heard = tt
heard_before (Some good) slot later_slot order heard = omega (arith, order, heard)

pub hears_at : (place : Option HeldLink) (link : Option OpenLink) (handle heard_to count slot : ℕ) (bank : Bank)
    → KnowsPlace place link → HasHandle handle link → HoldsUnder handle bank link → IsWithinAt heard_to count link
    → heard_to ≤ slot → count < 65535 → CanHearIn slot bank place
hears_at None None handle heard_to count slot bank knows has holds within order few = tt
hears_at None (Some link) handle heard_to count slot bank knows has holds within order few = absurd knows
hears_at (Some held) None handle heard_to count slot bank knows has holds within order few = absurd knows
hears_at (Some held) (Some link) handle heard_to count slot bank knows has holds within order few =
    let is = held_is link.setup held.end link.past knows.end in
    let under : HoldsData link.setup.link.handle bank (facts_in link).outgoing =
    subst (λ n. HoldsData n bank (facts_in link).outgoing) (sym has) holds in
    let counted : credits_of bank held.end.setup.link.handle ≡ complete_in link =
    ap (λ (h : Held). credits_of bank h.setup.link.handle) is ∙ under.complete in
    record {
      tied = knows_tied link.setup held.end link.past bank knows.end under;
      counts = omega (arith, counted, within.complete, few);
      before = subst (λ last. IfSome last (λ good. good.slot < slot)) (sym (ap (λ (h : Held). h.last_good) is))
          (heard_before (facts_in link).last_good heard_to slot order within.heard);
    }

-- ---- changes

-- all places, changed alike
pub map_at : (change : Option OpenLink → Option OpenLink) (first handle : ℕ) (links : Links) → change None ≡ None
    → link_from first handle (map change links) ≡ change (link_from first handle links)
map_at change first handle [] none = sym none
map_at change first handle (place ∷ links) none = by_test (first == handle) (map_at change (first + 1) handle links none)
  where
    by_test : (test : Bool) → link_from (first + 1) handle (map change links) ≡ change (link_from (first + 1) handle links)
        → (if test then change place else link_from (first + 1) handle (map change links))
        ≡ change (if test then place else link_from (first + 1) handle links)
    by_test true rest = refl
    by_test false rest = rest

-- a change that leaves what is held of a link
abbrev LeavesHeld : (OpenLink → OpenLink) → Type 0
LeavesHeld change = (held : HeldLink) (link : OpenLink) → KnowsLink held link → KnowsLink held (change link)

place_left : (change : OpenLink → OpenLink) → LeavesHeld change → (place : Option HeldLink) (link : Option OpenLink) → KnowsPlace place link
    → KnowsPlace place (option_map change link)
place_left change leaves None None knows = tt
place_left change leaves None (Some link) knows = absurd knows
place_left change leaves (Some held) None knows = absurd knows
place_left change leaves (Some held) (Some link) knows = leaves held link knows

left_from : (change : OpenLink → OpenLink) → LeavesHeld change → (first handle : ℕ) (places : List (Option HeldLink)) (links : Links)
    → KnowsPlaces places links → KnowsPlaces places (with_change_from first handle (option_map change) links)
left_from change leaves first handle [] [] know = tt
left_from change leaves first handle [] (link ∷ links) know = absurd know
left_from change leaves first handle (held ∷ helds) [] know = absurd know
left_from change leaves first handle (held ∷ helds) (link ∷ links) (knows, know) =
    by_test (first == handle) (left_from change leaves (first + 1) handle helds links know)
  where
    by_test : (test : Bool) → KnowsPlaces helds (with_change_from (first + 1) handle (option_map change) links)
        → KnowsPlaces (held ∷ helds)
        (if test then option_map change link ∷ links else link ∷ with_change_from (first + 1) handle (option_map change) links)
    by_test true rest = (place_left change leaves held link knows, know)
    by_test false rest = (knows, rest)

left_all : (change : OpenLink → OpenLink) → LeavesHeld change → (places : List (Option HeldLink)) (links : Links) → KnowsPlaces places links
    → KnowsPlaces places (map (option_map change) links)
left_all change leaves [] [] know = tt
left_all change leaves [] (link ∷ links) know = absurd know
left_all change leaves (held ∷ helds) [] know = absurd know
left_all change leaves (held ∷ helds) (link ∷ links) (knows, know) =
    (place_left change leaves held link knows, left_all change leaves helds links know)

given_leaves : (start : Bool) (body : List ℕ) → LeavesHeld (link_after (DataGiven start body))
given_leaves start body held link knows =
    record { end = given link.setup held.end link.past start body knows.end; served = knows.served }

reported_if : (test : Bool) (held : HeldLink) (link : OpenLink) → KnowsLink held link
    → KnowsLink held (if test then link_after DataReported link else link)
reported_if true held link knows = record { end = reported link.setup held.end link.past knows.end; served = knows.served }
reported_if false held link knows = knows

-- what the host does leaves what is held
pub given_places : (handle : ℕ) (start : Bool) (body : List ℕ) (places : List (Option HeldLink)) (links : Links) → KnowsPlaces places links
    → KnowsPlaces places (with_change_from 0 handle (option_map (link_after (DataGiven start body))) links)
given_places handle start body places links know =
    left_from (link_after (DataGiven start body)) (given_leaves start body) 0 handle places links know

pub reported_places : (places : List (Option HeldLink)) (links : Links) → KnowsPlaces places links → KnowsPlaces places (links_reported links)
reported_places places links know =
    left_all link_reported (λ held link knows. reported_if (nat_lt 0 (complete_in link)) held link knows) places links know

-- ---- data, place by place

pub hold_places : (bank : Bank) (first : ℕ) (links : Links) → HaveHandles first links
    → ((handle : ℕ) → first ≤ handle → HoldsUnder handle bank (link_from first handle links)) → HoldsPlaces bank links
hold_places bank first [] have holds = tt
hold_places bank first (None ∷ links) (has, have) holds = (
  tt,
  hold_places bank (first + 1) links have (λ handle from.
      subst (HoldsUnder handle bank) (later first handle None links (omega (arith, from))) (holds handle (omega (arith, from)))),
)
hold_places bank first (Some link ∷ links) (has, have) holds = (
  subst (λ n. HoldsData n bank (facts_in link).outgoing) (sym has)
      (subst (HoldsUnder first bank) (here first (Some link) links) (holds first (omega arith))),
  hold_places bank (first + 1) links have (λ handle from.
      subst (HoldsUnder handle bank) (later first handle (Some link) links (omega (arith, from))) (holds handle (omega (arith, from)))),
)
