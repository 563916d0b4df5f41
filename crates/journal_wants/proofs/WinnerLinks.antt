-- A link that wins a slot is open, and has entered its event as the controller begins its turn.
use Rattle.std.proofs.Common.{◌≡◌, ℕ, ◌+◌, Bool, true, false, Some, None, List, [], ◌∷◌, ◌++◌, refl, sym, ap, ◌∙◌, if◌then◌else◌}
use Rattle.std.specs.Prelude.{is_some}
use Rattle.std.specs.List.{AllByRecursion}
use Rattle.std.specs.Option.{option_map}
use Rattle.slot_plan.specs.Holding.{is_held_in, winner_of}
use Rattle.slot_plan.specs.Winner.{first_activity, first_of, is_before}
use Rattle.slot_plan.specs.declared.Activity.{Activity}
use Rattle.slot_plan.specs.declared.Activity.TheVariants.{Advertise, Initiate, Link, Scan}
use Rattle.slot_plan.specs.declared.Want.{Want}
use Rattle.journal_events.specs.journal_sending.controller_model.Entering.{all_entered, wants_from}
use Rattle.journal_events.specs.journal_sending.controller_model.Facts.{Facts}
use Rattle.journal_events.specs.journal_sending.controller_model.Radio.{advertiser_wants, initiator_channel, plan_in, scanner_channel, want_if, wants_in}
use Rattle.journal_events.proofs.journal_sending.controller_model.LinkNotes.{AreIn, all_in, first_in, rest_in}
use Rattle.journal_events.specs.journal_sending.journal_data.open_links.OpenLinks.{Links, OpenLink, link_at}
use Rattle.journal_events.specs.journal_sending.journal_data.open_links.Turns.{enters_in, link_entered, wants_entering}
use Rattle.journal_events.specs.journal_sending.journal_data.open_links.Wants.{want_if as want_link}
use Rattle.journal_events.proofs.journal_sending.journal_acks.link_calls.Exchanging.{wants_anchor}
use Rattle.journal_events.proofs.journal_sending.journal_acks.link_calls.UnderHandles.{map_under}

-- ---- what wants a slot

-- a link that does is open, and wants to enter its event
pub record IsWanting (slot handle : ℕ) (links : Links) : Type 0 where
  pub link : OpenLink
  pub is_open : link_at handle links ≡ Some link
  pub wants : wants_entering slot link ≡ true

abbrev IsOfOpen : ℕ → Links → Want → Type 0
IsOfOpen slot whole want = (handle : ℕ) → want.activity ≡ Link handle → IsWanting slot handle whole

wanting_if : (wants : Bool) (slot first last : ℕ) (whole : Links) (link : OpenLink) → link_at first whole ≡ Some link → wants_entering slot link ≡ wants
    → AllByRecursion (IsOfOpen slot whole) (want_link wants first last)
wanting_if true slot first last whole link at is = (
  (λ handle same.
      let one : Link first ≡ Link handle = same in
      let equal : first ≡ handle = cc in
      record { link = link; is_open = ap (λ n. link_at n whole) (sym equal) ∙ at; wants = is }),
  tt,
)
wanting_if false slot first last whole link at is = tt

both_all : (P : Want → Type 0) (xs ys : List Want) → AllByRecursion P xs → AllByRecursion P ys → AllByRecursion P (xs ++ ys)
both_all P [] ys all more = more
both_all P (want ∷ xs) ys all more = (all.0, both_all P xs ys all.1 more)

links_wanting : (slot : ℕ) (whole : Links) (first : ℕ) (links : Links) → AreIn whole first links → AllByRecursion (IsOfOpen slot whole) (wants_from slot first links)
links_wanting slot whole first [] are = tt
links_wanting slot whole first (None ∷ links) are = links_wanting slot whole (first + 1) links (rest_in whole first None links are)
links_wanting slot whole first (Some link ∷ links) are =
    both_all (IsOfOpen slot whole) (want_link (wants_entering slot link) first link.last_served) (wants_from slot (first + 1) links)
    (wanting_if (wants_entering slot link) slot first link.last_served whole link (first_in whole first link links are) refl)
    (links_wanting slot whole (first + 1) links (rest_in whole first (Some link) links are))

other_wants : (slot : ℕ) (whole : Links) (wants : Bool) (activity : Activity) → ((handle : ℕ) → activity ≡ Link handle → ⊥) → AllByRecursion (IsOfOpen slot whole) (want_if wants activity)
other_wants slot whole true activity none = ((λ handle same. absurd (none handle same)), tt)
other_wants slot whole false activity none = tt

all_wanting : (slot : ℕ) (facts : Facts) → AllByRecursion (IsOfOpen slot facts.links) (wants_in slot facts)
all_wanting slot facts =
    let P = IsOfOpen slot facts.links in
    both_all P _ _ (both_all P _ _ (both_all P _ _ (links_wanting slot facts.links 0 facts.links (all_in facts.links))
    (other_wants slot facts.links (advertiser_wants slot facts.advertising.on) Advertise (λ handle same. absurd cc)))
    (other_wants slot facts.links (is_some (scanner_channel slot facts.scanning.on)) Scan (λ handle same. absurd cc)))
    (other_wants slot facts.links (is_some (initiator_channel slot facts.initiator)) Initiate (λ handle same. absurd cc))

earlier_has : (P : Want → Type 0) (want other : Want) (test : Bool) → P want → P other → P (if test then want else other)
earlier_has P want other true has has_too = has
earlier_has P want other false has has_too = has_too

first_has : (P : Want → Type 0) (want : Want) (wants : List Want) → P want → AllByRecursion P wants → P (first_of want wants)
first_has P want [] has all = has
first_has P want (next ∷ wants) has all =
    earlier_has P want (first_of next wants) (is_before want (first_of next wants)) has (first_has P next wants all.0 all.1)

activity_wanting : (slot handle : ℕ) (whole : Links) (wants : List Want) → AllByRecursion (IsOfOpen slot whole) wants → first_activity wants ≡ Some (Link handle)
    → IsWanting slot handle whole
activity_wanting slot handle whole [] all is = absurd cc
activity_wanting slot handle whole (want ∷ wants) all is =
    let same : (first_of want wants).activity ≡ Link handle = cc in first_has (IsOfOpen slot whole) want wants all.0 all.1 handle same

pub winner_wanting : (slot handle : ℕ) (facts : Facts) → winner_of (plan_in slot facts) slot ≡ Some (Link handle) → IsWanting slot handle facts.links
winner_wanting slot handle facts = by (is_held_in facts.radio.hold slot)
  where
    by : (held : Bool) → (if held then None else first_activity (wants_in slot facts)) ≡ Some (Link handle) → IsWanting slot handle facts.links
    by true is = absurd cc
    by false is = activity_wanting slot handle facts.links (wants_in slot facts) (all_wanting slot facts) is

-- ---- it enters its event

pub entered_at : (slot handle : ℕ) (links : Links) (link : OpenLink) → link_at handle links ≡ Some link → link_at handle (all_entered slot links) ≡ Some (link_entered slot link)
entered_at slot handle links link at = map_under (option_map (link_entered slot)) refl 0 handle links ∙ ap (option_map (link_entered slot)) at

pub wanting_enters : (slot : ℕ) (link : OpenLink) → wants_entering slot link ≡ true → enters_in slot link ≡ true
wanting_enters slot link wants = wants_anchor (enters_in slot link) slot link refl wants
