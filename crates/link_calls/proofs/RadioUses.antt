-- What the radio is used for: a link that wins a slot wants it, and only a link that has the radio sends and listens.
use Rattle.std.proofs.Common.{◌≡◌, ℕ, ◌+◌, ◌&&◌, Bool, true, false, Option, Some, None, List, [], ◌∷◌, ◌++◌, replicate, refl, sym, ap, subst, ◌∙◌}
use Rattle.std.specs.Prelude.{is_some, nat_lt, if◌then◌else◌}
use Rattle.std.specs.List.{AllByRecursion}
use Rattle.std.proofs.lemmas.Bool.{eqb-true}
use Rattle.ble_base.specs.declared.roles.Role.{Role}
use Rattle.ble_base.specs.declared.roles.Role.TheVariants.{Central, Peripheral}
use Rattle.run_laws.specs.advertise.Advertising.{AdvertiserFacts, event_channel}
use Rattle.run_laws.specs.open_links.OpenLinks.{Links, OpenLink, link_at}
use Rattle.run_laws.specs.open_links.Wants.{want_if as want_link}
use Rattle.run_laws.specs.open_links.Turns.{wants_entering}
use Rattle.slot_plan.specs.Winner.{first_activity, first_of, is_before}
use Rattle.slot_plan.specs.declared.Activity.{Activity}
use Rattle.slot_plan.specs.declared.Activity.TheVariants.{Link, Advertise, Scan, Initiate}
use Rattle.slot_plan.specs.declared.Want.{Want}
use Rattle.run_laws.specs.controller_model.declared.doing.Doing.{Doing}
use Rattle.run_laws.specs.controller_model.declared.doing.Doing.TheVariants.{Rests}
use Rattle.run_laws.specs.controller_model.Facts.{Setup, Facts, first_facts}
use Rattle.run_laws.specs.controller_model.Radio.{advertiser_wants, advertises_at, advertises_on, exchange_begins, initiates_on, initiator_channel, scanner_channel, scans_on, want_if, wants_in}
use Rattle.run_laws.proofs.controller_model.LinkNotes.{AreIn, all_in, first_in, rest_in}
use Rattle.link_calls.specs.Uses.{is_on_link}
use Rattle.run_laws.proofs.OpenSteps.{none_open, open_has}
use Rattle.link_calls.proofs.LinkCalls.{off_listens, off_sends}
use Rattle.link_calls.specs.Uses.{listens_under, sends_under}
use Rattle.run_laws.specs.controller_model.Entering.{wants_from}

-- ---- what wins a slot wants it

-- a link that wants a slot enters its event in it
abbrev IsEntering : ℕ → Links → Want → Type 0
IsEntering slot whole want = (handle : ℕ) (link : OpenLink) → want.activity ≡ Link handle → link_at handle whole ≡ Some link → wants_entering slot link ≡ true

entering_if : (wants : Bool) (slot first last_served : ℕ) (whole : Links) (link : OpenLink) → link_at first whole ≡ Some link → wants_entering slot link ≡ wants
    → AllByRecursion (IsEntering slot whole) (want_link wants first last_served)
entering_if true slot first last_served whole link at is = (
  (λ handle other same found.
      let one : Link first ≡ Link handle = same in
      let equal : first ≡ handle = cc in
      let links : Some link ≡ Some other = sym at ∙ ap (λ n. link_at n whole) equal ∙ found in
      let alike : link ≡ other = cc in subst (λ (l : OpenLink). wants_entering slot l ≡ true) alike is),
  tt,
)
entering_if false slot first last_served whole link at is = tt

both_all : (P : Want → Type 0) (xs ys : List Want) → AllByRecursion P xs → AllByRecursion P ys → AllByRecursion P (xs ++ ys)
both_all P [] ys all more = more
both_all P (want ∷ xs) ys all more = (all.0, both_all P xs ys all.1 more)

links_entering : (slot : ℕ) (whole : Links) (first : ℕ) (links : Links) → AreIn whole first links → AllByRecursion (IsEntering slot whole) (wants_from slot first links)
links_entering slot whole first [] are = tt
links_entering slot whole first (None ∷ links) are = links_entering slot whole (first + 1) links (rest_in whole first None links are)
links_entering slot whole first (Some link ∷ links) are =
    both_all (IsEntering slot whole) (want_link (wants_entering slot link) first link.last_served) (wants_from slot (first + 1) links)
    (entering_if (wants_entering slot link) slot first link.last_served whole link (first_in whole first link links are) refl)
    (links_entering slot whole (first + 1) links (rest_in whole first (Some link) links are))

other_wants : (slot : ℕ) (whole : Links) (wants : Bool) (activity : Activity) → ((handle : ℕ) → activity ≡ Link handle → ⊥) → AllByRecursion (IsEntering slot whole) (want_if wants activity)
other_wants slot whole true activity none = ((λ handle link same at. absurd (none handle same)), tt)
other_wants slot whole false activity none = tt

all_entering : (slot : ℕ) (facts : Facts) → AllByRecursion (IsEntering slot facts.links) (wants_in slot facts)
all_entering slot facts =
    let P = IsEntering slot facts.links in
    both_all P _ _ (both_all P _ _ (both_all P _ _ (links_entering slot facts.links 0 facts.links (all_in facts.links))
    (other_wants slot facts.links (advertiser_wants slot facts.advertising.on) Advertise (λ handle same. absurd cc)))
    (other_wants slot facts.links (is_some (scanner_channel slot facts.scanning.on)) Scan (λ handle same. absurd cc)))
    (other_wants slot facts.links (is_some (initiator_channel slot facts.initiator)) Initiate (λ handle same. absurd cc))

earlier_has : (P : Want → Type 0) (want other : Want) (test : Bool) → P want → P other → P (if test then want else other)
earlier_has P want other true has has_too = has
earlier_has P want other false has has_too = has_too

first_has : (P : Want → Type 0) (want : Want) (wants : List Want) → P want → AllByRecursion P wants → P (first_of want wants)
first_has P want [] has all = has
first_has P want (next ∷ wants) has all =
    earlier_has P want (first_of next wants) (is_before want (first_of next wants)) has (first_has P next wants all.0 all.1)

activity_wants : (slot handle : ℕ) (whole : Links) (link : OpenLink) (wants : List Want) → AllByRecursion (IsEntering slot whole) wants → first_activity wants ≡ Some (Link handle)
    → link_at handle whole ≡ Some link → wants_entering slot link ≡ true
activity_wants slot handle whole link [] all is at = absurd cc
activity_wants slot handle whole link (want ∷ wants) all is at =
    let same : (first_of want wants).activity ≡ Link handle = cc in first_has (IsEntering slot whole) want wants all.0 all.1 handle link same at

pub winner_wants : (slot handle : ℕ) (facts : Facts) (link : OpenLink) (held : Bool) → (if held then None else first_activity (wants_in slot facts)) ≡ Some (Link handle)
    → link_at handle facts.links ≡ Some link → wants_entering slot link ≡ true
winner_wants slot handle facts link true is at = absurd cc
winner_wants slot handle facts link false is at = activity_wants slot handle facts.links link (wants_in slot facts) (all_entering slot facts) is at

pub data Uses (handle : ℕ) (doing : Doing) : Type 0 where
  Sending : sends_under handle doing ≡ true → Uses handle doing
  Listening : listens_under handle doing ≡ true → Uses handle doing

pub off_uses : (handle : ℕ) (doing : Doing) (X : Type 0) → is_on_link doing ≡ false → Uses handle doing → X
off_uses handle doing X off (Sending on) = absurd (let h : true ≡ false = sym on ∙ off_sends handle doing off in absurd cc)
off_uses handle doing X off (Listening on) = absurd (let h : true ≡ false = sym on ∙ off_listens handle doing off in absurd cc)

pub exchange_uses : (role : Role) (handle other : ℕ) → Uses handle (exchange_begins role other) → other ≡ handle
exchange_uses Central handle other (Sending on) = eqb-true other handle on
exchange_uses Central handle other (Listening on) = absurd cc
exchange_uses Peripheral handle other (Sending on) = absurd cc
exchange_uses Peripheral handle other (Listening on) = eqb-true other handle on

on_off : (channel : Option ℕ) → is_on_link (advertises_on channel) ≡ false
on_off None = refl
on_off (Some channel) = refl

if_off : (test : Bool) (channel : Option ℕ) → is_on_link (if test then advertises_on channel else Rests) ≡ false
if_off true channel = on_off channel
if_off false channel = refl

pub advertises_off : (place : ℕ) (on : Option AdvertiserFacts) → is_on_link (advertises_at place on) ≡ false
advertises_off place None = refl
advertises_off place (Some on) = if_off (nat_lt place 3) (event_channel on.params.channels place)

pub scans_off : (channel : Option ℕ) → is_on_link (scans_on channel) ≡ false
scans_off None = refl
scans_off (Some channel) = refl

pub initiates_off : (channel : Option ℕ) → is_on_link (initiates_on channel) ≡ false
initiates_off None = refl
initiates_off (Some channel) = refl

pub first_of_both : (one other : Bool) → (one && other) ≡ true → one ≡ true
first_of_both true other is = refl
first_of_both false other is = absurd cc

pub rests_uses : (handle : ℕ) (doing : Doing) (X : Type 0) → doing ≡ Rests → Uses handle doing → X
rests_uses handle doing X is uses = off_uses handle doing X (ap is_on_link is) uses

pub no_link : (setup : Setup) (handle : ℕ) (link : OpenLink) (X : Type 0) → link_at handle (first_facts setup).links ≡ Some link → X
no_link setup handle link X at = absurd (open_has (λ one. ⊥) 0 handle (replicate setup.links None) link (none_open (λ one. ⊥) setup.links) at)
