-- Each call on the links that know their pasts: they know the pasts after it.
use Rattle.std.proofs.Common.{◌≡◌, ℕ, ◌+◌, ◌<◌, ◌≤◌, nat_lt, Bool, true, false, List, [], ◌∷◌, fold, get_or, length, map, Option, Some, None, is_some, if◌then◌else◌, refl, sym, ◌∙◌, subst}
use Rattle.std.specs.Option.{option_map}
use Rattle.ble_base.specs.declared.channel_map.ChannelMap.{ChannelMap}
use Rattle.acl_banks.specs.declared.pieces.Piece.{Piece}
use Rattle.acl_banks.specs.Packets.{new_packet}
use Rattle.acl_banks.specs.Banks.{Bank, bank_after_credited, bank_after_drop, bank_after_offer, taken_buffers}
use Rattle.link_end.specs.link_model.Setup.{Setup}
use Rattle.link_end.specs.link_model.Step.{Step, DataGiven, DataReported, EventEntered}
use Rattle.link_end.specs.Tied.{HoldsData}
use Rattle.link_end.proofs.Banked.{drop_leaves, offer_leaves}
use Rattle.link_end.proofs.Keeping.{begun, given_holds}
use Rattle.open_links.specs.declared.ended.LinkEnded.{LinkEnded}
use Rattle.open_links.specs.declared.offers.Completed.{Completed}
use Rattle.open_links.specs.declared.offers.Offer.{Offer}
use Rattle.open_links.specs.declared.offers.Offer.TheVariants.{NoLink, Empty, Overflow, Kept}
use Rattle.open_links.specs.Ended.{received_without}
use Rattle.open_links.specs.Offered.{bank_offered}
use Rattle.open_links.proofs.Dropping.{dropped}
use Rattle.open_links.specs.OpenLinks.{Links, OpenLink, HasHandle, HaveHandles, facts_in, handles_from, link_after, link_at, link_from, link_served, new_link, with_change, with_link, without_link, without_links}
use Rattle.open_links.specs.Data.{buffers_taken, complete_in, completed_from, links_given, links_offered, links_reported, offer_by, received_past}
use Rattle.open_links.specs.Turns.{ends_by, enters_in, link_entered, links_without}
use Rattle.open_links.specs.Hosts.{links_asked_map}
use Rattle.open_links.specs.Knowing.{BankGoes, BankStep, CanHearIn, HeldLink, HeldLinks, HoldsPlace, HoldsPlaces, HoldsUnder, IsTiedIn, Knows, KnowsPlace, KnowsPlaces}
use Rattle.open_links.specs.Sound.{AreSound, IsWithin}
use Rattle.open_links.proofs.Handles.{changed_have, has_its_handle, opened_has, other_stays, shut_have}
use Rattle.open_links.proofs.Ends.{stay_with_handles}
use Rattle.open_links.proofs.InTables.{at_known}
use Rattle.open_links.proofs.Unmoved.{LeavesData, asked_map_setup, entered_leaves, left_bank, step_bank_if}
use Rattle.open_links.proofs.UnderHandles.{given_places, hears_at, hold_places, reported_places, some_where_held, tied_at}
use Rattle.open_links.proofs.Banks.{data_changed, one_changed, put_is}
use Rattle.open_links.proofs.Sweeps.{ended_data, mapped_data, reported_data, shut_data}
use Rattle.open_links.proofs.Taken.{taken_is}
use Rattle.open_links.proofs.Within.{AreWithin, change_within}

-- ---- what the calls need

pub knows_place : (held : HeldLinks) (links : Links) (received : List (ℕ × Piece)) → Knows held links received → KnowsPlaces held.places links
unfolding Knows
knows_place held links received known = known.places

pub knows_pieces : (held : HeldLinks) (links : Links) (received : List (ℕ × Piece)) → Knows held links received → held.received ≡ received
unfolding Knows
knows_pieces held links received known = known.pieces

pub knows_handles : (held : HeldLinks) (links : Links) (received : List (ℕ × Piece)) → Knows held links received → HaveHandles 0 links
unfolding Knows
knows_handles held links received known = known.handles

-- a link that has the radio keeps its data
pub served_bank : (slot : ℕ) (place : Option OpenLink) (bank : Bank) → BankGoes (link_served slot) place bank bank
served_bank slot None bank = refl
served_bank slot (Some link) bank = record { leaves = λ other differs. (refl, refl); holds = λ holds. holds }

-- whether a link is open, as the code finds it
pub is_open : {A : Type 0} (held : A → HeldLink) (found : Option A) (link : Option OpenLink) → KnowsPlace (option_map held found) link
    → is_some found ≡ is_some link
is_open held None link knows = some_where_held None link knows
is_open held (Some one) link knows = some_where_held (Some (held one)) link knows

pub is_tied : (held : HeldLinks) (handle : ℕ) → AreSound held → IsTiedIn held.bank (get_or held.places handle None)
unfolding Knows
is_tied held handle sound =
    let known = sound.know in
    tied_at (get_or held.places handle None) (link_at handle sound.links) handle held.bank
    (at_known handle held.places sound.links known.places) (has_its_handle 0 handle sound.links known.handles) (known.data_of handle)

pub can_hear : (held : HeldLinks) (handle slot : ℕ) → AreSound held → held.heard_to ≤ slot → held.unreported < 65535
    → CanHearIn slot held.bank (get_or held.places handle None)
unfolding Knows
can_hear held handle slot sound order few =
    let known = sound.know in
    hears_at (get_or held.places handle None) (link_at handle sound.links) handle held.heard_to held.unreported slot held.bank
    (at_known handle held.places sound.links known.places) (has_its_handle 0 handle sound.links known.handles) (known.data_of handle)
    (sound.within handle) order few

-- the data of the link under a handle, where it is
pub holds_place : (held : HeldLinks) (links : Links) (received : List (ℕ × Piece)) (handle : ℕ) → Knows held links received
    → HoldsPlace held.bank (link_from 0 handle links)
unfolding Knows
holds_place held links received handle known =
    by_place (link_at handle links) (has_its_handle 0 handle links known.handles) (known.data_of handle)
  where
    by_place : (place : Option OpenLink) → HasHandle handle place → HoldsUnder handle held.bank place → HoldsPlace held.bank place
    by_place None has holds = tt
    by_place (Some link) has holds = subst (λ n. HoldsData n held.bank (facts_in link).outgoing) (sym has) holds

pub holds_places : (held : HeldLinks) (links : Links) (received : List (ℕ × Piece)) → Knows held links received → HoldsPlaces held.bank links
unfolding Knows
holds_places held links received known = hold_places held.bank 0 links known.handles (λ handle from. known.data_of handle)

-- ---- one link changes

pub change_known : (change : OpenLink → OpenLink) (handle : ℕ) (held new : HeldLinks) (links : Links) (before after : List (ℕ × Piece))
    → ((link : OpenLink) → (change link).setup ≡ link.setup) → Knows held links before
    → KnowsPlaces new.places (with_change handle change links) → BankGoes change (link_at handle links) held.bank new.bank
    → new.received ≡ after → Knows new (with_change handle change links) after
unfolding Knows
change_known change handle held new links before after same known places bank received =
    record {
      places = places;
      handles = changed_have handle change links same known.handles;
      data_of = data_changed change handle links held.bank new.bank known.handles bank known.data_of;
      pieces = received;
    }

-- what holds of the links goes on to hold
pub sound_after : (held new : HeldLinks) (step : Links → Links) → AreSound held
    → ((links : Links) → Knows held links held.received → Knows new (step links) new.received)
    → ((links : Links) → AreWithin held.heard_to held.unreported links → AreWithin new.heard_to new.unreported (step links))
    → AreSound new
sound_after held new step sound knows within =
    record {
      links = step sound.links;
      know = knows sound.links sound.know;
      within = within sound.links sound.within;
    }

pub changed_sound : (change : OpenLink → OpenLink) (handle : ℕ) (held new : HeldLinks)
    → ((link : OpenLink) → (change link).setup ≡ link.setup) → AreSound held
    → ((links : Links) → Knows held links held.received → KnowsPlaces new.places (with_change handle change links))
    → ((links : Links) → Knows held links held.received → BankGoes change (link_at handle links) held.bank new.bank)
    → held.heard_to ≤ new.heard_to → held.unreported ≤ new.unreported
    → ((link : OpenLink) → IsWithin held.heard_to held.unreported link → IsWithin new.heard_to new.unreported (change link))
    → AreSound new
changed_sound change handle held new same sound places bank later more within =
    sound_after held new (with_change handle change) sound
    (λ links known. change_known change handle held new links held.received new.received same known (places links known)
    (bank links known) refl)
    (λ links inside. change_within held.heard_to held.unreported new.heard_to new.unreported change handle links later more within inside)

-- a step that moves no data leaves the bank
pub left_goes : (step : Step) → LeavesData step → (place : Option OpenLink) (bank : Bank) → BankGoes (link_after step) place bank bank
left_goes step leaves None bank = refl
left_goes step leaves (Some link) bank = left_bank step leaves link bank

pub entered_goes : (slot : ℕ) (place : Option OpenLink) (bank : Bank) → BankGoes (link_entered slot) place bank bank
entered_goes slot None bank = refl
entered_goes slot (Some link) bank =
    step_bank_if (enters_in slot link) (link_entered slot) (EventEntered slot) link bank bank refl
    (λ e. left_bank (EventEntered slot) (entered_leaves slot) link bank) (λ e. refl)

-- ---- a link is opened or shut

pub open_known : (setup : Setup) (held new : HeldLinks) (links : Links) (before after : List (ℕ × Piece)) → Knows held links before
    → KnowsPlaces new.places (with_link setup links) → new.bank ≡ bank_after_drop held.bank setup.link.handle
    → new.received ≡ after → Knows new (with_link setup links) after
unfolding Knows
open_known setup held new links before after known places bank received =
    let handle = setup.link.handle in
    let none = dropped handle held.bank in
    record {
      places = places;
      handles = opened_has setup links known.handles;
      data_of = λ other. subst (λ bank. HoldsUnder other bank (link_at other (with_link setup links))) (sym bank)
          (one_changed handle links (with_link setup links) held.bank (bank_after_drop held.bank handle)
          (λ other differs. other_stays (λ place. Some (new_link setup)) 0 handle other links differs) (drop_leaves held.bank handle)
          (put_is handle (Some (new_link setup)) (bank_after_drop held.bank handle) none
          (begun setup (bank_after_drop held.bank handle) none.packets none.complete) 0 links) known.data_of other);
      pieces = received;
    }

pub shut_known : (handle : ℕ) (held new : HeldLinks) (links : Links) (before after : List (ℕ × Piece)) → Knows held links before
    → KnowsPlaces new.places (without_link handle links) → new.bank ≡ bank_after_drop held.bank handle
    → new.received ≡ after → Knows new (without_link handle links) after
unfolding Knows
shut_known handle held new links before after known places bank received =
    let none = dropped handle held.bank in
    record {
      places = places;
      handles = shut_have handle links known.handles;
      data_of = λ other. subst (λ bank. HoldsUnder other bank (link_at other (without_link handle links))) (sym bank)
          (one_changed handle links (without_link handle links) held.bank (bank_after_drop held.bank handle)
          (λ other differs. other_stays (λ place. None) 0 handle other links differs) (drop_leaves held.bank handle)
          (put_is handle None (bank_after_drop held.bank handle) none none 0 links) known.data_of other);
      pieces = received;
    }

-- what the host has not received of a link whose place is taken
pub past_received : (was_open : Bool) (place : Option OpenLink) (handle : ℕ) (received : List (ℕ × Piece)) → was_open ≡ is_some place
    → (if was_open then received_without handle received else received) ≡ received_past place handle received
past_received was_open None handle received is = rw is refl
past_received was_open (Some link) handle received is = rw is refl

pub without_handles : (first : ℕ) (links : Links) → HaveHandles first (without_links links)
without_handles first [] = tt
without_handles first (place ∷ links) = (tt, without_handles (first + 1) links)

pub shut_all_known : (held new : HeldLinks) (links : Links) (before : List (ℕ × Piece)) → Knows held links before
    → KnowsPlaces new.places (without_links links) → new.bank ≡ fold bank_after_drop held.bank (handles_from 0 links)
    → new.received ≡ [] → Knows new (without_links links) []
unfolding Knows
shut_all_known held new links before known places bank received =
    record {
      places = places;
      handles = without_handles 0 links;
      data_of = λ other. subst (λ bank. HoldsUnder other bank (link_at other (without_links links))) (sym bank)
          (shut_data links held.bank known.data_of other);
      pieces = received;
    }

pub ended_known : (reason : OpenLink → Option ℕ) (held new : HeldLinks) (links : Links) (before after : List (ℕ × Piece))
    → Knows held links before → KnowsPlaces new.places (links_without reason links)
    → new.bank ≡ fold bank_after_drop held.bank (map (λ (one : LinkEnded). one.handle) (ends_by reason 0 links))
    → new.received ≡ after → Knows new (links_without reason links) after
unfolding Knows
ended_known reason held new links before after known places bank received =
    record {
      places = places;
      handles = stay_with_handles reason 0 links known.handles;
      data_of = λ other. subst (λ bank. HoldsUnder other bank (link_at other (links_without reason links))) (sym bank)
          (ended_data reason links held.bank known.data_of other);
      pieces = received;
    }

-- ---- what the host does

-- nothing changes but what was received
pub same_known : (held new : HeldLinks) (links : Links) (before after : List (ℕ × Piece)) → Knows held links before
    → new.places ≡ held.places → new.bank ≡ held.bank → new.received ≡ after → Knows new links after
unfolding Knows
same_known held new links before after known places bank received =
    record {
      places = subst (λ p. KnowsPlaces p links) (sym places) known.places;
      handles = known.handles;
      data_of = λ other. subst (λ b. HoldsUnder other b (link_at other links)) (sym bank) (known.data_of other);
      pieces = received;
    }

give_goes : (handle : ℕ) (start : Bool) (body : List ℕ) (place : Option OpenLink) (bank : Bank) → 1 ≤ length body → is_some place ≡ true
    → HasHandle handle place
    → BankGoes (link_after (DataGiven start body)) place bank (bank_after_offer bank (new_packet handle start body))
give_goes handle start body None bank some opened has = absurd cc
give_goes handle start body (Some link) bank some opened has =
    subst (λ n. BankStep (link_after (DataGiven start body)) link bank (bank_after_offer bank (new_packet n start body))) has
    (record {
      leaves = offer_leaves bank link.setup.link.handle start body;
      holds = given_holds link.setup link.past bank start body some;
    })

pub open_where_kept : (place : Option OpenLink) (count : ℕ) (full : Bool) (offer : Offer) → offer ≡ offer_by place count full → offer ≡ Kept
    → is_some place ≡ true
open_where_kept None count full offer is kept = let same : NoLink ≡ Kept = sym is ∙ kept in absurd cc
open_where_kept (Some link) count full offer is kept = refl

pub give_known : (offer : Offer) (handle : ℕ) (start : Bool) (body : List ℕ) (held new : HeldLinks) (links : Links)
    (before after : List (ℕ × Piece)) → (offer ≡ Kept → 1 ≤ length body) → (offer ≡ Kept → is_some (link_at handle links) ≡ true)
    → Knows held links before → new.places ≡ held.places → new.bank ≡ bank_offered offer handle start body held.bank
    → new.received ≡ after → Knows new (links_offered offer handle start body links) after
unfolding Knows
give_known NoLink handle start body held new links before after some opened known places bank received =
    same_known held new links before after known places bank received
give_known Empty handle start body held new links before after some opened known places bank received =
    same_known held new links before after known places bank received
give_known Overflow handle start body held new links before after some opened known places bank received =
    same_known held new links before after known places bank received
give_known Kept handle start body held new links before after some opened known places bank received =
    let goes = give_goes handle start body (link_at handle links) held.bank (some refl) (opened refl)
    (has_its_handle 0 handle links known.handles) in
    change_known (link_after (DataGiven start body)) handle held new links before after (λ link. refl) known
    (subst (λ p. KnowsPlaces p (links_given handle start body links)) (sym places)
    (given_places handle start body held.places links known.places))
    (subst (BankGoes (link_after (DataGiven start body)) (link_at handle links) held.bank) (sym bank) goes) received

pub reported_setup : (test : Bool) (link : OpenLink) → (if test then link_after DataReported link else link).setup ≡ link.setup
reported_setup true link = refl
reported_setup false link = refl

pub reported_handles : (first : ℕ) (links : Links) → HaveHandles first links → HaveHandles first (links_reported links)
reported_handles first [] have = tt
reported_handles first (None ∷ links) (has, have) = (tt, reported_handles (first + 1) links have)
reported_handles first (Some link ∷ links) (has, have) =
    (rw (reported_setup (nat_lt 0 (complete_in link)) link) has, reported_handles (first + 1) links have)

pub report_known : (held new : HeldLinks) (links : Links) (before after : List (ℕ × Piece)) → Knows held links before
    → new.places ≡ held.places
    → new.bank ≡ fold bank_after_credited held.bank (map (λ (one : Completed). one.handle) (completed_from 0 links))
    → new.received ≡ after → Knows new (links_reported links) after
unfolding Knows
report_known held new links before after known places bank received =
    record {
      places = subst (λ p. KnowsPlaces p (links_reported links)) (sym places) (reported_places held.places links known.places);
      handles = reported_handles 0 links known.handles;
      data_of = λ other. subst (λ bank. HoldsUnder other bank (link_at other (links_reported links))) (sym bank)
          (reported_data links held.bank known.data_of other);
      pieces = received;
    }

-- ---- a map is asked for on all links

pub mapped_handles : (map : ChannelMap) (first : ℕ) (links : Links) → HaveHandles first links → HaveHandles first (links_asked_map map links)
mapped_handles map first [] have = tt
mapped_handles map first (None ∷ links) (has, have) = (tt, mapped_handles map (first + 1) links have)
mapped_handles map first (Some link ∷ links) (has, have) =
    (rw (asked_map_setup map link) has, mapped_handles map (first + 1) links have)

pub mapped_known : (map : ChannelMap) (held new : HeldLinks) (links : Links) (before after : List (ℕ × Piece)) → Knows held links before
    → KnowsPlaces new.places (links_asked_map map links) → new.bank ≡ held.bank → new.received ≡ after
    → Knows new (links_asked_map map links) after
unfolding Knows
mapped_known map held new links before after known places bank received =
    record {
      places = places;
      handles = mapped_handles map 0 links known.handles;
      data_of = λ other. subst (λ bank. HoldsUnder other bank (link_at other (links_asked_map map links))) (sym bank)
          (mapped_data map links held.bank known.handles known.data_of other);
      pieces = received;
    }

-- ---- buffers

pub buffers_are : (held : HeldLinks) (links : Links) (received : List (ℕ × Piece)) → Knows held links received
    → taken_buffers held.bank ≡ buffers_taken links
unfolding Knows
buffers_are held links received known = taken_is links held.bank known.data_of
