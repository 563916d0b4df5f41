-- Of what a controller makes a new link its lines say the same: between which addresses it has links, and which handle
-- is free.
use Rattle.std.proofs.Common.{◌≡◌, ℕ, zero, suc, ◌+◌, ◌⊎◌, inl, inr, Bool, true, false, Option, Some, None, List, ◌++◌, cond, refl, sym, ap, subst, ◌∙◌}
use Rattle.std.specs.Prelude.{is_none, is_some, if◌then◌else◌}
use Rattle.ble_base.specs.declared.addresses.Address.{Address}
use Rattle.journal_hearings.specs.Openings.{is_linked}
use Rattle.journal_hearings.proofs.LinkedAddresses.{unlinked, unlinked_lines}
use Rattle.journal_events.specs.journal_sending.controller_model.Facts.{Facts}
use Rattle.journal_events.specs.journal_sending.journal_data.Held.{links_open}
use Rattle.journal_events.specs.journal_sending.journal_data.HostLines.{OpenUnder, link_under}
use Rattle.journal_events.specs.journal_sending.journal_data.open_links.OpenLinks.{OpenLink, free_from, has_link_between, link_at}
use Rattle.journal_events.specs.journal_sending.run_model.History.{Event, past_of}
use Rattle.journal_events.specs.journal_sending.run_model.Journal.{journal_of, side_of}
use Rattle.journal_events.specs.journal_sending.run_model.Numbers.{AreNumbered}
use Rattle.journal_events.specs.journal_sending.run_model.Run.{Given, facts_at, history_of, run_of, setup_at}
use Rattle.journal_events.proofs.journal_sending.controller_model.Handles.{own_handles}
use Rattle.journal_events.proofs.journal_sending.journal_acks.TwoStations.{IsOfTwo}
use Rattle.journal_events.proofs.journal_sending.journal_data.EachLine.{lines_at, numbers_at}
use Rattle.journal_events.proofs.journal_sending.journal_data.HeldLinks.{under_is}
use Rattle.journal_events.proofs.journal_sending.journal_data.Openness.{is_open}
use Rattle.journal_events.proofs.journal_sending.journal_data.StationLines.{IsStationBooked}
use Rattle.journal_events.proofs.journal_sending.run_model.Journals.{two}
use Rattle.journal_events.proofs.journal_sending.run_model.Stations.{is_in}
use Rattle.journal_events.specs.journal_sending.run_model.Readers.{station_of}
use Rattle.journal_wants.specs.Setups.{setups_of}
use Rattle.journal_wants.proofs.NextLinks.{free_is}

-- what a side is set up with
pub setups_are : (given : Given) → IsOfTwo given → (station : ℕ) → is_in station given.stations ≡ true
    → setups_of given (side_of station) ≡ setup_at given station
setups_are given are_two station in_it = by (two station (subst (λ xs. is_in station xs ≡ true) are_two in_it))
  where
    by : (station ≡ 0) ⊎ (station ≡ 1) → setups_of given (side_of station) ≡ setup_at given station
    by (inl is) = (λ i. setup_at given (station_of (side_of (is i)))) ∙ ap (setup_at given) (sym is)
    by (inr is) = (λ i. setup_at given (station_of (side_of (is i)))) ∙ ap (setup_at given) (sym is)

unused : (number : ℕ) (place : Option OpenLink) → is_none (cond (is_some place) (Some number) None) ≡ is_none place
unused number None = refl
unused number (Some link) = refl

-- at a time of a run
module _ (given : Given) (pair : IsOfTwo given) (station : ℕ) (in_it : is_in station given.stations ≡ true)
    (history rest : List Event)
    (at : history_of (run_of given) ≡ history ++ rest) (booked : IsStationBooked given station history) where
  abbrev facts : Facts
  facts = facts_at given station history

  abbrev links : List OpenUnder
  links = links_open (side_of station) (journal_of history)

  pub linked_is : AreNumbered given history → (own peer : Address)
      → is_linked (side_of station) own peer (journal_of history) ≡ has_link_between own peer facts.links
  linked_is numbered own peer =
      by (is_linked (side_of station) own peer (journal_of history)) (has_link_between own peer facts.links) refl refl
    where
      by : (lines held : Bool) → is_linked (side_of station) own peer (journal_of history) ≡ lines
          → has_link_between own peer facts.links ≡ held
          → lines ≡ held
      by true true is has = refl
      by false false is has = refl
      by true false is has =
          let h : true ≡ false =
          sym is ∙ unlinked_lines given pair station in_it history rest at booked numbered own peer has in absurd cc
      by false true is has =
          let h : true ≡ false =
          sym has ∙ unlinked given pair station in_it history rest at booked numbered own peer is in absurd cc

  unheld : (handle : ℕ) → is_none (link_under handle links) ≡ is_none (link_at handle facts.links)
  unheld handle =
      ap (λ (found : Option ℕ). is_none found)
      (under_is (setup_at given station).links (lines_at station history).links (numbers_at station history)
      (is_open facts.links) booked.links handle)
      ∙ unused (numbers_at station history handle) (link_at handle facts.links)

  -- a search among its handles
  module _ (free : ℕ → ℕ → List OpenUnder → Option ℕ)
      (none : (handle : ℕ) (links : List OpenUnder) → free zero handle links ≡ None)
      (next : (left handle : ℕ) (links : List OpenUnder)
      → free (suc left) handle links
      ≡ (if is_none (link_under handle links) then Some handle else free left (handle + 1) links)) where
    pub free_handle : free (setup_at given station).links 0 links ≡ free_from 0 facts.links
    free_handle =
        ap (λ n. free n 0 links) (sym (own_handles (setup_at given station) (past_of station history)).many)
        ∙ free_is free none next 0 facts.links links (λ handle from. unheld handle)
