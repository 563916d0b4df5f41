-- As a controller begins its turn, the lines of its side serve the link that the controller serves.
use Rattle.std.proofs.Common.{◌≡◌, ℕ, Bool, Option, Some, None, List, cond, refl, ap, ◌∙◌}
use Rattle.ble_base.specs.declared.roles.Side.{Side}
use Rattle.slot_plan.specs.Holding.{is_held_in}
use Rattle.journal_events.specs.journal_sending.controller_model.Entering.{wants_from}
use Rattle.journal_events.specs.journal_sending.controller_model.Facts.{Facts, Radio}
use Rattle.journal_events.specs.journal_sending.controller_model.Links.{facts_ending}
use Rattle.journal_events.specs.journal_sending.controller_model.Radio.{turn_begins}
use Rattle.journal_events.specs.journal_sending.controller_model.Step.{TurnBegins}
use Rattle.journal_events.specs.journal_sending.journal_controls.journal_ends.Asked.{Words}
use Rattle.journal_events.specs.journal_sending.journal_data.Held.{links_open}
use Rattle.journal_events.specs.journal_sending.journal_data.HostLines.{link_under}
use Rattle.journal_events.specs.journal_sending.run_model.History.{Event}
use Rattle.journal_events.specs.journal_sending.run_model.Journal.{journal_of, side_of}
use Rattle.journal_events.specs.journal_sending.run_model.Run.{Given, after_call, facts_at, setup_at}
use Rattle.journal_events.proofs.journal_sending.journal_acks.Exchanging.{number_at}
use Rattle.journal_events.proofs.journal_sending.journal_data.HeldLinks.{under_is}
use Rattle.journal_events.proofs.journal_sending.journal_data.EachLine.{lines_at, numbers_at}
use Rattle.journal_events.proofs.journal_sending.journal_data.Openness.{is_open, staying_open}
use Rattle.journal_events.proofs.journal_sending.journal_data.StationLines.{IsStationBooked}
use Rattle.journal_events.proofs.journal_sending.journal_leaving.journal_ends.run_laws.Hearings.{own_facts}
use Rattle.journal_wants.specs.Station.{Setups, Station, linked_under, linked_with, served_in, served_with}
use Rattle.journal_wants.proofs.HostSet.{IsSetAs}
use Rattle.journal_wants.proofs.LastServed.{number_won, still_numbered}
use Rattle.journal_wants.proofs.NotedStation.{at}
use Rattle.journal_wants.proofs.ServedLinks.{link_serving, number_served, served_by_lines, served_link, serving_open}
use Rattle.journal_wants.proofs.SlotGiven.{winner_same}

module _ (words : Words) (setups : Setups) (given : Given) (station slot : ℕ) (on : Bool) (history : List Event) where
  abbrev side : Side
  side = side_of station

  abbrev facts : Facts
  facts = facts_at given station history

  abbrev after : List Event
  after = after_call given station (TurnBegins slot on) history

  abbrev now : Station
  now = at words setups station after

  -- the lines have the number of the link that is served
  numbered : IsStationBooked given station after
      → number_served (linked_under words side (journal_of after)) (link_serving slot on facts)
      ≡ number_won station history (link_serving slot on facts)
  numbered booked = by (link_serving slot on facts) refl
    where
      under : (handle : ℕ) → link_serving slot on facts ≡ Some handle
          → link_under handle (links_open side (journal_of after)) ≡ Some (number_at station handle history)
      under handle is =
          let serving = serving_open slot on facts handle is in
          let stays = ap (λ (f : Facts). is_open f.links handle)
          (own_facts given station (TurnBegins slot on) history)
          ∙ staying_open (setup_at given station) facts slot on handle serving.link serving.was serving.not_due in
          under_is (setup_at given station).links (lines_at station after).links (numbers_at station after)
          (is_open (facts_at given station after).links) booked.links handle
          ∙ ap (λ opened. cond opened (Some (number_at station handle after)) None) stays
          ∙ ap Some (still_numbered given station (TurnBegins slot on) history handle serving.link serving.was)

      by : (won : Option ℕ) → link_serving slot on facts ≡ won
          → number_served (linked_under words side (journal_of after)) won ≡ number_won station history won
      by None is = refl
      by (Some handle) is = ap (λ number. (linked_with words side (journal_of after) number).number) (under handle is)

  pub begun_serves : (serves : ℕ → Option ℕ) → IsSetAs now (facts_ending slot facts)
      → now.wants ≡ wants_from slot 0 (facts_ending slot facts).links
      → IsStationBooked given station after
      → serves
      ≡ (served_in on (is_held_in now.radio.hold slot) (linked_under words side (journal_of after)) slot now).served
      → now.served ≡ (at words setups station history).served
      → serves
      ≡ served_with (number_won station history (link_serving slot on facts)) slot
      (at words setups station history).served
  begun_serves serves set wants booked decides before =
      let ending = facts_ending slot facts in
      let begun = turn_begins slot ending in
      let linked = linked_under words side (journal_of after) in
      let held : is_held_in now.radio.hold slot ≡ is_held_in ending.radio.hold slot =
      ap (λ (radio : Radio). is_held_in radio.hold slot) set.radio in
      let same : IsSetAs now begun = record {
        set = set.set;
        advertising = set.advertising;
        scanning = set.scanning;
        initiator = set.initiator;
        radio = set.radio;
      } in
      let winner = winner_same slot now begun same wants in
      decides
      ∙ served_by_lines on (is_held_in now.radio.hold slot) linked slot now
      ∙ (λ i. served_with (number_served linked (served_link on (held i) (winner i))) slot (before i))
      ∙ ap (λ number. served_with number slot (at words setups station history).served) (numbered booked)
