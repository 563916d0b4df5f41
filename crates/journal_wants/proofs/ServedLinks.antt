-- When a link had the radio last, after each call on its controller: a call leaves that, but that the begin of a turn
-- serves the link that wins the slot, and a new link has it from its CONNECT_IND.
use Rattle.std.proofs.Common.{◌≡◌, ℕ, ◌==◌, Bool, true, false, Option, Some, None, List, refl, sym, ap, ◌∙◌, if◌then◌else◌}
use Rattle.std.specs.Prelude.{nat_lt}
use Rattle.slot_plan.specs.declared.Activity.{Activity}
use Rattle.slot_plan.specs.declared.Activity.TheVariants.{Advertise, Initiate, Link, Scan}
use Rattle.slot_plan.specs.Holding.{is_held_in, winner_of}
use Rattle.journal_events.specs.journal_sending.controller_model.declared.doing.Doing.{Doing}
use Rattle.journal_events.specs.journal_sending.controller_model.declared.doing.Doing.TheVariants.{PeripheralListens}
use Rattle.journal_events.specs.journal_sending.controller_model.Facts.{Facts, Setup}
use Rattle.journal_events.specs.journal_sending.controller_model.Heard.{has_room}
use Rattle.journal_events.specs.journal_sending.controller_model.Links.{facts_ending}
use Rattle.journal_events.specs.journal_sending.controller_model.Radio.{facts_entering, outcome_begun, plan_in, radio_served, served, turn_begins, winner_served}
use Rattle.journal_events.specs.journal_sending.controller_model.Side.{facts_after}
use Rattle.journal_events.specs.journal_sending.controller_model.Step.{HostOctet, TurnBegins, TurnEnds}
use Rattle.journal_events.specs.journal_sending.journal_acks.link_calls.Hosts.{GetsData, HasHeardHost, IsAsked, Unchanged}
use Rattle.journal_events.specs.journal_sending.journal_acks.link_calls.Phases.{HasPassed, IsNew, Stays, Takes, link_receiving, link_worded, refusal_at, refused_if}
use Rattle.journal_events.specs.journal_sending.journal_acks.link_calls.Turns.{change_if, sent_if}
use Rattle.journal_events.specs.journal_sending.journal_acks.link_calls.Uses.{fixes_under, sends_under}
use Rattle.journal_events.specs.journal_sending.journal_data.link_model.Step.{DataReported, PacketReceived, Step as EndStep}
use Rattle.journal_events.specs.journal_sending.journal_data.open_links.Data.{complete_in, link_reported}
use Rattle.journal_events.specs.journal_sending.journal_data.open_links.OpenLinks.{Links, OpenLink, link_after, link_at, link_served, with_change}
use Rattle.journal_events.specs.journal_sending.journal_data.open_links.Turns.{due_in, entered_if, enters_in, links_without}
use Rattle.journal_events.specs.journal_sending.run_model.Run.{step_of}
use Rattle.journal_events.proofs.journal_sending.controller_model.Always.{ending_is}
use Rattle.journal_events.proofs.journal_sending.journal_acks.link_calls.LinkCalls.{phase_under, receiving_setup}
use Rattle.journal_events.proofs.journal_sending.journal_acks.link_calls.UnderHandles.{WasOpen, change_under, ended_under, entered_under, fixing_under, host_under, sending_under, staying_under}
use Rattle.journal_events.proofs.journal_sending.journal_acks.open_links.Unmoved.{entered_setup}
use Rattle.journal_wants.specs.Station.{Linked, Station, served_in, served_with, winner_in, won_by}
use Rattle.journal_wants.proofs.WinnerLinks.{winner_wanting}

-- ---- a step of a link leaves that

-- a link was open before with the same setup, and had the radio last in this slot
pub record WasServed (facts : Facts) (handle : ℕ) (after : OpenLink) (slot_by : ℕ → ℕ) : Type 0 where
  pub link : OpenLink
  pub was : link_at handle facts.links ≡ Some link
  pub setup_is : after.setup ≡ link.setup
  pub last_is : after.last_served ≡ slot_by link.last_served

-- it is as before
abbrev pub IsAsBefore : Facts → ℕ → OpenLink → Type 0
IsAsBefore facts handle after = WasServed facts handle after (λ slot. slot)

same_as : (facts : Facts) (handle : ℕ) (after link : OpenLink) → link_at handle facts.links ≡ Some link
    → (moved : OpenLink) → moved.setup ≡ link.setup
    → moved.last_served ≡ link.last_served → after ≡ moved → IsAsBefore facts handle after
same_as facts handle after link was moved setup last is = record {
  link = link;
  was = was;
  setup_is = ap (λ (l : OpenLink). l.setup) is ∙ setup;
  last_is = ap (λ (l : OpenLink). l.last_served) is ∙ last;
}

-- ---- an octet of the host

host_before : (setup : Setup) (facts : Facts) (octet handle : ℕ) (after : OpenLink)
    → HasHeardHost setup facts octet handle after → IsAsBefore facts handle after
host_before setup facts octet handle after (Unchanged was) = same_as facts handle after after was after refl refl refl
host_before setup facts octet handle after (GetsData link start body was is) =
    same_as facts handle after link was _ refl refl is
host_before setup facts octet handle after (IsAsked link command step was accepted asks is) =
    same_as facts handle after link was _ refl refl is

pub octet_served : (setup : Setup) (facts : Facts) (octet handle : ℕ) (after : OpenLink)
    → link_at handle (facts_after setup facts (HostOctet octet)).links ≡ Some after → IsAsBefore facts handle after
octet_served setup facts octet handle after is =
    host_before setup facts octet handle after (host_under setup facts octet handle after is)

-- ---- a turn ends

pub end_served : (setup : Setup) (facts : Facts) (handle : ℕ) (after : OpenLink)
    → link_at handle (facts_after setup facts TurnEnds).links ≡ Some after → IsAsBefore facts handle after
end_served setup facts handle after is =
    let ended = ended_under setup facts handle after is in
    same_as facts handle after ended.link ended.was (link_reported ended.link)
    (reported_setup (nat_lt 0 (complete_in ended.link)) ended.link)
    (reported_last (nat_lt 0 (complete_in ended.link)) ended.link) ended.is
  where
    reported_setup : (reports : Bool) (link : OpenLink)
        → (if reports then link_after DataReported link else link).setup ≡ link.setup
    reported_setup true link = refl
    reported_setup false link = refl

    reported_last : (reports : Bool) (link : OpenLink)
        → (if reports then link_after DataReported link else link).last_served ≡ link.last_served
    reported_last true link = refl
    reported_last false link = refl

-- ---- a phase

changed_last : (changes : Bool) (step : EndStep) (link : OpenLink)
    → (change_if changes (link_after step) link).last_served ≡ link.last_served
changed_last true step link = refl
changed_last false step link = refl

changed_setup : (changes : Bool) (step : EndStep) (link : OpenLink)
    → (change_if changes (link_after step) link).setup ≡ link.setup
changed_setup true step link = refl
changed_setup false step link = refl

worded_last : (setup : Setup) (facts : Facts) (doing : Doing) (link : OpenLink)
    → (link_worded setup facts doing link).last_served ≡ link.last_served
worded_last setup facts (PeripheralListens other) link = refl
worded_last setup facts doing link = refl

refused_last : (refusal : Option EndStep) (link : OpenLink) → (refused_if refusal link).last_served ≡ link.last_served
refused_last None link = refl
refused_last (Some step) link = refl

receiving_last : (setup : Setup) (handle : ℕ) (room : Bool) (octets : List ℕ) (facts : Facts) (link : OpenLink)
    → (link_receiving setup handle room octets facts link).last_served ≡ link.last_served
receiving_last setup handle room octets facts link =
    let worded = link_worded setup facts facts.turn.doing link in
    refused_last (refusal_at handle room octets facts worded)
    (link_after (PacketReceived facts.turn.slot octets room) worded)
    ∙ worded_last setup facts facts.turn.doing link

-- a link that is opened in the phase had it last in this slot
pub data IsServedAfter (facts : Facts) (handle : ℕ) (after : OpenLink) : Type 0 where
  AsBefore : IsAsBefore facts handle after → IsServedAfter facts handle after
  AsNew : after.setup.opened ≡ facts.turn.slot → after.last_served ≡ after.setup.opened
      → IsServedAfter facts handle after

passed_served : (setup : Setup) (facts : Facts) (room : Bool) (received : Option (List ℕ)) (handle : ℕ)
    (doing : Doing) (after : OpenLink)
    → HasPassed setup facts room received handle doing after → IsServedAfter facts handle after
passed_served setup facts room received handle doing after (IsNew end is now off) =
    AsNew (ap (λ (l : OpenLink). l.setup.opened) is ∙ now)
    (ap (λ (l : OpenLink). l.last_served) is ∙ sym (ap (λ (l : OpenLink). l.setup.opened) is))
passed_served setup facts room received handle doing after (Stays was none nothing listened) =
    AsBefore (same_as facts handle after after was after refl refl refl)
passed_served setup facts room received handle doing after (Takes link octets was some on is) =
    let slot = facts.turn.slot in
    let sends = sends_under handle doing in
    let moved = link_receiving setup handle room octets facts link in
    AsBefore (same_as facts handle after link was (sent_if sends slot moved)
    (changed_setup sends _ moved ∙ receiving_setup setup handle room octets facts link)
    (changed_last sends _ moved ∙ receiving_last setup handle room octets facts link) is)

pub phase_served : (setup : Setup) (facts : Facts) (received : Option (List ℕ)) (handle : ℕ) (after : OpenLink)
    → link_at handle (facts_after setup facts (step_of received)).links ≡ Some after
    → IsServedAfter facts handle after
phase_served setup facts received handle after is =
    passed_served setup facts (has_room setup facts) received handle
    (facts_after setup facts (step_of received)).turn.doing after
    (phase_under setup facts received handle after is)

-- ---- a turn begins

-- the link that is served, where the radio is on and free
abbrev won_link : Option Activity → Option ℕ
won_link None = None
won_link (Some (Link handle)) = Some handle
won_link (Some Advertise) = None
won_link (Some Scan) = None
won_link (Some Initiate) = None

abbrev pub served_link : (on held : Bool) → Option Activity → Option ℕ
served_link false held winner = None
served_link true true winner = None
served_link true false winner = won_link winner

abbrev pub link_serving : ℕ → Bool → Facts → Option ℕ
link_serving slot on facts =
    let ending = facts_ending slot facts in
    served_link on (is_held_in ending.radio.hold slot) (winner_of (plan_in slot (turn_begins slot ending)) slot)

abbrev pub is_serving : Option ℕ → ℕ → Bool
is_serving None handle = false
is_serving (Some other) handle = other == handle

abbrev pub slot_served : Bool → ℕ → ℕ → ℕ
slot_served true slot last = slot
slot_served false slot last = last

abbrev links_serving : ℕ → Option ℕ → Links → Links
links_serving slot None links = links
links_serving slot (Some handle) links = with_change handle (link_served slot) links

won_links : (slot : ℕ) (winner : Option Activity) (facts : Facts)
    → (winner_served slot winner facts).facts.links ≡ links_serving slot (won_link winner) facts.links
won_links slot None facts = refl
won_links slot (Some (Link handle)) facts = refl
won_links slot (Some Advertise) facts = refl
won_links slot (Some Scan) facts = refl
won_links slot (Some Initiate) facts = refl

radio_links : (held : Bool) (slot : ℕ) (winner : Option Activity) (facts : Facts)
    → (radio_served held slot winner facts).facts.links
    ≡ links_serving slot (served_link true held winner) facts.links
radio_links true slot winner facts = refl
radio_links false slot winner facts = won_links slot winner facts

served_links : (on : Bool) (slot : ℕ) (winner : Option Activity) (facts : Facts)
    → (served on slot winner facts).facts.links
    ≡ links_serving slot (served_link on (is_held_in facts.radio.hold slot) winner) facts.links
served_links false slot winner facts = refl
served_links true slot winner facts = radio_links (is_held_in facts.radio.hold slot) slot winner facts

serving_under : (slot : ℕ) (won : Option ℕ) (handle : ℕ) (links : Links) (after : OpenLink)
    → link_at handle (links_serving slot won links) ≡ Some after
    → WasOpen (change_if (is_serving won handle) (link_served slot)) (link_at handle links) after
serving_under slot None handle links after is = record { link = after; was = is; is = refl }
serving_under slot (Some other) handle links after is = change_under other handle (link_served slot) links after is

serving_last : (serves : Bool) (slot : ℕ) (link : OpenLink)
    → (change_if serves (link_served slot) link).last_served ≡ slot_served serves slot link.last_served
serving_last true slot link = refl
serving_last false slot link = refl

serving_setup : (serves : Bool) (slot : ℕ) (link : OpenLink)
    → (change_if serves (link_served slot) link).setup ≡ link.setup
serving_setup true slot link = refl
serving_setup false slot link = refl

entered_last : (enters : Bool) (slot : ℕ) (link : OpenLink)
    → (entered_if enters slot link).last_served ≡ link.last_served
entered_last true slot link = refl
entered_last false slot link = refl

pub begin_served : (setup : Setup) (facts : Facts) (slot : ℕ) (on : Bool) (handle : ℕ) (after : OpenLink)
    → link_at handle (facts_after setup facts (TurnBegins slot on)).links ≡ Some after
    → WasServed facts handle after (slot_served (is_serving (link_serving slot on facts) handle) slot)
begin_served setup facts slot on handle after is =
    let begun = turn_begins slot (facts_ending slot facts) in
    let outcome = outcome_begun slot on facts in
    let before = served on slot (winner_of (plan_in slot begun) slot) (facts_entering slot begun) in
    let won = link_serving slot on facts in
    let serves = is_serving won handle in
    let sends = sends_under handle outcome.next in
    let fixes = fixes_under handle before.next in
    let sent = sending_under outcome.facts.turn.slot handle outcome.next outcome.facts.links after is in
    let fixed = fixing_under handle before.next before.facts.links sent.link sent.was in
    let base = serving_under slot won handle (facts_entering slot begun).links fixed.link
    (ap (link_at handle) (sym (served_links on slot (winner_of (plan_in slot begun) slot) (facts_entering slot begun)))
    ∙ fixed.was) in
    let entered = entered_under slot handle begun.links base.link base.was in
    let here : link_at handle (links_without (due_in slot) facts.links) ≡ Some entered.link =
    ap (λ (ended : Facts). link_at handle ended.links) (sym (ending_is slot facts)) ∙ entered.was in record {
      link = entered.link;
      was = (staying_under (due_in slot) handle facts.links entered.link here).was;
      setup_is = ap (λ (l : OpenLink). l.setup) sent.is ∙ changed_setup sends _ sent.link
          ∙ ap (λ (l : OpenLink). l.setup) fixed.is ∙ changed_setup fixes _ fixed.link
          ∙ ap (λ (l : OpenLink). l.setup) base.is ∙ serving_setup serves slot base.link
          ∙ ap (λ (l : OpenLink). l.setup) entered.is ∙ entered_setup slot entered.link;
      last_is = ap (λ (l : OpenLink). l.last_served) sent.is ∙ changed_last sends _ sent.link
          ∙ ap (λ (l : OpenLink). l.last_served) fixed.is ∙ changed_last fixes _ fixed.link
          ∙ ap (λ (l : OpenLink). l.last_served) base.is ∙ serving_last serves slot base.link
          ∙ ap (slot_served serves slot)
          (ap (λ (l : OpenLink). l.last_served) entered.is
          ∙ entered_last (enters_in slot entered.link) slot entered.link);
    }

-- what is served was open, and stays
pub record WasServing (slot : ℕ) (facts : Facts) (handle : ℕ) : Type 0 where
  pub link : OpenLink
  pub was : link_at handle facts.links ≡ Some link
  pub not_due : due_in slot link ≡ None

won_is : (winner : Option Activity) (handle : ℕ) → won_link winner ≡ Some handle → winner ≡ Some (Link handle)
won_is None handle is = absurd cc
won_is (Some (Link other)) handle is = let equal : other ≡ handle = cc in ap (λ n. Some (Link n)) equal
won_is (Some Advertise) handle is = absurd cc
won_is (Some Scan) handle is = absurd cc
won_is (Some Initiate) handle is = absurd cc

served_is : (on held : Bool) (winner : Option Activity) (handle : ℕ) → served_link on held winner ≡ Some handle
    → winner ≡ Some (Link handle)
served_is false held winner handle is = absurd cc
served_is true true winner handle is = absurd cc
served_is true false winner handle is = won_is winner handle is

pub serving_open : (slot : ℕ) (on : Bool) (facts : Facts) (handle : ℕ) → link_serving slot on facts ≡ Some handle
    → WasServing slot facts handle
serving_open slot on facts handle is =
    let ending = facts_ending slot facts in
    let begun = turn_begins slot ending in
    let wanting = winner_wanting slot handle begun
    (served_is on (is_held_in ending.radio.hold slot) (winner_of (plan_in slot begun) slot) handle is) in
    let was = staying_under (due_in slot) handle facts.links wanting.link
    (ap (λ (ended : Facts). link_at handle ended.links) (sym (ending_is slot facts)) ∙ wanting.is_open) in
    record { link = wanting.link; was = was.was; not_due = was.stays }

-- ---- and by the lines of its side

-- the number of the link that is served
abbrev pub number_served : (ℕ → Linked) → Option ℕ → Option ℕ
number_served linked None = None
number_served linked (Some handle) = (linked handle).number

won_by_lines : (linked : ℕ → Linked) (slot : ℕ) (winner : Option Activity) (station : Station)
    → (won_by linked slot winner station).served
    ≡ served_with (number_served linked (won_link winner)) slot station.served
won_by_lines linked slot None station = refl
won_by_lines linked slot (Some (Link handle)) station = refl
won_by_lines linked slot (Some Advertise) station = refl
won_by_lines linked slot (Some Scan) station = refl
won_by_lines linked slot (Some Initiate) station = refl

pub served_by_lines : (on held : Bool) (linked : ℕ → Linked) (slot : ℕ) (station : Station)
    → (served_in on held linked slot station).served
    ≡ served_with (number_served linked (served_link on held (winner_in slot station))) slot station.served
served_by_lines false held linked slot station = refl
served_by_lines true true linked slot station = refl
served_by_lines true false linked slot station = won_by_lines linked slot (winner_in slot station) station
