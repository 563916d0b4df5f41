-- As a slot begins, what the lines of a side say that it wants is what its controller wants, the same activity wins, and the
-- side does the same first.
use Rattle.std.proofs.Common.{◌≡◌, ℕ, Bool, true, false, ◌++◌, Option, Some, None, refl, sym, ap, subst, ◌∙◌, if◌then◌else◌}
use Rattle.std.specs.Prelude.{is_some, ⊤}
use Rattle.std.specs.Option.{option_map}
use Rattle.host_view.specs.scan_init.Reports.{ScannerFacts}
use Rattle.slot_plan.specs.declared.Activity.{Activity}
use Rattle.slot_plan.specs.declared.Activity.TheVariants.{Advertise, Initiate, Link, Scan}
use Rattle.slot_plan.specs.Holding.{is_held_in, winner_of}
use Rattle.journal_events.specs.journal_sending.controller_model.Entering.{all_entered, wants_from}
use Rattle.journal_events.specs.journal_sending.controller_model.Facts.{Advertising, Facts, Radio}
use Rattle.journal_events.specs.journal_sending.controller_model.Outcome.{Outcome}
use Rattle.journal_events.specs.journal_sending.controller_model.Radio.{advertiser_wants, advertises_at, doing_held as controller_held, exchange_begins, exchange_if, facts_entering, first_exchange, initiates_on, initiator_channel, plan_in, radio_held, radio_served, scanner_channel, scans_on, second_exchange, served, served_if_on, slots_since, span_at, want_if, wants_in, winner_served}
use Rattle.journal_events.specs.journal_sending.journal_data.link_model.Times.{has_second_exchange, span_of}
use Rattle.journal_events.specs.journal_sending.journal_data.open_links.OpenLinks.{Links, OpenLink, facts_in, has_entered, in_event, link_at}
use Rattle.journal_events.specs.EventLines.{goes_on, slots_held}
use Rattle.journal_wants.specs.Station.{Linked, Station, all_wants, doing_held, served_in, winner_in, won, won_by}
use Rattle.journal_wants.proofs.HostSet.{IsSetAs, unreported}

-- ---- what it wants

scan_same : (slot : ℕ) (station : Station) (facts : Facts) → IsSetAs station facts
    → scanner_channel slot station.scanning.on ≡ scanner_channel slot facts.scanning.on
scan_same slot station facts is =
    ap (λ scanning. scanner_channel slot scanning.on) is.scanning ∙ unreported_same facts.scanning.on
  where
    unreported_same : (on : Option ScannerFacts) → scanner_channel slot (option_map unreported on) ≡ scanner_channel slot on
    unreported_same None = refl
    unreported_same (Some on) = refl

pub wants_same : (slot : ℕ) (station : Station) (facts : Facts) → IsSetAs station facts
    → station.wants ≡ wants_from slot 0 facts.links → all_wants slot station ≡ wants_in slot facts
wants_same slot station facts is links =
    let scan = scan_same slot station facts is in
    λ i. links i
    ++ want_if (advertiser_wants slot (is.advertising i).on) Advertise
    ++ want_if (is_some (scan i)) Scan
    ++ want_if (is_some (initiator_channel slot (is.initiator i))) Initiate

pub winner_same : (slot : ℕ) (station : Station) (facts : Facts) → IsSetAs station facts
    → station.wants ≡ wants_from slot 0 facts.links → winner_in slot station ≡ winner_of (plan_in slot facts) slot
winner_same slot station facts is links =
    let wants = wants_same slot station facts is links in
    λ i. winner_of (record { wants = wants i; hold = (is.radio i).hold }) slot

-- ---- its links

-- the lines say this of a link that entered its event
pub record IsLinkedAs (linked : Linked) (link : OpenLink) : Type 0 where
  pub role : linked.role ≡ link.setup.link.role
  pub held : slots_held linked.event ≡ span_of (facts_in link)
  pub continues : goes_on linked.event ≡ has_second_exchange (facts_in link)
  pub entered : has_entered link ≡ true

abbrev pub HasLinked : (ℕ → Linked) → Links → Activity → Type 0
HasLinked linked links (Link handle) =
    (link : OpenLink) × (link_at handle links ≡ Some link) × IsLinkedAs (linked handle) link
HasLinked linked links other = ⊤

in_event_is : (link : OpenLink) → has_entered link ≡ true → in_event (Some link) ≡ Some link
in_event_is link entered = ap (λ (is : Bool). if is then Some link else None) entered

-- ---- who has the radio

-- the lines say this of what a controller makes of a slot
pub record IsGiven (station : Station) (outcome : Outcome) : Type 0 where
  pub set : IsSetAs station outcome.facts
  pub doing : station.doing ≡ Some outcome.next

won_same : (linked : ℕ → Linked) (slot : ℕ) (activity : Activity) (station : Station) (facts : Facts)
    → IsSetAs station facts → HasLinked linked facts.links activity
    → IsGiven (won linked slot activity station) (winner_served slot (Some activity) facts)
won_same linked slot (Link handle) station facts is (link, is_open, same) =
    let place : in_event (link_at handle facts.links) ≡ Some link = ap in_event is_open ∙ in_event_is link same.entered in
    let begins : exchange_begins (linked handle).role handle ≡ first_exchange handle (in_event (link_at handle facts.links)) =
    ap (λ role. exchange_begins role handle) same.role ∙ sym (ap (first_exchange handle) place) in
    let held : slots_held (linked handle).event ≡ span_at (link_at handle facts.links) =
    same.held ∙ sym (ap span_at is_open) in
    record {
      set = record {
        set = is.set;
        advertising = is.advertising;
        scanning = is.scanning;
        initiator = is.initiator;
        radio = ap (radio_held (Link handle) slot) held;
      };
      doing = ap Some begins;
    }
won_same linked slot Advertise station facts is links = record {
  set = record {
    set = is.set;
    advertising = ap (λ (advertising : Advertising). record advertising { on = served_if_on slot advertising.on }) is.advertising;
    scanning = is.scanning;
    initiator = is.initiator;
    radio = refl;
  };
  doing = ap (λ (advertising : Advertising). Some (advertises_at 0 advertising.on)) is.advertising;
}
won_same linked slot Scan station facts is links = record {
  set = record { set = is.set; advertising = is.advertising; scanning = is.scanning; initiator = is.initiator; radio = is.radio };
  doing = ap (λ channel. Some (scans_on channel)) (scan_same slot station facts is);
}
won_same linked slot Initiate station facts is links = record {
  set = record { set = is.set; advertising = is.advertising; scanning = is.scanning; initiator = is.initiator; radio = is.radio };
  doing = ap (λ initiator. Some (initiates_on (initiator_channel slot initiator))) is.initiator;
}

won_by_same : (linked : ℕ → Linked) (slot : ℕ) (winner : Option Activity) (station : Station) (facts : Facts)
    → IsSetAs station facts → ((activity : Activity) → winner ≡ Some activity → HasLinked linked facts.links activity)
    → IsGiven (won_by linked slot winner station) (winner_served slot winner facts)
won_by_same linked slot None station facts is links = record {
  set = record { set = is.set; advertising = is.advertising; scanning = is.scanning; initiator = is.initiator; radio = is.radio };
  doing = refl;
}
won_by_same linked slot (Some activity) station facts is links =
    won_same linked slot activity station facts is (links activity refl)

held_same : (linked : ℕ → Linked) (slot : ℕ) (activity : Activity) (station : Station) (facts : Facts)
    → IsSetAs station facts → HasLinked linked facts.links activity
    → doing_held linked slot activity station ≡ controller_held slot activity facts
held_same linked slot (Link handle) station facts is (link, is_open, same) =
    let place : in_event (link_at handle facts.links) ≡ Some link = ap in_event is_open ∙ in_event_is link same.entered in
    (λ i. exchange_if (same.continues i) (same.role i) handle) ∙ sym (ap (second_exchange handle) place)
held_same linked slot Advertise station facts is links =
    λ i. advertises_at (slots_since slot (is.radio i).hold) (is.advertising i).on
held_same linked slot Scan station facts is links = refl
held_same linked slot Initiate station facts is links = refl

-- ---- a slot begins

-- what is decided by the lines is what the controller makes of the slot, where the wants of its links are those of the lines
pub slot_same : (on : Bool) (linked : ℕ → Linked) (slot : ℕ) (station : Station) (facts : Facts)
    → IsSetAs station facts → IsSetAs station (facts_entering slot facts) → station.wants ≡ wants_from slot 0 facts.links
    → ((activity : Activity) → winner_of (plan_in slot facts) slot ≡ Some activity
    → HasLinked linked (all_entered slot facts.links) activity)
    → (is_held_in facts.radio.hold slot ≡ true → HasLinked linked (all_entered slot facts.links) facts.radio.holder)
    → IsGiven (served_in on (is_held_in station.radio.hold slot) linked slot station)
    (served on slot (winner_of (plan_in slot facts) slot) (facts_entering slot facts))
slot_same false linked slot station facts before is links winner holder = record {
  set = record { set = is.set; advertising = is.advertising; scanning = is.scanning; initiator = is.initiator; radio = is.radio };
  doing = refl;
}
slot_same true linked slot station facts before is links winner holder =
    subst (λ held. IsGiven (served_in true held linked slot station) (radio_served (is_held_in facts.radio.hold slot) slot won_by_facts entering))
    (ap (λ (radio : Radio). is_held_in radio.hold slot) (sym before.radio))
    (by (is_held_in facts.radio.hold slot) holder)
  where
    won_by_facts : Option Activity
    won_by_facts = winner_of (plan_in slot facts) slot

    entering : Facts
    entering = facts_entering slot facts

    by : (held : Bool) → (held ≡ true → HasLinked linked (all_entered slot facts.links) facts.radio.holder)
        → IsGiven (served_in true held linked slot station) (radio_served held slot won_by_facts entering)
    by true holds = record {
      set = record { set = is.set; advertising = is.advertising; scanning = is.scanning; initiator = is.initiator; radio = is.radio };
      doing = ap Some (
          ap (λ (radio : Radio). doing_held linked slot radio.holder station) is.radio
          ∙ held_same linked slot facts.radio.holder station entering is (holds refl)
          );
    }
    by false holds =
        subst (λ won. IsGiven (won_by linked slot won station) (winner_served slot won_by_facts entering))
        (sym (winner_same slot station facts before links))
        (won_by_same linked slot won_by_facts station entering is winner)
