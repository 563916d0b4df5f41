-- What the lines of a side say of its radio stays what its controller holds: as links are opened and shut, as notes are
-- made, and as a turn begins.
use Rattle.std.proofs.Common.{◌≡◌, ℕ, Bool, true, List, [], ◌∷◌, Some, None, refl, sym, ap, ◌∙◌}
use Rattle.std.specs.Prelude.{fold}
use Rattle.ble_base.specs.declared.addresses.Address.{Address}
use Rattle.ble_base.specs.declared.notes.Note.{Note}
use Rattle.ble_base.specs.declared.notes.Note.TheVariants.{Opened, Shut, Took, Up}
use Rattle.ble_base.specs.declared.roles.Role.{Role}
use Rattle.ble_base.specs.declared.roles.Role.TheVariants.{Central, Peripheral}
use Rattle.host_view.specs.Noted.{opened_link, view_noted, with_link}
use Rattle.host_view.specs.View.{View}
use Rattle.slot_plan.specs.declared.Activity.{Activity}
use Rattle.slot_plan.specs.Holding.{is_held_in, winner_of}
use Rattle.journal_events.specs.journal_sending.controller_model.Entering.{all_entered, wants_from}
use Rattle.journal_events.specs.journal_sending.controller_model.Facts.{Advertising, Facts, Setup}
use Rattle.journal_events.specs.journal_sending.controller_model.Links.{facts_ending, facts_opened, facts_shut, note_opened, note_shut, radio_without, stopped}
use Rattle.journal_events.specs.journal_sending.controller_model.Radio.{facts_entering, notes_entered, plan_in, turn_begins}
use Rattle.journal_events.specs.journal_sending.controller_model.Side.{facts_after}
use Rattle.journal_events.specs.journal_sending.controller_model.Step.{TurnBegins}
use Rattle.journal_events.specs.journal_sending.journal_data.link_model.declared.setup.LinkSetup.{LinkSetup}
use Rattle.journal_events.specs.journal_sending.journal_data.open_links.declared.ended.LinkEnded.{LinkEnded}
use Rattle.journal_events.specs.journal_sending.journal_data.open_links.Data.{received_past}
use Rattle.journal_events.specs.journal_sending.journal_data.open_links.OpenLinks.{link_at, with_link as with_link_set}
use Rattle.journal_events.proofs.journal_sending.controller_model.Following.{note_changes}
use Rattle.journal_wants.specs.Station.{Linked, Station, opened_as, served_in, shut_under}
use Rattle.journal_wants.proofs.HostSet.{IsSetAs, host_set}
use Rattle.journal_wants.proofs.SlotGiven.{HasLinked, slot_same}

-- ---- notes change nothing that the host has set

opened_same : (role : Role) (own peer : Address) (handle : ℕ) (view : View)
    → host_set (with_link handle (opened_link role own peer) view) ≡ host_set view
opened_same Central own peer handle view = refl
opened_same Peripheral own peer handle view = refl

note_same : (view : View) (note : Note) → host_set (view_noted view note) ≡ host_set view
unfolding view_noted
note_same view (Opened handle role own peer) = opened_same role own peer handle view
note_same view (Shut handle reason) = refl
note_same view (Up packet) = ap host_set (note_changes view (Up packet) tt)
note_same view (Took handle number llid body) = ap host_set (note_changes view (Took handle number llid body) tt)
note_same view other = refl

pub notes_same : (view : View) (notes : List Note) → host_set (fold view_noted view notes) ≡ host_set view
notes_same view [] = refl
notes_same view (note ∷ notes) = notes_same (view_noted view note) notes ∙ note_same view note

-- ---- links

pub opened_set : (link : LinkSetup) (station : Station) (facts : Facts) → IsSetAs station facts
    → IsSetAs (opened_as link.role station) (facts_opened link facts)
opened_set link station facts is = by link.role
  where
    set : host_set station.view ≡ host_set (view_noted facts.view (note_opened link))
    set = is.set ∙ sym (note_same facts.view (note_opened link))

    opened : Facts
    opened = record facts {
      view = view_noted facts.view (note_opened link);
      links = with_link_set (record { link = link; opened = facts.turn.slot }) facts.links;
      received = received_past (link_at link.handle facts.links) link.handle facts.received;
    }

    by : (role : Role) → IsSetAs (opened_as role station) (stopped role opened)
    by Central = record { set = set; advertising = is.advertising; scanning = is.scanning; initiator = refl; radio = is.radio }
    by Peripheral = record {
      set = set;
      advertising = ap (λ (advertising : Advertising). record advertising { on = None }) is.advertising;
      scanning = is.scanning;
      initiator = is.initiator;
      radio = refl;
    }

pub shut_set : (ended : LinkEnded) (station : Station) (facts : Facts) → IsSetAs station facts
    → IsSetAs (record station { radio = shut_under (Some ended.handle) station.radio }) (facts_shut facts ended)
shut_set ended station facts is = record {
  set = is.set ∙ sym (note_same facts.view (note_shut ended.handle ended.reason.0));
  advertising = is.advertising;
  scanning = is.scanning;
  initiator = is.initiator;
  radio = ap (radio_without ended.handle) is.radio;
}

-- ---- a turn

entering_set : (slot : ℕ) (station : Station) (facts : Facts) → IsSetAs station facts
    → IsSetAs station (facts_entering slot facts)
entering_set slot station facts is = record {
  set = is.set ∙ sym (notes_same facts.view (notes_entered slot facts));
  advertising = is.advertising;
  scanning = is.scanning;
  initiator = is.initiator;
  radio = is.radio;
}

-- the lines say this of a controller that has begun its turn
pub record HasBegun (station : Station) (facts : Facts) : Type 0 where
  pub set : IsSetAs station facts
  pub doing : station.doing ≡ Some facts.turn.doing

-- the links that are due have ended before; the wants of the others are those of the lines
pub turn_same : (setup : Setup) (on : Bool) (linked : ℕ → Linked) (slot : ℕ) (station : Station) (facts : Facts)
    → IsSetAs station (facts_ending slot facts) → station.wants ≡ wants_from slot 0 (facts_ending slot facts).links
    → ((activity : Activity) → winner_of (plan_in slot (turn_begins slot (facts_ending slot facts))) slot ≡ Some activity
    → HasLinked linked (all_entered slot (facts_ending slot facts).links) activity)
    → (is_held_in (facts_ending slot facts).radio.hold slot ≡ true
    → HasLinked linked (all_entered slot (facts_ending slot facts).links) (facts_ending slot facts).radio.holder)
    → HasBegun (served_in on (is_held_in station.radio.hold slot) linked slot station)
    (facts_after setup facts (TurnBegins slot on))
turn_same setup on linked slot station facts is wants winner holder =
    let begun = turn_begins slot (facts_ending slot facts) in
    let same : IsSetAs station begun =
    record { set = is.set; advertising = is.advertising; scanning = is.scanning; initiator = is.initiator; radio = is.radio } in
    let given = slot_same on linked slot station begun same (entering_set slot station begun same) wants winner holder in
    record {
      set = record {
        set = given.set.set;
        advertising = given.set.advertising;
        scanning = given.set.scanning;
        initiator = given.set.initiator;
        radio = given.set.radio;
      };
      doing = given.doing;
    }
