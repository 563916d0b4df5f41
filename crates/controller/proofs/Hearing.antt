-- A link that hears octets in a phase.
use Rattle.std.proofs.Common.{◌≡◌, ℕ, Bool, List, ◌++◌, length, drop, nat_lt, ap, sym, subst, ◌∙◌, append_assoc}
use Rattle.std.specs.List.{fold}
use Rattle.acl_banks.specs.declared.pieces.Piece.{Piece}
use Rattle.ble_base.specs.declared.notes.Note.{Note}
use Rattle.host_view.specs.Links.{was_encrypted}
use Rattle.host_view.specs.Noted.{view_noted}
use Rattle.host_view.specs.View.{View}
use Rattle.link_model.specs.Step.{PacketReceived}
use Rattle.open_links.specs.Knowing.{HeldLinks, Knows as KnowsLinks}
use Rattle.open_links.specs.OpenLinks.{Links, link_after, link_at, with_change}
use Rattle.controller_model.specs.declared.doing.Doing.{Doing}
use Rattle.controller_model.specs.declared.doing.Doing.TheVariants.{CentralListens, PeripheralListens, Rests}
use Rattle.controller_model.specs.declared.doing.Turn.{Turn}
use Rattle.controller_model.specs.Commands.{moment_of}
use Rattle.controller_model.specs.link_commands.declared.moments.Moment.{Moment}
use Rattle.open_links.specs.Keys.{links_with_words}
use Rattle.controller_model.specs.Entering.{HasEntered, IsInEvent}
use Rattle.controller_model.specs.Events.{notes_of_events}
use Rattle.controller_model.specs.Facts.{Setup, Facts}
use Rattle.controller_model.specs.Heard.{draws_in, events_received, facts_with_words, heard, link_heard, links_refusing, notes_taken, piece_taken, refusal_in, replies_in, reply_if}
use Rattle.controller.specs.Held.{Held}
use Rattle.controller.specs.Knowing.{IsAt, PassesOn}
use Rattle.controller.specs.Steps.{place_drawn}
use Rattle.controller.proofs.Accepting.{drawn_is}
use Rattle.controller.proofs.Following.{view_follows}

-- what a link is after octets, and what is noted and done then, of which it knows the view, the slot and the buffers
module _ (handle : ℕ) (octets : List ℕ) (known : Links) (received : List (ℕ × Piece)) where
  abbrev Hears : HeldLinks → View → ℕ → ℕ → Type 0
  Hears new view slot air =
      let room = nat_lt (length received) air in
      KnowsLinks new
      (links_refusing (refusal_in view handle slot room (link_at handle known) octets) handle
      (with_change handle (link_after (PacketReceived slot octets room)) known))
      (received ++ piece_taken slot room (link_at handle known) octets)

  abbrev notes_hearing : List Note → View → ℕ → ℕ → List Note
  notes_hearing before view slot air =
      let room = nat_lt (length received) air in
      before ++ notes_taken slot room (link_at handle known) octets
      ++ notes_of_events view (events_received (was_encrypted handle view.links) handle slot room (link_at handle known) octets)

  -- what is noted after `before`
  abbrev notes_added : View → ℕ → ℕ → List Note
  notes_added view slot air =
      let room = nat_lt (length received) air in
      notes_taken slot room (link_at handle known) octets
      ++ notes_of_events view (events_received (was_encrypted handle view.links) handle slot room (link_at handle known) octets)

  abbrev replies_hearing : ℕ → ℕ → Bool
  replies_hearing slot air = replies_in slot (nat_lt (length received) air) (link_at handle known) octets

  abbrev draws_hearing : ℕ → ℕ → Bool
  draws_hearing slot air = draws_in slot (nat_lt (length received) air) (link_at handle known) octets

-- a peripheral is given words
pub words_at : (has : Setup) (held new : Held) (facts : Facts) (handle : ℕ) (moment : Moment) → new ≡ record held { links = new.links }
    → moment ≡ moment_of has facts → KnowsLinks new.links (links_with_words handle moment.skd_m moment.iv_m facts.links) facts.received
    → IsAt has held facts → IsAt has new (facts_with_words has handle facts)
words_at has held new facts handle moment rest is links k = record {
  setup = ap (λ (h : Held). h.setup) rest ∙ k.setup;
  view = ap (λ (h : Held). h.view) rest ∙ k.view;
  place = ap (λ (h : Held). h.place) rest ∙ k.place;
  access = ap (λ (h : Held). h.access) rest ∙ k.access;
  turn = ap (λ (h : Held). h.turn) rest ∙ k.turn;
  activities = ap (λ (h : Held). h.activities) rest ∙ k.activities;
  links = subst (λ (m : Moment). KnowsLinks new.links (links_with_words handle m.skd_m m.iv_m facts.links) facts.received) is links;
}

pub hears_is : (has : Setup) (held new : Held) (facts : Facts) (handle : ℕ) (octets : List ℕ) (place : ℕ) (before noted : List Note)
    (replies draws : Bool) (word : ℕ) (next : Doing)
    → new ≡ record held {
      view = new.view;
      place = word;
      turn = record held.turn { doing = Rests };
      links = new.links;
    }
    → word ≡ place_drawn draws (length held.setup.words) held.place
    → Hears handle octets facts.links facts.received new.links held.view held.turn.slot held.setup.air_buffers
    → noted ≡ notes_hearing handle octets facts.links facts.received before held.view held.turn.slot held.setup.air_buffers
    → place ≡ length before → new.view ≡ fold view_noted held.view (drop place noted)
    → replies ≡ replies_hearing handle octets facts.links facts.received held.turn.slot held.setup.air_buffers
    → draws ≡ draws_hearing handle octets facts.links facts.received held.turn.slot held.setup.air_buffers
    → next ≡ reply_if replies handle → IsAt has held facts → PassesOn has new before noted next (link_heard has handle octets facts)
hears_is has held new facts handle octets place before noted replies draws word next rest drawn links notes at follows reply draw does k =
    record {
      at = record {
        setup = ap (λ (h : Held). h.setup) rest ∙ k.setup;
        view = view_follows held.view new.view place before (added held.view held.turn.slot held.setup.air_buffers) noted at told follows
            ∙ (λ i. fold view_noted (k.view i) (added (k.view i) (k.turn i).slot (k.setup i).air_buffers));
        place = ap (λ (h : Held). h.place) rest ∙ drawn ∙ (λ i. place_drawn (drew i) (length (k.setup i).words) (k.place i))
            ∙ drawn_is (draws_hearing handle octets facts.links facts.received facts.turn.slot has.air_buffers) (length has.words) facts.drawn;
        access = ap (λ (h : Held). h.access) rest ∙ k.access;
        turn = ap (λ (h : Held). h.turn) rest ∙ ap (λ (turn : Turn). record turn { doing = Rests }) k.turn;
        activities = ap (λ (h : Held). h.activities) rest ∙ k.activities;
        links = subst (λ (at : View × (ℕ × ℕ)). Hears handle octets facts.links facts.received new.links at.0 at.1.0 at.1.1) is links;
      };
      notes = told ∙ (λ i. before ++ added (k.view i) (k.turn i).slot (k.setup i).air_buffers);
      doing = does ∙ ap (λ test. reply_if test handle)
          (reply ∙ (λ i. replies_hearing handle octets facts.links facts.received (k.turn i).slot (k.setup i).air_buffers));
    }
  where
    is : ◌≡◌ {A = View × (ℕ × ℕ)} (held.view, (held.turn.slot, held.setup.air_buffers)) (facts.view, (facts.turn.slot, has.air_buffers))
    is = λ i. (k.view i, ((k.turn i).slot, (k.setup i).air_buffers))

    drew : draws ≡ draws_hearing handle octets facts.links facts.received facts.turn.slot has.air_buffers
    drew = draw ∙ (λ i. draws_hearing handle octets facts.links facts.received (k.turn i).slot (k.setup i).air_buffers)

    added : View → ℕ → ℕ → List Note
    added = notes_added handle octets facts.links facts.received

    told : noted ≡ before ++ added held.view held.turn.slot held.setup.air_buffers
    told = notes ∙ append_assoc before _ _

-- what comes of a phase is known by what was done in it
module _ (has : Setup) (held new : Held) (facts : Facts) (octets : List ℕ) (before noted : List Note) (next : Doing) (k : IsAt has held facts)
    (in_event : IsInEvent facts.turn.doing facts.links) where
  heard_on : (doing : Doing) → held.turn.doing ≡ doing
      → (IsInEvent doing facts.links → PassesOn has new before noted next (heard has doing octets facts))
      → PassesOn has new before noted next (heard has facts.turn.doing octets facts)
  heard_on doing is passes =
      let does : facts.turn.doing ≡ doing = sym (ap (λ (turn : Turn). turn.doing) k.turn) ∙ is in
      subst (λ (doing : Doing). PassesOn has new before noted next (heard has doing octets facts)) (sym does)
      (passes (subst (λ (doing : Doing). IsInEvent doing facts.links) does in_event))

  -- it listened on a link
  pub heard_at_central : (handle : ℕ) → held.turn.doing ≡ CentralListens handle
      → (HasEntered (link_at handle facts.links) → PassesOn has new before noted next (link_heard has handle octets facts))
      → PassesOn has new before noted next (heard has facts.turn.doing octets facts)
  heard_at_central handle is passes = heard_on (CentralListens handle) is passes

  pub heard_at_peripheral : (handle : ℕ) → held.turn.doing ≡ PeripheralListens handle
      → (HasEntered (link_at handle facts.links)
      → PassesOn has new before noted next (link_heard has handle octets (facts_with_words has handle facts)))
      → PassesOn has new before noted next (heard has facts.turn.doing octets facts)
  heard_at_peripheral handle is passes = heard_on (PeripheralListens handle) is passes
