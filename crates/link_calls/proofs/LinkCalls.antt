-- What each call on a controller does to the link under one handle, and that it opens no other one there.
use Rattle.std.proofs.Common.{◌≡◌, ℕ, ◌==◌, ◌⊎◌, inl, inr, Bool, true, false, Option, Some, None, List, [], ◌∷◌, ◌++◌, refl, sym, ap, subst, ◌∙◌}
use Rattle.std.specs.Prelude.{All, IfSome}
use Rattle.std.proofs.lemmas.Bool.{eqb-true, eq-eqb}
use Rattle.std.proofs.lemmas.List.Elements.{All-append, All-cons, All-from_recursion, All-nil}
use Rattle.ble_base.specs.declared.notes.Note.{Note}
use Rattle.ble_base.specs.declared.error_codes.ErrCode.{ErrCode}
use Rattle.ble_base.specs.declared.notes.Note.TheVariants.{Done, Refused, Took}
use Rattle.ble_base.specs.declared.procedure_kinds.Kind.{Kind}
use Rattle.hci_evt.specs.declared.event.Event.{Event}
use Rattle.run_laws.specs.host_view.Links.{was_encrypted}
use Rattle.run_laws.specs.host_view.View.{View}
use Rattle.run_laws.specs.link_model.declared.setup.LinkSetup.{LinkSetup}
use Rattle.run_laws.specs.link_model.End.{facts_of as end_facts}
use Rattle.run_laws.specs.link_model.Facts.{Facts as EndFacts}
use Rattle.run_laws.specs.link_model.Events.{no_event}
use Rattle.run_laws.specs.link_model.Setup.{Setup as EndSetup}
use Rattle.run_laws.specs.link_model.Packets.{good_pdu}
use Rattle.run_laws.specs.link_model.Step.{Step as EndStep, EventEntered, PacketReceived, PacketSent, PduFixed}
use Rattle.run_laws.proofs.link_model.Agreeing.{others_leave}
use Rattle.run_laws.specs.scan_init.Reports.{scan_answer}
use Rattle.slot_plan.specs.declared.Activity.{Activity}
use Rattle.slot_plan.specs.declared.Activity.TheVariants.{Link, Advertise, Scan, Initiate}
use Rattle.slot_plan.specs.Holding.{is_held_in, winner_of}
use Rattle.run_laws.specs.open_links.OpenLinks.{Links, OpenLink, facts_in, link_after, link_at, link_served, with_change, new_link}
use Rattle.run_laws.specs.open_links.Turns.{due_in, entered_if, enters_in, link_entered, links_without}
use Rattle.run_laws.proofs.open_links.Unmoved.{entered_setup}
use Rattle.run_laws.specs.controller_model.declared.doing.Doing.{Doing}
use Rattle.run_laws.specs.controller_model.declared.doing.Doing.TheVariants.{Advertises, CentralSends, CentralListens, PeripheralListens, PeripheralSends}
use Rattle.run_laws.specs.controller_model.Step.{TurnBegins}
use Rattle.run_laws.specs.controller_model.Facts.{Setup, Facts}
use Rattle.run_laws.specs.controller_model.Events.{notes_of_events}
use Rattle.run_laws.specs.controller_model.Heard.{events_received, events_reported, facts_with_words, has_room, heard, link_heard, link_received, link_taken, notes_taken, opens, refusal_in, replies_in, reply_if, scanner_heard, unheard}
use Rattle.run_laws.specs.controller_model.Links.{events_opened, facts_ending}
use Rattle.run_laws.specs.controller_model.Outcome.{Outcome, facts_passed, notes_passed}
use Rattle.run_laws.specs.controller_model.Packets.{notes_doing}
use Rattle.run_laws.specs.controller_model.Radio.{facts_entering, outcome_begun, plan_in, radio_served, served, turn_begins, winner_served}
use Rattle.run_laws.specs.controller_model.Side.{facts_after, notes_after}
use Rattle.run_laws.proofs.controller_model.Always.{ending_is, links_won, opening_is, winning_is}
use Rattle.run_laws.proofs.controller_model.EndNotes.{received_each}
use Rattle.run_laws.proofs.controller_model.Phases.{EachOutcome, heard_is, unheard_is}
use Rattle.run_laws.proofs.controller_model.Places.{link_receiving as place_receiving, receiving_is}
use Rattle.run_laws.specs.run_model.Run.{step_of}
use Rattle.run_laws.proofs.Agreed.{ack_asked, ack_fixed, ack_of, step_facts}
use Rattle.run_laws.proofs.LinkPasses.{IsPassingOn, LeavesAll, OpensOne, ReceivesOn}
use Rattle.run_laws.proofs.TurnSteps.{IsListening, begins_slot}
use Rattle.link_calls.specs.Phases.{HasPassed, IsNew, Stays, Takes, base_receiving, link_receiving, link_worded, refusal_at, refused_if}
use Rattle.link_calls.specs.Turns.{HasBegunTurn, change_if, fixed_if, sent_if}
use Rattle.link_calls.specs.Uses.{fixes_under, is_on_link, listens_under, sends_under}
use Rattle.link_calls.proofs.AtOnce.{IsRefusal, refusal_asks, refusal_is}
use Rattle.link_calls.proofs.CallNotes.{IsOfFeeds, OpensNone, SendsNone, doing_noted, events_noted, opening_none}
use Rattle.link_calls.proofs.HeardSteps.{HasHeardSame}
use Rattle.link_calls.proofs.HostSteps.{asked_leaves}
use Rattle.link_calls.proofs.OffLinks.{off_phase}
use Rattle.link_calls.proofs.UnderHandles.{IsOpenedIf, WasOpen, change_under, entered_under, fixing_under, opened_under, sending_under, staying_under}
use Rattle.link_calls.proofs.Worded.{worded_heard, worded_same, worded_setup}

-- ---- a turn begins

-- a link that gets the radio, or does not
record WasServed (before : Option OpenLink) (after : OpenLink) : Type 0 where
  link : OpenLink
  was : before ≡ Some link
  setup_is : after.setup ≡ link.setup
  past_is : after.past ≡ link.past

served_none : (place : Option OpenLink) (after : OpenLink) → place ≡ Some after → WasServed place after
served_none place after is = record { link = after; was = is; setup_is = refl; past_is = refl }

served_if : (same : Bool) (slot : ℕ) (place : Option OpenLink) (after : OpenLink) → WasOpen (change_if same (link_served slot)) place after → WasServed place after
served_if true slot place after was =
    record { link = was.link; was = was.was; setup_is = ap (λ (l : OpenLink). l.setup) was.is; past_is = ap (λ (l : OpenLink). l.past) was.is }
served_if false slot place after was =
    record { link = was.link; was = was.was; setup_is = ap (λ (l : OpenLink). l.setup) was.is; past_is = ap (λ (l : OpenLink). l.past) was.is }

won_under : (slot handle : ℕ) (activity : Activity) (links : Links) (after : OpenLink) → link_at handle (links_won slot activity links) ≡ Some after
    → WasServed (link_at handle links) after
won_under slot handle (Link other) links after is =
    served_if (other == handle) slot (link_at handle links) after (change_under other handle (link_served slot) links after is)
won_under slot handle Advertise links after is = served_none (link_at handle links) after is
won_under slot handle Scan links after is = served_none (link_at handle links) after is
won_under slot handle Initiate links after is = served_none (link_at handle links) after is

winner_under : (slot handle : ℕ) (winner : Option Activity) (facts : Facts) (after : OpenLink) → link_at handle (winner_served slot winner facts).facts.links ≡ Some after
    → WasServed (link_at handle facts.links) after
winner_under slot handle None facts after is = served_none (link_at handle facts.links) after is
winner_under slot handle (Some activity) facts after is =
    won_under slot handle activity facts.links after (ap (λ (won : Facts). link_at handle won.links) (sym (winning_is slot activity facts)) ∙ is)

radio_under : (held : Bool) (slot handle : ℕ) (winner : Option Activity) (facts : Facts) (after : OpenLink)
    → link_at handle (radio_served held slot winner facts).facts.links ≡ Some after → WasServed (link_at handle facts.links) after
radio_under true slot handle winner facts after is = served_none (link_at handle facts.links) after is
radio_under false slot handle winner facts after is = winner_under slot handle winner facts after is

served_under : (on : Bool) (slot handle : ℕ) (winner : Option Activity) (facts : Facts) (after : OpenLink)
    → link_at handle (served on slot winner facts).facts.links ≡ Some after → WasServed (link_at handle facts.links) after
served_under false slot handle winner facts after is = served_none (link_at handle facts.links) after is
served_under true slot handle winner facts after is = radio_under (is_held_in facts.radio.hold slot) slot handle winner facts after is

-- the link was open before and stays; it enters its event where that is due, fixes its PDU where it has an exchange,
-- and sends where it is to
pub record HasBegun (facts : Facts) (slot : ℕ) (on : Bool) (handle : ℕ) (doing : Doing) (after : OpenLink) : Type 0 where
  pub link : OpenLink
  pub was : link_at handle facts.links ≡ Some link
  pub stayed : link_at handle (links_without (due_in slot) facts.links) ≡ Some link
  pub not_due : due_in slot link ≡ None
  pub entered : OpenLink
  pub setup_is : entered.setup ≡ link.setup
  pub past_is : entered.past ≡ (link_entered slot link).past
  pub fixes : Bool
  pub fixes_is : fixes ≡ fixes_under handle doing
  pub base : OpenLink
  pub found : link_at handle (outcome_begun slot on facts).facts.links ≡ Some base
  pub base_is : base ≡ fixed_if fixes entered
  pub is : after ≡ sent_if (sends_under handle doing) slot base

pub begins_under : (setup : Setup) (facts : Facts) (slot : ℕ) (on : Bool) (handle : ℕ) (after : OpenLink)
    → link_at handle (facts_after setup facts (TurnBegins slot on)).links ≡ Some after
    → HasBegun facts slot on handle (facts_after setup facts (TurnBegins slot on)).turn.doing after
begins_under setup facts slot on handle after is =
    let begun = turn_begins slot (facts_ending slot facts) in
    let outcome = outcome_begun slot on facts in
    let before = served on slot (winner_of (plan_in slot begun) slot) (facts_entering slot begun) in
    let sent = sending_under outcome.facts.turn.slot handle outcome.next outcome.facts.links after is in
    let fixed = fixing_under handle before.next before.facts.links sent.link sent.was in
    let base = served_under on slot handle (winner_of (plan_in slot begun) slot) (facts_entering slot begun) fixed.link fixed.was in
    let entered = entered_under slot handle begun.links base.link base.was in
    let here : link_at handle (links_without (due_in slot) facts.links) ≡ Some entered.link = ap (λ (ended : Facts). link_at handle ended.links) (sym (ending_is slot facts)) ∙ entered.was in
    let stayed = staying_under (due_in slot) handle facts.links entered.link here in
    record {
      link = entered.link;
      was = stayed.was;
      stayed = here;
      not_due = stayed.stays;
      entered = fixed.link;
      setup_is = base.setup_is ∙ ap (λ (l : OpenLink). l.setup) entered.is ∙ entered_setup slot entered.link;
      past_is = base.past_is ∙ ap (λ (l : OpenLink). l.past) entered.is;
      fixes = fixes_under handle before.next;
      fixes_is = refl;
      base = sent.link;
      found = sent.was;
      base_is = fixed.is;
      is = sent.is ∙ ap (λ (n : ℕ). sent_if (sends_under handle outcome.next) n sent.link) (begins_slot setup slot on facts);
    }

-- what happened to a link later depends on what happened before alone
sent_past : (sends : Bool) (slot : ℕ) (one other : OpenLink) → one.past ≡ other.past → (sent_if sends slot one).past ≡ (sent_if sends slot other).past
sent_past true slot one other same = ap (λ (past : List EndStep). past ++ PacketSent slot ∷ []) same
sent_past false slot one other same = same

fixed_past : (fixes : Bool) (one other : OpenLink) → one.past ≡ other.past → (fixed_if fixes one).past ≡ (fixed_if fixes other).past
fixed_past true one other same = ap (λ (past : List EndStep). past ++ PduFixed ∷ []) same
fixed_past false one other same = same

pub sent_setup : (sends : Bool) (slot : ℕ) (link : OpenLink) → (sent_if sends slot link).setup ≡ link.setup
sent_setup true slot link = refl
sent_setup false slot link = refl

pub fixed_setup : (fixes : Bool) (link : OpenLink) → (fixed_if fixes link).setup ≡ link.setup
fixed_setup true link = refl
fixed_setup false link = refl

-- all that happened to the link, in order
pub turn_begun_under : (setup : Setup) (facts : Facts) (slot : ℕ) (on : Bool) (handle : ℕ) (after : OpenLink)
    → link_at handle (facts_after setup facts (TurnBegins slot on)).links ≡ Some after
    → HasBegunTurn facts.links slot handle (facts_after setup facts (TurnBegins slot on)).turn.doing after
turn_begun_under setup facts slot on handle after is =
    let doing = (facts_after setup facts (TurnBegins slot on)).turn.doing in
    let has = begins_under setup facts slot on handle after is in
    let sends = sends_under handle doing in
    let fixed = ap (λ (l : OpenLink). l.past) has.base_is ∙ ap (λ b. (fixed_if b has.entered).past) has.fixes_is
    ∙ fixed_past (fixes_under handle doing) has.entered (link_entered slot has.link) has.past_is in
    record {
      link = has.link;
      was = has.was;
      stays = has.not_due;
      setup_is = ap (λ (l : OpenLink). l.setup) has.is ∙ sent_setup sends slot has.base ∙ ap (λ (l : OpenLink). l.setup) has.base_is ∙ fixed_setup has.fixes has.entered ∙ has.setup_is;
      past_is = ap (λ (l : OpenLink). l.past) has.is ∙ sent_past sends slot has.base (fixed_if (fixes_under handle doing) (link_entered slot has.link)) fixed;
    }

-- a link that is open as a turn has begun was open before it
pub record WasLinked (handle : ℕ) (links : Links) : Type 0 where
  pub link : OpenLink
  pub was : link_at handle links ≡ Some link

pub begun_before : (facts : Facts) (slot : ℕ) (on : Bool) (handle : ℕ) (base : OpenLink) → link_at handle (outcome_begun slot on facts).facts.links ≡ Some base
    → WasLinked handle facts.links
begun_before facts slot on handle base is =
    let begun = turn_begins slot (facts_ending slot facts) in
    let before = served on slot (winner_of (plan_in slot begun) slot) (facts_entering slot begun) in
    let fixed = fixing_under handle before.next before.facts.links base is in
    let got = served_under on slot handle (winner_of (plan_in slot begun) slot) (facts_entering slot begun) fixed.link fixed.was in
    let entered = entered_under slot handle begun.links got.link got.was in
    let here : link_at handle (links_without (due_in slot) facts.links) ≡ Some entered.link = ap (λ (ended : Facts). link_at handle ended.links) (sym (ending_is slot facts)) ∙ entered.was in
    record { link = entered.link; was = (staying_under (due_in slot) handle facts.links entered.link here).was }

fixed_ack : (fixes : Bool) (link : OpenLink) → ack_of (fixed_if fixes link) ≡ ack_of link
fixed_ack true link = ack_fixed link
fixed_ack false link = refl

entered_ack : (enters : Bool) (slot : ℕ) (link : OpenLink) → ack_of (entered_if enters slot link) ≡ ack_of link
entered_ack false slot link = refl
entered_ack true slot link =
    ap (λ (f : EndFacts). f.acknowledgement) (step_facts link (EventEntered slot)) ∙ others_leave link.setup (facts_in link) (EventEntered slot) refl

-- entering an event and fixing a PDU change no count
pub base_ack : (facts : Facts) (slot : ℕ) (on : Bool) (handle : ℕ) (doing : Doing) (after : OpenLink) (begun : HasBegun facts slot on handle doing after)
    → ack_of begun.base ≡ ack_of begun.link
base_ack facts slot on handle doing after begun =
    ap ack_of begun.base_is ∙ fixed_ack begun.fixes begun.entered
    ∙ (λ i. ack_of (record { setup = (begun.setup_is ∙ sym (entered_setup slot begun.link)) i; past = begun.past_is i; last_served = 0 }))
    ∙ entered_ack (enters_in slot begun.link) slot begun.link

-- ---- a link that receives a packet, a request of which may be answered at once

module _ (handle : ℕ) (room : Bool) (octets : List ℕ) (facts : Facts) (base : OpenLink) where
  abbrev base_taken : OpenLink
  base_taken = link_after (PacketReceived facts.turn.slot octets room) base

  -- to answer changes its procedures, and what follows of these, alone
  pub answered_setup : (base_receiving handle room octets facts base).setup ≡ base.setup
  answered_setup = by (refusal_at handle room octets facts base)
    where
      by : (refusal : Option EndStep) → (refused_if refusal base_taken).setup ≡ base.setup
      by None = refl
      by (Some step) = refl

  pub answered_ack : ack_of (base_receiving handle room octets facts base) ≡ ack_of base_taken
  answered_ack = by (refusal_at handle room octets facts base) (refusal_is handle room octets facts base)
    where
      by : (refusal : Option EndStep) → IfSome refusal IsRefusal → ack_of (refused_if refusal base_taken) ≡ ack_of base_taken
      by None is = refl
      by (Some step) is = ack_asked step base_taken (refusal_asks step is)

  pub answered_same : HasHeardSame (facts_in (base_receiving handle room octets facts base)) (facts_in base_taken)
  answered_same = by (refusal_at handle room octets facts base) (refusal_is handle room octets facts base)
    where
      by : (refusal : Option EndStep) → IfSome refusal IsRefusal → HasHeardSame (facts_in (refused_if refusal base_taken)) (facts_in base_taken)
      by None is = record { event = refl; good = refl }
      by (Some step) is =
          let leaves = asked_leaves base_taken.setup (facts_in base_taken) step (refusal_asks step is) in
          let same = step_facts base_taken step in
          record { event = ap (λ (f : EndFacts). f.event) same ∙ leaves.event; good = ap (λ (f : EndFacts). f.last_good) same ∙ leaves.good }

-- a peripheral has words then, which change nothing of that
module _ (setup : Setup) (handle : ℕ) (room : Bool) (octets : List ℕ) (facts : Facts) (link : OpenLink) where
  abbrev worded : OpenLink
  worded = link_worded setup facts facts.turn.doing link

  abbrev taken : OpenLink
  taken = link_after (PacketReceived facts.turn.slot octets room) link

  pub receiving_setup : (link_receiving setup handle room octets facts link).setup ≡ link.setup
  receiving_setup = answered_setup handle room octets facts worded ∙ worded_setup setup facts facts.turn.doing link

  pub receiving_ack : ack_of (link_receiving setup handle room octets facts link) ≡ ack_of taken
  receiving_ack =
      answered_ack handle room octets facts worded ∙ worded_heard setup facts facts.turn.doing link facts.turn.slot octets room

  pub receiving_event : (facts_in (link_receiving setup handle room octets facts link)).event ≡ (facts_in taken).event
  receiving_event =
      (answered_same handle room octets facts worded).event ∙ (worded_same setup facts facts.turn.doing link facts.turn.slot octets room).event

-- ---- a phase passes

pub off_sends : (handle : ℕ) (doing : Doing) → is_on_link doing ≡ false → sends_under handle doing ≡ false
off_sends handle (CentralSends other) off = absurd cc
off_sends handle (PeripheralSends other) off = absurd cc
off_sends handle (Advertises channel) off = refl
off_sends handle other off = refl

pub off_listens : (handle : ℕ) (doing : Doing) → is_on_link doing ≡ false → listens_under handle doing ≡ false
off_listens handle (CentralListens other) off = absurd cc
off_listens handle (PeripheralListens other) off = absurd cc
off_listens handle (Advertises channel) off = refl
off_listens handle other off = refl

deaf : (handle : ℕ) (doing : Doing) (received : Option (List ℕ)) → listens_under handle doing ≡ false → listens_under handle doing ≡ true → received ≡ None
deaf handle doing received is listens = absurd (let h : true ≡ false = sym listens ∙ is in absurd cc)

-- what it listens for next on a link, it sent on that link
hears_none : (handle : ℕ) (doing before : Doing) → listens_under handle doing ≡ false → listens_under handle doing ≡ true → sends_under handle before ≡ true
hears_none handle doing before none listens = absurd (let h : true ≡ false = sym listens ∙ none in absurd cc)

off_after : (facts after : Facts) (received : Option (List ℕ)) → is_on_link facts.turn.doing ≡ false → (is_on_link after.turn.doing ≡ true → is_on_link facts.turn.doing ≡ true)
    → (on : Bool) → is_on_link after.turn.doing ≡ on → is_on_link after.turn.doing ≡ false
off_after facts after received off on true is = absurd (let h : true ≡ false = sym (on is) ∙ off in absurd cc)
off_after facts after received off on false is = is

opened_passes : (setup : Setup) (facts after : Facts) (room : Bool) (received : Option (List ℕ)) (handle : ℕ) (end : EndSetup) (link : OpenLink) → is_on_link facts.turn.doing ≡ false → is_on_link after.turn.doing ≡ false
    → end.opened ≡ facts.turn.slot → (same : Bool) → IsOpenedIf same end (link_at handle facts.links) link
    → HasPassed setup facts room received handle after.turn.doing link
opened_passes setup facts after room received handle end link off none now true is = IsNew end is now none
opened_passes setup facts after room received handle end link off none now false is =
    Stays is (off_sends handle after.turn.doing none) (deaf handle facts.turn.doing received (off_listens handle facts.turn.doing off)) (hears_none handle after.turn.doing facts.turn.doing (off_listens handle after.turn.doing none))

off_passes : (setup : Setup) (facts after : Facts) (room : Bool) (received : Option (List ℕ)) (handle : ℕ) (link : OpenLink) → is_on_link facts.turn.doing ≡ false → IsPassingOn facts received after
    → link_at handle after.links ≡ Some link → HasPassed setup facts room received handle after.turn.doing link
off_passes setup facts after room received handle link off (LeavesAll same on) is =
    let none = off_after facts after received off on (is_on_link after.turn.doing) refl in
    Stays (ap (link_at handle) (sym same) ∙ is) (off_sends handle after.turn.doing none) (deaf handle facts.turn.doing received (off_listens handle facts.turn.doing off))
    (hears_none handle after.turn.doing facts.turn.doing (off_listens handle after.turn.doing none))
off_passes setup facts after room received handle link off (OpensOne made made_is none) is =
    let end : EndSetup = record { link = made; opened = facts.turn.slot } in
    opened_passes setup facts after room received handle end link off none refl (made.handle == handle)
    (opened_under end handle facts.links link (ap (link_at handle) (sym made_is) ∙ is) (made.handle == handle) refl)
off_passes setup facts after room received handle link off (ReceivesOn other octets was wanted listens on roomy words answer replies well links_are) is = absurd (let h : true ≡ false = sym on ∙ off in absurd cc)

reply_none : (replies : Bool) (handle other : ℕ) → (other == handle) ≡ false → sends_under handle (reply_if replies other) ≡ false
reply_none true handle other differs = differs
reply_none false handle other differs = refl

reply_deaf : (replies : Bool) (handle other : ℕ) → listens_under handle (reply_if replies other) ≡ false
reply_deaf true handle other = refl
reply_deaf false handle other = refl

-- it takes a packet on the link under some handle, with these links: its own one may have been given words
module _ (setup : Setup) (facts : Facts) (links : Links) (octets : List ℕ) (handle other : ℕ)
    (given : (base : OpenLink) → link_at handle links ≡ Some base
    → WasOpen (change_if (other == handle) (link_worded setup facts facts.turn.doing)) (link_at handle facts.links) base) where
  abbrev heard_with : Facts
  heard_with = record facts { links = links }

  abbrev room_now : Bool
  room_now = has_room setup facts

  abbrev change : OpenLink → OpenLink
  change = place_receiving other room_now octets heard_with

  -- it is answered at once as the request in the packet says
  change_is : (base : OpenLink) → (other == handle) ≡ true → link_at handle links ≡ Some base → change base ≡ base_receiving handle room_now octets facts base
  change_is base same at =
      ap (λ n. refused_if (refusal_in facts.view n facts.turn.slot room_now (link_at n links) octets) (link_after (PacketReceived facts.turn.slot octets room_now) base)) (eqb-true other handle same)
      ∙ ap (λ place. refused_if (refusal_in facts.view handle facts.turn.slot room_now place octets) (link_after (PacketReceived facts.turn.slot octets room_now) base)) at

  taken_by : (after : OpenLink) (replies : Bool) → listens_under handle facts.turn.doing ≡ (other == handle)
      → WasOpen (sent_if (sends_under handle (reply_if replies other)) facts.turn.slot) (link_at handle (with_change other change links)) after
      → (same : Bool) → (other == handle) ≡ same → HasPassed setup facts room_now (Some octets) handle (reply_if replies other) after
  taken_by after replies listens sent true one =
      let was = change_under other handle change links sent.link sent.was in
      let origin = given was.link was.was in
      Takes origin.link octets origin.was refl (listens ∙ one)
      (sent.is ∙ ap (sent_if (sends_under handle (reply_if replies other)) facts.turn.slot)
      (was.is ∙ ap (λ (b : Bool). change_if b change was.link) one ∙ change_is was.link one was.was
      ∙ ap (base_receiving handle room_now octets facts) (origin.is ∙ ap (λ (b : Bool). change_if b (link_worded setup facts facts.turn.doing) origin.link) one)))
  taken_by after replies listens sent false differs =
      let none = reply_none replies handle other differs in
      let was = change_under other handle change links sent.link sent.was in
      let origin = given was.link was.was in
      let same : after ≡ origin.link = sent.is ∙ ap (λ (b : Bool). sent_if b facts.turn.slot sent.link) none
      ∙ was.is ∙ ap (λ (b : Bool). change_if b change was.link) differs
      ∙ origin.is ∙ ap (λ (b : Bool). change_if b (link_worded setup facts facts.turn.doing) origin.link) differs in
      Stays (origin.was ∙ ap Some (sym same)) none (deaf handle facts.turn.doing (Some octets) (listens ∙ differs)) (hears_none handle (reply_if replies other) facts.turn.doing (reply_deaf replies handle other))

  takes_on : (after : OpenLink) → listens_under handle facts.turn.doing ≡ (other == handle)
      → link_at handle (facts_passed (link_heard setup other octets heard_with)).links ≡ Some after
      → HasPassed setup facts room_now (Some octets) handle (facts_passed (link_heard setup other octets heard_with)).turn.doing after
  takes_on after listens is =
      let replies = replies_in facts.turn.slot room_now (link_at other links) octets in
      let sent = sending_under facts.turn.slot handle (reply_if replies other) (link_received other room_now octets heard_with).links after is in
      taken_by after replies listens
      (subst (λ (found : Links). WasOpen (sent_if (sends_under handle (reply_if replies other)) facts.turn.slot) (link_at handle found) after) (receiving_is other room_now octets heard_with) sent)
      (other == handle) refl

-- a central hears without words
unworded : (setup : Setup) (facts : Facts) (handle other : ℕ) → facts.turn.doing ≡ CentralListens other → (base : OpenLink) → link_at handle facts.links ≡ Some base
    → WasOpen (change_if (other == handle) (link_worded setup facts facts.turn.doing)) (link_at handle facts.links) base
unworded setup facts handle other doing base is = record { link = base; was = is; is = by (other == handle) }
  where
    by : (same : Bool) → base ≡ change_if same (link_worded setup facts facts.turn.doing) base
    by true = ap (λ (d : Doing). link_worded setup facts d base) (sym doing)
    by false = refl

-- and a peripheral with those that it is given
given_words : (setup : Setup) (facts : Facts) (handle other : ℕ) → facts.turn.doing ≡ PeripheralListens other → (base : OpenLink)
    → link_at handle (facts_with_words setup other facts).links ≡ Some base
    → WasOpen (change_if (other == handle) (link_worded setup facts facts.turn.doing)) (link_at handle facts.links) base
given_words setup facts handle other doing base is =
    let was = change_under other handle (link_worded setup facts (PeripheralListens other)) facts.links base is in
    record { link = was.link; was = was.was; is = was.is ∙ ap (λ (d : Doing). change_if (other == handle) (link_worded setup facts d) was.link) (sym doing) }

passes_by : (setup : Setup) (facts : Facts) (received : Option (List ℕ)) (handle : ℕ) (after : OpenLink) (doing : Doing) → facts.turn.doing ≡ doing
    → link_at handle (facts_after setup facts (step_of received)).links ≡ Some after
    → HasPassed setup facts (has_room setup facts) received handle (facts_after setup facts (step_of received)).turn.doing after
passes_by setup facts None handle after (CentralSends other) doing is =
    let next = ap (λ (d : Doing). (unheard d facts)) doing in
    Stays (ap (λ (o : Outcome). link_at handle (facts_passed o).links) (sym next) ∙ is) (ap (λ (o : Outcome). sends_under handle o.next) next)
    (deaf handle facts.turn.doing None (ap (listens_under handle) doing)) (λ listens. ap (sends_under handle) doing ∙ sym (ap (λ (o : Outcome). listens_under handle o.next) next) ∙ listens)
passes_by setup facts (Some octets) handle after (CentralSends other) doing is =
    let next = ap (λ (d : Doing). (heard setup d octets facts)) doing in
    Stays (ap (λ (o : Outcome). link_at handle (facts_passed o).links) (sym next) ∙ is) (ap (λ (o : Outcome). sends_under handle o.next) next)
    (deaf handle facts.turn.doing (Some octets) (ap (listens_under handle) doing)) (λ listens. ap (sends_under handle) doing ∙ sym (ap (λ (o : Outcome). listens_under handle o.next) next) ∙ listens)
passes_by setup facts None handle after (PeripheralSends other) doing is =
    let next = ap (λ (d : Doing). (unheard d facts)) doing in
    Stays (ap (λ (o : Outcome). link_at handle (facts_passed o).links) (sym next) ∙ is) (ap (λ (o : Outcome). sends_under handle o.next) next)
    (deaf handle facts.turn.doing None (ap (listens_under handle) doing))
    (hears_none handle (unheard facts.turn.doing facts).next facts.turn.doing (ap (λ (o : Outcome). listens_under handle o.next) next))
passes_by setup facts (Some octets) handle after (PeripheralSends other) doing is =
    let next = ap (λ (d : Doing). (heard setup d octets facts)) doing in
    Stays (ap (λ (o : Outcome). link_at handle (facts_passed o).links) (sym next) ∙ is) (ap (λ (o : Outcome). sends_under handle o.next) next)
    (deaf handle facts.turn.doing (Some octets) (ap (listens_under handle) doing))
    (hears_none handle (heard setup facts.turn.doing octets facts).next facts.turn.doing (ap (λ (o : Outcome). listens_under handle o.next) next))
passes_by setup facts None handle after (CentralListens other) doing is =
    let next = ap (λ (d : Doing). (unheard d facts)) doing in
    Stays (ap (λ (o : Outcome). link_at handle (facts_passed o).links) (sym next) ∙ is) (ap (λ (o : Outcome). sends_under handle o.next) next) (λ listens. refl)
    (hears_none handle (unheard facts.turn.doing facts).next facts.turn.doing (ap (λ (o : Outcome). listens_under handle o.next) next))
passes_by setup facts (Some octets) handle after (CentralListens other) doing is =
    let next = ap (λ (d : Doing). (heard setup d octets facts)) doing in
    subst (λ (o : Outcome). HasPassed setup facts (has_room setup facts) (Some octets) handle o.next after) (sym next)
    (takes_on setup facts facts.links octets handle other (unworded setup facts handle other doing) after (ap (listens_under handle) doing)
    (ap (λ (o : Outcome). link_at handle (facts_passed o).links) (sym next) ∙ is))
passes_by setup facts None handle after (PeripheralListens other) doing is =
    let next = ap (λ (d : Doing). (unheard d facts)) doing in
    Stays (ap (λ (o : Outcome). link_at handle (facts_passed o).links) (sym next) ∙ is) (ap (λ (o : Outcome). sends_under handle o.next) next) (λ listens. refl)
    (hears_none handle (unheard facts.turn.doing facts).next facts.turn.doing (ap (λ (o : Outcome). listens_under handle o.next) next))
passes_by setup facts (Some octets) handle after (PeripheralListens other) doing is =
    let next = ap (λ (d : Doing). (heard setup d octets facts)) doing in
    subst (λ (o : Outcome). HasPassed setup facts (has_room setup facts) (Some octets) handle o.next after) (sym next)
    (takes_on setup facts (facts_with_words setup other facts).links octets handle other (given_words setup facts handle other doing) after (ap (listens_under handle) doing)
    (ap (λ (o : Outcome). link_at handle (facts_passed o).links) (sym next) ∙ is))
passes_by setup facts received handle after (Advertises channel) doing is =
    off_passes setup facts _ (has_room setup facts) received handle after (ap is_on_link doing) (off_phase setup facts received (Advertises channel) doing refl) is
passes_by setup facts received handle after other doing is =
    off_passes setup facts _ (has_room setup facts) received handle after (ap is_on_link doing) (off_phase setup facts received other doing refl) is

pub phase_under : (setup : Setup) (facts : Facts) (received : Option (List ℕ)) (handle : ℕ) (after : OpenLink)
    → link_at handle (facts_after setup facts (step_of received)).links ≡ Some after
    → HasPassed setup facts (has_room setup facts) received handle (facts_after setup facts (step_of received)).turn.doing after
phase_under setup facts received handle after is = passes_by setup facts received handle after facts.turn.doing refl is

-- where it is known what it listens for
pub passes_under : (setup : Setup) (facts : Facts) (received : Option (List ℕ)) (handle : ℕ) (after : OpenLink) → IsListening facts facts.turn.doing
    → link_at handle (facts_after setup facts (step_of received)).links ≡ Some after
    → HasPassed setup facts (has_room setup facts) received handle (facts_after setup facts (step_of received)).turn.doing after
passes_under setup facts received handle after listens is = phase_under setup facts received handle after is

-- ---- what is noted of links that are opened

-- a link that was opened in this slot, which has not entered an event or received a good packet
pub record IsOpenedNow (slot : ℕ) (link : OpenLink) : Type 0 where
  pub opened : link.setup.opened ≡ slot
  pub past : link.past ≡ []
  pub event : (facts_in link).event ≡ no_event
  pub good : (facts_in link).last_good ≡ None

pub new_event : (end : EndSetup) (link : OpenLink) → link ≡ new_link end → (facts_in link).event ≡ no_event
unfolding end_facts
new_event end link is = ap (λ (l : OpenLink). (facts_in l).event) is

pub new_good : (end : EndSetup) (link : OpenLink) → link ≡ new_link end → (facts_in link).last_good ≡ None
unfolding end_facts
new_good end link is = ap (λ (l : OpenLink). (facts_in l).last_good) is

pub new_now : (slot : ℕ) (end : EndSetup) (link : OpenLink) → link ≡ new_link end → end.opened ≡ slot → IsOpenedNow slot link
new_now slot end link is now = record {
  opened = ap (λ (l : OpenLink). l.setup.opened) is ∙ now;
  past = ap (λ (l : OpenLink). l.past) is;
  event = new_event end link is;
  good = new_good end link is;
}

-- no link is opened under the handle, or the one that is open there then is new
IsQuiet : ℕ → Facts → Outcome → Type 0
IsQuiet handle facts outcome =
    All (OpensNone handle) (notes_passed outcome)
    ⊎ ((after : OpenLink) → link_at handle (facts_passed outcome).links ≡ Some after → IsOpenedNow facts.turn.slot after)

events_quiet : (handle : ℕ) (view : View) (events : List Event) → All (OpensNone handle) (notes_of_events view events)
events_quiet handle view events = events_noted (OpensNone handle) (opening_none handle).starts.feeds view events

next_quiet : (handle : ℕ) (doing : Doing) (facts : Facts) → All (OpensNone handle) (notes_doing doing facts)
next_quiet handle doing facts = doing_noted (OpensNone handle) (λ other number llid octets. refl) doing facts

both_quiet : (handle : ℕ) (outcome : Outcome) → All (OpensNone handle) outcome.notes → All (OpensNone handle) (notes_passed outcome)
both_quiet handle outcome notes = All-append (OpensNone handle) outcome.notes _ notes (next_quiet handle outcome.next outcome.facts)

opens_quiet : (handle : ℕ) (link : LinkSetup) (facts : Facts) (same : Bool) → (handle == link.handle) ≡ same → IsQuiet handle facts (opens link facts)
unfolding IsQuiet
opens_quiet handle link facts true one = inr (λ after is.
    let end : EndSetup = record { link = link; opened = facts.turn.slot } in
    new_now facts.turn.slot end after
    (opened_under end handle facts.links after (ap (λ (f : Facts). link_at handle f.links) (sym (opening_is link facts)) ∙ is) true (eq-eqb link.handle handle (sym (eqb-true handle link.handle one))))
    refl)
opens_quiet handle link facts false differs =
    inl (both_quiet handle (opens link facts) (All-cons (OpensNone handle) _ _ differs (events_quiet handle facts.view (events_opened facts.view link))))

-- ---- what is noted of a packet that a link receives

-- a fact of each note of it
pub record IsOfTakes (P : Note → Type 0) : Type 0 where
  pub feeds : IsOfFeeds P
  pub took : (handle number llid : ℕ) (octets : List ℕ) → P (Took handle number llid (record { items = octets }))
  pub refused : (handle : ℕ) (kind : Kind) (code : ErrCode) → P (Refused handle kind code)
  pub done : (handle : ℕ) (kind : Kind) → P (Done handle kind)

module _ (P : Note → Type 0) (of : IsOfTakes P) where
  pub taken_noted : (slot : ℕ) (room : Bool) (found : Option OpenLink) (octets : List ℕ) → All P (notes_taken slot room found octets)
  taken_noted slot room None octets = All-nil P
  taken_noted slot room (Some link) octets =
      let handle = link.setup.link.handle in
      All-from_recursion P _
      (received_each P link.setup slot room (good_pdu link.setup (facts_in link) octets) (facts_in link)
      (record { took = of.took handle; refused = of.refused handle; done = of.done handle }))

  pub received_noted : (setup : Setup) (other : ℕ) (octets : List ℕ) (facts : Facts) → All P (link_heard setup other octets facts).notes
  received_noted setup other octets facts =
      let slot = facts.turn.slot in
      let room = has_room setup facts in
      let found = link_at other facts.links in
      All-append P (notes_taken slot room found octets) _ (taken_noted slot room found octets)
      (events_noted P of.feeds facts.view (events_received (was_encrypted other facts.view.links) other slot room found octets))

-- none says that a link is opened, or that a PDU is sent
pub taking_opens : (handle : ℕ) → IsOfTakes (OpensNone handle)
taking_opens handle = record {
  feeds = (opening_none handle).starts.feeds;
  took = λ other number llid octets. refl;
  refused = λ other kind code. refl;
  done = λ other kind. refl;
}

pub taking_sends : IsOfTakes SendsNone
taking_sends = record {
  feeds = record { up = λ octets. refl; shut = λ handle reason. refl };
  took = λ handle number llid octets. refl;
  refused = λ handle kind code. refl;
  done = λ handle kind. refl;
}

pub received_quiet : (handle : ℕ) (setup : Setup) (other : ℕ) (octets : List ℕ) (facts : Facts) → All (OpensNone handle) (notes_passed (link_heard setup other octets facts))
received_quiet handle setup other octets facts =
    both_quiet handle (link_heard setup other octets facts) (received_noted (OpensNone handle) (taking_opens handle) setup other octets facts)

each_quiet : (handle : ℕ) (setup : Setup) (facts : Facts) → EachOutcome setup facts (IsQuiet handle facts)
unfolding IsQuiet
each_quiet handle setup facts =
    let nothing = All-nil (OpensNone handle) in record {
      rests = inl nothing;
      awaits_request = λ channel doing. inl nothing;
      awaits_response = λ channel advertiser doing. inl nothing;
      central_listens = λ other doing. inl nothing;
      sent = λ channel link doing. opens_quiet handle link facts (handle == link.handle) refl;
      responds = λ channel on doing is_on. inl nothing;
      taken = λ channel octets pdu on fields other is_on hears takes free.
          opens_quiet handle (link_taken facts.view on.params.own pdu fields other) facts (handle == other) refl;
      scanned = λ channel octets pdu on doing is_on hears.
          inl (both_quiet handle (scanner_heard (Some on) true channel pdu facts)
          (events_quiet handle facts.view (events_reported (scan_answer on.params facts.view.accepted on.recent pdu) pdu)));
      answered = λ channel octets pdu on doing is_on hears.
          inl (both_quiet handle (scanner_heard (Some on) false channel pdu facts)
          (events_quiet handle facts.view (events_reported (scan_answer on.params facts.view.accepted on.recent pdu) pdu)));
      connects = λ channel octets pdu on access other doing is_on hears answers next free in_range. inl nothing;
      received = λ other octets. inl (received_quiet handle setup other octets facts);
    }

pub phase_quiet : (setup : Setup) (facts : Facts) (received : Option (List ℕ)) (handle : ℕ)
    → All (OpensNone handle) (notes_after setup facts (step_of received))
    ⊎ ((after : OpenLink) → link_at handle (facts_after setup facts (step_of received)).links ≡ Some after → IsOpenedNow facts.turn.slot after)
unfolding IsQuiet
phase_quiet setup facts None handle = unheard_is setup facts (IsQuiet handle facts) (each_quiet handle setup facts) facts.turn.doing refl
phase_quiet setup facts (Some octets) handle =
    heard_is setup facts (IsQuiet handle facts) (each_quiet handle setup facts) facts.turn.doing octets refl
    (λ other. inl (received_quiet handle setup other octets (facts_with_words setup other facts)))
