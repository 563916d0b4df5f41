-- A controller sends and listens on a link only in the slot of the anchor of its event, or in the next one where it
-- received a good packet in the first.
use Rattle.std.proofs.Common.{◌≡◌, ℕ, ◌+◌, ◌≤◌, ◌<◌, ◌==◌, ◌&&◌, ◌||◌, ◌⊎◌, inl, inr, Bool, true, false, not, Option, Some, None, List, ◌++◌, refl, sym, ap, subst, ◌∙◌, arith}
use Rattle.std.specs.Prelude.{IfSome, nat_le, nat_lt, if◌then◌else◌}
use Rattle.std.specs.List.{Contains}
use Rattle.std.proofs.lemmas.Bool.{and_parts, eqb-true, leb-true, ltb-true}
use Rattle.slot_plan.specs.declared.Activity.{Activity}
use Rattle.slot_plan.specs.declared.Activity.TheVariants.{Link, Advertise, Scan, Initiate}
use Rattle.slot_plan.specs.declared.plan.Hold.{Hold}
use Rattle.slot_plan.specs.Holding.{is_held_in, winner_of}
use Rattle.run_laws.specs.link_model.declared.events.ConnectionEvent.{ConnectionEvent}
use Rattle.run_laws.specs.link_model.Controls.{goes_on}
use Rattle.run_laws.specs.link_model.End.{facts_of as end_facts}
use Rattle.run_laws.specs.link_model.Entering.{facts_entered_if}
use Rattle.run_laws.specs.link_model.Facts.{Facts as EndFacts}
use Rattle.run_laws.specs.link_model.Packets.{good_pdu, is_forged}
use Rattle.run_laws.specs.link_model.Receiving.{facts_received}
use Rattle.run_laws.specs.link_model.Setup.{Setup as EndSetup}
use Rattle.run_laws.specs.link_model.Step.{Step as EndStep, EventEntered, KeyAnswered, PacketReceived, PacketSent, PduFixed, RequestAnswered, WordsGiven}
use Rattle.run_laws.specs.link_model.Times.{has_second_exchange}
use Rattle.run_laws.specs.open_links.OpenLinks.{Links, OpenLink, facts_in, has_entered, in_event, link_after, link_at, new_link}
use Rattle.run_laws.specs.open_links.Turns.{entered_if, enters_in, is_anchor, link_entered, wants_entering, wants_if}
use Rattle.run_laws.proofs.open_links.Unmoved.{entered_setup}
use Rattle.run_laws.specs.controller_model.declared.doing.Doing.{Doing}
use Rattle.run_laws.specs.controller_model.declared.doing.Doing.TheVariants.{Advertises, CentralListens, CentralSends, PeripheralListens, PeripheralSends, Rests}
use Rattle.run_laws.specs.controller_model.Entering.{HasEntered, IsInEvent}
use Rattle.run_laws.specs.controller_model.Facts.{Facts, Radio, Setup, first_facts}
use Rattle.run_laws.specs.controller_model.Heard.{has_room}
use Rattle.run_laws.specs.controller_model.Links.{facts_ending}
use Rattle.run_laws.specs.controller_model.Radio.{doing_held, doing_won, exchange_if, facts_entering, facts_won, first_exchange, initiator_channel, plan_in, radio_held, radio_served, scanner_channel, second_exchange, served, slots_since, span_at, turn_begins, winner_served}
use Rattle.run_laws.specs.controller_model.Side.{facts_after, facts_of}
use Rattle.run_laws.specs.controller_model.Step.{HostOctet, TurnBegins, TurnEnds}
use Rattle.run_laws.proofs.controller_model.Always.{ending_is}
use Rattle.run_laws.proofs.controller_model.Exchanges.{always_in_event}
use Rattle.run_laws.specs.run_model.Feeding.{AreDistinct}
use Rattle.run_laws.specs.run_model.History.{Event, past_of}
use Rattle.run_laws.specs.run_model.Run.{Given, facts_at, history_of, run_of, setup_at, step_of}
use Rattle.run_laws.proofs.run_model.Stations.{contains_in}
use Rattle.run_laws.proofs.Agreed.{step_facts}
use Rattle.run_laws.proofs.TurnPlaces.{Between, IsTurned, Stage, Within, stands_in_run, turned}
use Rattle.run_laws.proofs.TurnSteps.{begins_slot, phase_turn}
use Rattle.link_calls.specs.Exchanges.{HasExchange}
use Rattle.link_calls.specs.Phases.{HasPassed, IsNew, Stays, Takes, base_receiving, link_worded, refusal_at, refused_if}
use Rattle.link_calls.specs.Turns.{fixed_if, sent_if}
use Rattle.link_calls.specs.Uses.{listens_under, sends_under, uses_under}
use Rattle.link_calls.proofs.AtOnce.{IsRefusal, refusal_is}
use Rattle.link_calls.proofs.EnteredLinks.{continued, entered_is, open_in_event}
use Rattle.link_calls.proofs.HeardSteps.{fixed_same, forged_event, received_same, sent_in}
use Rattle.link_calls.proofs.HeldRadio.{Holds, IsBegunSo, Keeps, Stays as KeepsOn, begins_so, end_keeps, ending_keeps, octet_keeps, phase_keeps}
use Rattle.link_calls.proofs.Lengths.{fixed_lengths, forged_lengths, is_lengthened, received_lengthened, sent_lengths}
use Rattle.link_calls.proofs.LinkCalls.{HasBegun, answered_same, begins_under, phase_under}
use Rattle.link_calls.proofs.LinkPhases.{IsPhased, phased_first, phased_kept}
use Rattle.link_calls.proofs.RadioUses.{Listening, Sending, Uses, advertises_off, exchange_uses, initiates_off, no_link, off_uses, rests_uses, scans_off, winner_wants}
use Rattle.link_calls.proofs.UnderHandles.{WasAlike, end_under, octet_under}
use Rattle.link_calls.proofs.Worded.{each_worded}

-- ---- what an end has of its event

-- its slot, whether a good packet was received in it, and its lengths
abbrev pub heard_in : OpenLink → Bool
heard_in link = (facts_in link).event.heard

abbrev pub slot_of : OpenLink → ℕ
slot_of link = (facts_in link).event.slot

abbrev pub lengthened : OpenLink → Bool
lengthened link = is_lengthened (facts_in link).lengths

-- what stays as the end does something else than enter an event or receive; a length that is long, or was changed in the
-- event, stays so
record IsSameEvent (one other : OpenLink) : Type 0 where
  slot : slot_of other ≡ slot_of one
  heard : heard_in other ≡ heard_in one
  lengths : lengthened one ≡ true → lengthened other ≡ true

same_event : (one other : OpenLink) → (facts_in other).event.slot ≡ (facts_in one).event.slot → (facts_in other).event.heard ≡ (facts_in one).event.heard
    → (facts_in other).lengths ≡ (facts_in one).lengths → IsSameEvent one other
same_event one other slot heard lengths = record { slot = slot; heard = heard; lengths = λ long. ap is_lengthened lengths ∙ long }

event_same : (link : OpenLink) → IsSameEvent link link
event_same link = record { slot = refl; heard = refl; lengths = λ long. long }

event_then : (one two three : OpenLink) → IsSameEvent one two → IsSameEvent two three → IsSameEvent one three
event_then one two three first next = record { slot = next.slot ∙ first.slot; heard = next.heard ∙ first.heard; lengths = λ long. next.lengths (first.lengths long) }

event_is : (one other after : OpenLink) → after ≡ other → IsSameEvent one other → IsSameEvent one after
event_is one other after is same = subst (IsSameEvent one) (sym is) same

sent_event : (sends : Bool) (slot : ℕ) (link : OpenLink) → IsSameEvent link (sent_if sends slot link)
sent_event false slot link = event_same link
sent_event true slot link =
    let same = step_facts link (PacketSent slot) in
    let event = (sent_in slot (facts_in link)).event in
    same_event link (link_after (PacketSent slot) link)
    (ap (λ (f : EndFacts). f.event.slot) same ∙ ap (λ (e : ConnectionEvent). e.slot) event)
    (ap (λ (f : EndFacts). f.event.heard) same ∙ ap (λ (e : ConnectionEvent). e.heard) event)
    (ap (λ (f : EndFacts). f.lengths) same ∙ sent_lengths slot (facts_in link))

fixed_event : (fixes : Bool) (link : OpenLink) → IsSameEvent link (fixed_if fixes link)
fixed_event false link = event_same link
fixed_event true link =
    let same = step_facts link PduFixed in
    let event = (fixed_same (facts_in link)).event in
    same_event link (link_after PduFixed link)
    (ap (λ (f : EndFacts). f.event.slot) same ∙ ap (λ (e : ConnectionEvent). e.slot) event)
    (ap (λ (f : EndFacts). f.event.heard) same ∙ ap (λ (e : ConnectionEvent). e.heard) event)
    (ap (λ (f : EndFacts). f.lengths) same ∙ fixed_lengths (facts_in link))

worded_event : (setup : Setup) (facts : Facts) (doing : Doing) (link : OpenLink) → IsSameEvent link (link_worded setup facts doing link)
worded_event setup facts doing link =
    each_worded (IsSameEvent link) setup facts doing link (event_same link)
    (λ skd_s iv_s.
    let same = step_facts link (WordsGiven skd_s iv_s) in
    same_event link (link_after (WordsGiven skd_s iv_s) link) (ap (λ (f : EndFacts). f.event.slot) same) (ap (λ (f : EndFacts). f.event.heard) same) (ap (λ (f : EndFacts). f.lengths) same))

-- but for when it had the radio last
served_event : (one other : OpenLink) → other.setup ≡ one.setup → other.past ≡ one.past → IsSameEvent one other
served_event one other setup past = record {
  slot = λ i. (end_facts (setup i) (past i)).event.slot;
  heard = λ i. (end_facts (setup i) (past i)).event.heard;
  lengths = λ long. (λ i. is_lengthened (end_facts (setup i) (past i)).lengths) ∙ long;
}

alike_event : (place : Option OpenLink) (after : OpenLink) (alike : WasAlike place after) → IsSameEvent alike.link after
alike_event place after alike = record {
  slot = ap (λ (e : ConnectionEvent). e.slot) alike.event;
  heard = ap (λ (e : ConnectionEvent). e.heard) alike.event;
  lengths = alike.lengthened;
}

-- ---- it enters an event

entry_slot : (slot : ℕ) (link : OpenLink) → goes_on (facts_in link) ≡ true → slot_of (link_after (EventEntered slot) link) ≡ slot
entry_slot slot link goes =
    ap (λ (f : EndFacts). f.event.slot) (step_facts link (EventEntered slot))
    ∙ ap (λ b. (facts_entered_if b link.setup slot (facts_in link)).event.slot) goes

entry_heard : (slot : ℕ) (link : OpenLink) → goes_on (facts_in link) ≡ true → heard_in (link_after (EventEntered slot) link) ≡ false
entry_heard slot link goes =
    ap (λ (f : EndFacts). f.event.heard) (step_facts link (EventEntered slot))
    ∙ ap (λ b. (facts_entered_if b link.setup slot (facts_in link)).event.heard) goes

-- where it enters one, the anchor is in this slot; where it has heard something, it did not enter one
module _ (slot : ℕ) (link : OpenLink) where
  now_slot : (enters : Bool) → enters_in slot link ≡ enters → enters ≡ true → slot_of (entered_if enters slot link) ≡ slot
  now_slot true is enters = entry_slot slot link (and_parts (goes_on (facts_in link)) (is_anchor slot link) is).0
  now_slot false is enters = absurd cc

  still_heard : (enters : Bool) → enters_in slot link ≡ enters → heard_in (entered_if enters slot link) ≡ true → enters ≡ false
  still_heard true is heard =
      absurd (let h : false ≡ true = sym (entry_heard slot link (and_parts (goes_on (facts_in link)) (is_anchor slot link) is).0) ∙ heard in absurd cc)
  still_heard false is heard = refl

  stays_out : (enters : Bool) → enters ≡ false → IsSameEvent link (entered_if enters slot link)
  stays_out true is = absurd cc
  stays_out false is = event_same link

pub wants_anchor : (enters : Bool) (slot : ℕ) (link : OpenLink) → enters_in slot link ≡ enters → wants_entering slot link ≡ true → enters ≡ true
wants_anchor true slot link is wants = refl
wants_anchor false slot link is wants = absurd (let h : false ≡ true = sym (ap (λ b. wants_if b slot link) is) ∙ wants in absurd cc)

-- ---- the radio that a link holds

-- from the anchor of its event on: for two slots, or a length was changed in it or is long
pub record IsOfEvent (hold : Hold) (link : OpenLink) : Type 0 where
  pub from : hold.from.0 ≡ slot_of link
  pub slots : (hold.slots ≡ 2) ⊎ (lengthened link ≡ true)

abbrev pub HoldsNow : Radio → ℕ → OpenLink → Type 0
HoldsNow radio handle link = (hold : Hold) → radio.hold ≡ Some hold → radio.holder ≡ Link handle → IsOfEvent hold link

-- where it received a good packet in its event, that is past, and it holds the radio for that
pub record IsHeard (radio : Radio) (begun handle : ℕ) (link : OpenLink) : Type 0 where
  pub past : slot_of link + 1 ≤ begun
  pub holds : HoldsNow radio handle link

abbrev pub HeldSo : Radio → ℕ → ℕ → OpenLink → Type 0
HeldSo radio begun handle link = heard_in link ≡ true → IsHeard radio begun handle link

-- the slot in which it sends or listens
pub data IsInSlot (radio : Radio) (slot handle : ℕ) (link : OpenLink) : Type 0 where
  AtAnchor : slot ≡ slot_of link → HoldsNow radio handle link → IsInSlot radio slot handle link
  AfterAnchor : slot ≡ slot_of link + 1 → heard_in link ≡ true → IsInSlot radio slot handle link

of_event : (hold : Hold) (one other : OpenLink) → IsSameEvent one other → IsOfEvent hold one → IsOfEvent hold other
of_event hold one other same of = record {
  from = of.from ∙ sym same.slot;
  slots = elim of.slots [ inl two ↦ inl two | inr some ↦ inr (same.lengths some) ];
}

holds_later : (before after : Radio) (handle : ℕ) (one other : OpenLink) → Keeps before after → IsSameEvent one other → HoldsNow before handle one → HoldsNow after handle other
holds_later before after handle one other keeps same holds = λ hold is holder.
    let was = keeps hold handle is holder in of_event hold one other same (holds hold was.hold_is was.holder_is)

held_later : (before after : Radio) (begun later handle : ℕ) (one other : OpenLink) → Keeps before after → begun ≤ later → IsSameEvent one other
    → HeldSo before begun handle one → HeldSo after later handle other
held_later before after begun later handle one other keeps more same held = λ heard.
    let was = held (sym same.heard ∙ heard) in
    let past = was.past in
    let slot = same.slot in
    record { past = omega (arith, past, slot, more); holds = holds_later before after handle one other keeps same was.holds }

slot_later : (before after : Radio) (slot now handle : ℕ) (one other : OpenLink) → Keeps before after → now ≡ slot → IsSameEvent one other → IsInSlot before slot handle one
    → IsInSlot after now handle other
slot_later before after slot now handle one other keeps when same (AtAnchor is holds) =
    AtAnchor (when ∙ is ∙ sym same.slot) (holds_later before after handle one other keeps same holds)
slot_later before after slot now handle one other keeps when same (AfterAnchor is heard) =
    AfterAnchor (when ∙ is ∙ ap (λ n. n + 1) (sym same.slot)) (same.heard ∙ heard)

-- ---- at any time

pub record AreExchanging (setup : Setup) (stage : Stage) (begun : ℕ) (facts : Facts) : Type 0 where
  pub phased : IsPhased setup stage begun facts
  pub held : (handle : ℕ) (link : OpenLink) → link_at handle facts.links ≡ Some link → HeldSo facts.radio begun handle link
  pub in_slot : (handle : ℕ) (link : OpenLink) → link_at handle facts.links ≡ Some link → Uses handle facts.turn.doing → IsInSlot facts.radio facts.turn.slot handle link

-- ---- a turn begins

same_hold : (one other : Hold) → Some one ≡ Some other → one ≡ other
same_hold one other is = cc

held_by : (may : Option Hold) (slot : ℕ) → is_held_in may slot ≡ true → (hold : Hold) × (may ≡ Some hold)
held_by None slot held = absurd cc
held_by (Some hold) slot held = (hold, refl)

-- the slots that it is held for
held_until : (hold : Option Hold) (one : Hold) (slot : ℕ) → is_held_in hold slot ≡ true → hold ≡ Some one → (one.from.0 ≤ slot) × (slot < one.from.0 + one.slots)
held_until hold one slot held is =
    let both = and_parts (nat_le one.from.0 slot) (nat_lt slot (one.from.0 + one.slots)) (ap (λ may. is_held_in may slot) (sym is) ∙ held) in
    (leb-true one.from.0 slot both.0, ltb-true slot (one.from.0 + one.slots) both.1)

next_slot : (anchor from slot slots : ℕ) → from ≡ anchor → slots ≡ 2 → slot < from + slots → anchor + 1 ≤ slot → slot ≡ anchor + 1
next_slot anchor from slot slots is two high past = omega (arith, is, two, high, past)

-- an event with a second exchange has short lengths
not_lengthened : (heard more long changed : Bool) → (heard && more && (not long && not changed)) ≡ true → (long || changed) ≡ false
not_lengthened true true false false is = refl
not_lengthened true true false true is = absurd cc
not_lengthened true true true changed is = absurd cc
not_lengthened true false long changed is = absurd cc
not_lengthened false more long changed is = absurd cc

-- the slots of an event that wins the radio
abbrev span_by : Bool → ℕ
span_by long = if long then 4 else 2

span_slots : (long changed : Bool) → (span_by long ≡ 2) ⊎ ((long || changed) ≡ true)
span_slots true changed = inr refl
span_slots false changed = inl refl

-- the links before they enter their events, and one of them
module _ (slot handle : ℕ) (begun : Facts) (link : OpenLink) (at : link_at handle begun.links ≡ Some link) where
  abbrev now : OpenLink
  now = link_entered slot link

  module _ (held : HeldSo begun.radio slot handle link) where
    -- it goes on in an event in which it received something
    goes_on_in : (radio : Radio) (activity : Activity) → begun.radio.holder ≡ activity → is_held_in begun.radio.hold slot ≡ true
        → Uses handle (doing_held slot activity (facts_entering slot begun)) → IsInSlot radio slot handle now
    goes_on_in radio (Link other) holder holds uses = by (in_event (link_at other (facts_entering slot begun).links)) refl uses
      where
        own : other ≡ handle → has_second_exchange (facts_in now) ≡ true → IsInSlot radio slot handle now
        own same second =
            let heard = continued (facts_in now) second in
            let out = still_heard slot link (enters_in slot link) refl heard in
            let stays = stays_out slot link (enters_in slot link) out in
            let was = held (sym stays.heard ∙ heard) in
            let hold = held_by begun.radio.hold slot holds in
            let until = held_until begun.radio.hold hold.0 slot holds hold.1 in
            let of = was.holds hold.0 hold.1 (holder ∙ ap Link same) in
            let short = not_lengthened (facts_in now).event.heard (facts_in now).event.more (facts_in now).lengths.long (facts_in now).lengths.changed second in
            elim of.slots [
              | inl two ↦ AfterAnchor (next_slot (slot_of link) hold.0.from.0 slot hold.0.slots of.from two until.1 was.past ∙ ap (λ n. n + 1) (sym stays.slot)) heard
              | inr some ↦ absurd (let h : true ≡ false = sym (stays.lengths some) ∙ short in absurd cc)
            ]

        if_by : (one : OpenLink) (continues : Bool) → has_second_exchange (facts_in one) ≡ continues → link_at other (facts_entering slot begun).links ≡ Some one
            → Uses handle (exchange_if continues one.setup.link.role other) → IsInSlot radio slot handle now
        if_by one true is found uses =
            let same = exchange_uses one.setup.link.role handle other uses in
            let some : Some one ≡ Some now = entered_is slot handle begun link at (Some one) other same found in
            let equal : one ≡ now = cc in
            own same (ap (λ (l : OpenLink). has_second_exchange (facts_in l)) (sym equal) ∙ is)
        if_by one false is found uses = off_uses handle Rests _ refl uses

        by : (found : Option OpenLink) → in_event (link_at other (facts_entering slot begun).links) ≡ found → Uses handle (second_exchange other found) → IsInSlot radio slot handle now
        by None is uses = off_uses handle Rests _ refl uses
        by (Some one) is uses = if_by one (has_second_exchange (facts_in one)) refl (open_in_event (link_at other (facts_entering slot begun).links) one is) uses
    goes_on_in radio Advertise holder holds uses = off_uses handle _ _ (advertises_off (slots_since slot begun.radio.hold) begun.advertising.on) uses
    goes_on_in radio Scan holder holds uses = off_uses handle Rests _ refl uses
    goes_on_in radio Initiate holder holds uses = off_uses handle Rests _ refl uses

    -- it wins the slot of its anchor, and holds the radio from there on
    holds_won : (other : ℕ) → other ≡ handle → slot_of now ≡ slot → HoldsNow (radio_held (Link other) slot (span_at (link_at other (facts_entering slot begun).links))) handle now
    holds_won other same is = λ hold held holder.
        let place = link_at other (facts_entering slot begun).links in
        let won : Hold = record { from = record { 0 = slot }; slots = span_at place } in
        let equal = same_hold won hold held in
        let span = ap span_at (entered_is slot handle begun link at place other same refl) in
        subst (λ (h : Hold). IsOfEvent h now) equal (record {
          from = sym is;
          slots = elim (span_slots (facts_in now).lengths.long (facts_in now).lengths.changed) [ inl two ↦ inl (span ∙ two) | inr some ↦ inr some ];
        })

    won_in : (activity : Activity) → (activity ≡ Link handle → wants_entering slot link ≡ true) → Uses handle (doing_won slot activity (facts_entering slot begun))
        → IsInSlot (facts_won slot activity (facts_entering slot begun)).radio slot handle now
    won_in (Link other) wants uses = by (in_event (link_at other (facts_entering slot begun).links)) uses
      where
        by : (found : Option OpenLink) → Uses handle (first_exchange other found)
            → IsInSlot (radio_held (Link other) slot (span_at (link_at other (facts_entering slot begun).links))) slot handle now
        by None uses = off_uses handle Rests _ refl uses
        by (Some one) uses =
            let same = exchange_uses one.setup.link.role handle other uses in
            let is = now_slot slot link (enters_in slot link) refl (wants_anchor (enters_in slot link) slot link refl (wants (ap Link same))) in
            AtAnchor (sym is) (holds_won other same is)
    won_in Advertise wants uses = off_uses handle _ _ (advertises_off 0 begun.advertising.on) uses
    won_in Scan wants uses = off_uses handle _ _ (scans_off (scanner_channel slot begun.scanning.on)) uses
    won_in Initiate wants uses = off_uses handle _ _ (initiates_off (initiator_channel slot begun.initiator)) uses

    winner_in : (winner : Option Activity) → (winner ≡ Some (Link handle) → wants_entering slot link ≡ true) → Uses handle (winner_served slot winner (facts_entering slot begun)).next
        → IsInSlot (winner_served slot winner (facts_entering slot begun)).facts.radio slot handle now
    winner_in None wants uses = off_uses handle Rests _ refl uses
    winner_in (Some activity) wants uses = won_in activity (λ same. wants (ap Some same)) uses

    radio_in : (holds : Bool) → is_held_in begun.radio.hold slot ≡ holds → (winner : Option Activity) → (winner ≡ Some (Link handle) → wants_entering slot link ≡ true)
        → Uses handle (radio_served holds slot winner (facts_entering slot begun)).next → IsInSlot (radio_served holds slot winner (facts_entering slot begun)).facts.radio slot handle now
    radio_in true is winner wants uses = goes_on_in begun.radio begun.radio.holder refl is uses
    radio_in false is winner wants uses = winner_in winner wants uses

    served_in : (on : Bool) → Uses handle (served on slot (winner_of (plan_in slot begun) slot) (facts_entering slot begun)).next
        → IsInSlot (served on slot (winner_of (plan_in slot begun) slot) (facts_entering slot begun)).facts.radio slot handle now
    served_in false uses = off_uses handle Rests _ refl uses
    served_in true uses =
        radio_in (is_held_in begun.radio.hold slot) refl (winner_of (plan_in slot begun) slot)
        (λ is. winner_wants slot handle begun link (is_held_in begun.radio.hold slot) is at) uses

in_event_of : (slot handle : ℕ) (link : OpenLink) (radio : Radio) → IsInSlot radio slot handle link → (slot ≡ slot_of link) ⊎ ((slot ≡ slot_of link + 1) × (heard_in link ≡ true))
in_event_of slot handle link radio (AtAnchor now holds) = inl now
in_event_of slot handle link radio (AfterAnchor now heard) = inr (now, heard)

-- what is kept of a link in a call
record IsBegunWell (after : Facts) (begun handle : ℕ) (link : OpenLink) : Type 0 where
  held : HeldSo after.radio begun handle link
  in_slot : Uses handle after.turn.doing → IsInSlot after.radio after.turn.slot handle link

module _ (setup : Setup) (slot : ℕ) (on : Bool) (facts : Facts) (are : AreExchanging setup Between slot facts) (handle : ℕ) (after : OpenLink)
    (is : link_at handle (facts_after setup facts (TurnBegins slot on)).links ≡ Some after) where
  abbrev next : Facts
  next = facts_after setup facts (TurnBegins slot on)

  abbrev has : HasBegun facts slot on handle next.turn.doing after
  has = begins_under setup facts slot on handle after is

  abbrev base : OpenLink
  base = link_entered slot has.link

  abbrev ended : Facts
  ended = turn_begins slot (facts_ending slot facts)

  at_ended : link_at handle ended.links ≡ Some has.link
  at_ended = ap (λ (some : Facts). link_at handle some.links) (ending_is slot facts) ∙ has.stayed

  -- what it does after it entered its event changes nothing of that
  since : IsSameEvent base after
  since =
      let sends = sends_under handle next.turn.doing in
      event_is base (sent_if sends slot has.base) after has.is
      (event_then base has.base (sent_if sends slot has.base)
      (event_is base (fixed_if has.fixes has.entered) has.base has.base_is
      (event_then base has.entered (fixed_if has.fixes has.entered)
      (served_event base has.entered (has.setup_is ∙ sym (entered_setup slot has.link)) has.past_is) (fixed_event has.fixes has.entered)))
      (sent_event sends slot has.base))

  before : HeldSo ended.radio slot handle has.link
  before = held_later facts.radio ended.radio slot slot handle has.link has.link (ending_keeps slot facts) (omega arith) (event_same has.link) (are.held handle has.link has.was)

  still_held : HeldSo next.radio (slot + 1) handle after
  still_held heard =
      let out = still_heard slot has.link (enters_in slot has.link) refl (sym since.heard ∙ heard) in
      let same = event_then has.link base after (stays_out slot has.link (enters_in slot has.link) out) since in
      by out same (begins_so setup slot on facts)
    where
      by : enters_in slot has.link ≡ false → IsSameEvent has.link after
          → IsBegunSo slot (winner_of (plan_in slot ended) slot) (facts_entering slot ended).links ended.radio next.radio → IsHeard next.radio (slot + 1) handle after
      by out same (KeepsOn keeps) = held_later ended.radio next.radio slot (slot + 1) handle has.link after keeps (omega arith) same before heard
      by out same (Holds other winner radio) =
          let was = before (sym same.heard ∙ heard) in
          let past = was.past in
          let is_slot = same.slot in
          record {
            past = omega (arith, past, is_slot);
            holds = λ hold held holder.
                let mine : Link other ≡ Link handle = sym (ap (λ (r : Radio). r.holder) radio) ∙ holder in
                let wants = winner_wants slot handle ended has.link (is_held_in ended.radio.hold slot) (winner ∙ ap Some mine) at_ended in
                absurd (let h : true ≡ false = sym (wants_anchor (enters_in slot has.link) slot has.link refl wants) ∙ out in absurd cc);
          }

  -- as it has entered its event, before it fixes its PDU and sends
  pub begun_in_event : Uses handle next.turn.doing → (slot ≡ slot_of base) ⊎ ((slot ≡ slot_of base + 1) × (heard_in base ≡ true))
  begun_in_event uses = in_event_of slot handle base next.radio (served_in slot handle ended has.link at_ended before on uses)

  begun_well : IsBegunWell next (slot + 1) handle after
  begun_well = record {
    held = still_held;
    in_slot = λ uses.
        slot_later next.radio next.radio slot next.turn.slot handle base after (λ hold handle is holder. record { hold_is = is; holder_is = holder }) (begins_slot setup slot on facts) since
        (served_in slot handle ended has.link at_ended before on uses);
  }

-- ---- a phase

-- it receives a packet, a request in which may be answered at once
module _ (handle : ℕ) (room : Bool) (octets : List ℕ) (facts : Facts) (link : OpenLink) where
  abbrev slot : ℕ
  slot = facts.turn.slot

  abbrev received : OpenLink
  received = base_receiving handle room octets facts link

  abbrev found : Option (List ℕ)
  found = good_pdu link.setup (facts_in link) octets

  event_with : (may : Option (List ℕ)) → (facts_received link.setup.link.role slot room may (facts_in link)).event.slot ≡ slot_of link
  event_with None = refl
  event_with (Some pdu) = ap (λ (e : ConnectionEvent). e.slot) (received_same link.setup.link.role slot room pdu (facts_in link)).event

  still_with : (may : Option (List ℕ)) → heard_in link ≡ true → (facts_received link.setup.link.role slot room may (facts_in link)).event.heard ≡ true
  still_with None heard = heard
  still_with (Some pdu) heard =
      ap (λ (e : ConnectionEvent). e.heard) (received_same link.setup.link.role slot room pdu (facts_in link)).event
      ∙ ap (λ b. b || (slot == slot_of link)) heard

  -- a forged packet changes neither the event nor the lengths
  taken_event : (facts_in (link_after (PacketReceived slot octets room) link)).event ≡ (facts_received link.setup.link.role slot room found (facts_in link)).event
  taken_event =
      ap (λ (f : EndFacts). f.event) (step_facts link (PacketReceived slot octets room))
      ∙ forged_event (is_forged link.setup (facts_in link) octets) (facts_received link.setup.link.role slot room found (facts_in link))

  taken_lengths : (facts_in (link_after (PacketReceived slot octets room) link)).lengths ≡ (facts_received link.setup.link.role slot room found (facts_in link)).lengths
  taken_lengths =
      ap (λ (f : EndFacts). f.lengths) (step_facts link (PacketReceived slot octets room))
      ∙ forged_lengths (is_forged link.setup (facts_in link) octets) (facts_received link.setup.link.role slot room found (facts_in link))

  received_lengths : (facts_in received).lengths ≡ (facts_in (link_after (PacketReceived slot octets room) link)).lengths
  received_lengths = by (refusal_at handle room octets facts link) (refusal_is handle room octets facts link)
    where
      heard : OpenLink
      heard = link_after (PacketReceived slot octets room) link

      by : (refusal : Option EndStep) → IfSome refusal IsRefusal → (facts_in (refused_if refusal heard)).lengths ≡ (facts_in heard).lengths
      by None is = refl
      by (Some (RequestAnswered answer)) is = ap (λ (f : EndFacts). f.lengths) (step_facts heard (RequestAnswered answer))
      by (Some (KeyAnswered key at)) is = ap (λ (f : EndFacts). f.lengths) (step_facts heard (KeyAnswered key at))
      by (Some step) is = absurd is

  event_now : (facts_in received).event ≡ (facts_received link.setup.link.role slot room found (facts_in link)).event
  event_now = (answered_same handle room octets facts link).event ∙ taken_event

  received_slot : slot_of received ≡ slot_of link
  received_slot = ap (λ (e : ConnectionEvent). e.slot) event_now ∙ event_with found

  received_still : heard_in link ≡ true → heard_in received ≡ true
  received_still heard = ap (λ (e : ConnectionEvent). e.heard) event_now ∙ still_with found heard

  received_long : lengthened link ≡ true → lengthened received ≡ true
  received_long long =
      ap is_lengthened (received_lengths ∙ taken_lengths) ∙ received_lengthened link.setup.link.role slot room found (facts_in link) long

  received_holds : (first last : Radio) → Keeps first last → HoldsNow first handle link → HoldsNow last handle received
  received_holds first last keeps holds = λ hold is holder.
      let was = keeps hold handle is holder in
      let of = holds hold was.hold_is was.holder_is in record {
        from = of.from ∙ sym received_slot;
        slots = elim of.slots [ inl two ↦ inl two | inr some ↦ inr (received_long some) ];
      }

  received_in : (first last : Radio) → Keeps first last → IsInSlot first slot handle link → IsInSlot last slot handle received
  received_in first last keeps (AtAnchor is holds) = AtAnchor (is ∙ sym received_slot) (received_holds first last keeps holds)
  received_in first last keeps (AfterAnchor is heard) = AfterAnchor (is ∙ ap (λ n. n + 1) (sym received_slot)) (received_still heard)

  received_held : (first last : Radio) (begun : ℕ) → Keeps first last → slot + 1 ≡ begun → HeldSo first begun handle link → IsInSlot first slot handle link
      → HeldSo last begun handle received
  received_held first last begun keeps now held (AtAnchor is holds) = λ heard.
      let same = received_slot in
      record { past = omega (arith, same, is, now); holds = received_holds first last keeps holds }
  received_held first last begun keeps now held (AfterAnchor is some) = λ heard.
      let was = held some in
      let past = was.past in
      let same = received_slot in
      record { past = omega (arith, past, same); holds = received_holds first last keeps was.holds }

new_unheard : (end : EndSetup) → heard_in (new_link end) ≡ false
unfolding end_facts
new_unheard end = refl

passed_well : (setup : Setup) (phases begun : ℕ) (received : Option (List ℕ)) (facts : Facts) → AreExchanging setup (Within phases) begun facts
    → (handle : ℕ) (link : OpenLink)
    → HasPassed setup facts (has_room setup facts) received handle (facts_after setup facts (step_of received)).turn.doing link
    → IsBegunWell (facts_after setup facts (step_of received)) begun handle link
passed_well setup phases begun received facts are handle link (IsNew end made opened off) = record {
  held = λ heard. absurd (let h : false ≡ true = sym (ap heard_in made ∙ new_unheard end) ∙ heard in absurd cc);
  in_slot = λ uses. off_uses handle (facts_after setup facts (step_of received)).turn.doing _ off uses;
}
passed_well setup phases begun received facts are handle link (Stays was none nothing listened) = record {
  held = held_later facts.radio (facts_after setup facts (step_of received)).radio begun begun handle link link (phase_keeps setup facts received) (omega arith) (event_same link)
      (are.held handle link was);
  in_slot = λ uses. slot_later facts.radio (facts_after setup facts (step_of received)).radio facts.turn.slot (facts_after setup facts (step_of received)).turn.slot handle link link
      (phase_keeps setup facts received) (phase_turn setup facts received).slot (event_same link) (by uses);
}
  where
    by : Uses handle (facts_after setup facts (step_of received)).turn.doing → IsInSlot facts.radio facts.turn.slot handle link
    by (Sending on) = absurd (let h : true ≡ false = sym on ∙ none in absurd cc)
    by (Listening on) = are.in_slot handle link was (Sending (listened on))
passed_well setup phases begun received facts are handle link (Takes base octets was some on same) =
    let after = facts_after setup facts (step_of received) in
    let room = has_room setup facts in
    let sends = sends_under handle after.turn.doing in
    let worded = link_worded setup facts facts.turn.doing base in
    let taken = base_receiving handle room octets facts worded in
    let keeps = phase_keeps setup facts received in
    let since = event_is taken (sent_if sends facts.turn.slot taken) link same (sent_event sends facts.turn.slot taken) in
    let given = worded_event setup facts facts.turn.doing base in
    let first_radio : Keeps facts.radio facts.radio = (λ hold other is holder. record { hold_is = is; holder_is = holder }) in
    let now = slot_later facts.radio facts.radio facts.turn.slot facts.turn.slot handle base worded first_radio refl given (are.in_slot handle base was (Listening on)) in
    let held = held_later facts.radio facts.radio begun begun handle base worded first_radio (omega arith) given (are.held handle base was) in
    let same_radio : Keeps after.radio after.radio = (λ hold other is holder. record { hold_is = is; holder_is = holder }) in record {
      held = held_later after.radio after.radio begun begun handle taken link same_radio (omega arith) since
          (received_held handle room octets facts worded facts.radio after.radio begun keeps are.phased.uses.in_turn.slot_is held now);
      in_slot = λ uses. slot_later after.radio after.radio facts.turn.slot after.turn.slot handle taken link same_radio (phase_turn setup facts received).slot since
          (received_in handle room octets facts worded facts.radio after.radio keeps now);
    }

-- ---- at any time of a controller

pub exchanging_kept : (setup : Setup) → IsTurned setup (AreExchanging setup)
exchanging_kept setup = record {
  feeds = λ begun octet facts is.
      let phased = (phased_kept setup).feeds begun octet facts is.phased in record {
        phased = phased;
        held = λ handle link at.
            let alike = octet_under setup facts octet handle link at in
            held_later facts.radio (facts_after setup facts (HostOctet octet)).radio begun begun handle alike.link link (octet_keeps setup facts octet) (omega arith)
            (alike_event (link_at handle facts.links) link alike) (is.held handle alike.link alike.was);
        in_slot = λ handle link at uses. rests_uses handle _ _ phased.phase uses;
      };
  begins = λ begun on facts is. record {
    phased = (phased_kept setup).begins begun on facts is.phased;
    held = λ handle link at. (begun_well setup begun on facts is handle link at).held;
    in_slot = λ handle link at. (begun_well setup begun on facts is handle link at).in_slot;
  };
  passes = λ phases begun received facts is.
      let passes : (handle : ℕ) (link : OpenLink) → link_at handle (facts_after setup facts (step_of received)).links ≡ Some link
      → IsBegunWell (facts_after setup facts (step_of received)) begun handle link =
      (λ handle link at. passed_well setup phases begun received facts is handle link (phase_under setup facts received handle link at)) in record {
        phased = (phased_kept setup).passes phases begun received facts is.phased;
        held = λ handle link at. (passes handle link at).held;
        in_slot = λ handle link at. (passes handle link at).in_slot;
      };
  ends = λ begun facts is. record {
    phased = (phased_kept setup).ends begun facts is.phased;
    held = λ handle link at.
        let alike = end_under setup facts handle link at in
        held_later facts.radio (facts_after setup facts TurnEnds).radio begun begun handle alike.link link (end_keeps setup facts) (omega arith)
        (alike_event (link_at handle facts.links) link alike) (is.held handle alike.link alike.was);
    in_slot = λ handle link at uses. rests_uses handle Rests _ refl uses;
  };
}

pub exchanging_first : (setup : Setup) → AreExchanging setup Between 0 (first_facts setup)
exchanging_first setup = record {
  phased = phased_first setup;
  held = λ handle link at. no_link setup handle link _ at;
  in_slot = λ handle link at uses. no_link setup handle link _ at;
}

-- ---- in a run

entered_on : (handle other : ℕ) (links : Links) (link : OpenLink) → (other == handle) ≡ true → HasEntered (link_at other links) → link_at handle links ≡ Some link → has_entered link ≡ true
entered_on handle other links link same has is =
    subst HasEntered (ap (λ n. link_at n links) (eqb-true other handle same) ∙ is) has

alone : (one : Bool) → (one || false) ≡ true → one ≡ true
alone true is = refl
alone false is = absurd cc

entered_by : (handle : ℕ) (doing : Doing) (links : Links) (link : OpenLink) → uses_under handle doing ≡ true → IsInEvent doing links → link_at handle links ≡ Some link → has_entered link ≡ true
entered_by handle (CentralSends other) links link uses has is = entered_on handle other links link (alone (other == handle) uses) has is
entered_by handle (PeripheralSends other) links link uses has is = entered_on handle other links link (alone (other == handle) uses) has is
entered_by handle (CentralListens other) links link uses has is = entered_on handle other links link uses has is
entered_by handle (PeripheralListens other) links link uses has is = entered_on handle other links link uses has is
entered_by handle (Advertises channel) links link uses has is = absurd cc
entered_by handle other links link uses has is = absurd cc

or_true : (sends listens : Bool) → sends ≡ true → (sends || listens) ≡ true
or_true true listens is = refl
or_true false listens is = absurd cc

-- an end that sends has entered an event
pub sender_entered : (handle : ℕ) (facts : Facts) (link : OpenLink) → sends_under handle facts.turn.doing ≡ true → IsInEvent facts.turn.doing facts.links
    → link_at handle facts.links ≡ Some link → has_entered link ≡ true
sender_entered handle facts link sends has is =
    entered_by handle facts.turn.doing facts.links link (or_true (sends_under handle facts.turn.doing) (listens_under handle facts.turn.doing) sends) has is

pub uses_either : (sends listens : Bool) → (sends || listens) ≡ true → (sends ≡ true) ⊎ (listens ≡ true)
uses_either true listens is = inl refl
uses_either false listens is = inr is

pub in_exchange : (given : Given) (before rest : List Event) (station handle : ℕ) (link : OpenLink) → AreDistinct given.stations → Contains given.stations station
    → history_of (run_of given) ≡ before ++ rest → link_at handle (facts_at given station before).links ≡ Some link
    → uses_under handle (facts_at given station before).turn.doing ≡ true → HasExchange (facts_at given station before).turn.slot link
in_exchange given before rest station handle link distinct contains at is uses =
    let setup = setup_at given station in
    let past = past_of station before in
    let facts = facts_of setup past in
    let stands = stands_in_run given before rest station distinct (contains_in given.stations station contains) at in
    let are = turned setup (AreExchanging setup) (exchanging_kept setup) past stands.at (exchanging_first setup) stands.is in
    let entered = entered_by handle facts.turn.doing facts.links link uses (always_in_event setup past) is in
    let doing : Uses handle facts.turn.doing =
    elim (uses_either (sends_under handle facts.turn.doing) (listens_under handle facts.turn.doing) uses) [ inl sends ↦ Sending sends | inr listens ↦ Listening listens ] in
    record {
      entered = ltb-true 0 (facts_in link).control.track.entered entered;
      in_event = in_event_of facts.turn.slot handle link facts.radio (are.in_slot handle link is doing);
    }
