-- What a call on a controller does to the event of the end of one of its links: it goes by the lines that the call adds for
-- the link, up to the packet that the end sends then.
use Rattle.std.proofs.Common.{◌≡◌, ℕ, Bool, true, false, Option, Some, None, List, [], ◌∷◌, ◌++◌, map, refl, sym, ap, subst, ◌∙◌, append-nil, append_assoc}
use Rattle.std.specs.Prelude.{IfSome, nat_lt, if◌then◌else◌}
use Rattle.std.proofs.lemmas.Option.{same_Some}
use Rattle.ble_base.specs.declared.roles.Role.{Role}
use Rattle.ble_base.specs.declared.roles.Role.TheVariants.{Central, Peripheral}
use Rattle.ble_base.specs.declared.roles.Side.{Side}
use Rattle.ble_base.specs.declared.verdicts.Verdict.{Verdict}
use Rattle.ble_base.specs.declared.verdicts.Verdict.TheVariants.{Broken, Forged, Good, Missed}
use Rattle.journal.specs.declared.entries.Entry.{Entry}
use Rattle.journal_sending.specs.journal_leaving.journal_controls.Hearing.{keyed_hearing, keyed_if}
use Rattle.journal_sending.specs.journal_leaving.journal_controls.KeyedLines.{keyed_by_all}
use Rattle.journal_sending.specs.journal_leaving.journal_controls.LineSteps.{steps_said}
use Rattle.journal_sending.specs.journal_leaving.journal_controls.SaidLines.{moved_by}
use Rattle.journal_sending.specs.journal_leaving.journal_controls.TurnSteps.{first_if, steps_begun}
use Rattle.journal_sending.specs.journal_leaving.journal_controls.Withheld.{Withheld, withheld_by}
use Rattle.journal_sending.specs.journal_leaving.journal_controls.host_masks.Masks.{view_masks}
use Rattle.journal_sending.specs.journal_leaving.controller_model.Facts.{Setup, Facts}
use Rattle.journal_sending.specs.journal_leaving.controller_model.Side.{facts_after}
use Rattle.journal_sending.specs.journal_leaving.controller_model.Step.{TurnBegins, TurnEnds}
use Rattle.journal_sending.specs.journal_leaving.controller_model.declared.doing.Doing.{Doing}
use Rattle.journal_sending.specs.journal_leaving.controller_model.declared.doing.Doing.TheVariants.{PeripheralListens}
use Rattle.journal_sending.specs.journal_leaving.journal_acks.link_calls.Phases.{base_receiving, link_worded, refusal_at}
use Rattle.journal_sending.specs.journal_leaving.journal_acks.link_calls.Turns.{fixed_if, sent_if}
use Rattle.journal_sending.specs.journal_leaving.journal_acks.link_calls.Uses.{fixes_under, sends_under}
use Rattle.journal_sending.specs.journal_leaving.journal_links.LinkLines.{line_of}
use Rattle.journal_sending.specs.journal_leaving.link_model.End.{facts_after as end_after, facts_of as end_facts, notes_after, notes_from}
use Rattle.journal_sending.specs.journal_leaving.link_model.Facts.{Facts as EndFacts, keyed_of}
use Rattle.journal_sending.specs.journal_leaving.link_model.Packets.{good_pdu, verdict_of}
use Rattle.journal_sending.specs.journal_leaving.link_model.Receiving.{received_notes, replies_of}
use Rattle.journal_sending.specs.journal_leaving.link_model.Setup.{Setup as EndSetup}
use Rattle.journal_sending.specs.journal_leaving.link_model.Step.{Step, DataReported, EventEntered, KeyAnswered, PacketReceived, PacketSent, PduFixed, RequestAnswered, WordsGiven}
use Rattle.journal_sending.specs.journal_leaving.link_model.keyed_control.Keyed.{Keyed}
use Rattle.journal_sending.specs.journal_leaving.link_model.keyed_control.declared.material.Response.{Response}
use Rattle.journal_sending.specs.journal_leaving.run_model.History.{is_good, is_handed}
use Rattle.journal_sending.specs.journal_leaving.journal_data.open_links.Data.{complete_in, link_reported}
use Rattle.journal_sending.specs.journal_leaving.journal_data.open_links.OpenLinks.{Links, OpenLink, facts_in, link_after, link_at}
use Rattle.journal_sending.specs.journal_leaving.journal_data.open_links.Turns.{enters_in, entered_if, link_entered}
use Rattle.journal_sending.proofs.journal_leaving.journal_controls.AtCentral.{said_alike}
use Rattle.journal_sending.proofs.journal_leaving.journal_controls.EndMoves.{KeepsRole, role_stays}
use Rattle.journal_sending.proofs.journal_leaving.journal_controls.EndSteps.{received_is}
use Rattle.journal_sending.proofs.journal_leaving.journal_controls.FixedEnds.{begun_past}
use Rattle.journal_sending.proofs.journal_leaving.journal_controls.GoodPackets.{good_has, good_keyed}
use Rattle.journal_sending.proofs.journal_leaving.journal_controls.LinkMoves.{forged_after, taken_past, taken_setup, worded_hearing}
use Rattle.journal_sending.proofs.journal_leaving.journal_controls.Refusing.{first_some, refused, refused_facts, refused_notes}
use Rattle.journal_sending.proofs.journal_leaving.journal_acks.HandedOn.{forged_is}
use Rattle.journal_sending.proofs.journal_leaving.journal_acks.link_calls.LinkCalls.{HasBegun, begins_under, turn_begun_under}
use Rattle.journal_sending.proofs.journal_leaving.journal_acks.link_calls.UnderHandles.{ended_under}
use Rattle.journal_sending.proofs.journal_leaving.journal_data.open_links.Unmoved.{entered_setup}
use Rattle.journal_sending.proofs.journal_leaving.journal_ends.GrownLinks.{IsRefusal, refusal_is}
use Rattle.journal_sending.proofs.journal_leaving.journal_ends.WordedLinks.{IsWordedAs, with_response, worded_good, worded_verdict}
use Rattle.journal_sending.proofs.journal_leaving.journal_ends.run_laws.Agreed.{step_facts}
use Rattle.journal_sending.proofs.journal_leaving.link_model.Forging.{forged_facts, forged_notes}
use Rattle.journal_sending.proofs.journal_leaving.link_model.KeyedSteps.{forged_none}
use Rattle.journal_events.specs.EventLines.{EventLines}
use Rattle.journal_events.specs.Told.{event_lines, event_noted, event_reached, event_said, event_saying}
use Rattle.journal_events.proofs.EndEvents.{fixed_event}
use Rattle.journal_events.proofs.SaidEvents.{begins_noted, noted_both, sends_stay, still_noted, taking_noted}

-- more happened to a link: the lines of it make of the event that was the one of the link before its packet goes
pub record EventsTo (side : Side) (number : ℕ) (withheld : Withheld) (response : Response) (slot : ℕ) (base after : OpenLink) (sends : Bool) (from : Keyed) (was : EventLines) : Type 0 where
  pub setup_is : after.setup ≡ base.setup
  pub steps : List Step
  pub past_is : after.past ≡ base.past ++ steps
  pub held : OpenLink
  pub is : after ≡ sent_if sends slot held
  pub events : event_noted side number withheld response slot (notes_from base.setup (facts_in base) steps) from was ≡ event_lines (facts_in held)

-- so it is of the link that was under a handle
pub record HasEvents (side : Side) (number : ℕ) (withheld : Withheld) (response : Response) (slot : ℕ) (links : Links) (handle : ℕ) (after : OpenLink) (sends : Bool) : Type 0 where
  pub base : OpenLink
  pub was : link_at handle links ≡ Some base
  pub is : EventsTo side number withheld response slot base after sends (keyed_of (facts_in base)) (event_lines (facts_in base))

module _ (side : Side) (number : ℕ) (withheld : Withheld) (response : Response) (slot : ℕ) where
  pub same_events : (link : OpenLink) (from : Keyed) → EventsTo side number withheld response slot link link false from (event_lines (facts_in link))
  same_events link from = record { setup_is = refl; steps = []; past_is = sym (append-nil link.past); held = link; is = refl; events = refl }

  -- ---- a turn ends

  reported_events : (link : OpenLink) (from : Keyed) → EventsTo side number withheld response slot link (link_reported link) false from (event_lines (facts_in link))
  reported_events link from = by (nat_lt 0 (complete_in link))
    where
      by : (reports : Bool) → EventsTo side number withheld response slot link (if reports then link_after DataReported link else link) false from (event_lines (facts_in link))
      by true = record {
        setup_is = refl;
        steps = DataReported ∷ [];
        past_is = refl;
        held = link_after DataReported link;
        is = refl;
        events = sym (ap event_lines (step_facts link DataReported));
      }
      by false = same_events link from

  pub end_events : (setup : Setup) (facts : Facts) (handle : ℕ) (after : OpenLink) → link_at handle (facts_after setup facts TurnEnds).links ≡ Some after
      → HasEvents side number withheld response slot facts.links handle after false
  end_events setup facts handle after at =
      let has = ended_under setup facts handle after at in record {
        base = has.link;
        was = has.was;
        is = subst (λ l. EventsTo side number withheld response slot has.link l false (keyed_of (facts_in has.link)) (event_lines (facts_in has.link))) (sym has.is)
            (reported_events has.link (keyed_of (facts_in has.link)));
      }

-- ---- a turn begins

fixing_event : (fixes : Bool) (link : OpenLink) → event_lines (facts_in (fixed_if fixes link)) ≡ event_lines (facts_in link)
fixing_event true link = ap event_lines (step_facts link PduFixed) ∙ fixed_event (facts_in link)
fixing_event false link = refl

entering_event : (enters : Bool) (slot : ℕ) (link : OpenLink)
    → event_lines (if enters then end_after link.setup (facts_in link) (EventEntered slot) else facts_in link) ≡ event_lines (facts_in (entered_if enters slot link))
entering_event true slot link = sym (ap event_lines (step_facts link (EventEntered slot)))
entering_event false slot link = refl

-- the link before its packet goes is in the event that it entered
pub begun_event : (facts : Facts) (slot : ℕ) (on : Bool) (handle : ℕ) (doing : Doing) (after : OpenLink) (begun : HasBegun facts slot on handle doing after)
    → event_lines (facts_in begun.base) ≡ event_lines (facts_in (link_entered slot begun.link))
unfolding end_facts
begun_event facts slot on handle doing after begun =
    ap (λ (l : OpenLink). event_lines (facts_in l)) begun.base_is ∙ fixing_event begun.fixes begun.entered
    ∙ (λ i. event_lines (end_facts ((begun.setup_is ∙ sym (entered_setup slot begun.link)) i) (begun.past_is i)))

module _ (side : Side) (number : ℕ) (withheld : Withheld) (response : Response) (slot : ℕ) where
  pub begin_events : (setup : Setup) (facts : Facts) (on : Bool) (handle : ℕ) (after : OpenLink) → link_at handle (facts_after setup facts (TurnBegins slot on)).links ≡ Some after
      → HasEvents side number withheld response slot facts.links handle after (sends_under handle (facts_after setup facts (TurnBegins slot on)).turn.doing)
  begin_events setup facts on handle after at =
      let has = turn_begun_under setup facts slot on handle after at in
      let doing = (facts_after setup facts (TurnBegins slot on)).turn.doing in
      let begun = begins_under setup facts slot on handle after at in
      let base = has.link in
      let same : begun.link ≡ base = same_Some begun.link base (sym begun.was ∙ has.was) in
      let enters = enters_in slot base in
      let fixes = fixes_under handle doing in
      let sends = sends_under handle doing in record {
        base = base;
        was = has.was;
        is = record {
          setup_is = has.setup_is;
          steps = steps_begun enters fixes sends slot;
          past_is = has.past_is ∙ begun_past slot handle doing base;
          held = begun.base;
          is = begun.is;
          events = begins_noted side number withheld response slot base.setup enters fixes sends (facts_in base)
              ∙ entering_event enters slot base
              ∙ sym (begun_event facts slot on handle doing after begun ∙ ap (λ (l : OpenLink). event_lines (facts_in (link_entered slot l))) same);
        };
      }

-- ---- a packet is taken

pub refused_event : (setup : EndSetup) (facts : EndFacts) (refusal : Option Step) → IfSome refusal IsRefusal → event_lines (refused setup facts refusal) ≡ event_lines facts
refused_event setup facts None is = refl
refused_event setup facts (Some (RequestAnswered answer)) is = refl
refused_event setup facts (Some (KeyAnswered key slot)) is = refl
refused_event setup facts (Some step) is = absurd is

module _ (side : Side) (number : ℕ) (facts : Facts) (handle : ℕ) (room : Bool) (octets pdu : List ℕ) (base : OpenLink)
    (good : good_pdu base.setup (facts_in base) octets ≡ Some pdu) where
  abbrev slot : ℕ
  slot = facts.turn.slot

  abbrev setup : EndSetup
  setup = base.setup

  abbrev end : EndFacts
  end = facts_in base

  abbrev withheld : Withheld
  withheld = withheld_by (view_masks facts.view)

  abbrev response : Response
  response = end.encryption.response

  abbrev took : Step
  took = PacketReceived slot octets room

  abbrev now : EndFacts
  now = end_after setup end took

  abbrev sending : Bool → List Step
  sending sends = first_if sends (PacketSent slot) []

  -- by the steps that follow
  abbrev later : Option Step → Bool → List Step
  later refusal sends = first_some refusal (sending sends)

  abbrev from : Keyed
  from = keyed_hearing setup.link.role slot (good_pdu setup end octets) end

  abbrev was : EventLines
  was = event_reached slot (good_pdu setup end octets) end

  first_events : event_noted side number withheld response slot (notes_after setup end took) from was ≡ event_lines now
  first_events =
      (λ i. event_noted side number withheld response slot (received_notes setup slot room (good i) end) (keyed_hearing setup.link.role slot (good i) end) (event_reached slot (good i) end))
      ∙ taking_noted side number withheld slot room pdu setup end
      ∙ sym (ap event_lines (received_is setup end slot octets pdu room good))

  later_events : (refusal : Option Step) (sends : Bool) (k : Keyed) → IfSome refusal IsRefusal
      → event_noted side number withheld response slot (notes_from setup now (later refusal sends)) k (event_lines now) ≡ event_lines now
  later_events refusal sends k is =
      ap (λ notes. event_noted side number withheld response slot notes k (event_lines now)) (refused_notes setup now refusal (sending sends) is)
      ∙ still_noted side number withheld response slot (notes_from setup (refused setup now refusal) (sending sends)) k (event_lines now)
      (sends_stay side number withheld response slot setup sends (refused setup now refusal))

  pub taken_events : (sends : Bool) (after : OpenLink) → after ≡ sent_if sends slot (base_receiving handle room octets facts base)
      → EventsTo side number withheld response slot base after sends from was
  taken_events sends after is =
      let refusal = refusal_at handle room octets facts base in
      let may = refusal_is handle room octets facts base in
      let taken = link_after took base in
      let k = moved_by withheld response slot (map (line_of side number) (notes_after setup end took)) from in record {
        setup_is = ap (λ (l : OpenLink). l.setup) is ∙ taken_setup refusal sends slot taken;
        steps = took ∷ later refusal sends;
        past_is = ap (λ (l : OpenLink). l.past) is ∙ taken_past refusal sends slot octets room base;
        held = base_receiving handle room octets facts base;
        is = is;
        events = noted_both side number withheld response slot (notes_after setup end took) (notes_from setup now (later refusal sends)) from was
            ∙ ap (event_noted side number withheld response slot (notes_from setup now (later refusal sends)) k) first_events
            ∙ later_events refusal sends k may
            ∙ sym (ap event_lines (refused_facts refusal taken) ∙ refused_event setup (facts_in taken) refusal may ∙ ap event_lines (step_facts base took));
      }

-- a forged packet leaves the event
module _ (side : Side) (number : ℕ) (withheld : Withheld) (response : Response) (facts : Facts) (handle : ℕ) (room : Bool) (octets : List ℕ) (base : OpenLink)
    (forged : verdict_of base.setup (facts_in base) octets ≡ Forged) where
  pub forged_events : (sends : Bool) (after : OpenLink) → sends ≡ replies_of base.setup (facts_in base) facts.turn.slot octets room
      → after ≡ sent_if sends facts.turn.slot (base_receiving handle room octets facts base)
      → (from : Keyed) → EventsTo side number withheld response facts.turn.slot base after sends from (event_lines (facts_in base))
  forged_events sends after replies is from =
      let slot = facts.turn.slot in
      let end = facts_in base in
      let took = PacketReceived slot octets room in
      let refusal = refusal_at handle room octets facts base in
      let taken = link_after took base in
      let after_is = forged_after side number withheld response facts handle room octets base forged sends after replies is in record {
        setup_is = ap (λ (l : OpenLink). l.setup) after_is;
        steps = took ∷ [];
        past_is = ap (λ (l : OpenLink). l.past) after_is;
        held = base_receiving handle room octets facts base;
        is = is;
        events = (λ i. event_noted side number withheld response slot (forged_notes base.setup end slot octets room forged i ++ []) from (event_lines end))
            ∙ sym (ap event_lines (refused_facts refusal taken) ∙ refused_event base.setup (facts_in taken) refusal (refusal_is handle room octets facts base)
            ∙ ap event_lines (step_facts base took ∙ forged_facts base.setup end slot octets room forged));
      }

-- ---- with the words that it was given before

module _ (side : Side) (number : ℕ) (withheld : Withheld) (slot : ℕ) where
  given_events : (response : Response) (skd_s iv_s : ℕ) (link after : OpenLink) (sends : Bool) (from : Keyed) (was : EventLines)
      → EventsTo side number withheld response slot (link_after (WordsGiven skd_s iv_s) link) after sends from was → EventsTo side number withheld response slot link after sends from was
  given_events response skd_s iv_s link after sends from was is =
      let step = WordsGiven skd_s iv_s in record {
        setup_is = is.setup_is;
        steps = step ∷ is.steps;
        past_is = is.past_is ∙ append_assoc link.past (step ∷ []) is.steps;
        held = is.held;
        is = is.is;
        events = ap (λ (f : EndFacts). event_noted side number withheld response slot (notes_from link.setup f is.steps) from was) (sym (step_facts link step)) ∙ is.events;
      }

  pub worded_events : (response : Response) (setup : Setup) (facts : Facts) (doing : Doing) (link after : OpenLink) (sends : Bool) (from : Keyed) (was : EventLines)
      → EventsTo side number withheld response slot (link_worded setup facts doing link) after sends from was → EventsTo side number withheld response slot link after sends from was
  worded_events drawn s f (PeripheralListens handle) link after sends k e is = given_events drawn _ _ link after sends k e is
  worded_events drawn s f doing link after sends k e is = is

  -- what a central would draw changes nothing
  event_alike : (one other : Response) (lines : List Entry) (k : Keyed) (e : EventLines) → KeepsRole Central k
      → event_said withheld one slot lines k e ≡ event_said withheld other slot lines k e
  event_alike one other [] k e keeps = refl
  event_alike one other (line ∷ lines) k e keeps =
      let steps = steps_said withheld other slot k line in
      let same = said_alike withheld one other slot line k (keeps []) in
      (λ i. event_said withheld one slot lines (same i) (event_saying slot line k (same i) e))
      ∙ event_alike one other lines (keyed_by_all steps k) (event_saying slot line k (keyed_by_all steps k) e) (role_stays Central k steps keeps)

  pub redrawn : (one other : Response) (base after : OpenLink) (sends : Bool) (from : Keyed) (was : EventLines) → KeepsRole base.setup.link.role from
      → (base.setup.link.role ≡ Peripheral → one ≡ other)
      → EventsTo side number withheld one slot base after sends from was → EventsTo side number withheld other slot base after sends from was
  redrawn one other base after sends from was keeps same is = record {
    setup_is = is.setup_is;
    steps = is.steps;
    past_is = is.past_is;
    held = is.held;
    is = is.is;
    events = by base.setup.link.role refl ∙ is.events;
  }
    where
      by : (role : Role) → base.setup.link.role ≡ role
          → event_noted side number withheld other slot (notes_from base.setup (facts_in base) is.steps) from was
          ≡ event_noted side number withheld one slot (notes_from base.setup (facts_in base) is.steps) from was
      by Central central =
          event_alike other one (map (line_of side number) (notes_from base.setup (facts_in base) is.steps)) from was (subst (λ r. KeepsRole r from) central keeps)
      by Peripheral peripheral =
          ap (λ response. event_noted side number withheld response slot (notes_from base.setup (facts_in base) is.steps) from was) (sym (same peripheral))

-- as a packet reaches it, its event is what it would be without them
reached_still : (slot : ℕ) (pdu : Option (List ℕ)) (response : Response) (facts : EndFacts)
    → event_reached slot pdu (with_response response facts) ≡ event_reached slot pdu facts
reached_still at None drawn facts = refl
reached_still at (Some pdu) drawn facts = refl

pub worded_reached : (link base : OpenLink) → IsWordedAs link base → (slot : ℕ) (octets : List ℕ)
    → event_reached slot (good_pdu base.setup (facts_in base) octets) (facts_in base) ≡ event_reached slot (good_pdu link.setup (facts_in link) octets) (facts_in link)
worded_reached link base is slot octets =
    (λ i. event_reached slot (worded_good link base is octets i) (is.facts_is i))
    ∙ reached_still slot (good_pdu link.setup (facts_in link) octets) is.response (facts_in link)

-- a packet that a link takes is good or forged
module _ (side : Side) (number : ℕ) (facts : Facts) (handle : ℕ) (room : Bool) (octets : List ℕ) (link base : OpenLink) (words : IsWordedAs link base) where
  abbrev DoesGo : Bool → OpenLink → Keyed → EventLines → Type 0
  DoesGo sends after k e =
      EventsTo side number (withheld_by (view_masks facts.view)) (facts_in base).encryption.response facts.turn.slot base after sends k e

  pub taken_as : (sends : Bool) (after : OpenLink) → sends ≡ replies_of base.setup (facts_in base) facts.turn.slot octets room
      → after ≡ sent_if sends facts.turn.slot (base_receiving handle room octets facts base)
      → (verdict : Verdict) → verdict_of link.setup (facts_in link) octets ≡ verdict → is_handed verdict ≡ true
      → DoesGo sends after (keyed_if true facts.turn.slot octets link) (event_reached facts.turn.slot (good_pdu link.setup (facts_in link) octets) (facts_in link))
  taken_as sends after replies is Good judged handed =
      let slot = facts.turn.slot in
      let end = facts_in link in
      let has = good_has link.setup end octets (ap is_good judged) in
      let k = worded_hearing link base words slot octets ∙ (λ i. keyed_hearing link.setup.link.role slot (has.is i) end) ∙ sym (good_keyed slot octets has.pdu link has.is) in
      let there = taken_events side number facts handle room octets has.pdu base (worded_good link base words octets ∙ has.is) sends after is in
      subst (DoesGo sends after (keyed_if true slot octets link)) (worded_reached link base words slot octets)
      (subst (λ x. DoesGo sends after x (event_reached slot (good_pdu base.setup (facts_in base) octets) (facts_in base))) k there)
  taken_as sends after replies is Forged judged handed =
      let slot = facts.turn.slot in
      let end = facts_in link in
      let none = forged_none link.setup end octets (forged_is link.setup end octets judged) in
      subst (DoesGo sends after (keyed_if true slot octets link))
      (ap event_lines words.facts_is ∙ (λ i. event_reached slot (sym none i) end))
      (forged_events side number (withheld_by (view_masks facts.view)) (facts_in base).encryption.response facts handle room octets base (worded_verdict link base words octets ∙ judged)
      sends after replies is (keyed_if true slot octets link))
  taken_as sends after replies is Missed judged handed = absurd cc
  taken_as sends after replies is Broken judged handed = absurd cc
