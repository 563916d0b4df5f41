-- Each step of a run of two stations keeps that each line so far came where it was due, and what is due to each side.
use Rattle.std.proofs.Common.{◌≡◌, ℕ, suc, ◌+◌, ◌==◌, Bool, true, false, Option, Some, None, List, [], ◌∷◌, ◌++◌, length, map, refl, sym, ap, subst, ◌∙◌, append_assoc}
use Rattle.std.specs.Prelude.{All, ⊤, take, if◌then◌else◌}
use Rattle.std.proofs.lemmas.Bool.{eqb-true}
use Rattle.std.proofs.lemmas.List.Elements.{All-append, All-from_recursion, All-nil}
use Rattle.ble_base.specs.declared.roles.Side.{Side}
use Rattle.ble_base.specs.declared.verdicts.Verdict.TheVariants.{Forged}
use Rattle.journal_controls.specs.controller_model.Facts.{Setup, Facts, Listens, Sends}
use Rattle.host_view.specs.Links.{was_encrypted}
use Rattle.journal_controls.specs.controller_model.Heard.{events_received, has_room, heard, link_heard, link_received, notes_taken, replies_in, reply_if}
use Rattle.journal_controls.specs.controller_model.Events.{notes_of_events}
use Rattle.journal_controls.specs.controller_model.Outcome.{notes_passed}
use Rattle.journal_controls.specs.controller_model.Packets.{notes_doing}
use Rattle.journal_controls.specs.controller_model.Side.{notes_after}
use Rattle.journal_controls.specs.controller_model.Step.{Step as Call, HostOctet, PacketHeard, TurnBegins, TurnEnds}
use Rattle.journal_controls.specs.controller_model.declared.doing.Doing.{Doing}
use Rattle.journal_controls.specs.controller_model.declared.doing.Doing.TheVariants.{Advertises, CentralListens, PeripheralListens}
use Rattle.journal_controls.specs.journal_ends.Asked.{Words}
use Rattle.journal_controls.specs.journal_ends.GivenWords.{GivesWords}
use Rattle.journal_controls.specs.open_links.OpenLinks.{OpenLink, facts_in, link_at}
use Rattle.journal_controls.proofs.controller_model.EndNotes.{received_each}
use Rattle.journal_controls.proofs.controller_model.open_links.Handles.{handle_is}
use Rattle.data_pdu.specs.Header.{header_in}
use Rattle.journal.specs.declared.entries.Entry.TheVariants.{Fed}
use Rattle.radio_replay.specs.declared.fates.Fate.{Fate}
use Rattle.journal_controls.specs.LineSteps.{keyed_on, turn_now}
use Rattle.journal_controls.specs.LinesDue.{due_hearing}
use Rattle.journal_controls.specs.journal_acks.link_calls.Uses.{listens_under}
use Rattle.journal_controls.specs.journal_packets.Belonging.{is_side}
use Rattle.journal_controls.specs.link_model.Facts.{Facts as EndFacts, keyed_of}
use Rattle.journal_controls.specs.link_model.Setup.{Setup as EndSetup}
use Rattle.journal_controls.specs.link_model.Packets.{good_pdu, verdict_of}
use Rattle.journal_controls.specs.journal_acks.link_calls.Phases.{link_worded}
use Rattle.journal_controls.specs.link_model.Receiving.{acks_control, facts_before_taking, has_acknowledged, received_notes}
use Rattle.journal_controls.specs.run_model.Due.{Each}
use Rattle.journal_controls.specs.run_model.History.{Event, TurnBegan, HostFed, Called, Noted, Transmitted, Hearing, packet_received, turns_begun}
use Rattle.journal_controls.specs.run_model.Journal.{journal_of, side_of}
use Rattle.journal_controls.specs.run_model.LinkEnds.{HaveAddresses}
use Rattle.journal_controls.specs.run_model.Links.{links_of}
use Rattle.journal_controls.specs.run_model.Readers.{turns_of}
use Rattle.journal_controls.specs.run_model.Run.{Given, after_call, after_feed, after_octets, facts_at, hearings_of, history_of, octets_left, run_of, setup_at, step_of, unseen_in, use_at}
use Rattle.journal_controls.proofs.journal_acks.Counting.{facts_event}
use Rattle.journal_controls.proofs.journal_acks.Exchanging.{number_at, number_other}
use Rattle.journal_controls.proofs.journal_acks.HandedOn.{forged_is}
use Rattle.journal_controls.proofs.journal_acks.KeptLines.{AreLinedAt, lines_kept}
use Rattle.journal_controls.proofs.journal_acks.Known.{known_of}
use Rattle.journal_controls.proofs.journal_acks.Standing.{PhasedBy, listens_wanted, phased_at}
use Rattle.journal_controls.proofs.journal_acks.TwoStations.{IsOfTwo, other_apart, other_is, other_of, own_differs, same_number}
use Rattle.journal_controls.proofs.journal_acks.link_calls.CallNotes.{IsOfFeeds, IsOfStarts, begin_noted, doing_noted, end_noted, events_noted, octet_noted}
use Rattle.journal_controls.proofs.journal_acks.run_laws.ByCalls.{last_turn}
use Rattle.journal_controls.proofs.journal_acks.run_laws.DistinctAccess.{AreApart}
use Rattle.journal_controls.proofs.journal_acks.run_laws.Hearings.{other_facts}
use Rattle.journal_controls.proofs.journal_acks.run_laws.InAgreement.{differs_back}
use Rattle.journal_controls.proofs.journal_acks.run_laws.TurnPlaces.{Within, at_stage}
use Rattle.journal_controls.proofs.journal_acks.run_laws.TurnSteps.{IsListening}
use Rattle.journal_controls.proofs.journal_ends.EndsKnown.{own_numbers}
use Rattle.journal_controls.proofs.journal_ends.KeptSeen.{AreSeenAt, seen_kept}
use Rattle.journal_controls.proofs.journal_links.OfTwo.{are_distinct}
use Rattle.journal_controls.proofs.journal_packets.AccessOrder.{AreNth}
use Rattle.journal_controls.proofs.journal_packets.SoFar.{IsBelongingSoFar}
use Rattle.journal_controls.proofs.link_model.Hearing.{IsHeardWhole}
use Rattle.journal_controls.proofs.run_model.Fates.{turns_are}
use Rattle.journal_controls.proofs.run_model.Fronts.{front_at}
use Rattle.journal_controls.proofs.run_model.LinkEnds.{AreTaken, IsUnderstood, received_by, wanted_is}
use Rattle.journal_controls.proofs.run_model.Places.{each_called, each_event}
use Rattle.journal_controls.proofs.run_model.Stations.{among, is_in, not_before}
use Rattle.journal_controls.proofs.run_model.Walk.{AtBegins, AtEnds, AtFeeds, AtListening, AtPackets, IsKept, NoTurn, Place}
use Rattle.journal_due.specs.EachLine.{IsDueOn}
use Rattle.journal_due.specs.ProcedureLines.{RestsAt}
use Rattle.journal_controls.proofs.journal_ends.WordedLinks.{facts_on, heard_on, worded_as, worded_at, worded_good, worded_none, worded_verdict}
use Rattle.journal_controls.proofs.LinkMoves.{hearing_still}
use Rattle.journal_controls.proofs.link_model.Forging.{forged_reply}
use Rattle.journal_controls.proofs.link_model.KeyedSteps.{forged_none}
use Rattle.journal_due.proofs.DueAhead.{Forging, IsDueAhead, Nothing, Taking, ahead_rests, rests_ahead}
use Rattle.journal_due.proofs.DueCalls.{begin_told, received_told}
use Rattle.journal_due.proofs.DueLines.{quiet_due}
use Rattle.journal_due.proofs.DuePackets.{other_ahead, other_lines, sender_told}
use Rattle.journal_due.proofs.DuePhases.{heard_plain, plain_feeds, unheard_plain}
use Rattle.journal_due.proofs.DuePlain.{IsPlain, IsPlainLine, StaysDue}
use Rattle.journal_due.proofs.DueSides.{AreDueBy, IsTold, OpensNo, PassesBy, lines_called, other_called, other_each, other_event, plain_called, plain_event, rests_stay, told_lines}

-- what an open end is by the journal, before the calls and the packets of a run
pub record KnowsControls (words : Words) (given : Given) : Type 0 where
  pub begins : (before rest : List Event) (station slot : ℕ) (on : Bool) (handle : ℕ) (link : OpenLink) → history_of (run_of given) ≡ before ++ Called station (TurnBegins slot on) ∷ rest
      → is_in station given.stations ≡ true → link_at handle (facts_at given station before).links ≡ Some link
      → keyed_on words (side_of station) (number_at station handle before) (journal_of before) ≡ Some (keyed_of (facts_in link))
  pub hears : (before rest : List Event) (station : ℕ) (octets pdu : List ℕ) (handle : ℕ) (link : OpenLink)
      → history_of (run_of given) ≡ before ++ Called station (PacketHeard octets) ∷ rest → is_in station given.stations ≡ true
      → listens_under handle (facts_at given station before).turn.doing ≡ true → link_at handle (facts_at given station before).links ≡ Some link
      → good_pdu link.setup (facts_in link) octets ≡ Some pdu
      → keyed_on words (side_of station) (number_at station handle before) (journal_of before)
      ≡ Some (keyed_of (facts_before_taking link.setup.link.role (facts_at given station before).turn.slot (header_in pdu) (facts_in link)))
  pub packets : (before rest : List Event) (sender channel : ℕ) (octets : List ℕ) (hearings : List Hearing) (station handle : ℕ) (link : OpenLink)
      → history_of (run_of given) ≡ before ++ Transmitted sender channel octets hearings ∷ rest → is_in station given.stations ≡ true
      → link_at handle (facts_at given station before).links ≡ Some link
      → keyed_on words (side_of station) (number_at station handle before) (journal_of before) ≡ Some (keyed_of (facts_in link))

-- ---- what is kept

pub record IsDueTo (words : Words) (given : Given) (station : ℕ) (history : List Event) (received : Option (List ℕ)) : Type 0 where
  pub each : AreDueBy words (side_of station) history
  pub ahead : IsDueAhead words given station history received

-- nothing is due to any station
abbrev pub NoneDueIn : Words → Given → List Event → Type 0
NoneDueIn words given history = (station : ℕ) → is_in station given.stations ≡ true → RestsAt words (side_of station) (journal_of history)

abbrev pub RestsBefore : Words → Given → List Event → Event → Type 0
RestsBefore words given before (TurnBegan slot radios) = NoneDueIn words given before
RestsBefore words given before (HostFed station octets) = ⊤
RestsBefore words given before (Called station step) = ⊤
RestsBefore words given before (Noted station note) = ⊤
RestsBefore words given before (Transmitted station channel octets hearings) = NoneDueIn words given before

pub record AreDueAt (words : Words) (given : Given) (place : Place) (history : List Event) : Type 0 where
  pub seen : AreSeenAt words given place history
  pub lined : AreLinedAt given (IsBelongingSoFar given) place history
  pub due : (station : ℕ) → is_in station given.stations ≡ true → IsDueTo words given station history (packet_received station history)
  pub rests : Each (RestsBefore words given) [] history

-- where no station received a packet
abbrev AllTold : Words → Given → List Event → Type 0
AllTold words given history = (station : ℕ) → is_in station given.stations ≡ true → IsTold words (side_of station) history

told_due : (words : Words) (given : Given) (station : ℕ) (history : List Event) (received : Option (List ℕ)) → received ≡ None → IsTold words (side_of station) history → IsDueTo words given station history received
told_due words given station history received none told = record { each = told.each; ahead = rests_ahead words given station history received none told.rests }

due_told : (words : Words) (given : Given) (station : ℕ) (history : List Event) (received : Option (List ℕ)) → received ≡ None → IsDueTo words given station history received → IsTold words (side_of station) history
due_told words given station history received none due = record { each = due.each; rests = ahead_rests words given station history received none due.ahead }

-- ---- a call

passes_told : (words : Words) (side : Side) (history after : List Event) → PassesBy words side history after → IsTold words side history → IsTold words side after
passes_told words side history after passes told = record {
  each = passes.each told.each;
  rests = rests_stay words side (journal_of history) (journal_of after) passes.stays told.rests;
}

module _ (words : Words) (given : Given) (are_two : IsOfTwo given) where
  -- by what it does to its own station
  call_told : (station : ℕ) (step : Call) (history : List Event) → is_in station given.stations ≡ true
      → (IsTold words (side_of station) history → IsTold words (side_of station) (after_call given station step history)) → AllTold words given history → AllTold words given (after_call given station step history)
  call_told station step history in_it own told = λ one in_one. by one in_one (one == station) refl
    where
      by : (one : ℕ) → is_in one given.stations ≡ true → (same : Bool) → (one == station) ≡ same → IsTold words (side_of one) (after_call given station step history)
      by one in_one true same =
          let equal = eqb-true one station same in
          subst (λ n. IsTold words (side_of n) (after_call given station step history)) (sym equal) (own (told station in_it))
      by one in_one false differs =
          passes_told words (side_of one) history (after_call given station step history)
          (other_called words station given (side_of one) step history (apart one in_one differs)) (told one in_one)
        where
          apart : (one : ℕ) → is_in one given.stations ≡ true → (one == station) ≡ false → is_side (side_of station) (side_of one) ≡ false
          apart one in_one differs = other_apart given are_two one station in_one in_it (differs_back one station differs)

  -- one without a note of a procedure
  plain_call : (station : ℕ) (step : Call) (history : List Event) → is_in station given.stations ≡ true → All IsPlain (notes_after (setup_at given station) (facts_at given station history) step)
      → AllTold words given history → AllTold words given (after_call given station step history)
  plain_call station step history in_it plain told = call_told station step history in_it (λ own. plain_called words station given step history plain own) told

  -- ---- what a host sends

  octets_told : (station : ℕ) (octets : List ℕ) (history : List Event) → is_in station given.stations ≡ true → AllTold words given history → AllTold words given (after_octets given station octets history)
  octets_told station [] history in_it told = told
  octets_told station (octet ∷ octets) history in_it told =
      octets_told station octets (after_call given station (HostOctet octet) history) in_it
      (plain_call station (HostOctet octet) history in_it (octet_noted IsPlain plain_feeds (setup_at given station) (facts_at given station history) octet) told)

  fed_plain : (side : Side) (octets : List ℕ) → IsPlainLine words side (Fed side octets)
  fed_plain side octets = record {
    is = λ number. refl;
    own = refl;
    none = refl;
    quiet = λ front. refl;
    no_turn = refl;
    leaves = λ front number none. quiet_due words side number front (Fed side octets) refl ∙ none;
  }

  fed_told : (station : ℕ) (octets : List ℕ) (history : List Event) → is_in station given.stations ≡ true → AllTold words given history → AllTold words given (history ++ HostFed station octets ∷ [])
  fed_told station octets history in_it told = λ one in_one. by one in_one (one == station) refl
    where
      by : (one : ℕ) → is_in one given.stations ≡ true → (same : Bool) → (one == station) ≡ same → IsTold words (side_of one) (history ++ HostFed station octets ∷ [])
      by one in_one true same =
          subst (λ n. IsTold words (side_of n) (history ++ HostFed station octets ∷ [])) (sym (eqb-true one station same))
          (plain_event words (side_of station) history (HostFed station octets) (Fed (side_of station) octets) refl (fed_plain (side_of station) octets) (told station in_it))
      by one in_one false differs =
          let apart = other_apart given are_two one station in_one in_it (differs_back one station differs) in
          let was = told one in_one in record {
            each = other_each words (side_of one) history (HostFed station octets) (Fed (side_of station) octets) refl apart was.each;
            rests = rests_stay words (side_of one) (journal_of history) _
                (other_event words (side_of one) history (HostFed station octets) (Fed (side_of station) octets) refl (record { other = apart; unseen = λ number front. refl })) was.rests;
          }

  feed_told : (station : ℕ) (octets : List ℕ) (history : List Event) → is_in station given.stations ≡ true → AllTold words given history → AllTold words given (after_feed given station octets history)
  feed_told station [] history in_it told = told
  feed_told station (octet ∷ octets) history in_it told =
      octets_told station (octet ∷ octets) (history ++ HostFed station (octet ∷ octets) ∷ []) in_it (fed_told station (octet ∷ octets) history in_it told)

  turn_told : (slot : ℕ) (radios : List Bool) (history : List Event) → AllTold words given history → AllTold words given (history ++ TurnBegan slot radios ∷ [])
  turn_told slot radios history told = λ one in_one.
      let was = told one in_one in record {
        each = other_each words (side_of one) history (TurnBegan slot radios) _ refl refl was.each;
        rests = rests_stay words (side_of one) (journal_of history) _ (other_event words (side_of one) history (TurnBegan slot radios) _ refl (record { other = refl; unseen = λ number front. refl })) was.rests;
      }

  -- ---- a turn begins

  opens_ups : IsOfFeeds OpensNo
  opens_ups = record { up = λ octets. refl; shut = λ handle reason. refl }

  opens_starts : IsOfStarts OpensNo
  opens_starts = record {
    feeds = opens_ups;
    applied = λ handle number event. refl;
    entered = λ handle event channel. refl;
    done = λ handle kind. refl;
    began = λ handle kind. refl;
  }

  begin_opens : (setup : Setup) (slot : ℕ) (on : Bool) (facts : Facts) → All OpensNo (notes_after setup facts (TurnBegins slot on))
  begin_opens setup slot on facts = begin_noted OpensNo (record { starts = opens_starts; sent = λ handle number llid octets. refl }) setup slot on facts

  turn_is : (history : List Event) (slot : ℕ) → turns_begun history ≡ slot + 1 → turn_now (journal_of history) ≡ slot
  turn_is history slot is = last_turn (length (turns_of (journal_of history))) slot (turns_are history ∙ is)

  begins_told : (done left : List ℕ) (station slot : ℕ) (on : Bool) (history rest : List Event) → given.stations ≡ done ++ station ∷ left → turns_begun history ≡ slot + 1
      → AreSeenAt words given (AtBegins done (station ∷ left)) history → KnowsControls words given → history_of (run_of given) ≡ history ++ Called station (TurnBegins slot on) ∷ rest
      → IsTold words (side_of station) history → IsTold words (side_of station) (after_call given station (TurnBegins slot on) history)
  begins_told done left station slot on history rest are begun has knows front told =
      let in_it = among given.stations done left station are in
      let setup = setup_at given station in
      let facts = facts_at given station history in
      let links = links_of history in
      let step = TurnBegins slot on in
      let own = (has.holds.so_far.last.each station in_it).own.handles in
      told_lines words (side_of station) history (after_call given station step history) _ (lines_called words station given step history (begin_opens setup slot on facts)) told.each
      (begin_told words (side_of station) (links.link_of station) (links.last_of station) setup facts slot on (journal_of history) (record {
        handles = λ handle link at. handle_is 0 handle facts.links link own at;
        controls = λ handle link at. knows.begins history rest station slot on handle link front in_it at;
        numbers = λ one other a b at at_too differs. own_numbers given are_two (AtBegins done (station ∷ left)) history has.known station one other a b in_it at at_too differs;
      }) (turn_is history slot begun) told.rests)

  -- ---- a phase passes

  -- no link takes a packet
  not_open : (setup : Setup) (facts : Facts) (octets : List ℕ) (handle : ℕ) (found : Option OpenLink) → link_at handle facts.links ≡ found
      → ((link : OpenLink) → found ≡ Some link → Some octets ≡ None) → All IsPlain (notes_passed (link_heard setup handle octets facts))
  not_open setup facts octets handle (Some link) is never = absurd (let h : Some octets ≡ None = never link refl in absurd cc)
  not_open setup facts octets handle None is never =
      let slot = facts.turn.slot in
      let room = has_room setup facts in
      let later = link_received handle room octets facts in
      subst (λ found. All IsPlain ((notes_taken slot room found octets
      ++ notes_of_events facts.view (events_received (was_encrypted handle facts.view.links) handle slot room found octets))
      ++ notes_doing (reply_if (replies_in slot room found octets) handle) later)) (sym is) (All-nil IsPlain)

  phase_plain : (setup : Setup) (facts : Facts) (received : Option (List ℕ)) (doing : Doing) → facts.turn.doing ≡ doing
      → ((handle : ℕ) (link : OpenLink) → listens_under handle doing ≡ true → link_at handle facts.links ≡ Some link → received ≡ None)
      → All IsPlain (notes_after setup facts (step_of received))
  phase_plain setup facts None doing is deaf = unheard_plain facts.turn.doing facts
  phase_plain setup facts (Some octets) (CentralListens handle) is deaf =
      subst (λ (d : Doing). All IsPlain (notes_passed (heard setup d octets facts))) (sym is)
      (not_open setup facts octets handle (link_at handle facts.links) refl (λ link at. deaf handle link (same_number handle) at))
  phase_plain setup facts (Some octets) (PeripheralListens handle) is deaf =
      subst (λ (d : Doing). All IsPlain (notes_passed (heard setup d octets facts))) (sym is) (by (link_at handle facts.links) refl)
    where
      worded : Facts
      worded = facts_on setup facts (PeripheralListens handle) handle

      by : (found : Option OpenLink) → link_at handle facts.links ≡ found → All IsPlain (notes_passed (link_heard setup handle octets worded))
      by (Some link) at = absurd (let h : Some octets ≡ None = deaf handle link (same_number handle) at in absurd cc)
      by None none =
          not_open setup worded octets handle None (worded_none setup facts (PeripheralListens handle) handle none)
          (λ link some. absurd (let h : None ≡ Some link = some in absurd cc))
  phase_plain setup facts (Some octets) (Advertises channel) is deaf =
      subst (λ (d : Doing). All IsPlain (notes_passed (heard setup d octets facts))) (sym is) (heard_plain setup facts octets (Advertises channel) (λ handle. refl))
  phase_plain setup facts (Some octets) doing is deaf =
      subst (λ (d : Doing). All IsPlain (notes_passed (heard setup d octets facts))) (sym is) (heard_plain setup facts octets doing (λ handle. refl))

  -- one judges it forged, and notes nothing of it
  forged_plain : (setup : Setup) (facts : Facts) (octets : List ℕ) (handle : ℕ) (link : OpenLink) → link_at handle facts.links ≡ Some link
      → verdict_of link.setup (facts_in link) octets ≡ Forged → All IsPlain (notes_passed (link_heard setup handle octets facts))
  forged_plain setup facts octets handle link at forged =
      let slot = facts.turn.slot in
      let room = has_room setup facts in
      let encrypted = was_encrypted handle facts.view.links in
      let later = link_received handle room octets facts in
      let taken = notes_taken slot room (Some link) octets in
      let ups = notes_of_events facts.view (events_received encrypted handle slot room (Some link) octets) in
      let none = forged_none link.setup (facts_in link) octets (forged_is link.setup (facts_in link) octets forged) in
      subst (λ found. All IsPlain ((notes_taken slot room found octets ++ notes_of_events facts.view (events_received encrypted handle slot room found octets))
      ++ notes_doing (reply_if (replies_in slot room found octets) handle) later)) (sym at)
      (All-append IsPlain (taken ++ ups) (notes_doing (reply_if (replies_in slot room (Some link) octets) handle) later)
      (All-append IsPlain taken ups
      (subst (λ may. All IsPlain (received_notes link.setup slot room may (facts_in link))) (sym none) (All-nil IsPlain))
      (events_noted IsPlain plain_feeds facts.view (events_received encrypted handle slot room (Some link) octets)))
      (subst (λ b. All IsPlain (notes_doing (reply_if b handle) later)) (sym (forged_reply link.setup (facts_in link) slot octets room forged)) (All-nil IsPlain)))

  -- a link takes one: no link is opened
  taking_opens : (setup : Setup) (facts hearing : Facts) (handle : ℕ) (octets : List ℕ) (link : OpenLink)
      → heard setup facts.turn.doing octets facts ≡ link_heard setup handle octets hearing
      → link_at handle hearing.links ≡ Some link → All OpensNo (notes_after setup facts (PacketHeard octets))
  taking_opens setup facts hearing handle octets link is at =
      let slot = hearing.turn.slot in
      let room = has_room setup hearing in
      let encrypted = was_encrypted handle hearing.view.links in
      let later = link_received handle room octets hearing in
      let taken = notes_taken slot room (Some link) octets in
      let ups = notes_of_events hearing.view (events_received encrypted handle slot room (Some link) octets) in
      let doing = reply_if (replies_in slot room (link_at handle hearing.links) octets) handle in
      subst (λ outcome. All OpensNo (notes_passed outcome)) (sym is)
      (subst (λ found. All OpensNo ((notes_taken slot room found octets ++ notes_of_events hearing.view (events_received encrypted handle slot room found octets)) ++ notes_doing doing later)) (sym at)
      (All-append OpensNo (taken ++ ups) (notes_doing doing later)
      (All-append OpensNo taken ups
      (All-from_recursion OpensNo taken (received_each OpensNo link.setup slot room (good_pdu link.setup (facts_in link) octets) (facts_in link) (record {
        took = λ number llid body. refl;
        refused = λ kind code. refl;
        done = λ kind. refl;
      })))
      (events_noted OpensNo opens_ups hearing.view (events_received encrypted handle slot room (Some link) octets)))
      (doing_noted OpensNo (λ other number llid body. refl) doing later)))

  module _ (phases : ℕ) (done left : List ℕ) (station : ℕ) (history rest : List Event) (are : given.stations ≡ done ++ station ∷ left)
      (has : AreSeenAt words given (AtListening phases done (station ∷ left)) history) (knows : KnowsControls words given) (slot_is : turn_now (journal_of history) ≡ (facts_at given station history).turn.slot) where
    passes_on : (received : Option (List ℕ)) → history_of (run_of given) ≡ history ++ Called station (step_of received) ∷ rest → IsDueTo words given station history received
        → IsTold words (side_of station) (after_call given station (step_of received) history)
    passes_on received front due = by due.ahead front
      where
        in_it : is_in station given.stations ≡ true
        in_it = among given.stations done left station are

        taking : (handle : ℕ) (link : OpenLink) (octets pdu : List ℕ) → listens_under handle (facts_at given station history).turn.doing ≡ true
            → link_at handle (facts_at given station history).links ≡ Some link → good_pdu link.setup (facts_in link) octets ≡ Some pdu
            → IsDueOn words (side_of station) (number_at station handle history)
            (due_hearing (side_of station) (number_at station handle history) (acks_control (has_acknowledged (facts_in link) (header_in pdu)) (facts_in link)) (facts_in link).control) (journal_of history)
            → history_of (run_of given) ≡ history ++ Called station (PacketHeard octets) ∷ rest → IsTold words (side_of station) (after_call given station (PacketHeard octets) history)
        taking handle link octets pdu on at good is_due before =
            let side = side_of station in
            let setup = setup_at given station in
            let facts = facts_at given station history in
            let links = links_of history in
            let doing = facts.turn.doing in
            let hearing = facts_on setup facts doing handle in
            let worded = link_worded setup facts doing link in
            let given_words = worded_as setup facts doing link in
            let heard_is = heard_on setup facts octets handle doing on in
            let worded_is = worded_at setup facts doing handle link at in
            let good_there = worded_good link worded given_words octets ∙ good in
            let number = number_at station handle history in
            let header = header_in pdu in
            let due_there = λ (f : EndFacts). IsDueOn words side number (due_hearing side number (acks_control (has_acknowledged f header) f) f.control) (journal_of history) in
            let keyed = knows.hears history rest station octets pdu handle link before in_it on at good
            ∙ ap Some (sym ((λ i. keyed_of (facts_before_taking (given_words.setup_is i).link.role facts.turn.slot header (given_words.facts_is i)))
            ∙ hearing_still link.setup.link.role facts.turn.slot (Some pdu) (facts_in link) given_words.response)) in
            told_lines words side history (after_call given station (PacketHeard octets) history) _
            (lines_called words station given (PacketHeard octets) history (taking_opens setup facts hearing handle octets worded heard_is worded_is)) due.each
            (received_told words side (links.link_of station) (links.last_of station) setup facts hearing handle octets pdu (has_room setup facts) worded (journal_of history) heard_is worded_is
            (ap (λ (s : EndSetup). s.link.handle) given_words.setup_is ∙ handle_is 0 handle facts.links link (has.holds.so_far.last.each station in_it).own.handles at) good_there slot_is keyed
            (subst due_there (sym given_words.facts_is) is_due))

        -- a forged one is not taken, and nothing is said of it
        forging : (handle : ℕ) (link : OpenLink) (octets : List ℕ) → listens_under handle (facts_at given station history).turn.doing ≡ true
            → link_at handle (facts_at given station history).links ≡ Some link → verdict_of link.setup (facts_in link) octets ≡ Forged
            → RestsAt words (side_of station) (journal_of history) → IsTold words (side_of station) (after_call given station (PacketHeard octets) history)
        forging handle link octets on at forged rests =
            let setup = setup_at given station in
            let facts = facts_at given station history in
            let doing = facts.turn.doing in
            let worded = link_worded setup facts doing link in
            plain_called words station given (PacketHeard octets) history
            (subst (λ outcome. All IsPlain (notes_passed outcome)) (sym (heard_on setup facts octets handle doing on))
            (forged_plain setup (facts_on setup facts doing handle) octets handle worded (worded_at setup facts doing handle link at)
            (worded_verdict link worded (worded_as setup facts doing link) octets ∙ forged)))
            (record { each = due.each; rests = rests })

        by : IsDueAhead words given station history received → history_of (run_of given) ≡ history ++ Called station (step_of received) ∷ rest
            → IsTold words (side_of station) (after_call given station (step_of received) history)
        by (Nothing rests deaf) before =
            plain_called words station given (step_of received) history (phase_plain (setup_at given station) (facts_at given station history) received (facts_at given station history).turn.doing refl deaf)
            (record { each = due.each; rests = rests })
        by (Taking handle link octets pdu on at some good is_due) before =
            subst (λ r. IsTold words (side_of station) (after_call given station (step_of r) history)) (sym some)
            (taking handle link octets pdu on at good is_due (before ∙ ap (λ r. history ++ Called station (step_of r) ∷ rest) some))
        by (Forging handle link octets on at some forged rests) before =
            subst (λ r. IsTold words (side_of station) (after_call given station (step_of r) history)) (sym some) (forging handle link octets on at forged rests)

  -- what is due to another station stays
  other_due : (one station : ℕ) (step : Call) (history : List Event) (received received_too : Option (List ℕ)) → is_side (side_of station) (side_of one) ≡ false → (one == station) ≡ false
      → received_too ≡ received → IsDueTo words given one history received → IsDueTo words given one (after_call given station step history) received_too
  other_due one station step history received received_too differs apart same due =
      let after = after_call given station step history in
      let facts = other_facts given station step history one apart in
      let passes = other_called words station given (side_of one) step history differs in
      record { each = passes.each due.each; ahead = subst (λ r. IsDueAhead words given one after r) (sym same) (by facts passes.stays due.ahead) }
    where
      by : facts_at given one (after_call given station step history) ≡ facts_at given one history
          → StaysDue words (side_of one) (journal_of history) (journal_of (after_call given station step history))
          → IsDueAhead words given one history received → IsDueAhead words given one (after_call given station step history) received
      by facts stays (Nothing rests deaf) =
          Nothing (rests_stay words (side_of one) (journal_of history) _ stays rests) (λ handle link on at.
          deaf handle link (sym (ap (λ (f : Facts). listens_under handle f.turn.doing) facts) ∙ on) (sym (ap (λ (f : Facts). link_at handle f.links) facts) ∙ at))
      by facts stays (Taking handle link octets pdu on at some good is_due) =
          let after = after_call given station step history in
          let number = number_other given station step history one handle apart in
          let due_on = λ (n : ℕ). due_hearing (side_of one) n (acks_control (has_acknowledged (facts_in link) (header_in pdu)) (facts_in link)) (facts_in link).control in
          Taking handle link octets pdu (ap (λ (f : Facts). listens_under handle f.turn.doing) facts ∙ on) (ap (λ (f : Facts). link_at handle f.links) facts ∙ at) some good
          (subst (λ n. IsDueOn words (side_of one) n (due_on n) (journal_of after)) (sym number) (record {
            procedures = λ other. stays.procedures other ∙ is_due.procedures other;
            indication = stays.indication ∙ is_due.indication;
          }))
      by facts stays (Forging handle link octets on at some forged rests) =
          Forging handle link octets (ap (λ (f : Facts). listens_under handle f.turn.doing) facts ∙ on) (ap (λ (f : Facts). link_at handle f.links) facts ∙ at) some forged
          (rests_stay words (side_of one) (journal_of history) _ stays rests)

  -- ---- the sender of a packet

  pub sender_ahead : (station channel : ℕ) (octets : List ℕ) (history : List Event) (received : Option (List ℕ))
      → IsListening (facts_at given station history) (facts_at given station history).turn.doing → use_at given station history ≡ Sends channel octets
      → IsDueTo words given station history received → IsTold words (side_of station) history
  sender_ahead station channel octets history received listens wanted due = by due.ahead
    where
      by : IsDueAhead words given station history received → IsTold words (side_of station) history
      by (Nothing rests deaf) = record { each = due.each; rests = rests }
      by (Taking handle link got pdu on at some good is_due) =
          absurd (let h : Sends channel octets ≡ Listens (facts_in link).event.channel =
          sym wanted ∙ sym (wanted_is given station history) ∙ listens_wanted (facts_at given station history) handle link (facts_at given station history).turn.doing on listens at in absurd cc)
      by (Forging handle link got on at some forged rests) = record { each = due.each; rests = rests }

  sender_deaf : (station channel : ℕ) (octets : List ℕ) (history : List Event) (received : Option (List ℕ)) (handle : ℕ) (link : OpenLink)
      → IsListening (facts_at given station history) (facts_at given station history).turn.doing → use_at given station history ≡ Sends channel octets
      → listens_under handle (facts_at given station history).turn.doing ≡ true → link_at handle (facts_at given station history).links ≡ Some link → received ≡ None
  sender_deaf station channel octets history received handle link listens wanted on at =
      absurd (let h : Sends channel octets ≡ Listens (facts_in link).event.channel =
      sym wanted ∙ sym (wanted_is given station history) ∙ listens_wanted (facts_at given station history) handle link (facts_at given station history).turn.doing on listens at in absurd cc)

  -- before a packet nothing is due to any station
  pub packet_rests : (phases : ℕ) (done left : List ℕ) (station channel : ℕ) (octets : List ℕ) (history : List Event) → given.stations ≡ done ++ station ∷ left
      → use_at given station history ≡ Sends channel octets → AreDueAt words given (AtPackets phases done (station ∷ left)) history → NoneDueIn words given history
  packet_rests phases done left station channel octets history are wanted has = λ one in_one. by one in_one (one == station) refl
    where
      in_it : is_in station given.stations ≡ true
      in_it = among given.stations done left station are

      by : (one : ℕ) → is_in one given.stations ≡ true → (same : Bool) → (one == station) ≡ same → RestsAt words (side_of one) (journal_of history)
      by one in_one true same =
          let phased = phased_at given (AtPackets phases done (station ∷ left)) history has.seen.holds.hearing.stand station in_it in
          subst (λ n. RestsAt words (side_of n) (journal_of history)) (sym (eqb-true one station same))
          (sender_ahead station channel octets history (packet_received station history) phased.uses.in_turn.listens wanted (has.due station in_it)).rests
      by one in_one false differs =
          let silent = has.seen.silent one station in_one in_it differs (not_before given.stations done left station (are_distinct given are_two) are) in
          ahead_rests words given one history (packet_received one history) silent (has.due one in_one).ahead

-- ---- what each turn finds

call_rests : (words : Words) (given : Given) (station : ℕ) (step : Call) (history : List Event) → Each (RestsBefore words given) [] history → Each (RestsBefore words given) [] (after_call given station step history)
call_rests words given station step history each =
    each_called (RestsBefore words given) station step (notes_after (setup_at given station) (facts_at given station history) step) history each tt (λ before note. tt)

octets_rest : (words : Words) (given : Given) (station : ℕ) (octets : List ℕ) (history : List Event) → Each (RestsBefore words given) [] history → Each (RestsBefore words given) [] (after_octets given station octets history)
octets_rest words given station [] history each = each
octets_rest words given station (octet ∷ octets) history each =
    octets_rest words given station octets (after_call given station (HostOctet octet) history) (call_rests words given station (HostOctet octet) history each)

feed_rests : (words : Words) (given : Given) (station : ℕ) (octets : List ℕ) (history : List Event) → Each (RestsBefore words given) [] history → Each (RestsBefore words given) [] (after_feed given station octets history)
feed_rests words given station [] history each = each
feed_rests words given station (octet ∷ octets) history each =
    octets_rest words given station (octet ∷ octets) (history ++ HostFed station (octet ∷ octets) ∷ []) (each_event (RestsBefore words given) history (HostFed station (octet ∷ octets)) each tt)

-- a station that is called has no packet to take then
own_none : (given : Given) (station : ℕ) (step : Call) (history : List Event) → packet_received station (after_call given station step history) ≡ None
own_none given station step history = received_by given station station step history true (same_number station)

-- ---- each step

module _ (words : Words) (heard_whole : IsHeardWhole) (understood : IsUnderstood) (taken : AreTaken) (nth : AreNth) (apart : AreApart) (given : Given) (are_two : IsOfTwo given)
    (six : HaveAddresses given) (gives : GivesWords given words) (knows : KnowsControls words given) where
  -- between calls and packets no station has one to take
  all_told : (place : Place) (history : List Event) → ((station : ℕ) → is_in station given.stations ≡ true → packet_received station history ≡ None) → AreDueAt words given place history → AllTold words given history
  all_told place history none has = λ one in_one. due_told words given one history (packet_received one history) (none one in_one) (has.due one in_one)

  all_due : (history : List Event) → ((station : ℕ) → is_in station given.stations ≡ true → packet_received station history ≡ None) → AllTold words given history
      → (station : ℕ) → is_in station given.stations ≡ true → IsDueTo words given station history (packet_received station history)
  all_due history none told = λ one in_one. told_due words given one history (packet_received one history) (none one in_one) (told one in_one)

  -- a packet is on the air
  module _ (phases : ℕ) (done left : List ℕ) (station channel : ℕ) (octets : List ℕ) (fates : List Fate) (history : List Event) (are : given.stations ≡ done ++ station ∷ left)
      (wanted : use_at given station history ≡ Sends channel octets) (has : AreDueAt words given (AtPackets phases done (station ∷ left)) history) where
    abbrev after : List Event
    after = history ++ Transmitted station channel octets (hearings_of given fates station channel octets history) ∷ []

    abbrev then_place : Place
    then_place = AtPackets phases (done ++ station ∷ []) left

    packet_due : unseen_in octets (hearings_of given fates station channel octets history) ≡ None → AreSeenAt words given then_place after → AreLinedAt given (IsBelongingSoFar given) then_place after
        → (one : ℕ) → is_in one given.stations ≡ true → IsDueTo words given one after (packet_received one after)
    packet_due unseen seen_after lined_after = λ one in_one. by one in_one (one == station) refl
      where
        in_it : is_in station given.stations ≡ true
        in_it = among given.stations done left station are

        listens : IsListening (facts_at given station history) (facts_at given station history).turn.doing
        listens = (phased_at given (AtPackets phases done (station ∷ left)) history has.seen.holds.hearing.stand station in_it).uses.in_turn.listens

        own : IsDueTo words given station after (packet_received station after)
        own =
            let told = sender_told words nth apart given are_two six phases done left station channel octets fates history are wanted has.seen
            (sender_ahead words given are_two station channel octets history (packet_received station history) listens wanted (has.due station in_it)) in
            let same = facts_event given station history (Transmitted station channel octets (hearings_of given fates station channel octets history)) refl in record {
              each = told.each;
              ahead = Nothing told.rests (λ handle link on at.
                  sender_deaf words given are_two station channel octets history (packet_received station after) handle link listens wanted
                  (sym (ap (λ (f : Facts). listens_under handle f.turn.doing) same) ∙ on) (sym (ap (λ (f : Facts). link_at handle f.links) same) ∙ at));
            }

        far : is_in (other_of station) given.stations ≡ true → IsDueTo words given (other_of station) after (packet_received (other_of station) after)
        far is_too =
            let other = other_of station in
            let silent = has.seen.silent other station is_too in_it (differs_back station other (own_differs station))
            (not_before given.stations done left station (are_distinct given are_two) are) in
            let front = front_at given then_place after seen_after.known.front in
            let before = front.at ∙ append_assoc history (Transmitted station channel octets (hearings_of given fates station channel octets history) ∷ []) front.rest in record {
              each = other_lines words nth apart given are_two six phases done left station channel octets fates history are wanted has.seen (has.due other is_too).each;
              ahead = other_ahead words nth apart given are_two six phases done left station channel octets fates history are wanted has.seen is_too silent
                  (ahead_rests words given other history (packet_received other history) silent (has.due other is_too).ahead) unseen
                  (λ handle link at. knows.packets history front.rest station channel octets (hearings_of given fates station channel octets history) other handle link before is_too at)
                  has.lined lined_after;
            }

        by : (one : ℕ) → is_in one given.stations ≡ true → (same : Bool) → (one == station) ≡ same → IsDueTo words given one after (packet_received one after)
        by one in_one true same = subst (λ n. IsDueTo words given n after (packet_received n after)) (sym (eqb-true one station same)) own
        by one in_one false differs =
            let equal = other_is given are_two station one in_it in_one differs in
            subst (λ n. IsDueTo words given n after (packet_received n after)) (sym equal) (far (subst (λ n. is_in n given.stations ≡ true) equal in_one))

  pub dues_kept : IsKept given (AreDueAt words given)
  dues_kept =
      let sees = seen_kept words understood taken nth apart given are_two six gives in
      let lines = lines_kept heard_whole given (IsBelongingSoFar given) (known_of understood taken nth apart given are_two six) are_two six (are_distinct given are_two) in record {
        on_turn = λ slot plan history begun at has.
            let radios = map plan.radio_of given.stations in
            let event = TurnBegan slot radios in
            let told = all_told NoTurn history has.seen.holds.hearing.hears has in
            let seen = sees.on_turn slot plan history begun at has.seen in record {
              seen = seen;
              lined = lines.on_turn slot plan history begun at has.lined;
              due = all_due (history ++ event ∷ []) seen.holds.hearing.hears (turn_told words given are_two slot radios history told);
              rests = each_event (RestsBefore words given) history event has.rests (λ one in_one. (told one in_one).rests);
            };
        on_feed = λ plan done left station history are some now has.
            let octets = take (plan.feed_of station) (octets_left given station history) in
            let seen = sees.on_feed plan done left station history are some now has.seen in record {
              seen = seen;
              lined = lines.on_feed plan done left station history are some now has.lined;
              due = all_due (after_feed given station octets history) seen.holds.hearing.hears
                  (feed_told words given are_two station octets history (among given.stations done left station are) (all_told (AtFeeds done (station ∷ left)) history has.seen.holds.hearing.hears has));
              rests = feed_rests words given station octets history has.rests;
            };
        on_fed = λ history has. record { seen = sees.on_fed history has.seen; lined = lines.on_fed history has.lined; due = has.due; rests = has.rests };
        on_begin = λ slot plan done left station history are due has.
            let on = plan.radio_of station in
            let step = TurnBegins slot on in
            let after = after_call given station step history in
            let notes = notes_after (setup_at given station) (facts_at given station history) step in
            let seen = sees.on_begin slot plan done left station history are due has.seen in
            let front = front_at given (AtBegins (done ++ station ∷ []) left) after seen.known.front in
            let before = front.at ∙ append_assoc history (Called station step ∷ map (Noted station) notes) front.rest in record {
              seen = seen;
              lined = lines.on_begin slot plan done left station history are due has.lined;
              due = all_due after seen.holds.hearing.hears (call_told words given are_two station step history (among given.stations done left station are)
                  (λ told. begins_told words given are_two done left station slot on history (map (Noted station) notes ++ front.rest) are due.slot_is has.seen knows before told)
                  (all_told (AtBegins done (station ∷ left)) history has.seen.holds.hearing.hears has));
              rests = call_rests words given station step history has.rests;
            };
        on_begun = λ history has. record { seen = sees.on_begun history has.seen; lined = lines.on_begun history has.lined; due = has.due; rests = has.rests };
        on_phase = λ phases history few has. record { seen = sees.on_phase phases history few has.seen; lined = lines.on_phase phases history few has.lined; due = has.due; rests = has.rests };
        on_silence = λ phases done left station history are none has. record {
          seen = sees.on_silence phases done left station history are none has.seen;
          lined = lines.on_silence phases done left station history are none has.lined;
          due = has.due;
          rests = has.rests;
        };
        on_packet = λ phases plan done left station channel octets history are some due has.
            let seen = sees.on_packet phases plan done left station channel octets history are some due has.seen in
            let lined = lines.on_packet phases plan done left station channel octets history are some due has.lined in record {
              seen = seen;
              lined = lined;
              due = packet_due phases done left station channel octets plan.fates history are due.is_wanted has due.is_seen seen lined;
              rests = each_event (RestsBefore words given) history (Transmitted station channel octets (hearings_of given plan.fates station channel octets history)) has.rests
                  (packet_rests words given are_two phases done left station channel octets history are due.is_wanted has);
            };
        on_air = λ phases history has. record { seen = sees.on_air phases history has.seen; lined = lines.on_air phases history has.lined; due = has.due; rests = has.rests };
        on_hearing = λ phases done left station history are some has.
            let received = packet_received station history in
            let step = step_of received in
            let in_it = among given.stations done left station are in
            let after = after_call given station step history in
            let notes = notes_after (setup_at given station) (facts_at given station history) step in
            let seen = sees.on_hearing phases done left station history are some has.seen in
            let front = front_at given (AtListening phases (done ++ station ∷ []) left) after seen.known.front in
            let before = front.at ∙ append_assoc history (Called station step ∷ map (Noted station) notes) front.rest in record {
              seen = seen;
              lined = lines.on_hearing phases done left station history are some has.lined;
              due = λ one in_one. hearing_due phases done left station history (map (Noted station) notes ++ front.rest) are has before one in_one (one == station) refl;
              rests = call_rests words given station step history has.rests;
            };
        on_heard = λ phases history has. record { seen = sees.on_heard phases history has.seen; lined = lines.on_heard phases history has.lined; due = has.due; rests = has.rests };
        on_phases = λ history has. record { seen = sees.on_phases history has.seen; lined = lines.on_phases history has.lined; due = has.due; rests = has.rests };
        on_end = λ done left station history are some has.
            let after = after_call given station TurnEnds history in
            let seen = sees.on_end done left station history are some has.seen in record {
              seen = seen;
              lined = lines.on_end done left station history are some has.lined;
              due = all_due after seen.holds.hearing.hears (plain_call words given are_two station TurnEnds history (among given.stations done left station are)
                  (end_noted IsPlain plain_feeds (setup_at given station) (facts_at given station history)) (all_told (AtEnds done (station ∷ left)) history has.seen.holds.hearing.hears has));
              rests = call_rests words given station TurnEnds history has.rests;
            };
        on_ended = λ history has. record { seen = sees.on_ended history has.seen; lined = lines.on_ended history has.lined; due = has.due; rests = has.rests };
      }
    where
      -- a phase passes for one station
      hearing_due : (phases : ℕ) (done left : List ℕ) (station : ℕ) (history rest : List Event) (are : given.stations ≡ done ++ station ∷ left)
          → AreDueAt words given (AtListening phases done (station ∷ left)) history
          → history_of (run_of given) ≡ history ++ Called station (step_of (packet_received station history)) ∷ rest
          → (one : ℕ) → is_in one given.stations ≡ true → (same : Bool) → (one == station) ≡ same
          → IsDueTo words given one (after_call given station (step_of (packet_received station history)) history)
          (packet_received one (after_call given station (step_of (packet_received station history)) history))
      hearing_due phases done left station history rest are has before one in_one true same =
          let received = packet_received station history in
          let after = after_call given station (step_of received) history in
          let equal = eqb-true one station same in
          let in_it = among given.stations done left station are in
          let phased = subst (λ b. PhasedBy given history station (if b then at_stage (Within (suc phases)) (turns_begun history) else at_stage (Within phases) (turns_begun history)))
          (not_before given.stations done left station (are_distinct given are_two) are) (phased_at given (AtListening phases done (station ∷ left)) history has.seen.holds.hearing.stand station in_it) in
          let slot = turn_is words given are_two history (facts_at given station history).turn.slot (sym phased.uses.in_turn.slot_is) in
          subst (λ n. IsDueTo words given n after (packet_received n after)) (sym equal)
          (told_due words given station after (packet_received station after) (own_none given station (step_of received) history)
          (passes_on words given are_two phases done left station history rest are has.seen knows slot received before (has.due station in_it)))
      hearing_due phases done left station history rest are has before one in_one false differs =
          let received = packet_received station history in
          let after = after_call given station (step_of received) history in
          let in_it = among given.stations done left station are in
          other_due words given are_two one station (step_of received) history (packet_received one history) (packet_received one after)
          (other_apart given are_two one station in_one in_it (differs_back one station differs)) differs (received_by given one station (step_of received) history false differs) (has.due one in_one)
