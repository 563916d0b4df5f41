-- Each step of a run of two stations keeps that what is seen of each open end by the journal is what happened to it.
use Rattle.std.proofs.Common.{◌≡◌, ℕ, zero, suc, ◌-◌, ◌<◌, ◌==◌, Bool, true, false, Option, Some, None, List, [], ◌∷◌, ◌++◌, replicate, refl, sym, ap, subst, ◌∙◌, append-nil, append_assoc, arith}
use Rattle.std.specs.Prelude.{fold, map, take, if◌then◌else◌}
use Rattle.std.proofs.lemmas.Bool.{eqb-true}
use Rattle.std.proofs.lemmas.List.Sums.{fold-append}
use Rattle.journal_acks.specs.controller_model.Facts.{Facts, Listens, Sends}
use Rattle.journal_acks.specs.controller_model.Since.{notes_opened_on}
use Rattle.journal_acks.specs.controller_model.Side.{facts_of, notes_after}
use Rattle.journal_acks.specs.controller_model.Step.{Step as Call, HostOctet, TurnBegins, TurnEnds}
use Rattle.journal_acks.proofs.KeptCounts.{IsSilent}
use Rattle.journal_acks.proofs.controller_model.Handles.{own_handles}
use Rattle.journal_acks.specs.controller_model.declared.doing.Doing.{Doing}
use Rattle.journal_acks.specs.controller_model.declared.doing.Doing.TheVariants.{Advertises, CentralListens, PeripheralListens}
use Rattle.journal_acks.specs.controller_model.Commands.{moment_of}
use Rattle.host_answers.specs.Calls.{answered_after, call_lines}
use Rattle.host_answers.proofs.LineAnswers.{call_accepts}
use Rattle.journal_acks.specs.journal_links.LinkLines.{line_of}
use Rattle.journal_acks.specs.link_model.Packets.{verdict_of}
use Rattle.journal_acks.specs.link_model.keyed_control.declared.material.Response.{Response}
use Rattle.journal_acks.specs.open_links.OpenLinks.{OpenLink, facts_in, link_at}
use Rattle.journal_acks.specs.run_laws.Ends.{link_listened}
use Rattle.journal_acks.specs.run_model.Due.{Each}
use Rattle.journal_acks.specs.run_model.Feeding.{AreDistinct}
use Rattle.journal_acks.specs.run_model.History.{Event, TurnBegan, HostFed, Called, Noted, Transmitted, is_handed, packet_received, past_of, turns_begun}
use Rattle.journal_acks.specs.run_model.Journal.{journal_of, side_of}
use Rattle.journal_acks.specs.run_model.LinkEnds.{HaveAddresses}
use Rattle.journal_acks.specs.run_model.Links.{is_advertising}
use Rattle.journal_acks.specs.run_model.Run.{Given, after_call, after_feed, after_octets, facts_at, hearings_of, history_of, octets_left, run_of, setup_at, step_of, unseen_in, use_at}
use Rattle.journal_acks.specs.Exchange.{is_number}
use Rattle.radio_replay.specs.declared.fates.Fate.{Fate}
use Rattle.journal_acks.proofs.journal_links.OfTwo.{are_distinct, two_apart}
use Rattle.journal_acks.proofs.journal_packets.AccessOrder.{AreNth}
use Rattle.journal_acks.proofs.journal_packets.SentLinks.{IsOfTwo as IsOfBoth}
use Rattle.journal_acks.proofs.journal_packets.SoFar.{IsBelongingSoFar, belonging_first}
use Rattle.journal_acks.proofs.run_laws.ByCalls.{Holds, all_facts, first_hears, holds_kept}
use Rattle.journal_acks.proofs.run_laws.DistinctAccess.{AreApart}
use Rattle.journal_acks.proofs.run_laws.InAgreement.{AreStations, OpenedBefore, differs_back, first_station, stations_kept}
use Rattle.journal_acks.proofs.run_laws.LinkPasses.{is_on_link}
use Rattle.journal_acks.proofs.run_laws.OpenSteps.{none_open, open_has}
use Rattle.journal_acks.proofs.run_laws.TurnSteps.{IsListening}
use Rattle.journal_acks.proofs.run_laws.TurnPlaces.{Between, Within, at_stage, event_past, standing, stands_first}
use Rattle.journal_acks.proofs.run_model.Calls.{past_own, turns_called, turns_same}
use Rattle.journal_acks.proofs.run_model.Fates.{turns_are}
use Rattle.journal_acks.proofs.run_model.Fronts.{front_at}
use Rattle.journal_acks.proofs.run_model.LinkEnds.{AreTaken, IsUnderstood, received_by, received_event, received_own, wanted_is}
use Rattle.journal_acks.proofs.run_model.Notes.{NotedBefore, run_noted}
use Rattle.journal_acks.proofs.run_model.Numbers.{numbered_at}
use Rattle.journal_acks.proofs.run_model.Places.{each_at, each_called, each_event}
use Rattle.journal_acks.proofs.run_model.Stations.{among, in_more_other, in_more_same, is_in, not_before}
use Rattle.journal_acks.proofs.run_model.Walk.{AtBegins, AtEnds, AtFeeds, AtListening, AtPackets, IsKept, NoTurn, Place}
use Rattle.journal_acks.proofs.link_calls.CallNotes.{begin_noted, end_noted, octet_noted}
use Rattle.journal_acks.proofs.link_calls.CallNotes.{OpensNone, opening_none}
use Rattle.journal_acks.proofs.Exchanging.{number_at, number_called, number_quiet}
use Rattle.journal_acks.proofs.Known.{begun_as}
use Rattle.journal_acks.proofs.open_links.Handles.{handle_is as handle_under}
use Rattle.journal_acks.specs.link_calls.Uses.{listens_under}
use Rattle.journal_acks.proofs.Standing.{PhasedBy, listens_wanted, phased_at}
use Rattle.journal_acks.proofs.TwoStations.{IsOfTwo, hearing_of, one_hearing, other_is, other_of}
use Rattle.journal_ends.specs.Answering.{answers_from, answers_if}
use Rattle.journal_ends.specs.Asked.{Words, moment_in}
use Rattle.journal_ends.specs.GivenWords.{GivesWords, GivesWordsIn, words_next}
use Rattle.journal_ends.specs.Seen.{asked_if, heard_next, heard_where, seen_from}
use Rattle.journal_ends.proofs.EndsKnown.{AreLined, begun_at, known_kept, lined_at, lined_before}
use Rattle.journal_ends.proofs.AskedCalls.{IsKnownEnd, answered_lines, asked_lines, asked_seen}
use Rattle.journal_ends.proofs.GivenFronts.{feed_more, given_call, given_earlier, given_front, given_kept, given_octet, octets_more}
use Rattle.journal_ends.proofs.GrownLinks.{begun_grown, ended_grown}
use Rattle.journal_ends.proofs.HostedLinks.{IsAsked, octet_asked}
use Rattle.journal_ends.proofs.StandingLinks.{older_at}
use Rattle.journal_ends.proofs.ReachedLinks.{AreUnreached, IsUnreached, advertised_reached, bad_reached, feed_reached, none_unreached, turn_reached, unreached_called, unreached_event, unreached_packet_of}
use Rattle.journal_ends.proofs.SeenCalls.{AreSeenSo, IsSeenAt, held_at, hosted_own, passes_own, quiet_own, seen_call, seen_event, seen_in_link, seen_same, to_hear, whole}
use Rattle.journal_ends.proofs.SeenEvents.{feed_says, lines_at, seen_at, turn_says}
use Rattle.journal_ends.proofs.SeenPackets.{hears_there, packet_aired}

-- ---- what is kept

-- each open end of a station says and hears what happened to it, and nothing more
abbrev pub AreSeenOf : Words → Given → List Event → ℕ → Type 0
AreSeenOf words given history station = is_in station given.stations ≡ true → (handle : ℕ) (link : OpenLink) → link_at handle (facts_at given station history).links ≡ Some link
    → seen_at words (number_at station handle history) (side_of station) history ≡ seen_in_link (number_at station handle history) (side_of station) link

-- so do those of all stations
abbrev pub AreSeen : Words → Given → List Event → Type 0
AreSeen words given history = (station : ℕ) → AreSeenOf words given history station

-- before a call, an end of its station hears what it is to take in it
abbrev pub IsSeenBefore : Words → Given → List Event → ℕ → Call → Type 0
IsSeenBefore words given before station step = is_in station given.stations ≡ true → (handle : ℕ) (link : OpenLink) → link_at handle (facts_at given station before).links ≡ Some link
    → seen_at words (number_at station handle before) (side_of station) before
    ≡ seen_in_link (number_at station handle before) (side_of station) link ++ heard_next handle (facts_at given station before) step link

abbrev pub SeenBefore : Words → Given → List Event → Event → Type 0
SeenBefore words given before (TurnBegan slot radios) = AreSeen words given before
SeenBefore words given before (Called station step) = IsSeenBefore words given before station step
SeenBefore words given before (HostFed station octets) = Unit {0}
SeenBefore words given before (Noted station note) = Unit {0}
SeenBefore words given before (Transmitted station channel octets hearings) = AreSeen words given before

pub record AreSeenAt (words : Words) (given : Given) (place : Place) (history : List Event) : Type 0 where
  pub known : IsBelongingSoFar given place history
  pub holds : Holds given (AreStations given) place history
  pub silent : IsSilent given place history
  pub unreached : AreUnreached words history
  pub seen : AreSeenSo words given history (λ station. packet_received station history)
  pub each : Each (SeenBefore words given) [] history

-- ---- what an end hears next

pub listened_as : (handle : ℕ) (doing : Doing) → listens_under handle doing ≡ is_number (link_listened doing) handle
listened_as handle (CentralListens other) = refl
listened_as handle (PeripheralListens other) = refl
listened_as handle (Advertises channel) = refl
listened_as handle other = refl

heard_if : (listens : Bool) (slot : ℕ) (octets : List ℕ) (link : OpenLink)
    → to_hear listens (Some octets) slot link ≡ heard_where listens (verdict_of link.setup (facts_in link) octets) slot octets
heard_if true slot octets link = refl
heard_if false slot octets link = refl

to_hear_next : (handle : ℕ) (facts : Facts) (received : Option (List ℕ)) (link : OpenLink)
    → to_hear (listens_under handle facts.turn.doing) received facts.turn.slot link ≡ heard_next handle facts (step_of received) link
to_hear_next handle facts None link = by (listens_under handle facts.turn.doing)
  where
    by : (listens : Bool) → to_hear listens None facts.turn.slot link ≡ []
    by true = refl
    by false = refl
to_hear_next handle facts (Some octets) link =
    heard_if (listens_under handle facts.turn.doing) facts.turn.slot octets link
    ∙ ap (λ b. heard_where b (verdict_of link.setup (facts_in link) octets) facts.turn.slot octets) (listened_as handle facts.turn.doing)

-- where a station received nothing, all its ends are as they were
whole_at : (words : Words) (given : Given) (history : List Event) (received : ℕ → Option (List ℕ)) (station handle : ℕ) (link : OpenLink) → is_in station given.stations ≡ true
    → link_at handle (facts_at given station history).links ≡ Some link → received station ≡ None → AreSeenSo words given history received
    → seen_at words (number_at station handle history) (side_of station) history ≡ seen_in_link (number_at station handle history) (side_of station) link
whole_at words given history received station handle link in_it at none seen =
    whole words (received station) handle (facts_at given station history).turn link (number_at station handle history) (side_of station) history (λ listens. none) (seen station handle link in_it at)

pub all_whole : (words : Words) (given : Given) (history : List Event) → ((station : ℕ) → is_in station given.stations ≡ true → packet_received station history ≡ None)
    → AreSeenSo words given history (λ station. packet_received station history) → AreSeen words given history
all_whole words given history none seen = λ station in_it handle link at. whole_at words given history (λ one. packet_received one history) station handle link in_it at (none station in_it) seen

-- a station that sends has no packet to take
sender_whole : (words : Words) (given : Given) (history : List Event) (station channel : ℕ) (octets : List ℕ) → IsListening (facts_at given station history) (facts_at given station history).turn.doing
    → use_at given station history ≡ Sends channel octets → AreSeenSo words given history (λ one. packet_received one history) → AreSeenOf words given history station
sender_whole words given history station channel octets listens sends seen = λ in_it handle link at.
    let facts = facts_at given station history in
    whole words (packet_received station history) handle facts.turn link (number_at station handle history) (side_of station) history
    (λ on. absurd (let h : Sends channel octets ≡ Listens (facts_in link).event.channel =
    sym sends ∙ sym (wanted_is given station history) ∙ listens_wanted facts handle link facts.turn.doing on listens at in absurd cc)) (seen station handle link in_it at)

-- an end listens on its link
listens_on_link : (handle : ℕ) (doing : Doing) → listens_under handle doing ≡ true → is_on_link doing ≡ true
listens_on_link handle (CentralListens other) is = refl
listens_on_link handle (PeripheralListens other) is = refl
listens_on_link handle other is = absurd cc

-- the other one of two stations
other_in : (given : Given) → IsOfTwo given → (station : ℕ) → is_in (other_of station) given.stations ≡ true
other_in given are_two zero = ap (is_in 1) are_two
other_in given are_two (suc station) = ap (is_in 0) are_two

-- a call in which nothing is heard
whole_before : (words : Words) (given : Given) (history : List Event) (received : ℕ → Option (List ℕ)) (station : ℕ) (step : Call)
    → ((handle : ℕ) (facts : Facts) (link : OpenLink) → heard_next handle facts step link ≡ []) → received station ≡ None
    → AreSeenSo words given history received → IsSeenBefore words given history station step
whole_before words given history received station step deaf none seen = λ in_it handle link at.
    whole_at words given history received station handle link in_it at none seen
    ∙ sym (append-nil (seen_in_link (number_at station handle history) (side_of station) link))
    ∙ ap (λ xs. seen_in_link (number_at station handle history) (side_of station) link ++ xs) (sym (deaf handle (facts_at given station history) link))

-- a call, and all that is noted in it
call_each : (words : Words) (given : Given) (station : ℕ) (step : Call) (history : List Event) → Each (SeenBefore words given) [] history → IsSeenBefore words given history station step
    → Each (SeenBefore words given) [] (after_call given station step history)
call_each words given station step history each is =
    each_called (SeenBefore words given) station step (notes_after (setup_at given station) (facts_at given station history) step) history each is (λ before note. tt)

-- ---- what a host sends

-- an octet is called next
pub record IsOctetNext (given : Given) (station octet : ℕ) (history : List Event) : Type 0 where
  pub rest : List Event
  pub at : history_of (run_of given) ≡ history ++ Called station (HostOctet octet) ∷ rest

pub octet_next : (given : Given) (station octet : ℕ) (octets : List ℕ) (history rest : List Event)
    → history_of (run_of given) ≡ after_octets given station (octet ∷ octets) history ++ rest → IsOctetNext given station octet history
octet_next given station octet octets history rest is =
    let step = HostOctet octet in
    let notes = map (Noted station) (notes_after (setup_at given station) (facts_at given station history) step) in
    let called = Called station step ∷ notes in
    let more = octets_more given station octets (after_call given station step history) in record {
      rest = notes ++ (more.events ++ rest);
      at = is ∙ ap (λ xs. xs ++ rest) more.is ∙ append_assoc (history ++ called) more.events rest ∙ append_assoc history called (more.events ++ rest);
    }

-- a station stands before its turn after an octet too
pub fold_then : {A B : Type 0} (f : B → A → B) (start mid last : B) (past : List A) (x : A) → fold f start past ≡ mid → f mid x ≡ last
    → fold f start (past ++ x ∷ []) ≡ last
fold_then f start mid last past x is then_is = fold-append f start past (x ∷ []) ∙ ap (λ one. f one x) is ∙ then_is

octet_stands : (past : List Call) (octet begun : ℕ) → standing past ≡ Some (at_stage Between begun)
    → standing (past ++ HostOctet octet ∷ []) ≡ Some (at_stage Between begun)
octet_stands past octet begun stands =
    fold_then _ (Some (at_stage Between 0)) (Some (at_stage Between begun)) (Some (at_stage Between begun)) past (HostOctet octet) stands refl

abbrev NoneReceived : ℕ → Option (List ℕ)
NoneReceived station = None

module _ (words : Words) (understood : IsUnderstood) (taken : AreTaken) (nth : AreNth) (apart : AreApart) (given : Given) (are_two : IsOfTwo given) (six : HaveAddresses given) where
  distinct : AreDistinct given.stations
  distinct = are_distinct given are_two

  -- before an octet that is to come
  pub lined_octet : (station octet : ℕ) (octets : List ℕ) (history rest : List Event) → history_of (run_of given) ≡ after_octets given station (octet ∷ octets) history ++ rest
      → AreLined given history
  lined_octet station octet octets history rest is =
      let now = octet_next given station octet octets history rest is in
      lined_before understood taken given are_two six history now.rest (Called station (HostOctet octet)) now.at refl

  pub lined_next : (station : ℕ) (octets : List ℕ) (history rest : List Event) → history_of (run_of given) ≡ after_octets given station octets history ++ rest
      → AreLined given (after_octets given station octets history) → AreLined given history
  lined_next station [] history rest is lined = lined
  lined_next station (octet ∷ octets) history rest is lined = lined_octet station octet octets history rest is

  -- while a station is fed: it takes nothing, and stands before its turn
  pub record AreFed (station begun : ℕ) (history : List Event) : Type 0 where
    pub seen : AreSeenSo words given history NoneReceived
    pub each : Each (SeenBefore words given) [] history
    pub sent : Each IsOfBoth [] history
    pub stands : standing (past_of station history) ≡ Some (at_stage Between begun)
    pub turns : turns_begun history - 1 ≡ begun

  -- the other station is the other side
  pub apart_from : (station : ℕ) → is_in station given.stations ≡ true → (other : ℕ) → is_in other given.stations ≡ true → (other == station) ≡ false
      → side_of other ≡ side_of station → ⊥
  apart_from station in_it other is_too differs same = two_apart given are_two station in_it other is_too (differs_back other station differs) (sym same)

  module _ (station octet begun : ℕ) (history rest : List Event) (in_it : is_in station given.stations ≡ true)
      (at : history_of (run_of given) ≡ history ++ Called station (HostOctet octet) ∷ rest)
      (words_are : words (side_of station) (journal_of history) ≡ words_next (setup_at given station) (facts_at given station history)) (lined : AreLined given history)
      (lined_after : AreLined given (after_call given station (HostOctet octet) history)) (fed : AreFed station begun history) where
    abbrev here : Facts
    here = facts_at given station history

    -- the journal knows each open end
    known_end : (handle : ℕ) (base : OpenLink) → link_at handle here.links ≡ Some base
        → IsKnownEnd (number_at station handle history) (side_of station) history here.turn.begun handle base
    known_end handle base was =
        let older = older_at (setup_at given station) (past_of station history) begun fed.stands in
        let numbered = numbered_at understood taken given history rest (Called station (HostOctet octet)) distinct six at refl in
        let is_begun = begun_as history (number_at station handle history) station base.setup fed.sent (numbered station handle base was) in
        let now = older.in_turn.begun_is in record {
          link = is_begun.link;
          is_link = is_begun.is_link;
          earlier = (let opened = older.older handle base was in let slot = is_begun.slot in omega (arith, opened, slot, now));
          turns = (let all = turns_are history in let turns = fed.turns in omega (arith, all, turns, now));
          handle_is = handle_under 0 handle here.links base (own_handles (setup_at given station) (past_of station history)).handles was;
          lined = lined station handle base in_it was;
          goes_on = older.goes_on handle base was;
        }

    abbrev next : List Event
    next = after_call given station (HostOctet octet) history

    -- what an open end was asked in the call, by its facts and by the lines of the call
    pub record IsAskedIn (handle : ℕ) (link : OpenLink) : Type 0 where
      pub base : OpenLink
      pub was : link_at handle here.links ≡ Some base
      pub number : number_at station handle next ≡ number_at station handle history
      pub is : IsAsked handle (moment_of (setup_at given station) here) (answered_after here (HostOctet octet)) base link
      pub lines : seen_from words (side_of station) (number_at station handle history) (journal_of history) (call_lines given station (HostOctet octet) history)
          ≡ asked_if is.asked
      pub answers : answers_from words (side_of station) (number_at station handle history) (journal_of history) (call_lines given station (HostOctet octet) history)
          ≡ answers_if is.asked
      pub seen : seen_at words (number_at station handle history) (side_of station) next
          ≡ seen_in_link (number_at station handle history) (side_of station) link

    pub octet_asks : (handle : ℕ) (link : OpenLink) → link_at handle (facts_at given station next).links ≡ Some link → IsAskedIn handle link
    octet_asks handle link held =
        let step = HostOctet octet in
        let setup = setup_at given station in
        let side = side_of station in
        let own = number_at station handle history in
        let asked = octet_asked setup here handle link octet (held_at words given station step history in_it lined lined_after handle link held) in
        let same = number_called given station step history handle (octet_noted (OpensNone handle) (opening_none handle).starts.feeds setup here octet) in
        let known = known_end handle asked.base asked.was in
        let moment = moment_of setup here in
        let moment_is : moment_in words side (journal_of history) moment.slot ≡ moment =
        ap (λ (next : Response). record { slot = here.turn.begun; skd_m = next.skd_s; iv_m = next.iv_s }) words_are in
        let now = subst (λ n. lines_at n side next ≡ map (line_of side n) (notes_opened_on link.setup link.past)) same (lined_after station handle link in_it held) in
        let accepted = call_accepts given are_two station in_it step history rest at
        (each_at (NotedBefore given) (history_of (run_of given)) history rest (Called station step) (run_noted given).each at refl station) in record {
          base = asked.base;
          was = asked.was;
          number = same;
          is = asked.is;
          lines = asked_lines words own side history moment handle asked.base known moment_is given station octet link now accepted asked.is;
          answers = answered_lines words own side history moment handle asked.base known moment_is given station octet link now accepted asked.is;
          seen = asked_seen words own side history moment handle asked.base known moment_is given station octet link now accepted asked.is
              (whole_at words given history NoneReceived station handle asked.base in_it asked.was refl fed.seen);
        }

    octet_own : (handle : ℕ) (link : OpenLink) → link_at handle (facts_at given station next).links ≡ Some link
        → IsSeenAt words None handle (facts_at given station next).turn link (number_at station handle next) (side_of station) next
    octet_own handle link held =
        let asked = octet_asks handle link held in
        hosted_own words given station (HostOctet octet) history in_it lined lined_after handle link held None refl asked.number asked.base asked.was asked.seen

    pub octet_fed : AreFed station begun (after_call given station (HostOctet octet) history)
    octet_fed =
        let step = HostOctet octet in
        let notes = notes_after (setup_at given station) here step in record {
          seen = seen_call words given station step history NoneReceived NoneReceived (apart_from station in_it) lined lined_after octet_own (λ other is_too differs. refl) fed.seen;
          each = call_each words given station step history fed.each (whole_before words given history NoneReceived station step (λ handle held link. refl) refl fed.seen);
          sent = each_called IsOfBoth station step notes history fed.sent tt (λ before note. tt);
          stands = ap standing (past_own station step notes history) ∙ octet_stands (past_of station history) octet begun fed.stands;
          turns = ap (λ n. n - 1) (turns_called station step notes history) ∙ fed.turns;
        }

  octets_fed : (station : ℕ) (octets : List ℕ) (begun : ℕ) (history rest : List Event) → is_in station given.stations ≡ true
      → history_of (run_of given) ≡ after_octets given station octets history ++ rest → GivesWordsIn given words (after_octets given station octets history)
      → AreLined given (after_octets given station octets history)
      → AreFed station begun history → AreFed station begun (after_octets given station octets history)
  octets_fed station [] begun history rest in_it is gives lined fed = fed
  octets_fed station (octet ∷ octets) begun history rest in_it is gives lined fed =
      let next = after_call given station (HostOctet octet) history in
      let now = octet_next given station octet octets history rest is in
      octets_fed station octets begun next rest in_it is gives lined
      (octet_fed station octet begun history now.rest in_it now.at (given_octet words given station octet octets history gives) (lined_octet station octet octets history rest is) (lined_next station octets next rest is lined) fed)

  -- its host sends octets
  pub begin_fed : (station octet : ℕ) (octets : List ℕ) (begun : ℕ) (history rest : List Event)
      → history_of (run_of given) ≡ after_feed given station (octet ∷ octets) history ++ rest → AreLined given history
      → AreFed station begun history → AreFed station begun (history ++ HostFed station (octet ∷ octets) ∷ [])
  begin_fed station octet octets begun history rest is lined fed =
      let event = HostFed station (octet ∷ octets) in record {
        seen = seen_event words given history event NoneReceived lined (lined_octet station octet octets (history ++ event ∷ []) rest is) (λ one. refl)
            (λ number side. feed_says words number side history station (octet ∷ octets)) (λ one handle. number_quiet one handle history event (λ links. refl)) fed.seen;
        each = each_event (SeenBefore words given) history event fed.each tt;
        sent = each_event IsOfBoth history event fed.sent tt;
        stands = ap standing (event_past station history event refl) ∙ fed.stands;
        turns = ap (λ n. n - 1) (turns_same history event refl) ∙ fed.turns;
      }

  -- before it is fed
  pub first_fed : (done left : List ℕ) (station : ℕ) (history : List Event) → is_in station given.stations ≡ true
      → AreSeenAt words given (AtFeeds done (station ∷ left)) history → AreFed station (turns_begun history - 1) history
  first_fed done left station history in_it has = record {
    seen = seen_same words given history (λ one. packet_received one history) NoneReceived (λ one in_one. sym (has.holds.hearing.hears one in_one)) has.seen;
    each = has.each;
    sent = has.known.asked.sent;
    stands = has.holds.hearing.stand station in_it;
    turns = refl;
  }

  feed_fed : (station : ℕ) (octets : List ℕ) (begun : ℕ) (history rest : List Event) → is_in station given.stations ≡ true
      → history_of (run_of given) ≡ after_feed given station octets history ++ rest → GivesWordsIn given words (after_feed given station octets history)
      → AreLined given history → AreLined given (after_feed given station octets history)
      → AreFed station begun history → AreFed station begun (after_feed given station octets history)
  feed_fed station [] begun history rest in_it is gives lined lined_after fed = fed
  feed_fed station (octet ∷ octets) begun history rest in_it is gives lined lined_after fed =
      octets_fed station (octet ∷ octets) begun (history ++ HostFed station (octet ∷ octets) ∷ []) rest in_it is gives lined_after
      (begin_fed station octet octets begun history rest is lined fed)

  octets_unreached : (station : ℕ) (octets : List ℕ) (history : List Event) → AreUnreached words history → AreUnreached words (after_octets given station octets history)
  octets_unreached station [] history are = are
  octets_unreached station (octet ∷ octets) history are =
      octets_unreached station octets (after_call given station (HostOctet octet) history) (unreached_called words given station (HostOctet octet) history are)

  feed_unreached : (station : ℕ) (octets : List ℕ) (history : List Event) → AreUnreached words history → AreUnreached words (after_feed given station octets history)
  feed_unreached station [] history are = are
  feed_unreached station (octet ∷ octets) history are =
      let event = HostFed station (octet ∷ octets) in
      octets_unreached station (octet ∷ octets) (history ++ event ∷ [])
      (λ number. unreached_event words number history event (λ side. feed_reached words number side history station (octet ∷ octets)) (are number))

  -- ---- who transmits

  not_yet : (one : ℕ) (done : List ℕ) (station : ℕ) → is_in one (done ++ station ∷ []) ≡ false → (same : Bool) → (one == station) ≡ same
      → (same ≡ false) × (is_in one done ≡ false)
  not_yet one done station out true is = absurd (let h : true ≡ false = sym (in_more_same one station done is) ∙ out in absurd cc)
  not_yet one done station out false is = (refl, sym (in_more_other one station done is) ∙ out)

  still_silent : (phases : ℕ) (done left : List ℕ) (station : ℕ) (history : List Event) → IsSilent given (AtPackets phases done (station ∷ left)) history
      → IsSilent given (AtPackets phases (done ++ station ∷ []) left) history
  still_silent phases done left station history silent = λ other sender in_it is_too differs out.
      silent other sender in_it is_too differs (not_yet sender done station out (sender == station) refl).1

  -- a station hears nothing of itself
  packet_silent : (phases : ℕ) (done left : List ℕ) (station channel : ℕ) (octets : List ℕ) (fates : List Fate) (history : List Event) → is_in station given.stations ≡ true
      → IsSilent given (AtPackets phases done (station ∷ left)) history
      → IsSilent given (AtPackets phases (done ++ station ∷ []) left) (history ++ Transmitted station channel octets (hearings_of given fates station channel octets history) ∷ [])
  packet_silent phases done left station channel octets fates history in_it silent = λ other sender is_other is_sender differs out.
      let not = not_yet sender done station out (sender == station) refl in
      let one = other_is given are_two sender station is_sender in_it (differs_back sender station not.0) ∙ sym (other_is given are_two sender other is_sender is_other differs) in
      subst (λ n. packet_received n (history ++ Transmitted station channel octets (hearings_of given fates station channel octets history) ∷ []) ≡ packet_received n history) one
      (received_own given fates station channel octets history)
      ∙ silent other sender is_other is_sender differs not.1

  -- before a packet no station has one to take: nothing was heard of its sender, which does not listen
  pub packet_whole : (phases : ℕ) (done left : List ℕ) (station channel : ℕ) (octets : List ℕ) (history : List Event) → given.stations ≡ done ++ station ∷ left
      → use_at given station history ≡ Sends channel octets → AreSeenAt words given (AtPackets phases done (station ∷ left)) history → AreSeen words given history
  packet_whole phases done left station channel octets history are wanted has = λ one. by one (one == station) refl
    where
      by : (one : ℕ) → (same : Bool) → (one == station) ≡ same → AreSeenOf words given history one
      by one true same =
          let place = AtPackets phases done (station ∷ left) in
          let listens = (phased_at given place history has.holds.hearing.stand station (among given.stations done left station are)).uses.in_turn.listens in
          subst (AreSeenOf words given history) (sym (eqb-true one station same)) (sender_whole words given history station channel octets listens wanted has.seen)
      by one false differs = λ in_one handle link at.
          whole_at words given history (λ each. packet_received each history) one handle link in_one at
          (has.silent one station in_one (among given.stations done left station are) differs (not_before given.stations done left station distinct are)) has.seen

  -- a packet of a link is heard in a turn after that of its CONNECT_IND
  packet_unreached : (phases : ℕ) (done left : List ℕ) (station channel : ℕ) (octets : List ℕ) (fates : List Fate) (history : List Event) → given.stations ≡ done ++ station ∷ left
      → use_at given station history ≡ Sends channel octets → unseen_in octets (hearings_of given fates station channel octets history) ≡ None
      → AreSeenAt words given (AtPackets phases done (station ∷ left)) history
      → AreUnreached words (history ++ Transmitted station channel octets (hearings_of given fates station channel octets history) ∷ [])
  packet_unreached phases done left station channel octets fates history are wanted unseen has = λ number.
      by number (is_advertising channel) refl (is_handed (hearing_of given fates station channel octets history).verdict) refl
    where
      by : (number : ℕ) → (on : Bool) → is_advertising channel ≡ on → (handed : Bool) → is_handed (hearing_of given fates station channel octets history).verdict ≡ handed
          → IsUnreached words number (history ++ Transmitted station channel octets (hearings_of given fates station channel octets history) ∷ [])
      by number true on handed judged =
          let hearings = hearings_of given fates station channel octets history in
          let one = one_hearing given are_two fates station channel octets history (among given.stations done left station are) in
          unreached_event words number history (Transmitted station channel octets hearings)
          (λ side. advertised_reached words number side station channel octets history hearings (hearing_of given fates station channel octets history) one on) (has.unreached number)
      by number false off false bad =
          let hearings = hearings_of given fates station channel octets history in
          let one = one_hearing given are_two fates station channel octets history (among given.stations done left station are) in
          unreached_event words number history (Transmitted station channel octets hearings)
          (λ side. bad_reached words number side station channel octets history hearings (hearing_of given fates station channel octets history) one bad) (has.unreached number)
      by number false off true handed =
          let place = AtPackets phases done (station ∷ left) in
          let in_it = among given.stations done left station are in
          let other = other_of station in
          let is_too = other_in given are_two station in
          let facts = facts_at given other history in
          let there = hears_there words nth apart given are_two six phases done left station channel octets fates history are wanted has.known has.holds.hearing.stand has.seen
          is_too off unseen handed in
          let begun = begun_at given are_two place history has.known other there.handle there.link there.is_open in
          let old = (has.holds.so_far.last.each other is_too).old (listens_on_link there.handle facts.turn.doing there.on) in
          let before : there.link.setup.opened < facts.turn.slot = open_has (OpenedBefore facts.turn.slot) 0 there.handle facts.links there.link old there.is_open in
          let now = (phased_at given place history has.holds.hearing.stand other is_too).uses.in_turn.slot_is in
          let slot = begun.slot in
          unreached_packet_of words number (number_at other there.handle history) station channel octets history (hearings_of given fates station channel octets history)
          (hearing_of given fates station channel octets history) begun.link (one_hearing given are_two fates station channel octets history in_it) off there.belongs begun.is_link
          (omega (arith, before, now, slot)) (has.unreached number) (number_at other there.handle history == number) refl

  -- ---- each step

  -- where the words are given up to there
  pub seen_so_far : IsKept given (λ place history. GivesWordsIn given words history → AreSeenAt words given place history)
  seen_so_far = let kept = holds_kept given (AreStations given) (stations_kept given) six distinct in let knows = known_kept understood taken given are_two six in record {
    on_turn = λ slot plan history begun at had gives.
        let has = had (given_front words given history (TurnBegan slot (map plan.radio_of given.stations) ∷ []) gives) in
        let event = TurnBegan slot (map plan.radio_of given.stations) in
        let known = knows.on_turn slot plan history begun at has.known in record {
          known = known;
          holds = kept.on_turn slot plan history begun at has.holds;
          silent = tt;
          unreached = λ number. unreached_event words number history event (λ side. turn_reached words number side history slot (map plan.radio_of given.stations)) (has.unreached number);
          seen = seen_same words given (history ++ event ∷ []) (λ one. packet_received one history) (λ one. packet_received one (history ++ event ∷ [])) (λ one in_it. received_event one history event)
              (seen_event words given history event (λ one. packet_received one history) (lined_at understood taken given are_two six NoTurn history has.known)
              (lined_at understood taken given are_two six (AtFeeds [] given.stations) (history ++ event ∷ []) known) (λ one. refl)
              (λ number side. turn_says words number side history slot (map plan.radio_of given.stations)) (λ one handle. number_quiet one handle history event (λ links. refl)) has.seen);
          each = each_event (SeenBefore words given) history event has.each (all_whole words given history has.holds.hearing.hears has.seen);
        };
    on_feed = λ plan done left station history are some now had gives.
        let octets = take (plan.feed_of station) (octets_left given station history) in
        let in_it = among given.stations done left station are in
        let after = after_feed given station octets history in
        let has = had (given_earlier words given history after (feed_more given station octets history) gives) in
        let place = AtFeeds (done ++ station ∷ []) left in
        let known = knows.on_feed plan done left station history are some now has.known in
        let holds = kept.on_feed plan done left station history are some now has.holds in
        let front = front_at given place after known.front in
        let fed = feed_fed station octets (turns_begun history - 1) history front.rest in_it front.at gives
        (lined_at understood taken given are_two six (AtFeeds done (station ∷ left)) history has.known)
        (lined_at understood taken given are_two six place after known) (first_fed done left station history in_it has) in record {
          known = known;
          holds = holds;
          silent = tt;
          unreached = feed_unreached station octets history has.unreached;
          seen = seen_same words given after NoneReceived (λ one. packet_received one after) (λ one in_one. holds.hearing.hears one in_one) fed.seen;
          each = fed.each;
        };
    on_fed = λ history had gives. let has = had gives in record {
      known = knows.on_fed history has.known;
      holds = kept.on_fed history has.holds;
      silent = tt;
      unreached = has.unreached;
      seen = has.seen;
      each = has.each;
    };
    on_begin = λ slot plan done left station history are due had gives.
        let on = plan.radio_of station in
        let step = TurnBegins slot on in
        let has = had (given_call words given station step history gives) in
        let in_it = among given.stations done left station are in
        let setup = setup_at given station in
        let facts = facts_at given station history in
        let after = after_call given station step history in
        let known = knows.on_begin slot plan done left station history are due has.known in
        let holds = kept.on_begin slot plan done left station history are due has.holds in
        let lined = lined_at understood taken given are_two six (AtBegins done (station ∷ left)) history has.known in
        let lined_after = lined_at understood taken given are_two six (AtBegins (done ++ station ∷ []) left) after known in
        let none = has.holds.hearing.hears station in_it in record {
          known = known;
          holds = holds;
          silent = tt;
          unreached = unreached_called words given station step history has.unreached;
          seen = seen_call words given station step history (λ one. packet_received one history) (λ one. packet_received one after) (apart_from station in_it) lined lined_after (λ handle link held.
              let grown = begun_grown setup facts slot on handle link (held_at words given station step history in_it lined lined_after handle link held) in
              quiet_own words given station step history in_it lined lined_after handle link held (packet_received station after) (holds.hearing.hears station in_it)
              (number_called given station step history handle (begin_noted (OpensNone handle) (opening_none handle) setup slot on facts)) grown.base grown.was tt grown.is
              (whole_at words given history (λ one. packet_received one history) station handle grown.base in_it grown.was none has.seen))
              (λ other is_too differs. received_by given other station step history false differs) has.seen;
          each = call_each words given station step history has.each (whole_before words given history (λ one. packet_received one history) station step (λ handle held link. refl) none has.seen);
        };
    on_begun = λ history had gives. let has = had gives in record {
      known = knows.on_begun history has.known;
      holds = kept.on_begun history has.holds;
      silent = tt;
      unreached = has.unreached;
      seen = has.seen;
      each = has.each;
    };
    on_phase = λ phases history few had gives. let has = had gives in record {
      known = knows.on_phase phases history few has.known;
      holds = kept.on_phase phases history few has.holds;
      silent = λ other sender in_it is_too differs out. has.holds.hearing.hears other in_it;
      unreached = has.unreached;
      seen = has.seen;
      each = has.each;
    };
    on_silence = λ phases done left station history are none had gives. let has = had gives in record {
      known = knows.on_silence phases done left station history are none has.known;
      holds = kept.on_silence phases done left station history are none has.holds;
      silent = still_silent phases done left station history has.silent;
      unreached = has.unreached;
      seen = has.seen;
      each = has.each;
    };
    on_packet = λ phases plan done left station channel octets history are some due had gives.
        let has = had (given_front words given history (Transmitted station channel octets (hearings_of given plan.fates station channel octets history) ∷ []) gives) in
        let in_it = among given.stations done left station are in
        let out = not_before given.stations done left station distinct are in record {
          known = knows.on_packet phases plan done left station channel octets history are some due has.known;
          holds = kept.on_packet phases plan done left station channel octets history are some due has.holds;
          silent = packet_silent phases done left station channel octets plan.fates history in_it has.silent;
          unreached = packet_unreached phases done left station channel octets plan.fates history are due.is_wanted due.is_seen has;
          seen = packet_aired words nth apart given are_two six phases done left station channel octets plan.fates history are due.is_wanted has.known has.holds.hearing.stand has.seen due.is_seen
              (λ other is_other differs. has.silent other station is_other in_it differs out);
          each = each_event (SeenBefore words given) history (Transmitted station channel octets (hearings_of given plan.fates station channel octets history)) has.each
              (packet_whole phases done left station channel octets history are due.is_wanted has);
        };
    on_air = λ phases history had gives. let has = had gives in record {
      known = knows.on_air phases history has.known;
      holds = kept.on_air phases history has.holds;
      silent = tt;
      unreached = has.unreached;
      seen = has.seen;
      each = has.each;
    };
    on_hearing = λ phases done left station history are some had gives.
        let received = packet_received station history in
        let step = step_of received in
        let has = had (given_call words given station step history gives) in
        let in_it = among given.stations done left station are in
        let after = after_call given station step history in
        let place = AtListening phases (done ++ station ∷ []) left in
        let known = knows.on_hearing phases done left station history are some has.known in
        let lined = lined_at understood taken given are_two six (AtListening phases done (station ∷ left)) history has.known in
        let lined_after = lined_at understood taken given are_two six place after known in
        let phased =
        subst (λ b. PhasedBy given history station (if b then at_stage (Within (suc phases)) (turns_begun history) else at_stage (Within phases) (turns_begun history)))
        (not_before given.stations done left station distinct are) (phased_at given (AtListening phases done (station ∷ left)) history has.holds.hearing.stand station in_it) in record {
          known = known;
          holds = kept.on_hearing phases done left station history are some has.holds;
          silent = tt;
          unreached = unreached_called words given station step history has.unreached;
          seen = seen_call words given station step history (λ one. packet_received one history) (λ one. packet_received one after) (apart_from station in_it) lined lined_after
              (passes_own words given station history phases in_it phased lined lined_after has.unreached has.seen (λ handle link held. begun_at given are_two place after known station handle link held))
              (λ other is_too differs. received_by given other station step history false differs) has.seen;
          each = call_each words given station step history has.each (λ in_one handle link held.
              has.seen station handle link in_it held
              ∙ ap (λ xs. seen_in_link (number_at station handle history) (side_of station) link ++ xs) (to_hear_next handle (facts_at given station history) received link));
        };
    on_heard = λ phases history had gives. let has = had gives in record {
      known = knows.on_heard phases history has.known;
      holds = kept.on_heard phases history has.holds;
      silent = tt;
      unreached = has.unreached;
      seen = has.seen;
      each = has.each;
    };
    on_phases = λ history had gives. let has = had gives in record {
      known = knows.on_phases history has.known;
      holds = kept.on_phases history has.holds;
      silent = tt;
      unreached = has.unreached;
      seen = has.seen;
      each = has.each;
    };
    on_end = λ done left station history are some had gives.
        let step = TurnEnds in
        let has = had (given_call words given station step history gives) in
        let in_it = among given.stations done left station are in
        let setup = setup_at given station in
        let facts = facts_at given station history in
        let after = after_call given station step history in
        let known = knows.on_end done left station history are some has.known in
        let holds = kept.on_end done left station history are some has.holds in
        let lined = lined_at understood taken given are_two six (AtEnds done (station ∷ left)) history has.known in
        let lined_after = lined_at understood taken given are_two six (AtEnds (done ++ station ∷ []) left) after known in
        let none = has.holds.hearing.hears station in_it in record {
          known = known;
          holds = holds;
          silent = tt;
          unreached = unreached_called words given station step history has.unreached;
          seen = seen_call words given station step history (λ one. packet_received one history) (λ one. packet_received one after) (apart_from station in_it) lined lined_after (λ handle link held.
              let grown = ended_grown setup facts handle link (held_at words given station step history in_it lined lined_after handle link held) in
              quiet_own words given station step history in_it lined lined_after handle link held (packet_received station after) (holds.hearing.hears station in_it)
              (number_called given station step history handle (end_noted (OpensNone handle) (opening_none handle).starts.feeds setup facts)) grown.base grown.was tt grown.is
              (whole_at words given history (λ one. packet_received one history) station handle grown.base in_it grown.was none has.seen))
              (λ other is_too differs. received_by given other station step history false differs) has.seen;
          each = call_each words given station step history has.each (whole_before words given history (λ one. packet_received one history) station step (λ handle held link. refl) none has.seen);
        };
    on_ended = λ history had gives. let has = had gives in record {
      known = knows.on_ended history has.known;
      holds = kept.on_ended history has.holds;
      silent = tt;
      unreached = has.unreached;
      seen = has.seen;
      each = has.each;
    };
  }

  -- where they are given in all of the run
  pub seen_kept : GivesWords given words → IsKept given (AreSeenAt words given)
  seen_kept gives =
      given_kept words given gives (AreSeenAt words given) (known_kept understood taken given are_two six) (λ place history has. has.known) seen_so_far

-- as a run begins no link is open
none_seen : (words : Words) (given : Given) → AreSeenSo words given [] (λ station. packet_received station [])
unfolding facts_of
none_seen words given = λ station handle link in_it at.
    absurd (open_has (λ one. ⊥) 0 handle (replicate (setup_at given station).links None) link (none_open (λ one. ⊥) (setup_at given station).links) at)

stations_first : (words : Words) (given : Given) → AreStations given (all_facts given [])
unfolding facts_of
stations_first words given = record { each = λ station in_it. first_station (setup_at given station) }

pub seen_first : (words : Words) (given : Given) → AreSeenAt words given NoTurn []
seen_first words given = record {
  known = belonging_first given;
  holds = record {
    hearing = record { stand = stands_first given; hears = λ station in_it. first_hears given station };
    so_far = record { each = tt; last = stations_first words given };
  };
  silent = tt;
  unreached = none_unreached words;
  seen = none_seen words given;
  each = tt;
}
