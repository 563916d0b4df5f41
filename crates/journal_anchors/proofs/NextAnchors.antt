-- Before each packet and each turn of a run, and at its end, the anchor of the next event of each open end is in a later turn
-- than the one that is under way.
use Rattle.std.proofs.Common.{◌≡◌, ℕ, ◌-◌, ◌+◌, ◌<◌, ◌≤◌, Bool, true, false, Some, None, is_none, List, [], ◌∷◌, ◌++◌, cond, length, refl, sym, ap, subst, ◌∙◌, append-nil, arith}
use Rattle.instants.specs.Track.{next_anchor_of}
use Rattle.journal.specs.declared.entries.Entry.TheVariants.{Turn}
use Rattle.journal_sending.specs.controller_model.Facts.{Facts, Setup, first_facts}
use Rattle.journal_sending.specs.controller_model.link_model.Controls.{goes_on}
use Rattle.journal_sending.specs.controller_model.link_model.Facts.{keyed_of}
use Rattle.journal_sending.specs.controller_model.link_model.control_model.Control.{Control}
use Rattle.journal_sending.specs.controller_model.open_links.OpenLinks.{OpenLink, facts_in, link_at}
use Rattle.journal_sending.specs.journal_acks.link_calls.Hosts.{GetsData, HasHeardHost, IsAsked, Unchanged}
use Rattle.journal_sending.specs.journal_controls.LineSteps.{control_on}
use Rattle.journal_sending.specs.journal_controls.journal_ends.Asked.{Words}
use Rattle.journal_sending.specs.journal_controls.journal_ends.GivenWords.{GivesWords}
use Rattle.journal_sending.specs.journal_data.Held.{links_open}
use Rattle.journal_sending.specs.journal_data.HostLines.{link_under}
use Rattle.journal_sending.specs.run_model.History.{Event, Transmitted, past_of, turns_begun}
use Rattle.journal_sending.specs.run_model.Journal.{journal_of, side_of}
use Rattle.journal_sending.specs.run_model.LinkEnds.{HaveAddresses}
use Rattle.journal_sending.specs.run_model.Links.{links_of}
use Rattle.journal_sending.specs.run_model.Readers.{turns_of}
use Rattle.journal_sending.specs.run_model.Run.{Given, GoesOn, facts_at, history_of, run_of, setup_at}
use Rattle.run_pairs.proofs.OnTime.{ends_on_track}
use Rattle.journal_sending.proofs.journal_acks.Exchanging.{number_at}
use Rattle.journal_sending.proofs.journal_acks.Standing.{phased_at}
use Rattle.journal_sending.proofs.journal_acks.TwoStations.{IsOfTwo}
use Rattle.journal_sending.proofs.journal_acks.link_calls.RadioUses.{no_link}
use Rattle.journal_sending.proofs.journal_acks.link_calls.UnderHandles.{host_under}
use Rattle.journal_sending.proofs.journal_acks.run_laws.DistinctAccess.{AreApart}
use Rattle.journal_sending.proofs.journal_acks.run_laws.TurnPlaces.{AllStand, Between, IsTurned, Stage, Within, stands_at, turned}
use Rattle.journal_sending.proofs.journal_data.EachLine.{lines_at, numbers_at}
use Rattle.journal_sending.proofs.journal_data.FewLinks.{HaveFewLinks}
use Rattle.journal_sending.proofs.journal_data.HeldLinks.{under_is}
use Rattle.journal_sending.proofs.journal_data.NotedLines.{is_link}
use Rattle.journal_sending.proofs.journal_data.Openness.{is_open}
use Rattle.journal_sending.proofs.journal_data.StationLines.{IsStationBooked}
use Rattle.journal_sending.proofs.journal_leaving.OnlyOpen.{turn_of_line}
use Rattle.journal_sending.proofs.journal_leaving.journal_controls.EventMoves.{turn_at}
use Rattle.journal_sending.proofs.journal_leaving.journal_controls.KeptControls.{AreControlled}
use Rattle.journal_sending.proofs.journal_leaving.journal_controls.RunControls.{control_of, keyed_at_end, keyed_before_packet, keyed_before_turn}
use Rattle.journal_sending.proofs.journal_leaving.link_model.Hearing.{IsHeardWhole}
use Rattle.journal_sending.proofs.journal_links.OfTwo.{are_distinct}
use Rattle.journal_sending.proofs.journal_packets.AccessOrder.{AreNth}
use Rattle.journal_sending.proofs.AtRest.{by_side}
use Rattle.journal_sending.proofs.run_model.EntryEvents.{is_aired, is_of_event}
use Rattle.journal_sending.proofs.run_model.Fates.{turns_are}
use Rattle.journal_sending.proofs.run_model.LinkEnds.{AreTaken, IsUnderstood}
use Rattle.journal_sending.proofs.run_model.Stations.{is_in}
use Rattle.journal_sending.proofs.run_model.Walk.{AtPackets, NoTurn}
use Rattle.journal_anchors.specs.Anchors.{NoEventIsMissed, NoEventsAreMissed}
use Rattle.journal_anchors.proofs.RunPlaces.{IsBetween, IsToSend, place_of_end, place_of_packet, place_of_turn}

-- ---- a link that is open by the lines of a side

pub record IsOpenEnd (given : Given) (history : List Event) (station handle number : ℕ) : Type 0 where
  pub link : OpenLink
  pub is_open : link_at handle (facts_at given station history).links ≡ Some link
  pub number_is : number_at station handle history ≡ number

pub open_end : (given : Given) (history : List Event) (station handle number : ℕ) → IsStationBooked given station history
    → link_under handle (links_open (side_of station) (journal_of history)) ≡ Some number → IsOpenEnd given history station handle number
open_end given history station handle number booked is = by (is_open (facts_at given station history).links handle) refl
  where
    under : link_under handle (lines_at station history).links
        ≡ cond (is_open (facts_at given station history).links handle) (Some (number_at station handle history)) None
    under =
        under_is (setup_at given station).links (lines_at station history).links (numbers_at station history) (is_open (facts_at given station history).links)
        booked.links handle

    by : (on : Bool) → is_open (facts_at given station history).links handle ≡ on → IsOpenEnd given history station handle number
    by true on =
        let found = is_link (link_at handle (facts_at given station history).links) on in
        let same : Some (number_at station handle history) ≡ Some number =
        ap (λ (b : Bool). cond b (Some (number_at station handle history)) None) (sym on) ∙ sym under ∙ is in
        record { link = found.link; is_open = found.is; number_is = cc }
    by false off = absurd (
        let h : None ≡ Some number = ap (λ (b : Bool). cond b (Some (number_at station handle history)) None) (sym off) ∙ sym under ∙ is in
        absurd cc
        )

-- ---- a link is open only once a turn began

abbrev IsBegunAt : Stage → ℕ → Facts → Type 0
IsBegunAt Between begun facts = (handle : ℕ) (link : OpenLink) → link_at handle facts.links ≡ Some link → 1 ≤ begun
IsBegunAt (Within phases) begun facts = 1 ≤ begun

fed_begun : (setup : Setup) (facts : Facts) (octet begun handle : ℕ) (link : OpenLink) → IsBegunAt Between begun facts
    → HasHeardHost setup facts octet handle link → 1 ≤ begun
fed_begun setup facts octet begun handle link is (Unchanged was) = is handle link was
fed_begun setup facts octet begun handle link is (GetsData base start body was same) = is handle base was
fed_begun setup facts octet begun handle link is (IsAsked base command step was accepted asked same) = is handle base was

begun_kept : (setup : Setup) → IsTurned setup IsBegunAt
begun_kept setup = record {
  feeds = λ begun octet facts is handle link at.
      fed_begun setup facts octet begun handle link is (host_under setup facts octet handle link at);
  begins = λ begun on facts is. omega arith;
  passes = λ phases begun received facts is. is;
  ends = λ begun facts is handle link at. is;
}

begun_first : (setup : Setup) → IsBegunAt Between 0 (first_facts setup)
begun_first setup handle link at = no_link setup handle link _ at

-- a station at a place where all stations have begun the same turns
pub record IsTimedNow (given : Given) (history : List Event) (station : ℕ) : Type 0 where
  pub begun_is : (facts_at given station history).turn.begun ≡ turns_begun history
  pub some : (handle : ℕ) (link : OpenLink) → link_at handle (facts_at given station history).links ≡ Some link → 1 ≤ turns_begun history

pub timed_between : (given : Given) (history : List Event) (station : ℕ) → AllStand given NoTurn history → is_in station given.stations ≡ true
    → IsTimedNow given history station
timed_between given history station stand in_it =
    let setup = setup_at given station in record {
      begun_is = (phased_at given NoTurn history stand station in_it).uses.in_turn.begun_is;
      some = turned setup IsBegunAt (begun_kept setup) (past_of station history) (stands_at NoTurn station (turns_begun history)) (begun_first setup)
          (stand station in_it);
    }

pub timed_in_turn : (given : Given) (history : List Event) (station phases : ℕ) (done left : List ℕ) → AllStand given (AtPackets phases done left) history
    → is_in station given.stations ≡ true → IsTimedNow given history station
timed_in_turn given history station phases done left stand in_it =
    let setup = setup_at given station in
    let place = AtPackets phases done left in
    let begun = turned setup IsBegunAt (begun_kept setup) (past_of station history) (stands_at place station (turns_begun history)) (begun_first setup)
    (stand station in_it) in record {
      begun_is = (phased_at given place history stand station in_it).uses.in_turn.begun_is;
      some = λ handle link at. begun;
    }

-- ---- its next anchor

in_time : (lines turns begun next : ℕ) → lines ≡ turns → begun ≡ turns → 1 ≤ turns → begun ≤ next → lines - 1 < next
in_time lines turns begun next are is some later = omega (arith, are, is, some, later)

module _ (words : Words) (taken : AreTaken) (given : Given) (are_two : IsOfTwo given) (before rest : List Event) (at : history_of (run_of given) ≡ before ++ rest)
    (controlled : AreControlled words given before) (booked : (station : ℕ) → is_in station given.stations ≡ true → IsStationBooked given station before)
    (now : (station : ℕ) → is_in station given.stations ≡ true → IsTimedNow given before station) where
  of_station : (station : ℕ) → is_in station given.stations ≡ true → (handle number : ℕ) (control : Control)
      → link_under handle (links_open (side_of station) (journal_of before)) ≡ Some number
      → control_on words (side_of station) number (journal_of before) ≡ Some control → control.ends ≡ None
      → turn_at before < next_anchor_of control.track
  of_station station in_it handle number control under is ends =
      let side = side_of station in
      let one = open_end given before station handle number (booked station in_it) under in
      let held = facts_in one.link in
      let known : control_on words side number (journal_of before) ≡ Some held.control =
      subst (λ n. control_on words side n (journal_of before) ≡ Some held.control) one.number_is
      (control_of words side (number_at station handle before) (journal_of before) (keyed_of held) (controlled station in_it handle one.link one.is_open)) in
      let same : Some control ≡ Some held.control = sym is ∙ known in
      let control_is : control ≡ held.control = cc in
      let goes : goes_on held ≡ true = ap (λ (c : Control). is_none c.ends) (sym control_is) ∙ ap is_none ends in
      let timed = now station in_it in
      let on_track = ends_on_track taken given before rest station handle one.link (are_distinct given are_two) in_it at one.is_open in
      subst (λ (c : Control). turn_at before < next_anchor_of c.track) (sym control_is)
      (in_time (length (turns_of (journal_of before))) (turns_begun before) (facts_at given station before).turn.begun (next_anchor_of held.control.track)
      (turns_are before) timed.begun_is (timed.some handle one.link one.is_open) (on_track.next goes))

  none_missed : NoEventIsMissed words (journal_of before)
  none_missed = λ side handle number control.
      by_side given are_two
      (λ one. link_under handle (links_open one (journal_of before)) ≡ Some number → control_on words one number (journal_of before) ≡ Some control
      → control.ends ≡ None → turn_at before < next_anchor_of control.track)
      (λ station in_it. of_station station in_it handle number control) side

-- ---- in a run

module _ (words : Words) (whole : IsHeardWhole) (understood : IsUnderstood) (taken : AreTaken) (nth : AreNth) (apart : AreApart) (given : Given) (are_two : IsOfTwo given)
    (few_links : HaveFewLinks given) (six : HaveAddresses given) (gives : GivesWords given words)
    (eight : (station : ℕ) → (setup_at given station).host_buffers ≡ 8) where
  missed_between : (before rest : List Event) → history_of (run_of given) ≡ before ++ rest → AreControlled words given before → IsBetween given before
      → NoEventIsMissed words (journal_of before)
  missed_between before rest at controlled place =
      none_missed words taken given are_two before rest at controlled (λ station in_it. (place.are.well station in_it).booked)
      (λ station in_it. timed_between given before station place.counted.holds.hearing.stand in_it)

  pub missed_in_turn : (before rest : List Event) (station channel : ℕ) (octets : List ℕ) → history_of (run_of given) ≡ before ++ rest
      → AreControlled words given before → IsToSend given before station channel octets → NoEventIsMissed words (journal_of before)
  missed_in_turn before rest station channel octets at controlled place =
      none_missed words taken given are_two before rest at controlled (λ one in_it. (place.lines.are.well one in_it).booked)
      (λ one in_it. timed_in_turn given before one place.phases place.done (station ∷ place.left) place.lines.counted.holds.hearing.stand in_it)

  pub no_events_missed : NoEventsAreMissed words (journal_of (history_of (run_of given)))
  no_events_missed = record {
    in_turns = λ front rest side channel octets fate verdict is.
        let aired = is_aired given front rest side channel octets fate verdict is in
        let hearings = aired.hearing ∷ aired.others in
        subst (NoEventIsMissed words) (sym aired.front_is)
        (missed_in_turn aired.before (Transmitted aired.station channel octets hearings ∷ aired.after) aired.station channel octets aired.is_at
        (keyed_before_packet words whole understood taken nth apart given are_two six gives aired.before aired.after aired.station channel octets hearings aired.is_at)
        (place_of_packet whole understood taken nth apart given are_two few_links six eight aired.before aired.after aired.station channel octets hearings aired.is_at));
    between = λ front rest slot a_on b_on is.
        let one = is_of_event (history_of (run_of given)) front rest (Turn slot a_on b_on) is in
        let turn = turn_of_line (links_of one.before) one.event slot a_on b_on one.entry_is in
        let at = one.is_at ∙ ap (λ event. one.before ++ event ∷ one.after) turn.is in
        subst (NoEventIsMissed words) (sym one.front_is)
        (missed_between one.before (one.event ∷ one.after) one.is_at
        (keyed_before_turn words whole understood taken nth apart given are_two six gives one.before one.after turn.slot turn.radios at)
        (place_of_turn whole understood taken nth apart given are_two few_links six eight one.before one.after turn.slot turn.radios at));
  }

  pub none_missed_at_end : (history : List Event) → run_of given ≡ GoesOn history → NoEventIsMissed words (journal_of history)
  none_missed_at_end history goes =
      missed_between history [] (ap history_of goes ∙ sym (append-nil history))
      (subst (AreControlled words given) (ap history_of goes) (keyed_at_end words whole understood taken nth apart given are_two six gives))
      (place_of_end whole understood taken nth apart given are_two few_links six eight history goes)
