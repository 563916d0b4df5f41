-- Each step of a run keeps that the words by the lines are those that its stations draw.
use Rattle.std.proofs.Common.{◌≡◌, ℕ, suc, ◌+◌, ◌-◌, ◌==◌, ◌&&◌, ◌⊎◌, inl, inr, Bool, true, false, Option, Some, None, List, [], ◌∷◌, ◌++◌, map, refl, sym, ap, subst, ◌∙◌, append_assoc, if◌then◌else◌, arith}
use Rattle.std.specs.Prelude.{All, fold, length, sum_by, take}
use Rattle.std.proofs.lemmas.Bool.{eqb-true}
use Rattle.ble_base.specs.declared.notes.Note.{Note}
use Rattle.ble_base.specs.declared.roles.Side.{Side}
use Rattle.ble_base.specs.declared.roles.Side.TheVariants.{A, B}
use Rattle.journal.specs.declared.entries.Entry.{Entry}
use Rattle.journal.specs.declared.entries.Entry.TheVariants.{Air, Took, Up}
use Rattle.journal_controls.specs.controller_model.Facts.{Facts, Setup}
use Rattle.journal_controls.specs.controller_model.Heard.{draws_in, has_room, notes_taken}
use Rattle.journal_controls.specs.controller_model.Host.{commands_accepted, commands_accepted_after, words_answered, words_drawn, words_heard, words_if, words_of}
use Rattle.journal_controls.specs.controller_model.Side.{notes_after}
use Rattle.journal_controls.specs.controller_model.Step.{Step as Call, HostOctet, NothingHeard, PacketHeard, TurnBegins, TurnEnds}
use Rattle.journal_controls.specs.host_answers.Answered.{accepted_from}
use Rattle.journal_controls.specs.host_answers.Calls.{answered_after, call_lines}
use Rattle.journal_controls.specs.journal_acks.link_calls.Phases.{link_worded}
use Rattle.journal_controls.specs.journal_acks.link_calls.Uses.{listens_under}
use Rattle.journal_controls.specs.journal_ends.Asked.{Words}
use Rattle.journal_controls.specs.journal_ends.GivenWords.{AreKept, GivesWordsIn, draws_in_call, may_draw, words_next}
use Rattle.journal_controls.specs.journal_packets.Belonging.{is_side}
use Rattle.journal_controls.specs.link_model.Setup.{Setup as EndSetup}
use Rattle.journal_controls.specs.open_links.OpenLinks.{OpenLink, facts_in, link_at}
use Rattle.journal_controls.specs.journal_acks.run_laws.Access.{connects_in, connects_sent}
use Rattle.journal_controls.specs.run_model.Due.{Each}
use Rattle.journal_controls.specs.run_model.History.{Event, Called, Hearing, HostFed, Noted, Transmitted, TurnBegan, packet_received, past_of, turns_begun}
use Rattle.journal_controls.specs.run_model.Journal.{air_entries, entries_of, journal_of, side_of}
use Rattle.journal_controls.specs.run_model.LinkEnds.{HaveAddresses}
use Rattle.journal_controls.specs.run_model.Links.{begins_link, links_of}
use Rattle.journal_controls.specs.run_model.Readers.{station_of, turns_of}
use Rattle.journal_controls.specs.run_model.Run.{Given, after_call, after_feed, after_octets, facts_at, hearings_of, history_of, octets_left, run_of, setup_at, step_of}
use Rattle.journal_controls.specs.Hearing.{keyed_hearing, keyed_if}
use Rattle.journal_controls.specs.LineSteps.{keyed_on}
use Rattle.journal_controls.proofs.GoodPackets.{good_keyed}
use Rattle.journal_controls.proofs.KeptControls.{AreControlledAt, ControlBefore, IsControlledBefore, controls_first, controls_so_far}
use Rattle.journal_controls.proofs.LinkMoves.{worded_hearing}
use Rattle.journal_controls.proofs.PassedControls.{worded_response}
use Rattle.journal_controls.proofs.controller_model.Handles.{own_handles}
use Rattle.journal_controls.proofs.controller_model.Rands.{drawn}
use Rattle.journal_controls.proofs.host_answers.LineAnswers.{call_accepts, far_accepts}
use Rattle.journal_controls.proofs.host_answers.SideLines.{own_station}
use Rattle.journal_controls.proofs.journal_acks.Counting.{facts_event}
use Rattle.journal_controls.proofs.journal_acks.PhaseNotes.{unheard_plain}
use Rattle.journal_controls.proofs.journal_acks.Standing.{PhasedBy, phased_at}
use Rattle.journal_controls.proofs.journal_acks.TwoStations.{IsOfTwo, hearing_of, one_hearing, other_apart}
use Rattle.journal_controls.proofs.journal_acks.link_calls.CallNotes.{HasNoData, TakesNone, all_more, begin_noted, end_noted, none_taken, octet_noted}
use Rattle.journal_controls.proofs.journal_ends.AskedCalls.{call_journal}
use Rattle.journal_controls.proofs.journal_ends.EndsKnown.{known_kept}
use Rattle.journal_controls.proofs.journal_ends.GivenFronts.{octets_more}
use Rattle.journal_controls.proofs.journal_ends.KeptSeen.{listened_as}
use Rattle.journal_controls.proofs.journal_ends.WordedLinks.{facts_on, worded_as, worded_at, worded_good, worded_none}
use Rattle.journal_controls.proofs.journal_links.OfTwo.{are_distinct, of_two_stations}
use Rattle.journal_controls.proofs.journal_packets.AccessOrder.{AreNth}
use Rattle.journal_controls.proofs.link_model.Hearing.{IsHeardWhole}
use Rattle.journal_controls.proofs.journal_acks.open_links.Handles.{handle_is as handle_under}
use Rattle.journal_controls.proofs.journal_acks.run_laws.ByCalls.{at_turn, last_turn}
use Rattle.journal_controls.proofs.journal_acks.run_laws.ConnectInds.{count_event}
use Rattle.journal_controls.proofs.journal_acks.run_laws.DistinctAccess.{AreApart}
use Rattle.journal_controls.proofs.journal_acks.run_laws.Hearings.{own_facts}
use Rattle.journal_controls.proofs.journal_acks.run_laws.InAgreement.{differs_back}
use Rattle.journal_controls.proofs.journal_acks.run_laws.TurnPlaces.{Within, at_stage, event_past}
use Rattle.journal_controls.proofs.journal_acks.run_laws.TurnSteps.{octet_turn, pending}
use Rattle.journal_controls.proofs.run_model.Calls.{fold_called, past_other, past_own}
use Rattle.journal_controls.proofs.run_model.Fates.{turns_are}
use Rattle.journal_controls.proofs.run_model.Fronts.{front_at}
use Rattle.journal_controls.proofs.run_model.LinkEnds.{AreTaken, IsUnderstood}
use Rattle.journal_controls.proofs.run_model.Notes.{NotedBefore, run_noted}
use Rattle.journal_controls.proofs.run_model.Parts.{journal_event}
use Rattle.journal_controls.proofs.run_model.Places.{each_at, each_called, each_event}
use Rattle.journal_controls.proofs.run_model.Stations.{among, is_in, not_before}
use Rattle.journal_controls.proofs.run_model.Walk.{AtBegins, AtEnds, AtFeeds, AtListening, IsKept, NoTurn, Place}
use Rattle.journal_words.specs.Drawn.{drawn_on, response_after, words_in, words_in_line}
use Rattle.journal_words.proofs.CallWords.{accepted_words, answered_more, call_sum, drawn_more as accepted_more}
use Rattle.journal_words.proofs.DrawnLines.{drawn_first, drawn_grows, drawn_more, sum_in}
use Rattle.journal_words.proofs.TakenWords.{call_words, far_drawn, link_words, none_drawn, taken_in}

-- ---- lines that draw nothing

none_in_line : (words : Words) (side : Side) (front : List Entry) (line : Entry) → may_draw line ≡ false → words_in_line words side front line ≡ 0
none_in_line words side front (Up other octets) none = absurd cc
none_in_line words side front (Air sender channel octets fate verdict) none = absurd cc
none_in_line words side front (Took other link count llid body) none = absurd cc
none_in_line words side front line none = refl

no_more : (n m : ℕ) → m ≡ 0 → n + m ≡ n
no_more n m none = omega (arith, none)

-- the words of a side
abbrev pub list_at : Given → Side → List ℕ
list_at given side = (setup_at given (station_of side)).words

pub words_kept : (given : Given) → AreKept (words_in given)
words_kept given = λ side front line none.
    let list = list_at given side in
    ap (response_after list)
    (drawn_more list side (words_in given) (λ one. refl) front line
    ∙ no_more (drawn_on list side front) (words_in_line (words_in given) side front line) (none_in_line (words_in given) side front line none))

apart_sides : (one other : Side) → is_side one other ≡ false → other ≡ one → ⊥
apart_sides A A far same = absurd cc
apart_sides B B far same = absurd cc
apart_sides A B far same = absurd cc
apart_sides B A far same = absurd cc

-- ---- what is kept

-- a station drew what its lines say: as many words as its commands and its ends, and one for each CONNECT_IND
abbrev pub IsDrawn : Given → List Event → ℕ → Type 0
IsDrawn given history station =
    drawn_on (list_at given (side_of station)) (side_of station) (journal_of history)
    ≡ (words_drawn (setup_at given station) (past_of station history) + words_answered (setup_at given station) (past_of station history)) + connects_sent station history

abbrev pub AreDrawn : Given → List Event → Type 0
AreDrawn given history = (station : ℕ) → is_in station given.stations ≡ true → IsDrawn given history station

-- so it is before a call in which it may draw, and its words by the lines are those that it would draw
pub record IsWorded (given : Given) (before : List Event) (station : ℕ) : Type 0 where
  pub count : drawn_on (setup_at given station).words (side_of station) (journal_of before) ≡ (facts_at given station before).drawn
  pub words_are : words_in given (side_of station) (journal_of before) ≡ words_next (setup_at given station) (facts_at given station before)

abbrev pub WordsBefore : Given → List Event → Event → Type 0
WordsBefore given before (Called station call) = draws_in_call call ≡ true → IsWorded given before station
WordsBefore given before (TurnBegan slot radios) = Unit {0}
WordsBefore given before (HostFed station octets) = Unit {0}
WordsBefore given before (Noted station note) = Unit {0}
WordsBefore given before (Transmitted station channel octets hearings) = Unit {0}

pub record AreWords (given : Given) (place : Place) (history : List Event) : Type 0 where
  controlled : AreControlledAt (words_in given) given place history
  pub each : Each (WordsBefore given) [] history
  drawn : AreDrawn given history

pub gives_of : (given : Given) (history : List Event) → Each (WordsBefore given) [] history → GivesWordsIn given (words_in given) history
gives_of given history each = record {
  kept = words_kept given;
  gives = λ before rest station call draws is. (each_at (WordsBefore given) history before rest (Called station call) each is draws).words_are;
}

-- ---- what it has drawn, as a packet may come

-- no CONNECT_IND of it waits
abbrev IsConnected : Given → List Event → ℕ → Type 0
IsConnected given history station = (facts_at given station history).connections ≡ connects_sent station history

worded_now : (given : Given) → IsOfTwo given → (station : ℕ) → is_in station given.stations ≡ true → (history : List Event) → IsDrawn given history station
    → IsConnected given history station → IsWorded given history station
worded_now given are_two station in_it history is connected =
    let setup = setup_at given station in
    let past = past_of station history in
    let own = own_station given are_two station in_it in
    let side = side_of station in
    let count : drawn_on setup.words side (journal_of history) ≡ (facts_at given station history).drawn =
    ap (λ n. drawn_on (setup_at given n).words side (journal_of history)) (sym own)
    ∙ is ∙ ap (λ n. (words_drawn setup past + words_answered setup past) + n) (sym connected)
    ∙ sym (drawn setup past) in record {
      count = count;
      words_are = ap (λ n. response_after (setup_at given n).words (drawn_on (setup_at given n).words side (journal_of history))) own
          ∙ ap (response_after setup.words) count;
    }

-- ---- an event that is no call

event_drawn : (given : Given) (station : ℕ) (history : List Event) (event : Event) → past_of station (history ++ event ∷ []) ≡ past_of station history
    → sum_in (words_in_line (words_in given) (side_of station)) (journal_of history) (entries_of (links_of history) event) ≡ connects_in station event
    → IsDrawn given history station → IsDrawn given (history ++ event ∷ []) station
event_drawn given station history event same sum is =
    let setup = setup_at given station in
    let side = side_of station in
    let list = list_at given side in
    let lines = entries_of (links_of history) event in
    let past = past_of station history in
    let words = words_drawn setup past + words_answered setup past in
    ap (drawn_on list side) (journal_event history event)
    ∙ drawn_grows list side (words_in given) (λ one. refl) (journal_of history) lines
    ∙ (λ i. is i + sum i)
    ∙ three words (connects_sent station history) (connects_in station event)
    ∙ sym (λ i. (words_drawn setup (same i) + words_answered setup (same i)) + count_event station history event i)
  where
    three : (a b c : ℕ) → (a + b) + c ≡ a + (b + c)
    three a b c = omega arith

-- of two stations, a packet is one of a side where it is one of its station
same_test : (station sender : ℕ) → (station ≡ 0) ⊎ (station ≡ 1) → (sender ≡ 0) ⊎ (sender ≡ 1) → is_side (side_of sender) (side_of station) ≡ (station == sender)
same_test station sender one other = by one other
  where
    both : (n m : ℕ) → station ≡ n → sender ≡ m → is_side (side_of m) (side_of n) ≡ (n == m) → is_side (side_of sender) (side_of station) ≡ (station == sender)
    both n m is is_too same =
        subst (λ k. is_side (side_of sender) (side_of k) ≡ (k == sender)) (sym is) (subst (λ k. is_side (side_of k) (side_of n) ≡ (n == k)) (sym is_too) same)

    by : (station ≡ 0) ⊎ (station ≡ 1) → (sender ≡ 0) ⊎ (sender ≡ 1) → is_side (side_of sender) (side_of station) ≡ (station == sender)
    by (inl a) (inl b) = both 0 0 a b refl
    by (inl a) (inr b) = both 0 1 a b refl
    by (inr a) (inl b) = both 1 0 a b refl
    by (inr a) (inr b) = both 1 1 a b refl

module _ (given : Given) (are_two : IsOfTwo given) where
  one_of_two : (station : ℕ) → is_in station given.stations ≡ true → (station ≡ 0) ⊎ (station ≡ 1)
  one_of_two station in_it = of_two_stations given are_two station in_it

  packet_drawn : (station sender channel : ℕ) (octets : List ℕ) (hearings : List Hearing) (hearing : Hearing) (history : List Event) → is_in station given.stations ≡ true
      → is_in sender given.stations ≡ true → hearings ≡ hearing ∷ []
      → IsDrawn given history station → IsDrawn given (history ++ Transmitted sender channel octets hearings ∷ []) station
  packet_drawn station sender channel octets hearings hearing history in_it is_too one is =
      let side = side_of station in
      event_drawn given station history (Transmitted sender channel octets hearings) (event_past station history (Transmitted sender channel octets hearings) refl)
      (ap (λ xs. sum_in (words_in_line (words_in given) side) (journal_of history) (air_entries (side_of sender) channel octets xs)) one
      ∙ plain (if is_side (side_of sender) side && begins_link channel octets then 1 else 0)
      ∙ ap (λ own. if own && begins_link channel octets then 1 else 0) (same_test station sender (one_of_two station in_it) (one_of_two sender is_too))) is
    where
      plain : (n : ℕ) → (0 + (n + 0)) + 0 ≡ n
      plain n = omega arith

  -- ---- a call

  connects_called : (station other : ℕ) (call : Call) (history : List Event) → connects_sent station (after_call given other call history) ≡ connects_sent station history
  unfolding connects_sent
  connects_called station other call history =
      fold_called (λ count event. count + connects_in station event) 0 other call (notes_after (setup_at given other) (facts_at given other history) call) history
      (λ count note. plain count)
      ∙ plain (fold (λ count event. count + connects_in station event) 0 history)
    where
      plain : (n : ℕ) → n + 0 ≡ n
      plain n = omega arith

  module _ (station : ℕ) (call : Call) (history rest : List Event) (in_it : is_in station given.stations ≡ true)
      (at : history_of (run_of given) ≡ after_call given station call history ++ rest)
      (taken : taken_in (words_in given) (side_of station) station (journal_of history) (links_of history)
      (notes_after (setup_at given station) (facts_at given station history) call) ≡ words_heard (setup_at given station) (facts_at given station history) call) where
    abbrev notes : List Note
    notes = notes_after (setup_at given station) (facts_at given station history) call

    abbrev later : List Event
    later = after_call given station call history

    abbrev lines : List Entry
    lines = call_lines given station call history

    called_at : history_of (run_of given) ≡ history ++ Called station call ∷ (map (Noted station) notes ++ rest)
    called_at = at ∙ append_assoc history (Called station call ∷ map (Noted station) notes) rest

    accepts : accepted_from (side_of station) (journal_of history) lines ≡ answered_after (facts_at given station history) call
    accepts =
        call_accepts given are_two station in_it call history (map (Noted station) notes ++ rest) called_at
        (each_at (NotedBefore given) (history_of (run_of given)) history (map (Noted station) notes ++ rest) (Called station call) (run_noted given).each called_at refl station)

    grown : (side : Side) → drawn_on (list_at given side) side (journal_of later)
        ≡ drawn_on (list_at given side) side (journal_of history) + sum_in (words_in_line (words_in given) side) (journal_of history) lines
    grown side =
        ap (drawn_on (list_at given side) side) (call_journal given station call history)
        ∙ drawn_grows (list_at given side) side (words_in given) (λ one. refl) (journal_of history) lines

    own_drawn : IsDrawn given history station → IsDrawn given later station
    own_drawn is =
        let setup = setup_at given station in
        let facts = facts_at given station history in
        let side = side_of station in
        let past = past_of station history in
        let accepted = sum_by words_of (commands_accepted_after facts call) in
        let sum : sum_in (words_in_line (words_in given) side) (journal_of history) lines ≡ accepted + words_heard setup facts call =
        call_sum (words_in given) side given station call history (journal_of history)
        ∙ (λ i. accepted_words given station call history (journal_of history) side accepts i + taken i) in
        grown side ∙ (λ i. is i + sum i)
        ∙ three (words_drawn setup past) (words_answered setup past) (connects_sent station history) accepted (words_heard setup facts call)
        ∙ sym (λ i. (accepted_more setup past call i + answered_more setup past call i) + connects_called station station call history i)
        ∙ sym (ap (λ one. (words_drawn setup one + words_answered setup one) + connects_sent station later) (past_own station call notes history))
      where
        three : (a b c d e : ℕ) → ((a + b) + c) + (d + e) ≡ ((a + d) + (b + e)) + c
        three a b c d e = omega arith

    far_drawn_still : (other : ℕ) → is_in other given.stations ≡ true → (other == station) ≡ false → IsDrawn given history other → IsDrawn given later other
    far_drawn_still other is_too differs is =
        let setup = setup_at given other in
        let side = side_of other in
        let far : is_side (side_of station) side ≡ false = other_apart given are_two other station is_too in_it (differs_back other station differs) in
        let accepted = far_accepts given side station call history (journal_of history) (apart_sides (side_of station) side far) in
        let sum : sum_in (words_in_line (words_in given) side) (journal_of history) lines ≡ 0 =
        call_sum (words_in given) side given station call history (journal_of history)
        ∙ (λ i. sum_by words_of (accepted i) + far_drawn (words_in given) side station (journal_of history) (links_of history) notes far i) in
        grown side ∙ no_more (drawn_on (list_at given side) side (journal_of history)) _ sum ∙ is
        ∙ sym (λ i. (words_drawn setup (past_other other station call notes history differs i) + words_answered setup (past_other other station call notes history differs i))
        + connects_called other station call history i)

    pub all_drawn : AreDrawn given history → AreDrawn given later
    all_drawn are = λ other is_too. by other is_too (other == station) refl
      where
        by : (other : ℕ) → is_in other given.stations ≡ true → (same : Bool) → (other == station) ≡ same → IsDrawn given (after_call given station call history) other
        by other is_too true same = subst (IsDrawn given later) (sym (eqb-true other station same)) (own_drawn (are station in_it))
        by other is_too false differs = far_drawn_still other is_too differs (are other is_too)

  -- where it takes no PDU
  untaken : (station : ℕ) (call : Call) (history : List Event) → All TakesNone (notes_after (setup_at given station) (facts_at given station history) call)
      → words_heard (setup_at given station) (facts_at given station history) call ≡ 0
      → taken_in (words_in given) (side_of station) station (journal_of history) (links_of history) (notes_after (setup_at given station) (facts_at given station history) call)
      ≡ words_heard (setup_at given station) (facts_at given station history) call
  untaken station call history none unheard =
      none_drawn (words_in given) (side_of station) station (journal_of history) (links_of history) (notes_after (setup_at given station) (facts_at given station history) call) none
      ∙ sym unheard

  -- ---- what a host sends

  -- while a station is fed
  record AreFed (station : ℕ) (history : List Event) : Type 0 where
    each : Each (WordsBefore given) [] history
    drawn : AreDrawn given history
    connected : IsConnected given history station

  octet_fed : (station octet : ℕ) (history rest : List Event) → is_in station given.stations ≡ true → history_of (run_of given) ≡ after_call given station (HostOctet octet) history ++ rest
      → AreFed station history → AreFed station (after_call given station (HostOctet octet) history)
  octet_fed station octet history rest in_it at fed =
      let call = HostOctet octet in
      let setup = setup_at given station in
      let facts = facts_at given station history in record {
        each = each_called (WordsBefore given) station call (notes_after setup facts call) history fed.each
            (λ draws. worded_now given are_two station in_it history (fed.drawn station in_it) fed.connected) (λ before note. tt);
        drawn = all_drawn station call history rest in_it at (untaken station call history (octet_noted TakesNone none_taken.starts.feeds setup facts octet) refl) fed.drawn;
        connected = ap (λ (f : Facts). f.connections) (own_facts given station call history) ∙ (octet_turn setup facts octet).connections ∙ fed.connected
            ∙ sym (connects_called station station call history);
      }

  octets_fed : (station : ℕ) (octets : List ℕ) (history rest : List Event) → is_in station given.stations ≡ true → history_of (run_of given) ≡ after_octets given station octets history ++ rest
      → AreFed station history → AreFed station (after_octets given station octets history)
  octets_fed station [] history rest in_it at fed = fed
  octets_fed station (octet ∷ octets) history rest in_it at fed =
      let next = after_call given station (HostOctet octet) history in
      let more = octets_more given station octets next in
      octets_fed station octets next rest in_it at
      (octet_fed station octet history (more.events ++ rest) in_it (at ∙ ap (λ events. events ++ rest) more.is ∙ append_assoc next more.events rest) fed)

  feed_fed : (station : ℕ) (octets : List ℕ) (history rest : List Event) → is_in station given.stations ≡ true → history_of (run_of given) ≡ after_feed given station octets history ++ rest
      → AreFed station history → AreFed station (after_feed given station octets history)
  feed_fed station [] history rest in_it at fed = fed
  feed_fed station (octet ∷ octets) history rest in_it at fed =
      let event = HostFed station (octet ∷ octets) in
      octets_fed station (octet ∷ octets) (history ++ event ∷ []) rest in_it at (record {
        each = each_event (WordsBefore given) history event fed.each tt;
        drawn = λ other is_too. event_drawn given other history event (event_past other history event refl) refl (fed.drawn other is_too);
        connected = ap (λ (f : Facts). f.connections) (facts_event given station history event refl) ∙ fed.connected
            ∙ sym (count_event station history event ∙ no_more (connects_sent station history) 0 refl);
      })

  -- ---- a packet is taken

  module _ (station : ℕ) (octets : List ℕ) (history : List Event) (phases : ℕ) (in_it : is_in station given.stations ≡ true)
      (phased : PhasedBy given history station (at_stage (Within phases) (turns_begun history)))
      (gives : words_in given (side_of station) (journal_of history) ≡ words_next (setup_at given station) (facts_at given station history))
      (before : IsControlledBefore (words_in given) given history station (PacketHeard octets)) where
    abbrev here : Facts
    here = facts_at given station history

    abbrev own : Setup
    own = setup_at given station

    of_base : (handle : ℕ) → listens_under handle here.turn.doing ≡ true → (base : OpenLink) → link_at handle here.links ≡ Some base → (more : List Note) → All TakesNone more
        → taken_in (words_in given) (side_of station) station (journal_of history) (links_of history)
        (notes_taken here.turn.slot (has_room own here) (Some (link_worded own here here.turn.doing base)) octets ++ more)
        ≡ words_if (draws_in here.turn.slot (has_room own here) (Some (link_worded own here here.turn.doing base)) octets)
    of_base handle on base was more none =
        let side = side_of station in
        let slot = here.turn.slot in
        let worded = link_worded own here here.turn.doing base in
        let is = worded_as own here here.turn.doing base in
        let named : worded.setup.link.handle ≡ handle =
        ap (λ (s : EndSetup). s.link.handle) is.setup_is ∙ handle_under 0 handle here.links base (own_handles own (past_of station history)).handles was in
        link_words (words_in given) (words_kept given) station (links_of history) slot (has_room own here) worded octets (journal_of history) (words_next own here)
        (λ peripheral. sym (worded_response own here phases handle base here.turn.doing phased.phase on was (ap (λ (s : EndSetup). s.link.role) (sym is.setup_is) ∙ peripheral)))
        (λ pdu good. record {
          keyed = ap (λ n. keyed_on (words_in given) side ((links_of history).link_of station n) (journal_of history)) named ∙ before in_it handle base was
              ∙ ap (λ b. Some (keyed_if b slot octets base)) (sym (listened_as handle here.turn.doing) ∙ on)
              ∙ ap Some (good_keyed slot octets pdu base (sym (worded_good base worded is octets) ∙ good)
              ∙ ap (λ one. keyed_hearing base.setup.link.role slot one (facts_in base)) (sym (sym (worded_good base worded is octets) ∙ good))
              ∙ sym (worded_hearing base worded is slot octets)
              ∙ ap (λ one. keyed_hearing worded.setup.link.role slot one (facts_in worded)) good);
          gives = gives;
          turn = last_turn (length (turns_of (journal_of history))) slot (turns_are history ∙ sym phased.uses.in_turn.slot_is);
        }) more none

    of_link : (handle : ℕ) → listens_under handle here.turn.doing ≡ true → (link : OpenLink) → link_at handle (facts_on own here here.turn.doing handle).links ≡ Some link
        → (more : List Note) → All TakesNone more
        → taken_in (words_in given) (side_of station) station (journal_of history) (links_of history) (notes_taken here.turn.slot (has_room own here) (Some link) octets ++ more)
        ≡ words_if (draws_in here.turn.slot (has_room own here) (Some link) octets)
    of_link handle on link at more none = by (link_at handle here.links) refl
      where
        by : (place : Option OpenLink) → link_at handle (facts_at given station history).links ≡ place
            → taken_in (words_in given) (side_of station) station (journal_of history) (links_of history)
            (notes_taken (facts_at given station history).turn.slot (has_room (setup_at given station) (facts_at given station history)) (Some link) octets ++ more)
            ≡ words_if (draws_in (facts_at given station history).turn.slot (has_room (setup_at given station) (facts_at given station history)) (Some link) octets)
        by None was = absurd (let h : None ≡ Some link = sym (worded_none own here here.turn.doing handle was) ∙ at in absurd cc)
        by (Some base) was =
            let both : Some (link_worded own here here.turn.doing base) ≡ Some link = sym (worded_at own here here.turn.doing handle base was) ∙ at in
            let same : link_worded own here here.turn.doing base ≡ link = cc in
            subst (λ one. taken_in (words_in given) (side_of station) station (journal_of history) (links_of history)
            (notes_taken here.turn.slot (has_room own here) (Some one) octets ++ more) ≡ words_if (draws_in here.turn.slot (has_room own here) (Some one) octets)) same
            (of_base handle on base was more none)

    pub heard_words : taken_in (words_in given) (side_of station) station (journal_of history) (links_of history) (notes_after own here (PacketHeard octets))
        ≡ words_heard own here (PacketHeard octets)
    heard_words = call_words (words_in given) station (links_of history) (journal_of history) own here octets of_link

  -- what it hears, or that it hears nothing
  passed_words : (station : ℕ) (received : Option (List ℕ)) (history : List Event) (phases : ℕ) → is_in station given.stations ≡ true
      → PhasedBy given history station (at_stage (Within phases) (turns_begun history))
      → ((octets : List ℕ) → received ≡ Some octets → words_in given (side_of station) (journal_of history) ≡ words_next (setup_at given station) (facts_at given station history))
      → IsControlledBefore (words_in given) given history station (step_of received)
      → taken_in (words_in given) (side_of station) station (journal_of history) (links_of history) (notes_after (setup_at given station) (facts_at given station history) (step_of received))
      ≡ words_heard (setup_at given station) (facts_at given station history) (step_of received)
  passed_words station (Some octets) history phases in_it phased gives before = heard_words station octets history phases in_it phased (gives octets refl) before
  passed_words station None history phases in_it phased gives before =
      untaken station NothingHeard history
      (all_more HasNoData TakesNone (λ note none. none.takes) _ (unheard_plain (facts_at given station history).turn.doing (facts_at given station history))) refl

-- ---- each step of a run

module _ (heard_whole : IsHeardWhole) (understood : IsUnderstood) (taken : AreTaken) (nth : AreNth) (apart : AreApart) (given : Given) (are_two : IsOfTwo given)
    (six : HaveAddresses given) where
  -- a call, after which the run goes on
  called : (place after : Place) (station : ℕ) (call : Call) (history : List Event) → is_in station given.stations ≡ true
      → AreWords given place history → (draws_in_call call ≡ true → IsConnected given history station)
      → (GivesWordsIn given (words_in given) (after_call given station call history) → AreControlledAt (words_in given) given after (after_call given station call history))
      → ((draws_in_call call ≡ true → IsWorded given history station) → IsControlledBefore (words_in given) given history station call
      → taken_in (words_in given) (side_of station) station (journal_of history) (links_of history) (notes_after (setup_at given station) (facts_at given station history) call)
      ≡ words_heard (setup_at given station) (facts_at given station history) call)
      → AreWords given after (after_call given station call history)
  called place after station call history in_it has connected controls takes =
      let setup = setup_at given station in
      let facts = facts_at given station history in
      let notes = notes_after setup facts call in
      let later = after_call given station call history in
      let gives = λ (draws : draws_in_call call ≡ true). worded_now given are_two station in_it history (has.drawn station in_it) (connected draws) in
      let each = each_called (WordsBefore given) station call notes history has.each gives (λ before note. tt) in
      let controlled = controls (gives_of given later each) in
      let front = front_at given after later controlled.seen.known.front in
      let before = each_at (ControlBefore (words_in given) given) later history (map (Noted station) notes) (Called station call) controlled.each refl in record {
        controlled = controlled;
        each = each;
        drawn = all_drawn given are_two station call history front.rest in_it front.at (takes gives before) has.drawn;
      }

  -- no PDU is taken in it, and no words are drawn for the end of a link
  still_called : (place after : Place) (station : ℕ) (call : Call) (history : List Event) → is_in station given.stations ≡ true
      → AreWords given place history → draws_in_call call ≡ false
      → (GivesWordsIn given (words_in given) (after_call given station call history) → AreControlledAt (words_in given) given after (after_call given station call history))
      → All TakesNone (notes_after (setup_at given station) (facts_at given station history) call) → words_heard (setup_at given station) (facts_at given station history) call ≡ 0
      → AreWords given after (after_call given station call history)
  still_called place after station call history in_it has none controls untakes unheard =
      called place after station call history in_it has (λ draws. absurd (let h : true ≡ false = sym draws ∙ none in absurd cc)) controls
      (λ gives before. untaken given are_two station call history untakes unheard)

  pub words_steps : IsKept given (AreWords given)
  words_steps =
      let sees = controls_so_far (words_in given) heard_whole understood taken nth apart given are_two six in
      let distinct = are_distinct given are_two in record {
        on_turn = λ slot plan history begun at has.
            let event = TurnBegan slot (map plan.radio_of given.stations) in
            let each = each_event (WordsBefore given) history event has.each tt in record {
              controlled = sees.on_turn slot plan history begun at (λ so. has.controlled) (gives_of given (history ++ event ∷ []) each);
              each = each;
              drawn = λ station in_it. event_drawn given station history event (event_past station history event refl) refl (has.drawn station in_it);
            };
        on_feed = λ plan done left station history are some now has.
            let octets = take (plan.feed_of station) (octets_left given station history) in
            let in_it = among given.stations done left station are in
            let place = AtFeeds (done ++ station ∷ []) left in
            let before = AtFeeds done (station ∷ left) in
            let after = after_feed given station octets history in
            let known = has.controlled.seen.known in
            let known_after = (known_kept understood taken given are_two six).on_feed plan done left station history are some now known in
            let front = front_at given place after known_after.front in
            let rests = (at_turn given before history has.controlled.seen.holds.hearing.stand station in_it).does in
            let fed = feed_fed given are_two station octets history front.rest in_it front.at (record {
              each = has.each;
              drawn = has.drawn;
              connected = known.asked.counted.at station in_it ∙ ap (λ doing. connects_sent station history + pending doing) rests
                  ∙ no_more (connects_sent station history) 0 refl;
            }) in record {
              controlled = sees.on_feed plan done left station history are some now (λ so. has.controlled) (gives_of given after fed.each);
              each = fed.each;
              drawn = fed.drawn;
            };
        on_fed = λ history has. record { controlled = sees.on_fed history (λ so. has.controlled) (gives_of given history has.each); each = has.each; drawn = has.drawn };
        on_begin = λ slot plan done left station history are due has.
            let on = plan.radio_of station in
            still_called (AtBegins done (station ∷ left)) (AtBegins (done ++ station ∷ []) left) station (TurnBegins slot on) history (among given.stations done left station are) has refl
            (sees.on_begin slot plan done left station history are due (λ so. has.controlled))
            (begin_noted TakesNone none_taken (setup_at given station) slot on (facts_at given station history)) refl;
        on_begun = λ history has. record { controlled = sees.on_begun history (λ so. has.controlled) (gives_of given history has.each); each = has.each; drawn = has.drawn };
        on_phase = λ phases history few has.
            record { controlled = sees.on_phase phases history few (λ so. has.controlled) (gives_of given history has.each); each = has.each; drawn = has.drawn };
        on_silence = λ phases done left station history are none has. record {
          controlled = sees.on_silence phases done left station history are none (λ so. has.controlled) (gives_of given history has.each);
          each = has.each;
          drawn = has.drawn;
        };
        on_packet = λ phases plan done left station channel octets history are some due has.
            let hearings = hearings_of given plan.fates station channel octets history in
            let event = Transmitted station channel octets hearings in
            let is_too = among given.stations done left station are in
            let each = each_event (WordsBefore given) history event has.each tt in record {
              controlled = sees.on_packet phases plan done left station channel octets history are some due (λ so. has.controlled) (gives_of given (history ++ event ∷ []) each);
              each = each;
              drawn = λ other in_it. packet_drawn given are_two other station channel octets hearings (hearing_of given plan.fates station channel octets history) history in_it is_too
                  (one_hearing given are_two plan.fates station channel octets history is_too) (has.drawn other in_it);
            };
        on_air = λ phases history has.
            record { controlled = sees.on_air phases history (λ so. has.controlled) (gives_of given history has.each); each = has.each; drawn = has.drawn };
        on_hearing = λ phases done left station history are some has.
            let received = packet_received station history in
            let in_it = among given.stations done left station are in
            let before = AtListening phases done (station ∷ left) in
            let out = not_before given.stations done left station distinct are in
            let phased =
            subst (λ b. PhasedBy given history station (if b then at_stage (Within (suc phases)) (turns_begun history) else at_stage (Within phases) (turns_begun history))) out
            (phased_at given before history has.controlled.seen.holds.hearing.stand station in_it) in
            let counted = has.controlled.seen.known.asked.counted.at station in_it in
            let doing = (facts_at given station history).turn.doing in
            called before (AtListening phases (done ++ station ∷ []) left) station (step_of received) history in_it has
            (λ draws. counted ∙ ap (λ b. connects_sent station history + (if b then pending doing else 0)) out ∙ no_more (connects_sent station history) 0 refl)
            (sees.on_hearing phases done left station history are some (λ so. has.controlled))
            (λ gives controls. passed_words given are_two station received history phases in_it phased (λ octets is. (gives (ap draws_in_call (ap step_of is))).words_are) controls);
        on_heard = λ phases history has.
            record { controlled = sees.on_heard phases history (λ so. has.controlled) (gives_of given history has.each); each = has.each; drawn = has.drawn };
        on_phases = λ history has.
            record { controlled = sees.on_phases history (λ so. has.controlled) (gives_of given history has.each); each = has.each; drawn = has.drawn };
        on_end = λ done left station history are some has.
            still_called (AtEnds done (station ∷ left)) (AtEnds (done ++ station ∷ []) left) station TurnEnds history (among given.stations done left station are) has refl
            (sees.on_end done left station history are some (λ so. has.controlled))
            (end_noted TakesNone none_taken.starts.feeds (setup_at given station) (facts_at given station history)) refl;
        on_ended = λ history has. record { controlled = sees.on_ended history (λ so. has.controlled) (gives_of given history has.each); each = has.each; drawn = has.drawn };
      }

-- as a run begins nothing is drawn
first_drawn : (given : Given) (station : ℕ) → IsDrawn given [] station
unfolding journal_of commands_accepted words_answered connects_sent
first_drawn given station = drawn_first (list_at given (side_of station)) (side_of station)

pub words_first : (given : Given) → AreWords given NoTurn []
words_first given = record { controlled = controls_first (words_in given) given; each = tt; drawn = λ station in_it. first_drawn given station }
