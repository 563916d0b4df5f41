-- A peripheral that takes a good packet answers by the lines of the call where its controller does.
use Rattle.std.proofs.Common.{◌≡◌, ℕ, suc, ◌&&◌, not, Bool, true, false, Option, Some, None, List, [], ◌∷◌, ◌++◌, map, cond, refl, sym, ap, subst, ◌∙◌, append_assoc, if◌then◌else◌}
use Rattle.std.specs.Prelude.{All, is_some}
use Rattle.std.specs.List.{AllByRecursion}
use Rattle.std.specs.Option.{option_map}
use Rattle.std.proofs.lemmas.Bool.{eq-eqb}
use Rattle.std.proofs.lemmas.List.{append_cancel_left}
use Rattle.std.proofs.lemmas.List.Elements.{All-append}
use Rattle.ble_base.specs.declared.notes.Note.{Note}
use Rattle.ble_base.specs.declared.notes.Note.TheVariants.{Took}
use Rattle.ble_base.specs.declared.roles.Role.TheVariants.{Peripheral}
use Rattle.ble_base.specs.declared.roles.Side.{Side}
use Rattle.data_pdu.specs.Header.{header_in}
use Rattle.journal_wants.specs.controller_model.declared.doing.Doing.{Doing}
use Rattle.journal_wants.specs.controller_model.declared.doing.Doing.TheVariants.{PeripheralListens}
use Rattle.journal_wants.specs.controller_model.Events.{notes_of_events}
use Rattle.journal_wants.specs.controller_model.Facts.{Facts, Setup}
use Rattle.journal_wants.specs.controller_model.Heard.{events_received, facts_with_words, has_room, heard, link_heard, notes_taken, reply_if}
use Rattle.journal_wants.specs.controller_model.Heard.{replies_in}
use Rattle.journal_wants.specs.controller_model.Outcome.{Outcome, notes_passed}
use Rattle.journal_wants.specs.controller_model.Packets.{notes_doing, verdict_doing, verdict_of, verdict_of_link}
use Rattle.journal_wants.specs.controller_model.Side.{notes_after}
use Rattle.journal_wants.specs.controller_model.Step.{PacketHeard, Step}
use Rattle.journal_wants.specs.controller_model.host_view.Links.{was_encrypted}
use Rattle.journal_wants.specs.journal_acks.Exchange.{is_number}
use Rattle.journal_wants.specs.journal_acks.link_calls.Phases.{link_worded}
use Rattle.journal_wants.specs.journal_controls.Hearing.{keyed_hearing, keyed_if, keyed_next}
use Rattle.journal_wants.specs.journal_controls.SaidLines.{NoneOpens, moved_by}
use Rattle.journal_wants.specs.journal_controls.Withheld.{Withheld}
use Rattle.journal_wants.specs.journal_controls.journal_ends.Asked.{Words}
use Rattle.journal_wants.specs.journal_controls.journal_ends.GivenWords.{AreKept, GivesWords}
use Rattle.journal_wants.specs.journal_controls.journal_ends.run_laws.Ends.{link_listened}
use Rattle.journal_wants.specs.journal_controls.link_model.Facts.{Facts as EndFacts, keyed_of}
use Rattle.journal_wants.specs.journal_controls.link_model.Packets.{good_pdu}
use Rattle.journal_wants.specs.journal_controls.link_model.Receiving.{facts_before_taking, facts_hearing, facts_received, has_ended as end_ended, received_notes, replies_by, replies_of}
use Rattle.journal_wants.specs.journal_controls.link_model.Verdicts.{pdu_of}
use Rattle.journal_wants.specs.journal_controls.link_model.keyed_control.declared.material.Response.{Response}
use Rattle.journal_wants.specs.journal_controls.open_links.OpenLinks.{OpenLink, facts_in, link_at}
use Rattle.journal_wants.specs.journal_data.Held.{links_open}
use Rattle.journal_wants.specs.journal_data.HostLines.{link_under}
use Rattle.journal_wants.specs.journal_links.LinkLines.{line_of}
use Rattle.journal_wants.specs.journal_sending.journal_leaving.Hearing.{leaving_hearing, leaving_if, leaving_next}
use Rattle.journal_wants.specs.journal_sending.journal_leaving.Said.{leaving_said}
use Rattle.journal_wants.specs.run_model.History.{Called, Event, Noted, is_good, past_of, turns_begun}
use Rattle.journal_wants.specs.run_model.Journal.{journal_of, side_of}
use Rattle.journal_wants.specs.run_model.LinkEnds.{HaveAddresses}
use Rattle.journal_wants.specs.run_model.Run.{Given, after_call, facts_at, history_of, run_of, setup_at}
use Rattle.journal_wants.specs.Setups.{setups_of}
use Rattle.journal_wants.specs.Station.{Setups}
use Rattle.journal_wants.proofs.controller_model.Handles.{HaveOwnHandles, own_handles}
use Rattle.journal_wants.proofs.journal_acks.Exchanging.{map_both, number_at}
use Rattle.journal_wants.proofs.journal_acks.Standing.{PhasedBy, phased_at}
use Rattle.journal_wants.proofs.journal_acks.TwoStations.{IsOfTwo}
use Rattle.journal_wants.proofs.journal_acks.Worded.{worded_here}
use Rattle.journal_wants.proofs.journal_acks.link_calls.CallNotes.{TakesNone, doing_noted, events_noted, none_taken}
use Rattle.journal_wants.proofs.journal_acks.run_laws.DistinctAccess.{AreApart}
use Rattle.journal_wants.proofs.journal_acks.run_laws.LinkPhases.{HasRole, IsInPhase}
use Rattle.journal_wants.proofs.journal_acks.run_laws.TurnPlaces.{Within, at_stage}
use Rattle.journal_wants.proofs.journal_data.FewLinks.{HaveFewLinks}
use Rattle.journal_wants.proofs.journal_data.EachLine.{lines_at as data_lines_at, numbers_at}
use Rattle.journal_wants.proofs.journal_data.HeldLinks.{under_is}
use Rattle.journal_wants.proofs.journal_data.Openness.{is_open as is_open_under}
use Rattle.journal_wants.proofs.journal_data.open_links.Handles.{handle_is}
use Rattle.journal_wants.proofs.journal_leaving.EventMoves.{IsMoving, leaving_at, part_moving}
use Rattle.journal_wants.proofs.journal_leaving.LinkLeaves.{worded_leaving}
use Rattle.journal_wants.proofs.journal_leaving.RunLeavings.{left_before_call}
use Rattle.journal_wants.proofs.journal_leaving.journal_controls.EventMoves.{drawn_at, keyed_at, turn_at, withholds_at}
use Rattle.journal_wants.proofs.journal_leaving.journal_controls.GoodPackets.{good_has, good_keyed}
use Rattle.journal_wants.proofs.journal_leaving.journal_controls.KeptControls.{turn_is}
use Rattle.journal_wants.proofs.journal_leaving.journal_controls.LinkMoves.{worded_hearing}
use Rattle.journal_wants.proofs.journal_leaving.journal_controls.PassedControls.{worded_response}
use Rattle.journal_wants.proofs.journal_leaving.journal_controls.RunControls.{control_of, keyed_before_call}
use Rattle.journal_wants.proofs.journal_leaving.journal_controls.host_answers.LineAnswers.{IsQuiet, turn_quiet}
use Rattle.journal_wants.proofs.journal_leaving.journal_ends.SeenEvents.{lines_at}
use Rattle.journal_wants.proofs.journal_leaving.journal_ends.WordedLinks.{IsWordedAs, worded_as, worded_good}
use Rattle.journal_wants.proofs.journal_leaving.link_model.Hearing.{IsHeardWhole}
use Rattle.journal_wants.proofs.journal_links.OfTwo.{are_distinct}
use Rattle.journal_wants.proofs.journal_packets.AccessOrder.{AreNth}
use Rattle.journal_wants.proofs.run_model.LinkEnds.{AreTaken, IsUnderstood}
use Rattle.journal_wants.proofs.run_model.OfStations.{OfStations, run_of_stations}
use Rattle.journal_wants.proofs.run_model.Places.{each_at}
use Rattle.journal_wants.proofs.run_model.Stations.{among, not_before}
use Rattle.journal_wants.proofs.run_model.Walk.{AtListening}
use Rattle.journal_moves.specs.Doing.{after_taking, answer_unless, ended_under, has_ended as lines_ended, peripheral_answers}
use Rattle.journal_moves.proofs.EndedEnds.{ArePlain, IsTakenIn, Taken, Untaken, ended_by, ended_in, ended_then, taken_in}
use Rattle.journal_moves.proofs.FarAnswers.{still_answers}
use Rattle.journal_moves.proofs.HearingPlaces.{place_of_heard}
use Rattle.journal_moves.proofs.SaidDoings.{IsKnownCall}
use Rattle.journal_moves.proofs.SaidLines.{said_at}
use Rattle.journal_moves.proofs.TakingCalls.{AreOfTaking, begun_said, later_of, plain_takes, plain_taking, taken_said, taking_lines, taking_open, untaken_said}

-- ---- small steps

first_all : (P : Note → Type 0) (notes more : List Note) → AllByRecursion P (notes ++ more) → AllByRecursion P notes
first_all P [] more all = tt
first_all P (note ∷ notes) more all = (all.0, first_all P notes more all.1)

call_split : (station : ℕ) (step : Step) (before : List Event) (notes more : List Note)
    → before ++ Called station step ∷ map (Noted station) (notes ++ more)
    ≡ (before ++ Called station step ∷ map (Noted station) notes) ++ map (Noted station) more
call_split station step before notes more =
    ap (λ xs. before ++ Called station step ∷ xs) (map_both station notes more)
    ∙ sym (append_assoc before (Called station step ∷ map (Noted station) notes) (map (Noted station) more))

reply_is : (ended : Bool) (pdu : List ℕ) (handle : ℕ)
    → reply_if (is_some (Some pdu) && not ended) handle ≡ answer_unless ended handle
reply_is true pdu handle = refl
reply_is false pdu handle = refl

-- ---- a station that hears a good packet as a peripheral

module _ (words : Words) (given : Given) (station : ℕ) (before : List Event) (octets pdu : List ℕ) (handle : ℕ)
    (link : OpenLink)
    (does : (facts_at given station before).turn.doing ≡ PeripheralListens handle)
    (is_open : link_at handle (facts_at given station before).links ≡ Some link)
    (role : link.setup.link.role ≡ Peripheral)
    (good : good_pdu link.setup (facts_in link) octets ≡ Some pdu)
    (drawn : drawn_at words (side_of station) before
    ≡ (facts_in (link_worded (setup_at given station) (facts_at given station before)
    (PeripheralListens handle) link)).encryption.response)
    (slot_is : turn_at before ≡ (facts_at given station before).turn.slot) (kept : AreKept words)
    (keyed : keyed_at words (number_at station handle before) (side_of station) before
    ≡ Some (keyed_next handle (facts_at given station before) (PacketHeard octets) link))
    (left : leaving_at words (number_at station handle before) (side_of station) before
    ≡ Some (leaving_next handle (facts_at given station before) (PacketHeard octets) link))
    (under : link_under handle (links_open (side_of station) (journal_of before))
    ≡ Some (number_at station handle before)) where
  abbrev setup : Setup
  setup = setup_at given station

  abbrev facts : Facts
  facts = facts_at given station before

  abbrev side : Side
  side = side_of station

  abbrev number : ℕ
  number = number_at station handle before

  abbrev step : Step
  step = PacketHeard octets

  abbrev slot : ℕ
  slot = facts.turn.slot

  abbrev room : Bool
  room = has_room setup facts

  -- as it is given words before
  abbrev worded : Facts
  worded = facts_with_words setup handle facts

  abbrev there : OpenLink
  there = link_worded setup facts (PeripheralListens handle) link

  abbrev end : EndFacts
  end = facts_in there

  abbrev response : Response
  response = end.encryption.response

  abbrev withheld : Withheld
  withheld = withholds_at side before

  words_are : IsWordedAs link there
  words_are = worded_as setup facts (PeripheralListens handle) link

  there_at : link_at handle worded.links ≡ Some there
  there_at = worded_here true setup handle facts (Some link) is_open

  there_good : good_pdu there.setup end octets ≡ Some pdu
  there_good = worded_good link there words_are octets ∙ good

  -- as the packet reached the end, and as it took the PDU
  abbrev now : EndFacts
  now = facts_before_taking there.setup.link.role slot (header_in pdu) end

  abbrev heard_end : EndFacts
  heard_end = facts_hearing there.setup.link.role slot room (header_in pdu) (pdu_of pdu) end

  listens : is_number (link_listened facts.turn.doing) handle ≡ true
  listens = ap (λ doing. is_number (link_listened doing) handle) does ∙ eq-eqb handle handle refl

  keyed_now : keyed_at words number side before ≡ Some (keyed_of now)
  keyed_now =
      keyed
      ∙ ap (λ on. Some (keyed_if on slot octets link)) listens
      ∙ ap Some (good_keyed slot octets pdu link good
      ∙ ap (λ one. keyed_hearing link.setup.link.role slot one (facts_in link)) (sym good)
      ∙ sym (worded_hearing link there words_are slot octets)
      ∙ ap (λ one. keyed_hearing there.setup.link.role slot one end) there_good)

  left_now : leaving_at words number side before ≡ Some now.leaving
  left_now =
      left
      ∙ ap (λ on. Some (leaving_if on slot octets link)) listens
      ∙ ap Some (sym (worded_leaving link there words_are slot octets)
      ∙ ap (λ one. leaving_hearing there.setup.link.role slot one end) there_good)

  -- ---- its notes

  abbrev received : List Note
  received = received_notes there.setup slot room (Some pdu) end

  abbrev outcome : Outcome
  outcome = link_heard setup handle octets worded

  abbrev told : List Note
  told =
      notes_of_events worded.view
      (events_received (was_encrypted handle worded.view.links) handle slot room (link_at handle worded.links) octets)

  abbrev later : List Note
  later = told ++ notes_doing outcome.next outcome.facts

  notes_are : notes_after setup facts step ≡ received ++ later
  notes_are =
      ap (λ doing. notes_passed (heard setup doing octets facts)) does
      ∙ append_assoc (notes_taken slot room (link_at handle worded.links) octets) told
      (notes_doing outcome.next outcome.facts)
      ∙ ap (λ found. notes_taken slot room found octets ++ later) there_at
      ∙ ap (λ one. received_notes there.setup slot room one end ++ later) there_good

  later_takes : All TakesNone later
  later_takes =
      All-append TakesNone told (notes_doing outcome.next outcome.facts)
      (events_noted TakesNone none_taken.starts.feeds worded.view _)
      (doing_noted TakesNone none_taken.sent outcome.next outcome.facts)

  next_is : (heard setup (PeripheralListens handle) octets facts).next ≡ answer_unless (end_ended heard_end) handle
  unfolding replies_of
  next_is =
      ap (λ found. reply_if (replies_in slot room found octets) handle) there_at
      ∙ ap (λ one. reply_if
      (replies_by there.setup.link.role (end_ended (facts_received there.setup.link.role slot room one end)) one)
      handle) there_good
      ∙ ap (λ one. reply_if (replies_by one (end_ended heard_end) (Some pdu)) handle) role
      ∙ reply_is (end_ended heard_end) pdu handle

  -- ---- before its lines, and after that of the PDU

  abbrev ended_at : List Event → Bool
  ended_at history =
      ended_under words side (journal_of history) (link_under handle (links_open side (journal_of history)))

  ended_before : ended_at before ≡ ended_by (keyed_of now) now.leaving
  ended_before =
      ap (ended_under words side (journal_of before)) under
      ∙ (λ i. lines_ended (control_of words side number (journal_of before) (keyed_of now) keyed_now i) (left_now i))

  module _ (first more : List Note) (are : received ≡ first ++ more) (taking : AreOfTaking handle first)
      (plain : ArePlain handle more) where
    abbrev cut : List Event
    cut = before ++ Called station step ∷ map (Noted station) first

    parts : notes_after setup facts step ≡ first ++ (more ++ later)
    parts = notes_are ∙ ap (λ xs. xs ++ later) are ∙ append_assoc first more later

    moving : IsMoving words (drawn_at words side before) number side before cut
    moving =
        part_moving words given number side station step first (more ++ later) before kept parts
        (first_all (IsQuiet side station) first (more ++ later)
        (subst (AllByRecursion (IsQuiet side station)) parts (turn_quiet given station step before tt)))

    more_is : moving.more ≡ map (line_of side number) first
    more_is =
        append_cancel_left (lines_at number side before) moving.more (map (line_of side number) first)
        (sym moving.lines ∙ taking_lines station handle step before first taking)

    opens : NoneOpens moving.more
    opens = subst NoneOpens (sym more_is) (later_of side number handle first taking)

    keyed_cut : keyed_at words number side cut
        ≡ Some (moved_by withheld response slot (map (line_of side number) first) (keyed_of now))
    keyed_cut =
        moving.keyed (keyed_of now) opens keyed_now
        ∙ (λ i. Some (moved_by withheld (drawn i) (slot_is i) (more_is i) (keyed_of now)))

    left_cut : leaving_at words number side cut
        ≡ Some (leaving_said withheld response slot (map (line_of side number) first) (keyed_of now) now.leaving)
    left_cut =
        moving.leaving (keyed_of now) now.leaving opens keyed_now left_now
        ∙ (λ i. Some (leaving_said withheld (drawn i) (slot_is i) (more_is i) (keyed_of now) now.leaving))

    ended_cut : ended_at cut ≡ end_ended heard_end
    ended_cut =
        let lines = map (line_of side number) first in
        ap (λ links. ended_under words side (journal_of cut) (link_under handle links))
        (taking_open station handle step before first taking)
        ∙ ap (ended_under words side (journal_of cut)) under
        ∙ (λ i. lines_ended
        (control_of words side number (journal_of cut)
        (moved_by withheld response slot lines (keyed_of now)) keyed_cut i) (left_cut i))
        ∙ ended_in side number handle withheld slot room there.setup end pdu first more are plain

  -- ---- so it answers, or not

  module _ (setups : Setups)
      (said_before : said_at words setups station before
      ≡ Some (peripheral_answers words side (journal_of before) handle)) where
    abbrev said : List Event → Option Doing
    said history = said_at words setups station history

    abbrev after : List Event
    after = after_call given station step before

    abbrev Answers : List Event → Type 0
    Answers history = said history ≡ Some (answer_unless (end_ended heard_end) handle)

    -- notes of no PDU first
    said_first : (notes : List Note) → All TakesNone notes
        → said (before ++ Called station step ∷ map (Noted station) notes) ≡ said before
    said_first notes none =
        ap said (call_split station step before [] notes)
        ∙ untaken_said words setups station notes (before ++ Called station step ∷ []) none
        ∙ begun_said words setups station step before

    untaken : ArePlain handle received → Answers after
    untaken plain =
        let ended : end_ended heard_end ≡ ended_at before =
        sym (ended_in side number handle withheld slot room there.setup end pdu [] received refl plain)
        ∙ sym ended_before in
        ap (λ notes. said (before ++ Called station step ∷ map (Noted station) notes)) notes_are
        ∙ said_first (received ++ later)
        (All-append TakesNone received later (plain_takes handle received plain) later_takes)
        ∙ said_before
        ∙ ap (λ b. Some (answer_unless b handle)) (sym ended)

    taken : (earlier more : List Note) (count llid : ℕ) (body : List ℕ)
        → received ≡ earlier ++ Took handle count llid (record { items = body }) ∷ more
        → ArePlain handle earlier → ArePlain handle more → Answers after
    taken earlier more count llid body are plain plain_too =
        ap (λ notes. said (before ++ Called station step ∷ map (Noted station) notes))
        (notes_are ∙ ap (λ xs. xs ++ later) parted ∙ append_assoc first more later)
        ∙ ap said (call_split station step before first (more ++ later))
        ∙ untaken_said words setups station (more ++ later) then_on
        (All-append TakesNone more later (plain_takes handle more plain_too) later_takes)
        ∙ ap said split ∙ taken_said words setups station middle handle count llid body
        ∙ ap (λ journal. option_map (after_taking words side journal) (said middle)) (ap journal_of (sym split))
        ∙ ap (option_map (after_taking words side (journal_of then_on)))
        (said_first earlier (plain_takes handle earlier plain) ∙ said_before)
        ∙ by (ended_at before) refl
      where
        note : Note
        note = Took handle count llid (record { items = body })

        first : List Note
        first = earlier ++ note ∷ []

        parted : received ≡ first ++ more
        parted = are ∙ sym (append_assoc earlier (note ∷ []) more)

        then_on : List Event
        then_on = before ++ Called station step ∷ map (Noted station) first

        middle : List Event
        middle = before ++ Called station step ∷ map (Noted station) earlier

        split : then_on ≡ middle ++ Noted station note ∷ []
        split = call_split station step before earlier (note ∷ [])

        by : (ended : Bool) → ended_at before ≡ ended
            → Some (after_taking words side (journal_of then_on) (answer_unless (ended_at before) handle))
            ≡ Some (answer_unless (end_ended heard_end) handle)
        by true is =
            ap (λ b. Some (after_taking words side (journal_of then_on) (answer_unless b handle))) is
            ∙ sym (ap (λ b. Some (answer_unless b handle))
            (ended_then side number handle withheld slot room there.setup end pdu (sym ended_before ∙ is)))
        by false is =
            ap (λ b. Some (after_taking words side (journal_of then_on) (answer_unless b handle))) is
            ∙ ap (λ b. Some (answer_unless b handle))
            (ended_cut first more parted (plain_taking handle earlier (note ∷ []) plain (refl, tt)) plain_too)

    answers_as : HaveOwnHandles setup facts
        → said after ≡ Some (heard setup (PeripheralListens handle) octets facts).next
    answers_as own =
        by (subst (λ one. IsTakenIn one received) (handle_is 0 handle facts.links link own.handles is_open)
        (taken_in there.setup slot room pdu end))
        ∙ ap Some (sym next_is)
      where
        by : IsTakenIn handle received → Answers after
        by (Untaken plain) = untaken plain
        by (Taken earlier more count llid body are plain plain_too) =
            taken earlier more count llid body are plain plain_too

-- ---- in a run

record HearsGood (given : Given) (station : ℕ) (before : List Event) (octets : List ℕ) (handle : ℕ) : Type 0 where
  link : OpenLink
  is_open : link_at handle (facts_at given station before).links ≡ Some link
  pdu : List ℕ
  good : good_pdu link.setup (facts_in link) octets ≡ Some pdu

hears_good : (given : Given) (station : ℕ) (before : List Event) (octets : List ℕ) (handle : ℕ)
    → (facts_at given station before).turn.doing ≡ PeripheralListens handle
    → is_good (verdict_of (facts_at given station before) octets) ≡ true
    → HearsGood given station before octets handle
unfolding verdict_of
hears_good given station before octets handle does good =
    let facts = facts_at given station before in
    by (link_at handle facts.links) refl
    (ap (λ doing. is_good (verdict_doing facts.links doing octets)) (sym does) ∙ good)
  where
    by : (found : Option OpenLink) → link_at handle (facts_at given station before).links ≡ found
        → is_good (verdict_of_link (link_at handle (facts_at given station before).links) octets) ≡ true
        → HearsGood given station before octets handle
    by None at good =
        absurd (let h : true ≡ false = sym good
        ∙ ap (λ place. is_good (verdict_of_link place octets)) at in absurd cc)
    by (Some link) at good =
        let has =
        good_has link.setup (facts_in link) octets
        (ap (λ place. is_good (verdict_of_link place octets)) (sym at) ∙ good) in
        record { link = link; is_open = at; pdu = has.pdu; good = has.is }

module _ (words : Words) (whole : IsHeardWhole) (understood : IsUnderstood) (taken_too : AreTaken) (nth : AreNth)
    (apart : AreApart) (given : Given) (are_two : IsOfTwo given)
    (few_links : HaveFewLinks given) (six : HaveAddresses given) (gives : GivesWords given words)
    (eight : (station : ℕ) → (setup_at given station).host_buffers ≡ 8) where
  heard_answers : (before rest : List Event) (station : ℕ) (octets : List ℕ)
      → history_of (run_of given) ≡ before ++ Called station (PacketHeard octets) ∷ rest
      → (handle : ℕ) → (facts_at given station before).turn.doing ≡ PeripheralListens handle
      → is_good (verdict_of (facts_at given station before) octets) ≡ true
      → said_at words (setups_of given) station before
      ≡ Some (peripheral_answers words (side_of station) (journal_of before) handle)
      → said_at words (setups_of given) station (after_call given station (PacketHeard octets) before)
      ≡ Some (heard (setup_at given station) (PeripheralListens handle) octets (facts_at given station before)).next
  heard_answers before rest station octets at handle does good said =
      let step = PacketHeard octets in
      let setup = setup_at given station in
      let facts = facts_at given station before in
      let place =
      place_of_heard whole understood taken_too nth apart given are_two few_links six eight before rest station octets
      at
      in
      let in_it = among given.stations place.done place.left station place.stations_are in
      let here = hears_good given station before octets handle does good in
      let phased =
      subst (λ b. PhasedBy given before station
      (if b then at_stage (Within (suc place.phases)) (turns_begun before)
      else at_stage (Within place.phases) (turns_begun before)))
      (not_before given.stations place.done place.left station (are_distinct given are_two) place.stations_are)
      (phased_at given (AtListening place.phases place.done (station ∷ place.left)) before
      place.lines.counted.holds.hearing.stand station in_it) in
      let phase = subst (IsInPhase place.phases facts.links) does phased.phase in
      let role = subst (HasRole Peripheral) here.is_open phase.1 in
      let response =
      worded_response setup facts place.phases handle here.link (PeripheralListens handle) phase
      (eq-eqb handle handle refl) here.is_open role in
      let booked = (place.lines.are.well station in_it).booked in
      answers_as words given station before octets here.pdu handle here.link does here.is_open role here.good
      (gives.gives before rest station step refl at ∙ sym response)
      (turn_is before facts.turn.slot (sym phased.uses.in_turn.slot_is)) gives.kept
      (keyed_before_call words whole understood taken_too nth apart given are_two six gives before rest station step
      at in_it handle here.link here.is_open)
      (left_before_call words whole understood taken_too nth apart given are_two six gives before rest station step at
      in_it handle here.link here.is_open)
      (under_is setup.links (data_lines_at station before).links (numbers_at station before)
      (is_open_under facts.links) booked.links handle
      ∙ ap (λ (place : Option OpenLink). cond (is_some place) (Some (number_at station handle before)) None)
      here.is_open)
      (setups_of given) said (own_handles setup (past_of station before))

  -- what is known at each call
  pub known_calls : (before rest : List Event) (station : ℕ) (step : Step)
      → history_of (run_of given) ≡ before ++ Called station step ∷ rest
      → IsKnownCall words (setups_of given) given before station step
  known_calls before rest station step at =
      let in_it =
      each_at (OfStations given) (history_of (run_of given)) before rest (Called station step)
      (run_of_stations given) at in record {
        answers = λ octets handle is does good said.
            subst (λ one. said_at words (setups_of given) station (after_call given station one before)
            ≡ Some (heard (setup_at given station) (PeripheralListens handle) octets
            (facts_at given station before)).next)
            (sym is)
            (heard_answers before rest station octets (at ∙ ap (λ one. before ++ Called station one ∷ rest) is) handle
            does good said);
        still =
            λ other in_other differs handle. still_answers words given are_two gives.kept station step before in_it
            other in_other differs handle;
      }
