-- In every run of a pair a side takes each PDU as the first good packet brings it: the next line of the side is that it takes it.
use Rattle.std.proofs.Common.{◌≡◌, ℕ, zero, suc, ◌+◌, ◌<◌, ◌==◌, ◌&&◌, ◌||◌, not, Bool, true, false, Option, Some, None, List, [], ◌∷◌, ◌++◌, length, refl, sym, ap, subst, ◌∙◌, nat_lt}
use Rattle.std.specs.Prelude.{All, map, take, if◌then◌else◌}
use Rattle.std.proofs.lemmas.Bool.{eqb-true}
use Rattle.ack_bit.specs.Nonempty.{nonempty}
use Rattle.air_frame.specs.Hearing.{heard_in}
use Rattle.ble_base.specs.Side.{other_side}
use Rattle.ble_base.specs.declared.roles.Side.{Side}
use Rattle.ble_base.specs.declared.verdicts.Verdict.TheVariants.{Good}
use Rattle.journal.specs.declared.entries.Entry.{Entry}
use Rattle.journal.specs.declared.entries.Entry.TheVariants.{Air}
use Rattle.journal_leaving.specs.link_model.Acknowledgement.{Acknowledgement, Pdu}
use Rattle.journal_leaving.specs.link_model.Data.{is_data, is_empty, numbered}
use Rattle.journal_leaving.specs.link_model.Facts.{keyed_of}
use Rattle.journal_leaving.specs.link_model.Packets.{heard_of, pdu_sent, verdict_of}
use Rattle.journal_leaving.specs.link_model.Step.{PacketSent}
use Rattle.journal_leaving.proofs.link_model.Agreeing.{ack_ahead as sent_ack}
use Rattle.journal_leaving.proofs.link_model.Hearing.{IsHeardWhole}
use Rattle.journal_leaving.specs.journal_data.open_links.OpenLinks.{OpenLink, facts_in, link_after, link_at}
use Rattle.journal_leaving.specs.journal_acks.link_calls.Uses.{listens_under, sends_under}
use Rattle.journal_leaving.proofs.run_model.Parts.{journal_event}
use Rattle.journal_leaving.proofs.journal_data.open_links.Handles.{handle_is}
use Rattle.journal_leaving.specs.controller_model.Facts.{Facts, Sends, Listens}
use Rattle.journal_leaving.specs.controller_model.Heard.{has_room}
use Rattle.journal_leaving.specs.controller_model.Packets.{verdict_of as verdict_at}
use Rattle.journal_leaving.specs.controller_model.Side.{notes_after}
use Rattle.journal_leaving.specs.controller_model.Step.{Step, HostOctet, TurnBegins, TurnEnds}
use Rattle.journal_leaving.proofs.controller_model.DataChannels.{link_channel}
use Rattle.journal_leaving.proofs.controller_model.Sent.{sends_well}
use Rattle.radio_replay.specs.Damage.{damaged_packet}
use Rattle.radio_replay.specs.Script.{Script}
use Rattle.radio_replay.specs.declared.fates.Fate.{Fate}
use Rattle.journal_leaving.specs.run_model.Due.{Each}
use Rattle.journal_leaving.specs.run_model.Feeding.{AreDistinct}
use Rattle.journal_leaving.specs.run_model.History.{Event, TurnBegan, HostFed, Called, Noted, Transmitted, Hearing, fates_used, has_received, is_good}
use Rattle.journal_leaving.specs.run_model.History.{packet_received, past_of, turns_begun}
use Rattle.journal_leaving.specs.run_model.Journal.{air_entries, entries_of, entry_of, journal_of, mark_of, side_of}
use Rattle.journal_leaving.specs.run_model.LinkEnds.{HaveAddresses}
use Rattle.journal_leaving.specs.run_model.Links.{is_advertising, links_of}
use Rattle.journal_leaving.specs.run_model.Pair.{given_of}
use Rattle.journal_leaving.specs.run_model.Run.{Given, after_call, after_feed, after_octets, facts_at, fate_at, hearings_of, history_of, octets_left, run_of}
use Rattle.journal_leaving.specs.run_model.Run.{setup_at, step_of, unseen_in, use_at}
use Rattle.journal_leaving.proofs.run_model.EntryEvents.{is_of_event}
use Rattle.journal_leaving.proofs.run_model.LinkEnds.{AreTaken, IsUnderstood, is_listener, received_by, received_good, received_own, wanted_is}
use Rattle.journal_leaving.proofs.run_model.Places.{each_at, each_event}
use Rattle.journal_leaving.proofs.run_model.Stations.{is_in, among, in_more_other, in_more_same, not_before}
use Rattle.journal_leaving.proofs.run_model.Unseen.{good_is as is_only_good}
use Rattle.journal_leaving.proofs.run_model.Walk.{Place, NoTurn, AtFeeds, AtBegins, AfterPhases, AtPackets, AtListening, AtEnds, IsKept, IsStopped, IsWhole}
use Rattle.journal_leaving.proofs.run_model.Walk.{ends_with, run_kept}
use Rattle.journal_leaving.specs.journal_data.run_laws.Ends.{HaveOneConnectInd}
use Rattle.journal_leaving.specs.journal_data.run_laws.Ranges.{IsReadable}
use Rattle.journal_leaving.specs.journal_data.run_laws.Shapes.{AgreeInShape}
use Rattle.journal_leaving.proofs.journal_data.run_laws.Agreed.{AgreeIn, ack_of, ack_sent}
use Rattle.journal_leaving.proofs.journal_data.run_laws.DistinctAccess.{AreApart}
use Rattle.journal_leaving.proofs.journal_data.run_laws.Hearings.{other_facts}
use Rattle.journal_leaving.proofs.journal_data.run_laws.InAgreement.{WithAllIn, differs_back}
use Rattle.journal_leaving.proofs.journal_data.run_laws.OpenSteps.{open_has}
use Rattle.journal_leaving.proofs.journal_data.run_laws.Pieces.{sent_readable}
use Rattle.journal_leaving.proofs.journal_data.run_laws.TurnPlaces.{Within}
use Rattle.journal_leaving.specs.journal_links.Begun.{link_numbered}
use Rattle.journal_leaving.specs.journal_packets.Belonging.{is_side, link_of_packet}
use Rattle.journal_leaving.specs.journal_packets.Senders.{IsOfSendersLink}
use Rattle.journal_leaving.proofs.journal_packets.AccessOrder.{AreNth}
use Rattle.journal_leaving.proofs.journal_packets.SoFar.{IsBelongingSoFar}
use Rattle.journal_leaving.specs.journal_acks.Carried.{carried_of}
use Rattle.journal_leaving.specs.journal_acks.Counted.{IsCounted}
use Rattle.journal_leaving.specs.journal_acks.Exchange.{with_sent}
use Rattle.journal_leaving.proofs.journal_acks.AirCounts.{one_number, sender_counted}
use Rattle.journal_leaving.proofs.journal_acks.link_calls.InRange.{sent_ranges}
use Rattle.journal_leaving.proofs.journal_acks.link_calls.CallNotes.{TakesNone, begin_noted, end_noted, none_taken, octet_noted}
use Rattle.journal_leaving.proofs.journal_acks.Counting.{AreKnown, facts_event, one_begun}
use Rattle.journal_leaving.proofs.journal_acks.Exchanging.{exchange_at, number_at, number_other, number_sent as sent_number}
use Rattle.journal_leaving.proofs.journal_acks.FixedPdus.{sent_out}
use Rattle.journal_leaving.proofs.journal_acks.HandedOn.{IsHandedOn, WasForged, WasGood, WasNone, handed_on}
use Rattle.journal_leaving.proofs.journal_acks.KeptCounts.{AreCountedAt, unsent}
use Rattle.journal_leaving.proofs.journal_acks.Known.{known_of}
use Rattle.journal_leaving.proofs.journal_acks.link_calls.LinkPhases.{IsPhased}
use Rattle.journal_leaving.proofs.journal_acks.Standing.{listener_sends, listens_wanted, other_listens, phased_at}
use Rattle.journal_leaving.proofs.journal_acks.TwoStations.{IsListening, IsOfTwo, hearing_of, judged, link_listens, one_hearing, other_apart, other_is}
use Rattle.journal_leaving.proofs.journal_acks.TwoStations.{other_of, other_received, own_differs, same_number, side_other, side_same, unchanged}
use Rattle.journal_leaving.specs.journal_data.Lines.{PduLine}
use Rattle.journal_leaving.proofs.journal_data.Arriving.{lines_length}
use Rattle.journal_leaving.proofs.journal_data.Ends.{sound}
use Rattle.journal_leaving.proofs.journal_data.KeptData.{other_in}
use Rattle.journal_leaving.proofs.journal_data.FewLinks.{HaveFewLinks}
use Rattle.journal_leaving.proofs.journal_data.OneCall.{far_side}
use Rattle.journal_fixing.specs.journal_controls.LineSteps.{keyed_on}
use Rattle.journal_fixing.proofs.journal_controls.KeptControls.{AreControlled, packet_whole}
use Rattle.journal_sending.specs.Announced.{last_number_sent, pdu_line_if, side_of_line}
use Rattle.journal_hosts.specs.HostFlow.{has_room_on}
use Rattle.journal_sending.specs.Pending.{AllAreTakenAtOnce, body_heard, body_on, body_read, has_left, is_done_on, last_number_taken, pdu_read_of, pending_pdu, taken_pdu, untaken_pdu}
use Rattle.journal_sending.proofs.PendingLines.{IsSpent, IsTakenEvent, air_pending, call_other, call_own, call_taken, fed_other, fed_own, first_taken, pending_at, same_taken, spends_none, turn_pending}
use Rattle.journal_sending.proofs.TakenPdus.{body_is, forged_none, hears_whole, left_hearing, pdu_read, phase_fits, taken_as, taken_is_new, unheard_none}
use Rattle.journal_sending.proofs.ToldInRuns.{note_side}
use Rattle.journal_leaving.specs.Leaving.{leaving_on, leaving_sent_if}
use Rattle.journal_leaving.proofs.KeptLeavings.{AreLeftAt, leavings_first, leavings_kept}
use Rattle.journal_leaving.proofs.LeavingEnds.{AreLeftSo, and_none, left_taking}
use Rattle.journal_sending.proofs.Together.{IsKnownAt, known_first, known_kept}
use Rattle.journal_sending.proofs.WaitingPieces.{room_is}
use Rattle.journal_fixing.specs.journal_controls.journal_ends.Asked.{Words}
use Rattle.journal_fixing.specs.journal_controls.journal_ends.GivenWords.{GivesWords}

-- ---- what a station is to take

-- the PDU that its call of the phase takes
abbrev to_take : Given → ℕ → List Event → Option PduLine
to_take given station history =
    first_taken ((links_of history).link_of station)
    (notes_after (setup_at given station) (facts_at given station history) (step_of (packet_received station history)))

same_to_take : (given : Given) (station : ℕ) (history after : List Event) (received : Option (List ℕ)) → facts_at given station after ≡ facts_at given station history
    → packet_received station after ≡ received → ((handle : ℕ) → number_at station handle after ≡ number_at station handle history)
    → to_take given station after
    ≡ first_taken ((links_of history).link_of station) (notes_after (setup_at given station) (facts_at given station history) (step_of received))
same_to_take given station history after received facts heard numbers =
    (λ i. first_taken ((links_of after).link_of station) (notes_after (setup_at given station) (facts i) (step_of (heard i))))
    ∙ same_taken ((links_of after).link_of station) ((links_of history).link_of station)
    (notes_after (setup_at given station) (facts_at given station history) (step_of received)) numbers

-- two lines are alike where their PDUs are, if there is a line
line_alike : (more empty fits left : Bool) (number count : ℕ) (one other : Pdu) → (more ≡ true → empty ≡ false → one ≡ other)
    → pdu_line_if (more && not empty && fits && not left) number count one ≡ pdu_line_if (more && not empty && fits && not left) number count other
line_alike true false fits left number count one other same = ap (pdu_line_if (true && true && fits && not left) number count) (same refl refl)
line_alike true true fits left number count one other same = refl
line_alike false empty fits left number count one other same = refl

-- ---- a packet is on the air

module _ (words : Words) (whole : IsHeardWhole) (given : Given) (Q : Place → List Event → Type 0) (known : AreKnown given Q) (are_two : IsOfTwo given) (few_links : HaveFewLinks given)
    (six : HaveAddresses given) (distinct : AreDistinct given.stations) (eight : (station : ℕ) → (setup_at given station).host_buffers ≡ 8)
    (air : (station : ℕ) → (setup_at given station).air_buffers ≡ 8)
    (phases : ℕ) (done left : List ℕ) (station channel : ℕ) (octets : List ℕ) (fates : List Fate) (history : List Event)
    (are : given.stations ≡ done ++ station ∷ left) (wanted : use_at given station history ≡ Sends channel octets)
    (is : IsKnownAt given Q (AtPackets phases done (station ∷ left)) history)
    (seen : unseen_in octets (hearings_of given fates station channel octets history) ≡ None) where
  abbrev facts : ℕ → Facts
  facts one = facts_at given one history

  abbrev here : Place
  here = AtPackets phases done (station ∷ left)

  abbrev front : List Entry
  front = journal_of history

  abbrev hearing : Hearing
  hearing = hearing_of given fates station channel octets history

  abbrev hearings : List Hearing
  hearings = hearings_of given fates station channel octets history

  abbrev event : Event
  event = Transmitted station channel octets hearings

  abbrev after : List Event
  after = history ++ event ∷ []

  -- its line, and the entries up to it
  abbrev line : Entry
  line = Air (side_of station) channel octets (mark_of hearing.fate) hearing.verdict

  abbrev up_to : List Entry
  up_to = front ++ line ∷ []

  abbrev other : ℕ
  other = other_of station

  abbrev counted : AreCountedAt given Q here history
  counted = is.lined.counts

  in_it : is_in station given.stations ≡ true
  in_it = among given.stations done left station are

  is_too : is_in other given.stations ≡ true
  is_too = other_in given are_two station in_it

  differs : (other == station) ≡ false
  differs = differs_back station other (own_differs station)

  has : hearings ≡ hearing ∷ []
  has = one_hearing given are_two fates station channel octets history in_it

  journal_then : journal_of after ≡ up_to
  journal_then = journal_event history event ∙ ap (λ xs. front ++ air_entries (side_of station) channel octets xs) has

  phased : (one : ℕ) → is_in one given.stations ≡ true → IsPhased (setup_at given one) (Within phases) (turns_begun history) (facts one)
  phased one is_one = phased_at given here history counted.holds.hearing.stand one is_one

  silent : (one : ℕ) → is_in one given.stations ≡ true → (one == station) ≡ false → packet_received one history ≡ None
  silent one is_one apart = counted.silent one station is_one in_it apart (not_before given.stations done left station distinct are)

  heard_is : has_received other hearings ≡ is_good hearing.verdict
  heard_is = ap (has_received other) has ∙ other_received other hearing (same_number other)

  received_is : is_good hearing.verdict ≡ true → packet_received other after ≡ Some octets
  received_is good = received_good given fates station channel octets history other distinct seen (heard_is ∙ good)

  facts_same : (one : ℕ) → facts_at given one after ≡ facts one
  facts_same one = facts_event given one history event refl

  other_to_take : (received : Option (List ℕ)) → packet_received other after ≡ received → to_take given other after
      ≡ first_taken ((links_of history).link_of other) (notes_after (setup_at given other) (facts other) (step_of received))
  other_to_take received got =
      same_to_take given other history after received (facts_same other) got (λ handle. sent_number other handle history station channel octets hearings)

  -- ---- the sender

  own_silent : to_take given station history ≡ None
  own_silent =
      unheard_none (setup_at given station) (facts station) ((links_of history).link_of station) (packet_received station history) (λ handle link is_open listens.
      let wants : (facts station).wanted ≡ Sends channel octets = wanted_is given station history ∙ wanted in
      let listened = listens_wanted (facts station) handle link (facts station).turn.doing listens (phased station in_it).uses.in_turn.listens is_open in
      absurd (let h : Sends channel octets ≡ Listens (facts_in link).event.channel = sym wants ∙ listened in absurd cc))

  own_to_take : to_take given station after ≡ None
  own_to_take =
      same_to_take given station history after (packet_received station history) (facts_same station)
      (received_own given fates station channel octets history)
      (λ handle. sent_number station handle history station channel octets hearings)
      ∙ own_silent

  own_pending : pending_at words station after ≡ None
  own_pending =
      air_pending words station station channel octets history hearings hearing has
      ∙ ap (λ b. if b then None else (if is_good hearing.verdict && not (is_advertising channel) then untaken_pdu words (link_of_packet front (side_of station) octets) front up_to (side_of station) channel octets
      else pending_at words station history)) (side_same station)

  -- ---- the other station hears it

  other_pending : (good on : Bool) → is_good hearing.verdict ≡ good → is_advertising channel ≡ on → pending_at words other after
      ≡ (if good && not on then untaken_pdu words (link_of_packet front (side_of station) octets) front up_to (side_of station) channel octets else pending_at words other history)
  other_pending good on good_is on_is =
      air_pending words other station channel octets history hearings hearing has
      ∙ (λ i. if far_side station i then None else (if good_is i && not (on_is i) then untaken_pdu words (link_of_packet front (side_of station) octets) front up_to (side_of station) channel octets
      else pending_at words other history))

  -- before it nothing was to be taken
  other_silent : to_take given other history ≡ None
  other_silent =
      unheard_none (setup_at given other) (facts other) ((links_of history).link_of other) (packet_received other history) (λ handle link is_open listens. silent other is_too differs)

  -- it takes nothing of a packet that is not good
  unheard : is_good hearing.verdict ≡ false → to_take given other after ≡ None
  unheard bad = by (handed_on given are_two fates station channel octets history in_it seen)
    where
      heard : List ℕ
      heard = damaged_packet hearing.fate octets

      by : IsHandedOn octets heard hearing.verdict (packet_received other history) (packet_received other after) (facts other) (use_at given other history) channel
          → to_take given other after ≡ None
      by (WasGood judged got) = absurd (let h : true ≡ false = sym (ap is_good judged) ∙ bad in absurd cc)
      by (WasForged judged got forged listens) =
          other_to_take (Some heard) got ∙ forged_none (setup_at given other) (facts other) ((links_of history).link_of other) heard forged
      by (WasNone none got) = other_to_take (packet_received other history) got ∙ other_silent

  -- a packet on an advertising channel is of no link
  advertised : is_good hearing.verdict ≡ true → is_advertising channel ≡ true → to_take given other after ≡ None
  advertised good on =
      other_to_take (Some octets) (received_is good)
      ∙ unheard_none (setup_at given other) (facts other) ((links_of history).link_of other) (Some octets) (λ handle link is_open listens.
      let got = heard_is ∙ good in
      let off = other_listens (facts other) handle channel link (phased other is_too).uses.in_turn.listens is_open
      (wanted_is given other history ∙ (is_listener given fates channel octets history station other got).listens) on in
      absurd (let h : true ≡ false = sym listens ∙ off in absurd cc))

  -- one on a data channel is of its link
  module _ (off : is_advertising channel ≡ false) (good : is_good hearing.verdict ≡ true) (awaited : ℕ → Bool)
      (leavings : AreLeftSo words given after awaited (λ one. packet_received one after)) where
    abbrev sent : IsOfSendersLink given history station channel octets
    sent = known.sends phases done left station history are counted.known channel octets wanted off

    abbrev sender : OpenLink
    sender = link_after (PacketSent sent.slot) sent.link

    abbrev number : ℕ
    number = number_at station sent.handle history

    listening : IsListening (facts other) channel octets
    listening =
        let is_judged = judged (use_at given other history) (fate_at fates (fates_used history)) channel (facts other) (damaged_packet (fate_at fates (fates_used history)) octets) good in
        let same = unchanged octets hearing (ap (unseen_in octets) (sym has) ∙ seen) good in
        link_listens (facts other) channel octets (subst (λ n. n < 37) (sym sent.channel_is) (link_channel sent.link))
        (sends_well (setup_at given other) (six other) (past_of other history)).does (phased other is_too).uses.in_turn.listens (phased other is_too).uses.scans
        (wanted_is given other history ∙ is_judged.listens) (subst (λ xs. is_good (verdict_at (facts other) xs) ≡ true) same is_judged.good)

    abbrev link : OpenLink
    link = listening.link

    -- the journal has one number for both ends
    same_link : number ≡ number_at other listening.handle history
    same_link =
        one_number whole given Q known are_two six distinct phases done left station channel octets fates history are wanted counted.known counted.holds counted.counted off
        is_too differs seen silent good listening.handle link listening.is_open listening.on

    connect_ind : HaveOneConnectInd sender.setup link.setup
    connect_ind =
        one_begun history number (number_at other listening.handle history) station other sender link same_link
        (known.begun here history counted.known station sent.handle sender in_it sent.is_open)
        (known.begun here history counted.known other listening.handle link is_too listening.is_open)

    agreed : AgreeInShape (sent_ack (facts_in sent.link)) (ack_of link)
    agreed =
        let all = known.shapes whole here history counted.known station other in_it is_too (own_differs station) in
        let each = open_has (WithAllIn AgreeInShape (facts other).links) 0 sent.handle (facts station).links sender all sent.is_open in
        subst (λ a. AgreeInShape a (ack_of link)) (ack_sent sent.slot sent.link)
        (open_has (λ (l : OpenLink). AgreeIn AgreeInShape sender l) 0 listening.handle (facts other).links link each listening.is_open connect_ind)

    -- the counts of the lines of both sides
    sent_is : last_number_sent number front (side_of station) ≡ numbered (sent_ack (facts_in sent.link)).sent
    sent_is =
        let booked = (sound given station sent.handle history sender (few_links.links station) (eight station) (is.data_is.are.well station in_it) sent.is_open).booked in
        ap length booked.sent
        ∙ lines_length number 1 (nonempty is_empty (ack_of sender).sent) ∙ ap (λ (a : Acknowledgement). numbered a.sent) (ack_sent sent.slot sent.link)

    taken_is : last_number_taken number front (other_side (side_of station)) ≡ numbered (ack_of link).accepted
    taken_is =
        let booked = (sound given other listening.handle history link (few_links.links other) (eight other) (is.data_is.are.well other is_too) listening.is_open).booked in
        ap (λ s. last_number_taken number front s) (sym (side_other station))
        ∙ ap (λ n. last_number_taken n front (side_of other)) same_link ∙ ap length booked.taken
        ∙ lines_length (number_at other listening.handle history) 1 (nonempty is_empty (ack_of link).accepted)

    carried_is : carried_of number front (side_of station) ≡ pdu_sent (facts_in sent.link)
    carried_is =
        let end = exchange_at number history (side_of station) in
        let counts : IsCounted (with_sent end) (ack_of sender) =
        sender_counted whole given Q known are_two six distinct phases done left station channel octets fates history are wanted counted.known counted.holds counted.counted off in
        let acked = counts.acked ∙ ap (λ (a : Acknowledgement). a.acked) (ack_sent sent.slot sent.link) in
        let last = (is.lined.lines station sent.handle sender in_it sent.is_open).last end.acked
        (ap (λ n. n + 1) acked ∙ sent_out sent.link ∙ ap (λ (a : Acknowledgement). length a.sent) (sym (ack_sent sent.slot sent.link))) in
        sym last ∙ ap (λ (a : Acknowledgement). a.last) (ack_sent sent.slot sent.link)

    -- there is room by the lines where there is room
    room : has_room_on (other_side (side_of station)) front ≡ has_room (setup_at given other) (facts other)
    room =
        ap (λ s. has_room_on s front) (sym (side_other station))
        ∙ room_is given other history (few_links.links other) (is.data_is.are.well other is_too) (air other)

    -- whether the listener has left the link by then
    left_is : has_left (leaving_on words (other_side (side_of station)) number up_to) ≡ (left_hearing (facts other).turn.slot link octets).acknowledged
    left_is =
        let handle = listening.handle in
        let turn = (facts other).turn in
        let then_on = facts_same other in
        let is_left = leavings other handle link is_too (ap (λ (f : Facts). link_at handle f.links) then_on ∙ listening.is_open) in
        let leaves : is_left.leaving ≡ left_hearing turn.slot link octets =
        ap (λ b. leaving_sent_if b is_left.leaving)
        (sym (ap (λ (f : Facts). awaited other && sends_under handle f.turn.doing) then_on ∙ ap (λ b. awaited other && b) (listener_sends handle turn.doing listening.on) ∙ and_none (awaited other)))
        ∙ is_left.is ∙ (λ i. left_taking (listens_under handle (then_on i).turn.doing) (received_is good i) (then_on i).turn.slot link)
        ∙ ap (λ b. left_taking b (Some octets) turn.slot link) listening.on in
        let on : leaving_on words (side_of other) number up_to ≡ Some (left_hearing turn.slot link octets) =
        (λ i. leaving_on words (side_of other) ((same_link ∙ sym (sent_number other handle history station channel octets hearings)) i) (sym journal_then i)) ∙ is_left.on ∙ ap Some leaves in
        ap (λ s. has_left (leaving_on words s number up_to)) (sym (side_other station)) ∙ ap has_left on

    number_is : number_at other link.setup.link.handle history ≡ number
    number_is =
        ap (λ h. number_at other h history) (handle_is 0 listening.handle (facts other).links link (counted.holds.so_far.last.each other is_too).own.handles listening.is_open)
        ∙ sym same_link

    readable : IsReadable (facts_in sent.link)
    readable = sent_readable sent.link (sent_ranges true sent.slot sent.link (known.ranges here history counted.known station sent.handle sender in_it sent.is_open))

    on_channel : (facts_in sent.link).event.channel ≡ (facts_in link).event.channel
    on_channel = sym sent.channel_is ∙ listening.channel_is

    judged_good : verdict_of link.setup (facts_in link) octets ≡ Good
    judged_good = is_only_good (verdict_of link.setup (facts_in link) octets) listening.good

    -- the PDU that the listener reads
    abbrev taken_pdu_is : Pdu
    taken_pdu_is = pdu_read whole (facts other).turn.slot link sent.link octets readable connect_ind.fields sent.packet on_channel judged_good

    -- that is the one that the lines give, where it is new and not empty
    read_is : AreControlled words given history → nat_lt (numbered (ack_of link).accepted) (numbered (sent_ack (facts_in sent.link)).sent) ≡ true
        → is_empty (pdu_sent (facts_in sent.link)) ≡ false → pdu_read_of words number front (side_of station) channel octets ≡ taken_pdu_is
    read_is controls more some =
        let begun = known.begun here history counted.known other listening.handle link is_too listening.is_open in
        let begun_is : link_numbered number front ≡ Some begun.link = ap (λ n. link_numbered n front) same_link ∙ begun.is_link in
        let keyed_is : keyed_on words (other_side (side_of station)) number front ≡ Some (keyed_of (facts_in link)) =
        (λ i. keyed_on words (sym (side_other station) i) (same_link i) front) ∙ controls other is_too listening.handle link listening.is_open in
        let hears : heard_in channel begun.link.fields.access begun.link.fields.crc_init octets ≡ heard_of link.setup (facts_in link) octets =
        λ i. heard_in (listening.channel_is i) (begun.fields i).access (begun.fields i).crc_init octets in
        let new = taken_is_new (facts_in sent.link) (ack_of link) agreed more in
        let bodies : body_on words number front (other_side (side_of station)) channel octets ≡ taken_pdu_is.body =
        (λ i. body_read (begun_is i) (keyed_is i) channel octets)
        ∙ ap (body_heard (facts_in link).encryption.end)
        (hears ∙ hears_whole whole (facts other).turn.slot link sent.link octets readable connect_ind.fields sent.packet on_channel judged_good)
        ∙ sym (body_is whole (facts other).turn.slot link sent.link octets readable connect_ind.fields sent.packet on_channel judged_good new some) in
        λ i. record { llid = (carried_is i).llid; body = bodies i }

    brought : AreControlled words given history
        → untaken_pdu words (link_of_packet front (side_of station) octets) front up_to (side_of station) channel octets ≡ to_take given other after
    brought controls =
        ap (λ may. untaken_pdu words may front up_to (side_of station) channel octets) sent.belongs
        ∙ (λ i. pdu_line_if (nat_lt (taken_is i) (sent_is i) && not (is_empty (carried_is i)) && (not (is_data (carried_is i)) || room i) && not (left_is i)) number (sent_is i)
        (pdu_read_of words number front (side_of station) channel octets))
        ∙ line_alike (nat_lt (numbered (ack_of link).accepted) (numbered (sent_ack (facts_in sent.link)).sent)) (is_empty (pdu_sent (facts_in sent.link)))
        (not (is_data (pdu_sent (facts_in sent.link))) || has_room (setup_at given other) (facts other)) (left_hearing (facts other).turn.slot link octets).acknowledged number (numbered (sent_ack (facts_in sent.link)).sent)
        (pdu_read_of words number front (side_of station) channel octets) taken_pdu_is (read_is controls)
        ∙ taken_as whole ((links_of history).link_of other) (setup_at given other) (facts other) octets listening.handle number link sent.link listening.is_open listening.on
        number_is readable connect_ind.fields sent.packet on_channel judged_good agreed
        ∙ sym (other_to_take (Some octets) (received_is good))

  -- ---- both

  module _ (awaited : ℕ → Bool) (leavings : AreLeftSo words given after awaited (λ one. packet_received one after)) (controls : AreControlled words given history) where
    other_by : (good on : Bool) → is_good hearing.verdict ≡ good → is_advertising channel ≡ on → pending_at words other history ≡ to_take given other history
        → pending_at words other after ≡ to_take given other after
    other_by false on bad on_is was = other_pending false on bad on_is ∙ was ∙ other_silent ∙ sym (unheard bad)
    other_by true true good on was = other_pending true true good on ∙ was ∙ other_silent ∙ sym (advertised good on)
    other_by true false good off was = other_pending true false good off ∙ brought off good awaited leavings controls

    packet_pending : pending_at words other history ≡ to_take given other history → (one : ℕ) → is_in one given.stations ≡ true → pending_at words one after ≡ to_take given one after
    packet_pending was one is_one = by (one == station) refl
      where
        by : (same : Bool) → (one == station) ≡ same
            → pending_at words one (history ++ Transmitted station channel octets (hearings_of given fates station channel octets history) ∷ [])
            ≡ to_take given one (history ++ Transmitted station channel octets (hearings_of given fates station channel octets history) ∷ [])
        by true same = subst (λ n. pending_at words n after ≡ to_take given n after) (sym (eqb-true one station same)) (own_pending ∙ sym own_to_take)
        by false apart =
            subst (λ n. pending_at words n after ≡ to_take given n after) (sym (other_is given are_two station one in_it is_one apart))
            (other_by (is_good hearing.verdict) (is_advertising channel) refl refl was)

-- ---- at each place of a run

-- what is pending for each station: after the packets of a phase, what its call is to take; and else nothing
abbrev pub IsPendingAt : Words → Given → Place → List Event → Type 0
IsPendingAt words given (AtPackets phases done left) history = (station : ℕ) → is_in station given.stations ≡ true → pending_at words station history ≡ to_take given station history
IsPendingAt words given (AtListening phases done left) history =
    (station : ℕ) → is_in station given.stations ≡ true → pending_at words station history ≡ (if is_in station done then None else to_take given station history)
IsPendingAt words given NoTurn history = (station : ℕ) → is_in station given.stations ≡ true → pending_at words station history ≡ None
IsPendingAt words given (AtFeeds done left) history = (station : ℕ) → is_in station given.stations ≡ true → pending_at words station history ≡ None
IsPendingAt words given (AtBegins done left) history = (station : ℕ) → is_in station given.stations ≡ true → pending_at words station history ≡ None
IsPendingAt words given (AfterPhases phases) history = (station : ℕ) → is_in station given.stations ≡ true → pending_at words station history ≡ None
IsPendingAt words given (AtEnds done left) history = (station : ℕ) → is_in station given.stations ≡ true → pending_at words station history ≡ None

pub record IsTakenAt (words : Words) (given : Given) (place : Place) (history : List Event) : Type 0 where
  is : IsKnownAt given (IsBelongingSoFar given) place history
  leaving : AreLeftAt words given place history
  pub pending_pdu : IsPendingAt words given place history
  each : Each (IsTakenEvent words) [] history

-- nothing is pending
record IsQuiet (words : Words) (given : Given) (history : List Event) : Type 0 where
  none : (station : ℕ) → is_in station given.stations ≡ true → pending_at words station history ≡ None
  each : Each (IsTakenEvent words) [] history

module _ (words : Words) (given : Given) (are_two : IsOfTwo given) where
  apart : (station one : ℕ) → is_in station given.stations ≡ true → is_in one given.stations ≡ true → (one == station) ≡ false → is_side (side_of station) (side_of one) ≡ false
  apart station one is is_one differs = other_apart given are_two one station is_one is (differs_back one station differs)

  call_quiet : (station : ℕ) (step : Step) (history : List Event) → is_in station given.stations ≡ true
      → All TakesNone (notes_after (setup_at given station) (facts_at given station history) step) → IsQuiet words given history → IsQuiet words given (after_call given station step history)
  call_quiet station step history is all quiet = record {
    none = λ one is_one. by one is_one (one == station) refl;
    each = call_taken words given station step history spent quiet.each;
  }
    where
      spent : IsSpent words given history station step
      spent = spends_none words given history station step (quiet.none station is) all

      by : (one : ℕ) → is_in one given.stations ≡ true → (same : Bool) → (one == station) ≡ same → pending_at words one (after_call given station step history) ≡ None
      by one is_one true same = ap (λ n. pending_at words n (after_call given station step history)) (eqb-true one station same) ∙ call_own words given station step history spent
      by one is_one false differs = call_other words given one station step history (apart station one is is_one differs) ∙ quiet.none one is_one

  octets_quiet : (station : ℕ) (octets : List ℕ) (history : List Event) → is_in station given.stations ≡ true → IsQuiet words given history → IsQuiet words given (after_octets given station octets history)
  octets_quiet station [] history is quiet = quiet
  octets_quiet station (octet ∷ octets) history is quiet =
      octets_quiet station octets (after_call given station (HostOctet octet) history) is
      (call_quiet station (HostOctet octet) history is (octet_noted TakesNone none_taken.starts.feeds (setup_at given station) (facts_at given station history) octet) quiet)

  fed_quiet : (station : ℕ) (octets : List ℕ) (history : List Event) → is_in station given.stations ≡ true → IsQuiet words given history → IsQuiet words given (history ++ HostFed station octets ∷ [])
  fed_quiet station octets history is quiet = record {
    none = λ one is_one. by one is_one (one == station) refl;
    each = each_event (IsTakenEvent words) history (HostFed station octets) quiet.each (quiet.none station is);
  }
    where
      by : (one : ℕ) → is_in one given.stations ≡ true → (same : Bool) → (one == station) ≡ same → pending_at words one (history ++ HostFed station octets ∷ []) ≡ None
      by one is_one true same = ap (λ n. pending_at words n (history ++ HostFed station octets ∷ [])) (eqb-true one station same) ∙ fed_own words station history octets
      by one is_one false differs = fed_other words one station history octets (apart station one is is_one differs) ∙ quiet.none one is_one

  feed_quiet : (station : ℕ) (octets : List ℕ) (history : List Event) → is_in station given.stations ≡ true → IsQuiet words given history → IsQuiet words given (after_feed given station octets history)
  feed_quiet station [] history is quiet = quiet
  feed_quiet station (octet ∷ octets) history is quiet =
      octets_quiet station (octet ∷ octets) (history ++ HostFed station (octet ∷ octets) ∷ []) is (fed_quiet station (octet ∷ octets) history is quiet)

  -- the call of a phase
  module _ (done : List ℕ) (station : ℕ) (history : List Event) (is : is_in station given.stations ≡ true) (out : is_in station done ≡ false)
      (awaits : (one : ℕ) → is_in one given.stations ≡ true → pending_at words one history ≡ (if is_in one done then None else to_take given one history)) where
    abbrev step : Step
    step = step_of (packet_received station history)

    abbrev called : List Event
    called = after_call given station step history

    spends : IsSpent words given history station step
    spends = record {
      first = awaits station is ∙ ap (λ b. if b then None else to_take given station history) out;
      fits = phase_fits (setup_at given station) (facts_at given station history) ((links_of history).link_of station) (packet_received station history);
    }

    still : (one : ℕ) → (one == station) ≡ false → to_take given one called ≡ to_take given one history
    still one differs =
        same_to_take given one history called (packet_received one history) (other_facts given station step history one differs) (received_by given one station step history false differs)
        (λ handle. number_other given station step history one handle differs)

    hearing_pending : (one : ℕ) → is_in one given.stations ≡ true → (same : Bool) → (one == station) ≡ same
        → pending_at words one called ≡ (if is_in one (done ++ station ∷ []) then None else to_take given one called)
    hearing_pending one is_one true same =
        ap (λ n. pending_at words n called) (eqb-true one station same) ∙ call_own words given station step history spends
        ∙ sym (ap (λ b. if b then None else to_take given one called) (in_more_same one station done same))
    hearing_pending one is_one false differs =
        call_other words given one station step history (apart station one is is_one differs) ∙ awaits one is_one
        ∙ (λ i. if sym (in_more_other one station done differs) i then None else sym (still one differs) i)

module _ (words : Words) (whole : IsHeardWhole) (understood : IsUnderstood) (taken : AreTaken) (nth : AreNth) (separate : AreApart) (given : Given) (are_two : IsOfTwo given) (few_links : HaveFewLinks given)
    (six : HaveAddresses given) (gives : GivesWords given words) (distinct : AreDistinct given.stations) (eight : (station : ℕ) → (setup_at given station).host_buffers ≡ 8)
    (air : (station : ℕ) → (setup_at given station).air_buffers ≡ 8) where
  abbrev Q : Place → List Event → Type 0
  Q = IsBelongingSoFar given

  known : AreKnown given Q
  known = known_of understood taken nth separate given are_two six

  pub taken_kept : IsKept given (IsTakenAt words given)
  taken_kept =
      let kept = known_kept whole given Q known are_two few_links six distinct eight in
      let left_kept = leavings_kept words whole understood taken nth separate given are_two six gives in record {
        on_turn = λ slot plan history begun at has.
            let radios = map plan.radio_of given.stations in record {
              is = kept.on_turn slot plan history begun at has.is;
              leaving = left_kept.on_turn slot plan history begun at has.leaving;
              pending_pdu = λ station in_it. turn_pending words station history slot radios ∙ has.pending_pdu station in_it;
              each = each_event (IsTakenEvent words) history (TurnBegan slot radios) has.each tt;
            };
        on_feed = λ plan done left station history are begun now has.
            let octets = take (plan.feed_of station) (octets_left given station history) in
            let quiet = feed_quiet words given are_two station octets history (among given.stations done left station are) (record { none = has.pending_pdu; each = has.each }) in record {
              is = kept.on_feed plan done left station history are begun now has.is;
              leaving = left_kept.on_feed plan done left station history are begun now has.leaving;
              pending_pdu = quiet.none;
              each = quiet.each;
            };
        on_fed = λ history has. record { is = kept.on_fed history has.is; leaving = left_kept.on_fed history has.leaving; pending_pdu = has.pending_pdu; each = has.each };
        on_begin = λ slot plan done left station history are due has.
            let on = plan.radio_of station in
            let quiet = call_quiet words given are_two station (TurnBegins slot on) history (among given.stations done left station are)
            (begin_noted TakesNone none_taken (setup_at given station) slot on (facts_at given station history)) (record { none = has.pending_pdu; each = has.each }) in record {
              is = kept.on_begin slot plan done left station history are due has.is;
              leaving = left_kept.on_begin slot plan done left station history are due has.leaving;
              pending_pdu = quiet.none;
              each = quiet.each;
            };
        on_begun = λ history has. record { is = kept.on_begun history has.is; leaving = left_kept.on_begun history has.leaving; pending_pdu = has.pending_pdu; each = has.each };
        on_phase = λ phases history few has. record {
          is = kept.on_phase phases history few has.is;
          leaving = left_kept.on_phase phases history few has.leaving;
          pending_pdu = λ station in_it.
              has.pending_pdu station in_it
              ∙ sym (unheard_none (setup_at given station) (facts_at given station history) ((links_of history).link_of station) (packet_received station history)
              (λ handle link is_open listens. has.is.lined.counts.holds.hearing.hears station in_it));
          each = has.each;
        };
        on_silence = λ phases done left station history are none has. record {
          is = kept.on_silence phases done left station history are none has.is;
          leaving = left_kept.on_silence phases done left station history are none has.leaving;
          pending_pdu = has.pending_pdu;
          each = has.each;
        };
        on_packet = λ phases plan done left station channel octets history are begun due has.
            let hearings = hearings_of given plan.fates station channel octets history in
            let in_it = among given.stations done left station are in
            let leaving = left_kept.on_packet phases plan done left station channel octets history are begun due has.leaving in record {
              is = kept.on_packet phases plan done left station channel octets history are begun due has.is;
              leaving = leaving;
              pending_pdu = packet_pending words whole given Q known are_two few_links six distinct eight air phases done left station channel octets plan.fates history are due.is_wanted has.is due.is_seen
                  (unsent (AtPackets phases (done ++ station ∷ []) left)) leaving.left
                  (packet_whole words whole understood taken nth separate given are_two six phases done left station channel octets history are due.is_wanted has.leaving.controls)
                  (has.pending_pdu (other_of station) (other_in given are_two station in_it));
              each = each_event (IsTakenEvent words) history (Transmitted station channel octets hearings) has.each
                  (has.pending_pdu station in_it
                  ∙ own_silent words whole given Q known are_two few_links six distinct eight air phases done left station channel octets plan.fates history are due.is_wanted has.is due.is_seen);
            };
        on_air = λ phases history has. record { is = kept.on_air phases history has.is; leaving = left_kept.on_air phases history has.leaving; pending_pdu = has.pending_pdu; each = has.each };
        on_hearing = λ phases done left station history are begun has.
            let in_it = among given.stations done left station are in
            let out = not_before given.stations done left station distinct are in record {
              is = kept.on_hearing phases done left station history are begun has.is;
              leaving = left_kept.on_hearing phases done left station history are begun has.leaving;
              pending_pdu = λ one is_one. hearing_pending words given are_two done station history in_it out has.pending_pdu one is_one (one == station) refl;
              each = call_taken words given station (step_of (packet_received station history)) history (spends words given are_two done station history in_it out has.pending_pdu) has.each;
            };
        on_heard = λ phases history has. record {
          is = kept.on_heard phases history has.is;
          leaving = left_kept.on_heard phases history has.leaving;
          pending_pdu = λ station in_it. has.pending_pdu station in_it ∙ ap (λ b. if b then None else to_take given station history) in_it;
          each = has.each;
        };
        on_phases = λ history has. record { is = kept.on_phases history has.is; leaving = left_kept.on_phases history has.leaving; pending_pdu = has.pending_pdu; each = has.each };
        on_end = λ done left station history are begun has.
            let quiet = call_quiet words given are_two station TurnEnds history (among given.stations done left station are)
            (end_noted TakesNone none_taken.starts.feeds (setup_at given station) (facts_at given station history)) (record { none = has.pending_pdu; each = has.each }) in record {
              is = kept.on_end done left station history are begun has.is;
              leaving = left_kept.on_end done left station history are begun has.leaving;
              pending_pdu = quiet.none;
              each = quiet.each;
            };
        on_ended = λ history has. record { is = kept.on_ended history has.is; leaving = left_kept.on_ended history has.leaving; pending_pdu = has.pending_pdu; each = has.each };
      }

nothing_first : (words : Words) (station : ℕ) → pending_at words station [] ≡ None
unfolding pending_pdu journal_of
nothing_first words station = refl

-- as a run begins
pub taken_first : (words : Words) (given : Given) → IsTakenAt words given NoTurn []
taken_first words given = record { is = known_first given; leaving = leavings_first words given; pending_pdu = λ station in_it. nothing_first words station; each = tt }

run_taken : (words : Words) → IsHeardWhole → IsUnderstood → AreTaken → AreNth → AreApart → (given : Given) → IsOfTwo given → HaveFewLinks given → HaveAddresses given → GivesWords given words → AreDistinct given.stations
    → ((station : ℕ) → (setup_at given station).host_buffers ≡ 8) → ((station : ℕ) → (setup_at given station).air_buffers ≡ 8) → Each (IsTakenEvent words) [] (history_of (run_of given))
run_taken words whole understood taken nth separate given are_two few_links six gives distinct eight air =
    ends_with (run_of given) (IsWhole given (IsTakenAt words given)) (IsStopped given (IsTakenAt words given)) (Each (IsTakenEvent words) [])
    (run_kept given (IsTakenAt words given) (taken_kept words whole understood taken nth separate given are_two few_links six gives distinct eight air) (taken_first words given))
    (λ history wholly. wholly.is.each) (λ history stop stopped. stopped.kept.each)

-- ---- the lines

one_side : (one other : Side) (may : Option Side) → may ≡ Some one → may ≡ Some other → one ≡ other
one_side one other may is is_too = let same : Some one ≡ Some other = sym is ∙ is_too in cc

same_entry : (one other : Entry) → one ∷ [] ≡ other ∷ [] → one ≡ other
same_entry one other is = cc

-- the line takes what is pending, unless it is one that a procedure is done on that link
abbrev TakesPending : Words → List Entry → Side → Entry → Type 0
TakesPending words front side entry = is_done_on (pending_pdu words side front) entry ≡ false → taken_pdu entry ≡ pending_pdu words side front

-- so does the line of an event
of_event : (words : Words) (before : List Event) (entry own : Entry) (side station : Side) → own ∷ [] ≡ entry ∷ [] → side_of_line own ≡ Some station
    → TakesPending words (journal_of before) station own → side_of_line entry ≡ Some side → TakesPending words (journal_of before) side entry
of_event words before entry own side station is own_is takes side_is =
    let same = same_entry own entry is in
    subst (TakesPending words (journal_of before) side) same
    (subst (λ s. TakesPending words (journal_of before) s own) (one_side station side (side_of_line entry) (ap side_of_line (sym same) ∙ own_is) side_is) takes)

line_by : (words : Words) (before : List Event) (event : Event) (entry : Entry) (side : Side) → entries_of (links_of before) event ≡ entry ∷ []
    → side_of_line entry ≡ Some side → IsTakenEvent words before event → TakesPending words (journal_of before) side entry
line_by words before (TurnBegan slot radios) entry side is side_is takes =
    absurd (let h : None ≡ Some side = ap side_of_line (same_entry _ entry is) ∙ side_is in absurd cc)
line_by words before (HostFed station octets) entry side is side_is takes = of_event words before entry _ side (side_of station) is refl (λ other. sym takes) side_is
line_by words before (Called station step) entry side is side_is takes = absurd cc
line_by words before (Noted station note) entry side is side_is takes =
    let links = links_of before in
    of_event words before entry (entry_of (side_of station) (links.link_of station) (links.last_of station) note) side (side_of station) is
    (note_side (side_of station) (links.link_of station) (links.last_of station) note) takes side_is
line_by words before (Transmitted station channel octets []) entry side is side_is takes = absurd cc
line_by words before (Transmitted station channel octets (hearing ∷ hearings)) entry side is side_is takes =
    of_event words before entry _ side (side_of station) is refl (λ other. sym takes) side_is

pub taken_lines : (words : Words) → IsHeardWhole → IsUnderstood → AreTaken → AreNth → AreApart → (given : Given) → IsOfTwo given → HaveFewLinks given → HaveAddresses given → GivesWords given words → AreDistinct given.stations
    → ((station : ℕ) → (setup_at given station).host_buffers ≡ 8) → ((station : ℕ) → (setup_at given station).air_buffers ≡ 8)
    → AllAreTakenAtOnce words (journal_of (history_of (run_of given)))
taken_lines words whole understood taken nth separate given are_two few_links six gives distinct eight air = λ front rest entry side is side_is.
    let history = history_of (run_of given) in
    let at = is_of_event history front rest entry is in
    subst (λ xs. TakesPending words xs side entry) (sym at.front_is)
    (line_by words at.before at.event entry side at.entry_is side_is
    (each_at (IsTakenEvent words) history at.before at.after at.event (run_taken words whole understood taken nth separate given are_two few_links six gives distinct eight air) at.is_at))

-- a controller of a pair has room for eight pieces of data
pub eight_air : (a b : List ℕ) (script : Script) (station : ℕ) → (setup_at (given_of a b script) station).air_buffers ≡ 8
eight_air a b script zero = refl
eight_air a b script (suc station) = refl
