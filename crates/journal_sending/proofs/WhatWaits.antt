-- In every run of two stations, MD of each packet of a link tells whether more waits by the lines before it, and a new empty
-- PDU goes out only where nothing is to go.
use Rattle.std.proofs.Common.{◌≡◌, ℕ, ◌≤◌, ◌==◌, nat_lt, not, Bool, true, false, cond, List, [], ◌∷◌, ◌++◌, length, Some, refl, sym, ap, subst, ◌∙◌, append-nil, if◌then◌else◌}
use Rattle.acl_banks.specs.History.{octets_of}
use Rattle.acl_banks.specs.Packets.{Marked}
use Rattle.ble_base.specs.declared.roles.Side.{Side}
use Rattle.ble_base.specs.declared.verdicts.Verdict.{Verdict}
use Rattle.journal_leaving.specs.controller_model.Facts.{Sends}
use Rattle.journal_leaving.specs.controller_model.Since.{data_waiting}
use Rattle.journal_leaving.specs.controller_model.Step.{TurnBegins}
use Rattle.journal.specs.declared.entries.Entry.{Entry}
use Rattle.journal.specs.declared.entries.Entry.TheVariants.{Air}
use Rattle.journal.specs.declared.entries.Mark.{Mark}
use Rattle.journal_leaving.specs.journal_acks.Carried.{carried_of}
use Rattle.journal_leaving.specs.journal_acks.link_calls.Uses.{sends_under}
use Rattle.journal_leaving.specs.journal_packets.Senders.{IsOfSendersLink}
use Rattle.journal_leaving.specs.link_model.Acknowledgement.{Pdu, is_acked}
use Rattle.journal_leaving.specs.link_model.Controls.{pdu_fixed}
use Rattle.journal_leaving.specs.link_model.Data.{data_in, data_of, is_empty, unsent_of}
use Rattle.journal_leaving.specs.link_model.End.{facts_of as end_facts}
use Rattle.journal_leaving.specs.link_model.Facts.{Facts as EndFacts, keyed_of}
use Rattle.journal_leaving.specs.link_model.Fixing.{data_cut}
use Rattle.journal_leaving.specs.link_model.Packets.{more_sent, pdu_sent}
use Rattle.journal_leaving.specs.link_model.Step.{PacketSent}
use Rattle.journal_leaving.specs.journal_data.open_links.OpenLinks.{OpenLink, facts_in, link_after}
use Rattle.journal_leaving.specs.run_model.Entries.{IsAired}
use Rattle.journal_leaving.specs.run_model.Feeding.{AreDistinct}
use Rattle.journal_leaving.specs.run_model.History.{Event, Transmitted}
use Rattle.journal_leaving.specs.run_model.Journal.{journal_of, side_of}
use Rattle.journal_leaving.specs.run_model.LinkEnds.{HaveAddresses}
use Rattle.journal_leaving.specs.run_model.Links.{is_advertising}
use Rattle.journal_leaving.specs.run_model.Run.{Given, Stop, Stops, facts_at, history_of, run_of, setup_at, use_at}
use Rattle.journal_leaving.proofs.journal_data.Arriving.{data_nonempty}
use Rattle.journal_leaving.proofs.journal_data.EachLine.{lines_at}
use Rattle.journal_leaving.proofs.journal_data.FewLinks.{HaveFewLinks}
use Rattle.journal_leaving.proofs.journal_acks.Counting.{AreKnown}
use Rattle.journal_leaving.proofs.journal_acks.Exchanging.{number_at}
use Rattle.journal_leaving.proofs.journal_acks.Known.{known_of}
use Rattle.journal_leaving.proofs.journal_acks.LinkPackets.{IsPacketOf, link_packet}
use Rattle.journal_leaving.proofs.journal_acks.Seen.{IsSeen, seen_packet, seen_stop}
use Rattle.journal_leaving.proofs.journal_acks.TwoStations.{IsOfTwo}
use Rattle.journal_leaving.proofs.journal_acks.link_calls.InRange.{ranges_in}
use Rattle.journal_leaving.proofs.journal_links.OfTwo.{are_distinct}
use Rattle.journal_leaving.proofs.journal_packets.AccessOrder.{AreNth}
use Rattle.journal_leaving.proofs.journal_packets.SoFar.{IsBelongingSoFar}
use Rattle.journal_leaving.proofs.link_model.Agreeing.{ack_ahead as sent_ack}
use Rattle.journal_leaving.proofs.link_model.Hearing.{IsHeardWhole}
use Rattle.journal_leaving.proofs.journal_data.run_laws.Agreed.{ack_of}
use Rattle.journal_leaving.proofs.journal_data.run_laws.DistinctAccess.{AreApart}
use Rattle.journal_leaving.proofs.run_model.LinkEnds.{AreTaken, IsUnderstood}
use Rattle.journal_leaving.proofs.run_model.Stations.{among, is_in}
use Rattle.journal_leaving.proofs.run_model.Walk.{Place, AtPackets, IsKept, IsStopped, IsWhole, ends_with, run_kept}
use Rattle.journal_fixing.specs.NextPdu.{data_waits, data_waits_after, more_with_new, more_with_old}
use Rattle.journal_fixing.specs.OnLines.{control_fixing}
use Rattle.journal_fixing.specs.PastFixing.{facts_fixing, past_fixing}
use Rattle.journal_fixing.specs.journal_controls.journal_ends.Asked.{Words}
use Rattle.journal_fixing.specs.journal_controls.journal_ends.GivenWords.{GivesWords}
use Rattle.journal_fixing.proofs.FixedPasts.{fixing_stays}
use Rattle.journal_fixing.proofs.FixingLinks.{sends_uses}
use Rattle.journal_fixing.proofs.RoomForPieces.{room_for_piece}
use Rattle.journal_fixing.proofs.FixedSince.{since_in}
use Rattle.journal_fixing.proofs.KeptFixing.{AreFixing, AreFixingAt, AreKnownAtBegins, fixing_first, fixing_kept}
use Rattle.journal_fixing.proofs.RunFixing.{fixing_before_packet}
use Rattle.journal_fixing.proofs.TellingMore.{TellsMore}
use Rattle.journal_fixing.proofs.journal_controls.RunControls.{keyed_before_call}
use Rattle.journal_sending.specs.Outgoing.{octets_wait}
use Rattle.journal_sending.specs.WhatWaits.{AllTellWhatWaits, TellsWhatWaits, has_payload_next, is_next_new, tells_more}
use Rattle.journal_sending.proofs.HeldOnLines.{lines_wait, waits_with, waits_without}
use Rattle.journal_sending.proofs.SendingEnd.{acked_is, booked_is, carried_is, from, sends_on}
use Rattle.journal_sending.proofs.SendingEnds.{sends_next}
use Rattle.journal_sending.proofs.SendsNext.{SendsNext}
use Rattle.journal_sending.proofs.Together.{IsKnownAt}
use Rattle.journal_sending.proofs.Told.{IsTold}
use Rattle.journal_sending.proofs.ToldInRuns.{IsToldAt, still_unsent, told_first, told_kept}
use Rattle.journal_sending.proofs.ToldPackets.{tells_of}

-- ---- before a packet of a link

-- by the lines, its sender has sent, and has acknowledged, what it holds, and octets wait where it has not sent all
pub record IsOfLines (given : Given) (history : List Event) (station channel : ℕ) (octets : List ℕ) : Type 0 where
  pub in_it : is_in station given.stations ≡ true
  pub sending : IsOfSendersLink given history station channel octets
  pub packet : IsPacketOf given history station channel octets sending
  pub on : sends_under sending.handle (facts_at given station history).turn.doing ≡ true
  pub is_new : is_next_new (number_at station sending.handle history) (journal_of history) (side_of station) ≡ is_acked (ack_of sending.link)
  pub carried : carried_of (number_at station sending.handle history) (journal_of history) (side_of station) ≡ pdu_sent (facts_in sending.link)
  pub waits : octets_wait (number_at station sending.handle history) (lines_at station history)
      ≡ nat_lt (length (data_of (sent_ack (facts_in sending.link)).sent)) (length (octets_of (facts_in sending.link).outgoing.given))

module _ (whole : IsHeardWhole) (given : Given) (Q : Place → List Event → Type 0) (known : AreKnown given Q) (are_two : IsOfTwo given) (few_links : HaveFewLinks given)
    (six : HaveAddresses given) (distinct : AreDistinct given.stations) (eight : (station : ℕ) → (setup_at given station).host_buffers ≡ 8)
    (phases : ℕ) (done left : List ℕ) (station channel : ℕ) (octets : List ℕ) (history : List Event) (are : given.stations ≡ done ++ station ∷ left)
    (wanted : use_at given station history ≡ Sends channel octets) (has : IsKnownAt given Q (AtPackets phases done (station ∷ left)) history)
    (told_is : IsTold given true station history) (off : is_advertising channel ≡ false) where
  pub of_lines : IsOfLines given history station channel octets
  of_lines =
      let sending = from whole given Q known are_two few_links six distinct eight phases done left station channel octets history are wanted has off in
      let number = number_at station sending.handle history in
      let acked = acked_is whole given Q known are_two few_links six distinct eight phases done left station channel octets history are wanted has off in
      let sent = (tells_of whole given Q known are_two few_links six distinct eight phases done left station channel octets history are wanted has told_is off).sent in record {
        in_it = among given.stations done left station are;
        sending = sending;
        packet = link_packet whole given Q known are_two six distinct phases done left station channel octets history are wanted has.lined off;
        on = sends_on whole given Q known are_two few_links six distinct eight phases done left station channel octets history are wanted has off;
        is_new = λ i. acked i == sent i;
        carried = carried_is whole given Q known are_two few_links six distinct eight phases done left station channel octets history are wanted has off;
        waits = lines_wait number (lines_at station history) sending.slot sending.link (data_waiting sending.handle (facts_at given station history).received)
            (booked_is whole given Q known are_two few_links six distinct eight phases done left station channel octets history are wanted has off);
      }

-- ---- by what the sender held as it fixed its PDU

empty_data : (pdu : Pdu) → is_empty pdu ≡ true → data_in pdu ≡ []
empty_data pdu empty = sym (append-nil (data_in pdu)) ∙ sym (data_nonempty (pdu ∷ [])) ∙ ap (λ b. data_of (cond (not b) (pdu ∷ []) [])) empty

module _ (words : Words) (given : Given) (are_two : IsOfTwo given) (before rest : List Event) (station channel : ℕ) (octets : List ℕ) (at : history_of (run_of given) ≡ before ++ rest)
    (fixes : AreFixing words given before) (seen : IsOfLines given before station channel octets) where
  abbrev sending : IsOfSendersLink given before station channel octets
  sending = seen.sending

  abbrev link : OpenLink
  link = link_after (PacketSent sending.slot) sending.link

  abbrev facts : EndFacts
  facts = facts_in sending.link

  abbrev held : EndFacts
  held = facts_fixing sending.link.setup sending.link.past

  abbrev number : ℕ
  number = number_at station sending.handle before

  abbrev side : Side
  side = side_of station

  abbrev front : List Entry
  front = journal_of before

  abbrev waiting : Bool
  waiting = octets_wait number (lines_at station before)

  held_is : facts_fixing link.setup link.past ≡ held
  held_is = ap (end_facts sending.link.setup) (fixing_stays sending.link.past (PacketSent sending.slot ∷ []) ((λ front before. refl), tt))

  next : SendsNext held facts
  next =
      subst (λ (f : EndFacts). SendsNext f facts) held_is
      (sends_next given before rest station sending.handle link (are_distinct given are_two) seen.in_it at sending.is_open seen.on sending.link sending.slot refl)

  tells : TellsMore held facts
  tells =
      subst (λ (f : EndFacts). TellsMore f facts) held_is
      ((since_in given before rest station sending.handle link (are_distinct given are_two) seen.in_it at sending.is_open).tells seen.on sending.link sending.slot refl)

  room : 1 ≤ (data_cut held).limit
  room =
      subst (λ (f : EndFacts). 1 ≤ (data_cut f).limit) held_is
      (room_for_piece link (ranges_in given before rest station sending.handle link (are_distinct given are_two) seen.in_it at sending.is_open))

  fixing_is : control_fixing words side number front ≡ Some (keyed_of held)
  fixing_is =
      fixes station seen.in_it sending.handle link sending.is_open (sends_uses sending.handle (facts_at given station before).turn.doing seen.on)
      ∙ ap (λ (f : EndFacts). Some (keyed_of f)) held_is

  -- what waits after a new PDU, and after one that is sent again
  waits_new : is_acked facts.acknowledgement ≡ true → waiting ≡ data_waits_after (pdu_sent facts) (data_cut held)
  waits_new acked =
      let pdu = pdu_fixed facts in
      let sent_is : (sent_ack facts).sent ≡ held.acknowledgement.sent ++ pdu ∷ [] =
      ap (λ b. if b then facts.acknowledgement.sent ++ pdu ∷ [] else facts.acknowledgement.sent) acked ∙ ap (λ xs. xs ++ pdu ∷ []) next.same.sent in
      seen.waits ∙ (λ i. nat_lt (length (data_of (sent_is i))) (length (octets_of (next.same.given i)))) ∙ waits_with sending.link.setup (past_fixing sending.link.past) pdu
      ∙ ap (λ one. data_waits_after one (data_cut held)) (sym (ap (λ b. if b then pdu else facts.acknowledgement.last) acked))

  waits_again : is_acked facts.acknowledgement ≡ false → waiting ≡ data_waits (data_cut held)
  waits_again unacked =
      let pdu = pdu_fixed facts in
      let sent_is : (sent_ack facts).sent ≡ held.acknowledgement.sent =
      ap (λ b. if b then facts.acknowledgement.sent ++ pdu ∷ [] else facts.acknowledgement.sent) unacked ∙ next.same.sent in
      seen.waits ∙ (λ i. nat_lt (length (data_of (sent_is i))) (length (octets_of (next.same.given i)))) ∙ waits_without sending.link.setup (past_fixing sending.link.past)

  tells_by : (acked : Bool) → is_acked facts.acknowledgement ≡ acked → more_sent facts ≡ tells_more acked (keyed_of held) (pdu_sent facts) waiting
  tells_by true acked = tells.new acked ∙ ap (more_with_new (keyed_of held)) (sym (waits_new acked))
  tells_by false unacked =
      let last : facts.acknowledgement.last ≡ pdu_sent facts = sym (ap (λ b. if b then pdu_fixed facts else facts.acknowledgement.last) unacked) in
      tells.old unacked ∙ (λ i. more_with_old (keyed_of held) (last i) (sym (waits_again unacked) i))

  -- a new empty PDU
  none_next : is_acked facts.acknowledgement ≡ true → is_empty (pdu_sent facts) ≡ true → has_payload_next (keyed_of held) waiting ≡ false
  none_next acked empty =
      let left = unsent_of held.outgoing in
      ap (has_payload_next (keyed_of held)) (waits_new acked ∙ ap (λ (octets : List Marked). nat_lt (length octets) (length left)) (empty_data (pdu_sent facts) empty))
      ∙ next.filled room acked empty

  pub tells_what_waits : TellsWhatWaits words front side channel octets
  tells_what_waits =
      let is = seen.packet.number_is in
      let new_is = ap (λ n. is_next_new n front side) is ∙ seen.is_new in
      let pdu_is = ap (λ n. carried_of n front side) is ∙ seen.carried in record {
        packet = seen.packet.packet;
        fixing = keyed_of held;
        fixing_is = ap (λ n. control_fixing words side n front) is ∙ fixing_is;
        more = seen.packet.more_is ∙ tells_by (is_acked facts.acknowledgement) refl
            ∙ (λ i. tells_more (sym new_is i) (keyed_of held) (sym pdu_is i) (octets_wait (sym is i) (lines_at station before)));
        empty_last = λ new empty.
            ap (λ n. has_payload_next (keyed_of held) (octets_wait n (lines_at station before))) is
            ∙ none_next (sym new_is ∙ new) (ap is_empty (sym pdu_is) ∙ empty);
      }

-- ---- in a run

abbrev IsOfLinesIf : Given → List Event → ℕ → ℕ → List ℕ → Type 0
IsOfLinesIf given history station channel octets = is_advertising channel ≡ false → IsOfLines given history station channel octets

-- each packet in the journal of the run is due
abbrev pub AreAired : Given → Type 0
AreAired given = (front rest : List Entry) (side : Side) (channel : ℕ) (octets : List ℕ) (fate : Mark) (verdict : Verdict)
    → journal_of (history_of (run_of given)) ≡ front ++ Air side channel octets fate verdict ∷ rest → IsAired given front side channel octets fate verdict

module _ (words : Words) (whole : IsHeardWhole) (understood : IsUnderstood) (taken : AreTaken) (nth : AreNth) (apart : AreApart) (given : Given) (are_two : IsOfTwo given) (few_links : HaveFewLinks given)
    (six : HaveAddresses given) (gives : GivesWords given words) (eight : (station : ℕ) → (setup_at given station).host_buffers ≡ 8) where
  abbrev Q : Place → List Event → Type 0
  Q = IsBelongingSoFar given

  distinct : AreDistinct given.stations
  distinct = are_distinct given are_two

  known : AreKnown given Q
  known = known_of understood taken nth apart given are_two six

  keeps : IsKept given (IsToldAt given Q)
  keeps = told_kept given whole Q known are_two few_links six distinct eight

  sees : IsSeen given (IsToldAt given Q) (λ history. Unit {0}) (IsOfLinesIf given)
  sees = record {
    turn = λ history has. tt;
    packet = λ phases done left station channel octets history are wanted has off.
        of_lines whole given Q known are_two few_links six distinct eight phases done left station channel octets history are wanted has.is
        (still_unsent given whole Q known are_two few_links six distinct eight phases done left station history are has.told_is) off;
  }

  pub waits_of_lines : AreAired given → AllTellWhatWaits words (journal_of (history_of (run_of given)))
  waits_of_lines all front rest side channel octets fate verdict is off =
      let aired = all front rest side channel octets fate verdict is in
      let before = aired.before in
      let station = aired.station in
      let hearings = aired.hearing ∷ aired.others in
      let seen = seen_packet given (IsToldAt given Q) keeps (λ history. Unit {0}) (IsOfLinesIf given) sees (told_first given) before aired.after station channel octets hearings aired.is_at off in
      subst (λ xs. TellsWhatWaits words xs side channel octets) (sym aired.front_is)
      (subst (λ s. TellsWhatWaits words (journal_of before) s channel octets) (sym aired.side_is)
      (tells_what_waits words given are_two before (Transmitted station channel octets hearings ∷ aired.after) station channel octets aired.is_at
      (fixing_before_packet words whole understood taken nth apart given are_two six gives before aired.after station channel octets hearings aired.is_at) seen))

  -- ---- where damage stops it

  begins_known : AreKnownAtBegins words given
  begins_known before rest station slot on handle link at in_it is_open =
      keyed_before_call words whole understood taken nth apart given are_two six gives before rest station (TurnBegins slot on) at in_it handle link is_open

  fixing_at_end : AreFixing words given (history_of (run_of given))
  fixing_at_end =
      ends_with (run_of given) (IsWhole given (AreFixingAt words given)) (IsStopped given (AreFixingAt words given)) (AreFixing words given)
      (run_kept given (AreFixingAt words given) (fixing_kept words understood taken nth apart given are_two six gives begins_known) (fixing_first words given))
      (λ history wholly. wholly.is.fixing) (λ history stop stopped. stopped.kept.fixing)

  -- the packet that is to come there tells it too
  pub waits_at_stop : (history : List Event) (stop : Stop) → run_of given ≡ Stops history stop → is_advertising stop.channel ≡ false
      → TellsWhatWaits words (journal_of history) (side_of stop.sender) stop.channel stop.sent
  waits_at_stop history stop stops off =
      let is_last = ap history_of stops in
      let seen = seen_stop given (IsToldAt given Q) keeps (λ history. Unit {0}) (IsOfLinesIf given) sees (told_first given) history stop stops off in
      tells_what_waits words given are_two history [] stop.sender stop.channel stop.sent (is_last ∙ sym (append-nil history))
      (subst (AreFixing words given) is_last fixing_at_end) seen
