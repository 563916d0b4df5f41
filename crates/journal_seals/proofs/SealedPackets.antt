-- A line of a packet that brings a new PDU to the other side unchanged: it was sealed exactly where that opens what it hears.
use Rattle.std.proofs.Common.{◌≡◌, ℕ, ◌+◌, Bool, true, false, Some, List, ◌∷◌, ◌++◌, length, refl, sym, ap, ◌∙◌, arith}
use Rattle.std.specs.List.{Contains}
use Rattle.std.specs.Str.{bytes_eq}
use Rattle.std.proofs.lemmas.Slice.Eq.{bytes_eq-Decides}
use Rattle.air_frame.specs.Hearing.{heard_in}
use Rattle.air_frame.specs.Packet.{on_air}
use Rattle.air_frame.specs.declared.Heard.{Heard}
use Rattle.air_frame.specs.declared.Heard.TheVariants.{NotOurs, Broken, Whole}
use Rattle.ble_base.specs.Side.{other_side}
use Rattle.ble_base.specs.declared.roles.Side.{Side}
use Rattle.ble_base.specs.declared.verdicts.Verdict.{Verdict}
use Rattle.journal.specs.declared.entries.Entry.{Entry}
use Rattle.journal.specs.declared.entries.Entry.TheVariants.{Air}
use Rattle.journal.specs.declared.entries.Mark.{Mark}
use Rattle.journal_forgeries.specs.journal_controls.LineSteps.{keyed_on}
use Rattle.journal_forgeries.specs.journal_controls.journal_acks.Carried.{IsLinkPacket, air_pdu, bits_of, carried_of}
use Rattle.journal_forgeries.specs.journal_controls.journal_acks.Counted.{IsCounted}
use Rattle.journal_forgeries.specs.journal_controls.journal_acks.Exchange.{Exchanged, exchange_of, is_number}
use Rattle.journal_forgeries.specs.journal_controls.journal_acks.HeardBy.{IsHeardLine}
use Rattle.journal_forgeries.specs.journal_controls.journal_acks.Held.{HasPayloadOfEnd}
use Rattle.journal_forgeries.specs.journal_controls.journal_ends.Asked.{Words}
use Rattle.journal_forgeries.specs.journal_controls.journal_ends.Left.{left_of}
use Rattle.journal_forgeries.specs.journal_controls.journal_links.Begun.{link_numbered}
use Rattle.journal_forgeries.specs.journal_controls.journal_packets.Belonging.{link_of_packet}
use Rattle.journal_forgeries.specs.journal_controls.link_model.Facts.{Facts, keyed_of}
use Rattle.journal_forgeries.specs.journal_controls.link_model.Packets.{counts_here, heard_of, whole_pdu}
use Rattle.journal_forgeries.specs.journal_controls.link_model.Payload.{opens_now}
use Rattle.journal_forgeries.specs.journal_controls.link_model.Setup.{Setup}
use Rattle.journal_forgeries.specs.journal_controls.link_model.Step.{PacketSent}
use Rattle.journal_forgeries.specs.journal_controls.link_model.Verdicts.{has_room_for, pdu_by, whole_in}
use Rattle.journal_forgeries.specs.journal_controls.link_model.keyed_control.Keyed.{Keyed}
use Rattle.journal_forgeries.specs.journal_controls.open_links.OpenLinks.{OpenLink, facts_in, link_after, link_at}
use Rattle.journal_forgeries.specs.journal_controls.run_model.History.{Event, Hearing, Transmitted, is_handed}
use Rattle.journal_forgeries.specs.journal_controls.run_model.Journal.{journal_of, side_of}
use Rattle.journal_forgeries.specs.journal_controls.run_model.LinkEnds.{HaveAddresses}
use Rattle.journal_forgeries.specs.journal_controls.run_model.Links.{is_advertising, links_of}
use Rattle.journal_forgeries.specs.journal_controls.run_model.Run.{Given, facts_at, history_of, run_of}
use Rattle.journal_forgeries.specs.link_calls.run_laws.Ends.{OpenEnd, link_listened}
use Rattle.radio_replay.specs.Damage.{damaged_packet}
use Rattle.journal_forgeries.specs.run_pairs.InTurns.{HasSentNow}
use Rattle.journal_forgeries.proofs.journal_acks.run_laws.Agreed.{step_facts}
use Rattle.journal_forgeries.proofs.journal_acks.run_laws.DistinctAccess.{AreApart}
use Rattle.journal_forgeries.proofs.journal_controls.journal_acks.TwoStations.{IsOfTwo}
use Rattle.journal_forgeries.proofs.journal_controls.journal_links.OfTwo.{are_distinct}
use Rattle.journal_forgeries.proofs.journal_controls.link_model.Hearing.{IsHeardWhole}
use Rattle.journal_forgeries.proofs.journal_controls.run_model.LinkEnds.{AreTaken, IsUnderstood}
use Rattle.journal_forgeries.proofs.journal_controls.run_model.Stations.{contains_in, is_in}
use Rattle.journal_forgeries.proofs.journal_controls.journal_ends.ForgedLinks.{left_is}
use Rattle.journal_forgeries.specs.journal_sealing.Mixed.{counts_in, counts_on, is_mixed}
use Rattle.journal_forgeries.specs.journal_sealing.SealedLines.{HasPayload, payload_carried}
use Rattle.journal_forgeries.proofs.journal_sealing.Judged.{counts_as}
use Rattle.journal_forgeries.proofs.journal_sealing.UnmixedEnds.{KeysAreGiven}
use Rattle.journal_forgeries.proofs.journal_data.Followed.{is_of_two}
use Rattle.journal_forgeries.proofs.ForgedLines.{AllHear, AllPure, HavePayloads, Heard as AllAreHeard, on_data, one_number}
use Rattle.journal_forgeries.proofs.PacketEnds.{of_both}
use Rattle.journal_forgeries.proofs.SentNow.{IsSentNow, sends_one, sent_now}
use Rattle.journal_forgeries.proofs.link_runs.link_pairs.HasSent.{has_sent}
use Rattle.journal_forgeries.proofs.link_runs.link_pairs.Understanding.{IsOpenedThere}
use Rattle.journal_forgeries.proofs.run_pairs.FarPackets.{listens_is}
use Rattle.journal_forgeries.proofs.run_pairs.LinkSteps.{AsksMayCome}
use Rattle.journal_seals.specs.Seals.{AllAreSealedAsOpened, code_expected}
use Rattle.journal_seals.proofs.OnAirSeals.{sealed_at_central, sealed_at_peripheral}
use Rattle.journal_seals.proofs.SealedSo.{CountsWhole, IsSealedFor}

-- ---- what an end hears counts, by the lines and by what it holds

in_room : (has_room : Bool) (items pdu : List ℕ) → pdu_by has_room items ≡ Some pdu → items ≡ pdu
in_room true items pdu is = cc
in_room false items pdu is = absurd cc

heard_counts : (max_rx : ℕ) (facts : Facts) (end : Exchanged) (heard : Heard) (pdu : List ℕ) → IsCounted end facts.acknowledgement → counts_in end heard ≡ true
    → whole_in max_rx (opens_now facts.encryption.end) heard ≡ Some pdu → counts_here facts pdu ≡ true
heard_counts max_rx facts end NotOurs pdu counted is at = absurd cc
heard_counts max_rx facts end Broken pdu counted is at = absurd cc
heard_counts max_rx facts end (Whole p) pdu counted is at =
    ap (counts_here facts) (sym (in_room (has_room_for max_rx (opens_now facts.encryption.end) p.items) p.items pdu at)) ∙ counts_as end facts p.items counted ∙ is

counts_whole : (setup : Setup) (facts : Facts) (end : Exchanged) (octets : List ℕ) → IsCounted end facts.acknowledgement
    → counts_in end (heard_of setup facts octets) ≡ true → CountsWhole setup facts octets
unfolding whole_pdu
counts_whole setup facts end octets counted is =
    λ pdu at. heard_counts setup.link.max_rx facts end (heard_of setup facts octets) pdu counted is at

-- ---- a packet tells how long its payload is

abbrev pub IsSevenLonger : Type 0
IsSevenLonger = (channel access init : ℕ) (pdu : List ℕ) → length (on_air channel access init pdu) ≡ length pdu + 7

packet_length : IsSevenLonger → (front : List Entry) (side : Side) (channel : ℕ) (octets : List ℕ) (packet : IsLinkPacket front side channel octets)
    → length octets ≡ length packet.payload + 9
packet_length longer front side channel octets packet =
    let pdu = air_pdu (bits_of (exchange_of packet.number front side)) (carried_of packet.number front side).llid packet.md packet.payload in
    let whole = ap (λ (xs : List ℕ). length xs) packet.carries ∙ longer channel packet.link.fields.access packet.link.fields.crc_init pdu in
    omega (arith, whole)

-- ---- what the laws of runs give

module _ (words : Words) (given : Given) where
  abbrev pub Payloads : Type 0
  Payloads =
      (front rest : List Entry) (side : Side) (channel : ℕ) (octets : List ℕ) (fate : Mark) (verdict : Verdict)
      → journal_of (history_of (run_of given)) ≡ front ++ Air side channel octets fate verdict ∷ rest → is_advertising channel ≡ false
      → HasPayload words front side channel octets

-- ---- a line

module _ (words : Words) (whole : IsHeardWhole) (opens_there : IsOpenedThere) (longer : IsSevenLonger) (understood : IsUnderstood) (taken : AreTaken) (apart : AreApart)
    (given : Given) (are_two : IsOfTwo given) (six : HaveAddresses given) (asks : AsksMayCome given) (heards : AllAreHeard words given) (lines : Payloads words given)
    (ends : HavePayloads words given) (keys : KeysAreGiven words given) (hear : AllHear words given) (pure : AllPure words given)
    (front rest : List Entry) (side : Side) (channel : ℕ) (octets : List ℕ) (fate : Mark) (verdict : Verdict) (number : ℕ)
    (at : journal_of (history_of (run_of given)) ≡ front ++ Air side channel octets fate verdict ∷ rest) (off : is_advertising channel ≡ false)
    (named : is_number (link_of_packet front side octets) number ≡ true) (unchanged : bytes_eq (left_of fate octets) octets ≡ true) (handed : is_handed verdict ≡ true) where
  line : IsHeardLine given front side channel octets fate verdict
  line = heards front rest side channel octets fate verdict at off handed

  abbrev before : List Event
  before = line.aired.before

  abbrev station : ℕ
  station = line.aired.station

  abbrev hearing : Hearing
  hearing = line.aired.hearing

  abbrev event : Event
  event = Transmitted station channel octets (hearing ∷ line.aired.others)

  is_at : history_of (run_of given) ≡ before ++ event ∷ line.aired.after
  is_at = line.aired.is_at

  held : HasPayloadOfEnd given before station channel octets
  held = ends before line.aired.after station channel octets (hearing ∷ line.aired.others) is_at off

  now : IsSentNow given before station channel octets
  now = sent_now given six (are_distinct given are_two) before line.aired.after station channel octets (hearing ∷ line.aired.others) is_at off

  in_station : Contains given.stations station
  in_station = is_of_two given are_two station now.in_it

  same : damaged_packet hearing.fate octets ≡ octets
  same = sym (ap (λ mark. left_of mark octets) line.aired.fate_is ∙ left_is hearing.fate octets) ∙ (bytes_eq-Decides (left_of fate octets) octets).0 unchanged

  -- ---- the number of the link

  number_by : (n : ℕ) → link_of_packet (journal_of before) (side_of station) octets ≡ Some n → n ≡ number
  number_by n is =
      one_number (link_of_packet front side octets) number n ((λ i. link_of_packet (line.aired.front_is i) (line.aired.side_is i) octets) ∙ is) named

  number_is : line.by_end.number ≡ number
  number_is = number_by line.by_end.number (line.by_end.belongs same)

  held_number : held.packet.number ≡ number
  held_number = number_by held.packet.number held.packet.belongs

  lined : HasPayload words front side channel octets
  lined = lines front rest side channel octets fate verdict at off

  lined_number : lined.packet.number ≡ number
  lined_number = one_number (link_of_packet front side octets) number lined.packet.number lined.packet.belongs named

  -- ---- the end that hears it

  abbrev listener : ℕ
  listener = hearing.listener

  abbrev own_facts : Facts
  own_facts = facts_in line.by_end.link

  listener_is : other_side side ≡ side_of listener
  listener_is = ap other_side line.aired.side_is ∙ sym line.by_end.side_is

  own_number : number ≡ (links_of before).link_of listener line.by_end.handle
  own_number = sym number_is ∙ line.by_end.number_is

  own_keys : keyed_on words (other_side side) number front ≡ Some (keyed_of own_facts)
  own_keys =
      (λ i. keyed_on words (listener_is i) (own_number i) (line.aired.front_is i))
      ∙ keys before line.aired.after station channel octets (hearing ∷ line.aired.others) listener line.by_end.handle line.by_end.link line.by_end.listens is_at
      line.by_end.is_open

  counts_here_too : counts_on (link_numbered number front) (exchange_of number front (other_side side)) channel octets ≡ true
      → CountsWhole line.by_end.link.setup own_facts octets
  counts_here_too counts =
      let end = exchange_of line.by_end.number (journal_of before) (side_of listener) in
      let fields = line.by_end.fields in
      counts_whole line.by_end.link.setup own_facts end octets line.by_end.counted
      ((λ i. counts_in end (heard_in (sym line.by_end.channel_is i) (sym fields i).access (sym fields i).crc_init octets))
      ∙ ap (λ begun. counts_on begun end channel octets) (sym line.by_end.is_link)
      ∙ (λ i. counts_on (link_numbered (number_is i) (sym line.aired.front_is i)) (exchange_of (number_is i) (sym line.aired.front_is i) (sym listener_is i)) channel octets)
      ∙ counts)

  -- ---- the end that sent it

  abbrev sent_link : OpenLink
  sent_link = link_after (PacketSent held.sent.slot) held.sent.link

  abbrev there : OpenLink
  there = link_after (PacketSent (facts_at given station before).turn.slot) now.link

  one_link : there ≡ sent_link
  one_link =
      let handles = sends_one (facts_at given station before).turn.doing held.sent.handle now.handle held.sent.sends now.sends in
      let h : Some there ≡ Some sent_link = sym now.is_open ∙ ap (λ n. link_at n (facts_at given station before).links) (sym handles) ∙ held.sent.is_open in cc

  payload_is : length (payload_carried words number front side) ≡ length (facts_in there).outgoing.payload
  payload_is =
      let by_lines = packet_length longer front side channel octets lined.packet in
      let by_end = packet_length longer (journal_of before) (side_of station) channel octets held.packet in
      ap (λ n. length (payload_carried words n front side)) (sym lined_number) ∙ ap (λ (xs : List ℕ). length xs) (sym lined.payload_is)
      ∙ omega (arith, by_lines, by_end) ∙ ap (λ (xs : List ℕ). length xs) held.kept
      ∙ ap (λ (l : OpenLink). length (facts_in l).outgoing.payload) (sym one_link)

  pdu_is : (facts_in there).acknowledgement.last ≡ carried_of number front side
  pdu_is =
      ap (λ (l : OpenLink). (facts_in l).acknowledgement.last) one_link
      ∙ ap (λ (f : Facts). f.acknowledgement.last) (step_facts held.sent.link (PacketSent held.sent.slot))
      ∙ (has_sent held.sent.slot (facts_in held.sent.link)).last ∙ sym held.pdu_is
      ∙ (λ i. carried_of (held_number i) (sym line.aired.front_is i) (sym line.aired.side_is i))

  -- ---- both

  module _ (counts : counts_on (link_numbered number front) (exchange_of number front (other_side side)) channel octets ≡ true)
      (unmixed : is_mixed words number front ≡ false) where
    unmixed_too : is_mixed words line.by_end.number (journal_of before) ≡ false
    unmixed_too = (λ i. is_mixed words (number_is i) (sym line.aired.front_is i)) ∙ unmixed

    abbrev own_end : OpenEnd
    own_end = record { station = listener; handle = line.by_end.handle; link = line.by_end.link }

    abbrev far_end : OpenEnd
    far_end = record { station = station; handle = now.handle; link = there }

    in_own : is_in listener given.stations ≡ true
    in_own = contains_in given.stations listener line.by_end.listens

    listens : link_listened (facts_at given listener before).turn.doing ≡ Some line.by_end.handle
    listens = listens_is line.by_end.handle (facts_at given listener before).turn.doing line.by_end.on

    sent_it : HasSentNow given before own_end far_end own_facts.event.channel octets
    sent_it = record {
      sent = record {
        handle = now.handle;
        slot = (facts_at given station before).turn.slot;
        link = now.link;
        is_open = now.is_open;
        is_end = record { fields = refl; opened = refl };
        packet = now.packet;
        channel_is = sym line.by_end.channel_is ∙ now.channel_is;
      };
      now = now.one_turn listener in_own;
    }

    both_sealed : IsSealedFor (facts_in there) own_facts
    both_sealed =
        let hearings = hearing ∷ line.aired.others in
        let later = event ∷ line.aired.after in
        let none_mixed = pure before later line.by_end.number is_at unmixed_too in
        of_both understood taken apart given are_two six before line.aired.after station channel octets hearing line.aired.others is_at line.by_end held.sent now same
        (IsSealedFor (facts_in there) own_facts)
        (λ of_link begun.
        sealed_at_central whole opens_there understood taken given six (are_distinct given are_two) asks before line.aired.after station channel octets hearings own_end
        far_end is_at in_own now.in_it of_link line.by_end.is_open now.is_open (hear before later is_at own_end far_end line.by_end.listens in_station of_link)
        (none_mixed own_end far_end of_link line.by_end.listens in_station begun) listens sent_it (counts_here_too counts))
        (λ of_link begun.
        sealed_at_peripheral whole opens_there understood taken given six (are_distinct given are_two) asks before line.aired.after station channel octets hearings far_end
        own_end is_at now.in_it in_own of_link now.is_open line.by_end.is_open (hear before later is_at far_end own_end in_station line.by_end.listens of_link)
        (none_mixed far_end own_end of_link in_station line.by_end.listens begun) listens sent_it (counts_here_too counts))

    agrees : (other : Keyed) → keyed_on words (other_side side) number front ≡ Some other
        → length (payload_carried words number front side) ≡ length (carried_of number front side).body + code_expected other
    agrees other is_other =
        let h : Some (keyed_of own_facts) ≡ Some other = sym own_keys ∙ is_other in
        let one : keyed_of own_facts ≡ other = cc in
        payload_is ∙ both_sealed
        ∙ (λ i. length (pdu_is i).body + code_expected (one i))

pub sealed_as_opened : (words : Words) → IsHeardWhole → IsOpenedThere → IsSevenLonger → IsUnderstood → AreTaken → AreApart → (given : Given) → IsOfTwo given
    → HaveAddresses given → AsksMayCome given → AllAreHeard words given → Payloads words given → HavePayloads words given → KeysAreGiven words given → AllHear words given
    → AllPure words given → AllAreSealedAsOpened words (journal_of (history_of (run_of given)))
sealed_as_opened words whole opens_there longer understood taken apart given are_two six asks heards lines ends keys hear pure =
    λ front rest side channel octets fate verdict number at of_link unchanged handed counts unmixed.
    let parts = on_data (is_advertising channel) (is_number (link_of_packet front side octets) number) of_link in
    agrees words whole opens_there longer understood taken apart given are_two six asks heards lines ends keys hear pure front rest side channel octets fate verdict number
    at parts.0 parts.1 unchanged handed counts unmixed
