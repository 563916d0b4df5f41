-- Each packet of a link carries what the journal before it says.
use Rattle.std.proofs.Common.{◌≡◌, ℕ, zero, suc, ◌+◌, false, true, Some, None, Option, replicate, List, [], ◌∷◌, ◌++◌, length, refl, sym, ap, subst, ◌∙◌}
use Rattle.std.specs.Prelude.{nat_lt}
use Rattle.ble_base.specs.declared.roles.Side.{Side}
use Rattle.ack_bit.specs.AckBits.{is_odd}
use Rattle.air_frame.specs.Packet.{on_air}
use Rattle.journal.specs.declared.entries.Entry.{Entry}
use Rattle.journal.specs.declared.entries.Mark.{Mark}
use Rattle.ble_base.specs.declared.verdicts.Verdict.{Verdict}
use Rattle.journal_packets.proofs.link_model.Hearing.{IsHeardWhole}
use Rattle.journal_packets.specs.link_model.Acknowledgement.{Acknowledgement, Pdu}
use Rattle.journal_packets.specs.link_model.Packets.{more_sent, packet_sent, payload_sent, pdu_sent}
use Rattle.journal_packets.specs.link_model.Step.{PacketSent}
use Rattle.journal_packets.specs.open_links.OpenLinks.{OpenLink, facts_in, has_entered, link_after}
use Rattle.journal_packets.specs.controller_model.Facts.{Sends}
use Rattle.journal_packets.specs.controller_model.Side.{facts_of}
use Rattle.link_calls.specs.run_model.Entries.{IsAired}
use Rattle.link_calls.specs.run_model.Feeding.{AreDistinct}
use Rattle.link_calls.specs.run_model.History.{Event, Hearing, Transmitted, past_of}
use Rattle.link_calls.specs.run_model.Journal.{journal_of, side_of}
use Rattle.link_calls.specs.run_model.LinkEnds.{HaveAddresses}
use Rattle.link_calls.specs.run_model.Links.{is_advertising}
use Rattle.link_calls.specs.run_model.Run.{Given, facts_at, history_of, run_of, setup_at, use_at}
use Rattle.link_calls.proofs.run_model.LinkEnds.{AreTaken, IsUnderstood}
use Rattle.link_calls.proofs.run_model.Stations.{among}
use Rattle.link_calls.proofs.run_model.Walk.{Place, NoTurn, AtPackets}
use Rattle.journal_packets.proofs.run_laws.Agreed.{ack_of, ack_sent, step_facts}
use Rattle.journal_packets.proofs.run_laws.DistinctAccess.{AreApart}
use Rattle.journal_packets.proofs.run_laws.OpenSteps.{none_open, open_has}
use Rattle.journal_packets.specs.Senders.{IsOfSendersLink}
use Rattle.journal_packets.proofs.AccessOrder.{AreNth}
use Rattle.journal_packets.proofs.SoFar.{IsBelongingSoFar}
use Rattle.journal_acks.specs.Carried.{IsLinkPacket, air_pdu, bits_of, carried_of}
use Rattle.journal_acks.specs.Counted.{IsCounted}
use Rattle.journal_acks.specs.Exchange.{Exchanged, with_sent}
use Rattle.journal_acks.specs.Held.{HasPayloadOfEnd}
use Rattle.journal_acks.proofs.AirCounts.{link_sent, own_number, sender_counted, sends_it}
use Rattle.journal_acks.proofs.Counting.{AreKnown}
use Rattle.link_calls.proofs.Exchanging.{sender_entered}
use Rattle.link_calls.proofs.HeardSteps.{sent_in}
use Rattle.journal_packets.proofs.controller_model.Exchanges.{always_in_event}
use Rattle.journal_packets.specs.link_model.declared.events.ConnectionEvent.{ConnectionEvent}
use Rattle.journal_packets.specs.link_model.Facts.{Facts as EndFacts}
use Rattle.journal_acks.proofs.EntryNotes.{channel_if, channel_last}
use Rattle.journal_acks.proofs.EntryLines.{channel_at, channel_read}
use Rattle.journal_acks.proofs.Exchanging.{exchange_at, number_at}
use Rattle.journal_acks.proofs.FixedPdus.{sent_out}
use Rattle.journal_acks.proofs.KeptLines.{AreLined, AreLinedAt, lines_kept}
use Rattle.journal_acks.proofs.Known.{known_of}
use Rattle.journal_packets.specs.run_laws.Ranges.{IsPayload}
use Rattle.journal_packets.proofs.run_laws.Payloads.{payload_is, payload_out}
use Rattle.journal_acks.proofs.RunCounts.{counts_first}
use Rattle.journal_acks.proofs.Seen.{seen_packet}
use Rattle.journal_acks.proofs.TwoStations.{IsOfTwo}

-- ---- where a packet is to be sent

on_its_channel : (slot : ℕ) (link : OpenLink) (may : Option ℕ) (channel : ℕ) → has_entered (link_after (PacketSent slot) link) ≡ true → channel ≡ (facts_in link).event.channel
    → may ≡ channel_last (facts_in (link_after (PacketSent slot) link)) → may ≡ Some channel
on_its_channel slot link may channel entered on is =
    is ∙ by (facts_in (link_after (PacketSent slot) link)).control.track.entered entered
    ∙ ap Some (ap (λ (f : EndFacts). f.event.channel) (step_facts link (PacketSent slot)) ∙ ap (λ (e : ConnectionEvent). e.channel) (sent_in slot (facts_in link)).event ∙ sym on)
  where
    by : (count : ℕ) → nat_lt 0 count ≡ true
        → channel_if count (facts_in (link_after (PacketSent slot) link)).event.channel ≡ Some (facts_in (link_after (PacketSent slot) link)).event.channel
    by zero none = absurd cc
    by (suc count) some = refl

-- the packet, by the counts and the lines of the journal
packet_is : (link : OpenLink) (end : Exchanged) (pdu : Pdu) (channel access init : ℕ) → channel ≡ (facts_in link).event.channel → access ≡ link.setup.link.fields.access
    → init ≡ link.setup.link.fields.crc_init → end.acked ≡ (ack_of link).acked → end.accepted ≡ length (ack_of link).accepted → pdu ≡ pdu_sent (facts_in link)
    → packet_sent link.setup (facts_in link)
    ≡ on_air channel access init (air_pdu (bits_of end) pdu.llid (more_sent (facts_in link)) (payload_sent (facts_in link)))
unfolding packet_sent
packet_is link end pdu channel access init on has begins acked accepted same =
    λ i. on_air (sym on i) (sym has i) (sym begins i)
    (air_pdu (record { sn = is_odd (sym acked i); nesn = is_odd (sym accepted i) }) (sym same i).llid (more_sent (facts_in link)) (payload_sent (facts_in link)))

-- a packet of the link that its sender has open, with the MD of its end
pub record IsPacketOf (given : Given) (history : List Event) (station channel : ℕ) (octets : List ℕ) (from : IsOfSendersLink given history station channel octets) : Type 0 where
  pub packet : IsLinkPacket (journal_of history) (side_of station) channel octets
  pub number_is : packet.number ≡ number_at station from.handle history
  pub more_is : packet.md ≡ more_sent (facts_in from.link)
  pub pdu_is : carried_of packet.number (journal_of history) (side_of station) ≡ pdu_sent (facts_in from.link)
  pub payload_is : packet.payload ≡ payload_sent (facts_in from.link)

module _ (whole : IsHeardWhole) (given : Given) (Q : Place → List Event → Type 0) (known : AreKnown given Q) (are_two : IsOfTwo given) (six : HaveAddresses given)
    (distinct : AreDistinct given.stations) where
  pub link_packet : (phases : ℕ) (done left : List ℕ) (station channel : ℕ) (octets : List ℕ) (history : List Event) (are : given.stations ≡ done ++ station ∷ left)
      (wanted : use_at given station history ≡ Sends channel octets) (lined : AreLinedAt given Q (AtPackets phases done (station ∷ left)) history)
      (off : is_advertising channel ≡ false)
      → IsPacketOf given history station channel octets (known.sends phases done left station history are lined.counts.known channel octets wanted off)
  link_packet phases done left station channel octets history are wanted lined off =
      let has = lined.counts in
      let place = AtPackets phases done (station ∷ left) in
      let in_it = among given.stations done left station are in
      let setup = setup_at given station in
      let from = known.sends phases done left station history are has.known channel octets wanted off in
      let sender = link_sent whole given Q known are_two six distinct phases done left station channel octets [] history are wanted has.known has.holds has.counted off in
      let number = own_number whole given Q known are_two six distinct phases done left station channel octets [] history are wanted has.known has.holds has.counted off in
      let end = exchange_at number history (side_of station) in
      let counted : IsCounted (with_sent end) (ack_of sender) =
      sender_counted whole given Q known are_two six distinct phases done left station channel octets [] history are wanted has.known has.holds has.counted off in
      let on = sends_it whole given Q known are_two six distinct phases done left station channel octets [] history are wanted has.known has.holds has.counted off in
      let begun = known.begun place history has.known station from.handle sender in_it from.is_open in
      let entered = sender_entered from.handle (facts_at given station history) sender on (always_in_event setup (past_of station history)) from.is_open in
      let acked = counted.acked ∙ ap (λ (a : Acknowledgement). a.acked) (ack_sent from.slot from.link) in
      let last = (lined.lines station from.handle sender in_it from.is_open).last end.acked
      (ap (λ n. n + 1) acked ∙ sent_out from.link ∙ ap (λ (a : Acknowledgement). length a.sent) (sym (ack_sent from.slot from.link))) in
      let carried : carried_of number (journal_of history) (side_of station) ≡ pdu_sent (facts_in from.link) =
      sym last ∙ ap (λ (a : Acknowledgement). a.last) (ack_sent from.slot from.link) in
      record {
        packet = record {
          number = number;
          belongs = from.belongs;
          link = begun.link;
          is_link = begun.is_link;
          in_event = on_its_channel from.slot from.link (channel_at number station history) channel entered from.channel_is
              (channel_read (journal_of history) station number sender (known.lines place history has.known station from.handle sender in_it from.is_open));
          md = more_sent (facts_in from.link);
          payload = payload_sent (facts_in from.link);
          carries = from.packet ∙ packet_is from.link end (carried_of number (journal_of history) (side_of station)) channel begun.link.fields.access begun.link.fields.crc_init from.channel_is
              (ap (λ f. f.access) begun.fields) (ap (λ f. f.crc_init) begun.fields) acked
              (counted.accepted ∙ ap (λ (a : Acknowledgement). length a.accepted) (ack_sent from.slot from.link))
              carried;
          is_payload = subst (λ pdu. IsPayload pdu (payload_sent (facts_in from.link))) (sym carried) (payload_is from.link.setup from.link.past);
        };
        number_is = refl;
        more_is = refl;
        pdu_is = carried;
        payload_is = refl;
      }

-- ---- in a run of a pair

none_lined : (given : Given) → AreLined given []
unfolding facts_of
none_lined given = λ station handle link in_it at.
    absurd (open_has (λ one. ⊥) 0 handle (replicate (setup_at given station).links None) link (none_open (λ one. ⊥) (setup_at given station).links) at)

pub lines_first : (given : Given) → AreLinedAt given (IsBelongingSoFar given) NoTurn []
lines_first given = record { counts = counts_first given; lines = none_lined given }

-- and each has the payload of the end that sends it
abbrev HavePayloads : Given → List Event → ℕ → ℕ → List ℕ → Type 0
HavePayloads given history station channel octets = is_advertising channel ≡ false → HasPayloadOfEnd given history station channel octets

module _ (whole : IsHeardWhole) (understood : IsUnderstood) (taken : AreTaken) (nth : AreNth) (apart : AreApart) (given : Given) (are_two : IsOfTwo given) (six : HaveAddresses given)
    (distinct : AreDistinct given.stations) where
  pub payload_of_packet : (before rest : List Event) (station channel : ℕ) (octets : List ℕ) (hearings : List Hearing)
      → history_of (run_of given) ≡ before ++ Transmitted station channel octets hearings ∷ rest → is_advertising channel ≡ false
      → HasPayloadOfEnd given before station channel octets
  payload_of_packet before rest station channel octets hearings at off =
      let Q = IsBelongingSoFar given in
      let known = known_of understood taken nth apart given are_two six in
      seen_packet given (AreLinedAt given Q) (lines_kept whole given Q known are_two six distinct) (λ history. Unit {0}) (HavePayloads given)
      (record {
        turn = λ history has. tt;
        packet = λ phases done left sender sent_on sent_octets history are wanted has off_air.
            let from = known.sends phases done left sender history are has.counts.known sent_on sent_octets wanted off_air in
            let is = link_packet whole given Q known are_two six distinct phases done left sender sent_on sent_octets history are wanted has off_air in record {
              sent = from;
              packet = is.packet;
              number_is = is.number_is;
              pdu_is = is.pdu_is;
              payload_is = is.payload_is;
              kept = is.payload_is ∙ sym (payload_out from.link.setup (facts_in from.link) from.slot)
                  ∙ sym (ap (λ (f : EndFacts). f.outgoing.payload) (step_facts from.link (PacketSent from.slot)));
            };
      }) (lines_first given) before rest station channel octets hearings at off

  pub packet_of_line : (front : List Entry) (side : Side) (channel : ℕ) (octets : List ℕ) (fate : Mark) (verdict : Verdict) → IsAired given front side channel octets fate verdict
      → is_advertising channel ≡ false → IsLinkPacket front side channel octets
  packet_of_line front side channel octets fate verdict aired off =
      let seen = payload_of_packet aired.before aired.after aired.station channel octets (aired.hearing ∷ aired.others) aired.is_at off in
      subst (λ xs. IsLinkPacket xs side channel octets) (sym aired.front_is) (subst (λ s. IsLinkPacket (journal_of aired.before) s channel octets) (sym aired.side_is) seen.packet)
