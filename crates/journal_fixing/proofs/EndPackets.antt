-- Each packet of a link carries the PDU and the MD of the end that sends it.
use Rattle.std.proofs.Common.{◌≡◌, ℕ, ◌+◌, false, List, [], ◌∷◌, ◌++◌, length, sym, ap, ◌∙◌}
use Rattle.journal_controls.specs.controller_model.Facts.{Sends}
use Rattle.journal_controls.specs.journal_acks.Carried.{carried_of}
use Rattle.journal_controls.specs.journal_acks.Counted.{IsCounted}
use Rattle.journal_controls.specs.journal_acks.Exchange.{with_sent}
use Rattle.journal_controls.specs.journal_ends.open_links.OpenLinks.{facts_in}
use Rattle.journal_controls.specs.link_model.Acknowledgement.{Acknowledgement}
use Rattle.journal_controls.specs.link_model.Packets.{pdu_sent}
use Rattle.journal_controls.specs.run_model.Feeding.{AreDistinct}
use Rattle.journal_controls.specs.run_model.History.{Event, Hearing, Transmitted}
use Rattle.journal_controls.specs.run_model.Journal.{journal_of, side_of}
use Rattle.journal_controls.specs.run_model.LinkEnds.{HaveAddresses}
use Rattle.journal_controls.specs.run_model.Links.{is_advertising}
use Rattle.journal_controls.specs.run_model.Run.{Given, history_of, run_of, use_at}
use Rattle.journal_controls.proofs.journal_acks.AirCounts.{link_sent, own_number, sender_counted}
use Rattle.journal_controls.proofs.journal_acks.Counting.{AreKnown}
use Rattle.journal_controls.proofs.journal_acks.Exchanging.{exchange_at}
use Rattle.journal_controls.proofs.journal_acks.FixedPdus.{sent_out}
use Rattle.journal_controls.proofs.journal_acks.KeptLines.{AreLinedAt, lines_kept}
use Rattle.journal_controls.proofs.journal_acks.Known.{known_of}
use Rattle.journal_controls.proofs.journal_acks.LinkPackets.{link_packet, lines_first}
use Rattle.journal_controls.proofs.journal_acks.Seen.{seen_packet}
use Rattle.journal_controls.proofs.journal_acks.TwoStations.{IsOfTwo}
use Rattle.journal_controls.proofs.journal_ends.run_laws.Agreed.{ack_of, ack_sent}
use Rattle.journal_controls.proofs.journal_ends.run_laws.DistinctAccess.{AreApart}
use Rattle.journal_controls.proofs.journal_links.OfTwo.{are_distinct}
use Rattle.journal_controls.proofs.journal_packets.AccessOrder.{AreNth}
use Rattle.journal_controls.proofs.journal_packets.SoFar.{IsBelongingSoFar}
use Rattle.journal_controls.proofs.link_model.Hearing.{IsHeardWhole}
use Rattle.journal_controls.proofs.run_model.LinkEnds.{AreTaken, IsUnderstood}
use Rattle.journal_controls.proofs.run_model.Stations.{among}
use Rattle.journal_controls.proofs.run_model.Walk.{AtPackets, Place}
use Rattle.journal_fixing.specs.EndPackets.{IsOfEnd}

module _ (whole : IsHeardWhole) (given : Given) (Q : Place → List Event → Type 0) (known : AreKnown given Q) (are_two : IsOfTwo given) (six : HaveAddresses given)
    (distinct : AreDistinct given.stations) where
  end_packet : (phases : ℕ) (done left : List ℕ) (station channel : ℕ) (octets : List ℕ) (history : List Event) → given.stations ≡ done ++ station ∷ left
      → use_at given station history ≡ Sends channel octets → AreLinedAt given Q (AtPackets phases done (station ∷ left)) history → is_advertising channel ≡ false
      → IsOfEnd given history station channel octets
  end_packet phases done left station channel octets history are wanted lined off =
      let has = lined.counts in
      let from = known.sends phases done left station history are has.known channel octets wanted off in
      let is = link_packet whole given Q known are_two six distinct phases done left station channel octets history are wanted lined off in
      let sender = link_sent whole given Q known are_two six distinct phases done left station channel octets [] history are wanted has.known has.holds has.counted off in
      let number = own_number whole given Q known are_two six distinct phases done left station channel octets [] history are wanted has.known has.holds has.counted off in
      let end = exchange_at number history (side_of station) in
      let counted : IsCounted (with_sent end) (ack_of sender) =
      sender_counted whole given Q known are_two six distinct phases done left station channel octets [] history are wanted has.known has.holds has.counted off in
      let acked = counted.acked ∙ ap (λ (a : Acknowledgement). a.acked) (ack_sent from.slot from.link) in
      let last = (lined.lines station from.handle sender (among given.stations done left station are) from.is_open).last end.acked
      (ap (λ n. n + 1) acked ∙ sent_out from.link ∙ ap (λ (a : Acknowledgement). length a.sent) (sym (ack_sent from.slot from.link))) in
      let carried : carried_of number (journal_of history) (side_of station) ≡ pdu_sent (facts_in from.link) =
      sym last ∙ ap (λ (a : Acknowledgement). a.last) (ack_sent from.slot from.link) in record {
        sent = from;
        packet = is.packet;
        number_is = is.number_is;
        pdu_is = ap (λ n. carried_of n (journal_of history) (side_of station)) is.number_is ∙ carried;
        md_is = is.more_is;
      }

abbrev IsOfEndIf : Given → List Event → ℕ → ℕ → List ℕ → Type 0
IsOfEndIf given history station channel octets = is_advertising channel ≡ false → IsOfEnd given history station channel octets

pub of_end : IsHeardWhole → IsUnderstood → AreTaken → AreNth → AreApart → (given : Given) → IsOfTwo given → HaveAddresses given
    → (before rest : List Event) (station channel : ℕ) (octets : List ℕ) (hearings : List Hearing) → history_of (run_of given) ≡ before ++ Transmitted station channel octets hearings ∷ rest
    → is_advertising channel ≡ false → IsOfEnd given before station channel octets
of_end whole understood taken nth apart given are_two six before rest station channel octets hearings at =
    let Q = IsBelongingSoFar given in
    let distinct = are_distinct given are_two in
    let known = known_of understood taken nth apart given are_two six in
    seen_packet given (AreLinedAt given Q) (lines_kept whole given Q known are_two six distinct) (λ history. Unit {0}) (IsOfEndIf given)
    (record {
      turn = λ history has. tt;
      packet = λ phases done left station channel octets history are wanted has off.
          end_packet whole given Q known are_two six distinct phases done left station channel octets history are wanted has off;
    }) (lines_first given) before rest station channel octets hearings at
