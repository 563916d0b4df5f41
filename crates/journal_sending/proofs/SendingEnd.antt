-- The end that is to transmit a packet on its link, by what the lines before it say.
use Rattle.std.proofs.Common.{◌≡◌, ℕ, ◌+◌, true, false, List, [], ◌∷◌, ◌++◌, length, sym, ap, ◌∙◌}
use Rattle.journal_leaving.proofs.link_model.Agreeing.{ack_ahead as sent_ack}
use Rattle.journal_leaving.proofs.link_model.Hearing.{IsHeardWhole}
use Rattle.journal_leaving.specs.link_model.Acknowledgement.{Acknowledgement}
use Rattle.journal_leaving.specs.link_model.Step.{PacketSent}
use Rattle.journal_leaving.specs.journal_data.open_links.OpenLinks.{OpenLink, facts_in, link_after}
use Rattle.journal_leaving.specs.controller_model.Facts.{Facts, Sends}
use Rattle.journal_leaving.specs.controller_model.Since.{data_waiting}
use Rattle.journal_leaving.specs.run_model.Feeding.{AreDistinct}
use Rattle.journal_leaving.specs.run_model.History.{Event}
use Rattle.journal_leaving.specs.run_model.Journal.{journal_of, side_of}
use Rattle.journal_leaving.specs.run_model.LinkEnds.{HaveAddresses}
use Rattle.journal_leaving.specs.run_model.Links.{is_advertising}
use Rattle.journal_leaving.specs.run_model.Run.{Given, facts_at, setup_at, use_at}
use Rattle.journal_leaving.proofs.run_model.Stations.{is_in, among}
use Rattle.journal_leaving.proofs.run_model.Walk.{Place, AtPackets}
use Rattle.journal_leaving.proofs.journal_data.run_laws.Agreed.{ack_of, ack_sent}
use Rattle.journal_leaving.specs.journal_packets.Senders.{IsOfSendersLink}
use Rattle.journal_leaving.specs.journal_acks.Carried.{carried_of}
use Rattle.journal_leaving.specs.journal_acks.Exchange.{Exchanged}
use Rattle.journal_leaving.proofs.journal_acks.AirCounts.{sender_counted, sends_it}
use Rattle.journal_leaving.proofs.journal_acks.Counting.{AreKnown}
use Rattle.journal_leaving.proofs.journal_acks.Exchanging.{exchange_at, number_at}
use Rattle.journal_leaving.proofs.journal_acks.FixedPdus.{sent_out}
use Rattle.journal_leaving.proofs.journal_acks.KeptCounts.{AreCountedAt}
use Rattle.journal_leaving.specs.journal_acks.link_calls.Uses.{sends_under}
use Rattle.journal_leaving.proofs.journal_acks.TwoStations.{IsOfTwo}
use Rattle.journal_leaving.proofs.journal_data.Arriving.{IsEndBooked}
use Rattle.journal_leaving.proofs.journal_data.EachLine.{lines_at}
use Rattle.journal_leaving.proofs.journal_data.Ends.{sound}
use Rattle.journal_leaving.proofs.journal_data.FewLinks.{HaveFewLinks}
use Rattle.journal_sending.proofs.Together.{IsKnownAt}

module _ (whole : IsHeardWhole) (given : Given) (Q : Place → List Event → Type 0) (known : AreKnown given Q) (are_two : IsOfTwo given) (few_links : HaveFewLinks given)
    (six : HaveAddresses given) (distinct : AreDistinct given.stations) (eight : (station : ℕ) → (setup_at given station).host_buffers ≡ 8)
    (phases : ℕ) (done left : List ℕ) (station channel : ℕ) (octets : List ℕ) (history : List Event) (are : given.stations ≡ done ++ station ∷ left)
    (wanted : use_at given station history ≡ Sends channel octets) (has : IsKnownAt given Q (AtPackets phases done (station ∷ left)) history)
    (off : is_advertising channel ≡ false) where
  abbrev counted : AreCountedAt given Q (AtPackets phases done (station ∷ left)) history
  counted = has.lined.counts

  abbrev sender : Facts
  sender = facts_at given station history

  in_it : is_in station given.stations ≡ true
  in_it = among given.stations done left station are

  abbrev pub from : IsOfSendersLink given history station channel octets
  from = known.sends phases done left station history are counted.known channel octets wanted off

  -- the end as it sent
  abbrev pub sent_end : OpenLink
  sent_end = link_after (PacketSent from.slot) from.link

  abbrev pub number : ℕ
  number = number_at station from.handle history

  abbrev pub end : Exchanged
  end = exchange_at number history (side_of station)

  pub sends_on : sends_under from.handle sender.turn.doing ≡ true
  sends_on =
      sends_it whole given Q known are_two six distinct phases done left station channel octets [] history are wanted counted.known counted.holds counted.counted off

  pub acked_is : end.acked ≡ (ack_of from.link).acked
  acked_is =
      (sender_counted whole given Q known are_two six distinct phases done left station channel octets [] history are wanted counted.known counted.holds counted.counted off).acked
      ∙ ap (λ (a : Acknowledgement). a.acked) (ack_sent from.slot from.link)

  -- the packet carries what it sent last
  pub carried_is : carried_of number (journal_of history) (side_of station) ≡ (sent_ack (facts_in from.link)).last
  carried_is =
      sym ((has.lined.lines station from.handle sent_end in_it from.is_open).last end.acked
      (ap (λ n. n + 1) acked_is ∙ sent_out from.link ∙ ap (λ (a : Acknowledgement). length a.sent) (sym (ack_sent from.slot from.link))))
      ∙ ap (λ (a : Acknowledgement). a.last) (ack_sent from.slot from.link)

  pub booked_is : IsEndBooked number (lines_at station history) (facts_in sent_end) (data_waiting from.handle sender.received)
  booked_is = (sound given station from.handle history sent_end (few_links.links station) (eight station) (has.data_is.are.well station in_it) from.is_open).booked
