-- A packet brings the new PDU that the last line of its side tells.
use Rattle.std.proofs.Common.{◌≡◌, ℕ, ◌==◌, Bool, true, false, Option, Some, None, List, ◌∷◌, ◌++◌, length, refl, sym, ap, subst, ◌∙◌}
use Rattle.std.specs.Prelude.{if◌then◌else◌}
use Rattle.ack_bit.specs.Nonempty.{nonempty}
use Rattle.ble_base.specs.declared.roles.Side.{Side}
use Rattle.journal.specs.declared.entries.Entry.{Entry}
use Rattle.journal_leaving.specs.link_model.Acknowledgement.{Acknowledgement, is_acked}
use Rattle.journal_leaving.specs.link_model.Data.{is_empty, numbered}
use Rattle.journal_leaving.specs.link_model.Controls.{pdu_fixed}
use Rattle.journal_leaving.specs.link_model.Step.{PacketSent}
use Rattle.journal_leaving.proofs.link_model.Agreeing.{ack_ahead as sent_ack}
use Rattle.journal_leaving.proofs.link_model.Hearing.{IsHeardWhole}
use Rattle.journal_leaving.specs.journal_data.open_links.OpenLinks.{OpenLink, facts_in, link_after, link_at}
use Rattle.journal_leaving.specs.controller_model.Facts.{Sends}
use Rattle.journal_leaving.specs.run_model.Feeding.{AreDistinct}
use Rattle.journal_leaving.specs.run_model.History.{Event}
use Rattle.journal_leaving.specs.run_model.Journal.{journal_of, side_of}
use Rattle.journal_leaving.specs.run_model.LinkEnds.{HaveAddresses}
use Rattle.journal_leaving.specs.run_model.Links.{is_advertising}
use Rattle.journal_leaving.specs.run_model.Run.{Given, facts_at, setup_at, use_at}
use Rattle.journal_leaving.proofs.run_model.LinkEnds.{wanted_is}
use Rattle.journal_leaving.proofs.run_model.Stations.{among}
use Rattle.journal_leaving.proofs.run_model.Walk.{Place, AtPackets}
use Rattle.journal_leaving.proofs.journal_data.run_laws.Agreed.{ack_of, ack_sent}
use Rattle.journal_leaving.specs.journal_packets.Belonging.{link_of_packet}
use Rattle.journal_leaving.specs.journal_packets.Senders.{IsOfSendersLink}
use Rattle.journal_leaving.specs.journal_acks.Carried.{carried_of}
use Rattle.journal_leaving.proofs.journal_acks.Counting.{AreKnown}
use Rattle.journal_leaving.proofs.journal_acks.Exchanging.{exchange_at, number_at}
use Rattle.journal_leaving.specs.journal_acks.link_calls.Uses.{sends_under}
use Rattle.journal_leaving.proofs.journal_acks.Standing.{other_sends, phased_at}
use Rattle.journal_leaving.proofs.journal_acks.TwoStations.{IsOfTwo}
use Rattle.journal_leaving.proofs.journal_acks.link_calls.UnderHandles.{same_base}
use Rattle.journal_leaving.specs.journal_data.Lines.{PduLine}
use Rattle.journal_leaving.proofs.journal_data.Arriving.{lines_length}
use Rattle.journal_leaving.proofs.journal_data.FewLinks.{HaveFewLinks}
use Rattle.journal_sending.specs.Announced.{new_pdu_on, last_number_sent, new_pdu_of}
use Rattle.journal_sending.proofs.Together.{IsKnownAt}
use Rattle.journal_sending.proofs.ToldLines.{told_at}
use Rattle.journal_sending.proofs.SendingEnd.{acked_is, booked_is, carried_is, from, sends_on}
use Rattle.journal_sending.proofs.Told.{IsTold, Tells, TellsAt, TellsOn, brings_line, line_to_send, sent_under, tells_none}

-- what a packet on this channel brings
abbrev pub brought_in : List Event → ℕ → ℕ → List ℕ → Option PduLine
brought_in history station channel octets =
    new_pdu_on (journal_of history) (side_of station) channel octets

-- a station that transmits nothing on a link
pub silent_told : (given : Given) (station : ℕ) (history : List Event) → IsTold given true station history
    → ((handle : ℕ) (link : OpenLink) → link_at handle (facts_at given station history).links ≡ Some link → sends_under handle (facts_at given station history).turn.doing ≡ false)
    → told_at station history ≡ None
silent_told given station history told off =
    tells_none (facts_at given station history).turn.doing (facts_at given station history).links station history told
    (λ handle link on at. let h : true ≡ false = sym on ∙ off handle link at in absurd cc)

open_tells : (given : Given) (station handle : ℕ) (history : List Event) (after : OpenLink) → sends_under handle (facts_at given station history).turn.doing ≡ true
    → link_at handle (facts_at given station history).links ≡ Some after → IsTold given true station history → Tells station handle history after
open_tells given station handle history after on at told =
    subst (λ place. TellsAt place handle station history) at
    (subst (λ may. TellsOn may (facts_at given station history).links station history) (sent_under handle (facts_at given station history).turn.doing on) told)

-- what is told of the packet of this end
pub record TellsOf (station handle : ℕ) (history : List Event) (link : OpenLink) : Type 0 where
  pub sent : (exchange_at (number_at station handle history) history (side_of station)).sent ≡ length (ack_of link).sent
  pub told_is : told_at station history ≡ line_to_send (number_at station handle history) (facts_in link)

module _ (whole : IsHeardWhole) (given : Given) (Q : Place → List Event → Type 0) (known : AreKnown given Q) (are_two : IsOfTwo given) (few_links : HaveFewLinks given) (six : HaveAddresses given)
    (distinct : AreDistinct given.stations) (eight : (station : ℕ) → (setup_at given station).host_buffers ≡ 8) (phases : ℕ) (done left : List ℕ) (station channel : ℕ) (octets : List ℕ)
    (history : List Event) (are : given.stations ≡ done ++ station ∷ left) (wanted : use_at given station history ≡ Sends channel octets)
    (is : IsKnownAt given Q (AtPackets phases done (station ∷ left)) history) (told_is : IsTold given true station history) where
  abbrev side : Side
  side = side_of station

  abbrev front : List Entry
  front = journal_of history

  module _ (off : is_advertising channel ≡ false) where
    abbrev sending : IsOfSendersLink given history station channel octets
    sending = from whole given Q known are_two few_links six distinct eight phases done left station channel octets history are wanted is off

    abbrev sent_on : OpenLink
    sent_on = link_after (PacketSent sending.slot) sending.link

    abbrev number : ℕ
    number = number_at station sending.handle history

    pub tells_of : TellsOf station sending.handle history sending.link
    tells_of =
        let tells = open_tells given station sending.handle history sent_on
        (sends_on whole given Q known are_two few_links six distinct eight phases done left station channel octets history are wanted is off) sending.is_open told_is in
        subst (TellsOf station sending.handle history) (sym (same_base sending.slot tells.slot sending.link tells.base tells.after_is))
        (record { sent = tells.sent; told_is = tells.told_is })

    count_is : last_number_sent number front side ≡ numbered (sent_ack (facts_in sending.link)).sent
    count_is =
        ap length (booked_is whole given Q known are_two few_links six distinct eight phases done left station channel octets history are wanted is off).sent
        ∙ lines_length number 1 (nonempty is_empty (ack_of sent_on).sent) ∙ ap (λ (a : Acknowledgement). numbered a.sent) (ack_sent sending.slot sending.link)

    link_brings : told_at station history ≡ new_pdu_of (link_of_packet front side octets) front side
    link_brings =
        let base = facts_in sending.link in
        let ack = base.acknowledgement in
        let acked = acked_is whole given Q known are_two few_links six distinct eight phases done left station channel octets history are wanted is off in
        tells_of.told_is
        ∙ brings_line (is_acked ack) (is_empty (pdu_fixed base)) ack (pdu_fixed base) (carried_of number front side) (exchange_at number history side) number (last_number_sent number front side) refl
        (λ i. acked i == tells_of.sent i) (carried_is whole given Q known are_two few_links six distinct eight phases done left station channel octets history are wanted is off) count_is
        ∙ ap (λ may. new_pdu_of may front side)
        (sym sending.belongs)

  pub packet_brings : told_at station history ≡ brought_in history station channel octets
  packet_brings = by (is_advertising channel) refl
    where
      by : (on : Bool) → is_advertising channel ≡ on
          → told_at station history ≡ (if on then None else new_pdu_of (link_of_packet (journal_of history) (side_of station) octets) (journal_of history) (side_of station))
      by true on =
          silent_told given station history told_is (λ handle link at.
          other_sends (facts_at given station history) handle channel octets link
          (phased_at given (AtPackets phases done (station ∷ left)) history is.data_is.counted.holds.hearing.stand station (among given.stations done left station are)).uses.sends at
          (wanted_is given station history ∙ wanted) on)
      by false off = link_brings off
