-- In every run of two stations, the journal names the link on which a packet was sent.
use Rattle.std.proofs.Common.{◌≡◌, ℕ, zero, suc, ◌+◌, ◌⊎◌, inl, inr, true, false, Some, None, List, [], ◌∷◌, ◌++◌, take, refl, sym, ap, subst, ◌∙◌, arith}
use Rattle.std.specs.Prelude.{if◌then◌else◌, slice_get}
use Rattle.ble_base.specs.Side.{other_side}
use Rattle.ble_base.specs.declared.roles.Side.{Side}
use Rattle.ble_base.specs.declared.roles.Side.TheVariants.{A, B}
use Rattle.air_frame.specs.Packet.{access_octets}
use Rattle.journal_links.specs.link_model.Setup.{Setup as EndSetup}
use Rattle.journal_links.specs.link_model.Step.{PacketSent}
use Rattle.journal_links.specs.open_links.OpenLinks.{OpenLink, facts_in, link_after}
use Rattle.journal_links.specs.controller_model.declared.doing.Doing.TheVariants.{CentralSends}
use Rattle.journal_links.specs.controller_model.Facts.{Sends}
use Rattle.journal_links.specs.run_model.Due.{Each}
use Rattle.journal_links.specs.run_model.History.{Event, Transmitted, packet_received, turns_begun}
use Rattle.journal_links.specs.run_model.Journal.{journal_of, side_of}
use Rattle.journal_links.specs.run_model.LinkEnds.{HaveAddresses}
use Rattle.journal_links.specs.run_model.Links.{is_advertising, links_of}
use Rattle.journal_links.specs.run_model.Numbers.{AreNumbered, HasNumber}
use Rattle.journal_links.specs.run_model.Run.{Given, facts_at, setup_at, use_at}
use Rattle.journal_links.proofs.run_model.Places.{each_at}
use Rattle.journal_links.proofs.run_model.Stations.{among}
use Rattle.journal_links.proofs.run_model.Walk.{AtPackets}
use Rattle.journal_links.specs.run_laws.Access.{connects_sent}
use Rattle.journal_links.proofs.run_laws.ConnectInds.{TakenInOrder, on_channel}
use Rattle.journal_links.proofs.run_laws.DistinctAccess.{AreApart}
use Rattle.journal_links.proofs.run_laws.Hearings.{sends_deaf, use_sent_at}
use Rattle.journal_links.proofs.run_laws.OwnLinks.{at_central, at_peripheral, sent_begins}
use Rattle.journal_links.proofs.run_laws.SentPackets.{IsUseSent}
use Rattle.journal_links.proofs.run_laws.TurnPlaces.{Within}
use Rattle.journal_links.specs.Begun.{links_begun}
use Rattle.journal_packets.specs.Belonging.{first_number, is_side, link_of_packet}
use Rattle.journal_packets.specs.Senders.{IsOfSendersLink}
use Rattle.journal_packets.proofs.AccessOrder.{AreNth, first_is, sent_ordered}
use Rattle.journal_links.proofs.OfTwo.{of_two_stations, other_of}
use Rattle.journal_packets.proofs.AskedSoFar.{AreAsked, IsUnasked, OnlyAsked}
use Rattle.journal_packets.proofs.Replies.{AsCentral, AsPeripheral, IsFirst, IsSender, IsSending, sender_is, sending_at}
use Rattle.journal_packets.proofs.SentLinks.{IsOfTwo, begun_are_sent, link_begun, links_sent, sent_at}

-- ---- the side of the central

pub same_side : (side : Side) → is_side side side ≡ true
same_side A = refl
same_side B = refl

-- ---- the link of an end

-- the first link of its central that begins with the access address of the packet is the one with the number of the end
link_is : AreNth → AreApart → (given : Given) (history : List Event) (station number : ℕ) (end : EndSetup) (octets : List ℕ) → Each IsOfTwo [] history
    → Each (TakenInOrder given) [] history → (has : HasNumber history number station end) → take 4 octets ≡ access_octets end.link.fields.access
    → (has.has.sent.sender ≡ 0) ⊎ (has.has.sent.sender ≡ 1)
    → first_number (side_of has.has.sent.sender) octets 1 (links_begun (journal_of history)) ≡ Some number
link_is nth apart given history station number end octets sent taken has begins one =
    let from = has.has in
    let connect = from.sent in
    let sender = connect.sender in
    let place = (links_of from.before).begun in
    let link = link_begun sender from.before connect.ch_sel connect.fields in
    let at : slice_get (links_sent [] history) place ≡ Some link =
    ap (λ (h : List Event). slice_get (links_sent [] h) place) from.is_at
    ∙ sent_at from.before from.after sender connect.channel connect.octets connect.hearings connect.from connect.to connect.ch_sel connect.fields from.on_channel from.says in
    let more : 1 + place ≡ place + 1 = omega arith in
    ap (first_number (side_of sender) octets 1) (begun_are_sent history sent)
    ∙ first_is nth apart (side_of sender) (setup_at given sender).cursor (connects_sent sender []) 1 place octets (links_sent [] history) link
    (sent_ordered given sender one [] history sent taken) at (same_side (side_of sender)) (begins ∙ ap (λ f. access_octets f.access) (sym from.fields_are))
    ∙ ap Some (more ∙ sym has.number_is)

-- the sender of its CONNECT_IND
sender_one : (history : List Event) (station number : ℕ) (end : EndSetup) → Each IsOfTwo [] history → (has : HasNumber history number station end)
    → (has.has.sent.sender ≡ 0) ⊎ (has.has.sent.sender ≡ 1)
sender_one history station number end sent has =
    let from = has.has in
    let connect = from.sent in
    (each_at IsOfTwo history from.before from.after (Transmitted connect.sender connect.channel connect.octets connect.hearings) sent from.is_at).is_one

-- ---- a packet on a data channel

-- nothing asked for what a central sends
unasked : (phases handle : ℕ) (history : List Event) (station : ℕ) → IsFirst (Within phases) (CentralSends handle) → OnlyAsked phases history station
    → packet_received station history ≡ None → IsUnasked history station
unasked zero handle history station first only none = only none
unasked (suc phases) handle history station first only none = absurd first

not_both : (channel : ℕ) (X : Type 0) → is_advertising channel ≡ true → is_advertising channel ≡ false → X
not_both channel X on off = absurd (let h : true ≡ false = sym on ∙ off in absurd cc)

module _ (nth : AreNth) (apart : AreApart) (given : Given) (are_two : given.stations ≡ 0 ∷ 1 ∷ []) (six : HaveAddresses given) (phases : ℕ) (done left : List ℕ) (station : ℕ)
    (history : List Event) (are : given.stations ≡ done ++ station ∷ left) (asked : AreAsked given (AtPackets phases done (station ∷ left)) history)
    (numbered : AreNumbered given history) (channel : ℕ) (octets : List ℕ) (wanted : use_at given station history ≡ Sends channel octets) where
  one_of_two : (station ≡ 0) ⊎ (station ≡ 1)
  one_of_two = of_two_stations given are_two station (among given.stations done left station are)

  -- the packet that a link sends is of the link with the number of that
  belongs : (handle : ℕ) (link : OpenLink) → IsSending (setup_at given station) (Within phases) (turns_begun history) (facts_at given station history)
      → IsSender (facts_at given station history) handle link → take 4 octets ≡ access_octets link.setup.link.fields.access
      → HasNumber history ((links_of history).link_of station handle) station link.setup
      → link_of_packet (journal_of history) (side_of station) octets ≡ Some ((links_of history).link_of station handle)
  unfolding link_of_packet
  belongs handle link sending (AsCentral doing role) begins has =
      let number = (links_of history).link_of station handle in
      let one = sender_one history station number link.setup asked.sent has in
      let own = at_central link.setup.link.role station link.setup has.has.sent role has.has.is_at_end in
      let at = asked.asked station (among given.stations done left station are) in
      let none = sends_deaf given [] history station channel octets (asked.hearing.hears station (among given.stations done left station are)) wanted (packet_received station history) refl in
      let off = unasked phases handle history station (subst (IsFirst (Within phases)) doing sending.first) at.2 none octets in
      ap (λ b. first_number (if b then other_side (side_of station) else side_of station) octets 1 (links_begun (journal_of history))) off
      ∙ ap (λ n. first_number (side_of n) octets 1 (links_begun (journal_of history))) (sym own)
      ∙ link_is nth apart given history station number link.setup octets asked.sent asked.counted.each has begins one
  belongs handle link sending (AsPeripheral doing role) begins has =
      let number = (links_of history).link_of station handle in
      let one = sender_one history station number link.setup asked.sent has in
      let differs = at_peripheral link.setup.link.role station link.setup has.has.sent role has.has.is_at_end in
      let at = asked.asked station (among given.stations done left station are) in
      let on = at.0 handle channel octets doing wanted in
      ap (λ b. first_number (if b then other_side (side_of station) else side_of station) octets 1 (links_begun (journal_of history))) on
      ∙ ap (λ s. first_number s octets 1 (links_begun (journal_of history))) (sym (other_of has.has.sent.sender station one one_of_two differs))
      ∙ link_is nth apart given history station number link.setup octets asked.sent asked.counted.each has begins one

  sent_on : is_advertising channel ≡ false → IsUseSent (facts_at given station history) (Sends channel octets) → IsOfSendersLink given history station channel octets
  sent_on off (inl sent) = not_both channel _ (on_channel channel sent.on_channel) off
  sent_on off (inr sent) =
      let is = among given.stations done left station are in
      let sending = sending_at given (AtPackets phases done (station ∷ left)) history asked.hearing.stand station is in
      let after = link_after (PacketSent (facts_at given station history).turn.slot) sent.link in
      let sender = sender_is (setup_at given station) (Within phases) (turns_begun history) (facts_at given station history) sent.handle after sending sent.sends sent.is_open in
      let has = numbered station sent.handle after sent.is_open in record {
        handle = sent.handle;
        slot = (facts_at given station history).turn.slot;
        link = sent.link;
        is_open = sent.is_open;
        packet = sent.packet;
        sends = sent.sends;
        channel_is = sent.channel_is;
        belongs = belongs sent.handle after sending sender (ap (take 4) sent.packet ∙ sent_begins sent.link.setup (facts_in sent.link)) has;
      }

  pub sends_on_link : is_advertising channel ≡ false → IsOfSendersLink given history station channel octets
  sends_on_link off =
      sent_on off (use_sent_at given six (AtPackets phases done (station ∷ left)) history asked.hearing.stand station (among given.stations done left station are) channel octets wanted)
