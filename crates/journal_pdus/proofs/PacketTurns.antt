-- In every run of two stations, each packet of a link comes in the turn of the event that its side entered last, or in the
-- next turn.
use Rattle.std.proofs.Common.{◌≡◌, ℕ, ◌+◌, ◌⊎◌, inl, inr, true, false, List, [], ◌∷◌, ◌++◌, length, refl, sym, subst, ◌∙◌, arith}
use Rattle.std.specs.Prelude.{⊤}
use Rattle.std.specs.List.{Contains}
use Rattle.std.proofs.lemmas.Bool.{or_left}
use Rattle.journal_moves.specs.journal_wants.journal_sending.journal_data.link_model.Step.{PacketSent}
use Rattle.journal_moves.proofs.journal_wants.journal_sending.journal_data.link_model.Hearing.{IsHeardWhole}
use Rattle.journal_moves.specs.journal_wants.journal_sending.journal_data.open_links.OpenLinks.{OpenLink, facts_in, link_after}
use Rattle.journal_moves.specs.journal_wants.journal_sending.controller_model.Facts.{Sends}
use Rattle.journal_moves.specs.journal_wants.journal_sending.run_model.Feeding.{AreDistinct}
use Rattle.journal_moves.specs.journal_wants.journal_sending.run_model.History.{Event}
use Rattle.journal_moves.specs.journal_wants.journal_sending.run_model.Journal.{journal_of, side_of}
use Rattle.journal_moves.specs.journal_wants.journal_sending.run_model.LinkEnds.{HaveAddresses}
use Rattle.journal_moves.specs.journal_wants.journal_sending.run_model.Links.{is_advertising}
use Rattle.journal_moves.specs.journal_wants.journal_sending.run_model.Readers.{turns_of}
use Rattle.journal_moves.specs.journal_wants.journal_sending.run_model.Run.{Given, facts_at, history_of, run_of, use_at}
use Rattle.journal_moves.proofs.journal_wants.journal_sending.run_model.EntryEvents.{is_aired}
use Rattle.journal_moves.proofs.journal_wants.journal_sending.run_model.Fates.{turns_are}
use Rattle.journal_moves.proofs.journal_wants.journal_sending.run_model.Fronts.{front_at}
use Rattle.journal_moves.proofs.journal_wants.journal_sending.run_model.LinkEnds.{AreTaken, IsUnderstood}
use Rattle.journal_moves.proofs.journal_wants.journal_sending.run_model.Stations.{is_in, among}
use Rattle.journal_moves.proofs.journal_wants.journal_sending.run_model.Walk.{AtPackets, Place}
use Rattle.journal_moves.proofs.journal_wants.journal_sending.journal_data.run_laws.DistinctAccess.{AreApart}
use Rattle.journal_moves.specs.journal_wants.journal_sending.journal_links.Changes.{changes_of}
use Rattle.journal_moves.specs.journal_wants.journal_sending.journal_links.Entered.{anchor_in}
use Rattle.journal_moves.proofs.journal_wants.journal_sending.journal_links.OfTwo.{are_distinct, of_two_stations}
use Rattle.journal_moves.specs.journal_wants.journal_sending.journal_packets.Senders.{IsOfSendersLink}
use Rattle.journal_moves.proofs.journal_wants.journal_sending.journal_packets.AccessOrder.{AreNth}
use Rattle.journal_moves.proofs.journal_wants.journal_sending.journal_packets.SoFar.{IsBelongingSoFar}
use Rattle.journal_moves.proofs.journal_wants.journal_sending.journal_acks.Counting.{AreKnown, IsBegun}
use Rattle.journal_moves.proofs.journal_wants.journal_sending.journal_acks.Exchanging.{number_at}
use Rattle.journal_moves.proofs.journal_wants.journal_sending.journal_acks.KeptCounts.{AreCountedAt}
use Rattle.journal_moves.proofs.journal_wants.journal_sending.journal_acks.Known.{known_of}
use Rattle.journal_moves.proofs.journal_wants.journal_sending.journal_acks.RunCounts.{counts_first, run_counts_kept}
use Rattle.journal_moves.proofs.journal_wants.journal_sending.journal_acks.Seen.{IsSeen, seen_packet}
use Rattle.journal_moves.proofs.journal_wants.journal_sending.journal_acks.Standing.{phased_at, sends_on}
use Rattle.journal_moves.proofs.journal_wants.journal_sending.journal_acks.TwoStations.{IsOfTwo}
use Rattle.journal_moves.specs.journal_wants.journal_sending.journal_acks.link_calls.Exchanges.{HasExchange}
use Rattle.journal_moves.specs.journal_wants.journal_sending.journal_acks.link_calls.Uses.{listens_under, sends_under}
use Rattle.journal_moves.proofs.journal_wants.journal_sending.journal_acks.link_calls.Exchanging.{in_exchange}
use Rattle.journal_slots.proofs.LastEvents.{IsInItsEvent, begun_as, sender_in_event}
use Rattle.journal_pdus.specs.InEvent.{AllAreInEvents, IsInEvent}

-- a packet in the first exchange of an event is in the turn of its anchor, and one in the second in the next turn
in_turn_of : (slot anchor turns : ℕ) (link : OpenLink) → HasExchange slot link → turns ≡ slot + 1 → (facts_in link).event.slot ≡ anchor
    → (turns ≡ anchor + 1) ⊎ (turns ≡ anchor + 2)
in_turn_of slot anchor turns link exchange are same =
    elim exchange.in_event [ inl first ↦ inl (omega (arith, first, are, same)) | inr second ↦ inr (let next = second.0 in omega (arith, next, are, same)) ]

-- ---- before each packet

record IsInTime (given : Given) (history : List Event) (station channel : ℕ) (octets : List ℕ) : Type 0 where
  sent : IsOfSendersLink given history station channel octets
  begun : IsBegun history (number_at station sent.handle history) station sent.link.setup
  in_event : IsInItsEvent (journal_of history) (number_at station sent.handle history) (side_of station) begun.link (facts_in (link_after (PacketSent sent.slot) sent.link))
  exchange : HasExchange (facts_at given station history).turn.slot (link_after (PacketSent sent.slot) sent.link)
  turns : length (turns_of (journal_of history)) ≡ (facts_at given station history).turn.slot + 1

abbrev IsInTimeOn : Given → List Event → ℕ → ℕ → List ℕ → Type 0
IsInTimeOn given history station channel octets = is_advertising channel ≡ false → IsInTime given history station channel octets

of_stations : (given : Given) → IsOfTwo given → (station : ℕ) → is_in station given.stations ≡ true → Contains given.stations station
of_stations given pair station in_it =
    subst (λ stations. Contains stations station) (sym pair)
    (elim (of_two_stations given pair station in_it) [
      | inl zero ↦ subst (Contains (0 ∷ 1 ∷ [])) (sym zero) (0, omega arith, refl)
      | inr one ↦ subst (Contains (0 ∷ 1 ∷ [])) (sym one) (1, omega arith, refl)
    ])

module _ (whole : IsHeardWhole) (understood : IsUnderstood) (taken : AreTaken) (nth : AreNth) (apart : AreApart) (given : Given) (pair : IsOfTwo given) (six : HaveAddresses given) where
  distinct : AreDistinct given.stations
  distinct = are_distinct given pair

  known : AreKnown given (IsBelongingSoFar given)
  known = known_of understood taken nth apart given pair six

  abbrev C : Place → List Event → Type 0
  C = AreCountedAt given (IsBelongingSoFar given)

  is_in_time : (phases : ℕ) (done left : List ℕ) (station channel : ℕ) (octets : List ℕ) (history : List Event) → given.stations ≡ done ++ station ∷ left
      → use_at given station history ≡ Sends channel octets → C (AtPackets phases done (station ∷ left)) history → IsInTimeOn given history station channel octets
  is_in_time phases done left station channel octets history are wanted has = λ off.
      let place = AtPackets phases done (station ∷ left) in
      let doing = (facts_at given station history).turn.doing in
      let in_it = among given.stations done left station are in
      let sent = known.sends phases done left station history are has.known channel octets wanted off in
      let front = front_at given place history has.known.front in
      let phased = phased_at given place history has.holds.hearing.stand station in_it in record {
        sent = sent;
        begun = begun_as taken given (IsBelongingSoFar given) known distinct place history front.rest front.at has.known station channel octets in_it sent;
        in_event = sender_in_event taken given (IsBelongingSoFar given) known distinct place history front.rest front.at has.known station channel octets in_it sent;
        exchange = in_exchange given history front.rest station sent.handle (link_after (PacketSent sent.slot) sent.link) distinct (of_stations given pair station in_it) front.at
            sent.is_open (or_left (sends_under sent.handle doing) (listens_under sent.handle doing) (sends_on sent.handle doing sent.sends));
        turns = turns_are history ∙ sym phased.uses.in_turn.slot_is;
      }

  sees : IsSeen given C (λ history. ⊤) (IsInTimeOn given)
  sees = record { turn = λ history is. tt; packet = is_in_time }

  in_time_at : (before : List Event) (station channel : ℕ) (octets : List ℕ) → IsInTime given before station channel octets → IsInEvent (journal_of before) (side_of station) octets
  in_time_at before station channel octets is =
      let number = number_at station is.sent.handle before in record {
        number = number;
        belongs = is.sent.belongs;
        link = is.begun.link;
        is_link = is.begun.is_link;
        event = is.in_event.event;
        entered = is.in_event.entered;
        in_turn = in_turn_of (facts_at given station before).turn.slot
            (anchor_in is.begun.link (changes_of number is.begun.link (side_of station) (journal_of before)) is.in_event.event)
            (length (turns_of (journal_of before))) (link_after (PacketSent is.sent.slot) is.sent.link) is.exchange is.turns is.in_event.anchor;
      }

  pub packets_in_events : AllAreInEvents (journal_of (history_of (run_of given)))
  packets_in_events = λ front rest side channel octets fate verdict is off.
      let aired = is_aired given front rest side channel octets fate verdict is in
      let time = seen_packet given C (run_counts_kept whole understood taken nth apart given pair six distinct) (λ history. ⊤) (IsInTimeOn given) sees
      (counts_first given) aired.before aired.after aired.station channel octets (aired.hearing ∷ aired.others) aired.is_at off in
      subst (λ xs. IsInEvent xs side octets) (sym aired.front_is)
      (subst (λ s. IsInEvent (journal_of aired.before) s octets) (sym aired.side_is) (in_time_at aired.before aired.station channel octets time))
