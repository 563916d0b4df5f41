-- Both ends of the link of a packet, as it comes on the air and reaches the other side unchanged.
use Rattle.std.proofs.Common.{◌≡◌, ◌≢◌, ℕ, ◌+◌, ◌==◌, true, false, Some, List, ◌∷◌, ◌++◌, refl, sym, ap, ◌∙◌}
use Rattle.std.proofs.lemmas.Bool.{eqb-true, false_from_ne_true}
use Rattle.ble_base.specs.Side.{other_side}
use Rattle.ble_base.specs.declared.roles.Role.{Role}
use Rattle.ble_base.specs.declared.roles.Role.TheVariants.{Central, Peripheral}
use Rattle.ble_base.specs.declared.roles.Side.{Side}
use Rattle.ble_base.specs.declared.roles.Side.TheVariants.{A, B}
use Rattle.journal_forgeries.specs.journal_controls.journal_acks.HeardBy.{IsHeardByEnd}
use Rattle.journal_forgeries.specs.journal_controls.journal_packets.Senders.{IsOfSendersLink}
use Rattle.journal_forgeries.specs.journal_controls.link_model.Step.{PacketSent}
use Rattle.journal_forgeries.specs.journal_controls.open_links.OpenLinks.{OpenLink, link_after}
use Rattle.journal_forgeries.specs.journal_controls.run_model.History.{Event, Hearing, Transmitted}
use Rattle.journal_forgeries.specs.journal_controls.run_model.Journal.{side_of}
use Rattle.journal_forgeries.specs.journal_controls.run_model.LinkEnds.{HaveAddresses}
use Rattle.journal_forgeries.specs.journal_controls.run_model.Links.{links_of}
use Rattle.journal_forgeries.specs.journal_controls.run_model.Numbers.{AreNumbered, HasNumber}
use Rattle.journal_forgeries.specs.journal_controls.run_model.Run.{Given, facts_at, history_of, run_of}
use Rattle.journal_forgeries.specs.link_calls.run_laws.Ends.{AreEnds, OpenEnd}
use Rattle.radio_replay.specs.Damage.{damaged_packet}
use Rattle.journal_forgeries.proofs.journal_acks.run_laws.DistinctAccess.{AreApart}
use Rattle.journal_forgeries.proofs.journal_acks.run_laws.InAgreement.{differs_back}
use Rattle.journal_forgeries.proofs.journal_acks.run_laws.OwnLinks.{at_central, at_peripheral, not_same, sender_in}
use Rattle.journal_forgeries.proofs.journal_acks.run_laws.SameEvent.{one_event}
use Rattle.journal_forgeries.proofs.journal_controls.journal_acks.TwoStations.{IsOfTwo, other_is, other_of}
use Rattle.journal_forgeries.proofs.journal_controls.journal_links.OfTwo.{are_distinct}
use Rattle.journal_forgeries.proofs.journal_controls.run_model.LinkEnds.{AreTaken, IsUnderstood}
use Rattle.journal_forgeries.proofs.journal_controls.run_model.Numbers.{numbered_at}
use Rattle.journal_forgeries.proofs.journal_controls.run_model.Stations.{contains_in, is_in}
use Rattle.journal_forgeries.proofs.journal_data.OneNumber.{one_connect}
use Rattle.journal_forgeries.proofs.SentNow.{IsSentNow, sends_one}

not_other : (side : Side) → side ≡ other_side side → ⊥
not_other A is = absurd cc
not_other B is = absurd cc

-- ---- a packet on the air

module _ (understood : IsUnderstood) (taken : AreTaken) (apart : AreApart) (given : Given) (are_two : IsOfTwo given) (six : HaveAddresses given)
    (before rest : List Event) (station channel : ℕ) (octets : List ℕ) (hearing : Hearing) (others : List Hearing)
    (at : history_of (run_of given) ≡ before ++ Transmitted station channel octets (hearing ∷ others) ∷ rest)
    (by_end : IsHeardByEnd given before station channel octets hearing) (from : IsOfSendersLink given before station channel octets)
    (now : IsSentNow given before station channel octets) (same : damaged_packet hearing.fate octets ≡ octets) where
  abbrev packet : Event
  packet = Transmitted station channel octets (hearing ∷ others)

  abbrev listener : ℕ
  listener = hearing.listener

  -- the end that hears it, and the one that sends it
  abbrev own : OpenEnd
  own = record { station = listener; handle = by_end.handle; link = by_end.link }

  abbrev pub far_link : OpenLink
  far_link = link_after (PacketSent (facts_at given station before).turn.slot) now.link

  abbrev far : OpenEnd
  far = record { station = station; handle = now.handle; link = far_link }

  differs : (listener == station) ≡ false
  differs = false_from_ne_true (listener == station) (λ is. not_other (side_of station) (sym (ap side_of (eqb-true listener station is)) ∙ by_end.side_is))

  numbers : AreNumbered given before
  numbers = numbered_at understood taken given before rest packet (are_distinct given are_two) six at refl

  abbrev own_number : ℕ
  own_number = (links_of before).link_of listener by_end.handle

  abbrev far_number : ℕ
  far_number = (links_of before).link_of station now.handle

  own_has : HasNumber before own_number listener by_end.link.setup
  own_has = numbers listener by_end.handle by_end.link by_end.is_open

  far_has : HasNumber before far_number station now.link.setup
  far_has = numbers station now.handle far_link now.is_open

  -- both have the number of the packet
  pub far_number_is : by_end.number ≡ far_number
  far_number_is =
      let h : Some by_end.number ≡ Some ((links_of before).link_of station from.handle) = sym (by_end.belongs same) ∙ from.belongs in
      let number : by_end.number ≡ (links_of before).link_of station from.handle = cc in
      number ∙ ap ((links_of before).link_of station) (sends_one (facts_at given station before).turn.doing from.handle now.handle from.sends now.sends)

  one_place : own_has.has.before ≡ far_has.has.before
  one_place = one_connect before own_number far_number listener station by_end.link.setup now.link.setup (sym by_end.number_is ∙ far_number_is) own_has far_has

  one_sender : own_has.has.sent.sender ≡ far_has.has.sent.sender
  one_sender = (one_event before listener station by_end.link.setup now.link.setup own_has.has far_has.has one_place).sender

  in_own : is_in listener given.stations ≡ true
  in_own = contains_in given.stations listener by_end.listens

  -- ---- one of them is the central

  both_central : by_end.link.setup.link.role ≡ Central → now.link.setup.link.role ≡ Central → ⊥
  both_central is is_too =
      let one : listener ≡ station =
      sym (at_central by_end.link.setup.link.role listener by_end.link.setup own_has.has.sent is own_has.has.is_at_end) ∙ one_sender
      ∙ at_central now.link.setup.link.role station now.link.setup far_has.has.sent is_too far_has.has.is_at_end in
      not_other (side_of station) (sym (ap side_of one) ∙ by_end.side_is)

  both_peripheral : by_end.link.setup.link.role ≡ Peripheral → now.link.setup.link.role ≡ Peripheral → ⊥
  both_peripheral is is_too =
      let sender = own_has.has.sent.sender in
      let in_it = sender_in understood taken apart given six (are_distinct given are_two) before (packet ∷ rest) at listener by_end.link.setup own_has.has in
      let off = at_peripheral by_end.link.setup.link.role listener by_end.link.setup own_has.has.sent is own_has.has.is_at_end in
      let off_too = at_peripheral now.link.setup.link.role station now.link.setup far_has.has.sent is_too far_has.has.is_at_end in
      let other : sender ≡ other_of listener = other_is given are_two listener sender in_own in_it (not_same_back listener sender off) in
      let there : station ≡ other_of listener = other_is given are_two listener station in_own now.in_it (differs_back listener station differs) in
      off_too (sym one_sender ∙ other ∙ sym there)
    where
      not_same_back : (one sender : ℕ) → sender ≢ one → (sender == one) ≡ false
      not_same_back one sender off = differs_back one sender (not_same sender one off)

  -- so both are of one link, under the number of the packet
  pub of_both : (R : Type 0)
      → ((ends : AreEnds before own far) → by_end.number ≡ (links_of ends.of_central.before).begun + 1 → R)
      → ((ends : AreEnds before far own) → by_end.number ≡ (links_of ends.of_central.before).begun + 1 → R) → R
  of_both R up down = by by_end.link.setup.link.role now.link.setup.link.role refl refl
    where
      by : (one other : Role) → by_end.link.setup.link.role ≡ one → now.link.setup.link.role ≡ other → R
      by Central Central is is_too = absurd (both_central is is_too)
      by Peripheral Peripheral is is_too = absurd (both_peripheral is is_too)
      by Central Peripheral is is_too =
          up (record { of_central = own_has.has; of_peripheral = far_has.has; same = one_place; is_central = is; is_peripheral = is_too })
          (by_end.number_is ∙ own_has.number_is)
      by Peripheral Central is is_too =
          down (record { of_central = far_has.has; of_peripheral = own_has.has; same = sym one_place; is_central = is_too; is_peripheral = is })
          (far_number_is ∙ far_has.number_is)
