-- A packet of a link, as it comes on the air: its sender sent it in this turn, and both stations are in one turn.
use Rattle.std.proofs.Common.{◌≡◌, ℕ, inl, inr, true, false, Some, List, ◌∷◌, ◌++◌, sym, ◌∙◌}
use Rattle.journal_sealing.specs.journal_controls.controller_model.declared.doing.Doing.{Doing}
use Rattle.journal_sealing.specs.journal_controls.controller_model.declared.doing.Doing.TheVariants.{CentralSends, PeripheralSends, Rests}
use Rattle.journal_sealing.specs.journal_controls.controller_model.Facts.{Sends}
use Rattle.journal_sealing.specs.journal_controls.controller_model.Sent.{SendsOn}
use Rattle.journal_sealing.specs.journal_controls.link_model.Packets.{packet_sent}
use Rattle.journal_sealing.specs.journal_controls.link_model.Step.{PacketSent}
use Rattle.journal_sealing.specs.journal_controls.open_links.OpenLinks.{OpenLink, facts_in, link_after, link_at}
use Rattle.journal_sealing.specs.journal_controls.run_model.Feeding.{AreDistinct}
use Rattle.journal_sealing.specs.journal_controls.run_model.History.{Event, Hearing, Transmitted, turns_begun}
use Rattle.journal_sealing.specs.journal_controls.run_model.LinkEnds.{HaveAddresses}
use Rattle.journal_sealing.specs.journal_controls.run_model.Links.{is_advertising}
use Rattle.journal_sealing.specs.journal_controls.run_model.Run.{Given, facts_at, history_of, run_of, use_at}
use Rattle.journal_sealing.proofs.journal_acks.run_laws.ByCalls.{first_hears}
use Rattle.journal_sealing.proofs.journal_acks.run_laws.Hearings.{AreHearing, hearing_kept, use_sent_at}
use Rattle.journal_sealing.proofs.journal_acks.run_laws.InAgreement.{one_slot}
use Rattle.journal_sealing.proofs.journal_acks.run_laws.SentPackets.{IsUseSent}
use Rattle.journal_sealing.proofs.journal_acks.run_laws.TurnPlaces.{stands_first}
use Rattle.journal_sealing.proofs.journal_controls.journal_acks.AirCounts.{advertises}
use Rattle.journal_sealing.proofs.journal_controls.journal_acks.Seen.{seen_packet}
use Rattle.journal_sealing.proofs.journal_controls.journal_acks.Standing.{phased_at}
use Rattle.journal_sealing.proofs.journal_controls.run_model.Stations.{among, is_in}
use Rattle.journal_sealing.proofs.journal_controls.run_model.Walk.{AtPackets}

pub record IsSentNow (given : Given) (history : List Event) (station channel : ℕ) (octets : List ℕ) : Type 0 where
  pub in_it : is_in station given.stations ≡ true
  pub handle : ℕ
  pub sends : SendsOn handle (facts_at given station history).turn.doing
  pub link : OpenLink
  pub is_open : link_at handle (facts_at given station history).links ≡ Some (link_after (PacketSent (facts_at given station history).turn.slot) link)
  pub packet : octets ≡ packet_sent link.setup (facts_in link)
  pub channel_is : channel ≡ (facts_in link).event.channel
  pub one_turn : (other : ℕ) → is_in other given.stations ≡ true → (facts_at given station history).turn.slot ≡ (facts_at given other history).turn.slot

-- a controller sends on one link
pub sends_one : (doing : Doing) (handle other : ℕ) → SendsOn handle doing → SendsOn other doing → handle ≡ other
sends_one (CentralSends link) handle other is is_too = sym is ∙ is_too
sends_one (PeripheralSends link) handle other is is_too = sym is ∙ is_too
sends_one Rests handle other is is_too = absurd is
sends_one doing handle other is is_too = absurd is

abbrev SentNowAt : Given → List Event → ℕ → ℕ → List ℕ → Type 0
SentNowAt given history station channel octets = is_advertising channel ≡ false → IsSentNow given history station channel octets

sent_at : (given : Given) → HaveAddresses given → (phases : ℕ) (done left : List ℕ) (station channel : ℕ) (octets : List ℕ) (history : List Event)
    → given.stations ≡ done ++ station ∷ left → use_at given station history ≡ Sends channel octets → AreHearing given (AtPackets phases done (station ∷ left)) history
    → SentNowAt given history station channel octets
sent_at given six phases done left station channel octets history are wanted hearing off =
    by (among given.stations done left station are)
    (use_sent_at given six (AtPackets phases done (station ∷ left)) history hearing.stand station (among given.stations done left station are) channel octets wanted)
  where
    by : is_in station given.stations ≡ true → IsUseSent (facts_at given station history) (Sends channel octets) → IsSentNow given history station channel octets
    by is (inl sent) = absurd (advertises channel sent.on_channel off)
    by is (inr sent) = record {
      in_it = is;
      handle = sent.handle;
      sends = sent.sends;
      link = sent.link;
      is_open = sent.is_open;
      packet = sent.packet;
      channel_is = sent.channel_is;
      one_turn = λ other in_it.
          let place = AtPackets phases done (station ∷ left) in
          one_slot (facts_at given station history).turn.slot (facts_at given other history).turn.slot (turns_begun history)
          (phased_at given place history hearing.stand station is).uses.in_turn.slot_is (phased_at given place history hearing.stand other in_it).uses.in_turn.slot_is;
    }

pub sent_now : (given : Given) → HaveAddresses given → AreDistinct given.stations → (before rest : List Event) (station channel : ℕ) (octets : List ℕ) (hearings : List Hearing)
    → history_of (run_of given) ≡ before ++ Transmitted station channel octets hearings ∷ rest → is_advertising channel ≡ false
    → IsSentNow given before station channel octets
sent_now given six distinct before rest station channel octets hearings at =
    seen_packet given (AreHearing given) (hearing_kept given six distinct) (λ history. Unit {0}) (SentNowAt given)
    (record { turn = λ history has. tt; packet = sent_at given six }) (record { stand = stands_first given; hears = λ one is. first_hears given one })
    before rest station channel octets hearings at
