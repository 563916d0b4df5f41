-- As an open end of a run is called with a good packet that is not mixed, it does not end its link for a failed integrity.
use Rattle.std.proofs.Common.{◌≡◌, ℕ, Bool, true, false, Some, List, [], ◌∷◌, ◌++◌, append-nil, refl, sym, ap, subst, ◌∙◌}
use Rattle.journal_outcomes.specs.link_calls.link_model.Facts.{Facts as EndFacts}
use Rattle.journal_outcomes.specs.link_calls.link_model.Packets.{is_forged}
use Rattle.journal_outcomes.specs.link_calls.link_model.Setup.{Setup as EndSetup}
use Rattle.journal_outcomes.specs.link_calls.link_model.Step.{WordsGiven}
use Rattle.journal_outcomes.proofs.link_calls.link_model.Hearing.{IsHeardWhole}
use Rattle.journal_outcomes.specs.link_calls.open_links.OpenLinks.{OpenLink, facts_in}
use Rattle.journal_outcomes.specs.link_calls.controller_model.declared.doing.Doing.{Doing}
use Rattle.journal_outcomes.specs.link_calls.controller_model.Facts.{Setup, Facts}
use Rattle.journal_outcomes.specs.link_calls.controller_model.Step.{PacketHeard}
use Rattle.journal_outcomes.specs.link_calls.Phases.{link_worded}
use Rattle.journal_outcomes.specs.link_calls.run_model.Feeding.{AreDistinct}
use Rattle.journal_outcomes.specs.link_calls.run_model.History.{Event, Called, past_of}
use Rattle.journal_outcomes.specs.link_calls.run_model.LinkEnds.{HaveAddresses}
use Rattle.journal_outcomes.specs.link_calls.run_model.Run.{Given, facts_at, history_of, run_of, setup_at}
use Rattle.journal_outcomes.proofs.link_calls.run_model.LinkEnds.{AreTaken, IsUnderstood}
use Rattle.journal_outcomes.proofs.link_calls.run_model.Stations.{is_in}
use Rattle.journal_outcomes.specs.link_calls.run_laws.Ends.{AreEnds as AreEndsIn, IsOpen, OpenEnd, link_listened}
use Rattle.journal_outcomes.proofs.link_calls.run_laws.Agreed.{step_facts}
use Rattle.journal_outcomes.proofs.link_calls.run_laws.LinkPhases.{in_phase}
use Rattle.journal_outcomes.proofs.link_calls.run_laws.SameEvent.{apart_ends}
use Rattle.journal_outcomes.proofs.link_calls.run_laws.TurnPlaces.{standing}
use Rattle.journal_outcomes.specs.link_runs.link_pairs.Ends.{AreEnds}
use Rattle.journal_outcomes.specs.link_runs.link_pairs.Hearing.{is_mixed_packet, received}
use Rattle.journal_outcomes.proofs.link_runs.link_pairs.Understanding.{IsOpenedThere}
use Rattle.journal_outcomes.specs.journal_collisions.journal_endings.run_pairs.InTurns.{HasSentNow, HearEachInTurn, HearNoMixed}
use Rattle.journal_outcomes.specs.journal_collisions.journal_endings.run_pairs.Stages.{AreAnsweredEnds, AreBegunEnds}
use Rattle.journal_outcomes.proofs.journal_crossing.journal_collisions.journal_endings.run_pairs.BothEnds.{ByStanding, kept_to}
use Rattle.journal_outcomes.proofs.journal_crossing.journal_collisions.journal_endings.run_pairs.CallPlaces.{StandsInPhase, stands_called}
use Rattle.journal_outcomes.proofs.journal_crossing.journal_collisions.journal_endings.run_pairs.Conclusions.{pair_ends}
use Rattle.journal_outcomes.proofs.journal_crossing.journal_collisions.journal_endings.run_pairs.EndCalls.{central_unworded}
use Rattle.journal_outcomes.proofs.journal_crossing.journal_collisions.journal_endings.run_pairs.FarPackets.{packet_now}
use Rattle.journal_outcomes.proofs.journal_crossing.journal_collisions.journal_endings.run_pairs.HeardNow.{answered_now, begun_now, listens_by}
use Rattle.journal_outcomes.proofs.journal_crossing.journal_collisions.journal_endings.run_pairs.LinkSteps.{AsksMayCome}
use Rattle.journal_outcomes.proofs.journal_crossing.journal_collisions.journal_endings.run_pairs.PairSteps.{IsPacketNow, packet_worded}
use Rattle.journal_outcomes.proofs.journal_crossing.journal_collisions.journal_endings.run_pairs.Stages.{begun_worded}
use Rattle.journal_outcomes.proofs.journal_crossing.journal_collisions.journal_endings.run_pairs.Worded.{fitting_words, worded_mixed}
use Rattle.journal_failures.proofs.GoodPackets.{central_stays, is_failed, peripheral_stays}

module _ (whole : IsHeardWhole) (opens_there : IsOpenedThere) (understood : IsUnderstood) (taken : AreTaken) (given : Given) (six : HaveAddresses given)
    (distinct : AreDistinct given.stations) (asks : AsksMayCome given) (before later : List Event) (station : ℕ) (octets : List ℕ) (central peripheral : OpenEnd)
    (at : history_of (run_of given) ≡ before ++ Called station (PacketHeard octets) ∷ later) (in_it : is_in central.station given.stations ≡ true)
    (in_too : is_in peripheral.station given.stations ≡ true) (of_one : AreEndsIn before central peripheral) (is_open : IsOpen given before central)
    (is_open_too : IsOpen given before peripheral) (hear : HearEachInTurn given before central peripheral)
    (none_mixed : HearNoMixed given before central peripheral) (room : Bool) where
  abbrev c_end : EndSetup
  c_end = central.link.setup

  abbrev p_end : EndSetup
  p_end = peripheral.link.setup

  abbrev c : EndFacts
  c = facts_in central.link

  abbrev p : EndFacts
  p = facts_in peripheral.link

  abbrev heard : List Event
  heard = Called station (PacketHeard octets) ∷ later

  ends : AreEnds c_end p_end
  ends =
      pair_ends whole opens_there understood taken given six distinct asks before heard at central peripheral in_it in_too of_one is_open is_open_too hear none_mixed

  kept : ByStanding c_end p_end peripheral.handle (standing (past_of central.station before)) (standing (past_of peripheral.station before))
      (facts_at given peripheral.station before).turn.doing central.link peripheral.link
  kept =
      kept_to whole opens_there taken given distinct central peripheral ends in_it in_too asks (apart_ends before central peripheral of_one) before heard at hear
      none_mixed before [] (sym (append-nil before)) central.link peripheral.link is_open refl is_open_too refl

  -- the peripheral, once it is given words
  module _ (of : station ≡ peripheral.station) (listens : link_listened (facts_at given peripheral.station before).turn.doing ≡ Some peripheral.handle)
      (sent : HasSentNow given before peripheral central p.event.channel octets) (unmixed : is_mixed_packet p_end p c octets ≡ false) where
    abbrev slot : ℕ
    slot = (facts_at given peripheral.station before).turn.slot

    packet : IsPacketNow c_end slot p central.link octets
    packet = packet_now given before heard peripheral central p octets central.link distinct in_it at is_open refl sent

    begun : AreBegunEnds c_end p_end slot true true c p
    begun =
        begun_now taken given distinct before later octets central peripheral ends in_it in_too central.link peripheral.link is_open refl is_open_too refl kept
        (at ∙ ap (λ n. before ++ Called n (PacketHeard octets) ∷ later) of) listens packet

    module _ (setup : Setup) (facts : Facts) (doing : Doing) where
      abbrev base : OpenLink
      base = link_worded setup facts doing peripheral.link

      worded : AreBegunEnds c_end p_end slot true true c (facts_in base)
      worded =
          fitting_words (λ (link : OpenLink). AreBegunEnds c_end p_end slot true true c (facts_in link)) setup facts doing peripheral.link begun
          (λ skd_s iv_s fits.
          subst (λ (f : EndFacts). AreBegunEnds c_end p_end slot true true c f) (sym (step_facts peripheral.link (WordsGiven skd_s iv_s)))
          (begun_worded whole opens_there c_end p_end ends slot true true c p skd_s iv_s fits begun))

      pub peripheral_good : is_forged p_end (facts_in base) octets ≡ false → is_failed (received p_end slot octets room (facts_in base)).control.ends ≡ false
      peripheral_good genuine =
          let is = packet_worded c_end slot setup facts doing peripheral.link central.link octets packet in
          peripheral_stays whole opens_there c_end p_end ends slot c (facts_in base) is.channel octets room is.packet is.same
          (worded_mixed p_end setup facts doing peripheral.link c octets ∙ unmixed) genuine worded

  -- the central
  module _ (of : station ≡ central.station) (listens : link_listened (facts_at given central.station before).turn.doing ≡ Some central.handle)
      (sent : HasSentNow given before central peripheral c.event.channel octets) (unmixed : is_mixed_packet c_end c p octets ≡ false) where
    abbrev c_slot : ℕ
    c_slot = (facts_at given central.station before).turn.slot

    c_packet : IsPacketNow p_end c_slot c peripheral.link octets
    c_packet = packet_now given before heard central peripheral c octets peripheral.link distinct in_too at is_open_too refl sent

    answered : AreAnsweredEnds c_end p_end c_slot true c p
    answered =
        answered_now taken given distinct before later octets central peripheral ends in_it in_too central.link peripheral.link is_open refl is_open_too refl kept
        (at ∙ ap (λ n. before ++ Called n (PacketHeard octets) ∷ later) of) listens c_packet

    stands : StandsInPhase given before central.station
    stands =
        stands_called given before later central.station (PacketHeard octets) distinct (at ∙ ap (λ n. before ++ Called n (PacketHeard octets) ∷ later) of)

    -- it is given none
    module _ (setup : Setup) (facts : Facts) where
      abbrev c_base : OpenLink
      c_base = link_worded setup facts (facts_at given central.station before).turn.doing central.link

      unworded : c_base ≡ central.link
      unworded =
          let doing = (facts_at given central.station before).turn.doing in
          central_unworded (facts_at given central.station before).links central.handle central.link is_open setup facts stands.phases doing
          (in_phase (setup_at given central.station) (past_of central.station before) stands.phases stands.turns stands.stand.own)
          (listens_by central.handle doing listens) ends.is_central

      pub central_good : is_forged c_end (facts_in c_base) octets ≡ false → is_failed (received c_end c_slot octets room (facts_in c_base)).control.ends ≡ false
      central_good genuine =
          ap (λ (l : OpenLink). is_failed (received c_end c_slot octets room (facts_in l)).control.ends) unworded
          ∙ central_stays whole opens_there c_end p_end ends c_slot c p c_packet.channel octets room c_packet.packet c_packet.same unmixed
          (ap (λ (l : OpenLink). is_forged c_end (facts_in l) octets) (sym unworded) ∙ genuine) answered
