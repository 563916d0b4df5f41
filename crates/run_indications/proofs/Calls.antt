-- A peripheral that is called with a packet in a run takes the indication that the central sent last.
use Rattle.std.proofs.Common.{◌≡◌, inl, inr, ℕ, ◌<◌, Bool, true, false, List, [], ◌∷◌, ◌++◌, append-nil, Some, refl, sym, ap, ◌∙◌}
use Rattle.std.specs.List.{filter}
use Rattle.std.proofs.lemmas.List.{append_assoc}
use Rattle.std.proofs.lemmas.List.Elements.{filter-append}
use Rattle.arrayvec.specs.ArrayVec.{ArrayVec}
use Rattle.ble_base.specs.declared.notes.Note.{Note}
use Rattle.ble_base.specs.declared.notes.Note.TheVariants.{Took}
use Rattle.ble_base.specs.declared.verdicts.Verdict.TheVariants.{Good}
use Rattle.instants.specs.Track.{event_of, gap_ahead}
use Rattle.instants.specs.declared.indications.Indication.{Indication}
use Rattle.two_tracks.specs.TwoEnds.{change_of}
use Rattle.controller_model.specs.Facts.{Facts}
use Rattle.controller_model.specs.Step.{PacketHeard}
use Rattle.link_changes.specs.Noted.{indication_in}
use Rattle.run_pairs.specs.link_calls.link_model.End.{notes_after}
use Rattle.run_pairs.specs.link_calls.link_model.Facts.{Facts as EndFacts}
use Rattle.run_pairs.specs.link_calls.link_model.Numbers.{is_took_note}
use Rattle.run_pairs.specs.link_calls.link_model.Packets.{verdict_of}
use Rattle.run_pairs.specs.link_calls.link_model.Setup.{Setup as EndSetup}
use Rattle.run_pairs.specs.link_calls.link_model.Step.{PacketReceived}
use Rattle.run_pairs.specs.link_calls.open_links.OpenLinks.{facts_in}
use Rattle.run_pairs.specs.link_calls.run_laws.Ends.{AreEnds as AreEndsIn, IsOpen, OpenEnd, ReceivesGood, link_listened}
use Rattle.run_pairs.specs.link_calls.run_model.Feeding.{AreDistinct}
use Rattle.run_pairs.specs.link_calls.run_model.History.{Called, Event, past_of}
use Rattle.run_pairs.specs.link_calls.run_model.LinkEnds.{HaveAddresses}
use Rattle.run_pairs.specs.link_calls.run_model.Run.{Given, facts_at, history_of, run_of}
use Rattle.run_pairs.proofs.link_calls.link_model.Hearing.{IsHeardWhole}
use Rattle.run_pairs.proofs.link_calls.run_laws.SameEvent.{apart_ends}
use Rattle.run_pairs.proofs.link_calls.run_laws.TurnPlaces.{standing}
use Rattle.run_pairs.proofs.link_calls.run_model.LinkEnds.{AreTaken, IsUnderstood}
use Rattle.run_pairs.proofs.link_calls.run_model.Stations.{is_in}
use Rattle.link_runs.specs.joint_controls.Joint.{last_change}
use Rattle.link_runs.specs.link_pairs.Ends.{AreEnds}
use Rattle.link_runs.specs.link_pairs.Hearing.{IsPacketOf, is_mixed_packet}
use Rattle.link_runs.proofs.link_pairs.Understanding.{IsOpenedThere}
use Rattle.run_pairs.specs.InTurns.{HasSentNow, HearEachInTurn, HearNoMixed, HearsInTurn}
use Rattle.run_pairs.specs.Stages.{AreBegunEnds}
use Rattle.run_pairs.proofs.BothEnds.{ByStanding, kept_to}
use Rattle.run_pairs.proofs.FarPackets.{packet_now}
use Rattle.run_pairs.proofs.Conclusions.{pair_ends}
use Rattle.run_pairs.proofs.HeardNow.{begun_now}
use Rattle.run_pairs.proofs.EndCalls.{good_genuine}
use Rattle.run_pairs.proofs.LinkSteps.{AsksMayCome}
use Rattle.run_pairs.proofs.PairSteps.{IsPacketNow}
use Rattle.run_pairs.proofs.Stages.{hears_its_end}
use Rattle.run_pairs.proofs.Unmixed.{front_unmixed, next_unmixed}
use Rattle.run_indications.proofs.LastSent.{last_read}
use Rattle.run_indications.proofs.TookNotes.{none_in, took_good}

-- ---- both ends have begun the turn

module _ (whole : IsHeardWhole) (central peripheral : EndSetup) (ends : AreEnds central peripheral) (slot : ℕ) (c p : EndFacts) (channel : ℕ)
    (octets : List ℕ) (room : Bool) (packet : IsPacketOf central slot c channel octets) (on_channel : channel ≡ p.event.channel)
    (before later : List Note) (handle number llid : ℕ) (body : ArrayVec ℕ) (indication : Indication)
    (noted : notes_after peripheral p (PacketReceived slot octets room) ≡ before ++ Took handle number llid body ∷ later)
    (says : indication_in llid body.items ≡ Some indication) (in_time : gap_ahead (event_of p.control.track) indication < 32767)
    (opened : IsOpenedThere) (unmixed : is_mixed_packet peripheral p c octets ≡ false) where
  -- a peripheral whose LL_TERMINATE_IND the central took takes nothing
  pub begun_reads : AreBegunEnds central peripheral slot true true c p → last_change c.control.sent ≡ Some (change_of (event_of p.control.track) indication)
  begun_reads (inl link) =
      last_read whole central peripheral slot c p channel octets room ends link.begun link.central_lasts link.peripheral_lasts packet on_channel
      link.supervised before later handle number llid body indication noted says in_time opened unmixed
  begun_reads (inr parting) =
      let fields = ends.one_link.fields in
      let most = ends.peripheral_max.to in
      let genuine = good_genuine peripheral octets p (took_good peripheral slot octets room p before later (Took handle number llid body) noted) in
      let over = hears_its_end whole central peripheral fields most c p parting slot channel octets packet on_channel room opened unmixed genuine in
      none_in (last_change c.control.sent ≡ Some (change_of (event_of p.control.track) indication)) (filter is_took_note before) (filter is_took_note later)
      (Took handle number llid body)
      (sym over.takes_none ∙ ap (filter is_took_note) noted ∙ filter-append is_took_note before (Took handle number llid body ∷ later))

-- ---- what is heard in a front of a history

front_hears : (given : Given) (before more : List Event) (end far : OpenEnd) → HearsInTurn given (before ++ more) end far → HearsInTurn given before end far
front_hears given before more end far hears = λ front after octets link is takes own.
    hears front (after ++ more) octets link
    (ap (λ (events : List Event). events ++ more) is ∙ append_assoc front (Called end.station (PacketHeard octets) ∷ after) more) takes own

pub front_hear : (given : Given) (before more : List Event) (one other : OpenEnd) → HearEachInTurn given (before ++ more) one other
    → HearEachInTurn given before one other
front_hear given before more one other hear =
    record {
      one_hears = front_hears given before more one other hear.one_hears;
      other_hears = front_hears given before more other one hear.other_hears;
    }

-- ---- the place of a call of the peripheral

module _ (whole : IsHeardWhole) (opens_there : IsOpenedThere) (understood : IsUnderstood) (taken : AreTaken) (given : Given) (six : HaveAddresses given)
    (distinct : AreDistinct given.stations) (asks : AsksMayCome given) (before rest : List Event) (octets : List ℕ) (central peripheral : OpenEnd)
    (at : history_of (run_of given) ≡ before ++ Called peripheral.station (PacketHeard octets) ∷ rest)
    (in_it : is_in central.station given.stations ≡ true) (in_too : is_in peripheral.station given.stations ≡ true)
    (of_one : AreEndsIn before central peripheral) (is_open : IsOpen given before central) (is_open_too : IsOpen given before peripheral)
    (hear : HearEachInTurn given (before ++ Called peripheral.station (PacketHeard octets) ∷ []) central peripheral)
    (none_mixed : HearNoMixed given (before ++ Called peripheral.station (PacketHeard octets) ∷ []) central peripheral)
    (listens : link_listened (facts_at given peripheral.station before).turn.doing ≡ Some peripheral.handle) where
  abbrev c_here : EndSetup
  c_here = central.link.setup

  abbrev p_here : EndSetup
  p_here = peripheral.link.setup

  abbrev facts : Facts
  facts = facts_at given peripheral.station before

  abbrev called : List Event
  called = Called peripheral.station (PacketHeard octets) ∷ rest

  hear_before : HearEachInTurn given before central peripheral
  hear_before = front_hear given before (Called peripheral.station (PacketHeard octets) ∷ []) central peripheral hear

  pure_before : HearNoMixed given before central peripheral
  pure_before = front_unmixed given before (Called peripheral.station (PacketHeard octets) ∷ []) central peripheral none_mixed

  ends : AreEnds c_here p_here
  ends =
      pair_ends whole opens_there understood taken given six distinct asks before called at central peripheral in_it in_too of_one is_open is_open_too hear_before
      pure_before

  kept_here : ByStanding c_here p_here peripheral.handle (standing (past_of central.station before)) (standing (past_of peripheral.station before)) facts.turn.doing
      central.link peripheral.link
  kept_here =
      kept_to whole opens_there taken given distinct central peripheral ends in_it in_too asks (apart_ends before central peripheral of_one) before called at hear_before
      pure_before before [] (sym (append-nil before)) central.link peripheral.link is_open refl is_open_too refl

  -- the packet was sent in this turn
  module _ (good : verdict_of p_here (facts_in peripheral.link) octets ≡ Good) where
    receives : ReceivesGood facts octets peripheral.link
    receives = record { handle = peripheral.handle; listens = listens; is_open = is_open_too; is_good = good }

    sent : HasSentNow given before peripheral central (facts_in peripheral.link).event.channel octets
    sent = hear.other_hears before [] octets peripheral.link refl receives (record { fields = refl; opened = refl })

    unmixed : is_mixed_packet p_here (facts_in peripheral.link) (facts_in central.link) octets ≡ false
    unmixed = next_unmixed given before octets peripheral central none_mixed.other_hears receives is_open

    packet : IsPacketNow c_here facts.turn.slot (facts_in peripheral.link) central.link octets
    packet = packet_now given before called peripheral central (facts_in peripheral.link) octets central.link distinct in_it at is_open refl sent

    begun : AreBegunEnds c_here p_here facts.turn.slot true true (facts_in central.link) (facts_in peripheral.link)
    begun =
        begun_now taken given distinct before rest octets central peripheral ends in_it in_too central.link peripheral.link is_open refl is_open_too refl kept_here at
        listens packet

  module _ (room : Bool) (first later : List Note) (handle number llid : ℕ) (body : ArrayVec ℕ) (indication : Indication)
      (noted : notes_after p_here (facts_in peripheral.link) (PacketReceived facts.turn.slot octets room) ≡ first ++ Took handle number llid body ∷ later)
      (says : indication_in llid body.items ≡ Some indication)
      (in_time : gap_ahead (event_of (facts_in peripheral.link).control.track) indication < 32767) where
    pub takes_last : last_change (facts_in central.link).control.sent ≡ Some (change_of (event_of (facts_in peripheral.link).control.track) indication)
    takes_last =
        let good = took_good p_here facts.turn.slot octets room (facts_in peripheral.link) first later (Took handle number llid body) noted in
        let now = packet good in
        begun_reads whole c_here p_here ends facts.turn.slot (facts_in central.link)
        (facts_in peripheral.link) now.channel octets room now.packet now.same first later handle number llid body indication noted says in_time opens_there
        (unmixed good) (begun good)
