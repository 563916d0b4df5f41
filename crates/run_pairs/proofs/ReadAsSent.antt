-- As long as no packet is mixed, both ends of a link read each packet of the other as it was sent.
use Rattle.std.proofs.Common.{◌≡◌, ℕ, suc, ◌+◌, ◌<◌, ◌&&◌, Bool, true, false, not, Some, List, ◌∷◌, ◌++◌, append_assoc, drop, refl, sym, ap, subst, ◌∙◌, arith}
use Rattle.std.specs.Prelude.{if◌then◌else◌}
use Rattle.std.specs.Str.{bytes_eq}
use Rattle.std.proofs.lemmas.Slice.Eq.{bytes_eq-Decides}
use Rattle.link_calls.specs.link_model.Acknowledgement.{Pdu}
use Rattle.link_calls.specs.link_model.Facts.{Facts as EndFacts}
use Rattle.link_calls.specs.link_model.Packets.{pdu_sent}
use Rattle.link_calls.specs.link_model.Setup.{Setup as EndSetup}
use Rattle.link_calls.specs.link_model.Step.{PacketSent}
use Rattle.link_calls.proofs.link_model.Hearing.{IsHeardWhole}
use Rattle.link_calls.specs.open_links.OpenLinks.{OpenLink, facts_in, link_after, link_at}
use Rattle.link_calls.specs.controller_model.Facts.{Facts}
use Rattle.link_calls.specs.controller_model.Step.{PacketHeard}
use Rattle.link_calls.specs.run_model.Feeding.{AreDistinct}
use Rattle.link_calls.specs.run_model.History.{Event, Called, past_of}
use Rattle.link_calls.specs.run_model.LinkEnds.{HaveAddresses}
use Rattle.link_calls.specs.run_model.Run.{Given, facts_at, history_of, run_of, setup_at}
use Rattle.link_calls.proofs.run_model.LinkEnds.{AreTaken, IsUnderstood}
use Rattle.link_calls.proofs.run_model.Stations.{is_in}
use Rattle.link_calls.specs.run_laws.Ends.{AreEnds as AreEndsIn, HasSent, HaveOneConnectInd, IsOpen, OpenEnd, ReceivesGood, link_listened}
use Rattle.link_calls.specs.run_laws.Shapes.{IsReadAsSent, ReadEachOtherAsSent, ReadsAsSent}
use Rattle.link_calls.proofs.run_laws.EarlierLinks.{IsSameLink, same_link}
use Rattle.link_calls.proofs.run_laws.InAgreement.{OpenedBefore}
use Rattle.link_calls.proofs.run_laws.OpenSteps.{open_has}
use Rattle.link_calls.proofs.run_laws.SameEvent.{apart_ends, one_connect_ind}
use Rattle.link_calls.proofs.run_laws.TurnPlaces.{Within, at_stage, standing}
use Rattle.link_runs.specs.link_pairs.Ends.{AreEnds}
use Rattle.link_runs.specs.link_pairs.Hearing.{is_mixed, is_mixed_packet, reads_other}
use Rattle.link_runs.proofs.link_pairs.Reading.{mixed_as}
use Rattle.link_runs.proofs.link_pairs.Understanding.{IsOpenedThere}
use Rattle.run_pairs.specs.InTurns.{HearEachInTurn, HearNoMixed, HearsInTurn, HearsNoMixed}
use Rattle.run_pairs.proofs.BothEnds.{ByStanding, kept_to}
use Rattle.run_pairs.proofs.CallPlaces.{StandsInPhase, stands_called}
use Rattle.run_pairs.proofs.Conclusions.{pair_ends}
use Rattle.run_pairs.proofs.FarPackets.{last_sent, packet_now}
use Rattle.run_pairs.proofs.HeardNow.{answered_now, begun_now, on_link, phase_of, side_at}
use Rattle.run_pairs.proofs.LinkSteps.{AsksMayCome}
use Rattle.run_pairs.proofs.OneSide.{StationAt}
use Rattle.run_pairs.proofs.PairSteps.{IsPacketNow}
use Rattle.run_pairs.proofs.Stages.{central_reads, peripheral_reads}

not_other : (b : Bool) → not b ≡ false → b ≡ true
not_other true is = refl
not_other false is = absurd cc

-- a packet that is read as no other than the one that was sent
as_sent : (to : EndSetup) (listener sender : EndFacts) (octets : List ℕ) (last : Pdu) → last ≡ pdu_sent sender → is_mixed to listener octets last ≡ false
    → IsReadAsSent to listener sender octets
as_sent to listener sender octets last is pure pdu good new =
    let same = not_other (bytes_eq (drop 2 pdu) last.body) (ap (λ b. b && not (bytes_eq (drop 2 pdu) last.body)) (sym new) ∙ ap (reads_other listener last) (sym good)
    ∙ sym (mixed_as to listener octets last) ∙ pure) in
    (bytes_eq-Decides (drop 2 pdu) last.body).0 same ∙ ap (λ (p : Pdu). p.body) is

-- ---- at the place of a call, the links are those of the later place

module _ (taken : AreTaken) (given : Given) (distinct : AreDistinct given.stations) (history rest : List Event) (at : history_of (run_of given) ≡ history ++ rest)
    (end far : OpenEnd) (in_it : is_in end.station given.stations ≡ true) (in_too : is_in far.station given.stations ≡ true)
    (is_open : IsOpen given history end) (is_open_too : IsOpen given history far) (one : HaveOneConnectInd end.link.setup far.link.setup)
    (hears : HearsInTurn given history end far) (pure : HearsNoMixed given history end far) (before after : List Event) (octets : List ℕ) (link : OpenLink)
    (is : history ≡ before ++ Called end.station (PacketHeard octets) ∷ after) (received : ReceivesGood (facts_at given end.station before) octets link)
    (own : HaveOneConnectInd link.setup end.link.setup) (sent : HasSent given before far (facts_in link).event.channel octets) where
  abbrev facts : Facts
  facts = facts_at given end.station before

  abbrev far_facts : Facts
  far_facts = facts_at given far.station before

  abbrev there : OpenLink
  there = link_after (PacketSent sent.slot) sent.link

  abbrev between : List Event
  between = Called end.station (PacketHeard octets) ∷ after

  later : history_of (run_of given) ≡ (before ++ between) ++ rest
  later = at ∙ ap (λ events. events ++ rest) is

  place : history_of (run_of given) ≡ before ++ Called end.station (PacketHeard octets) ∷ (after ++ rest)
  place = later ∙ append_assoc before between rest

  stands : StandsInPhase given before end.station
  stands = stands_called given before (after ++ rest) end.station (PacketHeard octets) distinct place

  side : StationAt (setup_at given end.station) (Within stands.phases) stands.turns facts
  side = side_at taken given before end.station (at_stage (Within stands.phases) stands.turns) stands.stand.own

  -- the end was opened before this turn
  earlier : link.setup.opened < facts.turn.slot
  earlier =
      open_has (OpenedBefore facts.turn.slot) 0 received.handle facts.links link (side.station.old (on_link received.handle facts.turn.doing received.listens))
      received.is_open

  own_link : IsSameLink received.handle end.handle link end.link
  own_link =
      same_link given before between rest end.station stands.phases stands.turns received.handle end.handle link end.link distinct in_it later stands.stand.own
      received.is_open (subst (λ events. link_at end.handle (facts_at given end.station events).links ≡ Some end.link) is is_open) own.opened earlier

  abbrev far_phases : ℕ
  far_phases = if stands.stand.was_called far.station then suc stands.phases else stands.phases

  far_stands : standing (past_of far.station before) ≡ Some (at_stage (Within far_phases) stands.turns)
  far_stands =
      phase_of (stands.stand.was_called far.station) stands.phases stands.turns (past_of far.station before) (stands.stand.others far.station in_too)

  far_side : StationAt (setup_at given far.station) (Within far_phases) stands.turns far_facts
  far_side = side_at taken given before far.station (at_stage (Within far_phases) stands.turns) far_stands

  before_turn : (opened other end_opened far_opened slot far_slot turns : ℕ) → opened < slot → opened ≡ end_opened → end_opened ≡ far_opened → other ≡ far_opened
      → slot + 1 ≡ turns → far_slot + 1 ≡ turns → other < far_slot
  before_turn opened other end_opened far_opened slot far_slot turns early same both far_same count far_count =
      omega (arith, early, same, both, far_same, count, far_count)

  far_link : IsSameLink sent.handle far.handle there far.link
  far_link =
      same_link given before between rest far.station far_phases stands.turns sent.handle far.handle there far.link distinct in_too later far_stands sent.is_open
      (subst (λ events. link_at far.handle (facts_at given far.station events).links ≡ Some far.link) is is_open_too) sent.is_end.opened
      (before_turn link.setup.opened sent.link.setup.opened end.link.setup.opened far.link.setup.opened facts.turn.slot far_facts.turn.slot stands.turns earlier own.opened
      one.opened sent.is_end.opened side.holds.phased.uses.in_turn.slot_is far_side.holds.phased.uses.in_turn.slot_is)

  -- both links, the packet between them, and what is to be shown of it
  record AreHere : Type 0 where
    place : history_of (run_of given) ≡ before ++ Called end.station (PacketHeard octets) ∷ (after ++ rest)
    own_open : link_at end.handle facts.links ≡ Some link
    own_setup : link.setup ≡ end.link.setup
    far_open : link_at far.handle far_facts.links ≡ Some there
    far_setup : there.setup ≡ far.link.setup
    listens : link_listened facts.turn.doing ≡ Some end.handle
    packet : IsPacketNow far.link.setup facts.turn.slot (facts_in link) there octets
    unmixed : is_mixed_packet end.link.setup (facts_in link) (facts_in there) octets ≡ false
    read : is_mixed end.link.setup (facts_in link) octets (facts_in there).acknowledgement.last ≡ false
        → IsReadAsSent link.setup (facts_in link) (facts_in sent.link) octets

  are_here : AreHere
  are_here =
      let called = Called end.station (PacketHeard octets) ∷ (after ++ rest) in
      let opened = ap (λ n. link_at n far_facts.links) (sym far_link.handle) ∙ sent.is_open in record {
        place = place;
        own_open = ap (λ n. link_at n facts.links) (sym own_link.handle) ∙ received.is_open;
        own_setup = own_link.setup;
        far_open = opened;
        far_setup = far_link.setup;
        listens = received.listens ∙ ap Some own_link.handle;
        packet = packet_now given before called end far (facts_in link) octets there distinct in_too place opened far_link.setup
            (hears before after octets link is received own);
        unmixed = ap (λ (s : EndSetup). is_mixed_packet s (facts_in link) (facts_in there) octets) (sym own_link.setup)
            ∙ pure before after octets link there is received own_link.setup opened far_link.setup;
        read = λ so. as_sent link.setup (facts_in link) (facts_in sent.link) octets (facts_in there).acknowledgement.last
            (last_sent given before called far (facts_in link).event.channel octets there distinct in_too place opened far_link.setup sent)
            (ap (λ (s : EndSetup). is_mixed s (facts_in link) octets (facts_in there).acknowledgement.last) own_link.setup ∙ so);
      }

-- ---- both ends

module _ (whole : IsHeardWhole) (opens_there : IsOpenedThere) (understood : IsUnderstood) (taken : AreTaken) (given : Given) (six : HaveAddresses given)
    (distinct : AreDistinct given.stations) (asks : AsksMayCome given) (history rest : List Event) (at : history_of (run_of given) ≡ history ++ rest)
    (central peripheral : OpenEnd) (in_it : is_in central.station given.stations ≡ true) (in_too : is_in peripheral.station given.stations ≡ true)
    (of_one : AreEndsIn history central peripheral) (is_open : IsOpen given history central) (is_open_too : IsOpen given history peripheral)
    (hear : HearEachInTurn given history central peripheral) (none_mixed : HearNoMixed given history central peripheral) where
  ends : AreEnds central.link.setup peripheral.link.setup
  ends =
      pair_ends whole opens_there understood taken given six distinct asks history rest at central peripheral in_it in_too of_one is_open is_open_too hear none_mixed

  one_link : HaveOneConnectInd central.link.setup peripheral.link.setup
  one_link = one_connect_ind history central peripheral of_one

  one_back : HaveOneConnectInd peripheral.link.setup central.link.setup
  one_back = record { fields = sym one_link.fields; opened = sym one_link.opened }

  abbrev Kept : List Event → OpenLink → OpenLink → Type 0
  Kept before c p =
      ByStanding central.link.setup peripheral.link.setup peripheral.handle (standing (past_of central.station before))
      (standing (past_of peripheral.station before)) (facts_at given peripheral.station before).turn.doing c p

  kept : (before after : List Event) (c p : OpenLink) → history ≡ before ++ after → link_at central.handle (facts_at given central.station before).links ≡ Some c
      → c.setup ≡ central.link.setup → link_at peripheral.handle (facts_at given peripheral.station before).links ≡ Some p → p.setup ≡ peripheral.link.setup
      → Kept before c p
  kept before after c p is c_open c_setup p_open p_setup =
      kept_to whole opens_there taken given distinct central peripheral ends in_it in_too asks (apart_ends history central peripheral of_one) history rest at hear
      none_mixed before after is c p c_open c_setup p_open p_setup

  central_side : ReadsAsSent given history central peripheral
  central_side before after octets link is received own sent =
      let h = are_here taken given distinct history rest at central peripheral in_it in_too is_open is_open_too one_link hear.one_hears none_mixed.one_hears before after
      octets link is received own sent in
      let there = link_after (PacketSent sent.slot) sent.link in
      h.read (central_reads whole opens_there central.link.setup peripheral.link.setup ends (facts_at given central.station before).turn.slot (facts_in link)
      (facts_in there) h.packet.channel octets true h.packet.packet h.packet.same h.unmixed
      (answered_now taken given distinct before (after ++ rest) octets central peripheral ends in_it in_too link there h.own_open h.own_setup h.far_open h.far_setup
      (kept before (Called central.station (PacketHeard octets) ∷ after) link there is h.own_open h.own_setup h.far_open h.far_setup) h.place h.listens h.packet))

  peripheral_side : ReadsAsSent given history peripheral central
  peripheral_side before after octets link is received own sent =
      let h = are_here taken given distinct history rest at peripheral central in_too in_it is_open_too is_open one_back hear.other_hears none_mixed.other_hears before
      after octets link is received own sent in
      let there = link_after (PacketSent sent.slot) sent.link in
      h.read (peripheral_reads whole opens_there central.link.setup peripheral.link.setup ends (facts_at given peripheral.station before).turn.slot (facts_in there)
      (facts_in link) h.packet.channel octets true h.packet.packet h.packet.same h.unmixed
      (begun_now taken given distinct before (after ++ rest) octets central peripheral ends in_it in_too there link h.far_open h.far_setup h.own_open h.own_setup
      (kept before (Called peripheral.station (PacketHeard octets) ∷ after) there link is h.far_open h.far_setup h.own_open h.own_setup) h.place h.listens h.packet))

  pub read_as_sent : ReadEachOtherAsSent given history central peripheral
  read_as_sent = record { one_reads = central_side; other_reads = peripheral_side }
