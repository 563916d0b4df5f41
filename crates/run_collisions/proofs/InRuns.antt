-- A central of a run that takes the first PDU of a procedure of the peripheral while its own is in progress, and a peripheral
-- that takes the rejection of its procedure.
use Rattle.std.proofs.Common.{◌≡◌, inl, inr, ℕ, Bool, true, false, Some, List, [], ◌∷◌, ◌++◌, append-nil, length, refl, sym, ap, ◌∙◌}
use Rattle.std.specs.Prelude.{if◌then◌else◌}
use Rattle.std.specs.List.{filter}
use Rattle.ble_base.specs.declared.error_codes.ErrCode.{ErrCode}
use Rattle.ble_base.specs.declared.notes.Note.{Note}
use Rattle.ble_base.specs.declared.notes.Note.TheVariants.{Took}
use Rattle.ble_base.specs.declared.verdicts.Verdict.TheVariants.{Good}
use Rattle.exclusive_stages.specs.declared.pdus.Exclusive.{Exclusive}
use Rattle.controller_model.specs.Facts.{Facts}
use Rattle.controller_model.specs.Heard.{has_room}
use Rattle.controller_model.specs.Step.{PacketHeard}
use Rattle.run_pairs.specs.link_calls.link_model.Facts.{Facts as EndFacts}
use Rattle.run_pairs.specs.link_calls.link_model.Numbers.{is_took_note}
use Rattle.run_pairs.specs.link_calls.link_model.Packets.{is_forged, verdict_of}
use Rattle.run_pairs.specs.link_calls.link_model.Setup.{Setup as EndSetup}
use Rattle.run_pairs.specs.link_calls.open_links.OpenLinks.{OpenLink, facts_in, link_at}
use Rattle.run_pairs.specs.link_calls.run_model.Feeding.{AreDistinct}
use Rattle.run_pairs.specs.link_calls.run_model.History.{Called, Event, past_of}
use Rattle.run_pairs.specs.link_calls.run_model.LinkEnds.{HaveAddresses}
use Rattle.run_pairs.specs.link_calls.run_model.Run.{Given, facts_at, history_of, run_of, setup_at}
use Rattle.run_pairs.specs.link_calls.run_laws.Ends.{AreEnds as AreEndsIn, IsOpen, OpenEnd, link_listened}
use Rattle.run_pairs.proofs.link_calls.link_model.Hearing.{IsHeardWhole}
use Rattle.run_pairs.proofs.link_calls.run_model.LinkEnds.{AreTaken, IsUnderstood}
use Rattle.run_pairs.proofs.link_calls.run_model.Stations.{is_in}
use Rattle.run_pairs.proofs.link_calls.run_laws.InAgreement.{OpenedBefore}
use Rattle.run_pairs.proofs.link_calls.run_laws.LinkPhases.{in_phase}
use Rattle.run_pairs.proofs.link_calls.run_laws.OpenSteps.{open_has}
use Rattle.run_pairs.proofs.link_calls.run_laws.SameEvent.{apart_ends}
use Rattle.run_pairs.proofs.link_calls.run_laws.TurnPlaces.{Within, at_stage, standing}
use Rattle.link_runs.specs.link_pairs.Ends.{AreEnds, is_lasting}
use Rattle.link_runs.specs.link_pairs.Hearing.{IsPacketOf, is_mixed_packet, received}
use Rattle.link_runs.proofs.link_pairs.Understanding.{IsOpenedThere}
use Rattle.link_pairs.specs.link_model.Controls.{is_procedure_pdu}
use Rattle.run_pairs.specs.InTurns.{HasSentNow, HearEachInTurn, HearNoMixed}
use Rattle.run_pairs.specs.Stages.{AreAnsweredEnds, AreBegunEnds, CentralTook, IsForged, IsLate, IsOver, Lasts, PeripheralTook}
use Rattle.run_pairs.proofs.BothEnds.{ByStanding, kept_to}
use Rattle.run_pairs.proofs.FarPackets.{packet_now}
use Rattle.run_pairs.proofs.CallPlaces.{StandsInPhase, stands_called}
use Rattle.run_pairs.proofs.Conclusions.{pair_ends}
use Rattle.run_pairs.proofs.HeardNow.{answered_now, begun_now, listens_by, on_link, side_at}
use Rattle.run_pairs.proofs.EndCalls.{good_genuine, central_unworded}
use Rattle.run_pairs.proofs.LinkSteps.{AsksMayCome}
use Rattle.run_pairs.proofs.OneSide.{StationAt}
use Rattle.run_pairs.proofs.PairSteps.{IsPacketNow}
use Rattle.run_pairs.proofs.Stages.{hears_its_end}
use Rattle.run_pairs.proofs.Unmixed.{front_unmixed, next_unmixed}
use Rattle.run_collisions.specs.Prevailing.{Prevails, TakesColliding, seen}
use Rattle.run_collisions.specs.Refused.{IsRefused, TakesRejection, is_refusing}
use Rattle.run_collisions.proofs.AfterCalls.{called_facts, prevails_held}
use Rattle.run_collisions.proofs.CentralTakes.{central_taken, prevails_here, refuses_none}
use Rattle.run_collisions.proofs.OfPairs.{good_taken}
use Rattle.run_collisions.proofs.PeripheralTakes.{is_refused, peripheral_taken}
use Rattle.run_collisions.proofs.Taken.{taken_first, taken_rejection}
use Rattle.run_collisions.specs.Taking.{TakesControl}

-- ---- the peripheral answered, and the central hears it

none_if : (b : Bool) (note : Note) (rest : List Note) → (rest ≡ [] → ⊥) → (if b then note ∷ rest else rest) ≡ [] → ⊥
none_if true note rest never is = absurd (cc)
none_if false note rest never is = never is

-- a note that a PDU is taken is among these
none_there : (earlier later : List Note) (handle number llid : ℕ) (body : List ℕ)
    → filter is_took_note (earlier ++ Took handle number llid (record { items = body }) ∷ later) ≡ [] → ⊥
none_there [] later handle number llid body is = absurd (cc)
none_there (note ∷ earlier) later handle number llid body is =
    none_if (is_took_note note) note (filter is_took_note (earlier ++ Took handle number llid (record { items = body }) ∷ later))
    (none_there earlier later handle number llid body) is

module _ (whole : IsHeardWhole) (central peripheral : EndSetup) (ends : AreEnds central peripheral) (slot : ℕ) (c p : EndFacts) (channel : ℕ) (octets : List ℕ)
    (room : Bool) (packet : IsPacketOf peripheral slot p channel octets) (same : channel ≡ c.event.channel) (own other : Exclusive)
    (colliding : TakesColliding central c slot octets room own other) (opened : IsOpenedThere) (unmixed : is_mixed_packet central c p octets ≡ false) where
  genuine_colliding : is_forged central c octets ≡ false
  genuine_colliding = good_genuine central octets c (good_taken central c octets slot room colliding.earlier colliding.later _ colliding.notes)

  pub answered_prevails : AreAnsweredEnds central peripheral slot true c p → Prevails (seen central slot octets c)
      (received central slot octets room c) own other
  answered_prevails (Lasts link) =
      prevails_here whole central peripheral slot c p channel octets room ends link.linked link.central_lasts link.peripheral_lasts link.central_past
      (link.entered refl) packet same (taken_first central c slot octets room own other colliding) opened unmixed own other colliding.first colliding.runs
  answered_prevails (PeripheralTook parting) =
      absurd (none_there colliding.earlier colliding.later central.link.handle colliding.number 3 colliding.body
      (ap (filter is_took_note) (sym colliding.notes)
      ∙ (hears_its_end whole peripheral central (sym ends.one_link.fields) ends.central_max.to p c parting slot channel octets packet same room opened unmixed
      genuine_colliding).takes_none))
  answered_prevails (CentralTook parting none) = absurd (cc)
  answered_prevails (IsLate link none) = absurd (cc)
  answered_prevails (IsOver link none) = absurd (cc)
  answered_prevails (IsForged link none) = absurd (cc)

module _ (whole : IsHeardWhole) (central peripheral : EndSetup) (ends : AreEnds central peripheral) (slot : ℕ) (c p : EndFacts) (channel : ℕ) (octets : List ℕ)
    (room : Bool) (packet : IsPacketOf peripheral slot p channel octets) (same : channel ≡ c.event.channel)
    (taking : TakesControl central c slot octets room) (opened : IsOpenedThere) (unmixed : is_mixed_packet central c p octets ≡ false) where
  genuine_up : is_forged central c octets ≡ false
  genuine_up = good_genuine central octets c (good_taken central c octets slot room taking.earlier taking.later _ taking.notes)

  -- what it takes is no refusal, and its own control PDUs were taken
  record IsTakenAlone : Type 0 where
    refuses_none : is_refusing taking.ctrl ≡ false
    own_taken : is_procedure_pdu c.acknowledgement.last ≡ true → length p.acknowledgement.accepted ≡ length c.acknowledgement.sent

  answered_alone : AreAnsweredEnds central peripheral slot true c p → IsTakenAlone
  answered_alone (Lasts link) =
      record {
        refuses_none = refuses_none whole central peripheral slot c p channel octets room ends link.linked link.central_lasts link.peripheral_lasts
            link.central_past (link.entered refl) packet same taking opened unmixed;
        own_taken = central_taken whole central peripheral slot c p channel octets room ends link.linked link.central_lasts link.peripheral_lasts
            link.central_past (link.entered refl) packet same taking opened unmixed;
      }
  answered_alone (PeripheralTook parting) =
      absurd (none_there taking.earlier taking.later central.link.handle taking.number 3 taking.body
      (ap (filter is_took_note) (sym taking.notes)
      ∙ (hears_its_end whole peripheral central (sym ends.one_link.fields) ends.central_max.to p c parting slot channel octets packet same room opened unmixed
      genuine_up).takes_none))
  answered_alone (CentralTook parting none) = absurd (cc)
  answered_alone (IsLate link none) = absurd (cc)
  answered_alone (IsOver link none) = absurd (cc)
  answered_alone (IsForged link none) = absurd (cc)

-- ---- the central sent, and the peripheral hears it

module _ (whole : IsHeardWhole) (central peripheral : EndSetup) (ends : AreEnds central peripheral) (slot : ℕ) (c p : EndFacts) (channel : ℕ) (octets : List ℕ)
    (room : Bool) (packet : IsPacketOf central slot c channel octets) (same : channel ≡ p.event.channel) (q : Exclusive) (code : ErrCode)
    (taking : TakesRejection peripheral p slot octets room q code) (opened : IsOpenedThere) (unmixed : is_mixed_packet peripheral p c octets ≡ false) where
  genuine_rejection : is_forged peripheral p octets ≡ false
  genuine_rejection = good_genuine peripheral octets p (good_taken peripheral p octets slot room taking.earlier taking.later _ taking.notes)

  pub begun_refuses : AreBegunEnds central peripheral slot true true c p
      → IsRefused peripheral (seen peripheral slot octets p) (received peripheral slot octets room p) taking.later q code
  begun_refuses (inl link) =
      is_refused whole central peripheral slot c p channel octets room ends link.begun link.central_lasts link.peripheral_lasts packet same link.supervised
      (taken_rejection peripheral p slot octets room q code taking) opened unmixed q code refl
  begun_refuses (inr parting) =
      absurd (none_there taking.earlier taking.later peripheral.link.handle taking.number 3 taking.body
      (ap (filter is_took_note) (sym taking.notes)
      ∙ (hears_its_end whole central peripheral ends.one_link.fields ends.peripheral_max.to c p parting slot channel octets packet same room opened unmixed
      genuine_rejection).takes_none))

module _ (whole : IsHeardWhole) (central peripheral : EndSetup) (ends : AreEnds central peripheral) (slot : ℕ) (c p : EndFacts) (channel : ℕ) (octets : List ℕ)
    (room : Bool) (packet : IsPacketOf central slot c channel octets) (same : channel ≡ p.event.channel)
    (taking : TakesControl peripheral p slot octets room) (opened : IsOpenedThere) (unmixed : is_mixed_packet peripheral p c octets ≡ false) where
  genuine_down : is_forged peripheral p octets ≡ false
  genuine_down = good_genuine peripheral octets p (good_taken peripheral p octets slot room taking.earlier taking.later _ taking.notes)

  begun_taken : AreBegunEnds central peripheral slot true true c p
      → is_procedure_pdu p.acknowledgement.last ≡ true → length c.acknowledgement.accepted ≡ length p.acknowledgement.sent
  begun_taken (inl link) =
      peripheral_taken whole central peripheral slot c p channel octets room ends link.begun link.central_lasts link.peripheral_lasts packet same
      link.supervised taking opened unmixed
  begun_taken (inr parting) =
      absurd (none_there taking.earlier taking.later peripheral.link.handle taking.number 3 taking.body
      (ap (filter is_took_note) (sym taking.notes)
      ∙ (hears_its_end whole central peripheral ends.one_link.fields ends.peripheral_max.to c p parting slot channel octets packet same room opened unmixed
      genuine_down).takes_none))

  -- the link lasts there
  begun_lasts : AreBegunEnds central peripheral slot true true c p → is_lasting p ≡ true
  begun_lasts (inl link) = link.peripheral_lasts
  begun_lasts (inr parting) =
      absurd (none_there taking.earlier taking.later peripheral.link.handle taking.number 3 taking.body
      (ap (filter is_took_note) (sym taking.notes)
      ∙ (hears_its_end whole central peripheral ends.one_link.fields ends.peripheral_max.to c p parting slot channel octets packet same room opened unmixed
      genuine_down).takes_none))

-- ---- in a run

module _ (whole : IsHeardWhole) (opens_there : IsOpenedThere) (understood : IsUnderstood) (taken : AreTaken) (given : Given) (six : HaveAddresses given)
    (distinct : AreDistinct given.stations)
    (asks : AsksMayCome given) (before rest : List Event) (octets : List ℕ) (central peripheral : OpenEnd)
    (at : history_of (run_of given) ≡ before ++ Called central.station (PacketHeard octets) ∷ rest)
    (in_it : is_in central.station given.stations ≡ true) (in_too : is_in peripheral.station given.stations ≡ true)
    (of_one : AreEndsIn before central peripheral) (is_open : IsOpen given before central) (is_open_too : IsOpen given before peripheral)
    (hear : HearEachInTurn given before central peripheral)
    (none_mixed : HearNoMixed given (before ++ Called central.station (PacketHeard octets) ∷ []) central peripheral)
    (listens : link_listened (facts_at given central.station before).turn.doing ≡ Some central.handle)
    (sent : HasSentNow given before central peripheral (facts_in central.link).event.channel octets) where
  abbrev c_here : EndSetup
  c_here = central.link.setup

  abbrev p_here : EndSetup
  p_here = peripheral.link.setup

  abbrev call : List Event
  call = Called central.station (PacketHeard octets) ∷ rest

  ends : AreEnds c_here p_here
  ends = pair_ends whole opens_there understood taken given six distinct asks before call at central peripheral in_it in_too of_one is_open is_open_too hear
      (front_unmixed given before (Called central.station (PacketHeard octets) ∷ []) central peripheral none_mixed)

  kept_here : ByStanding c_here p_here peripheral.handle (standing (past_of central.station before)) (standing (past_of peripheral.station before))
      (facts_at given peripheral.station before).turn.doing central.link peripheral.link
  kept_here =
      kept_to whole opens_there taken given distinct central peripheral ends in_it in_too asks (apart_ends before central peripheral of_one) before call at hear
      (front_unmixed given before (Called central.station (PacketHeard octets) ∷ []) central peripheral none_mixed) before []
      (sym (append-nil before)) central.link peripheral.link is_open refl is_open_too refl

  abbrev facts_c : Facts
  facts_c = facts_at given central.station before

  abbrev slot : ℕ
  slot = facts_c.turn.slot

  stands : StandsInPhase given before central.station
  stands = stands_called given before rest central.station (PacketHeard octets) distinct at

  side : StationAt (setup_at given central.station) (Within stands.phases) stands.turns facts_c
  side = side_at taken given before central.station (at_stage (Within stands.phases) stands.turns) stands.stand.own

  -- the packet is the answer of the turn
  packet : IsPacketNow p_here slot (facts_in central.link) peripheral.link octets
  packet = packet_now given before call central peripheral (facts_in central.link) octets peripheral.link distinct in_too at is_open_too refl sent

  answered : AreAnsweredEnds c_here p_here slot true (facts_in central.link) (facts_in peripheral.link)
  answered =
      answered_now taken given distinct before rest octets central peripheral ends in_it in_too central.link peripheral.link is_open refl is_open_too refl kept_here at
      listens packet

  unmixed_up : verdict_of c_here (facts_in central.link) octets ≡ Good → is_mixed_packet c_here (facts_in central.link) (facts_in peripheral.link) octets ≡ false
  unmixed_up good =
      next_unmixed given before octets central peripheral none_mixed.one_hears
      (record { handle = central.handle; listens = listens; is_open = is_open; is_good = good }) is_open_too

  pub prevails_in_run : (room : Bool) (own other : Exclusive) → TakesColliding c_here (facts_in central.link) slot octets room own other
      → Prevails (seen c_here slot octets (facts_in central.link)) (received c_here slot octets room (facts_in central.link)) own other
  prevails_in_run room own other colliding =
      let c = facts_in central.link in
      let p = facts_in peripheral.link in
      answered_prevails whole c_here p_here ends slot c p packet.channel octets room packet.packet packet.same own other colliding opens_there
      (unmixed_up (good_taken c_here c octets slot room colliding.earlier colliding.later _ colliding.notes))
      answered

  alone_in_run : (room : Bool) (taking : TakesControl c_here (facts_in central.link) slot octets room)
      → IsTakenAlone whole c_here p_here ends slot (facts_in central.link) (facts_in peripheral.link) packet.channel octets room packet.packet packet.same taking opens_there
      (unmixed_up (good_taken c_here (facts_in central.link) octets slot room taking.earlier taking.later _ taking.notes))
  alone_in_run room taking =
      let c = facts_in central.link in
      let p = facts_in peripheral.link in
      answered_alone whole c_here p_here ends slot c p packet.channel octets room packet.packet packet.same taking opens_there
      (unmixed_up (good_taken c_here c octets slot room taking.earlier taking.later _ taking.notes))
      answered

  pub refuses_none_in_run : (room : Bool) (taking : TakesControl c_here (facts_in central.link) slot octets room) → is_refusing taking.ctrl ≡ false
  refuses_none_in_run room taking = (alone_in_run room taking).refuses_none

  pub central_taken_in_run : (room : Bool) (taking : TakesControl c_here (facts_in central.link) slot octets room)
      → is_procedure_pdu (facts_in central.link).acknowledgement.last ≡ true
      → length (facts_in peripheral.link).acknowledgement.accepted ≡ length (facts_in central.link).acknowledgement.sent
  central_taken_in_run room taking = (alone_in_run room taking).own_taken

  pub prevails_after : (next : OpenLink) (own other : Exclusive)
      → IsOpen given (before ++ Called central.station (PacketHeard octets) ∷ []) (record central { link = next }) → next.setup ≡ c_here
      → TakesColliding c_here (facts_in central.link) slot octets (has_room (setup_at given central.station) facts_c) own other
      → Prevails (seen c_here slot octets (facts_in central.link)) (facts_in next) own other
  prevails_after next own other opened same colliding =
      let setup = setup_at given central.station in
      let old = open_has (OpenedBefore slot) 0 central.handle facts_c.links central.link
      (side.station.old (on_link central.handle facts_c.turn.doing listens)) is_open in
      prevails_held setup facts_c octets central.handle central.link next is_open
      (listens_by central.handle facts_c.turn.doing listens) old same of_one.is_central
      (central_unworded facts_c.links central.handle central.link is_open setup facts_c stands.phases facts_c.turn.doing
      (in_phase setup (past_of central.station before) stands.phases stands.turns stands.stand.own) (listens_by central.handle facts_c.turn.doing listens)
      of_one.is_central)
      (seen c_here slot octets (facts_in central.link)) own other side.holds.phased.uses.in_turn.listens
      (ap (λ (f : Facts). link_at central.handle f.links) (sym (called_facts given central.station (PacketHeard octets) before)) ∙ opened)
      (prevails_in_run (has_room setup facts_c) own other colliding)

-- ---- the peripheral of a run

module _ (whole : IsHeardWhole) (opens_there : IsOpenedThere) (understood : IsUnderstood) (taken : AreTaken) (given : Given) (six : HaveAddresses given)
    (distinct : AreDistinct given.stations)
    (asks : AsksMayCome given) (before rest : List Event) (octets : List ℕ) (central peripheral : OpenEnd)
    (at : history_of (run_of given) ≡ before ++ Called peripheral.station (PacketHeard octets) ∷ rest)
    (in_it : is_in central.station given.stations ≡ true) (in_too : is_in peripheral.station given.stations ≡ true)
    (of_one : AreEndsIn before central peripheral) (is_open : IsOpen given before central) (is_open_too : IsOpen given before peripheral)
    (hear : HearEachInTurn given before central peripheral)
    (none_mixed : HearNoMixed given (before ++ Called peripheral.station (PacketHeard octets) ∷ []) central peripheral)
    (listens : link_listened (facts_at given peripheral.station before).turn.doing ≡ Some peripheral.handle)
    (sent : HasSentNow given before peripheral central (facts_in peripheral.link).event.channel octets) where
  abbrev c_there : EndSetup
  c_there = central.link.setup

  abbrev p_there : EndSetup
  p_there = peripheral.link.setup

  abbrev call_there : List Event
  call_there = Called peripheral.station (PacketHeard octets) ∷ rest

  ends_there : AreEnds c_there p_there
  ends_there = pair_ends whole opens_there understood taken given six distinct asks before call_there at central peripheral in_it in_too of_one is_open is_open_too hear
      (front_unmixed given before (Called peripheral.station (PacketHeard octets) ∷ []) central peripheral none_mixed)

  abbrev facts_p : Facts
  facts_p = facts_at given peripheral.station before

  abbrev slot_there : ℕ
  slot_there = facts_p.turn.slot

  kept_there : ByStanding c_there p_there peripheral.handle (standing (past_of central.station before)) (standing (past_of peripheral.station before))
      facts_p.turn.doing central.link peripheral.link
  kept_there =
      kept_to whole opens_there taken given distinct central peripheral ends_there in_it in_too asks
      (apart_ends before central peripheral of_one) before call_there at hear
      (front_unmixed given before (Called peripheral.station (PacketHeard octets) ∷ []) central peripheral none_mixed) before []
      (sym (append-nil before)) central.link peripheral.link is_open refl is_open_too refl

  -- the packet is the first of the turn
  sent_packet : IsPacketNow c_there slot_there (facts_in peripheral.link) central.link octets
  sent_packet = packet_now given before call_there peripheral central (facts_in peripheral.link) octets central.link distinct in_it at is_open refl sent

  begun : AreBegunEnds c_there p_there slot_there true true (facts_in central.link) (facts_in peripheral.link)
  begun =
      begun_now taken given distinct before rest octets central peripheral ends_there in_it in_too central.link peripheral.link is_open refl is_open_too refl kept_there
      at listens sent_packet

  unmixed_down : verdict_of p_there (facts_in peripheral.link) octets ≡ Good
      → is_mixed_packet p_there (facts_in peripheral.link) (facts_in central.link) octets ≡ false
  unmixed_down good =
      next_unmixed given before octets peripheral central none_mixed.other_hears
      (record { handle = peripheral.handle; listens = listens; is_open = is_open_too; is_good = good }) is_open

  pub refused_in_run : (room : Bool) (q : Exclusive) (code : ErrCode) (taking : TakesRejection p_there (facts_in peripheral.link) slot_there octets room q code)
      → IsRefused p_there (seen p_there slot_there octets (facts_in peripheral.link))
      (received p_there slot_there octets room (facts_in peripheral.link)) taking.later
      q code
  refused_in_run room q code taking =
      let packet = sent_packet in
      let c = facts_in central.link in
      let p = facts_in peripheral.link in
      begun_refuses whole c_there p_there ends_there slot_there c p packet.channel octets room packet.packet packet.same q code taking opens_there
      (unmixed_down (good_taken p_there p octets slot_there room taking.earlier taking.later _ taking.notes))
      begun

  pub peripheral_taken_in_run : (room : Bool) (taking : TakesControl p_there (facts_in peripheral.link) slot_there octets room)
      → is_procedure_pdu (facts_in peripheral.link).acknowledgement.last ≡ true
      → length (facts_in central.link).acknowledgement.accepted ≡ length (facts_in peripheral.link).acknowledgement.sent
  peripheral_taken_in_run room taking =
      let packet = sent_packet in
      let c = facts_in central.link in
      let p = facts_in peripheral.link in
      begun_taken whole c_there p_there ends_there slot_there c p packet.channel octets room packet.packet packet.same taking opens_there
      (unmixed_down (good_taken p_there p octets slot_there room taking.earlier taking.later _ taking.notes))
      begun

  pub peripheral_lasts_in_run : (room : Bool) (taking : TakesControl p_there (facts_in peripheral.link) slot_there octets room)
      → is_lasting (facts_in peripheral.link) ≡ true
  peripheral_lasts_in_run room taking =
      let packet = sent_packet in
      let c = facts_in central.link in
      let p = facts_in peripheral.link in
      begun_lasts whole c_there p_there ends_there slot_there c p packet.channel octets room packet.packet packet.same taking opens_there
      (unmixed_down (good_taken p_there p octets slot_there room taking.earlier taking.later _ taking.notes))
      begun
