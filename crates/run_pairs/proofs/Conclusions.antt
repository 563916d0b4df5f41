-- What follows, at any place of a run, from the relation of the two ends of a link there.
use Rattle.std.proofs.Common.{◌≡◌, ◌⊎◌, inl, inr, ℕ, zero, suc, ◌+◌, Bool, true, false, Option, Some, None, List, [], ◌∷◌, ◌++◌, append-nil, is_some, refl, sym, ap, subst, ◌∙◌, arith}
use Rattle.link_calls.specs.controller_model.Step.{PacketHeard}
use Rattle.link_calls.specs.run_laws.Ends.{AreEnds as AreEndsIn, IsOpen, OpenEnd, link_listened}
use Rattle.run_pairs.specs.InTurns.{HasSentNow, HearEachInTurn, HearNoMixed}
use Rattle.run_pairs.proofs.CallPlaces.{AllBetween}
use Rattle.run_pairs.proofs.BothEnds.{ByStanding, at_standing, both_new, kept_to}
use Rattle.run_pairs.proofs.FarPackets.{packet_now}
use Rattle.run_pairs.proofs.HeardNow.{answered_now, begun_now, side_at}
use Rattle.run_pairs.specs.Stages.{AreAnsweredEnds, AreHeardEnds}
use Rattle.run_pairs.proofs.PairSteps.{AreBothBegun, AtPlace, InTurn, IsCentralBegun, IsPeripheralBegun, NewOr}
use Rattle.run_pairs.proofs.Stages.{IsJudged, central_judges, central_unheard, linked_agree, peripheral_judges, peripheral_unheard}
use Rattle.ble_base.specs.declared.error_codes.ErrCode.{ErrCode}
use Rattle.ack_bit.proofs.Links.{sent}
use Rattle.link_calls.specs.link_model.Acknowledgement.{Acknowledgement, end_of}
use Rattle.link_calls.specs.link_model.Controls.{pdu_fixed}
use Rattle.link_calls.specs.link_model.Facts.{Facts as EndFacts}
use Rattle.link_calls.specs.link_model.Delivery.{IsDelivered}
use Rattle.link_calls.specs.link_model.OneLink.{AreInAgreement}
use Rattle.link_calls.proofs.link_model.Taking.{past_delivered}
use Rattle.link_runs.proofs.link_pairs.Counts.{turned}
use Rattle.link_calls.specs.link_model.Setup.{Setup as EndSetup}
use Rattle.link_calls.proofs.link_model.Acknowledging.{ack_sent}
use Rattle.link_calls.proofs.link_model.Hearing.{IsHeardWhole}
use Rattle.link_calls.specs.open_links.OpenLinks.{OpenLink, facts_in}
use Rattle.link_calls.specs.controller_model.declared.doing.Doing.{Doing}
use Rattle.link_calls.specs.run_model.Feeding.{AreDistinct}
use Rattle.link_calls.specs.run_model.History.{Event, Called, past_of}
use Rattle.link_calls.specs.run_model.LinkEnds.{HaveAddresses}
use Rattle.link_calls.specs.run_model.Run.{Given, facts_at, history_of, run_of, setup_at}
use Rattle.link_calls.proofs.run_model.LinkEnds.{AreTaken, IsUnderstood}
use Rattle.link_calls.proofs.run_model.Stations.{is_in}
use Rattle.link_runs.specs.link_pairs.Ends.{AreEnds, is_lasting}
use Rattle.link_runs.specs.link_pairs.Sound.{AreSoundEnds}
use Rattle.link_runs.specs.link_pairs.Turns.{central_begun, prepared, sent_if}
use Rattle.link_runs.proofs.link_pairs.EndingNothing.{begun_ends_nothing, prepared_ends_nothing}
use Rattle.link_runs.proofs.link_pairs.NothingNew.{prepared_still}
use Rattle.link_runs.proofs.link_pairs.Sounding.{are_sound}
use Rattle.link_runs.proofs.link_pairs.Understanding.{IsOpenedThere}
use Rattle.link_runs.specs.Open.{AreOpenEnds, AreTerminated, GoOnUnlessLate, GoesOnUnlessLate, HasHeardForged}
use Rattle.link_runs.proofs.GoingOn.{lasting_goes, lasting_took_none}
use Rattle.link_runs.proofs.Shutting.{are_terminated}
use Rattle.link_calls.proofs.run_laws.ChSel.{one_link}
use Rattle.link_calls.proofs.run_laws.OpenSteps.{open_has}
use Rattle.link_calls.proofs.run_laws.SameEvent.{apart_ends}
use Rattle.link_calls.proofs.run_laws.TurnPlaces.{Between, Stage, StandsSomewhere, Within, at_stage, standing, stands_in_run}
use Rattle.run_pairs.proofs.LinkSteps.{AsksMayCome}
use Rattle.run_pairs.proofs.OneSide.{IsSetUp, StationAt}

-- no procedure ends the link but at a late peripheral, or where a packet is forged, and the counts agree
pub record IsSoundPlace (c p : EndFacts) : Type 0 where
  pub goes_on : (c.control.ends ≡ None) ⊎ HasHeardForged c
  pub unless_late : GoesOnUnlessLate (Some c) p
  pub agreement : AreInAgreement c.acknowledgement p.acknowledgement

sent_agrees : (sends : Bool) (setup : EndSetup) (slot : ℕ) (c : EndFacts) (other : Acknowledgement) → AreInAgreement c.acknowledgement other
    → AreInAgreement (sent_if sends setup slot c).acknowledgement other
sent_agrees true setup slot c other agreed =
    subst (λ (a : Acknowledgement). AreInAgreement a other) (sym (ack_sent slot c)) (sent (end_of c.acknowledgement) (end_of other) (pdu_fixed c) agreed)
sent_agrees false setup slot c other agreed = agreed

module _ (whole : IsHeardWhole) (opens_there : IsOpenedThere) (c_end p_end : EndSetup) (ends : AreEnds c_end p_end) (p_handle : ℕ) where
  heard_sound : (slot : ℕ) (c p : EndFacts) → AreHeardEnds c_end p_end slot c p → IsSoundPlace c p
  heard_sound slot c p heard = record { goes_on = heard.central_goes_on; unless_late = heard.peripheral_goes_on; agreement = heard.agreement }

  answered_sound : (slot : ℕ) (answers : Bool) (c p : EndFacts) → AreAnsweredEnds c_end p_end slot answers c p → IsSoundPlace c p
  answered_sound slot answers c p done = heard_sound slot c p (central_unheard whole opens_there c_end p_end ends slot answers c p done)

  open_sound : (turns : ℕ) (c p : EndFacts) → AreOpenEnds c_end p_end turns c p → IsSoundPlace c p
  open_sound turns c p (inl link) = record {
    goes_on = inl (lasting_goes c link.central_lasts);
    unless_late = inl (lasting_goes p link.peripheral_lasts);
    agreement = linked_agree c_end p_end ends turns false c p link.linked link.central_lasts link.peripheral_lasts;
  }
  open_sound turns c p (inr parting) = record { goes_on = inl parting.took.goes_on; unless_late = inl parting.sent.goes_on; agreement = parting.agreement }

  -- neither procedure ended the link, between two turns
  open_goes : (turns : ℕ) (c p : EndFacts) → AreOpenEnds c_end p_end turns c p → p.control.ends ≡ None
  open_goes turns c p (inl link) = lasting_goes p link.peripheral_lasts
  open_goes turns c p (inr parting) = parting.sent.goes_on

  still_goes : (before now : EndFacts) → now.control.ends ≡ before.control.ends → (before.control.ends ≡ None) ⊎ HasHeardForged before
      → (now.control.ends ≡ None) ⊎ HasHeardForged now
  still_goes before now same (inl goes) = inl (same ∙ goes)
  still_goes before now same (inr forged) = inr (same ∙ forged)

  central_begun_sound : (slot : ℕ) (c p : OpenLink) → IsCentralBegun c_end p_end p_handle slot c p → IsSoundPlace (facts_in c) (facts_in p)
  central_begun_sound slot c p begun =
      let before = open_sound slot begun.before (facts_in p) begun.ends_before in
      let ready = prepared c_end slot begun.transmits begun.before in
      let counts = (prepared_still c_end slot begun.transmits begun.before).acknowledgement in
      subst (λ (f : EndFacts). IsSoundPlace f (facts_in p)) (sym begun.is) (record {
        goes_on = still_goes begun.before (central_begun c_end slot begun.transmits begun.before) (begun_ends_nothing c_end slot begun.transmits begun.before).procedures before.goes_on;
        unless_late = inl (open_goes slot begun.before (facts_in p) begun.ends_before);
        agreement = sent_agrees begun.transmits c_end slot ready (facts_in p).acknowledgement
            (subst (λ (a : Acknowledgement). AreInAgreement a (facts_in p).acknowledgement) (sym counts) before.agreement);
      })

  peripheral_begun_sound : (slot : ℕ) (doing : Doing) (c p : OpenLink) → IsPeripheralBegun c_end p_end p_handle slot doing c p → IsSoundPlace (facts_in c) (facts_in p)
  peripheral_begun_sound slot doing c p begun =
      let before = open_sound slot (facts_in c) begun.before begun.ends_before in
      let counts = (prepared_still p_end slot begun.listens begun.before).acknowledgement in
      subst (λ (f : EndFacts). IsSoundPlace (facts_in c) f) (sym begun.is) (record {
        goes_on = before.goes_on;
        unless_late = inl ((prepared_ends_nothing p_end slot begun.listens begun.before).procedures ∙ open_goes slot (facts_in c) begun.before begun.ends_before);
        agreement = subst (λ (a : Acknowledgement). AreInAgreement (facts_in c).acknowledgement a) (sym counts) before.agreement;
      })

  begun_sound : (slot : ℕ) (doing : Doing) (c p : OpenLink) → AreBothBegun c_end p_end p_handle slot doing c p → IsSoundPlace (facts_in c) (facts_in p)
  begun_sound slot doing c p both =
      answered_sound slot false (facts_in c) (facts_in p) (peripheral_unheard whole opens_there c_end p_end ends slot both.transmits both.listens (facts_in c) (facts_in p) both.begun)

  in_turn_sound : (others phases slot : ℕ) (doing : Doing) (c p : OpenLink) → InTurn c_end p_end p_handle others phases slot doing c p → IsSoundPlace (facts_in c) (facts_in p)
  in_turn_sound zero phases slot doing c p both = begun_sound slot doing c p both
  in_turn_sound (suc others) zero slot doing c p done = answered_sound slot done.answers (facts_in c) (facts_in p) done.answered_so
  in_turn_sound (suc others) (suc zero) slot doing c p done = answered_sound slot done.answers (facts_in c) (facts_in p) done.answered_so
  in_turn_sound (suc others) (suc (suc phases)) slot doing c p heard = heard_sound slot (facts_in c) (facts_in p) heard

  -- ---- between two turns

  pub open_ends_sound : (turns : ℕ) (c p : EndFacts) → AreOpenEnds c_end p_end turns c p → is_lasting c ≡ true → is_lasting p ≡ true → AreSoundEnds c_end p_end c p
  open_ends_sound turns c p (inl link) c_lasts p_lasts = are_sound c_end p_end ends turns false c p link.linked c_lasts p_lasts
  open_ends_sound turns c p (inr parting) c_lasts p_lasts =
      absurd (let none = lasting_took_none c c_lasts in
      let h : true ≡ false = sym parting.took.took ∙ ap (λ (o : Option ErrCode). is_some o) none in absurd cc)

-- ---- at a place of a run

module _ (whole : IsHeardWhole) (opens_there : IsOpenedThere) (understood : IsUnderstood) (taken : AreTaken) (given : Given) (six : HaveAddresses given) (distinct : AreDistinct given.stations)
    (asks : AsksMayCome given) (before rest : List Event) (at : history_of (run_of given) ≡ before ++ rest) (central peripheral : OpenEnd)
    (in_it : is_in central.station given.stations ≡ true) (in_too : is_in peripheral.station given.stations ≡ true)
    (of_one : AreEndsIn before central peripheral) (is_open : IsOpen given before central) (is_open_too : IsOpen given before peripheral)
    (hear : HearEachInTurn given before central peripheral) (none_mixed : HearNoMixed given before central peripheral) where
  abbrev c_here : EndSetup
  c_here = central.link.setup

  abbrev p_here : EndSetup
  p_here = peripheral.link.setup

  stands : (station : ℕ) (somewhere : StandsSomewhere (past_of station before)) → StationAt (setup_at given station) somewhere.at.stage somewhere.at.begun (facts_at given station before)
  stands station somewhere = side_at taken given before station somewhere.at somewhere.is

  set_up : (end : OpenEnd) → is_in end.station given.stations ≡ true → IsOpen given before end → IsSetUp end.link
  set_up end is_one opened =
      open_has IsSetUp 0 end.handle (facts_at given end.station before).links end.link
      (stands end.station (stands_in_run given before rest end.station distinct is_one at)).each opened

  pub pair_ends : AreEnds c_here p_here
  pair_ends =
      let one = set_up central in_it is_open in
      let other = set_up peripheral in_too is_open_too in record {
        one_link = one_link understood given before rest central peripheral distinct six in_it in_too at of_one is_open is_open_too;
        is_central = of_one.is_central;
        is_peripheral = of_one.is_peripheral;
        in_range = one.in_range;
        central_max = one.max;
        peripheral_max = other.max;
      }

  kept_here : ByStanding c_here p_here peripheral.handle (standing (past_of central.station before)) (standing (past_of peripheral.station before))
      (facts_at given peripheral.station before).turn.doing central.link peripheral.link
  kept_here =
      kept_to whole opens_there taken given distinct central peripheral pair_ends in_it in_too asks (apart_ends before central peripheral of_one) before rest at hear none_mixed before []
      (sym (append-nil before)) central.link peripheral.link is_open refl is_open_too refl

  pub open_linked : (slot : ℕ) → AllBetween given before slot → AreOpenEnds c_here p_here slot (facts_in central.link) (facts_in peripheral.link)
  open_linked slot between =
      at_standing c_here p_here peripheral.handle (at_stage Between slot) (at_stage Between slot) _ _ _ central.link peripheral.link (between central.station in_it)
      (between peripheral.station in_too) kept_here

  pub lasting_sound : (slot : ℕ) → AllBetween given before slot → is_lasting (facts_in central.link) ≡ true → is_lasting (facts_in peripheral.link) ≡ true
      → AreSoundEnds c_here p_here (facts_in central.link) (facts_in peripheral.link)
  lasting_sound slot between = open_ends_sound whole opens_there c_here p_here pair_ends peripheral.handle slot (facts_in central.link) (facts_in peripheral.link) (open_linked slot between)

  -- ---- at any place

  place_sound : (one other : Stage) (turns others : ℕ) → StationAt (setup_at given central.station) one turns (facts_at given central.station before)
      → StationAt (setup_at given peripheral.station) other others (facts_at given peripheral.station before)
      → AtPlace c_here p_here peripheral.handle one other turns others (facts_at given peripheral.station before).turn.doing central.link peripheral.link
      → IsSoundPlace (facts_in central.link) (facts_in peripheral.link)
  place_sound Between Between turns others side far stand = open_sound whole opens_there c_here p_here pair_ends peripheral.handle turns (facts_in central.link) (facts_in peripheral.link) stand
  place_sound Between (Within zero) turns others side far stand = peripheral_begun_sound whole opens_there c_here p_here pair_ends peripheral.handle turns _ central.link peripheral.link stand
  place_sound Between (Within (suc phases)) turns others side far stand =
      let slot = (facts_at given peripheral.station before).turn.slot in
      heard_sound whole opens_there c_here p_here pair_ends peripheral.handle slot (facts_in central.link) (facts_in peripheral.link) (stand.heard slot (sym far.holds.phased.uses.in_turn.slot_is))
  place_sound (Within zero) Between turns others side far stand = central_begun_sound whole opens_there c_here p_here pair_ends peripheral.handle others central.link peripheral.link stand
  place_sound (Within (suc phases)) Between turns others side far stand =
      let slot = (facts_at given central.station before).turn.slot in
      heard_sound whole opens_there c_here p_here pair_ends peripheral.handle slot (facts_in central.link) (facts_in peripheral.link) (stand.heard slot (sym side.holds.phased.uses.in_turn.slot_is))
  place_sound (Within phases) (Within other) turns others side far stand = by stand.1
    where
      slot_here : (facts_at given central.station before).turn.slot + 1 ≡ turns
      slot_here = side.holds.phased.uses.in_turn.slot_is

      slot_there : (facts_at given peripheral.station before).turn.slot + 1 ≡ turns
      slot_there = far.holds.phased.uses.in_turn.slot_is ∙ sym stand.0

      one_slot : (a b n : ℕ) → a + 1 ≡ n → b + 1 ≡ n → a ≡ b
      one_slot a b n is is_too = omega (arith, is, is_too)

      by : NewOr c_here p_here peripheral.handle turns (λ slot. InTurn c_here p_here peripheral.handle other phases slot (facts_at given peripheral.station before).turn.doing central.link peripheral.link)
          → IsSoundPlace (facts_in central.link) (facts_in peripheral.link)
      by (inr stands) =
          let slot = (facts_at given central.station before).turn.slot in
          in_turn_sound whole opens_there c_here p_here pair_ends peripheral.handle other phases slot _ central.link peripheral.link (stands slot (sym slot_here))
      by (inl new) =
          let slot = (facts_at given central.station before).turn.slot in
          let opened : c_here.opened ≡ slot = one_slot c_here.opened slot turns new slot_here in
          let there : c_here.opened ≡ (facts_at given peripheral.station before).turn.slot = one_slot c_here.opened _ turns new slot_there in
          heard_sound whole opens_there c_here p_here pair_ends peripheral.handle slot (facts_in central.link) (facts_in peripheral.link)
          (both_new whole opens_there taken given distinct central peripheral pair_ends in_it in_too asks slot central.link peripheral.link refl refl
          (side.new central.handle central.link is_open opened) (far.new peripheral.handle peripheral.link is_open_too (sym pair_ends.one_link.opened ∙ there)) opened)

  pub sound_here : IsSoundPlace (facts_in central.link) (facts_in peripheral.link)
  sound_here =
      let one = stands_in_run given before rest central.station distinct in_it at in
      let other = stands_in_run given before rest peripheral.station distinct in_too at in
      place_sound one.at.stage other.at.stage one.at.begun other.at.begun (stands central.station one) (stands peripheral.station other)
      (at_standing c_here p_here peripheral.handle one.at other.at _ _ _ central.link peripheral.link one.is other.is kept_here)

  pub goes_on_here : GoOnUnlessLate (record { central = Some (facts_in central.link); peripheral = Some (facts_in peripheral.link) })
  goes_on_here = record { central = sound_here.goes_on; peripheral = sound_here.unless_late }

  pub terminated_here : AreTerminated (record { central = Some (facts_in central.link); peripheral = Some (facts_in peripheral.link) })
  terminated_here = are_terminated (Some (facts_in central.link)) (Some (facts_in peripheral.link)) goes_on_here

  pub delivered_here : IsDelivered (facts_in central.link) (facts_in peripheral.link) × IsDelivered (facts_in peripheral.link) (facts_in central.link)
  delivered_here = (
    past_delivered c_here central.link.past (facts_in peripheral.link) sound_here.agreement,
    past_delivered p_here peripheral.link.past (facts_in central.link)
        (turned (facts_in central.link).acknowledgement (facts_in peripheral.link).acknowledgement sound_here.agreement),
  )

  -- ---- a packet of the far end

  module _ (octets : List ℕ) (later : List Event) where
    -- the peripheral hears the central
    module _ (heard_at : history_of (run_of given) ≡ before ++ Called peripheral.station (PacketHeard octets) ∷ later)
        (listens : link_listened (facts_at given peripheral.station before).turn.doing ≡ Some peripheral.handle)
        (sent : HasSentNow given before peripheral central (facts_in peripheral.link).event.channel octets) where
      pub peripheral_understands : IsJudged p_here (facts_in peripheral.link) octets
      peripheral_understands =
          let packet = packet_now given before rest peripheral central (facts_in peripheral.link) octets central.link distinct in_it at is_open refl sent in
          peripheral_judges whole opens_there c_here p_here pair_ends (facts_at given peripheral.station before).turn.slot (facts_in central.link)
          (facts_in peripheral.link) packet.channel octets true packet.packet packet.same
          (begun_now taken given distinct before later octets central peripheral pair_ends in_it in_too central.link peripheral.link is_open refl is_open_too refl
          kept_here heard_at listens packet)

    -- the central hears the peripheral
    module _ (heard_at : history_of (run_of given) ≡ before ++ Called central.station (PacketHeard octets) ∷ later)
        (listens : link_listened (facts_at given central.station before).turn.doing ≡ Some central.handle)
        (sent : HasSentNow given before central peripheral (facts_in central.link).event.channel octets) where
      pub central_understands : IsJudged c_here (facts_in central.link) octets
      central_understands =
          let packet = packet_now given before rest central peripheral (facts_in central.link) octets peripheral.link distinct in_too at is_open_too refl sent in
          central_judges whole opens_there c_here p_here pair_ends (facts_at given central.station before).turn.slot (facts_in central.link)
          (facts_in peripheral.link) packet.channel octets true packet.packet packet.same
          (answered_now taken given distinct before later octets central peripheral pair_ends in_it in_too central.link peripheral.link is_open refl is_open_too refl
          kept_here heard_at listens packet)
