-- Both ends of a link at a place of a run at which one of them is called with a packet that the other sent in that turn.
use Rattle.std.proofs.Common.{◌≡◌, inl, inr, ℕ, zero, suc, ◌+◌, ◌<◌, Bool, true, false, Some, List, ◌∷◌, ◌++◌, refl, sym, ap, subst, ◌∙◌, arith}
use Rattle.std.specs.Prelude.{if◌then◌else◌}
use Rattle.std.proofs.lemmas.Bool.{eq-eqb}
use Rattle.link_calls.specs.link_model.Setup.{Setup as EndSetup}
use Rattle.link_calls.specs.open_links.OpenLinks.{OpenLink, facts_in, link_at}
use Rattle.link_calls.specs.controller_model.declared.doing.Doing.{Doing}
use Rattle.link_calls.specs.controller_model.declared.doing.Doing.TheVariants.{Advertises, CentralListens, PeripheralListens}
use Rattle.link_calls.specs.controller_model.Facts.{Facts}
use Rattle.link_calls.specs.controller_model.Step.{Step, PacketHeard}
use Rattle.link_calls.specs.run_model.Feeding.{AreDistinct}
use Rattle.link_calls.specs.run_model.History.{Event, Called, past_of}
use Rattle.link_calls.specs.run_model.Run.{Given, facts_at, history_of, run_of, setup_at}
use Rattle.link_calls.proofs.run_model.LinkEnds.{AreTaken}
use Rattle.link_calls.proofs.run_model.Stations.{is_in}
use Rattle.link_calls.specs.run_laws.Ends.{OpenEnd, link_listened}
use Rattle.link_calls.proofs.run_laws.InAgreement.{OpenedBefore}
use Rattle.link_calls.proofs.run_laws.LinkPhases.{in_phase}
use Rattle.link_calls.proofs.run_laws.OpenSteps.{open_has}
use Rattle.link_calls.proofs.run_laws.TurnPlaces.{Standing, Within, at_stage, standing, turned}
use Rattle.link_calls.specs.Uses.{is_on_link, listens_under}
use Rattle.link_runs.specs.link_pairs.Ends.{AreEnds}
use Rattle.run_pairs.specs.Stages.{AreAnsweredEnds, AreBegunEnds}
use Rattle.run_pairs.proofs.BothEnds.{ByStanding, at_standing}
use Rattle.run_pairs.proofs.CallPlaces.{StandsInPhase, stands_called}
use Rattle.run_pairs.proofs.EndCalls.{central_takes_in, peripheral_takes_in}
use Rattle.run_pairs.proofs.OneSide.{StationAt, station_first, station_kept}
use Rattle.run_pairs.proofs.PairSteps.{AreBothBegun, InTurn, IsPacketNow, IsPeripheralDone, NewOr}

-- ---- where a call stands, and the link on which it listens

pub listens_by : (handle : ℕ) (doing : Doing) → link_listened doing ≡ Some handle → listens_under handle doing ≡ true
listens_by handle (CentralListens other) is = let same : other ≡ handle = cc in eq-eqb other handle same
listens_by handle (PeripheralListens other) is = let same : other ≡ handle = cc in eq-eqb other handle same
listens_by handle (Advertises channel) is = absurd cc
listens_by handle other is = absurd cc

pub on_link : (handle : ℕ) (doing : Doing) → link_listened doing ≡ Some handle → is_on_link doing ≡ true
on_link handle (CentralListens other) is = refl
on_link handle (PeripheralListens other) is = refl
on_link handle (Advertises channel) is = absurd cc
on_link handle other is = absurd cc

pub phase_of : (b : Bool) (phases turns : ℕ) (past : List Step) → standing past ≡ Some (if b then at_stage (Within (suc phases)) turns else at_stage (Within phases) turns)
    → standing past ≡ Some (at_stage (Within (if b then suc phases else phases)) turns)
phase_of true phases turns past is = is
phase_of false phases turns past is = is

pub not_new : (X : Type 0) (opened slot turns : ℕ) → opened < slot → slot + 1 ≡ turns → opened + 1 ≡ turns → X
not_new X opened slot turns before is new = absurd (omega (arith, before, is, new))

-- what is known of a station
pub side_at : AreTaken → (given : Given) (before : List Event) (station : ℕ) (at : Standing) → standing (past_of station before) ≡ Some at
    → StationAt (setup_at given station) at.stage at.begun (facts_at given station before)
side_at taken given before station at is =
    let setup = setup_at given station in turned setup (StationAt setup) (station_kept taken setup) (past_of station before) at (station_first setup) is

-- ---- both ends, as one hears

module _ (taken : AreTaken) (given : Given) (distinct : AreDistinct given.stations) (before later : List Event) (octets : List ℕ) (central peripheral : OpenEnd)
    (ends : AreEnds central.link.setup peripheral.link.setup) (in_it : is_in central.station given.stations ≡ true)
    (in_too : is_in peripheral.station given.stations ≡ true) (c p : OpenLink)
    (is_open : link_at central.handle (facts_at given central.station before).links ≡ Some c) (setup : c.setup ≡ central.link.setup)
    (is_open_too : link_at peripheral.handle (facts_at given peripheral.station before).links ≡ Some p) (setup_too : p.setup ≡ peripheral.link.setup)
    (kept : ByStanding central.link.setup peripheral.link.setup peripheral.handle (standing (past_of central.station before))
    (standing (past_of peripheral.station before)) (facts_at given peripheral.station before).turn.doing c p) where
  abbrev c_end : EndSetup
  c_end = central.link.setup

  abbrev p_end : EndSetup
  p_end = peripheral.link.setup

  abbrev facts_c : Facts
  facts_c = facts_at given central.station before

  abbrev facts_p : Facts
  facts_p = facts_at given peripheral.station before

  -- the peripheral hears the central
  module _ (at : history_of (run_of given) ≡ before ++ Called peripheral.station (PacketHeard octets) ∷ later)
      (listens : link_listened facts_p.turn.doing ≡ Some peripheral.handle) where
    p_stands : StandsInPhase given before peripheral.station
    p_stands = stands_called given before later peripheral.station (PacketHeard octets) distinct at

    p_side : StationAt (setup_at given peripheral.station) (Within p_stands.phases) p_stands.turns facts_p
    p_side = side_at taken given before peripheral.station (at_stage (Within p_stands.phases) p_stands.turns) p_stands.stand.own

    -- it is the first phase of the turn
    p_first : p_stands.phases ≡ 0
    p_first =
        peripheral_takes_in facts_p.links peripheral.handle p is_open_too p_stands.phases facts_p.turn.doing
        (in_phase (setup_at given peripheral.station) (past_of peripheral.station before) p_stands.phases p_stands.turns p_stands.stand.own)
        (listens_by peripheral.handle facts_p.turn.doing listens) (ap (λ (s : EndSetup). s.link.role) setup_too ∙ ends.is_peripheral)

    p_begun : (n i : ℕ) → n ≡ 0 → NewOr c_end p_end peripheral.handle p_stands.turns (λ slot. InTurn c_end p_end peripheral.handle n i slot facts_p.turn.doing c p)
        → AreBothBegun c_end p_end peripheral.handle facts_p.turn.slot facts_p.turn.doing c p
    p_begun zero i is (inr stands) = stands facts_p.turn.slot (sym p_side.holds.phased.uses.in_turn.slot_is)
    p_begun zero i is (inl new) =
        let old =
        open_has (OpenedBefore facts_p.turn.slot) 0 peripheral.handle facts_p.links p
        (p_side.station.old (on_link peripheral.handle facts_p.turn.doing listens)) is_open_too in
        not_new _ p.setup.opened facts_p.turn.slot p_stands.turns old p_side.holds.phased.uses.in_turn.slot_is
        (ap (λ (s : EndSetup). s.opened + 1) setup_too ∙ ap (λ n. n + 1) (sym ends.one_link.opened) ∙ new)
    p_begun (suc n) i is stands = absurd (omega (arith, is))

    both_begun : AreBothBegun c_end p_end peripheral.handle facts_p.turn.slot facts_p.turn.doing c p
    both_begun =
        let b = p_stands.stand.was_called central.station in
        let i = if b then suc p_stands.phases else p_stands.phases in
        let place =
        at_standing c_end p_end peripheral.handle (at_stage (Within i) p_stands.turns) (at_stage (Within p_stands.phases) p_stands.turns) _ _ _ c p
        (phase_of b p_stands.phases p_stands.turns (past_of central.station before) (p_stands.stand.others central.station in_it)) p_stands.stand.own kept in
        p_begun p_stands.phases i p_first place.1

    -- both have begun the turn, and exchange packets in it
    pub begun_now : IsPacketNow c_end facts_p.turn.slot (facts_in p) c octets → AreBegunEnds c_end p_end facts_p.turn.slot true true (facts_in c) (facts_in p)
    begun_now packet =
        subst (λ b. AreBegunEnds c_end p_end facts_p.turn.slot b true (facts_in c) (facts_in p)) (both_begun.sends packet.front packet.last)
        (subst (λ b. AreBegunEnds c_end p_end facts_p.turn.slot both_begun.transmits b (facts_in c) (facts_in p))
        (both_begun.hears (listens_by peripheral.handle facts_p.turn.doing listens)) both_begun.begun)

  -- the central hears the peripheral
  module _ (at : history_of (run_of given) ≡ before ++ Called central.station (PacketHeard octets) ∷ later)
      (listens : link_listened facts_c.turn.doing ≡ Some central.handle) where
    c_stands : StandsInPhase given before central.station
    c_stands = stands_called given before later central.station (PacketHeard octets) distinct at

    c_side : StationAt (setup_at given central.station) (Within c_stands.phases) c_stands.turns facts_c
    c_side = side_at taken given before central.station (at_stage (Within c_stands.phases) c_stands.turns) c_stands.stand.own

    -- it is the second phase
    c_second : c_stands.phases ≡ 1
    c_second =
        central_takes_in facts_c.links central.handle c is_open c_stands.phases facts_c.turn.doing
        (in_phase (setup_at given central.station) (past_of central.station before) c_stands.phases c_stands.turns c_stands.stand.own)
        (listens_by central.handle facts_c.turn.doing listens) (ap (λ (s : EndSetup). s.link.role) setup ∙ ends.is_central)

    c_done : (n : ℕ) (b : Bool) (doing : Doing) → n ≡ 1
        → NewOr c_end p_end peripheral.handle c_stands.turns (λ slot. InTurn c_end p_end peripheral.handle (if b then suc n else n) n slot doing c p)
        → IsPeripheralDone c_end p_end peripheral.handle facts_c.turn.slot c p
    c_done zero b doing is stands = absurd (omega (arith, is))
    c_done (suc zero) true doing is (inr stands) = stands facts_c.turn.slot (sym c_side.holds.phased.uses.in_turn.slot_is)
    c_done (suc zero) false doing is (inr stands) = stands facts_c.turn.slot (sym c_side.holds.phased.uses.in_turn.slot_is)
    c_done (suc zero) b doing is (inl new) =
        let old =
        open_has (OpenedBefore facts_c.turn.slot) 0 central.handle facts_c.links c
        (c_side.station.old (on_link central.handle facts_c.turn.doing listens)) is_open in
        not_new _ c.setup.opened facts_c.turn.slot c_stands.turns old c_side.holds.phased.uses.in_turn.slot_is
        (ap (λ (s : EndSetup). s.opened + 1) setup ∙ new)
    c_done (suc (suc n)) b doing is stands = absurd (omega (arith, is))

    pub peripheral_done : IsPeripheralDone c_end p_end peripheral.handle facts_c.turn.slot c p
    peripheral_done =
        let b = c_stands.stand.was_called peripheral.station in
        let j = if b then suc c_stands.phases else c_stands.phases in
        let place =
        at_standing c_end p_end peripheral.handle (at_stage (Within c_stands.phases) c_stands.turns) (at_stage (Within j) c_stands.turns) _ _ _ c p
        c_stands.stand.own (phase_of b c_stands.phases c_stands.turns (past_of peripheral.station before) (c_stands.stand.others peripheral.station in_too)) kept in
        c_done c_stands.phases b _ c_second place.1

    -- the peripheral has answered in the turn
    pub answered_now : IsPacketNow p_end facts_c.turn.slot (facts_in c) p octets → AreAnsweredEnds c_end p_end facts_c.turn.slot true (facts_in c) (facts_in p)
    answered_now packet =
        subst (λ b. AreAnsweredEnds c_end p_end facts_c.turn.slot b (facts_in c) (facts_in p)) (peripheral_done.sends packet.front packet.last)
        peripheral_done.answered_so
