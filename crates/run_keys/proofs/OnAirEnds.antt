-- A packet that is on the air in a run, and both ends of its link as the other end hears it.
use Rattle.std.proofs.Common.{◌≡◌, inl, inr, ℕ, zero, suc, ◌+◌, true, Some, List, [], ◌∷◌, ◌++◌, append-nil, refl, sym, ap, subst, ◌∙◌, arith}
use Rattle.controller_model.specs.declared.doing.Doing.{Doing}
use Rattle.controller_model.specs.Facts.{Facts}
use Rattle.link_runs.specs.link_pairs.Ends.{AreEnds}
use Rattle.link_runs.proofs.link_pairs.Understanding.{IsOpenedThere}
use Rattle.run_pairs.specs.link_calls.link_model.Facts.{Facts as EndFacts}
use Rattle.run_pairs.specs.link_calls.link_model.Setup.{Setup as EndSetup}
use Rattle.run_pairs.proofs.link_calls.link_model.Hearing.{IsHeardWhole}
use Rattle.run_pairs.specs.link_calls.open_links.OpenLinks.{OpenLink, facts_in}
use Rattle.run_pairs.specs.link_calls.run_laws.Ends.{AreEnds as AreEndsIn, IsOpen, OpenEnd, link_listened}
use Rattle.run_pairs.specs.link_calls.run_model.Feeding.{AreDistinct}
use Rattle.run_pairs.specs.link_calls.run_model.History.{Event, Hearing, Transmitted, past_of}
use Rattle.run_pairs.specs.link_calls.run_model.LinkEnds.{HaveAddresses}
use Rattle.run_pairs.specs.link_calls.run_model.Run.{Given, facts_at, history_of, run_of, setup_at}
use Rattle.run_pairs.proofs.link_calls.run_model.LinkEnds.{AreTaken, IsUnderstood}
use Rattle.run_pairs.proofs.link_calls.run_model.Stations.{is_in}
use Rattle.run_pairs.proofs.link_calls.run_laws.InAgreement.{OpenedBefore}
use Rattle.run_pairs.proofs.link_calls.run_laws.LinkPhases.{in_phase}
use Rattle.run_pairs.proofs.link_calls.run_laws.OpenSteps.{open_has}
use Rattle.run_pairs.proofs.link_calls.run_laws.SameEvent.{apart_ends}
use Rattle.run_pairs.proofs.link_calls.run_laws.TurnPlaces.{Within, at_stage}
use Rattle.run_pairs.specs.InTurns.{HasSentNow, HearEachInTurn, HearNoMixed}
use Rattle.run_pairs.specs.Stages.{AreAnsweredEnds, AreBegunEnds}
use Rattle.run_pairs.proofs.BothEnds.{at_standing, kept_to}
use Rattle.run_pairs.proofs.Conclusions.{pair_ends}
use Rattle.run_pairs.proofs.EndCalls.{central_takes_in, peripheral_takes_in}
use Rattle.run_pairs.proofs.FarPackets.{packet_now}
use Rattle.run_pairs.proofs.HeardNow.{listens_by, not_new, on_link, side_at}
use Rattle.run_pairs.proofs.LinkSteps.{AsksMayCome}
use Rattle.run_pairs.proofs.OneSide.{StationAt}
use Rattle.run_pairs.proofs.PairSteps.{AreBothBegun, InTurn, IsPacketNow, IsPeripheralDone, NewOr}
use Rattle.run_keys.proofs.OnAirPlaces.{StandInPhase, stand_on_air}

-- the peripheral hears what the central has sent in this turn
pub record IsHeardDown (c_end p_end : EndSetup) (slot : ℕ) (sender : OpenLink) (c p : EndFacts) (octets : List ℕ) : Type 0 where
  pub ends : AreEnds c_end p_end
  pub packet : IsPacketNow c_end slot p sender octets
  pub begun : AreBegunEnds c_end p_end slot true true c p

-- the central hears what the peripheral has sent in this turn
pub record IsHeardUp (c_end p_end : EndSetup) (slot : ℕ) (sender : OpenLink) (c p : EndFacts) (octets : List ℕ) : Type 0 where
  pub ends : AreEnds c_end p_end
  pub packet : IsPacketNow p_end slot c sender octets
  pub answered : AreAnsweredEnds c_end p_end slot true c p

module _ (whole : IsHeardWhole) (opens_there : IsOpenedThere) (understood : IsUnderstood) (taken : AreTaken) (given : Given) (six : HaveAddresses given)
    (distinct : AreDistinct given.stations) (asks : AsksMayCome given) (before rest : List Event) (sender channel : ℕ) (octets : List ℕ) (hearings : List Hearing)
    (central peripheral : OpenEnd) (at : history_of (run_of given) ≡ before ++ Transmitted sender channel octets hearings ∷ rest)
    (in_it : is_in central.station given.stations ≡ true) (in_too : is_in peripheral.station given.stations ≡ true)
    (of_one : AreEndsIn before central peripheral) (is_open : IsOpen given before central) (is_open_too : IsOpen given before peripheral)
    (hear : HearEachInTurn given before central peripheral) (none_mixed : HearNoMixed given before central peripheral) where
  abbrev c_end : EndSetup
  c_end = central.link.setup

  abbrev p_end : EndSetup
  p_end = peripheral.link.setup

  abbrev c : EndFacts
  c = facts_in central.link

  abbrev p : EndFacts
  p = facts_in peripheral.link

  abbrev on_air : List Event
  on_air = Transmitted sender channel octets hearings ∷ rest

  abbrev facts_c : Facts
  facts_c = facts_at given central.station before

  abbrev facts_p : Facts
  facts_p = facts_at given peripheral.station before

  ends : AreEnds c_end p_end
  ends =
      pair_ends whole opens_there understood taken given six distinct asks before on_air at central peripheral in_it in_too of_one is_open is_open_too hear none_mixed

  stand : StandInPhase given before
  stand = stand_on_air given before rest sender channel octets hearings distinct at

  -- both are in one phase of a turn
  both_in : NewOr c_end p_end peripheral.handle stand.turns
      (λ slot. InTurn c_end p_end peripheral.handle stand.phases stand.phases slot facts_p.turn.doing central.link peripheral.link)
  both_in =
      (at_standing c_end p_end peripheral.handle (at_stage (Within stand.phases) stand.turns) (at_stage (Within stand.phases) stand.turns) _ _ _ central.link
      peripheral.link (stand.all central.station in_it) (stand.all peripheral.station in_too)
      (kept_to whole opens_there taken given distinct central peripheral ends in_it in_too asks (apart_ends before central peripheral of_one) before on_air at hear
      none_mixed before [] (sym (append-nil before)) central.link peripheral.link is_open refl is_open_too refl)).1

  -- the peripheral hears the central
  module _ (listens : link_listened facts_p.turn.doing ≡ Some peripheral.handle)
      (sent : HasSentNow given before peripheral central p.event.channel octets) where
    p_side : StationAt (setup_at given peripheral.station) (Within stand.phases) stand.turns facts_p
    p_side = side_at taken given before peripheral.station (at_stage (Within stand.phases) stand.turns) (stand.all peripheral.station in_too)

    is_first : stand.phases ≡ 0
    is_first =
        peripheral_takes_in facts_p.links peripheral.handle peripheral.link is_open_too stand.phases facts_p.turn.doing
        (in_phase (setup_at given peripheral.station) (past_of peripheral.station before) stand.phases stand.turns (stand.all peripheral.station in_too))
        (listens_by peripheral.handle facts_p.turn.doing listens) ends.is_peripheral

    begun_by : (n i : ℕ) → n ≡ 0
        → NewOr c_end p_end peripheral.handle stand.turns (λ slot. InTurn c_end p_end peripheral.handle n i slot facts_p.turn.doing central.link peripheral.link)
        → AreBothBegun c_end p_end peripheral.handle facts_p.turn.slot facts_p.turn.doing central.link peripheral.link
    begun_by zero i is (inr stands) = stands facts_p.turn.slot (sym p_side.holds.phased.uses.in_turn.slot_is)
    begun_by zero i is (inl new) =
        let old =
        open_has (OpenedBefore facts_p.turn.slot) 0 peripheral.handle facts_p.links peripheral.link
        (p_side.station.old (on_link peripheral.handle facts_p.turn.doing listens)) is_open_too in
        not_new _ p_end.opened facts_p.turn.slot stand.turns old p_side.holds.phased.uses.in_turn.slot_is (ap (λ n. n + 1) (sym ends.one_link.opened) ∙ new)
    begun_by (suc n) i is stands = absurd (omega (arith, is))

    -- what it hears, and both ends, so
    pub heard_down : IsHeardDown c_end p_end facts_p.turn.slot central.link c p octets
    heard_down = by (packet_now given before on_air peripheral central p octets central.link distinct in_it at is_open refl sent)
      where
        by : IsPacketNow c_end facts_p.turn.slot p central.link octets → IsHeardDown c_end p_end facts_p.turn.slot central.link c p octets
        by packet =
            let both = begun_by stand.phases stand.phases is_first both_in in
            record {
              ends = ends;
              packet = packet;
              begun = subst (λ b. AreBegunEnds c_end p_end facts_p.turn.slot b true c p) (both.sends packet.front packet.last)
                  (subst (λ b. AreBegunEnds c_end p_end facts_p.turn.slot both.transmits b c p) (both.hears (listens_by peripheral.handle facts_p.turn.doing listens))
                  both.begun);
            }

  -- the central hears the peripheral
  module _ (listens : link_listened facts_c.turn.doing ≡ Some central.handle)
      (sent : HasSentNow given before central peripheral c.event.channel octets) where
    c_side : StationAt (setup_at given central.station) (Within stand.phases) stand.turns facts_c
    c_side = side_at taken given before central.station (at_stage (Within stand.phases) stand.turns) (stand.all central.station in_it)

    is_second : stand.phases ≡ 1
    is_second =
        central_takes_in facts_c.links central.handle central.link is_open stand.phases facts_c.turn.doing
        (in_phase (setup_at given central.station) (past_of central.station before) stand.phases stand.turns (stand.all central.station in_it))
        (listens_by central.handle facts_c.turn.doing listens) ends.is_central

    done_by : (n : ℕ) (doing : Doing) → n ≡ 1
        → NewOr c_end p_end peripheral.handle stand.turns (λ slot. InTurn c_end p_end peripheral.handle n n slot doing central.link peripheral.link)
        → IsPeripheralDone c_end p_end peripheral.handle facts_c.turn.slot central.link peripheral.link
    done_by zero doing is stands = absurd (omega (arith, is))
    done_by (suc zero) doing is (inr stands) = stands facts_c.turn.slot (sym c_side.holds.phased.uses.in_turn.slot_is)
    done_by (suc zero) doing is (inl new) =
        let old =
        open_has (OpenedBefore facts_c.turn.slot) 0 central.handle facts_c.links central.link
        (c_side.station.old (on_link central.handle facts_c.turn.doing listens)) is_open in
        not_new _ c_end.opened facts_c.turn.slot stand.turns old c_side.holds.phased.uses.in_turn.slot_is new
    done_by (suc (suc n)) doing is stands = absurd (omega (arith, is))

    pub heard_up : IsHeardUp c_end p_end facts_c.turn.slot peripheral.link c p octets
    heard_up = by (packet_now given before on_air central peripheral c octets peripheral.link distinct in_too at is_open_too refl sent)
      where
        by : IsPacketNow p_end facts_c.turn.slot c peripheral.link octets → IsHeardUp c_end p_end facts_c.turn.slot peripheral.link c p octets
        by packet =
            let done = done_by stand.phases facts_p.turn.doing is_second both_in in
            record {
              ends = ends;
              packet = packet;
              answered = subst (λ b. AreAnsweredEnds c_end p_end facts_c.turn.slot b c p) (done.sends packet.front packet.last) done.answered_so;
            }
