-- In every run, each call keeps the relation of the two ends of one link.
use Rattle.std.proofs.Common.{◌≡◌, ◌⊎◌, inl, inr, ℕ, zero, suc, ◌+◌, ◌==◌, Bool, true, false, Option, Some, None, List, [], ◌∷◌, ◌++◌, append-nil, append_assoc, is_none, refl, sym, ap, subst, ◌∙◌, arith}
use Rattle.std.specs.Prelude.{⊤, nat_lt, if◌then◌else◌}
use Rattle.std.specs.Option.{option_map}
use Rattle.std.proofs.lemmas.Bool.{eqb-true}
use Rattle.ble_base.specs.declared.error_codes.ErrCode.{ErrCode}
use Rattle.ble_base.specs.declared.roles.Role.TheVariants.{Central, Peripheral}
use Rattle.ble_base.specs.declared.verdicts.Verdict.TheVariants.{Good}
use Rattle.link_calls.specs.link_model.End.{facts_after as end_after, facts_of as end_facts}
use Rattle.link_calls.specs.link_model.Facts.{Facts as EndFacts, first_facts as first_end}
use Rattle.link_calls.specs.link_model.Packets.{verdict_of}
use Rattle.link_calls.specs.link_model.Receiving.{replies_of}
use Rattle.link_calls.specs.link_model.Setup.{Setup as EndSetup}
use Rattle.link_calls.specs.link_model.Step.{DataReported}
use Rattle.link_calls.specs.link_model.Times.{due_of, ending_of}
use Rattle.link_calls.proofs.link_model.Hearing.{IsHeardWhole}
use Rattle.link_calls.specs.open_links.Data.{complete_in}
use Rattle.link_calls.specs.open_links.OpenLinks.{OpenLink, facts_in, link_after, link_at}
use Rattle.link_calls.specs.controller_model.declared.doing.Doing.{Doing}
use Rattle.link_calls.specs.controller_model.Facts.{Setup, Facts, first_facts}
use Rattle.link_calls.specs.controller_model.Heard.{has_room}
use Rattle.link_calls.specs.controller_model.Side.{facts_after, facts_of}
use Rattle.link_calls.specs.controller_model.Step.{Step, HostOctet, TurnBegins, PacketHeard, NothingHeard, TurnEnds}
use Rattle.link_calls.proofs.controller_model.Pasts.{facts_more}
use Rattle.link_calls.specs.Phases.{HasPassed, IsNew, Stays, Takes, link_receiving, link_worded, refusal_at}
use Rattle.link_calls.specs.run_model.Feeding.{AreDistinct}
use Rattle.link_calls.specs.run_model.History.{Event, Called, TurnBegan, HostFed, Noted, Transmitted, past_of, steps_in}
use Rattle.link_calls.specs.run_model.Run.{Given, facts_at, history_of, run_of, setup_at, step_of}
use Rattle.link_calls.proofs.run_model.Calls.{past_other, past_own, same_station}
use Rattle.link_calls.proofs.run_model.LinkEnds.{AreTaken}
use Rattle.link_calls.proofs.run_model.Stations.{is_in}
use Rattle.link_runs.specs.link_pairs.Ends.{AreEnds}
use Rattle.link_runs.specs.link_pairs.Hearing.{is_mixed_packet, received as received_facts}
use Rattle.link_runs.specs.link_pairs.Turns.{sent_if as sends_if}
use Rattle.link_runs.proofs.link_pairs.Understanding.{IsOpenedThere}
use Rattle.link_runs.specs.Open.{AreOpenEnds}
use Rattle.link_runs.specs.Runs.{MayHostAll}
use Rattle.link_runs.proofs.GoingOn.{lasting_goes}
use Rattle.link_runs.specs.Turn.{facts_hosted}
use Rattle.link_calls.specs.run_laws.Ends.{HaveOneConnectInd, OpenEnd, ReceivesGood, link_listened}
use Rattle.link_calls.proofs.run_laws.Agreed.{step_facts}
use Rattle.link_calls.proofs.run_laws.LinkPhases.{IsInPhase, in_phase}
use Rattle.link_calls.proofs.run_laws.OpenSteps.{none_open, open_has}
use Rattle.link_calls.proofs.run_laws.TurnPlaces.{Between, Standing, Within, at_stage, event_past, standing, turned}
use Rattle.link_calls.proofs.run_laws.TwoStations.{differs_back}
use Rattle.run_pairs.specs.InTurns.{HearEachInTurn, HearNoMixed, HearsInTurn, HearsNoMixed}
use Rattle.run_pairs.specs.Stages.{AreHeardEnds}
use Rattle.run_pairs.proofs.CallPlaces.{more_of, StandsAt, StandsInPhase, stands_called}
use Rattle.run_pairs.proofs.EndCalls.{IsEndBegun, central_sends, central_silent, central_takes_in, central_unworded, end_begun, peripheral_listens, peripheral_takes_in, peripheral_unsent, refused_facts, taking_facts}
use Rattle.link_calls.proofs.AtOnce.{refusal_is}
use Rattle.link_calls.proofs.Worded.{worded_setup}
use Rattle.run_pairs.proofs.Worded.{worded_mixed, worded_verdict}
use Rattle.link_calls.proofs.LinkCalls.{begins_under, passes_under}
use Rattle.run_pairs.proofs.OneSide.{LastBefore, StationAt, begun_setup, received_last, station_first, station_kept, taken_setup}
use Rattle.run_pairs.proofs.FarPackets.{HearsAll, listens_is, packet_now}
use Rattle.run_pairs.proofs.PairSteps.{AreBothBegun, AtPlace, InTurn, IsPacketNow, IsPeripheralDone, NewOr, both_worded, central_begins, central_begins_too, central_deaf, central_hosted_all, central_reports, central_takes, packet_worded, peripheral_begins, peripheral_begins_too, peripheral_deaf, peripheral_hosted_all, peripheral_reports, peripheral_takes}
use Rattle.run_pairs.proofs.Stages.{new_ends}
use Rattle.link_calls.proofs.UnderHandles.{ended_under}
use Rattle.link_calls.proofs.open_links.Steps.{reported_setup}
use Rattle.link_calls.specs.Turns.{sent_if}
use Rattle.link_calls.specs.Uses.{fixes_under, listens_under, sends_under}
use Rattle.run_pairs.proofs.LinkSteps.{AsksMayCome, MayAskAt, octet_under, replies_under}

-- ---- the place of a controller after one more call

fed_next : (past : List Step) (octet turns : ℕ) → standing past ≡ Some (at_stage Between turns) → standing (past ++ HostOctet octet ∷ []) ≡ Some (at_stage Between turns)
fed_next past octet turns is = more_of _ _ past (HostOctet octet) _ is

begun_next : (past : List Step) (slot : ℕ) (on : Bool) → standing past ≡ Some (at_stage Between slot)
    → standing (past ++ TurnBegins slot on ∷ []) ≡ Some (at_stage (Within 0) (slot + 1))
begun_next past slot on is =
    more_of _ _ past (TurnBegins slot on) _ is ∙ ap (λ b. if b then Some (at_stage (Within 0) (slot + 1)) else None) (same_station slot)

passed_next : (past : List Step) (received : Option (List ℕ)) (phases turns : ℕ) → standing past ≡ Some (at_stage (Within phases) turns)
    → standing (past ++ step_of received ∷ []) ≡ Some (at_stage (Within (suc phases)) turns)
passed_next past None phases turns is = more_of _ _ past NothingHeard _ is
passed_next past (Some octets) phases turns is = more_of _ _ past (PacketHeard octets) _ is

ended_next : (past : List Step) (turns : ℕ) → standing past ≡ Some (at_stage (Within 3) turns) → standing (past ++ TurnEnds ∷ []) ≡ Some (at_stage Between turns)
ended_next past turns is = more_of _ _ past TurnEnds _ is

first_is : (setup : Setup) → facts_of setup [] ≡ first_facts setup
unfolding facts_of
first_is setup = refl

-- ---- what is kept of both ends

abbrev pub ByStanding : EndSetup → EndSetup → ℕ → Option Standing → Option Standing → Doing → OpenLink → OpenLink → Type 0
ByStanding c_end p_end p_handle None other doing c p = ⊤
ByStanding c_end p_end p_handle (Some one) None doing c p = ⊤
ByStanding c_end p_end p_handle (Some one) (Some other) doing c p = AtPlace c_end p_end p_handle one.stage other.stage one.begun other.begun doing c p

by_standing : (c_end p_end : EndSetup) (p_handle : ℕ) (one other : Standing) (may may_too : Option Standing) (doing : Doing) (c p : OpenLink) → may ≡ Some one → may_too ≡ Some other
    → AtPlace c_end p_end p_handle one.stage other.stage one.begun other.begun doing c p → ByStanding c_end p_end p_handle may may_too doing c p
by_standing c_end p_end p_handle one other may may_too doing c p is is_too at =
    subst (λ o. ByStanding c_end p_end p_handle o may_too doing c p) (sym is) (subst (λ o. ByStanding c_end p_end p_handle (Some one) o doing c p) (sym is_too) at)

pub at_standing : (c_end p_end : EndSetup) (p_handle : ℕ) (one other : Standing) (may may_too : Option Standing) (doing : Doing) (c p : OpenLink) → may ≡ Some one → may_too ≡ Some other
    → ByStanding c_end p_end p_handle may may_too doing c p → AtPlace c_end p_end p_handle one.stage other.stage one.begun other.begun doing c p
at_standing c_end p_end p_handle one other may may_too doing c p is is_too by =
    subst (λ o. ByStanding c_end p_end p_handle (Some one) o doing c p) is_too (subst (λ o. ByStanding c_end p_end p_handle o may_too doing c p) is by)

-- ---- in the middle of a turn

module _ (c_end p_end : EndSetup) (p_handle : ℕ) where
  new_or : (turns : ℕ) (R Q : ℕ → Type 0) → ((slot : ℕ) → turns ≡ slot + 1 → R slot → Q slot) → NewOr c_end p_end p_handle turns R → NewOr c_end p_end p_handle turns Q
  new_or turns R Q more (inl new) = inl new
  new_or turns R Q more (inr is) = inr (λ slot now. more slot now (is slot now))

pub in_slot : (one other turns : ℕ) → one + 1 ≡ turns → turns ≡ other + 1 → one ≡ other
in_slot one other turns is is_too = omega (arith, is, is_too)

none_code : (o : Option ErrCode) → option_map (λ (code : ErrCode). code.0) o ≡ None → is_none o ≡ true
none_code None is = refl
none_code (Some code) is = absurd cc

new_facts : (link : OpenLink) → link.past ≡ [] → facts_in link ≡ first_end link.setup
unfolding end_facts
new_facts link none = ap (end_facts link.setup) none

reported_facts : (reports : Bool) (setup : EndSetup) (link : OpenLink) → facts_in (if reports then link_after DataReported link else link)
    ≡ (if reports then end_after setup (facts_in link) DataReported else facts_in link)
reported_facts true setup link = step_facts link DataReported
reported_facts false setup link = refl

abbrev room_of : Setup → Facts → Bool
room_of setup facts = has_room setup facts

-- as it hears
abbrev base_of : Setup → Facts → OpenLink → OpenLink
base_of setup facts link = link_worded setup facts facts.turn.doing link

-- after a phase it sends on the link under this handle
abbrev sends_next : Setup → Facts → ℕ → Option (List ℕ) → Bool
sends_next setup facts handle received = sends_under handle (facts_after setup facts (step_of received)).turn.doing

-- ---- a call on the central, and one on the peripheral

module _ (whole : IsHeardWhole) (opens_there : IsOpenedThere) (taken : AreTaken) (given : Given) (distinct : AreDistinct given.stations) (central peripheral : OpenEnd)
    (ends : AreEnds central.link.setup peripheral.link.setup) (in_it : is_in central.station given.stations ≡ true)
    (in_too : is_in peripheral.station given.stations ≡ true) (asks : AsksMayCome given) where
  abbrev c_end : EndSetup
  c_end = central.link.setup

  abbrev p_end : EndSetup
  p_end = peripheral.link.setup

  abbrev p_handle : ℕ
  p_handle = peripheral.handle

  abbrev setup_c : Setup
  setup_c = setup_at given central.station

  abbrev setup_p : Setup
  setup_p = setup_at given peripheral.station

  abbrev Keeps : List Step → List Step → Type 0
  Keeps pc pp =
      (c p : OpenLink) → link_at central.handle (facts_of setup_c pc).links ≡ Some c → c.setup ≡ c_end → link_at p_handle (facts_of setup_p pp).links ≡ Some p → p.setup ≡ p_end
      → ByStanding c_end p_end p_handle (standing pc) (standing pp) (facts_of setup_p pp).turn.doing c p

  station_at : (setup : Setup) (past : List Step) (at : Standing) → standing past ≡ Some at → StationAt setup at.stage at.begun (facts_of setup past)
  station_at setup past at is = turned setup (StationAt setup) (station_kept taken setup) past at (station_first setup) is

  -- no procedure ended the link, between two turns
  central_goes : (turns : ℕ) (c p : EndFacts) → AreOpenEnds c_end p_end turns c p → c.control.ends ≡ None
  central_goes turns c p (inl link) = lasting_goes c link.central_lasts
  central_goes turns c p (inr parting) = parting.took.goes_on

  peripheral_goes : (turns : ℕ) (c p : EndFacts) → AreOpenEnds c_end p_end turns c p → p.control.ends ≡ None
  peripheral_goes turns c p (inl link) = lasting_goes p link.peripheral_lasts
  peripheral_goes turns c p (inr parting) = parting.sent.goes_on

  -- what is open after a call
  after_call_at : (setup : Setup) (past : List Step) (step : Step) (handle : ℕ) (link : OpenLink) → link_at handle (facts_of setup (past ++ step ∷ [])).links ≡ Some link
      → link_at handle (facts_after setup (facts_of setup past) step).links ≡ Some link
  after_call_at setup past step handle link at = ap (λ (f : Facts). link_at handle f.links) (sym (facts_more setup past step)) ∙ at

  begins_in_phase : (setup : Setup) (past : List Step) (slot : ℕ) (on : Bool) → standing past ≡ Some (at_stage Between slot)
      → let after = facts_after setup (facts_of setup past) (TurnBegins slot on) in IsInPhase 0 after.links after.turn.doing
  begins_in_phase setup past slot on own =
      subst (λ (f : Facts). IsInPhase 0 f.links f.turn.doing) (facts_more setup past (TurnBegins slot on))
      (in_phase setup (past ++ TurnBegins slot on ∷ []) 0 (slot + 1) (begun_next past slot on own))

  one_connect : (link end : EndSetup) → link ≡ end → HaveOneConnectInd link end
  one_connect link end same = record { fields = ap (λ (s : EndSetup). s.link.fields) same; opened = ap (λ (s : EndSetup). s.opened) same }

  -- both ends were opened in the turn
  pub both_new : (slot : ℕ) (c p : OpenLink) → c.setup ≡ c_end → p.setup ≡ p_end → c.past ≡ [] → p.past ≡ [] → c_end.opened ≡ slot → AreHeardEnds c_end p_end slot (facts_in c) (facts_in p)
  both_new slot c p setup setup_too none none_too now =
      subst (λ (f : EndFacts). AreHeardEnds c_end p_end slot f (facts_in p)) (sym (new_facts c none ∙ ap first_end setup))
      (subst (λ (f : EndFacts). AreHeardEnds c_end p_end slot (first_end c_end) f) (sym (new_facts p none_too ∙ ap first_end setup_too)) (new_ends whole opens_there c_end p_end ends slot now))

  module _ (pc pp : List Step) (keeps : Keeps pc pp) where
    abbrev facts_c : Facts
    facts_c = facts_of setup_c pc

    abbrev facts_p : Facts
    facts_p = facts_of setup_p pp

    -- ---- at the central

    central_fed : (octet turns : ℕ) → standing pc ≡ Some (at_stage Between turns) → standing pp ≡ Some (at_stage Between turns)
        → MayAskAt setup_c facts_c octet central.handle → Keeps (pc ++ HostOctet octet ∷ []) pp
    central_fed octet turns own other may_ask = λ c p at_c setup at_p setup_too.
        let before : (link : OpenLink) → link_at central.handle facts_c.links ≡ Some link → link.setup ≡ c_end
        → AreOpenEnds c_end p_end turns (facts_in link) (facts_in p) =
        (λ link at same. at_standing c_end p_end p_handle (at_stage Between turns) (at_stage Between turns) (standing pc) (standing pp) facts_p.turn.doing link p own other
        (keeps link p at same at_p setup_too)) in
        let was = octet_under setup_c facts_c octet central.handle c may_ask
        (λ link at same. central_goes turns (facts_in link) (facts_in p) (before link at (same ∙ setup)))
        (after_call_at setup_c pc (HostOctet octet) central.handle c at_c) in
        let setups : was.link.setup ≡ c_end = sym was.setup ∙ setup in
        let prior = before was.link was.was setups in
        let may = subst (λ (s : EndSetup). MayHostAll s was.steps (facts_in was.link)) setups was.may in
        let facts_are = was.facts ∙ ap (λ (s : EndSetup). facts_hosted s was.steps (facts_in was.link)) setups in
        by_standing c_end p_end p_handle (at_stage Between turns) (at_stage Between turns) _ _ facts_p.turn.doing c p (fed_next pc octet turns own) other
        (subst (λ (f : EndFacts). AreOpenEnds c_end p_end turns f (facts_in p)) (sym facts_are)
        (central_hosted_all whole opens_there c_end p_end ends p_handle turns was.steps (facts_in was.link) (facts_in p) may prior))

    central_begun : (slot : ℕ) (on : Bool) → standing pc ≡ Some (at_stage Between slot) → (called : Bool)
        → standing pp ≡ Some (if called then at_stage (Within 0) (slot + 1) else at_stage Between slot) → Keeps (pc ++ TurnBegins slot on ∷ []) pp
    central_begun slot on own called other = λ c p at_c setup at_p setup_too.
        let after = facts_after setup_c facts_c (TurnBegins slot on) in
        let at = after_call_at setup_c pc (TurnBegins slot on) central.handle c at_c in
        let station = station_at setup_c pc (at_stage Between slot) own in
        let has = begins_under setup_c facts_c slot on central.handle c at in
        let setups : has.link.setup ≡ c_end = sym (begun_setup slot facts_c on central.handle after.turn.doing c has) ∙ setup in
        let begun = subst (λ (s : EndSetup). IsEndBegun s slot (fixes_under central.handle after.turn.doing) (sends_under central.handle after.turn.doing) has.link c) setups
        (end_begun setup_c slot facts_c on central.handle c station.holds at (station.last central.handle has.link has.was)) in
        let same = central_sends after.links central.handle c at after.turn.doing (begins_in_phase setup_c pc slot on own) (ap (λ (s : EndSetup). s.link.role) setup ∙ ends.is_central) in
        by called other c p (keeps has.link p has.was setups at_p setup_too) same begun
      where
        by : {exchanges sends : Bool} {before : OpenLink} → (b : Bool) → standing pp ≡ Some (if b then at_stage (Within 0) (slot + 1) else at_stage Between slot) → (c p : OpenLink)
            → ByStanding c_end p_end p_handle (standing pc) (standing pp) facts_p.turn.doing before p → exchanges ≡ sends → IsEndBegun c_end slot exchanges sends before c
            → ByStanding c_end p_end p_handle (standing (pc ++ TurnBegins slot on ∷ [])) (standing pp) facts_p.turn.doing c p
        by {exchanges} {sends} {before} false is c p prior same begun =
            by_standing c_end p_end p_handle (at_stage (Within 0) (slot + 1)) (at_stage Between slot) _ _ facts_p.turn.doing c p (begun_next pc slot on own) is
            (central_begins whole opens_there c_end p_end ends p_handle slot exchanges sends before c p same begun
            (at_standing c_end p_end p_handle (at_stage Between slot) (at_stage Between slot) _ _ facts_p.turn.doing before p own is prior))
        by {exchanges} {sends} {before} true is c p prior same begun =
            let both = central_begins_too whole opens_there c_end p_end ends p_handle slot exchanges sends facts_p.turn.doing before c p same begun
            (at_standing c_end p_end p_handle (at_stage Between slot) (at_stage (Within 0) (slot + 1)) _ _ facts_p.turn.doing before p own is prior) in
            by_standing c_end p_end p_handle (at_stage (Within 0) (slot + 1)) (at_stage (Within 0) (slot + 1)) _ _ facts_p.turn.doing c p (begun_next pc slot on own) is
            (refl, inr (λ now same_slot. subst (λ n. AreBothBegun c_end p_end p_handle n facts_p.turn.doing c p) (in_slot slot now (slot + 1) refl same_slot) both))

    -- it takes nothing in a phase
    central_stays : (j phases slot : ℕ) (c p : OpenLink) → InTurn c_end p_end p_handle j phases slot facts_p.turn.doing c p → InTurn c_end p_end p_handle j (suc phases) slot facts_p.turn.doing c p
    central_stays zero phases slot c p is = is
    central_stays (suc j) zero slot c p is = is
    central_stays (suc j) (suc zero) slot c p is = central_deaf whole opens_there c_end p_end ends p_handle slot c p is
    central_stays (suc j) (suc (suc phases)) slot c p is = is

    central_passed : (before rest : List Event) (received : Option (List ℕ)) (j phases turns : ℕ) → history_of (run_of given) ≡ before ++ rest
        → pc ≡ past_of central.station before → pp ≡ past_of peripheral.station before → HearsAll given before central peripheral (step_of received)
        → standing pc ≡ Some (at_stage (Within phases) turns) → (j ≡ phases) ⊎ (j ≡ suc phases) → standing pp ≡ Some (at_stage (Within j) turns) → Keeps (pc ++ step_of received ∷ []) pp
    central_passed before rest received j phases turns at_run pc_is pp_is hears own where_it other = λ c p at_c setup at_p setup_too.
        let at = after_call_at setup_c pc (step_of received) central.handle c at_c in
        let station = station_at setup_c pc (at_stage (Within phases) turns) own in
        by_standing c_end p_end p_handle (at_stage (Within (suc phases)) turns) (at_stage (Within j) turns) _ _ facts_p.turn.doing c p (passed_next pc received phases turns own) other
        (refl, by c p setup at_p setup_too (passes_under setup_c facts_c received central.handle c station.holds.phased.uses.in_turn.listens at))
      where
        slot_is : facts_c.turn.slot + 1 ≡ turns
        slot_is = (station_at setup_c pc (at_stage (Within phases) turns) own).holds.phased.uses.in_turn.slot_is

        phase_is : IsInPhase phases facts_c.links facts_c.turn.doing
        phase_is = in_phase setup_c pc phases turns own

        prior : (c p : OpenLink) → link_at central.handle facts_c.links ≡ Some c → c.setup ≡ c_end → link_at p_handle facts_p.links ≡ Some p → p.setup ≡ p_end
            → NewOr c_end p_end p_handle turns (λ slot. InTurn c_end p_end p_handle j phases slot facts_p.turn.doing c p)
        prior c p at_c setup at_p setup_too =
            (at_standing c_end p_end p_handle (at_stage (Within phases) turns) (at_stage (Within j) turns) _ _ facts_p.turn.doing c p own other (keeps c p at_c setup at_p setup_too)).1

        -- it takes a packet, in the second phase
        in_second : (n m slot : ℕ) (c p : OpenLink) → n ≡ 1 → (m ≡ n) ⊎ (m ≡ suc n) → InTurn c_end p_end p_handle m n slot facts_p.turn.doing c p → IsPeripheralDone c_end p_end p_handle slot c p
        in_second zero m slot c p is place stand = absurd (cc)
        in_second (suc zero) zero slot c p is (inl same) stand = absurd (cc)
        in_second (suc zero) zero slot c p is (inr same) stand = absurd (cc)
        in_second (suc zero) (suc m) slot c p is place stand = stand
        in_second (suc (suc n)) m slot c p is place stand = absurd (omega (arith, is))

        heard_in : (n m slot : ℕ) (c p : OpenLink) → n ≡ 1 → (m ≡ n) ⊎ (m ≡ suc n) → AreHeardEnds c_end p_end slot (facts_in c) (facts_in p)
            → InTurn c_end p_end p_handle m (suc n) slot facts_p.turn.doing c p
        heard_in zero m slot c p is place heard = absurd (cc)
        heard_in (suc zero) zero slot c p is (inl same) heard = absurd (cc)
        heard_in (suc zero) zero slot c p is (inr same) heard = absurd (cc)
        heard_in (suc zero) (suc m) slot c p is place heard = heard
        heard_in (suc (suc n)) m slot c p is place heard = absurd (omega (arith, is))

        by : (c p : OpenLink) → c.setup ≡ c_end → link_at p_handle facts_p.links ≡ Some p → p.setup ≡ p_end
            → HasPassed setup_c facts_c (has_room setup_c facts_c) received central.handle (facts_after setup_c facts_c (step_of received)).turn.doing c
            → NewOr c_end p_end p_handle turns (λ slot. InTurn c_end p_end p_handle j (suc phases) slot facts_p.turn.doing c p)
        by c p setup at_p setup_too (IsNew end made opened off) =
            inl (ap (λ n. n + 1) (sym (ap (λ (s : EndSetup). s.opened) setup) ∙ ap (λ (l : OpenLink). l.setup.opened) made ∙ opened) ∙ slot_is)
        by c p setup at_p setup_too (Stays was none nothing listened) =
            new_or c_end p_end p_handle turns _ _ (λ slot now is. central_stays j phases slot c p is) (prior c p was setup at_p setup_too)
        by c p setup at_p setup_too (Takes one octets was got on same) =
            new_or c_end p_end p_handle turns _ _ (λ slot now is. heard_in phases j slot c p second where_it
            (subst (λ n. AreHeardEnds c_end p_end n (facts_in c) (facts_in p)) (in_slot facts_c.turn.slot slot turns slot_is now)
            (central_takes whole opens_there c_end p_end ends p_handle facts_c.turn.slot octets (has_room setup_c facts_c) (refusal_at central.handle (room_of setup_c facts_c) octets facts_c (base_of setup_c facts_c one)) one c p
            (refusal_is central.handle (room_of setup_c facts_c) octets facts_c (base_of setup_c facts_c one))
            (subst (λ n. IsPeripheralDone c_end p_end p_handle n one p) (sym (in_slot facts_c.turn.slot slot turns slot_is now)) (in_second phases j slot one p second where_it is))
            facts_are (λ good. packet good) (λ good. unmixed good))))
            (prior one p was setups at_p setup_too)
          where
            setups : one.setup ≡ c_end
            setups =
                sym (ap (λ (l : OpenLink). l.setup) same
                ∙ taken_setup (sends_next setup_c facts_c central.handle received) setup_c central.handle (room_of setup_c facts_c) octets facts_c one) ∙ setup

            role : one.setup.link.role ≡ Central
            role = ap (λ (s : EndSetup). s.link.role) setups ∙ ends.is_central

            same_base : base_of setup_c facts_c one ≡ one
            same_base = central_unworded facts_c.links central.handle one was setup_c facts_c phases facts_c.turn.doing phase_is on role

            setups_base : (base_of setup_c facts_c one).setup ≡ c_end
            setups_base = ap (λ (l : OpenLink). l.setup) same_base ∙ setups

            second : phases ≡ 1
            second = central_takes_in facts_c.links central.handle one was phases facts_c.turn.doing phase_is on role

            silent : (sends_next setup_c facts_c central.handle received) ≡ false
            silent =
                replies_under setup_c facts_c received octets central.handle one got on was
                ∙ central_silent (base_of setup_c facts_c one).setup facts_c.turn.slot octets (room_of setup_c facts_c) (facts_in (base_of setup_c facts_c one))
                (ap (λ (s : EndSetup). s.link.role) setups_base ∙ ends.is_central)

            facts_are : facts_in c ≡ refused_facts (refusal_at central.handle (room_of setup_c facts_c) octets facts_c (base_of setup_c facts_c one)) c_end
                (received_facts c_end facts_c.turn.slot octets (room_of setup_c facts_c) (facts_in one))
            facts_are =
                ap facts_in same
                ∙ taking_facts (sends_next setup_c facts_c central.handle received) central.handle (room_of setup_c facts_c) octets facts_c (base_of setup_c facts_c one)
                ∙ ap (λ b. sends_if b (base_of setup_c facts_c one).setup facts_c.turn.slot
                (refused_facts (refusal_at central.handle (room_of setup_c facts_c) octets facts_c (base_of setup_c facts_c one)) (base_of setup_c facts_c one).setup
                (received_facts (base_of setup_c facts_c one).setup facts_c.turn.slot octets (room_of setup_c facts_c) (facts_in (base_of setup_c facts_c one))))) silent
                ∙ ap (λ (s : EndSetup). refused_facts (refusal_at central.handle (room_of setup_c facts_c) octets facts_c (base_of setup_c facts_c one)) s
                (received_facts s facts_c.turn.slot octets (room_of setup_c facts_c) (facts_in (base_of setup_c facts_c one)))) setups_base
                ∙ ap (λ (l : OpenLink). refused_facts (refusal_at central.handle (room_of setup_c facts_c) octets facts_c (base_of setup_c facts_c one)) c_end
                (received_facts c_end facts_c.turn.slot octets (room_of setup_c facts_c) (facts_in l))) same_base

            facts_same : facts_at given central.station before ≡ facts_c
            facts_same = ap (facts_of setup_c) (sym pc_is)

            receives : verdict_of c_end (facts_in one) octets ≡ Good → ReceivesGood (facts_at given central.station before) octets one
            receives good = record {
              handle = central.handle;
              listens = ap (λ (f : Facts). link_listened f.turn.doing) facts_same ∙ listens_is central.handle facts_c.turn.doing on;
              is_open = ap (λ (f : Facts). link_at central.handle f.links) facts_same ∙ was;
              is_good = ap (λ (s : EndSetup). verdict_of s (facts_in one) octets) setups ∙ good;
            }

            unmixed : verdict_of c_end (facts_in one) octets ≡ Good → is_mixed_packet c_end (facts_in one) (facts_in p) octets ≡ false
            unmixed good =
                ap (λ (s : EndSetup). is_mixed_packet s (facts_in one) (facts_in p) octets) (sym setups)
                ∙ hears.pure octets one p (ap step_of got) (receives good) setups
                (ap (λ (past : List Step). link_at p_handle (facts_of setup_p past).links) (sym pp_is) ∙ at_p) setup_too

            packet : verdict_of c_end (facts_in one) octets ≡ Good → IsPacketNow p_end facts_c.turn.slot (facts_in one) p octets
            packet good =
                let heard = hears.now octets one (ap step_of got) (receives good) (one_connect one.setup c_end setups) in
                subst (λ (f : Facts). IsPacketNow p_end f.turn.slot (facts_in one) p octets) facts_same
                (packet_now given before rest central peripheral (facts_in one) octets p distinct in_too at_run
                (ap (λ (past : List Step). link_at p_handle (facts_of setup_p past).links) (sym pp_is) ∙ at_p) setup_too heard)

    central_ended : (turns : ℕ) → standing pc ≡ Some (at_stage (Within 3) turns) → (called : Bool)
        → standing pp ≡ Some (if called then at_stage Between turns else at_stage (Within 3) turns) → Keeps (pc ++ TurnEnds ∷ []) pp
    central_ended turns own called other = λ c p at_c setup at_p setup_too.
        let has = ended_under setup_c facts_c central.handle c (after_call_at setup_c pc TurnEnds central.handle c at_c) in
        let setups : has.link.setup ≡ c_end = sym (ap (λ (l : OpenLink). l.setup) has.is ∙ reported_setup (nat_lt 0 (complete_in has.link)) has.link) ∙ setup in
        let facts_are = ap facts_in has.is ∙ reported_facts (nat_lt 0 (complete_in has.link)) c_end has.link in
        by called other c p has.link (nat_lt 0 (complete_in has.link)) has.was setups at_p setup_too facts_are (none_code (ending_of (facts_in c)) has.stays) (keeps has.link p has.was setups at_p setup_too)
      where
        slot_is : facts_c.turn.slot + 1 ≡ turns
        slot_is = (station_at setup_c pc (at_stage (Within 3) turns) own).holds.phased.uses.in_turn.slot_is

        by : (b : Bool) → standing pp ≡ Some (if b then at_stage Between turns else at_stage (Within 3) turns) → (c p before : OpenLink) (reports : Bool)
            → link_at central.handle facts_c.links ≡ Some before → before.setup ≡ c_end → link_at p_handle facts_p.links ≡ Some p → p.setup ≡ p_end
            → facts_in c ≡ (if reports then end_after c_end (facts_in before) DataReported else facts_in before) → is_none (ending_of (facts_in c)) ≡ true
            → ByStanding c_end p_end p_handle (standing pc) (standing pp) facts_p.turn.doing before p
            → ByStanding c_end p_end p_handle (standing (pc ++ TurnEnds ∷ [])) (standing pp) facts_p.turn.doing c p
        by false is c p before reports was setups at_p setup_too facts_are stays kept =
            let prior = at_standing c_end p_end p_handle (at_stage (Within 3) turns) (at_stage (Within 3) turns) _ _ facts_p.turn.doing before p own is kept in
            by_standing c_end p_end p_handle (at_stage Between turns) (at_stage (Within 3) turns) _ _ facts_p.turn.doing c p (ended_next pc turns own) is (record {
              heard = λ slot now. subst (λ (f : EndFacts). AreHeardEnds c_end p_end slot f (facts_in p)) (sym facts_are)
                  (central_reports whole opens_there c_end p_end ends p_handle slot reports (facts_in before) (facts_in p) (heard_by prior.1 slot now));
              stays = stays;
            })
          where
            heard_by : NewOr c_end p_end p_handle turns (λ slot. AreHeardEnds c_end p_end slot (facts_in before) (facts_in p)) → (slot : ℕ) → turns ≡ slot + 1
                → AreHeardEnds c_end p_end slot (facts_in before) (facts_in p)
            heard_by (inr stand) slot now = stand slot now
            heard_by (inl new) slot now =
                let here = in_slot facts_c.turn.slot slot turns slot_is now in
                let opened : c_end.opened ≡ slot = in_slot c_end.opened slot turns new now in
                let station = station_at setup_c pc (at_stage (Within 3) turns) own in
                let far = station_at setup_p pp (at_stage (Within 3) turns) is in
                let there = in_slot facts_p.turn.slot slot turns far.holds.phased.uses.in_turn.slot_is now in
                both_new slot before p setups setup_too
                (station.new central.handle before was (ap (λ (s : EndSetup). s.opened) setups ∙ opened ∙ sym here))
                (far.new p_handle p at_p (ap (λ (s : EndSetup). s.opened) setup_too ∙ sym ends.one_link.opened ∙ opened ∙ sym there)) opened
        by true is c p before reports was setups at_p setup_too facts_are stays kept =
            let prior = at_standing c_end p_end p_handle (at_stage (Within 3) turns) (at_stage Between turns) _ _ facts_p.turn.doing before p own is kept in
            let heard = subst (λ (f : EndFacts). AreHeardEnds c_end p_end facts_c.turn.slot f (facts_in p)) (sym facts_are)
            (central_reports whole opens_there c_end p_end ends p_handle facts_c.turn.slot reports (facts_in before) (facts_in p) (prior.heard facts_c.turn.slot (sym slot_is))) in
            by_standing c_end p_end p_handle (at_stage Between turns) (at_stage Between turns) _ _ facts_p.turn.doing c p (ended_next pc turns own) is
            (subst (λ n. AreOpenEnds c_end p_end n (facts_in c) (facts_in p)) slot_is (heard.opens stays prior.stays))

    -- ---- at the peripheral

    peripheral_fed : (octet turns : ℕ) → standing pc ≡ Some (at_stage Between turns) → standing pp ≡ Some (at_stage Between turns)
        → MayAskAt setup_p facts_p octet p_handle → Keeps pc (pp ++ HostOctet octet ∷ [])
    peripheral_fed octet turns other own may_ask = λ c p at_c setup at_p setup_too.
        let before : (link : OpenLink) → link_at p_handle facts_p.links ≡ Some link → link.setup ≡ p_end
        → AreOpenEnds c_end p_end turns (facts_in c) (facts_in link) =
        (λ link at same. at_standing c_end p_end p_handle (at_stage Between turns) (at_stage Between turns) (standing pc) (standing pp) facts_p.turn.doing c link other own
        (keeps c link at_c setup at same)) in
        let was = octet_under setup_p facts_p octet p_handle p may_ask
        (λ link at same. peripheral_goes turns (facts_in c) (facts_in link) (before link at (same ∙ setup_too)))
        (after_call_at setup_p pp (HostOctet octet) p_handle p at_p) in
        let setups : was.link.setup ≡ p_end = sym was.setup ∙ setup_too in
        let prior = before was.link was.was setups in
        let may = subst (λ (s : EndSetup). MayHostAll s was.steps (facts_in was.link)) setups was.may in
        let facts_are = was.facts ∙ ap (λ (s : EndSetup). facts_hosted s was.steps (facts_in was.link)) setups in
        by_standing c_end p_end p_handle (at_stage Between turns) (at_stage Between turns) _ _ _ c p other (fed_next pp octet turns own)
        (subst (λ (f : EndFacts). AreOpenEnds c_end p_end turns (facts_in c) f) (sym facts_are)
        (peripheral_hosted_all whole opens_there c_end p_end ends p_handle turns was.steps (facts_in c) (facts_in was.link) may prior))

    -- what the peripheral does after a call
    doing_next : (step : Step) → (facts_after setup_p facts_p step).turn.doing ≡ (facts_of setup_p (pp ++ step ∷ [])).turn.doing
    doing_next step = ap (λ (f : Facts). f.turn.doing) (sym (facts_more setup_p pp step))

    peripheral_begun : (slot : ℕ) (on : Bool) → standing pp ≡ Some (at_stage Between slot) → (called : Bool)
        → standing pc ≡ Some (if called then at_stage (Within 0) (slot + 1) else at_stage Between slot) → Keeps pc (pp ++ TurnBegins slot on ∷ [])
    peripheral_begun slot on own called other = λ c p at_c setup at_p setup_too.
        let after = facts_after setup_p facts_p (TurnBegins slot on) in
        let at = after_call_at setup_p pp (TurnBegins slot on) p_handle p at_p in
        let station = station_at setup_p pp (at_stage Between slot) own in
        let has = begins_under setup_p facts_p slot on p_handle p at in
        let setups : has.link.setup ≡ p_end = sym (begun_setup slot facts_p on p_handle after.turn.doing p has) ∙ setup_too in
        let begun = subst (λ (s : EndSetup). IsEndBegun s slot (fixes_under p_handle after.turn.doing) (sends_under p_handle after.turn.doing) has.link p) setups
        (end_begun setup_p slot facts_p on p_handle p station.holds at (station.last p_handle has.link has.was)) in
        let due : due_of p_end (facts_in has.link) slot ≡ None = ap (λ (s : EndSetup). due_of s (facts_in has.link) slot) (sym setups) ∙ has.not_due in
        let role = ap (λ (s : EndSetup). s.link.role) setup_too ∙ ends.is_peripheral in
        let phase = begins_in_phase setup_p pp slot on own in
        let none = peripheral_unsent after.links p_handle p at after.turn.doing phase role in
        let same = peripheral_listens after.links p_handle p at after.turn.doing phase role in
        subst (λ (d : Doing). ByStanding c_end p_end p_handle (standing pc) (standing (pp ++ TurnBegins slot on ∷ [])) d c p) (doing_next (TurnBegins slot on))
        (by after.turn.doing called other c p (keeps c has.link at_c setup has.was setups) none same begun due)
      where
        by : {exchanges sends : Bool} {before : OpenLink} (doing : Doing) (b : Bool) → standing pc ≡ Some (if b then at_stage (Within 0) (slot + 1) else at_stage Between slot)
            → (c p : OpenLink) → ByStanding c_end p_end p_handle (standing pc) (standing pp) facts_p.turn.doing c before → sends ≡ false → listens_under p_handle doing ≡ exchanges
            → IsEndBegun p_end slot exchanges sends before p → due_of p_end (facts_in before) slot ≡ None
            → ByStanding c_end p_end p_handle (standing pc) (standing (pp ++ TurnBegins slot on ∷ [])) doing c p
        by {exchanges} {sends} {before} doing false is c p prior none same begun due =
            by_standing c_end p_end p_handle (at_stage Between slot) (at_stage (Within 0) (slot + 1)) _ _ doing c p is (begun_next pp slot on own)
            (peripheral_begins whole opens_there c_end p_end ends p_handle slot exchanges sends doing before c p none same begun due
            (at_standing c_end p_end p_handle (at_stage Between slot) (at_stage Between slot) _ _ facts_p.turn.doing c before is own prior))
        by {exchanges} {sends} {before} doing true is c p prior none same begun due =
            let both = peripheral_begins_too whole opens_there c_end p_end ends p_handle slot exchanges sends doing before c p none same begun due
            (at_standing c_end p_end p_handle (at_stage (Within 0) (slot + 1)) (at_stage Between slot) _ _ facts_p.turn.doing c before is own prior) in
            by_standing c_end p_end p_handle (at_stage (Within 0) (slot + 1)) (at_stage (Within 0) (slot + 1)) _ _ doing c p is (begun_next pp slot on own)
            (refl, inr (λ now same_slot. subst (λ n. AreBothBegun c_end p_end p_handle n doing c p) (in_slot slot now (slot + 1) refl same_slot) both))

    -- the peripheral has heard nothing in the first phase, or nothing happens in a later one
    peripheral_stays : (i phases slot : ℕ) (doing : Doing) (c p : OpenLink) → (i ≡ phases) ⊎ (i ≡ suc phases) → InTurn c_end p_end p_handle phases i slot facts_p.turn.doing c p
        → InTurn c_end p_end p_handle (suc phases) i slot doing c p
    peripheral_stays zero zero slot doing c p place is = peripheral_deaf whole opens_there c_end p_end ends p_handle slot facts_p.turn.doing c p is
    peripheral_stays (suc zero) zero slot doing c p place is = peripheral_deaf whole opens_there c_end p_end ends p_handle slot facts_p.turn.doing c p is
    peripheral_stays (suc (suc i)) zero slot doing c p (inl same) is = absurd (omega (arith, same))
    peripheral_stays (suc (suc i)) zero slot doing c p (inr same) is = absurd (omega (arith, same))
    peripheral_stays i (suc phases) slot doing c p place is = is

    -- it takes a packet, in the first phase
    in_first : (n i slot : ℕ) (c p : OpenLink) → n ≡ 0 → InTurn c_end p_end p_handle n i slot facts_p.turn.doing c p → AreBothBegun c_end p_end p_handle slot facts_p.turn.doing c p
    in_first zero i slot c p is stand = stand
    in_first (suc n) i slot c p is stand = absurd (omega (arith, is))

    done_in : (n i slot : ℕ) (doing : Doing) (c p : OpenLink) → n ≡ 0 → (i ≡ n) ⊎ (i ≡ suc n) → IsPeripheralDone c_end p_end p_handle slot c p → InTurn c_end p_end p_handle (suc n) i slot doing c p
    done_in zero zero slot doing c p is place done = done
    done_in zero (suc zero) slot doing c p is place done = done
    done_in zero (suc (suc i)) slot doing c p is (inl same) done = absurd (omega (arith, same))
    done_in zero (suc (suc i)) slot doing c p is (inr same) done = absurd (omega (arith, same))
    done_in (suc n) i slot doing c p is place done = absurd (omega (arith, is))

    peripheral_passed : (before rest : List Event) (received : Option (List ℕ)) (i phases turns : ℕ) → history_of (run_of given) ≡ before ++ rest
        → pc ≡ past_of central.station before → pp ≡ past_of peripheral.station before → HearsAll given before peripheral central (step_of received)
        → standing pp ≡ Some (at_stage (Within phases) turns) → (i ≡ phases) ⊎ (i ≡ suc phases) → standing pc ≡ Some (at_stage (Within i) turns) → Keeps pc (pp ++ step_of received ∷ [])
    peripheral_passed before rest received i phases turns at_run pc_is pp_is hears own where_it other = λ c p at_c setup at_p setup_too.
        let at = after_call_at setup_p pp (step_of received) p_handle p at_p in
        let station = station_at setup_p pp (at_stage (Within phases) turns) own in
        let doing = (facts_of setup_p (pp ++ step_of received ∷ [])).turn.doing in
        by_standing c_end p_end p_handle (at_stage (Within i) turns) (at_stage (Within (suc phases)) turns) _ _ doing c p other (passed_next pp received phases turns own)
        (refl, by doing c p setup at_c setup_too (passes_under setup_p facts_p received p_handle p station.holds.phased.uses.in_turn.listens at))
      where
        slot_is : facts_p.turn.slot + 1 ≡ turns
        slot_is = (station_at setup_p pp (at_stage (Within phases) turns) own).holds.phased.uses.in_turn.slot_is

        phase_is : IsInPhase phases facts_p.links facts_p.turn.doing
        phase_is = in_phase setup_p pp phases turns own

        prior : (c p : OpenLink) → link_at central.handle facts_c.links ≡ Some c → c.setup ≡ c_end → link_at p_handle facts_p.links ≡ Some p → p.setup ≡ p_end
            → NewOr c_end p_end p_handle turns (λ slot. InTurn c_end p_end p_handle phases i slot facts_p.turn.doing c p)
        prior c p at_c setup at_p setup_too =
            (at_standing c_end p_end p_handle (at_stage (Within i) turns) (at_stage (Within phases) turns) _ _ facts_p.turn.doing c p other own (keeps c p at_c setup at_p setup_too)).1

        by : (doing : Doing) (c p : OpenLink) → c.setup ≡ c_end → link_at central.handle facts_c.links ≡ Some c → p.setup ≡ p_end
            → HasPassed setup_p facts_p (has_room setup_p facts_p) received p_handle (facts_after setup_p facts_p (step_of received)).turn.doing p
            → NewOr c_end p_end p_handle turns (λ slot. InTurn c_end p_end p_handle (suc phases) i slot doing c p)
        by doing c p setup at_c setup_too (IsNew end made opened off) =
            inl (ap (λ n. n + 1) (ends.one_link.opened ∙ sym (ap (λ (s : EndSetup). s.opened) setup_too) ∙ ap (λ (l : OpenLink). l.setup.opened) made ∙ opened) ∙ slot_is)
        by doing c p setup at_c setup_too (Stays was none nothing listened) =
            new_or c_end p_end p_handle turns _ _ (λ slot now is. peripheral_stays i phases slot doing c p where_it is) (prior c p at_c setup was setup_too)
        by doing c p setup at_c setup_too (Takes one octets was got on same) =
            new_or c_end p_end p_handle turns _ _ (λ slot now is. done_in phases i slot doing c p first where_it
            (subst (λ n. IsPeripheralDone c_end p_end p_handle n c p) (in_slot facts_p.turn.slot slot turns slot_is now)
            (peripheral_takes whole opens_there c_end p_end ends p_handle facts_p.turn.slot octets (room_of setup_p facts_p) (refusal_at p_handle (room_of setup_p facts_p) octets facts_p
            (base_of setup_p facts_p one)) (sends_next setup_p facts_p p_handle received) facts_p.turn.doing c (base_of setup_p facts_p one) p
            (refusal_is p_handle (room_of setup_p facts_p) octets facts_p (base_of setup_p facts_p one)) setups_base
            (both_worded whole opens_there c_end p_end ends p_handle setup_p facts_p facts_p.turn.doing facts_p.turn.slot facts_p.turn.doing c one setups
            (subst (λ n. AreBothBegun c_end p_end p_handle n facts_p.turn.doing c one) (sym (in_slot facts_p.turn.slot slot turns slot_is now)) (in_first phases i slot c one first is)))
            on replies_are facts_are unsent (λ good. packet good) (λ good. unmixed good))))
            (prior c one at_c setup was setups)
          where
            setups : one.setup ≡ p_end
            setups =
                sym (ap (λ (l : OpenLink). l.setup) same
                ∙ taken_setup (sends_next setup_p facts_p p_handle received) setup_p p_handle (room_of setup_p facts_p) octets facts_p one) ∙ setup_too

            setups_base : (base_of setup_p facts_p one).setup ≡ p_end
            setups_base = worded_setup setup_p facts_p facts_p.turn.doing one ∙ setups

            role : one.setup.link.role ≡ Peripheral
            role = ap (λ (s : EndSetup). s.link.role) setups ∙ ends.is_peripheral

            first : phases ≡ 0
            first = peripheral_takes_in facts_p.links p_handle one was phases facts_p.turn.doing phase_is on role

            replies_are : sends_next setup_p facts_p p_handle received
                ≡ replies_of p_end (facts_in (base_of setup_p facts_p one)) facts_p.turn.slot octets (room_of setup_p facts_p)
            replies_are =
                replies_under setup_p facts_p received octets p_handle one got on was
                ∙ ap (λ (s : EndSetup). replies_of s (facts_in (base_of setup_p facts_p one)) facts_p.turn.slot octets (room_of setup_p facts_p)) setups_base

            facts_are : facts_in p ≡ sends_if (sends_next setup_p facts_p p_handle received) p_end facts_p.turn.slot
                (refused_facts (refusal_at p_handle (room_of setup_p facts_p) octets facts_p (base_of setup_p facts_p one)) p_end
                (received_facts p_end facts_p.turn.slot octets (room_of setup_p facts_p) (facts_in (base_of setup_p facts_p one))))
            facts_are =
                ap facts_in same
                ∙ taking_facts (sends_next setup_p facts_p p_handle received) p_handle (room_of setup_p facts_p) octets facts_p (base_of setup_p facts_p one)
                ∙ ap (λ (s : EndSetup). sends_if (sends_next setup_p facts_p p_handle received) s facts_p.turn.slot
                (refused_facts (refusal_at p_handle (room_of setup_p facts_p) octets facts_p (base_of setup_p facts_p one)) s
                (received_facts s facts_p.turn.slot octets (room_of setup_p facts_p) (facts_in (base_of setup_p facts_p one))))) setups_base

            unsent : sends_next setup_p facts_p p_handle received ≡ false → LastBefore facts_p.turn.slot p.past
            unsent none =
                subst (λ (l : OpenLink). LastBefore facts_p.turn.slot l.past)
                (sym (same ∙ ap (λ b. sent_if b facts_p.turn.slot (link_receiving setup_p p_handle (room_of setup_p facts_p) octets facts_p one)) none))
                (received_last p_handle (room_of setup_p facts_p) octets facts_p (base_of setup_p facts_p one) facts_p.turn.slot)

            facts_same : facts_at given peripheral.station before ≡ facts_p
            facts_same = ap (facts_of setup_p) (sym pp_is)

            receives : verdict_of p_end (facts_in (base_of setup_p facts_p one)) octets ≡ Good → ReceivesGood (facts_at given peripheral.station before) octets one
            receives good = record {
              handle = p_handle;
              listens = ap (λ (f : Facts). link_listened f.turn.doing) facts_same ∙ listens_is p_handle facts_p.turn.doing on;
              is_open = ap (λ (f : Facts). link_at p_handle f.links) facts_same ∙ was;
              is_good = ap (λ (s : EndSetup). verdict_of s (facts_in one) octets) setups ∙ sym (worded_verdict p_end setup_p facts_p facts_p.turn.doing one octets) ∙ good;
            }

            unmixed : verdict_of p_end (facts_in (base_of setup_p facts_p one)) octets ≡ Good
                → is_mixed_packet p_end (facts_in (base_of setup_p facts_p one)) (facts_in c) octets ≡ false
            unmixed good =
                worded_mixed p_end setup_p facts_p facts_p.turn.doing one (facts_in c) octets
                ∙ ap (λ (s : EndSetup). is_mixed_packet s (facts_in one) (facts_in c) octets) (sym setups)
                ∙ hears.pure octets one c (ap step_of got) (receives good) setups
                (ap (λ (past : List Step). link_at central.handle (facts_of setup_c past).links) (sym pc_is) ∙ at_c) setup

            packet : verdict_of p_end (facts_in (base_of setup_p facts_p one)) octets ≡ Good
                → IsPacketNow c_end facts_p.turn.slot (facts_in (base_of setup_p facts_p one)) c octets
            packet good =
                let heard = hears.now octets one (ap step_of got) (receives good) (one_connect one.setup p_end setups) in
                packet_worded c_end facts_p.turn.slot setup_p facts_p facts_p.turn.doing one c octets
                (subst (λ (f : Facts). IsPacketNow c_end f.turn.slot (facts_in one) c octets) facts_same
                (packet_now given before rest peripheral central (facts_in one) octets c distinct in_it at_run
                (ap (λ (past : List Step). link_at central.handle (facts_of setup_c past).links) (sym pc_is) ∙ at_c) setup heard))

    peripheral_ended : (turns : ℕ) → standing pp ≡ Some (at_stage (Within 3) turns) → (called : Bool)
        → standing pc ≡ Some (if called then at_stage Between turns else at_stage (Within 3) turns) → Keeps pc (pp ++ TurnEnds ∷ [])
    peripheral_ended turns own called other = λ c p at_c setup at_p setup_too.
        let has = ended_under setup_p facts_p p_handle p (after_call_at setup_p pp TurnEnds p_handle p at_p) in
        let setups : has.link.setup ≡ p_end = sym (ap (λ (l : OpenLink). l.setup) has.is ∙ reported_setup (nat_lt 0 (complete_in has.link)) has.link) ∙ setup_too in
        let facts_are = ap facts_in has.is ∙ reported_facts (nat_lt 0 (complete_in has.link)) p_end has.link in
        by (facts_of setup_p (pp ++ TurnEnds ∷ [])).turn.doing called other c p has.link (nat_lt 0 (complete_in has.link)) at_c setup has.was setups facts_are (none_code (ending_of (facts_in p))
        has.stays) (keeps c has.link at_c setup has.was setups)
      where
        slot_is : facts_p.turn.slot + 1 ≡ turns
        slot_is = (station_at setup_p pp (at_stage (Within 3) turns) own).holds.phased.uses.in_turn.slot_is

        by : (doing : Doing) (b : Bool) → standing pc ≡ Some (if b then at_stage Between turns else at_stage (Within 3) turns) → (c p before : OpenLink) (reports : Bool)
            → link_at central.handle facts_c.links ≡ Some c → c.setup ≡ c_end → link_at p_handle facts_p.links ≡ Some before → before.setup ≡ p_end
            → facts_in p ≡ (if reports then end_after p_end (facts_in before) DataReported else facts_in before) → is_none (ending_of (facts_in p)) ≡ true
            → ByStanding c_end p_end p_handle (standing pc) (standing pp) facts_p.turn.doing c before
            → ByStanding c_end p_end p_handle (standing pc) (standing (pp ++ TurnEnds ∷ [])) doing c p
        by doing false is c p before reports at_c setup was setups facts_are stays kept =
            let prior = at_standing c_end p_end p_handle (at_stage (Within 3) turns) (at_stage (Within 3) turns) _ _ facts_p.turn.doing c before is own kept in
            by_standing c_end p_end p_handle (at_stage (Within 3) turns) (at_stage Between turns) _ _ doing c p is (ended_next pp turns own) (record {
              heard = λ slot now. subst (λ (f : EndFacts). AreHeardEnds c_end p_end slot (facts_in c) f) (sym facts_are)
                  (peripheral_reports whole opens_there c_end p_end ends p_handle slot reports (facts_in c) (facts_in before) (heard_by prior.1 slot now));
              stays = stays;
            })
          where
            heard_by : NewOr c_end p_end p_handle turns (λ slot. AreHeardEnds c_end p_end slot (facts_in c) (facts_in before)) → (slot : ℕ) → turns ≡ slot + 1
                → AreHeardEnds c_end p_end slot (facts_in c) (facts_in before)
            heard_by (inr stand) slot now = stand slot now
            heard_by (inl new) slot now =
                let here = in_slot facts_p.turn.slot slot turns slot_is now in
                let opened : c_end.opened ≡ slot = in_slot c_end.opened slot turns new now in
                let station = station_at setup_p pp (at_stage (Within 3) turns) own in
                let far = station_at setup_c pc (at_stage (Within 3) turns) is in
                let there = in_slot facts_c.turn.slot slot turns far.holds.phased.uses.in_turn.slot_is now in
                both_new slot c before setup setups
                (far.new central.handle c at_c (ap (λ (s : EndSetup). s.opened) setup ∙ opened ∙ sym there))
                (station.new p_handle before was (ap (λ (s : EndSetup). s.opened) setups ∙ sym ends.one_link.opened ∙ opened ∙ sym here)) opened
        by doing true is c p before reports at_c setup was setups facts_are stays kept =
            let prior = at_standing c_end p_end p_handle (at_stage Between turns) (at_stage (Within 3) turns) _ _ facts_p.turn.doing c before is own kept in
            let heard = subst (λ (f : EndFacts). AreHeardEnds c_end p_end facts_p.turn.slot (facts_in c) f) (sym facts_are)
            (peripheral_reports whole opens_there c_end p_end ends p_handle facts_p.turn.slot reports (facts_in c) (facts_in before) (prior.heard facts_p.turn.slot (sym slot_is))) in
            by_standing c_end p_end p_handle (at_stage Between turns) (at_stage Between turns) _ _ doing c p is (ended_next pp turns own)
            (subst (λ n. AreOpenEnds c_end p_end n (facts_in c) (facts_in p)) slot_is (heard.opens prior.stays stays))

  -- ---- any call

  phase_place : (b : Bool) (phases : ℕ) → ((if b then suc phases else phases) ≡ phases) ⊎ ((if b then suc phases else phases) ≡ suc phases)
  phase_place true phases = inr refl
  phase_place false phases = inl refl

  phase_other : (b : Bool) (phases turns : ℕ) (past : List Step) → standing past ≡ Some (if b then at_stage (Within (suc phases)) turns else at_stage (Within phases) turns)
      → standing past ≡ Some (at_stage (Within (if b then suc phases else phases)) turns)
  phase_other true phases turns past is = is
  phase_other false phases turns past is = is

  feed_other : (b : Bool) (turns : ℕ) (past : List Step) → standing past ≡ Some (if b then at_stage Between turns else at_stage Between turns) → standing past ≡ Some (at_stage Between turns)
  feed_other true turns past is = is
  feed_other false turns past is = is

  abbrev KeptAt : List Event → Type 0
  KeptAt history = Keeps (past_of central.station history) (past_of peripheral.station history)

  central_call : (before rest : List Event) (step : Step) → history_of (run_of given) ≡ before ++ Called central.station step ∷ rest
      → HearsAll given before central peripheral step → KeptAt before → Keeps (past_of central.station before ++ step ∷ []) (past_of peripheral.station before)
  central_call before rest step at hears keeps = by step at (stands_called given before rest central.station step distinct at) hears
    where
      passed : (received : Option (List ℕ)) → history_of (run_of given) ≡ before ++ Called central.station (step_of received) ∷ rest → StandsInPhase given before central.station
          → HearsAll given before central peripheral (step_of received) → Keeps (past_of central.station before ++ step_of received ∷ []) (past_of peripheral.station before)
      passed received at place hears =
          let b = place.stand.was_called peripheral.station in
          central_passed (past_of central.station before) (past_of peripheral.station before) keeps before (Called central.station (step_of received) ∷ rest) received
          (if b then suc place.phases else place.phases) place.phases place.turns at refl refl hears place.stand.own (phase_place b place.phases)
          (phase_other b place.phases place.turns (past_of peripheral.station before) (place.stand.others peripheral.station in_too))

      by : (step : Step) → history_of (run_of given) ≡ before ++ Called central.station step ∷ rest → StandsAt given before central.station step
          → HearsAll given before central peripheral step → Keeps (past_of central.station before ++ step ∷ []) (past_of peripheral.station before)
      by (HostOctet octet) at place hears =
          central_fed (past_of central.station before) (past_of peripheral.station before) keeps octet place.turns place.stand.own
          (feed_other (place.stand.was_called peripheral.station) place.turns (past_of peripheral.station before) (place.stand.others peripheral.station in_too))
          (asks before rest central.station octet central.handle in_it at)
      by (TurnBegins slot on) at place hears =
          central_begun (past_of central.station before) (past_of peripheral.station before) keeps slot on place.own (place.was_called peripheral.station)
          (place.others peripheral.station in_too)
      by (PacketHeard octets) at place hears = passed (Some octets) at place hears
      by NothingHeard at place hears = passed None at place hears
      by TurnEnds at place hears =
          central_ended (past_of central.station before) (past_of peripheral.station before) keeps place.turns place.stand.own (place.stand.was_called peripheral.station)
          (place.stand.others peripheral.station in_too)

  peripheral_call : (before rest : List Event) (step : Step) → history_of (run_of given) ≡ before ++ Called peripheral.station step ∷ rest
      → HearsAll given before peripheral central step → KeptAt before → Keeps (past_of central.station before) (past_of peripheral.station before ++ step ∷ [])
  peripheral_call before rest step at hears keeps = by step at (stands_called given before rest peripheral.station step distinct at) hears
    where
      passed : (received : Option (List ℕ)) → history_of (run_of given) ≡ before ++ Called peripheral.station (step_of received) ∷ rest → StandsInPhase given before peripheral.station
          → HearsAll given before peripheral central (step_of received) → Keeps (past_of central.station before) (past_of peripheral.station before ++ step_of received ∷ [])
      passed received at place hears =
          let b = place.stand.was_called central.station in
          peripheral_passed (past_of central.station before) (past_of peripheral.station before) keeps before (Called peripheral.station (step_of received) ∷ rest) received
          (if b then suc place.phases else place.phases) place.phases place.turns at refl refl hears place.stand.own (phase_place b place.phases)
          (phase_other b place.phases place.turns (past_of central.station before) (place.stand.others central.station in_it))

      by : (step : Step) → history_of (run_of given) ≡ before ++ Called peripheral.station step ∷ rest → StandsAt given before peripheral.station step
          → HearsAll given before peripheral central step → Keeps (past_of central.station before) (past_of peripheral.station before ++ step ∷ [])
      by (HostOctet octet) at place hears =
          peripheral_fed (past_of central.station before) (past_of peripheral.station before) keeps octet place.turns
          (feed_other (place.stand.was_called central.station) place.turns (past_of central.station before) (place.stand.others central.station in_it)) place.stand.own
          (asks before rest peripheral.station octet p_handle in_too at)
      by (TurnBegins slot on) at place hears =
          peripheral_begun (past_of central.station before) (past_of peripheral.station before) keeps slot on place.own (place.was_called central.station)
          (place.others central.station in_it)
      by (PacketHeard octets) at place hears = passed (Some octets) at place hears
      by NothingHeard at place hears = passed None at place hears
      by TurnEnds at place hears =
          peripheral_ended (past_of central.station before) (past_of peripheral.station before) keeps place.turns place.stand.own (place.stand.was_called central.station)
          (place.stand.others central.station in_it)

  -- ---- along a history

  module _ (differs : (central.station == peripheral.station) ≡ false) (history rest : List Event) (at : history_of (run_of given) ≡ history ++ rest)
      (hear : HearEachInTurn given history central peripheral) (none_mixed : HearNoMixed given history central peripheral) where
    place_of : (before after : List Event) (station : ℕ) (step : Step) → history ≡ before ++ Called station step ∷ after
        → history_of (run_of given) ≡ before ++ Called station step ∷ (after ++ rest)
    place_of before after station step is = at ∙ ap (λ events. events ++ rest) is ∙ append_assoc before (Called station step ∷ after) rest

    hears_now : (end far : OpenEnd) → HearsInTurn given history end far → HearsNoMixed given history end far → (before after : List Event) (step : Step)
        → history ≡ before ++ Called end.station step ∷ after → HearsAll given before end far step
    hears_now end far hears pure before after step is = record {
      now = λ octets link heard takes own. hears before after octets link (is ∙ ap (λ s. before ++ Called end.station s ∷ after) heard) takes own;
      pure = λ octets link there heard takes own at_far far_own.
          pure before after octets link there (is ∙ ap (λ s. before ++ Called end.station s ∷ after) heard) takes own at_far far_own;
    }

    each_call : (before after : List Event) (station : ℕ) (step : Step) → history ≡ before ++ Called station step ∷ after → KeptAt before → KeptAt (before ++ Called station step ∷ [])
    each_call before after station step is keeps = by (station == central.station) (station == peripheral.station) refl refl
      where
        of_central : history ≡ before ++ Called central.station step ∷ after → KeptAt (before ++ Called central.station step ∷ [])
        of_central own =
            subst (λ pp. Keeps (past_of central.station (before ++ Called central.station step ∷ [])) pp)
            (sym (past_other peripheral.station central.station step [] before (differs_back central.station peripheral.station differs)))
            (subst (λ pc. Keeps pc (past_of peripheral.station before)) (sym (past_own central.station step [] before))
            (central_call before (after ++ rest) step (place_of before after central.station step own) (hears_now central peripheral hear.one_hears none_mixed.one_hears before after step own) keeps))

        of_peripheral : history ≡ before ++ Called peripheral.station step ∷ after → KeptAt (before ++ Called peripheral.station step ∷ [])
        of_peripheral own =
            subst (λ pc. Keeps pc (past_of peripheral.station (before ++ Called peripheral.station step ∷ [])))
            (sym (past_other central.station peripheral.station step [] before differs))
            (subst (λ pp. Keeps (past_of central.station before) pp) (sym (past_own peripheral.station step [] before))
            (peripheral_call before (after ++ rest) step (place_of before after peripheral.station step own) (hears_now peripheral central hear.other_hears none_mixed.other_hears before after step own) keeps))

        by : (first second : Bool) → (station == central.station) ≡ first → (station == peripheral.station) ≡ second → KeptAt (before ++ Called station step ∷ [])
        by true second own is_too =
            let equal = eqb-true station central.station own in
            subst (λ n. KeptAt (before ++ Called n step ∷ [])) (sym equal) (of_central (subst (λ n. history ≡ before ++ Called n step ∷ after) equal is))
        by false true apart own =
            let equal = eqb-true station peripheral.station own in
            subst (λ n. KeptAt (before ++ Called n step ∷ [])) (sym equal) (of_peripheral (subst (λ n. history ≡ before ++ Called n step ∷ after) equal is))
        by false false apart apart_too =
            subst (λ pc. Keeps pc (past_of peripheral.station (before ++ Called station step ∷ [])))
            (sym (past_other central.station station step [] before (differs_back station central.station apart)))
            (subst (λ pp. Keeps (past_of central.station before) pp) (sym (past_other peripheral.station station step [] before (differs_back station peripheral.station apart_too))) keeps)

    outside : (before : List Event) (event : Event) → ((station : ℕ) → steps_in station event ≡ []) → KeptAt before → KeptAt (before ++ event ∷ [])
    outside before event none keeps =
        subst (λ pc. Keeps pc (past_of peripheral.station (before ++ event ∷ []))) (sym (event_past central.station before event (none central.station)))
        (subst (λ pp. Keeps (past_of central.station before) pp) (sym (event_past peripheral.station before event (none peripheral.station))) keeps)

    each_event : (before after : List Event) (event : Event) → history ≡ before ++ event ∷ after → KeptAt before → KeptAt (before ++ event ∷ [])
    each_event before after (Called station step) is keeps = each_call before after station step is keeps
    each_event before after (TurnBegan slot radios) is keeps = outside before (TurnBegan slot radios) (λ station. refl) keeps
    each_event before after (HostFed station octets) is keeps = outside before (HostFed station octets) (λ other. refl) keeps
    each_event before after (Noted station note) is keeps = outside before (Noted station note) (λ other. refl) keeps
    each_event before after (Transmitted station channel octets hearings) is keeps = outside before (Transmitted station channel octets hearings) (λ other. refl) keeps

    along : (before events after : List Event) → history ≡ before ++ events ++ after → KeptAt before → KeptAt (before ++ events)
    along before [] after is keeps = subst KeptAt (sym (append-nil before)) keeps
    along before (event ∷ events) after is keeps =
        subst KeptAt (append_assoc before (event ∷ []) events)
        (along (before ++ event ∷ []) events after (is ∙ ap (λ (xs : List Event). xs ++ after) (sym (append_assoc before (event ∷ []) events)))
        (each_event before (events ++ after) event (is ∙ append_assoc before (event ∷ events) after) keeps))

    none_first : KeptAt []
    none_first = λ c p at_c setup at_p setup_too. absurd (open_has (λ one. ⊥) 0 central.handle (first_facts setup_c).links c (none_open (λ one. ⊥) setup_c.links)
        (ap (λ (f : Facts). link_at central.handle f.links) (sym (first_is setup_c)) ∙ at_c))

    -- at any front of the history
    pub kept_to : (before after : List Event) → history ≡ before ++ after → KeptAt before
    kept_to before after is = along [] before after is none_first
