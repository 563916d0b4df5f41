-- Where in a turn each controller of a run is, and what it does there: in each phase it sends or listens in that
-- phase, or rests, and it wants the radio for what it does.
use Rattle.std.proofs.Common.{◌≡◌, ℕ, suc, Bool, true, false, Option, Some, None, List, refl, ap, arith}
use Rattle.std.specs.Prelude.{⊤}
use Rattle.ble_base.specs.declared.roles.Role.{Role}
use Rattle.ble_base.specs.declared.roles.Role.TheVariants.{Central}
use Rattle.journal_wants.specs.controller_model.declared.doing.Doing.{Doing}
use Rattle.journal_wants.specs.controller_model.declared.doing.Doing.TheVariants.{Advertises, CentralListens, CentralSends, PeripheralListens, PeripheralSends, Rests}
use Rattle.journal_wants.specs.controller_model.Facts.{Facts, Setup, first_facts}
use Rattle.journal_wants.specs.controller_model.Heard.{has_room, heard, replies_in, unheard}
use Rattle.journal_wants.specs.controller_model.Packets.{use_for}
use Rattle.journal_wants.specs.controller_model.Radio.{outcome_begun}
use Rattle.journal_wants.specs.controller_model.Side.{facts_after, outcome_heard, outcome_unheard}
use Rattle.journal_wants.specs.controller_model.link_model.Packets.{good_pdu}
use Rattle.journal_wants.specs.controller_model.link_model.Receiving.{facts_received, has_ended, replies_by, replies_of}
use Rattle.journal_wants.specs.controller_model.open_links.OpenLinks.{OpenLink, facts_in, link_at}
use Rattle.journal_wants.specs.run_model.History.{Event, past_of, turns_begun}
use Rattle.journal_wants.specs.run_model.Run.{Given, facts_at, setup_at, step_of}
use Rattle.journal_wants.proofs.journal_acks.link_calls.LinkPhases.{IsPhased, phased_first, phased_kept}
use Rattle.journal_wants.proofs.journal_acks.run_laws.LinkPhases.{HasRole, IsInPhase}
use Rattle.journal_wants.proofs.journal_acks.run_laws.TurnPlaces.{AllStand, Between, IsTurned, Stage, Within, stands_at, turned}
use Rattle.journal_wants.proofs.run_model.Stations.{is_in}
use Rattle.journal_wants.proofs.run_model.Walk.{Place}
use Rattle.journal_moves.proofs.Phases.{IsFirstPhase, IsNextPhase, IsSilent, begun_first, heard_next, phase_of, unheard_next}
use Rattle.journal_moves.proofs.Ready.{IsReady, begun_ready, doing_ready, heard_ready, unheard_ready}

-- ---- in its phase

abbrev pub IsPhase : ℕ → Option ℕ → Type 0
IsPhase phases None = ⊤
IsPhase phases (Some phase) = phase ≡ phases

abbrev pub DoesInPhase : Stage → Doing → Type 0
DoesInPhase Between doing = doing ≡ Rests
DoesInPhase (Within phases) doing = IsPhase phases (phase_of doing)

first_phase : (phase : Option ℕ) → IsFirstPhase phase → IsPhase 0 phase
first_phase None is = tt
first_phase (Some phase) is = is

next_phase : (phases : ℕ) (before after : Option ℕ) → IsPhase phases before → IsNextPhase before after
    → IsPhase (suc phases) after
next_phase phases before None is next = tt
next_phase phases None (Some after) is next = absurd next
next_phase phases (Some before) (Some after) is next = omega (arith, is, next)

central_silent : (slot : ℕ) (room : Bool) (octets : List ℕ) (place : Option OpenLink) → HasRole Central place
    → replies_in slot room place octets ≡ false
unfolding replies_of
central_silent slot room octets None role = refl
central_silent slot room octets (Some link) role =
    let pdu = good_pdu link.setup (facts_in link) octets in
    ap (λ (one : Role). replies_by one
    (has_ended (facts_received link.setup.link.role slot room pdu (facts_in link))) pdu) role

pub is_silent : (phases : ℕ) (setup : Setup) (octets : List ℕ) (facts : Facts) (doing : Doing)
    → IsInPhase phases facts.links doing
    → IsSilent setup octets facts doing
is_silent phases setup octets facts (CentralListens handle) is =
    central_silent facts.turn.slot (has_room setup facts) octets (link_at handle facts.links) is.1
is_silent phases setup octets facts (CentralSends handle) is = tt
is_silent phases setup octets facts (PeripheralListens handle) is = tt
is_silent phases setup octets facts (PeripheralSends handle) is = tt
is_silent phases setup octets facts (Advertises channel) is = tt
is_silent phases setup octets facts other is = tt

-- ---- what it wants

-- it wants the radio for what it does, with what it has
pub record IsWanting (facts : Facts) : Type 0 where
  pub base : Facts
  pub advertising : facts.advertising ≡ base.advertising
  pub scanning : facts.scanning ≡ base.scanning
  pub wanted : facts.wanted ≡ use_for base facts.turn.doing
  pub ready : IsReady base facts.turn.doing
  -- and has still
  pub is_open : IsReady facts facts.turn.doing

abbrev pub WantsAt : Stage → Facts → Type 0
WantsAt Between facts = ⊤
WantsAt (Within phases) facts = IsWanting facts

-- ---- from call to call

pub record IsDoing (setup : Setup) (stage : Stage) (begun : ℕ) (facts : Facts) : Type 0 where
  pub phased : IsPhased setup stage begun facts
  pub in_phase : DoesInPhase stage facts.turn.doing
  pub wants : WantsAt stage facts

passed_phase : (setup : Setup) (phases : ℕ) (received : Option (List ℕ)) (facts : Facts)
    → IsInPhase phases facts.links facts.turn.doing
    → IsPhase phases (phase_of facts.turn.doing)
    → IsPhase (suc phases) (phase_of (facts_after setup facts (step_of received)).turn.doing)
passed_phase setup phases None facts links is =
    let doing = facts.turn.doing in
    next_phase phases (phase_of doing) (phase_of (unheard doing facts).next) is (unheard_next doing facts)
passed_phase setup phases (Some octets) facts links is =
    let doing = facts.turn.doing in
    next_phase phases (phase_of doing) (phase_of (heard setup doing octets facts).next) is
    (heard_next setup doing octets facts (is_silent phases setup octets facts doing links))

passed_wants : (setup : Setup) (received : Option (List ℕ)) (facts : Facts)
    → IsWanting (facts_after setup facts (step_of received))
passed_wants setup None facts = record {
  base = (outcome_unheard facts).facts;
  advertising = refl;
  scanning = refl;
  wanted = refl;
  ready = unheard_ready facts.turn.doing facts;
  is_open = doing_ready (outcome_unheard facts).next (outcome_unheard facts).facts
      (unheard_ready facts.turn.doing facts);
}
passed_wants setup (Some octets) facts = record {
  base = (outcome_heard setup octets facts).facts;
  advertising = refl;
  scanning = refl;
  wanted = refl;
  ready = heard_ready setup facts.turn.doing octets facts;
  is_open = doing_ready (outcome_heard setup octets facts).next (outcome_heard setup octets facts).facts
      (heard_ready setup facts.turn.doing octets facts);
}

pub doing_turned : (setup : Setup) → IsTurned setup (IsDoing setup)
doing_turned setup = let kept = phased_kept setup in record {
  feeds = λ begun octet facts is.
      let phased = kept.feeds begun octet facts is.phased in record {
        phased = phased;
        in_phase =
            phased.phase;
        wants = tt;
      };
  begins = λ begun on facts is. record {
    phased = kept.begins begun on facts is.phased;
    in_phase = first_phase (phase_of (outcome_begun begun on facts).next) (begun_first setup begun on facts);
    wants = record {
      base = (outcome_begun begun on facts).facts;
      advertising = refl;
      scanning = refl;
      wanted = refl;
      ready = begun_ready begun on facts;
      is_open = doing_ready (outcome_begun begun on facts).next (outcome_begun begun on facts).facts
          (begun_ready begun on facts);
    };
  };
  passes = λ phases begun received facts is. record {
    phased = kept.passes phases begun received facts is.phased;
    in_phase = passed_phase setup phases received facts is.phased.phase is.in_phase;
    wants = passed_wants setup received facts;
  };
  ends = λ begun facts is.
      let phased = kept.ends begun facts is.phased in record { phased = phased; in_phase = phased.phase; wants = tt };
}

doing_begins : (setup : Setup) → IsDoing setup Between 0 (first_facts setup)
doing_begins setup = record { phased = phased_first setup; in_phase = refl; wants = tt }

-- at a place of a run
pub doing_at : (given : Given) (place : Place) (history : List Event) (station : ℕ) → AllStand given place history
    → is_in station given.stations ≡ true
    → let at = stands_at place station (turns_begun history) in IsDoing (setup_at given station) at.stage at.begun
    (facts_at given station history)
doing_at given place history station stand in_it =
    let setup = setup_at given station in
    turned setup (IsDoing setup) (doing_turned setup) (past_of station history)
    (stands_at place station (turns_begun history)) (doing_begins setup)
    (stand station in_it)
