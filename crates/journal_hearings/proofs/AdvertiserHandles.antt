-- While a controller of a run has connectable advertising on it has a free handle.
use Rattle.std.proofs.Common.{◌≡◌, ℕ, ◌+◌, ◌≤◌, Bool, true, false, Option, Some, None, List, refl, ap, sym, subst, ◌∙◌, arith}
use Rattle.std.specs.Prelude.{is_some, IsSome}
use Rattle.ble_base.specs.declared.roles.Role.{Role}
use Rattle.ble_base.specs.declared.roles.Role.TheVariants.{Central, Peripheral}
use Rattle.host_view.specs.declared.view.Advertising.{Advertising as ViewAdvertising}
use Rattle.host_view.specs.Refusals.{count_if, is_connectable}
use Rattle.advertise.specs.Advertising.{AdvertiserFacts}
use Rattle.scan_init.specs.Initiating.{InitiatorFacts}
use Rattle.journal_data.specs.link_model.declared.setup.LinkSetup.{LinkSetup}
use Rattle.journal_data.specs.open_links.OpenLinks.{free_from}
use Rattle.journal_data.specs.controller_model.declared.doing.Doing.TheVariants.{Rests}
use Rattle.journal_data.specs.controller_model.declared.doing.Turn.{Turn}
use Rattle.journal_data.specs.controller_model.Step.{Step, HostOctet, TurnBegins, TurnEnds}
use Rattle.journal_data.specs.controller_model.Facts.{Setup, Facts}
use Rattle.journal_data.specs.controller_model.Side.{facts_after, facts_of}
use Rattle.journal_data.proofs.controller_model.Always.{IsInTurn, advertising_noted, initiator_stopped}
use Rattle.journal_data.proofs.controller_model.AdvertisersKnown.{connectable_known}
use Rattle.journal_data.proofs.controller_model.Room.{may_connect}
use Rattle.journal_data.proofs.controller_model.ViewRoom.{IsKnown, IsRoomLeft, KnowsOwn, Makes, first_known, first_own, full_view, octet_known, own_after}
use Rattle.journal_data.proofs.controller_model.ViewRoom.{turn_known}
use Rattle.journal_data.specs.run_model.Run.{step_of}
use Rattle.journal_data.proofs.run_laws.TurnPlaces.{Between, IsTurned, Stage, Standing, Within, standing, turned}
use Rattle.journal_data.proofs.run_laws.TurnSteps.{octet_turn}
use Rattle.journal_data.proofs.KeptData.{pass_in_turn}
use Rattle.journal_hearings.proofs.AdvertiserRoom.{LeavesRoom, leaves_after}

-- a CONNECT_IND that is to be sent is that of a central, which initiates until then
abbrev IsOfInitiator : Bool → LinkSetup → Type 0
IsOfInitiator initiates link = (link.role ≡ Central) × (initiates ≡ true)

-- ---- what is left by each change

-- a central takes the place that was counted for initiating
central_room : (role : Role) (initiator : Option InitiatorFacts) (opened more : ℕ) (advertising : ViewAdvertising) (limit : ℕ) → role ≡ Central
    → is_some initiator ≡ true → more ≤ opened + 1 → LeavesRoom (is_some initiator) opened advertising limit
    → LeavesRoom (is_some (initiator_stopped role initiator)) more (advertising_noted role advertising) limit
central_room Central initiator opened more advertising limit is initiates few room = λ so.
    let enough = room so in
    let one : count_if (is_some initiator) ≡ 1 = ap count_if initiates in
    omega (arith, enough, one, few)
central_room Peripheral initiator opened more advertising limit is initiates few room = absurd cc

-- a peripheral stops advertising
room_left : (setup : Setup) → IsRoomLeft setup LeavesRoom IsOfInitiator
room_left setup = record {
  accepted = leaves_after setup;
  fewer = λ initiates opened less advertising limit is room so. let enough = room so in omega (arith, enough, is);
  connects = λ link central. (central, refl);
  sent = λ link initiator opened more advertising limit of_initiator is room.
      central_room link.role initiator opened more advertising limit of_initiator.0 of_initiator.1 is room;
  taken = λ initiates opened more advertising limit connectable is room so. absurd (let h : false ≡ true = so in absurd cc);
}

-- ---- in a turn

abbrev IsDone : Stage → Facts → Type 0
IsDone Between facts = facts.turn.doing ≡ Rests
IsDone (Within phases) facts = Makes (IsOfInitiator (is_some facts.initiator)) facts.turn.doing

record IsInStep (setup : Setup) (stage : Stage) (begun : ℕ) (facts : Facts) : Type 0 where
  own : KnowsOwn setup facts
  known : IsKnown LeavesRoom setup facts
  done : IsDone stage facts

in_step_kept : (setup : Setup) → setup.links ≤ 6 → IsTurned setup (IsInStep setup)
in_step_kept setup few = record {
  feeds = λ begun octet facts is. record {
    own = own_after setup facts (HostOctet octet) is.own;
    known = octet_known setup few LeavesRoom IsOfInitiator (room_left setup) facts octet is.own.0 is.known;
    done = ap (λ (turn : Turn). turn.doing) (octet_turn setup facts octet).turn ∙ is.done;
  };
  begins = λ begun on facts is.
      let rests = subst (Makes (IsOfInitiator (is_some facts.initiator))) (sym is.done) tt in
      let both = turn_after facts (TurnBegins begun on) tt is.own (is.known, rests) in
      record { own = own_after setup facts (TurnBegins begun on) is.own; known = both.0; done = both.1 };
  passes = λ phases begun received facts is.
      let both = turn_after facts (step_of received) (pass_in_turn received) is.own (is.known, is.done) in
      record { own = own_after setup facts (step_of received) is.own; known = both.0; done = both.1 };
  ends = λ begun facts is.
      let both = turn_after facts TurnEnds tt is.own (is.known, is.done) in
      record { own = own_after setup facts TurnEnds is.own; known = both.0; done = refl };
}
  where
    turn_after : (facts : Facts) (step : Step) → IsInTurn step → KnowsOwn setup facts
        → IsKnown LeavesRoom setup facts × Makes (IsOfInitiator (is_some facts.initiator)) facts.turn.doing
        → IsKnown LeavesRoom setup (facts_after setup facts step)
        × Makes (IsOfInitiator (is_some (facts_after setup facts step).initiator)) (facts_after setup facts step).turn.doing
    turn_after = turn_known setup few LeavesRoom IsOfInitiator (room_left setup)

-- ---- at any time

some_free : (setup : Setup) (facts : Facts) (free : Option ℕ) → free_from 0 facts.links ≡ free → KnowsOwn setup facts → IsKnown LeavesRoom setup facts
    → may_connect facts.view.advertising ≡ true → IsSome free
some_free setup facts (Some handle) is own known connectable = refl
some_free setup facts None is own known connectable =
    let enough = known.room connectable in
    let full = full_view LeavesRoom setup facts is own.0 known in
    absurd (omega (arith, enough, full))

pub advertisers_have_handles : (setup : Setup) (past : List Step) (at : Standing) (on : AdvertiserFacts) → setup.links ≤ 6 → standing past ≡ Some at
    → (facts_of setup past).advertising.on ≡ Some on → is_connectable on.params.kind ≡ true → IsSome (free_from 0 (facts_of setup past).links)
advertisers_have_handles setup past at on few stands is connectable =
    let facts = facts_of setup past in
    let first = first_known LeavesRoom setup few (λ so. absurd (let h : false ≡ true = so in absurd cc)) in
    let step = turned setup (IsInStep setup) (in_step_kept setup few) past at (record { own = first_own setup; known = first; done = refl }) stands in
    some_free setup facts (free_from 0 facts.links) refl step.own step.known
    (connectable_known facts.view.advertising facts.advertising on step.own.1 is connectable)
