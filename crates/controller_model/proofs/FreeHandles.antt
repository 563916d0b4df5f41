-- While a controller initiates it has a free handle.
use Rattle.std.proofs.Common.{◌≡◌, ℕ, ◌-◌, ◌≤◌, true, false, Option, Some, None, List, ◌++◌, replicate, refl, ap, arith}
use Rattle.std.specs.Prelude.{is_some, IsSome}
use Rattle.ble_base.specs.declared.roles.Role.TheVariants.{Central, Peripheral}
use Rattle.ble_base.specs.declared.roles.Role.{Role}
use Rattle.host_view.specs.declared.view.Advertising.{Advertising as ViewAdvertising}
use Rattle.host_view.specs.Refusals.{count_if}
use Rattle.host_view.specs.scan_init.Initiating.{InitiatorFacts}
use Rattle.link_commands.specs.open_links.link_model.declared.setup.LinkSetup.{LinkSetup}
use Rattle.link_commands.specs.open_links.OpenLinks.{free_from}
use Rattle.controller_model.specs.Step.{Step, HostOctet, TurnBegins, PacketHeard, NothingHeard, TurnEnds}
use Rattle.controller_model.specs.Facts.{Setup, Facts}
use Rattle.controller_model.specs.Side.{facts_after, facts_of}
use Rattle.controller_model.proofs.Always.{IsInTurn, advertising_noted, initiator_stopped, kept_always, octet_keeps}
use Rattle.controller_model.proofs.OpenPlaces.{opens}
use Rattle.controller_model.proofs.Room.{HasRoom, may_connect, room_after}
use Rattle.controller_model.proofs.ViewRoom.{IsKnown, IsRoomLeft, KnowsOwn, Makes, first_known, first_own, full_view, octet_known, own_after, turn_known}

abbrev pub IsOfCentral : LinkSetup → Type 0
IsOfCentral link = link.role ≡ Central

-- a central stops initiating
no_initiator : (role : Role) (initiator : Option InitiatorFacts) (opened : ℕ) (advertising : ViewAdvertising) (limit : ℕ) → role ≡ Central
    → HasRoom (is_some (initiator_stopped role initiator)) opened (advertising_noted role advertising) limit
no_initiator Central initiator opened advertising limit is = λ so. absurd (let h : false ≡ true = so in absurd cc)
no_initiator Peripheral initiator opened advertising limit is = absurd cc

-- a peripheral takes the place that was counted for advertising
room_left : (setup : Setup) → IsRoomLeft setup HasRoom (λ initiates. IsOfCentral)
room_left setup = record {
  accepted = room_after setup;
  fewer = λ initiates opened less advertising limit is room so. let enough = room so in omega (arith, enough, is);
  connects = λ link central. central;
  sent = λ link initiator opened more advertising limit central is room. no_initiator link.role initiator more advertising limit central;
  taken = λ initiates opened more advertising limit connectable is room so.
      let enough = room so in
      let one : count_if (may_connect advertising) ≡ 1 = ap count_if connectable in
      omega (arith, enough, one, is);
}

record IsInStep (setup : Setup) (facts : Facts) : Type 0 where
  own : KnowsOwn setup facts
  in_turn : IsKnown HasRoom setup facts × Makes IsOfCentral facts.turn.doing

module _ (setup : Setup) (few : setup.links ≤ 6) where
  turn_kept : (facts : Facts) (step : Step) → IsInTurn step → IsInStep setup facts → IsInStep setup (facts_after setup facts step)
  turn_kept facts step turn is = record {
    own = own_after setup facts step is.own;
    in_turn = turn_known setup few HasRoom (λ initiates. IsOfCentral) (room_left setup) facts step turn is.own is.in_turn;
  }

  step_kept : (facts : Facts) (step : Step) → IsInStep setup facts → IsInStep setup (facts_after setup facts step)
  step_kept facts (HostOctet octet) is = record {
    own = own_after setup facts (HostOctet octet) is.own;
    in_turn = (
      octet_known setup few HasRoom (λ initiates. IsOfCentral) (room_left setup) facts octet is.own.0 is.in_turn.0,
      octet_keeps setup (λ facts. Makes IsOfCentral facts.turn.doing) (λ facts opcode octets command is accepted makes. makes)
          (λ facts command asks makes left. left)
          (λ facts handle count start octets is makes. makes) (λ facts octet makes. makes) facts octet is.in_turn.1,
    );
  }
  step_kept facts (TurnBegins slot on) is = turn_kept facts (TurnBegins slot on) tt is
  step_kept facts (PacketHeard octets) is = turn_kept facts (PacketHeard octets) tt is
  step_kept facts NothingHeard is = turn_kept facts NothingHeard tt is
  step_kept facts TurnEnds is = turn_kept facts TurnEnds tt is

  always_in_step : (past : List Step) → IsInStep setup (facts_of setup past)
  always_in_step past =
      kept_always setup (IsInStep setup) step_kept (record {
        own = first_own setup;
        in_turn = (first_known HasRoom setup few (λ so. absurd (let h : false ≡ true = so in absurd cc)), tt);
      }) past

-- ---- at any time

-- the places of the view are those of the controller, and then free
pub places_agree : (setup : Setup) (past : List Step) → setup.links ≤ 6
    → opens (facts_of setup past).view.links ≡ opens (facts_of setup past).links ++ replicate (6 - setup.links) false
places_agree setup past few = (always_in_step setup few past).in_turn.0.places

some_free : (setup : Setup) (facts : Facts) (free : Option ℕ) → free_from 0 facts.links ≡ free → IsInStep setup facts
    → is_some facts.initiator ≡ true → IsSome free
some_free setup facts (Some handle) is step initiates = refl
some_free setup facts None is step initiates =
    let enough = step.in_turn.0.room initiates in
    let full = full_view HasRoom setup facts is step.own.0 step.in_turn.0 in
    absurd (omega (arith, enough, full))

pub initiators_have_handles : (setup : Setup) (past : List Step) (on : InitiatorFacts) → setup.links ≤ 6
    → (facts_of setup past).initiator ≡ Some on → IsSome (free_from 0 (facts_of setup past).links)
initiators_have_handles setup past on few is =
    let facts = facts_of setup past in
    some_free setup facts (free_from 0 facts.links) refl (always_in_step setup few past) (ap is_some is)
