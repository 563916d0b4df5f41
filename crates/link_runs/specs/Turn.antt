-- One turn of both ends of a link: what their hosts do, what passes between them, and whether each end stays open (Core
-- 5.2, volume 6 part B, sections 4.5 and 5.1; the order is our choice).
use Rattle.std.specs.Prelude.{◌≡◌, ℕ, ◌+◌, ◌==◌, ◌&&◌, Bool, true, false, List, Option, Some, None, is_none, fold, if◌then◌else◌}
use Rattle.instants.specs.Track.{next_anchor_of}
use Rattle.link_pairs.specs.link_model.Setup.{Setup}
use Rattle.link_pairs.specs.link_model.Facts.{Facts}
use Rattle.link_pairs.specs.link_model.End.{facts_after}
use Rattle.link_pairs.specs.link_model.Packets.{packet_sent}
use Rattle.link_pairs.specs.link_model.Receiving.{replies_of}
use Rattle.link_pairs.specs.link_model.Step.{Step, DataReported}
use Rattle.link_pairs.specs.link_model.Times.{due_of, ending_of, has_second_exchange, wants_of}
use Rattle.link_pairs.specs.Hearing.{answered, is_mixed_packet, received}
use Rattle.link_pairs.specs.Turns.{central_begun, entered_in, prepared}

-- both ends of a link, each with what it holds until it is shut
pub record Ends : Type 0 where
  pub central : Option Facts
  pub peripheral : Option Facts

-- what comes from outside in one turn
pub record Given : Type 0 where
  -- what the hosts do before it
  pub central_host : List Step
  pub peripheral_host : List Step
  -- each end has the radio, if it wants it
  pub central_served : Bool
  pub peripheral_served : Bool
  -- the packet of the central passes, and the answer
  pub down : Bool
  pub up : Bool
  -- there is room for a piece of data
  pub central_room : Bool
  pub peripheral_room : Bool

-- ---- one end alone

-- an end that stays open, or is shut
abbrev pub open_if : Bool → Facts → Option Facts
open_if true facts = Some facts
open_if false facts = None

-- an end after its host did these steps, one after another
abbrev pub facts_hosted : Setup → List Step → Facts → Facts
facts_hosted setup steps facts = fold (facts_after setup) facts steps

-- an end that is due is shut as the turn begins (sections 4.5.2, 5.1.6 and 5.2)
abbrev pub open_unless_due : Setup → ℕ → Facts → Option Facts
open_unless_due setup slot facts = open_if (is_none (due_of setup facts slot)) facts

abbrev pub end_at_start : Setup → ℕ → List Step → Option Facts → Option Facts
end_at_start setup slot steps None = None
end_at_start setup slot steps (Some facts) = open_unless_due setup slot (facts_hosted setup steps facts)

-- the second exchange of the event that it entered last is in this slot (section 4.5.6)
abbrev pub is_second : ℕ → Facts → Bool
is_second slot facts = has_second_exchange facts && (slot == facts.event.slot + 1)

-- it wants the radio in this slot: for the event that it enters in it, or else for a second exchange (section 4.5.1)
abbrev pub wants_slot : Setup → ℕ → Facts → Bool
wants_slot setup slot facts =
    if next_anchor_of facts.control.track == slot
    then wants_of setup (entered_in setup slot facts)
    else is_second slot facts

-- an end that ends is shut at the end of the turn (sections 5.1.6 and 5.5.1)
abbrev pub open_unless_ending : Facts → Option Facts
open_unless_ending facts = open_if (is_none (ending_of facts)) facts

-- its complete packets are reported before that
abbrev pub end_after_turn : Setup → Option Facts → Option Facts
end_after_turn setup None = None
end_after_turn setup (Some facts) = open_unless_ending (facts_after setup facts DataReported)

-- ---- a turn of which both ends are open (sections 4.5.1 and 4.5.9)

module _ (central peripheral : Setup) (slot : ℕ) (given : Given) where
  -- each end has an exchange
  abbrev pub transmits : Facts → Bool
  transmits c = given.central_served && wants_slot central slot c

  abbrev pub listens : Facts → Bool
  listens p = given.peripheral_served && wants_slot peripheral slot p

  -- each end as it is ready for that: it has entered its event and fixed its PDU
  abbrev pub central_ready : Facts → Facts
  central_ready c = prepared central slot (transmits c) c

  abbrev pub peripheral_ready : Facts → Facts
  peripheral_ready p = prepared peripheral slot (listens p) p

  -- the central after its packet
  abbrev pub central_sent : Facts → Facts
  central_sent c = central_begun central slot (transmits c) c

  module _ (c p : Facts) where
    -- the packet of the central
    abbrev pub packet : List ℕ
    packet = packet_sent central (central_ready c)

    -- it reaches the peripheral: it passes, and both are on one channel
    abbrev pub is_heard : Bool
    is_heard =
        (transmits c && listens p)
        && (given.down && (central_ready c).event.channel == (peripheral_ready p).event.channel)

    -- the peripheral that has received it, before its answer
    abbrev pub peripheral_received : Facts
    peripheral_received = received peripheral slot packet given.peripheral_room (peripheral_ready p)

    -- the answer
    abbrev pub answer : List ℕ
    answer = packet_sent peripheral peripheral_received

    abbrev pub has_answer : Bool
    has_answer = is_heard && replies_of peripheral (peripheral_ready p) slot packet given.peripheral_room

    -- it reaches the central
    abbrev pub is_answer_heard : Bool
    is_answer_heard =
        has_answer && (given.up && peripheral_received.event.channel == (central_sent c).event.channel)

    -- each end after all that
    abbrev pub peripheral_heard : Facts
    peripheral_heard =
        if is_heard
        then answered peripheral slot packet given.peripheral_room (peripheral_ready p)
        else peripheral_ready p

    abbrev pub central_heard : Facts
    central_heard =
        if is_answer_heard then received central slot answer given.central_room (central_sent c) else central_sent c

    -- no packet that is heard is mixed (part E, section 2)
    pub record IsUnmixed : Type 0 where
      pub down : is_heard ≡ true → is_mixed_packet peripheral (peripheral_ready p) (central_sent c) packet ≡ false
      pub up : is_answer_heard ≡ true → is_mixed_packet central (central_sent c) peripheral_heard answer ≡ false

  -- ---- any turn

  -- nothing is heard where one end is shut
  abbrev pub ends_heard : Option Facts → Option Facts → Ends
  ends_heard (Some c) (Some p) = record { central = Some (central_heard c p); peripheral = Some (peripheral_heard c p) }
  ends_heard (Some c) None = record { central = Some (central_sent c); peripheral = None }
  ends_heard None (Some p) = record { central = None; peripheral = Some (peripheral_ready p) }
  ends_heard None None = record { central = None; peripheral = None }

  -- both ends in the turn, before one of them is shut at its end
  abbrev pub ends_in_turn : Ends → Ends
  ends_in_turn ends =
      ends_heard (end_at_start central slot given.central_host ends.central)
      (end_at_start peripheral slot given.peripheral_host ends.peripheral)

  -- both ends after the turn
  abbrev pub ends_after_turn : Ends → Ends
  ends_after_turn ends =
      record {
        central = end_after_turn central (ends_in_turn ends).central;
        peripheral = end_after_turn peripheral (ends_in_turn ends).peripheral;
      }
