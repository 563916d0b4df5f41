-- Worked joint runs with an update. The interval is 6 slots; in event 0 the central sends an update to 8 slots, whose
-- Instant is event 6.
use Rattle.std.specs.Prelude.{true, ℕ, zero, suc, List, [], ◌∷◌, ◌++◌}
use Rattle.ble_base.specs.declared.channel_map.ChannelMap.{ChannelMap}
use Rattle.joint_controls.specs.control_model.Worked.{six_slots}
use Rattle.joint_controls.specs.procedure_values.declared.asks.Ask.TheVariants.{Map, Request, Update}
use Rattle.joint_controls.specs.phased_control.Worked.{zero_response}
use Rattle.joint_controls.specs.Joint.{AsksFor, CentralHost, CentralSends, JointStep, PeripheralHost, PeripheralSends, PeripheralTakes}
use Rattle.joint_controls.specs.Worked.{enter}
use Rattle.joint_parameters.specs.Turns.{Alone, Begins, FixesControl, FixesData, FixesNothing, IsAnswered, IsHeard, Link, LinkStep, SendsControl, first_link, link_after_all}

abbrev pub sends_update : List JointStep
sends_update = CentralHost (AsksFor (Update 8 0 100)) ∷ enter ++ CentralSends 0 ∷ []

-- both ends enter this many events
abbrev pub entries : ℕ → List JointStep
entries zero = []
entries (suc n) = enter ++ entries n

-- it is taken at once, and both ends enter six events more
abbrev pub in_time : List JointStep
in_time = sends_update ++ PeripheralTakes 0 zero_response ∷ entries 6

-- it is taken in event 7
abbrev pub too_late : List JointStep
too_late = sends_update ++ entries 7 ++ PeripheralTakes 0 zero_response ∷ []

-- the same by turns, from slot 0 on. Event 0 is in slot 3. In its first exchange an empty PDU is heard and answered, in
-- the second the update
abbrev pub update_by_turns : List LinkStep
update_by_turns =
    Alone (CentralHost (AsksFor (Update 8 0 100))) ∷ Begins 0 ∷ Begins 1 ∷ Begins 2 ∷ Begins 3
    ∷ IsHeard true FixesNothing 3 zero_response ∷ IsAnswered true 3 ∷ SendsControl 3 ∷ Begins 4
    ∷ IsHeard true FixesNothing 4 zero_response ∷ IsAnswered true 4 ∷ []

-- in event 0 data of the peripheral is taken; in event 1 the central sends a new map, and the peripheral is to send a
-- request
abbrev pub data_and_map : ChannelMap → List LinkStep
data_and_map map =
    Begins 0 ∷ Begins 1 ∷ Begins 2 ∷ Begins 3 ∷ IsHeard true FixesData 3 zero_response ∷ Alone PeripheralSends
    ∷ IsAnswered true 3 ∷ Alone (CentralHost (AsksFor (Map map))) ∷ Alone (PeripheralHost (AsksFor (Request 8 8 0 100)))
    ∷ Begins 4 ∷ Begins 5 ∷ Begins 6 ∷ Begins 7 ∷ Begins 8 ∷ Begins 9 ∷ SendsControl 9 ∷ []

-- the peripheral hears the map, and fixes its request
abbrev pub hears_map : LinkStep
hears_map = IsHeard true FixesControl 9 zero_response

abbrev pub link_by_turns : ChannelMap → List LinkStep → Link
link_by_turns map steps = link_after_all steps (first_link 27 27 (six_slots map) 3 0)
