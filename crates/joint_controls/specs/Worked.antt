-- Worked joint runs.
use Rattle.std.specs.Prelude.{Bool, List, [], ◌∷◌, ◌++◌, replicate}
use Rattle.ble_base.specs.declared.channel_map.ChannelMap.{ChannelMap}
use Rattle.phased_control.specs.control_model.Worked.{six_slots}
use Rattle.phased_control.specs.procedure_values.declared.asks.Ask.TheVariants.{Encrypt, Map, Request}
use Rattle.phased_control.specs.Worked.{zero_response}
use Rattle.joint_controls.specs.Joint.{Joint, JointStep, AsksFor, CentralAcked, CentralEnters, CentralHost, CentralSends, CentralTakes, HasKey, PeripheralAcked, PeripheralEnters, PeripheralFixes, PeripheralHost, PeripheralSends, PeripheralTakes, after_all, beginning, may_all}

abbrev pub link_after : ChannelMap → List JointStep → Joint
link_after map steps = after_all steps (beginning 27 27 (six_slots map) 3)

-- both ends enter their next event
abbrev pub enter : List JointStep
enter = CentralEnters 0 ∷ PeripheralEnters 0 ∷ []

-- the central sends a PDU, and the peripheral takes it
abbrev pub goes_down : List JointStep
goes_down = CentralSends 0 ∷ PeripheralTakes 0 zero_response ∷ []

-- the peripheral sends a PDU, and the central takes it
abbrev pub goes_up : List JointStep
goes_up = PeripheralFixes 0 ∷ PeripheralSends ∷ CentralTakes 0 ∷ []

-- with its own PDU acknowledged before
abbrev pub goes_up_again : List JointStep
goes_up_again = PeripheralFixes 0 ∷ PeripheralSends ∷ CentralAcked ∷ CentralTakes 0 ∷ []

-- and the peripheral takes the next one, with its own acknowledged before
abbrev pub goes_down_again : List JointStep
goes_down_again = CentralSends 0 ∷ PeripheralAcked ∷ PeripheralTakes 0 zero_response ∷ []

-- the central's host asks for encryption, and that of the peripheral has the key: LL_ENC_REQ, LL_ENC_RSP,
-- LL_START_ENC_REQ, LL_START_ENC_RSP both ways
abbrev pub start : List JointStep
start =
    CentralHost (AsksFor (Encrypt 0 0 (replicate 16 0) 0 0)) ∷ enter ++ goes_down
    ++ PeripheralHost HasKey ∷ goes_up_again ++ PeripheralAcked ∷ goes_up ++ goes_down_again ++ goes_up_again

-- a new map and a request cross: the peripheral takes the map after it fixed its request
abbrev pub cross : ChannelMap → List JointStep
cross map =
    CentralHost (AsksFor (Map map)) ∷ PeripheralHost (AsksFor (Request 8 8 0 100)) ∷ enter
    ++ PeripheralFixes 0 ∷ goes_down ++ PeripheralSends ∷ CentralAcked ∷ CentralTakes 0 ∷ []

abbrev pub may_come : ChannelMap → List JointStep → Bool
may_come map steps = may_all steps (beginning 27 27 (six_slots map) 3)
