-- Worked joint runs in which versions are exchanged as encryption starts.
use Rattle.std.specs.Prelude.{List, [], ◌∷◌, ◌++◌, replicate}
use Rattle.ble_base.specs.declared.channel_map.ChannelMap.{ChannelMap}
use Rattle.joint_controls.specs.control_model.Worked.{six_slots}
use Rattle.joint_controls.specs.procedure_values.declared.asks.Ask.TheVariants.{Encrypt, Version}
use Rattle.joint_controls.specs.phased_control.Worked.{zero_response}
use Rattle.joint_controls.specs.Joint.{Joint, JointStep, AsksFor, CentralAcked, CentralHost, CentralSends, CentralTakes, HasKey, PeripheralAcked, PeripheralFixes, PeripheralHost, PeripheralSends, PeripheralTakes, beginning}
use Rattle.joint_controls.specs.Worked.{enter}

abbrev pub link : ChannelMap → Joint
link map = beginning 27 27 (six_slots map) 3

-- the peripheral sends the PDU that it fixed, and the central takes it
abbrev pub comes_up : List JointStep
comes_up = PeripheralFixes 0 ∷ PeripheralSends ∷ CentralTakes 0 ∷ PeripheralAcked ∷ []

-- the central sends a PDU, which the peripheral takes with its own acknowledged
abbrev pub goes_down : List JointStep
goes_down = CentralSends 0 ∷ PeripheralTakes 0 zero_response ∷ []

-- the peripheral's LL_VERSION_IND is fixed as it takes LL_ENC_REQ: the central keeps it until the link is encrypted,
-- and answers it then
abbrev pub kept_version : List JointStep
kept_version =
    CentralHost (AsksFor (Encrypt 0 0 (replicate 16 0) 0 0)) ∷ PeripheralHost (AsksFor Version) ∷ enter
    ++ CentralSends 0 ∷ PeripheralFixes 0 ∷ PeripheralTakes 0 zero_response ∷ PeripheralSends ∷ CentralAcked
    ∷ CentralTakes 0 ∷ PeripheralAcked ∷ PeripheralHost HasKey ∷ comes_up ++ comes_up ++ goes_down
    ++ PeripheralFixes 0 ∷ PeripheralSends ∷ CentralAcked ∷ CentralTakes 0 ∷ PeripheralAcked ∷ goes_down

-- both ends begin an exchange of versions, and the two LL_VERSION_IND cross
abbrev pub crossed_versions : List JointStep
crossed_versions =
    CentralHost (AsksFor Version) ∷ PeripheralHost (AsksFor Version) ∷ enter
    ++ CentralSends 0 ∷ PeripheralFixes 0 ∷ PeripheralTakes 0 zero_response ∷ PeripheralSends ∷ CentralAcked
    ∷ CentralTakes 0 ∷ []
