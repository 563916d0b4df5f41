-- Worked joint runs with keys: encryption starts with the sample data of the Core specification (Core 5.2, volume 6 part C,
-- section 1).
use Rattle.std.specs.Prelude.{ℕ, Bool, true, List, [], ◌∷◌, ◌++◌}
use Rattle.ble_base.specs.declared.channel_map.ChannelMap.{ChannelMap}
use Rattle.ble_base.specs.declared.roles.Role.{Role}
use Rattle.phased_control.specs.control_model.Worked.{six_slots}
use Rattle.phased_control.specs.procedure_values.declared.asks.Ask.TheVariants.{Encrypt}
use Rattle.phased_control.specs.Taken.{Response}
use Rattle.phased_control.specs.Worked.{zero_response}
use Rattle.keyed_control.specs.declared.material.KeyMaterial.{KeyMaterial}
use Rattle.keyed_control.specs.Keyed.{session_of}
use Rattle.keyed_control.specs.Worked.{sample_iv, sample_ltk, sample_material}
use Rattle.phased_control.specs.enc_phase.declared.facts.PhaseFacts.{PhaseFacts}
use Rattle.phased_control.specs.enc_phase.Sealing.{EncEnd}
use Rattle.joint_controls.specs.Joint.{JointStep, AsksFor, CentralHost, CentralSends, HasKey, PeripheralAcked, PeripheralHost, PeripheralSends, PeripheralTakes, beginning, may_all}
use Rattle.joint_controls.specs.Worked.{enter, goes_up, goes_up_again}
use Rattle.joint_laws.specs.joint_parameters.Turns.{Alone, Begins, FixesControl, FixesNothing, IsAnswered, IsHeard, Link, LinkStep, SendsControl, SendsEmpty, first_link}
use Rattle.joint_keys.specs.KeyedJoint.{KeyedJoint, KeyedJointStep, keyed_beginning, keyed_joint_after_all, steps_of}
use Rattle.joint_keys.specs.KeyedLinks.{KeyedLinkStep, keys_of}

-- steps in which the host of the peripheral gives no key
abbrev pub keyless : List JointStep → List KeyedJointStep
keyless [] = []
keyless (step ∷ steps) = record { step = step; ltk = [] } ∷ keyless steps

abbrev pub sample_response : Response
sample_response = record { skd_s = 0x0213243546576879; iv_s = 0xDEAFBABE }

-- the host of the central asks for encryption with the sample's key, and LL_ENC_REQ is taken; the host of the peripheral
-- gives this key; LL_ENC_RSP and LL_START_ENC_REQ are taken, and LL_START_ENC_RSP of the central is sent
abbrev pub asks_with : List JointStep
asks_with =
    CentralHost (AsksFor (Encrypt 0 0 sample_ltk 0xACBDCEDFE0F10213 0xBADCAB24)) ∷ enter
    ++ CentralSends 0 ∷ PeripheralTakes 0 sample_response ∷ []

abbrev pub answered_with : List JointStep
answered_with = goes_up_again ++ PeripheralAcked ∷ goes_up ++ CentralSends 0 ∷ []

abbrev pub start_with : List ℕ → List KeyedJointStep
start_with ltk = keyless asks_with ++ record { step = PeripheralHost HasKey; ltk = ltk } ∷ keyless answered_with

-- it is taken, and so is that of the peripheral
abbrev pub confirmed_with : List JointStep
confirmed_with = PeripheralAcked ∷ PeripheralTakes 0 zero_response ∷ goes_up_again

abbrev pub whole_start_with : List ℕ → List KeyedJointStep
whole_start_with ltk = start_with ltk ++ keyless confirmed_with

abbrev pub first_link_with : ChannelMap → KeyedJoint
first_link_with map = keyed_beginning 27 27 (six_slots map) 3

abbrev pub keyed_link_after : ChannelMap → List KeyedJointStep → KeyedJoint
keyed_link_after map steps = keyed_joint_after_all steps (first_link_with map)

abbrev pub may_come : ChannelMap → List KeyedJointStep → Bool
may_come map steps = may_all (steps_of steps) (beginning 27 27 (six_slots map) 3)

-- the sample's material with another long term key
abbrev pub material_with : List ℕ → KeyMaterial
material_with ltk = record sample_material { ltk = ltk }

-- an end in the session of that in this phase, which has sealed and opened this many PDUs
abbrev pub end_in : Role → PhaseFacts → List ℕ → ℕ → EncEnd
end_in role phase ltk sealed =
    record {
      role = role;
      phase = phase;
      key = (session_of (material_with ltk)).key;
      iv = sample_iv;
      sent = sealed;
      opened = sealed;
    }

-- ---- the same by turns, from slot 0 on; event 0 is in slot 3, and each event has two exchanges

abbrev pub keyless_links : List LinkStep → List KeyedLinkStep
keyless_links [] = []
keyless_links (step ∷ steps) = record { step = step; ltk = [] } ∷ keyless_links steps

-- in the first exchange of event 0 an empty PDU is heard and answered, in the second LL_ENC_REQ
abbrev pub asks_by_turns : List LinkStep
asks_by_turns =
    Alone (CentralHost (AsksFor (Encrypt 0 0 sample_ltk 0xACBDCEDFE0F10213 0xBADCAB24))) ∷ Begins 0 ∷ Begins 1 ∷ Begins 2
    ∷ Begins 3 ∷ IsHeard true FixesNothing 3 zero_response ∷ IsAnswered true 3 ∷ Begins 4 ∷ SendsControl 4
    ∷ IsHeard true FixesNothing 4 sample_response ∷ IsAnswered true 4 ∷ []

-- in an exchange in this slot the peripheral hears an empty PDU and answers with its next control PDU
abbrev pub answers_in : ℕ → List LinkStep
answers_in slot =
    SendsEmpty ∷ IsHeard true FixesControl slot zero_response ∷ Alone PeripheralSends ∷ IsAnswered true slot ∷ []

-- LL_ENC_RSP and LL_START_ENC_REQ in event 1, and LL_START_ENC_RSP of both ends in event 2
abbrev pub starts_by_turns : List LinkStep
starts_by_turns =
    Begins 5 ∷ Begins 6 ∷ Begins 7 ∷ Begins 8 ∷ Begins 9 ∷ answers_in 9 ++ Begins 10 ∷ answers_in 10
    ++ Begins 11 ∷ Begins 12 ∷ Begins 13 ∷ Begins 14 ∷ Begins 15 ∷ SendsControl 15 ∷ IsHeard true FixesNothing 15 zero_response
    ∷ IsAnswered true 15 ∷ Begins 16 ∷ answers_in 16

abbrev pub start_by_turns : List ℕ → List KeyedLinkStep
start_by_turns ltk =
    keyless_links asks_by_turns ++ record { step = Alone (PeripheralHost HasKey); ltk = ltk } ∷ keyless_links starts_by_turns

abbrev pub first_by_turns : ChannelMap → Link
first_by_turns map = first_link 27 27 (six_slots map) 3 0

abbrev pub keys_by_turns : ChannelMap → List KeyedLinkStep → KeyedJoint
keys_by_turns map steps = keys_of 27 27 (six_slots map) 3 0 steps
