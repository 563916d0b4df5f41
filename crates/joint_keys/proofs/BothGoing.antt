-- The keys of both ends in each step of a joint run that may come.
use Rattle.std.proofs.Common.{◌≡◌, Bool, true, false, ◌&&◌, List, ℕ, is_some, sym, subst}
use Rattle.std.proofs.lemmas.Bool.{and_parts}
use Rattle.ble_base.specs.declared.roles.Role.TheVariants.{Central, Peripheral}
use Rattle.enc_phase.specs.declared.facts.PhaseFacts.{PhaseFacts}
use Rattle.enc_phase.specs.Phases.{opens}
use Rattle.phased_control.specs.Taken.{Response, Sends}
use Rattle.joint_controls.specs.Joint.{Joint, JointStep, Way, CentralAcked, CentralEnters, CentralHost, CentralSends, CentralSendsData, CentralTakes, Clear, Fixed, OnAir, PeripheralAcked, PeripheralEnters, PeripheralFixes, PeripheralFixesData, PeripheralHost, PeripheralSends, PeripheralTakes, Shuts, Taken, act, central_takes, item_on_air, may_act, no_response, peripheral_takes}
use Rattle.joint_phases.proofs.JointCentral.{Runs}
use Rattle.joint_keys.specs.KeyedJoint.{KeyedJoint, central_keys_after, keys_taking, peripheral_keys_after}
use Rattle.joint_keys.proofs.EndChanges.{IsEnd}
use Rattle.joint_keys.proofs.KeysGoing.{IsAt, KeysGo, changes_at, keys_acked, keys_enter, keys_host, keys_send, keys_stay, keys_take}

-- ---- which end first sends a PDU in a step, and which takes one

abbrev pub sends_down : JointStep → Bool
sends_down (CentralSends slot) = true
sends_down CentralSendsData = true
sends_down step = false

abbrev pub takes_up : JointStep → Bool
takes_up (CentralTakes slot) = true
takes_up step = false

abbrev pub sends_up : JointStep → Bool
sends_up PeripheralSends = true
sends_up step = false

abbrev pub takes_down : JointStep → Bool
takes_down (PeripheralTakes slot response) = true
takes_down step = false

pub record BothGo (step : JointStep) (ltk : List ℕ) (s : KeyedJoint) : Type 0 where
  pub central :
      KeysGo Central (sends_down step) (takes_up step && opens Central s.joint.central.phase) s.joint.central.phase (act step s.joint).central.phase
      s.central (central_keys_after step ltk s.joint s.central)
  pub peripheral :
      KeysGo Peripheral (sends_up step) (takes_down step && opens Peripheral s.joint.peripheral.phase) s.joint.peripheral.phase
      (act step s.joint).peripheral.phase s.peripheral (peripheral_keys_after step ltk s.joint s.peripheral)

module _ (s : KeyedJoint) (runs : Runs s.joint) (at_central : IsAt Central s.joint.central) (at_peripheral : IsAt Peripheral s.joint.peripheral)
    (central : IsEnd Central s.joint.central.phase s.central.end) (peripheral : IsEnd Peripheral s.joint.peripheral.phase s.peripheral.end) where
  abbrev j : Joint
  j = s.joint

  rest_central : KeysGo Central false false j.central.phase j.central.phase s.central s.central
  rest_central = keys_stay Central j.central.phase s.central central

  rest_peripheral : KeysGo Peripheral false false j.peripheral.phase j.peripheral.phase s.peripheral s.peripheral
  rest_peripheral = keys_stay Peripheral j.peripheral.phase s.peripheral peripheral

  taking_up : (slot : ℕ) (w : Way) → is_some (item_on_air w) ≡ true
      → KeysGo Central false (opens Central j.central.phase) j.central.phase (central_takes w slot j).central.phase s.central (keys_taking (item_on_air w) slot no_response j.central s.central)
      × KeysGo Peripheral false false j.peripheral.phase (central_takes w slot j).peripheral.phase s.peripheral s.peripheral
  taking_up slot (OnAir item sealed) some = (keys_take Central j.central at_central runs.central item slot no_response s.central central, rest_peripheral)
  taking_up slot Clear some = absurd (cc)
  taking_up slot (Fixed item sealed) some = absurd (cc)
  taking_up slot (Taken item) some = absurd (cc)

  taking_down : (slot : ℕ) (response : Response) (w : Way) → is_some (item_on_air w) ≡ true
      → KeysGo Central false false j.central.phase (peripheral_takes w slot response j).central.phase s.central s.central
      × KeysGo Peripheral false (opens Peripheral j.peripheral.phase) j.peripheral.phase (peripheral_takes w slot response j).peripheral.phase s.peripheral (keys_taking (item_on_air w) slot response j.peripheral s.peripheral)
  taking_down slot response (OnAir item sealed) some =
      (rest_central, keys_take Peripheral j.peripheral at_peripheral runs.peripheral item slot response s.peripheral peripheral)
  taking_down slot response Clear some = absurd (cc)
  taking_down slot response (Fixed item sealed) some = absurd (cc)
  taking_down slot response (Taken item) some = absurd (cc)

  pub both_go : (step : JointStep) (ltk : List ℕ) → may_act step j ≡ true → BothGo step ltk s
  both_go (CentralEnters slot) ltk may = record { central = keys_enter Central j.central at_central runs.central slot s.central central; peripheral = rest_peripheral }
  both_go (CentralHost step) ltk may = record { central = keys_host Central j.central at_central runs.central step ltk s.central central; peripheral = rest_peripheral }
  both_go (CentralSends slot) ltk may =
      let k = keys_send Central j.central.phase s.central central in
      record {
        central =
            subst (λ (q : PhaseFacts). KeysGo Central true false j.central.phase q s.central (central_keys_after (CentralSends slot) ltk j s.central))
            (sym (changes_at Central j.central at_central runs.central (Sends slot))) k;
        peripheral = rest_peripheral;
      }
  both_go CentralSendsData ltk may = record { central = keys_send Central j.central.phase s.central central; peripheral = rest_peripheral }
  both_go CentralAcked ltk may = record { central = keys_acked Central j.central at_central runs.central s.central central; peripheral = rest_peripheral }
  both_go (CentralTakes slot) ltk may =
      let two = taking_up slot j.up (and_parts (is_some (item_on_air j.up)) _ may).0 in record { central = two.0; peripheral = two.1 }
  both_go (PeripheralEnters slot) ltk may =
      record { central = rest_central; peripheral = keys_enter Peripheral j.peripheral at_peripheral runs.peripheral slot s.peripheral peripheral }
  both_go (PeripheralHost step) ltk may =
      record { central = rest_central; peripheral = keys_host Peripheral j.peripheral at_peripheral runs.peripheral step ltk s.peripheral peripheral }
  both_go (PeripheralFixes slot) ltk may =
      record {
        central = rest_central;
        peripheral =
            subst (λ (q : PhaseFacts). KeysGo Peripheral false false j.peripheral.phase q s.peripheral s.peripheral)
            (sym (changes_at Peripheral j.peripheral at_peripheral runs.peripheral (Sends slot))) rest_peripheral;
      }
  both_go PeripheralFixesData ltk may = record { central = rest_central; peripheral = rest_peripheral }
  both_go PeripheralSends ltk may = record { central = rest_central; peripheral = keys_send Peripheral j.peripheral.phase s.peripheral peripheral }
  both_go PeripheralAcked ltk may =
      record { central = rest_central; peripheral = keys_acked Peripheral j.peripheral at_peripheral runs.peripheral s.peripheral peripheral }
  both_go (PeripheralTakes slot response) ltk may =
      let two = taking_down slot response j.down (and_parts (is_some (item_on_air j.down)) _ may).0 in record { central = two.0; peripheral = two.1 }
  both_go Shuts ltk may = record { central = rest_central; peripheral = rest_peripheral }
