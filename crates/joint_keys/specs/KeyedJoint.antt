-- Joint runs of both ends of a link with their keys and counters (Core 5.2, volume 6 part B, section 5.1.3, and part E,
-- section 2). Of the PDUs on the way nothing is said but what joint runs say: no octets, and so no integrity codes.
use Rattle.std.specs.Prelude.{ℕ, List, [], ◌∷◌, Option, Some, None, if◌then◌else◌}
use Rattle.ble_base.specs.declared.roles.Role.{Role}
use Rattle.ble_base.specs.declared.roles.Role.TheVariants.{Central, Peripheral}
use Rattle.data_pdu.specs.declared.ctrl.CtrlRead.TheVariants.{Known}
use Rattle.instants.specs.declared.indications.Params.{Params}
use Rattle.phased_control.specs.enc_phase.declared.facts.PhaseFacts.TheVariants.{Clear}
use Rattle.phased_control.specs.enc_phase.Sealing.{EncEnd, after_opening, after_sending, clear_end}
use Rattle.phased_control.specs.Phased.{Phased}
use Rattle.phased_control.specs.Taken.{Response}
use Rattle.keyed_control.specs.declared.material.KeyMaterial.{KeyMaterial}
use Rattle.keyed_control.specs.Keyed.{Keyed, first_material}
use Rattle.keyed_control.specs.KeyedSteps.{KeyedStep, Answers, Asks, Disconnects, Enters, GivesKey, LacksKey, SeesAcknowledged, Takes, TakesData, keyed_after}
use Rattle.joint_controls.specs.Joint.{HostStep, AnswersRequest, AsksFor, Ends, HasKey, HasNoKey, Item, Control, Data, Joint, JointStep, CentralAcked, CentralEnters, CentralHost, CentralSends, CentralSendsData, CentralTakes, PeripheralAcked, PeripheralEnters, PeripheralHost, PeripheralSends, PeripheralTakes, act, beginning, item_on_air, may, no_response}

-- what an end has of its keys
pub record Keys : Type 0 where
  pub material : KeyMaterial
  -- the session in its phase, with the counters
  pub end : EncEnd
  -- the same as its last PDU that is not empty was first sent
  pub made : EncEnd

abbrev pub first_keys : Role → Keys
first_keys role =
    record { material = first_material; end = clear_end role Clear; made = clear_end role Clear }

pub record KeyedJoint : Type 0 where
  pub joint : Joint
  pub central : Keys
  pub peripheral : Keys

abbrev pub keyed_beginning : ℕ → ℕ → Params → ℕ → KeyedJoint
keyed_beginning central_rx peripheral_rx first slot =
    record {
      joint = beginning central_rx peripheral_rx first slot;
      central = first_keys Central;
      peripheral = first_keys Peripheral;
    }

-- a step of a joint run, with the long term key that the host of the peripheral gives in it, if it gives one
pub record KeyedJointStep : Type 0 where
  pub step : JointStep
  pub ltk : List ℕ

-- ---- what a step does to the keys of an end

abbrev pub keyed_with : Phased → Keys → Keyed
keyed_with phased keys = record { phased = phased; material = keys.material; end = keys.end }

abbrev pub keys_after : KeyedStep → Phased → Keys → Keys
keys_after step phased keys =
    let k = keyed_after step (keyed_with phased keys) in record keys { material = k.material; end = k.end }

-- a PDU that is not empty is first sent
abbrev pub keys_sending : Keys → Keys
keys_sending keys = record keys { end = after_sending keys.end; made = keys.end }

-- a PDU of the other end is opened
abbrev pub keys_opening : Keys → Keys
keys_opening keys = record keys { end = after_opening keys.end }

abbrev pub host_keyed : HostStep → List ℕ → KeyedStep
host_keyed (AsksFor ask) ltk = Asks ask
host_keyed (AnswersRequest answer) ltk = Answers answer
host_keyed (Ends reason) ltk = Disconnects reason
host_keyed HasKey ltk = GivesKey ltk
host_keyed HasNoKey ltk = LacksKey

abbrev pub item_keyed : Item → ℕ → Response → KeyedStep
item_keyed Data slot response = TakesData
item_keyed (Control outgoing ctrl) slot response = Takes (Known ctrl) slot response

abbrev pub keys_taking : Option Item → ℕ → Response → Phased → Keys → Keys
keys_taking None slot response phased keys = keys
keys_taking (Some item) slot response phased keys =
    keys_after (item_keyed item slot response) phased (keys_opening keys)

-- what each end does with its keys in a step that may come
abbrev pub central_keys_after : JointStep → List ℕ → Joint → Keys → Keys
central_keys_after (CentralEnters slot) ltk s keys = keys_after (Enters slot) s.central keys
central_keys_after (CentralHost step) ltk s keys = keys_after (host_keyed step ltk) s.central keys
central_keys_after (CentralSends slot) ltk s keys = keys_sending keys
central_keys_after CentralSendsData ltk s keys = keys_sending keys
central_keys_after CentralAcked ltk s keys = keys_after SeesAcknowledged s.central keys
central_keys_after (CentralTakes slot) ltk s keys = keys_taking (item_on_air s.up) slot no_response s.central keys
central_keys_after step ltk s keys = keys

abbrev pub peripheral_keys_after : JointStep → List ℕ → Joint → Keys → Keys
peripheral_keys_after (PeripheralEnters slot) ltk s keys = keys_after (Enters slot) s.peripheral keys
peripheral_keys_after (PeripheralHost step) ltk s keys = keys_after (host_keyed step ltk) s.peripheral keys
peripheral_keys_after PeripheralSends ltk s keys = keys_sending keys
peripheral_keys_after PeripheralAcked ltk s keys = keys_after SeesAcknowledged s.peripheral keys
peripheral_keys_after (PeripheralTakes slot response) ltk s keys =
    keys_taking (item_on_air s.down) slot response s.peripheral keys
peripheral_keys_after step ltk s keys = keys

-- ---- the runs: a step that may not come is none

abbrev pub keyed_act : KeyedJointStep → KeyedJoint → KeyedJoint
keyed_act ks s =
    record {
      joint = act ks.step s.joint;
      central = central_keys_after ks.step ks.ltk s.joint s.central;
      peripheral = peripheral_keys_after ks.step ks.ltk s.joint s.peripheral;
    }

abbrev pub keyed_joint_after : KeyedJointStep → KeyedJoint → KeyedJoint
keyed_joint_after ks s = (if may ks.step s.joint then keyed_act ks s else s)

abbrev pub keyed_joint_after_all : List KeyedJointStep → KeyedJoint → KeyedJoint
keyed_joint_after_all [] s = s
keyed_joint_after_all (step ∷ steps) s = keyed_joint_after_all steps (keyed_joint_after step s)

-- the steps without the keys
abbrev pub steps_of : List KeyedJointStep → List JointStep
steps_of [] = []
steps_of (ks ∷ more) = ks.step ∷ steps_of more
