-- The proof of `a_start_with_one_key`: the run computes.
use Rattle.std.proofs.Common.{◌∷◌, refl, arith}
use Rattle.keyed_control.specs.Worked.{sample_ltk}
use Rattle.joint_controls.specs.Joint.{HasKey, PeripheralHost}
use Rattle.joint_keys.specs.KeyedJoint.{KeyedJointStep, keyed_joint_after}
use Rattle.joint_keys.specs.OneKey.{IsOneKey}
use Rattle.joint_keys.specs.Worked.{answered_with, asks_with, confirmed_with, first_link_with, keyed_link_after, keyless, start_with}
use Rattle.joint_keys.proofs.EachSteps.{each_joined, keyless_one}
use Rattle.joint_keys.proofs.rows.a_start_with_one_key.Goals as goal

abbrev given : KeyedJointStep
given = record { step = PeripheralHost HasKey; ltk = sample_ltk }

pub returns : goal.returns
returns c =
    record {
      comes = λ map. refl;
      run = λ map. record { latency = omega arith; in_range = _ };
      one_key =
          λ map.
          each_joined IsOneKey (start_with sample_ltk) (keyless confirmed_with) (first_link_with map)
          (each_joined IsOneKey (keyless asks_with) (given ∷ keyless answered_with) (first_link_with map) (keyless_one asks_with (first_link_with map) refl)
          (λ is key. refl, keyless_one answered_with (keyed_joint_after given (keyed_link_after map (keyless asks_with))) refl))
          (keyless_one confirmed_with (keyed_link_after map (start_with sample_ltk)) refl);
      goes = λ map. refl;
      central = λ map. refl;
      peripheral = λ map. refl;
    }
