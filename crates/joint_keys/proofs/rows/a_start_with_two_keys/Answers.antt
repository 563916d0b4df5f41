-- The proof of `a_start_with_two_keys`: the run computes.
use Rattle.std.proofs.Common.{◌∷◌, refl}
use Rattle.joint_controls.specs.Joint.{HasKey, PeripheralHost}
use Rattle.joint_keys.specs.OneKey.{IsOneKey}
use Rattle.joint_keys.specs.Worked.{answered_with, asks_with, first_link_with, keyless}
use Rattle.joint_keys.proofs.EachSteps.{each_later}
use Rattle.joint_keys.proofs.rows.a_start_with_two_keys.Goals as goal

pub returns : goal.returns
returns c =
    record {
      comes = λ map ltk. refl;
      two_keys =
          λ map ltk one.
          (each_later IsOneKey (keyless asks_with) (record { step = PeripheralHost HasKey; ltk = ltk } ∷ keyless answered_with) (first_link_with map) one).0 refl refl;
      made = λ map ltk. refl;
      listener = λ map ltk. refl;
    }
