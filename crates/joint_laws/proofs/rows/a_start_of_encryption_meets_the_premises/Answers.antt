-- The proof of `a_start_of_encryption_meets_the_premises`.
use Rattle.std.proofs.Common.{refl, arith}
use Rattle.joint_laws.proofs.rows.a_start_of_encryption_meets_the_premises.Goals as goal

pub returns : goal.returns
returns c =
    record {
      run = λ map. record { latency = omega arith; in_range = _ };
      goes = λ map. refl;
    }
