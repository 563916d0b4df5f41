-- The proof of `a_kept_version_is_answered`: the run computes.
use Rattle.std.proofs.Common.{refl}
use Rattle.joint_phases.specs.Worked.{kept_version, link}
use Rattle.joint_phases.proofs.Testing.{facts_tested}
use Rattle.joint_phases.proofs.rows.a_kept_version_is_answered.Goals as goal

pub returns : goal.returns
returns c =
    record { facts = λ map. facts_tested kept_version (link map) refl; central = λ map. refl; answered = λ map. refl }
