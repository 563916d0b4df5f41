-- The proof of `crossed_versions_are_known`: the run computes.
use Rattle.std.proofs.Common.{refl}
use Rattle.joint_phases.specs.Worked.{crossed_versions, link}
use Rattle.joint_phases.proofs.Testing.{facts_tested}
use Rattle.joint_phases.proofs.rows.crossed_versions_are_known.Goals as goal

pub returns : goal.returns
returns c =
    record { facts = λ map. facts_tested crossed_versions (link map) refl; central = λ map. refl; peripheral = λ map. refl }
