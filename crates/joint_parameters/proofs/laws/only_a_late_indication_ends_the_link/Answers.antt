-- The proof of the law `only_a_late_indication_ends_the_link`.
use Rattle.joint_parameters.proofs.Arriving.{late_ends_link, never_at_central}
use Rattle.joint_parameters.proofs.Passing.{only_late}
use Rattle.joint_parameters.proofs.laws.only_a_late_indication_ends_the_link.Goals as goal

pub returns-clause-central : goal.returns-clause-central
returns-clause-central c = never_at_central

pub returns-clause-peripheral : goal.returns-clause-peripheral
returns-clause-peripheral c = λ crx prx first slot steps step latency range. only_late crx prx first slot steps latency range step

pub returns-clause-late : goal.returns-clause-late
returns-clause-late c = λ crx prx first slot steps now response change latency range. late_ends_link crx prx first slot steps latency range now response change
