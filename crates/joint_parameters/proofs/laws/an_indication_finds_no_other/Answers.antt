-- The proof of the law `an_indication_finds_no_other`.
use Rattle.joint_parameters.proofs.Arriving.{awaits_none, free_at_central, free_at_peripheral, over_at_central}
use Rattle.joint_parameters.proofs.laws.an_indication_finds_no_other.Goals as goal

pub returns-clause-central : goal.returns-clause-central
returns-clause-central c = λ crx prx first slot steps now latency range. free_at_central crx prx first slot steps latency range now

pub returns-clause-over : goal.returns-clause-over
returns-clause-over c = λ crx prx first slot steps now latency range. over_at_central crx prx first slot steps latency range now

pub returns-clause-peripheral : goal.returns-clause-peripheral
returns-clause-peripheral c = λ crx prx first slot steps now response change latency range. free_at_peripheral crx prx first slot steps latency range now response change

pub returns-clause-awaits : goal.returns-clause-awaits
returns-clause-awaits c = λ crx prx first slot steps now response change latency range. awaits_none crx prx first slot steps latency range now response change
