-- The proof of the law `instants_have_one_event`.
use Rattle.joint_parameters.proofs.Arriving.{only_in_time, same_event, takes_it, test_is_late}
use Rattle.joint_parameters.proofs.laws.instants_have_one_event.Goals as goal

pub returns-clause-test : goal.returns-clause-test
returns-clause-test c = λ crx prx first slot steps now response change latency range. test_is_late crx prx first slot steps latency range now response change

pub returns-clause-same : goal.returns-clause-same
returns-clause-same c = λ crx prx first slot steps now response change latency range. same_event crx prx first slot steps latency range now response change

pub returns-clause-taken : goal.returns-clause-taken
returns-clause-taken c = λ crx prx first slot steps now response change latency range. takes_it crx prx first slot steps latency range now response change

pub returns-clause-in_time : goal.returns-clause-in_time
returns-clause-in_time c = λ crx prx first slot steps now response change latency range. only_in_time crx prx first slot steps latency range now response change
