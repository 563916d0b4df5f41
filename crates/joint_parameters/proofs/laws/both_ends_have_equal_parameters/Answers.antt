-- The proof of the law `both_ends_have_equal_parameters`.
use Rattle.joint_parameters.proofs.Equal.{central_follows, equal_central_later, equal_now, equal_peripheral_later, peripheral_follows}
use Rattle.joint_parameters.proofs.laws.both_ends_have_equal_parameters.Goals as goal

pub returns-clause-central : goal.returns-clause-central
returns-clause-central c = λ crx prx first slot steps latency range. central_follows crx prx first slot latency steps range

pub returns-clause-peripheral : goal.returns-clause-peripheral
returns-clause-peripheral c = λ crx prx first slot steps latency range. peripheral_follows crx prx first slot latency steps range

pub returns-clause-now : goal.returns-clause-now
returns-clause-now c = λ crx prx first slot steps latency range. equal_now crx prx first slot latency steps range

pub returns-clause-central_later : goal.returns-clause-central_later
returns-clause-central_later c = λ crx prx first slot steps more latency range range_more. equal_central_later crx prx first slot latency steps range more range_more

pub returns-clause-peripheral_later : goal.returns-clause-peripheral_later
returns-clause-peripheral_later c = λ crx prx first slot steps more latency range range_more. equal_peripheral_later crx prx first slot latency steps range more range_more
