-- The proof of the law `indications_arrive_in_order`.
use Rattle.joint_parameters.proofs.Arriving.{front, on_air, read_there}
use Rattle.joint_parameters.proofs.laws.indications_arrive_in_order.Goals as goal

pub returns-clause-front : goal.returns-clause-front
returns-clause-front c = front

pub returns-clause-on_air : goal.returns-clause-on_air
returns-clause-on_air c = on_air

pub returns-clause-read : goal.returns-clause-read
returns-clause-read c = read_there
