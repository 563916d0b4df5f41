-- Proof of `laws::commands_are_answered_in_order`.
use Rattle.controller_model.proofs.Feds.{framed}
use Rattle.controller_model.proofs.InOrder.{says}
use Rattle.controller_model.proofs.Opcodes.{answered}
use Rattle.controller_model.proofs.laws.commands_are_answered_in_order.Goals as goal

pub returns-clause-framed : goal.returns-clause-framed
returns-clause-framed c = framed

pub returns-clause-answered : goal.returns-clause-answered
returns-clause-answered c = answered

pub returns-clause-by_two_octets : goal.returns-clause-by_two_octets
returns-clause-by_two_octets c = says
