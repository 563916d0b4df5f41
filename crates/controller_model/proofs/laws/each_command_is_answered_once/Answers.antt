-- Proof of `laws::each_command_is_answered_once`.
use Rattle.controller_model.proofs.AnsweredOnce.{answered_once}
use Rattle.controller_model.proofs.laws.each_command_is_answered_once.Goals as goal

pub returns : goal.returns
returns c = answered_once
