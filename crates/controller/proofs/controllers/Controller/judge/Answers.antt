-- Proof of `controllers::Controller::judge`.
use Rattle.controller.proofs.Going.{at_facts}
use Rattle.controller.proofs.controllers.Controller.judge.Goals as goal

pub returns : goal.returns
returns g c = λ setup past knows. c.verdict.ensures setup _ (at_facts setup _ past knows)
