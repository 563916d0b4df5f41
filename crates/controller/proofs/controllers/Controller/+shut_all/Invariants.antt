-- Measure of `controllers::Controller::shut_all`.
use Rattle.std.proofs.Common.{length}
use Rattle.controller.proofs.controllers.Controller.+shut_all.Given as goal

abbrev pub decreases-shut_all : goal.decreases-shut_all
decreases-shut_all g l = length l.ended.now
