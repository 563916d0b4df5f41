-- Proof of `controllers::Controller::unheard`.
use Rattle.std.proofs.Common.{ap, sym, ◌∙◌}
use Rattle.controller.specs.Held.{Held}
use Rattle.controller.proofs.Going.{resting_goes, resting_wants}
use Rattle.controller.proofs.controllers.Controller.unheard.Goals as goal

pub returns-in-Rests-clause-goes : goal.returns-in-Rests-clause-goes
returns-in-Rests-clause-goes g c = λ setup past knows.
    resting_goes setup past _ _ (sym (ap (λ (held : Held). held.turn.doing) c.self.view_is) ∙ c.in-Rests.is) knows c.requires.empty

pub returns-in-Rests-clause-wants : goal.returns-in-Rests-clause-wants
returns-in-Rests-clause-wants g c = λ setup past knows.
    resting_wants setup past _ c.args.out.now.items (sym (ap (λ (held : Held). held.turn.doing) c.self.view_is) ∙ c.in-Rests.is) knows
