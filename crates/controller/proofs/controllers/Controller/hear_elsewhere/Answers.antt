-- Proof of `controllers::Controller::hear_elsewhere`.
use Rattle.std.proofs.Common.{ap, sym, ◌∙◌, subst}
use Rattle.controller_model.specs.declared.doing.Doing.{Doing}
use Rattle.controller_model.specs.declared.doing.Turn.{Turn}
use Rattle.controller_model.specs.Heard.{heard}
use Rattle.controller.specs.Held.{Held}
use Rattle.controller.specs.Knowing.{Passes}
use Rattle.controller.proofs.controllers.Controller.hear_elsewhere.Goals as goal

pub returns-in-Initiates-clause-passes : goal.returns-in-Initiates-clause-passes
returns-in-Initiates-clause-passes g c = λ has facts k.
    subst (λ (doing : Doing). Passes has c.hear_connectable.new.self c.args.out.now.items c.args.out.now.items
    c.hear_connectable.result (heard has doing c.args.octets.now facts))
    (sym (sym (ap (λ (turn : Turn). turn.doing) k.turn) ∙ sym (ap (λ (held : Held). held.turn.doing) c.self.view_is) ∙ c.in-Initiates.is))
    (c.hear_connectable.ensures.passes has facts _ k)
