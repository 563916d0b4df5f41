-- Proof of `controllers::Controller::take_new_link`.
use Rattle.std.proofs.Common.{ap, ◌∙◌, subst}
use Rattle.controller_model.specs.Heard.{is_new_between, taken_if}
use Rattle.controller.specs.Knowing.{Passes}
use Rattle.controller.proofs.controllers.Controller.take_new_link.Goals as goal

pub returns-clause-passes : goal.returns-clause-passes
returns-clause-passes g c = λ has facts k.
    subst (λ is_new. Passes has c.take_if.new.self c.args.out.now.items c.take_if.new.out.items
    c.take_if.result (taken_if is_new c.args.own c.args.pdu.now c.args.fields facts))
    (c.is_new_between-is_new.ensures facts.links facts.received k.links
    ∙ ap (λ peer. is_new_between c.args.own peer facts.links) c.sender.ensures)
    (c.take_if.ensures.passes has facts k)
