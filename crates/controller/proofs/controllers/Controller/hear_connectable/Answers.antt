-- Proof of `controllers::Controller::hear_connectable`.
use Rattle.std.proofs.Common.{ap, sym, ◌∙◌}
use Rattle.std.specs.Option.{option_map}
use Rattle.activities.specs.Held.{HeldActivities}
use Rattle.controller.specs.Held.{Held}
use Rattle.controller.proofs.Connecting.{initiates_is}
use Rattle.controller.proofs.controllers.Controller.hear_connectable.Goals as goal

pub returns-clause-passes : goal.returns-clause-passes
returns-clause-passes g c = λ has facts noted k.
    initiates_is has _ facts noted _ c.args.channel _ _ _ _ (sym c.read_pdu.ensures.value ∙ c.in-Some.is)
    (sym (ap (λ (held : HeldActivities). held.initiator) k.activities)
    ∙ sym (ap (λ (held : Held). held.activities.initiator) c.self.view_is)
    ∙ sym c.initiator.ensures ∙ ap (option_map (λ on. on.now)) c.in-Some-initiator.is)
    (c.link_to-link.ensures.value has facts k) (c.connect.ensures.passes has facts noted k)
