-- Proof of `controllers::Controller::leave_some`.
use Rattle.std.proofs.Common.{◌∙◌, sym, subst}
use Rattle.open_links.specs.Turns.{ending_in}
use Rattle.controller.specs.Held.{Held}
use Rattle.controller.specs.Order.{Stays}
use Rattle.controller.proofs.Shutting.{both_stay, ending_is, shut_stays}
use Rattle.controller.proofs.controllers.Controller.leave_some.Goals as goal

pub returns-clause-at : goal.returns-clause-at
returns-clause-at g c = λ has facts k.
    ending_is has _ _ _ facts ending_in _ c.take_ended-ended.ensures.rest (c.take_ended-ended.ensures.links facts.links facts.received k.links)
    (c.as_slice.ensures.value ∙ c.take_ended-ended.ensures.ends facts.links facts.received k.links) c.end_all.ensures.held k

pub returns-clause-stays : goal.returns-clause-stays
returns-clause-stays g c =
    both_stay _ _ _ c.take_ended-ended.ensures.stays
    (subst (λ (held : Held). Stays c.take_ended-ended.new.self held) (sym c.end_all.ensures.held)
    (shut_stays c.as_slice.result.now c.take_ended-ended.new.self))
