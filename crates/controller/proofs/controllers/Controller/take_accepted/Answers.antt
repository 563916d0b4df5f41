-- Proof of `controllers::Controller::take_accepted`.
use Rattle.controller.proofs.Accepting.{accepts_is}
use Rattle.controller.proofs.controllers.Controller.take_accepted.Goals as goal

pub returns-clause-at : goal.returns-clause-at
returns-clause-at g c = λ has facts k.
    accepts_is has _ _ _ facts _ c.accept_links.ensures.rest (c.accept_links.ensures.links facts.links facts.received k.links) c.accept.ensures k
