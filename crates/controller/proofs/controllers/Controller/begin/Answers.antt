-- Proof of `controllers::Controller::begin`.
use Rattle.controller.proofs.Beginning.{begins_is}
use Rattle.controller.proofs.controllers.Controller.begin.Goals as goal

pub returns-clause-passes : goal.returns-clause-passes
returns-clause-passes g c = λ has facts k.
    let ended = c.end_links.ensures.at has facts k in
    let begun = c.begin_slot.ensures.at has _ ended in
    let entered = c.enter_events-winner.ensures.at has _ begun in
    begins_is has _ _ facts c.args.slot.0 c.args.on _ _ _ _ _ (c.enter_events-winner.ensures.winner has _ begun)
    (c.end_links.ensures.notes has facts k) (c.enter_events-winner.ensures.notes has _ begun)
    (c.serve-doing.ensures.at has _ entered) (c.serve-doing.ensures.next has _ entered) c.fix.ensures.rest c.fix.ensures.links
