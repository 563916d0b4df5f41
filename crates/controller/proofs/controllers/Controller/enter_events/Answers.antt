-- Proof of `controllers::Controller::enter_events`.
use Rattle.std.proofs.Common.{refl, sym, subst}
use Rattle.controller.specs.Held.{Held}
use Rattle.controller.specs.Knowing.{IsAt}
use Rattle.controller.proofs.Following.{entering_is}
use Rattle.controller.proofs.controllers.Controller.enter_events.Goals as goal

pub returns-clause-at : goal.returns-clause-at
returns-clause-at g c = λ has facts k.
    let k = subst (λ (held : Held). IsAt has held facts) (sym c.self.view_is) k in
    entering_is has _ _ facts c.args.slot.0 _ _ _ refl c.enter-winner.ensures.same
    (c.enter-winner.ensures.knows facts.links facts.received k.links) c.len-before.ensures.value
    (c.enter-winner.ensures.notes facts.links facts.received k.links) c.follow_from.ensures k
