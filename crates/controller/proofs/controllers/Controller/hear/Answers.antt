-- Proof of `controllers::Controller::hear`.
use Rattle.std.proofs.Common.{subst, sym}
use Rattle.controller.specs.Held.{Held}
use Rattle.controller.specs.Knowing.{IsAt}
use Rattle.controller.proofs.Hearing.{heard_at_central, heard_at_peripheral}
use Rattle.controller.proofs.controllers.Controller.hear.Goals as goal

pub returns-in-CentralListens-clause-passes : goal.returns-in-CentralListens-clause-passes
returns-in-CentralListens-clause-passes g c = λ has facts k in_event.
    heard_at_central has _ _ facts c.args.octets.now _ _ _ (subst (λ (held : Held). IsAt has held facts) (sym c.self.view_is) k) in_event
    c.in-CentralListens.handle c.in-CentralListens.is (c.hear_on_link.ensures.passes has facts k)

pub returns-in-PeripheralListens-clause-passes : goal.returns-in-PeripheralListens-clause-passes
returns-in-PeripheralListens-clause-passes g c = λ has facts k in_event.
    heard_at_peripheral has _ _ facts c.args.octets.now _ _ _ (subst (λ (held : Held). IsAt has held facts) (sym c.self.view_is) k) in_event
    c.in-PeripheralListens.handle c.in-PeripheralListens.is (c.hear_with_words.ensures.passes has facts k)
