-- Proof of `controllers::Controller::host_octet`.
use Rattle.std.proofs.Common.{refl, sym, subst}
use Rattle.controller.specs.Held.{Held}
use Rattle.controller.specs.Knowing.{Knows}
use Rattle.controller.proofs.Going.{more_goes}
use Rattle.controller.proofs.controllers.Controller.host_octet.Goals as goal

pub returns-else-not-goes_on-clause-goes : goal.returns-else-not-goes_on-clause-goes
returns-else-not-goes_on-clause-goes g c = λ setup past knows.
    more_goes setup past c.args.octet _ _ _ _ refl c.requires.empty
    (λ octets is. c.if-not-goes_on.ensures.on octets is refl) (λ octets is. c.if-not-goes_on.ensures.framer_after octets is refl)
    (subst (λ (held : Held). Knows setup held past) (sym c.self.view_is) knows)
