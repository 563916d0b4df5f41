-- Proof of `controllers::Controller::end_octets`.
use Rattle.std.proofs.Common.{refl, sym, subst}
use Rattle.controller.specs.Held.{Held}
use Rattle.controller.specs.Knowing.{Knows}
use Rattle.controller.proofs.Going.{octet_goes}
use Rattle.controller.proofs.controllers.Controller.end_octets.Goals as goal

pub returns-clause-goes : goal.returns-clause-goes
returns-clause-goes g c = λ setup past knows.
    octet_goes setup past c.args.octet _ _ _ _ _ _ _ refl c.requires.empty
    c.feed-fed.ensures.frames c.feed-fed.ensures.framer_after c.take.ensures.at c.take.ensures.notes
    c.take.ensures.stays.framer (subst (λ (held : Held). Knows setup held past) (sym c.self.view_is) knows)
