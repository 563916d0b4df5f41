-- Proof of `controllers::Controller::leave_links`.
use Rattle.std.proofs.Common.{◌∙◌, sym, subst}
use Rattle.open_links.specs.Turns.{ending_in}
use Rattle.controller.specs.Held.{Held}
use Rattle.controller.specs.Knowing.{IsAt}
use Rattle.controller.proofs.Shutting.{none_ends, none_noted}
use Rattle.controller.proofs.controllers.Controller.leave_links.Goals as goal

pub returns-else-has_ending-clause-at : goal.returns-else-has_ending-clause-at
returns-else-has_ending-clause-at g c = λ has facts k.
    let inside = subst (λ (held : Held). IsAt has held facts) (sym c.self.view_is) k in
    none_ends has c.args.self.now facts ending_in (sym (c.has_ending.ensures facts.links facts.received inside.links) ∙ c.if-has_ending.false) k

pub returns-else-has_ending-clause-notes : goal.returns-else-has_ending-clause-notes
returns-else-has_ending-clause-notes g c = λ has facts k.
    let inside = subst (λ (held : Held). IsAt has held facts) (sym c.self.view_is) k in
    none_noted c.args.out.now.items facts ending_in (sym (c.has_ending.ensures facts.links facts.received inside.links) ∙ c.if-has_ending.false)
