-- Proof of `controllers::Controller::hand_over`.
use Rattle.std.proofs.Common.{sym, subst, ◌∙◌}
use Rattle.controller_model.specs.Data.{facts_pieces}
use Rattle.controller.specs.Held.{Held}
use Rattle.controller.specs.Knowing.{IsAt}
use Rattle.controller.proofs.Handing.{handed_noted}
use Rattle.controller.proofs.controllers.Controller.hand_over.Goals as goal

pub returns-clause-notes : goal.returns-clause-notes
returns-clause-notes g c = λ has facts k few.
    let mid = subst (λ (held : Held). IsAt has held (facts_pieces facts)) (sym c.self.view_is) (c.hand_pieces.ensures.at has facts k few) in
    handed_noted facts _ _ _ _ mid.view (c.as_slice.ensures.value ∙ c.report-completed.ensures.completed _ _ mid.links)
    (c.hand_pieces.ensures.notes has facts k few) c.tell_completed.ensures.notes
