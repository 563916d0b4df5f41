-- Proof of `controllers::Controller::end_turn`.
use Rattle.std.proofs.Common.{List, ◌++◌, ap, ◌∙◌}
use Rattle.ble_base.specs.declared.notes.Note.{Note}
use Rattle.controller_model.specs.Data.{facts_handed}
use Rattle.controller_model.specs.Links.{notes_leaving}
use Rattle.controller_model.specs.Side.{facts_of}
use Rattle.controller.proofs.Going.{at_facts, end_goes}
use Rattle.controller.proofs.controllers.Controller.end_turn.Goals as goal

pub returns-clause-goes : goal.returns-clause-goes
returns-clause-goes g c = λ setup past knows.
    let k = at_facts setup _ past knows in
    let few = c.no_more_than_its_buffers.ensures.air setup past in
    let handed = c.hand_over.ensures.at setup _ k few in
    end_goes setup past _ _ _ (c.end.ensures.at setup _ (c.leave_links.ensures.at setup _ handed))
    (c.leave_links.ensures.notes setup _ handed
    ∙ ap (λ (notes : List Note). notes ++ notes_leaving (facts_handed (facts_of setup past))) (c.hand_over.ensures.notes setup _ k few))
    (c.end.ensures.framer ∙ c.leave_links.ensures.stays.framer ∙ c.hand_over.ensures.framer) knows
