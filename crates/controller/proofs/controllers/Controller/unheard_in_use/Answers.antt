-- Proof of `controllers::Controller::unheard_in_use`.
use Rattle.std.proofs.Common.{refl, ◌∙◌}
use Rattle.controller_model.specs.Side.{facts_of, outcome_unheard}
use Rattle.controller_model.specs.Step.{NothingHeard}
use Rattle.controller_model.proofs.Exchanges.{always_in_event, unheard_in_event}
use Rattle.controller.proofs.Going.{at_facts, next_in_event, turn_goes, wants_then}
use Rattle.controller.proofs.controllers.Controller.unheard_in_use.Goals as goal

pub returns-clause-goes : goal.returns-clause-goes
returns-clause-goes g c = λ setup past knows.
    let facts = facts_of setup past in
    let outcome = outcome_unheard facts in
    let passes = c.hear_nothing-doing.ensures.passes setup _ (at_facts setup _ past knows) in
    let in_event = next_in_event outcome _ passes.doing (unheard_in_event facts.turn.doing facts refl (always_in_event setup past)) in
    turn_goes setup past NothingHeard _ _ _ _ _ _ _ outcome
    tt refl refl c.requires.empty passes.notes passes.doing
    (record {
      at = c.prepare.ensures.at setup _ passes.at in_event;
      notes = c.prepare.ensures.notes setup _ passes.at in_event;
      wants = c.prepare.ensures.wanted setup _ passes.at in_event;
    })
    (c.prepare.ensures.stays.framer ∙ c.hear_nothing-doing.ensures.stays.framer) knows

pub returns-clause-wants : goal.returns-clause-wants
returns-clause-wants g c = λ setup past knows.
    let facts = facts_of setup past in
    let outcome = outcome_unheard facts in
    let passes = c.hear_nothing-doing.ensures.passes setup _ (at_facts setup _ past knows) in
    let in_event = next_in_event outcome _ passes.doing (unheard_in_event facts.turn.doing facts refl (always_in_event setup past)) in
    wants_then setup past NothingHeard _ _ _ _ _ outcome
    refl passes.doing
    (record {
      at = c.prepare.ensures.at setup _ passes.at in_event;
      notes = c.prepare.ensures.notes setup _ passes.at in_event;
      wants = c.prepare.ensures.wanted setup _ passes.at in_event;
    })
