-- Proof of `controllers::Controller::begin_turn`.
use Rattle.std.proofs.Common.{refl, ◌∙◌}
use Rattle.controller_model.specs.Radio.{outcome_begun}
use Rattle.controller_model.specs.Side.{facts_of}
use Rattle.controller_model.specs.Step.{TurnBegins}
use Rattle.controller_model.proofs.Exchanges.{exchange_has_entered}
use Rattle.controller.proofs.Going.{at_facts, next_in_event, turn_goes, wants_then}
use Rattle.controller.proofs.controllers.Controller.begin_turn.Goals as goal

pub returns-clause-goes : goal.returns-clause-goes
returns-clause-goes g c = λ setup past knows.
    let facts = facts_of setup past in
    let outcome = outcome_begun c.args.slot.0 c.args.radio_on facts in
    let passes = c.begin-doing.ensures.passes setup _ (at_facts setup _ past knows) in
    let in_event = next_in_event outcome _ passes.doing (exchange_has_entered c.args.slot.0 c.args.radio_on facts) in
    turn_goes setup past (TurnBegins c.args.slot.0 c.args.radio_on) _ _ _ _ _ _ _ outcome
    tt refl refl c.requires.empty passes.notes passes.doing
    (record {
      at = c.prepare.ensures.at setup _ passes.at in_event;
      notes = c.prepare.ensures.notes setup _ passes.at in_event;
      wants = c.prepare.ensures.wanted setup _ passes.at in_event;
    })
    (c.prepare.ensures.stays.framer ∙ c.begin-doing.ensures.framer) knows

pub returns-clause-wants : goal.returns-clause-wants
returns-clause-wants g c = λ setup past knows.
    let facts = facts_of setup past in
    let outcome = outcome_begun c.args.slot.0 c.args.radio_on facts in
    let passes = c.begin-doing.ensures.passes setup _ (at_facts setup _ past knows) in
    let in_event = next_in_event outcome _ passes.doing (exchange_has_entered c.args.slot.0 c.args.radio_on facts) in
    wants_then setup past (TurnBegins c.args.slot.0 c.args.radio_on) _ _ _ _ _ outcome
    refl passes.doing
    (record {
      at = c.prepare.ensures.at setup _ passes.at in_event;
      notes = c.prepare.ensures.notes setup _ passes.at in_event;
      wants = c.prepare.ensures.wanted setup _ passes.at in_event;
    })
