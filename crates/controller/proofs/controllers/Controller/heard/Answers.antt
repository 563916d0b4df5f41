-- Proof of `controllers::Controller::heard`.
use Rattle.std.proofs.Common.{refl, ◌∙◌}
use Rattle.controller_model.specs.Side.{facts_of, outcome_heard}
use Rattle.controller_model.specs.Step.{PacketHeard}
use Rattle.controller_model.proofs.Exchanges.{always_in_event, heard_in_event}
use Rattle.controller.proofs.Going.{at_facts, next_in_event, prepares_again, turn_goes, wants_then}
use Rattle.controller.proofs.controllers.Controller.heard.Goals as goal

pub returns-clause-goes : goal.returns-clause-goes
returns-clause-goes g c = λ setup past knows.
    let facts = facts_of setup past in
    let outcome = outcome_heard setup c.args.octets.now facts in
    let before = always_in_event setup past in
    let passes = c.hear-doing.ensures.passes setup _ (at_facts setup _ past knows) before in
    let in_event = next_in_event outcome _ passes.doing (heard_in_event setup facts.turn.doing c.args.octets.now facts refl before) in
    turn_goes setup past (PacketHeard c.args.octets.now) _ _ _ _ _ _ _ outcome
    tt refl refl c.requires.empty passes.notes passes.doing
    (prepares_again setup _ _ _ _ _ _
    (record {
      at = c.prepare.ensures.at setup _ passes.at in_event;
      notes = c.prepare.ensures.notes setup _ passes.at in_event;
      wants = c.prepare.ensures.wanted setup _ passes.at in_event;
    }))
    (c.prepare.ensures.stays.framer ∙ c.hear-doing.ensures.framer) knows

pub returns-clause-wants : goal.returns-clause-wants
returns-clause-wants g c = λ setup past knows.
    let facts = facts_of setup past in
    let outcome = outcome_heard setup c.args.octets.now facts in
    let before = always_in_event setup past in
    let passes = c.hear-doing.ensures.passes setup _ (at_facts setup _ past knows) before in
    let in_event = next_in_event outcome _ passes.doing (heard_in_event setup facts.turn.doing c.args.octets.now facts refl before) in
    wants_then setup past (PacketHeard c.args.octets.now) _ _ _ _ _ outcome
    refl passes.doing
    (prepares_again setup _ _ _ _ _ _
    (record {
      at = c.prepare.ensures.at setup _ passes.at in_event;
      notes = c.prepare.ensures.notes setup _ passes.at in_event;
      wants = c.prepare.ensures.wanted setup _ passes.at in_event;
    }))
