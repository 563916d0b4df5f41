-- Proof of `turns::a_call_that_begins_a_turn_keeps_the_control_part_that_fixes`.
use Rattle.journal_controls.specs.link_model.End.{facts_of}
use Rattle.journal_fixing.proofs.TurnFixing.{begun_fixes}
use Rattle.journal_fixing.proofs.turns.a_call_that_begins_a_turn_keeps_the_control_part_that_fixes.Goals as goal

pub returns : goal.returns
returns c = λ words given side number station slot call history setup past enters fixes sends in_turn lines turn none was.
    begun_fixes words side number slot given station call history setup (facts_of setup past) enters fixes sends in_turn lines turn none was
