-- The proof of the law `each_move_sends_or_takes_at_most_one`.
use Rattle.collision_steps.proofs.Untaken.{each_move, finds_none, finds_sent}
use Rattle.collision_steps.proofs.ways.each_move_sends_or_takes_at_most_one.Goals as goal

pub returns-clause-ways : goal.returns-clause-ways
returns-clause-ways g c = λ part move s may. each_move part move s may

pub returns-clause-sends : goal.returns-clause-sends
returns-clause-sends g c = λ part move s may. finds_none part move s may

pub returns-clause-takes : goal.returns-clause-takes
returns-clause-takes g c = λ move s may. finds_sent move s may
