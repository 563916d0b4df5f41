-- Proof of `laws::a_load_has_a_schedule`.
use Rattle.radio_replay.proofs.LoadTurns.{load_changes, load_read, load_turns_count}
use Rattle.radio_replay.proofs.laws.a_load_has_a_schedule.Goals as goal

pub returns-clause-read : goal.returns-clause-read
returns-clause-read c = load_read

pub returns-clause-count : goal.returns-clause-count
returns-clause-count c = load_turns_count

pub returns-clause-unchanged : goal.returns-clause-unchanged
returns-clause-unchanged c = load_changes
