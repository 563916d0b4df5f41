-- Proof of `laws::a_run_is_plain_turns`.
use Rattle.radio_replay.proofs.SpelledSchedule.{line_turns-run}
use Rattle.radio_replay.proofs.laws.a_run_is_plain_turns.Goals as goal

pub returns : goal.returns
returns c = line_turns-run
