-- Proof of `laws::every_schedule_is_read`.
use Rattle.radio_replay.proofs.SpelledSchedule.{schedule_of-schedule_text}
use Rattle.radio_replay.proofs.laws.every_schedule_is_read.Goals as goal

pub returns : goal.returns
returns c = schedule_of-schedule_text
