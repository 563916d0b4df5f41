-- The proof of the law `keyed_steps_keep_lengths`.
use Rattle.phased_end.proofs.Sized.{reached_keeps, reached_lengths, stays_sized}
use Rattle.phased_end.proofs.laws.keyed_steps_keep_lengths.Goals as goal

pub returns-clause-lengths : goal.returns-clause-lengths
returns-clause-lengths c step h may kept has = (stays_sized step h may (has, kept)).0

pub returns-clause-kept : goal.returns-clause-kept
returns-clause-kept c step h may kept has = (stays_sized step h may (has, kept)).1

pub returns-clause-reached : goal.returns-clause-reached
returns-clause-reached c = reached_lengths

pub returns-clause-kept_reached : goal.returns-clause-kept_reached
returns-clause-kept_reached c = reached_keeps
