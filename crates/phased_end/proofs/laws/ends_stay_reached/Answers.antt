-- The proof of the law `ends_stay_reached`.
use Rattle.std.proofs.Common.{refl}
use Rattle.phased_end.proofs.Reached.{begins_reached, forged_reached, reached_after}
use Rattle.phased_end.proofs.laws.ends_stay_reached.Goals as goal

pub returns-clause-new : goal.returns-clause-new
returns-clause-new c = begins_reached

pub returns-clause-step : goal.returns-clause-step
returns-clause-step c = reached_after

pub returns-clause-forged : goal.returns-clause-forged
returns-clause-forged c h r = forged_reached h _ refl r
