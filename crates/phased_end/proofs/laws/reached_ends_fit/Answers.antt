-- The proof of the law `reached_ends_fit`.
use Rattle.phased_end.proofs.Reached.{fits_now, reached_fits}
use Rattle.phased_end.proofs.laws.reached_ends_fit.Goals as goal

pub returns-clause-steps : goal.returns-clause-steps
returns-clause-steps c = fits_now

pub returns-clause-reached : goal.returns-clause-reached
returns-clause-reached c = reached_fits
