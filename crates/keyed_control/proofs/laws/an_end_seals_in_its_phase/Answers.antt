-- The proof of the law `an_end_seals_in_its_phase`.
use Rattle.keyed_control.proofs.Phases.{phase_now, role_now_too}
use Rattle.keyed_control.proofs.laws.an_end_seals_in_its_phase.Goals as goal

pub returns-clause-phase : goal.returns-clause-phase
returns-clause-phase c = phase_now

pub returns-clause-role : goal.returns-clause-role
returns-clause-role c = role_now_too
