-- Proof of `laws::an_end_goes_by_its_steps`.
use Rattle.link_model.proofs.KeyedPasts.{keeps_role, past_goes, past_in_phase, past_in_range, steps_grow}
use Rattle.link_model.proofs.KeyedSteps.{forged_ends, one_step}
use Rattle.link_model.proofs.laws.an_end_goes_by_its_steps.Goals as goal

pub returns-clause-step : goal.returns-clause-step
returns-clause-step c = one_step

pub returns-clause-forged : goal.returns-clause-forged
returns-clause-forged c = forged_ends

pub returns-clause-past : goal.returns-clause-past
returns-clause-past c = past_goes

pub returns-clause-grows : goal.returns-clause-grows
returns-clause-grows c = steps_grow

pub returns-clause-in_range : goal.returns-clause-in_range
returns-clause-in_range c = past_in_range

pub returns-clause-role : goal.returns-clause-role
returns-clause-role c = keeps_role

pub returns-clause-phase : goal.returns-clause-phase
returns-clause-phase c = past_in_phase
