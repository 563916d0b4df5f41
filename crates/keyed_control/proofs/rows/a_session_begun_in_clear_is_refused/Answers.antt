-- The proof of the rows `a_session_begun_in_clear_is_refused`: the phase stays Clear.
use Rattle.std.proofs.Common.{◌≡◌}
use Rattle.phased_control.specs.enc_phase.declared.facts.PhaseFacts.{PhaseFacts}
use Rattle.phased_control.specs.enc_phase.declared.facts.PhaseFacts.TheVariants.{Clear, HalfKeyed}
use Rattle.keyed_control.proofs.rows.a_session_begun_in_clear_is_refused.Goals as goal

clear_half : ◌≡◌ {A = PhaseFacts} Clear HalfKeyed → ⊥
clear_half same = absurd (cc)

pub returns-clause-central : goal.returns-clause-central
returns-clause-central c map same = clear_half same

pub returns-clause-peripheral : goal.returns-clause-peripheral
returns-clause-peripheral c map same = clear_half same
