-- The proof of `clear_directions_have_counter_0`.
use Rattle.std.proofs.Common.{refl}
use Rattle.enc_phase.specs.declared.facts.PhaseFacts.TheVariants.{Clear}
use Rattle.enc_phase.specs.Sealing.{clear_end}
use Rattle.enc_phase.proofs.Following.{acts_zero}
use Rattle.enc_phase.proofs.laws.clear_directions_have_counter_0.Goals as goal

pub returns-clause-sent : goal.returns-clause-sent
returns-clause-sent c = λ role acts can.
    (acts_zero acts (clear_end role Clear) (record { sent = λ h. refl; opened = λ h. refl })).sent

pub returns-clause-opened : goal.returns-clause-opened
returns-clause-opened c = λ role acts can.
    (acts_zero acts (clear_end role Clear) (record { sent = λ h. refl; opened = λ h. refl })).opened
