-- The proof of `counters_rise_by_one`.
use Rattle.enc_phase.proofs.Counting.{from_0_opened, from_0_sealed, rises_once, rises_range}
use Rattle.enc_phase.proofs.laws.counters_rise_by_one.Goals as goal

pub returns-clause-sealed : goal.returns-clause-sealed
returns-clause-sealed c = λ e session acts stays can. rises_range 0 _ (from_0_sealed e session acts stays can)

pub returns-clause-opened : goal.returns-clause-opened
returns-clause-opened c = λ e session acts stays can. rises_range 0 _ (from_0_opened e session acts stays can)

pub returns-clause-once : goal.returns-clause-once
returns-clause-once c = λ e session acts stays can i j counter. rises_once 0 _ i j counter (from_0_sealed e session acts stays can)
