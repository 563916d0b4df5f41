-- The proof of the law `transitions_are_changes_of_bits`.
use Rattle.std.proofs.Common.{sym}
use Rattle.scan_init.proofs.Bits.{bits_are_counted}
use Rattle.scan_init.proofs.Transitions.{transition_at, seven_differ}
use Rattle.scan_init.proofs.laws.transitions_are_changes_of_bits.Goals as goal

pub returns-clause-place : goal.returns-clause-place
returns-clause-place c = transition_at

pub returns-clause-count : goal.returns-clause-count
returns-clause-count c = λ bits h. sym (bits_are_counted bits h)

pub returns-clause-seven : goal.returns-clause-seven
returns-clause-seven c = seven_differ
