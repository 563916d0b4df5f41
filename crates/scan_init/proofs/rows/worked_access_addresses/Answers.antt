-- The worked examples of `rows::worked_access_addresses`.
use Rattle.std.proofs.Common.{refl}
use Rattle.scan_init.specs.Access.{bit_count, is_valid_access, next_access_of}
use Rattle.scan_init.proofs.rows.worked_access_addresses.Goals as goal

pub returns-clause-valid : goal.returns-clause-valid
unfolding is_valid_access next_access_of bit_count
returns-clause-valid c = refl

pub returns-clause-not_valid : goal.returns-clause-not_valid
unfolding is_valid_access next_access_of bit_count
returns-clause-not_valid c = refl

pub returns-clause-first : goal.returns-clause-first
unfolding is_valid_access next_access_of bit_count
returns-clause-first c = refl

pub returns-clause-second : goal.returns-clause-second
unfolding is_valid_access next_access_of bit_count
returns-clause-second c = refl

pub returns-clause-third : goal.returns-clause-third
unfolding is_valid_access next_access_of bit_count
returns-clause-third c = refl

pub returns-clause-passed_over : goal.returns-clause-passed_over
unfolding is_valid_access next_access_of bit_count
returns-clause-passed_over c = refl

pub returns-clause-last : goal.returns-clause-last
unfolding is_valid_access next_access_of bit_count
returns-clause-last c = refl

pub returns-clause-none : goal.returns-clause-none
unfolding is_valid_access next_access_of bit_count
returns-clause-none c = refl
