-- The proof of the law `other_pdus_may_be_left_out`.
use Rattle.collision_steps.proofs.SubLists.{kept_comes, run_part}
use Rattle.collision_steps.proofs.laws.other_pdus_may_be_left_out.Goals as goal

pub returns-clause-comes : goal.returns-clause-comes
returns-clause-comes g c = λ keeps move s comes kept. kept_comes keeps move s comes kept

pub returns-clause-run : goal.returns-clause-run
returns-clause-run g c = λ keeps s moves. run_part keeps s moves
