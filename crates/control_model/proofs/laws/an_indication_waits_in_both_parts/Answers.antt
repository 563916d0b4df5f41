-- The proof of the law `an_indication_waits_in_both_parts`.
use Rattle.control_model.proofs.Waiting.{another_map, another_map_leaves, another_update, free, over_in_both, same_kind}
use Rattle.control_model.proofs.laws.an_indication_waits_in_both_parts.Goals as goal

pub returns-clause-same : goal.returns-clause-same
returns-clause-same c = same_kind

pub returns-clause-free : goal.returns-clause-free
returns-clause-free c = free

pub returns-clause-over : goal.returns-clause-over
returns-clause-over c = over_in_both

pub returns-clause-second_update : goal.returns-clause-second_update
returns-clause-second_update c = another_update

pub returns-clause-second_map : goal.returns-clause-second_map
returns-clause-second_map c = another_map

pub returns-clause-second_map_leaves : goal.returns-clause-second_map_leaves
returns-clause-second_map_leaves c = another_map_leaves
