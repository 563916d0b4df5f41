-- Proof of `orders::wrong_orders_of_turns_are_refused`.
use Rattle.std.proofs.Common.{[], ◌∷◌}
use Rattle.wrong_journals.proofs.Ordering.{other_before, twice}
use Rattle.wrong_journals.proofs.orders.wrong_orders_of_turns_are_refused.Goals as goal

pub returns : goal.returns
returns c = record { other = λ order. other_before (0x01 ∷ []) (0x01 ∷ []) order; twice = λ order. twice (0x01 ∷ []) (0x03 ∷ []) order }
