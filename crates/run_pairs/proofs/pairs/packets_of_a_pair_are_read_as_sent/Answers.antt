-- The proof of the law `packets_of_a_pair_are_read_as_sent`.
use Rattle.std.proofs.Common.{refl}
use Rattle.link_calls.specs.run_model.Pair.{given_of}
use Rattle.link_calls.proofs.run_model.LinkEnds.{pair_addresses}
use Rattle.link_calls.proofs.run_model.Ordered.{pair_distinct}
use Rattle.run_pairs.proofs.pairs.packets_of_a_pair_are_read_as_sent.Goals as goal

pub returns : goal.returns
returns c = λ a b script before rest central peripheral long long_too is is_too at ends none_mixed is_open is_open_too.
    let given = given_of a b script in
    let distinct = pair_distinct a b script in
    let six = pair_addresses a b script long long_too in
    let hear = c.both_ends_hear_each_other_in_turns.ensures.hear given 0 1 before rest central peripheral refl distinct six is is_too at ends in
    c.packets_of_a_link_are_read_as_sent.ensures given before rest central peripheral distinct six is is_too at ends hear none_mixed is_open is_open_too
