-- The proof of the law `ends_of_a_pair_are_linked`.
use Rattle.std.proofs.Common.{[], ◌∷◌, refl}
use Rattle.link_calls.specs.run_model.Pair.{given_of}
use Rattle.link_calls.proofs.run_model.LinkEnds.{pair_addresses}
use Rattle.link_calls.proofs.run_model.Ordered.{pair_distinct}
use Rattle.link_calls.specs.run_model.History.{TurnBegan}
use Rattle.run_pairs.proofs.CallPlaces.{whole_history}
use Rattle.run_pairs.proofs.pairs.ends_of_a_pair_are_linked.Goals as goal

pub returns-clause-before_a_turn : goal.returns-clause-before_a_turn
returns-clause-before_a_turn c = λ a b script before rest slot radios central peripheral long long_too is is_too at ends none_mixed is_open is_open_too.
    let given = given_of a b script in
    let distinct = pair_distinct a b script in
    let six = pair_addresses a b script long long_too in
    let hear = c.both_ends_hear_each_other_in_turns.ensures.hear given 0 1 before (TurnBegan slot radios ∷ rest) central peripheral refl distinct six is is_too at ends in
    c.open_ends_are_linked.ensures.before_a_turn given before rest slot radios central peripheral distinct six is is_too at ends hear none_mixed is_open is_open_too

pub returns-clause-at_the_end : goal.returns-clause-at_the_end
returns-clause-at_the_end c = λ a b script history central peripheral long long_too is is_too goes ends none_mixed is_open is_open_too.
    let given = given_of a b script in
    let distinct = pair_distinct a b script in
    let six = pair_addresses a b script long long_too in
    let hear = c.both_ends_hear_each_other_in_turns.ensures.hear given 0 1 history [] central peripheral refl distinct six is is_too (whole_history given history goes) ends in
    c.open_ends_are_linked.ensures.at_the_end given history central peripheral distinct six is is_too goes ends hear none_mixed is_open is_open_too
