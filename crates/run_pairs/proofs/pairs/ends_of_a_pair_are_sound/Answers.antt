-- The proof of the law `ends_of_a_pair_are_sound`.
use Rattle.std.proofs.Common.{[], ◌∷◌, refl}
use Rattle.link_calls.specs.run_model.Pair.{given_of}
use Rattle.link_calls.proofs.run_model.LinkEnds.{pair_addresses}
use Rattle.link_calls.proofs.run_model.Ordered.{pair_distinct}
use Rattle.link_calls.specs.run_model.History.{TurnBegan}
use Rattle.run_pairs.proofs.CallPlaces.{whole_history}
use Rattle.run_pairs.proofs.pairs.ends_of_a_pair_are_sound.Goals as goal

pub returns-clause-before_a_turn : goal.returns-clause-before_a_turn
returns-clause-before_a_turn c = λ a b script before rest slot radios central peripheral long long_too is is_too at ends none_mixed is_open is_open_too c_lasts p_lasts.
    let given = given_of a b script in
    let distinct = pair_distinct a b script in
    let six = pair_addresses a b script long long_too in
    let hear = c.both_ends_hear_each_other_in_turns.ensures.hear given 0 1 before (TurnBegan slot radios ∷ rest) central peripheral refl distinct six is is_too at ends in
    c.ends_that_last_are_sound.ensures.before_a_turn given before rest slot radios central peripheral distinct six is is_too at ends hear none_mixed is_open is_open_too c_lasts p_lasts

pub returns-clause-at_the_end : goal.returns-clause-at_the_end
returns-clause-at_the_end c = λ a b script history central peripheral long long_too is is_too goes ends none_mixed is_open is_open_too c_lasts p_lasts.
    let given = given_of a b script in
    let distinct = pair_distinct a b script in
    let six = pair_addresses a b script long long_too in
    let hear = c.both_ends_hear_each_other_in_turns.ensures.hear given 0 1 history [] central peripheral refl distinct six is is_too (whole_history given history goes) ends in
    c.ends_that_last_are_sound.ensures.at_the_end given history central peripheral distinct six is is_too goes ends hear none_mixed is_open is_open_too c_lasts p_lasts

pub returns-clause-agreement : goal.returns-clause-agreement
returns-clause-agreement c = λ a b script before rest central peripheral long long_too is is_too at ends none_mixed is_open is_open_too.
    let given = given_of a b script in
    let distinct = pair_distinct a b script in
    let six = pair_addresses a b script long long_too in
    let hear = c.both_ends_hear_each_other_in_turns.ensures.hear given 0 1 before rest central peripheral refl distinct six is is_too at ends in
    c.ends_that_last_are_sound.ensures.agreement given before rest central peripheral distinct six is is_too at ends hear none_mixed is_open is_open_too

pub returns-clause-delivery : goal.returns-clause-delivery
returns-clause-delivery c = λ a b script before rest central peripheral long long_too is is_too at ends none_mixed is_open is_open_too.
    let given = given_of a b script in
    let distinct = pair_distinct a b script in
    let six = pair_addresses a b script long long_too in
    let hear = c.both_ends_hear_each_other_in_turns.ensures.hear given 0 1 before rest central peripheral refl distinct six is is_too at ends in
    c.ends_that_last_are_sound.ensures.delivery given before rest central peripheral distinct six is is_too at ends hear none_mixed is_open is_open_too

pub returns-clause-procedures : goal.returns-clause-procedures
returns-clause-procedures c = λ a b script before rest central peripheral long long_too is is_too at ends none_mixed is_open is_open_too.
    let given = given_of a b script in
    let distinct = pair_distinct a b script in
    let six = pair_addresses a b script long long_too in
    let hear = c.both_ends_hear_each_other_in_turns.ensures.hear given 0 1 before rest central peripheral refl distinct six is is_too at ends in
    c.no_procedure_ends_a_link_but_a_late_one.ensures.procedures given before rest central peripheral distinct six is is_too at ends hear none_mixed is_open is_open_too

pub returns-clause-codes : goal.returns-clause-codes
returns-clause-codes c = λ a b script before rest central peripheral long long_too is is_too at ends none_mixed is_open is_open_too.
    let given = given_of a b script in
    let distinct = pair_distinct a b script in
    let six = pair_addresses a b script long long_too in
    let hear = c.both_ends_hear_each_other_in_turns.ensures.hear given 0 1 before rest central peripheral refl distinct six is is_too at ends in
    c.no_procedure_ends_a_link_but_a_late_one.ensures.codes given before rest central peripheral distinct six is is_too at ends hear none_mixed is_open is_open_too
