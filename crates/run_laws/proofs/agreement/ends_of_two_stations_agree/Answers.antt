-- Proof of `agreement::ends_of_two_stations_agree`.
use Rattle.run_laws.proofs.agreement.ends_of_two_stations_agree.Goals as goal

pub returns-clause-shapes : goal.returns-clause-shapes
returns-clause-shapes c = λ given one other before rest central peripheral stations distinct six is is_too at ends is_open is_open_too.
    let hear = c.both_ends_hear_each_other.ensures given one other before rest central peripheral stations distinct six is is_too at ends in
    c.ends_that_hear_each_other_agree.ensures.shapes given before rest central peripheral distinct six is is_too at ends hear is_open is_open_too

pub returns-clause-agreement : goal.returns-clause-agreement
returns-clause-agreement c = λ given one other before rest central peripheral stations distinct six is is_too at ends reads is_open is_open_too.
    let hear = c.both_ends_hear_each_other.ensures given one other before rest central peripheral stations distinct six is is_too at ends in
    c.ends_that_hear_each_other_agree.ensures.agreement given before rest central peripheral distinct six is is_too at ends hear reads is_open is_open_too

pub returns-clause-delivery : goal.returns-clause-delivery
returns-clause-delivery c = λ given one other before rest central peripheral stations distinct six is is_too at ends reads is_open is_open_too.
    let hear = c.both_ends_hear_each_other.ensures given one other before rest central peripheral stations distinct six is is_too at ends in
    c.ends_that_hear_each_other_agree.ensures.delivery given before rest central peripheral distinct six is is_too at ends hear reads is_open is_open_too
