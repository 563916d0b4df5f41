-- Proof of `agreement::ends_stay_in_agreement_in_every_run`.
use Rattle.std.proofs.Common.{refl}
use Rattle.run_model.specs.Pair.{given_of}
use Rattle.run_model.proofs.LinkEnds.{pair_addresses}
use Rattle.run_model.proofs.Ordered.{pair_distinct}
use Rattle.run_laws.proofs.agreement.ends_stay_in_agreement_in_every_run.Goals as goal

pub returns-clause-shapes : goal.returns-clause-shapes
returns-clause-shapes c = λ a b script before rest central peripheral six six_too is is_too at ends is_open is_open_too.
    c.ends_of_two_stations_agree.ensures.shapes (given_of a b script) 0 1 before rest central peripheral refl (pair_distinct a b script)
    (pair_addresses a b script six six_too) is is_too at ends is_open is_open_too

pub returns-clause-agreement : goal.returns-clause-agreement
returns-clause-agreement c = λ a b script before rest central peripheral six six_too is is_too at ends reads is_open is_open_too.
    c.ends_of_two_stations_agree.ensures.agreement (given_of a b script) 0 1 before rest central peripheral refl (pair_distinct a b script)
    (pair_addresses a b script six six_too) is is_too at ends reads is_open is_open_too
