-- Proof of `laws::an_advertiser_keeps_its_interval`.
use Rattle.controller_model.proofs.Accepted.{long_set}
use Rattle.controller_model.proofs.LeftOn.{keeps_interval, left_alone}
use Rattle.controller_model.proofs.Lengths.{always_long}
use Rattle.controller_model.proofs.laws.an_advertiser_keeps_its_interval.Goals as goal

pub returns-clause-slots : goal.returns-clause-slots
returns-clause-slots c = keeps_interval

pub returns-clause-left_alone : goal.returns-clause-left_alone
returns-clause-left_alone c = left_alone

pub returns-clause-may_be_set : goal.returns-clause-may_be_set
returns-clause-may_be_set c = long_set

pub returns-clause-at_any_time : goal.returns-clause-at_any_time
returns-clause-at_any_time c = always_long
