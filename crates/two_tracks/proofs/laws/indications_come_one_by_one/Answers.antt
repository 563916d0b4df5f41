-- The proof of the law `indications_come_one_by_one`.
use Rattle.two_tracks.proofs.Read.{central_free, near, passed_where_late, peripheral_free, same}
use Rattle.two_tracks.proofs.laws.indications_come_one_by_one.Goals as goal

pub returns-clause-central : goal.returns-clause-central
returns-clause-central c = central_free

pub returns-clause-peripheral : goal.returns-clause-peripheral
returns-clause-peripheral c = peripheral_free

pub returns-clause-same : goal.returns-clause-same
returns-clause-same c = same

pub returns-clause-passed : goal.returns-clause-passed
returns-clause-passed c = passed_where_late

pub returns-clause-near : goal.returns-clause-near
returns-clause-near c = near
