-- The proof of the law `a_gap_tells_whether_an_instant_has_passed`.
use Rattle.collisions.proofs.Gaps.{gap_ahead, gap_passed}
use Rattle.collisions.proofs.laws.a_gap_tells_whether_an_instant_has_passed.Goals as goal

pub returns-clause-ahead : goal.returns-clause-ahead
returns-clause-ahead c = λ moves comes less. (gap_ahead moves comes less).0

pub returns-clause-near : goal.returns-clause-near
returns-clause-near c = λ moves comes less. (gap_ahead moves comes less).1

pub returns-clause-passed : goal.returns-clause-passed
returns-clause-passed c = gap_passed
