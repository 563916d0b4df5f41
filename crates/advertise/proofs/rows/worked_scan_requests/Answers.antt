-- The worked examples of `rows::worked_scan_requests`.
use Rattle.std.proofs.Common.{refl}
use Rattle.advertise.proofs.rows.worked_scan_requests.Goals as goal

pub returns-clause-types : goal.returns-clause-types
returns-clause-types c = refl

pub returns-clause-to_another : goal.returns-clause-to_another
returns-clause-to_another c = refl

pub returns-clause-listed : goal.returns-clause-listed
returns-clause-listed c = refl

pub returns-clause-unlisted : goal.returns-clause-unlisted
returns-clause-unlisted c = refl
