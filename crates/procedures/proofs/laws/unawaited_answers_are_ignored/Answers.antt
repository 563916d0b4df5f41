-- Such a PDU leaves everything as it is.
use Rattle.procedures.proofs.Unawaited.{unawaited}
use Rattle.procedures.proofs.laws.unawaited_answers_are_ignored.Goals as goal

pub returns : goal.returns
returns c = unawaited
