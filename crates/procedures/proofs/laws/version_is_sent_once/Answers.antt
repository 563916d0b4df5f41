-- LL_VERSION_IND is queued once.
use Rattle.procedures.proofs.Versions.{sent_once}
use Rattle.procedures.proofs.laws.version_is_sent_once.Goals as goal

pub returns : goal.returns
returns c = sent_once
