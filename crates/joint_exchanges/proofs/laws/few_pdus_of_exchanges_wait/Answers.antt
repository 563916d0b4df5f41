-- The proof of the law `few_pdus_of_exchanges_wait`.
use Rattle.joint_exchanges.proofs.Few.{exchange_few, version_few}
use Rattle.joint_exchanges.proofs.laws.few_pdus_of_exchanges_wait.Goals as goal

pub returns-clause-asked : goal.returns-clause-asked
returns-clause-asked c = λ central_rx peripheral_rx first slot steps asked role on. exchange_few central_rx peripheral_rx first slot steps on asked role

pub returns-clause-version : goal.returns-clause-version
returns-clause-version c = λ central_rx peripheral_rx first slot steps role on. version_few central_rx peripheral_rx first slot steps on role
