-- The worked examples of `rows::worked_connections`.
use Rattle.std.proofs.Common.{refl}
use Rattle.scan_init.proofs.rows.worked_connections.Goals as goal

pub returns-clause-named : goal.returns-clause-named
returns-clause-named c = refl

pub returns-clause-listed : goal.returns-clause-listed
returns-clause-listed c = refl

pub returns-clause-hops : goal.returns-clause-hops
returns-clause-hops c = refl

pub returns-clause-crc_inits : goal.returns-clause-crc_inits
returns-clause-crc_inits c = refl
