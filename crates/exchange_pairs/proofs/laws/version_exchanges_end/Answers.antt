-- The proof of the law `version_exchanges_end`.
use Rattle.exchange_pairs.proofs.Versions.{known_then_idle, unsent_waits, sent_is_coming, still_answering, used_unknown}
use Rattle.exchange_pairs.proofs.laws.version_exchanges_end.Goals as goal

pub returns-clause-known : goal.returns-clause-known
returns-clause-known c = known_then_idle

pub returns-clause-unsent : goal.returns-clause-unsent
returns-clause-unsent c = unsent_waits

pub returns-clause-sent : goal.returns-clause-sent
returns-clause-sent c = sent_is_coming

pub returns-clause-answering : goal.returns-clause-answering
returns-clause-answering c = still_answering

pub returns-clause-used : goal.returns-clause-used
returns-clause-used c = used_unknown
