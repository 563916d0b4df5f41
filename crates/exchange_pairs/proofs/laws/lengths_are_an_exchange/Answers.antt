-- The proof of the law `lengths_are_an_exchange`.
use Rattle.std.proofs.Common.{refl}
use Rattle.exchange_pairs.proofs.LengthParts.{begun_end, parts, sent_ends, taken_ends}
use Rattle.exchange_pairs.proofs.laws.lengths_are_an_exchange.Goals as goal

pub returns-clause-run : goal.returns-clause-run
returns-clause-run c = λ central_rx peripheral_rx events. parts central_rx peripheral_rx events

pub returns-clause-begun : goal.returns-clause-begun
returns-clause-begun c = begun_end

pub returns-clause-sent : goal.returns-clause-sent
returns-clause-sent c = sent_ends

pub returns-clause-taken : goal.returns-clause-taken
returns-clause-taken c = taken_ends

pub returns-clause-refused : goal.returns-clause-refused
returns-clause-refused c = λ e. refl

pub returns-clause-terminated : goal.returns-clause-terminated
returns-clause-terminated c = λ e. refl

pub returns-clause-limited : goal.returns-clause-limited
returns-clause-limited c = λ e tx. refl
