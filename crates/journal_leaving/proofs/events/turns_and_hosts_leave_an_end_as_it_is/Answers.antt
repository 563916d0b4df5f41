-- Proof of `events::turns_and_hosts_leave_an_end_as_it_is`.
use Rattle.journal_leaving.proofs.EventMoves.{feed_still, turn_still}
use Rattle.journal_leaving.proofs.events.turns_and_hosts_leave_an_end_as_it_is.Goals as goal

pub returns : goal.returns
returns c = record {
  turn = λ words side number slot radios history. turn_still words number side history slot radios;
  host = λ words side number station octets history. feed_still words number side history station octets;
}
