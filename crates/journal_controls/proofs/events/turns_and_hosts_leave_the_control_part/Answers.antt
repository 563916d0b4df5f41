-- Proof of `events::turns_and_hosts_leave_the_control_part`.
use Rattle.journal_controls.proofs.EventMoves.{feed_still, turn_still}
use Rattle.journal_controls.proofs.events.turns_and_hosts_leave_the_control_part.Goals as goal

pub returns : goal.returns
returns c = record {
  turn = λ words side number slot radios history. turn_still words number side history slot radios;
  host = λ words side number station octets history. feed_still words number side history station octets;
}
