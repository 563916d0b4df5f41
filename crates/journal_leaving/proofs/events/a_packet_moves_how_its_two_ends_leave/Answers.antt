-- Proof of `events::a_packet_moves_how_its_two_ends_leave`.
use Rattle.journal_leaving.proofs.EventMoves.{forged_still, heard_moves, other_still, own_moves}
use Rattle.journal_leaving.proofs.events.a_packet_moves_how_its_two_ends_leave.Goals as goal

pub returns : goal.returns
returns c = record {
  sent = λ words side number station channel octets hearing history leaving own was. own_moves words number side history station channel octets hearing leaving own was;
  heard = λ words side number station channel slot octets heard hearing history leaving is was.
      heard_moves words number side history station channel octets hearing slot heard leaving is was;
  forged = λ words side number station channel octets hearing history leaving is was. forged_still words number side history station channel octets hearing leaving is was;
  neither = λ words side number station channel octets hearing history none own. other_still words number side history station channel octets hearing none own;
}
