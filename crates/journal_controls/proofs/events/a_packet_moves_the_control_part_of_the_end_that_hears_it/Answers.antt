-- Proof of `events::a_packet_moves_the_control_part_of_the_end_that_hears_it`.
use Rattle.journal_controls.proofs.EventMoves.{forged_moves, heard_moves, unheard_still}
use Rattle.journal_controls.proofs.events.a_packet_moves_the_control_part_of_the_end_that_hears_it.Goals as goal

pub returns : goal.returns
returns c = record {
  heard = λ words side number station channel slot octets heard hearing history k is was.
      heard_moves words number side history station channel octets hearing slot heard k is was;
  forged = λ words side number station channel octets hearing history k is was.
      forged_moves words number side history station channel octets hearing k is was;
  unheard = λ words side number station channel octets hearing history none. unheard_still words number side history station channel octets hearing none;
}
