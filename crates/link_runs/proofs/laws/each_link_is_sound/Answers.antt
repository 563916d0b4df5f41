-- The proof of the law `each_link_is_sound`.
use Rattle.link_runs.proofs.ByTurns.{agreed_by_turns, late_by_turns, sound_by_turns}
use Rattle.link_runs.proofs.Shutting.{are_terminated, due_by_time}
use Rattle.link_runs.proofs.laws.each_link_is_sound.Goals as goal

pub returns-clause-agreement : goal.returns-clause-agreement
returns-clause-agreement g =
    λ central peripheral turns c p ends may. agreed_by_turns central peripheral g.packet_tells_its_pdu.ensures.heard g.a_sealed_packet_is_opened.ensures.opened ends turns c p may

pub returns-clause-ends : goal.returns-clause-ends
returns-clause-ends g =
    λ central peripheral turns c p ends may. sound_by_turns central peripheral g.packet_tells_its_pdu.ensures.heard g.a_sealed_packet_is_opened.ensures.opened ends turns c p may

pub returns-clause-procedures : goal.returns-clause-procedures
returns-clause-procedures g =
    λ central peripheral turns given ends may. late_by_turns central peripheral g.packet_tells_its_pdu.ensures.heard g.a_sealed_packet_is_opened.ensures.opened ends turns given may

pub returns-clause-codes : goal.returns-clause-codes
returns-clause-codes g =
    λ central peripheral turns given ends may unmixed next unmixed_next.
    are_terminated _ _
    (late_by_turns central peripheral g.packet_tells_its_pdu.ensures.heard g.a_sealed_packet_is_opened.ensures.opened ends turns given may unmixed next unmixed_next)

pub returns-clause-timeouts : goal.returns-clause-timeouts
returns-clause-timeouts g = due_by_time
