-- The proof of the law `links_stay_linked_turn_by_turn`.
use Rattle.link_runs.proofs.ByTurns.{linked_by_turns, open_by_turns}
use Rattle.link_runs.proofs.laws.links_stay_linked_turn_by_turn.Goals as goal

pub returns-clause-open_ends : goal.returns-clause-open_ends
returns-clause-open_ends g =
    λ central peripheral turns c p ends may. open_by_turns central peripheral g.packet_tells_its_pdu.ensures.heard g.a_sealed_packet_is_opened.ensures.opened ends turns c p may

pub returns-clause-lasting : goal.returns-clause-lasting
returns-clause-lasting g =
    λ central peripheral turns c p ends may. linked_by_turns central peripheral g.packet_tells_its_pdu.ensures.heard g.a_sealed_packet_is_opened.ensures.opened ends turns c p may
