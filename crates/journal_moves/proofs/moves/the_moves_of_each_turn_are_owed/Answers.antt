-- Proof of `moves::the_moves_of_each_turn_are_owed`.
use Rattle.journal_wants.specs.Setups.{setups_of}
use Rattle.journal_moves.proofs.RunMoves.{moves_are_owed, nothing_is_owed, owed_where_stopped}
use Rattle.journal_moves.proofs.SaidInRuns.{said}
use Rattle.journal_moves.proofs.moves.the_moves_of_each_turn_are_owed.Goals as goal

pub returns-clause-aired : goal.returns-clause-aired
returns-clause-aired c words given two addresses gives links buffers =
    let whole = c.packet_tells_its_pdu.ensures.heard in
    let understood = c.a_pdu_is_understood.ensures.says in
    let taken = c.connections_are_taken.ensures.taken in
    let nth = c.searches_give_each_valid_address.ensures.valid in
    let apart = c.searches_give_each_valid_address.ensures.distinct in
    moves_are_owed words (setups_of given) whole understood taken nth apart given two
    (record { links = links }) addresses buffers
    (said words whole understood taken nth apart given two (record { links = links }) addresses gives buffers)

pub returns-clause-at_the_end : goal.returns-clause-at_the_end
returns-clause-at_the_end c words given history two addresses gives links buffers goes =
    let whole = c.packet_tells_its_pdu.ensures.heard in
    let understood = c.a_pdu_is_understood.ensures.says in
    let taken = c.connections_are_taken.ensures.taken in
    let nth = c.searches_give_each_valid_address.ensures.valid in
    let apart = c.searches_give_each_valid_address.ensures.distinct in
    nothing_is_owed words (setups_of given) whole understood taken nth apart given two
    (record { links = links }) addresses buffers
    (said words whole understood taken nth apart given two
    (record { links = links }) addresses gives buffers) history goes

pub returns-clause-stopped : goal.returns-clause-stopped
returns-clause-stopped c words given history stop two addresses gives links buffers stops =
    let whole = c.packet_tells_its_pdu.ensures.heard in
    let understood = c.a_pdu_is_understood.ensures.says in
    let taken = c.connections_are_taken.ensures.taken in
    let nth = c.searches_give_each_valid_address.ensures.valid in
    let apart = c.searches_give_each_valid_address.ensures.distinct in
    owed_where_stopped words (setups_of given) whole understood taken nth apart given two
    (record { links = links }) addresses buffers
    (said words whole understood taken nth apart given two
    (record { links = links }) addresses gives buffers) history stop stops
