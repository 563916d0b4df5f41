-- Proof of `runs::a_station_draws_what_its_lines_say`.
use Rattle.journal_words.proofs.RunWords.{worded_before}
use Rattle.journal_words.proofs.runs.a_station_draws_what_its_lines_say.Goals as goal

pub returns : goal.returns
returns c =
    let whole = c.packet_tells_its_pdu.ensures.heard in
    let understood = c.a_pdu_is_understood.ensures.says in
    let taken = c.connections_are_taken.ensures.taken in
    let nth = c.searches_give_each_valid_address.ensures.valid in
    let apart = c.searches_give_each_valid_address.ensures.distinct in
    λ given before rest call station are six contains draws at. (worded_before whole understood taken nth apart given are six before rest station call draws at).count
