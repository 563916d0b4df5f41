-- Proof of `runs::ends_hear_no_mixed_packet_while_their_journal_is_not_mixed`.
use Rattle.journal_acks.proofs.run_laws.InAgreement.{differs_back}
use Rattle.journal_acks.proofs.run_laws.SameEvent.{apart_ends}
use Rattle.journal_sealing.proofs.EndNumbers.{central_number, peripheral_number}
use Rattle.journal_sealing.proofs.UnmixedEnds.{KeysAreGiven, hears_no_mixed}
use Rattle.journal_sealing.proofs.runs.ends_hear_no_mixed_packet_while_their_journal_is_not_mixed.Goals as goal

pub returns : goal.returns
returns c = λ words given before rest central peripheral ends number stations six gives at in_central in_peripheral number_is unmixed.
    let whole = c.packet_tells_its_pdu.ensures.heard in
    let understood = c.a_pdu_is_understood.ensures.says in
    let taken = c.connections_are_taken.ensures.taken in
    let nth = c.searches_give_each_valid_address.ensures.valid in
    let apart = c.searches_give_each_valid_address.ensures.distinct in
    let keys : KeysAreGiven words given = λ front more sender channel octets hearings station handle link is_in at_packet is_open.
    c.the_keys_by_lines_are_those_that_the_end_holds.ensures.before_a_packet words given front more sender channel octets hearings station handle link stations six gives is_in
    at_packet is_open in
    let own = central_number understood taken apart given stations six before rest at central peripheral in_central in_peripheral ends number number_is in
    let far = peripheral_number understood taken apart given stations six before rest at central peripheral in_central in_peripheral ends number number_is in
    let differs = apart_ends before central peripheral ends in record {
      one_hears = hears_no_mixed words whole understood taken nth apart given stations six keys before rest at number unmixed central peripheral in_central in_peripheral differs
          own far;
      other_hears = hears_no_mixed words whole understood taken nth apart given stations six keys before rest at number unmixed peripheral central in_peripheral in_central
          (differs_back central.station peripheral.station differs) far own;
    }
