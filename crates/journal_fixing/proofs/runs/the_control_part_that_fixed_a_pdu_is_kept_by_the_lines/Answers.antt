-- Proof of `runs::the_control_part_that_fixed_a_pdu_is_kept_by_the_lines`.
use Rattle.journal_controls.proofs.run_model.Stations.{contains_in}
use Rattle.journal_fixing.proofs.RunFixing.{fixing_before_packet, fixing_before_phase}
use Rattle.journal_fixing.proofs.runs.the_control_part_that_fixed_a_pdu_is_kept_by_the_lines.Goals as goal

pub returns : goal.returns
returns c =
    let whole = c.packet_tells_its_pdu.ensures.heard in
    let understood = c.a_pdu_is_understood.ensures.says in
    let taken = c.connections_are_taken.ensures.taken in
    let nth = c.searches_give_each_valid_address.ensures.valid in
    let apart = c.searches_give_each_valid_address.ensures.distinct in record {
      before_a_packet = λ words given before rest sender channel octets hearings station handle link are six gives contains at is_open uses.
          fixing_before_packet words whole understood taken nth apart given are six gives before rest sender channel octets hearings at station (contains_in given.stations station contains)
          handle link is_open uses;
      before_a_phase = λ words given before rest called received station handle link are six gives contains at is_open uses.
          fixing_before_phase words whole understood taken nth apart given are six gives before rest called received at station (contains_in given.stations station contains) handle link is_open uses;
    }
