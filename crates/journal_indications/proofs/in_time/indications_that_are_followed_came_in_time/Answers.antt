-- Proof of `in_time::indications_that_are_followed_came_in_time`.
use Rattle.std.proofs.Common.{refl}
use Rattle.journal_agreement.specs.journal_data.run_model.Pair.{given_of}
use Rattle.journal_agreement.proofs.journal_data.run_model.LinkEnds.{pair_addresses}
use Rattle.journal_indications.proofs.InTime.{came_in_time, taken_in_time}
use Rattle.journal_indications.proofs.in_time.indications_that_are_followed_came_in_time.Goals as goal

pub returns : goal.returns
returns c =
    let understood = c.a_pdu_is_understood.ensures.says in
    let taken = c.connections_are_taken.ensures.taken in
    let come = taken_in_time c.indications_of_an_end_that_goes_on_came_in_time.ensures in record {
      two_stations = λ given are six. came_in_time understood taken given are six come;
      pair = λ a b script six six_too. came_in_time understood taken (given_of a b script) refl (pair_addresses a b script six six_too) come;
    }
