-- The proof of the law `procedures_are_done_as_they_are_answered`.
use Rattle.std.proofs.Common.{◌≡◌, [], ◌∷◌, refl}
use Rattle.journal_crossing.specs.run_model.Journal.{journal_of}
use Rattle.journal_crossing.specs.run_model.LinkEnds.{HaveAddresses}
use Rattle.journal_crossing.specs.run_model.Pair.{given_of}
use Rattle.journal_crossing.specs.run_model.Run.{Given, history_of, run_of}
use Rattle.journal_crossing.proofs.run_model.LinkEnds.{pair_addresses}
use Rattle.journal_outcomes.specs.Done.{AllDoneAreAnswered}
use Rattle.journal_outcomes.proofs.AnsweredLines.{all_answered}
use Rattle.journal_outcomes.proofs.laws.procedures_are_done_as_they_are_answered.Goals as goal

pub returns : goal.returns
returns c =
    let of_two : (given : Given) → given.stations ≡ 0 ∷ 1 ∷ [] → HaveAddresses given → AllDoneAreAnswered (journal_of (history_of (run_of given))) =
    λ given are six. all_answered c.a_pdu_is_understood.ensures.says c.connections_are_taken.ensures.taken given are six
    c.a_procedure_is_done_only_as_it_is_answered.ensures in record {
      two_stations = of_two;
      pair = λ a b script six six_too. of_two (given_of a b script) refl (pair_addresses a b script six six_too);
    }
