-- The proof of the law `pdus_have_the_next_number`.
use Rattle.std.proofs.Common.{◌≡◌, [], ◌∷◌, refl}
use Rattle.journal_crossing.specs.run_model.Journal.{journal_of}
use Rattle.journal_crossing.specs.run_model.LinkEnds.{HaveAddresses}
use Rattle.journal_crossing.specs.run_model.Pair.{given_of}
use Rattle.journal_crossing.specs.run_model.Run.{Given, history_of, run_of}
use Rattle.journal_crossing.proofs.run_model.LinkEnds.{pair_addresses}
use Rattle.journal_outcomes.specs.Numbering.{AllAreNumbered}
use Rattle.journal_outcomes.proofs.NumberedLines.{all_numbered}
use Rattle.journal_outcomes.proofs.laws.pdus_have_the_next_number.Goals as goal

pub returns : goal.returns
returns c =
    let of_two : (given : Given) → given.stations ≡ 0 ∷ 1 ∷ [] → HaveAddresses given → AllAreNumbered (journal_of (history_of (run_of given))) =
    λ given are six. all_numbered c.a_pdu_is_understood.ensures.says c.connections_are_taken.ensures.taken given are six in record {
      two_stations = of_two;
      pair = λ a b script six six_too. of_two (given_of a b script) refl (pair_addresses a b script six six_too);
    }
