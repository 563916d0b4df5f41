-- The words by the lines of a run are those that its stations draw.
use Rattle.std.proofs.Common.{◌≡◌, ℕ, true, List, [], ◌∷◌, ◌++◌}
use Rattle.journal_controls.specs.controller_model.Step.{Step as Call}
use Rattle.journal_controls.specs.journal_ends.GivenWords.{GivesWords, draws_in_call}
use Rattle.journal_controls.specs.run_model.Due.{Each}
use Rattle.journal_controls.specs.run_model.History.{Called, Event}
use Rattle.journal_controls.specs.run_model.LinkEnds.{HaveAddresses}
use Rattle.journal_controls.specs.run_model.Run.{Given, history_of, run_of}
use Rattle.journal_controls.proofs.journal_acks.TwoStations.{IsOfTwo}
use Rattle.journal_controls.proofs.journal_packets.AccessOrder.{AreNth}
use Rattle.journal_controls.proofs.link_model.Hearing.{IsHeardWhole}
use Rattle.journal_controls.proofs.journal_acks.run_laws.DistinctAccess.{AreApart}
use Rattle.journal_controls.proofs.run_model.LinkEnds.{AreTaken, IsUnderstood}
use Rattle.journal_controls.proofs.run_model.Places.{each_at}
use Rattle.journal_controls.proofs.run_model.Walk.{IsStopped, IsWhole, ends_with, run_kept}
use Rattle.journal_words.specs.Drawn.{words_in}
use Rattle.journal_words.proofs.KeptWords.{AreWords, IsWorded, WordsBefore, gives_of, words_first, words_steps}

module _ (heard_whole : IsHeardWhole) (understood : IsUnderstood) (taken : AreTaken) (nth : AreNth) (apart : AreApart) (given : Given) (are_two : IsOfTwo given)
    (six : HaveAddresses given) where
  run_each : Each (WordsBefore given) [] (history_of (run_of given))
  run_each =
      ends_with (run_of given) (IsWhole given (AreWords given)) (IsStopped given (AreWords given)) (Each (WordsBefore given) [])
      (run_kept given (AreWords given) (words_steps heard_whole understood taken nth apart given are_two six) (words_first given))
      (λ history whole. whole.is.each) (λ history stop stopped. stopped.kept.each)

  pub worded_before : (before rest : List Event) (station : ℕ) (call : Call) → draws_in_call call ≡ true → history_of (run_of given) ≡ before ++ Called station call ∷ rest
      → IsWorded given before station
  worded_before before rest station call draws at = each_at (WordsBefore given) (history_of (run_of given)) before rest (Called station call) run_each at draws

  pub run_gives : GivesWords given (words_in given)
  run_gives = gives_of given (history_of (run_of given)) run_each
