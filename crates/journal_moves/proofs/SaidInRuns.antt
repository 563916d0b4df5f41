-- What the lines of the journal of a run say of each side.
use Rattle.std.proofs.Common.{◌≡◌, ℕ}
use Rattle.journal_wants.specs.Setups.{setups_of}
use Rattle.journal_wants.specs.journal_controls.journal_ends.Asked.{Words}
use Rattle.journal_wants.specs.journal_controls.journal_ends.GivenWords.{GivesWords}
use Rattle.journal_wants.specs.run_model.LinkEnds.{HaveAddresses}
use Rattle.journal_wants.specs.run_model.Run.{Given, setup_at}
use Rattle.journal_wants.proofs.RunDecided.{decided_before_packet}
use Rattle.journal_wants.proofs.RunStations.{AreTold}
use Rattle.journal_wants.proofs.ToldRuns.{are_told}
use Rattle.journal_wants.proofs.journal_acks.TwoStations.{IsOfTwo}
use Rattle.journal_wants.proofs.journal_acks.run_laws.DistinctAccess.{AreApart}
use Rattle.journal_wants.proofs.journal_data.FewLinks.{HaveFewLinks}
use Rattle.journal_wants.proofs.journal_leaving.link_model.Hearing.{IsHeardWhole}
use Rattle.journal_wants.proofs.journal_packets.AccessOrder.{AreNth}
use Rattle.journal_wants.proofs.run_model.LinkEnds.{AreTaken, IsUnderstood}
use Rattle.journal_moves.proofs.ConnectingRuns.{are_connecting}
use Rattle.journal_moves.proofs.KnownCalls.{known_calls}
use Rattle.journal_moves.proofs.RunMoves.{AreSaid}
use Rattle.journal_moves.proofs.SaidRuns.{are_said}

module _ (words : Words) (whole : IsHeardWhole) (understood : IsUnderstood) (taken : AreTaken) (nth : AreNth)
    (apart : AreApart) (given : Given) (are_two : IsOfTwo given)
    (few_links : HaveFewLinks given) (six : HaveAddresses given) (gives : GivesWords given words)
    (eight : (station : ℕ) → (setup_at given station).host_buffers ≡ 8) where
  -- what the lines say of the links of each side
  told : AreTold words given
  told = are_told words whole understood taken nth apart given are_two few_links six gives eight

  pub said : AreSaid words (setups_of given) given
  said = are_said words whole understood taken nth apart given are_two few_links six eight told
      (are_connecting words whole understood taken nth apart given are_two few_links six gives eight
      (decided_before_packet words whole understood taken nth apart given are_two few_links six eight told))
      (known_calls words whole understood taken nth apart given are_two few_links six gives eight)
