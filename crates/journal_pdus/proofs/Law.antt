-- In every journal of a run of a pair nothing waits for a host that can take more between turns, nor on a link that is shut after the
-- packets of a turn.
use Rattle.std.proofs.Common.{◌≡◌, ℕ, List, ◌∷◌, ◌++◌, length, refl}
use Rattle.journal_moves.proofs.journal_wants.journal_sending.journal_data.link_model.Hearing.{IsHeardWhole}
use Rattle.radio_replay.specs.Script.{Script}
use Rattle.journal_moves.specs.journal_wants.journal_sending.controller_model.Step.{TurnEnds}
use Rattle.journal_moves.specs.journal_wants.journal_sending.run_model.History.{Event, Called}
use Rattle.journal_moves.specs.journal_wants.journal_sending.run_model.Journal.{journal_of}
use Rattle.journal_moves.specs.journal_wants.journal_sending.run_model.LinkEnds.{HaveAddresses}
use Rattle.journal_moves.specs.journal_wants.journal_sending.run_model.Pair.{given_of}
use Rattle.journal_moves.specs.journal_wants.journal_sending.run_model.Run.{Given, GoesOn, history_of, run_of}
use Rattle.journal_moves.proofs.journal_wants.journal_sending.run_model.LinkEnds.{AreTaken, IsUnderstood, pair_addresses}
use Rattle.journal_moves.proofs.journal_wants.journal_sending.run_model.Ordered.{pair_distinct}
use Rattle.journal_moves.proofs.journal_wants.journal_sending.journal_data.run_laws.DistinctAccess.{AreApart}
use Rattle.journal_moves.proofs.journal_wants.journal_sending.journal_packets.AccessOrder.{AreNth}
use Rattle.journal_moves.proofs.journal_wants.journal_sending.journal_data.Law.{eight_of}
use Rattle.journal_moves.proofs.journal_wants.journal_sending.journal_data.FewLinks.{pair_links}
use Rattle.journal_moves.proofs.journal_wants.journal_sending.journal_hosts.FlowInRuns.{full_as_handed, pair_few, ready_of_two}
use Rattle.journal_pdus.specs.Exchanged.{AllAreSettled, AllAreSettledAsShut}
use Rattle.journal_pdus.specs.Settled.{AreSettled}
use Rattle.journal_pdus.proofs.HandedUp.{IsFullThen}
use Rattle.journal_pdus.proofs.SettledRuns.{settled_last, settled_lines}
use Rattle.journal_pdus.proofs.SettledShut.{settled_as_shut}

module _ (whole : IsHeardWhole) (understood : IsUnderstood) (taken : AreTaken) (nth : AreNth) (apart : AreApart) (a b : List ℕ) (script : Script)
    (six : length script.a.public ≡ 6) (six_too : length script.b.public ≡ 6) where
  abbrev given : Given
  given = given_of a b script

  addresses : HaveAddresses given
  addresses = pair_addresses a b script six six_too

  -- as a host with flow control on receives the last piece that it can still take, it is full by the lines
  full : (station : ℕ) (before rest : List Event) → history_of (run_of given) ≡ before ++ Called station TurnEnds ∷ rest → IsFullThen given before station
  full =
      full_as_handed given (pair_few a b script)
      (ready_of_two whole understood taken nth apart given refl (pair_few a b script) addresses (pair_distinct a b script) (eight_of a b script))

  pub journal_settled : AllAreSettled (journal_of (history_of (run_of given)))
  journal_settled =
      settled_lines whole understood taken nth apart given refl (pair_links a b script) addresses (pair_distinct a b script) (eight_of a b script) full

  pub journal_settled_as_shut : AllAreSettledAsShut (journal_of (history_of (run_of given)))
  journal_settled_as_shut =
      settled_as_shut whole understood taken nth apart given refl (pair_links a b script) addresses (pair_distinct a b script) (eight_of a b script) full

  pub settled_at_the_end : (history : List Event) → run_of given ≡ GoesOn history → AreSettled (journal_of history)
  settled_at_the_end =
      settled_last whole understood taken nth apart given refl (pair_links a b script) addresses (pair_distinct a b script) (eight_of a b script) full
