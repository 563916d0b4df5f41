-- Proof of `lines::a_run_stops_in_its_turn`.
use Rattle.run_model.specs.Pair.{given_of}
use Rattle.journal_turns.proofs.Stopping.{stopped_at}
use Rattle.journal_turns.proofs.lines.a_run_stops_in_its_turn.Goals as goal

pub returns : goal.returns
returns c = λ a b script history stop is. stopped_at a b script history stop is (c.unseen_damage_stops_a_run.ensures (given_of a b script) history stop is)
