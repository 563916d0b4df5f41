-- The handles of a pair of stations fit into packets of data.
use Rattle.std.proofs.Common.{ℕ, zero, suc, ◌≤◌, arith, List}
use Rattle.radio_replay.specs.Script.{Script}
use Rattle.journal_acks.specs.run_model.Pair.{given_of}
use Rattle.journal_acks.specs.run_model.Run.{Given, setup_at}

-- a connection handle has 12 bits (Core 5.2, volume 4 part E, section 5.4.2)
pub record HaveFewLinks (given : Given) : Type 0 where
  pub links : (station : ℕ) → (setup_at given station).links ≤ 4096

pub pair_links : (a b : List ℕ) (script : Script) → HaveFewLinks (given_of a b script)
pair_links a b script = record { links = links_of }
  where
    links_of : (station : ℕ) → (setup_at (given_of a b script) station).links ≤ 4096
    links_of zero = omega arith
    links_of (suc station) = omega arith
