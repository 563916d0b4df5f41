-- Runs in which the hosts may do what they do.
use Rattle.std.proofs.Common.{ℕ, ◌+◌, Bool, true, List, [], ◌∷◌, ◌++◌, Option, Some, None, suc, zero, replicate}
use Rattle.link_pairs.specs.link_model.Setup.{Setup}
use Rattle.link_pairs.specs.link_model.Facts.{Facts}
use Rattle.link_runs.specs.Rows.{calm, turn_with}
use Rattle.link_runs.specs.Runs.{MayAllHostFrom, MayHostEnd, MayHostTurn, ends_from}
use Rattle.link_runs.specs.Turn.{Ends, Given, ends_after_turn}

pub asks_nothing : (setup : Setup) (o : Option Facts) → MayHostEnd setup [] o
asks_nothing setup None = tt
asks_nothing setup (Some facts) = tt

module _ (central peripheral : Setup) where
  -- turns that may come whatever both ends hold
  abbrev pub MayAlways : List Given → Type 0
  MayAlways turns = (slot : ℕ) (ends : Ends) → MayAllHostFrom central peripheral slot ends turns

  -- no host does anything
  pub idle : (down up : Bool) (count : ℕ) → MayAlways (replicate count (turn_with [] [] down up))
  idle down up zero slot ends = tt
  idle down up (suc count) slot ends = (
    (asks_nothing central ends.central, asks_nothing peripheral ends.peripheral),
    idle down up count (slot + 1) (ends_after_turn central peripheral slot (turn_with [] [] down up) ends),
  )

  pub and_always : (turns others : List Given) (slot : ℕ) (ends : Ends) → MayAllHostFrom central peripheral slot ends turns → MayAlways others
      → MayAllHostFrom central peripheral slot ends (turns ++ others)
  and_always [] others slot ends first later = later slot ends
  and_always (given ∷ turns) others slot ends first later =
      (first.0, and_always turns others (slot + 1) (ends_after_turn central peripheral slot given ends) first.1 later)

  -- a host does something after calm turns
  pub once : (count : ℕ) (given : Given) (others : List Given) (slot : ℕ) (ends : Ends)
      → MayHostTurn central peripheral given (ends_from central peripheral slot ends (calm count)) → MayAlways others
      → MayAllHostFrom central peripheral slot ends (calm count ++ given ∷ others)
  once zero given others slot ends may later = (may, later (slot + 1) (ends_after_turn central peripheral slot given ends))
  once (suc count) given others slot ends may later =
      let next = ends_after_turn central peripheral slot (turn_with [] [] true true) ends in
      ((asks_nothing central ends.central, asks_nothing peripheral ends.peripheral), once count given others (slot + 1) next may later)
