-- The moves of the exchanges in a joint run up to a state in which it goes on, and what is asked of its steps (our
-- choice).
use Rattle.std.specs.Prelude.{◌≡◌, ⊤, true, List, [], ◌∷◌, ◌++◌, if◌then◌else◌}
use Rattle.joint_controls.specs.Joint.{Joint, JointStep, after, after_all, is_running, may}
use Rattle.joint_exchanges.specs.JointMoves.{moves_of}
use Rattle.joint_exchanges.specs.Moves.{Move}

-- a step that may not come is none
abbrev pub moves_in : List JointStep → Joint → List Move
moves_in [] s = []
moves_in (step ∷ steps) s = (if may step s then moves_of step s else []) ++ moves_in steps (after step s)

-- in each state of the run that a step follows; of a run that has stopped nothing is asked
abbrev pub AllBefore : (Joint → Type 0) → List JointStep → Joint → Type 0
AllBefore P [] s = ⊤
AllBefore P (step ∷ steps) s = (is_running s ≡ true → P s) × AllBefore P steps (after step s)

-- the run goes on after these steps from a state
abbrev pub GoesOn : List JointStep → Joint → Type 0
GoesOn steps s = is_running (after_all steps s) ≡ true
