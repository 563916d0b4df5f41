-- What the control part of one end holds, and what it holds after a step (Core 5.2, volume 6 part B, sections 5.1.1,
-- 5.1.2 and 5.5).
use Rattle.std.specs.Prelude.{List, [], ◌∷◌, Option}
use Rattle.ble_base.specs.declared.error_codes.ErrCode.{ErrCode}
use Rattle.instants.specs.Track.{TrackFacts}
use Rattle.control_model.specs.procedures.Table.{TableFacts}
use Rattle.control_model.specs.Control.{Control, Step, after}

pub record Held : Type 0 where
  -- its control procedures
  pub table : TableFacts
  -- its parameters and anchors
  pub track : TrackFacts
  -- the code with which it ended the link, once it did
  pub ends : Option ErrCode

-- what an end holds does not include what it sent
abbrev pub held_of : Control → Held
held_of c = record { table = c.table; track = c.track; ends = c.ends }

-- an end that holds this; what it sent may be any list, for no step depends on it
abbrev pub control_of : Held → Control
control_of h = record { table = h.table; track = h.track; sent = []; ends = h.ends }

abbrev pub held_after : Step → Held → Held
held_after step h = held_of (after step (control_of h))

abbrev pub held_after_all : List Step → Held → Held
held_after_all [] h = h
held_after_all (step ∷ steps) h = held_after_all steps (held_after step h)
