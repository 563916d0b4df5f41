-- What a controller holds.
use Rattle.std.specs.Prelude.{ℕ, Bool, Option}
use Rattle.h4_frames.specs.declared.stage.Stage.{Stage}
use Rattle.host_view.specs.View.{View}
use Rattle.open_links.specs.Knowing.{HeldLinks}
use Rattle.controller_model.specs.declared.doing.Turn.{Turn}
use Rattle.controller_model.specs.Facts.{Setup}
use Rattle.activities.specs.Held.{HeldActivities}

pub record Held : Type 0 where
  -- what it is set up with
  pub setup : Setup
  -- the packet of its host that has begun
  pub framer : Stage
  pub view : View
  -- the place among the random words of the one that is drawn next
  pub place : ℕ
  -- the access address of the next new link, and the distance from which to search for the one after it
  pub access : Option (ℕ × ℕ)
  pub turn : Turn
  -- no turn began that has not ended
  pub between : Bool
  -- the radio, and what is done on it without a link
  pub activities : HeldActivities
  -- the open links and their data
  pub links : HeldLinks
