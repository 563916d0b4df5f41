-- What the parameters of both ends see of a joint run: the tracks, the indications that the central sent, and its last
-- PDU (our choice).
use Rattle.std.specs.Prelude.{◌≡◌, List, Option, None, if◌then◌else◌}
use Rattle.instants.specs.declared.track.Change.{Change}
use Rattle.instants.specs.Track.{TrackFacts}
use Rattle.joint_controls.specs.Joint.{Joint, Way, is_indication, is_item, item_on_air, last_change}

pub record View : Type 0 where
  -- the last PDU of the central
  pub down : Way
  -- the indications that it sent, oldest first
  pub sent : List Change
  pub central : TrackFacts
  pub peripheral : TrackFacts

abbrev pub view : Joint → View
view s =
    record {
      down = s.down;
      sent = s.central.control.sent;
      central = s.central.control.track;
      peripheral = s.peripheral.control.track;
    }

-- the indication that is on its way to the peripheral
abbrev pub change_on_air : View → Option Change
change_on_air v = (if is_item is_indication (item_on_air v.down) then last_change v.sent else None)

-- two ends have one set of parameters and one anchor
pub record HaveEqual (a b : TrackFacts) : Type 0 where
  pub params : a.params ≡ b.params
  pub anchor : a.anchor ≡ b.anchor
