-- Which connection events an open end has entered, slot after slot (Core 5.2, volume 6 part B, sections 4.5.1 and 5.5).
use Rattle.std.specs.Prelude.{◌≡◌, ℕ, ◌<◌, ◌≤◌, true}
use Rattle.link_calls.specs.link_model.Controls.{goes_on}
use Rattle.link_calls.specs.link_model.Facts.{Facts}
use Rattle.instants.specs.Track.{next_anchor_of}

-- before this slot it entered exactly the events whose anchors are over; it has the anchors of its CONNECT_IND and of the
-- indications that it took
pub record IsOnTrack (slot : ℕ) (facts : Facts) : Type 0 where
  -- the anchor of the event that it entered last
  pub last : 1 ≤ facts.control.track.entered → facts.control.track.anchor < slot
  -- and that of the next one, unless a procedure ended the link
  pub next : goes_on facts ≡ true → slot ≤ next_anchor_of facts.control.track
