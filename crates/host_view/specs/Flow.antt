-- How many ACL packets a host can still take, and how long they may be (Core 5.2, volume 4 part E, sections 4.2, 7.3.38
-- and 7.3.39).
use Rattle.std.specs.Prelude.{ℕ, ◌-◌, min, List, [], sum_by, take, drop, Option, Some, None, if◌then◌else◌}
use Rattle.ble_base.specs.Limits.{payload_octets}
use Rattle.host_view.specs.declared.links.Link.{Link}
use Rattle.host_view.specs.View.{View}

-- how many packets of a link the host received and has not taken, if there is one under the handle
abbrev pub outstanding_in : Option Link → ℕ
outstanding_in None = 0
outstanding_in (Some link) = link.outstanding

-- and of all links
abbrev pub outstanding : List (Option Link) → ℕ
outstanding links = sum_by outstanding_in links

-- how many more it can take
abbrev pub window : View → ℕ
window view = view.flow.acl_count - outstanding view.links

-- of a number of packets, how many it may be sent now: all of them where flow control is off
abbrev pub most_handed : View → ℕ → ℕ
most_handed view count = if view.flow.on then min count (window view) else count

-- of what waits for the host, in order, what it is sent now, and what waits further
abbrev pub handed_of : {A : Type 0} → View → List A → List A
handed_of view waiting = if view.flow.on then take (window view) waiting else waiting

abbrev pub left_of : {A : Type 0} → View → List A → List A
left_of view waiting = if view.flow.on then drop (window view) waiting else []

-- the most octets of a payload that a link may receive which is opened now: a packet to the host has no more, whether
-- flow control is on or off (our choice)
abbrev pub most_received : View → ℕ
most_received view = min payload_octets view.flow.acl_length
