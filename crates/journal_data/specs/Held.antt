-- Which links the lines of a side name: only those that are open at it (Core 5.2, volume 4 part E, sections 5.4.2 and
-- 7.7.19).
use Rattle.std.specs.Prelude.{◌≡◌, ℕ, ◌+◌, ◌<◌, ◌==◌, Bool, true, false, List, ◌∷◌, ◌++◌, None, IsSome, length, slice_index}
use Rattle.std.specs.List.{list_any}
use Rattle.ble_base.specs.declared.ErrCode.{ErrCode}
use Rattle.ble_base.specs.declared.roles.Role.{Role}
use Rattle.ble_base.specs.declared.roles.Side.{Side}
use Rattle.host_view.specs.Noted.{acl_handle, is_acl_data, two_octets}
use Rattle.journal.specs.declared.entries.Entry.{Entry}
use Rattle.journal.specs.declared.entries.Entry.TheVariants.{Up, Enter, Opened, Shut, Sent, Took}
use Rattle.journal_acks.specs.controller_model.Notes.{is_event}
use Rattle.journal_data.specs.Delivered.{host_buffers}
use Rattle.journal_data.specs.HostLines.{OpenUnder, link_under}
use Rattle.journal_data.specs.Lines.{lines_of}

-- the links that are open at a side after these lines: each has its `open` line among them, and no `shut` line since
abbrev pub links_open : Side → List Entry → List OpenUnder
links_open side front = (lines_of host_buffers side front).links

abbrev pub is_open_link : ℕ → List OpenUnder → Bool
is_open_link link links = list_any (λ (one : OpenUnder). one.link == link) links

-- by these lines a link is open at a side
abbrev pub IsOpenAt : Side → ℕ → List Entry → Type 0
IsOpenAt side link front = is_open_link link (links_open side front) ≡ true

-- a link that is opened while these are open is none of them, and has the least handle that none of them has (our
-- choice)
pub record IsNextOpened (link handle : ℕ) (links : List OpenUnder) : Type 0 where
  pub new : is_open_link link links ≡ false
  pub free : link_under handle links ≡ None
  pub least : (other : ℕ) → other < handle → IsSome (link_under other links)

-- data for the host is of an open link; the number of its octets is at the places 3 and 4, and they are after that
pub record IsDataOfLink (octets : List ℕ) (links : List OpenUnder) : Type 0 where
  pub is_open : IsSome (link_under (acl_handle octets) links)
  pub whole : length octets ≡ 5 + two_octets 3 octets

-- an event with five octets of parameters, of one handle
pub record IsOfOneHandle (octets : List ℕ) : Type 0 where
  pub size : slice_index octets 2 ≡ 5
  pub whole : length octets ≡ 8
  pub one : slice_index octets 3 ≡ 1

-- a Number Of Completed Packets event is of one handle, which is at the place 4, and an open link has it
pub record IsOfOneLink (octets : List ℕ) (links : List OpenUnder) : Type 0 where
  pub is_open : IsSome (link_under (two_octets 4 octets) links)
  pub one_handle : IsOfOneHandle octets

-- each line of a link is of one that is open at its side by the lines before it, but its `open` line, which is of the
-- next one; and what a host receives of data and of complete packets is of open links
pub record LinesAreOfOpenLinks (journal : List Entry) : Type 0 where
  pub sent : (front rest : List Entry) (side : Side) (link number llid : ℕ) (body : List ℕ)
      → journal ≡ front ++ Sent side link number llid body ∷ rest → IsOpenAt side link front
  pub took : (front rest : List Entry) (side : Side) (link number llid : ℕ) (body : List ℕ)
      → journal ≡ front ++ Took side link number llid body ∷ rest → IsOpenAt side link front
  pub entered : (front rest : List Entry) (side : Side) (link event channel : ℕ)
      → journal ≡ front ++ Enter side link event channel ∷ rest → IsOpenAt side link front
  pub shut : (front rest : List Entry) (side : Side) (link : ℕ) (reason : ErrCode)
      → journal ≡ front ++ Shut side link reason ∷ rest → IsOpenAt side link front
  pub opened : (front rest : List Entry) (side : Side) (link handle : ℕ) (role : Role)
      → journal ≡ front ++ Opened side link handle role ∷ rest → IsNextOpened link handle (links_open side front)
  pub received : (front rest : List Entry) (side : Side) (octets : List ℕ) → journal ≡ front ++ Up side octets ∷ rest
      → is_acl_data octets ≡ true → IsDataOfLink octets (links_open side front)
  pub completed : (front rest : List Entry) (side : Side) (octets : List ℕ) → journal ≡ front ++ Up side octets ∷ rest
      → is_event 0x13 octets ≡ true → IsOfOneLink octets (links_open side front)
