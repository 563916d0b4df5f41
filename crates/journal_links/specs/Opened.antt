-- Which link a line names that is opened (Core 5.2, volume 6 part B, section 4.5).
use Rattle.std.specs.Prelude.{◌≡◌, ℕ, ◌+◌, List, length, Some}
use Rattle.ble_base.specs.Side.{other_side}
use Rattle.ble_base.specs.declared.roles.Role.{Role}
use Rattle.ble_base.specs.declared.roles.Role.TheVariants.{Central, Peripheral}
use Rattle.ble_base.specs.declared.roles.Side.{Side}
use Rattle.journal.specs.declared.entries.Entry.{Entry}
use Rattle.run_laws.specs.run_model.Readers.{turns_of}
use Rattle.journal_links.specs.Begun.{LinkBegun, link_numbered}

-- the side of the central of a link, of which a side has the end with this role
abbrev pub central_side : Role → Side → Side
central_side Central side = side
central_side Peripheral side = other_side side

-- a line that comes after these entries says that a side holds this link from there on, in this role: it is in the
-- turn of the CONNECT_IND of the link, and the central is the side that sent it
pub record IsOpenedInTime (front : List Entry) (side : Side) (number : ℕ) (role : Role) : Type 0 where
  pub link : LinkBegun
  pub is_link : link_numbered number front ≡ Some link
  pub central_is : link.central ≡ central_side role side
  pub in_turn : link.slot + 1 ≡ length (turns_of front)
