-- Each link that begins is opened at its central (Core 5.2, volume 6 part B, section 4.5).
use Rattle.std.specs.Prelude.{◌≡◌, ℕ, ◌==◌, ◌&&◌, Bool, true, false, List, ◌∷◌, ◌++◌, Option, Some}
use Rattle.std.specs.List.{list_any}
use Rattle.ble_base.specs.declared.roles.Side.{Side}
use Rattle.journal.specs.declared.entries.Entry.{Entry}
use Rattle.journal.specs.declared.entries.Entry.TheVariants.{Opened, Turn}
use Rattle.journal_moves.specs.journal_wants.journal_sending.journal_links.Begun.{LinkBegun, link_numbered}
use Rattle.journal_moves.specs.journal_wants.journal_sending.journal_packets.Belonging.{is_side}

-- a line says that this side holds the link with this number from there on
abbrev pub opens : Side → ℕ → Entry → Bool
opens side number (Opened other link handle role) = is_side other side && link == number
opens side number _ = false

-- one of these lines says so
abbrev pub is_opened_by : Side → ℕ → List Entry → Bool
is_opened_by side number front = list_any (opens side number) front

-- the side that sent the CONNECT_IND of a link holds the link from some line on
abbrev pub AreOpened : List Entry → Type 0
AreOpened front =
    (number : ℕ) (link : LinkBegun) → link_numbered number front ≡ Some link
    → is_opened_by link.central number front ≡ true

-- before each turn
abbrev pub AllAreOpenedByThen : List Entry → Type 0
AllAreOpenedByThen journal = (front rest : List Entry) (slot : ℕ) (a_on : Bool) (b_on : Option Bool)
    → journal ≡ front ++ Turn slot a_on b_on ∷ rest → AreOpened front
