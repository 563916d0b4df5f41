-- No link is left as a Reset is answered (Core 5.2, volume 4 part E, section 7.3.2).
use Rattle.std.specs.Prelude.{◌≡◌, ℕ, ◌==◌, ◌&&◌, Bool, true, List, [], ◌∷◌, ◌++◌, slice_index}
use Rattle.ble_base.specs.declared.roles.Side.{Side}
use Rattle.host_view.specs.Noted.{two_octets}
use Rattle.journal.specs.declared.entries.Entry.{Entry}
use Rattle.journal.specs.declared.entries.Entry.TheVariants.{Up}
use Rattle.journal_moves.specs.journal_wants.journal_sending.controller_model.Notes.{is_event}
use Rattle.journal_moves.specs.journal_wants.journal_sending.journal_data.Held.{links_open}

-- an HCI_Reset is answered as done: by a Command Complete event, 0E, with the opcode 0C03, which is at the places 4 and 5,
-- and the status 00 after it
abbrev pub answers_reset : List ℕ → Bool
answers_reset octets = is_event 0x0E octets && ((two_octets 4 octets == 0x0C03) && (slice_index octets 6 == 0x00))

-- no link is open there by the lines before it
abbrev pub ResetsLeaveNoLink : List Entry → Type 0
ResetsLeaveNoLink journal = (front rest : List Entry) (side : Side) (octets : List ℕ)
    → journal ≡ front ++ Up side octets ∷ rest → answers_reset octets ≡ true → links_open side front ≡ []
