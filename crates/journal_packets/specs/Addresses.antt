-- The access addresses of the links of a journal (Core 5.2, volume 6 part B, section 2.1.2; in which order they are
-- taken is our choice).
use Rattle.std.specs.Prelude.{◌≡◌, ℕ, ◌+◌, true, List, [], ◌∷◌, Some, if◌then◌else◌, ⊤}
use Rattle.ble_base.specs.declared.roles.Side.{Side}
use Rattle.ble_base.specs.declared.roles.Side.TheVariants.{A, B}
use Rattle.scan_init.specs.Access.{nth_access}
use Rattle.journal_links.specs.controller_model.Heard.{access_found}
use Rattle.journal.specs.declared.entries.Entry.{Entry}
use Rattle.radio_replay.specs.Script.{Script}
use Rattle.journal_links.specs.Begun.{LinkBegun, links_begun}
use Rattle.journal_packets.specs.Belonging.{is_side}

-- of these links, those that a side began have the valid access addresses from its cursor on, in order, the first of
-- them the one with this number
abbrev pub AreInOrder : Side → ℕ → ℕ → List LinkBegun → Type 0
AreInOrder side cursor number [] = ⊤
AreInOrder side cursor number (link ∷ links) =
    (is_side link.central side ≡ true → access_found (nth_access cursor number) ≡ Some link.fields.access)
    × AreInOrder side cursor (number + (if is_side link.central side then 1 else 0)) links

-- where a side begins to look for them
abbrev pub cursor_of : Script → Side → ℕ
cursor_of script A = script.a.cursor
cursor_of script B = script.b.cursor

abbrev pub AllAddressesAreNext : Script → List Entry → Type 0
AllAddressesAreNext script journal = (side : Side) → AreInOrder side (cursor_of script side) 0 (links_begun journal)
