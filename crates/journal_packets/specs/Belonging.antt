-- Which link a packet of a journal is of, by its access address and the packets before it (Core 5.2, volume 6 part B,
-- sections 2.1.2 and 4.5).
use Rattle.std.specs.Prelude.{ℕ, ◌+◌, ◌&&◌, ◌||◌, not, Bool, true, false, List, [], ◌∷◌, fold, take, Option, Some, None, if◌then◌else◌}
use Rattle.std.specs.Str.{bytes_eq}
use Rattle.ble_base.specs.Side.{other_side}
use Rattle.ble_base.specs.declared.roles.Side.{Side}
use Rattle.ble_base.specs.declared.roles.Side.TheVariants.{A, B}
use Rattle.air_frame.specs.Packet.{access_octets}
use Rattle.journal.specs.declared.entries.Entry.{Entry}
use Rattle.journal.specs.declared.entries.Entry.TheVariants.{Turn, Air}
use Rattle.journal_links.specs.run_model.History.{is_good}
use Rattle.journal_links.specs.run_model.Links.{is_advertising}
use Rattle.journal_links.specs.Begun.{LinkBegun, links_begun}

abbrev pub is_side : Side → Side → Bool
is_side A A = true
is_side A B = false
is_side B A = false
is_side B B = true

-- two packets begin with the same access address
abbrev pub have_one_access : List ℕ → List ℕ → Bool
have_one_access one other = bytes_eq (take 4 one) (take 4 other)

-- a packet that the other side heard, on a data channel, with the access address of these octets
abbrev pub is_asking : Side → List ℕ → Entry → Bool
is_asking side octets (Air sender channel sent fate verdict) =
    is_side sender (other_side side) && not (is_advertising channel) && have_one_access sent octets && is_good verdict
is_asking side octets _ = false

abbrev pub asked_after : Side → List ℕ → Bool → Entry → Bool
asked_after side octets asked (Turn slot a b) = false
asked_after side octets asked entry = asked || is_asking side octets entry

-- a good packet of the other side with this access address comes before it in the same turn, so a side that sends it
-- then answers that
unfoldable pub is_answer : List Entry → Side → List ℕ → Bool
is_answer front side octets = fold (asked_after side octets) false front

-- a peripheral answers, and a central does not
abbrev pub central_of : List Entry → Side → List ℕ → Side
central_of front side octets = if is_answer front side octets then other_side side else side

-- the packet begins with the access address of this link, and this is its central
abbrev pub fits : Side → List ℕ → LinkBegun → Bool
fits central octets link =
    is_side link.central central && bytes_eq (take 4 octets) (access_octets link.fields.access)

-- the number of the first of these links that fits, where the first of them has this number
abbrev pub first_number : Side → List ℕ → ℕ → List LinkBegun → Option ℕ
first_number central octets number [] = None
first_number central octets number (link ∷ links) =
    if fits central octets link then Some number else first_number central octets (number + 1) links

-- the number of the link of a packet on a data channel that a side sends after these entries
unfoldable pub link_of_packet : List Entry → Side → List ℕ → Option ℕ
link_of_packet front side octets = first_number (central_of front side octets) octets 1 (links_begun front)
