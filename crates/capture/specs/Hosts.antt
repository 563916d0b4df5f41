-- The packets in the octets of a host, each with all of its octets (Core 5.2, volume 4 part A, section 2; what is left
-- out is our choice).
use Rattle.std.specs.Prelude.{ℕ, List, [], ◌∷◌, ◌++◌, flat_map, if◌then◌else◌}
use Rattle.ble_base.specs.declared.roles.Side.{Side}
use Rattle.h4_frames.specs.Frames.{Rest, Begun, Passed, rest, reset_octets}
use Rattle.journal.specs.declared.entries.Entry.{Entry}
use Rattle.journal.specs.declared.entries.Entry.TheVariants.{Fed}
use Rattle.capture.specs.Sides.{same_side}

-- the octets that a host sent in an entry
abbrev pub fed_in : Side → Entry → List ℕ
fed_in side (Fed other octets) = if same_side side other then octets else []
fed_in side other = []

-- all octets that a host sent
abbrev pub fed_by : Side → List Entry → List ℕ
fed_by side entries = flat_map (fed_in side) entries

-- the packet that ends with this octet, from what is left over before it and after it: the octets that were begun, or
-- the HCI_Reset that was found after a loss of synchronisation. The octets that are skipped after a loss are not part
-- of a packet, and nor are those of a packet that never ends
abbrev pub packet_at : Rest → ℕ → Rest → List (List ℕ)
packet_at (Begun front) octet (Begun []) = (front ++ octet ∷ []) ∷ []
packet_at (Passed passed) octet (Begun []) = reset_octets ∷ []
packet_at before octet after = []

-- the packets that these octets end, after all octets before them
abbrev pub packets_ended : List ℕ → List ℕ → List (List ℕ)
packets_ended past [] = []
packets_ended past (octet ∷ octets) =
    packet_at (rest past) octet (rest (past ++ octet ∷ [])) ++ packets_ended (past ++ octet ∷ []) octets
