-- The packets that a chart names (our choice).
use Rattle.std.specs.Prelude.{ℕ, List, [], ◌∷◌, codes, if◌then◌else◌}
use Rattle.std.specs.List.{flat_map}
use Rattle.std.specs.Str.{bytes_eq}
use Rattle.journal.specs.declared.entries.Entry.{Entry}
use Rattle.journal.specs.declared.entries.Entry.TheVariants.{Air}
use Rattle.journal.specs.Text.{entry_words}
use Rattle.line_words.specs.Text.{line_of}
use Rattle.chart.specs.Svg.{Attribute, Element}

-- the names among some attributes
abbrev pub labels_in : List Attribute → List (List ℕ)
labels_in [] = []
labels_in (a ∷ attributes) =
    if bytes_eq a.name (codes "aria-label") then a.value ∷ labels_in attributes else labels_in attributes

-- the names of some elements, in order
abbrev pub named_by : List Element → List (List ℕ)
named_by elements = flat_map (λ e. labels_in e.attributes) elements

-- the line of a packet on the air; of another entry nothing
abbrev pub packet_line_of : Entry → List (List ℕ)
packet_line_of (Air side channel octets fate verdict) =
    line_of (entry_words (Air side channel octets fate verdict)) ∷ []
packet_line_of _ = []

-- the lines of all packets on the air, in order
abbrev pub packet_lines : List Entry → List (List ℕ)
packet_lines entries = flat_map packet_line_of entries
