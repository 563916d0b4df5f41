-- The row of a line of a journal (our choice).
use Rattle.std.specs.Prelude.{ℕ, ◌+◌, Bool, true, false, nat_lt, List, [], ◌∷◌, ◌++◌, codes, Option, Some, None, if◌then◌else◌}
use Rattle.ble_base.specs.declared.roles.Side.{Side}
use Rattle.journal.specs.declared.entries.Entry.{Entry}
use Rattle.journal.specs.declared.entries.Entry.TheVariants.{Turn, Fed, Up, Air, Opened, Shut, Sent, Took, Enter, Applied, Began, Refused, Done}
use Rattle.line_words.specs.Text.{line_of}
use Rattle.journal.specs.Text.{entry_words}
use Rattle.chart.specs.declared.layout.TheConstants.{BAND, BAND_WIDTH, ROW, SHAFT, LABEL, FOOT, MIDDLE}
use Rattle.chart.specs.Shapes.{text_at, band_at, packet_line, note_place, note_class}
use Rattle.chart.specs.Svg.{Element}
use Rattle.chart.specs.Words.{packet_words, words_of}

-- a line is of a connection event: a packet on a data channel is, and all that is said of it
abbrev pub is_of_event : Entry → Bool
is_of_event (Air side channel octets fate verdict) = nat_lt channel 37
is_of_event (Enter side link event channel) = true
is_of_event (Sent side link number llid body) = true
is_of_event (Took side link number llid body) = true
is_of_event _ = false

-- the band behind a row, if its line is of a connection event
abbrev pub band_if : Bool → ℕ → List Element
band_if of_event top = if of_event then band_at BAND top BAND_WIDTH ROW ∷ [] else []

-- the side at which a line happens; a turn is of both
abbrev pub side_of : Entry → Option Side
side_of (Turn slot a b) = None
side_of (Fed side octets) = Some side
side_of (Up side octets) = Some side
side_of (Air side channel octets fate verdict) = Some side
side_of (Opened side link handle role) = Some side
side_of (Shut side link reason) = Some side
side_of (Sent side link number llid body) = Some side
side_of (Took side link number llid body) = Some side
side_of (Enter side link event channel) = Some side
side_of (Applied side link number event) = Some side
side_of (Began side link kind) = Some side
side_of (Refused side link kind code) = Some side
side_of (Done side link kind) = Some side

-- words beside the life line of a side
abbrev pub note_at : ℕ → Option Side → List ℕ → List Element
note_at top None words = []
note_at top (Some side) words =
    text_at (note_place side) (top + FOOT) (note_class side) words ∷ []

-- a packet is a line between the life lines, with its words above it; what else happens at a side is a note there
abbrev pub mark_of : ℕ → Entry → List Element
mark_of top (Air side channel octets fate verdict) =
    packet_line (top + SHAFT) side fate verdict (line_of (entry_words (Air side channel octets fate verdict)))
    ∷ text_at MIDDLE (top + LABEL) (codes "packet") (packet_words channel octets fate verdict) ∷ []
mark_of top entry = note_at top (side_of entry) (words_of entry)

-- the row of a line
abbrev pub row_of : ℕ → Entry → List Element
row_of top entry = band_if (is_of_event entry) top ++ mark_of top entry
