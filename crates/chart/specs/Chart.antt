-- The chart of a journal (our choice).
use Rattle.std.specs.Prelude.{ℕ, ◌+◌, ◌-◌, ◌*◌, nat_lt, List, [], ◌∷◌, ◌++◌, codes, decimal, if◌then◌else◌}
use Rattle.ble_base.specs.declared.roles.Side.{Side}
use Rattle.ble_base.specs.declared.roles.Side.TheVariants.{A, B}
use Rattle.journal.specs.declared.entries.Entry.{Entry}
use Rattle.journal.specs.declared.entries.Entry.TheVariants.{Turn}
use Rattle.chart.specs.declared.layout.TheConstants.{WIDTH, TOP, ROW, FOOT, TIMES, LIFE_A, LIFE_B, LIFE_TOP, NAMES, MARGIN}
use Rattle.chart.specs.declared.layout.TheConstants.{LEGEND, LEGEND_FOOT, LEGEND_BAND, LEGEND_HEIGHT, SAMPLE, STYLE}
use Rattle.chart.specs.declared.places.Place.{Place}
use Rattle.chart.specs.Pdus.{joined}
use Rattle.chart.specs.Rows.{row_of}
use Rattle.chart.specs.Shapes.{text_at, band_at, path_from, life_line}
use Rattle.chart.specs.Svg.{Attribute, Element, Document, with_value, document_start, document_end, all_spelled}

-- ---- places: how many rows there are, how many turns have begun with no line since, and the slot of the last of them

abbrev pub first_place : Place
first_place = record { row = 0; waiting = 0; slot = 0 }

-- turns with no line share one row, which comes before that of the next line
abbrev pub row_after_turns : Place → ℕ
row_after_turns p = if nat_lt 1 p.waiting then p.row + 1 else p.row

-- the place after a line
abbrev pub place_after : Place → Entry → Place
place_after p (Turn slot a b) = record { row = p.row; waiting = p.waiting + 1; slot = slot }
place_after p _ = record { row = row_after_turns p + 1; waiting = 0; slot = p.slot }

-- the place after some lines
abbrev pub place_after_all : Place → List Entry → Place
place_after_all p [] = p
place_after_all p (entry ∷ entries) = place_after_all (place_after p entry) entries

-- the top of a row
abbrev pub top_of : ℕ → ℕ
top_of row = TOP + ROW * row

-- ---- rows

-- how many turns had no line, in their row
abbrev pub idle_text : ℕ → ℕ → Element
idle_text row turns = text_at TIMES (top_of row + FOOT) (codes "idle") (joined (codes "idle: " ∷ decimal turns ∷ []))

-- the slot of a turn, left of its first row
abbrev pub slot_text : ℕ → ℕ → Element
slot_text row slot = text_at TIMES (top_of row + FOOT) (codes "slot") (joined (codes "slot " ∷ decimal slot ∷ []))

-- the row of some turns with no line, if there are any
abbrev pub turns_row : ℕ → ℕ → List Element
turns_row row turns = if nat_lt 0 turns then idle_text row turns ∷ [] else []

-- the slot of the last of some turns, if there are any
abbrev pub slot_after : ℕ → ℕ → ℕ → List Element
slot_after row turns slot = if nat_lt 0 turns then slot_text row slot ∷ [] else []

-- what comes before the next line: the turns that had none, and the slot of its own turn if it is the first of it
abbrev pub turns_before : Place → List Element
turns_before p = turns_row p.row (p.waiting - 1) ++ slot_after (row_after_turns p) p.waiting p.slot

-- what a line adds to the chart
abbrev pub drawn : Place → Entry → List Element
drawn p (Turn slot a b) = []
drawn p entry = turns_before p ++ row_of (top_of (row_after_turns p)) entry

-- what some lines add
abbrev pub all_drawn : Place → List Entry → List Element
all_drawn p [] = []
all_drawn p (entry ∷ entries) = drawn p entry ++ all_drawn (place_after p entry) entries

-- ---- the chart

-- turns with no line at the end have a row too
abbrev pub last_row : Place → ℕ
last_row p = if nat_lt 0 p.waiting then p.row + 1 else p.row

abbrev pub life : Side → ℕ → Element
life side foot = path_from (life_line side) LIFE_TOP (joined (codes "V" ∷ decimal foot ∷ [])) (codes "life")

-- what comes after the last line: the turns after it, and the life lines down to there
abbrev pub drawn_last : Place → List Element
drawn_last p = turns_row p.row p.waiting
    ++ life A (top_of (last_row p)) ∷ life B (top_of (last_row p)) ∷ []

-- a packet in the legend, with its words right of it
unfoldable pub sample : ℕ → List ℕ → List ℕ → List ℕ → List Element
sample x course class words = path_from x LEGEND course class ∷ text_at (x + 48) LEGEND_FOOT (codes "legend") words ∷ []

-- the legend: packets that were not damaged, packets that were, and a connection event
unfoldable pub undamaged : List Element
undamaged = sample 104 (codes "h40m-9 -4l9 4l-9 4") (codes "pass good") (codes "good")
    ++ sample 230 (codes "h40m-9 -4l9 4l-9 4") (codes "pass missed") (codes "missed")
    ++ sample 370 (codes "h30m-5 -5l10 10m0 -10l-10 10") (codes "lost missed") (codes "lost")

abbrev pub damaged_course : List ℕ
damaged_course = codes "h15m-5 -5l10 10m0 -10l-10 10m5 -5h25m-9 -4l9 4l-9 4"

unfoldable pub damaged : List Element
damaged = sample 490 damaged_course (codes "damaged broken") (codes "damaged, broken")
    ++ sample 690 damaged_course (codes "damaged forged") (codes "damaged, forged")

unfoldable pub event_sample : List Element
event_sample = band_at 890 LEGEND_BAND SAMPLE LEGEND_HEIGHT
    ∷ text_at 938 LEGEND_FOOT (codes "legend") (codes "connection event") ∷ []

-- the names of the columns
unfoldable pub columns : List Element
columns = text_at TIMES NAMES (codes "slot") (codes "1.25 ms") ∷ text_at LIFE_A NAMES (codes "side") (codes "a")
    ∷ text_at LIFE_B NAMES (codes "side") (codes "b") ∷ []

-- how the elements look
unfoldable pub style : Element
style = record { name = codes "style"; attributes = []; words = STYLE.now }

-- all that is above the first row
abbrev pub heading : List Element
heading = style ∷ (undamaged ++ damaged ++ event_sample ++ columns)

-- the attributes of the whole drawing, down to this place
abbrev pub frame : ℕ → List Attribute
frame height = with_value (codes "xmlns") (codes "http://www.w3.org/2000/svg")
    ∷ with_value (codes "width") (decimal WIDTH) ∷ with_value (codes "height") (decimal height)
    ∷ []

-- how high the drawing is that ends at a place
abbrev pub height_of : Place → ℕ
height_of p = top_of (last_row p) + MARGIN

-- the chart of a journal
abbrev pub chart_of : List Entry → Document
chart_of entries = record {
  attributes = frame (height_of (place_after_all first_place entries));
  elements = heading ++ all_drawn first_place entries
      ++ drawn_last (place_after_all first_place entries);
}

-- ---- the text of a chart in parts: up to the first row, of the rows of some lines, and after the last row

abbrev pub start_text : Place → List ℕ
start_text last = document_start (frame (height_of last)) ++ all_spelled heading

abbrev pub rows_text : Place → List Entry → List ℕ
rows_text place entries = all_spelled (all_drawn place entries)

abbrev pub end_text : Place → List ℕ
end_text last = all_spelled (drawn_last last) ++ document_end
