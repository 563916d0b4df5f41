-- Each packet is named once: by its own row, and by nothing else.
use Rattle.std.proofs.Common.{◌≡◌, ℕ, ◌-◌, List, [], ◌∷◌, ◌++◌, Bool, true, false, nat_lt, if◌then◌else◌, refl, ap, append-nil, ◌∙◌}
use Rattle.std.proofs.lemmas.Grind.{flat_map-append}
use Rattle.journal.specs.declared.entries.Entry.{Entry}
use Rattle.journal.specs.declared.entries.Entry.TheVariants.{Turn, Fed, Air}
use Rattle.chart.specs.declared.places.Place.{Place}
use Rattle.chart.specs.Svg.{Element}
use Rattle.chart.specs.Rows.{band_if, mark_of, row_of, is_of_event}
use Rattle.chart.specs.Chart.{all_drawn, chart_of, columns, damaged, event_sample, idle_text, sample, slot_text, style, undamaged, drawn, drawn_last, first_place, heading, place_after, place_after_all, row_after_turns, slot_after, top_of, turns_before, turns_row, life, last_row}
use Rattle.chart.specs.Naming.{labels_in, named_by, packet_line_of, packet_lines}
use Rattle.ble_base.specs.declared.roles.Side.TheVariants.{A, B}
use Rattle.chart.specs.declared.layout.TheConstants.{BAND, BAND_WIDTH, ROW}
use Rattle.chart.specs.Shapes.{band_at, packet_line, path_from, text_at}

named_parts : (xs ys : List Element) → named_by (xs ++ ys) ≡ named_by xs ++ named_by ys
named_parts xs ys = flat_map-append (λ e. labels_in e.attributes) xs ys

none_if : (test : Bool) (xs : List Element) → named_by xs ≡ [] → named_by (if test then xs else []) ≡ []
none_if true xs none = none
none_if false xs none = refl

-- two parts, of which the first names nothing
named_after : (xs ys : List Element) → named_by xs ≡ [] → named_by (xs ++ ys) ≡ named_by ys
named_after xs ys none = named_parts xs ys ∙ ap (λ names. names ++ named_by ys) none

turns_name_none : (row turns : ℕ) → named_by (turns_row row turns) ≡ []
unfolding text_at
turns_name_none row turns =
    none_if (nat_lt 0 turns) (idle_text row turns ∷ []) refl

slot_names_none : (row turns slot : ℕ) → named_by (slot_after row turns slot) ≡ []
unfolding text_at
slot_names_none row turns slot =
    none_if (nat_lt 0 turns) (slot_text row slot ∷ []) refl

before_names_none : (p : Place) → named_by (turns_before p) ≡ []
before_names_none p =
    named_after (turns_row p.row (p.waiting - 1)) (slot_after (row_after_turns p) p.waiting p.slot) (turns_name_none p.row (p.waiting - 1))
    ∙ slot_names_none (row_after_turns p) p.waiting p.slot

mark_names : (top : ℕ) (entry : Entry) → named_by (mark_of top entry) ≡ packet_line_of entry
unfolding text_at packet_line
mark_names top (Turn slot a b) = refl
mark_names top (Air side channel octets fate verdict) = refl
mark_names top (Fed side octets) = refl
mark_names top _ = refl

band_names_none : (of_event : Bool) (top : ℕ) → named_by (band_if of_event top) ≡ []
unfolding band_at
band_names_none of_event top = none_if of_event (band_at BAND top BAND_WIDTH ROW ∷ []) refl

row_names : (top : ℕ) (entry : Entry) → named_by (row_of top entry) ≡ packet_line_of entry
row_names top entry =
    named_after (band_if (is_of_event entry) top) (mark_of top entry) (band_names_none (is_of_event entry) top) ∙ mark_names top entry

line_names : (p : Place) (entry : Entry)
    → named_by (turns_before p ++ row_of (top_of (row_after_turns p)) entry) ≡ packet_line_of entry
line_names p entry =
    named_after (turns_before p) (row_of (top_of (row_after_turns p)) entry) (before_names_none p)
    ∙ row_names (top_of (row_after_turns p)) entry

drawn_names : (p : Place) (entry : Entry) → named_by (drawn p entry) ≡ packet_line_of entry
drawn_names p (Turn slot a b) = refl
drawn_names p (Fed side octets) = line_names p (Fed side octets)
drawn_names p entry = line_names p entry

all_names : (p : Place) (entries : List Entry) → named_by (all_drawn p entries) ≡ packet_lines entries
all_names p [] = refl
all_names p (entry ∷ entries) =
    named_parts (drawn p entry) (all_drawn (place_after p entry) entries)
    ∙ ap (λ names. names ++ named_by (all_drawn (place_after p entry) entries)) (drawn_names p entry)
    ∙ ap (λ names. packet_line_of entry ++ names) (all_names (place_after p entry) entries)

last_names_none : (p : Place) → named_by (drawn_last p) ≡ []
unfolding path_from
last_names_none p =
    named_after (turns_row p.row p.waiting) (life A (top_of (last_row p)) ∷ life B (top_of (last_row p)) ∷ []) (turns_name_none p.row p.waiting)

heading_names_none : named_by heading ≡ []
unfolding text_at band_at path_from sample undamaged damaged event_sample columns style
heading_names_none = refl

pub packets_are_named : (entries : List Entry) → named_by (chart_of entries).elements ≡ packet_lines entries
packets_are_named entries =
    named_parts (heading ++ all_drawn first_place entries) (drawn_last (place_after_all first_place entries))
    ∙ ap (λ names. named_by (heading ++ all_drawn first_place entries) ++ names) (last_names_none (place_after_all first_place entries))
    ∙ append-nil (named_by (heading ++ all_drawn first_place entries))
    ∙ (named_after heading (all_drawn first_place entries) heading_names_none ∙ all_names first_place entries)
