-- A chart is written in parts.
use Rattle.std.proofs.Common.{◌≡◌, ℕ, List, [], ◌∷◌, ◌++◌, refl, sym, ap, append_assoc, ◌∙◌}
use Rattle.journal.specs.declared.entries.Entry.{Entry}
use Rattle.chart.specs.declared.places.Place.{Place}
use Rattle.chart.specs.Svg.{all_spelled, document_start, document_end, document_text}
use Rattle.chart.specs.Chart.{all_drawn, chart_of, drawn, drawn_last, end_text, first_place, frame, heading, height_of, place_after, place_after_all, rows_text, start_text}
use Rattle.chart.proofs.Spelling.{spelled_parts}

pub place_after_parts : (p : Place) (xs ys : List Entry)
    → place_after_all p (xs ++ ys) ≡ place_after_all (place_after_all p xs) ys
place_after_parts p [] ys = refl
place_after_parts p (x ∷ xs) ys = place_after_parts (place_after p x) xs ys

drawn_in_parts : (p : Place) (xs ys : List Entry)
    → all_drawn p (xs ++ ys) ≡ all_drawn p xs ++ all_drawn (place_after_all p xs) ys
drawn_in_parts p [] ys = refl
drawn_in_parts p (x ∷ xs) ys =
    ap (λ rows. drawn p x ++ rows) (drawn_in_parts (place_after p x) xs ys)
    ∙ sym (append_assoc (drawn p x) (all_drawn (place_after p x) xs) (all_drawn (place_after_all (place_after p x) xs) ys))

-- the rows of some lines, and then those of what follows them
pub rows_in_parts : (p : Place) (xs ys : List Entry)
    → rows_text p (xs ++ ys) ≡ rows_text p xs ++ rows_text (place_after_all p xs) ys
rows_in_parts p xs ys =
    ap all_spelled (drawn_in_parts p xs ys) ∙ spelled_parts (all_drawn p xs) (all_drawn (place_after_all p xs) ys)

regrouped : (start above rows last end : List ℕ)
    → (start ++ ((above ++ rows) ++ last)) ++ end ≡ ((start ++ above) ++ rows) ++ (last ++ end)
regrouped start above rows last end = simp append_assoc

pub chart_in_parts : (entries : List Entry)
    → document_text (chart_of entries)
    ≡ start_text (place_after_all first_place entries) ++ rows_text first_place entries
    ++ end_text (place_after_all first_place entries)
chart_in_parts entries =
    let last = place_after_all first_place entries in
    let rows = all_drawn first_place entries in
    ap (λ octets. (document_start (frame (height_of last)) ++ octets) ++ document_end)
    (spelled_parts (heading ++ rows) (drawn_last last) ∙ ap (λ octets. octets ++ all_spelled (drawn_last last)) (spelled_parts heading rows))
    ∙ regrouped (document_start (frame (height_of last))) (all_spelled heading) (all_spelled rows) (all_spelled (drawn_last last)) document_end
