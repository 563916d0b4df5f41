-- One line more of a chart.
use Rattle.std.proofs.Common.{◌≡◌, ℕ, suc, ◌+◌, ◌<◌, ◌≤◌, ◌^◌, List, [], ◌∷◌, ◌++◌, length, sym, ap, subst, arith, ◌∙◌}
use Rattle.journal.specs.declared.entries.Entry.{Entry}
use Rattle.chart.specs.declared.places.Place.{Place}
use Rattle.chart.specs.Svg.{all_spelled}
use Rattle.chart.specs.Chart.{all_drawn, drawn, place_after, place_after_all}
use Rattle.chart.proofs.RowCounts.{one_more_at_most}
use Rattle.chart.proofs.Spelling.{put_none, put_parts}

-- to write a line, and then all after it, is to write all
pub written_next : (octets more : List ℕ) (p next : Place) (entry : Entry) (later rest : List Entry)
    → rest ≡ entry ∷ later → next ≡ place_after p entry → more ≡ octets ++ all_spelled (drawn p entry)
    → more ++ all_spelled (all_drawn next later) ≡ octets ++ all_spelled (all_drawn p rest)
written_next octets more p next entry later rest is after wrote =
    ap (λ place. more ++ all_spelled (all_drawn place later)) after
    ∙ ap (λ front. front ++ all_spelled (all_drawn (place_after p entry) later)) wrote
    ∙ sym (put_parts octets (drawn p entry) (all_drawn (place_after p entry) later))
    ∙ ap (λ entries. octets ++ all_spelled (all_drawn p entries)) (sym is)

pub place_next : (p next : Place) (entry : Entry) (later rest : List Entry)
    → rest ≡ entry ∷ later → next ≡ place_after p entry → place_after_all next later ≡ place_after_all p rest
place_next p next entry later rest is after =
    ap (λ place. place_after_all place later) after ∙ ap (λ entries. place_after_all p entries) (sym is)

pub fits_next : (p next : Place) (entry : Entry) (later rest : List Entry)
    → rest ≡ entry ∷ later → next ≡ place_after p entry → p.row + p.waiting + length rest < 2 ^ 32
    → next.row + next.waiting + length later < 2 ^ 32
fits_next p next entry later rest is after fits =
    let more : (place_after p entry).row + (place_after p entry).waiting ≤ p.row + p.waiting + 1 = one_more_at_most p entry in
    let long : length rest ≡ suc (length later) = ap length is in
    subst (λ (place : Place). place.row + place.waiting + length later < 2 ^ 32) (sym after) (omega (arith, more, long, fits))

-- to write what is left of no line is to write nothing
pub written_last : (octets : List ℕ) (p : Place) (rest : List Entry)
    → rest ≡ [] → octets ++ all_spelled (all_drawn p rest) ≡ octets
written_last octets p rest none =
    ap (λ entries. octets ++ all_spelled (all_drawn p entries)) none ∙ put_none octets
