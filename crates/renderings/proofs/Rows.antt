-- There are no more rows than lines, and a chart is its parts.
use Rattle.std.proofs.Common.{◌≡◌, ℕ, ◌+◌, ◌≤◌, List, [], ◌∷◌, ◌++◌, length, Option, Result, ap, sym, subst, ◌∙◌, arith}
use Rattle.journal.specs.declared.entries.Entry.{Entry}
use Rattle.outside.specs.declared.sink.SinkFault.{SinkFault}
use Rattle.chart.specs.declared.places.Place.{Place}
use Rattle.chart.specs.Chart.{chart_of, end_text, first_place, place_after, place_after_all, rows_text, start_text}
use Rattle.chart.specs.Svg.{document_text}
use Rattle.chart.proofs.Parts.{chart_in_parts}
use Rattle.chart.proofs.RowCounts.{one_more_at_most}
use Rattle.journal_tool.specs.Writing.{IsWritten, takes_memory}

pub rows_at_most : (p : Place) (entries : List Entry)
    → (place_after_all p entries).row + (place_after_all p entries).waiting ≤ p.row + p.waiting + length entries
rows_at_most p [] = omega arith
rows_at_most p (entry ∷ entries) = omega (arith, rows_at_most (place_after p entry) entries, one_more_at_most p entry)

chart_parts : (entries : List Entry) (last : Place) → last ≡ place_after_all first_place entries
    → start_text last ++ rows_text first_place entries ++ end_text last ≡ document_text (chart_of entries)
chart_parts entries last is =
    ap (λ (p : Place). start_text p ++ rows_text first_place entries ++ end_text p) is ∙ sym (chart_in_parts entries)

-- to write its parts is to write a chart
pub chart_written : {Sink : Type 0} (written : Sink → Option (List ℕ)) (faults : Sink → ℕ) (is_reliable : Sink → Type 0)
    (old new : Sink) (result : Result (Unit {0}) SinkFault) (entries : List Entry) (last : Place)
    → last ≡ place_after_all first_place entries
    → IsWritten written faults is_reliable takes_memory old new result
    (start_text last ++ rows_text first_place entries ++ end_text last)
    → IsWritten written faults is_reliable takes_memory old new result (document_text (chart_of entries))
chart_written written faults is_reliable old new result entries last is parts =
    subst (λ octets. IsWritten written faults is_reliable takes_memory old new result octets) (chart_parts entries last is) parts
