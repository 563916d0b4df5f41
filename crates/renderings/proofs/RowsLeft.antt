-- The rows of a chart that are left, block by block.
use Rattle.std.proofs.Common.{◌≡◌, ℕ, ◌+◌, ◌<◌, ◌^◌, List, [], ◌++◌, length, Option, Ok, Err, sym, ap, subst, ◌∙◌, arith, length-append}
use Rattle.journal.specs.declared.entries.Entry.{Entry}
use Rattle.outside.specs.declared.sink.SinkFault.{SinkFault}
use Rattle.chart.specs.declared.places.Place.{Place}
use Rattle.chart.specs.Chart.{first_place, place_after_all, rows_text}
use Rattle.chart.specs.Svg.{all_spelled}
use Rattle.chart.proofs.Parts.{rows_in_parts}
use Rattle.journal_tool.specs.Writing.{IsWritten, takes_memory}
use Rattle.renderings.proofs.Rest.{IsLeft, all_left, less_left, none_left, not_written}
use Rattle.renderings.proofs.Rows.{rows_at_most}

-- the rows of a block, and then those of what comes after it
rows_parts : (place : Place) (block later entries : List Entry) → block ++ later ≡ entries
    → rows_text place entries ≡ rows_text place block ++ rows_text (place_after_all place block) later
rows_parts place block later entries is =
    ap (λ (xs : List Entry). rows_text place xs) (sym is) ∙ rows_in_parts place block later

rows_fit : (place : Place) (block later entries : List Entry) → block ++ later ≡ entries
    → place.row + place.waiting + length entries < 2 ^ 32
    → (place_after_all place block).row + (place_after_all place block).waiting + length later < 2 ^ 32
rows_fit place block later entries is fits =
    omega (arith, rows_at_most place block, length-append block later, ap length is, fits)

pub block_fits : (place : Place) (block later entries : List Entry) → block ++ later ≡ entries
    → place.row + place.waiting + length entries < 2 ^ 32 → place.row + place.waiting + length block < 2 ^ 32
block_fits place block later entries is fits = omega (arith, length-append block later, ap length is, fits)

module _ {Sink : Type 0} (written : Sink → Option (List ℕ)) (faults : Sink → ℕ) (is_reliable : Sink → Type 0) where
  -- what was written is the rows of the lines before these
  pub record AreRowsLeft (first now : Sink) (place : Place) (rest entries : List Entry) : Type 0 where
    pub left : IsLeft written faults is_reliable takes_memory first now (rows_text place rest) (rows_text first_place entries)
    pub fits : place.row + place.waiting + length rest < 2 ^ 32

  pub all_rows_left : (sink : Sink) (place : Place) (entries : List Entry) → place ≡ first_place → length entries < 2 ^ 32
      → AreRowsLeft sink sink place entries entries
  all_rows_left sink place entries is fits =
      subst (λ (p : Place). AreRowsLeft sink sink p entries entries) (sym is)
      (record {
        left = all_left written faults is_reliable takes_memory sink (rows_text first_place entries);
        fits = omega (arith, fits);
      })

  pub fewer_rows_left : (first now next : Sink) (place after : Place) (block later rest entries : List Entry)
      → AreRowsLeft first now place rest entries → block ++ later ≡ rest → after ≡ place_after_all place block
      → IsWritten written faults is_reliable takes_memory now next (Ok tt) (rows_text place block)
      → AreRowsLeft first next after later entries
  fewer_rows_left first now next place after block later rest entries at parts goes_on is =
      subst (λ (p : Place). AreRowsLeft first next p later entries) (sym goes_on)
      (record {
        left =
            less_left written faults is_reliable takes_memory first now next (rows_text place rest) (rows_text place block)
            (rows_text (place_after_all place block) later) (rows_text first_place entries) at.left
            (rows_parts place block later rest parts) is;
        fits = rows_fit place block later rest parts at.fits;
      })

  pub no_rows_left : (first now : Sink) (place : Place) (rest entries : List Entry)
      → AreRowsLeft first now place rest entries → rest ≡ []
      → IsWritten written faults is_reliable takes_memory first now (Ok tt) (rows_text first_place entries)
  unfolding all_spelled
  no_rows_left first now place rest entries at none =
      none_left written faults is_reliable takes_memory first now (rows_text place rest) (rows_text first_place entries) at.left
      (ap (λ (xs : List Entry). rows_text place xs) none)

  pub rows_not_written : (first now last : Sink) (fault : SinkFault) (place : Place) (block later rest entries : List Entry)
      → AreRowsLeft first now place rest entries → block ++ later ≡ rest
      → IsWritten written faults is_reliable takes_memory now last (Err fault) (rows_text place block)
      → IsWritten written faults is_reliable takes_memory first last (Err fault) (rows_text first_place entries)
  rows_not_written first now last fault place block later rest entries at parts is =
      not_written written faults is_reliable takes_memory first now last fault (rows_text place rest) (rows_text place block)
      (rows_text (place_after_all place block) later) (rows_text first_place entries) at.left (rows_parts place block later rest parts) is
