-- A text has no fewer octets than lines.
use Rattle.std.proofs.Common.{ℕ, ◌<◌, ◌≤◌, ◌^◌, List, [], ◌∷◌, length, ap, arith, ◌∙◌, append-nil}
use Rattle.std.proofs.lemmas.List.{length-append, length_push}
use Rattle.line_words.specs.Text.{line_of}
use Rattle.journal.specs.declared.entries.Entry.{Entry}
use Rattle.journal.specs.Text.{entry_words, line, text}
use Rattle.journal_tool.specs.Causes.{IsTextOf}

line_count : (entries : List Entry) → length entries ≤ length (text entries)
line_count [] = omega arith
line_count (entry ∷ entries) =
    omega (arith, line_count entries, length-append (line entry) (text entries), length_push (line_of (entry_words entry)) 10)

pub few_lines : (entries : List Entry) (content : List ℕ) → IsTextOf entries content → length entries < 2 ^ 32
few_lines entries content is =
    omega (arith, line_count entries, is.fits, ap length (is.lines.parts ∙ append-nil (text entries)))
