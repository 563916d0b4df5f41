-- The text of the schedule of a load, line by line.
use Rattle.std.proofs.Common.{◌≡◌, ℕ, ◌+◌, List, [], ◌∷◌, ◌++◌, refl, sym, ◌∙◌, ap, append-nil, append_assoc}
use Rattle.std.specs.Fmt.{digits}
use Rattle.std.specs.Prelude.{codes}
use Rattle.hex.specs.Hex.{encode_with}
use Rattle.line_words.specs.Text.{with_newline}
use Rattle.radio_replay.specs.LoadSchedule.{block_lines, first_lines, lines_before, text_of_lines, turns_between}
use Rattle.radio_replay.specs.Spelling.{run_line}
use Rattle.radio_replay.proofs.Drawn.{one_more}

text-append : (lines more : List (List ℕ)) → text_of_lines (lines ++ more) ≡ text_of_lines lines ++ text_of_lines more
text-append [] more = refl
text-append (line ∷ lines) more =
    ap (λ text. with_newline line ++ text) (text-append lines more)
    ∙ sym (append_assoc (with_newline line) (text_of_lines lines) (text_of_lines more))

pub three_lines : (old one two three first second third : List ℕ) → one ≡ old ++ with_newline first → two ≡ one ++ with_newline second
    → three ≡ two ++ with_newline third → three ≡ old ++ text_of_lines (first ∷ second ∷ third ∷ [])
three_lines old one two three first second third one_is two_is three_is =
    let a = with_newline first in
    let b = with_newline second in
    let c = with_newline third in
    three_is ∙ ap (λ xs. xs ++ c) (two_is ∙ ap (λ xs. xs ++ b) one_is) ∙ append_assoc (old ++ a) b c ∙ append_assoc old a (b ++ c)
    ∙ ap (λ xs. old ++ (a ++ (b ++ xs))) (sym (append-nil c))

pub run_text : codes "run 22\n" ≡ with_newline (run_line turns_between)
unfolding digits
run_text = refl

-- the lines before those of the blocks
pub first_text : (number : ℕ)
    → codes "ble-schedule 1\nside a c0ffee00000a 71764129 0000000000000001\nside b c0ffee00000b 71764129 0000000000000002\nt ++ a29 b5\n"
    ≡ text_of_lines (first_lines ++ lines_before number 0)
unfolding lines_before encode_with digits
first_text number = refl

pub block_next : (number block : ℕ) (old then : List ℕ) → old ≡ text_of_lines (first_lines ++ lines_before number block)
    → then ≡ old ++ text_of_lines (block_lines number block) → then ≡ text_of_lines (first_lines ++ lines_before number (block + 1))
unfolding lines_before
block_next number block old then old_is then_is =
    then_is ∙ ap (λ text. text ++ text_of_lines (block_lines number block)) old_is
    ∙ sym (text-append (first_lines ++ lines_before number block) (block_lines number block))
    ∙ ap text_of_lines (append_assoc first_lines (lines_before number block) (block_lines number block))
    ∙ ap (λ count. text_of_lines (first_lines ++ lines_before number count)) (one_more block)
