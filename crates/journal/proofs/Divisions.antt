-- A text is the lines of entries and a rest in one way.
use Rattle.std.proofs.Common.{◌≡◌, ℕ, ◌+◌, ◌<◌, ◌≤◌, true, false, List, [], ◌∷◌, ◌++◌, length, take, drop, Some, None, refl, sym, ap, ◌∙◌, arith, append_assoc, append-nil, length-append}
use Rattle.std.specs.Prelude.{Option, ◌==◌, nat_lt}
use Rattle.std.specs.List.{All, position_from}
use Rattle.std.specs.Option.{option_map}
use Rattle.std.proofs.lemmas.Bool.{and_parts, eqb-true, ltb-true, ne_eqb}
use Rattle.std.proofs.lemmas.List.{take-append-drop}
use Rattle.std.proofs.Math.Seq.{take-append_seam, drop-append_seam}
use Rattle.std.proofs.lemmas.List.Elements.{All-nil, All-cons, All-head, All-tail}
use Rattle.line_words.specs.Text.{line_of, newline, with_newline}
use Rattle.line_words.proofs.SpelledLines.{is_above}
use Rattle.journal.specs.declared.entries.Entry.{Entry}
use Rattle.journal.specs.Division.{AreLinesOf, BeginsWithLine, IsFirstBadLine}
use Rattle.journal.specs.FirstLine.{first_line}
use Rattle.journal.specs.Range.{IsEntry}
use Rattle.journal.specs.Text.{entry_words, line, text}
use Rattle.journal.proofs.LineEntries.{above-line, same_entry}

-- ---- the first line of octets

newline_at : (start at : ℕ) (words after : List ℕ) → start + length words ≡ at → is_above 10 words ≡ true
    → position_from (λ octet. octet == newline) start (with_newline words ++ after) ≡ Some at
newline_at start at [] after place above = ap Some (omega arith)
newline_at start at (octet ∷ words) after place above =
    let parts = and_parts (nat_lt 10 octet) (is_above 10 words) above in
    let low : 10 < octet = ltb-true 10 octet parts.0 in
    let other : (octet == newline) ≡ false = ne_eqb octet newline (λ same. omega arith) in
    rw other (newline_at (start + 1) at words after (omega arith) parts.1)

-- both parts of octets that are cut after this place
abbrev cut_after : List ℕ → ℕ → List ℕ × List ℕ
cut_after octets at = (take (at + 1) octets, drop (at + 1) octets)

cut_line : (words after : List ℕ) → cut_after (with_newline words ++ after) (length words) ≡ (with_newline words, after)
cut_line words after =
    let size : length words + 1 ≡ length (with_newline words) = sym (length-append words (newline ∷ [])) in
    rw (size, take-append_seam (with_newline words) after, drop-append_seam (with_newline words) after) refl

first_of_line : (words after : List ℕ) → is_above 10 words ≡ true → first_line (with_newline words ++ after) ≡ Some (with_newline words, after)
first_of_line words after above =
    let at = newline_at 0 (length words) words after (omega arith) above in
    ap (option_map (cut_after (with_newline words ++ after))) at ∙ ap Some (cut_line words after)

first_of_entry : (entry : Entry) (after : List ℕ) → IsEntry entry → first_line (line entry ++ after) ≡ Some (line entry, after)
first_of_entry entry after fits = first_of_line (line_of (entry_words entry)) after (above-line entry fits)

whole_from : (octets : List ℕ) (place : Option ℕ) (front back : List ℕ)
    → option_map (cut_after octets) place ≡ Some (front, back) → octets ≡ front ++ back
whole_from octets None front back e = absurd (cc)
whole_from octets (Some at) front back e =
    let both : cut_after octets at ≡ (front, back) = cc in
    sym (take-append-drop (at + 1) octets) ∙ ap (λ (p : List ℕ × List ℕ). p.0 ++ p.1) both

-- the first line and what is after it are the octets
pub first_line-whole : (octets front back : List ℕ) → first_line octets ≡ Some (front, back) → octets ≡ front ++ back
first_line-whole octets front back e = whole_from octets (position_from (λ octet. octet == newline) 0 octets) front back e

same_parts : (a b c d : List ℕ) → ◌≡◌ {A = Option (List ℕ × List ℕ)} (Some (a, b)) (Some (c, d)) → (a ≡ c) × (b ≡ d)
same_parts a b c d e =
    let both : ◌≡◌ {A = List ℕ × List ℕ} (a, b) (c, d) = cc in
    (ap (λ (p : List ℕ × List ℕ). p.0) both, ap (λ (p : List ℕ × List ℕ). p.1) both)

-- octets that begin with the line of an entry have that line as their first
pub first_line-entry : (octets : List ℕ) (entry : Entry) (after : List ℕ) → IsEntry entry → octets ≡ line entry ++ after
    → first_line octets ≡ Some (line entry, after)
first_line-entry octets entry after fits same = ap first_line same ∙ first_of_entry entry after fits

-- octets without a first line do not begin with a line
pub no_first_line : (octets : List ℕ) → None ≡ first_line octets → BeginsWithLine octets → ⊥
no_first_line octets none begin =
    let first = first_line-entry octets begin.0 begin.1 begin.2 begin.3 in
    let no : ◌≡◌ {A = Option (List ℕ × List ℕ)} None (Some (line begin.0, begin.1)) = none ∙ first in
    absurd (cc no)

-- octets whose first line is not that of an entry do not begin with a line
pub other_first_line : (octets first after : List ℕ) → Some (first, after) ≡ first_line octets
    → ((entry : Entry) → IsEntry entry → line entry ≡ first → ⊥) → BeginsWithLine octets → ⊥
other_first_line octets first after is none begin =
    let found = first_line-entry octets begin.0 begin.1 begin.2 begin.3 in
    none begin.0 begin.2 (sym (same_parts first after (line begin.0) begin.1 (is ∙ found)).0)

line_is_some : (words after : List ℕ) → [] ≡ with_newline words ++ after → ⊥
line_is_some [] after e = absurd (cc)
line_is_some (octet ∷ words) after e = absurd (cc)

-- no octets begin with no line
pub none_begin : BeginsWithLine [] → ⊥
none_begin begin = line_is_some (line_of (entry_words begin.0)) begin.1 begin.3

-- ---- divisions

-- one entry is read of octets that are the lines of entries and a rest
pub record IsNext (entry : Entry) (later : List ℕ) (entries : List Entry) (rest : List ℕ) : Type 0 where
  pub more : List Entry
  pub same : entries ≡ entry ∷ more
  pub lines : AreLinesOf later more rest

pub next_is : (entry : Entry) (later : List ℕ) (entries : List Entry) (rest octets : List ℕ) → IsEntry entry → octets ≡ line entry ++ later
    → AreLinesOf octets entries rest → IsNext entry later entries rest
next_is entry later [] rest octets fits is lines = absurd (lines.ends (entry, later, fits, sym lines.parts ∙ is))
next_is entry later (first ∷ more) rest octets fits is lines =
    let here = All-head IsEntry first more lines.fit in
    let one = first_line-entry octets entry later fits is in
    let other = first_line-entry octets first (text more ++ rest) here (lines.parts ∙ append_assoc (line first) (text more) rest) in
    let parts = same_parts (line entry) later (line first) (text more ++ rest) (sym one ∙ other) in
    let same : entry ≡ first = same_entry entry first fits here parts.0 in
    record {
      more = more;
      same = ap (λ (e : Entry). e ∷ more) (sym same);
      lines = record { fit = All-tail IsEntry first more lines.fit; parts = parts.1; ends = lines.ends };
    }

-- what a reader knows after some lines: these entries were before, and each division of all octets goes on with one of
-- what is left
pub record IsRead (octets : List ℕ) (entries : List Entry) (left : List ℕ) : Type 0 where
  pub parts : octets ≡ text entries ++ left
  pub fit : All IsEntry entries
  pub only : (others : List Entry) (rest : List ℕ) → AreLinesOf octets others rest
      → (more : List Entry) × (others ≡ entries ++ more) × AreLinesOf left more rest

pub read_none : (octets : List ℕ) → IsRead octets [] octets
read_none octets = record {
  parts = refl;
  fit = All-nil IsEntry;
  only = λ others rest lines. (others, refl, lines);
}

text-append : (entries : List Entry) (entry : Entry) → text (entries ++ entry ∷ []) ≡ text entries ++ line entry
text-append [] entry = append-nil (line entry)
text-append (first ∷ entries) entry = ap (λ (xs : List ℕ). line first ++ xs) (text-append entries entry) ∙ sym (append_assoc (line first) (text entries) (line entry))

fit-append : (entries : List Entry) (entry : Entry) → All IsEntry entries → IsEntry entry → All IsEntry (entries ++ entry ∷ [])
fit-append [] entry fit here = All-cons IsEntry entry [] here (All-nil IsEntry)
fit-append (first ∷ entries) entry fit here =
    All-cons IsEntry first (entries ++ entry ∷ []) (All-head IsEntry first entries fit)
    (fit-append entries entry (All-tail IsEntry first entries fit) here)

pub read_more : (octets : List ℕ) (entries : List Entry) (left : List ℕ) (entry : Entry) (later : List ℕ) → IsRead octets entries left
    → IsEntry entry → left ≡ line entry ++ later → IsRead octets (entries ++ entry ∷ []) later
read_more octets entries left entry later read fits is = record {
  parts =
      read.parts ∙ ap (λ (xs : List ℕ). text entries ++ xs) is
      ∙ sym (append_assoc (text entries) (line entry) later)
      ∙ ap (λ (xs : List ℕ). xs ++ later) (sym (text-append entries entry));
  fit = fit-append entries entry read.fit fits;
  only = λ others rest lines.
      let before = read.only others rest lines in
      let next = next_is entry later before.0 rest left fits is before.2 in (
        next.more,
        before.1 ∙ ap (λ (xs : List Entry). entries ++ xs) next.same ∙ sym (append_assoc entries (entry ∷ []) next.more),
        next.lines,
      );
}

shorter : (left : List ℕ) (entry : Entry) (later : List ℕ) → left ≡ line entry ++ later → length later < length left
shorter left entry later is =
    let words = line_of (entry_words entry) in
    let front = length-append words (newline ∷ []) in
    let whole = length-append (line entry) later in
    let same = ap length is in
    omega (arith, front, whole, same)

-- a line has at least one octet, so the number of a line stays within the number of octets
pub counted : (entries : List Entry) (left : List ℕ) (entry : Entry) (later : List ℕ) (size : ℕ) → length entries + length left ≤ size
    → left ≡ line entry ++ later → length (entries ++ entry ∷ []) + length later ≤ size
counted entries left entry later size within is =
    let less = shorter left entry later is in
    let more = length-append entries (entry ∷ []) in
    omega (arith, less, more, within)

-- ---- the end of a reading

-- all was read
pub read_all : (octets : List ℕ) (entries : List Entry) → IsRead octets entries [] → AreLinesOf octets entries []
read_all octets entries read = record { fit = read.fit; parts = read.parts; ends = none_begin }

none_left : (more : List Entry) (rest : List ℕ) → AreLinesOf [] more rest → (more ≡ []) × (rest ≡ [])
none_left [] rest lines = (refl, sym lines.parts)
none_left (entry ∷ more) rest lines =
    absurd (line_is_some (line_of (entry_words entry)) (text more ++ rest) (lines.parts ∙ append_assoc (line entry) (text more) rest))

pub only_read : (octets : List ℕ) (entries : List Entry) → IsRead octets entries [] → (others : List Entry) (rest : List ℕ)
    → AreLinesOf octets others rest → (entries ≡ others) × (rest ≡ [])
only_read octets entries read others rest lines =
    let before = read.only others rest lines in
    let none = none_left before.0 rest before.2 in
    (sym (before.1 ∙ ap (λ (xs : List Entry). entries ++ xs) none.0 ∙ append-nil entries), none.1)

-- the rest does not begin with a line
pub read_bad : (octets : List ℕ) (entries : List Entry) (left : List ℕ) → IsRead octets entries left → (BeginsWithLine left → ⊥)
    → AreLinesOf octets entries left
read_bad octets entries left read bad = record { fit = read.fit; parts = read.parts; ends = bad }

no_more : (left : List ℕ) (more : List Entry) (rest : List ℕ) → (BeginsWithLine left → ⊥) → AreLinesOf left more rest
    → (more ≡ []) × (rest ≡ left)
no_more left [] rest bad lines = (refl, sym lines.parts)
no_more left (entry ∷ more) rest bad lines =
    absurd (bad (entry, text more ++ rest, All-head IsEntry entry more lines.fit, lines.parts ∙ append_assoc (line entry) (text more) rest))

pub only_bad : (octets : List ℕ) (entries : List Entry) (left : List ℕ) → IsRead octets entries left → (BeginsWithLine left → ⊥)
    → (others : List Entry) (rest : List ℕ) → AreLinesOf octets others rest → (others ≡ entries) × (rest ≡ left)
only_bad octets entries left read bad others rest lines =
    let before = read.only others rest lines in
    let none = no_more left before.0 rest bad before.2 in
    (before.1 ∙ ap (λ (xs : List Entry). entries ++ xs) none.0 ∙ append-nil entries, none.1)

-- ---- at the returns of a reader

is_nil : (octets : List ℕ) → true ≡ (length octets == 0) → octets ≡ []
is_nil [] e = refl
is_nil (octet ∷ octets) e =
    let none : length (octet ∷ octets) ≡ 0 = eqb-true (length (octet ∷ octets)) 0 (sym e) in absurd (omega arith)

-- nothing is left: there are no other entries
pub same_when_read : (octets : List ℕ) (entries : List Entry) (left : List ℕ) → IsRead octets entries left → true ≡ (length left == 0)
    → (others : List Entry) → AreLinesOf octets others [] → entries ≡ others
same_when_read octets entries left read none others lines =
    let whole : IsRead octets entries [] = rw (is_nil left none) at read in
    (only_read octets entries whole others [] lines).0

pub whole_when_read : (octets : List ℕ) (entries : List Entry) (left : List ℕ) → IsRead octets entries left
    → true ≡ (length left == 0) → AreLinesOf octets entries []
whole_when_read octets entries left read none =
    let whole : IsRead octets entries [] = rw (is_nil left none) at read in read_all octets entries whole

pub none_when_read : (octets : List ℕ) (entries : List Entry) (left : List ℕ) → IsRead octets entries left
    → true ≡ (length left == 0) → (n : ℕ) → IsFirstBadLine n octets → ⊥
none_when_read octets entries left read none n found =
    let whole : IsRead octets entries [] = rw (is_nil left none) at read in
    found.some (only_read octets entries whole found.entries found.rest found.lines).1

-- the rest does not begin with a line: the octets are not the lines of entries
pub not_whole : (octets : List ℕ) (entries : List Entry) (left : List ℕ) → IsRead octets entries left → false ≡ (length left == 0)
    → (BeginsWithLine left → ⊥) → (others : List Entry) → AreLinesOf octets others [] → ⊥
not_whole octets entries left read some bad others lines =
    let none : [] ≡ left = (only_bad octets entries left read bad others [] lines).1 in
    let empty : false ≡ true = rw (← none) at some in
    absurd (cc)

-- the first bad line is the one after these entries
pub bad_after : (octets : List ℕ) (entries : List Entry) (left : List ℕ) → IsRead octets entries left → false ≡ (length left == 0)
    → (BeginsWithLine left → ⊥) → (n : ℕ) → n ≡ length entries + 1 → IsFirstBadLine n octets
bad_after octets entries left read some bad n number = record {
  entries = entries;
  rest = left;
  lines = read_bad octets entries left read bad;
  some = λ none. let empty : false ≡ true = rw none at some in absurd (cc);
  number = number;
}

-- and there is no other
pub found_after : (octets : List ℕ) (entries : List Entry) (left : List ℕ) → IsRead octets entries left
    → (BeginsWithLine left → ⊥) → (n : ℕ) → IsFirstBadLine n octets → length entries + 1 ≡ n
found_after octets entries left read bad n found =
    let same = (only_bad octets entries left read bad found.entries found.rest found.lines).0 in
    ap (λ (xs : List Entry). length xs + 1) (sym same) ∙ sym found.number

-- a text is the lines of its entries
pub lines_of_text : (entries : List Entry) → All IsEntry entries → AreLinesOf (text entries) entries []
lines_of_text entries fit = record { fit = fit; parts = sym (append-nil (text entries)); ends = none_begin }
