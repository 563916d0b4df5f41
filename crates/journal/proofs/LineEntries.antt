-- The line of an entry is read as that entry, so lines and texts determine their entries.
use Rattle.std.proofs.Common.{◌≡◌, ℕ, zero, suc, ◌-◌, ◌^◌, ◌<◌, Bool, true, false, List, [], ◌∷◌, ◌++◌, Some, None, refl, sym, ap, ◌∙◌, arith, append_assoc, append-nil}
use Rattle.std.specs.Prelude.{Option, ◌==◌, nat_lt, map, decimal, codes}
use Rattle.std.specs.List.{All, list_all, slice_split, concat}
use Rattle.std.specs.Str.{bytes_eq}
use Rattle.std.proofs.lemmas.Bool.{and_from, and_right, le-leb}
use Rattle.std.proofs.lemmas.Slice.Eq.{bytes_eq-Decides}
use Rattle.std.proofs.lemmas.List.Elements.{All-nil, All-cons, All-head, All-tail}
use Rattle.std.proofs.lemmas.List.Folds.{list_all-append}
use Rattle.std.proofs.lemmas.List.Splits.{slice_split_none, slice_split_at}
use Rattle.hex.specs.Hex.{IsBytes, encode_lower, encode_with}
use Rattle.hex.proofs.HexLemmas.{decode_of-encode_lower, decode_sized-encode_lower}
use Rattle.ble_base.specs.declared.ErrCode.{ErrCode}
use Rattle.ble_base.specs.declared.roles.Side.{Side}
use Rattle.ble_base.specs.declared.roles.Side.TheVariants.{A, B}
use Rattle.ble_base.specs.declared.roles.Role.{Role}
use Rattle.ble_base.specs.declared.roles.Role.TheVariants.{Central, Peripheral}
use Rattle.ble_base.specs.declared.procedure_kinds.Kind.{Kind}
use Rattle.ble_base.specs.declared.procedure_kinds.Kind.TheVariants.{Update, Request, Map, Phy, Features, Version, Length, Encrypt}
use Rattle.ble_base.specs.declared.verdicts.Verdict.{Verdict}
use Rattle.ble_base.specs.declared.verdicts.Verdict.TheVariants.{Missed, Broken, Forged, Good}
use Rattle.line_words.specs.Text.{line_of, lines_of, with_newline}
use Rattle.line_words.proofs.SpelledLines.{is_above, above-line_of, lines_of-with_newline, words_of-line_of}
use Rattle.line_words.proofs.SpelledNumbers.{above-decimal, above-encode_lower, no_colon-decimal, no_colon-encode_lower, number_in-decimal}
use Rattle.journal.specs.declared.entries.Entry.{Entry}
use Rattle.journal.specs.declared.entries.Entry.TheVariants.{Turn, Fed, Up, Air, Opened, Shut, Sent, Took, Enter, Applied, Began, Refused, Done}
use Rattle.journal.specs.declared.entries.Mark.{Mark}
use Rattle.journal.specs.declared.entries.Mark.TheVariants.{Pass, Lost, Damage}
use Rattle.journal.specs.Fields.{code_in, damage_in, kind_in, mark_in, octets_in, radios_in, role_in, side_in, u16_in, u64_in, u8_in, verdict_in}
use Rattle.journal.specs.Range.{IsEntry, IsMark}
use Rattle.journal.specs.Reading.{entry_in, first_entry}
use Rattle.journal.specs.Text.{entry_words, line, text}
use Rattle.journal.specs.Words.{hexadecimal, kind_name, mark_word, radios, role_name, side_name, verdict_name}

-- ---- names

side_is : (side : Side) → side_in (side_name side) ≡ Some side
side_is A = refl
side_is B = refl

role_is : (role : Role) → role_in (role_name role) ≡ Some role
role_is Central = refl
role_is Peripheral = refl

kind_is : (kind : Kind) → kind_in (kind_name kind) ≡ Some kind
kind_is Update = refl
kind_is Request = refl
kind_is Map = refl
kind_is Phy = refl
kind_is Features = refl
kind_is Version = refl
kind_is Length = refl
kind_is Encrypt = refl

verdict_is : (verdict : Verdict) → verdict_in (verdict_name verdict) ≡ Some verdict
verdict_is Missed = refl
verdict_is Broken = refl
verdict_is Forged = refl
verdict_is Good = refl

radios_are : (a : Bool) (b : Option Bool) → radios_in (radios a b) ≡ Some (a, b)
radios_are true None = refl
radios_are false None = refl
radios_are true (Some true) = refl
radios_are true (Some false) = refl
radios_are false (Some true) = refl
radios_are false (Some false) = refl

above-side : (side : Side) → is_above 32 (side_name side) ≡ true
above-side A = refl
above-side B = refl

above-role : (role : Role) → is_above 32 (role_name role) ≡ true
above-role Central = refl
above-role Peripheral = refl

above-kind : (kind : Kind) → is_above 32 (kind_name kind) ≡ true
above-kind Update = refl
above-kind Request = refl
above-kind Map = refl
above-kind Phy = refl
above-kind Features = refl
above-kind Version = refl
above-kind Length = refl
above-kind Encrypt = refl

above-verdict : (verdict : Verdict) → is_above 32 (verdict_name verdict) ≡ true
above-verdict Missed = refl
above-verdict Broken = refl
above-verdict Forged = refl
above-verdict Good = refl

above-radios : (a : Bool) (b : Option Bool) → is_above 32 (radios a b) ≡ true
above-radios true None = refl
above-radios false None = refl
above-radios true (Some true) = refl
above-radios true (Some false) = refl
above-radios false (Some true) = refl
above-radios false (Some false) = refl

-- ---- numbers

u64_is : (n : ℕ) → n < 2 ^ 64 → u64_in (decimal n) ≡ Some n
u64_is n h = rw (number_in-decimal n h, le-leb 0 n (omega arith), le-leb n (2 ^ 64 - 1) (omega arith)) refl

u16_is : (n : ℕ) → n < 2 ^ 16 → u16_in (decimal n) ≡ Some n
u16_is n h = rw (number_in-decimal n (omega arith), le-leb 0 n (omega arith), le-leb n (2 ^ 16 - 1) (omega arith)) refl

u8_is : (n : ℕ) → n < 2 ^ 8 → u8_in (decimal n) ≡ Some n
u8_is n h = rw (number_in-decimal n (omega arith), le-leb 0 n (omega arith), le-leb n (2 ^ 8 - 1) (omega arith)) refl

one_byte : (n : ℕ) → n < 2 ^ 8 → IsBytes (n ∷ [])
one_byte n h zero = omega arith
one_byte n h (suc i) = omega arith

code_is : (code : ErrCode) → code.0 < 2 ^ 8 → code_in (encode_lower (code.0 ∷ [])) ≡ Some code
code_is code h = rw (decode_sized-encode_lower (code.0 ∷ []) 1 refl (one_byte code.0 h)) refl

above-code : (n : ℕ) → n < 2 ^ 8 → is_above 32 (encode_lower (n ∷ [])) ≡ true
above-code n h = above-encode_lower (n ∷ []) (one_byte n h)

-- ---- octets

not_dash : (a b : ℕ) (more : List ℕ) → bytes_eq (a ∷ b ∷ more) (codes "-") ≡ false
not_dash a b more = and_right (a == 45) false refl

octets_are : (octets : List ℕ) → IsBytes octets → octets_in (hexadecimal octets) ≡ Some octets
unfolding encode_with
octets_are [] h = refl
octets_are (x ∷ xs) h = rw (not_dash _ _ (encode_lower xs), decode_of-encode_lower (x ∷ xs) h) refl

above-hexadecimal : (octets : List ℕ) → IsBytes octets → is_above 32 (hexadecimal octets) ≡ true
above-hexadecimal [] h = refl
above-hexadecimal (x ∷ xs) h = above-encode_lower (x ∷ xs) h

no_colon : (octets : List ℕ) → IsBytes octets → All (λ octet. (octet == 58) ≡ false) (hexadecimal octets)
no_colon [] h = All-cons (λ (octet : ℕ). (octet == 58) ≡ false) 45 [] refl (All-nil (λ (octet : ℕ). (octet == 58) ≡ false))
no_colon (x ∷ xs) h = no_colon-encode_lower (x ∷ xs) h

-- ---- marks

colon_parts : (at : ℕ) (pattern : List ℕ) → at < 2 ^ 16 → IsBytes pattern
    → slice_split (λ octet. octet == 58) (decimal at ++ 58 ∷ hexadecimal pattern) ≡ decimal at ∷ hexadecimal pattern ∷ []
colon_parts at pattern small bytes =
    slice_split_at (λ octet. octet == 58) (decimal at) 58 (hexadecimal pattern) (no_colon-decimal at (omega arith)) refl
    ∙ ap (λ (parts : List (List ℕ)). decimal at ∷ parts)
    (slice_split_none (λ octet. octet == 58) (hexadecimal pattern) (no_colon pattern bytes))

damage_letter : (octets : List ℕ) → (octets ≡ [] → ⊥) → mark_in (101 ∷ octets) ≡ damage_in octets
damage_letter [] some = absurd (some refl)
damage_letter (octet ∷ octets) some = refl

not_empty : (front : List ℕ) (octet : ℕ) (back : List ℕ) → front ++ octet ∷ back ≡ [] → ⊥
not_empty [] octet back e = absurd (cc)
not_empty (x ∷ front) octet back e = absurd (cc)

damage_word : (at : ℕ) (pattern : List ℕ) → mark_word (Damage at pattern) ≡ 101 ∷ (decimal at ++ 58 ∷ hexadecimal pattern)
damage_word at pattern = simp append_assoc

mark_is : (mark : Mark) → IsMark mark → mark_in (mark_word mark) ≡ Some mark
mark_is Pass h = refl
mark_is Lost h = refl
mark_is (Damage at pattern) h =
    ap mark_in (damage_word at pattern)
    ∙ damage_letter (decimal at ++ 58 ∷ hexadecimal pattern) (not_empty (decimal at) 58 (hexadecimal pattern))
    ∙ rw (colon_parts at pattern h.0 h.1, u16_is at h.0, octets_are pattern h.1) refl

above-mark : (mark : Mark) → IsMark mark → is_above 32 (mark_word mark) ≡ true
above-mark Pass h = refl
above-mark Lost h = refl
above-mark (Damage at pattern) h =
    let small : at < 2 ^ 16 = h.0 in
    ap (is_above 32) (damage_word at pattern)
    ∙ rw (list_all-append (λ octet. nat_lt 32 octet) (decimal at) (58 ∷ hexadecimal pattern), above-decimal at (omega arith)) (above-hexadecimal pattern h.1)

-- ---- entries

above-words : (entry : Entry) → IsEntry entry → list_all (λ w. is_above 32 w) (entry_words entry) ≡ true
above-words (Turn slot a b) h = rw (above-decimal slot h, above-radios a b) refl
above-words (Fed side octets) h = rw (above-side side, above-hexadecimal octets h) refl
above-words (Up side octets) h = rw (above-side side, above-hexadecimal octets h) refl
above-words (Air side channel octets fate verdict) h =
    let small : channel < 2 ^ 8 = h.0 in
    rw (above-side side, above-decimal channel (omega arith), above-hexadecimal octets h.1, above-mark fate h.2, above-verdict verdict) refl
above-words (Opened side link handle role) h =
    let small : handle < 2 ^ 16 = h.1 in
    rw (above-side side, above-decimal link h.0, above-decimal handle (omega arith), above-role role) refl
above-words (Shut side link reason) h = rw (above-side side, above-decimal link h.0, above-code reason.0 h.1) refl
above-words (Sent side link number llid body) h =
    let small : llid < 2 ^ 8 = h.2 in
    rw (above-side side, above-decimal link h.0, above-decimal number h.1, above-decimal llid (omega arith), above-hexadecimal body h.3) refl
above-words (Took side link number llid body) h =
    let small : llid < 2 ^ 8 = h.2 in
    rw (above-side side, above-decimal link h.0, above-decimal number h.1, above-decimal llid (omega arith), above-hexadecimal body h.3) refl
above-words (Enter side link event channel) h =
    let small : channel < 2 ^ 8 = h.2 in
    rw (above-side side, above-decimal link h.0, above-decimal event h.1, above-decimal channel (omega arith)) refl
above-words (Applied side link number event) h =
    rw (above-side side, above-decimal link h.0, above-decimal number h.1, above-decimal event h.2) refl
above-words (Began side link kind) h = rw (above-side side, above-decimal link h, above-kind kind) refl
above-words (Refused side link kind code) h =
    rw (above-side side, above-decimal link h.0, above-kind kind, above-code code.0 h.1) refl
above-words (Done side link kind) h = rw (above-side side, above-decimal link h, above-kind kind) refl

words_are : (entry : Entry) → IsEntry entry → entry_in (entry_words entry) ≡ Some entry
words_are (Turn slot a b) h = rw (u64_is slot h, radios_are a b) refl
words_are (Fed side octets) h = rw (side_is side, octets_are octets h) refl
words_are (Up side octets) h = rw (side_is side, octets_are octets h) refl
words_are (Air side channel octets fate verdict) h =
    rw (side_is side, u8_is channel h.0, octets_are octets h.1, mark_is fate h.2, verdict_is verdict) refl
words_are (Opened side link handle role) h = rw (side_is side, u64_is link h.0, u16_is handle h.1, role_is role) refl
words_are (Shut side link reason) h = rw (side_is side, u64_is link h.0, code_is reason h.1) refl
words_are (Sent side link number llid body) h =
    rw (side_is side, u64_is link h.0, u64_is number h.1, u8_is llid h.2, octets_are body h.3) refl
words_are (Took side link number llid body) h =
    rw (side_is side, u64_is link h.0, u64_is number h.1, u8_is llid h.2, octets_are body h.3) refl
words_are (Enter side link event channel) h = rw (side_is side, u64_is link h.0, u64_is event h.1, u8_is channel h.2) refl
words_are (Applied side link number event) h = rw (side_is side, u64_is link h.0, u64_is number h.1, u64_is event h.2) refl
words_are (Began side link kind) h = rw (side_is side, u64_is link h, kind_is kind) refl
words_are (Refused side link kind code) h = rw (side_is side, u64_is link h.0, kind_is kind, code_is code h.1) refl
words_are (Done side link kind) h = rw (side_is side, u64_is link h, kind_is kind) refl

-- ---- lines

by_words : (words : List (List ℕ)) (entry : Entry) → entry_in words ≡ Some entry → list_all (λ w. is_above 32 w) words ≡ true
    → first_entry (with_newline (line_of words)) ≡ Some entry
by_words [] entry read above = absurd (cc)
by_words (word ∷ words) entry read above =
    let spelled = line_of (word ∷ words) in
    let lines : lines_of (with_newline spelled) ≡ spelled ∷ []
    = ap lines_of (sym (append-nil (with_newline spelled)))
    ∙ lines_of-with_newline (spelled ∷ []) (and_from (is_above 10 spelled) true (above-line_of word words above) refl) in
    rw (lines, words_of-line_of word words above) read

-- the line of an entry is read as that entry
pub first_entry-line : (entry : Entry) (octets : List ℕ) → IsEntry entry → line entry ≡ octets → first_entry octets ≡ Some entry
first_entry-line entry octets fits same =
    rw (← same) (by_words (entry_words entry) entry (words_are entry fits) (above-words entry fits))

-- two entries with one line are equal
pub same_entry : (x y : Entry) → IsEntry x → IsEntry y → line x ≡ line y → x ≡ y
same_entry x y of_x of_y same =
    let first = first_entry-line x (line y) of_x same in
    let second = first_entry-line y (line y) of_y refl in
    cc

-- ---- texts

abbrev entry_line : Entry → List ℕ
entry_line entry = line_of (entry_words entry)

text_lines : (entries : List Entry) → text entries ≡ concat (map with_newline (map entry_line entries))
text_lines [] = refl
text_lines (entry ∷ entries) = ap (λ (more : List ℕ). line entry ++ more) (text_lines entries)

above-entry : (words : List (List ℕ)) → (words ≡ [] → ⊥) → list_all (λ w. is_above 32 w) words ≡ true → is_above 10 (line_of words) ≡ true
above-entry [] some above = absurd (some refl)
above-entry (word ∷ words) some above = above-line_of word words above

some_words : (entry : Entry) → IsEntry entry → entry_words entry ≡ [] → ⊥
some_words entry fits none = let read = words_are entry fits in let no : None ≡ Some entry = rw none at read in absurd (cc)

-- no octet of a line but its last is a newline
pub above-line : (entry : Entry) → IsEntry entry → is_above 10 (line_of (entry_words entry)) ≡ true
above-line entry fits = above-entry (entry_words entry) (some_words entry fits) (above-words entry fits)

above-entries : (entries : List Entry) → All IsEntry entries → list_all (λ l. is_above 10 l) (map entry_line entries) ≡ true
above-entries [] fit = refl
above-entries (entry ∷ entries) fit =
    let here = All-head IsEntry entry entries fit in
    and_from (is_above 10 (entry_line entry)) (list_all (λ l. is_above 10 l) (map entry_line entries))
    (above-line entry here)
    (above-entries entries (All-tail IsEntry entry entries fit))

lines_of-text : (entries : List Entry) → All IsEntry entries → lines_of (text entries) ≡ map entry_line entries
lines_of-text entries fit = ap lines_of (text_lines entries) ∙ lines_of-with_newline (map entry_line entries) (above-entries entries fit)

same_lines : (a b : List Entry) → All IsEntry a → All IsEntry b → map entry_line a ≡ map entry_line b → a ≡ b
same_lines [] [] fit_a fit_b same = refl
same_lines [] (y ∷ ys) fit_a fit_b same = absurd (cc)
same_lines (x ∷ xs) [] fit_a fit_b same = absurd (cc)
same_lines (x ∷ xs) (y ∷ ys) fit_a fit_b same =
    let heads : entry_line x ≡ entry_line y = cc in
    let tails : map entry_line xs ≡ map entry_line ys = cc in
    let first : x ≡ y = same_entry x y (All-head IsEntry x xs fit_a) (All-head IsEntry y ys fit_b) (ap with_newline heads) in
    let later : xs ≡ ys = same_lines xs ys (All-tail IsEntry x xs fit_a) (All-tail IsEntry y ys fit_b) tails in
    cc

-- two journals with one text are equal
pub same_text : (a b : List Entry) → All IsEntry a → All IsEntry b → text a ≡ text b → a ≡ b
same_text a b fit_a fit_b same =
    same_lines a b fit_a fit_b (sym (lines_of-text a fit_a) ∙ ap lines_of same ∙ lines_of-text b fit_b)

-- ---- what was read of octets, against the entries that are written so

pub is_found : (octets : List ℕ) (read : Option Entry) (found : Entry) → read ≡ first_entry octets → read ≡ Some found
    → (entry : Entry) → IsEntry entry → line entry ≡ octets → ◌≡◌ {A = Option Entry} (Some found) (Some entry)
is_found octets read found is some entry fits same = sym some ∙ is ∙ first_entry-line entry octets fits same

pub not_found : (octets : List ℕ) (read : Option Entry) → read ≡ first_entry octets → read ≡ None
    → (entry : Entry) → IsEntry entry → line entry ≡ octets → ◌≡◌ {A = Option Entry} None (Some entry)
not_found octets read is none entry fits same = sym none ∙ is ∙ first_entry-line entry octets fits same

pub other_line : (octets written : List ℕ) (read : Option Entry) (found : Entry) → read ≡ first_entry octets → read ≡ Some found
    → written ≡ line found → bytes_eq written octets ≡ false → (entry : Entry) → IsEntry entry → line entry ≡ octets → ⊥
other_line octets written read found is some spelled differs entry fits same =
    let both = is_found octets read found is some entry fits same in
    let one : found ≡ entry = cc in
    let equal : written ≡ octets = spelled ∙ ap line one ∙ same in
    let yes : bytes_eq written octets ≡ true = (bytes_eq-Decides written octets).1 equal in
    absurd (cc)
