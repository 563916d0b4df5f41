-- Each number of an entry that was read fits its type.
use Rattle.std.proofs.Common.{◌≡◌, ℕ, ◌^◌, ◌<◌, ◌≤◌, Bool, true, false, cond, List, [], ◌∷◌, Some, None, refl, sym, ◌∙◌, arith}
use Rattle.std.specs.Prelude.{Option, IfSome, Result, Ok, Err, slice_get, nat_le, ◌&&◌, ◌==◌, codes}
use Rattle.std.specs.List.{slice_split}
use Rattle.std.specs.Option.{option_map}
use Rattle.std.specs.Result.{result_ok}
use Rattle.std.specs.Str.{bytes_eq}
use Rattle.std.proofs.lemmas.Bool.{and_parts, leb-true}
use Rattle.hex.specs.Hex.{IsBytes, decode_of, decode_sized}
use Rattle.hex.specs.declared.error.FromHexError.{FromHexError}
use Rattle.hex.proofs.HexLemmas.{decode_of-ok, decode_sized-ok, decode_sized-twice}
use Rattle.line_words.specs.Numbers.{in_range, number_in}
use Rattle.line_words.specs.Parts.{two_parts}
use Rattle.line_words.specs.Text.{lines_of, words_of}
use Rattle.ble_base.specs.declared.ErrCode.{ErrCode}
use Rattle.ble_base.specs.declared.roles.Side.{Side}
use Rattle.ble_base.specs.declared.roles.Role.{Role}
use Rattle.ble_base.specs.declared.procedure_kinds.Kind.{Kind}
use Rattle.ble_base.specs.declared.verdicts.Verdict.{Verdict}
use Rattle.journal.specs.declared.entries.Entry.{Entry}
use Rattle.journal.specs.declared.entries.Mark.{Mark}
use Rattle.journal.specs.declared.entries.Mark.TheVariants.{Pass, Lost}
use Rattle.journal.specs.Fields.{code_in, code_of, damage_in, damage_mark, kind_in, mark_in, octets_in, parts_mark, radios_in, role_in, side_in, u16_in, u64_in, u8_in, verdict_in}
use Rattle.journal.specs.Range.{IsEntry, IsMark}
use Rattle.journal.specs.Reading.{air_in, air_of, applied_in, applied_of, began_in, began_of, done_in, done_of, enter_in, enter_of, entry_in, entry_of_line, fed_in, fed_of, first_entry, link_in, opened_in, opened_of, packet_in, procedure_in, refused_in, refused_of, sent_in, sent_of, shut_in, shut_of, took_in, took_of, turn_in, turn_of, up_in, up_of}
use Rattle.journal.specs.WordTuples.{Two, Three, Four, Five, two_words, three_words, four_words, five_words}

-- ---- numbers, octets and marks

under_most : (b : Bool) (most n : ℕ) → (b ≡ true → n ≤ most) → IfSome (cond b (Some n) None) (λ m. m ≤ most)
under_most true most n h = h refl
under_most false most n h = tt

in_range-most : (most : ℕ) (number : Option ℕ) → IfSome (in_range 0 most number) (λ n. n ≤ most)
in_range-most most None = tt
in_range-most most (Some n) =
    under_most (nat_le 0 n && nat_le n most) most n (λ e. leb-true n most (and_parts (nat_le 0 n) (nat_le n most) e).1)

below : (limit most : ℕ) (number : Option ℕ) → ((n : ℕ) → n ≤ most → n < limit) → IfSome number (λ n. n ≤ most) → IfSome number (λ n. n < limit)
below limit most None small h = tt
below limit most (Some n) small h = small n h

u64_fits : (word : List ℕ) → IfSome (u64_in word) (λ n. n < 2 ^ 64)
u64_fits word = below _ _ (u64_in word) (λ n h. omega arith) (in_range-most _ (number_in word))

u16_fits : (word : List ℕ) → IfSome (u16_in word) (λ n. n < 2 ^ 16)
u16_fits word = below _ _ (u16_in word) (λ n h. omega arith) (in_range-most _ (number_in word))

u8_fits : (word : List ℕ) → IfSome (u8_in word) (λ n. n < 2 ^ 8)
u8_fits word = below _ _ (u8_in word) (λ n h. omega arith) (in_range-most _ (number_in word))

decoded_fits : (read : Result (List ℕ) FromHexError) → ((bytes : List ℕ) → read ≡ Ok bytes → IsBytes bytes) → IfSome (result_ok read) IsBytes
decoded_fits (Ok bytes) h = h bytes refl
decoded_fits (Err e) h = tt

dash_or : (b : Bool) (read : Option (List ℕ)) → IfSome read IsBytes → IfSome (cond b (Some []) read) IsBytes
dash_or true read h = λ i. omega arith
dash_or false read h = h

octets_fit : (word : List ℕ) → IfSome (octets_in word) IsBytes
octets_fit word =
    dash_or (bytes_eq word (codes "-")) (result_ok (decode_of word))
    (decoded_fits (decode_of word) (λ bytes e. (decode_of-ok word bytes e).3))

first_octet : (read : Option (List ℕ)) → IfSome read IsBytes → IfSome (option_map code_of read) (λ code. code.0 < 2 ^ 8)
first_octet None h = tt
first_octet (Some octets) h = let first = h 0 in omega arith

sized_fits : (word : List ℕ) → IfSome (result_ok (decode_sized word 1)) IsBytes
sized_fits word =
    decoded_fits (decode_sized word 1)
    (λ bytes e. (decode_of-ok word bytes (sym (decode_sized-twice word 1 (decode_sized-ok word 1 bytes e)) ∙ e)).3)

code_fits : (word : List ℕ) → IfSome (code_in word) (λ code. code.0 < 2 ^ 8)
code_fits word = first_octet (result_ok (decode_sized word 1)) (sized_fits word)

damage_fits : (at : Option ℕ) (pattern : Option (List ℕ)) → IfSome at (λ n. n < 2 ^ 16) → IfSome pattern IsBytes → IfSome (damage_mark at pattern) IsMark
damage_fits (Some at) (Some pattern) a p = (a, p)
damage_fits _ _ a p = tt

parts_fit : (parts : Option (List ℕ × List ℕ)) → IfSome (parts_mark parts) IsMark
parts_fit None = tt
parts_fit (Some parts) = damage_fits (u16_in parts.0) (octets_in parts.1) (u16_fits parts.0) (octets_fit parts.1)

plain_fits : (passed lost : Bool) → IfSome (cond passed (Some Pass) (cond lost (Some Lost) None)) IsMark
plain_fits true lost = tt
plain_fits false true = tt
plain_fits false false = tt

damage_or : (b : Bool) (read : Option Mark) → IfSome read IsMark → IfSome (cond b read None) IsMark
damage_or true read h = h
damage_or false read h = tt

mark_fits : (word : List ℕ) → IfSome (mark_in word) IsMark
mark_fits [] = tt
mark_fits (letter ∷ []) = plain_fits (letter == 46) (letter == 120)
mark_fits (letter ∷ next ∷ octets) = damage_or (letter == 101) (damage_in (next ∷ octets))
    (parts_fit (two_parts (slice_split (λ octet. octet == 58) (next ∷ octets))))

-- ---- entries of their parts

turn_fits : (slot : Option ℕ) (radios : Option (Bool × Option Bool)) → IfSome slot (λ n. n < 2 ^ 64) → IfSome (turn_of slot radios) IsEntry
turn_fits (Some slot) (Some radios) h = h
turn_fits _ _ h = tt

fed_fits : (side : Option Side) (octets : Option (List ℕ)) → IfSome octets IsBytes → IfSome (fed_of side octets) IsEntry
fed_fits (Some side) (Some octets) h = h
fed_fits _ _ h = tt

up_fits : (side : Option Side) (octets : Option (List ℕ)) → IfSome octets IsBytes → IfSome (up_of side octets) IsEntry
up_fits (Some side) (Some octets) h = h
up_fits _ _ h = tt

air_fits : (side : Option Side) (channel : Option ℕ) (octets : Option (List ℕ)) (fate : Option Mark) (verdict : Option Verdict)
    → IfSome channel (λ n. n < 2 ^ 8) → IfSome octets IsBytes → IfSome fate IsMark → IfSome (air_of side channel octets fate verdict) IsEntry
air_fits (Some side) (Some channel) (Some octets) (Some fate) (Some verdict) c o f = (c, o, f)
air_fits _ _ _ _ _ c o f = tt

opened_fits : (side : Option Side) (link handle : Option ℕ) (role : Option Role)
    → IfSome link (λ n. n < 2 ^ 64) → IfSome handle (λ n. n < 2 ^ 16) → IfSome (opened_of side link handle role) IsEntry
opened_fits (Some side) (Some link) (Some handle) (Some role) l h = (l, h)
opened_fits _ _ _ _ l h = tt

shut_fits : (side : Option Side) (link : Option ℕ) (reason : Option ErrCode)
    → IfSome link (λ n. n < 2 ^ 64) → IfSome reason (λ code. code.0 < 2 ^ 8) → IfSome (shut_of side link reason) IsEntry
shut_fits (Some side) (Some link) (Some reason) l r = (l, r)
shut_fits _ _ _ l r = tt

sent_fits : (side : Option Side) (link number llid : Option ℕ) (body : Option (List ℕ))
    → IfSome link (λ n. n < 2 ^ 64) → IfSome number (λ n. n < 2 ^ 64) → IfSome llid (λ n. n < 2 ^ 8) → IfSome body IsBytes
    → IfSome (sent_of side link number llid body) IsEntry
sent_fits (Some side) (Some link) (Some number) (Some llid) (Some body) l n i b = (l, n, i, b)
sent_fits _ _ _ _ _ l n i b = tt

took_fits : (side : Option Side) (link number llid : Option ℕ) (body : Option (List ℕ))
    → IfSome link (λ n. n < 2 ^ 64) → IfSome number (λ n. n < 2 ^ 64) → IfSome llid (λ n. n < 2 ^ 8) → IfSome body IsBytes
    → IfSome (took_of side link number llid body) IsEntry
took_fits (Some side) (Some link) (Some number) (Some llid) (Some body) l n i b = (l, n, i, b)
took_fits _ _ _ _ _ l n i b = tt

enter_fits : (side : Option Side) (link event channel : Option ℕ)
    → IfSome link (λ n. n < 2 ^ 64) → IfSome event (λ n. n < 2 ^ 64) → IfSome channel (λ n. n < 2 ^ 8) → IfSome (enter_of side link event channel) IsEntry
enter_fits (Some side) (Some link) (Some event) (Some channel) l e c = (l, e, c)
enter_fits _ _ _ _ l e c = tt

applied_fits : (side : Option Side) (link number event : Option ℕ)
    → IfSome link (λ n. n < 2 ^ 64) → IfSome number (λ n. n < 2 ^ 64) → IfSome event (λ n. n < 2 ^ 64) → IfSome (applied_of side link number event) IsEntry
applied_fits (Some side) (Some link) (Some number) (Some event) l n e = (l, n, e)
applied_fits _ _ _ _ l n e = tt

began_fits : (side : Option Side) (link : Option ℕ) (kind : Option Kind) → IfSome link (λ n. n < 2 ^ 64) → IfSome (began_of side link kind) IsEntry
began_fits (Some side) (Some link) (Some kind) l = l
began_fits _ _ _ l = tt

refused_fits : (side : Option Side) (link : Option ℕ) (kind : Option Kind) (code : Option ErrCode)
    → IfSome link (λ n. n < 2 ^ 64) → IfSome code (λ code. code.0 < 2 ^ 8) → IfSome (refused_of side link kind code) IsEntry
refused_fits (Some side) (Some link) (Some kind) (Some code) l c = (l, c)
refused_fits _ _ _ _ l c = tt

done_fits : (side : Option Side) (link : Option ℕ) (kind : Option Kind) → IfSome link (λ n. n < 2 ^ 64) → IfSome (done_of side link kind) IsEntry
done_fits (Some side) (Some link) (Some kind) l = l
done_fits _ _ _ l = tt

-- ---- entries of words

turn_words : (w : Option Two) → IfSome (turn_in w) IsEntry
turn_words None = tt
turn_words (Some w) = turn_fits (u64_in w.0) (radios_in w.1) (u64_fits w.0)

fed_words : (w : Option Two) → IfSome (fed_in w) IsEntry
fed_words None = tt
fed_words (Some w) = fed_fits (side_in w.0) (octets_in w.1) (octets_fit w.1)

up_words : (w : Option Two) → IfSome (up_in w) IsEntry
up_words None = tt
up_words (Some w) = up_fits (side_in w.0) (octets_in w.1) (octets_fit w.1)

air_words : (w : Option Five) → IfSome (air_in w) IsEntry
air_words None = tt
air_words (Some w) =
    air_fits (side_in w.0) (u8_in w.1) (octets_in w.2) (mark_in w.3) (verdict_in w.4) (u8_fits w.1) (octets_fit w.2) (mark_fits w.3)

opened_words : (w : Option Four) → IfSome (opened_in w) IsEntry
opened_words None = tt
opened_words (Some w) = opened_fits (side_in w.0) (u64_in w.1) (u16_in w.2) (role_in w.3) (u64_fits w.1) (u16_fits w.2)

shut_words : (w : Option Three) → IfSome (shut_in w) IsEntry
shut_words None = tt
shut_words (Some w) = shut_fits (side_in w.0) (u64_in w.1) (code_in w.2) (u64_fits w.1) (code_fits w.2)

sent_words : (w : Option Five) → IfSome (sent_in w) IsEntry
sent_words None = tt
sent_words (Some w) =
    sent_fits (side_in w.0) (u64_in w.1) (u64_in w.2) (u8_in w.3) (octets_in w.4)
    (u64_fits w.1) (u64_fits w.2) (u8_fits w.3) (octets_fit w.4)

took_words : (w : Option Five) → IfSome (took_in w) IsEntry
took_words None = tt
took_words (Some w) =
    took_fits (side_in w.0) (u64_in w.1) (u64_in w.2) (u8_in w.3) (octets_in w.4)
    (u64_fits w.1) (u64_fits w.2) (u8_fits w.3) (octets_fit w.4)

enter_words : (w : Option Four) → IfSome (enter_in w) IsEntry
enter_words None = tt
enter_words (Some w) = enter_fits (side_in w.0) (u64_in w.1) (u64_in w.2) (u8_in w.3) (u64_fits w.1) (u64_fits w.2) (u8_fits w.3)

applied_words : (w : Option Four) → IfSome (applied_in w) IsEntry
applied_words None = tt
applied_words (Some w) =
    applied_fits (side_in w.0) (u64_in w.1) (u64_in w.2) (u64_in w.3) (u64_fits w.1) (u64_fits w.2) (u64_fits w.3)

began_words : (w : Option Three) → IfSome (began_in w) IsEntry
began_words None = tt
began_words (Some w) = began_fits (side_in w.0) (u64_in w.1) (kind_in w.2) (u64_fits w.1)

refused_words : (w : Option Four) → IfSome (refused_in w) IsEntry
refused_words None = tt
refused_words (Some w) = refused_fits (side_in w.0) (u64_in w.1) (kind_in w.2) (code_in w.3) (u64_fits w.1) (code_fits w.3)

done_words : (w : Option Three) → IfSome (done_in w) IsEntry
done_words None = tt
done_words (Some w) = done_fits (side_in w.0) (u64_in w.1) (kind_in w.2) (u64_fits w.1)

-- ---- entries of lines

choice_fits : (b : Bool) (x y : Option Entry) → IfSome x IsEntry → IfSome y IsEntry → IfSome (cond b x y) IsEntry
choice_fits true x y h k = h
choice_fits false x y h k = k

procedure_fits : (name : List ℕ) (words : List (List ℕ)) → IfSome (procedure_in name words) IsEntry
procedure_fits name words =
    choice_fits (bytes_eq name (codes "applied")) _ _ (applied_words (four_words words))
    (choice_fits (bytes_eq name (codes "began")) _ _ (began_words (three_words words))
    (choice_fits (bytes_eq name (codes "refused")) _ _ (refused_words (four_words words))
    (choice_fits (bytes_eq name (codes "done")) _ _ (done_words (three_words words)) tt)))

packet_fits : (name : List ℕ) (words : List (List ℕ)) → IfSome (packet_in name words) IsEntry
packet_fits name words =
    choice_fits (bytes_eq name (codes "air")) _ _ (air_words (five_words words))
    (choice_fits (bytes_eq name (codes "sent")) _ _ (sent_words (five_words words))
    (choice_fits (bytes_eq name (codes "took")) _ _ (took_words (five_words words)) (procedure_fits name words)))

link_fits : (name : List ℕ) (words : List (List ℕ)) → IfSome (link_in name words) IsEntry
link_fits name words =
    choice_fits (bytes_eq name (codes "open")) _ _ (opened_words (four_words words))
    (choice_fits (bytes_eq name (codes "shut")) _ _ (shut_words (three_words words))
    (choice_fits (bytes_eq name (codes "enter")) _ _ (enter_words (four_words words)) (packet_fits name words)))

words_fit : (words : List (List ℕ)) → IfSome (entry_in words) IsEntry
words_fit [] = tt
words_fit (name ∷ words) =
    choice_fits (bytes_eq name (codes "turn")) _ _ (turn_words (two_words words))
    (choice_fits (bytes_eq name (codes "in")) _ _ (fed_words (two_words words))
    (choice_fits (bytes_eq name (codes "up")) _ _ (up_words (two_words words)) (link_fits name words)))

line_fits : (line : Option (List ℕ)) → IfSome (entry_of_line line) IsEntry
line_fits None = tt
line_fits (Some line) = words_fit (words_of line)

-- the entry that a text spells has numbers that fit
pub first_fits : (text : List ℕ) (read : Option Entry) → read ≡ first_entry text → IfSome read IsEntry
first_fits text read is = rw is (line_fits (slice_get (lines_of text) 0))
