-- The octets of a number: what std says of the bytes of its integers, and the number that octets are.
use Rattle.std.proofs.Common.{◌≡◌, ℕ, zero, suc, ◌+◌, ◌*◌, ◌%◌, ◌/◌, ◌<◌, ◌^◌, List, [], ◌∷◌, ◌++◌, length, get_or, take, drop, refl, sym, ap, subst, ◌∙◌, arith}
use Rattle.std.specs.Int.{w16, w32, w64, to_le_bytes, from_le_bytes}
use Rattle.std.proofs.Math.Nat.{div-div-eq-div-mul, pow-suc}
use Rattle.std.proofs.lemmas.List.{drop_at, take_at}
use Rattle.std.proofs.lemmas.Nat.{le_bytes_2, le_bytes_4, le_bytes_8}
use Rattle.wire_fields.specs.Field.{little_endian, number_of}

pub length-little_endian : (n x : ℕ) → length (little_endian n x) ≡ n
unfolding little_endian
length-little_endian zero x = refl
length-little_endian (suc n) x = ap suc (length-little_endian n (x / 256))

-- ---- what the bytes of std's integers are

pub little_endian_1 : (x : ℕ) → x < 256 → x ∷ [] ≡ little_endian 1 x
unfolding little_endian
little_endian_1 x small = ap (λ (d : ℕ). d ∷ []) (omega arith)

pub to_le_bytes_2 : (x : ℕ) → to_le_bytes w16 x ≡ little_endian 2 x
unfolding little_endian
to_le_bytes_2 x = refl

pub to_le_bytes_4 : (x : ℕ) → to_le_bytes w32 x ≡ little_endian 4 x
unfolding little_endian
to_le_bytes_4 x = simp div-div-eq-div-mul

pub to_le_bytes_8 : (x : ℕ) → to_le_bytes w64 x ≡ little_endian 8 x
unfolding little_endian
to_le_bytes_8 x = simp div-div-eq-div-mul

pub take_3 : (x : ℕ) → take 3 (to_le_bytes w32 x) ≡ little_endian 3 x
unfolding little_endian
take_3 x = simp div-div-eq-div-mul

pub take_5 : (x : ℕ) → take 5 (to_le_bytes w64 x) ≡ little_endian 5 x
unfolding little_endian
take_5 x = simp div-div-eq-div-mul

-- ---- what was read from the front is spelled there

pub read_1 : (s front rest : List ℕ) → s ≡ front ++ rest → length front ≡ 1 → ((i : ℕ) → get_or front i 0 < 256) → s ≡ little_endian 1 (get_or front 0 0) ++ rest
read_1 s [] rest e len small = absurd (omega arith)
read_1 s (x ∷ []) rest e len small = e ∙ ap (λ (t : List ℕ). t ++ rest) (little_endian_1 x (small 0))
read_1 s (x ∷ y ∷ front) rest e len small = absurd (omega arith)

pub read_2 : (s front rest : List ℕ) (x : ℕ) → s ≡ front ++ rest → length front ≡ 2 → ((i : ℕ) → get_or front i 0 < 256) → x ≡ from_le_bytes w16 front → s ≡ little_endian 2 x ++ rest
read_2 s front rest x e len small value = e ∙ ap (λ (t : List ℕ). t ++ rest) (sym (le_bytes_2 front x len small value) ∙ to_le_bytes_2 x)

pub read_4 : (s front rest : List ℕ) (x : ℕ) → s ≡ front ++ rest → length front ≡ 4 → ((i : ℕ) → get_or front i 0 < 256) → x ≡ from_le_bytes w32 front → s ≡ little_endian 4 x ++ rest
read_4 s front rest x e len small value = e ∙ ap (λ (t : List ℕ). t ++ rest) (sym (le_bytes_4 front x len small value) ∙ to_le_bytes_4 x)

pub read_8 : (s front rest : List ℕ) (x : ℕ) → s ≡ front ++ rest → length front ≡ 8 → ((i : ℕ) → get_or front i 0 < 256) → x ≡ from_le_bytes w64 front → s ≡ little_endian 8 x ++ rest
read_8 s front rest x e len small value = e ∙ ap (λ (t : List ℕ). t ++ rest) (sym (le_bytes_8 front x len small value) ∙ to_le_bytes_8 x)

-- ---- the lowest octets of a wider number

-- a list of three or five octets is that of its elements
list_3 : (xs : List ℕ) → length xs ≡ 3 → xs ≡ get_or xs 0 0 ∷ get_or xs 1 0 ∷ get_or xs 2 0 ∷ []
list_3 (a ∷ b ∷ c ∷ []) len = refl
list_3 [] len = absurd (omega arith)
list_3 (a ∷ []) len = absurd (omega arith)
list_3 (a ∷ b ∷ []) len = absurd (omega arith)
list_3 (a ∷ b ∷ c ∷ d ∷ xs) len = absurd (omega arith)

list_5 : (xs : List ℕ) → length xs ≡ 5 → xs ≡ get_or xs 0 0 ∷ get_or xs 1 0 ∷ get_or xs 2 0 ∷ get_or xs 3 0 ∷ get_or xs 4 0 ∷ []
list_5 (a ∷ b ∷ c ∷ d ∷ e ∷ []) len = refl
list_5 [] len = absurd (omega arith)
list_5 (a ∷ []) len = absurd (omega arith)
list_5 (a ∷ b ∷ []) len = absurd (omega arith)
list_5 (a ∷ b ∷ c ∷ []) len = absurd (omega arith)
list_5 (a ∷ b ∷ c ∷ d ∷ []) len = absurd (omega arith)
list_5 (a ∷ b ∷ c ∷ d ∷ e ∷ f ∷ xs) len = absurd (omega arith)

wide_small : (front zeros : List ℕ) → ((i : ℕ) → get_or front i 0 < 256) → ((i : ℕ) → get_or zeros i 0 < 256) → (i : ℕ) → get_or (front ++ zeros) i 0 < 256
wide_small [] zeros f z i = z i
wide_small (x ∷ front) zeros f z zero = f 0
wide_small (x ∷ front) zeros f z (suc i) = wide_small front zeros (λ j. f (suc j)) z i

no_octet : (i : ℕ) → get_or (0 ∷ []) i 0 < 256
no_octet zero = omega arith
no_octet (suc i) = omega arith

no_octets : (i : ℕ) → get_or (0 ∷ 0 ∷ 0 ∷ []) i 0 < 256
no_octets zero = omega arith
no_octets (suc zero) = omega arith
no_octets (suc (suc zero)) = omega arith
no_octets (suc (suc (suc i))) = omega arith

from_3 : (a b c x : ℕ) → ((i : ℕ) → get_or (a ∷ b ∷ c ∷ []) i 0 < 256) → x ≡ from_le_bytes w32 (a ∷ b ∷ c ∷ 0 ∷ []) → a ∷ b ∷ c ∷ [] ≡ little_endian 3 x
from_3 a b c x small value =
    ap (take 3) (sym (le_bytes_4 (a ∷ b ∷ c ∷ 0 ∷ []) x refl (wide_small (a ∷ b ∷ c ∷ []) (0 ∷ []) small no_octet) value)) ∙ take_3 x

from_5 : (a b c d e x : ℕ) → ((i : ℕ) → get_or (a ∷ b ∷ c ∷ d ∷ e ∷ []) i 0 < 256) → x ≡ from_le_bytes w64 (a ∷ b ∷ c ∷ d ∷ e ∷ 0 ∷ 0 ∷ 0 ∷ []) → a ∷ b ∷ c ∷ d ∷ e ∷ [] ≡ little_endian 5 x
from_5 a b c d e x small value =
    ap (take 5) (sym (le_bytes_8 (a ∷ b ∷ c ∷ d ∷ e ∷ 0 ∷ 0 ∷ 0 ∷ []) x refl (wide_small (a ∷ b ∷ c ∷ d ∷ e ∷ []) (0 ∷ 0 ∷ 0 ∷ []) small no_octets) value)) ∙ take_5 x

pub read_3 : (s front rest : List ℕ) (x : ℕ) → s ≡ front ++ rest → length front ≡ 3 → ((i : ℕ) → get_or front i 0 < 256) → x ≡ from_le_bytes w32 (get_or front 0 0 ∷ get_or front 1 0 ∷ get_or front 2 0 ∷ 0 ∷ []) → s ≡ little_endian 3 x ++ rest
read_3 s front rest x e len small value =
    let parts = list_3 front len in
    let same : (i : ℕ) → get_or (get_or front 0 0 ∷ get_or front 1 0 ∷ get_or front 2 0 ∷ []) i 0 < 256 = subst (λ (t : List ℕ). (i : ℕ) → get_or t i 0 < 256) parts small in
    e ∙ ap (λ (t : List ℕ). t ++ rest) (parts ∙ from_3 _ _ _ x same value)

pub read_5 : (s front rest : List ℕ) (x : ℕ) → s ≡ front ++ rest → length front ≡ 5 → ((i : ℕ) → get_or front i 0 < 256) → x ≡ from_le_bytes w64 (get_or front 0 0 ∷ get_or front 1 0 ∷ get_or front 2 0 ∷ get_or front 3 0 ∷ get_or front 4 0 ∷ 0 ∷ 0 ∷ 0 ∷ []) → s ≡ little_endian 5 x ++ rest
read_5 s front rest x e len small value =
    let parts = list_5 front len in
    let same : (i : ℕ) → get_or (get_or front 0 0 ∷ get_or front 1 0 ∷ get_or front 2 0 ∷ get_or front 3 0 ∷ get_or front 4 0 ∷ []) i 0 < 256 = subst (λ (t : List ℕ). (i : ℕ) → get_or t i 0 < 256) parts small in
    e ∙ ap (λ (t : List ℕ). t ++ rest) (parts ∙ from_5 _ _ _ _ _ x same value)

pub octet_1 : (s front rest : List ℕ) → s ≡ front ++ rest → length front ≡ 1 → s ≡ get_or front 0 0 ∷ rest
octet_1 s [] rest e len = absurd (omega arith)
octet_1 s (x ∷ []) rest e len = e
octet_1 s (x ∷ y ∷ front) rest e len = absurd (omega arith)

-- ---- the number that octets are

-- all are octets
abbrev pub AreOctets : List ℕ → Type 0
AreOctets octets = (i : ℕ) → get_or octets i 0 < 256

-- ---- numbers of several octets

pub number_of-little_endian : (n x : ℕ) → x < 256 ^ n → number_of (little_endian n x) ≡ x
unfolding little_endian
number_of-little_endian zero x fits = omega arith
number_of-little_endian (suc n) x fits =
    let high : x / 256 < 256 ^ n = omega arith in
    let rest : number_of (little_endian n (x / 256)) ≡ x / 256 = number_of-little_endian n (x / 256) high in
    omega arith

pub little_endian-number_of : (octets : List ℕ) → AreOctets octets → little_endian (length octets) (number_of octets) ≡ octets
unfolding little_endian
little_endian-number_of [] small = refl
little_endian-number_of (octet ∷ octets) small =
    let here : octet < 256 = small 0 in
    let low : (octet + 256 * number_of octets) % 256 ≡ octet = omega arith in
    let high : (octet + 256 * number_of octets) / 256 ≡ number_of octets = omega arith in
    let rest : little_endian (length octets) ((octet + 256 * number_of octets) / 256) ≡ octets = ap (little_endian (length octets)) high ∙ little_endian-number_of octets (λ i. small (suc i)) in
    λ i. low i ∷ rest i

pub number_of-fits : (octets : List ℕ) → AreOctets octets → number_of octets < 256 ^ length octets
number_of-fits [] small = omega arith
number_of-fits (octet ∷ octets) small =
    let rest = number_of-fits octets (λ i. small (suc i)) in
    let here : octet < 256 = small 0 in
    omega (arith, pow-suc 256 (length octets))

-- ---- one field at the front

-- a number and what is after it, by place
pub number_taken : (n x : ℕ) (octets rest : List ℕ) → octets ≡ little_endian n x ++ rest → x < 256 ^ n → number_of (take n octets) ≡ x
number_taken n x octets rest is fits =
    ap (λ (s : List ℕ). number_of (take n s)) is ∙ ap number_of (take_at (little_endian n x) rest n (length-little_endian n x)) ∙ number_of-little_endian n x fits

pub number_left : (n x : ℕ) (octets rest : List ℕ) → octets ≡ little_endian n x ++ rest → drop n octets ≡ rest
number_left n x octets rest is = ap (drop n) is ∙ drop_at (little_endian n x) rest n (length-little_endian n x)

pub octets_taken : (n : ℕ) (field octets rest : List ℕ) → octets ≡ field ++ rest → length field ≡ n → take n octets ≡ field
octets_taken n field octets rest is len = ap (take n) is ∙ take_at field rest n len

pub octets_left : (n : ℕ) (field octets rest : List ℕ) → octets ≡ field ++ rest → length field ≡ n → drop n octets ≡ rest
octets_left n field octets rest is len = ap (drop n) is ∙ drop_at field rest n len

-- an array at the front, and what is after it
pub array_taken : (n : ℕ) (field octets rest : List ℕ) → octets ≡ field ++ rest → length field ≡ n → field ≡ take n octets
array_taken n field octets rest is len = sym (octets_taken n field octets rest is len)

pub array_left : (n : ℕ) (field octets rest : List ℕ) → octets ≡ field ++ rest → length field ≡ n → rest ≡ drop n octets
array_left n field octets rest is len = sym (octets_left n field octets rest is len)

-- for the function that takes an array
pub ruleset array_front = (array_taken, array_left)
