-- What a layout reads is what its octets spell, and nothing else.
use Rattle.std.proofs.Common.{◌≡◌, ℕ, zero, suc, ◌+◌, ◌<◌, ◌≤◌, ◌^◌, List, [], ◌∷◌, ◌++◌, length, take, drop, refl, sym, ap, subst, ◌∙◌, arith}
use Rattle.std.proofs.lemmas.List.{take-append-drop, length-append, length-drop, length-take-le, get_or-drop}
use Rattle.wire_fields.specs.Field.{little_endian, number_of}
use Rattle.wire_fields.specs.Layout.{Layout, done, take_number, take_octets, take_rest, size_of, value_of, Spells, Makes}
use Rattle.wire_fields.proofs.LittleEndian.{AreOctets, length-little_endian, little_endian-number_of, number_of-fits, number_taken, number_left, octets_taken, octets_left}

are_octets-drop : (n : ℕ) (octets : List ℕ) → AreOctets octets → AreOctets (drop n octets)
are_octets-drop n octets small = λ i. rw get_or-drop (small (n + i))

octet_or : (x : ℕ) (octets : List ℕ) → x < 256 → AreOctets octets → AreOctets (x ∷ octets)
octet_or x octets first others zero = first
octet_or x octets first others (suc i) = others i

are_octets-take : (n : ℕ) (octets : List ℕ) → AreOctets octets → AreOctets (take n octets)
are_octets-take zero octets small = λ i. omega arith
are_octets-take (suc n) [] small = λ i. omega arith
are_octets-take (suc n) (x ∷ octets) small = octet_or x (take n octets) (small 0) (are_octets-take n octets (λ i. small (suc i)))

-- the front of octets is a number
number_front : (n : ℕ) (octets : List ℕ) → AreOctets octets → n ≤ length octets → (number_of (take n octets) < 256 ^ n) × (octets ≡ little_endian n (number_of (take n octets)) ++ drop n octets)
number_front n octets small room =
    let len : length (take n octets) ≡ n = length-take-le n octets room in
    let front = are_octets-take n octets small in
    let fits = number_of-fits (take n octets) front in
    let same = little_endian-number_of (take n octets) front in (
      subst (λ (k : ℕ). number_of (take n octets) < 256 ^ k) len fits,
      sym (ap (λ (s : List ℕ). s ++ drop n octets) (sym (ap (λ (k : ℕ). little_endian k (number_of (take n octets))) len) ∙ same) ∙ take-append-drop n octets),
    )

no_octets : (octets : List ℕ) → length octets ≡ 0 → octets ≡ []
no_octets [] len = refl
no_octets (x ∷ octets) len = absurd (omega arith)

-- what is read is spelled by the octets
pub read_is_spelled : {R : Type 0} (layout : Layout R) (octets : List ℕ) → AreOctets octets → length octets ≡ size_of layout octets → Spells layout (value_of layout octets) octets
read_is_spelled (done value) octets small len = (refl, no_octets octets len)
read_is_spelled (take_number n next) octets small len =
    let x = number_of (take n octets) in
    let front = number_front n octets small (omega arith) in
    let left : length (drop n octets) ≡ size_of (next x) (drop n octets) = omega (arith, length-drop n octets) in
    (x, drop n octets, front.0, front.1, read_is_spelled (next x) (drop n octets) (are_octets-drop n octets small) left)
read_is_spelled (take_octets n next) octets small len =
    let room : n ≤ length octets = omega arith in
    let left : length (drop n octets) ≡ size_of (next (take n octets)) (drop n octets) = omega (arith, length-drop n octets) in
    (take n octets, drop n octets, length-take-le n octets room, sym (take-append-drop n octets), read_is_spelled (next (take n octets)) (drop n octets) (are_octets-drop n octets small) left)
read_is_spelled (take_rest make) octets small len = refl

-- octets that spell a value are read as it
pub spelled_is_read : {R : Type 0} (layout : Layout R) (value : R) (octets : List ℕ) → Spells layout value octets → (length octets ≡ size_of layout octets) × (value_of layout octets ≡ value)
spelled_is_read (done made) value octets spells = (ap length spells.1, spells.0)
spelled_is_read (take_number n next) value octets spells =
    let x = spells.0 in
    let rest = spells.1 in
    let number = number_taken n x octets rest spells.3 spells.2 in
    let left = number_left n x octets rest spells.3 in
    let others = spelled_is_read (next x) value rest spells.4 in
    let len : length octets ≡ n + length rest = ap length spells.3 ∙ length-append (little_endian n x) rest ∙ ap (λ (k : ℕ). k + length rest) (length-little_endian n x) in
    (len ∙ ap (λ (k : ℕ). n + k) (others.0 ∙ rw (number, left) refl), rw (number, left) others.1)
spelled_is_read (take_octets n next) value octets spells =
    let field = spells.0 in
    let rest = spells.1 in
    let front = octets_taken n field octets rest spells.3 spells.2 in
    let left = octets_left n field octets rest spells.3 spells.2 in
    let others = spelled_is_read (next field) value rest spells.4 in
    let len : length octets ≡ n + length rest = ap length spells.3 ∙ length-append field rest ∙ ap (λ (k : ℕ). k + length rest) spells.2 in
    (len ∙ ap (λ (k : ℕ). n + k) (others.0 ∙ rw (front, left) refl), rw (front, left) others.1)
spelled_is_read (take_rest make) value octets spells = (refl, spells)

-- fields make what their octets spell
pub spelled_is_made : {R : Type 0} (layout : Layout R) (value : R) (octets : List ℕ) → Spells layout value octets → Makes layout value
spelled_is_made (done made) value octets spells = spells.0
spelled_is_made (take_number n next) value octets spells = (spells.0, spelled_is_made (next spells.0) value spells.1 spells.4)
spelled_is_made (take_octets n next) value octets spells = (spells.0, spelled_is_made (next spells.0) value spells.1 spells.4)
spelled_is_made (take_rest make) value octets spells = (octets, spells)

-- each layout makes some value
pub some_value : {R : Type 0} (layout : Layout R) → (value : R) × Makes layout value
some_value (done value) = (value, refl)
some_value (take_number n next) = let other = some_value (next 0) in (other.0, (0, other.1))
some_value (take_octets n next) = let other = some_value (next []) in (other.0, ([], other.1))
some_value (take_rest make) = (make [], ([], refl))
