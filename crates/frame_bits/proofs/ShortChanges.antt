-- Two sequences of bits with one remainder that differ only within 24 consecutive bits.
use Rattle.std.proofs.Common.{◌≡◌, ℕ, zero, suc, ◌+◌, ◌*◌, ◌^◌, ◌<◌, ◌≤◌, List, [], ◌∷◌, ◌++◌, length, take, drop, bit_xor, refl, ap, sym, subst, ◌∙◌, arith, add_comm, zero-mul}
use Rattle.std.specs.List.{All}
use lib.Bits.{xor_assoc, xor_lt, xor_self, xor_zero_r}
use Rattle.std.proofs.Math.Nat.{pow-le-pow_right}
use Rattle.std.proofs.lemmas.List.{drop-drop, length-append, length-drop, length-take, take-append-drop, take_at}
use Rattle.std.proofs.lemmas.List.Concat.{flat_map-append}
use Rattle.std.proofs.lemmas.List.Elements.{All-head, All-tail}
use Rattle.std.proofs.lemmas.Nat.{same_from_place}
use Rattle.frame_bits.specs.AirBits.{air_bits, lowest_first, octet_bits, DiffersWithin}
use Rattle.frame_bits.specs.Crc.{crc, crc_of_bits, crc_octets, polynomial, remainder}
use Rattle.frame_bits.proofs.BitLists.{AreBits, AreBits-air, length-air_bits, polynomial-append, polynomial-lt}
use Rattle.frame_bits.proofs.Multiples.{power_kept}
use Rattle.frame_bits.proofs.OctetValues.{lowest_first-octet_bits}
use Rattle.frame_bits.proofs.Registers.{crc-lt}
use Rattle.frame_bits.proofs.Remainders.{remainder-longer, remainder-small, remainder-up, remainder-xor, same_from_xor, xor-up, xor_apart, xor_swap}
use Rattle.frame_bits.proofs.SentOrder.{air_bits-down, polynomial-air_bits}

-- ---- a polynomial and its bits

pub same_bits : (xs ys : List ℕ) → AreBits xs → AreBits ys → length xs ≡ length ys → polynomial xs ≡ polynomial ys → xs ≡ ys
same_bits [] [] are also same e = refl
same_bits [] (y ∷ ys) are also same e = absurd (omega arith)
same_bits (x ∷ xs) [] are also same e = absurd (omega arith)
same_bits (x ∷ xs) (y ∷ ys) are also same e =
    let shorter : length xs ≡ length ys = omega arith in
    let n = length xs in
    let low : polynomial ys < 2 ^ n = subst (λ (k : ℕ). polynomial ys < 2 ^ k) (sym shorter) (polynomial-lt ys also.1) in
    let sum : x * 2 ^ n + polynomial xs ≡ y * 2 ^ n + polynomial ys =
    sym (xor_apart x (polynomial xs) n (polynomial-lt xs are.1)) ∙ e
    ∙ ap (λ k. bit_xor (y * 2 ^ k) (polynomial ys)) (sym shorter) ∙ xor_apart y (polynomial ys) n low in
    let parts = same_from_place x (polynomial xs) y (polynomial ys) (2 ^ n) (polynomial-lt xs are.1) low sum in
    let rest = same_bits xs ys are.1 also.1 shorter parts.1 in
    λ i. parts.0 i ∷ rest i

pub same_octets : (xs ys : List ℕ) → All (λ octet. octet < 2 ^ 8) xs → All (λ octet. octet < 2 ^ 8) ys → length xs ≡ length ys
    → air_bits xs ≡ air_bits ys → xs ≡ ys
same_octets [] [] all also same e = refl
same_octets [] (y ∷ ys) all also same e = absurd (omega arith)
same_octets (x ∷ xs) [] all also same e = absurd (omega arith)
same_octets (x ∷ xs) (y ∷ ys) all also same e =
    let first : x ≡ y =
    sym (lowest_first-octet_bits x (All-head (λ k. k < 2 ^ 8) x xs all)) ∙ ap (λ bits. lowest_first (take 8 bits)) e
    ∙ lowest_first-octet_bits y (All-head (λ k. k < 2 ^ 8) y ys also) in
    let rest = same_octets xs ys (All-tail (λ k. k < 2 ^ 8) x xs all) (All-tail (λ k. k < 2 ^ 8) y ys also) (omega arith) (ap (drop 8) e) in
    λ i. first i ∷ rest i

-- ---- a change in the middle

three_parts : (front middle back : List ℕ)
    → polynomial (front ++ (middle ++ back))
    ≡ bit_xor (polynomial front * 2 ^ length (middle ++ back)) (bit_xor (polynomial middle * 2 ^ length back) (polynomial back))
three_parts front middle back =
    polynomial-append front (middle ++ back)
    ∙ ap (bit_xor (polynomial front * 2 ^ length (middle ++ back))) (polynomial-append middle back)

-- what two sums of three differ by, where only the middle ones differ
difference : (f m o b : ℕ) → bit_xor (bit_xor f (bit_xor m b)) (bit_xor f (bit_xor o b)) ≡ bit_xor m o
difference f m o b =
    xor_swap f (bit_xor m b) f (bit_xor o b)
    ∙ (λ i. bit_xor (xor_self f i) (xor_swap m b o b i))
    ∙ ap (bit_xor (bit_xor m o)) (xor_self b) ∙ xor_zero_r (bit_xor m o)

-- a sum of a degree below 24, times a power of x, that leaves nothing is nothing
nothing_left : (n k e d : ℕ) → e < 2 ^ 24 → d < 2 ^ (24 + n) → d ≡ e * 2 ^ k → remainder n d ≡ 0 → e ≡ 0
nothing_left n k e d small below is none =
    power_kept k e small
    (ap (λ r. remainder k (r * 2 ^ k)) (sym (remainder-small n e small)) ∙ sym (remainder-up n k e)
    ∙ ap (remainder (n + k)) (sym is) ∙ ap (λ r. remainder r d) (add_comm n k) ∙ remainder-longer k n d below ∙ none)

split : (start : ℕ) (xs : List ℕ) → xs ≡ take start xs ++ (take 24 (drop start xs) ++ drop (start + 24) xs)
split start xs =
    sym (take-append-drop start xs)
    ∙ ap (λ rest. take start xs ++ rest)
    (sym (take-append-drop 24 (drop start xs)) ∙ ap (λ rest. take 24 (drop start xs) ++ rest) (drop-drop 24 start xs))

AreBits-take : (n : ℕ) (xs : List ℕ) → AreBits xs → AreBits (take n xs)
AreBits-take zero xs are = tt
AreBits-take (suc n) [] are = tt
AreBits-take (suc n) (x ∷ xs) are = (are.0, AreBits-take n xs are.1)

AreBits-drop : (n : ℕ) (xs : List ℕ) → AreBits xs → AreBits (drop n xs)
AreBits-drop zero xs are = are
AreBits-drop (suc n) [] are = tt
AreBits-drop (suc n) (x ∷ xs) are = AreBits-drop n xs are.1

middle-lt : (start : ℕ) (xs : List ℕ) → AreBits xs → polynomial (take 24 (drop start xs)) < 2 ^ 24
middle-lt start xs are =
    let middle = take 24 (drop start xs) in
    let few : length middle ≤ 24 = omega (arith, length-take 24 (drop start xs)) in
    let more : 2 ^ length middle ≤ 2 ^ 24 = pow-le-pow_right (omega arith) few in
    omega (arith, polynomial-lt middle (AreBits-take 24 (drop start xs) (AreBits-drop start xs are)))

-- the changed bits are none
pub unchanged : (n start : ℕ) (xs ys : List ℕ) → AreBits xs → AreBits ys → length xs ≡ 24 + n → length ys ≡ 24 + n
    → remainder n (polynomial xs) ≡ remainder n (polynomial ys) → DiffersWithin 24 start xs ys → xs ≡ ys
unchanged n start xs ys are also len other same change =
    let front = take start xs in
    let middle = take 24 (drop start xs) in
    let changed = take 24 (drop start ys) in
    let back = drop (start + 24) xs in
    let k = length back in
    let long : length (changed ++ back) ≡ length (middle ++ back) =
    omega (arith, length-append changed back, length-append middle back, length-take 24 (drop start xs), length-take 24 (drop start ys), length-drop start xs, length-drop start ys) in
    let p : polynomial xs ≡ bit_xor (polynomial front * 2 ^ length (middle ++ back)) (bit_xor (polynomial middle * 2 ^ k) (polynomial back)) =
    ap polynomial (split start xs) ∙ three_parts front middle back in
    let q : polynomial ys ≡ bit_xor (polynomial front * 2 ^ length (middle ++ back)) (bit_xor (polynomial changed * 2 ^ k) (polynomial back)) =
    ap polynomial (split start ys ∙ (λ i. change.front i ++ (changed ++ change.back i))) ∙ three_parts front changed back
    ∙ ap (λ m. bit_xor (polynomial front * 2 ^ m) (bit_xor (polynomial changed * 2 ^ k) (polynomial back))) long in
    let e = bit_xor (polynomial middle) (polynomial changed) in
    let d : bit_xor (polynomial xs) (polynomial ys) ≡ e * 2 ^ k =
    (λ i. bit_xor (p i) (q i))
    ∙ difference (polynomial front * 2 ^ length (middle ++ back)) (polynomial middle * 2 ^ k) (polynomial changed * 2 ^ k) (polynomial back)
    ∙ xor-up (polynomial middle) (polynomial changed) k in
    let small : e < 2 ^ 24 = xor_lt 24 (polynomial middle) (polynomial changed) (middle-lt start xs are) (middle-lt start ys also) in
    let high : polynomial xs < 2 ^ (24 + n) = subst (λ (m : ℕ). polynomial xs < 2 ^ m) len (polynomial-lt xs are) in
    let high' : polynomial ys < 2 ^ (24 + n) = subst (λ (m : ℕ). polynomial ys < 2 ^ m) other (polynomial-lt ys also) in
    let left : remainder n (bit_xor (polynomial xs) (polynomial ys)) ≡ 0 =
    remainder-xor n (polynomial xs) (polynomial ys) ∙ ap (λ r. bit_xor r (remainder n (polynomial ys))) same
    ∙ xor_self (remainder n (polynomial ys)) in
    let none : e ≡ 0 = nothing_left n k e (bit_xor (polynomial xs) (polynomial ys)) small (xor_lt (24 + n) (polynomial xs) (polynomial ys) high high') d left in
    same_bits xs ys are also (len ∙ sym other)
    (same_from_xor (polynomial xs) (polynomial ys) (d ∙ ap (λ m. m * 2 ^ k) none ∙ zero-mul (2 ^ k)))

-- ---- PDUs with their CRC

left_beside : (n p i sum : ℕ) → sum < 2 ^ 24 → sum ≡ remainder n (bit_xor p i) → remainder n (bit_xor p sum) ≡ remainder n i
left_beside n p i sum small is =
    let r = remainder n p in
    remainder-xor n p sum
    ∙ ap (bit_xor r) (remainder-small n sum small ∙ is ∙ remainder-xor n p i)
    ∙ sym (xor_assoc r r (remainder n i)) ∙ ap (λ k. bit_xor k (remainder n i)) (xor_self r)

crc-remainder : (init : ℕ) (octets : List ℕ)
    → crc init octets ≡ remainder (length (air_bits octets)) (bit_xor (polynomial (air_bits octets) * 2 ^ 24) (init * 2 ^ length (air_bits octets)))
unfolding crc crc_of_bits
crc-remainder init octets = refl

-- what a PDU with its CRC leaves hangs on the initial value and the length alone
left_of : (init : ℕ) (octets : List ℕ) → init < 2 ^ 24
    → remainder (length (air_bits octets)) (polynomial (air_bits (octets ++ crc_octets (crc init octets))))
    ≡ remainder (length (air_bits octets)) (init * 2 ^ length (air_bits octets))
left_of init octets small =
    let bits = air_bits octets in
    let n = length bits in
    let sum = crc init octets in
    let below : sum < 2 ^ 24 = crc-lt init octets small in
    let whole : polynomial (air_bits (octets ++ crc_octets sum)) ≡ bit_xor (polynomial bits * 2 ^ 24) sum =
    ap polynomial (flat_map-append octet_bits octets (crc_octets sum))
    ∙ polynomial-append bits (air_bits (crc_octets sum))
    ∙ (λ i. bit_xor (polynomial bits * 2 ^ length (air_bits-down sum i)) (polynomial-air_bits sum below i)) in
    ap (remainder n) whole ∙ left_beside n (polynomial bits * 2 ^ 24) (init * 2 ^ n) sum below (crc-remainder init octets)

length-with_crc : (octets : List ℕ) (sum : ℕ) → length (air_bits (octets ++ crc_octets sum)) ≡ 24 + length (air_bits octets)
length-with_crc octets sum =
    ap length (flat_map-append octet_bits octets (crc_octets sum)) ∙ length-append (air_bits octets) (air_bits (crc_octets sum))
    ∙ ap (λ bits. length (air_bits octets) + length bits) (air_bits-down sum) ∙ add_comm (length (air_bits octets)) 24

pub short_change : (init start : ℕ) (sent heard : List ℕ) → init < 2 ^ 24 → length heard ≡ length sent
    → All (λ octet. octet < 2 ^ 8) sent → All (λ octet. octet < 2 ^ 8) heard
    → DiffersWithin 24 start (air_bits (sent ++ crc_octets (crc init sent))) (air_bits (heard ++ crc_octets (crc init heard)))
    → heard ≡ sent
short_change init start sent heard small same all also change =
    let n = length (air_bits sent) in
    let first = crc_octets (crc init sent) in
    let second = crc_octets (crc init heard) in
    let long : length (air_bits heard) ≡ n = omega (arith, length-air_bits heard, length-air_bits sent) in
    let left : remainder n (polynomial (air_bits (sent ++ first))) ≡ remainder n (polynomial (air_bits (heard ++ second))) =
    left_of init sent small ∙ ap (λ m. remainder m (init * 2 ^ m)) (sym long) ∙ sym (left_of init heard small)
    ∙ ap (λ m. remainder m (polynomial (air_bits (heard ++ second)))) long in
    let bits : air_bits (sent ++ first) ≡ air_bits (heard ++ second) =
    unchanged n start (air_bits (sent ++ first)) (air_bits (heard ++ second)) (AreBits-air (sent ++ first)) (AreBits-air (heard ++ second))
    (length-with_crc sent (crc init sent)) (length-with_crc heard (crc init heard) ∙ ap (λ m. 24 + m) long) left change in
    let front : air_bits heard ≡ air_bits sent =
    sym (take_at (air_bits heard) (air_bits second) n long)
    ∙ ap (take n) (sym (flat_map-append octet_bits heard second) ∙ sym bits ∙ flat_map-append octet_bits sent first)
    ∙ take_at (air_bits sent) (air_bits first) n refl in
    same_octets heard sent also all same front
