-- XOR on lists of octets, place by place, and a block that is being XORed.
use Rattle.std.proofs.Common.{◌≡◌, ℕ, zero, suc, ◌+◌, ◌-◌, ◌<◌, ◌≤◌, List, [], ◌∷◌, ◌++◌, length, take, drop, map, get_or, replicate, bit_xor, refl, ap, sym, ◌∙◌, arith}
use Rattle.std.proofs.Math.ListN.{set}
use Rattle.std.specs.Int.Bits.{xor_zero_r}
use Rattle.std.specs.List.{range_with_len}
use Rattle.std.proofs.lemmas.List.FromFn.{fill_by_all}
use Rattle.std.proofs.lemmas.List.{get_or-take, length-take-le}
use Rattle.std.proofs.lemmas.Nat.{xor_comm}
use Rattle.ccm_link.specs.Ccm.{padded_block, xor_of}

-- a list of n, by its elements
pub elements : (xs : List ℕ) (n : ℕ) → length xs ≡ n → xs ≡ map (λ i. get_or xs i 0) (range_with_len 0 n)
elements xs n len = fill_by_all (λ i. get_or xs i 0) xs n 0 len (λ k lt. refl)

-- the block after its first n octets are XORed
abbrev pub partly : List ℕ → List ℕ → ℕ → List ℕ
partly block octets n = xor_of (take n block) (take n octets) ++ drop n block

pub partly-more : (block octets : List ℕ) (n : ℕ) → n < length octets → length octets ≤ length block
    → set (partly block octets n) n (bit_xor (get_or (partly block octets n) n 0) (get_or octets n 0)) ≡ partly block octets (suc n)
partly-more block [] n lt le = absurd (omega arith)
partly-more [] (y ∷ ys) n lt le = absurd (omega arith)
partly-more (x ∷ xs) (y ∷ ys) zero lt le = refl
partly-more (x ∷ xs) (y ∷ ys) (suc n) lt le = ap (λ l. bit_xor x y ∷ l) (partly-more xs ys n (omega arith) (omega arith))

-- at the end of the octets it is as if zeros had filled them up
partly-length : (block octets : List ℕ) (rest : ℕ) → length octets + rest ≡ length block
    → partly block octets (length octets) ≡ xor_of block (octets ++ replicate rest 0)
partly-length [] [] rest e = refl
partly-length (x ∷ xs) [] zero e = absurd (omega arith)
partly-length (x ∷ xs) [] (suc rest) e =
    λ i. sym (xor_zero_r x) i ∷ partly-length xs [] rest (omega arith) i
partly-length [] (y ∷ ys) rest e = absurd (omega arith)
partly-length (x ∷ xs) (y ∷ ys) rest e = ap (λ l. bit_xor x y ∷ l) (partly-length xs ys rest (omega arith))

pub partly_all : (block octets : List ℕ) → length block ≡ 16 → length octets ≤ 16
    → partly block octets (length octets) ≡ xor_of block (padded_block octets)
partly_all block octets len le = partly-length block octets (16 - length octets) (omega arith)

-- the octets that padding leaves as they are
pub take-xor_of : (block octets zeros : List ℕ) → length octets ≤ length block
    → take (length octets) (xor_of block (octets ++ zeros)) ≡ xor_of octets block
take-xor_of block [] zeros le = refl
take-xor_of [] (y ∷ ys) zeros le = absurd (omega arith)
take-xor_of (x ∷ xs) (y ∷ ys) zeros le = λ i. xor_comm x y i ∷ take-xor_of xs ys zeros (omega arith) i

-- the first four octets
pub front_four : (xs : List ℕ) → 4 ≤ length xs → get_or xs 0 0 ∷ get_or xs 1 0 ∷ get_or xs 2 0 ∷ get_or xs 3 0 ∷ [] ≡ take 4 xs
front_four xs le =
    let same : (i : ℕ) → i < 4 → get_or xs i 0 ≡ get_or (take 4 xs) i 0 = λ i lt. sym (get_or-take 4 xs i 0 lt) in
    (λ k. same 0 (omega arith) k ∷ same 1 (omega arith) k ∷ same 2 (omega arith) k ∷ same 3 (omega arith) k ∷ [])
    ∙ sym (elements (take 4 xs) 4 (length-take-le 4 xs le))
