-- The parts of the first octet: it is made of them, and they are read from it.
use Rattle.std.proofs.Common.{◌≡◌, ℕ, ◌%◌, ◌<◌, ◌&&◌, Bool, true, false, refl, sym, ap, ◌∙◌, arith}
use Rattle.std.specs.Int.{bit_at}
use Rattle.adv_pdu.specs.Header.{header_octet, has_ch_sel, has_rx_add, kept_bits}
use Rattle.ble_base.specs.Bits.{has_bit}

kind_in : (k : ℕ) (a b c : Bool) → k < 16 → header_octet k a b c % 16 ≡ k
kind_in k a b c small = omega arith

ch_sel_in : (k : ℕ) (a b c : Bool) → k < 16 → has_bit (header_octet k a b c) 5 ≡ a
ch_sel_in k true b c small = let e : bit_at (header_octet k true b c) 5 ≡ 1 = omega arith in rw e refl
ch_sel_in k false b c small = let e : bit_at (header_octet k false b c) 5 ≡ 0 = omega arith in rw e refl

tx_add_in : (k : ℕ) (a b c : Bool) → k < 16 → has_bit (header_octet k a b c) 6 ≡ b
tx_add_in k true true c small = let e : bit_at (header_octet k true true c) 6 ≡ 1 = omega arith in rw e refl
tx_add_in k false true c small = let e : bit_at (header_octet k false true c) 6 ≡ 1 = omega arith in rw e refl
tx_add_in k true false c small = let e : bit_at (header_octet k true false c) 6 ≡ 0 = omega arith in rw e refl
tx_add_in k false false c small = let e : bit_at (header_octet k false false c) 6 ≡ 0 = omega arith in rw e refl

-- k and the two lower flags stay below bit 7
rx_add_of_rest : (rest : ℕ) (c : Bool) → rest < 128 → has_bit (header_octet rest false false c) 7 ≡ c
rx_add_of_rest rest true small = let e : bit_at (header_octet rest false false true) 7 ≡ 1 = omega arith in rw e refl
rx_add_of_rest rest false small = let e : bit_at (header_octet rest false false false) 7 ≡ 0 = omega arith in rw e refl

rest_small : (k : ℕ) (a b : Bool) → k < 16 → header_octet k a b false < 128
rest_small k true true small = omega arith
rest_small k true false small = omega arith
rest_small k false true small = omega arith
rest_small k false false small = omega arith

rx_add_in : (k : ℕ) (a b c : Bool) → k < 16 → has_bit (header_octet k a b c) 7 ≡ c
rx_add_in k a b c small =
    let same : header_octet k a b c ≡ header_octet (header_octet k a b false) false false c = omega arith in
    ap (λ (octet : ℕ). has_bit octet 7) same ∙ rx_add_of_rest (header_octet k a b false) c (rest_small k a b small)

-- octets with the same bits have the same parts
pub header_parts : (k l : ℕ) (a b c x y z : Bool) → k < 16 → l < 16 → header_octet k a b c ≡ header_octet l x y z → (k ≡ l) × (a ≡ x) × (b ≡ y) × (c ≡ z)
header_parts k l a b c x y z mine its e = (
  sym (kind_in k a b c mine) ∙ ap (λ (octet : ℕ). octet % 16) e ∙ kind_in l x y z its,
  sym (ch_sel_in k a b c mine) ∙ ap (λ (octet : ℕ). has_bit octet 5) e ∙ ch_sel_in l x y z its,
  sym (tx_add_in k a b c mine) ∙ ap (λ (octet : ℕ). has_bit octet 6) e ∙ tx_add_in l x y z its,
  sym (rx_add_in k a b c mine) ∙ ap (λ (octet : ℕ). has_bit octet 7) e ∙ rx_add_in l x y z its,
)

pub kept_parts : (octet : ℕ) → kept_bits octet ≡ header_octet (octet % 16) (has_ch_sel (octet % 16) && has_bit octet 5) (has_bit octet 6) (has_rx_add (octet % 16) && has_bit octet 7)
unfolding kept_bits
kept_parts octet = refl

kept_of_parts : (octet k : ℕ) (a b c : Bool) → octet % 16 ≡ k → has_bit octet 5 ≡ a → has_bit octet 6 ≡ b → has_bit octet 7 ≡ c → kept_bits octet ≡ header_octet k (has_ch_sel k && a) b (has_rx_add k && c)
kept_of_parts octet k a b c kind ch_sel tx_add rx_add = kept_parts octet ∙ rw (ch_sel, tx_add, rx_add, kind) refl

-- of what was written, the flags stay that the type has
pub kept_is : (k : ℕ) (a b c : Bool) → k < 16 → kept_bits (header_octet k a b c) ≡ header_octet k (has_ch_sel k && a) b (has_rx_add k && c)
kept_is k a b c small =
    kept_of_parts (header_octet k a b c) k a b c (kind_in k a b c small) (ch_sel_in k a b c small) (tx_add_in k a b c small) (rx_add_in k a b c small)
