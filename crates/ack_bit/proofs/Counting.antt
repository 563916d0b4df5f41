-- The bits of one end are the counts of what it saw, modulo 2.
use Rattle.std.proofs.Common.{◌≡◌, ℕ, zero, suc, ◌+◌, ◌%◌, ◌<◌, Bool, true, false, not, cond, eqb, ◌&&◌, zero-add, List, [], ◌∷◌, refl, ◌∙◌, sym, arith}
use Rattle.ack_bit.specs.AckBits.{AckBits, acknowledges, is_new, receive_of, first_bits, is_odd}
use Rattle.ack_bit.specs.AckNumbers.{Arrival, bits_after, ack_count, accept_count}

-- a bit that was flipped n times
abbrev pub flipped : Bool → ℕ → Bool
flipped b n = cond b (not (eqb (n % 2) 1)) (eqb (n % 2) 1)

odd_next : (r m : ℕ) → r < 2 → m ≡ (1 + r) % 2 → eqb m 1 ≡ not (eqb r 1)
odd_next zero m h e = rw e refl
odd_next (suc zero) m h e = rw e refl
odd_next (suc (suc r)) m h e = absurd (omega arith)

pub odd-one_more : (n : ℕ) → eqb ((1 + n) % 2) 1 ≡ not (eqb (n % 2) 1)
odd-one_more n = odd_next (n % 2) ((1 + n) % 2) (omega arith) (omega arith)

not_twice : (b : Bool) → b ≡ not (not b)
not_twice true = refl
not_twice false = refl

flipped-none : (b : Bool) → b ≡ flipped b 0
flipped-none true = refl
flipped-none false = refl

-- flipped once more in front, or not
flipped-step : (b flip : Bool) (n : ℕ) → flipped (cond flip (not b) b) n ≡ flipped b (cond flip 1 0 + n)
flipped-step true true n = rw (odd-one_more n) (not_twice (eqb (n % 2) 1))
flipped-step true false n = rw (zero-add n) refl
flipped-step false true n = sym (odd-one_more n)
flipped-step false false n = rw (zero-add n) refl

sn-flipped : (bits : AckBits) (ps : List Arrival) → (bits_after bits ps).sn ≡ flipped bits.sn (ack_count bits ps)
sn-flipped bits [] = flipped-none bits.sn
sn-flipped bits (p ∷ ps) =
    sn-flipped (receive_of bits p.header p.room) ps
    ∙ flipped-step bits.sn (acknowledges bits p.header) (ack_count (receive_of bits p.header p.room) ps)

nesn-flipped : (bits : AckBits) (ps : List Arrival) → (bits_after bits ps).nesn ≡ flipped bits.nesn (accept_count bits ps)
nesn-flipped bits [] = flipped-none bits.nesn
nesn-flipped bits (p ∷ ps) =
    nesn-flipped (receive_of bits p.header p.room) ps
    ∙ flipped-step bits.nesn (is_new bits p.header && p.room) (accept_count (receive_of bits p.header p.room) ps)

pub sn-counts : (ps : List Arrival) → (bits_after first_bits ps).sn ≡ is_odd (ack_count first_bits ps)
sn-counts ps = sn-flipped first_bits ps

pub nesn-counts : (ps : List Arrival) → (bits_after first_bits ps).nesn ≡ is_odd (accept_count first_bits ps)
nesn-counts ps = nesn-flipped first_bits ps
