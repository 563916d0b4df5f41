-- The proof of `one_octet_on`.
use Rattle.std.proofs.Common.{◌≡◌, ℕ, ◌*◌, ◌/◌, ◌%◌, ◌^◌, ◌<◌, [], ◌∷◌, bit_and, bit_xor, ap, sym, subst, ◌∙◌, arith}
use Rattle.std.proofs.lemmas.Nat.{and_mask}
use Rattle.frame_bits.specs.Crc.{remainder}
use Rattle.frame_bits.proofs.OctetValues.{reverse_bits-polynomial}
use Rattle.frame_bits.proofs.Registers.{crc-lt, crc-octet}
use Rattle.frame_bits.proofs.crc.one_octet_on.Goals as goal

pub returns-clause-crc : goal.returns-clause-crc
returns-clause-crc c =
    let register = c.args.register in
    let moved : bit_and (register * 256 % 4294967296) 16777215 ≡ register % 2 ^ 16 * 2 ^ 8 =
    and_mask (register * 256 % 4294967296) 24 ∙ omega arith in
    let added = c.remainder_of.ensures
    ∙ ap (λ n. remainder 8 (bit_xor (register / 2 ^ 16) n * 2 ^ 24))
    (c.reverse_bits.ensures ∙ reverse_bits-polynomial c.args.octet (omega arith)) in
    (λ i. bit_xor (moved i) (added i)) ∙ sym (crc-octet register c.args.octet (omega arith))

pub returns-clause-bound : goal.returns-clause-bound
returns-clause-bound c =
    subst (λ (n : ℕ). n < 2 ^ 24) (sym (returns-clause-crc c)) (crc-lt c.args.register (c.args.octet ∷ []) (omega arith))
