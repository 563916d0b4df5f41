-- Proof of `rows::a_damage_of_25_bits_may_pass`: the definitions compute.
use Rattle.std.proofs.Common.{◌≡◌, [], ◌∷◌, get_or, refl, ap, sym, ◌∙◌, arith}
use Rattle.air_frame.specs.Hearing.{IsWhole, heard_in}
use Rattle.frame_bits.specs.Crc.{crc, crc_octets, crc_of_bits, remainder}
use Rattle.frame_bits.specs.Whitening.{mask_of, next_mask, whitening_bit, whitening_of}
use Rattle.radio_replay.specs.Damage.{damaged_packet}
use Rattle.short_damage.specs.Rows.{generator_bits, packet_with}
use Rattle.short_damage.proofs.rows.a_damage_of_25_bits_may_pass.Goals as goal

passes : IsWhole (heard_in 0 0x71764129 1 (damaged_packet generator_bits (packet_with 0x00))) (0x02 ∷ 0x01 ∷ 0x01 ∷ [])
unfolding heard_in crc crc_octets crc_of_bits remainder mask_of next_mask whitening_bit whitening_of
passes = refl

-- octet 6 of both packets
before : get_or (packet_with 0x00) 6 0 ≡ 0xBC
unfolding crc crc_octets crc_of_bits remainder mask_of next_mask whitening_bit whitening_of
before = refl

after : get_or (damaged_packet generator_bits (packet_with 0x00)) 6 0 ≡ 0xBD
unfolding crc crc_octets crc_of_bits remainder mask_of next_mask whitening_bit whitening_of
after = refl

changed : damaged_packet generator_bits (packet_with 0x00) ≡ packet_with 0x00 → ⊥
changed same =
    let octet : 0xBD ≡ 0xBC = sym after ∙ ap (λ octets. get_or octets 6 0) same ∙ before in
    absurd (omega (arith, octet))

pub returns-clause-passes : goal.returns-clause-passes
returns-clause-passes c = passes

pub returns-clause-refused : goal.returns-clause-refused
returns-clause-refused c = λ short.
    changed (c.a_short_damage_is_never_whole.ensures 0 0x71764129 1 (0x02 ∷ 0x01 ∷ 0x00 ∷ [])
    (0x02 ∷ 0x01 ∷ 0x01 ∷ []) generator_bits (omega arith)
    short.octets (short.changes (packet_with 0x00)) passes)
