-- Proof of `rows::worked_damages`: the definitions compute.
use Rattle.std.proofs.Common.{ℕ, zero, suc, List, [], ◌∷◌, drop, refl, arith}
use Rattle.std.specs.Prelude.{replicate, ◌<◌, ◌^◌}
use Rattle.std.proofs.lemmas.List.Elements.{All-from_recursion}
use Rattle.frame_bits.specs.AirBits.{DiffersWithin, air_bits}
use Rattle.radio_replay.specs.Damage.{damaged_packet}
use Rattle.short_damage.specs.Rows.{one_bit, too_wide, widest}
use Rattle.short_damage.proofs.Patterns.{short_pattern}
use Rattle.short_damage.proofs.rows.worked_damages.Goals as goal

-- a packet of ten octets of zeros
abbrev empty : List ℕ
empty = replicate 10 0

-- the first and the last of 25 bits are not within 24
not_within : (start : ℕ)
    → DiffersWithin 24 start (air_bits (drop 4 empty)) (air_bits (drop 4 (damaged_packet too_wide empty))) → ⊥
not_within zero differs = let no = differs.back in absurd cc
not_within (suc start) differs = let no = differs.front in absurd cc

pub returns-clause-one : goal.returns-clause-one
returns-clause-one c =
    short_pattern one_bit (
      omega arith,
      All-from_recursion (λ (octet : ℕ). octet < 2 ^ 8) (0x01 ∷ [])
          (omega arith, tt),
      record { start = 0; bits = record { front = refl; back = refl } },
    )

pub returns-clause-widest : goal.returns-clause-widest
returns-clause-widest c =
    short_pattern widest (
      omega arith,
      All-from_recursion (λ (octet : ℕ). octet < 2 ^ 8) (0xF0 ∷ 0xFF ∷ 0xFF ∷ 0x0F ∷ [])
          (omega arith, (omega arith, (omega arith, (omega arith, tt)))),
      record { start = 4; bits = record { front = refl; back = refl } },
    )

pub returns-clause-wide : goal.returns-clause-wide
returns-clause-wide c = λ short. let changes = short.changes empty in not_within changes.start changes.bits

pub returns-clause-access : goal.returns-clause-access
returns-clause-access c = λ short. let no = (short.changes empty).access in absurd cc

pub returns-clause-past_end : goal.returns-clause-past_end
returns-clause-past_end c = record { access = refl; start = 32; bits = record { front = refl; back = refl } }
