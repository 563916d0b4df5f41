-- The tables hold what the definitions say, at each octet.
use Rattle.std.proofs.Common.{◌≡◌, ℕ, ◌-◌, ◌<◌, ◌≤◌, List, [], ◌∷◌, map, get_or, refl, ap, sym, ◌∙◌, arith}
use Rattle.std.specs.List.{range_with_len}
use Rattle.std.proofs.lemmas.List.{get_or-map}
use Rattle.std.proofs.lemmas.List.FromFn.{get_or-map-range_with_len}
use Rattle.aes_block.specs.Field.{times}
use Rattle.aes_block.specs.State.{sub_byte}
use Rattle.aes_block.specs.Words.{word_octets}
use Rattle.aes_block.specs.KeyExpansion.{rcon}
use Rattle.aes_block.specs.declared.key_schedule.TheConstants.{ROUND_CONSTANTS}
use Rattle.aes_block.specs.declared.tables.TheConstants.{SBOX, ROUND_TABLE}

sbox_is : SBOX ≡ map sub_byte (range_with_len 0 256)
unfolding sub_byte times
sbox_is = refl

pub sbox_at : (b : ℕ) → b < 256 → get_or SBOX b 0 ≡ sub_byte b
sbox_at b lt = ap (λ t. get_or t b 0) sbox_is ∙ get_or-map-range_with_len sub_byte 0 256 b b 0 lt (omega arith)

-- the column that MixColumns makes of s in row 0
abbrev pub mixed_of : ℕ → List ℕ
mixed_of s = times 2 s ∷ times 1 s ∷ times 1 s ∷ times 3 s ∷ []

round_table_is : map word_octets ROUND_TABLE ≡ map mixed_of SBOX
unfolding times
round_table_is = refl

pub round_table_at : (b : ℕ) → b < 256 → word_octets (get_or ROUND_TABLE b 0) ≡ mixed_of (sub_byte b)
round_table_at b lt =
    sym (get_or-map word_octets ROUND_TABLE b 0 [] lt) ∙ ap (λ t. get_or t b []) round_table_is
    ∙ get_or-map mixed_of SBOX b 0 [] lt ∙ ap mixed_of (sbox_at b lt)

round_constants_are : map word_octets ROUND_CONSTANTS ≡ map rcon (range_with_len 1 10)
unfolding times
round_constants_are = refl

pub round_constant_at : (i : ℕ) → 1 ≤ i → i ≤ 10 → word_octets (get_or ROUND_CONSTANTS (i - 1) 0) ≡ rcon i
round_constant_at i low high =
    sym (get_or-map word_octets ROUND_CONSTANTS (i - 1) 0 [] (omega arith)) ∙ ap (λ t. get_or t (i - 1) []) round_constants_are
    ∙ get_or-map-range_with_len rcon 1 10 (i - 1) i [] (omega arith) (omega arith)
