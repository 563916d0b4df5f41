-- Octets of hosts that set masks, as worked examples have them.
use Rattle.std.specs.Prelude.{ℕ, List, [], ◌∷◌, ◌++◌}
use Rattle.run_model.specs.controller_model.Rows.{mask_octets}
use Rattle.run_model.specs.Rows.{reset}

-- LE Set Event Mask, with the bit of LE Remote Connection Parameter Request
abbrev pub le_mask_octets : List ℕ
le_mask_octets = 0x01 ∷ 0x01 ∷ 0x20 ∷ 0x08 ∷ 0x3F ∷ 0x00 ∷ 0x00 ∷ 0x00 ∷ 0x00 ∷ 0x00 ∷ 0x00 ∷ 0x00 ∷ []

-- the same command with one octet too few, which its length says too
abbrev pub short_octets : List ℕ
short_octets = 0x01 ∷ 0x01 ∷ 0x20 ∷ 0x07 ∷ 0x3F ∷ 0x00 ∷ 0x00 ∷ 0x00 ∷ 0x00 ∷ 0x00 ∷ 0x00 ∷ []

-- both masks are set after a Reset
abbrev pub masking_octets : List ℕ
masking_octets = reset ++ mask_octets ++ le_mask_octets
