-- The octets of a packet after its fate (our choice).
use Rattle.std.specs.Prelude.{ℕ, List, [], ◌∷◌, ◌++◌, take, drop, bit_xor}
use Rattle.radio_replay.specs.declared.fates.Fate.{Fate}
use Rattle.radio_replay.specs.declared.fates.Fate.TheVariants.{Pass, Lost, Damage}

-- octets with a pattern xored into them; the part of the pattern past their end has no effect
abbrev pub xor_of : List ℕ → List ℕ → List ℕ
xor_of [] octets = octets
xor_of (change ∷ pattern) [] = []
xor_of (change ∷ pattern) (octet ∷ octets) = bit_xor octet change ∷ xor_of pattern octets

-- a damage is xored into the octets from its place on; the other fates change nothing
abbrev pub damaged_packet : Fate → List ℕ → List ℕ
damaged_packet Pass octets = octets
damaged_packet Lost octets = octets
damaged_packet (Damage at pattern) octets = take at octets ++ xor_of pattern.items (drop at octets)
