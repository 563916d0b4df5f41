-- What the radio leaves of a packet, by the mark in its line (our choice).
use Rattle.std.specs.Prelude.{ℕ, Bool, List, ◌++◌, take, drop}
use Rattle.std.specs.Str.{bytes_eq}
use Rattle.journal.specs.declared.entries.Mark.{Mark}
use Rattle.journal.specs.declared.entries.Mark.TheVariants.{Pass, Lost, Damage}
use Rattle.radio_replay.specs.Damage.{xor_of}

-- a damage is xored into the octets from its place on
abbrev pub left_of : Mark → List ℕ → List ℕ
left_of Pass octets = octets
left_of Lost octets = octets
left_of (Damage at pattern) octets = take at octets ++ xor_of pattern (drop at octets)

abbrev pub is_unchanged : Mark → List ℕ → Bool
is_unchanged mark octets = bytes_eq (left_of mark octets) octets
