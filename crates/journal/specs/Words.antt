-- The words for the parts of an entry (our choice).
use Rattle.std.specs.Prelude.{ℕ, List, [], ◌∷◌, ◌++◌, Bool, Option, Some, None, codes, decimal}
use Rattle.hex.specs.Hex.{encode_lower}
use Rattle.ble_base.specs.declared.roles.Side.{Side}
use Rattle.ble_base.specs.declared.roles.Side.TheVariants.{A, B}
use Rattle.ble_base.specs.declared.roles.Role.{Role}
use Rattle.ble_base.specs.declared.roles.Role.TheVariants.{Central, Peripheral}
use Rattle.ble_base.specs.declared.procedure_kinds.Kind.{Kind}
use Rattle.ble_base.specs.declared.procedure_kinds.Kind.TheVariants.{Update, Request, Map, Phy, Features, Version, Length, Encrypt}
use Rattle.ble_base.specs.declared.verdicts.Verdict.{Verdict}
use Rattle.ble_base.specs.declared.verdicts.Verdict.TheVariants.{Missed, Broken, Forged, Good}
use Rattle.line_words.specs.Signs.{sign_of}
use Rattle.journal.specs.declared.entries.Mark.{Mark}
use Rattle.journal.specs.declared.entries.Mark.TheVariants.{Pass, Lost, Damage}

-- the letter of a side
abbrev pub side_name : Side → List ℕ
side_name A = codes "a"
side_name B = codes "b"

-- the name of a role
abbrev pub role_name : Role → List ℕ
role_name Central = codes "central"
role_name Peripheral = codes "peripheral"

-- the name of a control procedure
abbrev pub kind_name : Kind → List ℕ
kind_name Update = codes "update"
kind_name Request = codes "request"
kind_name Map = codes "map"
kind_name Phy = codes "phy"
kind_name Features = codes "features"
kind_name Version = codes "version"
kind_name Length = codes "length"
kind_name Encrypt = codes "encrypt"

-- the name of a verdict
abbrev pub verdict_name : Verdict → List ℕ
verdict_name Missed = codes "missed"
verdict_name Broken = codes "broken"
verdict_name Forged = codes "forged"
verdict_name Good = codes "good"

-- the radios of a turn: one character in a run of one controller, else two
abbrev pub radios : Bool → Option Bool → List ℕ
radios a None = sign_of a ∷ []
radios a (Some b) = sign_of a ∷ sign_of b ∷ []

-- octets in two lower case digits each; a dash if there are none
abbrev pub hexadecimal : List ℕ → List ℕ
hexadecimal [] = codes "-"
hexadecimal (x ∷ xs) = encode_lower (x ∷ xs)

-- the mark of a packet, as a fate in a schedule
abbrev pub mark_word : Mark → List ℕ
mark_word Pass = codes "."
mark_word Lost = codes "x"
mark_word (Damage at pattern) = codes "e" ++ decimal at ++ codes ":" ++ hexadecimal pattern
