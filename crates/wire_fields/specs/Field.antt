-- The fields of a packet and their octets (Core 5.2, volume 4 part E, section 5.2, and volume 6 part B, section 1.2;
-- lists of fields are our choice).
use Rattle.std.specs.Prelude.{◌≡◌, ℕ, zero, suc, ◌+◌, ◌*◌, ◌%◌, ◌/◌, ◌<◌, ◌^◌, List, [], ◌∷◌, ◌++◌, length}
use Rattle.std.specs.List.{AllByRecursion}

-- the lowest octets of a number, the least significant first (Core 5.2, volume 4 part E, section 5.2)
unfoldable pub little_endian : ℕ → ℕ → List ℕ
little_endian zero x = []
little_endian (suc n) x = x % 256 ∷ little_endian n (x / 256)

-- the number that these octets are, the least significant first
abbrev pub number_of : List ℕ → ℕ
number_of [] = 0
number_of (octet ∷ octets) = octet + 256 * number_of octets

-- a number of n octets, or n octets that are no number
pub data Field : Type 0 where
  number : ℕ → ℕ → Field
  octets : ℕ → List ℕ → Field

abbrev pub octets_of : Field → List ℕ
octets_of (number n x) = little_endian n x
octets_of (octets n xs) = xs

-- the octets of the fields, one field after another
abbrev pub spelled : List Field → List ℕ
spelled [] = []
spelled (field ∷ fields) = octets_of field ++ spelled fields

-- these octets, and after them those of the fields
abbrev pub appended : List ℕ → List Field → List ℕ
appended before [] = before
appended before (field ∷ fields) = appended (before ++ octets_of field) fields

-- the number of octets that a field takes
abbrev pub width : Field → ℕ
width (number n x) = n
width (octets n xs) = n

-- the number fits its n octets, or there are n octets
abbrev pub FitsWidth : Field → Type 0
FitsWidth (number n x) = x < 256 ^ n
FitsWidth (octets n xs) = length xs ≡ n

abbrev pub AllFit : List Field → Type 0
AllFit fields = AllByRecursion FitsWidth fields
