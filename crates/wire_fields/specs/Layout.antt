-- The layout of a packet: its fields from the front, and the value that they make (Core 5.2, volume 4 part E, section
-- 5.2; layouts are our choice). It says how octets are read, how many there must be, and which octets spell a value.
use Rattle.std.specs.Prelude.{◌≡◌, ℕ, ◌+◌, ◌<◌, ◌^◌, ◌==◌, Bool, List, [], ◌++◌, length, take, drop, Option, Some, None, if◌then◌else◌}
use Rattle.wire_fields.specs.Field.{little_endian, number_of}

-- what is taken from the front, one field after another, and the value that the fields make
pub data Layout (R : Type 0) : Type 0 where
  done : R → Layout R
  take_number : ℕ → (ℕ → Layout R) → Layout R
  take_octets : ℕ → (List ℕ → Layout R) → Layout R
  take_rest : (List ℕ → R) → Layout R

-- the number of octets that the fields take, read from the front of these octets
abbrev pub size_of : {R : Type 0} → Layout R → List ℕ → ℕ
size_of (done value) octets = 0
size_of (take_number n next) octets = n + size_of (next (number_of (take n octets))) (drop n octets)
size_of (take_octets n next) octets = n + size_of (next (take n octets)) (drop n octets)
size_of (take_rest make) octets = length octets

-- the value that the fields at the front of these octets make
abbrev pub value_of : {R : Type 0} → Layout R → List ℕ → R
value_of (done value) octets = value
value_of (take_number n next) octets = value_of (next (number_of (take n octets))) (drop n octets)
value_of (take_octets n next) octets = value_of (next (take n octets)) (drop n octets)
value_of (take_rest make) octets = make octets

-- the number of octets is that of the fields
abbrev pub is_whole : {R : Type 0} → Layout R → List ℕ → Bool
is_whole layout octets = length octets == size_of layout octets

-- the value of all these octets; none where their number is another
abbrev pub read_by : {R : Type 0} → Layout R → List ℕ → Option R
read_by layout octets = if is_whole layout octets then Some (value_of layout octets) else None

-- the same where the fields may make no value: none also where they make none
abbrev pub read_some_by : {R : Type 0} → Layout (Option R) → List ℕ → Option R
read_some_by layout octets = if is_whole layout octets then value_of layout octets else None

-- the layout with another value made of what it makes
abbrev pub mapped : {R S : Type 0} → (R → S) → Layout R → Layout S
mapped change (done value) = done (change value)
mapped change (take_number n next) = take_number n (λ number. mapped change (next number))
mapped change (take_octets n next) = take_octets n (λ field. mapped change (next field))
mapped change (take_rest make) = take_rest (λ rest. change (make rest))

-- the octets are those of fields that make the value, one after another, and nothing more
abbrev pub Spells : {R : Type 0} → Layout R → R → List ℕ → Type 0
Spells (done made) value octets = (made ≡ value) × (octets ≡ [])
Spells (take_number n next) value octets =
    (x : ℕ) × (rest : List ℕ) × (x < 256 ^ n) × (octets ≡ little_endian n x ++ rest) × Spells (next x) value rest
Spells (take_octets n next) value octets =
    (field : List ℕ) × (rest : List ℕ) × (length field ≡ n) × (octets ≡ field ++ rest) × Spells (next field) value rest
Spells (take_rest make) value octets = make octets ≡ value

-- some fields make the value
abbrev pub Makes : {R : Type 0} → Layout R → R → Type 0
Makes (done made) value = made ≡ value
Makes (take_number n next) value = (number : ℕ) × Makes (next number) value
Makes (take_octets n next) value = (field : List ℕ) × Makes (next field) value
Makes (take_rest make) value = (rest : List ℕ) × (make rest ≡ value)
