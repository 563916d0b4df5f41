-- The octets of fields determine the fields, where the fields have one shape and fit it.
use Rattle.std.proofs.Common.{◌≡◌, ℕ, zero, suc, ◌+◌, ◌%◌, ◌/◌, ◌<◌, ◌^◌, List, [], ◌∷◌, ◌++◌, length, map, refl, sym, ap, subst, ◌∙◌, append_assoc, append-nil, arith}
use Rattle.std.proofs.lemmas.List.{length-append}
use Rattle.wire_fields.specs.Field.{little_endian, Field, number, octets, octets_of, spelled, appended, width, FitsWidth, AllFit}
use Rattle.wire_fields.proofs.LittleEndian.{length-little_endian, little_endian_1}

-- a field without its value
abbrev pub blank : Field → Field
blank (number n x) = number n 0
blank (octets n xs) = octets n []

abbrev pub shape : List Field → List Field
shape fields = map blank fields

pub appended-spelled : (before : List ℕ) (fields : List Field) → appended before fields ≡ before ++ spelled fields
appended-spelled before [] = sym (append-nil before)
appended-spelled before (field ∷ fields) = appended-spelled (before ++ octets_of field) fields ∙ append_assoc before (octets_of field) (spelled fields)

-- two lists that begin with lists of one length
pub front_is : (a b s t : List ℕ) → length a ≡ length b → a ++ s ≡ b ++ t → (a ≡ b) × (s ≡ t)
front_is [] [] s t len e = (refl, e)
front_is (x ∷ a) (y ∷ b) s t len e =
    let h : x ≡ y = cc in
    let r = front_is a b s t (omega arith) cc in
    (let f = r.0 in cc, r.1)
front_is [] (y ∷ b) s t len e = absurd (omega arith)
front_is (x ∷ a) [] s t len e = absurd (omega arith)

quotient_fits : (n x : ℕ) → x < 256 ^ suc n → x / 256 < 256 ^ n
quotient_fits n x fits = omega arith

pub little_endian_is : (n x y : ℕ) → x < 256 ^ n → y < 256 ^ n → little_endian n x ≡ little_endian n y → x ≡ y
unfolding little_endian
little_endian_is zero x y fx fy e = omega arith
little_endian_is (suc n) x y fx fy e =
    let digits : x % 256 ≡ y % 256 = cc in
    let others : little_endian n (x / 256) ≡ little_endian n (y / 256) = cc in
    let high : x / 256 ≡ y / 256 = little_endian_is n (x / 256) (y / 256) (quotient_fits n x fx) (quotient_fits n y fy) others in
    omega arith

pub length-octets_of : (field : Field) → FitsWidth field → length (octets_of field) ≡ width field
length-octets_of (number n x) fits = length-little_endian n x
length-octets_of (octets n xs) fits = fits

number_is : (n m x y : ℕ) → n ≡ m → x < 256 ^ n → y < 256 ^ m → little_endian n x ≡ little_endian m y → number n x ≡ number m y
number_is n m x y same fx fy e =
    let P : ℕ → Type 0 = λ k. y < 256 ^ k in
    let spelled_same : little_endian n x ≡ little_endian n y = e ∙ ap (λ (k : ℕ). little_endian k y) (sym same) in
    let value : x ≡ y = little_endian_is n x y fx (subst P (sym same) fy) spelled_same in
    cc

pub width_is : (f g : Field) → blank f ≡ blank g → width f ≡ width g
width_is (number n x) (number m y) b = cc
width_is (octets n xs) (octets m ys) b = cc
width_is (number n x) (octets m ys) b = absurd cc
width_is (octets n xs) (number m y) b = absurd cc

pub field_is : (f g : Field) → FitsWidth f → FitsWidth g → blank f ≡ blank g → octets_of f ≡ octets_of g → f ≡ g
field_is (number n x) (number m y) ff fg b e =
    let same : n ≡ m = cc in
    number_is n m x y same ff fg e
field_is (octets n xs) (octets m ys) ff fg b e = cc
field_is (number n x) (octets m ys) ff fg b e = absurd cc
field_is (octets n xs) (number m y) ff fg b e = absurd cc

-- fields of one shape that fit it are the same where their octets are
pub fields_are : (fs gs : List Field) → shape fs ≡ shape gs → AllFit fs → AllFit gs → spelled fs ≡ spelled gs → fs ≡ gs
fields_are [] [] b ff fg e = refl
fields_are (f ∷ fs) (g ∷ gs) b ff fg e =
    let first : blank f ≡ blank g = cc in
    let others : shape fs ≡ shape gs = cc in
    let len : length (octets_of f) ≡ length (octets_of g) = length-octets_of f ff.0 ∙ width_is f g first ∙ sym (length-octets_of g fg.0) in
    let parts = front_is (octets_of f) (octets_of g) (spelled fs) (spelled gs) len e in
    let head : f ≡ g = field_is f g ff.0 fg.0 first parts.0 in
    let tail : fs ≡ gs = fields_are fs gs others ff.1 fg.1 parts.1 in
    cc
fields_are [] (g ∷ gs) b ff fg e = absurd cc
fields_are (f ∷ fs) [] b ff fg e = absurd cc

-- ---- the value at a place

abbrev pub number_at : ℕ → List Field → ℕ
number_at k [] = 0
number_at zero (number n x ∷ fields) = x
number_at zero (octets n xs ∷ fields) = 0
number_at (suc k) (field ∷ fields) = number_at k fields

abbrev pub octets_at : ℕ → List Field → List ℕ
octets_at k [] = []
octets_at zero (number n x ∷ fields) = []
octets_at zero (octets n xs ∷ fields) = xs
octets_at (suc k) (field ∷ fields) = octets_at k fields

-- ---- how long it is

abbrev pub total : List Field → ℕ
total [] = 0
total (field ∷ fields) = width field + total fields

pub length-spelled : (fields : List Field) → AllFit fields → length (spelled fields) ≡ total fields
length-spelled [] fits = refl
length-spelled (field ∷ fields) fits =
    let first = length-octets_of field fits.0 in
    let others = length-spelled fields fits.1 in
    omega (arith, length-append (octets_of field) (spelled fields))

pub octet_then : (x : ℕ) (rest : List ℕ) → x < 256 → little_endian 1 x ++ rest ≡ x ∷ rest
octet_then x rest small = ap (λ (t : List ℕ). t ++ rest) (sym (little_endian_1 x small))
