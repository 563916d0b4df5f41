-- Hexadecimal text of octets that are put in parts.
use Rattle.std.proofs.Common.{◌≡◌, ℕ, List, [], ◌∷◌, ◌++◌, take, drop, refl, sym, ap, ◌∙◌}
use Rattle.std.proofs.lemmas.List.{take-append-drop}
use Rattle.hex.specs.Hex.{encode_lower, encode_with, lower_digits}

encode-append : (digits xs ys : List ℕ) → encode_with digits (xs ++ ys) ≡ encode_with digits xs ++ encode_with digits ys
unfolding encode_with
encode-append digits [] ys = refl
encode-append digits (x ∷ xs) ys = cc (encode-append digits xs ys)

-- the text of n octets, and then that of what comes after them
pub encode-parts : (n : ℕ) (octets : List ℕ) → encode_lower (take n octets) ++ encode_lower (drop n octets) ≡ encode_lower octets
encode-parts n octets =
    sym (encode-append lower_digits (take n octets) (drop n octets)) ∙ ap encode_lower (take-append-drop n octets)
