-- Hexadecimal text of octets that are written in parts.
use Rattle.std.proofs.Common.{◌≡◌, ℕ, List, [], ◌∷◌, ◌++◌, take, drop, refl, sym, ap, ◌∙◌, append_assoc}
use Rattle.std.proofs.lemmas.List.{take-append-drop}
use Rattle.hex.specs.Hex.{encode_lower, encode_with, lower_digits}

encode-append : (digits xs ys : List ℕ) → encode_with digits (xs ++ ys) ≡ encode_with digits xs ++ encode_with digits ys
unfolding encode_with
encode-append digits [] ys = refl
encode-append digits (x ∷ xs) ys = cc (encode-append digits xs ys)

-- n octets are written, and then those after them
pub encode-parts : (n : ℕ) (text octets : List ℕ)
    → (text ++ encode_lower (take n octets)) ++ encode_lower (drop n octets) ≡ text ++ encode_lower octets
encode-parts n text octets =
    append_assoc text _ _
    ∙ ap (λ xs. text ++ xs) (sym (encode-append lower_digits (take n octets) (drop n octets)))
    ∙ ap (λ xs. text ++ encode_lower xs) (take-append-drop n octets)
