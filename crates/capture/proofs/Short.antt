-- Packets that end within their access address.
use Rattle.std.proofs.Common.{◌≡◌, ℕ, ◌≤◌, List, [], ◌∷◌, ◌++◌, length, take, drop, refl, arith}
use Rattle.frame_bits.specs.Whitening.{whitening_of}

-- there is nothing to whiten
pub short_body : (channel : ℕ) (octets : List ℕ) → length octets ≤ 4 → octets ≡ take 4 octets ++ whitening_of channel (drop 4 octets)
unfolding whitening_of
short_body channel [] short = refl
short_body channel (a ∷ []) short = refl
short_body channel (a ∷ b ∷ []) short = refl
short_body channel (a ∷ b ∷ c ∷ []) short = refl
short_body channel (a ∷ b ∷ c ∷ d ∷ []) short = refl
short_body channel (a ∷ b ∷ c ∷ d ∷ e ∷ octets) short = absurd (omega arith)
