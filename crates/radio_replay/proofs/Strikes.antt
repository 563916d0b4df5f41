-- A pattern xored into octets, one place after another.
use Rattle.std.proofs.Common.{◌≡◌, ℕ, ◌+◌, ◌<◌, ◌≤◌, List, [], ◌∷◌, ◌++◌, length, take, drop, get_or, set, refl, ap, arith, ◌∙◌, append_assoc}
use Rattle.std.specs.Prelude.{bit_xor}
use Rattle.std.proofs.lemmas.List.{drop_more, drop-set-lt, drop_all, take_all, append-nil, take-append-drop}
use Rattle.std.proofs.lemmas.Grind.{take-set_at}
use Rattle.radio_replay.specs.Damage.{xor_of}

-- the octets while they are changed: those before a front are done, those after it are not
abbrev pub changing : ℕ → ℕ → List ℕ → List ℕ → List ℕ
changing at place pattern octets = take (at + place) octets ++ xor_of (drop place pattern) (drop (at + place) octets)

-- one octet more is changed
pub change_more : (at place : ℕ) (pattern octets : List ℕ) → place < length pattern → at + place < length octets
    → changing at (place + 1) pattern (set octets (at + place) (bit_xor (get_or octets (at + place) 0) (get_or pattern place 0))) ≡ changing at place pattern octets
change_more at place pattern octets within reach =
    let changed = bit_xor (get_or octets (at + place) 0) (get_or pattern place 0) in
    let front = take-set_at octets (at + place) (at + (place + 1)) changed (omega arith) reach in
    let back : drop (at + (place + 1)) (set octets (at + place) changed) ≡ drop (at + place + 1) octets = drop-set-lt (at + (place + 1)) octets (at + place) changed (omega arith) ∙ ap (λ n. drop n octets) (omega arith) in
    rw (front, back, drop_more pattern place 0 within, drop_more octets (at + place) 0 reach)
    (append_assoc (take (at + place) octets) (changed ∷ []) (xor_of (drop (place + 1) pattern) (drop (at + place + 1) octets)))

xor_of-nothing : (pattern octets : List ℕ) → octets ≡ [] → xor_of pattern octets ≡ []
xor_of-nothing [] octets e = e
xor_of-nothing (change ∷ pattern) [] e = refl
xor_of-nothing (change ∷ pattern) (octet ∷ octets) e = absurd (cc)

-- after the end there is nothing to change
pub change_past : (at place : ℕ) (pattern octets : List ℕ) → length octets ≤ at + place → changing at place pattern octets ≡ octets
change_past at place pattern octets past =
    rw (xor_of-nothing (drop place pattern) (drop (at + place) octets) (drop_all (at + place) octets past), take_all (at + place) octets past) (append-nil octets)

-- after the whole pattern
pub change_all : (at : ℕ) (pattern octets : List ℕ) → changing at (length pattern) pattern octets ≡ octets
change_all at pattern octets =
    rw (drop_all (length pattern) pattern (omega arith)) (take-append-drop (at + length pattern) octets)
