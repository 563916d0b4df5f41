-- A front of a list that is shorter than it may be is the whole list.
use Rattle.std.proofs.Common.{◌≡◌, ℕ, ◌+◌, ◌≤◌, List, Option, Some, None, length, take, arith}
use Rattle.std.proofs.lemmas.Grind.{common_steps}
use Rattle.outside.specs.Known.{WhereKnown}

front_is_whole : (octets c : List ℕ) (limit : ℕ) → octets ≡ take (limit + 1) c → length octets ≤ limit → octets ≡ c
front_is_whole octets c limit is short = grind (arith, common_steps)

pub whole_front : (octets : List ℕ) (known : Option (List ℕ)) (limit : ℕ)
    → WhereKnown known (λ c. octets ≡ take (limit + 1) c) → length octets ≤ limit → WhereKnown known (λ c. octets ≡ c)
whole_front octets None limit is short = tt
whole_front octets (Some c) limit is short = front_is_whole octets c limit is short
