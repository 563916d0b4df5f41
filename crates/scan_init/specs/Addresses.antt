-- Device addresses, and the accept list (Core 5.2, volume 6 part B, sections 1.3 and 4.3.1, which names it White List).
use Rattle.std.specs.Prelude.{◌≡◌, ◌≤◌, ◌&&◌, not, nat_le, Bool, true, List, [], ◌∷◌, ◌++◌, length, filter, if◌then◌else◌}
use Rattle.std.specs.Bool.{beq}
use Rattle.std.specs.List.{list_any}
use Rattle.std.specs.Str.{bytes_eq}
use Rattle.ble_base.specs.declared.addresses.Address.{Address}

-- two addresses are of one type and have the same octets
abbrev pub is_same_address : Address → Address → Bool
is_same_address one other = beq one.random other.random && bytes_eq one.octets other.octets

-- the list has the address
abbrev pub is_listed : List Address → Address → Bool
is_listed list address = list_any (is_same_address address) list

-- the list with an address, which is added at its end where the list does not have it
abbrev pub with_address : List Address → Address → List Address
with_address list address = if is_listed list address then list else list ++ address ∷ []

-- the list without an address
abbrev pub without_address : List Address → Address → List Address
without_address list address = filter (λ other. not (is_same_address address other)) list

-- eight others are in the list (our choice of its size)
abbrev pub is_full_for : List Address → Address → Bool
is_full_for list address = nat_le 8 (length list) && not (is_listed list address)

-- no address is in the list twice
abbrev pub are_distinct : List Address → Bool
are_distinct [] = true
are_distinct (address ∷ others) = not (is_listed others address) && are_distinct others

-- what is true of each accept list: a set of at most eight addresses
pub record IsAcceptList (list : List Address) : Type 0 where
  pub at_most_eight : length list ≤ 8
  pub distinct : are_distinct list ≡ true
