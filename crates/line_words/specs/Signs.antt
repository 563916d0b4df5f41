-- Signs for what is on or off (our choice).
use Rattle.std.specs.Prelude.{ℕ, ◌==◌, Bool, true, false, Option, Some, None, if◌then◌else◌}

-- `+` for on, `-` for off
abbrev pub sign_of : Bool → ℕ
sign_of true = 43
sign_of false = 45

-- whether a sign is `+` and not `-`; none if it is another octet
abbrev pub sign_value : ℕ → Option Bool
sign_value octet = if octet == 43 then Some true else if octet == 45 then Some false else None
