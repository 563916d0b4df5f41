-- The limits of a schedule (our choice).
use Rattle.std.specs.Prelude.{ℕ}

-- the most turns
abbrev pub most_turns : ℕ
most_turns = 100000

-- the most turns in a run: the largest number of six digits
abbrev pub most_repeated : ℕ
most_repeated = 999999

-- the most octets that a turn feeds to one side
abbrev pub most_fed : ℕ
most_fed = 1048576

-- the last place at which a damage may begin: that of the last octet of the longest packet
abbrev pub last_place : ℕ
last_place = 263
