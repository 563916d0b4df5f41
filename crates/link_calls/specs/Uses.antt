-- On which link a controller sends or listens in a phase (Core 5.2, volume 6 part B, section 4.5.1).
use Rattle.std.specs.Prelude.{ℕ, ◌==◌, ◌||◌, Bool, true, false}
use Rattle.run_laws.specs.controller_model.declared.doing.Doing.{Doing}
use Rattle.run_laws.specs.controller_model.declared.doing.Doing.TheVariants.{CentralListens, CentralSends, PeripheralListens, PeripheralSends}

-- it sends or listens on a link
abbrev pub is_on_link : Doing → Bool
is_on_link (CentralSends handle) = true
is_on_link (CentralListens handle) = true
is_on_link (PeripheralListens handle) = true
is_on_link (PeripheralSends handle) = true
is_on_link other = false

-- it sends on the link under this handle
abbrev pub sends_under : ℕ → Doing → Bool
sends_under handle (CentralSends other) = other == handle
sends_under handle (PeripheralSends other) = other == handle
sends_under handle other = false

-- it listens on that link
abbrev pub listens_under : ℕ → Doing → Bool
listens_under handle (CentralListens other) = other == handle
listens_under handle (PeripheralListens other) = other == handle
listens_under handle other = false

-- it does either
abbrev pub uses_under : ℕ → Doing → Bool
uses_under handle doing = sends_under handle doing || listens_under handle doing

-- an exchange begins on that link, so that it fixes the PDU that it sends in it
abbrev pub fixes_under : ℕ → Doing → Bool
fixes_under handle (CentralSends other) = other == handle
fixes_under handle (PeripheralListens other) = other == handle
fixes_under handle other = false
