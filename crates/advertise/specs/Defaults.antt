-- The parameters of an advertiser whose host has set none (Core 5.2, volume 4 part E, section 7.8.5).
use Rattle.std.specs.Prelude.{false, [], ◌∷◌}
use Rattle.ble_base.specs.declared.addresses.Address.{Address}
use Rattle.advertise.specs.declared.params.AdvParams.{AdvParams}

abbrev pub no_address : Address
no_address = record { random = false; octets = 0 ∷ 0 ∷ 0 ∷ 0 ∷ 0 ∷ 0 ∷ [] }

-- an interval of 1.28 s, connectable and scannable to anyone, on all three channels, with no filter
abbrev pub first_params : AdvParams
first_params =
    record { interval = 0x0800; kind = 0; own = no_address; target = no_address; channels = 7; policy = 0 }
