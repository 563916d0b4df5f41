-- The windows of a scanner recur.
use Rattle.std.proofs.Common.{◌≡◌, ℕ, ◌+◌, ◌-◌, ◌*◌, ◌/◌, ◌%◌, ◌<◌, Some, None, refl, arith}
use Rattle.std.specs.Prelude.{nat_lt, if◌then◌else◌}
use Rattle.std.proofs.lemmas.Nat.{mod-mul-add, div-mul-add}
use Rattle.scan_init.specs.Windows.{scan_channel, slots_of}

at_elapsed : (interval window count place elapsed : ℕ) → place < interval → elapsed ≡ count * interval + place
    → (if nat_lt (elapsed % interval) window then Some (37 + elapsed / interval % 3) else None)
    ≡ (if nat_lt place window then Some (37 + count % 3) else None)
at_elapsed interval window count place elapsed h e =
    rw (e, mod-mul-add count interval place h, div-mul-add count interval place h) refl

pub window_recurs : (interval window since count place : ℕ) → place < slots_of interval
    → scan_channel interval window since (since + (count * slots_of interval + place))
    ≡ (if nat_lt place (slots_of window) then Some (37 + count % 3) else None)
window_recurs interval window since count place h =
    at_elapsed (slots_of interval) (slots_of window) count place (since + (count * slots_of interval + place) - since) h (omega arith)
