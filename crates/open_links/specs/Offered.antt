-- Packets of the host, and those that are complete (Core 5.2, volume 4 part E, sections 4.1 and 7.7.19).
use Rattle.std.specs.Prelude.{ℕ, zero, suc, Bool, List, [], ◌∷◌}
use Rattle.ble_base.specs.Limits.{payload_octets}
use Rattle.acl_banks.specs.Packets.{new_packet}
use Rattle.acl_banks.specs.Banks.{Bank, bank_after_offer}
use Rattle.open_links.specs.declared.offers.Completed.{Completed}
use Rattle.open_links.specs.declared.offers.Offer.{Offer}
use Rattle.open_links.specs.declared.offers.Offer.TheVariants.{Kept}

-- a buffer has this number of octets
abbrev pub buffer_octets : ℕ
buffer_octets = payload_octets

-- a bank after a packet of the host of which this becomes
abbrev pub bank_offered : Offer → ℕ → Bool → List ℕ → Bank → Bank
bank_offered Kept handle start body bank = bank_after_offer bank (new_packet handle start body)
bank_offered other handle start body bank = bank

-- the packets of a link that are complete, if there are any
abbrev pub completed_by : ℕ → ℕ → List Completed
completed_by handle zero = []
completed_by handle (suc count) = record { handle = handle; count = suc count } ∷ []
