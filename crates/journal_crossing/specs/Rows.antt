-- Lines of the first link of a small run, in which the central's channel map and the peripheral's request cross, or the
-- central ends the link (Core 5.2, volume 6 part B, sections 2.4.2, 4.5.9 and 5.1.6).
use Rattle.std.specs.Prelude.{ℕ, List, [], ◌∷◌, ◌++◌}
use Rattle.ble_base.specs.declared.roles.Side.TheVariants.{A, B}
use Rattle.journal.specs.declared.entries.Entry.{Entry}
use Rattle.journal.specs.declared.entries.Entry.TheVariants.{Sent, Took}
use Rattle.journal_collisions.specs.Rows.{both_begun, map_octets, request_octets}

-- the central takes the request while the peripheral has not taken the channel map
abbrev pub crossed : List Entry
crossed = both_begun ++ Sent B 1 1 3 map_octets ∷ Took B 1 1 3 request_octets ∷ []

-- LL_TERMINATE_IND with the error 13, which the peripheral takes
abbrev pub terminate_octets : List ℕ
terminate_octets = 0x02 ∷ 0x13 ∷ []

abbrev pub end_sent : List Entry
end_sent = both_begun ++ Took B 1 1 3 request_octets ∷ Sent B 1 1 3 terminate_octets ∷ []

-- and then the channel map
abbrev pub taken_after_end : List Entry
taken_after_end =
    end_sent ++ Took A 1 1 3 terminate_octets ∷ Sent B 1 2 3 map_octets ∷ Took A 1 2 3 map_octets ∷ []
