-- Lines of the first link of a small run, in which the central's channel map and the peripheral's request cross; and
-- such lines with one mistake (Core 5.2, volume 6 part B, sections 2.4.2 and 5.3).
use Rattle.std.specs.Prelude.{ℕ, List, [], ◌∷◌, ◌++◌}
use Rattle.ble_base.specs.declared.procedure_kinds.Kind.TheVariants.{Map, Request}
use Rattle.ble_base.specs.declared.roles.Side.TheVariants.{A, B}
use Rattle.journal.specs.declared.entries.Entry.{Entry}
use Rattle.journal.specs.declared.entries.Entry.TheVariants.{Began, Done, Refused, Sent, Took}
use Rattle.journal_endings.specs.journal_indications.journal_data.run_model.Rows.{one_connection_journal}

-- LL_CONNECTION_PARAM_REQ of the peripheral: an interval of 32 slots, no latency, a timeout of 720 ms, and no offsets
abbrev pub request_octets : List ℕ
request_octets =
    0x0F ∷ 0x20 ∷ 0x00 ∷ 0x20 ∷ 0x00 ∷ 0x00 ∷ 0x00 ∷ 0x48 ∷ 0x00 ∷ 0x00 ∷ 0x00 ∷ 0x00 ∷ 0xFF ∷ 0xFF ∷ 0xFF ∷ 0xFF
    ∷ 0xFF ∷ 0xFF ∷ 0xFF ∷ 0xFF ∷ 0xFF ∷ 0xFF ∷ 0xFF ∷ 0xFF ∷ []

-- LL_CHANNEL_MAP_IND of the central, from event 6 on
abbrev pub map_octets : List ℕ
map_octets = 0x01 ∷ 0xFF ∷ 0xFF ∷ 0xFF ∷ 0xFF ∷ 0x0F ∷ 0x06 ∷ 0x00 ∷ []

-- LL_REJECT_EXT_IND with this opcode and this error
abbrev pub rejection : (opcode code : ℕ) → List ℕ
rejection opcode code = 0x11 ∷ opcode ∷ code ∷ []

-- ---- both begin, and the central takes the request

abbrev pub both_begun : List Entry
both_begun = one_connection_journal ++ Began A 1 Request ∷ Began B 1 Map ∷ Sent A 1 1 3 request_octets ∷ []

abbrev pub request_taken : List Entry
request_taken = both_begun ++ Took B 1 1 3 request_octets ∷ []

-- what the central sends next
abbrev pub sent_next : List ℕ → List Entry
sent_next octets = request_taken ++ Sent B 1 1 3 octets ∷ []

-- the rejection comes after the map
abbrev pub rejected_second : List Entry
rejected_second = sent_next map_octets ++ Sent B 1 2 3 (rejection 0x0F 0x2A) ∷ []

-- ---- the peripheral takes the rejection

abbrev pub rejection_taken : List Entry
rejection_taken = sent_next (rejection 0x0F 0x2A) ++ Took A 1 1 3 (rejection 0x0F 0x2A) ∷ []

-- its request is refused with another error
abbrev pub refused_otherwise : List Entry
refused_otherwise = rejection_taken ++ Refused A 1 Request (record { 0 = 0x23 }) ∷ []

-- it is done
abbrev pub done_all_the_same : List Entry
done_all_the_same = rejection_taken ++ Done A 1 Request ∷ []

-- ---- an indication that comes of the request, or of no procedure

-- LL_CONNECTION_UPDATE_IND of the central: a window of 1 slot at 0, an interval of 32 slots, no latency, a timeout of 720
-- ms, from event 6 on
abbrev pub update_octets : List ℕ
update_octets =
    0x00 ∷ 0x01 ∷ 0x00 ∷ 0x00 ∷ 0x20 ∷ 0x00 ∷ 0x00 ∷ 0x00 ∷ 0x48 ∷ 0x00 ∷ 0x06 ∷ 0x00 ∷ []

-- the central grants the request that it rejected
abbrev pub granted_all_the_same : List Entry
granted_all_the_same = sent_next (rejection 0x0F 0x2A) ++ Sent B 1 2 3 update_octets ∷ []

-- its map is done, and comes once more
abbrev pub map_once_more : List Entry
map_once_more = sent_next (rejection 0x0F 0x2A) ++ Done B 1 Map ∷ Sent B 1 2 3 map_octets ∷ []
