-- Proof of `rows::crossing_journals_are_refused`: the counts compute, and the PDUs are read.
use Rattle.std.proofs.Common.{◌≤◌, [], ◌∷◌, ◌++◌, arith, refl}
use Rattle.ble_base.specs.ChannelMap.{data_channels, used_channels}
use Rattle.ble_base.specs.declared.roles.Side.TheVariants.{B}
use Rattle.data_pdu.specs.Layouts.{makers}
use Rattle.data_pdu.specs.Reading.{ctrl_of, length_of}
use Rattle.data_pdu.specs.declared.ctrl.Ctrl.TheVariants.{ChannelMapInd, ConnectionParamReq}
use Rattle.journal.specs.declared.entries.Entry.TheVariants.{Sent, Took}
use Rattle.wire_fields.specs.Field.{little_endian}
use Rattle.journal_collisions.specs.Collisions.{IsTermination}
use Rattle.journal_collisions.specs.Rows.{both_begun, map_octets, request_octets}
use Rattle.journal_collisions.specs.journal_data.Lines.{lines_of}
use Rattle.journal_collisions.specs.journal_links.Rows.{one_link}
use Rattle.journal_collisions.proofs.Worked.{it_collides}
use Rattle.journal_collisions.proofs.journal_endings.journal_indications.journal_data.journal_links.LinksBegun.{number_stays}
use Rattle.journal_crossing.specs.Crossing.{IsKnownControl}
use Rattle.journal_crossing.specs.Rows.{terminate_octets}
use Rattle.journal_crossing.proofs.rows.crossing_journals_are_refused.Goals as goal

-- the request, with an interval of 32 slots, and no offsets
known_request : IsKnownControl 3 request_octets
unfolding ctrl_of makers length_of little_endian
known_request = record {
  ctrl = ConnectionParamReq 0x20 0x20 0 0x48 0 0 (0xFFFF ∷ 0xFFFF ∷ 0xFFFF ∷ 0xFFFF ∷ 0xFFFF ∷ 0xFFFF ∷ []);
  is = refl;
}

-- the channel map
known_map : IsKnownControl 3 map_octets
unfolding ctrl_of makers length_of data_channels used_channels little_endian
known_map = record { ctrl = ChannelMapInd 0x0FFFFFFFFF 6; is = refl }

it_ends : IsTermination 3 terminate_octets
unfolding ctrl_of makers length_of little_endian
it_ends = record { code = 0x13; is = refl }

one_of_none : 1 ≤ 0 → ⊥
one_of_none less = omega (arith, less)

pub returns-clause-crossing : goal.returns-clause-crossing
unfolding lines_of
returns-clause-crossing c lawful =
    one_of_none (lawful both_begun [] [] one_link B 1 1 1 3 map_octets request_octets refl refl it_collides.is_link known_request)

pub returns-clause-after_the_end : goal.returns-clause-after_the_end
returns-clause-after_the_end c lawful =
    lawful (both_begun ++ Took B 1 1 3 request_octets ∷ Sent B 1 1 3 terminate_octets ∷ []) (Sent B 1 2 3 map_octets ∷ []) [] one_link 1 1 3 2 3
    terminate_octets map_octets refl refl
    (number_stays 1 both_begun (Took B 1 1 3 request_octets ∷ Sent B 1 1 3 terminate_octets ∷ []) one_link it_collides.is_link) it_ends known_map
