-- Proof of `rows::wrong_outcomes_are_refused`: no procedure is in progress that would give such a line.
use Rattle.std.proofs.Common.{◌≡◌, ◌⊎◌, inl, inr, Bool, true, false, [], ◌∷◌, refl}
use Rattle.ble_base.specs.ChannelMap.{data_channels, used_channels}
use Rattle.ble_base.specs.declared.procedure_kinds.Kind.TheVariants.{Map, Request, Update}
use Rattle.ble_base.specs.declared.roles.Side.TheVariants.{B}
use Rattle.data_pdu.specs.Layouts.{makers}
use Rattle.data_pdu.specs.Reading.{ctrl_of, length_of}
use Rattle.journal.specs.declared.entries.Entry.TheVariants.{Done, Sent}
use Rattle.journal_endings.specs.journal_indications.journal_data.journal_links.Rows.{one_link}
use Rattle.wire_fields.specs.Field.{little_endian}
use Rattle.journal_collisions.specs.Rows.{both_begun, map_octets, rejection, request_octets, update_octets}
use Rattle.journal_collisions.proofs.Worked.{it_collides}
use Rattle.journal_collisions.proofs.rows.wrong_outcomes_are_refused.Goals as goal

neither : (◌≡◌ {A = Bool} false true) ⊎ (◌≡◌ {A = Bool} false true) → ⊥
neither (inl never) = absurd cc
neither (inr never) = absurd cc

pub returns-clause-update : goal.returns-clause-update
unfolding little_endian ctrl_of makers length_of
returns-clause-update c lawful =
    neither
    (lawful both_begun (Sent B 1 1 3 (rejection 0x0F 0x2A) ∷ []) [] one_link 1 1 3 request_octets 2 3 update_octets Map Request Update refl refl it_collides refl)

pub returns-clause-map : goal.returns-clause-map
unfolding little_endian ctrl_of makers length_of data_channels used_channels
returns-clause-map c lawful =
    neither
    (lawful both_begun (Sent B 1 1 3 (rejection 0x0F 0x2A) ∷ Done B 1 Map ∷ []) [] one_link 1 1 3 request_octets 2 3 map_octets Map Request Map refl refl it_collides refl)
