-- The two ends differ in the channel, in the turn, or in the map.
use Rattle.std.proofs.Common.{ℕ, [], ◌∷◌, ◌++◌, refl, ap}
use Rattle.std.specs.List.{sum_by}
use Rattle.ble_base.specs.declared.roles.Side.TheVariants.{A, B}
use Rattle.ble_base.specs.ChannelMap.{data_channels, used_channels}
use Rattle.adv_pdu.specs.Header.{kept_bits}
use Rattle.adv_pdu.specs.Reading.{read_of}
use Rattle.air_frame.specs.Hearing.{heard_in}
use Rattle.data_pdu.specs.Layouts.{makers}
use Rattle.data_pdu.specs.Reading.{ctrl_of, length_of}
use Rattle.frame_bits.specs.Crc.{crc, crc_octets, crc_of_bits, remainder}
use Rattle.frame_bits.specs.Whitening.{mask_of, next_mask, whitening_bit, whitening_of}
use Rattle.h4_frames.specs.Frames.{frames}
use Rattle.hci_cmd.specs.Command.{command_of, layout_of, layouts}
use Rattle.instants.specs.declared.indications.Indication.{Indication}
use Rattle.instants.specs.declared.indications.Indication.TheVariants.{Map, Update}
use Rattle.instants.specs.declared.indications.Params.{Params}
use Rattle.instants.specs.declared.track.Change.{Change}
use Rattle.journal.specs.declared.entries.Entry.TheVariants.{Applied, Enter}
use Rattle.journal_pdus.specs.controller_model.Packets.{pdu_heard}
use Rattle.journal_pdus.specs.journal_acks.Carried.{sent_line_of}
use Rattle.journal_pdus.specs.journal_acks.Exchange.{exchange_of}
use Rattle.journal_pdus.specs.journal_controls.LineSteps.{keyed_on}
use Rattle.journal_pdus.specs.journal_links.Begun.{links_begun}
use Rattle.journal_pdus.specs.journal_links.Rows.{one_link}
use Rattle.journal_pdus.specs.journal_packets.Belonging.{is_answer, link_of_packet}
use Rattle.journal_pdus.specs.journal_sealing.Mixed.{is_mixed}
use Rattle.run_model.specs.Rows.{turn_entry}
use Rattle.wire_fields.specs.Field.{little_endian}
use Rattle.wrong_journals.specs.Alike.{map_mistaken}
use Rattle.wrong_journals.specs.Events.{turns_before_first}
use Rattle.wrong_journals.proofs.Differing.{numbers_differ}
use Rattle.wrong_journals.proofs.alike.ends_that_differ_are_refused.Goals as goal

-- the channel map of an indication, where it is of one
abbrev map_in : Indication → ℕ
map_in (Map map instant) = map
map_in (Update win_offset interval latency timeout instant) = 0

pub returns-clause-channels : goal.returns-clause-channels
unfolding is_mixed keyed_on exchange_of sent_line_of link_of_packet is_answer length_of links_begun pdu_heard heard_in read_of kept_bits crc crc_octets crc_of_bits remainder mask_of next_mask whitening_bit whitening_of little_endian ctrl_of makers data_channels used_channels frames command_of layout_of layouts
returns-clause-channels c words lawful =
    numbers_differ 25 26 refl
    (lawful turns_before_first (Enter B 1 0 26 ∷ []) (turns_before_first ++ Enter A 1 0 25 ∷ []) [] A B 1 0 25 26 one_link refl refl refl refl refl refl).one_channel

pub returns-clause-turns : goal.returns-clause-turns
unfolding is_mixed keyed_on exchange_of sent_line_of link_of_packet is_answer length_of links_begun pdu_heard heard_in read_of kept_bits crc crc_octets crc_of_bits remainder mask_of next_mask whitening_bit whitening_of little_endian ctrl_of makers data_channels used_channels frames command_of layout_of layouts
returns-clause-turns c words lawful =
    numbers_differ 3 4 refl
    (lawful turns_before_first (turn_entry 3 ∷ Enter B 1 0 25 ∷ []) (turns_before_first ++ Enter A 1 0 25 ∷ turn_entry 3 ∷ []) [] A B 1 0 25 25 one_link refl refl refl refl refl refl).turn

pub returns-clause-maps : goal.returns-clause-maps
unfolding is_mixed keyed_on exchange_of sent_line_of link_of_packet is_answer length_of links_begun pdu_heard heard_in read_of kept_bits crc crc_octets crc_of_bits remainder mask_of next_mask whitening_bit whitening_of little_endian ctrl_of makers data_channels used_channels frames command_of layout_of layouts
returns-clause-maps c words lawful =
    let one = map_mistaken ++ Applied A 1 1 6 ∷ [] in
    let other = one ++ Enter A 1 6 23 ∷ Applied B 1 1 6 ∷ [] in
    numbers_differ 0x07FFFFFFFF 0x0FFFFFFFFF refl
    (ap (λ (params : Params). params.map)
    (lawful one (Applied B 1 1 6 ∷ Enter B 1 6 23 ∷ []) other [] A B 1 6 23 23 one_link refl refl refl refl refl refl).params)

pub returns-clause-another : goal.returns-clause-another
unfolding is_mixed keyed_on exchange_of sent_line_of link_of_packet is_answer length_of links_begun pdu_heard heard_in read_of kept_bits crc crc_octets crc_of_bits remainder mask_of next_mask whitening_bit whitening_of little_endian ctrl_of makers data_channels used_channels frames command_of layout_of layouts
returns-clause-another c words lawful =
    numbers_differ 0x07FFFFFFFF 0x0FFFFFFFFF refl
    (ap (sum_by (λ (change : Change). map_in change.indication))
    (lawful (map_mistaken ++ Applied A 1 1 6 ∷ []) [] A 1 6 23 one_link refl refl refl))
