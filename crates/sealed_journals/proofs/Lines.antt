-- The payloads that are due by the lines of the sample journal.
use Rattle.std.proofs.Common.{◌≡◌, ℕ, List, [], ◌∷◌, refl, ap, ◌∙◌}
use Rattle.std.specs.Prelude.{Bool, true, false, not}
use Rattle.ble_base.specs.declared.roles.Side.TheVariants.{A, B}
use Rattle.aes_block.specs.Field.{times}
use Rattle.aes_block.specs.State.{add_states, mix_columns, round_key, shift_rows}
use Rattle.ccm_link.specs.Ccm.{sealed_payload}
use Rattle.ccm_link.specs.Payload.{additional_data, is_genuine, nonce, session_key}
use Rattle.adv_pdu.specs.Header.{kept_bits}
use Rattle.adv_pdu.specs.Reading.{read_of}
use Rattle.air_frame.specs.Hearing.{heard_in}
use Rattle.data_pdu.specs.Layouts.{makers}
use Rattle.data_pdu.specs.Reading.{ctrl_of, length_of}
use Rattle.frame_bits.specs.Crc.{crc, crc_octets, crc_of_bits, remainder}
use Rattle.frame_bits.specs.Whitening.{mask_of, next_mask, whitening_bit, whitening_of}
use Rattle.h4_frames.specs.Frames.{frames}
use Rattle.hci_cmd.specs.Command.{command_of, layout_of, layouts}
use Rattle.wire_fields.specs.Field.{little_endian}
use Rattle.journal_sealing.specs.Forged.{is_forged_for}
use Rattle.journal_sealing.specs.SealedLines.{payload_carried, sealed_line_of}
use Rattle.journal_sealing.specs.journal_controls.LineSteps.{keyed_on}
use Rattle.journal_sealing.specs.journal_controls.controller_model.Packets.{pdu_heard}
use Rattle.journal_sealing.specs.journal_acks.Carried.{sent_line_of}
use Rattle.journal_sealing.specs.journal_acks.Exchange.{exchange_of}
use Rattle.journal_sealing.specs.journal_controls.journal_links.Begun.{links_begun}
use Rattle.journal_sealing.specs.journal_controls.journal_packets.Belonging.{is_answer, link_of_packet}
use Rattle.sealed_journals.specs.Refused.{response_lost}
use Rattle.sealed_journals.specs.Sample.{answer_sent, central_data, central_response, central_sealed, central_skd, data_sent, long_term_key, peripheral_data, peripheral_response, peripheral_sealed, peripheral_skd, reply_sent, response_packet, response_sent, sample_iv, sample_words, turned_response}
use Rattle.sealed_journals.proofs.Payloads.{session_genuine, session_sealed}

-- what an end of the session seals with this counter
abbrev sealed_as : Bool → ℕ → ℕ → List ℕ → List ℕ
sealed_as central counter llid body =
    sealed_payload (session_key long_term_key central_skd peripheral_skd) (nonce counter central sample_iv)
    (additional_data llid) body

-- ---- the ciphers are evaluated

pub central_response_is : sealed_as true 0 3 (0x06 ∷ []) ≡ central_response
unfolding nonce times add_states mix_columns round_key shift_rows
central_response_is = session_sealed (nonce 0 true sample_iv) (additional_data 3) (0x06 ∷ [])

pub peripheral_response_is : sealed_as false 0 3 (0x06 ∷ []) ≡ peripheral_response
unfolding nonce times add_states mix_columns round_key shift_rows
peripheral_response_is = session_sealed (nonce 0 false sample_iv) (additional_data 3) (0x06 ∷ [])

central_data_is : sealed_as true 1 2 central_data ≡ central_sealed
unfolding nonce times add_states mix_columns round_key shift_rows
central_data_is = session_sealed (nonce 1 true sample_iv) (additional_data 2) central_data

peripheral_data_is : sealed_as false 1 2 peripheral_data ≡ peripheral_sealed
unfolding nonce times add_states mix_columns round_key shift_rows
peripheral_data_is = session_sealed (nonce 1 false sample_iv) (additional_data 2) peripheral_data

-- ---- and then the lines

response_line : payload_carried sample_words 1 response_sent A ≡ sealed_as true 0 3 (0x06 ∷ [])
unfolding sealed_line_of sent_line_of keyed_on ctrl_of length_of makers exchange_of link_of_packet is_answer links_begun pdu_heard heard_in read_of kept_bits crc crc_octets crc_of_bits remainder mask_of next_mask whitening_bit whitening_of little_endian frames command_of layout_of layouts
response_line = refl

lost_line : payload_carried sample_words 1 response_lost A ≡ sealed_as true 0 3 (0x06 ∷ [])
unfolding sealed_line_of sent_line_of keyed_on ctrl_of length_of makers exchange_of link_of_packet is_answer links_begun pdu_heard heard_in read_of kept_bits crc crc_octets crc_of_bits remainder mask_of next_mask whitening_bit whitening_of little_endian frames command_of layout_of layouts
lost_line = refl

reply_line : payload_carried sample_words 1 reply_sent B ≡ sealed_as false 0 3 (0x06 ∷ [])
unfolding sealed_line_of sent_line_of keyed_on ctrl_of length_of makers exchange_of link_of_packet is_answer links_begun pdu_heard heard_in read_of kept_bits crc crc_octets crc_of_bits remainder mask_of next_mask whitening_bit whitening_of little_endian frames command_of layout_of layouts
reply_line = refl

data_line : payload_carried sample_words 1 data_sent A ≡ sealed_as true 1 2 central_data
unfolding sealed_line_of sent_line_of keyed_on ctrl_of length_of makers exchange_of link_of_packet is_answer links_begun pdu_heard heard_in read_of kept_bits crc crc_octets crc_of_bits remainder mask_of next_mask whitening_bit whitening_of little_endian frames command_of layout_of layouts
data_line = refl

answer_line : payload_carried sample_words 1 answer_sent B ≡ sealed_as false 1 2 peripheral_data
unfolding sealed_line_of sent_line_of keyed_on ctrl_of length_of makers exchange_of link_of_packet is_answer links_begun pdu_heard heard_in read_of kept_bits crc crc_octets crc_of_bits remainder mask_of next_mask whitening_bit whitening_of little_endian frames command_of layout_of layouts
answer_line = refl

pub response_due : payload_carried sample_words 1 response_sent A ≡ central_response
response_due = response_line ∙ central_response_is

pub lost_due : payload_carried sample_words 1 response_lost A ≡ central_response
lost_due = lost_line ∙ central_response_is

pub reply_due : payload_carried sample_words 1 reply_sent B ≡ peripheral_response
reply_due = reply_line ∙ peripheral_response_is

pub data_due : payload_carried sample_words 1 data_sent A ≡ central_sealed
data_due = data_line ∙ central_data_is

pub answer_due : payload_carried sample_words 1 answer_sent B ≡ peripheral_sealed
answer_due = answer_line ∙ peripheral_data_is

-- ---- what the peripheral judges

abbrev genuine : List ℕ → Bool
genuine payload =
    is_genuine (session_key long_term_key central_skd peripheral_skd) (nonce 0 true sample_iv) (additional_data 3)
    payload

turned_line : is_forged_for sample_words 1 response_sent B 21 turned_response ≡ not (genuine peripheral_response)
unfolding sent_line_of keyed_on ctrl_of length_of makers exchange_of link_of_packet is_answer links_begun pdu_heard heard_in read_of kept_bits crc crc_octets crc_of_bits remainder mask_of next_mask whitening_bit whitening_of little_endian frames command_of layout_of layouts
turned_line = refl

right_line : is_forged_for sample_words 1 response_sent B 21 response_packet ≡ not (genuine central_response)
unfolding sent_line_of keyed_on ctrl_of length_of makers exchange_of link_of_packet is_answer links_begun pdu_heard heard_in read_of kept_bits crc crc_octets crc_of_bits remainder mask_of next_mask whitening_bit whitening_of little_endian frames command_of layout_of layouts
right_line = refl

turned_is : not (genuine peripheral_response) ≡ true
unfolding nonce times add_states mix_columns round_key shift_rows
turned_is = ap not (session_genuine (nonce 0 true sample_iv) (additional_data 3) peripheral_response)

right_is : not (genuine central_response) ≡ false
unfolding nonce times add_states mix_columns round_key shift_rows
right_is = ap not (session_genuine (nonce 0 true sample_iv) (additional_data 3) central_response)

pub turned_is_forged : is_forged_for sample_words 1 response_sent B 21 turned_response ≡ true
turned_is_forged = turned_line ∙ turned_is

pub right_is_not_forged : is_forged_for sample_words 1 response_sent B 21 response_packet ≡ false
right_is_not_forged = right_line ∙ right_is
