-- Proof of `rows::worked_keys`: the definitions compute.
use Rattle.std.proofs.Common.{◌≡◌, ℕ, Option, Some, None, refl, ap}
use Rattle.adv_pdu.specs.Header.{kept_bits}
use Rattle.adv_pdu.specs.Reading.{read_of}
use Rattle.air_frame.specs.Hearing.{heard_in}
use Rattle.frame_bits.specs.Crc.{crc, crc_octets, crc_of_bits, remainder}
use Rattle.frame_bits.specs.Whitening.{mask_of, next_mask, whitening_bit, whitening_of}
use Rattle.data_pdu.specs.Layouts.{makers}
use Rattle.data_pdu.specs.Reading.{ctrl_of, length_of}
use Rattle.h4_frames.specs.Frames.{frames}
use Rattle.hci_cmd.specs.Command.{command_of, layout_of, layouts}
use Rattle.journal_controls.specs.controller_model.Packets.{pdu_heard}
use Rattle.wire_fields.specs.Field.{little_endian}
use Rattle.journal_controls.specs.journal_acks.Carried.{sent_line_of}
use Rattle.journal_controls.specs.journal_acks.Exchange.{exchange_of}
use Rattle.journal_controls.specs.journal_links.Begun.{links_begun}
use Rattle.journal_controls.specs.journal_packets.Belonging.{is_answer, link_of_packet}
use Rattle.journal_controls.specs.LineSteps.{keyed_on}
use Rattle.journal_controls.specs.link_model.declared.state.Leaving.{Leaving}
use Rattle.journal_leaving.specs.Leaving.{leaving_on}
use Rattle.journal_leaving.proofs.rows.worked_keys.Goals as goal

none_some : (n : ℕ) → None ≡ Some n → ⊥
none_some n is = absurd cc

abbrev leaves_from : Option Leaving → Option ℕ
leaves_from None = None
leaves_from (Some leaving) = leaving.disconnected

pub returns : goal.returns
unfolding leaving_on keyed_on exchange_of sent_line_of link_of_packet is_answer links_begun pdu_heard heard_in read_of kept_bits crc crc_octets crc_of_bits remainder mask_of next_mask whitening_bit whitening_of little_endian frames command_of layout_of layouts ctrl_of length_of makers
returns c = record {
  lacks = refl;
  at_once = refl;
  first = refl;
  not_first = λ same. none_some 7 (ap (λ (leaving : Leaving). leaving.disconnected) same);
  unasked = refl;
  withheld = λ words. refl;
  not_withheld = λ words same. none_some 3 (ap leaves_from same);
  due = refl;
  early = refl;
}
