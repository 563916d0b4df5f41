-- Proof of `rows::worked_openings`: the definitions compute.
use Rattle.std.proofs.Common.{[], true, refl}
use Rattle.ble_base.specs.declared.roles.Side.TheVariants.{A}
use Rattle.adv_pdu.specs.Header.{kept_bits}
use Rattle.adv_pdu.specs.Reading.{read_of}
use Rattle.air_frame.specs.Hearing.{heard_in}
use Rattle.ble_base.specs.ChannelMap.{data_channels, used_channels}
use Rattle.frame_bits.specs.Crc.{crc, crc_octets, crc_of_bits, remainder}
use Rattle.frame_bits.specs.Whitening.{mask_of, next_mask, whitening_bit, whitening_of}
use Rattle.journal_data.specs.controller_model.Packets.{pdu_heard}
use Rattle.wire_fields.specs.Field.{little_endian}
use Rattle.journal_data.specs.Lines.{lines_of}
use Rattle.h4_frames.specs.Frames.{frames}
use Rattle.hci_cmd.specs.Command.{command_of, layout_of, layouts}
use Rattle.journal.specs.declared.entries.Mark.TheVariants.{Pass as Passed}
use Rattle.journal_data.specs.run_laws.Rows.{one_event_fields}
use Rattle.journal_data.specs.run_model.Rows.{connect_packet}
use Rattle.journal_data.specs.journal_links.Begun.{links_begun}
use Rattle.journal_hearings.specs.Openings.{IsToOpen}
use Rattle.journal_hearings.specs.Rows.{device_a, device_b, offered_journal}
use Rattle.journal_hearings.proofs.rows.worked_openings.Goals as goal

pub returns : goal.returns
unfolding pdu_heard heard_in read_of kept_bits crc crc_octets crc_of_bits remainder mask_of next_mask whitening_bit whitening_of little_endian lines_of frames command_of layout_of layouts data_channels used_channels links_begun
returns c = let to_open : IsToOpen A offered_journal device_b device_a one_event_fields = record { lets = refl; in_range = refl; new = refl } in record {
  to_open = to_open;
  was_to_open = record {
    heard = record {
      before = offered_journal;
      between = [];
      channel = 37;
      octets = connect_packet;
      fate = Passed;
      from = device_b;
      to = device_a;
      ch_sel = true;
      fields = one_event_fields;
      is_at = refl;
      in_turn = refl;
      on_channel = refl;
      says = refl;
      number_is = refl;
    };
    to_open = to_open;
  };
  taken = refl;
  central = refl;
  no_link = refl;
  linked = refl;
  peer = refl;
  crossed = refl;
  not_yet = refl;
}
