-- Proof of `right::worked_first_runs`: the definitions compute.
use Rattle.std.proofs.Common.{refl}
use Rattle.ble_base.specs.ChannelMap.{data_channels, used_channels}
use Rattle.data_pdu.specs.Layouts.{makers}
use Rattle.data_pdu.specs.Reading.{ctrl_of, length_of}
use Rattle.h4_frames.specs.Frames.{frames}
use Rattle.wire_fields.specs.Field.{little_endian}
use Rattle.hci_cmd.specs.Command.{command_of, layout_of, layouts}
use Rattle.host_view.specs.Changes.{view_after}
use Rattle.host_view.specs.Noted.{view_noted}
use Rattle.host_view.specs.Status.{status_of}
use Rattle.chan_select.specs.Channel.{channel_of}
use Rattle.chan_select.specs.PseudoRandom.{mam, perm, prn, reversed_octet, stage}
use Rattle.journal_pdus.specs.link_model.End.{facts_of as end_facts}
use Rattle.journal_pdus.specs.link_model.Receiving.{effect_of, kept_effect_of, replies_of}
use Rattle.journal_pdus.specs.link_model.Drawing.{draws_of}
use Rattle.journal_pdus.specs.link_end.Answers.{acked_of, given_of, kept_given_of}
use Rattle.journal_pdus.specs.link_model.Packets.{good_pdu, is_forged, packet_sent, verdict_of as end_verdict, whole_pdu}
use Rattle.scan_init.specs.Access.{bit_count, is_valid_access, next_access_of}
use Rattle.frame_bits.specs.Crc.{crc, crc_octets, crc_of_bits, remainder}
use Rattle.frame_bits.specs.Whitening.{mask_of, next_mask, whitening_bit, whitening_of}
use Rattle.air_frame.specs.Hearing.{heard_in}
use Rattle.adv_pdu.specs.Header.{kept_bits}
use Rattle.adv_pdu.specs.Reading.{read_of}
use Rattle.journal_pdus.specs.controller_model.Packets.{pdu_heard, use_of, verdict_of}
use Rattle.journal_pdus.specs.controller_model.Side.{facts_of, result_of}
use Rattle.run_model.specs.History.{fates_used, packet_received, packets_on_air, turns_begun}
use Rattle.run_model.specs.Links.{begins_link}
use Rattle.run_model.specs.Run.{after_opening, after_phase, after_phases, after_turn, run_of}
use Rattle.run_model.specs.Journal.{journal_of}
use Rattle.wrong_journals.proofs.right.worked_first_runs.Goals as goal

pub returns : goal.returns
unfolding ctrl_of length_of makers facts_of result_of frames little_endian command_of layout_of layouts view_after status_of use_of fates_used packet_received packets_on_air turns_begun after_opening after_phase after_phases after_turn run_of journal_of verdict_of pdu_heard heard_in read_of kept_bits crc crc_octets crc_of_bits remainder mask_of next_mask whitening_bit whitening_of begins_link bit_count is_valid_access next_access_of view_noted data_channels used_channels end_facts effect_of kept_effect_of replies_of draws_of acked_of given_of kept_given_of packet_sent good_pdu is_forged whole_pdu end_verdict reversed_octet perm mam stage prn channel_of
returns c = record { reset = refl; advertisement = refl; lost = refl; opens = refl; latency = refl; event = refl }
