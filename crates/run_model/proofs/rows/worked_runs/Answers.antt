-- Proof of `rows::worked_runs`: the definitions compute.
use Rattle.std.proofs.Common.{refl}
use Rattle.h4_frames.specs.Frames.{frames}
use Rattle.wire_fields.specs.Field.{little_endian}
use Rattle.hci_cmd.specs.Command.{command_of, layout_of, layouts}
use Rattle.host_view.specs.Changes.{view_after}
use Rattle.host_view.specs.Status.{status_of}
use Rattle.frame_bits.specs.Crc.{crc, crc_octets, crc_of_bits, remainder}
use Rattle.frame_bits.specs.Whitening.{mask_of, next_mask, whitening_bit, whitening_of}
use Rattle.air_frame.specs.Hearing.{heard_in}
use Rattle.adv_pdu.specs.Header.{kept_bits}
use Rattle.adv_pdu.specs.Reading.{read_of}
use Rattle.controller_model.specs.Packets.{pdu_heard, use_of, verdict_of}
use Rattle.controller_model.specs.Side.{facts_of, result_of}
use Rattle.run_model.specs.History.{fates_used, packet_received, packets_on_air, turns_begun}
use Rattle.run_model.specs.Links.{begins_link}
use Rattle.run_model.specs.Run.{after_opening, after_phase, after_phases, after_turn, run_of}
use Rattle.run_model.specs.Journal.{journal_of}
use Rattle.run_model.proofs.rows.worked_runs.Goals as goal

pub returns : goal.returns
unfolding facts_of result_of frames little_endian command_of layout_of layouts view_after status_of use_of fates_used packet_received packets_on_air turns_begun after_opening after_phase after_phases after_turn run_of journal_of verdict_of pdu_heard heard_in read_of kept_bits crc crc_octets crc_of_bits remainder mask_of next_mask whitening_bit whitening_of begins_link
returns c = record { reset = refl; advertisement = refl; lost = refl }
