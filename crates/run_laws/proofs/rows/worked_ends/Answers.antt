-- Proof of `rows::worked_ends`: the definitions compute.
use Rattle.std.proofs.Common.{◌≡◌, ℕ, zero, suc, List, [], ◌∷◌, ◌++◌, refl, ap, arith}
use Rattle.ble_base.specs.ChannelMap.{data_channels, used_channels}
use Rattle.h4_frames.specs.Frames.{frames}
use Rattle.wire_fields.specs.Field.{little_endian}
use Rattle.hci_cmd.specs.Command.{command_of, layout_of, layouts}
use Rattle.host_view.specs.Changes.{view_after}
use Rattle.host_view.specs.Noted.{view_noted}
use Rattle.host_view.specs.Status.{status_of}
use Rattle.chan_select.specs.Channel.{channel_of}
use Rattle.chan_select.specs.PseudoRandom.{mam, perm, prn, reversed_octet, stage}
use Rattle.run_model.specs.link_model.End.{facts_of as end_facts}
use Rattle.run_model.specs.link_model.Drawing.{draws_of}
use Rattle.run_model.specs.link_model.Receiving.{effect_of, kept_effect_of, replies_of}
use Rattle.run_model.specs.link_end.Answers.{acked_of, given_of, kept_given_of}
use Rattle.run_model.specs.link_model.Packets.{good_pdu, is_forged, packet_sent, verdict_of as end_verdict, whole_pdu}
use Rattle.scan_init.specs.Access.{bit_count, is_valid_access, next_access_of}
use Rattle.frame_bits.specs.Crc.{crc, crc_octets, crc_of_bits, remainder}
use Rattle.frame_bits.specs.Whitening.{mask_of, next_mask, whitening_bit, whitening_of}
use Rattle.air_frame.specs.Hearing.{heard_in}
use Rattle.adv_pdu.specs.Header.{kept_bits}
use Rattle.adv_pdu.specs.Reading.{read_of}
use Rattle.run_model.specs.controller_model.Packets.{pdu_heard, use_of, verdict_of}
use Rattle.run_model.specs.controller_model.Side.{facts_of, result_of}
use Rattle.run_model.specs.History.{fates_used, packet_received, packets_on_air, turns_begun}
use Rattle.run_model.specs.Run.{after_opening, after_phase, after_phases, after_turn, run_of}
use Rattle.std.specs.Prelude.{true, drop, take, Some, slice_get}
use Rattle.adv_pdu.specs.declared.pdu.AdvPdu.TheVariants.{Connect}
use Rattle.run_model.specs.History.{Event, Transmitted}
use Rattle.ble_base.specs.declared.verdicts.Verdict.TheVariants.{Good}
use Rattle.radio_replay.specs.declared.fates.Fate.TheVariants.{Pass}
use Rattle.run_model.specs.LinkEnds.{ConnectInd, HasConnectInd}
use Rattle.run_model.specs.Rows.{connect_packet}
use Rattle.run_model.specs.controller_model.Rows.{address_a, address_b}
use Rattle.run_laws.specs.Rows.{central_end, one_event_fields, one_event_history, peripheral_end, public}
use Rattle.run_laws.proofs.rows.worked_ends.Goals as goal

-- the CONNECT_IND of B
abbrev connect : ConnectInd
connect = record {
  sender = 1;
  channel = 37;
  octets = connect_packet;
  hearings = record { listener = 0; fate = Pass; verdict = Good } ∷ [];
  from = public address_b;
  to = public address_a;
  ch_sel = true;
  fields = one_event_fields;
}

pub returns-clause-central : goal.returns-clause-central
unfolding facts_of result_of frames little_endian command_of layout_of layouts view_after status_of use_of fates_used packet_received packets_on_air turns_begun after_opening after_phase after_phases after_turn run_of verdict_of pdu_heard heard_in read_of kept_bits crc crc_octets crc_of_bits remainder mask_of next_mask whitening_bit whitening_of bit_count is_valid_access next_access_of view_noted data_channels used_channels end_facts effect_of kept_effect_of replies_of draws_of acked_of given_of kept_given_of packet_sent good_pdu is_forged whole_pdu end_verdict reversed_octet perm mam stage prn channel_of
returns-clause-central c = refl

pub returns-clause-peripheral : goal.returns-clause-peripheral
unfolding facts_of result_of frames little_endian command_of layout_of layouts view_after status_of use_of fates_used packet_received packets_on_air turns_begun after_opening after_phase after_phases after_turn run_of verdict_of pdu_heard heard_in read_of kept_bits crc crc_octets crc_of_bits remainder mask_of next_mask whitening_bit whitening_of bit_count is_valid_access next_access_of view_noted data_channels used_channels end_facts effect_of kept_effect_of replies_of draws_of acked_of given_of kept_given_of packet_sent good_pdu is_forged whole_pdu end_verdict reversed_octet perm mam stage prn channel_of
returns-clause-peripheral c = refl

split_at : (place : ℕ) (events : List Event) (event : Event) → slice_get events place ≡ Some event → events ≡ take place events ++ event ∷ drop (suc place) events
split_at place [] event is = absurd cc
split_at zero (first ∷ events) event is = let same : first ≡ event = cc in ap (λ (e : Event). e ∷ events) same
split_at (suc place) (first ∷ events) event is = ap (λ (xs : List Event). first ∷ xs) (split_at place events event is)

connect_at : slice_get one_event_history 44 ≡ Some (Transmitted connect.sender connect.channel connect.octets connect.hearings)
unfolding facts_of result_of frames little_endian command_of layout_of layouts view_after status_of use_of fates_used packet_received packets_on_air turns_begun after_opening after_phase after_phases after_turn run_of verdict_of pdu_heard heard_in read_of kept_bits crc crc_octets crc_of_bits remainder mask_of next_mask whitening_bit whitening_of bit_count is_valid_access next_access_of view_noted data_channels used_channels end_facts effect_of kept_effect_of replies_of draws_of acked_of given_of kept_given_of packet_sent good_pdu is_forged whole_pdu end_verdict reversed_octet perm mam stage prn channel_of
connect_at = refl

turn_at : turns_begun (take 44 one_event_history) ≡ 1
unfolding facts_of result_of frames little_endian command_of layout_of layouts view_after status_of use_of fates_used packet_received packets_on_air turns_begun after_opening after_phase after_phases after_turn run_of verdict_of pdu_heard heard_in read_of kept_bits crc crc_octets crc_of_bits remainder mask_of next_mask whitening_bit whitening_of bit_count is_valid_access next_access_of view_noted data_channels used_channels end_facts effect_of kept_effect_of replies_of draws_of acked_of given_of kept_given_of packet_sent good_pdu is_forged whole_pdu end_verdict reversed_octet perm mam stage prn channel_of
turn_at = refl

connect_says : pdu_heard connect.channel connect.octets ≡ Some (Connect connect.from connect.to connect.ch_sel connect.fields)
unfolding facts_of result_of frames little_endian command_of layout_of layouts view_after status_of use_of fates_used packet_received packets_on_air turns_begun after_opening after_phase after_phases after_turn run_of verdict_of pdu_heard heard_in read_of kept_bits crc crc_octets crc_of_bits remainder mask_of next_mask whitening_bit whitening_of bit_count is_valid_access next_access_of view_noted data_channels used_channels end_facts effect_of kept_effect_of replies_of draws_of acked_of given_of kept_given_of packet_sent good_pdu is_forged whole_pdu end_verdict reversed_octet perm mam stage prn channel_of
connect_says = refl

of_central : HasConnectInd one_event_history central_end.station central_end.link.setup
of_central = record {
  sent = connect;
  before = take 44 one_event_history;
  after = drop 45 one_event_history;
  is_at = split_at 44 one_event_history _ connect_at;
  in_turn = turn_at;
  on_channel = refl;
  says = connect_says;
  fields_are = refl;
  is_at_end = (refl, refl, refl);
}

of_peripheral : HasConnectInd one_event_history peripheral_end.station peripheral_end.link.setup
of_peripheral = record {
  sent = connect;
  before = take 44 one_event_history;
  after = drop 45 one_event_history;
  is_at = split_at 44 one_event_history _ connect_at;
  in_turn = turn_at;
  on_channel = refl;
  says = connect_says;
  fields_are = refl;
  is_at_end = ((λ same. absurd (omega (arith, same))), refl, refl, refl, refl);
}

pub returns-clause-ends : goal.returns-clause-ends
unfolding of_central of_peripheral
returns-clause-ends c = record { of_central = of_central; of_peripheral = of_peripheral; same = refl; is_central = refl; is_peripheral = refl }
