-- The rows of `runs_meet_the_premises`.
use Rattle.std.proofs.Common.{[], ◌∷◌, false, true, Option, Some, None, length, refl, arith}
use Rattle.std.proofs.lemmas.Bool.{leb-true}
use Rattle.air_frame.specs.Hearing.{heard_in}
use Rattle.ble_base.specs.ChannelMap.{IsMap, data_channels, used_channels}
use Rattle.chan_select.specs.Channel.{channel_of}
use Rattle.chan_select.specs.PseudoRandom.{mam, perm, prn, reversed_octet, stage}
use Rattle.data_pdu.specs.Reading.{ctrl_of}
use Rattle.data_pdu.specs.Layouts.{makers}
use Rattle.frame_bits.specs.Crc.{crc, crc_octets, crc_of_bits, remainder}
use Rattle.frame_bits.specs.Whitening.{mask_of, whitening_bit, whitening_of}
use Rattle.wire_fields.specs.Field.{little_endian}
use Rattle.link_pairs.specs.link_model.Packets.{good_pdu, is_forged, packet_sent, whole_pdu}
use Rattle.link_pairs.specs.link_model.Receiving.{replies_of}
use Rattle.link_pairs.specs.link_model.Rows.{central_with, peripheral_with}
use Rattle.link_pairs.specs.link_model.Facts.{Facts}
use Rattle.link_runs.specs.Rows.{asks_update, calm, disconnects, ends_by, lost, turn_with, update_asked}
use Rattle.link_runs.specs.Runs.{MayHostEnd, first_ends}
use Rattle.link_runs.proofs.Meeting.{and_always, asks_nothing, idle, once}
use Rattle.link_runs.proofs.rows.runs_meet_the_premises.Goals as goal

all_channels : IsMap 0x1FFFFFFFFF
unfolding used_channels data_channels
all_channels = record { data_channels_only = omega arith; two_or_more = leb-true 2 (length (used_channels 0x1FFFFFFFFF)) refl }

pub returns-clause-ends : goal.returns-clause-ends
returns-clause-ends g =
    record {
      one_link = record { fields = refl; two = refl; opened = refl };
      is_central = refl;
      is_peripheral = refl;
      in_range =
          record {
            parameters =
                record {
                  win_size_one = refl;
                  win_offset_within = omega arith;
                  interval_from = omega arith;
                  interval_to = omega arith;
                  latency_to = omega arith;
                  timeout_from = omega arith;
                  timeout_to = omega arith;
                  timeout_outlasts = omega arith;
                };
            map = all_channels;
            hop_from = omega arith;
            hop_to = omega arith;
          };
      central_max = record { from = omega arith; to = omega arith };
      peripheral_max = record { from = omega arith; to = omega arith };
    }

disconnecting : (o : Option Facts) → MayHostEnd (peripheral_with 0) (disconnects ∷ []) o
disconnecting None = tt
disconnecting (Some facts) = (omega arith, tt)

pub returns-clause-peripheral_ends : goal.returns-clause-peripheral_ends
returns-clause-peripheral_ends g =
    once (central_with 0) (peripheral_with 0) 9 (turn_with [] (disconnects ∷ []) true true) (calm 40) 1 (first_ends (central_with 0) (peripheral_with 0))
    (asks_nothing (central_with 0) (ends_by (calm 9)).central, disconnecting (ends_by (calm 9)).peripheral)
    (idle (central_with 0) (peripheral_with 0) true true 40)

-- the central has begun no procedure by slot 10
asking : MayHostEnd (central_with 0) (asks_update ∷ []) (ends_by (calm 9)).central
unfolding heard_in crc crc_octets crc_of_bits remainder mask_of whitening_bit whitening_of ctrl_of makers little_endian channel_of mam perm prn
    reversed_octet stage good_pdu is_forged packet_sent whole_pdu replies_of
asking = (
  record {
    in_range =
        record {
          win_size_one = refl;
          win_offset_within = omega arith;
          interval_from = omega arith;
          interval_to = omega arith;
          latency_to = omega arith;
          timeout_from = omega arith;
          timeout_to = omega arith;
          timeout_outlasts = omega arith;
        };
    may = refl;
  },
  tt,
)

pub returns-clause-update : goal.returns-clause-update
returns-clause-update g =
    and_always (central_with 0) (peripheral_with 0) (update_asked 193) (calm 1) 1 (first_ends (central_with 0) (peripheral_with 0))
    (once (central_with 0) (peripheral_with 0) 9 (turn_with (asks_update ∷ []) [] true true) (lost 183) 1 (first_ends (central_with 0) (peripheral_with 0))
    (asking, asks_nothing (peripheral_with 0) (ends_by (calm 9)).peripheral) (idle (central_with 0) (peripheral_with 0) false false 183))
    (idle (central_with 0) (peripheral_with 0) true true 1)
