-- The stages of a framer, octet by octet (our choice).
use Rattle.std.specs.Prelude.{ℕ, ◌+◌, ◌-◌, ◌==◌, nat_lt, if◌then◌else◌, List, [], ◌∷◌, ◌++◌, length, take, slice_index, Option, Some, None, ⊤}
use Rattle.ble_base.specs.Limits.{payload_octets}
use Rattle.h4_frames.specs.declared.packet.HostPacket.{HostPacket}
use Rattle.h4_frames.specs.declared.packet.HostPacket.TheVariants.{Command, Acl}
use Rattle.h4_frames.specs.declared.packet.Fed.{Fed}
use Rattle.h4_frames.specs.declared.packet.Fed.TheVariants.{More, Packet, LostSync}
use Rattle.h4_frames.specs.declared.stage.Stage.{Stage}
use Rattle.h4_frames.specs.declared.stage.Stage.TheVariants.{Indicator, CommandHead, AclHead, CommandBody, AclBody, Search}
use Rattle.h4_frames.specs.Parts.{command_with, whole_command, acl_with, whole_acl}
use Rattle.h4_frames.specs.Packets.{word_of, handle_of, is_start}
use Rattle.h4_frames.specs.Frames.{reset, reset_octets, Rest, Begun, Passed, rest}

-- the packet ends
abbrev pub packet_end : HostPacket → Stage × Fed
packet_end packet = (Indicator, Packet packet)

abbrev pub indicator_step : ℕ → Stage × Fed
indicator_step octet =
    if octet == 1 then (CommandHead (record { items = [] }), More)
    else (if octet == 2 then (AclHead (record { items = [] }), More)
    else (Search 0, LostSync))

-- the head ends, and this number of octets follows
abbrev pub command_start : ℕ → ℕ → Stage × Fed
command_start opcode count =
    if count == 0 then packet_end (Command opcode (record { items = [] }))
    else (CommandBody (record { opcode = opcode; left = count; body = record { items = [] } }), More)

abbrev pub acl_start : ℕ → ℕ → Stage × Fed
acl_start word count =
    if count == 0 then packet_end (Acl (handle_of word) (is_start word) count (record { items = [] }))
    else (
      AclBody (record {
        handle = handle_of word;
        start = is_start word;
        length = count;
        left = count;
        body = record { items = [] };
      }),
      More,
    )

abbrev pub command_head_step : List ℕ → Stage × Fed
command_head_step head =
    if nat_lt (length head) 3 then (CommandHead (record { items = head }), More)
    else command_start (word_of (slice_index head 0) (slice_index head 1)) (slice_index head 2)

abbrev pub acl_head_step : List ℕ → Stage × Fed
acl_head_step head =
    if nat_lt (length head) 4 then (AclHead (record { items = head }), More)
    else acl_start (word_of (slice_index head 0) (slice_index head 1))
    (word_of (slice_index head 2) (slice_index head 3))

-- the packet if it is whole; else this stage
abbrev pub end_of_part : Option HostPacket → Stage → Stage × Fed
end_of_part None stage = (stage, More)
end_of_part (Some packet) stage = packet_end packet

-- the number of octets of an HCI_Reset that came last, after an octet more
abbrev pub seen_with : ℕ → ℕ → ℕ
seen_with seen octet =
    if octet == slice_index reset_octets seen then seen + 1
    else (if octet == 0x01 then 1 else 0)

abbrev pub search_step : ℕ → Stage × Fed
search_step seen = if seen == 4 then packet_end reset else (Search seen, More)

-- the next stage, and the result for the octet
abbrev pub step : Stage → ℕ → Stage × Fed
step Indicator octet = indicator_step octet
step (CommandHead head) octet = command_head_step (head.items ++ octet ∷ [])
step (AclHead head) octet = acl_head_step (head.items ++ octet ∷ [])
step (CommandBody part) octet =
    end_of_part (whole_command (command_with part octet)) (CommandBody (command_with part octet))
step (AclBody part) octet = end_of_part (whole_acl (acl_with part octet)) (AclBody (acl_with part octet))
step (Search seen) octet = search_step (seen_with seen octet)

-- an octet ends something: no more are needed after it
abbrev pub IsEnd : Fed → Type 0
IsEnd More = ⊥
IsEnd other = ⊤

-- the stage after a command's indicator and these octets
abbrev pub command_stage : List ℕ → Stage
command_stage (low ∷ high ∷ count ∷ octets) =
    CommandBody (record { opcode = word_of low high; left = count - length octets; body = record { items = octets } })
command_stage head = CommandHead (record { items = head })

-- the stage after the indicator of ACL data and these octets
abbrev pub acl_stage : List ℕ → Stage
acl_stage (low ∷ high ∷ count_low ∷ count_high ∷ octets) =
    let word = word_of low high in
    let count = word_of count_low count_high in
    AclBody (record {
      handle = handle_of word;
      start = is_start word;
      length = count;
      left = count - length octets;
      body = record { items = take payload_octets octets };
    })
acl_stage head = AclHead (record { items = head })

-- the number of octets of an HCI_Reset that came last, after these octets more
abbrev pub seen_from : ℕ → List ℕ → ℕ
seen_from seen [] = seen
seen_from seen (octet ∷ octets) = seen_from (seen_with seen octet) octets

abbrev pub stage_of : Rest → Stage
stage_of (Begun []) = Indicator
stage_of (Begun (indicator ∷ octets)) = if indicator == 1 then command_stage octets else acl_stage octets
stage_of (Passed octets) = Search (seen_from 0 octets)

-- the stage of a framer that was fed these octets since it was made
unfoldable pub framer_after : List ℕ → Stage
framer_after octets = stage_of (rest octets)
