-- The event masks of a host, by the octets that its controller was fed, and the events that they withhold (Core 5.2,
-- volume 4 part E, sections 7.3.1, 7.3.2 and 7.8.1).
use Rattle.std.specs.Prelude.{ℕ, ◌&&◌, not, Bool, true, List, [], ◌∷◌, fold}
use Rattle.std.specs.List.{flat_map}
use Rattle.ble_base.specs.Bits.{has_bit}
use Rattle.h4_frames.specs.declared.packet.HostPacket.TheVariants.{Command as HostCommand}
use Rattle.h4_frames.specs.declared.packet.Fed.{Fed}
use Rattle.h4_frames.specs.declared.packet.Fed.TheVariants.{Packet}
use Rattle.h4_frames.specs.Frames.{frames}
use Rattle.hci_cmd.specs.declared.command.Command.{Command}
use Rattle.hci_cmd.specs.declared.command.Command.TheVariants.{LeSetEventMask, Reset, SetEventMask}
use Rattle.hci_cmd.specs.declared.command.CmdRead.{CmdRead}
use Rattle.hci_cmd.specs.declared.command.CmdRead.TheVariants.{Known}
use Rattle.hci_cmd.specs.Command.{command_of}
use Rattle.hci_evt.specs.declared.event.MaskBit.{MaskBit}
use Rattle.hci_evt.specs.declared.event.MaskBit.TheVariants.{Always, Main, Meta}
use Rattle.run_model.specs.controller_model.host_view.View.{View}

pub record Masks : Type 0 where
  -- of events (section 7.3.1)
  pub mask : ℕ
  -- of LE events (section 7.8.1)
  pub le_mask : ℕ

-- the masks that a controller holds, with the other settings of its host
abbrev pub view_masks : View → Masks
view_masks view = record { mask = view.mask; le_mask = view.le_mask }

-- ---- the commands of a host

-- a command, where its opcode is known and its length is right (section 5.4.1)
abbrev pub known_command : CmdRead → List Command
known_command (Known command) = command ∷ []
known_command other = []

abbrev pub framed_command : Fed → List Command
framed_command (Packet (HostCommand opcode body)) = known_command (command_of opcode body.items)
framed_command other = []

-- the commands in the octets of a host, in order
abbrev pub framed_commands : List ℕ → List Command
framed_commands octets = flat_map (λ entry. framed_command entry.1) (frames octets)

-- ---- the masks that they set

-- as a controller starts, and after a Reset (sections 7.3.1, 7.3.2 and 7.8.1)
abbrev pub first_masks : Masks
first_masks = record { mask = 0x00001FFFFFFFFFFF; le_mask = 0x1F }

-- three commands change them. Each is accepted at any time, so that no answer is looked at
abbrev pub masks_after : Masks → Command → Masks
masks_after masks (SetEventMask mask) = record masks { mask = mask }
masks_after masks (LeSetEventMask mask) = record masks { le_mask = mask }
masks_after masks Reset = first_masks
masks_after masks other = masks

-- the masks once a controller was fed these octets, from the first on
abbrev pub masks_of : List ℕ → Masks
masks_of octets = fold masks_after first_masks (framed_commands octets)

-- ---- the events that they withhold

-- an LE event needs its own bit, and that of all LE events, which is 61
abbrev pub lets_through : Masks → MaskBit → Bool
lets_through masks Always = true
lets_through masks (Main bit) = has_bit masks.mask bit
lets_through masks (Meta bit) = has_bit masks.mask 61 && has_bit masks.le_mask bit

-- LE Remote Connection Parameter Request, which has bit 5 of the mask of LE events, does not pass (sections 7.7.65.6 and
-- 7.8.1)
abbrev pub withholds_requests : Masks → Bool
withholds_requests masks = not (lets_through masks (Meta 5))

-- LE Long Term Key Request, which has bit 4, does not pass (sections 7.7.65.5 and 7.8.1)
abbrev pub withholds_keys : Masks → Bool
withholds_keys masks = not (lets_through masks (Meta 4))
