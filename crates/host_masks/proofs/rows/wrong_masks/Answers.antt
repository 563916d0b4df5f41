-- Proof of `rows::wrong_masks`: two numbers that differ.
use Rattle.std.proofs.Common.{◌≡◌, ℕ, false, nat_eq, arith, refl}
use Rattle.h4_frames.specs.Frames.{frames}
use Rattle.hci_cmd.specs.Command.{command_of, layout_of, layouts}
use Rattle.host_masks.proofs.rows.wrong_masks.Goals as goal

numbers_differ : (one other : ℕ) → nat_eq one other ≡ false → one ≡ other → ⊥
numbers_differ one other differs same = grind arith

pub returns : goal.returns
unfolding frames command_of layout_of layouts
returns c = record {
  events = numbers_differ 0x00001FFFFFFFFFFF 0x20001FFFFFFFFFFF refl;
  le_events = numbers_differ 0x1F 0x3F refl;
  short = numbers_differ 0x1F 0x3F refl;
}
