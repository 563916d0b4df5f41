-- Proof of `masks::each_side_holds_the_masks_of_its_lines`.
use Rattle.host_masks.proofs.LineMasks.{call_masks, last_masks, line_masks, taken_masks}
use Rattle.host_masks.proofs.masks.each_side_holds_the_masks_of_its_lines.Goals as goal

pub returns : goal.returns
returns c = record {
  before_an_event = λ given side before rest event two at feeds. line_masks given two side before rest event at feeds;
  in_a_call = λ given side station step notes before rest two at no_octet. call_masks given two side station step notes before rest at no_octet;
  where_all_is_taken = λ given side before rest two at taken. taken_masks given two side before rest at taken;
  at_the_end = λ given side two. last_masks given two side;
}
