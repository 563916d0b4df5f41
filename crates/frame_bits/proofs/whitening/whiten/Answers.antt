-- The proof of `whiten`.
use Rattle.std.proofs.Common.{ap, ◌∙◌, arith}
use Rattle.frame_bits.specs.Whitening.{next_mask}
use Rattle.frame_bits.proofs.Sequences.{whitening_to-all, whitening_to-next, whitening_to-none, mask_of-next}
use Rattle.frame_bits.proofs.whitening.whiten.Goals as goal

pub loop-octet-init : goal.loop-octet-init
loop-octet-init c = record {
  so_far = whitening_to-none c.args.channel c.args.octets.now;
  mask = c.first_mask-mask.ensures;
}

pub loop-octet-preserved : goal.loop-octet-preserved
loop-octet-preserved c =
    let i = c.loop-octet.octet-index in
    record {
      so_far = whitening_to-next c.args.channel i c.loop-octet.mask c.loop-octet.octets c.args.octets.now (omega arith)
          c.loop-octet.invariant.so_far c.loop-octet.invariant.mask;
      mask = c.next_mask-mask.ensures ∙ ap next_mask c.loop-octet.invariant.mask ∙ mask_of-next c.args.channel i;
    }

pub returns : goal.returns
returns c =
    c.loop-octet.invariant.so_far ∙ whitening_to-all c.args.channel c.loop-octet.octet-index c.args.octets.now (omega arith)
