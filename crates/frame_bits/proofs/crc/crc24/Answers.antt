-- The proof of `crc24`.
use Rattle.std.proofs.Common.{[], ◌∷◌, get_or, take, ap, sym, ◌∙◌, arith}
use Rattle.std.proofs.lemmas.List.{take_all, take_more}
use Rattle.frame_bits.specs.Crc.{crc}
use Rattle.frame_bits.proofs.Registers.{crc-append, crc-nil}
use Rattle.frame_bits.proofs.crc.crc24.Goals as goal

pub loop-octet-init : goal.loop-octet-init
loop-octet-init c = record { so_far = sym (crc-nil c.args.init); bound = omega arith }

pub loop-octet-preserved : goal.loop-octet-preserved
loop-octet-preserved c =
    let octets = c.args.octets.now in
    let i = c.loop-octet.octet-index in
    record {
      so_far = c.one_octet_on-register.ensures.crc ∙ ap (λ r. crc r (get_or octets i 0 ∷ [])) c.loop-octet.invariant.so_far
          ∙ sym (crc-append c.args.init (take i octets) (get_or octets i 0 ∷ [])) ∙ ap (crc c.args.init) (sym (take_more octets i 0 (omega arith)));
      bound = c.one_octet_on-register.ensures.bound;
    }

pub returns-clause-crc : goal.returns-clause-crc
returns-clause-crc c =
    c.loop-octet.invariant.so_far ∙ ap (crc c.args.init) (take_all c.loop-octet.octet-index c.args.octets.now (omega arith))
