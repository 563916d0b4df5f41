-- The proof of `checked`.
use Rattle.std.proofs.Common.{◌≡◌, length, ap, subst, sym, ◌∙◌, arith}
use Rattle.frame_bits.specs.Crc.{crc, crc_octets}
use Rattle.air_frame.specs.Packet.{IsPdu}
use Rattle.air_frame.proofs.Bodies.{length-with_crc, pdu_of, refuted, sum_of}
use Rattle.air_frame.proofs.hearing.checked.Goals as goal
use Rattle.air_frame.proofs.hearing.checked.Goals.{else-is_pdu-via-then-is_pdu+else-has_crc, else-is_pdu-via-else-is_pdu}

pub returns-in_default : goal.returns-in_default
returns-in_default c = λ pdu form e. omega (arith, ap length e, length-with_crc c.args.init pdu, c.in_default.ensures.short)

pub returns-else-is_pdu : goal.returns-else-is_pdu
returns-else-is_pdu c = λ pdu form e.
    let same : c.in-Some.pdu.now ≡ pdu = c.in-Some.ensures.pdu ∙ pdu_of c.args.init c.args.octets.now pdu e in
    let sum : c.in-Some.sum.now ≡ crc_octets (crc c.args.init c.in-Some.pdu.now) =
    c.in-Some.ensures.crc ∙ sum_of c.args.init c.args.octets.now pdu e ∙ ap (λ octets. crc_octets (crc c.args.init octets)) (sym same) in
    elim c.else-is_pdu.branch [
      | else-is_pdu-via-then-is_pdu+else-has_crc w ↦ refuted _ _ w.has_crc.ensures w.if-has_crc.false sum
      | else-is_pdu-via-else-is_pdu w ↦ refuted _ _ c.is_pdu.ensures w.if-is_pdu.false (subst IsPdu (sym same) form)
    ]
