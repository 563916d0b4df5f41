-- The proof of `dewhitened`.
use Rattle.std.proofs.Common.{length, ap, arith}
use Rattle.std.proofs.lemmas.Grind.{common_steps}
use Rattle.air_frame.specs.Packet.{with_crc}
use Rattle.air_frame.proofs.Bodies.{length-with_crc, undone}
use Rattle.air_frame.proofs.Forms.{form-fits}
use Rattle.air_frame.proofs.hearing.dewhitened.Goals as goal

pub returns-then-octets-gt-LONGEST_BODY : goal.returns-then-octets-gt-LONGEST_BODY
returns-then-octets-gt-LONGEST_BODY c = λ pdu form e.
    omega (arith, form-fits pdu form, ap length e, c.whitening_is_linear.ensures.length c.args.channel (with_crc c.args.init pdu), length-with_crc c.args.init pdu)

pub returns : goal.returns
returns c =
    undone c.args.channel c.args.init c.args.octets.now _ c.whitening_is_linear.ensures.twice (grind (arith, common_steps)) c.checked.result c.checked.ensures
