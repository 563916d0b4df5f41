-- The proof of `crc_octets`.
use Rattle.std.proofs.Common.{[], ◌∷◌, get_or, ap, ◌∙◌}
use Rattle.std.specs.Int.{reverse_bits, w8}
use Rattle.frame_bits.specs.Crc.{crc_octets}
use Rattle.frame_bits.proofs.SentOrder.{sent_first, sent_second, sent_third}
use Rattle.frame_bits.proofs.crc.crc_octets.Goals as goal

pub returns : goal.returns
unfolding crc_octets
returns c =
    let first = c.reverse_bits.ensures ∙ ap (λ octets. reverse_bits w8 (get_or octets 1 0)) c.to_be_bytes.ensures ∙ sent_first c.args.crc in
    let second = c.reverse_bits-2.ensures ∙ ap (λ octets. reverse_bits w8 (get_or octets 2 0)) c.to_be_bytes.ensures ∙ sent_second c.args.crc in
    let third = c.reverse_bits-3.ensures ∙ ap (λ octets. reverse_bits w8 (get_or octets 3 0)) c.to_be_bytes.ensures ∙ sent_third c.args.crc in
    λ i. first i ∷ second i ∷ third i ∷ []
