-- The proof of `seal` of one packet.
use Rattle.std.proofs.Common.{◌≡◌, ◌++◌, length, ap, ◌∙◌, arith, rules}
use Rattle.ccm_link.specs.Ccm.{ciphertext}
use Rattle.ccm_link.proofs.Sealing.{length-ciphertext}
use Rattle.ccm_link.proofs.packet.seal.Goals as goal

pub put_octets-requires : goal.put_octets-requires
put_octets-requires c =
    let key = c.args.aes.now in
    let nonce = c.args.nonce.now in
    let body = c.args.body.now in
    let pushed : length c.push_encrypted.new.out.items ≡ length body =
    ap length (c.push_encrypted.ensures ∙ ap (λ o. o ++ ciphertext key nonce body) c.new-sealed.ensures)
    ∙ length-ciphertext key nonce body in
    let four : length c.mic.result ≡ 4 = search rules in
    (omega arith, omega (arith, pushed, four))

pub returns-clause-longer : goal.returns-clause-longer
returns-clause-longer c =
    let key = c.args.aes.now in
    let nonce = c.args.nonce.now in
    let body = c.args.body.now in
    let pushed : length c.push_encrypted.new.out.items ≡ length body =
    ap length (c.push_encrypted.ensures ∙ ap (λ o. o ++ ciphertext key nonce body) c.new-sealed.ensures)
    ∙ length-ciphertext key nonce body in
    let four : length c.mic.result ≡ 4 = search rules in
    c.put_octets.ensures.len ∙ omega (arith, pushed, four)
