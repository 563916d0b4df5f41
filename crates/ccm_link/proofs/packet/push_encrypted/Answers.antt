-- The proof of `push_encrypted`.
use Rattle.std.proofs.Common.{◌≡◌, ◌+◌, ◌++◌, length, min, ap, sym, ◌∙◌, arith, append_assoc, append-nil, length-append}
use Rattle.ccm_link.specs.Ccm.{key_block, xor_of, ciphertext}
use Rattle.ccm_link.proofs.Cutting.{IsCut, block_count-cut, ciphered, ciphered-cut, ciphered-none, length-xored_le}
use Rattle.ccm_link.proofs.packet.push_encrypted.Goals as goal

pub loop-chunk-preserved : goal.loop-chunk-preserved
loop-chunk-preserved g c =
    let key = c.args.aes.now in
    let nonce = c.args.nonce.now in
    let out = c.loop-chunk.out.items in
    let number = c.loop-chunk.number in
    let rest = c.loop-chunk.chunk-iterator.rest.now in
    let chunk = c.in-Some.chunk.now in
    let later = c.next.new.self.rest.now in
    let step = c.in-Some.ensures.steps in
    let known = c.loop-chunk.invariant in
    let cut : IsCut rest chunk later = record { parts = step.1.0; size = step.1.1 ∙ ap (λ n. min n (length rest)) known.size; some = step.1.2 } in
    let sum : length rest ≡ length chunk + length later = ap length cut.parts ∙ length-append chunk later in
    let pushed = c.push_sum.ensures ∙ ap (λ k. out ++ xor_of chunk k) c.key_block.ensures in
    let longer : length c.push_sum.new.out.items ≡ length out + length (xor_of chunk (key_block key nonce (number + 1))) =
    ap length pushed ∙ length-append out (xor_of chunk (key_block key nonce (number + 1))) in
    record {
      size = step.0 ∙ known.size;
      counted = omega (arith, known.counted, block_count-cut rest chunk later cut);
      room = omega (arith, known.room, sum, longer, length-xored_le chunk (key_block key nonce (number + 1)));
      done =
          ap (λ o. o ++ ciphered key nonce (number + 1 + 1) later) pushed
          ∙ append_assoc out (xor_of chunk (key_block key nonce (number + 1))) (ciphered key nonce (number + 1 + 1) later)
          ∙ ap (λ o. out ++ o) (sym (ciphered-cut key nonce rest chunk later (number + 1) cut))
          ∙ known.done;
    }

pub returns : goal.returns
unfolding ciphertext
returns g c =
    let out = c.loop-chunk.out.items in
    let known = c.loop-chunk.invariant in
    sym (append-nil out)
    ∙ ap (λ o. out ++ o) (sym (ciphered-none c.args.aes.now c.args.nonce.now (c.loop-chunk.number + 1) c.loop-chunk.chunk-iterator.rest.now c.in-None.ensures.steps.1.0))
    ∙ known.done
