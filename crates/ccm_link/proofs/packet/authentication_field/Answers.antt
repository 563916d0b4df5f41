-- The proof of `authentication_field`.
use Rattle.std.proofs.Common.{◌++◌, length, min, take, fold, ap, sym, ◌∙◌, arith}
use Rattle.aes_block.specs.Cipher.{cipher}
use Rattle.ccm_link.specs.Ccm.{blocks, chain_step, padded_block, two_octets, xor_of, authentication_field}
use Rattle.ccm_link.specs.Payload.{additional_data}
use Rattle.ccm_link.proofs.BlockOctets.{front_four}
use Rattle.ccm_link.proofs.Cutting.{IsCut, blocks-cut, blocks-none, length-cipher}
use Rattle.ccm_link.proofs.packet.authentication_field.Goals as goal

pub loop-chunk-preserved : goal.loop-chunk-preserved
loop-chunk-preserved c =
    let key = c.args.aes.now in
    let state = c.loop-chunk.state in
    let rest = c.loop-chunk.chunk-iterator.rest.now in
    let chunk = c.in-Some.chunk.now in
    let later = c.next.new.self.rest.now in
    let step = c.in-Some.ensures.steps in
    let size = c.loop-chunk.invariant.size in
    let cut : IsCut rest chunk later = record { parts = step.1.0; size = step.1.1 ∙ ap (λ n. min n (length rest)) size; some = step.1.2 } in
    let next = c.encrypt-next.ensures ∙ ap (cipher key) c.add-in-loop-chunk.ensures in
    record {
      size = step.0 ∙ size;
      whole = ap length c.encrypt-next.ensures ∙ length-cipher key c.add-in-loop-chunk.result;
      done =
          ap (λ s. fold (chain_step key) s (blocks later)) next
          ∙ ap (fold (chain_step key) state) (sym (blocks-cut rest chunk later cut))
          ∙ c.loop-chunk.invariant.done;
    }

pub returns : goal.returns
unfolding authentication_field
returns c =
    let key = c.args.aes.now in
    let state = c.loop-chunk.state in
    let known = c.loop-chunk.invariant in
    let first = c.encrypt.ensures ∙ ap (cipher key) c.block_with-first.ensures in
    let second = c.encrypt-state.ensures ∙ ap (cipher key) (c.add.ensures ∙ ap (λ s. xor_of s (padded_block (two_octets 1 ++ additional_data c.args.header))) first) in
    front_four state (omega (arith, known.whole))
    ∙ ap (take 4)
    (ap (fold (chain_step key) state) (sym (blocks-none c.loop-chunk.chunk-iterator.rest.now c.in-None.ensures.steps.1.0))
    ∙ known.done ∙ ap (λ s. fold (chain_step key) s (blocks c.args.body.now)) second)
