-- The proof of `encrypt`.
use Rattle.std.proofs.Common.{◌≡◌, ◌-◌, ap, sym, ◌∙◌, arith}
use Rattle.aes_block.specs.Cipher.{after_rounds, cipher}
use Rattle.aes_block.specs.KeyExpansion.{key_expansion}
use Rattle.aes_block.specs.State.{add_states, mix_columns, round_key, shift_rows, sub_bytes}
use Rattle.aes_block.specs.Words.{octet_words}
use Rattle.aes_block.proofs.CipherRounds.{after_rounds-next}
use Rattle.aes_block.proofs.Aes.encrypt.Goals as goal

pub rounds-init : goal.rounds-init
unfolding after_rounds
rounds-init c =
    let keys : octet_words c.self.inside.words ≡ key_expansion c.args.self.now = c.self.invariant ∙ ap key_expansion c.self.view_is in
    c.add-state.ensures
    ∙ (λ i. add_states (c.read.ensures i) ((c.round_key.ensures ∙ ap (λ w. round_key w 0) keys) i))

pub rounds-preserved : goal.rounds-preserved
rounds-preserved c =
    let keys : octet_words c.self.inside.words ≡ key_expansion c.args.self.now = c.self.invariant ∙ ap key_expansion c.self.view_is in
    c.full-next.ensures
    ∙ (λ i. add_states (mix_columns (shift_rows (sub_bytes (c.rounds.invariant i))))
    ((c.round_key-in-rounds.ensures ∙ ap (λ w. round_key w c.rounds.round) keys) i))
    ∙ sym (after_rounds-next (key_expansion c.args.self.now) c.args.block.now c.rounds.round (omega arith))

pub returns : goal.returns
unfolding cipher
returns c =
    let keys : octet_words c.self.inside.words ≡ key_expansion c.args.self.now = c.self.invariant ∙ ap key_expansion c.self.view_is in
    let nine : c.rounds.round - 1 ≡ 9 = omega (arith, c.rounds.auto.round-end) in
    c.write.ensures ∙ c.last.ensures
    ∙ (λ i. add_states (shift_rows (sub_bytes ((c.rounds.invariant ∙ ap (after_rounds (key_expansion c.args.self.now) c.args.block.now) nine) i)))
    ((c.round_key-2.ensures ∙ ap (λ w. round_key w 10) keys) i))
