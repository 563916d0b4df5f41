-- The proof of `expand`.
use Rattle.std.proofs.Common.{◌≡◌, ◌-◌, length, refl, ap, sym, ◌∙◌, arith}
use Rattle.std.proofs.Math.ListN.{length-set}
use Rattle.std.proofs.lemmas.List.{take_all}
use Rattle.aes_block.specs.KeyExpansion.{key_words, words_up_to}
use Rattle.aes_block.specs.Words.{octet_words}
use Rattle.aes_block.proofs.ColumnOctets.{state_octets-set}
use Rattle.aes_block.proofs.ExpandedWords.{words_up_to-more}
use Rattle.aes_block.proofs.key_schedule.expand.Goals as goal

pub words-init : goal.words-init
unfolding words_up_to
words-init c = record { whole = refl; key = c.read.ensures; words = ap key_words c.read.ensures }

pub words-preserved : goal.words-preserved
words-preserved c =
    let w = c.words.words in
    let whole : length w ≡ 44 = c.words.invariant.whole in
    record {
      whole = length-set w c.words.place _ ∙ whole;
      key = state_octets-set w c.words.place _ (omega arith) ∙ c.words.invariant.key;
      words = words_up_to-more c.args.key.now w c.words.place c.addend.result (omega arith) (omega arith) c.words.invariant.words c.addend.ensures;
    }

pub returns-clause-words : goal.returns-clause-words
returns-clause-words c =
    let w = c.words.words in
    let known = c.words.invariant in
    let end : c.words.place - 4 ≡ 40 = omega (arith, c.words.auto.place-end) in
    ap octet_words (sym (take_all c.words.place w (omega (arith, known.whole)))) ∙ known.words ∙ ap (words_up_to c.args.key.now) end
