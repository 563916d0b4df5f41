-- The loop invariants of `expand`.
use Rattle.std.proofs.Common.{◌≡◌, ◌-◌, length, take}
use Rattle.aes_block.specs.KeyExpansion.{words_up_to}
use Rattle.aes_block.specs.Words.{state_octets, octet_words}
use Rattle.aes_block.proofs.key_schedule.expand.Given as goal

abbrev pub invariant-words : goal.invariant-words
invariant-words l = record {
  whole : length l.words ≡ 44;
  key : state_octets l.words ≡ l.fn.key;
  words : octet_words (take l.place l.words) ≡ words_up_to l.fn.key (l.place - 4);
}
