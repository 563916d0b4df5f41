-- Proof of `word_tuples::three_words`.
use Rattle.journal.proofs.WordLists.{three_are}
use Rattle.journal.proofs.word_tuples.three_words.Goals as goal

pub returns : goal.returns
returns c =
    three_are c.args.words c.in_ok-first.words c.in_ok-first.first.now
    (c.in_ok-second.second.now, c.in_ok-second.third.now) c.in_ok-first.ensures c.in_ok-second.ensures
