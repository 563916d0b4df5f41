-- Proof of `word_tuples::split_word`.
use Rattle.journal.proofs.WordLists.{first_is}
use Rattle.journal.proofs.word_tuples.split_word.Goals as goal

pub returns : goal.returns
returns c =
    first_is c.args.words c.next_word.new.self c.in_ok-first.first.now c.in_ok-first.ensures.first c.in_ok-first.ensures.rest
