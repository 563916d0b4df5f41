-- Proof of `keys::with_one_key_nothing_is_mixed`.
use Rattle.std.proofs.Common.{ap, sym, ◌∙◌}
use Rattle.journal_seals.specs.journal_sealing.Mixed.{is_mixed}
use Rattle.journal_words.specs.Drawn.{words_by}
use Rattle.journal_pdus.proofs.OneKey.{without_mixing}
use Rattle.journal_pdus.proofs.keys.with_one_key_nothing_is_mixed.Goals as goal

pub returns : goal.returns
returns c = λ a b script journal keys.
    without_mixing (words_by script) (is_mixed (words_by script)) a b script journal (λ number front rest at.
    c.a_mixed_journal_stays_mixed.ensures.front (words_by script) number front rest
    (ap (is_mixed (words_by script) number) (sym at) ∙ c.only_packets_between_two_keys_are_mixed.ensures.journals (words_by script) number journal (keys number)))
