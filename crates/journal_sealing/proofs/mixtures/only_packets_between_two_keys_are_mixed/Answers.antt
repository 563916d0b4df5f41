-- Proof of `mixtures::only_packets_between_two_keys_are_mixed`.
use Rattle.journal_sealing.proofs.Mixed.{none_mixed, one_key_at, one_key_unmixed}
use Rattle.journal_sealing.proofs.mixtures.only_packets_between_two_keys_are_mixed.Goals as goal

pub returns-clause-clear : goal.returns-clause-clear
returns-clause-clear c = none_mixed

pub returns-clause-one_key : goal.returns-clause-one_key
returns-clause-one_key c = one_key_at

pub returns-clause-journals : goal.returns-clause-journals
returns-clause-journals c = one_key_unmixed
