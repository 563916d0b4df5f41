-- The proof of the law `versions_are_sent_once`.
use Rattle.exchange_pairs.proofs.Versions.{once, begins_with_pdu, taken_once, kept_unknown, kept_once}
use Rattle.exchange_pairs.proofs.laws.versions_are_sent_once.Goals as goal

pub returns-clause-once : goal.returns-clause-once
returns-clause-once c = once

pub returns-clause-begins : goal.returns-clause-begins
returns-clause-begins c = begins_with_pdu

pub returns-clause-taken : goal.returns-clause-taken
returns-clause-taken c = taken_once

pub returns-clause-kept : goal.returns-clause-kept
returns-clause-kept c = kept_unknown

pub returns-clause-one_kept : goal.returns-clause-one_kept
returns-clause-one_kept c = kept_once
