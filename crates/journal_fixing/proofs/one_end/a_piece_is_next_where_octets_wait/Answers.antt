-- Proof of `one_end::a_piece_is_next_where_octets_wait`.
use Rattle.journal_fixing.proofs.UnsentOctets.{piece_full, piece_waits}
use Rattle.journal_fixing.proofs.one_end.a_piece_is_next_where_octets_wait.Goals as goal

pub returns : goal.returns
returns c = record { waits = piece_waits; full = piece_full }
