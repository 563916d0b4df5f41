-- Proof of `moves::each_packet_that_is_listened_for_is_judged`.
use Rattle.std.proofs.Common.{◌≤◌, ℕ, arith}
use Rattle.journal_wants.specs.Setups.{setups_of}
use Rattle.journal_wants.specs.run_model.Run.{Given, setup_at}
use Rattle.journal_wants.proofs.journal_data.FewLinks.{HaveFewLinks}
use Rattle.journal_moves.proofs.JudgedRuns.{listened_for_are_judged}
use Rattle.journal_moves.proofs.SaidInRuns.{said}
use Rattle.journal_moves.proofs.moves.each_packet_that_is_listened_for_is_judged.Goals as goal

few_links : (given : Given) → ((station : ℕ) → (setup_at given station).links ≤ 6) → HaveFewLinks given
few_links given few = record { links = λ station. let six = few station in omega (arith, six) }

pub returns : goal.returns
returns c words given two addresses gives few buffers =
    let whole = c.packet_tells_its_pdu.ensures.heard in
    let understood = c.a_pdu_is_understood.ensures.says in
    let taken = c.connections_are_taken.ensures.taken in
    let nth = c.searches_give_each_valid_address.ensures.valid in
    let apart = c.searches_give_each_valid_address.ensures.distinct in
    let links = few_links given few in
    listened_for_are_judged words (setups_of given) whole understood taken nth apart given two links addresses gives
    buffers few (said words whole understood taken nth apart given two links addresses gives buffers)
