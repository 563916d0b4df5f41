-- An end whose host asks only for values in range fixes a piece of data with room for an octet at least.
use Rattle.std.proofs.Common.{◌≤◌, List, [], ◌∷◌, ◌++◌, fold, arith}
use Rattle.ble_base.specs.Limits.{payload_octets}
use Rattle.journal_controls.specs.link_model.AskRanges.{AreAsksInRange, IsAskInRange}
use Rattle.journal_controls.specs.link_model.End.{facts_after, facts_of}
use Rattle.journal_controls.specs.link_model.Facts.{Facts, first_facts, keyed_of}
use Rattle.journal_controls.specs.link_model.Fixing.{data_cut}
use Rattle.journal_controls.specs.link_model.Setup.{Setup}
use Rattle.journal_controls.specs.link_model.Step.{Step, PduFixed}
use Rattle.journal_controls.specs.link_model.phased_end.Lengths.{HasLengths}
use Rattle.journal_controls.specs.journal_ends.open_links.OpenLinks.{OpenLink}
use Rattle.journal_controls.specs.journal_ends.run_laws.Ranges.{HasRanges}
use Rattle.journal_controls.proofs.journal_acks.run_laws.EndLengths.{IsSized, sized_step}
use Rattle.journal_controls.proofs.link_model.KnownEnds.{IsPast, first_past, step_past}
use Rattle.journal_fixing.specs.PastFixing.{facts_fixing, fixing_after, fixing_from, past_fixing}
use Rattle.journal_fixing.proofs.SaidPdus.{all_both}

-- ---- the lengths stay in range

steps_sized : (setup : Setup) (facts : Facts) (steps : List Step) → IsPast setup facts → AreAsksInRange steps → IsSized (keyed_of facts)
    → IsSized (keyed_of (fold (facts_after setup) facts steps))
steps_sized setup facts [] p are sized = sized
steps_sized setup facts (step ∷ steps) p are sized =
    steps_sized setup (facts_after setup facts step) steps (step_past setup facts step p) are.1 (sized_step setup facts step p are.0 sized)

past_lengths : (setup : Setup) (past : List Step) → setup.link.max_rx ≤ payload_octets → AreAsksInRange past → HasLengths (facts_of setup past).control.table.lengths
unfolding facts_of
past_lengths setup past max are =
    (steps_sized setup (first_facts setup) past (first_past setup) are
    (record { own = omega arith; peer = omega arith; own_to = omega arith; own_rx_to = omega (arith, max) }, tt)).0

-- ---- as it fixed its PDU

asks_after : (front before : List Step) (step : Step) → AreAsksInRange front → AreAsksInRange before → AreAsksInRange (fixing_after front before step)
asks_after front before PduFixed in_front were = in_front
asks_after front before step in_front were = were

asks_from : (front before past : List Step) → AreAsksInRange front → AreAsksInRange before → AreAsksInRange past → AreAsksInRange (fixing_from front before past)
asks_from front before [] in_front were are = were
asks_from front before (step ∷ past) in_front were are =
    asks_from (front ++ step ∷ []) (fixing_after front before step) past (all_both IsAskInRange front (step ∷ []) in_front (are.0, tt))
    (asks_after front before step in_front were) are.1

asks_fixing : (past : List Step) → AreAsksInRange past → AreAsksInRange (past_fixing past)
unfolding past_fixing
asks_fixing past are = asks_from [] [] past tt tt are

-- the effective length is 27 octets at least
pub room_for_piece : (link : OpenLink) → HasRanges link → 1 ≤ (data_cut (facts_fixing link.setup link.past)).limit
room_for_piece link has =
    let lengths = past_lengths link.setup (past_fixing link.past) has.max_rx_to (asks_fixing link.past has.asks) in
    let own = lengths.own in
    let peer = lengths.peer in
    omega (arith, own, peer)
