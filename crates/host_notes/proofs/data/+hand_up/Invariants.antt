-- Measure of `data::hand_up`.
use Rattle.host_notes.proofs.data.+hand_up.Given as goal

abbrev pub decreases-hand_up : goal.decreases-hand_up
decreases-hand_up g l = l.most
