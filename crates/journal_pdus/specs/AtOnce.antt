-- A packet of a host that has no octet is reported to it in the turn in which it comes, before the packets of that turn
-- (Core 5.2, volume 4 part E, section 7.7.19; when it is reported is our choice).
use Rattle.std.specs.Prelude.{◌≡◌, ℕ, List, ◌∷◌, ◌++◌}
use Rattle.ble_base.specs.declared.roles.Side.{Side}
use Rattle.ble_base.specs.declared.verdicts.Verdict.{Verdict}
use Rattle.journal.specs.declared.entries.Entry.{Entry}
use Rattle.journal.specs.declared.entries.Entry.TheVariants.{Air}
use Rattle.journal.specs.declared.entries.Mark.{Mark}
use Rattle.journal_moves.specs.journal_wants.journal_sending.run_model.Readers.{turn_packets}
use Rattle.journal_pdus.specs.Settled.{AreCredited}

-- before the first packet of each turn all that is complete is reported, also what the hosts sent in this turn
abbrev pub AllAreCreditedAtOnce : List Entry → Type 0
AllAreCreditedAtOnce journal = (front rest : List Entry) (side : Side) (channel : ℕ) (octets : List ℕ) (fate : Mark)
    (verdict : Verdict) → journal ≡ front ++ Air side channel octets fate verdict ∷ rest → turn_packets front ≡ 0
    → AreCredited front
