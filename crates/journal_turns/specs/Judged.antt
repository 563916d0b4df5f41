-- Which verdicts a listener can give on a packet, by what the radio did to it (our choice).
use Rattle.std.specs.Prelude.{◌≡◌, ◌≢◌, ℕ, List, ◌∷◌, ◌++◌}
use Rattle.ble_base.specs.declared.roles.Side.{Side}
use Rattle.ble_base.specs.declared.verdicts.Verdict.{Verdict}
use Rattle.ble_base.specs.declared.verdicts.Verdict.TheVariants.{Missed, Forged, Good}
use Rattle.journal.specs.declared.entries.Entry.{Entry}
use Rattle.journal.specs.declared.entries.Entry.TheVariants.{Air}
use Rattle.journal.specs.declared.entries.Mark.{Mark}
use Rattle.journal.specs.declared.entries.Mark.TheVariants.{Lost}
use Rattle.radio_replay.specs.Damage.{damaged_packet}
use Rattle.radio_replay.specs.declared.fates.Fate.{Fate}
use Rattle.run_model.specs.Journal.{mark_of}

pub record IsJudged (octets : List ℕ) (fate : Mark) (verdict : Verdict) : Type 0 where
  -- what the radio did
  pub done : Fate
  pub fate_is : fate ≡ mark_of done
  -- a packet that is lost is missed
  pub lost : fate ≡ Lost → verdict ≡ Missed
  -- a packet that is judged good is heard as it was sent
  pub unchanged : verdict ≡ Good → damaged_packet done octets ≡ octets
  -- one that is judged forged was not lost
  pub forged : verdict ≡ Forged → fate ≢ Lost

abbrev pub AllAreJudged : List Entry → Type 0
AllAreJudged journal =
    (front rest : List Entry) (side : Side) (channel : ℕ) (octets : List ℕ) (fate : Mark) (verdict : Verdict)
    → journal ≡ front ++ Air side channel octets fate verdict ∷ rest → IsJudged octets fate verdict
