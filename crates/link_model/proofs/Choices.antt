-- What holds of an end where data ended the link, and where it did not, holds after data; and so for a forged packet.
use Rattle.std.proofs.Common.{Bool, true, false}
use Rattle.link_model.specs.Facts.{Facts}
use Rattle.link_model.specs.Receiving.{data_taken, data_taken_if, ended_by_forgery, facts_forged_if}

module _ (P : Facts → Type 0) where
  pub either_data : (takes : Bool) (facts : Facts) → P (data_taken facts) → P facts → P (data_taken_if takes facts)
  either_data true facts taken not_taken = taken
  either_data false facts taken not_taken = not_taken

  pub either_forged : (forged : Bool) (facts : Facts) → P (record facts { control = ended_by_forgery facts.control })
      → P facts
      → P (facts_forged_if forged facts)
  either_forged true facts ends goes = ends
  either_forged false facts ends goes = goes
