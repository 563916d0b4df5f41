-- Where its host asks only for values in range, the lengths of an end are in their ranges, in all phases of encryption.
use Rattle.std.proofs.Common.{◌≡◌, Bool, true, false, List, [], ◌∷◌, IfSome, is_none, refl, sym, subst, if◌then◌else◌}
use Rattle.ble_base.specs.ErrorCodes.{mic_failure}
use Rattle.data_pdu.specs.Ranges.{IsInRange}
use Rattle.run_model.specs.control_model.Control.{Control, ended}
use Rattle.run_model.specs.link_model.phased_end.Lengths.{HasLengths}
use Rattle.run_model.specs.link_model.phased_end.Reached.{AllMayCome}
use Rattle.run_model.proofs.link_model.phased_end.Lengths.{lengths_after}
use Rattle.run_model.proofs.link_model.phased_end.Sized.{sized_after}
use Rattle.run_model.specs.link_model.keyed_control.Keyed.{Keyed}
use Rattle.run_model.specs.link_model.keyed_control.KeyedSteps.{KeyedStep, keyed_after, keyed_after_all}
use Rattle.run_model.specs.link_model.AskRanges.{IsAskInRange}
use Rattle.run_model.specs.link_model.End.{facts_after}
use Rattle.run_model.specs.link_model.Facts.{Facts, keyed_of}
use Rattle.run_model.specs.link_model.KeyedSteps.{is_forged_in_step, keyed_steps_in}
use Rattle.run_model.specs.link_model.Receiving.{ended_by_forgery}
use Rattle.run_model.specs.link_model.Setup.{Setup}
use Rattle.run_model.specs.link_model.Step.{Step}
use Rattle.run_model.proofs.link_model.Coming.{steps_come}
use Rattle.run_model.proofs.link_model.KeyedSteps.{forged_ends, one_step}
use Rattle.run_model.proofs.link_model.KnownEnds.{IsPast, past_knows}

-- its lengths, and the PDU that it keeps
abbrev pub IsSized : Keyed → Type 0
IsSized k = HasLengths k.phased.control.table.lengths × IfSome k.phased.kept IsInRange

all_sized : (steps : List KeyedStep) (k : Keyed) → AllMayCome steps → IsSized k → IsSized (keyed_after_all steps k)
all_sized [] k may is = is
all_sized (step ∷ steps) k may is =
    all_sized steps (keyed_after step k) may.1
    (sized_after (λ (c : Control). HasLengths c.table.lengths) lengths_after (λ code. λ c. λ has. has) step k may.0 is)

-- ---- each step

forged_lengths : (c : Control) → HasLengths c.table.lengths → HasLengths (ended_by_forgery c).table.lengths
forged_lengths c has = by (is_none c.ends)
  where
    by : (goes : Bool) → HasLengths (if goes then ended (record { 0 = mic_failure }) c else c).table.lengths
    by true = has
    by false = has

pub sized_step : (setup : Setup) (facts : Facts) (step : Step) → IsPast setup facts → IsAskInRange step → IsSized (keyed_of facts)
    → IsSized (keyed_of (facts_after setup facts step))
sized_step setup facts step p is sized = by (is_forged_in_step setup facts step) refl
  where
    by : (forged : Bool) → is_forged_in_step setup facts step ≡ forged → IsSized (keyed_of (facts_after setup facts step))
    by true forged =
        subst (λ (f : Facts). IsSized (keyed_of f)) (sym (forged_ends setup facts step forged))
        (forged_lengths facts.control sized.0, sized.1)
    by false genuine =
        subst IsSized (sym (one_step setup facts step (past_knows setup facts p).phase genuine))
        (all_sized (keyed_steps_in setup facts step) (keyed_of facts) (steps_come setup facts step is) sized)
