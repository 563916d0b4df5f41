-- Over a schedule whose damages are all short no call ends with status 6.
use Rattle.std.proofs.Common.{◌≡◌, ◌≢◌, ℕ, List, [], ◌∷◌, Option, Some, None, length, inl, inr, sym, subst, ◌∙◌}
use Rattle.std.specs.Prelude.{IsSomeAnd, slice_get}
use Rattle.outside.specs.Known.{WhereKnown}
use Rattle.journal.specs.declared.entries.Entry.{Entry}
use Rattle.journal_pdus.specs.run_model.Pair.{EndsUnseen, given_of}
use Rattle.program.specs.Causes.{HasCause, IsNotPerformed, IsPairFault, OfPair, OfUnseen}
use Rattle.program.specs.Claims.{of_runs}
use Rattle.program.specs.Commands.{command_of, pair_files, schedule_file}
use Rattle.program.specs.Ending.{IsEnding as IsEndingWith}
use Rattle.program.specs.FileRow.{FileRow}
use Rattle.program.specs.PairFiles.{PairFiles}
use Rattle.program.specs.Reading.{AreRead, IsRead}
use Rattle.program.specs.Status.{Done, Failed, NoCommand, Outcome, exit_status}
use Rattle.program.specs.World.{HasWritten, Reads, World}
use Rattle.program.specs.declared.commands.Command.TheVariants.{Pair}
use Rattle.program.specs.declared.faults.Fault.TheVariants.{CannotRead, Unseen}
use Rattle.radio_replay.specs.Script.{Script}
use Rattle.short_damage.specs.Short.{AllAreShort}
use Rattle.ble_tool.specs.Short.{IsShortText}

-- the law of runs over such a schedule
abbrev pub NeverEnds : Type 0
NeverEnds = (a b : List ℕ) (script : Script) (turn packet : ℕ) (sent heard : List ℕ) (journal : List Entry)
    → length script.a.public ≡ 6
    → length script.b.public ≡ 6 → AllAreShort script
    → EndsUnseen (given_of a b script) turn packet sent heard journal → ⊥

-- what was read of the schedule is its content
read_is : (reads : Reads) (name text octets : List ℕ) → reads.content name ≡ Some text
    → IsRead reads (schedule_file name) octets → octets ≡ text
read_is reads name text octets known is = subst (λ content. WhereKnown content (λ one. octets ≡ one)) known is.1

no_file : (found : Option FileRow) → IsSomeAnd found (λ file. ⊥) → ⊥
no_file None is = absurd is
no_file (Some file) is = absurd is

module _ (never : NeverEnds) (names : PairFiles) (text : List ℕ) (world : World)
    (known : world.reads.content names.schedule ≡ Some text)
    (short : IsShortText text) (turn packet : ℕ) (sent heard : List ℕ) where
  none_in : (a b schedule : List ℕ) → schedule ≡ text
      → OfUnseen of_runs turn packet sent heard (HasWritten world.writes) a b schedule → ⊥
  none_in a b schedule same ended =
      let script : Script = record { a = ended.config_a; b = ended.config_b; turns = ended.turns } in
      never a b script turn packet sent heard ended.journal ended.claimed.a ended.claimed.b
      (subst IsShortText (sym same) short ended.config_a ended.config_b ended.turns ended.no_fault)
      ended.is_of_kind.ends

  none_read : (contents : List (List ℕ)) → AreRead world.reads (pair_files names) contents
      → OfPair (IsPairFault of_runs world.writes (Unseen turn packet sent heard)) contents → ⊥
  none_read (a ∷ b ∷ schedule ∷ []) are ended = none_in a b schedule
      (read_is world.reads names.schedule text schedule known are.1.1.0) ended
  none_read (a ∷ b ∷ schedule ∷ more ∷ rest) are ended = absurd are.1.1.1
  none_read (a ∷ b ∷ []) are ended = absurd are.1.1
  none_read (a ∷ []) are ended = absurd are.1
  none_read [] are ended = absurd are

  none_unseen : IsNotPerformed of_runs (Pair names) world (Unseen turn packet sent heard) → ⊥
  none_unseen (inl is) = no_file (slice_get (pair_files names) is.0.0) is.0.1
  none_unseen (inr is) = none_read is.0 is.1 is.2

module _ (never : NeverEnds) (names : PairFiles) (text : List ℕ) (world : World)
    (known : world.reads.content names.schedule ≡ Some text)
    (short : IsShortText text) where
  not_six : (outcome : Outcome) → HasCause of_runs (Some (Pair names)) world outcome → exit_status outcome ≢ 6
  not_six Done cause is = absurd cc
  not_six NoCommand cause is = absurd cause
  not_six (Failed (Unseen turn packet sent heard)) cause is =
      none_unseen never names text world known short turn packet sent heard cause
  not_six (Failed (CannotRead place)) cause is = absurd cc
  not_six (Failed other) cause is = absurd cc

pub never_six : NeverEnds → {words : List (List ℕ)} {world : World} {says : List ℕ → Type 0} {status : ℕ}
    → IsEndingWith of_runs words world says status
    → (names : PairFiles) (text : List ℕ) → command_of words ≡ Some (Pair names)
    → world.reads.content names.schedule ≡ Some text → IsShortText text
    → status ≢ 6
never_six never {world = world} ending names text is known short = λ six.
    not_six never names text world known short ending.outcome
    (subst (λ c. HasCause of_runs c world ending.outcome) is ending.has_cause)
    (sym ending.is_status ∙ six)
