-- Where a command can do its work it does, or an allocation fails.
use Rattle.std.proofs.Common.{◌≡◌, ℕ, zero, suc, ◌<◌, List, [], ◌∷◌, length, Option, Some, refl, sym, ap, subst, inl, inr, arith, ◌∙◌}
use Rattle.std.specs.Prelude.{◌⊎◌, All, slice_get, IsSomeAnd}
use Rattle.std.specs.List.{AllZip}
use Rattle.std.proofs.lemmas.List.Elements.{All-head, All-tail}
use Rattle.outside.specs.Known.{WhereKnown}
use Rattle.journal.specs.declared.entries.Entry.{Entry}
use Rattle.run_model.specs.Pair.{given_of, EndsUnseen}
use Rattle.radio_replay.specs.Schedule.{Reading, Right, Wrong, TooMany}
use Rattle.program.specs.declared.faults.Fault.{Fault}
use Rattle.program.specs.declared.faults.Fault.TheVariants.{CannotRead, BadLine, CannotWrite, NoMemory, Unseen, TooLong, TooManyTurns}
use Rattle.program.specs.declared.commands.Command.{Command}
use Rattle.program.specs.declared.commands.Command.TheVariants.{Make, Pair}
use Rattle.program.specs.Causes.{OfUnseen, IsMakeFault, IsPairFault, IsWorkFault, HasCause}
use Rattle.program.specs.Claims.{Claims}
use Rattle.program.specs.Commands.{command_of, files_of}
use Rattle.program.specs.Ending.{IsEnding, IsKnown, CanPair, CanWork, CanPerform, NoneHasRisen, IsReliable}
use Rattle.program.specs.FileRow.{FileRow}
use Rattle.program.specs.Reading.{IsTooLong, IsRead, AreRead, IsFileFault, IsReadFault}
use Rattle.program.specs.Status.{Outcome, Done, NoCommand, Failed, exit_status, status_of}
use Rattle.program.specs.World.{Reads, Writes, World, HaveReadsFailed, HaveWritesFailed, HasWritten}

-- a fact of a content that is known
of_content : (content : Option (List ℕ)) (octets : List ℕ) (fact : List ℕ → Type 0) → content ≡ Some octets → WhereKnown content fact
    → fact octets
of_content content octets fact is holds = subst (λ c. WhereKnown c fact) is holds

-- ---- files

-- no read of these files failed
abbrev NoneFailed : Reads → List FileRow → Type 0
NoneFailed reads files = All (λ file. ¬ HaveReadsFailed reads file.name) files

known_not_too_long : (reads : Reads) (file : FileRow) (octets : List ℕ) → IsKnown reads file octets → ¬ IsTooLong reads file
known_not_too_long reads file octets known long =
    let over : file.limit < length octets = of_content (reads.content file.name) octets _ known.0 long in
    omega (arith, known.1, over)

known_is_read : (reads : Reads) (file : FileRow) (octets read : List ℕ) → IsKnown reads file octets → IsRead reads file read → octets ≡ read
known_is_read reads file octets read known is = sym (of_content (reads.content file.name) octets (λ content. read ≡ content) known.0 is.1)

-- what is read of files whose content is known is that content
known_are_read : (reads : Reads) (files : List FileRow) (contents read : List (List ℕ)) → AllZip (IsKnown reads) files contents
    → AreRead reads files read → contents ≡ read
known_are_read reads [] [] [] known are = refl
known_are_read reads [] [] (octets ∷ read) known are = absurd are
known_are_read reads [] (octets ∷ contents) read known are = absurd known
known_are_read reads (file ∷ files) [] read known are = absurd known
known_are_read reads (file ∷ files) (octets ∷ contents) [] known are = absurd are
known_are_read reads (file ∷ files) (octets ∷ contents) (first ∷ read) known are =
    let one : octets ≡ first = known_is_read reads file octets first known.0 are.0 in
    let more : contents ≡ read = known_are_read reads files contents read known.1 are.1 in cc

-- a file that is known, and of which no read failed, has no fault but of an allocation
no_file_fault : (reads : Reads) (file : FileRow) (octets : List ℕ) (place : ℕ) (fault : Fault) → IsKnown reads file octets
    → (¬ HaveReadsFailed reads file.name) → IsFileFault reads file place fault → fault ≡ NoMemory
no_file_fault reads file octets place (CannotRead other) known not_failed is = absurd (not_failed is.1)
no_file_fault reads file octets place (TooLong other) known not_failed is = absurd (known_not_too_long reads file octets known is.1)
no_file_fault reads file octets place NoMemory known not_failed is = refl
no_file_fault reads file octets place fault known not_failed is = absurd is

no_fault_at : (reads : Reads) (files : List FileRow) (contents : List (List ℕ)) (place other : ℕ) (fault : Fault)
    → AllZip (IsKnown reads) files contents → NoneFailed reads files
    → IsSomeAnd (slice_get files place) (λ file. IsFileFault reads file other fault) → fault ≡ NoMemory
no_fault_at reads [] contents place other fault known none is = absurd is
no_fault_at reads (file ∷ files) [] place other fault known none is = absurd known
no_fault_at reads (file ∷ files) (octets ∷ contents) zero other fault known none is =
    no_file_fault reads file octets other fault known.0 (All-head (λ f. ¬ HaveReadsFailed reads f.name) file files none) is
no_fault_at reads (file ∷ files) (octets ∷ contents) (suc place) other fault known none is =
    no_fault_at reads files contents place other fault known.1 (All-tail (λ f. ¬ HaveReadsFailed reads f.name) file files none) is

-- where all files are known and none failed, only an allocation can fail
no_read_fault : (reads : Reads) (files : List FileRow) (contents : List (List ℕ)) (fault : Fault)
    → AllZip (IsKnown reads) files contents → NoneFailed reads files → IsReadFault reads files fault → fault ≡ NoMemory
no_read_fault reads files contents NoMemory known none is = refl
no_read_fault reads files contents fault known none is = no_fault_at reads files contents is.0 is.0 fault known none is.1

-- ---- the work of `pair`

abbrev pub IsRight : Reading → Type 0
IsRight (Right a b turns) = Unit {0}
IsRight (Wrong line) = ⊥
IsRight (TooMany line) = ⊥

-- this damage ends a run of these streams and of the schedule that was read
abbrev IsUnseenIn : List ℕ → List ℕ → ℕ → ℕ → List ℕ → List ℕ → List Entry → Reading → Type 0
IsUnseenIn a b turn packet sent heard journal (Right config_a config_b turns) =
    EndsUnseen (given_of a b (record { a = config_a; b = config_b; turns = turns })) turn packet sent heard journal
IsUnseenIn a b turn packet sent heard journal (Wrong line) = ⊥
IsUnseenIn a b turn packet sent heard journal (TooMany line) = ⊥

not_unseen : (claims : Claims) (writes : Writes) (a b schedule : List ℕ) (turn packet : ℕ) (sent heard : List ℕ) → CanPair a b schedule
    → ¬ OfUnseen claims turn packet sent heard (HasWritten writes) a b schedule
not_unseen claims writes a b schedule turn packet sent heard can ended =
    can.none_unseen turn packet sent heard ended.journal
    (subst (IsUnseenIn a b turn packet sent heard ended.journal) (sym ended.no_fault ∙ can.is_right) ended.is_of_kind.ends)

no_pair_fault : (claims : Claims) (writes : Writes) (a b schedule : List ℕ) (fault : Fault) → CanPair a b schedule → (¬ HaveWritesFailed writes)
    → IsPairFault claims writes fault a b schedule → fault ≡ NoMemory
no_pair_fault claims writes a b schedule (BadLine place number) can not_failed is = absurd (subst IsRight (sym can.is_right ∙ is.1.1) tt)
no_pair_fault claims writes a b schedule (TooManyTurns place number) can not_failed is = absurd (subst IsRight (sym can.is_right ∙ is.1.1) tt)
no_pair_fault claims writes a b schedule CannotWrite can not_failed is = absurd (not_failed is.0)
no_pair_fault claims writes a b schedule NoMemory can not_failed is = refl
no_pair_fault claims writes a b schedule (Unseen turn packet sent heard) can not_failed is =
    absurd (not_unseen claims writes a b schedule turn packet sent heard can is)
no_pair_fault claims writes a b schedule (CannotRead place) can not_failed is = absurd is
no_pair_fault claims writes a b schedule (TooLong place) can not_failed is = absurd is

-- ---- the work of `make`

no_make_fault : (claims : Claims) (writes : Writes) (number : ℕ) (fault : Fault) → (¬ HaveWritesFailed writes) → IsMakeFault claims writes number fault → fault ≡ NoMemory
no_make_fault claims writes number CannotWrite not_failed is = absurd (not_failed is.0)
no_make_fault claims writes number NoMemory not_failed is = refl
no_make_fault claims writes number fault not_failed is = absurd is

-- ---- commands

-- the work of a command that can be done ends with no fault but of an allocation
no_work_fault : (claims : Claims) (command : Command) (writes : Writes) (contents : List (List ℕ)) (fault : Fault) → CanWork command contents
    → (¬ HaveWritesFailed writes) → IsWorkFault claims command writes fault contents → fault ≡ NoMemory
no_work_fault claims (Pair names) writes contents fault can not_failed is = no_pair_fault claims writes _ _ _ fault can not_failed is
no_work_fault claims (Make number) writes contents fault can not_failed is = no_make_fault claims writes number fault not_failed is

can_only : (claims : Claims) (command : Command) (world : World) (outcome : Outcome) → HasCause claims (Some command) world outcome
    → CanPerform command world.reads → NoneFailed world.reads (files_of command)
    → (¬ HaveWritesFailed world.writes) → (exit_status outcome ≡ 0) ⊎ (exit_status outcome ≡ 5)
can_only claims command world Done cause can reads writes = inl refl
can_only claims command world NoCommand cause can reads writes = absurd cause
can_only claims command world (Failed fault) cause can reads writes =
    elim cause [
      | inl is ↦ inr (ap status_of (no_read_fault world.reads (files_of command) can.contents fault can.are_known reads is.0))
      | inr is ↦ inr (ap status_of (no_work_fault claims command world.writes is.0 fault
          (subst (CanWork command) (known_are_read world.reads (files_of command) can.contents is.0 can.are_known is.1) can.can) writes is.2))
    ]

-- the status of a call whose command can do its work, and in which nothing failed
done_or_no_memory : {claims : Claims} {words : List (List ℕ)} {world : World} {says : List ℕ → Type 0} {status : ℕ}
    → IsEnding claims words world says status → (command : Command) → command_of words ≡ Some command → CanPerform command world.reads
    → NoneFailed world.reads (files_of command) → (¬ HaveWritesFailed world.writes)
    → (status ≡ 0) ⊎ (status ≡ 5)
done_or_no_memory {claims = claims} {words = words} {world = world} ending command is can reads writes =
    subst (λ n. (n ≡ 0) ⊎ (n ≡ 5)) (sym ending.is_status)
    (can_only claims command world ending.outcome (subst (λ c. HasCause claims c world ending.outcome) is ending.has_cause) can reads writes)

none_failed_as_none_rose : (command : Command) (world : World) → NoneHasRisen command world → NoneFailed world.reads (files_of command)
none_failed_as_none_rose command world none = λ k d lt failed. none.reads k d lt failed.0

none_failed_as_reliable : (command : Command) (world : World) → IsReliable command world → NoneFailed world.reads (files_of command)
none_failed_as_reliable command world reliable = λ k d lt failed. failed.1 (reliable.reads k d lt)

-- where no count of faults has risen, nothing failed
pub done_as_none_rose : {claims : Claims} {words : List (List ℕ)} {world : World} {says : List ℕ → Type 0} {status : ℕ}
    → IsEnding claims words world says status → (command : Command) → command_of words ≡ Some command → CanPerform command world.reads
    → NoneHasRisen command world → (status ≡ 0) ⊎ (status ≡ 5)
done_as_none_rose {world = world} ending command is can none =
    done_or_no_memory ending command is can (none_failed_as_none_rose command world none) (λ failed. none.writes failed.0)

-- where nothing may fail, nothing did
pub done_as_reliable : {claims : Claims} {words : List (List ℕ)} {world : World} {says : List ℕ → Type 0} {status : ℕ}
    → IsEnding claims words world says status → (command : Command) → command_of words ≡ Some command → CanPerform command world.reads
    → IsReliable command world → (status ≡ 0) ⊎ (status ≡ 5)
done_as_reliable {world = world} ending command is can reliable =
    done_or_no_memory ending command is can (none_failed_as_reliable command world reliable) (λ failed. failed.1 reliable.writes)
