-- What holds for a name holds for the words that give it.
use Rattle.std.proofs.Common.{◌≡◌, ℕ, List, Option, Some, sym, subst}
use Rattle.journal.specs.declared.entries.Entry.{Entry}
use Rattle.journal_tool.specs.declared.faults.Fault.{Fault}
use Rattle.journal_tool.specs.Causes.{Seen, IsCause}
use Rattle.journal_tool.specs.Endings.{Failed, IsEnding, fault_line, name_in, status_of}

module _ (output : List Entry → List ℕ) (program : List ℕ) (given : Option (List ℕ)) (name : List ℕ)
    (seen : List ℕ → Seen) (says : List ℕ → Type 0) where
  -- a call with a name ends with the fault of its work
  pub failed_by_words : (fault : Fault) (status : ℕ) → given ≡ Some name → IsCause output (seen name) fault
      → says (fault_line name fault) → status ≡ status_of fault → IsEnding output program given (seen (name_in given)) says status
  failed_by_words fault status is cause said number =
      subst (λ g. IsEnding output program g (seen (name_in g)) says status) (sym is)
      (record { outcome = Failed fault; is_status = number; has_cause = cause; is_said = said })
