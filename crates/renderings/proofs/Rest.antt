-- A loop that writes blocks: to write what is left is to write all.
use Rattle.std.proofs.Common.{◌≡◌, ℕ, List, [], ◌++◌, Option, Result, Ok, Err, sym, subst}
use Rattle.outside.specs.declared.sink.SinkFault.{SinkFault}
use Rattle.journal_tool.specs.Writing.{IsWritten}
use Rattle.journal_tool.proofs.Growth.{written_no_more, written_none, written_then}

module _ {Sink : Type 0} (written : Sink → Option (List ℕ)) (faults : Sink → ℕ) (is_reliable wants_memory : Sink → Type 0) where
  -- after what was written from `first` to `now`, these octets are left of the whole
  pub record IsLeft (first now : Sink) (left whole : List ℕ) : Type 0 where
    pub rest : (last : Sink) (result : Result (Unit {0}) SinkFault)
        → IsWritten written faults is_reliable wants_memory now last result left
        → IsWritten written faults is_reliable wants_memory first last result whole

  pub all_left : (sink : Sink) (whole : List ℕ) → IsLeft sink sink whole whole
  all_left sink whole = record { rest = λ last result is. is }

  -- a part was written
  pub less_left : (first now next : Sink) (left front back whole : List ℕ) → IsLeft first now left whole → left ≡ front ++ back
      → IsWritten written faults is_reliable wants_memory now next (Ok tt) front → IsLeft first next back whole
  less_left first now next left front back whole at parts part = record {
    rest = λ last result is.
        at.rest last result
        (subst (λ octets. IsWritten written faults is_reliable wants_memory now last result octets) (sym parts) (written_then part is));
  }

  -- nothing is left
  pub none_left : (first now : Sink) (left whole : List ℕ) → IsLeft first now left whole → left ≡ []
      → IsWritten written faults is_reliable wants_memory first now (Ok tt) whole
  none_left first now left whole at none =
      at.rest now (Ok tt)
      (subst (λ octets. IsWritten written faults is_reliable wants_memory now now (Ok tt) octets) (sym none) (written_none now))

  -- a part was not written whole
  pub not_written : (first now last : Sink) (fault : SinkFault) (left front back whole : List ℕ) → IsLeft first now left whole
      → left ≡ front ++ back → IsWritten written faults is_reliable wants_memory now last (Err fault) front
      → IsWritten written faults is_reliable wants_memory first last (Err fault) whole
  not_written first now last fault left front back whole at parts part =
      at.rest last (Err fault)
      (subst (λ octets. IsWritten written faults is_reliable wants_memory now last (Err fault) octets) (sym parts) (written_no_more back part))
