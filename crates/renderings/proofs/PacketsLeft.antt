-- The packets of a journal that are left, block by block.
use Rattle.std.proofs.Common.{◌≡◌, ℕ, List, [], ◌++◌, Option, Ok, Err, sym, ap, ◌∙◌}
use Rattle.journal.specs.declared.entries.Entry.{Entry}
use Rattle.outside.specs.declared.sink.SinkFault.{SinkFault}
use Rattle.capture.specs.declared.recorder.Recorder.{Recorder}
use Rattle.capture.specs.Capture.{blocks_after}
use Rattle.capture.specs.Knowing.{Knows}
use Rattle.capture.proofs.Parts.{blocks_in_parts}
use Rattle.journal_tool.specs.Writing.{IsWritten, takes_memory}
use Rattle.renderings.proofs.Rest.{IsLeft, all_left, less_left, none_left, not_written}

-- the packets of a block, and then those of what comes after it
packets_parts : (past block later entries : List Entry) → block ++ later ≡ entries
    → blocks_after past entries ≡ blocks_after past block ++ blocks_after (past ++ block) later
packets_parts past block later entries is =
    ap (λ (xs : List Entry). blocks_after past xs) (sym is) ∙ blocks_in_parts past block later

module _ {Sink : Type 0} (written : Sink → Option (List ℕ)) (faults : Sink → ℕ) (is_reliable : Sink → Type 0) where
  -- what was written is the packets of the entries before these
  pub record ArePacketsLeft (first now : Sink) (recorder : Recorder) (rest entries : List Entry) : Type 0 where
    pub done : List Entry
    pub knows : Knows recorder done
    pub left : IsLeft written faults is_reliable takes_memory first now (blocks_after done rest) (blocks_after [] entries)

  pub all_packets_left : (sink : Sink) (recorder : Recorder) (entries : List Entry) → Knows recorder []
      → ArePacketsLeft sink sink recorder entries entries
  all_packets_left sink recorder entries knows = record {
    done = [];
    knows = knows;
    left = all_left written faults is_reliable takes_memory sink (blocks_after [] entries);
  }

  pub fewer_packets_left : (first now next : Sink) (recorder after : Recorder) (block later rest entries : List Entry)
      → (at : ArePacketsLeft first now recorder rest entries) → block ++ later ≡ rest → Knows after (at.done ++ block)
      → IsWritten written faults is_reliable takes_memory now next (Ok tt) (blocks_after at.done block)
      → ArePacketsLeft first next after later entries
  fewer_packets_left first now next recorder after block later rest entries at parts knows is = record {
    done = at.done ++ block;
    knows = knows;
    left =
        less_left written faults is_reliable takes_memory first now next (blocks_after at.done rest) (blocks_after at.done block)
        (blocks_after (at.done ++ block) later) (blocks_after [] entries) at.left (packets_parts at.done block later rest parts) is;
  }

  pub no_packets_left : (first now : Sink) (recorder : Recorder) (rest entries : List Entry)
      → ArePacketsLeft first now recorder rest entries → rest ≡ []
      → IsWritten written faults is_reliable takes_memory first now (Ok tt) (blocks_after [] entries)
  no_packets_left first now recorder rest entries at none =
      none_left written faults is_reliable takes_memory first now (blocks_after at.done rest) (blocks_after [] entries) at.left
      (ap (λ (xs : List Entry). blocks_after at.done xs) none)

  pub packets_not_written : (first now last : Sink) (fault : SinkFault) (recorder : Recorder) (block later rest entries : List Entry)
      → (at : ArePacketsLeft first now recorder rest entries) → block ++ later ≡ rest
      → IsWritten written faults is_reliable takes_memory now last (Err fault) (blocks_after at.done block)
      → IsWritten written faults is_reliable takes_memory first last (Err fault) (blocks_after [] entries)
  packets_not_written first now last fault recorder block later rest entries at parts is =
      not_written written faults is_reliable takes_memory first now last fault (blocks_after at.done rest) (blocks_after at.done block)
      (blocks_after (at.done ++ block) later) (blocks_after [] entries) at.left (packets_parts at.done block later rest parts) is
