-- What a call sees of files and output, before it and after it (our choice).
use Rattle.std.specs.Prelude.{◌≡◌, ℕ, List, Option}
use Rattle.outside.specs.Count.{HasRisen}
use Rattle.outside.specs.Growth.{HasGrownBy, HasGrownByPrefix}

-- what is seen of files, by their names
pub record Reads : Type 1 where
  -- what a file holds, where it is known
  pub content : List ℕ → Option (List ℕ)
  -- no read of it fails from the start of the call on
  pub is_reliable : List ℕ → Type 0
  -- how many reads of it failed before the call
  pub faults_before : List ℕ → ℕ
  -- how many have failed now
  pub faults_now : List ℕ → ℕ

-- what is seen of the output
pub record Writes : Type 1 where
  -- what was written to it before the call, where it is known
  pub written_before : Option (List ℕ)
  -- what is written now
  pub written_now : Option (List ℕ)
  -- no write to it fails from the start of the call on
  pub is_reliable : Type 0
  -- how many writes to it failed before the call
  pub faults_before : ℕ
  -- how many have failed now
  pub faults_now : ℕ

-- what is seen of both
pub record World : Type 1 where
  pub reads : Reads
  pub writes : Writes

abbrev pub world_of : Reads → Writes → World
world_of reads writes = record { reads = reads; writes = writes }

-- what is seen of files, from the members of `Files` before and after
abbrev pub reads_of : {Files : Type 0} → (Files → List ℕ → Option (List ℕ)) → (Files → List ℕ → Type 0)
    → (Files → List ℕ → ℕ) → Files → Files → Reads
reads_of content is_reliable faults before now = record {
  content = content before;
  is_reliable = is_reliable before;
  faults_before = faults before;
  faults_now = faults now;
}

-- what is seen of the output, from the members of `Sink` before and after
abbrev pub writes_of : {Sink : Type 0} → (Sink → Option (List ℕ)) → (Sink → Type 0) → (Sink → ℕ) → Sink → Sink → Writes
writes_of written is_reliable faults before now = record {
  written_before = written before;
  written_now = written now;
  is_reliable = is_reliable before;
  faults_before = faults before;
  faults_now = faults now;
}

-- calls have failed: their count of faults has risen, and they were not reliable
abbrev pub HasFailed : Type 0 → ℕ → ℕ → Type 0
HasFailed is_reliable before now = HasRisen before now × (¬ is_reliable)

-- reads of the file of a name have failed
abbrev pub HaveReadsFailed : Reads → List ℕ → Type 0
HaveReadsFailed reads name = HasFailed (reads.is_reliable name) (reads.faults_before name) (reads.faults_now name)

-- writes to the output have failed
abbrev pub HaveWritesFailed : Writes → Type 0
HaveWritesFailed writes = HasFailed writes.is_reliable writes.faults_before writes.faults_now

-- exactly these octets were written, where it is known what was
abbrev pub HasWritten : Writes → List ℕ → Type 0
HasWritten writes octets = HasGrownBy writes.written_before writes.written_now octets

-- a prefix of these octets was written, where it is known what was
abbrev pub HasWrittenPart : Writes → List ℕ → Type 0
HasWrittenPart writes octets = HasGrownByPrefix writes.written_before writes.written_now octets

-- nothing was written
abbrev pub HasWrittenNothing : Writes → Type 0
HasWrittenNothing writes = writes.written_now ≡ writes.written_before
