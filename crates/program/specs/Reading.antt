-- What is read of the files of a command, in their order (our choice).
use Rattle.std.specs.Prelude.{◌≡◌, ℕ, ◌<◌, ◌≤◌, List, length, take, All, slice_get, IsSomeAnd}
use Rattle.std.specs.List.{AllZip}
use Rattle.outside.specs.Known.{WhereKnown}
use Rattle.program.specs.declared.faults.Fault.{Fault}
use Rattle.program.specs.declared.faults.Fault.TheVariants.{CannotRead, TooLong, NoMemory}
use Rattle.program.specs.FileRow.{FileRow}
use Rattle.program.specs.World.{Reads, HaveReadsFailed}

-- a content is within the limit of a file
abbrev pub IsWithinLimit : FileRow → List ℕ → Type 0
IsWithinLimit file octets = length octets ≤ file.limit

-- a content is over the limit of a file
abbrev pub IsOverLimit : FileRow → List ℕ → Type 0
IsOverLimit file octets = file.limit < length octets

-- a file is over its limit, where its content is known
abbrev pub IsTooLong : Reads → FileRow → Type 0
IsTooLong reads file = WhereKnown (reads.content file.name) (IsOverLimit file)

-- a file is within its limit, where its content is known
abbrev pub Fits : Reads → FileRow → Type 0
Fits reads file = WhereKnown (reads.content file.name) (IsWithinLimit file)

-- the files that are read before the one at this place are within their limits
abbrev pub EarlierFit : Reads → List FileRow → ℕ → Type 0
EarlierFit reads files place = All (Fits reads) (take place files)

-- what holds where the file at this place was not read: reads of it have failed, or it is over its limit, where its
-- content is known; or an allocation failed, of which no clause speaks
abbrev pub IsFileFault : Reads → FileRow → ℕ → Fault → Type 0
IsFileFault reads file place (CannotRead other) = (other ≡ place) × HaveReadsFailed reads file.name
IsFileFault reads file place (TooLong other) = (other ≡ place) × IsTooLong reads file
IsFileFault reads file place NoMemory = Unit {0}
IsFileFault reads file place _ = ⊥

-- what holds where some of these files was not read: those before it are within their limits; or an allocation failed
abbrev pub IsReadFault : Reads → List FileRow → Fault → Type 0
IsReadFault reads files NoMemory = Unit {0}
IsReadFault reads files fault = (place : ℕ)
    × IsSomeAnd (slice_get files place) (λ file. IsFileFault reads file place fault) × EarlierFit reads files place

-- octets that were read of a file: they are within its limit, and its content, where that is known
abbrev pub IsRead : Reads → FileRow → List ℕ → Type 0
IsRead reads file octets =
    IsWithinLimit file octets × WhereKnown (reads.content file.name) (λ content. octets ≡ content)

-- the octets that were read of these files, in their order
abbrev pub AreRead : Reads → List FileRow → List (List ℕ) → Type 0
AreRead reads files contents = AllZip (IsRead reads) files contents

-- all these files were read, with a fact of their octets
abbrev pub OfRead : Reads → List FileRow → (List (List ℕ) → Type 0) → Type 0
OfRead reads files fact = (contents : List (List ℕ)) × AreRead reads files contents × fact contents
