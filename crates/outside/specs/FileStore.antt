-- Files in memory, as contracts see them (our choice).
use Rattle.std.specs.Prelude.{ℕ, ◌<◌, Bool, ◌||◌, ◌&&◌, if◌then◌else◌, List, length, find}
use Rattle.std.specs.Prelude.{Option, IsSome, IsSomeAnd, IsFalse, is_none}
use Rattle.std.specs.Option.{option_map, option_map_or}
use Rattle.std.specs.Str.{bytes_eq}
use Rattle.outside.specs.Count.{one_more}
use Rattle.outside.specs.Calls.{Calls, next_fails, NoneFails}

-- a file: the octets of its name, its content, and how often a read of it failed
pub record StoredFile : Type 0 where
  pub name : List ℕ
  pub content : List ℕ
  pub faults : ℕ

-- the files that are held, the count of faults that all other names share, and the reads
pub record FileStore : Type 0 where
  pub held : List StoredFile
  pub others : ℕ
  pub reads : Calls

-- the file of a name
abbrev pub file_of : List StoredFile → List ℕ → Option StoredFile
file_of held name = find (λ file. bytes_eq file.name name) held

-- the content of a name, where it is held
abbrev pub content_of : FileStore → List ℕ → Option (List ℕ)
content_of store name = option_map (λ file. file.content) (file_of store.held name)

-- how often a read of a name failed
abbrev pub faults_of : FileStore → List ℕ → ℕ
faults_of store name = option_map_or (λ file. file.faults) (file_of store.held name) store.others

-- a name is held
abbrev pub IsHeld : FileStore → List ℕ → Type 0
IsHeld store name = IsSome (content_of store name)

-- whether the next read fails, if it is of this name
abbrev pub read_fails : FileStore → List ℕ → Bool
read_fails store name = next_fails store.reads || is_none (content_of store name)

-- a read of this name does not fail, and the content is longer than this limit
abbrev pub IsTooLong : FileStore → List ℕ → ℕ → Type 0
IsTooLong store name limit =
    IsFalse (read_fails store name) × IsSomeAnd (content_of store name) (λ content. limit < length content)

-- whether two names have one count: a name that is held has its own, and all others share one
abbrev pub share_count : FileStore → List ℕ → List ℕ → Bool
share_count store name other =
    bytes_eq name other || (is_none (content_of store name) && is_none (content_of store other))

-- the count of faults of a name after a read of the same name or of another one
abbrev pub faults_after_read : FileStore → List ℕ → List ℕ → ℕ
faults_after_read store name other =
    if read_fails store name && share_count store name other then one_more (faults_of store other)
    else faults_of store other

-- no read of a name fails from now on
abbrev pub NeverFails : FileStore → List ℕ → Type 0
NeverFails store name = IsHeld store name × NoneFails store.reads
