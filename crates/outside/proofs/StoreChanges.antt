-- What a read and a new content change in the files that are held, name by name.
use Rattle.std.proofs.Common.{◌≡◌, ◌≢◌, ℕ, true, false, List, [], ◌∷◌, ◌++◌, Some, None, get_or, set, arith}
use Rattle.std.specs.List.{position}
use Rattle.std.specs.Str.{bytes_eq}
use Rattle.outside.specs.Count.{one_more}
use Rattle.outside.specs.Calls.{Calls, next_fails}
use Rattle.outside.specs.FileStore.{StoredFile, FileStore, content_of, faults_of, read_fails, faults_after_read, NeverFails}
use Rattle.outside.proofs.CallNumbers.{none_fails_next}
use Rattle.outside.proofs.FilesByName.{name_cases, name_is_itself, name_differs, file_at, no_file, file_of-set, file_of_push}

abbrev store : List StoredFile → ℕ → Calls → FileStore
store held others reads = record { held = held; others = others; reads = reads }

-- a fault that is counted at the place of a name
pub record IsCounted (old new : FileStore) (name other : List ℕ) : Type 0 where
  pub content : content_of new other ≡ content_of old other
  pub faults : faults_of new other ≡ faults_after_read old name other

pub fault_counted : (held : List StoredFile) (others : ℕ) (reads later : Calls) (name : List ℕ) (i : ℕ) (y d : StoredFile)
    → position (λ file. bytes_eq file.name name) held ≡ Some i → y.name ≡ (get_or held i d).name
    → y.content ≡ (get_or held i d).content → y.faults ≡ one_more (get_or held i d).faults
    → next_fails reads ≡ true → (other : List ℕ)
    → IsCounted (store held others reads) (store (set held i y) others later) name other
fault_counted held others reads later name i y d at same_name same_content more fails other =
    let here = file_at held name i d at in
    let step = file_of-set held name i y d at same_name other in
    record { content = grind (arith, step, same_content); faults = grind (arith, step, here, more, fails) }

-- a fault that is counted for the names that are not held
pub other_counted : (held : List StoredFile) (others : ℕ) (reads later : Calls) (name : List ℕ)
    → position (λ file. bytes_eq file.name name) held ≡ None → (other : List ℕ)
    → faults_of (store held (one_more others) later) other ≡ faults_after_read (store held others reads) name other
other_counted held others reads later name at other =
    let none = no_file held name at in
    let step = name_cases name other in
    grind (arith, step, none)

-- a read that does not fail
pub none_counted : (held : List StoredFile) (others : ℕ) (reads later : Calls) (name : List ℕ) (i : ℕ) (d : StoredFile)
    → position (λ file. bytes_eq file.name name) held ≡ Some i → next_fails reads ≡ false → (other : List ℕ)
    → faults_of (store held others later) other ≡ faults_after_read (store held others reads) name other
none_counted held others reads later name i d at fails other =
    let here = file_at held name i d at in
    grind (arith, here, fails)

-- a name holds these octets from now on, and nothing else changes
pub record NowHolds (old new : FileStore) (name content : List ℕ) : Type 0 where
  pub held : content_of new name ≡ Some content
  pub others : (other : List ℕ) → other ≢ name → content_of new other ≡ content_of old other
  pub faults : (other : List ℕ) → faults_of new other ≡ faults_of old other

pub content_replaced : (held : List StoredFile) (others : ℕ) (reads : Calls) (name : List ℕ) (i : ℕ) (y d : StoredFile)
    → position (λ file. bytes_eq file.name name) held ≡ Some i → y.name ≡ (get_or held i d).name
    → y.faults ≡ (get_or held i d).faults
    → NowHolds (store held others reads) (store (set held i y) others reads) name y.content
content_replaced held others reads name i y d at same_name same_faults =
    record {
      held = let step = file_of-set held name i y d at same_name name in let itself = name_is_itself name in grind (arith, step, itself);
      others = λ other differs. let step = file_of-set held name i y d at same_name other in let apart = name_differs name other differs in grind (arith, step, apart);
      faults = λ other. let step = file_of-set held name i y d at same_name other in grind (arith, step, same_faults);
    }

pub newly_held : (held : List StoredFile) (others : ℕ) (reads : Calls) (name : List ℕ) (y : StoredFile)
    → position (λ file. bytes_eq file.name name) held ≡ None → y.name ≡ name → y.faults ≡ others
    → NowHolds (store held others reads) (store (held ++ y ∷ []) others reads) name y.content
newly_held held others reads name y at same_name same_faults =
    record {
      held = let step = file_of_push held name y at same_name name in let itself = name_is_itself name in grind (arith, step, itself);
      others = λ other differs. let step = file_of_push held name y at same_name other in let apart = name_differs name other differs in grind (arith, step, apart);
      faults = λ other. let step = file_of_push held name y at same_name other in grind (arith, step, same_faults);
    }

-- with no call that is to fail, a read of a name that is held does not fail
pub reliable_reads : (files : FileStore) (name : List ℕ) → NeverFails files name → read_fails files name ≡ false
reliable_reads files name never = let none = none_fails_next files.reads never.1 in grind (arith, none, never.0)

-- and no read counts a fault of it
pub reliable_counts : (files : FileStore) (name other : List ℕ) → NeverFails files other
    → faults_after_read files name other ≡ faults_of files other
reliable_counts files name other never =
    let none = none_fails_next files.reads never.1 in
    let step = name_cases name other in
    grind (arith, none, never.0, step)
