-- The lines since, with a line more.
use Rattle.std.proofs.Common.{◌≡◌, Bool, List, [], ◌∷◌, ◌++◌}
use Rattle.std.specs.Prelude.{if◌then◌else◌}
use Rattle.std.proofs.lemmas.List.Sums.{fold-append}
use Rattle.journal.specs.declared.entries.Entry.{Entry}
use Rattle.journal_rules.specs.Since.{since}

pub since_more : (passes : Entry → Bool) (front : List Entry) (line : Entry) → since passes (front ++ line ∷ []) ≡ (if passes line then [] else since passes front ++ line ∷ [])
since_more passes front line = fold-append (λ after line. if passes line then [] else after ++ line ∷ []) [] front (line ∷ [])
