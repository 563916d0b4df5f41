-- The part of a list that was read so far, before the rest.
use Rattle.std.proofs.Common.{List, ◌++◌, Some, None}
use Rattle.std.specs.Prelude.{Option}

abbrev pub values_then : {A : Type 0} → List A → Option (List A) → Option (List A)
values_then values None = None
values_then values (Some later) = Some (values ++ later)
