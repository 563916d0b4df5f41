-- What the places end as, once a reference to one of their values has ended.
use Rattle.std.specs.Prelude.{ℕ, List, slice_set, Option, Some}
use Rattle.std.specs.Borrow.{Fml, RattleType, MutBor, Lends}
use Rattle.raw_block.specs.declared.places.Places.{Places}
use Rattle.raw_block.specs.contracts.places.Places.{the_row}

abbrev pub with_held : {X : Type 0} → Places X → List (Option X) → Places X
with_held places held = record { mark = places.mark; at = places.at; held = held }

abbrev pub lends_place : (R : RattleType) → MutBor (Places R.Denot) → ℕ → MutBor R.Denot → Fml
lends_place R places place lent =
    Lends (the_row R) R places lent (λ value. with_held places.now (slice_set places.now.held place (Some value)))
