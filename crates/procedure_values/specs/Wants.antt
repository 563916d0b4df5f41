-- What a host wants of a link (our choice): each kind at most once, in order.
use Rattle.std.specs.Prelude.{⊤, ℕ, ◌+◌, List, [], ◌∷◌, if◌then◌else◌, ◌≤◌, Option, position, Bool, is_some, Some, None, remove, ◌++◌, slice_set}
use Rattle.std.specs.List.{All}
use Rattle.ble_base.specs.declared.procedure_kinds.Kind.{Kind}
use Rattle.procedure_values.specs.declared.asks.Ask.{Ask}
use Rattle.procedure_values.specs.declared.asks.Ask.TheVariants.{Update, Length}
use Rattle.procedure_values.specs.Values.{IsParams, IsPayloadMax}
use Rattle.procedure_values.specs.Asks.{kind_of_ask, is_same_kind}

-- the values of an ask are in their ranges
abbrev pub IsAsk : Ask → Type 0
IsAsk (Update interval latency timeout) = IsParams (record { interval = interval; latency = latency; timeout = timeout })
IsAsk (Length tx) = IsPayloadMax tx
IsAsk other = ⊤

-- how many asks are of a kind
abbrev pub count_of : Kind → List Ask → ℕ
count_of kind [] = 0
count_of kind (ask ∷ asks) = (if is_same_kind (kind_of_ask ask) kind then 1 else 0) + count_of kind asks

pub record IsWants (asks : List Ask) : Type 0 where
  pub once : (kind : Kind) → count_of kind asks ≤ 1
  pub in_range : All IsAsk asks

-- ---- what is wanted, by kind

-- the place of a kind among what the host wants
abbrev pub place_of : Kind → List Ask → Option ℕ
place_of kind wanted = position (λ ask. is_same_kind (kind_of_ask ask) kind) wanted

abbrev pub is_wanted : Kind → List Ask → Bool
is_wanted kind wanted = is_some (place_of kind wanted)

abbrev pub without_place : Option ℕ → List Ask → List Ask
without_place None wanted = wanted
without_place (Some place) wanted = remove wanted place

-- an ask takes the place of one of its kind, which only a map can do, or comes last
abbrev pub wanted_at : Option ℕ → Ask → List Ask → List Ask
wanted_at None ask wanted = wanted ++ ask ∷ []
wanted_at (Some place) ask wanted = slice_set wanted place ask

abbrev pub wanted_with : Ask → List Ask → List Ask
wanted_with ask wanted = wanted_at (place_of (kind_of_ask ask) wanted) ask wanted
