-- The encryption that a central begins is the first that its host wants.
use Rattle.std.proofs.Common.{◌≡◌, ℕ, ◌<◌, length, Bool, true, false, List, Option, Some, None, get_or, refl, sym, ap, ◌∙◌, arith}
use Rattle.std.specs.List.{position, position_or_len}
use Rattle.std.specs.Prelude.{slice_get, unwrap_or}
use Rattle.std.proofs.lemmas.List.Quantifiers.{position-Some}
use Rattle.std.proofs.lemmas.List.Sums.{position_or_len_is}
use Rattle.std.proofs.lemmas.Option.{unwrap_or-slice_get}
use Rattle.ble_base.specs.declared.procedure_kinds.Kind.TheVariants.{Encrypt as encrypt_kind}
use Rattle.procedures.specs.procedure_values.declared.asks.Ask.{Ask}
use Rattle.procedures.specs.procedure_values.declared.asks.Ask.TheVariants.{Encrypt}
use Rattle.procedures.specs.procedure_values.Asks.{kind_of_ask}
use Rattle.procedures.specs.Beginning.{ask_at, begin_at, begin_step, may_begin, place_to_begin}
use Rattle.procedures.specs.Table.{TableFacts}
use Rattle.keyed_control.specs.phased_control.Phased.{ask_begun, is_encrypt}
use Rattle.phased_end.specs.Moves.{is_encryption}

-- two tests of which one passes wherever the other does have one first place, where both pass
module _ {A : Type 0} (p q : A → Bool) where
  same_place : (xs : List A) (place : ℕ) (x : A) → position p xs ≡ Some place → slice_get xs place ≡ Some x → q x ≡ true
      → ((y : A) → p y ≡ false → q y ≡ false) → Some place ≡ position q xs
  same_place xs place x at read passes less =
      let facts = position-Some p xs place x at in
      let here : get_or xs place x ≡ x = sym (unwrap_or-slice_get xs place x) ∙ ap (λ (o : Option A). unwrap_or o x) read in
      let within : place < length xs = facts.0 in
      let first : position_or_len q xs ≡ place =
      position_or_len_is q xs place x (omega (arith, within)) (λ k below. less (get_or xs k x) (facts.2 k below)) (λ _. ap q here ∙ passes) in
      rw first (grind (arith, within))

-- ---- where an encryption begins

false_true : {X : Type 0} → ◌≡◌ {A = Bool} false true → X
false_true e = absurd (cc)

other_fails : (f : TableFacts) (quiet : Bool) → may_begin f quiet encrypt_kind ≡ true → (y : Ask) → may_begin f quiet (kind_of_ask y) ≡ false → is_encryption y ≡ false
other_fails f quiet may (Encrypt rand ediv ltk skd_m iv_m) fails = false_true (sym fails ∙ may)
other_fails f quiet may y fails = refl

begun_is : (f : TableFacts) (slot : ℕ) (quiet : Bool) (place : Option ℕ) (ask : Option Ask) → place_to_begin f quiet ≡ place → ask_at place f.wanted ≡ ask
    → is_encrypt (begin_at f slot place ask).1 ≡ true → place ≡ position is_encryption f.wanted
begun_is f slot quiet None ask at is begins = absurd (cc)
begun_is f slot quiet (Some place) None at is begins = absurd (cc)
begun_is f slot quiet (Some place) (Some (Encrypt rand ediv ltk skd_m iv_m)) at is begins =
    let x = Encrypt rand ediv ltk skd_m iv_m in
    let p = λ (y : Ask). may_begin f quiet (kind_of_ask y) in
    let facts = position-Some p f.wanted place x at in
    let here : get_or f.wanted place x ≡ x = sym (unwrap_or-slice_get f.wanted place x) ∙ ap (λ (o : Option Ask). unwrap_or o x) is in
    let may : may_begin f quiet encrypt_kind ≡ true = sym (ap p here) ∙ facts.1 in
    same_place p is_encryption f.wanted place x at is refl (other_fails f quiet may)
begun_is f slot quiet (Some place) (Some ask) at is begins = absurd (cc)

pub asked_first : (f : TableFacts) (slot : ℕ) (quiet : Bool) → is_encrypt (begin_step f slot quiet).1 ≡ true
    → ask_at (position is_encryption f.wanted) f.wanted ≡ ask_begun f quiet
asked_first f slot quiet begins =
    ap (λ (place : Option ℕ). ask_at place f.wanted) (sym (begun_is f slot quiet (place_to_begin f quiet) (ask_at (place_to_begin f quiet) f.wanted) refl refl begins))
