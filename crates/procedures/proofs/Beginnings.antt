-- The first procedure that is wanted and may begin.
use Rattle.std.proofs.Common.{◌≡◌, ℕ, suc, ◌+◌, Bool, true, false, not, cond, ◌&&◌, List, [], ◌∷◌, length, Option, Some, None, nat_lt, refl, arith, ◌∙◌, ap}
use Rattle.std.specs.List.{position, position_or_len, find}
use Rattle.std.specs.Option.{option_map, is_none}
use Rattle.procedure_stages.specs.procedure_values.declared.asks.Ask.{Ask}
use Rattle.procedure_stages.specs.procedure_values.Asks.{kind_of_ask}
use Rattle.procedure_stages.specs.Kinds.{own_kind, begins, role_of}
use Rattle.procedures.specs.Table.{TableFacts}
use Rattle.procedure_stages.specs.Closing.{is_open}
use Rattle.procedures.specs.Beginning.{may_begin, place_to_begin, ask_at, begin_at, begin_step}
use Rattle.procedure_stages.specs.Collisions.{peer_lets}

lt_suc : (b : Bool) (n len m more : ℕ) → nat_lt n len ≡ b → m ≡ suc n → more ≡ suc len → nat_lt m more ≡ b
lt_suc true n len m more is next long = grind arith
lt_suc false n len m more is next long = grind arith

later_by : (b : Bool) (n m more : ℕ) (asks : List Ask) (first : Ask) → nat_lt n (length asks) ≡ b → nat_lt m more ≡ b → m ≡ suc n
    → ask_at (cond (nat_lt m more) (Some m) None) (first ∷ asks) ≡ ask_at (cond (nat_lt n (length asks)) (Some n) None) asks
later_by true n m more asks first is is' next = rw (is, is', next) refl
later_by false n m more asks first is is' next = rw (is, is') refl

found_by : (b : Bool) (first : Ask) (asks : List Ask) (n : ℕ) (rest : Option Ask)
    → ask_at (cond (nat_lt n (length asks)) (Some n) None) asks ≡ rest
    → ask_at (cond (nat_lt (cond (not b) (1 + n) 0) (length (first ∷ asks))) (Some (cond (not b) (1 + n) 0)) None) (first ∷ asks) ≡ cond b (Some first) rest
found_by true first asks n rest is =
    let less : nat_lt 0 (length (first ∷ asks)) ≡ true = grind arith in rw less refl
found_by false first asks n rest is =
    later_by (nat_lt n (length asks)) n (1 + n) (length (first ∷ asks)) asks first refl
    (lt_suc _ n (length asks) (1 + n) (length (first ∷ asks)) refl (omega arith) refl) (omega arith) ∙ is

-- the ask in the place of the first that passes is the first that passes
pub found : (test : Ask → Bool) (asks : List Ask) → ask_at (position test asks) asks ≡ find test asks
found test [] = refl
found test (first ∷ asks) = found_by (test first) first asks (position_or_len test asks) (find test asks) (found test asks)

begun_by : (f : TableFacts) (slot : ℕ) (place : Option ℕ) (ask : Option Ask) → (place ≡ None → ask ≡ None)
    → (begin_at f slot place ask).1 ≡ option_map kind_of_ask ask
begun_by f slot (Some place) (Some ask) h = refl
begun_by f slot (Some place) None h = refl
begun_by f slot None None h = refl
begun_by f slot None (Some ask) h = absurd (cc (h refl))

pub begun : (f : TableFacts) (slot : ℕ) (quiet : Bool)
    → (begin_step f slot quiet).1 ≡ option_map kind_of_ask (find (λ ask. may_begin f quiet (kind_of_ask ask)) f.wanted)
begun f slot quiet =
    begun_by f slot (place_to_begin f quiet) (ask_at (place_to_begin f quiet) f.wanted) (λ none. rw none refl)
    ∙ ap (option_map kind_of_ask) (found (λ ask. may_begin f quiet (kind_of_ask ask)) f.wanted)

none_found : (test : Ask → Bool) (asks : List Ask) → ((ask : Ask) → test ask ≡ false) → find test asks ≡ None
none_found test [] none = refl
none_found test (first ∷ asks) none = rw (none first) (none_found test asks none)

closed_by : (a b c d e : Bool) → c ≡ false → (a && b && c && d && e) ≡ false
closed_by true true c d e is = rw is refl
closed_by true false c d e is = refl
closed_by false b c d e is = refl

-- nothing begins where the link is to end
pub none_begun : (f : TableFacts) (slot : ℕ) (quiet : Bool) → is_open f.closing ≡ false → (begin_step f slot quiet).1 ≡ None
none_begun f slot quiet closed =
    begun f slot quiet ∙ ap (option_map kind_of_ask) (none_found (λ ask. may_begin f quiet (kind_of_ask ask)) f.wanted (λ ask. closed_by (is_none (own_kind f.progress)) quiet (is_open f.closing) (begins (role_of f.progress) (kind_of_ask ask)) (peer_lets f.progress (kind_of_ask ask)) closed))
