-- The accept list stays a set of at most eight addresses.
use Rattle.std.proofs.Common.{◌≡◌, ℕ, ◌+◌, ◌<◌, ◌≤◌, Bool, true, false, cond, nat_le, if◌then◌else◌, not, ◌&&◌, ◌||◌, List, [], ◌∷◌, ◌++◌, length, refl, sym, ap, ◌∙◌, subst, arith, length-append}
use Rattle.std.proofs.lemmas.Slice.Eq.{bytes_eq-Decides}
use Rattle.std.proofs.lemmas.Bool.{and_parts}
use Rattle.std.proofs.lemmas.Bool.Decides.{same_from_decides, nat_tests}
use Rattle.std.specs.Bool.{beq}
use Rattle.std.specs.Cmp.Derive.{both_true}
use Rattle.std.specs.Str.{bytes_eq}
use Rattle.ble_base.specs.declared.addresses.Address.{Address}
use Rattle.scan_init.specs.Addresses.{is_same_address, is_listed, with_address, without_address, are_distinct, is_full_for, IsAcceptList}

-- ---- addresses are compared by their octets

beq_sym : (a b : Bool) → beq a b ≡ beq b a
beq_sym true true = refl
beq_sym true false = refl
beq_sym false true = refl
beq_sym false false = refl

bytes_eq_sym : (a b : List ℕ) → bytes_eq a b ≡ bytes_eq b a
bytes_eq_sym a b =
    let turned = bytes_eq-Decides b a in
    same_from_decides (bytes_eq a b) (bytes_eq b a) (bytes_eq-Decides a b) (λ e. sym (turned.0 e), λ e. turned.1 (sym e))

same_address_sym : (a b : Address) → is_same_address a b ≡ is_same_address b a
same_address_sym a b =
    ap (λ same. same && bytes_eq a.octets b.octets) (beq_sym a.random b.random)
    ∙ ap (λ same. beq b.random a.random && same) (bytes_eq_sym a.octets b.octets)

-- ---- an address more

or_assoc : (a b c : Bool) → (a || (b || c)) ≡ ((a || b) || c)
or_assoc true b c = refl
or_assoc false b c = refl

-- the list with one more address at its end has that and what it had
listed_push : (list : List Address) (last address : Address)
    → is_listed (list ++ last ∷ []) address ≡ (is_listed list address || is_same_address address last)
listed_push [] last address = or_end (is_same_address address last)
  where
    or_end : (a : Bool) → (a || false) ≡ a
    or_end true = refl
    or_end false = refl
listed_push (first ∷ list) last address =
    ap (λ rest. is_same_address address first || rest) (listed_push list last address)
    ∙ or_assoc (is_same_address address first) (is_listed list address) (is_same_address address last)

-- by the tests: the first is in the rest, the last is the first or turned, the last is in the rest, the rest is distinct
distinct_by : (in_rest same turned listed distinct more : Bool) → same ≡ turned → (not in_rest && distinct) ≡ true
    → (turned || listed) ≡ false → (distinct ≡ true → listed ≡ false → more ≡ true)
    → (not (in_rest || same) && more) ≡ true
distinct_by true same turned listed distinct more e h new rest = absurd cc
distinct_by false true true listed distinct more e h new rest = absurd cc
distinct_by false true false listed distinct more e h new rest = absurd cc
distinct_by false false true listed distinct more e h new rest = absurd cc
distinct_by false false false listed distinct more e h new rest = rest h new

pub distinct_push : (list : List Address) (last : Address) → are_distinct list ≡ true → is_listed list last ≡ false
    → are_distinct (list ++ last ∷ []) ≡ true
distinct_push [] last h new = refl
distinct_push (first ∷ list) last h new =
    ap (λ listed. not listed && are_distinct (list ++ last ∷ [])) (listed_push list last first)
    ∙ distinct_by (is_listed list first) (is_same_address first last) (is_same_address last first)
    (is_listed list last) (are_distinct list) (are_distinct (list ++ last ∷ [])) (same_address_sym first last) h new
    (λ d n. distinct_push list last d n)

pub set_push : (list : List Address) (last : Address) → IsAcceptList list → length list < 8 → is_listed list last ≡ false
    → IsAcceptList (list ++ last ∷ [])
set_push list last set room new = record {
  at_most_eight = omega (arith, length-append list (last ∷ []));
  distinct = distinct_push list last set.distinct new;
}

-- ---- an address less

or_left : (a b : Bool) → (a || b) ≡ false → a ≡ false
or_left true b h = h
or_left false b h = refl

or_right : (a b : Bool) → (a || b) ≡ false → b ≡ false
or_right true b h = absurd cc
or_right false b h = h

unlisted_by : (gone : Bool) (first address : Address) (rest : List Address)
    → is_same_address address first ≡ false → is_listed rest address ≡ false
    → is_listed (cond (not gone) (first ∷ rest) rest) address ≡ false
unlisted_by true first address rest other h = h
unlisted_by false first address rest other h = ap (λ same. same || is_listed rest address) other ∙ h

-- what is left of a list has nothing that the list does not have
unlisted_less : (list : List Address) (gone address : Address) → is_listed list address ≡ false
    → is_listed (without_address list gone) address ≡ false
unlisted_less [] gone address h = refl
unlisted_less (first ∷ list) gone address h =
    unlisted_by (is_same_address gone first) first address (without_address list gone)
    (or_left (is_same_address address first) (is_listed list address) h)
    (unlisted_less list gone address (or_right (is_same_address address first) (is_listed list address) h))

distinct_less_by : (gone : Bool) (first : Address) (rest : List Address)
    → is_listed rest first ≡ false → are_distinct rest ≡ true
    → are_distinct (cond (not gone) (first ∷ rest) rest) ≡ true
distinct_less_by true first rest new h = h
distinct_less_by false first rest new h = ap (λ listed. not listed && are_distinct rest) new ∙ h

not_true : (a : Bool) → not a ≡ true → a ≡ false
not_true true h = sym h
not_true false h = refl

pub distinct_less : (list : List Address) (gone : Address) → are_distinct list ≡ true
    → are_distinct (without_address list gone) ≡ true
distinct_less [] gone h = refl
distinct_less (first ∷ list) gone h =
    let both = and_parts (not (is_listed list first)) (are_distinct list) h in
    distinct_less_by (is_same_address gone first) first (without_address list gone)
    (unlisted_less list gone first (not_true (is_listed list first) both.0)) (distinct_less list gone both.1)

length_less_by : (gone : Bool) (first : Address) (rest : List Address) (n : ℕ) → length rest ≤ n
    → length (cond (not gone) (first ∷ rest) rest) ≤ n + 1
length_less_by true first rest n h = omega arith
length_less_by false first rest n h = omega arith

length_less : (list : List Address) (gone : Address) → length (without_address list gone) ≤ length list
length_less [] gone = omega arith
length_less (first ∷ list) gone =
    let rest = length_less_by (is_same_address gone first) first (without_address list gone) (length list) (length_less list gone) in
    omega (arith, rest)

pub set_less : (list : List Address) (gone : Address) → IsAcceptList list → IsAcceptList (without_address list gone)
set_less list gone set = record {
  at_most_eight = omega (arith, length_less list gone, set.at_most_eight);
  distinct = distinct_less list gone set.distinct;
}

-- ---- the list as a set

-- addresses of one type with the same octets are equal
pub equal_addresses : (a b : Address) → is_same_address a b ≡ true → a ≡ b
equal_addresses a b h =
    let both = and_parts (beq a.random b.random) (bytes_eq a.octets b.octets) h in
    let octets = (bytes_eq-Decides a.octets b.octets).0 both.1 in
    ap (λ random. record a { random = random }) (equal_bools a.random b.random both.0)
    ∙ ap (λ octets. record b { octets = octets }) octets
  where
    equal_bools : (x y : Bool) → beq x y ≡ true → x ≡ y
    equal_bools true true e = refl
    equal_bools true false e = sym e
    equal_bools false true e = e
    equal_bools false false e = refl

-- an address is equal to itself
same_itself : (a : Address) → is_same_address a a ≡ true
same_itself a = both_true (equal_itself a.random) ((bytes_eq-Decides a.octets a.octets).1 refl)
  where
    equal_itself : (x : Bool) → beq x x ≡ true
    equal_itself true = refl
    equal_itself false = refl

same_equal : (a b : Address) → a ≡ b → is_same_address a b ≡ true
same_equal a b e = subst (λ other. is_same_address a other ≡ true) e (same_itself a)

or_more : (listed same : Bool) → (same ≡ true → listed ≡ true) → listed ≡ (listed || same)
or_more true same h = refl
or_more false true h = h refl
or_more false false h = refl

added_by : (list : List Address) (address other : Address) (held : Bool) → is_listed list address ≡ held
    → is_listed (if held then list else list ++ address ∷ []) other ≡ (is_listed list other || is_same_address other address)
added_by list address other true e =
    or_more (is_listed list other) (is_same_address other address)
    (λ same. ap (is_listed list) (equal_addresses other address same) ∙ e)
added_by list address other false e = listed_push list address other

-- what is in the list with an address more
pub listed_with : (list : List Address) (address other : Address)
    → is_listed (with_address list address) other ≡ (is_listed list other || is_same_address other address)
listed_with list address other = added_by list address other (is_listed list address) refl

gone_first : (s listed : Bool) → (listed && not s) ≡ ((s || listed) && not s)
gone_first true true = refl
gone_first true false = refl
gone_first false listed = refl

other_first : (first s listed : Bool) → (first ≡ true → s ≡ true → ⊥) → (first || (listed && not s)) ≡ ((first || listed) && not s)
other_first true true listed h = absurd (h refl refl)
other_first true false listed h = refl
other_first false s listed h = refl

removed_by : (first gone other : Address) (rest : List Address) (listed same : Bool) → is_same_address gone first ≡ same
    → is_listed rest other ≡ (listed && not (is_same_address other gone))
    → is_listed (cond (not same) (first ∷ rest) rest) other ≡ ((is_same_address other first || listed) && not (is_same_address other gone))
removed_by first gone other rest listed true e less =
    let equal = equal_addresses gone first e in
    less ∙ gone_first (is_same_address other gone) listed
    ∙ ap (λ address. (is_same_address other address || listed) && not (is_same_address other gone)) equal
removed_by first gone other rest listed false e less =
    ap (λ in_rest. is_same_address other first || in_rest) less
    ∙ other_first (is_same_address other first) (is_same_address other gone) listed
    (λ here there.
    let equal = sym (equal_addresses other gone there) ∙ equal_addresses other first here in
    absurd (true_not_false (sym (same_equal gone first equal) ∙ e)))
  where
    true_not_false : true ≡ false → ⊥
    true_not_false h = cc

-- what is in the list with an address less
pub listed_without : (list : List Address) (address other : Address)
    → is_listed (without_address list address) other ≡ (is_listed list other && not (is_same_address other address))
listed_without [] address other = refl
listed_without (first ∷ list) address other =
    removed_by first address other (without_address list address) (is_listed list other) (is_same_address address first) refl
    (listed_without list address other)

room_by : (full listed : Bool) → (full && not listed) ≡ false → listed ≡ false → full ≡ false
room_by true true h e = e
room_by true false h e = h
room_by false listed h e = refl

set_by : (list : List Address) (address : Address) (held : Bool) → is_listed list address ≡ held → IsAcceptList list
    → is_full_for list address ≡ false → IsAcceptList (if held then list else list ++ address ∷ [])
set_by list address true e set room = set
set_by list address false e set room =
    let free = room_by (nat_le 8 (length list)) (is_listed list address) room e in
    set_push list address set (below_8 (length list) free) e
  where
    below_8 : (n : ℕ) → nat_le 8 n ≡ false → n < 8
    below_8 n free = grind (arith, nat_tests)

pub set_with : (list : List Address) (address : Address) → IsAcceptList list → is_full_for list address ≡ false
    → IsAcceptList (with_address list address)
set_with list address set room = set_by list address (is_listed list address) refl set room
