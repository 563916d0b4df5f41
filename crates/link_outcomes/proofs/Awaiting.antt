-- Notes of an end that awaits the answer to a procedure that it began, and those in which it is answered.
use Rattle.std.proofs.Common.{◌≡◌, ℕ, ◌==◌, ◌&&◌, ◌||◌, not, Bool, true, false, List, [], ◌∷◌, ◌++◌, fold, Some, eqb-true, refl, sym, ap, ◌∙◌}
use Rattle.std.specs.List.{list_any}
use Rattle.std.proofs.lemmas.Bool.{and_from, and_parts, or_parts}
use Rattle.std.proofs.lemmas.List.Sums.{fold-append}
use Rattle.ble_base.specs.declared.notes.Note.{Note}
use Rattle.ble_base.specs.declared.notes.Note.TheVariants.{Began, Done, Refused, Sent, Took}
use Rattle.ble_base.specs.declared.procedure_kinds.Kind.{Kind}
use Rattle.data_pdu.specs.Reading.{ctrl_of}
use Rattle.data_pdu.specs.declared.ctrl.CtrlRead.{CtrlRead}
use Rattle.exclusive_stages.specs.Kinds.{kind_of}
use Rattle.exclusive_stages.specs.Pdus.{is_kind}
use Rattle.exclusive_stages.specs.declared.pdus.Exclusive.{Exclusive}
use Rattle.exclusive_stages.specs.declared.pdus.Exclusive.TheVariants.{Map, Phy, Request, Update}
use Rattle.link_model.specs.procedure_values.Asks.{is_same_kind}
use Rattle.link_procedures.specs.Running.{runs_after}
use Rattle.link_procedures.proofs.Seen.{kind_is, same_kind}
use Rattle.link_outcomes.specs.Answered.{IsAnsweredIn, begins, ends, kind_answered, kind_begun}

-- ---- PDUs

abbrev pub opens : Exclusive → ℕ → List ℕ → Bool
opens q llid body = (llid == 3) && is_kind (kind_begun (ctrl_of body)) q

abbrev pub answers : Exclusive → CtrlRead → Bool
answers q read = is_kind (kind_answered read) q

-- ---- whether an end awaits the answer to a procedure after one more note

abbrev pub waits_after : Exclusive → Bool → Note → Bool
waits_after q waits (Sent handle count llid body) = waits || opens q llid body.items
waits_after q waits (Took handle count llid body) = waits && not ((llid == 3) && answers q (ctrl_of body.items))
waits_after q waits (Began handle kind) = waits && not (is_same_kind (kind_of q) kind)
waits_after q waits note = waits

-- a procedure is done where it runs, and no answer is awaited
abbrev pub is_right : Exclusive → Bool → Bool → Note → Bool
is_right q runs waits (Done handle kind) = not (is_same_kind (kind_of q) kind) || (runs && not waits)
is_right q runs waits note = true

abbrev pub all_right : Exclusive → Bool → Bool → List Note → Bool
all_right q runs waits [] = true
all_right q runs waits (note ∷ notes) =
    is_right q runs waits note && all_right q (runs_after (kind_of q) runs note) (waits_after q waits note) notes

-- after a list of notes
abbrev pub runs_in : Exclusive → Bool → List Note → Bool
runs_in q runs notes = fold (runs_after (kind_of q)) runs notes

abbrev pub waits_in : Exclusive → Bool → List Note → Bool
waits_in q waits notes = fold (waits_after q) waits notes

pub right_more : (q : Exclusive) (notes more : List Note) (runs waits : Bool) → all_right q runs waits notes ≡ true
    → all_right q (runs_in q runs notes) (waits_in q waits notes) more ≡ true → all_right q runs waits (notes ++ more) ≡ true
right_more q [] more runs waits one other = other
right_more q (note ∷ notes) more runs waits one other =
    let r = runs_after (kind_of q) runs note in
    let w = waits_after q waits note in
    let parts = and_parts (is_right q runs waits note) (all_right q r w notes) one in
    and_from (is_right q runs waits note) (all_right q r w (notes ++ more)) parts.0 (right_more q notes more r w parts.1 other)

right_at : (q : Exclusive) (notes more : List Note) (note : Note) (runs waits : Bool) → all_right q runs waits (notes ++ note ∷ more) ≡ true
    → is_right q (runs_in q runs notes) (waits_in q waits notes) note ≡ true
right_at q [] more note runs waits all =
    (and_parts (is_right q runs waits note) (all_right q (runs_after (kind_of q) runs note) (waits_after q waits note) more) all).0
right_at q (first ∷ notes) more note runs waits all =
    let r = runs_after (kind_of q) runs first in
    let w = waits_after q waits first in
    right_at q notes more note r w (and_parts (is_right q runs waits first) (all_right q r w (notes ++ note ∷ more)) all).1

-- ---- an answer that is awaited no more was taken

record IsTakenIn (q : Exclusive) (notes : List Note) : Type 0 where
  earlier : List Note
  handle : ℕ
  count : ℕ
  body : List ℕ
  later : List Note
  notes_are : notes ≡ earlier ++ Took handle count 3 (record { items = body }) ∷ later
  is_answer : kind_answered (ctrl_of body) ≡ Some q

later_on : (q : Exclusive) (note : Note) (notes : List Note) → IsTakenIn q notes → IsTakenIn q (note ∷ notes)
later_on q note notes taken = record {
  earlier = note ∷ taken.earlier;
  handle = taken.handle;
  count = taken.count;
  body = taken.body;
  later = taken.later;
  notes_are = ap (λ (more : List Note). note ∷ more) taken.notes_are;
  is_answer = taken.is_answer;
}

here : (q : Exclusive) (handle count llid : ℕ) (body : List ℕ) (notes : List Note) → ((llid == 3) && answers q (ctrl_of body)) ≡ true
    → IsTakenIn q (Took handle count llid (record { items = body }) ∷ notes)
here q handle count llid body notes is =
    let parts = and_parts (llid == 3) (answers q (ctrl_of body)) is in
    record {
      earlier = [];
      handle = handle;
      count = count;
      body = body;
      later = notes;
      notes_are = ap (λ (n : ℕ). Took handle count n (record { items = body }) ∷ notes) (eqb-true llid 3 parts.0);
      is_answer = same_kind (kind_answered (ctrl_of body)) q parts.1;
    }

here_or_later : (q : Exclusive) (handle count llid : ℕ) (body : List ℕ) (notes : List Note)
    → (waits_in q true notes ≡ false → IsTakenIn q notes) → waits_in q (not ((llid == 3) && answers q (ctrl_of body))) notes ≡ false
    → IsTakenIn q (Took handle count llid (record { items = body }) ∷ notes)
here_or_later q handle count llid body notes rest = by ((llid == 3) && answers q (ctrl_of body)) refl
  where
    by : (b : Bool) → ((llid == 3) && answers q (ctrl_of body)) ≡ b → waits_in q (not b) notes ≡ false
        → IsTakenIn q (Took handle count llid (record { items = body }) ∷ notes)
    by true it is = here q handle count llid body notes it
    by false it is = later_on q (Took handle count llid (record { items = body })) notes (rest is)

taken : (q : Exclusive) (notes : List Note) → list_any (begins (kind_of q)) notes ≡ false → waits_in q true notes ≡ false → IsTakenIn q notes
taken q [] none is = absurd cc
taken q (Took handle count llid body ∷ notes) none is =
    here_or_later q handle count llid body.items notes (λ over. taken q notes none over) is
taken q (Began handle kind ∷ notes) none is =
    let parts = or_parts (is_same_kind (kind_of q) kind) (list_any (begins (kind_of q)) notes) none in
    later_on q (Began handle kind) notes (taken q notes parts.1 (ap (λ (b : Bool). waits_in q (not b) notes) (sym parts.0) ∙ is))
taken q (note ∷ notes) none is = later_on q note notes (taken q notes none is)

-- ---- a procedure that runs did not end

record RunsOn (kind : Kind) (runs : Bool) (notes : List Note) : Type 0 where
  ran : runs ≡ true
  none : list_any (ends kind) notes ≡ false

not_true : (b : Bool) → not b ≡ true → b ≡ false
not_true true is = absurd cc
not_true false is = refl

either_false : (a b : Bool) → b ≡ false → (a || b) ≡ true → a ≡ true
either_false true b none is = refl
either_false false true none is = absurd cc
either_false false false none is = absurd cc

stopped : (kind other : Kind) (runs : Bool) (notes : List Note) → RunsOn kind (runs && not (is_same_kind kind other)) notes
    → (runs ≡ true) × ((is_same_kind kind other || list_any (ends kind) notes) ≡ false)
stopped kind other runs notes on =
    let parts = and_parts runs (not (is_same_kind kind other)) on.ran in
    (parts.0, λ i. not_true (is_same_kind kind other) parts.1 i || on.none i)

runs_on : (kind : Kind) (notes : List Note) (runs : Bool) → list_any (begins kind) notes ≡ false → fold (runs_after kind) runs notes ≡ true
    → RunsOn kind runs notes
runs_on kind [] runs none is = record { ran = is; none = refl }
runs_on kind (Began handle other ∷ notes) runs none is =
    let parts = or_parts (is_same_kind kind other) (list_any (begins kind) notes) none in
    let on = runs_on kind notes (runs || is_same_kind kind other) parts.1 is in
    record { ran = either_false runs (is_same_kind kind other) parts.0 on.ran; none = on.none }
runs_on kind (Done handle other ∷ notes) runs none is =
    let on = stopped kind other runs notes (runs_on kind notes (runs && not (is_same_kind kind other)) none is) in
    record { ran = on.0; none = on.1 }
runs_on kind (Refused handle other code ∷ notes) runs none is =
    let on = stopped kind other runs notes (runs_on kind notes (runs && not (is_same_kind kind other)) none is) in
    record { ran = on.0; none = on.1 }
runs_on kind (note ∷ notes) runs none is =
    let on = runs_on kind notes runs none is in record { ran = on.ran; none = on.none }

-- ---- so a procedure that is done was answered

itself : (q : Exclusive) → is_same_kind (kind_of q) (kind_of q) ≡ true
itself Update = refl
itself Request = refl
itself Map = refl
itself Phy = refl

or_true : (b : Bool) → (b || true) ≡ true
or_true true = refl
or_true false = refl

pub is_answered : (q : Exclusive) (start between later : List Note) (handle other count : ℕ) (body : List ℕ)
    → all_right q false false (start ++ Sent handle count 3 (record { items = body }) ∷ between ++ Done other (kind_of q) ∷ later) ≡ true
    → kind_begun (ctrl_of body) ≡ Some q → list_any (begins (kind_of q)) between ≡ false → IsAnsweredIn q between
is_answered q start between later handle other count body right begun none =
    let sent = Sent handle count 3 (record { items = body }) in
    let runs = runs_in q false start in
    let waits = waits_in q false start in
    let at = right_at q (start ++ sent ∷ between) later (Done other (kind_of q)) false false right in
    let done : (runs_in q runs between && not (waits_in q (waits || is_kind (kind_begun (ctrl_of body)) q) between)) ≡ true =
    (λ i. not (sym (itself q) i)
    || (sym (fold-append (runs_after (kind_of q)) false start (sent ∷ between)) i
    && not (sym (fold-append (waits_after q) false start (sent ∷ between)) i))) ∙ at in
    let parts = and_parts (runs_in q runs between) (not (waits_in q (waits || is_kind (kind_begun (ctrl_of body)) q) between)) done in
    let awaits : (waits || is_kind (kind_begun (ctrl_of body)) q) ≡ true = (λ i. waits || kind_is (kind_begun (ctrl_of body)) q begun i) ∙ or_true waits in
    let over = ap (λ (w : Bool). waits_in q w between) (sym awaits) ∙ not_true _ parts.1 in
    let it = taken q between none over in
    record {
      earlier = it.earlier;
      handle = it.handle;
      count = it.count;
      body = it.body;
      later = it.later;
      notes_are = it.notes_are;
      answers = it.is_answer;
      goes_on = (runs_on (kind_of q) between runs none parts.0).none;
    }
