-- What was written grows part by part.
use Rattle.std.proofs.Common.{◌≡◌, ℕ, ◌≤◌, List, [], ◌++◌, Option, Some, None, Result, Ok, Err, refl, sym, ap, subst, inl, inr, arith, ◌∙◌, append-nil, append_assoc}
use Rattle.std.specs.Result.{IsErrAnd}
use Rattle.outside.specs.declared.sink.SinkFault.{SinkFault}
use Rattle.outside.specs.Count.{HasRisen}
use Rattle.outside.specs.Growth.{HasGrownBy, HasGrownByPrefix}
use Rattle.program.specs.Puts.{IsPut}

pub grew_by_none : (old : Option (List ℕ)) → HasGrownBy old old []
grew_by_none None = refl
grew_by_none (Some written) = ap Some (sym (append-nil written))

pub grew_more : (old now new : Option (List ℕ)) (front more : List ℕ)
    → HasGrownBy old now front → HasGrownBy now new more → HasGrownBy old new (front ++ more)
grew_more None now new front more before then = subst (λ o. HasGrownBy o new more) before then
grew_more (Some written) now new front more before then =
    subst (λ o. HasGrownBy o new more) before then ∙ ap Some (append_assoc written front more)

-- a front, and then a prefix of what follows it, which more follows
pub grew_part : (old now new : Option (List ℕ)) (front more rest whole : List ℕ)
    → HasGrownBy old now front → HasGrownByPrefix now new more → front ++ (more ++ rest) ≡ whole → HasGrownByPrefix old new whole
grew_part old now new front more rest whole before part parts =
    let prefix = part.0 in
    let left = part.1.0 in
    let is : prefix ++ left ≡ more = part.1.1 in (
      front ++ prefix,
      (
        left ++ rest,
        append_assoc front prefix (left ++ rest) ∙ ap (λ xs. front ++ xs) (sym (append_assoc prefix left rest) ∙ ap (λ xs. xs ++ rest) is) ∙ parts,
      ),
      grew_more old now new front prefix before part.2,
    )

pub rose_since : (first before now : ℕ) → first ≤ before → HasRisen before now → HasRisen first now
rose_since first before now le rose = omega arith

-- a part was put, and then a further one
pub put_then : {Sink : Type 0} {written : Sink → Option (List ℕ)} {faults : Sink → ℕ} {wants_memory : Sink → Type 0}
    {first middle last : Sink} {result : Result (Unit {0}) SinkFault} {front back : List ℕ}
    → IsPut written faults wants_memory first middle (Ok tt) front → IsPut written faults wants_memory middle last result back
    → IsPut written faults wants_memory first last result (front ++ back)
put_then {written = written} {faults = faults} {first = first} {middle = middle} {last = last} {result = Ok done} {front = front} {back = back} before then = record {
  ok = grew_more (written first) (written middle) (written last) front back before.ok then.ok;
  err = tt;
  fault = tt;
  counts = omega (arith, before.counts, then.counts);
  same_memory = λ wants. before.same_memory (then.same_memory wants);
}
put_then {written = written} {faults = faults} {first = first} {middle = middle} {last = last} {result = Err e} {front = front} {back = back} before then = record {
  ok = tt;
  err = grew_part (written first) (written middle) (written last) front back [] (front ++ back) before.ok then.err
      (ap (λ xs. front ++ xs) (append-nil back));
  fault = elim then.fault [
    | inl rose ↦ inl (rose_since (faults first) (faults middle) (faults last) before.counts rose)
    | inr wants ↦ inr (before.same_memory wants)
  ];
  counts = omega (arith, before.counts, then.counts);
  same_memory = λ wants. before.same_memory (then.same_memory wants);
}

-- a part was not put, and nothing after it
pub put_no_more : {Sink : Type 0} {written : Sink → Option (List ℕ)} {faults : Sink → ℕ} {wants_memory : Sink → Type 0}
    {first last : Sink} {fault : SinkFault} {front : List ℕ} (back : List ℕ)
    → IsPut written faults wants_memory first last (Err fault) front
    → IsPut written faults wants_memory first last (Err fault) (front ++ back)
put_no_more {written = written} {first = first} {last = last} {front = front} back part = record {
  ok = tt;
  err = grew_part (written first) (written first) (written last) [] front back (front ++ back) (grew_by_none (written first)) part.err refl;
  fault = part.fault;
  counts = part.counts;
  same_memory = part.same_memory;
}

-- what holds of a fault holds of what hands it on
pub put_handed_on : {Sink : Type 0} {written : Sink → Option (List ℕ)} {faults : Sink → ℕ} {wants_memory : Sink → Type 0}
    {first last : Sink} {result : Result (Unit {0}) SinkFault} {fault : SinkFault} {octets : List ℕ}
    → IsErrAnd result (λ other. other ≡ fault) → IsPut written faults wants_memory first last (Err fault) octets
    → IsPut written faults wants_memory first last result octets
put_handed_on {result = Ok done} is part = absurd is
put_handed_on {result = Err e} is part = record {
  ok = tt;
  err = part.err;
  fault = part.fault;
  counts = part.counts;
  same_memory = part.same_memory;
}
