-- What was written grows part by part.
use Rattle.std.proofs.Common.{◌≡◌, ℕ, List, [], ◌++◌, Option, Some, None, Result, Ok, Err, refl, sym, ap, subst, inl, inr, arith, ◌∙◌, append-nil, append_assoc}
use Rattle.std.specs.Result.{IsErrAnd}
use Rattle.outside.specs.declared.sink.SinkFault.{SinkFault}
use Rattle.outside.specs.declared.sink.SinkFault.TheVariants.{Failed, Memory}
use Rattle.outside.specs.Growth.{HasGrownBy, HasGrownByPrefix}
use Rattle.journal_tool.specs.Writing.{IsWritten, Says}

grew_by_none : (old : Option (List ℕ)) → HasGrownBy old old []
grew_by_none None = refl
grew_by_none (Some written) = ap Some (sym (append-nil written))

grew_more : (old now new : Option (List ℕ)) (front more : List ℕ)
    → HasGrownBy old now front → HasGrownBy now new more → HasGrownBy old new (front ++ more)
grew_more None now new front more before then = subst (λ o. HasGrownBy o new more) before then
grew_more (Some written) now new front more before then =
    subst (λ o. HasGrownBy o new more) before then ∙ ap Some (append_assoc written front more)

-- a front, and then a prefix of what follows it
grew_part : (old now new : Option (List ℕ)) (front more : List ℕ)
    → HasGrownBy old now front → HasGrownByPrefix now new more → HasGrownByPrefix old new (front ++ more)
grew_part old now new front more before part = (
  front ++ part.0,
  (part.1.0, append_assoc front part.0 part.1.0 ∙ ap (λ xs. front ++ xs) part.1.1),
  grew_more old now new front part.0 before part.2,
)

-- a prefix of a front
grew_less : (old new : Option (List ℕ)) (front more : List ℕ) → HasGrownByPrefix old new front → HasGrownByPrefix old new (front ++ more)
grew_less old new front more part = (
  part.0,
  (part.1.0 ++ more, sym (append_assoc part.0 part.1.0 more) ∙ ap (λ xs. xs ++ more) part.1.1),
  part.2,
)

module _ {Sink : Type 0} {written : Sink → Option (List ℕ)} {faults : Sink → ℕ} {is_reliable wants_memory : Sink → Type 0} where
  -- nothing was written
  pub written_none : (sink : Sink) → IsWritten written faults is_reliable wants_memory sink sink (Ok tt) []
  written_none sink = record {
    ok = grew_by_none (written sink);
    err = tt;
    failed = λ no. absurd (cc no);
    memory = λ no. absurd (cc no);
    counts = omega arith;
    stays_reliable = λ is. is;
    same_memory = λ wants. wants;
  }

  -- out of memory before anything was written
  pub written_nothing : (sink : Sink) (octets : List ℕ) → wants_memory sink → IsWritten written faults is_reliable wants_memory sink sink (Err Memory) octets
  written_nothing sink octets wants = record {
    ok = tt;
    err = ([], (octets, refl), grew_by_none (written sink));
    failed = λ no. absurd (cc no);
    memory = λ is. wants;
    counts = omega arith;
    stays_reliable = λ is. is;
    same_memory = λ wants. wants;
  }

  -- a part was written, and then a further one or a prefix of it
  pub written_then : {first middle last : Sink} {result : Result (Unit {0}) SinkFault} {front back : List ℕ}
      → IsWritten written faults is_reliable wants_memory first middle (Ok tt) front
      → IsWritten written faults is_reliable wants_memory middle last result back
      → IsWritten written faults is_reliable wants_memory first last result (front ++ back)
  written_then {first = first} {middle = middle} {last = last} {result = Ok done} {front = front} {back = back} before then = record {
    ok = grew_more (written first) (written middle) (written last) front back before.ok then.ok;
    err = tt;
    failed = λ no. absurd (cc no);
    memory = λ no. absurd (cc no);
    counts = omega (arith, before.counts, then.counts);
    stays_reliable = λ is. then.stays_reliable (before.stays_reliable is);
    same_memory = λ wants. before.same_memory (then.same_memory wants);
  }
  written_then {first = first} {middle = middle} {last = last} {result = Err e} {front = front} {back = back} before then = record {
    ok = tt;
    err = grew_part (written first) (written middle) (written last) front back before.ok then.err;
    failed = λ is.
        let fault = then.failed is in
        let rose = fault.0 in
        (omega (arith, before.counts, rose), λ reliable. fault.1 (before.stays_reliable reliable));
    memory = λ is. before.same_memory (then.memory is);
    counts = omega (arith, before.counts, then.counts);
    stays_reliable = λ is. then.stays_reliable (before.stays_reliable is);
    same_memory = λ wants. before.same_memory (then.same_memory wants);
  }

  -- a part was not written, and nothing after it
  pub written_no_more : {first last : Sink} {fault : SinkFault} {front : List ℕ} (back : List ℕ)
      → IsWritten written faults is_reliable wants_memory first last (Err fault) front
      → IsWritten written faults is_reliable wants_memory first last (Err fault) (front ++ back)
  written_no_more {first = first} {last = last} {front = front} back part = record {
    ok = tt;
    err = grew_less (written first) (written last) front back part.err;
    failed = part.failed;
    memory = part.memory;
    counts = part.counts;
    stays_reliable = part.stays_reliable;
    same_memory = part.same_memory;
  }

  -- what holds of a fault holds of what hands it on
  pub written_handed_on : {first last : Sink} {result : Result (Unit {0}) SinkFault} {fault : SinkFault} {octets : List ℕ}
      → IsErrAnd result (λ other. other ≡ fault) → IsWritten written faults is_reliable wants_memory first last (Err fault) octets
      → IsWritten written faults is_reliable wants_memory first last result octets
  written_handed_on {result = Ok done} is part = absurd is
  written_handed_on {first = first} {last = last} {result = Err e} {fault = fault} {octets = octets} is part =
      rw is part

  -- a line that was written whole, or a prefix of it, is said
  pub is_said : {old new : Sink} {result : Result (Unit {0}) SinkFault} {octets : List ℕ}
      → IsWritten written faults is_reliable wants_memory old new result octets → Says written faults wants_memory old new octets
  is_said {result = Ok done} put = inl put.ok
  is_said {result = Err Failed} put = inr (put.err, inl (put.failed refl).0)
  is_said {result = Err Memory} put = inr (put.err, inr (put.memory refl))
