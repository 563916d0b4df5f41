-- A journal up to a place between two turns of a run has one history.
use Rattle.std.proofs.Common.{◌≡◌, ◌⊎◌, inl, inr, ℕ, ◌+◌, ◌<◌, ◌≤◌, Bool, List, [], ◌∷◌, ◌++◌, length, fold, refl, sym, ap, ◌∙◌, arith}
use Rattle.std.proofs.lemmas.List.{append-nil}
use Rattle.std.proofs.lemmas.List.Sums.{fold-append}
use Rattle.journal.specs.declared.entries.Entry.{Entry}
use Rattle.run_model.specs.Entries.{IsBetweenTurns, IsHistoryBefore}
use Rattle.run_model.specs.History.{Event, TurnBegan, HostFed, Called, Noted, Transmitted, turns_begun, turns_in}
use Rattle.run_model.specs.Journal.{journal_of}
use Rattle.run_model.specs.Readers.{turns_of}
use Rattle.run_model.specs.Run.{Given}
use Rattle.run_model.proofs.Fates.{turns_are}

-- of two fronts of one list, one is a front of the other
record IsFront (one other after rest : List Event) : Type 0 where
  pub more : List Event
  pub is : other ≡ one ++ more
  pub left : after ≡ more ++ rest

one_front : (one other after rest : List Event) → one ++ after ≡ other ++ rest
    → IsFront one other after rest ⊎ IsFront other one rest after
one_front [] other after rest same = inl (record { more = other; is = refl; left = same })
one_front (event ∷ one) [] after rest same = inr (record { more = event ∷ one; is = refl; left = sym same })
one_front (event ∷ one) (first ∷ other) after rest same = by_rest (one_front one other after rest cc)
  where
    heads : event ≡ first
    heads = cc

    by_rest : IsFront one other after rest ⊎ IsFront other one rest after
        → IsFront (event ∷ one) (first ∷ other) after rest ⊎ IsFront (first ∷ other) (event ∷ one) rest after
    by_rest (inl front) =
        inl (record {
          more = front.more;
          is = rw heads (ap (λ (events : List Event). first ∷ events) front.is);
          left = front.left;
        })
    by_rest (inr front) =
        inr (record {
          more = front.more;
          is = rw heads (ap (λ (events : List Event). first ∷ events) front.is);
          left = front.left;
        })

turns_grow : (start : ℕ) (events : List Event) → start ≤ fold (λ count event. count + turns_in event) start events
turns_grow start [] = omega arith
turns_grow start (event ∷ events) = omega (arith, turns_grow (start + turns_in event) events)

-- a further turn is counted
turn_counted : (before more : List Event) (slot : ℕ) (radios : List Bool)
    → turns_begun before < turns_begun (before ++ TurnBegan slot radios ∷ more)
unfolding turns_begun
turn_counted before more slot radios =
    let count = λ (n : ℕ) (event : Event). n + turns_in event in
    omega (
      arith,
      fold-append count 0 before (TurnBegan slot radios ∷ more),
      turns_grow (fold count 0 before + 1) more,
    )

-- between two turns nothing that comes leaves the journal as it is
nothing_more : (before more rest : List Event) → IsBetweenTurns (more ++ rest)
    → journal_of (before ++ more) ≡ journal_of before
    → more ≡ []
nothing_more before [] rest between same = refl
nothing_more before (TurnBegan slot radios ∷ more) rest between same =
    absurd (omega (
      arith,
      turn_counted before more slot radios,
      turns_are before,
      turns_are (before ++ TurnBegan slot radios ∷ more),
      ap (λ (entries : List Entry). length (turns_of entries)) same,
    ))
nothing_more before (HostFed station octets ∷ more) rest between same = absurd between
nothing_more before (Called station step ∷ more) rest between same = absurd between
nothing_more before (Noted station note ∷ more) rest between same = absurd between
nothing_more before (Transmitted station channel octets hearings ∷ more) rest between same = absurd between

front_is_whole : (given : Given) (journal : List Entry) (one other : List Event)
    (first : IsHistoryBefore given journal one) (second : IsHistoryBefore given journal other)
    → IsFront one other first.after second.after
    → one ≡ other
front_is_whole given journal one other first second front =
    let same : journal_of (one ++ front.more) ≡ journal_of one =
    ap journal_of (sym front.is) ∙ sym second.front_is ∙ first.front_is in
    let none = nothing_more one front.more second.after (rw front.left at first.between) same in
    sym (front.is ∙ ap (λ (events : List Event). one ++ events) none ∙ append-nil one)

pub one_place : (given : Given) (journal : List Entry) (one other : List Event)
    → IsHistoryBefore given journal one → IsHistoryBefore given journal other
    → one ≡ other
one_place given journal one other first second =
    by_front (one_front one other first.after second.after (sym first.is_at ∙ second.is_at))
  where
    by_front : IsFront one other first.after second.after ⊎ IsFront other one second.after first.after → one ≡ other
    by_front (inl front) = front_is_whole given journal one other first second front
    by_front (inr front) = sym (front_is_whole given journal other one second first front)
