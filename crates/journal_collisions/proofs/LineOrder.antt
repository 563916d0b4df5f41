-- The call of a line comes after that of an earlier line, or is the same.
use Rattle.std.proofs.Common.{◌≡◌, ℕ, ◌⊎◌, inl, inr, List, [], ◌∷◌, ◌++◌, length, length-append, map, refl, sym, ap, ◌∙◌, append_assoc, arith}
use Rattle.ble_base.specs.declared.notes.Note.{Note}
use Rattle.journal_endings.specs.controller_model.Step.{Step}
use Rattle.journal.specs.declared.entries.Entry.{Entry}
use Rattle.journal_endings.specs.journal_indications.journal_data.run_model.History.{Called, Event, Noted}
use Rattle.journal_endings.specs.journal_indications.journal_data.run_model.Journal.{journal_from, journal_of}
use Rattle.journal_endings.specs.journal_indications.journal_data.run_model.Links.{links_of}
use Rattle.journal_endings.specs.journal_indications.journal_data.run_model.NoteLines.{IsLineInCall, LinkLine}
use Rattle.journal_endings.specs.journal_indications.journal_data.run_model.Run.{Given}
use Rattle.journal_endings.proofs.journal_indications.journal_data.run_model.Parts.{journal_more}
use Rattle.journal_collisions.proofs.NextLines.{no_call}

-- ---- the front of two lists

data IsSplit (history more before rest : List Event) : Type 0 where
  Inside : (later : List Event) → history ≡ before ++ later → IsSplit history more before rest
  Beyond : (mid : List Event) → before ≡ history ++ mid → IsSplit history more before rest

split : (history more before rest : List Event) → history ++ more ≡ before ++ rest → IsSplit history more before rest
split [] more before rest is = Beyond before refl
split (event ∷ history) more [] rest is = Inside (event ∷ history) refl
split (event ∷ history) more (other ∷ before) rest is =
    let head : event ≡ other = cc in
    let tails : history ++ more ≡ before ++ rest = cc in by head (split history more before rest tails)
  where
    by : event ≡ other → IsSplit history more before rest → IsSplit (event ∷ history) more (other ∷ before) rest
    by head (Inside later inside) = Inside later (λ i. head i ∷ inside i)
    by head (Beyond mid beyond) = Beyond mid (λ i. sym head i ∷ beyond i)

-- ---- calls

-- the events before a call are those before an earlier event, that event, and more
pub record HasMore (base other : List Event) (event : Event) : Type 0 where
  pub mid : List Event
  pub is : other ≡ base ++ event ∷ mid

record AreSame (base other : List Event) (event call : Event) : Type 0 where
  base_is : base ≡ other
  event_is : event ≡ call

-- no call comes after the last one
last_call : (base other rest : List Event) (event : Event) (own station : ℕ) (first step : Step) (notes : List Note) → event ≡ Called own first
    → other ++ Called station step ∷ map (Noted station) notes ≡ base ++ event ∷ rest
    → AreSame base other event (Called station step) ⊎ HasMore base other event
last_call [] [] rest event own station first step notes called is =
    let same : Called station step ≡ event = cc in inl (record { base_is = refl; event_is = sym same })
last_call (one ∷ base) [] rest event own station first step notes called is =
    let tails : map (Noted station) notes ≡ base ++ event ∷ rest = cc in
    no_call station own first notes base rest _ (tails ∙ ap (λ (e : Event). base ++ e ∷ rest) called)
last_call [] (one ∷ other) rest event own station first step notes called is =
    let head : one ≡ event = cc in inr (record { mid = other; is = ap (λ (e : Event). e ∷ other) head })
last_call (one ∷ base) (two ∷ other) rest event own station first step notes called is =
    let head : two ≡ one = cc in
    let tails : other ++ Called station step ∷ map (Noted station) notes ≡ base ++ event ∷ rest = cc in
    by head (last_call base other rest event own station first step notes called tails)
  where
    by : two ≡ one → AreSame base other event (Called station step) ⊎ HasMore base other event
        → AreSame (one ∷ base) (two ∷ other) event (Called station step) ⊎ HasMore (one ∷ base) (two ∷ other) event
    by head (inl same) = inl (record { base_is = λ i. sym head i ∷ same.base_is i; event_is = same.event_is })
    by head (inr more) = inr (record { mid = more.mid; is = λ i. head i ∷ more.is i })

-- of two lines the later one is of the same call, or of a later one
pub data AreInOrder (given : Given) (front after : List Entry) (line later : LinkLine) (call : IsLineInCall given front line)
    (next : IsLineInCall given after later) : Type 0 where
  InOneCall : call.base ≡ next.base → Called call.station call.step ≡ Called next.station next.step → AreInOrder given front after line later call next
  InLaterCall : (mid : List Event) → next.base ≡ call.base ++ Called call.station call.step ∷ mid → AreInOrder given front after line later call next

longer : (front more other : List Entry) (entry : Entry) (X : Type 0) → front ≡ (front ++ entry ∷ more) ++ other → X
longer front more other entry X is =
    let whole = ap (λ (xs : List Entry). length xs) is in
    let parts = length-append (front ++ entry ∷ more) other in
    let first = length-append front (entry ∷ more) in
    absurd (omega (arith, whole, parts, first))

module _ (given : Given) (front between : List Entry) (entry : Entry) (line later : LinkLine) (call : IsLineInCall given front line)
    (next : IsLineInCall given (front ++ entry ∷ between) later) where
  pub in_order : AreInOrder given front (front ++ entry ∷ between) line later call next
  in_order = by (split call.before (Noted call.station (line.note call.handle) ∷ call.rest) next.before
      (Noted next.station (later.note next.handle) ∷ next.rest) (sym call.is_at ∙ next.is_at))
    where
      found : AreSame call.base next.base (Called call.station call.step) (Called next.station next.step)
          ⊎ HasMore call.base next.base (Called call.station call.step)
          → AreInOrder given front (front ++ entry ∷ between) line later call next
      found (inl same) = InOneCall same.base_is same.event_is
      found (inr more) = InLaterCall more.mid more.is

      by : IsSplit call.before (Noted call.station (line.note call.handle) ∷ call.rest) next.before
          (Noted next.station (later.note next.handle) ∷ next.rest) → AreInOrder given front (front ++ entry ∷ between) line later call next
      by (Inside left inside) =
          longer front between (journal_from (links_of next.before) left) entry _
          (call.front_is ∙ ap journal_of inside ∙ journal_more next.before left
          ∙ ap (λ (xs : List Entry). xs ++ journal_from (links_of next.before) left) (sym next.front_is))
      by (Beyond mid beyond) =
          found (last_call call.base next.base (map (Noted call.station) call.earlier ++ mid) (Called call.station call.step) call.station next.station
          call.step next.step next.earlier refl
          (sym next.before_is ∙ beyond ∙ ap (λ (xs : List Event). xs ++ mid) call.before_is
          ∙ append_assoc call.base (Called call.station call.step ∷ map (Noted call.station) call.earlier) mid))
