-- What the turns of a schedule are and feed.
use Rattle.std.proofs.Common.{◌≡◌, ℕ, zero, suc, ◌+◌, List, [], ◌∷◌, ◌++◌, length, take, refl, sym, ap, ◌∙◌, sum_by}
use Rattle.std.specs.Prelude.{map, Some}
use Rattle.std.proofs.lemmas.List.Sums.{sum_by-cons}
use Rattle.ble_base.specs.declared.roles.Side.{Side}
use Rattle.ble_base.specs.declared.roles.Side.TheVariants.{A, B}
use Rattle.journal.specs.declared.entries.Entry.{Entry}
use Rattle.radio_replay.specs.Script.{Script, Turn as ScriptTurn}
use Rattle.run_model.specs.Entries.{IsUpToDate}
use Rattle.run_model.specs.Feeding.{feed_total}
use Rattle.run_model.specs.Pair.{given_of, plan_of}
use Rattle.run_model.specs.Readers.{PairOpening, station_of, turns_from, turns_of}
use Rattle.run_model.specs.Run.{Plan}
use Rattle.journal_turns.specs.Scheduled.{AreAllTurns, AreFirstTurns, IsFed, begun_in, feed_of, stream_of}

-- ---- turns

record AreFirst (all some : List PairOpening) : Type 0 where
  pub later : List PairOpening
  pub are : all ≡ some ++ later

first_turns : (slot count : ℕ) (turns : List ScriptTurn) → AreFirst (turns_from slot turns) (turns_from slot (take count turns))
first_turns slot zero turns = record { later = turns_from slot turns; are = refl }
first_turns slot (suc count) [] = record { later = []; are = refl }
first_turns slot (suc count) (turn ∷ turns) =
    let first : PairOpening = record { slot = slot; a_on = turn.a_on; b_on = Some turn.b_on } in
    let rest = first_turns (slot + 1) count turns in
    record { later = rest.later; are = ap (λ xs. first ∷ xs) rest.are }

pub are_first : (script : Script) (journal : List Entry) (count : ℕ) → turns_of journal ≡ turns_from 0 (take count script.turns) → AreFirstTurns script journal
are_first script journal count is =
    let first = first_turns 0 count script.turns in
    record { later = first.later; turns_are = first.are ∙ ap (λ xs. xs ++ first.later) (sym is) }

many_plans : (turns : List ScriptTurn) → length (map plan_of turns) ≡ length turns
many_plans [] = refl
many_plans (turn ∷ turns) = ap suc (many_plans turns)

take_every : (turns : List ScriptTurn) → take (length turns) turns ≡ turns
take_every [] = refl
take_every (turn ∷ turns) = ap (λ xs. turn ∷ xs) (take_every turns)

pub are_all : (script : Script) (journal : List Entry) (count : ℕ) → turns_of journal ≡ turns_from 0 (take count script.turns)
    → count ≡ length (map plan_of script.turns) → AreAllTurns script journal
are_all script journal count is all =
    is ∙ ap (λ n. turns_from 0 (take n script.turns)) (all ∙ many_plans script.turns) ∙ ap (turns_from 0) (take_every script.turns)

-- ---- octets

plan_feeds : (side : Side) (turn : ScriptTurn) → (plan_of turn).feed_of (station_of side) ≡ feed_of side turn
plan_feeds A turn = refl
plan_feeds B turn = refl

same_feeds : (side : Side) (count : ℕ) (turns : List ScriptTurn) → feed_total (station_of side) (take count (map plan_of turns)) ≡ sum_by (feed_of side) (take count turns)
same_feeds side zero turns = refl
same_feeds side (suc count) [] = refl
same_feeds side (suc count) (turn ∷ turns) =
    sum_by-cons (λ (plan : Plan). plan.feed_of (station_of side)) (plan_of turn) (take count (map plan_of turns))
    ∙ ap (λ n. n + feed_total (station_of side) (take count (map plan_of turns))) (plan_feeds side turn)
    ∙ ap (λ n. feed_of side turn + n) (same_feeds side count turns)
    ∙ sym (sum_by-cons (feed_of side) turn (take count turns))

same_stream : (a b : List ℕ) (script : Script) (side : Side) → ((given_of a b script).station_of (station_of side)).stream ≡ stream_of side a b
same_stream a b script A = refl
same_stream a b script B = refl

pub is_fed : (a b : List ℕ) (script : Script) (front : List Entry) → IsUpToDate (given_of a b script) front → IsFed a b (begun_in script front) front
is_fed a b script front up_to_date = λ side.
    let count = length (turns_of front) in
    up_to_date.fed_is side
    ∙ ap (λ n. take n ((given_of a b script).station_of (station_of side)).stream) (same_feeds side count script.turns)
    ∙ ap (take (sum_by (feed_of side) (take count script.turns))) (same_stream a b script side)
