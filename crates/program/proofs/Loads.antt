-- The load of a number is run whole, and the line on its run is written.
use Rattle.std.proofs.Common.{◌≡◌, ℕ, zero, suc, ◌+◌, ◌-◌, List, [], ◌∷◌, Option, Some, None, Result, Ok, Err, refl, sym, subst, inl, inr, ap, ◌∙◌}
use Rattle.std.specs.Prelude.{All, OnOk, IfErr, map, slice_get}
use Rattle.std.proofs.lemmas.List.Elements.{All-cons, All-contains, All-head, All-nil, All-tail}
use Rattle.journal.specs.declared.entries.Entry.{Entry}
use Rattle.run_model.specs.History.{Event, Hearing, fates_used, turns_begun}
use Rattle.run_model.specs.OnAir.{IsUnseenStop}
use Rattle.run_model.specs.Pair.{EndsUnseen, IsRun, given_of, plan_of}
use Rattle.run_model.specs.Run.{Given, Plan, Stop, Stops, fate_at, hearing_at, hearings_from, others_than, run_of}
use Rattle.radio_replay.specs.LoadSchedule.{load_schedule, load_settings_a, load_settings_b, load_turns, ChangesNone}
use Rattle.radio_replay.specs.LoadStreams.{stream_a, stream_b}
use Rattle.radio_replay.specs.Schedule.{Reading, Right, Wrong, TooMany, schedule_of}
use Rattle.radio_replay.specs.Damage.{damaged_packet}
use Rattle.radio_replay.specs.Script.{Script, Turn}
use Rattle.program.specs.declared.faults.Fault.{Fault}
use Rattle.program.specs.declared.faults.Fault.TheVariants.{CannotRead, BadLine, CannotWrite, NoMemory, Unseen, TooLong, TooManyTurns}
use Rattle.program.specs.Causes.{IsEndOf, IsLoadRun, IsMakeFault, IsScheduleFault, IsWholeRun, IsWriteFault, OfLoad}
use Rattle.program.specs.Claims.{HaveSixOctets, counted_line, of_runs}
use Rattle.program.specs.World.{Writes, HasWritten, HasWrittenNothing, HasWrittenPart}
use Rattle.program.proofs.Completeness.{IsRight}
use Rattle.program.proofs.Endings.{of_journal, whole_run}

-- ---- its schedule

-- a schedule that is right is not read only where an allocation fails
pub only_memory : (place : ℕ) (octets : List ℕ) (number : ℕ) (fault : Fault) → octets ≡ load_schedule number
    → schedule_of (load_schedule number) ≡ Right load_settings_a load_settings_b (load_turns number)
    → IsScheduleFault place octets fault → fault ≡ NoMemory
only_memory place octets number (BadLine other line) same right is =
    absurd (subst IsRight (sym right ∙ sym (ap schedule_of same) ∙ is.1.1) tt)
only_memory place octets number (TooManyTurns other line) same right is =
    absurd (subst IsRight (sym right ∙ sym (ap schedule_of same) ∙ is.1.1) tt)
only_memory place octets number NoMemory same right is = refl
only_memory place octets number CannotWrite same right is = absurd is
only_memory place octets number (Unseen turn packet sent heard) same right is = absurd is
only_memory place octets number (CannotRead other) same right is = absurd is
only_memory place octets number (TooLong other) same right is = absurd is

-- ---- its run

turns_read : Reading → List Turn
turns_read (Right a b turns) = turns
turns_read (Wrong line) = []
turns_read (TooMany line) = []

-- the fates of a turn as the run has them change no packet
abbrev KeepsAll : Plan → Type 0
KeepsAll plan = (packet : ℕ) (octets : List ℕ) → damaged_packet (fate_at plan.fates packet) octets ≡ octets

keeps_at : (turns : List Turn) (place : ℕ) (plan : Plan) → slice_get (map plan_of turns) place ≡ Some plan → All ChangesNone turns → KeepsAll plan
keeps_at [] place plan is all = absurd cc
keeps_at (turn ∷ turns) zero plan is all = let same : plan_of turn ≡ plan = cc in subst KeepsAll same (All-head ChangesNone turn turns all)
keeps_at (turn ∷ turns) (suc place) plan is all = keeps_at turns place plan is (All-tail ChangesNone turn turns all)

-- so each station hears a packet as it was sent
heard_as_sent : (given : Given) (plan : Plan) (number channel : ℕ) (octets : List ℕ) (history : List Event) (listeners : List ℕ) → KeepsAll plan
    → All (λ (hearing : Hearing). damaged_packet hearing.fate octets ≡ octets) (hearings_from given plan.fates number channel octets history listeners)
heard_as_sent given plan number channel octets history [] keeps = All-nil (λ (hearing : Hearing). damaged_packet hearing.fate octets ≡ octets)
heard_as_sent given plan number channel octets history (listener ∷ listeners) keeps =
    All-cons (λ (hearing : Hearing). damaged_packet hearing.fate octets ≡ octets) (hearing_at given (fate_at plan.fates number) channel octets history listener)
    (hearings_from given plan.fates (number + 1) channel octets history listeners)
    (keeps number octets) (heard_as_sent given plan (number + 1) channel octets history listeners keeps)

-- where each stop of a run is by damage
abbrev pub AreUnseen : Type 0
AreUnseen = (given : Given) (history : List Event) (stop : Stop) → run_of given ≡ Stops history stop → IsUnseenStop given history stop

-- damage does not end it
never_unseen : (number : ℕ) (a b : List ℕ) (script : Script) (turn packet : ℕ) (sent heard : List ℕ) (journal : List Entry) → AreUnseen
    → schedule_of (load_schedule number) ≡ Right script.a script.b script.turns
    → schedule_of (load_schedule number) ≡ Right load_settings_a load_settings_b (load_turns number) → All ChangesNone (load_turns number)
    → ¬ EndsUnseen (given_of a b script) turn packet sent heard journal
unfolding turns_read
never_unseen number a b script turn packet sent heard journal unseen read right changes ends =
    let given = given_of a b script in
    let stop = unseen given ends.history ends.stop ends.stops in
    let same : load_turns number ≡ script.turns = ap turns_read (sym right ∙ read) in
    let keeps = keeps_at script.turns (turns_begun ends.history - 1) stop.plan stop.is_now (subst (λ turns. All ChangesNone turns) same changes) in
    stop.differs
    (stop.heard_is
    ∙ All-contains (λ (hearing : Hearing). damaged_packet hearing.fate ends.stop.sent ≡ ends.stop.sent) _ stop.hearing
    (heard_as_sent given stop.plan (fates_used ends.history) ends.stop.channel ends.stop.sent ends.history
    (others_than ends.stop.sender given.stations) keeps) stop.is_one)

no_fault_after : (number : ℕ) (a b : List ℕ) (script : Script) (journal : List Entry) (fault : Fault) → AreUnseen
    → schedule_of (load_schedule number) ≡ Right script.a script.b script.turns
    → schedule_of (load_schedule number) ≡ Right load_settings_a load_settings_b (load_turns number) → All ChangesNone (load_turns number)
    → IsEndOf (given_of a b script) journal (Some fault) → fault ≡ NoMemory
no_fault_after number a b script journal (Unseen turn packet sent heard) unseen read right changes end =
    absurd (never_unseen number a b script turn packet sent heard journal unseen read right changes end)
no_fault_after number a b script journal (BadLine place line) unseen read right changes end = absurd end
no_fault_after number a b script journal (TooManyTurns place line) unseen read right changes end = absurd end
no_fault_after number a b script journal NoMemory unseen read right changes end = absurd end
no_fault_after number a b script journal CannotWrite unseen read right changes end = absurd end
no_fault_after number a b script journal (CannotRead place) unseen read right changes end = absurd end
no_fault_after number a b script journal (TooLong place) unseen read right changes end = absurd end

-- no fault follows its journal
pub never_faulty : (number : ℕ) (a b : List ℕ) (script : Script) (journal : List Entry) (schedule : List ℕ) (found : Option Fault) (fault : Fault)
    → AreUnseen → found ≡ Some fault → schedule ≡ load_schedule number → schedule_of schedule ≡ Right script.a script.b script.turns
    → schedule_of (load_schedule number) ≡ Right load_settings_a load_settings_b (load_turns number) → All ChangesNone (load_turns number)
    → IsEndOf (given_of a b script) journal found → fault ≡ NoMemory
never_faulty number a b script journal schedule found fault unseen some is read right changes end =
    no_fault_after number a b script journal fault unseen (ap schedule_of (sym is) ∙ read) right changes
    (subst (IsEndOf (given_of a b script) journal) some end)

pub load_run : (number : ℕ) (script : Script) (journal : List Entry) (a b schedule : List ℕ) (found : Option Fault)
    → a ≡ stream_a number → b ≡ stream_b number → schedule ≡ load_schedule number
    → schedule_of schedule ≡ Right script.a script.b script.turns → found ≡ None
    → IsEndOf (given_of a b script) journal found → HaveSixOctets script → IsLoadRun number script journal
load_run number script journal a b schedule found a_is b_is is read none end six = record {
  read = ap schedule_of (sym is) ∙ read;
  run = subst (λ octets. IsRun (given_of (stream_a number) octets script) journal) b_is
      (subst (λ octets. IsRun (given_of octets b script) journal) a_is
      (subst (IsEndOf (given_of a b script) journal) none end));
  six = six;
}

-- ---- its line

of_load : (fact : List ℕ → Type 0) (number : ℕ) (script : Script) (journal : List Entry) (line : List ℕ) → IsLoadRun number script journal
    → line ≡ counted_line number script journal → fact line → OfLoad of_runs fact number
of_load fact number script journal line ran is holds =
    of_journal (counted_line number) (IsWholeRun of_runs) fact (stream_a number) (stream_b number) (load_schedule number) script journal
    ran.read (whole_run script (given_of (stream_a number) (stream_b number) script) journal ran.run) ran.six (subst fact is holds)

pub nothing_made : (writes : Writes) (number : ℕ) (fault : Fault) → fault ≡ NoMemory → HasWrittenNothing writes → IsMakeFault of_runs writes number fault
nothing_made writes number fault is same = subst (λ cause. IsMakeFault of_runs writes number cause) (sym is) (inl same)

pub made : (writes : Writes) (number : ℕ) (script : Script) (journal : List Entry) (line : List ℕ) (result : Result (Unit {0}) Fault)
    → IsLoadRun number script journal → line ≡ counted_line number script journal → OnOk result (HasWritten writes line)
    → OnOk result (OfLoad of_runs (HasWritten writes) number)
made writes number script journal line (Ok done) ran is wrote = of_load (HasWritten writes) number script journal line ran is wrote
made writes number script journal line (Err fault) ran is wrote = tt

pub not_made : (writes : Writes) (number : ℕ) (script : Script) (journal : List Entry) (line : List ℕ) (result : Result (Unit {0}) Fault)
    → IsLoadRun number script journal → line ≡ counted_line number script journal → IfErr result (IsWriteFault writes line)
    → IfErr result (IsMakeFault of_runs writes number)
not_made writes number script journal line (Ok done) ran is fault = tt
not_made writes number script journal line (Err CannotWrite) ran is fault =
    (fault.0, of_load (HasWrittenPart writes) number script journal line ran is fault.1)
not_made writes number script journal line (Err NoMemory) ran is fault =
    inr (of_load (HasWrittenPart writes) number script journal line ran is fault)
not_made writes number script journal line (Err (BadLine place number_of)) ran is fault = absurd fault
not_made writes number script journal line (Err (TooManyTurns place number_of)) ran is fault = absurd fault
not_made writes number script journal line (Err (Unseen turn packet sent heard)) ran is fault = absurd fault
not_made writes number script journal line (Err (CannotRead place)) ran is fault = absurd fault
not_made writes number script journal line (Err (TooLong place)) ran is fault = absurd fault
