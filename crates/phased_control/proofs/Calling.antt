-- The table of an end is its table after the calls that its steps make.
use Rattle.std.proofs.Common.{◌≡◌, Bool, true, false, ◌&&◌, if◌then◌else◌, List, [], ◌∷◌, ◌++◌, Option, Some, None, is_none, refl, sym, ap, subst, ◌∙◌}
use Rattle.ble_base.specs.ErrorCodes.{instant_passed}
use Rattle.ble_base.specs.declared.error_codes.ErrCode.{ErrCode}
use Rattle.instants.specs.declared.indications.Indication.{Indication}
use Rattle.instants.specs.Track.{event_of, track_after_take}
use Rattle.table_laws.specs.procedure_values.Drafts.{is_out}
use Rattle.table_laws.specs.procedure_stages.Closing.{is_open}
use Rattle.table_laws.specs.procedure_stages.InProgress.{is_host_asked}
use Rattle.table_laws.specs.procedure_stages.Kinds.{role_of}
use Rattle.table_laws.specs.procedures.Calls.{Call, after_call, after_calls, disconnects, host_answers, is_acked, sends, takes}
use Rattle.table_laws.specs.procedures.Going.{is_answer}
use Rattle.table_laws.specs.procedures.Table.{TableFacts}
use Rattle.table_laws.specs.procedures.Taking.{took_step}
use Rattle.table_laws.specs.Pasts.{MayAll, key_after_call, key_after_calls}
use Rattle.control_model.specs.Control.{Control, Step, Answers, Asks, Disconnects, Enters, Owes, SeesAcknowledged, Sends, Takes, after, after_all, ended, goes_out, indicated_by, is_to_come, moved, taken, went}
use Rattle.phased_control.specs.Calls.{AllPassPhase, all_calls, all_phased_calls, call_if, calls_now, calls_of}
use Rattle.phased_control.specs.Phased.{Phased}
use Rattle.phased_control.specs.Steps.{control_steps, end_by_phase, ended_if, steps_now}
use Rattle.phased_control.specs.Taken.{PhasedStep, phased_after, phased_after_all}
use Rattle.phased_control.proofs.Moving.{moves_by_steps, same_after}
use Rattle.phased_control.proofs.Tables.{following_table}

-- ---- lists of calls

pub calls_joined : (xs ys : List Call) (f : TableFacts) → after_calls f (xs ++ ys) ≡ after_calls (after_calls f xs) ys
calls_joined [] ys f = refl
calls_joined (x ∷ xs) ys f = calls_joined xs ys (after_call f x)

pub keys_joined : (xs ys : List Call) (key : Bool) → key_after_calls key (xs ++ ys) ≡ key_after_calls (key_after_calls key xs) ys
keys_joined [] ys key = refl
keys_joined (x ∷ xs) ys key = keys_joined xs ys (key_after_call key x)

pub may_joined : (xs ys : List Call) (f : TableFacts) (key : Bool) → MayAll f key xs → MayAll (after_calls f xs) (key_after_calls key xs) ys → MayAll f key (xs ++ ys)
may_joined [] ys f key one two = two
may_joined (x ∷ xs) ys f key one two = (one.0, may_joined xs ys (after_call f x) (key_after_call key x) one.1 two)

pub passes_joined : (xs ys : List Call) (f : TableFacts) → AllPassPhase f xs → AllPassPhase (after_calls f xs) ys → AllPassPhase f (xs ++ ys)
passes_joined [] ys f one two = two
passes_joined (x ∷ xs) ys f one two = (one.0, passes_joined xs ys (after_call f x) one.1 two)

-- ---- one step

abbrev Makes : List Call → Control → Control → Type 0
Makes calls c d = d.table ≡ after_calls c.table calls

makes_if : (b : Bool) (call : Call) (c d : Control) → d.table ≡ after_call c.table call → Makes (call_if b call) c (if b then d else c)
makes_if true call c d is = is
makes_if false call c d is = refl

taken_table : (g : TableFacts) (code : Option ErrCode) (indication : Option Indication) (c : Control) (call : Call) → c.ends ≡ None → g ≡ after_call c.table call
    → Makes (call_if (is_none (taken g code indication c).ends) call) c (taken g code indication c)
taken_table g (Some code) indication c call lasts is = refl
taken_table g None None c call lasts is = subst (λ (ends : Option ErrCode). g ≡ after_calls c.table (call_if (is_none ends) call)) (sym lasts) is
taken_table g None (Some indication) c call lasts is = by (is_to_come c.track indication)
  where
    by : (b : Bool) → let d = (if b then record c { table = g; track = track_after_take c.track indication } else ended (record { 0 = instant_passed }) c) in
        Makes (call_if (is_none d.ends) call) c d
    by true = subst (λ (ends : Option ErrCode). g ≡ after_calls c.table (call_if (is_none ends) call)) (sym lasts) is
    by false = refl

makes_moved : (step : Step) (c : Control) → c.ends ≡ None → Makes (calls_of step c) c (moved step c)
makes_moved (Enters slot quiet) c lasts = refl
makes_moved (Asks ask) c lasts = refl
makes_moved (Answers answer) c lasts = makes_if (is_host_asked c.table.progress && is_answer answer) (host_answers answer) c _ refl
makes_moved (Disconnects reason) c lasts = makes_if (is_open c.table.closing) (disconnects reason) c _ refl
makes_moved (Sends slot quiet) c lasts =
    makes_if (goes_out quiet c) (sends (event_of c.track) c.track.params.latency quiet slot) c _
    (following_table (role_of c.table.progress) (went slot quiet c).1 (record c { table = (went slot quiet c).0 }))
makes_moved SeesAcknowledged c lasts = makes_if (is_out c.table.out) is_acked c _ refl
makes_moved (Takes read slot quiet) c lasts =
    taken_table (took_step c.table read slot quiet).0 (took_step c.table read slot quiet).1.ends (indicated_by (took_step c.table read slot quiet).1.effect) c (takes read slot quiet) lasts refl
makes_moved (Owes ctrl) c lasts = refl

pub makes_calls : (step : Step) (c : Control) → (after step c).table ≡ after_calls c.table (calls_now step c)
makes_calls step c = by c.ends refl
  where
    by : (ends : Option ErrCode) → c.ends ≡ ends → (after step c).table ≡ after_calls c.table (calls_now step c)
    by None is =
        subst (λ (b : Bool). (if b then moved step c else c).table ≡ after_calls c.table (if b then calls_of step c else [])) (sym (ap (λ (ends : Option ErrCode). is_none ends) is)) (makes_moved step c is)
    by (Some code) is =
        subst (λ (b : Bool). (if b then moved step c else c).table ≡ after_calls c.table (if b then calls_of step c else [])) (sym (ap (λ (ends : Option ErrCode). is_none ends) is)) refl

-- ---- all steps

pub makes_all : (steps : List Step) (c : Control) → (after_all steps c).table ≡ after_calls c.table (all_calls steps c)
makes_all [] c = refl
makes_all (step ∷ steps) c =
    makes_all steps (after step c) ∙ ap (λ (f : TableFacts). after_calls f (all_calls steps (after step c))) (makes_calls step c)
    ∙ sym (calls_joined (calls_now step c) (all_calls steps (after step c)) c.table)

ended_table : (ends : Option ErrCode) (c : Control) → (ended_if ends c).table ≡ c.table
ended_table None c = refl
ended_table (Some code) c = refl

pub makes_phased : (step : PhasedStep) (s : Phased) → (phased_after step s).control.table ≡ after_calls s.control.table (all_calls (steps_now step s) s.control)
makes_phased step s = by s.control.ends refl
  where
    by : (ends : Option ErrCode) → s.control.ends ≡ ends → (phased_after step s).control.table ≡ after_calls s.control.table (all_calls (steps_now step s) s.control)
    by None is =
        subst (λ (b : Bool). (phased_after step s).control.table ≡ after_calls s.control.table (all_calls (if b then control_steps step s else []) s.control)) (sym (ap (λ (ends : Option ErrCode). is_none ends) is))
        (ap (λ (c : Control). c.table) (moves_by_steps step s is) ∙ ended_table (end_by_phase step s) (after_all (control_steps step s) s.control) ∙ makes_all (control_steps step s) s.control)
    by (Some code) is =
        subst (λ (b : Bool). (phased_after step s).control.table ≡ after_calls s.control.table (all_calls (if b then control_steps step s else []) s.control)) (sym (ap (λ (ends : Option ErrCode). is_none ends) is))
        (ap (λ (t : Phased). t.control.table) (same_after step s code is))

pub makes_all_phased : (steps : List PhasedStep) (s : Phased) → (phased_after_all steps s).control.table ≡ after_calls s.control.table (all_phased_calls steps s)
makes_all_phased [] s = refl
makes_all_phased (step ∷ steps) s =
    makes_all_phased steps (phased_after step s) ∙ ap (λ (f : TableFacts). after_calls f (all_phased_calls steps (phased_after step s))) (makes_phased step s)
    ∙ sym (calls_joined (all_calls (steps_now step s) s.control) (all_phased_calls steps (phased_after step s)) s.control.table)
