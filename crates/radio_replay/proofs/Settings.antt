-- The reading of a text by its settings and its turns.
use Rattle.std.proofs.Common.{◌≡◌, ℕ, Bool, true, false, List, [], drop, Some, None, Ok, Err, refl, sym, subst, ◌∙◌}
use Rattle.std.specs.Prelude.{IfErr, Option, Result, slice_get}
use Rattle.std.specs.Result.{IsErrAnd}
use Rattle.ble_base.specs.declared.Config.{Config}
use Rattle.ble_base.specs.declared.Side.TheVariants.{A, B}
use Rattle.line_words.specs.Text.{lines_of}
use Rattle.radio_replay.specs.declared.faults.ScheduleFault.{ScheduleFault}
use Rattle.radio_replay.specs.declared.faults.ScheduleFault.TheVariants.{BadLine, TooLong, Memory}
use Rattle.radio_replay.specs.Schedule.{IsFault, LineFault, Outside, PastLimit, Right, TooMany, Wrong, is_heading, read_settings, reading, schedule_of, settings_read, turns_from}
use Rattle.radio_replay.specs.Script.{Turn}
use Rattle.radio_replay.specs.SideLine.{config_in_line}

-- what holds of a fault holds of the answer that is this fault
pub err_of : {A E : Type 0} (answer : Result A E) (fault : E) (P : E → Type 0) → IsErrAnd answer (λ e. e ≡ fault) → P fault → IfErr answer P
err_of (Ok value) fault P is h = tt
err_of (Err e) fault P is h = subst P (sym is) h

settings_fault : (heading : Bool) (a b : Option Config) (turns : Result (List Turn) (LineFault × ℕ)) (fault : ScheduleFault)
    → settings_read heading a b ≡ Err fault
    → IsFault (λ line. reading heading a b turns ≡ Wrong line) (λ line. reading heading a b turns ≡ TooMany line) fault
settings_fault false a b turns fault e =
    let same : BadLine 1 ≡ fault = cc in
    subst (λ f. IsFault (λ line. Wrong 1 ≡ Wrong line) (λ line. Wrong 1 ≡ TooMany line) f) same (1, refl, refl)
settings_fault true None b turns fault e =
    let same : BadLine 2 ≡ fault = cc in
    subst (λ f. IsFault (λ line. Wrong 2 ≡ Wrong line) (λ line. Wrong 2 ≡ TooMany line) f) same (2, refl, refl)
settings_fault true (Some a) None turns fault e =
    let same : BadLine 3 ≡ fault = cc in
    subst (λ f. IsFault (λ line. Wrong 3 ≡ Wrong line) (λ line. Wrong 3 ≡ TooMany line) f) same (3, refl, refl)
settings_fault true (Some a) (Some b) turns fault e = absurd (cc)

settings_there : (heading : Bool) (a b : Option Config) (settings : Config × Config) (turns : Result (List Turn) (LineFault × ℕ))
    → settings_read heading a b ≡ Ok settings → reading heading a b turns ≡ reading true (Some settings.0) (Some settings.1) turns
settings_there false a b settings turns e = absurd (cc)
settings_there true None b settings turns e = absurd (cc)
settings_there true (Some a) None settings turns e = absurd (cc)
settings_there true (Some a) (Some b) settings turns e =
    let same : ◌≡◌ {A = Config × Config} (a, b) settings = cc in
    subst (λ (s : Config × Config). reading true (Some a) (Some b) turns ≡ reading true (Some s.0) (Some s.1) turns) same refl

turns_fault : (a b : Config) (turns : Result (List Turn) (LineFault × ℕ)) (fault : ScheduleFault)
    → IsFault (λ line. turns ≡ Err (Outside, line)) (λ line. turns ≡ Err (PastLimit, line)) fault
    → IsFault (λ line. reading true (Some a) (Some b) turns ≡ Wrong line) (λ line. reading true (Some a) (Some b) turns ≡ TooMany line) fault
turns_fault a b turns Memory h = h
turns_fault a b turns (BadLine number) h = (h.0, rw h.1 refl, h.2)
turns_fault a b turns (TooLong number) h = (h.0, rw h.1 refl, h.2)

-- a text whose settings are at fault
pub fault_of_settings : (text : List ℕ) (fault : ScheduleFault) → read_settings (lines_of text) ≡ Err fault
    → IsFault (λ line. schedule_of text ≡ Wrong line) (λ line. schedule_of text ≡ TooMany line) fault
fault_of_settings text fault e =
    let lines = lines_of text in
    settings_fault (is_heading (slice_get lines 0)) (config_in_line A (slice_get lines 1)) (config_in_line B (slice_get lines 2))
    (turns_from 4 [] (drop 3 lines)) fault e

by_turns : (text : List ℕ) (settings : Config × Config) → read_settings (lines_of text) ≡ Ok settings
    → schedule_of text ≡ reading true (Some settings.0) (Some settings.1) (turns_from 4 [] (drop 3 (lines_of text)))
by_turns text settings e =
    let lines = lines_of text in
    settings_there (is_heading (slice_get lines 0)) (config_in_line A (slice_get lines 1)) (config_in_line B (slice_get lines 2)) settings
    (turns_from 4 [] (drop 3 lines)) e

-- a text of which a turn is at fault
pub fault_of_turns : (text : List ℕ) (settings : Config × Config) (lines : List (List ℕ)) (fault : ScheduleFault)
    → read_settings (lines_of text) ≡ Ok settings → lines ≡ drop 3 (lines_of text)
    → IsFault (λ line. turns_from 4 [] lines ≡ Err (Outside, line)) (λ line. turns_from 4 [] lines ≡ Err (PastLimit, line)) fault
    → IsFault (λ line. schedule_of text ≡ Wrong line) (λ line. schedule_of text ≡ TooMany line) fault
fault_of_turns text settings lines fault e same h =
    rw (by_turns text settings e, ← same) (turns_fault settings.0 settings.1 (turns_from 4 [] lines) fault h)

-- a text without a fault
pub right_text : (text : List ℕ) (settings : Config × Config) (lines : List (List ℕ)) (turns : List Turn)
    → read_settings (lines_of text) ≡ Ok settings → lines ≡ drop 3 (lines_of text) → turns_from 4 [] lines ≡ Ok turns
    → schedule_of text ≡ Right settings.0 settings.1 turns
right_text text settings lines turns e same read = by_turns text settings e ∙ rw (← same, read) refl
