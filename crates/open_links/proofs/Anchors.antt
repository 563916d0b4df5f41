-- The anchors of an end: what it does between two of them, and how far apart they are (Core 5.2, volume 6 part B, section
-- 4.5.1).
use Rattle.std.proofs.Common.{◌≡◌, ℕ, ◌+◌, ◌≤◌, ◌==◌, ◌&&◌, nat_lt, Bool, true, false, Option, Some, None, IfSome, is_none, refl, ap, sym, ◌∙◌, subst, arith, if◌then◌else◌}
use Rattle.std.specs.Bool.{⊤}
use Rattle.std.proofs.lemmas.Bool.{ne_eqb}
use Rattle.ble_base.specs.declared.error_codes.ErrCode.{ErrCode}
use Rattle.ble_base.specs.declared.roles.Role.{Role}
use Rattle.ble_base.specs.declared.roles.Role.TheVariants.{Central, Peripheral}
use Rattle.instants.specs.Track.{TrackFacts, event_of, gap_ahead, is_due, next_anchor_of, spacing_of, track_after_enter, track_after_take, track_changed, track_in_next, track_unchanged}
use Rattle.instants.specs.Parameters.{params_after}
use Rattle.instants.specs.declared.indications.Indication.{Indication}
use Rattle.instants.specs.declared.indications.Params.{Params}
use Rattle.instants.specs.declared.track.Change.{Change}
use Rattle.procedures.specs.procedure_values.Drafts.{is_out}
use Rattle.procedures.specs.procedure_stages.Closing.{is_open}
use Rattle.procedures.specs.procedure_stages.InProgress.{is_host_asked}
use Rattle.procedures.specs.procedure_stages.Kinds.{role_of}
use Rattle.procedures.specs.Going.{is_answer}
use Rattle.procedures.specs.Table.{TableFacts}
use Rattle.procedures.specs.Taking.{took_step}
use Rattle.two_tracks.specs.TwoEnds.{HasSlots, MayIndicate, MayIndicateIf, TwoEnds, beginning, change_of}
use Rattle.link_end.specs.control_model.Control.{Control, Step as ControlStep, Answers, Asks, Disconnects, Enters, Owes, SeesAcknowledged, Sends, Takes, after, following, goes_out, indicated_by, is_to_come, moved, table_if, taken, went}
use Rattle.link_end.proofs.control_model.Calls.{any_step, either_way}
use Rattle.link_end.proofs.control_model.Indicating.{Indicates}
use Rattle.link_end.proofs.control_model.Sending.{may_of, own_of, owned}
use Rattle.link_end.specs.link_model.Setup.{Setup}
use Rattle.link_end.specs.link_model.Facts.{Facts}
use Rattle.link_end.specs.link_model.Controls.{goes_on}
use Rattle.link_end.specs.link_model.End.{facts_after}
use Rattle.link_end.specs.link_model.Step.{Step, EventEntered}
use Rattle.open_links.proofs.EndSteps.{is_entry, step_keeps}
use Rattle.open_links.proofs.Intervals.{HasIntervals, changed_interval, enters_track}

-- ---- the next anchor is at least 6 slots after the last one

last_interval : (params : Params) (change : Change) (over : Bool) → 6 ≤ params.interval → HasSlots change.indication
    → 6 ≤ (if over then params_after params change.indication else params).interval
last_interval params change true now slots = changed_interval params change.indication now slots
last_interval params change false now slots = now

spacing_slots : (waits : Option Change) (params : Params) (next : ℕ) → 6 ≤ params.interval → IfSome waits (λ change. HasSlots change.indication)
    → 6 ≤ spacing_of waits params next
spacing_slots None params next now slots = now
spacing_slots (Some change) params next now slots =
    let interval = last_interval params change (nat_lt change.at.0 next) now slots in
    omega (arith, interval)

next_later : (t : TrackFacts) → HasIntervals t → (t.entered == 0) ≡ false → t.anchor + 6 ≤ next_anchor_of t
next_later t has later =
    let spacing = spacing_slots t.waits t.params t.entered has.now has.waits in
    rw later (omega (arith, spacing))

-- ---- an event is entered

record EntersAt (t u : TrackFacts) : Type 0 where
  entered : u.entered ≡ t.entered + 1
  anchor : u.anchor ≡ next_anchor_of t

enters_at : (t : TrackFacts) → EntersAt t (track_after_enter t)
enters_at t = by t.waits
  where
    in_next : (change : Change) (due : Bool) → EntersAt t (if due then track_changed change t else track_unchanged t)
    in_next change true = record { entered = refl; anchor = refl }
    in_next change false = record { entered = refl; anchor = refl }

    by : (waits : Option Change) → EntersAt t (track_in_next waits t)
    by None = record { entered = refl; anchor = refl }
    by (Some change) = in_next change (is_due change t.entered)

not_first : (n m : ℕ) → n ≡ m + 1 → (n == 0) ≡ false
not_first n m is = ne_eqb n 0 (λ same. absurd (omega (arith, same, is)))

pub next_after_enter : (t : TrackFacts) → HasIntervals t → next_anchor_of t + 6 ≤ next_anchor_of (track_after_enter t)
next_after_enter t has =
    let at = enters_at t in
    let later = next_later (track_after_enter t) (enters_track t has) (not_first (track_after_enter t).entered t.entered at.entered) in
    omega (arith, later, at.anchor)

pub one_more_entered : (t : TrackFacts) → (track_after_enter t).entered ≡ t.entered + 1
one_more_entered t = (enters_at t).entered

-- ---- all else leaves the number of events and the last anchor

pub record IsInPlace (t u : TrackFacts) : Type 0 where
  pub entered : u.entered ≡ t.entered
  pub anchor : u.anchor ≡ t.anchor

in_place : (t : TrackFacts) → IsInPlace t t
in_place t = record { entered = refl; anchor = refl }

-- the next anchor is in a slot or later where it was, if the slot before that is of the event
pub moves_on : (t u : TrackFacts) (slot : ℕ) → IsInPlace t u → HasIntervals u → slot ≤ t.anchor + 1 → slot + 1 ≤ next_anchor_of t
    → slot + 1 ≤ next_anchor_of u
moves_on t u slot place has reach next = by_test (u.entered == 0) refl
  where
    by_test : (test : Bool) → (u.entered == 0) ≡ test → slot + 1 ≤ next_anchor_of u
    by_test true e =
        let none : (t.entered == 0) ≡ true = ap (λ n. n == 0) (sym place.entered) ∙ e in
        let before : slot + 1 ≤ t.anchor = subst (λ (test : Bool). slot + 1 ≤ (if test then t.anchor else t.anchor + spacing_of t.waits t.params t.entered)) none next in
        rw e (omega (arith, before, place.anchor))
    by_test false e =
        let later = next_later u has e in
        omega (arith, later, place.anchor, reach)

abbrev StaysIn : TrackFacts → Control → Type 0
StaysIn t c = IsInPlace t c.track

by_table : (t : TrackFacts) (b : Bool) (g : TableFacts) (c : Control) → StaysIn t c → StaysIn t (table_if b g c)
by_table t true g c is = is
by_table t false g c is = is

by_following : (t : TrackFacts) (role : Role) (indication : Option Indication) (c : Control) → StaysIn t c → StaysIn t (following role indication c)
by_following t Central None c is = is
by_following t Central (Some indication) c is = record { entered = is.entered; anchor = is.anchor }
by_following t Peripheral indication c is = is

by_taken : (t : TrackFacts) (g : TableFacts) (code : Option ErrCode) (indication : Option Indication) (c : Control) → StaysIn t c
    → StaysIn t (taken g code indication c)
by_taken t g (Some code) indication c is = is
by_taken t g None None c is = is
by_taken t g None (Some indication) c is =
    either_way (StaysIn t) (is_to_come c.track indication) _ _ (record { entered = is.entered; anchor = is.anchor }) is

by_moved : (t : TrackFacts) (step : ControlStep) (c : Control) → is_entry step ≡ false → StaysIn t c → StaysIn t (moved step c)
by_moved t (Enters slot quiet) c none is = absurd cc
by_moved t (Asks ask) c none is = is
by_moved t (Answers answer) c none is = by_table t (is_host_asked c.table.progress && is_answer answer) _ c is
by_moved t (Disconnects reason) c none is = by_table t (is_open c.table.closing) _ c is
by_moved t (Sends slot quiet) c none is =
    either_way (StaysIn t) (goes_out quiet c) _ _
    (by_following t (role_of c.table.progress) (went slot quiet c).1 (record c { table = (went slot quiet c).0 }) is) is
by_moved t SeesAcknowledged c none is = by_table t (is_out c.table.out) _ c is
by_moved t (Takes read slot quiet) c none is =
    let step = took_step c.table read slot quiet in by_taken t step.0 step.1.ends (indicated_by step.1.effect) c is
by_moved t (Owes ctrl) c none is = is

abbrev pub enters : Step → Bool
enters (EventEntered slot) = true
enters other = false

pub stays_in_place : (setup : Setup) (facts : Facts) (step : Step) → enters step ≡ false
    → IsInPlace facts.control.track (facts_after setup facts step).control.track
stays_in_place setup facts step none =
    let t = facts.control.track in
    step_keeps (StaysIn t) (λ (step : ControlStep). is_entry step ≡ false) (λ step. λ is. is)
    (λ step. λ c. λ other. λ is. any_step (StaysIn t) step c (by_moved t step c other is) is) (λ code. λ c. λ is. is) setup facts step
    (λ slot. λ is. let no : ◌≡◌ {A = Bool} true false = sym (ap enters is) ∙ none in absurd cc) (in_place t)

-- ---- an indication that a central sends leaves the next anchor, or moves it on: its Instant is ahead

same_interval : (params : Params) (change : Change) (over : Bool) → over ≡ false
    → (if over then params_after params change.indication else params).interval ≡ params.interval
same_interval params change true is = absurd cc
same_interval params change false is = refl

not_over : (event gap next : ℕ) → next ≡ event + 1 → 1 ≤ gap → nat_lt (event + gap) next ≡ false
not_over event gap next is ahead = grind (arith, is, ahead)

takes_later : (t : TrackFacts) (indication : Indication) (waits : Option Change) → waits ≡ None → 1 ≤ gap_ahead (event_of t) indication
    → (t.entered == 0) ≡ false
    → spacing_of waits t.params t.entered ≤ spacing_of (track_after_take t indication).waits t.params t.entered
takes_later t indication (Some change) is ahead later = absurd cc
takes_later t indication None is ahead later =
    let change = change_of (event_of t) indication in
    let over = not_over (event_of t) (gap_ahead (event_of t) indication) t.entered (grind (arith, later)) ahead in
    let same = same_interval t.params change (nat_lt change.at.0 t.entered) over in
    omega (arith, same)

sends_later : (t : TrackFacts) (indication : Indication) → t.waits ≡ None → 1 ≤ gap_ahead (event_of t) indication
    → next_anchor_of t ≤ next_anchor_of (track_after_take t indication)
sends_later t indication free ahead = by_test (t.entered == 0) refl
  where
    by_test : (test : Bool) → (t.entered == 0) ≡ test → next_anchor_of t ≤ next_anchor_of (track_after_take t indication)
    by_test true e = rw e (omega arith)
    by_test false e =
        let later = takes_later t indication t.waits free ahead e in
        rw e (omega (arith, later))

-- a central may send an indication where none waits, and with an Instant ahead
record IsAhead (t : TrackFacts) (indication : Indication) : Type 0 where
  free : t.waits ≡ None
  ahead : 1 ≤ gap_ahead (event_of t) indication

none_of : (waits : Option Change) → is_none waits ≡ true → waits ≡ None
none_of None is = refl
none_of (Some change) is = absurd cc

own_ahead : (c : Control) (slot : ℕ) (quiet : Bool) → Indicates c → (sent : Option Indication) → (went slot quiet c).1 ≡ sent
    → IfSome sent (IsAhead c.track)
own_ahead c slot quiet indicates None is = tt
own_ahead c slot quiet indicates (Some indication) is =
    let ends : TwoEnds = record (beginning c.track.params c.track.anchor 0) { central = c.track; sent = c.sent } in
    let may : MayIndicate ends indication = subst (MayIndicateIf ends) is (may_of c slot quiet indicates ends refl refl) in
    record {
      free = none_of c.track.waits (own_of c (went slot quiet c).1 indication is (owned c slot quiet indicates)).free;
      ahead = may.ahead;
    }

following_later : (t : TrackFacts) (role : Role) (indication : Option Indication) (c : Control) → c.track ≡ t
    → (role ≡ Central → IfSome indication (IsAhead t)) → next_anchor_of t ≤ next_anchor_of (following role indication c).track
following_later t Central None c is may = rw is (omega arith)
following_later t Central (Some indication) c is may =
    rw is (sends_later t indication (may refl).free (may refl).ahead)
following_later t Peripheral indication c is may = rw is (omega arith)

-- the next anchor is where it was, or later
abbrev IsLater : TrackFacts → Control → Type 0
IsLater t c = next_anchor_of t ≤ next_anchor_of c.track

pub sent_later : (c : Control) (slot : ℕ) (quiet : Bool) → (role_of c.table.progress ≡ Central → Indicates c)
    → next_anchor_of c.track ≤ next_anchor_of (after (Sends slot quiet) c).track
sent_later c slot quiet central =
    let next = went slot quiet c in
    any_step (IsLater c.track) (Sends slot quiet) c
    (either_way (IsLater c.track) (goes_out quiet c) _ _
    (following_later c.track (role_of c.table.progress) next.1 (record c { table = next.0 }) refl
    (λ role. own_ahead c slot quiet (central role) next.1 refl)) (omega arith)) (omega arith)

-- ---- an end whose procedures ended the link does not go on

abbrev WentOn : Control → Control → Type 0
WentOn before c = is_none c.ends ≡ true → is_none before.ends ≡ true

over_by : (b : Bool) (step : ControlStep) (c : Control) → is_none c.ends ≡ b → is_none (if b then moved step c else c).ends ≡ true → is_none c.ends ≡ true
over_by true step c e is = e
over_by false step c e is = is

pub went_on : (setup : Setup) (facts : Facts) (step : Step) → goes_on (facts_after setup facts step) ≡ true → goes_on facts ≡ true
went_on setup facts step =
    step_keeps (WentOn facts.control) (λ (step : ControlStep). ⊤) (λ step. λ is. tt)
    (λ step. λ c. λ any. λ went. λ is. went (over_by (is_none c.ends) step c refl is)) (λ code. λ c. λ went. λ is. absurd cc) setup facts step
    (λ slot. λ is. tt) (λ is. is)
