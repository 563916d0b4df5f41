-- The notes of an event that is entered: its anchor, its channel, and the indication that comes into force.
use Rattle.std.proofs.Common.{◌≡◌, ◌⊎◌, ℕ, suc, ◌+◌, ◌≤◌, Bool, true, false, List, [], ◌∷◌, ◌++◌, length, take, Option, Some, None, is_none, refl, sym, ap, subst, ◌∙◌, arith, length-append, if◌then◌else◌}
use Rattle.std.specs.List.{filter}
use Rattle.std.proofs.lemmas.List.{append-nil, append_assoc}
use Rattle.std.proofs.lemmas.List.Elements.{filter-append}
use Rattle.ble_base.specs.declared.counters.EventNo.{EventNo}
use Rattle.ble_base.specs.declared.notes.Note.{Note}
use Rattle.ble_base.specs.declared.notes.Note.TheVariants.{Applied, Enter}
use Rattle.ble_base.specs.declared.procedure_kinds.Kind.{Kind}
use Rattle.ble_base.specs.declared.roles.Role.{Role}
use Rattle.ble_base.specs.declared.roles.Role.TheVariants.{Central}
use Rattle.chan_select.specs.Channel.{channel_of}
use Rattle.instants.specs.Follows.{Follows}
use Rattle.instants.specs.Parameters.{anchor_in, params_in}
use Rattle.instants.specs.Track.{TrackFacts, event_of, is_due, next_anchor_of, next_number, track_after_enter, track_changed, track_in_next, track_unchanged}
use Rattle.instants.specs.declared.track.Change.{Change}
use Rattle.link_model.specs.control_model.Control.{Control}
use Rattle.link_model.specs.Controls.{goes_on, is_quiet_now}
use Rattle.link_model.specs.End.{facts_of, notes_after, notes_of}
use Rattle.link_model.specs.Entering.{began_notes, done_notes}
use Rattle.link_model.specs.Events.{applied_notes}
use Rattle.link_model.specs.Setup.{Setup, algorithm_of, first_anchor, first_params}
use Rattle.link_model.specs.Step.{Step, EventEntered}
use Rattle.link_changes.specs.InForce.{HasRanges, IsAppliedInTime, IsEnteredBy}
use Rattle.link_changes.specs.Noted.{applied_noted, changes_noted, event_noted, is_applied_note, taking_if, takings_noted}
use Rattle.link_changes.proofs.Coming.{comes, entered_event, follows_now}
use Rattle.link_changes.proofs.Knowing.{Knows, changes_in, enter_says_none, knows_entered}
use Rattle.link_changes.proofs.Notes.{applied_more, takings_more}
use Rattle.link_changes.proofs.Standing.{entered_more}
use Rattle.link_changes.proofs.Steps.{entry_notes_are, entry_when, notes_when, past_known}

-- ---- where in the notes of an event its own note is

abbrev pub is_enter : Note → Bool
is_enter (Enter handle event channel) = true
is_enter other = false

counted : (test : Note → Bool) (before later : List Note) (note : Note) → test note ≡ true → 1 ≤ length (filter test (before ++ note ∷ later))
counted test before later note is =
    let parts = ap (λ (all : List Note). length all) (filter-append test before (note ∷ later)) ∙ length-append (filter test before) (filter test (note ∷ later)) in
    let one : length (filter test (note ∷ later)) ≡ suc (length (filter test later)) = ap (λ (b : Bool). length (if b then note ∷ filter test later else filter test later)) is in
    omega (arith, parts, one)

no_enter : (handle : ℕ) (done began : Option Kind) → length (filter is_enter (done_notes handle done ++ began_notes handle began)) ≡ 0
no_enter handle None None = refl
no_enter handle None (Some kind) = refl
no_enter handle (Some kind) None = refl
no_enter handle (Some kind) (Some other) = refl

no_applied : (handle : ℕ) (done began : Option Kind) → length (filter is_applied_note (done_notes handle done ++ began_notes handle began)) ≡ 0
no_applied handle None None = refl
no_applied handle None (Some kind) = refl
no_applied handle (Some kind) None = refl
no_applied handle (Some kind) (Some other) = refl

abbrev entry_of : ℕ → EventNo → ℕ → Option ℕ → Option Kind → Option Kind → List Note
entry_of handle event channel applied done began =
    applied_notes handle event.0 applied ++ Enter handle event channel ∷ [] ++ done_notes handle done ++ began_notes handle began

pub record IsEnter (handle : ℕ) (event : EventNo) (channel : ℕ) (applied : Option ℕ) (before : List Note) (number : EventNo) (own : ℕ) : Type 0 where
  pub before_is : before ≡ applied_notes handle event.0 applied
  pub number_is : number ≡ event
  pub channel_is : own ≡ channel

-- the first note of an event, where no other one comes after it
module _ (handle : ℕ) (event : EventNo) (channel : ℕ) (more : List Note) (none : length (filter is_enter more) ≡ 0) where
  not_later : (before later : List Note) (own_handle own : ℕ) (number : EventNo) → more ≡ before ++ Enter own_handle number own ∷ later → ⊥
  not_later before later own_handle own number is =
      let some = counted is_enter before later (Enter own_handle number own) refl in
      let same = ap (λ (all : List Note). length (filter is_enter all)) is in
      omega (arith, some, none, same)

  pub find_enter : (applied : Option ℕ) (before later : List Note) (own_handle own : ℕ) (number : EventNo)
      → applied_notes handle event.0 applied ++ Enter handle event channel ∷ more ≡ before ++ Enter own_handle number own ∷ later
      → IsEnter handle event channel applied before number own
  find_enter None [] later own_handle own number is = record { before_is = refl; number_is = cc; channel_is = cc }
  find_enter None (note ∷ before) later own_handle own number is = absurd (not_later before later own_handle own number (cc))
  find_enter (Some n) [] later own_handle own number is = absurd (cc)
  find_enter (Some n) (note ∷ []) later own_handle own number is =
      let first : note ≡ Applied handle n event = cc in record { before_is = ap (λ (note : Note). note ∷ []) first; number_is = cc; channel_is = cc }
  find_enter (Some n) (note ∷ other ∷ before) later own_handle own number is = absurd (not_later before later own_handle own number (cc))

module _ (handle : ℕ) (event : EventNo) (channel : ℕ) (done began : Option Kind) where
  applied_not_later : (before later : List Note) (own_handle own : ℕ) (number : EventNo) → done_notes handle done ++ began_notes handle began ≡ before ++ Applied own_handle own number ∷ later → ⊥
  applied_not_later before later own_handle own number is =
      let some = counted is_applied_note before later (Applied own_handle own number) refl in
      let none = no_applied handle done began in
      let same = ap (λ (all : List Note). length (filter is_applied_note all)) is in
      omega (arith, some, none, same)

  pub record IsApplied (applied : Option ℕ) (before later : List Note) (own_handle own : ℕ) (number : EventNo) : Type 0 where
    pub before_is : before ≡ []
    pub applied_is : applied ≡ Some own
    pub handle_is : own_handle ≡ handle
    pub number_is : number ≡ event
    pub later_is : later ≡ Enter own_handle number channel ∷ (done_notes handle done ++ began_notes handle began)

  find_applied : (applied : Option ℕ) (before later : List Note) (own_handle own : ℕ) (number : EventNo)
      → entry_of handle event channel applied done began ≡ before ++ Applied own_handle own number ∷ later → IsApplied applied before later own_handle own number
  find_applied None [] later own_handle own number is = absurd (cc)
  find_applied None (note ∷ before) later own_handle own number is = absurd (applied_not_later before later own_handle own number (cc))
  find_applied (Some n) [] later own_handle own number is =
      let same : n ≡ own = cc in
      let handles : own_handle ≡ handle = cc in
      let events : number ≡ event = cc in
      let rest : later ≡ Enter handle event channel ∷ (done_notes handle done ++ began_notes handle began) = cc in record {
        before_is = refl;
        applied_is = ap (λ (k : ℕ). Some k) same;
        handle_is = handles;
        number_is = events;
        later_is = rest ∙ (λ i. Enter (sym handles i) (sym events i) channel ∷ (done_notes handle done ++ began_notes handle began));
      }
  find_applied (Some n) (note ∷ []) later own_handle own number is = absurd (cc)
  find_applied (Some n) (note ∷ other ∷ before) later own_handle own number is = absurd (applied_not_later before later own_handle own number (cc))

-- ---- its own note changes nothing that is in force

changes_before : (role : Role) (notes : List Note) (handle channel : ℕ) (event : EventNo) → changes_noted role (notes ++ Enter handle event channel ∷ []) ≡ changes_noted role notes
changes_before role notes handle channel event =
    let note = Enter handle event channel in
    let sum = applied_more notes (note ∷ []) in
    let number : applied_noted (notes ++ note ∷ []) ≡ applied_noted notes = omega (arith, sum) in
    let takings : takings_noted role (notes ++ note ∷ []) ≡ takings_noted role notes =
    takings_more role notes (note ∷ []) ∙ (λ i. takings_noted role notes ++ (taking_if (event_noted notes) (enter_says_none role handle channel event i) ++ []))
    ∙ append-nil (takings_noted role notes) in
    λ i. take (number i) (changes_in (takings i))

anchor_entered : (waits : Option Change) (t : TrackFacts) → t.waits ≡ waits → (track_in_next waits t).anchor ≡ next_anchor_of t
anchor_entered None t is = refl
anchor_entered (Some change) t is = by (is_due change t.entered)
  where
    by : (due : Bool) → (if due then track_changed change t else track_unchanged t).anchor ≡ next_anchor_of t
    by true = refl
    by false = refl

none_noted : (before later : List Note) (note : Note) → [] ≡ before ++ note ∷ later → ⊥
none_noted [] later note is = absurd (cc)
none_noted (first ∷ before) later note is = absurd (cc)

-- ---- an event is entered

module _ (setup : Setup) (past : List Step) (slot : ℕ) (ranges : setup.link.role ≡ Central → HasRanges setup past) where
  abbrev t : TrackFacts
  t = (facts_of setup past).control.track

  abbrev c : Control
  c = (facts_of setup past).control

  abbrev u : TrackFacts
  u = track_after_enter t

  abbrev own_channel : ℕ
  own_channel = channel_of (algorithm_of setup.link) (event_of u) u.params.map

  abbrev own_event : EventNo
  own_event = record { 0 = event_of u }

  abbrev quiet : Bool
  quiet = is_quiet_now (facts_of setup past)

  -- its notes
  own_notes : notes_after setup (facts_of setup past) (EventEntered slot) ≡ notes_when setup slot quiet c u (is_none c.ends)
  own_notes = entry_notes_are setup slot (facts_of setup past)

  knows_before : is_none c.ends ≡ true → Knows setup.link.role (first_params setup.link.fields) (first_anchor setup) (notes_of setup past) true t
  knows_before is = subst (λ (b : Bool). Knows setup.link.role (first_params setup.link.fields) (first_anchor setup) (notes_of setup past) b t) is (past_known setup past ranges).part.knows

  follows_then : is_none c.ends ≡ true
      → Follows (first_params setup.link.fields) (first_anchor setup)
      (changes_noted setup.link.role (notes_of setup past ++ applied_notes setup.link.handle (event_of u) (next_number t))) u
  follows_then is =
      let applied = applied_notes setup.link.handle (event_of u) (next_number t) in
      let note = Enter setup.link.handle own_event own_channel in
      let after = knows_entered setup.link.role (first_params setup.link.fields) (first_anchor setup) (notes_of setup past) t setup.link.handle own_channel (knows_before is) in
      let more = entered_more t.waits t in
      subst (λ (changes : List Change). Follows (first_params setup.link.fields) (first_anchor setup) changes u)
      (ap (changes_noted setup.link.role) (sym (append_assoc (notes_of setup past) applied (note ∷ [])))
      ∙ changes_before setup.link.role (notes_of setup past ++ applied) setup.link.handle own_channel own_event)
      (follows_now setup.link.role (first_params setup.link.fields) (first_anchor setup) (notes_of setup past ++ (applied ++ note ∷ [])) true u after (omega (arith, more)))

  -- the notes of an end that goes on
  pub entry_are : is_none c.ends ≡ true → let entry = entry_when slot quiet c true in
      notes_after setup (facts_of setup past) (EventEntered slot)
      ≡ applied_notes setup.link.handle (event_of u) (next_number t) ++ Enter setup.link.handle own_event own_channel
      ∷ (done_notes setup.link.handle entry.done ++ began_notes setup.link.handle entry.began)
  entry_are is =
      let entry = entry_when slot quiet c true in
      let done = done_notes setup.link.handle entry.done in
      let began = began_notes setup.link.handle entry.began in
      let applied = applied_notes setup.link.handle (event_of u) (next_number t) in
      let note = Enter setup.link.handle own_event own_channel in
      own_notes ∙ ap (λ b. notes_when setup slot quiet c u b) is ∙ append_assoc (applied ++ note ∷ []) done began ∙ append_assoc applied (note ∷ []) (done ++ began)

  entered_by : (b : Bool) → is_none c.ends ≡ b → (before later : List Note) (handle : ℕ) (event : EventNo) (channel : ℕ)
      → notes_when setup slot quiet c u b ≡ before ++ Enter handle event channel ∷ later → IsEnteredBy setup past (notes_of setup past ++ before) event.0 channel
  entered_by false is before later handle event channel same = absurd (none_noted before later (Enter handle event channel) same)
  entered_by true is before later handle event channel same =
      let entry = entry_when slot quiet c true in
      let done = done_notes setup.link.handle entry.done in
      let began = began_notes setup.link.handle entry.began in
      let applied = applied_notes setup.link.handle (event_of u) (next_number t) in
      let note = Enter setup.link.handle own_event own_channel in
      let found = find_enter setup.link.handle own_event own_channel (done ++ began) (no_enter setup.link.handle entry.done entry.began) (next_number t) before later handle channel event
      (sym (append_assoc (applied ++ note ∷ []) done began ∙ append_assoc applied (note ∷ []) (done ++ began)) ∙ same) in
      let follows = subst (λ (some : List Note). Follows (first_params setup.link.fields) (first_anchor setup) (changes_noted setup.link.role (notes_of setup past ++ some)) u)
      (sym found.before_is) (follows_then is) in
      let number : event.0 ≡ event_of u = ap (λ (e : EventNo). e.0) found.number_is in record {
        number = number ∙ entered_event t.waits t;
        anchor = sym (anchor_entered t.waits t refl) ∙ follows.anchor
            ∙ ap (anchor_in (first_anchor setup) (first_params setup.link.fields) (changes_noted setup.link.role (notes_of setup past ++ before))) (sym number);
        on_channel = found.channel_is
            ∙ (λ i. channel_of (algorithm_of setup.link) (sym number i) (follows.params i).map)
            ∙ ap (λ (n : ℕ). channel_of (algorithm_of setup.link) event.0 (params_in (first_params setup.link.fields) (changes_noted setup.link.role (notes_of setup past ++ before)) n).map) (sym number);
      }

  pub enters : (before later : List Note) (handle : ℕ) (event : EventNo) (channel : ℕ)
      → notes_after setup (facts_of setup past) (EventEntered slot) ≡ before ++ Enter handle event channel ∷ later
      → IsEnteredBy setup past (notes_of setup past ++ before) event.0 channel
  enters before later handle event channel same = entered_by (is_none c.ends) refl before later handle event channel (sym own_notes ∙ same)

  applied_by : (b : Bool) → is_none c.ends ≡ b → (before later : List Note) (handle number : ℕ) (event : EventNo)
      → notes_when setup slot quiet c u b ≡ before ++ Applied handle number event ∷ later
      → IsAppliedInTime setup.link.role (notes_of setup past ++ before) handle number event later
  applied_by false is before later handle number event same = absurd (none_noted before later (Applied handle number event) same)
  applied_by true is before later handle number event same =
      let entry = entry_when slot quiet c true in
      let found = find_applied setup.link.handle own_event own_channel entry.done entry.began (next_number t) before later handle number event same in
      let coming = comes setup.link.role (first_params setup.link.fields) (first_anchor setup) (notes_of setup past) t number (knows_before is) found.applied_is in
      let at : t.entered ≡ event.0 = sym (ap (λ (e : EventNo). e.0) found.number_is ∙ entered_event t.waits t) in
      let notes : notes_of setup past ≡ notes_of setup past ++ before =
      sym (ap (λ (some : List Note). notes_of setup past ++ some) found.before_is ∙ append-nil (notes_of setup past)) in
      subst (λ (notes : List Note). IsAppliedInTime setup.link.role notes handle number event later) notes
      (record {
        next = coming.next;
        taking = coming.taking;
        is_next = coming.is_next;
        in_time = subst (λ (n : ℕ). (n ≡ coming.taking.change.at.0) ⊎ ((n ≡ coming.taking.change.at.0 + 1) × (coming.taking.taken_in ≡ coming.taking.change.at.0))) at coming.in_time;
        channel = own_channel;
        rest = done_notes setup.link.handle entry.done ++ began_notes setup.link.handle entry.began;
        then_enters = found.later_is;
      })

  pub applies : (before later : List Note) (handle number : ℕ) (event : EventNo)
      → notes_after setup (facts_of setup past) (EventEntered slot) ≡ before ++ Applied handle number event ∷ later
      → IsAppliedInTime setup.link.role (notes_of setup past ++ before) handle number event later
  applies before later handle number event same = applied_by (is_none c.ends) refl before later handle number event (sym own_notes ∙ same)

-- ---- where an end is

pub past_follows : (setup : Setup) (past : List Step) → (setup.link.role ≡ Central → HasRanges setup past) → 1 ≤ (facts_of setup past).control.track.entered
    → Follows (first_params setup.link.fields) (first_anchor setup) (changes_noted setup.link.role (notes_of setup past)) (facts_of setup past).control.track
past_follows setup past ranges in_event =
    follows_now setup.link.role (first_params setup.link.fields) (first_anchor setup) (notes_of setup past) (goes_on (facts_of setup past)) (facts_of setup past).control.track
    (past_known setup past ranges).part.knows in_event
