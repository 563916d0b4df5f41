-- The track of an end, step by step, as two ends say.
use Rattle.std.proofs.Common.{◌≡◌, ℕ, Bool, true, false, not, ◌&&◌, if◌then◌else◌, List, [], ◌∷◌, Option, Some, None, is_some, refl, sym, subst, ◌∙◌}
use Rattle.ble_base.specs.ErrorCodes.{instant_passed}
use Rattle.ble_base.specs.declared.error_codes.ErrCode.{ErrCode}
use Rattle.ble_base.specs.declared.roles.Role.{Role}
use Rattle.ble_base.specs.declared.roles.Role.TheVariants.{Central as central_role, Peripheral as peripheral_role}
use Rattle.data_pdu.specs.declared.ctrl.CtrlRead.{CtrlRead}
use Rattle.instants.specs.declared.indications.Params.{Params}
use Rattle.instants.specs.declared.indications.Indication.{Indication}
use Rattle.instants.specs.declared.track.Change.{Change}
use Rattle.instants.specs.Track.{TrackFacts, event_of, next_number, track_after_enter, track_after_take}
use Rattle.procedures.specs.procedure_values.declared.drafts.Outgoing.{Outgoing}
use Rattle.procedures.specs.procedure_values.declared.drafts.Outgoing.TheVariants.{Nothing, Rejection, Disconnect, Other}
use Rattle.procedures.specs.procedure_values.Drafts.{ctrl_of_outgoing, indication_of, is_out}
use Rattle.procedures.specs.procedure_stages.Closing.{is_open}
use Rattle.procedures.specs.procedure_stages.InProgress.{is_host_asked}
use Rattle.procedures.specs.procedure_stages.Kinds.{role_of}
use Rattle.procedures.specs.Going.{entered_step, is_answer, terminate_step}
use Rattle.procedures.specs.Queue.{next_of}
use Rattle.procedures.specs.Table.{TableFacts}
use Rattle.procedures.specs.Taking.{facts_with, outcome_of, took_step}
use Rattle.two_tracks.specs.TwoEnds.{TwoEnds, after_indication, after_sending, has_passed}
use Rattle.control_model.specs.Control.{Control, Step, Enters, Asks, Answers, Disconnects, Sends, SeesAcknowledged, Takes, Owes, after, after_all, ended, first_control, following, goes_out, indicated_by, is_to_come, moved, table_if, taken, went}
use Rattle.control_model.specs.Waits.{is_of_table_alone}
use Rattle.control_model.proofs.Outcomes.{Hands, fits}
use Rattle.control_model.proofs.Calls.{acked_same, answered_same, begun_same, either_way, given_same, held_over, open_step, any_step, sent_from, took_by}

-- ---- no step changes the role

abbrev HasRole : Role → Control → Type 0
HasRole role c = role_of c.table.progress ≡ role

module _ (role : Role) where
  role_if : (b : Bool) (g : TableFacts) (c : Control) → HasRole role c → role_of g.progress ≡ role → HasRole role (table_if b g c)
  role_if true g c is next = next
  role_if false g c is next = is

  role_entered : (b : Bool) (f : TableFacts) → role_of f.progress ≡ role → role_of (entered_step f b).0.progress ≡ role
  role_entered true f is = (held_over f.progress).role ∙ is
  role_entered false f is = is

  role_following : (r : Role) (indication : Option Indication) (c : Control) → HasRole role c → HasRole role (following r indication c)
  role_following central_role None c is = is
  role_following central_role (Some indication) c is = is
  role_following peripheral_role indication c is = is

  role_taken : (c : Control) (g : TableFacts) (indication : Option Indication) → HasRole role c → Hands indication c.table.progress g.progress
      → HasRole role (taken g None indication c)
  role_taken c g None is s = s.role ∙ is
  role_taken c g (Some indication) is h = by (is_to_come c.track indication)
    where
      by : (b : Bool) → HasRole role (if b then record c { table = g; track = track_after_take c.track indication } else ended (record { 0 = instant_passed }) c)
      by true = h.role ∙ sym h.here ∙ is
      by false = is

  role_moved : (step : Step) (c : Control) → HasRole role c → HasRole role (moved step c)
  role_moved (Enters slot quiet) c is =
      (begun_same (entered_step c.table (is_some (next_number c.track))).0 slot quiet).role ∙ role_entered (is_some (next_number c.track)) c.table is
  role_moved (Asks ask) c is = is
  role_moved (Answers answer) c is =
      role_if (is_host_asked c.table.progress && is_answer answer) _ c is ((answered_same c.table answer).role ∙ is)
  role_moved (Disconnects reason) c is = role_if (is_open c.table.closing) (terminate_step c.table reason) c is is
  role_moved (Sends slot quiet) c is =
      either_way (HasRole role) (goes_out quiet c) _ c
      (role_following (role_of c.table.progress) (went slot quiet c).1 (record c { table = (went slot quiet c).0 })
      ((sent_from (next_of c.table (event_of c.track) quiet) (event_of c.track) c.track.params.latency c.table.progress).role ∙ is))
      is
  role_moved SeesAcknowledged c is = role_if (is_out c.table.out) _ c is ((acked_same c.table.out c.table.progress).role ∙ is)
  role_moved (Takes read slot quiet) c is =
      took_by (HasRole role) c (λ code. is) read slot quiet
      (role_taken c (facts_with c.table slot (outcome_of c.table quiet read)) (indicated_by (outcome_of c.table quiet read).step.effect) is (fits c.table quiet read).hands)
  role_moved (Owes ctrl) c is = (given_same c.table.progress ctrl).role ∙ is

  pub same_role : (step : Step) (c : Control) → role_of c.table.progress ≡ role → role_of (after step c).table.progress ≡ role
  same_role step c is = any_step (HasRole role) step c (role_moved step c is) is

  role_all : (steps : List Step) (c : Control) → HasRole role c → HasRole role (after_all steps c)
  role_all [] c is = is
  role_all (step ∷ steps) c is = role_all steps (after step c) (same_role step c is)

pub role_after : (role : Role) (max_rx : ℕ) (first : Params) (slot : ℕ) (steps : List Step)
    → role_of (after_all steps (first_control role max_rx first slot)).table.progress ≡ role
role_after role max_rx first slot steps = role_all role steps (first_control role max_rx first slot) (by role)
  where
    by : (role : Role) → HasRole role (first_control role max_rx first slot)
    by central_role = refl
    by peripheral_role = refl

-- ---- the track

pub enters_track : (c : Control) (slot : ℕ) (quiet : Bool) → c.ends ≡ None → (after (Enters slot quiet) c).track ≡ track_after_enter c.track
enters_track c slot quiet lasts = open_step (λ (d : Control). d.track ≡ track_after_enter c.track) (Enters slot quiet) c lasts refl

same_if : (b : Bool) (g : TableFacts) (c : Control) → (table_if b g c).track ≡ c.track
same_if true g c = refl
same_if false g c = refl

alone : (step : Step) (c : Control) → is_of_table_alone step ≡ true → (moved step c).track ≡ c.track
alone (Enters slot quiet) c is = absurd (cc)
alone (Sends slot quiet) c is = absurd (cc)
alone (Takes read slot quiet) c is = absurd (cc)
alone (Asks ask) c is = refl
alone (Answers answer) c is = same_if (is_host_asked c.table.progress && is_answer answer) _ c
alone (Disconnects reason) c is = same_if (is_open c.table.closing) (terminate_step c.table reason) c
alone SeesAcknowledged c is = same_if (is_out c.table.out) _ c
alone (Owes ctrl) c is = refl

pub table_alone : (c : Control) (step : Step) → is_of_table_alone step ≡ true → (after step c).track ≡ c.track
table_alone c step is = any_step (λ (d : Control). d.track ≡ c.track) step c (alone step c is) refl

-- ---- what a central sends and takes

record SendsAs (s : TwoEnds) (indication : Option Indication) (d : Control) : Type 0 where
  track : d.track ≡ (after_sending indication s).central
  all : d.sent ≡ (after_sending indication s).sent

follows_own : (role : Role) (indication : Option Indication) (d : Control) (s : TwoEnds) → role ≡ central_role → s.central ≡ d.track → s.sent ≡ d.sent
    → SendsAs s indication (following role indication d)
follows_own central_role None d s is is_central is_sent = record { track = sym is_central; all = sym is_sent }
follows_own central_role (Some indication) d s is is_central is_sent =
    record { track = rw is_central refl; all = rw (is_central, is_sent) refl }
follows_own peripheral_role indication d s is is_central is_sent = absurd (cc)

-- where no control PDU may go out no indication does
none_goes : (outgoing : Outgoing) (event skips : ℕ) → is_some (ctrl_of_outgoing outgoing event skips) ≡ false → indication_of outgoing event skips ≡ None
none_goes Nothing event skips is = refl
none_goes (Rejection rejection) event skips is = absurd (cc)
none_goes (Disconnect code) event skips is = absurd (cc)
none_goes (Other draft) event skips is = absurd (cc)

stays_as : (c : Control) (s : TwoEnds) (indication : Option Indication) → indication ≡ None → s.central ≡ c.track → s.sent ≡ c.sent → SendsAs s indication c
stays_as c s None is is_central is_sent = record { track = sym is_central; all = sym is_sent }
stays_as c s (Some indication) is is_central is_sent = absurd (cc)

sends_as : (c : Control) (slot : ℕ) (quiet : Bool) (s : TwoEnds) → role_of c.table.progress ≡ central_role → c.ends ≡ None
    → s.central ≡ c.track → s.sent ≡ c.sent → SendsAs s (went slot quiet c).1 (after (Sends slot quiet) c)
sends_as c slot quiet s role lasts is_central is_sent =
    open_step (SendsAs s (went slot quiet c).1) (Sends slot quiet) c lasts (by (goes_out quiet c) refl)
  where
    by : (b : Bool) → goes_out quiet c ≡ b
        → SendsAs s (went slot quiet c).1 (if b then following (role_of c.table.progress) (went slot quiet c).1 (record c { table = (went slot quiet c).0 }) else c)
    by true is = follows_own (role_of c.table.progress) (went slot quiet c).1 (record c { table = (went slot quiet c).0 }) s role is_central is_sent
    by false is =
        stays_as c s (went slot quiet c).1 (none_goes (next_of c.table (event_of c.track) quiet) (event_of c.track) c.track.params.latency is) is_central is_sent

pub sends_track : (c : Control) (slot : ℕ) (quiet : Bool) (s : TwoEnds) → role_of c.table.progress ≡ central_role → c.ends ≡ None
    → s.central ≡ c.track → s.sent ≡ c.sent → (after (Sends slot quiet) c).track ≡ (after_sending (went slot quiet c).1 s).central
sends_track c slot quiet s role lasts is_central is_sent = (sends_as c slot quiet s role lasts is_central is_sent).track

pub sends_all : (c : Control) (slot : ℕ) (quiet : Bool) (s : TwoEnds) → role_of c.table.progress ≡ central_role → c.ends ≡ None
    → s.central ≡ c.track → s.sent ≡ c.sent → (after (Sends slot quiet) c).sent ≡ (after_sending (went slot quiet c).1 s).sent
sends_all c slot quiet s role lasts is_central is_sent = (sends_as c slot quiet s role lasts is_central is_sent).all

central_taken : (c : Control) (g : TableFacts) (indication : Option Indication) → role_of c.table.progress ≡ central_role
    → Hands indication c.table.progress g.progress → (taken g None indication c).track ≡ c.track
central_taken c g None role s = refl
central_taken c g (Some indication) role h = absurd (let here = h.here in cc)

pub central_takes : (c : Control) (read : CtrlRead) (slot : ℕ) (quiet : Bool) → role_of c.table.progress ≡ central_role
    → (after (Takes read slot quiet) c).track ≡ c.track
central_takes c read slot quiet role =
    any_step (λ (d : Control). d.track ≡ c.track) (Takes read slot quiet) c
    (took_by (λ (d : Control). d.track ≡ c.track) c (λ code. refl) read slot quiet
    (central_taken c (facts_with c.table slot (outcome_of c.table quiet read)) (indicated_by (outcome_of c.table quiet read).step.effect) role (fits c.table quiet read).hands))
    refl

-- ---- what a peripheral sends and takes

follows_nothing : (role : Role) (indication : Option Indication) (d : Control) → role ≡ peripheral_role → (following role indication d).track ≡ d.track
follows_nothing central_role indication d is = absurd (cc)
follows_nothing peripheral_role indication d is = refl

pub peripheral_sends : (c : Control) (slot : ℕ) (quiet : Bool) → role_of c.table.progress ≡ peripheral_role
    → (after (Sends slot quiet) c).track ≡ c.track
peripheral_sends c slot quiet role =
    any_step (λ (d : Control). d.track ≡ c.track) (Sends slot quiet) c
    (either_way (λ (d : Control). d.track ≡ c.track) (goes_out quiet c) _ c
    (follows_nothing (role_of c.table.progress) (went slot quiet c).1 (record c { table = (went slot quiet c).0 }) role) refl)
    refl

-- the link ends where the Instant has passed
abbrev ends_if : Bool → Option ErrCode
ends_if passed = if passed then Some (record { 0 = instant_passed }) else None

record TakesAs (s : TwoEnds) (change : Change) (passed : Bool) (d : Control) : Type 0 where
  track : d.track ≡ (after_indication passed change s).peripheral
  ends : d.ends ≡ ends_if passed

takes_if : (c : Control) (g : TableFacts) (change : Change) (s : TwoEnds) (b : Bool) → s.peripheral ≡ c.track → c.ends ≡ None
    → TakesAs s change (not b) (if b then record c { table = g; track = track_after_take c.track change.indication } else ended (record { 0 = instant_passed }) c)
takes_if c g change s true is lasts = record { track = rw is refl; ends = lasts }
takes_if c g change s false is lasts = record { track = sym is; ends = refl }

takes_indication : (c : Control) (g : TableFacts) (change : Change) (s : TwoEnds) → s.peripheral ≡ c.track → c.ends ≡ None
    → TakesAs s change (has_passed s.peripheral change) (taken g None (Some change.indication) c)
takes_indication c g change s is lasts =
    subst (λ (t : TrackFacts). TakesAs s change (has_passed t change) (taken g None (Some change.indication) c)) (sym is)
    (takes_if c g change s (is_to_come c.track change.indication) is lasts)

takes_with : (c : Control) (g : TableFacts) (change : Change) (s : TwoEnds) (ends : Option ErrCode) (indication : Option Indication)
    → ends ≡ None → indication ≡ Some change.indication → s.peripheral ≡ c.track → c.ends ≡ None
    → TakesAs s change (has_passed s.peripheral change) (taken g ends indication c)
takes_with c g change s ends indication none some is lasts = rw (none, some) (takes_indication c g change s is lasts)

takes_as : (c : Control) (read : CtrlRead) (slot : ℕ) (quiet : Bool) (change : Change) (s : TwoEnds) → c.ends ≡ None
    → (took_step c.table read slot quiet).1.ends ≡ None → indicated_by (took_step c.table read slot quiet).1.effect ≡ Some change.indication
    → s.peripheral ≡ c.track → TakesAs s change (has_passed s.peripheral change) (after (Takes read slot quiet) c)
takes_as c read slot quiet change s lasts none some is =
    open_step (TakesAs s change (has_passed s.peripheral change)) (Takes read slot quiet) c lasts
    (takes_with c (took_step c.table read slot quiet).0 change s _ _ none some is lasts)

pub takes_track : (c : Control) (read : CtrlRead) (slot : ℕ) (quiet : Bool) (change : Change) (s : TwoEnds) → c.ends ≡ None
    → (took_step c.table read slot quiet).1.ends ≡ None → indicated_by (took_step c.table read slot quiet).1.effect ≡ Some change.indication
    → s.peripheral ≡ c.track → (after (Takes read slot quiet) c).track ≡ (after_indication (has_passed s.peripheral change) change s).peripheral
takes_track c read slot quiet change s lasts none some is = (takes_as c read slot quiet change s lasts none some is).track

pub takes_ends : (c : Control) (read : CtrlRead) (slot : ℕ) (quiet : Bool) (change : Change) (s : TwoEnds) → c.ends ≡ None
    → (took_step c.table read slot quiet).1.ends ≡ None → indicated_by (took_step c.table read slot quiet).1.effect ≡ Some change.indication
    → s.peripheral ≡ c.track
    → (after (Takes read slot quiet) c).ends ≡ (if has_passed s.peripheral change then Some (record { 0 = instant_passed }) else None)
takes_ends c read slot quiet change s lasts none some is = (takes_as c read slot quiet change s lasts none some is).ends

nothing_with : (c : Control) (g : TableFacts) (ends : Option ErrCode) (indication : Option Indication) → indication ≡ None → (taken g ends indication c).track ≡ c.track
nothing_with c g (Some code) indication is = refl
nothing_with c g None None is = refl
nothing_with c g None (Some indication) is = absurd (cc)

pub takes_nothing : (c : Control) (read : CtrlRead) (slot : ℕ) (quiet : Bool) → indicated_by (took_step c.table read slot quiet).1.effect ≡ None
    → (after (Takes read slot quiet) c).track ≡ c.track
takes_nothing c read slot quiet none =
    any_step (λ (d : Control). d.track ≡ c.track) (Takes read slot quiet) c
    (nothing_with c (took_step c.table read slot quiet).0 (took_step c.table read slot quiet).1.ends _ none) refl
