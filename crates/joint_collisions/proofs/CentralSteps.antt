-- The steps of the control part of a central, as joint runs of the procedures that exclude each other see them.
use Rattle.std.proofs.Common.{◌≡◌, ℕ, zero, suc, ◌+◌, nat_le, Bool, true, false, ◌&&◌, Option, Some, None, is_none, is_some, Result, Ok, Err, refl, sym, ap, subst, ◌∙◌, arith, leb-true}
use Rattle.std.proofs.lemmas.Bool.{and_parts}
use Rattle.ble_base.specs.declared.error_codes.ErrCode.{ErrCode}
use Rattle.ble_base.specs.declared.procedure_kinds.Kind.{Kind}
use Rattle.ble_base.specs.declared.roles.Role.TheVariants.{Central as central_role}
use Rattle.data_pdu.specs.declared.ctrl.Ctrl.{Ctrl}
use Rattle.data_pdu.specs.declared.ctrl.Ctrl.TheVariants.{TerminateInd}
use Rattle.exclusive_stages.specs.declared.pdus.Exclusive.TheVariants.{Map as MapOf, Phy as PhyOf, Update as UpdateOf}
use Rattle.exclusive_stages.specs.declared.pdus.Pdu.{Pdu}
use Rattle.exclusive_stages.specs.Kinds.{is_host_asked_at_central}
use Rattle.instants.specs.declared.track.Change.{Change}
use Rattle.instants.specs.Track.{TrackFacts, event_of, is_due, next_number, track_after_enter}
use Rattle.collision_steps.specs.procedure_values.declared.asks.Ask.{Ask}
use Rattle.collision_steps.specs.procedure_values.declared.asks.Ask.TheVariants.{Update as ask_update}
use Rattle.collision_steps.specs.procedure_values.Asks.{kind_of_ask}
use Rattle.collision_steps.specs.procedure_stages.declared.stages.Central.{Central}
use Rattle.collision_steps.specs.procedure_stages.declared.stages.Progress.{Progress}
use Rattle.collision_steps.specs.procedure_stages.declared.stages.Progress.TheVariants.{Central as central, Peripheral as peripheral}
use Rattle.collision_steps.specs.procedure_stages.Closing.{is_open}
use Rattle.collision_steps.specs.procedure_stages.InProgress.{is_host_asked}
use Rattle.collision_steps.specs.procedure_stages.Kinds.{begins, own_kind, role_of}
use Rattle.collision_steps.specs.procedure_stages.Collisions.{peer_lets}
use Rattle.collision_steps.specs.procedures.Beginning.{ask_at, begin_at, begin_step, is_ready, may_begin, place_to_begin}
use Rattle.collision_steps.specs.procedures.Going.{entered_step, host_answer_step, is_answer, owe_step, terminate_step}
use Rattle.collision_steps.specs.procedures.Table.{TableFacts}
use Rattle.collisions.specs.declared.joint.Way.{Way}
use Rattle.collisions.specs.CentralTable
use Rattle.collisions.specs.declared.central.Central.{Central as CentralPdus}
use Rattle.collision_steps.specs.CentralPart.{after_steps, central_of, may_begin_by, passed_from, passed_from_of, step_of_answer, step_of_begun, step_of_given}
use Rattle.ble_base.specs.declared.procedure_kinds.Kind.TheVariants.{Map, Phy, Update}
use Rattle.collision_steps.specs.Parts.{reason_part}
use Rattle.collision_steps.proofs.CentralTaking.{over}
use Rattle.collision_steps.proofs.CentralGoing.{answers_one, begun_may, begun_part, disconnects_one, enters_one, found, owes_one}
use Rattle.joint_controls.specs.control_model.Control.{Answers, Asks, Control, Disconnects, Enters, Owes, after, table_if}
use Rattle.joint_controls.specs.control_model.Waits.{last_instant_of}
use Rattle.joint_controls.proofs.control_model.Calls.{any_step, answered_same, begun_same, given_same, held_over}
use Rattle.joint_collisions.specs.Views.{View, view_by, waits_part}
use Rattle.joint_collisions.proofs.Reaching.{IsAtCentral, Seen, begins_central, closes_central, grants, refuses}
use Rattle.joint_collisions.proofs.Instants.{enters_central, is_due_at, waits_after}

-- ---- the role, and the last Instant

pub is_central : (p : Progress) → role_of p ≡ central_role → (c : Central) × (p ≡ central c)
is_central (central c) is = (c, refl)
is_central (peripheral p) is = absurd (cc)

pub passed_by_last : (p : Progress) → passed_from p ≡ passed_from_of (last_instant_of p)
passed_by_last (central c) = refl
passed_by_last (peripheral p) = refl

pub passed_kept : (p q : Progress) → last_instant_of q ≡ last_instant_of p → passed_from q ≡ passed_from p
passed_kept p q last = passed_by_last q ∙ ap passed_from_of last ∙ sym (passed_by_last p)

-- ---- what begins, begins in phase Clear or Secure

begun_at : (f : TableFacts) (slot : ℕ) (quiet : Bool) (place : Option ℕ) (ask : Option Ask) (kind : Kind) → place_to_begin f quiet ≡ place
    → ask_at place f.wanted ≡ ask → (begin_at f slot place ask).1 ≡ Some kind → quiet ≡ true
begun_at f slot quiet None ask kind p a is = absurd (cc)
begun_at f slot quiet (Some place) None kind p a is = absurd (cc)
begun_at f slot quiet (Some place) (Some ask) kind p a is =
    let h = found (λ (x : Ask). may_begin f quiet (kind_of_ask x)) f.wanted place ask p a in
    let one = and_parts (is_ready f quiet && begins (role_of f.progress) (kind_of_ask ask)) (peer_lets f.progress (kind_of_ask ask)) h in
    let two = and_parts (is_ready f quiet) (begins (role_of f.progress) (kind_of_ask ask)) one.0 in
    let three = and_parts (is_none (own_kind f.progress) && quiet) (is_open f.closing) two.0 in
    (and_parts (is_none (own_kind f.progress)) quiet three.0).1

pub begun_quiet : (f : TableFacts) (slot : ℕ) (quiet : Bool) (kind : Kind) → (begin_step f slot quiet).1 ≡ Some kind → quiet ≡ true
begun_quiet f slot quiet kind is = begun_at f slot quiet (place_to_begin f quiet) (ask_at (place_to_begin f quiet) f.wanted) kind refl refl is

-- ---- a track, as an event is entered

pub record EntersNext (t : TrackFacts) : Type 0 where
  pub due : is_some (next_number t) ≡ is_due_at (waits_part t.waits) t.entered
  pub event : (track_after_enter t).entered ≡ t.entered + 1
  pub waits : waits_part (track_after_enter t).waits ≡ waits_after (waits_part t.waits) t.entered

entering_by : (t : TrackFacts) (waits : Option Change) → EntersNext (record t { waits = waits })
entering_by t None = record { due = refl; event = refl; waits = refl }
entering_by t (Some change) = by (is_due change t.entered) refl
  where
    by : (due : Bool) → is_due change t.entered ≡ due → EntersNext (record t { waits = Some change })
    by true is = record { due = rw is refl; event = rw is refl; waits = rw is refl }
    by false is = record { due = rw is refl; event = rw is refl; waits = rw is refl }

pub entering : (t : TrackFacts) → EntersNext t
entering t = entering_by t t.waits

-- ---- a link that is to end already ends again

closed_again : (t : CentralPdus) → t.closed ≡ true → t ≡ CentralTable.terminated t
closed_again t is = λ i. record t { closed = is i }

pub closing_seen : (v : View) (closed : Bool) → v.central.closed ≡ closed → Seen v → Seen (record v { central = CentralTable.terminated v.central })
closing_seen v true is s = subst (λ (t : CentralPdus). Seen (record v { central = t })) (closed_again v.central is) s
closing_seen v false is s = closes_central v s is

-- ---- a central, next to a peripheral and what is on its way

module _ (p : Control) (down up : Way) (kept : Option Pdu) where
  abbrev pub view_at : Control → View
  view_at c = view_by c p down up kept

  -- a link with this central is one of a joint run
  pub record SeenAt (c : Control) : Type 0 where
    pub role : role_of c.table.progress ≡ central_role
    pub seen : Seen (view_at c)

  -- the table changes, with the last Instant as it was
  with_table : (c : Control) (g : TableFacts) (t : CentralPdus) → role_of g.progress ≡ central_role → last_instant_of g.progress ≡ last_instant_of c.table.progress
      → central_of g ≡ t → Seen (record (view_at c) { central = t }) → SeenAt (record c { table = g })
  with_table c g t role last is seen =
      let passed = passed_kept c.table.progress g.progress last in
      record { role = role; seen = rw (is, passed) seen }

  -- ---- a PDU of the encryption is queued

  owed_by : (c : Control) (x : Central) (ctrl : Ctrl) → c.table.progress ≡ central x → SeenAt c → SeenAt (record c { table = owe_step c.table ctrl })
  owed_by c x ctrl is s =
      let same = given_same c.table.progress ctrl in
      with_table c (owe_step c.table ctrl) (after_steps (step_of_given ctrl) (central_of c.table)) (same.role ∙ s.role) same.last (owes_one c.table x ctrl is)
      (by ctrl)
    where
      by : (ctrl : Ctrl) → Seen (record (view_at c) { central = after_steps (step_of_given ctrl) (central_of c.table) })
      by (TerminateInd code) = closing_seen (view_at c) (central_of c.table).closed refl s.seen
      by other = s.seen

  pub owes : (ctrl : Ctrl) (c : Control) → SeenAt c → SeenAt (after (Owes ctrl) c)
  owes ctrl c s =
      let x = is_central c.table.progress s.role in
      any_step SeenAt (Owes ctrl) c (owed_by c x.0 ctrl x.1 s) s

  -- ---- an event is entered

  begun : (c : Control) (x : Central) (slot : ℕ) (quiet : Bool) → c.table.progress ≡ central x → (quiet ≡ true → kept ≡ None) → SeenAt c
      → SeenAt (record c { table = (begin_step c.table slot quiet).0 })
  begun c x slot quiet is free s =
      let same = begun_same c.table slot quiet in
      with_table c (begin_step c.table slot quiet).0 (after_steps (step_of_begun (begin_step c.table slot quiet).1) (central_of c.table))
      (same.role ∙ s.role) same.last (begun_part c.table x slot quiet is)
      (by (begin_step c.table slot quiet).1 refl (begun_may c.table x slot quiet is))
    where
      by : (kind : Option Kind) → (begin_step c.table slot quiet).1 ≡ kind → may_begin_by (step_of_begun kind) (central_of c.table) ≡ true
          → Seen (record (view_at c) { central = after_steps (step_of_begun kind) (central_of c.table) })
      by (Some Update) was may = begins_central (view_at c) s.seen UpdateOf (free (begun_quiet c.table slot quiet Update was)) may
      by (Some Map) was may = begins_central (view_at c) s.seen MapOf (free (begun_quiet c.table slot quiet Map was)) may
      by (Some Phy) was may = begins_central (view_at c) s.seen PhyOf (free (begun_quiet c.table slot quiet Phy was)) may
      by kind was may = s.seen

  -- the event itself
  not_yet : (waits : Option ℕ) (over : ℕ) → IsAtCentral waits 0 over → is_due_at waits 0 ≡ false
  not_yet None over is = refl
  not_yet (Some at) over is = by (nat_le at 0) refl
    where
      by : (b : Bool) → nat_le at 0 ≡ b → b ≡ false
      by true e = let le = leb-true at 0 e in absurd (omega (arith, is.1, le))
      by false e = refl

  abbrev entered_view : Control → ℕ → View
  entered_view c next =
      record (view_at c) {
        central = CentralTable.entered (is_due_at (waits_part c.track.waits) next) (central_of c.table);
        central_event = next;
        central_waits = waits_after (waits_part c.track.waits) next;
      }

  in_event : (c : Control) (n : ℕ) → c.track.entered ≡ n → Seen (view_at c) → Seen (entered_view c n)
  in_event c zero is s =
      let now : event_of c.track ≡ 0 = omega (arith, is) in
      let none = not_yet (waits_part c.track.waits) (passed_from c.table.progress)
      (subst (λ (e : ℕ). IsAtCentral (waits_part c.track.waits) e (passed_from c.table.progress)) now s.central_waits) in
      rw none (subst (λ (e : ℕ). Seen (record (view_at c) { central_event = e })) now s)
  in_event c (suc m) is s =
      let now : event_of c.track + 1 ≡ suc m = omega (arith, is) in
      subst (λ (n : ℕ). Seen (entered_view c n)) now (enters_central (view_at c) s)

  abbrev with_event : Control → Control
  with_event c =
      record c { table = (entered_step c.table (is_some (next_number c.track))).0; track = track_after_enter c.track }

  held_role : (f : TableFacts) (holds : Bool) → (role_of (entered_step f holds).0.progress ≡ role_of f.progress)
      × (last_instant_of (entered_step f holds).0.progress ≡ last_instant_of f.progress)
  held_role f true = let o = held_over f.progress in (o.role, o.last)
  held_role f false = (refl, refl)

  event_entered : (c : Control) (x : Central) → c.table.progress ≡ central x → SeenAt c → SeenAt (with_event c)
  event_entered c x is s =
      let next = entering c.track in
      let holds = is_some (next_number c.track) in
      let g = (entered_step c.table holds).0 in
      let kept_parts = held_role c.table holds in
      let part : central_of g ≡ CentralTable.entered (is_due_at (waits_part c.track.waits) c.track.entered) (central_of c.table) =
      enters_one c.table x holds is ∙ ap (λ (b : Bool). CentralTable.entered b (central_of c.table)) next.due in
      let event : event_of (track_after_enter c.track) ≡ c.track.entered = omega (arith, next.event) in
      let passed = passed_kept c.table.progress g.progress kept_parts.1 in
      record { role = kept_parts.0 ∙ s.role; seen = rw (part, event, next.waits, passed) (in_event c c.track.entered refl s.seen) }

  pub enters : (slot : ℕ) (quiet : Bool) (c : Control) → (quiet ≡ true → kept ≡ None) → SeenAt c → SeenAt (after (Enters slot quiet) c)
  enters slot quiet c free s =
      let x = is_central c.table.progress s.role in
      let e = event_entered c x.0 x.1 s in
      let y = is_central (with_event c).table.progress e.role in
      any_step SeenAt (Enters slot quiet) c (begun (with_event c) y.0 slot quiet y.1 free e) s

  -- ---- the host

  pub asks : (ask : Ask) (c : Control) → SeenAt c → SeenAt (after (Asks ask) c)
  asks ask c s = any_step SeenAt (Asks ask) c (record { role = s.role; seen = s.seen }) s

  asked_is : (f : TableFacts) (x : Central) → f.progress ≡ central x → is_host_asked f.progress ≡ true → is_host_asked_at_central (central_of f).peer ≡ true
  asked_is f x is = over (λ (g : TableFacts). is_host_asked g.progress ≡ true → is_host_asked_at_central (central_of g).peer ≡ true) f x is (λ h. h)

  answered : (c : Control) (x : Central) (answer : Result Ask ErrCode) → c.table.progress ≡ central x → is_host_asked c.table.progress ≡ true → SeenAt c
      → SeenAt (record c { table = host_answer_step c.table answer })
  answered c x answer is asked s =
      let same = answered_same c.table answer in
      with_table c (host_answer_step c.table answer) (after_steps (step_of_answer answer) (central_of c.table)) (same.role ∙ s.role) same.last
      (answers_one c.table x answer is) (by answer)
    where
      by : (answer : Result Ask ErrCode) → Seen (record (view_at c) { central = after_steps (step_of_answer answer) (central_of c.table) })
      by (Ok (ask_update interval latency timeout)) = grants (view_at c) s.seen (asked_is c.table x is asked)
      by (Ok ask) = s.seen
      by (Err code) = refuses (view_at c) s.seen (reason_part code) (asked_is c.table x is asked)

  pub answers : (answer : Result Ask ErrCode) (c : Control) → SeenAt c → SeenAt (after (Answers answer) c)
  answers answer c s =
      let x = is_central c.table.progress s.role in
      any_step SeenAt (Answers answer) c
      (by (is_host_asked c.table.progress) (is_answer answer) refl) s
    where
      by : (asked right : Bool) → is_host_asked c.table.progress ≡ asked → SeenAt (table_if (asked && right) (host_answer_step c.table answer) c)
      by true true is = let x = is_central c.table.progress s.role in answered c x.0 answer x.1 is s
      by true false is = s
      by false right is = s

  pub disconnects : (reason : ErrCode) (c : Control) → SeenAt c → SeenAt (after (Disconnects reason) c)
  disconnects reason c s = any_step SeenAt (Disconnects reason) c (by (is_open c.table.closing) refl) s
    where
      by : (opened : Bool) → is_open c.table.closing ≡ opened → SeenAt (table_if opened (terminate_step c.table reason) c)
      by true is =
          let x = is_central c.table.progress s.role in
          with_table c (terminate_step c.table reason) (CentralTable.terminated (central_of c.table)) s.role refl (disconnects_one c.table x.0 reason x.1 is)
          (closing_seen (view_at c) (central_of c.table).closed refl s.seen)
      by false is = s
