-- The steps of the control part of a peripheral, as joint runs of the procedures that exclude each other see them.
use Rattle.std.proofs.Common.{◌≡◌, ◌⊎◌, ℕ, zero, suc, ◌+◌, ◌<◌, nat_le, Bool, true, false, ◌&&◌, Option, Some, None, is_some, Result, refl, ap, subst, ◌∙◌, arith, leb-true, inl, inr}
use Rattle.ble_base.specs.declared.error_codes.ErrCode.{ErrCode}
use Rattle.ble_base.specs.declared.procedure_kinds.Kind.{Kind}
use Rattle.ble_base.specs.declared.procedure_kinds.Kind.TheVariants.{Phy, Request}
use Rattle.ble_base.specs.declared.roles.Role.TheVariants.{Peripheral as peripheral_role}
use Rattle.data_pdu.specs.declared.ctrl.Ctrl.{Ctrl}
use Rattle.data_pdu.specs.declared.ctrl.Ctrl.TheVariants.{TerminateInd}
use Rattle.exclusive_stages.specs.declared.pdus.Exclusive.TheVariants.{Phy as PhyOf, Request as RequestOf}
use Rattle.exclusive_stages.specs.declared.pdus.Pdu.{Pdu}
use Rattle.instants.specs.declared.track.Change.{Change}
use Rattle.instants.specs.Track.{event_of, next_number, track_after_enter}
use Rattle.collision_steps.specs.procedure_values.declared.asks.Ask.{Ask}
use Rattle.collision_steps.specs.procedure_stages.declared.stages.Ahead.{Ahead}
use Rattle.collision_steps.specs.procedure_stages.declared.stages.Ahead.TheVariants.{Map as map_ahead, Nothing as nothing_ahead, Update as update_ahead}
use Rattle.collision_steps.specs.procedure_stages.declared.stages.Peripheral.{Peripheral}
use Rattle.collision_steps.specs.procedure_stages.declared.stages.Progress.{Progress}
use Rattle.collision_steps.specs.procedure_stages.declared.stages.Progress.TheVariants.{Central as central, Peripheral as peripheral}
use Rattle.collision_steps.specs.procedure_stages.Closing.{is_open}
use Rattle.collision_steps.specs.procedure_stages.InProgress.{is_host_asked}
use Rattle.collision_steps.specs.procedure_stages.Kinds.{role_of}
use Rattle.collision_steps.specs.procedures.Beginning.{begin_step}
use Rattle.collision_steps.specs.procedures.Going.{entered_step, host_answer_step, is_answer, owe_step, terminate_step}
use Rattle.collision_steps.specs.procedures.Table.{TableFacts}
use Rattle.collisions.specs.declared.joint.Way.{Way}
use Rattle.collisions.specs.declared.events.Place.{Place}
use Rattle.collisions.specs.declared.events.Place.TheVariants.{After, At, Before, LateAt, LateBefore}
use Rattle.collisions.specs.declared.peripheral.Peripheral.{Peripheral as PeripheralPdus}
use Rattle.collisions.specs.PeripheralTable
use Rattle.collisions.proofs.Numbers.{FitsPeripheral}
use Rattle.collision_steps.specs.PeripheralPart.{after_steps, ahead_part, may_begin_by, peripheral_of, step_of_begun, step_of_given}
use Rattle.collision_steps.proofs.PeripheralTaking.{over}
use Rattle.collision_steps.proofs.PeripheralGoing.{begun_may, begun_part, disconnects_one, enters_one, owes_one}
use Rattle.joint_controls.specs.control_model.Control.{Answers, Asks, Control, Disconnects, Enters, Owes, after, table_if}
use Rattle.joint_controls.specs.control_model.Waits.{kind_ahead, kind_awaited, kind_waiting}
use Rattle.joint_controls.proofs.control_model.Calls.{any_step, begun_same, given_same, held_over}
use Rattle.joint_controls.proofs.control_model.Waiting.{Awaits}
use Rattle.joint_collisions.specs.Views.{View, view_by, waits_part}
use Rattle.joint_collisions.proofs.Reaching.{IsAtPeripheral, IsFar, Seen, begins_peripheral, closes_peripheral, now_of, sound_of}
use Rattle.joint_collisions.proofs.Instants.{enters_peripheral, is_due_at, waits_after}
use Rattle.joint_collisions.proofs.CentralSteps.{entering}
use Rattle.joint_collisions.proofs.Resting.{rests}

pub is_peripheral : (p : Progress) → role_of p ≡ peripheral_role → (x : Peripheral) × (p ≡ peripheral x)
is_peripheral (central c) is = absurd (cc)
is_peripheral (peripheral x) is = (x, refl)

-- ---- a link that is to end already ends again

closed_again : (t : PeripheralPdus) → t.closed ≡ true → t ≡ PeripheralTable.terminated t
closed_again t is = λ i. record t { closed = is i }

pub closing_seen : (v : View) (closed : Bool) → v.peripheral.closed ≡ closed → Seen v → Seen (record v { peripheral = PeripheralTable.terminated v.peripheral })
closing_seen v true is s = subst (λ (t : PeripheralPdus). Seen (record v { peripheral = t })) (closed_again v.peripheral is) s
closing_seen v false is s = closes_peripheral v s is

-- ---- a peripheral, next to a central and what is on its way

module _ (c : Control) (down up : Way) (kept : Option Pdu) where
  abbrev pub view_at : Control → View
  view_at p = view_by c p down up kept

  -- a link with this peripheral is one of a joint run
  pub record SeenAt (p : Control) : Type 0 where
    pub role : role_of p.table.progress ≡ peripheral_role
    pub seen : Seen (view_at p)

  with_table : (p : Control) (g : TableFacts) (t : PeripheralPdus) → role_of g.progress ≡ peripheral_role → peripheral_of g ≡ t
      → Seen (record (view_at p) { peripheral = t }) → SeenAt (record p { table = g })
  with_table p g t role is seen = record { role = role; seen = rw is seen }

  -- ---- a PDU of the encryption is queued

  owed_by : (p : Control) (x : Peripheral) (ctrl : Ctrl) → p.table.progress ≡ peripheral x → SeenAt p → SeenAt (record p { table = owe_step p.table ctrl })
  owed_by p x ctrl is s =
      with_table p (owe_step p.table ctrl) (after_steps (step_of_given ctrl) (peripheral_of p.table)) ((given_same p.table.progress ctrl).role ∙ s.role)
      (owes_one p.table x ctrl is) (by ctrl)
    where
      by : (ctrl : Ctrl) → Seen (record (view_at p) { peripheral = after_steps (step_of_given ctrl) (peripheral_of p.table) })
      by (TerminateInd code) = closing_seen (view_at p) (peripheral_of p.table).closed refl s.seen
      by other = s.seen

  pub owes : (ctrl : Ctrl) (p : Control) → SeenAt p → SeenAt (after (Owes ctrl) p)
  owes ctrl p s =
      let x = is_peripheral p.table.progress s.role in any_step SeenAt (Owes ctrl) p (owed_by p x.0 ctrl x.1 s) s

  -- ---- an event is entered

  begun : (p : Control) (x : Peripheral) (slot : ℕ) (quiet : Bool) → p.table.progress ≡ peripheral x → SeenAt p
      → SeenAt (record p { table = (begin_step p.table slot quiet).0 })
  begun p x slot quiet is s =
      with_table p (begin_step p.table slot quiet).0 (after_steps (step_of_begun (begin_step p.table slot quiet).1) (peripheral_of p.table))
      ((begun_same p.table slot quiet).role ∙ s.role) (begun_part p.table x slot quiet is) (by (begin_step p.table slot quiet).1 (begun_may p.table x slot quiet is))
    where
      by : (kind : Option Kind) → may_begin_by (step_of_begun kind) (peripheral_of p.table) ≡ true
          → Seen (record (view_at p) { peripheral = after_steps (step_of_begun kind) (peripheral_of p.table) })
      by (Some Request) may = begins_peripheral (view_at p) s.seen RequestOf may
      by (Some Phy) may = begins_peripheral (view_at p) s.seen PhyOf may
      by kind may = s.seen

  not_zero : (at n : ℕ) → at + 1 ≡ n → (1 < n) ⊎ ((1 ≡ n) × IsFar n) → nat_le at 0 ≡ false
  not_zero at n is where_is = by (nat_le at 0) refl where_is
    where
      by : (b : Bool) → nat_le at 0 ≡ b → (1 < n) ⊎ ((1 ≡ n) × IsFar n) → b ≡ false
      by true e (inl less) = let le = leb-true at 0 e in absurd (omega (arith, is, le, less))
      by true e (inr (one, inl none)) = absurd (omega (arith, one, none))
      by true e (inr (one, inr far)) = absurd (omega (arith, one, far))
      by false e h = refl

  not_yet_at : (at : ℕ) (place : Place) (over older c : ℕ) → IsFar over → IsFar older → FitsPeripheral place 0 over older c
      → IsAtPeripheral (Some at) place over older → nat_le at 0 ≡ false
  not_yet_at at Before over older c far far_older fits is = not_zero at over is (inl fits.1)
  not_yet_at at At over older c far far_older fits is = not_zero at over is (inr (fits.1, far))
  not_yet_at at After over older c far far_older fits is = absurd is
  not_yet_at at LateBefore over older c far far_older fits is = not_zero at older is (inl fits.0)
  not_yet_at at LateAt over older c far far_older fits is = not_zero at older is (inr (fits.0, far_older))

  not_yet : (waits : Option ℕ) (place : Place) (over older c : ℕ) → IsFar over → IsFar older → FitsPeripheral place 0 over older c
      → IsAtPeripheral waits place over older → is_due_at waits 0 ≡ false
  not_yet None place over older c far far_older fits is = refl
  not_yet (Some at) place over older c far far_older fits is = not_yet_at at place over older c far far_older fits is

  abbrev entered_view : Control → ℕ → View
  entered_view p next =
      record (view_at p) {
        peripheral = PeripheralTable.entered (is_due_at (waits_part p.track.waits) next) (peripheral_of p.table);
        peripheral_event = next;
        peripheral_waits = waits_after (waits_part p.track.waits) next;
      }

  -- where nothing waits, nothing is to be applied
  ahead_none : (p : Peripheral) → kind_awaited (peripheral p) ≡ None → ahead_part p.ahead ≡ None
  ahead_none p none = by p.ahead none
    where
      by : (ahead : Ahead) → kind_ahead ahead ≡ None → ahead_part ahead ≡ None
      by nothing_ahead h = refl
      by update_ahead h = absurd (cc)
      by map_ahead h = absurd (cc)

  none_waits : (waits : Option Change) → waits_part waits ≡ None → kind_waiting waits ≡ None
  none_waits None h = refl
  none_waits (Some change) h = absurd (cc)

  none_applied : (p : Control) → Awaits p → Seen (view_at p) → waits_part p.track.waits ≡ None
      → PeripheralTable.applied (peripheral_of p.table) ≡ peripheral_of p.table
  none_applied p a s none =
      let x = is_peripheral p.table.progress a.role in
      let free = none_waits p.track.waits none in
      let ahead : (peripheral_of p.table).ahead ≡ None =
      over (λ (g : TableFacts). kind_awaited g.progress ≡ None → (peripheral_of g).ahead ≡ None) p.table x.0 x.1 (ahead_none x.0) (a.same ∙ free) in
      rests (now_of (view_at p) s.reached).link (sound_of (view_at p) s.reached).known ahead

  in_event : (p : Control) (n : ℕ) → Awaits p → p.track.entered ≡ n → Seen (view_at p) → Seen (entered_view p n)
  in_event p zero a is s =
      let now : event_of p.track ≡ 0 = omega (arith, is) in
      let none = not_yet (waits_part p.track.waits) s.reached.peripheral_at (view_at p).passed_from s.reached.earlier (view_at p).central_event s.far s.far_earlier
      (subst (λ (e : ℕ). FitsPeripheral s.reached.peripheral_at e (view_at p).passed_from s.reached.earlier (view_at p).central_event) now (sound_of (view_at p) s.reached).fits.peripheral)
      s.peripheral_waits in
      rw none (subst (λ (e : ℕ). Seen (record (view_at p) { peripheral_event = e })) now s)
  in_event p (suc m) a is s =
      let now : event_of p.track + 1 ≡ suc m = omega (arith, is) in
      subst (λ (n : ℕ). Seen (entered_view p n)) now (enters_peripheral (view_at p) s (none_applied p a s))

  abbrev with_event : Control → Control
  with_event p =
      record p { table = (entered_step p.table (is_some (next_number p.track))).0; track = track_after_enter p.track }

  held_role : (f : TableFacts) (holds : Bool) → role_of (entered_step f holds).0.progress ≡ role_of f.progress
  held_role f true = (held_over f.progress).role
  held_role f false = refl

  event_entered : (p : Control) (x : Peripheral) → p.table.progress ≡ peripheral x → Awaits p → SeenAt p → SeenAt (with_event p)
  event_entered p x is a s =
      let next = entering p.track in
      let holds = is_some (next_number p.track) in
      let part : peripheral_of (entered_step p.table holds).0 ≡ PeripheralTable.entered (is_due_at (waits_part p.track.waits) p.track.entered) (peripheral_of p.table) =
      enters_one p.table x holds is ∙ ap (λ (b : Bool). PeripheralTable.entered b (peripheral_of p.table)) next.due in
      let event : event_of (track_after_enter p.track) ≡ p.track.entered = omega (arith, next.event) in
      record { role = held_role p.table holds ∙ s.role; seen = rw (part, event, next.waits) (in_event p p.track.entered a refl s.seen) }

  pub enters : (slot : ℕ) (quiet : Bool) (p : Control) → Awaits p → SeenAt p → SeenAt (after (Enters slot quiet) p)
  enters slot quiet p a s =
      let x = is_peripheral p.table.progress s.role in
      let e = event_entered p x.0 x.1 a s in
      let y = is_peripheral (with_event p).table.progress e.role in
      any_step SeenAt (Enters slot quiet) p (begun (with_event p) y.0 slot quiet y.1 e) s

  -- ---- the host

  pub asks : (ask : Ask) (p : Control) → SeenAt p → SeenAt (after (Asks ask) p)
  asks ask p s = any_step SeenAt (Asks ask) p (record { role = s.role; seen = s.seen }) s

  -- a peripheral asks its host of no request
  pub answers : (answer : Result Ask ErrCode) (p : Control) → SeenAt p → SeenAt (after (Answers answer) p)
  answers answer p s =
      any_step SeenAt (Answers answer) p (by (is_host_asked p.table.progress && is_answer answer) (never p.table.progress s.role (is_answer answer))) s
    where
      never : (progress : Progress) → role_of progress ≡ peripheral_role → (right : Bool) → (is_host_asked progress && right) ≡ false
      never (central x) is right = absurd (cc)
      never (peripheral x) is right = refl

      by : (b : Bool) → b ≡ false → SeenAt (table_if b (host_answer_step p.table answer) p)
      by true is = absurd (cc)
      by false is = s

  pub disconnects : (reason : ErrCode) (p : Control) → SeenAt p → SeenAt (after (Disconnects reason) p)
  disconnects reason p s = any_step SeenAt (Disconnects reason) p (by (is_open p.table.closing) refl) s
    where
      by : (opened : Bool) → is_open p.table.closing ≡ opened → SeenAt (table_if opened (terminate_step p.table reason) p)
      by true is =
          let x = is_peripheral p.table.progress s.role in
          with_table p (terminate_step p.table reason) (PeripheralTable.terminated (peripheral_of p.table)) s.role (disconnects_one p.table x.0 reason x.1 is)
          (closing_seen (view_at p) (peripheral_of p.table).closed refl s.seen)
      by false is = s
