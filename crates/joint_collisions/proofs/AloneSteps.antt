-- Each step of a central but that it takes a PDU leaves it alone outside the phases Clear and Secure.
use Rattle.std.proofs.Common.{◌≡◌, ℕ, Bool, true, false, not, ◌&&◌, ◌||◌, if◌then◌else◌, List, [], ◌∷◌, Option, Some, None, is_none, is_some, Result, refl, sym, ap, subst, ◌∙◌}
use Rattle.std.proofs.lemmas.Bool.{and_parts}
use Rattle.ble_base.specs.declared.error_codes.ErrCode.{ErrCode}
use Rattle.ble_base.specs.declared.procedure_kinds.Kind.{Kind}
use Rattle.ble_base.specs.declared.procedure_kinds.Kind.TheVariants.{Encrypt}
use Rattle.ble_base.specs.declared.roles.Role.{Role}
use Rattle.ble_base.specs.declared.roles.Role.TheVariants.{Central as central_role, Peripheral as peripheral_role}
use Rattle.data_pdu.specs.declared.ctrl.Ctrl.{Ctrl}
use Rattle.joint_controls.specs.enc_phase.declared.facts.Transition.TheVariants.{Ask as AskTransition, Refuse}
use Rattle.joint_controls.specs.enc_phase.Phases.{is_quiet, may_follow}
use Rattle.exclusive_stages.specs.declared.pdus.Pdu.{Pdu}
use Rattle.exclusive_stages.specs.declared.stages.CentralStage.TheVariants.{Idle}
use Rattle.exclusive_stages.specs.declared.stages.PeerAtCentral.{PeerAtCentral}
use Rattle.exclusive_stages.specs.declared.stages.PeerAtCentral.TheVariants.{Absent, HostAsked}
use Rattle.exclusive_stages.specs.Kinds.{has_peer_at_central, is_host_asked_at_central, is_idle_at_central}
use Rattle.instants.specs.declared.indications.Indication.{Indication}
use Rattle.instants.specs.Track.{event_of, next_number}
use Rattle.collision_steps.specs.procedure_values.declared.asks.Ask.{Ask}
use Rattle.collision_steps.specs.procedure_values.Asks.{kind_of_ask}
use Rattle.collision_steps.specs.procedure_values.Drafts.{is_out}
use Rattle.collision_steps.specs.procedure_stages.declared.stages.Central.{Central}
use Rattle.collision_steps.specs.procedure_stages.declared.stages.Progress.{Progress}
use Rattle.collision_steps.specs.procedure_stages.declared.stages.Progress.TheVariants.{Central as central}
use Rattle.collision_steps.specs.procedure_stages.Closing.{is_open}
use Rattle.collision_steps.specs.procedure_stages.Collisions.{peer_lets}
use Rattle.collision_steps.specs.procedure_stages.InProgress.{has_peer, is_encrypting, is_host_asked}
use Rattle.collision_steps.specs.procedure_stages.Kinds.{begins, own_kind, role_of}
use Rattle.collision_steps.specs.procedures.Beginning.{ask_at, begin_at, begin_step, is_ready, may_begin, place_to_begin}
use Rattle.collision_steps.specs.procedures.Going.{entered_step, host_answer_step, is_answer, terminate_step}
use Rattle.collision_steps.specs.procedures.Queue.{next_of}
use Rattle.collision_steps.specs.procedures.Sending.{acked_step}
use Rattle.collision_steps.specs.procedures.Table.{TableFacts}
use Rattle.collisions.specs.declared.central.Central.{Central as CentralPdus}
use Rattle.collisions.specs.CentralTable
use Rattle.collisions.specs.JointRun.{is_empty}
use Rattle.collision_steps.specs.CentralPart.{after_steps, central_of, sending_of, step_of_begun}
use Rattle.collision_steps.specs.Parts.{outgoing_part}
use Rattle.collision_steps.proofs.CentralGoing.{acked_one, begun_part, disconnects_one, enters_one, found, owes_one, sends_one}
use Rattle.collision_steps.proofs.CentralTaking.{over}
use Rattle.joint_controls.specs.control_model.Control.{Answers, Asks, Control, Disconnects, Enters, Owes, SeesAcknowledged, Sends, after, following, goes_out, table_if, went}
use Rattle.joint_controls.proofs.control_model.Calls.{acked_same, any_step, begun_same, either_way, given_same, held_over, open_step, sent_from}
use Rattle.joint_controls.specs.phased_control.Phased.{Phased, ask_begun, asking_if, asks_again, encrypting_if, is_encrypt, is_open_now, is_pause_rsp, is_quiet_now, key_given, key_lacking, refused_if, request_of, table_entered, with_step}
use Rattle.joint_controls.specs.phased_control.Taken.{Enters as enters_end, SeesAcknowledged as acked_end, Sends as sends_end, phased_after, phased_moved}
use Rattle.joint_controls.specs.Joint.{AnswersRequest, AsksFor, Ends, HasKey, HasNoKey, HostStep, host_step}
use Rattle.joint_controls.proofs.Keeping.{asking_keeps, encrypting_if_keeps, given_keeps, lacking_keeps}
use Rattle.joint_collisions.proofs.Alone.{AloneIf, IsAlone, alone_acked, alone_entered, alone_given, alone_sent, alone_terminated, no_kind, refused_loud, starting_loud}
use Rattle.joint_collisions.proofs.CentralEnd.{going}
use Rattle.joint_collisions.proofs.CentralSteps.{begun_quiet, is_central}
use Rattle.joint_collisions.proofs.Reaching.{Seen, now_of, sound_of}
use Rattle.joint_collisions.proofs.Resting.{none_queued}
use Rattle.joint_collisions.specs.Views.{View}

-- a central that is alone
pub record AloneAt (c : Control) : Type 0 where
  pub role : role_of c.table.progress ≡ central_role
  pub alone : IsAlone (central_of c.table)

pub owes_alone : (ctrl : Ctrl) (c : Control) → AloneAt c → AloneAt (after (Owes ctrl) c)
owes_alone ctrl c a =
    let x = is_central c.table.progress a.role in
    any_step AloneAt (Owes ctrl) c
    (record { role = (given_same c.table.progress ctrl).role ∙ a.role; alone = rw (owes_one c.table x.0 ctrl x.1) (alone_given ctrl (central_of c.table) a.alone) }) a

-- ---- an event is entered

record BeginsAlone (g : TableFacts) : Type 0 where
  none : is_none (own_kind g.progress) ≡ true
  peer : has_peer g.progress ≡ false

same_kind : (a b : Kind) → ◌≡◌ {A = Option Kind} (Some a) (Some b) → a ≡ b
same_kind a b is = cc

lets_alone : (p : Progress) → peer_lets p Encrypt ≡ true → has_peer p ≡ false
lets_alone p h = by (has_peer p) (is_encrypting p) h
  where
    by : (peer encrypting : Bool) → (not (false && peer) && not (true && (peer || encrypting))) ≡ true → peer ≡ false
    by true encrypting h = absurd (cc)
    by false encrypting h = refl

begun_at : (g : TableFacts) (slot : ℕ) (quiet : Bool) (place : Option ℕ) (ask : Option Ask) → place_to_begin g quiet ≡ place → ask_at place g.wanted ≡ ask
    → (begin_at g slot place ask).1 ≡ Some Encrypt → BeginsAlone g
begun_at g slot quiet None ask p a is = absurd (cc)
begun_at g slot quiet (Some place) None p a is = absurd (cc)
begun_at g slot quiet (Some place) (Some ask) p a is =
    let h = found (λ (x : Ask). may_begin g quiet (kind_of_ask x)) g.wanted place ask p a in
    let one = and_parts (is_ready g quiet && begins (role_of g.progress) (kind_of_ask ask)) (peer_lets g.progress (kind_of_ask ask)) h in
    let two = and_parts (is_ready g quiet) (begins (role_of g.progress) (kind_of_ask ask)) one.0 in
    let three = and_parts (is_none (own_kind g.progress) && quiet) (is_open g.closing) two.0 in
    record {
      none = (and_parts (is_none (own_kind g.progress)) quiet three.0).0;
      peer = lets_alone g.progress (subst (λ (k : Kind). peer_lets g.progress k ≡ true) (same_kind (kind_of_ask ask) Encrypt is) one.1);
    }

is_encryption : (kind : Option Kind) → is_encrypt kind ≡ true → kind ≡ Some Encrypt
is_encryption (Some Encrypt) is = refl
is_encryption None is = absurd (cc)
is_encryption (Some other) is = absurd (cc)

none_begins : (g : TableFacts) (slot : ℕ) (kind : Option Kind) → (begin_step g slot false).1 ≡ kind → kind ≡ None
none_begins g slot None is = refl
none_begins g slot (Some kind) is = absurd (let no = begun_quiet g slot false kind is in cc)

empty_is : (xs : List Pdu) → is_empty xs ≡ true → xs ≡ []
empty_is [] h = refl
empty_is (x ∷ xs) h = absurd (cc)

absent_is : (peer : PeerAtCentral) → has_peer_at_central peer ≡ false → peer ≡ Absent
absent_is Absent h = refl
absent_is peer h = absurd (cc)

module _ (s : Phased) (lasts : s.control.ends ≡ None) (role : role_of s.control.table.progress ≡ central_role) (alone : AloneIf s) (slot : ℕ) where
  abbrev entered_table : TableFacts
  entered_table = table_entered s

  abbrev next : Control
  next = after (Enters slot (is_quiet_now s)) s.control

  held_role : (f : TableFacts) (holds : Bool) → role_of (entered_step f holds).0.progress ≡ role_of f.progress
  held_role f true = (held_over f.progress).role
  held_role f false = refl

  role_entered : role_of entered_table.progress ≡ central_role
  role_entered = held_role s.control.table (is_some (next_number s.control.track)) ∙ role

  next_table : next.table ≡ (begin_step entered_table slot (is_quiet_now s)).0
  next_table =
      open_step (λ (d : Control). d.table ≡ (begin_step entered_table slot (is_quiet_now s)).0) (Enters slot (is_quiet_now s)) s.control lasts refl

  role_next : role_of next.table.progress ≡ central_role
  role_next = ap (λ (f : TableFacts). role_of f.progress) next_table ∙ (begun_same entered_table slot (is_quiet_now s)).role ∙ role_entered

  part_next : central_of next.table ≡ after_steps (step_of_begun (begin_step entered_table slot (is_quiet_now s)).1) (central_of entered_table)
  part_next =
      let x = is_central entered_table.progress role_entered in
      ap (λ (f : TableFacts). central_of f) next_table ∙ begun_part entered_table x.0 slot (is_quiet_now s) x.1

  entered_alone : IsAlone (central_of s.control.table) → IsAlone (central_of entered_table)
  entered_alone a =
      let x = is_central s.control.table.progress role in
      rw (enters_one s.control.table x.0 (is_some (next_number s.control.track)) x.1) (alone_entered (central_of s.control.table) (is_some (next_number s.control.track)) a)

  -- nothing begins outside Clear and Secure
  loud_next : (quiet : Bool) → is_quiet_now s ≡ quiet → quiet ≡ false → AloneAt next
  loud_next true is loud = absurd (cc)
  loud_next false is loud =
      let kind = none_begins entered_table slot (begin_step entered_table slot false).1 refl in
      let same : central_of next.table ≡ central_of entered_table =
      part_next ∙ ap (λ (q : Bool). after_steps (step_of_begun (begin_step entered_table slot q).1) (central_of entered_table)) is
      ∙ ap (λ (k : Option Kind). after_steps (step_of_begun k) (central_of entered_table)) kind in
      record { role = role_next; alone = rw same (entered_alone (alone is)) }

  -- an encryption begins where nothing else is in progress
  encryption_next : (v : View) (seen : Seen v) → v.central ≡ central_of next.table → (begin_step entered_table slot (is_quiet_now s)).1 ≡ Some Encrypt → AloneAt next
  encryption_next v seen is kind =
      let b = begun_at entered_table slot (is_quiet_now s) (place_to_begin entered_table (is_quiet_now s)) (ask_at (place_to_begin entered_table (is_quiet_now s)) entered_table.wanted) refl refl kind in
      let x = is_central entered_table.progress role_entered in
      let same : central_of next.table ≡ central_of entered_table = part_next ∙ ap (λ (k : Option Kind). after_steps (step_of_begun k) (central_of entered_table)) kind in
      let own : (central_of entered_table).own ≡ Idle =
      over (λ (g : TableFacts). is_none (own_kind g.progress) ≡ true → (central_of g).own ≡ Idle) entered_table x.0 x.1 (no_kind x.0.own) b.none in
      let peer : (central_of entered_table).peer ≡ Absent =
      over (λ (g : TableFacts). has_peer g.progress ≡ false → (central_of g).peer ≡ Absent) entered_table x.0 x.1 (absent_is x.0.peer) b.peer in
      let whole : v.central ≡ central_of entered_table = is ∙ same in
      let idle : is_idle_at_central v.central.own ≡ true = ap (λ (t : CentralPdus). is_idle_at_central t.own) whole ∙ ap is_idle_at_central own in
      let none : CentralTable.has_no_peer v.central.peer ≡ true = ap (λ (t : CentralPdus). CentralTable.has_no_peer t.peer) whole ∙ ap CentralTable.has_no_peer peer in
      let queue = empty_is v.central.queue.items (none_queued (now_of v seen.reached).link (sound_of v seen.reached).known idle none) in
      record {
        role = role_next;
        alone = rw same (record { own = own; peer = peer; queue = sym (ap (λ (t : CentralPdus). t.queue.items) whole) ∙ queue });
      }

  pub enters_alone : (v : View) → Seen v → v.central ≡ central_of next.table → AloneIf (phased_after (enters_end slot) s)
  enters_alone v seen is = going AloneIf (enters_end slot) s lasts (by (is_encrypt (begin_step entered_table slot (is_quiet_now s)).1) refl)
    where
      by : (encrypts : Bool) → is_encrypt (begin_step entered_table slot (is_quiet_now s)).1 ≡ encrypts
          → AloneIf (encrypting_if encrypts (request_of (ask_begun entered_table (is_quiet_now s))) (with_step (Enters slot (is_quiet_now s)) s))
      by true e loud =
          (encrypting_if_keeps AloneAt owes_alone true (request_of (ask_begun entered_table (is_quiet_now s))) (with_step (Enters slot (is_quiet_now s)) s)
          (encryption_next v seen is (is_encryption (begin_step entered_table slot (is_quiet_now s)).1 e))).alone
      by false e loud = (loud_next (is_quiet_now s) refl loud).alone

-- ---- the host

not_asked : (f : TableFacts) (x : Central) → f.progress ≡ central x → (central_of f).peer ≡ Absent → is_host_asked f.progress ≡ false
not_asked f x is = over (λ (g : TableFacts). (central_of g).peer ≡ Absent → is_host_asked g.progress ≡ false) f x is (λ peer. by x.peer peer)
  where
    by : (peer : PeerAtCentral) → peer ≡ Absent → is_host_asked_at_central peer ≡ false
    by Absent h = refl
    by HostAsked h = absurd (cc)
    by peer h = refl

module _ (s : Phased) (lasts : s.control.ends ≡ None) (role : role_of s.control.table.progress ≡ central_role) (alone : AloneIf s) where
  now : is_quiet_now s ≡ false → AloneAt s.control
  now loud = record { role = role; alone = alone loud }

  asked_alone : (ask : Ask) → AloneAt s.control → AloneAt (after (Asks ask) s.control)
  asked_alone ask a = any_step AloneAt (Asks ask) s.control (record { role = a.role; alone = a.alone }) a

  answered_alone : (answer : Result Ask ErrCode) → AloneAt s.control → AloneAt (after (Answers answer) s.control)
  answered_alone answer a =
      let x = is_central s.control.table.progress role in
      any_step AloneAt (Answers answer) s.control
      (by (is_host_asked s.control.table.progress) (is_answer answer) (not_asked s.control.table x.0 x.1 a.alone.peer)) a
    where
      by : (asked right : Bool) → asked ≡ false → AloneAt (table_if (asked && right) (host_answer_step s.control.table answer) s.control)
      by true right is = absurd (cc)
      by false right is = a

  ended_alone : (reason : ErrCode) → AloneAt s.control → AloneAt (after (Disconnects reason) s.control)
  ended_alone reason a = any_step AloneAt (Disconnects reason) s.control (by (is_open s.control.table.closing) refl) a
    where
      by : (opened : Bool) → is_open s.control.table.closing ≡ opened → AloneAt (table_if opened (terminate_step s.control.table reason) s.control)
      by true is =
          let x = is_central s.control.table.progress role in
          record { role = role; alone = rw (disconnects_one s.control.table x.0 reason x.1 is) (alone_terminated (central_of s.control.table) a.alone) }
      by false is = a

  given_loud : (b : Bool) → is_quiet (if b then key_given s else s).phase ≡ false → is_quiet_now s ≡ false
  given_loud true loud = starting_loud s.phase loud
  given_loud false loud = loud

  refused_if_loud : (may : Bool) → is_quiet (refused_if may s).phase ≡ false → is_quiet_now s ≡ false
  refused_if_loud true loud = refused_loud s.phase loud
  refused_if_loud false loud = loud

  lacking_loud : (b : Bool) → is_quiet (if b then key_lacking s else s).phase ≡ false → is_quiet_now s ≡ false
  lacking_loud true loud = refused_if_loud (may_follow Refuse s.phase) loud
  lacking_loud false loud = loud

  hosted : (step : HostStep) → AloneIf (phased_moved (host_step step) s)
  hosted (AsksFor ask) loud = (asked_alone ask (now loud)).alone
  hosted (AnswersRequest answer) loud = (answered_alone answer (now loud)).alone
  hosted (Ends reason) loud = (ended_alone reason (now loud)).alone
  hosted HasKey loud = (given_keeps AloneAt owes_alone s (now (given_loud (s.asks_key && is_open_now s) loud))).alone
  hosted HasNoKey loud = (lacking_keeps AloneAt owes_alone s (now (lacking_loud (s.asks_key && is_open_now s) loud))).alone

  pub hosts_alone : (step : HostStep) → AloneIf (phased_after (host_step step) s)
  hosts_alone step = going AloneIf (host_step step) s lasts (hosted step)

  -- ---- what is sent and acknowledged

  following_table : (r : Role) (some : Option Indication) (c : Control) → (following r some c).table ≡ c.table
  following_table central_role (Some indication) c = refl
  following_table central_role None c = refl
  following_table peripheral_role some c = refl

  sent_alone : (slot : ℕ) → AloneAt s.control → AloneAt (after (Sends slot (is_quiet_now s)) s.control)
  sent_alone slot a =
      let c = s.control in
      let quiet = is_quiet_now s in
      let x = is_central c.table.progress role in
      let next = next_of c.table (event_of c.track) quiet in
      let d = following (role_of c.table.progress) (went slot quiet c).1 (record c { table = (went slot quiet c).0 }) in
      let table = following_table (role_of c.table.progress) (went slot quiet c).1 (record c { table = (went slot quiet c).0 }) in
      let part : central_of d.table ≡ after_steps (sending_of (outgoing_part next)) (central_of c.table) =
      ap (λ (f : TableFacts). central_of f) table ∙ sends_one c.table x.0 (event_of c.track) c.track.params.latency slot quiet x.1 in
      any_step AloneAt (Sends slot quiet) c
      (either_way AloneAt (goes_out quiet c) d c
      (record {
        role = ap (λ (f : TableFacts). role_of f.progress) table ∙ (sent_from next (event_of c.track) c.track.params.latency c.table.progress).role ∙ role;
        alone = rw part (alone_sent (outgoing_part next) (central_of c.table) a.alone);
      }) a) a

  pub sends_alone : (slot : ℕ) → AloneIf (phased_after (sends_end slot) s)
  sends_alone slot = going AloneIf (sends_end slot) s lasts (λ loud. (sent_alone slot (now loud)).alone)

  acked_alone : AloneAt s.control → AloneAt (after SeesAcknowledged s.control)
  acked_alone a =
      let c = s.control in
      let x = is_central c.table.progress role in
      any_step AloneAt SeesAcknowledged c
      (either_way AloneAt (is_out c.table.out) (record c { table = (acked_step c.table).0 }) c
      (record {
        role = (acked_same c.table.out c.table.progress).role ∙ role;
        alone = rw (acked_one c.table x.0 x.1) (alone_acked (outgoing_part c.table.out) (central_of c.table) a.alone);
      }) a) a

  -- an encryption is asked for again only outside Clear and Secure
  pub acks_alone : (is_pause_rsp s.control.table.out ≡ true → is_quiet_now s ≡ false) → AloneIf (phased_after acked_end s)
  acks_alone pauses = going AloneIf acked_end s lasts (by (asks_again s) refl)
    where
      by : (again : Bool) → asks_again s ≡ again → AloneIf (asking_if again (with_step SeesAcknowledged s))
      by true e loud =
          let paused = (and_parts (is_pause_rsp s.control.table.out) (may_follow AskTransition s.phase && (is_open_now s && is_some s.request)) e).0 in
          (asking_keeps AloneAt owes_alone true (with_step SeesAcknowledged s) (acked_alone (now (pauses paused)))).alone
      by false e loud = (acked_alone (now loud)).alone
