-- What a PDU of the peer leaves of what waits at a central with its phase.
use Rattle.std.proofs.Common.{◌≡◌, ℕ, ◌<◌, Bool, true, false, not, if◌then◌else◌, Option, Some, None, is_none, refl, sym, ap, subst, ◌∙◌}
use Rattle.ble_base.specs.declared.error_codes.ErrCode.{ErrCode}
use Rattle.ble_base.specs.declared.roles.Role.{Role}
use Rattle.ble_base.specs.declared.roles.Role.TheVariants.{Central}
use Rattle.data_pdu.specs.declared.ctrl.Ctrl.{Ctrl}
use Rattle.data_pdu.specs.declared.ctrl.CtrlRead.{CtrlRead}
use Rattle.data_pdu.specs.declared.ctrl.CtrlRead.TheVariants.{Known}
use Rattle.phased_control.specs.enc_phase.declared.facts.PhaseFacts.{PhaseFacts}
use Rattle.phased_control.specs.enc_phase.Phases.{is_quiet}
use Rattle.phased_control.specs.enc_phase.Taking.{allows, is_unknown}
use Rattle.phased_control.specs.procedure_stages.Closing.{is_open}
use Rattle.phased_control.specs.procedure_stages.Kinds.{role_of}
use Rattle.phased_control.specs.procedure_stages.Queue.{QueueFacts, waiting_in}
use Rattle.phased_control.specs.procedures.Table.{TableFacts}
use Rattle.phased_control.specs.procedures.Taking.{took_step}
use Rattle.phased_control.specs.table_laws.Encrypting.{has_encryption}
use Rattle.phased_control.specs.control_model.Control.{Control, Owes, Step, Takes, after, after_all, moved}
use Rattle.phased_control.specs.Phased.{Phased, is_open_now, is_quiet_now}
use Rattle.phased_control.specs.Steps.{owed_steps, read_answer, seen_by_procedures}
use Rattle.phased_control.specs.Taken.{Response, answered_kept, ciphered, class_of_read, does_keep, is_allowed, handed_on, is_answered, keeps_class, lacks_room_now, role_now, seen_as, seen_if, took}
use Rattle.phased_control.proofs.Agreeing.{Agrees, agrees_taking, lasts_answered}
use Rattle.phased_control.proofs.AnswerParts.{phase_answering}
use Rattle.phased_control.proofs.Answering.{answers}
use Rattle.phased_control.proofs.Extending.{opens_before}
use Rattle.phased_control.proofs.Kept.{Tied, role_owed}
use Rattle.phased_control.proofs.Lawful.{answered_in}
use Rattle.phased_control.proofs.Requests.{encrypts}
use Rattle.phased_control.proofs.Rooms.{AreAnswers, answers_of, room_left, same_queue}
use Rattle.phased_control.proofs.Tables.{takes_as}
use Rattle.phased_control.proofs.Taking.{handed_ways, took_ways}
use Rattle.phased_control.proofs.control_model.Moving.{same_role}
use Rattle.phased_rooms.proofs.Holding.{Holds, holds_replied, holds_taken, more_room}
use Rattle.phased_rooms.proofs.PhaseRooms.{room_quietly, room_taking, room_unanswered, seen}
use Rattle.phased_rooms.proofs.RequestRooms.{request_room}
use Rattle.phased_rooms.proofs.Stepping.{Room}

abbrev pub HasRoom : Phased → Type 0
HasRoom s = Room s.phase s.control

-- ---- what was kept is taken in Clear or Secure

room_taken_quietly : (p : PhaseFacts) (read : CtrlRead) (slot : ℕ) (c : Control) → is_quiet p ≡ true
    → role_of c.table.progress ≡ Central
    → is_quiet p ≡ not (has_encryption c.table.progress) → c.ends ≡ None → Room p c
    → Room p (after (Takes read slot true) c)
room_taken_quietly p read slot c quiet role agrees lasts room = by d.ends refl
  where
    d : Control
    d = after (Takes read slot true) c

    P : TableFacts → Type 0
    P f = Holds (request_room p f.progress) f

    g : TableFacts
    g = (took_step c.table read slot true).0

    next : P g
    next =
        more_room _ _ g (room_quietly p c.table read slot true quiet role agrees)
        (holds_taken _ c.table read slot true room)

    by : (ends : Option ErrCode) → d.ends ≡ ends → P d.table
    by None is = subst P (sym ((takes_as read slot true c lasts).goes is)) next
    by (Some code) is = subst P (sym ((takes_as read slot true c lasts).ends code is)) room

room_kept : (slot : ℕ) (kept : Option Ctrl) (s : Phased) → is_quiet_now s ≡ true → role_now s ≡ Central → Agrees s
    → s.control.ends ≡ None → HasRoom s
    → HasRoom (answered_kept slot kept s)
room_kept slot None s quiet role agrees lasts room = room
room_kept slot (Some ctrl) s quiet role agrees lasts room =
    room_taken_quietly s.phase (Known ctrl) slot s.control quiet role agrees lasts room

-- ---- a PDU is handed on

module _ (slot : ℕ) (response : Response) (read : CtrlRead) (s : Phased) (lasts : s.control.ends ≡ None)
    (tied : Tied Central s) (agrees : Agrees s) (room : HasRoom s)
    (allowed : is_allowed read s ≡ true) (keeps : does_keep read s ≡ false) (full : lacks_room_now read s ≡ false) where
  abbrev f : TableFacts
  f = s.control.table

  abbrev t : Phased
  t = seen_by_procedures read slot s

  abbrev x : Step
  x = Takes (seen_as read s) slot (is_quiet_now s)

  abbrev g : TableFacts
  g = (took_step f (seen_as read s) slot (is_quiet_now s)).0

  abbrev owed : Option Ctrl
  owed = read_answer (role_now t) response read t.phase

  abbrev q : PhaseFacts
  q = phase_answering (role_now t) read (encrypts t) t.phase

  role_t : role_now t ≡ role_now s
  role_t = same_role (role_now s) x s.control refl

  room_over : (code : ErrCode) → t.control.ends ≡ Some code → HasRoom t
  room_over code over =
      subst (λ (h : TableFacts). Holds (request_room t.phase h.progress) h)
      (sym ((takes_as (seen_as read s) slot (is_quiet_now s) s.control lasts).ends code over))
      (subst (λ (n : ℕ). Holds n f) (sym (room_taking (class_of_read read) s.phase f.progress)) room)

  module _ (goes : t.control.ends ≡ None) where
    table : t.control.table ≡ g
    table = (takes_as (seen_as read s) slot (is_quiet_now s) s.control lasts).goes goes

    -- no PDU of the encryption answers it
    abbrev table_by : Role → TableFacts
    table_by role =
        (took_step f (seen_if (is_unknown s.phase role (class_of_read read)) read) slot (is_quiet s.phase)).0

    abbrev phase_by : Role → TableFacts → PhaseFacts
    phase_by role h = phase_answering role read (has_encryption h.progress) t.phase

    abbrev HoldsBy : Role → Type 0
    HoldsBy role = Holds (request_room (phase_by role (table_by role)) (table_by role).progress) (table_by role)

    room_none : (role : Role) → role_now s ≡ role → role ≡ Central → read_answer role response read t.phase ≡ None
        → HoldsBy role
    room_none role at is none =
        subst HoldsBy (sym is)
        (more_room _ _ (seen read slot s.phase f)
        (room_unanswered slot response read s.phase f (at ∙ is) agrees
        (record {
          lets = subst (λ (r : Role). allows s.phase r (class_of_read read) ≡ true) (at ∙ is) allowed;
          keeps = subst (λ (r : Role). keeps_class (class_of_read read) r (is_quiet s.phase) ≡ false) (at ∙ is) keeps;
          none = subst (λ (r : Role). read_answer r response read t.phase ≡ None) is none;
        }))
        (holds_taken _ f (seen_if (is_unknown s.phase Central (class_of_read read)) read) slot (is_quiet s.phase) room))

    room_unowed : owed ≡ None → Room q t.control
    room_unowed none =
        subst (λ (h : TableFacts). Holds (request_room (phase_by (role_now t) h) h.progress) h) (sym table)
        (subst (λ (r : Role). Holds (request_room (phase_by r g) g.progress) g) (sym role_t)
        (room_none (role_now s) refl tied.is_role
        (subst (λ (r : Role). read_answer r response read t.phase ≡ None) role_t none)))

    -- one does, where fewer than sixteen wait
    room_owed : (ctrl : Ctrl) → AreAnswers (role_now s) read s.phase (Some ctrl) → Room q (after (Owes ctrl) t.control)
    room_owed ctrl h =
        let few : is_open t.control.table.closing ≡ true → waiting_in t.control.table.queue < 16 =
        λ opens.
        let queue : t.control.table.queue ≡ f.queue =
        ap (λ (h : TableFacts). h.queue) table ∙ same_queue f slot (role_now s) read s.phase refl h.answered in
        subst (λ (queue : QueueFacts). waiting_in queue < 16) (sym queue)
        (room_left (waiting_in f.queue) (is_open_now s) (is_answered read s) full (opens_before x s.control opens)
        (answered_in read s ∙ h.answered)) in
        let now : Holds (request_room s.phase f.progress) t.control.table =
        subst (λ (h : TableFacts). Holds (request_room s.phase f.progress) h) (sym table)
        (holds_taken _ f (seen_as read s) slot (is_quiet_now s) room) in
        subst (λ (b : Bool). Room q (if b then moved (Owes ctrl) t.control else t.control))
        (sym (ap (λ (ends : Option ErrCode). is_none ends) goes))
        (holds_replied _ _ t.control.table ctrl now few)

    room_answered : HasRoom (ciphered response read t)
    room_answered =
        subst HasRoom (sym (answers t response read))
        (by owed refl
        (subst (λ (r : Role). AreAnswers (role_now s) read s.phase (read_answer r response read t.phase)) (sym role_t)
        (answers_of (role_now s) response read s.phase)))
      where
        by : (o : Option Ctrl) → owed ≡ o → AreAnswers (role_now s) read s.phase o
            → Room q (after_all (owed_steps o) t.control)
        by None is h = room_unowed is
        by (Some ctrl) is h = room_owed ctrl h

    role_u : role_now (ciphered response read t) ≡ Central
    role_u =
        ap (λ (v : Phased). role_now v) (answers t response read) ∙ role_owed Central owed t.control
        (role_t ∙ tied.is_role)

  pub room_handed : HasRoom (handed_on slot response read s)
  room_handed =
      handed_ways HasRoom slot response read s room_over
      (λ goes. λ loud. room_answered goes)
      (λ goes. λ quiet.
      let u = ciphered response read t in
      room_kept slot u.kept u quiet (role_u goes)
      (agrees_taking slot response read Central s tied lasts allowed agrees goes) (lasts_answered response read t goes)
      (room_answered goes))

-- ---- a PDU is taken

pub room_took : (slot : ℕ) (response : Response) (read : CtrlRead) (s : Phased) → s.control.ends ≡ None → Tied Central s
    → Agrees s → HasRoom s → HasRoom (took slot response read s)
room_took slot response read s lasts tied agrees room =
    took_ways HasRoom slot response read s (λ forbidden. room)
    (λ allowed. λ keeps. subst (λ (n : ℕ). Holds n s.control.table)
    (sym (room_taking (class_of_read read) s.phase s.control.table.progress)) room)
    (λ allowed. λ keeps. λ full. room)
    (λ allowed. λ keeps. λ full. room_handed slot response read s lasts tied agrees room allowed keeps full)
