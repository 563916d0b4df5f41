-- At most twenty control PDUs wait at an end with its phase, over all steps.
use Rattle.std.proofs.Common.{◌≡◌, ℕ, ◌≤◌, Bool, true, false, ◌&&◌, if◌then◌else◌, List, [], ◌∷◌, Option, Some, None, is_some, refl, sym, ap, subst, ◌∙◌, arith}
use Rattle.std.proofs.lemmas.Bool.{and_parts}
use Rattle.ble_base.specs.ErrorCodes.{mic_failure}
use Rattle.ble_base.specs.declared.error_codes.ErrCode.{ErrCode}
use Rattle.ble_base.specs.declared.roles.Role.{Role}
use Rattle.ble_base.specs.declared.roles.Role.TheVariants.{Central, Peripheral}
use Rattle.data_pdu.specs.declared.ctrl.Ctrl.{Ctrl}
use Rattle.data_pdu.specs.declared.ctrl.Ctrl.TheVariants.{PauseEncReq}
use Rattle.instants.specs.declared.indications.Params.{Params}
use Rattle.instants.specs.Track.{next_number}
use Rattle.phased_control.specs.enc_phase.declared.classes.PduClass.TheVariants.{Data}
use Rattle.phased_control.specs.enc_phase.declared.facts.PhaseFacts.{PhaseFacts}
use Rattle.phased_control.specs.enc_phase.declared.facts.PhaseFacts.TheVariants.{Asked, Clear, HalfClear, Pausing, Secure}
use Rattle.phased_control.specs.enc_phase.declared.facts.Transition.TheVariants.{Ask as AskTransition, Pause}
use Rattle.phased_control.specs.enc_phase.Phases.{is_quiet, may_follow, phase_after}
use Rattle.phased_control.specs.enc_phase.Taking.{allows}
use Rattle.phased_control.specs.procedure_stages.Queue.{waiting_in}
use Rattle.phased_control.specs.procedures.Beginning.{begin_step}
use Rattle.phased_control.specs.procedures.Table.{first_facts}
use Rattle.phased_control.specs.control_model.Control.{Control, Answers as control_answers, Asks as control_asks, Disconnects as control_disconnects, Enters as control_enters, SeesAcknowledged as control_sees_acknowledged, Sends as control_sends}
use Rattle.phased_control.specs.Phased.{Phased, acknowledged, ask_begun, asking_if, asks_again, encrypting, encrypting_if, entered, first_phased, is_encrypt, is_open_now, is_pause_rsp, is_quiet_now, request_of, table_entered, with_owed_if, with_step}
use Rattle.phased_control.specs.Taken.{PhasedStep, Answers, Asks, Disconnects, Enters, GivesKey, LacksKey, SeesAcknowledged, Sends, Takes, TakesData, ended_with, phased_after, phased_after_all, phased_moved, role_now}
use Rattle.phased_control.proofs.Agreeing.{Agrees, Sound, agrees_after, agrees_first, sound_after, sound_first}
use Rattle.phased_control.proofs.AllLawful.{few_wait}
use Rattle.phased_control.proofs.Kept.{apart}
use Rattle.phased_control.proofs.Moving.{open_phased, same_after}
use Rattle.phased_control.proofs.PhaseFacts.{follows_no_pause}
use Rattle.phased_control.proofs.Tables.{begins_encryption}
use Rattle.phased_control.proofs.Unpaused.{asks_in_half_clear}
use Rattle.phased_control.proofs.control_model.Calls.{open_step}
use Rattle.phased_control.proofs.control_model.Moving.{same_role}
use Rattle.phased_rooms.proofs.Holding.{Holds, more_room}
use Rattle.phased_rooms.proofs.PhaseRooms.{half_clear_none, paused_room}
use Rattle.phased_rooms.proofs.RequestRooms.{request_room}
use Rattle.phased_rooms.proofs.Stepping.{BegunUnsent, encryption_begins, held_role, held_room, room_entering, room_requested, room_step}
use Rattle.phased_rooms.proofs.Taking.{HasRoom, room_took}

-- ---- an encryption begins

-- a request is queued, if there is one
room_if_owed : (request : Option Ctrl) (s : Phased) → request_room s.phase s.control.table.progress ≡ 1
    → Holds 0 s.control.table
    → HasRoom (with_owed_if request s)
room_if_owed None s is none =
    subst (λ (n : ℕ). Holds n s.control.table) (sym is) (more_room 0 1 s.control.table (omega arith) none)
room_if_owed (Some ctrl) s is none = room_requested s.phase ctrl s.control is none

room_encrypting : (p : PhaseFacts) (s : Phased) → s.phase ≡ p → is_quiet p ≡ true → BegunUnsent s.control.table
    → HasRoom (encrypting p s)
room_encrypting Clear s is quiet begun =
    let t : Phased = record s { phase = phase_after AskTransition s.phase } in
    room_if_owed s.request t
    (ap (λ (p : PhaseFacts). request_room (phase_after AskTransition p) s.control.table.progress) is
    ∙ begun.asked) begun.none
room_encrypting Secure s is quiet begun =
    room_requested (phase_after Pause s.phase) PauseEncReq s.control
    (ap (λ (p : PhaseFacts). request_room (phase_after Pause p) s.control.table.progress) is
    ∙ paused_room (Pausing false) s.control.table.progress refl) begun.none
room_encrypting p s is quiet begun = absurd (cc)

room_entered : (slot : ℕ) (s : Phased) → s.control.ends ≡ None → role_now s ≡ Central → HasRoom s
    → HasRoom (entered slot s)
room_entered slot s lasts role room = by (is_encrypt (begin_step (table_entered s) slot (is_quiet_now s)).1) refl
  where
    applied : Bool
    applied = is_some (next_number s.control.track)

    request : Option Ctrl
    request = request_of (ask_begun (table_entered s) (is_quiet_now s))

    t : Phased
    t = with_step (control_enters slot (is_quiet_now s)) s

    by : (b : Bool) → is_encrypt (begin_step (table_entered s) slot (is_quiet_now s)).1 ≡ b
        → HasRoom (encrypting_if b request t)
    by false is = room_entering s.phase slot s.control role room
    by true is =
        let quiet = (begins_encryption (table_entered s) slot (is_quiet_now s) is).is_quiet in
        let begun : BegunUnsent (begin_step (table_entered s) slot (is_quiet_now s)).0 =
        encryption_begins s.phase (table_entered s) slot (is_quiet_now s) quiet
        (held_role applied s.control.table ∙ role) is (held_room s.phase applied s.control.table room) in
        room_encrypting t.phase (record t { request = request }) refl quiet
        (open_step (λ (c : Control). BegunUnsent c.table) (control_enters slot (is_quiet_now s)) s.control lasts begun)

-- ---- after a pause it goes on

room_asking : (p : PhaseFacts) (s : Phased) → s.phase ≡ p → may_follow AskTransition p ≡ true
    → follows_no_pause p ≡ false → role_now s ≡ Central → HasRoom s
    → HasRoom (asking_if true s)
room_asking (HalfClear kept) s is may paused role room =
    let t : Phased = record s { phase = phase_after AskTransition s.phase } in
    room_if_owed s.request t
    (ap (λ (p : PhaseFacts). request_room (phase_after AskTransition p) s.control.table.progress) is
    ∙ paused_room (Asked true false kept) s.control.table.progress refl)
    (subst (λ (n : ℕ). Holds n s.control.table)
    (ap (λ (p : PhaseFacts). request_room p s.control.table.progress) is
    ∙ half_clear_none kept s.control.table.progress role) room)
room_asking Clear s is may paused role room = absurd (cc)
room_asking p s is may paused role room = absurd (cc)

room_acknowledged : (s : Phased) → Sound Central s → HasRoom s → HasRoom (acknowledged s)
room_acknowledged s sound room = by (asks_again s) refl
  where
    t : Phased
    t = with_step control_sees_acknowledged s

    next : HasRoom t
    next = room_step s.phase control_sees_acknowledged s.control refl room

    by : (b : Bool) → asks_again s ≡ b → HasRoom (asking_if b t)
    by false is = next
    by true is =
        let may =
        (and_parts (may_follow AskTransition s.phase) _ (and_parts (is_pause_rsp s.control.table.out) _ is).1).0 in
        room_asking s.phase t refl may (asks_in_half_clear s is (sound.unpaused refl))
        (same_role Central control_sees_acknowledged s.control sound.tied.is_role) next

-- ---- every step

-- the host of a central is asked for no key
no_key : (s t : Phased) (b : Bool) → (s.asks_key ≡ true → Central ≡ Peripheral) → (s.asks_key && is_open_now s) ≡ b
    → HasRoom s → HasRoom (if b then t else s)
no_key s t false at is room = room
no_key s t true at is room = apart (at (and_parts s.asks_key (is_open_now s) is).0)

room_moved : (step : PhasedStep) (s : Phased) → Sound Central s → Agrees s → s.control.ends ≡ None → HasRoom s
    → HasRoom (phased_moved step s)
room_moved (Enters slot) s sound agrees lasts room = room_entered slot s lasts sound.tied.is_role room
room_moved (Asks ask) s sound agrees lasts room = room_step s.phase (control_asks ask) s.control refl room
room_moved (Answers answer) s sound agrees lasts room = room_step s.phase (control_answers answer) s.control refl room
room_moved GivesKey s sound agrees lasts room = no_key s _ _ sound.tied.asked_at refl room
room_moved LacksKey s sound agrees lasts room = no_key s _ _ sound.tied.asked_at refl room
room_moved (Disconnects reason) s sound agrees lasts room =
    room_step s.phase (control_disconnects reason) s.control refl room
room_moved (Sends slot) s sound agrees lasts room =
    room_step s.phase (control_sends slot (is_quiet_now s)) s.control refl room
room_moved SeesAcknowledged s sound agrees lasts room = room_acknowledged s sound room
room_moved (Takes read slot response) s sound agrees lasts room =
    room_took slot response read s lasts sound.tied agrees room
room_moved TakesData s sound agrees lasts room = by (allows s.phase (role_now s) Data)
  where
    by : (b : Bool) → HasRoom (if b then s else ended_with mic_failure s)
    by true = room
    by false = room

room_after : (step : PhasedStep) (s : Phased) → Sound Central s → Agrees s → HasRoom s → HasRoom (phased_after step s)
room_after step s sound agrees room = by s.control.ends refl
  where
    by : (ends : Option ErrCode) → s.control.ends ≡ ends → HasRoom (phased_after step s)
    by None is = open_phased HasRoom step s is (room_moved step s sound agrees is room)
    by (Some code) is = subst HasRoom (sym (same_after step s code is)) room

room_all : (steps : List PhasedStep) (s : Phased) → Sound Central s → Agrees s → HasRoom s
    → HasRoom (phased_after_all steps s)
room_all [] s sound agrees room = room
room_all (step ∷ steps) s sound agrees room =
    room_all steps (phased_after step s) (sound_after Central step s sound) (agrees_after Central step s sound agrees)
    (room_after step s sound agrees room)

first_room : (max_rx : ℕ) → Holds 0 (first_facts Central max_rx)
first_room max_rx = record { few = λ opens. omega arith; version = omega arith; most = omega arith }

-- the law
pub few_now : (role : Role) (max_rx : ℕ) (first : Params) (slot : ℕ) (steps : List PhasedStep)
    → waiting_in (phased_after_all steps (first_phased role max_rx first slot)).control.table.queue ≤ 20
few_now Central max_rx first slot steps =
    (room_all steps (first_phased Central max_rx first slot) (sound_first Central max_rx first slot)
    (agrees_first Central max_rx first slot) (first_room max_rx)).most
few_now Peripheral max_rx first slot steps = few_wait Peripheral max_rx first slot steps (λ is. apart (sym is))

pub no_twenty_one : (role : Role) (max_rx : ℕ) (first : Params) (slot : ℕ) (steps : List PhasedStep)
    → waiting_in (phased_after_all steps (first_phased role max_rx first slot)).control.table.queue ≡ 21 → ⊥
no_twenty_one role max_rx first slot steps is =
    let few = few_now role max_rx first slot steps in
    omega (arith, few, is)
