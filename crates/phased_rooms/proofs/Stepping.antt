-- What a step of procedures and parameters leaves of what waits at a central, by its phase.
use Rattle.std.proofs.Common.{◌≡◌, ℕ, Bool, true, false, ◌&&◌, if◌then◌else◌, List, Option, Some, None, is_some, remove, refl, sym, subst, ◌∙◌, arith}
use Rattle.std.proofs.lemmas.Bool.{and_parts}
use Rattle.ble_base.specs.declared.roles.Role.{Role}
use Rattle.ble_base.specs.declared.roles.Role.TheVariants.{Central as central_role, Peripheral as peripheral_role}
use Rattle.data_pdu.specs.declared.ctrl.Ctrl.{Ctrl}
use Rattle.instants.specs.declared.indications.Indication.{Indication}
use Rattle.instants.specs.Track.{event_of, next_number}
use Rattle.phased_control.specs.enc_phase.declared.facts.PhaseFacts.{PhaseFacts}
use Rattle.phased_control.specs.enc_phase.declared.facts.PhaseFacts.TheVariants.{Asked}
use Rattle.phased_control.specs.enc_phase.Phases.{is_quiet}
use Rattle.phased_control.specs.procedure_values.Drafts.{is_out}
use Rattle.phased_control.specs.procedure_values.declared.asks.Ask.{Ask}
use Rattle.phased_control.specs.procedure_values.declared.asks.Ask.TheVariants.{Encrypt as ask_encrypt}
use Rattle.phased_control.specs.procedure_stages.declared.stages.Progress.{Progress}
use Rattle.phased_control.specs.procedure_stages.declared.stages.Progress.TheVariants.{Central as central, Peripheral as peripheral}
use Rattle.phased_control.specs.procedure_stages.Closing.{is_open}
use Rattle.phased_control.specs.procedure_stages.InProgress.{is_host_asked}
use Rattle.phased_control.specs.procedure_stages.Kinds.{role_of}
use Rattle.phased_control.specs.procedures.Beginning.{ask_at, begin_at, begin_step, facts_begun, place_to_begin}
use Rattle.phased_control.specs.procedures.Encryption.{is_rejection, progress_given}
use Rattle.phased_control.specs.procedures.Going.{entered_step, host_answer_step, is_answer, terminate_step}
use Rattle.phased_control.specs.procedures.Queue.{next_of}
use Rattle.phased_control.specs.procedures.Sending.{acked_step}
use Rattle.phased_control.specs.procedures.Table.{TableFacts}
use Rattle.phased_control.specs.control_model.Control.{Control, Step, Answers, Asks, Disconnects, Enters, Owes, SeesAcknowledged, Sends, Takes, after, following, goes_out, moved, table_if, went}
use Rattle.phased_control.specs.Phased.{is_encrypt}
use Rattle.phased_control.proofs.control_model.Calls.{any_step, either_way}
use Rattle.phased_control.proofs.table_laws.Begun.{begins_of, no_room as no_own_room}
use Rattle.phased_control.proofs.table_laws.Going.{acked_asks, held_asks}
use Rattle.phased_control.proofs.table_laws.Outcomes.{own_room}
use Rattle.phased_rooms.proofs.Holding.{Holds, holds_answered, holds_begun, holds_disconnected, holds_requested, holds_sent, more_room, or_used, same_queue}
use Rattle.phased_rooms.proofs.RequestRooms.{most_room, quiet_room, request_room, room_acked, room_answered, room_held, room_sent}

abbrev pub Room : PhaseFacts → Control → Type 0
Room p c = Holds (request_room p c.table.progress) c.table

room_if : (p : PhaseFacts) (b : Bool) (g : TableFacts) (c : Control) → Room p c
    → (b ≡ true → Holds (request_room p g.progress) g) → Room p (table_if b g c)
room_if p true g c room next = next refl
room_if p false g c room next = room

room_following : (p : PhaseFacts) (role : Role) (indication : Option Indication) (c : Control) → Room p c
    → Room p (following role indication c)
room_following p central_role None c room = room
room_following p central_role (Some indication) c room = room
room_following p peripheral_role indication c room = room

-- ---- the steps by which nothing begins, and no PDU of the peer is taken

abbrev pub is_plain : Step → Bool
is_plain (Enters slot quiet) = false
is_plain (Takes read slot quiet) = false
is_plain (Owes ctrl) = false
is_plain step = true

room_moved : (p : PhaseFacts) (step : Step) (c : Control) → is_plain step ≡ true → Room p c → Room p (moved step c)
room_moved p (Enters slot quiet) c plain room = absurd (cc)
room_moved p (Takes read slot quiet) c plain room = absurd (cc)
room_moved p (Owes ctrl) c plain room = absurd (cc)
room_moved p (Asks ask) c plain room = same_queue _ c.table _ refl refl refl (omega arith) room
room_moved p (Answers answer) c plain room =
    room_if p (is_host_asked c.table.progress && is_answer answer) (host_answer_step c.table answer) c room
    (λ may.
    more_room _ _ (host_answer_step c.table answer) (room_answered p c.table answer)
    (holds_answered _ c.table answer (most_room p c.table.progress)
    (and_parts (is_host_asked c.table.progress) (is_answer answer) may).0 room))
room_moved p (Disconnects reason) c plain room =
    room_if p (is_open c.table.closing) (terminate_step c.table reason) c room
    (λ opens. holds_disconnected _ _ c.table reason (most_room p c.table.progress) opens room)
room_moved p (Sends slot quiet) c plain room =
    let event = event_of c.track in
    let skips = c.track.params.latency in
    either_way (Room p) (goes_out quiet c) _ c
    (room_following p (role_of c.table.progress) (went slot quiet c).1 (record c { table = (went slot quiet c).0 })
    (holds_sent _ _ c.table event skips slot quiet
    (room_sent p (next_of c.table event quiet) event skips c.table.progress) room)) room
room_moved p SeesAcknowledged c plain room =
    room_if p (is_out c.table.out) (acked_step c.table).0 c room
    (λ may.
    more_room _ _ (acked_step c.table).0 (room_acked p c.table.out c.table.progress)
    (same_queue _ c.table (acked_step c.table).0 refl refl refl (acked_asks c.table.out c.table.progress false) room))

pub room_step : (p : PhaseFacts) (step : Step) (c : Control) → is_plain step ≡ true → Room p c → Room p (after step c)
room_step p step c plain room = any_step (Room p) step c (room_moved p step c plain room) room

-- ---- an event is entered

pub held_room : (p : PhaseFacts) (applied : Bool) (f : TableFacts) → Holds (request_room p f.progress) f
    → Holds (request_room p (entered_step f applied).0.progress) (entered_step f applied).0
held_room p false f holds = holds
held_room p true f holds =
    more_room _ _ (entered_step f true).0 (room_held p f.progress)
    (same_queue _ f (entered_step f true).0 refl refl refl (held_asks f.progress false) holds)

pub held_role : (applied : Bool) (f : TableFacts) → role_of (entered_step f applied).0.progress ≡ role_of f.progress
held_role false f = refl
held_role true f = by f.progress
  where
    by : (progress : Progress)
        → role_of (entered_step (record f { progress = progress }) true).0.progress ≡ role_of progress
    by (central c) = refl
    by (peripheral q) = refl

-- outside Clear and Secure nothing begins
none_begins : (P : TableFacts → Type 0) (f : TableFacts) (slot : ℕ) (place : Option ℕ) (ask : Option Ask)
    → place_to_begin f false ≡ place → ask_at place f.wanted ≡ ask
    → P f → P (begin_at f slot place ask).0
none_begins P f slot None ask is1 is2 h = h
none_begins P f slot (Some place) None is1 is2 h = h
none_begins P f slot (Some place) (Some ask) is1 is2 h = absurd (two (begins_of f false place ask is1 is2).is_quiet)
  where
    two : false ≡ true → ⊥
    two e = absurd (cc)

begun_room : (p : PhaseFacts) (quiet : Bool) (f : TableFacts) (slot : ℕ) → is_quiet p ≡ quiet
    → role_of f.progress ≡ central_role → Holds (request_room p f.progress) f
    → Holds (request_room p (begin_step f slot quiet).0.progress) (begin_step f slot quiet).0
begun_room p false f slot loud role holds =
    none_begins (λ (g : TableFacts). Holds (request_room p g.progress) g) f slot _ _ refl refl holds
begun_room p true f slot quiet role holds =
    let g = (begin_step f slot true).0 in
    let here : Holds (own_room f.progress) f =
    subst (λ (n : ℕ). Holds n f) (quiet_room p f.progress quiet role) holds in
    let there : Holds (own_room g.progress) g = holds_begun f slot true _ _ refl refl role here in
    subst (λ (n : ℕ). Holds n g) (sym (quiet_room p g.progress quiet (role_begun f slot _ _ role))) there
  where
    role_begun : (f : TableFacts) (slot : ℕ) (place : Option ℕ) (ask : Option Ask) → role_of f.progress ≡ central_role
        → role_of (begin_at f slot place ask).0.progress ≡ central_role
    role_begun f slot None ask role = role
    role_begun f slot (Some place) None role = role
    role_begun f slot (Some place) (Some ask) role = by f.progress role
      where
        by : (progress : Progress) → role_of progress ≡ central_role
            → role_of (facts_begun (record f { progress = progress }) slot ask (remove f.wanted place)).progress
            ≡ central_role
        by (central c) role = refl
        by (peripheral q) role = absurd (cc)

pub room_entering : (p : PhaseFacts) (slot : ℕ) (c : Control) → role_of c.table.progress ≡ central_role → Room p c
    → Room p (after (Enters slot (is_quiet p)) c)
room_entering p slot c role room =
    let applied = is_some (next_number c.track) in
    any_step (Room p) (Enters slot (is_quiet p)) c
    (begun_room p (is_quiet p) (entered_step c.table applied).0 slot refl (held_role applied c.table ∙ role)
    (held_room p applied c.table room)) room

-- ---- an encryption begins: its first PDU has room

pub record BegunUnsent (g : TableFacts) : Type 0 where
  pub none : Holds 0 g
  pub asked : request_room (Asked false false false) g.progress ≡ 1

module _ (f : TableFacts) (slot : ℕ) (wanted : List Ask) (rand ediv : ℕ) (ltk : List ℕ) (skd_m iv_m : ℕ) where
  begun_unsent : (progress : Progress) → role_of progress ≡ central_role → Holds 0 (record f { progress = progress })
      → BegunUnsent (facts_begun (record f { progress = progress }) slot (ask_encrypt rand ediv ltk skd_m iv_m) wanted)
  begun_unsent (central c) role holds =
      let h = holds.version in
      let used = or_used f.version_used in
      record { none = record { few = holds.few; version = omega (arith, h, used); most = holds.most }; asked = refl }
  begun_unsent (peripheral q) role holds = absurd (cc)

encryption_by : (f : TableFacts) (slot : ℕ) (quiet : Bool) (place : Option ℕ) (ask : Option Ask)
    → place_to_begin f quiet ≡ place → ask_at place f.wanted ≡ ask
    → role_of f.progress ≡ central_role → is_encrypt (begin_at f slot place ask).1 ≡ true
    → Holds (own_room f.progress) f → BegunUnsent (begin_at f slot place ask).0
encryption_by f slot quiet None ask is1 is2 role begins holds = absurd (cc)
encryption_by f slot quiet (Some place) None is1 is2 role begins holds = absurd (cc)
encryption_by f slot quiet (Some place) (Some (ask_encrypt rand ediv ltk skd_m iv_m)) is1 is2 role begins holds =
    let may = begins_of f quiet place (ask_encrypt rand ediv ltk skd_m iv_m) is1 is2 in
    begun_unsent f slot (remove f.wanted place) rand ediv ltk skd_m iv_m f.progress role
    (subst (λ (n : ℕ). Holds n f) (no_own_room f.progress may.none) holds)
encryption_by f slot quiet (Some place) (Some ask) is1 is2 role begins holds = absurd (cc)

pub encryption_begins : (p : PhaseFacts) (f : TableFacts) (slot : ℕ) (quiet : Bool) → is_quiet p ≡ true
    → role_of f.progress ≡ central_role
    → is_encrypt (begin_step f slot quiet).1 ≡ true → Holds (request_room p f.progress) f
    → BegunUnsent (begin_step f slot quiet).0
encryption_begins p f slot quiet is role begins holds =
    encryption_by f slot quiet _ _ refl refl role begins
    (subst (λ (n : ℕ). Holds n f) (quiet_room p f.progress is role) holds)

-- ---- a PDU of the encryption is queued

room_given : (p : PhaseFacts) (progress : Progress) (ctrl : Ctrl)
    → request_room p (progress_given progress ctrl) ≡ request_room p progress
room_given p (central c) ctrl = refl
room_given p (peripheral q) ctrl = by (is_rejection ctrl)
  where
    by : (b : Bool) → request_room p (if b then peripheral (record q { encrypting = false }) else peripheral q) ≡ 1
    by true = refl
    by false = refl

-- a request, where none has room before it
pub room_requested : (p : PhaseFacts) (ctrl : Ctrl) (c : Control) → request_room p c.table.progress ≡ 1
    → Holds 0 c.table → Room p (after (Owes ctrl) c)
room_requested p ctrl c is holds =
    any_step (Room p) (Owes ctrl) c
    (subst (λ (n : ℕ). Holds n (moved (Owes ctrl) c).table) (sym (room_given p c.table.progress ctrl ∙ is))
    (holds_requested 0 1 c.table ctrl holds (omega arith) (omega arith)))
    (subst (λ (n : ℕ). Holds n c.table) (sym is) (more_room 0 1 c.table (omega arith) holds))
