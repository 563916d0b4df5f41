-- What a step of procedures leaves of an encryption in progress, and how an encryption begins.
use Rattle.std.proofs.Common.{◌≡◌, ℕ, Bool, true, false, not, ◌&&◌, if◌then◌else◌, List, Option, Some, None, is_some, refl, sym, ap, ◌∙◌}
use Rattle.ble_base.specs.ErrorCodes.{instant_passed}
use Rattle.ble_base.specs.declared.error_codes.ErrCode.{ErrCode}
use Rattle.ble_base.specs.declared.procedure_kinds.Kind.TheVariants.{Encrypt}
use Rattle.ble_base.specs.declared.roles.Role.{Role}
use Rattle.ble_base.specs.declared.roles.Role.TheVariants.{Central as central_role, Peripheral as peripheral_role}
use Rattle.data_pdu.specs.declared.ctrl.Ctrl.{Ctrl}
use Rattle.data_pdu.specs.declared.ctrl.Ctrl.TheVariants.{RejectExtInd}
use Rattle.data_pdu.specs.declared.ctrl.CtrlRead.{CtrlRead}
use Rattle.instants.specs.declared.indications.Indication.{Indication}
use Rattle.instants.specs.Track.{event_of, next_number, track_after_take}
use Rattle.table_laws.specs.procedure_values.declared.asks.Ask.{Ask}
use Rattle.table_laws.specs.procedure_values.declared.asks.Ask.TheVariants.{Update as ask_update, Request as ask_request, Map as ask_map, Phy as ask_phy, Features as ask_features, Version as ask_version, Length as ask_length, Encrypt as ask_encrypt}
use Rattle.table_laws.specs.procedure_values.Asks.{kind_of_ask}
use Rattle.table_laws.specs.procedure_values.Drafts.{is_out}
use Rattle.table_laws.specs.procedure_stages.declared.stages.OwnCentral.{OwnCentral}
use Rattle.table_laws.specs.procedure_stages.declared.stages.OwnCentral.TheVariants.{Exclusive as exclusive, Exchange as exchange, EncryptUnsent, EncryptSent}
use Rattle.table_laws.specs.procedure_stages.declared.stages.Progress.{Progress}
use Rattle.table_laws.specs.procedure_stages.declared.stages.Progress.TheVariants.{Central as central, Peripheral as peripheral}
use Rattle.table_laws.specs.procedure_stages.Awaited.{is_own_encryption}
use Rattle.table_laws.specs.procedure_stages.Begun.{progress_begun}
use Rattle.table_laws.specs.procedure_stages.Closing.{is_open}
use Rattle.table_laws.specs.procedure_stages.InProgress.{is_host_asked}
use Rattle.table_laws.specs.procedure_stages.Kinds.{begins, kind_at_central, own_kind, role_of}
use Rattle.table_laws.specs.procedures.Beginning.{ask_at, begin_at, begin_step, place_to_begin}
use Rattle.table_laws.specs.procedures.Calls.{Call, after_call, begins_one, enters, host_answers, is_acked, is_given, sends, takes}
use Rattle.table_laws.specs.procedures.Encryption.{is_rejection, progress_given}
use Rattle.table_laws.specs.procedures.Going.{entered_step, is_answer, terminate_step}
use Rattle.table_laws.specs.procedures.Queue.{next_of}
use Rattle.table_laws.specs.procedures.Table.{TableFacts}
use Rattle.table_laws.specs.procedures.Taking.{facts_with, outcome_of, took_step}
use Rattle.table_laws.specs.Encrypting.{MayBeginBy, MayEndBy, has_encryption}
use Rattle.table_laws.proofs.Begun.{begins_of}
use Rattle.table_laws.proofs.Encrypting.{begins_by, ends_by}
use Rattle.control_model.specs.Control.{Control, Step, Enters, Asks, Answers, Disconnects, Sends, SeesAcknowledged, Takes, Owes, after, ended, following, goes_out, indicated_by, is_to_come, moved, table_if, taken, went}
use Rattle.control_model.proofs.Outcomes.{Hands, fits}
use Rattle.control_model.proofs.Calls.{acked_same, answered_same, any_step, begun_same, either_way, given_same, held_over, open_step, sent_from, took_by}
use Rattle.phased_control.specs.Phased.{is_encrypt, request_of}
use Rattle.phased_control.specs.Ends.{IsRequest}

-- ---- how an encryption begins

pub record BeginsOne (f g : TableFacts) (quiet : Bool) (ask : Option Ask) : Type 0 where
  pub is_quiet : quiet ≡ true
  pub none : own_kind f.progress ≡ None
  pub lasts : is_open f.closing ≡ true
  pub role : role_of f.progress ≡ central_role
  pub request : IsRequest (request_of ask)
  pub kind : own_kind g.progress ≡ Some Encrypt
  pub encrypts : has_encryption g.progress ≡ true
  pub queue : g.queue ≡ f.queue
  pub closing : g.closing ≡ f.closing

role_begins : (role : Role) → begins role Encrypt ≡ true → role ≡ central_role
role_begins central_role h = refl
role_begins peripheral_role h = absurd (cc)

kind_begun : (rand ediv : ℕ) (ltk : List ℕ) (skd_m iv_m : ℕ) (used : Bool) (p : Progress) → role_of p ≡ central_role
    → own_kind (progress_begun (ask_encrypt rand ediv ltk skd_m iv_m) used p) ≡ Some Encrypt
kind_begun rand ediv ltk skd_m iv_m used (central c) is = refl
kind_begun rand ediv ltk skd_m iv_m used (peripheral p) is = absurd (cc)

has_begun : (rand ediv : ℕ) (ltk : List ℕ) (skd_m iv_m : ℕ) (used : Bool) (p : Progress) → role_of p ≡ central_role
    → has_encryption (progress_begun (ask_encrypt rand ediv ltk skd_m iv_m) used p) ≡ true
has_begun rand ediv ltk skd_m iv_m used (central c) is = refl
has_begun rand ediv ltk skd_m iv_m used (peripheral p) is = absurd (cc)

begun_by : (f : TableFacts) (slot : ℕ) (quiet : Bool) (place : Option ℕ) (ask : Option Ask) → place_to_begin f quiet ≡ place → ask_at place f.wanted ≡ ask
    → is_encrypt (begin_at f slot place ask).1 ≡ true → BeginsOne f (begin_at f slot place ask).0 quiet ask
begun_by f slot quiet None ask p a is = absurd (cc)
begun_by f slot quiet (Some place) None p a is = absurd (cc)
begun_by f slot quiet (Some place) (Some (ask_encrypt rand ediv ltk skd_m iv_m)) p a is =
    let b = begins_of f quiet place (ask_encrypt rand ediv ltk skd_m iv_m) p a in
    let role = role_begins (role_of f.progress) b.role in
    record {
      is_quiet = b.is_quiet;
      none = b.none;
      lasts = b.lasts;
      role = role;
      request = _;
      kind = kind_begun rand ediv ltk skd_m iv_m f.version_used f.progress role;
      encrypts = has_begun rand ediv ltk skd_m iv_m f.version_used f.progress role;
      queue = refl;
      closing = refl;
    }
begun_by f slot quiet (Some place) (Some ask) p a is = absurd (cc)

pub begins_encryption : (f : TableFacts) (slot : ℕ) (quiet : Bool) → is_encrypt (begin_step f slot quiet).1 ≡ true
    → BeginsOne f (begin_step f slot quiet).0 quiet (ask_at (place_to_begin f quiet) f.wanted)
begins_encryption f slot quiet is = begun_by f slot quiet _ _ refl refl is

none_encrypts : (own : OwnCentral) → kind_at_central own ≡ None → is_own_encryption own ≡ false
none_encrypts EncryptUnsent none = absurd (cc)
none_encrypts EncryptSent none = absurd (cc)
none_encrypts (exclusive stage) none = refl
none_encrypts (exchange stage) none = refl

other_begun : (used : Bool) (p : Progress) (ask : Ask) → own_kind p ≡ None → is_encrypt (Some (kind_of_ask ask)) ≡ false → has_encryption (progress_begun ask used p) ≡ has_encryption p
other_begun used (peripheral p) ask none is = refl
other_begun used (central c) (ask_encrypt rand ediv ltk skd_m iv_m) none is = absurd (cc)
other_begun used (central c) (ask_request min max latency timeout) none is = refl
other_begun used (central c) (ask_update interval latency timeout) none is = sym (none_encrypts c.own none)
other_begun used (central c) (ask_map map) none is = sym (none_encrypts c.own none)
other_begun used (central c) ask_phy none is = sym (none_encrypts c.own none)
other_begun used (central c) ask_features none is = sym (none_encrypts c.own none)
other_begun used (central c) ask_version none is = sym (none_encrypts c.own none)
other_begun used (central c) (ask_length tx) none is = sym (none_encrypts c.own none)

other_by : (f : TableFacts) (slot : ℕ) (quiet : Bool) (place : Option ℕ) (ask : Option Ask) → place_to_begin f quiet ≡ place → ask_at place f.wanted ≡ ask
    → is_encrypt (begin_at f slot place ask).1 ≡ false → has_encryption (begin_at f slot place ask).0.progress ≡ has_encryption f.progress
other_by f slot quiet None ask p a is = refl
other_by f slot quiet (Some place) None p a is = refl
other_by f slot quiet (Some place) (Some ask) p a is = other_begun f.version_used f.progress ask (begins_of f quiet place ask p a).none is

-- what else begins is no encryption
pub begins_other : (f : TableFacts) (slot : ℕ) (quiet : Bool) → is_encrypt (begin_step f slot quiet).1 ≡ false
    → has_encryption (begin_step f slot quiet).0.progress ≡ has_encryption f.progress
begins_other f slot quiet is = other_by f slot quiet _ _ refl refl is

-- ---- the other calls

same_by : (p q : Progress) (B E : Type 0) → (has_encryption p ≡ false → has_encryption q ≡ true → B) → (has_encryption p ≡ true → has_encryption q ≡ false → E)
    → (B → ⊥) → (E → ⊥) → has_encryption q ≡ has_encryption p
same_by p q B E begin end no_begin no_end = by (has_encryption p) (has_encryption q) refl refl
  where
    by : (a b : Bool) → has_encryption p ≡ a → has_encryption q ≡ b → b ≡ a
    by true true is1 is2 = refl
    by false false is1 is2 = refl
    by false true is1 is2 = absurd (no_begin (begin is1 is2))
    by true false is1 is2 = absurd (no_end (end is1 is2))

pub same_in : (f : TableFacts) (call : Call) → (MayBeginBy f.progress call → ⊥) → (MayEndBy f.progress call → ⊥)
    → has_encryption (after_call f call).progress ≡ has_encryption f.progress
same_in f call no_begin no_end = same_by f.progress (after_call f call).progress (MayBeginBy f.progress call) (MayEndBy f.progress call) (begins_by f call) (ends_by f call) no_begin no_end

-- the calls by which an encryption neither begins nor ends
abbrev pub is_apart : Call → Bool
is_apart (begins_one slot quiet) = false
is_apart (takes read slot quiet) = false
is_apart (is_given ctrl) = not (is_rejection ctrl)
is_apart call = true

no_beginning : (p : Progress) (call : Call) → is_apart call ≡ true → MayBeginBy p call → ⊥
no_beginning (central c) (begins_one slot quiet) is h = absurd (cc)
no_beginning (peripheral p) (takes read slot quiet) is h = absurd (cc)
no_beginning (central c) call is h = h
no_beginning (peripheral p) call is h = h

no_ending : (p : Progress) (call : Call) → is_apart call ≡ true → MayEndBy p call → ⊥
no_ending (central c) (takes read slot quiet) is h = absurd (cc)
no_ending (peripheral p) (takes read slot quiet) is h = absurd (cc)
no_ending (peripheral p) (is_given (RejectExtInd opcode code)) is h = absurd (cc)
no_ending (peripheral p) (is_given ctrl) is h = h
no_ending (central c) call is h = h
no_ending (peripheral p) call is h = h

pub same_apart : (f : TableFacts) (call : Call) → is_apart call ≡ true → has_encryption (after_call f call).progress ≡ has_encryption f.progress
same_apart f call is = same_in f call (no_beginning f.progress call is) (no_ending f.progress call is)

-- ---- the steps that are no PDU of the peer

abbrev Leaves : Control → Control → Type 0
Leaves c d = has_encryption d.table.progress ≡ has_encryption c.table.progress

leaves_if : (b : Bool) (g : TableFacts) (c : Control) → has_encryption g.progress ≡ has_encryption c.table.progress → Leaves c (table_if b g c)
leaves_if true g c is = is
leaves_if false g c is = refl

pub following_table : (role : Role) (indication : Option Indication) (c : Control) → (following role indication c).table ≡ c.table
following_table central_role None c = refl
following_table central_role (Some indication) c = refl
following_table peripheral_role indication c = refl

-- the steps by which an encryption neither begins nor ends
abbrev pub is_step_apart : Step → Bool
is_step_apart (Enters slot quiet) = false
is_step_apart (Takes read slot quiet) = false
is_step_apart (Owes ctrl) = not (is_rejection ctrl)
is_step_apart step = true

leaves_moved : (step : Step) (c : Control) → is_step_apart step ≡ true → Leaves c (moved step c)
leaves_moved (Enters slot quiet) c is = absurd (cc)
leaves_moved (Takes read slot quiet) c is = absurd (cc)
leaves_moved (Asks ask) c is = refl
leaves_moved (Answers answer) c is =
    leaves_if (is_host_asked c.table.progress && is_answer answer) _ c (same_apart c.table (host_answers answer) refl)
leaves_moved (Disconnects reason) c is = leaves_if (is_open c.table.closing) (terminate_step c.table reason) c refl
leaves_moved (Sends slot quiet) c is =
    either_way (Leaves c) (goes_out quiet c) _ c
    (ap (λ (f : TableFacts). has_encryption f.progress) (following_table (role_of c.table.progress) (went slot quiet c).1 (record c { table = (went slot quiet c).0 }))
    ∙ same_apart c.table (sends (event_of c.track) c.track.params.latency quiet slot) refl)
    refl
leaves_moved SeesAcknowledged c is = leaves_if (is_out c.table.out) _ c (same_apart c.table is_acked refl)
leaves_moved (Owes ctrl) c is = same_apart c.table (is_given ctrl) is

pub leaves_encryption : (step : Step) (c : Control) → is_step_apart step ≡ true → has_encryption (after step c).table.progress ≡ has_encryption c.table.progress
leaves_encryption step c is = any_step (Leaves c) step c (leaves_moved step c is) refl

-- an event is entered, and no encryption begins
pub leaves_entering : (slot : ℕ) (quiet : Bool) (c : Control)
    → is_encrypt (begin_step (entered_step c.table (is_some (next_number c.track))).0 slot quiet).1 ≡ false
    → has_encryption (after (Enters slot quiet) c).table.progress ≡ has_encryption c.table.progress
leaves_entering slot quiet c is =
    let applied = is_some (next_number c.track) in
    any_step (Leaves c) (Enters slot quiet) c
    (begins_other (entered_step c.table applied).0 slot quiet is ∙ same_apart c.table (enters applied) refl) refl

-- at a central the layer above changes nothing of it
pub leaves_at_central : (ctrl : Ctrl) (c : Control) → role_of c.table.progress ≡ central_role
    → has_encryption (after (Owes ctrl) c).table.progress ≡ has_encryption c.table.progress
leaves_at_central ctrl c is = any_step (Leaves c) (Owes ctrl) c (by c.table.progress is) refl
  where
    by : (p : Progress) → role_of p ≡ central_role → has_encryption (progress_given p ctrl) ≡ has_encryption p
    by (central c) is = refl
    by (peripheral p) is = absurd (cc)

-- ---- a PDU is taken

pub record TakesAs (c d : Control) (g : TableFacts) : Type 0 where
  pub goes : d.ends ≡ None → d.table ≡ g
  pub ends : (code : ErrCode) → d.ends ≡ Some code → d.table ≡ c.table

taken_as : (g : TableFacts) (code : Option ErrCode) (indication : Option Indication) (c : Control) → c.ends ≡ None → TakesAs c (taken g code indication c) g
taken_as g (Some code) indication c lasts = record { goes = λ is. absurd (cc); ends = λ code'. λ is. refl }
taken_as g None None c lasts = record { goes = λ is. refl; ends = λ code. λ is. absurd (none_and_some c.ends lasts is) }
  where
    none_and_some : {code : ErrCode} (ends : Option ErrCode) → ends ≡ None → ends ≡ Some code → ⊥
    none_and_some None is1 is2 = absurd (cc)
    none_and_some (Some other) is1 is2 = absurd (cc)
taken_as g None (Some indication) c lasts = by (is_to_come c.track indication)
  where
    none_and_some : {code : ErrCode} (ends : Option ErrCode) → ends ≡ None → ends ≡ Some code → ⊥
    none_and_some None is1 is2 = absurd (cc)
    none_and_some (Some other) is1 is2 = absurd (cc)

    by : (b : Bool) → TakesAs c (if b then record c { table = g; track = track_after_take c.track indication } else ended (record { 0 = instant_passed }) c) g
    by true = record { goes = λ is. refl; ends = λ code. λ is. absurd (none_and_some c.ends lasts is) }
    by false = record { goes = λ is. absurd (cc); ends = λ code. λ is. refl }

pub takes_as : (read : CtrlRead) (slot : ℕ) (quiet : Bool) (c : Control) → c.ends ≡ None → TakesAs c (after (Takes read slot quiet) c) (took_step c.table read slot quiet).0
takes_as read slot quiet c lasts =
    open_step (λ (d : Control). TakesAs c d (took_step c.table read slot quiet).0) (Takes read slot quiet) c lasts
    (taken_as (took_step c.table read slot quiet).0 (took_step c.table read slot quiet).1.ends (indicated_by (took_step c.table read slot quiet).1.effect) c lasts)
