-- Each step of an end that encrypts nothing keeps it so, but for those that begin an encryption.
use Rattle.std.proofs.Common.{◌≡◌, ℕ, suc, ◌&&◌, Bool, true, false, List, [], ◌∷◌, ◌++◌, take, drop, remove, Option, Some, None, is_some, Result, Ok, Err, if◌then◌else◌, refl, subst}
use Rattle.std.specs.List.{All}
use Rattle.std.proofs.lemmas.List.Elements.{All-append, All-drop, All-get_or, All-nil, All-push, All-set, All-take}
use Rattle.std.proofs.lemmas.Option.{get_or_from_slice_get, slice_get_within}
use Rattle.ble_base.specs.ErrorCodes.{instant_passed}
use Rattle.ble_base.specs.declared.error_codes.ErrCode.{ErrCode}
use Rattle.ble_base.specs.declared.procedure_kinds.Kind.TheVariants.{Version}
use Rattle.ble_base.specs.declared.roles.Role.{Role}
use Rattle.ble_base.specs.declared.roles.Role.TheVariants.{Central as central_role, Peripheral as peripheral_role}
use Rattle.data_pdu.specs.declared.ctrl.Ctrl.TheVariants.{EncReq, PauseEncReq}
use Rattle.data_pdu.specs.declared.ctrl.CtrlRead.{CtrlRead}
use Rattle.data_pdu.specs.declared.ctrl.CtrlRead.TheVariants.{Bare, Known, Unknown}
use Rattle.data_pdu.specs.Reading.{opcode_of}
use Rattle.instants.specs.declared.indications.Indication.{Indication}
use Rattle.instants.specs.declared.indications.Params.{Params}
use Rattle.instants.specs.Track.{event_of, next_number, track_after_take}
use Rattle.phased_control.specs.procedure_values.declared.asks.Ask.{Ask}
use Rattle.phased_control.specs.procedure_values.declared.asks.Ask.TheVariants.{Update as ask_update, Request as ask_request, Features as ask_features, Version as ask_version, Encrypt as ask_encrypt}
use Rattle.phased_control.specs.procedure_values.declared.drafts.Draft.{Draft}
use Rattle.phased_control.specs.procedure_values.declared.drafts.Draft.TheVariants.{Cipher}
use Rattle.phased_control.specs.procedure_values.declared.drafts.Rejection.{Rejection as TheRejection}
use Rattle.phased_control.specs.procedure_values.declared.lengths.Lengths.{Lengths}
use Rattle.phased_control.specs.procedure_values.Asks.{kind_of_ask}
use Rattle.phased_control.specs.procedure_values.Drafts.{is_out}
use Rattle.phased_control.specs.procedure_values.Wants.{place_of, wanted_at, without_place}
use Rattle.phased_control.specs.procedure_stages.declared.closing.Closing.{Closing}
use Rattle.phased_control.specs.procedure_stages.declared.reply.Reply.{Reply}
use Rattle.phased_control.specs.procedure_stages.declared.reply.Reply.TheVariants.{Answer, Nothing as no_reply, Reject}
use Rattle.phased_control.specs.procedure_stages.declared.stages.Progress.{Progress}
use Rattle.phased_control.specs.procedure_stages.declared.stages.Progress.TheVariants.{Central as central, Peripheral as peripheral}
use Rattle.phased_control.specs.procedure_stages.declared.steps.Step.{Step as TableStep}
use Rattle.phased_control.specs.procedure_stages.Begun.{draft_begun, progress_begun}
use Rattle.phased_control.specs.procedure_stages.Closing.{is_open}
use Rattle.phased_control.specs.procedure_stages.InProgress.{is_host_asked}
use Rattle.phased_control.specs.procedure_stages.Kinds.{role_of}
use Rattle.phased_control.specs.procedure_stages.Queue.{QueueFacts, with_reply}
use Rattle.phased_control.specs.procedure_stages.Steps.{is_version_effect}
use Rattle.phased_control.specs.procedures.declared.outcome.Outcome.{Outcome}
use Rattle.phased_control.specs.procedures.Beginning.{ask_at, begin_at, begin_step, place_to_begin, with_first_draft}
use Rattle.phased_control.specs.procedures.Calls.{Call, after_call, enters, host_answers, is_acked, sends, takes}
use Rattle.phased_control.specs.procedures.Going.{entered_step, host_answer_step, is_answer, terminate_step}
use Rattle.phased_control.specs.procedures.Sending.{acked_step, went_step}
use Rattle.phased_control.specs.procedures.Table.{TableFacts}
use Rattle.phased_control.specs.procedures.Taking.{facts_with, lacks_room, no_room, outcome_of, took_step}
use Rattle.phased_control.specs.table_laws.Encrypting.{MayBeginBy, has_encryption}
use Rattle.phased_control.proofs.table_laws.Encrypting.{begins_by}
use Rattle.phased_control.proofs.table_laws.Outcomes.{is_reply, took as took_reply}
use Rattle.phased_control.specs.control_model.Control.{Control, Step, Answers, Asks, Disconnects, Enters, Owes, SeesAcknowledged, Sends, Takes, after, ended, first_control, following, goes_out, indicated_by, is_to_come, moved, table_if, taken, went}
use Rattle.phased_control.proofs.control_model.Calls.{any_step, either_way}
use Rattle.phased_control.specs.control_model.Supported.{begins_encryption, read_supported}
use Rattle.unencrypted_ends.specs.Unencrypted.{HasNoEncryption, IsUnencrypted, asks_no_encryption, begins_no_encryption, encrypts_nothing, is_cipher, is_cipher_out}
use Rattle.unencrypted_ends.proofs.Sending.{IsPlain, next_goes}

abbrev pub AsksNone : Ask → Type 0
AsksNone ask = asks_no_encryption ask ≡ true

-- ---- what waits

plain_with : (b : Bool) (queue : QueueFacts) (draft : Draft) → is_cipher draft ≡ false → All IsPlain queue.drafts
    → All IsPlain (if b then record queue { drafts = queue.drafts ++ draft ∷ [] } else queue).drafts
plain_with true queue draft is all = All-push IsPlain queue.drafts draft all is
plain_with false queue draft is all = all

plain_rejecting : (b : Bool) (queue : QueueFacts) (rejection : TheRejection) → All IsPlain queue.drafts
    → All IsPlain (if b then record queue { rejections = queue.rejections ++ rejection ∷ [] } else queue).drafts
plain_rejecting true queue rejection all = all
plain_rejecting false queue rejection all = all

plain_ending : (b : Bool) (queue : QueueFacts) (code : ErrCode) → All IsPlain queue.drafts
    → All IsPlain (if b then record queue { disconnect = Some code } else queue).drafts
plain_ending true queue code all = all
plain_ending false queue code all = all

plain_answer : (role : Role) (used : Bool) (draft : Draft) → is_reply role used (Answer draft) ≡ true → is_cipher draft ≡ false
plain_answer role used (Cipher ctrl) is = absurd (cc)
plain_answer role used draft is = refl

plain_replying : (closing : Closing) (role : Role) (used : Bool) (reply : Reply) (queue : QueueFacts) → is_reply role used reply ≡ true → All IsPlain queue.drafts
    → All IsPlain (with_reply closing reply queue).drafts
plain_replying closing role used no_reply queue is all = all
plain_replying closing role used (Reject rejection) queue is all = plain_rejecting (is_open closing) queue rejection all
plain_replying closing role used (Answer draft) queue is all = plain_with (is_open closing) queue draft (plain_answer role used draft is) all

plain_begun : (closing : Closing) (role : Role) (used : Bool) (lengths : Lengths) (ask : Ask) (queue : QueueFacts) → All IsPlain queue.drafts
    → All IsPlain (with_first_draft closing (draft_begun role used lengths ask) queue).drafts
plain_begun closing role true lengths ask_version queue all = all
plain_begun closing role false lengths ask_version queue all = plain_with (is_open closing) queue _ refl all
plain_begun closing central_role used lengths ask_features queue all = plain_with (is_open closing) queue _ refl all
plain_begun closing peripheral_role used lengths ask_features queue all = plain_with (is_open closing) queue _ refl all
plain_begun closing role used lengths (ask_encrypt rand ediv ltk skd_m iv_m) queue all = all
plain_begun closing role used lengths ask queue all = plain_with (is_open closing) queue _ refl all

-- ---- what is wanted

wanted_more : (place : Option ℕ) (ask : Ask) (asks : List Ask) → AsksNone ask → All AsksNone asks → All AsksNone (wanted_at place ask asks)
wanted_more None ask asks is all = All-push AsksNone asks ask all is
wanted_more (Some place) ask asks is all = All-set AsksNone asks place ask is all

removed : (asks : List Ask) (place : ℕ) → All AsksNone asks → All AsksNone (remove asks place)
removed asks place all =
    All-append AsksNone (take place asks) (drop (suc place) asks) (All-take AsksNone place asks all) (All-drop AsksNone (suc place) asks all)

wanted_less : (b : Bool) (place : Option ℕ) (asks : List Ask) → All AsksNone asks → All AsksNone (if b then without_place place asks else asks)
wanted_less true None asks all = all
wanted_less true (Some place) asks all = removed asks place all
wanted_less false place asks all = all

pub wanted_here : (place : ℕ) (ask : Ask) (asks : List Ask) → ask_at (Some place) asks ≡ Some ask → All AsksNone asks → AsksNone ask
wanted_here place ask asks is all =
    subst AsksNone (get_or_from_slice_get asks place ask ask is) (All-get_or AsksNone asks place ask (slice_get_within asks place ask is) all)

-- ---- what runs

abbrev has : TableFacts → Bool
has f = has_encryption f.progress

-- a call by which none begins
none_by : (f : TableFacts) (call : Call) → has f ≡ false → (MayBeginBy f.progress call → ⊥) → has (after_call f call) ≡ false
none_by f call none may = by (has (after_call f call)) refl
  where
    by : (b : Bool) → has (after_call f call) ≡ b → b ≡ false
    by true is = absurd (may (begins_by f call none is))
    by false is = refl

none_begun : (ask : Ask) (used : Bool) (p : Progress) → AsksNone ask → has_encryption p ≡ false → has_encryption (progress_begun ask used p) ≡ false
none_begun (ask_encrypt rand ediv ltk skd_m iv_m) used p is none = absurd (cc)
none_begun (ask_request min max latency timeout) used (central c) is none = none
none_begun ask used (central c) is none = refl
none_begun ask used (peripheral p) is none = none

none_entered : (p : Progress) (b : Bool) → MayBeginBy p (enters b) → ⊥
none_entered (central c) b may = may
none_entered (peripheral p) b may = may

none_answered : (p : Progress) (answer : Result Ask ErrCode) → MayBeginBy p (host_answers answer) → ⊥
none_answered (central c) answer may = may
none_answered (peripheral p) answer may = may

none_acked : (p : Progress) → MayBeginBy p is_acked → ⊥
none_acked (central c) may = may
none_acked (peripheral p) may = may

none_sent : (p : Progress) (event skips : ℕ) (quiet : Bool) (slot : ℕ) → MayBeginBy p (sends event skips quiet slot) → ⊥
none_sent (central c) event skips quiet slot may = may
none_sent (peripheral p) event skips quiet slot may = may

none_taken : (p : Progress) (read : CtrlRead) (slot : ℕ) (quiet : Bool) → begins_no_encryption read ≡ true → MayBeginBy p (takes read slot quiet) → ⊥
none_taken (central c) read slot quiet is may = may
none_taken (peripheral p) (Known (EncReq rand ediv skd_m iv_m)) slot quiet is may = absurd (cc)
none_taken (peripheral p) (Known PauseEncReq) slot quiet is may = absurd (cc)
none_taken (peripheral p) (Known ctrl) slot quiet is may = may
none_taken (peripheral p) (Unknown opcode) slot quiet is may = may
none_taken (peripheral p) Bare slot quiet is may = may

-- ---- the calls of each step

pub entered_none : (f : TableFacts) (b : Bool) → HasNoEncryption f → HasNoEncryption (entered_step f b).0
entered_none f true none =
    record { wanted = none.wanted; none_runs = none_by f (enters true) none.none_runs (none_entered f.progress true); waits = none.waits; out = none.out }
entered_none f false none = none

begun_at : (f : TableFacts) (slot : ℕ) (place : Option ℕ) (ask : Option Ask) → ask_at place f.wanted ≡ ask → HasNoEncryption f → HasNoEncryption (begin_at f slot place ask).0
begun_at f slot None ask is none = none
begun_at f slot (Some place) None is none = none
begun_at f slot (Some place) (Some ask) is none =
    record {
      wanted = removed f.wanted place none.wanted;
      none_runs = none_begun ask f.version_used f.progress (wanted_here place ask f.wanted is none.wanted) none.none_runs;
      waits = plain_begun f.closing (role_of f.progress) f.version_used f.lengths ask f.queue none.waits;
      out = none.out;
    }

begun_none : (f : TableFacts) (slot : ℕ) (quiet : Bool) → HasNoEncryption f → HasNoEncryption (begin_step f slot quiet).0
begun_none f slot quiet none = begun_at f slot (place_to_begin f quiet) (ask_at (place_to_begin f quiet) f.wanted) refl none

answered_none : (f : TableFacts) (answer : Result Ask ErrCode) → HasNoEncryption f → HasNoEncryption (host_answer_step f answer)
answered_none f (Ok (ask_update interval latency timeout)) none =
    record {
      wanted = none.wanted;
      none_runs = none_by f (host_answers (Ok (ask_update interval latency timeout))) none.none_runs (none_answered f.progress _);
      waits = plain_with (is_open f.closing) f.queue _ refl none.waits;
      out = none.out;
    }
answered_none f (Ok other) none = none
answered_none f (Err code) none =
    record {
      wanted = none.wanted;
      none_runs = none_by f (host_answers (Err code)) none.none_runs (none_answered f.progress _);
      waits = plain_rejecting (is_open f.closing) f.queue _ none.waits;
      out = none.out;
    }

went_none : (f : TableFacts) (event skips : ℕ) (quiet : Bool) (slot : ℕ) → HasNoEncryption f → HasNoEncryption (went_step f event skips quiet slot).0
went_none f event skips quiet slot none =
    let goes = next_goes f event quiet none.waits in
    record { wanted = none.wanted; none_runs = none_by f (sends event skips quiet slot) none.none_runs (none_sent f.progress event skips quiet slot); waits = goes.rest; out = goes.plain }

-- ---- a PDU is taken: the table stays as it was, or follows it

record Stock (f : TableFacts) : Type 0 where
  wanted : All AsksNone f.wanted
  waits : All IsPlain f.queue.drafts
  out : is_cipher_out f.out ≡ false

abbrev settled_as : Bool → Bool → TableFacts → TableFacts → TableStep → TableStep → TableFacts × TableStep
settled_as full ends f g full_step step = if full then (f, full_step) else (if ends then (f, step) else (g, step))

settled_stock : (full ends : Bool) (f g : TableFacts) (x y : TableStep) → Stock f → Stock g → Stock (settled_as full ends f g x y).0
settled_stock true ends f g x y now next = now
settled_stock false true f g x y now next = now
settled_stock false false f g x y now next = next

took_none : (f : TableFacts) (read : CtrlRead) (slot : ℕ) (quiet : Bool) → begins_no_encryption read ≡ true → HasNoEncryption f → HasNoEncryption (took_step f read slot quiet).0
took_none f read slot quiet is none =
    record {
      wanted = stock.wanted;
      none_runs = none_by f (takes read slot quiet) none.none_runs (none_taken f.progress read slot quiet is);
      waits = stock.waits;
      out = stock.out;
    }
  where
    o : Outcome
    o = outcome_of f quiet read

    stock : Stock (took_step f read slot quiet).0
    stock =
        settled_stock (lacks_room f o) (is_some o.step.ends) f (facts_with f slot o) no_room o.step (record { wanted = none.wanted; waits = none.waits; out = none.out })
        (record {
          wanted = wanted_less (is_version_effect o.step.effect) (place_of Version f.wanted) f.wanted none.wanted;
          waits = plain_replying f.closing (role_of f.progress) f.version_used o.reply f.queue (took_reply f quiet read).reply none.waits;
          out = none.out;
        })

-- ---- every step

following_none : (role : Role) (indication : Option Indication) (c : Control) → IsUnencrypted c → IsUnencrypted (following role indication c)
following_none central_role None c none = none
following_none central_role (Some indication) c none = none
following_none peripheral_role indication c none = none

taken_none : (g : TableFacts) (ends : Option ErrCode) (indication : Option Indication) (c : Control) → HasNoEncryption g → IsUnencrypted c → IsUnencrypted (taken g ends indication c)
taken_none g (Some code) indication c next now = now
taken_none g None None c next now = next
taken_none g None (Some indication) c next now =
    either_way IsUnencrypted (is_to_come c.track indication) (record c { table = g; track = track_after_take c.track indication })
    (ended (record { 0 = instant_passed }) c) next now

table_none : (b : Bool) (g : TableFacts) (c : Control) → HasNoEncryption g → IsUnencrypted c → IsUnencrypted (table_if b g c)
table_none b g c next now = either_way IsUnencrypted b (record c { table = g }) c next now

moved_none : (step : Step) (c : Control) → encrypts_nothing step ≡ true → IsUnencrypted c → IsUnencrypted (moved step c)
moved_none (Enters slot quiet) c is none =
    begun_none (entered_step c.table (is_some (next_number c.track))).0 slot quiet (entered_none c.table (is_some (next_number c.track)) none)
moved_none (Asks ask) c is none =
    record { wanted = wanted_more (place_of (kind_of_ask ask) c.table.wanted) ask c.table.wanted is none.wanted; none_runs = none.none_runs; waits = none.waits; out = none.out }
moved_none (Answers answer) c is none =
    table_none (is_host_asked c.table.progress && is_answer answer) (host_answer_step c.table answer) c (answered_none c.table answer none) none
moved_none (Disconnects reason) c is none =
    table_none (is_open c.table.closing) (terminate_step c.table reason) c
    (record { wanted = none.wanted; none_runs = none.none_runs; waits = plain_ending (is_open c.table.closing) c.table.queue reason none.waits; out = none.out }) none
moved_none (Sends slot quiet) c is none =
    either_way IsUnencrypted (goes_out quiet c) (following (role_of c.table.progress) (went slot quiet c).1 (record c { table = (went slot quiet c).0 })) c
    (following_none (role_of c.table.progress) (went slot quiet c).1 (record c { table = (went slot quiet c).0 })
    (went_none c.table (event_of c.track) c.track.params.latency quiet slot none))
    none
moved_none SeesAcknowledged c is none =
    table_none (is_out c.table.out) (acked_step c.table).0 c
    (record { wanted = none.wanted; none_runs = none_by c.table is_acked none.none_runs (none_acked c.table.progress); waits = none.waits; out = refl }) none
moved_none (Takes read slot quiet) c is none =
    let step = took_step c.table read slot quiet in
    taken_none step.0 step.1.ends (indicated_by step.1.effect) c (took_none c.table read slot quiet is none) none
moved_none (Owes ctrl) c is none = absurd (cc)

pub stays : (c : Control) (step : Step) → IsUnencrypted c → encrypts_nothing step ≡ true → IsUnencrypted (after step c)
stays c step none is = any_step IsUnencrypted step c (moved_none step c is none) none

-- ---- what is read is supported

pub none_read : (read : CtrlRead) → begins_no_encryption (read_supported read) ≡ true
none_read (Known ctrl) = by (begins_encryption ctrl) refl
  where
    by : (b : Bool) → begins_encryption ctrl ≡ b → begins_no_encryption (if b then Unknown (opcode_of ctrl) else Known ctrl) ≡ true
    by true is = refl
    by false is = rw is refl
none_read (Unknown opcode) = refl
none_read Bare = refl

pub stays_taking : (c : Control) (read : CtrlRead) (slot : ℕ) (quiet : Bool) → IsUnencrypted c → IsUnencrypted (after (Takes (read_supported read) slot quiet) c)
stays_taking c read slot quiet none = stays c (Takes (read_supported read) slot quiet) none (none_read read)

-- ---- as the link begins

pub begins_none : (role : Role) (max_rx : ℕ) (first : Params) (slot : ℕ) → IsUnencrypted (first_control role max_rx first slot)
begins_none central_role max_rx first slot = record { wanted = All-nil AsksNone; none_runs = refl; waits = All-nil IsPlain; out = refl }
begins_none peripheral_role max_rx first slot = record { wanted = All-nil AsksNone; none_runs = refl; waits = All-nil IsPlain; out = refl }
