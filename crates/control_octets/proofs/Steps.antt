-- Every step of an end leaves its values in their ranges, and what it sends is read as itself.
use Rattle.std.proofs.Common.{◌≡◌, ◌≤◌, ℕ, Bool, true, false, ◌&&◌, if◌then◌else◌, List, Option, Some, None, is_some, Result, Ok, Err, refl, subst, arith}
use Rattle.std.specs.Prelude.{IfSome}
use Rattle.std.specs.List.{All}
use Rattle.std.proofs.lemmas.List.Elements.{All-get_or, All-nil}
use Rattle.std.proofs.lemmas.Option.{get_or_from_slice_get, slice_get_within}
use Rattle.ble_base.specs.ErrorCodes.{instant_passed}
use Rattle.ble_base.specs.declared.error_codes.ErrCode.{ErrCode}
use Rattle.ble_base.specs.declared.procedure_kinds.Kind.TheVariants.{Version}
use Rattle.ble_base.specs.declared.roles.Role.{Role}
use Rattle.ble_base.specs.declared.roles.Role.TheVariants.{Central as central_role, Peripheral as peripheral_role}
use Rattle.data_pdu.specs.Layouts.{IsCtrl, written}
use Rattle.data_pdu.specs.Reading.{ctrl_of}
use Rattle.data_pdu.specs.declared.ctrl.Ctrl.{Ctrl}
use Rattle.data_pdu.specs.declared.ctrl.CtrlRead.{CtrlRead}
use Rattle.data_pdu.specs.declared.ctrl.CtrlRead.TheVariants.{Known}
use Rattle.data_pdu.proofs.Rows.{written_is_known}
use Rattle.instants.specs.Parameters.{params_after}
use Rattle.instants.specs.Track.{TrackFacts, event_of, is_due, next_number, track_after_take, track_changed, track_in_next, track_unchanged}
use Rattle.instants.specs.declared.indications.Indication.{Indication}
use Rattle.instants.specs.declared.indications.Indication.TheVariants.{Update as update_indication, Map as map_indication}
use Rattle.instants.specs.declared.indications.Params.{Params}
use Rattle.instants.specs.declared.track.Change.{Change}
use Rattle.control_model.specs.procedure_values.Asks.{kind_of_ask}
use Rattle.control_model.specs.procedure_values.Drafts.{indication_of, is_out}
use Rattle.control_model.specs.procedure_values.Limits.{lengths_asked}
use Rattle.control_model.specs.procedure_values.Values.{IsPayloadMax}
use Rattle.control_model.specs.procedure_values.Wants.{place_of, without_place}
use Rattle.control_model.specs.procedure_values.declared.asks.Ask.{Ask}
use Rattle.control_model.specs.procedure_values.declared.asks.Ask.TheVariants.{Update as ask_update, Request as ask_request, Map as ask_map, Phy as ask_phy, Features as ask_features, Version as ask_version, Length as ask_length, Encrypt as ask_encrypt}
use Rattle.control_model.specs.procedure_values.declared.drafts.Draft.TheVariants.{Update, Grant, Map}
use Rattle.control_model.specs.procedure_values.declared.drafts.Outgoing.{Outgoing}
use Rattle.control_model.specs.procedure_values.declared.drafts.Outgoing.TheVariants.{Nothing, Rejection, Disconnect, Other}
use Rattle.control_model.specs.procedure_values.declared.lengths.Lengths.{Lengths}
use Rattle.control_model.specs.procedure_stages.Begun.{draft_begun, feature_draft}
use Rattle.control_model.specs.procedure_stages.Closing.{is_open}
use Rattle.control_model.specs.procedure_stages.InProgress.{is_host_asked}
use Rattle.control_model.specs.procedure_stages.Kinds.{role_of}
use Rattle.control_model.specs.procedure_stages.Steps.{is_version_effect}
use Rattle.control_model.specs.procedures.declared.outcome.Outcome.{Outcome}
use Rattle.control_model.specs.procedures.Beginning.{ask_at, ask_step, begin_at, begin_step, first_draft, place_to_begin}
use Rattle.control_model.specs.procedures.Going.{entered_step, host_answer_step, is_answer, owe_step, terminate_step}
use Rattle.control_model.specs.procedures.Queue.{next_of}
use Rattle.control_model.specs.procedures.Sending.{acked_step, next_ctrl_of}
use Rattle.control_model.specs.procedures.Table.{TableFacts}
use Rattle.control_model.specs.procedures.Taking.{facts_with, outcome_of}
use Rattle.control_model.specs.Control.{Control, Step, Enters, Asks, Answers, Disconnects, Sends, SeesAcknowledged, Takes, Owes, after, ended, entered, first_control, following, goes_out, indicated_by, is_to_come, moved, sent, table_if, taken, took, went}
use Rattle.control_model.proofs.Calls.{any_step, either_way, took_by}
use Rattle.control_octets.specs.Fitting.{AskFits, DraftFits, FitsOctets, IndicationFits, LengthsFit, ParamsFit, QueueFits, ReadFits, StepFits, TableFits, TrackFits}
use Rattle.control_octets.proofs.Outcomes.{OutcomeFits, outcome_fits}
use Rattle.control_octets.proofs.Pdus.{OutgoingFits, cipher_fits, feature_req_fits, grant_fits, length_req_fits, map_fits, outgoing_is_ctrl, peripheral_feature_req_fits, phy_req_fits, request_fits, update_fits, version_fits}
use Rattle.control_octets.proofs.Queues.{next_goes, wants_removed, wants_with, wants_without, with_disconnect_fits, with_draft_fits, with_first_fits, with_rejection_fits, with_reply_fits}

-- ---- a link begins

pub begins_fitting : (role : Role) (max_rx : ℕ) (first : Params) (slot : ℕ) → IsPayloadMax max_rx → ParamsFit first
    → FitsOctets (first_control role max_rx first slot)
begins_fitting role max_rx first slot rx params =
    record {
      table = record {
        queue = record { rejections = All-nil _; disconnect = tt; drafts = All-nil _ };
        wanted = All-nil _;
        lengths = record { own_rx = rx; own_tx = record { from = omega arith; to = omega arith } };
      };
      track = record { params = params; waits = tt };
    }

-- ---- the table alone changes

kept : (c : Control) (g : TableFacts) → FitsOctets c → TableFits g → FitsOctets (record c { table = g })
kept c g fits table = record { table = table; track = fits.track }

kept_if : (may : Bool) (c : Control) (g : TableFacts) → FitsOctets c → TableFits g → FitsOctets (table_if may g c)
kept_if true c g fits table = kept c g fits table
kept_if false c g fits table = fits

over : (code : ErrCode) (c : Control) → FitsOctets c → FitsOctets (ended code c)
over code c fits = record { table = fits.table; track = fits.track }

with_queue : (f g : TableFacts) → TableFits f → g.wanted ≡ f.wanted → g.lengths ≡ f.lengths → QueueFits g.queue → TableFits g
with_queue f g t wanted lengths queue = record { queue = queue; wanted = rw wanted t.wanted; lengths = rw lengths t.lengths }

-- ---- the host

asked_lengths : (ask : Ask) (lengths : Lengths) → LengthsFit lengths → AskFits ask → LengthsFit (lengths_asked ask lengths)
asked_lengths (ask_length tx) lengths l is = record { own_rx = l.own_rx; own_tx = is }
asked_lengths other lengths l is = l

asks : (f : TableFacts) (ask : Ask) → TableFits f → AskFits ask → TableFits (ask_step f ask)
asks f ask t is =
    record {
      queue = t.queue;
      wanted = wants_with (place_of (kind_of_ask ask) f.wanted) ask f.wanted t.wanted is;
      lengths = asked_lengths ask f.lengths t.lengths is;
    }

answers : (f : TableFacts) (answer : Result Ask ErrCode) → TableFits f → StepFits (Answers answer) → TableFits (host_answer_step f answer)
answers f (Ok (ask_update interval latency timeout)) t is =
    with_queue f _ t refl refl (with_draft_fits f.closing _ f.queue t.queue (grant_fits _ is))
answers f (Ok other) t is = t
answers f (Err code) t is =
    with_queue f _ t refl refl (with_rejection_fits f.closing _ f.queue t.queue (record { opcode = omega arith; code = is }))

-- ---- a procedure begins

feature_fits : (role : Role) → DraftFits (feature_draft role)
feature_fits central_role = feature_req_fits
feature_fits peripheral_role = peripheral_feature_req_fits

first_fits : (role : Role) (used : Bool) (lengths : Lengths) (ask : Ask) → LengthsFit lengths → AskFits ask
    → IfSome (draft_begun role used lengths ask) DraftFits
first_fits role used lengths (ask_update interval latency timeout) l is = update_fits _ is
first_fits role used lengths (ask_request min max latency timeout) l is = request_fits min max latency timeout is
first_fits role used lengths (ask_map map) l is = map_fits map is
first_fits role used lengths ask_phy l is = phy_req_fits
first_fits role used lengths ask_features l is = feature_fits role
first_fits role true lengths ask_version l is = tt
first_fits role false lengths ask_version l is = version_fits
first_fits role used lengths (ask_length tx) l is = length_req_fits lengths.own_rx lengths.own_tx l.own_rx l.own_tx
first_fits role used lengths (ask_encrypt rand ediv ltk skd_m iv_m) l is = tt

-- what begins is one of the asks that wait
pub asked_fits : (wanted : List Ask) (place : Option ℕ) (ask : Option Ask) → ask_at place wanted ≡ ask → All AskFits wanted → IfSome ask AskFits
asked_fits wanted None None is all = tt
asked_fits wanted None (Some ask) is all = absurd (cc)
asked_fits wanted (Some place) None is all = tt
asked_fits wanted (Some place) (Some ask) is all =
    subst AskFits (get_or_from_slice_get wanted place ask ask is)
    (All-get_or AskFits wanted place ask (slice_get_within wanted place ask is) all)

begins_at : (f : TableFacts) (slot : ℕ) (place : Option ℕ) (ask : Option Ask) → ask_at place f.wanted ≡ ask → TableFits f
    → TableFits (begin_at f slot place ask).0
begins_at f slot None ask is t = t
begins_at f slot (Some place) None is t = t
begins_at f slot (Some place) (Some ask) is t =
    record {
      queue = with_first_fits f.closing (first_draft f ask) f.queue t.queue
          (first_fits (role_of f.progress) f.version_used f.lengths ask t.lengths (asked_fits f.wanted (Some place) (Some ask) is t.wanted));
      wanted = wants_removed f.wanted place t.wanted;
      lengths = t.lengths;
    }

begins : (f : TableFacts) (slot : ℕ) (quiet : Bool) → TableFits f → TableFits (begin_step f slot quiet).0
begins f slot quiet t = begins_at f slot (place_to_begin f quiet) (ask_at (place_to_begin f quiet) f.wanted) refl t

-- ---- an event is entered

params_fit : (params : Params) (indication : Indication) → ParamsFit params → IndicationFits indication → ParamsFit (params_after params indication)
params_fit params (update_indication win_offset interval latency timeout instant) now new = record { times = new; channels = now.channels }
params_fit params (map_indication map instant) now new = record { times = now.times; channels = new }

next_fits : (waits : Option Change) (t : TrackFacts) → t.waits ≡ waits → TrackFits t → TrackFits (track_in_next waits t)
next_fits None t is fits = record { params = fits.params; waits = fits.waits }
next_fits (Some change) t is fits = by (is_due change t.entered)
  where
    waiting : IndicationFits change.indication
    waiting = subst (λ (some : Option Change). IfSome some (λ (change : Change). IndicationFits change.indication)) is fits.waits

    by : (due : Bool) → TrackFits (if due then track_changed change t else track_unchanged t)
    by true = record { params = params_fit t.params change.indication fits.params waiting; waits = tt }
    by false = record { params = fits.params; waits = fits.waits }

pub holds : (f : TableFacts) (applied : Bool) → TableFits f → TableFits (entered_step f applied).0
holds f true t = record { queue = t.queue; wanted = t.wanted; lengths = t.lengths }
holds f false t = t

enters : (c : Control) (slot : ℕ) (quiet : Bool) → FitsOctets c → FitsOctets (entered slot quiet c)
enters c slot quiet fits =
    record {
      table = begins (entered_step c.table (is_some (next_number c.track))).0 slot quiet
          (holds c.table (is_some (next_number c.track)) fits.table);
      track = next_fits c.track.waits c.track refl fits.track;
    }

-- ---- a control PDU is sent

follows : (t : TrackFacts) (indication : Indication) → TrackFits t → IndicationFits indication → TrackFits (track_after_take t indication)
follows t indication fits is = record { params = fits.params; waits = is }

outgoing_indication : (outgoing : Outgoing) (event skips : ℕ) → OutgoingFits outgoing → IfSome (indication_of outgoing event skips) IndicationFits
outgoing_indication Nothing event skips is = tt
outgoing_indication (Rejection rejection) event skips is = tt
outgoing_indication (Disconnect code) event skips is = tt
outgoing_indication (Other (Update params)) event skips is =
    let range = (is event skips).range in
    record { interval_to = range.interval_to; latency_to = range.latency_to; timeout_to = range.timeout_to }
outgoing_indication (Other (Grant params)) event skips is =
    let range = (is event skips).range in
    record { interval_to = range.interval_to; latency_to = range.latency_to; timeout_to = range.timeout_to }
outgoing_indication (Other (Map map)) event skips is = (is event skips).range
outgoing_indication (Other other) event skips is = tt

follows_own : (role : Role) (indication : Option Indication) (c : Control) → FitsOctets c → IfSome indication IndicationFits
    → FitsOctets (following role indication c)
follows_own central_role None c fits is = fits
follows_own central_role (Some indication) c fits is = record { table = fits.table; track = follows c.track indication fits.track is }
follows_own peripheral_role indication c fits is = fits

sends : (c : Control) (slot : ℕ) (quiet : Bool) → FitsOctets c → FitsOctets (sent slot quiet c)
sends c slot quiet fits =
    let event = event_of c.track in
    let goes = next_goes c.table event quiet fits.table.queue in
    either_way FitsOctets (goes_out quiet c) _ c
    (follows_own (role_of c.table.progress) (went slot quiet c).1 (record c { table = (went slot quiet c).0 })
    (kept c (went slot quiet c).0 fits (with_queue c.table _ fits.table refl refl goes.rest))
    (outgoing_indication (next_of c.table event quiet) event c.track.params.latency goes.fits))
    fits

-- ---- a control PDU of the peer is taken

wants_after : (is_version : Bool) (place : Option ℕ) (wanted : List Ask) → All AskFits wanted
    → All AskFits (if is_version then without_place place wanted else wanted)
wants_after true place wanted all = wants_without place wanted all
wants_after false place wanted all = all

outcome_table : (f : TableFacts) (slot : ℕ) (o : Outcome) → TableFits f → OutcomeFits o → TableFits (facts_with f slot o)
outcome_table f slot o t is =
    record {
      queue = with_reply_fits f.closing o.reply f.queue t.queue is.reply;
      wanted = wants_after (is_version_effect o.step.effect) (place_of Version f.wanted) f.wanted t.wanted;
      lengths = is.lengths;
    }

takes_by : (c : Control) (g : TableFacts) (indication : Option Indication) → FitsOctets c → TableFits g → IfSome indication IndicationFits
    → FitsOctets (taken g None indication c)
takes_by c g None fits table is = kept c g fits table
takes_by c g (Some indication) fits table is = by (is_to_come c.track indication)
  where
    by : (b : Bool) → FitsOctets (if b then record c { table = g; track = track_after_take c.track indication } else ended (record { 0 = instant_passed }) c)
    by true = record { table = table; track = follows c.track indication fits.track is }
    by false = over _ c fits

takes : (c : Control) (read : CtrlRead) (slot : ℕ) (quiet : Bool) → FitsOctets c → ReadFits read → FitsOctets (took read slot quiet c)
takes c read slot quiet fits is =
    let o = outcome_of c.table quiet read in
    let outcome = outcome_fits c.table fits.table.lengths quiet read is in
    took_by FitsOctets c (λ code. over code c fits) read slot quiet
    (takes_by c (facts_with c.table slot o) (indicated_by o.step.effect) fits (outcome_table c.table slot o fits.table outcome) outcome.indication)

-- ---- every step

moves : (step : Step) (c : Control) → FitsOctets c → StepFits step → FitsOctets (moved step c)
moves (Enters slot quiet) c fits is = enters c slot quiet fits
moves (Asks ask) c fits is = kept c _ fits (asks c.table ask fits.table is)
moves (Answers answer) c fits is =
    kept_if (is_host_asked c.table.progress && is_answer answer) c _ fits (answers c.table answer fits.table is)
moves (Disconnects reason) c fits is =
    kept_if (is_open c.table.closing) c (terminate_step c.table reason) fits
    (with_queue c.table _ fits.table refl refl (with_disconnect_fits c.table.closing reason c.table.queue fits.table.queue is))
moves (Sends slot quiet) c fits is = sends c slot quiet fits
moves SeesAcknowledged c fits is =
    kept_if (is_out c.table.out) c (acked_step c.table).0 fits (with_queue c.table _ fits.table refl refl fits.table.queue)
moves (Takes read slot quiet) c fits is = takes c read slot quiet fits is
moves (Owes ctrl) c fits is =
    kept c (owe_step c.table ctrl) fits
    (with_queue c.table _ fits.table refl refl (with_draft_fits c.table.closing _ c.table.queue fits.table.queue (cipher_fits ctrl is)))

pub stays_fitting : (c : Control) (step : Step) → FitsOctets c → StepFits step → FitsOctets (after step c)
stays_fitting c step fits is = any_step FitsOctets step c (moves step c fits is) fits

-- ---- what goes next, whenever it is first sent

pub sent_is_read : (c : Control) (event skips : ℕ) (quiet : Bool) (ctrl : Ctrl) → FitsOctets c
    → next_ctrl_of c.table event skips quiet ≡ Some ctrl → IsCtrl ctrl × (ctrl_of (written ctrl) ≡ Known ctrl)
sent_is_read c event skips quiet ctrl fits is =
    let goes = next_goes c.table event quiet fits.table.queue in
    let is_ctrl = outgoing_is_ctrl (next_of c.table event quiet) event skips ctrl goes.fits is in
    (is_ctrl, written_is_known ctrl is_ctrl)

pub sent_now_is_read : (c : Control) (quiet : Bool) (ctrl : Ctrl) → FitsOctets c
    → next_ctrl_of c.table (event_of c.track) c.track.params.latency quiet ≡ Some ctrl → IsCtrl ctrl × (ctrl_of (written ctrl) ≡ Known ctrl)
sent_now_is_read c quiet ctrl fits is = sent_is_read c (event_of c.track) c.track.params.latency quiet ctrl fits is

pub in_range : (c : Control) → FitsOctets c → (c.track.params.interval ≤ 3200) × (c.track.params.timeout ≤ 3200) × (c.track.params.latency ≤ 499)
in_range c fits =
    let times = fits.track.params.times in
    (times.interval_to, times.timeout_to, times.latency_to)
