-- When an event has a second exchange.
use Rattle.std.proofs.Common.{◌≡◌, ℕ, min, nat_lt, ◌==◌, ◌&&◌, ◌||◌, List, [], ◌∷◌, fold, not, Bool, true, false, Option, Some, None, is_none, is_some, Result, Ok, Err, refl, ap, sym, ◌∙◌, arith, if◌then◌else◌}
use Rattle.std.proofs.lemmas.Bool.{and_parts, eqb-true}
use Rattle.std.proofs.lemmas.Bool.Decides.{nat_tests}
use Rattle.ble_base.specs.declared.error_codes.ErrCode.{ErrCode}
use Rattle.ble_base.specs.declared.roles.Role.{Role}
use Rattle.ble_base.specs.declared.roles.Role.TheVariants.{Central, Peripheral}
use Rattle.ble_base.specs.Limits.{first_payload_octets}
use Rattle.data_pdu.specs.declared.header.DataHeader.{DataHeader}
use Rattle.data_pdu.specs.Header.{header_in}
use Rattle.instants.specs.declared.indications.Indication.{Indication}
use Rattle.instants.specs.Track.{next_number}
use Rattle.phased_end.specs.control_end.procedure_values.Limits.{first_lengths, rx_of, tx_of}
use Rattle.phased_end.specs.control_end.procedure_values.declared.lengths.Lengths.{Lengths}
use Rattle.phased_end.specs.control_end.procedure_values.Drafts.{is_out}
use Rattle.phased_end.specs.control_end.procedure_values.declared.asks.Ask.{Ask}
use Rattle.phased_end.specs.control_end.procedure_values.declared.asks.Ask.TheVariants.{Update}
use Rattle.phased_end.specs.control_end.procedure_stages.declared.steps.Effect.{Effect}
use Rattle.phased_end.specs.control_end.procedure_stages.declared.steps.Effect.TheVariants.{Lengths as new_lengths}
use Rattle.phased_end.specs.control_end.procedure_stages.Closing.{is_open}
use Rattle.phased_end.specs.control_end.procedure_stages.InProgress.{is_host_asked}
use Rattle.phased_end.specs.control_end.procedure_stages.Kinds.{role_of}
use Rattle.phased_end.specs.control_end.procedures.Beginning.{ask_at, begin_at, begin_step, place_to_begin}
use Rattle.phased_end.specs.control_end.procedures.Going.{entered_step, host_answer_step, is_answer, terminate_step}
use Rattle.phased_end.specs.control_end.procedures.Sending.{acked_step}
use Rattle.phased_end.specs.control_end.procedures.Table.{TableFacts}
use Rattle.phased_end.specs.control_end.control_model.Control.{Control, Step, Answers, Disconnects, Enters, Owes, SeesAcknowledged, Sends, after, ended, following, goes_out, moved, table_if, went}
use Rattle.ble_base.specs.ErrorCodes.{mic_failure, pin_or_key_missing}
use Rattle.data_pdu.specs.declared.ctrl.Ctrl.{Ctrl}
use Rattle.data_pdu.specs.declared.ctrl.Ctrl.TheVariants.{PauseEncReq, RejectExtInd, StartEncReq, TerminateInd}
use Rattle.phased_end.specs.enc_phase.declared.classes.PduClass.TheVariants.{Data as data_class}
use Rattle.phased_end.specs.enc_phase.declared.facts.PhaseFacts.{PhaseFacts}
use Rattle.phased_end.specs.enc_phase.declared.facts.PhaseFacts.TheVariants.{Clear}
use Rattle.phased_end.specs.enc_phase.declared.facts.Transition.TheVariants.{Ask as AskTransition, Refuse}
use Rattle.phased_end.specs.enc_phase.Phases.{may_follow, phase_after}
use Rattle.phased_end.specs.enc_phase.Taking.{allows}
use Rattle.phased_end.specs.control_end.procedure_stages.Opcodes.{enc_req_opcode}
use Rattle.phased_end.specs.phased_control.Phased.{Phased, ask_begun, asking_if, asks_again, encrypting, encrypting_if, is_encrypt, is_open_now, is_quiet_now as is_quiet_phased, key_given, key_lacking, refused_if, request_of, table_entered, with_owed_if, with_step}
use Rattle.phased_end.specs.phased_control.Taken.{ended_with, role_now}
use Rattle.phased_end.specs.keyed_control.Keyed.{Keyed}
use Rattle.phased_end.specs.keyed_control.KeyedSteps.{KeyedStep, Enters as KeyedEnters, SeesAcknowledged as KeyedSees, TakesData, is_of_session, keyed_after, keyed_moved}
use Rattle.link_model.specs.Setup.{Setup}
use Rattle.link_model.specs.Acknowledgement.{Pdu}
use Rattle.link_model.specs.Data.{is_control, is_data}
use Rattle.link_model.specs.Verdicts.{pdu_of}
use Rattle.link_model.specs.declared.state.KnownLengths.{KnownLengths}
use Rattle.link_model.specs.Facts.{Facts, first_facts, keyed_of}
use Rattle.link_model.specs.Step.{Step as LinkStep, DataGiven, DataReported, Disconnected, EventEntered, PacketReceived, PacketSent, PduFixed, ProcedureAsked, RequestAnswered, KeyAnswered, WordsGiven}
use Rattle.link_model.specs.Controls.{are_equal, goes_on, is_long, is_procedure_pdu, is_quiet_now}
use Rattle.link_model.proofs.Choices.{either_data, either_forged}
use Rattle.link_model.specs.Entering.{facts_entered_if}
use Rattle.link_model.specs.Fixing.{fixed_anew}
use Rattle.link_model.specs.Hosts.{asked, asked_unless, facts_answered, facts_disconnected, is_to_come, key_step, facts_key_answered}
use Rattle.link_model.specs.Packets.{good_pdu, is_forged}
use Rattle.link_model.specs.Sending.{control_gone_if, takes_leave}
use Rattle.link_model.specs.Receiving.{accepted_if, accepts, acknowledged_if, acks_control, answers_with_control, keyed_acked_if, kept_give, data_taken, ended_by_forgery, facts_hearing, facts_received, has_acknowledged, heard_in_slot, lengths_reported, lengths_seen, procedures_give, procedures_take, procedures_take_if}
use Rattle.link_model.specs.End.{facts_after, facts_of}
use Rattle.link_model.specs.Times.{has_second_exchange}

none_if : (both changed : Bool) → (both && (false && changed)) ≡ false
none_if true changed = refl
none_if false changed = refl

none_then : (both long : Bool) → (both && (not long && false)) ≡ false
none_then true true = refl
none_then true false = refl
none_then false long = refl

pub none_where_long : (facts : Facts) → facts.lengths.long ≡ true → has_second_exchange facts ≡ false
none_where_long facts long =
    ap (λ b. (facts.event.heard && facts.event.more) && (not b && not facts.lengths.changed)) long
    ∙ none_if (facts.event.heard && facts.event.more) (not facts.lengths.changed)

pub none_where_changed : (facts : Facts) → facts.lengths.changed ≡ true → has_second_exchange facts ≡ false
none_where_changed facts changed =
    ap (λ b. (facts.event.heard && facts.event.more) && (not facts.lengths.long && not b)) changed
    ∙ none_then (facts.event.heard && facts.event.more) facts.lengths.long

-- ---- where it has one, no effective length is over 27 octets

-- the calls that leave the lengths
begun_lengths : (f : TableFacts) (slot : ℕ) (place : Option ℕ) (ask : Option Ask) → (begin_at f slot place ask).0.lengths ≡ f.lengths
begun_lengths f slot None ask = refl
begun_lengths f slot (Some place) None = refl
begun_lengths f slot (Some place) (Some ask) = refl

applied_lengths : (f : TableFacts) (applied : Bool) → (entered_step f applied).0.lengths ≡ f.lengths
applied_lengths f true = refl
applied_lengths f false = refl

answer_lengths : (f : TableFacts) (answer : Result Ask ErrCode) → (host_answer_step f answer).lengths ≡ f.lengths
answer_lengths f (Ok (Update interval latency timeout)) = refl
answer_lengths f (Ok other) = refl
answer_lengths f (Err code) = refl

table_lengths : (may : Bool) (table : TableFacts) (c : Control) → table.lengths ≡ c.table.lengths → (table_if may table c).table.lengths ≡ c.table.lengths
table_lengths true table c same = same
table_lengths false table c same = refl

following_lengths : (role : Role) (indication : Option Indication) (c : Control) → (following role indication c).table.lengths ≡ c.table.lengths
following_lengths Central None c = refl
following_lengths Central (Some indication) c = refl
following_lengths Peripheral indication c = refl

sent_lengths : (goes : Bool) (slot : ℕ) (quiet : Bool) (c : Control)
    → (if goes then following (role_of c.table.progress) (went slot quiet c).1 (record c { table = (went slot quiet c).0 }) else c).table.lengths ≡ c.table.lengths
sent_lengths true slot quiet c = following_lengths (role_of c.table.progress) (went slot quiet c).1 (record c { table = (went slot quiet c).0 })
sent_lengths false slot quiet c = refl

after_lengths : (step : Step) (c : Control) → (moved step c).table.lengths ≡ c.table.lengths → (after step c).table.lengths ≡ c.table.lengths
after_lengths step c same = by (is_none c.ends)
  where
    by : (lasts : Bool) → (if lasts then moved step c else c).table.lengths ≡ c.table.lengths
    by true = same
    by false = refl

entering : (slot : ℕ) (quiet : Bool) (c : Control) → (after (Enters slot quiet) c).table.lengths ≡ c.table.lengths
entering slot quiet c =
    let applied = entered_step c.table (is_some (next_number c.track)) in
    after_lengths (Enters slot quiet) c
    (begun_lengths applied.0 slot (place_to_begin applied.0 quiet) (ask_at (place_to_begin applied.0 quiet) applied.0.wanted)
    ∙ applied_lengths c.table (is_some (next_number c.track)))

answering : (answer : Result Ask ErrCode) (c : Control) → (after (Answers answer) c).table.lengths ≡ c.table.lengths
answering answer c =
    after_lengths (Answers answer) c
    (table_lengths (is_host_asked c.table.progress && is_answer answer) (host_answer_step c.table answer) c (answer_lengths c.table answer))

disconnecting : (reason : ErrCode) (c : Control) → (after (Disconnects reason) c).table.lengths ≡ c.table.lengths
disconnecting reason c =
    after_lengths (Disconnects reason) c (table_lengths (is_open c.table.closing) (terminate_step c.table reason) c refl)

sending : (slot : ℕ) (quiet : Bool) (c : Control) → (after (Sends slot quiet) c).table.lengths ≡ c.table.lengths
sending slot quiet c = after_lengths (Sends slot quiet) c (sent_lengths (goes_out quiet c) slot quiet c)

seeing : (c : Control) → (after SeesAcknowledged c).table.lengths ≡ c.table.lengths
seeing c = after_lengths SeesAcknowledged c (table_lengths (is_out c.table.out) (acked_step c.table).0 c refl)

owing : (ctrl : Ctrl) (c : Control) → (after (Owes ctrl) c).table.lengths ≡ c.table.lengths
owing ctrl c = after_lengths (Owes ctrl) c refl

-- ---- with the encryption

owing_if : (owed : Option Ctrl) (s : Phased) → (with_owed_if owed s).control.table.lengths ≡ s.control.table.lengths
owing_if None s = refl
owing_if (Some ctrl) s = owing ctrl s.control

encrypting_lengths : (p : PhaseFacts) (s : Phased) → (encrypting p s).control.table.lengths ≡ s.control.table.lengths
encrypting_lengths Clear s = owing_if s.request (record s { phase = phase_after AskTransition s.phase })
encrypting_lengths phase s = owing PauseEncReq s.control

begins_encrypting : (begins : Bool) (request : Option Ctrl) (s : Phased)
    → (encrypting_if begins request s).control.table.lengths ≡ s.control.table.lengths
begins_encrypting true request s = encrypting_lengths s.phase (record s { request = request })
begins_encrypting false request s = refl

asks_lengths : (asks : Bool) (s : Phased) → (asking_if asks s).control.table.lengths ≡ s.control.table.lengths
asks_lengths true s = owing_if s.request (record s { phase = phase_after AskTransition s.phase })
asks_lengths false s = refl

-- a key counts where it is asked for
key_lengths : (asked : Bool) (after_key s : Phased) → after_key.control.table.lengths ≡ s.control.table.lengths
    → (if asked then after_key else s).control.table.lengths ≡ s.control.table.lengths
key_lengths true after_key s same = same
key_lengths false after_key s same = refl

refused_lengths : (refuses : Bool) (s : Phased) → (refused_if refuses s).control.table.lengths ≡ s.control.table.lengths
refused_lengths true s = owing (RejectExtInd enc_req_opcode pin_or_key_missing) s.control
refused_lengths false s = owing (TerminateInd pin_or_key_missing) s.control

keyed_lengths : (step : KeyedStep) (k : Keyed)
    → (keyed_moved step k).phased.control.table.lengths ≡ k.phased.control.table.lengths
    → (keyed_after step k).phased.control.table.lengths ≡ k.phased.control.table.lengths
keyed_lengths step k same = by (is_of_session step || is_none k.phased.control.ends)
  where
    by : (lasts : Bool) → (if lasts then keyed_moved step k else k).phased.control.table.lengths
        ≡ k.phased.control.table.lengths
    by true = same
    by false = refl

keyed_entering : (slot : ℕ) (k : Keyed)
    → (keyed_after (KeyedEnters slot) k).phased.control.table.lengths ≡ k.phased.control.table.lengths
keyed_entering slot k =
    let s = k.phased in
    let quiet = is_quiet_phased s in
    keyed_lengths (KeyedEnters slot) k
    (begins_encrypting (is_encrypt (begin_step (table_entered s) slot quiet).1)
    (request_of (ask_begun (table_entered s) quiet))
    (with_step (Enters slot quiet) s)
    ∙ entering slot quiet s.control)

keyed_seeing : (k : Keyed) → (keyed_after KeyedSees k).phased.control.table.lengths ≡ k.phased.control.table.lengths
keyed_seeing k =
    keyed_lengths KeyedSees k
    (asks_lengths (asks_again k.phased) (with_step SeesAcknowledged k.phased) ∙ seeing k.phased.control)

keyed_answering : (key : Option (List ℕ)) (k : Keyed)
    → (keyed_after (key_step key) k).phased.control.table.lengths ≡ k.phased.control.table.lengths
keyed_answering (Some ltk) k =
    let s = k.phased in
    keyed_lengths (key_step (Some ltk)) k
    (key_lengths (s.asks_key && is_open_now s) (key_given s) s (owing StartEncReq s.control))
keyed_answering None k =
    let s = k.phased in
    keyed_lengths (key_step None) k
    (key_lengths (s.asks_key && is_open_now s) (key_lacking s) s (refused_lengths (may_follow Refuse s.phase) s))

-- ---- what an end keeps of its lengths

-- where no length was over 27 octets as the event was entered, and none was changed since, none is
abbrev AreShort : Facts → Type 0
AreShort facts = facts.lengths.long ≡ false → facts.lengths.changed ≡ false → is_long facts.control.table.lengths ≡ false

-- a step that leaves both
leaves : (facts later : Facts) → later.lengths ≡ facts.lengths → later.control.table.lengths ≡ facts.control.table.lengths → AreShort facts
    → AreShort later
leaves facts later same_known same short long changed =
    ap is_long same ∙ short (sym (ap (λ (l : KnownLengths). l.long) same_known) ∙ long) (sym (ap (λ (l : KnownLengths). l.changed) same_known) ∙ changed)

-- a step in which a change is seen
same_long : (before later : Lengths) → are_equal before later ≡ true → is_long later ≡ is_long before
same_long before later same =
    let parts = and_parts (rx_of before == rx_of later) (tx_of before == tx_of later) same in
    let rx = eqb-true (rx_of before) (rx_of later) parts.0 in
    let tx = eqb-true (tx_of before) (tx_of later) parts.1 in
    sym (λ i. nat_lt first_payload_octets (rx i) || nat_lt first_payload_octets (tx i))

neither : (changed same : Bool) → (changed || not same) ≡ false → (changed ≡ false) × (same ≡ true)
neither true same is = absurd cc
neither false true is = (refl, refl)
neither false false is = absurd cc

seen : (facts later : Facts) → later.lengths.long ≡ facts.lengths.long
    → later.lengths.changed ≡ (facts.lengths.changed || not (are_equal facts.control.table.lengths later.control.table.lengths))
    → AreShort facts → AreShort later
seen facts later same_known now short long changed =
    let parts = neither facts.lengths.changed (are_equal facts.control.table.lengths later.control.table.lengths) (sym now ∙ changed) in
    same_long facts.control.table.lengths later.control.table.lengths parts.1 ∙ short (sym same_known ∙ long) parts.0

asked_short : (comes : Bool) (ask : Ask) (facts : Facts) → AreShort facts → AreShort (asked_unless comes ask facts)
asked_short true ask facts short = short
asked_short false ask facts short = seen facts (asked ask facts) refl refl short

entered_short : (goes : Bool) (setup : Setup) (slot : ℕ) (facts : Facts) → AreShort facts → AreShort (facts_entered_if goes setup slot facts)
entered_short true setup slot facts short = λ long changed. ap is_long (keyed_entering slot (keyed_of facts)) ∙ long
entered_short false setup slot facts short = short

fixed_short : (stays : Bool) (facts : Facts) → AreShort facts → AreShort (if stays then facts else fixed_anew facts)
fixed_short true facts short = short
fixed_short false facts short = short

gone_short : (goes : Bool) (slot : ℕ) (facts : Facts) → AreShort facts → AreShort (control_gone_if goes slot facts)
gone_short true slot facts short = leaves facts (control_gone_if true slot facts) refl (sending slot (is_quiet_now facts) facts.control) short
gone_short false slot facts short = short

acked_lengths : (acked : Bool) (k : Keyed)
    → (keyed_acked_if acked k).phased.control.table.lengths ≡ k.phased.control.table.lengths
acked_lengths true k = keyed_seeing k
acked_lengths false k = refl

-- what its host knows of the lengths is nothing of these
reported_long : (effect : Effect) (lengths : KnownLengths) → (lengths_reported effect lengths).long ≡ lengths.long
reported_long (new_lengths rx tx) lengths = refl
reported_long other lengths = refl

reported_changed : (effect : Effect) (lengths : KnownLengths) → (lengths_reported effect lengths).changed ≡ lengths.changed
reported_changed (new_lengths rx tx) lengths = refl
reported_changed other lengths = refl

-- data that ends the link
keyed_taking_data : (k : Keyed)
    → (keyed_after TakesData k).phased.control.table.lengths ≡ k.phased.control.table.lengths
keyed_taking_data k = keyed_lengths TakesData k (by (allows k.phased.phase (role_now k.phased) data_class))
  where
    by : (allowed : Bool) → (if allowed then k.phased else ended_with mic_failure k.phased).control.table.lengths
        ≡ k.phased.control.table.lengths
    by true = refl
    by false = refl

-- a forged packet ends it too
forged_lengths : (goes : Bool) (c : Control)
    → (if goes then ended (record { 0 = mic_failure }) c else c).table.lengths ≡ c.table.lengths
forged_lengths true c = refl
forged_lengths false c = refl

taken_short : (takes : Bool) (pdu : Pdu) (slot : ℕ) (facts : Facts) → AreShort facts → AreShort (procedures_take_if takes pdu slot facts)
taken_short true pdu slot facts short =
    let later = procedures_take pdu slot facts in
    let effect = (procedures_give pdu slot facts).effect in
    let kept = (kept_give pdu slot facts).effect in
    let known = lengths_seen facts.control.table.lengths later.control.table.lengths facts.lengths in
    seen facts later (reported_long kept (lengths_reported effect known) ∙ reported_long effect known)
    (reported_changed kept (lengths_reported effect known) ∙ reported_changed effect known) short
taken_short false pdu slot facts short = short

heard_short : (role : Role) (slot : ℕ) (room : Bool) (header : DataHeader) (pdu : Pdu) (facts : Facts) → AreShort facts
    → AreShort (facts_hearing role slot room header pdu facts)
heard_short role slot room header pdu facts short =
    let acks = has_acknowledged facts header in
    let own = acknowledged_if acks (heard_in_slot slot header.md facts) in
    let now = control_gone_if (answers_with_control role own) slot own in
    let accepted = accepts room header pdu now in
    let seen = procedures_take_if (accepted && is_procedure_pdu pdu) pdu slot (accepted_if accepted pdu now) in
    let has_short =
    taken_short (accepted && is_procedure_pdu pdu) pdu slot (accepted_if accepted pdu now)
    (gone_short (answers_with_control role own) slot own
    (leaves facts own refl (acked_lengths (acks_control acks facts) (keyed_of facts)) short)) in
    either_data AreShort (accepted && is_data pdu) seen
    (leaves seen (data_taken seen) refl (keyed_taking_data (keyed_of seen)) has_short) has_short

received_short : (role : Role) (slot : ℕ) (room : Bool) (pdu : Option (List ℕ)) (facts : Facts) → AreShort facts
    → AreShort (facts_received role slot room pdu facts)
received_short role slot room None facts short = short
received_short role slot room (Some octets) facts short = heard_short role slot room (header_in octets) (pdu_of octets) facts short

step_short : (setup : Setup) (facts : Facts) (step : LinkStep) → AreShort facts → AreShort (facts_after setup facts step)
step_short setup facts (DataGiven start body) short = short
step_short setup facts (ProcedureAsked ask) short = asked_short (is_to_come ask facts) ask facts short
step_short setup facts (RequestAnswered answer) short = leaves facts (facts_answered answer facts) refl (answering answer facts.control) short
step_short setup facts (KeyAnswered key slot) short =
    leaves facts (facts_key_answered key slot facts) refl (keyed_answering key (keyed_of facts)) short
step_short setup facts (Disconnected reason slot) short =
    leaves facts (facts_disconnected reason slot facts) refl (disconnecting reason facts.control) short
step_short setup facts (EventEntered slot) short = entered_short (goes_on facts) setup slot facts short
step_short setup facts PduFixed short = fixed_short (is_control facts.outgoing.fixed) facts short
step_short setup facts (PacketSent slot) short = gone_short (takes_leave facts) slot facts short
step_short setup facts (WordsGiven skd_s iv_s) short = short
step_short setup facts (PacketReceived slot octets room) short =
    let later = facts_received setup.link.role slot room (good_pdu setup facts octets) facts in
    let has_short = received_short setup.link.role slot room (good_pdu setup facts octets) facts short in
    either_forged AreShort (is_forged setup facts octets) later
    (leaves later (record later { control = ended_by_forgery later.control }) refl
    (forged_lengths (is_none later.control.ends) later.control) has_short)
    has_short
step_short setup facts DataReported short = short

-- before any exchange each way has 27 octets at most
first_short : (own_rx : ℕ) → is_long (first_lengths own_rx) ≡ false
first_short own_rx =
    let small : nat_lt first_payload_octets (min own_rx first_payload_octets) ≡ false = grind (arith, nat_tests) in
    ap (λ b. b || false) small

steps_short : (setup : Setup) (facts : Facts) (steps : List LinkStep) → AreShort facts → AreShort (fold (facts_after setup) facts steps)
steps_short setup facts [] short = short
steps_short setup facts (step ∷ steps) short = steps_short setup (facts_after setup facts step) steps (step_short setup facts step short)

past_short : (setup : Setup) (past : List LinkStep) → AreShort (facts_of setup past)
unfolding facts_of
past_short setup past = steps_short setup (first_facts setup) past (λ long changed. first_short setup.link.max_rx)

both_not : (both long changed : Bool) → (both && (not long && not changed)) ≡ true → (long ≡ false) × (changed ≡ false)
both_not true false false is = (refl, refl)
both_not true false true is = absurd cc
both_not true true changed is = absurd cc
both_not false long changed is = absurd cc

pub short_where_second : (setup : Setup) (past : List LinkStep) → let facts = facts_of setup past in
    has_second_exchange facts ≡ true → is_long facts.control.table.lengths ≡ false
short_where_second setup past has =
    let facts = facts_of setup past in
    let parts = both_not (facts.event.heard && facts.event.more) facts.lengths.long facts.lengths.changed has in
    past_short setup past parts.0 parts.1
