-- What an end sends, what waits there, and the code that it takes of its peer are reasons that hosts may give, or that one has no
-- key, step by step.
use Rattle.std.proofs.Common.{◌≡◌, ℕ, ◌&&◌, ◌||◌, not, Bool, true, false, List, [], ◌∷◌, Option, Some, None, is_none, is_some, refl, ap, sym, subst, ◌∙◌, if◌then◌else◌}
use Rattle.std.specs.Prelude.{IfSome, ⊤}
use Rattle.std.proofs.lemmas.Bool.{and_parts}
use Rattle.ble_base.specs.ErrorCodes.{mic_failure}
use Rattle.ble_base.specs.declared.error_codes.ErrCode.{ErrCode}
use Rattle.ble_base.specs.declared.roles.Role.{Role}
use Rattle.acl_banks.specs.declared.pieces.Piece.{Piece}
use Rattle.data_pdu.specs.declared.ctrl.Ctrl.{Ctrl}
use Rattle.data_pdu.specs.declared.ctrl.Ctrl.TheVariants.{StartEncReq, TerminateInd}
use Rattle.data_pdu.specs.declared.ctrl.CtrlRead.{CtrlRead}
use Rattle.data_pdu.specs.declared.ctrl.CtrlRead.TheVariants.{Bare, Known, Unknown}
use Rattle.data_pdu.specs.declared.header.DataHeader.{DataHeader}
use Rattle.data_pdu.specs.Header.{header_in}
use Rattle.data_pdu.specs.Reading.{ctrl_of}
use Rattle.instants.specs.Track.{event_of}
use Rattle.link_runs.specs.link_pairs.control_model.Control.{Answers, Asks, Control, Disconnects, Sends, Takes, ended}
use Rattle.link_runs.specs.link_pairs.link_model.control_end.Answers.{effect_shown, goes_on as goes_on_held, nothing_taken, step_shown}
use Rattle.link_runs.specs.link_pairs.link_model.control_end.Held.{held_after, held_of}
use Rattle.link_runs.specs.link_pairs.link_model.control_end.declared.answers.Taken.{Taken}
use Rattle.link_runs.specs.link_pairs.link_model.keyed_control.KeyedSteps.{Enters as keyed_enters, SeesAcknowledged as keyed_sees_acknowledged, Takes as keyed_takes, TakesData as keyed_takes_data, keyed_after}
use Rattle.link_runs.specs.link_pairs.link_model.phased_end.Taking.{drawn}
use Rattle.link_runs.specs.link_pairs.link_model.Acknowledgement.{Acknowledgement, Pdu, empty_pdu, is_acked, next_sent, with_acked}
use Rattle.link_runs.specs.link_pairs.link_model.Controls.{goes_on, is_procedure_pdu, is_quiet_now, next_control, pdu_fixed, pdu_of_control, read_of}
use Rattle.link_runs.specs.link_pairs.link_model.Data.{Data, data_acked_if, data_given, is_accepted, is_control, is_data, is_empty, llid_of, next_piece, pdu_with}
use Rattle.link_runs.specs.link_pairs.link_model.End.{facts_after}
use Rattle.link_runs.specs.link_pairs.link_model.Entering.{facts_entered_if}
use Rattle.link_runs.specs.link_pairs.link_model.Facts.{Facts, first_facts, keyed_of}
use Rattle.link_runs.specs.link_pairs.link_model.Fixing.{data_cut, data_fixed_by, data_goes, fixed_anew}
use Rattle.link_runs.specs.link_pairs.link_model.Hosts.{asked_unless, ends_without_key, facts_key_answered, is_to_come, key_step, leaving_from_if}
use Rattle.link_runs.specs.link_pairs.link_model.Packets.{good_pdu, has_new_pdu, is_forged}
use Rattle.link_runs.specs.link_pairs.link_model.Payload.{payload_made}
use Rattle.link_runs.specs.link_pairs.link_model.Receiving.{accepted_if, accepts, acknowledged_if, acks_control, answers_with_control, code_of, control_taken, data_taken_if, ended_by_forgery, facts_before_taking, facts_forged_if, facts_hearing, facts_received, has_acknowledged, heard_in_slot, kept_give, keyed_acked_if, leaving_by, procedures_give, procedures_take_if}
use Rattle.link_runs.specs.link_pairs.link_model.Sending.{control_gone_if, data_sent_as, facts_sent, takes_leave}
use Rattle.link_runs.specs.link_pairs.link_model.Setup.{Setup}
use Rattle.link_runs.specs.link_pairs.link_model.Step.{DataGiven, DataReported, Disconnected, EventEntered, KeyAnswered, PacketReceived, PacketSent, PduFixed, ProcedureAsked, RequestAnswered, Step, WordsGiven}
use Rattle.link_runs.specs.link_pairs.link_model.Verdicts.{pdu_of}
use Rattle.link_runs.specs.link_pairs.link_model.declared.state.Leaving.{Leaving}
use Rattle.link_runs.specs.link_pairs.procedure_stages.Queue.{waiting_in}
use Rattle.link_runs.specs.link_pairs.procedure_stages.Steps.{closing_after}
use Rattle.link_runs.specs.link_pairs.procedure_stages.declared.closing.Closing.TheVariants.{Open}
use Rattle.link_runs.specs.link_pairs.procedure_stages.declared.steps.Effect.{Effect}
use Rattle.link_runs.specs.link_pairs.procedure_stages.declared.steps.Effect.TheVariants.{Indicated, PeerEnds}
use Rattle.link_runs.specs.link_pairs.procedure_values.declared.asks.Ask.{Ask}
use Rattle.link_runs.specs.link_pairs.procedures.Table.{TableFacts}
use Rattle.link_runs.specs.link_pairs.procedures.Taking.{facts_with, lacks_room, outcome_of, took_step}
use Rattle.link_runs.specs.link_pairs.procedures.declared.outcome.Outcome.{Outcome}
use Rattle.link_runs.proofs.link_pairs.control_model.Calls.{settled_as}
use Rattle.link_runs.proofs.link_pairs.TerminatingPdus.{outcome_ends}
use Rattle.link_runs.proofs.link_pairs.link_model.Acknowledging.{ack_before_taking}
use Rattle.link_runs.proofs.link_pairs.link_model.KnownEnds.{IsPast, knows_accepted, knows_before_taking, past_knows}
use Rattle.link_runs.proofs.link_pairs.link_model.Views.{AsRead, AsUnknown, Ended, Handed, Knows, Over, SeenAs, Taking, Withheld, reading_view, taken_view}
use Rattle.joint_laws.proofs.joint_phases.Outcomes.{keeps_open}
use Rattle.journal_endings.proofs.HostReasons.{HoldsReasons, IsReason, QueuesReasons, ReadsReason, SaysReason, next_says, reads_reason, step_holds}
use Rattle.journal_endings.proofs.KeyedReasons.{again_step, keyed_holds}

-- ---- what an end holds

-- an LL_TERMINATE_IND in it has such a reason
abbrev pub CarriesReason : Pdu → Type 0
CarriesReason pdu = is_control pdu ≡ true → ReadsReason (ctrl_of pdu.body)

abbrev PdusCarry : Acknowledgement → Data → Type 0
PdusCarry ack outgoing = CarriesReason ack.last × CarriesReason outgoing.fixed

pub record GivesReasons (facts : Facts) : Type 0 where
  -- what waits
  pub queue : QueuesReasons facts.control.table.queue
  -- what was sent last, and what is fixed
  pub pdus : PdusCarry facts.acknowledgement facts.outgoing
  -- what the peer ended the link with
  pub peer : IfSome facts.leaving.ended_by_peer IsReason

pub first_gives : (setup : Setup) → GivesReasons (first_facts setup)
first_gives setup = record { queue = record { disconnect = tt; drafts = tt }; pdus = ((λ control. absurd (cc)), (λ control. absurd (cc))); peer = tt }

-- ---- the PDUs

empty_carries : CarriesReason empty_pdu
empty_carries control = absurd (cc)

piece_carries : (piece : Option Piece) → CarriesReason (pdu_with piece)
piece_carries None = empty_carries
piece_carries (Some piece) = by piece.start
  where
    by : (start : Bool) → CarriesReason (record { llid = llid_of start; body = piece.body.items })
    by true control = absurd (cc)
    by false control = absurd (cc)

control_carries : (ctrl : Option Ctrl) → IfSome ctrl SaysReason → CarriesReason (pdu_of_control ctrl)
control_carries None says = empty_carries
control_carries (Some ctrl) says = λ control. reads_reason ctrl says

if_goes : (goes : Bool) (ctrl : Option Ctrl) → IfSome ctrl SaysReason → IfSome (if goes then ctrl else None) SaysReason
if_goes true ctrl says = says
if_goes false ctrl says = tt

fixed_carries : (facts : Facts) → GivesReasons facts → CarriesReason (pdu_fixed facts)
fixed_carries facts gives = by facts.fixes_control
  where
    next : IfSome (next_control facts) SaysReason
    next =
        if_goes (goes_on_held (held_of facts.control)) _
        (next_says facts.control.table (event_of facts.control.track) facts.control.track.params.latency (is_quiet_now facts) gives.queue)

    by : (fixes : Bool) → CarriesReason (if fixes then pdu_of_control (next_control facts) else facts.outgoing.fixed)
    by true = control_carries (next_control facts) next
    by false = gives.pdus.1

given_carries : (handle : ℕ) (start : Bool) (body : List ℕ) (ack : Acknowledgement) (outgoing : Data) → PdusCarry ack outgoing
    → PdusCarry ack (data_given handle start body outgoing)
given_carries handle start [] ack outgoing carry = carry
given_carries handle start (octet ∷ octets) ack outgoing carry = carry

anew_carries : (control : Bool) (waiting : ℕ) (quiet goes : Bool) (outgoing : Data) → CarriesReason (data_fixed_by control waiting quiet goes outgoing).fixed
anew_carries true waiting quiet goes outgoing = empty_carries
anew_carries false waiting quiet true outgoing = piece_carries (next_piece outgoing)
anew_carries false waiting quiet false outgoing = empty_carries

sent_carries : (payload : List ℕ) (is_new : Bool) (ack : Acknowledgement) (outgoing : Data) → PdusCarry ack outgoing
    → PdusCarry (next_sent is_new outgoing.fixed ack) (data_sent_as payload is_new outgoing)
sent_carries payload true ack outgoing carry = (carry.1, empty_carries)
sent_carries payload false ack outgoing carry = carry

acked_carries : (acked : Bool) (ack : Acknowledgement) (outgoing : Data) → PdusCarry ack outgoing → PdusCarry ack (data_acked_if acked outgoing)
acked_carries true ack outgoing carry = carry
acked_carries false ack outgoing carry = carry

gone_carries : (goes : Bool) (slot : ℕ) (facts : Facts) → GivesReasons facts
    → PdusCarry (control_gone_if goes slot facts).acknowledgement (control_gone_if goes slot facts).outgoing
gone_carries true slot facts gives = (gives.pdus.0, fixed_carries facts gives)
gone_carries false slot facts gives = gives.pdus

-- ---- what is taken of the peer

no_code : (effect : Effect) → closing_after effect Open ≡ Open → IfSome (code_of (effect_shown effect)) IsReason
no_code (PeerEnds code) is = absurd (cc)
no_code (Indicated indication) is = tt
no_code effect is = tt

module _ (f : TableFacts) (slot : ℕ) (quiet : Bool) where
  known_gives : (ctrl : Ctrl) → SaysReason ctrl → IfSome (code_of (effect_shown (outcome_of f quiet (Known ctrl)).step.effect)) IsReason
  known_gives (TerminateInd code) says =
      subst (λ (o : Outcome). IfSome (code_of (effect_shown o.step.effect)) IsReason) (sym (outcome_ends f code slot quiet)) says
  known_gives StartEncReq says = no_code (outcome_of f quiet (Known StartEncReq)).step.effect (keeps_open f quiet StartEncReq refl Open)
  known_gives ctrl says = no_code (outcome_of f quiet (Known ctrl)).step.effect (keeps_open f quiet ctrl refl Open)

  outcome_gives : (read : CtrlRead) → ReadsReason read → IfSome (code_of (effect_shown (outcome_of f quiet read).step.effect)) IsReason
  outcome_gives (Known ctrl) reads = known_gives ctrl reads
  outcome_gives (Unknown opcode) reads = tt
  outcome_gives Bare reads = tt

  settled_gives : (read : CtrlRead) → ReadsReason read → (full : Bool) (ends : Option ErrCode) (g : TableFacts)
      → IfSome (code_of (effect_shown (settled_as full ends f g (outcome_of f quiet read).step).1.effect)) IsReason
  settled_gives read reads true ends g = tt
  settled_gives read reads false (Some code) g = outcome_gives read reads
  settled_gives read reads false None g = outcome_gives read reads

  took_gives : (read : CtrlRead) → ReadsReason read → (goes : Bool)
      → IfSome (code_of (if goes then step_shown (took_step f read slot quiet).1 else nothing_taken).effect) IsReason
  took_gives read reads true =
      let outcome = outcome_of f quiet read in
      settled_gives read reads (lacks_room f outcome) outcome.step.ends (facts_with f slot outcome)
  took_gives read reads false = tt

seen_reads : (read seen : CtrlRead) → SeenAs read seen → ReadsReason read → ReadsReason seen
seen_reads read seen (AsRead is) reads = subst ReadsReason (sym is) reads
seen_reads read seen (AsUnknown ctrl named is seen_is) reads = subst ReadsReason (sym seen_is) tt

-- what the procedures give for a PDU, in any phase
abbrev GivesReason : Taken → Type 0
GivesReason taken = IfSome (code_of taken.effect) IsReason

given_reason : (quiet : Bool) (c : Control) (read : CtrlRead) (slot : ℕ) (taken kept : Taken) (d : Control) → ReadsReason read
    → Taking quiet c read slot taken kept d → GivesReason taken
given_reason quiet c read slot taken kept d reads (Over over none kept_none is) = subst GivesReason (sym none) tt
given_reason quiet c read slot taken kept d reads (Withheld lasts loud class none kept_none is) = subst GivesReason (sym none) tt
given_reason quiet c read slot taken kept d reads (Ended code lasts apart none kept_none is) = subst GivesReason (sym none) tt
given_reason quiet c read slot taken kept d reads (Handed seen middle lasts sees loud owing is kept_is) =
    subst GivesReason (sym is)
    (took_gives c.table slot quiet seen (seen_reads read seen sees reads) (goes_on_held (held_after (Takes seen slot quiet) (held_of c))))

left_by : (code : Option ErrCode) (leaving : Leaving) → IfSome code IsReason → IfSome leaving.ended_by_peer IsReason
    → IfSome (leaving_by code leaving).ended_by_peer IsReason
left_by None leaving is before = before
left_by (Some code) leaving is before = is

-- ---- the layers of a reception

acked_queue : (acked : Bool) (facts : Facts) → Knows (keyed_of facts) → HoldsReasons facts.control
    → HoldsReasons (keyed_acked_if acked (keyed_of facts)).phased.control
acked_queue true facts knows has =
    keyed_holds keyed_sees_acknowledged (keyed_of facts) (λ goes. again_step (keyed_of facts).phased (knows.request goes)) has
acked_queue false facts knows has = has

acked_gives : (acked : Bool) (facts : Facts) → Knows (keyed_of facts) → GivesReasons facts → GivesReasons (acknowledged_if acked facts)
acked_gives acked facts knows gives = record {
  queue = acked_queue (acks_control acked facts) facts knows gives.queue;
  pdus = acked_carries (acked && is_data facts.acknowledgement.last) (with_acked acked facts.acknowledgement) facts.outgoing gives.pdus;
  peer = gives.peer;
}

gone_gives : (goes : Bool) (slot : ℕ) (facts : Facts) → GivesReasons facts → GivesReasons (control_gone_if goes slot facts)
gone_gives true slot facts gives = record {
  queue = step_holds (Sends slot (is_quiet_now facts)) facts.control tt gives.queue;
  pdus = gone_carries true slot facts gives;
  peer = gives.peer;
}
gone_gives false slot facts gives = gives

before_gives : (role : Role) (slot : ℕ) (header : DataHeader) (facts : Facts) → Knows (keyed_of facts) → GivesReasons facts
    → GivesReasons (facts_before_taking role slot header facts)
before_gives role slot header facts knows gives =
    let heard = heard_in_slot slot header.md facts in
    let own = acknowledged_if (has_acknowledged facts header) heard in
    gone_gives (answers_with_control role own) slot own
    (acked_gives (has_acknowledged facts header) heard knows (record { queue = gives.queue; pdus = gives.pdus; peer = gives.peer }))

taken_gives : (takes : Bool) (pdu : Pdu) (slot : ℕ) (facts : Facts) → Knows (keyed_of facts) → (takes ≡ true → ReadsReason (ctrl_of pdu.body))
    → GivesReasons facts → GivesReasons (procedures_take_if takes pdu slot facts)
taken_gives false pdu slot facts knows reads gives = gives
taken_gives true pdu slot facts knows reads gives = record {
  queue = keyed_holds (keyed_takes (read_of pdu) slot (drawn facts.encryption.response)) (keyed_of facts) (λ goes. tt) gives.queue;
  pdus = gives.pdus;
  peer = left_by (code_of (procedures_give pdu slot facts).effect) facts.leaving
      (given_reason (is_quiet_now facts) facts.control (read_of pdu) slot (procedures_give pdu slot facts) (kept_give pdu slot facts) (control_taken pdu slot facts)
      (seen_reads (ctrl_of pdu.body) (read_of pdu) (reading_view pdu) (reads refl)) (taken_view pdu slot facts knows))
      gives.peer;
}

data_gives : (takes : Bool) (facts : Facts) → GivesReasons facts → GivesReasons (data_taken_if takes facts)
data_gives true facts gives = record { queue = keyed_holds keyed_takes_data (keyed_of facts) (λ goes. tt) gives.queue; pdus = gives.pdus; peer = gives.peer }
data_gives false facts gives = gives

-- ---- a step

-- a new PDU carries such a reason
abbrev pub NewCarries : Facts → List ℕ → Type 0
NewCarries facts octets = has_new_pdu facts (header_in octets) ≡ true → CarriesReason (pdu_of octets)

-- the host ends the link with such a reason, and the PDU that is received has one
abbrev pub MayStep : Setup → Facts → Step → Type 0
MayStep setup facts (Disconnected reason slot) = IsReason reason
MayStep setup facts (PacketReceived slot octets room) = IfSome (good_pdu setup facts octets) (NewCarries facts)
MayStep setup facts step = ⊤

forged_holds : (c : Control) → HoldsReasons c → HoldsReasons (ended_by_forgery c)
forged_holds c has = by (is_none c.ends)
  where
    by : (goes : Bool) → HoldsReasons (if goes then ended (record { 0 = mic_failure }) c else c)
    by true = has
    by false = has

pub forged_gives : (forged : Bool) (facts : Facts) → GivesReasons facts → GivesReasons (facts_forged_if forged facts)
forged_gives true facts gives = record { queue = forged_holds facts.control gives.queue; pdus = gives.pdus; peer = gives.peer }
forged_gives false facts gives = gives

-- the end without a key may end the link, as a host does
left_from : (leaves : Bool) (slot : ℕ) (leaving : Leaving) → IfSome leaving.ended_by_peer IsReason → IfSome (leaving_from_if leaves slot leaving).ended_by_peer IsReason
left_from true slot leaving before = before
left_from false slot leaving before = before

module _ (setup : Setup) (facts : Facts) (p : IsPast setup facts) (gives : GivesReasons facts) where
  heard_gives : (slot : ℕ) (room : Bool) (octets : List ℕ) → NewCarries facts octets
      → GivesReasons (facts_hearing setup.link.role slot room (header_in octets) (pdu_of octets) facts)
  heard_gives slot room octets carries =
      let role = setup.link.role in
      let header = header_in octets in
      let pdu = pdu_of octets in
      let now = facts_before_taking role slot header facts in
      let accepted = accepts room header pdu now in
      let opened = accepted_if accepted pdu now in
      let before = before_gives role slot header facts (past_knows setup facts p) gives in
      let takes = accepted && is_procedure_pdu pdu in
      data_gives (accepted && is_data pdu) (procedures_take_if takes pdu slot opened)
      (taken_gives takes pdu slot opened (knows_accepted accepted pdu now (knows_before_taking setup facts p role slot header))
      (λ is. taken_carries (and_parts accepted (is_procedure_pdu pdu) is).0 (and_parts accepted (is_procedure_pdu pdu) is).1)
      (record { queue = before.queue; pdus = before.pdus; peer = before.peer }))
    where
      taken_carries : accepts room (header_in octets) (pdu_of octets) (facts_before_taking setup.link.role slot (header_in octets) facts) ≡ true
          → is_procedure_pdu (pdu_of octets) ≡ true → ReadsReason (ctrl_of (pdu_of octets).body)
      taken_carries accepted procedure =
          let header = header_in octets in
          let pdu = pdu_of octets in
          let now = facts_before_taking setup.link.role slot header facts in
          let fresh = (and_parts (has_new_pdu now header) (room || not (is_data pdu))
          (and_parts (is_accepted room (has_new_pdu now header) pdu) (is_empty pdu || not now.leaving.acknowledged) accepted).0).0 in
          let same = ap (λ (a : Acknowledgement). has_new_pdu (record facts { acknowledgement = a }) header) (ack_before_taking setup.link.role slot header facts) in
          carries (sym same ∙ fresh) (and_parts (is_control pdu) (not (is_empty pdu)) procedure).0

  received_gives : (slot : ℕ) (room forged : Bool) (pdu : Option (List ℕ)) → IfSome pdu (NewCarries facts)
      → GivesReasons (facts_forged_if forged (facts_received setup.link.role slot room pdu facts))
  received_gives slot room forged None carries = forged_gives forged facts gives
  received_gives slot room forged (Some octets) carries = forged_gives forged _ (heard_gives slot room octets carries)

  key_gives : (key : Option (List ℕ)) (slot : ℕ) → GivesReasons (facts_key_answered key slot facts)
  key_gives key slot = record { queue = waiting key; pdus = gives.pdus; peer = left_from (ends_without_key key facts) slot facts.leaving gives.peer }
    where
      waiting : (key : Option (List ℕ)) → HoldsReasons (keyed_after (key_step key) (keyed_of facts)).phased.control
      waiting None = keyed_holds (key_step None) (keyed_of facts) (λ goes. tt) gives.queue
      waiting (Some ltk) = keyed_holds (key_step (Some ltk)) (keyed_of facts) (λ goes. tt) gives.queue

  asked_gives : (comes : Bool) (ask : Ask) → GivesReasons (asked_unless comes ask facts)
  asked_gives true ask = gives
  asked_gives false ask = record { queue = step_holds (Asks ask) facts.control tt gives.queue; pdus = gives.pdus; peer = gives.peer }

  entered_gives : (goes : Bool) (slot : ℕ) → GivesReasons (facts_entered_if goes setup slot facts)
  entered_gives true slot =
      record { queue = keyed_holds (keyed_enters slot) (keyed_of facts) (λ goes. tt) gives.queue; pdus = gives.pdus; peer = gives.peer }
  entered_gives false slot = gives

  fixed_gives : (stays : Bool) → GivesReasons (if stays then facts else fixed_anew facts)
  fixed_gives true = gives
  fixed_gives false = record {
    queue = gives.queue;
    pdus = (gives.pdus.0, anew_carries (is_some (next_control facts)) (waiting_in facts.control.table.queue) (is_quiet_now facts) (data_goes facts) (data_cut facts));
    peer = gives.peer;
  }

  sent_gives : (slot : ℕ) → GivesReasons (facts_sent slot facts)
  sent_gives slot =
      let now = control_gone_if (takes_leave facts) slot facts in
      let gone = gone_gives (takes_leave facts) slot facts gives in
      let payload = payload_made now.encryption.end now.outgoing.fixed in record {
        queue = gone.queue;
        pdus = sent_carries payload (is_acked now.acknowledgement) now.acknowledgement now.outgoing gone.pdus;
        peer = gone.peer;
      }

  pub step_gives : (step : Step) → MayStep setup facts step → GivesReasons (facts_after setup facts step)
  step_gives (DataGiven start body) may = record {
    queue = gives.queue;
    pdus = given_carries setup.link.handle start body facts.acknowledgement facts.outgoing gives.pdus;
    peer = gives.peer;
  }
  step_gives (ProcedureAsked ask) may = asked_gives (is_to_come ask facts) ask
  step_gives (RequestAnswered answer) may =
      record { queue = step_holds (Answers answer) facts.control tt gives.queue; pdus = gives.pdus; peer = gives.peer }
  step_gives (KeyAnswered key slot) may = key_gives key slot
  step_gives (Disconnected reason slot) may =
      record { queue = step_holds (Disconnects reason) facts.control may gives.queue; pdus = gives.pdus; peer = gives.peer }
  step_gives (EventEntered slot) may = entered_gives (goes_on facts) slot
  step_gives PduFixed may = fixed_gives (is_control facts.outgoing.fixed)
  step_gives (PacketSent slot) may = sent_gives slot
  step_gives (WordsGiven skd_s iv_s) may = record { queue = gives.queue; pdus = gives.pdus; peer = gives.peer }
  step_gives (PacketReceived slot octets room) may =
      received_gives slot room (is_forged setup facts octets) (good_pdu setup facts octets) may
  step_gives DataReported may = record { queue = gives.queue; pdus = gives.pdus; peer = gives.peer }
