-- What the steps of the control part that take no PDU leave of an end whose link is to end.
use Rattle.std.proofs.Common.{◌≡◌, ℕ, Bool, true, false, ◌&&◌, List, [], ◌∷◌, ◌++◌, remove, Option, Some, None, Result, Ok, Err, is_none, is_some, refl, sym, ap, ◌∙◌, if◌then◌else◌}
use Rattle.std.proofs.lemmas.Bool.{and_parts}
use Rattle.ble_base.specs.ErrorCodes.{pin_or_key_missing}
use Rattle.ble_base.specs.declared.error_codes.ErrCode.{ErrCode}
use Rattle.ble_base.specs.declared.roles.Role.{Role}
use Rattle.ble_base.specs.declared.roles.Role.TheVariants.{Central, Peripheral}
use Rattle.data_pdu.specs.declared.ctrl.Ctrl.{Ctrl}
use Rattle.data_pdu.specs.declared.ctrl.Ctrl.TheVariants.{EncReq, PauseEncReq, RejectExtInd, StartEncReq, TerminateInd}
use Rattle.instants.specs.declared.indications.Indication.{Indication}
use Rattle.instants.specs.Track.{next_number}
use Rattle.control_octets.specs.procedure_values.declared.asks.Ask.{Ask}
use Rattle.control_octets.specs.procedure_values.declared.asks.Ask.TheVariants.{Encrypt, Length, Update}
use Rattle.control_octets.specs.procedure_values.declared.drafts.Draft.{Draft}
use Rattle.control_octets.specs.procedure_values.declared.drafts.Draft.TheVariants.{Cipher}
use Rattle.control_octets.specs.procedure_values.declared.drafts.Outgoing.{Outgoing}
use Rattle.control_octets.specs.procedure_values.declared.drafts.Outgoing.TheVariants.{Disconnect, Nothing, Other, Rejection}
use Rattle.control_octets.specs.procedure_values.declared.drafts.Rejection.{Rejection as TheRejection}
use Rattle.control_octets.specs.procedure_values.declared.lengths.Lengths.{Lengths}
use Rattle.control_octets.specs.procedure_values.Drafts.{is_out}
use Rattle.control_octets.specs.procedure_values.Limits.{lengths_asked}
use Rattle.control_octets.specs.procedure_stages.declared.closing.Closing.{Closing}
use Rattle.control_octets.specs.procedure_stages.Closing.{is_open}
use Rattle.control_octets.specs.procedure_stages.InProgress.{is_host_asked}
use Rattle.control_octets.specs.procedure_stages.Kinds.{role_of}
use Rattle.control_octets.specs.procedure_stages.Queue.{QueueFacts, with_draft, with_rejection, without_next}
use Rattle.control_octets.specs.procedures.Beginning.{ask_at, begin_at, begin_step, first_draft, place_to_begin, with_first_draft}
use Rattle.control_octets.specs.procedures.Going.{closing_given, entered_step, host_answer_step, is_answer, owe_step, terminate_step}
use Rattle.control_octets.specs.procedures.Queue.{next_of}
use Rattle.control_octets.specs.procedures.Sending.{acked_step}
use Rattle.control_octets.specs.procedures.Table.{TableFacts}
use Rattle.instants.specs.Track.{event_of}
use Rattle.control_octets.specs.control_model.Control.{Answers, Asks, Control, Disconnects, Enters, Owes, SeesAcknowledged, Sends, after, following, goes_out, table_if, went}
use Rattle.control_octets.proofs.control_model.Calls.{any_step, either_way}
use Rattle.link_model.specs.enc_phase.declared.facts.PhaseFacts.{PhaseFacts}
use Rattle.link_model.specs.enc_phase.declared.facts.PhaseFacts.TheVariants.{Clear}
use Rattle.link_model.specs.enc_phase.declared.facts.Transition.TheVariants.{Ask as AskTransition, Refuse}
use Rattle.link_model.specs.enc_phase.Phases.{may_follow, phase_after}
use Rattle.link_model.specs.phased_control.Phased.{Phased, ask_begun, asking_if, asks_again, encrypting, encrypting_if, entered, is_open_now, is_pause_rsp, is_quiet_now, key_given, key_lacking, refused_if, request_of, table_entered, with_owed_if, with_step}
use Rattle.link_model.specs.phased_control.Taken.{SeesAcknowledged as phased_acked, phased_after}
use Rattle.link_model.specs.keyed_control.Keyed.{Keyed}
use Rattle.link_model.specs.keyed_control.KeyedSteps.{Enters as keyed_enters, GivesKey, LacksKey, keyed_after, keyed_moved}
use Rattle.link_model.specs.Hosts.{key_step}
use Rattle.joint_laws.specs.procedure_stages.Opcodes.{enc_req_opcode}
use Rattle.link_model.specs.Entering.{control_entered}
use Rattle.link_model.specs.Facts.{Facts, keyed_of}

-- ---- a queue where nothing more is queued

module _ (closing : Closing) (shut : is_open closing ≡ false) (q : QueueFacts) where
  pub draft_left : (draft : Draft) → with_draft closing draft q ≡ q
  draft_left draft = ap (λ (b : Bool). if b then record q { drafts = q.drafts ++ draft ∷ [] } else q) shut

  pub rejection_left : (rejection : TheRejection) → with_rejection closing rejection q ≡ q
  rejection_left rejection = ap (λ (b : Bool). if b then record q { rejections = q.rejections ++ rejection ∷ [] } else q) shut

  first_left : (draft : Option Draft) → with_first_draft closing draft q ≡ q
  first_left None = refl
  first_left (Some draft) = draft_left draft

-- what is sent leaves it: so where none waits none does
pub none_sent : (outgoing : Outgoing) (q : QueueFacts) → q.rejections ≡ [] → (without_next outgoing q).rejections ≡ []
none_sent Nothing q is = is
none_sent (Rejection rejection) q is = ap (λ (rejections : List TheRejection). remove rejections 0) is
none_sent (Disconnect code) q is = is
none_sent (Other draft) q is = is

no_disconnect : (outgoing : Outgoing) (q : QueueFacts) → q.disconnect ≡ None → (without_next outgoing q).disconnect ≡ None
no_disconnect Nothing q is = is
no_disconnect (Rejection rejection) q is = is
no_disconnect (Disconnect code) q is = refl
no_disconnect (Other draft) q is = is

no_drafts : (outgoing : Outgoing) (q : QueueFacts) → q.drafts ≡ [] → (without_next outgoing q).drafts ≡ []
no_drafts Nothing q is = is
no_drafts (Rejection rejection) q is = is
no_drafts (Disconnect code) q is = is
no_drafts (Other draft) q is = ap (λ (drafts : List Draft). remove drafts 0) is

-- ---- a table

-- what the peer receives is known as before; where the link is to end it stays so, and nothing is queued
pub record LeavesTable (f g : TableFacts) : Type 0 where
  pub peer_rx : g.lengths.peer_rx ≡ f.lengths.peer_rx
  pub closing : is_open f.closing ≡ false → g.closing ≡ f.closing
  pub rejections : is_open f.closing ≡ false → f.queue.rejections ≡ [] → g.queue.rejections ≡ []
  pub disconnect : is_open f.closing ≡ false → f.queue.disconnect ≡ None → g.queue.disconnect ≡ None
  pub drafts : is_open f.closing ≡ false → f.queue.drafts ≡ [] → g.queue.drafts ≡ []

pub table_left : (f : TableFacts) → LeavesTable f f
table_left f =
    record { peer_rx = refl; closing = λ shut. refl; rejections = λ shut is. is; disconnect = λ shut is. is; drafts = λ shut is. is }

-- only its queue is another one, or the same where nothing is queued
queue_left : (f g : TableFacts) → g.lengths ≡ f.lengths → g.closing ≡ f.closing → (is_open f.closing ≡ false → g.queue ≡ f.queue) → LeavesTable f g
queue_left f g lengths closing queue =
    record {
      peer_rx = ap (λ (l : Lengths). l.peer_rx) lengths;
      closing = λ shut. closing;
      rejections = λ shut is. ap (λ (q : QueueFacts). q.rejections) (queue shut) ∙ is;
      disconnect = λ shut is. ap (λ (q : QueueFacts). q.disconnect) (queue shut) ∙ is;
      drafts = λ shut is. ap (λ (q : QueueFacts). q.drafts) (queue shut) ∙ is;
    }

table_then : (f g h : TableFacts) → LeavesTable f g → LeavesTable g h → LeavesTable f h
table_then f g h one two =
    record {
      peer_rx = two.peer_rx ∙ one.peer_rx;
      closing = λ shut. two.closing (ap is_open (one.closing shut) ∙ shut) ∙ one.closing shut;
      rejections = λ shut is. two.rejections (ap is_open (one.closing shut) ∙ shut) (one.rejections shut is);
      disconnect = λ shut is. two.disconnect (ap is_open (one.closing shut) ∙ shut) (one.disconnect shut is);
      drafts = λ shut is. two.drafts (ap is_open (one.closing shut) ∙ shut) (one.drafts shut is);
    }

entered_left : (f : TableFacts) (holds : Bool) → LeavesTable f (entered_step f holds).0
entered_left f true = queue_left f (entered_step f true).0 refl refl (λ shut. refl)
entered_left f false = table_left f

begun_at : (f : TableFacts) (slot : ℕ) (place : Option ℕ) (ask : Option Ask) → LeavesTable f (begin_at f slot place ask).0
begun_at f slot None ask = table_left f
begun_at f slot (Some place) None = table_left f
begun_at f slot (Some place) (Some ask) =
    queue_left f (begin_at f slot (Some place) (Some ask)).0 refl refl (λ shut. first_left f.closing shut f.queue (first_draft f ask))

begun_left : (f : TableFacts) (slot : ℕ) (quiet : Bool) → LeavesTable f (begin_step f slot quiet).0
begun_left f slot quiet = begun_at f slot (place_to_begin f quiet) (ask_at (place_to_begin f quiet) f.wanted)

peer_asked : (ask : Ask) (lengths : Lengths) → (lengths_asked ask lengths).peer_rx ≡ lengths.peer_rx
peer_asked (Length tx) lengths = refl
peer_asked (Update interval latency timeout) lengths = refl
peer_asked ask lengths = refl

answered_left : (f : TableFacts) (answer : Result Ask ErrCode) → LeavesTable f (host_answer_step f answer)
answered_left f (Ok (Update interval latency timeout)) =
    queue_left f (host_answer_step f (Ok (Update interval latency timeout))) refl refl (λ shut. draft_left f.closing shut f.queue _)
answered_left f (Ok (Length tx)) = table_left f
answered_left f (Ok ask) = table_left f
answered_left f (Err code) = queue_left f (host_answer_step f (Err code)) refl refl (λ shut. rejection_left f.closing shut f.queue _)

-- ---- the control part

-- it takes nothing, and does not end the link
pub record TakesNothing (c d : Control) : Type 0 where
  pub ends : d.ends ≡ c.ends
  pub table : LeavesTable c.table d.table

pub takes_none : (c : Control) → TakesNothing c c
takes_none c = record { ends = refl; table = table_left c.table }

pub takes_then : (c d e : Control) → TakesNothing c d → TakesNothing d e → TakesNothing c e
takes_then c d e one two =
    record { ends = two.ends ∙ one.ends; table = table_then c.table d.table e.table one.table two.table }

with_table : (c : Control) (g : TableFacts) → LeavesTable c.table g → TakesNothing c (record c { table = g })
with_table c g left = record { ends = refl; table = left }

with_table_if : (may : Bool) (c : Control) (g : TableFacts) → LeavesTable c.table g → TakesNothing c (table_if may g c)
with_table_if true c g left = with_table c g left
with_table_if false c g left = takes_none c

pub enters_nothing : (slot : ℕ) (quiet : Bool) (c : Control) → TakesNothing c (after (Enters slot quiet) c)
enters_nothing slot quiet c =
    let f = (entered_step c.table (is_some (next_number c.track))).0 in
    any_step (TakesNothing c) (Enters slot quiet) c
    (record { ends = refl; table = table_then c.table f (begin_step f slot quiet).0 (entered_left c.table (is_some (next_number c.track))) (begun_left f slot quiet) })
    (takes_none c)

-- a PDU of an encryption that is queued then, which is no LL_TERMINATE_IND
owes_nothing : (ctrl : Ctrl) → ((closing : Closing) → closing_given ctrl closing ≡ closing) → (c : Control) → TakesNothing c (after (Owes ctrl) c)
owes_nothing ctrl same c =
    any_step (TakesNothing c) (Owes ctrl) c
    (with_table c (owe_step c.table ctrl)
    (queue_left c.table (owe_step c.table ctrl) refl (same c.table.closing) (λ shut. draft_left c.table.closing shut c.table.queue (Cipher ctrl))))
    (takes_none c)

requests_nothing : (asked : Option Ask) (s : Phased) → TakesNothing s.control (with_owed_if (request_of asked) s).control
requests_nothing None s = takes_none s.control
requests_nothing (Some (Encrypt rand ediv ltk skd_m iv_m)) s = owes_nothing (EncReq rand ediv skd_m iv_m) (λ closing. refl) s.control
requests_nothing (Some ask) s = takes_none s.control

encrypts_nothing_by : (phase : PhaseFacts) (asked : Option Ask) (s : Phased)
    → TakesNothing s.control (encrypting phase (record s { request = request_of asked })).control
encrypts_nothing_by Clear asked s = requests_nothing asked (record s { request = request_of asked; phase = phase_after AskTransition s.phase })
encrypts_nothing_by phase asked s = owes_nothing PauseEncReq (λ closing. refl) s.control

encrypts_nothing_if : (begins : Bool) (asked : Option Ask) (s : Phased)
    → TakesNothing s.control (encrypting_if begins (request_of asked) s).control
encrypts_nothing_if true asked s = encrypts_nothing_by s.phase asked s
encrypts_nothing_if false asked s = takes_none s.control

phased_nothing : (slot : ℕ) (s : Phased) → TakesNothing s.control (entered slot s).control
phased_nothing slot s =
    let next = with_step (Enters slot (is_quiet_now s)) s in
    takes_then s.control next.control (entered slot s).control (enters_nothing slot (is_quiet_now s) s.control)
    (encrypts_nothing_if _ (ask_begun (table_entered s) (is_quiet_now s)) next)

pub entered_nothing : (slot : ℕ) (facts : Facts) → TakesNothing facts.control (control_entered slot facts)
entered_nothing slot facts = by (is_none facts.control.ends)
  where
    by : (b : Bool) → TakesNothing facts.control (if b then keyed_moved (keyed_enters slot) (keyed_of facts) else keyed_of facts).phased.control
    by true = phased_nothing slot (keyed_of facts).phased
    by false = takes_none facts.control

pub asks_nothing : (ask : Ask) (c : Control) → TakesNothing c (after (Asks ask) c)
asks_nothing ask c =
    any_step (TakesNothing c) (Asks ask) c
    (with_table c _ (record { peer_rx = peer_asked ask c.table.lengths; closing = λ shut. refl; rejections = λ shut is. is; disconnect = λ shut is. is; drafts = λ shut is. is }))
    (takes_none c)

pub answers_nothing : (answer : Result Ask ErrCode) (c : Control) → TakesNothing c (after (Answers answer) c)
answers_nothing answer c =
    any_step (TakesNothing c) (Answers answer) c
    (with_table_if (is_host_asked c.table.progress && is_answer answer) c (host_answer_step c.table answer) (answered_left c.table answer)) (takes_none c)

-- a further Disconnect is none
shut_left : (open_now : Bool) (reason : ErrCode) (c : Control) → is_open c.table.closing ≡ open_now → TakesNothing c (table_if open_now (terminate_step c.table reason) c)
shut_left true reason c is =
    with_table c (terminate_step c.table reason)
    (record {
      peer_rx = refl;
      closing = λ shut. absurd (let no = sym is ∙ shut in cc);
      rejections = λ shut. absurd (let no = sym is ∙ shut in cc);
      disconnect = λ shut. absurd (let no = sym is ∙ shut in cc);
      drafts = λ shut. absurd (let no = sym is ∙ shut in cc);
    })
shut_left false reason c is = takes_none c

pub disconnects_nothing : (reason : ErrCode) (c : Control) → TakesNothing c (after (Disconnects reason) c)
disconnects_nothing reason c =
    any_step (TakesNothing c) (Disconnects reason) c (shut_left (is_open c.table.closing) reason c refl) (takes_none c)

pub acked_nothing : (c : Control) → TakesNothing c (after SeesAcknowledged c)
acked_nothing c =
    any_step (TakesNothing c) SeesAcknowledged c
    (with_table_if (is_out c.table.out) c (acked_step c.table).0 (queue_left c.table (acked_step c.table).0 refl refl (λ shut. refl))) (takes_none c)

following_nothing : (role : Role) (indication : Option Indication) (c d : Control) → TakesNothing c d → TakesNothing c (following role indication d)
following_nothing Central None c d is = is
following_nothing Central (Some indication) c d is = record { ends = is.ends; table = is.table }
following_nothing Peripheral indication c d is = is

pub sends_nothing : (slot : ℕ) (quiet : Bool) (c : Control) → TakesNothing c (after (Sends slot quiet) c)
sends_nothing slot quiet c =
    let outgoing = next_of c.table (event_of c.track) quiet in
    any_step (TakesNothing c) (Sends slot quiet) c
    (either_way (TakesNothing c) (goes_out quiet c) _ c
    (following_nothing (role_of c.table.progress) (went slot quiet c).1 c (record c { table = (went slot quiet c).0 })
    (with_table c (went slot quiet c).0
    (record { peer_rx = refl; closing = λ shut. refl; rejections = λ shut. none_sent outgoing c.table.queue; disconnect = λ shut. no_disconnect outgoing c.table.queue; drafts = λ shut. no_drafts outgoing c.table.queue })))
    (takes_none c))
    (takes_none c)

-- ---- a PDU that is owed only while the link is not to end

owed_left : (ctrl : Ctrl) (c : Control) → is_open c.table.closing ≡ true → TakesNothing c (after (Owes ctrl) c)
owed_left ctrl c open_now =
    any_step (TakesNothing c) (Owes ctrl) c
    (with_table c (owe_step c.table ctrl)
    (record {
      peer_rx = refl;
      closing = λ shut. absurd (let no = sym open_now ∙ shut in cc);
      rejections = λ shut. absurd (let no = sym open_now ∙ shut in cc);
      disconnect = λ shut. absurd (let no = sym open_now ∙ shut in cc);
      drafts = λ shut. absurd (let no = sym open_now ∙ shut in cc);
    }))
    (takes_none c)

-- after its LL_PAUSE_ENC_RSP is acknowledged a central asks for encryption again
acked_closing : (c : Control) → (after SeesAcknowledged c).table.closing ≡ c.table.closing
acked_closing c = any_step (λ (d : Control). d.table.closing ≡ c.table.closing) SeesAcknowledged c (by (is_out c.table.out)) refl
  where
    by : (out : Bool) → (table_if out (acked_step c.table).0 c).table.closing ≡ c.table.closing
    by true = refl
    by false = refl

request_nothing : (request : Option Ctrl) (s : Phased) → is_open s.control.table.closing ≡ true → TakesNothing s.control (with_owed_if request s).control
request_nothing None s open_now = takes_none s.control
request_nothing (Some ctrl) s open_now = owed_left ctrl s.control open_now

asking_nothing : (asks : Bool) (s : Phased) → (asks ≡ true → is_open s.control.table.closing ≡ true) → TakesNothing s.control (asking_if asks s).control
asking_nothing true s opens = request_nothing s.request (record s { phase = phase_after AskTransition s.phase }) (opens refl)
asking_nothing false s opens = takes_none s.control

pub seen_nothing : (s : Phased) → TakesNothing s.control (phased_after phased_acked s).control
seen_nothing s = by (is_none s.control.ends)
  where
    now : Phased
    now = with_step SeesAcknowledged s

    opens : asks_again s ≡ true → is_open now.control.table.closing ≡ true
    opens asks =
        let may = and_parts (is_pause_rsp s.control.table.out) _ asks in
        let open_now = and_parts (may_follow AskTransition s.phase) _ may.1 in
        ap is_open (acked_closing s.control) ∙ (and_parts (is_open_now s) (is_some s.request) open_now.1).0

    by : (b : Bool) → TakesNothing s.control (if b then asking_if (asks_again s) (with_step SeesAcknowledged s) else s).control
    by true =
        takes_then s.control now.control (asking_if (asks_again s) now).control (acked_nothing s.control) (asking_nothing (asks_again s) now opens)
    by false = takes_none s.control

-- the host of a peripheral has a key or none
lacks_nothing : (may : Bool) (s : Phased) → is_open s.control.table.closing ≡ true → TakesNothing s.control (refused_if may s).control
lacks_nothing true s open_now = owed_left (RejectExtInd enc_req_opcode pin_or_key_missing) s.control open_now
lacks_nothing false s open_now = owed_left (TerminateInd pin_or_key_missing) s.control open_now

if_asked : (asked : Bool) (s t : Phased) → (asked ≡ true → TakesNothing s.control t.control) → TakesNothing s.control (if asked then t else s).control
if_asked true s t nothing = nothing refl
if_asked false s t nothing = takes_none s.control

pub key_nothing : (key : Option (List ℕ)) (k : Keyed) → TakesNothing k.phased.control (keyed_after (key_step key) k).phased.control
key_nothing None k = by (is_none k.phased.control.ends)
  where
    by : (b : Bool) → TakesNothing k.phased.control (if b then keyed_moved LacksKey k else k).phased.control
    by true =
        if_asked (k.phased.asks_key && is_open_now k.phased) k.phased (key_lacking k.phased)
        (λ is. lacks_nothing (may_follow Refuse k.phased.phase) k.phased (and_parts k.phased.asks_key (is_open_now k.phased) is).1)
    by false = takes_none k.phased.control
key_nothing (Some ltk) k = by (is_none k.phased.control.ends)
  where
    by : (b : Bool) → TakesNothing k.phased.control (if b then keyed_moved (GivesKey ltk) k else k).phased.control
    by true =
        if_asked (k.phased.asks_key && is_open_now k.phased) k.phased (key_given k.phased)
        (λ is. owed_left StartEncReq k.phased.control (and_parts k.phased.asks_key (is_open_now k.phased) is).1)
    by false = takes_none k.phased.control
