-- How far the request of a peripheral is at most after each step of its control part.
use Rattle.std.proofs.Common.{◌≡◌, ◌+◌, ◌≤◌, ℕ, ◌&&◌, not, Bool, true, false, List, ◌∷◌, remove, Option, Some, None, is_some, if◌then◌else◌, Result, Ok, Err, refl, ap, sym, subst, ◌∙◌, arith}
use Rattle.std.specs.Prelude.{⊤}
use Rattle.ble_base.specs.declared.error_codes.ErrCode.{ErrCode}
use Rattle.ble_base.specs.declared.roles.Role.{Role}
use Rattle.ble_base.specs.declared.roles.Role.TheVariants.{Central as central_role, Peripheral as peripheral_role}
use Rattle.data_pdu.specs.declared.ctrl.Ctrl.{Ctrl}
use Rattle.data_pdu.specs.declared.ctrl.CtrlRead.{CtrlRead}
use Rattle.data_pdu.specs.declared.ctrl.CtrlRead.TheVariants.{Known}
use Rattle.exclusive_stages.specs.declared.pdus.Exclusive.TheVariants.{Request as request}
use Rattle.exclusive_stages.specs.declared.pdus.Pdu.{Pdu}
use Rattle.instants.specs.Track.{event_of, next_number}
use Rattle.instants.specs.declared.indications.Indication.{Indication}
use Rattle.link_model.specs.control_model.Control.{Control, Step, Answers, Asks, Disconnects, Enters, Owes, SeesAcknowledged, Sends, Takes, after, ended, following, goes_out, indicated_by, is_to_come, moved, table_if, taken, went}
use Rattle.link_model.specs.procedure_values.Asks.{kind_of_ask}
use Rattle.link_model.specs.procedure_values.Drafts.{is_out}
use Rattle.link_model.specs.procedure_values.declared.asks.Ask.{Ask}
use Rattle.link_model.specs.procedure_values.declared.asks.Ask.TheVariants.{Update as ask_update, Request as ask_request, Map as ask_map, Phy as ask_phy, Features as ask_features, Version as ask_version, Length as ask_length, Encrypt as ask_encrypt}
use Rattle.link_model.specs.procedure_values.declared.drafts.Draft.{Draft}
use Rattle.link_model.specs.procedure_values.declared.drafts.Draft.TheVariants.{Cipher, Grant, LengthReq, PeripheralFeatureReq, PhyReq, Request, VersionInd}
use Rattle.link_model.specs.procedure_values.declared.drafts.Outgoing.{Outgoing}
use Rattle.link_model.specs.procedure_values.declared.drafts.Outgoing.TheVariants.{Disconnect, Nothing, Other, Rejection}
use Rattle.link_model.specs.procedure_stages.Acked.{peripheral_acked, progress_acked}
use Rattle.link_model.specs.procedure_stages.Begun.{draft_begun, progress_begun}
use Rattle.link_model.specs.procedure_stages.Closing.{is_open}
use Rattle.link_model.specs.procedure_stages.Exclusive.{on_peripheral_stage, pdu_of_outgoing}
use Rattle.exclusive_stages.specs.Acked.{own_acked_at_peripheral}
use Rattle.exclusive_stages.specs.Held.{own_held_at_peripheral}
use Rattle.link_model.specs.procedure_stages.Held.{progress_held}
use Rattle.link_model.specs.procedure_stages.InProgress.{is_host_asked}
use Rattle.link_model.specs.procedure_stages.Kinds.{begins, role_of}
use Rattle.link_model.specs.procedure_stages.Queue.{QueueFacts, without_next}
use Rattle.link_model.specs.procedure_stages.Sent.{progress_after_sending}
use Rattle.link_model.specs.procedure_stages.declared.stages.OwnPeripheral.{OwnPeripheral}
use Rattle.link_model.specs.procedure_stages.declared.stages.OwnPeripheral.TheVariants.{Exclusive as exclusive, Exchange as exchange}
use Rattle.link_model.specs.procedure_stages.declared.stages.Peripheral.{Peripheral}
use Rattle.link_model.specs.procedure_stages.declared.stages.Progress.{Progress}
use Rattle.link_model.specs.procedure_stages.declared.stages.Progress.TheVariants.{Central as central, Peripheral as peripheral}
use Rattle.link_model.specs.procedures.Beginning.{ask_at, begin_at, begin_step, facts_begun, place_to_begin, with_first_draft}
use Rattle.link_model.specs.control_end.declared.answers.Taken.{Taken}
use Rattle.link_model.specs.enc_phase.declared.classes.PduClass.TheVariants.{Request as request_class}
use Rattle.link_model.specs.enc_phase.Taking.{ctrl_class}
use Rattle.link_model.specs.procedures.Encryption.{is_rejection, progress_given}
use Rattle.link_model.specs.procedures.Going.{entered_step, host_answer_step, is_answer, owe_step, terminate_step}
use Rattle.link_model.specs.procedures.Queue.{next_of}
use Rattle.link_model.specs.procedures.Sending.{acked_step, facts_sent}
use Rattle.link_model.specs.procedure_stages.Opcodes.{connection_param_req_opcode}
use Rattle.link_model.specs.procedures.Table.{TableFacts}
use Rattle.link_model.specs.procedures.Taking.{facts_with, outcome_of}
use Rattle.link_model.proofs.control_model.Calls.{any_step, either_way, held_over, took_by}
use Rattle.link_model.proofs.control_model.Moving.{same_role}
use Rattle.link_model.proofs.Views.{DataTaking, Owing, Taking, TakingKept, is_ciphering}
use Rattle.link_model.proofs.Views.{Ended, Handed, NoneKept, Over, Owed, Same, TakesKept, Withheld}
use Rattle.link_model.proofs.table_laws.Begun.{begins_of, no_room}
use Rattle.link_model.proofs.table_laws.Outcomes.{encrypts, own_room, room_at_peripheral, took as took_reply}
use Rattle.link_outcomes.proofs.Taking.{MayTake, answers_seen, first_answers, late_at, late_in, takes_pdu}
use Rattle.link_outcomes.proofs.Requests.{Fits, IsFirst, acked_late, acked_room, asks, draft_late, draft_room, first_of, held_late, held_room, number, one_if, replying, with_end, with_one, with_rejection}

abbrev at : TableFacts → Progress → TableFacts
at f p = record f { progress = p }

-- ---- a procedure begins

module _ (n : ℕ) (f : TableFacts) (slot : ℕ) (wanted : List Ask) where
  fits_begun : (p : Peripheral) (ask : Ask) (draft : Draft) → number f.queue.drafts ≤ 0 → one_if (asks draft) ≤ own_room (progress_begun ask f.version_used (peripheral p))
      → late_in (progress_begun ask f.version_used (peripheral p)) ≤ 0
      → with_first_draft f.closing (draft_begun peripheral_role f.version_used f.lengths ask) f.queue ≡ with_first_draft f.closing (Some draft) f.queue
      → Fits n (facts_begun (at f (peripheral p)) slot ask wanted)
  fits_begun p ask draft none room low is =
      let few = with_one (is_open f.closing) f.queue draft in
      let same = ap (λ (queue : QueueFacts). number queue.drafts) is in
      record { few = omega (arith, none, few, same, room); low = omega (arith, low) }

  version_begun : (p : Peripheral) (used : Bool) → f.version_used ≡ used → number f.queue.drafts ≤ 0
      → Fits n (facts_begun (record f { progress = peripheral p; version_used = used }) slot ask_version wanted)
  version_begun p true is none = record { few = omega (arith, none); low = omega arith }
  version_begun p false is none =
      let few = with_one (is_open f.closing) f.queue VersionInd in record { few = omega (arith, none, few); low = omega arith }

  ask_begun : (p : Peripheral) (ask : Ask) → begins peripheral_role (kind_of_ask ask) ≡ true → number f.queue.drafts ≤ 0
      → Fits n (facts_begun (at f (peripheral p)) slot ask wanted)
  ask_begun p (ask_request min max latency timeout) may none =
      fits_begun p (ask_request min max latency timeout) (Request min max latency timeout) none (omega arith) (omega arith) refl
  ask_begun p ask_phy may none = fits_begun p ask_phy PhyReq none (omega arith) (omega arith) refl
  ask_begun p ask_features may none = fits_begun p ask_features PeripheralFeatureReq none (omega arith) (omega arith) refl
  ask_begun p (ask_length tx) may none =
      fits_begun p (ask_length tx) (LengthReq f.lengths.own_rx f.lengths.own_tx) none (omega arith) (omega arith) refl
  ask_begun p ask_version may none = version_begun p f.version_used refl none
  ask_begun p (ask_update interval latency timeout) may none = absurd (cc)
  ask_begun p (ask_map map) may none = absurd (cc)
  ask_begun p (ask_encrypt rand ediv ltk skd_m iv_m) may none = absurd (cc)

  any_begun : (p : Progress) (ask : Ask) → role_of p ≡ peripheral_role → begins (role_of p) (kind_of_ask ask) ≡ true → number f.queue.drafts ≤ 0
      → Fits n (facts_begun (at f p) slot ask wanted)
  any_begun (central c) ask role may none = absurd (cc)
  any_begun (peripheral p) ask role may none = ask_begun p ask may none

module _ (n : ℕ) where
  begun_by : (f : TableFacts) (slot : ℕ) (quiet : Bool) (place : Option ℕ) (ask : Option Ask) → role_of f.progress ≡ peripheral_role → Fits n f
      → place_to_begin f quiet ≡ place → ask_at place f.wanted ≡ ask → Fits n (begin_at f slot place ask).0
  begun_by f slot quiet None ask role fits first got = fits
  begun_by f slot quiet (Some place) None role fits first got = fits
  begun_by f slot quiet (Some place) (Some ask) role fits first got =
      let may = begins_of f quiet place ask first got in
      let few = fits.few in
      let none = no_room f.progress may.none in
      any_begun n f slot (remove f.wanted place) f.progress ask role may.role (omega (arith, few, none))

  begins_fit : (f : TableFacts) (slot : ℕ) (quiet : Bool) → role_of f.progress ≡ peripheral_role → Fits n f → Fits n (begin_step f slot quiet).0
  begins_fit f slot quiet role fits = begun_by f slot quiet (place_to_begin f quiet) (ask_at (place_to_begin f quiet) f.wanted) role fits refl refl

  -- ---- an event is entered

  held_own : (own : OwnPeripheral) (drafts : List Draft) → number drafts ≤ room_at_peripheral own → late_at own ≤ n
      → (number drafts ≤ room_at_peripheral (on_peripheral_stage own_held_at_peripheral own)) × (late_at (on_peripheral_stage own_held_at_peripheral own) ≤ n)
  held_own (exclusive stage) drafts few low =
      let room = held_room stage in let late = held_late stage in (omega (arith, few, room), omega (arith, low, late))
  held_own (exchange stage) drafts few low = (few, low)

  held_fit : (f : TableFacts) (p : Progress) → role_of p ≡ peripheral_role → Fits n (at f p) → Fits n (at f (progress_held p))
  held_fit f (central c) role fits = absurd (cc)
  held_fit f (peripheral p) role fits = let own = held_own p.own f.queue.drafts fits.few fits.low in record { few = own.0; low = own.1 }

  entered_fit : (f : TableFacts) (holds : Bool) → role_of f.progress ≡ peripheral_role → Fits n f → Fits n (entered_step f holds).0
  entered_fit f true role fits = held_fit f f.progress role fits
  entered_fit f false role fits = fits

  entered_role : (f : TableFacts) (holds : Bool) → role_of f.progress ≡ peripheral_role → role_of (entered_step f holds).0.progress ≡ peripheral_role
  entered_role f true role = (held_over f.progress).role ∙ role
  entered_role f false role = role

  -- ---- a control PDU is sent

  sent_draft : (f : TableFacts) (p : Peripheral) (draft : Draft) (event skips : ℕ) (drafts rest : List Draft) → drafts ≡ draft ∷ rest
      → number drafts ≤ room_at_peripheral p.own → late_at p.own ≤ n
      → Fits n (record f { progress = progress_after_sending (Other draft) event skips (peripheral p); queue = record f.queue { drafts = remove drafts 0 } })
  sent_draft f p draft event skips drafts rest are few low =
      let more = draft_room draft p.own in
      let late = draft_late draft p.own in
      let first = ap number are in
      let left = ap (λ (ds : List Draft). number (remove ds 0)) are in
      record { few = omega (arith, few, more, first, left); low = omega (arith, low, late) }

  sent_other : (f : TableFacts) (p : Progress) (draft : Draft) (event skips : ℕ) → role_of p ≡ peripheral_role → IsFirst f.queue.drafts draft → Fits n (at f p)
      → Fits n (record f { progress = progress_after_sending (Other draft) event skips p; queue = without_next (Other draft) f.queue })
  sent_other f (central c) draft event skips role first fits = absurd (cc)
  sent_other f (peripheral p) draft event skips role first fits =
      sent_draft f p draft event skips f.queue.drafts first.rest first.are fits.few fits.low

  sent_by : (f : TableFacts) (event skips slot : ℕ) (quiet : Bool) (out : Outgoing) → role_of f.progress ≡ peripheral_role → next_of f event quiet ≡ out
      → Fits n f → Fits n (facts_sent f out event skips slot)
  sent_by f event skips slot quiet Nothing role next fits = record { few = fits.few; low = fits.low }
  sent_by f event skips slot quiet (Rejection rejection) role next fits = record { few = fits.few; low = fits.low }
  sent_by f event skips slot quiet (Disconnect code) role next fits = record { few = fits.few; low = fits.low }
  sent_by f event skips slot quiet (Other draft) role next fits =
      let sent = sent_other f f.progress draft event skips role (first_of f event quiet draft next) fits in record { few = sent.few; low = sent.low }

  -- ---- a control PDU is acknowledged

  acked_own : (pdu : Pdu) (own : OwnPeripheral) (drafts : List Draft) → 1 ≤ n → number drafts ≤ room_at_peripheral own → late_at own ≤ n
      → (number drafts ≤ room_at_peripheral (on_peripheral_stage (own_acked_at_peripheral pdu) own))
      × (late_at (on_peripheral_stage (own_acked_at_peripheral pdu) own) ≤ n)
  acked_own pdu (exclusive stage) drafts one few low =
      let room = acked_room pdu stage in (omega (arith, few, room), acked_late n pdu stage one low)
  acked_own pdu (exchange stage) drafts one few low = (few, low)

  acked_by : (f : TableFacts) (p : Peripheral) (pdu : Option Pdu) → 1 ≤ n → Fits n (at f (peripheral p)) → Fits n (at f (peripheral (peripheral_acked pdu p)))
  acked_by f p None one fits = fits
  acked_by f p (Some pdu) one fits =
      let own = acked_own pdu p.own f.queue.drafts one fits.few fits.low in record { few = own.0; low = own.1 }

  acked_in : (f : TableFacts) (out : Outgoing) (p : Progress) → role_of p ≡ peripheral_role → 1 ≤ n → Fits n (at f p) → Fits n (at f (progress_acked out p))
  acked_in f out (central c) role one fits = absurd (cc)
  acked_in f out (peripheral p) role one fits = acked_by f p (pdu_of_outgoing out) one fits

  acked_fit : (f : TableFacts) → role_of f.progress ≡ peripheral_role → 1 ≤ n → Fits n f → Fits n (acked_step f).0
  acked_fit f role one fits = let acked = acked_in f f.out f.progress role one fits in record { few = acked.few; low = acked.low }

  -- ---- a control PDU is taken

  pub taken_fit : (f : TableFacts) (quiet : Bool) (read : CtrlRead) (slot : ℕ) → role_of f.progress ≡ peripheral_role → MayTake n read → Fits n f
      → Fits n (facts_with f slot (outcome_of f quiet read))
  taken_fit f quiet read slot role may fits =
      let o = outcome_of f quiet read in
      let reply = took_reply f quiet read in
      let fewer = replying f.closing (role_of f.progress) f.version_used o.reply f.queue reply.reply in
      let few = fits.few in
      let room = kept f.progress o.progress role reply.keeps in
      record { few = omega (arith, fewer, few, room); low = (takes_pdu f quiet read role).low n may fits.low }
    where
      kept : (p later : Progress) → role_of p ≡ peripheral_role → own_room p ≤ own_room later + (if encrypts p then 1 else 0) → own_room p ≤ own_room later
      kept (central c) later role less = absurd (cc)
      kept (peripheral p) later role less = omega (arith, less)

  -- ---- the host answers, or ends the link

  granted_by : (f : TableFacts) (p : Progress) (answer : Result Ask ErrCode) → role_of p ≡ peripheral_role → Fits n (at f p)
      → Fits n (host_answer_step (at f p) answer)
  granted_by f (central c) answer role fits = absurd (cc)
  granted_by f (peripheral p) (Ok (ask_update interval latency timeout)) role fits =
      let draft = Grant (record { interval = interval; latency = latency; timeout = timeout }) in
      let more = with_one (is_open f.closing) f.queue draft in
      let few = fits.few in
      record { few = omega (arith, more, few); low = fits.low }
  granted_by f (peripheral p) (Ok other) role fits = fits
  granted_by f (peripheral p) (Err code) role fits =
      let more = with_rejection (is_open f.closing) f.queue (record { opcode = connection_param_req_opcode; code = code }) in
      let few = fits.few in
      record { few = omega (arith, more, few); low = fits.low }

  ended_fit : (f : TableFacts) (reason : ErrCode) → Fits n f → Fits n (terminate_step f reason)
  ended_fit f reason fits =
      let more = with_end (is_open f.closing) f.queue reason in
      let few = fits.few in
      record { few = omega (arith, more, few); low = fits.low }

  -- ---- the layer above queues a PDU of an encryption

  no_ask : (b : Bool) → b ≡ true → one_if (not b) ≤ 0
  no_ask true is = omega arith
  no_ask false is = absurd (cc)

  given_progress : (f : TableFacts) (p : Progress) (ctrl : Ctrl) → (own_room p ≤ own_room (progress_given p ctrl)) × (late_in (progress_given p ctrl) ≤ late_in p)
  given_progress f (central c) ctrl = (omega arith, omega arith)
  given_progress f (peripheral p) ctrl = by (is_rejection ctrl)
    where
      by : (b : Bool)
          → let later = (if b then peripheral (record p { encrypting = false }) else peripheral p) in
          (room_at_peripheral p.own ≤ own_room later) × (late_in later ≤ late_at p.own)
      by true = (omega arith, omega arith)
      by false = (omega arith, omega arith)

  owed_fit : (f : TableFacts) (p : Progress) (ctrl : Ctrl) → is_ciphering ctrl ≡ true → Fits n (at f p) → Fits n (owe_step (at f p) ctrl)
  owed_fit f p ctrl may fits =
      let more = with_one (is_open f.closing) f.queue (Cipher ctrl) in
      let none = no_ask (is_ciphering ctrl) may in
      let given = given_progress f p ctrl in
      let room = given.0 in
      let late = given.1 in
      let few = fits.few in
      let low = fits.low in
      record { few = omega (arith, more, none, few, room); low = omega (arith, low, late) }

  -- ---- all steps

  abbrev FitsIn : Control → Type 0
  FitsIn c = Fits n c.table

  -- the layer above queues PDUs of an encryption alone
  abbrev pub MayCome : Step → Type 0
  MayCome SeesAcknowledged = 1 ≤ n
  MayCome (Takes read slot quiet) = MayTake n read
  MayCome (Owes ctrl) = is_ciphering ctrl ≡ true
  MayCome step = ⊤

  table_fit : (may : Bool) (g : TableFacts) (c : Control) → Fits n g → FitsIn c → FitsIn (table_if may g c)
  table_fit true g c now before = now
  table_fit false g c now before = before

  follows : (role : Role) (indication : Option Indication) (c : Control) → FitsIn c → FitsIn (following role indication c)
  follows central_role None c fits = fits
  follows central_role (Some indication) c fits = fits
  follows peripheral_role indication c fits = fits

  taken_control : (g : TableFacts) (indication : Option Indication) (c : Control) → Fits n g → FitsIn c → FitsIn (taken g None indication c)
  taken_control g None c now before = now
  taken_control g (Some indication) c now before = either_way FitsIn (is_to_come c.track indication) _ _ now before

  moved_fit : (step : Step) (c : Control) → role_of c.table.progress ≡ peripheral_role → MayCome step → FitsIn c → FitsIn (moved step c)
  moved_fit (Enters slot quiet) c role may fits =
      let holds = is_some (next_number c.track) in
      begins_fit (entered_step c.table holds).0 slot quiet (entered_role c.table holds role) (entered_fit c.table holds role fits)
  moved_fit (Asks ask) c role may fits = record { few = fits.few; low = fits.low }
  moved_fit (Answers answer) c role may fits =
      table_fit (is_host_asked c.table.progress && is_answer answer) (host_answer_step c.table answer) c
      (granted_by c.table c.table.progress answer role fits) fits
  moved_fit (Disconnects reason) c role may fits =
      table_fit (is_open c.table.closing) (terminate_step c.table reason) c (ended_fit c.table reason fits) fits
  moved_fit (Sends slot quiet) c role may fits =
      either_way FitsIn (goes_out quiet c) _ c
      (follows (role_of c.table.progress) (went slot quiet c).1 (record c { table = (went slot quiet c).0 })
      (sent_by c.table (event_of c.track) c.track.params.latency slot quiet (next_of c.table (event_of c.track) quiet) role refl fits)) fits
  moved_fit SeesAcknowledged c role may fits = table_fit (is_out c.table.out) (acked_step c.table).0 c (acked_fit c.table role may fits) fits
  moved_fit (Takes read slot quiet) c role may fits =
      let o = outcome_of c.table quiet read in
      took_by FitsIn c (λ code. fits) read slot quiet
      (taken_control (facts_with c.table slot o) (indicated_by o.step.effect) c (taken_fit c.table quiet read slot role may fits) fits)
  moved_fit (Owes ctrl) c role may fits = owed_fit c.table c.table.progress ctrl may fits

-- a peripheral whose request is at most this far
pub record Holds (n : ℕ) (c : Control) : Type 0 where
  pub role : role_of c.table.progress ≡ peripheral_role
  pub fits : Fits n c.table

pub control_holds : (n : ℕ) (step : Step) (c : Control) → MayCome n step → Holds n c → Holds n (after step c)
control_holds n step c may h =
    record {
      role = same_role peripheral_role step c h.role;
      fits = any_step (FitsIn n) step c (moved_fit n step c h.role may h.fits) h.fits;
    }

pub weaker : (n m : ℕ) (c : Control) → n ≤ m → Holds n c → Holds m c
weaker n m c less h = let low = h.fits.low in record { role = h.role; fits = record { few = h.fits.few; low = omega (arith, less, low) } }

-- ---- in any phase of encryption

module _ (n : ℕ) where
  same_holds : (c d : Control) → d ≡ c → Holds n c → Holds n d
  same_holds c d is h = subst (Holds n) (sym is) h

  pub owing_holds : (c d : Control) → Owing c d → Holds n c → Holds n d
  owing_holds c d (Same is) h = same_holds c d is h
  owing_holds c d (Owed ctrl may is) h = same_holds (after (Owes ctrl) c) d is (control_holds n (Owes ctrl) c may h)

  ended_holds : (code : ErrCode) (c d : Control) → d ≡ ended code c → Holds n c → Holds n d
  ended_holds code c d is h = same_holds (ended code c) d is (record { role = h.role; fits = h.fits })

  pub data_holds : (c d : Control) → DataTaking c d → Holds n c → Holds n d
  data_holds c d (Same is) h = same_holds c d is h
  data_holds c d (Ended code goes is) h = ended_holds code c d is h

  -- the first PDU of a procedure of the peer answers none
  first_may : (ctrl : Ctrl) → ctrl_class ctrl ≡ request_class → MayTake n (Known ctrl)
  first_may ctrl class answered = first_answers request ctrl class answered

  kept_holds : (slot : ℕ) (kept : Taken) (c d : Control) → TakingKept slot kept c d → Holds n c → Holds n d
  kept_holds slot kept c d (NoneKept none is) h = same_holds c d is h
  kept_holds slot kept c d (TakesKept ctrl class given is) h =
      same_holds (after (Takes (Known ctrl) slot true) c) d is (control_holds n (Takes (Known ctrl) slot true) c (first_may ctrl class) h)

  pub taking_holds : (quiet : Bool) (c : Control) (read : CtrlRead) (slot : ℕ) (taken kept : Taken) (d : Control)
      → Taking quiet c read slot taken kept d → MayTake n read → Holds n c → Holds n d
  taking_holds quiet c read slot taken kept d (Over over none none_kept is) may h = same_holds c d is h
  taking_holds quiet c read slot taken kept d (Withheld goes loud class none none_kept is) may h = same_holds c d is h
  taking_holds quiet c read slot taken kept d (Ended code goes class none none_kept is) may h = ended_holds code c d is h
  taking_holds quiet c read slot taken kept d (Handed seen middle goes is_seen class owing given later) may h =
      kept_holds slot kept middle d later
      (owing_holds (after (Takes seen slot quiet) c) middle owing
      (control_holds n (Takes seen slot quiet) c (λ answered. may (answers_seen request read seen is_seen answered)) h))
