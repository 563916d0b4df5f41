-- Every step of a central keeps what is known of its indications.
use Rattle.std.proofs.Common.{◌≡◌, ℕ, ◌≤◌, ◌<◌, Bool, true, false, ◌&&◌, if◌then◌else◌, List, [], ◌∷◌, Option, Some, None, is_none, Result, Ok, Err, refl, arith, subst}
use Rattle.std.specs.List.{All}
use Rattle.std.proofs.lemmas.List.Elements.{All-head, All-nil}
use Rattle.ble_base.specs.declared.error_codes.ErrCode.{ErrCode}
use Rattle.ble_base.specs.declared.roles.Role.TheVariants.{Central as central_role}
use Rattle.data_pdu.specs.declared.ctrl.CtrlRead.{CtrlRead}
use Rattle.instants.specs.declared.indications.Params.{Params}
use Rattle.instants.specs.declared.indications.Indication.{Indication}
use Rattle.instants.specs.declared.track.Change.{Change}
use Rattle.instants.specs.Parameters.{win_offset_of}
use Rattle.instants.specs.Track.{event_of}
use Rattle.procedures.specs.procedure_values.declared.drafts.Draft.{Draft}
use Rattle.procedures.specs.procedure_values.declared.drafts.Outgoing.TheVariants.{Other}
use Rattle.procedures.specs.procedure_values.Drafts.{is_out, waits_for_instant}
use Rattle.procedures.specs.Queue.{next_of}
use Rattle.two_tracks.specs.TwoEnds.{MayIndicateIf, TwoEnds}
use Rattle.procedures.specs.procedure_values.declared.asks.Ask.{Ask}
use Rattle.procedures.specs.procedure_values.declared.asks.Ask.TheVariants.{Update as ask_update}
use Rattle.procedures.specs.procedure_values.Asks.{kind_of_ask}
use Rattle.procedures.specs.procedure_values.Wants.{IsAsk, place_of, without_place}
use Rattle.ble_base.specs.declared.procedure_kinds.Kind.TheVariants.{Version}
use Rattle.procedures.specs.procedure_stages.Closing.{is_open}
use Rattle.procedures.specs.procedure_stages.InProgress.{is_host_asked}
use Rattle.procedures.specs.procedure_stages.Steps.{is_version_effect}
use Rattle.procedures.specs.declared.outcome.Outcome.{Outcome}
use Rattle.procedures.specs.Going.{host_answer_step, is_answer, terminate_step}
use Rattle.procedures.specs.Table.{TableFacts}
use Rattle.procedures.specs.Taking.{facts_with, outcome_of}
use Rattle.control_model.specs.Control.{Control, Step, Enters, Asks, Answers, Disconnects, Sends, SeesAcknowledged, Takes, Owes, after, after_all, first_control, indicated_by, moved, taken, took, went}
use Rattle.control_model.specs.Waits.{AreInRange, IsInRange, last_event_of, last_instant_of}
use Rattle.control_model.proofs.Outcomes.{Fits, Hands, fits}
use Rattle.control_model.proofs.Calls.{acked_same, answered_same, given_same, took_by, unmoved}
use Rattle.control_model.proofs.Indicating.{Indicates, IsDraft, UpTo, drafts_ending, drafts_rejecting, drafts_replying, drafts_with, enters_by, kept, kept_if, over, wanted_more, wanted_without}
use Rattle.control_model.proofs.Sending.{Precedes, free_of, may_of, offset_of, own_of, owned, sends_one, waiting_of}

answered_drafts : (f : TableFacts) (answer : Result Ask ErrCode) → All IsDraft f.queue.drafts → IsInRange (Answers answer)
    → All IsDraft (host_answer_step f answer).queue.drafts
answered_drafts f (Ok (ask_update interval latency timeout)) all is = drafts_with (is_open f.closing) f.queue _ all is
answered_drafts f (Ok other) all is = all
answered_drafts f (Err code) all is = drafts_rejecting (is_open f.closing) f.queue _ all

answered_wanted : (f : TableFacts) (answer : Result Ask ErrCode) → All IsAsk f.wanted → All IsAsk (host_answer_step f answer).wanted
answered_wanted f (Ok (ask_update interval latency timeout)) all = all
answered_wanted f (Ok other) all = all
answered_wanted f (Err code) all = all

-- ---- a PDU is taken

abbrev wanted_if : Bool → Option ℕ → List Ask → List Ask
wanted_if b place wanted = if b then without_place place wanted else wanted

wanted_by : (b : Bool) (wanted : List Ask) (place : Option ℕ) → All IsAsk wanted → All IsAsk (wanted_if b place wanted)
wanted_by true wanted place all = wanted_without place wanted all
wanted_by false wanted place all = all

takes_by : (c : Control) (g : TableFacts) (indication : Option Indication) → Indicates c → Hands indication c.table.progress g.progress
    → All IsAsk g.wanted → All IsDraft g.queue.drafts → Indicates (taken g None indication c)
takes_by c g None i s wanted drafts = kept c g i s wanted drafts
takes_by c g (Some indication) i h wanted drafts = absurd (let role = i.role in let here = h.here in cc)

takes_one : (c : Control) (read : CtrlRead) (slot : ℕ) (quiet : Bool) → Indicates c → Indicates (took read slot quiet c)
takes_one c read slot quiet i =
    took_by Indicates c (λ code. over code c i) read slot quiet
    (takes_by c (facts_with c.table slot o) (indicated_by o.step.effect) i fit.hands
    (wanted_by (is_version_effect o.step.effect) c.table.wanted (place_of Version c.table.wanted) i.wanted)
    (drafts_replying c.table.closing o.reply c.table.queue i.drafts fit.reply))
  where
    o : Outcome
    o = outcome_of c.table quiet read

    fit : Fits c.table.progress o
    fit = fits c.table quiet read

-- ---- every step

moves : (step : Step) (c : Control) → IsInRange step → Indicates c → Indicates (moved step c)
moves (Enters slot quiet) c is i = enters_by c slot quiet c.track.waits i
moves (Asks ask) c is i =
    kept c _ i (unmoved c.table.progress) (wanted_more (place_of (kind_of_ask ask) c.table.wanted) ask c.table.wanted i.wanted is) i.drafts
moves (Answers answer) c is i =
    kept_if (is_host_asked c.table.progress && is_answer answer) c _ i
    (λ may. kept c _ i (answered_same c.table answer) (answered_wanted c.table answer i.wanted) (answered_drafts c.table answer i.drafts is))
moves (Disconnects reason) c is i =
    kept_if (is_open c.table.closing) c (terminate_step c.table reason) i
    (λ may. kept c _ i (unmoved c.table.progress) i.wanted (drafts_ending (is_open c.table.closing) c.table.queue reason i.drafts))
moves (Sends slot quiet) c is i = sends_one c slot quiet i
moves SeesAcknowledged c is i =
    kept_if (is_out c.table.out) c _ i (λ may. kept c _ i (acked_same c.table.out c.table.progress) i.wanted i.drafts)
moves (Takes read slot quiet) c is i = takes_one c read slot quiet i
moves (Owes ctrl) c is i =
    kept c _ i (given_same c.table.progress ctrl) i.wanted (drafts_with (is_open c.table.closing) c.table.queue _ i.drafts tt)

stays : (b : Bool) (step : Step) (c : Control) → IsInRange step → Indicates c → Indicates (if b then moved step c else c)
stays true step c is i = moves step c is i
stays false step c is i = i

all_indicate : (steps : List Step) (c : Control) → AreInRange steps → Indicates c → Indicates (after_all steps c)
all_indicate [] c are i = i
all_indicate (step ∷ steps) c are i = all_indicate steps (after step c) are.1 (stays (is_none c.ends) step c are.0 i)

pub indicates : (max_rx : ℕ) (first : Params) (slot : ℕ) (steps : List Step) → first.latency ≤ 499 → AreInRange steps
    → Indicates (after_all steps (first_control central_role max_rx first slot))
indicates max_rx first slot steps latency are =
    all_indicate steps (first_control central_role max_rx first slot) are
    (record {
      role = refl;
      wanted = All-nil IsAsk;
      drafts = All-nil IsDraft;
      so_far = record { last_is = refl; all = All-nil (λ (change : Change). UpTo change.at.0 None); latency = latency; waits = tt };
    })

-- ---- what it indicates

module _ (max_rx : ℕ) (first : Params) (slot : ℕ) (steps : List Step) where
  abbrev now_central : Control
  now_central = after_all steps (first_control central_role max_rx first slot)

  pub may : (now : ℕ) (quiet : Bool) (s : TwoEnds) → first.latency ≤ 499 → AreInRange steps → s.central ≡ now_central.track → s.sent ≡ now_central.sent
      → MayIndicateIf s (went now quiet now_central).1
  may now quiet s latency are = may_of now_central now quiet (indicates max_rx first slot steps latency are) s

  pub offset : (now : ℕ) (quiet : Bool) (indication : Indication) → first.latency ≤ 499 → AreInRange steps
      → (went now quiet now_central).1 ≡ Some indication → win_offset_of indication ≡ 0
  offset now quiet indication latency are = offset_of now_central now quiet indication (indicates max_rx first slot steps latency are)

  pub free : (now : ℕ) (quiet : Bool) (indication : Indication) → first.latency ≤ 499 → AreInRange steps
      → (went now quiet now_central).1 ≡ Some indication → is_none now_central.track.waits ≡ true
  free now quiet indication latency are = free_of now_central now quiet indication (indicates max_rx first slot steps latency are)

  pub over_before : (quiet : Bool) (draft : Draft) → first.latency ≤ 499 → AreInRange steps
      → next_of now_central.table (event_of now_central.track) quiet ≡ Other draft → waits_for_instant draft ≡ true
      → All (λ change. change.at.0 < event_of now_central.track) now_central.sent
  over_before quiet draft latency are = waiting_of now_central quiet draft (indicates max_rx first slot steps latency are)

  pub last : first.latency ≤ 499 → AreInRange steps → last_instant_of now_central.table.progress ≡ last_event_of now_central.sent
  last latency are = (indicates max_rx first slot steps latency are).so_far.last_is

  -- with one indication sent, another one goes out after its Instant
  pub early : (now : ℕ) (quiet : Bool) (indication : Indication) (change : Change) → first.latency ≤ 499 → AreInRange steps
      → (went now quiet now_central).1 ≡ Some indication → now_central.sent ≡ change ∷ [] → event_of now_central.track ≤ change.at.0 → ⊥
  early now quiet indication change latency are is one ahead =
      let over = (own_of now_central (went now quiet now_central).1 indication is (owned now_central now quiet (indicates max_rx first slot steps latency are))).over in
      let all : All (Precedes (event_of now_central.track)) (change ∷ []) = subst (All (Precedes (event_of now_central.track))) one over in
      let less : change.at.0 < event_of now_central.track = All-head (Precedes (event_of now_central.track)) change [] all in
      omega (arith, less, ahead)
