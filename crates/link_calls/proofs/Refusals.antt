-- Only a central refuses a request for parameters of its peer: a peripheral asks its host for none.
use Rattle.std.proofs.Common.{◌≡◌, ℕ, ◌⊎◌, inl, inr, Bool, true, false, Option, Some, None, Result, List, is_none, refl, sym, ap, subst, ◌∙◌}
use Rattle.std.specs.Prelude.{◌&&◌, ◌==◌, if◌then◌else◌, ⊤}
use Rattle.ble_base.specs.declared.error_codes.ErrCode.{ErrCode}
use Rattle.ble_base.specs.declared.roles.Role.{Role}
use Rattle.ble_base.specs.declared.roles.Role.TheVariants.{Central, Peripheral}
use Rattle.data_pdu.specs.declared.ctrl.Ctrl.{Ctrl}
use Rattle.data_pdu.specs.declared.ctrl.Ctrl.TheVariants.{EncReq, TerminateInd}
use Rattle.data_pdu.specs.declared.ctrl.CtrlRead.{CtrlRead}
use Rattle.data_pdu.specs.declared.ctrl.CtrlRead.TheVariants.{Known}
use Rattle.data_pdu.specs.Header.{header_in}
use Rattle.run_laws.specs.host_view.View.{View}
use Rattle.run_laws.specs.run_model.procedure_values.declared.asks.Ask.{Ask}
use Rattle.run_laws.specs.procedure_stages.declared.stages.Progress.{Progress}
use Rattle.run_laws.specs.procedure_stages.declared.stages.Progress.TheVariants.{Central as central, Peripheral as peripheral}
use Rattle.run_laws.specs.procedure_stages.declared.stages.Peripheral.{Peripheral as PeripheralTable}
use Rattle.run_laws.specs.procedure_stages.declared.steps.Effect.{Effect}
use Rattle.run_laws.specs.procedure_stages.declared.steps.Effect.TheVariants.{AskHost, Cipher, Indicated, Lengths as new_lengths, Nothing}
use Rattle.run_laws.specs.procedure_stages.Kinds.{role_of}
use Rattle.run_laws.specs.procedure_stages.Steps.{asks_host}
use Rattle.collision_steps.specs.procedures.Table.{TableFacts}
use Rattle.collision_steps.specs.procedures.Taking.{lacks_room, outcome_of, took_step}
use Rattle.collision_steps.specs.Answers.{stops_run}
use Rattle.collision_steps.proofs.PeripheralTaking.{took}
use Rattle.collision_steps.proofs.Stopping.{told}
use Rattle.run_laws.specs.control_model.Control.{Control, Owes, SeesAcknowledged, Sends, Takes}
use Rattle.run_laws.proofs.control_model.Moving.{same_role}
use Rattle.run_laws.specs.control_end.declared.answers.Taken.{Taken}
use Rattle.run_laws.specs.control_end.Answers.{effect_shown, nothing_taken, step_shown, taken_of}
use Rattle.run_laws.specs.control_end.Held.{Held, held_after, held_of}
use Rattle.run_laws.specs.link_model.Acknowledgement.{Pdu}
use Rattle.run_laws.specs.link_model.Controls.{is_procedure_pdu, is_quiet_now, read_of}
use Rattle.run_laws.specs.link_model.Facts.{Facts as EndFacts, keyed_of}
use Rattle.run_laws.specs.link_model.Packets.{good_pdu}
use Rattle.run_laws.specs.link_model.Receiving.{accepts, acknowledged_if, acks_control, answers_with_control, control_taken, effect_of, effect_received, effect_unless_known, facts_before_taking, given_if, has_acknowledged, heard_in_slot, kept_effect_of, kept_effect_received, kept_give, kept_given_if, procedures_give}
use Rattle.run_laws.specs.link_model.Sending.{control_gone_if}
use Rattle.run_laws.specs.link_model.Setup.{Setup as EndSetup}
use Rattle.run_laws.specs.link_model.Step.{Step as EndStep, KeyAnswered, RequestAnswered}
use Rattle.run_laws.specs.link_model.Verdicts.{pdu_of}
use Rattle.run_laws.specs.link_model.declared.state.KnownLengths.{KnownLengths}
use Rattle.run_laws.proofs.link_model.KeyedPasts.{keeps_role}
use Rattle.run_laws.proofs.link_model.KnownEnds.{IsPast, knows_before_taking, past_knows}
use Rattle.run_laws.proofs.link_model.Views.{Knows, Owing, Taking, TakingKept, acked_control, acked_view, taken_view}
use Rattle.run_laws.proofs.link_model.Views.{Ended, Handed, NoneKept, Over, Owed, Same, TakesKept, Withheld}
use Rattle.run_laws.specs.open_links.OpenLinks.{OpenLink, facts_in}
use Rattle.run_laws.specs.controller_model.Facts.{Facts}
use Rattle.run_laws.specs.controller_model.Heard.{answer_unless, effect_in, kept_effect_in, key_refusal, or_refusal, refusal_of}
use Rattle.link_calls.specs.Phases.{refusal_at}

-- ---- the table of a peripheral

stops_asking : (f : TableFacts) (read : CtrlRead) (slot : ℕ) (quiet : Bool) → stops_run read ≡ true → asks_host (took_step f read slot quiet).1.effect ≡ false
stops_asking f (Known (TerminateInd code)) slot quiet is = ap (λ s. asks_host s.effect) (told f slot code quiet)
stops_asking f read slot quiet is = absurd cc

table_asks : (f : TableFacts) (p : PeripheralTable) (read : CtrlRead) (slot : ℕ) (quiet : Bool) → f.progress ≡ peripheral p → asks_host (took_step f read slot quiet).1.effect ≡ false
table_asks f p read slot quiet is = by (lacks_room f (outcome_of f quiet read)) refl (stops_run read) refl
  where
    by : (lacks : Bool) → lacks_room f (outcome_of f quiet read) ≡ lacks → (stops : Bool) → stops_run read ≡ stops → asks_host (took_step f read slot quiet).1.effect ≡ false
    by true lacks stops ends = rw lacks refl
    by false room true ends = stops_asking f read slot quiet ends
    by false room false goes = (took f p read slot quiet is room goes).host

role_asks : (f : TableFacts) (progress : Progress) (read : CtrlRead) (slot : ℕ) (quiet : Bool) → f.progress ≡ progress → role_of progress ≡ Peripheral
    → asks_host (took_step f read slot quiet).1.effect ≡ false
role_asks f (central c) read slot quiet is role = absurd (let h : Central ≡ Peripheral = role in absurd cc)
role_asks f (peripheral p) read slot quiet is role = table_asks f p read slot quiet is

-- ---- what is given of it

shown_asks : (effect : Effect) → asks_host effect ≡ false → asks_host (effect_shown effect) ≡ false
shown_asks (Indicated indication) none = refl
shown_asks other none = none

known_asks : (lengths : KnownLengths) (effect : Effect) → asks_host effect ≡ false → asks_host (effect_unless_known lengths effect) ≡ false
known_asks lengths (new_lengths rx tx) none = by ((rx == lengths.reported_rx) && (tx == lengths.reported_tx))
  where
    by : (known : Bool) → asks_host (if known then Nothing else new_lengths rx tx) ≡ false
    by true = refl
    by false = refl
known_asks lengths other none = none

taken_asks : (h : Held) (read : CtrlRead) (slot : ℕ) (quiet : Bool) → role_of h.table.progress ≡ Peripheral → asks_host (taken_of read slot quiet h).effect ≡ false
taken_asks h read slot quiet role = by (is_none (held_after (Takes read slot quiet) h).ends)
  where
    by : (goes : Bool) → asks_host (if goes then step_shown (took_step h.table read slot quiet).1 else nothing_taken).effect ≡ false
    by true = shown_asks (took_step h.table read slot quiet).1.effect (role_asks h.table h.table.progress read slot quiet refl role)
    by false = refl

-- nothing is given where its phase lets the procedures not see the PDU
none_asks : (given : Taken) → given ≡ nothing_taken → asks_host given.effect ≡ false
none_asks given none = ap (λ (t : Taken). asks_host t.effect) none

taking_asks : (quiet : Bool) (c : Control) (read : CtrlRead) (slot : ℕ) (taken kept : Taken) (d : Control) → role_of c.table.progress ≡ Peripheral
    → Taking quiet c read slot taken kept d → asks_host taken.effect ≡ false
taking_asks quiet c read slot taken kept d role (Over over none none_kept is) = none_asks taken none
taking_asks quiet c read slot taken kept d role (Withheld goes loud class none none_kept is) = none_asks taken none
taking_asks quiet c read slot taken kept d role (Ended code goes class none none_kept is) = none_asks taken none
taking_asks quiet c read slot taken kept d role (Handed seen middle goes is_seen class owing given later) =
    ap (λ (t : Taken). asks_host t.effect) given ∙ taken_asks (held_of c) seen slot quiet role

-- what may be owed leaves the role
owing_role : (c d : Control) → Owing c d → role_of c.table.progress ≡ Peripheral → role_of d.table.progress ≡ Peripheral
owing_role c d (Same same) is = ap (λ (x : Control). role_of x.table.progress) same ∙ is
owing_role c d (Owed ctrl may same) is = ap (λ (x : Control). role_of x.table.progress) same ∙ same_role Peripheral (Owes ctrl) c is

-- nor of one that was kept
middle_asks : (slot : ℕ) (kept : Taken) (middle d : Control) → role_of middle.table.progress ≡ Peripheral → TakingKept slot kept middle d → asks_host kept.effect ≡ false
middle_asks slot kept middle d role (NoneKept none is) = none_asks kept none
middle_asks slot kept middle d role (TakesKept ctrl class given is) =
    ap (λ (t : Taken). asks_host t.effect) given ∙ taken_asks (held_of middle) (Known ctrl) slot true role

kept_asks : (quiet : Bool) (c : Control) (read : CtrlRead) (slot : ℕ) (taken kept : Taken) (d : Control) → role_of c.table.progress ≡ Peripheral
    → Taking quiet c read slot taken kept d → asks_host kept.effect ≡ false
kept_asks quiet c read slot taken kept d role (Over over none none_kept is) = none_asks kept none_kept
kept_asks quiet c read slot taken kept d role (Withheld goes loud class none none_kept is) = none_asks kept none_kept
kept_asks quiet c read slot taken kept d role (Ended code goes class none none_kept is) = none_asks kept none_kept
kept_asks quiet c read slot taken kept d role (Handed seen middle goes is_seen class owing given later) =
    middle_asks slot kept middle d (owing_role _ middle owing (same_role Peripheral (Takes seen slot quiet) c role)) later

given_asks : (takes : Bool) (pdu : Pdu) (slot : ℕ) (facts : EndFacts) → Knows (keyed_of facts) → role_of facts.control.table.progress ≡ Peripheral
    → (asks_host (given_if takes pdu slot facts).effect ≡ false) × (asks_host (kept_given_if takes pdu slot facts).effect ≡ false)
given_asks true pdu slot facts knows role =
    let view = taken_view pdu slot facts knows in
    let quiet = is_quiet_now facts in
    let taken = procedures_give pdu slot facts in
    let kept = kept_give pdu slot facts in
    let d = control_taken pdu slot facts in
    (taking_asks quiet facts.control (read_of pdu) slot taken kept d role view, kept_asks quiet facts.control (read_of pdu) slot taken kept d role view)
given_asks false pdu slot facts knows role = (refl, refl)

-- ---- its role as it looks at a new PDU

acked_role : (acked : Bool) (control : Control) → role_of control.table.progress ≡ Peripheral → role_of (acked_control acked control).table.progress ≡ Peripheral
acked_role true control is = same_role Peripheral SeesAcknowledged control is
acked_role false control is = is

gone_role : (goes : Bool) (slot : ℕ) (facts : EndFacts) → role_of facts.control.table.progress ≡ Peripheral → role_of (control_gone_if goes slot facts).control.table.progress ≡ Peripheral
gone_role true slot facts is = same_role Peripheral (Sends slot (is_quiet_now facts)) facts.control is
gone_role false slot facts is = is

effects_ask : (setup : EndSetup) (slot : ℕ) (room : Bool) (found : Option (List ℕ)) (facts : EndFacts) → IsPast setup facts → role_of facts.control.table.progress ≡ Peripheral
    → (asks_host (effect_received setup.link.role slot room found facts) ≡ false) × (asks_host (kept_effect_received setup.link.role slot room found facts) ≡ false)
effects_ask setup slot room None facts p is = (refl, refl)
effects_ask setup slot room (Some octets) facts p is =
    let role = setup.link.role in
    let header = header_in octets in
    let pdu = pdu_of octets in
    let acks = has_acknowledged facts header in
    let own = acknowledged_if acks (heard_in_slot slot header.md facts) in
    let now = facts_before_taking role slot header facts in
    let takes = accepts room header pdu now && is_procedure_pdu pdu in
    let acked = acked_control (acks_control acks facts) facts.control in
    let given = given_asks takes pdu slot now (knows_before_taking setup facts p role slot header)
    (gone_role (answers_with_control role own) slot own
    (owing_role acked own.control (acked_view (acks_control acks facts) facts (past_knows setup facts p)) (acked_role (acks_control acks facts) facts.control is))) in
    (known_asks facts.lengths (given_if takes pdu slot now).effect given.0, known_asks facts.lengths (kept_given_if takes pdu slot now).effect given.1)

-- ---- at its controller

-- a request for parameters is refused
abbrev IsRefused : Option EndStep → Type 0
IsRefused (Some (RequestAnswered answer)) = ⊤
IsRefused may = ⊥

unless_key : (pass : Bool) (slot : ℕ) → IsRefused (answer_unless pass (KeyAnswered None slot)) → ⊥
unless_key true slot is = is
unless_key false slot is = is

key_unrefused : (view : View) (handle slot : ℕ) (ctrl : Ctrl) → IsRefused (key_refusal view handle slot ctrl) → ⊥
key_unrefused view handle slot (EncReq rand ediv skd_m iv_m) is = unless_key _ slot is
key_unrefused view handle slot other is = is

one_asks : (view : View) (handle slot : ℕ) (effect : Effect) → IsRefused (refusal_of view handle slot effect) → asks_host effect ≡ true
one_asks view handle slot (AskHost min max latency timeout) is = refl
one_asks view handle slot (Cipher ctrl) is = absurd (key_unrefused view handle slot ctrl is)
one_asks view handle slot other is = absurd is

either_refused : (one other : Option EndStep) → IsRefused (or_refusal one other) → IsRefused one ⊎ IsRefused other
either_refused None other is = inr is
either_refused (Some step) other is = inl is

pub only_central_refuses : (facts : Facts) (handle : ℕ) (room : Bool) (octets : List ℕ) (link : OpenLink) (answer : Result Ask ErrCode)
    → refusal_at handle room octets facts link ≡ Some (RequestAnswered answer) → link.setup.link.role ≡ Central
unfolding effect_of kept_effect_of
only_central_refuses facts handle room octets link answer refuses = by link.setup.link.role refl
  where
    effect : Effect
    effect = effect_in facts.turn.slot room (Some link) octets

    kept : Effect
    kept = kept_effect_in facts.turn.slot room (Some link) octets

    by : (role : Role) → link.setup.link.role ≡ role → link.setup.link.role ≡ Central
    by Central is = is
    by Peripheral is =
        let none = effects_ask link.setup facts.turn.slot room (good_pdu link.setup (facts_in link) octets) (facts_in link) (record { past = link.past; is = refl })
        (keeps_role link.setup link.past ∙ is) in
        let asked = either_refused (refusal_of facts.view handle facts.turn.slot effect) (refusal_of facts.view handle facts.turn.slot kept)
        (subst IsRefused (sym refuses) tt) in
        elim asked [
          | inl one ↦ absurd (let h : true ≡ false = sym (one_asks facts.view handle facts.turn.slot effect one) ∙ none.0 in absurd cc)
          | inr other ↦ absurd (let h : true ≡ false = sym (one_asks facts.view handle facts.turn.slot kept other) ∙ none.1 in absurd cc)
        ]
