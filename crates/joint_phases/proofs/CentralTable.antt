-- What a PDU of the encryption does to the table of a central outside phases Clear and Secure.
use Rattle.std.proofs.Common.{◌≡◌, ◌==◌, eqb-true, ℕ, Bool, true, false, ◌||◌, Option, Some, None, is_some, refl, ap, ◌∙◌, if◌then◌else◌}
use Rattle.ble_base.specs.ErrorCodes.{instant_passed}
use Rattle.ble_base.specs.declared.error_codes.ErrCode.{ErrCode}
use Rattle.ble_base.specs.declared.procedure_kinds.Kind.TheVariants.{Encrypt}
use Rattle.ble_base.specs.declared.roles.Role.TheVariants.{Central as central_role}
use Rattle.data_pdu.specs.declared.ctrl.Ctrl.{Ctrl}
use Rattle.data_pdu.specs.declared.ctrl.Ctrl.TheVariants.{EncRsp, PauseEncRsp, RejectExtInd, RejectInd, StartEncReq, StartEncRsp}
use Rattle.data_pdu.specs.declared.ctrl.CtrlRead.TheVariants.{Known}
use Rattle.phase_pairs.specs.enc_phase.declared.classes.PduClass.{PduClass}
use Rattle.phase_pairs.specs.enc_phase.declared.classes.PduClass.TheVariants.{Other, Refusal}
use Rattle.phase_pairs.specs.enc_phase.Taking.{ctrl_class}
use Rattle.instants.specs.declared.indications.Indication.{Indication}
use Rattle.instants.specs.Track.{track_after_take}
use Rattle.joint_controls.specs.procedure_stages.declared.reply.Reply.{Reply}
use Rattle.joint_controls.specs.procedure_stages.declared.reply.Reply.TheVariants.{Nothing as no_reply}
use Rattle.joint_controls.specs.procedure_stages.declared.stages.OwnCentral.{OwnCentral}
use Rattle.joint_controls.specs.procedure_stages.declared.stages.OwnCentral.TheVariants.{EncryptSent, EncryptUnsent, Exclusive as exclusive}
use Rattle.exclusive_stages.specs.declared.stages.CentralStage.TheVariants.{Idle}
use Rattle.joint_controls.specs.procedure_stages.declared.stages.Progress.{Progress}
use Rattle.joint_controls.specs.procedure_stages.declared.stages.Progress.TheVariants.{Central as central, Peripheral as peripheral}
use Rattle.joint_controls.specs.procedure_stages.declared.steps.Effect.TheVariants.{Cipher}
use Rattle.joint_controls.specs.procedure_stages.Awaited.{is_own_encryption}
use Rattle.joint_controls.specs.procedure_stages.Kinds.{role_of, without_own}
use Rattle.joint_controls.specs.procedure_stages.Opcodes.{first_opcode, is_opcode, later_opcode, opcode_at_central}
use Rattle.joint_controls.specs.procedure_stages.Queue.{with_reply}
use Rattle.joint_controls.specs.procedures.declared.outcome.Outcome.{Outcome}
use Rattle.joint_controls.specs.procedures.Outcomes.{moved, unchanged, with_done, with_effect}
use Rattle.joint_controls.specs.procedures.Refusals.{refused_if}
use Rattle.joint_controls.specs.procedures.Table.{TableFacts}
use Rattle.joint_controls.specs.procedures.Taking.{facts_with, outcome_of, taken_by}
use Rattle.joint_controls.specs.table_laws.Encrypting.{has_encryption}
use Rattle.joint_controls.proofs.table_laws.Outcomes.{took as table_took}
use Rattle.joint_controls.specs.control_model.Control.{Control, ended, indicated_by, is_to_come, taken, took}
use Rattle.joint_controls.specs.Joint.{is_terminate}
use Rattle.joint_phases.specs.Parts.{is_encryption_unsent, is_encryption_unsent_at}
use Rattle.joint_phases.proofs.CentralCipher.{SameTable}
use Rattle.joint_phases.proofs.CentralTakes.{some_none}
use Rattle.joint_phases.proofs.Outcomes.{keeps_open, took_goes}

-- ---- a fact of the table that the outcome says, where the link goes on

module _ (control : Control) (ctrl : Ctrl) (slot : ℕ) (quiet : Bool) (P : TableFacts → Type 0) where
  abbrev opened_control : Control
  opened_control = record control { ends = None }

  abbrev table_after : TableFacts
  table_after = facts_with control.table slot (outcome_of control.table quiet (Known ctrl))

  by_indication : (indication : Option Indication) → P table_after
      → (taken table_after None indication opened_control).ends ≡ None → P (taken table_after None indication opened_control).table
  by_indication None h lasts = h
  by_indication (Some indication) h lasts = by (is_to_come control.track indication) lasts
    where
      by : (b : Bool)
          → (if b then record opened_control { table = table_after; track = track_after_take control.track indication } else ended (record { 0 = instant_passed }) opened_control).ends ≡ None
          → P (if b then record opened_control { table = table_after; track = track_after_take control.track indication } else ended (record { 0 = instant_passed }) opened_control).table
      by true = λ lasts. h
      by false = λ lasts. some_none (record { 0 = instant_passed }) _ lasts

  pub took_table_if : ((outcome_of control.table quiet (Known ctrl)).step.ends ≡ None → P table_after)
      → (took (Known ctrl) slot quiet opened_control).ends ≡ None → P (took (Known ctrl) slot quiet opened_control).table
  took_table_if h =
      took_goes (λ k. k.ends ≡ None → P k.table) opened_control (Known ctrl) slot quiet (λ e. λ lasts. some_none e _ lasts)
      (λ room. λ goes. by_indication (indicated_by (outcome_of control.table quiet (Known ctrl)).step.effect) (h goes))

  took_table : P table_after → (took (Known ctrl) slot quiet opened_control).ends ≡ None → P (took (Known ctrl) slot quiet opened_control).table
  took_table h = took_table_if (λ goes. h)

-- ---- the encryption goes on

abbrev pub is_going_on : Ctrl → Bool
is_going_on (EncRsp skd_s iv_s) = true
is_going_on StartEncReq = true
is_going_on PauseEncRsp = true
is_going_on ctrl = false

going_on : (p : Progress) (f : TableFacts) (ctrl : Ctrl) → is_going_on ctrl ≡ true → role_of p ≡ central_role
    → ((taken_by p f false ctrl).progress ≡ f.progress) × ((taken_by p f false ctrl).reply ≡ no_reply)
going_on (central x) f (EncRsp skd_s iv_s) is role = (refl, refl)
going_on (central x) f StartEncReq is role = (refl, refl)
going_on (central x) f PauseEncRsp is role = (refl, refl)
going_on (central x) f ctrl is role = absurd (cc)
going_on (peripheral x) f ctrl is role = absurd (cc)

module _ (control : Control) (ctrl : Ctrl) (slot : ℕ) (role : role_of control.table.progress ≡ central_role) (apart : is_terminate ctrl ≡ false) where
  abbrev f : TableFacts
  f = control.table

  abbrev o : Outcome
  o = outcome_of f false (Known ctrl)

  pub goes_on_same : is_going_on ctrl ≡ true → (took (Known ctrl) slot false (record control { ends = None })).ends ≡ None
      → SameTable f (took (Known ctrl) slot false (record control { ends = None })).table
  goes_on_same is =
      let h = going_on f.progress f ctrl is role in
      took_table control ctrl slot false (SameTable f)
      (record {
        progress = h.0;
        queue = ap (λ (r : Reply). with_reply f.closing r f.queue) h.1;
        closing = keeps_open f false ctrl apart f.closing;
      })

-- ---- the encryption is over

pub record OverTable (f g : TableFacts) : Type 0 where
  pub role : role_of g.progress ≡ role_of f.progress
  pub over : has_encryption g.progress ≡ false
  pub queue : g.queue ≡ f.queue
  pub closing : g.closing ≡ f.closing

without_none : (p : Progress) → role_of p ≡ central_role → has_encryption (without_own p) ≡ false
without_none (central x) role = refl
without_none (peripheral x) role = absurd (cc)

first_sent : (p : Progress) → role_of p ≡ central_role → has_encryption p ≡ true → is_encryption_unsent p ≡ false → first_opcode p ≡ Some 3
first_sent (central x) role is sent = by x.own is sent
  where
    by : (own : OwnCentral) → is_own_encryption own ≡ true → is_encryption_unsent_at own ≡ false → opcode_at_central own ≡ Some 3
    by EncryptSent is sent = refl
    by EncryptUnsent is sent = absurd (cc)
    by own is sent = absurd (cc)
first_sent (peripheral x) role is sent = absurd (cc)

refused_over : (f : TableFacts) (is_one : Bool) (code : ErrCode) → is_one ≡ true → role_of f.progress ≡ central_role
    → (has_encryption (refused_if is_one f code).progress ≡ false) × ((refused_if is_one f code).reply ≡ no_reply)
refused_over f true code is role = (without_none f.progress role, refl)
refused_over f false code is role = absurd (cc)

is_refusal : (b : Bool) → ◌≡◌ {A = PduClass} (if b then Refusal else Other) Refusal → b ≡ true
is_refusal true h = refl
is_refusal false h = absurd (cc)

or_true : (a b : Bool) → a ≡ true → (a || b) ≡ true
or_true true b h = refl
or_true false b h = absurd (cc)

secured_over : (f : TableFacts) (p : Progress) (b : Bool) → b ≡ true
    → (has_encryption (with_effect (Cipher StartEncRsp) (if b then with_done Encrypt (moved f p) else unchanged f)).progress ≡ has_encryption p)
    × ((with_effect (Cipher StartEncRsp) (if b then with_done Encrypt (moved f p) else unchanged f)).reply ≡ no_reply)
secured_over f p true is = (refl, refl)
secured_over f p false is = absurd (cc)

over_refused : (p : Progress) (f : TableFacts) (ctrl : Ctrl) → role_of p ≡ central_role → role_of f.progress ≡ central_role → has_encryption f.progress ≡ true
    → is_encryption_unsent f.progress ≡ false → ctrl_class ctrl ≡ Refusal
    → (has_encryption (taken_by p f false ctrl).progress ≡ false) × ((taken_by p f false ctrl).reply ≡ no_reply)
over_refused (central x) f (RejectInd code) role here is sent class =
    refused_over f (is_some (first_opcode f.progress)) (record { 0 = code }) (ap is_some (first_sent f.progress here is sent)) here
over_refused (central x) f (RejectExtInd opcode code) role here is sent class =
    let named : opcode ≡ 3 = eqb-true opcode 3 (is_refusal (opcode == 3) class) in
    refused_over f (is_opcode (first_opcode f.progress) opcode || is_opcode (later_opcode f.progress) opcode) (record { 0 = code })
    (or_true _ _ (ap (λ own. is_opcode own opcode) (first_sent f.progress here is sent) ∙ ap (λ (n : ℕ). 3 == n) named)) here
over_refused (central x) f ctrl role here is sent class = absurd (cc)
over_refused (peripheral x) f ctrl role here is sent class = absurd (cc)

over_secured : (p : Progress) (f : TableFacts) → role_of p ≡ central_role → has_encryption p ≡ true
    → (has_encryption (taken_by p f false StartEncRsp).progress ≡ false) × ((taken_by p f false StartEncRsp).reply ≡ no_reply)
over_secured (central x) f role is = secured_over f (central (record x { own = exclusive Idle })) (is_own_encryption x.own) is
over_secured (peripheral x) f role is = absurd (cc)

module _ (control : Control) (ctrl : Ctrl) (slot : ℕ) (role : role_of control.table.progress ≡ central_role) (apart : is_terminate ctrl ≡ false) where
  over_by : (has_encryption (outcome_of control.table false (Known ctrl)).progress ≡ false) × ((outcome_of control.table false (Known ctrl)).reply ≡ no_reply)
      → (took (Known ctrl) slot false (record control { ends = None })).ends ≡ None
      → OverTable control.table (took (Known ctrl) slot false (record control { ends = None })).table
  over_by h =
      took_table control ctrl slot false (OverTable control.table)
      (record {
        role = (table_took control.table false (Known ctrl)).role;
        over = h.0;
        queue = ap (λ (r : Reply). with_reply control.table.closing r control.table.queue) h.1;
        closing = keeps_open control.table false ctrl apart control.table.closing;
      })

  pub refusal_over : has_encryption control.table.progress ≡ true → is_encryption_unsent control.table.progress ≡ false → ctrl_class ctrl ≡ Refusal
      → (took (Known ctrl) slot false (record control { ends = None })).ends ≡ None
      → OverTable control.table (took (Known ctrl) slot false (record control { ends = None })).table
  refusal_over is sent class = over_by (over_refused control.table.progress control.table ctrl role role is sent class)

pub secured_table : (control : Control) (slot : ℕ) → role_of control.table.progress ≡ central_role → has_encryption control.table.progress ≡ true
    → (took (Known StartEncRsp) slot false (record control { ends = None })).ends ≡ None
    → OverTable control.table (took (Known StartEncRsp) slot false (record control { ends = None })).table
secured_table control slot role is = over_by control StartEncRsp slot role refl (over_secured control.table.progress control.table role is)
