-- A central sees in what the procedures give whether they read a PDU as the refusal of its encryption.
use Rattle.std.proofs.Common.{◌≡◌, ℕ, Bool, true, false, not, ◌||◌, if◌then◌else◌, Option, Some, None, is_none, is_some, refl, sym, ap, ◌∙◌}
use Rattle.ble_base.specs.declared.error_codes.ErrCode.{ErrCode}
use Rattle.ble_base.specs.declared.roles.Role.{Role}
use Rattle.ble_base.specs.declared.roles.Role.TheVariants.{Central, Peripheral}
use Rattle.data_pdu.specs.declared.ctrl.Ctrl.{Ctrl}
use Rattle.data_pdu.specs.declared.ctrl.Ctrl.TheVariants.{RejectExtInd, RejectInd}
use Rattle.data_pdu.specs.declared.ctrl.CtrlRead.TheVariants.{Known}
use Rattle.enc_phase.specs.declared.classes.PduClass.TheVariants.{Refusal}
use Rattle.enc_phase.specs.declared.facts.PhaseFacts.{PhaseFacts}
use Rattle.enc_phase.specs.declared.facts.PhaseFacts.TheVariants.{Clear, Secure}
use Rattle.enc_phase.specs.Taking.{ctrl_class, is_unknown}
use Rattle.instants.specs.declared.indications.Indication.{Indication}
use Rattle.procedures.specs.procedure_stages.declared.stages.Central.{Central as TheCentral}
use Rattle.procedures.specs.procedure_stages.declared.stages.OwnCentral.{OwnCentral}
use Rattle.procedures.specs.procedure_stages.declared.stages.OwnCentral.TheVariants.{EncryptSent, EncryptUnsent}
use Rattle.procedures.specs.procedure_stages.declared.stages.Progress.{Progress}
use Rattle.procedures.specs.procedure_stages.declared.stages.Progress.TheVariants.{Central as central, Peripheral as peripheral}
use Rattle.procedures.specs.procedure_stages.declared.steps.Step.{Step as TableStep}
use Rattle.procedures.specs.procedure_stages.Awaited.{is_own_encryption}
use Rattle.procedures.specs.procedure_stages.Kinds.{role_of}
use Rattle.procedures.specs.procedure_stages.Opcodes.{enc_req_opcode, is_opcode}
use Rattle.procedures.specs.declared.outcome.Outcome.{Outcome}
use Rattle.procedures.specs.Refusals.{refused_if}
use Rattle.procedures.specs.Table.{TableFacts}
use Rattle.procedures.specs.Taking.{facts_with, lacks_room, no_room, outcome_of, settled, took_step}
use Rattle.control_part.specs.control_end.control_model.Control.{Control, Takes, after, indicated_by, taken}
use Rattle.control_part.specs.control_end.Answers.{nothing_taken, step_shown, taken_of}
use Rattle.control_part.specs.control_end.Held.{Held, control_of, held_after as control_after}
use Rattle.keyed_control.specs.phased_control.table_laws.Encrypting.{has_encryption}
use Rattle.keyed_control.proofs.phased_control.Tables.{takes_as}
use Rattle.phased_end.specs.Taking.{is_refused}

abbrev SaysSo : Outcome → Type 0
SaysSo o = is_refused o.step.refused ≡ not (has_encryption o.progress)

abbrev at_own : TableFacts → TheCentral → OwnCentral → TableFacts
at_own f c own = record f { progress = central (record c { own = own }) }

sent_refused : (f : TableFacts) (c : TheCentral) (code : ErrCode) (b : Bool) → SaysSo (refused_if b (at_own f c EncryptSent) code)
sent_refused f c code true = refl
sent_refused f c code false = refl

unsent_refused : (f : TableFacts) (c : TheCentral) (code : ErrCode) (b : Bool) → b ≡ false → SaysSo (refused_if b (at_own f c EncryptUnsent) code)
unsent_refused f c code true is = absurd (cc)
unsent_refused f c code false is = refl

own_refused : (f : TableFacts) (c : TheCentral) (own : OwnCentral) (quiet : Bool) (ctrl : Ctrl) → is_own_encryption own ≡ true → ctrl_class ctrl ≡ Refusal
    → SaysSo (outcome_of (at_own f c own) quiet (Known ctrl))
own_refused f c EncryptSent quiet (RejectInd code) is class = refl
own_refused f c EncryptSent quiet (RejectExtInd opcode code) is class =
    sent_refused f c (record { 0 = code }) (is_opcode (Some enc_req_opcode) opcode || false)
own_refused f c EncryptSent quiet ctrl is class = absurd (cc)
own_refused f c EncryptUnsent quiet (RejectInd code) is class = refl
own_refused f c EncryptUnsent quiet (RejectExtInd opcode code) is class = refl
own_refused f c EncryptUnsent quiet ctrl is class = absurd (cc)
own_refused f c own quiet ctrl is class = absurd (cc)

progress_refused : (f : TableFacts) (p : Progress) (quiet : Bool) (ctrl : Ctrl) → role_of p ≡ Central → has_encryption p ≡ true → ctrl_class ctrl ≡ Refusal
    → SaysSo (outcome_of (record f { progress = p }) quiet (Known ctrl))
progress_refused f (central c) quiet ctrl role is class = own_refused f c c.own quiet ctrl is class
progress_refused f (peripheral p) quiet ctrl role is class = absurd (cc)

none_some : {X : Type 0} (code : ErrCode) → ◌≡◌ {A = Option ErrCode} (Some code) None → X
none_some code e = absurd (cc)

settled_refused : (f : TableFacts) (slot : ℕ) (o : Outcome) → SaysSo o → (settled f slot o).1.ends ≡ None
    → is_refused (settled f slot o).1.refused ≡ not (has_encryption (settled f slot o).0.progress)
settled_refused f slot o says = by (lacks_room f o) o.step.ends refl
  where
    of : Bool → Bool → TableFacts × TableStep
    of a b = (if a then (f, no_room) else (if b then (f, o.step) else (facts_with f slot o, o.step)))

    by : (a : Bool) (ends : Option ErrCode) → o.step.ends ≡ ends → (of a (is_some ends)).1.ends ≡ None
        → is_refused (of a (is_some ends)).1.refused ≡ not (has_encryption (of a (is_some ends)).0.progress)
    by true ends is lasts = absurd (cc)
    by false (Some code) is lasts = none_some code (sym is ∙ lasts)
    by false None is lasts = says

table_lasts : (f : TableFacts) (ends : Option ErrCode) (indication : Option Indication) (c : Control) → (taken f ends indication c).ends ≡ None → ends ≡ None
table_lasts f (Some code) indication c lasts = absurd (cc)
table_lasts f None indication c lasts = refl

module _ (ctrl : Ctrl) (slot : ℕ) (quiet : Bool) (h : Held) where
  abbrev c : Control
  c = record (control_of h) { ends = None }

  abbrev d : Control
  d = after (Takes (Known ctrl) slot quiet) c

  -- at an end that did not end the link before, and does not by it
  abbrev IsSeen : Held → Type 0
  IsSeen k =
      (control_after (Takes (Known ctrl) slot quiet) k).ends ≡ None
      → is_refused (taken_of (Known ctrl) slot quiet k).refused ≡ not (has_encryption (control_after (Takes (Known ctrl) slot quiet) k).table.progress)

  pub refusal_is_seen : role_of h.table.progress ≡ Central → has_encryption h.table.progress ≡ true → ctrl_class ctrl ≡ Refusal → IsSeen (record h { ends = None })
  refusal_is_seen role has class lasts =
      let r = took_step h.table (Known ctrl) slot quiet in
      let o = outcome_of h.table quiet (Known ctrl) in
      let says : SaysSo o = progress_refused h.table h.table.progress quiet ctrl role has class in
      let over : r.1.ends ≡ None = table_lasts r.0 r.1.ends (indicated_by r.1.effect) c lasts in
      let table : d.table ≡ r.0 = (takes_as (Known ctrl) slot quiet c refl).goes lasts in
      ap (λ (b : Bool). is_refused (if b then step_shown r.1 else nothing_taken).refused) (ap (λ (ends : Option ErrCode). is_none ends) lasts)
      ∙ settled_refused h.table slot o says over ∙ ap (λ (f : TableFacts). not (has_encryption f.progress)) (sym table)

-- a refusal has a meaning at each end
pub refusal_is_known : (phase : PhaseFacts) (role : Role) → is_unknown phase role Refusal ≡ false
refusal_is_known Clear Central = refl
refusal_is_known Clear Peripheral = refl
refusal_is_known Secure Central = refl
refusal_is_known Secure Peripheral = refl
refusal_is_known phase role = refl
