-- What sending and taking a PDU does to the exchanges of an end.
use Rattle.std.proofs.Common.{◌≡◌, ℕ, ◌==◌, Bool, true, false, ◌||◌, if◌then◌else◌, Option, Some, None, is_none, is_some, refl, ap, sym, ◌∙◌}
use Rattle.ble_base.specs.ErrorCodes.{mic_failure}
use Rattle.ble_base.specs.declared.error_codes.ErrCode.{ErrCode}
use Rattle.ble_base.specs.declared.roles.Role.{Role}
use Rattle.ble_base.specs.declared.roles.Role.TheVariants.{Central, Peripheral}
use Rattle.data_pdu.specs.declared.ctrl.Ctrl.{Ctrl}
use Rattle.data_pdu.specs.declared.ctrl.Ctrl.TheVariants.{ConnectionParamReq, LengthReq, PeripheralFeatureReq, PhyReq, RejectExtInd, VersionInd}
use Rattle.data_pdu.specs.declared.ctrl.CtrlRead.{CtrlRead}
use Rattle.data_pdu.specs.declared.ctrl.CtrlRead.TheVariants.{Known}
use Rattle.joint_controls.specs.enc_phase.declared.classes.PduClass.TheVariants.{Data, Other, Refusal, Request}
use Rattle.joint_controls.specs.enc_phase.Taking.{allows, ctrl_class, is_unknown}
use Rattle.instants.specs.declared.indications.Indication.{Indication}
use Rattle.instants.specs.Track.{event_of, track_after_take}
use Rattle.exchange_steps.specs.procedure_values.declared.drafts.Outgoing.{Outgoing}
use Rattle.exchange_steps.specs.procedure_stages.declared.stages.Progress.{Progress}
use Rattle.exchange_steps.specs.procedure_stages.declared.stages.Progress.TheVariants.{Central as central, Peripheral as peripheral}
use Rattle.exchange_steps.specs.procedure_stages.Kinds.{role_of}
use Rattle.exchange_steps.specs.procedures.Calls.{sends as sends_call, takes as takes_call}
use Rattle.exchange_steps.specs.procedures.Table.{TableFacts}
use Rattle.exchange_steps.specs.procedures.Taking.{took_step}
use Rattle.exchange_steps.specs.Ends.{ExchangeEnds, ends_of}
use Rattle.exchange_steps.specs.Steps.{after_steps, step_of_ctrl, step_of_read, step_of_sent}
use Rattle.exchange_steps.proofs.Calls.{each_call}
use Rattle.joint_controls.specs.control_model.Control.{Control, Sends as control_sends, Takes as control_takes, after, ended, following, goes_out, indicated_by, is_to_come, moved, taken, went}
use Rattle.joint_controls.specs.phased_control.Phased.{Phased, is_quiet_now, with_step}
use Rattle.joint_controls.specs.phased_control.Taken.{Response, answered_kept, ciphered, ended_with, is_version as is_version_read, role_now, seen_as, seen_if, took_data}
use Rattle.joint_controls.specs.Joint.{next_out}
use Rattle.joint_exchanges.specs.Moves.{is_some_version}
use Rattle.joint_exchanges.specs.Parts.{AnyPdu, exchanges_at, pdu_of_first, pdu_of_outgoing}
use Rattle.joint_exchanges.proofs.Ciphered.{ciphered_keeps}
use Rattle.joint_exchanges.proofs.EndSteps.{Makes, after_is, makes_none, owed_none, then_none}
use Rattle.joint_exchanges.proofs.Reading.{IsRead, after_taking}
use Rattle.joint_exchanges.proofs.Took.{handed}

-- ---- a PDU is sent

following_table : (role : Role) (indication : Option Indication) (c : Control) → (following role indication c).table ≡ c.table
following_table Central (Some indication) c = refl
following_table Central None c = refl
following_table Peripheral indication c = refl

pub sends_makes : (slot : ℕ) (s : Phased) → s.control.ends ≡ None → goes_out (is_quiet_now s) s.control ≡ true
    → Makes (step_of_sent (next_out s)) s (with_step (control_sends slot (is_quiet_now s)) s)
sends_makes slot s lasts goes =
    record {
      ends = ap (λ (c : Control). ends_of c.table) (after_is (control_sends slot (is_quiet_now s)) s.control lasts) ∙ by (goes_out (is_quiet_now s) s.control) goes;
      knows = refl;
      kept = refl;
    }
  where
    c : Control
    c = s.control

    by : (b : Bool) → b ≡ true
        → ends_of (if b then following (role_of c.table.progress) (went slot (is_quiet_now s) c).1 (record c { table = (went slot (is_quiet_now s) c).0 }) else c).table
        ≡ after_steps (step_of_sent (next_out s)) (exchanges_at s)
    by true is =
        ap ends_of (following_table (role_of c.table.progress) (went slot (is_quiet_now s) c).1 (record c { table = (went slot (is_quiet_now s) c).0 }))
        ∙ each_call c.table (sends_call (event_of c.track) c.track.params.latency (is_quiet_now s) slot)
    by false is = absurd (cc)

-- ---- the procedures see a PDU, and the link does not end

pub took_steps : (read : CtrlRead) (slot : ℕ) (quiet : Bool) (c : Control) → c.ends ≡ None → (after (control_takes read slot quiet) c).ends ≡ None
    → ends_of (after (control_takes read slot quiet) c).table ≡ after_steps (step_of_read c.table.progress read) (ends_of c.table)
took_steps read slot quiet c lasts goes =
    ap (λ (d : Control). ends_of d.table) same
    ∙ by (took_step c.table read slot quiet).1.ends (indicated_by (took_step c.table read slot quiet).1.effect) refl (ap (λ (d : Control). d.ends) (sym same) ∙ goes)
  where
    same : after (control_takes read slot quiet) c ≡ moved (control_takes read slot quiet) c
    same = after_is (control_takes read slot quiet) c lasts

    g : TableFacts
    g = (took_step c.table read slot quiet).0

    steps : (took_step c.table read slot quiet).1.ends ≡ None → ends_of g ≡ after_steps (step_of_read c.table.progress read) (ends_of c.table)
    steps none =
        each_call c.table (takes_call read slot quiet)
        ∙ ap (λ (ends : Option ErrCode). after_steps (if is_some ends then None else step_of_read c.table.progress read) (ends_of c.table)) none

    come : (b : Bool) (indication : Indication) → (took_step c.table read slot quiet).1.ends ≡ None
        → (if b then record c { table = g; track = track_after_take c.track indication } else ended (record { 0 = 0x28 }) c).ends ≡ None
        → ends_of (if b then record c { table = g; track = track_after_take c.track indication } else ended (record { 0 = 0x28 }) c).table
        ≡ after_steps (step_of_read c.table.progress read) (ends_of c.table)
    come true indication none h = steps none
    come false indication none h = absurd (cc)

    by : (ends : Option ErrCode) (indication : Option Indication) → (took_step c.table read slot quiet).1.ends ≡ ends → (taken g ends indication c).ends ≡ None
        → ends_of (taken g ends indication c).table ≡ after_steps (step_of_read c.table.progress read) (ends_of c.table)
    by (Some code) indication is h = absurd (cc)
    by None None is h = steps is
    by None (Some indication) is h = come (is_to_come c.track indication) indication is h

-- an end whose step did not end the link had not ended it before
pub lasted : (read : CtrlRead) (slot : ℕ) (quiet : Bool) (c : Control) → (after (control_takes read slot quiet) c).ends ≡ None → c.ends ≡ None
lasted read slot quiet c goes = by c.ends refl goes
  where
    by : (ends : Option ErrCode) → c.ends ≡ ends → (if is_none ends then moved (control_takes read slot quiet) c else c).ends ≡ None → c.ends ≡ None
    by None is h = is
    by (Some code) is h = h

-- ---- a PDU of an exchange, or of another procedure, is taken

pub record TakesOf (pdu : Option AnyPdu) (s t : Phased) : Type 0 where
  pub ends : exchanges_at t ≡ after_taking pdu (exchanges_at s)
  pub knows : t.knows_version ≡ (s.knows_version || is_some_version pdu)

seen_steps : (f : TableFacts) (outgoing : Outgoing) (ctrl : Ctrl) (b : Bool) → IsRead f outgoing ctrl → (b ≡ true → pdu_of_outgoing outgoing ≡ None)
    → after_steps (step_of_read f.progress (seen_if b (Known ctrl))) (ends_of f) ≡ after_taking (pdu_of_outgoing outgoing) (ends_of f)
seen_steps f outgoing ctrl true read none = ap (λ x. after_taking x (ends_of f)) (sym (none refl))
seen_steps f outgoing ctrl false read none = read.steps

module _ (role : Role) (slot : ℕ) (response : Response) (ctrl : Ctrl) (outgoing : Outgoing) (s : Phased) where
  abbrev h : Phased
  h = handed slot (Known ctrl) s

  pub handed_takes : IsRead s.control.table outgoing ctrl → s.control.ends ≡ None → h.control.ends ≡ None → TakesOf (pdu_of_outgoing outgoing) s h
  handed_takes read lasts goes =
      record {
        ends = took_steps (seen_as (Known ctrl) s) slot (is_quiet_now s) s.control lasts goes
            ∙ seen_steps s.control.table outgoing ctrl (is_unknown s.phase (role_now s) (ctrl_class ctrl)) read (read.unknown s.phase (role_now s));
        knows = ap (λ x. s.knows_version || x) read.version;
      }

  -- the phase adds nothing to the exchanges
  pub ciphered_none : role_now h ≡ role → Makes None h (ciphered response (Known ctrl) h)
  ciphered_none r =
      ciphered_keeps role (λ t. Makes None h t)
      (record {
        owes = λ owed t is none m. then_none None h t _ m (owed_none owed t none);
        phases = λ phase t m. record { ends = m.ends; knows = m.knows; kept = m.kept };
        keys = λ is asks t m. record { ends = m.ends; knows = m.knows; kept = m.kept };
      })
      response (Known ctrl) h r (makes_none h)

-- ---- what was kept is taken

first_read : (p : Progress) (ctrl : Ctrl) (e : ExchangeEnds) → role_of p ≡ Central → ctrl_class ctrl ≡ Request
    → after_steps (step_of_ctrl p ctrl) e ≡ after_taking (pdu_of_first ctrl) e
first_read (central c) (VersionInd version company sub) e r is = refl
first_read (central c) (PeripheralFeatureReq features) e r is = refl
first_read (central c) (ConnectionParamReq min max latency timeout periodicity reference offsets) e r is = refl
first_read (central c) (LengthReq rx rx_time tx tx_time) e r is = refl
first_read (central c) (PhyReq tx rx) e r is = refl
first_read (central c) (RejectExtInd opcode code) e r is = absurd (by (opcode == 3) is)
  where
    by : (b : Bool) → (if b then Refusal else Other) ≡ Request → ⊥
    by true is = cc
    by false is = cc
first_read (central c) ctrl e r is = absurd (cc)
first_read (peripheral p) ctrl e r is = absurd (cc)

first_version : (ctrl : Ctrl) → is_version_read (Known ctrl) ≡ is_some_version (pdu_of_first ctrl)
first_version (VersionInd version company sub) = refl
first_version (PeripheralFeatureReq features) = refl
first_version (LengthReq rx rx_time tx tx_time) = refl
first_version ctrl = refl

pub kept_takes : (slot : ℕ) (ctrl : Ctrl) (v : Phased) → role_of v.control.table.progress ≡ Central → ctrl_class ctrl ≡ Request
    → (answered_kept slot (Some ctrl) v).control.ends ≡ None → TakesOf (pdu_of_first ctrl) v (answered_kept slot (Some ctrl) v)
kept_takes slot ctrl v r class goes =
    record {
      ends = took_steps (Known ctrl) slot true v.control (lasted (Known ctrl) slot true v.control goes) goes ∙ first_read v.control.table.progress ctrl _ r class;
      knows = ap (λ x. v.knows_version || x) (first_version ctrl);
    }

-- ---- data leaves an end

pub data_same : (s : Phased) → (took_data s).control.ends ≡ None → took_data s ≡ s
data_same s goes = by (allows s.phase (role_now s) Data) goes
  where
    by : (b : Bool) → (if b then s else ended_with mic_failure s).control.ends ≡ None → (if b then s else ended_with mic_failure s) ≡ s
    by true h = refl
    by false h = absurd (cc)
