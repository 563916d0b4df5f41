-- The host of a central is asked about a request only in Clear and Secure.
use Rattle.std.proofs.Common.{◌≡◌, ℕ, Bool, true, false, not, ◌&&◌, List, [], ◌∷◌, Option, Some, None, is_some, refl, ap, sym, subst, ◌∙◌}
use Rattle.std.specs.Prelude.{⊤}
use Rattle.std.proofs.lemmas.Bool.{and_parts}
use Rattle.ble_base.specs.declared.error_codes.ErrCode.{ErrCode}
use Rattle.ble_base.specs.declared.roles.Role.{Role}
use Rattle.ble_base.specs.declared.roles.Role.TheVariants.{Central}
use Rattle.data_pdu.specs.declared.ctrl.Ctrl.{Ctrl}
use Rattle.data_pdu.specs.declared.ctrl.Ctrl.TheVariants.{ConnectionParamReq, PhyReq as phy_pdu}
use Rattle.data_pdu.specs.declared.ctrl.CtrlRead.{CtrlRead}
use Rattle.joint_parameters.specs.enc_phase.declared.classes.PduClass.TheVariants.{Request}
use Rattle.data_pdu.specs.declared.ctrl.CtrlRead.TheVariants.{Bare, Known, Unknown}
use Rattle.instants.specs.declared.indications.Params.{Params}
use Rattle.instants.specs.Track.{event_of, next_number}
use Rattle.joint_parameters.specs.procedure_values.Drafts.{is_out}
use Rattle.joint_parameters.specs.procedure_stages.Closing.{is_open}
use Rattle.exclusive_stages.specs.declared.stages.PeerAtCentral.{PeerAtCentral}
use Rattle.exclusive_stages.specs.declared.stages.PeerAtCentral.TheVariants.{HostAsked}
use Rattle.exclusive_stages.specs.Kinds.{has_peer_at_central, is_host_asked_at_central}
use Rattle.joint_parameters.specs.procedure_stages.declared.stages.Progress.{Progress}
use Rattle.joint_parameters.specs.procedure_stages.declared.stages.Progress.TheVariants.{Central as central, Peripheral as peripheral}
use Rattle.joint_parameters.specs.procedure_stages.InProgress.{has_peer, is_host_asked}
use Rattle.joint_parameters.specs.procedure_stages.Kinds.{role_of}
use Rattle.joint_parameters.specs.procedures.Going.{is_answer}
use Rattle.joint_parameters.specs.procedures.Queue.{next_of}
use Rattle.joint_parameters.specs.procedures.Table.{TableFacts}
use Rattle.joint_parameters.specs.table_laws.Encrypting.{has_encryption}
use Rattle.joint_parameters.specs.control_model.Control.{Control, Step, after, after_all, goes_out, moved, table_if, went}
use Rattle.joint_parameters.specs.control_model.Control.{Answers as control_answers, Asks as control_asks, Disconnects as control_disconnects, Enters as control_enters, Owes, SeesAcknowledged as control_sees_acknowledged, Sends as control_sends, Takes as control_takes}
use Rattle.joint_parameters.proofs.control_model.Calls.{any_step, either_way}
use Rattle.joint_parameters.specs.phased_control.Phased.{Phased, first_phased, is_quiet_now}
use Rattle.joint_parameters.specs.phased_control.Taken.{PhasedStep, Response, Answers, Asks, Disconnects, Enters, GivesKey, LacksKey, SeesAcknowledged, Sends, Takes, TakesData, answered_kept, ciphered, does_keep, keeps_class, phased_after, phased_after_all, role_now, seen_as, seen_if, took}
use Rattle.joint_parameters.specs.phased_control.Steps.{control_steps, end_by_phase, ended_if, owed_steps, read_answer, seen_by_procedures}
use Rattle.joint_parameters.proofs.phased_control.Agreeing.{Agrees, Sound, agrees_after, agrees_first, agrees_taking, lasts_answered, sound_after, sound_first}
use Rattle.joint_parameters.proofs.phased_control.Answering.{answers}
use Rattle.joint_parameters.proofs.phased_control.Moving.{moves_by_steps, open_phased, same_after}
use Rattle.joint_parameters.proofs.control_model.Moving.{same_role}
use Rattle.joint_parameters.proofs.phased_control.Tables.{following_table, takes_as}
use Rattle.joint_parameters.proofs.phased_control.Taking.{handed_ways, took_ways}
use Rattle.joint_laws.proofs.PeerOrEncryption.{acked_none, answers_none, enters_none, given_none, is_both, is_exclusive_first, parts_of_both, sends_none, takes_none}

abbrev NoneOf : Control → Type 0
NoneOf c = is_both c.table.progress ≡ false

abbrev NoneNow : Phased → Type 0
NoneNow s = NoneOf s.control

-- ---- the steps of procedures but for a PDU that is taken

abbrev pub IsPlain : Step → Type 0
IsPlain (control_takes read slot quiet) = ⊥
IsPlain step = ⊤

none_if : (b : Bool) (g : TableFacts) (c : Control) → NoneOf c → (b ≡ true → is_both g.progress ≡ false) → NoneOf (table_if b g c)
none_if true g c none next = next refl
none_if false g c none next = none

none_moved : (step : Step) (c : Control) → IsPlain step → NoneOf c → NoneOf (moved step c)
none_moved (control_enters slot quiet) c plain none = enters_none c.table slot quiet (is_some (next_number c.track)) none
none_moved (control_asks ask) c plain none = none
none_moved (control_answers answer) c plain none = none_if (is_host_asked c.table.progress && is_answer answer) _ c none (λ is. answers_none c.table answer none (and_parts (is_host_asked c.table.progress) (is_answer answer) is).0)
none_moved (control_disconnects reason) c plain none = none_if (is_open c.table.closing) _ c none (λ is. none)
none_moved (control_sends slot quiet) c plain none =
    either_way NoneOf (goes_out quiet c) _ c
    (ap (λ (f : TableFacts). is_both f.progress) (following_table (role_of c.table.progress) (went slot quiet c).1 (record c { table = (went slot quiet c).0 }))
    ∙ sends_none (next_of c.table (event_of c.track) quiet) (event_of c.track) c.track.params.latency c.table.progress none)
    none
none_moved control_sees_acknowledged c plain none = none_if (is_out c.table.out) _ c none (λ is. acked_none c.table.out c.table.progress none)
none_moved (Owes ctrl) c plain none = given_none c.table.progress ctrl none
none_moved (control_takes read slot quiet) c plain none = absurd plain

abbrev pub ArePlain : List Step → Type 0
ArePlain [] = ⊤
ArePlain (step ∷ steps) = IsPlain step × ArePlain steps

none_after : (steps : List Step) (c : Control) → ArePlain steps → NoneOf c → NoneOf (after_all steps c)
none_after [] c plain none = none
none_after (step ∷ steps) c plain none = none_after steps (after step c) plain.1 (any_step NoneOf step c (none_moved step c plain.0 none) none)

pub owed_plain : (owed : Option Ctrl) → ArePlain (owed_steps owed)
owed_plain None = tt
owed_plain (Some ctrl) = (tt, tt)

-- ---- a PDU is taken

first_if : (unknown : Bool) (read : CtrlRead) → is_exclusive_first (seen_if unknown read) ≡ true → is_exclusive_first read ≡ true
first_if true (Known ctrl) is = absurd (cc)
first_if true (Unknown opcode) is = absurd (cc)
first_if true Bare is = absurd (cc)
first_if false read is = is

not_false : (b : Bool) → not b ≡ false → b ≡ true
not_false true is = refl
not_false false is = absurd (cc)

not_true : (a b : Bool) → a ≡ not b → a ≡ true → b ≡ false
not_true a true same is = absurd (cc)
not_true a false same is = refl

-- it is kept outside Clear and Secure
quiet_first : (read : CtrlRead) (s : Phased) → role_now s ≡ Central → is_exclusive_first read ≡ true → does_keep read s ≡ false → is_quiet_now s ≡ true
quiet_first (Known (ConnectionParamReq min max latency timeout periodicity reference offsets)) s role is keeps =
    not_false (is_quiet_now s) (ap (λ (r : Role). keeps_class Request r (is_quiet_now s)) (sym role) ∙ keeps)
quiet_first (Known (phy_pdu tx rx)) s role is keeps =
    not_false (is_quiet_now s) (ap (λ (r : Role). keeps_class Request r (is_quiet_now s)) (sym role) ∙ keeps)
quiet_first read s role is keeps = absurd (cc)

takes_alone : (read : CtrlRead) (slot : ℕ) (quiet : Bool) (c : Control) → c.ends ≡ None → role_of c.table.progress ≡ Central
    → (is_exclusive_first read ≡ true → has_encryption c.table.progress ≡ false) → NoneOf c → NoneOf (after (control_takes read slot quiet) c)
takes_alone read slot quiet c lasts role may none = by (after (control_takes read slot quiet) c).ends refl
  where
    by : (ends : Option ErrCode) → (after (control_takes read slot quiet) c).ends ≡ ends → NoneOf (after (control_takes read slot quiet) c)
    by None is = ap (λ (f : TableFacts). is_both f.progress) ((takes_as read slot quiet c lasts).goes is) ∙ takes_none c.table slot quiet read role may none
    by (Some code) is = ap (λ (f : TableFacts). is_both f.progress) ((takes_as read slot quiet c lasts).ends code is) ∙ none

module _ (slot : ℕ) (response : Response) (read : CtrlRead) (s : Phased) (sound : Sound Central s) (agrees : Agrees s) (lasts : s.control.ends ≡ None) (none : NoneNow s) where
  role : role_now s ≡ Central
  role = sound.tied.is_role

  t : Phased
  t = seen_by_procedures read slot s

  seen_none : does_keep read s ≡ false → NoneOf (seen_by_procedures read slot s).control
  seen_none keeps =
      takes_alone (seen_as read s) slot (is_quiet_now s) s.control lasts role
      (λ is. not_true (is_quiet_now s) (has_encryption s.control.table.progress) agrees (quiet_first read s role (first_if _ read is) keeps)) none

  answered_none : does_keep read s ≡ false → NoneOf (ciphered response read (seen_by_procedures read slot s)).control
  answered_none keeps =
      subst (λ (u : Phased). NoneOf u.control) (sym (answers (seen_by_procedures read slot s) response read))
      (none_after (owed_steps (read_answer (role_now (seen_by_procedures read slot s)) response read (seen_by_procedures read slot s).phase)) (seen_by_procedures read slot s).control (owed_plain _) (seen_none keeps))

  kept_none : (kept : Option Ctrl) (u : Phased) → u.control.ends ≡ None → role_now u ≡ Central → has_encryption u.control.table.progress ≡ false → NoneOf u.control
      → NoneOf (answered_kept slot kept u).control
  kept_none None u goes there none_now before = before
  kept_none (Some ctrl) u goes there none_now before = takes_alone (Known ctrl) slot true u.control goes there (λ is. none_now) before

  took_none : NoneNow (took slot response read s)
  took_none =
      took_ways NoneNow slot response read s (λ no_way. none) (λ allowed. λ keeps. none) (λ allowed. λ keeps. λ full. none)
      (λ allowed. λ keeps. λ full. handed_ways NoneNow slot response read s (λ code. λ over. seen_none keeps) (λ goes. λ loud. answered_none keeps)
      (λ goes. λ quiet. kept_none (ciphered response read (seen_by_procedures read slot s)).kept (ciphered response read (seen_by_procedures read slot s))
      (lasts_answered response read (seen_by_procedures read slot s) goes)
      (role_answered goes)
      (not_true _ _ (agrees_taking slot response read Central s sound.tied lasts allowed agrees goes) quiet)
      (answered_none keeps)))
    where
      role_answered : (seen_by_procedures read slot s).control.ends ≡ None → role_now (ciphered response read (seen_by_procedures read slot s)) ≡ Central
      role_answered goes =
          subst (λ (u : Phased). role_now u ≡ Central) (sym (answers (seen_by_procedures read slot s) response read))
          (role_all (owed_steps (read_answer (role_now (seen_by_procedures read slot s)) response read (seen_by_procedures read slot s).phase)) (seen_by_procedures read slot s).control
          (same_role Central (control_takes (seen_as read s) slot (is_quiet_now s)) s.control role))
        where
          role_all : (steps : List Step) (c : Control) → role_of c.table.progress ≡ Central → role_of (after_all steps c).table.progress ≡ Central
          role_all [] c is = is
          role_all (step ∷ steps) c is = role_all steps (after step c) (same_role Central step c is)

-- ---- every step

none_phased : (step : PhasedStep) (s : Phased) → s.control.ends ≡ None → ArePlain (control_steps step s) → NoneNow s → NoneNow (phased_after step s)
none_phased step s lasts plain none =
    ap (λ (c : Control). is_both c.table.progress) (moves_by_steps step s lasts) ∙ ended (end_by_phase step s) (after_all (control_steps step s) s.control)
    ∙ none_after (control_steps step s) s.control plain none
  where
    ended : (code : Option ErrCode) (c : Control) → is_both (ended_if code c).table.progress ≡ is_both c.table.progress
    ended None c = refl
    ended (Some code) c = refl

none_open : (step : PhasedStep) (s : Phased) → Sound Central s → Agrees s → s.control.ends ≡ None → NoneNow s → NoneNow (phased_after step s)
none_open (Enters slot) s sound agrees lasts none = none_phased (Enters slot) s lasts (tt, owed_plain _) none
none_open (Asks ask) s sound agrees lasts none = none_phased (Asks ask) s lasts (tt, tt) none
none_open (Answers answer) s sound agrees lasts none = none_phased (Answers answer) s lasts (tt, tt) none
none_open GivesKey s sound agrees lasts none = none_phased GivesKey s lasts (owed_plain _) none
none_open LacksKey s sound agrees lasts none = none_phased LacksKey s lasts (owed_plain _) none
none_open (Disconnects reason) s sound agrees lasts none = none_phased (Disconnects reason) s lasts (tt, tt) none
none_open (Sends slot) s sound agrees lasts none = none_phased (Sends slot) s lasts (tt, tt) none
none_open SeesAcknowledged s sound agrees lasts none = none_phased SeesAcknowledged s lasts (tt, owed_plain _) none
none_open (Takes read slot response) s sound agrees lasts none =
    open_phased NoneNow (Takes read slot response) s lasts (took_none slot response read s sound agrees lasts none)
none_open TakesData s sound agrees lasts none = none_phased TakesData s lasts tt none

none_step : (step : PhasedStep) (s : Phased) → Sound Central s → Agrees s → NoneNow s → NoneNow (phased_after step s)
none_step step s sound agrees none = by s.control.ends refl
  where
    by : (ends : Option ErrCode) → s.control.ends ≡ ends → NoneNow (phased_after step s)
    by None is = none_open step s sound agrees is none
    by (Some code) is = subst NoneNow (sym (same_after step s code is)) none

-- what is known of a central
record IsKnown (s : Phased) : Type 0 where
  sound : Sound Central s
  agrees : Agrees s
  none : NoneNow s

all_known : (steps : List PhasedStep) (s : Phased) → IsKnown s → IsKnown (phased_after_all steps s)
all_known [] s known = known
all_known (step ∷ steps) s known =
    all_known steps (phased_after step s)
    (record {
      sound = sound_after Central step s known.sound;
      agrees = agrees_after Central step s known.sound known.agrees;
      none = none_step step s known.sound known.agrees known.none;
    })

module _ (max_rx : ℕ) (first : Params) (slot : ℕ) (steps : List PhasedStep) where
  abbrev s : Phased
  s = phased_after_all steps (first_phased Central max_rx first slot)

  known : IsKnown s
  known =
      all_known steps (first_phased Central max_rx first slot)
      (record { sound = sound_first Central max_rx first slot; agrees = agrees_first Central max_rx first slot; none = refl })

  -- outside Clear and Secure no procedure of the peripheral that excludes others is in progress
  pub peer_quietly : has_peer s.control.table.progress ≡ true → is_quiet_now s ≡ true
  peer_quietly has = known.agrees ∙ ap not (parts_of_both s.control.table.progress known.none has known.sound.tied.is_role)

  pub asked_quietly : is_host_asked s.control.table.progress ≡ true → is_quiet_now s ≡ true
  asked_quietly asked = peer_quietly (by s.control.table.progress asked)
    where
      stage : (peer : PeerAtCentral) → is_host_asked_at_central peer ≡ true → has_peer_at_central peer ≡ true
      stage HostAsked is = refl
      stage peer is = absurd (cc)

      by : (p : Progress) → is_host_asked p ≡ true → has_peer p ≡ true
      by (central c) is = stage c.peer is
      by (peripheral p) is = absurd (cc)
