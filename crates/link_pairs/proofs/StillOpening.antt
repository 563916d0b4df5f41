-- Which steps of an end leave it opening what is sealed: all but those in which it takes a PDU that pauses the encryption.
use Rattle.std.proofs.Common.{◌≡◌, ◌⊎◌, inl, inr, ℕ, ◌==◌, Bool, true, false, None, refl, ap, ◌∙◌, if◌then◌else◌}
use Rattle.ble_base.specs.declared.roles.Role.{Role}
use Rattle.ble_base.specs.declared.roles.Role.TheVariants.{Central, Peripheral}
use Rattle.data_pdu.specs.declared.ctrl.Ctrl.{Ctrl}
use Rattle.data_pdu.specs.declared.ctrl.Ctrl.TheVariants.{PauseEncReq, PauseEncRsp, RejectExtInd}
use Rattle.data_pdu.specs.declared.ctrl.CtrlRead.TheVariants.{Known}
use Rattle.joint_laws.specs.joint_controls.phased_control.enc_phase.declared.classes.PduClass.{PduClass}
use Rattle.joint_laws.specs.joint_controls.phased_control.enc_phase.declared.classes.PduClass.TheVariants.{EncReq, EncRsp, PauseEncReq as pause_req, PauseEncRsp as pause_rsp, Other, Refusal, Request, StartEncReq, StartEncRsp}
use Rattle.joint_laws.specs.joint_controls.phased_control.enc_phase.declared.facts.PhaseFacts.{PhaseFacts}
use Rattle.joint_laws.specs.joint_controls.phased_control.enc_phase.declared.facts.PhaseFacts.TheVariants.{Asked, Clear, HalfClear, HalfKeyed, Pausing, Secure}
use Rattle.joint_laws.specs.joint_controls.phased_control.enc_phase.declared.facts.Transition.{Transition}
use Rattle.joint_laws.specs.joint_controls.phased_control.enc_phase.declared.facts.Transition.TheVariants.{Ask, Confirm, Pause, Refuse, Unlock}
use Rattle.joint_laws.specs.joint_controls.phased_control.enc_phase.Phases.{is_asked, may_follow, opens, phase_after, phase_starting}
use Rattle.joint_laws.specs.joint_controls.phased_control.enc_phase.Taking.{ctrl_class, phase_taking}
use Rattle.joint_laws.specs.joint_controls.phased_control.PhaseChanges.{Change, Moves, Starts, Stays, Took, answer_change, change_of, changed, first_change, handed_change, may_change, moves_if, starts_if, taken_change}
use Rattle.joint_laws.specs.joint_controls.phased_control.Phased.{Phased}
use Rattle.joint_laws.specs.joint_controls.phased_control.Taken.{Enters, PhasedStep, Response, SeesAcknowledged, Sends, phased_after}
use Rattle.joint_laws.specs.joint_controls.Joint.{AnswersRequest, AsksFor, Control, Data, Ends, HasKey, HasNoKey, HostStep, Item, host_step, taking}
use Rattle.joint_keys.proofs.KeysGoing.{IsAt, changes_at, may_at}

-- LL_PAUSE_ENC_REQ, or LL_PAUSE_ENC_RSP
abbrev pub is_pause : Item → Bool
is_pause (Control outgoing PauseEncReq) = true
is_pause (Control outgoing PauseEncRsp) = true
is_pause item = false

-- ---- a change of the phase

-- after these changes an end may open nothing any more
abbrev is_pausing : Role → Change → Bool
is_pausing Peripheral (Moves Pause) = true
is_pausing role (Moves Unlock) = true
is_pausing role change = false

took_on : (role : Role) (pdu : PduClass) (p : PhaseFacts) → opens role p ≡ true → opens role (phase_taking pdu p) ≡ true
took_on Central EncRsp p is = by p is
  where
    by : (p : PhaseFacts) → opens Central p ≡ true → opens Central (phase_taking EncRsp p) ≡ true
    by (Asked a b c) is = absurd (cc)
    by p is = is
took_on Central Request p is = by p is
  where
    by : (p : PhaseFacts) → opens Central p ≡ true → opens Central (phase_taking Request p) ≡ true
    by (Asked a b c) is = absurd (cc)
    by (Pausing a) is = refl
    by p is = is
took_on Central pdu p is = is
took_on Peripheral EncRsp p is = by p is
  where
    by : (p : PhaseFacts) → opens Peripheral p ≡ true → opens Peripheral (phase_taking EncRsp p) ≡ true
    by (Asked a b c) is = absurd (cc)
    by p is = is
took_on Peripheral Request p is = by p is
  where
    by : (p : PhaseFacts) → opens Peripheral p ≡ true → opens Peripheral (phase_taking Request p) ≡ true
    by (Asked a b c) is = absurd (cc)
    by (Pausing a) is = absurd (cc)
    by p is = is
took_on Peripheral pdu p is = is

starts_on : (role : Role) (p : PhaseFacts) → is_asked p ≡ true → opens role p ≡ true → opens role (phase_starting p) ≡ true
starts_on role (Asked a b c) may is = refl
starts_on role p may is = absurd (cc)

asks_none : (role : Role) (p : PhaseFacts) → may_follow Ask p ≡ true → opens role p ≡ true → ⊥
asks_none Central p may is = by p may is
  where
    by : (p : PhaseFacts) → may_follow Ask p ≡ true → opens Central p ≡ true → ⊥
    by Clear may is = cc
    by (HalfClear kept) may is = cc
    by p may is = cc
asks_none Peripheral p may is = by p may is
  where
    by : (p : PhaseFacts) → may_follow Ask p ≡ true → opens Peripheral p ≡ true → ⊥
    by Clear may is = cc
    by (HalfClear kept) may is = cc
    by p may is = cc

refuses_none : (role : Role) (p : PhaseFacts) → may_follow Refuse p ≡ true → opens role p ≡ true → ⊥
refuses_none Central p may is = by p may is
  where
    by : (p : PhaseFacts) → may_follow Refuse p ≡ true → opens Central p ≡ true → ⊥
    by (Asked a b c) may is = cc
    by p may is = cc
refuses_none Peripheral p may is = by p may is
  where
    by : (p : PhaseFacts) → may_follow Refuse p ≡ true → opens Peripheral p ≡ true → ⊥
    by (Asked a b c) may is = cc
    by p may is = cc

confirms_on : (role : Role) (p : PhaseFacts) → may_follow Confirm p ≡ true → opens role (phase_after Confirm p) ≡ true
confirms_on role HalfKeyed may = refl
confirms_on role p may = absurd (cc)

pauses_on : (p : PhaseFacts) → may_follow Pause p ≡ true → opens Central (phase_after Pause p) ≡ true
pauses_on Secure may = refl
pauses_on p may = absurd (cc)

moved_on : (role : Role) (transition : Transition) (p : PhaseFacts) → may_follow transition p ≡ true → is_pausing role (Moves transition) ≡ false
    → opens role p ≡ true → opens role (phase_after transition p) ≡ true
moved_on role Ask p may still is = absurd (asks_none role p may is)
moved_on role Refuse p may still is = absurd (refuses_none role p may is)
moved_on role Confirm p may still is = confirms_on role p may
moved_on Central Pause p may still is = pauses_on p may
moved_on Peripheral Pause p may still is = absurd (cc)
moved_on Central Unlock p may still is = absurd (cc)
moved_on Peripheral Unlock p may still is = absurd (cc)

changed_on : (role : Role) (change : Change) (p : PhaseFacts) → may_change change p ≡ true → is_pausing role change ≡ false → opens role p ≡ true
    → opens role (changed change p) ≡ true
changed_on role Stays p may still is = is
changed_on role (Took pdu) p may still is = took_on role pdu p is
changed_on role Starts p may still is = starts_on role p may is
changed_on role (Moves transition) p may still is = moved_on role transition p may still is

-- ---- the changes of steps

-- no step of a host pauses
starts_still : (role : Role) (b : Bool) → is_pausing role (starts_if b) ≡ false
starts_still Central true = refl
starts_still Central false = refl
starts_still Peripheral true = refl
starts_still Peripheral false = refl

moves_still : (role : Role) (transition : Transition) (p : PhaseFacts) → is_pausing role (Moves transition) ≡ false → is_pausing role (moves_if transition p) ≡ false
moves_still role transition p still = by role (may_follow transition p) still
  where
    by : (role : Role) (b : Bool) → is_pausing role (Moves transition) ≡ false → is_pausing role (if b then Moves transition else Stays) ≡ false
    by role true still = still
    by Central false still = refl
    by Peripheral false still = refl

refuse_still : (role : Role) → is_pausing role (Moves Refuse) ≡ false
refuse_still Central = refl
refuse_still Peripheral = refl

stays_still : (role : Role) → is_pausing role Stays ≡ false
stays_still Central = refl
stays_still Peripheral = refl

took_still : (role : Role) (pdu : PduClass) → is_pausing role (Took pdu) ≡ false
took_still Central pdu = refl
took_still Peripheral pdu = refl

either_still : (role : Role) (b : Bool) (one other : Change) → is_pausing role one ≡ false → is_pausing role other ≡ false
    → is_pausing role (if b then one else other) ≡ false
either_still role true one other first second = first
either_still role false one other first second = second

host_still : (role : Role) (host : HostStep) (x : Phased) → is_pausing role (change_of (host_step host) x) ≡ false
host_still role (AsksFor ask) x = stays_still role
host_still role (AnswersRequest answer) x = stays_still role
host_still role (Ends reason) x = stays_still role
host_still role HasKey x = starts_still role _
host_still role HasNoKey x = either_still role _ (moves_if Refuse x.phase) Stays (moves_still role Refuse x.phase (refuse_still role)) (stays_still role)

acked_still : (role : Role) (x : Phased) → is_pausing role (change_of SeesAcknowledged x) ≡ false
acked_still Central x = either_still Central _ (Moves Ask) Stays refl refl
acked_still Peripheral x = either_still Peripheral _ (Moves Ask) Stays refl refl

-- a central that begins an encryption still opens
first_still : (p : PhaseFacts) → is_pausing Central (first_change p) ≡ false
first_still Clear = refl
first_still p = refl

enters_still : (slot : ℕ) (x : Phased) → is_pausing Central (change_of (Enters slot) x) ≡ false
enters_still slot x = either_still Central _ (first_change x.phase) Stays (first_still x.phase) refl

-- of PDUs those of a pause alone
abbrev is_pause_class : PduClass → Bool
is_pause_class pause_req = true
is_pause_class pause_rsp = true
is_pause_class pdu = false

answers_still : (role own : Role) (pdu : PduClass) (encrypts : Bool) (p : PhaseFacts) → is_pause_class pdu ≡ false
    → is_pausing role (answer_change own pdu encrypts p) ≡ false
answers_still Central Central StartEncReq encrypts p none = starts_still Central (is_asked p)
answers_still Peripheral Central StartEncReq encrypts p none = starts_still Peripheral (is_asked p)
answers_still Central Central StartEncRsp encrypts p none = moves_still Central Confirm p refl
answers_still Peripheral Central StartEncRsp encrypts p none = moves_still Peripheral Confirm p refl
answers_still Central Central Refusal encrypts p none = either_still Central encrypts Stays (moves_if Refuse p) refl (moves_still Central Refuse p refl)
answers_still Peripheral Central Refusal encrypts p none = either_still Peripheral encrypts Stays (moves_if Refuse p) refl (moves_still Peripheral Refuse p refl)
answers_still Central Central pause_rsp encrypts p none = absurd (cc)
answers_still Peripheral Central pause_rsp encrypts p none = absurd (cc)
answers_still Central Central pdu encrypts p none = refl
answers_still Peripheral Central pdu encrypts p none = refl
answers_still Central Peripheral EncReq encrypts p none = moves_still Central Ask p refl
answers_still Peripheral Peripheral EncReq encrypts p none = moves_still Peripheral Ask p refl
answers_still Central Peripheral StartEncRsp encrypts p none = moves_still Central Confirm p refl
answers_still Peripheral Peripheral StartEncRsp encrypts p none = moves_still Peripheral Confirm p refl
answers_still Central Peripheral pause_req encrypts p none = absurd (cc)
answers_still Peripheral Peripheral pause_req encrypts p none = absurd (cc)
answers_still Central Peripheral pause_rsp encrypts p none = absurd (cc)
answers_still Peripheral Peripheral pause_rsp encrypts p none = absurd (cc)
answers_still Central Peripheral pdu encrypts p none = refl
answers_still Peripheral Peripheral pdu encrypts p none = refl

reject_class : (b : Bool) → is_pause_class (if b then Refusal else Other) ≡ false
reject_class true = refl
reject_class false = refl

taken_still : (role : Role) (ctrl : Ctrl) (slot : ℕ) (x : Phased) → is_pause_class (ctrl_class ctrl) ≡ false
    → is_pausing role (taken_change (Known ctrl) slot x) ≡ false
taken_still role ctrl slot x none =
    either_still role _ _ Stays
    (either_still role _ (Took (ctrl_class ctrl)) _ (took_still role (ctrl_class ctrl))
    (either_still role _ Stays (handed_change (Known ctrl) slot x) (stays_still role)
    (either_still role _ _ (Took (ctrl_class ctrl)) (answers_still role _ (ctrl_class ctrl) _ x.phase none) (took_still role (ctrl_class ctrl)))))
    (stays_still role)

-- ---- an end

module _ (role : Role) (x : Phased) (at : IsAt role x) (lasts : x.control.ends ≡ None) where
  pub steps_on : (step : PhasedStep) → is_pausing role (change_of step x) ≡ false → opens role x.phase ≡ true → opens role (phased_after step x).phase ≡ true
  steps_on step still is =
      ap (opens role) (changes_at role x at lasts step) ∙ changed_on role (change_of step x) x.phase (may_at role x at lasts step) still is

  pub host_on : (host : HostStep) → opens role x.phase ≡ true → opens role (phased_after (host_step host) x).phase ≡ true
  host_on host = steps_on (host_step host) (host_still role host x)

  pub acked_on : opens role x.phase ≡ true → opens role (phased_after SeesAcknowledged x).phase ≡ true
  acked_on = steps_on SeesAcknowledged (acked_still role x)

  pub sends_on : (slot : ℕ) → opens role x.phase ≡ true → opens role (phased_after (Sends slot) x).phase ≡ true
  sends_on slot = steps_on (Sends slot) (stays_still role)

  -- it takes a PDU
  pub takes_on : (item : Item) (slot : ℕ) (response : Response) → opens role x.phase ≡ true
      → (opens role (phased_after (taking item slot response) x).phase ≡ true) ⊎ (is_pause item ≡ true)
  takes_on Data slot response is = inl (steps_on (taking Data slot response) (stays_still role) is)
  takes_on (Control outgoing PauseEncReq) slot response is = inr refl
  takes_on (Control outgoing PauseEncRsp) slot response is = inr refl
  takes_on (Control outgoing (RejectExtInd opcode code)) slot response is =
      inl
      (steps_on (taking (Control outgoing (RejectExtInd opcode code)) slot response) (taken_still role (RejectExtInd opcode code) slot x (reject_class (opcode == 3))) is)
  takes_on (Control outgoing ctrl) slot response is =
      inl (steps_on (taking (Control outgoing ctrl) slot response) (taken_still role ctrl slot x refl) is)

-- a central that enters an event
pub central_enters_on : (x : Phased) → IsAt Central x → x.control.ends ≡ None → (slot : ℕ) → opens Central x.phase ≡ true
    → opens Central (phased_after (Enters slot) x).phase ≡ true
central_enters_on x at lasts slot = steps_on Central x at lasts (Enters slot) (enters_still slot x)
