-- All steps of one end with its keys (Core 5.2, volume 6 part B, sections 5.1.3.1 and 5.1.3.2).
use Rattle.std.specs.Prelude.{ℕ, Bool, true, false, ◌||◌, List, [], ◌∷◌, Option, Some, None, Result, is_none, if◌then◌else◌}
use Rattle.ble_base.specs.declared.error_codes.ErrCode.{ErrCode}
use Rattle.ble_base.specs.declared.roles.Role.{Role}
use Rattle.ble_base.specs.declared.roles.Role.TheVariants.{Central, Peripheral}
use Rattle.data_pdu.specs.declared.ctrl.Ctrl.TheVariants.{EncReq, EncRsp}
use Rattle.data_pdu.specs.declared.ctrl.CtrlRead.{CtrlRead}
use Rattle.data_pdu.specs.declared.ctrl.CtrlRead.TheVariants.{Known}
use Rattle.phased_control.specs.enc_phase.declared.classes.PduClass.TheVariants.{EncRsp as enc_rsp}
use Rattle.phased_control.specs.enc_phase.declared.facts.PhaseFacts.{PhaseFacts}
use Rattle.phased_control.specs.enc_phase.declared.facts.PhaseFacts.TheVariants.{Asked}
use Rattle.phased_control.specs.enc_phase.declared.facts.Transition.TheVariants.{Ask as AskTransition}
use Rattle.phased_control.specs.enc_phase.declared.session.Session.{Session}
use Rattle.phased_control.specs.enc_phase.Phases.{is_asked}
use Rattle.phased_control.specs.enc_phase.Sealing.{EncEnd, after_opening, after_sending, after_start, after_taking, after_transition, is_right, sent_payload}
use Rattle.phased_control.specs.procedure_values.declared.asks.Ask.{Ask}
use Rattle.phased_control.specs.procedure_values.declared.asks.Ask.TheVariants.{Encrypt}
use Rattle.phased_control.specs.procedures.Beginning.{begin_step}
use Rattle.phased_control.specs.PhaseChanges.{Change, Moves, Starts, Stays, Took, change_of}
use Rattle.phased_control.specs.Phased.{Phased, ask_begun, is_encrypt, is_quiet_now, table_entered}
use Rattle.phased_control.specs.Taken.{PhasedStep, Response, phased_moved, role_now}
use Rattle.phased_control.specs.Taken.{Answers as phased_answers, Asks as phased_asks, Disconnects as phased_disconnects, Enters as phased_enters, GivesKey as phased_gives_key, LacksKey as phased_lacks_key, SeesAcknowledged as phased_sees_acknowledged, Sends as phased_sends, Takes as phased_takes, TakesData as phased_takes_data}
use Rattle.keyed_control.specs.declared.material.KeyMaterial.{KeyMaterial}
use Rattle.keyed_control.specs.Keyed.{Keyed, session_of}

-- ---- the steps

pub data KeyedStep : Type 0 where
  -- an event is entered, and then one procedure may begin
  Enters : (slot : ℕ) → KeyedStep
  -- the host asks for a procedure, or answers a request of the peripheral
  Asks : Ask → KeyedStep
  Answers : Result Ask ErrCode → KeyedStep
  -- the host of a peripheral has this long term key, or none
  GivesKey : (ltk : List ℕ) → KeyedStep
  LacksKey : KeyedStep
  -- the host ends the link
  Disconnects : ErrCode → KeyedStep
  -- a control PDU is first sent, in the event entered last
  Sends : (slot : ℕ) → KeyedStep
  -- the last PDU is acknowledged
  SeesAcknowledged : KeyedStep
  -- a control PDU of the peer is taken, with what a peripheral would draw to answer LL_ENC_REQ
  Takes : CtrlRead → (slot : ℕ) → (response : Response) → KeyedStep
  TakesData : KeyedStep
  -- a new nonempty PDU with this first header octet and body goes out
  Seals : (header : ℕ) → (body : List ℕ) → KeyedStep
  -- a new nonempty PDU with this first header octet and payload is received
  Opens : (header : ℕ) → (payload : List ℕ) → KeyedStep

-- ---- the material of the keys

-- an encryption begins at a central, as its host asked for it
abbrev pub with_asked : Option Ask → KeyMaterial → KeyMaterial
with_asked (Some (Encrypt rand ediv ltk skd_m iv_m)) m = record m { ltk = ltk; skd_m = skd_m; iv_m = iv_m }
with_asked other m = m

abbrev pub with_asked_if : Bool → Option Ask → KeyMaterial → KeyMaterial
with_asked_if true asked m = with_asked asked m
with_asked_if false asked m = m

-- as an event is entered
abbrev pub material_entered : ℕ → Phased → KeyMaterial → KeyMaterial
material_entered slot s m =
    with_asked_if (is_encrypt (begin_step (table_entered s) slot (is_quiet_now s)).1)
    (ask_begun (table_entered s) (is_quiet_now s)) m

-- the host of a peripheral gives a key, which counts where a session begins with it
abbrev pub with_key : Change → List ℕ → KeyMaterial → KeyMaterial
with_key Starts ltk m = record m { ltk = ltk }
with_key change ltk m = m

-- a peripheral takes an LL_ENC_REQ that asks for encryption, and answers it; a central takes the LL_ENC_RSP of its
-- request
abbrev pub with_read : Role → CtrlRead → Response → Change → PhaseFacts → KeyMaterial → KeyMaterial
with_read Peripheral (Known (EncReq rand ediv skd_m iv_m)) response (Moves AskTransition) phase m =
    record m { skd_m = skd_m; iv_m = iv_m; skd_s = response.skd_s; iv_s = response.iv_s }
with_read Central (Known (EncRsp skd_s iv_s)) response (Took enc_rsp) (Asked after_pause false kept) m =
    record m { skd_s = skd_s; iv_s = iv_s }
with_read role read response change phase m = m

-- ---- the session

-- a session begins, where one may
abbrev pub end_started : Session → EncEnd → EncEnd
end_started session e = (if is_asked e.phase then after_start session e else e)

-- the end changes as its phase does; a session begins with this material
abbrev pub end_changed : Change → KeyMaterial → EncEnd → EncEnd
end_changed Stays m e = e
end_changed (Took pdu) m e = after_taking pdu e
end_changed Starts m e = end_started (session_of m) e
end_changed (Moves transition) m e = after_transition transition e

-- a payload that is right takes its counter
abbrev pub end_opening : ℕ → List ℕ → EncEnd → EncEnd
end_opening header payload e = (if is_right e header payload then after_opening e else e)

-- ---- every step

-- a step of procedures, parameters and phase, after which the material is this
abbrev pub with_phased : PhasedStep → KeyMaterial → Keyed → Keyed
with_phased step material k =
    record {
      phased = phased_moved step k.phased;
      material = material;
      end = end_changed (change_of step k.phased) material k.end;
    }

abbrev pub keyed_moved : KeyedStep → Keyed → Keyed
keyed_moved (Enters slot) k = with_phased (phased_enters slot) (material_entered slot k.phased k.material) k
keyed_moved (Asks ask) k = with_phased (phased_asks ask) k.material k
keyed_moved (Answers answer) k = with_phased (phased_answers answer) k.material k
keyed_moved (GivesKey ltk) k =
    with_phased phased_gives_key (with_key (change_of phased_gives_key k.phased) ltk k.material) k
keyed_moved LacksKey k = with_phased phased_lacks_key k.material k
keyed_moved (Disconnects reason) k = with_phased (phased_disconnects reason) k.material k
keyed_moved (Sends slot) k = with_phased (phased_sends slot) k.material k
keyed_moved SeesAcknowledged k = with_phased phased_sees_acknowledged k.material k
keyed_moved (Takes read slot response) k =
    let step = phased_takes read slot response in
    with_phased step
    (with_read (role_now k.phased) read response (change_of step k.phased) k.phased.phase k.material) k
keyed_moved TakesData k = with_phased phased_takes_data k.material k
keyed_moved (Seals header body) k = record k { end = after_sending k.end }
keyed_moved (Opens header payload) k = record k { end = end_opening header payload k.end }

-- the session alone does these
abbrev pub is_of_session : KeyedStep → Bool
is_of_session (Seals header body) = true
is_of_session (Opens header payload) = true
is_of_session other = false

-- once the end ended the link it seals and opens as before, and nothing else happens
abbrev pub keyed_after : KeyedStep → Keyed → Keyed
keyed_after step k = (if is_of_session step || is_none k.phased.control.ends then keyed_moved step k else k)

abbrev pub keyed_after_all : List KeyedStep → Keyed → Keyed
keyed_after_all [] k = k
keyed_after_all (step ∷ steps) k = keyed_after_all steps (keyed_after step k)

-- the payload of a PDU that goes out
abbrev pub payload_of : KeyedStep → Keyed → Option (List ℕ)
payload_of (Seals header body) k = Some (sent_payload k.end header body)
payload_of step k = None

-- ---- the steps of procedures, parameters and phase among these

abbrev pub phased_step : KeyedStep → Option PhasedStep
phased_step (Enters slot) = Some (phased_enters slot)
phased_step (Asks ask) = Some (phased_asks ask)
phased_step (Answers answer) = Some (phased_answers answer)
phased_step (GivesKey ltk) = Some phased_gives_key
phased_step LacksKey = Some phased_lacks_key
phased_step (Disconnects reason) = Some (phased_disconnects reason)
phased_step (Sends slot) = Some (phased_sends slot)
phased_step SeesAcknowledged = Some phased_sees_acknowledged
phased_step (Takes read slot response) = Some (phased_takes read slot response)
phased_step TakesData = Some phased_takes_data
phased_step (Seals header body) = None
phased_step (Opens header payload) = None

abbrev pub step_before : Option PhasedStep → List PhasedStep → List PhasedStep
step_before None steps = steps
step_before (Some step) steps = step ∷ steps

abbrev pub phased_steps : List KeyedStep → List PhasedStep
phased_steps [] = []
phased_steps (step ∷ steps) = step_before (phased_step step) (phased_steps steps)
