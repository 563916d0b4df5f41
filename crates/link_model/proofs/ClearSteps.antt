-- The keys of an end that encrypts nothing stay as they are in each step that begins no encryption, and its control
-- part goes by the step alone.
use Rattle.std.proofs.Common.{◌≡◌, ℕ, ◌==◌, ◌&&◌, ◌||◌, not, Bool, true, false, List, Option, Some, None, is_none, is_some, if◌then◌else◌, refl, ap, sym, ◌∙◌}
use Rattle.ble_base.specs.declared.error_codes.ErrCode.{ErrCode}
use Rattle.ble_base.specs.declared.roles.Role.{Role}
use Rattle.ble_base.specs.declared.roles.Role.TheVariants.{Central, Peripheral}
use Rattle.data_pdu.specs.declared.ctrl.Ctrl.TheVariants.{EncReq, EncRsp, RejectExtInd}
use Rattle.data_pdu.specs.declared.ctrl.CtrlRead.{CtrlRead}
use Rattle.data_pdu.specs.declared.ctrl.CtrlRead.TheVariants.{Bare, Known, Unknown}
use Rattle.data_pdu.specs.Reading.{opcode_of}
use Rattle.instants.specs.Track.{next_number}
use Rattle.phased_end.specs.control_end.control_model.Control.{Control, Enters as control_enters, SeesAcknowledged as control_sees_acknowledged, Takes as control_takes, after, moved}
use Rattle.phased_end.specs.control_end.control_model.Supported.{begins_encryption, read_supported}
use Rattle.phased_end.specs.enc_phase.declared.classes.PduClass.{PduClass}
use Rattle.phased_end.specs.enc_phase.declared.classes.PduClass.TheVariants.{EncReq as enc_req, EncRsp as enc_rsp, PauseEncReq as pause_enc_req, PauseEncRsp as pause_enc_rsp, Other, Refusal, StartEncReq as start_enc_req, StartEncRsp as start_enc_rsp}
use Rattle.phased_end.specs.enc_phase.declared.facts.PhaseFacts.TheVariants.{Clear}
use Rattle.phased_end.specs.enc_phase.declared.facts.Transition.TheVariants.{Ask as AskTransition}
use Rattle.phased_end.specs.enc_phase.Sealing.{EncEnd, clear_end}
use Rattle.phased_end.specs.phased_control.PhaseChanges.{Change, Moves, Stays, Took, answer_change, change_of, first_change, taken_change}
use Rattle.phased_end.specs.phased_control.Phased.{Phased, ask_begun, is_encrypt, is_open_now, is_pause_rsp, table_entered}
use Rattle.phased_end.specs.phased_control.Steps.{seen_by_procedures}
use Rattle.phased_end.specs.phased_control.Taken.{PhasedStep, Response, class_of_read, does_keep, is_version, lacks_room_now, phased_after, phased_moved, role_now}
use Rattle.phased_end.specs.phased_control.Taken.{Enters as phased_enters, GivesKey as phased_gives_key, LacksKey as phased_lacks_key, SeesAcknowledged as phased_sees_acknowledged, Takes as phased_takes, TakesData as phased_takes_data}
use Rattle.phased_end.specs.phased_control.procedures.Beginning.{ask_at, begin_step, place_to_begin}
use Rattle.phased_end.specs.phased_control.table_laws.Encrypting.{has_encryption}
use Rattle.phased_end.specs.keyed_control.declared.material.KeyMaterial.{KeyMaterial}
use Rattle.phased_end.specs.keyed_control.Keyed.{Keyed, first_material}
use Rattle.phased_end.specs.keyed_control.KeyedSteps.{Enters, GivesKey, LacksKey, SeesAcknowledged, Takes, TakesData, end_changed, keyed_after, material_entered, with_asked_if, with_read}
use Rattle.unencrypted_ends.specs.Unencrypted.{IsUnencrypted, begins_no_encryption, is_enc_req, plain_phased}
use Rattle.unencrypted_ends.proofs.Going.{acknowledged_goes, begins_other, data_left, enters_goes, key_given_left, key_lacking_left, none_again}
use Rattle.unencrypted_ends.proofs.Staying.{entered_none}
use Rattle.unencrypted_ends.proofs.Taking.{takes_goes}

-- such an end with its keys
abbrev pub plain_keyed : Role → Control → Bool → Keyed
plain_keyed role c knows =
    record { phased = plain_phased c knows; material = first_material; end = clear_end role Clear }

-- ---- what is read begins no encryption

pub supported : (read : CtrlRead) → begins_no_encryption read ≡ true → read_supported read ≡ read
supported (Known ctrl) is = by (begins_encryption ctrl) is
  where
    by : (begins : Bool) → not begins ≡ true → (if begins then Unknown (opcode_of ctrl) else Known ctrl) ≡ Known ctrl
    by true is = absurd (cc)
    by false is = refl
supported (Unknown opcode) is = refl
supported Bare is = refl

pub no_request : (read : CtrlRead) → begins_no_encryption read ≡ true → is_enc_req read ≡ false
no_request (Known (EncReq rand ediv skd_m iv_m)) is = absurd (cc)
no_request (Known ctrl) is = refl
no_request (Unknown opcode) is = refl
no_request Bare is = refl

-- ---- what leaves material and session as they are

material_left : (role : Role) (read : CtrlRead) (response : Response) (change : Change) (m : KeyMaterial)
    → is_enc_req read ≡ false → with_read role read response change Clear m ≡ m
material_left Peripheral (Known (EncReq rand ediv skd_m iv_m)) response change m is = absurd (cc)
material_left Central (Known (EncRsp skd_s iv_s)) response (Took enc_rsp) m is = refl
material_left role read response change m is = refl

-- a change that leaves a session that is clear
abbrev Leaves : Change → Type 0
Leaves change =
    (role : Role) (m : KeyMaterial) → end_changed change m (clear_end role Clear) ≡ clear_end role Clear

leaves_either : (b : Bool) (one other : Change) → Leaves one → Leaves other → Leaves (if b then one else other)
leaves_either true one other is or = is
leaves_either false one other is or = or

stays_leaves : Leaves Stays
stays_leaves role m = refl

took_leaves : (pdu : PduClass) → Leaves (Took pdu)
took_leaves enc_rsp role m = refl
took_leaves pdu role m = refl

-- LL_ENC_REQ
abbrev is_request : PduClass → Bool
is_request enc_req = true
is_request pdu = false

answer_leaves : (role : Role) (pdu : PduClass) (encrypts : Bool) → is_request pdu ≡ false → Leaves (answer_change role pdu encrypts Clear)
answer_leaves Central start_enc_req encrypts not_req = stays_leaves
answer_leaves Central start_enc_rsp encrypts not_req = stays_leaves
answer_leaves Central pause_enc_rsp encrypts not_req = stays_leaves
answer_leaves Central Refusal true not_req = stays_leaves
answer_leaves Central Refusal false not_req = stays_leaves
answer_leaves Central pdu encrypts not_req = took_leaves pdu
answer_leaves Peripheral enc_req encrypts not_req = absurd (cc)
answer_leaves Peripheral pause_enc_req encrypts not_req = stays_leaves
answer_leaves Peripheral start_enc_rsp encrypts not_req = stays_leaves
answer_leaves Peripheral pause_enc_rsp encrypts not_req = stays_leaves
answer_leaves Peripheral pdu encrypts not_req = took_leaves pdu

not_request : (read : CtrlRead) → is_enc_req read ≡ false → is_request (class_of_read read) ≡ false
not_request (Known (EncReq rand ediv skd_m iv_m)) is = absurd (cc)
not_request (Known (RejectExtInd opcode code)) is = by (opcode == 3)
  where
    by : (b : Bool) → is_request (if b then Refusal else Other) ≡ false
    by true = refl
    by false = refl
not_request (Known ctrl) is = refl
not_request (Unknown opcode) is = refl
not_request Bare is = refl

-- ---- the steps

or_false : (b : Bool) → (b || false) ≡ b
or_false true = refl
or_false false = refl

module _ (role : Role) (c : Control) (knows : Bool) where
  abbrev s : Phased
  s = plain_phased c knows

  abbrev k : Keyed
  k = plain_keyed role c knows

  abbrev end : EncEnd
  end = clear_end role Clear

  -- a step that leaves both is the step of its phase
  lifts : (b : Bool) (next later : Phased) (m : KeyMaterial) (e : EncEnd) → m ≡ first_material → e ≡ end
      → (if b then later else s) ≡ next
      → (if b then record { phased = later; material = m; end = e } else k) ≡ record { phased = next; material = first_material; end = end }
  lifts true next later m e m_is e_is is = λ i. record { phased = is i; material = m_is i; end = e_is i }
  lifts false next later m e m_is e_is is = λ i. record { phased = is i; material = first_material; end = end }

  pub enters : (slot : ℕ) → IsUnencrypted c
      → keyed_after (Enters slot) k ≡ plain_keyed role (after (control_enters slot true) c) knows
  enters slot none =
      let table = table_entered s in
      let begins_none : is_encrypt (begin_step table slot true).1 ≡ false =
      begins_other table slot (place_to_begin table true) (ask_at (place_to_begin table true) table.wanted) refl
      (entered_none c.table (is_some (next_number c.track)) none).wanted in
      let m = material_entered slot s first_material in
      lifts (is_none c.ends) (plain_phased (after (control_enters slot true) c) knows) (phased_moved (phased_enters slot) s)
      m (end_changed (change_of (phased_enters slot) s) m end)
      (ap (λ b. with_asked_if b (ask_begun table true) first_material) begins_none)
      (ap (λ b. end_changed (if b then first_change Clear else Stays) m end) begins_none)
      (enters_goes c knows slot none)

  pub acknowledged : keyed_after SeesAcknowledged k ≡ plain_keyed role (after control_sees_acknowledged c) knows
  acknowledged =
      lifts (is_none c.ends) (plain_phased (after control_sees_acknowledged c) knows) (phased_moved phased_sees_acknowledged s)
      first_material (end_changed (change_of phased_sees_acknowledged s) first_material end) refl
      (ap (λ b. end_changed (if b then Moves AskTransition else Stays) first_material end)
      (none_again c knows (is_pause_rsp c.table.out) (is_open_now s)))
      (acknowledged_goes c knows)

  pub data_leaves : keyed_after TakesData k ≡ k
  data_leaves = lifts (is_none c.ends) s (phased_moved phased_takes_data s) first_material end refl refl (data_left c knows)

  pub key_leaves : (ltk : List ℕ) → keyed_after (GivesKey ltk) k ≡ k
  key_leaves ltk = lifts (is_none c.ends) s (phased_moved phased_gives_key s) first_material end refl refl (key_given_left c knows)

  pub no_key_leaves : keyed_after LacksKey k ≡ k
  no_key_leaves = lifts (is_none c.ends) s (phased_moved phased_lacks_key s) first_material end refl refl (key_lacking_left c knows)

  -- ---- a PDU is taken

  module _ (read : CtrlRead) (slot : ℕ) (response : Response) (same : read_supported read ≡ read) (other : is_enc_req read ≡ false) where
    abbrev step : PhasedStep
    step = phased_takes read slot response

    abbrev knows_then : Bool
    knows_then = knows || (is_none c.ends && is_version read)

    taken_by : (ends : Option ErrCode) → c.ends ≡ ends
        → phased_after step s ≡ plain_phased (after (control_takes read slot true) c) knows_then
    taken_by None is =
        takes_goes c knows read slot response other is
        ∙ (λ i. plain_phased (after (control_takes (same i) slot true) c) (knows || (is_none (sym is i) && is_version read)))
    taken_by (Some code) is = over (is_none c.ends) (ap (λ (e : Option ErrCode). is_none e) is)
      where
        over : (b : Bool) → b ≡ false
            → (if b then phased_moved step s else s)
            ≡ plain_phased (if b then moved (control_takes read slot true) c else c) (knows || (b && is_version read))
        over true off = absurd (cc)
        over false off = ap (plain_phased c) (sym (or_false knows))

    change_leaves : Leaves (taken_change read slot s)
    change_leaves =
        leaves_either (does_keep read s) (Took (class_of_read read)) _ (took_leaves (class_of_read read))
        (leaves_either (lacks_room_now read s) Stays _ stays_leaves
        (leaves_either (is_none (seen_by_procedures read slot s).control.ends)
        (answer_change (role_now s) (class_of_read read)
        (has_encryption (seen_by_procedures read slot s).control.table.progress) Clear)
        (Took (class_of_read read))
        (answer_leaves (role_now s) (class_of_read read)
        (has_encryption (seen_by_procedures read slot s).control.table.progress) (not_request read other))
        (took_leaves (class_of_read read))))

    pub takes : keyed_after (Takes read slot response) k
        ≡ plain_keyed role (after (control_takes read slot true) c) knows_then
    takes =
        let m = with_read (role_now s) read response (change_of step s) Clear first_material in
        lifts (is_none c.ends) (plain_phased (after (control_takes read slot true) c) knows_then) (phased_moved step s) m
        (end_changed (change_of step s) m end)
        (material_left (role_now s) read response (change_of step s) first_material other) (change_leaves role m)
        (taken_by c.ends refl)
