-- The request of a central has the halves of its material.
use Rattle.std.proofs.Common.{◌≡◌, ℕ, Bool, true, false, ◌&&◌, ◌||◌, if◌then◌else◌, List, Option, Some, None, is_none, refl, sym, ap, subst, ◌∙◌}
use Rattle.ble_base.specs.ErrorCodes.{mic_failure}
use Rattle.ble_base.specs.declared.roles.Role.{Role}
use Rattle.ble_base.specs.declared.roles.Role.TheVariants.{Central}
use Rattle.data_pdu.specs.declared.ctrl.Ctrl.{Ctrl}
use Rattle.data_pdu.specs.declared.ctrl.Ctrl.TheVariants.{EncReq, EncRsp}
use Rattle.data_pdu.specs.declared.ctrl.CtrlRead.{CtrlRead}
use Rattle.data_pdu.specs.declared.ctrl.CtrlRead.TheVariants.{Known}
use Rattle.instants.specs.declared.indications.Params.{Params}
use Rattle.phased_control.specs.control_model.Control.{Enters as control_enters, SeesAcknowledged as control_sees_acknowledged}
use Rattle.phased_control.specs.enc_phase.declared.classes.PduClass.TheVariants.{Data, EncRsp as enc_rsp}
use Rattle.phased_control.specs.enc_phase.declared.facts.PhaseFacts.{PhaseFacts}
use Rattle.phased_control.specs.enc_phase.declared.facts.PhaseFacts.TheVariants.{Asked}
use Rattle.phased_control.specs.enc_phase.Taking.{allows}
use Rattle.phased_control.specs.procedure_values.declared.asks.Ask.{Ask}
use Rattle.phased_control.specs.procedure_values.declared.asks.Ask.TheVariants.{Encrypt}
use Rattle.phased_control.specs.procedures.Beginning.{begin_step}
use Rattle.phased_control.specs.table_laws.Encrypting.{has_encryption}
use Rattle.phased_control.specs.Ends.{IsRequest}
use Rattle.phased_control.specs.PhaseChanges.{Change, Starts, Took, change_of}
use Rattle.phased_control.specs.Phased.{Phased, ask_begun, asks_again, encrypting_if, entered, is_encrypt, is_open_now, is_quiet_now, key_given, key_lacking, request_of, table_entered, with_step}
use Rattle.phased_control.specs.Taken.{PhasedStep, Response, ended_with, role_now}
use Rattle.phased_control.specs.Taken.{GivesKey as phased_gives_key, Takes as phased_takes}
use Rattle.phased_control.proofs.Moving.{keeps_role}
use Rattle.phased_control.proofs.Requesting.{request_asking, request_encrypting, request_if, request_lacking, request_took}
use Rattle.phased_control.proofs.Requests.{request_now}
use Rattle.keyed_control.specs.declared.material.KeyMaterial.{KeyMaterial}
use Rattle.keyed_control.specs.Halves.{IsRequestWith}
use Rattle.keyed_control.specs.Keyed.{Keyed, first_keyed}
use Rattle.keyed_control.specs.KeyedSteps.{KeyedStep, Answers, Asks, Disconnects, Enters, GivesKey, LacksKey, Opens, Seals, SeesAcknowledged, Sends, Takes, TakesData, is_of_session, keyed_after_all, keyed_moved, phased_steps, with_asked, with_asked_if, with_key, with_read}
use Rattle.keyed_control.proofs.Phases.{IsAfter, always, moves}

-- an LL_ENC_REQ has the halves of this material
abbrev IsHalved : KeyMaterial → Option Ctrl → Type 0
IsHalved m (Some (EncReq rand ediv skd_m iv_m)) = (skd_m ≡ m.skd_m) × (iv_m ≡ m.iv_m)
IsHalved m request = Unit {0}

-- ---- the halves of the central stay but as an event is entered

record Same (m n : KeyMaterial) : Type 0 where
  skd : n.skd_m ≡ m.skd_m
  iv : n.iv_m ≡ m.iv_m

same_key : (change : Change) (ltk : List ℕ) (m : KeyMaterial) → Same m (with_key change ltk m)
same_key Starts ltk m = record { skd = refl; iv = refl }
same_key change ltk m = record { skd = refl; iv = refl }

same_read : (read : CtrlRead) (response : Response) (change : Change) (phase : PhaseFacts) (m : KeyMaterial) → Same m (with_read Central read response change phase m)
same_read (Known (EncRsp skd_s iv_s)) response (Took enc_rsp) (Asked after_pause false kept) m = record { skd = refl; iv = refl }
same_read read response change phase m = record { skd = refl; iv = refl }

halved_on : (m n : KeyMaterial) (r q : Option Ctrl) → Same m n → q ≡ r → IsHalved m r → IsHalved n q
halved_on m n r q same is h = subst (IsHalved n) (sym is) (by r h)
  where
    by : (r : Option Ctrl) → IsHalved m r → IsHalved n r
    by (Some (EncReq rand ediv skd_m iv_m)) k = (k.0 ∙ sym same.skd, k.1 ∙ sym same.iv)
    by (Some ctrl) k = tt
    by None k = tt

none_new : (m : KeyMaterial) → Same m m
none_new m = record { skd = refl; iv = refl }

-- ---- an encryption begins

halved_asked : (asked : Option Ask) (m : KeyMaterial) → IsHalved (with_asked asked m) (request_of asked)
halved_asked (Some (Encrypt rand ediv ltk skd_m iv_m)) m = (refl, refl)
halved_asked (Some ask) m = tt
halved_asked None m = tt

halved_entered : (slot : ℕ) (s : Phased) (m : KeyMaterial) → IsHalved m s.request
    → let b = is_encrypt (begin_step (table_entered s) slot (is_quiet_now s)).1 in
    IsHalved (with_asked_if b (ask_begun (table_entered s) (is_quiet_now s)) m) (entered slot s).request
halved_entered slot s m h = by (is_encrypt (begin_step (table_entered s) slot (is_quiet_now s)).1)
  where
    asked : Option Ask
    asked = ask_begun (table_entered s) (is_quiet_now s)

    t : Phased
    t = with_step (control_enters slot (is_quiet_now s)) s

    by : (b : Bool) → IsHalved (with_asked_if b asked m) (encrypting_if b (request_of asked) t).request
    by true =
        subst (IsHalved (with_asked asked m)) (sym (request_encrypting t.phase (record t { request = request_of asked }))) (halved_asked asked m)
    by false = h

-- ---- every step

abbrev Halved : Keyed → Type 0
Halved k = IsHalved k.material k.phased.request

halved_moved : (step : KeyedStep) (k : Keyed) → role_now k.phased ≡ Central → Halved k → Halved (keyed_moved step k)
halved_moved (Enters slot) k is h = halved_entered slot k.phased k.material h
halved_moved (Asks ask) k is h = h
halved_moved (Answers answer) k is h = h
halved_moved (GivesKey ltk) k is h =
    let s = k.phased in
    halved_on k.material (with_key (change_of phased_gives_key s) ltk k.material) s.request _ (same_key (change_of phased_gives_key s) ltk k.material)
    (request_if (s.asks_key && is_open_now s) s (key_given s) refl) h
halved_moved LacksKey k is h =
    let s = k.phased in
    halved_on k.material k.material s.request _ (none_new k.material) (request_if (s.asks_key && is_open_now s) s (key_lacking s) (request_lacking s)) h
halved_moved (Disconnects reason) k is h = h
halved_moved (Sends slot) k is h = h
halved_moved SeesAcknowledged k is h =
    let s = k.phased in
    halved_on k.material k.material s.request _ (none_new k.material) (request_asking (asks_again s) (with_step control_sees_acknowledged s)) h
halved_moved (Takes read slot response) k is h =
    let s = k.phased in
    let change = change_of (phased_takes read slot response) s in
    halved_on k.material (with_read (role_now s) read response change s.phase k.material) s.request _
    (subst (λ (r : Role). Same k.material (with_read r read response change s.phase k.material)) (sym is) (same_read read response change s.phase k.material))
    (request_took slot response read s) h
halved_moved TakesData k is h =
    let s = k.phased in
    halved_on k.material k.material s.request _ (none_new k.material) (by (allows s.phase (role_now s) Data)) h
  where
    by : (b : Bool) → (if b then k.phased else ended_with mic_failure k.phased).request ≡ k.phased.request
    by true = refl
    by false = refl
halved_moved (Seals header body) k is h = h
halved_moved (Opens header payload) k is h = h

module _ (max_rx : ℕ) (first : Params) (slot : ℕ) where
  halved_after : (front : List PhasedStep) (step : KeyedStep) (k : Keyed) → IsAfter Central max_rx first slot front k → Halved k
      → (b : Bool) → Halved (if b then keyed_moved step k else k)
  halved_after front step k is h true =
      halved_moved step k (ap (λ (s : Phased). role_now s) is ∙ keeps_role Central max_rx first slot front) h
  halved_after front step k is h false = h

  halved_now : (steps : List KeyedStep) → Halved (keyed_after_all steps (first_keyed Central max_rx first slot))
  halved_now =
      always Central max_rx first slot Halved tt
      (λ front. λ step. λ k. λ is. λ h. halved_after front step k is h (is_of_session step || is_none k.phased.control.ends))

  has_it : (m : KeyMaterial) (r : Option Ctrl) → IsRequest r → IsHalved m r → IsRequestWith m r
  has_it m (Some (EncReq rand ediv skd_m iv_m)) is h = h
  has_it m (Some ctrl) is h = absurd is
  has_it m None is h = absurd is

  pub halves_now : (steps : List KeyedStep) → let k = keyed_after_all steps (first_keyed Central max_rx first slot) in
      has_encryption k.phased.control.table.progress ≡ true → IsRequestWith k.material k.phased.request
  halves_now steps has =
      let k = keyed_after_all steps (first_keyed Central max_rx first slot) in
      has_it k.material k.phased.request
      (subst (λ (s : Phased). has_encryption s.control.table.progress ≡ true → IsRequest s.request) (sym (moves Central max_rx first slot steps))
      (request_now max_rx first slot (phased_steps steps)) has)
      (halved_now steps)
