-- While the central of a joint run runs an encryption, its LL_ENC_REQ has the halves of its material.
use Rattle.std.proofs.Common.{◌≡◌, ℕ, Bool, true, false, not, ◌&&◌, ◌||◌, if◌then◌else◌, List, [], ◌∷◌, ◌++◌, Option, Some, None, is_none, is_some, refl, sym, ap, subst, ◌∙◌}
use Rattle.std.proofs.lemmas.Bool.{and_parts}
use Rattle.ble_base.specs.declared.roles.Role.TheVariants.{Central}
use Rattle.data_pdu.specs.declared.ctrl.Ctrl.{Ctrl}
use Rattle.data_pdu.specs.declared.ctrl.Ctrl.TheVariants.{EncReq}
use Rattle.enc_phase.specs.declared.facts.Transition.TheVariants.{Ask as AskTransition}
use Rattle.enc_phase.specs.Phases.{is_quiet, may_follow}
use Rattle.instants.specs.declared.indications.Params.{Params}
use Rattle.machines.specs.Machine.{run}
use Rattle.phase_pairs.specs.declared.joint.PhaseEvent.{PhaseEvent}
use Rattle.phase_pairs.specs.declared.joint.PhaseLink.{PhaseLink}
use Rattle.phase_pairs.specs.JointRun.{encryption, is_coming, is_pause_rsp as is_pause_rsp_class, is_pause_rsp_taken}
use Rattle.phased_control.specs.enc_phase.Sealing.{EncEnd}
use Rattle.phased_control.specs.Phased.{Phased, asks_again, is_open_now, is_pause_rsp}
use Rattle.phased_control.specs.table_laws.Encrypting.{has_encryption}
use Rattle.keyed_control.specs.declared.material.KeyMaterial.{KeyMaterial}
use Rattle.keyed_control.specs.Halves.{IsRequestWith}
use Rattle.keyed_control.specs.Keyed.{Keyed, first_keyed}
use Rattle.keyed_control.specs.KeyedSteps.{KeyedStep, Answers, Asks, Disconnects, Enters, GivesKey, LacksKey, Opens, Seals, SeesAcknowledged, Sends, Takes, TakesData, is_of_session, keyed_after, keyed_after_all, keyed_moved}
use Rattle.keyed_control.proofs.Halves.{halves_now}
use Rattle.joint_controls.specs.Joint.{Joint, is_taken}
use Rattle.joint_phases.specs.Facts.{Facts}
use Rattle.joint_phases.specs.Parts.{IsShown}
use Rattle.joint_laws.specs.Pauses.{is_pausing_down, pauses_right}
use Rattle.joint_laws.proofs.PausePlaces.{pausing}
use Rattle.joint_keys.proofs.Materials.{IsReqOf}
use Rattle.joint_keys.proofs.Owed.{IsOptionFine}

-- ---- procedures, phase and material of an end change whatever its session is

abbrev keyed_of : Phased → KeyMaterial → EncEnd → Keyed
keyed_of s m e = record { phased = s; material = m; end = e }

record SameParts (k l : Keyed) : Type 0 where
  phased : k.phased ≡ l.phased
  material : k.material ≡ l.material

module _ (s : Phased) (m : KeyMaterial) (e f : EncEnd) where
  parts_moved : (step : KeyedStep) → SameParts (keyed_moved step (keyed_of s m e)) (keyed_moved step (keyed_of s m f))
  parts_moved (Enters slot) = record { phased = refl; material = refl }
  parts_moved (Asks ask) = record { phased = refl; material = refl }
  parts_moved (Answers answer) = record { phased = refl; material = refl }
  parts_moved (GivesKey ltk) = record { phased = refl; material = refl }
  parts_moved LacksKey = record { phased = refl; material = refl }
  parts_moved (Disconnects reason) = record { phased = refl; material = refl }
  parts_moved (Sends slot) = record { phased = refl; material = refl }
  parts_moved SeesAcknowledged = record { phased = refl; material = refl }
  parts_moved (Takes read slot response) = record { phased = refl; material = refl }
  parts_moved TakesData = record { phased = refl; material = refl }
  parts_moved (Seals header body) = record { phased = refl; material = refl }
  parts_moved (Opens header payload) = record { phased = refl; material = refl }

  parts_after : (step : KeyedStep) → SameParts (keyed_after step (keyed_of s m e)) (keyed_after step (keyed_of s m f))
  parts_after step = by (is_of_session step || is_none s.control.ends)
    where
      by : (b : Bool)
          → SameParts (if b then keyed_moved step (keyed_of s m e) else keyed_of s m e) (if b then keyed_moved step (keyed_of s m f) else keyed_of s m f)
      by true = parts_moved step
      by false = record { phased = refl; material = refl }

-- these are the procedures and the material of a central after some steps of its own
pub record HalvesAt (s : Phased) (m : KeyMaterial) : Type 0 where
  pub max_rx : ℕ
  pub first : Params
  pub slot : ℕ
  pub steps : List KeyedStep
  pub phased : (keyed_after_all steps (first_keyed Central max_rx first slot)).phased ≡ s
  pub material : (keyed_after_all steps (first_keyed Central max_rx first slot)).material ≡ m

one_more : (steps : List KeyedStep) (step : KeyedStep) (k : Keyed) → keyed_after_all (steps ++ step ∷ []) k ≡ keyed_after step (keyed_after_all steps k)
one_more [] step k = refl
one_more (x ∷ steps) step k = one_more steps step (keyed_after x k)

pub halves_next : (s : Phased) (m : KeyMaterial) (e : EncEnd) (step : KeyedStep) → HalvesAt s m
    → HalvesAt (keyed_after step (keyed_of s m e)).phased (keyed_after step (keyed_of s m e)).material
halves_next s m e step at =
    let k = keyed_after_all at.steps (first_keyed Central at.max_rx at.first at.slot) in
    let same : k ≡ keyed_of s m k.end = (λ i. record k { phased = at.phased i; material = at.material i }) in
    let now = one_more at.steps step (first_keyed Central at.max_rx at.first at.slot) ∙ ap (keyed_after step) same in
    let parts = parts_after s m k.end e step in
    record {
      max_rx = at.max_rx;
      first = at.first;
      slot = at.slot;
      steps = at.steps ++ step ∷ [];
      phased = ap (λ (l : Keyed). l.phased) now ∙ parts.phased;
      material = ap (λ (l : Keyed). l.material) now ∙ parts.material;
    }

requested : (s : Phased) (m : KeyMaterial) → HalvesAt s m → has_encryption s.control.table.progress ≡ true → IsRequestWith m s.request
requested s m at =
    subst (λ (x : KeyMaterial). has_encryption s.control.table.progress ≡ true → IsRequestWith x s.request) at.material
    (subst (λ (x : Phased). has_encryption x.control.table.progress ≡ true → IsRequestWith (keyed_after_all at.steps (first_keyed Central at.max_rx at.first at.slot)).material x.request) at.phased
    (halves_now at.max_rx at.first at.slot at.steps))

fine_request : (m : KeyMaterial) (request : Option Ctrl) → IsRequestWith m request → IsOptionFine (IsReqOf m) request
fine_request m (Some (EncReq rand ediv skd_m iv_m)) is = is
fine_request m (Some ctrl) is = absurd is
fine_request m None is = tt

-- ---- as its LL_PAUSE_ENC_RSP is acknowledged

or_false : (a b : Bool) → (not a || b) ≡ true → a ≡ true → b ≡ true
or_false true b h is = h
or_false false b h is = absurd (cc)

or_right : (a b : Bool) → b ≡ true → (a || b) ≡ true
or_right true b is = refl
or_right false b is = is

encrypts_then : (s : Joint) (m : PhaseLink) (events : List PhaseEvent) → m ≡ run encryption events → IsShown s m → Facts s → is_taken s.down ≡ true
    → asks_again s.central ≡ true → has_encryption s.central.control.table.progress ≡ true
encrypts_then s m events reached is facts taken asks =
    let out : is_pause_rsp s.central.control.table.out ≡ true =
    (and_parts (is_pause_rsp s.central.control.table.out) (may_follow AskTransition s.central.phase && (is_open_now s.central && is_some s.central.request)) asks).0 in
    let was : is_pause_rsp_taken m.down ≡ true = ap is_pause_rsp_taken is.down ∙ sym (facts.taken_is_out taken) ∙ out in
    let right : pauses_right m ≡ true = ap pauses_right reached ∙ pausing events in
    let loud = or_false (is_pausing_down m) (not (is_quiet m.central.phase)) right (or_right (is_coming is_pause_rsp_class m.down) (is_pause_rsp_taken m.down) was) in
    is.central.encrypts ∙ loud

pub asks_as_before : (s : Joint) (m : PhaseLink) (events : List PhaseEvent) → m ≡ run encryption events → IsShown s m → Facts s → (material : KeyMaterial)
    → HalvesAt s.central material → is_taken s.down ≡ true → asks_again s.central ≡ true → IsOptionFine (IsReqOf material) s.central.request
asks_as_before s m events reached is facts material at taken asks =
    fine_request material s.central.request (requested s.central material at (encrypts_then s m events reached is facts taken asks))
