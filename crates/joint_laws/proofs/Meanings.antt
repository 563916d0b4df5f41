-- Each PDU of the encryption that comes to an end has a meaning in the phase of that end.
use Rattle.std.proofs.Common.{◌≡◌, ◌⊎◌, inl, inr, ◌==◌, Bool, true, false, not, ◌&&◌, ◌||◌, if◌then◌else◌, List, [], ◌∷◌, ◌++◌, refl, ap, sym, subst, ◌∙◌}
use Rattle.std.proofs.lemmas.Bool.{and_parts}
use Rattle.ble_base.specs.declared.roles.Role.{Role}
use Rattle.ble_base.specs.declared.roles.Role.TheVariants.{Central, Peripheral}
use Rattle.data_pdu.specs.declared.ctrl.Ctrl.{Ctrl}
use Rattle.data_pdu.specs.declared.ctrl.Ctrl.TheVariants.{ConnectionParamRsp, FeatureReq, RejectExtInd, VersionInd}
use Rattle.joint_parameters.specs.enc_phase.declared.classes.PduClass.{PduClass}
use Rattle.joint_parameters.specs.enc_phase.declared.classes.PduClass.TheVariants.{EncReq, EncRsp, Other, PauseEncReq, Refusal, Request, StartEncReq, StartEncRsp}
use Rattle.joint_parameters.specs.enc_phase.declared.facts.PhaseFacts.{PhaseFacts}
use Rattle.joint_parameters.specs.enc_phase.declared.facts.PhaseFacts.TheVariants.{Asked, Clear, HalfKeyed, Pausing, Secure}
use Rattle.joint_parameters.specs.enc_phase.Taking.{ctrl_class, is_unknown}
use Rattle.machines.specs.Machine.{run}
use Rattle.joint_phases.specs.phase_pairs.declared.joint.PhaseEvent.{PhaseEvent}
use Rattle.joint_phases.specs.phase_pairs.declared.joint.PhaseLink.{PhaseLink}
use Rattle.joint_phases.specs.phase_pairs.Agreement.{are_those, are_to_come, encryption_pdu, from_central, from_peripheral, is_encryption, is_pair, response_then, untaken_pdu, waiting_pdu}
use Rattle.joint_phases.specs.phase_pairs.Central.{is_class}
use Rattle.joint_phases.specs.phase_pairs.JointRun.{encryption}
use Rattle.joint_phases.specs.phase_pairs.Peripheral.{is_open}
use Rattle.joint_phases.proofs.phase_pairs.Proved.{paired}
use Rattle.joint_parameters.specs.joint_controls.Joint.{Joint, Way, Control, OnAir}
use Rattle.joint_exchanges.specs.SentByRole.{HasMeaning, HaveMeaning}
use Rattle.joint_phases.specs.Classes.{class_down, class_up}
use Rattle.joint_phases.specs.Parts.{IsShown, way_down, way_up}

-- ---- classes

apart_known : (phase : PhaseFacts) (role : Role) (pdu : PduClass) → is_encryption pdu ≡ false → is_unknown phase role pdu ≡ false
apart_known Clear Central EncReq is = absurd (cc)
apart_known Clear Central PauseEncReq is = absurd (cc)
apart_known Clear Peripheral PauseEncReq is = absurd (cc)
apart_known Clear Peripheral EncRsp is = absurd (cc)
apart_known Clear Peripheral StartEncReq is = absurd (cc)
apart_known Secure Central EncReq is = absurd (cc)
apart_known Secure Central PauseEncReq is = absurd (cc)
apart_known Secure Peripheral EncReq is = absurd (cc)
apart_known Secure Peripheral EncRsp is = absurd (cc)
apart_known Secure Peripheral StartEncReq is = absurd (cc)
apart_known phase role pdu is = refl

reject_known : (phase : PhaseFacts) (role : Role) (b : Bool) → is_unknown phase role (if b then Refusal else Other) ≡ false
reject_known Clear Central true = refl
reject_known Clear Central false = refl
reject_known Clear Peripheral true = refl
reject_known Clear Peripheral false = refl
reject_known Secure Central true = refl
reject_known Secure Central false = refl
reject_known Secure Peripheral true = refl
reject_known Secure Peripheral false = refl
reject_known phase role b = refl

-- ---- what is to come

abbrev is_first : PduClass → List PduClass → Bool
is_first pdu [] = false
is_first pdu (first ∷ more) = is_class pdu first

first_those : (ends : Bool) (pdu : PduClass) (more those : List PduClass) → are_those ends (encryption_pdu pdu ++ more) those ≡ true
    → (is_encryption pdu ≡ false) ⊎ (is_first pdu those ≡ true)
first_those ends pdu more those is = by (is_encryption pdu) refl
  where
    by : (b : Bool) → is_encryption pdu ≡ b → (is_encryption pdu ≡ false) ⊎ (is_first pdu those ≡ true)
    by false none = inl none
    by true some = inr (starts those (sym (ap (λ b. are_those ends ((if b then pdu ∷ [] else []) ++ more) those) some) ∙ is))
      where
        starts : (those : List PduClass) → are_those ends (pdu ∷ more) those ≡ true → is_first pdu those ≡ true
        starts [] is = absurd (cc)
        starts (first ∷ later) is = (and_parts (is_class pdu first) (are_those ends more later) is).0

none_first : (phase : PhaseFacts) (role : Role) (pdu : PduClass) → (is_encryption pdu ≡ false) ⊎ (is_first pdu [] ≡ true) → is_unknown phase role pdu ≡ false
none_first phase role pdu (inl none) = apart_known phase role pdu none
none_first phase role pdu (inr is) = absurd (cc)

request_known : (pdu : PduClass) → (is_encryption pdu ≡ false) ⊎ (is_first pdu (EncReq ∷ []) ≡ true) → is_unknown Clear Peripheral pdu ≡ false
request_known pdu (inl none) = apart_known Clear Peripheral pdu none
request_known EncReq (inr is) = refl
request_known pdu (inr is) = absurd (cc)

pause_known : (pdu : PduClass) → (is_encryption pdu ≡ false) ⊎ (is_first pdu (PauseEncReq ∷ []) ≡ true) → is_unknown Secure Peripheral pdu ≡ false
pause_known pdu (inl none) = apart_known Secure Peripheral pdu none
pause_known PauseEncReq (inr is) = refl
pause_known pdu (inr is) = absurd (cc)

either_is : (a b : Bool) → (a || b) ≡ true → (a ≡ true) ⊎ (b ≡ true)
either_is true b is = inl refl
either_is false b is = inr is

module _ (m : PhaseLink) (pdu : PduClass) (more : List PduClass) where
  -- what comes first from an end, where these are to come from both
  first_down : (down up : List PduClass) → from_central m ≡ encryption_pdu pdu ++ more → are_to_come m down up ≡ true → (is_encryption pdu ≡ false) ⊎ (is_first pdu down ≡ true)
  first_down down up is come =
      first_those m.central.closed pdu more down
      (subst (λ pdus. are_those m.central.closed pdus down ≡ true) is (and_parts (are_those m.central.closed (from_central m) down) (are_those (not (is_open m.peripheral)) (from_peripheral m) up) come).0)

  first_up : (down up : List PduClass) → from_peripheral m ≡ encryption_pdu pdu ++ more → are_to_come m down up ≡ true → (is_encryption pdu ≡ false) ⊎ (is_first pdu up ≡ true)
  first_up down up is come =
      first_those (not (is_open m.peripheral)) pdu more up
      (subst (λ pdus. are_those (not (is_open m.peripheral)) pdus up ≡ true) is (and_parts (are_those m.central.closed (from_central m) down) (are_those (not (is_open m.peripheral)) (from_peripheral m) up) come).1)

  up_known : (c p : PhaseFacts) → is_pair c p m ≡ true → from_peripheral m ≡ encryption_pdu pdu ++ more → is_unknown c Central pdu ≡ false
  up_known Clear Clear pair is = none_first Clear Central pdu (first_up [] [] is pair)
  up_known Clear p pair is = absurd (cc)
  up_known Secure Secure pair is = none_first Secure Central pdu (first_up [] [] is pair)
  up_known Secure p pair is = absurd (cc)
  up_known c p pair is = refl

  asked_known : (a b : Bool) (up : List PduClass) → (a && are_to_come m (EncReq ∷ []) [] || are_to_come m [] up) ≡ true → from_central m ≡ encryption_pdu pdu ++ more → is_unknown Clear Peripheral pdu ≡ false
  asked_known a b up pair is = by (either_is (a && are_to_come m (EncReq ∷ []) []) (are_to_come m [] up) pair)
    where
      by : ((a && are_to_come m (EncReq ∷ []) []) ≡ true) ⊎ (are_to_come m [] up ≡ true) → is_unknown Clear Peripheral pdu ≡ false
      by (inl come) = request_known pdu (first_down (EncReq ∷ []) [] is (and_parts a (are_to_come m (EncReq ∷ []) []) come).1)
      by (inr come) = none_first Clear Peripheral pdu (first_down [] up is come)

  down_known : (c p : PhaseFacts) → is_pair c p m ≡ true → from_central m ≡ encryption_pdu pdu ++ more → is_unknown p Peripheral pdu ≡ false
  down_known Clear Clear pair is = none_first Clear Peripheral pdu (first_down [] [] is pair)
  down_known (Asked false enc_rsp kept) Clear pair is = asked_known (not enc_rsp) enc_rsp (response_then enc_rsp (Refusal ∷ [])) pair is
  down_known (Asked true enc_rsp kept) Clear pair is = absurd (cc)
  down_known HalfKeyed Secure pair is = none_first Secure Peripheral pdu (first_down [] (StartEncRsp ∷ []) is pair)
  down_known Secure Secure pair is = none_first Secure Peripheral pdu (first_down [] [] is pair)
  down_known (Pausing kept) Secure pair is = pause_known pdu (first_down (PauseEncReq ∷ []) [] is pair)
  down_known c Clear pair is = absurd (cc)
  down_known c Secure pair is = absurd (cc)
  down_known c p pair is = refl

-- ---- as the PDU is read

version_unknown : (phase : PhaseFacts) (role : Role) → is_unknown phase role Request ≡ false
version_unknown Clear Central = refl
version_unknown Clear Peripheral = refl
version_unknown Secure Central = refl
version_unknown Secure Peripheral = refl
version_unknown phase role = refl

read_up : (knows : Bool) (phase : PhaseFacts) (ctrl : Ctrl) → is_unknown phase Central (class_up knows ctrl) ≡ false → is_unknown phase Central (ctrl_class ctrl) ≡ false
read_up knows phase (VersionInd version company sub) known = version_unknown phase Central
read_up knows phase ctrl known = known

read_down : (knows : Bool) (phase : PhaseFacts) (ctrl : Ctrl) → is_unknown phase Peripheral (class_down knows ctrl) ≡ false → is_unknown phase Peripheral (ctrl_class ctrl) ≡ false
read_down knows phase (VersionInd version company sub) known = version_unknown phase Peripheral
read_down knows phase (FeatureReq features) known = apart_known phase Peripheral Other refl
read_down knows phase (ConnectionParamRsp min max latency timeout periodicity reference offsets) known = apart_known phase Peripheral Other refl
read_down knows phase (RejectExtInd opcode code) known = reject_known phase Peripheral (opcode == 3)
read_down knows phase ctrl known = known

-- ---- in a state of a joint run that shows one of the machine of phases

module _ (s : Joint) (events : List PhaseEvent) (shown : IsShown s (run encryption events)) where
  abbrev m : PhaseLink
  m = run encryption events

  pair : is_pair m.central.phase m.peripheral.phase m ≡ true
  pair = paired events

  up_by : (way : Way) → s.up ≡ way → HasMeaning Central s.central way
  up_by (OnAir (Control outgoing ctrl) sealed) is =
      read_up s.peripheral.knows_version s.central.phase ctrl
      (subst (λ (p : PhaseFacts). is_unknown p Central (class_up s.peripheral.knows_version ctrl) ≡ false) (sym shown.central.phase)
      (up_known m (class_up s.peripheral.knows_version ctrl) (waiting_pdu m.peripheral.first ++ waiting_pdu m.peripheral.second) m.central.phase m.peripheral.phase pair
      (ap (λ way. untaken_pdu way ++ (waiting_pdu m.peripheral.first ++ waiting_pdu m.peripheral.second)) (shown.up ∙ ap (way_up s.peripheral.knows_version) is))))
  up_by way is = tt

  down_by : (way : Way) → s.down ≡ way → HasMeaning Peripheral s.peripheral way
  down_by (OnAir (Control outgoing ctrl) sealed) is =
      read_down s.central.knows_version s.peripheral.phase ctrl
      (subst (λ (p : PhaseFacts). is_unknown p Peripheral (class_down s.central.knows_version ctrl) ≡ false) (sym shown.peripheral.phase)
      (down_known m (class_down s.central.knows_version ctrl) (waiting_pdu m.central.queued) m.central.phase m.peripheral.phase pair
      (ap (λ way. untaken_pdu way ++ waiting_pdu m.central.queued) (shown.down ∙ ap (way_down s.central.knows_version) is))))
  down_by way is = tt

  pub have_meaning : HaveMeaning s
  have_meaning = record { central = up_by s.up refl; peripheral = down_by s.down refl }
