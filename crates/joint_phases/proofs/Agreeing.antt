-- The laws of the machine of phases, in the words of a joint run.
use Rattle.std.proofs.Common.{◌≡◌, ℕ, Bool, true, false, not, ◌&&◌, Some, is_some, refl, ap, sym, subst, ◌∙◌}
use Rattle.std.proofs.lemmas.Bool.{and_from, and_parts}
use Rattle.ble_base.specs.declared.roles.Role.{Role}
use Rattle.ble_base.specs.declared.roles.Role.TheVariants.{Central as central_role, Peripheral as peripheral_role}
use Rattle.data_pdu.specs.declared.ctrl.Ctrl.{Ctrl}
use Rattle.data_pdu.specs.declared.ctrl.Ctrl.TheVariants.{ConnectionParamRsp, FeatureReq, RejectExtInd, TerminateInd, VersionInd}
use Rattle.phase_pairs.specs.enc_phase.declared.classes.PduClass.{PduClass}
use Rattle.phase_pairs.specs.enc_phase.declared.classes.PduClass.TheVariants.{Data as data_class, Other, Request, Terminate}
use Rattle.phase_pairs.specs.enc_phase.declared.facts.PhaseFacts.{PhaseFacts}
use Rattle.phase_pairs.specs.enc_phase.declared.facts.PhaseFacts.TheVariants.{Asked, Clear as clear_phase, Secure}
use Rattle.phase_pairs.specs.enc_phase.Phases.{is_quiet}
use Rattle.phase_pairs.specs.enc_phase.Taking.{allows, ctrl_class}
use Rattle.phase_pairs.specs.declared.joint.PhaseEvent.{PhaseEvent}
use Rattle.phase_pairs.specs.declared.joint.PhaseEvent.TheVariants.{CentralTakes as central_takes_event, PeripheralTakes as peripheral_takes_event}
use Rattle.phase_pairs.specs.declared.joint.PhaseLink.{PhaseLink}
use Rattle.phase_pairs.specs.declared.joint.PhaseWay.{PhaseWay}
use Rattle.phase_pairs.specs.Agreement as machine
use Rattle.phase_pairs.specs.Agreement.{has_meaning, has_place, is_equal, is_sealing_right, is_step_right}
use Rattle.phase_pairs.specs.JointRun.{is_way_taken, phases_may}
use Rattle.phase_pairs.proofs.Proved.{sealing_right}
use Rattle.joint_controls.specs.phased_control.Taken.{Response}
use Rattle.joint_controls.specs.Joint.{Joint, JointStep, Way, CentralTakes, Clear, Control, Data, Fixed, OnAir, PeripheralTakes, Taken, is_running, is_taken, is_terminate, item_on_air, may_act}
use Rattle.joint_phases.specs.Agreement.{is_allowed_right, is_opened_right, is_sealing_agreed, is_taken_right}
use Rattle.joint_phases.specs.Classes.{class_down, class_up}
use Rattle.joint_phases.specs.Facts.{Facts}
use Rattle.joint_phases.specs.Parts.{IsShown, way_down, way_up}
use Rattle.joint_phases.proofs.JointCentral.{Runs, runs}
use Rattle.joint_phases.proofs.JointCentralTakes as central_takes
use Rattle.joint_phases.proofs.JointPeripheralTakes as peripheral_takes
use Rattle.joint_phases.proofs.MachineFacts.{Settled}
use Rattle.joint_phases.proofs.Steps.{Shows, right_in, settled_in}
use Rattle.joint_phases.proofs.Ways.{taken_same}

-- ---- sealing

opened_down : (role : Role) (phase : PhaseFacts) (knows : Bool) (w : Way) → is_opened_right role phase w ≡ machine.is_opened_right role phase (way_down knows w)
opened_down role phase knows Clear = refl
opened_down role phase knows (Fixed item sealed) = refl
opened_down role phase knows (OnAir item sealed) = refl
opened_down role phase knows (Taken item) = refl

opened_up : (role : Role) (phase : PhaseFacts) (knows : Bool) (w : Way) → is_opened_right role phase w ≡ machine.is_opened_right role phase (way_up knows w)
opened_up role phase knows Clear = refl
opened_up role phase knows (Fixed item sealed) = refl
opened_up role phase knows (OnAir item sealed) = refl
opened_up role phase knows (Taken item) = refl

pub sealing_agreed : (s : Joint) (m : PhaseLink) → Shows s m → is_sealing_agreed s ≡ true
sealing_agreed s m shows =
    let is = shows.shown in
    let right : is_sealing_right m ≡ true = subst (λ (x : PhaseLink). is_sealing_right x ≡ true) (sym shows.reached.is) (sealing_right shows.reached.events) in
    let parts = and_parts (machine.is_opened_right peripheral_role m.peripheral.phase m.down) (machine.is_opened_right central_role m.central.phase m.up) right in
    and_from _ _
    (opened_down peripheral_role s.peripheral.phase s.central.knows_version s.down
    ∙ (λ i. machine.is_opened_right peripheral_role (is.peripheral.phase i) (sym is.down i)) ∙ parts.0)
    (opened_up central_role s.central.phase s.peripheral.knows_version s.up
    ∙ (λ i. machine.is_opened_right central_role (is.central.phase i) (sym is.up i)) ∙ parts.1)

-- ---- what is taken

-- what is allowed as another class is allowed as its own
allows_all : (phase : PhaseFacts) (role : Role) (k : PduClass) → is_quiet phase ≡ true → allows phase role k ≡ true
allows_all clear_phase role k quiet = refl
allows_all Secure role k quiet = refl
allows_all phase role k quiet = absurd (cc)

other_up : (phase : PhaseFacts) → allows phase central_role Other ≡ true → is_quiet phase ≡ true
other_up clear_phase may = refl
other_up Secure may = refl
other_up (Asked after_pause rsp kept) may = absurd (cc)
other_up phase may = absurd (cc)

abbrev is_plain : PduClass → Bool
is_plain Other = true
is_plain Request = true
is_plain k = false

other_down : (phase : PhaseFacts) (k : PduClass) → is_plain k ≡ true → allows phase peripheral_role k ≡ true → is_quiet phase ≡ true
other_down clear_phase k is may = refl
other_down Secure k is may = refl
other_down (Asked after_pause rsp kept) Other is may = absurd (cc)
other_down phase Other is may = absurd (cc)
other_down (Asked after_pause rsp kept) Request is may = absurd (cc)
other_down phase Request is may = absurd (cc)
other_down phase k is may = absurd (cc)

allowed_up : (knows : Bool) (phase : PhaseFacts) (ctrl : Ctrl) → allows phase central_role (class_up knows ctrl) ≡ true → allows phase central_role (ctrl_class ctrl) ≡ true
allowed_up true phase (VersionInd version company sub) may = allows_all phase central_role Request (other_up phase may)
allowed_up false phase (VersionInd version company sub) may = may
allowed_up knows phase ctrl may = may

allowed_down : (knows : Bool) (phase : PhaseFacts) (ctrl : Ctrl) → allows phase peripheral_role (class_down knows ctrl) ≡ true → allows phase peripheral_role (ctrl_class ctrl) ≡ true
allowed_down true phase (VersionInd version company sub) may = allows_all phase peripheral_role Request (other_down phase Other refl may)
allowed_down false phase (VersionInd version company sub) may = may
allowed_down knows phase (RejectExtInd opcode code) may = allows_all phase peripheral_role _ (other_down phase Other refl may)
allowed_down knows phase (FeatureReq features) may = allows_all phase peripheral_role Other (other_down phase Request refl may)
allowed_down knows phase (ConnectionParamRsp min max latency timeout periodicity reference offsets) may =
    allows_all phase peripheral_role Other (other_down phase Request refl may)
allowed_down knows phase ctrl may = may

-- LL_TERMINATE_IND is allowed everywhere
end_allowed : (role : Role) (phase : PhaseFacts) → (allows phase role Terminate && has_meaning role phase Terminate) ≡ true
end_allowed central_role clear_phase = refl
end_allowed peripheral_role clear_phase = refl
end_allowed central_role Secure = refl
end_allowed peripheral_role Secure = refl
end_allowed central_role (Asked after_pause rsp kept) = refl
end_allowed peripheral_role (Asked after_pause rsp kept) = refl
end_allowed central_role phase = refl
end_allowed peripheral_role phase = refl

end_up : (knows : Bool) (phase : PhaseFacts) (ctrl : Ctrl) → is_terminate ctrl ≡ true
    → (allows phase central_role (ctrl_class ctrl) && has_meaning central_role phase (class_up knows ctrl)) ≡ true
end_up knows phase (TerminateInd code) is = end_allowed central_role phase
end_up knows phase ctrl is = absurd (cc)

end_down : (knows : Bool) (phase : PhaseFacts) (ctrl : Ctrl) → is_terminate ctrl ≡ true
    → (allows phase peripheral_role (ctrl_class ctrl) && has_meaning peripheral_role phase (class_down knows ctrl)) ≡ true
end_down knows phase (TerminateInd code) is = end_allowed peripheral_role phase
end_down knows phase ctrl is = absurd (cc)

-- what a law of the machine needs, with this on its way
record Premises (s : Joint) (m : PhaseLink) : Type 0 where
  is : IsShown s m
  goes : Runs s
  settled : Settled m
  facts : Facts s
  right : (event : PhaseEvent) → phases_may event m ≡ true → is_step_right event m ≡ true

module _ (s : Joint) (m : PhaseLink) (slot : ℕ) (may : not (is_taken s.down) ≡ true) where
  up_control : (outgoing : _) (ctrl : Ctrl) (sealed b : Bool) → is_terminate ctrl ≡ b
      → Premises (record s { up = OnAir (Control outgoing ctrl) sealed }) (record m { up = way_up s.peripheral.knows_version (OnAir (Control outgoing ctrl) sealed) })
      → is_allowed_right central_role s.central.phase (class_up s.peripheral.knows_version) (Some (Control outgoing ctrl)) ≡ true
  up_control outgoing ctrl sealed true ends p = end_up s.peripheral.knows_version s.central.phase ctrl ends
  up_control outgoing ctrl sealed false ends p =
      let h =
      central_takes.right_here s m outgoing ctrl sealed slot p.is (record { goes = p.goes.goes; central = p.goes.central; peripheral = p.goes.peripheral }) p.settled p.facts p.right may ends in
      and_from _ _
      (allowed_up s.peripheral.knows_version s.central.phase ctrl (ap (λ q. allows q central_role (class_up s.peripheral.knows_version ctrl)) p.is.central.phase ∙ h.0))
      (ap (λ q. has_meaning central_role q (class_up s.peripheral.knows_version ctrl)) p.is.central.phase ∙ h.1)

  up_data : (sealed : Bool) → Premises (record s { up = OnAir Data sealed }) (record m { up = way_up s.peripheral.knows_version (OnAir Data sealed) })
      → is_allowed_right central_role s.central.phase (class_up s.peripheral.knows_version) (Some Data) ≡ true
  up_data sealed p =
      let comes = and_from _ _ (ap (λ b. not b) (ap is_way_taken p.is.down ∙ (taken_same s.central.knows_version s.down).0) ∙ may) refl in
      ap (λ q. allows q central_role data_class && has_meaning central_role q data_class) p.is.central.phase ∙ p.right (central_takes_event false) comes

  up_by : (w : Way) → Premises (record s { up = w }) (record m { up = way_up s.peripheral.knows_version w })
      → is_allowed_right central_role s.central.phase (class_up s.peripheral.knows_version) (item_on_air w) ≡ true
  up_by (OnAir Data sealed) p = up_data sealed p
  up_by (OnAir (Control outgoing ctrl) sealed) p = up_control outgoing ctrl sealed (is_terminate ctrl) refl p
  up_by Clear p = refl
  up_by (Fixed item sealed) p = refl
  up_by (Taken item) p = refl

  up_allowed : Premises s m → is_allowed_right central_role s.central.phase (class_up s.peripheral.knows_version) (item_on_air s.up) ≡ true
  up_allowed p = up_by s.up (subst (λ (u : PhaseWay). Premises s (record m { up = u })) p.is.up p)

module _ (s : Joint) (m : PhaseLink) (slot : ℕ) (response : Response) (may : not (is_taken s.up) ≡ true) where
  down_control : (outgoing : _) (ctrl : Ctrl) (sealed b : Bool) → is_terminate ctrl ≡ b
      → Premises (record s { down = OnAir (Control outgoing ctrl) sealed }) (record m { down = way_down s.central.knows_version (OnAir (Control outgoing ctrl) sealed) })
      → is_allowed_right peripheral_role s.peripheral.phase (class_down s.central.knows_version) (Some (Control outgoing ctrl)) ≡ true
  down_control outgoing ctrl sealed true ends p = end_down s.central.knows_version s.peripheral.phase ctrl ends
  down_control outgoing ctrl sealed false ends p =
      let h =
      peripheral_takes.right_here s m outgoing ctrl response sealed slot p.is (record { goes = p.goes.goes; central = p.goes.central; peripheral = p.goes.peripheral }) p.settled p.facts p.right may ends in
      and_from _ _
      (allowed_down s.central.knows_version s.peripheral.phase ctrl (ap (λ q. allows q peripheral_role (class_down s.central.knows_version ctrl)) p.is.peripheral.phase ∙ h.0))
      (ap (λ q. has_meaning peripheral_role q (class_down s.central.knows_version ctrl)) p.is.peripheral.phase ∙ h.1)

  down_data : (sealed : Bool) → Premises (record s { down = OnAir Data sealed }) (record m { down = way_down s.central.knows_version (OnAir Data sealed) })
      → is_allowed_right peripheral_role s.peripheral.phase (class_down s.central.knows_version) (Some Data) ≡ true
  down_data sealed p =
      let comes = and_from _ _ (ap (λ b. not b) (ap is_way_taken p.is.up ∙ (taken_same s.peripheral.knows_version s.up).1) ∙ may) refl in
      let right = p.right (peripheral_takes_event false) comes in
      ap (λ q. allows q peripheral_role data_class && has_meaning peripheral_role q data_class) p.is.peripheral.phase
      ∙ (and_parts (allows m.peripheral.phase peripheral_role data_class && has_meaning peripheral_role m.peripheral.phase data_class)
      (has_place (record m { down = way_down s.central.knows_version (OnAir Data sealed) })) right).0

  down_by : (w : Way) → Premises (record s { down = w }) (record m { down = way_down s.central.knows_version w })
      → is_allowed_right peripheral_role s.peripheral.phase (class_down s.central.knows_version) (item_on_air w) ≡ true
  down_by (OnAir Data sealed) p = down_data sealed p
  down_by (OnAir (Control outgoing ctrl) sealed) p = down_control outgoing ctrl sealed (is_terminate ctrl) refl p
  down_by Clear p = refl
  down_by (Fixed item sealed) p = refl
  down_by (Taken item) p = refl

  down_allowed : Premises s m → is_allowed_right peripheral_role s.peripheral.phase (class_down s.central.knows_version) (item_on_air s.down) ≡ true
  down_allowed p = down_by s.down (subst (λ (u : PhaseWay). Premises s (record m { down = u })) p.is.down p)

not_taken : (a b c : Bool) → (a && (b && c)) ≡ true → b ≡ true
not_taken a b c h = (and_parts b c (and_parts a (b && c) h).1).0

pub taken_right : (s : Joint) (m : PhaseLink) → Shows s m → is_running s ≡ true → Facts s → (step : JointStep) → may_act step s ≡ true
    → is_taken_right step s ≡ true
taken_right s m shows running facts (CentralTakes slot) may =
    up_allowed s m slot (not_taken (is_some (item_on_air s.up)) (not (is_taken s.down)) _ may)
    (record { is = shows.shown; goes = runs s running; settled = settled_in m shows.reached; facts = facts; right = right_in m shows.reached })
taken_right s m shows running facts (PeripheralTakes slot response) may =
    down_allowed s m slot response (not_taken (is_some (item_on_air s.down)) (not (is_taken s.up)) _ may)
    (record { is = shows.shown; goes = runs s running; settled = settled_in m shows.reached; facts = facts; right = right_in m shows.reached })
taken_right s m shows running facts step may = refl
