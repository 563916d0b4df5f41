-- In a joint run each end queues and sends PDUs of its role alone.
use Rattle.std.proofs.Common.{◌≡◌, ℕ, Bool, true, false, Option, Some, None, refl, subst}
use Rattle.ble_base.specs.declared.roles.Role.{Role}
use Rattle.ble_base.specs.declared.roles.Role.TheVariants.{Central, Peripheral}
use Rattle.data_pdu.specs.declared.ctrl.Ctrl.{Ctrl}
use Rattle.data_pdu.specs.declared.ctrl.CtrlRead.TheVariants.{Known}
use Rattle.joint_controls.specs.enc_phase.Taking.{ctrl_class, is_unknown}
use Rattle.exchange_steps.specs.procedure_values.declared.drafts.Outgoing.{Outgoing}
use Rattle.exchange_steps.specs.procedure_values.Drafts.{ctrl_of_outgoing}
use Rattle.joint_controls.specs.phased_control.Phased.{Phased, is_quiet_now}
use Rattle.joint_controls.specs.phased_control.Taken.{Response, Enters, SeesAcknowledged, Sends, Takes, TakesData, role_now}
use Rattle.joint_controls.specs.Joint.{AnswersRequest, AsksFor, CentralAcked, CentralEnters, CentralHost, CentralSends, CentralSendsData, CentralTakes, Clear, Control, Data, Ends, Fixed, HasKey, HasNoKey, HostStep, Joint, JointStep, OnAir, PeripheralAcked, PeripheralEnters, PeripheralFixes, PeripheralFixesData, PeripheralHost, PeripheralSends, PeripheralTakes, Shuts, Taken, Way, act, event_now, fixed, host_step, item_by, latency_now, next_out, no_response, on_air, sent_up}
use Rattle.joint_exchanges.specs.SentByRole.{AreOfRoles, HasMeaning, HaveMeaning, IsEndOf, IsWayOf, is_outgoing_of}
use Rattle.joint_exchanges.proofs.EndRoles.{Comes, Means, step_end}
use Rattle.joint_exchanges.proofs.JointSteps.{Runs}
use Rattle.joint_exchanges.proofs.Known.{sent_known}
use Rattle.joint_exchanges.proofs.TableRoles.{next_goes}

-- ---- what is sent

sent_way : (unknowns : Bool) (role : Role) (outgoing : Outgoing) (ctrl : Option Ctrl) (event latency : ℕ) (sealed : Bool) → is_outgoing_of unknowns role outgoing ≡ true
    → ctrl_of_outgoing outgoing event latency ≡ ctrl → IsWayOf unknowns role (on_air (item_by outgoing ctrl) sealed)
sent_way unknowns role outgoing None event latency sealed right is = tt
sent_way unknowns role outgoing (Some ctrl) event latency sealed right is = record { right = right; event = event; latency = latency; is = is }

fixed_way : (unknowns : Bool) (role : Role) (outgoing : Outgoing) (ctrl : Option Ctrl) (event latency : ℕ) → is_outgoing_of unknowns role outgoing ≡ true
    → ctrl_of_outgoing outgoing event latency ≡ ctrl → IsWayOf unknowns role (fixed (item_by outgoing ctrl))
fixed_way unknowns role outgoing None event latency right is = tt
fixed_way unknowns role outgoing (Some ctrl) event latency right is = record { right = right; event = event; latency = latency; is = is }

next_right : (unknowns : Bool) (role : Role) (s : Phased) → IsEndOf unknowns role s → is_outgoing_of unknowns role (next_out s) ≡ true
next_right unknowns role s e = (next_goes unknowns role s.control.table (event_now s) (is_quiet_now s) e.table).right

sent_up_of : (unknowns : Bool) (way : Way) (sealed : Bool) → IsWayOf unknowns Peripheral way → IsWayOf unknowns Peripheral (sent_up way sealed)
sent_up_of unknowns (Fixed Data b) sealed of = tt
sent_up_of unknowns (Fixed (Control outgoing ctrl) b) sealed of = of
sent_up_of unknowns Clear sealed of = tt
sent_up_of unknowns (OnAir item b) sealed of = of
sent_up_of unknowns (Taken item) sealed of = of

-- ---- each step

-- a PDU that comes has a meaning, or LL_UNKNOWN_RSP may wait
means_at : (unknowns : Bool) (role : Role) (ctrl : Ctrl) (s : Phased) → role_now s ≡ role → (unknowns ≡ false → is_unknown s.phase role (ctrl_class ctrl) ≡ false)
    → Means unknowns (Known ctrl) s
means_at true role ctrl s r means is = refl
means_at false role ctrl s r means is =
    absurd (let a = means refl in let b = subst (λ (x : Role). is_unknown s.phase x (ctrl_class ctrl) ≡ true) r is in cc)

host_comes : (unknowns : Bool) (role : Role) (step : HostStep) → (s : Phased) → Comes unknowns role (host_step step) s
host_comes unknowns role (AsksFor ask) s = tt
host_comes unknowns role (AnswersRequest answer) s = tt
host_comes unknowns role (Ends reason) s = tt
host_comes unknowns role HasKey s = tt
host_comes unknowns role HasNoKey s = tt

module _ (unknowns : Bool) (s : Joint) (r : AreOfRoles unknowns s) where
  takes_up : (way : Way) (slot : ℕ) → IsWayOf unknowns Peripheral way → (unknowns ≡ false → HasMeaning Central s.central way) → Runs (act (CentralTakes slot) (record s { up = way }))
      → AreOfRoles unknowns (act (CentralTakes slot) (record s { up = way }))
  takes_up (OnAir Data sealed) slot of means runs =
      record { central = step_end unknowns Central TakesData s.central tt r.central runs.central; peripheral = r.peripheral; down = r.down; up = tt }
  takes_up (OnAir (Control outgoing ctrl) sealed) slot of means runs =
      record {
        central = step_end unknowns Central (Takes (Known ctrl) slot no_response) s.central (sent_known unknowns Peripheral outgoing ctrl of, means_at unknowns Central ctrl s.central r.central.table.same_role means) r.central runs.central;
        peripheral = r.peripheral;
        down = r.down;
        up = of;
      }
  takes_up Clear slot of means runs = record { central = r.central; peripheral = r.peripheral; down = r.down; up = tt }
  takes_up (Fixed item sealed) slot of means runs = record { central = r.central; peripheral = r.peripheral; down = r.down; up = of }
  takes_up (Taken item) slot of means runs = record { central = r.central; peripheral = r.peripheral; down = r.down; up = of }

  takes_down : (way : Way) (slot : ℕ) (response : Response) → IsWayOf unknowns Central way
      → (unknowns ≡ false → HasMeaning Peripheral s.peripheral way) → Runs (act (PeripheralTakes slot response) (record s { down = way })) → AreOfRoles unknowns (act (PeripheralTakes slot response) (record s { down = way }))
  takes_down (OnAir Data sealed) slot response of means runs =
      record { central = r.central; peripheral = step_end unknowns Peripheral TakesData s.peripheral tt r.peripheral runs.peripheral; down = tt; up = r.up }
  takes_down (OnAir (Control outgoing ctrl) sealed) slot response of means runs =
      record {
        central = r.central;
        peripheral = step_end unknowns Peripheral (Takes (Known ctrl) slot response) s.peripheral (sent_known unknowns Central outgoing ctrl of, means_at unknowns Peripheral ctrl s.peripheral r.peripheral.table.same_role means) r.peripheral runs.peripheral;
        down = of;
        up = r.up;
      }
  takes_down Clear slot response of means runs = record { central = r.central; peripheral = r.peripheral; down = tt; up = r.up }
  takes_down (Fixed item sealed) slot response of means runs = record { central = r.central; peripheral = r.peripheral; down = of; up = r.up }
  takes_down (Taken item) slot response of means runs = record { central = r.central; peripheral = r.peripheral; down = of; up = r.up }

pub roles_after : (unknowns : Bool) (step : JointStep) (s : Joint) → AreOfRoles unknowns s → (unknowns ≡ false → HaveMeaning s) → Runs (act step s) → AreOfRoles unknowns (act step s)
roles_after unknowns (CentralEnters slot) s r means runs =
    record { central = step_end unknowns Central (Enters slot) s.central tt r.central runs.central; peripheral = r.peripheral; down = r.down; up = r.up }
roles_after unknowns (CentralHost step) s r means runs =
    record { central = step_end unknowns Central (host_step step) s.central (host_comes unknowns Central step s.central) r.central runs.central; peripheral = r.peripheral; down = r.down; up = r.up }
roles_after unknowns (CentralSends slot) s r means runs =
    record {
      central = step_end unknowns Central (Sends slot) s.central tt r.central runs.central;
      peripheral = r.peripheral;
      down = sent_way unknowns Central (next_out s.central) _ (event_now s.central) (latency_now s.central) _ (next_right unknowns Central s.central r.central) refl;
      up = r.up;
    }
roles_after unknowns CentralSendsData s r means runs = record { central = r.central; peripheral = r.peripheral; down = tt; up = r.up }
roles_after unknowns CentralAcked s r means runs =
    record { central = step_end unknowns Central SeesAcknowledged s.central tt r.central runs.central; peripheral = r.peripheral; down = tt; up = r.up }
roles_after unknowns (CentralTakes slot) s r means runs = takes_up unknowns s r s.up slot r.up (λ no. (means no).central) runs
roles_after unknowns (PeripheralEnters slot) s r means runs =
    record { central = r.central; peripheral = step_end unknowns Peripheral (Enters slot) s.peripheral tt r.peripheral runs.peripheral; down = r.down; up = r.up }
roles_after unknowns (PeripheralHost step) s r means runs =
    record { central = r.central; peripheral = step_end unknowns Peripheral (host_step step) s.peripheral (host_comes unknowns Peripheral step s.peripheral) r.peripheral runs.peripheral; down = r.down; up = r.up }
roles_after unknowns (PeripheralFixes slot) s r means runs =
    record {
      central = r.central;
      peripheral = step_end unknowns Peripheral (Sends slot) s.peripheral tt r.peripheral runs.peripheral;
      down = r.down;
      up = fixed_way unknowns Peripheral (next_out s.peripheral) _ (event_now s.peripheral) (latency_now s.peripheral) (next_right unknowns Peripheral s.peripheral r.peripheral) refl;
    }
roles_after unknowns PeripheralFixesData s r means runs = record { central = r.central; peripheral = r.peripheral; down = r.down; up = tt }
roles_after unknowns PeripheralSends s r means runs = record { central = r.central; peripheral = r.peripheral; down = r.down; up = sent_up_of unknowns s.up _ r.up }
roles_after unknowns PeripheralAcked s r means runs =
    record { central = r.central; peripheral = step_end unknowns Peripheral SeesAcknowledged s.peripheral tt r.peripheral runs.peripheral; down = r.down; up = tt }
roles_after unknowns (PeripheralTakes slot response) s r means runs = takes_down unknowns s r s.down slot response r.down (λ no. (means no).peripheral) runs
roles_after unknowns Shuts s r means runs = record { central = r.central; peripheral = r.peripheral; down = r.down; up = r.up }
