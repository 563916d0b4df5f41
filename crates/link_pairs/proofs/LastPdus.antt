-- What the table of an end has as its last PDU is on its way, in a link that is reached by its steps.
use Rattle.std.proofs.Common.{◌≡◌, subst}
use Rattle.joint_laws.specs.joint_controls.Ends.{outgoing_on}
use Rattle.joint_laws.specs.joint_controls.Joint.{Joint}
use Rattle.joint_laws.proofs.joint_controls.LastPdus.{first_tied, tied}
use Rattle.joint_laws.specs.joint_parameters.Turns.{Link}
use Rattle.link_model.specs.Setup.{Setup, first_anchor, first_params}
use Rattle.link_pairs.specs.Ends.{AreEnds}
use Rattle.link_pairs.specs.Sound.{first_joint}
use Rattle.link_pairs.proofs.JointRuns.{has_run}
use Rattle.link_pairs.proofs.Reaching.{IsReached}

pub record AreLast (j : Joint) : Type 0 where
  pub central : j.central.control.table.out ≡ outgoing_on j.down
  pub peripheral : j.peripheral.control.table.out ≡ outgoing_on j.up

module _ (central peripheral : Setup) (ends : AreEnds central peripheral) where
  pub last_reached : (l : Link) → IsReached central peripheral l → AreLast l.joint
  last_reached l r =
      let run = has_run central peripheral ends l r in
      let t =
      tied run.steps (first_joint central peripheral)
      (first_tied central.link.max_rx peripheral.link.max_rx (first_params central.link.fields) (first_anchor central)) in
      subst AreLast run.reaches (record { central = t.central; peripheral = t.peripheral })
