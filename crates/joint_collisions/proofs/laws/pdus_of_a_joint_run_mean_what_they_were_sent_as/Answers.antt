-- The proof of the law `pdus_of_a_joint_run_mean_what_they_were_sent_as`.
use Rattle.data_pdu.specs.declared.ctrl.Ctrl.{Ctrl}
use Rattle.collision_steps.specs.procedure_values.declared.drafts.Outgoing.{Outgoing}
use Rattle.collision_steps.specs.procedure_values.declared.drafts.Draft.TheVariants.{Grant, Update}
use Rattle.collision_steps.specs.procedure_values.declared.drafts.Outgoing.TheVariants.{Other, Rejection}
use Rattle.joint_controls.specs.Joint.{CentralTakes, Joint, PeripheralTakes, is_running, may_act}
use Rattle.std.proofs.lemmas.Bool.{and_parts}
use Rattle.joint_collisions.specs.Arrivals.{CentralMayTake, PeripheralMayTake}
use Rattle.joint_collisions.specs.Facts.{IsState}
use Rattle.joint_collisions.proofs.EachStep.{Before}
use Rattle.joint_collisions.proofs.Findings.{answer_reads, finds_free, phy_reads, reads_down, reads_up, request_reads, update_reads}
use Rattle.joint_collisions.proofs.Runs.{before_of}
use Rattle.joint_collisions.proofs.laws.pdus_of_a_joint_run_mean_what_they_were_sent_as.Goals as goal

side : (s : Joint) (outgoing : Outgoing) (ctrl : Ctrl) → IsState s → PeripheralMayTake s outgoing ctrl → Before s
side s outgoing ctrl state t = before_of s state (and_parts (is_running s) (may_act (PeripheralTakes t.slot t.response) s) t.comes).0

center : (s : Joint) (outgoing : Outgoing) (ctrl : Ctrl) → IsState s → CentralMayTake s outgoing ctrl → Before s
center s outgoing ctrl state t = before_of s state (and_parts (is_running s) (may_act (CentralTakes t.slot) s) t.comes).0

pub returns-clause-down : goal.returns-clause-down
returns-clause-down c = λ s outgoing ctrl pdu state t part. reads_down s (side s outgoing ctrl state t) outgoing ctrl t pdu part

pub returns-clause-up : goal.returns-clause-up
returns-clause-up c = λ s outgoing ctrl pdu state t part. (reads_up s (center s outgoing ctrl state t) outgoing ctrl t pdu part).0

pub returns-clause-alone : goal.returns-clause-alone
returns-clause-alone c = λ s outgoing ctrl pdu state t part. (reads_up s (center s outgoing ctrl state t) outgoing ctrl t pdu part).1

pub returns-clause-free : goal.returns-clause-free
returns-clause-free c = λ s outgoing ctrl pdu state t part timed. finds_free s (side s outgoing ctrl state t) outgoing ctrl t pdu part timed

pub returns-clause-update : goal.returns-clause-update
returns-clause-update c = λ s params ctrl state t. update_reads s (side s (Other (Update params)) ctrl state t) ctrl params t

pub returns-clause-answer : goal.returns-clause-answer
returns-clause-answer c = λ s params ctrl state t. answer_reads s (side s (Other (Grant params)) ctrl state t) ctrl params t

pub returns-clause-request : goal.returns-clause-request
returns-clause-request c = λ s rejection ctrl reason state t part. request_reads s (side s (Rejection rejection) ctrl state t) ctrl rejection reason t part

pub returns-clause-phy : goal.returns-clause-phy
returns-clause-phy c = λ s rejection ctrl reason state t part. phy_reads s (side s (Rejection rejection) ctrl state t) ctrl rejection reason t part
