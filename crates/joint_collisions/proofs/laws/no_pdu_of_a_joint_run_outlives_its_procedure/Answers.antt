-- The proof of the law `no_pdu_of_a_joint_run_outlives_its_procedure`.
use Rattle.std.proofs.Common.{refl}
use Rattle.joint_collisions.specs.Views.{view_of}
use Rattle.joint_collisions.proofs.Reaching.{now_of, sound_of}
use Rattle.joint_collisions.proofs.Resting.{firsts_right, none_queued}
use Rattle.joint_collisions.proofs.Runs.{before_of}
use Rattle.joint_collisions.proofs.laws.no_pdu_of_a_joint_run_outlives_its_procedure.Goals as goal

pub returns-clause-first : goal.returns-clause-first
returns-clause-first c =
    λ s state runs.
    let k = (before_of s state runs).holds.seen.reached in
    firsts_right (now_of (view_of s) k).link (sound_of (view_of s) k).known refl

pub returns-clause-queued : goal.returns-clause-queued
returns-clause-queued c =
    λ s state runs own peer.
    let k = (before_of s state runs).holds.seen.reached in
    none_queued (now_of (view_of s) k).link (sound_of (view_of s) k).known own peer
