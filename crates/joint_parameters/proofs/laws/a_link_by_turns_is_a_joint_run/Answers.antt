-- The proof of the law `a_link_by_turns_is_a_joint_run`.
use Rattle.joint_parameters.proofs.Linking.{joint_all_come, joint_comes, joint_run, stays_paired, turn_comes, turns_reached}
use Rattle.joint_parameters.proofs.laws.a_link_by_turns_is_a_joint_run.Goals as goal

pub returns-clause-turn_comes : goal.returns-clause-turn_comes
returns-clause-turn_comes c = λ crx prx first slot turns steps step latency not_over interval range links. turn_comes crx prx first slot latency turns not_over interval steps range links step

pub returns-clause-joint_comes : goal.returns-clause-joint_comes
returns-clause-joint_comes c = λ crx prx first slot turns steps step latency not_over interval range links. joint_comes crx prx first slot latency turns not_over interval steps range links step

pub returns-clause-paired : goal.returns-clause-paired
returns-clause-paired c = λ crx prx first slot turns steps latency not_over interval range links. stays_paired crx prx first slot latency turns not_over interval steps range links

pub returns-clause-reached : goal.returns-clause-reached
returns-clause-reached c = λ crx prx first slot turns steps latency not_over interval range links. turns_reached crx prx first slot latency turns not_over interval steps range links

pub returns-clause-joint : goal.returns-clause-joint
returns-clause-joint c = λ crx prx first slot turns steps latency not_over interval range links. joint_run crx prx first slot latency turns not_over interval steps range links

pub returns-clause-joint_all_come : goal.returns-clause-joint_all_come
returns-clause-joint_all_come c = λ crx prx first slot turns steps latency not_over interval range links. joint_all_come crx prx first slot latency turns not_over interval steps range links
