-- The proof of the law `ends_send_pdus_of_their_role`.
use Rattle.joint_exchanges.proofs.Few.{all_roles, meant_roles, none_rejects}
use Rattle.joint_exchanges.proofs.laws.ends_send_pdus_of_their_role.Goals as goal

pub returns-clause-known : goal.returns-clause-known
returns-clause-known c = λ central_rx peripheral_rx first slot steps on. all_roles central_rx peripheral_rx first slot steps on

pub returns-clause-meant : goal.returns-clause-meant
returns-clause-meant c = λ central_rx peripheral_rx first slot steps on. meant_roles central_rx peripheral_rx first slot steps on

pub returns-clause-rejections : goal.returns-clause-rejections
returns-clause-rejections c = λ central_rx peripheral_rx first slot steps on. none_rejects central_rx peripheral_rx first slot steps on
