-- The proof of the law `hosts_leave_ends_linked`.
use Rattle.link_pairs.proofs.Hosting.{central_hosts, peripheral_hosts}
use Rattle.link_pairs.proofs.laws.hosts_leave_ends_linked.Goals as goal

pub returns-clause-central : goal.returns-clause-central
returns-clause-central g = λ central peripheral turns answers c p step ends linked. central_hosts central peripheral ends turns answers c p linked step

pub returns-clause-peripheral : goal.returns-clause-peripheral
returns-clause-peripheral g = λ central peripheral turns answers c p step ends linked. peripheral_hosts central peripheral ends turns answers c p linked step
