-- Proof of `both_ends::commands_leave_ends_linked`.
use Rattle.link_commands.specs.open_links.link_model.Facts.{Facts}
use Rattle.link_pairs.specs.Parting.{ArePartingFrom}
use Rattle.link_pairs.specs.Shown.{AreLinked}
use Rattle.host_asks.proofs.PairsCommanded.{command_leaves}
use Rattle.host_asks.proofs.both_ends.commands_leave_ends_linked.Goals as goal

pub returns-clause-central : goal.returns-clause-central
returns-clause-central g =
    λ central peripheral turns answers c p view command handle moment ends linked ok about known words.
    command_leaves (λ (f : Facts). AreLinked central peripheral turns answers f p) central c linked
    (λ step may. g.hosts_leave_ends_linked.ensures.central central peripheral turns answers c p step ends linked may)
    view command handle moment ok about known words

pub returns-clause-peripheral : goal.returns-clause-peripheral
returns-clause-peripheral g =
    λ central peripheral turns answers c p view command handle moment ends linked ok about known words.
    command_leaves (λ (f : Facts). AreLinked central peripheral turns answers c f) peripheral p linked
    (λ step may. g.hosts_leave_ends_linked.ensures.peripheral central peripheral turns answers c p step ends linked may)
    view command handle moment ok about known words

pub returns-clause-taker : goal.returns-clause-taker
returns-clause-taker g =
    λ taker sender t s view command handle moment parting ok about known words.
    command_leaves (λ (f : Facts). ArePartingFrom taker sender f s) taker t parting
    (λ step may. g.hosts_leave_ends_parting.ensures.taker taker sender t s step parting may)
    view command handle moment ok about known words

pub returns-clause-sender : goal.returns-clause-sender
returns-clause-sender g =
    λ taker sender t s view command handle moment parting ok about known words.
    command_leaves (λ (f : Facts). ArePartingFrom taker sender t f) sender s parting
    (λ step may. g.hosts_leave_ends_parting.ensures.sender taker sender t s step parting may)
    view command handle moment ok about known words
