-- The indications that a central of a joint run has queued are owed by its own procedure or to the peripheral (Core 5.2,
-- volume 6 part B, section 5.3).
use Rattle.std.specs.Prelude.{ℕ, nat_le, ◌+◌, ◌&&◌, Bool}
use Rattle.collisions.specs.declared.central.Central.{Central}
use Rattle.collisions.specs.declared.joint.Link.{Link}
use Rattle.exclusive_stages.specs.declared.pdus.Exclusive.{Exclusive}
use Rattle.exclusive_stages.specs.declared.pdus.Exclusive.TheVariants.{Map, Phy, Update}
use Rattle.exclusive_stages.specs.declared.stages.PeerAtCentral.{PeerAtCentral}
use Rattle.exclusive_stages.specs.declared.stages.PeerAtCentral.TheVariants.{GrantUnsent, PhyIndUnsent}
use Rattle.link_answers.specs.Owing.{is_indication_of, number, owing}

-- how many are owed to the peripheral
abbrev pub owing_peer : Exclusive → PeerAtCentral → ℕ
owing_peer Update GrantUnsent = 1
owing_peer Phy PhyIndUnsent = 1
owing_peer kind peer = 0

abbrev pub is_owed : Exclusive → Central → Bool
is_owed kind t = nat_le (number (is_indication_of kind) t.queue.items) (owing kind t.own + owing_peer kind t.peer)

abbrev pub are_indications_owed : Link → Bool
are_indications_owed s = is_owed Update s.central && (is_owed Map s.central && is_owed Phy s.central)
