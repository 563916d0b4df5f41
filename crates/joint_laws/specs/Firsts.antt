-- Where the first PDUs of the procedures that exclude each other are in a joint run of these (Core 5.2, volume 6
-- part B, section 5.3).
use Rattle.std.specs.Prelude.{Bool, true, false, not, ◌&&◌, ◌||◌, List, [], ◌∷◌, is_none}
use Rattle.exclusive_stages.specs.declared.pdus.Pdu.{Pdu}
use Rattle.exclusive_stages.specs.declared.pdus.Pdu.TheVariants.{ParamReq, PhyReq}
use Rattle.exclusive_stages.specs.declared.stages.CentralStage.{CentralStage}
use Rattle.exclusive_stages.specs.declared.stages.CentralStage.TheVariants.{PhyUnsent}
use Rattle.exclusive_stages.specs.declared.stages.PeripheralStage.{PeripheralStage}
use Rattle.exclusive_stages.specs.Held.{own_held_at_peripheral}
use Rattle.exclusive_stages.specs.Kinds.{is_idle_at_peripheral}
use Rattle.collisions.specs.declared.joint.Link.{Link}
use Rattle.collisions.specs.Agreement.{is_phy_request, untaken}
use Rattle.collisions.specs.JointRun.{is_pdu}

abbrev pub has : (Pdu → Bool) → List Pdu → Bool
has test [] = false
has test (pdu ∷ pdus) = test pdu || has test pdus

-- ---- at a peripheral

abbrev pub is_first : Pdu → Bool
is_first ParamReq = true
is_first PhyReq = true
is_first pdu = false

-- none waits, is untaken or is kept
abbrev pub has_no_first : Link → Bool
has_no_first s =
    not (has is_first s.peripheral.queue.items) && (not (is_pdu is_first (untaken s.up)) && is_none s.kept)

-- the peripheral runs none of these procedures, or one that is over once an indication holds
abbrev pub is_over : PeripheralStage → Bool
is_over own = is_idle_at_peripheral (own_held_at_peripheral own)

abbrev pub over_has_no_first : Link → Bool
over_has_no_first s = not (is_over s.peripheral.own) || has_no_first s

-- ---- at a central

abbrev pub is_phy_unsent : CentralStage → Bool
is_phy_unsent PhyUnsent = true
is_phy_unsent own = false

-- LL_PHY_REQ waits only until it is sent
abbrev pub phy_waits_unsent : Link → Bool
phy_waits_unsent s = not (has is_phy_request s.central.queue.items) || is_phy_unsent s.central.own

abbrev pub are_firsts_right : Link → Bool
are_firsts_right s = over_has_no_first s && phy_waits_unsent s
