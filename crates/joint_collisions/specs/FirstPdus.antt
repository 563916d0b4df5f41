-- The first PDUs of a peripheral that wait, are not taken or are kept belong to the procedure that it runs (our choice
-- of words; Core 5.2, volume 6 part B, section 5.3).
use Rattle.std.specs.Prelude.{Bool, true, ◌&&◌, List, [], ◌∷◌, Option, Some, None}
use Rattle.exclusive_stages.specs.declared.pdus.Exclusive.TheVariants.{Phy, Request}
use Rattle.exclusive_stages.specs.declared.pdus.Pdu.{Pdu}
use Rattle.exclusive_stages.specs.declared.pdus.Pdu.TheVariants.{ParamReq, PhyReq}
use Rattle.exclusive_stages.specs.declared.stages.PeripheralStage.{PeripheralStage}
use Rattle.exclusive_stages.specs.Kinds.{peripheral_kind}
use Rattle.exclusive_stages.specs.Pdus.{is_kind}
use Rattle.collisions.specs.declared.joint.Link.{Link}
use Rattle.collisions.specs.Agreement.{untaken}

abbrev pub is_own_first : PeripheralStage → Pdu → Bool
is_own_first own ParamReq = is_kind (peripheral_kind own) Request
is_own_first own PhyReq = is_kind (peripheral_kind own) Phy
is_own_first own pdu = true

abbrev pub are_own_first : PeripheralStage → List Pdu → Bool
are_own_first own [] = true
are_own_first own (pdu ∷ pdus) = is_own_first own pdu && are_own_first own pdus

abbrev pub is_own_if_some : PeripheralStage → Option Pdu → Bool
is_own_if_some own None = true
is_own_if_some own (Some pdu) = is_own_first own pdu

-- so where it runs none of these procedures there is no such PDU
abbrev pub has_own_first : Link → Bool
has_own_first l =
    are_own_first l.peripheral.own l.peripheral.queue.items
    && (is_own_if_some l.peripheral.own (untaken l.up) && is_own_if_some l.peripheral.own l.kept)
