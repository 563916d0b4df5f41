-- The procedures that exclude each other, and their PDUs (Core 5.2, volume 6 part B, section 5.3).
use Rattle.std.specs.Prelude.{Bool, true, false, Option, Some, None}
use Rattle.exclusive_stages.specs.declared.pdus.Exclusive.{Exclusive}
use Rattle.exclusive_stages.specs.declared.pdus.Exclusive.TheVariants.{Update, Request, Map, Phy}
use Rattle.exclusive_stages.specs.declared.pdus.Reason.{Reason}
use Rattle.exclusive_stages.specs.declared.pdus.Reason.TheVariants.{SameKind, OtherKind}
use Rattle.exclusive_stages.specs.declared.pdus.Pdu.{Pdu}
use Rattle.exclusive_stages.specs.declared.pdus.Pdu.TheVariants.{UpdateInd, GrantInd, MapInd, PhyReq, ParamReq, RejectParam, RejectPhy}

abbrev pub is_kind : Option Exclusive → Exclusive → Bool
is_kind (Some Update) Update = true
is_kind (Some Request) Request = true
is_kind (Some Map) Map = true
is_kind (Some Phy) Phy = true
is_kind kind other = false

-- the error of a collision: 23 where the kinds are the same, else 2A (section 5.3)
abbrev pub reason_of : Exclusive → Exclusive → Reason
reason_of Update Update = SameKind
reason_of Request Request = SameKind
reason_of Map Map = SameKind
reason_of Phy Phy = SameKind
reason_of own other = OtherKind

-- the rejection of a procedure of the peripheral
abbrev pub rejection_of : Exclusive → Reason → Pdu
rejection_of Phy reason = RejectPhy reason
rejection_of kind reason = RejectParam reason

-- the first PDU of a procedure
abbrev pub first_pdu_of : Exclusive → Pdu
first_pdu_of Update = UpdateInd
first_pdu_of Request = ParamReq
first_pdu_of Map = MapInd
first_pdu_of Phy = PhyReq

-- the procedure of a peripheral that a PDU begins
abbrev pub first_kind : Pdu → Option Exclusive
first_kind ParamReq = Some Request
first_kind PhyReq = Some Phy
first_kind pdu = None

-- a PDU with an instant
abbrev pub is_timed : Pdu → Bool
is_timed UpdateInd = true
is_timed GrantInd = true
is_timed MapInd = true
is_timed pdu = false

-- what a central sends only after the instant of its last indication (our choice)
abbrev pub is_held_back : Pdu → Bool
is_held_back UpdateInd = true
is_held_back GrantInd = true
is_held_back MapInd = true
is_held_back PhyReq = true
is_held_back pdu = false

abbrev pub is_request : Pdu → Bool
is_request ParamReq = true
is_request pdu = false
