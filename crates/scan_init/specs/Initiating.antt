-- Which advertisements an initiator answers, and the CONNECT_IND that it sends (Core 5.2, volume 6 part B, sections
-- 2.3.3.1 and 4.4.4).
use Rattle.std.specs.Prelude.{ℕ, ◌+◌, ◌/◌, ◌%◌, ◌^◌, ◌&&◌, Bool, true, false, List, Option, Some, None}
use Rattle.ble_base.specs.declared.addresses.Address.{Address}
use Rattle.adv_pdu.specs.declared.pdu.AdvPdu.{AdvPdu}
use Rattle.adv_pdu.specs.declared.pdu.AdvPdu.TheVariants.{Ind, Direct}
use Rattle.adv_pdu.specs.declared.pdu.ConnectFields.{ConnectFields}
use Rattle.adv_pdu.specs.Pdu.{sender_of}
use Rattle.scan_init.specs.declared.initiator.InitParams.{InitParams}
use Rattle.scan_init.specs.Addresses.{is_same_address, is_listed}

-- the PDU is a connectable advertisement, and to this device if it is to one
abbrev pub is_connectable_to : Address → AdvPdu → Bool
is_connectable_to own (Ind from ch_sel body) = true
is_connectable_to own (Direct from to ch_sel) = is_same_address own to
is_connectable_to own other = false

-- the sender is the peer that the host named, or where it named none is in the accept list
abbrev pub is_sought : Option Address → List Address → Address → Bool
is_sought None list sender = is_listed list sender
is_sought (Some peer) list sender = is_same_address peer sender

-- an initiator with these parameters answers the PDU
abbrev pub is_accepted : InitParams → List Address → AdvPdu → Bool
is_accepted params list pdu = is_connectable_to params.own pdu && is_sought params.peer list (sender_of pdu)

-- the fields of the CONNECT_IND: those that the host's command gives, the access address, and the channels that the
-- host lets be used; CRCInit and the hop increment, which is 5 to 16, come from a random word (how is our choice)
abbrev pub connect_fields : ConnectFields → ℕ → ℕ → ℕ → ConnectFields
connect_fields link access word map =
    record link { access = access; crc_init = word % 2 ^ 24; map = map; hop = 5 + word / 2 ^ 24 % 256 % 12 }

-- what an initiator holds: its parameters, and the slot in which it began
pub record InitiatorFacts : Type 0 where
  pub params : InitParams
  pub since : ℕ
