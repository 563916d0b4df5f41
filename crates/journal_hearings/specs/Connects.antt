-- The CONNECT_INDs of a journal: the n-th on the air begins link n, from 1 (our choice). Each has the address of the
-- central and that of the peripheral (Core 5.2, volume 6 part B, section 2.3.3.1).
use Rattle.std.specs.Prelude.{ℕ, zero, suc, List, [], ◌∷◌, Option, Some, None, slice_get, if◌then◌else◌}
use Rattle.std.specs.List.{flat_map}
use Rattle.ble_base.specs.declared.addresses.Address.{Address}
use Rattle.ble_base.specs.declared.roles.Side.{Side}
use Rattle.adv_pdu.specs.declared.pdu.AdvPdu.{AdvPdu}
use Rattle.adv_pdu.specs.declared.pdu.AdvPdu.TheVariants.{Connect}
use Rattle.journal.specs.declared.entries.Entry.{Entry}
use Rattle.journal.specs.declared.entries.Entry.TheVariants.{Air}
use Rattle.journal_data.specs.controller_model.Packets.{pdu_heard}
use Rattle.journal_data.specs.run_model.Links.{is_advertising}

pub record ConnectLine : Type 0 where
  -- the side that sent it
  pub central : Side
  -- InitA and AdvA
  pub from : Address
  pub to : Address

abbrev pub pdu_connects : Side → Option AdvPdu → List ConnectLine
pdu_connects side (Some (Connect from to ch_sel fields)) = record { central = side; from = from; to = to } ∷ []
pdu_connects side other = []

abbrev pub entry_connects : Entry → List ConnectLine
entry_connects (Air side channel octets fate verdict) =
    if is_advertising channel then pdu_connects side (pdu_heard channel octets) else []
entry_connects _ = []

abbrev pub all_connects : List Entry → List ConnectLine
all_connects journal = flat_map entry_connects journal

abbrev pub nth_connect : ℕ → List ConnectLine → Option ConnectLine
nth_connect zero connects = None
nth_connect (suc number) connects = slice_get connects number

-- the CONNECT_IND of the link with this number
abbrev pub connect_numbered : ℕ → List Entry → Option ConnectLine
connect_numbered number journal = nth_connect number (all_connects journal)
