-- A side is the peripheral of a link where it heard the CONNECT_IND of that link, in the same turn (Core 5.2, volume 6
-- part B, sections 4.4.2.3, 4.4.2.4 and 4.5).
use Rattle.std.specs.Prelude.{◌≡◌, ℕ, ◌+◌, Bool, true, List, [], ◌∷◌, ◌++◌, length, Some}
use Rattle.ble_base.specs.Side.{other_side}
use Rattle.ble_base.specs.declared.addresses.Address.{Address}
use Rattle.ble_base.specs.declared.roles.Role.TheVariants.{Peripheral}
use Rattle.ble_base.specs.declared.roles.Side.{Side}
use Rattle.ble_base.specs.declared.verdicts.Verdict.TheVariants.{Good}
use Rattle.adv_pdu.specs.declared.pdu.AdvPdu.TheVariants.{Connect}
use Rattle.adv_pdu.specs.declared.pdu.ConnectFields.{ConnectFields}
use Rattle.journal.specs.declared.entries.Entry.{Entry}
use Rattle.journal.specs.declared.entries.Entry.TheVariants.{Air, Opened}
use Rattle.journal.specs.declared.entries.Mark.{Mark}
use Rattle.journal_data.specs.controller_model.Packets.{pdu_heard}
use Rattle.journal_data.specs.run_model.Links.{is_advertising}
use Rattle.journal_data.specs.run_model.Readers.{turns_of}
use Rattle.journal_data.specs.journal_links.Begun.{links_begun}

-- this side heard the CONNECT_IND of the link with this number, in the turn that is under way after these entries
pub record HasHeardConnect (side : Side) (number : ℕ) (front : List Entry) : Type 0 where
  -- the entries before it, and those after it
  pub before : List Entry
  pub between : List Entry
  pub channel : ℕ
  pub octets : List ℕ
  pub fate : Mark
  -- what its PDU says
  pub from : Address
  pub to : Address
  pub ch_sel : Bool
  pub fields : ConnectFields
  pub is_at : front ≡ before ++ Air (other_side side) channel octets fate Good ∷ between
  pub in_turn : turns_of between ≡ []
  pub on_channel : is_advertising channel ≡ true
  pub says : pdu_heard channel octets ≡ Some (Connect from to ch_sel fields)
  pub number_is : number ≡ length (links_begun before) + 1

-- so it is with each link that a side holds as its peripheral
abbrev pub AllTakenLinksAreHeard : List Entry → Type 0
AllTakenLinksAreHeard journal = (front rest : List Entry) (side : Side) (number handle : ℕ)
    → journal ≡ front ++ Opened side number handle Peripheral ∷ rest → HasHeardConnect side number front
