-- Which links a side opens as their peripheral: it heard the CONNECT_IND, which answers its advertisement and comes
-- from a device that may connect (Core 5.2, volume 6 part B, sections 2.3.1, 2.3.3.1, 4.3.2, 4.4.2.3, 4.4.2.4 and 4.5).
use Rattle.std.specs.Prelude.{◌≡◌, ℕ, ◌+◌, ◌==◌, ◌&&◌, Bool, true, false, List, ◌∷◌, ◌++◌, fold, length, Option, Some, None, if◌then◌else◌}
use Rattle.std.specs.List.{list_any}
use Rattle.ble_base.specs.Side.{other_side}
use Rattle.ble_base.specs.declared.addresses.Address.{Address}
use Rattle.ble_base.specs.declared.roles.Role.{Role}
use Rattle.ble_base.specs.declared.roles.Role.TheVariants.{Central, Peripheral}
use Rattle.ble_base.specs.declared.roles.Side.{Side}
use Rattle.ble_base.specs.declared.verdicts.Verdict.TheVariants.{Good}
use Rattle.adv_pdu.specs.declared.pdu.AdvPdu.{AdvPdu}
use Rattle.adv_pdu.specs.declared.pdu.AdvPdu.TheVariants.{Ind, Direct, Connect}
use Rattle.adv_pdu.specs.declared.pdu.ConnectFields.{ConnectFields}
use Rattle.adv_pdu.specs.Ranges.{is_in_range}
use Rattle.advertise.specs.Answers.{lets_connect}
use Rattle.journal.specs.declared.entries.Entry.{Entry}
use Rattle.journal.specs.declared.entries.Entry.TheVariants.{Turn, Air, Opened}
use Rattle.journal.specs.declared.entries.Mark.{Mark}
use Rattle.scan_init.specs.Addresses.{is_same_address}
use Rattle.journal_data.specs.controller_model.Packets.{pdu_heard}
use Rattle.journal_data.specs.run_model.Links.{is_advertising}
use Rattle.journal_data.specs.journal_links.Begun.{links_begun}
use Rattle.journal_data.specs.journal_packets.Belonging.{is_side}
use Rattle.journal_data.specs.Held.{links_open}
use Rattle.journal_data.specs.HostLines.{OpenUnder}
use Rattle.journal_hearings.specs.Connects.{ConnectLine, connect_numbered}
use Rattle.journal_hearings.specs.Settings.{accept_list, filter_policy}
use Rattle.journal_hearings.specs.Taken.{HasHeardConnect}

-- ---- the advertisement

-- a CONNECT_IND answers an ADV_IND or an ADV_DIRECT_IND, and no other PDU
abbrev pub newer_offer : Option AdvPdu → Option AdvPdu → Option AdvPdu
newer_offer last (Some (Ind from ch_sel body)) = Some (Ind from ch_sel body)
newer_offer last (Some (Direct from to ch_sel)) = Some (Direct from to ch_sel)
newer_offer last other = last

abbrev pub offer_after : Side → Option AdvPdu → Entry → Option AdvPdu
offer_after side last (Turn slot a_on b_on) = None
offer_after side last (Air sender channel octets fate verdict) =
    if is_side sender side && is_advertising channel then newer_offer last (pdu_heard channel octets) else last
offer_after side last _ = last

-- the last one of a side in the turn that is under way after these entries
abbrev pub offer_in : Side → List Entry → Option AdvPdu
offer_in side front = fold (offer_after side) None front

-- with this filter policy and this accept list the device with the one address may connect to that with the other:
-- after an ADV_IND to its AdvA where the policy lets it, and after an ADV_DIRECT_IND to its AdvA where it is TargetA
-- itself, whatever the policy is (section 4.3.2)
abbrev pub lets_in : Option AdvPdu → (policy : ℕ) (list : List Address) (from to : Address) → Bool
lets_in (Some (Ind own ch_sel body)) policy list from to =
    is_same_address own to && lets_connect policy list from
lets_in (Some (Direct own target ch_sel)) policy list from to =
    is_same_address own to && is_same_address target from
lets_in other policy list from to = false

-- ---- the links that are open

-- the side with this address has begun or taken a link with the peer with that address
abbrev pub is_between : Side → Address → Address → Option ConnectLine → Bool
is_between side own peer None = false
is_between side own peer (Some connect) =
    if is_side connect.central side
    then (is_same_address own connect.from && is_same_address peer connect.to)
    else (is_same_address own connect.to && is_same_address peer connect.from)

-- a link between these two addresses is open at a side
abbrev pub is_linked : Side → Address → Address → List Entry → Bool
is_linked side own peer front =
    list_any (λ (one : OpenUnder). is_between side own peer (connect_numbered one.link front)) (links_open side front)

-- ---- the links to be opened

-- a side that heard a CONNECT_IND from one address to another, which comes after these entries, is to open its link
pub record IsToOpen (side : Side) (front : List Entry) (from to : Address) (fields : ConnectFields) : Type 0 where
  -- it answers an advertisement of this turn, to whose sender the device may connect
  pub lets : lets_in (offer_in side front) (filter_policy side front) (accept_list side front) from to ≡ true
  -- its fields are in their ranges
  pub in_range : is_in_range fields ≡ true
  -- a second link between two devices is not opened
  pub new : is_linked side to from front ≡ false

abbrev pub is_peripheral : Role → Bool
is_peripheral Peripheral = true
is_peripheral Central = false

abbrev pub takes : Side → ℕ → Entry → Bool
takes side number (Opened other link handle role) = is_peripheral role && is_side other side && link == number
takes side number _ = false

-- one of these lines says that this side holds the link with this number from there on, as its peripheral
abbrev pub is_taken_by : Side → ℕ → List Entry → Bool
is_taken_by side number journal = list_any (takes side number) journal

-- each such link is opened
abbrev pub HeardLinksAreOpened : List Entry → Type 0
HeardLinksAreOpened journal =
    (front rest : List Entry) (side : Side) (channel : ℕ) (octets : List ℕ) (fate : Mark) (from to : Address)
    (ch_sel : Bool) (fields : ConnectFields) → journal ≡ front ++ Air side channel octets fate Good ∷ rest
    → is_advertising channel ≡ true → pdu_heard channel octets ≡ Some (Connect from to ch_sel fields)
    → IsToOpen (other_side side) front from to fields
    → is_taken_by (other_side side) (length (links_begun front) + 1) journal ≡ true

-- before the next turn
abbrev pub AllHeardLinksAreOpened : List Entry → Type 0
AllHeardLinksAreOpened journal = (front rest : List Entry) (slot : ℕ) (a_on : Bool) (b_on : Option Bool)
    → journal ≡ front ++ Turn slot a_on b_on ∷ rest → HeardLinksAreOpened front

-- ---- and no others

-- this side heard the CONNECT_IND of this link, and was to open the link
pub record WasToOpen (side : Side) (number : ℕ) (front : List Entry) : Type 0 where
  pub heard : HasHeardConnect side number front
  pub to_open : IsToOpen side heard.before heard.from heard.to heard.fields

-- so it is with each link that a side opens as its peripheral
abbrev pub OpenedLinksWereToOpen : List Entry → Type 0
OpenedLinksWereToOpen journal = (front rest : List Entry) (side : Side) (number handle : ℕ)
    → journal ≡ front ++ Opened side number handle Peripheral ∷ rest → WasToOpen side number front
