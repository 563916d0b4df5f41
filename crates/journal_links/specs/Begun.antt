-- The links of a journal: the n-th CONNECT_IND on the air begins link n, from 1 (our choice). It was sent by the
-- central (Core 5.2, volume 6 part B, sections 2.3.3.1 and 4.5), and answers an advertisement of the peripheral
-- (section 2.3.1).
use Rattle.std.specs.Prelude.{ℕ, zero, suc, ◌-◌, ◌&&◌, Bool, false, List, [], ◌∷◌, ◌++◌, fold, length, Option, Some, None, slice_get, if◌then◌else◌}
use Rattle.ble_base.specs.Side.{other_side}
use Rattle.ble_base.specs.declared.roles.Side.{Side}
use Rattle.adv_pdu.specs.declared.pdu.AdvPdu.{AdvPdu}
use Rattle.adv_pdu.specs.declared.pdu.AdvPdu.TheVariants.{Ind, Direct, Connect}
use Rattle.adv_pdu.specs.declared.pdu.ConnectFields.{ConnectFields}
use Rattle.journal.specs.declared.entries.Entry.{Entry}
use Rattle.journal.specs.declared.entries.Entry.TheVariants.{Turn, Air}
use Rattle.run_laws.specs.controller_model.Packets.{pdu_heard}
use Rattle.run_laws.specs.run_model.Links.{is_advertising}
use Rattle.run_laws.specs.run_model.Readers.{of_side, turns_of}

-- ---- the advertisement

-- ChSel of an ADV_IND or ADV_DIRECT_IND: a CONNECT_IND answers no other PDU
abbrev pub offers_of : Option AdvPdu → List Bool
offers_of (Some (Ind from ch_sel body)) = ch_sel ∷ []
offers_of (Some (Direct from to ch_sel)) = ch_sel ∷ []
offers_of other = []

abbrev pub offers_after : Side → List Bool → Entry → List Bool
offers_after side offers (Turn slot a_on b_on) = []
offers_after side offers (Air sender channel octets fate verdict) =
    of_side side sender (if is_advertising channel then offers_of (pdu_heard channel octets) else []) ++ offers
offers_after side offers other = offers

-- the offers of a side in the turn that is under way after these entries, the last one first
abbrev pub offers_in : Side → List Entry → List Bool
offers_in side front = fold (offers_after side) [] front

abbrev pub is_offered : List Bool → Bool
is_offered [] = false
is_offered (offer ∷ earlier) = offer

-- ---- the links

pub record LinkBegun : Type 0 where
  -- the side that sent the CONNECT_IND
  pub central : Side
  -- the turn in which it was on the air
  pub slot : ℕ
  pub fields : ConnectFields
  -- both it and the advertisement that it answers offer channel selection algorithm #2
  pub two : Bool

abbrev pub begun_by : Side → ℕ → Bool → Option AdvPdu → List LinkBegun
begun_by side slot offered None = []
begun_by side slot offered (Some (Connect from to ch_sel fields)) =
    record { central = side; slot = slot; fields = fields; two = ch_sel && offered } ∷ []
begun_by side slot offered (Some other) = []

-- the link that an entry begins, which comes after these entries
abbrev pub begun_in : List Entry → Entry → List LinkBegun
begun_in front (Air side channel octets fate verdict) =
    if is_advertising channel
    then begun_by side (length (turns_of front) - 1) (is_offered (offers_in (other_side side) front)) (pdu_heard channel octets)
    else []
begun_in front _ = []

abbrev pub links_from : List Entry → List Entry → List LinkBegun
links_from front [] = []
links_from front (entry ∷ entries) = begun_in front entry ++ links_from (front ++ entry ∷ []) entries

unfoldable pub links_begun : List Entry → List LinkBegun
links_begun journal = links_from [] journal

abbrev pub with_number : ℕ → List LinkBegun → Option LinkBegun
with_number zero links = None
with_number (suc number) links = slice_get links number

-- the link with this number
abbrev pub link_numbered : ℕ → List Entry → Option LinkBegun
link_numbered number journal = with_number number (links_begun journal)
