-- Which requests an advertiser answers (Core 5.2, volume 6 part B, sections 4.3.2 and 4.4.2.3 to 4.4.2.6, and volume 4
-- part E, section 7.8.5).
use Rattle.std.specs.Prelude.{◌≡◌, ℕ, ◌&&◌, ◌||◌, not, Bool, true, false, List, if◌then◌else◌}
use Rattle.ble_base.specs.Bits.{has_bit}
use Rattle.ble_base.specs.declared.addresses.Address.{Address}
use Rattle.adv_pdu.specs.declared.pdu.AdvPdu.{AdvPdu}
use Rattle.adv_pdu.specs.declared.pdu.AdvPdu.TheVariants.{ScanReq, Connect}
use Rattle.adv_pdu.specs.declared.pdu.ConnectFields.{ConnectFields}
use Rattle.adv_pdu.specs.Ranges.{IsInRange, is_in_range}
use Rattle.advertise.specs.declared.answers.AdvAnswer.{AdvAnswer}
use Rattle.advertise.specs.declared.answers.AdvAnswer.TheVariants.{Ignore, Respond, Connect as Connects}
use Rattle.advertise.specs.declared.params.AdvParams.{AdvParams}
use Rattle.advertise.specs.Advertising.{is_connectable, is_directed, is_scannable}
use Rattle.scan_init.specs.Addresses.{is_listed, is_same_address}

-- the filter policy: with bit 0 a scan request has to come from the accept list, with bit 1 a CONNECT_IND
abbrev pub lets_scan : ℕ → List Address → Address → Bool
lets_scan policy list sender = not (has_bit policy 0) || is_listed list sender

abbrev pub lets_connect : ℕ → List Address → Address → Bool
lets_connect policy list sender = not (has_bit policy 1) || is_listed list sender

-- the sender of a CONNECT_IND is one that may connect: to a directed advertiser the target alone, whatever the policy
-- is, and else one that passes the policy
abbrev pub may_connect : AdvParams → List Address → Address → Bool
may_connect params list sender =
    if is_directed params.kind then is_same_address params.target sender else lets_connect params.policy list sender

-- a SCAN_REQ is answered: it follows an advertisement that may be scanned, is to the advertiser, and passes the policy
abbrev pub is_scan_answered : AdvParams → List Address → Address → Address → Bool
is_scan_answered params list from to =
    is_scannable params.kind && is_same_address params.own to && lets_scan params.policy list from

-- a CONNECT_IND is taken: it follows a connectable advertisement, is to the advertiser, comes from one that may
-- connect, and has its fields in their ranges
abbrev pub is_connect_taken : AdvParams → List Address → Address → Address → ConnectFields → Bool
is_connect_taken params list from to fields =
    is_connectable params.kind && is_same_address params.own to && may_connect params list from && is_in_range fields

-- what an advertiser with these parameters does about a PDU that follows its own advertisement, with this accept list
abbrev pub advertiser_answer : AdvParams → List Address → AdvPdu → AdvAnswer
advertiser_answer params list (ScanReq from to) = if is_scan_answered params list from to then Respond else Ignore
advertiser_answer params list (Connect from to ch_sel fields) =
    if is_connect_taken params list from to fields then Connects fields else Ignore
advertiser_answer params list other = Ignore

-- the conditions of a CONNECT_IND that is taken, in words
pub record IsTaken
    (params : AdvParams) (list : List Address) (from to : Address) (fields : ConnectFields) : Type 0 where
  pub connectable : is_connectable params.kind ≡ true
  pub to_advertiser : to ≡ params.own
  pub from_target : is_directed params.kind ≡ true → from ≡ params.target
  pub from_list : is_directed params.kind ≡ false → has_bit params.policy 1 ≡ true → is_listed list from ≡ true
  pub in_range : IsInRange fields
