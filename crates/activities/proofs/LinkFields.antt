-- What an advertiser sends has no fields of a link, and what it takes has fields that a link may begin with.
use Rattle.std.proofs.Common.{◌≡◌, ℕ, ◌==◌, Bool, true, false, List, refl, ap, if◌then◌else◌}
use Rattle.ble_base.specs.declared.addresses.Address.{Address}
use Rattle.adv_pdu.specs.declared.pdu.AdvPdu.{AdvPdu}
use Rattle.adv_pdu.specs.declared.pdu.AdvPdu.TheVariants.{Connect, ScanReq}
use Rattle.adv_pdu.specs.declared.pdu.ConnectFields.{ConnectFields}
use Rattle.adv_pdu.specs.Pdu.{FitsBits, IsWithinBits}
use Rattle.adv_pdu.specs.Ranges.{IsInRange}
use Rattle.advertise.specs.declared.answers.AdvAnswer.TheVariants.{Ignore, Respond, Connect as Takes}
use Rattle.advertise.specs.declared.params.AdvParams.{AdvParams}
use Rattle.advertise.specs.Advertising.{advertisement}
use Rattle.advertise.specs.Answers.{advertiser_answer, is_connect_taken, is_scan_answered}
use Rattle.advertise.proofs.Takings.{taken_connection}
use Rattle.activities.specs.Fitting.{IsAnswerable}

-- what an advertiser takes has fields that a link may begin with
takes_if : (taken : Bool) (fields : ConnectFields) → (taken ≡ true → IsInRange fields) → IsWithinBits fields → IsAnswerable (if taken then Takes fields else Ignore)
takes_if true fields range bits = record { range = range refl; crc_init = bits.crc_init; sca = bits.sca }
takes_if false fields range bits = tt

responds_if : (answered : Bool) → IsAnswerable (if answered then Respond else Ignore)
responds_if true = tt
responds_if false = tt

pub answer_fits : (params : AdvParams) (list : List Address) (pdu : AdvPdu) → FitsBits pdu → IsAnswerable (advertiser_answer params list pdu)
answer_fits params list (Connect from to ch_sel fields) bits =
    takes_if (is_connect_taken params list from to fields) fields
    (λ is. (taken_connection params list from to ch_sel fields fields (ap (λ taken. if taken then Takes fields else Ignore) is)).0.in_range) bits
answer_fits params list (ScanReq from to) bits = responds_if (is_scan_answered params list from to)
answer_fits params list other bits = tt

-- an advertisement has no fields of a link
fits_if : (test : Bool) (one other : AdvPdu) → FitsBits one → FitsBits other → FitsBits (if test then one else other)
fits_if true one other fits others = fits
fits_if false one other fits others = others

pub advertisement_fits : (params : AdvParams) (octets : List ℕ) → FitsBits (advertisement params octets)
advertisement_fits params octets =
    fits_if (params.kind == 0) _ _ tt (fits_if (params.kind == 2) _ _ tt (fits_if (params.kind == 4) _ _ tt tt))
