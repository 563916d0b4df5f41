-- Who sends a request on an advertising channel, or answers one, is heard, if the packet arrives (Core 5.2, volume 6
-- part B, sections 2.3, 4.4.2 and 4.4.3).
use Rattle.std.specs.Prelude.{◌≡◌, ℕ, Bool, true, false, List, ◌∷◌, ◌++◌, Some}
use Rattle.ble_base.specs.declared.roles.Side.{Side}
use Rattle.ble_base.specs.declared.verdicts.Verdict.{Verdict}
use Rattle.ble_base.specs.declared.verdicts.Verdict.TheVariants.{Good}
use Rattle.adv_pdu.specs.declared.pdu.AdvPdu.{AdvPdu}
use Rattle.adv_pdu.specs.declared.pdu.AdvPdu.TheVariants.{ScanReq, ScanRsp, Connect}
use Rattle.journal.specs.declared.entries.Entry.{Entry}
use Rattle.journal.specs.declared.entries.Entry.TheVariants.{Air}
use Rattle.journal.specs.declared.entries.Mark.TheVariants.{Pass as Passed}
use Rattle.journal_data.specs.controller_model.Packets.{pdu_heard}
use Rattle.journal_data.specs.run_model.Links.{is_advertising}

-- an advertiser listens for a SCAN_REQ or a CONNECT_IND after its advertisement, on the channel of that, and an active
-- scanner for a SCAN_RSP after its SCAN_REQ
abbrev pub is_awaited : AdvPdu → Bool
is_awaited (ScanReq from to) = true
is_awaited (Connect from to ch_sel fields) = true
is_awaited (ScanRsp from body) = true
is_awaited other = false

-- each of these packets that passes is judged good
abbrev pub AllRequestsAreHeard : List Entry → Type 0
AllRequestsAreHeard journal =
    (front rest : List Entry) (side : Side) (channel : ℕ) (octets : List ℕ) (verdict : Verdict) (pdu : AdvPdu)
    → journal ≡ front ++ Air side channel octets Passed verdict ∷ rest → is_advertising channel ≡ true
    → pdu_heard channel octets ≡ Some pdu → is_awaited pdu ≡ true → verdict ≡ Good
