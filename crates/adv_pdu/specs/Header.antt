-- The first octet of an advertising channel PDU (Core 5.2, volume 6 part B, section 2.3).
use Rattle.std.specs.Prelude.{ℕ, ◌+◌, ◌*◌, ◌%◌, ◌==◌, ◌&&◌, ◌||◌, Bool, List, [], ◌∷◌, if◌then◌else◌}
use Rattle.ble_base.specs.Bits.{has_bit}
use Rattle.adv_pdu.specs.declared.header.PduType.{PduType}
use Rattle.adv_pdu.specs.declared.header.PduType.TheVariants.{AdvInd, AdvDirectInd, AdvNonconnInd, ScanReq, ScanRsp, ConnectInd, AdvScanInd}

-- the number of a PDU type
abbrev pub number_of_type : PduType → ℕ
number_of_type AdvInd = 0
number_of_type AdvDirectInd = 1
number_of_type AdvNonconnInd = 2
number_of_type ScanReq = 3
number_of_type ScanRsp = 4
number_of_type ConnectInd = 5
number_of_type AdvScanInd = 6

-- a flag as a bit
abbrev pub bit_of : Bool → ℕ
bit_of flag = (if flag then 1 else 0)

-- the type in bits 0 to 3, bit 4 zero, ChSel in bit 5, TxAdd in bit 6, RxAdd in bit 7
abbrev pub header_octet : ℕ → Bool → Bool → Bool → ℕ
header_octet kind ch_sel tx_add rx_add = kind + 32 * bit_of ch_sel + 64 * bit_of tx_add + 128 * bit_of rx_add

-- the types that have ChSel: ADV_IND, ADV_DIRECT_IND and CONNECT_IND
abbrev pub has_ch_sel : ℕ → Bool
has_ch_sel kind = (kind == 0) || (kind == 1) || (kind == 5)

-- the types that have RxAdd: ADV_DIRECT_IND, SCAN_REQ and CONNECT_IND
abbrev pub has_rx_add : ℕ → Bool
has_rx_add kind = (kind == 1) || (kind == 3) || (kind == 5)

-- the octet with each bit 0 that a reader ignores: bit 4, and ChSel or RxAdd of a type that has none
unfoldable pub kept_bits : ℕ → ℕ
kept_bits octet =
    header_octet (octet % 16) (has_ch_sel (octet % 16) && has_bit octet 5) (has_bit octet 6)
    (has_rx_add (octet % 16) && has_bit octet 7)

-- the octets of a PDU with each ignored bit 0
abbrev pub without_ignored_bits : List ℕ → List ℕ
without_ignored_bits [] = []
without_ignored_bits (octet ∷ rest) = kept_bits octet ∷ rest
