-- A header is read from its two octets as it was written, and the additional data of its packet is that of its LLID.
use Rattle.std.proofs.Common.{◌≡◌, ◌<◌, ℕ, zero, suc, Bool, true, false, List, ◌++◌, refl, arith}
use Rattle.ccm_link.specs.Payload.{additional_data}
use Rattle.data_pdu.specs.declared.header.DataHeader.{DataHeader}
use Rattle.data_pdu.specs.Header.{header_in, octets_of}
use Rattle.link_model.specs.Payload.{first_octet}

-- the header is read as it was written, and NESN, SN and MD are masked in the additional data
pub record HasHeader (header : DataHeader) (octets : List ℕ) : Type 0 where
  pub read : header_in octets ≡ header
  pub masked : additional_data header.llid ≡ additional_data (first_octet octets)

pub header_back : (llid : ℕ) (nesn sn md : Bool) (count : ℕ) (body : List ℕ) → llid < 4
    → let header : DataHeader = record { llid = llid; nesn = nesn; sn = sn; md = md; length = count } in
    HasHeader header (octets_of header ++ body)
header_back zero true true true count body two_bits = record { read = refl; masked = refl }
header_back zero true true false count body two_bits = record { read = refl; masked = refl }
header_back zero true false true count body two_bits = record { read = refl; masked = refl }
header_back zero true false false count body two_bits = record { read = refl; masked = refl }
header_back zero false true true count body two_bits = record { read = refl; masked = refl }
header_back zero false true false count body two_bits = record { read = refl; masked = refl }
header_back zero false false true count body two_bits = record { read = refl; masked = refl }
header_back zero false false false count body two_bits = record { read = refl; masked = refl }
header_back (suc zero) true true true count body two_bits = record { read = refl; masked = refl }
header_back (suc zero) true true false count body two_bits = record { read = refl; masked = refl }
header_back (suc zero) true false true count body two_bits = record { read = refl; masked = refl }
header_back (suc zero) true false false count body two_bits = record { read = refl; masked = refl }
header_back (suc zero) false true true count body two_bits = record { read = refl; masked = refl }
header_back (suc zero) false true false count body two_bits = record { read = refl; masked = refl }
header_back (suc zero) false false true count body two_bits = record { read = refl; masked = refl }
header_back (suc zero) false false false count body two_bits = record { read = refl; masked = refl }
header_back (suc (suc zero)) true true true count body two_bits = record { read = refl; masked = refl }
header_back (suc (suc zero)) true true false count body two_bits = record { read = refl; masked = refl }
header_back (suc (suc zero)) true false true count body two_bits = record { read = refl; masked = refl }
header_back (suc (suc zero)) true false false count body two_bits = record { read = refl; masked = refl }
header_back (suc (suc zero)) false true true count body two_bits = record { read = refl; masked = refl }
header_back (suc (suc zero)) false true false count body two_bits = record { read = refl; masked = refl }
header_back (suc (suc zero)) false false true count body two_bits = record { read = refl; masked = refl }
header_back (suc (suc zero)) false false false count body two_bits = record { read = refl; masked = refl }
header_back (suc (suc (suc zero))) true true true count body two_bits = record { read = refl; masked = refl }
header_back (suc (suc (suc zero))) true true false count body two_bits = record { read = refl; masked = refl }
header_back (suc (suc (suc zero))) true false true count body two_bits = record { read = refl; masked = refl }
header_back (suc (suc (suc zero))) true false false count body two_bits = record { read = refl; masked = refl }
header_back (suc (suc (suc zero))) false true true count body two_bits = record { read = refl; masked = refl }
header_back (suc (suc (suc zero))) false true false count body two_bits = record { read = refl; masked = refl }
header_back (suc (suc (suc zero))) false false true count body two_bits = record { read = refl; masked = refl }
header_back (suc (suc (suc zero))) false false false count body two_bits = record { read = refl; masked = refl }
header_back (suc (suc (suc (suc more)))) nesn sn md count body two_bits = absurd (omega (arith, two_bits))
