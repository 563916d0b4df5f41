-- A PDU that the code keeps, and one that it received, as PDUs.
use Rattle.std.specs.Prelude.{ℕ, Bool, List}
use Rattle.data_pdu.specs.Header.{header_in}
use Rattle.link_model.specs.Acknowledgement.{Pdu}
use Rattle.link_end.specs.declared.pdus.Got.{Got}
use Rattle.link_end.specs.declared.pdus.Pdu.{Pdu as KeptPdu}

-- a PDU that is kept
abbrev pub pdu_value : KeptPdu → Pdu
pdu_value pdu = record { llid = pdu.llid; body = pdu.body.items }

-- what is read of a good packet with this header: whether its PDU is accepted, and the body that is taken
abbrev pub got_with : List ℕ → Bool → List ℕ → Got
got_with pdu accepted body =
    record { header = header_in pdu; accepted = accepted; body = record { items = body } }

-- the PDU that was received, with the body that is taken of it
abbrev pub pdu_in : Got → Pdu
pdu_in got = record { llid = got.header.llid; body = got.body.items }
