-- The proof of `AdvPdu::write`.
use Rattle.std.proofs.Common.{rules, ◌≡◌, ◌∙◌, [], refl, sym, ap}
use Rattle.wire_fields.specs.Field.{spelled}
use Rattle.wire_fields.proofs.Spelling.{appended-spelled}
use Rattle.adv_pdu.specs.Header.{without_ignored_bits}
use Rattle.adv_pdu.specs.Pdu.{payload_of, written}
use Rattle.adv_pdu.specs.Reading.{read_of}
use Rattle.adv_pdu.proofs.Octets.{two_and_others, written_kept}
use Rattle.adv_pdu.proofs.Values.{written_is_read}
use Rattle.adv_pdu.proofs.pdu.AdvPdu.write.Goals as goal

pub returns-clause-octets : goal.returns-clause-octets
returns-clause-octets c =
    let payload : c.payload-payload.result.items ≡ spelled (payload_of c.args.self.now) =
    c.payload-payload.ensures.items ∙ appended-spelled [] (payload_of c.args.self.now) in
    two_and_others c.octet.result c.length_octet.result c.as_slice.result.now _ _ _ _ (search rules) (search rules) c.new-packet.ensures c.put_u8.ensures.items c.put_u8-2.ensures.items c.put_octets.ensures.items
    ∙ rw (c.octet.ensures, c.of.ensures.kind, c.of.ensures.ch_sel, c.of.ensures.tx_add, c.of.ensures.rx_add, c.length_octet.ensures, c.as_slice.ensures.value, payload) refl

pub returns-clause-no_ignored_bits : goal.returns-clause-no_ignored_bits
returns-clause-no_ignored_bits c =
    let whole : c.put_octets.new.packet.items ≡ written c.args.self.now = returns-clause-octets c in
    ap without_ignored_bits whole ∙ written_kept c.args.self.now ∙ sym whole

pub returns-clause-read : goal.returns-clause-read
returns-clause-read c =
    ap read_of (returns-clause-octets c)
    ∙ written_is_read c.args.self.now (record { fits = c.payload-payload.ensures.fits; room = c.payload-payload.ensures.room; bits = c.requires })
