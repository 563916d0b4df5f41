-- What an end has sent and what is acknowledged of it, beside the packets that its host gave it.
use Rattle.std.proofs.Common.{◌≡◌, ◌≤◌, nat_lt, Bool, true, false, cond, List, [], ◌∷◌, ◌++◌, length, drop, Some, None, refl, ap, sym, ◌∙◌, arith}
use Rattle.std.specs.List.{find}
use Rattle.std.proofs.lemmas.Bool.Decides.{nat_tests}
use Rattle.std.proofs.lemmas.Grind.{flat_map-append}
use Rattle.std.proofs.lemmas.List.{append-nil, length-append, length-drop, length-take-le, take_all}
use Rattle.std.proofs.lemmas.Option.{none-some}
use Rattle.acl_banks.specs.Packets.{DataPacket, AreInOrder, marked_octets, octets_out, sent_length}
use Rattle.acl_banks.proofs.Octets.{length-marked_octets}
use Rattle.acl_banks.proofs.Order.{none_out-rest}
use Rattle.acl_banks.proofs.OneLink.{outs}
use Rattle.link_model.specs.Acknowledgement.{Acknowledgement, Pdu}
use Rattle.link_model.specs.Data.{acked_data, data_in, data_of, is_out, sent_data}

-- the last of the PDUs sent, and those before it
pub record EndsIn (sent : List Pdu) (last : Pdu) : Type 0 where
  pub front : List Pdu
  pub sent_are : sent ≡ front ++ last ∷ []

pub data-push : (sent : List Pdu) (pdu : Pdu) → data_of (sent ++ pdu ∷ []) ≡ data_of sent ++ data_in pdu
data-push sent pdu =
    flat_map-append data_in sent (pdu ∷ []) ∙ ap (λ octets. data_of sent ++ octets) (append-nil (data_in pdu))

-- all PDUs are acknowledged
pub all_acked : (ack : Acknowledgement) → length ack.sent ≤ ack.acked → acked_data ack ≡ sent_data ack
all_acked ack all = ap data_of (take_all ack.acked ack.sent all)

-- a first packet of which nothing is out
length-out : (packet : DataPacket) → sent_length packet ≤ length packet.body → length (octets_out packet) ≡ packet.out
length-out packet within =
    let whole = marked_octets packet.start packet.body in
    length-take-le packet.out (drop packet.acknowledged whole)
    (omega (arith, length-drop packet.acknowledged whole, length-marked_octets packet.start packet.body))

head_idle : (packet : DataPacket) (rest : List DataPacket) → sent_length packet ≤ length packet.body
    → outs (packet ∷ rest) ≡ [] → packet.out ≡ 0
head_idle packet rest within none =
    omega (arith, length-out packet within, ap length none, length-append (octets_out packet) (outs rest))

pub none_out : (packets : List DataPacket) → AreInOrder packets → outs packets ≡ [] → find is_out packets ≡ None
none_out [] order none = refl
none_out (packet ∷ rest) order none =
    let idle : is_out packet ≡ false = ap (λ n. nat_lt 0 n) (head_idle packet rest order.0.within none) in
    simp idle (none_out-rest rest order.1)

pub not_out : (packets : List DataPacket) → find is_out packets ≡ None → outs packets ≡ []
not_out [] none = refl
not_out (packet ∷ rest) none = by_test (is_out packet) refl none (not_out rest)
  where
    by_test : (b : Bool) → is_out packet ≡ b → cond b (Some packet) (find is_out rest) ≡ None → (find is_out rest ≡ None → outs rest ≡ [])
        → outs (packet ∷ rest) ≡ []
    by_test true e none later = absurd (none-some packet (sym none))
    by_test false e none later =
        let idle : packet.out ≡ 0 = grind (arith, nat_tests) in
        rw idle (later none)
