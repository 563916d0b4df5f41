-- New data is accepted only where there is room for it.
use Rattle.std.proofs.Common.{◌≡◌, ℕ, ◌<◌, ◌==◌, nat_lt, Bool, true, false, not, ◌&&◌, ◌||◌, List, length, drop, Option, Some, None, IfSome, refl, sym, subst, arith}
use Rattle.std.proofs.lemmas.Bool.Decides.{nat_tests}
use Rattle.ack_bit.specs.AckBits.{is_new}
use Rattle.data_pdu.specs.Header.{header_in}
use Rattle.link_model.specs.phased_end.enc_phase.Sealing.{EncEnd}
use Rattle.link_model.specs.Data.{is_data}
use Rattle.link_end.specs.declared.pdus.Got.{Got}
use Rattle.link_end.specs.Held.{Held}
use Rattle.link_end.specs.Pdus.{got_with, pdu_in}
use Rattle.link_end.specs.Receiving.{accepts, body_if, counts, ends_by, got_if, got_in, right_if, takes_body}

-- a PDU whose body is not taken has no octet, so it is no data; one whose body is taken has octets on the air too
found_room : (room fresh some reserved none ended : Bool) (end : EncEnd) (pdu : List ℕ)
    → let accepted = (fresh && (room || not (some && not none))) && ((reserved || none) || not ended) in
    (accepted && (some && not (length (body_if (accepted && (fresh && not (reserved || none))) end pdu) == 0))) ≡ true → room ≡ true
found_room true fresh some reserved none ended end pdu is = refl
found_room false false some reserved none ended end pdu is = absurd cc
found_room false true true reserved false ended end pdu is = absurd cc
found_room false true true true true ended end pdu is = absurd cc
found_room false true true false true ended end pdu is = absurd cc
found_room false true false true none ended end pdu is = absurd cc
found_room false true false false true ended end pdu is = absurd cc
found_room false true false false false true end pdu is = absurd cc
found_room false true false false false false end pdu is = absurd cc

-- what is said of what an end takes
abbrev IfData : Type 0 → Option Got → Type 0
IfData P got = IfSome got (λ got. (got.accepted && is_data (pdu_in got)) ≡ true → P)

read_room : (room : Bool) (whole : Option (List ℕ)) (held : Held) → IfData (room ≡ true) (got_in room whole held)
read_room room None held = tt
read_room room (Some pdu) held = by (right_if (counts pdu held) held.control.end pdu)
  where
    by : (right : Bool)
        → IfData (room ≡ true) (got_if right (got_with pdu (accepts room pdu held) (body_if (takes_body room pdu held) held.control.end pdu)))
    by true =
        let header = header_in pdu in
        found_room room (is_new held.bits header) (header.llid == 1 || header.llid == 2) (header.llid == 0)
        (length (drop 2 pdu) == 0) (ends_by header held) held.control.end pdu
    by false = tt

below : (count limit : ℕ) → nat_lt count limit ≡ true → count < limit
below count limit is = grind (arith, nat_tests)

each_below : (count limit : ℕ) (got : Option Got) → IfData (nat_lt count limit ≡ true) got → IfData (count < limit) got
each_below count limit None has = tt
each_below count limit (Some got) has = λ is. below count limit (has is)

pub data_has_room : (count limit : ℕ) (whole : Option (List ℕ)) (held : Held) (got : Option Got)
    → got ≡ got_in (nat_lt count limit) whole held
    → IfSome got (λ got. (got.accepted && is_data (pdu_in got)) ≡ true → count < limit)
data_has_room count limit whole held got is =
    each_below count limit got
    (subst (λ (g : Option Got). IfData (nat_lt count limit ≡ true) g) (sym is) (read_room (nat_lt count limit) whole held))
