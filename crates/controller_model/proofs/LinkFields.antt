-- The fields of a CONNECT_IND: that they are in range is tested, and then they fit their bits.
use Rattle.std.proofs.Common.{◌≡◌, ℕ, ◌+◌, ◌-◌, ◌*◌, ◌%◌, ◌^◌, ◌<◌, true, Option, Some, None, length, refl, sym, subst, arith}
use Rattle.std.specs.Prelude.{nat_le, nat_lt, IfSome}
use Rattle.std.proofs.lemmas.Bool.{and_parts, leb-true, le-leb, lt-ltb, ltb-true}
use Rattle.ble_base.specs.ChannelMap.{used_channels}
use Rattle.ble_base.specs.declared.addresses.Address.{Address}
use Rattle.data_pdu.specs.Ranges.{is_map, is_update}
use Rattle.data_pdu.proofs.RangeTests.{update_is_tested}
use Rattle.adv_pdu.specs.declared.pdu.AdvPdu.TheVariants.{Connect}
use Rattle.adv_pdu.specs.declared.pdu.ConnectFields.{ConnectFields}
use Rattle.adv_pdu.specs.Pdu.{IsPdu}
use Rattle.adv_pdu.specs.Ranges.{IsInRange, is_in_range}
use Rattle.host_view.specs.scan_init.Access.{IsNthAccess, access_at, nth_access}
use Rattle.host_view.specs.scan_init.Initiating.{InitiatorFacts}
use Rattle.host_view.proofs.scan_init.Numbers.{each_valid}
use Rattle.controller_model.specs.Facts.{Setup, Facts}
use Rattle.controller_model.specs.Heard.{access_found, fields_sent, next_access_of}

-- ---- the ranges

pub range_of_test : (fields : ConnectFields) → is_in_range fields ≡ true → IsInRange fields
range_of_test fields h =
    let a = and_parts _ (nat_le fields.hop 16) h in
    let b = and_parts _ (nat_le 5 fields.hop) a.0 in
    let c = and_parts (is_update fields.win_size fields.win_offset fields.interval fields.latency fields.timeout) (is_map fields.map) b.0 in
    let m = and_parts (nat_lt fields.map (2 ^ 37)) (nat_le 2 (length (used_channels fields.map))) c.1 in
    record {
      parameters = (update_is_tested fields.win_size fields.win_offset fields.interval fields.latency fields.timeout).0 c.0;
      map = record { data_channels_only = ltb-true _ _ m.0; two_or_more = leb-true _ _ m.1 };
      hop_from = leb-true _ _ b.1;
      hop_to = leb-true _ _ a.1;
    }

pub test_of_range : (fields : ConnectFields) → IsInRange fields → is_in_range fields ≡ true
test_of_range fields is =
    let parameters = (update_is_tested fields.win_size fields.win_offset fields.interval fields.latency fields.timeout).1 is.parameters in
    rw (parameters, lt-ltb _ _ is.map.data_channels_only, le-leb _ _ is.map.two_or_more, le-leb _ _ is.hop_from, le-leb _ _ is.hop_to) refl

-- ---- the access address

access_within : (cursor travel : ℕ) → access_at cursor travel < 2 ^ 32
access_within cursor travel = omega arith

found_within : (cursor number : ℕ) (found : Option (ℕ × ℕ)) (access : ℕ) → IfSome found (λ pair. IsNthAccess cursor number pair.0 pair.1)
    → access_found found ≡ Some access → access < 2 ^ 32
found_within cursor number None access is found = absurd cc
found_within cursor number (Some pair) access is found =
    let same : pair.0 ≡ access = cc in
    subst (λ (n : ℕ). n < 2 ^ 32) same (subst (λ (n : ℕ). n < 2 ^ 32) (sym is.address) (access_within cursor (pair.1 - 1)))

pub next_within : (setup : Setup) (facts : Facts) (access : ℕ) → next_access_of setup facts ≡ Some access → access < 2 ^ 32
next_within setup facts access is =
    found_within setup.cursor facts.connections (nth_access setup.cursor facts.connections) access (each_valid setup.cursor facts.connections) is

-- ---- the bits

pub connect_fits : (own peer : Address) (fields : ConnectFields) → length own.octets ≡ 6 → length peer.octets ≡ 6 → fields.access < 2 ^ 32
    → fields.crc_init < 2 ^ 24 → fields.sca < 8 → IsInRange fields → IsPdu (Connect own peer true fields)
connect_fits own peer fields six six_too access crc_init sca is =
    let low : fields.win_size < 256 ^ 1 = omega (arith, is.parameters.win_size_one) in
    let offset : fields.win_offset < 256 ^ 2 = omega (arith, is.parameters.win_offset_within, is.parameters.interval_to) in
    let interval : fields.interval < 256 ^ 2 = omega (arith, is.parameters.interval_to) in
    let latency : fields.latency < 256 ^ 2 = omega (arith, is.parameters.latency_to) in
    let timeout : fields.timeout < 256 ^ 2 = omega (arith, is.parameters.timeout_to) in
    let map : fields.map < 256 ^ 5 = omega (arith, is.map.data_channels_only) in
    let hop : fields.hop + 32 * fields.sca < 256 ^ 1 = omega (arith, is.hop_to) in
    record {
      fits = (six, (six_too, (omega arith, (omega arith, (low, (offset, (interval, (latency, (timeout, (map, (hop, tt)))))))))));
      room = tt;
      bits = record {
        crc_init = crc_init;
        map = omega (arith, is.map.data_channels_only);
        hop = omega (arith, is.hop_to);
        sca = sca;
      };
    }

crc_within : (word : ℕ) → word % 2 ^ 24 < 2 ^ 24
crc_within word = omega arith

-- the CONNECT_IND of an initiator
pub connection_fits : (setup : Setup) (on : InitiatorFacts) (access : ℕ) (facts : Facts) (own peer : Address)
    → length own.octets ≡ 6 → length peer.octets ≡ 6 → on.params.link.sca ≡ 0 → next_access_of setup facts ≡ Some access
    → is_in_range (fields_sent setup on access facts) ≡ true → IsPdu (Connect own peer true (fields_sent setup on access facts))
connection_fits setup on access facts own peer six six_too sca next in_range =
    connect_fits own peer (fields_sent setup on access facts) six six_too (next_within setup facts access next) (crc_within _)
    (omega (arith, sca)) (range_of_test (fields_sent setup on access facts) in_range)
