-- The tests of the ranges say what the facts say.
use Rattle.std.proofs.Common.{◌≡◌, ℕ, Bool, true, false, refl, arith}
use Rattle.std.specs.Prelude.{IsTrue, ◌↔◌, ◌&&◌}
use Rattle.std.proofs.lemmas.Bool.{eqb-true, leb-true, ltb-true, eq-eqb, le-leb, lt-ltb}
use Rattle.std.proofs.lemmas.Grind.{common_steps}
use Rattle.ble_base.specs.ChannelMap.{IsMap}
use Rattle.data_pdu.specs.declared.ctrl.Ctrl.{Ctrl}
use Rattle.data_pdu.specs.declared.ctrl.Ctrl.TheVariants.{ConnectionUpdateInd, ChannelMapInd, LengthReq, LengthRsp, PhyUpdateInd}
use Rattle.data_pdu.specs.Ranges.{IsUpdate, is_update, is_map, IsLength, is_length, IsPhyUpdate, is_phy_update, IsInRange, is_in_range}

both : (a b : Bool) → (a && b) ≡ true → (a ≡ true) × (b ≡ true)
both true true e = (refl, refl)
both true false e = absurd cc
both false b e = absurd cc

update_facts : (win_size win_offset interval latency timeout : ℕ) → IsTrue (is_update win_size win_offset interval latency timeout) → IsUpdate win_size win_offset interval latency timeout
update_facts win_size win_offset interval latency timeout test =
    let p = both _ _ test in
    let q = both _ _ p.0 in
    let r = both _ _ q.0 in
    let s = both _ _ r.0 in
    let t = both _ _ s.0 in
    let u = both _ _ t.0 in
    let v = both _ _ u.0 in
    record {
      win_size_one = eqb-true _ _ v.0;
      win_offset_within = leb-true _ _ v.1;
      interval_from = leb-true _ _ u.1;
      interval_to = leb-true _ _ t.1;
      latency_to = leb-true _ _ s.1;
      timeout_from = leb-true _ _ r.1;
      timeout_to = leb-true _ _ q.1;
      timeout_outlasts = ltb-true _ _ p.1;
    }

update_test : (win_size win_offset interval latency timeout : ℕ) → IsUpdate win_size win_offset interval latency timeout → IsTrue (is_update win_size win_offset interval latency timeout)
update_test win_size win_offset interval latency timeout facts =
    rw (eq-eqb _ _ facts.win_size_one, le-leb _ _ facts.win_offset_within, le-leb _ _ facts.interval_from, le-leb _ _ facts.interval_to, le-leb _ _ facts.latency_to, le-leb _ _ facts.timeout_from, le-leb _ _ facts.timeout_to, lt-ltb _ _ facts.timeout_outlasts) refl

pub update_is_tested : (win_size win_offset interval latency timeout : ℕ) → IsTrue (is_update win_size win_offset interval latency timeout) ↔ IsUpdate win_size win_offset interval latency timeout
update_is_tested win_size win_offset interval latency timeout =
    (update_facts win_size win_offset interval latency timeout, update_test win_size win_offset interval latency timeout)

map_is_tested : (map : ℕ) → IsTrue (is_map map) ↔ IsMap map
map_is_tested map = grind (arith, common_steps)

length_is_tested : (max_rx_octets max_rx_time max_tx_octets max_tx_time : ℕ) → IsTrue (is_length max_rx_octets max_rx_time max_tx_octets max_tx_time) ↔ IsLength max_rx_octets max_rx_time max_tx_octets max_tx_time
length_is_tested max_rx_octets max_rx_time max_tx_octets max_tx_time = grind (arith, common_steps)

phy_update_is_tested : (to_peripheral to_central : ℕ) → IsTrue (is_phy_update to_peripheral to_central) ↔ IsPhyUpdate to_peripheral to_central
phy_update_is_tested to_peripheral to_central = grind (arith, common_steps)

pub range_is_tested : (ctrl : Ctrl) → IsTrue (is_in_range ctrl) ↔ IsInRange ctrl
range_is_tested (ConnectionUpdateInd win_size win_offset interval latency timeout instant) = update_is_tested win_size win_offset interval latency timeout
range_is_tested (ChannelMapInd map instant) = map_is_tested map
range_is_tested (LengthReq max_rx_octets max_rx_time max_tx_octets max_tx_time) = length_is_tested max_rx_octets max_rx_time max_tx_octets max_tx_time
range_is_tested (LengthRsp max_rx_octets max_rx_time max_tx_octets max_tx_time) = length_is_tested max_rx_octets max_rx_time max_tx_octets max_tx_time
range_is_tested (PhyUpdateInd to_peripheral to_central instant) = phy_update_is_tested to_peripheral to_central
range_is_tested other = (λ test. tt, λ range. refl)
