-- The ranges of the fields of control PDUs, each as a test that computes and as the facts that it tests.
use Rattle.std.specs.Prelude.{◌≡◌, ℕ, ◌+◌, ◌*◌, ◌^◌, ◌<◌, ◌≤◌, ◌==◌, ◌&&◌, nat_le, nat_lt, Bool, true, length, ⊤}
use Rattle.ble_base.specs.ChannelMap.{used_channels, IsMap}
use Rattle.data_pdu.specs.declared.ctrl.Ctrl.{Ctrl}
use Rattle.data_pdu.specs.declared.ctrl.Ctrl.TheVariants.{ConnectionUpdateInd, ChannelMapInd, LengthReq, LengthRsp, PhyUpdateInd}

-- the parameters of a connection that an update sets: the transmit window is 1 wide (our choice) and begins within an
-- interval, and a link outlives two intervals with the latency between them (Core 5.2, volume 6 part B, sections
-- 2.4.2.1, 4.5.1 to 4.5.3)
pub record IsUpdate (win_size win_offset interval latency timeout : ℕ) : Type 0 where
  pub win_size_one : win_size ≡ 1
  pub win_offset_within : win_offset ≤ interval
  pub interval_from : 6 ≤ interval
  pub interval_to : interval ≤ 3200
  pub latency_to : latency ≤ 499
  pub timeout_from : 10 ≤ timeout
  pub timeout_to : timeout ≤ 3200
  pub timeout_outlasts : (1 + latency) * interval < timeout * 4

abbrev pub is_update : ℕ → ℕ → ℕ → ℕ → ℕ → Bool
is_update win_size win_offset interval latency timeout =
    (win_size == 1) && nat_le win_offset interval && nat_le 6 interval && nat_le interval 3200 && nat_le latency 499
    && nat_le 10 timeout && nat_le timeout 3200 && nat_lt ((1 + latency) * interval) (timeout * 4)

-- a map names at least two data channels and no other (Core 5.2, volume 6 part B, section 4.5.8.1); the facts are those
-- of `IsMap`
abbrev pub is_map : ℕ → Bool
is_map map = nat_lt map (2 ^ 37) && nat_le 2 (length (used_channels map))

-- the least that a length may be: 27 octets and 328 microseconds (Core 5.2, volume 6 part B, sections 2.4.2.21 and
-- 4.5.10)
pub record IsLength (max_rx_octets max_rx_time max_tx_octets max_tx_time : ℕ) : Type 0 where
  pub rx_octets_from : 27 ≤ max_rx_octets
  pub rx_time_from : 328 ≤ max_rx_time
  pub tx_octets_from : 27 ≤ max_tx_octets
  pub tx_time_from : 328 ≤ max_tx_time

abbrev pub is_length : ℕ → ℕ → ℕ → ℕ → Bool
is_length max_rx_octets max_rx_time max_tx_octets max_tx_time =
    nat_le 27 max_rx_octets && nat_le 328 max_rx_time && nat_le 27 max_tx_octets && nat_le 328 max_tx_time

-- neither PHY changes (our choice; 0 is no change in Core 5.2, volume 6 part B, section 2.4.2.23)
pub record IsPhyUpdate (to_peripheral to_central : ℕ) : Type 0 where
  pub to_peripheral_unchanged : to_peripheral ≡ 0
  pub to_central_unchanged : to_central ≡ 0

abbrev pub is_phy_update : ℕ → ℕ → Bool
is_phy_update to_peripheral to_central = (to_peripheral == 0) && (to_central == 0)

-- the fields of a control PDU are in their ranges; those of the others may be any
abbrev pub IsInRange : Ctrl → Type 0
IsInRange (ConnectionUpdateInd win_size win_offset interval latency timeout instant) =
    IsUpdate win_size win_offset interval latency timeout
IsInRange (ChannelMapInd map instant) = IsMap map
IsInRange (LengthReq max_rx_octets max_rx_time max_tx_octets max_tx_time) =
    IsLength max_rx_octets max_rx_time max_tx_octets max_tx_time
IsInRange (LengthRsp max_rx_octets max_rx_time max_tx_octets max_tx_time) =
    IsLength max_rx_octets max_rx_time max_tx_octets max_tx_time
IsInRange (PhyUpdateInd to_peripheral to_central instant) = IsPhyUpdate to_peripheral to_central
IsInRange other = ⊤

abbrev pub is_in_range : Ctrl → Bool
is_in_range (ConnectionUpdateInd win_size win_offset interval latency timeout instant) =
    is_update win_size win_offset interval latency timeout
is_in_range (ChannelMapInd map instant) = is_map map
is_in_range (LengthReq max_rx_octets max_rx_time max_tx_octets max_tx_time) =
    is_length max_rx_octets max_rx_time max_tx_octets max_tx_time
is_in_range (LengthRsp max_rx_octets max_rx_time max_tx_octets max_tx_time) =
    is_length max_rx_octets max_rx_time max_tx_octets max_tx_time
is_in_range (PhyUpdateInd to_peripheral to_central instant) = is_phy_update to_peripheral to_central
is_in_range other = true
