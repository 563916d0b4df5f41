-- Notes of a peripheral, for the worked examples.
use Rattle.std.specs.Prelude.{ℕ, List, [], ◌∷◌}
use Rattle.ble_base.specs.declared.notes.Note.{Note}
use Rattle.ble_base.specs.declared.notes.Note.TheVariants.{Took}

-- LL_CONNECTION_UPDATE_IND with an interval of 8 slots (section 2.4.2.1), and LL_PHY_UPDATE_IND that changes no PHY
-- (section 2.4.2.23)
abbrev pub update_octets : List ℕ
update_octets = 0x00 ∷ 1 ∷ 0 ∷ 0 ∷ 8 ∷ 0 ∷ 0 ∷ 0 ∷ 100 ∷ 0 ∷ 6 ∷ 0 ∷ []

abbrev pub phy_octets : List ℕ
phy_octets = 0x18 ∷ 0 ∷ 0 ∷ 0 ∷ 0 ∷ []

-- the PDU with this number is taken, with this LLID: 3 for a control PDU (section 2.4)
abbrev pub takes_octets : ℕ → ℕ → List ℕ → List Note
takes_octets number llid octets = Took 0 number llid (record { items = octets }) ∷ []
