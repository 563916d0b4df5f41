-- What each end knows of what the other receives, in each state of a joint run of exchanges of lengths (Core 5.2,
-- volume 6 part B, section 4.5.10).
use Rattle.std.specs.Prelude.{◌≡◌, ◌≤◌, ◌⊎◌, ℕ, Bool, true, false, not, ◌&&◌, List, [], ◌∷◌, Option, Some, None, ⊤}
use Rattle.std.specs.List.{All, Contains}
use Rattle.ble_base.specs.Limits.{first_payload_octets}
use Rattle.ble_base.specs.declared.roles.Role.{Role}
use Rattle.ble_base.specs.declared.roles.Role.TheVariants.{Central, Peripheral}
use Rattle.exchange_pairs.specs.ExchangeRun.{other_role}
use Rattle.exchange_pairs.specs.Lengths.{LengthPdu}
use Rattle.exchange_pairs.specs.LengthRun.{LengthEvent, LengthLink, LengthWay, Accepts, Control, Data, end_of, kept_of, sent_by, way_from, way_to}

-- a PDU of the exchange that is on its way carries such a receive maximum
abbrev pub Carries : (ℕ → Type 0) → Option LengthWay → Type 0
Carries P (Some (Control pdu)) = P pdu.rx
Carries P way = ⊤

abbrev pub CarriesKept : (ℕ → Type 0) → Option LengthPdu → Type 0
CarriesKept P None = ⊤
CarriesKept P (Some pdu) = P pdu.rx

-- data that is on its way has at most this number of octets
abbrev pub IsDataWithin : ℕ → Option LengthWay → Type 0
IsDataWithin most (Some (Data octets)) = octets ≤ most
IsDataWithin most way = ⊤

-- of an end that receives `own_rx` octets: what waits, what is on its way or kept, what it has sent so far, what the
-- other end knows, and the data that comes from there
pub record IsLimitKnown (own_rx : ℕ) (queue : List LengthPdu) (way : Option LengthWay) (kept : Option LengthPdu)
    (sent : List ℕ) (known : ℕ) (back : Option LengthWay) : Type 0 where
  pub least : first_payload_octets ≤ own_rx
  pub waiting : All (λ pdu. pdu.rx ≤ own_rx) queue
  pub sent_before : All (λ rx. rx ≤ own_rx) sent
  pub coming : Carries (Contains sent) way
  pub is_kept : CarriesKept (Contains sent) kept
  -- the other end knows 27 or what this one has sent
  pub is_known : (known ≡ first_payload_octets) ⊎ Contains sent known
  pub data_within : IsDataWithin own_rx back

abbrev pub IsLimitKnownOf : Role → LengthLink → Type 0
IsLimitKnownOf role s =
    IsLimitKnown (end_of role s).lengths.own_rx (end_of role s).queue (way_from role s) (kept_of role s)
    (sent_by role s) (end_of (other_role role) s).lengths.peer_rx (way_to role s)

-- ---- ends whose receive maximum stays, as in this product

abbrev pub is_accepting : LengthEvent → Bool
is_accepting (Accepts role octets) = true
is_accepting event = false

abbrev pub none_accepts : List LengthEvent → Bool
none_accepts [] = true
none_accepts (event ∷ events) = not (is_accepting event) && none_accepts events

-- what each end receives as the link begins
abbrev pub first_rx : Role → ℕ → ℕ → ℕ
first_rx Central central_rx peripheral_rx = central_rx
first_rx Peripheral central_rx peripheral_rx = peripheral_rx
