-- The conditions under which a command is refused, those that several commands share (Core 5.2, volume 4 part E,
-- section 7).
use Rattle.std.specs.Prelude.{ℕ, ◌+◌, ◌*◌, ◌==◌, ◌||◌, ◌&&◌, not, nat_lt, nat_le, Bool, true, false, List, [], ◌∷◌, count_by, map, Option, is_some, is_none, if◌then◌else◌}
use Rattle.std.specs.Option.{option_map_or}
use Rattle.ble_base.specs.ErrorCodes.{command_disallowed, connection_limit_exceeded, invalid_hci_parameters, success, unknown_connection_identifier, unsupported_feature_or_value}
use Rattle.ble_base.specs.declared.ErrCode.{ErrCode}
use Rattle.ble_base.specs.declared.procedure_kinds.Kind.{Kind}
use Rattle.ble_base.specs.Bits.{has_bit}
use Rattle.host_view.specs.declared.links.Link.{Link}
use Rattle.host_view.specs.View.{View}
use Rattle.host_view.specs.Links.{is_asked, link_has}

-- the code of the first refusal whose condition holds, and 00 where none does
abbrev pub first_refusal : List (Bool × ℕ) → ℕ
first_refusal [] = success
first_refusal (row ∷ rows) = if row.0 then row.1 else first_refusal rows

-- conditions with codes, as conditions with numbers
abbrev pub refusals_of : List (Bool × ErrCode) → List (Bool × ℕ)
refusals_of refusals = map (λ row. (row.0, row.1.0)) refusals

-- no link with this handle is open; then: it is to be disconnected (our choice: an accepted Disconnect ends what the
-- host may ask for)
abbrev pub link_rows : Option Link → List (Bool × ℕ) → List (Bool × ℕ)
link_rows link rows =
    (is_none link, unknown_connection_identifier) ∷ (link_has link (λ l. l.disconnecting), command_disallowed)
    ∷ rows

-- the procedure was asked for, and is neither done nor refused
abbrev pub asked_row : Kind → Option Link → Bool × ℕ
asked_row kind link = (link_has link (λ l. is_asked kind l.asked), command_disallowed)

-- connection parameters: the intervals in 1.25 ms, the latency in events, the timeout in 10 ms, which is over (1 +
-- latency) intervals twice (sections 7.8.12, 7.8.18 and 7.8.31)
abbrev pub are_parameters : ℕ → ℕ → ℕ → ℕ → Bool
are_parameters min max latency timeout =
    nat_le 6 min && (nat_le max 3200 && (nat_le min max && (nat_le latency 499
    && (nat_le 10 timeout && (nat_le timeout 3200 && nat_lt ((1 + latency) * max) (timeout * 4))))))

abbrev pub parameters_row : ℕ → ℕ → ℕ → ℕ → Bool × ℕ
parameters_row min max latency timeout = (not (are_parameters min max latency timeout), invalid_hci_parameters)

-- the own address: types 2 and 3, which the controller would make, are not supported; types end at 3; and a random
-- address was set (sections 7.8.5, 7.8.10 and 7.8.12)
abbrev pub is_generated : ℕ → Bool
is_generated own = (own == 2) || (own == 3)

abbrev pub own_rows : View → ℕ → List (Bool × ℕ) → List (Bool × ℕ)
own_rows view own rows =
    (is_generated own, unsupported_feature_or_value)
    ∷ (nat_lt 3 own, invalid_hci_parameters)
    ∷ ((own == 1) && is_none view.random, invalid_hci_parameters) ∷ rows

-- ADV_IND and low duty directed advertising are connectable (section 7.8.5)
abbrev pub is_connectable : ℕ → Bool
is_connectable kind = (kind == 0) || (kind == 4)

abbrev pub count_if : Bool → ℕ
count_if true = 1
count_if false = 0

-- the links that are open, and those that advertising and initiating may open, take all there are (our choice)
abbrev pub is_full : View → Bool
is_full view =
    nat_le view.limit (
    count_by is_some view.links
    + count_if (view.advertising.on && is_connectable view.advertising.kind)
    + count_if (is_some view.initiating))

abbrev pub room_row : View → Bool × ℕ
room_row view = (is_full view, connection_limit_exceeded)

-- the accept list is in use: advertising with a policy that asks for it, or scanning or initiating by it (section
-- 7.8.15)
abbrev pub uses_list : View → Bool
uses_list view =
    view.advertising.on && not (view.advertising.policy == 0)
    || (view.scanning.on && (view.scanning.policy == 1) || option_map_or (λ policy. policy == 1) view.initiating false)

abbrev pub list_row : View → Bool × ℕ
list_row view = (uses_list view, command_disallowed)

-- a choice of PHYs: one that is not LE 1M is not supported; and one at least is chosen, unless the host has no
-- preference (sections 7.8.48 and 7.8.49)
abbrev pub phy_rows : Bool → ℕ → List (Bool × ℕ) → List (Bool × ℕ)
phy_rows any phys rows =
    (not any && nat_lt 1 phys, unsupported_feature_or_value)
    ∷ (not any && (phys == 0), invalid_hci_parameters) ∷ rows

-- transmitting first, then receiving; bits 0 and 1 of ALL_PHYS say that there is no preference
abbrev pub both_phys_rows : ℕ → ℕ → ℕ → List (Bool × ℕ) → List (Bool × ℕ)
both_phys_rows all tx rx rows = phy_rows (has_bit all 0) tx (phy_rows (has_bit all 1) rx rows)

-- a scan interval and a window that fits it, in 0.625 ms (sections 7.8.10 and 7.8.12)
abbrev pub are_scan_times : ℕ → ℕ → Bool
are_scan_times interval window =
    nat_le 0x0004 interval && (nat_le interval 0x4000
    && (nat_le 0x0004 window && (nat_le window 0x4000 && nat_le window interval)))

abbrev pub scan_times_row : ℕ → ℕ → Bool × ℕ
scan_times_row interval window = (not (are_scan_times interval window), invalid_hci_parameters)
