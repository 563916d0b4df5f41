-- What an advertiser sends, and when (Core 5.2, volume 6 part B, section 4.4.2, and volume 4 part E, section 7.8.5).
use Rattle.std.specs.Prelude.{ℕ, zero, suc, ◌+◌, ◌≤◌, ◌==◌, ◌||◌, Bool, true, List, [], ◌∷◌, Option, Some, None, ⊤, if◌then◌else◌}
use Rattle.ble_base.specs.Bits.{has_bit}
use Rattle.adv_pdu.specs.declared.pdu.AdvPdu.{AdvPdu}
use Rattle.adv_pdu.specs.declared.pdu.AdvPdu.TheVariants.{Ind, Direct, Nonconn, ScanInd}
use Rattle.advertise.specs.declared.params.AdvParams.{AdvParams}
use Rattle.scan_init.specs.Windows.{slots_of}

-- ---- types of advertising

-- the types that are supported: 0 connectable and scannable, 2 scannable, 3 neither, 4 connectable directed with low
-- duty cycle. Type 1, with high duty cycle, is not
abbrev pub is_supported : ℕ → Bool
is_supported kind = (kind == 0) || (kind == 2) || (kind == 3) || (kind == 4)

abbrev pub is_connectable : ℕ → Bool
is_connectable kind = (kind == 0) || (kind == 4)

abbrev pub is_scannable : ℕ → Bool
is_scannable kind = (kind == 0) || (kind == 2)

abbrev pub is_directed : ℕ → Bool
is_directed kind = kind == 4

-- ---- what it sends

-- the advertisement of each type, with these octets of advertising data, of which a directed one has none. ChSel is 1
-- where the type has it: channel selection algorithm #2 is supported (section 2.3.1)
abbrev pub advertisement : AdvParams → List ℕ → AdvPdu
advertisement params octets =
    if params.kind == 0 then Ind params.own true (record { items = octets })
    else (if params.kind == 2 then ScanInd params.own (record { items = octets })
    else (if params.kind == 4 then Direct params.own params.target true
    else Nonconn params.own (record { items = octets })))

-- ---- when

-- what an advertiser that is on holds: its parameters, and the slot from which on its next event is due
pub record AdvertiserFacts : Type 0 where
  pub params : AdvParams
  pub due : ℕ

-- the slot from which on the next event is due, where one began in this slot: an interval later, of a least interval in
-- units of 0.625 ms (that no delay is added is our choice)
abbrev pub due_after : ℕ → ℕ → ℕ
due_after interval slot = slot + slots_of interval

-- the slot from which on the event with this number, from 0 on, is due, where each one begins as soon as it is due
abbrev pub nth_due : (interval due number : ℕ) → ℕ
nth_due interval due zero = due
nth_due interval due (suc number) = due_after interval (nth_due interval due number)

-- the channel in one of the three slots of an event, by its place 0, 1 or 2: none where the host left it out (that each
-- takes a slot is our choice)
abbrev pub event_channel : ℕ → ℕ → Option ℕ
event_channel channels place = if has_bit channels place then Some (37 + place) else None

-- events that begin in these slots begin no earlier than each is due
abbrev pub BeginWhenDue : (interval due : ℕ) → List ℕ → Type 0
BeginWhenDue interval due [] = ⊤
BeginWhenDue interval due (slot ∷ slots) = (due ≤ slot) × BeginWhenDue interval (due_after interval slot) slots
