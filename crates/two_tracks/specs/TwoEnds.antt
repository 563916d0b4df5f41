-- The parameters of both ends of a link, turn by turn, with what passes between them of the central's PDUs (Core 5.2,
-- volume 6 part B, sections 4.5.1, 4.5.2, 4.5.9 and 5.5).
use Rattle.std.specs.Prelude.{◌≡◌, ◌⊎◌, ℕ, ◌+◌, ◌<◌, ◌≤◌, ◌==◌, nat_lt, Bool, true, false, ◌&&◌, not, List, [], ◌∷◌, ◌++◌}
use Rattle.std.specs.Prelude.{Option, Some, None, if◌then◌else◌}
use Rattle.std.specs.List.{All}
use Rattle.instants.specs.declared.indications.Params.{Params}
use Rattle.instants.specs.declared.indications.Indication.{Indication}
use Rattle.instants.specs.declared.indications.Indication.TheVariants.{Update, Map}
use Rattle.instants.specs.declared.track.Change.{Change}
use Rattle.instants.specs.Track.{TrackFacts, first_facts, event_of, gap_ahead, next_anchor_of, track_after_enter}
use Rattle.instants.specs.Track.{track_after_take}

-- where the last PDU of the central is
pub data LastPdu : Type 0 where
  -- the peripheral has not taken it; the change that it carries, if it is an indication
  Untaken : Option Change → LastPdu
  -- the peripheral has taken it, and the central has not seen that
  Taken : LastPdu
  -- the central has seen it acknowledged
  Acknowledged : LastPdu

pub record TwoEnds : Type 0 where
  -- how many turns began; each turn is a slot of 1.25 ms
  pub turns : ℕ
  pub central : TrackFacts
  pub peripheral : TrackFacts
  pub central_open : Bool
  pub peripheral_open : Bool
  pub last : LastPdu
  -- the indications that the central sent, oldest first
  pub sent : List Change
  -- in this turn the peripheral heard a packet, and replies
  pub replies : Bool
  -- how many turns had begun when each last heard the other, or when the link began
  pub central_heard_at : ℕ
  pub peripheral_heard_at : ℕ
  -- the parameters of each end in the events that it entered
  pub central_entries : List TrackFacts
  pub peripheral_entries : List TrackFacts

-- a link that begins after this many turns with these parameters; its first anchor is in this slot. The empty PDU that
-- counts as the last one is not taken yet (our choice)
abbrev pub beginning : Params → ℕ → ℕ → TwoEnds
beginning first slot turns =
    record {
      turns = turns;
      central = first_facts first slot;
      peripheral = first_facts first slot;
      central_open = true;
      peripheral_open = true;
      last = Untaken None;
      sent = [];
      replies = false;
      central_heard_at = turns;
      peripheral_heard_at = turns;
      central_entries = [];
      peripheral_entries = [];
    }

pub data Step : Type 0 where
  -- a turn begins
  TurnBegins : Step
  -- the central transmits a PDU for the first time; the indication that it carries, if it is one
  CentralSends : Option Indication → Step
  -- a packet of the central is good at the peripheral, which has room for data or not
  PeripheralHears : (room : Bool) → Step
  -- the reply to it is good at the central
  CentralHears : Step
  -- an end of the link is shut, for whatever reason
  CentralEnds : Step
  PeripheralEnds : Step

-- ---- what a step does

-- whether an end enters its next event as this turn begins: it is the turn of its anchor
abbrev pub enters : ℕ → Bool → TrackFacts → Bool
enters turns is_open t = is_open && (next_anchor_of t == turns)

abbrev pub track_if : Bool → TrackFacts → TrackFacts
track_if enters t = (if enters then track_after_enter t else t)

abbrev pub entries_if : Bool → TrackFacts → List TrackFacts → List TrackFacts
entries_if enters t entries = (if enters then entries ++ track_after_enter t ∷ [] else entries)

abbrev pub turn_with : Bool → Bool → TwoEnds → TwoEnds
turn_with central peripheral s =
    record s {
      turns = s.turns + 1;
      central = track_if central s.central;
      peripheral = track_if peripheral s.peripheral;
      replies = false;
      central_entries = entries_if central s.central s.central_entries;
      peripheral_entries = entries_if peripheral s.peripheral s.peripheral_entries;
    }

abbrev pub after_turn : TwoEnds → TwoEnds
after_turn s =
    turn_with (enters s.turns s.central_open s.central) (enters s.turns s.peripheral_open s.peripheral) s

-- the change that an indication makes which is first transmitted in this event
abbrev pub change_of : ℕ → Indication → Change
change_of event indication =
    record { indication = indication; at = record { 0 = event + gap_ahead event indication } }

abbrev pub after_sending : Option Indication → TwoEnds → TwoEnds
after_sending None s = record s { last = Untaken None }
after_sending (Some indication) s =
    let change = change_of (event_of s.central) indication in
    record s {
      central = track_after_take s.central indication;
      last = Untaken (Some change);
      sent = s.sent ++ change ∷ [];
    }

-- whether the Instant of an indication has passed for an end that hears it in its event (section 5.5.1)
abbrev pub has_passed : TrackFacts → Change → Bool
has_passed t change = not (nat_lt (gap_ahead (event_of t) change.indication) 32767)

-- a peripheral that hears an indication whose Instant has passed ends the link, and else takes it
abbrev pub after_indication : (passed : Bool) → Change → TwoEnds → TwoEnds
after_indication true change s = record s { peripheral_open = false; replies = false }
after_indication false change s =
    record s {
      peripheral = track_after_take s.peripheral change.indication;
      last = Taken;
      replies = true;
    }

-- data stays untaken where the peripheral has no room for it
abbrev pub after_pdu : (room : Bool) → LastPdu → TwoEnds → TwoEnds
after_pdu room (Untaken None) s = record s { last = (if room then Taken else Untaken None); replies = true }
after_pdu room (Untaken (Some change)) s = after_indication (has_passed s.peripheral change) change s
after_pdu room Taken s = record s { replies = true }
after_pdu room Acknowledged s = record s { replies = true }

-- the peripheral notes that it hears the central
abbrev pub heard_by_peripheral : TwoEnds → TwoEnds
heard_by_peripheral s = record s { peripheral_heard_at = s.turns }

abbrev pub last_after_reply : LastPdu → LastPdu
last_after_reply (Untaken change) = Untaken change
last_after_reply Taken = Acknowledged
last_after_reply Acknowledged = Acknowledged

abbrev pub after : Step → TwoEnds → TwoEnds
after TurnBegins s = after_turn s
after (CentralSends indication) s = after_sending indication s
after (PeripheralHears room) s = after_pdu room s.last (heard_by_peripheral s)
after CentralHears s =
    record s { last = last_after_reply s.last; replies = false; central_heard_at = s.turns }
after CentralEnds s = record s { central_open = false; replies = false }
after PeripheralEnds s = record s { peripheral_open = false; replies = false }

-- ---- which step may come

-- the least connInterval, in slots, is 6: 7.5 ms (section 4.5.1)
abbrev pub HasSlots : Indication → Type 0
HasSlots (Update win_offset interval latency timeout instant) = 6 ≤ interval
HasSlots (Map map instant) = Unit {0}

-- an indication is sent where the Instants of all before it are over, with an Instant ahead
pub record MayIndicate (s : TwoEnds) (indication : Indication) : Type 0 where
  pub over : All (λ change. change.at.0 < event_of s.central) s.sent
  pub ahead : 1 ≤ gap_ahead (event_of s.central) indication
  pub near : gap_ahead (event_of s.central) indication < 32767
  pub interval : HasSlots indication

abbrev pub MayIndicateIf : TwoEnds → Option Indication → Type 0
MayIndicateIf s None = Unit {0}
MayIndicateIf s (Some indication) = MayIndicate s indication

-- a PDU is first transmitted in an event, where the one before it is acknowledged
pub record MaySend (s : TwoEnds) (indication : Option Indication) : Type 0 where
  pub is_open : s.central_open ≡ true
  pub in_event : 1 ≤ s.central.entered
  pub acknowledged : s.last ≡ Acknowledged
  pub indicates : MayIndicateIf s indication

-- an end has an exchange in this turn: the first of its event, in the slot of the anchor, or the second, in the slot
-- after it, where it heard the other end in the first (our choice)
abbrev pub IsInExchange : ℕ → ℕ → TrackFacts → Type 0
IsInExchange turns heard_at t = (turns ≡ t.anchor + 1) ⊎ ((turns ≡ t.anchor + 2) × (heard_at ≡ t.anchor + 1))

-- a packet of the central may be good at the peripheral
pub record MayReach (s : TwoEnds) : Type 0 where
  pub central_open : s.central_open ≡ true
  pub peripheral_open : s.peripheral_open ≡ true
  pub transmits : IsInExchange s.turns s.central_heard_at s.central
  pub listens : IsInExchange s.turns s.peripheral_heard_at s.peripheral
  -- the supervision timeout, of at most 25,600 slots, has not passed (section 4.5.2)
  pub supervised : s.turns ≤ s.peripheral_heard_at + 32768

abbrev pub May : Step → TwoEnds → Type 0
May TurnBegins s = Unit {0}
May (CentralSends indication) s = MaySend s indication
May (PeripheralHears room) s = MayReach s
May CentralHears s = s.replies ≡ true
May CentralEnds s = Unit {0}
May PeripheralEnds s = Unit {0}
