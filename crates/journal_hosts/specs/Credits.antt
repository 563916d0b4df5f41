-- When complete packets are reported to a host, and in which order (Core 5.2, volume 4 part E, section 7.7.19; when and
-- in which order is our choice).
use Rattle.std.specs.Prelude.{◌≡◌, ℕ, ◌<◌, ◌&&◌, Bool, true, false, List, [], ◌∷◌, ◌++◌, fold, ⊤}
use Rattle.std.specs.List.{Contains, list_any}
use Rattle.ble_base.specs.declared.ErrCode.{ErrCode}
use Rattle.ble_base.specs.declared.roles.Role.{Role}
use Rattle.ble_base.specs.declared.roles.Side.{Side}
use Rattle.hci_evt.specs.Event.{written}
use Rattle.hci_evt.specs.declared.event.Event.TheVariants.{DisconnectionComplete}
use Rattle.host_view.specs.Noted.{two_octets}
use Rattle.journal.specs.declared.entries.Entry.{Entry}
use Rattle.journal.specs.declared.entries.Entry.TheVariants.{Fed, Opened, Shut, Turn, Up}
use Rattle.journal_data.specs.controller_model.Notes.{is_event}
use Rattle.run_model.specs.Readers.{turn_packets, turns_of}
use Rattle.journal_data.specs.journal_packets.Belonging.{is_side}

-- a credit is a Number Of Completed Packets event, 13. It is of one handle, which is at the place 4, and the number of
-- its packets is after that
abbrev pub is_credit : List ℕ → Bool
is_credit octets = is_event 0x13 octets

abbrev pub credit_handle : List ℕ → ℕ
credit_handle octets = two_octets 4 octets

abbrev pub credit_count : List ℕ → ℕ
credit_count octets = two_octets 6 octets

-- each credit is of at least one packet
abbrev pub AllCreditsAreOfSome : List Entry → Type 0
AllCreditsAreOfSome journal = (front rest : List Entry) (side : Side) (octets : List ℕ)
    → journal ≡ front ++ Up side octets ∷ rest → is_credit octets ≡ true → 0 < credit_count octets

-- before the first packet of a turn each credit is of one packet: that has no octets, and is complete as it comes
abbrev pub AllCreditsAreOfOne : List Entry → Type 0
AllCreditsAreOfOne journal = (front rest : List Entry) (side : Side) (octets : List ℕ)
    → journal ≡ front ++ Up side octets ∷ rest → is_credit octets ≡ true → turn_packets front ≡ 0
    → credit_count octets ≡ 1

-- whether a side is being fed, after a line: since the octets that its host sent last there are only packets to that
-- host, and lines of links that the side shuts
abbrev pub fed_after : Side → Bool → Entry → Bool
fed_after side fed (Fed other octets) = is_side other side
fed_after side fed (Up other octets) = fed && is_side other side
fed_after side fed (Shut other link reason) = fed && is_side other side
fed_after side fed entry = false

unfoldable pub is_being_fed : Side → List Entry → Bool
is_being_fed side front = fold (fed_after side) false front

-- and it comes as its side is being fed
abbrev pub AllEarlyCreditsComeAtOnce : List Entry → Type 0
AllEarlyCreditsComeAtOnce journal = (front rest : List Entry) (side : Side) (octets : List ℕ)
    → journal ≡ front ++ Up side octets ∷ rest → is_credit octets ≡ true → turn_packets front ≡ 0
    → is_being_fed side front ≡ true

-- after the first packet of a turn the credits of a side, in that turn, are in the order of their handles, and no two
-- have the same one
abbrev pub AllCreditsAscend : List Entry → Type 0
AllCreditsAscend journal = (front between rest : List Entry) (side : Side) (one other : List ℕ)
    → journal ≡ front ++ Up side one ∷ (between ++ Up side other ∷ rest) → is_credit one ≡ true → is_credit other ≡ true
    → 0 < turn_packets front → turns_of between ≡ [] → credit_handle one < credit_handle other

-- ---- what comes after such a credit in its turn

-- whether a side shuts a link in these lines
abbrev pub is_shut_by : Side → Entry → Bool
is_shut_by side (Shut other link reason) = is_side other side
is_shut_by side entry = false

abbrev pub has_shut : Side → List Entry → Bool
has_shut side lines = list_any (is_shut_by side) lines

-- a side has opened this link under this handle
pub record IsOpenedUnder (side : Side) (link handle : ℕ) (lines : List Entry) : Type 0 where
  pub role : Role
  pub opened : Contains lines (Opened side link handle role)

-- the Disconnection Complete event of a link that a side has shut for this reason, with status 00 (volume 4 part E,
-- section 7.7.5)
pub record IsEndReport (side : Side) (link : ℕ) (reason : ErrCode) (lines : List Entry) (octets : List ℕ) : Type 0 where
  pub handle : ℕ
  pub opened : IsOpenedUnder side link handle lines
  pub octets_are : octets ≡ written (DisconnectionComplete 0x00 handle reason.0)

-- `lines` are all lines so far, and `between` those of them after the credit. What a side sends its own host is
-- credits, before it shuts a link, and the event of a link that it has shut in the line just before
pub data IsLatePacket (side : Side) (lines between : List Entry) (octets : List ℕ) : Type 0 where
  IsCredit : has_shut side between ≡ false → is_credit octets ≡ true → IsLatePacket side lines between octets
  ReportsEnd : (link : ℕ) (reason : ErrCode) (earlier : List Entry) → between ≡ earlier ++ Shut side link reason ∷ []
      → IsEndReport side link reason lines octets → IsLatePacket side lines between octets

-- besides, there are only packets to the other host, and lines of links that are shut
abbrev pub MayFollowCredit : Side → (lines between : List Entry) → Entry → Type 0
MayFollowCredit side lines between (Turn slot a_on b_on) = ⊤
MayFollowCredit side lines between (Up other octets) = other ≡ side → IsLatePacket side lines between octets
MayFollowCredit side lines between (Shut other link reason) = ⊤
MayFollowCredit side lines between entry = ⊥

-- each line after a credit that comes after the first packet of a turn, in that turn
abbrev pub AllLateCreditsComeLast : List Entry → Type 0
AllLateCreditsComeLast journal = (front between rest : List Entry) (side : Side) (octets : List ℕ) (entry : Entry)
    → journal ≡ front ++ Up side octets ∷ (between ++ entry ∷ rest) → is_credit octets ≡ true
    → 0 < turn_packets front → turns_of between ≡ []
    → MayFollowCredit side (front ++ Up side octets ∷ between) between entry
