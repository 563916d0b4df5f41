-- The procedures, the phase and the keys of an end as its next PDU is fixed, and as that leaves the queue, from the lines
-- of a journal alone (Core 5.2, volume 6 part B, sections 4.5.6 and 4.5.9; when each is looked at is our choice).
use Rattle.std.specs.Prelude.{◌≡◌, ℕ, ◌==◌, ◌&&◌, Bool, true, false, List, [], ◌∷◌, ◌++◌, Option, Some, None, is_some, if◌then◌else◌}
use Rattle.std.specs.List.{AllByRecursion}
use Rattle.std.specs.Option.{option_map}
use Rattle.ble_base.specs.declared.roles.Side.{Side}
use Rattle.journal.specs.declared.entries.Entry.{Entry}
use Rattle.journal.specs.declared.entries.Entry.TheVariants.{Air, Sent, Took, Turn}
use Rattle.journal_controls.specs.LineSteps.{is_more_acked, keyed_on}
use Rattle.journal_controls.specs.journal_acks.Carried.{carried_of}
use Rattle.journal_controls.specs.journal_acks.Exchange.{exchange_of}
use Rattle.journal_controls.specs.journal_ends.Asked.{Words}
use Rattle.journal_controls.specs.journal_ends.Seen.{Hears, Seen, heard_in_line}
use Rattle.journal_controls.specs.journal_packets.Belonging.{is_side}
use Rattle.journal_controls.specs.link_model.Data.{is_control}
use Rattle.journal_controls.specs.link_model.Receiving.{keyed_acked_if}
use Rattle.journal_controls.specs.link_model.keyed_control.Keyed.{Keyed}

-- ---- what is read at the first line of a turn that passes a test, by that line and the entries before it

abbrev pub begins_turn : Entry → Bool
begins_turn (Turn slot a_on b_on) = true
begins_turn line = false

abbrev pub first_kept : {A : Type 0} → Option A → Bool → A → Option A
first_kept (Some kept) passes now = Some kept
first_kept None passes now = if passes then Some now else None

abbrev pub kept_after : {A : Type 0}
    → (List Entry → Entry → Bool) → (List Entry → Entry → A) → List Entry → Option A → Entry → Option A
kept_after passes value front kept line =
    if begins_turn line then None else first_kept kept (passes front line) (value front line)

abbrev pub kept_from : {A : Type 0}
    → (List Entry → Entry → Bool) → (List Entry → Entry → A) → List Entry → Option A → List Entry → Option A
kept_from passes value front kept [] = kept
kept_from passes value front kept (line ∷ lines) =
    kept_from passes value (front ++ line ∷ []) (kept_after passes value front kept line) lines

-- what is kept, or else what is now
abbrev pub kept_or : {A : Type 0} → Option A → A → A
kept_or None now = now
kept_or (Some kept) now = kept

-- ---- as the PDU is fixed: after both sides have begun the turn

-- from a packet of the turn on, or from the line of a new PDU of this end, the next PDU is fixed
abbrev pub is_fixed_from : Side → ℕ → Entry → Bool
is_fixed_from side number (Air sender channel octets fate verdict) = true
is_fixed_from side number (Sent other link count llid body) = is_side other side && link == number
is_fixed_from side number line = false

unfoldable pub fixing_kept : Words → Side → ℕ → List Entry → Option (Option Keyed)
fixing_kept words side number journal =
    kept_from (λ front line. is_fixed_from side number line) (λ front line. keyed_on words side number front) [] None journal

-- its next PDU is fixed in this turn
abbrev pub is_fixed : Words → Side → ℕ → List Entry → Bool
is_fixed words side number journal = is_some (fixing_kept words side number journal)

-- the end of a side on the link with this number, as it fixed its next PDU in this turn, or else now
abbrev pub control_fixing : Words → Side → ℕ → List Entry → Option Keyed
control_fixing words side number journal = kept_or (fixing_kept words side number journal) (keyed_on words side number journal)

-- ---- as a control PDU leaves the queue: a central sends it as the turn begins, and a peripheral as it hears the packet
-- of the central, which may acknowledge the last one

abbrev pub hears_good : List Seen → Bool
hears_good (Hears slot octets ∷ seen) = true
hears_good seen = false

-- it hears a good packet of the other end in this line
abbrev pub is_heard_at : Side → ℕ → List Entry → Entry → Bool
is_heard_at side number front line = hears_good (heard_in_line side number front line)

-- the packet in this line acknowledges a control PDU of the end
abbrev pub acks_control_at : Side → ℕ → List Entry → Entry → Bool
acks_control_at side number front line =
    is_more_acked (exchange_of number front side) (exchange_of number (front ++ line ∷ []) side)
    && is_control (carried_of number front side)

-- the end once that is done, and before it takes the PDU of the packet
abbrev pub control_answering : Words → Side → ℕ → List Entry → Entry → Option Keyed
control_answering words side number front line =
    option_map (keyed_acked_if (acks_control_at side number front line)) (keyed_on words side number front)

unfoldable pub going_kept : Words → Side → ℕ → List Entry → Option (Option Keyed)
going_kept words side number journal =
    kept_from (is_heard_at side number) (control_answering words side number) [] None journal

-- it heard a good packet of the other end in this turn
abbrev pub has_heard : Words → Side → ℕ → List Entry → Bool
has_heard words side number journal = is_some (going_kept words side number journal)

-- that end as its next control PDU leaves the queue in this turn, or else now
abbrev pub control_going : Words → Side → ℕ → List Entry → Option Keyed
control_going words side number journal = kept_or (going_kept words side number journal) (keyed_on words side number journal)

-- ---- the lines of an end before the first of them that says a new PDU

abbrev pub is_sending : Entry → Bool
is_sending (Sent side link count llid body) = true
is_sending line = false

abbrev pub before_sending : List Entry → List Entry
before_sending [] = []
before_sending (line ∷ lines) = if is_sending line then [] else line ∷ before_sending lines

-- none of these lines says that a PDU is taken
abbrev pub is_taking : Entry → Bool
is_taking (Took side link count llid body) = true
is_taking line = false

abbrev pub NoneTakes : List Entry → Type 0
NoneTakes lines = AllByRecursion (λ line. is_taking line ≡ false) lines
