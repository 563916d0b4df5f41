-- What a side heard last on a link, and that its host completed a Reset, from the lines of a journal alone (Core 5.2,
-- volume 6 part B, section 4.5.2, and volume 4 part E, section 7.3.2).
use Rattle.std.specs.Prelude.{◌≡◌, ℕ, ◌-◌, ◌&&◌, not, Bool, List, [], ◌∷◌, ◌++◌, length, Option, Some, None, if◌then◌else◌}
use Rattle.h4_frames.specs.declared.packet.HostPacket.TheVariants.{Command as HostCommand}
use Rattle.h4_frames.specs.declared.packet.Fed.TheVariants.{Packet}
use Rattle.ble_base.specs.Side.{other_side}
use Rattle.ble_base.specs.declared.roles.Side.{Side}
use Rattle.journal.specs.declared.entries.Entry.{Entry}
use Rattle.journal.specs.declared.entries.Entry.TheVariants.{Air, Fed}
use Rattle.journal_packets.specs.controller_model.Side.{result_of}
use Rattle.link_calls.specs.run_model.History.{is_good}
use Rattle.link_calls.specs.run_model.Links.{is_advertising}
use Rattle.link_calls.specs.run_model.Order.{AreNotes}
use Rattle.link_calls.specs.run_model.Readers.{fed_to_side, turns_of}
use Rattle.journal_packets.specs.Belonging.{is_side, link_of_packet}
use Rattle.journal_acks.specs.Exchange.{is_number}

-- ---- what was heard last

-- a packet that a side sends after these entries is of the link with this number
abbrev pub is_of_link : ℕ → List Entry → Side → ℕ → List ℕ → Bool
is_of_link number front sender channel octets =
    not (is_advertising channel) && is_number (link_of_packet front sender octets) number

-- the turn of the last packet of the other side on the link with this number that a side judged good, after an entry
-- that comes after these
abbrev pub heard_after : ℕ → Side → List Entry → Option ℕ → Entry → Option ℕ
heard_after number side front before (Air sender channel octets fate verdict) =
    if is_of_link number front sender channel octets && (is_side sender (other_side side) && is_good verdict)
    then Some (length (turns_of front) - 1) else before
heard_after number side front before _ = before

abbrev pub heard_from : ℕ → Side → List Entry → Option ℕ → List Entry → Option ℕ
heard_from number side front before [] = before
heard_from number side front before (entry ∷ entries) =
    heard_from number side (front ++ entry ∷ []) (heard_after number side front before entry) entries

unfoldable pub last_heard : ℕ → Side → List Entry → Option ℕ
last_heard number side journal = heard_from number side [] None journal

-- ---- a Reset

-- an octet of the last line of the host of a side, which is in this turn, completes an HCI_Reset, after all octets that
-- the host sent before: the command 0C03, with no parameters
pub record CompletesReset (front : List Entry) (side : Side) : Type 0 where
  pub before : List Entry
  pub octets : List ℕ
  pub notes : List Entry
  pub front_is : front ≡ before ++ Fed side octets ∷ notes
  pub are_notes : AreNotes side notes
  pub first : List ℕ
  pub last : ℕ
  pub more : List ℕ
  pub octets_are : octets ≡ first ++ last ∷ more
  pub completes : result_of (fed_to_side side before ++ first) last
      ≡ Packet (HostCommand 0x0C03 (record { items = [] }))
