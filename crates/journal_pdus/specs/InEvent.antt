-- A link has packets only in its events (Core 5.2, volume 6 part B, section 4.5.1; that an event has at most two slots is
-- our choice).
use Rattle.std.specs.Prelude.{◌≡◌, ℕ, ◌+◌, ◌⊎◌, false, List, ◌∷◌, ◌++◌, length, Some}
use Rattle.ble_base.specs.declared.roles.Side.{Side}
use Rattle.ble_base.specs.declared.verdicts.Verdict.{Verdict}
use Rattle.journal.specs.declared.entries.Entry.{Entry}
use Rattle.journal.specs.declared.entries.Entry.TheVariants.{Air}
use Rattle.journal.specs.declared.entries.Mark.{Mark}
use Rattle.journal_moves.specs.journal_wants.journal_sending.run_model.Links.{is_advertising}
use Rattle.journal_moves.specs.journal_wants.journal_sending.run_model.Readers.{turns_of}
use Rattle.journal_moves.specs.journal_wants.journal_sending.journal_links.Begun.{LinkBegun, link_numbered}
use Rattle.journal_moves.specs.journal_wants.journal_sending.journal_links.Changes.{changes_of}
use Rattle.journal_moves.specs.journal_wants.journal_sending.journal_links.Entered.{anchor_in}
use Rattle.journal_moves.specs.journal_wants.journal_sending.journal_packets.Belonging.{link_of_packet}
use Rattle.journal_moves.specs.journal_wants.journal_sending.journal_acks.EventOrder.{entered_on}

-- a packet of a link that a side sends after these entries is in the turn of the anchor of the event that this side
-- entered last, or in the next turn
pub record IsInEvent (front : List Entry) (side : Side) (octets : List ℕ) : Type 0 where
  pub number : ℕ
  pub belongs : link_of_packet front side octets ≡ Some number
  pub link : LinkBegun
  pub is_link : link_numbered number front ≡ Some link
  pub event : ℕ
  pub entered : entered_on side number front ≡ event + 1
  pub in_turn : (length (turns_of front) ≡ anchor_in link (changes_of number link side front) event + 1)
      ⊎ (length (turns_of front) ≡ anchor_in link (changes_of number link side front) event + 2)

abbrev pub AllAreInEvents : List Entry → Type 0
AllAreInEvents journal = (front rest : List Entry) (side : Side) (channel : ℕ) (octets : List ℕ) (fate : Mark)
    (verdict : Verdict) → journal ≡ front ++ Air side channel octets fate verdict ∷ rest
    → is_advertising channel ≡ false → IsInEvent front side octets
