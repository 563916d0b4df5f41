-- What is to be refused in the turn of a packet whose link is known.
use Rattle.std.proofs.Common.{◌≡◌, ℕ, ◌+◌, ◌⊎◌, List, [], length, Some, sym, ap, subst, ◌∙◌}
use Rattle.ble_base.specs.declared.roles.Side.{Side}
use Rattle.journal.specs.declared.entries.Entry.{Entry}
use Rattle.run_model.specs.Readers.{turns_of}
use Rattle.journal_pdus.specs.journal_links.Begun.{LinkBegun, link_numbered}
use Rattle.journal_pdus.specs.journal_links.Changes.{changes_of}
use Rattle.journal_pdus.specs.journal_links.Entered.{anchor_in}
use Rattle.journal_pdus.specs.journal_packets.Belonging.{link_of_packet}
use Rattle.journal_pdus.specs.journal_acks.EventOrder.{entered_on}
use Rattle.journal_pdus.specs.InEvent.{IsInEvent}
use Rattle.wrong_journals.proofs.Packets.{some_is}

pub record IsInEventAs (front : List Entry) (link : LinkBegun) (count : ℕ) : Type 0 where
  pub event : ℕ
  pub entered : count ≡ event + 1
  pub in_turn : (length (turns_of front) ≡ anchor_in link [] event + 1) ⊎ (length (turns_of front) ≡ anchor_in link [] event + 2)

pub in_event_as : (front : List Entry) (side : Side) (octets : List ℕ) (number : ℕ) (link : LinkBegun) (count : ℕ)
    → link_of_packet front side octets ≡ Some number → link_numbered number front ≡ Some link → entered_on side number front ≡ count
    → changes_of number link side front ≡ [] → IsInEvent front side octets
    → IsInEventAs front link count
in_event_as front side octets number link count belongs is_link entered none in_event =
    let same : in_event.number ≡ number = some_is in_event.number number (sym in_event.belongs ∙ belongs) in
    let one : in_event.link ≡ link = some_is in_event.link link (sym in_event.is_link ∙ ap (λ n. link_numbered n front) same ∙ is_link) in record {
      event = in_event.event;
      entered = sym entered ∙ ap (λ n. entered_on side n front) (sym same) ∙ in_event.entered;
      in_turn = subst (λ slot. (length (turns_of front) ≡ slot + 1) ⊎ (length (turns_of front) ≡ slot + 2))
          ((λ i. anchor_in (one i) (changes_of (same i) (one i) side front) in_event.event) ∙ ap (λ changes. anchor_in link changes in_event.event) none) in_event.in_turn;
    }
