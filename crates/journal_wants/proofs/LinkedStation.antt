-- What the lines of a side say of the link under a handle as a slot begins is what its controller has.
use Rattle.std.proofs.Common.{◌≡◌, ℕ, true, Some, List, ap, sym, subst, ◌∙◌}
use Rattle.ble_base.specs.declared.roles.Side.{Side}
use Rattle.journal.specs.declared.entries.Entry.{Entry}
use Rattle.journal_events.specs.journal_sending.journal_controls.journal_ends.Asked.{Words}
use Rattle.journal_events.specs.journal_sending.journal_data.Held.{links_open}
use Rattle.journal_events.specs.journal_sending.journal_data.HostLines.{link_under}
use Rattle.journal_events.specs.journal_sending.journal_data.link_model.Times.{has_second_exchange, span_of}
use Rattle.journal_events.specs.journal_sending.journal_data.open_links.OpenLinks.{OpenLink, facts_in, has_entered}
use Rattle.journal_events.specs.journal_sending.journal_links.Begun.{LinkBegun, link_numbered}
use Rattle.journal_events.specs.journal_sending.journal_links.Changes.{role_on}
use Rattle.journal_events.specs.EventLines.{event_on, goes_on, slots_held}
use Rattle.journal_wants.specs.Station.{Linked, linked_under, linked_with, role_by}
use Rattle.journal_wants.proofs.SlotGiven.{IsLinkedAs}

-- the lines have the link under its handle, by its number, with its role, and the event that it entered last
pub record IsToldOf (words : Words) (side : Side) (front : List Entry) (handle : ℕ) (link : OpenLink) : Type 0 where
  pub number : ℕ
  pub under : link_under handle (links_open side front) ≡ Some number
  pub begun : LinkBegun
  pub is_begun : link_numbered number front ≡ Some begun
  pub role : role_on begun side ≡ link.setup.link.role
  pub held : slots_held (event_on words side number front) ≡ span_of (facts_in link)
  pub continues : goes_on (event_on words side number front) ≡ has_second_exchange (facts_in link)
  pub entered : has_entered link ≡ true

pub linked_as : (words : Words) (side : Side) (front : List Entry) (handle : ℕ) (link : OpenLink) → IsToldOf words side front handle link
    → IsLinkedAs (linked_under words side front handle) link
linked_as words side front handle link told =
    subst (λ (linked : Linked). IsLinkedAs linked link) (sym (ap (linked_with words side front) told.under)) (record {
      role = ap (λ begun. role_by begun side) told.is_begun ∙ told.role;
      held = told.held;
      continues = told.continues;
      entered = told.entered;
    })
