-- How a peripheral reads the indications that it takes, and when they come (Core 5.2, volume 6 part B, section 5.5).
use Rattle.std.specs.Prelude.{◌≡◌, ℕ, ◌<◌, false, List, [], ◌∷◌, ◌++◌, Some}
use Rattle.std.specs.List.{All}
use Rattle.ble_base.specs.declared.roles.Role.TheVariants.{Peripheral}
use Rattle.ble_base.specs.declared.roles.Side.{Side}
use Rattle.instants.specs.Arrivals.{taking_of}
use Rattle.instants.specs.Track.{gap_ahead}
use Rattle.instants.specs.declared.indications.Indication.{Indication}
use Rattle.instants.specs.declared.track.Change.{Change}
use Rattle.journal.specs.declared.entries.Entry.{Entry}
use Rattle.journal.specs.declared.entries.Entry.TheVariants.{Enter, Took}
use Rattle.link_changes.specs.Noted.{event_noted, indication_in, takings_noted}
use Rattle.link_indications.specs.InTime.{IsTakenInTime}
use Rattle.journal_data.specs.Followed.{Mixed}
use Rattle.journal_data.specs.journal_links.Begun.{LinkBegun, link_numbered}
use Rattle.journal_data.specs.journal_links.Changes.{notes_said, role_on}
use Rattle.journal_agreement.specs.Indications.{indications_sent}

-- ---- what is read

-- this change is the last of those that were sent
pub record IsLastSent (change : Change) (sent : List Change) : Type 0 where
  pub earlier : List Change
  pub is : sent ≡ earlier ++ change ∷ []

-- a peripheral that takes an indication whose Instant has not passed reads the change that its central sent last: the
-- indication, and the event that the sixteen bits of its Instant name. So it is as long as no packet of the link is mixed
abbrev pub AllAreReadAsSent : Mixed → List Entry → Type 0
AllAreReadAsSent mixed journal = (front rest : List Entry) (side : Side) (number count llid : ℕ) (body : List ℕ)
    (link : LinkBegun) (indication : Indication) → journal ≡ front ++ Took side number count llid body ∷ rest
    → mixed number front ≡ false → link_numbered number journal ≡ Some link → role_on link side ≡ Peripheral
    → indication_in llid body ≡ Some indication
    → gap_ahead (event_noted (notes_said side number front)) indication < 32767
    → IsLastSent (taking_of (event_noted (notes_said side number front)) indication).change
    (indications_sent number link front)

-- ---- when it comes

-- where a peripheral enters an event, each indication that it took before came in time
abbrev pub AllCameInTime : List Entry → Type 0
AllCameInTime journal = (front rest : List Entry) (side : Side) (number event channel : ℕ) (link : LinkBegun)
    → journal ≡ front ++ Enter side number event channel ∷ rest → link_numbered number front ≡ Some link
    → role_on link side ≡ Peripheral → All IsTakenInTime (takings_noted Peripheral (notes_said side number front))
