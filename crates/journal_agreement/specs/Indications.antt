-- Both ends of a link follow one list of indications: those that the central sent. So in events of one number in
-- which the same number of them is in force they have one anchor, one channel and equal parameters (Core 5.2, volume 6
-- part B, sections 4.5.1, 4.5.8, 5.1.1, 5.1.2 and 5.5).
use Rattle.std.specs.Prelude.{◌≡◌, ℕ, false, List, ◌∷◌, ◌++◌, length, take, Some}
use Rattle.ble_base.specs.declared.roles.Role.TheVariants.{Central}
use Rattle.ble_base.specs.declared.roles.Side.{Side}
use Rattle.instants.specs.Parameters.{params_in}
use Rattle.instants.specs.declared.track.Change.{Change}
use Rattle.journal.specs.declared.entries.Entry.{Entry}
use Rattle.journal.specs.declared.entries.Entry.TheVariants.{Enter}
use Rattle.link_changes.specs.Noted.{indications_noted}
use Rattle.journal_data.specs.Followed.{Mixed}
use Rattle.journal_data.specs.journal_links.Begun.{LinkBegun, link_numbered}
use Rattle.journal_data.specs.journal_links.Changes.{changes_of, notes_said}
use Rattle.journal_data.specs.link_model.Setup.{first_params}
use Rattle.journal_data.specs.run_model.Readers.{turns_of}

-- ---- one end

-- the indications that the central of the link with this number sent, by these lines, oldest first
abbrev pub indications_sent : ℕ → LinkBegun → List Entry → List Change
indications_sent number link front = indications_noted Central (notes_said link.central number front)

-- those in force at a side are the first of them, from the same events on
abbrev pub FollowsCentral : ℕ → LinkBegun → Side → List Entry → Type 0
FollowsCentral number link side front =
    let changes = changes_of number link side front in
    changes ≡ take (length changes) (indications_sent number link front)

-- so it is where an end enters an event, as long as no packet of the link is mixed
abbrev pub AllFollowCentral : Mixed → List Entry → Type 0
AllFollowCentral mixed journal = (front rest : List Entry) (side : Side) (number event channel : ℕ) (link : LinkBegun)
    → journal ≡ front ++ Enter side number event channel ∷ rest → mixed number front ≡ false
    → link_numbered number front ≡ Some link → FollowsCentral number link side front

-- ---- both ends

-- the lines that come after these entries and say that a side and another enter this event of a link, on these channels
pub record AreEnteredAlike (front later : List Entry) (side other : Side) (number event channel too : ℕ)
    (link : LinkBegun) : Type 0 where
  pub turn : length (turns_of front) ≡ length (turns_of later)
  pub one_channel : channel ≡ too
  pub params :
      params_in (first_params link.fields) (changes_of number link side front) event
      ≡ params_in (first_params link.fields) (changes_of number link other later) event

-- so it is wherever the same number of indications is in force at both, as long as no packet of the link is mixed
abbrev pub AllAreEnteredAlike : Mixed → List Entry → Type 0
AllAreEnteredAlike mixed journal = (front rest later last : List Entry) (side other : Side) (number event channel too : ℕ)
    (link : LinkBegun) → journal ≡ front ++ Enter side number event channel ∷ rest
    → journal ≡ later ++ Enter other number event too ∷ last
    → mixed number front ≡ false → mixed number later ≡ false → link_numbered number front ≡ Some link
    → length (changes_of number link side front) ≡ length (changes_of number link other later)
    → AreEnteredAlike front later side other number event channel too link
