-- An end that follows the indications: it has their parameters and their anchor in the event entered last.
use Rattle.std.specs.Prelude.{◌≡◌, ℕ, ◌≤◌, List, [], ◌∷◌, length, Option, Some, None, IfSome, if◌then◌else◌}
use Rattle.std.specs.List.{All}
use Rattle.instants.specs.declared.indications.Params.{Params}
use Rattle.instants.specs.declared.track.Change.{Change}
use Rattle.instants.specs.Parameters.{params_in, anchor_in}
use Rattle.instants.specs.Track.{TrackFacts, event_of, is_due}

-- an end that began with these parameters and this first anchor, and that let these indications hold so far
pub record Follows (first : Params) (slot : ℕ) (changes : List Change) (t : TrackFacts) : Type 0 where
  -- it has the parameters of the event
  pub params : t.params ≡ params_in first changes (event_of t)
  -- and its anchor
  pub anchor : t.anchor ≡ anchor_in slot first changes (event_of t)
  -- it counts the indications that hold
  pub number : t.applied ≡ length changes
  -- their events have come
  pub past : All (λ change. change.at.0 ≤ event_of t) changes
  -- the event of the one that waits is not over
  pub ahead : IfSome t.waits (λ change. event_of t ≤ change.at.0)
  -- before event 0 it has taken none
  pub before : t.entered ≡ 0 → (changes ≡ []) × (t.waits ≡ None)

-- two ends in one event, with one anchor and one set of parameters
pub record AreTogether (a b : TrackFacts) : Type 0 where
  pub event : a.entered ≡ b.entered
  pub anchor : a.anchor ≡ b.anchor
  pub params : a.params ≡ b.params

-- what holds from the next event on and did not before
abbrev pub new_changes : Option Change → ℕ → List Change
new_changes None next = []
new_changes (Some change) next = (if is_due change next then change ∷ [] else [])
