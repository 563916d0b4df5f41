-- The two ends of a link after any list of steps, each of which may come.
use Rattle.std.specs.Prelude.{◌≡◌, ℕ, ◌<◌, ◌≤◌, true, List, [], ◌∷◌, Option, Some, None}
use Rattle.instants.specs.declared.indications.Params.{Params}
use Rattle.instants.specs.declared.track.Change.{Change}
use Rattle.instants.specs.Track.{TrackFacts, event_of}
use Rattle.two_tracks.specs.TwoEnds.{TwoEnds, Step, LastPdu, Untaken, Taken, Acknowledged, May, after, beginning}
use Rattle.two_tracks.specs.TwoEnds.{has_passed}

abbrev pub after_all : List Step → TwoEnds → TwoEnds
after_all [] s = s
after_all (step ∷ steps) s = after_all steps (after step s)

-- each of the steps may come where those before it lead
abbrev pub AllMay : List Step → TwoEnds → Type 0
AllMay [] s = Unit {0}
AllMay (step ∷ steps) s = May step s × AllMay steps (after step s)

-- a link with these first parameters and this first anchor comes to this state
pub record IsReached (first : Params) (slot : ℕ) (s : TwoEnds) : Type 0 where
  -- the turns that began before the link did
  pub turns : ℕ
  pub steps : List Step
  pub not_over : turns ≤ slot
  -- the interval of a CONNECT_IND (section 2.3.3.1)
  pub interval : 6 ≤ first.interval
  pub may : AllMay steps (beginning first slot turns)
  pub reaches : after_all steps (beginning first slot turns) ≡ s

-- both ends are open
pub record AreOpen (s : TwoEnds) : Type 0 where
  pub central : s.central_open ≡ true
  pub peripheral : s.peripheral_open ≡ true

-- the indication that the peripheral has not taken
abbrev pub untaken : LastPdu → Option Change
untaken (Untaken change) = change
untaken Taken = None
untaken Acknowledged = None

-- the indication that the peripheral has not taken comes after its Instant: it is read as passed
abbrev pub IsLate : Option Change → TrackFacts → Type 0
IsLate None t = ⊥
IsLate (Some change) t = (change.at.0 < event_of t) × (has_passed t change ≡ true)
