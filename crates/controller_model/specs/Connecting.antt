-- The CONNECT_INDs that a controller set out to send (our choice).
use Rattle.std.specs.Prelude.{◌≡◌, Bool, true, false, List, [], ◌∷◌, ⊤}
use Rattle.controller_model.specs.declared.doing.Doing.{Doing}
use Rattle.controller_model.specs.declared.doing.Doing.TheVariants.{Connects}
use Rattle.controller_model.specs.Step.{Step, TurnBegins, TurnEnds}
use Rattle.controller_model.specs.Facts.{Setup, Facts, first_facts}
use Rattle.controller_model.specs.Side.{facts_after}

-- a turn ends, or another one begins, where the next phase was to send a CONNECT_IND
abbrev pub cuts_off : Doing → Step → Bool
cuts_off (Connects channel link) (TurnBegins slot on) = true
cuts_off (Connects channel link) TurnEnds = true
cuts_off doing step = false

abbrev pub SendsEachFrom : Setup → Facts → List Step → Type 0
SendsEachFrom setup facts [] = ⊤
SendsEachFrom setup facts (step ∷ steps) =
    (cuts_off facts.turn.doing step ≡ false) × SendsEachFrom setup (facts_after setup facts step) steps

-- none was cut off: each is sent in the next phase
unfoldable pub SendsEach : Setup → List Step → Type 0
SendsEach setup past = SendsEachFrom setup (first_facts setup) past
