-- What a controller holds and has noted after one more step.
use Rattle.std.proofs.Common.{◌≡◌, List, [], ◌∷◌, ◌++◌, sym, ap, ◌∙◌, append-nil, append_assoc}
use Rattle.std.specs.Prelude.{fold}
use Rattle.std.proofs.lemmas.List.Sums.{fold-append}
use Rattle.ble_base.specs.declared.notes.Note.{Note}
use Rattle.controller_model.specs.Step.{Step}
use Rattle.controller_model.specs.Facts.{Setup, Facts, first_facts}
use Rattle.controller_model.specs.Side.{facts_after, facts_of, notes_after, notes_from, notes_of}

pub facts_more : (setup : Setup) (past : List Step) (step : Step) → facts_of setup (past ++ step ∷ []) ≡ facts_after setup (facts_of setup past) step
unfolding facts_of
facts_more setup past step = fold-append (facts_after setup) (first_facts setup) past (step ∷ [])

notes_from_more : (setup : Setup) (facts : Facts) (past : List Step) (step : Step)
    → notes_from setup facts (past ++ step ∷ []) ≡ notes_from setup facts past ++ notes_after setup (fold (facts_after setup) facts past) step
notes_from_more setup facts [] step = append-nil (notes_after setup facts step)
notes_from_more setup facts (first ∷ past) step =
    ap (λ (notes : List Note). notes_after setup facts first ++ notes) (notes_from_more setup (facts_after setup facts first) past step)
    ∙ sym (append_assoc (notes_after setup facts first) (notes_from setup (facts_after setup facts first) past)
    (notes_after setup (fold (facts_after setup) (facts_after setup facts first) past) step))

pub notes_more : (setup : Setup) (past : List Step) (step : Step)
    → notes_of setup (past ++ step ∷ []) ≡ notes_of setup past ++ notes_after setup (facts_of setup past) step
unfolding facts_of notes_of
notes_more setup past step = notes_from_more setup (first_facts setup) past step
