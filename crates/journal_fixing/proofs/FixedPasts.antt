-- What an end fixed last, as more happens to it.
use Rattle.std.proofs.Common.{◌≡◌, ℕ, Bool, true, false, List, [], ◌∷◌, ◌++◌, fold, refl, sym, ap, ◌∙◌, append-nil, append_assoc}
use Rattle.std.specs.List.{AllByRecursion}
use Rattle.std.proofs.lemmas.List.Sums.{fold-append}
use Rattle.journal_controls.specs.TurnSteps.{first_if, steps_begun}
use Rattle.journal_controls.specs.link_model.End.{facts_after, facts_of}
use Rattle.journal_controls.specs.link_model.Facts.{first_facts}
use Rattle.journal_controls.specs.link_model.Setup.{Setup}
use Rattle.journal_controls.specs.link_model.Step.{Step, EventEntered, PacketSent, PduFixed}
use Rattle.journal_fixing.specs.PastFixing.{facts_fixing, fixing_after, fixing_from, past_fixing}

-- a step in which no PDU is fixed
abbrev pub FixesNone : Step → Type 0
FixesNone step = (front before : List Step) → fixing_after front before step ≡ before

from_both : (front before past steps : List Step) → fixing_from front before (past ++ steps) ≡ fixing_from (front ++ past) (fixing_from front before past) steps
from_both front before [] steps = ap (λ xs. fixing_from xs before steps) (sym (append-nil front))
from_both front before (step ∷ past) steps =
    from_both (front ++ step ∷ []) (fixing_after front before step) past steps
    ∙ ap (λ xs. fixing_from xs (fixing_from (front ++ step ∷ []) (fixing_after front before step) past) steps) (append_assoc front (step ∷ []) past)

none_from : (front before steps : List Step) → AllByRecursion FixesNone steps → fixing_from front before steps ≡ before
none_from front before [] none = refl
none_from front before (step ∷ steps) none =
    ap (λ xs. fixing_from (front ++ step ∷ []) xs steps) (none.0 front before) ∙ none_from (front ++ step ∷ []) before steps none.1

-- what it fixed stays
pub fixing_stays : (past steps : List Step) → AllByRecursion FixesNone steps → past_fixing (past ++ steps) ≡ past_fixing past
unfolding past_fixing
fixing_stays past steps none = from_both [] [] past steps ∙ none_from past (fixing_from [] [] past) steps none

-- it fixes a PDU
pub fixing_last : (past steps : List Step) → AllByRecursion FixesNone steps → past_fixing (past ++ PduFixed ∷ steps) ≡ past
unfolding past_fixing
fixing_last past steps none = from_both [] [] past (PduFixed ∷ steps) ∙ none_from (past ++ PduFixed ∷ []) past steps none

-- ---- as a turn begins

sent_none : (sends : Bool) (slot : ℕ) → AllByRecursion FixesNone (first_if sends (PacketSent slot) [])
sent_none true slot = ((λ front before. refl), tt)
sent_none false slot = tt

pub begun_past : (past : List Step) (enters sends : Bool) (slot : ℕ)
    → past ++ steps_begun enters true sends slot ≡ (past ++ first_if enters (EventEntered slot) []) ++ PduFixed ∷ first_if sends (PacketSent slot) []
begun_past past true sends slot = sym (append_assoc past (EventEntered slot ∷ []) (PduFixed ∷ first_if sends (PacketSent slot) []))
begun_past past false sends slot = ap (λ xs. xs ++ PduFixed ∷ first_if sends (PacketSent slot) []) (sym (append-nil past))

pub fixing_begun : (past : List Step) (enters sends : Bool) (slot : ℕ) → past_fixing (past ++ steps_begun enters true sends slot) ≡ past ++ first_if enters (EventEntered slot) []
fixing_begun past enters sends slot =
    ap past_fixing (begun_past past enters sends slot)
    ∙ fixing_last (past ++ first_if enters (EventEntered slot) []) (first_if sends (PacketSent slot) []) (sent_none sends slot)

pub facts_more : (setup : Setup) (past steps : List Step) → facts_of setup (past ++ steps) ≡ fold (facts_after setup) (facts_of setup past) steps
unfolding facts_of
facts_more setup past steps = fold-append (facts_after setup) (first_facts setup) past steps

pub facts_begun : (setup : Setup) (past : List Step) (enters sends : Bool) (slot : ℕ)
    → facts_fixing setup (past ++ steps_begun enters true sends slot) ≡ fold (facts_after setup) (facts_of setup past) (first_if enters (EventEntered slot) [])
facts_begun setup past enters sends slot = ap (facts_of setup) (fixing_begun past enters sends slot) ∙ facts_more setup past (first_if enters (EventEntered slot) [])

-- ---- before the last step

without_last : List Step → List Step
without_last [] = []
without_last (step ∷ []) = []
without_last (step ∷ next ∷ steps) = step ∷ without_last (next ∷ steps)

last_off : (past : List Step) (step : Step) → without_last (past ++ step ∷ []) ≡ past
unfolding without_last
last_off [] step = refl
last_off (first ∷ []) step = refl
last_off (first ∷ next ∷ past) step = ap (λ xs. first ∷ xs) (last_off (next ∷ past) step)

pub same_before : (past other : List Step) (step last : Step) → past ++ step ∷ [] ≡ other ++ last ∷ [] → past ≡ other
same_before past other step last are = sym (last_off past step) ∙ ap without_last are ∙ last_off other last
