-- What the answers to one command must be, and to none.
use Rattle.std.proofs.Common.{◌≡◌, ℕ, ◌==◌, Bool, true, false, List, [], ◌∷◌, refl, sym, ap, ◌∙◌}
use Rattle.std.specs.List.{AllByRecursion}
use Rattle.std.proofs.lemmas.Bool.{eq-eqb}
use Rattle.std.proofs.lemmas.List.Elements.{recursion_from_All}
use Rattle.journal_pdus.specs.controller_model.Host.{opcodes_of, with_answer}
use Rattle.journal_pdus.specs.controller_model.Notes.{one_further}
use Rattle.std.specs.Prelude.{map}
use Rattle.journal_pdus.specs.journal_hosts.Answered.{AreAnswered}

abbrev MayLack : ℕ × Bool → Type 0
MayLack one = one.1 ≡ false → one.0 ≡ 0x0C35

-- a command that is not Host Number Of Completed Packets has one answer
pub answered_once : (command : ℕ) (answers : List (ℕ × ℕ)) → (command == 0x0C35) ≡ false → AreAnswered (command ∷ []) answers
    → answers ≡ (1, command) ∷ []
answered_once command answers other are =
    by are.marked are.commands_are (recursion_from_All MayLack are.marked are.unanswered) are.answers_are
  where
    by : (marked : List (ℕ × Bool)) → opcodes_of marked ≡ command ∷ [] → AllByRecursion MayLack marked
        → answers ≡ map one_further (opcodes_of (with_answer marked)) → answers ≡ (1, command) ∷ []
    by [] is may are = absurd cc
    by ((opcode, true) ∷ []) is may are = are ∙ ap (λ opcodes. map one_further opcodes) is
    by ((opcode, false) ∷ []) is may are =
        let same : opcode ≡ command = cc in
        absurd (let h : true ≡ false = sym (eq-eqb command 0x0C35 (sym same ∙ may.0 refl)) ∙ other in absurd cc)
    by (one ∷ two ∷ more) is may are = absurd cc

pub none_answered : (answers : List (ℕ × ℕ)) → AreAnswered [] answers → answers ≡ []
none_answered answers are = by are.marked are.commands_are are.answers_are
  where
    by : (marked : List (ℕ × Bool)) → opcodes_of marked ≡ [] → answers ≡ map one_further (opcodes_of (with_answer marked)) → answers ≡ []
    by [] is are = are
    by (one ∷ more) is are = absurd cc
