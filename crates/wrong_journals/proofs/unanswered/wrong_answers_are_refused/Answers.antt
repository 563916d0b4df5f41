-- Proof of `unanswered::wrong_answers_are_refused`.
use Rattle.std.proofs.Common.{ℕ, true, List, [], ◌∷◌, refl, ap, Some}
use Rattle.std.specs.Prelude.{length}
use Rattle.ble_base.specs.declared.roles.Side.TheVariants.{A, B}
use Rattle.h4_frames.specs.Frames.{frames}
use Rattle.journal.specs.declared.entries.Entry.TheVariants.{Up}
use Rattle.journal_pdus.specs.journal_hosts.Answered.{IsAnsweredBy}
use Rattle.run_model.specs.Rows.{reset_answer}
use Rattle.wrong_journals.specs.Unanswered.{answered_from_nothing, answered_otherwise, answered_twice, never_answered}
use Rattle.wrong_journals.proofs.Differing.{numbers_differ}
use Rattle.wrong_journals.proofs.Unanswering.{answered_once, none_answered}
use Rattle.wrong_journals.proofs.unanswered.wrong_answers_are_refused.Goals as goal

first_opcode : List (ℕ × ℕ) → ℕ
first_opcode [] = 0
first_opcode (answer ∷ answers) = answer.1

none : IsAnsweredBy never_answered A → ⊥
unfolding frames
none are = numbers_differ 0 1 refl (ap length (answered_once 0x0C03 [] refl are))

two : IsAnsweredBy answered_twice A → ⊥
unfolding frames
two are = numbers_differ 2 1 refl (ap length (answered_once 0x0C03 ((1, 0x0C03) ∷ (1, 0x0C03) ∷ []) refl are))

other : IsAnsweredBy answered_otherwise A → ⊥
unfolding frames first_opcode
other are = numbers_differ 0x0C01 0x0C03 refl (ap first_opcode (answered_once 0x0C03 ((1, 0x0C01) ∷ []) refl are))

nothing : IsAnsweredBy answered_from_nothing B → ⊥
unfolding frames
nothing are = numbers_differ 1 0 refl (ap length (none_answered ((1, 0x0C03) ∷ []) are))

pub returns : goal.returns
returns c = record {
  never = λ all. none (all.at_end A);
  twice = λ all. two (all.at_end A);
  otherwise = λ all. other (all.at_end A);
  late = λ all. none (all.each_turn never_answered (Up A reset_answer ∷ []) 1 true (Some true) refl A);
  from_nothing = λ all. nothing (all.at_end B);
}
