-- Each command has one answer.
use Rattle.std.proofs.Common.{◌≡◌, ℕ, ◌==◌, ◌||◌, Bool, true, false, [], ◌∷◌, refl, inl, inr, if◌then◌else◌}
use Rattle.std.proofs.lemmas.Bool.Decides.{eqb_tells}
use Rattle.hci_cmd.specs.declared.command.Command.{Command}
use Rattle.hci_cmd.specs.declared.command.Command.TheVariants.{HostCompleted}
use Rattle.hci_cmd.specs.declared.command.CmdRead.{CmdRead}
use Rattle.hci_cmd.specs.declared.command.CmdRead.TheVariants.{Known, UnknownOpcode, BadLength}
use Rattle.host_view.specs.Status.{status_of}
use Rattle.controller_model.specs.Facts.{Setup, Facts}
use Rattle.controller_model.specs.Answers.{AreOneAnswer, HasNoAnswer, accepted_answer, answer_to, complete_answer, has_status_answer, is_host_completed, refused_fields, status_answer}

accepted_once : (setup : Setup) (facts : Facts) (opcode : ℕ) (command : Command) (none : Type 0) → (is_host_completed command ≡ true → none)
    → AreOneAnswer opcode (accepted_answer setup facts opcode command) none
accepted_once setup facts opcode (HostCompleted counts) none unanswered = unanswered refl
accepted_once setup facts opcode other none unanswered = (refl, refl)

-- by whether it is unknown or starts something, and whether it is accepted
once_by : (has_status accepted : Bool) (setup : Setup) (facts : Facts) (opcode status : ℕ) (command : Command) (none : Type 0)
    → (accepted ≡ true → is_host_completed command ≡ true → none)
    → AreOneAnswer opcode (if has_status then status_answer status opcode ∷ []
    else (if accepted then accepted_answer setup facts opcode command else complete_answer status opcode (refused_fields command) ∷ [])) none
once_by true accepted setup facts opcode status command none unanswered = (refl, refl)
once_by false true setup facts opcode status command none unanswered = accepted_once setup facts opcode command none (unanswered refl)
once_by false false setup facts opcode status command none unanswered = (refl, refl)

is_zero : (status : ℕ) → (status == 0) ≡ true → status ≡ 0
is_zero status e = elim (eqb_tells status 0) [ inl same ↦ same.1 | inr other ↦ absurd (let h : true ≡ false = cc in absurd cc) ]

short_once : (b : Bool) (opcode : ℕ) → AreOneAnswer opcode ((if b then status_answer 0x12 opcode else complete_answer 0x12 opcode []) ∷ []) ⊥
short_once true opcode = (refl, refl)
short_once false opcode = (refl, refl)

pub answered_once : (setup : Setup) (facts : Facts) (opcode : ℕ) (read : CmdRead) → AreOneAnswer opcode (answer_to setup facts opcode read) (HasNoAnswer facts read)
answered_once setup facts opcode UnknownOpcode = (refl, refl)
answered_once setup facts opcode BadLength = short_once (has_status_answer opcode) opcode
answered_once setup facts opcode (Known command) =
    once_by ((status_of facts.view command == 0x01) || has_status_answer opcode) (status_of facts.view command == 0) setup facts opcode (status_of facts.view command) command _
    (λ accepted completed. (completed, is_zero (status_of facts.view command) accepted))
