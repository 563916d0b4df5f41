-- The statuses in the answers that a controller notes, step by step.
use Rattle.std.proofs.Common.{◌≡◌, ℕ, ◌+◌, ◌*◌, ◌/◌, ◌%◌, ◌==◌, Bool, true, false, List, [], ◌∷◌, ◌++◌, refl, ap, ◌∙◌, arith}
use Rattle.std.specs.Prelude.{flat_map}
use Rattle.std.proofs.lemmas.List.Concat.{flat_map-append}
use Rattle.wire_fields.specs.Field.{little_endian}
use Rattle.ble_base.specs.declared.notes.Note.{Note}
use Rattle.ble_base.specs.declared.notes.Note.TheVariants.{Up}
use Rattle.hci_evt.specs.Event.{written}
use Rattle.hci_evt.specs.declared.event.Event.{Event}
use Rattle.hci_evt.specs.declared.event.Event.TheVariants.{CommandComplete, CommandStatus}
use Rattle.host_view.specs.View.{View}
use Rattle.run_model.specs.controller_model.Answers.{complete_answer, status_answer}
use Rattle.run_model.specs.controller_model.Events.{notes_of_events}
use Rattle.run_model.proofs.controller_model.NoAnswers.{IsNoAnswer, IsNoPacket, ReadsAnswers}
use Rattle.run_model.specs.Readers.{packets_of}
use Rattle.host_answers.specs.Answered.{is_left_out, status_unless, answer_statuses, answer_status}

-- the statuses in the answers among these notes
abbrev pub statuses_noted : Note → List ℕ
statuses_noted (Up packet) = answer_status packet.items
statuses_noted other = []

abbrev pub statuses_of : List Note → List ℕ
statuses_of notes = flat_map statuses_noted notes

pub statuses_read : (notes : List Note) → answer_statuses (packets_of notes) ≡ statuses_of notes
statuses_read [] = refl
statuses_read (Up packet ∷ notes) = ap (λ xs. answer_status packet.items ++ xs) (statuses_read notes)
statuses_read (other ∷ notes) = statuses_read notes

pub statuses_append : (xs ys : List Note) → statuses_of (xs ++ ys) ≡ statuses_of xs ++ statuses_of ys
statuses_append xs ys = flat_map-append statuses_noted xs ys

-- ---- one answer

two_octets_hold : (opcode : ℕ) → (opcode % 256 + 256 * (opcode / 256 % 256)) % 65536 ≡ opcode % 65536
two_octets_hold opcode = omega arith

unless_alone : (left : Bool) (status : ℕ) → status_unless left status ++ [] ≡ status_unless left status
unless_alone true status = refl
unless_alone false status = refl

pub complete_status : (view : View) (status opcode : ℕ) (fields : List ℕ)
    → statuses_of (notes_of_events view (complete_answer status opcode fields ∷ [])) ≡ status_unless (is_left_out opcode) status
unfolding little_endian
complete_status view status opcode fields =
    unless_alone ((opcode % 256 + 256 * (opcode / 256 % 256)) % 65536 == 0x0C35) status ∙ ap (λ n. status_unless (n == 0x0C35) status) (two_octets_hold opcode)

pub command_status : (view : View) (status opcode : ℕ)
    → statuses_of (notes_of_events view (status_answer status opcode ∷ [])) ≡ status_unless (is_left_out opcode) (status % 256)
unfolding little_endian
command_status view status opcode =
    unless_alone ((opcode % 256 + 256 * (opcode / 256 % 256)) % 65536 == 0x0C35) (status % 256)
    ∙ ap (λ n. status_unless (n == 0x0C35) (status % 256)) (two_octets_hold opcode)

-- ---- what is no answer has none

event_statuses : (event : Event) → IsNoAnswer event → statuses_noted (Up (record { items = written event })) ≡ []
unfolding little_endian
event_statuses (CommandComplete number opcode fields) is = absurd is
event_statuses (CommandStatus status number opcode) is = absurd is
event_statuses other is = refl

other_statuses : (note : Note) → IsNoPacket note → statuses_noted note ≡ []
other_statuses (Up packet) is = absurd is
other_statuses other is = refl

pub reads_statuses : ReadsAnswers ℕ statuses_noted
reads_statuses = record { event = event_statuses; received = λ piece. refl; other = other_statuses }
