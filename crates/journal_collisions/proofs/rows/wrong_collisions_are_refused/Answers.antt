-- Proof of `rows::wrong_collisions_are_refused`: another PDU comes next, or another line.
use Rattle.std.proofs.Common.{◌≡◌, ◌⊎◌, inl, inr, ℕ, true, false, List, [], ◌∷◌, Option, Some, refl, sym, ap, ◌∙◌}
use Rattle.ble_base.specs.ChannelMap.{data_channels, used_channels}
use Rattle.ble_base.specs.declared.procedure_kinds.Kind.TheVariants.{Map, Request}
use Rattle.ble_base.specs.declared.roles.Side.TheVariants.{A, B}
use Rattle.data_pdu.specs.Layouts.{makers}
use Rattle.data_pdu.specs.Reading.{ctrl_of, length_of}
use Rattle.data_pdu.specs.declared.ctrl.Ctrl.{Ctrl}
use Rattle.data_pdu.specs.declared.ctrl.Ctrl.TheVariants.{ChannelMapInd, RejectExtInd, TerminateInd}
use Rattle.data_pdu.specs.declared.ctrl.CtrlRead.TheVariants.{Known}
use Rattle.journal.specs.declared.entries.Entry.{Entry}
use Rattle.journal.specs.declared.entries.Entry.TheVariants.{Done, Refused, Sent}
use Rattle.journal_endings.specs.journal_indications.journal_data.journal_links.Rows.{one_link}
use Rattle.wire_fields.specs.Field.{little_endian}
use Rattle.journal_collisions.specs.Collisions.{IsRejection, IsTermination, control_in}
use Rattle.journal_collisions.specs.Rows.{both_begun, map_octets, rejection, request_octets}
use Rattle.journal_collisions.proofs.Worked.{it_collides}
use Rattle.journal_collisions.proofs.rows.wrong_collisions_are_refused.Goals as goal

-- none of two PDUs that may come is the next one
neither : (octets : List ℕ) (ctrl : Ctrl) → control_in 3 octets ≡ Some (Known ctrl) → (Known ctrl ≡ Known (RejectExtInd 0x0F 0x2A) → ⊥) → ((code : ℕ) → Known ctrl ≡ Known (TerminateInd code) → ⊥)
    → IsRejection Map Request 3 octets ⊎ IsTermination 3 octets → ⊥
unfolding little_endian makers length_of
neither octets ctrl is no_rejection no_end (inl rejected) = no_rejection (let h : Some (Known ctrl) ≡ Some (Known (RejectExtInd 0x0F 0x2A)) = sym is ∙ rejected in cc)
neither octets ctrl is no_rejection no_end (inr ends) = no_end ends.code (let h : Some (Known ctrl) ≡ Some (Known (TerminateInd ends.code)) = sym is ∙ ends.is in cc)

errors_differ : ◌≡◌ {A = ℕ} 0x23 0x2A → ⊥
errors_differ same = absurd cc

-- the error of a line that says that a procedure is refused
abbrev error_in : Option Entry → ℕ
error_in (Some (Refused side number kind code)) = code.0
error_in other = 0

pub returns-clause-error : goal.returns-clause-error
unfolding ctrl_of makers length_of
returns-clause-error c lawful =
    neither (rejection 0x0F 0x23) (RejectExtInd 0x0F 0x23) refl (λ same. absurd cc) (λ code same. absurd cc)
    (lawful both_begun [] [] one_link 1 1 3 request_octets 1 3 (rejection 0x0F 0x23) Map Request refl refl it_collides refl)

pub returns-clause-opcode : goal.returns-clause-opcode
unfolding ctrl_of makers length_of
returns-clause-opcode c lawful =
    neither (rejection 0x10 0x2A) (RejectExtInd 0x10 0x2A) refl (λ same. absurd cc) (λ code same. absurd cc)
    (lawful both_begun [] [] one_link 1 1 3 request_octets 1 3 (rejection 0x10 0x2A) Map Request refl refl it_collides refl)

pub returns-clause-second : goal.returns-clause-second
unfolding ctrl_of makers length_of data_channels used_channels
returns-clause-second c lawful =
    neither map_octets (ChannelMapInd 0x0FFFFFFFFF 6) refl (λ same. absurd cc) (λ code same. absurd cc)
    (lawful both_begun [] (Sent B 1 2 3 (rejection 0x0F 0x2A) ∷ []) one_link 1 1 3 request_octets 1 3 map_octets Map Request refl refl it_collides refl)

pub returns-clause-indication : goal.returns-clause-indication
unfolding ctrl_of makers length_of data_channels used_channels
returns-clause-indication c lawful =
    neither map_octets (ChannelMapInd 0x0FFFFFFFFF 6) refl (λ same. absurd cc) (λ code same. absurd cc)
    (lawful both_begun [] [] one_link 1 1 3 request_octets 1 3 map_octets Map Request refl refl it_collides refl)

pub returns-clause-refused : goal.returns-clause-refused
unfolding ctrl_of makers length_of
returns-clause-refused c lawful =
    let follows = lawful both_begun [] [] (Refused A 1 Request (record { 0 = 0x23 }) ∷ []) one_link 1 1 3 request_octets 1 3 (rejection 0x0F 0x2A) Map Request refl refl it_collides refl refl in
    errors_differ (ap error_in follows)

pub returns-clause-done : goal.returns-clause-done
unfolding ctrl_of makers length_of
returns-clause-done c lawful =
    let follows = lawful both_begun [] [] (Done A 1 Request ∷ []) one_link 1 1 3 request_octets 1 3 (rejection 0x0F 0x2A) Map Request refl refl it_collides refl refl in
    absurd cc

pub returns-clause-mixed : goal.returns-clause-mixed
returns-clause-mixed c = λ front between later rest link number count llid body next_count next_llid next p q is unmixed.
    absurd (let h : true ≡ false = unmixed in absurd cc)
