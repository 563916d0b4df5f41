-- What is read of the body of a control PDU is in its range, in all phases of encryption (Core 5.2, volume 6 part B,
-- section 2.4.2).
use Rattle.std.proofs.Common.{◌≡◌, ℕ, ◌==◌, ◌&&◌, Bool, true, false, List, [], ◌∷◌, length, sum, Option, Some, None, refl, sym, subst, if◌then◌else◌}
use Rattle.std.proofs.lemmas.Bool.{and_parts}
use Rattle.data_pdu.specs.Layouts.{Maker, makers}
use Rattle.data_pdu.specs.Ranges.{IsInRange, is_in_range}
use Rattle.data_pdu.specs.Reading.{IfKnown, blank_of, ctrl_by, ctrl_of, maker_in, read_by, widths_of}
use Rattle.data_pdu.specs.declared.ctrl.CtrlRead.{CtrlRead}
use Rattle.data_pdu.specs.declared.ctrl.CtrlRead.TheVariants.{Known, Unknown}
use Rattle.data_pdu.proofs.RangeTests.{range_is_tested}
use Rattle.link_model.specs.Acknowledgement.{Pdu}
use Rattle.link_model.specs.Controls.{read_of}
use Rattle.link_model.proofs.Views.{AsRead, AsUnknown, SeenAs, reading_view}

tested : (make : Maker) (opcode : ℕ) (pdu : List ℕ) (fits : Bool)
    → (fits ≡ true → IsInRange (ctrl_by make pdu))
    → IfKnown (if fits then Known (ctrl_by make pdu) else Unknown opcode) IsInRange
tested make opcode pdu true is = is refl
tested make opcode pdu false is = tt

read_by_range : (make : Option Maker) (opcode : ℕ) (pdu : List ℕ) → IfKnown (read_by make opcode pdu) IsInRange
read_by_range None opcode pdu = tt
read_by_range (Some make) opcode pdu =
    tested make opcode pdu ((length pdu == sum (widths_of (blank_of make))) && is_in_range (ctrl_by make pdu))
    (λ fits. (range_is_tested (ctrl_by make pdu)).0 (and_parts (length pdu == sum (widths_of (blank_of make))) (is_in_range (ctrl_by make pdu)) fits).1)

ctrl_range : (pdu : List ℕ) → IfKnown (ctrl_of pdu) IsInRange
unfolding ctrl_of
ctrl_range [] = tt
ctrl_range (opcode ∷ rest) = read_by_range (maker_in makers opcode) opcode (opcode ∷ rest)

-- whatever the phase of encryption makes of it
seen_range : (read seen : CtrlRead) → SeenAs read seen → IfKnown read IsInRange → IfKnown seen IsInRange
seen_range read seen (AsRead is) range = subst (λ (other : CtrlRead). IfKnown other IsInRange) (sym is) range
seen_range read seen (AsUnknown ctrl named read_is is) range = subst (λ (other : CtrlRead). IfKnown other IsInRange) (sym is) tt

pub read_range : (pdu : Pdu) → IfKnown (read_of pdu) IsInRange
read_range pdu = seen_range (ctrl_of pdu.body) (read_of pdu) (reading_view pdu) (ctrl_range pdu.body)
