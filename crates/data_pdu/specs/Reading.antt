-- Which control PDU some octets are (Core 5.2, volume 6 part B, section 2.4.2).
use Rattle.std.specs.Prelude.{◌≡◌, ℕ, ◌==◌, ◌&&◌, List, [], ◌∷◌, ◌++◌, length, take, drop, slice_index, sum, map, Option, Some, None, ⊤, if◌then◌else◌}
use Rattle.wire_fields.specs.Field.{Field, number, octets, little_endian, number_of, width, AllFit}
use Rattle.data_pdu.specs.declared.ctrl.Ctrl.{Ctrl}
use Rattle.data_pdu.specs.declared.ctrl.CtrlRead.{CtrlRead}
use Rattle.data_pdu.specs.declared.ctrl.CtrlRead.TheVariants.{Known, Unknown, Bare}
use Rattle.data_pdu.specs.Ranges.{is_in_range}
use Rattle.data_pdu.specs.Layouts.{Maker, makers, fields_of, written, HasSixOffsets}

-- the first number of these fields
abbrev pub first_number : List Field → ℕ
first_number [] = 0
first_number (number n x ∷ fields) = x
first_number (octets n xs ∷ fields) = 0

abbrev pub opcode_of : Ctrl → ℕ
opcode_of ctrl = first_number (fields_of ctrl)

-- the fields of a control PDU, each of them 0 but for the opcode
abbrev pub blank_of : Maker → List Field
blank_of make = fields_of (make (λ k. 0))

-- how many octets each field takes
abbrev pub widths_of : List Field → List ℕ
widths_of fields = map width fields

-- the control PDU with this opcode, if there is one
abbrev pub maker_in : List Maker → ℕ → Option Maker
maker_in [] opcode = None
maker_in (make ∷ others) opcode = if opcode == first_number (blank_of make) then Some make else maker_in others opcode

-- how many octets a control PDU has, the opcode included
abbrev pub length_by : Option Maker → Option ℕ
length_by None = None
length_by (Some make) = Some (sum (widths_of (blank_of make)))

-- how many octets the control PDU with this opcode has, if there is one
unfoldable pub length_of : ℕ → Option ℕ
length_of opcode = length_by (maker_in makers opcode)

-- the numbers of these widths in the octets, one after another
abbrev pub numbers_in : List ℕ → List ℕ → List ℕ
numbers_in [] rest = []
numbers_in (count ∷ counts) rest = number_of (take count rest) ∷ numbers_in counts (drop count rest)

-- the control PDU of this kind that the octets are
abbrev pub ctrl_by : Maker → List ℕ → Ctrl
ctrl_by make pdu = make (slice_index (numbers_in (widths_of (blank_of make)) pdu))

-- it is known where the octets are as many as its fields take, and these are in range
abbrev pub read_by : Option Maker → ℕ → List ℕ → CtrlRead
read_by None opcode pdu = Unknown opcode
read_by (Some make) opcode pdu =
    if (length pdu == sum (widths_of (blank_of make))) && is_in_range (ctrl_by make pdu) then Known (ctrl_by make pdu)
    else Unknown opcode

-- what octets are read as: the first of them is the opcode
unfoldable pub ctrl_of : List ℕ → CtrlRead
ctrl_of [] = Bare
ctrl_of (opcode ∷ rest) = read_by (maker_in makers opcode) opcode (opcode ∷ rest)

-- the control PDU is written as this opcode and these octets after it
pub record Spells (ctrl : Ctrl) (opcode : ℕ) (rest : List ℕ) : Type 0 where
  pub octets_are : written ctrl ≡ little_endian 1 opcode ++ rest
  pub fits : AllFit (fields_of ctrl)
  pub six_offsets : HasSixOffsets ctrl

-- a fact of the control PDU that was read, if one was
abbrev pub IfKnown : CtrlRead → (Ctrl → Type 0) → Type 0
IfKnown (Known ctrl) fact = fact ctrl
IfKnown other fact = ⊤
