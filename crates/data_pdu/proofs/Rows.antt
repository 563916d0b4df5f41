-- What is written is read back: the makers against the layouts, row by row, and then for all.
use Rattle.std.proofs.Common.{◌≡◌, ◌≢◌, ℕ, ◌+◌, ◌<◌, ◌^◌, List, [], ◌∷◌, ◌++◌, length, take, drop, map, Bool, true, cond, Option, Some, None, slice_index, get_or, refl, sym, ap, ◌∙◌, subst, arith}
use Rattle.std.specs.Prelude.{sum, sum_by}
use Rattle.std.proofs.lemmas.Bool.{eq-eqb, ne_eqb}
use Rattle.std.proofs.lemmas.List.Sums.{sum_by-cons, sum-map}
use Rattle.wire_fields.specs.Field.{Field, number, octets, octets_of, number_of, spelled, width, FitsWidth, AllFit}
use Rattle.wire_fields.proofs.LittleEndian.{number_of-little_endian, octets_taken, octets_left}
use Rattle.wire_fields.proofs.Spelling.{total, length-spelled, length-octets_of, octet_then}
use Rattle.data_pdu.specs.declared.ctrl.Ctrl.{Ctrl}
use Rattle.data_pdu.specs.declared.ctrl.Ctrl.TheVariants.{StartEncReq, ConnectionParamReq, ConnectionParamRsp}
use Rattle.data_pdu.specs.declared.ctrl.CtrlRead.TheVariants.{Known, Unknown}
use Rattle.data_pdu.specs.Ranges.{is_in_range}
use Rattle.data_pdu.proofs.RangeTests.{range_is_tested}
use Rattle.data_pdu.specs.Layouts.{Maker, makers, fields_of, written, HasSixOffsets, IsCtrl}
use Rattle.data_pdu.specs.Reading.{opcode_of, blank_of, widths_of, maker_in, numbers_in, ctrl_by, length_by, length_of, read_by, ctrl_of, Spells}

-- ---- numbers in octets

-- the number in a field
value_of : Field → ℕ
value_of (number n x) = x
value_of (octets n xs) = number_of xs

value_of-octets : (field : Field) → FitsWidth field → number_of (octets_of field) ≡ value_of field
unfolding value_of
value_of-octets (number n x) fits = number_of-little_endian n x fits
value_of-octets (octets n xs) fits = refl

values_of : List Field → List ℕ
values_of fields = map value_of fields

numbers_in-spelled : (fields : List Field) → AllFit fields → numbers_in (widths_of fields) (spelled fields) ≡ values_of fields
unfolding values_of
numbers_in-spelled [] fits = refl
numbers_in-spelled (field ∷ fields) fits =
    let len = length-octets_of field fits.0 in
    let first : number_of (take (width field) (octets_of field ++ spelled fields)) ≡ value_of field =
    ap number_of (octets_taken (width field) (octets_of field) _ (spelled fields) refl len) ∙ value_of-octets field fits.0 in
    let others : numbers_in (widths_of fields) (drop (width field) (octets_of field ++ spelled fields)) ≡ map value_of fields =
    ap (numbers_in (widths_of fields)) (octets_left (width field) (octets_of field) _ (spelled fields) refl len) ∙ numbers_in-spelled fields fits.1 in
    cc

sum_by-width : (fields : List Field) → sum_by width fields ≡ total fields
sum_by-width [] = refl
sum_by-width (field ∷ fields) = sum_by-cons width field fields ∙ ap (λ (n : ℕ). width field + n) (sum_by-width fields)

sum-widths : (fields : List Field) → sum (widths_of fields) ≡ total fields
sum-widths fields = sum-map width fields ∙ sum_by-width fields

-- ---- the maker of a control PDU

abbrev Makes : Option Maker → Ctrl → Type 0
Makes None ctrl = ⊥
Makes (Some make) ctrl = (widths_of (fields_of ctrl) ≡ widths_of (blank_of make)) × (make (slice_index (values_of (fields_of ctrl))) ≡ ctrl)

six_are : (xs : List ℕ) → length xs ≡ 6 → get_or xs 0 0 ∷ get_or xs 1 0 ∷ get_or xs 2 0 ∷ get_or xs 3 0 ∷ get_or xs 4 0 ∷ get_or xs 5 0 ∷ [] ≡ xs
six_are (a ∷ b ∷ c ∷ d ∷ e ∷ f ∷ []) len = refl
six_are [] len = absurd (omega arith)
six_are (a ∷ []) len = absurd (omega arith)
six_are (a ∷ b ∷ []) len = absurd (omega arith)
six_are (a ∷ b ∷ c ∷ []) len = absurd (omega arith)
six_are (a ∷ b ∷ c ∷ d ∷ []) len = absurd (omega arith)
six_are (a ∷ b ∷ c ∷ d ∷ e ∷ []) len = absurd (omega arith)
six_are (a ∷ b ∷ c ∷ d ∷ e ∷ f ∷ g ∷ xs) len = absurd (omega arith)

has_maker : (ctrl : Ctrl) → HasSixOffsets ctrl → Makes (maker_in makers (opcode_of ctrl)) ctrl
unfolding makers values_of value_of
has_maker (ConnectionParamReq interval_min interval_max latency timeout periodicity reference offsets) six =
    (refl, ap (ConnectionParamReq interval_min interval_max latency timeout periodicity reference) (six_are offsets six))
has_maker (ConnectionParamRsp interval_min interval_max latency timeout periodicity reference offsets) six =
    (refl, ap (ConnectionParamRsp interval_min interval_max latency timeout periodicity reference) (six_are offsets six))
has_maker ctrl six = (refl, refl)

-- ---- reading what is written

-- a control PDU whose fields fit is read back where it is in range
read_back : (found : Option Maker) (ctrl : Ctrl) (opcode : ℕ) → Makes found ctrl → AllFit (fields_of ctrl) → read_by found opcode (written ctrl) ≡ cond (is_in_range ctrl) (Known ctrl) (Unknown opcode)
read_back None ctrl opcode makes fits = absurd makes
read_back (Some make) ctrl opcode makes fits =
    let numbers : numbers_in (widths_of (blank_of make)) (written ctrl) ≡ values_of (fields_of ctrl) =
    ap (λ (counts : List ℕ). numbers_in counts (written ctrl)) (sym makes.0) ∙ numbers_in-spelled (fields_of ctrl) fits in
    let same : ctrl_by make (written ctrl) ≡ ctrl = ap (λ (xs : List ℕ). make (slice_index xs)) numbers ∙ makes.1 in
    let len : length (written ctrl) ≡ sum (widths_of (blank_of make)) =
    length-spelled (fields_of ctrl) fits ∙ sym (sum-widths (fields_of ctrl)) ∙ ap sum makes.0 in
    rw (eq-eqb _ _ len, same) refl

-- each control PDU begins with its opcode
begins : (ctrl : Ctrl) → fields_of ctrl ≡ number 1 (opcode_of ctrl) ∷ drop 1 (fields_of ctrl)
begins StartEncReq = refl
begins ctrl = refl

written-opcode : (ctrl : Ctrl) → AllFit (fields_of ctrl) → written ctrl ≡ opcode_of ctrl ∷ spelled (drop 1 (fields_of ctrl))
written-opcode ctrl fits =
    let small : opcode_of ctrl < 256 ^ 1 = (subst AllFit (begins ctrl) fits).0 in
    ap spelled (begins ctrl) ∙ octet_then (opcode_of ctrl) (spelled (drop 1 (fields_of ctrl))) (omega arith)

pub written-read : (ctrl : Ctrl) → AllFit (fields_of ctrl) → HasSixOffsets ctrl → ctrl_of (written ctrl) ≡ cond (is_in_range ctrl) (Known ctrl) (Unknown (opcode_of ctrl))
unfolding ctrl_of
written-read ctrl fits six =
    let e = written-opcode ctrl fits in
    let back = read_back (maker_in makers (opcode_of ctrl)) ctrl (opcode_of ctrl) (has_maker ctrl six) fits in
    ap ctrl_of e ∙ ap (read_by (maker_in makers (opcode_of ctrl)) (opcode_of ctrl)) (sym e) ∙ back

-- the octets of a control PDU in its ranges are read as that control PDU
pub written_is_known : (ctrl : Ctrl) → IsCtrl ctrl → ctrl_of (written ctrl) ≡ Known ctrl
written_is_known ctrl is_ctrl =
    let test : is_in_range ctrl ≡ true = (range_is_tested ctrl).1 is_ctrl.range in
    written-read ctrl is_ctrl.fits is_ctrl.six_offsets ∙ ap (λ (b : Bool). cond b (Known ctrl) (Unknown (opcode_of ctrl))) test

-- no two control PDUs have the same octets
pub written_is_one : (ctrl other : Ctrl) → IsCtrl ctrl → IsCtrl other → written ctrl ≡ written other → ctrl ≡ other
written_is_one ctrl other mine its same =
    let first = written_is_known ctrl mine in
    let second = written_is_known other its in
    let both : Known ctrl ≡ Known other = sym first ∙ ap ctrl_of same ∙ second in
    cc

-- ---- what other octets are read as

-- the octets that a control PDU spells
pub spelled_octets : (ctrl : Ctrl) (opcode : ℕ) (rest : List ℕ) → Spells ctrl opcode rest → opcode < 256 → written ctrl ≡ opcode ∷ rest
spelled_octets ctrl opcode rest spells small = spells.octets_are ∙ octet_then opcode rest small

pub spelled-read : (ctrl : Ctrl) (opcode : ℕ) (rest : List ℕ) → Spells ctrl opcode rest → opcode < 256 → ctrl_of (opcode ∷ rest) ≡ cond (is_in_range ctrl) (Known ctrl) (Unknown opcode)
spelled-read ctrl opcode rest spells small =
    let whole = spelled_octets ctrl opcode rest spells small in
    let mine = written-opcode ctrl spells.fits in
    let same : opcode_of ctrl ≡ opcode = cc in
    ap ctrl_of (sym whole) ∙ written-read ctrl spells.fits spells.six_offsets ∙ ap (λ (n : ℕ). cond (is_in_range ctrl) (Known ctrl) (Unknown n)) same

-- octets of another length than the opcode asks for
other_length : (found : Option Maker) (opcode : ℕ) (pdu : List ℕ) → length_by found ≢ Some (length pdu) → read_by found opcode pdu ≡ Unknown opcode
other_length None opcode pdu other = refl
other_length (Some make) opcode pdu other =
    let no : length pdu ≢ sum (widths_of (blank_of make)) = λ same. other (ap (λ (n : ℕ). Some n) (sym same)) in
    rw (ne_eqb _ _ no) refl

pub other_length-read : (opcode : ℕ) (rest : List ℕ) → length_of opcode ≢ Some (length (opcode ∷ rest)) → ctrl_of (opcode ∷ rest) ≡ Unknown opcode
unfolding ctrl_of length_of
other_length-read opcode rest other = other_length (maker_in makers opcode) opcode (opcode ∷ rest) other
