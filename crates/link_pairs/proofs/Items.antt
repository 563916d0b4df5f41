-- The PDUs that joint runs have as items: control PDUs, and data.
use Rattle.std.proofs.Common.{◌≡◌, ℕ, ◌==◌, ◌&&◌, ◌||◌, not, Bool, true, false, List, [], ◌∷◌, length, refl, ap, sym, ◌∙◌, arith}
use Rattle.std.proofs.lemmas.Bool.{and_from, eqb-true, ne_eqb}
use Rattle.wire_fields.specs.Field.{little_endian}
use Rattle.data_pdu.specs.declared.ctrl.Ctrl.{Ctrl}
use Rattle.data_pdu.specs.declared.ctrl.Ctrl.TheVariants.{StartEncReq}
use Rattle.data_pdu.specs.Layouts.{written}
use Rattle.joint_laws.specs.joint_controls.Joint.{Control, Data, Item, is_last}
use Rattle.joint_laws.specs.joint_controls.Joint.{is_terminate as ends_link}
use Rattle.link_model.specs.Acknowledgement.{Pdu}
use Rattle.link_model.specs.Data.{is_control, is_data, is_empty}
use Rattle.link_model.specs.Controls.{begins_with, is_procedure_pdu, is_terminate}
use Rattle.link_pairs.specs.Ways.{IsControlPdu, IsItem}

-- ---- the octets of a control PDU begin with its opcode

has_octets : (ctrl : Ctrl) → (length (written ctrl) == 0) ≡ false
unfolding little_endian
has_octets StartEncReq = refl
has_octets ctrl = refl

begins_as : (ctrl : Ctrl) → begins_with 0x02 (written ctrl) ≡ ends_link ctrl
unfolding little_endian
begins_as StartEncReq = refl
begins_as ctrl = refl

-- ---- a control PDU

module _ (ctrl : Ctrl) (pdu : Pdu) (is : IsControlPdu ctrl pdu) where
  pub control_is_control : is_control pdu ≡ true
  control_is_control = ap is_control is.written_as

  pub control_is_no_data : is_data pdu ≡ false
  control_is_no_data = ap is_data is.written_as

  pub control_is_not_empty : is_empty pdu ≡ false
  control_is_not_empty = ap is_empty is.written_as ∙ has_octets ctrl

  pub control_is_procedure : is_procedure_pdu pdu ≡ true
  control_is_procedure = and_from (is_control pdu) (not (is_empty pdu)) control_is_control (ap not control_is_not_empty)

  pub control_terminates : is_terminate pdu ≡ ends_link ctrl
  control_terminates = ap is_terminate is.written_as ∙ begins_as ctrl

-- ---- data

data_by : (one two empty three : Bool) → ((one || two) && not empty) ≡ true → (one ≡ true → three ≡ false) → (two ≡ true → three ≡ false)
    → three ≡ false
data_by true two empty three is by_one by_two = by_one refl
data_by false true empty three is by_one by_two = by_two refl
data_by false false empty three is by_one by_two = absurd (cc)

other_llid : (llid one other : ℕ) → (one ≡ other → ⊥) → (llid == one) ≡ true → (llid == other) ≡ false
other_llid llid one other apart is = ne_eqb llid other (λ same. apart (sym (eqb-true llid one is) ∙ same))

module _ (pdu : Pdu) (is : is_data pdu ≡ true) where
  pub data_is_no_control : is_control pdu ≡ false
  data_is_no_control =
      data_by (pdu.llid == 1) (pdu.llid == 2) (length pdu.body == 0) (is_control pdu) is
      (other_llid pdu.llid 1 3 (λ same. omega (arith, same))) (other_llid pdu.llid 2 3 (λ same. omega (arith, same)))

  pub data_is_no_procedure : is_procedure_pdu pdu ≡ false
  data_is_no_procedure = ap (λ (b : Bool). b && not (is_empty pdu)) data_is_no_control

  pub data_terminates_nothing : is_terminate pdu ≡ false
  data_terminates_nothing = ap (λ (b : Bool). b && begins_with 0x02 pdu.body) data_is_no_control

-- ---- a PDU that counts as empty

pub never : (b : Bool) → (b && false) ≡ false
never true = refl
never false = refl

-- it has no octets, or an LLID that no PDU has
begins_no : (zero_llid : Bool) (llid : ℕ) (body : List ℕ) → (llid == 0) ≡ zero_llid → (zero_llid || (length body == 0)) ≡ true
    → ((llid == 3) && begins_with 0x02 body) ≡ false
begins_no true llid body is empty =
    ap (λ (b : Bool). b && begins_with 0x02 body) (other_llid llid 0 3 (λ same. omega (arith, same)) is)
begins_no false llid [] is empty = never (llid == 3)
begins_no false llid (octet ∷ octets) is empty = absurd (omega (arith, eqb-true (length (octet ∷ octets)) 0 empty))

no_data : (zero_llid : Bool) (llid : ℕ) (none : Bool) → (llid == 0) ≡ zero_llid → (zero_llid || none) ≡ true
    → (((llid == 1) || (llid == 2)) && not none) ≡ false
no_data true llid none is empty =
    λ i. (other_llid llid 0 1 (λ same. omega (arith, same)) is i || other_llid llid 0 2 (λ same. omega (arith, same)) is i) && not none
no_data false llid true is empty = never ((llid == 1) || (llid == 2))
no_data false llid false is empty = absurd (cc)

module _ (pdu : Pdu) (is : is_empty pdu ≡ true) where
  pub empty_is_no_data : is_data pdu ≡ false
  empty_is_no_data = no_data (pdu.llid == 0) pdu.llid (length pdu.body == 0) refl is

  pub empty_is_no_procedure : is_procedure_pdu pdu ≡ false
  empty_is_no_procedure = ap (λ (b : Bool). is_control pdu && not b) is ∙ never (is_control pdu)

  pub empty_terminates_nothing : is_terminate pdu ≡ false
  empty_terminates_nothing = begins_no (pdu.llid == 0) pdu.llid pdu.body refl is

-- ---- what joint runs have as an item

-- data is not empty
pub data_is_not_empty : (pdu : Pdu) → is_data pdu ≡ true → is_empty pdu ≡ false
data_is_not_empty pdu is = by (is_empty pdu) refl
  where
    by : (b : Bool) → is_empty pdu ≡ b → b ≡ false
    by true empty = absurd (let none = empty_is_no_data pdu empty in cc)
    by false some = refl

module _ (pdu : Pdu) where
  pub item_is_not_empty : (item : Item) → IsItem item pdu → is_empty pdu ≡ false
  item_is_not_empty Data is = data_is_not_empty pdu is
  item_is_not_empty (Control outgoing ctrl) is = control_is_not_empty ctrl pdu is

  pub item_terminates : (item : Item) → IsItem item pdu → is_terminate pdu ≡ is_last item
  item_terminates Data is = data_terminates_nothing pdu is
  item_terminates (Control outgoing ctrl) is = control_terminates ctrl pdu is
