-- The three outcomes of reading, each with the octets that it comes from.
use Rattle.std.proofs.Common.{◌≡◌, ◌≢◌, ℕ, ◌<◌, ◌≤◌, List, [], ◌∷◌, length, take, drop, ◌-◌, Bool, true, false, cond, Option, Some, None, slice_get, get_or, refl, sym, ap, ◌∙◌, subst, arith}
use Rattle.std.specs.Prelude.{◌↔◌}
use Rattle.std.proofs.Math.Seq.{take-length}
use Rattle.data_pdu.specs.declared.ctrl.Ctrl.{Ctrl}
use Rattle.data_pdu.specs.declared.ctrl.CtrlRead.{CtrlRead}
use Rattle.data_pdu.specs.declared.ctrl.CtrlRead.TheVariants.{Known, Unknown, Bare}
use Rattle.data_pdu.specs.Ranges.{is_in_range}
use Rattle.data_pdu.specs.Layouts.{Maker, makers, written, IsCtrl}
use Rattle.data_pdu.specs.Reading.{maker_in, length_of, read_by, ctrl_of, IfKnown, Spells}
use Rattle.data_pdu.proofs.Rows.{written_is_known, spelled_octets, spelled-read, other_length-read}

-- ---- from the octets to what is read

-- what a slice after the first octet has
pub after_first_octet : (s : List ℕ) → 1 ≤ length s → take (length s - 1) (drop 1 s) ≡ drop 1 s
after_first_octet [] some = absurd (omega arith)
after_first_octet (x ∷ s) some =
    let len : length (x ∷ s) - 1 ≡ length s = omega arith in
    rw len (take-length s)

pub nothing_read : (s : List ℕ) → length s < 1 → Bare ≡ ctrl_of s
unfolding ctrl_of
nothing_read [] none = refl
nothing_read (x ∷ s) none = absurd (omega arith)

pub length_read : (s : List ℕ) → 1 ≤ length s → length_of (get_or s 0 0) ≢ Some (length s) → Unknown (get_or s 0 0) ≡ ctrl_of s
length_read [] some other = absurd (omega arith)
length_read (x ∷ s) some other = sym (other_length-read x s other)

pub spelled_whole : (s : List ℕ) (ctrl : Ctrl) → 1 ≤ length s → Spells ctrl (get_or s 0 0) (drop 1 s) → get_or s 0 0 < 256 → s ≡ written ctrl
spelled_whole [] ctrl some spells small = absurd (omega arith)
spelled_whole (x ∷ s) ctrl some spells small = sym (spelled_octets ctrl x s spells small)

pub fields_read : (s : List ℕ) (ctrl : Ctrl) → 1 ≤ length s → Spells ctrl (get_or s 0 0) (drop 1 s) → get_or s 0 0 < 256 → ctrl_of s ≡ cond (is_in_range ctrl) (Known ctrl) (Unknown (get_or s 0 0))
fields_read [] ctrl some spells small = absurd (omega arith)
fields_read (x ∷ s) ctrl some spells small = spelled-read ctrl x s spells small

-- ---- from what is read to the octets

tested_is_not_bare : (test : Bool) (ctrl : Ctrl) (opcode : ℕ) → cond test (Known ctrl) (Unknown opcode) ≡ Bare → ⊥
tested_is_not_bare true ctrl opcode e = absurd cc
tested_is_not_bare false ctrl opcode e = absurd cc

read_by_is_not_bare : (found : Option Maker) (opcode : ℕ) (pdu : List ℕ) → read_by found opcode pdu ≡ Bare → ⊥
read_by_is_not_bare None opcode pdu e = absurd cc
read_by_is_not_bare (Some make) opcode pdu e = tested_is_not_bare _ _ _ e

pub bare_is_nothing : (s : List ℕ) → ctrl_of s ≡ Bare → s ≡ []
unfolding ctrl_of
bare_is_nothing [] e = refl
bare_is_nothing (x ∷ s) e = absurd (read_by_is_not_bare (maker_in makers x) x (x ∷ s) e)

pub nothing_is_bare : (s : List ℕ) → s ≡ [] → ctrl_of s ≡ Bare
unfolding ctrl_of
nothing_is_bare s e = ap ctrl_of e

tested_unknown : (test : Bool) (ctrl : Ctrl) (opcode other : ℕ) → cond test (Known ctrl) (Unknown opcode) ≡ Unknown other → opcode ≡ other
tested_unknown true ctrl opcode other e = absurd cc
tested_unknown false ctrl opcode other e = cc

read_by_unknown : (found : Option Maker) (opcode other : ℕ) (pdu : List ℕ) → read_by found opcode pdu ≡ Unknown other → opcode ≡ other
read_by_unknown None opcode other pdu e = cc
read_by_unknown (Some make) opcode other pdu e = tested_unknown _ _ _ _ e

unknown_is_first : (s : List ℕ) (opcode : ℕ) → ctrl_of s ≡ Unknown opcode → slice_get s 0 ≡ Some opcode
unfolding ctrl_of
unknown_is_first [] opcode e = absurd cc
unknown_is_first (x ∷ s) opcode e = ap (λ (n : ℕ). Some n) (read_by_unknown (maker_in makers x) x opcode (x ∷ s) e)

abbrev IsNoCtrl : List ℕ → ℕ → Type 0
IsNoCtrl s opcode = (slice_get s 0 ≡ Some opcode) × ((ctrl : Ctrl) → IsCtrl ctrl → s ≡ written ctrl → ⊥)

no_ctrl : (s : List ℕ) (opcode : ℕ) → ctrl_of s ≡ Unknown opcode → IsNoCtrl s opcode
no_ctrl s opcode e = (
  unknown_is_first s opcode e,
  λ ctrl is_ctrl same.
      let known : ctrl_of s ≡ Known ctrl = ap ctrl_of same ∙ written_is_known ctrl is_ctrl in
      absurd cc,
)

unknown_then : (read : CtrlRead) (s : List ℕ) (opcode : ℕ) → read ≡ ctrl_of s → IfKnown read (λ ctrl. IsCtrl ctrl × (s ≡ written ctrl)) → IsNoCtrl s opcode → read ≡ Unknown opcode
unknown_then (Known ctrl) s opcode value known none = absurd (none.1 ctrl known.0 known.1)
unknown_then (Unknown other) s opcode value known none =
    let first = unknown_is_first s other (sym value) in
    let found = none.0 in
    let same : other ≡ opcode = cc in
    ap (λ (n : ℕ). Unknown n) same
unknown_then Bare s opcode value known none =
    let empty : s ≡ [] = bare_is_nothing s (sym value) in
    let found : slice_get [] 0 ≡ Some opcode = subst (λ (t : List ℕ). slice_get t 0 ≡ Some opcode) empty none.0 in
    absurd cc

pub unknown_exactly : (read : CtrlRead) (s : List ℕ) (opcode : ℕ) → read ≡ ctrl_of s → IfKnown read (λ ctrl. IsCtrl ctrl × (s ≡ written ctrl)) → (read ≡ Unknown opcode) ↔ IsNoCtrl s opcode
unknown_exactly read s opcode value known =
    (λ e. no_ctrl s opcode (sym value ∙ e), unknown_then read s opcode value known)
