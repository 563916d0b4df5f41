-- What a row of the table reads, as facts of commands, opcodes and lengths.
use Prim.{tt}
use Rattle.std.proofs.Common.{◌≡◌, ℕ, ◌≤◌, ◌&&◌, ◌==◌, Bool, true, false, cond, List, length, nat_le, Option, Some, None, inl, inr, refl, sym, ap, ◌∙◌, arith}
use Rattle.std.proofs.lemmas.Bool.{false_from_ne_true}
use Rattle.std.proofs.lemmas.Bool.Decides.{eqb_tells, leb_tells}
use Rattle.wire_fields.specs.Layout.{Layout, size_of, value_of}
use Rattle.wire_fields.proofs.LittleEndian.{AreOctets}
use Rattle.wire_fields.proofs.Layouts.{read_is_spelled, spelled_is_read, some_value}
use Rattle.hci_cmd.specs.Command.{layout_of, are_parameters, read_with, command_of, IsCommand, HasOpcode, IsOpcode, IsWhole, IfKnown}
use Rattle.hci_cmd.specs.declared.command.Command.{Command}
use Rattle.hci_cmd.specs.declared.command.CmdRead.TheVariants.{Known, UnknownOpcode, BadLength}

-- ---- the test of the length

pub tested : (size count : ℕ) → count ≡ size → count ≤ 255 → (nat_le size 255 && (count == size)) ≡ true
tested size count same short =
    elim (leb_tells size 255) [
      | inl low ↦ elim (eqb_tells count size) [ inl equal ↦ rw (low.0, equal.0) refl | inr other ↦ absurd (other.1 same) ]
      | inr high ↦ absurd (omega arith)
    ]

pub test_parts : (size count : ℕ) → (nat_le size 255 && (count == size)) ≡ true → (count ≡ size) × (count ≤ 255)
test_parts size count test =
    elim (leb_tells size 255) [
      | inl low ↦ elim (eqb_tells count size) [
        | inl equal ↦ (equal.1, omega arith)
        | inr other ↦ absurd (let e : false ≡ true = sym (rw (low.0, other.0) refl) ∙ test in cc)
      ]
      | inr high ↦ absurd (let e : false ≡ true = sym (rw high.0 refl) ∙ test in cc)
    ]

pub test_failed : (size count : ℕ) → (count ≡ size → count ≤ 255 → ⊥) → (nat_le size 255 && (count == size)) ≡ false
test_failed size count unlike = false_from_ne_true (nat_le size 255 && (count == size)) (λ test. let parts = test_parts size count test in unlike parts.0 parts.1)

-- ---- what was read

known_tested : (test : Bool) (layout : Layout Command) (opcode : ℕ) (parameters : List ℕ) → AreOctets parameters → layout_of opcode ≡ Some layout → are_parameters layout parameters ≡ test → IfKnown (cond test (Known (value_of layout parameters)) BadLength) (λ command. IsCommand command opcode parameters)
known_tested true layout opcode parameters small row test =
    let parts = test_parts (size_of layout parameters) (length parameters) test in
    record { layout = layout; has_layout = row; spells = read_is_spelled layout parameters small parts.0; short = parts.1 }
known_tested false layout opcode parameters small row test = tt

known_with : (row : Option (Layout Command)) (opcode : ℕ) (parameters : List ℕ) → AreOctets parameters → layout_of opcode ≡ row → IfKnown (read_with row parameters) (λ command. IsCommand command opcode parameters)
known_with None opcode parameters small row = tt
known_with (Some layout) opcode parameters small row = known_tested (are_parameters layout parameters) layout opcode parameters small row refl

pub known_is : (opcode : ℕ) (parameters : List ℕ) → AreOctets parameters → IfKnown (command_of opcode parameters) (λ command. IsCommand command opcode parameters)
unfolding command_of
known_is opcode parameters small = known_with (layout_of opcode) opcode parameters small refl

-- the row is the command's, so the command is read
pub only_is : (opcode : ℕ) (parameters : List ℕ) (command : Command) → IsCommand command opcode parameters → command_of opcode parameters ≡ Known command
unfolding command_of
only_is opcode parameters command is =
    let read = spelled_is_read is.layout command parameters is.spells in
    let test : are_parameters is.layout parameters ≡ true = tested (size_of is.layout parameters) (length parameters) read.0 is.short in
    rw (is.has_layout, test, read.1) refl

-- ---- unknown opcodes

not_unknown : (test : Bool) (command : Command) → cond test (Known command) BadLength ≡ UnknownOpcode → ⊥
not_unknown true command same = cc
not_unknown false command same = cc

unknown_with : (row : Option (Layout Command)) (parameters : List ℕ) → read_with row parameters ≡ UnknownOpcode → row ≡ None
unknown_with None parameters same = refl
unknown_with (Some layout) parameters same = absurd (not_unknown (are_parameters layout parameters) (value_of layout parameters) same)

pub unknown_is : (opcode : ℕ) (parameters : List ℕ) → command_of opcode parameters ≡ UnknownOpcode → layout_of opcode ≡ None
unfolding command_of
unknown_is opcode parameters same = unknown_with (layout_of opcode) parameters same

pub is_unknown : (opcode : ℕ) (parameters : List ℕ) → layout_of opcode ≡ None → command_of opcode parameters ≡ UnknownOpcode
unfolding command_of
is_unknown opcode parameters none = rw none refl

pub none_has : (opcode : ℕ) → layout_of opcode ≡ None → (command : Command) → HasOpcode command opcode → ⊥
none_has opcode none command has = let e : None ≡ Some has.layout = sym none ∙ has.has_layout in cc

none_with : (row : Option (Layout Command)) (opcode : ℕ) → layout_of opcode ≡ row → ((command : Command) → HasOpcode command opcode → ⊥) → row ≡ None
none_with None opcode same others = refl
none_with (Some layout) opcode same others =
    let some = some_value layout in
    absurd (others some.0 (record { layout = layout; has_layout = same; makes = some.1 }))

pub has_none : (opcode : ℕ) → ((command : Command) → HasOpcode command opcode → ⊥) → layout_of opcode ≡ None
has_none opcode others = none_with (layout_of opcode) opcode refl others

-- ---- bad lengths

bad_tested : (test : Bool) (command : Command) → cond test (Known command) BadLength ≡ BadLength → test ≡ false
bad_tested true command same = absurd cc
bad_tested false command same = refl

abbrev HasBadLength : ℕ → List ℕ → Type 0
HasBadLength opcode parameters = IsOpcode opcode × (IsWhole opcode parameters → ⊥)

bad_with : (row : Option (Layout Command)) (opcode : ℕ) (parameters : List ℕ) → layout_of opcode ≡ row → read_with row parameters ≡ BadLength → HasBadLength opcode parameters
bad_with None opcode parameters row same = absurd cc
bad_with (Some layout) opcode parameters row same =
    let test = bad_tested (are_parameters layout parameters) (value_of layout parameters) same in (
      (layout, row),
      λ whole.
          let layouts : Some layout ≡ Some whole.layout = sym row ∙ whole.has_layout in
          let one : layout ≡ whole.layout = cc in
          let size : length parameters ≡ size_of layout parameters = whole.len ∙ ap (λ (l : Layout Command). size_of l parameters) (sym one) in
          let e : true ≡ false = sym (tested (size_of layout parameters) (length parameters) size whole.short) ∙ test in cc,
    )

pub bad_is : (opcode : ℕ) (parameters : List ℕ) → command_of opcode parameters ≡ BadLength → HasBadLength opcode parameters
unfolding command_of
bad_is opcode parameters same = bad_with (layout_of opcode) opcode parameters refl same

pub is_bad : (opcode : ℕ) (parameters : List ℕ) → HasBadLength opcode parameters → command_of opcode parameters ≡ BadLength
unfolding command_of
is_bad opcode parameters bad =
    let layout = bad.0.0 in
    let test : are_parameters layout parameters ≡ false = test_failed (size_of layout parameters) (length parameters)
    (λ same short. bad.1 (record { layout = layout; has_layout = bad.0.1; len = same; short = short })) in
    rw (bad.0.1, test) refl
