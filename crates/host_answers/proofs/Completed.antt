-- Host Number Of Completed Packets has its opcode alone: a test of commands that holds of the command of one opcode.
use Rattle.std.proofs.Common.{◌≡◌, ℕ, zero, suc, ◌%◌, ◌==◌, Bool, true, false, Option, Some, None, List, [], ◌∷◌, cond, refl, sym, ap, ◌∙◌, subst, rules}
use Rattle.std.specs.Prelude.{⊤}
use Rattle.std.specs.List.{AllByRecursion}
use Rattle.std.proofs.lemmas.Bool.{eqb-true}
use Rattle.wire_fields.specs.Layout.{Layout, value_of}
use Rattle.wire_fields.specs.Table.{value_in}
use Rattle.hci_cmd.specs.declared.command.Command.{Command}
use Rattle.hci_cmd.specs.declared.command.HandleCount.{HandleCount}
use Rattle.hci_cmd.specs.declared.command.CmdRead.TheVariants.{Known, BadLength}
use Rattle.hci_cmd.specs.Command.{are_parameters, command_of, counts_layout, layout_of, layouts, read_with}
use Rattle.run_model.specs.controller_model.Answers.{is_host_completed}

-- ---- for any test

module _ (test : Command → Bool) (key : ℕ) where
  abbrev pub IsTestOf : ℕ → Layout Command → Type 0
  IsTestOf opcode layout = (octets : List ℕ) → test (value_of layout octets) ≡ (opcode % 65536 == key)

  abbrev FoundTest : ℕ → Option (Layout Command) → Type 0
  FoundTest opcode None = ⊤
  FoundTest opcode (Some layout) = IsTestOf opcode layout

  test_by : (is_row : Bool) (opcode other : ℕ) (layout : Layout Command) (found : Option (Layout Command)) → (opcode == other) ≡ is_row
      → IsTestOf other layout → FoundTest opcode found → FoundTest opcode (cond is_row (Some layout) found)
  test_by true opcode other layout found same here later =
      subst (λ (n : ℕ). IsTestOf n layout) (sym (eqb-true opcode other same)) here
  test_by false opcode other layout found same here later = later

  test_in : (rows : List (ℕ × Layout Command)) (opcode : ℕ) → AllByRecursion (λ (row : ℕ × Layout Command). IsTestOf row.0 row.1) rows
      → FoundTest opcode (value_in rows opcode)
  test_in [] opcode are = tt
  test_in (row ∷ rows) opcode are =
      test_by (opcode == row.0) opcode row.0 row.1 (value_in rows opcode) refl are.0 (test_in rows opcode are.1)

  test_if : (whole : Bool) (same : Bool) (found command : Command) → test found ≡ same
      → cond whole (Known found) BadLength ≡ Known command → test command ≡ same
  test_if true same found command holds is = let one : found ≡ command = cc in sym (ap test one) ∙ holds
  test_if false same found command holds is = absurd cc

  test_with : (found : Option (Layout Command)) (opcode : ℕ) (octets : List ℕ) (command : Command) → FoundTest opcode found
      → read_with found octets ≡ Known command → test command ≡ (opcode % 65536 == key)
  test_with None opcode octets command holds is = absurd cc
  test_with (Some layout) opcode octets command holds is =
      test_if (are_parameters layout octets) (opcode % 65536 == key) (value_of layout octets) command (holds octets) is

  -- the test holds of a command that is read exactly if its opcode is the key, where it does so in each row
  pub tested_by_opcode : AllByRecursion (λ (row : ℕ × Layout Command). IsTestOf row.0 row.1) layouts → (opcode : ℕ) (octets : List ℕ) (command : Command)
      → command_of opcode octets ≡ Known command → test command ≡ (opcode % 65536 == key)
  unfolding command_of layout_of
  tested_by_opcode rows opcode octets command is = test_with (value_in layouts opcode) opcode octets command (test_in layouts opcode rows) is

-- ---- Host Number Of Completed Packets

counts_completed : (handles : ℕ) (taken : List HandleCount) (octets : List ℕ) → is_host_completed (value_of (counts_layout handles taken) octets) ≡ true
counts_completed zero taken octets = refl
counts_completed (suc handles) taken octets = counts_completed handles _ _

rows_completed : AllByRecursion (λ (row : ℕ × Layout Command). IsTestOf is_host_completed 0x0C35 row.0 row.1) layouts
unfolding layouts
rows_completed = search (rules, counts_completed)

pub completed_by_opcode : (opcode : ℕ) (octets : List ℕ) (command : Command) → command_of opcode octets ≡ Known command
    → is_host_completed command ≡ (opcode % 65536 == 0x0C35)
completed_by_opcode opcode octets command is = tested_by_opcode is_host_completed 0x0C35 rows_completed opcode octets command is
