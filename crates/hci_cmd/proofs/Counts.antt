-- Handles and counts, taken one after another.
use Rattle.std.proofs.Common.{◌≡◌, ℕ, zero, suc, true, false, ◌+◌, ◌*◌, ◌-◌, ◌<◌, ◌≤◌, List, [], ◌∷◌, ◌++◌, length, take, drop, Some, refl, sym, ap, ◌∙◌, arith}
use Rattle.std.proofs.lemmas.List.{length-append}
use Rattle.wire_fields.specs.Field.{number_of}
use Rattle.wire_fields.specs.Layout.{size_of, value_of}
use Rattle.hci_cmd.specs.Command.{counts_layout, completed_layout, are_parameters, read_with}
use Rattle.hci_cmd.specs.declared.command.HandleCount.{HandleCount}
use Rattle.hci_cmd.specs.declared.command.Command.{Command}
use Rattle.hci_cmd.specs.declared.command.Command.TheVariants.{HostCompleted}
use Rattle.hci_cmd.specs.declared.command.CmdRead.TheVariants.{Known, BadLength}
use Rattle.hci_cmd.proofs.Parameters.{tested, test_failed}

-- a handle and a count take four octets
counts_size : (n : ℕ) (taken : List HandleCount) (octets : List ℕ) → size_of (counts_layout n taken) octets ≡ 4 * n
counts_size zero taken octets = refl
counts_size (suc n) taken octets =
    let others = counts_size n (taken ++ record { handle = number_of (take 2 octets); count = number_of (take 2 (drop 2 octets)) } ∷ []) (drop 2 (drop 2 octets)) in
    omega arith

completed_size : (octets : List ℕ) → size_of completed_layout octets ≡ 1 + 4 * number_of (take 1 octets)
completed_size octets = ap (λ (k : ℕ). 1 + k) (counts_size (number_of (take 1 octets)) [] (drop 1 octets))

-- the parameters have another length than that of the handles
pub completed_bad : (octets : List ℕ) → (length octets ≡ 1 + 4 * number_of (take 1 octets) → length octets ≤ 255 → ⊥) → BadLength ≡ read_with (Some completed_layout) octets
completed_bad octets unlike =
    let size = completed_size octets in
    let test : are_parameters completed_layout octets ≡ false = test_failed (size_of completed_layout octets) (length octets) (λ same short. unlike (same ∙ size) short) in
    rw test refl

pub completed_known : (octets rest : List ℕ) (n : ℕ) (command : Command) → n ≡ number_of (take 1 octets) → rest ≡ drop 1 octets
    → length rest + 1 ≡ length octets → length rest ≡ 4 * n → n ≤ 63 → command ≡ value_of (counts_layout n []) rest
    → Known command ≡ read_with (Some completed_layout) octets
completed_known octets rest n command number left rest_len len few value =
    let size = completed_size octets in
    let test : are_parameters completed_layout octets ≡ true = tested (size_of completed_layout octets) (length octets) (omega arith) (omega arith) in
    let same : value_of (counts_layout n []) rest ≡ value_of completed_layout octets = rw (number, left) refl in
    rw (test, value, same) refl

-- what is still to be taken makes of what was taken the command that all make
pub record Taken (whole : Command) (taken : List HandleCount) (left : List ℕ) (handles i : ℕ) : Type 0 where
  pub makes : value_of (counts_layout (handles - i) taken) left ≡ whole
  pub len : length taken ≡ i
  pub left_len : length left + 4 * i ≡ 4 * handles

pub Taken-none : (handles : ℕ) (left : List ℕ) → length left ≡ 4 * handles → Taken (value_of (counts_layout handles []) left) [] left handles 0
Taken-none handles left len =
    let all : handles - 0 ≡ handles = omega arith in
    record { makes = ap (λ (n : ℕ). value_of (counts_layout n []) left) all; len = refl; left_len = omega arith }

counts_step : (whole : Command) (taken : List HandleCount) (left : List ℕ) (n : ℕ) → value_of (counts_layout (suc n) taken) left ≡ whole → value_of (counts_layout n (taken ++ record { handle = number_of (take 2 left); count = number_of (take 2 (drop 2 left)) } ∷ [])) (drop 2 (drop 2 left)) ≡ whole
counts_step whole taken left n makes = makes

pub Taken-more : (whole : Command) (taken : List HandleCount) (left between after : List ℕ) (handles i handle count : ℕ)
    → Taken whole taken left handles i → i < handles → handle ≡ number_of (take 2 left) → between ≡ drop 2 left
    → count ≡ number_of (take 2 between) → after ≡ drop 2 between → length between + 2 ≡ length left → length after + 2 ≡ length between
    → Taken whole (taken ++ record { handle = handle; count = count } ∷ []) after handles (i + 1)
Taken-more whole taken left between after handles i handle count is more first between_is second after_is between_len after_len =
    let rest : handles - i ≡ suc (handles - (i + 1)) = omega arith in
    let makes : value_of (counts_layout (suc (handles - (i + 1))) taken) left ≡ whole = ap (λ (n : ℕ). value_of (counts_layout n taken) left) (sym rest) ∙ is.makes in
    record {
      makes = rw (first, second, after_is, between_is) (counts_step whole taken left (handles - (i + 1)) makes);
      len = omega (arith, length-append taken (record { handle = handle; count = count } ∷ []), is.len);
      left_len = omega (arith, is.left_len);
    }

pub Taken-all : (whole : Command) (taken : List HandleCount) (left : List ℕ) (handles i : ℕ) → Taken whole taken left handles i → i ≡ handles → HostCompleted (record { items = taken }) ≡ whole
Taken-all whole taken left handles i is all =
    let none : handles - i ≡ 0 = omega arith in
    ap (λ (n : ℕ). value_of (counts_layout n taken) left) (sym none) ∙ is.makes
