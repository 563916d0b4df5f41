-- The status of each command is one octet.
use Rattle.std.proofs.Common.{◌≡◌, ℕ, ◌%◌, Bool, true, false, if◌then◌else◌, List, [], ◌∷◌, refl}
use Rattle.std.specs.Prelude.{◌&&◌, nat_lt}
use Rattle.std.proofs.lemmas.Bool.{and_parts, ltb-true}
use Rattle.std.proofs.Math.Nat.{mod-eq_of_lt}
use Rattle.hci_cmd.specs.declared.command.Command.{Command}
use Rattle.hci_cmd.specs.declared.command.Command.TheVariants.{LeSetAdvEnable, LeSetScanEnable}
use Rattle.host_view.specs.Refusals.{first_refusal}
use Rattle.host_view.specs.Status.{advertising_on_rows, if_turned_on, rows_of, scan_on_rows, status_of}
use Rattle.host_view.specs.View.{View}

-- each code is below 256
abbrev are_codes : List (Bool × ℕ) → Bool
are_codes [] = true
are_codes (row ∷ rows) = nat_lt row.1 256 && are_codes rows

turned_codes : (turned : Bool) (rows : List (Bool × ℕ)) → are_codes rows ≡ true → are_codes (if_turned_on turned rows) ≡ true
turned_codes true rows are = are
turned_codes false rows are = refl

row_codes : (view : View) (command : Command) → are_codes (rows_of view command) ≡ true
row_codes view (LeSetAdvEnable value) = turned_codes _ (advertising_on_rows view) refl
row_codes view (LeSetScanEnable value duplicates) = turned_codes _ (scan_on_rows view) refl
row_codes view other = refl

code_by : (holds : Bool) (code rest : ℕ) → nat_lt code 256 ≡ true → nat_lt rest 256 ≡ true → nat_lt (if holds then code else rest) 256 ≡ true
code_by true code rest is later = is
code_by false code rest is later = later

first_code : (rows : List (Bool × ℕ)) → are_codes rows ≡ true → nat_lt (first_refusal rows) 256 ≡ true
first_code [] are = refl
first_code (row ∷ rows) are =
    let both = and_parts (nat_lt row.1 256) (are_codes rows) are in
    code_by row.0 row.1 (first_refusal rows) both.0 (first_code rows both.1)

status_code : (view : View) (command : Command) → nat_lt (status_of view command) 256 ≡ true
unfolding status_of
status_code view command =
    first_code (rows_of view command) (row_codes view command)

pub one_octet : (view : View) (command : Command) → status_of view command % 256 ≡ status_of view command
one_octet view command = mod-eq_of_lt (ltb-true (status_of view command) 256 (status_code view command))
