-- The loop over the rounds.
use Rattle.std.proofs.Common.{◌≡◌, ℕ, suc, ◌+◌, ◌-◌, ◌≤◌, List, ap, ◌∙◌, arith}
use Rattle.aes_block.specs.Cipher.{after_rounds}
use Rattle.aes_block.specs.State.{add_round_key, mix_columns, shift_rows, sub_bytes}

pub after_rounds-next : (words : List (List ℕ)) (input : List ℕ) (n : ℕ) → 1 ≤ n
    → after_rounds words input (n + 1 - 1) ≡ add_round_key (mix_columns (shift_rows (sub_bytes (after_rounds words input (n - 1))))) words n
unfolding after_rounds
after_rounds-next words input n le =
    let before : n + 1 - 1 ≡ suc (n - 1) = omega arith in
    let here : suc (n - 1) ≡ n = omega arith in
    ap (after_rounds words input) before
    ∙ ap (add_round_key (mix_columns (shift_rows (sub_bytes (after_rounds words input (n - 1))))) words) here
