-- Which lines of a journal say that a link is shut with 3D, and which say that a packet is forged.
use Rattle.std.proofs.Common.{◌≡◌, ℕ, ◌==◌, Bool, true, false, List, [], ◌∷◌, ◌++◌, refl, sym, ap, subst, ◌∙◌}
use Rattle.std.specs.List.{list_any}
use Rattle.std.proofs.lemmas.Bool.{eq-eqb, or_parts}
use Rattle.std.proofs.lemmas.List.Folds.{list_any-append}
use Rattle.ble_base.specs.ErrorCodes.{mic_failure}
use Rattle.ble_base.specs.Side.{other_side}
use Rattle.ble_base.specs.declared.error_codes.ErrCode.{ErrCode}
use Rattle.ble_base.specs.declared.roles.Side.{Side}
use Rattle.ble_base.specs.declared.verdicts.Verdict.TheVariants.{Forged}
use Rattle.journal.specs.declared.entries.Entry.{Entry}
use Rattle.journal.specs.declared.entries.Entry.TheVariants.{Air, Shut}
use Rattle.journal_outcomes.specs.journal_collisions.journal_endings.journal_indications.journal_data.Followed.{Mixed}
use Rattle.journal_failures.specs.Failures.{AllFailuresAreForged, IsForgedIn}

abbrev pub is_failure : Entry → Bool
is_failure (Shut side number reason) = reason.0 == mic_failure
is_failure line = false

abbrev pub is_forged_line : Entry → Bool
is_forged_line (Air side channel octets fate Forged) = true
is_forged_line line = false

-- a line is the last one
record IsLast (start front : List Entry) (last line : Entry) : Type 0 where
  front_is : front ≡ start
  line_is : line ≡ last

not_late : (front rest : List Entry) (line : Entry) → [] ≡ front ++ line ∷ rest → ⊥
not_late [] rest line is = absurd (cc)
not_late (first ∷ front) rest line is = absurd (cc)

is_last : (start front rest : List Entry) (last line : Entry) → list_any is_failure start ≡ false → is_failure line ≡ true
    → start ++ last ∷ [] ≡ front ++ line ∷ rest → IsLast start front last line
is_last [] [] rest last line none does is = let same : last ≡ line = cc in record { front_is = refl; line_is = sym same }
is_last [] (first ∷ front) rest last line none does is =
    let more : [] ≡ front ++ line ∷ rest = cc in absurd (not_late front rest line more)
is_last (one ∷ start) [] rest last line none does is =
    let same : one ≡ line = cc in
    absurd (let h : true ≡ false = sym does ∙ ap is_failure (sym same) ∙ (or_parts (is_failure one) (list_any is_failure start) none).0 in cc)
is_last (one ∷ start) (first ∷ front) rest last line none does is =
    let more : start ++ last ∷ [] ≡ front ++ line ∷ rest = cc in
    let same : one ≡ first = cc in
    let later = is_last start front rest last line (or_parts (is_failure one) (list_any is_failure start) none).1 does more in
    record { front_is = λ i. sym same i ∷ later.front_is i; line_is = later.line_is }

-- where the last line alone says so, after a forged packet
pub last_fails : (mixed : Mixed) (start : List Entry) (side : Side) (number : ℕ) (reason : ErrCode) → list_any is_failure start ≡ false
    → IsForgedIn side number start → AllFailuresAreForged mixed (start ++ Shut side number reason ∷ [])
last_fails mixed start side number reason none forged front rest other link code is fails unmixed =
    let last = is_last start front rest (Shut side number reason) (Shut other link code) none (eq-eqb code.0 mic_failure fails) is in
    let line = last.line_is in
    let sides : other ≡ side = cc in
    let numbers : link ≡ number = cc in
    subst (IsForgedIn other link) (sym last.front_is)
    (subst (λ n. IsForgedIn other n start) (sym numbers) (subst (λ (s : Side). IsForgedIn s number start) (sym sides) forged))

-- where none does
pub none_fails : (mixed : Mixed) (journal : List Entry) → list_any is_failure journal ≡ false → AllFailuresAreForged mixed journal
none_fails mixed journal none front rest side number reason is fails unmixed =
    let line = Shut side number reason in
    let later = (or_parts (list_any is_failure front) (list_any is_failure (line ∷ rest))
    (sym (list_any-append is_failure front (line ∷ rest)) ∙ ap (list_any is_failure) (sym is) ∙ none)).1 in
    absurd (let h : true ≡ false = sym (eq-eqb reason.0 mic_failure fails) ∙ (or_parts (is_failure line) (list_any is_failure rest) later).0 in cc)

-- where no packet is forged
pub none_forged : (side : Side) (number : ℕ) (front : List Entry) → list_any is_forged_line front ≡ false → IsForgedIn side number front → ⊥
none_forged side number front none is =
    let line = Air (other_side side) is.channel is.octets is.fate Forged in
    let later = (or_parts (list_any is_forged_line is.before) (list_any is_forged_line (line ∷ is.after))
    (sym (list_any-append is_forged_line is.before (line ∷ is.after)) ∙ ap (list_any is_forged_line) (sym is.is_at) ∙ none)).1 in
    absurd (let h : true ≡ false = (or_parts true (list_any is_forged_line is.after) later).0 in cc)
