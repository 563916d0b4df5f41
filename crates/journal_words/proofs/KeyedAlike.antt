-- An end by some lines looks only at the words of its side at fronts of these lines.
use Rattle.std.proofs.Common.{◌≡◌, ℕ, List, [], ◌∷◌, ◌++◌, Option, None, refl, sym, ap, ◌∙◌, append-nil, append_assoc, if◌then◌else◌}
use Rattle.std.specs.Prelude.{flat_map, ◌+◌}
use Rattle.std.specs.Option.{option_map}
use mathlib.Core.Path.{fun_ext}
use Rattle.ble_base.specs.declared.roles.Side.{Side}
use Rattle.journal.specs.declared.entries.Entry.{Entry}
use Rattle.journal.specs.declared.entries.Entry.TheVariants.{Opened, Shut, Took}
use Rattle.journal_controls.specs.KeyedLines.{LineStep, answering, keyed_by_all}
use Rattle.journal_controls.specs.LineSteps.{keyed_from, keyed_in_line, keyed_on, steps_seen, turn_now}
use Rattle.journal_controls.specs.journal_ends.Answering.{answers_in_line}
use Rattle.journal_controls.specs.journal_ends.Asked.{Words}
use Rattle.journal_controls.specs.journal_ends.Seen.{Asks, Hears, HearsForged, Says, Seen, seen_in_line}
use Rattle.journal_controls.specs.journal_packets.Belonging.{is_side}
use Rattle.journal_controls.specs.link_model.keyed_control.Keyed.{Keyed}
use Rattle.journal_controls.specs.link_model.keyed_control.declared.material.Response.{Response}
use Rattle.journal_words.specs.Drawn.{words_asked, words_connecting, words_in_line, words_taken, words_taking}

-- ---- a line

-- the same words after any lines
abbrev always : Response → Words
always response side front = response

steps_same : (words : Words) (side : Side) (number : ℕ) (front : List Entry) (line : Entry) (k : Keyed) (seen : Seen)
    → steps_seen words side number front line k seen ≡ steps_seen (always (words side front)) side number front line k seen
steps_same words side number front line k (Says own) = refl
steps_same words side number front line k (Hears slot octets) = refl
steps_same words side number front line k HearsForged = refl
steps_same words side number front line k (Asks step) = refl

moved_same : (words : Words) (side : Side) (number : ℕ) (front : List Entry) (line : Entry) (before : Option Keyed)
    → option_map (λ (k : Keyed). keyed_by_all (flat_map answering (answers_in_line words side number front line)
    ++ flat_map (steps_seen words side number front line k) (seen_in_line words side number front line)) k) before
    ≡ option_map (λ (k : Keyed). keyed_by_all (flat_map answering (answers_in_line words side number front line)
    ++ flat_map (steps_seen (always (words side front)) side number front line k) (seen_in_line words side number front line)) k) before
moved_same words side number front line before =
    ap (λ (steps : Keyed → Seen → List LineStep). option_map (λ (k : Keyed). keyed_by_all (flat_map answering (answers_in_line words side number front line)
    ++ flat_map (steps k) (seen_in_line words side number front line)) k) before)
    (fun_ext (λ k. fun_ext (λ seen. steps_same words side number front line k seen)))

line_same : (words : Words) (side : Side) (number : ℕ) (front : List Entry) (before : Option Keyed) (line : Entry)
    → keyed_in_line words side number front before line ≡ keyed_in_line (always (words side front)) side number front before line
line_same words side number front before (Opened other link handle role) = refl
line_same words side number front before (Shut other link reason) = refl
line_same words side number front before line = moved_same words side number front line before

module _ (one other : Words) (side : Side) where
  line_alike : (number : ℕ) (front : List Entry) (before : Option Keyed) (line : Entry) → one side front ≡ other side front
      → keyed_in_line one side number front before line ≡ keyed_in_line other side number front before line
  line_alike number front before line same =
      line_same one side number front before line
      ∙ ap (λ response. keyed_in_line (always response) side number front before line) same
      ∙ sym (line_same other side number front before line)

  -- ---- all lines

  from_alike : (number : ℕ) (front : List Entry) (before : Option Keyed) (lines : List Entry)
      → ((earlier more : List Entry) → front ++ lines ≡ earlier ++ more → one side earlier ≡ other side earlier)
      → keyed_from one side number front before lines ≡ keyed_from other side number front before lines
  from_alike number front before [] same = refl
  from_alike number front before (line ∷ lines) same =
      let next = front ++ line ∷ [] in
      from_alike number next (keyed_in_line one side number front before line) lines
      (λ earlier more is. same earlier more (sym (append_assoc front (line ∷ []) lines) ∙ is))
      ∙ ap (λ k. keyed_from other side number next k lines) (line_alike number front before line (same front (line ∷ lines) refl))

  pub keyed_alike : (number : ℕ) (journal : List Entry) → ((front more : List Entry) → journal ≡ front ++ more → one side front ≡ other side front)
      → keyed_on one side number journal ≡ keyed_on other side number journal
  unfolding keyed_on
  keyed_alike number journal same = from_alike number [] None journal same

  taking_alike : (journal : List Entry) (line : Entry) → ((front more : List Entry) → journal ≡ front ++ more → one side front ≡ other side front)
      → words_taking one side journal line ≡ words_taking other side journal line
  taking_alike journal (Took taker link count llid body) same =
      λ i. if is_side taker side
      then words_taken (same journal [] (sym (append-nil journal)) i) (turn_now journal) (record { llid = llid; body = body }) (keyed_alike link journal same i)
      else 0
  taking_alike journal line same = refl

  pub words_alike : (journal : List Entry) (line : Entry) → ((front more : List Entry) → journal ≡ front ++ more → one side front ≡ other side front)
      → words_in_line one side journal line ≡ words_in_line other side journal line
  words_alike journal line same = ap (λ n. words_asked side journal line + (words_connecting side line + n)) (taking_alike journal line same)
