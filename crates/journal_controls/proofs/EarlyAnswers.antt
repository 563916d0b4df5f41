-- In the turn in which a link begins no host answers a request on it.
use Rattle.std.proofs.Common.{◌≡◌, ℕ, ◌+◌, ◌≤◌, false, Option, Some, None, List, [], ◌∷◌, ◌++◌, if◌then◌else◌, refl, sym, ap, ◌∙◌, append_assoc, arith, length-append}
use Rattle.std.specs.Prelude.{flat_map, length}
use Rattle.std.proofs.lemmas.Bool.{le-ltb}
use Rattle.std.proofs.lemmas.Grind.{flat_map-append}
use Rattle.ble_base.specs.declared.roles.Side.{Side}
use Rattle.hci_cmd.specs.declared.command.Command.{Command}
use Rattle.journal.specs.declared.entries.Entry.{Entry}
use Rattle.journal_ends.specs.Answering.{answers_from, answers_if}
use Rattle.journal_ends.specs.Asked.{Words, is_earlier, moment_in, step_asked, step_by}
use Rattle.journal_ends.specs.host_answers.Answered.{accepted_in}
use Rattle.journal_ends.specs.journal_links.Begun.{LinkBegun, link_numbered}
use Rattle.journal_ends.specs.journal_links.LinkLines.{lines_of}
use Rattle.journal_ends.specs.run_model.Readers.{pair_openings_in, turns_of}
use Rattle.journal_ends.proofs.journal_links.LinksBegun.{number_stays}
use Rattle.journal_controls.specs.LineSteps.{turn_now}

-- no line before others is of a later turn
turns_grow : (front more : List Entry) (slot : ℕ) → slot ≡ turn_now (front ++ more) → turn_now front ≤ slot
turns_grow front more slot is =
    let both : length (turns_of (front ++ more)) ≡ length (turns_of front) + length (turns_of more) =
    ap length (flat_map-append pair_openings_in front more) ∙ length-append (turns_of front) (turns_of more) in
    omega (arith, both, is)

module _ (words : Words) (side : Side) (number : ℕ) (link : LinkBegun) where
  late_by : (front more : List Entry) (begun : Option LinkBegun) → link_numbered number front ≡ begun → link_numbered number (front ++ more) ≡ Some link
      → link.slot ≡ turn_now (front ++ more) → is_earlier begun (turn_now front) ≡ false
  late_by front more None is whole slot = refl
  late_by front more (Some one) is whole slot =
      let same : Some one ≡ Some link = sym (number_stays number front more one is) ∙ whole in
      let now : one ≡ link = cc in
      le-ltb one.slot (turn_now front) (turns_grow front more one.slot (ap (λ (l : LinkBegun). l.slot) now ∙ slot))

  none_by : (front : List Entry) (commands : List Command) → is_earlier (link_numbered number front) (turn_now front) ≡ false
      → flat_map (λ command. answers_if (step_asked words side number front command)) commands ≡ []
  none_by front [] late = refl
  none_by front (command ∷ commands) late =
      λ i. answers_if (if late i then step_by (lines_of side number front) (moment_in words side front (turn_now front)) command else None) ++ none_by front commands late i

  pub none_answered : (front lines : List Entry) → link_numbered number (front ++ lines) ≡ Some link → link.slot ≡ turn_now (front ++ lines)
      → answers_from words side number front lines ≡ []
  none_answered front [] is slot = refl
  none_answered front (line ∷ lines) is slot =
      let next = front ++ line ∷ [] in
      let same : next ++ lines ≡ front ++ line ∷ lines = append_assoc front (line ∷ []) lines in
      let late = late_by front (line ∷ lines) (link_numbered number front) refl is slot in
      λ i. none_by front (accepted_in side front line) late i
      ++ none_answered next lines (ap (link_numbered number) same ∙ is) (slot ∙ ap turn_now (sym same)) i
