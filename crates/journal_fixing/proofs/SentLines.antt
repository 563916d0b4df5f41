-- The line of a new PDU in the middle of a call: what is kept there, and what it says.
use Rattle.std.proofs.Common.{◌≡◌, ℕ, ◌==◌, ◌&&◌, ◌||◌, true, Some, List, [], ◌∷◌, ◌++◌, map, refl, sym, ap, subst, ◌∙◌, append_assoc, if◌then◌else◌}
use Rattle.std.specs.Prelude.{All}
use Rattle.std.specs.List.{AllByRecursion}
use Rattle.std.proofs.lemmas.Bool.{eq-eqb, or_right}
use Rattle.std.proofs.lemmas.List.{append_cancel_left}
use Rattle.ble_base.specs.declared.notes.Note.{Note}
use Rattle.ble_base.specs.declared.notes.Note.TheVariants.{Sent as SentNote}
use Rattle.ble_base.specs.declared.roles.Side.{Side}
use Rattle.ble_base.specs.declared.roles.Side.TheVariants.{A, B}
use Rattle.journal_controls.specs.controller_model.Side.{notes_after}
use Rattle.journal_controls.specs.controller_model.Step.{Step as Call}
use Rattle.journal.specs.declared.entries.Entry.{Entry}
use Rattle.journal.specs.declared.entries.Entry.TheVariants.{Sent}
use Rattle.journal_controls.specs.journal_ends.Asked.{Words}
use Rattle.journal_controls.specs.journal_links.LinkLines.{lines_of, where_named}
use Rattle.journal_controls.specs.journal_packets.Belonging.{is_side}
use Rattle.journal_controls.specs.run_model.History.{Event, Called, Noted}
use Rattle.journal_controls.specs.run_model.Journal.{journal_from, journal_of, side_of}
use Rattle.journal_controls.specs.run_model.Links.{links_after, links_of}
use Rattle.journal_controls.specs.run_model.Run.{Given, after_call, facts_at, setup_at}
use Rattle.journal_controls.proofs.journal_acks.Exchanging.{map_both, number_at, number_notes}
use Rattle.journal_controls.proofs.journal_acks.NewPdus.{first_part}
use Rattle.journal_controls.proofs.journal_acks.link_calls.CallNotes.{OpensNone}
use Rattle.journal_controls.proofs.journal_links.LinkLines.{lines_append}
use Rattle.journal_controls.proofs.run_model.Parts.{journal_more, notes_noted}
use Rattle.journal_fixing.specs.OnLines.{control_fixing, is_fixed, is_fixed_from}
use Rattle.journal_fixing.proofs.ControlKept.{fixed_is, fixing_stays}
use Rattle.journal_fixing.proofs.NotedLines.{notes_fixing}
use Rattle.journal_fixing.proofs.SaidPdus.{in_middle}

own_named : (side : Side) (number : ℕ) (line : Entry) → where_named side number (Some (side, number)) line ≡ line ∷ []
own_named A number line = ap (λ b. if b then line ∷ [] else []) (eq-eqb number number refl)
own_named B number line = ap (λ b. if b then line ∷ [] else []) (eq-eqb number number refl)

own_side : (side : Side) (number : ℕ) → (is_side side side && number == number) ≡ true
own_side A number = eq-eqb number number refl
own_side B number = eq-eqb number number refl

module _ (words : Words) (given : Given) (station : ℕ) (call : Call) (history : List Event) (earlier later : List Note) (handle count llid : ℕ) (body : List ℕ)
    (notes_are : notes_after (setup_at given station) (facts_at given station history) call ≡ earlier ++ SentNote handle count llid (record { items = body }) ∷ later)
    (opens : All (OpensNone handle) (notes_after (setup_at given station) (facts_at given station history) call)) where
  abbrev note : Note
  note = SentNote handle count llid (record { items = body })

  abbrev side : Side
  side = side_of station

  abbrev own : ℕ
  own = number_at station handle history

  abbrev now : List Event
  now = history ++ Called station call ∷ map (Noted station) earlier

  abbrev line : Entry
  line = Sent side own count llid body

  abbrev middle : List Entry
  middle = journal_from (links_of history) (map (Noted station) earlier)

  abbrev rest : List Entry
  rest = journal_from (links_after (links_of now) (Noted station note)) (map (Noted station) later)

  abbrev after : List Event
  after = after_call given station call history

  split_call : after ≡ now ++ Noted station note ∷ map (Noted station) later
  split_call =
      ap (λ notes. history ++ Called station call ∷ map (Noted station) notes) notes_are
      ∙ ap (λ xs. history ++ Called station call ∷ xs) (map_both station earlier (note ∷ later))
      ∙ sym (append_assoc history (Called station call ∷ map (Noted station) earlier) (Noted station note ∷ map (Noted station) later))

  pub number_then : number_at station handle now ≡ own
  number_then =
      ap (number_at station handle) (sym (append_assoc history (Called station call ∷ []) (map (Noted station) earlier)))
      ∙ number_notes station handle call history earlier (first_part (OpensNone handle) earlier (note ∷ later) (subst (All (OpensNone handle)) notes_are opens))

  journal_now : journal_of now ≡ journal_of history ++ middle
  journal_now = journal_more history (Called station call ∷ map (Noted station) earlier)

  journal_then : journal_of after ≡ journal_of now ++ line ∷ rest
  journal_then =
      ap journal_of split_call ∙ journal_more now (Noted station note ∷ map (Noted station) later)
      ∙ ap (λ n. journal_of now ++ Sent side n count llid body ∷ rest) number_then

  -- before the line the end as it fixed the PDU is the one after the call
  pub fixing_then : control_fixing words side own (journal_of now) ≡ control_fixing words side own (journal_of after)
  fixing_then =
      let front = journal_of now in
      let fixes : (is_fixed words side own front || is_fixed_from side own line) ≡ true = or_right (is_fixed words side own front) (is_fixed_from side own line) (own_side side own) in
      sym (ap (control_fixing words side own) (journal_then ∙ sym (append_assoc front (line ∷ []) rest))
      ∙ notes_fixing words side side own (front ++ line ∷ []) rest (notes_noted (links_after (links_of now) (Noted station note)) station later)
      (fixed_is words side own front line refl ∙ fixes)
      ∙ fixing_stays words side own front line refl fixes)

  lines_then : lines_of side own (journal_of after) ≡ lines_of side own (journal_of history) ++ (lines_of side own middle ++ line ∷ lines_of side own rest)
  lines_then =
      ap (lines_of side own) (journal_then ∙ ap (λ xs. xs ++ line ∷ rest) journal_now ∙ append_assoc (journal_of history) middle (line ∷ rest))
      ∙ lines_append side own (journal_of history) (middle ++ line ∷ rest)
      ∙ ap (λ xs. lines_of side own (journal_of history) ++ xs)
      (lines_append side own middle (line ∷ rest) ∙ ap (λ xs. lines_of side own middle ++ (xs ++ lines_of side own rest)) (own_named side own line))

  -- what all lines have that the call adds for the end, it has
  pub said_in : (P : Entry → Type 0) (more : List Entry) → lines_of side own (journal_of after) ≡ lines_of side own (journal_of history) ++ more
      → AllByRecursion P more → P line
  said_in P more is all =
      in_middle P (lines_of side own middle) line (lines_of side own rest)
      (subst (AllByRecursion P) (append_cancel_left (lines_of side own (journal_of history)) more (lines_of side own middle ++ line ∷ lines_of side own rest) (sym is ∙ lines_then)) all)
