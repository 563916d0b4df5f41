-- The notes of what was sent and taken on a link since it was opened.
use Rattle.std.proofs.Common.{◌≡◌, ℕ, Bool, true, false, Some, List, [], ◌∷◌, ◌++◌, cond, refl, ap, sym, subst, ◌∙◌, append-nil}
use Rattle.std.specs.Prelude.{filter, fold}
use Rattle.std.proofs.lemmas.Bool.{eq-eqb}
use Rattle.std.proofs.lemmas.List.Elements.{filter-append}
use Rattle.ack_bit.specs.Nonempty.{nonempty}
use Rattle.ble_base.specs.declared.notes.Note.{Note}
use Rattle.ble_base.specs.declared.notes.Note.TheVariants.{Opened, Sent, Took, Up}
use Rattle.link_commands.specs.open_links.link_model.Data.{is_empty}
use Rattle.link_commands.specs.open_links.link_model.Numbers.{is_sent_note, is_took_note, numbered_notes, sent_note, took_note}
use Rattle.link_commands.specs.open_links.link_model.End.{notes_of as end_notes_of}
use Rattle.link_commands.proofs.open_links.link_model.Numbering.{are_numbered}
use Rattle.link_commands.specs.open_links.OpenLinks.{OpenLink, facts_in, link_at}
use Rattle.link_commands.proofs.open_links.Handles.{handle_is}
use Rattle.controller_model.specs.Facts.{Setup}
use Rattle.controller_model.specs.Links.{note_opened}
use Rattle.controller_model.specs.Side.{facts_of, notes_of}
use Rattle.controller_model.specs.Since.{is_sent_on, is_took_on, is_under, note_since, note_under, opens_under, since_opened}
use Rattle.controller_model.specs.Step.{Step}
use Rattle.controller_model.proofs.Handles.{own_handles}
use Rattle.controller_model.proofs.UnderNotes.{AreOn, end_on, open_noted}

-- the notes of one kind: on a link under a handle, and of an end
record IsKind (handle : ℕ) (on of : Note → Bool) : Type 0 where
  opened : (note : Note) → opens_under handle note ≡ true → on note ≡ false
  apart : (note : Note) → is_under handle note ≡ false → on note ≡ false
  here : (note : Note) → is_under handle note ≡ true → on note ≡ of note

module _ (handle : ℕ) (on of : Note → Bool) (kind : IsKind handle on of) where
  one_less : (notes : List Note) (note : Note) → on note ≡ false → filter on (notes ++ note ∷ []) ≡ filter on notes
  one_less notes note none =
      filter-append on notes (note ∷ []) ∙ ap (λ b. filter on notes ++ cond b (note ∷ []) []) none ∙ append-nil (filter on notes)

  -- since it was opened, the notes of the kind are under the handle
  since_under : (notes since under : List Note) → filter on since ≡ filter on under
      → filter on (fold (note_since handle) since notes) ≡ filter on (fold (note_under handle) under notes)
  since_under [] since under same = same
  since_under (note ∷ notes) since under same = since_under notes _ _ (by (opens_under handle note) (is_under handle note) refl refl)
    where
      by : (opens of_link : Bool) → opens_under handle note ≡ opens → is_under handle note ≡ of_link
          → filter on (cond opens [] (since ++ note ∷ [])) ≡ filter on (cond opens (note ∷ []) (cond of_link (under ++ note ∷ []) under))
      by true of_link opens is = sym (ap (λ b. cond b (note ∷ []) []) (kind.opened note opens))
      by false true opens is =
          filter-append on since (note ∷ []) ∙ ap (λ xs. xs ++ filter on (note ∷ [])) same ∙ sym (filter-append on under (note ∷ []))
      by false false opens is = one_less since note (kind.apart note is) ∙ same

  same_kind : (notes : List Note) → AreOn handle notes → filter on notes ≡ filter of notes
  same_kind [] are = refl
  same_kind (note ∷ notes) are =
      (λ i. cond (kind.here note (are.0.under handle ∙ eq-eqb handle handle refl) i) (note ∷ same_kind notes are.1 i) (same_kind notes are.1 i))

  kind_noted : (setup : Setup) (past : List Step) (link : OpenLink) → link_at handle (facts_of setup past).links ≡ Some link → link.setup.link.handle ≡ handle
      → filter on (since_opened handle (notes_of setup past)) ≡ filter of (end_notes_of link.setup link.past)
  kind_noted setup past link is same =
      let ends = end_notes_of link.setup link.past in
      since_under (notes_of setup past) [] [] refl ∙ ap (filter on) (open_noted handle setup past link is)
      ∙ ap (λ b. cond b (note_opened link.setup.link ∷ filter on ends) (filter on ends)) (kind.opened (note_opened link.setup.link) (eq-eqb link.setup.link.handle handle same))
      ∙ same_kind ends (subst (λ n. AreOn n ends) same (end_on link.setup link.past))

sent_kind : (handle : ℕ) → IsKind handle (is_sent_on handle) is_sent_note
sent_kind handle = record { opened = opened; apart = apart; here = here }
  where
    opened : (note : Note) → opens_under handle note ≡ true → is_sent_on handle note ≡ false
    opened (Opened other role own peer) is = refl
    opened (Up packet) is = absurd cc
    opened note is = absurd cc

    apart : (note : Note) → is_under handle note ≡ false → is_sent_on handle note ≡ false
    apart (Sent other number llid body) is = is
    apart (Up packet) is = refl
    apart note is = refl

    here : (note : Note) → is_under handle note ≡ true → is_sent_on handle note ≡ is_sent_note note
    here (Sent other number llid body) is = is
    here (Up packet) is = refl
    here note is = refl

took_kind : (handle : ℕ) → IsKind handle (is_took_on handle) is_took_note
took_kind handle = record { opened = opened; apart = apart; here = here }
  where
    opened : (note : Note) → opens_under handle note ≡ true → is_took_on handle note ≡ false
    opened (Opened other role own peer) is = refl
    opened (Up packet) is = absurd cc
    opened note is = absurd cc

    apart : (note : Note) → is_under handle note ≡ false → is_took_on handle note ≡ false
    apart (Took other number llid body) is = is
    apart (Up packet) is = refl
    apart note is = refl

    here : (note : Note) → is_under handle note ≡ true → is_took_on handle note ≡ is_took_note note
    here (Took other number llid body) is = is
    here (Up packet) is = refl
    here note is = refl

pub sent_notes_are : (setup : Setup) (past : List Step) (handle : ℕ) (link : OpenLink) → link_at handle (facts_of setup past).links ≡ Some link
    → filter (is_sent_on handle) (since_opened handle (notes_of setup past))
    ≡ numbered_notes (sent_note handle) 1 (nonempty is_empty (facts_in link).acknowledgement.sent)
sent_notes_are setup past handle link is =
    let same = handle_is 0 handle (facts_of setup past).links link (own_handles setup past).handles is in
    kind_noted handle (is_sent_on handle) is_sent_note (sent_kind handle) setup past link is same ∙ (are_numbered link.setup link.past).sent
    ∙ ap (λ n. numbered_notes (sent_note n) 1 (nonempty is_empty (facts_in link).acknowledgement.sent)) same

pub took_notes_are : (setup : Setup) (past : List Step) (handle : ℕ) (link : OpenLink) → link_at handle (facts_of setup past).links ≡ Some link
    → filter (is_took_on handle) (since_opened handle (notes_of setup past))
    ≡ numbered_notes (took_note handle) 1 (nonempty is_empty (facts_in link).acknowledgement.accepted)
took_notes_are setup past handle link is =
    let same = handle_is 0 handle (facts_of setup past).links link (own_handles setup past).handles is in
    kind_noted handle (is_took_on handle) is_took_note (took_kind handle) setup past link is same ∙ (are_numbered link.setup link.past).took
    ∙ ap (λ n. numbered_notes (took_note n) 1 (nonempty is_empty (facts_in link).acknowledgement.accepted)) same
