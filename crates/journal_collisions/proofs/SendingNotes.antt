-- The notes of a link up to the note of a PDU that is sent as a turn begins are those of its end as it has entered its event.
use Rattle.std.proofs.Common.{◌≡◌, ℕ, Some, List, [], ◌∷◌, ◌++◌, fold, cond, refl, sym, ap, ◌∙◌, append-nil}
use Rattle.std.proofs.lemmas.Bool.{eq-eqb}
use Rattle.std.proofs.lemmas.List.Sums.{fold-append}
use Rattle.ble_base.specs.declared.notes.Note.{Note}
use Rattle.ble_base.specs.declared.notes.Note.TheVariants.{Sent}
use Rattle.journal_endings.specs.controller_model.Facts.{Facts, Setup}
use Rattle.journal_endings.specs.controller_model.Side.{facts_of, notes_after, notes_of}
use Rattle.journal_endings.specs.controller_model.Links.{note_opened}
use Rattle.journal_endings.specs.controller_model.Since.{note_under, notes_opened_on, notes_under}
use Rattle.journal_endings.specs.controller_model.Step.{Step}
use Rattle.journal_endings.proofs.controller_model.Pasts.{facts_more, notes_more}
use Rattle.journal_endings.proofs.controller_model.UnderNotes.{open_noted}
use Rattle.journal_endings.specs.journal_indications.journal_data.link_model.End.{facts_of as end_facts_of}
use Rattle.journal_endings.specs.journal_indications.journal_data.link_model.Sending.{sent_notes}
use Rattle.journal_endings.specs.journal_indications.journal_data.link_model.Step.{Step as EndStep, PacketSent, PduFixed}
use Rattle.journal_endings.specs.journal_indications.journal_data.open_links.OpenLinks.{OpenLink, link_after, link_at}
use Rattle.journal_endings.specs.journal_indications.journal_data.open_links.Turns.{link_entered}
use Rattle.journal_endings.proofs.journal_indications.journal_data.link_model.Pasts.{notes_grow}
use Rattle.journal_collisions.proofs.SentCalls.{IsSentAtBegin}

one_left : (X : Type 0) (notes : List Note) (note : Note) → [] ≡ notes ++ note ∷ [] → X
one_left X [] note is = absurd cc
one_left X (first ∷ notes) note is = absurd cc

-- what comes before the last of them
before_last : (one other : List Note) (note : Note) → one ++ note ∷ [] ≡ other ++ note ∷ [] → one ≡ other
before_last [] [] note is = refl
before_last [] (first ∷ other) note is = let rest : [] ≡ other ++ note ∷ [] = cc in one_left _ other note rest
before_last (first ∷ one) [] note is = let rest : one ++ note ∷ [] ≡ [] = cc in one_left _ one note (sym rest)
before_last (first ∷ one) (second ∷ other) note is =
    let head : first ≡ second = cc in
    let rest : one ++ note ∷ [] ≡ other ++ note ∷ [] = cc in
    λ i. head i ∷ before_last one other note rest i

module _ (setup : Setup) (past : List Step) (step : Step) (handle count llid : ℕ) (body : List ℕ) (earlier later : List Note) (link : OpenLink)
    (is_open : link_at handle (facts_of setup past).links ≡ Some link)
    (notes_are : notes_after setup (facts_of setup past) step ≡ earlier ++ Sent handle count llid (record { items = body }) ∷ later)
    (begins : IsSentAtBegin setup (facts_of setup past) later step handle count llid body link) where
  abbrev note : Note
  note = Sent handle count llid (record { items = body })

  abbrev facts : Facts
  facts = facts_of setup past

  abbrev known : List Note
  known = notes_opened_on link.setup link.past

  abbrev entered : List EndStep
  entered = (link_entered begins.slot link).past

  abbrev after : OpenLink
  after = link_after (PacketSent begins.sent_slot) begins.base

  open_then : link_at handle (facts_of setup (past ++ step ∷ [])).links ≡ Some after
  open_then = ap (λ (f : Facts). link_at handle f.links) (facts_more setup past step) ∙ begins.then_open

  noted_last : (notes : List Note) → note_under handle notes note ≡ notes ++ note ∷ []
  noted_last notes = λ i. cond (eq-eqb handle handle refl i) (notes ++ note ∷ []) notes

  left : notes_under handle (notes_of setup (past ++ step ∷ [])) ≡ fold (note_under handle) known earlier ++ note ∷ []
  left =
      ap (notes_under handle) (notes_more setup past step)
      ∙ fold-append (note_under handle) [] (notes_of setup past) (notes_after setup facts step)
      ∙ ap (λ (xs : List Note). fold (note_under handle) xs (notes_after setup facts step)) (open_noted handle setup past link is_open)
      ∙ ap (fold (note_under handle) known) (notes_are ∙ ap (λ (xs : List Note). earlier ++ note ∷ xs) begins.last)
      ∙ fold-append (note_under handle) known earlier (note ∷ [])
      ∙ noted_last (fold (note_under handle) known earlier)

  sent_then : sent_notes link.setup (end_facts_of link.setup (entered ++ PduFixed ∷ [])) ≡ note ∷ []
  sent_then = sym (λ i. sent_notes (begins.setup_is i) (end_facts_of (begins.setup_is i) (begins.past_is i))) ∙ begins.notes

  right : notes_opened_on after.setup after.past ≡ notes_opened_on link.setup entered ++ note ∷ []
  right =
      (λ i. notes_opened_on (begins.setup_is i) (begins.past_is i ++ PacketSent begins.sent_slot ∷ []))
      ∙ ap (λ (xs : List Note). note_opened link.setup.link ∷ xs)
      (notes_grow link.setup (entered ++ PduFixed ∷ []) (PacketSent begins.sent_slot)
      ∙ (λ i. (notes_grow link.setup entered PduFixed ∙ append-nil _) i ++ sent_then i))

  pub said : fold (note_under handle) (notes_opened_on link.setup link.past) earlier ≡ notes_opened_on link.setup (link_entered begins.slot link).past
  said =
      before_last (fold (note_under handle) known earlier) (notes_opened_on link.setup entered) note
      (sym left ∙ open_noted handle setup (past ++ step ∷ []) after open_then ∙ right)
