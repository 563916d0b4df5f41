-- How one end is to leave its link, as a turn begins and as it takes a packet.
use Rattle.std.proofs.Common.{◌≡◌, ℕ, Bool, true, false, List, [], ◌++◌, fold, map, refl, sym, ap, ◌∙◌, if◌then◌else◌}
use Rattle.std.proofs.lemmas.List.{map-append}
use Rattle.ble_base.specs.declared.notes.Note.{Note}
use Rattle.ble_base.specs.declared.roles.Side.{Side}
use Rattle.journal_controls.specs.Withheld.{Withheld, nothing_withheld}
use Rattle.journal_controls.specs.SaidLines.{moved_by}
use Rattle.journal_controls.specs.TurnSteps.{first_if, steps_begun, steps_taken}
use Rattle.journal_controls.specs.journal_links.LinkLines.{line_of}
use Rattle.journal_controls.specs.link_model.Data.{is_control}
use Rattle.journal_controls.specs.link_model.End.{facts_after, notes_after, notes_from}
use Rattle.journal_controls.specs.link_model.Facts.{Facts}
use Rattle.journal_controls.specs.link_model.Fixing.{fixed_anew}
use Rattle.journal_controls.specs.link_model.Packets.{good_pdu}
use Rattle.journal_controls.specs.link_model.Sending.{leaving_sent}
use Rattle.journal_controls.specs.link_model.Setup.{Setup}
use Rattle.journal_controls.specs.link_model.Step.{Step, EventEntered, PacketReceived, PacketSent, PduFixed}
use Rattle.journal_controls.specs.link_model.declared.state.Leaving.{Leaving}
use Rattle.journal_controls.specs.link_model.keyed_control.Keyed.{Keyed}
use Rattle.journal_controls.specs.link_model.keyed_control.declared.material.Response.{Response}
use Rattle.journal_controls.specs.Hearing.{keyed_hearing}
use Rattle.journal_leaving.specs.Hearing.{leaving_hearing}
use Rattle.journal_leaving.specs.Leaving.{leaving_sent_if}
use Rattle.journal_leaving.specs.Said.{leaving_noted, leaving_said}
use Rattle.journal_leaving.proofs.EndLeaving.{entered_leaves, entry_noted, packet_leaves, sent_leaving, sent_noted}
use Rattle.journal_leaving.proofs.LineFolds.{said_both}

module _ (side : Side) (number : ℕ) (withheld : Withheld) (response : Response) (slot : ℕ) where
  pub noted_both : (notes more : List Note) (k : Keyed) (l : Leaving)
      → leaving_noted side number withheld response slot (notes ++ more) k l
      ≡ leaving_noted side number withheld response slot more (moved_by withheld response slot (map (line_of side number) notes) k) (leaving_noted side number withheld response slot notes k l)
  noted_both notes more k l =
      ap (λ lines. leaving_said withheld response slot lines k l) (map-append (line_of side number) notes more)
      ∙ said_both withheld response slot (map (line_of side number) notes) (map (line_of side number) more) k l

  -- ---- as a turn begins

  module _ (setup : Setup) where
    abbrev GoesByLines : Bool → Facts → List Step → Type 0
    GoesByLines sends facts steps =
        (k : Keyed) → (fold (facts_after setup) facts steps).leaving ≡ leaving_sent_if sends (leaving_noted side number withheld response slot (notes_from setup facts steps) k facts.leaving)

    pub sends_by : (sends : Bool) (facts : Facts) → GoesByLines sends facts (first_if sends (PacketSent slot) [])
    sends_by false facts = λ k. refl
    sends_by true facts = λ k.
        sent_leaving slot setup facts
        ∙ ap leaving_sent (sym (noted_both (notes_after setup facts (PacketSent slot)) [] k facts.leaving ∙ sent_noted side number withheld response slot setup facts facts.leaving k))

    fixed_leaving : (stays : Bool) (facts : Facts) → (if stays then facts else fixed_anew facts).leaving ≡ facts.leaving
    fixed_leaving true facts = refl
    fixed_leaving false facts = refl

    fixes_by : (fixes sends : Bool) (facts : Facts) → GoesByLines sends facts (first_if fixes PduFixed (first_if sends (PacketSent slot) []))
    fixes_by false sends facts = sends_by sends facts
    fixes_by true sends facts = λ k.
        let next = facts_after setup facts PduFixed in
        sends_by sends next k
        ∙ ap (λ l. leaving_sent_if sends (leaving_noted side number withheld response slot (notes_from setup next (first_if sends (PacketSent slot) [])) k l)) (fixed_leaving (is_control facts.outgoing.fixed) facts)

    pub begins_by : (enters fixes sends : Bool) (facts : Facts) → GoesByLines sends facts (steps_begun enters fixes sends slot)
    begins_by false fixes sends facts = fixes_by fixes sends facts
    begins_by true fixes sends facts = λ k.
        let next = facts_after setup facts (EventEntered slot) in
        let steps = first_if fixes PduFixed (first_if sends (PacketSent slot) []) in
        let here = notes_after setup facts (EventEntered slot) in
        let later = notes_from setup next steps in
        let k_later = moved_by withheld response slot (map (line_of side number) here) k in
        fixes_by fixes sends next k_later
        ∙ ap (λ l. leaving_sent_if sends (leaving_noted side number withheld response slot later k_later l)) (entered_leaves slot setup facts)
        ∙ ap (λ l. leaving_sent_if sends (leaving_noted side number withheld response slot later k_later l)) (sym (entry_noted side number withheld response slot setup facts facts.leaving k))
        ∙ ap (leaving_sent_if sends) (sym (noted_both here later k facts.leaving))

    -- ---- as a packet is taken

    pub answers_by : (answers : Bool) (now : Facts) (k : Keyed) (l : Leaving) → now.leaving ≡ l
        → (fold (facts_after setup) now (first_if answers (PacketSent slot) [])).leaving
        ≡ leaving_sent_if answers (leaving_noted side number withheld response slot (notes_from setup now (first_if answers (PacketSent slot) [])) k l)
    answers_by answers now k l is = sends_by answers now k ∙ ap (λ one. leaving_sent_if answers (leaving_noted side number withheld response slot (notes_from setup now (first_if answers (PacketSent slot) [])) k one)) is

-- where nothing is withheld from its host
module _ (side : Side) (number : ℕ) (response : Response) (slot : ℕ) (setup : Setup) where
  abbrev noted : List Note → Keyed → Leaving → Leaving
  noted notes k l = leaving_noted side number nothing_withheld response slot notes k l

  pub taking_leaves : (octets : List ℕ) (room answers : Bool) (facts : Facts) → facts.encryption.response ≡ response → let steps = steps_taken slot octets room answers in
      let may = good_pdu setup facts octets in
      (fold (facts_after setup) facts steps).leaving
      ≡ leaving_sent_if answers (noted (notes_from setup facts steps) (keyed_hearing setup.link.role slot may facts) (leaving_hearing setup.link.role slot may facts))
  taking_leaves octets room answers facts drawn =
      let now = facts_after setup facts (PacketReceived slot octets room) in
      let here = notes_after setup facts (PacketReceived slot octets room) in
      let later = notes_from setup now (first_if answers (PacketSent slot) []) in
      let may = good_pdu setup facts octets in
      let k = keyed_hearing setup.link.role slot may facts in
      let l = leaving_hearing setup.link.role slot may facts in
      answers_by side number nothing_withheld response slot setup answers now (moved_by nothing_withheld response slot (map (line_of side number) here) k) (noted here k l)
      (packet_leaves side number slot room setup facts octets ∙ ap (λ r. leaving_noted side number nothing_withheld r slot here k l) drawn)
      ∙ ap (leaving_sent_if answers) (sym (noted_both side number nothing_withheld response slot here later k l))
