-- A peripheral that took LL_TERMINATE_IND takes no control PDU of the link after it.
use Rattle.std.proofs.Common.{◌≡◌, ℕ, true, false, Some, List, ◌∷◌, ◌++◌, refl, sym, ap, ◌∙◌}
use Rattle.ble_base.specs.Side.{other_side}
use Rattle.ble_base.specs.declared.notes.Note.{Note}
use Rattle.ble_base.specs.declared.notes.Note.TheVariants.{Took as TookNote}
use Rattle.ble_base.specs.declared.roles.Role.TheVariants.{Peripheral}
use Rattle.ble_base.specs.declared.roles.Side.{Side}
use Rattle.data_pdu.specs.Reading.{ctrl_of}
use Rattle.data_pdu.specs.declared.ctrl.Ctrl.TheVariants.{TerminateInd}
use Rattle.data_pdu.specs.declared.ctrl.CtrlRead.TheVariants.{Known}
use Rattle.journal.specs.declared.entries.Entry.{Entry}
use Rattle.journal.specs.declared.entries.Entry.TheVariants.{Took}
use Rattle.journal_collisions.specs.Collisions.{IsTermination}
use Rattle.journal_collisions.specs.journal_endings.controller_model.Heard.{has_room}
use Rattle.journal_collisions.specs.journal_endings.controller_model.Links.{note_opened}
use Rattle.journal_collisions.specs.journal_endings.controller_model.Since.{notes_opened_on}
use Rattle.journal_collisions.specs.journal_links.Begun.{LinkBegun, link_numbered}
use Rattle.journal_collisions.specs.journal_links.LinkLines.{lines_of}
use Rattle.journal_collisions.specs.journal_data.Followed.{Follows, Mixed}
use Rattle.journal_collisions.specs.journal_data.link_model.End.{facts_of, notes_of}
use Rattle.journal_collisions.specs.journal_data.link_model.Packets.{good_pdu}
use Rattle.journal_collisions.specs.journal_data.link_model.Setup.{Setup}
use Rattle.journal_collisions.specs.journal_data.link_model.Step.{Step}
use Rattle.journal_collisions.specs.journal_data.run_model.Journal.{journal_of}
use Rattle.journal_collisions.specs.journal_data.run_model.LinkEnds.{HaveAddresses}
use Rattle.journal_collisions.specs.journal_data.run_model.NoteLines.{IsLineInCall, took_line}
use Rattle.journal_collisions.specs.journal_data.run_model.Run.{Given, facts_at, history_of, run_of, setup_at}
use Rattle.journal_collisions.specs.journal_data.open_links.OpenLinks.{facts_in}
use Rattle.journal_collisions.specs.link_pairs.Ends.{is_lasting}
use Rattle.journal_collisions.proofs.RefusedLines.{far_peripheral, is_control, line_here}
use Rattle.journal_collisions.proofs.journal_endings.journal_indications.InTime.{role_of_end}
use Rattle.journal_collisions.proofs.journal_endings.journal_indications.LineEnds.{IsEndOfLine}
use Rattle.journal_collisions.proofs.journal_endings.journal_indications.Receptions.{IsReception}
use Rattle.journal_collisions.proofs.journal_endings.journal_indications.journal_data.journal_acks.TwoStations.{IsOfTwo}
use Rattle.journal_collisions.proofs.journal_endings.journal_indications.journal_data.journal_links.LinkLines.{lines_append}
use Rattle.journal_collisions.proofs.journal_endings.journal_indications.journal_data.journal_links.LinksBegun.{number_stays}
use Rattle.journal_collisions.proofs.journal_endings.journal_indications.journal_data.journal_packets.AccessOrder.{AreNth}
use Rattle.journal_collisions.proofs.journal_endings.journal_indications.journal_data.link_model.Hearing.{IsHeardWhole}
use Rattle.journal_collisions.proofs.journal_endings.journal_indications.journal_data.run_laws.DistinctAccess.{AreApart}
use Rattle.journal_collisions.proofs.journal_endings.journal_indications.journal_data.run_model.LinkEnds.{AreTaken, IsUnderstood}
use Rattle.journal_collisions.proofs.journal_endings.journal_indications.journal_data.run_model.NoteLines.{line_in_call}
use Rattle.journal_crossing.specs.Crossing.{IsKnownControl, NoneIsTakenAfterTermination}
use Rattle.journal_crossing.proofs.EndLines.{IsOfEither, IsTookAt, OfFirst, OfSecond, of_either, took_at}
use Rattle.journal_crossing.proofs.OneTaken.{none_before, opened_none, received_tooks, same_tooks}
use Rattle.journal_crossing.proofs.TakingCalls.{AreKnownInRuns, heard, lasts_here, lines_are, of}

-- an end that noted that it took LL_TERMINATE_IND does not last
abbrev pub AreOverAfterTermination : Type 0
AreOverAfterTermination = (setup : Setup) (past : List Step) (start later : List Note) (handle count : ℕ) (body : List ℕ) (code : ℕ)
    → notes_of setup past ≡ start ++ TookNote handle count 3 (record { items = body }) ∷ later
    → ctrl_of body ≡ Known (TerminateInd code)
    → is_lasting (facts_of setup past) ≡ false

-- ---- in each run

module _ (whole_heard : IsHeardWhole) (understood : IsUnderstood) (taken : AreTaken) (nth : AreNth) (apart : AreApart) (given : Given)
    (are_pair : IsOfTwo given) (six : HaveAddresses given) (mixed : Mixed) (follows : Follows given mixed) (known : AreKnownInRuns) (over : AreOverAfterTermination) where
  module _ (before between : List Entry) (link : LinkBegun) (number count llid later_count later_llid : ℕ) (body later : List ℕ)
      (unmixed : mixed number (before ++ Took (other_side link.central) number count llid body ∷ between) ≡ false)
      (is_link : link_numbered number before ≡ Some link) (ends : IsTermination llid body) (control : IsKnownControl later_llid later)
      (call : IsLineInCall given (before ++ Took (other_side link.central) number count llid body ∷ between)
      (took_line (other_side link.central) number later_count later_llid later)) where
    abbrev side : Side
    side = other_side link.central

    abbrev took : Entry
    took = Took (other_side link.central) number count llid body

    abbrev front : List Entry
    front = before ++ Took (other_side link.central) number count llid body ∷ between

    abbrev reception : IsReception (setup_at given call.station) (facts_at given call.station call.base) call.step call.earlier call.handle later_count
        later_llid (record { items = later })
    reception = heard whole_heard understood taken nth apart given are_pair six front side number later_count later_llid later call

    here : IsEndOfLine given front (took_line (other_side link.central) number later_count later_llid later) call reception.link
    here = of whole_heard understood taken nth apart given are_pair six front side number later_count later_llid later call

    role : reception.link.setup.link.role ≡ Peripheral
    role =
        sym (role_of_end link here.link_begun reception.link.setup.link.role side
        (sym here.is_link ∙ number_stays number before (took ∷ between) link is_link) here.central_is)
        ∙ far_peripheral link.central

    lasts : is_lasting (facts_of reception.link.setup reception.link.past) ≡ true
    lasts =
        let ctrl = is_control later_llid later (Known control.ctrl) control.is in
        lasts_here whole_heard understood taken nth apart given are_pair six front side number later_count later_llid later call mixed follows unmixed known ctrl.llid_is control
        ctrl.is role

    -- the note of the termination
    lines : lines_of side number front ≡ lines_of side number before ++ took ∷ lines_of side number between
    lines = lines_append side number before (took ∷ between)
        ∙ ap (λ xs. lines_of side number before ++ xs) (line_here side number took between refl)

    noted : IsTookAt (notes_opened_on reception.link.setup reception.link.past ++ call.earlier) count llid body
    noted =
        took_at side number (notes_opened_on reception.link.setup reception.link.past ++ call.earlier) (lines_of side number before)
        (lines_of side number between) count llid body
        (sym (lines_are whole_heard understood taken nth apart given are_pair six front side number later_count later_llid later call) ∙ lines)

    -- it is of a packet before
    by_place : IsOfEither (notes_opened_on reception.link.setup reception.link.past) call.earlier noted.first
        (TookNote noted.handle count llid (record { items = body })) → ⊥
    by_place (OfFirst more is) =
        let ctrl = is_control llid body (Known (TerminateInd ends.code)) ends.is in
        opened_none ⊥ (note_opened reception.link.setup.link) (notes_of reception.link.setup reception.link.past) noted.first more noted.handle count llid body refl is
        (λ start is_noted. let h : true ≡ false = sym lasts
        ∙ over reception.link.setup reception.link.past start more noted.handle count body ends.code
        (is_noted ∙ ap (λ n. start ++ TookNote noted.handle count n (record { items = body }) ∷ more) ctrl.llid_is) ctrl.is in absurd cc)
    by_place (OfSecond first more is) =
        none_before first more reception.rest noted.handle count llid call.handle later_count later_llid body later
        (same_tooks _ _ (reception.notes_are ∙ ap (λ xs. xs ++ TookNote call.handle later_count later_llid (record { items = later }) ∷ reception.rest) is)
        (received_tooks reception.link.setup (facts_at given call.station call.base).turn.slot
        (has_room (setup_at given call.station) (facts_at given call.station call.base))
        (good_pdu reception.link.setup (facts_in reception.link) reception.octets) (facts_in reception.link)))

    none_taken : ⊥
    none_taken = by_place (of_either (notes_opened_on reception.link.setup reception.link.past) call.earlier noted.first noted.later
        (TookNote noted.handle count llid (record { items = body })) noted.is)

  pub none_after : NoneIsTakenAfterTermination mixed (journal_of (history_of (run_of given)))
  none_after before between rest link number count llid later_count later_llid body later is unmixed is_link ends control =
      let side = other_side link.central in
      none_taken before between link number count llid later_count later_llid body later unmixed is_link ends control
      (line_in_call given (before ++ Took side number count llid body ∷ between) rest (Took side number later_count later_llid later)
      (took_line side number later_count later_llid later) refl is)
