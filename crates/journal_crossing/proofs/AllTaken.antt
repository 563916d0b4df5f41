-- Where a side takes a control PDU, the other side has taken each control PDU that this side sent before.
use Rattle.std.proofs.Common.{◌≡◌, ℕ, ◌+◌, ◌≤◌, true, false, List, ◌∷◌, ◌++◌, length, refl, sym, ap, ◌∙◌, arith}
use Rattle.std.specs.List.{filter}
use Rattle.std.proofs.lemmas.List.Elements.{filter-append}
use Rattle.ack_bit.specs.Nonempty.{nonempty}
use Rattle.ble_base.specs.Side.{other_side}
use Rattle.ble_base.specs.declared.roles.Side.{Side}
use Rattle.journal.specs.declared.entries.Entry.{Entry}
use Rattle.journal.specs.declared.entries.Entry.TheVariants.{Sent, Took}
use Rattle.journal_collisions.specs.Collisions.{is_sent}
use Rattle.journal_collisions.specs.journal_links.LinkLines.{lines_of}
use Rattle.journal_collisions.specs.journal_data.Followed.{Follows, Mixed}
use Rattle.journal_collisions.specs.journal_data.link_model.Data.{is_empty}
use Rattle.journal_collisions.specs.journal_data.open_links.OpenLinks.{OpenLink, facts_in}
use Rattle.journal_collisions.specs.journal_data.run_model.Journal.{journal_of}
use Rattle.journal_collisions.specs.journal_data.run_model.LinkEnds.{HaveAddresses}
use Rattle.journal_collisions.specs.journal_data.run_model.NoteLines.{IsLineInCall, took_line}
use Rattle.journal_collisions.specs.journal_data.run_model.Run.{Given, history_of, run_of}
use Rattle.journal_collisions.proofs.RefusedLines.{is_control, line_here}
use Rattle.journal_collisions.proofs.journal_endings.journal_indications.journal_data.journal_acks.TwoStations.{IsOfTwo}
use Rattle.journal_collisions.proofs.journal_endings.journal_indications.journal_data.journal_links.LinkLines.{lines_append}
use Rattle.journal_collisions.proofs.journal_endings.journal_indications.journal_data.journal_packets.AccessOrder.{AreNth}
use Rattle.journal_collisions.proofs.journal_endings.journal_indications.journal_data.link_model.Hearing.{IsHeardWhole}
use Rattle.journal_collisions.proofs.journal_endings.journal_indications.journal_data.run_laws.DistinctAccess.{AreApart}
use Rattle.journal_collisions.proofs.journal_endings.journal_indications.journal_data.run_model.LinkEnds.{AreTaken, IsUnderstood}
use Rattle.journal_collisions.proofs.journal_endings.journal_indications.journal_data.run_model.NoteLines.{line_in_call}
use Rattle.data_pdu.specs.declared.ctrl.CtrlRead.TheVariants.{Known}
use Rattle.journal_crossing.specs.Crossing.{AllControlsAreTaken, IsKnownControl, count_sent, count_taken}
use Rattle.journal_crossing.proofs.CountedLines.{counted, is_taken}
use Rattle.journal_crossing.proofs.EndLines.{IsSentAt, sent_at, sent_lines, taken_lines}
use Rattle.journal_crossing.proofs.TakenPdus.{control_taken}
use Rattle.journal_crossing.proofs.TakingCalls.{AreKnownInRuns, IsTakenThere, far, far_lines, heard, lines_are, none_sent, taken_there}

module _ (whole_heard : IsHeardWhole) (understood : IsUnderstood) (taken : AreTaken) (nth : AreNth) (apart : AreApart) (given : Given)
    (are_pair : IsOfTwo given) (six : HaveAddresses given) (mixed : Mixed) (follows : Follows given mixed) (known : AreKnownInRuns) where
  module _ (before between : List Entry) (side : Side) (number sent_count count llid : ℕ) (sent_body body : List ℕ)
      (call : IsLineInCall given (before ++ Sent side number sent_count 3 sent_body ∷ between) (took_line side number count llid body))
      (unmixed : mixed number (before ++ Sent side number sent_count 3 sent_body ∷ between) ≡ false) (control : IsKnownControl llid body) where
    abbrev sent : Entry
    sent = Sent side number sent_count 3 sent_body

    abbrev front : List Entry
    front = before ++ Sent side number sent_count 3 sent_body ∷ between

    there : IsTakenThere whole_heard understood taken nth apart given are_pair six front side number count llid body call mixed follows unmixed known
        (is_control llid body (Known control.ctrl) control.is).llid_is control (is_control llid body (Known control.ctrl) control.is).is
    there =
        taken_there whole_heard understood taken nth apart given are_pair six front side number count llid body call mixed follows unmixed known
        (is_control llid body (Known control.ctrl) control.is).llid_is control (is_control llid body (Known control.ctrl) control.is).is

    abbrev own_end : OpenLink
    own_end = (heard whole_heard understood taken nth apart given are_pair six front side number count llid body call).link

    abbrev far_end : OpenLink
    far_end = (far whole_heard understood taken nth apart given are_pair six front side number count llid body call).far

    -- the lines of the side that say what it sent
    sents : filter is_sent (lines_of side number front)
        ≡ filter is_sent (lines_of side number before) ++ sent ∷ filter is_sent (lines_of side number between)
    sents =
        ap (filter is_sent) (lines_append side number before (sent ∷ between)
        ∙ ap (λ xs. lines_of side number before ++ xs) (line_here side number sent between refl))
        ∙ filter-append is_sent (lines_of side number before) (sent ∷ lines_of side number between)

    pdu : IsSentAt (nonempty is_empty (facts_in own_end).acknowledgement.sent) (filter is_sent (lines_of side number before)) 3 sent_body
    pdu =
        sent_at side number own_end.setup.link.handle 1 (nonempty is_empty (facts_in own_end).acknowledgement.sent)
        (filter is_sent (lines_of side number before)) (filter is_sent (lines_of side number between)) sent_count 3 sent_body
        (sym (sent_lines side number own_end.setup own_end.past call.earlier
        (none_sent whole_heard understood taken nth apart given are_pair six front side number count llid body call))
        ∙ ap (filter is_sent) (sym (lines_are whole_heard understood taken nth apart given are_pair six front side number count llid body call)) ∙ sents)

    taken_count : count_taken number (other_side side) front ≡ length (nonempty is_empty (facts_in far_end).acknowledgement.accepted)
    taken_count =
        counted false (other_side side) number front
        ∙ ap (λ lines. length (filter is_taken lines))
        (far_lines whole_heard understood taken nth apart given are_pair six front side number count llid body call)
        ∙ taken_lines (other_side side) number far_end.setup far_end.past

    is_taken_there : count_sent number side before + 1 ≤ count_taken number (other_side side) front
    is_taken_there =
        let ours = counted true side number before in
        let theirs = taken_count in
        let place = pdu.count in
        let all = control_taken (facts_in own_end).acknowledgement (facts_in far_end).acknowledgement pdu.before sent_body there.agree there.last
        pdu.after pdu.is in omega (arith, ours, theirs, place, all)

  pub all_taken : AllControlsAreTaken mixed (journal_of (history_of (run_of given)))
  all_taken before between rest link side number sent_count count llid sent_body body is unmixed is_link control =
      is_taken_there before between side number sent_count count llid sent_body body
      (line_in_call given (before ++ Sent side number sent_count 3 sent_body ∷ between) rest (Took side number count llid body)
      (took_line side number count llid body) refl is) unmixed control
