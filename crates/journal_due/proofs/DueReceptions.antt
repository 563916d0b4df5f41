-- The lines of an end that takes a packet come where they are due.
use Rattle.std.proofs.Common.{◌≡◌, ℕ, ◌+◌, ◌&&◌, not, Bool, true, false, Option, Some, None, List, [], ◌∷◌, ◌++◌, map, refl, sym, ap, subst, ◌∙◌}
use Rattle.std.specs.Prelude.{if◌then◌else◌}
use Rattle.std.proofs.lemmas.List.{map-append}
use Rattle.ble_base.specs.declared.error_codes.ErrCode.{ErrCode}
use Rattle.ble_base.specs.declared.notes.Note.{Note}
use Rattle.ble_base.specs.declared.procedure_kinds.Kind.{Kind}
use Rattle.ble_base.specs.declared.roles.Side.{Side}
use Rattle.data_pdu.specs.Header.{header_in}
use Rattle.journal.specs.declared.entries.Entry.{Entry}
use Rattle.journal.specs.declared.entries.Entry.TheVariants.{Took}
use Rattle.journal_controls.specs.journal_ends.Asked.{Words}
use Rattle.journal_controls.specs.journal_links.LinkLines.{line_of}
use Rattle.journal_controls.specs.link_model.Acknowledgement.{Pdu}
use Rattle.journal_controls.specs.link_model.Controls.{is_procedure_pdu, read_of}
use Rattle.journal_controls.specs.link_model.Data.{is_control, is_empty, numbered}
use Rattle.journal_controls.specs.link_model.End.{notes_after}
use Rattle.journal_controls.specs.link_model.Entering.{done_notes}
use Rattle.journal_controls.specs.link_model.Facts.{Facts, keyed_of}
use Rattle.journal_controls.specs.link_model.Packets.{good_pdu}
use Rattle.journal_controls.specs.link_model.Receiving.{accepts, acked_kind, acks_control, facts_before_taking, given_if, given_notes, has_acknowledged, kept_given_if, received_notes, refused_notes, taken_notes, took_notes_if}
use Rattle.journal_controls.specs.link_model.Setup.{Setup}
use Rattle.journal_controls.specs.link_model.Step.{PacketReceived}
use Rattle.journal_controls.specs.link_model.Verdicts.{pdu_of}
use Rattle.journal_controls.specs.link_model.control_end.Answers.{done_by_acknowledgement}
use Rattle.journal_controls.specs.link_model.control_end.Held.{held_of}
use Rattle.journal_controls.specs.link_model.control_end.declared.answers.Taken.{Taken}
use Rattle.journal_controls.specs.link_model.keyed_control.Keyed.{Keyed}
use Rattle.journal_controls.specs.link_model.keyed_control.declared.material.Response.{Response}
use Rattle.journal_controls.specs.link_model.phased_end.Held.{held_of as keyed_held}
use Rattle.journal_controls.specs.link_model.phased_end.declared.taking.TakenKeyed.{TakenKeyed}
use Rattle.journal_controls.specs.KeyedLines.{given_by}
use Rattle.journal_controls.specs.LineSteps.{keyed_in_line, keyed_on, moved_in_line, turn_now}
use Rattle.journal_controls.specs.LinesDue.{due_hearing, due_taking, notes_given}
use Rattle.journal_controls.proofs.LineFolds.{keyed_more}
use Rattle.journal_due.specs.EachLine.{IsDueOn}
use Rattle.journal_due.specs.ProcedureLines.{RestsAt, first_of}
use Rattle.journal_due.proofs.DueEntries.{AreAllTold, line_then, no_lines, told_both}
use Rattle.journal_due.proofs.DueLines.{said_due}
use Rattle.journal_due.proofs.DueSteps.{AreProcedureLines, IsOwnLine, after_own, done_lines, each_told, on_rests, seen_own, taking_lines, turn_stays}
use Rattle.journal_controls.proofs.GivenAlike.{gives_alike}

module _ (words : Words) (side : Side) (number : ℕ) where
  took_own : (count llid : ℕ) (body : List ℕ) → IsOwnLine side number (Took side number count llid body)
  took_own count llid body = record { named = refl; deaf = λ other front. refl; unaccepted = λ front. refl; own = refl; no_turn = refl }

  -- ---- the handle of a note is not in its line

  same_done : (handle : ℕ) (done : Option Kind) → map (line_of side number) (done_notes number done) ≡ map (line_of side number) (done_notes handle done)
  same_done handle None = refl
  same_done handle (Some kind) = refl

  abbrev lines_given : ℕ → Option (Kind × ErrCode) → Option Kind → List Entry
  lines_given handle refused done = map (line_of side number) (refused_notes handle refused ++ done_notes handle done)

  same_both : (handle : ℕ) (refused : Option (Kind × ErrCode)) (done : Option Kind) → lines_given number refused done ≡ lines_given handle refused done
  same_both handle None None = refl
  same_both handle None (Some kind) = refl
  same_both handle (Some (kind, code)) None = refl
  same_both handle (Some (kind, code)) (Some other) = refl

  same_given : (handle : ℕ) (given : Taken) → map (line_of side number) (given_notes number given) ≡ map (line_of side number) (given_notes handle given)
  same_given handle given = same_both handle given.refused given.done

  -- ---- a PDU is taken

  -- the line of the PDU, and those that are due then
  pub took_told : (front : List Entry) (k : Keyed) (count llid : ℕ) (body : List ℕ) → keyed_on words side number front ≡ Some k → RestsAt words side front
      → AreAllTold words side front
      (Took side number count llid body ∷ due_taking side number (words side front) (turn_now front) (record { llid = llid; body = body }) k)
  took_told front k count llid body is rests =
      let line = Took side number count llid body in
      let pdu : Pdu = record { llid = llid; body = body } in
      let due = due_taking side number (words side front) (turn_now front) pdu k in
      let own = took_own count llid body in
      let moved : keyed_on words side number (front ++ line ∷ []) ≡ Some (moved_in_line words side number front line k) =
      keyed_more words side number front line ∙ ap (λ before. keyed_in_line words side number front before line) is in
      let on = after_own words side number front due line own (λ other apart. rests.procedures other) (said_due words side number front line k is (seen_own words side number front line own)) refl in
      let rest = each_told words side number (front ++ line ∷ []) due (moved_in_line words side number front line k) (lines_taking (given_by (words side front) (turn_now front) k pdu) (is_procedure_pdu pdu)) moved on in
      line_then words side front due line (λ mine. record { procedures = λ other. ap first_of (sym (rests.procedures other)); indication = rests.indication }, tt)
      (turn_stays front line refl) (record { each = rest.each; left = on_rests words side number _ rest.left; turn_is = rest.turn_is })
    where
      lines_taking : (given : TakenKeyed) (is : Bool) → AreProcedureLines words side number (if is then map (line_of side number) (notes_given number given) else [])
      lines_taking given true = taking_lines words side number number given
      lines_taking given false = tt

  same_taken : (handle : ℕ) (given : TakenKeyed) → map (line_of side number) (notes_given number given) ≡ map (line_of side number) (notes_given handle given)
  same_taken handle given =
      map-append (line_of side number) (given_notes number given.taken) (given_notes number given.kept)
      ∙ (λ i. same_given handle given.taken i ++ same_given handle given.kept i)
      ∙ sym (map-append (line_of side number) (given_notes handle given.taken) (given_notes handle given.kept))

  -- what a PDU gives
  abbrev notes_if : ℕ → Bool → Pdu → ℕ → Facts → List Note
  notes_if handle takes pdu slot facts = given_notes handle (given_if takes pdu slot facts) ++ given_notes handle (kept_given_if takes pdu slot facts)

  taking_is : (response : Response) (handle slot : ℕ) (takes : Bool) (pdu : Pdu) (facts : Facts) → is_procedure_pdu pdu ≡ takes
      → due_taking side number response slot pdu (keyed_of facts) ≡ map (line_of side number) (notes_if handle takes pdu slot facts)
  taking_is response handle slot true pdu facts is =
      let given = given_by response slot (keyed_of facts) pdu in
      ap (λ b. if b then map (line_of side number) (notes_given number given) else []) is ∙ same_taken handle given
      ∙ ap (λ g. map (line_of side number) (notes_given handle g)) (gives_alike slot response facts.encryption.response (read_of pdu) (keyed_held (keyed_of facts)))
  taking_is response handle slot false pdu facts is =
      ap (λ b. if b then map (line_of side number) (notes_given number (given_by response slot (keyed_of facts) pdu)) else []) is

  -- a PDU that is accepted, or is not
  noted_told : (front : List Entry) (handle : ℕ) (noted takes : Bool) (pdu : Pdu) (facts : Facts) → keyed_on words side number front ≡ Some (keyed_of facts) → RestsAt words side front
      → (noted ≡ false → takes ≡ false) → (noted ≡ true → is_procedure_pdu pdu ≡ takes)
      → AreAllTold words side front (map (line_of side number) (took_notes_if noted handle pdu facts ++ notes_if handle takes pdu (turn_now front) facts))
  noted_told front handle false false pdu facts is rests none some = no_lines words side front rests
  noted_told front handle false true pdu facts is rests none some = absurd (let h : true ≡ false = none refl in absurd cc)
  noted_told front handle true takes pdu facts is rests none some =
      let count = numbered facts.acknowledgement.accepted + 1 in
      subst (λ xs. AreAllTold words side front (Took side number count pdu.llid pdu.body ∷ xs)) (taking_is (words side front) handle (turn_now front) takes pdu facts (some refl))
      (took_told front (keyed_of facts) count pdu.llid pdu.body is rests)

  taken_told : (front : List Entry) (handle : ℕ) (accepted : Bool) (pdu : Pdu) (facts : Facts) → keyed_on words side number front ≡ Some (keyed_of facts) → RestsAt words side front
      → AreAllTold words side front (map (line_of side number) (taken_notes handle accepted pdu (turn_now front) facts))
  taken_told front handle accepted pdu facts is rests =
      noted_told front handle (accepted && not (is_empty pdu)) (accepted && is_procedure_pdu pdu) pdu facts is rests
      (none_taken accepted (is_empty pdu) (is_control pdu)) (all_taken accepted (is_empty pdu) (is_control pdu))
    where
      none_taken : (accepted empty control : Bool) → (accepted && not empty) ≡ false → (accepted && (control && not empty)) ≡ false
      none_taken false empty control is = refl
      none_taken true true true is = refl
      none_taken true true false is = refl
      none_taken true false control is = absurd cc

      all_taken : (accepted empty control : Bool) → (accepted && not empty) ≡ true → (control && not empty) ≡ (accepted && (control && not empty))
      all_taken true empty control is = refl
      all_taken false empty control is = absurd cc

  -- ---- a good packet is heard

  hearing_is : (handle : ℕ) (acks : Bool) (facts : Facts) → due_hearing side number acks facts.control ≡ map (line_of side number) (done_notes handle (acked_kind acks facts))
  hearing_is handle true facts = same_done handle (done_by_acknowledgement (held_of facts.control))
  hearing_is handle false facts = refl

  heard_told : (front : List Entry) (setup : Setup) (facts : Facts) (octets : List ℕ) (room : Bool) (slot : ℕ) → turn_now front ≡ slot
      → keyed_on words side number front ≡ Some (keyed_of (facts_before_taking setup.link.role slot (header_in octets) facts))
      → IsDueOn words side number (due_hearing side number (acks_control (has_acknowledged facts (header_in octets)) facts) facts.control) front
      → AreAllTold words side front (map (line_of side number) (received_notes setup slot room (Some octets) facts))
  heard_told front setup facts octets room slot turn is on =
      let header = header_in octets in
      let handle = setup.link.handle in
      let pdu = pdu_of octets in
      let now = facts_before_taking setup.link.role slot header facts in
      let acks = acks_control (has_acknowledged facts header) facts in
      let done = done_notes handle (acked_kind acks facts) in
      let taken = taken_notes handle (accepts room header pdu now) pdu slot now in
      let first = each_told words side number front (map (line_of side number) done) (keyed_of now) (done_lines words side number handle (acked_kind acks facts)) is
      (subst (λ xs. IsDueOn words side number xs front) (hearing_is handle acks facts) on) in
      let next = front ++ map (line_of side number) done in
      subst (λ xs. AreAllTold words side front xs) (sym (map-append (line_of side number) done taken))
      (told_both words side front (map (line_of side number) done) (map (line_of side number) taken)
      (record { each = first.each; left = on_rests words side number next first.left; turn_is = first.turn_is })
      (subst (λ one. AreAllTold words side next (map (line_of side number) (taken_notes handle (accepts room header pdu now) pdu one now))) (first.turn_is ∙ turn)
      (taken_told next handle (accepts room header pdu now) pdu now first.keyed_is (on_rests words side number next first.left))))

  -- an end takes a packet
  pub receiving_told : (front : List Entry) (setup : Setup) (facts : Facts) (octets pdu : List ℕ) (room : Bool) (slot : ℕ) → turn_now front ≡ slot
      → good_pdu setup facts octets ≡ Some pdu
      → keyed_on words side number front ≡ Some (keyed_of (facts_before_taking setup.link.role slot (header_in pdu) facts))
      → IsDueOn words side number (due_hearing side number (acks_control (has_acknowledged facts (header_in pdu)) facts) facts.control) front
      → AreAllTold words side front (map (line_of side number) (notes_after setup facts (PacketReceived slot octets room)))
  receiving_told front setup facts octets pdu room slot turn good is on =
      subst (λ one. AreAllTold words side front (map (line_of side number) (received_notes setup slot room one facts))) (sym good) (heard_told front setup facts pdu room slot turn is on)
