-- The payload that an open end keeps is that of the last line of a new PDU of it, while that is not acknowledged.
use Rattle.std.proofs.Common.{◌≡◌, ℕ, ◌+◌, ◌≤◌, ◌==◌, Bool, true, false, Option, Some, None, List, [], ◌∷◌, ◌++◌, length, map, refl, sym, ap, subst, ◌∙◌, append_assoc, arith, if◌then◌else◌}
use Rattle.std.proofs.lemmas.Bool.{eqb-true}
use Rattle.std.proofs.lemmas.List.{nil_from_length}
use Rattle.ble_base.specs.declared.notes.Note.{Note}
use Rattle.ble_base.specs.declared.roles.Side.{Side}
use Rattle.journal.specs.declared.entries.Entry.{Entry}
use Rattle.journal.specs.declared.entries.Entry.TheVariants.{Sent}
use Rattle.journal_controls.specs.LineSteps.{keyed_on}
use Rattle.journal_controls.specs.TurnSteps.{first_if}
use Rattle.journal_controls.specs.controller_model.Side.{notes_after}
use Rattle.journal_controls.specs.controller_model.Since.{notes_opened_on}
use Rattle.journal_controls.specs.controller_model.Step.{Step as Call}
use Rattle.journal_controls.specs.journal_acks.Carried.{pdu_carried, sent_line_of}
use Rattle.journal_controls.specs.journal_acks.run_laws.Ranges.{IsPayload}
use Rattle.journal_controls.specs.journal_ends.Asked.{Words}
use Rattle.journal_controls.specs.journal_links.LinkLines.{line_of, lines_of}
use Rattle.journal_controls.specs.link_model.Acknowledgement.{Acknowledgement, Pdu, empty_pdu, is_acked}
use Rattle.journal_controls.specs.link_model.End.{facts_of}
use Rattle.journal_controls.specs.link_model.Facts.{keyed_of}
use Rattle.journal_controls.specs.link_model.Step.{Step, PacketSent}
use Rattle.journal_controls.specs.open_links.OpenLinks.{OpenLink, facts_in}
use Rattle.journal_controls.specs.run_model.History.{Event, Called, Noted}
use Rattle.journal_controls.specs.run_model.Journal.{journal_from, journal_of, side_of}
use Rattle.journal_controls.specs.run_model.Links.{links_of}
use Rattle.journal_controls.specs.run_model.Run.{Given, after_call, facts_at, setup_at}
use Rattle.journal_acks.proofs.run_laws.Agreed.{ack_of}
use Rattle.journal_controls.proofs.journal_acks.Exchanging.{number_at}
use Rattle.journal_controls.proofs.journal_acks.KeptLines.{IsLined}
use Rattle.journal_controls.proofs.journal_acks.TwoStations.{same_number}
use Rattle.journal_controls.proofs.journal_links.LinkLines.{line_more, lines_append, named_here}
use Rattle.journal_sealing.specs.SealedLines.{SealedLine, payload_by, payload_of_line, sealed_line, sealed_line_of, without_payload}
use Rattle.journal_sealing.proofs.LedLinks.{IsLed, led_made}
use Rattle.journal_sealing.proofs.SameSent.{link_grows, link_out, link_payload}
use Rattle.journal_sealing.proofs.SealedEvents.{IsSendingLast, LastSends, NoneSends, before_sent, journal_before, journal_last, sealed_called, sealed_last, sealed_line_at}
use Rattle.journal_sealing.proofs.SealedKeys.{WasSealing, was_sealing}
use Rattle.journal_sealing.proofs.SealedLines.{forgets, line_payload}

-- while the PDU of the line is the last one that the end sent, and is not acknowledged
abbrev pub IsSealedSo : Option SealedLine → OpenLink → Type 0
IsSealedSo line link =
    (one : SealedLine) → line ≡ Some one → one.acked + 1 ≡ length (ack_of link).sent → is_acked (ack_of link) ≡ false
    → (facts_in link).outgoing.payload ≡ one.payload

-- ---- an empty PDU

pub empty_payload : (payload : List ℕ) → IsPayload empty_pdu payload → payload ≡ []
empty_payload payload is = nil_from_length payload (eqb-true (length payload) 0 is.empty)

-- the payload of a packet, by the PDU that it carries
pub of_line : (line : Option SealedLine) (acked : ℕ) (payload : List ℕ) → IsPayload (pdu_carried (without_payload line) acked) payload
    → ((one : SealedLine) → line ≡ Some one → one.acked ≡ acked → payload ≡ one.payload) → payload ≡ payload_of_line line acked
of_line None acked payload is same = empty_payload payload is
of_line (Some one) acked payload is same = by (one.acked == acked) refl is
  where
    by : (equal : Bool) → (one.acked == acked) ≡ equal → IsPayload (if equal then one.pdu else empty_pdu) payload → payload ≡ (if equal then one.payload else [])
    by true equal is = same one refl (eqb-true one.acked acked equal)
    by false differs is = empty_payload payload is

-- ---- an end that sent no new PDU

pub sealed_kept : (line : Option SealedLine) (base after : OpenLink) (steps : List Step) → after.setup ≡ base.setup → after.past ≡ base.past ++ steps
    → IsLined (without_payload line) (ack_of base) → IsSealedSo line base → IsSealedSo line after
sealed_kept line base after steps setup past lined sealed = λ one is count out.
    let grown = link_grows base after steps setup past in
    let low = lined.earlier (record { pdu = one.pdu; acked = one.acked }) (ap without_payload is) in
    let few : length (ack_of after).sent ≤ length (ack_of base).sent = omega (arith, low, count) in
    let same : one.acked + 1 ≡ length (ack_of base).sent = omega (arith, low, count, grown) in
    link_payload base after steps setup past few out ∙ sealed one is same (link_out base after steps setup past few out)

pub sealed_alike : (line : Option SealedLine) (base after : OpenLink) (steps : List Step) → after.setup ≡ base.setup → after.past ≡ base.past ++ steps
    → ack_of after ≡ ack_of base → IsSealedSo line base → IsSealedSo line after
sealed_alike line base after steps setup past ack sealed = λ one is count out.
    let same = ap (λ (a : Acknowledgement). length a.sent) ack in
    link_payload base after steps setup past (omega (arith, same)) out ∙ sealed one is (count ∙ same) (ap is_acked (sym ack) ∙ out)

-- ---- a new end

first_payload : (link : OpenLink) → link.past ≡ [] → (facts_in link).outgoing.payload ≡ []
unfolding facts_of
first_payload link none = ap (λ past. (facts_of link.setup past).outgoing.payload) none

first_last : (link : OpenLink) → link.past ≡ [] → (ack_of link).last ≡ empty_pdu
unfolding facts_of
first_last link none = ap (λ past. (facts_of link.setup past).acknowledgement.last) none

pub sealed_new : (words : Words) (number : ℕ) (journal : List Entry) (side : Side) (link : OpenLink) → link.past ≡ [] → IsLined (sent_line_of number journal side) (ack_of link)
    → IsSealedSo (sealed_line_of words number journal side) link
sealed_new words number journal side link none lined = λ one is count out.
    let own : pdu_carried (Some (record { pdu = one.pdu; acked = one.acked })) one.acked ≡ one.pdu = ap (λ b. if b then one.pdu else empty_pdu) (same_number one.acked) in
    let last : empty_pdu ≡ one.pdu =
    sym (first_last link none) ∙ lined.last one.acked count
    ∙ ap (λ line. pdu_carried line one.acked) (sym (forgets words number side journal) ∙ ap without_payload is) ∙ own in
    first_payload link none
    ∙ sym (empty_payload one.payload (subst (λ pdu. IsPayload pdu one.payload) (sym last) (line_payload words number side journal one is)))

-- ---- a call of a turn, at its own station

module _ (words : Words) (given : Given) (station : ℕ) (call : Call) (history : List Event) (handle : ℕ) (base link : OpenLink) (led : IsLed base link) where
  abbrev after : List Event
  after = after_call given station call history

  abbrev side : Side
  side = side_of station

  abbrev own : ℕ
  own = number_at station handle history

  abbrev notes : List Note
  notes = notes_after (setup_at given station) (facts_at given station history) call

  module _ (lines_before : lines_of side own (journal_of history) ≡ map (line_of side own) (notes_opened_on base.setup base.past))
      (lines_now : lines_of side own (journal_of after) ≡ map (line_of side own) (notes_opened_on link.setup link.past))
      (keyed : keyed_on words side own (journal_of after) ≡ Some (keyed_of (facts_in link)))
      (lined : IsLined (sent_line_of own (journal_of history) side) (ack_of base)) (sealed : IsSealedSo (sealed_line_at words own history side) base) where
    kept : IsSealedSo (sealed_line_at words own history side) link
    kept =
        let last = first_if led.sends (PacketSent led.slot) [] in
        sealed_kept (sealed_line_at words own history side) base link (led.early ++ last) led.setup_is (led.past_is ∙ append_assoc base.past led.early last)
        (subst (λ line. IsLined line (ack_of base)) (sym (forgets words own side (journal_of history))) lined) sealed

    module _ (front : List Entry) (more : List Entry) (count llid : ℕ) (body : List ℕ) (front_is : front ≡ journal_of history ++ more)
        (after_is : journal_of after ≡ front ++ Sent side own count llid body ∷ []) where
      abbrev line : Entry
      line = Sent side own count llid body

      abbrev pdu : Pdu
      pdu = record { llid = llid; body = body }

      own_lines : map (line_of side own) (notes_opened_on link.setup link.past)
          ≡ map (line_of side own) (notes_opened_on base.setup base.past) ++ (lines_of side own more ++ line ∷ [])
      own_lines =
          sym lines_now ∙ ap (lines_of side own) after_is
          ∙ line_more side own front line (line ∷ []) (named_here side own own line (same_number own))
          ∙ ap (λ xs. xs ++ line ∷ []) (ap (lines_of side own) front_is ∙ lines_append side own (journal_of history) more ∙ ap (λ xs. xs ++ lines_of side own more) lines_before)
          ∙ append_assoc (map (line_of side own) (notes_opened_on base.setup base.past)) (lines_of side own more) (line ∷ [])

      was : WasSealing words side own front (keyed_of (facts_in link))
      was = was_sealing words side own front count llid body (keyed_of (facts_in link)) (ap (keyed_on words side own) (sym after_is) ∙ keyed)

      made : (facts_in link).outgoing.payload ≡ payload_by (keyed_on words side own front) pdu
      made =
          led_made side own base link led (lines_of side own more) count llid body own_lines was.end.end was.sealed
          ∙ ap (λ found. payload_by found pdu) (sym was.is_end)

      sealed_now : (now : Option SealedLine) → now ≡ Some (sealed_line words own front side pdu) → IsSealedSo now link
      sealed_now now now_is = λ one is acked out.
          let h : Some (sealed_line words own front side pdu) ≡ Some one = sym now_is ∙ is in
          let same : sealed_line words own front side pdu ≡ one = cc in
          made ∙ ap (λ (l : SealedLine). l.payload) same

    sealed_by : IsSendingLast notes → IsSealedSo (sealed_line_at words own after side) link
    sealed_by (NoneSends none) = subst (λ line. IsSealedSo line link) (sym (sealed_called words given own station call history side none)) kept
    sealed_by (LastSends earlier other count llid body are none opens) = by (number_at station other history == own) refl
      where
        by : (same : Bool) → (number_at station other history == number_at station handle history) ≡ same
            → IsSealedSo (sealed_line_at words (number_at station handle history) (after_call given station call history) (side_of station)) link
        by false differs =
            let now = sealed_last words given station call history earlier other count llid body are none opens own in
            let front = journal_of (before_sent words given station call history earlier other count llid body are none opens) in
            subst (λ line. IsSealedSo line link)
            (sym (now ∙ ap (λ b. if b then Some (sealed_line words own front side (record { llid = llid; body = body })) else sealed_line_at words own history side) differs)) kept
        by true same =
            let now = sealed_last words given station call history earlier other count llid body are none opens own in
            let front = journal_of (before_sent words given station call history earlier other count llid body are none opens) in
            sealed_now front (journal_from (links_of history) (Called station call ∷ map (Noted station) earlier)) count llid body
            (journal_before words given station call history earlier other count llid body are none opens)
            (journal_last words given station call history earlier other count llid body are none opens
            ∙ ap (λ n. front ++ Sent side n count llid body ∷ []) (eqb-true (number_at station other history) own same))
            (sealed_line_at words own after side)
            (now ∙ ap (λ b. if b then Some (sealed_line words own front side (record { llid = llid; body = body })) else sealed_line_at words own history side) same)

  -- under its number after the call
  pub own_sealed : IsSendingLast notes → number_at station handle after ≡ own
      → lines_of side own (journal_of history) ≡ map (line_of side own) (notes_opened_on base.setup base.past)
      → lines_of side (number_at station handle after) (journal_of after) ≡ map (line_of side (number_at station handle after)) (notes_opened_on link.setup link.past)
      → keyed_on words side (number_at station handle after) (journal_of after) ≡ Some (keyed_of (facts_in link))
      → IsLined (sent_line_of own (journal_of history) side) (ack_of base) → IsSealedSo (sealed_line_at words own history side) base
      → IsSealedSo (sealed_line_at words (number_at station handle after) after side) link
  own_sealed last number lines_before lines_now keyed lined sealed =
      subst (λ n. IsSealedSo (sealed_line_at words n after side) link) (sym number)
      (sealed_by lines_before (subst (λ n. lines_of side n (journal_of after) ≡ map (line_of side n) (notes_opened_on link.setup link.past)) number lines_now)
      (ap (λ n. keyed_on words side n (journal_of after)) (sym number) ∙ keyed) lined sealed last)
