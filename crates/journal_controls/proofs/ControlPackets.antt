-- A packet on the air moves the end that hears it, by what the lines say of that end.
use Rattle.std.proofs.Common.{◌≡◌, ℕ, ◌&&◌, Bool, true, false, Option, Some, None, List, [], ◌∷◌, ◌++◌, length, refl, sym, ap, subst, ◌∙◌}
use Rattle.std.proofs.lemmas.List.{append_cancel_left}
use Rattle.ble_base.specs.declared.roles.Role.TheVariants.{Peripheral}
use Rattle.ble_base.specs.declared.roles.Side.{Side}
use Rattle.ble_base.specs.declared.verdicts.Verdict.{Verdict}
use Rattle.ble_base.specs.declared.verdicts.Verdict.TheVariants.{Broken, Forged, Good, Missed}
use Rattle.data_pdu.specs.Header.{header_in}
use Rattle.journal_ends.specs.Asked.{Words}
use Rattle.journal_ends.specs.controller_model.declared.doing.Turn.{Turn}
use Rattle.journal_ends.specs.Seen.{heard_as, heard_in_line}
use Rattle.journal_ends.specs.journal_acks.Carried.{pdu_carried}
use Rattle.journal_ends.specs.journal_acks.Counted.{IsCounted}
use Rattle.journal_ends.specs.journal_acks.Exchange.{Exchanged}
use Rattle.journal_ends.specs.journal_acks.link_calls.Uses.{listens_under}
use Rattle.journal_ends.specs.link_model.Facts.{Facts as EndFacts, keyed_of}
use Rattle.journal_ends.specs.link_model.Packets.{good_pdu, verdict_of}
use Rattle.journal_ends.specs.link_model.Step.{PacketReceived}
use Rattle.journal_ends.specs.open_links.OpenLinks.{OpenLink, facts_in}
use Rattle.journal_ends.specs.run_model.History.{Event, Hearing, is_good, is_handed}
use Rattle.journal_ends.specs.run_model.Journal.{journal_of}
use Rattle.journal_ends.proofs.SeenCalls.{seen_in_link, to_hear}
use Rattle.journal_ends.proofs.SeenEvents.{heard_at_air, packet_seen, seen_at}
use Rattle.journal_ends.proofs.journal_acks.Counting.{IsEndCounted, ack_taking, ahead_if, plain}
use Rattle.journal_ends.proofs.journal_acks.Exchanging.{exchange_at}
use Rattle.journal_ends.proofs.journal_acks.KeptLines.{IsLined}
use Rattle.journal_ends.proofs.journal_acks.SentLines.{sent_line_at}
use Rattle.journal_ends.proofs.journal_acks.Standing.{listener_sends}
use Rattle.journal_ends.proofs.run_laws.Agreed.{ack_of, step_facts}
use Rattle.journal_controls.specs.Hearing.{keyed_hearing, keyed_if}
use Rattle.journal_controls.specs.KeyedLines.{has_next, keyed_by_all}
use Rattle.journal_controls.specs.LineSteps.{steps_heard}
use Rattle.journal_controls.proofs.ControlledEnds.{IsControlledAt, keyed_taking}
use Rattle.journal_controls.proofs.Counted.{told_by}
use Rattle.journal_controls.proofs.EndMoves.{past_keeps}
use Rattle.journal_controls.proofs.EndSteps.{hearing_told}
use Rattle.journal_controls.proofs.EventMoves.{air_line, aired, forged_moves, heard_moves, keyed_at, unheard_still}
use Rattle.journal_controls.proofs.GoodPackets.{forged_keyed, good_has, good_keyed}

-- ---- the counts of an end that is to take it

pub taking_counts : (unsent : Bool) (received : Option (List ℕ)) (octets : List ℕ) (handle : ℕ) (turn : Turn) (link : OpenLink) (end : Exchanged)
    → listens_under handle turn.doing ≡ true → received ≡ Some octets → IsEndCounted unsent received handle turn link end → IsCounted end (ack_taking true (Some octets) turn.slot link)
taking_counts unsent received octets handle turn link end on some is =
    subst (λ may. IsCounted end (ack_taking true may turn.slot link)) some
    (subst (λ b. IsCounted end (ack_taking b received turn.slot link)) on
    (subst (λ b. IsCounted (ahead_if b end) (ack_taking (listens_under handle turn.doing) received turn.slot link))
    (ap (λ b. unsent && b) (listener_sends handle turn.doing on) ∙ none unsent) is))
  where
    none : (b : Bool) → (b && false) ≡ false
    none true = refl
    none false = refl

-- ---- one end

module _ (words : Words) (number : ℕ) (side : Side) (history : List Event) (station channel : ℕ) (octets : List ℕ) (hearing : Hearing)
    (received received_too : Option (List ℕ)) (handle : ℕ) (turn : Turn) (link : OpenLink) (unsent unsent_too : Bool)
    (silent : listens_under handle turn.doing ≡ true → received ≡ None) (was : keyed_at words number side history ≡ Some (keyed_of (facts_in link)))
    (handed_too : (got : List ℕ) → listens_under handle turn.doing ≡ true → received_too ≡ Some got → is_handed (verdict_of link.setup (facts_in link) got) ≡ true)
    (seen : seen_at words number side history ≡ seen_in_link number side link)
    (seen_too : seen_at words number side (aired words number side history station channel octets hearing) ≡ seen_in_link number side link ++ to_hear (listens_under handle turn.doing) received_too turn.slot link)
    (counted : IsEndCounted unsent received handle turn link (exchange_at number history side))
    (counted_too : IsEndCounted unsent_too received_too handle turn link (exchange_at number (aired words number side history station channel octets hearing) side))
    (lined : IsLined (sent_line_at number history side) (ack_of link))
    (fixes : listens_under handle turn.doing ≡ true → link.setup.link.role ≡ Peripheral → (facts_in link).fixes_control ≡ has_next (keyed_of (facts_in link))) where
  abbrev after : List Event
  after = aired words number side history station channel octets hearing

  abbrev listens : Bool
  listens = listens_under handle turn.doing

  -- the line is heard as the end hears the packet
  heard_is : heard_in_line side number (journal_of history) (air_line station channel octets hearing) ≡ to_hear listens received_too turn.slot link
  heard_is =
      append_cancel_left (seen_in_link number side link) (heard_at_air number side history station channel octets hearing)
      (to_hear listens received_too turn.slot link)
      (ap (λ xs. xs ++ heard_at_air number side history station channel octets hearing) (sym seen)
      ∙ sym (packet_seen words number side station channel octets history (hearing ∷ []) hearing refl) ∙ seen_too)

  unheard : to_hear listens received_too turn.slot link ≡ [] → keyed_at words number side after ≡ Some (keyed_of (facts_in link))
  unheard none = unheard_still words number side history station channel octets hearing (heard_is ∙ none) ∙ was

  module _ (on : listens ≡ true) (got : List ℕ) (some : received_too ≡ Some got) where
    hears : to_hear listens received_too turn.slot link ≡ heard_as (verdict_of link.setup (facts_in link) got) turn.slot got
    hears = λ i. to_hear (on i) (some i) turn.slot link

    good_then : (pdu : List ℕ) → verdict_of link.setup (facts_in link) got ≡ Good → good_pdu link.setup (facts_in link) got ≡ Some pdu
        → keyed_at words number side after ≡ Some (keyed_hearing link.setup.link.role turn.slot (Some pdu) (facts_in link))
    good_then pdu is good =
        let setup = link.setup in
        let facts = facts_in link in
        let k = keyed_of facts in
        let before = exchange_at number history side in
        let then_on = exchange_at number after side in
        let line = sent_line_at number history side in
        let counts = plain unsent received handle turn link before (listener_sends handle turn.doing on) silent counted in
        let counts_too = taking_counts unsent_too received_too got handle turn link then_on on some counted_too in
        let now = step_facts link (PacketReceived turn.slot got false) in
        let told = told_by setup link.past turn.slot got pdu false before then_on line good counts.acked
        (counts_too.acked ∙ ap (λ (f : EndFacts). f.acknowledgement.acked) now) (counts_too.sent ∙ ap (λ (f : EndFacts). length f.acknowledgement.sent) now)
        lined.last (fixes on) in
        heard_moves words number side history station channel octets hearing turn.slot got k (heard_is ∙ hears ∙ ap (λ v. heard_as v turn.slot got) is) was
        ∙ ap (λ role. Some (keyed_by_all (steps_heard role turn.slot before then_on (pdu_carried line before.acked) (has_next k)) k)) (past_keeps setup link.past [])
        ∙ ap Some (hearing_told turn.slot setup facts before then_on (pdu_carried line before.acked) (header_in pdu) told)

    taken_as : (verdict : Verdict) → verdict_of link.setup (facts_in link) got ≡ verdict → is_handed verdict ≡ true
        → keyed_at words number side after ≡ Some (keyed_if true turn.slot got link)
    taken_as Good is handed =
        let has = good_has link.setup (facts_in link) got (ap is_good is) in
        good_then has.pdu is has.is ∙ ap Some (sym (good_keyed turn.slot got has.pdu link has.is))
    taken_as Forged is handed =
        forged_moves words number side history station channel octets hearing (keyed_of (facts_in link)) (heard_is ∙ hears ∙ ap (λ v. heard_as v turn.slot got) is) was
        ∙ ap Some (sym (forged_keyed turn.slot got link is))
    taken_as Missed is handed = absurd cc
    taken_as Broken is handed = absurd cc

    taken_then : keyed_at words number side after ≡ Some (keyed_if true turn.slot got link)
    taken_then = taken_as (verdict_of link.setup (facts_in link) got) refl (handed_too got on some)

  pub packet_moves : IsControlledAt words received_too handle turn link number side after
  packet_moves = record { keyed = by listens refl received_too refl; handed = handed_too }
    where
      by : (on : Bool) → listens_under handle turn.doing ≡ on → (may : Option (List ℕ)) → received_too ≡ may
          → keyed_at words number side after ≡ Some (keyed_taking (listens_under handle turn.doing) received_too turn.slot link)
      by false off may is =
          unheard (ap (λ b. to_hear b received_too turn.slot link) off) ∙ ap (λ b. Some (keyed_taking b received_too turn.slot link)) (sym off)
      by true on None none =
          unheard (λ i. to_hear (on i) (none i) turn.slot link) ∙ (λ i. Some (keyed_taking (sym on i) (sym none i) turn.slot link))
      by true on (Some got) some = taken_then on got some ∙ (λ i. Some (keyed_taking (sym on i) (sym some i) turn.slot link))
