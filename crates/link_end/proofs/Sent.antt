-- An end that knows its past and sends its packet.
use Rattle.std.proofs.Common.{◌≡◌, ℕ, Bool, true, false, not, ◌&&◌, ◌||◌, List, [], ◌∷◌, ◌++◌, length, is_none, refl, ap, sym, ◌∙◌, subst, if◌then◌else◌}
use Rattle.ble_base.specs.declared.notes.Note.{Note}
use Rattle.ack_bit.specs.AckBits.{header_of}
use Rattle.acl_banks.specs.Banks.{Bank}
use Rattle.air_frame.specs.Packet.{on_air}
use Rattle.data_pdu.specs.Header.{octets_of}
use Rattle.control_end.specs.Answers.{next_ctrl}
use Rattle.control_end.specs.Held.{held_of as control_held}
use Rattle.link_model.specs.phased_end.Answers.{quiet_now}
use Rattle.link_model.specs.phased_end.Held.{HeldKeyed, held_after, held_of as keyed_held, keyed_of as keyed_of_held}
use Rattle.link_model.specs.phased_end.enc_phase.Phases.{is_quiet}
use Rattle.link_model.specs.phased_end.enc_phase.Sealing.{EncEnd}
use Rattle.link_model.specs.phased_end.keyed_control.Keyed.{Keyed}
use Rattle.link_model.specs.phased_end.keyed_control.KeyedSteps.{Sends, keyed_moved}
use Rattle.link_model.proofs.phased_end.Depending.{step_depends}
use Rattle.link_model.specs.Setup.{Setup}
use Rattle.link_model.specs.Acknowledgement.{Pdu, bits_of, empty_pdu, is_acked}
use Rattle.link_model.specs.Data.{Data, is_data, is_empty}
use Rattle.link_model.specs.Facts.{Facts, keyed_of}
use Rattle.link_model.specs.Controls.{pdu_of_control}
use Rattle.link_model.specs.Packets.{more_sent, packet_sent, payload_sent, pdu_sent}
use Rattle.link_model.specs.Payload.{payload_made}
use Rattle.link_model.specs.Sending.{control_gone, control_gone_if, data_sent_as, facts_sent, fixed_sent, sent_notes_if, takes_leave as facts_leave, sent_notes as facts_notes}
use Rattle.link_model.specs.Step.{Step, PacketSent}
use Rattle.link_model.specs.End.{facts_of}
use Rattle.link_end.specs.Held.{Held, held_of}
use Rattle.link_end.specs.Sending.{carries_next, held_gone, held_gone_if, held_out, more_out, payload_out, pdu_fixed, pdu_out, sent_notes}
use Rattle.link_end.specs.Knowing.{Goes, Knows}
use Rattle.link_end.specs.Tied.{HoldsData, LeavesOthers, bank_went_if}
use Rattle.link_end.proofs.Banked.{holds_sent, sent_leaves}
use Rattle.link_end.proofs.Counting.{acked_sent, counted}
use Rattle.link_end.proofs.Keeping.{held_is, holds_after, stepped}
use Rattle.link_end.proofs.Phases.{gone_keyed, past_phase}

-- the session is in the phase of the procedures
abbrev pub IsInPhase : Facts → Type 0
IsInPhase facts = facts.encryption.end.phase ≡ facts.encryption.phase

-- ---- what is held

-- the control PDU that goes next
next_same : (facts : Facts) → IsInPhase facts → (fixes : Bool) (fixed : Pdu)
    → (if fixes then pdu_of_control (next_ctrl (is_quiet facts.encryption.end.phase) (control_held facts.control)) else fixed)
    ≡ (if fixes then pdu_of_control (next_ctrl (is_quiet facts.encryption.phase) (control_held facts.control)) else fixed)
next_same facts same fixes fixed =
    λ i. if fixes then pdu_of_control (next_ctrl (is_quiet (same i)) (control_held facts.control)) else fixed

pub gone_if_of : (goes : Bool) (setup : Setup) (slot : ℕ) (facts : Facts) → IsInPhase facts
    → held_gone_if goes slot (held_of setup facts) ≡ held_of setup (control_gone_if goes slot facts)
gone_if_of true setup slot facts same =
    let control = sym (step_depends (Sends slot) (keyed_of facts) same) ∙ sym (ap (λ (k : Keyed). keyed_held k) (gone_keyed slot facts)) in
    let fixed = next_same facts same facts.fixes_control facts.outgoing.fixed in
    λ i. record (held_of setup (control_gone slot facts)) { control = control i; fixed = fixed i }
gone_if_of false setup slot facts same = refl

fixed_then : (payload : List ℕ) (is_new : Bool) (outgoing : Data)
    → (if is_new then empty_pdu else outgoing.fixed) ≡ (data_sent_as payload is_new outgoing).fixed
fixed_then payload true outgoing = refl
fixed_then payload false outgoing = refl

more_then : (payload : List ℕ) (is_new : Bool) (outgoing : Data)
    → (if is_new then false else outgoing.more) ≡ (data_sent_as payload is_new outgoing).more
more_then payload true outgoing = refl
more_then payload false outgoing = refl

again_then : (payload : List ℕ) (is_new : Bool) (outgoing : Data)
    → outgoing.more_again ≡ (data_sent_as payload is_new outgoing).more_again
again_then payload true outgoing = refl
again_then payload false outgoing = refl

payload_then : (payload : List ℕ) (is_new : Bool) (outgoing : Data)
    → (if is_new then payload else outgoing.payload) ≡ (data_sent_as payload is_new outgoing).payload
payload_then payload true outgoing = refl
payload_then payload false outgoing = refl

out_of : (setup : Setup) (slot : ℕ) (facts : Facts) → held_out slot (held_of setup facts) ≡ held_of setup (fixed_sent slot facts)
out_of setup slot facts =
    let ack = facts.acknowledgement in
    let next = facts.outgoing.fixed in
    let is_new = is_acked ack in
    let payload = payload_made facts.encryption.end next in
    λ i. record (held_of setup (fixed_sent slot facts)) {
      is_acked = acked_sent is_new ack next refl i;
      payload = payload_then payload is_new facts.outgoing i;
      fixed = fixed_then payload is_new facts.outgoing i;
      more = more_then payload is_new facts.outgoing i;
      more_again = again_then payload is_new facts.outgoing i;
      sent = counted ack.sent next is_new (is_empty next) refl i;
    }

-- ---- what is sent, and noted, of a control PDU that has left the queue

module _ (control_pdu fixed last : Pdu) where
  out_same : (acked fixes : Bool)
      → (if acked then (if acked && fixes then (if fixes then control_pdu else fixed) else fixed) else last)
      ≡ (if acked then (if fixes then control_pdu else fixed) else last)
  out_same true true = refl
  out_same true false = refl
  out_same false fixes = refl

  notes_same : (acked fixes : Bool) (handle number : ℕ)
      → let now = (if acked && fixes then (if fixes then control_pdu else fixed) else fixed) in
      let pdu = (if fixes then control_pdu else fixed) in
      sent_notes_if (acked && not (is_empty now)) handle number now ≡ sent_notes_if (acked && not (is_empty pdu)) handle number pdu
  notes_same true true handle number = refl
  notes_same true false handle number = refl
  notes_same false fixes handle number = refl

-- the session stays as a control PDU leaves the queue
sends_end : (slot : ℕ) (h : HeldKeyed) → (held_after (Sends slot) h).end ≡ h.end
sends_end slot h = by (false || is_none h.control.ends)
  where
    by : (b : Bool) → (if b then keyed_moved (Sends slot) (keyed_of_held h) else keyed_of_held h).end ≡ h.end
    by true = refl
    by false = refl

payload_same : (acked fixes : Bool) (end after : EncEnd) (control_pdu fixed : Pdu) (payload : List ℕ) → after ≡ end
    → let goes = acked && fixes in
    (if acked then payload_made (if goes then after else end) (if goes then (if fixes then control_pdu else fixed) else fixed) else payload)
    ≡ (if acked then payload_made end (if fixes then control_pdu else fixed) else payload)
payload_same true true end after control_pdu fixed payload is = ap (λ (e : EncEnd). payload_made e control_pdu) is
payload_same true false end after control_pdu fixed payload is = refl
payload_same false fixes end after control_pdu fixed payload is = refl

end_if : (goes : Bool) (after before : HeldKeyed) → (if goes then after else before).end ≡ (if goes then after.end else before.end)
end_if true after before = refl
end_if false after before = refl

gone_pdu : (slot : ℕ) (held : Held) → pdu_out (held_gone slot held) ≡ (if held.is_acked then pdu_fixed held else held.last)
gone_pdu slot held =
    out_same (pdu_of_control (next_ctrl (quiet_now held.control) held.control.control)) held.fixed held.last held.is_acked held.fixes_control

gone_payload : (slot : ℕ) (held : Held)
    → payload_out (held_gone slot held) ≡ (if held.is_acked then payload_made held.control.end (pdu_fixed held) else held.payload)
gone_payload slot held =
    let after = held_after (Sends slot) held.control in
    let fixed = (held_gone slot held).fixed in
    ap (λ (e : EncEnd). if held.is_acked then payload_made e fixed else held.payload)
    (end_if (held.is_acked && held.fixes_control) after held.control)
    ∙ payload_same held.is_acked held.fixes_control held.control.end after.end
    (pdu_of_control (next_ctrl (quiet_now held.control) held.control.control)) held.fixed held.payload (sends_end slot held.control)

gone_notes : (setup : Setup) (slot : ℕ) (facts : Facts) → IsInPhase facts
    → sent_notes (held_gone slot (held_of setup facts)) ≡ facts_notes setup facts
gone_notes setup slot facts same =
    let held = held_of setup facts in
    notes_same (pdu_of_control (next_ctrl (quiet_now held.control) held.control.control)) held.fixed held.last held.is_acked held.fixes_control
    setup.link.handle held.sent
    ∙ ap (λ (pdu : Pdu). sent_notes_if (held.is_acked && not (is_empty pdu)) setup.link.handle held.sent pdu)
    (next_same facts same facts.fixes_control facts.outgoing.fixed)

pub holds_gone : (goes : Bool) (handle slot : ℕ) (bank : Bank) (facts : Facts) → HoldsData handle bank facts.outgoing
    → HoldsData handle bank (control_gone_if goes slot facts).outgoing
holds_gone true handle slot bank facts holds = record { packets = holds.packets; complete = holds.complete }
holds_gone false handle slot bank facts holds = holds

-- ---- the call

module _ (setup : Setup) (held : Held) (past : List Step) (knows : Knows setup held past) (slot : ℕ) (gone : Held)
    (gone_is : gone ≡ held_gone slot held) where
  abbrev facts : Facts
  facts = facts_of setup past

  gone_held : gone ≡ held_gone slot (held_of setup facts)
  gone_held = gone_is ∙ ap (held_gone slot) (held_is setup held past knows)

  same : IsInPhase facts
  same = past_phase setup past

  gone_known : gone ≡ held_of setup (control_gone_if (facts_leave facts) slot facts)
  gone_known = gone_held ∙ gone_if_of (facts_leave facts) setup slot facts same

  pub sent : (new : Held) (before noted : List Note) → new ≡ held_out slot gone → noted ≡ before ++ sent_notes gone
      → Goes setup new past (PacketSent slot) before noted
  sent new before noted is notes =
      record {
        knows = stepped setup new past (PacketSent slot)
            (is ∙ ap (held_out slot) gone_known ∙ out_of setup slot (control_gone_if (facts_leave facts) slot facts));
        notes = notes ∙ ap (λ (h : Held). before ++ sent_notes h) gone_held ∙ ap (λ notes. before ++ notes) (gone_notes setup slot facts same);
      }

  -- the packet that is made of what is held after it was sent
  abbrev octets_after : Held → Bool → List ℕ
  octets_after new more =
      on_air new.event.channel new.setup.link.fields.access new.setup.link.fields.crc_init
      (octets_of (header_of new.bits new.last.llid more (length new.payload)) ++ new.payload)

  pub packed : (new : Held) (more : Bool) (octets : List ℕ) → new ≡ held_out slot gone → more ≡ more_out gone
      → octets ≡ octets_after new more → octets ≡ packet_sent setup facts
  unfolding packet_sent
  packed new more octets new_is more_is is =
      let held = held_of setup facts in
      let fixed = next_same facts same facts.fixes_control facts.outgoing.fixed in
      let pdu : pdu_out (held_gone slot held) ≡ pdu_sent facts =
      gone_pdu slot held ∙ ap (λ (p : Pdu). if held.is_acked then p else held.last) fixed in
      let payload : payload_out (held_gone slot held) ≡ payload_sent facts =
      gone_payload slot held ∙ ap (λ (p : Pdu). if held.is_acked then payload_made facts.encryption.end p else held.payload) fixed in
      is ∙ (λ i. octets_after (new_is i) (more_is i))
      ∙ ap (λ (h : Held). octets_after (held_out slot h) (more_out h)) gone_held
      ∙ (λ i. on_air facts.event.channel setup.link.fields.access setup.link.fields.crc_init
      (octets_of (header_of (bits_of facts.acknowledgement) ((pdu i).llid) (more_sent facts) (length (payload i))) ++ payload i))

  pub sent_holds : (before after : Bank) → after ≡ bank_went_if (carries_next gone) before gone.setup.link.handle (length gone.fixed.body)
      → HoldsData setup.link.handle before facts.outgoing
      → HoldsData setup.link.handle after (facts_of setup (past ++ PacketSent slot ∷ [])).outgoing
  sent_holds before after is holds =
      let now = control_gone_if (facts_leave facts) slot facts in
      holds_after setup past (PacketSent slot) after
      (subst (λ (bank : Bank). HoldsData setup.link.handle bank (facts_sent slot facts).outgoing)
      (sym (is ∙ ap (λ (h : Held). bank_went_if (carries_next h) before h.setup.link.handle (length h.fixed.body)) gone_known))
      (holds_sent (payload_made now.encryption.end now.outgoing.fixed) setup.link.handle before now.outgoing (is_acked now.acknowledgement)
      (is_data now.outgoing.fixed) refl (holds_gone (facts_leave facts) setup.link.handle slot before facts holds)))

pub gone_leaves : (held gone : Held) (slot : ℕ) → gone ≡ held_gone slot held → (before after : Bank)
    → after ≡ bank_went_if (carries_next gone) before gone.setup.link.handle (length gone.fixed.body)
    → LeavesOthers held.setup.link.handle before after
gone_leaves held gone slot gone_is before after is =
    subst (λ (h : Held). LeavesOthers h.setup.link.handle before after) gone_is
    (sent_leaves (carries_next gone) gone.setup.link.handle (length gone.fixed.body) before after is)
