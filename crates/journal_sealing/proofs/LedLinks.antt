-- What happens to the link under a handle in a call of a turn: it sends no packet, or one, and that last. So the line of a
-- new PDU in the call is that of this packet.
use Rattle.std.proofs.Common.{◌≡◌, ℕ, ◌+◌, ◌&&◌, not, Bool, true, false, Option, Some, None, List, [], ◌∷◌, ◌++◌, map, refl, sym, ap, subst, ◌∙◌, append-nil, append_assoc}
use Rattle.std.specs.Prelude.{IfSome}
use Rattle.std.specs.List.{AllByRecursion}
use Rattle.std.proofs.lemmas.List.{append_cancel_left, map-append, same_from_push}
use Rattle.ble_base.specs.declared.notes.Note.{Note}
use Rattle.ble_base.specs.declared.notes.Note.TheVariants.{Sent, Up}
use Rattle.ble_base.specs.declared.roles.Side.{Side}
use Rattle.journal.specs.declared.entries.Entry.{Entry}
use Rattle.journal.specs.declared.entries.Entry.TheVariants.{Sent as SentLine}
use Rattle.journal_controls.specs.TurnSteps.{first_if}
use Rattle.journal_controls.specs.controller_model.Facts.{Setup, Facts}
use Rattle.journal_controls.specs.controller_model.Since.{notes_opened_on}
use Rattle.journal_controls.specs.controller_model.declared.doing.Doing.{Doing}
use Rattle.journal_controls.specs.controller_model.declared.doing.Doing.TheVariants.{PeripheralListens}
use Rattle.journal_controls.specs.journal_acks.link_calls.Phases.{link_receiving, link_worded, refusal_at, refused_if}
use Rattle.journal_controls.specs.journal_acks.link_calls.Turns.{change_if, sent_if}
use Rattle.journal_controls.specs.journal_acks.link_calls.Uses.{sends_under}
use Rattle.journal_controls.specs.journal_links.LinkLines.{line_of}
use Rattle.journal_controls.specs.link_model.Acknowledgement.{Pdu, is_acked}
use Rattle.journal_controls.specs.link_model.Controls.{pdu_fixed}
use Rattle.journal_controls.specs.link_model.Data.{is_empty, numbered}
use Rattle.journal_controls.specs.link_model.End.{facts_after, facts_of, notes_after, notes_from}
use Rattle.journal_controls.specs.link_model.Facts.{Facts as EndFacts}
use Rattle.journal_controls.specs.link_model.Packets.{good_pdu}
use Rattle.journal_controls.specs.link_model.Payload.{payload_made}
use Rattle.journal_controls.specs.link_model.Sending.{sent_notes_if}
use Rattle.journal_controls.specs.link_model.Setup.{Setup as EndSetup}
use Rattle.journal_controls.specs.link_model.Step.{Step, EventEntered, KeyAnswered, PacketReceived, PacketSent, PduFixed, RequestAnswered, WordsGiven}
use Rattle.journal_controls.specs.link_model.enc_phase.Sealing.{EncEnd, after_sending}
use Rattle.journal_controls.specs.open_links.OpenLinks.{OpenLink, facts_in, link_after}
use Rattle.journal_controls.specs.open_links.Turns.{enters_in, entered_if}
use Rattle.journal_acks.proofs.link_calls.CallNotes.{SendsNone}
use Rattle.journal_acks.proofs.link_calls.LinkCalls.{HasBegun}
use Rattle.journal_acks.proofs.run_laws.Agreed.{step_facts}
use Rattle.journal_controls.proofs.controller_model.EndNotes.{both_each, entered_each, received_each}
use Rattle.journal_controls.proofs.journal_ends.GrownLinks.{IsRefusal, refusal_is}
use Rattle.journal_controls.proofs.journal_ends.PastSeen.{notes_more}
use Rattle.journal_controls.proofs.link_model.Opening.{takes_counter}
use Rattle.journal_controls.proofs.link_model.Repeating.{first_payload}
use Rattle.journal_sealing.specs.NewPdus.{end_before}
use Rattle.journal_sealing.proofs.NewPdus.{before_after}

-- ---- steps in which an end sends no packet

abbrev is_packet : Step → Bool
is_packet (PacketSent slot) = true
is_packet other = false

abbrev AreQuiet : List Step → Type 0
AreQuiet steps = AllByRecursion (λ step. is_packet step ≡ false) steps

quiet_push : (steps : List Step) (step : Step) → AreQuiet steps → is_packet step ≡ false → AreQuiet (steps ++ step ∷ [])
quiet_push [] step are is = (is, tt)
quiet_push (first ∷ steps) step are is = (are.0, quiet_push steps step are.1 is)

abbrev SendNone : List Note → Type 0
SendNone notes = AllByRecursion SendsNone notes

step_quiet : (setup : EndSetup) (facts : EndFacts) (step : Step) → is_packet step ≡ false → SendNone (notes_after setup facts step)
step_quiet setup facts (EventEntered slot) is =
    entered_each SendsNone setup slot facts (record { applied = λ number. refl; enter = refl; done = λ kind. refl; began = λ kind. refl })
step_quiet setup facts (PacketReceived slot octets room) is =
    received_each SendsNone setup slot room (good_pdu setup facts octets) facts
    (record { took = λ number llid body. refl; refused = λ kind code. refl; done = λ kind. refl })
step_quiet setup facts (PacketSent slot) is = absurd cc
step_quiet setup facts step is = tt

steps_quiet : (setup : EndSetup) (steps : List Step) (facts : EndFacts) → AreQuiet steps → SendNone (notes_from setup facts steps)
steps_quiet setup [] facts are = tt
steps_quiet setup (step ∷ steps) facts are =
    both_each SendsNone (notes_after setup facts step) (notes_from setup (facts_after setup facts step) steps) (step_quiet setup facts step are.0)
    (steps_quiet setup steps (facts_after setup facts step) are.1)

-- ---- a link to which more happened

-- it sent no packet in that
record IsQuietly (base after : OpenLink) : Type 0 where
  setup_is : after.setup ≡ base.setup
  steps : List Step
  quiet : AreQuiet steps
  past_is : after.past ≡ base.past ++ steps

-- it sent one last, or none
pub record IsLed (base after : OpenLink) : Type 0 where
  pub setup_is : after.setup ≡ base.setup
  pub early : List Step
  pub quiet : AreQuiet early
  pub sends : Bool
  pub slot : ℕ
  pub past_is : after.past ≡ (base.past ++ early) ++ first_if sends (PacketSent slot) []

quietly_same : (link : OpenLink) → IsQuietly link link
quietly_same link = record { setup_is = refl; steps = []; quiet = tt; past_is = sym (append-nil link.past) }

quietly_then : (base link : OpenLink) (step : Step) → is_packet step ≡ false → IsQuietly base link → IsQuietly base (link_after step link)
quietly_then base link step is before = record {
  setup_is = before.setup_is;
  steps = before.steps ++ step ∷ [];
  quiet = quiet_push before.steps step before.quiet is;
  past_is = ap (λ past. past ++ step ∷ []) before.past_is ∙ append_assoc base.past before.steps (step ∷ []);
}

quietly_if : (changes : Bool) (base link : OpenLink) (step : Step) → is_packet step ≡ false → IsQuietly base link → IsQuietly base (change_if changes (link_after step) link)
quietly_if true base link step is before = quietly_then base link step is before
quietly_if false base link step is before = before

led_by : (sends : Bool) (slot : ℕ) (base link after : OpenLink) → IsQuietly base link → after ≡ sent_if sends slot link → IsLed base after
led_by true slot base link after before is = record {
  setup_is = ap (λ (l : OpenLink). l.setup) is ∙ before.setup_is;
  early = before.steps;
  quiet = before.quiet;
  sends = true;
  slot = slot;
  past_is = ap (λ (l : OpenLink). l.past) is ∙ ap (λ past. past ++ PacketSent slot ∷ []) before.past_is;
}
led_by false slot base link after before is = record {
  setup_is = ap (λ (l : OpenLink). l.setup) is ∙ before.setup_is;
  early = before.steps;
  quiet = before.quiet;
  sends = false;
  slot = slot;
  past_is = ap (λ (l : OpenLink). l.past) is ∙ before.past_is ∙ sym (append-nil (base.past ++ before.steps));
}

pub same_led : (link : OpenLink) → IsLed link link
same_led link = led_by false 0 link link link (quietly_same link) refl

-- ---- a turn begins

entered_quietly : (enters : Bool) (slot : ℕ) (link : OpenLink) → IsQuietly link (entered_if enters slot link)
entered_quietly true slot link = quietly_then link link (EventEntered slot) refl (quietly_same link)
entered_quietly false slot link = quietly_same link

pub begun_led : (facts : Facts) (slot : ℕ) (on : Bool) (handle : ℕ) (doing : Doing) (after : OpenLink) (begun : HasBegun facts slot on handle doing after)
    → IsLed begun.link after
begun_led facts slot on handle doing after begun =
    let entered = entered_quietly (enters_in slot begun.link) slot begun.link in
    let first : IsQuietly begun.link begun.entered = record {
      setup_is = begun.setup_is;
      steps = entered.steps;
      quiet = entered.quiet;
      past_is = begun.past_is ∙ entered.past_is;
    } in
    let fixed = subst (IsQuietly begun.link) (sym begun.base_is) (quietly_if begun.fixes begun.link begun.entered PduFixed refl first) in
    led_by (sends_under handle doing) slot begun.link begun.base after fixed begun.is

-- ---- a phase passes

worded_quietly : (setup : Setup) (facts : Facts) (doing : Doing) (link : OpenLink) → IsQuietly link (link_worded setup facts doing link)
worded_quietly setup facts (PeripheralListens other) link = quietly_then link link (WordsGiven _ _) refl (quietly_same link)
worded_quietly setup facts doing link = quietly_same link

refused_quietly : (refusal : Option Step) (base link : OpenLink) → IfSome refusal IsRefusal → IsQuietly base link → IsQuietly base (refused_if refusal link)
refused_quietly None base link is before = before
refused_quietly (Some (RequestAnswered answer)) base link is before = quietly_then base link (RequestAnswered answer) refl before
refused_quietly (Some (KeyAnswered key slot)) base link is before = quietly_then base link (KeyAnswered key slot) refl before
refused_quietly (Some step) base link is before = absurd is

pub taken_led : (sends : Bool) (setup : Setup) (handle : ℕ) (room : Bool) (octets : List ℕ) (facts : Facts) (link after : OpenLink)
    → after ≡ sent_if sends facts.turn.slot (link_receiving setup handle room octets facts link) → IsLed link after
taken_led sends setup handle room octets facts link after is =
    let slot = facts.turn.slot in
    let worded = link_worded setup facts facts.turn.doing link in
    let taken = link_after (PacketReceived slot octets room) worded in
    let refusal = refusal_at handle room octets facts worded in
    led_by sends slot link (refused_if refusal taken) after
    (refused_quietly refusal link taken (refusal_is handle room octets facts worded)
    (quietly_then link worded (PacketReceived slot octets room) refl (worded_quietly setup facts facts.turn.doing link))) is

-- ---- the line of the new PDU

abbrev is_sent_line : Entry → Bool
is_sent_line (SentLine side link count llid body) = true
is_sent_line other = false

abbrev pdu_with : ℕ → List ℕ → Pdu
pdu_with llid body = record { llid = llid; body = body }

module _ (side : Side) (number : ℕ) where
  lines_none : (notes : List Note) → SendNone notes → AllByRecursion (λ line. is_sent_line line ≡ false) (map (line_of side number) notes)
  lines_none [] none = tt
  lines_none (note ∷ notes) none = (by note none.0, lines_none notes none.1)
    where
      by : (note : Note) → SendsNone note → is_sent_line (line_of side number note) ≡ false
      by (Sent handle count llid body) none = absurd cc
      by (Up packet) none = refl
      by note none = refl

  last_none : (lines : List Entry) (line : Entry) → AllByRecursion (λ one. is_sent_line one ≡ false) (lines ++ line ∷ []) → is_sent_line line ≡ false
  last_none [] line are = are.0
  last_none (first ∷ lines) line are = last_none lines line are.1

  not_last : (X : Type 0) (notes : List Note) (lines : List Entry) (count llid : ℕ) (body : List ℕ) → SendNone notes
      → map (line_of side number) notes ≡ lines ++ SentLine side number count llid body ∷ [] → X
  not_last X notes lines count llid body none is =
      absurd (let h : true ≡ false =
      last_none lines (SentLine side number count llid body) (subst (AllByRecursion (λ one. is_sent_line one ≡ false)) is (lines_none notes none)) in absurd cc)

  both_hold : (one other : Bool) → (one && not other) ≡ true → (one ≡ true) × (other ≡ false)
  both_hold true true both = absurd cc
  both_hold true false both = (refl, refl)
  both_hold false other both = absurd cc

  one_pdu : (count count_too llid llid_too : ℕ) (body body_too : List ℕ) → SentLine side number count llid body ≡ SentLine side number count_too llid_too body_too
      → pdu_with llid body ≡ pdu_with llid_too body_too
  one_pdu count count_too llid llid_too body body_too is =
      let one : llid ≡ llid_too = cc in
      let two : body ≡ body_too = cc in
      λ i. pdu_with (one i) (two i)

  module _ (base after : OpenLink) (led : IsLed base after) (lines : List Entry) (count llid : ℕ) (body : List ℕ) where
    abbrev setup : EndSetup
    setup = base.setup

    -- as it sends
    abbrev middle : OpenLink
    middle = record base { past = base.past ++ led.early }

    abbrev early_notes : List Note
    early_notes = notes_from setup (facts_in base) led.early

    abbrev last_notes : Bool → List Note
    last_notes sends = notes_from setup (facts_in middle) (first_if sends (PacketSent led.slot) [])

    abbrev pdu : Pdu
    pdu = pdu_with llid body

    -- what it notes in this is what its lines say
    opened_notes : notes_opened_on after.setup after.past ≡ notes_opened_on base.setup base.past ++ (early_notes ++ last_notes led.sends)
    opened_notes =
        (λ i. notes_opened_on (led.setup_is i) (led.past_is i))
        ∙ notes_more setup middle.past (first_if led.sends (PacketSent led.slot) [])
        ∙ ap (λ notes. notes ++ last_notes led.sends) (notes_more setup base.past led.early)
        ∙ append_assoc (notes_opened_on base.setup base.past) early_notes (last_notes led.sends)

    -- the end made its payload then
    abbrev IsMade : Type 0
    IsMade = (end : EncEnd) → (facts_in after).encryption.end ≡ after_sending end → (facts_in after).outgoing.payload ≡ payload_made end pdu

    sends_facts : led.sends ≡ true → facts_in after ≡ facts_after setup (facts_in middle) (PacketSent led.slot)
    sends_facts sends =
        (λ i. facts_of (led.setup_is i) ((led.past_is ∙ ap (λ b. middle.past ++ first_if b (PacketSent led.slot) []) sends) i))
        ∙ step_facts middle (PacketSent led.slot)

    made : led.sends ≡ true → is_acked (facts_in middle).acknowledgement ≡ true → is_empty (pdu_fixed (facts_in middle)) ≡ false → pdu_fixed (facts_in middle) ≡ pdu → IsMade
    made sends all some fixed = λ end sealed.
        let facts = facts_in middle in
        let same = sends_facts sends in
        let counter = takes_counter facts led.slot all some in
        let equal : end ≡ facts.encryption.end =
        sym (before_after end) ∙ ap end_before (sym sealed ∙ ap (λ (f : EndFacts). f.encryption.end) same ∙ counter) ∙ before_after facts.encryption.end in
        ap (λ (f : EndFacts). f.outgoing.payload) same ∙ first_payload facts led.slot all
        ∙ (λ i. payload_made (sym equal i) (fixed i))

    noted_by : (noted : Bool) → led.sends ≡ true → (is_acked (facts_in middle).acknowledgement && not (is_empty (pdu_fixed (facts_in middle)))) ≡ noted
        → map (line_of side number) (early_notes ++ (sent_notes_if noted setup.link.handle (numbered (facts_in middle).acknowledgement.sent) (pdu_fixed (facts_in middle)) ++ []))
        ≡ lines ++ SentLine side number count llid body ∷ []
        → IsMade
    noted_by true sends is are =
        let facts = facts_in middle in
        let holds = both_hold (is_acked facts.acknowledgement) (is_empty (pdu_fixed facts)) is in
        let fixed = pdu_fixed facts in
        let own = SentLine side number (numbered facts.acknowledgement.sent + 1) fixed.llid fixed.body in
        let last = same_from_push (map (line_of side number) early_notes) lines own (SentLine side number count llid body)
        (sym (map-append (line_of side number) early_notes (Sent setup.link.handle (numbered facts.acknowledgement.sent + 1) fixed.llid (record { items = fixed.body }) ∷ [])) ∙ are) in
        made sends holds.0 holds.1 (one_pdu (numbered facts.acknowledgement.sent + 1) count fixed.llid llid fixed.body body last.1)
    noted_by false sends is are =
        not_last IsMade (early_notes ++ []) lines count llid body
        (subst SendNone (sym (append-nil early_notes)) (steps_quiet setup led.early (facts_in base) led.quiet)) are

    sends_by : (sends : Bool) → led.sends ≡ sends → map (line_of side number) (early_notes ++ last_notes sends) ≡ lines ++ SentLine side number count llid body ∷ [] → IsMade
    sends_by true is are = noted_by (is_acked (facts_in middle).acknowledgement && not (is_empty (pdu_fixed (facts_in middle)))) is refl are
    sends_by false is are =
        not_last IsMade (early_notes ++ []) lines count llid body
        (subst SendNone (sym (append-nil early_notes)) (steps_quiet setup led.early (facts_in base) led.quiet)) are

    -- where its lines end with that of the new PDU
    pub led_made : map (line_of side number) (notes_opened_on after.setup after.past)
        ≡ map (line_of side number) (notes_opened_on base.setup base.past) ++ (lines ++ SentLine side number count llid body ∷ []) → IsMade
    led_made are =
        let before = notes_opened_on base.setup base.past in
        sends_by led.sends refl
        (append_cancel_left (map (line_of side number) before) (map (line_of side number) (early_notes ++ last_notes led.sends)) (lines ++ SentLine side number count llid body ∷ [])
        (sym (map-append (line_of side number) before (early_notes ++ last_notes led.sends)) ∙ ap (map (line_of side number)) (sym opened_notes) ∙ are))
