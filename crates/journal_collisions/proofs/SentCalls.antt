-- A central notes that it sends a PDU as a turn begins, last of all, after it fixed it.
use Rattle.std.proofs.Common.{◌≡◌, ℕ, ◌+◌, Bool, true, false, Option, Some, None, List, [], ◌∷◌, ◌++◌, refl, sym, ap, subst, ◌∙◌}
use Rattle.std.specs.Prelude.{All}
use Rattle.std.proofs.lemmas.List.Elements.{All-append, All-head, All-nil, All-tail}
use Rattle.ble_base.specs.declared.notes.Note.{Note}
use Rattle.ble_base.specs.declared.notes.Note.TheVariants.{Sent}
use Rattle.ble_base.specs.declared.roles.Role.TheVariants.{Central}
use Rattle.journal_endings.specs.controller_model.Facts.{Facts, Setup}
use Rattle.journal_endings.specs.controller_model.Heard.{has_room, link_heard, link_received, replies_in, reply_if}
use Rattle.journal_endings.specs.controller_model.Outcome.{notes_passed}
use Rattle.journal_endings.specs.controller_model.Packets.{notes_doing, notes_sent}
use Rattle.journal_endings.specs.controller_model.Radio.{outcome_begun}
use Rattle.journal_endings.specs.controller_model.Side.{facts_after, facts_of, notes_after}
use Rattle.journal_endings.specs.controller_model.Step.{Step, HostOctet, TurnBegins, PacketHeard, NothingHeard, TurnEnds}
use Rattle.journal_endings.proofs.PairedEnds.{one_link}
use Rattle.journal_endings.proofs.controller_model.Handles.{own_handles}
use Rattle.journal_endings.proofs.controller_model.Places.{link_receiving}
use Rattle.journal_endings.specs.link_calls.Turns.{fixed_if}
use Rattle.journal_endings.proofs.link_calls.CallNotes.{HasNoData, SendsNone, all_more, end_noted, is_sending, no_data, notes_starting, octet_noted, start_noted}
use Rattle.journal_endings.proofs.link_calls.LinkCalls.{begins_under, received_noted, taking_sends}
use Rattle.journal_endings.specs.journal_indications.journal_data.link_model.Controls.{pdu_fixed}
use Rattle.journal_endings.specs.journal_indications.journal_data.link_model.Acknowledgement.{Pdu}
use Rattle.journal_endings.specs.journal_indications.journal_data.link_model.Sending.{sent_notes, sent_notes_if}
use Rattle.journal_endings.specs.journal_indications.journal_data.link_model.Setup.{Setup as EndSetup}
use Rattle.journal_endings.specs.journal_indications.journal_data.link_model.Step.{PacketSent, PduFixed}
use Rattle.journal_endings.specs.journal_indications.journal_data.open_links.OpenLinks.{OpenLink, facts_in, link_after, link_at}
use Rattle.journal_endings.specs.journal_indications.journal_data.open_links.Turns.{link_entered}
use Rattle.journal_endings.specs.journal_indications.journal_data.run_model.Run.{step_of}
use Rattle.journal_endings.proofs.journal_indications.journal_data.journal_acks.DataCalls.{on_link_notes, own_begun, received_at, sent_at, unfound}
use Rattle.journal_endings.proofs.journal_indications.journal_data.journal_acks.NewPdus.{in_middle}
use Rattle.journal_endings.proofs.journal_indications.journal_data.journal_acks.Worded.{link_worded, worded, worded_here, worded_setup}
use Rattle.journal_endings.proofs.journal_indications.journal_data.journal_acks.PhaseNotes.{IsOnLink, IsPhaseOf, IsPlainPhase, SendsFrom, SendsNothing, SendsOne, phase_of, sends_from}
use Rattle.journal_endings.proofs.journal_indications.journal_data.open_links.Handles.{handle_is}
use Rattle.journal_endings.proofs.journal_indications.journal_data.run_laws.LinkPhases.{begins_in}
use Rattle.journal_endings.proofs.run_pairs.EndCalls.{central_sends, central_silent}
use Rattle.journal_ends.proofs.journal_packets.Replies.{receiving_setup as received_setup_is}

-- ---- lists of notes

data IsShort (notes : List Note) : Type 0 where
  IsNone : notes ≡ [] → IsShort notes
  IsOne : (note : Note) → notes ≡ note ∷ [] → IsShort notes

no_notes : (earlier later : List Note) (note : Note) (X : Type 0) → [] ≡ earlier ++ note ∷ later → X
no_notes [] later note X is = absurd cc
no_notes (first ∷ earlier) later note X is = absurd cc

short_is : (last earlier later : List Note) (note : Note) → IsShort last → last ≡ earlier ++ note ∷ later → last ≡ note ∷ []
short_is last earlier later note (IsNone none) is = no_notes earlier later note _ (sym none ∙ is)
short_is last [] later note (IsOne one are) is =
    let same : one ∷ [] ≡ note ∷ later = sym are ∙ is in
    let first : one ≡ note = cc in are ∙ ap (λ (n : Note). n ∷ []) first
short_is last (first ∷ earlier) later note (IsOne one are) is =
    let same : one ∷ [] ≡ first ∷ (earlier ++ note ∷ later) = sym are ∙ is in
    let rest : [] ≡ earlier ++ note ∷ later = cc in no_notes earlier later note _ rest

-- what is noted last of all
last_is : (start last earlier later : List Note) (note : Note) → All SendsNone start → IsShort last → is_sending note ≡ true
    → start ++ last ≡ earlier ++ note ∷ later → last ≡ note ∷ []
last_is [] last earlier later note none short sends is = short_is last earlier later note short is
last_is (first ∷ start) last [] later note none short sends is =
    let same : first ≡ note = cc in
    absurd (let h : true ≡ false = sym sends ∙ ap is_sending (sym same) ∙ All-head SendsNone first start none in absurd cc)
last_is (first ∷ start) last (other ∷ earlier) later note none short sends is =
    let rest : start ++ last ≡ earlier ++ note ∷ later = cc in last_is start last earlier later note (All-tail SendsNone first start none) short sends rest

-- nothing is noted after it
last_alone : (start earlier later : List Note) (note : Note) → All SendsNone start → is_sending note ≡ true
    → start ++ note ∷ [] ≡ earlier ++ note ∷ later → later ≡ []
last_alone [] [] later note none sends is = let rest : [] ≡ later = cc in sym rest
last_alone [] (first ∷ earlier) later note none sends is = let rest : [] ≡ earlier ++ note ∷ later = cc in no_notes earlier later note _ rest
last_alone (first ∷ start) [] later note none sends is =
    let same : first ≡ note = cc in
    absurd (let h : true ≡ false = sym sends ∙ ap is_sending (sym same) ∙ All-head SendsNone first start none in absurd cc)
last_alone (first ∷ start) (other ∷ earlier) later note none sends is =
    let rest : start ++ note ∷ [] ≡ earlier ++ note ∷ later = cc in last_alone start earlier later note (All-tail SendsNone first start none) sends rest

unsent_none : (notes earlier later : List Note) (note : Note) (X : Type 0) → All SendsNone notes → is_sending note ≡ true → notes ≡ earlier ++ note ∷ later → X
unsent_none notes earlier later note X none sends is =
    absurd (let h : true ≡ false = sym sends ∙ in_middle SendsNone earlier later note (subst (All SendsNone) is none) in absurd cc)

no_data_sent : (notes : List Note) → All HasNoData notes → All SendsNone notes
no_data_sent notes none = all_more HasNoData SendsNone (λ note has. has.sends) notes none

sent_short : (noted : Bool) (handle number : ℕ) (pdu : Pdu) → IsShort (sent_notes_if noted handle number pdu)
sent_short true handle number pdu = IsOne _ refl
sent_short false handle number pdu = IsNone refl

-- ---- the call

-- the link under the handle enters its event where that is due, fixes its PDU, and notes that it sends this one
pub record IsSentAtBegin (setup : Setup) (facts : Facts) (later : List Note) (step : Step) (handle count llid : ℕ) (body : List ℕ) (link : OpenLink) : Type 0 where
  pub slot : ℕ
  pub on : Bool
  pub step_is : step ≡ TurnBegins slot on
  pub base : OpenLink
  pub setup_is : base.setup ≡ link.setup
  pub past_is : base.past ≡ (link_entered slot link).past ++ PduFixed ∷ []
  pub notes : sent_notes base.setup (facts_in base) ≡ Sent handle count llid (record { items = body }) ∷ []
  -- it is the last note of the call, after which the link is open
  pub last : later ≡ []
  pub sent_slot : ℕ
  pub then_open : link_at handle (facts_after setup facts step).links ≡ Some (link_after (PacketSent sent_slot) base)

own_note : (own number other counted llid : ℕ) (pdu : Pdu) (body : List ℕ) (noted : Bool)
    → sent_notes_if noted own number pdu ≡ Sent other counted llid (record { items = body }) ∷ [] → own ≡ other
own_note own number other counted llid pdu body true is =
    let one : Sent own (number + 1) pdu.llid (record { items = pdu.body }) ≡ Sent other counted llid (record { items = body }) = cc in cc
own_note own number other counted llid pdu body false is = absurd cc

fixed_past : (fixes : Bool) (one entered : OpenLink) → fixes ≡ true → one ≡ fixed_if fixes entered → one.past ≡ entered.past ++ PduFixed ∷ []
fixed_past true one entered on is = ap (λ (l : OpenLink). l.past) is
fixed_past false one entered on is = absurd cc

fixed_setup : (fixes : Bool) (one entered : OpenLink) → one ≡ fixed_if fixes entered → one.setup ≡ entered.setup
fixed_setup true one entered is = ap (λ (l : OpenLink). l.setup) is
fixed_setup false one entered is = ap (λ (l : OpenLink). l.setup) is

-- a call that notes a PDU of a link as sent: the link was open before, and it is a turn that begins or, of a peripheral,
-- its answer
pub data IsSentIn (setup : Setup) (facts : Facts) (later : List Note) (step : Step) (handle count llid : ℕ) (body : List ℕ) : Type 0 where
  AtBegin : (link : OpenLink) → link_at handle facts.links ≡ Some link
      → (link.setup.link.role ≡ Central → IsSentAtBegin setup facts later step handle count llid body link)
      → IsSentIn setup facts later step handle count llid body
  AsAnswer : (link : OpenLink) → link_at handle facts.links ≡ Some link → (link.setup.link.role ≡ Central → ⊥)
      → IsSentIn setup facts later step handle count llid body

module _ (setup : Setup) (past : List Step) (earlier later : List Note) (handle count llid : ℕ) (body : List ℕ) where
  abbrev facts : Facts
  facts = facts_of setup past

  abbrev note : Note
  note = Sent handle count llid (record { items = body })

  abbrev Is : Step → Type 0
  Is step = IsSentIn setup facts later step handle count llid body

  begun_sent : (slot : ℕ) (on : Bool) → notes_after setup facts (TurnBegins slot on) ≡ earlier ++ note ∷ later
      → SendsFrom (outcome_begun slot on facts).next (outcome_begun slot on facts).facts → Is (TurnBegins slot on)
  begun_sent slot on is (SendsNothing none) =
      unsent_none (notes_starting slot facts ++ []) earlier later note _
      (All-append SendsNone (notes_starting slot facts) [] (no_data_sent (notes_starting slot facts) (start_noted HasNoData no_data slot facts)) (All-nil SendsNone)) refl
      (ap (λ xs. notes_starting slot facts ++ xs) (sym none) ∙ is)
  begun_sent slot on is (SendsOne other base found sends noted) =
      let outcome = outcome_begun slot on facts in
      let after = link_after (PacketSent outcome.facts.turn.slot) base in
      let begun = begins_under setup facts slot on other after (sent_at outcome.facts.turn.slot other outcome.next outcome.facts.links base sends found) in
      let base_is = one_link begun.base base (sym begun.found ∙ found) in
      let own = handle_is 0 other outcome.facts.links base (own_begun setup slot on facts (own_handles setup past)).handles found in
      let last = last_is (notes_starting slot facts) (sent_notes base.setup (facts_in base)) earlier later note
      (no_data_sent (notes_starting slot facts) (start_noted HasNoData no_data slot facts)) (sent_short _ base.setup.link.handle _ _) refl
      (ap (λ xs. notes_starting slot facts ++ xs) (sym noted) ∙ is) in
      let here : base.setup.link.handle ≡ handle = own_note base.setup.link.handle _ handle count llid (pdu_fixed (facts_in base)) body _ last in
      let same : other ≡ handle = sym own ∙ here in
      let then_on = facts_after setup facts (TurnBegins slot on) in
      let base_setup = ap (λ (l : OpenLink). l.setup) (sym base_is) ∙ fixed_setup begun.fixes begun.base begun.entered begun.base_is ∙ begun.setup_is in
      AtBegin begun.link (ap (λ n. link_at n facts.links) (sym same) ∙ begun.was) (λ role. record {
        slot = slot;
        on = on;
        step_is = refl;
        base = base;
        setup_is = base_setup;
        past_is = ap (λ (l : OpenLink). l.past) (sym base_is)
            ∙ fixed_past begun.fixes begun.base begun.entered
            (begun.fixes_is
            ∙ central_sends then_on.links other after (sent_at outcome.facts.turn.slot other outcome.next outcome.facts.links base sends found) outcome.next
            (begins_in setup slot on facts) (ap (λ (e : EndSetup). e.link.role) base_setup ∙ role) ∙ sends) begun.base_is
            ∙ ap (λ xs. xs ++ PduFixed ∷ []) begun.past_is;
        notes = last;
        last =
            last_alone (notes_starting slot facts) earlier later note
            (no_data_sent (notes_starting slot facts) (start_noted HasNoData no_data slot facts)) refl
            (ap (λ xs. notes_starting slot facts ++ xs) (sym last) ∙ ap (λ xs. notes_starting slot facts ++ xs) (sym noted) ∙ is);
        sent_slot = outcome.facts.turn.slot;
        then_open =
            let opened : link_at other then_on.links ≡ Some after = sent_at outcome.facts.turn.slot other outcome.next outcome.facts.links base sends found in
            ap (λ n. link_at n then_on.links) (sym same) ∙ opened;
      })

  -- octets are received on a link, which may have been given words
  module _ (octets : List ℕ) (other : ℕ) (words : Bool) (step : Step)
      (is : notes_passed (link_heard setup other octets (worded words setup other facts)) ≡ earlier ++ note ∷ later) where
    abbrev room : Bool
    room = has_room setup facts

    abbrev slot : ℕ
    slot = facts.turn.slot

    abbrev held : Facts
    held = worded words setup other facts

    abbrev first : List Note
    first = (link_heard setup other octets held).notes

    first_none : All SendsNone first
    first_none = received_noted SendsNone taking_sends setup other octets held

    by_reply : (link : OpenLink) → link_at other facts.links ≡ Some link → (replies : Bool) → replies_in slot room (link_at other held.links) octets ≡ replies
        → Is step
    by_reply link at false replies =
        unsent_none (first ++ []) earlier later note _ (All-append SendsNone first [] first_none (All-nil SendsNone)) refl
        (ap (λ (b : Bool). first ++ notes_doing (reply_if b other) (link_received other room octets held)) (sym replies) ∙ is)
    by_reply link at true replies =
        let base = link_worded words setup facts link in
        let base_at = worded_here words setup other facts (Some link) at in
        let base_setup = worded_setup setup facts link words in
        let taken = link_receiving other room octets held base in
        let sent = ap (notes_sent slot) (received_at other octets room held base base_at) in
        let last = last_is first (sent_notes taken.setup (facts_in taken)) earlier later note first_none (sent_short _ taken.setup.link.handle _ _) refl
        (ap (λ xs. first ++ xs) (sym sent)
        ∙ ap (λ (b : Bool). first ++ notes_doing (reply_if b other) (link_received other room octets held)) (sym replies) ∙ is) in
        let here : taken.setup.link.handle ≡ handle = own_note taken.setup.link.handle _ handle count llid (pdu_fixed (facts_in taken)) body _ last in
        let own = handle_is 0 other facts.links link (own_handles setup past).handles at in
        let same : other ≡ handle =
        sym own ∙ ap (λ (e : EndSetup). e.link.handle) (sym (received_setup_is other room octets held base ∙ base_setup)) ∙ here in
        AsAnswer link (ap (λ n. link_at n facts.links) (sym same) ∙ at) (λ role.
        let silent = central_silent base.setup slot octets room (facts_in base) (ap (λ (e : EndSetup). e.link.role) base_setup ∙ role) in
        let h : true ≡ false = sym replies ∙ ap (λ place. replies_in slot room place octets) base_at ∙ silent in absurd cc)

    by_link : (found : Option OpenLink) → link_at other facts.links ≡ found → Is step
    by_link None at = no_notes earlier later note _ (sym (unfound setup held other octets (worded_here words setup other facts None at)) ∙ is)
    by_link (Some link) at = by_reply link at (replies_in slot room (link_at other held.links) octets) refl

  heard_sent : (received : Option (List ℕ)) → notes_after setup facts (step_of received) ≡ earlier ++ note ∷ later → IsPhaseOf setup facts received
      → Is (step_of received)
  heard_sent received is (IsPlainPhase deaf none) =
      unsent_none (notes_after setup facts (step_of received)) earlier later note _ (no_data_sent (notes_after setup facts (step_of received)) none) refl is
  heard_sent received is (IsOnLink other words octets got listens on) =
      by_link octets other words (step_of received)
      (sym (on_link_notes setup facts received octets (link_heard setup other octets (worded words setup other facts)) got (ap notes_passed on)) ∙ is)
      (link_at other facts.links) refl

  pub sent_in : (step : Step) → notes_after setup facts step ≡ earlier ++ note ∷ later → Is step
  sent_in (HostOctet octet) is =
      unsent_none (notes_after setup facts (HostOctet octet)) earlier later note _
      (no_data_sent _ (octet_noted HasNoData no_data.feeds setup facts octet)) refl is
  sent_in (TurnBegins slot on) is = begun_sent slot on is (sends_from (outcome_begun slot on facts).next (outcome_begun slot on facts).facts)
  sent_in (PacketHeard octets) is = heard_sent (Some octets) is (phase_of setup facts (Some octets))
  sent_in NothingHeard is = heard_sent None is (phase_of setup facts None)
  sent_in TurnEnds is =
      unsent_none (notes_after setup facts TurnEnds) earlier later note _ (no_data_sent _ (end_noted HasNoData no_data.feeds setup facts)) refl is
