-- The ends of one link stay in agreement as either sends, and as it receives what the other sent.
use Rattle.std.proofs.Common.{◌≡◌, ℕ, ◌⊎◌, inl, inr, Bool, true, false, None, List, [], ◌∷◌, refl, sym, ap, subst, ◌∙◌}
use Rattle.std.proofs.lemmas.List.Sums.{fold-append}
use Rattle.ack_bit.proofs.Links.{begins, exchanged, sent}
use Rattle.run_model.specs.link_model.Acknowledgement.{Acknowledgement, Pdu, after_sending, empty_pdu, end_of, first_acknowledgement}
use Rattle.run_model.specs.link_model.OneLink.{AreInAgreement}
use Rattle.run_model.specs.link_model.Setup.{Setup}
use Rattle.run_model.proofs.link_model.Hearing.{IsHeardWhole}
use Rattle.run_model.specs.link_model.Controls.{pdu_fixed}
use Rattle.run_model.specs.link_model.End.{facts_after, facts_of}
use Rattle.run_model.specs.link_model.Facts.{Facts, first_facts}
use Rattle.run_model.specs.link_model.Hearing.{is_on_air}
use Rattle.run_model.specs.link_model.Packets.{good_pdu, packet_sent, whole_pdu}
use Rattle.run_model.specs.link_model.Step.{Step, DataGiven, DataReported, Disconnected, EventEntered, KeyAnswered, PacketReceived, PacketSent, PduFixed, ProcedureAsked, RequestAnswered, WordsGiven}
use Rattle.run_model.proofs.link_model.Acknowledging.{ack_sent as end_sent}
use Rattle.run_model.proofs.link_model.Agreeing.{ack_ahead, heard_agrees, others_leave}
use Rattle.run_model.specs.open_links.OpenLinks.{OpenLink, facts_in, link_after, link_served, new_link}
use Rattle.run_model.specs.open_links.Turns.{enters_in, entered_if, link_entered}
use Rattle.run_laws.specs.Ends.{HaveOneConnectInd}
use Rattle.run_laws.specs.Ranges.{IsReadable}
use Rattle.run_laws.specs.Shapes.{AgreeInShape, IsReadAsSent, shape_of, shapes_of}
use Rattle.run_model.proofs.controller_model.Asked.{IsAskedStep}
use Rattle.run_laws.proofs.AgreeingShapes.{heard_shapes, sent_shapes}
use Rattle.run_laws.proofs.ReadPackets.{IsGood, good_or_not, understood, unread_leaves}

abbrev pub ack_of : OpenLink → Acknowledgement
ack_of link = (facts_in link).acknowledgement

-- ---- a step of one of them

pub step_facts : (link : OpenLink) (step : Step) → facts_in (link_after step link) ≡ facts_after link.setup (facts_in link) step
unfolding facts_of
step_facts link step = fold-append (facts_after link.setup) (first_facts link.setup) link.past (step ∷ [])

-- in most steps it neither sends nor accepts
ack_kept : (step : Step) (link : OpenLink) → is_on_air step ≡ false → ack_of (link_after step link) ≡ ack_of link
ack_kept step link off = ap (λ (f : Facts). f.acknowledgement) (step_facts link step) ∙ others_leave link.setup (facts_in link) step off

pub ack_given : (start : Bool) (body : List ℕ) (link : OpenLink) → ack_of (link_after (DataGiven start body) link) ≡ ack_of link
ack_given start body link = ack_kept (DataGiven start body) link refl

pub ack_reported : (link : OpenLink) → ack_of (link_after DataReported link) ≡ ack_of link
ack_reported link = ack_kept DataReported link refl

pub ack_fixed : (link : OpenLink) → ack_of (link_after PduFixed link) ≡ ack_of link
ack_fixed link = ack_kept PduFixed link refl

-- nor does it by a command of its host
asked_off_air : (step : Step) → IsAskedStep step → is_on_air step ≡ false
asked_off_air (ProcedureAsked ask) by_host = refl
asked_off_air (RequestAnswered answer) by_host = refl
asked_off_air (KeyAnswered key slot) by_host = refl
asked_off_air (Disconnected reason slot) by_host = refl
asked_off_air (DataGiven start body) by_host = absurd by_host
asked_off_air other by_host = absurd by_host

pub ack_asked : (step : Step) (link : OpenLink) → IsAskedStep step → ack_of (link_after step link) ≡ ack_of link
ack_asked step link by_host = ack_kept step link (asked_off_air step by_host)

-- nor as it is given words
pub ack_worded : (skd_s iv_s : ℕ) (link : OpenLink) → ack_of (link_after (WordsGiven skd_s iv_s) link) ≡ ack_of link
ack_worded skd_s iv_s link = ack_kept (WordsGiven skd_s iv_s) link refl

pub ack_sent : (slot : ℕ) (link : OpenLink) → ack_of (link_after (PacketSent slot) link) ≡ ack_ahead (facts_in link)
ack_sent slot link = ap (λ (f : Facts). f.acknowledgement) (step_facts link (PacketSent slot)) ∙ end_sent slot (facts_in link)

-- ---- as a link begins

pub first_ack : (setup : Setup) → ack_of (new_link setup) ≡ first_acknowledgement
unfolding facts_of
first_ack setup = refl

-- a relation of what two ends have sent and accepted, which holds as a link begins, and which they keep as one of them
-- sends, and as one receives what the other sent and reads it so
pub record IsAgreement (R : Acknowledgement → Acknowledgement → Type 0) (Reads : Setup → Facts → Facts → List ℕ → Type 0) : Type 0 where
  pub back : (one other : Acknowledgement) → R one other → R other one
  pub begins : R first_acknowledgement first_acknowledgement
  pub sends : (next : Pdu) (one other : Acknowledgement) → R one other → R (after_sending next one) other
  pub hears : (from to : Setup) (sender listener : Facts) (slot : ℕ) (room : Bool) → IsReadable sender → from.link.fields ≡ to.link.fields
      → sender.event.channel ≡ listener.event.channel → Reads to listener sender (packet_sent from sender)
      → R (ack_ahead sender) listener.acknowledgement
      → R (ack_ahead sender) (facts_after to listener (PacketReceived slot (packet_sent from sender) room)).acknowledgement
  -- the words that it was given change nothing of how it reads
  pub worded : (to : Setup) (listener sender : Facts) (octets : List ℕ) (skd_s iv_s : ℕ) → Reads to listener sender octets
      → Reads to (facts_after to listener (WordsGiven skd_s iv_s)) sender octets

-- two ends that have one CONNECT_IND are in this relation
abbrev pub AgreeIn : (Acknowledgement → Acknowledgement → Type 0) → OpenLink → OpenLink → Type 0
AgreeIn R one other = HaveOneConnectInd one.setup other.setup → R (ack_of one) (ack_of other)

module _ (R : Acknowledgement → Acknowledgement → Type 0) (Reads : Setup → Facts → Facts → List ℕ → Type 0) (is : IsAgreement R Reads) where
  pub agree_by : (one after other : OpenLink) → after.setup ≡ one.setup → ack_of after ≡ ack_of one → AgreeIn R one other → AgreeIn R after other
  agree_by one after other setup same agree = λ both.
      subst (λ a. R a (ack_of other)) (sym same)
      (agree (subst (λ s. HaveOneConnectInd s other.setup) setup both))

  pub agree_given : (start : Bool) (body : List ℕ) (one other : OpenLink) → AgreeIn R one other → AgreeIn R (link_after (DataGiven start body) one) other
  agree_given start body one other agree = agree_by one (link_after (DataGiven start body) one) other refl (ack_given start body one) agree

  pub agree_reported : (one other : OpenLink) → AgreeIn R one other → AgreeIn R (link_after DataReported one) other
  agree_reported one other agree = agree_by one (link_after DataReported one) other refl (ack_reported one) agree

  pub agree_fixed : (one other : OpenLink) → AgreeIn R one other → AgreeIn R (link_after PduFixed one) other
  agree_fixed one other agree = agree_by one (link_after PduFixed one) other refl (ack_fixed one) agree

  pub agree_worded : (skd_s iv_s : ℕ) (one other : OpenLink) → AgreeIn R one other → AgreeIn R (link_after (WordsGiven skd_s iv_s) one) other
  agree_worded skd_s iv_s one other agree = agree_by one (link_after (WordsGiven skd_s iv_s) one) other refl (ack_worded skd_s iv_s one) agree

  pub agree_asked : (step : Step) (one other : OpenLink) → IsAskedStep step → AgreeIn R one other → AgreeIn R (link_after step one) other
  agree_asked step one other by_host agree = agree_by one (link_after step one) other refl (ack_asked step one by_host) agree

  entered_by : (enters : Bool) (slot : ℕ) (one other : OpenLink) → AgreeIn R one other → AgreeIn R (entered_if enters slot one) other
  entered_by false slot one other agree = agree
  entered_by true slot one other agree =
      agree_by one (link_after (EventEntered slot) one) other refl (ack_kept (EventEntered slot) one refl) agree

  pub agree_entered : (slot : ℕ) (one other : OpenLink) → AgreeIn R one other → AgreeIn R (link_entered slot one) other
  agree_entered slot one other agree = entered_by (enters_in slot one) slot one other agree

  pub agree_served : (slot : ℕ) (one other : OpenLink) → AgreeIn R one other → AgreeIn R (link_served slot one) other
  agree_served slot one other agree = agree

  pub agree_sent : (slot : ℕ) (one other : OpenLink) → AgreeIn R one other → AgreeIn R (link_after (PacketSent slot) one) other
  agree_sent slot one other agree = λ same.
      subst (λ a. R a (ack_of other)) (sym (ack_sent slot one))
      (is.sends (pdu_fixed (facts_in one)) (ack_of one) (ack_of other) (agree same))

  pub agree_new : (setup : Setup) (other : OpenLink) → (setup.opened ≡ other.setup.opened → ack_of other ≡ first_acknowledgement)
      → AgreeIn R (new_link setup) other
  agree_new setup other fresh = λ same.
      subst (λ a. R a (ack_of other)) (sym (first_ack setup))
      (subst (λ a. R first_acknowledgement a) (sym (fresh same.opened)) is.begins)

  -- the one is in agreement with the sender after it received the packet, too
  pub agree_received : (slot now : ℕ) (room : Bool) (one from : OpenLink) (octets : List ℕ) → IsReadable (facts_in from)
      → octets ≡ packet_sent from.setup (facts_in from) → (facts_in from).event.channel ≡ (facts_in one).event.channel
      → Reads one.setup (facts_in one) (facts_in from) octets → AgreeIn R one (link_after (PacketSent now) from)
      → AgreeIn R (link_after (PacketReceived slot octets room) one) (link_after (PacketSent now) from)
  agree_received slot now room one from octets readable packet channel reads agree = λ same.
      let sent = link_after (PacketSent now) from in
      let after = link_after (PacketReceived slot octets room) one in
      let sender = facts_in from in
      let listener = facts_in one in
      let before : R (ack_ahead sender) (ack_of one) =
      subst (λ a. R a (ack_of one)) (ack_sent now from) (is.back (ack_of one) (ack_of sent) (agree same)) in
      let heard = is.hears from.setup one.setup sender listener slot room readable (sym same.fields) channel
      (subst (Reads one.setup listener sender) packet reads) before in
      let received : ack_of after ≡ (facts_after one.setup listener (PacketReceived slot (packet_sent from.setup sender) room)).acknowledgement =
      ap (λ (f : Facts). f.acknowledgement) (step_facts one (PacketReceived slot octets room))
      ∙ ap (λ xs. (facts_after one.setup listener (PacketReceived slot xs room)).acknowledgement) packet in
      is.back (ack_of sent) (ack_of after)
      (subst (λ a. R a (ack_of after)) (sym (ack_sent now from)) (subst (R (ack_ahead sender)) (sym received) heard))

-- ---- what both ends sent and accepted

pub exchange : (one other : Acknowledgement) → AreInAgreement one other → AreInAgreement other one
exchange one other agreed = exchanged (end_of one) (end_of other) agreed

hears_as_sent : IsHeardWhole → (from to : Setup) (sender listener : Facts) (slot : ℕ) (room : Bool) → IsReadable sender
    → from.link.fields ≡ to.link.fields → sender.event.channel ≡ listener.event.channel → IsReadAsSent to listener sender (packet_sent from sender)
    → AreInAgreement (ack_ahead sender) listener.acknowledgement
    → AreInAgreement (ack_ahead sender) (facts_after to listener (PacketReceived slot (packet_sent from sender) room)).acknowledgement
hears_as_sent whole from to sender listener slot room readable fields channel reads agreed =
    by (good_or_not whole from to sender listener readable fields channel)
  where
    after : Acknowledgement
    after = (facts_after to listener (PacketReceived slot (packet_sent from sender) room)).acknowledgement

    by : (good_pdu to listener (packet_sent from sender) ≡ None) ⊎ IsGood whole from to sender listener readable fields channel
        → AreInAgreement (ack_ahead sender) after
    by (inl none) =
        subst (AreInAgreement (ack_ahead sender)) (sym (unread_leaves whole from to sender listener readable fields channel slot room none)) agreed
    by (inr good) =
        subst (λ a. AreInAgreement a after) (end_sent slot sender)
        (heard_agrees whole from to sender listener slot room
        (understood whole from to sender listener readable fields channel good.body good.is reads)
        (subst (λ a. AreInAgreement a listener.acknowledgement) (sym (end_sent slot sender)) agreed))

reads_worded : (to : Setup) (listener sender : Facts) (octets : List ℕ) (skd_s iv_s : ℕ) → IsReadAsSent to listener sender octets
    → IsReadAsSent to (facts_after to listener (WordsGiven skd_s iv_s)) sender octets
unfolding good_pdu whole_pdu
reads_worded to listener sender octets skd_s iv_s reads = reads

-- where each packet is read as it was sent
pub in_agreement : IsHeardWhole → IsAgreement AreInAgreement IsReadAsSent
in_agreement whole = record {
  back = exchange;
  begins = begins empty_pdu empty_pdu;
  sends = λ next one other agreed. sent (end_of one) (end_of other) next agreed;
  hears = hears_as_sent whole;
  worded = reads_worded;
}

-- however it is read
pub in_shape : IsHeardWhole → IsAgreement AgreeInShape (λ to listener sender octets. Unit {0})
in_shape whole = record {
  back = λ one other agreed. exchanged (shapes_of one) (shapes_of other) agreed;
  begins = begins (shape_of empty_pdu) (shape_of empty_pdu);
  sends = sent_shapes;
  hears = λ from to sender listener slot room readable fields channel reads agreed. heard_shapes whole from to sender listener slot room readable fields channel agreed;
  worded = λ to listener sender octets skd_s iv_s reads. reads;
}
