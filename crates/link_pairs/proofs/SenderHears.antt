-- The end that sent LL_TERMINATE_IND hears a packet of the end that took it: it sees that acknowledged, and takes nothing.
use Rattle.std.proofs.Common.{◌≡◌, ◌≤◌, ◌&&◌, ◌||◌, not, ℕ, Bool, true, false, List, Some, None, is_some, refl, sym, ap, ◌∙◌, subst, if◌then◌else◌}
use Rattle.std.proofs.lemmas.Bool.{or_right}
use Rattle.ble_base.specs.ErrorCodes.{terminated_by_local_host}
use Rattle.ble_base.specs.declared.verdicts.Verdict.TheVariants.{Forged, Good}
use Rattle.ble_base.specs.declared.roles.Role.{Role}
use Rattle.ble_base.specs.declared.roles.Role.TheVariants.{Central, Peripheral}
use Rattle.data_pdu.specs.declared.header.DataHeader.{DataHeader}
use Rattle.link_model.specs.Acknowledgement.{Pdu, is_acked}
use Rattle.link_model.specs.Data.{is_data, is_empty}
use Rattle.link_model.specs.OneLink.{AreInAgreement}
use Rattle.link_model.specs.Setup.{Setup}
use Rattle.link_model.proofs.Hearing.{IsHeardWhole}
use Rattle.link_model.specs.Controls.{goes_on, is_procedure_pdu, is_terminate}
use Rattle.link_model.specs.Facts.{Facts}
use Rattle.link_model.specs.Packets.{good_pdu, is_forged, verdict_of}
use Rattle.link_model.specs.Receiving.{accepted_if, data_taken_if, facts_hearing, has_ended, procedures_take_if, replies_by, replies_of}
use Rattle.link_model.specs.Step.{PacketReceived}
use Rattle.link_model.specs.Times.{ended_by_procedures}
use Rattle.link_model.proofs.Ending.{none_noted}
use Rattle.link_pairs.specs.Hearing.{IsPacketOf, is_mixed, is_mixed_packet, received}
use Rattle.link_pairs.specs.Parting.{ArePartingFrom, EndsForged, HasSeenTerminate, HearsTheEnd}
use Rattle.link_pairs.specs.Turns.{sent_if}
use Rattle.link_pairs.proofs.Counts.{acknowledged_by, says_right, turned}
use Rattle.link_pairs.proofs.HeardCounts.{before, before_by_peer, before_nothing, before_stays, hearing_agreed, takes}
use Rattle.link_pairs.proofs.HasSent.{sent_packet}
use Rattle.link_pairs.proofs.Items.{empty_is_no_data, empty_is_no_procedure, never}
use Rattle.link_pairs.proofs.OtherKeys.{Counts, unmixed_pure}
use Rattle.link_pairs.proofs.PacketsRead.{AreRead, expects, fits_listener, read_pure}
use Rattle.link_pairs.proofs.Replying.{forged_unanswered, good_not_forged, received_forged, replies_as}
use Rattle.link_pairs.proofs.Shutting.{forged_code}
use Rattle.link_pairs.proofs.TakingPdus.{taken_same}
use Rattle.link_pairs.proofs.Understanding.{IsOpenedThere, some_counted}
use Rattle.link_pairs.proofs.WholePackets.{FitsListener, judged}

-- ---- an end hears a packet that acknowledges its LL_TERMINATE_IND

-- what is accepted then is empty, so the procedures take nothing
nothing_given : (pdu : Pdu) (some fresh empty ended : Bool) → (is_empty pdu ≡ true → some ≡ false) → is_empty pdu ≡ empty → ended ≡ true
    → ((fresh && (empty || not ended)) && some) ≡ false
nothing_given pdu some fresh true ended none is over = ap (λ (b : Bool). (fresh && true) && b) (none is) ∙ never (fresh && true)
nothing_given pdu some true false ended none is over = ap (λ (b : Bool). not b && some) over
nothing_given pdu some false false ended none is over = refl

module _ (role : Role) (slot : ℕ) (room : Bool) (header : DataHeader) (pdu : Pdu) (facts : Facts)
    (acks : acknowledged_by facts.acknowledgement header ≡ true) (terminates : is_terminate facts.acknowledgement.last ≡ true) where
  abbrev now : Facts
  now = facts_hearing role slot room header pdu facts

  abbrev earlier : Facts
  earlier = before role slot room header pdu facts

  abbrev accepted : Bool
  accepted = takes role slot room header pdu facts

  ended_before : earlier.leaving.acknowledged ≡ true
  ended_before =
      before_stays role slot room header pdu facts
      ∙ (λ i. facts.leaving.acknowledged || (acks i && terminates i)) ∙ or_right facts.leaving.acknowledged true refl

  pub ended_now : now.leaving.acknowledged ≡ true
  ended_now = (taken_same (accepted && is_procedure_pdu pdu) (accepted && is_data pdu) pdu slot (accepted_if accepted pdu earlier)).acknowledged ∙ ended_before

  none_given : (accepted && is_procedure_pdu pdu) ≡ false
  none_given = nothing_given pdu (is_procedure_pdu pdu) _ (is_empty pdu) earlier.leaving.acknowledged (empty_is_no_procedure pdu) refl ended_before

  no_data : (accepted && is_data pdu) ≡ false
  no_data = nothing_given pdu (is_data pdu) _ (is_empty pdu) earlier.leaving.acknowledged (empty_is_no_data pdu) refl ended_before

  now_is : now ≡ accepted_if accepted pdu earlier
  now_is = λ i. data_taken_if (no_data i) (procedures_take_if (none_given i) pdu slot (accepted_if accepted pdu earlier))

  pub goes_on_now : facts.control.ends ≡ None → now.control.ends ≡ None
  goes_on_now lasts = ap (λ (f : Facts). f.control.ends) now_is ∙ (before_nothing role slot room header pdu facts).ends ∙ lasts

  pub took_none_now : facts.leaving.ended_by_peer ≡ None → now.leaving.ended_by_peer ≡ None
  took_none_now none = ap (λ (f : Facts). f.leaving.ended_by_peer) now_is ∙ before_by_peer role slot room header pdu facts ∙ none

-- ---- the sender hears the taker

module _ (whole : IsHeardWhole) (taker sender : Setup) (fields : taker.link.fields ≡ sender.link.fields) (most : sender.link.max_rx ≤ 251) (t s : Facts)
    (parting : ArePartingFrom taker sender t s) (slot channel : ℕ) (octets : List ℕ) (packet : IsPacketOf taker slot t channel octets)
    (same : channel ≡ s.event.channel) (room : Bool) where
  out : is_acked t.acknowledgement ≡ false
  out = (sent_packet taker slot t channel octets packet).out

  last : FitsListener sender parting.took.made t s
  last = fits_listener sender parting.took.made t s most parting.took.fits (expects s.encryption.end parting.took.made t parting.opens.last out)

  agreed : AreInAgreement s.acknowledgement t.acknowledgement
  agreed = turned t.acknowledgement s.acknowledgement parting.agreement

  -- it is good or forged
  pub judged_so : verdict_of sender s octets ≡ (if is_forged sender s octets then Forged else Good)
  judged_so = judged whole taker sender slot t s channel octets parting.took.made fields packet same last

  -- it is read as another only where it is mixed
  module _ (opened : IsOpenedThere) where
    some : Counts whole opened taker sender slot t s channel octets parting.took.made s.encryption.end fields packet same last agreed refl
        → is_empty t.acknowledgement.last ≡ false
    some = some_counted whole opened taker sender slot t s channel octets parting.took.made s.encryption.end fields packet same last agreed refl

    pub unmixed_parting : is_mixed_packet sender s t octets ≡ false → is_mixed sender s octets t.acknowledgement.last ≡ false
    unmixed_parting =
        unmixed_pure whole opened taker sender slot t s channel octets parting.took.made s.encryption.end fields packet same last agreed refl
        (λ counts. parting.opens.last.can out (some counts)) (λ counts. parting.opens.last.key out (some counts))

  -- where it opens that as it was sealed
  module _ (pure : is_mixed sender s octets t.acknowledgement.last ≡ false) (genuine : is_forged sender s octets ≡ false) where
    read : AreRead sender s slot octets t.acknowledgement
    read = read_pure whole taker sender slot t s channel octets parting.took.made fields packet same last pure genuine

    acks : acknowledged_by s.acknowledgement read.header ≡ true
    acks = (says_right s.acknowledgement t.acknowledgement agreed read.header read.bits read.out).acknowledged parting.unseen

    abbrev heard : Facts
    heard = received sender slot octets room s

    heard_is : heard ≡ facts_hearing sender.link.role slot room read.header t.acknowledgement.last s
    heard_is = read.facts room

    heard_ended : heard.leaving.acknowledged ≡ true
    heard_ended =
        ap (λ (f : Facts). f.leaving.acknowledged) heard_is
        ∙ ended_now sender.link.role slot room read.header t.acknowledgement.last s acks parting.sent.terminates

    heard_agreed_now : AreInAgreement heard.acknowledgement t.acknowledgement
    heard_agreed_now =
        subst (λ (f : Facts). AreInAgreement f.acknowledgement t.acknowledgement) (sym heard_is)
        (hearing_agreed sender.link.role slot room read.header s t.acknowledgement agreed read.bits read.out)

    pub has_seen : HasSeenTerminate t.acknowledgement heard
    has_seen =
        record {
          acknowledged = heard_ended;
          ending =
              ap (λ (b : Bool). if b then Some (record { 0 = terminated_by_local_host }) else ended_by_procedures heard.control.ends heard.leaving) heard_ended;
          goes_on =
              ap (λ (f : Facts). f.control.ends) heard_is
              ∙ goes_on_now sender.link.role slot room read.header t.acknowledgement.last s acks parting.sent.terminates parting.sent.goes_on;
          took_none =
              ap (λ (f : Facts). f.leaving.ended_by_peer) heard_is
              ∙ took_none_now sender.link.role slot room read.header t.acknowledgement.last s acks parting.sent.terminates parting.sent.took_none;
          agreement = turned heard.acknowledgement t.acknowledgement heard_agreed_now;
        }

    -- it does not answer
    no_reply_by : (role : Role) (ended : Bool) → ended ≡ true → replies_by role ended (good_pdu sender s octets) ≡ false
    no_reply_by Central ended is = refl
    no_reply_by Peripheral ended is = ap (λ (b : Bool). is_some (good_pdu sender s octets) && not b) is ∙ never (is_some (good_pdu sender s octets))

    ended_is : has_ended heard ≡ true
    ended_is = or_right (not (goes_on heard)) heard.leaving.acknowledged heard_ended

    no_reply : replies_of sender s slot octets room ≡ false
    no_reply = replies_as sender s slot octets room (good_not_forged sender s octets read.good) ∙ no_reply_by sender.link.role (has_ended heard) ended_is

    pub hears_the_end : HearsTheEnd sender s slot octets room
    hears_the_end =
        record {
          judged = read.judged;
          takes_none = none_noted sender s (PacketReceived slot octets room) heard_ended;
          answers_none = ap (λ (b : Bool). sent_if b sender slot heard) no_reply;
          replies = no_reply;
        }

  -- where it is forged
  module _ (forged : is_forged sender s octets ≡ true) where
    pub ends_forged : EndsForged sender s slot octets room
    ends_forged =
        record {
          judged = judged_so ∙ ap (λ (b : Bool). if b then Forged else Good) forged;
          ends =
              ap (λ (f : Facts). f.control.ends) (received_forged sender s slot octets room forged) ∙ forged_code s.control parting.sent.goes_on;
          answers_none = ap (λ (b : Bool). sent_if b sender slot (received sender slot octets room s)) (forged_unanswered sender s slot octets room forged);
          replies = forged_unanswered sender s slot octets room forged;
        }
