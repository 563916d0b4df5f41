-- What the last line of a side tells of the packet that its station is to send.
use Rattle.std.proofs.Common.{◌≡◌, ℕ, ◌+◌, ◌==◌, ◌&&◌, not, Bool, true, false, Option, Some, None, List, [], ◌∷◌, ◌++◌, cond, length, refl, sym, ap, subst, ◌∙◌, append-nil}
use Rattle.std.specs.Prelude.{All, if◌then◌else◌}
use Rattle.std.proofs.lemmas.Bool.{eqb-true}
use Rattle.std.proofs.lemmas.List.{length-append}
use Rattle.std.proofs.lemmas.List.Elements.{All-append, filter-append}
use Rattle.ack_bit.specs.Nonempty.{nonempty}
use Rattle.ble_base.specs.declared.notes.Note.{Note}
use Rattle.ble_base.specs.declared.roles.Side.{Side}
use Rattle.journal.specs.declared.entries.Entry.{Entry}
use Rattle.journal.specs.declared.entries.Entry.TheVariants.{Air}
use Rattle.journal_leaving.specs.link_model.Acknowledgement.{Acknowledgement, Pdu, is_acked, next_sent}
use Rattle.journal_leaving.specs.link_model.Data.{is_empty, numbered}
use Rattle.journal_leaving.specs.link_model.Controls.{pdu_fixed}
use Rattle.journal_leaving.specs.link_model.Sending.{sent_notes_if}
use Rattle.journal_leaving.specs.link_model.Facts.{Facts as EndFacts}
use Rattle.journal_leaving.specs.link_model.Step.{PacketReceived, PacketSent}
use Rattle.journal_leaving.specs.link_model.Setup.{Setup as EndSetup}
use Rattle.journal_leaving.specs.journal_data.open_links.OpenLinks.{Links, OpenLink, facts_in, link_after, link_at}
use Rattle.journal_leaving.proofs.journal_data.open_links.Handles.{handle_is}
use Rattle.journal_leaving.specs.controller_model.declared.doing.Doing.{Doing}
use Rattle.journal_leaving.specs.controller_model.declared.doing.Doing.TheVariants.{Advertises, CentralSends, PeripheralSends, Rests}
use Rattle.journal_leaving.specs.controller_model.Step.{Step, HostOctet, TurnBegins}
use Rattle.journal_leaving.specs.controller_model.Facts.{Setup, Facts}
use Rattle.journal_leaving.specs.controller_model.Heard.{has_room, heard, link_heard, link_received, replies_in, reply_if}
use Rattle.journal_leaving.specs.controller_model.Outcome.{Outcome, facts_passed, notes_passed}
use Rattle.journal_leaving.specs.controller_model.Packets.{notes_doing, notes_sent}
use Rattle.journal_leaving.specs.controller_model.Radio.{outcome_begun}
use Rattle.journal_leaving.specs.controller_model.Side.{facts_after, notes_after}
use Rattle.journal_leaving.proofs.controller_model.Places.{link_receiving, receiving_is}
use Rattle.journal_leaving.specs.run_model.Feeding.{AreDistinct}
use Rattle.journal_leaving.specs.run_model.History.{Event, TurnBegan, HostFed, Transmitted, Hearing, is_good, packet_received}
use Rattle.journal_leaving.specs.run_model.Journal.{air_entries, journal_of, mark_of, side_of}
use Rattle.journal_leaving.specs.run_model.Links.{is_advertising}
use Rattle.journal_leaving.specs.run_model.Run.{Given, after_call, after_feed, after_octets, facts_at, setup_at, step_of}
use Rattle.journal_leaving.proofs.run_model.Parts.{journal_event}
use Rattle.journal_leaving.proofs.run_model.Stations.{is_in}
use Rattle.journal_leaving.proofs.run_model.Walk.{Place, AtListening}
use Rattle.journal_leaving.proofs.journal_data.run_laws.Agreed.{ack_of}
use Rattle.journal_leaving.proofs.journal_data.run_laws.ByCalls.{Holds}
use Rattle.journal_leaving.proofs.journal_data.run_laws.Hearings.{other_facts, own_facts}
use Rattle.journal_leaving.proofs.journal_data.run_laws.InAgreement.{AreStations, IsStation, differs_back}
use Rattle.journal_leaving.specs.journal_links.Begun.{link_numbered}
use Rattle.journal_leaving.specs.journal_packets.Belonging.{is_side, link_of_packet}
use Rattle.journal_leaving.specs.journal_acks.Exchange.{Exchanged, after_packet, carries_empty, exchange_of, is_number, with_heard, with_sent}
use Rattle.journal_leaving.proofs.journal_acks.Worded.{link_worded, received_ack_is, worded, worded_heard, worded_setup}
use Rattle.journal_leaving.proofs.journal_acks.link_calls.CallNotes.{HasNoData, SendsNone, all_more, doing_noted, no_data, notes_starting, start_noted}
use Rattle.journal_leaving.proofs.journal_acks.Counting.{AreCountedSo, AreKnown, facts_event, plain}
use Rattle.journal_leaving.proofs.journal_acks.DataCalls.{on_link_notes, own_begun, sent_at}
use Rattle.journal_leaving.proofs.journal_acks.link_calls.CallNotes.{OpensNone, opening_none}
use Rattle.journal_leaving.proofs.journal_acks.Exchanging.{exchange_at, exchange_more, exchange_other, exchange_same, feed_quiet, number_at, number_called}
use Rattle.journal_leaving.proofs.journal_acks.Exchanging.{number_other, number_quiet, number_sent as number_aired, turn_quiet}
use Rattle.journal_leaving.proofs.journal_acks.KeptCounts.{AreCountedAt, before_call, own_at, phased, station_is, unsent, was_taking}
use Rattle.journal_leaving.proofs.journal_acks.KeptLines.{rests_deaf, rests_none}
use Rattle.journal_leaving.specs.journal_acks.link_calls.Phases.{HasPassed, IsNew, Stays, Takes}
use Rattle.journal_leaving.proofs.journal_acks.link_calls.LinkCalls.{base_ack, begins_under, off_sends, passes_under, received_noted}
use Rattle.journal_leaving.proofs.journal_acks.link_calls.LinkCalls.{taking_opens, taking_sends}
use Rattle.journal_leaving.specs.journal_acks.link_calls.Uses.{listens_under, sends_under}
use Rattle.journal_leaving.proofs.journal_acks.PhaseNotes.{IsOnLink, IsPhaseOf, IsPlainPhase, phase_of, same_but}
use Rattle.journal_leaving.proofs.journal_acks.TwoStations.{IsOfTwo, other_apart, same_number}
use Rattle.journal_leaving.proofs.journal_acks.link_calls.UnderHandles.{WasOpen, change_under, sending_under}
use Rattle.journal_leaving.proofs.journal_packets.Replies.{receiving_setup as received_setup_is}
use Rattle.journal_leaving.specs.journal_acks.link_calls.Turns.{change_if}
use Rattle.journal_leaving.specs.journal_data.Lines.{PduLine}
use Rattle.journal_sending.specs.Announced.{is_first_sent, pdu_line_if}
use Rattle.journal_sending.proofs.ToldLines.{air_other_told, called_none, called_other, called_sent, fed_other_told, told_at, turn_told}

-- ---- a new PDU, over plain variables

-- the new PDU with a payload that an end sends next, as its line tells it
abbrev pub line_to_send : ℕ → EndFacts → Option PduLine
line_to_send number facts =
    pdu_line_if (is_acked facts.acknowledgement && not (is_empty (pdu_fixed facts))) number (numbered facts.acknowledgement.sent + 1) (pdu_fixed facts)

numbered_more : (pdus : List Pdu) (pdu : Pdu) → is_empty pdu ≡ false → numbered (pdus ++ pdu ∷ []) ≡ numbered pdus + 1
numbered_more pdus pdu full =
    ap length (filter-append (λ (one : Pdu). not (is_empty one)) pdus (pdu ∷ [])) ∙ length-append (nonempty is_empty pdus) (nonempty is_empty (pdu ∷ []))
    ∙ ap (λ (b : Bool). numbered pdus + length (cond (not b) (pdu ∷ []) [])) full

-- the packet of an end brings what its line tells
pub brings_line : (acked empty : Bool) (ack : Acknowledgement) (fixed carried : Pdu) (end : Exchanged) (number count : ℕ) → is_empty fixed ≡ empty → (end.acked == end.sent) ≡ acked
    → carried ≡ (next_sent acked fixed ack).last → count ≡ numbered (next_sent acked fixed ack).sent
    → pdu_line_if (acked && not empty) number (numbered ack.sent + 1) fixed ≡ pdu_line_if (is_first_sent end carried) number count carried
brings_line false empty ack fixed carried end number count empty_is all last many = sym (ap (λ b. pdu_line_if (b && not (is_empty carried)) number count carried) all)
brings_line true true ack fixed carried end number count empty_is all last many =
    sym (ap (λ b. pdu_line_if (b && not (is_empty carried)) number count carried) all ∙ ap (λ b. pdu_line_if (not b) number count carried) (ap is_empty last ∙ empty_is))
brings_line true false ack fixed carried end number count empty_is all last many =
    sym (ap (λ b. pdu_line_if (b && not (is_empty carried)) number count carried) all ∙ ap (λ b. pdu_line_if (not b) number count carried) (ap is_empty last ∙ empty_is)
    ∙ (λ i. pdu_line_if true number ((many ∙ numbered_more ack.sent fixed empty_is) i) (last i)))

-- ---- what is told of a packet that is still to come

-- the handle of the link on which a controller sends
abbrev pub handle_sent : Doing → Option ℕ
handle_sent (CentralSends handle) = Some handle
handle_sent (PeripheralSends handle) = Some handle
handle_sent (Advertises channel) = None
handle_sent other = None

none_sent : (doing : Doing) → ((handle : ℕ) → sends_under handle doing ≡ false) → handle_sent doing ≡ None
none_sent (CentralSends handle) off = let h : true ≡ false = sym (same_number handle) ∙ off handle in absurd cc
none_sent (PeripheralSends handle) off = let h : true ≡ false = sym (same_number handle) ∙ off handle in absurd cc
none_sent (Advertises channel) off = refl
none_sent other off = refl

pub sent_under : (handle : ℕ) (doing : Doing) → sends_under handle doing ≡ true → handle_sent doing ≡ Some handle
sent_under handle (CentralSends other) on = ap Some (eqb-true other handle on)
sent_under handle (PeripheralSends other) on = ap Some (eqb-true other handle on)
sent_under handle (Advertises channel) on = absurd cc
sent_under handle other on = absurd cc

-- a link that sends: the last line of its station tells the new PDU of its packet, if that has one
pub record Tells (station handle : ℕ) (history : List Event) (after : OpenLink) : Type 0 where
  pub slot : ℕ
  pub base : OpenLink
  pub after_is : after ≡ link_after (PacketSent slot) base
  pub sent : (exchange_at (number_at station handle history) history (side_of station)).sent ≡ length (ack_of base).sent
  pub told_is : told_at station history ≡ line_to_send (number_at station handle history) (facts_in base)

abbrev pub TellsAt : Option OpenLink → ℕ → ℕ → List Event → Type 0
TellsAt (Some after) handle station history = Tells station handle history after
TellsAt None handle station history = told_at station history ≡ None

abbrev pub TellsOn : Option ℕ → Links → ℕ → List Event → Type 0
TellsOn None links station history = told_at station history ≡ None
TellsOn (Some handle) links station history = TellsAt (link_at handle links) handle station history

-- and nothing where it sends on no link, or its packet was on the air
abbrev pub IsTold : Given → Bool → ℕ → List Event → Type 0
IsTold given unsent station history =
    TellsOn (if unsent then handle_sent (facts_at given station history).turn.doing else None) (facts_at given station history).links station history

none_at : (found : Option OpenLink) (handle station : ℕ) (history : List Event) → told_at station history ≡ None → ((link : OpenLink) → found ≡ Some link → ⊥)
    → TellsAt found handle station history
none_at (Some link) handle station history none never = absurd (never link refl)
none_at None handle station history none never = none

at_none : (found : Option OpenLink) (handle station : ℕ) (history : List Event) → TellsAt found handle station history → ((link : OpenLink) → found ≡ Some link → ⊥)
    → told_at station history ≡ None
at_none (Some link) handle station history tells never = absurd (never link refl)
at_none None handle station history tells never = tells

-- no open link sends
abbrev NoneSends : Doing → Links → Type 0
NoneSends doing links = (handle : ℕ) (link : OpenLink) → sends_under handle doing ≡ true → link_at handle links ≡ Some link → ⊥

none_tells : (doing : Doing) (links : Links) (station : ℕ) (history : List Event) → told_at station history ≡ None → NoneSends doing links
    → TellsOn (handle_sent doing) links station history
none_tells (CentralSends handle) links station history none never = none_at (link_at handle links) handle station history none (λ link at. never handle link (same_number handle) at)
none_tells (PeripheralSends handle) links station history none never = none_at (link_at handle links) handle station history none (λ link at. never handle link (same_number handle) at)
none_tells (Advertises channel) links station history none never = none
none_tells other links station history none never = none

pub tells_none : (doing : Doing) (links : Links) (station : ℕ) (history : List Event) → TellsOn (handle_sent doing) links station history
    → ((handle : ℕ) (link : OpenLink) → sends_under handle doing ≡ true → link_at handle links ≡ Some link → ⊥) → told_at station history ≡ None
tells_none (CentralSends handle) links station history tells never = at_none (link_at handle links) handle station history tells (λ link at. never handle link (same_number handle) at)
tells_none (PeripheralSends handle) links station history tells never = at_none (link_at handle links) handle station history tells (λ link at. never handle link (same_number handle) at)
tells_none (Advertises channel) links station history tells never = tells
tells_none other links station history tells never = tells

-- ---- what changes nothing for a station

pub record StaysTold (given : Given) (station : ℕ) (history after : List Event) : Type 0 where
  pub told_is : told_at station after ≡ told_at station history
  pub facts : facts_at given station after ≡ facts_at given station history
  pub number : (handle : ℕ) → number_at station handle after ≡ number_at station handle history
  pub sent : (number : ℕ) → (exchange_at number after (side_of station)).sent ≡ (exchange_at number history (side_of station)).sent

stays_then : (given : Given) (station : ℕ) (history mid after : List Event) → StaysTold given station history mid → StaysTold given station mid after → StaysTold given station history after
stays_then given station history mid after one two = record {
  told_is = two.told_is ∙ one.told_is;
  facts = two.facts ∙ one.facts;
  number = λ handle. two.number handle ∙ one.number handle;
  sent = λ number. two.sent number ∙ one.sent number;
}

still_at : (given : Given) (station : ℕ) (history after : List Event) → StaysTold given station history after → (found : Option OpenLink) (handle : ℕ)
    → TellsAt found handle station history → TellsAt found handle station after
still_at given station history after stays (Some link) handle tells = record {
  slot = tells.slot;
  base = tells.base;
  after_is = tells.after_is;
  sent = ap (λ n. (exchange_at n after (side_of station)).sent) (stays.number handle) ∙ stays.sent (number_at station handle history) ∙ tells.sent;
  told_is = stays.told_is ∙ tells.told_is ∙ ap (λ n. line_to_send n (facts_in tells.base)) (sym (stays.number handle));
}
still_at given station history after stays None handle tells = stays.told_is ∙ tells

still_on : (given : Given) (station : ℕ) (history after : List Event) → StaysTold given station history after → (sends : Option ℕ) (links : Links)
    → TellsOn sends links station history → TellsOn sends links station after
still_on given station history after stays None links tells = stays.told_is ∙ tells
still_on given station history after stays (Some handle) links tells = still_at given station history after stays (link_at handle links) handle tells

pub still_told : (given : Given) (unsent : Bool) (station : ℕ) (history after : List Event) → StaysTold given station history after → IsTold given unsent station history
    → IsTold given unsent station after
still_told given unsent station history after stays told =
    subst (λ (f : Facts). TellsOn (if unsent then handle_sent f.turn.doing else None) f.links station after) (sym stays.facts)
    (still_on given station history after stays (if unsent then handle_sent (facts_at given station history).turn.doing else None) (facts_at given station history).links told)

pub turn_stays : (given : Given) (station : ℕ) (history : List Event) (slot : ℕ) (radios : List Bool) → StaysTold given station history (history ++ TurnBegan slot radios ∷ [])
turn_stays given station history slot radios = record {
  told_is = turn_told station history slot radios;
  facts = facts_event given station history (TurnBegan slot radios) refl;
  number = λ handle. number_quiet station handle history (TurnBegan slot radios) (λ links. refl);
  sent = λ number. ap (λ (ends : Side → Exchanged). (ends (side_of station)).sent) (turn_quiet number history slot radios);
}

-- a packet changes how many PDUs its sender sent, and no other
heard_sent : (own good empty : Bool) (one from end : Exchanged) → own ≡ false → (if own then one else (if good then with_heard empty from end else end)).sent ≡ end.sent
heard_sent true good empty one from end is = absurd cc
heard_sent false true empty one from end is = refl
heard_sent false false empty one from end is = refl

aired_sent : (ours good empty : Bool) (sender side : Side) (ends : Side → Exchanged) → is_side side sender ≡ false
    → ((if ours then after_packet sender good empty ends else ends) side).sent ≡ (ends side).sent
aired_sent true good empty sender side ends differs = heard_sent (is_side side sender) good empty (with_sent (ends sender)) (with_sent (ends sender)) (ends side) differs
aired_sent false good empty sender side ends differs = refl

entries_sent : (number : ℕ) (front : List Entry) (side sender : Side) (channel : ℕ) (octets : List ℕ) (hearings : List Hearing) → is_side side sender ≡ false
    → (exchange_of number (front ++ air_entries sender channel octets hearings) side).sent ≡ (exchange_of number front side).sent
entries_sent number front side sender channel octets [] differs = ap (λ xs. (exchange_of number xs side).sent) (append-nil front)
entries_sent number front side sender channel octets (hearing ∷ hearings) differs =
    ap (λ (ends : Side → Exchanged). (ends side).sent) (exchange_more number front (Air sender channel octets (mark_of hearing.fate) hearing.verdict))
    ∙ aired_sent (not (is_advertising channel) && is_number (link_of_packet front sender octets) number) (is_good hearing.verdict)
    (carries_empty (link_numbered number front) channel octets) sender side (exchange_of number front) differs

pub packet_stays : (given : Given) (station sender : ℕ) (history : List Event) (channel : ℕ) (octets : List ℕ) (hearings : List Hearing)
    → is_side (side_of sender) (side_of station) ≡ false → is_side (side_of station) (side_of sender) ≡ false
    → StaysTold given station history (history ++ Transmitted sender channel octets hearings ∷ [])
packet_stays given station sender history channel octets hearings differs back = record {
  told_is = air_other_told station sender history channel octets hearings differs;
  facts = facts_event given station history (Transmitted sender channel octets hearings) refl;
  number = λ handle. number_aired station handle history sender channel octets hearings;
  sent = λ number.
      ap (λ xs. (exchange_of number xs (side_of station)).sent) (journal_event history (Transmitted sender channel octets hearings))
      ∙ entries_sent number (journal_of history) (side_of station) (side_of sender) channel octets hearings back;
}

pub call_stays : (given : Given) (station other : ℕ) (step : Step) (history : List Event) → is_side (side_of other) (side_of station) ≡ false
    → is_side (side_of station) (side_of other) ≡ false → (station == other) ≡ false → StaysTold given station history (after_call given other step history)
call_stays given station other step history differs back apart = record {
  told_is = called_other given station other step history differs;
  facts = other_facts given other step history station apart;
  number = λ handle. number_other given other step history station handle apart;
  sent = λ number. ap (λ (e : Exchanged). e.sent) (exchange_other given number other step history (side_of station) back);
}

octets_stay : (given : Given) (station other : ℕ) (octets : List ℕ) (history : List Event) → is_side (side_of other) (side_of station) ≡ false
    → is_side (side_of station) (side_of other) ≡ false → (station == other) ≡ false → StaysTold given station history (after_octets given other octets history)
octets_stay given station other [] history differs back apart = record { told_is = refl; facts = refl; number = λ handle. refl; sent = λ number. refl }
octets_stay given station other (octet ∷ octets) history differs back apart =
    let mid = after_call given other (HostOctet octet) history in
    stays_then given station history mid (after_octets given other octets mid) (call_stays given station other (HostOctet octet) history differs back apart)
    (octets_stay given station other octets mid differs back apart)

pub feed_stays : (given : Given) (station other : ℕ) (octets : List ℕ) (history : List Event) → is_side (side_of other) (side_of station) ≡ false
    → is_side (side_of station) (side_of other) ≡ false → (station == other) ≡ false → StaysTold given station history (after_feed given other octets history)
feed_stays given station other [] history differs back apart = record { told_is = refl; facts = refl; number = λ handle. refl; sent = λ number. refl }
feed_stays given station other (octet ∷ octets) history differs back apart =
    let fed = HostFed other (octet ∷ octets) in
    let mid = history ++ fed ∷ [] in
    stays_then given station history mid (after_octets given other (octet ∷ octets) mid) (record {
      told_is = fed_other_told station other history (octet ∷ octets) differs;
      facts = facts_event given station history fed refl;
      number = λ handle. number_quiet station handle history fed (λ links. refl);
      sent = λ number. ap (λ (ends : Side → Exchanged). (ends (side_of station)).sent) (feed_quiet number history other (octet ∷ octets));
    }) (octets_stay given station other (octet ∷ octets) mid differs back apart)

-- ---- all stations

abbrev pub AreTold : Given → List Event → (ℕ → Bool) → Type 0
AreTold given history unsent = (station : ℕ) → is_in station given.stations ≡ true → IsTold given (unsent station) station history

-- a step of one station
pub told_step : (given : Given) (are_two : IsOfTwo given) (station : ℕ) (history after : List Event) (unsent unsent_too : ℕ → Bool) → is_in station given.stations ≡ true
    → IsTold given (unsent_too station) station after
    → ((other : ℕ) → is_in other given.stations ≡ true → (other == station) ≡ false → unsent_too other ≡ unsent other)
    → ((other : ℕ) → is_side (side_of station) (side_of other) ≡ false → is_side (side_of other) (side_of station) ≡ false → (other == station) ≡ false → StaysTold given other history after)
    → AreTold given history unsent → AreTold given after unsent_too
told_step given are_two station history after unsent unsent_too in_it own same stays are = λ other is. by other is (other == station) refl
  where
    by : (other : ℕ) → is_in other given.stations ≡ true → (one : Bool) → (other == station) ≡ one → IsTold given (unsent_too other) other after
    by other is true one = subst (λ n. IsTold given (unsent_too n) n after) (sym (eqb-true other station one)) own
    by other is false differs =
        subst (λ b. IsTold given b other after) (sym (same other is differs))
        (still_told given (unsent other) other history after
        (stays other (other_apart given are_two other station is in_it (differs_back other station differs)) (other_apart given are_two station other in_it is differs) differs) (are other is))

pub same_told : (given : Given) (history : List Event) (unsent unsent_too : ℕ → Bool) → ((station : ℕ) → is_in station given.stations ≡ true → unsent_too station ≡ unsent station)
    → AreTold given history unsent → AreTold given history unsent_too
same_told given history unsent unsent_too same are = λ station is. subst (λ b. IsTold given b station history) (sym (same station is)) (are station is)

-- a station that sends on no link
pub off_told : (given : Given) (station : ℕ) (history : List Event) → ((handle : ℕ) → sends_under handle (facts_at given station history).turn.doing ≡ false)
    → IsTold given true station history → told_at station history ≡ None
off_told given station history off told =
    subst (λ may. TellsOn may (facts_at given station history).links station history) (none_sent (facts_at given station history).turn.doing off) told

pub from_off : (given : Given) (station : ℕ) (history : List Event) → ((handle : ℕ) → sends_under handle (facts_at given station history).turn.doing ≡ false)
    → told_at station history ≡ None → IsTold given true station history
from_off given station history off none =
    subst (λ may. TellsOn may (facts_at given station history).links station history) (sym (none_sent (facts_at given station history).turn.doing off)) none

-- ---- a call after which a station may send

module _ (given : Given) (station : ℕ) (step : Step) (history : List Event) (outcome : Outcome) (earlier : List Note)
    (facts_are : facts_after (setup_at given station) (facts_at given station history) step ≡ facts_passed outcome)
    (notes_are : notes_after (setup_at given station) (facts_at given station history) step ≡ earlier ++ notes_doing outcome.next outcome.facts)
    (none : All SendsNone earlier) (opens : (handle : ℕ) → All (OpensNone handle) earlier)
    (own : (handle : ℕ) (base : OpenLink) → link_at handle outcome.facts.links ≡ Some base → base.setup.link.handle ≡ handle)
    (sent : (handle : ℕ) (base : OpenLink) → link_at handle outcome.facts.links ≡ Some base → sends_under handle outcome.next ≡ true
    → (exchange_at (number_at station handle history) history (side_of station)).sent ≡ length (ack_of base).sent)
    (before : told_at station history ≡ None) where
  abbrev after : List Event
  after = after_call given station step history

  number_same : (handle : ℕ) → number_at station handle after ≡ number_at station handle history
  number_same handle =
      number_called given station step history handle (subst (All (OpensNone handle)) (sym notes_are)
      (All-append (OpensNone handle) earlier (notes_doing outcome.next outcome.facts) (opens handle)
      (doing_noted (OpensNone handle) (λ one count llid octets. refl) outcome.next outcome.facts)))

  quiet : notes_doing outcome.next outcome.facts ≡ [] → told_at station after ≡ None
  quiet nothing =
      called_none given station step history before (subst (All SendsNone) (sym (notes_are ∙ ap (λ xs. earlier ++ xs) nothing ∙ append-nil earlier)) none)

  told_if : (handle : ℕ) (base : OpenLink) → link_at handle outcome.facts.links ≡ Some base → (noted : Bool)
      → notes_doing outcome.next outcome.facts ≡ sent_notes_if noted base.setup.link.handle (numbered (ack_of base).sent) (pdu_fixed (facts_in base))
      → told_at station after ≡ pdu_line_if noted (number_at station handle history) (numbered (ack_of base).sent + 1) (pdu_fixed (facts_in base))
  told_if handle base at false are = quiet are
  told_if handle base at true are =
      called_sent given station step history base.setup.link.handle _ _ _ earlier (notes_are ∙ ap (λ xs. earlier ++ xs) are) (opens base.setup.link.handle)
      ∙ ap (λ h. pdu_line_if true (number_at station h history) (numbered (ack_of base).sent + 1) (pdu_fixed (facts_in base))) (own handle base at)

  no_link : (handle : ℕ) → link_at handle outcome.facts.links ≡ None → (link : OpenLink) → link_at handle (facts_passed outcome).links ≡ Some link → ⊥
  no_link handle absent link at =
      let was = sending_under outcome.facts.turn.slot handle outcome.next outcome.facts.links link at in
      absurd (let h : None ≡ Some was.link = sym absent ∙ was.was in absurd cc)

  tells_at : (handle : ℕ) → sends_under handle outcome.next ≡ true → notes_doing outcome.next outcome.facts ≡ notes_sent outcome.facts.turn.slot (link_at handle outcome.facts.links)
      → (found : Option OpenLink) → link_at handle outcome.facts.links ≡ found → TellsAt (link_at handle (facts_passed outcome).links) handle station after
  tells_at handle on are None at =
      none_at (link_at handle (facts_passed outcome).links) handle station after (quiet (are ∙ ap (notes_sent outcome.facts.turn.slot) at)) (no_link handle at)
  tells_at handle on are (Some base) at =
      subst (λ place. TellsAt place handle station after) (sym (sent_at outcome.facts.turn.slot handle outcome.next outcome.facts.links base on at)) (record {
        slot = outcome.facts.turn.slot;
        base = base;
        after_is = refl;
        sent = (exchange_same given (number_at station handle after) station step history (side_of station)).sent
            ∙ ap (λ n. (exchange_at n history (side_of station)).sent) (number_same handle) ∙ sent handle base at on;
        told_is = told_if handle base at (is_acked (ack_of base) && not (is_empty (pdu_fixed (facts_in base)))) (are ∙ ap (notes_sent outcome.facts.turn.slot) at)
            ∙ ap (λ n. line_to_send n (facts_in base)) (sym (number_same handle));
      })

  tells_next : (doing : Doing) → outcome.next ≡ doing → TellsOn (handle_sent doing) (facts_passed outcome).links station after
  tells_next (CentralSends handle) is =
      tells_at handle (ap (sends_under handle) is ∙ same_number handle) (ap (λ d. notes_doing d outcome.facts) is) (link_at handle outcome.facts.links) refl
  tells_next (PeripheralSends handle) is =
      tells_at handle (ap (sends_under handle) is ∙ same_number handle) (ap (λ d. notes_doing d outcome.facts) is) (link_at handle outcome.facts.links) refl
  tells_next (Advertises channel) is = quiet (ap (λ d. notes_doing d outcome.facts) is)
  tells_next other is = quiet (ap (λ d. notes_doing d outcome.facts) is)

  call_tells : IsTold given true station after
  call_tells =
      subst (λ (f : Facts). TellsOn (handle_sent f.turn.doing) f.links station after) (sym (own_facts given station step history ∙ facts_are)) (tells_next outcome.next refl)

-- ---- a turn begins

pub begin_tells : (given : Given) (station slot : ℕ) (on : Bool) (history : List Event) → is_in station given.stations ≡ true
    → (facts_at given station history).turn.doing ≡ Rests → IsStation (setup_at given station) (facts_at given station history)
    → AreCountedSo given history (λ one. true) (λ one. packet_received one history) → told_at station history ≡ None
    → IsTold given true station (after_call given station (TurnBegins slot on) history)
begin_tells given station slot on history in_it rests station_is counted before =
    let setup = setup_at given station in
    let facts = facts_at given station history in
    let outcome = outcome_begun slot on facts in
    let start = notes_starting slot facts in
    let own = own_begun setup slot on facts station_is.own in
    call_tells given station (TurnBegins slot on) history outcome start refl refl
    (all_more HasNoData SendsNone (λ note has. has.sends) start (start_noted HasNoData no_data slot facts))
    (λ handle. start_noted (OpensNone handle) (opening_none handle).starts slot facts)
    (λ handle base at. handle_is 0 handle outcome.facts.links base own.handles at)
    (λ handle base at sends.
    let end = exchange_at (number_at station handle history) history (side_of station) in
    let sent = sent_at outcome.facts.turn.slot handle outcome.next outcome.facts.links base sends at in
    let next = link_after (PacketSent outcome.facts.turn.slot) base in
    let begun = begins_under setup facts slot on handle next sent in
    let counts = plain true (packet_received station history) handle facts.turn begun.link end (rests_none handle facts.turn.doing rests)
    (rests_deaf handle facts.turn.doing (packet_received station history) rests) (counted station handle begun.link in_it begun.was) in
    let same = base_ack facts slot on handle _ next begun in
    let base_is : begun.base ≡ base = let some : Some begun.base ≡ Some base = sym begun.found ∙ at in cc in
    counts.sent ∙ ap (λ (a : Acknowledgement). length a.sent) (sym same) ∙ ap (λ (l : OpenLink). length (ack_of l).sent) base_is)
    before

-- ---- a phase passes

received_handle : (same : Bool) (other : ℕ) (room : Bool) (octets : List ℕ) (facts : Facts) (link : OpenLink)
    → (change_if same (link_receiving other room octets facts) link).setup.link.handle ≡ link.setup.link.handle
received_handle true other room octets facts link = ap (λ (s : EndSetup). s.link.handle) (received_setup_is other room octets facts link)
received_handle false other room octets facts link = refl

-- the link under a handle, as one that is heard on may be given words
record IsGiven (words : Bool) (setup : Setup) (facts : Facts) (other handle : ℕ) (link : OpenLink) : Type 0 where
  base : OpenLink
  was : link_at handle facts.links ≡ Some base
  is : link ≡ change_if (other == handle) (link_worded words setup facts) base

given_from : (words : Bool) (setup : Setup) (facts : Facts) (other handle : ℕ) (link : OpenLink) → link_at handle (worded words setup other facts).links ≡ Some link
    → IsGiven words setup facts other handle link
given_from true setup facts other handle link at =
    let was = change_under other handle (link_worded true setup facts) facts.links link at in record { base = was.link; was = was.was; is = was.is }
given_from false setup facts other handle link at = record { base = link; was = at; is = by (other == handle) }
  where
    by : (same : Bool) → link ≡ change_if same (link_worded false setup facts) link
    by true = refl
    by false = refl

given_handle : (same words : Bool) (setup : Setup) (facts : Facts) (base : OpenLink)
    → (change_if same (link_worded words setup facts) base).setup.link.handle ≡ base.setup.link.handle
given_handle true words setup facts base = ap (λ (s : EndSetup). s.link.handle) (worded_setup setup facts base words)
given_handle false words setup facts base = refl

reply_sends : (replies : Bool) (other handle : ℕ) → sends_under handle (reply_if replies other) ≡ true → (other == handle) ≡ true
reply_sends true other handle on = on
reply_sends false other handle on = absurd cc

passed_off : (setup : Setup) (facts : Facts) (room : Bool) (received : Option (List ℕ)) (handle : ℕ) (doing : Doing) (link : OpenLink)
    → ((other : ℕ) → listens_under other facts.turn.doing ≡ true → received ≡ None) → HasPassed setup facts room received handle doing link → sends_under handle doing ≡ true → ⊥
passed_off setup facts room received handle doing link none (IsNew end made opened off) on = let h : true ≡ false = sym on ∙ off_sends handle doing off in absurd cc
passed_off setup facts room received handle doing link none (Stays was off nothing listened) on = let h : true ≡ false = sym on ∙ off in absurd cc
passed_off setup facts room received handle doing link none (Takes base octets was some listens same) on = let h : None ≡ Some octets = sym (none handle listens) ∙ some in absurd cc

module _ (given : Given) (Q : Place → List Event → Type 0) (known : AreKnown given Q) (distinct : AreDistinct given.stations) (phases : ℕ) (done left : List ℕ) (station : ℕ) (history : List Event)
    (are : given.stations ≡ done ++ station ∷ left) (is : AreCountedAt given Q (AtListening phases done (station ∷ left)) history)
    (q : Q (AtListening phases (done ++ station ∷ []) left) (after_call given station (step_of (packet_received station history)) history))
    (holds : Holds given (AreStations given) (AtListening phases (done ++ station ∷ []) left) (after_call given station (step_of (packet_received station history)) history))
    (before : told_at station history ≡ None) where
  abbrev received : Option (List ℕ)
  received = packet_received station history

  abbrev setup : Setup
  setup = setup_at given station

  abbrev facts : Facts
  facts = facts_at given station history

  abbrev heard_after : List Event
  heard_after = after_call given station (step_of received) history

  abbrev room : Bool
  room = has_room setup facts

  station_has : IsStation setup facts
  station_has = station_is given Q known distinct phases done left station history are is q holds

  plain_tells : ((handle : ℕ) → listens_under handle facts.turn.doing ≡ true → received ≡ None) → All HasNoData (notes_after setup facts (step_of received))
      → IsTold given true station heard_after
  plain_tells none plain_too =
      none_tells (facts_at given station heard_after).turn.doing (facts_at given station heard_after).links station heard_after
      (called_none given station (step_of received) history before (all_more HasNoData SendsNone (λ note has. has.sends) _ plain_too))
      (λ handle link on at.
      passed_off setup facts room received handle (facts_after setup facts (step_of received)).turn.doing link none
      (passes_under setup facts received handle link (phased given Q known distinct phases done left station history are is q holds).uses.in_turn.listens
      (own_at given station (step_of received) history handle link at))
      (ap (λ (f : Facts). sends_under handle f.turn.doing) (sym (own_facts given station (step_of received) history)) ∙ on))

  -- a packet is received on a link, which may be given words before
  module _ (other : ℕ) (words : Bool) (octets : List ℕ) (some : received ≡ Some octets) (listens : (handle : ℕ) → listens_under handle facts.turn.doing ≡ (other == handle)) where
    abbrev now : Facts
    now = worded words setup other facts

    received_from : (handle : ℕ) (base : OpenLink) → link_at handle (link_received other room octets now).links ≡ Some base
        → WasOpen (change_if (other == handle) (link_receiving other room octets now)) (link_at handle now.links) base
    received_from handle base at =
        change_under other handle (link_receiving other room octets now) now.links base
        (ap (link_at handle) (sym (receiving_is other room octets now)) ∙ at)

    own_taken : (handle : ℕ) (base : OpenLink) → link_at handle (link_received other room octets now).links ≡ Some base → base.setup.link.handle ≡ handle
    own_taken handle base at =
        let was = received_from handle base at in
        let first = given_from words setup facts other handle was.link was.was in
        ap (λ (l : OpenLink). l.setup.link.handle) was.is ∙ received_handle (other == handle) other room octets now was.link
        ∙ ap (λ (l : OpenLink). l.setup.link.handle) first.is ∙ given_handle (other == handle) words setup facts first.base
        ∙ handle_is 0 handle facts.links first.base station_has.own.handles first.was

    sent_taken : (handle : ℕ) (base : OpenLink) → link_at handle (link_received other room octets now).links ≡ Some base → (other == handle) ≡ true
        → (exchange_at (number_at station handle history) history (side_of station)).sent ≡ length (ack_of base).sent
    sent_taken handle base at one =
        let was = received_from handle base at in
        let first = given_from words setup facts other handle was.link was.was in
        let step = PacketReceived facts.turn.slot octets room in
        let receiving = link_receiving other room octets now in
        let base_is : base ≡ receiving was.link = was.is ∙ ap (λ b. change_if b receiving was.link) one in
        let link_is : was.link ≡ link_worded words setup facts first.base = first.is ∙ ap (λ b. change_if b (link_worded words setup facts) first.base) one in
        let counts = was_taking received octets handle facts.turn first.base (exchange_at (number_at station handle history) history (side_of station)) (listens handle ∙ one) some
        (before_call given Q known distinct phases done left station history are is q holds handle first.base first.was) in
        counts.sent ∙ ap length (same_but facts.turn.slot octets false room first.base).sent
        ∙ ap (λ (a : Acknowledgement). length a.sent) (sym (received_ack_is other room octets now was.link ∙ ap (λ l. ack_of (link_after step l)) link_is
        ∙ worded_heard setup facts first.base words facts.turn.slot octets room))
        ∙ ap (λ (l : OpenLink). length (ack_of l).sent) (sym base_is)

    link_tells : heard setup facts.turn.doing octets facts ≡ link_heard setup other octets now → IsTold given true station heard_after
    link_tells heard_is =
        let outcome = link_heard setup other octets now in
        call_tells given station (step_of received) history outcome outcome.notes
        (ap (λ may. facts_after setup facts (step_of may)) some ∙ ap facts_passed heard_is)
        (on_link_notes setup facts received octets outcome some (ap notes_passed heard_is))
        (received_noted SendsNone taking_sends setup other octets now)
        (λ handle. received_noted (OpensNone handle) (taking_opens handle) setup other octets now)
        own_taken (λ handle base at on. sent_taken handle base at (reply_sends (replies_in facts.turn.slot room (link_at other now.links) octets) other handle on)) before

  pub phase_tells : IsTold given true station heard_after
  phase_tells = by (phase_of (setup_at given station) (facts_at given station history) (packet_received station history))
    where
      by : IsPhaseOf (setup_at given station) (facts_at given station history) (packet_received station history)
          → IsTold given true station (after_call given station (step_of (packet_received station history)) history)
      by (IsPlainPhase none plain_too) = plain_tells none plain_too
      by (IsOnLink other words octets some listens heard_is) = link_tells other words octets some listens heard_is
