-- No link has heard anything later, or has more complete packets, than the counts of the controller say.
use Rattle.std.proofs.Common.{◌≡◌, ℕ, ◌+◌, ◌<◌, ◌≤◌, ◌==◌, ◌&&◌, Bool, true, false, nat_lt, List, [], ◌∷◌, map, Option, Some, None, IfSome, if◌then◌else◌, refl, sym, ◌∙◌, subst, arith}
use Rattle.std.specs.Option.{option_map}
use Rattle.std.proofs.lemmas.Bool.{eqb-true, eqb-false}
use Rattle.ble_base.specs.declared.channel_map.ChannelMap.{ChannelMap}
use Rattle.ble_base.specs.declared.roles.Role.{Role}
use Rattle.ble_base.specs.declared.roles.Role.TheVariants.{Central, Peripheral}
use Rattle.procedures.specs.procedure_values.declared.asks.Ask.TheVariants.{Map as map_ask}
use Rattle.data_pdu.specs.declared.header.DataHeader.{DataHeader}
use Rattle.data_pdu.specs.Header.{header_in}
use Rattle.link_end.specs.link_model.Setup.{Setup}
use Rattle.link_end.specs.link_model.Acknowledgement.{Pdu, is_acked}
use Rattle.link_end.specs.link_model.Data.{Data, data_acked_if, data_completed, data_given, is_control, is_data}
use Rattle.link_end.specs.link_model.Verdicts.{pdu_of}
use Rattle.link_end.specs.link_model.declared.events.Reception.{Reception}
use Rattle.link_end.specs.link_model.Facts.{Facts}
use Rattle.link_end.specs.link_model.Controls.{is_procedure_pdu}
use Rattle.link_end.specs.link_model.Fixing.{data_cut, data_fixed_by, data_goes, fixed_anew}
use Rattle.link_end.specs.link_model.Packets.{good_pdu, is_forged}
use Rattle.link_end.specs.link_model.Payload.{payload_made}
use Rattle.link_end.specs.link_model.Receiving.{accepted_if, accepts, acknowledged_if, answers_with_control, facts_before_taking, facts_hearing, facts_received, has_acknowledged, heard_in_slot, procedures_take_if}
use Rattle.link_end.specs.link_model.Sending.{control_gone_if, data_sent_as, takes_leave}
use Rattle.link_end.specs.link_model.Step.{Step, DataGiven, DataReported, EventEntered, PacketReceived, PacketSent, PduFixed, ProcedureAsked}
use Rattle.link_end.specs.link_model.End.{facts_after, facts_of}
use Rattle.link_end.proofs.link_model.Choices.{either_data, either_forged}
use Rattle.link_end.proofs.link_model.Pasts.{grows}
use Rattle.open_links.specs.declared.offers.Offer.{Offer}
use Rattle.open_links.specs.declared.offers.Offer.TheVariants.{NoLink, Empty, Overflow, Kept}
use Rattle.open_links.specs.OpenLinks.{Links, OpenLink, facts_in, has_entered, link_after, link_after_in_event, link_at, link_from, new_link, with_change, with_change_from}
use Rattle.open_links.specs.Data.{complete_in, link_reported, links_offered, links_reported}
use Rattle.open_links.specs.Hosts.{asked_map_by, link_asked_map, links_asked_map}
use Rattle.open_links.specs.Turns.{enters_in, link_entered, links_without, place_without, staying_by}
use Rattle.open_links.specs.Sound.{IsWithin, IsWithinAt}
use Rattle.open_links.proofs.Handles.{changed_is, other_stays}
use Rattle.open_links.proofs.Unmoved.{asked_leaves, entered_leaves, left_within, step_within_if}
use Rattle.open_links.proofs.UnderHandles.{map_at}

-- ---- a link

stepped : (slot count : ℕ) (step : Step) (link : OpenLink)
    → IfSome (facts_after link.setup (facts_in link) step).last_good (λ good. good.slot < slot)
    → (facts_after link.setup (facts_in link) step).outgoing.complete ≤ count → IsWithin slot count (link_after step link)
stepped slot count step link heard complete =
    let same = sym (grows link.setup link.past step) in
    record {
      heard = subst (λ (facts : Facts). IfSome facts.last_good (λ good. good.slot < slot)) same heard;
      complete = subst (λ (facts : Facts). facts.outgoing.complete ≤ count) same complete;
    }

-- a step that leaves the last good packet and the count of complete packets
kept : (slot count : ℕ) (step : Step) (link : OpenLink)
    → (facts_after link.setup (facts_in link) step).last_good ≡ (facts_in link).last_good
    → (facts_after link.setup (facts_in link) step).outgoing.complete ≡ complete_in link
    → IsWithin slot count link → IsWithin slot count (link_after step link)
kept slot count step link good complete within =
    stepped slot count step link
    (subst (λ (last : Option Reception). IfSome last (λ good. good.slot < slot)) (sym good) within.heard)
    (omega (arith, within.complete, complete))

pub given_complete : (handle : ℕ) (start : Bool) (body : List ℕ) (outgoing : Data) → (data_given handle start body outgoing).complete ≡ outgoing.complete
given_complete handle start [] outgoing = refl
given_complete handle start (octet ∷ octets) outgoing = refl

pub within_given : (slot count : ℕ) (start : Bool) (body : List ℕ) (link : OpenLink) → IsWithin slot count link
    → IsWithin slot count (link_after (DataGiven start body) link)
within_given slot count start body link within =
    kept slot count (DataGiven start body) link refl (given_complete link.setup.link.handle start body (facts_in link).outgoing) within

-- ---- it fixes a PDU, and sends

fixed_complete : (control : Bool) (waiting : ℕ) (quiet goes : Bool) (outgoing : Data)
    → (data_fixed_by control waiting quiet goes outgoing).complete ≡ outgoing.complete
fixed_complete true waiting quiet goes outgoing = refl
fixed_complete false waiting quiet true outgoing = refl
fixed_complete false waiting quiet false outgoing = refl

fixed_good : (stays : Bool) (facts : Facts) → (if stays then facts else fixed_anew facts).last_good ≡ facts.last_good
fixed_good true facts = refl
fixed_good false facts = refl

fixed_if_complete : (stays : Bool) (facts : Facts) → (if stays then facts else fixed_anew facts).outgoing.complete ≡ facts.outgoing.complete
fixed_if_complete true facts = refl
fixed_if_complete false facts = fixed_complete _ _ _ (data_goes facts) (data_cut facts)

within_fixed : (slot count : ℕ) (link : OpenLink) → IsWithin slot count link → IsWithin slot count (link_after PduFixed link)
within_fixed slot count link within =
    let stays = is_control (facts_in link).outgoing.fixed in
    kept slot count PduFixed link (fixed_good stays (facts_in link)) (fixed_if_complete stays (facts_in link)) within

gone_good : (goes : Bool) (slot : ℕ) (facts : Facts) → (control_gone_if goes slot facts).last_good ≡ facts.last_good
gone_good true slot facts = refl
gone_good false slot facts = refl

gone_complete : (goes : Bool) (slot : ℕ) (facts : Facts) → (control_gone_if goes slot facts).outgoing.complete ≡ facts.outgoing.complete
gone_complete true slot facts = refl
gone_complete false slot facts = refl

pub sent_complete : (payload : List ℕ) (is_new : Bool) (outgoing : Data) → (data_sent_as payload is_new outgoing).complete ≡ outgoing.complete
sent_complete payload true outgoing = refl
sent_complete payload false outgoing = refl

within_sent : (slot count at : ℕ) (link : OpenLink) → IsWithin slot count link → IsWithin slot count (link_after (PacketSent at) link)
within_sent slot count at link within =
    let facts = facts_in link in
    let now = control_gone_if (takes_leave facts) at facts in
    kept slot count (PacketSent at) link (gone_good (takes_leave facts) at facts)
    (sent_complete (payload_made now.encryption.end now.outgoing.fixed) (is_acked now.acknowledgement) now.outgoing ∙ gone_complete (takes_leave facts) at facts) within

pub within_fixed_in_event : (slot count : ℕ) (link : OpenLink) → IsWithin slot count link → IsWithin slot count (link_after_in_event PduFixed link)
within_fixed_in_event slot count link within =
    step_within_if (has_entered link) (link_after_in_event PduFixed link) PduFixed link slot count refl (within_fixed slot count link within) within

pub within_sent_in_event : (slot count at : ℕ) (link : OpenLink) → IsWithin slot count link
    → IsWithin slot count (link_after_in_event (PacketSent at) link)
within_sent_in_event slot count at link within =
    step_within_if (has_entered link) (link_after_in_event (PacketSent at) link) (PacketSent at) link slot count refl
    (within_sent slot count at link within) within

-- ---- it enters an event, its complete packets are reported, and a map is asked for

pub within_entered : (slot count at : ℕ) (link : OpenLink) → IsWithin slot count link → IsWithin slot count (link_entered at link)
within_entered slot count at link within =
    step_within_if (enters_in at link) (link_entered at link) (EventEntered at) link slot count refl
    (left_within (EventEntered at) (entered_leaves at) slot count link within) within

within_reported : (slot count : ℕ) (test : Bool) (link : OpenLink) → nat_lt 0 (complete_in link) ≡ test → IsWithin slot count link
    → IsWithin slot 0 (if test then link_after DataReported link else link)
within_reported slot count true link e within = stepped slot 0 DataReported link within.heard (omega arith)
within_reported slot count false link e within = record { heard = within.heard; complete = grind (arith, e) }

within_asked_map : (slot count : ℕ) (map : ChannelMap) (link : OpenLink) → IsWithin slot count link → IsWithin slot count (link_asked_map map link)
within_asked_map slot count map link within = by_role link.setup.link.role
  where
    by_role : (role : Role) → IsWithin slot count (asked_map_by role map link)
    by_role Central = left_within (ProcedureAsked (map_ask map)) (asked_leaves (map_ask map)) slot count link within
    by_role Peripheral = within

pub new_within : (slot count : ℕ) (setup : Setup) → IsWithin slot count (new_link setup)
unfolding facts_of
new_within slot count setup = record { heard = tt; complete = omega arith }

-- ---- it takes octets, in a slot that is later than all before

later_heard : (last : Option Reception) (slot later : ℕ) → slot ≤ later → IfSome last (λ good. good.slot < slot) → IfSome last (λ good. good.slot < later)
later_heard None slot later order heard = tt
later_heard (Some good) slot later order heard = omega (arith, order, heard)

completed_more : (completes : Bool) (outgoing : Data) → (data_completed completes outgoing).complete ≤ outgoing.complete + 1
completed_more true outgoing = omega arith
completed_more false outgoing = omega arith

acked_more : (acked : Bool) (outgoing : Data) → (data_acked_if acked outgoing).complete ≤ outgoing.complete + 1
acked_more true outgoing = completed_more _ outgoing
acked_more false outgoing = omega arith

taken_good : (takes : Bool) (pdu : Pdu) (at : ℕ) (facts : Facts) → (procedures_take_if takes pdu at facts).last_good ≡ facts.last_good
taken_good true pdu at facts = refl
taken_good false pdu at facts = refl

taken_complete : (takes : Bool) (pdu : Pdu) (at : ℕ) (facts : Facts)
    → (procedures_take_if takes pdu at facts).outgoing.complete ≡ facts.outgoing.complete
taken_complete true pdu at facts = refl
taken_complete false pdu at facts = refl

module _ (role : Role) (at : ℕ) (room : Bool) (header : DataHeader) (pdu : Pdu) (facts : Facts) where
  abbrev own : Facts
  own = acknowledged_if (has_acknowledged facts header) (heard_in_slot at header.md facts)

  abbrev now : Facts
  now = facts_before_taking role at header facts

  abbrev accepted : Facts
  accepted = accepted_if (accepts room header pdu now) pdu now

  abbrev takes : Bool
  takes = accepts room header pdu now && is_procedure_pdu pdu

  abbrev taken : Facts
  taken = procedures_take_if takes pdu at accepted

  hearing_good : (facts_hearing role at room header pdu facts).last_good ≡ Some (record { slot = at; event = facts.event.number })
  hearing_good =
      either_data (λ f. f.last_good ≡ taken.last_good) (accepts room header pdu now && is_data pdu) taken refl refl
      ∙ taken_good takes pdu at accepted ∙ gone_good (answers_with_control role own) at own

  hearing_more : (facts_hearing role at room header pdu facts).outgoing.complete ≤ facts.outgoing.complete + 1
  hearing_more =
      let same =
      either_data (λ f. f.outgoing.complete ≡ taken.outgoing.complete) (accepts room header pdu now && is_data pdu) taken refl refl
      ∙ taken_complete takes pdu at accepted ∙ gone_complete (answers_with_control role own) at own in
      let more = acked_more (has_acknowledged facts header && is_data facts.acknowledgement.last) facts.outgoing in
      omega (arith, same, more)

heard_last : (role : Role) (at : ℕ) (room : Bool) (pdu : Option (List ℕ)) (facts : Facts) (slot : ℕ) → slot ≤ at
    → IfSome facts.last_good (λ good. good.slot < slot)
    → IfSome (facts_received role at room pdu facts).last_good (λ good. good.slot < at + 1)
heard_last role at room None facts slot order heard = later_heard facts.last_good slot (at + 1) (omega (arith, order)) heard
heard_last role at room (Some octets) facts slot order heard =
    subst (λ (last : Option Reception). IfSome last (λ good. good.slot < at + 1))
    (sym (hearing_good role at room (header_in octets) (pdu_of octets) facts)) (omega arith)

heard_more : (role : Role) (at : ℕ) (room : Bool) (pdu : Option (List ℕ)) (facts : Facts)
    → (facts_received role at room pdu facts).outgoing.complete ≤ facts.outgoing.complete + 1
heard_more role at room None facts = omega arith
heard_more role at room (Some octets) facts = hearing_more role at room (header_in octets) (pdu_of octets) facts

within_heard : (slot count at : ℕ) (octets : List ℕ) (room : Bool) (link : OpenLink) → slot ≤ at → IsWithin slot count link
    → IsWithin (at + 1) (count + 1) (link_after (PacketReceived at octets room) link)
within_heard slot count at octets room link order within =
    let role = link.setup.link.role in
    let pdu = good_pdu link.setup (facts_in link) octets in
    let next = facts_received role at room pdu (facts_in link) in
    let forged = is_forged link.setup (facts_in link) octets in
    let heard = heard_last role at room pdu (facts_in link) slot order within.heard in
    let more : next.outgoing.complete ≤ count + 1 = omega (arith, within.complete, heard_more role at room pdu (facts_in link)) in
    stepped (at + 1) (count + 1) (PacketReceived at octets room) link
    (either_forged (λ f. IfSome f.last_good (λ good. good.slot < at + 1)) forged next heard heard)
    (either_forged (λ f. f.outgoing.complete ≤ count + 1) forged next more more)

within_more : (slot count later more : ℕ) (link : OpenLink) → slot ≤ later → count ≤ more → IsWithin slot count link → IsWithin later more link
within_more slot count later more link order fewer within =
    record {
      heard = later_heard (facts_in link).last_good slot later order within.heard;
      complete = omega (arith, fewer, within.complete);
    }

pub within_heard_in_event : (slot count at : ℕ) (octets : List ℕ) (room : Bool) (link : OpenLink) → slot ≤ at → IsWithin slot count link
    → IsWithin (at + 1) (count + 1) (link_after_in_event (PacketReceived at octets room) link)
within_heard_in_event slot count at octets room link order within =
    step_within_if (has_entered link) (link_after_in_event (PacketReceived at octets room) link) (PacketReceived at octets room) link
    (at + 1) (count + 1) refl (within_heard slot count at octets room link order within)
    (within_more slot count (at + 1) (count + 1) link (omega (arith, order)) (omega arith) within)

-- ---- all links

-- no link is over the counts
abbrev pub AreWithin : ℕ → ℕ → Links → Type 0
AreWithin slot count links = (handle : ℕ) → IsWithinAt slot count (link_at handle links)

more_at : (slot count later more : ℕ) (place : Option OpenLink) → slot ≤ later → count ≤ more → IsWithinAt slot count place
    → IsWithinAt later more place
more_at slot count later more None order fewer within = tt
more_at slot count later more (Some link) order fewer within = within_more slot count later more link order fewer within

mapped_at : (slot count later more : ℕ) (change : OpenLink → OpenLink)
    → ((link : OpenLink) → IsWithin slot count link → IsWithin later more (change link)) → (place : Option OpenLink)
    → IsWithinAt slot count place → IsWithinAt later more (option_map change place)
mapped_at slot count later more change keeps None within = tt
mapped_at slot count later more change keeps (Some link) within = keeps link within

-- one link changes
pub change_within : (slot count later more : ℕ) (change : OpenLink → OpenLink) (handle : ℕ) (links : Links) → slot ≤ later → count ≤ more
    → ((link : OpenLink) → IsWithin slot count link → IsWithin later more (change link)) → AreWithin slot count links
    → AreWithin later more (with_change handle change links)
change_within slot count later more change handle links order fewer keeps within other = by_test (other == handle) refl
  where
    by_test : (test : Bool) → (other == handle) ≡ test → IsWithinAt later more (link_at other (with_change handle change links))
    by_test true e =
        subst (λ n. IsWithinAt later more (link_at n (with_change handle change links))) (sym (eqb-true other handle e))
        (subst (IsWithinAt later more) (sym (changed_is (option_map change) 0 handle links refl))
        (mapped_at slot count later more change keeps (link_at handle links) (within handle)))
    by_test false e =
        subst (IsWithinAt later more) (sym (other_stays (option_map change) 0 handle other links (eqb-false other handle e)))
        (more_at slot count later more (link_at other links) order fewer (within other))

-- a link, or none, is put under a handle
put_at : (slot count handle : ℕ) (known : Option OpenLink) → IsWithinAt slot count known → (first : ℕ) (links : Links)
    → IsWithinAt slot count (link_from first handle (with_change_from first handle (λ place. known) links))
put_at slot count handle known new first [] = tt
put_at slot count handle known new first (place ∷ links) =
    by_test (first == handle) refl (put_at slot count handle known new (first + 1) links)
  where
    by_test : (test : Bool) → (first == handle) ≡ test
        → IsWithinAt slot count (link_from (first + 1) handle (with_change_from (first + 1) handle (λ place. known) links))
        → IsWithinAt slot count (link_from first handle
        (if test then known ∷ links else place ∷ with_change_from (first + 1) handle (λ place. known) links))
    by_test true e rest = rw e new
    by_test false e rest = rw e rest

pub put_within : (slot count handle : ℕ) (known : Option OpenLink) (links : Links) → IsWithinAt slot count known
    → AreWithin slot count links → AreWithin slot count (with_change_from 0 handle (λ place. known) links)
put_within slot count handle known links new within other = by_test (other == handle) refl
  where
    by_test : (test : Bool) → (other == handle) ≡ test
        → IsWithinAt slot count (link_at other (with_change_from 0 handle (λ place. known) links))
    by_test true e =
        subst (λ n. IsWithinAt slot count (link_at n (with_change_from 0 handle (λ place. known) links))) (sym (eqb-true other handle e))
        (put_at slot count handle known new 0 links)
    by_test false e =
        subst (IsWithinAt slot count) (sym (other_stays (λ place. known) 0 handle other links (eqb-false other handle e))) (within other)

-- all links change
all_within : (slot count later more : ℕ) (change : Option OpenLink → Option OpenLink) (links : Links) → change None ≡ None
    → ((place : Option OpenLink) → IsWithinAt slot count place → IsWithinAt later more (change place)) → AreWithin slot count links
    → AreWithin later more (map change links)
all_within slot count later more change links none keeps within handle =
    subst (IsWithinAt later more) (sym (map_at change 0 handle links none)) (keeps (link_at handle links) (within handle))

pub map_within : (slot count : ℕ) (map : ChannelMap) (links : Links) → AreWithin slot count links → AreWithin slot count (links_asked_map map links)
map_within slot count map links within =
    all_within slot count slot count (option_map (link_asked_map map)) links refl
    (mapped_at slot count slot count (link_asked_map map) (λ link inside. within_asked_map slot count map link inside)) within

pub report_within : (slot count : ℕ) (links : Links) → AreWithin slot count links → AreWithin slot 0 (links_reported links)
report_within slot count links within =
    all_within slot count slot 0 (option_map link_reported) links refl
    (mapped_at slot count slot 0 link_reported
    (λ link inside. within_reported slot count (nat_lt 0 (complete_in link)) link refl inside)) within

pub stay_within : (reason : OpenLink → Option ℕ) (slot count : ℕ) (links : Links) → AreWithin slot count links
    → AreWithin slot count (links_without reason links)
stay_within reason slot count links within = all_within slot count slot count (place_without reason) links refl stays within
  where
    by_reason : (code : Option ℕ) (link : OpenLink) → IsWithin slot count link → IsWithinAt slot count (staying_by code link)
    by_reason None link inside = inside
    by_reason (Some code) link inside = tt

    stays : (place : Option OpenLink) → IsWithinAt slot count place → IsWithinAt slot count (place_without reason place)
    stays None inside = tt
    stays (Some link) inside = by_reason (reason link) link inside

pub none_within : (slot count : ℕ) (links : Links) → AreWithin slot count (map (λ place. None) links)
none_within slot count links handle =
    subst (IsWithinAt slot count) (sym (map_at (λ place. None) 0 handle links refl)) tt

pub offer_within : (slot count : ℕ) (offer : Offer) (handle : ℕ) (start : Bool) (body : List ℕ) (links : Links) → AreWithin slot count links
    → AreWithin slot count (links_offered offer handle start body links)
offer_within slot count NoLink handle start body links within = within
offer_within slot count Empty handle start body links within = within
offer_within slot count Overflow handle start body links within = within
offer_within slot count Kept handle start body links within =
    change_within slot count slot count (link_after (DataGiven start body)) handle links (omega arith) (omega arith)
    (λ link inside. within_given slot count start body link inside) within
