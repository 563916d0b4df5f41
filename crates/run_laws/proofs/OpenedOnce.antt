-- At each station of a run no two links are open that were opened in one slot.
use Rattle.std.proofs.Common.{◌≡◌, ◌≢◌, ℕ, ◌+◌, ◌<◌, ◌==◌, Bool, true, false, Option, Some, None, List, [], ◌++◌, refl, sym, ap, subst, ◌∙◌, arith}
use Rattle.std.specs.Prelude.{◌&&◌}
use Rattle.std.proofs.lemmas.Bool.{eqb-true, eqb-false}
use Rattle.adv_pdu.specs.declared.pdu.AdvPdu.{AdvPdu}
use Rattle.run_model.specs.link_model.Setup.{Setup as EndSetup}
use Rattle.run_model.specs.open_links.OpenLinks.{Links, OpenLink, free_from, link_at}
use Rattle.run_model.proofs.open_links.Handles.{two_handles}
use Rattle.scan_init.specs.Reports.{does_ask, scan_answer}
use Rattle.run_model.specs.controller_model.declared.doing.Doing.{Doing}
use Rattle.run_model.specs.controller_model.declared.doing.Doing.TheVariants.{Advertises, AwaitsRequest, Initiates, Connects}
use Rattle.run_model.specs.controller_model.Step.{Step, HostOctet, TurnBegins, TurnEnds}
use Rattle.run_model.specs.controller_model.Facts.{Setup, Facts, first_facts}
use Rattle.run_model.specs.controller_model.Heard.{asks_if, facts_with_words, link_received, has_room, link_taken, replies_in, reply_if, scanner_after, with_scanner}
use Rattle.run_model.specs.controller_model.Outcome.{facts_passed}
use Rattle.run_model.specs.controller_model.Packets.{facts_doing}
use Rattle.run_model.specs.controller_model.Side.{facts_after, facts_of}
use Rattle.run_model.proofs.controller_model.Always.{holds_step, opening_passes}
use Rattle.run_model.proofs.controller_model.Handles.{HaveOwnHandles, handles_kept, own_handles}
use Rattle.run_model.proofs.controller_model.Phases.{EachOutcome, heard_is, unheard_is}
use Rattle.run_model.specs.Feeding.{AreDistinct}
use Rattle.run_model.specs.History.{Event, past_of}
use Rattle.run_model.specs.OnAir.{ends_phase}
use Rattle.run_model.specs.Run.{Given, facts_at, history_of, run_of, setup_at, step_of}
use Rattle.run_model.proofs.LinkSteps.{EachLink, each_more, link_has, none_linked, step_linked, step_opens}
use Rattle.run_model.proofs.Linked.{opens_none}
use Rattle.run_model.proofs.Stations.{is_in}
use Rattle.run_laws.proofs.Entering.{IsInTurn, turn_first, turn_kept}
use Rattle.run_laws.proofs.TurnPlaces.{Between, IsTurned, Stage, stands_in_run, turned}
use Rattle.run_laws.proofs.TurnSteps.{begins_slot}

-- it may open a link in this turn
abbrev leads : Doing → Bool
leads (Advertises channel) = true
leads (AwaitsRequest channel) = true
leads (Initiates channel) = true
leads (Connects channel link) = true
leads other = false

abbrev IsBefore : ℕ → EndSetup → Type 0
IsBefore slot end = end.opened < slot

-- until then none was opened in its slot
abbrev IsUnopened : Facts → Type 0
IsUnopened facts = leads facts.turn.doing ≡ true → EachLink (IsBefore facts.turn.slot) facts.links

abbrev IsUnder : ℕ → ℕ → EndSetup → Type 0
IsUnder slot handle end = end.opened ≡ slot → end.link.handle ≡ handle

-- all that were opened in a slot have one handle
record HasOne (slot : ℕ) (links : Links) : Type 0 where
  handle : ℕ
  each : EachLink (IsUnder slot handle) links

record OpensOnce (setup : Setup) (stage : Stage) (begun : ℕ) (facts : Facts) : Type 0 where
  in_turn : IsInTurn setup stage begun facts
  own : HaveOwnHandles setup facts
  earlier : EachLink (IsBefore begun) facts.links
  unopened : IsUnopened facts
  one : (slot : ℕ) → HasOne slot facts.links

-- ---- a phase

abbrev or_zero : Option ℕ → ℕ
or_zero None = 0
or_zero (Some handle) = handle

-- the handle of a link that is opened
abbrev new_handle : Doing → Links → ℕ
new_handle (Connects channel link) links = link.handle
new_handle (Advertises channel) links = or_zero (free_from 0 links)
new_handle other links = or_zero (free_from 0 links)

asks_unopened : (asks : Bool) (channel : ℕ) (pdu : AdvPdu) (facts : Facts) → IsUnopened (facts_doing (asks_if asks channel pdu) facts)
asks_unopened true channel pdu facts = λ on. absurd cc
asks_unopened false channel pdu facts = λ on. absurd cc

reply_unopened : (replies : Bool) (handle : ℕ) (facts : Facts) → IsUnopened (facts_doing (reply_if replies handle) facts)
reply_unopened true handle facts = λ on. absurd cc
reply_unopened false handle facts = λ on. absurd cc

outcomes_unopened : (setup : Setup) (facts : Facts) → IsUnopened facts → EachOutcome setup facts (λ outcome. IsUnopened (facts_passed outcome))
outcomes_unopened setup facts none = record {
  rests = λ on. absurd cc;
  awaits_request = λ channel doing on. none (ap leads doing);
  awaits_response = λ channel advertiser doing on. absurd cc;
  central_listens = λ handle doing on. absurd cc;
  sent = λ channel link doing. opening_passes IsUnopened link facts (λ on. absurd cc);
  responds = λ channel on doing is_on leads_on. absurd cc;
  taken = λ channel octets pdu on fields handle is_on hears takes free.
      opening_passes IsUnopened (link_taken facts.view on.params.own pdu fields handle) facts (λ leads_on. absurd cc);
  scanned = λ channel octets pdu on doing is_on hears.
      asks_unopened (true && does_ask (scan_answer on.params facts.view.accepted on.recent pdu)) channel pdu (with_scanner (scanner_after on facts.view.accepted pdu) facts);
  answered = λ channel octets pdu on doing is_on hears.
      asks_unopened (false && does_ask (scan_answer on.params facts.view.accepted on.recent pdu)) channel pdu (with_scanner (scanner_after on facts.view.accepted pdu) facts);
  connects = λ channel octets pdu on access handle doing is_on hears answers next free in_range leads_on. none (ap leads doing);
  received = λ handle octets.
      reply_unopened (replies_in facts.turn.slot (has_room setup facts) (link_at handle facts.links) octets) handle (link_received handle (has_room setup facts) octets facts);
}

module _ (setup : Setup) (facts : Facts) (received : Option (List ℕ)) where
  abbrev after : Facts
  after = facts_after setup facts (step_of received)

  phase_unopened : IsUnopened facts → IsUnopened after
  phase_unopened none = by received
    where
      by : (may : Option (List ℕ)) → IsUnopened (facts_after setup facts (step_of may))
      by None = unheard_is setup facts _ (outcomes_unopened setup facts none) facts.turn.doing refl
      by (Some octets) =
          heard_is setup facts (λ outcome. IsUnopened (facts_passed outcome)) (outcomes_unopened setup facts none) facts.turn.doing octets refl
          (λ handle. let worded = facts_with_words setup handle facts in
          reply_unopened (replies_in facts.turn.slot (has_room setup facts) (link_at handle worded.links) octets) handle
          (link_received handle (has_room setup facts) octets worded))

  -- none is opened in this slot
  phase_same : (slot : ℕ) → HasOne slot facts.links → (leads facts.turn.doing ≡ true → slot ≢ facts.turn.slot) → HasOne slot after.links
  phase_same slot one other = record {
    handle = one.handle;
    each = step_opens (IsUnder slot one.handle) setup facts (step_of received) (record {
      made = λ channel link ends doing same. absurd (other (ap leads doing) (sym same));
      taken = λ channel octets on pdu fields handle is doing found is_on takes new free same. absurd (other (ap leads doing) (sym same));
    }) one.each;
  }

  phase_new : EachLink (IsBefore facts.turn.slot) facts.links → HasOne facts.turn.slot after.links
  phase_new before = let handle = new_handle facts.turn.doing facts.links in record {
    handle = handle;
    each = step_opens (IsUnder facts.turn.slot handle) setup facts (step_of received) (record {
      made = λ channel link ends doing same. sym (ap (λ d. new_handle d facts.links) doing);
      taken = λ channel octets on pdu fields free is doing found is_on takes new is_free same.
          sym (ap (λ d. new_handle d facts.links) doing ∙ ap or_zero is_free);
    }) (each_more (IsBefore facts.turn.slot) (IsUnder facts.turn.slot handle) facts.links (λ end early same. absurd (omega (arith, early, same))) before);
  }

  phase_one : IsUnopened facts → (slot : ℕ) → HasOne slot facts.links → HasOne slot after.links
  phase_one none slot one = by (leads facts.turn.doing) (slot == facts.turn.slot) refl refl
    where
      by : (leading same : Bool) → leads facts.turn.doing ≡ leading → (slot == facts.turn.slot) ≡ same → HasOne slot after.links
      by false same off is = phase_same slot one (λ on. absurd (let h : true ≡ false = sym on ∙ off in absurd cc))
      by true true on is = subst (λ n. HasOne n after.links) (sym (eqb-true slot facts.turn.slot is)) (phase_new (none on))
      by true false on is = phase_same slot one (λ leads_on. eqb-false slot facts.turn.slot is)

-- ---- each call

own_step : (setup : Setup) (facts : Facts) (step : Step) → HaveOwnHandles setup facts → HaveOwnHandles setup (facts_after setup facts step)
own_step setup facts step own = holds_step setup (HaveOwnHandles setup) (HaveOwnHandles setup) (handles_kept setup) facts step own

-- a call that ends no phase opens none
pub quiet : (P : EndSetup → Type 0) (setup : Setup) (facts : Facts) (step : Step) → ends_phase step ≡ false → EachLink P facts.links
    → EachLink P (facts_after setup facts step).links
quiet P setup facts step none each = step_linked P setup facts step (opens_none P facts step none) each

quiet_one : (setup : Setup) (facts : Facts) (step : Step) → ends_phase step ≡ false → ((slot : ℕ) → HasOne slot facts.links) → (slot : ℕ)
    → HasOne slot (facts_after setup facts step).links
quiet_one setup facts step none one slot =
    record { handle = (one slot).handle; each = quiet (IsUnder slot (one slot).handle) setup facts step none (one slot).each }

now_before : (slot begun : ℕ) → slot + 1 ≡ begun → slot < begun
now_before slot begun is = omega (arith, is)

once_kept : (setup : Setup) → IsTurned setup (OpensOnce setup)
once_kept setup = let kept = turn_kept setup in record {
  feeds = λ begun octet facts is.
      let in_turn = kept.feeds begun octet facts is.in_turn in record {
        in_turn = in_turn;
        own = own_step setup facts (HostOctet octet) is.own;
        earlier = quiet (IsBefore begun) setup facts (HostOctet octet) refl is.earlier;
        unopened = λ on. absurd (let h : false ≡ true = sym (ap leads in_turn.does) ∙ on in absurd cc);
        one = quiet_one setup facts (HostOctet octet) refl is.one;
      };
  begins = λ begun on facts is.
      let before = quiet (IsBefore begun) setup facts (TurnBegins begun on) refl is.earlier in
      let after = facts_after setup facts (TurnBegins begun on) in record {
        in_turn = kept.begins begun on facts is.in_turn;
        own = own_step setup facts (TurnBegins begun on) is.own;
        earlier = each_more (IsBefore begun) (IsBefore (begun + 1)) after.links (λ end early. omega (arith, early)) before;
        unopened = λ leading. subst (λ n. EachLink (IsBefore n) after.links) (sym (begins_slot setup begun on facts)) before;
        one = quiet_one setup facts (TurnBegins begun on) refl is.one;
      };
  passes = λ phases begun received facts is.
      let now = now_before facts.turn.slot begun is.in_turn.slot_is in record {
        in_turn = kept.passes phases begun received facts is.in_turn;
        own = own_step setup facts (step_of received) is.own;
        earlier = step_linked (IsBefore begun) setup facts (step_of received) (record {
          made = λ channel link ends doing. now;
          taken = λ channel octets on pdu fields handle was doing found takes. now;
        }) is.earlier;
        unopened = phase_unopened setup facts received is.unopened;
        one = λ slot. phase_one setup facts received is.unopened slot (is.one slot);
      };
  ends = λ begun facts is. record {
    in_turn = kept.ends begun facts is.in_turn;
    own = own_step setup facts TurnEnds is.own;
    earlier = quiet (IsBefore begun) setup facts TurnEnds refl is.earlier;
    unopened = λ on. absurd cc;
    one = quiet_one setup facts TurnEnds refl is.one;
  };
}

once_first : (setup : Setup) → OpensOnce setup Between 0 (first_facts setup)
unfolding facts_of
once_first setup = record {
  in_turn = turn_first setup;
  own = own_handles setup [];
  earlier = none_linked (IsBefore 0) setup.links;
  unopened = λ on. absurd cc;
  one = λ slot. record { handle = 0; each = none_linked (IsUnder slot 0) setup.links };
}

-- at any time of a run
pub opened_once : (given : Given) (before rest : List Event) (station one other : ℕ) (a b : OpenLink) → AreDistinct given.stations → is_in station given.stations ≡ true
    → history_of (run_of given) ≡ before ++ rest → link_at one (facts_at given station before).links ≡ Some a
    → link_at other (facts_at given station before).links ≡ Some b → a.setup.opened ≡ b.setup.opened → one ≡ other
opened_once given before rest station one other a b distinct is at is_open is_open_too same =
    let setup = setup_at given station in
    let past = past_of station before in
    let stands = stands_in_run given before rest station distinct is at in
    let has = turned setup (OpensOnce setup) (once_kept setup) past stands.at (once_first setup) stands.is in
    let links = (facts_at given station before).links in
    let single = has.one a.setup.opened in
    let first = link_has (IsUnder a.setup.opened single.handle) 0 one links a single.each is_open refl in
    let second = link_has (IsUnder a.setup.opened single.handle) 0 other links b single.each is_open_too (sym same) in
    two_handles links one other a b has.own.handles is_open is_open_too (first ∙ sym second)
