-- Other steps of a run keep that what a station takes is of the other end of its link.
use Rattle.std.proofs.Common.{arith, ◌≡◌, ℕ, ◌==◌, Bool, true, false, Option, Some, None, List, cond, refl, sym, ap, ◌∙◌}
use Rattle.std.specs.Prelude.{is_some}
use Rattle.ble_base.specs.declared.notes.Note.{Note}
use Rattle.journal_acks.specs.link_model.Setup.{Setup as EndSetup}
use Rattle.journal_acks.specs.link_model.declared.setup.LinkSetup.{LinkSetup}
use Rattle.journal_acks.specs.open_links.OpenLinks.{Links, OpenLink, link_at, new_link, with_link}
use Rattle.journal_acks.specs.controller_model.Facts.{Facts, Setup}
use Rattle.journal_acks.specs.controller_model.Heard.{facts_with_words, has_room, link_heard, link_taken, opens as opening, scanner_heard}
use Rattle.journal_acks.specs.controller_model.Outcome.{Outcome, facts_passed}
use Rattle.journal_acks.specs.controller_model.Packets.{verdict_of}
use Rattle.journal_acks.specs.controller_model.Side.{facts_after, notes_after}
use Rattle.journal_acks.proofs.controller_model.Always.{opening_is}
use Rattle.journal_acks.proofs.controller_model.OpenPlaces.{opens, sent_opens, received_opens}
use Rattle.journal_acks.proofs.controller_model.Phases.{EachOutcome, heard_is, unheard_is}
use Rattle.journal_acks.specs.run_model.History.{Event, packet_received, past_of}
use Rattle.journal_acks.specs.run_model.Links.{links_of}
use Rattle.journal_acks.specs.run_model.Run.{Given, after_call, facts_at, setup_at, step_of}
use Rattle.journal_acks.proofs.run_model.LinkEnds.{received_by}
use Rattle.journal_acks.proofs.run_model.Stations.{is_in}
use Rattle.journal_acks.proofs.run_laws.Hearings.{other_facts, own_facts}
use Rattle.journal_acks.proofs.Exchanging.{number_at, number_other}
use Rattle.journal_acks.specs.link_calls.Uses.{listens_under}
use Rattle.journal_acks.proofs.TwoStations.{IsOfTwo, other_is, other_of}
use Rattle.journal_data.proofs.Mine.{AreMine, HasFarEnd, IsTaking, none_mine, other_back}
use Rattle.journal_data.proofs.Openness.{is_open, opens_where_free, same_open, words_open}
use Rattle.journal_data.proofs.NotedLines.{below_from, is_link}
use Rattle.journal_acks.proofs.open_links.Handles.{opened_at, other_stays}
use Rattle.std.proofs.lemmas.Bool.{eqb-false, eqb-true}
use Rattle.journal_acks.proofs.run_model.LinksKnown.{link_by_own}

-- ---- nothing is received

pub heard_none_mine : (given : Given) (history : List Event) → ((station : ℕ) → is_in station given.stations ≡ true → packet_received station history ≡ None)
    → AreMine given history
heard_none_mine given history none = λ station is handle taking. none_mine given station history handle (none station is) taking

-- ---- a phase shuts no link

module _ (handle : ℕ) where
  abbrev StaysOpen : Facts → Outcome → Type 0
  StaysOpen facts outcome = is_open facts.links handle ≡ true → is_open (facts_passed outcome).links handle ≡ true

  same_stays : (facts : Facts) (outcome : Outcome) → opens outcome.facts.links ≡ opens facts.links → StaysOpen facts outcome
  same_stays facts outcome same linked =
      same_open facts.links _ (sent_opens outcome.facts.turn.slot outcome.next outcome.facts.links ∙ same) handle ∙ linked

  -- a link is opened under any handle
  with_link_open : (end : EndSetup) (links : Links) → is_open links handle ≡ true → is_open (with_link end links) handle ≡ true
  with_link_open end links linked = by (end.link.handle == handle) refl
    where
      by : (own : Bool) → (end.link.handle == handle) ≡ own → is_open (with_link end links) handle ≡ true
      by true same =
          let equal = eqb-true end.link.handle handle same in
          let found = is_link (link_at handle links) linked in
          let below = below_from 0 handle links found.link found.is in
          ap (is_open (with_link end links)) (sym equal) ∙ ap (λ (place : Option OpenLink). is_some place) (opened_at end links (omega (arith, below, equal)))
      by false differs =
          ap (λ (place : Option OpenLink). is_some place)
          (other_stays (λ before. Some (new_link end)) 0 end.link.handle handle links (λ same. eqb-false end.link.handle handle differs (sym same))) ∙ linked

  opening_stays : (facts : Facts) (link : LinkSetup) → StaysOpen facts (opening link facts)
  opening_stays facts link linked =
      ap (λ (held : Facts). is_open held.links handle) (opening_is link facts)
      ∙ with_link_open (record { link = link; opened = facts.turn.slot }) facts.links linked

  phase_stays : (setup : Setup) (facts : Facts) → EachOutcome setup facts (StaysOpen facts)
  phase_stays setup facts = record {
    rests = λ linked. linked;
    awaits_request = λ channel doing linked. linked;
    awaits_response = λ channel advertiser doing linked. linked;
    central_listens = λ under doing linked. linked;
    sent = λ channel link doing. opening_stays facts link;
    responds = λ channel on doing is_on linked. linked;
    taken = λ channel octets pdu on fields under is_on hears takes free. opening_stays facts (link_taken facts.view on.params.own pdu fields under);
    scanned = λ channel octets pdu on doing is_on hears. same_stays facts (scanner_heard (Some on) true channel pdu facts) refl;
    answered = λ channel octets pdu on doing is_on hears. same_stays facts (scanner_heard (Some on) false channel pdu facts) refl;
    connects = λ channel octets pdu on access under doing is_on hears answers next free in_range linked. linked;
    received = λ under octets.
        same_stays facts (link_heard setup under octets facts) (received_opens under (has_room setup facts) octets facts);
  }

  pub phase_open : (setup : Setup) (facts : Facts) (received : Option (List ℕ)) → is_some (link_at handle facts.links) ≡ true
      → is_some (link_at handle (facts_after setup facts (step_of received)).links) ≡ true
  phase_open setup facts None linked = unheard_is setup facts (StaysOpen facts) (phase_stays setup facts) facts.turn.doing refl linked
  phase_open setup facts (Some octets) linked =
      heard_is setup facts (StaysOpen facts) (phase_stays setup facts) facts.turn.doing octets refl
      (λ under.
      let worded = facts_with_words setup under facts in
      same_stays facts (link_heard setup under octets worded) (received_opens under (has_room setup facts) octets worded ∙ words_open setup under facts)) linked

-- ---- the link of the station whose call it is

module _ (given : Given) (are_two : IsOfTwo given) (station : ℕ) (history : List Event) (is : is_in station given.stations ≡ true) where
  abbrev received : Option (List ℕ)
  received = packet_received station history

  abbrev after : List Event
  after = after_call given station (step_of received) history

  abbrev setup : Setup
  setup = setup_at given station

  abbrev facts : Facts
  facts = facts_at given station history

  abbrev notes : List Note
  notes = notes_after setup facts (step_of received)

  -- an open link stays open, under its number
  own_open : (handle : ℕ) → is_some (link_at handle facts.links) ≡ true → is_some (link_at handle (facts_at given station after).links) ≡ true
  own_open handle linked =
      ap (λ (f : Facts). is_some (link_at handle f.links)) (own_facts given station (step_of received) history) ∙ phase_open handle setup facts received linked

  own_number : (handle : ℕ) (link : OpenLink) → link_at handle facts.links ≡ Some link → number_at station handle after ≡ number_at station handle history
  own_number handle link at =
      link_by_own station (step_of received) notes history handle
      ∙ ap (λ (opened : Bool). cond opened ((links_of history).last_of station) (number_at station handle history))
      (opens_where_free setup (past_of station history) (step_of received) handle link at)

  -- the other station had the same to take
  taking_before : (one handle : ℕ) → (one == station) ≡ false → IsTaking given one after handle → IsTaking given one history handle
  taking_before one handle differs taking =
      let same : facts_at given one after ≡ facts_at given one history = other_facts given station (step_of received) history one differs in
      record {
        octets = taking.octets;
        received = sym (received_by given one station (step_of received) history false differs) ∙ taking.received;
        link = taking.link;
        is_open = ap (λ (f : Facts). link_at handle f.links) (sym same) ∙ taking.is_open;
        listens = ap (λ (f : Facts). listens_under handle f.turn.doing) (sym same) ∙ taking.listens;
        unforged = λ forged. taking.unforged (ap (λ (f : Facts). verdict_of f taking.octets) same ∙ forged);
      }

  far_after : (one handle : ℕ) → (one == station) ≡ false → other_of one ≡ station → HasFarEnd given one history handle → HasFarEnd given one after handle
  far_after one handle differs back has =
      let under = has.far_handle in
      let open_is : link_at under facts.links ≡ Some has.far = ap (λ n. link_at under (facts_at given n history).links) (sym back) ∙ has.is_open in
      let still = is_link (link_at under (facts_at given station after).links) (own_open under (ap (λ (place : Option OpenLink). is_some place) open_is)) in
      record {
        far_handle = under;
        far = still.link;
        is_open = ap (λ n. link_at under (facts_at given n after).links) back ∙ still.is;
        same = ap (λ n. number_at n under after) back ∙ own_number under has.far open_is ∙ ap (λ n. number_at n under history) (sym back) ∙ has.same
            ∙ sym (number_other given station (step_of received) history one handle differs);
      }

  by_station : (one handle : ℕ) → is_in one given.stations ≡ true → (same : Bool) → (one == station) ≡ same → AreMine given history
      → IsTaking given one after handle → HasFarEnd given one after handle
  by_station one handle in_it true same mine taking =
      none_mine given one after handle (received_by given one station (step_of received) history true same) taking
  by_station one handle in_it false differs mine taking =
      let back : other_of one ≡ station = ap other_of (other_is given are_two station one is in_it differs) ∙ other_back given are_two station is in
      far_after one handle differs back (mine one in_it handle (taking_before one handle differs taking))

  pub hearing_mine : AreMine given history → AreMine given after
  hearing_mine mine = λ one in_it handle taking. by_station one handle in_it (one == station) refl mine taking
