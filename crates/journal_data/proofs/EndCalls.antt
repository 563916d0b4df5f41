-- As a turn ends, it stays so that the data of both sides arrives in order, also on the links that end then.
use Rattle.std.proofs.Common.{◌≡◌, ℕ, ◌≤◌, ◌==◌, true, Option, Some, None, List, length, refl, sym, ap, subst, ◌∙◌, if◌then◌else◌, arith}
use Rattle.std.specs.Prelude.{◌≢◌}
use Rattle.std.specs.Option.{option_map}
use Rattle.std.proofs.lemmas.Bool.{eqb-true, false_from_ne_true}
use Rattle.ack_bit.specs.Nonempty.{nonempty}
use Rattle.host_view.specs.Flow.{left_of}
use Rattle.journal_acks.specs.link_model.Acknowledgement.{Acknowledgement}
use Rattle.journal_acks.specs.link_model.Data.{is_empty}
use Rattle.journal_acks.specs.link_model.OneLink.{AreInAgreement}
use Rattle.journal_acks.proofs.link_model.Counts.{past_counted}
use Rattle.journal_acks.proofs.link_model.Sending.{past_in_order}
use Rattle.journal_acks.specs.open_links.Data.{link_reported}
use Rattle.journal_acks.specs.open_links.OpenLinks.{OpenLink, facts_in, link_at}
use Rattle.journal_acks.specs.controller_model.Facts.{Facts, Setup}
use Rattle.journal_acks.specs.controller_model.Side.{notes_after}
use Rattle.journal_acks.specs.controller_model.Since.{data_waiting}
use Rattle.journal_acks.specs.controller_model.Step.{TurnEnds}
use Rattle.journal_acks.proofs.link_calls.UnderHandles.{ended_under}
use Rattle.journal_acks.proofs.run_model.LinksKnown.{link_by_other, link_by_own}
use Rattle.journal_acks.proofs.run_model.Notes.{noted_own}
use Rattle.journal_acks.proofs.run_model.OpenedNotes.{is_opened}
use Rattle.journal_acks.specs.run_model.History.{Event, past_of}
use Rattle.journal_acks.specs.run_model.Links.{links_of}
use Rattle.journal_acks.specs.run_model.Run.{Given, after_call, facts_at, setup_at}
use Rattle.journal_acks.proofs.run_laws.Agreed.{ack_of}
use Rattle.journal_acks.proofs.run_laws.Hearings.{other_facts, own_facts}
use Rattle.journal_acks.proofs.run_laws.Agreed.{exchange}
use Rattle.journal_acks.proofs.Counting.{HaveOwnNumbers}
use Rattle.journal_acks.proofs.Exchanging.{number_at}
use Rattle.journal_acks.proofs.TwoStations.{other_of}
use Rattle.journal_data.specs.Lines.{Lines, pdus_on}
use Rattle.journal_data.proofs.Arriving.{IsAhead, pdu_lines}
use Rattle.journal_data.proofs.Credits.{AreFew}
use Rattle.journal_data.proofs.EachLine.{lines_at, other_lines}
use Rattle.journal_data.proofs.EndedLinks.{booked_then, others_same, reported_ack, submits_same}
use Rattle.journal_data.proofs.Ends.{IsEndOf, IsWell, end_at, end_of, found_at, from_end, same_fed, sound}
use Rattle.journal_data.proofs.KeptSubmitted.{turn_submitted}
use Rattle.journal_data.proofs.LinesGrow.{call_grows}
use Rattle.journal_data.proofs.NotedLines.{below_from}
use Rattle.journal_data.proofs.Followed.{AgreeWhereFollowed}
use Rattle.journal_data.proofs.OneCall.{far_side, other_not}
use Rattle.journal_data.proofs.Openness.{opens_where_free}
use Rattle.journal_data.proofs.Sides.{AreAhead, AreArriving, End, IsBusy, IsFound, IsSound, IsStillFollowed, call_arrives, found}
use Rattle.journal_data.proofs.StationLines.{IsNoneOf, UnusedWhereOpened, call_booked}
use Rattle.journal_data.proofs.ClearLines.{IsClearOn}
use Rattle.journal_data.proofs.Submitting.{turn_fed}

-- what is known as a turn ends at a station
pub record IsEndMade (given : Given) (station : ℕ) (history : List Event) : Type 0 where
  pub well : IsWell given station history
  -- nothing is said before of a link that is opened, and none is
  pub clear : (handle : ℕ) → is_opened handle (notes_after (setup_at given station) (facts_at given station history) TurnEnds) ≡ true
      → IsClearOn ((links_of history).last_of station) (lines_at station history)
  pub own : HaveOwnNumbers given station history
  pub own_after : HaveOwnNumbers given station (after_call given station TurnEnds history)
  pub few : AreFew given station (after_call given station TurnEnds history)

-- the other ends of its links, where these are followed before it ends, and those after that
pub record IsEndHeard (given : Given) (Before After : ℕ → Type 0) (station : ℕ) (history : List Event) : Type 0 where
  pub still : IsStillFollowed Before After
  pub far_well : IsWell given (other_of station) history
  pub arriving : AreArriving Before (lines_at station history) (lines_at (other_of station) history) (end_at given station history)
      (end_at given (other_of station) history)
  pub agree : AgreeWhereFollowed given Before station history

module _ (given : Given) (few : (station : ℕ) → (setup_at given station).links ≤ 4096) (eight : (station : ℕ) → (setup_at given station).host_buffers ≡ 8)
    (station : ℕ) (history : List Event) (made : IsEndMade given station history) where
  abbrev then_on : List Event
  then_on = after_call given station TurnEnds history

  abbrev other : ℕ
  other = other_of station

  abbrev facts : Facts
  facts = facts_at given station history

  abbrev setup : Setup
  setup = setup_at given station

  abbrev before_lines : Lines
  before_lines = lines_at station history

  abbrev after_lines : Lines
  after_lines = lines_at station then_on

  abbrev far_lines : Lines
  far_lines = lines_at other history

  abbrev far_ends : ℕ → Option End
  far_ends = end_at given other history

  -- ---- its own lines

  unused : UnusedWhereOpened given station TurnEnds history
  unused = λ handle opened. (made.clear handle opened).unused

  pub end_well : IsWell given station then_on
  end_well = record {
    noted = noted_own given station TurnEnds history made.well.noted;
    booked = call_booked given station TurnEnds history (few station) made.own made.own_after unused made.well.booked;
    submitted = turn_submitted given station TurnEnds history tt (λ handle opened. (made.clear handle opened).submitted) made.well.submitted;
    fed = turn_fed given station TurnEnds history tt made.well.fed;
    few = made.few;
  }

  -- ---- the links that were open, as the host has received what it can and all is reported

  abbrev end_then : ℕ → OpenLink → End
  end_then handle link = record {
    link = number_at station handle history;
    facts = facts_in (link_reported link);
    waiting = data_waiting handle (left_of facts.view facts.received);
  }

  abbrev ends_then : ℕ → Option End
  ends_then handle = option_map (end_then handle) (link_at handle facts.links)

  record IsThen (handle : ℕ) (end : End) : Type 0 where
    link : OpenLink
    at : link_at handle facts.links ≡ Some link
    is : end_then handle link ≡ end

  from_then : (handle : ℕ) (end : End) → ends_then handle ≡ Some end → IsThen handle end
  from_then handle end is = by (link_at handle facts.links) refl is
    where
      by : (place : Option OpenLink) → link_at handle (facts_at given station history).links ≡ place
          → option_map (end_then handle) place ≡ Some end → IsThen handle end
      by None at is = absurd cc
      by (Some link) at is = let equal : Some (end_then handle link) ≡ Some end = is in record { link = link; at = at; is = cc }

  found_then : (number : ℕ) → IsFound ends_then number
  found_then number =
      found (length facts.links) ends_then number
      (λ handle end is. let of = from_then handle end is in let below = below_from 0 handle facts.links of.link of.at in omega (arith, below))

  none_of : (number : ℕ) → ((handle : ℕ) (end : End) → ends_then handle ≡ Some end → end.link ≢ number) → IsNoneOf given station number history
  none_of number none = λ handle link at.
      false_from_ne_true (number_at station handle history == number)
      (λ same. none handle (end_then handle link) (ap (option_map (end_then handle)) at) (eqb-true (number_at station handle history) number same))

  -- ---- both directions

  module _ (Before After : ℕ → Type 0) (heard : IsEndHeard given Before After station history) where
    -- both ends of a link were open
    module _ (handle : ℕ) (link : OpenLink) (at : link_at handle facts.links ≡ Some link) (far_handle : ℕ) (far : End) (is : far_ends far_handle ≡ Some far)
        (same : far.link ≡ number_at station handle history) (now : After (number_at station handle history)) where
      far_of : IsEndOf given other history far_handle far
      far_of = from_end given other history far_handle far is

      far_sound : IsSound far far_lines
      far_sound = subst (λ e. IsSound e far_lines) far_of.is (sound given other far_handle history far_of.link (few other) (eight other) heard.far_well far_of.at)

      ends_agree : AreInAgreement (ack_of link) (ack_of far_of.link)
      ends_agree =
          heard.agree handle far_handle link far_of.link at far_of.at (ap (λ (e : End). e.link) far_of.is ∙ same)
          (heard.still (number_at station handle history) now)

      agreed : AreInAgreement (ack_of (link_reported link)) far.facts.acknowledgement
      agreed =
          subst (λ (a : Acknowledgement). AreInAgreement a far.facts.acknowledgement) (sym (reported_ack link))
          (subst (λ (e : End). AreInAgreement (ack_of link) e.facts.acknowledgement) far_of.is ends_agree)

    -- the other side has no open end of it
    module _ (handle : ℕ) (link : OpenLink) (at : link_at handle facts.links ≡ Some link) (now : After (number_at station handle history)) where
      abbrev number : ℕ
      number = number_at station handle history

      taken_same : pdus_on number after_lines.taken ≡ pdus_on number before_lines.taken
      taken_same =
          (booked_then given station history (few station) made.own made.well (eight station) handle link at).taken
          ∙ ap (λ (a : Acknowledgement). pdu_lines number 1 (nonempty is_empty a.accepted)) (reported_ack link)
          ∙ sym (sound given station handle history link (few station) (eight station) made.well at).booked.taken

      ahead_same : IsAhead number (ack_of (link_reported link)) far_lines
      ahead_same =
          subst (λ (a : Acknowledgement). IsAhead number a far_lines) (sym (reported_ack link))
          (heard.arriving.ahead handle (end_of station handle history given link) (ap (option_map (end_of station handle history given)) at)
          (heard.still number now))

    busy : (handle : ℕ) (link : OpenLink) → link_at handle facts.links ≡ Some link → After (number_at station handle history)
        → IsBusy before_lines after_lines far_lines (end_then handle link) far_ends
    busy handle link at now =
        let reported = link_reported link in
        record {
          sound = record {
            booked = booked_then given station history (few station) made.own made.well (eight station) handle link at;
            order = past_in_order reported.setup reported.past;
            one_out = (past_counted reported.setup reported.past).1;
          };
          sends = let grows = (call_grows given station station (number_at station handle history) TurnEnds history).sent in record { more = grows.more; is = grows.is };
          submits = submits_same given station history (few station) made.own made.well (number_at station handle history);
          both = λ far_handle far is same.
              let agree = agreed handle link at far_handle far is same now in
              (far_sound handle link at far_handle far is same now, agree, exchange (ack_of reported) far.facts.acknowledgement agree);
          alone = λ none. (taken_same handle link at now, ahead_same handle link at now);
        }

    arrives_then : AreArriving After after_lines far_lines ends_then far_ends
    arrives_then =
        call_arrives Before After heard.still before_lines after_lines far_lines (end_at given station history) ends_then far_ends found_then (found_at given other history)
        (λ handle end is now. let of = from_then handle end is in
        subst (λ e. IsBusy before_lines after_lines far_lines e far_ends) of.is
        (busy handle of.link of.at (subst (λ (e : End). After e.link) (sym of.is) now)))
        (λ number none. same_fed number before_lines after_lines (others_same given station history (few station) made.own made.well number (none_of number none))
        (submits_same given station history (few station) made.own made.well number)) heard.arriving

    -- ---- the links that stay open

    number_kept : (handle : ℕ) (was : OpenLink) → link_at handle facts.links ≡ Some was → number_at station handle then_on ≡ number_at station handle history
    number_kept handle was at =
        link_by_own station TurnEnds (notes_after setup facts TurnEnds) history handle
        ∙ ap (λ b. if b then (links_of history).last_of station else number_at station handle history)
        (opens_where_free setup (past_of station history) TurnEnds handle was at)

    stays_ahead : AreAhead After (end_at given station then_on) far_lines
    stays_ahead handle end is now =
        let of = from_end given station then_on handle end is in
        let ended = ended_under setup facts handle of.link (ap (λ (f : Facts). link_at handle f.links) (sym (own_facts given station TurnEnds history)) ∙ of.at) in
        let was : IsAhead (number_at station handle history) (ack_of (link_reported ended.link)) far_lines =
        arrives_then.ahead handle (end_then handle ended.link) (ap (option_map (end_then handle)) ended.was)
        (subst After (number_kept handle ended.link ended.was) (subst (λ (e : End). After e.link) (sym of.is) now)) in
        subst (λ (e : End). IsAhead e.link e.facts.acknowledgement far_lines) of.is
        (subst (λ n. IsAhead n (ack_of of.link) far_lines) (sym (number_kept handle ended.link ended.was))
        (subst (λ (l : OpenLink). IsAhead (number_at station handle history) (ack_of l) far_lines) (sym ended.is) was))

    -- ---- the other side stays as it is

    far_facts : facts_at given other then_on ≡ facts_at given other history
    far_facts = other_facts given station TurnEnds history other (other_not station)

    far_number : (handle : ℕ) → number_at other handle then_on ≡ number_at other handle history
    far_number handle = link_by_other station TurnEnds (notes_after setup facts TurnEnds) history other handle (other_not station)

    far_same : end_at given other then_on ≡ far_ends
    far_same = λ i handle. option_map (λ (link : OpenLink). record { link = far_number handle i; facts = facts_in link; waiting = data_waiting handle (far_facts i).received })
        (link_at handle (far_facts i).links)

    far_lines_same : lines_at other then_on ≡ far_lines
    far_lines_same = other_lines other station TurnEnds (notes_after setup facts TurnEnds) history (far_side station)

    pub end_arriving : AreArriving After after_lines (lines_at other then_on) (end_at given station then_on) (end_at given other then_on)
    end_arriving =
        subst (λ lines. AreArriving After after_lines lines (end_at given station then_on) (end_at given other then_on)) (sym far_lines_same)
        (subst (AreArriving After after_lines far_lines (end_at given station then_on)) (sym far_same) (record {
          out = arrives_then.out;
          in_ = arrives_then.in_;
          ahead = stays_ahead;
          behind = arrives_then.behind;
        }))
