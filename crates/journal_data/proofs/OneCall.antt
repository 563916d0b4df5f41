-- A call in a turn, before the end of it, keeps that the data of both sides arrives in order.
use Rattle.std.proofs.Common.{◌≡◌, ℕ, zero, suc, ◌≤◌, ◌==◌, true, false, Option, Some, List, [], ◌∷◌, ◌++◌, length, take, refl, sym, ap, subst, ◌∙◌, if◌then◌else◌, arith}
use Rattle.std.specs.Prelude.{◌≢◌}
use Rattle.std.specs.Option.{option_map}
use Rattle.std.proofs.lemmas.Bool.{eqb-true, false_from_ne_true}
use Rattle.ble_base.specs.declared.notes.Note.{Note}
use Rattle.ack_bit.specs.Nonempty.{nonempty}
use Rattle.journal_acks.specs.link_model.Acknowledgement.{Acknowledgement, Pdu, first_acknowledgement}
use Rattle.journal_acks.specs.link_model.Data.{data_of, is_empty}
use Rattle.journal_acks.specs.link_model.OneLink.{AreInAgreement}
use Rattle.journal_acks.specs.open_links.OpenLinks.{OpenLink, facts_in, link_at}
use Rattle.journal_acks.specs.controller_model.Facts.{Facts, Setup}
use Rattle.journal_acks.specs.controller_model.Side.{notes_after}
use Rattle.journal_acks.specs.controller_model.Since.{data_waiting}
use Rattle.journal_acks.specs.controller_model.Step.{Step, TurnEnds}
use Rattle.journal_acks.proofs.controller_model.Always.{IsInTurn}
use Rattle.journal_acks.proofs.run_model.LinksKnown.{link_by_other, link_by_own}
use Rattle.journal_acks.proofs.run_model.Notes.{noted_own}
use Rattle.journal_acks.proofs.run_model.OpenedNotes.{is_opened}
use Rattle.journal_acks.specs.run_model.History.{Event, past_of}
use Rattle.journal_acks.specs.run_model.Journal.{side_of}
use Rattle.journal_acks.specs.run_model.Links.{links_of}
use Rattle.journal_acks.specs.run_model.Run.{Given, after_call, facts_at, setup_at}
use Rattle.journal_acks.proofs.run_laws.Agreed.{ack_of, exchange}
use Rattle.journal_acks.proofs.run_laws.Hearings.{other_facts}
use Rattle.journal_acks.specs.journal_packets.Belonging.{is_side}
use Rattle.journal_acks.proofs.Counting.{HaveOwnNumbers}
use Rattle.journal_acks.proofs.Exchanging.{number_at}
use Rattle.journal_acks.proofs.TwoStations.{other_of}
use Rattle.journal_data.specs.Lines.{Lines, accepted_on, pdus_on, submitted_on}
use Rattle.journal_data.proofs.Arriving.{IsAhead, first_ahead, pdu_lines}
use Rattle.journal_data.proofs.ClearLines.{IsClearOn}
use Rattle.journal_data.proofs.Credits.{AreFew}
use Rattle.journal_data.proofs.EachLine.{lines_at, other_lines}
use Rattle.journal_data.proofs.Ends.{IsEndOf, IsWell, end_at, end_of, found_at, from_end, same_fed, sound}
use Rattle.journal_data.proofs.Followed.{AgreeWhereFollowed}
use Rattle.journal_data.proofs.Mine.{HasFarEnd, IsTaking}
use Rattle.journal_data.proofs.Openness.{opens_where_free}
use Rattle.journal_data.proofs.Sides.{AreArriving, End, IsBusy, IsFound, IsSound, IsStillFollowed, call_arrives}
use Rattle.journal_data.proofs.LinesGrow.{call_grows}
use Rattle.journal_data.proofs.NotedLines.{IsSameOn}
use Rattle.journal_data.proofs.StationLines.{IsNoneOf, UnusedWhereOpened, call_booked, call_same_on}
use Rattle.journal_data.proofs.KeptSubmitted.{turn_submitted}
use Rattle.journal_data.proofs.Submitting.{call_submits, turn_fed}

-- what a call does to the link of its station under a handle
pub data HasMoved (given : Given) (station : ℕ) (history : List Event) (handle : ℕ) (link : OpenLink) : Type 0 where
  -- it takes nothing, and nothing more is acknowledged to it
  Kept : (was : OpenLink) → link_at handle (facts_at given station history).links ≡ Some was → (ack_of link).accepted ≡ (ack_of was).accepted
      → take (ack_of link).acked (ack_of link).sent ≡ take (ack_of was).acked (ack_of was).sent → HasMoved given station history handle link
  -- it is a new one
  New : ack_of link ≡ first_acknowledgement → HasMoved given station history handle link
  -- it takes a packet
  Took : (was : OpenLink) → link_at handle (facts_at given station history).links ≡ Some was → IsTaking given station history handle
      → HasMoved given station history handle link

-- this holds of each link that a station has open
abbrev pub EachAt : Given → ℕ → List Event → (ℕ → OpenLink → Type 0) → Type 0
EachAt given station history P = (handle : ℕ) (link : OpenLink) → link_at handle (facts_at given station history).links ≡ Some link → P handle link

-- a call in a turn, before its end
pub record IsCallMade (given : Given) (station : ℕ) (step : Step) (history : List Event) : Type 0 where
  pub well : IsWell given station history
  -- nothing is said before of a link that it opens
  pub clear : (handle : ℕ) → is_opened handle (notes_after (setup_at given station) (facts_at given station history) step) ≡ true
      → IsClearOn ((links_of history).last_of station) (lines_at station history)
  pub own : HaveOwnNumbers given station history
  pub own_after : HaveOwnNumbers given station (after_call given station step history)
  pub few : AreFew given station (after_call given station step history)
  pub in_turn : IsInTurn step
  -- it is not the end of the turn
  pub goes_on : step ≡ TurnEnds → ⊥

-- the other end of a link of it, where these links are followed before the call, and those after it
pub record IsCallHeard (given : Given) (Before After : ℕ → Type 0) (station : ℕ) (step : Step) (history : List Event) : Type 0 where
  pub still : IsStillFollowed Before After
  pub far_well : IsWell given (other_of station) history
  pub arriving : AreArriving Before (lines_at station history) (lines_at (other_of station) history) (end_at given station history)
      (end_at given (other_of station) history)
  pub mine : (handle : ℕ) → IsTaking given station history handle → HasFarEnd given station history handle
  pub agree : AgreeWhereFollowed given After station (after_call given station step history)
  pub moved : EachAt given station (after_call given station step history) (HasMoved given station history)

no_front : {X : Type 0} (front rest : List X) → front ++ rest ≡ [] → front ≡ []
no_front [] rest is = refl
no_front (x ∷ front) rest is = absurd cc

-- the other one of two stations
pub other_not : (station : ℕ) → (other_of station == station) ≡ false
other_not zero = refl
other_not (suc station) = false_from_ne_true (0 == suc station) (λ same. let is = eqb-true 0 (suc station) same in omega (arith, is))

pub far_side : (station : ℕ) → is_side (side_of station) (side_of (other_of station)) ≡ false
far_side zero = refl
far_side (suc station) = refl

module _ (given : Given) (few : (station : ℕ) → (setup_at given station).links ≤ 4096) (eight : (station : ℕ) → (setup_at given station).host_buffers ≡ 8)
    (station : ℕ) (step : Step) (history : List Event) (made : IsCallMade given station step history) where
  abbrev then_on : List Event
  then_on = after_call given station step history

  abbrev other : ℕ
  other = other_of station

  abbrev facts : Facts
  facts = facts_at given station history

  abbrev setup : Setup
  setup = setup_at given station

  abbrev notes : List Note
  notes = notes_after setup facts step

  abbrev before_lines : Lines
  before_lines = lines_at station history

  abbrev after_lines : Lines
  after_lines = lines_at station then_on

  abbrev far_lines : Lines
  far_lines = lines_at other history

  abbrev place_after : ℕ → Option OpenLink
  place_after handle = link_at handle (facts_at given station then_on).links

  abbrev number_after : ℕ → ℕ
  number_after handle = number_at station handle then_on

  -- ---- the numbers

  number_is : (handle : ℕ) → number_after handle ≡ (if is_opened handle notes then (links_of history).last_of station else number_at station handle history)
  number_is handle = link_by_own station step notes history handle

  number_kept : (handle : ℕ) (was : OpenLink) → link_at handle facts.links ≡ Some was → number_after handle ≡ number_at station handle history
  number_kept handle was at =
      number_is handle
      ∙ ap (λ b. if b then (links_of history).last_of station else number_at station handle history)
      (opens_where_free setup (past_of station history) step handle was at)

  -- ---- what is known of its own lines

  unused : UnusedWhereOpened given station step history
  unused = λ handle opened. (made.clear handle opened).unused

  pub well_after : IsWell given station then_on
  well_after = record {
    noted = noted_own given station step history made.well.noted;
    booked = call_booked given station step history (few station) made.own made.own_after unused made.well.booked;
    submitted = turn_submitted given station step history made.in_turn (λ handle opened. (made.clear handle opened).submitted) made.well.submitted;
    fed = turn_fed given station step history made.in_turn made.well.fed;
    few = made.few;
  }

  submits_same : (link : ℕ) → submitted_on link after_lines ≡ submitted_on link before_lines
  submits_same link = ap (λ all. submitted_on link (record before_lines { submitted = all })) (call_submits station step notes history)

  -- what the lines say of links that are not open then is the same
  others_same : (number : ℕ) → IsNoneOf given station number then_on → IsSameOn number before_lines after_lines
  others_same number none =
      call_same_on given station step history (few station) made.own made.own_after unused made.well.booked (λ handle ends. absurd (made.goes_on ends)) number none

  sound_after : (handle : ℕ) (link : OpenLink) → place_after handle ≡ Some link → IsSound (end_of station handle then_on given link) after_lines
  sound_after handle link at = sound given station handle then_on link (few station) (eight station) well_after at

  found_after : (number : ℕ) → IsFound (end_at given station then_on) number
  found_after number = found_at given station then_on number

  none_of : (number : ℕ) → ((handle : ℕ) (end : End) → end_at given station then_on handle ≡ Some end → end.link ≢ number) → IsNoneOf given station number then_on
  none_of number none = λ handle link at.
      false_from_ne_true (number_after handle == number)
      (λ same. none handle (end_of station handle then_on given link) (ap (option_map (end_of station handle then_on given)) at) (eqb-true (number_after handle) number same))

  -- ---- both directions

  module _ (Before After : ℕ → Type 0) (heard : IsCallHeard given Before After station step history) where
    -- the ends of the other side stay as they are
    abbrev far_ends : ℕ → Option End
    far_ends = end_at given other history

    other_apart : (other == station) ≡ false
    other_apart = other_not station

    far_facts : facts_at given other then_on ≡ facts_at given other history
    far_facts = other_facts given station step history other other_apart

    far_number : (handle : ℕ) → number_at other handle then_on ≡ number_at other handle history
    far_number handle = link_by_other station step notes history other handle other_apart

    far_same : end_at given other then_on ≡ far_ends
    far_same = λ i handle. option_map (λ (link : OpenLink). record { link = far_number handle i; facts = facts_in link; waiting = data_waiting handle (far_facts i).received })
        (link_at handle (far_facts i).links)

    far_lines_same : lines_at other then_on ≡ far_lines
    far_lines_same = other_lines other station step notes history (far_side station)

    -- both ends of a link are open
    module _ (handle : ℕ) (link : OpenLink) (at : place_after handle ≡ Some link) (far_handle : ℕ) (far : End) (is : far_ends far_handle ≡ Some far)
        (same : far.link ≡ number_after handle) (now : After (number_after handle)) where
      far_of : IsEndOf given other history far_handle far
      far_of = from_end given other history far_handle far is

      far_at : link_at far_handle (facts_at given other then_on).links ≡ Some far_of.link
      far_at = ap (λ (f : Facts). link_at far_handle f.links) far_facts ∙ far_of.at

      far_sound : IsSound far far_lines
      far_sound = subst (λ e. IsSound e far_lines) far_of.is (sound given other far_handle history far_of.link (few other) (eight other) heard.far_well far_of.at)

      numbers_are : number_at other far_handle then_on ≡ number_after handle
      numbers_are = far_number far_handle ∙ ap (λ (e : End). e.link) far_of.is ∙ same

      ends_agree : AreInAgreement (ack_of link) (ack_of far_of.link)
      ends_agree = heard.agree handle far_handle link far_of.link at far_at numbers_are now

      agreed : AreInAgreement (ack_of link) far.facts.acknowledgement
      agreed = subst (λ (e : End). AreInAgreement (ack_of link) e.facts.acknowledgement) far_of.is ends_agree

      agreed_back : AreInAgreement far.facts.acknowledgement (ack_of link)
      agreed_back = exchange (ack_of link) far.facts.acknowledgement agreed

    -- the other station has no open end of it
    module _ (handle : ℕ) (link : OpenLink) (at : place_after handle ≡ Some link)
        (none : (far_handle : ℕ) (far : End) → far_ends far_handle ≡ Some far → far.link ≢ number_after handle)
        (now : After (number_after handle)) where
      abbrev number : ℕ
      number = number_after handle

      taken_by : (accepted : List Pdu) → (ack_of link).accepted ≡ accepted → pdus_on number before_lines.taken ≡ pdu_lines number 1 (nonempty is_empty accepted)
          → pdus_on number after_lines.taken ≡ pdus_on number before_lines.taken
      taken_by accepted same before =
          (sound_after handle link at).booked.taken ∙ ap (λ pdus. pdu_lines number 1 (nonempty is_empty pdus)) same ∙ sym before

      -- a link that was open before
      kept_alone : (was : OpenLink) → link_at handle facts.links ≡ Some was → (ack_of link).accepted ≡ (ack_of was).accepted
          → take (ack_of link).acked (ack_of link).sent ≡ take (ack_of was).acked (ack_of was).sent
          → (pdus_on number after_lines.taken ≡ pdus_on number before_lines.taken) × IsAhead number (ack_of link) far_lines
      kept_alone was here accepted acked =
          let numbers = sym (number_kept handle was here) in
          let booked = (sound given station handle history was (few station) (eight station) made.well here).booked in
          let ahead : IsAhead (number_at station handle history) (ack_of was) far_lines =
          heard.arriving.ahead handle (end_of station handle history given was) (ap (option_map (end_of station handle history given)) here)
          (subst Before (number_kept handle was here) (heard.still number now)) in
          let moved = subst (λ n. IsAhead n (ack_of was) far_lines) numbers ahead in (
            taken_by (ack_of was).accepted accepted (subst (λ n. pdus_on n before_lines.taken ≡ pdu_lines n 1 (nonempty is_empty (ack_of was).accepted)) numbers booked.taken),
            record {
              pdus = subst (λ pdus. length (nonempty is_empty pdus) ≤ length (pdus_on number far_lines.taken)) (sym acked) moved.pdus;
              octets = subst (λ pdus. length (data_of pdus) ≤ length (accepted_on number far_lines)) (sym acked) moved.octets;
            },
          )

      alone_by : HasMoved given station history handle link
          → (pdus_on number after_lines.taken ≡ pdus_on number before_lines.taken) × IsAhead number (ack_of link) far_lines
      alone_by (Kept was here accepted acked) = kept_alone was here accepted acked
      alone_by (New first) = (
        taken_by [] (ap (λ (a : Acknowledgement). a.accepted) first)
            (let grows = (call_grows given station station number step history).taken in
            no_front (pdus_on number before_lines.taken) grows.more
            (sym grows.is ∙ (sound_after handle link at).booked.taken ∙ ap (λ (a : Acknowledgement). pdu_lines number 1 (nonempty is_empty a.accepted)) first)),
        first_ahead number (ack_of link) far_lines (ap (λ (a : Acknowledgement). a.acked) first),
      )
      alone_by (Took was here taking) =
          let far = heard.mine handle taking in
          absurd (none far.far_handle (end_of other far.far_handle history given far.far) (ap (option_map (end_of other far.far_handle history given)) far.is_open)
          (far.same ∙ sym (number_kept handle was here)))

    busy : (handle : ℕ) (link : OpenLink) → place_after handle ≡ Some link → After (number_after handle)
        → IsBusy before_lines after_lines far_lines (end_of station handle then_on given link) far_ends
    busy handle link at now = record {
      sound = sound_after handle link at;
      sends = let grows = (call_grows given station station (number_after handle) step history).sent in record { more = grows.more; is = grows.is };
      submits = submits_same (number_after handle);
      both = λ far_handle far is same. (
        far_sound handle link at far_handle far is same now,
        agreed handle link at far_handle far is same now,
        agreed_back handle link at far_handle far is same now,
      );
      alone = λ none. alone_by handle link at none now (heard.moved handle link at);
    }

    arrives : AreArriving After after_lines far_lines (end_at given station then_on) far_ends
    arrives =
        call_arrives Before After heard.still before_lines after_lines far_lines (end_at given station history) (end_at given station then_on) far_ends found_after
        (found_at given other history)
        (λ handle end is now. let of = from_end given station then_on handle end is in
        subst (λ e. IsBusy before_lines after_lines far_lines e far_ends) of.is
        (busy handle of.link of.at (subst (λ (e : End). After e.link) (sym of.is) now)))
        (λ number none. same_fed number before_lines after_lines (others_same number (none_of number none)) (submits_same number)) heard.arriving

    pub arriving_after : AreArriving After after_lines (lines_at other then_on) (end_at given station then_on) (end_at given other then_on)
    arriving_after =
        subst (λ lines. AreArriving After after_lines lines (end_at given station then_on) (end_at given other then_on)) (sym far_lines_same)
        (subst (AreArriving After after_lines far_lines (end_at given station then_on)) (sym far_same) arrives)
