-- The lines of a side say when each of its open links had the radio last: in the turn in which it was served last, or
-- else in that of its CONNECT_IND, which is an earlier one.
use Rattle.std.proofs.Common.{◌≡◌, ℕ, ◌+◌, ◌-◌, ◌<◌, ◌≤◌, ◌==◌, Bool, true, false, Option, Some, None, List, [], ◌∷◌, ◌++◌, length, map, replicate, refl, sym, ap, subst, ◌∙◌, arith, if◌then◌else◌}
use Rattle.std.proofs.lemmas.Bool.{eq-eqb, eqb-true}
use Rattle.std.proofs.lemmas.List.{length-append}
use Rattle.std.proofs.lemmas.List.Concat.{flat_map-append}
use Rattle.journal_events.specs.journal_sending.controller_model.Facts.{Facts}
use Rattle.journal_events.specs.journal_sending.controller_model.Links.{facts_ending}
use Rattle.journal_events.specs.journal_sending.controller_model.Side.{facts_after, facts_of, notes_after}
use Rattle.journal_events.specs.journal_sending.controller_model.Step.{Step, TurnBegins}
use Rattle.journal_events.specs.journal_sending.journal_controls.LineSteps.{turn_now}
use Rattle.journal_events.specs.journal_sending.journal_data.link_model.Setup.{Setup as EndSetup}
use Rattle.journal_events.specs.journal_sending.journal_data.open_links.OpenLinks.{OpenLink, link_at}
use Rattle.journal_events.specs.journal_sending.journal_data.open_links.Turns.{due_in}
use Rattle.journal_events.specs.journal_sending.journal_links.Begun.{LinkBegun, link_numbered}
use Rattle.journal_events.specs.journal_sending.run_model.History.{Event, Called, Noted, past_of, steps_in}
use Rattle.journal_events.specs.journal_sending.run_model.Journal.{journal_from, journal_of}
use Rattle.journal_events.specs.journal_sending.run_model.Links.{links_of}
use Rattle.journal_events.specs.journal_sending.run_model.Readers.{pair_openings_in, turns_of}
use Rattle.journal_events.specs.journal_sending.run_model.Run.{Given, after_call, facts_at, setup_at, step_of}
use Rattle.journal_events.proofs.journal_sending.controller_model.Always.{ending_is}
use Rattle.journal_events.proofs.journal_sending.journal_acks.Counting.{HaveOwnNumbers, IsBegun, facts_event}
use Rattle.journal_events.proofs.journal_sending.journal_acks.Exchanging.{number_at, number_other}
use Rattle.journal_events.proofs.journal_sending.journal_acks.link_calls.UnderHandles.{staying_under}
use Rattle.journal_events.proofs.journal_sending.journal_data.Openness.{opens_where_free}
use Rattle.journal_events.proofs.journal_sending.journal_data.run_laws.OpenSteps.{none_open, open_has}
use Rattle.journal_events.proofs.journal_sending.journal_leaving.journal_ends.run_laws.Hearings.{other_facts, own_facts}
use Rattle.journal_events.proofs.journal_sending.journal_links.LinksBegun.{number_stays}
use Rattle.journal_events.proofs.journal_sending.run_model.LinksKnown.{link_by_own}
use Rattle.journal_events.proofs.journal_sending.run_model.Parts.{journal_more}
use Rattle.journal_wants.specs.Station.{served_last, served_with}
use Rattle.journal_wants.proofs.ServedLinks.{AsBefore, AsNew, IsAsBefore, IsServedAfter, begin_served, is_serving, link_serving, phase_served, serving_open, slot_served}

-- ---- more events

less_grown : (some more all : ℕ) → all ≡ some + more → some - 1 ≤ all - 1
less_grown some more all are = omega (arith, are)

turn_grows : (history more : List Event) → turn_now (journal_of history) ≤ turn_now (journal_of (history ++ more))
turn_grows history more =
    let front = journal_of history in
    let rest = journal_from (links_of history) more in
    less_grown (length (turns_of front)) (length (turns_of rest)) (length (turns_of (journal_of (history ++ more))))
    (ap (λ lines. length (turns_of lines)) (journal_more history more)
    ∙ ap length (flat_map-append pair_openings_in front rest) ∙ length-append (turns_of front) (turns_of rest))

begun_stays : (number : ℕ) (history more : List Event) (link : LinkBegun)
    → link_numbered number (journal_of history) ≡ Some link
    → link_numbered number (journal_of (history ++ more)) ≡ Some link
begun_stays number history more link is =
    ap (link_numbered number) (journal_more history more)
    ∙ number_stays number (journal_of history) (journal_from (links_of history) more) link is

-- a link that is open before a call has its number after it
pub still_numbered : (given : Given) (station : ℕ) (step : Step) (history : List Event) (handle : ℕ) (link : OpenLink)
    → link_at handle (facts_at given station history).links ≡ Some link
    → number_at station handle (after_call given station step history) ≡ number_at station handle history
still_numbered given station step history handle link at =
    link_by_own station step (notes_after (setup_at given station) (facts_at given station history) step) history
    handle
    ∙ ap (λ opened. if opened then (links_of history).last_of station else number_at station handle history)
    (opens_where_free (setup_at given station) (past_of station history) step handle link at)

-- ---- what is kept

-- each open link of a station is one of its number
abbrev pub HaveBegun : Given → ℕ → List Event → Type 0
HaveBegun given station history =
    (handle : ℕ) (link : OpenLink) → link_at handle (facts_at given station history).links ≡ Some link
    → IsBegun history (number_at station handle history) station link.setup

-- and was opened before a slot
abbrev pub HaveOpenedBefore : Given → ℕ → List Event → ℕ → Type 0
HaveOpenedBefore given station history slot =
    (handle : ℕ) (link : OpenLink) → link_at handle (facts_at given station history).links ≡ Some link
    → link.setup.opened < slot

-- the link with a number began in an earlier turn than the one under way
pub record IsEarlier (number : ℕ) (history : List Event) : Type 0 where
  pub link : LinkBegun
  pub is_link : link_numbered number (journal_of history) ≡ Some link
  pub before : link.slot < turn_now (journal_of history)

later : (number : ℕ) (history more : List Event) → IsEarlier number history → IsEarlier number (history ++ more)
later number history more is = record {
  link = is.link;
  is_link = begun_stays number history more is.link is.is_link;
  before = let before = is.before in let grows = turn_grows history more in omega (arith, before, grows);
}

-- a link had the radio last as the lines say
pub record IsLast (history : List Event) (number station : ℕ) (served : Option ℕ) (link : OpenLink) : Type 0 where
  pub begun : IsBegun history number station link.setup
  pub last : served_last served (Some begun.link) ≡ link.last_served

-- so did each open link, and what is served began in an earlier turn
pub record AreLast (given : Given) (station : ℕ) (history : List Event) (served : ℕ → Option ℕ) : Type 0 where
  pub each : (handle : ℕ) (link : OpenLink) → link_at handle (facts_at given station history).links ≡ Some link
      → IsLast history (number_at station handle history) station (served (number_at station handle history)) link
  pub earlier : (number slot : ℕ) → served number ≡ Some slot → IsEarlier number history

pub none_last : (given : Given) (station : ℕ) → AreLast given station [] (λ number. None)
unfolding facts_of
none_last given station = record {
  each = λ handle link at.
      absurd (open_has (λ one. ⊥) 0 handle (replicate (setup_at given station).links None) link
      (none_open (λ one. ⊥) (setup_at given station).links) at);
  earlier = λ number slot is. absurd cc;
}

-- ---- after more events

-- a link that was open before, or is new
data IsLastAfter (given : Given) (station : ℕ) (history after : List Event) (handle : ℕ)
    (link : OpenLink) : Type 0 where
  Left : (base : OpenLink) → link_at handle (facts_at given station history).links ≡ Some base
      → link.setup ≡ base.setup → link.last_served ≡ base.last_served
      → number_at station handle after ≡ number_at station handle history
      → IsLastAfter given station history after handle link
  New : IsBegun after (number_at station handle after) station link.setup
      → link.setup.opened ≡ turn_now (journal_of history) → link.last_served ≡ link.setup.opened
      → IsLastAfter given station history after handle link

module _ (given : Given) (station : ℕ) (history more : List Event) (served : ℕ → Option ℕ)
    (has : AreLast given station history served) where
  abbrev after : List Event
  after = history ++ more

  left_last : (handle : ℕ) (link base : OpenLink) → link_at handle (facts_at given station history).links ≡ Some base
      → link.setup ≡ base.setup
      → link.last_served ≡ base.last_served → number_at station handle after ≡ number_at station handle history
      → IsLast after (number_at station handle after) station (served (number_at station handle after)) link
  left_last handle link base was setup last number =
      let before = has.each handle base was in
      subst (λ n. IsLast after n station (served n) link) (sym number) (record {
        begun = record {
          link = before.begun.link;
          is_link = begun_stays (number_at station handle history) history more before.begun.link before.begun.is_link;
          fields = before.begun.fields ∙ ap (λ (end : EndSetup). end.link.fields) (sym setup);
          slot = before.begun.slot ∙ ap (λ (end : EndSetup). end.opened) (sym setup);
        };
        last = before.last ∙ sym last;
      })

  new_last : (handle : ℕ) (link : OpenLink) → IsBegun after (number_at station handle after) station link.setup
      → link.setup.opened ≡ turn_now (journal_of history)
      → link.last_served ≡ link.setup.opened
      → IsLast after (number_at station handle after) station (served (number_at station handle after)) link
  new_last handle link begun now last = by (served (number_at station handle after)) refl
    where
      by : (may : Option ℕ) → served (number_at station handle after) ≡ may
          → IsLast after (number_at station handle after) station (served (number_at station handle after)) link
      by None none = record {
        begun = begun;
        last = ap (λ one. served_last one (Some begun.link)) none ∙ begun.slot ∙ sym last;
      }
      by (Some slot) some =
          let number = number_at station handle after in
          let old = has.earlier number slot some in
          let same : Some begun.link ≡ Some old.link = sym begun.is_link
          ∙ begun_stays number history more old.link old.is_link in
          let equal : begun.link ≡ old.link = cc in
          let slots = ap (λ (one : LinkBegun). one.slot) equal in
          let before = old.before in
          let opened = begun.slot in
          absurd (omega (arith, slots, before, opened, now))

  all_after : ((handle : ℕ) (link : OpenLink) → link_at handle (facts_at given station after).links ≡ Some link
      → IsLastAfter given station history after handle link)
      → AreLast given station after served
  all_after each = record {
    each = λ handle link at. by handle link (each handle link at);
    earlier = λ number slot is. later number history more (has.earlier number slot is);
  }
    where
      by : (handle : ℕ) (link : OpenLink) → IsLastAfter given station history after handle link
          → IsLast after (number_at station handle after) station (served (number_at station handle after)) link
      by handle link (Left base was setup last number) = left_last handle link base was setup last number
      by handle link (New begun now last) = new_last handle link begun now last

-- an event that is no call of it
pub event_last : (given : Given) (station : ℕ) (history : List Event) (event : Event) (served : ℕ → Option ℕ)
    → steps_in station event ≡ []
    → ((handle : ℕ) → number_at station handle (history ++ event ∷ []) ≡ number_at station handle history)
    → AreLast given station history served → AreLast given station (history ++ event ∷ []) served
event_last given station history event served none numbers has =
    all_after given station history (event ∷ []) served has (λ handle link at.
    Left link (ap (λ (f : Facts). link_at handle f.links) (sym (facts_event given station history event none)) ∙ at)
    refl refl (numbers handle))

-- a call of the other station
pub far_last : (given : Given) (station caller : ℕ) (step : Step) (history : List Event) (served : ℕ → Option ℕ)
    → (station == caller) ≡ false
    → AreLast given station history served → AreLast given station (after_call given caller step history) served
far_last given station caller step history served differs has =
    all_after given station history
    (Called caller step ∷ map (Noted caller) (notes_after (setup_at given caller) (facts_at given caller history) step))
    served has (λ handle link at.
    Left link
    (ap (λ (f : Facts). link_at handle f.links) (sym (other_facts given caller step history station differs)) ∙ at)
    refl refl
    (number_other given caller step history station handle differs))

-- ---- its own calls

module _ (given : Given) (station : ℕ) (step : Step) (history : List Event) (served : ℕ → Option ℕ)
    (has : AreLast given station history served) where
  abbrev facts : Facts
  facts = facts_at given station history

  abbrev called : List Event
  called = after_call given station step history

  abbrev events : List Event
  events = Called station step ∷ map (Noted station) (notes_after (setup_at given station) facts step)

  held : (handle : ℕ) (link : OpenLink) → link_at handle (facts_at given station called).links ≡ Some link
      → link_at handle (facts_after (setup_at given station) facts step).links ≡ Some link
  held handle link at = ap (λ (f : Facts). link_at handle f.links) (sym (own_facts given station step history)) ∙ at

  left_by : (handle : ℕ) (link : OpenLink) → IsAsBefore facts handle link
      → IsLastAfter given station history called handle link
  left_by handle link was =
      Left was.link was.was was.setup_is was.last_is
      (still_numbered given station step history handle was.link was.was)

  -- one that leaves each link as it is
  pub call_last : ((handle : ℕ) (link : OpenLink)
      → link_at handle (facts_after (setup_at given station) facts step).links ≡ Some link
      → IsAsBefore facts handle link)
      → AreLast given station called served
  call_last each =
      all_after given station history events served has
      (λ handle link at. left_by handle link (each handle link (held handle link at)))

  -- one that may open a link
  opens_last : facts.turn.slot ≡ turn_now (journal_of history)
      → HaveBegun given station called
      → ((handle : ℕ) (link : OpenLink)
      → link_at handle (facts_after (setup_at given station) facts step).links ≡ Some link
      → IsServedAfter facts handle link)
      → AreLast given station called served
  opens_last turn begun each =
      all_after given station history events served has
      (λ handle link at. by handle link at (each handle link (held handle link at)))
    where
      by : (handle : ℕ) (link : OpenLink) → link_at handle (facts_at given station called).links ≡ Some link
          → IsServedAfter facts handle link
          → IsLastAfter given station history called handle link
      by handle link at (AsBefore was) = left_by handle link was
      by handle link at (AsNew now last) = New (begun handle link at) (now ∙ turn) last

-- a phase
pub phase_last : (given : Given) (station : ℕ) (received : Option (List ℕ)) (history : List Event)
    (served : ℕ → Option ℕ)
    → (facts_at given station history).turn.slot ≡ turn_now (journal_of history)
    → HaveBegun given station (after_call given station (step_of received) history)
    → AreLast given station history served
    → AreLast given station (after_call given station (step_of received) history) served
phase_last given station received history served turn begun has =
    opens_last given station (step_of received) history served has turn begun
    (phase_served (setup_at given station) (facts_at given station history) received)

-- ---- a turn begins

-- as the lines say it of the links that stay
pub staying_last : (given : Given) (station slot : ℕ) (history : List Event) (served : ℕ → Option ℕ)
    → AreLast given station history served
    → (handle : ℕ) (link : OpenLink)
    → link_at handle (facts_ending slot (facts_at given station history)).links ≡ Some link
    → served_last (served (number_at station handle history))
    (link_numbered (number_at station handle history) (journal_of history)) ≡ link.last_served
staying_last given station slot history served has handle link at =
    let facts = facts_at given station history in
    let was = staying_under (due_in slot) handle facts.links link
    (ap (λ (f : Facts). link_at handle f.links) (sym (ending_is slot facts)) ∙ at) in
    let is = has.each handle link was.was in
    ap (served_last (served (number_at station handle history))) is.begun.is_link ∙ is.last

-- the number of a link that is served
abbrev pub number_won : ℕ → List Event → Option ℕ → Option ℕ
number_won station history None = None
number_won station history (Some handle) = Some (number_at station handle history)

swapped : (one other : ℕ) → (one == other) ≡ false → (other == one) ≡ false
swapped one other differs = grind (arith, differs)

module _ (given : Given) (station slot : ℕ) (on : Bool) (history : List Event) (served : ℕ → Option ℕ)
    (has : AreLast given station history served)
    (turn : turn_now (journal_of history) ≡ slot) (own : HaveOwnNumbers given station history)
    (older : HaveOpenedBefore given station history slot) where
  abbrev base : Facts
  base = facts_at given station history

  abbrev begun_on : List Event
  begun_on = after_call given station (TurnBegins slot on) history

  abbrev more_events : List Event
  more_events =
      Called station (TurnBegins slot on)
      ∷ map (Noted station) (notes_after (setup_at given station) base (TurnBegins slot on))

  abbrev won : Option ℕ
  won = link_serving slot on base

  abbrev number_of : ℕ → ℕ
  number_of handle = number_at station handle history

  -- the lines serve it, and no other one
  served_now : (handle : ℕ) (link : OpenLink) (begun : LinkBegun) → link_at handle base.links ≡ Some link
      → served_last (served (number_of handle)) (Some begun) ≡ link.last_served
      → served_last (served_with (number_won station history won) slot served (number_of handle)) (Some begun)
      ≡ slot_served (is_serving won handle) slot link.last_served
  served_now handle link begun at last = by won refl
    where
      by_handle : (other : ℕ) → won ≡ Some other → (same : Bool) → (other == handle) ≡ same
          → served_last (served_with (Some (number_of other)) slot served (number_of handle)) (Some begun)
          ≡ slot_served (other == handle) slot link.last_served
      by_handle other is true same =
          ap (λ b. served_last (if b then Some slot else served (number_of handle)) (Some begun))
          (eq-eqb (number_of handle) (number_of other) (ap number_of (sym (eqb-true other handle same))))
          ∙ sym (ap (λ b. slot_served b slot link.last_served) same)
      by_handle other is false differs =
          let serving = serving_open slot on base other is in
          ap (λ b. served_last (if b then Some slot else served (number_of handle)) (Some begun))
          (own handle other link serving.link at serving.was (swapped other handle differs))
          ∙ last ∙ sym (ap (λ b. slot_served b slot link.last_served) differs)

      by : (one : Option ℕ) → won ≡ one
          → served_last (served_with (number_won station history one) slot served (number_of handle)) (Some begun)
          ≡ slot_served (is_serving one handle) slot link.last_served
      by None is = last
      by (Some other) is = by_handle other is (other == handle) refl

  begun_each : (handle : ℕ) (link : OpenLink) → link_at handle (facts_at given station begun_on).links ≡ Some link
      → IsLast begun_on (number_at station handle begun_on) station
      (served_with (number_won station history won) slot served (number_at station handle begun_on)) link
  begun_each handle link at =
      let step = TurnBegins slot on in
      let got = begin_served (setup_at given station) base slot on handle link
      (ap (λ (f : Facts). link_at handle f.links) (sym (own_facts given station step history)) ∙ at) in
      let before = has.each handle got.link got.was in
      subst (λ n. IsLast begun_on n station (served_with (number_won station history won) slot served n) link)
      (sym (still_numbered given station step history handle got.link got.was)) (record {
        begun = record {
          link = before.begun.link;
          is_link = begun_stays (number_of handle) history more_events before.begun.link before.begun.is_link;
          fields = before.begun.fields ∙ ap (λ (end : EndSetup). end.link.fields) (sym got.setup_is);
          slot = before.begun.slot ∙ ap (λ (end : EndSetup). end.opened) (sym got.setup_is);
        };
        last = served_now handle got.link before.begun.link got.was before.last ∙ sym got.last_is;
      })

  begun_earlier : (number last : ℕ) → served_with (number_won station history won) slot served number ≡ Some last
      → IsEarlier number begun_on
  begun_earlier number last = by won refl
    where
      by_number : (other : ℕ) → won ≡ Some other → (same : Bool) → (number == number_of other) ≡ same
          → served_with (Some (number_of other)) slot served number ≡ Some last → IsEarlier number begun_on
      by_number other is true same now =
          let serving = serving_open slot on base other is in
          let begun = (has.each other serving.link serving.was).begun in
          later number history more_events (record {
            link = begun.link;
            is_link = ap (λ n. link_numbered n (journal_of history)) (eqb-true number (number_of other) same)
                ∙ begun.is_link;
            before =
                let opened = begun.slot in
                let before = older other serving.link serving.was in
                omega (arith, opened, before, turn);
          })
      by_number other is false differs now =
          later number history more_events
          (has.earlier number last (sym (ap (λ b. if b then Some slot else served number) differs) ∙ now))

      by : (one : Option ℕ) → won ≡ one → served_with (number_won station history one) slot served number ≡ Some last
          → IsEarlier number begun_on
      by None is now = later number history more_events (has.earlier number last now)
      by (Some other) is now = by_number other is (number == number_of other) refl now

  pub begin_last : AreLast given station begun_on (served_with (number_won station history won) slot served)
  begin_last = record { each = begun_each; earlier = begun_earlier }
