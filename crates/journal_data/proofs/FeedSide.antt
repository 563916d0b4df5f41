-- A feed keeps that the data of both sides arrives in order.
use Rattle.std.proofs.Common.{◌≡◌, ℕ, ◌≤◌, true, Option, Some, List, [], ◌∷◌, ◌++◌, refl, sym, ap, subst, ◌∙◌}
use Rattle.std.specs.Option.{option_map}
use Rattle.journal_acks.specs.link_model.Acknowledgement.{Acknowledgement}
use Rattle.journal_acks.specs.open_links.OpenLinks.{OpenLink, link_at}
use Rattle.journal_acks.proofs.controller_model.BetweenTurns.{none_complete}
use Rattle.journal_acks.specs.controller_model.Between.{is_between_turns}
use Rattle.journal_acks.specs.controller_model.Facts.{Facts}
use Rattle.journal_acks.specs.controller_model.Side.{facts_of}
use Rattle.journal_acks.specs.controller_model.Step.{HostOctet}
use Rattle.journal_acks.specs.run_model.History.{Event, HostFed, past_of}
use Rattle.journal_acks.specs.run_model.Run.{Given, after_call, after_feed, after_octets, facts_at, setup_at}
use Rattle.journal_acks.proofs.run_model.Calls.{flat_nothing}
use Rattle.journal_acks.specs.run_model.History.{steps_in}
use Rattle.journal_acks.proofs.run_laws.Agreed.{ack_of}
use Rattle.journal_acks.proofs.run_laws.Hearings.{own_facts}
use Rattle.journal_acks.proofs.Counting.{HaveOwnNumbers}
use Rattle.journal_acks.proofs.Exchanging.{number_at}
use Rattle.journal_acks.proofs.link_calls.UnderHandles.{octet_under}
use Rattle.journal_data.specs.Lines.{Lines}
use Rattle.journal_data.proofs.Arriving.{IsAhead}
use Rattle.journal_data.proofs.Credits.{few_feed}
use Rattle.journal_data.proofs.EachLine.{lines_at}
use Rattle.journal_data.proofs.Ends.{IsWell, end_at, end_of, from_end, sound}
use Rattle.journal_data.proofs.Feeds.{feed_is_fed}
use Rattle.journal_data.proofs.NotedStays.{noted_feed}
use Rattle.journal_data.proofs.Sides.{AreAhead, AreArriving, End, IsStillFollowed, idle_arrives}
use Rattle.journal_data.proofs.StationLines.{KeepsFeed, feed_kept, numbers_event, octet_number}
use Rattle.journal_data.proofs.Submitting.{AreInStep, feed_fed, feed_submitted, in_step}

-- ---- what a feed does to the links of its station

pub record WasThere (before : Option OpenLink) (after : OpenLink) : Type 0 where
  pub link : OpenLink
  pub was : before ≡ Some link
  pub ack : ack_of after ≡ ack_of link

octets_there : (given : Given) (station : ℕ) (octets : List ℕ) (history : List Event) (handle : ℕ) (after : OpenLink)
    → link_at handle (facts_at given station (after_octets given station octets history)).links ≡ Some after
    → WasThere (link_at handle (facts_at given station history).links) after
octets_there given station [] history handle after at = record { link = after; was = at; ack = refl }
octets_there given station (octet ∷ octets) history handle after at =
    let next = after_call given station (HostOctet octet) history in
    let later = octets_there given station octets next handle after at in
    let here : link_at handle (facts_at given station next).links ≡ Some later.link = later.was in
    let was = octet_under (setup_at given station) (facts_at given station history) octet handle later.link
    (ap (λ (f : Facts). link_at handle f.links) (sym (own_facts given station (HostOctet octet) history)) ∙ here) in
    record { link = was.link; was = was.was; ack = later.ack ∙ was.ack }

pub feed_there : (given : Given) (station : ℕ) (octets : List ℕ) (history : List Event) (handle : ℕ) (after : OpenLink)
    → link_at handle (facts_at given station (after_feed given station octets history)).links ≡ Some after
    → WasThere (link_at handle (facts_at given station history).links) after
feed_there given station [] history handle after at = record { link = after; was = at; ack = refl }
feed_there given station (octet ∷ octets) history handle after at =
    let event = HostFed station (octet ∷ octets) in
    let there = octets_there given station (octet ∷ octets) (history ++ event ∷ []) handle after at in
    record {
      link = there.link;
      was = ap (λ past. link_at handle (facts_of (setup_at given station) past).links) (sym (flat_nothing (steps_in station) history event refl)) ∙ there.was;
      ack = there.ack;
    }

octets_number : (given : Given) (station : ℕ) (octets : List ℕ) (history : List Event) (handle : ℕ)
    → number_at station handle (after_octets given station octets history) ≡ number_at station handle history
octets_number given station [] history handle = refl
octets_number given station (octet ∷ octets) history handle =
    octets_number given station octets (after_call given station (HostOctet octet) history) handle ∙ octet_number given station octet handle history

feed_number : (given : Given) (station : ℕ) (octets : List ℕ) (history : List Event) (handle : ℕ)
    → number_at station handle (after_feed given station octets history) ≡ number_at station handle history
feed_number given station [] history handle = refl
feed_number given station (octet ∷ octets) history handle =
    octets_number given station (octet ∷ octets) (history ++ HostFed station (octet ∷ octets) ∷ []) handle
    ∙ ap (λ (number : ℕ → ℕ). number handle) (numbers_event station history (HostFed station (octet ∷ octets)) refl)

module _ (given : Given) (few : (station : ℕ) → (setup_at given station).links ≤ 4096) (eight : (station : ℕ) → (setup_at given station).host_buffers ≡ 8)
    (station : ℕ) (octets : List ℕ) (history : List Event) (own : HaveOwnNumbers given station history) (well : IsWell given station history)
    (between : is_between_turns (past_of station history) ≡ true) where
  abbrev then_on : List Event
  then_on = after_feed given station octets history

  pub feed_step : AreInStep given station history
  feed_step =
      in_step given station history well.fed own well.booked
      (λ handle link at. none_complete (setup_at given station) (past_of station history) handle link between at)
      (λ handle link at. (sound given station handle history link (few station) (eight station) well at).booked.credited) well.submitted

  kept : KeepsFeed given station history then_on
  kept = feed_kept given station octets history (few station) own well.booked

  pub feed_well : IsWell given station then_on
  feed_well = record {
    noted = noted_feed given station octets history well.noted;
    booked = kept.booked;
    submitted = feed_submitted given station octets history (eight station) feed_step well.submitted;
    fed = feed_fed given station octets history well.fed;
    few = few_feed given station octets history between well.few;
  }

  -- ---- both directions

  ahead_after : (Before After : ℕ → Type 0) → IsStillFollowed Before After → (far_lines : Lines) → AreAhead Before (end_at given station history) far_lines
      → AreAhead After (end_at given station then_on) far_lines
  ahead_after Before After still far_lines ahead handle end is now =
      let of = from_end given station then_on handle end is in
      let there = feed_there given station octets history handle of.link of.at in
      let same = feed_number given station octets history handle in
      let before : Before (number_at station handle history) =
      subst Before same (still (number_at station handle then_on) (subst (λ (e : End). After e.link) (sym of.is) now)) in
      let was : IsAhead (number_at station handle history) (ack_of there.link) far_lines =
      ahead handle (end_of station handle history given there.link) (ap (option_map (end_of station handle history given)) there.was) before in
      subst (λ (e : End). IsAhead e.link e.facts.acknowledgement far_lines) of.is
      (subst (λ n. IsAhead n (ack_of of.link) far_lines) (sym same)
      (subst (λ (a : Acknowledgement). IsAhead (number_at station handle history) a far_lines) (sym there.ack) was))

  pub feed_arrives : (Before After : ℕ → Type 0) → IsStillFollowed Before After → (far_lines : Lines) (peer : ℕ → Option End)
      → AreArriving Before (lines_at station history) far_lines (end_at given station history) peer
      → AreArriving After (lines_at station then_on) far_lines (end_at given station then_on) peer
  feed_arrives Before After still far_lines peer arriving =
      idle_arrives Before After still (lines_at station history) (lines_at station then_on) far_lines (end_at given station history) (end_at given station then_on) peer
      (feed_is_fed given station octets history (few station) (eight station) feed_step well.booked well.submitted) (ahead_after Before After still far_lines arriving.ahead) arriving
