-- In every run, both ends of one link stay in agreement, if each hears of its link only what the other sends.
use Rattle.std.proofs.Common.{◌≡◌, ℕ, ◌==◌, ◌⊎◌, inl, inr, Bool, true, false, Option, Some, None, is_none, List, [], ◌∷◌, ◌++◌, replicate, refl, sym, ap, subst, ◌∙◌, append_assoc}
use Rattle.std.specs.Prelude.{if◌then◌else◌}
use Rattle.std.proofs.lemmas.Bool.{eqb-true}
use Rattle.ble_base.specs.declared.verdicts.Verdict.{Verdict}
use Rattle.ble_base.specs.declared.verdicts.Verdict.TheVariants.{Broken as BrokenPacket, Forged, Good}
use Rattle.air_frame.specs.declared.Heard.{Heard}
use Rattle.air_frame.specs.declared.Heard.TheVariants.{NotOurs, Broken, Whole}
use Rattle.run_model.specs.link_model.Acknowledgement.{Acknowledgement}
use Rattle.run_model.specs.link_model.Receiving.{facts_received}
use Rattle.run_model.specs.link_model.End.{facts_after as end_after}
use Rattle.run_model.specs.link_model.Facts.{Facts as EndFacts}
use Rattle.run_model.specs.link_model.Verdicts.{has_room_for, pdu_by, verdict_by, whole_in}
use Rattle.run_model.specs.link_model.Packets.{good_pdu, heard_of, is_forged, is_forged_pdu, pdu_read, pdu_read_in, verdict_of, whole_pdu}
use Rattle.run_model.specs.link_model.Payload.{opens_now}
use Rattle.run_model.specs.link_model.OneLink.{AreInAgreement}
use Rattle.run_model.specs.link_model.Setup.{Setup as EndSetup}
use Rattle.run_model.specs.link_model.Step.{PacketReceived, PacketSent, WordsGiven}
use Rattle.run_model.proofs.link_model.Acknowledging.{forged_leaves}
use Rattle.run_model.proofs.link_model.Hearing.{IsHeardWhole}
use Rattle.run_model.specs.open_links.OpenLinks.{Links, OpenLink, facts_in, link_after, link_at, new_link}
use Rattle.run_model.proofs.open_links.Unmoved.{entered_setup}
use Rattle.run_model.specs.controller_model.Step.{Step, HostOctet, TurnBegins, PacketHeard, NothingHeard, TurnEnds}
use Rattle.run_model.specs.controller_model.Facts.{Facts, Setup}
use Rattle.run_model.specs.controller_model.Side.{facts_after, facts_of}
use Rattle.run_model.specs.Feeding.{AreDistinct}
use Rattle.run_model.specs.History.{Event, Called}
use Rattle.run_model.specs.LinkEnds.{HaveAddresses}
use Rattle.run_model.specs.Run.{Given, facts_at, history_of, run_of, setup_at, step_of}
use Rattle.run_model.proofs.LinkEnds.{AreTaken, IsUnderstood}
use Rattle.run_model.proofs.Stations.{is_in}
use Rattle.run_laws.specs.Ends.{AreEnds, HasSent, HaveOneConnectInd, HearEachOther, HearsItsLink, IsOpen, OpenEnd, ReceivesGood}
use Rattle.run_laws.specs.Shapes.{AgreeInShape, IsReadAsSent, ReadEachOtherAsSent, ReadsAsSent}
use Rattle.run_laws.proofs.Agreed.{AgreeIn, IsAgreement, ack_of, agree_by, agree_received, in_agreement, in_shape, step_facts}
use Rattle.run_laws.proofs.ByCalls.{all_facts}
use Rattle.run_laws.proofs.EachCall.{IsCallOf, IsPhase, call_at, facts_called, facts_others, kept_along}
use Rattle.run_laws.proofs.DistinctAccess.{AreApart}
use Rattle.run_laws.proofs.InAgreement.{AllAgreeIn, AllPairs, IsKeptByFirst, IsStation, WithAllIn, agree_kept, all_asked, all_entered, all_hosts, all_served, first_station, link_worded, new_agree, one_slot, pairs_back, passing_keeps, station_begins, station_ends, station_fed, station_passes}
use Rattle.run_laws.proofs.InRange.{ranges_before, ranges_in}
use Rattle.run_laws.proofs.Pieces.{sent_readable}
use Rattle.run_laws.proofs.LinkPasses.{phase_passes_on}
use Rattle.run_laws.proofs.OpenSteps.{EachOpen, begin_open, each_under, end_open, none_open, octet_open, open_has, open_more}
use Rattle.run_laws.proofs.OpenedOnce.{opened_once}
use Rattle.run_laws.proofs.OwnLinks.{hear_each_other}
use Rattle.run_laws.proofs.SameEvent.{apart_ends, one_connect_ind}
use Rattle.run_laws.proofs.TwoStations.{AreTwo, differs_back}

-- ---- what is known of two links

back : (one other : EndSetup) → HaveOneConnectInd one other → HaveOneConnectInd other one
back one other same = record { fields = sym same.fields; opened = sym same.opened }

through : (one other third : EndSetup) → HaveOneConnectInd one other → HaveOneConnectInd other third → HaveOneConnectInd one third
through one other third same next = record { fields = same.fields ∙ next.fields; opened = same.opened ∙ next.opened }

-- two ends of the link with this CONNECT_IND agree
abbrev AgreeOn : (Acknowledgement → Acknowledgement → Type 0) → EndSetup → OpenLink → OpenLink → Type 0
AgreeOn R end one other = HaveOneConnectInd one.setup end → AgreeIn R one other

-- an end takes what the far end sent, and reads it so
record TakesFrom (Reads : EndSetup → EndFacts → EndFacts → List ℕ → Type 0) (given : Given) (before : List Event) (far : OpenEnd) (octets : List ℕ)
    (to : EndSetup) (listener : EndFacts) : Type 0 where
  sent : HasSent given before far listener.event.channel octets
  reads : Reads to listener (facts_in sent.link) octets

-- so it is of each good packet in a history
abbrev EndTakes : (EndSetup → EndFacts → EndFacts → List ℕ → Type 0) → Given → List Event → OpenEnd → OpenEnd → Type 0
EndTakes Reads given history end far =
    (before after : List Event) (octets : List ℕ) (link : OpenLink) → history ≡ before ++ Called end.station (PacketHeard octets) ∷ after
    → ReceivesGood (facts_at given end.station before) octets link → HaveOneConnectInd link.setup end.link.setup
    → TakesFrom Reads given before far octets link.setup (facts_in link)

-- ---- what is received

-- a packet that is not good changes nothing
good_or_kept : (slot : ℕ) (room : Bool) (octets : List ℕ) (link : OpenLink)
    → (verdict_of link.setup (facts_in link) octets ≡ Good) ⊎ (ack_of (link_after (PacketReceived slot octets room) link) ≡ ack_of link)
unfolding good_pdu verdict_of whole_pdu
good_or_kept slot room octets link = got (of (heard_of link.setup (facts_in link) octets))
  where
    listener : EndFacts
    listener = facts_in link

    opens : Bool
    opens = opens_now listener.encryption.end

    GoodOrKept : Verdict → Option (List ℕ) → Type 0
    GoodOrKept verdict pdu = (verdict ≡ Good) ⊎ ((facts_received link.setup.link.role slot room pdu listener).acknowledgement ≡ ack_of link)

    as_read : (read : Option (List ℕ)) → GoodOrKept (if is_none read then Forged else Good) read
    as_read None = inr refl
    as_read (Some pdu) = inl refl

    at : (fits : Bool) (pdu : List ℕ) → GoodOrKept (if fits then (if is_forged_pdu listener pdu then Forged else Good) else BrokenPacket) (pdu_read_in listener (pdu_by fits pdu))
    at true pdu = as_read (pdu_read listener pdu)
    at false pdu = inr refl

    of : (heard : Heard) → GoodOrKept (verdict_by link.setup.link.max_rx opens (is_forged_pdu listener) heard)
        (pdu_read_in listener (whole_in link.setup.link.max_rx opens heard))
    of NotOurs = inr refl
    of Broken = inr refl
    of (Whole pdu) = at (has_room_for link.setup.link.max_rx opens pdu.items) pdu.items

    got : GoodOrKept (verdict_by link.setup.link.max_rx opens (is_forged_pdu listener) (heard_of link.setup listener octets))
        (pdu_read_in listener (whole_in link.setup.link.max_rx opens (heard_of link.setup listener octets)))
        → (verdict_of link.setup listener octets ≡ Good) ⊎ (ack_of (link_after (PacketReceived slot octets room) link) ≡ ack_of link)
    got (inl good) = inl good
    got (inr kept) =
        inr (ap (λ (f : EndFacts). f.acknowledgement)
        (step_facts link (PacketReceived slot octets room))
        ∙ forged_leaves (is_forged link.setup listener octets) (facts_received link.setup.link.role slot room (good_pdu link.setup listener octets) listener)
        ∙ kept)

one_some : (may : Option OpenLink) (one other : OpenLink) → may ≡ Some one → may ≡ Some other → one ≡ other
one_some may one other is is_too = let same : Some one ≡ Some other = sym is ∙ is_too in cc

-- the words that it was given change nothing of that
pub verdict_worded : (setup : EndSetup) (facts : EndFacts) (skd_s iv_s : ℕ) (octets : List ℕ)
    → verdict_of setup (end_after setup facts (WordsGiven skd_s iv_s)) octets ≡ verdict_of setup facts octets
unfolding verdict_of
verdict_worded setup facts skd_s iv_s octets = refl

worded_hears : (words : Option (ℕ × ℕ)) (link : OpenLink) (octets : List ℕ) (X : EndSetup → EndFacts → Type 0)
    → ((setup : EndSetup) (facts : EndFacts) (skd_s iv_s : ℕ) → X setup facts → X setup (end_after setup facts (WordsGiven skd_s iv_s)))
    → (verdict_of link.setup (facts_in link) octets ≡ Good → X link.setup (facts_in link))
    → verdict_of (link_worded words link).setup (facts_in (link_worded words link)) octets ≡ Good
    → X (link_worded words link).setup (facts_in (link_worded words link))
worded_hears None link octets X keeps hears = hears
worded_hears (Some (skd_s, iv_s)) link octets X keeps hears = λ good.
    let is = step_facts link (WordsGiven skd_s iv_s) in
    subst (X link.setup) (sym is)
    (keeps link.setup (facts_in link) skd_s iv_s
    (hears (sym (verdict_worded link.setup (facts_in link) skd_s iv_s octets) ∙ ap (λ (f : EndFacts). verdict_of link.setup f octets) (sym is) ∙ good)))

module _ (R : Acknowledgement → Acknowledgement → Type 0) (Reads : EndSetup → EndFacts → EndFacts → List ℕ → Type 0) (agreement : IsAgreement R Reads) where
  agree_on_back : (end far : EndSetup) → HaveOneConnectInd end far → (one other : OpenLink) → AgreeOn R end one other → AgreeOn R far other one
  agree_on_back end far same one other agree = λ own both.
      let first = through one.setup other.setup far (back other.setup one.setup both) own in
      agreement.back (ack_of one) (ack_of other) (agree (through one.setup far end first (back end far same)) (back other.setup one.setup both))

  on_kept : (end : EndSetup) → IsKeptByFirst (AgreeOn R end)
  on_kept end = record {
    given = λ start body one other agree own. (agree_kept R Reads agreement).given start body one other (agree own);
    reported = λ one other agree own. (agree_kept R Reads agreement).reported one other (agree own);
    fixed = λ one other agree own. (agree_kept R Reads agreement).fixed one other (agree own);
    served = λ slot one other agree own. (agree_kept R Reads agreement).served slot one other (agree own);
    sent = λ slot one other agree own. (agree_kept R Reads agreement).sent slot one other (agree own);
    entered = λ slot one other agree own.
        (agree_kept R Reads agreement).entered slot one other (agree (subst (λ s. HaveOneConnectInd s end) (entered_setup slot one) own));
    worded = λ skd_s iv_s one other agree own. (agree_kept R Reads agreement).worded skd_s iv_s one other (agree own);
    asked = λ step one other well agree own. (agree_kept R Reads agreement).asked step one other well (agree own);
  }

  -- ---- a station that takes a packet

  module _ (given : Given) (distinct : AreDistinct given.stations) (end far : OpenEnd)
      (same : HaveOneConnectInd end.link.setup far.link.setup) (in_too : is_in far.station given.stations ≡ true)
      (before rest : List Event) (at : history_of (run_of given) ≡ before ++ rest) where
    abbrev others : Links
    others = (facts_at given far.station before).links

    -- it takes it from the far end
    taken_from : (slot : ℕ) (room : Bool) (octets : List ℕ) (one : OpenLink) → HaveOneConnectInd one.setup end.link.setup
        → TakesFrom Reads given before far octets one.setup (facts_in one) → EachOpen (AgreeOn R end.link.setup one) others
        → EachOpen (AgreeOn R end.link.setup (link_after (PacketReceived slot octets room) one)) others
    taken_from slot room octets one is_end takes all =
        let sent = takes.sent in
        let from = link_after (PacketSent sent.slot) sent.link in
        let after = link_after (PacketReceived slot octets room) one in
        let agree = open_has (AgreeOn R end.link.setup one) 0 sent.handle others from all sent.is_open in
        let from_ranges = ranges_before (PacketSent sent.slot) sent.link (ranges_in given before rest far.station sent.handle from distinct in_too at sent.is_open) in
        let taken : AgreeIn R after from =
        agree_received R Reads agreement slot sent.slot room one sent.link octets (sent_readable sent.link from_ranges) sent.packet (sym sent.channel_is) takes.reads (agree is_end) in
        each_under (AgreeOn R end.link.setup after) 0 others (λ handle other is_open own both.
        let opened = sym both.opened ∙ is_end.opened ∙ same.opened ∙ sym sent.is_end.opened in
        let under = opened_once given before rest far.station handle sent.handle other from distinct in_too at is_open sent.is_open opened in
        let equal = one_some (link_at sent.handle others) from other sent.is_open (subst (λ n. link_at n others ≡ Some other) under is_open) in
        subst (λ l. R (ack_of after) (ack_of l)) equal (taken (subst (λ (l : OpenLink). HaveOneConnectInd one.setup l.setup) (sym equal) both)))

    -- what is not good changes nothing, and what is of another link says nothing of this one
    received_from : (slot : ℕ) (room : Bool) (octets : List ℕ) (one : OpenLink)
        → (verdict_of one.setup (facts_in one) octets ≡ Good → HaveOneConnectInd one.setup end.link.setup → TakesFrom Reads given before far octets one.setup (facts_in one))
        → EachOpen (AgreeOn R end.link.setup one) others → EachOpen (AgreeOn R end.link.setup (link_after (PacketReceived slot octets room) one)) others
    received_from slot room octets one hears all = by (good_or_kept slot room octets one)
      where
        by : (verdict_of one.setup (facts_in one) octets ≡ Good) ⊎ (ack_of (link_after (PacketReceived slot octets room) one) ≡ ack_of one)
            → EachOpen (AgreeOn R end.link.setup (link_after (PacketReceived slot octets room) one)) others
        by (inr kept) =
            open_more (AgreeOn R end.link.setup one) (AgreeOn R end.link.setup (link_after (PacketReceived slot octets room) one)) others
            (λ other agree own. agree_by R Reads agreement one (link_after (PacketReceived slot octets room) one) other refl kept (agree own)) all
        by (inl good) =
            each_under (AgreeOn R end.link.setup (link_after (PacketReceived slot octets room) one)) 0 others (λ handle other is_open own.
            open_has (AgreeOn R end.link.setup (link_after (PacketReceived slot octets room) one)) 0 handle others other
            (taken_from slot room octets one own (hears good own) all) is_open own)

  -- ---- what is kept

  record AreAgreeing (given : Given) (one other : OpenEnd) (facts : ℕ → Facts) : Type 0 where
    is_one : IsStation (setup_at given one.station) (facts one.station)
    is_other : IsStation (setup_at given other.station) (facts other.station)
    agree : AllPairs (AgreeOn R one.link.setup) (facts one.station).links (facts other.station).links

  turn_around : (given : Given) (one other : OpenEnd) (facts : ℕ → Facts) → HaveOneConnectInd one.link.setup other.link.setup → AreAgreeing given one other facts
      → AreAgreeing given other one facts
  turn_around given one other facts same are = record {
    is_one = are.is_other;
    is_other = are.is_one;
    agree = pairs_back (AgreeOn R one.link.setup) (AgreeOn R other.link.setup) (agree_on_back one.link.setup other.link.setup same)
        (facts one.station).links (facts other.station).links are.agree;
  }

  -- what an end takes in a call comes from the far end
  abbrev HearsNow : Given → List Event → OpenEnd → OpenEnd → Step → Type 0
  HearsNow given before end far step =
      (octets : List ℕ) (link : OpenLink) → step ≡ PacketHeard octets → ReceivesGood (facts_at given end.station before) octets link
      → HaveOneConnectInd link.setup end.link.setup → TakesFrom Reads given before far octets link.setup (facts_in link)

  -- a call on the station of the one end
  module _ (given : Given) (six : HaveAddresses given) (distinct : AreDistinct given.stations) (one other : OpenEnd)
      (same : HaveOneConnectInd one.link.setup other.link.setup) (in_it : is_in one.station given.stations ≡ true) (in_too : is_in other.station given.stations ≡ true)
      (differs : (one.station == other.station) ≡ false) (before rest : List Event) where
    abbrev setup : Setup
    setup = setup_at given one.station

    abbrev facts : Facts
    facts = facts_at given one.station before

    abbrev far_facts : Facts
    far_facts = facts_at given other.station before

    abbrev Pairs : OpenLink → OpenLink → Type 0
    Pairs = AgreeOn R one.link.setup

    abbrev WithFar : OpenLink → Type 0
    WithFar link = EachOpen (Pairs link) far_facts.links

    -- what the station holds after it
    record IsNext (step : Step) : Type 0 where
      is_one : IsStation setup (facts_after setup facts step)
      agree : AllPairs Pairs (facts_after setup facts step).links far_facts.links

    module _ (are : AreAgreeing given one other (all_facts given before)) where
      phase_next : (received : Option (List ℕ)) → history_of (run_of given) ≡ before ++ Called one.station (step_of received) ∷ rest
          → IsPhase given before one.station received → HearsNow given before one other (step_of received) → IsNext (step_of received)
      phase_next received at phase hears =
          let slots = one_slot facts.turn.slot far_facts.turn.slot phase.turns phase.in_turn.slot_is (phase.slots other.station in_too) in record {
            is_one = station_passes setup facts phase.phases phase.turns received phase.in_turn are.is_one;
            agree = passing_keeps Pairs (on_kept one.link.setup) far_facts.links facts _ received
                (λ end now. open_more (AgreeIn R (new_link end)) (Pairs (new_link end)) far_facts.links (λ link agree own. agree)
                (new_agree R Reads agreement far_facts.turn.slot far_facts.links are.is_other.fresh end (now ∙ slots)))
                (λ handle octets room words link was listens wanted is_open all.
                received_from given distinct one other same in_too before (Called one.station (step_of received) ∷ rest) at facts.turn.slot room octets
                (link_worded words link)
                (worded_hears words link octets (λ end listener. HaveOneConnectInd end one.link.setup → TakesFrom Reads given before other octets end listener)
                (λ end listener skd_s iv_s takes own. let now = takes own in record {
                  sent = now.sent;
                  reads = agreement.worded end listener (facts_in now.sent.link) octets skd_s iv_s now.reads;
                })
                (λ good. hears octets link (ap step_of was) (record { handle = handle; listens = listens; is_open = is_open; is_good = good }))) all)
                (phase_passes_on setup facts received phase.in_turn.listens) are.agree;
          }

      next : (step : Step) → history_of (run_of given) ≡ before ++ Called one.station step ∷ rest → IsCallOf given before one.station step
          → HearsNow given before one other step → IsNext step
      next (HostOctet octet) at call hears = record {
        is_one = station_fed setup facts octet are.is_one;
        agree = octet_open WithFar (all_hosts Pairs (on_kept one.link.setup) far_facts.links) (all_asked Pairs (on_kept one.link.setup) far_facts.links) setup facts octet are.agree;
      }
      next (TurnBegins slot on) at call hears = record {
        is_one = station_begins setup facts slot on call.in_turn.begun_is are.is_one;
        agree = begin_open WithFar WithFar (all_served Pairs (on_kept one.link.setup) far_facts.links) setup slot on facts
            (all_entered Pairs (on_kept one.link.setup) far_facts.links slot) are.agree;
      }
      next (PacketHeard octets) at call hears = phase_next (Some octets) at call hears
      next NothingHeard at call hears = phase_next None at call hears
      next TurnEnds at call hears = record {
        is_one = station_ends setup facts are.is_one;
        agree = end_open WithFar (all_hosts Pairs (on_kept one.link.setup) far_facts.links) setup facts are.agree;
      }

      own_call : (step : Step) → history_of (run_of given) ≡ before ++ Called one.station step ∷ rest → HearsNow given before one other step
          → AreAgreeing given one other (all_facts given (before ++ Called one.station step ∷ []))
      own_call step at hears =
          let made = next step at (call_at given before rest one.station step six distinct at) hears in
          let own = sym (facts_called given one.station step before in_it).own in
          let others = sym (facts_others given one.station step before other.station (differs_back one.station other.station differs)) in
          let after = before ++ Called one.station step ∷ [] in record {
            is_one = subst (IsStation setup) own made.is_one;
            is_other = subst (IsStation (setup_at given other.station)) others are.is_other;
            agree = subst (λ (f : Facts). AllPairs Pairs f.links (facts_at given other.station after).links) own
                (subst (λ (f : Facts). AllPairs Pairs (facts_after setup facts step).links f.links) others made.agree);
          }

  -- a call on a third station
  other_call : (given : Given) (one other : OpenEnd) (before : List Event) (station : ℕ) (step : Step) → (one.station == station) ≡ false → (other.station == station) ≡ false
      → AreAgreeing given one other (all_facts given before) → AreAgreeing given one other (all_facts given (before ++ Called station step ∷ []))
  other_call given one other before station step differs differs_too are =
      let first = sym (facts_others given station step before one.station differs) in
      let second = sym (facts_others given station step before other.station differs_too) in
      let after = before ++ Called station step ∷ [] in record {
        is_one = subst (IsStation (setup_at given one.station)) first are.is_one;
        is_other = subst (IsStation (setup_at given other.station)) second are.is_other;
        agree = subst (λ (f : Facts). AllPairs (AgreeOn R one.link.setup) f.links (facts_at given other.station after).links) first
            (subst (λ (f : Facts). AllPairs (AgreeOn R one.link.setup) (facts_at given one.station before).links f.links) second are.agree);
      }

  -- ---- along a run

  first_agreeing : (given : Given) (one other : OpenEnd) → AreAgreeing given one other (all_facts given [])
  unfolding facts_of
  first_agreeing given one other = record {
    is_one = first_station (setup_at given one.station);
    is_other = first_station (setup_at given other.station);
    agree = none_open (λ link. EachOpen (AgreeOn R one.link.setup link) (replicate (setup_at given other.station).links None)) (setup_at given one.station).links;
  }

  module _ (given : Given) (six : HaveAddresses given) (distinct : AreDistinct given.stations) (one other : OpenEnd)
      (same : HaveOneConnectInd one.link.setup other.link.setup) (in_it : is_in one.station given.stations ≡ true) (in_too : is_in other.station given.stations ≡ true)
      (differs : (one.station == other.station) ≡ false) (history rest : List Event) (at : history_of (run_of given) ≡ history ++ rest)
      (one_hears : EndTakes Reads given history one other) (other_hears : EndTakes Reads given history other one) where
    place : (before after : List Event) (station : ℕ) (step : Step) → history ≡ before ++ Called station step ∷ after
        → history_of (run_of given) ≡ before ++ Called station step ∷ (after ++ rest)
    place before after station step is = at ∙ ap (λ events. events ++ rest) is ∙ append_assoc before (Called station step ∷ after) rest

    hears_now : (end far : OpenEnd) → EndTakes Reads given history end far → (before after : List Event) (step : Step) → history ≡ before ++ Called end.station step ∷ after
        → HearsNow given before end far step
    hears_now end far hears before after step is = λ octets link heard takes own.
        hears before after octets link (is ∙ ap (λ s. before ++ Called end.station s ∷ after) heard) takes own

    abbrev After : List Event → Step → ℕ → Type 0
    After before step station = AreAgreeing given one other (all_facts given (before ++ Called station step ∷ []))

    each_call : (before after : List Event) (station : ℕ) (step : Step) → history ≡ before ++ Called station step ∷ after → AreAgreeing given one other (all_facts given before)
        → After before step station
    each_call before after station step is are = by (station == one.station) (station == other.station) refl refl
      where
        of_one : history ≡ before ++ Called one.station step ∷ after → After before step one.station
        of_one is_one =
            own_call given six distinct one other same in_it in_too differs before (after ++ rest) are step (place before after one.station step is_one)
            (hears_now one other one_hears before after step is_one)

        of_other : history ≡ before ++ Called other.station step ∷ after → After before step other.station
        of_other is_other =
            turn_around given other one _ (back one.link.setup other.link.setup same)
            (own_call given six distinct other one (back one.link.setup other.link.setup same) in_too in_it (differs_back one.station other.station differs) before (after ++ rest)
            (turn_around given one other _ same are) step (place before after other.station step is_other) (hears_now other one other_hears before after step is_other))

        by : (first second : Bool) → (station == one.station) ≡ first → (station == other.station) ≡ second → After before step station
        by true second own is_too =
            let equal = eqb-true station one.station own in
            subst (After before step) (sym equal) (of_one (subst (λ n. history ≡ before ++ Called n step ∷ after) equal is))
        by false true apart own =
            let equal = eqb-true station other.station own in
            subst (After before step) (sym equal) (of_other (subst (λ n. history ≡ before ++ Called n step ∷ after) equal is))
        by false false apart apart_too =
            other_call given one other before station step (differs_back station one.station apart) (differs_back station other.station apart_too) are

    agreeing : AreAgreeing given one other (all_facts given history)
    agreeing = kept_along given (AreAgreeing given one other) history each_call (first_agreeing given one other)

-- at any time of a run
abbrev IsAnyTime : (Acknowledgement → Acknowledgement → Type 0) → (Given → List Event → OpenEnd → OpenEnd → Type 0) → Type 0
IsAnyTime R Reads =
    (given : Given) → (before rest : List Event) (central peripheral : OpenEnd) → AreDistinct given.stations → HaveAddresses given
    → is_in central.station given.stations ≡ true → is_in peripheral.station given.stations ≡ true → history_of (run_of given) ≡ before ++ rest
    → AreEnds before central peripheral → HearEachOther given before central peripheral → Reads given before central peripheral
    → IsOpen given before central → IsOpen given before peripheral
    → R (ack_of central.link) (ack_of peripheral.link)

module _ (R : Acknowledgement → Acknowledgement → Type 0) (Reads : EndSetup → EndFacts → EndFacts → List ℕ → Type 0) (agreement : IsAgreement R Reads)
    (ReadEach : Given → List Event → OpenEnd → OpenEnd → Type 0)
    (takes : (given : Given) (history : List Event) (end far : OpenEnd) → HearsItsLink given history end far → ReadEach given history end far
    → EndTakes Reads given history end far) where
  at_any_time : IsAnyTime R (λ given history one other. ReadEach given history one other × ReadEach given history other one)
  at_any_time given before rest central peripheral distinct six is is_too at ends hear reads is_open is_open_too =
      let same = one_connect_ind before central peripheral ends in
      let are = agreeing R Reads agreement given six distinct central peripheral same is is_too (apart_ends before central peripheral ends) before rest at
      (takes given before central peripheral hear.one_hears reads.0) (takes given before peripheral central hear.other_hears reads.1) in
      let others = (facts_at given peripheral.station before).links in
      let end = central.link.setup in
      let each = open_has (λ link. EachOpen (AgreeOn R end link) others) 0 central.handle (facts_at given central.station before).links central.link are.agree is_open in
      open_has (AgreeOn R end central.link) 0 peripheral.handle others peripheral.link each is_open_too (record { fields = refl; opened = refl }) same

  -- two open ends of one link at two stations
  ends_at_any_time : IsUnderstood → AreTaken → AreApart → (given : Given) → HaveAddresses given → AreDistinct given.stations → AreTwo given
      → (before rest : List Event) → history_of (run_of given) ≡ before ++ rest → (end far : OpenEnd) → is_in end.station given.stations ≡ true
      → is_in far.station given.stations ≡ true → (end.station == far.station) ≡ false → HaveOneConnectInd end.link.setup far.link.setup
      → IsOpen given before end → IsOpen given before far → ReadEach given before end far → ReadEach given before far end
      → R (ack_of end.link) (ack_of far.link)
  ends_at_any_time understood taken apart given six distinct two before rest at end far in_it in_too differs same is_open is_open_too reads reads_too =
      let others = (facts_at given far.station before).links in
      let hear = hear_each_other understood taken apart given six distinct two before rest at end far in_it in_too differs same in
      let are = agreeing R Reads agreement given six distinct end far same in_it in_too differs before rest at
      (takes given before end far hear.one_hears reads) (takes given before far end hear.other_hears reads_too) in
      let each = open_has (λ l. EachOpen (AgreeOn R end.link.setup l) others) 0 end.handle (facts_at given end.station before).links end.link are.agree is_open in
      open_has (AgreeOn R end.link.setup end.link) 0 far.handle others far.link each is_open_too (record { fields = refl; opened = refl }) same

takes_as_sent : (given : Given) (history : List Event) (end far : OpenEnd) → HearsItsLink given history end far → ReadsAsSent given history end far
    → EndTakes IsReadAsSent given history end far
takes_as_sent given history end far hears reads = λ before after octets link is received same. record {
  sent = hears before after octets link is received same;
  reads = reads before after octets link is received same (hears before after octets link is received same);
}

takes_anyhow : (given : Given) (history : List Event) (end far : OpenEnd) → HearsItsLink given history end far → Unit {0}
    → EndTakes (λ to listener sender octets. Unit {0}) given history end far
takes_anyhow given history end far hears reads = λ before after octets link is received same. record {
  sent = hears before after octets link is received same;
  reads = tt;
}

-- where each packet is read as it was sent
pub stays_in_agreement : IsHeardWhole → IsAnyTime AreInAgreement ReadEachOtherAsSent
stays_in_agreement whole = λ given before rest central peripheral distinct six is is_too at ends hear reads is_open is_open_too.
    at_any_time AreInAgreement IsReadAsSent (in_agreement whole) ReadsAsSent takes_as_sent given before rest central peripheral distinct six is is_too at ends hear
    (reads.one_reads, reads.other_reads) is_open is_open_too

-- however it is read
pub stays_in_shape : IsHeardWhole → IsAnyTime AgreeInShape (λ given history one other. Unit {0})
stays_in_shape whole = λ given before rest central peripheral distinct six is is_too at ends hear reads is_open is_open_too.
    at_any_time AgreeInShape (λ to listener sender octets. Unit {0}) (in_shape whole) (λ given history end far. Unit {0}) takes_anyhow
    given before rest central peripheral distinct six is is_too at ends hear (tt, tt) is_open is_open_too

pub all_in_shape : IsHeardWhole → IsUnderstood → AreTaken → AreApart → (given : Given) → HaveAddresses given → AreDistinct given.stations → AreTwo given
    → (before rest : List Event) → history_of (run_of given) ≡ before ++ rest → (one other : ℕ) → is_in one given.stations ≡ true → is_in other given.stations ≡ true
    → (one == other) ≡ false → AllAgreeIn AgreeInShape (facts_at given one before).links (facts_at given other before).links
all_in_shape whole understood taken apart given six distinct two before rest at one other in_it in_too differs =
    let links = (facts_at given one before).links in
    let others = (facts_at given other before).links in
    each_under (WithAllIn AgreeInShape others) 0 links (λ handle link is_open.
    each_under (AgreeIn AgreeInShape link) 0 others (λ far_handle far is_too same.
    ends_at_any_time AgreeInShape (λ to listener sender octets. Unit {0}) (in_shape whole) (λ given history end far. Unit {0}) takes_anyhow
    understood taken apart given six distinct two before rest at (record { station = one; handle = handle; link = link })
    (record { station = other; handle = far_handle; link = far }) in_it in_too differs same is_open is_too tt tt))
