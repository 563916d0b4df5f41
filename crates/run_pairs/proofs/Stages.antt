-- How two open ends of a link go through a turn, call by call.
use Rattle.std.proofs.Common.{◌≡◌, ◌⊎◌, inl, inr, ◌-◌, Some, None, is_some, arith, ℕ, ◌+◌, ◌≤◌, Bool, true, false, List, Option, is_none, refl, ap, sym, subst, ◌∙◌, if◌then◌else◌}
use Rattle.ble_base.specs.declared.error_codes.ErrCode.{ErrCode}
use Rattle.ble_base.specs.ErrorCodes.{mic_failure}
use Rattle.ble_base.specs.declared.verdicts.Verdict.TheVariants.{Forged, Good}
use Rattle.data_pdu.specs.Layouts.{IsCtrl}
use Rattle.data_pdu.specs.declared.ctrl.Ctrl.TheVariants.{EncRsp}
use Rattle.link_runs.specs.control_model.Control.{Control, ended}
use Rattle.link_runs.specs.joint_controls.Joint.{has_passed, last_change}
use Rattle.link_calls.specs.link_model.declared.events.Reception.{Reception}
use Rattle.link_calls.specs.link_model.Acknowledgement.{Acknowledgement}
use Rattle.link_calls.specs.link_model.End.{facts_after}
use Rattle.link_calls.specs.link_model.Facts.{Facts, first_facts}
use Rattle.link_calls.specs.link_model.OneLink.{AreInAgreement}
use Rattle.link_calls.specs.link_model.Receiving.{ended_by_forgery, replies_of}
use Rattle.link_calls.specs.link_model.Hosts.{facts_with_words}
use Rattle.link_calls.specs.link_model.Setup.{Setup}
use Rattle.link_calls.specs.link_model.Step.{Step, WordsGiven}
use Rattle.link_calls.specs.link_model.Packets.{is_forged, verdict_of}
use Rattle.link_calls.specs.link_model.Times.{due_of, ending_of}
use Rattle.link_calls.proofs.link_model.Hearing.{IsHeardWhole}
use Rattle.link_runs.specs.link_pairs.Ends.{AreEnds, IsAtRest, is_lasting, turns_at}
use Rattle.link_runs.specs.link_pairs.Hearing.{IsPacketOf, answered, is_mixed, is_mixed_packet, received}
use Rattle.link_runs.specs.link_pairs.Hosts.{MayHost}
use Rattle.link_runs.specs.link_pairs.Parting.{ArePartingFrom, HasSeenTerminate, HearsTheEnd}
use Rattle.link_runs.specs.link_pairs.Shown.{AreLinked, HaveKeys, Shows, keys_of, link_of}
use Rattle.link_runs.specs.link_pairs.Sound.{EndsForInstant, EndsForged}
use Rattle.link_runs.specs.link_pairs.Turns.{AreReady, HasFixed, MayExchange, central_begun, prepared, sent_if}
use Rattle.link_runs.proofs.link_pairs.CentralHears.{hears}
use Rattle.link_runs.proofs.link_pairs.Counts.{turned}
use Rattle.link_runs.proofs.link_pairs.Ending.{answered_ends, central_lasts as central_goes, peripheral_lasts as peripheral_goes}
use Rattle.link_runs.proofs.link_pairs.EndingNothing.{begun_ends_nothing, host_ends_nothing, prepared_ends_nothing}
use Rattle.link_runs.proofs.link_pairs.First.{first_linked}
use Rattle.link_runs.proofs.link_pairs.HeardCounts.{hearing_agreed}
use Rattle.link_runs.proofs.link_pairs.Hosting.{central_hosts, peripheral_hosts}
use Rattle.link_runs.proofs.link_pairs.NothingNew.{host_still, prepared_still, sender_still, taker_still}
use Rattle.link_runs.proofs.link_pairs.OtherKeys.{mixed_at_central, mixed_at_peripheral}
use Rattle.link_runs.proofs.link_pairs.PartingBegins.{central_took, peripheral_took}
use Rattle.link_runs.proofs.link_pairs.PartingEndings.{taker_ends}
use Rattle.link_runs.proofs.link_pairs.PeripheralHeard.{hears_linked}
use Rattle.link_runs.proofs.link_pairs.Replying.{forged_unanswered, received_forged}
use Rattle.link_runs.proofs.link_pairs.SenderHears.{has_seen, hears_the_end, judged_so, unmixed_parting}
use Rattle.link_runs.proofs.link_pairs.Shutting.{forged_code}
use Rattle.link_runs.proofs.link_pairs.Sounding.{are_sound}
use Rattle.link_runs.proofs.link_pairs.TakerSends.{begun_parting}
use Rattle.link_runs.proofs.link_pairs.Turning.{begun_hears, prepared_hears, turn_begun}
use Rattle.link_runs.proofs.link_pairs.Understanding.{IsOpenedThere, judged_at_central, judged_at_peripheral, whole_at_peripheral}
use Rattle.link_runs.specs.Open.{AreOpenEnds, GoesOnUnlessLate, HasHeardForged}
use Rattle.link_runs.proofs.EventsKept.{answered_in_event, ended_no_reply}
use Rattle.link_runs.proofs.GoingOn.{lasting_by, lasting_goes, open_goes_on, shut_by, still_lasts}
use Rattle.link_runs.proofs.OneTurn.{unanswered}
use Rattle.link_runs.proofs.Supervision.{heard_in_time}
use Rattle.run_pairs.proofs.QuietSteps.{IsQuiet}
use Rattle.run_pairs.specs.Stages.{AreAnsweredEnds, AreBegunEnds, AreHeardEnds, CentralTook, IsAnsweredLink, IsBegunLink, IsForged, IsLate, IsOver, Lasts, PeripheralTook}

-- where the link lasts at both ends, their counts agree
pub linked_agree : (central peripheral : Setup) → AreEnds central peripheral → (turns : ℕ) (answers : Bool) (c p : Facts)
    → AreLinked central peripheral turns answers c p → is_lasting c ≡ true → is_lasting p ≡ true → AreInAgreement c.acknowledgement p.acknowledgement
linked_agree central peripheral ends turns answers c p linked c_lasts p_lasts = (are_sound central peripheral ends turns answers c p linked c_lasts p_lasts).agreement

-- ---- a host does something between two turns

pub central_hosted_open : (central peripheral : Setup) → AreEnds central peripheral → (turns : ℕ) (c p : Facts) (step : Step) → MayHost step c → AreOpenEnds central peripheral turns c p
    → AreOpenEnds central peripheral turns (facts_after central c step) p
central_hosted_open central peripheral ends turns c p step may (inl link) = inl (record {
  central_lasts = still_lasts c _ (host_ends_nothing central c step may) link.central_lasts;
  peripheral_lasts = link.peripheral_lasts;
  linked = central_hosts central peripheral ends turns false c p link.linked step may;
})
central_hosted_open central peripheral ends turns c p step may (inr parting) = inr (taker_still central peripheral c p parting _ (host_still central c step may))

pub peripheral_hosted_open : (central peripheral : Setup) → AreEnds central peripheral → (turns : ℕ) (c p : Facts) (step : Step) → MayHost step p → AreOpenEnds central peripheral turns c p
    → AreOpenEnds central peripheral turns c (facts_after peripheral p step)
peripheral_hosted_open central peripheral ends turns c p step may (inl link) = inl (record {
  central_lasts = link.central_lasts;
  peripheral_lasts = still_lasts p _ (host_ends_nothing peripheral p step may) link.peripheral_lasts;
  linked = peripheral_hosts central peripheral ends turns false c p link.linked step may;
})
peripheral_hosted_open central peripheral ends turns c p step may (inr parting) = inr (sender_still central peripheral c p parting _ (host_still peripheral p step may))

-- ---- a peripheral is given words, as a turn has begun

module _ (central peripheral : Setup) (turns : ℕ) (answers : Bool) (c p : Facts) (linked : AreLinked central peripheral turns answers c p) (skd_s iv_s : ℕ)
    (fits : IsCtrl (EncRsp skd_s iv_s)) where
  rests_worded : IsAtRest peripheral turns p → IsAtRest peripheral turns (facts_with_words skd_s iv_s p)
  rests_worded r = record {
    fits = r.fits;
    holds = record { request = r.holds.request; kept = r.holds.kept; response = fits };
    role = r.role;
    none_gone = r.none_gone;
    fits_any = r.fits_any;
    two_bits = r.two_bits;
    slot = r.slot;
    number = r.number;
    heard = r.heard;
    past = r.past;
    stays = r.stays;
  }

  shows_worded : Shows central peripheral turns answers (link_of central peripheral linked.steps) c p
      → Shows central peripheral turns answers (link_of central peripheral linked.steps) c (facts_with_words skd_s iv_s p)
  shows_worded s = record {
    central_part = s.central_part;
    peripheral_part = s.peripheral_part;
    down = s.down;
    up = s.up;
    agreement = s.agreement;
    begun = s.begun;
    replies = s.replies;
    last = s.last;
    central_heard = s.central_heard;
    peripheral_heard = s.peripheral_heard;
    free = s.free;
    central_rests = s.central_rests;
    peripheral_rests = rests_worded s.peripheral_rests;
    central_fits = s.central_fits;
    peripheral_fits = s.peripheral_fits;
  }

  keys_worded : HaveKeys (keys_of central peripheral linked.steps) c p → HaveKeys (keys_of central peripheral linked.steps) c (facts_with_words skd_s iv_s p)
  keys_worded has = record {
    central_keys = has.central_keys;
    peripheral_keys =
        record { material = has.peripheral_keys.material; session = has.peripheral_keys.session; made = has.peripheral_keys.made };
  }

ready_worded : (central peripheral : Setup) (slot : ℕ) (listens : Bool) (c p : Facts) (skd_s iv_s : ℕ) → AreReady central peripheral slot listens c p
    → AreReady central peripheral slot listens c (facts_with_words skd_s iv_s p)
ready_worded central peripheral slot listens c p skd_s iv_s is = record {
  central_heard = is.central_heard;
  peripheral_heard = is.peripheral_heard;
  fixed = λ on. fixed_worded (is.fixed on);
}
  where
    fixed_worded : HasFixed p → HasFixed (facts_with_words skd_s iv_s p)
    fixed_worded fixed = record { control = fixed.control; data_first = fixed.data_first; short = fixed.short; two_bits = fixed.two_bits }

-- ---- the end that sent LL_TERMINATE_IND hears the other: it sees that acknowledged

module _ (whole : IsHeardWhole) (taker sender : Setup) (fields : taker.link.fields ≡ sender.link.fields) (most : sender.link.max_rx ≤ 251) (t s : Facts)
    (parting : ArePartingFrom taker sender t s) (slot channel : ℕ) (octets : List ℕ) (packet : IsPacketOf taker slot t channel octets)
    (same : channel ≡ s.event.channel) (room : Bool) (opened : IsOpenedThere) (unmixed : is_mixed_packet sender s t octets ≡ false)
    (genuine : is_forged sender s octets ≡ false) where
  pure : is_mixed sender s octets t.acknowledgement.last ≡ false
  pure = unmixed_parting whole taker sender fields most t s parting slot channel octets packet same room opened unmixed

  pub hears_its_end : HearsTheEnd sender s slot octets room
  hears_its_end = hears_the_end whole taker sender fields most t s parting slot channel octets packet same room pure genuine

  pub has_seen_it : HasSeenTerminate t.acknowledgement (received sender slot octets room s)
  has_seen_it = has_seen whole taker sender fields most t s parting slot channel octets packet same room pure genuine

-- ---- a forged packet

abbrev forged_now : Facts → Facts
forged_now facts = record facts { control = ended_by_forgery facts.control }

record IsEndedAlike (before now : Control) : Type 0 where
  sent : now.sent ≡ before.sent

ended_alike : (c : Control) → IsEndedAlike c (ended_by_forgery c)
ended_alike c = by (is_none c.ends)
  where
    by : (goes : Bool) → IsEndedAlike c (if goes then ended (record { 0 = mic_failure }) c else c)
    by true = record { sent = refl }
    by false = record { sent = refl }

-- an end that goes on, or has heard a forged packet before, has heard one then
has_heard_forged : (facts : Facts) → (facts.control.ends ≡ None) ⊎ HasHeardForged facts → HasHeardForged (forged_now facts)
has_heard_forged facts (inl goes) = forged_code facts.control goes
has_heard_forged facts (inr forged) =
    ap (λ (o : Option ErrCode). (if is_none o then ended (record { 0 = mic_failure }) facts.control else facts.control).ends) forged ∙ forged

-- a packet that is not forged does not end the link as one
pub genuine_ends : (X : Type 0) (setup : Setup) (facts : Facts) (octets : List ℕ) (ends : Option ErrCode) → is_forged setup facts octets ≡ false
    → X ⊎ EndsForged setup facts octets ends → X
genuine_ends X setup facts octets ends genuine (inl is) = is
genuine_ends X setup facts octets ends genuine (inr forged) = absurd (let no = sym forged.0 ∙ genuine in cc)

genuine_late : (X Y : Type 0) (setup : Setup) (facts : Facts) (octets : List ℕ) (ends : Option ErrCode) → is_forged setup facts octets ≡ false
    → X ⊎ (Y ⊎ EndsForged setup facts octets ends) → X ⊎ Y
genuine_late X Y setup facts octets ends genuine (inl is) = inl is
genuine_late X Y setup facts octets ends genuine (inr over) = inr (genuine_ends Y setup facts octets ends genuine over)

-- what is good or forged
abbrev pub IsJudged : Setup → Facts → List ℕ → Type 0
IsJudged setup facts octets = (verdict_of setup facts octets ≡ Good) ⊎ (verdict_of setup facts octets ≡ Forged)

judged_by : (setup : Setup) (facts : Facts) (octets : List ℕ) (forged : Bool) → verdict_of setup facts octets ≡ (if forged then Forged else Good)
    → IsJudged setup facts octets
judged_by setup facts octets true is = inr is
judged_by setup facts octets false is = inl is

-- neither end ended the link, and their counts agree
record BothGoOn (c p : Facts) : Type 0 where
  central : c.control.ends ≡ None
  peripheral : p.control.ends ≡ None
  agreement : AreInAgreement c.acknowledgement p.acknowledgement

module _ (whole : IsHeardWhole) (opened : IsOpenedThere) (central peripheral : Setup) (ends : AreEnds central peripheral) (slot : ℕ) where
  -- ---- both begin the turn

  abbrev MayIfLasting : Setup → Bool → Facts → Type 0
  MayIfLasting setup exchanges facts = is_lasting facts ≡ true → MayExchange setup slot exchanges facts

  pub both_begin : (transmits listens : Bool) (c p : Facts) → AreOpenEnds central peripheral slot c p → MayIfLasting central transmits c
      → MayIfLasting peripheral listens p → is_none (due_of peripheral p slot) ≡ true
      → AreBegunEnds central peripheral slot transmits listens (central_begun central slot transmits c) (prepared peripheral slot listens p)
  both_begin transmits listens c p (inl link) c_may p_may not_due =
      let shows = link.linked.shows (link.linked.lasts link.central_lasts link.peripheral_lasts) in
      inl (record {
        central_lasts = still_lasts c _ (begun_ends_nothing central slot transmits c) link.central_lasts;
        peripheral_lasts = still_lasts p _ (prepared_ends_nothing peripheral slot listens p) link.peripheral_lasts;
        begun = turn_begun central peripheral slot false transmits listens c p ends link.linked (c_may link.central_lasts) (p_may link.peripheral_lasts) _ refl;
        central_past =
            subst (λ (good : Option Reception). turns_at central.opened good ≤ slot) (sym (begun_hears central slot transmits c)) shows.central_rests.past;
        supervised =
            subst (λ (good : Option Reception). slot + 1 ≤ turns_at peripheral.opened good + 32768) (sym (prepared_hears peripheral slot listens p))
            (heard_in_time peripheral slot slot p shows.peripheral_rests not_due);
      })
  both_begin transmits listens c p (inr parting) c_may p_may not_due =
      let least = ends.peripheral_max.from in
      inr (sender_still central peripheral _ p (begun_parting central peripheral (omega (arith, least)) c p slot parting transmits) (prepared peripheral slot listens p)
      (prepared_still peripheral slot listens p))

  -- ---- the peripheral is given words

  pub begun_worded : (transmits listens : Bool) (c p : Facts) (skd_s iv_s : ℕ) → IsCtrl (EncRsp skd_s iv_s) → AreBegunEnds central peripheral slot transmits listens c p
      → AreBegunEnds central peripheral slot transmits listens c (facts_after peripheral p (WordsGiven skd_s iv_s))
  begun_worded transmits listens c p skd_s iv_s fits (inl link) =
      let begun = link.begun in
      let linked = begun.linked in
      inl (record {
        central_lasts = link.central_lasts;
        peripheral_lasts = link.peripheral_lasts;
        begun = record {
          linked = record {
            steps = linked.steps;
            may = linked.may;
            in_range = linked.in_range;
            shows = λ running. shows_worded central peripheral (slot + 1) false c p linked skd_s iv_s fits (linked.shows running);
            keys = λ running. keys_worded central peripheral (slot + 1) false c p linked skd_s iv_s fits (linked.keys running);
            lasts = linked.lasts;
          };
          ready = λ running. ready_worded central peripheral slot listens c p skd_s iv_s (begun.ready running);
          transmits_in = begun.transmits_in;
          listens_in = begun.listens_in;
        };
        central_past = link.central_past;
        supervised = link.supervised;
      })
  begun_worded transmits listens c p skd_s iv_s fits (inr parting) =
      inr (sender_still central peripheral c p parting _ (host_still peripheral p (WordsGiven skd_s iv_s) fits))

  -- ---- the peripheral hears nothing

  pub peripheral_unheard : (transmits listens : Bool) (c p : Facts) → AreBegunEnds central peripheral slot transmits listens c p
      → AreAnsweredEnds central peripheral slot false c p
  peripheral_unheard transmits listens c p (inl link) = Lasts (record {
    central_lasts = link.central_lasts;
    peripheral_lasts = link.peripheral_lasts;
    linked = link.begun.linked;
    central_past = link.central_past;
    entered = λ never. absurd (cc);
  })
  peripheral_unheard transmits listens c p (inr parting) = CentralTook parting refl

  -- ---- the peripheral hears the central

  module _ (c p : Facts) (channel : ℕ) (octets : List ℕ) (room : Bool) (packet : IsPacketOf central slot c channel octets) (same : channel ≡ p.event.channel) where
    abbrev replies : Bool
    replies = replies_of peripheral p slot octets room

    abbrev now : Facts
    now = answered peripheral slot octets room p

    -- unless it is mixed, the packet is read as it was sent
    pub peripheral_reads : is_mixed_packet peripheral p c octets ≡ false → AreBegunEnds central peripheral slot true true c p
        → is_mixed peripheral p octets c.acknowledgement.last ≡ false
    peripheral_reads unmixed (inl link) =
        mixed_at_peripheral whole opened central peripheral (slot + 1) slot false c p channel octets ends link.begun.linked link.central_lasts link.peripheral_lasts
        packet same unmixed
    peripheral_reads unmixed (inr parting) =
        unmixed_parting whole central peripheral ends.one_link.fields ends.peripheral_max.to c p parting slot channel octets packet same room opened unmixed

    module _ (unmixed : is_mixed_packet peripheral p c octets ≡ false) (genuine : is_forged peripheral p octets ≡ false)
        (link : IsBegunLink central peripheral slot true true c p) where
      pure_down : is_mixed peripheral p octets c.acknowledgement.last ≡ false
      pure_down = peripheral_reads unmixed (inl link)

      linked_now : AreLinked central peripheral (slot + 1) replies c now
      linked_now = hears_linked whole central peripheral slot c p channel octets room ends link.begun packet same link.supervised pure_down

      late_agrees : replies ≡ false → AreInAgreement c.acknowledgement now.acknowledgement
      late_agrees none =
          let s = link.begun.linked.shows (link.begun.linked.lasts link.central_lasts link.peripheral_lasts) in
          let read = whole_at_peripheral whole central peripheral (slot + 1) slot false c p channel octets ends link.begun.linked link.central_lasts
          link.peripheral_lasts packet same (record { genuine = genuine; pure = pure_down }) in
          let agreed = hearing_agreed peripheral.link.role slot room read.header p c.acknowledgement (turned c.acknowledgement p.acknowledgement s.agreement) read.bits read.out in
          let now_is = ap (λ (b : Bool). sent_if b peripheral slot (received peripheral slot octets room p)) none ∙ read.facts room in
          turned now.acknowledgement c.acknowledgement (subst (λ (f : Facts). AreInAgreement f.acknowledgement c.acknowledgement) (sym now_is) agreed)

      late_now : (code : ErrCode) → now.control.ends ≡ Some code → EndsForInstant c p now.control.ends → AreAnsweredEnds central peripheral slot replies c now
      late_now code ended late =
          let none = ended_no_reply peripheral slot octets room p code (sym (answered_ends peripheral slot octets room p) ∙ ended) in
          IsLate (record {
            central_lasts = link.central_lasts;
            late = (late.0, (λ i. has_passed (last_change c.control.sent) (answered_in_event peripheral slot octets room p i - 1)) ∙ late.1);
            agreement = late_agrees none;
          }) none

      by_terminate : (took : Bool) → is_some now.leaving.ended_by_peer ≡ took → now.control.ends ≡ None → AreAnsweredEnds central peripheral slot replies c now
      by_terminate true took goes =
          PeripheralTook (peripheral_took whole central peripheral ends slot c p channel octets room link.begun link.central_lasts link.peripheral_lasts packet same
          pure_down took)
      by_terminate false none goes = Lasts (record {
        central_lasts = link.central_lasts;
        peripheral_lasts = lasting_by now goes none;
        linked = linked_now;
        central_past = link.central_past;
        entered = λ answered_it. (link.begun.transmits_in refl).0;
      })

      by_late : (now.control.ends ≡ None) ⊎ EndsForInstant c p now.control.ends → AreAnsweredEnds central peripheral slot replies c now
      by_late (inl goes) = by_terminate (is_some now.leaving.ended_by_peer) refl goes
      by_late (inr late) = late_now _ late.0 late

      link_heard : AreAnsweredEnds central peripheral slot replies c now
      link_heard =
          by_late
          (genuine_late _ _ peripheral p octets now.control.ends genuine
          (peripheral_goes whole central peripheral slot c p channel octets room ends link.begun link.central_lasts link.peripheral_lasts packet same link.supervised
          pure_down))

    parting_heard : is_mixed_packet peripheral p c octets ≡ false → is_forged peripheral p octets ≡ false → ArePartingFrom central peripheral c p
        → AreAnsweredEnds central peripheral slot replies c now
    parting_heard unmixed genuine parting =
        let fields = ends.one_link.fields in
        let most = ends.peripheral_max.to in
        let over = hears_its_end whole central peripheral fields most c p parting slot channel octets packet same room opened unmixed genuine in
        let seen = has_seen_it whole central peripheral fields most c p parting slot channel octets packet same room opened unmixed genuine in
        IsOver (record {
          goes_on = parting.took.goes_on;
          seen = subst (λ (f : Facts). HasSeenTerminate c.acknowledgement f) (sym over.answers_none) seen;
        }) over.replies

    pub peripheral_heard : is_mixed_packet peripheral p c octets ≡ false → is_forged peripheral p octets ≡ false
        → AreBegunEnds central peripheral slot true true c p → AreAnsweredEnds central peripheral slot replies c now
    peripheral_heard unmixed genuine (inl link) = link_heard unmixed genuine link
    peripheral_heard unmixed genuine (inr parting) = parting_heard unmixed genuine parting

    -- it judges the packet good or forged
    pub peripheral_judges : AreBegunEnds central peripheral slot true true c p → IsJudged peripheral p octets
    peripheral_judges (inl link) =
        judged_by peripheral p octets (is_forged peripheral p octets)
        (judged_at_peripheral whole central peripheral (slot + 1) slot false c p channel octets ends link.begun.linked link.central_lasts link.peripheral_lasts
        packet same)
    peripheral_judges (inr parting) =
        judged_by peripheral p octets (is_forged peripheral p octets)
        (judged_so whole central peripheral ends.one_link.fields ends.peripheral_max.to c p parting slot channel octets packet same room)

  -- ---- the peripheral hears a forged packet

  -- it goes on, with counts that agree, until then
  begun_goes_on : (transmits listens : Bool) (c p : Facts) → AreBegunEnds central peripheral slot transmits listens c p → BothGoOn c p
  begun_goes_on transmits listens c p (inl link) = record {
    central = lasting_goes c link.central_lasts;
    peripheral = lasting_goes p link.peripheral_lasts;
    agreement = linked_agree central peripheral ends (slot + 1) false c p link.begun.linked link.central_lasts link.peripheral_lasts;
  }
  begun_goes_on transmits listens c p (inr parting) =
      record { central = parting.took.goes_on; peripheral = parting.sent.goes_on; agreement = parting.agreement }

  pub peripheral_forged : (transmits listens : Bool) (c p : Facts) (octets : List ℕ) (room : Bool) → is_forged peripheral p octets ≡ true
      → AreBegunEnds central peripheral slot transmits listens c p
      → AreAnsweredEnds central peripheral slot (replies_of peripheral p slot octets room) c (answered peripheral slot octets room p)
  peripheral_forged transmits listens c p octets room forged begun =
      let both = begun_goes_on transmits listens c p begun in
      let silent = forged_unanswered peripheral p slot octets room forged in
      let now_is : answered peripheral slot octets room p ≡ forged_now p =
      ap (λ (b : Bool). sent_if b peripheral slot (received peripheral slot octets room p)) silent ∙ received_forged peripheral p slot octets room forged in
      subst (λ (f : Facts). AreAnsweredEnds central peripheral slot (replies_of peripheral p slot octets room) c f) (sym now_is)
      (IsForged (record { goes_on = both.central; forged = has_heard_forged p (inl both.peripheral); agreement = both.agreement }) silent)

  -- ---- the central hears nothing

  pub central_unheard : (answers : Bool) (c p : Facts) → AreAnsweredEnds central peripheral slot answers c p → AreHeardEnds central peripheral slot c p
  central_unheard answers c p (Lasts link) = record {
    central_goes_on = inl (lasting_goes c link.central_lasts);
    peripheral_goes_on = inl (lasting_goes p link.peripheral_lasts);
    agreement = linked_agree central peripheral ends (slot + 1) answers c p link.linked link.central_lasts link.peripheral_lasts;
    opens = λ c_open p_open. inl (record {
      central_lasts = link.central_lasts;
      peripheral_lasts = link.peripheral_lasts;
      linked = unanswered central peripheral (slot + 1) answers c p link.linked;
    });
  }
  central_unheard answers c p (PeripheralTook parting) = record {
    central_goes_on = inl parting.sent.goes_on;
    peripheral_goes_on = inl parting.took.goes_on;
    agreement = turned p.acknowledgement c.acknowledgement parting.agreement;
    opens = λ c_open p_open.
        absurd (let ending = taker_ends peripheral central p c parting (parting.answers ends.is_peripheral).answered in
        shut_by p.leaving.ended_by_peer parting.took.took (ap (λ (o : Option ErrCode). is_none o) (sym ending) ∙ p_open));
  }
  central_unheard answers c p (CentralTook parting none) = record {
    central_goes_on = inl parting.took.goes_on;
    peripheral_goes_on = inl parting.sent.goes_on;
    agreement = parting.agreement;
    opens = λ c_open p_open. inr parting;
  }
  central_unheard answers c p (IsLate link none) = record {
    central_goes_on = inl (lasting_goes c link.central_lasts);
    peripheral_goes_on = inr (inl link.late);
    agreement = link.agreement;
    opens = λ c_open p_open. absurd (let goes = open_goes_on p p_open in let no = sym link.late.0 ∙ goes in cc);
  }
  central_unheard answers c p (IsOver link none) = record {
    central_goes_on = inl link.goes_on;
    peripheral_goes_on = inl link.seen.goes_on;
    agreement = link.seen.agreement;
    opens = λ c_open p_open. absurd (shut_by (ending_of p) (ap (λ (o : Option ErrCode). is_some o) link.seen.ending) p_open);
  }
  central_unheard answers c p (IsForged link none) = record {
    central_goes_on = inl link.goes_on;
    peripheral_goes_on = inr (inr link.forged);
    agreement = link.agreement;
    opens = λ c_open p_open. absurd (let goes = open_goes_on p p_open in let no = sym link.forged ∙ goes in cc);
  }

  -- ---- the central hears a forged packet

  pub central_forged : (c p : Facts) (octets : List ℕ) (room : Bool) → is_forged central c octets ≡ true → AreHeardEnds central peripheral slot c p
      → AreHeardEnds central peripheral slot (received central slot octets room c) p
  central_forged c p octets room forged h =
      subst (λ (f : Facts). AreHeardEnds central peripheral slot f p) (sym (received_forged central c slot octets room forged)) (record {
        central_goes_on = inr has_heard;
        peripheral_goes_on = by h.peripheral_goes_on;
        agreement = h.agreement;
        opens = λ c_open p_open. absurd (let goes = open_goes_on (forged_now c) c_open in let no = sym has_heard ∙ goes in cc);
      })
    where
      has_heard : HasHeardForged (forged_now c)
      has_heard = has_heard_forged c h.central_goes_on

      by : GoesOnUnlessLate (Some c) p → GoesOnUnlessLate (Some (forged_now c)) p
      by (inl goes) = inl goes
      by (inr (inl late)) =
          inr (inl (late.0, (λ i. has_passed (last_change ((ended_alike c.control).sent i)) (p.control.track.entered - 1)) ∙ late.1))
      by (inr (inr over)) = inr (inr over)

  -- ---- the central hears the answer

  module _ (c p : Facts) (channel : ℕ) (octets : List ℕ) (room : Bool) (packet : IsPacketOf peripheral slot p channel octets) (same : channel ≡ c.event.channel) where
    abbrev heard_now : Facts
    heard_now = received central slot octets room c

    -- unless it is mixed, the answer is read as it was sent
    pub central_reads : is_mixed_packet central c p octets ≡ false → AreAnsweredEnds central peripheral slot true c p
        → is_mixed central c octets p.acknowledgement.last ≡ false
    central_reads unmixed (Lasts link) =
        mixed_at_central whole opened central peripheral (slot + 1) slot true c p channel octets ends link.linked link.central_lasts link.peripheral_lasts
        packet same unmixed
    central_reads unmixed (PeripheralTook parting) =
        unmixed_parting whole peripheral central (sym ends.one_link.fields) ends.central_max.to p c parting slot channel octets packet same room opened unmixed
    central_reads unmixed (CentralTook parting none) = absurd (cc)
    central_reads unmixed (IsLate link none) = absurd (cc)
    central_reads unmixed (IsOver link none) = absurd (cc)
    central_reads unmixed (IsForged link none) = absurd (cc)

    module _ (unmixed : is_mixed_packet central c p octets ≡ false) (genuine : is_forged central c octets ≡ false)
        (link : IsAnsweredLink central peripheral slot true c p) where
      pure_up : is_mixed central c octets p.acknowledgement.last ≡ false
      pure_up = central_reads unmixed (Lasts link)

      goes_on : heard_now.control.ends ≡ None
      goes_on =
          genuine_ends _ central c octets heard_now.control.ends genuine
          (central_goes whole central peripheral slot c p channel octets room ends link.linked link.central_lasts link.peripheral_lasts link.central_past
          (link.entered refl) packet same pure_up)

      linked_after : AreLinked central peripheral (slot + 1) false heard_now p
      linked_after =
          hears whole central peripheral slot c p channel octets room ends link.linked link.central_past (link.entered refl) packet same pure_up

      by_terminate_too : (took : Bool) → is_some heard_now.leaving.ended_by_peer ≡ took → AreHeardEnds central peripheral slot heard_now p
      by_terminate_too true took =
          central_unheard false heard_now p
          (CentralTook (central_took whole central peripheral ends slot c p channel octets room link.linked link.central_lasts link.peripheral_lasts packet same
          pure_up took) refl)
      by_terminate_too false none =
          let lasts = lasting_by heard_now goes_on none in record {
            central_goes_on = inl goes_on;
            peripheral_goes_on = inl (lasting_goes p link.peripheral_lasts);
            agreement = linked_agree central peripheral ends (slot + 1) false heard_now p linked_after lasts link.peripheral_lasts;
            opens = λ c_open p_open. inl (record { central_lasts = lasts; peripheral_lasts = link.peripheral_lasts; linked = linked_after });
          }

      answer_taken : AreHeardEnds central peripheral slot heard_now p
      answer_taken = by_terminate_too (is_some heard_now.leaving.ended_by_peer) refl

    over_now : is_mixed_packet central c p octets ≡ false → is_forged central c octets ≡ false → ArePartingFrom peripheral central p c
        → AreHeardEnds central peripheral slot heard_now p
    over_now unmixed genuine parting =
        let seen = has_seen_it whole peripheral central (sym ends.one_link.fields) ends.central_max.to p c parting slot channel octets packet same room opened unmixed
        genuine in record {
          central_goes_on = inl seen.goes_on;
          peripheral_goes_on = inl parting.took.goes_on;
          agreement = turned p.acknowledgement heard_now.acknowledgement seen.agreement;
          opens = λ c_open p_open. absurd (shut_by (ending_of heard_now) (ap (λ (o : Option ErrCode). is_some o) seen.ending) c_open);
        }

    pub central_heard : is_mixed_packet central c p octets ≡ false → is_forged central c octets ≡ false → AreAnsweredEnds central peripheral slot true c p
        → AreHeardEnds central peripheral slot heard_now p
    central_heard unmixed genuine (Lasts link) = answer_taken unmixed genuine link
    central_heard unmixed genuine (PeripheralTook parting) = over_now unmixed genuine parting
    central_heard unmixed genuine (CentralTook parting none) = absurd (cc)
    central_heard unmixed genuine (IsLate link none) = absurd (cc)
    central_heard unmixed genuine (IsOver link none) = absurd (cc)
    central_heard unmixed genuine (IsForged link none) = absurd (cc)

    -- it judges the answer good or forged
    pub central_judges : AreAnsweredEnds central peripheral slot true c p → IsJudged central c octets
    central_judges (Lasts link) =
        judged_by central c octets (is_forged central c octets)
        (judged_at_central whole central peripheral (slot + 1) slot true c p channel octets ends link.linked link.central_lasts link.peripheral_lasts packet same)
    central_judges (PeripheralTook parting) =
        judged_by central c octets (is_forged central c octets)
        (judged_so whole peripheral central (sym ends.one_link.fields) ends.central_max.to p c parting slot channel octets packet same room)
    central_judges (CentralTook parting none) = absurd (cc)
    central_judges (IsLate link none) = absurd (cc)
    central_judges (IsOver link none) = absurd (cc)
    central_judges (IsForged link none) = absurd (cc)

  -- ---- a host answers a request of the peer, or its complete packets are reported

  module _ (c p now : Facts) where
    -- as this happens at the central
    pub central_quiet : (step : Step) → MayHost step c → now ≡ facts_after central c step → IsQuiet c now → AreHeardEnds central peripheral slot c p
        → AreHeardEnds central peripheral slot now p
    central_quiet step may is quiet h = record {
      central_goes_on = still_goes quiet h.central_goes_on;
      peripheral_goes_on = by h.peripheral_goes_on;
      agreement = subst (λ (a : Acknowledgement). AreInAgreement a p.acknowledgement) (sym quiet.counts) h.agreement;
      opens = λ c_open p_open. open_now (h.opens (ap (λ (o : Option ErrCode). is_none o) (sym quiet.ending) ∙ c_open) p_open);
    }
      where
        by : GoesOnUnlessLate (Some c) p → GoesOnUnlessLate (Some now) p
        by (inl goes) = inl goes
        by (inr (inl late)) = inr (inl (late.0, (λ i. has_passed (last_change (quiet.sent i)) (p.control.track.entered - 1)) ∙ late.1))
        by (inr (inr forged)) = inr (inr forged)

        still_goes : IsQuiet c now → (c.control.ends ≡ None) ⊎ HasHeardForged c → (now.control.ends ≡ None) ⊎ HasHeardForged now
        still_goes quiet (inl goes) = inl (quiet.ends ∙ goes)
        still_goes quiet (inr forged) = inr (quiet.ends ∙ forged)

        open_now : AreOpenEnds central peripheral (slot + 1) c p → AreOpenEnds central peripheral (slot + 1) now p
        open_now both = subst (λ (f : Facts). AreOpenEnds central peripheral (slot + 1) f p) (sym is) (central_hosted_open central peripheral ends (slot + 1) c p step may both)

    pub peripheral_quiet : (step : Step) → MayHost step p → now ≡ facts_after peripheral p step → IsQuiet p now → AreHeardEnds central peripheral slot c p
        → AreHeardEnds central peripheral slot c now
    peripheral_quiet step may is quiet h = record {
      central_goes_on = h.central_goes_on;
      peripheral_goes_on = by h.peripheral_goes_on;
      agreement = subst (λ (a : Acknowledgement). AreInAgreement c.acknowledgement a) (sym quiet.counts) h.agreement;
      opens = λ c_open p_open. open_now (h.opens c_open (ap (λ (o : Option ErrCode). is_none o) (sym quiet.ending) ∙ p_open));
    }
      where
        by : GoesOnUnlessLate (Some c) p → GoesOnUnlessLate (Some c) now
        by (inl goes) = inl (quiet.ends ∙ goes)
        by (inr (inl late)) = inr (inl (quiet.ends ∙ late.0, (λ i. has_passed (last_change c.control.sent) (quiet.entered i - 1)) ∙ late.1))
        by (inr (inr forged)) = inr (inr (quiet.ends ∙ forged))

        open_now : AreOpenEnds central peripheral (slot + 1) c p → AreOpenEnds central peripheral (slot + 1) c now
        open_now both =
            subst (λ (f : Facts). AreOpenEnds central peripheral (slot + 1) c f) (sym is) (peripheral_hosted_open central peripheral ends (slot + 1) c p step may both)

    -- and at the peripheral before the central hears its answer
    pub answered_quiet : (answers : Bool) (step : Step) → MayHost step p → now ≡ facts_after peripheral p step → IsQuiet p now
        → AreAnsweredEnds central peripheral slot answers c p → AreAnsweredEnds central peripheral slot answers c now
    answered_quiet answers step may is quiet (Lasts link) = Lasts (record {
      central_lasts = link.central_lasts;
      peripheral_lasts = subst (λ (f : Facts). is_lasting f ≡ true) (sym is) (still_lasts p _ (host_ends_nothing peripheral p step may) link.peripheral_lasts);
      linked = subst (λ (f : Facts). AreLinked central peripheral (slot + 1) answers c f) (sym is)
          (peripheral_hosts central peripheral ends (slot + 1) answers c p link.linked step may);
      central_past = link.central_past;
      entered = link.entered;
    })
    answered_quiet answers step may is quiet (PeripheralTook parting) =
        PeripheralTook (subst (λ (f : Facts). ArePartingFrom peripheral central f c) (sym is) (taker_still peripheral central p c parting _ (host_still peripheral p step may)))
    answered_quiet answers step may is quiet (CentralTook parting none) =
        CentralTook (subst (λ (f : Facts). ArePartingFrom central peripheral c f) (sym is) (sender_still central peripheral c p parting _ (host_still peripheral p step may))) none
    answered_quiet answers step may is quiet (IsLate link none) = IsLate (record {
      central_lasts = link.central_lasts;
      late = (quiet.ends ∙ link.late.0, (λ i. has_passed (last_change c.control.sent) (quiet.entered i - 1)) ∙ link.late.1);
      agreement = subst (λ (a : Acknowledgement). AreInAgreement c.acknowledgement a) (sym quiet.counts) link.agreement;
    }) none
    answered_quiet answers step may is quiet (IsOver link none) = IsOver (record {
      goes_on = link.goes_on;
      seen = record {
        acknowledged = quiet.acknowledged ∙ link.seen.acknowledged;
        ending = quiet.ending ∙ link.seen.ending;
        goes_on = quiet.ends ∙ link.seen.goes_on;
        took_none = quiet.by_peer ∙ link.seen.took_none;
        agreement = subst (λ (a : Acknowledgement). AreInAgreement c.acknowledgement a) (sym quiet.counts) link.seen.agreement;
      };
    }) none
    answered_quiet answers step may is quiet (IsForged link none) = IsForged (record {
      goes_on = link.goes_on;
      forged = quiet.ends ∙ link.forged;
      agreement = subst (λ (a : Acknowledgement). AreInAgreement c.acknowledgement a) (sym quiet.counts) link.agreement;
    }) none

  -- ---- a new link

  pub new_ends : central.opened ≡ slot → AreHeardEnds central peripheral slot (first_facts central) (first_facts peripheral)
  new_ends now =
      let linked = subst (λ n. AreLinked central peripheral (n + 1) false (first_facts central) (first_facts peripheral)) now (first_linked central peripheral ends) in record {
        central_goes_on = inl refl;
        peripheral_goes_on = inl refl;
        agreement = linked_agree central peripheral ends (slot + 1) false (first_facts central) (first_facts peripheral) linked refl refl;
        opens = λ c_open p_open. inl (record { central_lasts = refl; peripheral_lasts = refl; linked = linked });
      }
