-- The next anchor of a link that goes on is never in an earlier slot (Core 5.2, volume 6 part B, section 4.5.1).
use Rattle.std.proofs.Common.{◌≡◌, ℕ, ◌+◌, ◌<◌, ◌≤◌, ◌&&◌, Bool, true, false, nat_lt, List, [], ◌∷◌, length, Option, Some, None, is_none, refl, ap, sym, ◌∙◌, subst, arith, if◌then◌else◌}
use Rattle.std.proofs.lemmas.Bool.{and_parts, eqb-true, eqb-false}
use Rattle.ble_base.specs.declared.error_codes.ErrCode.{ErrCode}
use Rattle.adv_pdu.specs.Ranges.{IsInRange}
use Rattle.instants.specs.Track.{TrackFacts, next_anchor_of, track_after_enter}
use Rattle.ble_base.specs.declared.roles.Role.TheVariants.{Central}
use Rattle.procedures.specs.procedure_stages.Kinds.{role_of}
use Rattle.procedures.specs.procedure_values.declared.asks.Ask.{Ask}
use Rattle.link_end.specs.control_model.Control.{Control, Answers, Asks, Disconnects, Owes}
use Rattle.link_end.proofs.control_model.Indicating.{Indicates}
use Rattle.link_end.proofs.control_model.Moving.{enters_track as moves_track, table_alone}
use Rattle.link_end.specs.link_model.Data.{is_control}
use Rattle.link_end.specs.link_model.Setup.{Setup}
use Rattle.link_end.specs.link_model.Facts.{Facts}
use Rattle.link_end.specs.link_model.Controls.{goes_on, is_quiet_now}
use Rattle.link_end.specs.link_model.AskRanges.{AreAsksInRange, IsAskInRange}
use Rattle.link_end.specs.link_model.End.{facts_after, facts_of}
use Rattle.link_end.specs.link_model.Entering.{control_entered, facts_entered_if}
use Rattle.link_end.specs.link_model.Fixing.{fixed_anew}
use Rattle.link_end.specs.link_model.Hosts.{asked_unless, is_to_come}
use Rattle.link_end.specs.link_model.Sending.{control_gone_if, takes_leave}
use Rattle.link_end.specs.link_model.Step.{Step, DataGiven, DataReported, Disconnected, EventEntered, PacketReceived, PacketSent, PduFixed, ProcedureAsked, RequestAnswered}
use Rattle.link_end.proofs.link_model.Pasts.{grows}
use Rattle.link_end.proofs.link_model.Views.{Owed, Owing, Same, entered_view}
use Rattle.open_links.specs.OpenLinks.{OpenLink, facts_in, has_entered, link_after, new_link}
use Rattle.open_links.specs.Slots.{Exchange, Given, Asked, Answered, Ended, Fixes, Sends, Hears, Reports, IsInReach, IsOnTime, MayExchange, MayGoThrough, link_exchanging, link_through, step_of}
use Rattle.open_links.specs.Turns.{enters_in, entered_if, is_anchor, link_entered}
use Rattle.open_links.proofs.Anchors.{IsInPlace, enters, moves_on, next_after_enter, one_more_entered, sent_later, stays_in_place, went_on}
use Rattle.open_links.proofs.Intervals.{HasIntervals, asks_more, has_intervals, past_indicates}

-- ---- what holds of a link in each slot

-- its first fields, and all that its host asked and answered, are in range
record IsSound (link : OpenLink) : Type 0 where
  fields : IsInRange link.setup.link.fields
  asks : AreAsksInRange link.past

intervals_in : (link : OpenLink) → IsSound link → HasIntervals (facts_in link).control.track
intervals_in link sound = has_intervals link.setup link.past sound.fields sound.asks

sound_after : (step : Step) (link : OpenLink) → IsAskInRange step → IsSound link → IsSound (link_after step link)
sound_after step link is sound = record { fields = sound.fields; asks = asks_more link.past step sound.asks is }

pub new_on_time : (setup : Setup) → IsOnTime (setup.opened + 1) (new_link setup)
unfolding facts_of
new_on_time setup = record { next = λ goes. omega arith }

-- ---- it enters its event

-- the track of an end that enters an event
entered_track : (setup : Setup) (slot : ℕ) (facts : Facts) (goes : Bool) → goes_on facts ≡ goes → goes ≡ true
    → (facts_entered_if goes setup slot facts).control.track ≡ track_after_enter facts.control.track
entered_track setup slot facts true is goes =
    owing_track _ (control_entered slot facts) (entered_view slot facts)
    ∙ moves_track facts.control slot (is_quiet_now facts) (none_of facts.control.ends is)
  where
    none_of : (ends : Option ErrCode) → is_none ends ≡ true → ends ≡ None
    none_of None is = refl
    none_of (Some code) is = absurd cc

    -- a PDU of an encryption may be queued then
    owing_track : (c d : Control) → Owing c d → d.track ≡ c.track
    owing_track c d (Same is) = ap (λ (e : Control). e.track) is
    owing_track c d (Owed ctrl may is) = ap (λ (e : Control). e.track) is ∙ table_alone c (Owes ctrl) refl
entered_track setup slot facts false is goes = absurd cc

track_after_entry : (slot : ℕ) (link : OpenLink) → goes_on (facts_in link) ≡ true
    → (facts_in (link_after (EventEntered slot) link)).control.track ≡ track_after_enter (facts_in link).control.track
track_after_entry slot link goes =
    ap (λ (facts : Facts). facts.control.track) (grows link.setup link.past (EventEntered slot))
    ∙ entered_track link.setup slot (facts_in link) (goes_on (facts_in link)) refl goes

entry_on_time : (slot : ℕ) (link : OpenLink) → IsSound link → goes_on (facts_in link) ≡ true → is_anchor slot link ≡ true
    → IsOnTime (slot + 1) (link_after (EventEntered slot) link)
entry_on_time slot link sound goes at =
    let track = (facts_in link).control.track in
    let here : next_anchor_of track ≡ slot = eqb-true (next_anchor_of track) slot at in
    let later = next_after_enter track (intervals_in link sound) in
    record {
      next = λ still. subst (λ (t : TrackFacts). slot + 1 ≤ next_anchor_of t) (sym (track_after_entry slot link goes)) (omega (arith, here, later));
    }

-- one that enters none has its anchor in another slot, or does not go on
waits_on_time : (slot : ℕ) (link : OpenLink) (goes at : Bool) → goes_on (facts_in link) ≡ goes → is_anchor slot link ≡ at → (goes && at) ≡ false
    → IsOnTime slot link → IsOnTime (slot + 1) link
waits_on_time slot link true true is_going is_at none on_time = absurd cc
waits_on_time slot link true false is_going is_at none on_time =
    let next = on_time.next is_going in
    let elsewhere = eqb-false (next_anchor_of (facts_in link).control.track) slot is_at in
    record { next = λ still. omega (arith, next, elsewhere) }
waits_on_time slot link false at is_going is_at none on_time =
    record { next = λ still. let no_more : ◌≡◌ {A = Bool} false true = sym is_going ∙ still in absurd cc }

sound_entered : (test : Bool) (slot : ℕ) (link : OpenLink) → IsSound link → IsSound (entered_if test slot link)
sound_entered true slot link sound = sound_after (EventEntered slot) link tt sound
sound_entered false slot link sound = sound

enters_on_time : (slot : ℕ) (link : OpenLink) → IsSound link → IsOnTime slot link → IsOnTime (slot + 1) (link_entered slot link)
enters_on_time slot link sound on_time = by_test (goes_on (facts_in link)) (is_anchor slot link) refl refl
  where
    by_test : (goes at : Bool) → goes_on (facts_in link) ≡ goes → is_anchor slot link ≡ at → IsOnTime (slot + 1) (entered_if (goes && at) slot link)
    by_test true true is_going is_at = entry_on_time slot link sound is_going is_at
    by_test true false is_going is_at = waits_on_time slot link true false is_going is_at refl on_time
    by_test false at is_going is_at = waits_on_time slot link false at is_going is_at refl on_time

-- ---- what else it does in a slot

place_after : (step : Step) (link : OpenLink) → enters step ≡ false
    → IsInPlace (facts_in link).control.track (facts_in (link_after step link)).control.track
place_after step link none =
    subst (λ (facts : Facts). IsInPlace (facts_in link).control.track facts.control.track) (sym (grows link.setup link.past step))
    (stays_in_place link.setup (facts_in link) step none)

went_on_before : (step : Step) (link : OpenLink) → goes_on (facts_in (link_after step link)) ≡ true → goes_on (facts_in link) ≡ true
went_on_before step link goes =
    went_on link.setup (facts_in link) step (subst (λ (facts : Facts). goes_on facts ≡ true) (grows link.setup link.past step) goes)

-- the host leaves the track
asked_track : (comes : Bool) (ask : Ask) (facts : Facts) → (asked_unless comes ask facts).control.track ≡ facts.control.track
asked_track true ask facts = refl
asked_track false ask facts = table_alone facts.control (Asks ask) refl

pub fixed_track : (stays : Bool) (facts : Facts) → (if stays then facts else fixed_anew facts).control.track ≡ facts.control.track
fixed_track true facts = refl
fixed_track false facts = refl

same_on_time : (slot : ℕ) (step : Step) (link : OpenLink)
    → (facts_after link.setup (facts_in link) step).control.track ≡ (facts_in link).control.track → IsOnTime slot link
    → IsOnTime slot (link_after step link)
same_on_time slot step link same on_time =
    let track = ap (λ (facts : Facts). facts.control.track) (grows link.setup link.past step) ∙ same in
    record {
      next = λ goes. subst (λ (t : TrackFacts). slot ≤ next_anchor_of t) (sym track) (on_time.next (went_on_before step link goes));
    }

-- it sends
gone_later : (goes : Bool) (slot : ℕ) (facts : Facts) → (role_of facts.control.table.progress ≡ Central → Indicates facts.control)
    → next_anchor_of facts.control.track ≤ next_anchor_of (control_gone_if goes slot facts).control.track
gone_later true slot facts central = sent_later facts.control slot (is_quiet_now facts) central
gone_later false slot facts central = omega arith

sends_on_time : (slot at : ℕ) (link : OpenLink) → IsSound link → IsOnTime slot link → IsOnTime slot (link_after (PacketSent at) link)
sends_on_time slot at link sound on_time =
    let facts = facts_in link in
    let later = gone_later (takes_leave facts) at facts (past_indicates link.setup link.past sound.fields sound.asks) in
    record {
      next = λ goes.
          let next = on_time.next (went_on_before (PacketSent at) link goes) in
          subst (λ (facts : Facts). slot ≤ next_anchor_of facts.control.track) (sym (grows link.setup link.past (PacketSent at)))
          (omega (arith, next, later));
    }

-- octets reach it in an exchange of its event
reached_on_time : (slot : ℕ) (step : Step) (link : OpenLink) → IsSound (link_after step link) → enters step ≡ false
    → slot ≤ (facts_in link).control.track.anchor + 1 → IsOnTime (slot + 1) link → IsOnTime (slot + 1) (link_after step link)
reached_on_time slot step link sound none reach on_time =
    record {
      next = λ goes. moves_on (facts_in link).control.track (facts_in (link_after step link)).control.track slot (place_after step link none)
          (intervals_in (link_after step link) sound) reach (on_time.next (went_on_before step link goes));
    }

exchange_on_time : (slot : ℕ) (exchange : Exchange) (link : OpenLink) → IsSound link → IsSound (link_after (step_of slot exchange) link)
    → IsInReach slot exchange link → IsOnTime (slot + 1) link → IsOnTime (slot + 1) (link_after (step_of slot exchange) link)
exchange_on_time slot (Given start body) link before sound reach on_time = same_on_time (slot + 1) (DataGiven start body) link refl on_time
exchange_on_time slot (Asked ask) link before sound reach on_time =
    same_on_time (slot + 1) (ProcedureAsked ask) link (asked_track (is_to_come ask (facts_in link)) ask (facts_in link)) on_time
exchange_on_time slot (Answered answer) link before sound reach on_time =
    same_on_time (slot + 1) (RequestAnswered answer) link (table_alone (facts_in link).control (Answers answer) refl) on_time
exchange_on_time slot (Ended reason) link before sound reach on_time =
    same_on_time (slot + 1) (Disconnected reason slot) link (table_alone (facts_in link).control (Disconnects reason) refl) on_time
exchange_on_time slot Fixes link before sound reach on_time =
    same_on_time (slot + 1) PduFixed link (fixed_track (is_control (facts_in link).outgoing.fixed) (facts_in link)) on_time
exchange_on_time slot Sends link before sound reach on_time = sends_on_time (slot + 1) slot link before on_time
exchange_on_time slot (Hears octets room) link before sound reach on_time =
    reached_on_time slot (PacketReceived slot octets room) link sound refl reach on_time
exchange_on_time slot Reports link before sound reach on_time = same_on_time (slot + 1) DataReported link refl on_time

-- ---- slot after slot

record IsSoundOnTime (slot : ℕ) (link : OpenLink) : Type 0 where
  sound : IsSound link
  on_time : IsOnTime slot link

exchanging_on_time : (slot : ℕ) (exchanges : List Exchange) (link : OpenLink) → MayExchange slot exchanges link
    → IsSoundOnTime (slot + 1) link → IsSoundOnTime (slot + 1) (link_exchanging slot exchanges link)
exchanging_on_time slot [] link may is = is
exchanging_on_time slot (exchange ∷ exchanges) link may is =
    let sound = sound_after (step_of slot exchange) link may.0 is.sound in
    exchanging_on_time slot exchanges (link_after (step_of slot exchange) link) may.2
    (record { sound = sound; on_time = exchange_on_time slot exchange link is.sound sound may.1 is.on_time })

through_by : (slot : ℕ) (slots : List (List Exchange)) (link : OpenLink) → MayGoThrough slot slots link → IsSoundOnTime slot link
    → IsOnTime (slot + length slots) (link_through slot slots link)
through_by slot [] link may is = subst (λ n. IsOnTime n link) (omega arith) is.on_time
through_by slot (exchanges ∷ slots) link may is =
    let entered = link_entered slot link in
    let there = link_exchanging slot exchanges entered in
    subst (λ n. IsOnTime n (link_through (slot + 1) slots there)) (omega arith)
    (through_by (slot + 1) slots there may.1
    (exchanging_on_time slot exchanges entered may.0
    (record { sound = sound_entered (enters_in slot link) slot link is.sound; on_time = enters_on_time slot link is.sound is.on_time })))

pub through_on_time : (slot : ℕ) (slots : List (List Exchange)) (link : OpenLink) → IsInRange link.setup.link.fields → AreAsksInRange link.past
    → MayGoThrough slot slots link → IsOnTime slot link → IsOnTime (slot + length slots) (link_through slot slots link)
through_on_time slot slots link fields asks may on_time =
    through_by slot slots link may (record { sound = record { fields = fields; asks = asks }; on_time = on_time })

-- ---- a link that entered an event

some_entered : (n : ℕ) → 0 < n → nat_lt 0 n ≡ true
some_entered n is = grind (arith, is)

pub enters_an_event : (slot : ℕ) (link : OpenLink) → enters_in slot link ≡ true → has_entered (link_entered slot link) ≡ true
enters_an_event slot link is = by_test (enters_in slot link) refl is
  where
    by_test : (test : Bool) → enters_in slot link ≡ test → test ≡ true → has_entered (entered_if test slot link) ≡ true
    by_test true e is =
        let goes = (and_parts (goes_on (facts_in link)) (is_anchor slot link) e).0 in
        subst (λ (t : TrackFacts). nat_lt 0 t.entered ≡ true) (sym (track_after_entry slot link goes))
        (some_entered _ (omega (arith, one_more_entered (facts_in link).control.track)))
    by_test false e is = absurd cc

still_entered : (step : Step) (link : OpenLink) (test : Bool) → enters step ≡ test → has_entered link ≡ true → has_entered (link_after step link) ≡ true
still_entered step link false none is = ap (λ n. nat_lt 0 n) (place_after step link none).entered ∙ is
still_entered (EventEntered slot) link true none is =
    subst (λ (facts : Facts). nat_lt 0 facts.control.track.entered ≡ true) (sym (grows link.setup link.past (EventEntered slot)))
    (by_test (goes_on (facts_in link)) refl)
  where
    by_test : (goes : Bool) → goes_on (facts_in link) ≡ goes
        → nat_lt 0 (facts_entered_if goes link.setup slot (facts_in link)).control.track.entered ≡ true
    by_test true goes =
        subst (λ (t : TrackFacts). nat_lt 0 t.entered ≡ true) (sym (entered_track link.setup slot (facts_in link) true goes refl))
        (some_entered _ (omega (arith, one_more_entered (facts_in link).control.track)))
    by_test false goes = is
still_entered other link true none is = absurd cc

pub stays_entered : (step : Step) (link : OpenLink) → has_entered link ≡ true → has_entered (link_after step link) ≡ true
stays_entered step link is = still_entered step link (enters step) refl is
