-- A turn of which both ends are open leaves them linked.
use Rattle.std.proofs.Common.{◌==◌, ◌⊎◌, inl, inr, ◌-◌, Some, None, is_some, arith, ◌≡◌, ℕ, ◌+◌, ◌≤◌, ◌&&◌, Bool, true, false, List, [], ◌∷◌, Option, is_none, refl, ap, sym, subst, ◌∙◌, if◌then◌else◌}
use Rattle.std.proofs.lemmas.Bool.{and_from, and_parts, eqb-true}
use Rattle.link_pairs.specs.link_model.declared.events.Reception.{Reception}
use Rattle.link_pairs.specs.link_model.Setup.{Setup}
use Rattle.link_pairs.specs.link_model.Facts.{Facts}
use Rattle.link_pairs.specs.link_model.Receiving.{replies_of}
use Rattle.link_pairs.specs.link_model.Step.{Step}
use Rattle.link_pairs.specs.link_model.Times.{due_of}
use Rattle.link_pairs.specs.Ends.{AreEnds, heard_turns, is_lasting, turns_at}
use Rattle.link_pairs.specs.Hearing.{IsPacketOf, answered, is_mixed, received}
use Rattle.link_pairs.specs.Shown.{AreLinked, Shows, link_of}
use Rattle.link_pairs.specs.Turns.{HaveBegun, sent_if}
use Rattle.link_pairs.proofs.CentralHears.{hears}
use Rattle.link_pairs.proofs.Hosting.{central_hosts, peripheral_hosts}
use Rattle.link_pairs.proofs.PeripheralHeard.{hears_linked}
use Rattle.link_pairs.proofs.Turning.{begun_hears, prepared_hears, turn_begun}
use Rattle.link_runs.specs.Turn.{Given, IsUnmixed, answer, central_sent, central_heard, central_ready, facts_hosted, is_answer_heard, is_heard, listens, packet, peripheral_ready, peripheral_heard, peripheral_received, transmits}
use Rattle.link_runs.specs.Runs.{MayHostAll}
use Rattle.link_runs.proofs.Exchanges.{may_exchange}
use Rattle.link_runs.proofs.Supervision.{heard_in_time}
use Rattle.ble_base.specs.ErrorCodes.{mic_failure}
use Rattle.ble_base.specs.declared.error_codes.ErrCode.{ErrCode}
use Rattle.link_pairs.specs.joint_controls.Joint.{has_passed, last_change}
use Rattle.link_pairs.proofs.link_model.Hearing.{IsHeardWhole}
use Rattle.link_pairs.specs.link_model.Packets.{is_forged}
use Rattle.link_pairs.specs.link_model.Times.{ending_of}
use Rattle.link_pairs.specs.Parting.{ArePartingFrom, EndsForged as HearsForged, HasSeenTerminate, HearsTheEnd}
use Rattle.link_pairs.specs.Sound.{EndsForInstant, EndsForged}
use Rattle.link_pairs.proofs.Understanding.{IsOpenedThere}
use Rattle.link_pairs.proofs.Ending.{answered_ends}
use Rattle.link_pairs.proofs.Ending.{central_lasts as central_goes, peripheral_lasts as peripheral_goes}
use Rattle.link_pairs.proofs.EndingNothing.{begun_ends_nothing, prepared_ends_nothing}
use Rattle.link_pairs.proofs.Items.{never}
use Rattle.link_pairs.proofs.NothingNew.{prepared_still, sender_still}
use Rattle.link_pairs.proofs.PartingBegins.{central_took, peripheral_took}
use Rattle.link_pairs.proofs.PartingEndings.{taker_ends}
use Rattle.link_pairs.proofs.OtherKeys.{mixed_at_central, mixed_at_peripheral}
use Rattle.link_pairs.proofs.SenderHears.{ends_forged, has_seen, hears_the_end, unmixed_parting}
use Rattle.link_pairs.proofs.TakerSends.{begun_parting}
use Rattle.link_runs.specs.Open.{AreOpenEnds, GoesOnUnlessLate, HasHeardForged, IsLastingLink}
use Rattle.link_runs.proofs.EventsKept.{answered_in_event, ended_no_reply}
use Rattle.link_runs.proofs.GoingOn.{lasting_by, lasting_goes, lasting_took_none, open_goes_on, shut_by, still_lasts}

-- ---- what the hosts do

module _ (central peripheral : Setup) (ends : AreEnds central peripheral) (turns : ℕ) (answers : Bool) where
  pub central_hosted : (steps : List Step) (c p : Facts) → MayHostAll central steps c → AreLinked central peripheral turns answers c p
      → AreLinked central peripheral turns answers (facts_hosted central steps c) p
  central_hosted [] c p may linked = linked
  central_hosted (step ∷ steps) c p may linked =
      central_hosted steps _ p may.1 (central_hosts central peripheral ends turns answers c p linked step may.0)

  pub peripheral_hosted : (steps : List Step) (c p : Facts) → MayHostAll peripheral steps p → AreLinked central peripheral turns answers c p
      → AreLinked central peripheral turns answers c (facts_hosted peripheral steps p)
  peripheral_hosted [] c p may linked = linked
  peripheral_hosted (step ∷ steps) c p may linked =
      peripheral_hosted steps c _ may.1 (peripheral_hosts central peripheral ends turns answers c p linked step may.0)

-- ---- no answer is on its way between two turns

module _ (central peripheral : Setup) (turns : ℕ) (answers : Bool) where
  pub unanswered : (c p : Facts) → AreLinked central peripheral turns answers c p → AreLinked central peripheral turns false c p
  unanswered c p linked =
      record {
        steps = linked.steps;
        may = linked.may;
        in_range = linked.in_range;
        shows = λ running. without (linked.shows running);
        keys = linked.keys;
        lasts = linked.lasts;
      }
    where
      without : Shows central peripheral turns answers (link_of central peripheral linked.steps) c p
          → Shows central peripheral turns false (link_of central peripheral linked.steps) c p
      without s =
          record {
            central_part = s.central_part;
            peripheral_part = s.peripheral_part;
            down = s.down;
            up = s.up;
            agreement = s.agreement;
            begun = s.begun;
            replies = λ never. absurd (cc);
            last = s.last;
            central_heard = s.central_heard;
            peripheral_heard = s.peripheral_heard;
            free = s.free;
            central_rests = s.central_rests;
            peripheral_rests = s.peripheral_rests;
            central_fits = s.central_fits;
            peripheral_fits = s.peripheral_fits;
          }

-- ---- what is on the air

module _ (central peripheral : Setup) (slot : ℕ) (given : Given) (c p : Facts) where
  abbrev c_at : Facts
  c_at = central_sent central peripheral slot given c

  abbrev p_at : Facts
  p_at = peripheral_ready central peripheral slot given p

  abbrev transmits_now : Bool
  transmits_now = transmits central peripheral slot given c

  abbrev listens_now : Bool
  listens_now = listens central peripheral slot given p

  -- ---- the packet of the central

  abbrev sent_octets : List ℕ
  sent_octets = packet central peripheral slot given c p

  abbrev heard_now : Bool
  heard_now = is_heard central peripheral slot given c p

  abbrev replies : Bool
  replies = replies_of peripheral p_at slot sent_octets given.peripheral_room

  record IsHeardNow : Type 0 where
    transmits_in : transmits_now ≡ true
    listens_in : listens_now ≡ true
    same : (central_ready central peripheral slot given c).event.channel ≡ p_at.event.channel

  is_heard_now : heard_now ≡ true → IsHeardNow
  is_heard_now is =
      let parts = and_parts (transmits_now && listens_now) _ is in
      let both = and_parts transmits_now listens_now parts.0 in
      record { transmits_in = both.0; listens_in = both.1; same = eqb-true _ _ (and_parts given.down _ parts.1).1 }

  packet_of_central : transmits_now ≡ true
      → IsPacketOf central slot c_at (central_ready central peripheral slot given c).event.channel sent_octets
  packet_of_central is =
      record {
        before = central_ready central peripheral slot given c;
        sent = ap (λ (sends : Bool). sent_if sends central slot (central_ready central peripheral slot given c)) is;
        packet = refl;
        on_channel = refl;
      }

  abbrev p_heard_if : Bool → Facts
  p_heard_if hears_it = if hears_it then answered peripheral slot sent_octets given.peripheral_room p_at else p_at

  -- ---- the answer

  abbrev p_heard : Facts
  p_heard = peripheral_heard central peripheral slot given c p

  abbrev taken : Facts
  taken = peripheral_received central peripheral slot given c p

  abbrev answer_octets : List ℕ
  answer_octets = answer central peripheral slot given c p

  abbrev answer_heard : Bool
  answer_heard = is_answer_heard central peripheral slot given c p

  abbrev c_heard_if : Bool → Facts
  c_heard_if hears_it = if hears_it then received central slot answer_octets given.central_room c_at else c_at

  abbrev c_heard : Facts
  c_heard = central_heard central peripheral slot given c p

  record IsAnswerHeard : Type 0 where
    heard_it : heard_now ≡ true
    replied : replies ≡ true
    same_back : taken.event.channel ≡ c_at.event.channel

  is_answer_heard_now : answer_heard ≡ true → IsAnswerHeard
  is_answer_heard_now is =
      let parts = and_parts (heard_now && replies) _ is in
      let both = and_parts heard_now replies parts.0 in
      record { heard_it = both.0; replied = both.1; same_back = eqb-true _ _ (and_parts given.up _ parts.1).1 }

  packet_of_peripheral : heard_now ≡ true → replies ≡ true → IsPacketOf peripheral slot p_heard taken.event.channel answer_octets
  packet_of_peripheral is answers =
      record {
        before = taken;
        sent = ap p_heard_if is ∙ ap (λ (sends : Bool). sent_if sends peripheral slot taken) answers;
        packet = refl;
        on_channel = refl;
      }

  -- the central hears nothing where the peripheral does not answer
  unheard : (heard_now && replies) ≡ false → c_heard ≡ c_at
  unheard none = ap (λ (b : Bool). c_heard_if (b && (given.up && taken.event.channel == c_at.event.channel))) none

  -- ---- what becomes of both ends in the turn

  pub record AreAfterTurn : Type 0 where
    pub central_goes_on : (c_heard.control.ends ≡ None) ⊎ HasHeardForged c_heard
    pub peripheral_goes_on : GoesOnUnlessLate (Some c_heard) p_heard
    pub opens : is_none (ending_of c_heard) ≡ true → is_none (ending_of p_heard) ≡ true
        → AreOpenEnds central peripheral (slot + 1) c_heard p_heard

  -- ---- the central took LL_TERMINATE_IND before the turn

  module _ (whole : IsHeardWhole) (opened : IsOpenedThere) (ends : AreEnds central peripheral) (unmixed : IsUnmixed central peripheral slot given c p)
      (parting : ArePartingFrom central peripheral c p) where
    parting_at : ArePartingFrom central peripheral c_at p_at
    parting_at =
        let least = ends.peripheral_max.from in
        sender_still central peripheral c_at p (begun_parting central peripheral (omega (arith, least)) c p slot parting transmits_now) p_at
        (prepared_still peripheral slot listens_now p)

    parting_after : (hears_it : Bool) → heard_now ≡ hears_it → AreAfterTurn
    parting_after true is =
        let now = is_heard_now is in
        let packet_now = packet_of_central now.transmits_in in
        let most = ends.peripheral_max.to in
        let fields = ends.one_link.fields in
        let room = given.peripheral_room in
        let pure = unmixed_parting whole central peripheral fields most c_at p_at parting_at slot _ sent_octets packet_now now.same room opened (unmixed.down is) in
        by (is_forged peripheral p_at sent_octets) refl
        (hears_the_end whole central peripheral fields most c_at p_at parting_at slot _ sent_octets packet_now now.same room pure)
        (has_seen whole central peripheral fields most c_at p_at parting_at slot _ sent_octets packet_now now.same room pure)
        (ends_forged whole central peripheral fields most c_at p_at parting_at slot _ sent_octets packet_now now.same room)
      where
        by : (forged : Bool) → is_forged peripheral p_at sent_octets ≡ forged
            → (is_forged peripheral p_at sent_octets ≡ false → HearsTheEnd peripheral p_at slot sent_octets given.peripheral_room)
            → (is_forged peripheral p_at sent_octets ≡ false → HasSeenTerminate c_at.acknowledgement taken)
            → (is_forged peripheral p_at sent_octets ≡ true → HearsForged peripheral p_at slot sent_octets given.peripheral_room) → AreAfterTurn
        by false genuine hears has forged =
            let over = hears genuine in
            let seen = has genuine in
            let c_is : c_heard ≡ c_at = unheard (ap (λ (b : Bool). heard_now && b) over.replies ∙ never heard_now) in
            let p_is : p_heard ≡ taken = ap p_heard_if is ∙ over.answers_none in
            record {
              central_goes_on = inl (ap (λ (f : Facts). f.control.ends) c_is ∙ parting_at.took.goes_on);
              peripheral_goes_on = inl (ap (λ (f : Facts). f.control.ends) p_is ∙ seen.goes_on);
              opens = λ c_open p_open.
                  absurd (shut_by (ending_of p_heard) (ap (λ (f : Facts). is_some (ending_of f)) p_is ∙ ap (λ (o : Option ErrCode). is_some o) seen.ending) p_open);
            }
        by true wrong hears has forged =
            let over = forged wrong in
            let c_is : c_heard ≡ c_at = unheard (ap (λ (b : Bool). heard_now && b) over.replies ∙ never heard_now) in
            let p_is : p_heard ≡ taken = ap p_heard_if is ∙ over.answers_none in
            let ended : p_heard.control.ends ≡ Some (record { 0 = mic_failure }) = ap (λ (f : Facts). f.control.ends) p_is ∙ over.ends in
            record {
              central_goes_on = inl (ap (λ (f : Facts). f.control.ends) c_is ∙ parting_at.took.goes_on);
              peripheral_goes_on = inr (inr ended);
              opens = λ c_open p_open. absurd (let goes = open_goes_on p_heard p_open in let no = sym ended ∙ goes in cc);
            }
    parting_after false is =
        let c_is : c_heard ≡ c_at = unheard (ap (λ (b : Bool). b && replies) is) in
        let p_is : p_heard ≡ p_at = ap p_heard_if is in
        record {
          central_goes_on = inl (ap (λ (f : Facts). f.control.ends) c_is ∙ parting_at.took.goes_on);
          peripheral_goes_on = inl (ap (λ (f : Facts). f.control.ends) p_is ∙ parting_at.sent.goes_on);
          opens = λ c_open p_open. inr (subst (λ (f : Facts). ArePartingFrom central peripheral c_heard f) (sym p_is)
              (subst (λ (f : Facts). ArePartingFrom central peripheral f p_at) (sym c_is) parting_at));
        }

    pub parting_turn : AreAfterTurn
    parting_turn = parting_after heard_now refl

  -- ---- the link lasts at both ends before the turn

  module _ (whole : IsHeardWhole) (opened : IsOpenedThere) (ends : AreEnds central peripheral) (unmixed : IsUnmixed central peripheral slot given c p)
      (link : IsLastingLink central peripheral slot c p) (not_due : is_none (due_of peripheral p slot) ≡ true) where
    shows : Shows central peripheral slot false (link_of central peripheral link.linked.steps) c p
    shows = link.linked.shows (link.linked.lasts link.central_lasts link.peripheral_lasts)

    begun : HaveBegun central peripheral slot transmits_now listens_now c_at p_at
    begun =
        turn_begun central peripheral slot false transmits_now listens_now c p ends link.linked
        (may_exchange central slot slot c link.central_lasts shows.central_rests given.central_served)
        (may_exchange peripheral slot slot p link.peripheral_lasts shows.peripheral_rests given.peripheral_served) _ refl

    supervised : slot + 1 ≤ heard_turns peripheral p_at + 32768
    supervised =
        subst (λ (good : Option Reception). slot + 1 ≤ turns_at peripheral.opened good + 32768) (sym (prepared_hears peripheral slot listens_now p))
        (heard_in_time peripheral slot slot p shows.peripheral_rests not_due)

    c_lasts : is_lasting c_at ≡ true
    c_lasts = still_lasts c c_at (begun_ends_nothing central slot transmits_now c) link.central_lasts

    p_lasts : is_lasting p_at ≡ true
    p_lasts = still_lasts p p_at (prepared_ends_nothing peripheral slot listens_now p) link.peripheral_lasts

    both_begun : IsHeardNow → HaveBegun central peripheral slot true true c_at p_at
    both_begun now =
        subst (λ (b : Bool). HaveBegun central peripheral slot b true c_at p_at) now.transmits_in
        (subst (λ (b : Bool). HaveBegun central peripheral slot transmits_now b c_at p_at) now.listens_in begun)

    -- ---- what is heard is not read as another

    down_pure : heard_now ≡ true → is_mixed peripheral p_at sent_octets c_at.acknowledgement.last ≡ false
    down_pure is =
        let now = is_heard_now is in
        mixed_at_peripheral whole opened central peripheral (slot + 1) slot false c_at p_at _ sent_octets ends begun.linked c_lasts p_lasts
        (packet_of_central now.transmits_in) now.same (unmixed.down is)

    -- ---- they stay linked

    heard_linked : (hears_it : Bool) → heard_now ≡ hears_it → AreLinked central peripheral (slot + 1) (hears_it && replies) c_at (p_heard_if hears_it)
    heard_linked true is =
        let now = is_heard_now is in
        hears_linked whole central peripheral slot c_at p_at _ sent_octets given.peripheral_room ends (both_begun now)
        (packet_of_central now.transmits_in) now.same supervised (down_pure is)
    heard_linked false is = begun.linked

    answer_comes : IsAnswerHeard → AreLinked central peripheral (slot + 1) true c_at p_heard
    answer_comes now =
        subst (λ (b : Bool). AreLinked central peripheral (slot + 1) b c_at p_heard) (and_from heard_now replies now.heard_it now.replied)
        (heard_linked heard_now refl)

    central_past : heard_turns central c_at ≤ slot
    central_past =
        subst (λ (good : Option Reception). turns_at central.opened good ≤ slot) (sym (begun_hears central slot transmits_now c)) shows.central_rests.past

    central_entered : IsAnswerHeard → 1 ≤ c_at.control.track.entered
    central_entered now = (begun.transmits_in (is_heard_now now.heard_it).transmits_in).0

    up_pure : answer_heard ≡ true → is_lasting p_heard ≡ true → is_mixed central c_at answer_octets p_heard.acknowledgement.last ≡ false
    up_pure is lasts =
        let now = is_answer_heard_now is in
        mixed_at_central whole opened central peripheral (slot + 1) slot true c_at p_heard _ answer_octets ends (answer_comes now) c_lasts lasts
        (packet_of_peripheral now.heard_it now.replied) now.same_back (unmixed.up is)

    answer_linked : (hears_it : Bool) → answer_heard ≡ hears_it → is_lasting p_heard ≡ true
        → AreLinked central peripheral (slot + 1) false (c_heard_if hears_it) p_heard
    answer_linked true is lasts =
        let now = is_answer_heard_now is in
        hears whole central peripheral slot c_at p_heard _ answer_octets given.central_room ends (answer_comes now) central_past (central_entered now)
        (packet_of_peripheral now.heard_it now.replied) now.same_back (up_pure is lasts)
    answer_linked false is lasts = unanswered central peripheral (slot + 1) (heard_now && replies) c_at p_heard (heard_linked heard_now refl)

    -- ---- no procedure ends the link, but at a late peripheral

    late_at : (hears_it : Bool) → heard_now ≡ hears_it
        → ((p_heard_if hears_it).control.ends ≡ None)
        ⊎ (EndsForInstant c_at p_at (p_heard_if hears_it).control.ends ⊎ EndsForged peripheral p_at sent_octets (p_heard_if hears_it).control.ends)
    late_at true is =
        let now = is_heard_now is in
        peripheral_goes whole central peripheral slot c_at p_at _ sent_octets given.peripheral_room ends (both_begun now) c_lasts p_lasts
        (packet_of_central now.transmits_in) now.same supervised (down_pure is)
    late_at false is = inl (lasting_goes p_at p_lasts)

    -- the central hears the answer, while the link lasts at the peripheral
    central_by : (hears_it : Bool) → answer_heard ≡ hears_it → is_lasting p_heard ≡ true
        → ((c_heard_if hears_it).control.ends ≡ None) ⊎ HasHeardForged (c_heard_if hears_it)
    central_by true is lasts =
        let now = is_answer_heard_now is in
        by
        (central_goes whole central peripheral slot c_at p_heard _ answer_octets given.central_room ends (answer_comes now) c_lasts lasts central_past
        (central_entered now) (packet_of_peripheral now.heard_it now.replied) now.same_back (up_pure is lasts))
      where
        by : ((c_heard_if true).control.ends ≡ None) ⊎ EndsForged central c_at answer_octets (c_heard_if true).control.ends
            → ((c_heard_if true).control.ends ≡ None) ⊎ HasHeardForged (c_heard_if true)
        by (inl goes) = inl goes
        by (inr forged) = inr forged.1
    central_by false is lasts = inl (lasting_goes c_at c_lasts)

    -- ---- the central takes LL_TERMINATE_IND, or does not

    takes_by : (hears_it : Bool) → answer_heard ≡ hears_it → is_lasting p_heard ≡ true → is_some (c_heard_if hears_it).leaving.ended_by_peer ≡ true
        → ArePartingFrom central peripheral (c_heard_if hears_it) p_heard
    takes_by true is lasts took =
        let now = is_answer_heard_now is in
        central_took whole central peripheral ends slot c_at p_heard _ answer_octets given.central_room (answer_comes now) c_lasts lasts
        (packet_of_peripheral now.heard_it now.replied) now.same_back (up_pure is lasts) took
    takes_by false is lasts took = absurd (let none = lasting_took_none c_at c_lasts in let no = ap (λ (o : Option ErrCode). is_some o) none in cc)

    central_open : (took : Bool) → is_some c_heard.leaving.ended_by_peer ≡ took → is_lasting p_heard ≡ true → c_heard.control.ends ≡ None
        → AreOpenEnds central peripheral (slot + 1) c_heard p_heard
    central_open true is lasts goes = inr (takes_by answer_heard refl lasts is)
    central_open false is lasts goes =
        inl (record { central_lasts = lasting_by c_heard goes is; peripheral_lasts = lasts; linked = answer_linked answer_heard refl lasts })

    peripheral_lasting : is_lasting p_heard ≡ true → AreAfterTurn
    peripheral_lasting lasts =
        let goes = central_by answer_heard refl lasts in
        record {
          central_goes_on = goes;
          peripheral_goes_on = inl (lasting_goes p_heard lasts);
          opens = λ c_open p_open. central_open (is_some c_heard.leaving.ended_by_peer) refl lasts (open_goes_on c_heard c_open);
        }

    -- ---- the peripheral takes LL_TERMINATE_IND

    took_by : (hears_it : Bool) → heard_now ≡ hears_it → is_some (p_heard_if hears_it).leaving.ended_by_peer ≡ true
        → ArePartingFrom peripheral central (p_heard_if hears_it) c_at
    took_by true is took =
        let now = is_heard_now is in
        peripheral_took whole central peripheral ends slot c_at p_at _ sent_octets given.peripheral_room (both_begun now) c_lasts p_lasts
        (packet_of_central now.transmits_in) now.same (down_pure is) took
    took_by false is took = absurd (let none = lasting_took_none p_at p_lasts in let no = ap (λ (o : Option ErrCode). is_some o) none in cc)

    central_seen : (hears_it : Bool) → answer_heard ≡ hears_it → ArePartingFrom peripheral central p_heard c_at
        → ((c_heard_if hears_it).control.ends ≡ None) ⊎ HasHeardForged (c_heard_if hears_it)
    central_seen true is parting =
        let now = is_answer_heard_now is in
        let packet_now = packet_of_peripheral now.heard_it now.replied in
        let fields = sym ends.one_link.fields in
        let most = ends.central_max.to in
        let room = given.central_room in
        let pure = unmixed_parting whole peripheral central fields most p_heard c_at parting slot _ answer_octets packet_now now.same_back room opened (unmixed.up is) in
        by (is_forged central c_at answer_octets) refl
        (has_seen whole peripheral central fields most p_heard c_at parting slot _ answer_octets packet_now now.same_back room pure)
        (ends_forged whole peripheral central fields most p_heard c_at parting slot _ answer_octets packet_now now.same_back room)
      where
        by : (forged : Bool) → is_forged central c_at answer_octets ≡ forged
            → (is_forged central c_at answer_octets ≡ false → HasSeenTerminate p_heard.acknowledgement (c_heard_if true))
            → (is_forged central c_at answer_octets ≡ true → HearsForged central c_at slot answer_octets given.central_room)
            → ((c_heard_if true).control.ends ≡ None) ⊎ HasHeardForged (c_heard_if true)
        by false genuine has forged = inl (has genuine).goes_on
        by true wrong has forged = inr (forged wrong).ends
    central_seen false is parting = inl (lasting_goes c_at c_lasts)

    peripheral_taking : is_some p_heard.leaving.ended_by_peer ≡ true → AreAfterTurn
    peripheral_taking took =
        let parting = took_by heard_now refl took in
        record {
          central_goes_on = central_seen answer_heard refl parting;
          peripheral_goes_on = inl parting.took.goes_on;
          opens = λ c_open p_open.
              absurd (let ending = taker_ends peripheral central p_heard c_at parting (parting.answers ends.is_peripheral).answered in
              shut_by p_heard.leaving.ended_by_peer took (ap (λ (o : Option ErrCode). is_none o) (sym ending) ∙ p_open));
        }

    -- ---- the peripheral is late

    late_answers : (hears_it : Bool) (code : ErrCode) → heard_now ≡ hears_it → (p_heard_if hears_it).control.ends ≡ Some code → (hears_it && replies) ≡ false
    late_answers true code is ended =
        ended_no_reply peripheral slot sent_octets given.peripheral_room p_at code
        (sym (answered_ends peripheral slot sent_octets given.peripheral_room p_at) ∙ ended)
    late_answers false code is ended = refl

    late_in_event : (hears_it : Bool) → (p_heard_if hears_it).control.track.entered ≡ p_at.control.track.entered
    late_in_event true = answered_in_event peripheral slot sent_octets given.peripheral_room p_at
    late_in_event false = refl

    over_then : c_heard ≡ c_at → p_heard.control.track.entered ≡ p_at.control.track.entered
        → EndsForInstant c_at p_at p_heard.control.ends ⊎ EndsForged peripheral p_at sent_octets p_heard.control.ends
        → EndsForInstant c_heard p_heard p_heard.control.ends ⊎ HasHeardForged p_heard
    over_then c_is entered (inl late) = inl (late.0, (λ i. has_passed (last_change (c_is i).control.sent) (entered i - 1)) ∙ late.1)
    over_then c_is entered (inr forged) = inr forged.1

    peripheral_late : (code : ErrCode) → p_heard.control.ends ≡ Some code
        → EndsForInstant c_at p_at p_heard.control.ends ⊎ EndsForged peripheral p_at sent_octets p_heard.control.ends → AreAfterTurn
    peripheral_late code ended over =
        let c_is : c_heard ≡ c_at = unheard (late_answers heard_now code refl ended) in
        record {
          central_goes_on = inl (ap (λ (f : Facts). f.control.ends) c_is ∙ lasting_goes c_at c_lasts);
          peripheral_goes_on = inr (over_then c_is (late_in_event heard_now) over);
          opens = λ c_open p_open. absurd (let goes = open_goes_on p_heard p_open in let no = sym ended ∙ goes in cc);
        }

    -- ---- all cases

    by_terminate : (took : Bool) → is_some p_heard.leaving.ended_by_peer ≡ took → p_heard.control.ends ≡ None → AreAfterTurn
    by_terminate true is goes = peripheral_taking is
    by_terminate false is goes = peripheral_lasting (lasting_by p_heard goes is)

    by_late : ((p_heard.control.ends ≡ None)
        ⊎ (EndsForInstant c_at p_at p_heard.control.ends ⊎ EndsForged peripheral p_at sent_octets p_heard.control.ends)) → AreAfterTurn
    by_late (inl goes) = by_terminate (is_some p_heard.leaving.ended_by_peer) refl goes
    by_late (inr (inl late)) = peripheral_late _ late.0 (inl late)
    by_late (inr (inr forged)) = peripheral_late _ forged.1 (inr forged)

    pub lasting_turn : AreAfterTurn
    lasting_turn = by_late (late_at heard_now refl)
