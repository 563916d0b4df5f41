-- An end that hears LL_TERMINATE_IND of the other and takes it: what it holds then, and what the other holds.
use Rattle.std.proofs.Common.{◌≡◌, ◌⊎◌, ◌+◌, ◌≤◌, ◌<◌, ◌==◌, ◌&&◌, ◌||◌, ℕ, Bool, true, false, [], ◌∷◌, length, length-append, Option, None, is_some, refl, sym, ap, ◌∙◌, subst, arith, if◌then◌else◌}
use Rattle.std.proofs.lemmas.Bool.{and_parts, eq-eqb, eqb-false, eqb-true}
use Rattle.ble_base.specs.declared.error_codes.ErrCode.{ErrCode}
use Rattle.ble_base.specs.declared.roles.Role.{Role}
use Rattle.ble_base.specs.declared.roles.Role.TheVariants.{Central, Peripheral}
use Rattle.wire_fields.specs.Field.{little_endian}
use Rattle.data_pdu.specs.declared.ctrl.Ctrl.{Ctrl}
use Rattle.data_pdu.specs.declared.ctrl.Ctrl.TheVariants.{StartEncReq, TerminateInd}
use Rattle.data_pdu.specs.declared.ctrl.CtrlRead.{CtrlRead}
use Rattle.data_pdu.specs.declared.ctrl.CtrlRead.TheVariants.{Known}
use Rattle.data_pdu.specs.declared.header.DataHeader.{DataHeader}
use Rattle.control_octets.specs.procedure_values.declared.drafts.Outgoing.{Outgoing}
use Rattle.control_octets.specs.procedure_stages.Closing.{is_open}
use Rattle.control_octets.specs.procedure_stages.Queue.{QueueFacts}
use Rattle.joint_laws.specs.joint_controls.Joint.{Clear, Control as control_item, Data, Fixed, Item, OnAir, Taken, Way}
use Rattle.joint_laws.specs.joint_controls.phased_control.Phased.{is_quiet_now}
use Rattle.joint_laws.specs.joint_controls.phased_control.Taken.{Response, Takes, phased_after}
use Rattle.joint_keys.specs.Opening.{CanOpen}
use Rattle.joint_keys.proofs.NextPdus.{can_open_opened, is_settled}
use Rattle.joint_laws.specs.joint_controls.Joint.{is_terminate as ends_link}
use Rattle.link_model.specs.Acknowledgement.{Acknowledgement, Pdu, is_acked, received_by}
use Rattle.link_model.specs.Data.{Data as DataFacts, is_data, is_empty}
use Rattle.link_model.specs.OneLink.{AreInAgreement}
use Rattle.link_model.specs.Setup.{Setup}
use Rattle.link_model.specs.Controls.{is_procedure_pdu, is_terminate, next_control, pdu_fixed, pdu_of_control}
use Rattle.link_model.specs.Facts.{Encryption, Facts, keyed_of}
use Rattle.link_model.specs.phased_end.Taking.{drawn}
use Rattle.link_model.specs.keyed_control.KeyedSteps.{Takes as keyed_takes, keyed_after}
use Rattle.link_model.specs.declared.state.Leaving.{Leaving}
use Rattle.link_model.specs.Payload.{end_accepting, payload_made}
use Rattle.link_model.specs.enc_phase.Phases.{is_quiet, seals}
use Rattle.link_model.specs.enc_phase.Sealing.{EncEnd}
use Rattle.link_model.specs.Receiving.{accepted_if, acknowledged_if, answers_with_control, counts_accepted, data_taken_if, facts_hearing, heard_in_slot, procedures_take, procedures_take_if}
use Rattle.link_model.specs.Sending.{control_gone_if}
use Rattle.link_model.proofs.Fixing.{acked_control as acked_fixed}
use Rattle.link_pairs.specs.Ends.{phased_of}
use Rattle.link_pairs.specs.Parting.{HasFittingPdu, HasNothing, HasSentTerminate, IsOpenedOut, LacksKey, SendsNoControl}
use Rattle.link_pairs.specs.Ways.{IsControlPdu, IsUnseen, IsUntaken, ShowsWay}
use Rattle.link_pairs.proofs.Answering.{gone_same}
use Rattle.link_pairs.proofs.Counts.{HasBitsOf, Says, acknowledged_by, is_fresh, says_right, unseen_is_taken}
use Rattle.link_pairs.proofs.FixingNext.{fixed_by}
use Rattle.link_pairs.proofs.HeardCounts.{before, before_by_peer, before_nothing, before_payload, before_stays, heard_ack, hearing_agreed, takes, takes_fresh}
use Rattle.link_pairs.proofs.Items.{control_is_no_data, control_terminates, data_is_no_procedure, empty_is_no_procedure, never}
use Rattle.link_pairs.proofs.PhasedEnds.{takes_phased}
use Rattle.link_pairs.proofs.TakerSends.{AreToPart}
use Rattle.link_pairs.proofs.TakingNothing.{TakesNothing}
use Rattle.link_pairs.proofs.TakingPdus.{IsTakenBy, taken_same}
use Rattle.link_pairs.proofs.TakingTerminate.{takes_terminate}
use Rattle.link_pairs.proofs.TerminatesTaken.{HasTakenSo, same_end, takes_so}

-- ---- the PDU that is taken is a control PDU on its way

pub record HasControlOn (way : Way) (pdu : Pdu) : Type 0 where
  pub outgoing : Outgoing
  pub ctrl : Ctrl
  pub sealed : Bool
  pub way_is : way ≡ OnAir (control_item outgoing ctrl) sealed
  pub item : IsControlPdu ctrl pdu

or_other : (one other : Bool) → other ≡ false → (one || other) ≡ true → one ≡ true
or_other true other is holds = refl
or_other false other is holds = absurd (cc)

pub control_on : (way : Way) (from to : Acknowledgement) → ShowsWay way from to → is_acked from ≡ false → IsUntaken from to
    → is_procedure_pdu from.last ≡ true → HasControlOn way from.last
control_on Clear from to shown out untaken is =
    absurd (let none = empty_is_no_procedure from.last (or_other (is_empty from.last) (is_acked from) out shown) in
    let no_more = sym none ∙ is in cc)
control_on (Fixed item sealed) from to shown out untaken is = absurd shown
control_on (OnAir Data sealed) from to shown out untaken is =
    absurd (let none = data_is_no_procedure from.last shown.0 in let no_more = sym none ∙ is in cc)
control_on (OnAir (control_item outgoing ctrl) sealed) from to shown out untaken is =
    record { outgoing = outgoing; ctrl = ctrl; sealed = sealed; way_is = refl; item = shown.0 }
control_on (Taken item) from to shown out untaken is = absurd (unseen_is_taken from to shown.1 untaken)

-- an end that sent it, where it is LL_TERMINATE_IND, is to end the link, and sends no further one, unless it lacks its key
pub record HasSentSo (s : Facts) : Type 0 where
  pub over : SendsNoControl s.control.table ⊎ LacksKey (phased_of s)
  pub shut : is_open s.control.table.closing ≡ false

-- LL_TERMINATE_IND has two octets
terminate_short : (ctrl : Ctrl) (pdu : Pdu) → IsControlPdu ctrl pdu → ends_link ctrl ≡ true → length pdu.body ≤ 2
unfolding little_endian
terminate_short (TerminateInd code) pdu item is =
    let two : length pdu.body ≡ 2 = ap (λ (p : Pdu). length p.body) item.written_as in
    omega (arith, two)
terminate_short StartEncReq pdu item is = absurd (cc)
terminate_short ctrl pdu item is = absurd (cc)

-- ---- the end that takes it

pub data_leaves : (takes : Bool) (facts : Facts) → (data_taken_if takes facts).leaving ≡ facts.leaving
data_leaves true facts = refl
data_leaves false facts = refl

module _ (role : Role) (slot : ℕ) (room : Bool) (header : DataHeader) (pdu : Pdu) (facts : Facts) where
  abbrev pub now : Facts
  now = facts_hearing role slot room header pdu facts

  abbrev earlier : Facts
  earlier = before role slot room header pdu facts

  abbrev accepted : Bool
  accepted = takes role slot room header pdu facts

  abbrev given : Facts
  given = accepted_if accepted pdu earlier

  left : IsTakenBy given now
  left = taken_same (accepted && is_procedure_pdu pdu) (accepted && is_data pdu) pdu slot given

  outgoing_now : now.outgoing ≡ earlier.outgoing
  outgoing_now = left.outgoing

  abbrev acked : Facts
  acked = acknowledged_if (acknowledged_by facts.acknowledgement header) (heard_in_slot slot header.md facts)

  acked_same : acked.outgoing.fixed ≡ facts.outgoing.fixed
  acked_same = acked_fixed (acknowledged_by facts.acknowledgement header && is_data facts.acknowledgement.last) facts.outgoing

  -- a central has fixed what it had fixed before
  pub central_fixed : role ≡ Central → now.outgoing.fixed ≡ facts.outgoing.fixed
  central_fixed is =
      ap (λ (o : DataFacts). o.fixed) outgoing_now
      ∙ ap (λ (r : Role). (control_gone_if (answers_with_control r acked) slot acked).outgoing.fixed) is ∙ acked_same

  -- any end has fixed that, or a control PDU
  pub has_fixed_by : (P : Pdu → Type 0) → ((next : Option Ctrl) → P (pdu_of_control next)) → P facts.outgoing.fixed → P now.outgoing.fixed
  has_fixed_by P control other =
      subst (λ (o : DataFacts). P o.fixed) (sym outgoing_now)
      (fixed_by P (answers_with_control role acked) slot acked control (subst P (sym acked_same) other))

  -- where that is no control PDU, it sends the one that it had fixed
  pub fixed_none : facts.fixes_control ≡ false → role ≡ Peripheral → pdu_fixed now ≡ facts.outgoing.fixed
  fixed_none none is =
      let goes : answers_with_control role acked ≡ false =
      ap (λ (r : Role). answers_with_control r acked) is ∙ ap (λ (b : Bool). is_acked acked.acknowledgement && b) none ∙ never (is_acked acked.acknowledgement) in
      let earlier_is : earlier ≡ acked = ap (λ (b : Bool). control_gone_if b slot acked) goes in
      ap (λ (b : Bool). if b then pdu_of_control (next_control now) else now.outgoing.fixed)
      (left.fixes_control ∙ ap (λ (f : Facts). f.fixes_control) earlier_is ∙ none)
      ∙ ap (λ (o : DataFacts). o.fixed) (outgoing_now ∙ ap (λ (f : Facts). f.outgoing) earlier_is) ∙ acked_same

  pub payload_now : now.outgoing.payload ≡ facts.outgoing.payload
  payload_now = ap (λ (o : DataFacts). o.payload) outgoing_now ∙ before_payload role slot room header pdu facts

  pub last_now : now.acknowledgement.last ≡ facts.acknowledgement.last
  last_now = ap (λ (a : Acknowledgement). a.last) (heard_ack role slot room header pdu facts)

  pub fits_now : (other : Setup) (made : EncEnd) → HasFittingPdu other made facts → HasFittingPdu other made now
  fits_now other made fits =
      record {
        payload = payload_now ∙ fits.payload ∙ ap (payload_made made) (sym last_now);
        two_bits = subst (λ (p : Pdu). p.llid < 4) (sym last_now) fits.two_bits;
        short = subst (λ (p : Pdu). length p.body ≤ other.link.max_rx) (sym last_now) fits.short;
      }

  pub stays_now : facts.leaving.acknowledged ≡ false → (acknowledged_by facts.acknowledgement header && is_terminate facts.acknowledgement.last) ≡ false
      → now.leaving.acknowledged ≡ false
  stays_now stays none = left.acknowledged ∙ before_stays role slot room header pdu facts ∙ λ i. stays i || none i

  module _ (none : facts.leaving.ended_by_peer ≡ None) (ended : is_some now.leaving.ended_by_peer ≡ true) where
    none_before : earlier.leaving.ended_by_peer ≡ None
    none_before = before_by_peer role slot room header pdu facts ∙ none

    procedures_take_it : (accepted && is_procedure_pdu pdu) ≡ true
    procedures_take_it = by (accepted && is_procedure_pdu pdu) refl
      where
        by : (b : Bool) → (accepted && is_procedure_pdu pdu) ≡ b → (accepted && is_procedure_pdu pdu) ≡ true
        by true is = is
        by false is =
            absurd (let same =
            ap (λ (l : Leaving). is_some l.ended_by_peer)
            (data_leaves (accepted && is_data pdu) (procedures_take_if (accepted && is_procedure_pdu pdu) pdu slot given))
            ∙ ap (λ (b : Bool). is_some (procedures_take_if b pdu slot given).leaving.ended_by_peer) is ∙ ap (λ (o : Option ErrCode). is_some o) none_before in
            let never_some = sym same ∙ ended in cc)

    pub takes_it : accepted ≡ true
    takes_it = (and_parts accepted (is_procedure_pdu pdu) procedures_take_it).0

    pub is_procedure : is_procedure_pdu pdu ≡ true
    is_procedure = (and_parts accepted (is_procedure_pdu pdu) procedures_take_it).1

    pub is_new_now : is_fresh facts.acknowledgement header ≡ true
    is_new_now = takes_fresh role slot room header pdu facts takes_it

    -- in any phase
    module _ (ctrl : Ctrl) (item : IsControlPdu ctrl pdu) (lasts : facts.control.ends ≡ None)
        (kept : is_quiet_now (phased_of earlier) ≡ true → (phased_of earlier).kept ≡ None) where
      abbrev response : Response
      response = drawn earlier.encryption.response

      no_data : (accepted && is_data pdu) ≡ false
      no_data = ap (λ (b : Bool). accepted && b) (control_is_no_data ctrl pdu item) ∙ never accepted

      now_is : now ≡ procedures_take pdu slot given
      now_is = λ i. data_taken_if (no_data i) (procedures_take_if (procedures_take_it i) pdu slot given)

      pub ends : ends_link ctrl ≡ true
      ends = takes_terminate ctrl slot pdu given item.read_as none_before (ap (λ (f : Facts). is_some f.leaving.ended_by_peer) (sym now_is) ∙ ended)

      phased_now : phased_of now ≡ phased_after (Takes (Known ctrl) slot response) (phased_of earlier)
      phased_now =
          ap phased_of now_is ∙ takes_phased pdu slot given
          ∙ ap (λ (read : CtrlRead). phased_after (Takes read slot response) (phased_of earlier)) item.read_as

      pub before_took : TakesNothing facts.control earlier.control
      before_took = before_nothing role slot room header pdu facts

      pub taken_now : HasTakenSo (phased_of earlier) (phased_of now)
      taken_now =
          subst (HasTakenSo (phased_of earlier)) (sym phased_now)
          (takes_so ctrl ends slot response (phased_of earlier) (before_took.ends ∙ lasts) kept)

      -- its session goes on
      end_now : now.encryption.end ≡ end_accepting (counts_accepted accepted pdu) earlier.encryption.end
      end_now =
          ap (λ (f : Facts). f.encryption.end) now_is
          ∙ ap (λ (read : CtrlRead). (keyed_after (keyed_takes read slot response) (keyed_of given)).end) item.read_as
          ∙ same_end ctrl ends slot response (keyed_of given)

      can_accepting : (counts : Bool) (e listener : EncEnd) → CanOpen e listener → CanOpen (end_accepting counts e) listener
      can_accepting true e listener can = can_open_opened e listener can
      can_accepting false e listener can = can

      pub can_now : (listener : EncEnd) → CanOpen earlier.encryption.end listener → CanOpen now.encryption.end listener
      can_now listener can =
          subst (λ (e : EncEnd). CanOpen e listener) (sym end_now)
          (can_accepting (counts_accepted accepted pdu) earlier.encryption.end listener can)

      pub nothing_now : HasNothing (phased_of earlier) → HasNothing (phased_of now)
      nothing_now none =
          record {
            loud = ap is_quiet taken_now.phase ∙ none.loud;
            rejections = ap (λ (q : QueueFacts). q.rejections) taken_now.control.queue ∙ none.rejections;
            drafts = ap (λ (q : QueueFacts). q.drafts) taken_now.control.queue ∙ none.drafts;
          }

      key_accepting : (counts : Bool) (e : EncEnd) → (end_accepting counts e).key ≡ e.key
      key_accepting true e = refl
      key_accepting false e = refl

      -- where the packet acknowledges nothing its key is that of before
      pub key_now : acknowledged_by facts.acknowledgement header ≡ false → now.encryption.end.key ≡ facts.encryption.end.key
      key_now none =
          let seen = λ (acks : Bool). acknowledged_if acks (heard_in_slot slot header.md facts) in
          ap (λ (e : EncEnd). e.key) end_now ∙ key_accepting (counts_accepted accepted pdu) earlier.encryption.end
          ∙ ap (λ (e : Encryption). e.end.key) (gone_same (answers_with_control role acked) slot acked).encryption
          ∙ ap (λ (acks : Bool). (seen acks).encryption.end.key) none

-- ---- its counts and those of the other

module _ (to from : Acknowledgement) (acks fresh : Bool) (says : Says to from acks fresh) (agreed : AreInAgreement to from) where
  -- it takes the last PDU of the other, which is out
  pub unseen_then : is_acked from ≡ false → fresh ≡ true → (pdu : Pdu) → IsUnseen from (received_by acks true pdu to)
  unseen_then out is pdu =
      let other = eqb-false from.acked (length from.sent) out in
      let r = agreed.from_b.reliable in
      let one = r.one_at_a_time in
      let low = r.acked_is_accepted in
      let untaken = says.untaken is in
      let more = length-append to.accepted (pdu ∷ []) in
      record { taken = more ∙ untaken; unseen = omega (arith, other, one, low, untaken) }

  not_unseen : (acked : Bool) → acks ≡ acked → acked ≡ false → IsUnseen to from → ⊥
  not_unseen acked is none unseen = let sees = says.acknowledged unseen in absurd (cc)

  -- it knows what the other accepted to be acknowledged
  seen_by : (acked accepted : Bool) (pdu : Pdu) → acks ≡ acked → (received_by acked accepted pdu to).acked ≡ length from.accepted
  seen_by true accepted pdu is = let unseen = says.unseen is in let taken = unseen.taken in let last = unseen.unseen in omega (arith, taken, last)
  seen_by false accepted pdu is = by (length from.accepted == to.acked + 1) refl
    where
      by : (b : Bool) → (length from.accepted == to.acked + 1) ≡ b → to.acked ≡ length from.accepted
      by true one =
          let count = eqb-true (length from.accepted) (to.acked + 1) one in
          let r = agreed.from_a.reliable in
          let only = r.sent_only in
          let at_a_time = r.one_at_a_time in
          absurd (not_unseen false is refl (record { taken = omega (arith, count, only, at_a_time); unseen = omega (arith, count, only, at_a_time) }))
      by false one =
          let count = eqb-false (length from.accepted) (to.acked + 1) one in
          let r = agreed.from_a.reliable in
          let only = r.sent_only in
          let low = r.acked_is_accepted in
          let at_a_time = r.one_at_a_time in
          omega (arith, count, only, low, at_a_time)

  pub seen_then : (accepted : Bool) (pdu : Pdu) → (received_by acks accepted pdu to).acked ≡ length from.accepted
  seen_then accepted pdu = seen_by acks accepted pdu refl

-- ---- both ends

module _ (taker sender : Setup) (slot : ℕ) (room : Bool) (header : DataHeader) (t s : Facts) where
  -- a packet of the sender, with this header, reaches the taker before either end ended the link
  -- whose last PDU and that of the taker are on these ways
  pub record Meets (way other : Way) : Type 0 where
    pub agreement : AreInAgreement t.acknowledgement s.acknowledgement
    pub bits : HasBitsOf s.acknowledgement header
    pub out : is_acked s.acknowledgement ≡ false
    pub shown : ShowsWay way s.acknowledgement t.acknowledgement
    pub ends_none : (acknowledged_by t.acknowledgement header && is_terminate t.acknowledgement.last) ≡ false
    -- the taker
    pub goes_on : t.control.ends ≡ None
    pub took_none : t.leaving.ended_by_peer ≡ None
    pub stays : t.leaving.acknowledged ≡ false
    pub peer_receives : t.control.table.lengths.peer_rx ≤ sender.link.max_rx
    pub made : EncEnd
    pub fits : HasFittingPdu sender made t
    pub shown_back : ShowsWay other t.acknowledgement s.acknowledgement
    pub can : (item : Item) (sealed : Bool) → other ≡ OnAir item sealed → CanOpen made s.encryption.end
    pub key : (item : Item) (sealed : Bool) → other ≡ OnAir item sealed → seals made.role made.phase ≡ true → made.key ≡ t.encryption.end.key
    -- the sender
    pub sender_goes_on : s.control.ends ≡ None
    pub sender_took_none : s.leaving.ended_by_peer ≡ None
    pub sender_stays : s.leaving.acknowledged ≡ false
    pub sender_made : EncEnd
    pub sender_fits : HasFittingPdu taker sender_made s
    pub sends_so : (on : HasControlOn way s.acknowledgement.last) → ends_link on.ctrl ≡ true → HasSentSo s

  module _ (role : Role) (way other : Way) (m : Meets way other) where
    abbrev heard : Facts
    heard = facts_hearing role slot room header s.acknowledgement.last t

    abbrev earlier_then : Facts
    earlier_then = before role slot room header s.acknowledgement.last t

    abbrev acks : Bool
    acks = acknowledged_by t.acknowledgement header

    module _ (kept : is_quiet_now (phased_of earlier_then) ≡ true → (phased_of earlier_then).kept ≡ None)
        (ended : is_some heard.leaving.ended_by_peer ≡ true) where
      says : Says t.acknowledgement s.acknowledgement acks (is_fresh t.acknowledgement header)
      says = says_right t.acknowledgement s.acknowledgement m.agreement header m.bits m.out

      new : is_fresh t.acknowledgement header ≡ true
      new = is_new_now role slot room header s.acknowledgement.last t m.took_none ended

      on : HasControlOn way s.acknowledgement.last
      on =
          control_on way s.acknowledgement t.acknowledgement m.shown m.out (says.untaken new)
          (is_procedure role slot room header s.acknowledgement.last t m.took_none ended)

      ends_it : ends_link on.ctrl ≡ true
      ends_it = ends role slot room header s.acknowledgement.last t m.took_none ended on.ctrl on.item m.goes_on kept

      so : HasSentSo s
      so = m.sends_so on ends_it

      sent_last : HasSentTerminate taker s
      sent_last =
          record {
            goes_on = m.sender_goes_on;
            took_none = m.sender_took_none;
            stays = m.sender_stays;
            terminates = control_terminates on.ctrl s.acknowledgement.last on.item ∙ ends_it;
            two_octets = terminate_short on.ctrl s.acknowledgement.last on.item ends_it;
            shut = so.shut;
            sends_no_control = so.over;
            made = m.sender_made;
            fits = m.sender_fits;
          }

      took : HasTakenSo (phased_of earlier_then) (phased_of heard)
      took = taken_now role slot room header s.acknowledgement.last t m.took_none ended on.ctrl on.item m.goes_on kept

      nothing_before : TakesNothing t.control earlier_then.control
      nothing_before = before_took role slot room header s.acknowledgement.last t m.took_none ended on.ctrl on.item m.goes_on kept

      counts : heard.acknowledgement ≡ received_by acks true s.acknowledgement.last t.acknowledgement
      counts =
          heard_ack role slot room header s.acknowledgement.last t
          ∙ ap (λ (b : Bool). received_by acks b s.acknowledgement.last t.acknowledgement)
          (takes_it role slot room header s.acknowledgement.last t m.took_none ended)

      -- its own last PDU is out only where the packet does not acknowledge it
      all_acked : acks ≡ true → is_acked heard.acknowledgement ≡ true
      all_acked at =
          let unseen = (says.unseen at).unseen in
          ap is_acked (counts ∙ ap (λ (b : Bool). received_by b true s.acknowledgement.last t.acknowledgement) at)
          ∙ eq-eqb (t.acknowledgement.acked + 1) (length t.acknowledgement.sent) unseen

      acks_none : is_acked heard.acknowledgement ≡ false → acks ≡ false
      acks_none out = by acks refl
        where
          by : (b : Bool) → acks ≡ b → acks ≡ false
          by true at = absurd (let no = sym (all_acked at) ∙ out in cc)
          by false at = at

      out_before : is_acked heard.acknowledgement ≡ false → is_acked t.acknowledgement ≡ false
      out_before out =
          sym (ap is_acked (counts ∙ ap (λ (b : Bool). received_by b true s.acknowledgement.last t.acknowledgement) (acks_none out))) ∙ out

      seen_now : heard.acknowledgement.acked ≡ length s.acknowledgement.accepted
      seen_now =
          ap (λ (a : Acknowledgement). a.acked) counts
          ∙ seen_then t.acknowledgement s.acknowledgement acks (is_fresh t.acknowledgement header) says m.agreement true s.acknowledgement.last

      -- where it is acknowledged then, nothing of it is on its way
      pub settled_then : is_acked heard.acknowledgement ≡ true → is_settled other ≡ true
      settled_then all = by other m.shown_back
        where
          by : (w : Way) → ShowsWay w t.acknowledgement s.acknowledgement → is_settled w ≡ true
          by Clear shown = refl
          by (Fixed item sealed) shown = absurd shown
          by (OnAir item sealed) shown =
              absurd (let untaken = shown.1 in
              let sent : length heard.acknowledgement.sent ≡ length t.acknowledgement.sent = ap (λ (a : Acknowledgement). length a.sent) counts in
              let same = eqb-true heard.acknowledgement.acked (length heard.acknowledgement.sent) all in
              omega (arith, untaken, sent, same, seen_now))
          by (Taken item) shown = refl

      last_same : heard.acknowledgement.last ≡ t.acknowledgement.last
      last_same = last_now role slot room header s.acknowledgement.last t

      -- then it is on the air
      on_air : {A : Type 0} → is_acked heard.acknowledgement ≡ false → is_empty heard.acknowledgement.last ≡ false
          → ((item : Item) (sealed : Bool) → other ≡ OnAir item sealed → A) → A
      on_air out some then_so = by other m.shown_back then_so
        where
          by : {A : Type 0} → (w : Way) → ShowsWay w t.acknowledgement s.acknowledgement → ((item : Item) (sealed : Bool) → w ≡ OnAir item sealed → A) → A
          by Clear shown then_so =
              absurd (let no : (is_empty t.acknowledgement.last || is_acked t.acknowledgement) ≡ false =
              λ i. (ap is_empty (sym last_same) ∙ some) i || out_before out i in cc)
          by (Fixed item sealed) shown then_so = absurd shown
          by (OnAir item sealed) shown then_so = then_so item sealed refl
          by (Taken item) shown then_so = absurd (let no = sym (says.acknowledged shown.1) ∙ acks_none out in cc)

      pub last_opened : IsOpenedOut s.encryption.end m.made heard
      last_opened =
          record {
            can = λ out some. on_air out some m.can;
            key =
                λ out some does.
                on_air out some (λ item sealed at. m.key item sealed at does)
                ∙ sym (key_now role slot room header s.acknowledgement.last t m.took_none ended on.ctrl on.item m.goes_on kept (acks_none out));
          }

      -- the next one too, as its session was before
      pub can_heard : CanOpen earlier_then.encryption.end s.encryption.end → CanOpen heard.encryption.end s.encryption.end
      can_heard = can_now role slot room header s.acknowledgement.last t m.took_none ended on.ctrl on.item m.goes_on kept s.encryption.end

      pub nothing_heard : HasNothing (phased_of earlier_then) → HasNothing (phased_of heard)
      nothing_heard = nothing_now role slot room header s.acknowledgement.last t m.took_none ended on.ctrl on.item m.goes_on kept

      pub to_part : AreToPart taker sender heard s
      to_part =
          record {
            goes_on = took.control.ends;
            took = ended;
            stays = stays_now role slot room header s.acknowledgement.last t m.stays m.ends_none;
            closing = took.control.shut;
            peer_receives = subst (λ (n : ℕ). n ≤ sender.link.max_rx) (sym (took.control.peer_rx ∙ nothing_before.table.peer_rx)) m.peer_receives;
            made = m.made;
            fits = fits_now role slot room header s.acknowledgement.last t sender m.made m.fits;
            sent = sent_last;
            last = last_opened;
            agreement = hearing_agreed role slot room header t s.acknowledgement m.agreement m.bits m.out;
            unseen =
                subst (IsUnseen s.acknowledgement) (sym counts)
                (unseen_then t.acknowledgement s.acknowledgement acks (is_fresh t.acknowledgement header) says m.agreement m.out new
                s.acknowledgement.last);
            seen = seen_now;
          }
