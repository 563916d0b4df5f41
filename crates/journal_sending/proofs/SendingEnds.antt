-- What each end that sends holds in a turn, by what it held as it fixed its PDU in that turn.
use Rattle.std.proofs.Common.{◌≡◌, ℕ, suc, ◌⊎◌, inl, inr, Bool, true, false, Option, Some, List, [], ◌∷◌, ◌++◌, refl, sym, ap, subst, ◌∙◌, append_assoc, arith}
use Rattle.ble_base.specs.declared.roles.Role.TheVariants.{Central, Peripheral}
use Rattle.journal_leaving.specs.controller_model.Facts.{Facts, Setup, first_facts}
use Rattle.journal_leaving.specs.controller_model.Heard.{has_room}
use Rattle.journal_leaving.specs.controller_model.Side.{facts_after}
use Rattle.journal_leaving.specs.controller_model.Step.{HostOctet, TurnBegins, TurnEnds}
use Rattle.journal_leaving.specs.controller_model.declared.doing.Doing.{Doing}
use Rattle.journal_leaving.specs.controller_model.declared.doing.Doing.TheVariants.{Rests}
use Rattle.journal_leaving.specs.journal_acks.link_calls.Phases.{HasPassed, IsNew, Stays, Takes, link_receiving, link_worded}
use Rattle.journal_leaving.specs.journal_acks.link_calls.Turns.{sent_if}
use Rattle.journal_leaving.specs.journal_acks.link_calls.Uses.{fixes_under, listens_under, sends_under}
use Rattle.journal_leaving.specs.link_model.End.{facts_after as end_after, facts_of as end_facts}
use Rattle.journal_leaving.specs.link_model.Setup.{Setup as EndSetup}
use Rattle.journal_leaving.specs.link_model.Step.{Step, EventEntered, PacketReceived, PacketSent, PduFixed}
use Rattle.journal_leaving.specs.journal_data.open_links.OpenLinks.{OpenLink, facts_in, link_after, link_at}
use Rattle.journal_leaving.specs.journal_data.open_links.Turns.{enters_in}
use Rattle.journal_leaving.specs.run_model.Feeding.{AreDistinct}
use Rattle.journal_leaving.specs.run_model.History.{Event, past_of}
use Rattle.journal_leaving.specs.run_model.Run.{Given, facts_at, history_of, run_of, setup_at, step_of}
use Rattle.journal_leaving.proofs.journal_acks.Standing.{sender_role}
use Rattle.journal_leaving.proofs.journal_acks.link_calls.LinkCalls.{passes_under, turn_begun_under}
use Rattle.journal_leaving.proofs.journal_acks.link_calls.RadioUses.{no_link}
use Rattle.journal_leaving.proofs.journal_data.run_laws.Agreed.{step_facts}
use Rattle.journal_leaving.proofs.journal_data.run_laws.TurnPlaces.{Between, IsTurned, Stage, stands_in_run, turned}
use Rattle.journal_leaving.specs.link_model.Packets.{good_pdu}
use Rattle.journal_leaving.proofs.link_model.KnownEnds.{IsPast}
use Rattle.journal_leaving.proofs.run_model.Stations.{is_in}
use Rattle.journal_fixing.specs.PastFixing.{facts_fixing, past_fixing}
use Rattle.journal_fixing.specs.journal_controls.TurnSteps.{first_if, steps_begun}
use Rattle.journal_fixing.proofs.journal_controls.Replies.{replies_as}
use Rattle.journal_fixing.proofs.journal_controls.SendsAlike.{SendsAlike, receiving_alike}
use Rattle.journal_fixing.proofs.journal_controls.journal_ends.WordedLinks.{worded_as, worded_good}
use Rattle.journal_fixing.proofs.FixedPasts.{begun_past as past_begun, facts_more, fixing_begun, same_before}
use Rattle.journal_fixing.proofs.FixedSince.{AreSince, since_first, since_kept}
use Rattle.journal_fixing.proofs.FixingLinks.{receiving_fixed, sends_uses, user_fixes, uses_on}
use Rattle.journal_fixing.proofs.GoingLinks.{receiving_setup}
use Rattle.journal_fixing.proofs.journal_controls.CentralFixed.{IsFree}
use Rattle.journal_fixing.proofs.journal_controls.FixedEnds.{begun_past, sends_replying}
use Rattle.journal_sending.proofs.SameData.{HasSameData, received_same, same_then}
use Rattle.journal_sending.proofs.SendsNext.{SendsNext, fixed_sends, now_sends, same_fixed}

-- before it sent its packet
abbrev pub SentNext : Doing → ℕ → OpenLink → Type 0
SentNext doing handle link = sends_under handle doing ≡ true → (one : OpenLink) (now : ℕ) → link ≡ link_after (PacketSent now) one
    → SendsNext (facts_fixing link.setup link.past) (facts_in one)

pub record AreSending (setup : Setup) (stage : Stage) (begun : ℕ) (facts : Facts) : Type 0 where
  pub since : AreSince setup stage begun facts
  pub next : (handle : ℕ) (link : OpenLink) → link_at handle facts.links ≡ Some link → SentNext facts.turn.doing handle link

resting : (doing : Doing) (handle : ℕ) (link : OpenLink) → doing ≡ Rests → SentNext doing handle link
resting doing handle link rests = λ on one now is. absurd (let h : true ≡ false = sym on ∙ ap (sends_under handle) rests in absurd cc)

-- ---- a central that sends as its turn begins

module _ (base link : OpenLink) (enters fixes sends : Bool) (slot : ℕ) (setup_is : link.setup ≡ base.setup)
    (past_is : link.past ≡ base.past ++ steps_begun enters fixes sends slot) (fixing : fixes ≡ true) (sending : sends ≡ true) where
  abbrev entered : List Step
  entered = base.past ++ first_if enters (EventEntered slot) []

  all_past : link.past ≡ base.past ++ steps_begun enters true sends slot
  all_past = past_is ∙ ap (λ b. base.past ++ steps_begun enters b sends slot) fixing

  fixing_is : past_fixing link.past ≡ entered
  fixing_is = ap past_fixing all_past ∙ fixing_begun base.past enters sends slot

  sent_then : (one : OpenLink) (now : ℕ) → link ≡ link_after (PacketSent now) one → facts_in one ≡ end_after link.setup (facts_fixing link.setup link.past) PduFixed
  sent_then one now is =
      let past : one.past ≡ entered ++ PduFixed ∷ [] =
      same_before one.past (entered ++ PduFixed ∷ []) (PacketSent now) (PacketSent slot)
      (ap (λ (l : OpenLink). l.past) (sym is) ∙ all_past ∙ past_begun base.past enters sends slot
      ∙ ap (λ b. entered ++ PduFixed ∷ first_if b (PacketSent slot) []) sending ∙ sym (append_assoc entered (PduFixed ∷ []) (PacketSent slot ∷ []))) in
      let setup : one.setup ≡ link.setup = ap (λ (l : OpenLink). l.setup) (sym is) in
      (λ i. end_facts (setup i) (past i)) ∙ facts_more link.setup entered (PduFixed ∷ [])
      ∙ ap (λ xs. end_after link.setup (end_facts link.setup xs) PduFixed) (sym fixing_is)

-- ---- a peripheral that answers, in the phase in which it takes the packet

module _ (setup : Setup) (facts : Facts) (received : Option (List ℕ)) (handle : ℕ) (link : OpenLink)
    (were : (base : OpenLink) → link_at handle facts.links ≡ Some base → listens_under handle facts.turn.doing ≡ true → base.setup.link.role ≡ Peripheral
    → let fixing = facts_fixing base.setup base.past in IsFree fixing × (facts_in base ≡ end_after base.setup fixing PduFixed))
    (role : link.setup.link.role ≡ Peripheral) (on : sends_under handle (facts_after setup facts (step_of received)).turn.doing ≡ true) where
  abbrev doing : Doing
  doing = (facts_after setup facts (step_of received)).turn.doing

  abbrev room : Bool
  room = has_room setup facts

  abbrev slot : ℕ
  slot = facts.turn.slot

  passed_sends : HasPassed setup facts room received handle doing link → (one : OpenLink) (now : ℕ) → link ≡ link_after (PacketSent now) one
      → SendsNext (facts_fixing link.setup link.past) (facts_in one)
  passed_sends (IsNew end made opened off) one now is = absurd (let h : true ≡ false = sym (uses_on handle doing (sends_uses handle doing on)) ∙ off in absurd cc)
  passed_sends (Stays was none nothing listened) one now is = absurd (let h : true ≡ false = sym on ∙ none in absurd cc)
  passed_sends (Takes base octets was some listening same) one now is =
      let taken = link_receiving setup handle room octets facts base in
      let worded = link_worded setup facts facts.turn.doing base in
      let step = PacketReceived slot octets room in
      let heard = link_after step base in
      let role_is : base.setup.link.role ≡ Peripheral =
      sym (ap (λ (s : EndSetup). s.link.role) (ap (λ (l : OpenLink). l.setup) same ∙ receiving_setup (sends_under handle doing) setup handle room octets facts base)) ∙ role in
      let whole : link ≡ link_after (PacketSent slot) taken = same ∙ ap (λ b. sent_if b slot taken) on in
      let past : one.past ≡ taken.past = same_before one.past taken.past (PacketSent now) (PacketSent slot) (ap (λ (l : OpenLink). l.past) (sym is ∙ whole)) in
      let setup_one : one.setup ≡ taken.setup = ap (λ (l : OpenLink). l.setup) (sym is ∙ whole) in
      let facts_one : facts_in one ≡ facts_in taken = λ i. end_facts (setup_one i) (past i) in
      let held = facts_fixing base.setup base.past in
      let fixed = end_after base.setup held PduFixed in
      let was_fixed = were base was listening role_is in
      let reply = replies_as worded.setup (facts_in worded) slot octets room (sym (sends_replying setup facts received handle base octets was some listening) ∙ on) in
      let good = ap (λ f. good_pdu base.setup f octets) (sym was_fixed.1) ∙ sym (worded_good base worded (worded_as setup facts facts.turn.doing base) octets) ∙ reply.good in
      let fixing_past : IsPast base.setup held = record { past = past_fixing base.past; is = refl } in
      let facts_heard : facts_in heard ≡ end_after base.setup fixed step = step_facts base step ∙ ap (λ f. end_after base.setup f step) was_fixed.1 in
      let alike : SendsAlike (facts_in one) (end_after base.setup fixed step) =
      subst (λ f. SendsAlike f (end_after base.setup fixed step)) (sym facts_one)
      (subst (λ f. SendsAlike (facts_in taken) (end_after base.setup f step)) was_fixed.1 (receiving_alike setup handle room octets facts base)) in
      let held_is : facts_fixing link.setup link.past ≡ held =
      ap (λ (l : OpenLink). facts_fixing l.setup l.past) same ∙ receiving_fixed (sends_under handle doing) setup handle room octets facts base in
      let same_held : HasSameData (facts_in heard) held =
      same_then (facts_in heard) (facts_in base) held (received_same slot octets room base) (subst (λ f. HasSameData f held) (sym was_fixed.1) (same_fixed base)) in
      subst (λ f. SendsNext f (facts_in one)) (sym held_is)
      (now_sends base.setup held was_fixed.0 fixing_past role_is slot octets reply.pdu room good (subst (λ f. HasSameData f held) facts_heard same_held) (facts_in one) alike)

-- ---- each call

pub sending_kept : (setup : Setup) → IsTurned setup (AreSending setup)
sending_kept setup = record {
  feeds = λ begun octet facts is.
      let since = (since_kept setup).feeds begun octet facts is.since in
      record { since = since; next = λ handle link at. resting (facts_after setup facts (HostOctet octet)).turn.doing handle link since.fixed.phased.phase };
  begins = λ begun on facts is.
      let since = (since_kept setup).begins begun on facts is.since in
      let next = facts_after setup facts (TurnBegins begun on) in
      let doing = next.turn.doing in record {
        since = since;
        next = λ handle link at sending one now is_one.
            let phase = since.fixed.phased.phase in
            let has = turn_begun_under setup facts begun on handle link at in
            let base = has.link in
            let role = first_role 0 link (sender_role 0 next.links doing handle link phase sending at) refl in
            let facts_one = sent_then base link (enters_in begun base) (fixes_under handle doing) (sends_under handle doing) begun has.setup_is
            (has.past_is ∙ begun_past begun handle doing base) (user_fixes handle next.links doing phase (sends_uses handle doing sending)) sending one now is_one in
            subst (SendsNext (facts_fixing link.setup link.past)) (sym facts_one)
            (fixed_sends link.setup (facts_fixing link.setup link.past) ((since.since handle link at).sends sending role).0 (same_fixed link));
      };
  passes = λ phases begun received facts is.
      let since = (since_kept setup).passes phases begun received facts is.since in
      let next = facts_after setup facts (step_of received) in record {
        since = since;
        next = λ handle link at on one now is_one.
            passed_sends setup facts received handle link (λ base was listening role. (is.since.since handle base was).listens listening role)
            (late_role (suc phases) link (sender_role (suc phases) next.links next.turn.doing handle link since.fixed.phased.phase on at) refl) on
            (passes_under setup facts received handle link is.since.fixed.phased.uses.in_turn.listens at) one now is_one;
      };
  ends = λ begun facts is.
      let since = (since_kept setup).ends begun facts is.since in
      record { since = since; next = λ handle link at. resting (facts_after setup facts TurnEnds).turn.doing handle link since.fixed.phased.phase };
}
  where
    first_role : (phases : ℕ) (link : OpenLink) → ((phases ≡ 0) × (link.setup.link.role ≡ Central)) ⊎ ((phases ≡ 1) × (link.setup.link.role ≡ Peripheral)) → phases ≡ 0
        → link.setup.link.role ≡ Central
    first_role phases link (inl first) is = first.1
    first_role phases link (inr later) is = absurd (let one_is = later.0 in omega (arith, one_is, is))

    late_role : (phases : ℕ) (link : OpenLink) → ((phases ≡ 0) × (link.setup.link.role ≡ Central)) ⊎ ((phases ≡ 1) × (link.setup.link.role ≡ Peripheral)) → {before : ℕ} → phases ≡ suc before
        → link.setup.link.role ≡ Peripheral
    late_role phases link (inl first) is = absurd (let zero_is = first.0 in omega (arith, zero_is, is))
    late_role phases link (inr later) is = later.1

pub sending_first : (setup : Setup) → AreSending setup Between 0 (first_facts setup)
sending_first setup = record { since = since_first setup; next = λ handle link at. no_link setup handle link _ at }

-- at any time of a run
pub sends_next : (given : Given) (before rest : List Event) (station handle : ℕ) (link : OpenLink) → AreDistinct given.stations → is_in station given.stations ≡ true
    → history_of (run_of given) ≡ before ++ rest → link_at handle (facts_at given station before).links ≡ Some link
    → SentNext (facts_at given station before).turn.doing handle link
sends_next given before rest station handle link distinct in_it at is =
    let setup = setup_at given station in
    let past = past_of station before in
    let stands = stands_in_run given before rest station distinct in_it at in
    (turned setup (AreSending setup) (sending_kept setup) past stands.at (sending_first setup) stands.is).next handle link is
