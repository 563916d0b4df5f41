-- What an end does in the first phase of a turn after it fixed its PDU.
use Rattle.std.proofs.Common.{◌≡◌, ℕ, suc, ◌⊎◌, inl, inr, Bool, true, false, Option, Some, List, [], ◌∷◌, ◌++◌, fold, refl, sym, ap, subst, ◌∙◌, append_assoc, arith}
use Rattle.ble_base.specs.declared.roles.Role.TheVariants.{Central, Peripheral}
use Rattle.journal_controls.specs.controller_model.Facts.{Facts, Setup, first_facts}
use Rattle.journal_controls.specs.controller_model.Heard.{has_room}
use Rattle.journal_controls.specs.controller_model.Side.{facts_after}
use Rattle.journal_controls.specs.controller_model.Step.{HostOctet, TurnBegins, TurnEnds}
use Rattle.journal_controls.specs.controller_model.declared.doing.Doing.{Doing}
use Rattle.journal_controls.specs.controller_model.declared.doing.Doing.TheVariants.{Rests}
use Rattle.journal_controls.specs.TurnSteps.{first_if, steps_begun}
use Rattle.journal_controls.specs.journal_acks.link_calls.Phases.{HasPassed, IsNew, Stays, Takes, link_receiving, link_worded}
use Rattle.journal_controls.specs.journal_acks.link_calls.Turns.{sent_if}
use Rattle.journal_controls.specs.journal_acks.link_calls.Uses.{fixes_under, listens_under, sends_under}
use Rattle.journal_controls.specs.link_model.Controls.{goes_on}
use Rattle.journal_controls.specs.link_model.End.{facts_after as end_after, facts_of as end_facts}
use Rattle.journal_controls.specs.link_model.Facts.{Facts as EndFacts}
use Rattle.journal_controls.specs.link_model.Packets.{good_pdu}
use Rattle.journal_controls.specs.link_model.Setup.{Setup as EndSetup}
use Rattle.journal_controls.specs.link_model.Step.{Step, EventEntered, PacketReceived, PacketSent, PduFixed}
use Rattle.journal_controls.specs.journal_ends.open_links.OpenLinks.{OpenLink, facts_in, link_after, link_at}
use Rattle.journal_controls.specs.journal_ends.open_links.Turns.{enters_in}
use Rattle.journal_controls.specs.run_model.Feeding.{AreDistinct}
use Rattle.journal_controls.specs.run_model.History.{Event, past_of}
use Rattle.journal_controls.specs.run_model.Run.{Given, facts_at, history_of, run_of, setup_at, step_of}
use Rattle.journal_controls.proofs.CentralFixed.{IsFree, entered_free}
use Rattle.journal_controls.proofs.FixedEnds.{AreFixed, begun_past, fixed_first, fixed_kept, other_role, sends_replying}
use Rattle.journal_controls.proofs.Replies.{replies_as}
use Rattle.journal_controls.proofs.SendsAlike.{SendsAlike, receiving_alike}
use Rattle.journal_controls.proofs.journal_acks.Standing.{listener_role, listener_sends, sender_role}
use Rattle.journal_controls.proofs.journal_acks.link_calls.LinkCalls.{passes_under, turn_begun_under}
use Rattle.journal_controls.proofs.journal_acks.link_calls.RadioUses.{no_link}
use Rattle.journal_controls.proofs.journal_ends.WordedLinks.{worded_as, worded_good}
use Rattle.journal_controls.proofs.journal_ends.run_laws.TurnPlaces.{Between, IsTurned, Stage, stands_in_run, turned}
use Rattle.journal_controls.proofs.run_model.Stations.{is_in}
use Rattle.journal_fixing.specs.PastFixing.{facts_fixing, past_fixing}
use Rattle.journal_fixing.proofs.FixedPasts.{begun_past as past_begun, facts_begun, facts_more, fixing_begun, same_before}
use Rattle.journal_fixing.proofs.FixingLinks.{listens_uses, receiving_fixed, sends_uses, user_fixes, uses_on}
use Rattle.journal_fixing.proofs.GoingLinks.{receiving_setup}
use Rattle.journal_fixing.proofs.TellingMore.{TellsMore, answer_tells, fixed_tells}

-- by what it held then, of which no control PDU had left the queue
pub record IsSince (doing : Doing) (handle slot : ℕ) (link : OpenLink) : Type 0 where
  pub listens : listens_under handle doing ≡ true → link.setup.link.role ≡ Peripheral
      → let fixing = facts_fixing link.setup link.past in IsFree fixing × (facts_in link ≡ end_after link.setup fixing PduFixed)
  pub sends : sends_under handle doing ≡ true → link.setup.link.role ≡ Central
      → let fixing = facts_fixing link.setup link.past in
      IsFree fixing × (facts_in link ≡ end_after link.setup (end_after link.setup fixing PduFixed) (PacketSent slot))
  -- MD of the packet that it sent last
  pub tells : sends_under handle doing ≡ true → (one : OpenLink) (now : ℕ) → link ≡ link_after (PacketSent now) one
      → TellsMore (facts_fixing link.setup link.past) (facts_in one)

pub record AreSince (setup : Setup) (stage : Stage) (begun : ℕ) (facts : Facts) : Type 0 where
  pub fixed : AreFixed setup stage begun facts
  pub since : (handle : ℕ) (link : OpenLink) → link_at handle facts.links ≡ Some link → IsSince facts.turn.doing handle facts.turn.slot link

resting : (doing : Doing) (handle slot : ℕ) (link : OpenLink) → doing ≡ Rests → IsSince doing handle slot link
resting doing handle slot link rests = record {
  listens = λ on role. absurd (let h : true ≡ false = sym on ∙ ap (listens_under handle) rests in absurd cc);
  sends = λ on role. absurd (let h : true ≡ false = sym on ∙ ap (sends_under handle) rests in absurd cc);
  tells = λ on one now is. absurd (let h : true ≡ false = sym on ∙ ap (sends_under handle) rests in absurd cc);
}

entering_free : (enters : Bool) (slot : ℕ) (setup : EndSetup) (facts : EndFacts) → IsFree facts
    → IsFree (fold (end_after setup) facts (first_if enters (EventEntered slot) []))
entering_free true slot setup facts is = entered_free (goes_on facts) setup slot facts is
entering_free false slot setup facts is = is

-- the facts after a turn began, by those as the PDU was fixed
begun_facts : (setup : EndSetup) (past : List Step) (enters sends : Bool) (slot : ℕ)
    → end_facts setup (past ++ steps_begun enters true sends slot)
    ≡ fold (end_after setup) (end_after setup (facts_fixing setup (past ++ steps_begun enters true sends slot)) PduFixed) (first_if sends (PacketSent slot) [])
begun_facts setup past enters sends slot =
    facts_more setup past (steps_begun enters true sends slot) ∙ by enters (end_facts setup past)
    ∙ ap (λ f. fold (end_after setup) (end_after setup f PduFixed) (first_if sends (PacketSent slot) [])) (sym (facts_begun setup past enters sends slot))
  where
    by : (enters : Bool) (facts : EndFacts) → fold (end_after setup) facts (steps_begun enters true sends slot)
        ≡ fold (end_after setup) (end_after setup (fold (end_after setup) facts (first_if enters (EventEntered slot) [])) PduFixed) (first_if sends (PacketSent slot) [])
    by true facts = refl
    by false facts = refl

-- a link that used the radio as the turn began
module _ (base link : OpenLink) (enters fixes sends : Bool) (slot : ℕ) (setup_is : link.setup ≡ base.setup)
    (past_is : link.past ≡ base.past ++ steps_begun enters fixes sends slot) (fixing : fixes ≡ true) (free : IsFree (facts_in base)) where
  all_past : link.past ≡ base.past ++ steps_begun enters true sends slot
  all_past = past_is ∙ ap (λ b. base.past ++ steps_begun enters b sends slot) fixing

  fixed_then : facts_fixing link.setup link.past ≡ facts_fixing base.setup (base.past ++ steps_begun enters true sends slot)
  fixed_then = λ i. facts_fixing (setup_is i) (all_past i)

  free_then : IsFree (facts_fixing link.setup link.past)
  free_then = subst IsFree (sym (fixed_then ∙ facts_begun base.setup base.past enters sends slot)) (entering_free enters slot base.setup (facts_in base) free)

  since_then : facts_in link ≡ fold (end_after link.setup) (end_after link.setup (facts_fixing link.setup link.past) PduFixed) (first_if sends (PacketSent slot) [])
  since_then =
      (λ i. end_facts (setup_is i) (all_past i)) ∙ begun_facts base.setup base.past enters sends slot
      ∙ (λ i. fold (end_after (sym setup_is i)) (end_after (sym setup_is i) (sym fixed_then i) PduFixed) (first_if sends (PacketSent slot) []))

  -- before it sent
  sent_then : sends ≡ true → (one : OpenLink) (now : ℕ) → link ≡ link_after (PacketSent now) one
      → facts_in one ≡ end_after link.setup (facts_fixing link.setup link.past) PduFixed
  sent_then sending one now is =
      let entered = base.past ++ first_if enters (EventEntered slot) [] in
      let past : one.past ≡ entered ++ PduFixed ∷ [] =
      same_before one.past (entered ++ PduFixed ∷ []) (PacketSent now) (PacketSent slot)
      (ap (λ (l : OpenLink). l.past) (sym is) ∙ all_past ∙ past_begun base.past enters sends slot
      ∙ ap (λ b. entered ++ PduFixed ∷ first_if b (PacketSent slot) []) sending ∙ sym (append_assoc entered (PduFixed ∷ []) (PacketSent slot ∷ []))) in
      let setup : one.setup ≡ link.setup = ap (λ (l : OpenLink). l.setup) (sym is) in
      (λ i. end_facts (setup i) (past i)) ∙ facts_more link.setup entered (PduFixed ∷ [])
      ∙ ap (λ xs. end_after link.setup (end_facts link.setup xs) PduFixed) (sym (ap past_fixing all_past ∙ fixing_begun base.past enters sends slot))

  tells_then : sends ≡ true → (one : OpenLink) (now : ℕ) → link ≡ link_after (PacketSent now) one → TellsMore (facts_fixing link.setup link.past) (facts_in one)
  tells_then sending one now is =
      subst (TellsMore (facts_fixing link.setup link.past)) (sym (sent_then sending one now is)) (fixed_tells link.setup (facts_fixing link.setup link.past) free_then)

-- a peripheral that answers, in the phase in which it takes the packet
module _ (setup : Setup) (facts : Facts) (received : Option (List ℕ)) (handle : ℕ) (link : OpenLink)
    (were : (base : OpenLink) → link_at handle facts.links ≡ Some base → listens_under handle facts.turn.doing ≡ true → base.setup.link.role ≡ Peripheral
    → let fixing = facts_fixing base.setup base.past in IsFree fixing × (facts_in base ≡ end_after base.setup fixing PduFixed))
    (role : link.setup.link.role ≡ Peripheral) (on : sends_under handle (facts_after setup facts (step_of received)).turn.doing ≡ true) where
  abbrev doing : Doing
  doing = (facts_after setup facts (step_of received)).turn.doing

  abbrev room : Bool
  room = has_room setup facts

  abbrev slot : ℕ
  slot = facts.turn.slot

  passed_tells : HasPassed setup facts room received handle doing link → (one : OpenLink) (now : ℕ) → link ≡ link_after (PacketSent now) one
      → TellsMore (facts_fixing link.setup link.past) (facts_in one)
  passed_tells (IsNew end made opened off) one now is = absurd (let h : true ≡ false = sym (uses_on handle doing (sends_uses handle doing on)) ∙ off in absurd cc)
  passed_tells (Stays was none nothing listened) one now is = absurd (let h : true ≡ false = sym on ∙ none in absurd cc)
  passed_tells (Takes base octets was some listening same) one now is =
      let taken = link_receiving setup handle room octets facts base in
      let worded = link_worded setup facts facts.turn.doing base in
      let step = PacketReceived slot octets room in
      let role_is : base.setup.link.role ≡ Peripheral =
      sym (ap (λ (s : EndSetup). s.link.role) (ap (λ (l : OpenLink). l.setup) same ∙ receiving_setup (sends_under handle doing) setup handle room octets facts base)) ∙ role in
      let whole : link ≡ link_after (PacketSent slot) taken = same ∙ ap (λ b. sent_if b slot taken) on in
      let past : one.past ≡ taken.past = same_before one.past taken.past (PacketSent now) (PacketSent slot) (ap (λ (l : OpenLink). l.past) (sym is ∙ whole)) in
      let setup_one : one.setup ≡ taken.setup = ap (λ (l : OpenLink). l.setup) (sym is ∙ whole) in
      let facts_one : facts_in one ≡ facts_in taken = λ i. end_facts (setup_one i) (past i) in
      let held = facts_fixing base.setup base.past in
      let fixed = end_after base.setup held PduFixed in
      let was_fixed = were base was listening role_is in
      let reply = replies_as worded.setup (facts_in worded) slot octets room (sym (sends_replying setup facts received handle base octets was some listening) ∙ on) in
      let good = ap (λ f. good_pdu base.setup f octets) (sym was_fixed.1) ∙ sym (worded_good base worded (worded_as setup facts facts.turn.doing base) octets) ∙ reply.good in
      let alike : SendsAlike (facts_in one) (end_after base.setup fixed step) =
      subst (λ f. SendsAlike f (end_after base.setup fixed step)) (sym facts_one)
      (subst (λ f. SendsAlike (facts_in taken) (end_after base.setup f step)) was_fixed.1 (receiving_alike setup handle room octets facts base)) in
      let held_is : facts_fixing link.setup link.past ≡ held =
      ap (λ (l : OpenLink). facts_fixing l.setup l.past) same ∙ receiving_fixed (sends_under handle doing) setup handle room octets facts base in
      subst (λ f. TellsMore f (facts_in one)) (sym held_is) (answer_tells base.setup held slot octets reply.pdu room role_is was_fixed.0 good (facts_in one) alike)

pub since_kept : (setup : Setup) → IsTurned setup (AreSince setup)
since_kept setup = record {
  feeds = λ begun octet facts is.
      let fixed = (fixed_kept setup).feeds begun octet facts is.fixed in
      let next = facts_after setup facts (HostOctet octet) in
      record { fixed = fixed; since = λ handle link at. resting next.turn.doing handle next.turn.slot link fixed.phased.phase };
  begins = λ begun on facts is.
      let fixed = (fixed_kept setup).begins begun on facts is.fixed in
      let next = facts_after setup facts (TurnBegins begun on) in
      let doing = next.turn.doing in
      let slot_is : next.turn.slot ≡ begun = (let now = fixed.phased.uses.in_turn.slot_is in omega (arith, now)) in record {
        fixed = fixed;
        since = λ handle link at.
            let has = turn_begun_under setup facts begun on handle link at in
            let base = has.link in
            let enters = enters_in begun base in
            let fixes = fixes_under handle doing in
            let sends = sends_under handle doing in
            let past = has.past_is ∙ begun_past begun handle doing base in
            let free = is.fixed.free handle base has.was in
            let uses_fix = user_fixes handle next.links doing fixed.phased.phase in record {
              listens = λ listening role.
                  let fixing = uses_fix (listens_uses handle doing listening) in (
                    free_then base link enters fixes sends begun has.setup_is past fixing free,
                    since_then base link enters fixes sends begun has.setup_is past fixing free
                        ∙ ap (λ b. fold (end_after link.setup) (end_after link.setup (facts_fixing link.setup link.past) PduFixed) (first_if b (PacketSent begun) []))
                        (listener_sends handle doing listening),
                  );
              sends = λ sending role.
                  let fixing = uses_fix (sends_uses handle doing sending) in (
                    free_then base link enters fixes sends begun has.setup_is past fixing free,
                    since_then base link enters fixes sends begun has.setup_is past fixing free
                        ∙ (λ i. fold (end_after link.setup) (end_after link.setup (facts_fixing link.setup link.past) PduFixed) (first_if (sending i) (PacketSent (sym slot_is i)) [])),
                  );
              tells = λ sending one now is_one.
                  tells_then base link enters fixes sends begun has.setup_is past (uses_fix (sends_uses handle doing sending)) free sending one now is_one;
            };
      };
  passes = λ phases begun received facts is.
      let fixed = (fixed_kept setup).passes phases begun received facts is.fixed in
      let next = facts_after setup facts (step_of received) in record {
        fixed = fixed;
        since = λ handle link at. record {
          listens = λ on role. late_listens (suc phases) handle link role (listener_role (suc phases) next.links next.turn.doing handle link fixed.phased.phase on at) refl;
          sends = λ on role. late_sends (suc phases) handle link role (sender_role (suc phases) next.links next.turn.doing handle link fixed.phased.phase on at) refl;
          tells = λ on one now is_one.
              passed_tells setup facts received handle link (λ base was listening role. (is.since handle base was).listens listening role)
              (late_role (suc phases) link (sender_role (suc phases) next.links next.turn.doing handle link fixed.phased.phase on at) refl) on
              (passes_under setup facts received handle link is.fixed.phased.uses.in_turn.listens at) one now is_one;
        };
      };
  ends = λ begun facts is.
      let fixed = (fixed_kept setup).ends begun facts is.fixed in
      let next = facts_after setup facts TurnEnds in
      record { fixed = fixed; since = λ handle link at. resting next.turn.doing handle next.turn.slot link fixed.phased.phase };
}
  where
    late_listens : {X : Type 0} (phases handle : ℕ) (link : OpenLink) → link.setup.link.role ≡ Peripheral
        → ((phases ≡ 0) × (link.setup.link.role ≡ Peripheral)) ⊎ ((phases ≡ 1) × (link.setup.link.role ≡ Central)) → {before : ℕ} → phases ≡ suc before → X
    late_listens phases handle link role (inl first) is = absurd (let zero_is = first.0 in omega (arith, zero_is, is))
    late_listens {X} phases handle link role (inr later) is = other_role X link.setup.link.role later.1 role

    late_role : (phases : ℕ) (link : OpenLink) → ((phases ≡ 0) × (link.setup.link.role ≡ Central)) ⊎ ((phases ≡ 1) × (link.setup.link.role ≡ Peripheral)) → {before : ℕ} → phases ≡ suc before
        → link.setup.link.role ≡ Peripheral
    late_role phases link (inl first) is = absurd (let zero_is = first.0 in omega (arith, zero_is, is))
    late_role phases link (inr later) is = later.1

    late_sends : {X : Type 0} (phases handle : ℕ) (link : OpenLink) → link.setup.link.role ≡ Central
        → ((phases ≡ 0) × (link.setup.link.role ≡ Central)) ⊎ ((phases ≡ 1) × (link.setup.link.role ≡ Peripheral)) → {before : ℕ} → phases ≡ suc before → X
    late_sends phases handle link role (inl first) is = absurd (let zero_is = first.0 in omega (arith, zero_is, is))
    late_sends {X} phases handle link role (inr later) is = other_role X link.setup.link.role role later.1

pub since_first : (setup : Setup) → AreSince setup Between 0 (first_facts setup)
since_first setup = record { fixed = fixed_first setup; since = λ handle link at. no_link setup handle link _ at }

pub since_in : (given : Given) (before rest : List Event) (station handle : ℕ) (link : OpenLink) → AreDistinct given.stations → is_in station given.stations ≡ true
    → history_of (run_of given) ≡ before ++ rest → link_at handle (facts_at given station before).links ≡ Some link
    → let facts = facts_at given station before in IsSince facts.turn.doing handle facts.turn.slot link
since_in given before rest station handle link distinct in_it at is =
    let setup = setup_at given station in
    let past = past_of station before in
    let stands = stands_in_run given before rest station distinct in_it at in
    (turned setup (AreSince setup) (since_kept setup) past stands.at (since_first setup) stands.is).since handle link is
