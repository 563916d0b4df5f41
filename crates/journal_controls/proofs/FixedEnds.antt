-- What the open ends of a controller have fixed, at each place of a turn.
use Rattle.std.proofs.Common.{◌≡◌, ℕ, zero, suc, ◌⊎◌, inl, inr, Bool, true, false, not, Option, Some, None, is_none, List, [], ◌++◌, fold, if◌then◌else◌, refl, sym, ap, subst, ◌∙◌, append-nil, append_assoc, arith}
use Rattle.std.specs.Prelude.{IfSome, ◌||◌, nat_lt}
use Rattle.std.specs.Option.{option_map}
use Rattle.std.proofs.lemmas.Bool.{false_from_ne_true}
use Rattle.std.proofs.lemmas.List.Sums.{fold-append}
use Rattle.ble_base.specs.ErrorCodes.{terminated_by_local_host}
use Rattle.ble_base.specs.declared.error_codes.ErrCode.{ErrCode}
use Rattle.ble_base.specs.declared.roles.Role.{Role}
use Rattle.ble_base.specs.declared.roles.Role.TheVariants.{Central, Peripheral}
use Rattle.journal_ends.specs.controller_model.declared.doing.Doing.{Doing}
use Rattle.journal_ends.specs.controller_model.declared.doing.Doing.TheVariants.{Advertises, CentralListens, PeripheralListens, Rests}
use Rattle.journal_ends.specs.controller_model.Facts.{Setup, Facts, first_facts}
use Rattle.journal_ends.specs.controller_model.Heard.{has_room, replies_in, reply_if}
use Rattle.journal_ends.specs.controller_model.Outcome.{Outcome}
use Rattle.journal_ends.specs.controller_model.Side.{facts_after}
use Rattle.journal_ends.specs.controller_model.Step.{HostOctet, TurnBegins, TurnEnds}
use Rattle.journal_ends.proofs.controller_model.Asked.{IsAskedStep, asked_leaves_data}
use Rattle.journal_ends.specs.link_model.Data.{Data, is_control}
use Rattle.journal_ends.specs.link_model.Controls.{goes_on}
use Rattle.journal_ends.specs.link_model.End.{facts_after as end_after, facts_of as end_facts}
use Rattle.journal_ends.specs.link_model.Facts.{Facts as EndFacts, first_facts as first_end, keyed_of}
use Rattle.journal_ends.specs.link_model.Receiving.{has_ended, replies_of}
use Rattle.journal_ends.specs.link_model.Setup.{Setup as EndSetup}
use Rattle.journal_ends.specs.link_model.Step.{Step, DataGiven, DataReported, EventEntered, PacketReceived, PacketSent, PduFixed}
use Rattle.journal_ends.specs.link_model.Times.{ended_by_procedures, ending_of}
use Rattle.journal_ends.specs.link_model.declared.state.Leaving.{Leaving}
use Rattle.journal_ends.specs.journal_acks.link_calls.Hosts.{HasHeardHost, GetsData, IsAsked, Unchanged}
use Rattle.journal_ends.specs.journal_acks.link_calls.Phases.{HasPassed, IsNew, Stays, Takes, link_worded, refusal_at, refused_if}
use Rattle.journal_ends.specs.journal_acks.link_calls.Turns.{change_if, fixed_if, link_begun, sent_if}
use Rattle.journal_ends.specs.journal_acks.link_calls.Uses.{fixes_under, listens_under, sends_under}
use Rattle.journal_ends.specs.open_links.Data.{complete_in, link_reported}
use Rattle.journal_ends.specs.open_links.OpenLinks.{Links, OpenLink, facts_in, link_after, link_at, new_link}
use Rattle.journal_ends.specs.open_links.Turns.{ending_in, enters_in, entered_if}
use Rattle.journal_ends.specs.run_model.Feeding.{AreDistinct}
use Rattle.journal_ends.specs.run_model.History.{Event, past_of}
use Rattle.journal_ends.specs.run_model.Run.{Given, facts_at, history_of, run_of, setup_at, step_of}
use Rattle.journal_ends.proofs.GrownLinks.{IsRefusal, refusal_is, taken_grown}
use Rattle.journal_ends.proofs.WordedLinks.{facts_on, heard_on, worded_as, worded_at}
use Rattle.journal_ends.proofs.journal_acks.Standing.{listener_role, sender_role}
use Rattle.journal_ends.proofs.journal_acks.TwoStations.{same_number}
use Rattle.journal_ends.proofs.journal_acks.link_calls.HostSteps.{asked_is_well}
use Rattle.journal_ends.proofs.journal_acks.link_calls.LinkCalls.{passes_under, turn_begun_under}
use Rattle.journal_ends.proofs.journal_acks.link_calls.LinkPhases.{IsPhased, phased_first, phased_kept}
use Rattle.journal_ends.proofs.journal_acks.link_calls.RadioUses.{no_link}
use Rattle.journal_ends.proofs.journal_acks.link_calls.UnderHandles.{ended_under, host_under, reported_ends}
use Rattle.journal_ends.proofs.run_laws.Agreed.{step_facts}
use Rattle.journal_ends.proofs.run_laws.LinkPhases.{IsInPhase}
use Rattle.journal_ends.proofs.run_laws.TurnPlaces.{Between, IsTurned, Stage, Within, stands_in_run, turned}
use Rattle.journal_ends.proofs.run_model.Stations.{is_in}
use Rattle.journal_ends.proofs.link_model.Fixing.{given_control as given_free}
use Rattle.journal_controls.specs.KeyedLines.{has_next}
use Rattle.journal_controls.specs.TurnSteps.{first_if, steps_begun}
use Rattle.journal_controls.proofs.EndSteps.{good_leave}
use Rattle.journal_controls.proofs.CentralFixed.{IsFree, entered_free, fixed_free, past_free}
use Rattle.journal_controls.proofs.PeripheralFixed.{answer_leaves_none, fixes_next, silence_ends}
use Rattle.journal_controls.proofs.Refusing.{refused, refused_ended, refused_facts, refused_if_setup, refused_outgoing, refused_sends}
use Rattle.journal_controls.proofs.Replies.{replies_as}

-- ---- the past of a link as a turn begins

entered_past : (enters : Bool) (slot : ℕ) (link : OpenLink) → (entered_if enters slot link).past ≡ link.past ++ first_if enters (EventEntered slot) []
entered_past true slot link = refl
entered_past false slot link = sym (append-nil link.past)

changed_past : (changes : Bool) (step : Step) (link : OpenLink) → (change_if changes (link_after step) link).past ≡ link.past ++ first_if changes step []
changed_past true step link = refl
changed_past false step link = sym (append-nil link.past)

three_parts : (enters fixes sends : Bool) (slot : ℕ)
    → (first_if enters (EventEntered slot) [] ++ first_if fixes PduFixed []) ++ first_if sends (PacketSent slot) [] ≡ steps_begun enters fixes sends slot
three_parts true true true slot = refl
three_parts true true false slot = refl
three_parts true false true slot = refl
three_parts true false false slot = refl
three_parts false true true slot = refl
three_parts false true false slot = refl
three_parts false false true slot = refl
three_parts false false false slot = refl

pub begun_past : (slot handle : ℕ) (doing : Doing) (link : OpenLink)
    → (link_begun slot handle doing link).past ≡ link.past ++ steps_begun (enters_in slot link) (fixes_under handle doing) (sends_under handle doing) slot
begun_past slot handle doing link =
    let enters = enters_in slot link in
    let fixes = fixes_under handle doing in
    let sends = sends_under handle doing in
    let entered = entered_if enters slot link in
    let first = first_if enters (EventEntered slot) [] in
    let second = first_if fixes PduFixed [] in
    let third = first_if sends (PacketSent slot) [] in
    changed_past sends (PacketSent slot) (fixed_if fixes entered)
    ∙ ap (λ xs. xs ++ third) (changed_past fixes PduFixed entered ∙ ap (λ xs. xs ++ second) (entered_past enters slot link) ∙ append_assoc link.past first second)
    ∙ append_assoc link.past (first ++ second) third
    ∙ ap (λ xs. link.past ++ xs) (three_parts enters fixes sends slot)

-- the facts of a link to which more happened
pub grown_facts : (base after : OpenLink) (steps : List Step) → after.setup ≡ base.setup → after.past ≡ base.past ++ steps
    → facts_in after ≡ fold (end_after base.setup) (facts_in base) steps
unfolding end_facts
grown_facts base after steps setup past =
    (λ i. end_facts (setup i) (past i)) ∙ fold-append (end_after base.setup) (first_end base.setup) base.past steps

-- ---- what is kept

-- no control PDU that has left the queue is fixed, unless the end has ended the link in this turn
abbrev pub IsFixedSo : Stage → OpenLink → Type 0
IsFixedSo Between link = IsFree (facts_in link)
IsFixedSo (Within zero) link = IsFree (facts_in link)
IsFixedSo (Within (suc phases)) link = has_ended (facts_in link) ≡ false → IsFree (facts_in link)

-- a peripheral that listens has fixed a control PDU where one waits
abbrev pub FixesNext : Doing → ℕ → OpenLink → Type 0
FixesNext doing handle link = listens_under handle doing ≡ true → link.setup.link.role ≡ Peripheral → (facts_in link).fixes_control ≡ has_next (keyed_of (facts_in link))

pub record AreFixed (setup : Setup) (stage : Stage) (begun : ℕ) (facts : Facts) : Type 0 where
  pub phased : IsPhased setup stage begun facts
  pub free : (handle : ℕ) (link : OpenLink) → link_at handle facts.links ≡ Some link → IsFixedSo stage link
  pub fixes : (handle : ℕ) (link : OpenLink) → link_at handle facts.links ≡ Some link → FixesNext facts.turn.doing handle link

free_so : (stage : Stage) (link : OpenLink) → IsFree (facts_in link) → IsFixedSo stage link
free_so Between link is = is
free_so (Within zero) link is = is
free_so (Within (suc phases)) link is = λ goes. is

-- where it has not ended the link
pub so_free : (stage : Stage) (link : OpenLink) → IsFixedSo stage link → has_ended (facts_in link) ≡ false → IsFree (facts_in link)
so_free Between link is goes = is
so_free (Within zero) link is goes = is
so_free (Within (suc phases)) link is goes = is goes

-- that of a central
central_so : (stage : Stage) (link : OpenLink) → link.setup.link.role ≡ Central → IsFixedSo stage link
central_so stage link role = free_so stage link (past_free link.setup role link.past)

pub other_role : (X : Type 0) (role : Role) → role ≡ Central → role ≡ Peripheral → X
other_role X role is is_too = absurd (let h : Central ≡ Peripheral = sym is ∙ is_too in absurd cc)

-- ---- a host

pub given_facts : (start : Bool) (body : List ℕ) (base after : OpenLink) → after ≡ link_after (DataGiven start body) base
    → facts_in after ≡ end_after base.setup (facts_in base) (DataGiven start body)
given_facts start body base after is = ap facts_in is ∙ step_facts base (DataGiven start body)

asked_free : (step : Step) → IsAskedStep step → (base after : OpenLink) → after ≡ link_after step base → IsFree (facts_in base) → IsFree (facts_in after)
asked_free step by_host base after is free =
    ap (λ (f : EndFacts). is_control f.outgoing.fixed) (ap facts_in is ∙ step_facts base step)
    ∙ ap (λ (held : Data). is_control held.fixed) ((asked_leaves_data step by_host).outgoing base.setup (facts_in base)) ∙ free

host_free : (setup : Setup) (facts : Facts) (octet handle : ℕ) (after : OpenLink) → HasHeardHost setup facts octet handle after
    → ((link : OpenLink) → link_at handle facts.links ≡ Some link → IsFree (facts_in link)) → IsFree (facts_in after)
host_free setup facts octet handle after (Unchanged same) free = free after same
host_free setup facts octet handle after (GetsData link start body was is) free =
    subst IsFree (sym (given_facts start body link after is))
    (ap is_control (given_free link.setup.link.handle start body (facts_in link).outgoing) ∙ free link was)
host_free setup facts octet handle after (IsAsked link command step was accepted asks is) free =
    asked_free step (asked_is_well setup facts octet handle command link.setup.link.role (facts_in link).peer step accepted asks).by_host link after is (free link was)

-- ---- a turn begins

begins_free : (enters fixes : Bool) (slot : ℕ) (setup : EndSetup) (facts : EndFacts) → IsFree facts
    → IsFree (fold (end_after setup) facts (steps_begun enters fixes false slot))
begins_free true true slot setup facts is =
    let entered = end_after setup facts (EventEntered slot) in
    fixed_free (is_control entered.outgoing.fixed) entered (entered_free (goes_on facts) setup slot facts is)
begins_free true false slot setup facts is = entered_free (goes_on facts) setup slot facts is
begins_free false true slot setup facts is = fixed_free (is_control facts.outgoing.fixed) facts is
begins_free false false slot setup facts is = is

begins_fixes : (enters : Bool) (slot : ℕ) (setup : EndSetup) (facts : EndFacts) → IsFree facts
    → let now = fold (end_after setup) facts (steps_begun enters true false slot) in now.fixes_control ≡ has_next (keyed_of now)
begins_fixes true slot setup facts is =
    fixes_next setup (end_after setup facts (EventEntered slot)) (entered_free (goes_on facts) setup slot facts is)
begins_fixes false slot setup facts is = fixes_next setup facts is

listener_fixes : (handle : ℕ) (links : Links) (doing : Doing) → IsInPhase 0 links doing → listens_under handle doing ≡ true → fixes_under handle doing ≡ true
listener_fixes handle links (PeripheralListens other) is on = on
listener_fixes handle links (CentralListens other) is on = absurd (let same = is.0 in omega (arith, same))
listener_fixes handle links (Advertises channel) is on = absurd cc
listener_fixes handle links other is on = absurd cc

-- in the first phase no peripheral sends, and in the later ones none listens
no_sender : (handle : ℕ) (links : Links) (doing : Doing) (link : OpenLink) → IsInPhase 0 links doing → link_at handle links ≡ Some link
    → link.setup.link.role ≡ Peripheral → sends_under handle doing ≡ false
no_sender handle links doing link is at role = false_from_ne_true (sends_under handle doing) (λ on. by 0 refl (sender_role 0 links doing handle link is on at))
  where
    by : (phases : ℕ) → phases ≡ 0 → ((phases ≡ 0) × (link.setup.link.role ≡ Central)) ⊎ ((phases ≡ 1) × (link.setup.link.role ≡ Peripheral)) → ⊥
    by phases first (inl central) = other_role ⊥ link.setup.link.role central.1 role
    by phases first (inr later) = let same = later.0 in absurd (omega (arith, first, same))

pub first_listener : (X : Type 0) (phases handle : ℕ) (links : Links) (doing : Doing) (link : OpenLink) → IsInPhase phases links doing → listens_under handle doing ≡ true
    → link_at handle links ≡ Some link → link.setup.link.role ≡ Peripheral → (phases ≡ 0 → X) → X
first_listener X phases handle links doing link is on at role then_on = by (listener_role phases links doing handle link is on at)
  where
    by : ((phases ≡ 0) × (link.setup.link.role ≡ Peripheral)) ⊎ ((phases ≡ 1) × (link.setup.link.role ≡ Central)) → X
    by (inl first) = then_on first.0
    by (inr central) = other_role X link.setup.link.role central.1 role

-- ---- a phase passes

-- an end answers a packet exactly where it is to reply, with the words that it is given before
replied : (handle : ℕ) (replies : Bool) → sends_under handle (reply_if replies handle) ≡ replies
replied handle true = same_number handle
replied handle false = refl

pub sends_replying : (setup : Setup) (facts : Facts) (received : Option (List ℕ)) (handle : ℕ) (base : OpenLink) (octets : List ℕ) → link_at handle facts.links ≡ Some base
    → received ≡ Some octets → listens_under handle facts.turn.doing ≡ true → let worded = link_worded setup facts facts.turn.doing base in
    sends_under handle (facts_after setup facts (step_of received)).turn.doing ≡ replies_of worded.setup (facts_in worded) facts.turn.slot octets (has_room setup facts)
sends_replying setup facts received handle base octets was some on =
    let now = facts_on setup facts facts.turn.doing handle in
    let room = has_room setup facts in
    ap (λ may. sends_under handle (facts_after setup facts (step_of may)).turn.doing) some
    ∙ ap (λ (o : Outcome). sends_under handle o.next) (heard_on setup facts octets handle facts.turn.doing on)
    ∙ replied handle (replies_in facts.turn.slot room (link_at handle now.links) octets)
    ∙ ap (λ found. replies_in facts.turn.slot room found octets) (worded_at setup facts facts.turn.doing handle base was)

not_free : (b : Bool) → (b ≡ true → ⊥) → b ≡ false
not_free b none = false_from_ne_true b none

-- a peripheral that was free before a packet reached it, also where it answered a request in it at once
answered_free : (slot : ℕ) (octets : List ℕ) (room sends : Bool) (refusal : Option Step) (base after : OpenLink) → IfSome refusal IsRefusal → base.setup.link.role ≡ Peripheral
    → IsFree (facts_in base) → replies_of base.setup (facts_in base) slot octets room ≡ sends
    → after ≡ sent_if sends slot (refused_if refusal (link_after (PacketReceived slot octets room) base))
    → has_ended (facts_in after) ≡ false → IsFree (facts_in after)
answered_free slot octets room sends refusal base after answers role free replies is goes = by sends replies is
  where
    taken : OpenLink
    taken = link_after (PacketReceived slot octets room) base

    heard : EndFacts
    heard = end_after base.setup (facts_in base) (PacketReceived slot octets room)

    heard_is : facts_in taken ≡ heard
    heard_is = step_facts base (PacketReceived slot octets room)

    refused_is : facts_in (refused_if refusal taken) ≡ refused base.setup heard refusal
    refused_is = refused_facts refusal taken ∙ ap (λ (f : EndFacts). refused base.setup f refusal) heard_is

    by : (sends : Bool) → replies_of base.setup (facts_in base) slot octets room ≡ sends → after ≡ sent_if sends slot (refused_if refusal taken) → IsFree (facts_in after)
    by true replies is =
        subst IsFree (sym (ap facts_in is ∙ step_facts (refused_if refusal taken) (PacketSent slot)
        ∙ (λ i. end_after (refused_if_setup refusal taken i) (refused_is i) (PacketSent slot))))
        (refused_sends base.setup heard refusal slot answers (good_leave slot octets (replies_as base.setup (facts_in base) slot octets room replies).pdu room base.setup (facts_in base) role (replies_as base.setup (facts_in base) slot octets room replies).good)
        ∙ answer_leaves_none base.setup (facts_in base) slot slot octets room role free)
    by false replies is =
        let same = ap facts_in is ∙ refused_is in
        not_free (is_control (facts_in after).outgoing.fixed) (λ holds.
        let ended = silence_ends base.setup (facts_in base) slot octets room role free replies
        (sym (ap (λ (f : EndFacts). is_control f.outgoing.fixed) same ∙ ap (λ (d : Data). is_control d.fixed) (refused_outgoing base.setup heard refusal answers)) ∙ holds) in
        let h : true ≡ false = sym ended ∙ sym (ap has_ended same ∙ refused_ended base.setup heard refusal answers) ∙ goes in absurd cc)

new_free : (end : EndSetup) (link : OpenLink) → link ≡ new_link end → IsFree (facts_in link)
unfolding end_facts
new_free end link is = ap (λ (l : OpenLink). is_control (facts_in l).outgoing.fixed) is

module _ (setup : Setup) (facts : Facts) (received : Option (List ℕ)) (phases : ℕ) (phase : IsInPhase phases facts.links facts.turn.doing)
    (free : (handle : ℕ) (link : OpenLink) → link_at handle facts.links ≡ Some link → IsFixedSo (Within phases) link) where
  abbrev room : Bool
  room = has_room setup facts

  passed_free : (handle : ℕ) (after : OpenLink) → after.setup.link.role ≡ Peripheral
      → HasPassed setup facts room received handle (facts_after setup facts (step_of received)).turn.doing after → has_ended (facts_in after) ≡ false → IsFree (facts_in after)
  passed_free handle after role (IsNew end made opened off) goes = new_free end after made
  passed_free handle after role (Stays was none nothing listened) goes = so_free (Within phases) after (free handle after was) goes
  passed_free handle after role (Takes base octets was some on same) goes =
      let slot = facts.turn.slot in
      let doing = (facts_after setup facts (step_of received)).turn.doing in
      let sends = sends_under handle doing in
      let worded = link_worded setup facts facts.turn.doing base in
      let words = worded_as setup facts facts.turn.doing base in
      let grown = taken_grown sends handle room octets facts worded after same in
      let there : worded.setup.link.role ≡ Peripheral = ap (λ (s : EndSetup). s.link.role) (sym grown.setup_is) ∙ role in
      let own : base.setup.link.role ≡ Peripheral = ap (λ (s : EndSetup). s.link.role) (sym words.setup_is) ∙ there in
      first_listener (IsFree (facts_in after)) phases handle facts.links facts.turn.doing base phase on was own (λ first.
      answered_free slot octets room sends (refusal_at handle room octets facts worded) worded after (refusal_is handle room octets facts worded) there
      (ap (λ (f : EndFacts). is_control f.outgoing.fixed) words.facts_is ∙ subst (λ n. IsFixedSo (Within n) base) first (free handle base was))
      (sym (sends_replying setup facts received handle base octets was some on)) same goes)

  pub passes_free : (handle : ℕ) (after : OpenLink) → HasPassed setup facts room received handle (facts_after setup facts (step_of received)).turn.doing after
      → IsFixedSo (Within (suc phases)) after
  passes_free handle after passed = by after.setup.link.role refl
    where
      by : (role : Role) → after.setup.link.role ≡ role → IsFixedSo (Within (suc phases)) after
      by Central is = central_so (Within (suc phases)) after is
      by Peripheral is = λ goes. passed_free handle after is passed goes

-- ---- a turn ends

reason_none : (code : Option ErrCode) (leaving : Leaving) → ended_by_procedures code leaving ≡ None → code ≡ None
reason_none None leaving is = refl
reason_none (Some code) leaving is = absurd cc

abbrev ending_if : Bool → EndFacts → Option ErrCode
ending_if acked facts = if acked then Some (record { 0 = terminated_by_local_host }) else ended_by_procedures facts.control.ends facts.leaving

some_code : (code : ErrCode) → Some code ≡ None → ⊥
some_code code is = absurd cc

lasts : (acked : Bool) (facts : EndFacts) → facts.leaving.acknowledged ≡ acked → ending_of facts ≡ None → has_ended facts ≡ false
lasts true facts is none = absurd (some_code (record { 0 = terminated_by_local_host }) (sym (ap (λ b. ending_if b facts) is) ∙ none))
lasts false facts is none =
    let code = reason_none facts.control.ends facts.leaving (sym (ap (λ b. ending_if b facts) is) ∙ none) in
    λ i. not (is_none (code i)) || is i

no_reason : (ending : Option ErrCode) → option_map (λ (code : ErrCode). code.0) ending ≡ None → ending ≡ None
no_reason None is = refl
no_reason (Some code) is = absurd cc

reported_free : (link : OpenLink) → IsFree (facts_in link) → IsFree (facts_in (link_reported link))
reported_free link is = by (nat_lt 0 (complete_in link))
  where
    by : (reports : Bool) → IsFree (facts_in (if reports then link_after DataReported link else link))
    by true = ap (λ (f : EndFacts). is_control f.outgoing.fixed) (step_facts link DataReported) ∙ is
    by false = is

ended_free : (phases : ℕ) (link after : OpenLink) → after ≡ link_reported link → ending_in after ≡ None → IsFixedSo (Within phases) link → IsFree (facts_in after)
ended_free phases link after is stays free =
    let none = no_reason (ending_of (facts_in link)) (ap (option_map (λ (code : ErrCode). code.0)) (sym (ap (λ (l : OpenLink). ending_of (facts_in l)) is ∙ reported_ends link)) ∙ stays) in
    subst (λ l. IsFree (facts_in l)) (sym is)
    (reported_free link (so_free (Within phases) link free (lasts (facts_in link).leaving.acknowledged (facts_in link) refl none)))

-- ---- each call

resting : (handle : ℕ) (doing : Doing) (link : OpenLink) → doing ≡ Rests → FixesNext doing handle link
resting handle doing link rests on role = absurd (let h : true ≡ false = sym on ∙ ap (listens_under handle) rests in absurd cc)

pub fixed_kept : (setup : Setup) → IsTurned setup (AreFixed setup)
fixed_kept setup = record {
  feeds = λ begun octet facts is.
      let phased = (phased_kept setup).feeds begun octet facts is.phased in record {
        phased = phased;
        free = λ handle link at. host_free setup facts octet handle link (host_under setup facts octet handle link at) (is.free handle);
        fixes = λ handle link at. resting handle (facts_after setup facts (HostOctet octet)).turn.doing link phased.phase;
      };
  begins = λ begun on facts is.
      let phased = (phased_kept setup).begins begun on facts is.phased in
      let next = facts_after setup facts (TurnBegins begun on) in record {
        phased = phased;
        free = λ handle link at. by_role link (λ role.
            let has = turn_begun_under setup facts begun on handle link at in
            let doing = next.turn.doing in
            let none = no_sender handle next.links doing link phased.phase at role in
            let facts_are = grown_facts has.link link _ has.setup_is (has.past_is ∙ begun_past begun handle doing has.link) in
            subst IsFree (sym (facts_are ∙ ap (λ b. fold (end_after has.link.setup) (facts_in has.link) (steps_begun (enters_in begun has.link) (fixes_under handle doing) b begun)) none))
            (begins_free (enters_in begun has.link) (fixes_under handle doing) begun has.link.setup (facts_in has.link) (is.free handle has.link has.was)));
        fixes = λ handle link at listens role.
            let has = turn_begun_under setup facts begun on handle link at in
            let doing = next.turn.doing in
            let none = no_sender handle next.links doing link phased.phase at role in
            let fixes = listener_fixes handle next.links doing phased.phase listens in
            let facts_are = grown_facts has.link link _ has.setup_is (has.past_is ∙ begun_past begun handle doing has.link) in
            let same = facts_are ∙ (λ i. fold (end_after has.link.setup) (facts_in has.link) (steps_begun (enters_in begun has.link) (fixes i) (none i) begun)) in
            subst (λ (f : EndFacts). f.fixes_control ≡ has_next (keyed_of f)) (sym same)
            (begins_fixes (enters_in begun has.link) begun has.link.setup (facts_in has.link) (is.free handle has.link has.was));
      };
  passes = λ phases begun received facts is.
      let phased = (phased_kept setup).passes phases begun received facts is.phased in record {
        phased = phased;
        free = λ handle link at.
            passes_free setup facts received phases is.phased.phase is.free handle link (passes_under setup facts received handle link is.phased.uses.in_turn.listens at);
        fixes = λ handle link at listens role.
            let next = facts_after setup facts (step_of received) in
            first_listener ((facts_in link).fixes_control ≡ has_next (keyed_of (facts_in link))) (suc phases) handle next.links next.turn.doing link phased.phase listens at role
            (λ same. absurd (omega (arith, same)));
      };
  ends = λ begun facts is.
      let phased = (phased_kept setup).ends begun facts is.phased in record {
        phased = phased;
        free = λ handle link at.
            let has = ended_under setup facts handle link at in ended_free 3 has.link link has.is has.stays (is.free handle has.link has.was);
        fixes = λ handle link at. resting handle (facts_after setup facts TurnEnds).turn.doing link phased.phase;
      };
}
  where
    by_role : (link : OpenLink) → (link.setup.link.role ≡ Peripheral → IsFree (facts_in link)) → IsFree (facts_in link)
    by_role link peripheral = by link.setup.link.role refl
      where
        by : (role : Role) → link.setup.link.role ≡ role → IsFree (facts_in link)
        by Central is = past_free link.setup is link.past
        by Peripheral is = peripheral is

pub fixed_first : (setup : Setup) → AreFixed setup Between 0 (first_facts setup)
fixed_first setup = record {
  phased = phased_first setup;
  free = λ handle link at. no_link setup handle link _ at;
  fixes = λ handle link at. no_link setup handle link _ at;
}

-- ---- in a run

pub record IsFixedIn (given : Given) (before : List Event) (station handle : ℕ) (link : OpenLink) : Type 0 where
  pub free : has_ended (facts_in link) ≡ false → IsFree (facts_in link)
  pub fixes : FixesNext (facts_at given station before).turn.doing handle link

pub fixed_in : (given : Given) (before rest : List Event) (station handle : ℕ) (link : OpenLink) → AreDistinct given.stations → is_in station given.stations ≡ true
    → history_of (run_of given) ≡ before ++ rest → link_at handle (facts_at given station before).links ≡ Some link → IsFixedIn given before station handle link
fixed_in given before rest station handle link distinct in_it at is =
    let setup = setup_at given station in
    let past = past_of station before in
    let stands = stands_in_run given before rest station distinct in_it at in
    let are = turned setup (AreFixed setup) (fixed_kept setup) past stands.at (fixed_first setup) stands.is in record {
      free = so_free stands.at.stage link (are.free handle link is);
      fixes = are.fixes handle link is;
    }
