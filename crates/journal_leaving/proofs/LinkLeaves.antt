-- What a call on a controller does to how the end of one of its links is to leave it: it goes by the lines that the call adds
-- for the link, from what it was before the call, or as a packet reached the end, and by the packet that the end sends then.
use Rattle.std.proofs.Common.{◌≡◌, ℕ, Bool, true, false, Option, Some, None, List, [], ◌∷◌, ◌++◌, fold, map, refl, sym, ap, subst, ◌∙◌, append-nil, append_assoc}
use Rattle.std.specs.Prelude.{IfSome, nat_lt, if◌then◌else◌}
use Rattle.ble_base.specs.declared.roles.Role.{Role}
use Rattle.ble_base.specs.declared.roles.Role.TheVariants.{Central, Peripheral}
use Rattle.ble_base.specs.declared.roles.Side.{Side}
use Rattle.ble_base.specs.declared.verdicts.Verdict.{Verdict}
use Rattle.ble_base.specs.declared.verdicts.Verdict.TheVariants.{Broken, Forged, Good, Missed}
use Rattle.journal_controls.specs.Withheld.{Withheld, withheld_answer, withheld_by}
use Rattle.data_pdu.specs.Header.{header_in}
use Rattle.journal.specs.declared.entries.Entry.{Entry}
use Rattle.journal.specs.declared.entries.Entry.TheVariants.{Took}
use Rattle.journal_controls.specs.controller_model.Facts.{Setup, Facts}
use Rattle.journal_controls.specs.controller_model.declared.doing.Doing.{Doing}
use Rattle.journal_controls.specs.controller_model.declared.doing.Doing.TheVariants.{PeripheralListens}
use Rattle.journal_controls.specs.KeyedLines.{answer_by, keyed_by_all, steps_taking}
use Rattle.journal_controls.specs.LineSteps.{steps_said}
use Rattle.journal_controls.specs.controller_model.Side.{facts_after}
use Rattle.journal_controls.specs.controller_model.Step.{TurnBegins, TurnEnds}
use Rattle.journal_controls.specs.Hearing.{keyed_hearing, keyed_if}
use Rattle.journal_controls.specs.SaidLines.{moved_by}
use Rattle.journal_controls.specs.TurnSteps.{first_if, steps_begun}
use Rattle.journal_controls.specs.host_masks.Masks.{view_masks}
use Rattle.journal_controls.specs.journal_acks.link_calls.Phases.{base_receiving, link_worded, refusal_at}
use Rattle.journal_controls.specs.journal_acks.link_calls.Turns.{sent_if}
use Rattle.journal_controls.specs.journal_acks.link_calls.Uses.{fixes_under, sends_under}
use Rattle.journal_controls.specs.journal_links.LinkLines.{line_of}
use Rattle.journal_controls.specs.link_model.End.{facts_after as end_after, notes_after, notes_from}
use Rattle.journal_controls.specs.link_model.Facts.{Facts as EndFacts, keyed_of}
use Rattle.journal_controls.specs.link_model.Acknowledgement.{Pdu}
use Rattle.journal_controls.specs.link_model.Controls.{is_procedure_pdu, read_of}
use Rattle.journal_controls.specs.link_model.Packets.{good_pdu, verdict_of}
use Rattle.journal_controls.specs.link_model.Receiving.{accepts, code_of, facts_before_taking, leaving_by, replies_of}
use Rattle.journal_controls.specs.link_model.Setup.{Setup as EndSetup}
use Rattle.journal_controls.specs.link_model.Step.{Step, DataReported, PacketReceived, PacketSent, WordsGiven}
use Rattle.journal_controls.specs.link_model.Verdicts.{pdu_of}
use Rattle.journal_controls.specs.link_model.declared.state.Leaving.{Leaving}
use Rattle.journal_controls.specs.link_model.keyed_control.Keyed.{Keyed}
use Rattle.journal_controls.specs.link_model.keyed_control.declared.material.Response.{Response}
use Rattle.journal_controls.specs.link_model.phased_control.Taken.{role_now}
use Rattle.journal_controls.specs.link_model.phased_end.Held.{held_of as keyed_held}
use Rattle.journal_controls.specs.run_model.History.{is_good, is_handed}
use Rattle.journal_controls.specs.open_links.Data.{complete_in, link_reported}
use Rattle.journal_controls.specs.open_links.OpenLinks.{Links, OpenLink, facts_in, link_after, link_at}
use Rattle.journal_controls.specs.open_links.Turns.{enters_in}
use Rattle.journal_controls.proofs.AtCentral.{said_alike, taking_alike}
use Rattle.journal_controls.proofs.EndMoves.{KeepsRole, role_stays}
use Rattle.journal_controls.proofs.FixedEnds.{begun_past, grown_facts}
use Rattle.journal_controls.proofs.journal_acks.HandedOn.{forged_is}
use Rattle.journal_controls.proofs.journal_acks.link_calls.LinkCalls.{turn_begun_under}
use Rattle.journal_controls.proofs.journal_acks.link_calls.UnderHandles.{ended_under}
use Rattle.journal_controls.proofs.GivenAlike.{gives_alike}
use Rattle.journal_controls.proofs.GoodPackets.{good_has, good_keyed}
use Rattle.journal_controls.proofs.LinkMoves.{forged_after, taken_past, taken_setup, worded_hearing}
use Rattle.journal_controls.proofs.Refusing.{first_some, refused, refused_fold, refused_notes}
use Rattle.journal_controls.proofs.SendsAlike.{before_worded}
use Rattle.journal_controls.proofs.TakingLines.{answer_where, asked, keyed_answer}
use Rattle.journal_controls.proofs.journal_ends.GrownLinks.{IsRefusal, refusal_is}
use Rattle.journal_controls.proofs.journal_ends.WordedLinks.{IsWordedAs, with_response, worded_good, worded_verdict}
use Rattle.journal_controls.proofs.journal_ends.run_laws.Agreed.{step_facts}
use Rattle.journal_controls.proofs.link_model.Forging.{forged_facts, forged_notes, forged_reply}
use Rattle.journal_controls.proofs.link_model.KeyedSteps.{forged_none}
use Rattle.journal_leaving.specs.Hearing.{leaving_hearing}
use Rattle.journal_leaving.specs.Lacking.{leaving_refusing}
use Rattle.journal_leaving.specs.Leaving.{leaving_saying, leaving_sent_if}
use Rattle.journal_leaving.specs.Said.{leaving_noted, leaving_said}
use Rattle.journal_leaving.proofs.EndLeaving.{packet_refuses}
use Rattle.journal_leaving.proofs.LeavingRefused.{IsAtOnce, refusal_once, refused_leaves}
use Rattle.journal_leaving.proofs.TurnLeaving.{begins_by, noted_both, sends_by}

-- more happened to a link: the lines of it, and the packet that it sends then, make of what was what is
pub record LeavesTo (side : Side) (number : ℕ) (withheld : Withheld) (response : Response) (slot : ℕ) (base after : OpenLink) (sends : Bool) (from : Keyed) (was : Leaving) : Type 0 where
  pub setup_is : after.setup ≡ base.setup
  pub steps : List Step
  pub past_is : after.past ≡ base.past ++ steps
  pub leaves : leaving_sent_if sends (leaving_noted side number withheld response slot (notes_from base.setup (facts_in base) steps) from was) ≡ (facts_in after).leaving

-- so it is of the link that was under a handle
pub record HasLeft (side : Side) (number : ℕ) (withheld : Withheld) (response : Response) (slot : ℕ) (links : Links) (handle : ℕ) (after : OpenLink) (sends : Bool) : Type 0 where
  pub base : OpenLink
  pub was : link_at handle links ≡ Some base
  pub is : (from : Keyed) → LeavesTo side number withheld response slot base after sends from (facts_in base).leaving

module _ (side : Side) (number : ℕ) (withheld : Withheld) (response : Response) (slot : ℕ) where
  pub same_leaves : (link : OpenLink) (from : Keyed) → LeavesTo side number withheld response slot link link false from (facts_in link).leaving
  same_leaves link from = record { setup_is = refl; steps = []; past_is = sym (append-nil link.past); leaves = refl }

  -- ---- a turn ends

  reported_leaves : (link : OpenLink) (from : Keyed) → LeavesTo side number withheld response slot link (link_reported link) false from (facts_in link).leaving
  reported_leaves link from = by (nat_lt 0 (complete_in link))
    where
      by : (reports : Bool) → LeavesTo side number withheld response slot link (if reports then link_after DataReported link else link) false from (facts_in link).leaving
      by true = record {
        setup_is = refl;
        steps = DataReported ∷ [];
        past_is = refl;
        leaves = sym (ap (λ (f : EndFacts). f.leaving) (step_facts link DataReported));
      }
      by false = same_leaves link from

  pub end_leaves : (setup : Setup) (facts : Facts) (handle : ℕ) (after : OpenLink) → link_at handle (facts_after setup facts TurnEnds).links ≡ Some after
      → HasLeft side number withheld response slot facts.links handle after false
  end_leaves setup facts handle after at =
      let has = ended_under setup facts handle after at in record {
        base = has.link;
        was = has.was;
        is = λ from. subst (λ l. LeavesTo side number withheld response slot has.link l false from (facts_in has.link).leaving) (sym has.is) (reported_leaves has.link from);
      }

  -- ---- a turn begins

  pub begin_leaves : (setup : Setup) (facts : Facts) (on : Bool) (handle : ℕ) (after : OpenLink) → link_at handle (facts_after setup facts (TurnBegins slot on)).links ≡ Some after
      → HasLeft side number withheld response slot facts.links handle after (sends_under handle (facts_after setup facts (TurnBegins slot on)).turn.doing)
  begin_leaves setup facts on handle after at =
      let has = turn_begun_under setup facts slot on handle after at in
      let doing = (facts_after setup facts (TurnBegins slot on)).turn.doing in
      let base = has.link in
      let enters = enters_in slot base in
      let fixes = fixes_under handle doing in
      let sends = sends_under handle doing in
      let steps = steps_begun enters fixes sends slot in
      let past = has.past_is ∙ begun_past slot handle doing base in record {
        base = base;
        was = has.was;
        is = λ from. record {
          setup_is = has.setup_is;
          steps = steps;
          past_is = past;
          leaves = sym (ap (λ (f : EndFacts). f.leaving) (grown_facts base after steps has.setup_is past)
              ∙ begins_by side number withheld response slot base.setup enters fixes sends (facts_in base) from);
        };
      }

-- ---- a packet is taken

module _ (side : Side) (number : ℕ) (facts : Facts) (handle : ℕ) (room : Bool) (octets pdu : List ℕ) (base : OpenLink)
    (good : good_pdu base.setup (facts_in base) octets ≡ Some pdu) where
  abbrev slot : ℕ
  slot = facts.turn.slot

  abbrev setup : EndSetup
  setup = base.setup

  abbrev end : EndFacts
  end = facts_in base

  abbrev withheld : Withheld
  withheld = withheld_by (view_masks facts.view)

  abbrev response : Response
  response = end.encryption.response

  abbrev took : Step
  took = PacketReceived slot octets room

  abbrev now : EndFacts
  now = end_after setup end took

  abbrev sending : Bool → List Step
  sending sends = first_if sends (PacketSent slot) []

  -- by the steps that follow
  abbrev later : Option Step → Bool → List Step
  later refusal sends = first_some refusal (sending sends)

  abbrev from : Keyed
  from = keyed_hearing setup.link.role slot (good_pdu setup end octets) end

  abbrev was : Leaving
  was = leaving_hearing setup.link.role slot (good_pdu setup end octets) end

  -- what the PDU does, and the answer at once to a request in it
  first_leaves : (refusal : Option Step) → refusal_at handle room octets facts base ≡ refusal → IfSome refusal (IsAtOnce slot)
      → leaving_noted side number withheld response slot (notes_after setup end took) from was ≡ (refused setup now refusal).leaving
  first_leaves refusal is once =
      let before = facts_before_taking setup.link.role slot (header_in pdu) end in
      let same : answer_where (accepts room (header_in pdu) (pdu_of pdu) before) (answer_by withheld response slot (keyed_of before) (pdu_of pdu)) ≡ keyed_answer refusal =
      sym (asked facts.view handle slot room setup end octets pdu good) ∙ ap keyed_answer is in
      packet_refuses side number withheld slot room setup end octets pdu good
      ∙ ap (λ answer. leaving_refusing slot (keyed_of now) answer now.leaving) same
      ∙ refused_leaves setup now slot refusal once

  later_leaves : (refusal : Option Step) (sends : Bool) (k : Keyed) → IfSome refusal IsRefusal
      → (fold (end_after setup) now (later refusal sends)).leaving
      ≡ leaving_sent_if sends (leaving_noted side number withheld response slot (notes_from setup now (later refusal sends)) k (refused setup now refusal).leaving)
  later_leaves refusal sends k is =
      let next = refused setup now refusal in
      ap (λ (f : EndFacts). f.leaving) (refused_fold setup now refusal (sending sends))
      ∙ sends_by side number withheld response slot setup sends next k
      ∙ (λ i. leaving_sent_if sends (leaving_noted side number withheld response slot (sym (refused_notes setup now refusal (sending sends) is) i) k next.leaving))

  all_leaves : (refusal : Option Step) (sends : Bool) → refusal_at handle room octets facts base ≡ refusal → IfSome refusal IsRefusal → IfSome refusal (IsAtOnce slot)
      → leaving_sent_if sends (leaving_noted side number withheld response slot (notes_from setup end (took ∷ later refusal sends)) from was)
      ≡ (fold (end_after setup) end (took ∷ later refusal sends)).leaving
  all_leaves refusal sends at is once =
      let here = notes_after setup end took in
      let more = notes_from setup now (later refusal sends) in
      let k = moved_by withheld response slot (map (line_of side number) here) from in
      ap (leaving_sent_if sends) (noted_both side number withheld response slot here more from was)
      ∙ ap (λ l. leaving_sent_if sends (leaving_noted side number withheld response slot more k l)) (first_leaves refusal at once)
      ∙ sym (later_leaves refusal sends k is)

  pub taken_leaves : (sends : Bool) (after : OpenLink) → after ≡ sent_if sends slot (base_receiving handle room octets facts base)
      → LeavesTo side number withheld response slot base after sends from was
  taken_leaves sends after is =
      let refusal = refusal_at handle room octets facts base in
      let setups = ap (λ (l : OpenLink). l.setup) is ∙ taken_setup refusal sends slot (link_after took base) in
      let past = ap (λ (l : OpenLink). l.past) is ∙ taken_past refusal sends slot octets room base in record {
        setup_is = setups;
        steps = took ∷ later refusal sends;
        past_is = past;
        leaves = all_leaves refusal sends refl (refusal_is handle room octets facts base) (refusal_once handle room octets facts base)
            ∙ sym (ap (λ (f : EndFacts). f.leaving) (grown_facts base after (took ∷ later refusal sends) setups past));
      }

-- a forged packet leaves how it is to leave
module _ (side : Side) (number : ℕ) (withheld : Withheld) (response : Response) (facts : Facts) (handle : ℕ) (room : Bool) (octets : List ℕ) (base : OpenLink)
    (forged : verdict_of base.setup (facts_in base) octets ≡ Forged) where
  pub forged_leaves : (sends : Bool) (after : OpenLink) → sends ≡ replies_of base.setup (facts_in base) facts.turn.slot octets room
      → after ≡ sent_if sends facts.turn.slot (base_receiving handle room octets facts base)
      → (from : Keyed) → LeavesTo side number withheld response facts.turn.slot base after sends from (facts_in base).leaving
  forged_leaves sends after replies is from =
      let slot = facts.turn.slot in
      let end = facts_in base in
      let took = PacketReceived slot octets room in
      let none = replies ∙ forged_reply base.setup end slot octets room forged in
      let after_is = forged_after side number withheld response facts handle room octets base forged sends after replies is in record {
        setup_is = ap (λ (l : OpenLink). l.setup) after_is;
        steps = took ∷ [];
        past_is = ap (λ (l : OpenLink). l.past) after_is;
        leaves = (λ i. leaving_sent_if (none i) (leaving_noted side number withheld response slot (forged_notes base.setup end slot octets room forged i ++ []) from end.leaving))
            ∙ sym (ap (λ (f : EndFacts). f.leaving)
            (ap (λ (l : OpenLink). facts_in l) after_is ∙ step_facts base took ∙ forged_facts base.setup end slot octets room forged));
      }

-- ---- with the words that it was given before

module _ (side : Side) (number : ℕ) (withheld : Withheld) (slot : ℕ) where
  given_leaves : (response : Response) (skd_s iv_s : ℕ) (link after : OpenLink) (sends : Bool) (from : Keyed) (was : Leaving)
      → LeavesTo side number withheld response slot (link_after (WordsGiven skd_s iv_s) link) after sends from was → LeavesTo side number withheld response slot link after sends from was
  given_leaves response skd_s iv_s link after sends from was is =
      let step = WordsGiven skd_s iv_s in record {
        setup_is = is.setup_is;
        steps = step ∷ is.steps;
        past_is = is.past_is ∙ append_assoc link.past (step ∷ []) is.steps;
        leaves = ap (λ (f : EndFacts). leaving_sent_if sends (leaving_noted side number withheld response slot (notes_from link.setup f is.steps) from was)) (sym (step_facts link step))
            ∙ is.leaves;
      }

  pub worded_leaves : (response : Response) (setup : Setup) (facts : Facts) (doing : Doing) (link after : OpenLink) (sends : Bool) (from : Keyed) (was : Leaving)
      → LeavesTo side number withheld response slot (link_worded setup facts doing link) after sends from was → LeavesTo side number withheld response slot link after sends from was
  worded_leaves drawn s f (PeripheralListens handle) link after sends k l is = given_leaves drawn _ _ link after sends k l is
  worded_leaves drawn s f doing link after sends k l is = is

  -- what a central would draw changes nothing
  steps_alike : (one other : Response) (pdu : Pdu) (k : Keyed) → role_now k.phased ≡ Central
      → keyed_by_all (steps_taking one slot pdu) k ≡ keyed_by_all (steps_taking other slot pdu) k
  steps_alike one other pdu k is =
      ap (λ xs. keyed_by_all xs k) (sym (append-nil (steps_taking one slot pdu)))
      ∙ taking_alike withheld one other slot pdu [] k is
      ∙ ap (λ xs. keyed_by_all xs k) (append-nil (steps_taking other slot pdu))

  saying_alike : (one other : Response) (line : Entry) (k : Keyed) (l : Leaving) → role_now k.phased ≡ Central
      → leaving_saying withheld one slot (Some k) l line ≡ leaving_saying withheld other slot (Some k) l line
  saying_alike one other (Took side link count llid body) k l is =
      let pdu : Pdu = record { llid = llid; body = body } in
      let given = gives_alike slot one other (read_of pdu) (keyed_held k) in
      let procedure = is_procedure_pdu pdu in
      λ i. leaving_refusing slot (steps_alike one other pdu k is i) (if procedure then withheld_answer withheld (given i) else None)
      (if procedure then leaving_by (code_of (given i).taken.effect) l else l)
  saying_alike one other line k l is = refl

  leaving_alike : (one other : Response) (lines : List Entry) (k : Keyed) (l : Leaving) → KeepsRole Central k
      → leaving_said withheld one slot lines k l ≡ leaving_said withheld other slot lines k l
  leaving_alike one other [] k l keeps = refl
  leaving_alike one other (line ∷ lines) k l keeps =
      (λ i. leaving_said withheld one slot lines (said_alike withheld one other slot line k (keeps []) i) (saying_alike one other line k l (keeps []) i))
      ∙ leaving_alike one other lines (keyed_by_all (steps_said withheld other slot k line) k) (leaving_saying withheld other slot (Some k) l line)
      (role_stays Central k (steps_said withheld other slot k line) keeps)

  pub redrawn : (one other : Response) (base after : OpenLink) (sends : Bool) (from : Keyed) (was : Leaving) → KeepsRole base.setup.link.role from
      → (base.setup.link.role ≡ Peripheral → one ≡ other)
      → LeavesTo side number withheld one slot base after sends from was → LeavesTo side number withheld other slot base after sends from was
  redrawn one other base after sends from was keeps same is = record {
    setup_is = is.setup_is;
    steps = is.steps;
    past_is = is.past_is;
    leaves = ap (leaving_sent_if sends) (by base.setup.link.role refl) ∙ is.leaves;
  }
    where
      by : (role : Role) → base.setup.link.role ≡ role
          → leaving_noted side number withheld other slot (notes_from base.setup (facts_in base) is.steps) from was
          ≡ leaving_noted side number withheld one slot (notes_from base.setup (facts_in base) is.steps) from was
      by Central central =
          leaving_alike other one (map (line_of side number) (notes_from base.setup (facts_in base) is.steps)) from was (subst (λ r. KeepsRole r from) central keeps)
      by Peripheral peripheral =
          ap (λ response. leaving_noted side number withheld response slot (notes_from base.setup (facts_in base) is.steps) from was) (sym (same peripheral))

-- as a packet reaches it, it is to leave as it would without them
pub leaving_still : (role : Role) (slot : ℕ) (pdu : Option (List ℕ)) (response : Response) (facts : EndFacts)
    → leaving_hearing role slot pdu (with_response response facts) ≡ leaving_hearing role slot pdu facts
leaving_still role at None drawn facts = refl
leaving_still role at (Some pdu) drawn facts = ap (λ (f : EndFacts). f.leaving) (before_worded role at (header_in pdu) drawn facts)

pub worded_leaving : (link base : OpenLink) → IsWordedAs link base → (slot : ℕ) (octets : List ℕ)
    → leaving_hearing base.setup.link.role slot (good_pdu base.setup (facts_in base) octets) (facts_in base)
    ≡ leaving_hearing link.setup.link.role slot (good_pdu link.setup (facts_in link) octets) (facts_in link)
worded_leaving link base is slot octets =
    (λ i. leaving_hearing (is.setup_is i).link.role slot (worded_good link base is octets i) (is.facts_is i))
    ∙ leaving_still link.setup.link.role slot (good_pdu link.setup (facts_in link) octets) is.response (facts_in link)

-- a packet that a link takes is good or forged
module _ (side : Side) (number : ℕ) (facts : Facts) (handle : ℕ) (room : Bool) (octets : List ℕ) (link base : OpenLink) (words : IsWordedAs link base) where
  abbrev DoesLeave : Bool → OpenLink → Keyed → Leaving → Type 0
  DoesLeave sends after k l =
      LeavesTo side number (withheld_by (view_masks facts.view)) (facts_in base).encryption.response facts.turn.slot base after sends k l

  pub taken_as : (sends : Bool) (after : OpenLink) → sends ≡ replies_of base.setup (facts_in base) facts.turn.slot octets room
      → after ≡ sent_if sends facts.turn.slot (base_receiving handle room octets facts base)
      → (verdict : Verdict) → verdict_of link.setup (facts_in link) octets ≡ verdict → is_handed verdict ≡ true
      → DoesLeave sends after (keyed_if true facts.turn.slot octets link)
      (leaving_hearing link.setup.link.role facts.turn.slot (good_pdu link.setup (facts_in link) octets) (facts_in link))
  taken_as sends after replies is Good judged handed =
      let slot = facts.turn.slot in
      let end = facts_in link in
      let has = good_has link.setup end octets (ap is_good judged) in
      let k = worded_hearing link base words slot octets ∙ (λ i. keyed_hearing link.setup.link.role slot (has.is i) end) ∙ sym (good_keyed slot octets has.pdu link has.is) in
      let there = taken_leaves side number facts handle room octets has.pdu base (worded_good link base words octets ∙ has.is) sends after is in
      subst (DoesLeave sends after (keyed_if true slot octets link)) (worded_leaving link base words slot octets)
      (subst (λ x. DoesLeave sends after x (leaving_hearing base.setup.link.role slot (good_pdu base.setup (facts_in base) octets) (facts_in base))) k there)
  taken_as sends after replies is Forged judged handed =
      let slot = facts.turn.slot in
      let end = facts_in link in
      let none = forged_none link.setup end octets (forged_is link.setup end octets judged) in
      subst (DoesLeave sends after (keyed_if true slot octets link))
      (ap (λ (f : EndFacts). f.leaving) words.facts_is ∙ (λ i. leaving_hearing link.setup.link.role slot (sym none i) end))
      (forged_leaves side number (withheld_by (view_masks facts.view)) (facts_in base).encryption.response facts handle room octets base (worded_verdict link base words octets ∙ judged)
      sends after replies is (keyed_if true slot octets link))
  taken_as sends after replies is Missed judged handed = absurd cc
  taken_as sends after replies is Broken judged handed = absurd cc
