-- What a call on a controller does to an end of one of its links: it goes by the lines that the call adds for the link, from
-- what it was before the call, or as a packet reached it.
use Rattle.std.proofs.Common.{◌≡◌, ℕ, Bool, true, false, Option, Some, None, List, [], ◌∷◌, ◌++◌, fold, map, refl, sym, ap, subst, ◌∙◌, append-nil, append_assoc}
use Rattle.std.specs.Prelude.{IfSome, nat_lt, if◌then◌else◌}
use Rattle.ble_base.specs.declared.notes.Note.{Note}
use Rattle.ble_base.specs.declared.notes.Note.TheVariants.{Enter}
use Rattle.ble_base.specs.declared.procedure_kinds.Kind.{Kind}
use Rattle.ble_base.specs.declared.roles.Role.{Role}
use Rattle.ble_base.specs.declared.roles.Role.TheVariants.{Central, Peripheral}
use Rattle.ble_base.specs.declared.roles.Side.{Side}
use Rattle.ble_base.specs.declared.verdicts.Verdict.{Verdict}
use Rattle.ble_base.specs.declared.verdicts.Verdict.TheVariants.{Broken, Forged, Good, Missed}
use Rattle.journal_ends.specs.controller_model.Heard.{or_refusal, refusal_of}
use Rattle.journal_ends.specs.controller_model.Facts.{Setup, Facts}
use Rattle.journal_ends.specs.controller_model.Side.{facts_after}
use Rattle.journal_ends.specs.controller_model.Step.{TurnBegins, TurnEnds}
use Rattle.journal_ends.specs.controller_model.declared.doing.Doing.{Doing}
use Rattle.journal_ends.specs.controller_model.declared.doing.Doing.TheVariants.{PeripheralListens}
use Rattle.data_pdu.specs.Header.{header_in}
use Rattle.host_masks.specs.Masks.{view_masks}
use Rattle.journal_ends.specs.journal_acks.link_calls.Phases.{base_receiving, link_worded, refusal_at, refused_if}
use Rattle.journal_ends.specs.journal_acks.link_calls.Turns.{sent_if}
use Rattle.journal_ends.specs.journal_acks.link_calls.Uses.{fixes_under, sends_under}
use Rattle.journal_ends.specs.journal_links.LinkLines.{line_of}
use Rattle.journal_ends.specs.link_model.Acknowledgement.{Pdu}
use Rattle.journal_ends.specs.link_model.Controls.{goes_on, is_quiet_now}
use Rattle.journal_ends.specs.link_model.End.{facts_after as end_after, notes_after, notes_from}
use Rattle.journal_ends.specs.link_model.Entering.{began_notes, done_notes, event_notes, facts_entered}
use Rattle.journal_ends.specs.link_model.Events.{applied_notes}
use Rattle.journal_ends.specs.link_model.Facts.{Facts as EndFacts, keyed_of}
use Rattle.journal_ends.specs.link_model.Packets.{good_pdu, verdict_of}
use Rattle.journal_ends.specs.link_model.Receiving.{accepts, acknowledged_if, facts_before_taking, facts_received, has_acknowledged, has_ended, heard_in_slot, kept_effect_of, kept_effect_received, received_notes, replies_by, replies_of}
use Rattle.journal_ends.specs.link_model.Sending.{control_gone_if, sent_notes_if, takes_leave}
use Rattle.journal_ends.specs.link_model.Setup.{Setup as EndSetup}
use Rattle.journal_ends.specs.link_model.Step.{Step, DataReported, EventEntered, KeyAnswered, PacketReceived, PacketSent, PduFixed, RequestAnswered, WordsGiven}
use Rattle.journal_ends.specs.link_model.Verdicts.{pdu_of}
use Rattle.journal_ends.specs.link_model.control_end.Answers.{entry_of}
use Rattle.journal_ends.specs.link_model.control_end.Held.{held_of}
use Rattle.journal_ends.specs.link_model.control_end.declared.answers.Entry.{Entry}
use Rattle.journal_ends.specs.link_model.declared.events.ConnectionEvent.{ConnectionEvent}
use Rattle.journal_ends.specs.link_model.keyed_control.Keyed.{Keyed}
use Rattle.journal_ends.specs.link_model.keyed_control.declared.material.Response.{Response}
use Rattle.journal_ends.specs.link_model.procedure_stages.declared.steps.Effect.TheVariants.{Nothing}
use Rattle.journal_ends.specs.run_model.History.{is_good, is_handed}
use Rattle.journal_ends.specs.open_links.Data.{complete_in, link_reported}
use Rattle.journal_ends.specs.open_links.OpenLinks.{Links, OpenLink, facts_in, link_after, link_at}
use Rattle.journal_ends.specs.open_links.Turns.{enters_in}
use Rattle.journal_ends.proofs.journal_acks.HandedOn.{forged_is}
use Rattle.journal_ends.proofs.journal_acks.link_calls.LinkCalls.{turn_begun_under}
use Rattle.journal_ends.proofs.journal_acks.link_calls.UnderHandles.{ended_under}
use Rattle.journal_ends.proofs.GrownLinks.{IsRefusal, refusal_is}
use Rattle.journal_ends.proofs.WordedLinks.{IsWordedAs, with_response, worded_good, worded_verdict}
use Rattle.journal_ends.proofs.link_model.Forging.{forged_effect, forged_facts, forged_notes, forged_reply}
use Rattle.journal_ends.proofs.link_model.KeyedPasts.{past_in_phase}
use Rattle.journal_ends.proofs.link_model.KeyedSteps.{forged_none, one_step}
use Rattle.journal_ends.proofs.run_laws.Agreed.{step_facts}
use Rattle.journal_controls.specs.Hearing.{keyed_hearing, keyed_if}
use Rattle.journal_controls.specs.KeyedLines.{answer_by, does_some, keyed_by_all, keyed_forged}
use Rattle.journal_controls.specs.SaidLines.{moved_by}
use Rattle.journal_controls.specs.Withheld.{Withheld, withheld_by}
use Rattle.journal_controls.specs.TurnSteps.{first_if, steps_begun}
use Rattle.journal_controls.proofs.EndMoves.{KeepsRole, NoneRefuses, moved_noted, past_keeps, refuse_both, role_stays}
use Rattle.journal_controls.proofs.EndSteps.{good_leave, received_is}
use Rattle.journal_controls.proofs.FixedEnds.{begun_past, grown_facts}
use Rattle.journal_controls.proofs.GoodPackets.{forged_keyed, good_has, good_keyed}
use Rattle.journal_controls.proofs.Refusing.{first_some, refused, refused_fold, refused_leave, refused_notes}
use Rattle.journal_controls.proofs.TakingLines.{answer_where, asked, keyed_answer, moved_more, received_by_lines}
use Rattle.journal_controls.proofs.TurnMoves.{left_answers, turn_moves}
use Rattle.journal_controls.proofs.AtCentral.{moved_alike}

-- more happened to a link, and the lines of it move the end to that of the link
pub record MovesTo (side : Side) (number : ℕ) (withheld : Withheld) (response : Response) (slot : ℕ) (base after : OpenLink) (from : Keyed) : Type 0 where
  pub setup_is : after.setup ≡ base.setup
  pub steps : List Step
  pub past_is : after.past ≡ base.past ++ steps
  pub moves : moved_by withheld response slot (map (line_of side number) (notes_from base.setup (facts_in base) steps)) from ≡ keyed_of (facts_in after)

-- so it is of the link that was under a handle
pub record HasMoved (side : Side) (number : ℕ) (withheld : Withheld) (response : Response) (slot : ℕ) (links : Links) (handle : ℕ) (after : OpenLink) : Type 0 where
  pub base : OpenLink
  pub was : link_at handle links ≡ Some base
  pub is : MovesTo side number withheld response slot base after (keyed_of (facts_in base))

module _ (side : Side) (number : ℕ) (withheld : Withheld) (response : Response) (slot : ℕ) where
  pub same_moves : (link : OpenLink) → MovesTo side number withheld response slot link link (keyed_of (facts_in link))
  same_moves link = record { setup_is = refl; steps = []; past_is = sym (append-nil link.past); moves = refl }

  -- ---- a turn ends

  reported_moves : (link : OpenLink) → MovesTo side number withheld response slot link (link_reported link) (keyed_of (facts_in link))
  reported_moves link = by (nat_lt 0 (complete_in link))
    where
      by : (reports : Bool) → MovesTo side number withheld response slot link (if reports then link_after DataReported link else link) (keyed_of (facts_in link))
      by true = record {
        setup_is = refl;
        steps = DataReported ∷ [];
        past_is = refl;
        moves = sym (ap (λ (f : EndFacts). keyed_of f) (step_facts link DataReported));
      }
      by false = same_moves link

  pub end_moves : (setup : Setup) (facts : Facts) (handle : ℕ) (after : OpenLink) → link_at handle (facts_after setup facts TurnEnds).links ≡ Some after
      → HasMoved side number withheld response slot facts.links handle after
  end_moves setup facts handle after at =
      let has = ended_under setup facts handle after at in record {
        base = has.link;
        was = has.was;
        is = subst (λ l. MovesTo side number withheld response slot has.link l (keyed_of (facts_in has.link))) (sym has.is) (reported_moves has.link);
      }

  -- ---- a turn begins

  abbrev NoneIn : List Note → Type 0
  NoneIn notes = NoneRefuses side number withheld response slot notes

  done_none : (handle : ℕ) (kind : Option Kind) → NoneIn (done_notes handle kind)
  done_none handle None = tt
  done_none handle (Some kind) = ((λ k. refl), tt)

  began_none : (handle : ℕ) (kind : Option Kind) → NoneIn (began_notes handle kind)
  began_none handle None = tt
  began_none handle (Some kind) = ((λ k. refl), tt)

  applied_none : (handle event : ℕ) (applied : Option ℕ) → NoneIn (applied_notes handle event applied)
  applied_none handle event None = tt
  applied_none handle event (Some change) = ((λ k. refl), tt)

  event_none : (goes : Bool) (handle : ℕ) (event : ConnectionEvent) (entry : Entry) → NoneIn (if goes then event_notes handle event entry else [])
  event_none false handle event entry = tt
  event_none true handle event entry =
      let applied = applied_notes handle event.number entry.applied in
      let enter = Enter handle (record { 0 = event.number }) event.channel ∷ [] in
      let done = done_notes handle entry.done in
      refuse_both side number withheld response slot ((applied ++ enter) ++ done) (began_notes handle entry.began)
      (refuse_both side number withheld response slot (applied ++ enter) done
      (refuse_both side number withheld response slot applied enter (applied_none handle event.number entry.applied) ((λ k. refl), tt)) (done_none handle entry.done))
      (began_none handle entry.began)

  sent_none : (noted : Bool) (handle count : ℕ) (pdu : Pdu) → NoneIn (sent_notes_if noted handle count pdu)
  sent_none true handle count pdu = ((λ k. refl), tt)
  sent_none false handle count pdu = tt

  pub sending_none : (sends : Bool) (now : ℕ) (setup : EndSetup) (facts : EndFacts) → NoneIn (notes_from setup facts (first_if sends (PacketSent now) []))
  sending_none true now setup facts = refuse_both side number withheld response slot (notes_after setup facts (PacketSent now)) [] (sent_none _ setup.link.handle _ _) tt
  sending_none false now setup facts = tt

  fixing_none : (fixes sends : Bool) (now : ℕ) (setup : EndSetup) (facts : EndFacts)
      → NoneIn (notes_from setup facts (first_if fixes PduFixed (first_if sends (PacketSent now) [])))
  fixing_none true sends now setup facts = sending_none sends now setup (end_after setup facts PduFixed)
  fixing_none false sends now setup facts = sending_none sends now setup facts

  begun_none : (enters fixes sends : Bool) (now : ℕ) (setup : EndSetup) (facts : EndFacts) → NoneIn (notes_from setup facts (steps_begun enters fixes sends now))
  begun_none true fixes sends now setup facts =
      refuse_both side number withheld response slot (notes_after setup facts (EventEntered now)) _
      (event_none (goes_on facts) setup.link.handle (facts_entered setup now facts).event (entry_of now (is_quiet_now facts) (held_of facts.control)))
      (fixing_none fixes sends now setup (end_after setup facts (EventEntered now)))
  begun_none false fixes sends now setup facts = fixing_none fixes sends now setup facts

  pub begin_moves : (setup : Setup) (facts : Facts) (on : Bool) (handle : ℕ) (after : OpenLink) → link_at handle (facts_after setup facts (TurnBegins slot on)).links ≡ Some after
      → (sends_under handle (facts_after setup facts (TurnBegins slot on)).turn.doing ≡ true → after.setup.link.role ≡ Central)
      → HasMoved side number withheld response slot facts.links handle after
  begin_moves setup facts on handle after at central =
      let has = turn_begun_under setup facts slot on handle after at in
      let doing = (facts_after setup facts (TurnBegins slot on)).turn.doing in
      let base = has.link in
      let enters = enters_in slot base in
      let fixes = fixes_under handle doing in
      let sends = sends_under handle doing in
      let steps = steps_begun enters fixes sends slot in
      let past = has.past_is ∙ begun_past slot handle doing base in record {
        base = base;
        was = has.was;
        is = record {
          setup_is = has.setup_is;
          steps = steps;
          past_is = past;
          moves = moved_noted side number withheld response slot base.setup.link.role (notes_from base.setup (facts_in base) steps) (keyed_of (facts_in base))
              (past_keeps base.setup base.past) (begun_none enters fixes sends slot base.setup (facts_in base))
              ∙ sym (turn_moves side number response slot base.setup base.past enters fixes sends (λ on_it. ap (λ (s : EndSetup). s.link.role) (sym has.setup_is) ∙ central on_it))
              ∙ sym (ap (λ (f : EndFacts). keyed_of f) (grown_facts base after steps has.setup_is past));
        };
      }

-- ---- a packet is taken

pub taken_past : (refusal : Option Step) (sends : Bool) (slot : ℕ) (octets : List ℕ) (room : Bool) (base : OpenLink)
    → (sent_if sends slot (refused_if refusal (link_after (PacketReceived slot octets room) base))).past
    ≡ base.past ++ PacketReceived slot octets room ∷ first_some refusal (first_if sends (PacketSent slot) [])
taken_past (Some step) true slot octets room base =
    append_assoc (base.past ++ PacketReceived slot octets room ∷ []) (step ∷ []) (PacketSent slot ∷ [])
    ∙ append_assoc base.past (PacketReceived slot octets room ∷ []) (step ∷ PacketSent slot ∷ [])
taken_past (Some step) false slot octets room base = append_assoc base.past (PacketReceived slot octets room ∷ []) (step ∷ [])
taken_past None true slot octets room base = append_assoc base.past (PacketReceived slot octets room ∷ []) (PacketSent slot ∷ [])
taken_past None false slot octets room base = refl

pub taken_setup : (refusal : Option Step) (sends : Bool) (slot : ℕ) (taken : OpenLink) → (sent_if sends slot (refused_if refusal taken)).setup ≡ taken.setup
taken_setup (Some step) true slot taken = refl
taken_setup (Some step) false slot taken = refl
taken_setup None true slot taken = refl
taken_setup None false slot taken = refl

replier : (role : Role) (ended : Bool) (pdu : Option (List ℕ)) → replies_by role ended pdu ≡ true → role ≡ Peripheral
replier Central ended pdu is = absurd cc
replier Peripheral ended pdu is = refl

module _ (side : Side) (number : ℕ) (facts : Facts) (handle : ℕ) (room : Bool) (octets pdu : List ℕ) (base : OpenLink)
    (good : good_pdu base.setup (facts_in base) octets ≡ Some pdu) where
  abbrev slot : ℕ
  slot = facts.turn.slot

  abbrev setup : EndSetup
  setup = base.setup

  abbrev end : EndFacts
  end = facts_in base

  abbrev withheld : Withheld
  withheld = withheld_by (view_masks facts.view)

  abbrev response : Response
  response = end.encryption.response

  abbrev took : Step
  took = PacketReceived slot octets room

  abbrev now : EndFacts
  now = end_after setup end took

  abbrev moved : List Note → Keyed → Keyed
  moved notes k = moved_by withheld response slot (map (line_of side number) notes) k

  abbrev sending : Bool → List Step
  sending sends = first_if sends (PacketSent slot) []

  -- by the steps that follow
  abbrev later : Option Step → Bool → List Step
  later refusal sends = first_some refusal (sending sends)

  now_keeps : KeepsRole setup.link.role (keyed_of now)
  now_keeps = subst (λ (f : EndFacts). KeepsRole setup.link.role (keyed_of f)) (step_facts base took) (past_keeps setup (base.past ++ took ∷ []))

  now_phase : now.encryption.end.phase ≡ now.encryption.phase
  now_phase = subst (λ (f : EndFacts). f.encryption.end.phase ≡ f.encryption.phase) (step_facts base took) (past_in_phase setup (base.past ++ took ∷ []))

  abbrev from : Keyed
  from = keyed_hearing setup.link.role slot (Some pdu) end

  -- what the PDU does, and the answer at once to a request in it
  first_moves : (refusal : Option Step) → refusal_at handle room octets facts base ≡ refusal
      → moved (notes_after setup end took) from ≡ keyed_by_all (does_some (keyed_answer refusal)) (keyed_of now)
  first_moves refusal is =
      let before = facts_before_taking setup.link.role slot (header_in pdu) end in
      let same : answer_where (accepts room (header_in pdu) (pdu_of pdu) before) (answer_by withheld response slot (keyed_of before) (pdu_of pdu)) ≡ keyed_answer refusal =
      sym (asked facts.view handle slot room setup end octets pdu good) ∙ ap keyed_answer is in
      ap (λ one. moved (received_notes setup slot room one end) from) good
      ∙ received_by_lines side number withheld slot room setup end pdu
      ∙ (λ i. keyed_by_all (does_some (same i)) (keyed_of (sym (received_is setup end slot octets pdu room good) i)))

  refusal_moves : (refusal : Option Step) → IfSome refusal IsRefusal → keyed_by_all (does_some (keyed_answer refusal)) (keyed_of now) ≡ keyed_of (refused setup now refusal)
  refusal_moves None is = refl
  refusal_moves (Some (RequestAnswered answer)) is = sym (one_step setup now (RequestAnswered answer) now_phase refl)
  refusal_moves (Some (KeyAnswered key at)) is = sym (one_step setup now (KeyAnswered key at) now_phase refl)
  refusal_moves (Some step) is = absurd is

  later_moves : (refusal : Option Step) (sends : Bool) → IfSome refusal IsRefusal → (sends ≡ true → setup.link.role ≡ Peripheral)
      → moved (notes_from setup now (later refusal sends)) (keyed_by_all (does_some (keyed_answer refusal)) (keyed_of now))
      ≡ keyed_of (fold (end_after setup) now (later refusal sends))
  later_moves refusal sends is peripheral =
      let next = refused setup now refusal in
      let moves = refusal_moves refusal is in
      let keeps = subst (KeepsRole setup.link.role) moves (role_stays setup.link.role (keyed_of now) (does_some (keyed_answer refusal)) now_keeps) in
      (λ i. moved (refused_notes setup now refusal (sending sends) is i) (moves i))
      ∙ moved_noted side number withheld response slot setup.link.role (notes_from setup next (sending sends)) (keyed_of next) keeps
      (sending_none side number withheld response slot sends slot setup next)
      ∙ sym (left_answers side number response slot setup next sends peripheral (λ yes. refused_leave setup now refusal is ∙ good_leave slot octets pdu room setup end (peripheral yes) good))
      ∙ ap (λ (f : EndFacts). keyed_of f) (sym (refused_fold setup now refusal (sending sends)))

  good_moves : (refusal : Option Step) (sends : Bool) → refusal_at handle room octets facts base ≡ refusal → IfSome refusal IsRefusal
      → (sends ≡ true → setup.link.role ≡ Peripheral)
      → moved (notes_from setup end (took ∷ later refusal sends)) from ≡ keyed_of (fold (end_after setup) end (took ∷ later refusal sends))
  good_moves refusal sends is asks peripheral =
      moved_more side number withheld response slot (notes_after setup end took) (notes_from setup now (later refusal sends)) from
      ∙ ap (moved (notes_from setup now (later refusal sends))) (first_moves refusal is)
      ∙ later_moves refusal sends asks peripheral

  -- a good packet that a link takes
  pub taken_moves : (sends : Bool) (after : OpenLink) → sends ≡ replies_of setup end slot octets room → after ≡ sent_if sends slot (base_receiving handle room octets facts base)
      → MovesTo side number withheld response slot base after (keyed_hearing setup.link.role slot (good_pdu setup end octets) end)
  unfolding replies_of
  taken_moves sends after replies is =
      let refusal = refusal_at handle room octets facts base in
      let taken = link_after took base in
      let same = ap (λ (l : OpenLink). l.setup) is ∙ taken_setup refusal sends slot taken in
      let past = ap (λ (l : OpenLink). l.past) is ∙ taken_past refusal sends slot octets room base in
      let replier_is = λ (on_it : sends ≡ true). replier setup.link.role (has_ended (facts_received setup.link.role slot room (good_pdu setup end octets) end)) (good_pdu setup end octets) (sym replies ∙ on_it) in
      record {
        setup_is = same;
        steps = took ∷ later refusal sends;
        past_is = past;
        moves = ap (λ one. moved (notes_from setup end (took ∷ later refusal sends)) (keyed_hearing setup.link.role slot one end)) good
            ∙ good_moves refusal sends refl (refusal_is handle room octets facts base) replier_is
            ∙ sym (ap (λ (f : EndFacts). keyed_of f) (grown_facts base after (took ∷ later refusal sends) same past));
      }

-- a forged packet ends the link
module _ (side : Side) (number : ℕ) (withheld : Withheld) (response : Response) (facts : Facts) (handle : ℕ) (room : Bool) (octets : List ℕ) (base : OpenLink)
    (forged : verdict_of base.setup (facts_in base) octets ≡ Forged) where
  abbrev heard_at : ℕ
  heard_at = facts.turn.slot

  abbrev forging : Step
  forging = PacketReceived heard_at octets room

  forged_kept : kept_effect_of base.setup (facts_in base) heard_at octets room ≡ Nothing
  unfolding kept_effect_of
  forged_kept =
      ap (λ pdu. kept_effect_received base.setup.link.role heard_at room pdu (facts_in base))
      (forged_none base.setup (facts_in base) octets (forged_is base.setup (facts_in base) octets forged))

  -- it asks nothing of the host, and there is no answer
  forged_unasked : refusal_at handle room octets facts base ≡ None
  forged_unasked =
      λ i. or_refusal (refusal_of facts.view handle heard_at (forged_effect base.setup (facts_in base) heard_at octets room forged i))
      (refusal_of facts.view handle heard_at (forged_kept i))

  -- so only that happened to it
  pub forged_after : (sends : Bool) (after : OpenLink) → sends ≡ replies_of base.setup (facts_in base) heard_at octets room
      → after ≡ sent_if sends heard_at (base_receiving handle room octets facts base) → after ≡ link_after forging base
  forged_after sends after replies is =
      is ∙ (λ i. sent_if (replies i) heard_at (refused_if (forged_unasked i) (link_after forging base)))
      ∙ ap (λ b. sent_if b heard_at (link_after forging base)) (forged_reply base.setup (facts_in base) heard_at octets room forged)

  pub forged_taken : (sends : Bool) (after : OpenLink) → sends ≡ replies_of base.setup (facts_in base) heard_at octets room
      → after ≡ sent_if sends heard_at (base_receiving handle room octets facts base)
      → MovesTo side number withheld response heard_at base after (keyed_forged (keyed_of (facts_in base)))
  forged_taken sends after replies is =
      let after_is = forged_after sends after replies is in record {
        setup_is = ap (λ (l : OpenLink). l.setup) after_is;
        steps = forging ∷ [];
        past_is = ap (λ (l : OpenLink). l.past) after_is;
        moves = ap (λ notes. moved_by withheld response heard_at (map (line_of side number) (notes ++ [])) (keyed_forged (keyed_of (facts_in base))))
            (forged_notes base.setup (facts_in base) heard_at octets room forged)
            ∙ sym (ap (λ (f : EndFacts). keyed_of f)
            (ap (λ (l : OpenLink). facts_in l) after_is ∙ step_facts base forging ∙ forged_facts base.setup (facts_in base) heard_at octets room forged));
      }

-- ---- with the words that it was given before

module _ (side : Side) (number : ℕ) (withheld : Withheld) (slot : ℕ) where
  given_moves : (response : Response) (skd_s iv_s : ℕ) (link after : OpenLink) (from : Keyed)
      → MovesTo side number withheld response slot (link_after (WordsGiven skd_s iv_s) link) after from → MovesTo side number withheld response slot link after from
  given_moves response skd_s iv_s link after from is =
      let step = WordsGiven skd_s iv_s in record {
        setup_is = is.setup_is;
        steps = step ∷ is.steps;
        past_is = is.past_is ∙ append_assoc link.past (step ∷ []) is.steps;
        moves = ap (λ (f : EndFacts). moved_by withheld response slot (map (line_of side number) (notes_from link.setup f is.steps)) from) (sym (step_facts link step))
            ∙ is.moves;
      }

  pub worded_moves : (response : Response) (setup : Setup) (facts : Facts) (doing : Doing) (link after : OpenLink) (from : Keyed)
      → MovesTo side number withheld response slot (link_worded setup facts doing link) after from → MovesTo side number withheld response slot link after from
  worded_moves response setup facts (PeripheralListens handle) link after from is = given_moves response _ _ link after from is
  worded_moves response setup facts doing link after from is = is

  -- what a central would draw changes nothing
  pub redrawn : (one other : Response) (base after : OpenLink) (from : Keyed) → KeepsRole base.setup.link.role from → (base.setup.link.role ≡ Peripheral → one ≡ other)
      → MovesTo side number withheld one slot base after from → MovesTo side number withheld other slot base after from
  redrawn one other base after from keeps same is = record {
    setup_is = is.setup_is;
    steps = is.steps;
    past_is = is.past_is;
    moves = by base.setup.link.role refl ∙ is.moves;
  }
    where
      by : (role : Role) → base.setup.link.role ≡ role
          → moved_by withheld other slot (map (line_of side number) (notes_from base.setup (facts_in base) is.steps)) from
          ≡ moved_by withheld one slot (map (line_of side number) (notes_from base.setup (facts_in base) is.steps)) from
      by Central central =
          moved_alike withheld other one slot (map (line_of side number) (notes_from base.setup (facts_in base) is.steps)) from (subst (λ r. KeepsRole r from) central keeps)
      by Peripheral peripheral =
          ap (λ response. moved_by withheld response slot (map (line_of side number) (notes_from base.setup (facts_in base) is.steps)) from) (sym (same peripheral))

-- as a packet reaches it, it is as it would be without them
gone_still : (goes : Bool) (slot : ℕ) (facts : EndFacts) (response : Response)
    → keyed_of (control_gone_if goes slot (with_response response facts)) ≡ keyed_of (control_gone_if goes slot facts)
gone_still true slot facts response = refl
gone_still false slot facts response = refl

pub hearing_still : (role : Role) (slot : ℕ) (pdu : Option (List ℕ)) (facts : EndFacts) (response : Response)
    → keyed_hearing role slot pdu (with_response response facts) ≡ keyed_hearing role slot pdu facts
hearing_still role slot None facts response = refl
hearing_still Central slot (Some pdu) facts response = refl
hearing_still Peripheral slot (Some pdu) facts response =
    let header = header_in pdu in
    let own = acknowledged_if (has_acknowledged facts header) (heard_in_slot slot header.md facts) in
    gone_still (takes_leave own) slot own response

pub worded_hearing : (link base : OpenLink) → IsWordedAs link base → (slot : ℕ) (octets : List ℕ)
    → keyed_hearing base.setup.link.role slot (good_pdu base.setup (facts_in base) octets) (facts_in base)
    ≡ keyed_hearing link.setup.link.role slot (good_pdu link.setup (facts_in link) octets) (facts_in link)
worded_hearing link base is slot octets =
    (λ i. keyed_hearing (is.setup_is i).link.role slot (worded_good link base is octets i) (is.facts_is i))
    ∙ hearing_still link.setup.link.role slot (good_pdu link.setup (facts_in link) octets) (facts_in link) is.response

-- a packet that a link takes is good or forged
module _ (side : Side) (number : ℕ) (facts : Facts) (handle : ℕ) (room : Bool) (octets : List ℕ) (link base : OpenLink) (words : IsWordedAs link base) where
  abbrev IsMovedFrom : OpenLink → Keyed → Type 0
  IsMovedFrom after k =
      MovesTo side number (withheld_by (view_masks facts.view)) (facts_in base).encryption.response facts.turn.slot base after k

  pub taken_as : (sends : Bool) (after : OpenLink) → sends ≡ replies_of base.setup (facts_in base) facts.turn.slot octets room
      → after ≡ sent_if sends facts.turn.slot (base_receiving handle room octets facts base)
      → (verdict : Verdict) → verdict_of link.setup (facts_in link) octets ≡ verdict → is_handed verdict ≡ true
      → IsMovedFrom after (keyed_if true facts.turn.slot octets link)
  taken_as sends after replies is Good judged handed =
      let slot = facts.turn.slot in
      let has = good_has link.setup (facts_in link) octets (ap is_good judged) in
      subst (IsMovedFrom after)
      (worded_hearing link base words slot octets ∙ (λ i. keyed_hearing link.setup.link.role slot (has.is i) (facts_in link)) ∙ sym (good_keyed slot octets has.pdu link has.is))
      (taken_moves side number facts handle room octets has.pdu base (worded_good link base words octets ∙ has.is) sends after replies is)
  taken_as sends after replies is Forged judged handed =
      subst (IsMovedFrom after)
      (ap (λ (f : EndFacts). keyed_forged (keyed_of f)) words.facts_is ∙ sym (forged_keyed facts.turn.slot octets link judged))
      (forged_taken side number (withheld_by (view_masks facts.view)) (facts_in base).encryption.response facts handle room octets base
      (worded_verdict link base words octets ∙ judged) sends after replies is)
  taken_as sends after replies is Missed judged handed = absurd cc
  taken_as sends after replies is Broken judged handed = absurd cc
