-- While a side goes on sealing, its key stays, and each PDU that it seals has a higher counter.
use Rattle.std.proofs.Common.{◌≡◌, ℕ, ◌+◌, ◌<◌, ◌-◌, ◌≤◌, ◌==◌, ◌&&◌, ◌||◌, not, Bool, true, false, Option, Some, None, is_none, List, [], ◌∷◌, ◌++◌, length, map, refl, sym, ap, subst, ◌∙◌, append-nil, append_assoc, arith, if◌then◌else◌}
use Rattle.std.specs.List.{AllByRecursion, flat_map}
use Rattle.std.proofs.lemmas.Bool.{eqb-true}
use Rattle.ble_base.specs.Side.{other_side}
use Rattle.ble_base.specs.declared.roles.Side.{Side}
use Rattle.ble_base.specs.declared.roles.Side.TheVariants.{A, B}
use Rattle.ble_base.specs.declared.verdicts.Verdict.{Verdict}
use Rattle.ble_base.specs.declared.verdicts.Verdict.TheVariants.{Broken, Forged, Good, Missed}
use Rattle.data_pdu.specs.declared.ctrl.Ctrl.{Ctrl}
use Rattle.data_pdu.specs.declared.ctrl.Ctrl.TheVariants.{EncReq}
use Rattle.hci_cmd.specs.declared.command.Command.{Command}
use Rattle.journal.specs.declared.entries.Entry.{Entry}
use Rattle.journal.specs.declared.entries.Entry.TheVariants.{Air, Enter, Opened, Sent, Shut, Took, Turn}
use Rattle.journal_controls.specs.KeyedLines.{Accepts, Does, Forges, LineStep, answer_by, given_by, answering, does_if, does_some, has_next, keyed_by, keyed_by_all}
use Rattle.journal_controls.specs.LineSteps.{anchor_begun, answers_with, is_coming, is_more_acked, keyed_begun, keyed_in_line, keyed_on, moved_in_line, steps_asking, steps_said, steps_seen, steps_in_line, turn_now, withholds}
use Rattle.journal_controls.specs.Withheld.{Withheld, answer_to, first_answer, key_answer, step_if, withheld_answer}
use Rattle.journal_controls.specs.host_answers.Flows.{most_received_on}
use Rattle.journal_controls.specs.host_answers.Answered.{accepted_in}
use Rattle.journal_controls.specs.journal_acks.Carried.{carried_of}
use Rattle.journal_controls.specs.journal_acks.Exchange.{exchange_of}
use Rattle.journal_controls.specs.journal_acks.link_calls.Phases.{refusal}
use Rattle.journal_controls.specs.journal_ends.Answering.{answers_in_line}
use Rattle.journal_controls.specs.journal_ends.Asked.{Words, step_asked}
use Rattle.journal_controls.specs.journal_ends.Seen.{Asks as IsAsked, Hears, HearsForged, Says, Seen, asked_if, asked_in_line, heard_in_line, heard_where, is_heard_on, seen_in_line}
use Rattle.journal_controls.specs.journal_links.Begun.{LinkBegun, link_numbered}
use Rattle.journal_controls.specs.journal_links.Changes.{role_on}
use Rattle.journal_controls.specs.journal_links.LinkLines.{link_named, where_named}
use Rattle.journal_controls.specs.journal_packets.Belonging.{is_side}
use Rattle.journal_controls.specs.link_model.Acknowledgement.{Pdu}
use Rattle.journal_controls.specs.link_model.Controls.{is_procedure_pdu, read_of}
use Rattle.journal_controls.specs.link_model.Data.{is_control, is_data}
use Rattle.journal_controls.specs.link_model.Hosts.{key_step}
use Rattle.journal_controls.specs.link_model.Setup.{first_params}
use Rattle.journal_controls.specs.link_model.Step.{Step, Disconnected, KeyAnswered, ProcedureAsked, RequestAnswered}
use Rattle.journal_controls.specs.link_model.enc_phase.Phases.{is_asked, phase_after, seals}
use Rattle.journal_controls.specs.link_model.enc_phase.Sealing.{EncEnd, after_opening, after_sending, after_start, counter_in, is_right}
use Rattle.journal_controls.specs.link_model.enc_phase.declared.facts.Transition.TheVariants.{Confirm, Pause}
use Rattle.journal_controls.specs.link_model.keyed_control.Keyed.{Keyed, first_keyed, session_of}
use Rattle.journal_controls.specs.link_model.keyed_control.KeyedSteps.{KeyedStep, Answers, Asks, Disconnects, Enters, GivesKey, LacksKey, Opens, Seals, SeesAcknowledged, Sends, Takes, TakesData, end_changed, is_of_session, keyed_after, keyed_moved}
use Rattle.journal_controls.specs.link_model.keyed_control.declared.material.KeyMaterial.{KeyMaterial}
use Rattle.journal_controls.specs.link_model.keyed_control.declared.material.Response.{Response}
use Rattle.journal_controls.specs.link_model.phased_end.Taking.{drawn}
use Rattle.journal_controls.specs.link_model.procedure_stages.declared.steps.Effect.{Effect}
use Rattle.journal_controls.specs.link_model.procedure_stages.declared.steps.Effect.TheVariants.{AskHost, Cipher}
use Rattle.journal_controls.specs.link_model.phased_control.PhaseChanges.{Change, Moves, Starts, Stays, Took as TookPdu}
use Rattle.journal_controls.specs.link_model.phased_control.Taken.{role_now}
use Rattle.journal_controls.specs.run_model.Readers.{of_side, turns_of}
use Rattle.journal_controls.proofs.LineFolds.{IsNamed, Others, Own, keyed_more, named_by}
use Rattle.journal_sealing.specs.SealedLines.{says_sent}
use Rattle.journal_sealing.specs.Sessions.{GoesOnSealing, IsLaterInSession}
use Rattle.journal_sealing.proofs.SealedKeys.{was_sealing}

-- ---- a step that seals nothing

-- it leaves the session and the counter, or clears the counter
data KeepsOn (before after : EncEnd) : Type 0 where
  GoesOn : after.key ≡ before.key → after.iv ≡ before.iv → after.sent ≡ before.sent → KeepsOn before after
  Clears : after.sent ≡ 0 → KeepsOn before after

both_keep : (one two three : EncEnd) → KeepsOn one two → KeepsOn two three → KeepsOn one three
both_keep one two three (GoesOn key iv sent) (GoesOn key_too iv_too sent_too) = GoesOn (key_too ∙ key) (iv_too ∙ iv) (sent_too ∙ sent)
both_keep one two three (Clears none) (GoesOn key iv sent) = Clears (sent ∙ none)
both_keep one two three before (Clears none) = Clears none

moved_by_transition : (sealed : Bool) (before after : EncEnd) → after.key ≡ before.key → after.iv ≡ before.iv → after.sent ≡ counter_in sealed before.sent → KeepsOn before after
moved_by_transition true before after key iv sent = GoesOn key iv sent
moved_by_transition false before after key iv sent = Clears sent

started : (asked sealed : Bool) (e anew : EncEnd) → anew.sent ≡ counter_in sealed 0 → KeepsOn e (if asked then anew else e)
started true true e anew is = Clears is
started true false e anew is = Clears is
started false sealed e anew is = GoesOn refl refl refl

changed_keeps : (change : Change) (m : KeyMaterial) (e : EncEnd) → KeepsOn e (end_changed change m e)
changed_keeps Stays m e = GoesOn refl refl refl
changed_keeps (TookPdu pdu) m e = GoesOn refl refl refl
changed_keeps Starts m e = started (is_asked e.phase) (seals e.role (after_start (session_of m) e).phase) e (after_start (session_of m) e) refl
changed_keeps (Moves Confirm) m e = moved_by_transition (seals e.role (phase_after Confirm e.phase)) e (end_changed (Moves Confirm) m e) refl refl refl
changed_keeps (Moves Pause) m e = moved_by_transition (seals e.role (phase_after Pause e.phase)) e (end_changed (Moves Pause) m e) refl refl refl
changed_keeps (Moves transition) m e = Clears refl

abbrev seals_in : KeyedStep → Bool
seals_in (Seals header body) = true
seals_in other = false

opened_keeps : (right : Bool) (e : EncEnd) → KeepsOn e (if right then after_opening e else e)
opened_keeps true e = GoesOn refl refl refl
opened_keeps false e = GoesOn refl refl refl

moved_keeps : (step : KeyedStep) (k : Keyed) → seals_in step ≡ false → KeepsOn k.end (keyed_moved step k).end
moved_keeps (Seals header body) k none = absurd cc
moved_keeps (Opens header payload) k none = opened_keeps (is_right k.end header payload) k.end
moved_keeps (Enters slot) k none = changed_keeps _ _ k.end
moved_keeps (Asks ask) k none = GoesOn refl refl refl
moved_keeps (Answers answer) k none = GoesOn refl refl refl
moved_keeps (GivesKey ltk) k none = changed_keeps _ _ k.end
moved_keeps LacksKey k none = changed_keeps _ _ k.end
moved_keeps (Disconnects reason) k none = GoesOn refl refl refl
moved_keeps (Sends slot) k none = GoesOn refl refl refl
moved_keeps SeesAcknowledged k none = changed_keeps _ _ k.end
moved_keeps (Takes read slot response) k none = changed_keeps _ _ k.end
moved_keeps TakesData k none = GoesOn refl refl refl

after_keeps : (step : KeyedStep) (k : Keyed) → seals_in step ≡ false → KeepsOn k.end (keyed_after step k).end
after_keeps step k none = by (is_of_session step || is_none k.phased.control.ends)
  where
    by : (goes : Bool) → KeepsOn k.end (if goes then keyed_moved step k else k).end
    by true = moved_keeps step k none
    by false = GoesOn refl refl refl

-- ---- the steps of a line

abbrev seals_in_line : LineStep → Bool
seals_in_line (Does step) = seals_in step
seals_in_line Accepts = false
seals_in_line Forges = false

abbrev NoneSeals : List LineStep → Type 0
NoneSeals steps = AllByRecursion (λ step. seals_in_line step ≡ false) steps

line_keeps : (step : LineStep) (k : Keyed) → seals_in_line step ≡ false → KeepsOn k.end (keyed_by step k).end
line_keeps (Does step) k none = after_keeps step k none
line_keeps Accepts k none = GoesOn refl refl refl
line_keeps Forges k none = GoesOn refl refl refl

all_keep : (steps : List LineStep) (k : Keyed) → NoneSeals steps → KeepsOn k.end (keyed_by_all steps k).end
all_keep [] k none = GoesOn refl refl refl
all_keep (step ∷ steps) k none =
    both_keep k.end (keyed_by step k).end (keyed_by_all steps (keyed_by step k)).end (line_keeps step k none.0) (all_keep steps (keyed_by step k) none.1)

none_both : (steps more : List LineStep) → NoneSeals steps → NoneSeals more → NoneSeals (steps ++ more)
none_both [] more none none_too = none_too
none_both (step ∷ steps) more none none_too = (none.0, none_both steps more none.1 none_too)

none_flat : {X : Type 0} (f : X → List LineStep) (xs : List X) → AllByRecursion (λ x. NoneSeals (f x)) xs → NoneSeals (flat_map f xs)
none_flat f [] none = tt
none_flat f (x ∷ xs) none = none_both (f x) (flat_map f xs) none.0 (none_flat f xs none.1)

none_if : (is_made : Bool) (step : KeyedStep) → seals_in step ≡ false → NoneSeals (does_if is_made step)
none_if true step none = (none, tt)
none_if false step none = tt

key_none : (key : Option (List ℕ)) → seals_in (key_step key) ≡ false
key_none None = refl
key_none (Some ltk) = refl

answering_none : (step : Step) → NoneSeals (answering step)
answering_none (RequestAnswered answer) = (refl, tt)
answering_none (KeyAnswered key slot) = (key_none key, tt)
answering_none (ProcedureAsked ask) = tt
answering_none step = tt

-- an answer that no line says
abbrev NoneIfSome : Option KeyedStep → Type 0
NoneIfSome None = Unit {0}
NoneIfSome (Some step) = seals_in step ≡ false

some_none : (may : Option KeyedStep) → NoneIfSome may → NoneSeals (does_some may)
some_none None none = tt
some_none (Some step) none = (none, tt)

step_if_none : (withheld : Bool) (step : KeyedStep) → seals_in step ≡ false → NoneIfSome (step_if withheld step)
step_if_none true step none = none
step_if_none false step none = tt

key_answer_none : (withheld : Withheld) (ctrl : Ctrl) → NoneIfSome (key_answer withheld ctrl)
key_answer_none withheld (EncReq rand ediv skd_m iv_m) = step_if_none withheld.key LacksKey refl
key_answer_none withheld ctrl = tt

answer_none : (withheld : Withheld) (effect : Effect) → NoneIfSome (answer_to withheld effect)
answer_none withheld (AskHost min max latency timeout) = step_if_none withheld.parameters (Answers refusal) refl
answer_none withheld (Cipher ctrl) = key_answer_none withheld ctrl
answer_none withheld other = tt

first_none : (one other : Option KeyedStep) → NoneIfSome one → NoneIfSome other → NoneIfSome (first_answer one other)
first_none None other none none_too = none_too
first_none (Some step) other none none_too = none

refusing_none : (withheld : Withheld) (response : Response) (slot : ℕ) (k : Keyed) (pdu : Pdu) → NoneSeals (does_some (answer_by withheld response slot k pdu))
refusing_none withheld response slot k pdu = some_none (answer_by withheld response slot k pdu) (by (is_procedure_pdu pdu))
  where
    by : (is : Bool) → NoneIfSome (if is then withheld_answer withheld (given_by response slot k pdu) else None)
    by true =
        let given = given_by response slot k pdu in
        first_none (answer_to withheld given.taken.effect) (answer_to withheld given.kept.effect) (answer_none withheld given.taken.effect) (answer_none withheld given.kept.effect)
    by false = tt

-- ---- what is seen of an end, but for the line of a new PDU

abbrev is_sending : Entry → Bool
is_sending (Sent side link count llid body) = true
is_sending line = false

abbrev says_sending : Seen → Bool
says_sending (Says line) = is_sending line
says_sending (Hears slot octets) = false
says_sending HearsForged = false
says_sending (IsAsked step) = false

abbrev NoneSends : List Seen → Type 0
NoneSends seen = AllByRecursion (λ one. says_sending one ≡ false) seen

said_none : (withheld : Withheld) (response : Response) (slot : ℕ) (k : Keyed) (line : Entry) → is_sending line ≡ false → NoneSeals (steps_said withheld response slot k line)
said_none withheld response slot k (Sent side link count llid body) none = absurd cc
said_none withheld response slot k (Took side link count llid body) none =
    let pdu : Pdu = record { llid = llid; body = body } in
    none_both (Accepts ∷ does_if (is_procedure_pdu pdu) (Takes (read_of pdu) slot (drawn response)) ++ does_if (is_data pdu) TakesData)
    (does_some (answer_by withheld response slot k pdu)) (
      refl,
      none_both (does_if (is_procedure_pdu pdu) (Takes (read_of pdu) slot (drawn response))) (does_if (is_data pdu) TakesData)
          (none_if (is_procedure_pdu pdu) (Takes (read_of pdu) slot (drawn response)) refl) (none_if (is_data pdu) TakesData refl),
    )
    (refusing_none withheld response slot k pdu)
said_none withheld response slot k (Enter side link event channel) none = (refl, tt)
said_none withheld response slot k line none = tt

asking_none : (k : Keyed) (step : Step) → NoneSeals (steps_asking k step)
asking_none k (ProcedureAsked ask) = none_if (not (is_coming ask k.phased.control)) (Asks ask) refl
asking_none k (Disconnected reason slot) = (refl, tt)
asking_none k (RequestAnswered answer) = (refl, tt)
asking_none k (KeyAnswered key slot) = (key_none key, tt)
asking_none k step = tt

module _ (words : Words) (side : Side) (number : ℕ) (front : List Entry) (line : Entry) where
  seen_none : (k : Keyed) (seen : Seen) → says_sending seen ≡ false → NoneSeals (steps_seen words side number front line k seen)
  seen_none k (Says own) none = said_none (withholds side front) (words side front) (turn_now front) k own none
  seen_none k (Hears slot octets) none =
      let before = exchange_of number front side in
      let after = exchange_of number (front ++ line ∷ []) side in
      let last = carried_of number front side in
      none_both (does_if (is_more_acked before after && is_control last) SeesAcknowledged) (does_if (answers_with (role_now k.phased) (has_next k) after) (Sends slot))
      (none_if (is_more_acked before after && is_control last) SeesAcknowledged refl) (none_if (answers_with (role_now k.phased) (has_next k) after) (Sends slot) refl)
  seen_none k HearsForged none = (refl, tt)
  seen_none k (IsAsked step) none = asking_none k step

  all_seen_none : (k : Keyed) (seen : List Seen) → NoneSends seen → AllByRecursion (λ one. NoneSeals (steps_seen words side number front line k one)) seen
  all_seen_none k [] none = tt
  all_seen_none k (one ∷ seen) none = (seen_none k one none.0, all_seen_none k seen none.1)

  all_answers_none : (answers : List Step) → AllByRecursion (λ one. NoneSeals (answering one)) answers
  all_answers_none [] = tt
  all_answers_none (one ∷ answers) = (answering_none one, all_answers_none answers)

  moved_keeps_on : (k : Keyed) → NoneSends (seen_in_line words side number front line) → KeepsOn k.end (moved_in_line words side number front line k).end
  moved_keeps_on k none =
      let answers = answers_in_line words side number front line in
      let seen = seen_in_line words side number front line in
      all_keep (steps_in_line words side number front line k) k
      (none_both (flat_map answering answers) (flat_map (steps_seen words side number front line k) seen) (none_flat answering answers (all_answers_none answers))
      (none_flat (steps_seen words side number front line k) seen (all_seen_none k seen none)))

-- ---- a line that is not that of a new PDU of the end

both_quiet : (seen more : List Seen) → NoneSends seen → NoneSends more → NoneSends (seen ++ more)
both_quiet [] more none none_too = none_too
both_quiet (one ∷ seen) more none none_too = (none.0, both_quiet seen more none.1 none_too)

asked_quiet : (may : Option Step) → NoneSends (asked_if may)
asked_quiet None = tt
asked_quiet (Some (ProcedureAsked ask)) = (refl, tt)
asked_quiet (Some (Disconnected reason slot)) = (refl, tt)
asked_quiet (Some step) = tt

heard_quiet : (here : Bool) (verdict : Verdict) (slot : ℕ) (octets : List ℕ) → NoneSends (heard_where here verdict slot octets)
heard_quiet true Good slot octets = (refl, tt)
heard_quiet true Forged slot octets = (refl, tt)
heard_quiet true Missed slot octets = tt
heard_quiet true Broken slot octets = tt
heard_quiet false verdict slot octets = tt

not_named : (side other : Side) (same : Bool) (line : Entry) → (is_side other side && same) ≡ false → of_side side other (if same then line ∷ [] else []) ≡ []
not_named A A true line none = absurd cc
not_named A A false line none = refl
not_named A B same line none = refl
not_named B A same line none = refl
not_named B B true line none = absurd cc
not_named B B false line none = refl

named_quiet : (line : Entry) (named : List Entry) → IsNamed line named → is_sending line ≡ false → NoneSends (map Says named)
named_quiet line named (Own is) none = subst (λ lines. NoneSends (map Says lines)) (sym is) (none, tt)
named_quiet line named (Others is) none = subst (λ lines. NoneSends (map Says lines)) (sym is) tt

module _ (words : Words) (side : Side) (number : ℕ) (front : List Entry) where
  asked_all : (line : Entry) (commands : List Command) → NoneSends (flat_map (λ command. asked_if (step_asked words side number front command)) commands)
  asked_all line [] = tt
  asked_all line (command ∷ commands) =
      both_quiet (asked_if (step_asked words side number front command)) (flat_map (λ one. asked_if (step_asked words side number front one)) commands)
      (asked_quiet (step_asked words side number front command)) (asked_all line commands)

  heard_all : (line : Entry) → NoneSends (heard_in_line side number front line)
  heard_all (Air sender channel octets fate verdict) =
      heard_quiet (is_heard_on number front sender channel octets fate verdict && is_side sender (other_side side)) verdict (length (turns_of front) - 1) octets
  heard_all (Turn slot a b) = tt
  heard_all line = tt

  said_all : (line : Entry) → says_sent number side line ≡ false → NoneSends (map Says (where_named side number (link_named line) line))
  said_all (Sent other link count llid body) none =
      let line = Sent other link count llid body in
      subst (λ lines. NoneSends (map Says lines)) (sym (not_named side other (link == number) line none)) tt
  said_all (Turn slot a b) none = tt
  said_all line none = named_quiet line (where_named side number (link_named line) line) (named_by side number (link_named line) line) refl

  seen_all : (line : Entry) → says_sent number side line ≡ false → NoneSends (seen_in_line words side number front line)
  seen_all line none =
      let named = map Says (where_named side number (link_named line) line) in
      both_quiet (asked_in_line words side number front line) (heard_in_line side number front line ++ named) (asked_all line (accepted_in side front line))
      (both_quiet (heard_in_line side number front line) named (heard_all line) (said_all line none))

  -- ---- a line

  -- the key stays, and the counter does not fall
  record IsOnward (before after : Keyed) : Type 0 where
    key : after.end.key ≡ before.end.key
    iv : after.end.iv ≡ before.end.iv
    counter : before.end.sent ≤ after.end.sent

  onward : (k next : Keyed) → KeepsOn k.end next.end → 0 < next.end.sent → IsOnward k next
  onward k next (GoesOn key iv sent) some = record { key = key; iv = iv; counter = omega (arith, sent) }
  onward k next (Clears none) some = absurd (omega (arith, none, some))

  same_end : (one next : Keyed) → one ≡ next → 0 < next.end.sent → IsOnward one next
  same_end one next is some = onward one next (GoesOn (ap (λ (k : Keyed). k.end.key) (sym is)) (ap (λ (k : Keyed). k.end.iv) (sym is)) (ap (λ (k : Keyed). k.end.sent) (sym is))) some

  begun_clear : (found : Option LinkBegun) (next : Keyed) → keyed_begun (most_received_on side front) side found ≡ Some next → next.end.sent ≡ 0
  begun_clear None next is = absurd cc
  begun_clear (Some link) next is =
      let first = first_keyed (role_on link side) (most_received_on side front) (first_params link.fields) (anchor_begun link) in
      let same : first ≡ next = cc in
      ap (λ (k : Keyed). k.end.sent) (sym same)

  opens_or_shuts : (own : Bool) (now : Option Keyed) (k next : Keyed) → (now ≡ Some next → next.end.sent ≡ 0) → (if own then now else Some k) ≡ Some next
      → 0 < next.end.sent → IsOnward k next
  opens_or_shuts true now k next clear is some = let none = clear is in absurd (omega (arith, none, some))
  opens_or_shuts false now k next clear is some = let same : k ≡ next = cc in same_end k next same some

  shut_none : (next : Keyed) → None ≡ Some next → next.end.sent ≡ 0
  shut_none next is = absurd cc

  moved_on : (line : Entry) (k next : Keyed) → says_sent number side line ≡ false → Some (moved_in_line words side number front line k) ≡ Some next
      → 0 < next.end.sent → IsOnward k next
  moved_on line k next none is some =
      let same : moved_in_line words side number front line k ≡ next = cc in
      onward k next (subst (λ (one : Keyed). KeepsOn k.end one.end) same (moved_keeps_on words side number front line k (seen_all line none))) some

  other_line : (line : Entry) (k next : Keyed) → says_sent number side line ≡ false → keyed_in_line words side number front (Some k) line ≡ Some next
      → 0 < next.end.sent → IsOnward k next
  other_line (Opened other link handle role) k next none is some =
      opens_or_shuts (is_side other side && link == number) (keyed_begun (most_received_on side front) side (link_numbered number front)) k next (begun_clear (link_numbered number front) next) is some
  other_line (Shut other link reason) k next none is some = opens_or_shuts (is_side other side && link == number) None k next (shut_none next) is some
  other_line line k next none is some = moved_on line k next none is some

  more_sealed : (sealed : Bool) (count : ℕ) → count ≤ (if sealed then count + 1 else count)
  more_sealed true count = omega arith
  more_sealed false count = omega arith

  -- that of a new PDU of the end
  sent_line : (count llid : ℕ) (body : List ℕ) (k next : Keyed) → keyed_on words side number front ≡ Some k
      → keyed_on words side number (front ++ Sent side number count llid body ∷ []) ≡ Some next → next.end ≡ after_sending k.end
  sent_line count llid body k next before after =
      let was = was_sealing words side number front count llid body next after in
      let h : Some was.end ≡ Some k = sym was.is_end ∙ before in
      let same : was.end ≡ k = cc in
      was.sealed ∙ ap (λ (one : Keyed). after_sending one.end) same

  own_line : (count llid : ℕ) (body : List ℕ) (k next : Keyed) → keyed_on words side number front ≡ Some k
      → keyed_on words side number (front ++ Sent side number count llid body ∷ []) ≡ Some next → IsOnward k next
  own_line count llid body k next before after =
      let is = sent_line count llid body k next before after in
      let more = more_sealed (seals k.end.role k.end.phase) k.end.sent in
      let sent = ap (λ (e : EncEnd). e.sent) is in record {
        key = ap (λ (e : EncEnd). e.key) is;
        iv = ap (λ (e : EncEnd). e.iv) is;
        counter = omega (arith, more, sent);
      }

  one_side : (one other : Side) (same : Bool) → (is_side other one && same) ≡ true → (other ≡ one) × (same ≡ true)
  one_side A A true is = (refl, refl)
  one_side A A false is = absurd cc
  one_side A B same is = absurd cc
  one_side B A same is = absurd cc
  one_side B B true is = (refl, refl)
  one_side B B false is = absurd cc

  sending_line : (line : Entry) (k next : Keyed) → says_sent number side line ≡ true → keyed_on words side number front ≡ Some k
      → keyed_on words side number (front ++ line ∷ []) ≡ Some next → IsOnward k next
  sending_line (Sent other link count llid body) k next says before after =
      let own = one_side side other (link == number) says in
      own_line count llid body k next before
      ((λ i. keyed_on words side number (front ++ Sent (sym own.0 i) (sym (eqb-true link number own.1) i) count llid body ∷ [])) ∙ after)
  sending_line (Turn slot a b) k next says before after = absurd cc
  sending_line line k next says before after = absurd cc

  any_line : (line : Entry) (k next : Keyed) → keyed_on words side number front ≡ Some k → keyed_on words side number (front ++ line ∷ []) ≡ Some next
      → 0 < next.end.sent → IsOnward k next
  any_line line k next before after some = by (says_sent number side line) refl
    where
      by : (says : Bool) → says_sent number side line ≡ says → IsOnward k next
      by true says = sending_line line k next says before after
      by false none =
          other_line line k next none
          (ap (λ found. keyed_in_line words side number front found line) (sym before) ∙ sym (keyed_more words side number front line) ∙ after) some

-- ---- more lines

record IsThere (found : Option Keyed) : Type 0 where
  k : Keyed
  is : found ≡ Some k

there_is : (found : Option Keyed) → (found ≡ None → ⊥) → IsThere found
there_is None some = absurd (some refl)
there_is (Some k) some = record { k = k; is = refl }

module _ (words : Words) (side : Side) (number : ℕ) where
  later_goes : (front : List Entry) (line : Entry) (lines : List Entry) → GoesOnSealing words number side front (line ∷ lines)
      → GoesOnSealing words number side (front ++ line ∷ []) lines
  later_goes front line lines goes = λ some rest is.
      let there = goes (line ∷ some) rest (ap (λ (xs : List Entry). line ∷ xs) is) in
      let place = ap (keyed_on words side number) (sym (append_assoc front (line ∷ []) some)) in (
        λ none. there.0 (place ∙ none),
        λ k found. there.1 k (place ∙ found),
      )

  lines_go : (front lines : List Entry) (k last : Keyed) → keyed_on words side number front ≡ Some k → GoesOnSealing words number side front lines
      → keyed_on words side number (front ++ lines) ≡ Some last → IsOnward words side number front k last
  lines_go front [] k last before goes after =
      let h : Some k ≡ Some last = sym before ∙ ap (keyed_on words side number) (sym (append-nil front)) ∙ after in
      let same : k ≡ last = cc in
      same_end words side number front k last same ((goes [] [] refl).1 last after)
  lines_go front (line ∷ lines) k last before goes after =
      let next = front ++ line ∷ [] in
      let here = goes (line ∷ []) lines refl in
      let there = there_is (keyed_on words side number next) here.0 in
      let first = any_line words side number front line k there.k before there.is (here.1 there.k there.is) in
      let rest = lines_go next lines there.k last there.is (later_goes front line lines goes)
      (ap (keyed_on words side number) (append_assoc front (line ∷ []) lines) ∙ after) in
      let one = first.counter in
      let two = rest.counter in record {
        key = rest.key ∙ first.key;
        iv = rest.iv ∙ first.iv;
        counter = omega (arith, one, two);
      }

  -- after a PDU that the end seals
  pub later_in_session : (front more : List Entry) (count llid : ℕ) (body : List ℕ) (one later : Keyed) → keyed_on words side number front ≡ Some one
      → seals one.end.role one.end.phase ≡ true → GoesOnSealing words number side (front ++ Sent side number count llid body ∷ []) more
      → keyed_on words side number (front ++ Sent side number count llid body ∷ more) ≡ Some later → IsLaterInSession one later
  later_in_session front more count llid body one later before sealing goes after =
      let line = Sent side number count llid body in
      let next = front ++ line ∷ [] in
      let here = goes [] more refl in
      let at = ap (keyed_on words side number) (append-nil next) in
      let there = there_is (keyed_on words side number next) (λ none. here.0 (at ∙ none)) in
      let is = sent_line words side number front count llid body one there.k before there.is in
      let sent : there.k.end.sent ≡ one.end.sent + 1 = ap (λ (e : EncEnd). e.sent) is ∙ ap (λ b. if b then one.end.sent + 1 else one.end.sent) sealing in
      let rest = lines_go next more there.k later there.is goes (ap (keyed_on words side number) (append_assoc front (line ∷ []) more) ∙ after) in
      let two = rest.counter in record {
        key = rest.key ∙ ap (λ (e : EncEnd). e.key) is;
        iv = rest.iv ∙ ap (λ (e : EncEnd). e.iv) is;
        counter = omega (arith, sent, two);
      }
