-- Whether an end has ended its link, as it takes a PDU: by its lines up to that of the PDU, and by what it holds then.
use Rattle.std.proofs.Common.{◌≡◌, ℕ, ◌+◌, ◌&&◌, not, Bool, true, false, Option, Some, None, List, [], ◌∷◌, ◌++◌, map, is_none, refl, sym, ap, subst, ◌∙◌, append-nil, if◌then◌else◌}
use Rattle.std.specs.Prelude.{◌||◌, Result}
use Rattle.std.specs.List.{AllByRecursion}
use Rattle.ble_base.specs.ErrorCodes.{pin_or_key_missing}
use Rattle.ble_base.specs.declared.error_codes.ErrCode.{ErrCode}
use Rattle.ble_base.specs.declared.notes.Note.{Note}
use Rattle.ble_base.specs.declared.notes.Note.TheVariants.{Done, Refused, Took, Up}
use Rattle.ble_base.specs.declared.procedure_kinds.Kind.{Kind}
use Rattle.ble_base.specs.declared.roles.Side.{Side}
use Rattle.data_pdu.specs.Header.{header_in}
use Rattle.data_pdu.specs.declared.ctrl.Ctrl.{Ctrl}
use Rattle.data_pdu.specs.declared.ctrl.Ctrl.TheVariants.{EncReq, RejectExtInd, TerminateInd}
use Rattle.journal.specs.declared.entries.Entry.{Entry}
use Rattle.journal.specs.declared.entries.Entry.TheVariants.{Took as TookLine}
use Rattle.journal_wants.specs.journal_controls.KeyedLines.{Accepts, Does, Forges, LineStep, answer_by, does_some, given_by, keyed_by, keyed_by_all, steps_taking}
use Rattle.journal_wants.specs.journal_controls.LineSteps.{steps_said}
use Rattle.journal_wants.specs.journal_controls.SaidLines.{moved_by}
use Rattle.journal_wants.specs.journal_controls.Withheld.{Withheld, answer_to, first_answer, key_answer, step_if, withheld_answer}
use Rattle.journal_wants.specs.journal_controls.link_model.Acknowledgement.{Pdu}
use Rattle.journal_wants.specs.journal_controls.link_model.Controls.{is_procedure_pdu}
use Rattle.journal_wants.specs.journal_controls.link_model.Data.{is_data, is_empty, numbered}
use Rattle.journal_wants.specs.journal_controls.link_model.Entering.{done_notes}
use Rattle.journal_wants.specs.journal_controls.link_model.Facts.{Facts, keyed_of}
use Rattle.journal_wants.specs.journal_controls.link_model.Hosts.{leaving_from_if}
use Rattle.journal_wants.specs.journal_controls.link_model.Receiving.{accepted_if, accepts, acked_kind, acks_control, code_of, data_taken_if, facts_before_taking, facts_hearing, given_if, given_notes, has_acknowledged, has_ended, kept_given_if, leaving_by, procedures_give, procedures_take_if, received_notes, refused_notes, took_notes_if}
use Rattle.journal_wants.specs.journal_controls.link_model.Setup.{Setup}
use Rattle.journal_wants.specs.journal_controls.link_model.Verdicts.{pdu_of}
use Rattle.journal_wants.specs.journal_controls.link_model.control_end.declared.answers.Taken.{Taken as TakenControl}
use Rattle.journal_wants.specs.journal_controls.link_model.control_model.Control.{Control, Step, Owes, Answers as control_answers, after, moved, table_if}
use Rattle.journal_wants.specs.journal_controls.link_model.declared.state.Leaving.{Leaving}
use Rattle.journal_wants.specs.journal_controls.link_model.enc_phase.Phases.{may_follow, phase_after}
use Rattle.journal_wants.specs.journal_controls.link_model.enc_phase.declared.facts.Transition.TheVariants.{Refuse}
use Rattle.journal_wants.specs.journal_controls.link_model.keyed_control.Keyed.{Keyed}
use Rattle.journal_wants.specs.journal_controls.link_model.keyed_control.KeyedSteps.{KeyedStep, Answers, LacksKey, keyed_after, keyed_moved, phased_step}
use Rattle.journal_wants.specs.journal_controls.link_model.keyed_control.declared.material.Response.{Response}
use Rattle.journal_wants.specs.journal_controls.link_model.phased_control.Phased.{Phased, is_open_now, key_lacking, refused_if, with_owed}
use Rattle.journal_wants.specs.journal_controls.link_model.phased_control.Taken.{PhasedStep, phased_moved}
use Rattle.journal_wants.specs.journal_controls.link_model.procedure_stages.InProgress.{is_host_asked}
use Rattle.journal_wants.specs.journal_controls.link_model.procedure_stages.Opcodes.{enc_req_opcode}
use Rattle.journal_wants.specs.journal_controls.link_model.procedure_stages.declared.steps.Effect.{Effect}
use Rattle.journal_wants.specs.journal_controls.link_model.procedure_stages.declared.steps.Effect.TheVariants.{AskHost, Cipher}
use Rattle.journal_wants.specs.journal_controls.link_model.procedure_values.declared.asks.Ask.{Ask}
use Rattle.journal_wants.specs.journal_controls.link_model.procedures.Going.{host_answer_step, is_answer}
use Rattle.journal_wants.specs.journal_controls.link_model.procedures.Table.{TableFacts}
use Rattle.journal_wants.specs.journal_acks.link_calls.Phases.{refusal}
use Rattle.journal_wants.specs.journal_links.LinkLines.{line_of}
use Rattle.journal_wants.specs.journal_sending.journal_leaving.Lacking.{ends_lacking, leaving_refusing}
use Rattle.journal_wants.specs.journal_sending.journal_leaving.Leaving.{leaving_given, leaving_saying}
use Rattle.journal_wants.specs.journal_sending.journal_leaving.Said.{leaving_said}
use Rattle.journal_wants.proofs.journal_leaving.journal_controls.TakingLines.{answer_where, moved_more, received_by_lines}
use Rattle.journal_wants.proofs.journal_leaving.link_model.KeyedPasts.{forged_over}
use Rattle.journal_wants.proofs.journal_leaving.link_model.phased_end.keyed_control.Phases.{after_one, phased_once}

-- by its lines
abbrev pub ended_by : Keyed → Leaving → Bool
ended_by k l = not (is_none k.phased.control.ends) || l.acknowledged

abbrev ends_of : Keyed → Option ErrCode
ends_of k = k.phased.control.ends

-- ---- one that has ended stays so

over_after : (step : KeyedStep) (k : Keyed) → is_none (ends_of k) ≡ false → (keyed_after step k).phased ≡ k.phased
over_after step k over = phased_once step k ∙ by (phased_step step)
  where
    by : (one : Option PhasedStep) → after_one one k.phased ≡ k.phased
    by None = refl
    by (Some one) = ap (λ b. if b then phased_moved one k.phased else k.phased) over

over_by : (step : LineStep) (k : Keyed) → is_none (ends_of k) ≡ false → is_none (ends_of (keyed_by step k)) ≡ false
over_by (Does step) k over = ap (λ (s : Phased). is_none s.control.ends) (over_after step k over) ∙ over
over_by Accepts k over = over
over_by Forges k over = forged_over k.phased.control

over_all : (steps : List LineStep) (k : Keyed) → is_none (ends_of k) ≡ false
    → is_none (ends_of (keyed_by_all steps k)) ≡ false
over_all [] k over = over
over_all (step ∷ steps) k over = over_all steps (keyed_by step k) (over_by step k over)

module _ (withheld : Withheld) (response : Response) (slot : ℕ) where
  over_said : (lines : List Entry) (k : Keyed) → is_none (ends_of k) ≡ false
      → is_none (ends_of (moved_by withheld response slot lines k)) ≡ false
  over_said [] k over = over
  over_said (line ∷ lines) k over =
      over_said lines (keyed_by_all (steps_said withheld response slot k line) k)
      (over_all (steps_said withheld response slot k line) k over)

  -- nor does a line say that LL_TERMINATE_IND is acknowledged
  from_acked : (leaves : Bool) (l : Leaving) → (leaving_from_if leaves slot l).acknowledged ≡ l.acknowledged
  from_acked true l = refl
  from_acked false l = refl

  refusing_acked : (k : Keyed) (answer : Option KeyedStep) (l : Leaving)
      → (leaving_refusing slot k answer l).acknowledged ≡ l.acknowledged
  refusing_acked k None l = refl
  refusing_acked k (Some LacksKey) l = from_acked (ends_lacking k) l
  refusing_acked k (Some step) l = refl

  given_acked : (procedure : Bool) (code : Option ErrCode) (l : Leaving)
      → (if procedure then leaving_by code l else l).acknowledged ≡ l.acknowledged
  given_acked true None l = refl
  given_acked true (Some code) l = refl
  given_acked false code l = refl

  saying_acked : (k : Keyed) (l : Leaving) (line : Entry)
      → (leaving_saying withheld response slot (Some k) l line).acknowledged ≡ l.acknowledged
  saying_acked k l (TookLine side link count llid body) =
      let pdu : Pdu = record { llid = llid; body = body } in
      refusing_acked (keyed_by_all (steps_taking response slot pdu) k) (answer_by withheld response slot k pdu)
      (leaving_given response slot pdu k l)
      ∙ given_acked (is_procedure_pdu pdu) (code_of (given_by response slot k pdu).taken.effect) l
  saying_acked k l line = refl

  pub said_acked : (lines : List Entry) (k : Keyed) (l : Leaving)
      → (leaving_said withheld response slot lines k l).acknowledged ≡ l.acknowledged
  said_acked [] k l = refl
  said_acked (line ∷ lines) k l =
      said_acked lines (keyed_by_all (steps_said withheld response slot k line) k)
      (leaving_saying withheld response slot (Some k) l line)
      ∙ saying_acked k l line

  pub stays_ended : (lines : List Entry) (k : Keyed) (l : Leaving) → ended_by k l ≡ true
      → ended_by (moved_by withheld response slot lines k) (leaving_said withheld response slot lines k l) ≡ true
  stays_ended lines k l ended = by (is_none (ends_of k)) refl ∙ ended
    where
      last : (one : Bool) → (one || true) ≡ true
      last true = refl
      last false = refl

      by : (none : Bool) → is_none (ends_of k) ≡ none
          → ended_by (moved_by withheld response slot lines k)
          (leaving_said withheld response slot lines k l) ≡ ended_by k l
      by false is =
          (λ i. not (over_said lines k is i) || (leaving_said withheld response slot lines k l).acknowledged)
          ∙ sym (ap (λ b. not b || l.acknowledged) is)
      by true is =
          let acked : l.acknowledged ≡ true = ap (λ b. not b || l.acknowledged) (sym is) ∙ ended in
          ap (λ b. not (is_none (ends_of (moved_by withheld response slot lines k))) || b)
          (said_acked lines k l ∙ acked)
          ∙ last (not (is_none (ends_of (moved_by withheld response slot lines k)))) ∙ sym ended

-- ---- an answer that is made at once ends nothing

abbrev KeepsEnds : Option KeyedStep → Type 0
KeepsEnds answer = (k : Keyed) → ends_of (keyed_by_all (does_some answer) k) ≡ ends_of k

none_ends : KeepsEnds None
none_ends = λ k. refl

after_ends : (step : Step) (c : Control) → (moved step c).ends ≡ c.ends → (after step c).ends ≡ c.ends
after_ends step c is = by (is_none c.ends)
  where
    by : (goes : Bool) → (if goes then moved step c else c).ends ≡ c.ends
    by true = is
    by false = refl

keyed_ends : (goes : Bool) (next k : Keyed) → ends_of next ≡ ends_of k
    → ends_of (if goes then next else k) ≡ ends_of k
keyed_ends true next k is = is
keyed_ends false next k is = refl

table_ends : (may : Bool) (table : TableFacts) (c : Control) → (table_if may table c).ends ≡ c.ends
table_ends true table c = refl
table_ends false table c = refl

-- to a request for parameters
answers_end : (answer : Result Ask ErrCode) → KeepsEnds (Some (Answers answer))
answers_end answer = λ k.
    let c = k.phased.control in
    keyed_ends (is_none c.ends) (keyed_moved (Answers answer) k) k
    (after_ends (control_answers answer) c
    (table_ends (is_host_asked c.table.progress && is_answer answer) (host_answer_step c.table answer) c))

-- to one for a key
owed_ends : (ctrl : Ctrl) (s : Phased) → (with_owed ctrl s).control.ends ≡ s.control.ends
owed_ends ctrl s = after_ends (Owes ctrl) s.control refl

refused_ends : (may : Bool) (s : Phased) → (refused_if may s).control.ends ≡ s.control.ends
refused_ends true s =
    owed_ends (RejectExtInd enc_req_opcode pin_or_key_missing)
    (record s { asks_key = false; phase = phase_after Refuse s.phase })
refused_ends false s = owed_ends (TerminateInd pin_or_key_missing) (record s { asks_key = false })

asked_ends : (asked : Bool) (next s : Phased) → next.control.ends ≡ s.control.ends
    → (if asked then next else s).control.ends ≡ s.control.ends
asked_ends true next s is = is
asked_ends false next s is = refl

lacks_end : KeepsEnds (Some LacksKey)
lacks_end = λ k.
    let s = k.phased in
    keyed_ends (is_none s.control.ends) (keyed_moved LacksKey k) k
    (asked_ends (s.asks_key && is_open_now s) (key_lacking s) s (refused_ends (may_follow Refuse s.phase) s))

step_ends : (is_withheld : Bool) (step : KeyedStep) → KeepsEnds (Some step) → KeepsEnds (step_if is_withheld step)
step_ends true step keeps = keeps
step_ends false step keeps = none_ends

key_ends : (withheld : Withheld) (ctrl : Ctrl) → KeepsEnds (key_answer withheld ctrl)
key_ends withheld (EncReq rand ediv skd_m iv_m) = step_ends withheld.key LacksKey lacks_end
key_ends withheld other = none_ends

effect_ends : (withheld : Withheld) (effect : Effect) → KeepsEnds (answer_to withheld effect)
effect_ends withheld (AskHost min max latency timeout) =
    step_ends withheld.parameters (Answers refusal) (answers_end refusal)
effect_ends withheld (Cipher ctrl) = key_ends withheld ctrl
effect_ends withheld other = none_ends

first_ends : (one other : Option KeyedStep) → KeepsEnds one → KeepsEnds other → KeepsEnds (first_answer one other)
first_ends None other keeps keeps_too = keeps_too
first_ends (Some step) other keeps keeps_too = keeps

answer_ends : (withheld : Withheld) (response : Response) (slot : ℕ) (k : Keyed) (pdu : Pdu)
    → KeepsEnds (answer_by withheld response slot k pdu)
answer_ends withheld response slot k pdu = by (is_procedure_pdu pdu)
  where
    by : (procedure : Bool)
        → KeepsEnds (if procedure then withheld_answer withheld (given_by response slot k pdu) else None)
    by true =
        let given = given_by response slot k pdu in
        first_ends (answer_to withheld given.taken.effect) (answer_to withheld given.kept.effect)
        (effect_ends withheld given.taken.effect) (effect_ends withheld given.kept.effect)
    by false = none_ends

where_ends : (accepted : Bool) (answer : Option KeyedStep) → KeepsEnds answer
    → KeepsEnds (answer_where accepted answer)
where_ends true answer keeps = keeps
where_ends false answer keeps = none_ends

-- ---- the notes of a packet that is heard: at most one says that a PDU is taken

-- a note of a procedure, under this handle
abbrev pub IsPlain : ℕ → Note → Type 0
IsPlain handle (Done other kind) = other ≡ handle
IsPlain handle (Refused other kind code) = other ≡ handle
IsPlain handle note = ⊥

abbrev pub ArePlain : ℕ → List Note → Type 0
ArePlain handle notes = AllByRecursion (IsPlain handle) notes

pub data IsTakenIn (handle : ℕ) (notes : List Note) : Type 0 where
  Untaken : ArePlain handle notes → IsTakenIn handle notes
  Taken : (earlier later : List Note) (count llid : ℕ) (body : List ℕ)
      → notes ≡ earlier ++ Took handle count llid (record { items = body }) ∷ later
      → ArePlain handle earlier → ArePlain handle later → IsTakenIn handle notes

plain_both : (handle : ℕ) (notes more : List Note) → ArePlain handle notes → ArePlain handle more
    → ArePlain handle (notes ++ more)
plain_both handle [] more here there = there
plain_both handle (note ∷ notes) more here there = (here.0, plain_both handle notes more here.1 there)

done_plain : (handle : ℕ) (kind : Option Kind) → ArePlain handle (done_notes handle kind)
done_plain handle None = tt
done_plain handle (Some kind) = (refl, tt)

refused_plain : (handle : ℕ) (refused : Option (Kind × ErrCode)) → ArePlain handle (refused_notes handle refused)
refused_plain handle None = tt
refused_plain handle (Some (kind, code)) = (refl, tt)

given_plain : (handle : ℕ) (given : TakenControl) → ArePlain handle (given_notes handle given)
given_plain handle given =
    plain_both handle (refused_notes handle given.refused) (done_notes handle given.done)
    (refused_plain handle given.refused) (done_plain handle given.done)

pub taken_in : (setup : Setup) (slot : ℕ) (room : Bool) (octets : List ℕ) (facts : Facts)
    → IsTakenIn setup.link.handle (received_notes setup slot room (Some octets) facts)
taken_in setup slot room octets facts = by (accepted && not (is_empty pdu)) refl
  where
    handle : ℕ
    handle = setup.link.handle

    pdu : Pdu
    pdu = pdu_of octets

    now : Facts
    now = facts_before_taking setup.link.role slot (header_in octets) facts

    accepted : Bool
    accepted = accepts room (header_in octets) pdu now

    earlier : List Note
    earlier = done_notes handle (acked_kind (acks_control (has_acknowledged facts (header_in octets)) facts) facts)

    given : TakenControl
    given = given_if (accepted && is_procedure_pdu pdu) pdu slot now

    kept : TakenControl
    kept = kept_given_if (accepted && is_procedure_pdu pdu) pdu slot now

    later : List Note
    later = given_notes handle given ++ given_notes handle kept

    later_plain : ArePlain handle later
    later_plain =
        plain_both handle (given_notes handle given) (given_notes handle kept) (given_plain handle given)
        (given_plain handle kept)

    by : (noted : Bool) → (accepted && not (is_empty pdu)) ≡ noted
        → IsTakenIn handle (received_notes setup slot room (Some octets) facts)
    by true is =
        Taken earlier later (numbered now.acknowledgement.accepted + 1) pdu.llid pdu.body
        (λ i. earlier ++ (took_notes_if (is i) handle pdu now ++ later))
        (done_plain handle _) later_plain
    by false is =
        Untaken (subst (λ noted. ArePlain handle (earlier ++ (took_notes_if noted handle pdu now ++ later))) (sym is)
        (plain_both handle earlier later (done_plain handle _) later_plain))

-- ---- by the lines up to that note, and after them

module _ (side : Side) (number handle : ℕ) (withheld : Withheld) (response : Response) (slot : ℕ) where
  abbrev moved_on : List Note → Keyed → Keyed
  moved_on notes k = moved_by withheld response slot (map (line_of side number) notes) k

  plain_moves : (notes : List Note) (k : Keyed) → ArePlain handle notes → moved_on notes k ≡ k
  plain_moves [] k plain = refl
  plain_moves (Done other kind ∷ notes) k plain = plain_moves notes k plain.1
  plain_moves (Refused other kind code ∷ notes) k plain = plain_moves notes k plain.1
  plain_moves (Up packet ∷ notes) k plain = absurd plain.0
  plain_moves (note ∷ notes) k plain = absurd plain.0

-- an end that takes a packet, by its lines up to that of the PDU
module _ (side : Side) (number handle : ℕ) (withheld : Withheld) (slot : ℕ) (room : Bool) (setup : Setup)
    (facts : Facts) (octets : List ℕ) where
  abbrev response : Response
  response = facts.encryption.response

  abbrev before : Facts
  before = facts_before_taking setup.link.role slot (header_in octets) facts

  abbrev heard : Facts
  heard = facts_hearing setup.link.role slot room (header_in octets) (pdu_of octets) facts

  abbrev moves : List Note → Keyed
  moves notes = moved_on side number handle withheld response slot notes (keyed_of before)

  abbrev leaves : List Note → Leaving
  leaves notes = leaving_said withheld response slot (map (line_of side number) notes)
      (keyed_of before) before.leaving

  data_acked : (takes : Bool) (now : Facts)
      → (data_taken_if takes now).leaving.acknowledged ≡ now.leaving.acknowledged
  data_acked true now = refl
  data_acked false now = refl

  code_acked : (code : Option ErrCode) (l : Leaving) → (leaving_by code l).acknowledged ≡ l.acknowledged
  code_acked None l = refl
  code_acked (Some code) l = refl

  taking_acked : (takes : Bool) (now : Facts)
      → (procedures_take_if takes (pdu_of octets) slot now).leaving.acknowledged ≡ now.leaving.acknowledged
  taking_acked true now = code_acked (code_of (procedures_give (pdu_of octets) slot now).effect) now.leaving
  taking_acked false now = refl

  heard_acked : heard.leaving.acknowledged ≡ before.leaving.acknowledged
  heard_acked =
      let pdu = pdu_of octets in
      let accepted = accepts room (header_in octets) pdu before in
      let opened = accepted_if accepted pdu before in
      data_acked (accepted && is_data pdu) (procedures_take_if (accepted && is_procedure_pdu pdu) pdu slot opened)
      ∙ taking_acked (accepted && is_procedure_pdu pdu) opened

  heard_ends : ends_of (moves (received_notes setup slot room (Some octets) facts)) ≡ heard.control.ends
  heard_ends =
      let pdu = pdu_of octets in
      let accepted = accepts room (header_in octets) pdu before in
      let answer = answer_by withheld response slot (keyed_of before) pdu in
      ap ends_of (received_by_lines side number withheld slot room setup facts octets)
      ∙ where_ends accepted answer (answer_ends withheld response slot (keyed_of before) pdu) (keyed_of heard)

  pub ended_in : (notes later : List Note) → received_notes setup slot room (Some octets) facts ≡ notes ++ later
      → ArePlain handle later
      → ended_by (moves notes) (leaves notes) ≡ has_ended heard
  ended_in notes later are plain =
      let ends : ends_of (moves notes) ≡ heard.control.ends =
      sym (ap ends_of (plain_moves side number handle withheld response slot later (moves notes) plain))
      ∙ sym (ap ends_of
      (ap (λ all. moves all) are ∙ moved_more side number withheld response slot notes later (keyed_of before)))
      ∙ heard_ends in
      let acked : (leaves notes).acknowledged ≡ heard.leaving.acknowledged =
      said_acked withheld response slot (map (line_of side number) notes) (keyed_of before) before.leaving
      ∙ sym heard_acked in
      λ i. not (is_none (ends i)) || acked i

  -- one that had ended before is one that has ended
  pub ended_then : ended_by (keyed_of before) before.leaving ≡ true → has_ended heard ≡ true
  ended_then ended =
      let notes = received_notes setup slot room (Some octets) facts in
      sym (ended_in notes [] (sym (append-nil notes)) tt)
      ∙ stays_ended withheld response slot (map (line_of side number) notes) (keyed_of before) before.leaving ended
